-- A line with the text of an instruction is cut to one statement.
use Rattle.std.proofs.Common.{◌≡◌, ℕ, ◌^◌, ◌<◌, List, [], ◌∷◌, ◌++◌, Ok, sym, arith, subst, append_assoc}
use Rattle.mx_gen.proofs.ShownWords.{opcode_name, Cut, cuts_from, Fields, fields_of, field_code, shown_operands, operands_text, shown_fields, shown_line}
use Rattle.mx_gen.proofs.Parts.{code-below}
use Rattle.mx_gen.proofs.Codes.{code-named}
use Rattle.mx_gen.proofs.PlainBytes.{operands-other, operands-few}
use Rattle.mx_gen.proofs.CutLines.{line-cut}

-- one statement of the line, with these fields
abbrev IsCut : List ℕ → Fields → Type 0
IsCut line fields = (cut : Cut) × (cuts_from line 0 ≡ Ok cut ∷ []) × (fields_of line cut ≡ fields)

pub shown-line-cut : (word pc : ℕ) → word < 2 ^ 32 → (cut : Cut) × (cuts_from (shown_line word pc) 0 ≡ Ok cut ∷ []) × (fields_of (shown_line word pc) cut ≡ shown_fields word pc)
shown-line-cut word pc lt =
    let named = code-named (field_code word) (code-below word lt) in
    let is : IsCut (32 ∷ (opcode_name (field_code word) ++ 32 ∷ operands_text (shown_operands word pc))) (shown_fields word pc) =
    line-cut (opcode_name (field_code word)) (operands_text (shown_operands word pc)) named.bytes named.some (operands-other word pc) (omega (arith, named.few, operands-few word pc)) in
    subst (λ t. IsCut (32 ∷ t) (shown_fields word pc)) (sym (append_assoc (opcode_name (field_code word)) (32 ∷ []) (operands_text (shown_operands word pc)))) is
