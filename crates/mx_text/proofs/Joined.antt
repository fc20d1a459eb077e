-- Operands with commas between them.
use Rattle.std.proofs.Common.{◌≡◌, ℕ, List, [], ◌∷◌, ◌++◌, ◌∙◌, append_assoc}
use Rattle.mx_text.proofs.Words.{operand_text, operands_text, next_text, Operand}

pub two-joined : (text : List ℕ) (a b : Operand) → (text ++ operand_text a) ++ next_text b ≡ text ++ operands_text (a ∷ b ∷ [])
unfolding operands_text
two-joined text a b = append_assoc text (operand_text a) (next_text b)

pub three-joined : (text : List ℕ) (a b c : Operand) → ((text ++ operand_text a) ++ next_text b) ++ next_text c ≡ text ++ operands_text (a ∷ b ∷ c ∷ [])
unfolding operands_text
three-joined text a b c =
    append_assoc (text ++ operand_text a) (next_text b) (next_text c) ∙ append_assoc text (operand_text a) (next_text b ++ next_text c)

pub ruleset joining = (two-joined, three-joined)
