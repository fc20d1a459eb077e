-- A line of a label or none, a blank, a name, a blank and a plain operand field is cut to one statement.
use Rattle.std.proofs.Common.{◌≡◌, ℕ, ◌+◌, ◌<◌, ◌≤◌, true, false, List, [], ◌∷◌, ◌++◌, length, drop, Option, None, Some, Ok, refl, sym, ap, ◌∙◌, arith, subst, append-nil, append_assoc, length-append}
use Rattle.mx_gen.proofs.ShownWords.{list_all, slice_range, and_parts, nat_tests, Cut, cuts_from, is_bad_local, begins, is_other, IsField, Operands, Operation, Statement, StatementOf, Label, fields_of, label_in, label_of}
use Rattle.std.proofs.lemmas.Grind.{common_steps}
use Rattle.mx_line.specs.Bytes.{is_blank, is_name_byte}
use Rattle.mx_line.specs.Spans.{span}
use Rattle.mx_line.specs.declared.spans.Span.{Span}
use Rattle.mx_line.specs.Statements.IsField.{empty, byte_first}
use Rattle.mx_line.specs.Statements.Next.{nothing_more}
use Rattle.mx_line.specs.Statements.Operands.{field}
use Rattle.mx_line.specs.Statements.Operation.{named}
use Rattle.mx_line.specs.Statements.Statement.{comment, labelled, unlabelled}
use Rattle.mx_line.specs.Statements.StatementOf.{later, first}
use Rattle.mx_line.specs.Statements.Statements.{none, next}
use Rattle.mx_line.proofs.ListLaws.{no-other-list}

is-field : (text : List ℕ) → list_all is_other text ≡ true → IsField text
is-field [] all = empty
is-field (b ∷ bs) all = let p = and_parts (is_other b) (list_all is_other bs) all in byte_first b bs p.0 (is-field bs p.1)

field-begins : (text : List ℕ) → list_all is_other text ≡ true → begins is_blank text ≡ false
field-begins [] all = refl
field-begins (b ∷ bs) all = grind (arith, nat_tests, (and_parts (is_other b) (list_all is_other bs) all).0)

name-begins : (name rest : List ℕ) → 0 < length name → list_all is_name_byte name ≡ true → begins is_blank (name ++ rest) ≡ false
name-begins [] rest some all = absurd (omega (arith, some))
name-begins (b ∷ bs) rest some all = grind (arith, nat_tests, (and_parts (is_name_byte b) (list_all is_name_byte bs) all).0)

-- the parts of the line
front-part : (front rest : List ℕ) → slice_range (front ++ rest) 0 (0 + length front) ≡ front
front-part front rest = grind (arith, common_steps)

middle-part : (front mid rest : List ℕ) (n : ℕ) → n ≡ length front → slice_range (front ++ (mid ++ rest)) n (n + length mid) ≡ mid
middle-part front mid rest n is = grind (arith, common_steps)

last-part : (front mid : List ℕ) (n : ℕ) → n ≡ length front → slice_range (front ++ mid) n (n + length mid) ≡ mid
last-part front mid n is = grind (arith, common_steps)

nothing-left : (line : List ℕ) (n : ℕ) → n ≡ length line → drop n line ≡ []
nothing-left line n is = grind (arith, common_steps)

module _ (label name ops : List ℕ) (says : Option Span) (names : list_all is_name_byte name ≡ true) (some : 0 < length name) (others : list_all is_other ops ≡ true) (few : length label + length name + length ops ≤ 4000) where
  abbrev rest : List ℕ
  rest = 32 ∷ (name ++ 32 ∷ ops)

  abbrev line : List ℕ
  line = label ++ rest

  abbrev op_at : ℕ
  op_at = 0 + length label + 1

  abbrev ops_at : ℕ
  ops_at = op_at + length name + 1

  abbrev end : ℕ
  end = ops_at + length ops + 0

  abbrev cut : Cut
  cut = record { label = says; op = span op_at name; operands = span ops_at ops; next = end }

  end-is : end ≡ length line
  end-is = omega (arith, length-append label rest, length-append name (32 ∷ ops))

  operands-cut : Operands says (span op_at name) (op_at + length name) (32 ∷ ops) (Ok (Some cut))
  operands-cut =
      field (32 ∷ []) ops ops [] end
      (record { spelled = refl; all = refl; ends = field-begins ops others })
      (sym (append-nil ops))
      (is-field ops others)
      refl
      (nothing_more [] [] (record { spelled = refl; all = refl; ends = refl }) refl)

  operation-cut : Operation says (0 + length label) rest (Ok (Some cut))
  operation-cut =
      named (32 ∷ []) (name ++ 32 ∷ ops) name (32 ∷ ops) (Ok (Some cut))
      (record { spelled = refl; all = refl; ends = name-begins name (32 ∷ ops) some names })
      (record { spelled = refl; all = names; ends = refl })
      some refl operands-cut

  at-end : StatementOf line end (Ok None)
  at-end = later (Ok None) (omega arith) (subst (λ t. Statement end t (Ok None)) (sym (nothing-left line end end-is)) (comment refl refl))

  one-cut : (Operation says (0 + length label) rest (Ok (Some cut)) → Statement 0 line (Ok (Some cut))) → cuts_from line 0 ≡ Ok cut ∷ []
  one-cut begun =
      sym (no-other-list line 0 (Ok cut ∷ [])
      (next 0 cut [] (first (Ok (Some cut)) refl (omega (arith, few, end-is)) (begun operation-cut)) (none end at-end))
      (omega arith))

  name-part : slice_range line op_at (op_at + length name) ≡ name
  name-part =
      ap (λ t. slice_range t op_at (op_at + length name)) (sym (append_assoc label (32 ∷ []) (name ++ 32 ∷ ops)))
      ∙ middle-part (label ++ 32 ∷ []) name (32 ∷ ops) op_at (omega (arith, length-append label (32 ∷ [])))

  whole : line ≡ (label ++ 32 ∷ (name ++ 32 ∷ [])) ++ ops
  whole =
      ap (λ t. label ++ 32 ∷ t) (sym (append_assoc name (32 ∷ []) ops))
      ∙ sym (append_assoc label (32 ∷ (name ++ 32 ∷ [])) ops)

  ops-part : slice_range line ops_at (ops_at + length ops) ≡ ops
  ops-part =
      ap (λ t. slice_range t ops_at (ops_at + length ops)) whole
      ∙ last-part (label ++ 32 ∷ (name ++ 32 ∷ [])) ops ops_at (omega (arith, length-append label (32 ∷ (name ++ 32 ∷ [])), length-append name (32 ∷ [])))

  fields-cut : (said : Option Label) → label_in line says ≡ said → fields_of line cut ≡ record { label = said; op = name; operands = ops }
  fields-cut said is = rw (name-part, ops-part, is) refl

pub line-cut : (name ops : List ℕ) → list_all is_name_byte name ≡ true → 0 < length name → list_all is_other ops ≡ true → length name + length ops ≤ 4000 →
    (cut : Cut) × (cuts_from (32 ∷ (name ++ 32 ∷ ops)) 0 ≡ Ok cut ∷ []) × (fields_of (32 ∷ (name ++ 32 ∷ ops)) cut ≡ record { label = None; op = name; operands = ops })
line-cut name ops names some others few =
    let most : 0 + length name + length ops ≤ 4000 = omega (arith, few) in
    (cut [] name ops None names some others most, one-cut [] name ops None names some others most (λ o. unlabelled _ refl refl o), fields-cut [] name ops None names some others most None refl)

pub labelled-cut : (label name ops : List ℕ) → list_all is_name_byte label ≡ true → 0 < length label → is_bad_local label ≡ false → list_all is_name_byte name ≡ true → 0 < length name → list_all is_other ops ≡ true → length label + length name + length ops ≤ 4000 →
    (cut : Cut) × (cuts_from (label ++ 32 ∷ (name ++ 32 ∷ ops)) 0 ≡ Ok cut ∷ []) × (fields_of (label ++ 32 ∷ (name ++ 32 ∷ ops)) cut ≡ record { label = Some (label_of label); op = name; operands = ops })
labelled-cut label name ops labels labelled_by good names some others few =
    let says = Some (span 0 label) in
    let begun = labelled label (32 ∷ (name ++ 32 ∷ ops)) _ (record { spelled = refl; all = labels; ends = refl }) labelled_by good refl in
    (cut label name ops says names some others few, one-cut label name ops says names some others few begun, fields-cut label name ops says names some others few (Some (label_of label)) (ap (λ t. Some (label_of t)) (front-part label (32 ∷ (name ++ 32 ∷ ops)))))
