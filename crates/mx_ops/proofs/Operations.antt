-- The laws of the operations, from the computed facts on their tables.
use Rattle.std.proofs.Common.{ℕ, zero, suc, ◌+◌, ◌<◌, ◌≤◌, ◌≡◌, Bool, true, false, not, ◌&&◌, cond, List, [], ◌∷◌, ◌++◌, map, length, get_or, Option, Some, None, IsTrue, Decides, refl, sym, ◌∙◌, ap, arith, bytes_eq, ◌⊎◌, inl, inr, drop, eqb, zero-add, take, ◌-◌, is_none, Contains}
use Rattle.mx_ops.proofs.Words.{and_parts, false≢true, eqb-true, not-true, bytes_eq-Decides, first_of, numbered, names_once, instruction, opcode_rows, opcode_names, opcode_name, pseudo_operations, chosen_operations, operations, operation_of, is_code, is_instruction, rows_follow, IsLowestCode, special_registers, predefined_names, predefined_value, Op}
use Rattle.std.proofs.lemmas.Grind.{common_steps}
use Rattle.mx_ops.specs.declared.op.Op.TheVariants.{Code}
use Rattle.mx_ops.proofs.Tables.{first_of-append, first_of-front, first_of-once}

abbrev instructions : ℕ → List (List ℕ) → List (List ℕ × Op)
instructions place names = map instruction (numbered place names)

-- no place has the name, and it is not found
record Nowhere (name : List ℕ) (names : List (List ℕ)) (found : Option Op) : Type 0 where
  none : found ≡ None
  nowhere : (j : ℕ) → j < length names → get_or names j [] ≡ name → false ≡ true

-- the first place with the name is found
record First (name : List ℕ) (names : List (List ℕ)) (place : ℕ) (found : Option Op) : Type 0 where
  at : ℕ
  below : at < length names
  is : found ≡ Some (Code (place + at))
  named : get_or names at [] ≡ name
  first : (j : ℕ) → j < length names → get_or names j [] ≡ name → at ≤ j

abbrev Placed : List ℕ → List (List ℕ) → ℕ → Option Op → Type 0
Placed name names place found = Nowhere name names found ⊎ First name names place found

placed-step : (name n : List ℕ) (names : List (List ℕ)) (place : ℕ) (rest : Option Op) (b : Bool) → Decides b (n ≡ name) → Placed name names (place + 1) rest → Placed name (n ∷ names) place (cond b (Some (Code place)) rest)
placed-step name n names place rest true d h =
    inr (record { at = 0; below = omega arith; is = ap (λ z. Some (Code z)) (omega arith); named = d.0 refl; first = λ j lt is. omega arith })
placed-step name n names place rest false d (inl h) = inl (record { none = h.none; nowhere = not-here })
  where
    not-here : (j : ℕ) → j < length (n ∷ names) → get_or (n ∷ names) j [] ≡ name → false ≡ true
    not-here zero lt is = d.1 is
    not-here (suc j) lt is = h.nowhere j (omega arith) is
placed-step name n names place rest false d (inr h) =
    inr (record { at = suc h.at; below = omega (arith, h.below); is = h.is ∙ ap (λ z. Some (Code z)) (omega arith); named = h.named; first = after })
  where
    after : (j : ℕ) → j < length (n ∷ names) → get_or (n ∷ names) j [] ≡ name → suc h.at ≤ j
    after zero lt is = absurd (false≢true (d.1 is))
    after (suc j) lt is = omega (arith, h.first j (omega arith) is)

placed : (name : List ℕ) (names : List (List ℕ)) (place : ℕ) → Placed name names place (first_of name (instructions place names))
placed name [] place = inl (record { none = refl; nowhere = λ j lt is. absurd (omega arith) })
placed name (n ∷ names) place = placed-step name n names place _ (bytes_eq n name) (bytes_eq-Decides n name) (placed name names (place + 1))

-- no name of the list is in the table
abbrev strangers : List (List ℕ) → List (List ℕ × Op) → Bool
strangers [] table = true
strangers (n ∷ names) table = is_none (first_of n table) && strangers names table

strangers-at : (names : List (List ℕ)) (table : List (List ℕ × Op)) (j : ℕ) → strangers names table ≡ true → j < length names → first_of (get_or names j []) table ≡ None
strangers-at [] table j h lt = absurd (omega arith)
strangers-at (n ∷ names) table zero h lt = none (first_of n table) (and_parts _ _ h).0
  where
    none : (o : Option Op) → is_none o ≡ true → o ≡ None
    none None h = refl
    none (Some v) h = cc
strangers-at (n ∷ names) table (suc j) h lt = strangers-at names table j (and_parts _ _ h).1 (omega arith)

-- no entry is an instruction
abbrev without_codes : List (List ℕ × Op) → Bool
without_codes [] = true
without_codes (e ∷ table) = not (is_code e.1) && without_codes table

no-code : (name : List ℕ) (table : List (List ℕ × Op)) → without_codes table ≡ true → is_instruction (first_of name table) ≡ false
no-code name [] h = refl
no-code name (e ∷ table) h = either (bytes_eq e.0 name) (is_code e.1) _ (not-true _ (and_parts _ _ h).0) (no-code name table (and_parts _ _ h).1)
  where
    either : (b c : Bool) (rest : Option Op) → is_code e.1 ≡ false → is_instruction rest ≡ false → is_instruction (cond b (Some e.1) rest) ≡ false
    either true c rest p q = p
    either false c rest p q = q

-- what computes: the rows follow one another, no instruction has the name of another operation, and these have one entry each
pub rows : rows_follow 0 opcode_rows ≡ true
unfolding opcode_rows
rows = refl

all_codes : length opcode_names ≡ 256
unfolding opcode_names opcode_rows
all_codes = refl

apart : strangers opcode_names (pseudo_operations ++ chosen_operations) ≡ true
unfolding opcode_names opcode_rows pseudo_operations chosen_operations
apart = refl

no_codes : without_codes (pseudo_operations ++ chosen_operations) ≡ true
unfolding pseudo_operations chosen_operations
no_codes = refl

others_once : names_once (pseudo_operations ++ chosen_operations) ≡ true
unfolding pseudo_operations chosen_operations
others_once = refl

symbols_once : names_once predefined_names ≡ true
unfolding special_registers predefined_names
symbols_once = refl

-- each name of a code is found as an instruction
pub instruction-found : (name : List ℕ) (code : ℕ) → code < 256 → opcode_name code ≡ name → IsTrue (is_instruction (operation_of name))
unfolding operation_of operations opcode_name
instruction-found name code lt is =
    let below : code < length opcode_names = omega (arith, all_codes) in
    let out : first_of name (pseudo_operations ++ chosen_operations) ≡ None = ap (λ n. first_of n (pseudo_operations ++ chosen_operations)) (sym is) ∙ strangers-at opcode_names _ code apart below in
    let found : operation_of name ≡ first_of name (instructions 0 opcode_names) = first_of-append name (pseudo_operations ++ chosen_operations) (instructions 0 opcode_names) out in
    ap is_instruction found ∙ answered (placed name opcode_names 0)
  where
    answered : {o : Option Op} → Placed name opcode_names 0 o → is_instruction o ≡ true
    answered (inl h) = absurd (false≢true (h.nowhere code (omega (arith, all_codes)) is))
    answered (inr h) = ap is_instruction h.is

-- the code of a name is the lowest one
pub lowest-found : (name : List ℕ) (code : ℕ) → operation_of name ≡ Some (Code code) → IsLowestCode name code
unfolding operation_of operations opcode_name
lowest-found name code is = by (first_of name (pseudo_operations ++ chosen_operations)) refl
  where
    from : {o : Option Op} → Placed name opcode_names 0 o → o ≡ Some (Code code) → IsLowestCode name code
    from (inl h) is = cc
    from (inr h) is =
        let at : h.at ≡ code = cc (sym h.is ∙ is, zero-add h.at) in
        record { named = ap (λ k. get_or opcode_names k []) (sym at) ∙ h.named; lowest = λ other lt has. omega (arith, at, h.first other (omega (arith, all_codes)) has) }

    by : (o : Option Op) → first_of name (pseudo_operations ++ chosen_operations) ≡ o → IsLowestCode name code
    by None out = from (placed name opcode_names 0) (sym (first_of-append name (pseudo_operations ++ chosen_operations) (instructions 0 opcode_names) out) ∙ is)
    by (Some op) in' =
        let same : Some op ≡ Some (Code code) = sym (first_of-front name (pseudo_operations ++ chosen_operations) (instructions 0 opcode_names) op in') ∙ is in
        absurd (false≢true (sym (no-code name (pseudo_operations ++ chosen_operations) no_codes) ∙ ap is_instruction in' ∙ ap is_instruction same))

-- each other operation is found by its name
pub other-found : (name : List ℕ) (op : Op) → Contains (pseudo_operations ++ chosen_operations) (name, op) → operation_of name ≡ Some op
unfolding operation_of operations
other-found name op has = first_of-front name (pseudo_operations ++ chosen_operations) (instructions 0 opcode_names) op (first_of-once _ name op others_once has)

-- each predefined symbol is found by its complete name
pub symbol-found : (name bare : List ℕ) (v : ℕ) → name ≡ 58 ∷ bare → Contains predefined_names (bare, v) → predefined_value name ≡ Some v
unfolding predefined_value
symbol-found name bare v is has = ap predefined_value is ∙ first_of-once predefined_names bare v symbols_once has

whole : (xs : List ℕ) (n : ℕ) → n ≡ length xs → take n xs ≡ xs
whole xs n is = grind (arith, common_steps)

-- the value of a name with its colon, and that of one without
pub after-colon : (name : List ℕ) → 0 < length name → get_or name 0 0 ≡ 58 → first_of (take (length name - 1) (drop 1 name)) predefined_names ≡ predefined_value name
unfolding predefined_value
after-colon [] lt is = absurd (omega arith)
after-colon (b ∷ name) lt is =
    let all : take (length (b ∷ name) - 1) name ≡ name = whole name _ (omega arith) in
    rw all (rw is refl)

pub no-colon : (name : List ℕ) → (get_or name 0 0 ≡ 58 → false ≡ true) → None ≡ predefined_value name
unfolding predefined_value
no-colon [] h = refl
no-colon (b ∷ name) h = skipped (eqb b 58) (λ t. h (eqb-true b 58 t))
  where
    skipped : (t : Bool) → (t ≡ true → false ≡ true) → None ≡ cond t (first_of name predefined_names) None
    skipped true h = absurd (false≢true (h refl))
    skipped false h = refl

pub no-bytes : (name : List ℕ) → eqb (length name) 0 ≡ true → None ≡ predefined_value name
unfolding predefined_value
no-bytes [] h = refl
no-bytes (b ∷ name) h = absurd (omega (arith, eqb-true _ _ h))
