-- An instruction with a relative address has an even code, which is the first of two of its name.
use Rattle.std.proofs.Common.{◌≡◌, ◌<◌, ◌≤◌, ℕ, ◌-◌, ◌%◌, ◌==◌, ◌||◌, ◌&&◌, not, nat_lt, Bool, true, false, cond, List, [], ◌∷◌, map, get_or, Some, slice_index_or, refl, sym, ap, ◌∙◌, arith, bytes_eq}
use Rattle.mx_stmt.proofs.Words.{range_with_len, false≢true, eqb-true, ltb-true, and_parts, Op, Code, Shape, Rel, Jump, opcode_rows, opcode_names, opcode_name, pseudo_operations, chosen_operations, operations, operation_of, shape_spans, shapes_of}
use Rattle.std.proofs.lemmas.List.FromFn.{get_or-map-range_with_len}
use Rattle.std.proofs.lemmas.Slice.Eq.{bytes_eq-Decides}
use Rattle.mx_ops.specs.Tables.{first_of}
use Rattle.mx_ops.proofs.Operations.{lowest-found}

-- whether the shape has a relative address
abbrev pub has_address : List Shape → Bool
has_address [] = false
has_address (Rel ∷ shapes) = true
has_address (Jump ∷ shapes) = true
has_address (shape ∷ shapes) = false

-- whether a code with an address is even, or has the name of the code before it
abbrev is_paired : List (List ℕ) → ℕ → Bool
is_paired names code = not (has_address (shapes_of code)) || (code % 2 == 0 || bytes_eq (slice_index_or names (code - 1) []) (slice_index_or names code []))

abbrev all_true : ℕ → Bool
all_true code = true

pairs : map (is_paired opcode_names) (range_with_len 0 256) ≡ map all_true (range_with_len 0 256)
unfolding opcode_rows opcode_names shape_spans shapes_of
pairs = refl

paired : (code : ℕ) → code < 256 → is_paired opcode_names code ≡ true
paired code fits =
    sym (get_or-map-range_with_len (is_paired opcode_names) 0 256 code code false fits (omega arith))
    ∙ ap (λ l. get_or l code false) pairs
    ∙ get_or-map-range_with_len all_true 0 256 code code false fits (omega arith)

-- each code of the table is below 256
abbrev is_small : Op → Bool
is_small (Code code) = nat_lt code 256
is_small op = true

abbrev all_small : List (List ℕ × Op) → Bool
all_small [] = true
all_small (e ∷ es) = is_small e.1 && all_small es

small-table : all_small operations ≡ true
unfolding opcode_rows opcode_names pseudo_operations chosen_operations operations
small-table = refl

small-first : (name : List ℕ) (entries : List (List ℕ × Op)) (op : Op) → all_small entries ≡ true → first_of name entries ≡ Some op → is_small op ≡ true
small-first name [] op small found = cc
small-first name (e ∷ es) op small found = by (bytes_eq e.0 name) found (small-first name es op (and_parts _ _ small).1)
  where
    by : (b : Bool) → cond b (Some e.1) (first_of name es) ≡ Some op → (first_of name es ≡ Some op → is_small op ≡ true) → is_small op ≡ true
    by true is later = let same : e.1 ≡ op = cc in ap is_small (sym same) ∙ (and_parts _ _ small).0
    by false is later = later is

pub even-code : (name : List ℕ) (code : ℕ) → operation_of name ≡ Some (Code code) → has_address (shapes_of code) ≡ true → code % 2 ≡ 0
unfolding operation_of opcode_name
even-code name code is address =
    let lowest = lowest-found name code is in
    let small : code < 256 = ltb-true code 256 (small-first name operations (Code code) small-table is) in
    by (has_address (shapes_of code)) (code % 2 == 0) (bytes_eq (slice_index_or opcode_names (code - 1) []) (slice_index_or opcode_names code [])) address (paired code small)
    (eqb-true (code % 2) 0)
    (λ same. let least : code ≤ code - 1 = lowest.lowest (code - 1) (omega arith) ((bytes_eq-Decides _ _).0 same ∙ lowest.named) in omega arith)
  where
    by : (a e n : Bool) → a ≡ true → (not a || (e || n)) ≡ true → (e ≡ true → code % 2 ≡ 0) → (n ≡ true → code % 2 ≡ 0) → code % 2 ≡ 0
    by true true n there test even named = even refl
    by true false true there test even named = named refl
    by true false false there test even named = absurd (false≢true test)
    by false e n there test even named = absurd (false≢true there)
