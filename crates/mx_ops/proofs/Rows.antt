-- Where the codes of a row are in the table.
use Rattle.std.proofs.Common.{◌≡◌, ◌<◌, ℕ, zero, suc, ◌+◌, ◌*◌, true, List, [], ◌∷◌, ◌++◌, length, map, get_or, refl, sym, ◌∙◌, ap, subst, arith, eqb, Contains, flat_map}
use Rattle.mx_ops.proofs.Words.{and_parts, eqb-true, Kind, own_code, Row, row_names, row_kinds, row_length, opcode_rows, opcode_names, opcode_kinds, opcode_name, opcode_kind, rows_follow, IsCodeOf}
use Rattle.std.proofs.lemmas.List.{append_assoc, get_or_append_left, get_or-append-add, length-map}
use Rattle.mx_ops.proofs.Operations.{rows}

module _ {X A : Type 0} (f : X → List A) (n : ℕ) (long : (x : X) → length (f x) ≡ n) where
  none-of : (j : ℕ) → n * 0 + j ≡ j
  none-of j = omega arith

  -- in a row of pieces of one length, element j of piece i
  piece-at : (xs : List X) (rest : List A) (i j : ℕ) (e : X) (d : A) → i < length xs → j < n → get_or (flat_map f xs ++ rest) (n * i + j) d ≡ get_or (f (get_or xs i e)) j d
  piece-at [] rest i j e d lt below = absurd (omega arith)
  piece-at (x ∷ xs) rest zero j e d lt below =
      ap (λ l. get_or l (n * 0 + j) d) (append_assoc (f x) (flat_map f xs) rest)
      ∙ ap (λ k. get_or (f x ++ (flat_map f xs ++ rest)) k d) (none-of j)
      ∙ get_or_append_left (f x) (flat_map f xs ++ rest) d j (omega (arith, long x))
  piece-at (x ∷ xs) rest (suc i) j e d lt below =
      ap (λ l. get_or l (n * suc i + j) d) (append_assoc (f x) (flat_map f xs) rest)
      ∙ ap (λ k. get_or (f x ++ (flat_map f xs ++ rest)) k d) (further i j (long x))
      ∙ get_or-append-add (f x) (flat_map f xs ++ rest) (n * i + j) d
      ∙ piece-at xs rest i j e d (omega arith) below
    where
      further : {m : ℕ} (i j : ℕ) → m ≡ n → n * suc i + j ≡ m + (n * i + j)
      further i j is = omega (arith, is)

  -- what follows all pieces
  following : (xs : List X) (rest : List A) (k : ℕ) (d : A) → get_or (flat_map f xs ++ rest) (n * length xs + k) d ≡ get_or rest k d
  following [] rest k d = ap (λ i. get_or rest i d) (none-of k)
  following (x ∷ xs) rest k d =
      ap (λ l. get_or l (n * suc (length xs) + k) d) (append_assoc (f x) (flat_map f xs) rest)
      ∙ ap (λ i. get_or (f x ++ (flat_map f xs ++ rest)) i d) (further (length xs) (long x))
      ∙ get_or-append-add (f x) (flat_map f xs ++ rest) (n * length xs + k) d
      ∙ following xs rest k d
    where
      further : {m : ℕ} (i : ℕ) → m ≡ n → n * suc i + k ≡ m + (n * i + k)
      further i is = omega (arith, is)

same-everywhere : (name : List ℕ) (kinds : List Kind) (j : ℕ) → j < length kinds → get_or (map (λ kind. name) kinds) j [] ≡ name
same-everywhere name [] j lt = absurd (omega arith)
same-everywhere name (kind ∷ kinds) zero lt = refl
same-everywhere name (kind ∷ kinds) (suc j) lt = same-everywhere name kinds j (omega arith)

names-long : (kinds : List Kind) (name : List ℕ) → length (map (λ kind. name) kinds) ≡ length kinds
names-long kinds name = length-map kinds (λ kind. name)

-- where a code of a row is in the lists of all codes from a first one on
record IsPlace (row : Row) (i j start : ℕ) (table : List Row) : Type 0 where
  offset : ℕ
  code : row.first + length row.kinds * i + j ≡ start + offset
  named : get_or (flat_map row_names table) offset [] ≡ get_or row.names i []
  kind_is : get_or (flat_map row_kinds table) offset own_code ≡ get_or row.kinds j own_code

in-first : (row : Row) (table : List Row) (i j start : ℕ) → row.first ≡ start → i < length row.names → j < length row.kinds → IsPlace row i j start (row ∷ table)
in-first row table i j start begins lt below = record {
  offset = length row.kinds * i + j;
  code = omega (arith, begins);
  named =
      piece-at (λ name. map (λ kind. name) row.kinds) (length row.kinds) (names-long row.kinds) row.names (flat_map row_names table) i j [] [] lt below
      ∙ same-everywhere (get_or row.names i []) row.kinds j below;
  kind_is = piece-at (λ name. row.kinds) (length row.kinds) (λ name. refl) row.names (flat_map row_kinds table) i j [] own_code lt below;
}

in-later : (first row : Row) (table : List Row) (i j start : ℕ) → IsPlace row i j (start + row_length first) table → IsPlace row i j start (first ∷ table)
in-later first row table i j start h = record {
  offset = row_length first + h.offset;
  code = omega (arith, h.code);
  named = following (λ name. map (λ kind. name) first.kinds) (length first.kinds) (names-long first.kinds) first.names (flat_map row_names table) h.offset [] ∙ h.named;
  kind_is = following (λ name. first.kinds) (length first.kinds) (λ name. refl) first.names (flat_map row_kinds table) h.offset own_code ∙ h.kind_is;
}

place-of : (table : List Row) (row : Row) (i j start : ℕ) → rows_follow start table ≡ true → Contains table row → i < length row.names → j < length row.kinds → IsPlace row i j start table
place-of [] row i j start follow (k, lt, is) inside below = absurd (omega arith)
place-of (first ∷ table) row i j start follow (zero, lt, is) inside below =
    subst (λ r. IsPlace row i j start (r ∷ table)) (sym is) (in-first row table i j start (begins first row is (and_parts _ _ follow).0) inside below)
  where
    begins : (first row : Row) → first ≡ row → eqb first.first start ≡ true → row.first ≡ start
    begins first row is t = ap (λ (r : Row). r.first) (sym is) ∙ eqb-true _ _ t
place-of (first ∷ table) row i j start follow (suc k, lt, is) inside below =
    in-later first row table i j start (place-of table row i j (start + row_length first) (and_parts _ _ follow).1 (k, omega arith, is) inside below)

pub each-code : (row : Row) (i j : ℕ) → Contains opcode_rows row → i < length row.names → j < length row.kinds → IsCodeOf (get_or row.names i []) (get_or row.kinds j own_code) (row.first + length row.kinds * i + j)
unfolding opcode_name opcode_kind opcode_names opcode_kinds
each-code row i j has inside below =
    let place = place-of opcode_rows row i j 0 rows has inside below in
    let code : row.first + length row.kinds * i + j ≡ place.offset = omega (arith, place.code) in
    record { named = ap (λ k. get_or opcode_names k []) code ∙ place.named; kind_is = ap (λ k. get_or opcode_kinds k own_code) code ∙ place.kind_is }
