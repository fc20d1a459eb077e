-- The definitions on worked rows.
use Rattle.std.proofs.Common.{◌≡◌, [], ◌∷◌, ◌++◌, Some, None, codes, refl}
use Rattle.mx_line.proofs.Words.{BadLabel, NoOpcode, split, lines_of, size_up_to, field_from, statement_of, cuts_within}
use Rattle.mx_line.specs.Source.{items_from, statements_of}
use Rattle.mx_line.specs.Source.Item.{statement, faulty}

-- an empty last piece is no line, and an empty line is one
lines-row : lines_of (codes "ab" ++ 10 ∷ 10 ∷ 99 ∷ 10 ∷ []) ≡ codes "ab" ∷ [] ∷ codes "c" ∷ []
unfolding lines_of split
lines-row = refl

-- no newline after the last line counts
size-row : size_up_to 3 (codes "ab" ∷ [] ∷ codes "c" ∷ []) ≡ 5
size-row = refl

-- two statements on a line, and a label with no opcode
statements-row : statements_of (codes "a SET 1;b SET 2 ;c") ≡
    statement 1 (Some (codes "a")) (codes "SET") (codes "1") ∷ statement 1 (Some (codes "b")) (codes "SET") (codes "2") ∷ faulty 1 NoOpcode ∷ []
unfolding lines_of split items_from cuts_within statement_of field_from
statements-row = refl

-- comments list nothing, and a fault ends the list
source-row : statements_of (codes "* note" ++ 10 ∷ codes " SWYM;;x" ++ 10 ∷ codes "x, SWYM" ++ 10 ∷ codes " SWYM") ≡
    statement 2 None (codes "SWYM") [] ∷ faulty 3 BadLabel ∷ []
unfolding lines_of split items_from cuts_within statement_of field_from
source-row = refl
