-- The rows of tetras with their counts, in turn, and the sheet.
use Rattle.std.proofs.Common.{◌≡◌, ℕ, List, [], ◌∷◌, ◌++◌, drop, length, append-nil, append_assoc, arith, sym, ap, ◌∙◌}
use Rattle.mx_count.specs.Sheets.{figures, heading, last_row}
use Rattle.mx_object.specs.Sheets.{count_rows, elsewhere_row, first_count}
unfoldable use Rattle.mx_object.specs.Sheets.{counted_rows, sheet_text}
use Rattle.mx_object.specs.declared.counting.ObjectSheet.{ObjectSheet}
use Rattle.mx_object.specs.declared.counting.TetraCount.{TetraCount}
use Rattle.mx_object.specs.declared.tetras.ListedTetra.{ListedTetra}

pub rows-more : (text : List ℕ) (t : ListedTetra) (tetras : List ListedTetra) (counts : List TetraCount) →
    text ++ counted_rows (t ∷ tetras) counts ≡ (text ++ count_rows t (first_count counts)) ++ counted_rows tetras (drop 1 counts)
unfolding counted_rows
rows-more text t tetras counts = sym (append_assoc text (count_rows t (first_count counts)) (counted_rows tetras (drop 1 counts)))

pub rows-none : (text : List ℕ) (rest : List ListedTetra) (counts : List TetraCount) → length rest ≡ 0 → text ++ counted_rows rest counts ≡ text
unfolding counted_rows
rows-none text [] counts e = append-nil text
rows-none text (t ∷ rest) counts e = absurd (omega (arith, e))

pub ruleset turns = (rows-more, rows-none)

pub sheet-is : (s : ObjectSheet) (head rows there whole : List ℕ) → head ≡ heading → rows ≡ head ++ counted_rows s.tetras s.counts →
    there ≡ rows ++ elsewhere_row s.elsewhere → whole ≡ there ++ last_row s.total → whole ≡ sheet_text s
unfolding sheet_text
sheet-is s head rows there whole h r t w =
    w ∙ ap (λ x. x ++ last_row s.total) (t ∙ ap (λ x. x ++ elsewhere_row s.elsewhere) (r ∙ ap (λ x. x ++ counted_rows s.tetras s.counts) h))
