-- Tetras with their counts, in turn.
use Rattle.std.proofs.Common.{◌≡◌, ℕ, List, [], ◌∷◌, ◌++◌, drop, length, append-nil, append_assoc, codes, arith, sym, ap, ◌∙◌}
use Rattle.mx_object.specs.Sheets.{first_count}
use Rattle.mx_object.specs.declared.counting.TetraCount.{TetraCount}
use Rattle.mx_object.specs.declared.tetras.ListedTetra.{ListedTetra}
use Rattle.face_count.specs.ObjectJson.{more_tetras, tetra_json}

pub tetras-more : (text : List ℕ) (t : ListedTetra) (tetras : List ListedTetra) (counts : List TetraCount) →
    text ++ more_tetras (t ∷ tetras) counts ≡ ((text ++ codes ",") ++ tetra_json t (first_count counts)) ++ more_tetras tetras (drop 1 counts)
unfolding more_tetras
tetras-more text t tetras counts =
    let rest = more_tetras tetras (drop 1 counts) in
    let one = tetra_json t (first_count counts) in
    sym (append_assoc text (codes "," ++ one) rest) ∙ ap (λ x. x ++ rest) (sym (append_assoc text (codes ",") one))

pub tetras-none : (text : List ℕ) (rest : List ListedTetra) (counts : List TetraCount) → length rest ≡ 0 → text ++ more_tetras rest counts ≡ text
unfolding more_tetras
tetras-none text [] counts e = append-nil text
tetras-none text (t ∷ rest) counts e = absurd (omega (arith, e))

pub ruleset turns = (tetras-more, tetras-none)
