-- What lines load, by whether the source is refused; and lists of tetras that are copied and compared.
use Rattle.std.proofs.Common.{◌≡◌, ℕ, true, false, List, [], ◌∷◌, ◌++◌, append-nil, append_assoc, refl, sym, Ok, Err}
use Rattle.std.specs.Result.{is_ok}
use Rattle.mx_files.specs.Sources.{source_meaning}
use Rattle.mx_view.specs.Loads.{loads_of}
use Rattle.mx_view.specs.Rows.{Meaning}
use Rattle.mx_view.specs.declared.cells.Cell.{Cell}
use Rattle.mx_slips.specs.Loads.{loads_by, loads_in}

by-meaning : (source : List ℕ) (m : Meaning) → is_ok m ≡ true → loads_by source m ≡ loads_of source
by-meaning source (Ok image) e = refl
by-meaning source (Err refusal) e = absurd (cc)

by-refusal : (source : List ℕ) (m : Meaning) → is_ok m ≡ false → loads_by source m ≡ []
by-refusal source (Ok image) e = absurd (cc)
by-refusal source (Err refusal) e = refl

pub accepted : (source : List ℕ) → true ≡ is_ok (source_meaning source) → loads_of source ≡ loads_in source
accepted source e = sym (by-meaning source (source_meaning source) (sym e))

pub refused : (source : List ℕ) → false ≡ is_ok (source_meaning source) → [] ≡ loads_in source
refused source e = sym (by-refusal source (source_meaning source) (sym e))

pub ruleset loads = (accepted, refused)

pub copied-next : (copy : List Cell) (c : Cell) (more : List Cell) → copy ++ c ∷ more ≡ (copy ++ c ∷ []) ++ more
copied-next copy c more = sym (append_assoc copy (c ∷ []) more)

pub copied-none : (copy : List Cell) → copy ++ [] ≡ copy
copied-none copy = append-nil copy

pub ruleset copies = (copied-next, copied-none)
