-- What is first in bytes: an item and how many bytes it takes, a fault, or nothing that is whole.
-- (MMIXware, the part on MMIXAL, "Binary MMO output".)
use Rattle.std.specs.Prelude.{ℕ, ◌+◌, ◌-◌, ◌*◌, ◌%◌, ◌^◌, ◌==◌, ◌&&◌, ◌||◌, ◌<◌, ◌≤◌, nat_le, nat_lt, false, List, [], ◌∷◌, length, take, Option, Some, None, Result, Ok, Err, if◌then◌else◌}
use Rattle.mx_word.specs.Words.{tetra_from_bytes, octa_from_bytes}
use Rattle.mx_mmo.specs.Skipping.{skipped}
use Rattle.mx_mmo.specs.declared.items.Item.{Item}
use Rattle.mx_mmo.specs.declared.items.Item.TheVariants.{Load, Loc, Skip, FixOcta, FixNear, FixFar, File, Line, Spec, Pre, Post, Stab}
use Rattle.mx_mmo.specs.declared.lops.Lop.{Lop}
use Rattle.mx_mmo.specs.declared.lops.Lop.TheVariants as lops
use Rattle.mx_mmo.specs.declared.faults.MmoFault.{MmoFault}
use Rattle.mx_mmo.specs.declared.faults.MmoFault.TheVariants.{NoPre, BadLop, BadFields}
use Rattle.mx_mmo.specs.declared.due.Phase.{Phase}
use Rattle.mx_mmo.specs.declared.due.Phase.TheVariants.{Start, Middle, Posted, Ended}

-- the tetras and the octas of bytes
abbrev pub tetras_of : List ℕ → List ℕ
tetras_of (a ∷ b ∷ c ∷ d ∷ more) = tetra_from_bytes (a ∷ b ∷ c ∷ d ∷ []) ∷ tetras_of more
tetras_of _ = []

abbrev pub octas_of : List ℕ → List ℕ
octas_of (a ∷ b ∷ c ∷ d ∷ e ∷ f ∷ g ∷ h ∷ more) = octa_from_bytes (a ∷ b ∷ c ∷ d ∷ e ∷ f ∷ g ∷ h ∷ []) ∷ octas_of more
octas_of _ = []

-- bytes without the zeros at their end
abbrev pub onto_trimmed : ℕ → List ℕ → List ℕ
onto_trimmed b [] = if b == 0 then [] else b ∷ []
onto_trimmed b (c ∷ more) = b ∷ c ∷ more

abbrev pub trimmed : List ℕ → List ℕ
trimmed [] = []
trimmed (b ∷ bytes) = onto_trimmed b (trimmed bytes)

-- what is due, with its bytes; nothing where it is not whole; a fault
abbrev pub DueOf : Type 0 → Type 0
DueOf A = Result (Option (A × ℕ)) MmoFault

-- the item that is due
abbrev pub Due : Type 0
Due = DueOf Item

-- what a tetra tells that is next, and an octa
abbrev pub on_tetra : {A : Type 0} → (ℕ → DueOf A) → List ℕ → DueOf A
on_tetra due (a ∷ b ∷ c ∷ d ∷ more) = due (tetra_from_bytes (a ∷ b ∷ c ∷ d ∷ []))
on_tetra due _ = Ok None

abbrev pub on_octa : {A : Type 0} → (ℕ → DueOf A) → List ℕ → DueOf A
on_octa due (a ∷ b ∷ c ∷ d ∷ e ∷ f ∷ g ∷ h ∷ more) = due (octa_from_bytes (a ∷ b ∷ c ∷ d ∷ e ∷ f ∷ g ∷ h ∷ []))
on_octa due _ = Ok None

-- `pre` with this many tetras
abbrev pub pre_item : ℕ → List ℕ → Due
pre_item z more =
    if nat_lt (length more) (4 * z) then Ok None else Ok (Some (Pre (tetras_of (take (4 * z) more)), 4 + 4 * z))

-- a tetra after a quote
abbrev pub quoted_tetra : ℕ → Due
quoted_tetra t = Ok (Some (Load t, 8))

-- an address in a tetra and in an octa, where Y counts 2^56
abbrev pub short_address : ℕ → ℕ → DueOf ℕ
short_address y t = Ok (Some (y * 2 ^ 56 + t, 8))

abbrev pub long_address : ℕ → ℕ → DueOf ℕ
long_address y x = Ok (Some ((y * 2 ^ 56 + x) % 2 ^ 64, 12))

-- an address after a lopcode
abbrev pub address_due : ℕ → ℕ → ℕ → List ℕ → DueOf ℕ
address_due at y z more =
    if z == 1 then on_tetra (short_address y) more
    else if z == 2 then on_octa (long_address y) more else Err (BadFields at)

-- the item of an address
abbrev pub item_due : (ℕ → Item) → DueOf ℕ → Due
item_due item (Ok (Some (a, size))) = Ok (Some (item a, size))
item_due item (Ok None) = Ok None
item_due item (Err fault) = Err fault

-- a far fix whose tetra is there: its first byte is 0 or 1
abbrev pub far_tetra : ℕ → ℕ → ℕ → Due
far_tetra at bits t = if nat_lt t (2 ^ 25) then Ok (Some (FixFar bits t, 8)) else Err (BadFields at)

-- a file with a name, which is not all zeros
abbrev pub named_file : ℕ → ℕ → ℕ → List ℕ → Due
named_file at number size [] = Err (BadFields at)
named_file at number size (b ∷ name) = Ok (Some (File number (Some (b ∷ name)), size))

-- a file, with this many tetras of its name
abbrev pub file_item : ℕ → ℕ → ℕ → List ℕ → Due
file_item at number z more =
    if z == 0 then Ok (Some (File number None, 4))
    else if nat_lt (length more) (4 * z) then Ok None
    else named_file at number (4 + 4 * z) (trimmed (take (4 * z) more))

-- a spec with the bytes that it skips, once the lopcode is there that ends them
abbrev pub ended_spec : ℕ → Option ℕ → Due
ended_spec n None = Ok None
ended_spec n (Some size) = Ok (Some (Spec n, 4 + size))

-- the values of $g to $255
abbrev pub post_item : ℕ → List ℕ → Due
post_item g more =
    if nat_lt (length more) (8 * (256 - g)) then Ok None
    else Ok (Some (Post g (octas_of (take (8 * (256 - g)) more)), 4 + 8 * (256 - g)))

-- the lopcode of a code byte
abbrev pub lop_of : ℕ → Option Lop
lop_of code =
    if code == 0 then Some lops.Quote
    else if code == 1 then Some lops.Loc
    else if code == 2 then Some lops.Skip
    else if code == 3 then Some lops.Fixo
    else if code == 4 then Some lops.Fixr
    else if code == 5 then Some lops.Fixrx
    else if code == 6 then Some lops.File
    else if code == 7 then Some lops.Line
    else if code == 8 then Some lops.Spec
    else if code == 9 then Some lops.Pre
    else if code == 10 then Some lops.Post
    else if code == 11 then Some lops.Stab
    else if code == 12 then Some lops.End
    else None

-- a lopcode between `pre` and `post`: its fields are looked at once it is there itself
abbrev pub lop_item : ℕ → Option Lop → ℕ → ℕ → List ℕ → Due
lop_item at (Some lops.Quote) y z more = if y == 0 && z == 1 then on_tetra quoted_tetra more else Err (BadFields at)
lop_item at (Some lops.Loc) y z more = item_due (λ a. Loc a) (address_due at y z more)
lop_item at (Some lops.Skip) y z more = Ok (Some (Skip (256 * y + z), 4))
lop_item at (Some lops.Fixo) y z more = item_due (λ a. FixOcta a) (address_due at y z more)
lop_item at (Some lops.Fixr) y z more = Ok (Some (FixNear (256 * y + z), 4))
lop_item at (Some lops.Fixrx) y z more =
    if y == 0 && (z == 16 || z == 24) then on_tetra (far_tetra at z) more else Err (BadFields at)
lop_item at (Some lops.File) y z more = file_item at y z more
lop_item at (Some lops.Line) y z more = Ok (Some (Line (256 * y + z), 4))
lop_item at (Some lops.Spec) y z more = ended_spec (256 * y + z) (skipped false more)
lop_item at (Some lops.Post) y z more = if y == 0 && nat_le 32 z then post_item z more else Err (BadFields at)
lop_item at _ y z more = Err (BadLop at)

-- what a first tetra tells, with the bytes that follow it
abbrev pub due_item : Phase → ℕ → ℕ → ℕ → ℕ → ℕ → List ℕ → Due
due_item Start at a code y z more =
    if a == 0x98 && code == 9 && y == 1 then pre_item z more else Err (NoPre at)
due_item Middle at a code y z more =
    if a == 0x98 then lop_item at (lop_of code) y z more
    else Ok (Some (Load (tetra_from_bytes (a ∷ code ∷ y ∷ z ∷ [])), 4))
due_item Posted at a code y z more =
    if a == 0x98 && code == 11 then (if y == 0 && z == 0 then Ok (Some (Stab, 4)) else Err (BadFields at))
    else Err (BadLop at)
due_item Ended at a code y z more = Ok None

-- the item that is first in bytes that begin at a place
abbrev pub first_item : Phase → ℕ → List ℕ → Due
first_item phase at (a ∷ code ∷ y ∷ z ∷ more) = due_item phase at a code y z more
first_item phase at _ = Ok None

-- an item takes some bytes, and no more than these
abbrev pub IsWithin : {A : Type 0} → DueOf A → ℕ → Type 0
IsWithin (Ok (Some (item, size))) n = (0 < size) × (size ≤ n)
IsWithin _ n = Unit {0}
