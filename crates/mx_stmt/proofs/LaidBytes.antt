-- What always holds of a statement that is placed: its bytes are bytes below the stack segment, and each of its references
-- is at a multiple of 4 within them.
use Rattle.std.proofs.Common.{◌≡◌, ◌<◌, ◌≤◌, ℕ, ◌+◌, ◌%◌, ◌^◌, List, [], ◌∷◌, ◌++◌, length, Option, None, Some, Ok, Err, arith, rules}
use Rattle.mx_stmt.proofs.Words.{AllByRecursion, length-append, octa_to_bytes, Awaited, Wait, WaitKind, Octa, Near, Far, Tree, Shape, Target, Data, Tetra, Label, Placed, Answer, and_then, Known, Targets, register_at, target_at, near_reach, far_reach, relative_form, form_by, tetra_wyde, tetra_whole, data_target, datum, joined_data, with_rest, data_of, data_form, StatementTree, with_bytes, tetra_data, with_data, encoding, common_steps, nat_tests}
use Rattle.mx_word.specs.Ranges.{AreBytes}
use Rattle.mx_word.proofs.Ranges.{bytes-append}
use Rattle.mx_stmt.specs.Laid.{IsInside, IsLaid}
use Rattle.mx_stmt.proofs.JoinedData.{HasSize, sized}
use Rattle.mx_stmt.proofs.EveryForm.{HasNoWait, every-code}
use Rattle.mx_stmt.proofs.EveryStatement.{at_place, every-statement}
use Rattle.mx_stmt.proofs.SilentStatements.{AreSilent}

-- ---- instructions

-- a reference of an instruction is a relative address
abbrev IsRelative : Option (Awaited × WaitKind) → Type 0
IsRelative None = Unit {0}
IsRelative (Some (who, Octa)) = ⊥
IsRelative (Some (who, Near)) = Unit {0}
IsRelative (Some (who, Far)) = Unit {0}

HasRelative : Answer Tetra → Type 0
HasRelative (Err fault) = Unit {0}
HasRelative (Ok tetra) = IsRelative tetra.wait

plain : (a : Answer Tetra) → HasNoWait a → HasRelative a
unfolding HasNoWait HasRelative
plain a h = grind arith

then : {A : Type 0} (a : Answer A) (next : A → Answer Tetra) → ((x : A) → HasRelative (next x)) → HasRelative (and_then a next)
unfolding HasRelative
then a next h = grind arith

near : (t : Targets) (place head : ℕ) (target : Target) → HasRelative (relative_form t head near_reach place Near target)
unfolding HasRelative
near t place head target = grind arith

far : (t : Targets) (place head : ℕ) (target : Target) → HasRelative (relative_form t head far_reach place Far target)
unfolding HasRelative
far t place head target = grind arith

coded : (t : Targets) (k : Known) (code : ℕ) (shapes : List Shape) (l : List Tree) → HasRelative (form_by t k shapes code l)
coded t k code shapes l = every-code k code (λ f. HasRelative (f t)) plain shapes
    (λ h x a. then (register_at k x) _ (λ x. then (target_at k a) (relative_form t (tetra_wyde code x 0) near_reach k.at Near) (near t k.at (tetra_wyde code x 0))))
    (λ h a. then (target_at k a) (relative_form t (tetra_whole code 0) far_reach k.at Far) (far t k.at (tetra_whole code 0))) l

-- ---- data

-- what is placed from an address on, unless it passes the last address
record IsData (place : ℕ) (d : Data) : Type 0 where
  bytes : AreBytes d.bytes
  waits : place + length d.bytes < 2 ^ 64 → AllByRecursion (IsInside place (length d.bytes)) d.waits

HasData : ℕ → Answer Data → Type 0
HasData place (Err fault) = Unit {0}
HasData place (Ok d) = IsData place d

data-then : {A : Type 0} (place : ℕ) (a : Answer A) (next : A → Answer Data) → ((x : A) → a ≡ Ok x → HasData place (next x)) → HasData place (and_then a next)
unfolding HasData
data-then place a next h = grind arith

pub octa-bytes : (n : ℕ) → AreBytes (octa_to_bytes n)
octa-bytes n = (omega arith, (omega arith, (omega arith, (omega arith, (omega arith, (omega arith, (omega arith, (omega arith, tt))))))))

record IsDatum (size place : ℕ) (d : Data) : Type 0 where
  bytes : AreBytes d.bytes
  count : length d.bytes ≡ size
  waits : AllByRecursion (IsInside place size) d.waits

datum-laid : (t : Targets) (line size place : ℕ) (target : Target) → size ≤ 8 → HasSize size target → (size ≡ 8 → place % 8 ≡ 0) → IsDatum size place (datum t line size place target)
datum-laid t line size place target h1 h2 h3 = grind (arith, common_steps, nat_tests)

pub all-append : (P : Wait → Type 0) (xs ys : List Wait) → AllByRecursion P xs → AllByRecursion P ys → AllByRecursion P (xs ++ ys)
all-append P [] ys h g = g
all-append P (x ∷ xs) ys h g = (h.0, all-append P xs ys h.1 g)

pub all-into : (P Q : Wait → Type 0) (xs : List Wait) → ((w : Wait) → P w → Q w) → AllByRecursion P xs → AllByRecursion Q xs
all-into P Q [] f h = tt
all-into P Q (x ∷ xs) f h = (f x h.0, all-into P Q xs f h.1)

rest-laid : (size place : ℕ) (first rest : Data) → IsDatum size place first → IsData ((place + size) % 2 ^ 64) rest → IsData place (joined_data first rest)
rest-laid size place first rest one more = search (rules, length-append, bytes-append, all-append, all-into)

with-rest-laid : (size place : ℕ) (first : Data) (rest : Answer Data) → IsDatum size place first → HasData ((place + size) % 2 ^ 64) rest → HasData place (with_rest first rest)
unfolding HasData
with-rest-laid size place first rest h1 h2 = search (rules, rest-laid)

next-eights : (size place : ℕ) → (size ≡ 8 → place % 8 ≡ 0) → size ≡ 8 → (place + size) % 2 ^ 64 % 8 ≡ 0
next-eights size place h e = let m = h e in omega (arith, m, e)

data-laid : (t : Targets) (k : Known) (line size place : ℕ) (es : List Tree) → size ≤ 8 → (size ≡ 8 → place % 8 ≡ 0) → HasData place (data_of t k line size place es)
unfolding data_of HasData
data-laid t k line size place [] small eights = record { bytes = tt; waits = λ fits. tt }
data-laid t k line size place (e ∷ es) small eights =
    data-then place (data_target k size e) _ (λ target is.
    with-rest-laid size place (datum t line size place target) (data_of t k line size ((place + size) % 2 ^ 64) es)
    (datum-laid t line size place target small (sized k size e target is) eights)
    (data-laid t k line size ((place + size) % 2 ^ 64) es small (next-eights size place eights)))

form-laid : (t : Targets) (k : Known) (line size : ℕ) (es : List Tree) → size ≤ 8 → (size ≡ 8 → k.at % 8 ≡ 0) → HasData k.at (data_form t k line size es)
unfolding HasData
form-laid t k line size es h1 h2 = search (rules, data-laid)

-- ---- statements

abbrev Laid : Answer Placed → Type 0
Laid (Err fault) = Unit {0}
Laid (Ok p) = IsLaid p

data-placed : (k : Known) (label : Option Label) (d : Answer Data) → HasData k.at d → Laid (with_data k label d)
unfolding HasData
data-placed k label d h = grind arith

tetra-laid : (k : Known) (line : ℕ) (label : Option Label) (a : Answer Tetra) → HasRelative a → k.at % 4 ≡ 0 → Laid (and_then a (λ tetra. with_bytes k label (tetra_data line k.at tetra)))
unfolding HasRelative
tetra-laid k line label a h1 h2 = grind arith

silent-laid : (k : Known) (a : Answer Placed) → AreSilent k a → Laid a
unfolding AreSilent
silent-laid k a h = grind arith

placed-laid : (r : Answer Placed) (p : Placed) → Laid r → r ≡ Ok p → IsLaid p
placed-laid r p h1 h2 = grind arith

pub encoding-laid : (t : Targets) (k : Known) (s : StatementTree) (p : Placed) → encoding t k s ≡ Ok p → IsLaid p
encoding-laid t k s p is =
    let here = at_place k s in
    placed-laid (encoding t k s) p (every-statement k s (λ f. Laid (f t)) (silent-laid here)
    (λ size es small eights. data-placed here s.label _ (form-laid t here s.line size es small eights))
    (λ shapes code l fours even. tetra-laid here s.line s.label _ (coded t here code shapes l) fours)
    (λ a fours none. tetra-laid here s.line s.label a (plain a none) fours)) is
