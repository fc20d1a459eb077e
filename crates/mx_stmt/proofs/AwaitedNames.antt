-- A statement waits only for names that are not known at it, and for local labels.
use Rattle.std.proofs.Common.{◌≡◌, ℕ, ◌+◌, ◌%◌, ◌^◌, ◌==◌, nat_lt, List, [], ◌∷◌, length, Option, None, Some, Ok, Err, rules, arith}
use Rattle.mx_stmt.proofs.Words.{AllByRecursion, cond_both, Awaited, Wait, WaitKind, Near, Far, Tree, NameTable, value_of_name, Shape, Data, Tetra, Target, Label, Placed, BadPlace, Answer, and_then, Known, Targets, register_at, pure_at, known_target, target_at, near_reach, far_reach, relative_form, form_by, tetra_wyde, tetra_whole, data_number, data_target, datum, with_rest, data_of, data_form, StatementTree, with_bytes, with_tetra, with_data, encoding}
use Rattle.mx_word.specs.declared.waits.Awaited.TheVariants as awaited
use Rattle.mx_stmt.specs.declared.operands.Target.TheVariants as target
use Rattle.mx_stmt.proofs.LaidBytes.{all-append}
use Rattle.mx_stmt.proofs.EveryForm.{HasNoWait, every-code}
use Rattle.mx_stmt.proofs.EveryStatement.{at_place, every-statement}
use Rattle.mx_stmt.proofs.SilentStatements.{AreSilent}

abbrev pub IsUnknown : NameTable → Awaited → Type 0
IsUnknown names who = (full : List ℕ) → who ≡ awaited.Name full → value_of_name names full ≡ None

abbrev pub AreUnknown : NameTable → List Wait → Type 0
AreUnknown names waits = AllByRecursion (λ (w : Wait). IsUnknown names w.who) waits

-- what holds of the value of an answer
abbrev pub Gives : {A : Type 0} → (A → Type 0) → Answer A → Type 0
Gives P (Err fault) = Unit {0}
Gives P (Ok x) = P x

pub after-gives : {A B : Type 0} (Q : A → Type 0) (P : B → Type 0) (a : Answer A) (next : A → Answer B) → Gives Q a → ((x : A) → Q x → Gives P (next x)) → Gives P (and_then a next)
after-gives Q P a next q h = search rules

-- ---- operands

module _ (names : NameTable) where
  abbrev IfFuture : Target → Type 0
  IfFuture (target.Known n) = Unit {0}
  IfFuture (target.Future who) = IsUnknown names who

target-unknown : (k : Known) (e : Tree) → Gives (IfFuture k.names) (target_at k e)
target-unknown k e = search rules

-- ---- instructions

module _ (k : Known) where
  abbrev IfWait : Option (Awaited × WaitKind) → Type 0
  IfWait None = Unit {0}
  IfWait (Some reference) = IsUnknown k.names reference.0

  abbrev Waits : Answer Tetra → Type 0
  Waits a = Gives (λ (tetra : Tetra). IfWait tetra.wait) a

  waits-then : {A : Type 0} (a : Answer A) (next : A → Answer Tetra) → ((x : A) → Waits (next x)) → Waits (and_then a next)
  waits-then a next h = search rules

  target-waits : (t : Targets) (head reach place : ℕ) (kind : WaitKind) (e : Tree) → Waits (and_then (target_at k e) (relative_form t head reach place kind))
  target-waits t head reach place kind e = search rules

  plain-waits : (a : Answer Tetra) → HasNoWait a → Waits a
  unfolding HasNoWait
  plain-waits a none = search rules

  coded-waits : (t : Targets) (code : ℕ) (shapes : List Shape) (l : List Tree) → Waits (form_by t k shapes code l)
  coded-waits t code shapes l = every-code k code (λ f. Waits (f t)) plain-waits shapes
      (λ h x a. waits-then (register_at k x) _ (λ x. target-waits t (tetra_wyde code x 0) near_reach k.at Near a)) (λ h a. target-waits t (tetra_whole code 0) far_reach k.at Far a) l

  -- ---- data

  abbrev DataWaits : Answer Data → Type 0
  DataWaits a = Gives (λ (d : Data). AreUnknown k.names d.waits) a

  known-is : (n : Answer ℕ) → Gives (IfFuture k.names) (known_target n)
  known-is n = search rules

  data-target : (size : ℕ) (e : Tree) → Gives (IfFuture k.names) (data_target k size e)
  data-target size e = cond_both (size == 8) (target_at k e) (known_target (and_then (pure_at k e) (data_number size))) (Gives (IfFuture k.names)) (λ eight. target-unknown k e) (λ other. known-is _)

  datum-waits : (t : Targets) (line size place : ℕ) (target : Target) → IfFuture k.names target → AreUnknown k.names (datum t line size place target).waits
  datum-waits t line size place target h = search rules

  rest-waits : (first : Data) (rest : Answer Data) → AreUnknown k.names first.waits → DataWaits rest → DataWaits (with_rest first rest)
  rest-waits first rest h g = grind (arith, all-append)

  data-waits : (t : Targets) (line size place : ℕ) (es : List Tree) → DataWaits (data_of t k line size place es)
  unfolding data_of
  data-waits t line size place [] = tt
  data-waits t line size place (e ∷ es) =
      after-gives (IfFuture k.names) (λ (d : Data). AreUnknown k.names d.waits) (data_target k size e)
      (λ target. with_rest (datum t line size place target) (data_of t k line size ((place + size) % 2 ^ 64) es))
      (data-target size e)
      (λ target h. rest-waits (datum t line size place target) (data_of t k line size ((place + size) % 2 ^ 64) es) (datum-waits t line size place target h) (data-waits t line size ((place + size) % 2 ^ 64) es))

  data-form-waits : (t : Targets) (line size : ℕ) (es : List Tree) → DataWaits (data_form t k line size es)
  data-form-waits t line size [] = tt
  data-form-waits t line size (e ∷ es) = data-waits t line size k.at (e ∷ es)

  -- ---- statements

  abbrev StatementWaits : Answer Placed → Type 0
  StatementWaits a = Gives (λ (p : Placed). AreUnknown k.names p.waits) a

  bytes-wait : (label : Option Label) (d : Data) → AreUnknown k.names d.waits → StatementWaits (with_bytes k label d)
  bytes-wait label d h = cond_both (nat_lt 0x6000_0000_0000_0000 (k.at + length d.bytes)) (Err BadPlace) _ StatementWaits (λ high. tt) (λ low. h)

  data-wait : (label : Option Label) (a : Answer Data) → DataWaits a → StatementWaits (with_data k label a)
  data-wait label a h = after-gives (λ (d : Data). AreUnknown k.names d.waits) (λ (p : Placed). AreUnknown k.names p.waits) a (with_bytes k label) h (bytes-wait label)

  tetra-wait : (line : ℕ) (label : Option Label) (a : Answer Tetra) → Waits a → StatementWaits (with_tetra k line label a)
  tetra-wait line label a h = search rules

  silent-waits : (a : Answer Placed) → AreSilent k a → StatementWaits a
  unfolding AreSilent
  silent-waits a h = search rules

pub gives-value : {A : Type 0} (P : A → Type 0) (a : Answer A) (x : A) → Gives P a → a ≡ Ok x → P x
gives-value P a x h is = search rules

pub encoding-awaits : (t : Targets) (k : Known) (s : StatementTree) (p : Placed) → encoding t k s ≡ Ok p → AreUnknown k.names p.waits
encoding-awaits t k s p is =
    let here = at_place k s in
    gives-value (λ (p : Placed). AreUnknown k.names p.waits) (encoding t k s) p
    (every-statement k s (λ f. Gives (λ (p : Placed). AreUnknown k.names p.waits) (f t)) (silent-waits here)
    (λ size es small eights. data-wait here s.label _ (data-form-waits here t s.line size es))
    (λ shapes code l fours even. tetra-wait here s.line s.label _ (coded-waits here t code shapes l))
    (λ a fours none. tetra-wait here s.line s.label a (plain-waits here a none))) is
