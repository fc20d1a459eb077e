-- The registers of a machine with no memory of its own, one after another.
use Rattle.std.proofs.Common.{◌≡◌, ◌≤◌, ◌<◌, ℕ, ◌+◌, ◌-◌, ◌&&◌, Bool, true, false, nat_lt, nat_le, List, [], ◌∷◌, ◌++◌, length, get_or, drop, replicate, slice_set, arith, length-append, refl, sym, ap, ◌∙◌, ⊎_elim}
use Rattle.std.proofs.lemmas.Bool.{cases_eq}
use Rattle.std.proofs.lemmas.Bool.Decides.{nat_tests}
use Rattle.std.proofs.lemmas.List.{length-replicate, length-set, get_or-set_same, get_or-set_other, ext_get_or}
use Rattle.mx_registers.specs.HiddenPart.{with_room}
use Rattle.mx_ring.specs.RegisterList.{list_at_start}
use Rattle.mx_registers.specs.Registers.{Registers, is_marginal, with_value}
use Rattle.mx_ring.specs.Stack.{listed, windowed, set_overfills, with_register, with_global_start}
use Rattle.mx_ring.specs.Window.{Window, as_list, window_at_start}
use Rattle.mx_core.specs.Bare.{bare, window_with}
use Rattle.mx_core.specs.Bounds.{as_list_state}

same-window : (v w : Window) → windowed v ≡ windowed w → v ≡ w
same-window v w e = cc e

-- a global register has room
not-marginal : (v : Registers) (k : ℕ) → v.first_global ≤ k → is_marginal v k ≡ false
not-marginal v k l = grind (arith, nat_tests)

pub global-fits : (w : Window) (k : ℕ) → w.visible.first_global ≤ k → set_overfills (windowed w) k ≡ false
unfolding set_overfills
global-fits w k l = rw (not-marginal w.visible k l) refl

global-set : (w : Window) (k x : ℕ) → w.visible.first_global ≤ k → with_register (windowed w) k x ≡ windowed (record w { visible = record w.visible { globals = slice_set w.visible.globals (k - w.visible.first_global) x } })
unfolding with_register with_value
global-set w k x l =
    let above : nat_le w.visible.first_global k ≡ true = grind (arith, nat_tests) in
    rw (not-marginal w.visible k l, above) refl

-- the registers at the start, with these locals, from $g on these globals
abbrev pub registers_with : List ℕ → ℕ → List ℕ → Registers
registers_with locals g globals = record { locals = locals; first_global = g; globals = globals }

-- the globals below $k have their values
pub record Filled (f : ℕ → ℕ) (size g k : ℕ) (w : Window) : Type 0 where
  pub shape : w ≡ window_with size (registers_with [] g w.visible.globals)
  pub reached : g ≤ k
  pub long : length w.visible.globals + g ≡ 256
  pub filled : (q : ℕ) → q + g < k → get_or w.visible.globals q 0 ≡ f (g + q)

pub globals-begun : (f : ℕ → ℕ) (old new : Window) (g h : ℕ) → old ≡ window_at_start old.size → h ≡ g → g ≤ 255 → windowed new ≡ with_global_start (windowed old) h → Filled f old.size g g new
unfolding with_global_start
globals-begun f old new g h start e l w = record {
  shape = is ∙ ap (λ gs. window_with old.size (registers_with [] g gs)) (sym (ap (λ (v : Window). v.visible.globals) is));
  reached = omega arith;
  long = rw (ap (λ (v : Window). v.visible.globals) is) (omega (arith, length-append {A = ℕ} (replicate (255 - g) 0) (0 ∷ []), length-replicate {A = ℕ} (255 - g) 0));
  filled = λ q m. absurd (omega arith);
}
  where
    none : g - 255 ≡ 0
    none = omega arith

    is : new ≡ window_with old.size (registers_with [] g (replicate (255 - g) 0 ++ 0 ∷ []))
    is = same-window new _ (w ∙ ap (λ n. with_global_start (windowed n) h) start ∙ ap (λ n. with_global_start (windowed (window_at_start old.size)) n) e) ∙ ap (λ n. window_with old.size (registers_with [] g (replicate (255 - g) 0 ++ drop n (0 ∷ [])))) none

pub globals-fit : (f : ℕ → ℕ) (size g k : ℕ) (w : Window) → Filled f size g k w → set_overfills (windowed w) k ≡ false
globals-fit f size g k w h = global-fits w k (omega (arith, ap (λ (v : Window). v.visible.first_global) h.shape, h.reached))

pub globals-next : (f : ℕ → ℕ) (size g k x : ℕ) (w n : Window) → Filled f size g k w → k < 256 → windowed n ≡ with_register (windowed w) k x → x ≡ f k → Filled f size g (k + 1) n
globals-next f size g k x w n h l e v = record {
  shape = is ∙ ap (λ gs. window_with size (registers_with [] g gs)) (sym globals);
  reached = omega (arith, h.reached);
  long = rw globals (ap (λ m. m + g) (length-set w.visible.globals (k - g) x) ∙ h.long);
  filled = λ q m. ap (λ gs. get_or gs q 0) globals ∙ ⊎_elim (λ d. here q d) (λ ne. near q m ne) (cases_eq q (k - g));
}
  where
    first : w.visible.first_global ≡ g
    first = ap (λ (u : Window). u.visible.first_global) h.shape

    is : n ≡ window_with size (registers_with [] g (slice_set w.visible.globals (k - g) x))
    is =
        same-window n _ (e ∙ global-set w k x (omega (arith, first, h.reached)))
        ∙ ap (λ j. record w { visible = record w.visible { globals = slice_set w.visible.globals (k - j) x } }) first
        ∙ ap (λ (u : Window). record u { visible = record u.visible { globals = slice_set w.visible.globals (k - g) x } }) h.shape

    globals : n.visible.globals ≡ slice_set w.visible.globals (k - g) x
    globals = ap (λ (u : Window). u.visible.globals) is

    here : (q : ℕ) → q ≡ k - g → get_or (slice_set w.visible.globals (k - g) x) q 0 ≡ f (g + q)
    here q d =
        let room : k - g < length w.visible.globals = omega (arith, h.long, h.reached) in
        let back : k ≡ g + q = omega (arith, h.reached) in
        ap (λ j. get_or (slice_set w.visible.globals (k - g) x) j 0) d ∙ get_or-set_same w.visible.globals (k - g) x 0 room ∙ v ∙ ap f back

    near : (q : ℕ) → q + g < k + 1 → (q ≡ k - g → ⊥) → get_or (slice_set w.visible.globals (k - g) x) q 0 ≡ f (g + q)
    near q m ne =
        let before : q + g < k = omega (arith, h.reached) in
        get_or-set_other w.visible.globals (k - g) q x 0 ne ∙ h.filled q before

-- the value that $k has among these globals
abbrev pub value_among : List ℕ → ℕ → ℕ → ℕ
value_among globals g k = get_or globals (k - g) 0

pub all-filled : (globals : List ℕ) (size g k : ℕ) (w : Window) → length globals + g ≡ 256 → 256 ≤ k → Filled (value_among globals g) size g k w → w ≡ window_with size (registers_with [] g globals)
all-filled globals size g k w long l h = h.shape ∙ ap (λ gs. window_with size (registers_with [] g gs)) all
  where
    all : w.visible.globals ≡ globals
    all = ext_get_or 0 w.visible.globals globals (omega (arith, h.long, long))
        (λ q m. h.filled q (omega (arith, h.long)) ∙ (let e : (g + q) - g ≡ q = omega arith in ap (λ i. get_or globals i 0) e))

-- $0 AND $1

and-false : (b : Bool) → (b && false) ≡ false
and-false true = refl
and-false false = refl

first-fits : (size g : ℕ) (gs : List ℕ) → set_overfills (windowed (window_with size (registers_with [] g gs))) 0 ≡ false
unfolding set_overfills
first-fits size g gs = and-false (is_marginal (registers_with [] g gs) 0)

second-fits : (size g a : ℕ) (gs : List ℕ) → set_overfills (windowed (window_with size (registers_with (a ∷ []) g gs))) 1 ≡ false
unfolding set_overfills
second-fits size g a gs = and-false (is_marginal (registers_with (a ∷ []) g gs) 1)

first-set : (size g x : ℕ) (gs : List ℕ) → 256 ≤ size → 32 ≤ g → with_register (windowed (window_with size (registers_with [] g gs))) 0 x ≡ windowed (window_with size (registers_with (x ∷ []) g gs))
unfolding with_register with_value with_room
first-set size g x gs l m =
    let below : nat_lt 0 g ≡ true = grind (arith, nat_tests) in
    let not_global : nat_le g 0 ≡ false = grind (arith, nat_tests) in
    let room : nat_lt 1 size ≡ true = grind (arith, nat_tests) in
    rw (below, not_global, room) refl

second-set : (size g a x : ℕ) (gs : List ℕ) → 256 ≤ size → 32 ≤ g → with_register (windowed (window_with size (registers_with (a ∷ []) g gs))) 1 x ≡ windowed (window_with size (registers_with (a ∷ x ∷ []) g gs))
unfolding with_register with_value with_room
second-set size g a x gs l m =
    let below : nat_lt 1 g ≡ true = grind (arith, nat_tests) in
    let not_global : nat_le g 1 ≡ false = grind (arith, nat_tests) in
    let room : nat_lt 2 size ≡ true = grind (arith, nat_tests) in
    rw (below, not_global, room) refl

pub none-fits : (w : Window) (size g : ℕ) (gs : List ℕ) → w ≡ window_with size (registers_with [] g gs) → set_overfills (windowed w) 0 ≡ false
none-fits w size g gs e = ap (λ v. set_overfills (windowed v) 0) e ∙ first-fits size g gs

pub first-is : (w n : Window) (size g x : ℕ) (gs : List ℕ) → w ≡ window_with size (registers_with [] g gs) → 256 ≤ size → 32 ≤ g → windowed n ≡ with_register (windowed w) 0 x →
    n ≡ window_with size (registers_with (x ∷ []) g gs)
first-is w n size g x gs e l m h = same-window n _ (h ∙ ap (λ v. with_register (windowed v) 0 x) e ∙ first-set size g x gs l m)

pub one-fits : (w : Window) (size g a : ℕ) (gs : List ℕ) → w ≡ window_with size (registers_with (a ∷ []) g gs) → set_overfills (windowed w) 1 ≡ false
one-fits w size g a gs e = ap (λ v. set_overfills (windowed v) 1) e ∙ second-fits size g a gs

pub second-is : (w n : Window) (size g a x : ℕ) (gs : List ℕ) → w ≡ window_with size (registers_with (a ∷ []) g gs) → 256 ≤ size → 32 ≤ g → windowed n ≡ with_register (windowed w) 1 x →
    n ≡ window_with size (registers_with (a ∷ x ∷ []) g gs)
second-is w n size g a x gs e l m h = same-window n _ (h ∙ ap (λ v. with_register (windowed v) 1 x) e ∙ second-set size g a x gs l m)

-- THE LIST

pub bare-listed : (g first second size : ℕ) (globals : List ℕ) → bare g globals first second (listed list_at_start) ≡ as_list_state (bare g globals first second (windowed (window_at_start size)))
unfolding as_list
bare-listed g first second size globals = refl

pub ruleset starting = (bare-listed)
