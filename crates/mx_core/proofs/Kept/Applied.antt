-- An effect that is carried out keeps what holds of the machine, and the list does the same.
use Rattle.std.proofs.Common.{◌≡◌, ℕ, ◌+◌, ◌^◌, ◌<◌, false, List, [], ◌∷◌, Option, None, Some, length, min, refl, sym, subst, ◌∙◌, ap}
use Rattle.mx_mem.specs.Parts.{with_part}
use Rattle.mx_ring.specs.Stack.{Stack, as_listed, hidden_count, spilled_count, in_stack_area, set_overfills, popped, saved, unsaved}
use Rattle.mx_code.specs.SpecialRegisters.{rJ, rW, rX, rY, rZ, rB}
use Rattle.mx_core.specs.Bounds.{as_list_state}
use Rattle.mx_core.specs.Deeds.{with_result, with_store, with_specials, moved, tripped, trip_specials, onward, applied, address_after}
use Rattle.mx_core.specs.Effects.{Effect, Store, Tripping, Move, stays, pushes, pops, saves, unsaves, cuts, moves_globals}
use Rattle.mx_code.specs.Instructions.{next_of}
use Rattle.mx_code.specs.declared.instruction.Instruction.{Instruction}
use Rattle.mx_core.specs.State.{State, with_octa, with_special, with_value_in, special_register}
use Rattle.mx_core.specs.Stops.{page_fault}
use Rattle.mx_core.proofs.Kept.Rings.{IsRinged, set-listed, cut-listed, globals-listed, push-listed, pop-listed, save-listed, unsave-listed}
use Rattle.mx_core.proofs.Same.Seen.{same-hidden, same-register, same-special, same-octa}
use Rattle.mx_core.proofs.Kept.Stages.{IsSound, MoveFits, MoveReads, octa-on-page, result-sound, store-sound, specials-sound, moved-sound, tripped-sound, onward-sound}

-- an effect moves the register stack, or does something else
pub data Shape (z : Stack) (e : Effect) : Type 0 where
  plain : e.move ≡ stays → Shape z e
  moving : e.result ≡ None → e.store ≡ None → e.trip ≡ None → MoveFits z e.move → Shape z e

-- a destination is not refused
abbrev pub ResultFits : Stack → ℕ → Option ℕ → Type 0
ResultFits z k None = Unit {0}
ResultFits z k (Some x) = set_overfills z k ≡ false

-- what comes before the move
abbrev pub before : State → ℕ → Effect → State
before s k e = with_specials (with_store (with_result s k e.result) e.store) e.special

pub specials-stack : (s : State) (more : List (ℕ × ℕ)) → (with_specials s more).stack ≡ s.stack
specials-stack s [] = refl
specials-stack s ((code, value) ∷ more) = specials-stack (with_special s code value) more

pub before-stack : (s : State) (k : ℕ) (e : Effect) → e.result ≡ None → e.store ≡ None → (before s k e).stack ≡ s.stack
before-stack s k e p q =
    specials-stack (with_store (with_result s k e.result) e.store) e.special ∙ ap (λ (t : Option Store). (with_store (with_result s k e.result) t).stack) q ∙ ap (λ (r : Option ℕ). (with_result s k r).stack) p

pub fits-before : (s : State) (k : ℕ) (e : Effect) → Shape s.stack e → MoveFits (before s k e).stack e.move
fits-before s k e (plain m) = subst (MoveFits (before s k e).stack) (sym m) tt
fits-before s k e (moving p q t f) = subst (λ (z : Stack). MoveFits z e.move) (sym (before-stack s k e p q)) f

pub reads-before : (s : State) (k : ℕ) (e : Effect) → Shape s.stack e → MoveReads s.stack e.move → MoveReads (before s k e).stack e.move
reads-before s k e (plain m) g = subst (MoveReads (before s k e).stack) (sym m) tt
reads-before s k e (moving p q t f) g = subst (λ (z : Stack). MoveReads z e.move) (sym (before-stack s k e p q)) g

same-page : (s : State) (k : ℕ) (r : Option ℕ) (store : Option Store) → page_fault (with_result s k r) store ≡ page_fault s store
same-page s k None store = refl
same-page s k (Some x) None = refl
same-page s k (Some x) (Some store) = refl

result-fits : (P : Type 0) (s : State) (k : ℕ) (r : Option ℕ) → IsSound P s → ResultFits s.stack k r → IsSound P (with_result s k r)
result-fits P s k None h f = h
result-fits P s k (Some x) h f = result-sound P s k (Some x) h f

pub before-sound : (P : Type 0) (s : State) (k : ℕ) (e : Effect) → IsSound P s → ResultFits s.stack k e.result → page_fault s e.store ≡ None → IsSound P (before s k e)
before-sound P s k e h r o = specials-sound P _ e.special (store-sound P (with_result s k e.result) e.store (result-fits P s k e.result h r) (same-page s k e.result e.store ∙ o))

pub applied-sound : (P : Type 0) (s : State) (i : Instruction) (k : ℕ) (e : Effect) → IsSound P s → ResultFits s.stack k e.result → page_fault s e.store ≡ None → Shape s.stack e → MoveReads s.stack e.move → IsSound P (applied s i k e)
unfolding applied
applied-sound P s i k e h r o f g =
    onward-sound P _ (address_after e e.trip) (tripped-sound P _ i e.trip (moved-sound P (before s k e) e.move (before-sound P s k e h r o) (fits-before s k e f) (reads-before s k e f g)))

-- THE LIST DOES THE SAME

-- a store outside the stack area
abbrev pub StoresOutside : Option Store → Type 0
StoresOutside None = Unit {0}
StoresOutside (Some store) = in_stack_area store.at ≡ false

-- UNSAVE of a frame that is spilled
abbrev pub MovesSpilled : Stack → Move → Type 0
MovesSpilled z (unsaves i) = i < spilled_count z
MovesSpilled z move = Unit {0}

pub value-listed : (s : State) (k x : ℕ) → IsRinged s.stack → with_value_in (as_list_state s) k x ≡ as_list_state (with_value_in s k x)
value-listed s k x r = ap (λ (z : Stack). record s { stack = z }) (set-listed s.stack k x r)

result-listed : (s : State) (k : ℕ) (r : Option ℕ) → IsRinged s.stack → with_result (as_list_state s) k r ≡ as_list_state (with_result s k r)
result-listed s k None g = refl
result-listed s k (Some x) g = value-listed s k x g

pub octa-listed : (s : State) (a x : ℕ) → in_stack_area a ≡ false → with_octa (as_list_state s) a x ≡ as_list_state (with_octa s a x)
octa-listed s a x e = octa-on-page (as_list_state s) a x e ∙ sym (ap as_list_state (octa-on-page s a x e))

store-listed : (s : State) (store : Option Store) → StoresOutside store → with_store (as_list_state s) store ≡ as_list_state (with_store s store)
store-listed s None e = refl
store-listed s (Some store) e =
    ap (λ x. with_octa (as_list_state s) store.at (with_part store.part x store.at store.value)) (same-octa s s.stack store.at e) ∙ octa-listed s store.at _ e

pub specials-listed : (s : State) (more : List (ℕ × ℕ)) → with_specials (as_list_state s) more ≡ as_list_state (with_specials s more)
specials-listed s [] = refl
specials-listed s ((code, value) ∷ more) = specials-listed (with_special s code value) more

pub hidden-listed : (z : Stack) → hidden_count (as_listed z) ≡ hidden_count z
hidden-listed z = ap length (same-hidden z)

-- a stack with the mark at the number of its hidden octas
marked-listed : (s : State) (y z : Stack) → y ≡ as_listed z → record s { stack = y; mark = hidden_count y } ≡ as_list_state (record s { stack = z; mark = hidden_count z })
marked-listed s y z e = ap (λ (x : Stack). record s { stack = x; mark = hidden_count x }) e ∙ ap (λ m. record s { stack = as_listed z; mark = m }) (hidden-listed z)

moved-listed : (s : State) (move : Move) → IsRinged s.stack → MoveFits s.stack move → MovesSpilled s.stack move → moved (as_list_state s) move ≡ as_list_state (moved s move)
moved-listed s stays r f g = refl
moved-listed s (pushes x) r f g = ap (λ (z : Stack). record s { stack = z }) (push-listed s.stack x r f)
moved-listed s (pops x) r f g = ap (λ (z : Stack). record s { stack = z; mark = min s.mark (hidden_count z) }) (pop-listed s.stack x r) ∙ ap (λ m. record s { stack = as_listed (popped s.stack x); mark = min s.mark m }) (hidden-listed (popped s.stack x))
moved-listed s (saves x specials) r f g = marked-listed s _ (saved s.stack x specials) (save-listed s.stack x specials r f.1)
moved-listed s (unsaves i) r f g = marked-listed s _ (unsaved s.stack i) (unsave-listed s.stack i r g)
moved-listed s (cuts l) r f g = ap (λ (z : Stack). record s { stack = z }) (cut-listed s.stack l r)
moved-listed s (moves_globals n) r f g = ap (λ (z : Stack). record s { stack = z }) (globals-listed s.stack n r)

-- the special registers of a trip
trip-specials : (s : State) (i : Instruction) (t : Tripping) → trip_specials (as_list_state s) i t ≡ trip_specials s i t
trip-specials s i t = ap (λ x. (rW, next_of i) ∷ (rX, 2 ^ 63 + i.word) ∷ (rY, t.y) ∷ (rZ, t.z) ∷ (rB, x) ∷ []) (same-register s.stack 255)

trip-listed : (s : State) (i : Instruction) (t : Tripping) → IsRinged s.stack → tripped (as_list_state s) i (Some t) ≡ as_list_state (tripped s i (Some t))
trip-listed s i t r =
    ap (λ (more : List (ℕ × ℕ)). with_value_in (with_specials (as_list_state s) more) 255 (special_register (as_list_state s) rJ)) (trip-specials s i t) ∙ ap (λ (u : State). with_value_in u 255 (special_register (as_list_state s) rJ)) (specials-listed s (trip_specials s i t)) ∙ ap (λ x. with_value_in (as_list_state (with_specials s (trip_specials s i t))) 255 x) (same-special s s.stack rJ refl) ∙ value-listed (with_specials s (trip_specials s i t)) 255 _ (subst IsRinged (sym (specials-stack s (trip_specials s i t))) r)

tripped-listed : (s : State) (i : Instruction) (t : Option Tripping) → IsRinged s.stack → tripped (as_list_state s) i t ≡ as_list_state (tripped s i t)
tripped-listed s i None r = refl
tripped-listed s i (Some t) r = trip-listed s i t r

untripped-listed : (s : State) (i : Instruction) (t : Option Tripping) → t ≡ None → tripped (as_list_state s) i t ≡ as_list_state (tripped s i t)
untripped-listed s i None e = refl
untripped-listed s i (Some t) e = absurd (cc)

shape-listed : (P : Type 0) (s : State) (i : Instruction) (k : ℕ) (e : Effect) → Shape s.stack e → IsSound P (before s k e) → tripped (as_list_state (moved (before s k e) e.move)) i e.trip ≡ as_list_state (tripped (moved (before s k e) e.move) i e.trip)
shape-listed P s i k e (plain m) h = tripped-listed (moved (before s k e) e.move) i e.trip (subst (λ (v : Move). IsRinged (moved (before s k e) v).stack) (sym m) h.ring)
shape-listed P s i k e (moving p q t f) h = untripped-listed (moved (before s k e) e.move) i e.trip t

spilled-before : (s : State) (k : ℕ) (e : Effect) → Shape s.stack e → MovesSpilled s.stack e.move → MovesSpilled (before s k e).stack e.move
spilled-before s k e (plain m) g = subst (MovesSpilled (before s k e).stack) (sym m) tt
spilled-before s k e (moving p q t f) g = subst (λ (z : Stack). MovesSpilled z e.move) (sym (before-stack s k e p q)) g

before-listed : (s : State) (k : ℕ) (e : Effect) → IsRinged s.stack → StoresOutside e.store → before (as_list_state s) k e ≡ as_list_state (before s k e)
before-listed s k e r o =
    ap (λ (u : State). with_specials (with_store u e.store) e.special) (result-listed s k e.result r) ∙ ap (λ (u : State). with_specials u e.special) (store-listed (with_result s k e.result) e.store o) ∙ specials-listed (with_store (with_result s k e.result) e.store) e.special

pub applied-listed : (P : Type 0) (s : State) (i : Instruction) (k : ℕ) (e : Effect) → IsSound P s → ResultFits s.stack k e.result → page_fault s e.store ≡ None → Shape s.stack e → StoresOutside e.store → MovesSpilled s.stack e.move → applied (as_list_state s) i k e ≡ as_list_state (applied s i k e)
unfolding applied
applied-listed P s i k e h r o f g q =
    let b : State = before s k e in
    let hb : IsSound P b = before-sound P s k e h r o in
    let move : moved (before (as_list_state s) k e) e.move ≡ as_list_state (moved b e.move) =
    ap (λ (u : State). moved u e.move) (before-listed s k e h.ring g) ∙ moved-listed b e.move hb.ring (fits-before s k e f) (spilled-before s k e f q) in
    ap (λ (u : State). onward (tripped u i e.trip) (address_after e e.trip)) move ∙ ap (λ (u : State). onward u (address_after e e.trip)) (shape-listed P s i k e f hb)
