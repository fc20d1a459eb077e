-- Each stage of carrying an effect out keeps what holds of the machine.
use Rattle.std.proofs.Common.{◌≡◌, ℕ, ◌+◌, ◌/◌, ◌^◌, ◌≤◌, ◌<◌, ◌&&◌, ◌==◌, Bool, true, false, not, cond, List, [], ◌∷◌, Option, None, Some, length, arith, sym, subst, ◌∙◌, ap, ⊎_elim}
use Rattle.std.proofs.lemmas.Bool.{cases_Bool}
use Rattle.std.proofs.lemmas.Bool.Decides.{nat_tests}
use Rattle.std.proofs.lemmas.List.{length-set}
use Rattle.mx_mem.specs.Parts.{with_part}
use Rattle.mx_mem.specs.Memory.{stored_at}
use Rattle.mx_word.specs.Octas.{with_page}
use Rattle.mx_ring.specs.Frames.{is_bad_frame}
use Rattle.mx_ring.specs.Stack.{Stack, visible, local_count, spilled_count, in_stack_area, stack_index, set_overfills, with_register, cut_to, with_global_start, push_overfills, pushed, pop_underflows, popped, save_overfills, saved, octas_to, unsaved, stack_octa, with_stack_octa}
use Rattle.mx_core.specs.Deeds.{with_result, with_store, with_specials, moved, tripped, trip_specials, onward}
use Rattle.mx_core.specs.Effects.{Store, Tripping, Move, stays, pushes, pops, saves, unsaves, cuts, moves_globals}
use Rattle.mx_code.specs.declared.instruction.Instruction.{Instruction}
use Rattle.mx_core.specs.State.{State, octa, with_octa, with_special, with_value_in, is_page_refused}
use Rattle.mx_core.specs.Stops.{page_fault}
use Rattle.mx_code.specs.declared.reason.Reason.TheVariants.{PagesFull}
use Rattle.mx_core.proofs.Choices.{no-reason}
use Rattle.mx_core.proofs.Kept.Rings.{IsRinged, set-ringed, cut-ringed, globals-ringed, push-ringed, pop-ringed, save-ringed, unsave-ringed, octa-ringed, set-spilled, push-spilled, pop-spilled, save-spilled, unsave-spilled, cut-spilled, globals-spilled, octa-spilled, room-global}

-- what holds of a machine but for its address; saved frames are spilled where P holds
pub record IsSound (P : Type 0) (s : State) : Type 0 where
  pub ring : IsRinged s.stack
  pub marked : P → s.mark ≤ spilled_count s.stack
  pub pages : s.page_count ≤ 65536
  pub specials : length s.special ≡ 32

-- a new stack above no fewer spilled octas
pub stack-sound : (P : Type 0) (s : State) (z : Stack) (mark : ℕ) → IsSound P s → IsRinged z → (P → mark ≤ spilled_count z) → IsSound P (record s { stack = z; mark = mark })
stack-sound P s z mark h r f = record { ring = r; marked = f; pages = h.pages; specials = h.specials }

pub value-sound : (P : Type 0) (s : State) (k x : ℕ) → IsSound P s → set_overfills s.stack k ≡ false → IsSound P (with_value_in s k x)
value-sound P s k x h o = stack-sound P s (with_register s.stack k x) s.mark h (set-ringed s.stack k x h.ring o) (λ p. let f : s.mark ≤ spilled_count s.stack = h.marked p in let g : spilled_count s.stack ≤ spilled_count (with_register s.stack k x) = set-spilled s.stack k x h.ring in omega arith)

pub result-sound : (P : Type 0) (s : State) (k : ℕ) (r : Option ℕ) → IsSound P s → set_overfills s.stack k ≡ false → IsSound P (with_result s k r)
result-sound P s k None h o = h
result-sound P s k (Some x) h o = value-sound P s k x h o

-- STORES

abbrev with_stack_octa_in : State → ℕ → ℕ → State
with_stack_octa_in s a x = record s { stack = with_stack_octa s.stack (stack_index a) x }

abbrev pub with_octa_on_page : State → ℕ → ℕ → State
with_octa_on_page s a x = record s {
  octas = stored_at s.octas a x;
  pages = with_page s.pages (a / 4096);
  page_count = cond (s.pages (a / 4096)) s.page_count (s.page_count + 1);
}

page-room : (p : Bool) (n : ℕ) → n ≤ 65536 → (not p && n == 65536) ≡ false → cond p n (n + 1) ≤ 65536
page-room true n f e = f
page-room false n f e = grind (arith, nat_tests)

pub octa-in-stack : (s : State) (a x : ℕ) → in_stack_area a ≡ true → with_octa s a x ≡ with_stack_octa_in s a x
unfolding with_octa
octa-in-stack s a x e = ap (λ (b : Bool). cond b (with_stack_octa_in s a x) (with_octa_on_page s a x)) e

pub octa-on-page : (s : State) (a x : ℕ) → in_stack_area a ≡ false → with_octa s a x ≡ with_octa_on_page s a x
unfolding with_octa
octa-on-page s a x e = ap (λ (b : Bool). cond b (with_stack_octa_in s a x) (with_octa_on_page s a x)) e

pub octa-sound : (P : Type 0) (s : State) (a x : ℕ) → IsSound P s → is_page_refused s a ≡ false → IsSound P (with_octa s a x)
octa-sound P s a x h o = ⊎_elim (λ e. inside e) (λ e. outside e) (cases_Bool (in_stack_area a))
  where
    inside : in_stack_area a ≡ true → IsSound P (with_octa s a x)
    inside e = subst (IsSound P) (sym (octa-in-stack s a x e)) (stack-sound P s (with_stack_octa s.stack (stack_index a) x) s.mark h (octa-ringed s.stack (stack_index a) x h.ring) (λ p. rw (octa-spilled s.stack (stack_index a) x) (h.marked p)))

    outside : in_stack_area a ≡ false → IsSound P (with_octa s a x)
    outside e = subst (IsSound P) (sym (octa-on-page s a x e)) (record {
      ring = h.ring;
      marked = h.marked;
      pages = page-room (s.pages (a / 4096)) s.page_count h.pages (sym (ap (λ b. (not b && not (s.pages (a / 4096))) && s.page_count == 65536) e) ∙ o);
      specials = h.specials;
    })

pub store-sound : (P : Type 0) (s : State) (store : Option Store) → IsSound P s → page_fault s store ≡ None → IsSound P (with_store s store)
store-sound P s None h o = h
store-sound P s (Some store) h o = octa-sound P s store.at (with_part store.part (octa s store.at) store.at store.value) h (no-reason (is_page_refused s store.at) PagesFull o)

-- SPECIAL REGISTERS

pub specials-sound : (P : Type 0) (s : State) (more : List (ℕ × ℕ)) → IsSound P s → IsSound P (with_specials s more)
specials-sound P s [] h = h
specials-sound P s ((code, value) ∷ more) h = specials-sound P (with_special s code value) more (record {
  ring = h.ring;
  marked = h.marked;
  pages = h.pages;
  specials = length-set s.special code value ∙ h.specials;
})

-- MOVES

-- the move is not refused
abbrev pub MoveFits : Stack → Move → Type 0
MoveFits z stays = Unit {0}
MoveFits z (pushes x) = push_overfills z x ≡ false
MoveFits z (pops x) = pop_underflows z ≡ false
MoveFits z (saves x specials) = ((visible z).first_global ≤ x) × (save_overfills z ≡ false)
MoveFits z (unsaves i) = (i < 2 ^ 20) × (is_bad_frame (octas_to z i) i ≡ false)
MoveFits z (cuts l) = l ≤ local_count z
MoveFits z (moves_globals g) = (local_count z ≤ g) × (32 ≤ g) × (g ≤ 255)

-- the octa that UNSAVE reads first is an octa
abbrev pub MoveReads : Stack → Move → Type 0
MoveReads z (unsaves i) = stack_octa z i < 2 ^ 64
MoveReads z move = Unit {0}

pub moved-sound : (P : Type 0) (s : State) (move : Move) → IsSound P s → MoveFits s.stack move → MoveReads s.stack move → IsSound P (moved s move)
moved-sound P s stays h f g = h
moved-sound P s (pushes x) h f g = stack-sound P s (pushed s.stack x) s.mark h (push-ringed s.stack x h.ring f) (λ p. let a : s.mark ≤ spilled_count s.stack = h.marked p in let b : spilled_count s.stack ≤ spilled_count (pushed s.stack x) = push-spilled s.stack x h.ring in omega arith)
moved-sound P s (pops x) h f g = stack-sound P s (popped s.stack x) _ h (pop-ringed s.stack x h.ring f) (λ p. pop-spilled s.stack x s.mark h.ring (h.marked p))
moved-sound P s (saves x specials) h f g = stack-sound P s (saved s.stack x specials) _ h (save-ringed s.stack x specials h.ring f.0 f.1) (λ p. save-spilled s.stack x specials h.ring f.1)
moved-sound P s (unsaves i) h f g = stack-sound P s (unsaved s.stack i) _ h (unsave-ringed s.stack i h.ring f.0 g f.1) (λ p. unsave-spilled s.stack i h.ring f.0)
moved-sound P s (cuts l) h f g = stack-sound P s (cut_to s.stack l) s.mark h (cut-ringed s.stack l h.ring f) (λ p. rw (cut-spilled s.stack l) (h.marked p))
moved-sound P s (moves_globals n) h f g = stack-sound P s (with_global_start s.stack n) s.mark h (globals-ringed s.stack n h.ring f.0 f.1 f.2) (λ p. rw (globals-spilled s.stack n) (h.marked p))

-- TRIPS

pub tripped-sound : (P : Type 0) (s : State) (i : Instruction) (t : Option Tripping) → IsSound P s → IsSound P (tripped s i t)
tripped-sound P s i None h = h
tripped-sound P s i (Some t) h = value-sound P (with_specials s (trip_specials s i t)) 255 _ (specials-sound P s (trip_specials s i t) h) (room-global s.stack h.ring)

pub onward-sound : (P : Type 0) (s : State) (a : ℕ) → IsSound P s → IsSound P (onward s a)
onward-sound P s a h = record { ring = h.ring; marked = h.marked; pages = h.pages; specials = h.specials }
