-- What a deed does to memory is taken back by its note.
use Rattle.std.proofs.Common.{◌≡◌, ℕ, ◌+◌, ◌-◌, ◌/◌, ◌^◌, ◌<◌, ◌==◌, Bool, true, false, not, cond, List, [], ◌∷◌, Option, None, Some, arith, refl, sym, subst, ◌∙◌, ap, ⊎_elim}
use Rattle.std.proofs.lemmas.Bool.{cases_Bool}
use Rattle.std.proofs.lemmas.Bool.Decides.{nat_tests}
use Rattle.mx_mem.specs.Dropping.{without_page, pages_without}
use Rattle.mx_mem.specs.Memory.{stored_at}
use Rattle.mx_mem.specs.Parts.{with_part}
use Rattle.mx_word.specs.Octas.{with_page}
use Rattle.mx_ring.specs.Stack.{in_stack_area}
use Rattle.mx_core.specs.Deeds.{with_result, with_store, with_specials, moved, tripped, trip_specials, onward, address_after, applied}
use Rattle.mx_core.specs.Effects.{Effect, Store, Tripping, Move, stays, pushes, pops, saves, unsaves, cuts, moves_globals}
use Rattle.mx_code.specs.declared.instruction.Instruction.{Instruction}
use Rattle.mx_core.specs.State.{State, octa, with_special}
use Rattle.mx_core.specs.Undoing.{OctaWas, MayStore, MemoryFits, IsPaged, memory_undone, memory_noted}
use Rattle.mx_core.proofs.Choices.{chosen-by}
use Rattle.mx_core.proofs.Kept.Stages.{octa-in-stack, octa-on-page}

-- WHAT KEEPS IT

-- the octas, the pages and how many they are
abbrev pub memory_of : State → (ℕ → ℕ) × (ℕ → Bool) × ℕ
memory_of s = (s.octas, s.pages, s.page_count)

result-memory : (s : State) (k : ℕ) (r : Option ℕ) → memory_of (with_result s k r) ≡ memory_of s
result-memory s k None = refl
result-memory s k (Some x) = refl

specials-memory : (s : State) (more : List (ℕ × ℕ)) → memory_of (with_specials s more) ≡ memory_of s
specials-memory s [] = refl
specials-memory s ((code, value) ∷ more) = specials-memory (with_special s code value) more

moved-memory : (s : State) (move : Move) → memory_of (moved s move) ≡ memory_of s
moved-memory s stays = refl
moved-memory s (pushes x) = refl
moved-memory s (pops x) = refl
moved-memory s (saves x specials) = refl
moved-memory s (unsaves i) = refl
moved-memory s (cuts l) = refl
moved-memory s (moves_globals g) = refl

tripped-memory : (s : State) (i : Instruction) (t : Option Tripping) → memory_of (tripped s i t) ≡ memory_of s
tripped-memory s i None = refl
tripped-memory s i (Some t) = specials-memory s (trip_specials s i t)

-- the memory once a value is stored in another
abbrev stored-memory : (ℕ → ℕ) × (ℕ → Bool) × ℕ → ℕ → ℕ → (ℕ → ℕ) × (ℕ → Bool) × ℕ
stored-memory m a x = (stored_at m.0 a x, with_page m.1 (a / 4096), cond (m.1 (a / 4096)) m.2 (m.2 + 1))

-- what a store makes of memory: nothing, or it puts an octa outside the stack area
pub data Stores (m n : (ℕ → ℕ) × (ℕ → Bool) × ℕ) : Option Store → Type 0 where
  nothing : n ≡ m → Stores m n None
  inside : {store : Store} → in_stack_area store.at ≡ true → n ≡ m → Stores m n (Some store)
  outside : {store : Store} (x : ℕ) → in_stack_area store.at ≡ false → n ≡ stored-memory m store.at x → Stores m n (Some store)

store-memory : (s : State) (store : Option Store) → Stores (memory_of s) (memory_of (with_store s store)) store
store-memory s None = nothing refl
store-memory s (Some store) =
    let x : ℕ = with_part store.part (octa s store.at) store.at store.value in
    ⊎_elim (λ e. inside e (ap memory_of (octa-in-stack s store.at x e))) (λ e. outside x e (ap memory_of (octa-on-page s store.at x e))) (cases_Bool (in_stack_area store.at))

pub applied-memory : (s : State) (i : Instruction) (k : ℕ) (e : Effect) → Stores (memory_of s) (memory_of (applied s i k e)) e.store
unfolding applied
applied-memory s i k e =
    let u : State = with_result s k e.result in
    let v : State = with_store u e.store in
    let later : memory_of (tripped (moved (with_specials v e.special) e.move) i e.trip) ≡ memory_of v =
    tripped-memory (moved (with_specials v e.special) e.move) i e.trip ∙ moved-memory (with_specials v e.special) e.move ∙ specials-memory v e.special in
    let last : State = onward (tripped (moved (with_specials v e.special) e.move) i e.trip) (address_after e e.trip) in
    subst (λ m. Stores m (memory_of last) e.store) (result-memory s k e.result) (subst (λ m. Stores (memory_of u) m e.store) (sym later) (store-memory u e.store))

-- BACK

pub same-area : (a b : ℕ) → b / 8 ≡ a / 8 → in_stack_area b ≡ in_stack_area a
same-area a b e = grind (arith, nat_tests)

abbrev Memories : Type 0
Memories = (ℕ → ℕ) × (ℕ → Bool) × ℕ

-- memory with an octa back, or without a page
abbrev undone : OctaWas → Memories → Memories
undone o m =
    cond o.began (without_page m.0 (o.at / 4096), pages_without m.1 (o.at / 4096), cond (m.1 (o.at / 4096)) (m.2 - 1) m.2) (stored_at m.0 o.at o.octa, m.1, m.2)

undone-by : (b : Bool) (s t : State) → memory_of (cond b s t) ≡ cond b (memory_of s) (memory_of t)
undone-by true s t = refl
undone-by false s t = refl

undone-is : (o : OctaWas) (t : State) → memory_of (memory_undone (Some o) t) ≡ undone o (memory_of t)
undone-is o t = undone-by o.began _ _

abbrev was : State → ℕ → OctaWas
was s a = record { at = a; octa = s.octas a; began = not (s.pages (a / 4096)) }

-- the same octa, wherever an address in it lies
stored-same : (m : Memories) (a b x : ℕ) → b / 8 ≡ a / 8 → stored-memory m b x ≡ stored-memory m a x
stored-same m a b x e =
    let page : b / 4096 ≡ a / 4096 = omega (arith, e) in
    ap (λ j. ((λ q. cond (q / 8 == j) x (m.0 q)), with_page m.1 (b / 4096), cond (m.1 (b / 4096)) m.2 (m.2 + 1))) e
    ∙ ap (λ p. (stored_at m.0 a x, with_page m.1 p, cond (m.1 p) m.2 (m.2 + 1))) page

-- where the page is there

own-octa : (octas : ℕ → ℕ) (a q : ℕ) → (q / 8 ≡ a / 8 → octas a ≡ octas q) → cond (q / 8 == a / 8) (octas a) (octas q) ≡ octas q
own-octa octas a q h = chosen-by (λ x. x ≡ octas q) (q / 8 == a / 8) (octas a) (octas q) (λ e. h (grind (arith, nat_tests))) (λ e. refl)

twice-octa : (b : Bool) (x y z : ℕ) → cond b x (cond b y z) ≡ cond b x z
twice-octa true x y z = refl
twice-octa false x y z = refl

pub own-page : (pages : ℕ → Bool) (p q : ℕ) → pages p ≡ true → with_page pages p q ≡ pages q
own-page pages p q e = chosen-by (λ x. x ≡ pages q) (q == p) true (pages q) (λ f. let same : q ≡ p = grind (arith, nat_tests) in sym (ap pages same ∙ e)) (λ f. refl)

unstored : (s : State) (a : ℕ) → IsPaged s → (stored_at s.octas a (s.octas a), s.pages, s.page_count) ≡ memory_of s
unstored s a h = λ i. ((λ q. own-octa s.octas a q (λ e. h.octawise a q (sym e)) i), s.pages, s.page_count)

pub restored : (s : State) (a x : ℕ) → IsPaged s → s.pages (a / 4096) ≡ true →
    (stored_at (stored_at s.octas a x) a (s.octas a), with_page s.pages (a / 4096), cond (s.pages (a / 4096)) s.page_count (s.page_count + 1)) ≡ memory_of s
restored s a x h e =
    let count : cond (s.pages (a / 4096)) s.page_count (s.page_count + 1) ≡ s.page_count = ap (λ b. cond b s.page_count (s.page_count + 1)) e in
    λ i. ((λ q. (twice-octa (q / 8 == a / 8) (s.octas a) x (s.octas q) ∙ own-octa s.octas a q (λ e. h.octawise a q (sym e))) i), (λ q. own-page s.pages (a / 4096) q e i), count i)

-- where the page is not there

page-of : (q p : ℕ) → (q == p) ≡ true → q ≡ p
page-of q p e = grind (arith, nat_tests)

absent-octa : (s : State) (a q y : ℕ) → IsPaged s → s.pages (a / 4096) ≡ false → ((q / 4096 == a / 4096) ≡ false → y ≡ s.octas q) → cond (q / 4096 == a / 4096) 0 y ≡ s.octas q
absent-octa s a q y h e f = chosen-by (λ x. x ≡ s.octas q) (q / 4096 == a / 4096) 0 y (λ g. sym (h.absent q (ap s.pages (page-of (q / 4096) (a / 4096) g) ∙ e))) f

absent-page : (pages : ℕ → Bool) (p q : ℕ) (b : Bool) → pages p ≡ false → ((q == p) ≡ false → b ≡ pages q) → cond (q == p) false b ≡ pages q
absent-page pages p q b e f = chosen-by (λ x. x ≡ pages q) (q == p) false b (λ g. sym (ap pages (page-of q p g) ∙ e)) f

undropped : (s : State) (a : ℕ) → IsPaged s → s.pages (a / 4096) ≡ false →
    (without_page s.octas (a / 4096), pages_without s.pages (a / 4096), cond (s.pages (a / 4096)) (s.page_count - 1) s.page_count) ≡ memory_of s
undropped s a h e =
    let count : cond (s.pages (a / 4096)) (s.page_count - 1) s.page_count ≡ s.page_count = ap (λ b. cond b (s.page_count - 1) s.page_count) e in
    λ i. ((λ q. absent-octa s a q (s.octas q) h e (λ _. refl) i), (λ q. absent-page s.pages (a / 4096) q (s.pages q) e (λ _. refl) i), count i)

other-octa : (q a x y : ℕ) → (q / 4096 == a / 4096) ≡ false → cond (q / 8 == a / 8) x y ≡ y
other-octa q a x y e =
    let apart : (q / 8 == a / 8) ≡ false = grind (arith, nat_tests) in
    ap (λ b. cond b x y) apart

dropped-count : (p : ℕ) (pages : ℕ → Bool) (n : ℕ) → pages p ≡ false → cond (with_page pages p p) (cond (pages p) n (n + 1) - 1) (cond (pages p) n (n + 1)) ≡ n
dropped-count p pages n e =
    let there : with_page pages p p ≡ true = ap (λ b. cond b true (pages p)) (let same : (p == p) ≡ true = grind (arith, nat_tests) in same) in
    ap (λ b. cond b (cond (pages p) n (n + 1) - 1) (cond (pages p) n (n + 1))) there ∙ ap (λ b. cond b n (n + 1) - 1) e ∙ omega arith

dropped : (s : State) (a x : ℕ) → IsPaged s → s.pages (a / 4096) ≡ false → (
  without_page (stored_at s.octas a x) (a / 4096),
  pages_without (with_page s.pages (a / 4096)) (a / 4096),
  cond (with_page s.pages (a / 4096) (a / 4096)) (cond (s.pages (a / 4096)) s.page_count (s.page_count + 1) - 1) (cond (s.pages (a / 4096)) s.page_count (s.page_count + 1)),
) ≡ memory_of s
dropped s a x h e =
    λ i. (
      (λ q. absent-octa s a q (cond (q / 8 == a / 8) x (s.octas q)) h e (λ f. other-octa q a x (s.octas q) f) i),
      (λ q. absent-page s.pages (a / 4096) q (with_page s.pages (a / 4096) q) e (λ f. ap (λ b. cond b true (s.pages q)) f) i),
      dropped-count (a / 4096) s.pages s.page_count e i,
    )

-- each way that memory went

abbrev by-began : State → ℕ → Memories → Bool → Memories
by-began s a m b =
    cond b (without_page m.0 (a / 4096), pages_without m.1 (a / 4096), cond (m.1 (a / 4096)) (m.2 - 1) m.2) (stored_at m.0 a (s.octas a), m.1, m.2)

same-back : (s : State) (a : ℕ) → IsPaged s → undone (was s a) (memory_of s) ≡ memory_of s
same-back s a h = ⊎_elim
    (λ e. ap (λ b. by-began s a (memory_of s) (not b)) e ∙ unstored s a h)
    (λ e. ap (λ b. by-began s a (memory_of s) (not b)) e ∙ undropped s a h e)
    (cases_Bool (s.pages (a / 4096)))

stored-back : (s : State) (a x : ℕ) → IsPaged s → undone (was s a) (stored-memory (memory_of s) a x) ≡ memory_of s
stored-back s a x h = ⊎_elim
    (λ e. ap (λ b. by-began s a (stored-memory (memory_of s) a x) (not b)) e ∙ restored s a x h e)
    (λ e. ap (λ b. by-began s a (stored-memory (memory_of s) a x) (not b)) e ∙ dropped s a x h e)
    (cases_Bool (s.pages (a / 4096)))

-- an octa is noted where it lies outside the stack area
noted-inside : (s : State) (a : ℕ) → in_stack_area a ≡ true → memory_noted s (Some a) ≡ None
unfolding memory_noted
noted-inside s a e = ap (λ b. cond b None (Some (was s a))) e

noted-outside : (s : State) (a : ℕ) → in_stack_area a ≡ false → memory_noted s (Some a) ≡ Some (was s a)
unfolding memory_noted
noted-outside s a e = ap (λ b. cond b None (Some (was s a))) e

noted-nowhere : (s : State) → memory_noted s None ≡ None
unfolding memory_noted
noted-nowhere s = refl

-- what a note of memory makes of the memory after
pub record Back (s t : State) (n : Option OctaWas) : Type 0 where
  pub fits : MemoryFits n t
  pub back : memory_of (memory_undone n t) ≡ memory_of s

kept-back : (s t : State) (n : Option OctaWas) → n ≡ None → memory_of t ≡ memory_of s → Back s t n
kept-back s t n e f = subst (Back s t) (sym e) (record { fits = tt; back = f })

there-of : (b c : Bool) → b ≡ c → not b ≡ false → c ≡ true
there-of true c e f = sym e
there-of false c e f = absurd (cc)

unstored-back : (s t : State) (a : ℕ) → IsPaged s → a < 2 ^ 63 → memory_of t ≡ memory_of s → Back s t (Some (was s a))
unstored-back s t a h f e = record {
  fits = (f, λ b. there-of (s.pages (a / 4096)) (t.pages (a / 4096)) (ap (λ (m : Memories). m.1 (a / 4096)) (sym e)) b);
  back = undone-is (was s a) t ∙ ap (undone (was s a)) e ∙ same-back s a h;
}

outside-back : (s t : State) (a b x : ℕ) → IsPaged s → a < 2 ^ 63 → b / 8 ≡ a / 8 → memory_of t ≡ stored-memory (memory_of s) b x → Back s t (Some (was s a))
outside-back s t a b x h f d e =
    let now' : memory_of t ≡ stored-memory (memory_of s) a x = e ∙ stored-same (memory_of s) a b x d in
    let same : (a / 4096 == a / 4096) ≡ true = grind (arith, nat_tests) in
    record {
      fits = (f, λ _. ap (λ (m : Memories). m.1 (a / 4096)) now' ∙ ap (λ c. cond c true (s.pages (a / 4096))) same);
      back = undone-is (was s a) t ∙ ap (undone (was s a)) now' ∙ stored-back s a x h;
    }

by-area : (s t : State) (a : ℕ) → (in_stack_area a ≡ true → memory_of t ≡ memory_of s) → (in_stack_area a ≡ false → Back s t (Some (was s a))) → Back s t (memory_noted s (Some a))
by-area s t a inside' outside' = ⊎_elim
    (λ e. kept-back s t _ (noted-inside s a e) (inside' e))
    (λ e. subst (Back s t) (sym (noted-outside s a e)) (outside' e))
    (cases_Bool (in_stack_area a))

pub memory-back : (s t : State) (place : Option ℕ) (store : Option Store) → IsPaged s → MayStore place store → Stores (memory_of s) (memory_of t) store → Back s t (memory_noted s place)
memory-back s t None None h m (nothing e) = kept-back s t _ (noted-nowhere s) e
memory-back s t None (Some store) h m n = absurd m
memory-back s t (Some a) None h m (nothing e) = by-area s t a (λ _. e) (λ _. unstored-back s t a h m e)
memory-back s t (Some a) (Some store) h m (inside f e) = by-area s t a (λ _. e) (λ _. unstored-back s t a h m.0 e)
memory-back s t (Some a) (Some store) h m (outside x f e) =
    by-area s t a (λ g. absurd (let same = same-area a store.at m.1 in cc)) (λ _. outside-back s t a store.at x h m.0 m.1 e)
