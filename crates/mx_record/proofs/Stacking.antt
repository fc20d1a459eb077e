-- The registers of the register stack at their places.
use Rattle.std.proofs.Common.{◌≡◌, ◌≤◌, ◌<◌, ℕ, ◌+◌, ◌-◌, ◌^◌, ◌==◌, nat_lt, max, Bool, true, false, cond, List, [], ◌∷◌, ◌++◌, length, arith, refl, sym, ◌∙◌, ap, ⊎_elim}
use Rattle.std.proofs.lemmas.Bool.{cond_both, cases_lt}
use Rattle.std.proofs.lemmas.Bool.Decides.{nat_tests}
use Rattle.std.proofs.lemmas.List.{get_or_past, length-append}
use Rattle.std.proofs.Math.ListN.{get_or-append}
use Rattle.std.proofs.Math.Seq.{get_or-append_right}
use Rattle.mx_ring.specs.Stack.{Stack, visible, hidden_octas, hidden_count, local_count, stack_address, stack_index, stack_octa, in_stack_area}
use Rattle.mx_core.specs.State.{State, octa}
use Rattle.mx_record.specs.Pictures.{all_registers, octa_of}

-- PLACES

-- a zero after the last octa is what was there
pub zero-pushed : (octas : List ℕ) (q : ℕ) → octa_of (octas ++ 0 ∷ []) q ≡ octa_of octas q
zero-pushed octas q = ⊎_elim
    (λ l. get_or-append octas (0 ∷ []) 0 q l)
    (λ l. get_or-append_right octas (0 ∷ []) q 0 l ∙ one (q - length octas) ∙ sym (get_or_past octas q 0 l))
    (cases_lt q (length octas))
  where
    one : (i : ℕ) → octa_of (0 ∷ []) i ≡ 0
    one i = ⊎_elim (λ l. let first : i ≡ 0 = omega (arith, l) in ap (octa_of (0 ∷ [])) first) (λ l. get_or_past (0 ∷ []) i 0 l) (cases_lt i 1)

-- WHAT IS SEEN

-- an octa of the stack area
pub area-seen : (s : State) (i : ℕ) → i < 2 ^ 20 → octa s (stack_address i) ≡ stack_octa s.stack i
unfolding octa
area-seen s i l =
    let inside : in_stack_area (stack_address i) ≡ true = grind (arith, nat_tests) in
    let place : stack_index (stack_address i) ≡ i = omega arith in
    ap (λ (b : Bool). cond b (stack_octa s.stack (stack_index (stack_address i))) (s.octas (stack_address i))) inside ∙ ap (stack_octa s.stack) place

-- FOLLOWING

-- the octas below a place are those afterwards, and the others those before
abbrev pub Followed : (ℕ → ℕ) → (ℕ → ℕ) → (ℕ → ℕ) → ℕ → Type 0
Followed now start final i = (q : ℕ) → now q ≡ cond (nat_lt q i) (final q) (start q)

pub followed-first : (start final : ℕ → ℕ) (i : ℕ) → ((q : ℕ) → q < i → final q ≡ start q) → Followed start start final i
followed-first start final i same q = cond_both (nat_lt q i) (final q) (start q) (λ x. start q ≡ x) (λ e. sym (same q (grind (arith, nat_tests)))) (λ _. refl)

pub followed-here : (now start final : ℕ → ℕ) (i : ℕ) → Followed now start final i → now i ≡ start i
followed-here now start final i h =
    let apart : nat_lt i i ≡ false = grind (arith, nat_tests) in
    h i ∙ ap (λ b. cond b (final i) (start i)) apart

pub followed-next : (now later start final : ℕ → ℕ) (i new : ℕ) → Followed now start final i → ((q : ℕ) → later q ≡ cond (q == i) new (now q)) → new ≡ final i → Followed later start final (i + 1)
followed-next now later start final i new h put e q = put q ∙ by (q == i) refl
  where
    by : (b : Bool) → (q == i) ≡ b → cond b new (now q) ≡ cond (nat_lt q (i + 1)) (final q) (start q)
    by true f =
        let same : q ≡ i = grind (arith, nat_tests) in
        let under : true ≡ nat_lt q (i + 1) = grind (arith, nat_tests) in
        e ∙ ap final (sym same) ∙ ap (λ b. cond b (final q) (start q)) under
    by false f =
        let under : nat_lt q i ≡ nat_lt q (i + 1) = grind (arith, nat_tests) in
        h q ∙ ap (λ b. cond b (final q) (start q)) under

-- all places below it, where the others stay
pub followed-all : (now start final : ℕ → ℕ) (i : ℕ) → Followed now start final i → ((q : ℕ) → i ≤ q → start q ≡ final q) → (q : ℕ) → now q ≡ final q
followed-all now start final i h same q = h q ∙ cond_both (nat_lt q i) (final q) (start q) (λ x. x ≡ final q) (λ _. refl) (λ e. same q (grind (arith, nat_tests)))

-- after the registers there are zeros
pub zeros-following : (z : Stack) (old : ℕ → ℕ) (end after i q : ℕ) → ((i : ℕ) → end ≤ i → old i ≡ 0) → after ≡ hidden_count z + local_count z → max end after ≤ i → i ≤ q → old q ≡ octa_of (all_registers z) q
zeros-following z old end after i q zeros e l m =
    let most : length (all_registers z) ≤ q = omega (arith, length-append (hidden_octas z) (visible z).locals, e, l, m) in
    zeros q (omega (arith, l, m)) ∙ sym (get_or_past (all_registers z) q 0 most)

pub ruleset placing = (zero-pushed)

pub ruleset seeing = (area-seen)
