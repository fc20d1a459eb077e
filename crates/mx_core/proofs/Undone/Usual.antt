-- The little note of a usual step takes it back.
use Rattle.std.proofs.Common.{◌≡◌, ℕ, ◌+◌, ◌-◌, ◌/◌, ◌%◌, ◌^◌, ◌<◌, ◌≤◌, ◌||◌, true, false, cond, nat_le, List, [], ◌∷◌, ◌++◌, length, take, replicate, slice_index, slice_set, Option, None, Some, Result, Ok, arith, refl, sym, subst, ◌∙◌, ap}
use Rattle.std.proofs.lemmas.Bool.Decides.{nat_tests}
use Rattle.std.proofs.lemmas.List.{append_assoc, set-set, set_comm, set-get_or, take_at}
use Rattle.mx_mem.specs.Parts.{with_part}
use Rattle.mx_mem.specs.declared.part.Part.{Part}
use Rattle.mx_ring.proofs.Lists.{register-grown}
use Rattle.mx_registers.proofs.Octas.{length-octas, room-none}
use Rattle.mx_ring.proofs.Rings.{fits-of, grown-count}
use Rattle.mx_ring.proofs.TakenBack.{value-grows}
use Rattle.mx_registers.proofs.Values.{with_value-marginal}
use Rattle.mx_ring.specs.Bounds.{IsRing}
use Rattle.mx_registers.specs.HiddenPart.{octas_of, with_room}
use Rattle.mx_registers.specs.Registers.{Registers, is_marginal, with_value, with_locals_cut}
use Rattle.mx_ring.specs.Stack.{windowed, visible, with_visible, local_count, hidden_count, spilled_count, cut_to, register, with_register, set_overfills, in_stack_area, stack_octa, stack_index}
use Rattle.mx_ring.specs.Window.{Window}
use Rattle.mx_code.specs.SpecialRegisters.{rH, rJ, rR}
use Rattle.mx_core.specs.Way.Calls.{Left, left, unless, set_outcome, settled, settled_with, store_seen}
use Rattle.mx_core.specs.Deeds.{onward, with_specials}
use Rattle.mx_core.specs.Effects.{if_told}
use Rattle.mx_core.specs.Kept.{Kept, state_of}
use Rattle.mx_core.specs.Way.Noting.{PutsLink, StoresBelow}
use Rattle.mx_word.specs.Segments.{is_in_stack_segment}
use Rattle.mx_core.specs.State.{State, octa, special_register, with_special, with_value_in}
use Rattle.mx_core.specs.Undoing.{StateWas, usual, TakesBack, IsPaged, state_undone}
use Rattle.mx_code.specs.declared.reason.Reason.TheVariants.{StackFull}
use Rattle.mx_code.specs.declared.stop.Stop.{Stop}
use Rattle.mx_core.specs.declared.overwritten.Overwritten.TheVariants as was
use Rattle.mx_core.proofs.Results.Answered.{settle-ok, unless-ok}
use Rattle.mx_core.proofs.Results.Locals.{shown-set, stack-twice, no-longer-marginal}
use Rattle.mx_core.proofs.Results.Outcomes.{or-false}
use Rattle.mx_core.proofs.Kept.Stages.{octa-on-page, with_octa_on_page}
use Rattle.mx_core.proofs.Undone.Memory.{own-page, restored}
use Rattle.mx_core.proofs.Undone.Stacks.{own-register}

-- A REGISTER

register-given : (s : State) (k x next : ℕ) → k < 256 → is_marginal (visible s.stack) k ≡ false → s.pc % 4 ≡ 0 →
    TakesBack (usual (record { pc = s.pc; steps = s.steps; overwritten = was.Register k (register s.stack k) })) (onward (with_value_in s k x) next) s
unfolding state_undone register
register-given s k x next f m a = record {
  fits = record { pc = a; overwritten = (f, ap (λ v. is_marginal v k) (shown-set s.stack k x) ∙ no-longer-marginal (visible s.stack) k x) };
  back = ap (λ z. record s { stack = z }) (stack-twice s.stack k x (register s.stack k) ∙ own-register s.stack k m);
}

pub register-back : (n : StateWas) (s t : State) (at i j k x y next : ℕ) → n ≡ usual (record { pc = s.pc; steps = s.steps; overwritten = was.Register i y }) → i ≡ j → i < 256 → y ≡ register s.stack k → j ≡ k → is_marginal (visible s.stack) j ≡ false → at ≡ s.pc → at % 4 ≡ 0 →
    (Ok tt, t) ≡ left s (settled s k x next) → TakesBack n t s
register-back n s t at i j k x y next e wide low f same m here a g =
    let whole : i ≡ k = wide ∙ same in
    let note : n ≡ usual (record { pc = s.pc; steps = s.steps; overwritten = was.Register k (register s.stack k) }) =
    e ∙ ap (λ v. usual (record { pc = s.pc; steps = s.steps; overwritten = was.Register i v })) f ∙ ap (λ p. usual (record { pc = s.pc; steps = s.steps; overwritten = was.Register p (register s.stack k) })) whole in
    let apart : is_marginal (visible s.stack) k ≡ false = ap (is_marginal (visible s.stack)) (sym same) ∙ m in
    let aligned : s.pc % 4 ≡ 0 = ap (λ p. p % 4) (sym here) ∙ a in
    let below : k < 256 = subst (λ p. p < 256) whole low in
    subst (λ u. TakesBack u t s) (sym note) (subst (λ u. TakesBack (usual (record { pc = s.pc; steps = s.steps; overwritten = was.Register k (register s.stack k) })) u s) (sym (settle-ok s t k x next g).1) (register-given s k x next below apart aligned))

-- a register that is local or global can be set
pub set-back : (s t : State) (k x : ℕ) (r : Result (Unit {0}) Stop) → is_marginal (visible s.stack) k ≡ false → (r, t) ≡ left s (set_outcome s k x) → t ≡ with_value_in s k x
unfolding set_outcome set_overfills
set-back s t k x r m e =
    let room : set_overfills s.stack k ≡ false = rw m refl in
    ap (λ (p : Left). p.1) (e ∙ ap (λ b. left s (unless b StackFull (with_value_in s k x))) room)

-- A REGISTER, rH AND rR

results-given : (s : State) (k x next : ℕ) (special : List ℕ) → k < 256 → is_marginal (visible s.stack) k ≡ false → s.pc % 4 ≡ 0 → slice_set (slice_set special rR (slice_index s.special rR)) rH (slice_index s.special rH) ≡ s.special →
    TakesBack (usual (record { pc = s.pc; steps = s.steps; overwritten = was.Results k (register s.stack k) (slice_index s.special rH) (slice_index s.special rR) })) (onward (record (with_value_in s k x) { special = special }) next) s
unfolding state_undone register
results-given s k x next special f m a e =
    let stack : with_register (with_register s.stack k x) k (register s.stack k) ≡ s.stack = stack-twice s.stack k x (register s.stack k) ∙ own-register s.stack k m in
    record {
      fits = record { pc = a; overwritten = (f, ap (λ v. is_marginal v k) (shown-set s.stack k x) ∙ no-longer-marginal (visible s.stack) k x) };
      back = λ i. record s { stack = stack i; special = e i };
    }

both-own : (xs : List ℕ) → slice_set (slice_set xs rR (slice_index xs rR)) rH (slice_index xs rH) ≡ xs
both-own xs = ap (λ ys. slice_set ys rH (slice_index xs rH)) (set-get_or xs rR 0) ∙ set-get_or xs rH 0

first-back : (xs : List ℕ) (h : ℕ) → slice_set (slice_set (slice_set xs rH h) rR (slice_index xs rR)) rH (slice_index xs rH) ≡ xs
first-back xs h =
    ap (λ ys. slice_set ys rH (slice_index xs rH)) (set_comm xs rH rR h (slice_index xs rR) (λ e. omega (arith, e)) ∙ ap (λ ys. slice_set ys rH h) (set-get_or xs rR 0))
    ∙ set-set xs rH h (slice_index xs rH) ∙ set-get_or xs rH 0

specials-given : (s : State) (k x next : ℕ) (p q : Option ℕ) → k < 256 → is_marginal (visible s.stack) k ≡ false → s.pc % 4 ≡ 0 →
    TakesBack (usual (record { pc = s.pc; steps = s.steps; overwritten = was.Results k (register s.stack k) (slice_index s.special rH) (slice_index s.special rR) })) (onward (with_specials (with_value_in s k x) (if_told rH p ++ if_told rR q)) next) s
specials-given s k x next None None f m a = results-given s k x next s.special f m a (both-own s.special)
specials-given s k x next (Some h) None f m a = results-given s k x next (slice_set s.special rH h) f m a (first-back s.special h)
specials-given s k x next None (Some r) f m a =
    results-given s k x next (slice_set s.special rR r) f m a (ap (λ ys. slice_set ys rH (slice_index s.special rH)) (set-set s.special rR r (slice_index s.special rR)) ∙ both-own s.special)
specials-given s k x next (Some h) (Some r) f m a =
    results-given s k x next (slice_set (slice_set s.special rH h) rR r) f m a
    (ap (λ ys. slice_set ys rH (slice_index s.special rH)) (set-set (slice_set s.special rH h) rR r (slice_index s.special rR)) ∙ first-back s.special h)

pub results-back : (n : StateWas) (s t : State) (i j k x y h r next : ℕ) (p q : Option ℕ) → n ≡ usual (record { pc = s.pc; steps = s.steps; overwritten = was.Results i y h r }) → i ≡ j → i < 256 → y ≡ register s.stack k → h ≡ special_register s rH → r ≡ special_register s rR → j ≡ k →
    is_marginal (visible s.stack) k ≡ false → s.pc % 4 ≡ 0 → (Ok tt, t) ≡ left s (settled_with s k x (if_told rH p ++ if_told rR q) next) → TakesBack n t s
unfolding special_register
results-back n s t i j k x y h r next p q e wide low f eh er same m a g =
    let whole : i ≡ k = wide ∙ same in
    let note : n ≡ usual (record { pc = s.pc; steps = s.steps; overwritten = was.Results k (register s.stack k) (slice_index s.special rH) (slice_index s.special rR) }) =
    e ∙ (λ d. usual (record { pc = s.pc; steps = s.steps; overwritten = was.Results (whole d) (f d) (eh d) (er d) })) in
    let made : t ≡ onward (with_specials (with_value_in s k x) (if_told rH p ++ if_told rR q)) next = (unless-ok (set_overfills s.stack k) StackFull s t (onward (with_specials (with_value_in s k x) (if_told rH p ++ if_told rR q)) next) g).1 in
    subst (λ u. TakesBack u t s) (sym note)
    (subst (λ u. TakesBack (usual (record { pc = s.pc; steps = s.steps; overwritten = was.Results k (register s.stack k) (slice_index s.special rH) (slice_index s.special rR) })) u s) (sym made) (specials-given s k x next p q (subst (λ d. d < 256) whole low) m a))

-- L

cut-grown : (v : Registers) (k x : ℕ) → is_marginal v k ≡ true → with_locals_cut (with_value v k x) (length v.locals) ≡ v
cut-grown v k x m =
    let below : k < v.first_global = grind (arith, nat_tests) in
    let above : length v.locals ≤ k = grind (arith, nat_tests) in
    ap (λ u. with_locals_cut u (length v.locals)) (with_value-marginal v k x below above)
    ∙ ap (λ (xs : List ℕ). record v { locals = take (length v.locals) xs }) (append_assoc v.locals (replicate (k - length v.locals) 0) (x ∷ []))
    ∙ ap (λ (xs : List ℕ). record v { locals = xs }) (take_at v.locals (replicate (k - length v.locals) 0 ++ x ∷ []) (length v.locals) refl)

growth-cut : (w : Window) (k x : ℕ) → IsRing w → is_marginal w.visible k ≡ true → length w.hidden.resident + (k + 1) < 256 → cut_to (with_register (windowed w) k x) (length w.visible.locals) ≡ windowed w
unfolding cut_to
growth-cut w k x r m f =
    let v : Registers = with_value w.visible k x in
    let count : length v.locals ≡ k + 1 = grown-count w.visible k x m in
    let room : with_room w.hidden (length v.locals) w.size ≡ w.hidden = room-none w.hidden (length v.locals) w.size (omega (arith, count, f, r.least_size)) in
    let grown : with_register (windowed w) k x ≡ windowed (record w { visible = v }) = register-grown (windowed w) k x m ∙ ap (λ h. windowed (record { size = w.size; hidden = h; visible = v })) room in
    ap (λ z. with_visible z (with_locals_cut (visible z) (length w.visible.locals))) grown ∙ ap (λ u. windowed (record w { visible = u })) (cut-grown w.visible k x m)

growth-given : (s : State) (w : Window) (k x next : ℕ) → s.stack ≡ windowed w → IsRing w → is_marginal (visible s.stack) k ≡ true → length w.hidden.resident + (k + 1) < 256 → local_count s.stack < 256 → s.pc % 4 ≡ 0 →
    TakesBack (usual (record { pc = s.pc; steps = s.steps; overwritten = was.Locals (local_count s.stack) })) (onward (with_value_in s k x) next) s
unfolding state_undone
growth-given s w k x next o r m f low a =
    let marginal : is_marginal w.visible k ≡ true = ap (λ z. is_marginal (visible z) k) (sym o) ∙ m in
    let back' : cut_to (with_register s.stack k x) (local_count s.stack) ≡ s.stack = ap (λ z. cut_to (with_register z k x) (local_count z)) o ∙ growth-cut w k x r marginal f ∙ sym o in
    let least : local_count s.stack ≤ length (with_value (visible s.stack) k x).locals = value-grows (visible s.stack) k x in
    record {
      fits = record { pc = a; overwritten = (low, subst (λ (v : Registers). local_count s.stack ≤ length v.locals) (sym (shown-set s.stack k x)) least) };
      back = ap (λ z. record s { stack = z }) back';
    }

over-ring : (k : Kept) → (state_of k).stack ≡ windowed k.ring
unfolding state_of
over-ring k = refl

pub growth-back : (n : StateWas) (kept : Kept) (t : State) (at l k j x next : ℕ) → n ≡ usual (record { pc = (state_of kept).pc; steps = (state_of kept).steps; overwritten = was.Locals l }) → l ≡ local_count (state_of kept).stack → l < 256 → IsRing kept.ring → is_marginal (visible (state_of kept).stack) k ≡ true →
    length kept.ring.hidden.resident + (j + 1) < 256 → j ≡ k → at ≡ (state_of kept).pc → at % 4 ≡ 0 → (Ok tt, t) ≡ left (state_of kept) (settled (state_of kept) k x next) → TakesBack n t (state_of kept)
growth-back n kept t at l k j x next e f low r m room same here a g =
    let s : State = state_of kept in
    let note : n ≡ usual (record { pc = s.pc; steps = s.steps; overwritten = was.Locals (local_count s.stack) }) = e ∙ ap (λ v. usual (record { pc = s.pc; steps = s.steps; overwritten = was.Locals v })) f in
    let aligned : s.pc % 4 ≡ 0 = ap (λ p. p % 4) (sym here) ∙ a in
    let few : length kept.ring.hidden.resident + (k + 1) < 256 = subst (λ i. length kept.ring.hidden.resident + (i + 1) < 256) same room in
    let below : local_count s.stack < 256 = subst (λ i. i < 256) f low in
    subst (λ u. TakesBack u t s) (sym note) (subst (λ u. TakesBack (usual (record { pc = s.pc; steps = s.steps; overwritten = was.Locals (local_count s.stack) })) u s) (sym (settle-ok s t k x next g).1) (growth-given s kept.ring k x next (over-ring kept) r m few below aligned))

-- how many registers are hidden and not spilled
pub resident-few : (w : Window) (hidden spilled j k : ℕ) → IsRing w → hidden ≡ hidden_count (windowed w) → spilled ≡ spilled_count (windowed w) → j ≡ k → nat_le 255 (hidden - spilled + j) ≡ false → length w.hidden.resident + (k + 1) < 256
resident-few w hidden spilled j k r e f same g =
    let l : hidden - spilled + j < 255 = grind (arith, nat_tests) in
    let all : length (octas_of w.hidden) ≡ w.hidden.spilled + length w.hidden.resident = length-octas w.hidden (2 ^ 20) (fits-of w r) in
    omega (arith, all, e, f, same, l)

-- rJ

link-given : (s : State) (x next : ℕ) → s.pc % 4 ≡ 0 → TakesBack (usual (record { pc = s.pc; steps = s.steps; overwritten = was.Link (slice_index s.special rJ) })) (onward (with_special s rJ x) next) s
unfolding state_undone
link-given s x next a = record {
  fits = record { pc = a; overwritten = tt };
  back = ap (λ (xs : List ℕ). record s { special = xs }) (set-set s.special rJ x (slice_index s.special rJ) ∙ set-get_or s.special rJ 0);
}

pub link-back : (n : StateWas) (s t : State) (x : ℕ) → n ≡ usual (record { pc = s.pc; steps = s.steps; overwritten = was.Link x }) → x ≡ special_register s rJ → s.pc % 4 ≡ 0 → PutsLink s t → TakesBack n t s
unfolding special_register
link-back n s t x e f a p =
    let note : n ≡ usual (record { pc = s.pc; steps = s.steps; overwritten = was.Link (slice_index s.special rJ) }) = e ∙ ap (λ v. usual (record { pc = s.pc; steps = s.steps; overwritten = was.Link v })) f in
    subst (λ u. TakesBack u t s) (sym note) (subst (λ u. TakesBack (usual (record { pc = s.pc; steps = s.steps; overwritten = was.Link (slice_index s.special rJ) })) u s) (sym p.is) (link-given s p.value p.next a))

-- AN ADDRESS

pub address-back : (n : StateWas) (s t : State) (a : ℕ) → n ≡ usual (record { pc = s.pc; steps = s.steps; overwritten = was.Nothing }) → s.pc % 4 ≡ 0 → t ≡ onward s a → TakesBack n t s
unfolding state_undone
address-back n s t a e p f =
    subst (λ u. TakesBack u t s) (sym e) (subst (λ u. TakesBack (usual (record { pc = s.pc; steps = s.steps; overwritten = was.Nothing })) u s) (sym f) (record { fits = record { pc = p; overwritten = tt }; back = refl }))

-- AN OCTA

seen-below : (s : State) (a : ℕ) (part : Part) (v : ℕ) → a < 0x6000_0000_0000_0000 → store_seen s a part v ≡ with_octa_on_page s a (with_part part (octa s a) a v)
seen-below s a part v l =
    let x : ℕ = with_part part (octa s a) a v in
    let apart : in_stack_area a ≡ false = grind (arith, nat_tests) in
    let below : is_in_stack_segment a ≡ false = grind (arith, nat_tests) in
    ap (λ (u : State). record u { touched = s.touched || is_in_stack_segment a }) (octa-on-page s a x apart)
    ∙ ap (λ b. record (with_octa_on_page s a x) { touched = s.touched || b }) below ∙ ap (λ b. record (with_octa_on_page s a x) { touched = b }) (or-false s.touched)

octa-below : (s : State) (a : ℕ) → a < 0x6000_0000_0000_0000 → octa s a ≡ s.octas a
unfolding octa
octa-below s a l =
    let apart : in_stack_area a ≡ false = grind (arith, nat_tests) in
    ap (λ b. cond b (stack_octa s.stack (stack_index a)) (s.octas a)) apart

octa-given : (s : State) (a x next : ℕ) → IsPaged s → s.pc % 4 ≡ 0 → a < 2 ^ 63 → s.pages (a / 4096) ≡ true →
    TakesBack (usual (record { pc = s.pc; steps = s.steps; overwritten = was.Octa a (s.octas a) })) (onward (with_octa_on_page s a x) next) s
unfolding state_undone
octa-given s a x next h p f e =
    let back' = restored s a x h e in
    record {
      fits = record { pc = p; overwritten = (f, own-page s.pages (a / 4096) (a / 4096) e ∙ e) };
      back = λ i. record s { octas = (back' i).0; pages = (back' i).1; page_count = (back' i).2 };
    }

pub octa-back : (n : StateWas) (s t : State) (a b x : ℕ) → IsPaged s → n ≡ usual (record { pc = s.pc; steps = s.steps; overwritten = was.Octa a x }) → x ≡ octa s a → s.pc % 4 ≡ 0 → a ≡ b → StoresBelow s t b → TakesBack n t s
octa-back n s t a b x h e f p same o =
    let made : StoresBelow s t a = subst (StoresBelow s t) (sym same) o in
    let low : a < 0x6000_0000_0000_0000 = made.low in
    let y : ℕ = with_part made.part (octa s a) a made.value in
    let note : n ≡ usual (record { pc = s.pc; steps = s.steps; overwritten = was.Octa a (s.octas a) }) =
    e ∙ ap (λ v. usual (record { pc = s.pc; steps = s.steps; overwritten = was.Octa a v })) (f ∙ octa-below s a low) in
    let after : t ≡ onward (with_octa_on_page s a y) made.next = made.is ∙ ap (λ u. onward u made.next) (seen-below s a made.part made.value low) in
    subst (λ u. TakesBack u t s) (sym note) (subst (λ u. TakesBack (usual (record { pc = s.pc; steps = s.steps; overwritten = was.Octa a (s.octas a) })) u s) (sym after) (octa-given s a y made.next h p (omega (arith, low)) made.there))
