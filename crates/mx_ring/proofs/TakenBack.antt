-- What each work notes takes the window after it back to the one before.
use Rattle.std.proofs.Common.{◌≡◌, ℕ, ◌+◌, ◌-◌, ◌^◌, ◌≤◌, ◌<◌, Bool, true, false, cond, List, [], ◌∷◌, ◌++◌, length, take, drop, min, None, arith, refl, sym, subst, ◌∙◌, ap, ⊎_elim}
use Rattle.std.proofs.lemmas.Bool.{cases_Bool}
use Rattle.std.proofs.lemmas.Bool.Decides.{nat_tests}
use Rattle.std.proofs.lemmas.List.{append-nil, length-append, length-take, length-drop, length_push}
use Rattle.mx_ring.proofs.Keeps.{window-is, hole-below}
use Rattle.mx_ring.proofs.Lists.{push-room, save-room, register-grown, register-kept}
use Rattle.mx_registers.proofs.Octas.{Fits, length-octas, spilled-below, hidden-fits, room-spills}
use Rattle.mx_ring.proofs.Rings.{fits-of, grown-count, length-below, length-frame}
use Rattle.mx_ring.proofs.Undone.{set-undone, none-undone, last-undone, hidden-kept, grown-back, room-spilled, first-back, read-back, octa-back, nothing-spilled, stored-back}
use Rattle.mx_registers.proofs.Values.{locals-kept, with_value-bounds}
use Rattle.mx_registers.specs.Bounds.{AreInBounds}
use Rattle.mx_ring.specs.Bounds.{IsRing}
use Rattle.mx_ring.specs.Calls.{refused_where}
use Rattle.mx_ring.specs.Frames.{frame, frame_length, frame_bottom, frame_registers}
use Rattle.mx_registers.specs.HiddenPart.{HiddenPart, octas_of, with_hidden, with_spilled, with_room, with_first, with_octa, with_stack_first, put_back}
use Rattle.mx_ring.specs.Notes.{some, RingWas, all, LocalsFit, OctaFits, TakesBack, IsGiven, WorkNeeds, worked, work_answer, plain_answer, ring_noted, ring_noted_stored, octa_after_spill, spilled_by, push_spills as spilled_by_push, staying, registers_noted, octa_noted, above_room, registers_undone, hidden_undone, ring_undone}
use Rattle.mx_registers.specs.Registers.{Registers, value_of, is_marginal, with_value, with_locals_cut, with_globals_from, push_number, registers_below, registers_from, with_returned}
use Rattle.mx_ring.specs.Stack.{windowed, visible, with_register, pushed, push_overfills, popped, pop_underflows, popped_octas, hole_in, saved, saved_registers, save_overfills, unsaved, octas_to, stack_index, cut_to, with_global_start, with_stack_octa}
use Rattle.mx_ring.specs.Window.{Window}
use Rattle.mx_registers.specs.declared.fault.RingFault.{RingFault}
use Rattle.mx_ring.specs.declared.notes.RingWork.{RingWork}
use Rattle.mx_ring.specs.declared.notes.RingWork.TheVariants.{Set, Push, Pop, Save, Unsave, CutLocals, SetGlobalStart, SetOcta}
use Rattle.mx_ring.specs.declared.saved.Saved.{Saved}

pub undone-is : (n : RingWas) (u w : Window) → u.size ≡ w.size → hidden_undone n u.hidden ≡ w.hidden → registers_undone n.registers u.visible ≡ w.visible → ring_undone n u ≡ w
unfolding ring_undone
undone-is n u w e f g = λ i. record { size = e i; hidden = f i; visible = g i }

-- a note fits, and takes back
pub takes : (n : RingWas) (u w : Window) → IsRing w → LocalsFit n.registers u.visible → OctaFits n.octa → n.spilled + length n.over ≤ 2 ^ 20 → n.stays ≤ 2 ^ 20 → (u.hidden.spilled < n.spilled → n.stays ≡ 0) →
    ring_undone n u ≡ w → TakesBack n u w
unfolding ring_undone
takes n u w r locals octa area stays order e =
    let ring : IsRing (ring_undone n u) = subst IsRing (sym e) r in
    record {
      fits = record {
        locals = locals;
        hidden = record { octa = octa; area = area; stays = stays; order = order; room = omega (arith, ring.has_room) };
        ring = ring;
      };
      back = e;
    }

pub moved : (n : RingWas) (v u w : Window) → windowed v ≡ windowed u → TakesBack n u w → TakesBack n v w
moved n v u w e t = subst (λ x. TakesBack n x w) (sym (window-is v u e)) t

-- there is room for what a spill replaced
pub over-fits : (w : Window) (n : ℕ) → IsRing w → w.hidden.spilled + length (take n (drop w.hidden.spilled w.hidden.stack)) ≤ 2 ^ 20
over-fits w n r =
    let low : w.hidden.spilled ≤ length w.hidden.stack = spilled-below w.hidden (2 ^ 20) (fits-of w r) in
    omega (arith, low, r.area, length-take n (drop w.hidden.spilled w.hidden.stack), length-drop w.hidden.spilled w.hidden.stack)

few-resident : (w : Window) → IsRing w → length w.hidden.resident ≤ 2 ^ 20
few-resident w r = omega (arith, r.has_room, length-octas w.hidden (2 ^ 20) (fits-of w r))

-- SET

set-kept : (w : Window) (k x : ℕ) → IsRing w → is_marginal w.visible k ≡ false → TakesBack (ring_noted (Set k x) w) (record w { visible = with_value w.visible k x }) w
unfolding ring_noted spilled_by staying registers_noted octa_noted hidden_undone
set-kept w k x r m =
    let local : k < w.visible.first_global → k < length w.visible.locals = grind (arith, nat_tests) in
    let count : spilled_by (Set k x) w ≡ 0 = ap (λ b. cond b (above_room (length w.hidden.resident + (k + 1)) w.size) 0) m in
    let low = spilled-below w.hidden (2 ^ 20) (fits-of w r) in
    takes (ring_noted (Set k x) w) (record w { visible = with_value w.visible k x }) w r (omega (arith, locals-kept w.visible k x local)) tt (over-fits w (spilled_by (Set k x) w) r) (few-resident w r) (λ f. absurd (omega (arith, f)))
    (undone-is (ring_noted (Set k x) w) _ w refl (ap (λ n. put_back w.hidden w.hidden.spilled (take n (drop w.hidden.spilled w.hidden.stack)) (length w.hidden.resident) (drop (length w.hidden.resident) w.hidden.resident)) count ∙ hidden-kept w.hidden (length w.hidden.resident) low) (set-undone w.visible k x))

-- no octas are hidden, and the oldest spill
spilled-back : (h : HiddenPart) (n : ℕ) → Fits h (2 ^ 20) → n ≤ length h.resident →
    put_back (with_spilled h n) h.spilled (take n (drop h.spilled h.stack)) (length h.resident) (drop (length h.resident) h.resident) ≡ h
spilled-back h n f low =
    let same : with_hidden h [] ≡ h = ap (λ (xs : List ℕ). record h { resident = xs }) (append-nil h.resident) in
    subst (λ k. put_back (with_spilled k n) h.spilled (take n (drop h.spilled h.stack)) (length h.resident) (drop (length h.resident) h.resident) ≡ h) same
    (grown-back h [] n (subst (λ k. Fits k (2 ^ 20)) (sym same) f) f (omega (arith, low, ap length (append-nil h.resident))))

set-grown : (w : Window) (k x : ℕ) → IsRing w → is_marginal w.visible k ≡ true →
    TakesBack (ring_noted (Set k x) w) (record w { hidden = with_room w.hidden (length (with_value w.visible k x).locals) w.size; visible = with_value w.visible k x }) w
unfolding ring_noted spilled_by staying registers_noted octa_noted hidden_undone
set-grown w k x r m =
    let n : ℕ = above_room (length w.hidden.resident + (k + 1)) w.size in
    let below : k < w.visible.first_global = grind (arith, nat_tests) in
    let above : length w.visible.locals ≤ k = grind (arith, nat_tests) in
    let locals : length (with_value w.visible k x).locals ≡ k + 1 = grown-count w.visible k x m in
    let count : spilled_by (Set k x) w ≡ n = ap (λ b. cond b n 0) m in
    let low : n ≤ length w.hidden.resident = grind (arith, nat_tests, below, r.registers.one_is_global, r.least_size) in
    let room : with_room w.hidden (length (with_value w.visible k x).locals) w.size ≡ with_spilled w.hidden n =
    ap (λ l. with_room w.hidden l w.size) locals ∙ room-spilled w.hidden (k + 1) w.size in
    let spills : w.hidden.spilled ≤ (with_room w.hidden (length (with_value w.visible k x).locals) w.size).spilled = room-spills w.hidden (length (with_value w.visible k x).locals) w.size in
    takes (ring_noted (Set k x) w) (record w { hidden = with_room w.hidden (length (with_value w.visible k x).locals) w.size; visible = with_value w.visible k x }) w r (omega (arith, locals, above)) tt (over-fits w (spilled_by (Set k x) w) r) (few-resident w r) (λ f. absurd (omega (arith, f, spills)))
    (undone-is (ring_noted (Set k x) w) _ w refl
    (ap (λ h. put_back h w.hidden.spilled (take (spilled_by (Set k x) w) (drop w.hidden.spilled w.hidden.stack)) (length w.hidden.resident) (drop (length w.hidden.resident) w.hidden.resident)) room
    ∙ ap (λ j. put_back (with_spilled w.hidden n) w.hidden.spilled (take j (drop w.hidden.spilled w.hidden.stack)) (length w.hidden.resident) (drop (length w.hidden.resident) w.hidden.resident)) count
    ∙ spilled-back w.hidden n (fits-of w r) low)
    (set-undone w.visible k x))

set-back : (w v : Window) (k x : ℕ) → IsRing w → windowed v ≡ with_register (windowed w) k x → TakesBack (ring_noted (Set k x) w) v w
set-back w v k x r e = ⊎_elim (λ m. moved _ v _ w (e ∙ register-grown (windowed w) k x m) (set-grown w k x r m)) (λ m. moved _ v _ w (e ∙ register-kept (windowed w) k x m) (set-kept w k x r m)) (cases_Bool (is_marginal w.visible k))

-- SET, and $255 after it

set-visible : (w u : Window) (k x : ℕ) → windowed u ≡ with_register (windowed w) k x → u.visible ≡ with_value w.visible k x
set-visible w u k x e = ⊎_elim (λ m. ap visible (e ∙ register-grown (windowed w) k x m)) (λ m. ap visible (e ∙ register-kept (windowed w) k x m)) (cases_Bool (is_marginal w.visible k))

pub trip-back : (w u v : Window) (k x y : ℕ) → IsRing w → windowed u ≡ with_register (windowed w) k x → windowed v ≡ with_register (windowed u) 255 y → TakesBack (ring_noted (Set k x) w) v w
unfolding ring_noted registers_noted ring_undone
trip-back w u v k x y r e f =
    let n : RingWas = ring_noted (Set k x) w in
    let t : TakesBack n u w = set-back w u k x r e in
    let bounds : AreInBounds u.visible = subst AreInBounds (sym (set-visible w u k x e)) (with_value-bounds w.visible k x r.registers) in
    let most : u.visible.first_global ≤ 255 = bounds.one_is_global in
    let apart : is_marginal u.visible 255 ≡ false = grind (arith, nat_tests) in
    let same : length (with_value u.visible 255 y).locals ≡ length u.visible.locals = locals-kept u.visible 255 y (λ l. absurd (omega (arith, l, most))) in
    let back : ring_undone n (record u { visible = with_value u.visible 255 y }) ≡ w =
    ap (λ (z : Registers). record u { hidden = hidden_undone n u.hidden; visible = z }) (last-undone u.visible (length w.visible.locals) k y (value_of w.visible k) (value_of w.visible 255) most) ∙ t.back in
    moved n v (record u { visible = with_value u.visible 255 y }) w (f ∙ register-kept (windowed u) 255 y apart) (record {
      fits = record { locals = omega (arith, same, t.fits.locals); hidden = t.fits.hidden; ring = subst IsRing (sym back) r };
      back = back;
    })

-- PUSH

pub push-back : (w v : Window) (x : ℕ) → IsRing w → push_overfills (windowed w) x ≡ false → windowed v ≡ pushed (windowed w) x → TakesBack (ring_noted (Push x) w) v w
unfolding ring_noted spilled_by staying registers_noted octa_noted hidden_undone pushed
push-back w v x r o e =
    let c : ℕ = push_number w.visible x in
    let octas : List ℕ = registers_below w.visible c ++ c ∷ [] in
    let l : ℕ = length (registers_from w.visible (c + 1)).locals in
    let h : HiddenPart = with_hidden w.hidden octas in
    let n : ℕ = spilled_by_push w c in
    let size : length octas ≡ c + 1 = length_push (registers_below w.visible c) c ∙ ap (λ m. m + 1) (length-below w.visible c) in
    let fewer : l ≡ length w.visible.locals - (c + 1) = length-drop (c + 1) w.visible.locals in
    let many : length h.resident ≡ length w.hidden.resident + (c + 1) = length-append w.hidden.resident octas ∙ ap (λ m. length w.hidden.resident + m) size in
    let count : above_room (length h.resident + l) w.size ≡ n = ap (λ m. above_room (m + l) w.size) many ∙ ap (λ m. above_room (length w.hidden.resident + (c + 1) + m) w.size) fewer in
    let room : with_room h l w.size ≡ with_spilled h n = room-spilled h l w.size ∙ ap (with_spilled h) count in
    let few : length w.visible.locals < w.size = omega (arith, r.shorter) in
    let low : n ≤ length h.resident = grind (arith, nat_tests, many, few) in
    let fits : Fits h (2 ^ 20) = hidden-fits w.hidden (2 ^ 20) octas (fits-of w r) (omega (arith, size, push-room w x o)) in
    let spills : w.hidden.spilled ≤ (with_room h l w.size).spilled = room-spills h l w.size in
    moved _ v (record w { hidden = with_room h l w.size; visible = registers_from w.visible (c + 1) }) w e
    (takes (ring_noted (Push x) w) _ w r r.registers tt (over-fits w n r) (few-resident w r) (λ f. absurd (omega (arith, f, spills)))
    (undone-is (ring_noted (Push x) w) _ w refl
    (ap (λ k. put_back k w.hidden.spilled (take n (drop w.hidden.spilled w.hidden.stack)) (length w.hidden.resident) (drop (length w.hidden.resident) w.hidden.resident)) room ∙ grown-back w.hidden octas n fits (fits-of w r) low)
    refl))

-- POP

first-spilled : (h : HiddenPart) (m : ℕ) → (with_first h m).spilled ≡ min h.spilled m
unfolding with_first
first-spilled h m = refl

more-spilled : (h : HiddenPart) (n : ℕ) → (with_spilled h n).spilled ≡ h.spilled + n
unfolding with_spilled
more-spilled h n = refl

pub pop-back : (w v : Window) (x : ℕ) → IsRing w → pop_underflows (windowed w) ≡ false → windowed v ≡ popped (windowed w) x → TakesBack (ring_noted (Pop x) w) v w
unfolding ring_noted spilled_by staying registers_noted octa_noted hidden_undone popped
pop-back w v x r o e =
    let k : ℕ = hole_in (octas_of w.hidden) in
    let m : ℕ = length (octas_of w.hidden) - (k + 1) in
    let small : k < 256 = omega arith in
    let inside : k < length (octas_of w.hidden) = hole-below w o in
    let count : length (octas_of w.hidden) ≡ w.hidden.spilled + length w.hidden.resident = length-octas w.hidden (2 ^ 20) (fits-of w r) in
    let low = spilled-below w.hidden (2 ^ 20) (fits-of w r) in
    let spills : (with_first w.hidden m).spilled ≡ min w.hidden.spilled m = first-spilled w.hidden m in
    moved _ v (record w { hidden = with_first w.hidden m; visible = with_returned w.visible (popped_octas (octas_of w.hidden) k) x }) w e
    (takes (ring_noted (Pop x) w) _ w r r.registers tt (over-fits w 0 r) (omega (arith, few-resident w r)) (λ f. omega (arith, f, spills, count, small, inside))
    (undone-is (ring_noted (Pop x) w) _ w refl (first-back w.hidden m (m - w.hidden.spilled) low (omega arith)) refl))

-- SAVE

pub save-back : (w v : Window) (x : ℕ) (s : Saved) → IsRing w → save_overfills (windowed w) ≡ false → windowed v ≡ saved (windowed w) x s → TakesBack (ring_noted (Save x s) w) v w
unfolding ring_noted spilled_by staying registers_noted octa_noted hidden_undone saved
save-back w v x s r o e =
    let octas : List ℕ = frame w.visible s in
    let h : HiddenPart = with_hidden w.hidden octas in
    let n : ℕ = length w.hidden.resident + frame_length w.visible.first_global (length w.visible.locals) in
    let size : length octas ≡ frame_length w.visible.first_global (length w.visible.locals) = length-frame w.visible s r.registers in
    let many : length h.resident ≡ n = length-append w.hidden.resident octas ∙ ap (λ m. length w.hidden.resident + m) size in
    let fits : Fits h (2 ^ 20) = hidden-fits w.hidden (2 ^ 20) octas (fits-of w r) (omega (arith, size, save-room w o)) in
    let spills : (with_spilled h (length h.resident)).spilled ≡ w.hidden.spilled + length h.resident = more-spilled h (length h.resident) in
    moved _ v (record w { hidden = with_spilled h (length h.resident); visible = saved_registers (windowed w) x }) w e
    (takes (ring_noted (Save x s) w) _ w r r.registers tt (over-fits w n r) (few-resident w r) (λ f. absurd (omega (arith, f, spills)))
    (undone-is (ring_noted (Save x s) w) _ w refl
    (ap (λ k. put_back (with_spilled h k) w.hidden.spilled (take n (drop w.hidden.spilled w.hidden.stack)) (length w.hidden.resident) (drop (length w.hidden.resident) w.hidden.resident)) many
    ∙ grown-back w.hidden octas n fits (fits-of w r) (omega (arith, many)))
    refl))

-- UNSAVE

pub unsave-back : (w v : Window) (a : ℕ) → IsRing w → windowed v ≡ unsaved (windowed w) (stack_index a) → TakesBack (ring_noted (Unsave a) w) v w
unfolding ring_noted spilled_by staying registers_noted octa_noted hidden_undone unsaved
unsave-back w v a r e =
    let octas : List ℕ = octas_to (windowed w) (stack_index a) in
    let m : ℕ = frame_bottom octas (stack_index a) in
    moved _ v (record w { hidden = with_stack_first w.hidden m; visible = frame_registers octas (stack_index a) }) w e
    (takes (ring_noted (Unsave a) w) _ w r r.registers tt (over-fits w 0 r) (omega arith) (λ f. refl)
    (undone-is (ring_noted (Unsave a) w) _ w refl (read-back w.hidden m) refl))

-- PUT, AND AN OCTA OF THE STACK AREA

visible-back : (work : RingWork) (w : Window) (u : Registers) → IsRing w → registers_noted work w.visible ≡ all w.visible → spilled_by work w ≡ 0 → staying work w ≡ length w.hidden.resident → octa_noted work w.hidden.stack ≡ None →
    TakesBack (ring_noted work w) (record w { visible = u }) w
unfolding ring_noted hidden_undone
visible-back work w u r a b c d =
    let low = spilled-below w.hidden (2 ^ 20) (fits-of w r) in
    rw (a, b, c, d) (takes (record {
      registers = all w.visible;
      spilled = w.hidden.spilled;
      over = take 0 (drop w.hidden.spilled w.hidden.stack);
      stays = length w.hidden.resident;
      gone = drop (length w.hidden.resident) w.hidden.resident;
      octa = None;
    }) _ w r r.registers tt (over-fits w 0 r) (few-resident w r) (λ f. absurd (omega (arith, f)))
    (undone-is _ _ w refl (hidden-kept w.hidden (length w.hidden.resident) low) refl))

octa-undone : (w v : Window) (i x : ℕ) → IsRing w → i < 2 ^ 20 → windowed v ≡ with_stack_octa (windowed w) i x → TakesBack (ring_noted (SetOcta i x) w) v w
unfolding ring_noted spilled_by staying registers_noted octa_noted hidden_undone with_stack_octa
octa-undone w v i x r f e =
    let low = spilled-below w.hidden (2 ^ 20) (fits-of w r) in
    moved _ v (record w { hidden = with_octa w.hidden i x }) w e
    (takes (ring_noted (SetOcta i x) w) _ w r (omega arith) f (over-fits w 0 r) (few-resident w r) (λ f. absurd (omega (arith, f)))
    (undone-is (ring_noted (SetOcta i x) w) _ w refl
    (ap (λ h. put_back h w.hidden.spilled [] (length w.hidden.resident) (drop (length w.hidden.resident) w.hidden.resident)) (octa-back w.hidden i x) ∙ hidden-kept w.hidden (length w.hidden.resident) low)
    (none-undone w.visible)))

-- AN OCTA OF THE STACK AREA, AND A REGISTER AFTER IT

pub octa-is : (w : Window) (i z : ℕ) → with_stack_octa (windowed w) i z ≡ windowed (record w { hidden = with_octa w.hidden i z })
unfolding with_stack_octa
octa-is w i z = refl

pub value-grows : (v : Registers) (k x : ℕ) → length v.locals ≤ length (with_value v k x).locals
value-grows v k x = ⊎_elim (λ m. marginal m) (λ m. kept m) (cases_Bool (is_marginal v k))
  where
    marginal : is_marginal v k ≡ true → length v.locals ≤ length (with_value v k x).locals
    marginal m =
        let above : length v.locals ≤ k = grind (arith, nat_tests) in
        omega (arith, above, grown-count v k x m)

    kept : is_marginal v k ≡ false → length v.locals ≤ length (with_value v k x).locals
    kept m =
        let local : k < v.first_global → k < length v.locals = grind (arith, nat_tests) in
        omega (arith, locals-kept v k x local)

-- an octa that is given what it is after the spill, and then the spill is taken back
pub octa-taken : (w v : Window) (i k n : ℕ) → IsRing w → i < 2 ^ 20 → n ≡ spilled_by (Set k 0) w → n ≤ length w.hidden.resident → v.size ≡ w.size → with_octa v.hidden i (octa_after_spill w.hidden n i) ≡ with_spilled w.hidden n →
    length w.visible.locals ≤ length v.visible.locals → registers_undone (some (length w.visible.locals) k (value_of w.visible k) (value_of w.visible 255)) v.visible ≡ w.visible → TakesBack (ring_noted_stored i k w) v w
unfolding ring_noted_stored ring_noted staying registers_noted hidden_undone
octa-taken w v i k n r f count low size octa locals registers =
    let spills : v.hidden.spilled ≡ w.hidden.spilled + n = ap (λ (h : HiddenPart). h.spilled) octa ∙ more-spilled w.hidden n in
    takes (ring_noted_stored i k w) v w r locals f (over-fits w (spilled_by (Set k 0) w) r) (few-resident w r) (λ g. absurd (omega (arith, g, spills)))
    (undone-is (ring_noted_stored i k w) v w size
    (ap (λ m. put_back (with_octa v.hidden i (octa_after_spill w.hidden m i)) w.hidden.spilled (take m (drop w.hidden.spilled w.hidden.stack)) (length w.hidden.resident) (drop (length w.hidden.resident) w.hidden.resident)) (sym count)
    ∙ ap (λ h. put_back h w.hidden.spilled (take n (drop w.hidden.spilled w.hidden.stack)) (length w.hidden.resident) (drop (length w.hidden.resident) w.hidden.resident)) octa
    ∙ spilled-back w.hidden n (fits-of w r) low)
    registers)

-- there is room in the stack area for what spills
pub spill-fits : (w : Window) (n : ℕ) → IsRing w → n ≤ length w.hidden.resident → w.hidden.spilled + n ≤ length w.hidden.stack
spill-fits w n r low = omega (arith, r.area, r.has_room, length-octas w.hidden (2 ^ 20) (fits-of w r), low)

stored-taken : (w v : Window) (i z k x n : ℕ) → IsRing w → i < 2 ^ 20 → n ≡ spilled_by (Set k 0) w → n ≤ length w.hidden.resident → v.size ≡ w.size → v.hidden ≡ with_spilled (with_octa w.hidden i z) n → v.visible ≡ with_value w.visible k x →
    TakesBack (ring_noted_stored i k w) v w
stored-taken w v i z k x n r f count low a b c =
    octa-taken w v i k n r f count low a
    (ap (λ h. with_octa h i (octa_after_spill w.hidden n i)) b ∙ stored-back w.hidden i z n low (spill-fits w n r low) (omega (arith, f, r.area)))
    (subst (λ u. length w.visible.locals ≤ length u.locals) (sym c) (value-grows w.visible k x))
    (ap (registers_undone (some (length w.visible.locals) k (value_of w.visible k) (value_of w.visible 255))) c ∙ set-undone w.visible k x)

stored-grown : (w : Window) (i z k x : ℕ) → IsRing w → i < 2 ^ 20 → is_marginal w.visible k ≡ true →
    TakesBack (ring_noted_stored i k w) (record w { hidden = with_room (with_octa w.hidden i z) (length (with_value w.visible k x).locals) w.size; visible = with_value w.visible k x }) w
unfolding spilled_by
stored-grown w i z k x r f m =
    let n : ℕ = above_room (length w.hidden.resident + (k + 1)) w.size in
    let below : k < w.visible.first_global = grind (arith, nat_tests) in
    let count : spilled_by (Set k 0) w ≡ n = ap (λ b. cond b n 0) m in
    let low : n ≤ length w.hidden.resident = grind (arith, nat_tests, below, r.registers.one_is_global, r.least_size) in
    let room : with_room (with_octa w.hidden i z) (length (with_value w.visible k x).locals) w.size ≡ with_spilled (with_octa w.hidden i z) n =
    ap (λ l. with_room (with_octa w.hidden i z) l w.size) (grown-count w.visible k x m) ∙ room-spilled (with_octa w.hidden i z) (k + 1) w.size in
    stored-taken w _ i z k x n r f (sym count) low refl room refl

stored-kept : (w : Window) (i z k x : ℕ) → IsRing w → i < 2 ^ 20 → is_marginal w.visible k ≡ false → TakesBack (ring_noted_stored i k w) (record w { hidden = with_octa w.hidden i z; visible = with_value w.visible k x }) w
unfolding spilled_by
stored-kept w i z k x r f m =
    let count : spilled_by (Set k 0) w ≡ 0 = ap (λ b. cond b (above_room (length w.hidden.resident + (k + 1)) w.size) 0) m in
    stored-taken w _ i z k x 0 r f (sym count) (omega arith) refl (sym (nothing-spilled (with_octa w.hidden i z))) refl

pub store-back : (w u v : Window) (i z k x : ℕ) → IsRing w → i < 2 ^ 20 → windowed u ≡ with_stack_octa (windowed w) i z → windowed v ≡ with_register (windowed u) k x → TakesBack (ring_noted_stored i k w) v w
store-back w u v i z k x r f d e =
    let o : Window = record w { hidden = with_octa w.hidden i z } in
    let made : windowed v ≡ with_register (windowed o) k x = e ∙ ap (λ s. with_register s k x) (d ∙ octa-is w i z) in
    ⊎_elim (λ m. moved _ v _ w (made ∙ register-grown (windowed o) k x m) (stored-grown w i z k x r f m)) (λ m. moved _ v _ w (made ∙ register-kept (windowed o) k x m) (stored-kept w i z k x r f m)) (cases_Bool (is_marginal w.visible k))

-- EACH WORK

cut-is : (w : Window) (l : ℕ) → cut_to (windowed w) l ≡ windowed (record w { visible = with_locals_cut w.visible l })
unfolding cut_to
cut-is w l = refl

globals-is : (w : Window) (g : ℕ) → with_global_start (windowed w) g ≡ windowed (record w { visible = with_globals_from w.visible g })
unfolding with_global_start
globals-is w g = refl

given : (b : Bool) (fault : RingFault) → IsGiven (plain_answer (refused_where b fault)) → b ≡ false
given true fault g = absurd g
given false fault g = refl

pub work-back : (w v : Window) (work : RingWork) → IsRing w → WorkNeeds work w → IsGiven (work_answer work (windowed w)) → windowed v ≡ worked work (windowed w) → TakesBack (ring_noted work w) v w
unfolding WorkNeeds work_answer worked registers_noted spilled_by staying octa_noted
work-back w v (Set k x) r n a e = set-back w v k x r e
work-back w v (Push x) r n a e = push-back w v x r (given (push_overfills (windowed w) x) _ a) e
work-back w v (Pop x) r n a e = pop-back w v x r (given (pop_underflows (windowed w)) _ a) e
work-back w v (Save x s) r n a e = save-back w v x s r (given (save_overfills (windowed w)) _ a) e
work-back w v (Unsave a') r n a e = unsave-back w v a' r e
work-back w v (CutLocals l) r n a e = moved _ v _ w (e ∙ cut-is w l) (visible-back (CutLocals l) w (with_locals_cut w.visible l) r refl refl refl refl)
work-back w v (SetGlobalStart g) r n a e = moved _ v _ w (e ∙ globals-is w g) (visible-back (SetGlobalStart g) w (with_globals_from w.visible g) r refl refl refl refl)
work-back w v (SetOcta i x) r n a e = octa-undone w v i x r n e
