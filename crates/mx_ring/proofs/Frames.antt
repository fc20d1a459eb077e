-- What SAVE keeps comes back.
use Rattle.std.proofs.Common.{◌≡◌, ℕ, ◌+◌, ◌-◌, ◌*◌, ◌%◌, ◌^◌, ◌<◌, true, false, List, [], ◌∷◌, ◌++◌, length, take, drop, get_or, arith, refl, sym, ap, ◌∙◌}
use Rattle.std.proofs.lemmas.Bool.Decides.{nat_tests}
use Rattle.std.proofs.lemmas.List.{append_assoc, length-append, get_or_at, get_or-take, get_or-append-add, take_at, take_all, drop_at}
use Rattle.mx_registers.specs.Bounds.{AreInBounds}
use Rattle.mx_ring.specs.Frames.{frame, saved_specials, frame_global, frame_middle, frame_locals, frame_bottom, frame_specials, frame_registers, is_bad_frame}
use Rattle.mx_registers.specs.Registers.{Registers}
use Rattle.mx_ring.specs.declared.saved.Saved.{Saved}

-- an octa that is 0 ends no frame
pub no-frame : (octas : List ℕ) (i : ℕ) → get_or octas i 0 ≡ 0 → is_bad_frame (take (i + 1) octas) i ≡ true
unfolding is_bad_frame
no-frame octas i e =
    let same : i - 0 ≡ i = omega arith in
    let zero : get_or (take (i + 1) octas) (i - 0) 0 ≡ 0 = rw same (get_or-take (i + 1) octas i 0 (omega arith) ∙ e) in
    rw zero refl

-- what is below a frame, its locals, L, its globals, its special registers and its last octa
abbrev whole : List ℕ → List ℕ → ℕ → List ℕ → List ℕ → ℕ → List ℕ
whole hs ls l gs ss t = hs ++ (ls ++ l ∷ gs ++ ss ++ t ∷ [])

last-read : (hs ls gs ss : List ℕ) (l t n : ℕ) → n ≡ length hs + length ls + 1 + length gs + length ss → get_or (whole hs ls l gs ss t) n 0 ≡ t
last-read hs ls gs ss l t n e =
    let parted : whole hs ls l gs ss t ≡ (hs ++ (ls ++ l ∷ gs ++ ss)) ++ t ∷ [] = simp append_assoc in
    let size : length (hs ++ (ls ++ l ∷ gs ++ ss)) ≡ n = simp length-append (omega arith) in
    rw parted (get_or_at (hs ++ (ls ++ l ∷ gs ++ ss)) t [] 0 n size)

middle-read : (hs ls gs ss : List ℕ) (l t n : ℕ) → n ≡ length hs + length ls → get_or (whole hs ls l gs ss t) n 0 ≡ l
middle-read hs ls gs ss l t n e =
    let parted : whole hs ls l gs ss t ≡ (hs ++ ls) ++ l ∷ (gs ++ ss ++ t ∷ []) = simp append_assoc in
    let size : length (hs ++ ls) ≡ n = simp length-append (omega arith) in
    rw parted (get_or_at (hs ++ ls) l (gs ++ ss ++ t ∷ []) 0 n size)

special-read : (hs ls gs ss : List ℕ) (l t n j : ℕ) → n ≡ length hs + length ls + 1 + length gs + j → get_or (whole hs ls l gs ss t) n 0 ≡ get_or (ss ++ t ∷ []) j 0
special-read hs ls gs ss l t n j e =
    let parted : whole hs ls l gs ss t ≡ (hs ++ (ls ++ l ∷ gs)) ++ (ss ++ t ∷ []) = simp append_assoc in
    let size : n ≡ length (hs ++ (ls ++ l ∷ gs)) + j = simp length-append (omega arith) in
    rw (parted, size) (get_or-append-add (hs ++ (ls ++ l ∷ gs)) (ss ++ t ∷ []) j 0)

locals-read : (hs ls gs ss : List ℕ) (l t : ℕ) → take (length ls) (drop (length hs) (whole hs ls l gs ss t)) ≡ ls
locals-read hs ls gs ss l t =
    let above : drop (length hs) (whole hs ls l gs ss t) ≡ ls ++ l ∷ gs ++ ss ++ t ∷ [] = drop_at hs _ (length hs) refl in
    let parted : ls ++ l ∷ gs ++ ss ++ t ∷ [] ≡ ls ++ (l ∷ gs ++ ss ++ t ∷ []) = simp append_assoc in
    rw (above, parted) (take_at ls _ (length ls) refl)

globals-read : (hs ls gs ss : List ℕ) (l t n k : ℕ) → n ≡ length hs + length ls + 1 → k ≡ length gs → take k (drop n (whole hs ls l gs ss t)) ≡ gs
globals-read hs ls gs ss l t n k e f =
    let parted : whole hs ls l gs ss t ≡ (hs ++ (ls ++ l ∷ [])) ++ (gs ++ (ss ++ t ∷ [])) = simp append_assoc in
    let size : length (hs ++ (ls ++ l ∷ [])) ≡ n = simp length-append (omega arith) in
    rw (parted, drop_at (hs ++ (ls ++ l ∷ [])) (gs ++ (ss ++ t ∷ [])) n size) (take_at gs _ k (sym f))

-- The octas are a frame above others: what UNSAVE reads of it.
pub record IsFrame (octas : List ℕ) (i below : ℕ) (v : Registers) (s : Saved) : Type 0 where
  pub is_good : is_bad_frame octas i ≡ false
  pub bottom : frame_bottom octas i ≡ below
  pub registers : frame_registers octas i ≡ v
  pub specials : frame_specials octas i ≡ s

pub frame-read : (hs : List ℕ) (v : Registers) (s : Saved) (octas : List ℕ) (i : ℕ) → AreInBounds v → s.a < 2 ^ 18 → octas ≡ hs ++ frame v s → i + 1 ≡ length octas → IsFrame octas i (length hs) v s
unfolding is_bad_frame frame_specials
frame-read hs v s octas i b fa eo ei =
    let g : ℕ = v.first_global in
    let t : ℕ = 2 ^ 56 * g + s.a in
    let size : length (hs ++ frame v s) ≡ length hs + length v.locals + 1 + length v.globals + 13 = simp length-append (omega arith) in
    let place : i ≡ length hs + length v.locals + 1 + length v.globals + 12 = omega (arith, ap length eo, b.all_globals) in
    let last : get_or octas (i - 0) 0 ≡ t = rw eo (last-read hs v.locals v.globals (saved_specials s) (length v.locals) t (i - 0) (omega arith)) in
    let global : frame_global octas i ≡ g = rw last (omega arith) in
    let middle : frame_middle octas i ≡ length hs + length v.locals = rw global (omega (arith, b.all_globals, b.one_is_global)) in
    let local : frame_locals octas i ≡ length v.locals = rw (middle, eo, middle-read hs v.locals v.globals (saved_specials s) (length v.locals) t _ refl) (omega (arith, b.locals_below_globals, b.one_is_global)) in
    let below : length hs + length v.locals - length v.locals ≡ length hs = omega arith in
    let rest : 256 - g ≡ length v.globals = omega (arith, b.all_globals) in
    let read : take (length v.locals) (drop (length hs + length v.locals - length v.locals) octas) ≡ v.locals = rw (below, eo) (locals-read hs v.locals v.globals (saved_specials s) (length v.locals) t) in
    let locals : take g (take (length v.locals) (drop (length hs + length v.locals - length v.locals) octas)) ≡ v.locals = rw read (take_all g v.locals b.locals_below_globals) in
    let globals : take (256 - g) (drop (length hs + length v.locals + 1) octas) ≡ v.globals = rw eo (globals-read hs v.locals v.globals (saved_specials s) (length v.locals) t _ (256 - g) refl rest) in
    let rB : get_or octas (i - 12) 0 ≡ s.b = rw eo (special-read hs v.locals v.globals (saved_specials s) (length v.locals) t (i - 12) 0 (omega arith)) in
    let rD : get_or octas (i - 11) 0 ≡ s.d = rw eo (special-read hs v.locals v.globals (saved_specials s) (length v.locals) t (i - 11) 1 (omega arith)) in
    let rE : get_or octas (i - 10) 0 ≡ s.e = rw eo (special-read hs v.locals v.globals (saved_specials s) (length v.locals) t (i - 10) 2 (omega arith)) in
    let rH : get_or octas (i - 9) 0 ≡ s.h = rw eo (special-read hs v.locals v.globals (saved_specials s) (length v.locals) t (i - 9) 3 (omega arith)) in
    let rJ : get_or octas (i - 8) 0 ≡ s.j = rw eo (special-read hs v.locals v.globals (saved_specials s) (length v.locals) t (i - 8) 4 (omega arith)) in
    let rM : get_or octas (i - 7) 0 ≡ s.m = rw eo (special-read hs v.locals v.globals (saved_specials s) (length v.locals) t (i - 7) 5 (omega arith)) in
    let rR : get_or octas (i - 6) 0 ≡ s.r = rw eo (special-read hs v.locals v.globals (saved_specials s) (length v.locals) t (i - 6) 6 (omega arith)) in
    let rP : get_or octas (i - 5) 0 ≡ s.p = rw eo (special-read hs v.locals v.globals (saved_specials s) (length v.locals) t (i - 5) 7 (omega arith)) in
    let rW : get_or octas (i - 4) 0 ≡ s.w = rw eo (special-read hs v.locals v.globals (saved_specials s) (length v.locals) t (i - 4) 8 (omega arith)) in
    let rX : get_or octas (i - 3) 0 ≡ s.x = rw eo (special-read hs v.locals v.globals (saved_specials s) (length v.locals) t (i - 3) 9 (omega arith)) in
    let rY : get_or octas (i - 2) 0 ≡ s.y = rw eo (special-read hs v.locals v.globals (saved_specials s) (length v.locals) t (i - 2) 10 (omega arith)) in
    let rZ : get_or octas (i - 1) 0 ≡ s.z = rw eo (special-read hs v.locals v.globals (saved_specials s) (length v.locals) t (i - 1) 11 (omega arith)) in
    let rA : get_or octas (i - 0) 0 % 2 ^ 18 ≡ s.a = rw last (omega arith) in
    record {
      is_good = rw (local, global) (grind (arith, nat_tests));
      bottom = rw (local, middle) below;
      registers = rw (local, middle, global, locals, globals) refl;
      specials = rw (rB, rD, rE, rH, rJ, rM, rR, rP, rW, rX, rY, rZ, rA) refl;
    }
