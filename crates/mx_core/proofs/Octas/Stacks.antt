-- A register stack that holds octas, and what each operation makes of it.
use Rattle.std.proofs.Common.{◌≡◌, ℕ, ◌+◌, ◌-◌, ◌*◌, ◌^◌, ◌≤◌, ◌<◌, ◌==◌, nat_le, nat_lt, false, List, [], ◌∷◌, ◌++◌, length, take, drop, replicate, arith}
use Rattle.mx_word.specs.Ranges.{AreOctas}
use Rattle.mx_ring.specs.Frames.{frame, saved_specials, frame_length, frame_specials, frame_global, frame_locals, frame_middle}
use Rattle.mx_registers.specs.HiddenPart.{HiddenPart, octas_of, with_hidden, with_spilled, with_room, with_first}
use Rattle.mx_registers.specs.Registers.{Registers, is_marginal, value_of, with_value, with_locals_cut, push_number, registers_below, registers_from, results}
use Rattle.mx_ring.specs.Stack.{Stack, listed, windowed, register, with_register, cut_to, with_global_start, pushed, pushed_octas, hole_in, popped, popped_octas, save_overfills, saved, frame_top, stack_address, octas_to, unsaved, unsaved_specials, stack_octa, with_stack_octa}
use Rattle.mx_ring.specs.Window.{Window}
use Rattle.mx_ring.specs.declared.saved.Saved.{Saved}
use Rattle.mx_ring.proofs.Lists.{save-room}
use Rattle.mx_core.proofs.Choices.{chosen}
use Rattle.mx_core.proofs.Octas.Lists.{octas-append, octas-zeros, octas-take, octas-drop, octas-set, octa-of}
use Rattle.mx_core.proofs.Kept.Rings.{IsRinged}

pub record OctaRegisters (v : Registers) : Type 0 where
  pub locals : AreOctas v.locals
  pub globals : AreOctas v.globals

pub record OctaHidden (h : HiddenPart) : Type 0 where
  pub resident : AreOctas h.resident
  pub area : AreOctas h.stack

pub record OctaWindow (w : Window) : Type 0 where
  pub visible : OctaRegisters w.visible
  pub hidden : OctaHidden w.hidden

abbrev pub OctaStack : Stack → Type 0
OctaStack (listed r) = ⊥
OctaStack (windowed w) = OctaWindow w

-- REGISTERS

value-octas : (v : Registers) (k x : ℕ) → OctaRegisters v → x < 2 ^ 64 → OctaRegisters (with_value v k x)
unfolding with_value
value-octas v k x h f =
    chosen OctaRegisters (nat_le v.first_global k) _ _ (record { locals = h.locals; globals = octas-set v.globals (k - v.first_global) x h.globals f }) (chosen OctaRegisters (nat_lt k (length v.locals)) _ _ (record { locals = octas-set v.locals k x h.locals f; globals = h.globals }) (record { locals = octas-append (v.locals ++ replicate (k - length v.locals) 0) (x ∷ []) (octas-append v.locals (replicate (k - length v.locals) 0) h.locals (octas-zeros (k - length v.locals))) (f, tt); globals = h.globals }))

octa-value : (v : Registers) (k : ℕ) → OctaRegisters v → value_of v k < 2 ^ 64
unfolding value_of
octa-value v k h = chosen (λ n. n < 2 ^ 64) (nat_le v.first_global k) _ _ (octa-of v.globals (k - v.first_global) h.globals) (chosen (λ n. n < 2 ^ 64) (nat_lt k (length v.locals)) _ _ (octa-of v.locals k h.locals) (omega arith))

pub octa-register : (z : Stack) (k : ℕ) → OctaStack z → register z k < 2 ^ 64
unfolding register
octa-register (listed r) k h = absurd h
octa-register (windowed w) k h = octa-value w.visible k h.visible

pub octa-in-area : (z : Stack) (i : ℕ) → OctaStack z → stack_octa z i < 2 ^ 64
unfolding stack_octa
octa-in-area (listed r) i h = absurd h
octa-in-area (windowed w) i h = octa-of w.hidden.stack i h.hidden.area

-- HIDDEN OCTAS

spilled-octas : (h : HiddenPart) (n : ℕ) → OctaHidden h → OctaHidden (with_spilled h n)
unfolding with_spilled
spilled-octas h n o = record {
  resident = octas-drop n h.resident o.resident;
  area = octas-append (take h.spilled h.stack ++ take n h.resident) (drop (h.spilled + length (take n h.resident)) h.stack) (octas-append (take h.spilled h.stack) (take n h.resident) (octas-take h.spilled h.stack o.area) (octas-take n h.resident o.resident)) (octas-drop (h.spilled + length (take n h.resident)) h.stack o.area);
}

room-octas : (h : HiddenPart) (l registers : ℕ) → OctaHidden h → OctaHidden (with_room h l registers)
unfolding with_room
room-octas h l registers o = chosen OctaHidden (nat_lt (length h.resident + l) registers) _ _ o (spilled-octas h (length h.resident + l + 1 - registers) o)

all-octas : (h : HiddenPart) → OctaHidden h → AreOctas (octas_of h)
all-octas h o = octas-append (take h.spilled h.stack) h.resident (octas-take h.spilled h.stack o.area) o.resident

more-octas : (h : HiddenPart) (octas : List ℕ) → OctaHidden h → AreOctas octas → OctaHidden (with_hidden h octas)
more-octas h octas o f = record { resident = octas-append h.resident octas o.resident f; area = o.area }

-- OPERATIONS

pub set-octas : (z : Stack) (k x : ℕ) → OctaStack z → x < 2 ^ 64 → OctaStack (with_register z k x)
unfolding with_register
set-octas (listed r) k x h f = absurd h
set-octas (windowed w) k x h f =
    let v : OctaRegisters (with_value w.visible k x) = value-octas w.visible k x h.visible f in
    chosen OctaStack (is_marginal w.visible k) _ _ (record { visible = v; hidden = room-octas w.hidden (length (with_value w.visible k x).locals) w.size h.hidden }) (record { visible = v; hidden = h.hidden })

pub cut-octas : (z : Stack) (l : ℕ) → OctaStack z → OctaStack (cut_to z l)
unfolding cut_to
cut-octas (listed r) l h = absurd h
cut-octas (windowed w) l h = record { visible = record { locals = octas-take l w.visible.locals h.visible.locals; globals = h.visible.globals }; hidden = h.hidden }

pub globals-octas : (z : Stack) (g : ℕ) → OctaStack z → OctaStack (with_global_start z g)
unfolding with_global_start
globals-octas (listed r) g h = absurd h
globals-octas (windowed w) g h = record {
  visible = record {
    locals = h.visible.locals;
    globals = octas-append (replicate (w.visible.first_global - g) 0) (drop (g - w.visible.first_global) w.visible.globals) (octas-zeros (w.visible.first_global - g)) (octas-drop (g - w.visible.first_global) w.visible.globals h.visible.globals);
  };
  hidden = h.hidden;
}

pub area-octas : (z : Stack) (i x : ℕ) → OctaStack z → x < 2 ^ 64 → OctaStack (with_stack_octa z i x)
unfolding with_stack_octa
area-octas (listed r) i x h f = absurd h
area-octas (windowed w) i x h f = record { visible = h.visible; hidden = record { resident = h.hidden.resident; area = octas-set w.hidden.stack i x h.hidden.area f } }

-- PUSH AND POP

number-below : (v : Registers) (x : ℕ) → x < 256 → length v.locals < 256 → push_number v x < 2 ^ 64
number-below v x f g = chosen (λ n. n < 2 ^ 64) (nat_lt x v.first_global) _ _ (omega arith) (omega arith)

pub push-octas : (z : Stack) (x : ℕ) → IsRinged z → OctaStack z → x < 256 → OctaStack (pushed z x)
unfolding pushed
push-octas (listed r) x g h f = absurd h
push-octas (windowed w) x g h f =
    let n : ℕ = push_number w.visible x in
    let few : length w.visible.locals < 256 = omega (arith, g.registers.locals_below_globals, g.registers.one_is_global) in
    let below : AreOctas (registers_below w.visible n) = octas-append (take n w.visible.locals) (replicate (n - length w.visible.locals) 0) (octas-take n w.visible.locals h.visible.locals) (octas-zeros (n - length w.visible.locals)) in
    let octas : AreOctas (pushed_octas w.visible n) = octas-append (registers_below w.visible n) (n ∷ []) below (number-below w.visible x f few, tt) in
    record {
      visible = record { locals = octas-drop (n + 1) w.visible.locals h.visible.locals; globals = h.visible.globals };
      hidden = room-octas (with_hidden w.hidden (pushed_octas w.visible n)) (length (registers_from w.visible (n + 1)).locals) w.size (more-octas w.hidden (pushed_octas w.visible n) h.hidden octas);
    }

results-octas : (locals : List ℕ) (x : ℕ) → AreOctas locals → AreOctas (results locals x)
results-octas locals x h =
    chosen AreOctas (x == 0) _ _ tt (chosen AreOctas (nat_le x (length locals)) _ _ (octa-of locals (x - 1) h, octas-take (x - 1) locals h) (omega arith, h))

pub pop-octas : (z : Stack) (x : ℕ) → OctaStack z → OctaStack (popped z x)
unfolding popped with_first
pop-octas (listed r) x h = absurd h
pop-octas (windowed w) x h =
    let octas : List ℕ = octas_of w.hidden in
    let k : ℕ = hole_in octas in
    let n : ℕ = length octas - (k + 1) in
    let back : AreOctas (popped_octas octas k) = octas-take k (drop n octas) (octas-drop n octas (all-octas w.hidden h.hidden)) in
    record {
      visible = record {
        locals = octas-take w.visible.first_global (popped_octas octas k ++ results w.visible.locals x) (octas-append (popped_octas octas k) (results w.visible.locals x) back (results-octas w.visible.locals x h.visible.locals));
        globals = h.visible.globals;
      };
      hidden = record { resident = octas-take (n - w.hidden.spilled) w.hidden.resident h.hidden.resident; area = h.hidden.area };
    }

-- SAVE AND UNSAVE

-- the special registers of a frame are octas, and rA has 18 bits
pub record OctaSaved (s : Saved) : Type 0 where
  pub octas : AreOctas (saved_specials s)
  pub status : s.a < 2 ^ 18

top-below : (g a : ℕ) → g ≤ 255 → a < 2 ^ 18 → 2 ^ 56 * g + a < 2 ^ 64
top-below g a f h = omega arith

frame-octas : (v : Registers) (s : Saved) → OctaRegisters v → OctaSaved s → length v.locals < 256 → v.first_global ≤ 255 → AreOctas (frame v s)
frame-octas v s h o f g =
    octas-append (v.locals ++ length v.locals ∷ v.globals ++ saved_specials s) ((2 ^ 56 * v.first_global + s.a) ∷ []) (octas-append (v.locals ++ length v.locals ∷ v.globals) (saved_specials s) (octas-append v.locals (length v.locals ∷ v.globals) h.locals (omega arith, h.globals)) o.octas) (top-below v.first_global s.a g o.status, tt)

pub save-octas : (z : Stack) (x : ℕ) (s : Saved) → IsRinged z → OctaStack z → OctaSaved s → save_overfills z ≡ false → OctaStack (saved z x s)
unfolding saved
save-octas (listed r) x s g h o e = absurd h
save-octas (windowed w) x s g h o e =
    let few : length w.visible.locals < 256 = omega (arith, g.registers.locals_below_globals, g.registers.one_is_global) in
    let hidden : HiddenPart = with_hidden w.hidden (frame w.visible s) in
    let room : length (octas_of w.hidden) + frame_length w.visible.first_global (length w.visible.locals) ≤ 2 ^ 20 = save-room w e in
    record {
      visible = value-octas (with_locals_cut w.visible 0) x (stack_address (frame_top (windowed w))) (record { locals = octas-take 0 w.visible.locals h.visible.locals; globals = h.visible.globals }) (omega arith);
      hidden = spilled-octas hidden (length hidden.resident) (more-octas w.hidden (frame w.visible s) h.hidden (frame-octas w.visible s h.visible o few g.registers.one_is_global));
    }

pub unsave-octas : (z : Stack) (i : ℕ) → OctaStack z → OctaStack (unsaved z i)
unfolding unsaved
unsave-octas (listed r) i h = absurd h
unsave-octas (windowed w) i h =
    let octas : List ℕ = octas_to (windowed w) i in
    let all : AreOctas octas = octas-take (i + 1) w.hidden.stack h.hidden.area in
    let middle : ℕ = frame_middle octas i in
    let l : ℕ = frame_locals octas i in
    record {
      visible = record {
        locals = octas-take (frame_global octas i) (take l (drop (middle - l) octas)) (octas-take l (drop (middle - l) octas) (octas-drop (middle - l) octas all));
        globals = octas-take (256 - frame_global octas i) (drop (middle + 1) octas) (octas-drop (middle + 1) octas all);
      };
      hidden = record { resident = tt; area = h.hidden.area };
    }

pub unsaved-octas : (z : Stack) (i : ℕ) → OctaStack z → OctaSaved (unsaved_specials z i)
unfolding unsaved_specials frame_specials
unsaved-octas (listed r) i h = absurd h
unsaved-octas (windowed w) i h =
    let octas : List ℕ = octas_to (windowed w) i in
    let all : AreOctas octas = octas-take (i + 1) w.hidden.stack h.hidden.area in
    record {
      octas = (octa-of octas (i - 12) all, (octa-of octas (i - 11) all, (octa-of octas (i - 10) all, (octa-of octas (i - 9) all, (octa-of octas (i - 8) all, (octa-of octas (i - 7) all, (octa-of octas (i - 6) all, (octa-of octas (i - 5) all, (octa-of octas (i - 4) all, (octa-of octas (i - 3) all, (octa-of octas (i - 2) all, (octa-of octas (i - 1) all, tt))))))))))));
      status = omega arith;
    }
