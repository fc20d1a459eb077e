-- A machine that holds octas, and what each stage of carrying an effect out makes of it.
use Rattle.std.proofs.Common.{◌≡◌, ℕ, zero, suc, ◌+◌, ◌-◌, ◌*◌, ◌/◌, ◌^◌, ◌≤◌, ◌<◌, ◌==◌, true, false, List, [], ◌∷◌, Option, None, Some, slice_index, slice_set, arith, refl, sym, subst, ap, ⊎_elim}
use Rattle.std.specs.List.{AllByRecursion}
use Rattle.std.proofs.lemmas.Bool.{cases_Bool}
use Rattle.std.proofs.lemmas.Bool.Decides.{nat_tests}
use Rattle.mx_word.specs.Ranges.{AreOctas}
use Rattle.mx_mem.specs.Memory.{stored_at}
use Rattle.mx_mem.specs.Parts.{size_of, bits_below, with_part}
use Rattle.mx_mem.specs.declared.part.Part.{Part}
use Rattle.mx_mem.specs.declared.part.Part.TheVariants.{Byte, Wyde, Tetra, Octa}
use Rattle.mx_mem.proofs.Fields.{replaced-fits}
use Rattle.mx_ring.specs.Stack.{Stack, listed, windowed, visible, local_count, hidden_count, spilled_count, in_stack_area, stack_index, save_overfills, register}
use Rattle.mx_code.specs.SpecialRegisters.{rA, rC, rO, rS, rG, rL, rB, rJ, rW, rX, rY, rZ}
use Rattle.mx_core.specs.Deeds.{with_result, with_store, with_specials, moved, tripped, trip_specials, onward}
use Rattle.mx_core.specs.Effects.{Effect, Store, Tripping, Move, stays, pushes, pops, saves, unsaves, cuts, moves_globals}
use Rattle.mx_code.specs.Instructions.{next_of}
use Rattle.mx_code.specs.declared.instruction.Instruction.{Instruction}
use Rattle.mx_core.specs.State.{State, octa, with_octa, with_special, with_value_in, special_register, global_start, locals}
use Rattle.mx_core.proofs.Choices.{chosen}
use Rattle.mx_core.proofs.Octas.Answered.{IsOctaIf}
use Rattle.mx_core.proofs.Octas.Lists.{octas-set, octa-of}
use Rattle.mx_core.proofs.Octas.Stacks.{OctaStack, OctaSaved, octa-register, octa-in-area, set-octas, cut-octas, globals-octas, area-octas, push-octas, pop-octas, save-octas, unsave-octas}
use Rattle.mx_core.proofs.Kept.Rings.{IsRinged}
use Rattle.mx_core.proofs.Kept.Stages.{octa-in-stack, octa-on-page}

pub record OctaState (s : State) : Type 0 where
  pub stack : OctaStack s.stack
  pub special : AreOctas s.special
  pub status : slice_index s.special rA < 2 ^ 18
  pub memory : (a : ℕ) → s.octas a < 2 ^ 64
  pub steps : s.steps < 2 ^ 64

pub stack-octas : (s : State) (z : Stack) (mark : ℕ) → OctaState s → OctaStack z → OctaState (record s { stack = z; mark = mark })
stack-octas s z mark h o = record { stack = o; special = h.special; status = h.status; memory = h.memory; steps = h.steps }

pub value-octas : (s : State) (k x : ℕ) → OctaState s → x < 2 ^ 64 → OctaState (with_value_in s k x)
value-octas s k x h f = stack-octas s _ s.mark h (set-octas s.stack k x h.stack f)

pub result-octas : (s : State) (k : ℕ) (r : Option ℕ) → OctaState s → IsOctaIf r → OctaState (with_result s k r)
result-octas s k None h f = h
result-octas s k (Some x) h f = value-octas s k x h f

-- STORES

-- an octa in which a part is replaced
part-room : (part : Part) (a : ℕ) → bits_below part a + (8 * size_of part + (64 - bits_below part a - 8 * size_of part)) ≡ 64
part-room Byte a = omega arith
part-room Wyde a = omega arith
part-room Tetra a = omega arith
part-room Octa a = omega arith

part-below : (part : Part) (x a v : ℕ) → x < 2 ^ 64 → with_part part x a v < 2 ^ 64
part-below part x a v f =
    let s : ℕ = bits_below part a in
    let w : ℕ = 8 * size_of part in
    let k : ℕ = 64 - s - w in
    subst (λ t. with_part part x a v < 2 ^ t) (part-room part a) (replaced-fits x s w k v (subst (λ t. x < 2 ^ t) (sym (part-room part a)) f))

pub octa-below : (s : State) (a : ℕ) → OctaState s → octa s a < 2 ^ 64
unfolding octa
octa-below s a h = chosen (λ n. n < 2 ^ 64) (in_stack_area a) _ _ (octa-in-area s.stack (stack_index a) h.stack) (h.memory a)

stored-below : (octas : ℕ → ℕ) (a x : ℕ) → ((q : ℕ) → octas q < 2 ^ 64) → x < 2 ^ 64 → (q : ℕ) → stored_at octas a x q < 2 ^ 64
stored-below octas a x h f q = chosen (λ n. n < 2 ^ 64) (q / 8 == a / 8) _ _ f (h q)

pub octa-octas : (s : State) (a x : ℕ) → OctaState s → x < 2 ^ 64 → OctaState (with_octa s a x)
octa-octas s a x h f = ⊎_elim (λ e. inside e) (λ e. outside e) (cases_Bool (in_stack_area a))
  where
    inside : in_stack_area a ≡ true → OctaState (with_octa s a x)
    inside e = subst OctaState (sym (octa-in-stack s a x e)) (stack-octas s _ s.mark h (area-octas s.stack (stack_index a) x h.stack f))

    outside : in_stack_area a ≡ false → OctaState (with_octa s a x)
    outside e = subst OctaState (sym (octa-on-page s a x e)) (record { stack = h.stack; special = h.special; status = h.status; memory = stored-below s.octas a x h.memory f; steps = h.steps })

pub store-octas : (s : State) (store : Option Store) → OctaState s → OctaState (with_store s store)
store-octas s None h = h
store-octas s (Some store) h = octa-octas s store.at _ h (part-below store.part (octa s store.at) store.at store.value (octa-below s store.at h))

-- SPECIAL REGISTERS

-- what a special register gets is an octa, and rA gets 18 bits
pub record OctaSpecial (code value : ℕ) : Type 0 where
  pub octa : value < 2 ^ 64
  pub status : code ≡ rA → value < 2 ^ 18

abbrev pub OctaSpecials : List (ℕ × ℕ) → Type 0
OctaSpecials more = AllByRecursion (λ p. OctaSpecial p.0 p.1) more

set-below : (xs : List ℕ) (i k x b : ℕ) → 0 < b → slice_index xs k < b → (i ≡ k → x < b) → slice_index (slice_set xs i x) k < b
set-below [] i k x b z h f = h
set-below (y ∷ xs) zero zero x b z h f = f refl
set-below (y ∷ xs) zero (suc k) x b z h f = h
set-below (y ∷ xs) (suc i) zero x b z h f = h
set-below (y ∷ xs) (suc i) (suc k) x b z h f = set-below xs i k x b z h (λ e. f (ap suc e))

pub special-octas : (s : State) (code value : ℕ) → OctaState s → OctaSpecial code value → OctaState (with_special s code value)
special-octas s code value h f = record {
  stack = h.stack;
  special = octas-set s.special code value h.special f.octa;
  status = set-below s.special code rA value (2 ^ 18) (omega arith) h.status f.status;
  memory = h.memory;
  steps = h.steps;
}

pub specials-octas : (s : State) (more : List (ℕ × ℕ)) → OctaState s → OctaSpecials more → OctaState (with_specials s more)
specials-octas s [] h f = h
specials-octas s ((code, value) ∷ more) h f = specials-octas (with_special s code value) more (special-octas s code value h f.0) f.1

-- what a special register has
special-below : (s : State) (code : ℕ) → OctaState s → global_start s < 2 ^ 64 → locals s < 2 ^ 64 → hidden_count s.stack ≤ 2 ^ 20 → spilled_count s.stack ≤ 2 ^ 20 → special_register s code < 2 ^ 64
unfolding special_register
special-below s code h g l m n =
    chosen (λ x. x < 2 ^ 64) (code == rC) _ _ h.steps (chosen (λ x. x < 2 ^ 64) (code == rO) _ _ (omega arith) (chosen (λ x. x < 2 ^ 64) (code == rS) _ _ (omega arith) (chosen (λ x. x < 2 ^ 64) (code == rG) _ _ g (chosen (λ x. x < 2 ^ 64) (code == rL) _ _ l (octa-of s.special code h.special)))))

record RingCounts (z : Stack) : Type 0 where
  global : (visible z).first_global < 2 ^ 64
  local : local_count z < 2 ^ 64
  hidden : hidden_count z ≤ 2 ^ 20
  spilled : spilled_count z ≤ 2 ^ 20

counts : (z : Stack) → IsRinged z → RingCounts z
counts (listed r) g = absurd g
counts (windowed w) g = record {
  global = omega (arith, g.registers.one_is_global);
  local = omega (arith, g.registers.one_is_global, g.registers.locals_below_globals);
  hidden = omega (arith, g.has_room);
  spilled = omega (arith, g.has_room, g.spilled_are_hidden);
}

pub octa-special : (s : State) (code : ℕ) → IsRinged s.stack → OctaState s → special_register s code < 2 ^ 64
octa-special s code r h = let c : RingCounts s.stack = counts s.stack r in special-below s code h c.global c.local c.hidden c.spilled

-- MOVES

abbrev pub OctaMove : Stack → Move → Type 0
OctaMove z (pushes x) = x < 256
OctaMove z (saves x specials) = OctaSaved specials × (save_overfills z ≡ false)
OctaMove z move = Unit {0}

pub moved-octas : (s : State) (move : Move) → IsRinged s.stack → OctaState s → OctaMove s.stack move → OctaState (moved s move)
moved-octas s stays r h f = h
moved-octas s (pushes x) r h f = stack-octas s _ s.mark h (push-octas s.stack x r h.stack f)
moved-octas s (pops x) r h f = stack-octas s _ _ h (pop-octas s.stack x h.stack)
moved-octas s (saves x specials) r h f = stack-octas s _ _ h (save-octas s.stack x specials r h.stack f.0 f.1)
moved-octas s (unsaves i) r h f = stack-octas s _ _ h (unsave-octas s.stack i h.stack)
moved-octas s (cuts l) r h f = stack-octas s _ s.mark h (cut-octas s.stack l h.stack)
moved-octas s (moves_globals g) r h f = stack-octas s _ s.mark h (globals-octas s.stack g h.stack)

-- TRIPS

-- an instruction that is a tetra, with operands that are octas
abbrev pub OctaOperands : Option (ℕ × ℕ) → Type 0
OctaOperands None = Unit {0}
OctaOperands (Some (y, z)) = (y < 2 ^ 64) × (z < 2 ^ 64)

pub record OctaInstruction (i : Instruction) : Type 0 where
  pub word : i.word < 2 ^ 32
  pub given : OctaOperands i.given

abbrev pub OctaTrip : Option Tripping → Type 0
OctaTrip None = Unit {0}
OctaTrip (Some t) = (t.y < 2 ^ 64) × (t.z < 2 ^ 64)

pub no-status : (code value : ℕ) → value < 2 ^ 64 → (code == rA) ≡ false → OctaSpecial code value
no-status code value f n = record { octa = f; status = λ e. absurd (grind (arith, nat_tests)) }

trip-octas : (s : State) (i : Instruction) (t : Tripping) → OctaState s → OctaInstruction i → t.y < 2 ^ 64 → t.z < 2 ^ 64 → OctaSpecials (trip_specials s i t)
trip-octas s i t h o y z =
    (no-status rW (next_of i) (omega arith) refl, (no-status rX (2 ^ 63 + i.word) (omega (arith, o.word)) refl, (no-status rY t.y y refl, (no-status rZ t.z z refl, (no-status rB (register s.stack 255) (octa-register s.stack 255 h.stack) refl, tt)))))

pub tripped-octas : (s : State) (i : Instruction) (t : Option Tripping) → IsRinged s.stack → OctaState s → OctaInstruction i → OctaTrip t → OctaState (tripped s i t)
tripped-octas s i None r h o f = h
tripped-octas s i (Some t) r h o f = value-octas (with_specials s (trip_specials s i t)) 255 _ (specials-octas s (trip_specials s i t) h (trip-octas s i t h o f.0 f.1)) (octa-special s rJ r h)

pub onward-octas : (s : State) (a : ℕ) → OctaState s → OctaState (onward s a)
onward-octas s a h = record { stack = h.stack; special = h.special; status = h.status; memory = h.memory; steps = omega arith }

-- EFFECTS

pub record OctaEffect (z : Stack) (e : Effect) : Type 0 where
  pub result : IsOctaIf e.result
  pub special : OctaSpecials e.special
  pub move : OctaMove z e.move
  pub trip : OctaTrip e.trip
