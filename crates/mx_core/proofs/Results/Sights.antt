-- What operations do to memory.
use Rattle.std.proofs.Common.{◌≡◌, ℕ, ◌==◌, Bool, true, false, Option, None, Some, refl, ap, ◌∙◌}
use Rattle.std.specs.Option.{option_map}
use Rattle.mx_alu.specs.declared.answer.Event.{Event}
use Rattle.mx_code.specs.SpecialRegisters.{rA, rG, rL}
use Rattle.mx_code.specs.Puts.{put_of}
use Rattle.mx_code.specs.declared.put.Put.{Put}
use Rattle.mx_code.specs.declared.put.Put.TheVariants as put
use Rattle.mx_alu.specs.Trips.{decided}
use Rattle.mx_alu.specs.declared.decision.Trip.{Trip}
use Rattle.mx_alu.specs.declared.decision.Trip.TheVariants.{Taken, Noted}
use Rattle.mx_code.specs.Instructions.{x_of, destination_of}
use Rattle.mx_code.specs.declared.instruction.Instruction.{Instruction}
use Rattle.mx_core.specs.Deeds.{deed_of, with_destination}
use Rattle.mx_code.specs.LoadsAndStores.{loaded_part, stored_part, touch}
use Rattle.mx_core.specs.Effects.{Effect, Store, effect_of, with_event, with_decision, putting, z_operand, data_address}
use Rattle.mx_core.specs.State.{State, special_register, global_start, locals}
use Rattle.mx_core.specs.Step.{store_touch}
use Rattle.mx_core.specs.Way.Stepping.{sight_of, moves_memory}
use Rattle.mx_code.specs.declared.operation.Loading.{Loading}
use Rattle.mx_code.specs.declared.operation.Storing.{Storing}
use Rattle.mx_code.specs.declared.operation.Operation.{Operation}
use Rattle.mx_code.specs.declared.operation.Operation.TheVariants as op
use Rattle.mx_core.specs.declared.sight.Sight.{Sight}
use Rattle.mx_code.specs.declared.trace.Touch.{Touch}
use Rattle.mx_core.proofs.Results.Outcomes.{address_kept}

-- the same loads and stores
abbrev SameMoves : Effect → Effect → Type 0
SameMoves e f = (e.load ≡ f.load) × (e.store ≡ f.store)

event-moves : (s : State) (event : Option Event) (y z : ℕ) (e : Effect) → SameMoves (with_event s event y z e) e
event-moves s None y z e = (refl, refl)
event-moves s (Some event) y z e = by (decided (special_register s rA) event)
  where
    by : (t : Trip) → SameMoves (with_decision t y z e) e
    by (Taken handler) = (refl, refl)
    by (Noted b) = (refl, refl)

-- neither loads nor stores
abbrev Quiet : Effect → Type 0
Quiet e = (e.load ≡ None) × (e.store ≡ None)

put-quiet : (i : Instruction) (code : ℕ) (p : Put) → Quiet (putting i code p)
put-quiet i code (put.Store v) = by (code == rL) (code == rG) refl refl
  where
    by : (a b : Bool) → code == rL ≡ a → code == rG ≡ b → Quiet (putting i code (put.Store v))
    by true b e f = rw e (refl, refl)
    by false true e f = rw (e, f) (refl, refl)
    by false false e f = rw (e, f) (refl, refl)
put-quiet i code put.Illegal = (refl, refl)
put-quiet i code put.Privileged = (refl, refl)

quiet : (o : Operation) (s : State) (i : Instruction) → moves_memory o ≡ false → Quiet (effect_of o s i)
unfolding effect_of
quiet op.Compute s i e = event-moves s _ _ _ _
quiet op.Negate s i e = event-moves s _ _ _ _
quiet op.Put s i e = put-quiet i (x_of i) (put_of (x_of i) (z_operand s i) (global_start s) (locals s))
quiet (op.Load how) s i e = absurd (cc)
quiet (op.Store how) s i e = absurd (cc)
quiet op.CompareAndSwap s i e = absurd (cc)
quiet o s i e = (refl, refl)

sight-with : Option ℕ → Option Touch → Option Store → Sight
sight-with dest load store = record { dest = dest; reads = load; writes = option_map store_touch store }

pub quiet_sight : (o : Operation) (s : State) (i : Instruction) → moves_memory o ≡ false → sight_of (deed_of o s i) ≡ record { dest = destination_of o i; reads = None; writes = None }
unfolding sight-with
quiet_sight o s i e =
    let q = quiet o (with_destination o s i) i e in
    ap (λ l. sight-with (destination_of o i) l (effect_of o (with_destination o s i) i).store) q.0 ∙ ap (λ st. sight-with (destination_of o i) None st) q.1

pub load_sight : (how : Loading) (s : State) (i : Instruction) → sight_of (deed_of (op.Load how) s i) ≡ record { dest = Some (x_of i); reads = Some (touch (data_address s i) (loaded_part how)); writes = None }
unfolding effect_of
load_sight how s i = ap (λ a. record { dest = Some (x_of i); reads = Some (touch a (loaded_part how)); writes = None }) (address_kept s i (x_of i))

pub store_sight : (how : Storing) (s : State) (i : Instruction) → sight_of (deed_of (op.Store how) s i) ≡ record { dest = None; reads = None; writes = Some (touch (data_address s i) (stored_part how)) }
unfolding effect_of sight-with
store_sight how s i =
    let q = event-moves s _ _ _ _ in
    ap (λ l. sight-with None l (effect_of (op.Store how) s i).store) q.0 ∙ ap (λ st. sight-with None None st) q.1
