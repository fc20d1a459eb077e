-- A step that does not look at Stack_Segment writes outside the stack area: the touches of its trace.
use Rattle.std.proofs.Common.{◌≡◌, ℕ, ◌/◌, ◌^◌, ◌<◌, ◌≤◌, Bool, true, false, cond, Option, None, Some, arith, refl, sym, ◌∙◌, ap, subst}
use Rattle.std.specs.Prelude.{◌||◌, ◌&&◌, ◌==◌, not}
use Rattle.std.specs.Option.{option_map}
use Rattle.std.proofs.lemmas.Bool.Decides.{nat_tests}
use Rattle.mx_host.specs.HostModel.{HostModel}
use Rattle.mx_mem.specs.declared.part.Part.{Part}
use Rattle.mx_mem.specs.declared.part.Part.TheVariants as part
use Rattle.mx_plan.specs.Wild.{Course, ends, meets_wild}
use Rattle.mx_plan.proofs.WildLaws.{EndsSo}
use Rattle.mx_ring.specs.Stack.{in_stack_area}
use Rattle.mx_code.specs.SpecialRegisters.{rW, rX}
use Rattle.mx_alu.specs.declared.call.TrapCall.{TrapCall}
use Rattle.mx_alu.specs.declared.insertion.Insert.{Insert}
use Rattle.mx_alu.specs.declared.insertion.Insert.TheVariants as insert
use Rattle.mx_alu.specs.declared.insertion.Kind.TheVariants.{Again, Continue, Set}
use Rattle.mx_alu.specs.Insertions.{insertion}
use Rattle.mx_trap.specs.FileTraps.{trap_answer}
use Rattle.mx_trap.specs.Moves.{Leaves}
use Rattle.mx_trap.specs.Touches.{touches}
use Rattle.mx_trap.specs.declared.answer.TrapAnswer.{TrapAnswer}
use Rattle.mx_trap.specs.declared.answer.TrapAnswer.TheVariants as trap
use Rattle.mx_core.specs.Way.Calls.{left}
use Rattle.mx_core.specs.Deeds.{Deed, state_done, unless_refused, deed_of, given_instruction, inserted, resumed, plain_deed, with_destination, looks_at_stack, loads_in_segment, stores_in_segment, is_absent}
use Rattle.mx_code.specs.LoadsAndStores.{touch}
use Rattle.mx_core.specs.Effects.{Effect, Store, effect_of, going_to}
use Rattle.mx_code.specs.Instructions.{instruction, operation_in, xyz_of}
use Rattle.mx_core.specs.MachineSpace.{machine_contents, state_in}
use Rattle.mx_word.specs.Segments.{is_in_stack_segment}
use Rattle.mx_core.specs.State.{State, special_register, locals, global_start, is_negative}
use Rattle.mx_core.specs.Step.{Stepped, went, calls, stopped, fetched, store_touch, step}
use Rattle.mx_core.specs.Deeds.{deed_for, deed_at}
use Rattle.mx_core.specs.Wild.{deed, is_wild}
use Rattle.mx_code.specs.declared.reason.Reason.{Reason}
use Rattle.mx_code.specs.declared.reason.Reason.TheVariants.{Illegal}
use Rattle.mx_code.specs.declared.trace.Touch.{Touch}
use Rattle.mx_code.specs.declared.trace.Trace.{Trace}
use Rattle.mx_core.proofs.Same.Quiet.{free}
use Rattle.mx_core.proofs.Steps.{other_deed, step_went, step_stopped, step_traps, step_negative}
use Rattle.mx_run.specs.RunPlans.{RunWorld, end_of_trace, end_of_turn}
use Rattle.mx_run.specs.Runs.{FlagsOf, break_of}
use Rattle.mx_run.specs.Turns.{Turn, area_size, turn_with, trap_turn, turn_of, turn, turn_answer}
use Rattle.mx_run.specs.WildRuns.{list_machine, trap_touches, turn_is_wild, run_by}
use Rattle.mx_run.specs.declared.end.BreakKind.{BreakKind}
use Rattle.mx_run.specs.declared.end.End.{End}
use Rattle.mx_run.specs.declared.end.End.TheVariants as ending
use Rattle.mx_run.specs.declared.turn_answer.TurnAnswer.{TurnAnswer}
use Rattle.mx_run.specs.declared.turn_answer.TurnAnswer.TheVariants as answer
use Rattle.mx_run.proofs.RunCases.{OnOr, AnyWay, run-ends-so}

-- what is touched lies outside the stack area
abbrev pub Outside : Option Touch → Type 0
Outside None = Unit {0}
Outside (Some t) = in_stack_area t.at ≡ false

-- ---- A DEED

outside-part : (a : ℕ) (p : Part) → is_in_stack_segment a ≡ false → in_stack_area (touch a p).at ≡ false
outside-part a part.Byte e = grind (arith, nat_tests)
outside-part a part.Wyde e = grind (arith, nat_tests)
outside-part a part.Tetra e = grind (arith, nat_tests)
outside-part a part.Octa e = grind (arith, nat_tests)

store-outside : (store : Option Store) → stores_in_segment store ≡ false → Outside (option_map store_touch store)
store-outside None e = tt
store-outside (Some store) e = outside-part store.at store.part e

last-false : (a b c : Bool) → (a || b || c) ≡ false → c ≡ false
last-false true b c e = absurd (cc)
last-false false true c e = absurd (cc)
last-false false false c e = e

-- where nothing refuses a deed and it is not wild, it stores outside
abbrev StoresOutside : Deed → Type 0
StoresOutside d = d.is_wild ≡ false → d.refused ≡ None → Outside (option_map store_touch d.effect.store)

deed-outside : (operation : _) (s : State) (i : _) → StoresOutside (deed_of operation s i)
deed-outside operation s i w n =
    let e : Effect = effect_of operation (with_destination operation s i) i in
    store-outside e.store (last-false (looks_at_stack operation s i) (loads_in_segment e.load) (stores_in_segment e.store)
    (sym (ap (λ (r : Option Reason). is_absent r && (looks_at_stack operation s i || loads_in_segment e.load || stores_in_segment e.store)) (free operation s i e n).form) ∙ w))

inserted-outside : (s : State) (i : _) (ins : Insert) → StoresOutside (inserted s i ins)
inserted-outside s i (insert.Back address) w n = tt
inserted-outside s i (insert.Perform Again at word) w n = deed-outside (operation_in (instruction at word)) s (instruction at word) w n
inserted-outside s i (insert.Perform Continue at word) w n = deed-outside (operation_in (instruction at word)) s (given_instruction s at word) w n
inserted-outside s i (insert.Perform Set at word) w n = tt
inserted-outside s i insert.Illegal w n = tt
inserted-outside s i insert.LeftOut w n = tt

either-outside : (b : Bool) (c d : Deed) → StoresOutside c → StoresOutside d → StoresOutside (cond b c d)
either-outside true c d g h w n = g w n
either-outside false c d g h w n = h w n

resumed-outside : (s : State) (i : _) → StoresOutside (resumed s i)
resumed-outside s i w n =
    let ins : Insert = insertion (special_register s rX) (special_register s rW) (locals s) (global_start s) in
    either-outside (not (xyz_of i == 0)) (plain_deed s i None (going_to i i.at) (Some Illegal)) (inserted s i ins) (λ v m. tt) (inserted-outside s i ins) w n

-- what is decided for RESUME and for all else is decided
false-if : (b : Bool) → (b ≡ true → ⊥) → b ≡ false
false-if true h = absurd (h refl)
false-if false h = refl

not-both : (b : Bool) → b ≡ true → b ≡ false → ⊥
not-both true e f = absurd (cc)
not-both false e f = absurd (cc)

abbrev InArea : Option Touch → Bool
InArea None = false
InArea (Some t) = in_stack_area t.at

outside-is : (t : Option Touch) → Outside t → InArea t ≡ false
outside-is None o = refl
outside-is (Some t) o = o

is-outside : (t : Option Touch) → InArea t ≡ false → Outside t
is-outside None e = tt
is-outside (Some t) e = e

abbrev stored-in : Deed → Bool
stored-in d = InArea (option_map store_touch d.effect.store)

at-outside : (s : State) → StoresOutside (deed_at s (fetched s))
at-outside s w n =
    is-outside _ (false-if (stored-in (deed_at s (fetched s))) (λ b.
    not-both (stored-in (deed_at s (fetched s))) b
    (by-deed (deed_at s (fetched s)) (deed_of (operation_in (fetched s)) s (fetched s))
    (other_deed (operation_in (fetched s)) s (fetched s) (λ r.
    not-both (stored-in (deed_at s (fetched s))) b
    (by-deed (deed_at s (fetched s)) (resumed s (fetched s)) (ap (λ o. deed_for o s (fetched s)) r) (resumed-outside s (fetched s)) w n)))
    (deed-outside (operation_in (fetched s)) s (fetched s)) w n)))
  where
    by-deed : (d e : Deed) → d ≡ e → StoresOutside e → d.is_wild ≡ false → d.refused ≡ None → stored-in d ≡ false
    by-deed d e k h w n = outside-is (option_map store_touch d.effect.store) (subst StoresOutside (sym k) h w n)

-- ---- A STEP

abbrev step-in : Stepped → Bool
step-in (went t trace) = InArea trace.writes
step-in (calls call) = false
step-in (stopped reason) = false

abbrev pub StepOutside : Stepped → Type 0
StepOutside (went t trace) = Outside trace.writes
StepOutside (calls call) = Unit {0}
StepOutside (stopped reason) = Unit {0}

stepped-outside : (x : Stepped) → step-in x ≡ false → StepOutside x
stepped-outside (went t trace) e = is-outside trace.writes e
stepped-outside (calls call) e = tt
stepped-outside (stopped reason) e = tt

no-step-in : (s : State) (r : Option Reason) → (deed_at s (fetched s)).refused ≡ r → s.pc < 2 ^ 63 → (deed_at s (fetched s)).is_wild ≡ false → step-in (step s) ≡ true → ⊥
no-step-in s None e l w b =
    not-both (step-in (step s)) b
    (ap step-in (step_went s (state_done s (deed_at s (fetched s))) l (λ o. not-both (step-in (step s)) b (ap step-in (step_traps s l o)))
    (sym (ap (λ x. left s (unless_refused x (state_done s (deed_at s (fetched s))))) e)))
    ∙ outside-is (option_map store_touch (deed_at s (fetched s)).effect.store) (at-outside s w e))
no-step-in s (Some reason) e l w b =
    not-both (step-in (step s)) b
    (ap step-in (step_stopped s s reason l (λ o. not-both (step-in (step s)) b (ap step-in (step_traps s l o)))
    (sym (ap (λ x. left s (unless_refused x (state_done s (deed_at s (fetched s))))) e))).0)

second-false : (n g b : Bool) → n ≡ false → (not n && (g || b)) ≡ false → b ≡ false
second-false true g b e w = absurd (cc)
second-false false true b e w = absurd (cc)
second-false false false b e w = w

by-sign : (s : State) (n : Bool) → is_negative s.pc ≡ n → is_wild s ≡ false → step-in (step s) ≡ false
by-sign s true e w = let high : 2 ^ 63 ≤ s.pc = grind (arith, nat_tests) in ap step-in (step_negative s high)
by-sign s false e w =
    let low : s.pc < 2 ^ 63 = grind (arith, nat_tests) in
    false-if (step-in (step s))
    (no-step-in s (deed_at s (fetched s)).refused refl low (second-false (is_negative s.pc) (is_in_stack_segment s.pc) (deed s).is_wild e w))

step-outside : (s : State) → is_wild s ≡ false → StepOutside (step s)
step-outside s w = stepped-outside (step s) (by-sign s (is_negative s.pc) refl w)

-- ---- A TURN

abbrev pub AnswerOutside : TurnAnswer → Type 0
AnswerOutside (answer.Went trace) = Outside trace.writes
AnswerOutside other = Unit {0}

abbrev pub TurnOutside : Turn → Type 0
TurnOutside t = AnswerOutside (turn_answer t).0

with-outside : (b : Bool) (call : TrapCall) (s : State) (m : HostModel) (a : TrapAnswer) → TurnOutside (turn_with b call s m a)
with-outside b call s m (trap.Value value) = tt
with-outside b call s m trap.Halt = tt
with-outside b call s m (trap.Stopped why) = tt
with-outside b call s m trap.OutOfMemory = tt

trap-outside : (b : Bool) (call : TrapCall) (t : Leaves TrapAnswer State) → TurnOutside (trap_turn b call t)
trap-outside b call (a, c, m) = with-outside b call (state_in c area_size) m a

of-outside : (s : State) (m : HostModel) (x : Stepped) → StepOutside x → TurnOutside (turn_of s m x)
of-outside s m (went t trace) h = h
of-outside s m (calls call) h = trap-outside (touches (machine_contents s).bytes call) call (trap_answer (machine_contents s) m call)
of-outside s m (stopped reason) h = tt

first-false : (a b : Bool) → (a || b) ≡ false → a ≡ false
first-false true b e = absurd (cc)
first-false false b e = refl

pub turn-outside : (s : State) (m : HostModel) → turn_is_wild s ≡ false → TurnOutside (turn s m)
unfolding turn
turn-outside s m w = of-outside s m (step s) (step-outside s (first-false (is_wild s) (trap_touches s (step s)) w))

-- ---- A RUN OF THE LIST MACHINE

abbrev pub EndOutside : End → Type 0
EndOutside (ending.Halted status) = Unit {0}
EndOutside (ending.Stopped pc reason) = Unit {0}
EndOutside (ending.Broke kind at None) = Unit {0}
EndOutside (ending.Broke kind at (Some trace)) = Outside trace.writes
EndOutside (ending.Traced trace) = Outside trace.writes
EndOutside ending.Spent = Unit {0}
EndOutside ending.OutOfMemory = Unit {0}

abbrev EndsOutside : End → RunWorld → Type 0
EndsOutside end w = EndOutside end

trace-outside : (n : ℕ) (traced : Bool) (trace : Trace) (b : Option (BreakKind × ℕ)) (v : RunWorld) → Outside trace.writes → OnOr (AnyWay n) EndsOutside (end_of_trace traced trace b) v
trace-outside n true trace (Some (kind, at)) v h = h
trace-outside n false trace (Some (kind, at)) v h = tt
trace-outside n true trace None v h = h
trace-outside n false trace None v h = tt

turned-outside : (n : ℕ) (f : FlagsOf) (pc : ℕ) (a : TurnAnswer) (v : RunWorld) → AnswerOutside a → OnOr (AnyWay n) EndsOutside (end_of_turn f pc a) v
turned-outside n f pc (answer.Went trace) v h = trace-outside n (f (pc / 4)).t trace (break_of f trace) v h
turned-outside n f pc (answer.Halted status) v h = tt
turned-outside n f pc (answer.Stopped reason) v h = tt
turned-outside n f pc answer.OutOfMemory v h = tt

pub run-outside : (n : ℕ) (f : FlagsOf) (pass : Bool) (s : State) (m : HostModel) → EndsSo (λ end w. EndOutside end) (run_by list_machine n f pass s m)
run-outside n f pass s m =
    run-ends-so list_machine f (λ w a v. AnswerOutside a) AnyWay EndsOutside (record { spent = λ w g. tt; broken = λ k w x g. tt; turned = λ k a w v g h. turned-outside k f w.0.pc a v h })
    (λ t k tame. turn-outside t k tame) n pass s m tt
