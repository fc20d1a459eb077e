-- What turns by a schedule come to by their plan, over windows and over lists, and what is left of it after some.
use Rattle.std.proofs.Common.{◌≡◌, ◌≢◌, ℕ, zero, suc, ◌&&◌, not, Bool, true, false, cond, List, Option, None, Some, Ok, Err, inr, refl, sym, subst, ◌∙◌, ap}
use Rattle.std.specs.Prelude.{Result, ◌⊎◌}
use Rattle.mx_host.specs.HostModel.{HostModel}
use Rattle.mx_plan.specs.Plan.{bind, Stops, end_of}
use Rattle.mx_plan.specs.Wild.{Course, ends, meets_wild, then_on, course, carried, GoesAs, GoesOn, alike}
use Rattle.mx_plan.proofs.BothWorlds.{mapped-both, rest-both, done-both, whole-both}
use Rattle.mx_plan.proofs.WildLaws.{course_carried}
use Rattle.mx_run.specs.WildRuns.{MachineKind, window_machine, list_machine, ends_wild}
use Rattle.mx_multi.specs.Clauses.{TurnGoesAsLists, GoAsLists, as_list_joints, AreUntouched, WriteOn, TurnsBoth, RestsBoth}
use Rattle.mx_multi.specs.Joint.{Joint, NoneTouched, as_list_joint, has_halted, state_at}
use Rattle.mx_multi.specs.JointTurns.{JointWorld, turn_of, is_wild_turn}
use Rattle.mx_multi.specs.MultiPlans.{MultiCall, starting, turning, looking, MultiSays, MultiPlan, multi, turn_plan, look, turn_if, step_plan, steps_plan, turns_next, turns_plan}
use Rattle.mx_multi.specs.Schedules.{next_in, or_again, next_turn, end_of_turn, end_at_last}
use Rattle.mx_multi.specs.Turns.{multi_goes, turns}
use Rattle.mx_multi.specs.declared.turn.Turn.{Turn}
use Rattle.mx_multi.specs.declared.turn.Turn.TheVariants as turned
use Rattle.mx_multi.specs.declared.end.MultiEnd.{MultiEnd}
use Rattle.mx_multi.specs.declared.end.MultiEnd.TheVariants.{AllHalted, OutOfMemory}
use Rattle.mx_multi.proofs.Schedules.{found-turn}

-- ---- a turn

goes-by : (b : Bool) (who : ℕ) (j k : Joint) (m n : HostModel) (r : Turn) → TurnGoesAsLists b who (as_list_joint j) m r k n →
    GoesAs as_list_joints AreUntouched WriteOn (then_on (λ a v. ends a v) (cond b (meets_wild (as_list_joint j, m)) (ends (turn_of who (as_list_joint j, m)).0 (turn_of who (as_list_joint j, m)).1))) r (k, n)
goes-by true who j k m n r g = g
goes-by false who j k m n r g = (ap (λ (t : Turn × JointWorld). t.0) (sym g.0), (ap (λ (t : Turn × JointWorld). t.1) (sym g.0), g.1))

-- the turn of a processor that goes as that of list machines
pub turn-goes : (who : ℕ) (j k : Joint) (m n : HostModel) (r : Turn) → TurnGoesAsLists (is_wild_turn who (as_list_joint j)) who (as_list_joint j) m r k n →
    GoesAs as_list_joints AreUntouched WriteOn (course (multi_goes list_machine) (turn_plan who) (as_list_joints (j, m))) r (k, n)
unfolding course turn_plan multi
turn-goes who j k m n r g = goes-by (is_wild_turn who (as_list_joint j)) who j k m n r g

no-memory : (who : ℕ) (rest : List ℕ) (r : Turn) → end_of_turn who rest r ≡ Err OutOfMemory → r ≡ turned.OutOfMemory
no-memory who rest turned.Went e = absurd (cc)
no-memory who rest (turned.Halted status) e = absurd (cc)
no-memory who rest turned.Idle e = absurd (cc)
no-memory who rest (turned.Stopped pc reason) e = absurd (cc)
no-memory who rest turned.OutOfMemory e = refl

looked-both : {A : Type 0} (f : List Bool → MultiPlan A) (v w : JointWorld) (none x : A) → TurnsBoth v w none x (f v.0.halted) → TurnsBoth v w none x (bind f look)
unfolding bind look end_of multi Stops course
looked-both f v w none x c = record { window = record { ending = c.window.ending; stopping = λ h. inr (c.window.stopping h) }; list = c.list }

-- a step is the next turn
pub turned-both : (schedule rest after : List ℕ) (who : ℕ) (v w : JointWorld) (r : Turn) → next_turn v.0.halted schedule rest ≡ Some (who, after) → TurnsBoth v w turned.OutOfMemory r (turn_plan who) →
    TurnsBoth v w (Err OutOfMemory) (end_of_turn who after r) (step_plan schedule rest)
unfolding step_plan
turned-both schedule rest after who v w r e c =
    looked-both (λ halted. turn_if (next_turn halted schedule rest)) v w (Err OutOfMemory) (end_of_turn who after r)
    (subst (λ n. TurnsBoth v w (Err OutOfMemory) (end_of_turn who after r) (turn_if n)) (sym e)
    (mapped-both multi (multi_goes list_machine) as_list_joints AreUntouched WriteOn (end_of_turn who after) (turn_plan who) r turned.OutOfMemory (Err OutOfMemory) v w
    (λ ne o. ne (ap (end_of_turn who after) o)) (no-memory who after r) c))

none-both : (v : JointWorld) → TurnsBoth v v (Err OutOfMemory) (Err AllHalted) (turn_if None)
unfolding end_of course
none-both v = record { window = record { ending = λ ne. refl; stopping = λ h. absurd (cc) }; list = λ u ne. (refl, (refl, u)) }

pub halted-both : (schedule rest : List ℕ) (v : JointWorld) → next_turn v.0.halted schedule rest ≡ None → TurnsBoth v v (Err OutOfMemory) (Err AllHalted) (step_plan schedule rest)
unfolding step_plan
halted-both schedule rest v e =
    looked-both (λ halted. turn_if (next_turn halted schedule rest)) v v (Err OutOfMemory) (Err AllHalted) (subst (λ n. TurnsBoth v v (Err OutOfMemory) (Err AllHalted) (turn_if n)) (sym e) (none-both v))

-- ---- turns one after another

pub begun : (schedule : List ℕ) (n : ℕ) (w : JointWorld) → RestsBoth (steps_plan schedule n schedule) w (turns_plan schedule n schedule) w
unfolding turns_plan end_of multi Stops course
begun schedule n w = record { window = record { ending = refl; stopping = λ v h. inr h }; list = λ u. alike u refl }

pub went-both : (schedule rest after : List ℕ) (n : ℕ) (v w start : JointWorld) (whole : MultiPlan MultiEnd) → ((u : JointWorld) → WriteOn u v → WriteOn u w) → TurnsBoth v w (Err OutOfMemory) (Ok after) (step_plan schedule rest) →
    RestsBoth (steps_plan schedule (suc n) rest) v whole start → RestsBoth (steps_plan schedule n after) w whole start
unfolding steps_plan
went-both schedule rest after n v w start whole through c r =
    rest-both multi (multi_goes list_machine) as_list_joints AreUntouched WriteOn (turns_next (steps_plan schedule n)) (step_plan schedule rest) (Ok after) (Err OutOfMemory) v w start whole (λ e. absurd (cc)) through c r

pub ended-both : (schedule rest : List ℕ) (n : ℕ) (end : MultiEnd) (v w start : JointWorld) (whole : MultiPlan MultiEnd) → ((u : JointWorld) → WriteOn u v → WriteOn u w) → TurnsBoth v w (Err OutOfMemory) (Err end) (step_plan schedule rest) →
    RestsBoth (steps_plan schedule (suc n) rest) v whole start → TurnsBoth start w OutOfMemory end whole
unfolding steps_plan
ended-both schedule rest n end v w start whole through c r =
    done-both multi (multi_goes list_machine) as_list_joints AreUntouched WriteOn (turns_next (steps_plan schedule n)) (step_plan schedule rest) (Err end) (Err OutOfMemory) OutOfMemory end v w start whole refl
    (λ ne e. ne (cc)) (ap Err) (λ some. through) c r

last-memory : (x : Option (ℕ × List ℕ)) → end_at_last x ≡ OutOfMemory → ⊥
last-memory None e = absurd (cc)
last-memory (Some p) e = absurd (cc)

last-done : (schedule rest : List ℕ) (w : JointWorld) → TurnsBoth w w OutOfMemory (end_at_last (next_in w.0.halted schedule)) (steps_plan schedule 0 rest)
unfolding steps_plan bind look end_of multi course
last-done schedule rest w = record {
  window = record { ending = λ ne. refl; stopping = λ h. absurd (last-memory (next_in w.0.halted schedule) h) };
  list = λ u ne. (refl, (refl, u));
}

pub spent-both : (schedule rest : List ℕ) (w start : JointWorld) (whole : MultiPlan MultiEnd) → RestsBoth (steps_plan schedule 0 rest) w whole start → TurnsBoth start w OutOfMemory (end_at_last (next_in w.0.halted schedule)) whole
spent-both schedule rest w start whole r =
    whole-both multi (multi_goes list_machine) as_list_joints AreUntouched WriteOn (steps_plan schedule 0 rest) whole OutOfMemory (end_at_last (next_in w.0.halted schedule)) w w start (λ v h. h) (last-done schedule rest w) r

-- ---- where the schedule begins again

or-self : (x : Option (ℕ × List ℕ)) → or_again x x ≡ x
or-self None = refl
or-self (Some p) = refl

again-next : (halted : List Bool) (schedule rest : List ℕ) → next_in halted rest ≡ None → next_turn halted schedule rest ≡ next_turn halted schedule schedule
again-next halted schedule rest e = ap (λ x. or_again x (next_in halted schedule)) e ∙ sym (or-self (next_in halted schedule))

-- what the next turn leads to
abbrev from-next : List ℕ → ℕ → Option (ℕ × List ℕ) → MultiPlan MultiEnd
from-next schedule n x = bind (turns_next (steps_plan schedule n)) (turn_if x)

again-end : (schedule rest : List ℕ) (n : ℕ) (w : JointWorld) → next_in w.0.halted rest ≡ None → end_of multi (steps_plan schedule n rest) w ≡ end_of multi (steps_plan schedule n schedule) w
unfolding steps_plan step_plan bind look multi end_of
again-end schedule rest zero w e = refl
again-end schedule rest (suc n) w e = ap (λ x. end_of multi (from-next schedule n x) w) (again-next w.0.halted schedule rest e)

again-stops : (schedule rest : List ℕ) (n : ℕ) (u w : JointWorld) → next_in w.0.halted rest ≡ None → Stops multi u (steps_plan schedule n schedule) w → Stops multi u (steps_plan schedule n rest) w
unfolding steps_plan step_plan bind look multi Stops
again-stops schedule rest zero u w e s = s
again-stops schedule rest (suc n) u w e s = subst (λ x. ⊥ ⊎ Stops multi u (from-next schedule n x) w) (sym (again-next w.0.halted schedule rest e)) s

again-course : (kind : MachineKind) (schedule rest : List ℕ) (n : ℕ) (w : JointWorld) → next_in w.0.halted rest ≡ None → course (multi_goes kind) (steps_plan schedule n rest) w ≡ course (multi_goes kind) (steps_plan schedule n schedule) w
unfolding steps_plan step_plan bind look multi course
again-course kind schedule rest zero w e = refl
again-course kind schedule rest (suc n) w e = ap (λ x. course (multi_goes kind) (from-next schedule n x) w) (again-next w.0.halted schedule rest e)

pub again-both : (schedule rest : List ℕ) (n : ℕ) (w start : JointWorld) (whole : MultiPlan MultiEnd) → next_in w.0.halted rest ≡ None → RestsBoth (steps_plan schedule n rest) w whole start → RestsBoth (steps_plan schedule n schedule) w whole start
again-both schedule rest n w start whole e r = record {
  window = record { ending = r.window.ending ∙ again-end schedule rest n w e; stopping = λ u h. r.window.stopping u (again-stops schedule rest n u w e h) };
  list = λ a.
      subst (λ c. GoesOn as_list_joints AreUntouched WriteOn (course (multi_goes list_machine) whole (as_list_joints start)) c w)
      (again-course list_machine schedule rest n (as_list_joints w) e) (r.list a);
}

-- ---- their end

call-carried : (o : MultiCall) (w : JointWorld) → multi_goes window_machine o w ≡ carried multi o w
call-carried starting w = refl
call-carried (turning who) w = by (has_halted w.0.halted who)
  where
    by : (b : Bool) → cond (not b && false) (meets_wild w) (ends (multi.act (turning who) w).0 (multi.act (turning who) w).1) ≡ ends (multi.act (turning who) w).0 (multi.act (turning who) w).1
    by true = refl
    by false = refl
call-carried looking w = refl

abbrev pub as-turns : MultiEnd × JointWorld → Course MultiEnd JointWorld
as-turns t = ends t.0 t.1

-- turns over windows are the end of their plan
pub plan-end : (schedule : List ℕ) (n : ℕ) (rest : List ℕ) (w : JointWorld) → as-turns (end_of multi (turns_plan schedule n rest) w) ≡ turns window_machine schedule n rest w.0 w.1
unfolding turns
plan-end schedule n rest w =
    sym (ap (λ (goes : (o : MultiCall) → JointWorld → Course (MultiSays o) JointWorld). course goes (turns_plan schedule n rest) w) (λ i o v. call-carried o v i)
    ∙ course_carried multi (turns_plan schedule n rest) w)

as-lists : (c : Course MultiEnd JointWorld) (result : MultiEnd) (k : Joint) (n : HostModel) → GoesAs as_list_joints AreUntouched WriteOn c result (k, n) → GoAsLists c result k n
as-lists (ends end v) result k n g = (g.0, ap (λ (u : JointWorld). u.0) (sym g.1.0), ap (λ (u : JointWorld). u.1) (sym g.1.0), g.1.1)
as-lists (meets_wild v) result k n g = g

pub turns-told : (schedule rest : List ℕ) (n : ℕ) (v w : JointWorld) (end : MultiEnd) → TurnsBoth v w OutOfMemory end (turns_plan schedule n rest) → end ≢ OutOfMemory → ends end w ≡ turns window_machine schedule n rest v.0 v.1
turns-told schedule rest n v w end c ne = ap as-turns (c.window.ending ne) ∙ plan-end schedule n rest v

pub turns-listed : (schedule rest : List ℕ) (n : ℕ) (v w : JointWorld) (end : MultiEnd) → TurnsBoth v w OutOfMemory end (turns_plan schedule n rest) → end ≢ OutOfMemory → NoneTouched v.0.processors →
    GoAsLists (turns list_machine schedule n rest (as_list_joint v.0) v.1) end w.0 w.1
unfolding turns
turns-listed schedule rest n v w end c ne u = as-lists _ end w.0 w.1 (c.list u ne)

-- ---- turn by turn

abbrev pub after_turn : (List ℕ → Joint → HostModel → Course MultiEnd JointWorld) → Result (List ℕ) MultiEnd → JointWorld → Course MultiEnd JointWorld
after_turn more (Ok rest) w = more rest w.0 w.1
after_turn more (Err end) w = ends end w

abbrev pub made_turn : (List ℕ → Joint → HostModel → Course MultiEnd JointWorld) → ℕ → List ℕ → Turn × JointWorld → Course MultiEnd JointWorld
made_turn more who rest t = after_turn more (end_of_turn who rest t.0) t.1

abbrev pub turn_by : MachineKind → (List ℕ → Joint → HostModel → Course MultiEnd JointWorld) → JointWorld → Option (ℕ × List ℕ) → Course MultiEnd JointWorld
turn_by kind more w None = ends AllHalted w
turn_by kind more w (Some (who, rest)) = cond (ends_wild kind (state_at w.0 who)) (meets_wild w) (made_turn more who rest (turn_of who w))

pub no-turns : (kind : MachineKind) (schedule rest : List ℕ) (w : JointWorld) → turns kind schedule 0 rest w.0 w.1 ≡ ends (end_at_last (next_in w.0.halted schedule)) w
unfolding turns turns_plan steps_plan bind look multi course
no-turns kind schedule rest w = refl

module _ (kind : MachineKind) (schedule : List ℕ) (n : ℕ) where
  then-turns : (e : Result (List ℕ) MultiEnd) (w : JointWorld) → course (multi_goes kind) (turns_next (steps_plan schedule n) e) w ≡ after_turn (turns kind schedule n) e w
  unfolding turns turns_plan multi course
  then-turns (Ok rest) w = refl
  then-turns (Err end) w = refl

  made-turns : (who : ℕ) (after : List ℕ) (w : JointWorld) (b c : Bool) (t : Turn × JointWorld) → b ≡ false →
      then_on (λ a v. course (multi_goes kind) (turns_next (steps_plan schedule n) (end_of_turn who after a)) v) (cond (not b && c) (meets_wild w) (ends t.0 t.1)) ≡ cond c (meets_wild w) (made_turn (turns kind schedule n) who after t)
  made-turns who after w true c t e = absurd (cc)
  made-turns who after w false true t e = refl
  made-turns who after w false false t e = then-turns (end_of_turn who after t.0) t.1

  next-turns : (rest : List ℕ) (w : JointWorld) (x : Option (ℕ × List ℕ)) → next_turn w.0.halted schedule rest ≡ x → course (multi_goes kind) (from-next schedule n x) w ≡ turn_by kind (turns kind schedule n) w x
  unfolding bind turn_plan multi course
  next-turns rest w None e = refl
  next-turns rest w (Some (who, after)) e =
      made-turns who after w (has_halted w.0.halted who) (ends_wild kind (state_at w.0 who)) (turn_of who w) (found-turn w.0.halted schedule rest who after e)

  pub turns-next : (rest : List ℕ) (w : JointWorld) → turns kind schedule (suc n) rest w.0 w.1 ≡ turn_by kind (turns kind schedule n) w (next_turn w.0.halted schedule rest)
  unfolding turns turns_plan steps_plan step_plan bind look multi course
  turns-next rest w = next-turns rest w (next_turn w.0.halted schedule rest) refl
