-- Turns of several processors, and what follows them: what comes of their plan.
use Rattle.std.proofs.Common.{◌≡◌, ◌≢◌, ◌⊎◌, inl, inr, ℕ, List, [], refl, sym, ◌∙◌, ap, subst}
use Rattle.mx_host.specs.HostModel.{HostModel}
use Rattle.mx_plan.specs.Calls.{host, HostPlan}
use Rattle.mx_plan.specs.Plan.{end_of, Stops, Comes}
use Rattle.mx_plan.specs.Wild.{Course, ends, meets_wild, then_on, course}
use Rattle.mx_mmo.specs.Image.{Image}
use Rattle.mx_run.specs.WildRuns.{MachineKind, window_machine, list_machine}
use Rattle.mx_multi.specs.Clauses.{GoAsLists}
use Rattle.mx_multi.specs.JointTurns.{JointWorld}
use Rattle.mx_multi.specs.Joint.{Joint, as_list_joint}
use Rattle.mx_multi.specs.MultiPlans.{multi, turns_plan}
use Rattle.mx_multi.specs.Turns.{turns}
use Rattle.mx_multi.specs.declared.end.MultiEnd.{MultiEnd}
use Rattle.mx_multi.specs.declared.end.MultiEnd.TheVariants as turning
use Rattle.mx_multi.proofs.ListStarts.{start-listed}
use Rattle.mx_word.specs.Lists.{IsFront}
use Rattle.mx_word.proofs.Fronts.{front-through}
use Rattle.mx_words.specs.declared.order.Order.{Order}
use Rattle.mx_files.specs.Answers.{GoesAs}
use Rattle.mx_outcome.specs.declared.outcome.Outcome.{Outcome}
use Rattle.mx_outcome.specs.declared.outcome.Outcome.TheVariants.{OutOfMemory}
use Rattle.mx_dump.specs.Dump.{Line}
use Rattle.mx_top.specs.Processors.{multi_lines, multi_outcome, processors_named}
use Rattle.mx_top.specs.Product.{ProgramPlan, ProgramWorld, program, program_goes, host_in_program, turns_from, turned, after_turns, joint_at_start, answer_of, told_of}
use Rattle.mx_top.specs.Telling.{telling}
use Rattle.mx_top.specs.WorkClauses.{PlanComes, host_of, answer_by}
use Rattle.mx_top.proofs.TurnsTold.{same-told}
use Rattle.mx_top.proofs.WorkPlans.{goes-by, host-comes, host-course}

turned-out : (end : MultiEnd) → (end ≡ turning.OutOfMemory) ⊎ (end ≢ turning.OutOfMemory)
turned-out turning.OutOfMemory = inl refl
turned-out turning.AllHalted = inr (λ e. cc)
turned-out (turning.Stopped who pc reason) = inr (λ e. cc)
turned-out turning.Spent = inr (λ e. cc)

-- what follows the turns, by what they answer
abbrev tell-turns : ℕ → MultiEnd × List Line → ProgramPlan Outcome
tell-turns n t = host_in_program (telling (multi_outcome n t.0) t.1)

pub turns-follow : (o : Order) (schedule : List ℕ) (image : Image) (i : Joint) (m k v : HostModel) (end : MultiEnd) (r : Outcome) → Comes multi (joint_at_start window_machine o.ring image schedule, m) (i, k) turning.OutOfMemory end (turns_plan schedule o.steps schedule) →
    (end ≡ turning.OutOfMemory → (r ≡ OutOfMemory) × (v ≡ k)) → (end ≢ turning.OutOfMemory → Comes host k v OutOfMemory r (telling (multi_outcome o.steps end) (multi_lines o.dump end i))) → PlanComes m v r (turns_from o schedule image)
unfolding end_of Stops program
turns-follow o schedule image i m k v end r c lacked follows = by (turned-out end)
  where
    start : Joint
    start = joint_at_start window_machine o.ring image schedule

    by : (end ≡ turning.OutOfMemory) ⊎ (end ≢ turning.OutOfMemory) → PlanComes m v r (turns_from o schedule image)
    by (inl e) =
        let none = lacked e in
        record {
          ending = λ ne. absurd (ne none.0);
          stopping = λ x. record { heard = []; stops = inl (record { processors = i; stops = subst (λ (h : HostModel). Stops multi (i, h) (turns_plan schedule o.steps schedule) (start, m)) (sym none.1) (c.stopping e) }) };
        }
    by (inr ne) =
        let is = ap (after_turns o.dump []) (c.ending ne) in
        let next = host-comes (telling (multi_outcome o.steps end) (multi_lines o.dump end i)) k v r (follows ne) in
        record {
          ending = λ no. next.ending no ∙ ap (λ (x : (MultiEnd × List Line) × ProgramWorld). host_of (end_of program (tell-turns o.steps x.0) x.1)) is;
          stopping = λ x.
              let s = next.stopping x in
              record { heard = s.heard; stops = inr (subst (λ (y : (MultiEnd × List Line) × ProgramWorld). Stops program (v, s.heard) (tell-turns o.steps y.0) y.1) is s.stops) };
        }

-- ---- by the kind of the machines

abbrev after-by : MachineKind → Order → Course MultiEnd JointWorld → Course Outcome ProgramWorld
after-by kind o x = then_on (λ t w. course (program_goes kind) (tell-turns o.steps t) w) (turned o.dump [] x)

turns-beside : (o : Order) (x : Course MultiEnd JointWorld) (i : Joint) (k v : HostModel) (end : MultiEnd) (r : Outcome) → GoAsLists x end i k → IsFront k.output v.output → (r, v) ≡ end_of host (telling (multi_outcome o.steps end) (multi_lines o.dump end i)) k →
    GoesAs (answer_of (after-by list_machine o x)) r v
turns-beside o (ends e w) i k v end r goes grows said =
    let tells : MultiEnd → Joint → HostPlan Outcome = λ x y. telling (multi_outcome o.steps x) (multi_lines o.dump x y) in
    let same : tells e w.0 ≡ tells end i = ap (λ (x : MultiEnd). tells x w.0) goes.0 ∙ ap (λ (y : Joint). tells end y) (sym goes.1) ∙ same-told o.dump (multi_outcome o.steps end) end i in
    goes-by (answer_of (after-by list_machine o (ends e w))) r v
    (ap answer_of (host-course list_machine (tells e w.0) (w.1, [])) ∙ ap (λ (p : HostPlan Outcome). ends (end_of host p w.1).0 (end_of host p w.1).1) same
    ∙ ap (λ (h : HostModel). ends (end_of host (tells end i) h).0 (end_of host (tells end i) h).1) (sym goes.2) ∙ ap (λ (t : Outcome × HostModel). ends t.0 t.1) (sym said))
turns-beside o (meets_wild w) i k v end r goes grows said = front-through w.1.output k.output v.output goes grows

turns-course : (kind : MachineKind) (o : Order) (schedule : List ℕ) (image : Image) (m : HostModel) →
    course (program_goes kind) (turns_from o schedule image) (m, []) ≡ after-by kind o (turns kind schedule o.steps schedule (joint_at_start kind o.ring image schedule) m)
unfolding course
turns-course kind o schedule image m = refl

pub turns-listed : (o : Order) (schedule : List ℕ) (image : Image) (i : Joint) (m k v : HostModel) (end : MultiEnd) (r : Outcome) →
    GoAsLists (turns list_machine schedule o.steps schedule (as_list_joint (joint_at_start window_machine o.ring image schedule)) m) end i k → IsFront k.output v.output →
    (r, v) ≡ end_of host (telling (multi_outcome o.steps end) (multi_lines o.dump end i)) k → GoesAs (answer_by list_machine (turns_from o schedule image) m) r v
turns-listed o schedule image i m k v end r goes grows said =
    subst (λ (c : Course Outcome ProgramWorld). GoesAs (answer_of c) r v)
    (ap (λ (j : Joint). after-by list_machine o (turns list_machine schedule o.steps schedule j m)) (sym (start-listed image (processors_named schedule) o.ring)) ∙ sym (turns-course list_machine o schedule image m))
    (turns-beside o (turns list_machine schedule o.steps schedule (as_list_joint (joint_at_start window_machine o.ring image schedule)) m) i k v end r goes grows said)

-- watchers are told nothing
told-by : (kind : MachineKind) (o : Order) (x : Course MultiEnd JointWorld) → told_of (after-by kind o x) ≡ []
told-by kind o (ends e w) = ap told_of (host-course kind (telling (multi_outcome o.steps e) (multi_lines o.dump e w.0)) (w.1, []))
told-by kind o (meets_wild w) = refl

pub turns-told : (kind : MachineKind) (o : Order) (schedule : List ℕ) (image : Image) (m : HostModel) → told_of (course (program_goes kind) (turns_from o schedule image) (m, [])) ≡ []
turns-told kind o schedule image m = ap told_of (turns-course kind o schedule image m) ∙ told-by kind o (turns kind schedule o.steps schedule (joint_at_start kind o.ring image schedule) m)
