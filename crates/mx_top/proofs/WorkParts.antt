-- The parts of which the work of the program is made.
use Rattle.std.proofs.Common.{◌≡◌, ◌≢◌, ◌⊎◌, inl, inr, ℕ, List, length, Bool, true, false, cond, Ok, Err, refl, sym, ◌∙◌, ap, subst, codes, []}
use Rattle.std.specs.Prelude.{◌==◌, not, Option, Result, ◌∷◌}
use Rattle.mx_host.specs.HostModel.{HostModel, tells, contents}
use Rattle.mx_host.specs.HostAnswer.{Then}
use Rattle.mx_plan.specs.Calls.{host, HostPlan, need}
use Rattle.mx_plan.specs.Clauses.{CarriesOutOnHost}
use Rattle.mx_plan.specs.Plan.{returns, calls, bind, end_of, end_after, Stops, StopsAfter}
use Rattle.mx_plan.specs.Wild.{Course, ends, meets_wild, then_on, course}
use Rattle.mx_plan.proofs.Plans.{stops_after}
use Rattle.mx_mmo.specs.Image.{Image}
use Rattle.mx_core.specs.Bounds.{as_list_state}
use Rattle.mx_core.specs.State.{State}
use Rattle.mx_run.specs.WildRuns.{MachineKind, window_machine, list_machine}
use Rattle.mx_word.proofs.Comparisons.{other-test}
use Rattle.mx_words.specs.declared.order.Command.{Command}
use Rattle.mx_words.specs.declared.order.Command.TheVariants.{Run, Asm, Sim, Gen, Show, Multi}
use Rattle.mx_words.specs.declared.order.Order.{Order}
use Rattle.mx_words.specs.declared.order.WordsFault.{WordsFault}
use Rattle.mx_gen.specs.Generator.{generated}
use Rattle.mx_files.specs.Answers.{GoesAs}
use Rattle.mx_files.specs.Assembling.{refused_with}
use Rattle.mx_files.specs.FilePlans.{on_ok}
use Rattle.mx_files.specs.ObjectPlans.{assemble_plan, list_plan}
use Rattle.mx_files.specs.Sources.{source_meaning}
use Rattle.mx_files.specs.declared.refusal.Refusal.{Refusal}
use Rattle.mx_outcome.specs.declared.outcome.Outcome.{Outcome}
use Rattle.mx_outcome.specs.declared.outcome.Outcome.TheVariants.{Usage, OutOfMemory}
use Rattle.mx_begin.specs.Arguments.{Word, word_at, arguments}
use Rattle.mx_begin.specs.BeginPlans.{begin_plan, image_file_plan, start_plan}
use Rattle.mx_begin.specs.Begun.{started}
use Rattle.mx_begin.specs.declared.images.Form.{Form}
use Rattle.mx_begin.specs.declared.images.Form.TheVariants.{Source, Object}
use Rattle.mx_begin.proofs.Beginnings.{begin-by, start-end}
use Rattle.mx_top.specs.MachineWork as work
use Rattle.mx_top.specs.MachineWork.{WorkPlan, WorkStops, working, work_goes, generated_work}
use Rattle.mx_top.specs.Product as page
use Rattle.mx_top.specs.Product.{ProgramPlan, ProgramWorld, program, program_goes, host_in_program, on_part, taking, run_on, run_file, run_source, run_text, ordered_plan, work_plan, work_on, worked, at_start, MayStop, answer_of}
use Rattle.mx_top.specs.WorkClauses.{CarriesOutProgramOnBoth, PlanStops, CarriesOutWorkOnBoth, host_of, left_of, work_by, answer_by}
use Rattle.mx_top.proofs.Told.{wanting}
use Rattle.mx_top.proofs.WindowCourses.{work-window, program-window}
use Rattle.mx_top.proofs.WorkPlans.{both-host, both-returns, both-lacks, both-taking, goes-by, host-bind, part-ended, taking-course, tells-then}

-- ---- a machine that starts, or does not

ends-alone : {A W : Type 0} (c : Course A W) → then_on (λ a w. ends a w) c ≡ c
ends-alone (ends a w) = refl
ends-alone (meets_wild w) = refl

-- the work that is done on it
pub run-on : (kind : MachineKind) (ring : ℕ) (args : List Word) (plan : WorkPlan Outcome) (image : Image) (w : ProgramWorld) → course (program_goes kind) (run_on ring args plan image) w ≡ work_on kind plan (started kind ring image args) w
unfolding course bind host_in_program need host
run-on kind ring args plan image w = ends-alone (work_on kind plan (started kind ring image args) w)

-- over a window: what comes of it
abbrev host-in : Course Outcome ProgramWorld → Outcome × HostModel
host-in (ends outcome w) = (outcome, w.0)
host-in (meets_wild w) = (OutOfMemory, w.0)

host-by : (p : ProgramPlan Outcome) (m : HostModel) (c : Course Outcome ProgramWorld) → course (program_goes window_machine) p (m, []) ≡ c → host_of (end_of program p (m, [])) ≡ host-in c
host-by p m c e = ap host-in (sym (program-window p (m, [])) ∙ e)

left-by : (plan : WorkPlan Outcome) (s : State) (m : HostModel) → host-in (work_by window_machine plan s m) ≡ left_of (end_of working plan (at_start s (m, [])))
left-by plan s m = ap (λ c. host-in (worked c)) (work-window plan (at_start s (m, [])))

-- a machine that starts on an image
start-stops : (ring : ℕ) (args : List Word) (plan : WorkPlan Outcome) (image : Image) (r : Result State Outcome) (m v : HostModel) → r ≡ started window_machine ring image args → MayStop plan r (m, []) v → Stops program (v, []) (run_on ring args plan image) (m, [])
unfolding bind host_in_program need Stops program host end_of
start-stops ring args plan image r m v is s = inr (inl (subst (λ (x : Result State Outcome). MayStop plan x (m, []) v) is s))

pub machine-started : (a b : Option HostModel) (r : Outcome) (ring : ℕ) (image : Image) (args : List Word) (plan : WorkPlan Outcome) (s : State) → Ok s ≡ started window_machine ring image args → Ok (as_list_state s) ≡ started list_machine ring image args →
    CarriesOutWorkOnBoth a b s r plan → CarriesOutProgramOnBoth a b r (run_on ring args plan image)
machine-started a b r ring image args plan s is listed h = record {
  window = λ t. record {
    ending = λ ne.
        (h.window t).ending ne ∙ sym (left-by plan s (contents a))
        ∙ sym (host-by (run_on ring args plan image) (contents a) (work_by window_machine plan s (contents a)) (run-on window_machine ring args plan image (contents a, []) ∙ ap (λ (x : Result State Outcome). work_on window_machine plan x (contents a, [])) (sym is)));
    stopping = λ e. record { heard = []; stops = start-stops ring args plan image (Ok s) (contents a) (contents b) is ((h.window t).stopping e) };
  };
  list = λ t ne.
      subst (λ (c : Course Outcome ProgramWorld). GoesAs (answer_of c) r (contents b))
      (ap (λ (x : Result State Outcome). work_on list_machine plan x (contents a, [])) listed ∙ sym (run-on list_machine ring args plan image (contents a, []))) (h.list t ne);
}

unstarted-by : (a : Option HostModel) (r : Outcome) (ring : ℕ) (image : Image) (args : List Word) (plan : WorkPlan Outcome) → (r ≢ OutOfMemory → Err r ≡ started window_machine ring image args) → (r ≢ OutOfMemory → Err r ≡ started list_machine ring image args) →
    (r ≡ OutOfMemory) ⊎ (r ≢ OutOfMemory) → CarriesOutProgramOnBoth a a r (run_on ring args plan image)
unstarted-by a r ring image args plan is listed (inl e) = rw e (both-lacks a (calls (page.on_machine ring image args plan) (λ outcome. returns outcome)))
unstarted-by a r ring image args plan is listed (inr ne) = record {
  window = λ t. record {
    ending = λ no. sym (host-by (run_on ring args plan image) (contents a) (ends r (contents a, [])) (run-on window_machine ring args plan image (contents a, []) ∙ ap (λ (x : Result State Outcome). work_on window_machine plan x (contents a, [])) (sym (is ne))));
    stopping = λ e. absurd (ne e);
  };
  list = λ t no.
      goes-by (answer_by list_machine (run_on ring args plan image) (contents a)) r (contents a)
      (ap answer_of (run-on list_machine ring args plan image (contents a, []) ∙ ap (λ (x : Result State Outcome). work_on list_machine plan x (contents a, [])) (sym (listed ne))));
}

pub machine-unstarted : (a : Option HostModel) (r : Outcome) (ring : ℕ) (image : Image) (args : List Word) (plan : WorkPlan Outcome) → (r ≢ OutOfMemory → Err r ≡ started window_machine ring image args) →
    (r ≢ OutOfMemory → Err r ≡ started list_machine ring image args) → CarriesOutProgramOnBoth a a r (run_on ring args plan image)
machine-unstarted a r ring image args plan is listed = unstarted-by a r ring image args plan is listed (wanting r)

-- ---- `run` and `sim`: a machine that has begun, or has not

abbrev pub begun_by : MachineKind → WorkPlan Outcome → Then (Result State Outcome) → Course Outcome ProgramWorld
begun_by kind plan t = work_on kind plan t.0 (t.1, [])

returns-so : (kind : MachineKind) (outcome : Outcome) (n : HostModel) → course (program_goes kind) (returns outcome) (n, []) ≡ ends outcome (n, [])
unfolding course
returns-so kind outcome n = refl

pub file-course : (kind : MachineKind) (words : List Word) (o : Order) (form : Form) (m : HostModel) →
    course (program_goes kind) (run_file words o form) (m, []) ≡ begun_by kind (work.machine_plan o) (end_of host (begin_plan kind words o form) m)
unfolding run_file end_of
file-course kind words o form m =
    taking-course kind _ (m, []) ∙ host-bind kind (on_part (run_on o.ring args plan)) (image_file_plan form (word_at words o.file)) (m, []) ∙ by (end_of host (image_file_plan form (word_at words o.file)) m)
    ∙ ap (begun_by kind plan) (sym (begin-by kind words o form m))
  where
    args : List Word
    args = arguments words o

    plan : WorkPlan Outcome
    plan = work.machine_plan o

    by : (t : Then (Result Image Outcome)) → course (program_goes kind) (on_part (run_on o.ring args plan) t.0) (t.1, []) ≡ begun_by kind plan (end_after host (on_ok (start_plan kind o.ring args)) t)
    by (Ok image, n) = run-on kind o.ring args plan image (n, []) ∙ ap (begun_by kind plan) (sym (start-end kind o.ring args image n))
    by (Err outcome, n) = returns-so kind outcome n

taken-stops : (p : ProgramPlan Outcome) (v m : HostModel) → Stops program (v, []) p (m, []) → Stops program (v, []) (taking p) (m, [])
unfolding bind host_in_program need Stops program host end_of
taken-stops p v m h = inr h

abbrev state-err : Outcome → HostPlan (Result State Outcome)
state-err outcome = returns (Err outcome)

err-end : (outcome : Outcome) (n : HostModel) → end_of host (state-err outcome) n ≡ (Err outcome, n)
unfolding end_of
err-end outcome n = refl

none-stops : (outcome : Outcome) (v k : HostModel) → ⊥ → Stops program (v, []) (returns outcome) (k, [])
none-stops outcome v k h = absurd h

-- where the work stops, the whole does
begun-stops : (words : List Word) (o : Order) (form : Form) (m n v : HostModel) (r : Result State Outcome) → (r, n) ≡ end_of host (begin_plan window_machine words o form) m → MayStop (work.machine_plan o) r (n, []) v → PlanStops (run_file words o form) m v
unfolding run_file
begun-stops words o form m n v r is s = record { heard = []; stops = taken (by (end_of host (image_file_plan form name) m) refl) }
  where
    args : List Word
    args = arguments words o

    plan : WorkPlan Outcome
    plan = work.machine_plan o

    name : Word
    name = word_at words o.file

    taken : Stops program (v, []) (bind (on_part (run_on o.ring args plan)) (host_in_program (image_file_plan form name))) (m, []) → Stops program (v, []) (taking (bind (on_part (run_on o.ring args plan)) (host_in_program (image_file_plan form name)))) (m, [])
    taken h = taken-stops (bind (on_part (run_on o.ring args plan)) (host_in_program (image_file_plan form name))) v m h

    from : (t : Then (Result Image Outcome)) → (r, n) ≡ end_after host (on_ok (start_plan window_machine o.ring args)) t → Stops program (v, []) (on_part (run_on o.ring args plan) t.0) (t.1, [])
    from (Ok image, k) e =
        let at = e ∙ start-end window_machine o.ring args image k in
        start-stops o.ring args plan image (started window_machine o.ring image args) k v refl (subst (λ (x : Then (Result State Outcome)). MayStop plan x.0 (x.1, []) v) at s)
    from (Err outcome, k) e = none-stops outcome v k (subst (λ (x : Then (Result State Outcome)). MayStop plan x.0 (x.1, []) v) (e ∙ err-end outcome k) s)

    by : (t : Then (Result Image Outcome)) → end_of host (image_file_plan form name) m ≡ t → Stops program (v, []) (bind (on_part (run_on o.ring args plan)) (host_in_program (image_file_plan form name))) (m, [])
    by (x, k) e =
        stops_after program (on_part (run_on o.ring args plan)) (host_in_program (image_file_plan form name)) (v, []) (m, [])
        (subst (StopsAfter program (v, []) (on_part (run_on o.ring args plan))) (part-ended (image_file_plan form name) x m k (sym e))
        (from (x, k) (is ∙ begin-by window_machine words o form m ∙ ap (end_after host (on_ok (start_plan window_machine o.ring args))) e)))

-- where it does not begin
image-stops : (o : Order) (args : List Word) (plan : WorkPlan Outcome) (r : Result Image Outcome) (v n : HostModel) → Stops host v (on_ok (start_plan window_machine o.ring args) r) n → Stops program (v, []) (on_part (run_on o.ring args plan) r) (n, [])
unfolding start_plan bind need host_in_program Stops program host
image-stops o args plan (Ok image) v n (inl e) = inl e
image-stops o args plan (Ok image) v n (inr h) = absurd h
image-stops o args plan (Err outcome) v n h = absurd h

parts-stop : {A B : Type 0} (e : A → HostPlan B) (g : A → ProgramPlan Outcome) (p : HostPlan A) (v m : HostModel) → ((a : A) (n : HostModel) → Stops host v (e a) n → Stops program (v, []) (g a) (n, [])) → Stops host v (bind e p) m →
    Stops program (v, []) (bind g (host_in_program p)) (m, [])
unfolding bind host_in_program Stops program
parts-stop e g (returns a) v m more h = more a m h
parts-stop e g (calls o k) v m more (inl l) = inl l
parts-stop e g (calls o k) v m more (inr h) = inr (parts-stop e g (k (host.act o m).0) v (host.act o m).1 more h)

file-stops : (words : List Word) (o : Order) (form : Form) (m v : HostModel) → Stops host v (begin_plan window_machine words o form) m → Stops program (v, []) (run_file words o form) (m, [])
unfolding begin_plan run_file bind need host_in_program Stops program host
file-stops words o form m v (inl e) = inl e
file-stops words o form m v (inr h) =
    inr (parts-stop (on_ok (start_plan window_machine o.ring (arguments words o))) (on_part (run_on o.ring (arguments words o) (work.machine_plan o))) (image_file_plan form (word_at words o.file)) v m
    (λ r n k. image-stops o (arguments words o) (work.machine_plan o) r v n k) h)

pub begun-both : (a b c : Option HostModel) (r : Outcome) (words : List Word) (o : Order) (form : Form) (s : State) → tells b ≡ tells a → CarriesOutOnHost a b (Err OutOfMemory) (Ok s) (begin_plan window_machine words o form) →
    CarriesOutOnHost a b (Err OutOfMemory) (Ok (as_list_state s)) (begin_plan list_machine words o form) → CarriesOutWorkOnBoth b c s r (work.machine_plan o) → CarriesOutProgramOnBoth a c r (run_file words o form)
begun-both a b c r words o form s e first listed h = record {
  window = λ t.
      let is = (first t).ending (λ x. absurd (cc)) in
      let there = tells-then a b e t in
      record {
        ending = λ ne.
            (h.window there).ending ne ∙ sym (left-by (work.machine_plan o) s (contents b))
            ∙ sym (host-by (run_file words o form) (contents a) (work_by window_machine (work.machine_plan o) s (contents b)) (file-course window_machine words o form (contents a) ∙ ap (begun_by window_machine (work.machine_plan o)) (sym is)));
        stopping = λ x. begun-stops words o form (contents a) (contents b) (contents c) (Ok s) is ((h.window there).stopping x);
      };
  list = λ t ne.
      subst (λ (x : Course Outcome ProgramWorld). GoesAs (answer_of x) r (contents c))
      (ap (begun_by list_machine (work.machine_plan o)) ((listed t).ending (λ x. absurd (cc))) ∙ sym (file-course list_machine words o form (contents a))) (h.list (tells-then a b e t) ne);
}

pub unbegun-both : (a b : Option HostModel) (r : Outcome) (words : List Word) (o : Order) (form : Form) → CarriesOutOnHost a b (Err OutOfMemory) (Err r) (begin_plan window_machine words o form) →
    CarriesOutOnHost a b (Err OutOfMemory) (Err r) (begin_plan list_machine words o form) → CarriesOutProgramOnBoth a b r (run_file words o form)
unbegun-both a b r words o form first listed = record {
  window = λ t. record {
    ending = λ ne.
        sym (host-by (run_file words o form) (contents a) (ends r (contents b, [])) (file-course window_machine words o form (contents a) ∙ ap (begun_by window_machine (work.machine_plan o)) (sym ((first t).ending (λ x. ne (cc))))));
    stopping = λ e. record { heard = []; stops = file-stops words o form (contents a) (contents b) ((first t).stopping (ap Err e)) };
  };
  list = λ t ne.
      goes-by (answer_by list_machine (run_file words o form) (contents a)) r (contents b)
      (ap answer_of (file-course list_machine words o form (contents a) ∙ ap (begun_by list_machine (work.machine_plan o)) (sym ((listed t).ending (λ x. ne (cc))))));
}

-- ---- `gen`

pub summed-started : (a b : Option HostModel) (r : Outcome) (o : Order) (size : ℕ) (image : Image) (args : List Word) (s : State) → args ≡ codes "gen" ∷ [] → Ok s ≡ started window_machine o.ring image args → Ok (as_list_state s) ≡ started list_machine o.ring image args →
    CarriesOutWorkOnBoth a b s r (generated_work o.number size) → CarriesOutProgramOnBoth a b r (run_source o size (Ok image))
summed-started a b r o size image args s is e listed h =
    subst (λ (x : List Word). CarriesOutProgramOnBoth a b r (run_on o.ring x (generated_work o.number size) image)) is (machine-started a b r o.ring image args (generated_work o.number size) s e listed h)

pub summed-unstarted : (a : Option HostModel) (r : Outcome) (o : Order) (size : ℕ) (image : Image) (args : List Word) → args ≡ codes "gen" ∷ [] → (r ≢ OutOfMemory → Err r ≡ started window_machine o.ring image args) → (r ≢ OutOfMemory → Err r ≡ started list_machine o.ring image args) →
    CarriesOutProgramOnBoth a a r (run_source o size (Ok image))
summed-unstarted a r o size image args e is listed =
    subst (λ (x : List Word). CarriesOutProgramOnBoth a a r (run_on o.ring x (generated_work o.number size) image)) e (machine-unstarted a r o.ring image args (generated_work o.number size) is listed)

pub generated-run : (a b : Option HostModel) (r : Outcome) (o : Order) (source : List ℕ) (size : ℕ) (image : Image) → size ≡ length source → Ok image ≡ source_meaning source → CarriesOutProgramOnBoth a b r (run_source o size (Ok image)) → CarriesOutProgramOnBoth a b r (run_text o source)
generated-run a b r o source size image long e h =
    both-taking a b r (run_source o (length source) (source_meaning source))
    (subst (λ (x : Result Image Refusal). CarriesOutProgramOnBoth a b r (run_source o (length source) x)) e (subst (λ (n : ℕ). CarriesOutProgramOnBoth a b r (run_source o n (Ok image))) long h))

pub generated-refused : (a : Option HostModel) (r : Outcome) (o : Order) (source : List ℕ) (refusal : Refusal) → Err refusal ≡ source_meaning source → r ≡ refused_with refusal → CarriesOutProgramOnBoth a a r (run_text o source)
generated-refused a r o source refusal e is =
    both-taking a a r (run_source o (length source) (source_meaning source))
    (subst (λ (x : Result Image Refusal). CarriesOutProgramOnBoth a a r (run_source o (length source) x)) e (rw is (both-returns a (refused_with refusal) (λ n. absurd (cc)))))

pub generated-named : (a b : Option HostModel) (r : Outcome) (o : Order) (source text : List ℕ) → text ≡ source → CarriesOutProgramOnBoth a b r (run_text o text) → CarriesOutProgramOnBoth a b r (taking (run_text o source))
generated-named a b r o source text e h = both-taking a b r (run_text o source) (subst (λ (x : List ℕ). CarriesOutProgramOnBoth a b r (run_text o x)) e h)

-- ---- what is made of a machine

run-is : (o : Order) → o.interactive ≡ false → work.machine_plan o ≡ cond (not (o.last == 0)) (work.kept_plan o) (cond o.report (work.reported_plan o) (work.stepped_plan o))
unfolding work.machine_plan
run-is o e = ap (λ (b : Bool). cond b (work.sitting_plan o) (cond (not (o.last == 0)) (work.kept_plan o) (cond o.report (work.reported_plan o) (work.stepped_plan o)))) e

pub session-is : (o : Order) → o.interactive ≡ true → work.machine_plan o ≡ work.sitting_plan o
unfolding work.machine_plan
session-is o e = ap (λ (b : Bool). cond b (work.sitting_plan o) (cond (not (o.last == 0)) (work.kept_plan o) (cond o.report (work.reported_plan o) (work.stepped_plan o)))) e

pub kept-is : (o : Order) → o.interactive ≡ false → o.last ≢ 0 → work.machine_plan o ≡ work.kept_plan o
kept-is o i some = run-is o i ∙ ap (λ (b : Bool). cond (not b) (work.kept_plan o) (cond o.report (work.reported_plan o) (work.stepped_plan o))) (other-test o.last 0 some)

forward-is : (o : Order) (b : Bool) → o.interactive ≡ false → o.last ≡ 0 → o.report ≡ b → work.machine_plan o ≡ cond b (work.reported_plan o) (work.stepped_plan o)
forward-is o b i none e =
    run-is o i ∙ ap (λ (n : ℕ). cond (not (n == 0)) (work.kept_plan o) (cond o.report (work.reported_plan o) (work.stepped_plan o))) none ∙ ap (λ (x : Bool). cond x (work.reported_plan o) (work.stepped_plan o)) e

pub reported-is : (o : Order) → o.interactive ≡ false → o.last ≡ 0 → o.report ≡ true → work.machine_plan o ≡ work.reported_plan o
reported-is o i none e = forward-is o true i none e

pub stepped-is : (o : Order) → o.interactive ≡ false → o.last ≡ 0 → o.report ≡ false → work.machine_plan o ≡ work.stepped_plan o
stepped-is o i none e = forward-is o false i none e

-- ---- what is ordered

ordered : (a b : Option HostModel) (r : Outcome) (words : List Word) (o : Order) (command : Command) → o.command ≡ command → CarriesOutProgramOnBoth a b r (ordered_plan words o command) → CarriesOutProgramOnBoth a b r (ordered_plan words o o.command)
ordered a b r words o command c h = subst (λ (x : Command). CarriesOutProgramOnBoth a b r (ordered_plan words o x)) (sym c) h

pub run-ordered : (a b : Option HostModel) (r : Outcome) (words : List Word) (o : Order) → o.command ≡ Run → CarriesOutProgramOnBoth a b r (run_file words o Source) → CarriesOutProgramOnBoth a b r (ordered_plan words o o.command)
unfolding ordered_plan
run-ordered a b r words o c h = ordered a b r words o Run c h

pub sim-ordered : (a b : Option HostModel) (r : Outcome) (words : List Word) (o : Order) → o.command ≡ Sim → CarriesOutProgramOnBoth a b r (run_file words o Object) → CarriesOutProgramOnBoth a b r (ordered_plan words o o.command)
unfolding ordered_plan
sim-ordered a b r words o c h = ordered a b r words o Sim c h

pub asm-ordered : (a b : Option HostModel) (r : Outcome) (words : List Word) (o : Order) (source object : Word) → o.command ≡ Asm → source ≡ word_at words o.file → object ≡ word_at words o.rest → CarriesOutOnHost a b OutOfMemory r (assemble_plan source object) →
    CarriesOutProgramOnBoth a b r (ordered_plan words o o.command)
unfolding ordered_plan
asm-ordered a b r words o source object c e f h =
    ordered a b r words o Asm c (both-host a b r (assemble_plan (word_at words o.file) (word_at words o.rest))
    (subst (λ (x : Word). CarriesOutOnHost a b OutOfMemory r (assemble_plan x (word_at words o.rest))) e (subst (λ (x : Word). CarriesOutOnHost a b OutOfMemory r (assemble_plan source x)) f h)))

pub gen-ordered : (a b : Option HostModel) (r : Outcome) (words : List Word) (o : Order) → o.command ≡ Gen → CarriesOutProgramOnBoth a b r (taking (run_text o (generated o.number))) → CarriesOutProgramOnBoth a b r (ordered_plan words o o.command)
unfolding ordered_plan
gen-ordered a b r words o c h = ordered a b r words o Gen c h

pub show-ordered : (a b : Option HostModel) (r : Outcome) (words : List Word) (o : Order) (name : Word) → o.command ≡ Show → name ≡ word_at words o.file → CarriesOutOnHost a b OutOfMemory r (list_plan name) → CarriesOutProgramOnBoth a b r (ordered_plan words o o.command)
unfolding ordered_plan
show-ordered a b r words o name c e h = ordered a b r words o Show c (both-host a b r (list_plan (word_at words o.file)) (subst (λ (x : Word). CarriesOutOnHost a b OutOfMemory r (list_plan x)) e h))

pub multi-ordered : (a b : Option HostModel) (r : Outcome) (words : List Word) (o : Order) (schedule object : Word) → o.command ≡ Multi → schedule ≡ word_at words o.schedule → object ≡ word_at words o.file →
    CarriesOutProgramOnBoth a b r (page.multi_file o schedule object) → CarriesOutProgramOnBoth a b r (ordered_plan words o o.command)
unfolding ordered_plan
multi-ordered a b r words o schedule object c e f h =
    ordered a b r words o Multi c (subst (λ (x : Word). CarriesOutProgramOnBoth a b r (page.multi_file o x (word_at words o.file))) e (subst (λ (x : Word). CarriesOutProgramOnBoth a b r (page.multi_file o schedule x)) f h))

pub usage-plan : (a : Option HostModel) (words : List Word) (r : Result Order WordsFault) (fault : WordsFault) → Err fault ≡ r → CarriesOutProgramOnBoth a a (Usage fault) (work_plan words r)
usage-plan a words r fault e = subst (λ (x : Result Order WordsFault). CarriesOutProgramOnBoth a a (Usage fault) (work_plan words x)) e (both-returns a (Usage fault) (λ n. absurd (cc)))

pub ordered-work : (a b : Option HostModel) (r : Outcome) (words : List Word) (x : Result Order WordsFault) (o : Order) → Ok o ≡ x → CarriesOutProgramOnBoth a b r (ordered_plan words o o.command) → CarriesOutProgramOnBoth a b r (work_plan words x)
ordered-work a b r words x o e h = subst (λ (y : Result Order WordsFault). CarriesOutProgramOnBoth a b r (work_plan words y)) e h

-- by the bytes of a schedule
pub object-of : (a b : Option HostModel) (r : Outcome) (o : Order) (object : Word) (bytes text : List ℕ) → text ≡ bytes → CarriesOutProgramOnBoth a b r (page.object_file o object text) → CarriesOutProgramOnBoth a b r (page.object_file o object bytes)
object-of a b r o object bytes text e h = subst (λ (x : List ℕ). CarriesOutProgramOnBoth a b r (page.object_file o object x)) e h
