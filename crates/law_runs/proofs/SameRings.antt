-- What the program does over the list machine does not depend on the size of the ring, and what it does over each machine
-- not on whether reports are asked for.
use Rattle.std.proofs.Common.{◌≡◌, ℕ, Bool, true, false, List, [], ◌∷◌, length, cond, Result, Ok, Err, refl, ap, sym, ◌∙◌, codes, arith}
use Rattle.std.specs.Prelude.{◌==◌}
use Rattle.std.proofs.lemmas.Bool.Decides.{nat_tests}
use Rattle.mx_host.specs.HostModel.{HostModel}
use Rattle.mx_host.specs.HostAnswer.{Then}
use Rattle.mx_plan.specs.Calls.{host}
use Rattle.mx_plan.specs.Plan.{bind, end_of, end_after}
use Rattle.mx_plan.specs.Wild.{Course, then_on, course}
use Rattle.mx_mmo.specs.Image.{Image}
use Rattle.mx_ring.specs.Stack.{Stack}
use Rattle.mx_core.specs.State.{State}
use Rattle.mx_code.specs.declared.trace.Trace.{Trace}
use Rattle.mx_run.specs.WildRuns.{MachineKind, list_machine}
use Rattle.mx_multi.specs.Joint as joint
use Rattle.mx_multi.specs.Turns.{turns}
use Rattle.mx_watch.specs.Reporting.{reports_on}
use Rattle.mx_watch.specs.Watching.{Watching}
use Rattle.mx_words.specs.Orders.{order_of, options_from, blocks_at, valued, gen_order, with_ring, defaults}
use Rattle.mx_words.specs.Values.{blocks_value, is_number, is_option, ring_value}
use Rattle.mx_words.specs.declared.order.Command.{Command}
use Rattle.mx_words.specs.declared.order.Command.TheVariants.{Run, Asm, Sim, Gen, Show, Multi}
use Rattle.mx_words.specs.declared.order.Order.{Order}
use Rattle.mx_gen.specs.Generator.{generated}
use Rattle.mx_files.specs.FilePlans.{Part, on_ok}
use Rattle.mx_files.specs.ObjectPlans.{assemble_plan, list_plan}
use Rattle.mx_files.specs.Schedules.{schedule_plan}
use Rattle.mx_files.specs.Sources.{source_meaning}
use Rattle.mx_files.specs.declared.refusal.Refusal.{Refusal}
use Rattle.mx_outcome.specs.declared.outcome.Outcome.{Outcome}
use Rattle.mx_begin.specs.Arguments.{Word, word_at, arguments}
use Rattle.mx_begin.specs.BeginPlans.{image_file_plan, start_plan, begin_plan}
use Rattle.mx_begin.specs.Begun.{stack_at_start, started}
use Rattle.mx_begin.specs.declared.images.Form.{Form}
use Rattle.mx_begin.specs.declared.images.Form.TheVariants.{Source, Object}
use Rattle.mx_begin.proofs.Beginnings.{begin-by, start-end}
use Rattle.mx_top.specs.MachineWork.{machine_plan, generated_work}
use Rattle.mx_top.specs.Processors.{multi_outcome, processors_named}
use Rattle.mx_top.specs.Product.{ProgramPlan, ProgramWorld, program_goes, host_in_program, on_part, taking, run_file, run_source, run_text, turns_from, turns_on, object_file, multi_file, ordered_plan, work_plan, work_on, turned, answer_of, told_of, product, product_traces}
use Rattle.mx_top.specs.Reports.{due_reports, watched_product}
use Rattle.mx_top.specs.Telling.{telling, with_message, with_reports}
use Rattle.mx_top.specs.WorkClauses.{answer_by, told_by, work_by}
use Rattle.mx_top.proofs.Spoken.{product-is-said, traces-of}
use Rattle.mx_top.proofs.WorkParts.{run-on, begun_by, file-course}
use Rattle.mx_top.proofs.WorkPlans.{host-bind, taking-course}
use Rattle.law_runs.specs.Rings.{DifferInRing, HandsArguments, gen_ring_words, gen_words}
use Rattle.law_runs.proofs.MachineAnswers.{machine_by, machine-answer, heard_of, machine-heard}

-- ---- a machine: what an order asks of it, but for reports

same-machine : (kind : MachineKind) (words others : List Word) (o p : Order) (s : State) (m : HostModel) → DifferInRing words others o p → answer_of (work_by kind (machine_plan o) s m) ≡ answer_of (work_by kind (machine_plan p) s m)
same-machine kind words others o p s m e =
    machine-answer kind o s m
    ∙ ap (machine_by kind o.steps o.last o.dump s m) e.interactive
    ∙ ap (λ n. machine_by kind n o.last o.dump s m p.interactive) e.steps
    ∙ ap (λ n. machine_by kind p.steps n o.dump s m p.interactive) e.last
    ∙ ap (λ b. machine_by kind p.steps p.last b s m p.interactive) e.dump
    ∙ sym (machine-answer kind p s m)

-- and what watchers are told, where reports are asked for alike
same-heard : (kind : MachineKind) (words others : List Word) (o p : Order) (s : State) (m : HostModel) → DifferInRing words others o p → o.report ≡ p.report → told_of (work_by kind (machine_plan o) s m) ≡ told_of (work_by kind (machine_plan p) s m)
same-heard kind words others o p s m e asks =
    machine-heard kind o s m
    ∙ ap (λ b. heard_of kind o.steps s m b (o.last == 0) o.report) e.interactive
    ∙ ap (λ n. heard_of kind n s m p.interactive (o.last == 0) o.report) e.steps
    ∙ ap (λ n. heard_of kind p.steps s m p.interactive (n == 0) o.report) e.last
    ∙ ap (heard_of kind p.steps s m p.interactive (p.last == 0)) asks
    ∙ sym (machine-heard kind p s m)

-- ---- what is done, where the machines start alike; `see` is what is seen of it

module _ (kind : MachineKind) (words others : List Word) (o p : Order) (e : DifferInRing words others o p)
    (start : (image : Image) (args : List Word) → started kind o.ring image args ≡ started kind p.ring image args)
    (stacks : stack_at_start kind o.ring ≡ stack_at_start kind p.ring) where
  abbrev goes : ProgramPlan Outcome → HostModel → Course Outcome ProgramWorld
  goes plan m = course (program_goes kind) plan (m, [])

  same-part : {A : Type 0} (f g : A → ProgramPlan Outcome) (part : Part A) (m : HostModel) → ((x : A) (n : HostModel) → goes (f x) n ≡ goes (g x) n) → goes (bind (on_part f) (host_in_program part)) m ≡ goes (bind (on_part g) (host_in_program part)) m
  same-part {A} f g part m h = host-bind kind (on_part f) part (m, []) ∙ by (end_of host part m) ∙ sym (host-bind kind (on_part g) part (m, []))
    where
      by : (t : Then (Result A Outcome)) → goes (on_part f t.0) t.1 ≡ goes (on_part g t.0) t.1
      by (Ok x, n) = h x n
      by (Err outcome, n) = refl

  same-source : (size : ℕ) (r : Result Image Refusal) (m : HostModel) → goes (run_source o size r) m ≡ goes (run_source p size r) m
  same-source size (Err refusal) m = refl
  same-source size (Ok image) m =
      run-on kind o.ring (codes "gen" ∷ []) (generated_work o.number size) image (m, [])
      ∙ ap (λ n. work_on kind (generated_work n size) (started kind o.ring image (codes "gen" ∷ [])) (m, [])) e.blocks
      ∙ ap (λ r. work_on kind (generated_work p.number size) r (m, [])) (start image (codes "gen" ∷ []))
      ∙ sym (run-on kind p.ring (codes "gen" ∷ []) (generated_work p.number size) image (m, []))

  taken-twice : (q : Order) (n : ℕ) (m : HostModel) → goes (taking (run_text q (generated n))) m ≡ goes (run_source q (length (generated n)) (source_meaning (generated n))) m
  taken-twice q n m = taking-course kind (run_text q (generated n)) (m, []) ∙ taking-course kind (run_source q (length (generated n)) (source_meaning (generated n))) (m, [])

  same-gen : (m : HostModel) → goes (taking (run_text o (generated o.number))) m ≡ goes (taking (run_text p (generated p.number))) m
  same-gen m =
      taken-twice o o.number m ∙ same-source (length (generated o.number)) (source_meaning (generated o.number)) m
      ∙ ap (λ n. goes (run_source p (length (generated n)) (source_meaning (generated n))) m) e.blocks ∙ sym (taken-twice p p.number m)

  -- turns of processors with these stacks, and what follows
  abbrev after-turns : List ℕ → Image → HostModel → Bool → ℕ → Stack → Course Outcome ProgramWorld
  after-turns schedule image m dump steps stack =
      then_on (λ t v. course (program_goes kind) (host_in_program (telling (multi_outcome steps t.0) t.1)) v)
      (turned dump [] (turns kind schedule steps schedule (joint.started image (processors_named schedule) stack) m))

  same-taken : (schedule : List ℕ) (image : Image) (m : HostModel) → goes (turns_from o schedule image) m ≡ goes (turns_from p schedule image) m
  unfolding course
  same-taken schedule image m =
      ap (λ b. after-turns schedule image m b o.steps (stack_at_start kind o.ring)) e.dump
      ∙ ap (λ n. after-turns schedule image m p.dump n (stack_at_start kind o.ring)) e.steps
      ∙ ap (λ (s : Stack). after-turns schedule image m p.dump p.steps s) stacks

  same-turns : (schedule : List ℕ) (image : Image) (m : HostModel) → goes (turns_on o schedule image) m ≡ goes (turns_on p schedule image) m
  same-turns schedule image m = taking-course kind (turns_from o schedule image) (m, []) ∙ same-taken schedule image m ∙ sym (taking-course kind (turns_from p schedule image) (m, []))

  same-multi : (schedule object : Word) (m : HostModel) → goes (multi_file o schedule object) m ≡ goes (multi_file p schedule object) m
  same-multi schedule object m =
      same-part (object_file o object) (object_file p object) (schedule_plan schedule) m
      (λ bytes n. same-part (turns_on o bytes) (turns_on p bytes) (image_file_plan Object object) n (λ image k. same-turns bytes image k))

  same-started : (args : List Word) (t : Then (Result Image Outcome)) → end_after host (on_ok (start_plan kind o.ring args)) t ≡ end_after host (on_ok (start_plan kind p.ring args)) t
  unfolding end_of
  same-started args (Err outcome, m) = refl
  same-started args (Ok image, m) = start-end kind o.ring args image m ∙ ap (λ (r : Result State Outcome). (r, m)) (start image args) ∙ sym (start-end kind p.ring args image m)

  same-begin : (form : Form) (m : HostModel) → arguments words o ≡ arguments others p → end_of host (begin_plan kind words o form) m ≡ end_of host (begin_plan kind others p form) m
  same-begin form m h =
      begin-by kind words o form m
      ∙ ap (λ (w : Word). end_after host (on_ok (start_plan kind o.ring (arguments words o))) (end_of host (image_file_plan form w) m)) e.file
      ∙ ap (λ (args : List Word). end_after host (on_ok (start_plan kind o.ring args)) (end_of host (image_file_plan form (word_at others p.file)) m)) h
      ∙ same-started (arguments others p) (end_of host (image_file_plan form (word_at others p.file)) m) ∙ sym (begin-by kind others p form m)

  module _ {V : Type 0} (see : Course Outcome ProgramWorld → V) (same : (s : State) (m : HostModel) → see (work_by kind (machine_plan o) s m) ≡ see (work_by kind (machine_plan p) s m)) where
    same-begun : (t : Then (Result State Outcome)) → see (begun_by kind (machine_plan o) t) ≡ see (begun_by kind (machine_plan p) t)
    same-begun (Ok s, n) = same s n
    same-begun (Err outcome, n) = refl

    same-file : (form : Form) (m : HostModel) → arguments words o ≡ arguments others p → see (goes (run_file words o form) m) ≡ see (goes (run_file others p form) m)
    same-file form m h =
        ap see (file-course kind words o form m ∙ ap (begun_by kind (machine_plan o)) (same-begin form m h))
        ∙ same-begun (end_of host (begin_plan kind others p form) m) ∙ ap see (sym (file-course kind others p form m))

    same-ordered : (c : Command) (m : HostModel) → (HandsArguments c → arguments words o ≡ arguments others p) → (c ≡ Multi → word_at words o.schedule ≡ word_at others p.schedule) →
        see (goes (ordered_plan words o c) m) ≡ see (goes (ordered_plan others p c) m)
    unfolding ordered_plan
    same-ordered Run m h k = same-file Source m (h tt)
    same-ordered Sim m h k = same-file Object m (h tt)
    same-ordered Asm m h k =
        ap (λ (w : Word). see (goes (host_in_program (assemble_plan w (word_at words o.rest))) m)) e.file ∙ ap (λ (w : Word). see (goes (host_in_program (assemble_plan (word_at others p.file) w)) m)) e.object
    same-ordered Gen m h k = ap see (same-gen m)
    same-ordered Show m h k = ap (λ (w : Word). see (goes (host_in_program (list_plan w)) m)) e.file
    same-ordered Multi m h k =
        ap see (same-multi (word_at words o.schedule) (word_at words o.file) m)
        ∙ ap (λ (w : Word). see (goes (multi_file p w (word_at words o.file)) m)) (k refl) ∙ ap (λ (w : Word). see (goes (multi_file p (word_at others p.schedule) w) m)) e.file

    same-work : (m : HostModel) → see (goes (ordered_plan words o o.command) m) ≡ see (goes (ordered_plan others p p.command) m)
    same-work m = same-ordered o.command m e.arguments e.schedule ∙ ap (λ c. see (goes (ordered_plan others p c) m)) e.command

  same-product : (m : HostModel) → order_of words ≡ Ok o → order_of others ≡ Ok p → product kind words m ≡ product kind others m
  same-product m f g =
      product-is-said kind words m
      ∙ ap (λ r. with_message (answer_by kind (work_plan words r) m)) f
      ∙ ap with_message (same-work answer_of (λ s n. same-machine kind words others o p s n e) m)
      ∙ sym (product-is-said kind others m ∙ ap (λ r. with_message (answer_by kind (work_plan others r) m)) g)

  -- ---- what watchers are told

  module _ (asks : o.report ≡ p.report) where
    same-told : (m : HostModel) → told_by kind (ordered_plan words o o.command) m ≡ told_by kind (ordered_plan others p p.command) m
    same-told m = same-work told_of (λ s n. same-heard kind words others o p s n e asks) m

    same-due : (ws : List Watching) (m : HostModel) → order_of words ≡ Ok o → order_of others ≡ Ok p →
        due_reports (order_of words) ws (product_traces kind words m) ≡ due_reports (order_of others) ws (product_traces kind others m)
    same-due ws m f g =
        ap (due_reports (order_of words) ws) (traces-of kind words m)
        ∙ ap (λ r. due_reports r ws (told_by kind (work_plan words r) m)) f
        ∙ ap (λ (ts : List Trace). cond o.report (reports_on ts ws) []) (same-told m) ∙ ap (λ b. cond b (reports_on (told_by kind (ordered_plan others p p.command) m) ws) []) asks
        ∙ sym (ap (due_reports (order_of others) ws) (traces-of kind others m) ∙ ap (λ r. due_reports r ws (told_by kind (work_plan others r) m)) g)

    same-watched : (ws : List Watching) (m : HostModel) → order_of words ≡ Ok o → order_of others ≡ Ok p → watched_product kind words ws m ≡ watched_product kind others ws m
    same-watched ws m f g =
        ap (λ ts. with_reports ts (product kind words m)) (same-due ws m f g) ∙ ap (with_reports (due_reports (order_of others) ws (product_traces kind others m))) (same-product m f g)

-- ---- the laws

pub rings-agree : (words others : List Word) (o p : Order) (m : HostModel) → order_of words ≡ Ok o → order_of others ≡ Ok p →
    DifferInRing words others o p → product list_machine words m ≡ product list_machine others m
rings-agree words others o p m f g e = same-product list_machine words others o p e (λ image args. refl) refl m f g

pub rings-watched : (words others : List Word) (o p : Order) (ws : List Watching) (m : HostModel) → order_of words ≡ Ok o → order_of others ≡ Ok p →
    DifferInRing words others o p → o.report ≡ p.report → watched_product list_machine words ws m ≡ watched_product list_machine others ws m
rings-watched words others o p ws m f g e asks = same-watched list_machine words others o p e (λ image args. refl) refl asks ws m f g

pub reports-alone : (kind : MachineKind) (words others : List Word) (o p : Order) (m : HostModel) → order_of words ≡ Ok o → order_of others ≡ Ok p →
    DifferInRing words others o p → o.ring ≡ p.ring → product kind words m ≡ product kind others m
reports-alone kind words others o p m f g e ring = same-product kind words others o p e (λ image args. ap (λ r. started kind r image args) ring) (ap (stack_at_start kind) ring) m f g

-- a number of blocks begins with no dash
number-plain : (b : ℕ) (bs : List ℕ) → is_number (b ∷ bs) ≡ true → is_option (b ∷ bs) ≡ false
number-plain b bs is = grind (arith, nat_tests)

blocks-plain : (blocks : Word) (n : ℕ) → blocks_value blocks ≡ Ok n → is_option blocks ≡ false
blocks-plain [] n is = refl
blocks-plain (b ∷ bs) n is = grind (arith, nat_tests, number-plain)

picks : {A : Type 0} (b : Bool) (x y z : A) → b ≡ false → y ≡ z → cond b x y ≡ z
picks b x y z e h = grind arith

-- `gen` with a ring and without one
module _ (blocks ring : Word) (n size : ℕ) (counts : blocks_value blocks ≡ Ok n) where
  gen-ordered : (r place : ℕ) → options_from Gen (with_ring defaults r) place (blocks ∷ []) ≡ Ok (gen_order (with_ring defaults r) n)
  unfolding options_from
  gen-ordered r place = picks (is_option blocks) _ _ _ (blocks-plain blocks n counts) (ap (λ v. blocks_at (with_ring defaults r) place v []) counts)

  ring-ordered : ring_value ring ≡ Ok size → order_of (gen_ring_words ring blocks) ≡ Ok (gen_order (with_ring defaults size) n)
  unfolding options_from
  ring-ordered is = ap (λ r. valued r 2 (λ n. options_from Gen (with_ring defaults n) 3 (blocks ∷ []))) is ∙ gen-ordered size 3

  rings-generated : (m : HostModel) → ring_value ring ≡ Ok size → product list_machine (gen_words blocks) m ≡ product list_machine (gen_ring_words ring blocks) m
  rings-generated m is =
      rings-agree (gen_words blocks) (gen_ring_words ring blocks) (gen_order defaults n) (gen_order (with_ring defaults size) n) m (gen-ordered 256 1) (ring-ordered is)
      (record { command = refl; file = refl; object = refl; schedule = λ e. refl; arguments = λ h. absurd h; steps = refl; interactive = refl; dump = refl; blocks = refl; last = refl })

-- a worked row: `gen 1` and `gen --ring 512 1`
row-gen : (m : HostModel) → product list_machine (codes "gen" ∷ codes "1" ∷ []) m ≡ product list_machine (codes "gen" ∷ codes "--ring" ∷ codes "512" ∷ codes "1" ∷ []) m
unfolding lib.Count.ones
row-gen m = rings-generated (codes "1") (codes "512") 1 512 refl m refl

pub gen-agrees : (blocks ring : Word) (n size : ℕ) (m : HostModel) → blocks_value blocks ≡ Ok n → ring_value ring ≡ Ok size → product list_machine (gen_words blocks) m ≡ product list_machine (gen_ring_words ring blocks) m
gen-agrees blocks ring n size m counts is = rings-generated blocks ring n size counts m is
