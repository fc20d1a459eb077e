-- Where no call that the program makes fails, it does what it does over the host with no call counted and none that fails:
-- what is there is run, or assembled, to its end.
use Rattle.std.proofs.Common.{◌≡◌, ◌≢◌, ℕ, ◌%◌, ◌^◌, List, [], ◌∷◌, Bool, true, false, cond, refl, sym, ◌∙◌, ap, subst, Option, None, append-nil}
use Rattle.std.specs.Prelude.{◌&&◌}
use Rattle.std.specs.List.{concat}
use Rattle.mx_host.specs.HostModel.{HostModel, HasStartSlots, contents}
use Rattle.mx_host.specs.HostAnswer.{Then, with_file}
use Rattle.mx_host.proofs.Still.{still}
use Rattle.mx_mmo.specs.Image.{Image}
use Rattle.mx_asm.specs.Refusal.{refusal}
use Rattle.mx_plan.specs.Wild.{ends}
use Rattle.mx_core.specs.State.{State}
use Rattle.mx_ring.specs.Stack.{register}
use Rattle.mx_plan.specs.Calls.{host}
use Rattle.mx_plan.specs.Counts.{unscheduled}
use Rattle.mx_plan.specs.Plan.{end_of}
use Rattle.mx_plan.proofs.Spared.{uncalled, steady-of}
use Rattle.mx_run.specs.WildRuns.{MachineKind, window_machine}
use Rattle.mx_run.specs.declared.end.End.TheVariants.{Halted}
use Rattle.mx_words.specs.declared.order.Command.TheVariants.{Asm}
use Rattle.mx_words.specs.declared.order.Order.{Order}
use Rattle.mx_files.specs.Answers.{Answer, after_lines}
use Rattle.mx_outcome.specs.Kinds.{leaves_machine}
use Rattle.mx_begin.specs.Arguments.{Word, word_at, arguments}
use Rattle.mx_begin.specs.declared.images.Form.{Form}
use Rattle.law_runs.specs.Called.{NoCallFails, IsCalled}
use Rattle.law_runs.specs.Complete.{IsOrdered, IsStarted, IsThere, ProgramIsThere, IsHalted, IsPlayed, IsGenerated, image_answer, session_answer, with_output}
use Rattle.law_runs.specs.Detour.{answer_unscheduled}
use Rattle.mx_dump.specs.Dump.{dump_lines}
use Rattle.mx_files.specs.Writing.{lines_put}
use Rattle.mx_files.specs.Objects.{source_object}
use Rattle.mx_files.specs.Assembling.{assembled_outcome}
use Rattle.mx_top.specs.MachineWork.{machine_plan}
use Rattle.mx_top.specs.Product.{run_on, product}
use Rattle.mx_top.specs.Runs.{generator_steps}
use Rattle.mx_top.specs.Telling.{message_plan, with_message}
use Rattle.mx_top.proofs.Told.{message-said, done-said}
use Rattle.mx_files.specs.Source.{source_pieces}
use Rattle.mx_outcome.specs.declared.outcome.Outcome.{Outcome}
use Rattle.mx_outcome.specs.declared.outcome.Outcome.TheVariants.{Done, OutOfMemory}
use Rattle.law_runs.proofs.Completed.{sat-image, halted-run, played-answer, plain-told, accepted-object, generated-told}
use Rattle.law_runs.proofs.CompletedFiles.{LinesWritten, lines-written, lines-done, IsReady, run-left, session-left, program-still, with_object, assembled-still}
use Rattle.law_runs.proofs.LowBytes.{halts-low}
use Rattle.law_runs.proofs.MachineAnswers.{dumped-end}
use Rattle.law_runs.proofs.SteadyProduct.{SparedAnswers, plan-steady, message-steady, product-steady, answer-unscheduled, product-same}

-- ---- the host with no call counted and none that fails

-- what comes of the still model comes of each, but for the count and the list
pub carried-as : (kind : MachineKind) (words : List Word) (m from : HostModel) (a b : Answer) → NoCallFails kind words m → product kind words (still m) ≡ b → SparedAnswers from a b → from.failing ≡ [] →
    answer_unscheduled (product kind words m) ≡ answer_unscheduled a
carried-as kind words m from a b none e h well =
    answer-unscheduled (product kind words m) ∙ ap answer_unscheduled ((product-steady kind words m).same none ∙ e ∙ sym (steady-of h well).0) ∙ sym (answer-unscheduled a)

-- ---- `run` and `sim`

-- the program does what the run of this image does
abbrev pub RunsAs : MachineKind → List Word → Order → Image → HostModel → Type 0
RunsAs kind words o image m = answer_unscheduled (product kind words m) ≡ answer_unscheduled (with_message (image_answer kind o (arguments words o) image (unscheduled m)))

runs-as : (kind : MachineKind) (words : List Word) (o : Order) (image : Image) (m : HostModel) → NoCallFails kind words m → product kind words (still m) ≡ with_message (image_answer kind o (arguments words o) image (still m)) →
    RunsAs kind words o image m
runs-as kind words o image m none e =
    carried-as kind words m (unscheduled m) (with_message (image_answer kind o (arguments words o) image (unscheduled m))) (with_message (image_answer kind o (arguments words o) image (still m))) none e
    (message-steady (image_answer kind o (arguments words o) image (unscheduled m)) (image_answer kind o (arguments words o) image (still m)) (plan-steady kind (run_on o.ring (arguments words o) (machine_plan o) image) (unscheduled m))) refl

pub program-spared : (kind : MachineKind) (words : List Word) (o : Order) (form : Form) (image : Image) (m : HostModel) → ProgramIsThere words o form image m → NoCallFails kind words m → RunsAs kind words o image m
program-spared kind words o form image m h none = runs-as kind words o image m none (program-still kind words o form image m h)

pub halted-plain : (kind : MachineKind) (words : List Word) (o : Order) (image : Image) (status : ℕ) (ended : State) (m after : HostModel) → RunsAs kind words o image m →
    IsHalted kind words o image (unscheduled m) status ended after → o.dump ≡ false → answer_unscheduled (product kind words m) ≡ ends (Done status) (unscheduled after)
halted-plain kind words o image status ended m after h k d =
    h ∙ ap answer_unscheduled (ap with_message (halted-run kind words o image (unscheduled m) status ended after k) ∙ plain-told o.dump status ended after d)

pub halted-dumped : (kind : MachineKind) (words : List Word) (o : Order) (image : Image) (status : ℕ) (ended : State) (m after : HostModel) → HasStartSlots m → RunsAs kind words o image m →
    IsHalted kind words o image (unscheduled m) status ended after → o.dump ≡ true →
    answer_unscheduled (product kind words m) ≡ ends (Done status) (unscheduled (with_output after (concat (dump_lines ended))))
halted-dumped kind words o image status ended m after slots h k d =
    h ∙ ap (λ a. answer_unscheduled (with_message a)) (halted-run kind words o image (unscheduled m) status ended after k) ∙ ap (λ a. answer_unscheduled (with_message a)) (dumped-end o.dump (Done status) ended after)
    ∙ ap (λ b. answer_unscheduled (with_message (cond (b && leaves_machine (Done status)) (after_lines (Done status) (lines_put (dump_lines ended) after)) (ends (Done status) after)))) d
    ∙ lines-done (dump_lines ended) status after (run-left kind o.steps k.machine (unscheduled m) (Halted status) (ended, after) refl slots k.halts)

-- a session
pub sat-spared : (kind : MachineKind) (words : List Word) (o : Order) (image : Image) (s : State) (m : HostModel) → RunsAs kind words o image m → o.interactive ≡ true → IsStarted kind words o image s →
    answer_unscheduled (product kind words m) ≡ answer_unscheduled (with_message (session_answer kind o s (unscheduled m)))
sat-spared kind words o image s m h i k = h ∙ ap answer_unscheduled (sat-image kind words o image s (unscheduled m) i k)

-- ---- `asm` and `gen`

pub told-spared : (kind : MachineKind) (words : List Word) (o : Order) (text : List ℕ) (m : HostModel) → IsOrdered words o Asm → IsThere (word_at words o.file) source_pieces text m → NoCallFails kind words m →
    answer_unscheduled (product kind words m) ≡ answer_unscheduled (with_message (ends (assembled_outcome (source_object text).1) (with_file (unscheduled m) (word_at words o.rest) (source_object text).0)))
told-spared kind words o text m h there none =
    let outcome : Outcome = assembled_outcome (source_object text).1 in
    let n : HostModel = with_object words o text (unscheduled m) in
    let same : SparedAnswers n (ends outcome n) (ends outcome (still n)) = uncalled in
    carried-as kind words m n (with_message (ends outcome n)) (with_message (ends outcome (still n))) none (assembled-still kind words o text m h there) (message-steady (ends outcome n) (ends outcome (still n)) same) refl

pub assembled-spared : (kind : MachineKind) (words : List Word) (o : Order) (text : List ℕ) (m : HostModel) → IsOrdered words o Asm → IsThere (word_at words o.file) source_pieces text m → NoCallFails kind words m →
    refusal text ≡ None → answer_unscheduled (product kind words m) ≡ ends (Done 0) (unscheduled (with_file m (word_at words o.rest) (source_object text).0))
assembled-spared kind words o text m h there none e =
    told-spared kind words o text m h there none ∙ ap (λ r. answer_unscheduled (with_message (ends (assembled_outcome r) (with_object words o text (unscheduled m))))) (accepted-object text e)
    ∙ ap answer_unscheduled (done-said 0 (with_object words o text (unscheduled m)))

pub generated-spared : (kind : MachineKind) (words : List Word) (m left : HostModel) (line : List ℕ) → HasStartSlots m → NoCallFails kind words m → IsGenerated kind words (unscheduled m) left line →
    answer_unscheduled (product kind words m) ≡ ends (Done 0) (unscheduled (with_output left line))
generated-spared kind words m left line slots none h =
    product-same kind words m (unscheduled m) refl none (λ call from to. refl) ∙ ap answer_unscheduled (generated-told kind words (unscheduled m) left line h)
    ∙ lines-done (line ∷ []) 0 left (run-left kind generator_steps h.machine (unscheduled m) (Halted h.status) (h.ended, left) refl slots h.halts)
    ∙ ap (λ text. ends (Done 0) (unscheduled (with_output left text))) (append-nil line)

-- ---- outcomes

-- the answer has this outcome
abbrev pub Answers : Outcome → Answer → Type 0
Answers outcome a = (q : HostModel) × (answer_unscheduled a ≡ ends outcome q)

-- by whether there is a dump
halted-answers : (kind : MachineKind) (words : List Word) (o : Order) (image : Image) (status : ℕ) (ended : State) (m after : HostModel) → HasStartSlots m → RunsAs kind words o image m →
    IsHalted kind words o image (unscheduled m) status ended after → (b : Bool) → o.dump ≡ b → Answers (Done status) (product kind words m)
halted-answers kind words o image status ended m after slots h k true d =
    (unscheduled (with_output after (concat (dump_lines ended))), halted-dumped kind words o image status ended m after slots h k d)
halted-answers kind words o image status ended m after slots h k false d = (unscheduled after, halted-plain kind words o image status ended m after h k d)

-- a message changes no outcome, nor do the lines of a dump that are written
pub message-answers : (outcome : Outcome) (m : HostModel) → Answers outcome (with_message (ends outcome m))
message-answers outcome m = (unscheduled (end_of host (message_plan outcome) m).1, ap answer_unscheduled (message-said outcome m))

lines-answer : (lines : List (List ℕ)) (outcome : Outcome) (m : HostModel) (t : Then Bool) → LinesWritten lines m t → Answers outcome (with_message (after_lines outcome t))
lines-answer lines outcome m (true, n) h = message-answers outcome n
lines-answer lines outcome m (false, n) h = absurd (cc (h.0))

dumped-by : (b : Bool) (outcome : Outcome) (ended : State) (m : HostModel) → IsReady m →
    Answers outcome (with_message (cond b (after_lines outcome (lines_put (dump_lines ended) m)) (ends outcome m)))
dumped-by true outcome ended m h = lines-answer (dump_lines ended) outcome m (lines_put (dump_lines ended) m) (lines-written (dump_lines ended) m h)
dumped-by false outcome ended m h = message-answers outcome m

through : (outcome : Outcome) (a b : Answer) → answer_unscheduled a ≡ answer_unscheduled b → Answers outcome b → Answers outcome a
through outcome a b e h = (h.0, e ∙ h.1)

played-answers : (kind : MachineKind) (words : List Word) (o : Order) (image : Image) (outcome : Outcome) (ended : State) (m after : HostModel) → HasStartSlots m → RunsAs kind words o image m →
    IsPlayed kind words o image (unscheduled m) outcome ended after → Answers outcome (product kind words m)
played-answers kind words o image outcome ended m after slots h k =
    through outcome (product kind words m) (with_message (session_answer kind o k.machine (unscheduled m))) (sat-spared kind words o image k.machine m h k.console k.starts)
    (subst (λ (a : Answer). Answers outcome (with_message a)) (sym (played-answer kind words o image (unscheduled m) outcome ended after k ∙ dumped-end o.dump outcome ended after))
    (dumped-by (o.dump && leaves_machine outcome) outcome ended after (session-left kind o.steps k.machine (unscheduled m) k.end ((ended, after), k.flags) refl slots k.plays)))

-- ---- what a call answers

pub called : (words : List Word) (old new : Option HostModel) (result outcome : Outcome) → IsCalled words old new result → result ≢ OutOfMemory →
    Answers outcome (product window_machine words (contents old)) → result ≡ outcome
called words old new result outcome h k a =
    let told : ends result (unscheduled (contents new)) ≡ ends outcome a.0 = ap answer_unscheduled (h.answers h.telling k) ∙ a.1 in
    cc

-- that of a machine that halts, and that of a session
pub halted-called : (words : List Word) (o : Order) (image : Image) (status : ℕ) (ended : State) (after : HostModel) (old new : Option HostModel) (result : Outcome) → IsCalled words old new result →
    HasStartSlots (contents old) → RunsAs window_machine words o image (contents old) → IsHalted window_machine words o image (unscheduled (contents old)) status ended after →
    result ≢ OutOfMemory → result ≡ Done (register ended.stack 255 % 2 ^ 8)
halted-called words o image status ended after old new result call slots h k kept =
    called words old new result (Done status) call kept (halted-answers window_machine words o image status ended (contents old) after slots h k o.dump refl)
    ∙ ap Done (halts-low window_machine o.steps status k.machine ended (unscheduled (contents old)) after k.halts)

pub played-called : (words : List Word) (o : Order) (image : Image) (outcome : Outcome) (ended : State) (after : HostModel) (old new : Option HostModel) (result : Outcome) → IsCalled words old new result →
    HasStartSlots (contents old) → RunsAs window_machine words o image (contents old) → IsPlayed window_machine words o image (unscheduled (contents old)) outcome ended after →
    result ≢ OutOfMemory → result ≡ outcome
played-called words o image outcome ended after old new result call slots h k kept =
    called words old new result outcome call kept (played-answers window_machine words o image outcome ended (contents old) after slots h k)

pub asm-answers : (words : List Word) (o : Order) (text : List ℕ) (old new : Option HostModel) (result : Outcome) → IsCalled words old new result →
    IsOrdered words o Asm → IsThere (word_at words o.file) source_pieces text (contents old) → NoCallFails window_machine words (contents old) → refusal text ≡ None →
    result ≢ OutOfMemory → result ≡ Done 0
asm-answers words o text old new result call h there none e kept =
    called words old new result (Done 0) call kept
    (unscheduled (with_file (contents old) (word_at words o.rest) (source_object text).0), assembled-spared window_machine words o text (contents old) h there none e)

pub gen-answers : (words : List Word) (left : HostModel) (line : List ℕ) (old new : Option HostModel) (result : Outcome) → IsCalled words old new result →
    HasStartSlots (contents old) → NoCallFails window_machine words (contents old) → IsGenerated window_machine words (unscheduled (contents old)) left line →
    result ≢ OutOfMemory → result ≡ Done 0
gen-answers words left line old new result call slots none h kept =
    called words old new result (Done 0) call kept (unscheduled (with_output left line), generated-spared window_machine words (contents old) left line slots none h)
