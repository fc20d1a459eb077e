-- A run of the program whose calls are answered, whose source means something and whose machine halts is done.
use Rattle.std.proofs.Common.{◌≡◌, ℕ, List, [], ◌∷◌, Bool, true, false, cond, length, ◌≤◌, refl, sym, ◌∙◌, ap, Ok, Err, Some, None, codes, ◌&&◌}
use Rattle.std.specs.Prelude.{Option, Result}
use Rattle.mx_host.specs.HostModel.{HostModel}
use Rattle.mx_plan.specs.Calls.{host, HostPlan}
use Rattle.mx_plan.specs.Plan.{end_of}
use Rattle.mx_plan.specs.Wild.{ends, course}
use Rattle.mx_mmo.specs.Image.{Image}
use Rattle.mx_core.specs.State.{State}
use Rattle.mx_ring.specs.Stack.{register}
use Rattle.mx_run.specs.Runs.{no_flags}
use Rattle.mx_run.specs.WildRuns.{MachineKind, run_by}
use Rattle.mx_run.specs.declared.end.End.TheVariants.{Halted}
use Rattle.mx_words.specs.declared.order.Command.{Command}
use Rattle.mx_words.specs.declared.order.Command.TheVariants.{Asm, Gen}
use Rattle.mx_words.specs.declared.order.Order.{Order}
use Rattle.mx_asm.specs.OnePass.{Ended}
use Rattle.mx_asm.specs.Pages.{run_refusal, run_refusal_with, page_refusal, accepted_in}
use Rattle.mx_asm.specs.Entries.{source_entries, statements_in}
use Rattle.mx_asm.specs.Image as imaging
use Rattle.mx_asm.specs.Refusal.{refusal}
use Rattle.mx_asm.specs.declared.refused.Refused.{Refused}
use Rattle.mx_asm.proofs.InTurn.{source-accepted}
use Rattle.mx_files.specs.Answers.{Answer, plainly, after_lines}
use Rattle.mx_begin.specs.Arguments.{Word, word_at, arguments}
use Rattle.mx_begin.specs.Begun.{most_pieces, started}
use Rattle.mx_begin.specs.declared.images.Form.{Form}
use Rattle.mx_begin.specs.declared.images.Form.TheVariants.{Source, Object}
use Rattle.mx_dump.specs.Dump.{dump_lines}
use Rattle.mx_gen.specs.Generator.{generated, summary}
use Rattle.mx_gen.specs.Program.{generated_image}
use Rattle.mx_gen.proofs.Meaning.{not-refused-run, statements-of}
use Rattle.mx_words.proofs.OrderedBlocks.{order-few}
use Rattle.mx_files.specs.Writing.{lines_put}
use Rattle.mx_files.specs.Objects.{source_object}
use Rattle.mx_files.specs.Objects as assembling
use Rattle.mx_files.specs.ObjectPlans.{assemble_plan}
use Rattle.mx_files.specs.Assembling.{refused_with, assembled_outcome}
use Rattle.mx_files.proofs.FileEnds.{assembled-by}
use Rattle.mx_files.specs.Source.{file_bytes}
use Rattle.mx_files.specs.Sources.{source_meaning, meaning_unless}
use Rattle.mx_files.specs.declared.refusal.Refusal.{Refusal}
use Rattle.mx_outcome.specs.Kinds.{leaves_machine}
use Rattle.mx_outcome.specs.declared.outcome.Outcome.{Outcome}
use Rattle.mx_outcome.specs.declared.outcome.Outcome.TheVariants.{Done}
use Rattle.mx_top.specs.Endings.{dumped_plan, summed_plan}
use Rattle.mx_top.specs.MachineWork as work
use Rattle.mx_top.specs.MachineWork.{machine_plan, generated_work}
use Rattle.mx_top.specs.Product.{host_in_program, run_on, run_source, run_text, taking, ordered_plan, work_plan, work_on, at_start, answer_of, product}
use Rattle.mx_top.specs.Runs.{generator_steps}
use Rattle.mx_top.specs.Telling.{telling, with_message}
use Rattle.mx_top.specs.WorkClauses.{answer_by, work_by}
use Rattle.mx_top.proofs.Followed.{to-summed}
use Rattle.mx_top.proofs.Spoken.{plain-so, product-is-said}
use Rattle.mx_top.proofs.Told.{done-said}
use Rattle.mx_top.proofs.WorkParts.{run-on}
use Rattle.mx_top.proofs.WorkPlans.{host-course, taking-course}
use Rattle.law_runs.specs.Complete.{IsOrdered, HasProgram, IsStarted, IsHalted, IsPlayed, IsWritten, IsGenerated, command_for, image_answer, session_answer}
use Rattle.law_runs.proofs.MachineAnswers.{run_answer, run-answers, session_told, machine_by, machine-answer, sitting-answer, halted-answer, telling-end, dumped-end}
use Rattle.law_runs.proofs.ReadRuns.{image_ran, file_ran, file-read, image-course}

-- ---- the words, and what they name

pub order-is : (kind : MachineKind) (words : List Word) (o : Order) (c : Command) (m : HostModel) → IsOrdered words o c → product kind words m ≡ with_message (answer_by kind (ordered_plan words o c) m)
order-is kind words o c m h =
    product-is-said kind words m
    ∙ ap (λ r. with_message (answer_by kind (work_plan words r) m)) h.order
    ∙ ap (λ d. with_message (answer_by kind (ordered_plan words o d) m)) h.command

-- a plan of the host alone
pub host-answer : (kind : MachineKind) (p : HostPlan Outcome) (m : HostModel) → answer_by kind (host_in_program p) m ≡ plainly (end_of host p m)
host-answer kind p m = ap answer_of (host-course kind p (m, [])) ∙ plain-so (end_of host p m)

-- a source or an object
ordered-run : (kind : MachineKind) (words : List Word) (o : Order) (form : Form) (m : HostModel) →
    answer_by kind (ordered_plan words o (command_for form)) m ≡ file_ran kind o (arguments words o) form (file_bytes (most_pieces form) (word_at words o.file) m)
unfolding ordered_plan
ordered-run kind words o Source m = file-read kind words o Source m
ordered-run kind words o Object m = file-read kind words o Object m

pub program-run : (kind : MachineKind) (words : List Word) (o : Order) (form : Form) (image : Image) (m begun : HostModel) → HasProgram words o form image m begun →
    product kind words m ≡ with_message (image_answer kind o (arguments words o) image begun)
program-run kind words o form image m begun h =
    order-is kind words o (command_for form) m h.ordered
    ∙ ap with_message (ordered-run kind words o form m ∙ ap (file_ran kind o (arguments words o) form) h.read ∙ ap (λ r. image_ran kind o (arguments words o) r begun) h.means)

-- ---- the machine

-- the host's plan after a machine that ended
abbrev pub dump_answer : Bool → Outcome → State → HostModel → Answer
dump_answer dump outcome ended after = plainly (end_of host (dumped_plan dump outcome ended) after)

started-run : (kind : MachineKind) (words : List Word) (o : Order) (image : Image) (s : State) (begun : HostModel) → IsStarted kind words o image s →
    image_answer kind o (arguments words o) image begun ≡ answer_of (work_by kind (machine_plan o) s begun)
started-run kind words o image s begun h = image-course kind o (arguments words o) image begun ∙ ap (λ r. answer_of (work_on kind (machine_plan o) r (begun, []))) h

pub halted-run : (kind : MachineKind) (words : List Word) (o : Order) (image : Image) (begun : HostModel) (status : ℕ) (ended : State) (after : HostModel) →
    IsHalted kind words o image begun status ended after → image_answer kind o (arguments words o) image begun ≡ dump_answer o.dump (Done status) ended after
halted-run kind words o image begun status ended after h =
    started-run kind words o image h.machine begun h.starts ∙ halted-answer kind o h.machine ended begun after status h.plain h.halts

pub plain-told : (wanted : Bool) (status : ℕ) (ended : State) (after : HostModel) → wanted ≡ false →
    with_message (dump_answer wanted (Done status) ended after) ≡ ends (Done status) after
plain-told wanted status ended after h =
    ap with_message (dumped-end wanted (Done status) ended after ∙ ap (λ b. cond (b && leaves_machine (Done status)) (after_lines (Done status) (lines_put (dump_lines ended) after)) (ends (Done status) after)) h)
    ∙ done-said status after

pub dump-told : (wanted : Bool) (status : ℕ) (ended : State) (after last : HostModel) → wanted ≡ true → lines_put (dump_lines ended) after ≡ (true, last) →
    with_message (dump_answer wanted (Done status) ended after) ≡ ends (Done status) last
dump-told wanted status ended after last h e =
    ap with_message (dumped-end wanted (Done status) ended after ∙ ap (λ b. cond (b && leaves_machine (Done status)) (after_lines (Done status) (lines_put (dump_lines ended) after)) (ends (Done status) after)) h
    ∙ ap (after_lines (Done status)) e) ∙ done-said status last

-- ---- `run` and `sim`: what runs this image, by the words and the host after the file was read

abbrev pub Runs : MachineKind → List Word → Order → Image → HostModel → HostModel → Type 0
Runs kind words o image m begun = product kind words m ≡ with_message (image_answer kind o (arguments words o) image begun)

pub runs-plain : (kind : MachineKind) (words : List Word) (o : Order) (image : Image) (status : ℕ) (ended : State) (m begun after : HostModel) → Runs kind words o image m begun →
    IsHalted kind words o image begun status ended after → o.dump ≡ false → product kind words m ≡ ends (Done status) after
runs-plain kind words o image status ended m begun after h k d =
    h ∙ ap with_message (halted-run kind words o image begun status ended after k) ∙ plain-told o.dump status ended after d

pub runs-dumped : (kind : MachineKind) (words : List Word) (o : Order) (image : Image) (status : ℕ) (ended : State) (m begun after last : HostModel) → Runs kind words o image m begun →
    IsHalted kind words o image begun status ended after → o.dump ≡ true → lines_put (dump_lines ended) after ≡ (true, last) → product kind words m ≡ ends (Done status) last
runs-dumped kind words o image status ended m begun after last h k d e =
    h ∙ ap with_message (halted-run kind words o image begun status ended after k) ∙ dump-told o.dump status ended after last d e

-- ---- sessions of the console

pub sat-image : (kind : MachineKind) (words : List Word) (o : Order) (image : Image) (s : State) (begun : HostModel) → o.interactive ≡ true → IsStarted kind words o image s →
    with_message (image_answer kind o (arguments words o) image begun) ≡ with_message (session_answer kind o s begun)
sat-image kind words o image s begun h k =
    ap with_message (started-run kind words o image s begun k ∙ machine-answer kind o s begun ∙ ap (machine_by kind o.steps o.last o.dump s begun) h ∙ sym (sitting-answer kind o s begun))

-- what a session comes to that is played to this end
pub played-answer : (kind : MachineKind) (words : List Word) (o : Order) (image : Image) (begun : HostModel) (outcome : Outcome) (ended : State) (after : HostModel) → (h : IsPlayed kind words o image begun outcome ended after) →
    session_answer kind o h.machine begun ≡ dump_answer o.dump outcome ended after
played-answer kind words o image begun outcome ended after h =
    sitting-answer kind o h.machine begun ∙ ap (session_told o.steps (dumped_plan o.dump)) h.plays ∙ ap (λ r. dump_answer o.dump r ended after) (sym h.comes)

pub played-image : (kind : MachineKind) (words : List Word) (o : Order) (image : Image) (begun : HostModel) (outcome : Outcome) (ended : State) (after : HostModel) → IsPlayed kind words o image begun outcome ended after →
    o.dump ≡ false → with_message (image_answer kind o (arguments words o) image begun) ≡ with_message (ends outcome after)
played-image kind words o image begun outcome ended after h d =
    sat-image kind words o image h.machine begun h.console h.starts
    ∙ ap with_message (played-answer kind words o image begun outcome ended after h ∙ dumped-end o.dump outcome ended after
    ∙ ap (λ b. cond (b && leaves_machine outcome) (after_lines outcome (lines_put (dump_lines ended) after)) (ends outcome after)) d)

-- ---- `asm`

-- what a source means is what nothing is refused of
unrefused : (pages : Option ℕ) (r : Option Refused) (image i : Image) → meaning_unless (run_refusal_with pages r) i ≡ Ok image → r ≡ None
unrefused (Some line) r image i e = absurd (cc)
unrefused None (Some refused) image i e = absurd (cc)
unrefused None None image i e = refl

meant-accepted : (text : List ℕ) (image : Image) → source_meaning text ≡ Ok image → refusal text ≡ None
unfolding source_meaning
meant-accepted text image e =
    unrefused (page_refusal (accepted_in (source_entries text))) (refusal text) image (imaging.image (statements_in (source_entries text))) e

pub accepted-object : (text : List ℕ) → refusal text ≡ None → (source_object text).1 ≡ Ok tt
unfolding source_object
accepted-object text e = ap (λ (x : Ended). (assembling.object_of x).1) (source-accepted text e)

pub meant-object : (text : List ℕ) (image : Image) → source_meaning text ≡ Ok image → (source_object text).1 ≡ Ok tt
meant-object text image e = accepted-object text (meant-accepted text image e)

pub unrefused-means : (text : List ℕ) → run_refusal text ≡ None → source_meaning text ≡ Ok (imaging.image (statements_in (source_entries text)))
unfolding source_meaning
unrefused-means text e = ap (λ r. meaning_unless r (imaging.image (statements_in (source_entries text)))) e

object-written : (kind : MachineKind) (words : List Word) (text : List ℕ) (m after : HostModel) → IsWritten words text m after →
    product kind words m ≡ with_message (ends (assembled_outcome (source_object text).1) after)
unfolding ordered_plan
object-written kind words text m after h =
    order-is kind words h.order Asm m h.ordered
    ∙ ap with_message (host-answer kind (assemble_plan (word_at words h.order.file) (word_at words h.order.rest)) m)
    ∙ ap (λ t. with_message (plainly t))
    (assembled-by (word_at words h.order.file) (word_at words h.order.rest) text m h.begun h.opened h.written after h.read h.opens h.writes h.closes)

pub source-written : (kind : MachineKind) (words : List Word) (text : List ℕ) (image : Image) (m after : HostModel) → IsWritten words text m after → source_meaning text ≡ Ok image →
    product kind words m ≡ ends (Done 0) after
source-written kind words text image m after h e =
    object-written kind words text m after h ∙ ap (λ r. with_message (ends (assembled_outcome r) after)) (meant-object text image e) ∙ done-said 0 after

pub accepted-written : (kind : MachineKind) (words : List Word) (text : List ℕ) (m after : HostModel) → IsWritten words text m after → (source_object text).1 ≡ Ok tt →
    product kind words m ≡ ends (Done 0) after
accepted-written kind words text m after h e =
    object-written kind words text m after h ∙ ap (λ r. with_message (ends (assembled_outcome r) after)) e ∙ done-said 0 after

pub refused-written : (kind : MachineKind) (words : List Word) (text : List ℕ) (r : Refusal) (m after : HostModel) → IsWritten words text m after → (source_object text).1 ≡ Err r →
    product kind words m ≡ with_message (ends (refused_with r) after)
refused-written kind words text r m after h e =
    object-written kind words text m after h ∙ ap (λ a. with_message (ends (assembled_outcome a) after)) e

-- ---- `gen`

-- a source that is generated means the image of its program
pub generated-means : (n : ℕ) → n ≤ 10000 → source_meaning (generated n) ≡ Ok (generated_image n)
unfolding source_meaning
generated-means n few =
    ap (λ r. meaning_unless r (imaging.image (statements_in (source_entries (generated n))))) (not-refused-run n few)
    ∙ ap (λ ss. Ok (imaging.image ss)) (statements-of n few)

-- its machine, and the line that sums it up
summed-answer : (kind : MachineKind) (blocks size : ℕ) (s ended : State) (m left : HostModel) (status : ℕ) → run_by kind generator_steps no_flags false s m ≡ ends (Halted status) (ended, left) →
    answer_of (work_by kind (generated_work blocks size) s m) ≡ plainly (end_of host (telling (Done 0) (summary blocks size ended.steps (register ended.stack 255) ∷ [])) left)
unfolding course
summed-answer kind blocks size s ended m left status h =
    run-answers kind generator_steps (work.summed_plan blocks size) (λ outcome t kept. summed_plan blocks size outcome t) (at_start s (m, [])) (run_by kind generator_steps no_flags false s m) (to-summed blocks size)
    ∙ ap (run_answer generator_steps (λ outcome t. summed_plan blocks size outcome t)) h

generated-answer : (kind : MachineKind) (o : Order) (size : ℕ) (image : Image) (m : HostModel) (r : Result Image Refusal) → r ≡ Ok image → answer_by kind (taking (run_source o size r)) m
    ≡ answer_of (work_on kind (generated_work o.number size) (started kind o.ring image (codes "gen" ∷ [])) (m, []))
generated-answer kind o size image m r e =
    ap (λ x. answer_by kind (taking (run_source o size x)) m) e
    ∙ ap answer_of (taking-course kind (run_on o.ring (codes "gen" ∷ []) (generated_work o.number size) image) (m, []) ∙ run-on kind o.ring (codes "gen" ∷ []) (generated_work o.number size) image (m, []))

pub generated-told : (kind : MachineKind) (words : List Word) (m left : HostModel) (line : List ℕ) → IsGenerated kind words m left line →
    product kind words m ≡ with_message (after_lines (Done 0) (lines_put (line ∷ []) left))
unfolding ordered_plan
generated-told kind words m left line h =
    let o : Order = h.order in
    let size : ℕ = length (generated o.number) in
    order-is kind words o Gen m h.ordered
    ∙ ap with_message (ap answer_of (taking-course kind (run_text o (generated o.number)) (m, []))
    ∙ generated-answer kind o size (generated_image o.number) m (source_meaning (generated o.number)) (generated-means o.number (order-few words o h.ordered.order))
    ∙ ap (λ r. answer_of (work_on kind (generated_work o.number size) r (m, []))) h.starts
    ∙ summed-answer kind o.number size h.machine h.ended m left h.status h.halts
    ∙ ap (λ text. plainly (end_of host (telling (Done 0) (text ∷ [])) left)) (sym h.told) ∙ telling-end (Done 0) (line ∷ []) left)

pub generated-done : (kind : MachineKind) (words : List Word) (m left after : HostModel) (line : List ℕ) → IsGenerated kind words m left line → lines_put (line ∷ []) left ≡ (true, after) →
    product kind words m ≡ ends (Done 0) after
generated-done kind words m left after line h e = generated-told kind words m left line h ∙ ap (λ t. with_message (after_lines (Done 0) t)) e ∙ done-said 0 after

pub ruleset completed = (meant-object, accepted-object, unrefused-means, generated-means, generated-done)
