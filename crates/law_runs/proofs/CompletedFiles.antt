-- Over the host with no call counted and none that fails: files that are there are read, lines and objects are written, and what is read is
-- run, or assembled.
use Rattle.std.proofs.Common.{◌≡◌, ℕ, ◌*◌, ◌<◌, List, [], Bool, true, false, length, take, refl, sym, ◌∙◌, ap, subst, Ok, Some, arith, ◌∷◌, append-nil, append_assoc}
use Rattle.std.specs.Prelude.{Result, slice_set}
use Rattle.std.specs.List.{concat}
use Rattle.mx_host.specs.declared.faults.HostFault.{HostFault}
use Rattle.mx_host.specs.declared.slots.Slot.{Slot}
use Rattle.mx_host.specs.declared.slots.Slot.TheVariants.{Closed}
use Rattle.mx_host.specs.HostModel.{HostModel, HasStartSlots, start_slots, place_of, slot_at, to_output}
use Rattle.mx_host.specs.HostAnswer.{Then, bytes_at, put_at, with_file, write_answer, write_to}
use Rattle.mx_host.proofs.Start.{start_slots-length, slot_at-start_output}
use Rattle.mx_host.proofs.Still.{still}
use Rattle.mx_mmo.specs.Image.{Image}
use Rattle.mx_core.specs.State.{State}
use Rattle.mx_plan.specs.Calls.{host}
use Rattle.mx_plan.specs.Counts.{NoneFailed, unscheduled, without_count}
use Rattle.mx_plan.specs.Held.{KeepsStreams}
use Rattle.mx_plan.specs.Plan.{end_of, end_after}
use Rattle.mx_plan.specs.Wild.{Course, ends, meets_wild, world_of, course}
use Rattle.mx_plan.proofs.Spared.{plan-spared, steady-of, uncounted-of}
use Rattle.mx_plan.proofs.Streams.{streams-held}
use Rattle.mx_run.specs.Counts.{end_host}
use Rattle.mx_run.specs.Runs.{no_flags}
use Rattle.mx_run.specs.RunPlans.{RunWorld}
use Rattle.mx_run.specs.WildRuns.{MachineKind, run_by}
use Rattle.mx_run.specs.declared.end.End.{End}
use Rattle.mx_run.proofs.HeldRuns.{streams-left}
use Rattle.mx_run.proofs.SteadyRuns.{run-steady}
use Rattle.mx_con.specs.Session.{session}
use Rattle.mx_con.specs.SessionPlans.{SessionWorld, session_plan}
use Rattle.mx_con.specs.declared.end.SessionEnd.{SessionEnd}
use Rattle.mx_con.proofs.HeldSessions.{course-keeps}
use Rattle.mx_con.proofs.SteadySessions.{session-steady}
use Rattle.mx_words.specs.declared.order.Command.TheVariants.{Asm}
use Rattle.mx_words.specs.declared.order.Order.{Order}
use Rattle.mx_files.specs.Answers.{plainly, after_lines}
use Rattle.mx_files.specs.Assembling.{assembled_outcome}
use Rattle.mx_files.specs.FilePlans.{on_ok, file_plan, lines_plan}
use Rattle.mx_files.specs.ObjectPlans.{assemble_plan}
use Rattle.mx_files.specs.Objects.{source_object}
use Rattle.mx_files.specs.Source.{file_bytes}
use Rattle.mx_files.specs.Writing.{was_put, lines_put}
use Rattle.mx_files.proofs.FileEnds.{then_carried, no-lines, line-by}
use Rattle.mx_begin.specs.Arguments.{Word, word_at, arguments}
use Rattle.mx_begin.specs.Begun.{most_pieces}
use Rattle.mx_begin.specs.declared.images.Form.{Form}
use Rattle.mx_outcome.specs.declared.outcome.Outcome.{Outcome}
use Rattle.mx_outcome.specs.declared.outcome.Outcome.TheVariants.{Done}
use Rattle.mx_top.specs.Product.{ordered_plan, product}
use Rattle.mx_top.specs.Telling.{with_message}
use Rattle.mx_top.proofs.Told.{done-said}
use Rattle.law_runs.specs.Complete.{IsOrdered, IsThere, ProgramIsThere, image_answer, with_output}
use Rattle.law_runs.specs.Detour.{answer_unscheduled}
use Rattle.law_runs.proofs.Completed.{order-is, host-answer, program-run}
use Rattle.law_runs.proofs.IdleFiles.{idle, file-idle, assembled-idle}
use Rattle.law_runs.proofs.SteadyFiles.{lines-steady}

-- ---- slots

shut-source : (slots : List Slot) → slots ≡ start_slots → slice_set slots 256 Closed ≡ slots
unfolding start_slots
shut-source slots h = rw h refl

shut-object : (slots : List Slot) → slots ≡ start_slots → slice_set slots 257 Closed ≡ slots
unfolding start_slots
shut-object slots h = rw h refl

-- ---- reading

still-read : (most : ℕ) (name : List ℕ) (m : HostModel) (at : ℕ) → HasStartSlots m → place_of m.files name ≡ Some at →
    file_bytes most name (still m) ≡ (Ok (take (4096 * most) (bytes_at m.files at)), still m)
still-read most name m at slots e =
    let many : length m.slots ≡ 261 = ap length slots ∙ start_slots-length in
    file-idle most m.files m.slots m name at (omega arith) e
    ∙ ap (λ ss. (Ok (take (4096 * most) (bytes_at m.files at)), idle m.files ss m)) (shut-source m.slots slots)

pub there-read : (name : Word) (most : ℕ) (text : List ℕ) (m : HostModel) → IsThere name most text m → file_bytes most name (still m) ≡ (Ok text, still m)
there-read name most text m h = still-read most name m h.place h.slots h.found ∙ ap (λ xs. (Ok xs, still m)) (sym h.bytes)

pub file-left : (most : ℕ) (name : List ℕ) (m : HostModel) (at : ℕ) → NoneFailed m (file_bytes most name m).1 → HasStartSlots m → place_of m.files name ≡ Some at →
    without_count (file_bytes most name m).1 ≡ without_count m
file-left most name m at none slots e =
    let read = plan-spared (file_plan most name) m in
    let same : still (file_bytes most name m).1 ≡ still m = ap (λ (t : Then (Result (List ℕ) Outcome)). t.1) (read.same none ∙ still-read most name m at slots e) in
    uncounted-of (file_bytes most name m).1 m same read.list

-- ---- lines that are written

-- the tool's standard output leads where it does at the start
abbrev pub Shows : HostModel → Type 0
Shows m = slot_at m 259 ≡ to_output

write-shown : (m : HostModel) (text : List ℕ) → Shows m → write_answer (still m) 259 text ≡ (Ok tt, still (with_output m text))
unfolding write_answer
write-shown m text h = ap (write_to (still m) 259 text) h

lines-ended : (lines : List (List ℕ)) (m : HostModel) → Shows m → end_of host (lines_plan lines) (still m) ≡ (Ok tt, still (with_output m (concat lines)))
lines-ended [] m h = no-lines (still m) ∙ ap (λ xs. (Ok tt, still (record m { output = xs }))) (sym (append-nil m.output))
lines-ended (line ∷ lines) m h =
    line-by line lines (still m)
    ∙ ap (λ (t : Then (Result (Unit {0}) HostFault)). end_after host (on_ok (λ u. lines_plan lines)) (then_carried t)) (write-shown m line h)
    ∙ lines-ended lines (with_output m line) h
    ∙ ap (λ xs. (Ok tt, still (record m { output = xs }))) (append_assoc m.output line (concat lines))

pub lines-still : (lines : List (List ℕ)) (m : HostModel) → Shows m → lines_put lines (still m) ≡ (true, still (with_output m (concat lines)))
unfolding lines_put
lines-still lines m h = ap was_put (lines-ended lines m h)

-- no call fails, and standard output leads where it does at the start
abbrev pub IsReady : HostModel → Type 0
IsReady m = (m.failing ≡ []) × Shows m

abbrev pub LinesWritten : List (List ℕ) → HostModel → Then Bool → Type 0
LinesWritten lines m t = (t.0 ≡ true) × (unscheduled t.1 ≡ unscheduled (with_output m (concat lines)))

pub lines-written : (lines : List (List ℕ)) (m : HostModel) → IsReady m → LinesWritten lines m (lines_put lines m)
lines-written lines m h =
    let e = (steady-of (lines-steady lines m) h.0).0 ∙ lines-still lines m h.1 in
    (ap (λ (t : Then Bool). t.0) e, ap (λ (t : Then Bool). unscheduled t.1) e)

told-done : (lines : List (List ℕ)) (status : ℕ) (m : HostModel) (t : Then Bool) → LinesWritten lines m t →
    answer_unscheduled (with_message (after_lines (Done status) t)) ≡ ends (Done status) (unscheduled (with_output m (concat lines)))
told-done lines status m (true, n) h = ap answer_unscheduled (done-said status n) ∙ ap (ends (Done status)) h.1
told-done lines status m (false, n) h = absurd (cc (h.0))

pub lines-done : (lines : List (List ℕ)) (status : ℕ) (m : HostModel) → IsReady m →
    answer_unscheduled (with_message (after_lines (Done status) (lines_put lines m))) ≡ ends (Done status) (unscheduled (with_output m (concat lines)))
lines-done lines status m h = told-done lines status m (lines_put lines m) (lines-written lines m h)

-- ---- what a run and a session leave

pub run-left : (kind : MachineKind) (steps : ℕ) (s : State) (m : HostModel) (e : End) (w : RunWorld) → m.failing ≡ [] → HasStartSlots m → run_by kind steps no_flags false s m ≡ ends e w → IsReady w.1
run-left kind steps s m e w well slots h =
    subst (λ (c : Course End RunWorld). IsReady (end_host c)) h
    ((steady-of (run-steady kind steps no_flags false s m) well).1, (streams-left kind steps no_flags false s m).output (slot_at-start_output m slots))

session-shows : (kind : MachineKind) (steps : ℕ) (s : State) (m : HostModel) → Shows m → Shows (world_of (session kind steps s no_flags m)).0.1
unfolding session
session-shows kind steps s m h = (course-keeps KeepsStreams streams-held kind (session_plan steps) ((s, m), no_flags)).output h

pub session-left : (kind : MachineKind) (steps : ℕ) (s : State) (m : HostModel) (e : SessionEnd) (w : SessionWorld) → m.failing ≡ [] → HasStartSlots m → session kind steps s no_flags m ≡ ends e w → IsReady w.0.1
session-left kind steps s m e w well slots h =
    subst (λ (c : Course SessionEnd SessionWorld). IsReady (world_of c).0.1) h
    ((steady-of (session-steady kind steps s no_flags m) well).1, session-shows kind steps s m (slot_at-start_output m slots))

-- ---- running

pub program-still : (kind : MachineKind) (words : List Word) (o : Order) (form : Form) (image : Image) (m : HostModel) → ProgramIsThere words o form image m →
    product kind words (still m) ≡ with_message (image_answer kind o (arguments words o) image (still m))
program-still kind words o form image m h =
    program-run kind words o form image (still m) (still m)
    (record { ordered = h.ordered; bytes = h.bytes; read = there-read (word_at words o.file) (most_pieces form) h.bytes m h.there; means = h.means })

-- ---- assembling

-- the host with the object in its file
abbrev pub with_object : List Word → Order → List ℕ → HostModel → HostModel
with_object words o text m = with_file m (word_at words o.rest) (source_object text).0

pub assembled-still : (kind : MachineKind) (words : List Word) (o : Order) (text : List ℕ) (m : HostModel) → IsOrdered words o Asm → IsThere (word_at words o.file) 1025 text m →
    product kind words (still m) ≡ with_message (ends (assembled_outcome (source_object text).1) (still (with_object words o text m)))
unfolding ordered_plan
assembled-still kind words o text m h there =
    let object : Word = word_at words o.rest in
    let many : length m.slots ≡ 261 = ap length there.slots ∙ start_slots-length in
    let long : 257 < length m.slots = omega arith in
    order-is kind words o Asm (still m) h
    ∙ ap with_message (host-answer kind (assemble_plan (word_at words o.file) object) (still m))
    ∙ ap (λ t. with_message (plainly t)) (assembled-idle m.files m.slots m (still m) (word_at words o.file) object text long (there-read (word_at words o.file) 1025 text m there))
    ∙ ap (λ ss. with_message (ends (assembled_outcome (source_object text).1) (idle (put_at m.files object (source_object text).0 (place_of m.files object)) ss m))) (shut-object m.slots there.slots)
