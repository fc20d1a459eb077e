-- What the page comes to that runs a file, by the bytes that were read and by their image.
use Rattle.std.proofs.Common.{◌≡◌, ℕ, List, [], Ok, Err, refl, ◌∙◌, ap}
use Rattle.std.specs.Prelude.{Result}
use Rattle.mx_host.specs.HostAnswer.{Then}
use Rattle.mx_host.specs.HostModel.{HostModel}
use Rattle.mx_plan.specs.Calls.{host}
use Rattle.mx_plan.specs.Plan.{bind, end_of, end_after}
use Rattle.mx_plan.specs.Wild.{course, ends}
use Rattle.mx_mmo.specs.Image.{Image}
use Rattle.mx_run.specs.WildRuns.{MachineKind}
use Rattle.mx_words.specs.declared.order.Order.{Order}
use Rattle.mx_files.specs.Answers.{Answer}
use Rattle.mx_files.specs.FilePlans.{on_ok}
use Rattle.mx_files.specs.Source.{file_bytes}
use Rattle.mx_outcome.specs.declared.outcome.Outcome.{Outcome}
use Rattle.mx_begin.specs.Arguments.{Word, word_at, arguments}
use Rattle.mx_begin.specs.BeginPlans.{image_plan, image_file_plan}
use Rattle.mx_begin.specs.Begun.{image_in, most_pieces, started}
use Rattle.mx_begin.specs.declared.images.Form.{Form}
use Rattle.mx_begin.proofs.Beginnings.{image-by, image-end}
use Rattle.mx_top.specs.MachineWork.{machine_plan}
use Rattle.mx_top.specs.Product.{ProgramPlan, program_goes, host_in_program, on_part, run_on, run_file, work_on, answer_of}
use Rattle.mx_top.specs.WorkClauses.{answer_by}
use Rattle.mx_top.proofs.WorkParts.{run-on}
use Rattle.mx_top.proofs.WorkPlans.{host-bind, returns-course, taking-course}
use Rattle.law_runs.specs.Complete.{image_answer}

-- an image is run where its machine starts
pub image-course : (kind : MachineKind) (o : Order) (args : List Word) (image : Image) (m : HostModel) → image_answer kind o args image m ≡ answer_of (work_on kind (machine_plan o) (started kind o.ring image args) (m, []))
image-course kind o args image m = ap answer_of (run-on kind o.ring args (machine_plan o) image (m, []))

abbrev pub image_ran : MachineKind → Order → List Word → Result Image Outcome → HostModel → Answer
image_ran kind o args (Ok image) m = image_answer kind o args image m
image_ran kind o args (Err outcome) m = ends outcome m

abbrev pub file_ran : MachineKind → Order → List Word → Form → Then (Result (List ℕ) Outcome) → Answer
file_ran kind o args form (Ok bytes, m) = image_ran kind o args (image_in form bytes) m
file_ran kind o args form (Err outcome, m) = ends outcome m

pub file-read : (kind : MachineKind) (words : List Word) (o : Order) (form : Form) (m : HostModel) →
    answer_by kind (run_file words o form) m ≡ file_ran kind o (arguments words o) form (file_bytes (most_pieces form) (word_at words o.file) m)
unfolding run_file end_of
file-read kind words o form m =
    ap answer_of (taking-course kind (bind (on_part more) (host_in_program (image_file_plan form (word_at words o.file)))) (m, []) ∙ host-bind kind (on_part more) (image_file_plan form (word_at words o.file)) (m, []))
    ∙ ap goes (image-by form (word_at words o.file) m) ∙ by (file_bytes (most_pieces form) (word_at words o.file) m)
  where
    args : List Word
    args = arguments words o

    more : Image → ProgramPlan Outcome
    more = run_on o.ring args (machine_plan o)

    goes : Then (Result Image Outcome) → Answer
    goes t = answer_of (course (program_goes kind) (on_part more t.0) (t.1, []))

    starts : (r : Result Image Outcome) (n : HostModel) → goes (r, n) ≡ image_ran kind o args r n
    starts (Ok image) n = refl
    starts (Err outcome) n = ap answer_of (returns-course kind outcome (n, []))

    by : (t : Then (Result (List ℕ) Outcome)) → goes (end_after host (on_ok (image_plan form)) t) ≡ file_ran kind o args form t
    by (Ok bytes, n) = ap goes (image-end form bytes n) ∙ starts (image_in form bytes) n
    by (Err outcome, n) = starts (Err outcome) n
