-- A run that is counted, and the run of the program.
use Rattle.std.proofs.Common.{◌≡◌, ℕ, true, false, List, [], Result, Ok, Err, Some, ◌++◌, refl, sym, ap, ◌∙◌}
use Rattle.std.specs.Prelude.{◌==◌}
use Rattle.mx_word.specs.declared.symbols.Symbol.{Symbol}
use Rattle.mx_host.specs.HostModel.{HostModel}
use Rattle.mx_host.specs.HostAnswer.{Then}
use Rattle.mx_plan.specs.Calls.{host}
use Rattle.mx_plan.specs.Plan.{end_of}
use Rattle.mx_plan.specs.Wild.{Course, ends, meets_wild}
use Rattle.mx_mmo.specs.Image.{Image}
use Rattle.mx_load.specs.Objects.{object_loaded}
use Rattle.mx_core.specs.State.{State}
use Rattle.mx_code.specs.declared.trace.Trace.{Trace}
use Rattle.mx_run.specs.RunPlans.{RunWorld}
use Rattle.mx_run.specs.Runs.{Ended, ended, no_flags}
use Rattle.mx_run.specs.WildRuns.{MachineKind, window_machine, list_machine, run_ended, run_by}
use Rattle.mx_run.specs.declared.end.End.{End}
use Rattle.mx_run.proofs.BothMachines.{window-ends}
use Rattle.mx_watch.specs.Traces.{traces}
use Rattle.mx_words.specs.declared.order.Command.{Command}
use Rattle.mx_words.specs.declared.order.Command.TheVariants.{Run, Sim}
use Rattle.mx_words.specs.declared.order.Order.{Order}
use Rattle.mx_files.specs.Source.{file_bytes, object_pieces, source_pieces}
use Rattle.mx_outcome.specs.declared.outcome.Outcome.{Outcome}
use Rattle.mx_begin.specs.Arguments.{Word, word_at, arguments}
use Rattle.mx_begin.specs.BeginPlans.{begin_plan}
use Rattle.mx_begin.specs.Begun.{assembled, image_in, loaded, started}
use Rattle.mx_begin.proofs.Beginnings.{begins}
use Rattle.mx_begin.specs.declared.images.Form.TheVariants.{Object, Source}
use Rattle.mx_top.specs.Endings.{dumped_plan}
use Rattle.mx_top.specs.MachineWork.{machine_plan}
use Rattle.mx_top.specs.Product.{ordered_plan, work_plan, work_on, answer_of, told_of, product, product_traces}
use Rattle.mx_begin.specs.Ends.{outcome_of}
use Rattle.mx_top.specs.Telling.{with_message}
use Rattle.mx_top.specs.WorkClauses.{answer_by as answer_by_kind, told_by, work_by}
use Rattle.mx_top.proofs.Spoken.{traces-of}
use Rattle.mx_top.proofs.WorkParts.{begun_by, file-course}
use Rattle.mx_count.specs.Runs.{AnswerForms, CountAnswer, RunCounts, by_counts, by_lines, by_text, counted_run_from, counted_to, halting_after, halting_steps, image_counted, mapped, meaning_counted, ran, run_outcome, start_counted}
use Rattle.mx_count.specs.Sheets.{sheet_of}
use Rattle.mx_count.specs.declared.count.Counted.{Counted}
use Rattle.mx_count.specs.declared.lines.CountedLines.{CountedLines}
use Rattle.mx_object.specs.Addresses.{addresses_of, items_in}
use Rattle.mx_object.specs.Listing.{tetras_at}
use Rattle.mx_object.specs.Runs.{by_run, loaded_with, object_in}
use Rattle.mx_object.specs.declared.counted.CountedObject.{CountedObject}
use Rattle.mx_object.specs.declared.tetras.ListedTetra.{ListedTetra}
use Rattle.law_runs.specs.Counted.{RunsPlainly, StartsWith, answer_by, object_file, object_read, source_file, source_read}
use Rattle.law_runs.proofs.Completed.{order-is}
use Rattle.law_runs.proofs.MachineAnswers.{run_answer, forward-answer, heard_of, machine-heard}
use Rattle.law_runs.proofs.ReadRuns.{image_ran, file_ran, file-read, image-course}

-- ---- a run

ran-same : (kind : MachineKind) (n : ℕ) (s : State) (m : HostModel) → run_by kind n no_flags false s m ≡ ran kind n s m
ran-same window_machine n s m = window-ends n no_flags false s m
ran-same list_machine n s m = refl

-- what is made of an outcome has it
record HasOutcome {A : Type 0} (outcome_in : A → Outcome) (making : AnswerForms A) : Type 0 where
  without : (outcome : Outcome) → outcome_in (making.without outcome) ≡ outcome
  with_steps : (outcome : Outcome) (h : List Trace) → outcome_in (making.with_steps outcome h) ≡ outcome

module _ {A : Type 0} (outcome_in : A → Outcome) (making : AnswerForms A) (has : HasOutcome outcome_in making) where
  -- what follows a run where there is no dump
  ended-same : (steps : ℕ) (h : List Trace) (c : Course End RunWorld) → run_answer steps (dumped_plan false) c ≡ answer_by outcome_in (counted_to steps making h c)
  unfolding dumped_plan end_of
  ended-same steps h (ends e w) = ap (λ outcome. ends outcome w.1) (sym (has.with_steps (outcome_of steps e) (h ++ halting_steps e w.0.pc)))
  ended-same steps h (meets_wild w) = refl

  module _ (kind : MachineKind) (words : List Word) (o : Order) (command : Command) (plain : RunsPlainly words o command) where
    machine-same : (s : State) (m : HostModel) → answer_of (work_by kind (machine_plan o) s m) ≡ answer_by outcome_in (counted_run_from kind o.steps making s m)
    machine-same s m =
        forward-answer kind o s m plain.interactive plain.last
        ∙ ap (λ b. run_answer o.steps (dumped_plan b) (run_by kind o.steps no_flags false s m)) plain.dump
        ∙ ended-same o.steps (traces kind o.steps s m) (run_by kind o.steps no_flags false s m)
        ∙ ap (λ (x : Course End RunWorld). answer_by outcome_in (counted_to o.steps making (traces kind o.steps s m) x)) (ran-same kind o.steps s m)

    start-same : (r : Result State Outcome) (m : HostModel) → answer_of (work_on kind (machine_plan o) r (m, [])) ≡ answer_by outcome_in (start_counted kind o.steps making r m)
    start-same (Err outcome) m = ap (λ x. ends x m) (sym (has.without outcome))
    start-same (Ok s) m = machine-same s m

    image-same : (image : Image) (m : HostModel) →
        image_ran kind o (arguments words o) (Ok image) m ≡ answer_by outcome_in (image_counted kind o (arguments words o) making image m)
    image-same image m = image-course kind o (arguments words o) image m ∙ start-same (started kind o.ring image (arguments words o)) m

    meaning-same : (r : Result Image Outcome) (m : HostModel) →
        image_ran kind o (arguments words o) r m ≡ answer_by outcome_in (meaning_counted kind o (arguments words o) making r m)
    meaning-same (Err outcome) m = ap (λ x. ends x m) (sym (has.without outcome))
    meaning-same (Ok image) m = image-same image m

-- ---- what begins it

order-run : (kind : MachineKind) (words : List Word) (o : Order) (command : Command) (m : HostModel) → RunsPlainly words o command →
    product kind words m ≡ with_message (answer_by_kind kind (ordered_plan words o command) m)
order-run kind words o command m h = order-is kind words o command m (record { order = h.order; command = h.command_is })

source-same : {A : Type 0} (outcome_in : A → Outcome) (making : List ℕ → AnswerForms A) → ((source : List ℕ) → HasOutcome outcome_in (making source)) →
    (kind : MachineKind) (words : List Word) (o : Order) (t : Then (Result (List ℕ) Outcome)) → RunsPlainly words o Run →
    file_ran kind o (arguments words o) Source t ≡ answer_by outcome_in (source_read kind o (arguments words o) making t)
source-same outcome_in making has kind words o (Err outcome, m) h = ap (λ x. ends x m) (sym ((has []).without outcome))
source-same outcome_in making has kind words o (Ok source, m) h = meaning-same outcome_in (making source) (has source) kind words o Run h (image_in Source source) m

text-has : (source : List ℕ) → HasOutcome (λ (c : Counted). c.outcome) (by_text source)
text-has source = record { without = λ outcome. refl; with_steps = λ outcome h. refl }

lines-have : (source : List ℕ) → HasOutcome (λ (c : CountedLines). c.outcome) (by_lines source)
lines-have source = record { without = λ outcome. refl; with_steps = λ outcome h. refl }

pub answers-text : (kind : MachineKind) (words : List Word) (o : Order) (m : HostModel) → RunsPlainly words o Run →
    product kind words m ≡ with_message (answer_by (λ (c : Counted). c.outcome) (source_file kind words o by_text m))
unfolding ordered_plan
answers-text kind words o m h =
    order-run kind words o Run m h
    ∙ ap with_message (file-read kind words o Source m ∙ source-same (λ (c : Counted). c.outcome) by_text text-has kind words o (file_bytes source_pieces (word_at words o.file) m) h)

pub answers-data : (kind : MachineKind) (words : List Word) (o : Order) (m : HostModel) → RunsPlainly words o Run →
    product kind words m ≡ with_message (answer_by (λ (c : CountedLines). c.outcome) (source_file kind words o by_lines m))
unfolding ordered_plan
answers-data kind words o m h =
    order-run kind words o Run m h
    ∙ ap with_message (file-read kind words o Source m ∙ source-same (λ (c : CountedLines). c.outcome) by_lines lines-have kind words o (file_bytes source_pieces (word_at words o.file) m) h)

-- ---- an object

counts-have : HasOutcome (λ (r : RunCounts). run_outcome r) by_counts
counts-have = record { without = λ outcome. refl; with_steps = λ outcome h. refl }

object-outcome : (tetras : List ListedTetra) (r : RunCounts) → run_outcome r ≡ (object_in tetras r).outcome
object-outcome tetras (Ok (outcome, counts)) = refl
object-outcome tetras (Err outcome) = refl

mapped-same : (tetras : List ListedTetra) (x : CountAnswer RunCounts) → answer_by (λ (r : RunCounts). run_outcome r) x ≡ answer_by (λ (c : CountedObject). c.outcome) (mapped (object_in tetras) x)
mapped-same tetras (ends r m) = ap (λ outcome. ends outcome m) (object-outcome tetras r)
mapped-same tetras (meets_wild m) = refl

loaded-same : (kind : MachineKind) (words : List Word) (o : Order) (bytes : List ℕ) (r : Result (Image × List Symbol) (ℕ × ℕ)) (m : HostModel) → RunsPlainly words o Sim →
    image_ran kind o (arguments words o) (loaded r) m ≡ answer_by (λ (c : CountedObject). c.outcome) (loaded_with by_run kind o (arguments words o) bytes r m)
loaded-same kind words o bytes (Err (place, fault)) m h = refl
loaded-same kind words o bytes (Ok (image, symbols)) m h =
    let tetras : List ListedTetra = tetras_at image symbols (addresses_of (items_in bytes)) in
    image-same (λ (r : RunCounts). run_outcome r) by_counts counts-have kind words o Sim h image m
    ∙ mapped-same tetras (image_counted kind o (arguments words o) by_counts image m)

object-same : (kind : MachineKind) (words : List Word) (o : Order) (t : Then (Result (List ℕ) Outcome)) → RunsPlainly words o Sim →
    file_ran kind o (arguments words o) Object t ≡ answer_by (λ (c : CountedObject). c.outcome) (object_read kind o (arguments words o) t)
object-same kind words o (Err outcome, m) h = refl
object-same kind words o (Ok bytes, m) h = loaded-same kind words o bytes (object_loaded bytes) m h

pub answers-object : (kind : MachineKind) (words : List Word) (o : Order) (m : HostModel) → RunsPlainly words o Sim →
    product kind words m ≡ with_message (answer_by (λ (c : CountedObject). c.outcome) (object_file kind words o m))
unfolding ordered_plan
answers-object kind words o m h = order-run kind words o Sim m h ∙ ap with_message (file-read kind words o Object m ∙ object-same kind words o (file_bytes object_pieces (word_at words o.file) m) h)

-- ---- the sheet

module _ (kind : MachineKind) (words : List Word) (o : Order) (source : List ℕ) (s : State) (m begun : HostModel) (starts : StartsWith kind words o source s m begun) where
  -- what a machine of this source comes to
  counted-is : source_file kind words o by_text m ≡ counted_run_from kind o.steps (by_text source) s begun
  counted-is =
      ap (source_read kind o (arguments words o) by_text) starts.read
      ∙ ap (λ r. meaning_counted kind o (arguments words o) (by_text source) (assembled r) begun) starts.means
      ∙ ap (λ r. start_counted kind o.steps (by_text source) r begun) starts.starts

  -- the traces that watchers are told
  begun-is : end_of host (begin_plan kind words o Source) m ≡ (Ok s, begun)
  begun-is = begins kind words o Source source starts.image m begun starts.read (ap assembled starts.means) ∙ ap (λ (r : Result State Outcome). (r, begun)) starts.starts

  module _ (plain : RunsPlainly words o Run) (reports : o.report ≡ true) where
    run-heard : told_by kind (ordered_plan words o Run) m ≡ traces kind o.steps s begun
    unfolding ordered_plan
    run-heard =
        ap told_of (file-course kind words o Source m ∙ ap (begun_by kind (machine_plan o)) begun-is)
        ∙ machine-heard kind o s begun
        ∙ ap (λ b. heard_of kind o.steps s begun b (o.last == 0) o.report) plain.interactive
        ∙ ap (λ n. heard_of kind o.steps s begun false (n == 0) o.report) plain.last
        ∙ ap (heard_of kind o.steps s begun false true) reports

    traces-are : product_traces kind words m ≡ traces kind o.steps s begun
    traces-are =
        traces-of kind words m
        ∙ ap (λ r. told_by kind (work_plan words r) m) plain.order
        ∙ ap (λ (c : Command). told_by kind (ordered_plan words o c) m) plain.command_is
        ∙ run-heard

    sheet-with : (e : Ended) → ran kind o.steps s begun ≡ run_ended e → source_file kind words o by_text m
        ≡ ends (record { outcome = outcome_of o.steps e.end; sheet = Some (sheet_of source (product_traces kind words m ++ halting_after e)) }) e.host
    sheet-with e ended =
        counted-is
        ∙ ap (λ r. counted_to o.steps (by_text source) (traces kind o.steps s begun) r) ended
        ∙ ap (λ h. ends (record { outcome = outcome_of o.steps e.end; sheet = Some (sheet_of source (h ++ halting_after e)) }) e.host) (sym traces-are)

pub sheet-is : (kind : MachineKind) (words : List Word) (o : Order) (source : List ℕ) (s : State) (m begun : HostModel) (e : Ended) → RunsPlainly words o Run → o.report ≡ true →
    StartsWith kind words o source s m begun → ran kind o.steps s begun ≡ run_ended e → source_file kind words o by_text m
    ≡ ends (record { outcome = outcome_of o.steps e.end; sheet = Some (sheet_of source (product_traces kind words m ++ halting_after e)) }) e.host
sheet-is kind words o source s m begun e plain reports starts ended = sheet-with kind words o source s m begun starts plain reports e ended
