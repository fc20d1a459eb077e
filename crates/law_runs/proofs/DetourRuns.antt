-- An object runs as the source that it was assembled from.
use Rattle.std.proofs.Common.{◌≡◌, ℕ, ◌+◌, ◌*◌, ◌^◌, ◌<◌, ◌≤◌, Bool, true, false, cond, List, [], ◌∷◌, ◌++◌, length, length-append, append_assoc, take, drop, Some, None, Ok, Err, refl, sym, ◌∙◌, ap, subst, arith}
use Rattle.std.specs.Prelude.{Option, Result, slice_set, codes}
use Rattle.std.specs.Str.{bytes_eq}
use Rattle.std.proofs.Math.Seq.{get_or-append_seam}
use Rattle.std.proofs.lemmas.Cmp.{nat_list_eq_equiv}
use Rattle.std.proofs.lemmas.List.{length-set, take_all, drop_at}
use Rattle.std.proofs.lemmas.Option.{unwrap_or-slice_get}
use Rattle.mx_host.specs.declared.files.StoredFile.{StoredFile}
use Rattle.mx_host.specs.declared.slots.Slot.{Slot}
use Rattle.mx_host.specs.declared.slots.Slot.TheVariants.{Closed}
use Rattle.mx_host.specs.HostModel.{HostModel, place_of}
use Rattle.mx_host.specs.HostAnswer.{Then, bytes_at, put_at}
use Rattle.mx_host.proofs.Still.{still}
use Rattle.mx_host.proofs.NamedFiles.{home, lies, at-home, place-home, place-other, bytes-other}
use Rattle.mx_mmo.specs.Image.{Image}
use Rattle.mx_load.specs.Objects.{object_loaded}
use Rattle.mx_plan.specs.Calls.{HostCall, HostSays, host}
use Rattle.mx_plan.specs.Counts.{NoneFailed}
use Rattle.mx_plan.specs.Plan.{end_of}
use Rattle.mx_plan.specs.Wild.{Course, ends, meets_wild, course}
use Rattle.mx_plan.proofs.Spared.{plan-spared, sooner}
use Rattle.mx_plan.proofs.WildLaws.{Answers, course_gives}
use Rattle.mx_start.specs.Start.{start}
use Rattle.mx_core.specs.State.{State}
use Rattle.mx_run.specs.RunPlans.{RunWorld}
use Rattle.mx_run.specs.Runs.{no_flags}
use Rattle.mx_run.specs.WildRuns.{MachineKind, run_by}
use Rattle.mx_run.specs.declared.end.End.{End}
use Rattle.mx_run.specs.declared.end.End.TheVariants as ending
use Rattle.mx_back.specs.History.{states_kept}
use Rattle.mx_back.specs.KeptRuns.{turns_of}
use Rattle.mx_con.specs.Session.{session}
use Rattle.mx_con.specs.SessionPlans.{SessionWorld}
use Rattle.mx_con.specs.declared.end.SessionEnd.{SessionEnd}
use Rattle.mx_con.specs.declared.end.SessionEnd.TheVariants as sitting
use Rattle.mx_watch.specs.Traces.{traces}
use Rattle.mx_words.specs.Orders.{order_of, options_from, asm_order, defaults}
use Rattle.mx_words.specs.Values.{is_option}
use Rattle.mx_words.specs.declared.order.Command.TheVariants.{Run, Sim}
use Rattle.mx_words.specs.declared.order.Order.{Order}
use Rattle.mx_words.specs.declared.order.WordsFault.{WordsFault}
use Rattle.mx_files.specs.Answers.{Answer, plainly}
use Rattle.mx_begin.specs.Arguments.{Word, word_at, arguments, program_name}
use Rattle.law_runs.specs.Detour.{host_of, answer_uncounted, HasOutcome, asm_words, run_words, sim_words, AreOrdered, IsAssembled}
use Rattle.law_runs.proofs.DetourImages.{source-loads, source-short, accepted-run, assembled-none, pages-refused}
use Rattle.mx_word.specs.Ranges.{AreBytes}
use Rattle.mx_asm.specs.Entries.{statements_in, source_entries}
use Rattle.mx_asm.specs.Image.{image as image_of}
use Rattle.mx_asm.specs.Pages.{RunRefusal, run_refusal}
use Rattle.mx_asm.specs.Refusal.{refusal}
use Rattle.mx_files.specs.Sources.{meaning_unless, source_meaning}
use Rattle.mx_files.specs.FilePlans.{file_plan}
use Rattle.mx_files.specs.ObjectPlans.{assemble_plan}
use Rattle.mx_files.specs.Objects.{source_object}
use Rattle.mx_files.specs.Assembling.{assembled_outcome}
use Rattle.mx_files.proofs.FileEnds.{assembled-later}
use Rattle.mx_top.specs.MachineWork.{Work, WorkCall, of_host, stepping, reporting, keeping, sitting as sitting_call, work_goes, machine_plan, back_plan}
use Rattle.mx_top.specs.Product.{ordered_plan, work_plan, work_on, worked, at_start, answer_of, product}
use Rattle.mx_begin.specs.Ends.{outcome_of}
use Rattle.mx_top.specs.Runs as runs
use Rattle.mx_top.specs.Telling.{message_plan, with_message}
use Rattle.mx_top.specs.WorkClauses.{answer_by}
use Rattle.mx_top.proofs.Spoken.{product-is-said}
use Rattle.mx_top.proofs.Told.{message-said, done-said}
use Rattle.mx_top.proofs.WorkPlans.{returns-course}
use Rattle.mx_begin.specs.Begun.{assembled, loaded, main_address, begun_at, stack_at_start}
use Rattle.mx_begin.specs.declared.images.Form.TheVariants.{Source, Object}
use Rattle.mx_files.specs.Source.{file_bytes}
use Rattle.mx_outcome.specs.declared.outcome.Outcome.{Outcome}
use Rattle.mx_outcome.specs.declared.outcome.Outcome.TheVariants.{Done, Usage, NoFile, Refused, BadObject}
use Rattle.law_runs.proofs.IdleFiles.{idle, file-idle, file-absent, assembled-idle}
use Rattle.law_runs.proofs.SteadyProduct.{answer_still, product-steady, answers-same}
use Rattle.law_runs.specs.Complete.{image_answer}
use Rattle.law_runs.proofs.Completed.{host-answer}
use Rattle.law_runs.proofs.GivenOutcomes.{WorkMay, machine-gives, ran-gives, sat-gives}
use Rattle.law_runs.proofs.ReadRuns.{image_ran, file_ran, file-read, image-course}

-- ---- words

word-after : (front : List Word) (word : Word) (back : List Word) → word_at (front ++ word ∷ back) (length front) ≡ word
word-after front word back = unwrap_or-slice_get (front ++ word ∷ back) (length front) [] ∙ get_or-append_seam front word back []

file-after : (command : Word) (options : List Word) (file : Word) (rest : List Word) (place : ℕ) → place ≡ length options + 1 → word_at (command ∷ options ++ file ∷ rest) place ≡ file
file-after command options file rest place e =
    let size : place ≡ length (command ∷ options) = omega (arith, e) in
    ap (word_at (command ∷ options ++ file ∷ rest)) size ∙ word-after (command ∷ options) file rest

rest-after : (command : Word) (options : List Word) (file : Word) (rest : List Word) (place : ℕ) → place ≡ length options + 2 → drop place (command ∷ options ++ file ∷ rest) ≡ rest
rest-after command options file rest place e =
    let front : List Word = (command ∷ options) ++ file ∷ [] in
    let size : place ≡ length front = omega (arith, e, length-append (command ∷ options) (file ∷ [])) in
    ap (drop place) (sym (append_assoc (command ∷ options) (file ∷ []) rest)) ∙ ap (λ n. drop n (front ++ rest)) size ∙ drop_at front rest (length front) refl

-- what the order to run, and that to run an object, come to
run-is : (kind : MachineKind) (options : List Word) (source : Word) (rest : List Word) (o : Order) (m : HostModel) → order_of (run_words options source rest) ≡ Ok (record o { command = Run }) →
    o.file ≡ length options + 1 → o.rest ≡ length options + 2 →
    product kind (run_words options source rest) m ≡ with_message (file_ran kind (record o { command = Run }) (program_name source ∷ rest) Source (file_bytes 1025 source m))
unfolding ordered_plan
run-is kind options source rest o m e f r =
    let words : List Word = run_words options source rest in
    let order : Order = record o { command = Run } in
    product-is-said kind words m
    ∙ ap (λ t. with_message (answer_by kind (work_plan words t) m)) e
    ∙ ap with_message (file-read kind words order Source m)
    ∙ ap (λ (w : Word). with_message (file_ran kind order (program_name w ∷ drop o.rest words) Source (file_bytes 1025 w m))) (file-after (codes "run") options source rest o.file f)
    ∙ ap (λ (ws : List Word). with_message (file_ran kind order (program_name source ∷ ws) Source (file_bytes 1025 source m))) (rest-after (codes "run") options source rest o.rest r)

sim-is : (kind : MachineKind) (options : List Word) (object : Word) (rest : List Word) (o : Order) (m : HostModel) → order_of (sim_words options object rest) ≡ Ok (record o { command = Sim }) →
    o.file ≡ length options + 1 → o.rest ≡ length options + 2 →
    product kind (sim_words options object rest) m ≡ with_message (file_ran kind (record o { command = Sim }) (program_name object ∷ rest) Object (file_bytes 16385 object m))
unfolding ordered_plan
sim-is kind options object rest o m e f r =
    let words : List Word = sim_words options object rest in
    let order : Order = record o { command = Sim } in
    product-is-said kind words m
    ∙ ap (λ t. with_message (answer_by kind (work_plan words t) m)) e
    ∙ ap with_message (file-read kind words order Object m)
    ∙ ap (λ (w : Word). with_message (file_ran kind order (program_name w ∷ drop o.rest words) Object (file_bytes 16385 w m))) (file-after (codes "sim") options object rest o.file f)
    ∙ ap (λ (ws : List Word). with_message (file_ran kind order (program_name object ∷ ws) Object (file_bytes 16385 object m))) (rest-after (codes "sim") options object rest o.rest r)

-- ---- messages

done-told : (outcome : Outcome) (n a : HostModel) → with_message (ends outcome n) ≡ ends (Done 0) a → outcome ≡ Done 0
done-told outcome n a e = let said : ends outcome (end_of host (message_plan outcome) n).1 ≡ ends (Done 0) a = sym (message-said outcome n) ∙ e in cc

done-model : (outcome : Outcome) (n a : HostModel) → outcome ≡ Done 0 → with_message (ends outcome n) ≡ ends (Done 0) a → n ≡ a
done-model outcome n a is e =
    let told : ends (Done 0) n ≡ ends (Done 0) a = sym (done-said 0 n) ∙ subst (λ o. with_message (ends o n) ≡ ends (Done 0) a) is e in
    cc

-- an order that is done tells nothing
done-plain : (t : Then Outcome) (a : HostModel) → with_message (plainly t) ≡ ends (Done 0) a → t ≡ (Done 0, a)
done-plain (outcome, n) a e =
    let done : outcome ≡ Done 0 = done-told outcome n a e in
    let model : n ≡ a = done-model outcome n a done e in
    ap (λ o. (o, n)) done ∙ ap (λ m. (Done 0, m)) model

-- an order to assemble that is done names two files
asm-with : (kind : MachineKind) (source object : Word) (fault : WordsFault) (n a : HostModel) (b : Bool) →
    with_message (answer_by kind (work_plan (asm_words source object) (cond b (Err fault) (Ok (asm_order defaults 1)))) n) ≡ ends (Done 0) a →
    end_of host (assemble_plan source object) n ≡ (Done 0, a)
unfolding ordered_plan
asm-with kind source object fault n a true e =
    absurd (let no : Usage fault ≡ Done 0 = done-told (Usage fault) n a (ap (λ c. with_message (answer_of c)) (sym (returns-course kind (Usage fault) (n, []))) ∙ e) in cc)
asm-with kind source object fault n a false e = done-plain (end_of host (assemble_plan source object) n) a (ap with_message (sym (host-answer kind (assemble_plan source object) n)) ∙ e)

asm-done : (kind : MachineKind) (source object : Word) (n a : HostModel) → product kind (asm_words source object) n ≡ ends (Done 0) a → end_of host (assemble_plan source object) n ≡ (Done 0, a)
unfolding options_from
asm-done kind source object n a e = asm-with kind source object (record { kind = 3; word = 1 }) n a (is_option source) (sym (product-is-said kind (asm_words source object) n) ∙ e)

-- ---- assembling

-- the text of a source that is at a place, as far as it is read
abbrev text_at : List StoredFile → ℕ → List ℕ
text_at files at = take (4096 * 1025) (bytes_at files at)

-- what is known once a source was assembled: where it is, its text, and the model that is left
record Accepted (files : List StoredFile) (slots : List Slot) (m : HostModel) (source object : Word) (text : List ℕ) (a : HostModel) : Type 0 where
  at : ℕ
  there : place_of files source ≡ Some at
  read : text_at files at ≡ text
  accepted : assembled_outcome (source_object text).1 ≡ Done 0
  left : a ≡ idle (put_at files object (source_object text).0 (place_of files object)) (slice_set (slice_set slots 256 Closed) 257 Closed) m

reading-left : (files : List StoredFile) (slots : List Slot) (m : HostModel) (source object : Word) (text : List ℕ) (a : HostModel) (p : Option ℕ) → 257 < length slots → place_of files source ≡ p →
    (file_bytes 1025 source (idle files slots m)).0 ≡ Ok text →
    end_of host (assemble_plan source object) (idle files slots m) ≡ (Done 0, a) → Accepted files slots m source object text a
reading-left files slots m source object text a None h e read done =
    let absent = ap (λ (t : Then (Result (List ℕ) Outcome)). t.0) (file-absent 1025 files slots m source e) in
    absurd (let no : ◌≡◌ {A = Result (List ℕ) Outcome} (Err NoFile) (Ok text) = sym absent ∙ read in cc)
reading-left files slots m source object text a (Some at) h e read done =
    let after : List Slot = slice_set slots 256 Closed in
    let long : 257 < length after = rw (length-set slots 256 Closed) h in
    let fewer : 256 < length slots = omega arith in
    let file = file-idle 1025 files slots m source at fewer e in
    let same : ◌≡◌ {A = Result (List ℕ) Outcome} (Ok (text_at files at)) (Ok text) = sym (ap (λ (t : Then (Result (List ℕ) Outcome)). t.0) file) ∙ read in
    let is : text_at files at ≡ text = cc in
    let put = assembled-idle files after m (idle files slots m) source object text long (file ∙ ap (λ xs. (Ok xs, idle files after m)) is) in
    record { at = at; there = e; read = is; accepted = ap (λ (t : Then Outcome). t.0) (sym put ∙ done); left = ap (λ (t : Then Outcome). t.1) (sym done ∙ put) }

-- ---- running

-- which of the two commands runs an image shows in nothing
same-order : (kind : MachineKind) (o : Order) (args : List Word) (image : Image) (m : HostModel) →
    image_answer kind (record o { command = Run }) args image m ≡ image_answer kind (record o { command = Sim }) args image m
unfolding machine_plan back_plan
same-order kind o args image m = refl

module _ (files : List StoredFile) (slots : List Slot) (m : HostModel) (source object : Word) (text : List ℕ) (a : HostModel) (h : 256 < length slots) (known : Accepted files slots m source object text a) where
  abbrev bytes : List ℕ
  bytes = (source_object text).0

  abbrev place : Option ℕ
  place = place_of files object

  abbrev others : List StoredFile
  others = put_at files object bytes place

  abbrev last : List Slot
  last = slice_set (slice_set slots 256 Closed) 257 Closed

  abbrev following : HostModel
  following = idle others (slice_set last 256 Closed) m

  long : 256 < length last
  long = rw (length-set (slice_set slots 256 Closed) 257 Closed, length-set slots 256 Closed) h

  -- the source is read as before
  source-left : (kind : MachineKind) (o : Order) (args : List Word) → bytes_eq source object ≡ false →
      file_ran kind o args Source (file_bytes 1025 source a) ≡ image_ran kind o args (assembled (source_meaning text)) following
  source-left kind o args apart =
      let differ : bytes_eq object source ≡ false = nat_list_eq_equiv.symm object source ∙ apart in
      let same : bytes_at others known.at ≡ bytes_at files known.at = bytes-other files object bytes source known.at place differ known.there refl in
      let there : place_of others source ≡ Some known.at = place-other files object bytes source place differ (lies files object) ∙ known.there in
      ap (λ n. file_ran kind o args Source (file_bytes 1025 source n)) known.left
      ∙ ap (file_ran kind o args Source) (file-idle 1025 others last m source known.at long there)
      ∙ ap (λ xs. image_ran kind o args (assembled (source_meaning xs)) following) (ap (take (4096 * 1025)) same ∙ known.read)

  -- and the object as it was written
  object-left : (kind : MachineKind) (o : Order) (args : List Word) → length bytes ≤ 2 ^ 26 →
      file_ran kind o args Object (file_bytes 16385 object a) ≡ image_ran kind o args (loaded (object_loaded bytes)) following
  object-left kind o args short =
      let held : bytes_at others (home files place) ≡ bytes = at-home files object bytes place (lies files object) in
      ap (λ n. file_ran kind o args Object (file_bytes 16385 object n)) known.left
      ∙ ap (file_ran kind o args Object) (file-idle 16385 others last m object (home files place) long (place-home files object bytes place refl (lies files object)))
      ∙ ap (λ xs. image_ran kind o args (loaded (object_loaded xs)) following) (ap (take (4096 * 16385)) held ∙ take_all (4096 * 16385) bytes (omega arith))

  -- both files are read, and then the same image is run
  runs-left : (kind : MachineKind) (o : Order) (rest : List Word) → bytes_eq source object ≡ false → program_name source ≡ program_name object → (image : Image) → AreBytes text → source_meaning text ≡ Ok image →
      file_ran kind (record o { command = Run }) (program_name source ∷ rest) Source (file_bytes 1025 source a)
      ≡ file_ran kind (record o { command = Sim }) (program_name object ∷ rest) Object (file_bytes 16385 object a)
  runs-left kind o rest apart alike image each means =
      source-left kind (record o { command = Run }) (program_name source ∷ rest) apart
      ∙ ap (λ r. image_ran kind (record o { command = Run }) (program_name source ∷ rest) (assembled r) following) means
      ∙ ap (λ (w : Word). image_answer kind (record o { command = Run }) (w ∷ rest) image following) alike
      ∙ same-order kind o (program_name object ∷ rest) image following
      ∙ ap (λ r. image_ran kind (record o { command = Sim }) (program_name object ∷ rest) (loaded r) following) (sym (source-loads text image each means))
      ∙ sym (object-left kind (record o { command = Sim }) (program_name object ∷ rest) (source-short text each (accepted-run text image means)))

-- no call that reads the source fails, where none that assembles it does
read-well : (kind : MachineKind) (source object : Word) (text : List ℕ) (m after : HostModel) → IsAssembled kind source object text m after → NoneFailed m (file_bytes 1025 source m).1
read-well kind source object text m after a =
    sooner m (file_bytes 1025 source m).1 after
    (subst (λ (t : Then Outcome). (file_bytes 1025 source m).1.calls ≤ t.1.calls) (asm-done kind source object m after a.done) (assembled-later source object m)) a.well

-- the model that is left, with no call that fails, as the still model leaves it
known-of : (kind : MachineKind) (source object : Word) (text : List ℕ) (m after : HostModel) → IsAssembled kind source object text m after → 257 < length m.slots →
    Accepted m.files m.slots m source object text (still after)
known-of kind source object text m after a h =
    let well : NoneFailed m (host_of (product kind (asm_words source object) m)) = subst (λ (t : Answer). NoneFailed m (host_of t)) (sym a.done) a.well in
    let asm = (product-steady kind (asm_words source object) m).same well in
    let done : product kind (asm_words source object) (still m) ≡ ends (Done 0) (still after) = sym asm ∙ ap answer_still a.done in
    let file = (plan-spared (file_plan 1025 source) m).same (read-well kind source object text m after a) in
    let read : (file_bytes 1025 source (still m)).0 ≡ Ok text = ap (λ (t : Then (Result (List ℕ) Outcome)). t.0) (sym file) ∙ a.read in
    reading-left m.files m.slots m source object text (still after) (place_of m.files source) h refl read (asm-done kind source object (still m) (still after) done)

pub detour-is : (kind : MachineKind) (options : List Word) (source object : Word) (arguments : List Word) (text : List ℕ) (m after : HostModel) →
    AreOrdered options source object arguments → IsAssembled kind source object text m after → (image : Image) → source_meaning text ≡ Ok image →
    NoneFailed after (host_of (product kind (sim_words options object arguments) after)) → NoneFailed after (host_of (product kind (run_words options source arguments) after)) →
    answer_uncounted (product kind (sim_words options object arguments) after) ≡ answer_uncounted (product kind (run_words options source arguments) after)
detour-is kind options source object arguments text m after words a image means simulated runs =
    let many : length m.slots ≡ 261 = a.many in
    let known = known-of kind source object text m after a (omega arith) in
    let run = product-steady kind (run_words options source arguments) after in
    let sim = product-steady kind (sim_words options object arguments) after in
    let alike = runs-left m.files m.slots m source object text (still after) (omega arith) known kind words.order arguments a.apart a.alike image a.bytes means in
    let still-alike : product kind (sim_words options object arguments) (still after) ≡ product kind (run_words options source arguments) (still after) =
    sim-is kind options object arguments words.order (still after) words.sim words.file words.rest ∙ ap with_message (sym alike) ∙ sym (run-is kind options source arguments words.order (still after) words.run words.file words.rest) in
    answers-same (product kind (sim_words options object arguments) after) (product kind (run_words options source arguments) after)
    (sim.same simulated ∙ still-alike ∙ sym (run.same runs)) (sim.list ∙ sym run.list)

-- ---- what `run` refuses

-- an image that is run is no refusal of a source
abbrev is_refusal : Outcome → Bool
is_refusal (Refused line fault from) = true
is_refusal outcome = false

abbrev IsUnrefused : Answer → Type 0
IsUnrefused (ends outcome m) = is_refusal outcome ≡ false
IsUnrefused (meets_wild m) = Unit {0}

-- no run does, and no session
run-unrefused : (steps : ℕ) (e : End) → is_refusal (outcome_of steps e) ≡ false
run-unrefused steps (ending.Halted status) = refl
run-unrefused steps (ending.Stopped pc reason) = refl
run-unrefused steps (ending.Broke kind at traced) = refl
run-unrefused steps (ending.Traced trace) = refl
run-unrefused steps ending.Spent = refl
run-unrefused steps ending.OutOfMemory = refl

session-unrefused : (steps : ℕ) (e : SessionEnd) → is_refusal (runs.session_outcome steps e) ≡ false
session-unrefused steps (sitting.Halted status) = refl
session-unrefused steps (sitting.Stopped pc reason) = refl
session-unrefused steps sitting.Spent = refl
session-unrefused steps sitting.Quit = refl
session-unrefused steps sitting.Limit = refl
session-unrefused steps sitting.HostFault = refl
session-unrefused steps sitting.OutOfMemory = refl

abbrev Unrefused : Outcome → Type 0
Unrefused outcome = is_refusal outcome ≡ false

-- whatever the host answers
abbrev Any : (o : HostCall) → HostSays o → Type 0
Any o r = Unit {0}

ends-unrefused : (n : ℕ) (c : Course End RunWorld) → Answers (λ e. Unrefused (outcome_of n e)) c
ends-unrefused n (ends e w) = run-unrefused n e
ends-unrefused n (meets_wild w) = tt

sat-unrefused : (n : ℕ) (c : Course SessionEnd SessionWorld) → Answers (λ e. Unrefused (runs.session_outcome n e)) c
sat-unrefused n (ends e w) = session-unrefused n e
sat-unrefused n (meets_wild w) = tt

work-unrefused : (kind : MachineKind) (o : WorkCall) (w : Work) → Answers (WorkMay Any Unrefused o) (work_goes kind o w)
work-unrefused kind (of_host o) w = tt
work-unrefused kind (stepping n) w = ran-gives Unrefused n w _ (ends-unrefused n (run_by kind n no_flags false w.machine w.host))
work-unrefused kind (reporting n) w = ran-gives Unrefused n (record w { told = traces kind n w.machine w.host }) _ (ends-unrefused n (run_by kind n no_flags false w.machine w.host))
work-unrefused kind (keeping n) w = ran-gives Unrefused n (record w { kept = states_kept (turns_of n w.machine w.host) [] }) _ (ends-unrefused n (run_by kind n no_flags false w.machine w.host))
work-unrefused kind (sitting_call n) w = sat-gives Unrefused n w _ (sat-unrefused n (session kind n w.machine no_flags w.host))
work-unrefused kind other w = tt

worked-unrefused : (c : Course Outcome Work) → Answers Unrefused c → IsUnrefused (answer_of (worked c))
worked-unrefused (ends outcome w) h = h
worked-unrefused (meets_wild w) h = tt

image-unrefused : (kind : MachineKind) (o : Order) (args : List Word) (image : Image) (m : HostModel) → IsUnrefused (image_answer kind o args image m)
image-unrefused kind o args image m = subst IsUnrefused (sym (image-course kind o args image m)) (by (start image args (stack_at_start kind o.ring)))
  where
    by : (s : Option State) → IsUnrefused (answer_of (work_on kind (machine_plan o) (begun_at (main_address image) s) (m, [])))
    by None = refl
    by (Some s) =
        worked-unrefused (course (work_goes kind) (machine_plan o) (at_start s (m, [])))
        (course_gives (work_goes kind) (WorkMay Any Unrefused) Unrefused (work-unrefused kind) (machine_plan o) (at_start s (m, [])) (machine-gives Any Unrefused refl o))

-- the message changes no outcome
message-comes : (outcome : Outcome) (m : HostModel) → HasOutcome (with_message (ends outcome m)) outcome
message-comes outcome m = subst (λ (a : Answer). HasOutcome a outcome) (sym (message-said outcome m)) refl

message-came : (a : Answer) (o : Outcome) → HasOutcome (with_message a) o → HasOutcome a o
message-came (ends outcome m) o h = subst (λ (a : Answer). HasOutcome a o) (message-said outcome m) h
message-came (meets_wild m) o h = h

never-refused : (a : Answer) (line fault from : ℕ) → IsUnrefused a → HasOutcome a (Refused line fault from) → ⊥
never-refused (ends outcome m) line fault from h is = cc
never-refused (meets_wild m) line fault from h is = is

still-comes : (a : Answer) (o : Outcome) → HasOutcome a o → HasOutcome (answer_still a) o
still-comes (ends outcome m) o h = h
still-comes (meets_wild m) o h = h

comes-still : (a : Answer) (o : Outcome) → HasOutcome (answer_still a) o → HasOutcome a o
comes-still (ends outcome m) o h = h
comes-still (meets_wild m) o h = h

-- a source that is refused when it is run
refused-run : (kind : MachineKind) (o : Order) (args : List Word) (text : List ℕ) (m : HostModel) (line fault from : ℕ) →
    HasOutcome (image_ran kind o args (assembled (source_meaning text)) m) (Refused line fault from) → (r : RunRefusal) × (run_refusal text ≡ Some r) × (r.number ≡ fault)
unfolding source_meaning
refused-run kind o args text m line fault from = by (run_refusal text) refl
  where
    by : (r : Option RunRefusal) → run_refusal text ≡ r → HasOutcome (image_ran kind o args (assembled (meaning_unless r (image_of (statements_in (source_entries text))))) m) (Refused line fault from) →
        (r : RunRefusal) × (run_refusal text ≡ Some r) × (r.number ≡ fault)
    by None is h = absurd (never-refused (image_answer kind o args (image_of (statements_in (source_entries text))) m) line fault from (image-unrefused kind o args _ m) h)
    by (Some r) is h = (r, is, (cc))

pub refused-detour : (kind : MachineKind) (options : List Word) (source object : Word) (arguments : List Word) (text : List ℕ) (m after : HostModel) (line fault from : ℕ) →
    AreOrdered options source object arguments → IsAssembled kind source object text m after →
    NoneFailed after (host_of (product kind (sim_words options object arguments) after)) → NoneFailed after (host_of (product kind (run_words options source arguments) after)) →
    HasOutcome (product kind (run_words options source arguments) after) (Refused line fault from) →
    (fault ≡ 90) × (place : ℕ) × HasOutcome (product kind (sim_words options object arguments) after) (BadObject place 90)
refused-detour kind options source object arguments text m after line fault from words a simulated runs told =
    let many : length m.slots ≡ 261 = a.many in
    let known = known-of kind source object text m after a (omega arith) in
    let none : refusal text ≡ None = assembled-none text known.accepted in
    let run = product-steady kind (run_words options source arguments) after in
    let sim = product-steady kind (sim_words options object arguments) after in
    let order : Order = record words.order { command = Run } in
    let back : HostModel = following m.files m.slots m source object text (still after) (omega arith) known in
    let ran-as : product kind (run_words options source arguments) (still after) ≡ with_message (image_ran kind order (program_name source ∷ arguments) (assembled (source_meaning text)) back) =
    run-is kind options source arguments words.order (still after) words.run words.file words.rest
    ∙ ap with_message (source-left m.files m.slots m source object text (still after) (omega arith) known kind order (program_name source ∷ arguments) a.apart) in
    let came : HasOutcome (with_message (image_ran kind order (program_name source ∷ arguments) (assembled (source_meaning text)) back)) (Refused line fault from) =
    subst (λ t. HasOutcome t (Refused line fault from)) (run.same runs ∙ ran-as) (still-comes (product kind (run_words options source arguments) after) (Refused line fault from) told) in
    let found = refused-run kind order (program_name source ∷ arguments) text back line fault from (message-came _ _ came) in
    let pages = pages-refused text found.0 a.bytes none found.1 in
    let simmed : product kind (sim_words options object arguments) (still after) ≡ with_message (ends (BadObject pages.1 90) back) =
    sim-is kind options object arguments words.order (still after) words.sim words.file words.rest
    ∙ ap with_message (object-left m.files m.slots m source object text (still after) (omega arith) known kind (record words.order { command = Sim }) (program_name object ∷ arguments) (source-short text a.bytes none))
    ∙ ap (λ r. with_message (image_ran kind (record words.order { command = Sim }) (program_name object ∷ arguments) (loaded r) back)) pages.2 in (
      sym found.2 ∙ pages.0,
      pages.1,
      comes-still (product kind (sim_words options object arguments) after) (BadObject pages.1 90)
          (subst (λ t. HasOutcome t (BadObject pages.1 90)) (sym (sim.same simulated ∙ simmed)) (message-comes (BadObject pages.1 90) back)),
    )
