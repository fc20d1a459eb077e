-- By its definition the program does not lack memory: no file that is opened does, no run and no session.
use Rattle.std.proofs.Common.{◌≡◌, ℕ, zero, suc, ◌-◌, ◌/◌, List, [], ◌∷◌, length, take, drop, Bool, true, false, cond, Option, None, Some, Result, Ok, Err, refl}
use Rattle.std.specs.Prelude.{codes, nat_lt, nat_le}
use Rattle.mx_word.specs.declared.symbols.Symbol.{Symbol}
use Rattle.mx_host.specs.HostModel.{HostModel, counted, is_failing, is_read_only, place_of}
use Rattle.mx_host.specs.HostAnswer.{Then, open_answer, opened}
use Rattle.mx_plan.specs.Calls.{HostCall, HostSays, HostPlan, opening as opening_call, host, open_plan, close_plan, read_plan, write_plan, need}
use Rattle.mx_plan.specs.Plan.{returns, calls, bind}
use Rattle.mx_plan.specs.Wild.{Course, ends, meets_wild, course}
use Rattle.mx_plan.proofs.Giving.{Gives, gives-bind}
use Rattle.mx_plan.proofs.WildLaws.{Answers, EndsSo, course_gives}
use Rattle.mx_host.specs.declared.faults.HostFault.{HostFault as SlotFault}
use Rattle.mx_host.specs.declared.faults.OpenFault.{OpenFault}
use Rattle.mx_host.specs.declared.faults.OpenFault.TheVariants as opening
use Rattle.mx_host.specs.declared.slots.Mode.{Mode}
use Rattle.mx_mmo.specs.Image.{Image}
use Rattle.mx_mmo.specs.Replies.{limit, tail_of}
use Rattle.mx_mmo.specs.Whole.{Left, items_of}
use Rattle.mx_mmo.specs.declared.due.Phase.TheVariants.{Start}
use Rattle.mx_mmo.specs.declared.faults.MmoFault.{MmoFault}
use Rattle.mx_mmo.specs.declared.items.Tail.{Tail}
use Rattle.mx_stab.specs.Reading.{trie_answer}
use Rattle.mx_stab.specs.declared.faults.StabFault.{StabFault}
use Rattle.mx_load.specs.Objects.{object_loaded}
use Rattle.mx_start.specs.Start.{start}
use Rattle.mx_code.specs.declared.trace.Trace.{Trace}
use Rattle.mx_core.specs.State.{State}
use Rattle.mx_run.specs.RunPlans.{RunWorld}
use Rattle.mx_run.specs.Runs.{no_flags}
use Rattle.mx_run.specs.WildRuns.{MachineKind, run_by}
use Rattle.mx_run.specs.declared.end.End.{End}
use Rattle.mx_back.specs.History.{states_kept}
use Rattle.mx_back.specs.KeptRuns.{turns_of}
use Rattle.mx_con.specs.Session.{session}
use Rattle.mx_con.specs.SessionPlans.{SessionWorld}
use Rattle.mx_con.specs.Told as sessions
use Rattle.mx_con.specs.declared.end.SessionEnd.{SessionEnd}
use Rattle.mx_con.specs.declared.end.SessionEnd.TheVariants as sitting_end
use Rattle.mx_con.proofs.ToldSessions.{sessions-told}
use Rattle.mx_watch.specs.Traces.{traces}
use Rattle.mx_words.specs.Orders.{order_of}
use Rattle.mx_words.specs.declared.order.Command.{Command}
use Rattle.mx_words.specs.declared.order.Command.TheVariants.{Run, Asm, Sim, Gen, Show, Multi}
use Rattle.mx_words.specs.declared.order.Order.{Order}
use Rattle.mx_words.specs.declared.order.WordsFault.{WordsFault}
use Rattle.mx_begin.specs.Arguments.{Word, word_at, arguments}
use Rattle.mx_gen.specs.Generator.{generated}
use Rattle.mx_files.specs.Typed.{Typed, trie_typed, tail_typed, end_typed, typed}
use Rattle.mx_outcome.specs.Messages.{message_of}
use Rattle.mx_files.specs.Objects.{Assembled, source_object}
use Rattle.mx_files.specs.FilePlans.{Part, on_ok, carried, close_file, input_opened, open_input, piece_added, read_piece, read_next, read_pieces, then_closed, read_open, file_plan, write_piece, write_pieces, text_plan, lines_plan}
use Rattle.mx_files.specs.ObjectPlans as whole
use Rattle.mx_files.specs.ObjectPlans.{object_opened, open_object, assembled as assembled_answer, close_object, put_object, put_source, put_into, assemble_part, assemble_plan, whole_plan, typed_end, typed_plan, list_part, list_plan}
use Rattle.mx_top.specs.MachineWork.{Work, WorkCall, of_host, stepping, reporting, keeping, sitting, WorkPlan, work_goes, machine_plan, generated_work}
use Rattle.mx_top.specs.Processors.{multi_outcome}
use Rattle.mx_top.specs.Product as page
use Rattle.mx_top.specs.Product.{ProgramCall, on_machine, taking_turns, ProgramSays, ProgramWorld, ProgramPlan, program_goes, at_start, joint_at_start, worked, work_on, turned, on_part, run_on, run_file, run_source, run_text, turns_from, turns_on, object_file, ordered_plan, work_plan, product_plan, product_course, answer_of, product}
use Rattle.mx_begin.specs.Ends.{outcome_of}
use Rattle.mx_top.specs.Runs.{session_outcome}
use Rattle.mx_top.specs.Telling.{telling, message_if, message_plan}
use Rattle.mx_begin.specs.BeginPlans.{image_plan, image_file_plan}
use Rattle.mx_begin.specs.Begun.{assembled, loaded, image_in, most_pieces, main_address, begun_at, stack_at_start, started}
use Rattle.mx_begin.specs.declared.images.Form.{Form}
use Rattle.mx_begin.specs.declared.images.Form.TheVariants.{Source, Object}
use Rattle.mx_files.specs.Sources.{source_meaning}
use Rattle.mx_files.specs.Schedules.{judged, schedule_in, schedule_fault, schedule_plan}
use Rattle.mx_multi.specs.JointTurns.{JointWorld}
use Rattle.mx_multi.specs.Turns.{turns}
use Rattle.mx_multi.specs.declared.end.MultiEnd.{MultiEnd}
use Rattle.mx_dump.specs.Dump.{Line}
use Rattle.law_runs.proofs.GivenOutcomes.{WorkMay, EndsWith, write-gives, lines-give, telling-gives, machine-gives, generated-gives, ran-gives, sat-gives}
use Rattle.law_runs.proofs.UnbrokenRuns.{Told, run-course-told}
use Rattle.law_runs.proofs.UnbrokenTurns.{Told as TurnsTold, turns-told}
use Rattle.law_runs.specs.Unbroken.{is_outcome_told, is_answer_told}
use Rattle.mx_outcome.specs.declared.outcome.Outcome.{Outcome}
use Rattle.mx_outcome.specs.declared.outcome.Outcome.TheVariants.{Done}
use Rattle.mx_files.specs.declared.refusal.Refusal.{Refusal}

abbrev OutcomeTold : Outcome → Type 0
OutcomeTold outcome = is_outcome_told outcome ≡ true

-- ---- a file that is opened, and read

abbrev is_opened : Result (Unit {0}) OpenFault → Bool
is_opened (Err opening.OutOfMemory) = false
is_opened r = true

either : {A : Type 0} (Such : A → Type 0) (b : Bool) (x y : A) → Such x → Such y → Such (cond b x y)
either Such true x y h k = h
either Such false x y h k = k

-- an answer that is other than that memory ran out
abbrev OpensSo : Then (Result (Unit {0}) OpenFault) → Type 0
OpensSo t = is_opened t.0 ≡ true

by-mode : (reads : Bool) (m : HostModel) (slot : ℕ) (name : List ℕ) (mode : Mode) (at : Option ℕ) → is_opened (opened reads m slot name mode at).0 ≡ true
by-mode true m slot name mode None = refl
by-mode true m slot name mode (Some at) = refl
by-mode false m slot name mode None = refl
by-mode false m slot name mode (Some at) = refl

open-told : (m : HostModel) (slot : ℕ) (name : List ℕ) (mode : Mode) → is_opened (open_answer m slot name mode).0 ≡ true
unfolding open_answer
open-told m slot name mode = either OpensSo (is_failing m) _ _ refl (by-mode (is_read_only mode) (counted m) slot name mode (place_of m.files name))

-- an outcome in place of a value
abbrev ReadTold : {A : Type 0} → Result A Outcome → Type 0
ReadTold r = EndsWith OutcomeTold r

-- a call that opens a file never lacks memory
abbrev May : (o : HostCall) → HostSays o → Type 0
May (opening_call slot name mode) r = is_opened r ≡ true
May other r = Unit {0}

may : (o : HostCall) (m : HostModel) → May o (host.act o m).0
unfolding host
may (opening_call slot name mode) m = either OpensSo (nat_le slot 257) _ _ (open-told m slot name mode) refl
may other m = tt

-- a part ends the work so, whatever its calls answer of what they may
abbrev IsTold : {A : Type 0} → Part A → Type 0
IsTold {A} p = Gives May (ReadTold {A = A}) p

on-told : {A B : Type 0} (f : A → Part B) → ((a : A) → IsTold (f a)) → (r : Result A Outcome) → ReadTold r → IsTold (on_ok f r)
unfolding Gives
on-told f h (Ok a) t = h a
on-told f h (Err outcome) t = t

then-told : {A B : Type 0} (f : A → Part B) (p : Part A) → IsTold p → ((a : A) → IsTold (f a)) → IsTold (bind (on_ok f) p)
then-told {A} {B} f p t h = gives-bind May (ReadTold {A = A}) (ReadTold {A = B}) (on_ok f) p t (on-told f h)

need-told : {A : Type 0} (p : Part A) → IsTold p → IsTold (bind (λ u. p) need)
unfolding Gives bind need
need-told p h = λ u t. h

returns-told : {A : Type 0} (r : Result A Outcome) → ReadTold r → IsTold (returns r)
unfolding Gives
returns-told r h = h

-- ---- a file that is read

added-told : (got : List ℕ) (r : Result (List ℕ) SlotFault) → IsTold (piece_added got r)
unfolding Gives bind need
added-told got (Ok piece) = λ u t. tt
added-told got (Err why) = refl

piece-told : (got : List ℕ) → IsTold (read_piece got)
unfolding Gives read_piece read_plan bind
piece-told got = λ r t. added-told got r

next-told : (more : List ℕ → Part (List ℕ)) → ((bytes : List ℕ) → IsTold (more bytes)) → (x : List ℕ × Bool) → IsTold (read_next more x)
next-told more h (bytes, true) = h bytes
next-told more h (bytes, false) = returns-told (Ok bytes) tt

pieces-told : (left : ℕ) (got : List ℕ) → IsTold (read_pieces left got)
unfolding read_pieces
pieces-told zero got = returns-told (Ok got) tt
pieces-told (suc left) got = then-told (read_next (read_pieces left)) (read_piece got) (piece-told got) (next-told (read_pieces left) (λ bytes. pieces-told left bytes))

call-told : (r : Result (Unit {0}) SlotFault) → ReadTold (carried r)
call-told (Ok u) = tt
call-told (Err why) = refl

close-told : (slot : ℕ) → IsTold (close_file slot)
unfolding Gives close_file close_plan bind
close-told slot = λ r t. call-told r

bytes-told : (most : ℕ) → IsTold (read_open most)
unfolding read_open
bytes-told most = then-told then_closed (read_pieces most []) (pieces-told most []) (λ bytes. then-told (λ u. returns (Ok bytes)) (close_file 256) (close-told 256) (λ u. returns-told (Ok bytes) tt))

input-told : (name : List ℕ) → IsTold (open_input name)
unfolding Gives open_input open_plan bind
input-told name = by
  where
    by : (r : Result (Unit {0}) OpenFault) → is_opened r ≡ true → ReadTold (input_opened r)
    by (Ok u) h = tt
    by (Err opening.Absent) h = refl
    by (Err opening.Failed) h = refl
    by (Err opening.OutOfMemory) h = absurd (cc)

read-told : (most : ℕ) (name : List ℕ) → IsTold (file_plan most name)
unfolding file_plan
read-told most name = then-told (λ u. read_open most) (open_input name) (input-told name) (λ u. bytes-told most)

-- ---- images, and sources that are assembled

assembles-told : (r : Result Image Refusal) → ReadTold (assembled r)
assembles-told (Ok image) = tt
assembles-told (Err refusal) = refl

loads-told : (r : Result (Image × List Symbol) (ℕ × ℕ)) → ReadTold (loaded r)
loads-told (Ok (image, symbols)) = tt
loads-told (Err (place, fault)) = refl

image_in-told : (form : Form) (bytes : List ℕ) → ReadTold (image_in form bytes)
image_in-told Source bytes = assembles-told (source_meaning bytes)
image_in-told Object bytes = loads-told (object_loaded bytes)

image_plan-told : (form : Form) (bytes : List ℕ) → IsTold (image_plan form bytes)
unfolding image_plan
image_plan-told form bytes = need-told (returns (image_in form bytes)) (returns-told (image_in form bytes) (image_in-told form bytes))

image_file-told : (form : Form) (name : Word) → IsTold (image_file_plan form name)
unfolding image_file_plan
image_file-told form name = then-told (image_plan form) (file_plan (most_pieces form) name) (read-told (most_pieces form) name) (image_plan-told form)

text-told : (more slot : ℕ) (text : List ℕ) → IsTold (write_pieces more slot text)
unfolding write_pieces
text-told zero slot text = write-gives May OutcomeTold refl slot text
text-told (suc more) slot text = then-told (λ u. write_pieces more slot (drop 4096 text)) (write_piece slot (take 4096 text)) (write-gives May OutcomeTold refl slot (take 4096 text)) (λ u. text-told more slot (drop 4096 text))

assembled-told : (r : Result (Unit {0}) Refusal) → ReadTold (assembled_answer r)
assembled-told (Ok u) = tt
assembled-told (Err refusal) = refl

put-told : (a : Assembled) → IsTold (put_object a)
unfolding put_object text_plan close_object
put-told (bytes, answer) =
    then-told (λ u. close_object answer) (text_plan 257 bytes) (text-told ((length bytes - 1) / 4096) 257 bytes)
    (λ u. then-told (λ v. returns (assembled_answer answer)) (close_file 257) (close-told 257) (λ v. returns-told (assembled_answer answer) (assembled-told answer)))

object-told : (name : List ℕ) → IsTold (open_object name)
unfolding Gives open_object open_plan bind
object-told name = by
  where
    by : (r : Result (Unit {0}) OpenFault) → is_opened r ≡ true → ReadTold (object_opened r)
    by (Ok u) h = tt
    by (Err opening.Absent) h = refl
    by (Err opening.Failed) h = refl
    by (Err opening.OutOfMemory) h = absurd (cc)

assemble-told : (source object : List ℕ) → IsTold (assemble_part source object)
unfolding assemble_part put_into put_source
assemble-told source object =
    then-told (put_into object) (file_plan 1025 source) (read-told 1025 source)
    (λ text. then-told (λ u. put_source text) (open_object object) (object-told object) (λ u. need-told (put_object (source_object text)) (put-told (source_object text))))

-- ---- objects that are listed, and schedules

trie_typed-told : (place : ℕ) (trie : List ℕ) (r : Result (List Symbol) StabFault) → OutcomeTold (trie_typed place trie r).1
trie_typed-told place trie (Ok symbols) = refl
trie_typed-told place trie (Err fault) = refl

tail_typed-told : (r : Result Tail MmoFault) → OutcomeTold (tail_typed r).1
tail_typed-told (Ok tail) = trie_typed-told tail.place tail.trie (trie_answer tail.trie)
tail_typed-told (Err fault) = refl

end_typed-told : (r : Result Left MmoFault) → OutcomeTold (end_typed r).1
end_typed-told (Ok left) = tail_typed-told (tail_of left.phase left.at left.rest)
end_typed-told (Err fault) = refl

typed-told : (object : List ℕ) → OutcomeTold (typed object).1
unfolding typed
typed-told object = either (λ (t : Typed). OutcomeTold t.1) (nat_lt limit (length object)) _ _ refl (end_typed-told (items_of Start 0 object).1)

typed_end-told : (outcome : Outcome) → OutcomeTold outcome → IsTold (typed_end outcome)
typed_end-told (Done status) h = returns-told (Ok tt) tt
typed_end-told outcome h = need-told (returns (Err outcome)) (returns-told (Err outcome) h)

typed_plan-told : (t : Typed) → OutcomeTold t.1 → IsTold (typed_plan t)
unfolding typed_plan
typed_plan-told t h = then-told (λ u. typed_end t.1) (lines_plan t.0) (lines-give May OutcomeTold refl t.0) (λ u. typed_end-told t.1 h)

list-told : (name : List ℕ) → IsTold (list_part name)
unfolding list_part
list-told name = then-told (λ object. typed_plan (typed object)) (file_plan 16385 name) (read-told 16385 name) (λ object. typed_plan-told (typed object) (typed-told object))

judged-told : (fault : Option ℕ) (bytes : List ℕ) → ReadTold (judged fault bytes)
judged-told None bytes = tt
judged-told (Some place) bytes = refl

schedule-told : (name : Word) → IsTold (schedule_plan name)
unfolding schedule_plan schedule_in
schedule-told name =
    then-told (λ bytes. returns (schedule_in bytes)) (file_plan 1025 name) (read-told 1025 name) (λ bytes. returns-told (judged (schedule_fault bytes) bytes) (judged-told (schedule_fault bytes) bytes))

-- the outcome of a whole
whole-told : (r : Result (Unit {0}) Outcome) → ReadTold r → Gives May OutcomeTold (returns (whole.outcome_of r))
unfolding Gives
whole-told (Ok u) h = refl
whole-told (Err outcome) h = h

whole-gives : (p : Part (Unit {0})) → IsTold p → Gives May OutcomeTold (whole_plan p)
whole-gives p h = gives-bind May (ReadTold {A = Unit {0}}) OutcomeTold (λ r. returns (whole.outcome_of r)) p h whole-told

-- ---- the work on a machine

end-told : (steps : ℕ) (end : SessionEnd) → sessions.is_end_told end ≡ true → OutcomeTold (session_outcome steps end)
end-told steps (sitting_end.Halted status) h = refl
end-told steps (sitting_end.Stopped pc reason) h = refl
end-told steps sitting_end.Spent h = refl
end-told steps sitting_end.Quit h = refl
end-told steps sitting_end.Limit h = refl
end-told steps sitting_end.HostFault h = refl
end-told steps sitting_end.OutOfMemory h = absurd (cc)

run-told : (n : ℕ) (c : Course End RunWorld) → EndsSo Told c → Answers (λ e. OutcomeTold (outcome_of n e)) c
run-told n (ends e w) h = h n
run-told n (meets_wild w) h = tt

session-told : (n : ℕ) (c : Course SessionEnd SessionWorld) → sessions.is_told c ≡ true → Answers (λ e. OutcomeTold (session_outcome n e)) c
session-told n (ends e w) h = end-told n e h
session-told n (meets_wild w) h = tt

runs-told : (kind : MachineKind) (n : ℕ) (w : Work) → Answers (λ e. OutcomeTold (outcome_of n e)) (run_by kind n no_flags false w.machine w.host)
runs-told kind n w = run-told n (run_by kind n no_flags false w.machine w.host) (run-course-told kind n w.machine w.host)

work-told : (kind : MachineKind) (o : WorkCall) (w : Work) → Answers (WorkMay May OutcomeTold o) (work_goes kind o w)
work-told kind (of_host o) w = may o w.host
work-told kind (stepping n) w = ran-gives OutcomeTold n w (run_by kind n no_flags false w.machine w.host) (runs-told kind n w)
work-told kind (reporting n) w = ran-gives OutcomeTold n (record w { told = traces kind n w.machine w.host }) (run_by kind n no_flags false w.machine w.host) (runs-told kind n w)
work-told kind (keeping n) w = ran-gives OutcomeTold n (record w { kept = states_kept (turns_of n w.machine w.host) [] }) (run_by kind n no_flags false w.machine w.host) (runs-told kind n w)
work-told kind (sitting n) w = sat-gives OutcomeTold n w (session kind n w.machine no_flags w.host) (session-told n (session kind n w.machine no_flags w.host) (sessions-told kind n w.machine no_flags w.host))
work-told kind other w = tt

-- ---- the calls of the program

-- work that answers so answers so on each machine
abbrev ProgramMay : (o : ProgramCall) → ProgramSays o → Type 0
ProgramMay (page.of_host o) r = May o r
ProgramMay (on_machine ring image args plan) r = Gives (WorkMay May OutcomeTold) OutcomeTold plan → OutcomeTold r
ProgramMay (taking_turns ring image schedule steps dump) r = OutcomeTold (multi_outcome steps r.0)

begun-told : (pc : ℕ) (s : Option State) → ReadTold (begun_at pc s)
begun-told pc None = refl
begun-told pc (Some s) = tt

started-told : (kind : MachineKind) (ring : ℕ) (image : Image) (words : List Word) → ReadTold (started kind ring image words)
started-told kind ring image words = begun-told (main_address image) (start image words (stack_at_start kind ring))

worked-told : (P : Type 0) (c : Course Outcome Work) → (P → Answers OutcomeTold c) → Answers (λ o. P → OutcomeTold o) (worked c)
worked-told P (ends o w) h = h
worked-told P (meets_wild w) h = tt

machine-told : (kind : MachineKind) (plan : WorkPlan Outcome) (r : Result State Outcome) (w : ProgramWorld) → ReadTold r → Answers (λ o. Gives (WorkMay May OutcomeTold) OutcomeTold plan → OutcomeTold o) (work_on kind plan r w)
machine-told kind plan (Err outcome) w h = λ g. h
machine-told kind plan (Ok s) w h =
    worked-told (Gives (WorkMay May OutcomeTold) OutcomeTold plan) (course (work_goes kind) plan (at_start s w)) (λ g. course_gives (work_goes kind) (WorkMay May OutcomeTold) OutcomeTold (work-told kind) plan (at_start s w) g)

turned-told : (dump : Bool) (steps : ℕ) (told : List Trace) (x : Course MultiEnd JointWorld) → TurnsTold x → Answers (λ (r : MultiEnd × List Line). OutcomeTold (multi_outcome steps r.0)) (turned dump told x)
turned-told dump steps told (ends end w) h = h steps
turned-told dump steps told (meets_wild w) h = tt

calls-told : (kind : MachineKind) (o : ProgramCall) (w : ProgramWorld) → Answers (ProgramMay o) (program_goes kind o w)
calls-told kind (page.of_host o) w = may o w.0
calls-told kind (on_machine ring image args plan) w = machine-told kind plan (started kind ring image args) w (started-told kind ring image args)
calls-told kind (taking_turns ring image schedule steps dump) w =
    turned-told dump steps w.1 (turns kind schedule steps schedule (joint_at_start kind ring image schedule) w.0) (turns-told kind schedule steps schedule (joint_at_start kind ring image schedule) w.0)

-- ---- the page

abbrev ProgramTold : ProgramPlan Outcome → Type 0
ProgramTold p = Gives ProgramMay OutcomeTold p

host-gives : {A : Type 0} (First : A → Type 0) (p : HostPlan A) → Gives May First p → Gives ProgramMay First (page.host_in_program p)
unfolding Gives page.host_in_program
host-gives First (returns a) h = h
host-gives First (calls o k) h = λ r m. host-gives First (k r) (h r m)

taking-told : (p : ProgramPlan Outcome) → ProgramTold p → ProgramTold (page.taking p)
unfolding Gives bind page.host_in_program need
taking-told p h = λ u t. h

on-part-told : {A : Type 0} (f : A → ProgramPlan Outcome) → ((x : A) → ProgramTold (f x)) → (r : Result A Outcome) → ReadTold r → ProgramTold (on_part f r)
unfolding Gives
on-part-told f h (Ok x) t = h x
on-part-told f h (Err outcome) t = t

part-told : {A : Type 0} (f : A → ProgramPlan Outcome) (p : Part A) → IsTold p → ((x : A) → ProgramTold (f x)) → ProgramTold (bind (on_part f) (page.host_in_program p))
part-told {A} f p t h = gives-bind ProgramMay (ReadTold {A = A}) OutcomeTold (on_part f) (page.host_in_program p) (host-gives (ReadTold {A = A}) p t) (on-part-told f h)

run-on-told : (ring : ℕ) (args : List Word) (plan : WorkPlan Outcome) (image : Image) → Gives (WorkMay May OutcomeTold) OutcomeTold plan → ProgramTold (run_on ring args plan image)
unfolding Gives bind page.host_in_program need
run-on-told ring args plan image h = λ u t. λ r m. m h

file-told : (words : List Word) (o : Order) (form : Form) → ProgramTold (run_file words o form)
unfolding run_file
file-told words o form =
    taking-told (bind (on_part (run_on o.ring (arguments words o) (machine_plan o))) (page.host_in_program (image_file_plan form (word_at words o.file)))) (part-told (run_on o.ring (arguments words o) (machine_plan o)) (image_file_plan form (word_at words o.file)) (image_file-told form (word_at words o.file))
    (λ image. run-on-told o.ring (arguments words o) (machine_plan o) image (machine-gives May OutcomeTold refl o)))

source-told : (o : Order) (size : ℕ) (r : Result Image Refusal) → ProgramTold (run_source o size r)
unfolding Gives
source-told o size (Err refusal) = refl
source-told o size (Ok image) = run-on-told o.ring (codes "gen" ∷ []) (generated_work o.number size) image (generated-gives May OutcomeTold refl o.number size refl)

multi-told : (o : Order) (schedule : List ℕ) (image : Image) → ProgramTold (turns_from o schedule image)
unfolding Gives
multi-told o schedule image = λ r h. host-gives OutcomeTold (telling (multi_outcome o.steps r.0) r.1) (telling-gives May OutcomeTold refl (multi_outcome o.steps r.0) r.1 h)

ordered-told : (words : List Word) (o : Order) (c : Command) → ProgramTold (ordered_plan words o c)
unfolding ordered_plan
ordered-told words o Run = file-told words o Source
ordered-told words o Sim = file-told words o Object
ordered-told words o Asm =
    host-gives OutcomeTold (assemble_plan (word_at words o.file) (word_at words o.rest)) (whole-gives (assemble_part (word_at words o.file) (word_at words o.rest)) (assemble-told (word_at words o.file) (word_at words o.rest)))
ordered-told words o Gen =
    taking-told (run_text o (generated o.number)) (taking-told (run_source o (length (generated o.number)) (source_meaning (generated o.number))) (source-told o (length (generated o.number)) (source_meaning (generated o.number))))
ordered-told words o Show = host-gives OutcomeTold (list_plan (word_at words o.file)) (whole-gives (list_part (word_at words o.file)) (list-told (word_at words o.file)))
ordered-told words o Multi =
    part-told (object_file o (word_at words o.file)) (schedule_plan (word_at words o.schedule)) (schedule-told (word_at words o.schedule))
    (λ bytes. part-told (turns_on o bytes) (image_file_plan Object (word_at words o.file)) (image_file-told Object (word_at words o.file)) (λ image. taking-told (turns_from o bytes image) (multi-told o bytes image)))

work-plan-told : (words : List Word) (r : Result Order WordsFault) → ProgramTold (work_plan words r)
unfolding Gives
work-plan-told words (Err fault) = refl
work-plan-told words (Ok o) = ordered-told words o o.command

-- ---- the message

message-if-told : (outcome : Outcome) (text : List ℕ) → OutcomeTold outcome → Gives May OutcomeTold (message_if outcome text)
unfolding Gives bind need write_plan
message-if-told outcome [] h = h
message-if-told outcome (b ∷ bs) h = λ u t. λ r k. h

message-told : (outcome : Outcome) → OutcomeTold outcome → Gives ProgramMay OutcomeTold (page.host_in_program (message_plan outcome))
unfolding message_plan
message-told outcome h = host-gives OutcomeTold (message_if outcome (message_of outcome)) (message-if-told outcome (message_of outcome) h)

product-told : (words : List Word) → ProgramTold (product_plan words)
unfolding product_plan
product-told words = gives-bind ProgramMay OutcomeTold OutcomeTold (λ outcome. page.host_in_program (message_plan outcome)) (work_plan words (order_of words)) (work-plan-told words (order_of words)) message-told

answer-told : (c : Course Outcome ProgramWorld) → Answers OutcomeTold c → is_answer_told (answer_of c) ≡ true
answer-told (ends outcome w) h = h
answer-told (meets_wild w) h = refl

pub programs-told : (kind : MachineKind) (words : List Word) (m : HostModel) → is_answer_told (product kind words m) ≡ true
unfolding product product_course
programs-told kind words m = answer-told (course (program_goes kind) (product_plan words) (m, [])) (course_gives (program_goes kind) ProgramMay OutcomeTold (calls-told kind) (product_plan words) (m, []) (product-told words))

pub ruleset unbroken_programs = (programs-told)
