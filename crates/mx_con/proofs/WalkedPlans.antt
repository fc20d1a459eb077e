-- Plans, whatever their calls answer: the bytes of the console's input that they take, and that they do not answer that memory ran out
-- where no call lacked it.
use Rattle.std.proofs.Common.{◌≡◌, ℕ, zero, suc, ◌≤◌, ◌+◌, ◌-◌, ◌==◌, List, [], ◌∷◌, ◌++◌, length, Bool, true, false, cond, None, Some, Ok, Err, le_refl, refl, subst, arith}
use Rattle.std.specs.Prelude.{Option, Result, ◌&&◌}
use Rattle.std.proofs.lemmas.Bool.{and_parts}
use Rattle.mx_word.specs.Results.{map_ok}
use Rattle.mx_host.specs.declared.faults.HostFault.{HostFault}
use Rattle.mx_host.specs.declared.faults.HostFault.TheVariants as fault
use Rattle.mx_plan.specs.Calls.{HostCall, HostSays, reading, writing, HostPlan, read_plan, write_plan, need}
use Rattle.mx_plan.specs.Plan.{Plan, returns, calls, bind}
use Rattle.mx_plan.specs.Taking.{CanSay, taken}
use Rattle.mx_plan.proofs.Giving.{Gives}
use Rattle.mx_code.specs.declared.trace.Trace.{Trace}
use Rattle.mx_run.specs.declared.end.BreakKind.{BreakKind}
use Rattle.mx_run.specs.declared.end.End.{End}
use Rattle.mx_run.specs.declared.end.End.TheVariants as ending
use Rattle.mx_run.specs.declared.turn_answer.TurnAnswer.{TurnAnswer}
use Rattle.mx_run.specs.declared.turn_answer.TurnAnswer.TheVariants as answer
use Rattle.mx_cmd.specs.Commands.{command_of}
use Rattle.mx_cmd.specs.declared.command.Command.{Command}
use Rattle.mx_cmd.specs.declared.command.Command.TheVariants.{Step, Continue, Quit as QuitCommand}
use Rattle.mx_con.specs.ConsoleTexts.{break_text}
use Rattle.mx_show.specs.Texts.{ended}
use Rattle.mx_con.specs.Judgement.{bad_text}
use Rattle.mx_con.specs.LinePlans.{on_ok, written, text_plan, line_plan, lines_plan, byte_of, byte_plan, Growing, last_line, after_byte, grown_plan, LineRead, after_growing, reading_plan, prompt, asking_plan, without_return}
use Rattle.mx_con.specs.SessionPlans.{SessionCall, of_host, of_turn, of_run, SessionSays, SessionPlan, Part, host_in_session, turn_made, run_made, reply_plan, count_plan, place_plan, trace_plan, judge_plan, traced_plan, after_turn, turn_at, turned_plan, stepped_plan, going, broke_plan, break_plan, after_end, one_run_plan, run_on, runs_plan, continued_plan, showing, judged, answered_plan, command_plan, with_left, line_done, one_line_plan, lines_of_session, most_input, end_of_session, session_plan}
use Rattle.mx_con.specs.Taking.{Takes, TakesAtMost}
use Rattle.mx_con.specs.Told.{is_end_told}
use Rattle.mx_con.specs.declared.dialog.Dialog.{Dialog}
use Rattle.mx_con.specs.declared.end.SessionEnd.{SessionEnd}
use Rattle.mx_con.specs.declared.end.SessionEnd.TheVariants.{Spent, Quit}
use Rattle.mx_con.specs.declared.judgement.Bad.{Bad}
use Rattle.mx_con.specs.declared.judgement.Bad.TheVariants.{UnknownCommand}

-- what the calls of a world may answer, how many bytes an answer took, and whether it is other than that of no memory
record Answering (O : Type 0) (R : O → Type 0) : Type 1 where
  may : (o : O) → R o → Type 0
  bytes : (o : O) → R o → ℕ
  told : (o : O) → R o → Bool

-- From n bytes on, and where no call lacked memory up to here if b, a plan takes no more than are left; where it returns a, this holds
-- of a, of the bytes that are left, and of whether no call lacked memory.
unfoldable Walks : {O : Type 0} {R : O → Type 0} {A : Type 0} → Answering O R → (A → ℕ → Bool → Type 0) → ℕ → Bool → Plan O R A → Type 0
Walks d Post n b (returns a) = Post a n b
Walks {O} {R} d Post n b (calls o k) = (r : R o) → d.may o r → (d.bytes o r ≤ n) × Walks d Post (n - d.bytes o r) (b && d.told o r) (k r)

walks-bind : {O : Type 0} {R : O → Type 0} {A B : Type 0} (d : Answering O R) (First : A → ℕ → Bool → Type 0) (Post : B → ℕ → Bool → Type 0) (f : A → Plan O R B) (p : Plan O R A) (n : ℕ) (b : Bool) →
    Walks d First n b p → ((a : A) (m : ℕ) (c : Bool) → First a m c → Walks d Post m c (f a)) → Walks d Post n b (bind f p)
unfolding Walks bind
walks-bind d First Post f (returns a) n b h k = k a n b h
walks-bind d First Post f (calls o g) n b h k = λ r m. ((h r m).0, walks-bind d First Post f (g r) (n - d.bytes o r) (b && d.told o r) (h r m).1 k)

-- ---- of a host, and of a session

abbrev pub is_call_told : {A : Type 0} → Result A HostFault → Bool
is_call_told (Ok x) = true
is_call_told (Err fault.Failed) = true
is_call_told (Err fault.Misused) = true
is_call_told (Err fault.OutOfMemory) = false

abbrev pub is_host_told : (o : HostCall) → HostSays o → Bool
is_host_told (reading slot len) r = is_call_told r
is_host_told (writing slot from) r = is_call_told r
is_host_told other r = true

abbrev pub is_turn_told : TurnAnswer → Bool
is_turn_told answer.OutOfMemory = false
is_turn_told other = true

abbrev pub is_run_told : End → Bool
is_run_told ending.OutOfMemory = false
is_run_told other = true

abbrev pub is_say_told : (o : SessionCall) → SessionSays o → Bool
is_say_told (of_host o) r = is_host_told o r
is_say_told of_turn r = is_turn_told r
is_say_told (of_run n pass) r = is_run_told r
is_say_told other r = true

abbrev MaySay : (o : SessionCall) → SessionSays o → Type 0
MaySay (of_host o) r = CanSay o r
MaySay other r = Unit {0}

abbrev took : (o : SessionCall) → SessionSays o → ℕ
took (of_host o) r = taken 258 o r
took other r = 0

abbrev of_a_host : Answering HostCall HostSays
of_a_host = record { may = CanSay; bytes = taken 258; told = is_host_told }

abbrev of_a_session : Answering SessionCall SessionSays
of_a_session = record { may = MaySay; bytes = took; told = is_say_told }

walks-on-host : {A : Type 0} (Post : A → ℕ → Bool → Type 0) (p : HostPlan A) (n : ℕ) (b : Bool) → Walks of_a_host Post n b p → Walks of_a_session Post n b (host_in_session p)
unfolding Walks host_in_session
walks-on-host Post (returns a) n b h = h
walks-on-host Post (calls o k) n b h = λ r m. ((h r m).0, walks-on-host Post (k r) (n - taken 258 o r) (b && is_host_told o r) (h r m).1)

-- ---- what that says

abbrev pub is_answer_told : {A : Type 0} → Result A SessionEnd → Bool
is_answer_told (Ok x) = true
is_answer_told (Err end) = is_end_told end

-- of the bytes that are left an answer spares this many, and it is other than that of no memory if no call lacked it
abbrev Spared : {A : Type 0} → (Result A SessionEnd → ℕ) → Result A SessionEnd → ℕ → Bool → Type 0
Spared spare r n b = (spare r ≤ n) × (b ≡ true → is_answer_told r ≡ true)

-- a part, and then another
ok-walks : {O : Type 0} {R : O → Type 0} {A B : Type 0} (d : Answering O R) (s : Result A SessionEnd → ℕ) (t : Result B SessionEnd → ℕ) (f : A → Plan O R (Result B SessionEnd)) (r : Result A SessionEnd) (n : ℕ) (b : Bool) →
    ((end : SessionEnd) → t (Err end) ≤ s (Err end)) → ((x : A) (m : ℕ) (c : Bool) → s (Ok x) ≤ m → Walks d (Spared t) m c (f x)) → Spared s r n b → Walks d (Spared t) n b (on_ok f r)
unfolding Walks
ok-walks d s t f (Ok x) n b e k h = k x n b h.0
ok-walks d s t f (Err end) n b e k h = let less = e end in let some = h.0 in (omega (arith, less, some), h.1)

then-walks : {O : Type 0} {R : O → Type 0} {A B : Type 0} (d : Answering O R) (s : Result A SessionEnd → ℕ) (t : Result B SessionEnd → ℕ) (f : A → Plan O R (Result B SessionEnd)) (p : Plan O R (Result A SessionEnd)) (n : ℕ) (b : Bool) →
    ((end : SessionEnd) → t (Err end) ≤ s (Err end)) → Walks d (Spared s) n b p → ((x : A) (m : ℕ) (c : Bool) → s (Ok x) ≤ m → Walks d (Spared t) m c (f x)) → Walks d (Spared t) n b (bind (on_ok f) p)
then-walks d s t f p n b e h k = walks-bind d (Spared s) (Spared t) (on_ok f) p n b h (λ r m c g. ok-walks d s t f r m c e k g)

-- what takes nothing spares all that may be taken
abbrev Free : {O : Type 0} {R : O → Type 0} {A : Type 0} → Answering O R → Plan O R (Result A SessionEnd) → Type 0
Free d p = (k n : ℕ) (b : Bool) → k ≤ n → Walks d (Spared (λ r. k)) n b p

free-then : {O : Type 0} {R : O → Type 0} {A B : Type 0} (d : Answering O R) (f : A → Plan O R (Result B SessionEnd)) (p : Plan O R (Result A SessionEnd)) → Free d p → ((x : A) → Free d (f x)) → Free d (bind (on_ok f) p)
free-then d f p h g k n b l = then-walks d (λ r. k) (λ r. k) f p n b (λ end. le_refl k) (h k n b l) (λ x m c i. g x k m c i)

free-answer : {O : Type 0} {R : O → Type 0} {A : Type 0} (d : Answering O R) (r : Result A SessionEnd) → is_answer_told r ≡ true → Free d (returns r)
unfolding Walks
free-answer d r h k n b l = (l, λ e. h)

free-choice : {O : Type 0} {R : O → Type 0} {A : Type 0} (d : Answering O R) (b : Bool) (p q : Plan O R (Result A SessionEnd)) → Free d p → Free d q → Free d (cond b p q)
free-choice d true p q h g = h
free-choice d false p q h g = g

-- ---- lines that are written

written-told : (r : Result (Unit {0}) HostFault) → is_call_told r ≡ true → is_answer_told (written r) ≡ true
written-told (Ok u) h = refl
written-told (Err fault.Failed) h = refl
written-told (Err fault.Misused) h = refl
written-told (Err fault.OutOfMemory) h = h

free-text : (text : List ℕ) → Free of_a_host (text_plan text)
unfolding text_plan write_plan Walks bind
free-text text k n b l = λ r m. (omega arith, (omega (arith, l), λ e. written-told r (and_parts b (is_call_told r) e).1))

free-line : (line : List ℕ) → Free of_a_host (line_plan line)
unfolding line_plan need Walks bind
free-line line k n b l = λ u m. (omega arith, free-text (ended line) k (n - 0) (b && true) (omega (arith, l)))

free-lines : (lines : List (List ℕ)) → Free of_a_host (lines_plan lines)
unfolding lines_plan
free-lines [] = free-answer {A = Unit {0}} of_a_host (Ok tt) refl
free-lines (line ∷ lines) = free-then of_a_host (λ u. lines_plan lines) (line_plan line) (free-line line) (λ u. free-lines lines)

-- ---- a line that is read

-- after a byte, one less may be taken; at the end of the input as many as before
abbrev spare_byte : ℕ → Result (Option ℕ) SessionEnd → ℕ
spare_byte left (Ok None) = suc left
spare_byte left (Ok (Some b)) = left
spare_byte left (Err end) = 0

byte-read : (left n : ℕ) (r : Result (List ℕ) HostFault) → suc left ≤ n → CanSay (reading 258 1) r → (taken 258 (reading 258 1) r ≤ n) × (spare_byte left (byte_of r) ≤ n - taken 258 (reading 258 1) r)
byte-read left n (Ok []) l m = (omega arith, omega (arith, l))
byte-read left n (Ok (x ∷ xs)) l m = let few : suc (length xs) ≤ 1 = m in (omega (arith, l, few), omega (arith, l, few))
byte-read left n (Err why) l m = (omega arith, omega arith)

byte-told : (r : Result (List ℕ) HostFault) → is_call_told r ≡ true → is_answer_told (byte_of r) ≡ true
byte-told (Ok []) h = refl
byte-told (Ok (b ∷ bs)) h = refl
byte-told (Err fault.Failed) h = refl
byte-told (Err fault.Misused) h = refl
byte-told (Err fault.OutOfMemory) h = h

byte-walks : (left n : ℕ) (b : Bool) → suc left ≤ n → Walks of_a_host (Spared (spare_byte left)) n b byte_plan
unfolding byte_plan read_plan Walks bind
byte-walks left n b l = λ r m. let read = byte-read left n r l m in (read.0, (read.1, λ e. byte-told r (and_parts b (is_call_told r) e).1))

-- a line that goes on has one byte less to take
abbrev spare_grown : ℕ → Growing → ℕ
spare_grown left (Ok (true, got, more)) = left
spare_grown left (Ok (false, got, more)) = more
spare_grown left (Err end) = 0

abbrev Grows : ℕ → ℕ → Bool → HostPlan Growing → Type 0
Grows left n b p = Walks of_a_host (Spared (spare_grown left)) n b p

last-walks : (got : List ℕ) (left n : ℕ) (b : Bool) → suc left ≤ n → Grows left n b (returns (map_ok (λ more. (more, got, left + 1)) (last_line got)))
unfolding Walks
last-walks [] left n b l = (omega arith, λ e. refl)
last-walks (x ∷ xs) left n b l = (omega (arith, l), λ e. refl)

added-walks : (newline : Bool) (got : List ℕ) (left x n : ℕ) (b : Bool) → left ≤ n → Grows left n b (cond newline (returns (Ok (false, got, left))) (bind (λ u. returns (Ok (true, got ++ x ∷ [], left))) need))
unfolding need Walks bind
added-walks true got left x n b l = (l, λ e. refl)
added-walks false got left x n b l = λ u m. (omega arith, (omega (arith, l), λ e. refl))

after-byte : (left n : ℕ) (b : Bool) (got : List ℕ) (r : Result (Option ℕ) SessionEnd) → Spared (spare_byte left) r n b → Grows left n b (after_byte left got r)
unfolding Walks
after-byte left n b got (Ok None) h = last-walks got left n b h.0
after-byte left n b got (Ok (Some x)) h = added-walks (x == 10) got left x n b h.0
after-byte left n b got (Err end) h = (omega arith, h.1)

grown-walks : (left n : ℕ) (b : Bool) (got : List ℕ) → suc left ≤ n → Grows left n b (grown_plan left got)
unfolding grown_plan
grown-walks left n b got l = walks-bind of_a_host (Spared (spare_byte left)) (Spared (spare_grown left)) (after_byte left got) byte_plan n b (byte-walks left n b l) (λ r m c g. after-byte left m c got r g)

abbrev spare_line : LineRead → ℕ
spare_line (Ok (got, left)) = left
spare_line (Err end) = 0

abbrev Reads : ℕ → Bool → HostPlan LineRead → Type 0
Reads n b p = Walks of_a_host (Spared spare_line) n b p

after-growing : (left : ℕ) → ((got : List ℕ) (n : ℕ) (b : Bool) → left ≤ n → Reads n b (reading_plan left got)) → (n : ℕ) (b : Bool) (r : Growing) → Spared (spare_grown left) r n b → Reads n b (on_ok (after_growing (reading_plan left)) r)
unfolding Walks
after-growing left more n b (Ok (true, got, few)) h = more got n b h.0
after-growing left more n b (Ok (false, got, few)) h = (h.0, λ e. refl)
after-growing left more n b (Err end) h = (omega arith, h.1)

reading-walks : (left n : ℕ) (b : Bool) (got : List ℕ) → left ≤ n → Reads n b (reading_plan left got)
unfolding reading_plan Walks
reading-walks zero n b got l = (omega arith, λ e. refl)
reading-walks (suc left) n b got l =
    walks-bind of_a_host (Spared (spare_grown left)) (Spared spare_line) (on_ok (after_growing (reading_plan left))) (grown_plan left got) n b (grown-walks left n b got l)
    (λ r m c g. after-growing left (λ h i d j. reading-walks left i d h j) m c r g)

asking-walks : (left n : ℕ) (b : Bool) → left ≤ n → Reads n b (asking_plan left)
unfolding asking_plan
asking-walks left n b l =
    then-walks of_a_host (λ r. left) spare_line (λ u. reading_plan left []) (text_plan prompt) n b (λ end. omega arith) (free-text prompt left n b l) (λ u m c i. reading-walks left m c [] i)

-- ---- steps and runs

abbrev Spends : {A : Type 0} → Part A → Type 0
Spends p = Free of_a_session p

written-line : (line : List ℕ) → Spends (host_in_session (line_plan line))
written-line line k n b l = walks-on-host (Spared (λ r. k)) (line_plan line) n b (free-line line k n b l)

traced-walks : (trace : Trace) → Spends (traced_plan trace)
unfolding traced_plan trace_plan Walks bind
traced-walks trace k n b l = λ text m. (omega arith, written-line text k (n - 0) (b && true) (omega (arith, l)))

after-turn-walks : (pc : ℕ) (a : TurnAnswer) (k n : ℕ) (b : Bool) → k ≤ n → (b ≡ true → is_turn_told a ≡ true) → Walks of_a_session (Spared (λ r. k)) n b (after_turn pc a)
unfolding Walks
after-turn-walks pc (answer.Went trace) k n b l h = traced-walks trace k n b l
after-turn-walks pc (answer.Halted status) k n b l h = (l, λ e. refl)
after-turn-walks pc (answer.Stopped reason) k n b l h = (l, λ e. refl)
after-turn-walks pc answer.OutOfMemory k n b l h = (l, h)

turned-walks : Spends turned_plan
unfolding turned_plan place_plan turn_at turn_made Walks bind
turned-walks k n b l = λ pc m. (
  omega arith,
  λ a i. (
    omega arith,
    after-turn-walks pc a k (n - 0 - 0) (b && true && is_turn_told a) (omega (arith, l)) (λ e. (and_parts (b && true) (is_turn_told a) e).1),
  ),
)

stepped-walks : (steps : ℕ) → Spends (stepped_plan steps)
unfolding stepped_plan count_plan Walks bind
stepped-walks steps k n b l = λ made m. (
  omega arith,
  free-choice of_a_session (steps - made == 0) (returns (Err Spent)) turned_plan (free-answer {A = Unit {0}} of_a_session (Err Spent) refl) turned-walks k (n - 0) (b && true) (omega (arith, l)),
)

going-walks : (more : Bool) (p : Part (Unit {0})) → Spends p → Spends (going more p)
going-walks more p h = free-then of_a_session (λ u. returns (Ok more)) p h (λ u. free-answer of_a_session (Ok more) refl)

break-walks : (kind : BreakKind) (at : ℕ) (traced : Option Trace) → Spends (break_plan kind at traced)
break-walks kind at None = written-line (break_text kind at)
break-walks kind at (Some trace) = free-then of_a_session (λ u. broke_plan kind at) (traced_plan trace) (traced-walks trace) (λ u. written-line (break_text kind at))

after-end-walks : (end : End) (k n : ℕ) (b : Bool) → k ≤ n → (b ≡ true → is_run_told end ≡ true) → Walks of_a_session (Spared (λ r. k)) n b (after_end end)
unfolding Walks
after-end-walks (ending.Halted status) k n b l h = (l, λ e. refl)
after-end-walks (ending.Stopped pc reason) k n b l h = (l, λ e. refl)
after-end-walks (ending.Broke kind at traced) k n b l h = going-walks false (break_plan kind at traced) (break-walks kind at traced) k n b l
after-end-walks (ending.Traced trace) k n b l h = going-walks true (traced_plan trace) (traced-walks trace) k n b l
after-end-walks ending.Spent k n b l h = (l, λ e. refl)
after-end-walks ending.OutOfMemory k n b l h = (l, h)

one-run-walks : (steps : ℕ) (pass : Bool) → Spends (one_run_plan steps pass)
unfolding one_run_plan count_plan run_made Walks bind
one-run-walks steps pass k n b l = λ made m. (
  omega arith,
  λ end i. (
    omega arith,
    after-end-walks end k (n - 0 - 0) (b && true && is_run_told end) (omega (arith, l)) (λ e. (and_parts (b && true) (is_run_told end) e).1),
  ),
)

runs-walk : (most steps : ℕ) (pass : Bool) → Spends (runs_plan most steps pass)
unfolding runs_plan
runs-walk zero steps pass = free-answer {A = Unit {0}} of_a_session (Err Spent) refl
runs-walk (suc most) steps pass =
    free-then of_a_session (run_on (runs_plan most steps false)) (one_run_plan steps pass) (one-run-walks steps pass)
    (λ goes. free-choice of_a_session goes (runs_plan most steps false) (returns (Ok tt)) (runs-walk most steps false) (free-answer {A = Unit {0}} of_a_session (Ok tt) refl))

continued-walks : (steps : ℕ) → Spends (continued_plan steps)
unfolding continued_plan count_plan Walks bind
continued-walks steps k n b l = λ made m. (omega arith, runs-walk (steps - made) steps true k (n - 0) (b && true) (omega (arith, l)))

-- ---- commands

showing-walks : (shown : Option ℕ) (p : Part (Unit {0})) → Spends p → Spends (showing shown p)
showing-walks shown p h = free-then of_a_session (λ u. returns (Ok shown)) p h (λ u. free-answer of_a_session (Ok shown) refl)

judged-walks : (shown : Option ℕ) (command : Command) (bad : Option Bad) → Spends (judged shown command bad)
unfolding reply_plan Walks bind
judged-walks shown command (Some bad) k n b l = showing-walks shown (host_in_session (line_plan (bad_text bad))) (written-line (bad_text bad)) k n b l
judged-walks shown command None k n b l = λ r m. (
  omega arith,
  showing-walks r.0 (host_in_session (lines_plan r.1)) (λ i j c h. walks-on-host (Spared (λ u. i)) (lines_plan r.1) j c (free-lines r.1 i j c h)) k (n - 0) (b && true) (omega (arith, l)),
)

answered-walks : (shown : Option ℕ) (command : Command) → Spends (answered_plan shown command)
unfolding answered_plan judge_plan Walks bind
answered-walks shown command k n b l = λ bad m. (omega arith, judged-walks shown command bad k (n - 0) (b && true) (omega (arith, l)))

command-walks : (steps : ℕ) (shown : Option ℕ) (line : Option Command) → Spends (command_plan steps shown line)
unfolding command_plan
command-walks steps shown None = showing-walks shown (host_in_session (line_plan (bad_text UnknownCommand))) (written-line (bad_text UnknownCommand))
command-walks steps shown (Some Step) = showing-walks shown (stepped_plan steps) (stepped-walks steps)
command-walks steps shown (Some Continue) = showing-walks shown (continued_plan steps) (continued-walks steps)
command-walks steps shown (Some QuitCommand) = free-answer {A = Option ℕ} of_a_session (Err Quit) refl
command-walks steps shown (Some command) = answered-walks shown command

-- ---- lines and sessions

-- what may still be taken after a line
abbrev spare_dialog : Result Dialog SessionEnd → ℕ
spare_dialog (Ok d) = d.left
spare_dialog (Err end) = 0

abbrev Talking : ℕ → Bool → Part Dialog → Type 0
Talking n b p = Walks of_a_session (Spared spare_dialog) n b p

done-walks : (steps : ℕ) (shown : Option ℕ) (line : List ℕ × ℕ) (n : ℕ) (b : Bool) → line.1 ≤ n → Talking n b (line_done steps shown line)
unfolding Walks
done-walks steps shown line n b l =
    then-walks of_a_session (λ r. line.1) spare_dialog (λ s. returns (Ok (with_left line.1 s))) (command_plan steps shown (command_of (without_return line.0))) n b (λ end. omega arith)
    (command-walks steps shown (command_of (without_return line.0)) line.1 n b l) (λ s m c i. (i, λ e. refl))

one-line-walks : (steps : ℕ) (d : Dialog) (n : ℕ) (b : Bool) → d.left ≤ n → Talking n b (one_line_plan steps d)
unfolding one_line_plan
one-line-walks steps d n b l =
    then-walks of_a_session spare_line spare_dialog (line_done steps d.shown) (host_in_session (asking_plan d.left)) n b (λ end. omega arith)
    (walks-on-host (Spared spare_line) (asking_plan d.left) n b (asking-walks d.left n b l)) (λ line m c i. done-walks steps d.shown line m c i)

lines-walk : (most steps : ℕ) (d : Dialog) (n : ℕ) (b : Bool) → d.left ≤ n → Talking n b (lines_of_session most steps d)
unfolding lines_of_session Walks
lines-walk zero steps d n b l = (omega arith, λ e. refl)
lines-walk (suc most) steps d n b l =
    then-walks of_a_session spare_dialog spare_dialog (lines_of_session most steps) (one_line_plan steps d) n b (λ end. omega arith) (one-line-walks steps d n b l) (λ e m c i. lines-walk most steps e m c i)

-- an end of the session is other than that of no memory, if no call lacked it
abbrev EndsTold : SessionEnd → ℕ → Bool → Type 0
EndsTold end n b = b ≡ true → is_end_told end ≡ true

ended-walks : (r : Result Dialog SessionEnd) (n : ℕ) (b : Bool) → Spared spare_dialog r n b → Walks of_a_session EndsTold n b (end_of_session r)
unfolding Walks
ended-walks (Ok d) n b h = λ e. refl
ended-walks (Err end) n b h = h.1

session-walks : (steps : ℕ) → Walks of_a_session EndsTold most_input true (session_plan steps)
unfolding session_plan
session-walks steps =
    walks-bind of_a_session (Spared spare_dialog) EndsTold end_of_session (lines_of_session (most_input + 1) steps (with_left most_input None)) most_input true
    (lines-walk (most_input + 1) steps (with_left most_input None) most_input true (le_refl most_input)) ended-walks

-- ---- both laws

walks-take : {A : Type 0} (Post : A → ℕ → Bool → Type 0) (p : SessionPlan A) (n : ℕ) (b : Bool) → Walks of_a_session Post n b p → Takes (λ a. 0) n p
unfolding Walks Takes
walks-take Post (returns a) n b h = omega arith
walks-take Post (calls (of_host o) k) n b h = λ r m. ((h r m).0, walks-take Post (k r) (n - taken 258 o r) (b && is_host_told o r) (h r m).1)
walks-take Post (calls other k) n b h = λ r. let all : n - 0 ≡ n = omega arith in subst (λ i. Takes (λ a. 0) i (k r)) all (walks-take Post (k r) (n - 0) (b && is_say_told other r) (h r tt).1)

pub session-takes : (steps : ℕ) → TakesAtMost most_input (session_plan steps)
session-takes steps = walks-take EndsTold (session_plan steps) most_input true (session-walks steps)

-- where a call answers what it may, and not that memory ran out
abbrev pub SessionTold : (o : SessionCall) → SessionSays o → Type 0
SessionTold o r = MaySay o r × (is_say_told o r ≡ true)

walks-give : (p : SessionPlan SessionEnd) (n : ℕ) → Walks of_a_session EndsTold n true p → Gives SessionTold (λ end. is_end_told end ≡ true) p
unfolding Walks Gives
walks-give (returns end) n h = h refl
walks-give (calls o k) n h = λ r m. walks-give (k r) (n - took o r) (subst (λ b. Walks of_a_session EndsTold (n - took o r) b (k r)) m.1 (h r m.0).1)

pub session-gives : (steps : ℕ) → Gives SessionTold (λ end. is_end_told end ≡ true) (session_plan steps)
session-gives steps = walks-give (session_plan steps) most_input (session-walks steps)
