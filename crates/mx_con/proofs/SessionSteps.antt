-- Commands and sessions over the window's machine: what each plan comes to, by what the code made.
use Rattle.std.proofs.Common.{ℕ, ◌+◌, [], Option, None, Some, Result, Ok, Err, sym, ◌∙◌, ap}
use Rattle.mx_word.specs.Results.{map_ok}
use Rattle.mx_host.specs.HostModel.{HostModel}
use Rattle.mx_plan.specs.Plan.{end_after, Comes}
use Rattle.mx_plan.specs.Calls.{host}
use Rattle.mx_plan.proofs.Plans.{end_bind, end_returns, stops_first}
use Rattle.mx_core.specs.State.{State}
use Rattle.mx_run.specs.Runs.{FlagsOf}
use Rattle.mx_cmd.specs.declared.command.Command.{Command}
use Rattle.mx_cmd.specs.declared.command.Command.TheVariants as command
use Rattle.mx_show.specs.Texts.{state_text}
use Rattle.mx_con.specs.Judgement.{bad_text}
use Rattle.mx_con.specs.LinePlans.{text_plan, line_plan, lines_plan, LineRead, prompt, reading_plan, asking_plan}
use Rattle.mx_con.specs.Replies.{flag_lines, tetra_count}
use Rattle.mx_con.specs.SessionPlans.{SessionWorld, Part, conversing, host_in_session, stepped_plan, answered_plan, command_plan, with_left, lines_of_session, most_input, end_of_session, session_plan}
use Rattle.mx_con.specs.declared.dialog.Dialog.{Dialog}
use Rattle.mx_con.specs.declared.end.SessionEnd.{SessionEnd}
use Rattle.mx_con.specs.declared.end.SessionEnd.TheVariants.{Quit, Limit, OutOfMemory}
use Rattle.mx_con.specs.declared.judgement.Bad.TheVariants.{UnknownCommand}
use Rattle.mx_con.specs.Clauses.{DoesPlan}
use Rattle.mx_con.proofs.Parts.{part-so}
use Rattle.mx_con.proofs.Rests.{then-comes, part-ends, returned}
use Rattle.mx_con.proofs.ReplyPlans.{shows, state-comes, flags-comes}
use Rattle.mx_con.proofs.StepPlans.{host-comes}

-- ---- asking

pub asked-read : (left : ℕ) (u : Unit {0}) (m k n : HostModel) (r : LineRead) → Comes host m k (Err OutOfMemory) (Ok u) (text_plan prompt) → Comes host k n (Err OutOfMemory) r (reading_plan left []) →
    Comes host m n (Err OutOfMemory) r (asking_plan left)
unfolding asking_plan
asked-read left u m k n r h c = then-comes host (λ (v : Unit {0}). reading_plan left []) (text_plan prompt) u m k n r (h.ending (λ e. absurd (cc))) c

pub asked-over : (left : ℕ) (end : SessionEnd) (m n : HostModel) → Comes host m n (Err OutOfMemory) (Err end) (text_plan prompt) → Comes host m n (Err OutOfMemory) (Err end) (asking_plan left)
unfolding asking_plan
asked-over left end m n c = part-ends host (λ (v : Unit {0}). reading_plan left []) (text_plan prompt) end m n c

pub ruleset asking = (asked-read, asked-over)

-- ---- carrying out

pub unknown-comes : (steps : ℕ) (shown : Option ℕ) (s : State) (m n : HostModel) (f : FlagsOf) (r : Result (Unit {0}) SessionEnd) → Comes host m n (Err OutOfMemory) r (line_plan (bad_text UnknownCommand)) →
    Comes conversing ((s, m), f) ((s, n), f) (Err OutOfMemory) (map_ok (λ u. shown) r) (command_plan steps shown None)
unfolding command_plan
unknown-comes steps shown s m n f r c =
    shows shown (host_in_session (line_plan (bad_text UnknownCommand))) ((s, m), f) ((s, n), f) r (host-comes (line_plan (bad_text UnknownCommand)) s m n f (Err OutOfMemory) r c)

pub step-comes : (steps : ℕ) (shown : Option ℕ) (v w : SessionWorld) (r : Result (Unit {0}) SessionEnd) → Comes conversing v w (Err OutOfMemory) r (stepped_plan steps) →
    Comes conversing v w (Err OutOfMemory) (map_ok (λ u. shown) r) (command_plan steps shown (Some command.Step))
unfolding command_plan
step-comes steps shown v w r c = shows shown (stepped_plan steps) v w r c

pub quit-comes : (steps : ℕ) (shown : Option ℕ) (w : SessionWorld) → Comes conversing w w (Err OutOfMemory) (Err Quit) (command_plan steps shown (Some command.Quit))
unfolding command_plan
quit-comes steps shown w = returned conversing (Err Quit) w (λ e. absurd (cc))

pub shown-state : (steps : ℕ) (shown : Option ℕ) (s : State) (m n : HostModel) (f : FlagsOf) (r : Result (Unit {0}) SessionEnd) → Comes host m n (Err OutOfMemory) r (line_plan (state_text s)) →
    Comes conversing ((s, m), f) ((s, n), f) (Err OutOfMemory) (map_ok (λ u. shown) r) (command_plan steps shown (Some command.State))
unfolding command_plan
shown-state steps shown s m n f r c = state-comes shown s m n f r c

pub shown-flags : (steps : ℕ) (shown : Option ℕ) (s : State) (m n : HostModel) (f : FlagsOf) (r : Result (Unit {0}) SessionEnd) → Comes host m n (Err OutOfMemory) r (lines_plan (flag_lines f 0 tetra_count)) →
    Comes conversing ((s, m), f) ((s, n), f) (Err OutOfMemory) (map_ok (λ u. shown) r) (command_plan steps shown (Some command.Flags))
unfolding command_plan
shown-flags steps shown s m n f r c = flags-comes shown s m n f r c

-- the others are what is answered
abbrev pub IsAnswered : Command → Type 0
IsAnswered command.Step = ⊥
IsAnswered command.Continue = ⊥
IsAnswered command.Quit = ⊥
IsAnswered other = Unit {0}

pub answered-comes : (steps : ℕ) (shown : Option ℕ) (v w : SessionWorld) (r : Result (Option ℕ) SessionEnd) (command : Command) → IsAnswered command →
    Comes conversing v w (Err OutOfMemory) r (answered_plan shown command) → Comes conversing v w (Err OutOfMemory) r (command_plan steps shown (Some command))
unfolding command_plan
answered-comes steps shown v w r command.Step i c = absurd i
answered-comes steps shown v w r command.Continue i c = absurd i
answered-comes steps shown v w r command.Quit i c = absurd i
answered-comes steps shown v w r command i c = c

pub answered-part : {Host : Type 0} {says : Host → Option HostModel} {faults : Host → ℕ} {a b : Host} {v w : SessionWorld} {r : Result (Option ℕ) SessionEnd} (steps : ℕ) (shown : Option ℕ) (command : Command) → IsAnswered command →
    DoesPlan conversing says faults a b v w r (answered_plan shown command) → DoesPlan conversing says faults a b v w r (command_plan steps shown (Some command))
answered-part {v = v} {w = w} {r = r} steps shown command i h = part-so h (λ c. answered-comes steps shown v w r command i c)

-- ---- a session

abbrev all : ℕ → Part Dialog
all steps = lines_of_session (most_input + 1) steps (with_left most_input None)

pub session-over : (steps : ℕ) (end : SessionEnd) (v w : SessionWorld) → Comes conversing v w (Err OutOfMemory) (Err end) (lines_of_session (most_input + 1) steps (with_left most_input None)) →
    Comes conversing v w OutOfMemory end (session_plan steps)
unfolding session_plan
session-over steps end v w c = record {
  ending = λ ne. sym (end_bind conversing end_of_session (all steps) v ∙ ap (end_after conversing end_of_session) (sym (c.ending (λ e. ne (cc)))) ∙ end_returns conversing end w);
  stopping = λ h. stops_first conversing end_of_session (all steps) w v (c.stopping (ap Err h));
}

pub session-limit : (steps : ℕ) (d : Dialog) (v w : SessionWorld) → Comes conversing v w (Err OutOfMemory) (Ok d) (lines_of_session (most_input + 1) steps (with_left most_input None)) →
    Comes conversing v w OutOfMemory Limit (session_plan steps)
unfolding session_plan
session-limit steps d v w c = record {
  ending = λ ne. sym (end_bind conversing end_of_session (all steps) v ∙ ap (end_after conversing end_of_session) (sym (c.ending (λ e. absurd (cc)))) ∙ end_returns conversing Limit w);
  stopping = λ h. absurd (cc);
}
