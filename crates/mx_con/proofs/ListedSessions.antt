-- Lines and sessions over both machines.
use Rattle.std.proofs.Common.{◌≡◌, ◌≢◌, ℕ, suc, ◌+◌, ◌-◌, ◌<◌, ◌≤◌, List, Option, None, Some, Result, Ok, Err, refl, sym, ◌∙◌, ap, subst, false, arith}
use Rattle.mx_host.specs.HostModel.{HostModel}
use Rattle.mx_word.specs.Results.{map_ok}
use Rattle.mx_plan.specs.Plan.{returns, bind, Comes}
use Rattle.mx_plan.specs.Calls.{host}
use Rattle.mx_plan.specs.Wild.{Course, ends, meets_wild, course}
use Rattle.mx_plan.proofs.WildLaws.{course_bind}
use Rattle.mx_core.specs.Bounds.{as_list_state}
use Rattle.mx_core.specs.State.{State}
use Rattle.mx_run.specs.Runs.{FlagsOf}
use Rattle.mx_run.specs.WildRuns.{list_machine, HasWindow}
use Rattle.mx_run.proofs.Areas.{has-window}
use Rattle.mx_cmd.specs.Commands.{command_of}
use Rattle.mx_cmd.specs.declared.command.Command.{Command}
use Rattle.mx_cmd.specs.declared.command.Command.TheVariants as command
use Rattle.mx_con.specs.Clauses.{DoesSessionPart, as_list_world, IsUntouched, GoesAsList, ConversesBoth, RestsBoth}
use Rattle.mx_con.specs.LinePlans.{on_ok, LineRead, asking_plan, without_return}
use Rattle.mx_con.specs.Session.{session_goes, session}
use Rattle.mx_con.specs.SessionPlans.{SessionWorld, SessionPlan, Part, conversing, host_in_session, showing, continued_plan, stepped_plan, command_plan, with_left, line_done, one_line_plan, lines_of_session, most_input, end_of_session, session_plan}
use Rattle.mx_con.specs.declared.dialog.Dialog.{Dialog}
use Rattle.mx_con.specs.declared.end.SessionEnd.{SessionEnd}
use Rattle.mx_con.specs.declared.end.SessionEnd.TheVariants.{Quit, Limit, OutOfMemory}
use Rattle.mx_con.specs.declared.judgement.Bad.TheVariants.{UnknownCommand}
use Rattle.mx_con.proofs.ListedReplies.{listed-showing, listed-refused, listed-answered}
use Rattle.mx_con.proofs.ListedRuns.{listed-stepped}
use Rattle.mx_con.proofs.Parts.{IsLeft, part-so, all-left, next-left, over-left, answer-left}
use Rattle.mx_con.proofs.SessionBoth.{Listed, listed-returns, listed-host, listed-both, goes-on, done-both, then-both, over-both, all-both, rest-next, rest-over, rest-answer}
use Rattle.mx_con.proofs.StepPlans.{host-comes}

pub ruleset windows = (has-window)

-- ---- commands

-- all but the one that goes on
abbrev pub Pauses : Option Command → Type 0
Pauses (Some command.Continue) = ⊥
Pauses other = Unit {0}

listed-command : (steps : ℕ) (shown : Option ℕ) (line : Option Command) (s : State) (m : HostModel) (f : FlagsOf) → Pauses line → HasWindow s → IsUntouched ((s, m), f) → Listed (command_plan steps shown line) ((s, m), f)
unfolding command_plan
listed-command steps shown None s m f p h u = listed-refused shown UnknownCommand s m f u
listed-command steps shown (Some command.Step) s m f p h u = listed-showing shown (stepped_plan steps) ((s, m), f) (listed-stepped steps s m f h u)
listed-command steps shown (Some command.Continue) s m f p h u = absurd p
listed-command steps shown (Some command.Quit) s m f p h u = listed-returns (Err Quit) ((s, m), f) u
listed-command steps shown (Some line) s m f p h u = listed-answered shown line s h.window m f h.machine u

-- what the code knows of such a command over the window is what is asked of it over both
pub command-part : {Host : Type 0} {says : Host → Option HostModel} {faults : Host → ℕ} {a b : Host} {s : State} {m : HostModel} {f : FlagsOf} {w : SessionWorld} {r : Result (Option ℕ) SessionEnd}
    (steps : ℕ) (shown : Option ℕ) (line : Option Command) → Pauses line → HasWindow s → DoesSessionPart says faults a b r (Comes conversing ((s, m), f) w (Err OutOfMemory) r (command_plan steps shown line)) →
    DoesSessionPart says faults a b r (ConversesBoth ((s, m), f) w (Err OutOfMemory) r (command_plan steps shown line))
command-part {s = s} {m = m} {f = f} {w = w} {r = r} steps shown line p h k =
    part-so k (λ c. listed-both (command_plan steps shown line) (Err OutOfMemory) r ((s, m), f) w (listed-command steps shown line s m f p h) c)

-- a part, with what is shown where it is done
pub shows-both : (shown : Option ℕ) (p : Part (Unit {0})) (v w : SessionWorld) (r : Result (Unit {0}) SessionEnd) → ConversesBoth v w (Err OutOfMemory) r p →
    ConversesBoth v w (Err OutOfMemory) (map_ok (λ u. shown) r) (showing shown p)
shows-both shown p v w (Ok u) c = then-both (λ (x : Unit {0}). returns (Ok shown)) p u v w w (Ok shown) c (done-both (Ok shown) w (λ e. absurd (cc)))
shows-both shown p v w (Err end) c = over-both (λ (x : Unit {0}). returns (Ok shown)) p end v w c

pub continue-both : (steps : ℕ) (shown : Option ℕ) (v w : SessionWorld) (r : Result (Unit {0}) SessionEnd) → ConversesBoth v w (Err OutOfMemory) r (continued_plan steps) →
    ConversesBoth v w (Err OutOfMemory) (map_ok (λ u. shown) r) (command_plan steps shown (Some command.Continue))
unfolding command_plan
continue-both steps shown v w r c = shows-both shown (continued_plan steps) v w r c

-- ---- one line

with-left : (left : ℕ) (shown : Option ℕ) (v w : SessionWorld) (r : Result (Unit {0}) SessionEnd) (p : Part (Option ℕ)) → ConversesBoth v w (Err OutOfMemory) (map_ok (λ u. shown) r) p →
    ConversesBoth v w (Err OutOfMemory) (map_ok (λ u. with_left left shown) r) (bind (on_ok (λ s. returns (Ok (with_left left s)))) p)
with-left left shown v w (Ok u) p c = then-both (λ (s : Option ℕ). returns (Ok (with_left left s))) p shown v w w (Ok (with_left left shown)) c (done-both (Ok (with_left left shown)) w (λ e. absurd (cc)))
with-left left shown v w (Err end) p c = over-both (λ (s : Option ℕ). returns (Ok (with_left left s))) p end v w c

asked-both : (left : ℕ) (s : State) (m n : HostModel) (f : FlagsOf) (r : LineRead) → Comes host m n (Err OutOfMemory) r (asking_plan left) → ConversesBoth ((s, m), f) ((s, n), f) (Err OutOfMemory) r (host_in_session (asking_plan left))
asked-both left s m n f r c = listed-both (host_in_session (asking_plan left)) (Err OutOfMemory) r ((s, m), f) ((s, n), f) (listed-host (asking_plan left) s m f) (host-comes (asking_plan left) s m n f (Err OutOfMemory) r c)

pub line-carried : (steps left after : ℕ) (shown next : Option ℕ) (text : List ℕ) (line : Option Command) (s : State) (m k : HostModel) (f : FlagsOf) (w : SessionWorld) (r : Result (Unit {0}) SessionEnd) →
    Comes host m k (Err OutOfMemory) (Ok (text, after)) (asking_plan left) → line ≡ command_of (without_return text) →
    ConversesBoth ((s, k), f) w (Err OutOfMemory) (map_ok (λ u. next) r) (command_plan steps shown line) →
    ConversesBoth ((s, m), f) w (Err OutOfMemory) (map_ok (λ u. with_left after next) r) (one_line_plan steps (with_left left shown))
unfolding one_line_plan
line-carried steps left after shown next text line s m k f w r h e c =
    then-both (line_done steps shown) (host_in_session (asking_plan left)) (text, after) ((s, m), f) ((s, k), f) w (map_ok (λ u. with_left after next) r) (asked-both left s m k f (Ok (text, after)) h)
    (with-left after next ((s, k), f) w r (command_plan steps shown (command_of (without_return text)))
    (subst (λ x. ConversesBoth ((s, k), f) w (Err OutOfMemory) (map_ok (λ u. next) r) (command_plan steps shown x)) e c))

pub line-over : (steps left : ℕ) (shown : Option ℕ) (end : SessionEnd) (s : State) (m n : HostModel) (f : FlagsOf) → Comes host m n (Err OutOfMemory) (Err end) (asking_plan left) →
    ConversesBoth ((s, m), f) ((s, n), f) (Err OutOfMemory) (Err end) (one_line_plan steps (with_left left shown))
unfolding one_line_plan
line-over steps left shown end s m n f c = over-both (line_done steps shown) (host_in_session (asking_plan left)) end ((s, m), f) ((s, n), f) (asked-both left s m n f (Err end) c)

-- ---- all lines

left-after : (k i : ℕ) → i < k → k - i ≡ suc (k - (i + 1))
left-after k i l = omega arith

-- lines from this one on are left
abbrev pub LinesLeft : {Host : Type 0} → (Host → Option HostModel) → (Host → ℕ) → Host → Host → SessionWorld → SessionWorld → ℕ → ℕ → ℕ → Dialog → Part Dialog → Type 0
LinesLeft says faults a b start now k i steps d whole = IsLeft says faults a b (RestsBoth (lines_of_session (k - i) steps d) now whole start)

pub lines-begun : {Host : Type 0} (says : Host → Option HostModel) (faults : Host → ℕ) (a : Host) (w : SessionWorld) (k steps : ℕ) (d : Dialog) → LinesLeft says faults a a w w k 0 steps d (lines_of_session k steps d)
lines-begun says faults a w k steps d = let all : k - 0 ≡ k = omega arith in rw all (all-left a (λ t. all-both (lines_of_session k steps d) w))

lines-more : (k i steps : ℕ) (d : Dialog) → i < k → lines_of_session (k - i) steps d ≡ bind (on_ok (lines_of_session (k - (i + 1)) steps)) (one_line_plan steps d)
unfolding lines_of_session
lines-more k i steps d l = rw (left-after k i l) refl

one-and-more : (start v : SessionWorld) (k i steps : ℕ) (d : Dialog) (whole : Part Dialog) → i < k → RestsBoth (lines_of_session (k - i) steps d) v whole start →
    RestsBoth (bind (on_ok (lines_of_session (k - (i + 1)) steps)) (one_line_plan steps d)) v whole start
one-and-more start v k i steps d whole l h = subst (λ p. RestsBoth p v whole start) (lines-more k i steps d l) h

abbrev OneLine : {Host : Type 0} → (Host → Option HostModel) → (Host → ℕ) → Host → Host → SessionWorld → SessionWorld → ℕ → Dialog → Result Dialog SessionEnd → Type 0
OneLine says faults b c v w steps d r = DoesSessionPart says faults b c r (ConversesBoth v w (Err OutOfMemory) r (one_line_plan steps d))

pub lines-went : {Host : Type 0} (says : Host → Option HostModel) (faults : Host → ℕ) (a b c : Host) (start v w : SessionWorld) (k i steps : ℕ) (d e : Dialog) (whole : Part Dialog) → i < k →
    LinesLeft says faults a b start v k i steps d whole → OneLine says faults b c v w steps d (Ok e) → LinesLeft says faults a c start w k (i + 1) steps e whole
lines-went says faults a b c start v w k i steps d e whole l h n =
    next-left h n (λ r o. rest-next (lines_of_session (k - (i + 1)) steps) (one_line_plan steps d) e v w start whole (one-and-more start v k i steps d whole l r) o)

pub lines-over : {Host : Type 0} (says : Host → Option HostModel) (faults : Host → ℕ) (a b c : Host) (start v w : SessionWorld) (k i steps : ℕ) (d : Dialog) (end : SessionEnd) (whole : Part Dialog) → i < k →
    LinesLeft says faults a b start v k i steps d whole → OneLine says faults b c v w steps d (Err end) → DoesSessionPart {A = Dialog} says faults a c (Err end) (ConversesBoth start w (Err OutOfMemory) (Err end) whole)
lines-over says faults a b c start v w k i steps d end whole l h n =
    over-left end h n (λ r o. rest-over (lines_of_session (k - (i + 1)) steps) (one_line_plan steps d) end v w start whole (one-and-more start v k i steps d whole l r) o)

pub lines-limit : {Host : Type 0} (says : Host → Option HostModel) (faults : Host → ℕ) (a b : Host) (start w : SessionWorld) (k i steps : ℕ) (d : Dialog) (whole : Part Dialog) → k ≤ i →
    LinesLeft says faults a b start w k i steps d whole → DoesSessionPart {A = Dialog} says faults a b (Err Limit) (ConversesBoth start w (Err OutOfMemory) (Err Limit) whole)
unfolding lines_of_session
lines-limit says faults a b start w k i steps d whole l h =
    let none : k - i ≡ 0 = omega arith in
    answer-left (λ o. absurd (cc)) h (λ r. rest-answer (Err Limit) w start whole (λ o. absurd (cc)) (subst (λ n. RestsBoth (lines_of_session n steps d) w whole start) none r))

-- ---- a session

abbrev all : ℕ → Part Dialog
all steps = lines_of_session (most_input + 1) steps (with_left most_input None)

session-listed : (steps : ℕ) (r : Result Dialog SessionEnd) (end : SessionEnd) (s : State) (f : FlagsOf) (m : HostModel) (w : SessionWorld) → end_of_session r ≡ returns end → r ≢ Err OutOfMemory →
    ConversesBoth ((s, m), f) w (Err OutOfMemory) r (all steps) → s.touched ≡ false → GoesAsList (session list_machine steps (as_list_state s) f m) end w
unfolding session session_plan course
session-listed steps r end s f m w e ne c u =
    subst (λ (x : Course SessionEnd SessionWorld). GoesAsList x end w) (sym (course_bind (session_goes list_machine) end_of_session (all steps) ((as_list_state s, m), f)))
    (goes-on end_of_session r w w end (course (session_goes list_machine) (all steps) ((as_list_state s, m), f)) (c.list u ne) (λ v h. h)
    (λ b. subst (λ (q : SessionPlan SessionEnd). GoesAsList (course (session_goes list_machine) q (as_list_world w)) end w) (sym e) (refl, (refl, b))))

pub session-over-listed : (steps : ℕ) (end : SessionEnd) (s : State) (f : FlagsOf) (m : HostModel) (w : SessionWorld) → end ≢ OutOfMemory → ConversesBoth ((s, m), f) w (Err OutOfMemory) (Err end) (all steps) → s.touched ≡ false →
    GoesAsList (session list_machine steps (as_list_state s) f m) end w
session-over-listed steps end s f m w ne c u = session-listed steps (Err end) end s f m w refl (λ e. ne (cc)) c u

pub session-limit-listed : (steps : ℕ) (d : Dialog) (s : State) (f : FlagsOf) (m : HostModel) (w : SessionWorld) → ConversesBoth ((s, m), f) w (Err OutOfMemory) (Ok d) (all steps) → s.touched ≡ false →
    GoesAsList (session list_machine steps (as_list_state s) f m) Limit w
session-limit-listed steps d s f m w c u = session-listed steps (Ok d) Limit s f m w refl (λ e. absurd (cc)) c u
