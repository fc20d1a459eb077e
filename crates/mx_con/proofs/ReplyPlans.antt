-- What the plan of a command comes to that makes no step.
use Rattle.std.proofs.Common.{◌≡◌, inl, inr, ℕ, ◌+◌, ◌*◌, ◌/◌, List, [], ◌∷◌, Bool, true, false, Option, None, Some, Result, Ok, Err, refl, sym, ◌∙◌, ap, subst}
use Rattle.mx_word.specs.Results.{map_ok}
use Rattle.mx_host.specs.HostModel.{HostModel}
use Rattle.mx_plan.specs.Plan.{returns, bind, end_of, Stops, Comes}
use Rattle.mx_plan.specs.Calls.{host}
use Rattle.mx_text.specs.declared.numbers.Form.{Form}
use Rattle.mx_text.specs.declared.numbers.Form.TheVariants.{Hex}
use Rattle.mx_core.specs.Way.Changed.{left_changed}
use Rattle.mx_core.specs.UserChanges.{at_address}
use Rattle.mx_word.specs.Segments.{is_in_stack_segment}
use Rattle.mx_core.specs.State.{State, octa, special_register}
use Rattle.mx_core.specs.declared.changes.SetFault.{SetFault}
use Rattle.mx_run.specs.FlagMaps.{with_flags}
use Rattle.mx_run.specs.Runs.{FlagsOf}
use Rattle.mx_cmd.specs.declared.command.Breaks.{Breaks}
use Rattle.mx_cmd.specs.declared.command.Command.{Command}
use Rattle.mx_cmd.specs.declared.command.Command.TheVariants as command
use Rattle.mx_cmd.specs.declared.command.Subject.{Subject}
use Rattle.mx_cmd.specs.declared.command.Subject.TheVariants.{Register, Global, Special, Memory}
use Rattle.mx_show.specs.Texts.{state_text}
use Rattle.mx_con.specs.Judgement.{bad_text, subject_bad, more_bad, go_to_bad, flag_bad, command_bad, command_wild}
use Rattle.mx_con.specs.LinePlans.{on_ok, line_plan, lines_plan}
use Rattle.mx_con.specs.Replies.{reply, reply_to, noted_if, shown_after, octas_after, flag_lines, tetra_count, with_breaks, with_trace}
use Rattle.mx_con.specs.SessionPlans.{SessionWorld, Part, conversing, host_in_session, reply_plan, judge_plan, showing, judged, answered_plan}
use Rattle.mx_show.specs.Subjects.{subject_wild, subject_changed, shown_line, octa_shown}
use Rattle.mx_con.specs.declared.end.SessionEnd.{SessionEnd}
use Rattle.mx_con.specs.declared.end.SessionEnd.TheVariants.{OutOfMemory}
use Rattle.mx_con.specs.declared.judgement.Bad.{Bad}
use Rattle.mx_con.specs.declared.judgement.Bad.TheVariants.{BadNumber, CannotChange}
use Rattle.mx_plan.proofs.Plans.{stops_first}
use Rattle.mx_con.proofs.LineEnds.{line-lacks, one-line-comes, no-lines-come}
use Rattle.mx_con.proofs.SessionCourses.{stops_on_host}
use Rattle.mx_con.proofs.Rests.{then-comes, part-ends, returned}
use Rattle.mx_con.proofs.StepPlans.{host-comes}

-- ---- what is written, and then shown

pub shows : (shown : Option ℕ) (q : Part (Unit {0})) (v w : SessionWorld) (r : Result (Unit {0}) SessionEnd) → Comes conversing v w (Err OutOfMemory) r q →
    Comes conversing v w (Err OutOfMemory) (map_ok (λ u. shown) r) (showing shown q)
shows shown q v w (Ok u) c = then-comes conversing (λ (x : Unit {0}). returns (Ok shown)) q u v w w (Ok shown) (c.ending (λ e. absurd (cc))) (returned conversing (Ok shown) w (λ e. absurd (cc)))
shows shown q v w (Err end) c = part-ends conversing (λ (x : Unit {0}). returns (Ok shown)) q end v w c

-- ---- any command: it is bad; it lacks memory; or it is answered, and these lines are written

pub refused-comes : (shown : Option ℕ) (command : Command) (bad : Bad) (s : State) (m n : HostModel) (f : FlagsOf) (r : Result (Unit {0}) SessionEnd) → command_bad s shown command ≡ Some bad →
    Comes host m n (Err OutOfMemory) r (line_plan (bad_text bad)) → Comes conversing ((s, m), f) ((s, n), f) (Err OutOfMemory) (map_ok (λ u. shown) r) (answered_plan shown command)
unfolding answered_plan judge_plan bind end_of Stops conversing
refused-comes shown command bad s m n f r e c =
    let line = host_in_session (line_plan (bad_text bad)) in
    let h = shows shown line ((s, m), f) ((s, n), f) r (host-comes (line_plan (bad_text bad)) s m n f (Err OutOfMemory) r c) in
    record {
      ending = λ ne. h.ending ne ∙ sym (ap (λ (b : Option Bad). end_of conversing (judged shown command b) ((s, m), f)) e);
      stopping = λ o. inr (subst (λ (b : Option Bad). Stops conversing ((s, n), f) (judged shown command b) ((s, m), f)) (sym e) (h.stopping o));
    }

lacks-judged : (shown : Option ℕ) (command : Command) (w : SessionWorld) (bad : Option Bad) → Stops conversing w (judged shown command bad) w
unfolding reply_plan bind Stops conversing
lacks-judged shown command w (Some bad) =
    stops_first conversing (on_ok (λ (u : Unit {0}). returns (Ok shown))) (host_in_session (line_plan (bad_text bad))) w w
    (stops_on_host (line_plan (bad_text bad)) w.0.0 w.0.1 w.0.1 w.1 (line-lacks (bad_text bad) w.0.1 w.0.1 refl))
lacks-judged shown command w None = inl refl

pub lacked-comes : (shown : Option ℕ) (command : Command) (w : SessionWorld) → Comes conversing w w (Err OutOfMemory) (Err OutOfMemory) (answered_plan shown command)
unfolding answered_plan judge_plan bind Stops conversing
lacked-comes shown command w = record {
  ending = λ ne. absurd (ne refl);
  stopping = λ o. inr (lacks-judged shown command w (command_bad w.0.0 shown command));
}

pub replied-comes : (shown after : Option ℕ) (command : Command) (ls : List (List ℕ)) (s t : State) (m n : HostModel) (f g : FlagsOf) (r : Result (Unit {0}) SessionEnd) →
    command_bad s shown command ≡ None → reply_to s f shown command ≡ reply t g after ls → Comes host m n (Err OutOfMemory) r (lines_plan ls) →
    Comes conversing ((s, m), f) ((t, n), g) (Err OutOfMemory) (map_ok (λ u. after) r) (answered_plan shown command)
unfolding answered_plan judge_plan reply_plan bind end_of Stops conversing
replied-comes shown after command ls s t m n f g r e d c =
    let h = shows after (host_in_session (lines_plan ls)) ((t, m), g) ((t, n), g) r (host-comes (lines_plan ls) t m n g (Err OutOfMemory) r c) in
    record {
      ending = λ ne. h.ending ne ∙ sym (ap (λ (b : Option Bad). end_of conversing (judged shown command b) ((s, m), f)) e ∙ ap (λ x. end_of conversing (showing x.shown (host_in_session (lines_plan x.lines))) ((x.state, m), x.flags)) d);
      stopping = λ o. inr (subst (λ (b : Option Bad). Stops conversing ((t, n), g) (judged shown command b) ((s, m), f)) (sym e)
          (inr (subst (λ x. Stops conversing ((t, n), g) (showing x.shown (host_in_session (lines_plan x.lines))) ((x.state, m), x.flags)) (sym d) (h.stopping o))));
    }

-- ---- each command

pub state-comes : (shown : Option ℕ) (s : State) (m n : HostModel) (f : FlagsOf) (r : Result (Unit {0}) SessionEnd) → Comes host m n (Err OutOfMemory) r (line_plan (state_text s)) →
    Comes conversing ((s, m), f) ((s, n), f) (Err OutOfMemory) (map_ok (λ u. shown) r) (answered_plan shown command.State)
unfolding command_bad reply_to command_wild
state-comes shown s m n f r c = replied-comes shown shown command.State (state_text s ∷ []) s s m n f f r refl refl (one-line-comes (state_text s) m n r c)

pub flags-comes : (shown : Option ℕ) (s : State) (m n : HostModel) (f : FlagsOf) (r : Result (Unit {0}) SessionEnd) → Comes host m n (Err OutOfMemory) r (lines_plan (flag_lines f 0 tetra_count)) →
    Comes conversing ((s, m), f) ((s, n), f) (Err OutOfMemory) (map_ok (λ u. shown) r) (answered_plan shown command.Flags)
unfolding command_bad reply_to command_wild
flags-comes shown s m n f r c = replied-comes shown shown command.Flags (flag_lines f 0 tetra_count) s s m n f f r refl refl c

pub show-refused : (shown : Option ℕ) (subject : Subject) (form : Form) (bad : Bad) (s : State) (m n : HostModel) (f : FlagsOf) (r : Result (Unit {0}) SessionEnd) → subject_bad s subject ≡ Some bad →
    Comes host m n (Err OutOfMemory) r (line_plan (bad_text bad)) → Comes conversing ((s, m), f) ((s, n), f) (Err OutOfMemory) (map_ok (λ u. shown) r) (answered_plan shown (command.Show subject form))
unfolding command_bad
show-refused shown subject form bad s m n f r e c = refused-comes shown (command.Show subject form) bad s m n f r e c

line-noted : (b : Bool) (s : State) (subject : Subject) (form : Form) → shown_line (noted_if b s) subject form ≡ shown_line s subject form
unfolding shown_line octa_shown octa special_register
line-noted false s subject form = refl
line-noted true s (Register n) form = refl
line-noted true s (Global n) form = refl
line-noted true s (Special code) form = refl
line-noted true s (Memory a) form = refl

-- the line that is shown is as it was before the note
shown-of : (b : Bool) (s t : State) (subject : Subject) (form : Form) → t ≡ noted_if b s → shown_line t subject form ≡ shown_line s subject form
shown-of b s t subject form e = ap (λ (x : State). shown_line x subject form) e ∙ line-noted b s subject form

pub show-comes : (shown : Option ℕ) (subject : Subject) (form : Form) (s t : State) (m n : HostModel) (f g : FlagsOf) (r : Result (Unit {0}) SessionEnd) → subject_bad s subject ≡ None →
    t ≡ noted_if (subject_wild subject) s → g ≡ f → Comes host m n (Err OutOfMemory) r (line_plan (shown_line t subject form)) →
    Comes conversing ((s, m), f) ((t, n), g) (Err OutOfMemory) (map_ok (λ u. shown_after subject shown) r) (answered_plan shown (command.Show subject form))
unfolding command_bad reply_to command_wild
show-comes shown subject form s t m n f g r e k h c =
    let line = subst (λ (x : List ℕ). Comes host m n (Err OutOfMemory) r (line_plan x)) (shown-of (subject_wild subject) s t subject form k) c in
    rw (k, h) (replied-comes shown (shown_after subject shown) (command.Show subject form) (shown_line s subject form ∷ []) s (noted_if (subject_wild subject) s) m n f f r e refl
    (one-line-comes (shown_line s subject form) m n r line))

pub change-unread : (shown : Option ℕ) (subject : Subject) (s : State) (m n : HostModel) (f : FlagsOf) (r : Result (Unit {0}) SessionEnd) →
    Comes host m n (Err OutOfMemory) r (line_plan (bad_text BadNumber)) → Comes conversing ((s, m), f) ((s, n), f) (Err OutOfMemory) (map_ok (λ u. shown) r) (answered_plan shown (command.Change subject None))
unfolding command_bad
change-unread shown subject s m n f r c = refused-comes shown (command.Change subject None) BadNumber s m n f r refl c

pub change-refused : (shown : Option ℕ) (subject : Subject) (value : ℕ) (bad : Bad) (s : State) (m n : HostModel) (f : FlagsOf) (r : Result (Unit {0}) SessionEnd) → subject_bad s subject ≡ Some bad →
    Comes host m n (Err OutOfMemory) r (line_plan (bad_text bad)) → Comes conversing ((s, m), f) ((s, n), f) (Err OutOfMemory) (map_ok (λ u. shown) r) (answered_plan shown (command.Change subject (Some value)))
unfolding command_bad
change-refused shown subject value bad s m n f r e c = refused-comes shown (command.Change subject (Some value)) bad s m n f r (rw e refl) c

abbrev left_state : Result (Unit {0}) SetFault × State → Result State SetFault
left_state (Ok u, t) = Ok t
left_state (Err e, t) = Err e

left-back : (s : State) (r : Result State SetFault) → left_state (left_changed s r) ≡ r
left-back s (Ok t) = refl
left-back s (Err e) = refl

left-ok : (s t : State) (r : Result State SetFault) → (Ok tt, t) ≡ left_changed s r → r ≡ Ok t
left-ok s t r h = sym (ap left_state h ∙ left-back s r)

left-err : (s t : State) (fault : SetFault) (r : Result State SetFault) → (Err fault, t) ≡ left_changed s r → r ≡ Err fault
left-err s t fault r h = sym (ap left_state h ∙ left-back s r)

pub change-not_allowed : (shown : Option ℕ) (subject : Subject) (value : ℕ) (fault : SetFault) (s t : State) (m n : HostModel) (f g : FlagsOf) (r : Result (Unit {0}) SessionEnd) → subject_bad s subject ≡ None →
    (Err fault, t) ≡ left_changed s (subject_changed s subject value) → t ≡ s → g ≡ f → Comes host m n (Err OutOfMemory) r (line_plan (bad_text CannotChange)) →
    Comes conversing ((s, m), f) ((t, n), g) (Err OutOfMemory) (map_ok (λ u. shown) r) (answered_plan shown (command.Change subject (Some value)))
unfolding command_bad
change-not_allowed shown subject value fault s t m n f g r e h k i c =
    rw (k, i) (refused-comes shown (command.Change subject (Some value)) CannotChange s m n f r (rw (e, left-err s t fault (subject_changed s subject value) h) refl) c)

pub change-comes : (shown : Option ℕ) (subject : Subject) (value : ℕ) (s t u : State) (m n : HostModel) (f g : FlagsOf) (r : Result (Unit {0}) SessionEnd) → subject_bad s subject ≡ None →
    (Ok tt, t) ≡ left_changed s (subject_changed s subject value) → u ≡ noted_if (subject_wild subject) t → g ≡ f → Comes host m n (Err OutOfMemory) r (line_plan (shown_line u subject Hex)) →
    Comes conversing ((s, m), f) ((u, n), g) (Err OutOfMemory) (map_ok (λ u. shown_after subject shown) r) (answered_plan shown (command.Change subject (Some value)))
unfolding command_bad reply_to command_wild
change-comes shown subject value s t u m n f g r e h k i c =
    let made = left-ok s t (subject_changed s subject value) h in
    let line = subst (λ (x : List ℕ). Comes host m n (Err OutOfMemory) r (line_plan x)) (shown-of (subject_wild subject) t u subject Hex k) c in
    rw (k, i) (replied-comes shown (shown_after subject shown) (command.Change subject (Some value)) (shown_line t subject Hex ∷ []) s (noted_if (subject_wild subject) t) m n f f r
    (rw (e, made) refl) (rw made refl) (one-line-comes (shown_line t subject Hex) m n r line))

pub more-unread : (shown : Option ℕ) (form : Form) (s : State) (m n : HostModel) (f : FlagsOf) (r : Result (Unit {0}) SessionEnd) →
    Comes host m n (Err OutOfMemory) r (line_plan (bad_text BadNumber)) → Comes conversing ((s, m), f) ((s, n), f) (Err OutOfMemory) (map_ok (λ u. shown) r) (answered_plan shown (command.ShowMore None form))
unfolding command_bad
more-unread shown form s m n f r c = refused-comes shown (command.ShowMore None form) BadNumber s m n f r refl c

pub more-refused : (shown : Option ℕ) (count : ℕ) (form : Form) (bad : Bad) (s : State) (m n : HostModel) (f : FlagsOf) (r : Result (Unit {0}) SessionEnd) → more_bad shown (Some count) ≡ Some bad →
    Comes host m n (Err OutOfMemory) r (line_plan (bad_text bad)) → Comes conversing ((s, m), f) ((s, n), f) (Err OutOfMemory) (map_ok (λ u. shown) r) (answered_plan shown (command.ShowMore (Some count) form))
unfolding command_bad
more-refused shown count form bad s m n f r e c = refused-comes shown (command.ShowMore (Some count) form) bad s m n f r e c

octas-noted : (b : Bool) (s : State) (form : Form) (a n : ℕ) → octas_after (noted_if b s) form a n ≡ octas_after s form a n
unfolding octas_after shown_line octa_shown octa
octas-noted true s form a n = refl
octas-noted false s form a n = refl

pub more-comes : (shown : Option ℕ) (count a : ℕ) (form : Form) (s t : State) (m n : HostModel) (f g : FlagsOf) (r : Result (Unit {0}) SessionEnd) → more_bad shown (Some count) ≡ None → shown ≡ Some a →
    t ≡ noted_if (is_in_stack_segment (a + 8 * count)) s → g ≡ f → Comes host m n (Err OutOfMemory) r (lines_plan (octas_after t form a count)) →
    Comes conversing ((s, m), f) ((t, n), g) (Err OutOfMemory) (map_ok (λ u. Some (a + 8 * count)) r) (answered_plan shown (command.ShowMore (Some count) form))
unfolding command_bad reply_to command_wild
more-comes shown count a form s t m n f g r e h k i c =
    let ls : octas_after t form a count ≡ octas_after s form a count = ap (λ (x : State). octas_after x form a count) k ∙ octas-noted (is_in_stack_segment (a + 8 * count)) s form a count in
    rw (k, i) (replied-comes shown (Some (a + 8 * count)) (command.ShowMore (Some count) form) (octas_after s form a count) s (noted_if (is_in_stack_segment (a + 8 * count)) s) m n f f r e (rw h refl)
    (subst (λ (x : List (List ℕ)). Comes host m n (Err OutOfMemory) r (lines_plan x)) ls c))

pub go-refused : (shown : Option ℕ) (a : ℕ) (bad : Bad) (s : State) (m n : HostModel) (f : FlagsOf) (r : Result (Unit {0}) SessionEnd) → go_to_bad a ≡ Some bad →
    Comes host m n (Err OutOfMemory) r (line_plan (bad_text bad)) → Comes conversing ((s, m), f) ((s, n), f) (Err OutOfMemory) (map_ok (λ u. shown) r) (answered_plan shown (command.GoTo a))
unfolding command_bad
go-refused shown a bad s m n f r e c = refused-comes shown (command.GoTo a) bad s m n f r e c

pub go-comes : (shown : Option ℕ) (a : ℕ) (s t : State) (m : HostModel) (f g : FlagsOf) → go_to_bad a ≡ None → t ≡ noted_if (is_in_stack_segment a) (at_address s a) → g ≡ f →
    Comes conversing ((s, m), f) ((t, m), g) (Err OutOfMemory) (Ok shown) (answered_plan shown (command.GoTo a))
unfolding command_bad reply_to command_wild
go-comes shown a s t m f g e k i =
    rw (k, i) (replied-comes shown shown (command.GoTo a) [] s (noted_if (is_in_stack_segment a) (at_address s a)) m m f f (Ok tt) e refl (no-lines-come m))

pub break-refused : (shown : Option ℕ) (breaks : Breaks) (a : ℕ) (bad : Bad) (s : State) (m n : HostModel) (f : FlagsOf) (r : Result (Unit {0}) SessionEnd) → flag_bad a ≡ Some bad →
    Comes host m n (Err OutOfMemory) r (line_plan (bad_text bad)) → Comes conversing ((s, m), f) ((s, n), f) (Err OutOfMemory) (map_ok (λ u. shown) r) (answered_plan shown (command.Break breaks a))
unfolding command_bad
break-refused shown breaks a bad s m n f r e c = refused-comes shown (command.Break breaks a) bad s m n f r e c

pub break-comes : (shown : Option ℕ) (breaks : Breaks) (a : ℕ) (s : State) (m : HostModel) (f g : FlagsOf) → flag_bad a ≡ None → g ≡ with_flags f (a / 4) (with_breaks (f (a / 4)) breaks) →
    Comes conversing ((s, m), f) ((s, m), g) (Err OutOfMemory) (Ok shown) (answered_plan shown (command.Break breaks a))
unfolding command_bad reply_to command_wild
break-comes shown breaks a s m f g e i = rw i (replied-comes shown shown (command.Break breaks a) [] s s m m f (with_flags f (a / 4) (with_breaks (f (a / 4)) breaks)) (Ok tt) e refl (no-lines-come m))

pub trace-refused : (shown : Option ℕ) (a : ℕ) (bad : Bad) (s : State) (m n : HostModel) (f : FlagsOf) (r : Result (Unit {0}) SessionEnd) → flag_bad a ≡ Some bad →
    Comes host m n (Err OutOfMemory) r (line_plan (bad_text bad)) → Comes conversing ((s, m), f) ((s, n), f) (Err OutOfMemory) (map_ok (λ u. shown) r) (answered_plan shown (command.Trace a))
unfolding command_bad
trace-refused shown a bad s m n f r e c = refused-comes shown (command.Trace a) bad s m n f r e c

pub trace-comes : (shown : Option ℕ) (a : ℕ) (s : State) (m : HostModel) (f g : FlagsOf) → flag_bad a ≡ None → g ≡ with_flags f (a / 4) (with_trace (f (a / 4)) true) →
    Comes conversing ((s, m), f) ((s, m), g) (Err OutOfMemory) (Ok shown) (answered_plan shown (command.Trace a))
unfolding command_bad reply_to command_wild
trace-comes shown a s m f g e i = rw i (replied-comes shown shown (command.Trace a) [] s s m m f (with_flags f (a / 4) (with_trace (f (a / 4)) true)) (Ok tt) e refl (no-lines-come m))

pub untrace-refused : (shown : Option ℕ) (a : ℕ) (bad : Bad) (s : State) (m n : HostModel) (f : FlagsOf) (r : Result (Unit {0}) SessionEnd) → flag_bad a ≡ Some bad →
    Comes host m n (Err OutOfMemory) r (line_plan (bad_text bad)) → Comes conversing ((s, m), f) ((s, n), f) (Err OutOfMemory) (map_ok (λ u. shown) r) (answered_plan shown (command.Untrace a))
unfolding command_bad
untrace-refused shown a bad s m n f r e c = refused-comes shown (command.Untrace a) bad s m n f r e c

pub untrace-comes : (shown : Option ℕ) (a : ℕ) (s : State) (m : HostModel) (f g : FlagsOf) → flag_bad a ≡ None → g ≡ with_flags f (a / 4) (with_trace (f (a / 4)) false) →
    Comes conversing ((s, m), f) ((s, m), g) (Err OutOfMemory) (Ok shown) (answered_plan shown (command.Untrace a))
unfolding command_bad reply_to command_wild
untrace-comes shown a s m f g e i = rw i (replied-comes shown shown (command.Untrace a) [] s s m m f (with_flags f (a / 4) (with_trace (f (a / 4)) false)) (Ok tt) e refl (no-lines-come m))

pub ruleset replying = (lacked-comes, go-comes, break-comes, trace-comes, untrace-comes)
