-- Commands that make no step go alike over the list machine, where they are not wild.
use Rattle.std.proofs.Common.{◌≡◌, ℕ, zero, suc, ◌+◌, ◌-◌, ◌*◌, ◌^◌, ◌≤◌, ◌==◌, [], ◌∷◌, Bool, true, false, cond, nat_lt, Option, None, Some, Result, Ok, Err, refl, sym, ◌∙◌, ap, subst, arith, map}
use Rattle.std.specs.Prelude.{◌||◌, is_none, is_err, unwrap_or}
use Rattle.std.specs.List.{range_with_len}
use Rattle.std.specs.Result.{result_unwrap_or}
use Rattle.std.proofs.lemmas.Bool.Decides.{nat_tests}
use Rattle.mx_word.specs.Results.{map_ok}
use Rattle.mx_text.specs.declared.numbers.Form.{Form}
use Rattle.mx_text.specs.declared.numbers.Form.TheVariants.{Hex}
use Rattle.mx_registers.specs.Registers.{Registers}
use Rattle.mx_ring.specs.Stack.{in_stack_area, set_overfills}
use Rattle.mx_ring.specs.Window.{Window}
use Rattle.mx_code.specs.Puts.{put_of}
use Rattle.mx_code.specs.SpecialRegisters.{rL, rG}
use Rattle.mx_code.specs.declared.put.Put.{Put}
use Rattle.mx_code.specs.declared.put.Put.TheVariants as put
use Rattle.mx_core.specs.Bounds.{IsMachine, as_list_state}
use Rattle.mx_core.specs.UserChanges.{allowed_unless, put_by_user, special_changed, register_changed}
use Rattle.mx_word.specs.Segments.{is_in_stack_segment}
use Rattle.mx_core.specs.State.{State, global_start, locals, with_value_in, with_octa, is_page_refused}
use Rattle.mx_core.specs.declared.changes.SetFault.{SetFault}
use Rattle.mx_core.proofs.Kept.Changed.{register-listed, special-listed, octa-changed-listed}
use Rattle.mx_core.proofs.Same.Seen.{same-visible}
use Rattle.mx_run.specs.Runs.{FlagsOf}
use Rattle.mx_run.specs.WildRuns.{list_machine}
use Rattle.mx_host.specs.HostModel.{HostModel}
use Rattle.mx_plan.specs.Plan.{returns, bind, end_of}
use Rattle.mx_plan.specs.Wild.{Course, meets_wild, then_on, course, carried}
use Rattle.mx_show.specs.Subjects.{subject_changed, subject_wild, shown_line}
use Rattle.mx_cmd.specs.declared.command.Command.{Command}
use Rattle.mx_cmd.specs.declared.command.Command.TheVariants as command
use Rattle.mx_cmd.specs.declared.command.Subject.{Subject}
use Rattle.mx_cmd.specs.declared.command.Subject.TheVariants.{Register, Global, Special, Memory}
use Rattle.mx_con.specs.Clauses.{IsUntouched, GoesAsList}
use Rattle.mx_con.specs.Judgement.{bad_text, bad_if, first_bad, is_outside, subject_bad, past_memory, command_bad, command_wild}
use Rattle.mx_con.specs.LinePlans.{line_plan, lines_plan}
use Rattle.mx_con.specs.Replies.{Reply, reply, reply_in, reply_to, with_note, with_subject, changed_reply, octas_after, shown_after}
use Rattle.mx_con.specs.Session.{session_goes}
use Rattle.mx_con.specs.SessionPlans.{replying, SessionWorld, Part, conversing, host_in_session, reply_plan, judge_plan, showing, refused, answered_plan}
use Rattle.mx_con.specs.SessionPlans as plans
use Rattle.mx_con.specs.declared.end.SessionEnd.{SessionEnd}
use Rattle.mx_con.specs.declared.judgement.Bad.{Bad}
use Rattle.mx_con.specs.declared.judgement.Bad.TheVariants.{BadNumber, NoSuchRegister, NoMemoryShown, CannotChange}
use Rattle.mx_con.proofs.HeldSessions.{streams-end}
use Rattle.mx_con.proofs.SameTexts.{outside-area, same-state, same-line}
use Rattle.mx_con.proofs.SessionBoth.{Listed, listed-returns, listed-host, listed-then}

-- ---- CHANGES

err-map : (r : Result State SetFault) → is_err (map_ok as_list_state r) ≡ is_err r
err-map (Ok t) = refl
err-map (Err e) = refl

err-allowed : (b : Bool) (s t : State) → is_err (allowed_unless b s) ≡ is_err (allowed_unless b t)
err-allowed true s t = refl
err-allowed false s t = refl

same-err : (s : State) (w : Window) (subject : Subject) (value : ℕ) → IsMachine s w → is_err (subject_changed (as_list_state s) subject value) ≡ is_err (subject_changed s subject value)
unfolding subject_changed
same-err s w (Register n) value m = ap is_err (register-listed s w (unwrap_or n 0) value m) ∙ err-map (register_changed s (unwrap_or n 0) value)
same-err s w (Global n) value m = ap is_err (register-listed s w (unwrap_or n 0) value m) ∙ err-map (register_changed s (unwrap_or n 0) value)
same-err s w (Special code) value m = ap is_err (special-listed s w (unwrap_or code 0) value m) ∙ err-map (special_changed s (unwrap_or code 0) value)
same-err s w (Memory a) value m = err-allowed (is_page_refused s a) (with_octa (as_list_state s) a value) (with_octa s a value)

same-change : (s : State) (w : Window) (subject : Subject) (value : ℕ) → IsMachine s w → subject_wild subject ≡ false →
    subject_changed (as_list_state s) subject value ≡ map_ok as_list_state (subject_changed s subject value)
unfolding subject_changed
same-change s w (Register n) value m e = register-listed s w (unwrap_or n 0) value m
same-change s w (Global n) value m e = register-listed s w (unwrap_or n 0) value m
same-change s w (Special code) value m e = special-listed s w (unwrap_or code 0) value m
same-change s w (Memory a) value m e = octa-changed-listed s a value (outside-area a e)

unwrap-map : (s : State) (r : Result State SetFault) → result_unwrap_or (map_ok as_list_state r) (as_list_state s) ≡ as_list_state (result_unwrap_or r s)
unwrap-map s (Ok t) = refl
unwrap-map s (Err e) = refl

same-subject : (s : State) (w : Window) (subject : Subject) (value : Option ℕ) → IsMachine s w → subject_wild subject ≡ false →
    with_subject (as_list_state s) subject value ≡ as_list_state (with_subject s subject value)
same-subject s w subject value m e =
    ap (λ r. result_unwrap_or r (as_list_state s)) (same-change s w subject (unwrap_or value 0) m e) ∙ unwrap-map s (subject_changed s subject (unwrap_or value 0))

-- a change touches nothing
abbrev TouchedAs : State → Result State SetFault → Type 0
TouchedAs s r = (result_unwrap_or r s).touched ≡ s.touched

allowed-touched : (b : Bool) (s t : State) → t.touched ≡ s.touched → TouchedAs s (allowed_unless b t)
allowed-touched true s t e = refl
allowed-touched false s t e = e

either-touched : (b : Bool) (s t u : State) → t.touched ≡ s.touched → u.touched ≡ s.touched → (cond b t u).touched ≡ s.touched
either-touched true s t u e f = e
either-touched false s t u e f = f

put-touched : (s : State) (code : ℕ) (p : Put) → TouchedAs s (put_by_user s code p)
put-touched s code (put.Store value) = either-touched (code == rL) s _ _ refl (either-touched (code == rG) s _ _ refl refl)
put-touched s code put.Illegal = refl
put-touched s code put.Privileged = refl

octa-touched : (s : State) (a x : ℕ) → (with_octa s a x).touched ≡ s.touched
unfolding with_octa
octa-touched s a x = either-touched (in_stack_area a) s _ _ refl refl

subject-touched : (s : State) (subject : Subject) (value : ℕ) → TouchedAs s (subject_changed s subject value)
unfolding subject_changed
subject-touched s (Register n) value = allowed-touched (set_overfills s.stack (unwrap_or n 0)) s (with_value_in s (unwrap_or n 0) value) refl
subject-touched s (Global n) value = allowed-touched (set_overfills s.stack (unwrap_or n 0)) s (with_value_in s (unwrap_or n 0) value) refl
subject-touched s (Special code) value = put-touched s (unwrap_or code 0) (put_of (unwrap_or code 0) value (global_start s) (locals s))
subject-touched s (Memory a) value = allowed-touched (is_page_refused s a) s (with_octa s a value) (octa-touched s a value)

-- ---- WHAT IS BAD

same-subject_bad : (s : State) (subject : Subject) → subject_bad (as_list_state s) subject ≡ subject_bad s subject
same-subject_bad s (Register n) = refl
same-subject_bad s (Global n) =
    ap (λ (v : Registers). cond (is_none n) (Some BadNumber) (cond (is_outside v.first_global 255 n) (Some NoSuchRegister) None)) (same-visible s.stack)
same-subject_bad s (Special code) = refl
same-subject_bad s (Memory a) = refl

same-bad : (s : State) (w : Window) (shown : Option ℕ) (line : Command) → IsMachine s w → command_bad (as_list_state s) shown line ≡ command_bad s shown line
unfolding command_bad
same-bad s w shown command.Step m = refl
same-bad s w shown command.Continue m = refl
same-bad s w shown command.Quit m = refl
same-bad s w shown command.State m = refl
same-bad s w shown (command.Show subject form) m = same-subject_bad s subject
same-bad s w shown (command.Change subject None) m = refl
same-bad s w shown (command.Change subject (Some value)) m =
    ap (λ b. first_bad b (bad_if (is_err (subject_changed (as_list_state s) subject value)) CannotChange)) (same-subject_bad s subject)
    ∙ ap (λ b. first_bad (subject_bad s subject) (bad_if b CannotChange)) (same-err s w subject value m)
same-bad s w shown (command.ShowMore n form) m = refl
same-bad s w shown (command.GoTo a) m = refl
same-bad s w shown (command.Break breaks a) m = refl
same-bad s w shown (command.Trace a) m = refl
same-bad s w shown (command.Untrace a) m = refl
same-bad s w shown command.Flags m = refl

-- ---- OCTAS IN A ROW

octa-low : (a n i : ℕ) → a + 8 * n ≤ 2 ^ 63 - 8 → is_in_stack_segment (a + 8 * n) ≡ false → i ≤ n → is_in_stack_segment (a + 8 * i) ≡ false
octa-low a n i l e k = grind (arith, nat_tests)

octas-from : (s : State) (form : Form) (a n i k : ℕ) → a + 8 * n ≤ 2 ^ 63 - 8 → is_in_stack_segment (a + 8 * n) ≡ false → i + k ≤ n + 1 →
    map (λ j. shown_line (as_list_state s) (Memory (a + 8 * j)) form) (range_with_len i k) ≡ map (λ j. shown_line s (Memory (a + 8 * j)) form) (range_with_len i k)
octas-from s form a n i zero l e g = refl
octas-from s form a n i (suc k) l e g =
    ap (λ line. line ∷ map (λ j. shown_line (as_list_state s) (Memory (a + 8 * j)) form) (range_with_len (i + 1) k))
    (same-line s (Memory (a + 8 * i)) form (octa-low a n i l e (omega arith)))
    ∙ ap (λ lines. shown_line s (Memory (a + 8 * i)) form ∷ lines) (octas-from s form a n (i + 1) k l e (omega arith))

same-octas : (s : State) (form : Form) (a n : ℕ) → a + 8 * n ≤ 2 ^ 63 - 8 → is_in_stack_segment (a + 8 * n) ≡ false → octas_after (as_list_state s) form a n ≡ octas_after s form a n
unfolding octas_after
same-octas s form a n l e = octas-from s form a n 1 n l e (omega arith)

more-low : (x y : Bool) → cond x (Some BadNumber) (bad_if y NoMemoryShown) ≡ None → y ≡ false
more-low true y e = absurd (cc)
more-low false true e = absurd (cc)
more-low false false e = refl

-- ---- REPLIES

abbrev as_list_reply : Reply → Reply
as_list_reply r = reply (as_list_state r.state) r.flags r.shown r.lines

same-changed : (t : State) (f : FlagsOf) (shown : Option ℕ) (subject : Subject) → subject_wild subject ≡ false →
    changed_reply (as_list_state t) f shown subject ≡ as_list_reply (changed_reply t f shown subject)
same-changed t f shown subject e = ap (λ line. reply (as_list_state t) f (shown_after subject shown) (line ∷ [])) (same-line t subject Hex e)

same-reply : (s : State) (w : Window) (f : FlagsOf) (shown : Option ℕ) (line : Command) → IsMachine s w → command_bad s shown line ≡ None → command_wild shown line ≡ false →
    reply_in (as_list_state s) f shown line ≡ as_list_reply (reply_in s f shown line)
unfolding command_bad command_wild
same-reply s w f shown command.Step m b e = refl
same-reply s w f shown command.Continue m b e = refl
same-reply s w f shown command.Quit m b e = refl
same-reply s w f shown command.State m b e = ap (λ line. reply (as_list_state s) f shown (line ∷ [])) (same-state s)
same-reply s w f shown (command.Show subject form) m b e = ap (λ line. reply (as_list_state s) f (shown_after subject shown) (line ∷ [])) (same-line s subject form e)
same-reply s w f shown (command.Change subject value) m b e =
    ap (λ t. changed_reply t f shown subject) (same-subject s w subject value m e) ∙ same-changed (with_subject s subject value) f shown subject e
same-reply s w f None (command.ShowMore n form) m b e = refl
same-reply s w f (Some a) (command.ShowMore None form) m b e = absurd (cc)
same-reply s w f (Some a) (command.ShowMore (Some n) form) m b e =
    let past : past_memory (Some a) n ≡ false = more-low (n == 0 || nat_lt 100 n) (past_memory (Some a) n) b in
    let low : a + 8 * n ≤ 2 ^ 63 - 8 = grind (arith, nat_tests) in
    ap (λ lines. reply (as_list_state s) f (Some (a + 8 * n)) lines) (same-octas s form a n low e)
same-reply s w f shown (command.GoTo a) m b e = refl
same-reply s w f shown (command.Break breaks a) m b e = refl
same-reply s w f shown (command.Trace a) m b e = refl
same-reply s w f shown (command.Untrace a) m b e = refl
same-reply s w f shown command.Flags m b e = refl

reply-touched : (s : State) (f : FlagsOf) (shown : Option ℕ) (line : Command) → (reply_in s f shown line).state.touched ≡ s.touched
reply-touched s f shown command.Step = refl
reply-touched s f shown command.Continue = refl
reply-touched s f shown command.Quit = refl
reply-touched s f shown command.State = refl
reply-touched s f shown (command.Show subject form) = refl
reply-touched s f shown (command.Change subject value) = subject-touched s subject (unwrap_or value 0)
reply-touched s f None (command.ShowMore n form) = refl
reply-touched s f (Some a) (command.ShowMore n form) = refl
reply-touched s f shown (command.GoTo a) = refl
reply-touched s f shown (command.Break breaks a) = refl
reply-touched s f shown (command.Trace a) = refl
reply-touched s f shown (command.Untrace a) = refl
reply-touched s f shown command.Flags = refl

unnoted : (s : State) (f : FlagsOf) (shown : Option ℕ) (line : Command) → command_wild shown line ≡ false → reply_to s f shown line ≡ reply_in s f shown line
unfolding reply_to
unnoted s f shown line e = ap (λ b. with_note b (reply_in s f shown line)) e

-- ---- COMMANDS

pub listed-showing : (shown : Option ℕ) (p : Part (Unit {0})) (w : SessionWorld) → Listed p w → Listed (showing shown p) w
listed-showing shown p w h = listed-then (λ (u : Unit {0}). returns (Ok shown)) p w h (λ x v u. listed-returns (Ok shown) v u)

pub listed-refused : (shown : Option ℕ) (bad : Bad) (s : State) (m : HostModel) (f : FlagsOf) → IsUntouched ((s, m), f) → Listed (refused shown bad) ((s, m), f)
listed-refused shown bad s m f u = listed-showing shown (host_in_session (line_plan (bad_text bad))) ((s, m), f) (listed-host (line_plan (bad_text bad)) s m f u)

-- the lines of a reply, beside those of another
abbrev lines-of : Reply → HostModel → Course (Result (Option ℕ) SessionEnd) SessionWorld
lines-of r m = course (session_goes list_machine) (plans.replied (r.shown, r.lines)) ((r.state, m), r.flags)

listed-replied : (r : Reply) (m : HostModel) → r.state.touched ≡ false → Listed (plans.replied (r.shown, r.lines)) ((r.state, m), r.flags)
listed-replied r m u = listed-showing r.shown (host_in_session (lines_plan r.lines)) ((r.state, m), r.flags) (listed-host (lines_plan r.lines) r.state m r.flags u)

abbrev lines-end : Reply → HostModel → Result (Option ℕ) SessionEnd × SessionWorld
lines-end r m = end_of conversing (plans.replied (r.shown, r.lines)) ((r.state, m), r.flags)

carried-listed : (shown : Option ℕ) (command : Command) (s : State) (w : Window) (m : HostModel) (f : FlagsOf) → IsMachine s w → s.touched ≡ false → command_bad s shown command ≡ None → command_wild shown command ≡ false →
    GoesAsList (lines-of (reply_to (as_list_state s) f shown command) m) (lines-end (reply_to s f shown command) m).0 (lines-end (reply_to s f shown command) m).1
carried-listed shown command s w m f k u b e =
    let r = reply_to s f shown command in
    let own : r ≡ reply_in s f shown command = unnoted s f shown command e in
    let same : reply_to (as_list_state s) f shown command ≡ as_list_reply r =
    unnoted (as_list_state s) f shown command e ∙ same-reply s w f shown command k b e ∙ ap (λ x. as_list_reply x) (sym own) in
    subst (λ (x : Reply). GoesAsList (lines-of x m) (lines-end r m).0 (lines-end r m).1) (sym same)
    (listed-replied r m (ap (λ (x : Reply). x.state.touched) own ∙ reply-touched s f shown command ∙ u))

-- a good command, and one that is judged
listed-good : (shown : Option ℕ) (command : Command) (s : State) (w : Window) (m : HostModel) (f : FlagsOf) → IsMachine s w → s.touched ≡ false → command_bad s shown command ≡ None →
    Listed (bind plans.replied (reply_plan shown command)) ((s, m), f)
unfolding reply_plan bind end_of course conversing
listed-good shown command s w m f k u b = by (command_wild shown command) refl
  where
    by : (c : Bool) → command_wild shown command ≡ c →
        GoesAsList (then_on (λ r v. course (session_goes list_machine) (plans.replied r) v) (cond c (meets_wild ((as_list_state s, m), f)) (carried conversing (replying shown command) ((as_list_state s, m), f))))
        (end_of conversing (bind plans.replied (reply_plan shown command)) ((s, m), f)).0 (end_of conversing (bind plans.replied (reply_plan shown command)) ((s, m), f)).1
    by true e = (streams-end (bind plans.replied (reply_plan shown command)) ((s, m), f)).growing
    by false e = carried-listed shown command s w m f k u b e

listed-judged : (shown : Option ℕ) (command : Command) (s : State) (w : Window) (m : HostModel) (f : FlagsOf) (bad : Option Bad) → command_bad s shown command ≡ bad → IsMachine s w → s.touched ≡ false →
    Listed (plans.judged shown command bad) ((s, m), f)
listed-judged shown command s w m f (Some bad) e k u = listed-refused shown bad s m f u
listed-judged shown command s w m f None e k u = listed-good shown command s w m f k u e

pub listed-answered : (shown : Option ℕ) (command : Command) (s : State) (w : Window) (m : HostModel) (f : FlagsOf) → IsMachine s w → s.touched ≡ false → Listed (answered_plan shown command) ((s, m), f)
unfolding answered_plan judge_plan bind end_of course conversing
listed-answered shown command s w m f k u =
    let last = end_of conversing (plans.judged shown command (command_bad s shown command)) ((s, m), f) in
    subst (λ (b : Option Bad). GoesAsList (course (session_goes list_machine) (plans.judged shown command b) ((as_list_state s, m), f)) last.0 last.1) (sym (same-bad s w shown command k))
    (listed-judged shown command s w m f (command_bad s shown command) refl k u)
