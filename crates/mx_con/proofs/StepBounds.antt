-- The count of steps in a session: commands leave it, steps and runs raise it to at most the bound.
use Rattle.std.proofs.Common.{◌≡◌, ◌≢◌, ◌≤◌, ◌<◌, ℕ, ◌-◌, ◌^◌, ◌==◌, Bool, true, false, cond, Result, Ok, Err, OnErr, arith, refl, ◌∙◌, ap}
use Rattle.std.specs.Option.{unwrap_or}
use Rattle.mx_ring.specs.Stack.{in_stack_area, set_overfills}
use Rattle.mx_code.specs.Puts.{put_of}
use Rattle.mx_code.specs.SpecialRegisters.{rG, rL}
use Rattle.mx_code.specs.declared.put.Put.{Put}
use Rattle.mx_code.specs.declared.put.Put.TheVariants as put
use Rattle.mx_core.specs.Way.Changed.{left_changed}
use Rattle.mx_core.specs.UserChanges.{allowed_unless, at_address, put_by_user}
use Rattle.mx_core.specs.State.{State, global_start, is_page_refused, locals, with_octa, with_value_in}
use Rattle.mx_core.specs.declared.changes.SetFault.{SetFault}
use Rattle.mx_core.specs.declared.changes.SetFault.TheVariants.{OutOfMemory}
use Rattle.mx_cmd.specs.declared.command.Subject.{Subject}
use Rattle.mx_cmd.specs.declared.command.Subject.TheVariants.{Register, Global, Special, Memory}
use Rattle.mx_run.specs.Runs.{IsLater}
use Rattle.mx_con.specs.Clauses.{StepsWithin}
use Rattle.mx_con.specs.Replies.{noted_if}
use Rattle.mx_show.specs.Subjects.{subject_changed}

-- BOUNDS

pub within-self : (steps : ℕ) (s : State) → StepsWithin steps s s
within-self steps s = record { grown = omega arith; few = omega arith }

pub within-still : (steps : ℕ) (s t : State) → t.steps ≡ s.steps → StepsWithin steps s t
within-still steps s t e = record { grown = omega (arith, e); few = omega (arith, e) }

pub within-then : (steps : ℕ) (s t u : State) → StepsWithin steps s t → StepsWithin steps t u → StepsWithin steps s u
within-then steps s t u h k =
    record { grown = omega (arith, h.grown, k.grown); few = omega (arith, h.grown, h.few, k.grown, k.few) }

-- a run of at most the steps that are left
pub within-run : (n steps : ℕ) (s t : State) → s.steps < 2 ^ 64 → t.steps < 2 ^ 64 → steps < 2 ^ 64 →
    n ≤ steps - s.steps → IsLater n s t → StepsWithin steps s t
within-run n steps s t l k f e h =
    record { grown = omega (arith, l, k, f, e, h.few, h.counted); few = omega (arith, l, k, f, e, h.few, h.counted) }

pub within-step : (steps : ℕ) (s t : State) → s.steps < 2 ^ 64 → t.steps < 2 ^ 64 → steps < 2 ^ 64 →
    (steps - s.steps) ≢ 0 → IsLater 1 s t → StepsWithin steps s t
within-step steps s t l k f ne h = within-run 1 steps s t l k f (omega (arith, ne)) h

pub within-left : (steps : ℕ) (s t : State) → s.steps < 2 ^ 64 → t.steps < 2 ^ 64 → steps < 2 ^ 64 →
    IsLater (steps - s.steps) s t → StepsWithin steps s t
within-left steps s t l k f h = within-run (steps - s.steps) steps s t l k f (omega arith) h

pub ruleset stepping = (within-self, within-step, within-left)

pub ruleset going = (within-self, within-then)

pub ruleset staying = (within-self, within-still)

-- CHANGES

chosen-still : (b : Bool) (s t : State) (n : ℕ) → s.steps ≡ n → t.steps ≡ n → (cond b s t).steps ≡ n
chosen-still true s t n h k = h
chosen-still false s t n h k = k

octa-still : (s : State) (a x : ℕ) → (with_octa s a x).steps ≡ s.steps
unfolding with_octa
octa-still s a x = chosen-still (in_stack_area a) _ _ s.steps refl refl

left-allowed : (b : Bool) (s t : State) → t.steps ≡ s.steps → (left_changed s (allowed_unless b t)).1.steps ≡ s.steps
left-allowed true s t e = refl
left-allowed false s t e = e

put-still : (s : State) (code : ℕ) (p : Put) → (left_changed s (put_by_user s code p)).1.steps ≡ s.steps
put-still s code (put.Store value) =
    chosen-still (code == rL) _ _ s.steps refl (chosen-still (code == rG) _ _ s.steps refl refl)
put-still s code put.Illegal = refl
put-still s code put.Privileged = refl

subject-still : (s : State) (subject : Subject) (value : ℕ) → (left_changed s (subject_changed s subject value)).1.steps ≡ s.steps
unfolding subject_changed
subject-still s (Register n) value = left-allowed (set_overfills s.stack (unwrap_or n 0)) s (with_value_in s (unwrap_or n 0) value) refl
subject-still s (Global n) value = left-allowed (set_overfills s.stack (unwrap_or n 0)) s (with_value_in s (unwrap_or n 0) value) refl
subject-still s (Special code) value = put-still s (unwrap_or code 0) (put_of (unwrap_or code 0) value (global_start s) (locals s))
subject-still s (Memory a) value = left-allowed (is_page_refused s a) s (with_octa s a value) (octa-still s a value)

pub changed-still : (subject : Subject) (value : ℕ) (r : Result (Unit {0}) SetFault) (s t : State) →
    (r ≢ Err OutOfMemory → (r, t) ≡ left_changed s (subject_changed s subject value)) → OnErr r (t ≡ s) → t.steps ≡ s.steps
changed-still subject value (Ok u) s t ok err =
    ap (λ (p : Result (Unit {0}) SetFault × State). p.1.steps) (ok (λ e. absurd (cc))) ∙ subject-still s subject value
changed-still subject value (Err e) s t ok err = ap (λ (x : State). x.steps) err

pub ruleset changing = (changed-still)

-- NOTES

pub noted-still : (wild : Bool) (s t : State) → t ≡ noted_if wild s → t.steps ≡ s.steps
noted-still wild s t e = ap (λ (x : State). x.steps) e ∙ chosen-still wild _ _ s.steps refl refl

pub gone-still : (a : ℕ) (wild : Bool) (s t u : State) → t ≡ at_address s a → u ≡ noted_if wild t → u.steps ≡ s.steps
gone-still a wild s t u e h = noted-still wild t u h ∙ ap (λ (x : State). x.steps) e

pub ruleset noting = (noted-still, gone-still)
