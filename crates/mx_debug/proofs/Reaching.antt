-- The steps that one comes to.
use Rattle.std.proofs.Common.{◌≡◌, ◌≢◌, ◌≤◌, ◌<◌, ◌+◌, ◌-◌, ◌^◌, ◌⊎◌, inl, inr, ℕ, true, false, Ok, Some, None, arith, sym, subst, ◌∙◌, ap}
use Rattle.std.specs.Prelude.{Option, Result, Err, OnOk, List, min, unwrap_or}
use Rattle.std.proofs.lemmas.Bool.{cases_lt}
use Rattle.mx_word.specs.Results.{map_ok}
use Rattle.mx_outcome.specs.declared.outcome.Outcome.{Outcome}
use Rattle.mx_run.specs.Runs.{Ended}
use Rattle.mx_run.specs.declared.end.End.TheVariants.{Spent}
use Rattle.mx_replay.specs.Programs.{GoesOn, HasEnded, IsReached, is_over, step_of}
use Rattle.mx_replay.specs.Marks.{changes, stops_at}
use Rattle.mx_stops.specs.Places.{depth, followed}
use Rattle.mx_replay.specs.Searches.{FoundAt, IsLast, IsNext}
use Rattle.mx_stops.specs.declared.places.Place.{Place}
use Rattle.mx_ask.specs.declared.words.Word.{Word}
use Rattle.mx_ask.specs.declared.words.Word.TheVariants as word
use Rattle.mx_debug.specs.Going.{ArrivesBack, ArrivesBefore, GoesToLast, GoesToMaker, GoesToNext, depth_after, depth_at, followed_after, followed_at}
use Rattle.mx_debug.specs.Sessions.{Debugged}
use Rattle.mx_debug.specs.Words.{Leads, LeavesCall, goes}
use Rattle.mx_replay.specs.declared.program.Program.{Program}
use Rattle.mx_replay.proofs.Steps.{step-over}

-- a run that has ended does not go on
never-by : (r : Result Ended Outcome) → map_ok (λ (e : Ended). is_over e.end) r ≡ Ok true → map_ok (λ (e : Ended). e.end) r ≡ Ok Spent → false ≡ true
never-by (Err why) h g = absurd (cc)
never-by (Ok e) h g = let same : e.end ≡ Spent = cc in let over : is_over e.end ≡ true = cc in ap is_over (sym same) ∙ over

never-both : (p : Program) (k : ℕ) → HasEnded p k → GoesOn p k → false ≡ true
never-both p k h g = never-by (step_of p k) h g

-- a step before one from which the run goes on is reached itself
exact : (p : Program) (k at : ℕ) → ((j : ℕ) → j < k → GoesOn p j) → IsReached p k at → at ≡ k
exact p k at made r = by (cases_lt at k)
  where
    by : (at < k) ⊎ (k ≤ at) → at ≡ k
    by (inl h) = absurd (cc (never-both p at (r.early h) (made at h)))
    by (inr h) = omega (arith, h, r.within)

pub back-exact : (p : Program) (k here at : ℕ) → ((j : ℕ) → j < here → GoesOn p j) → IsReached p (min k here) at → at ≡ min k here
back-exact p k here at made r = exact p (min k here) at (λ j l. made j (omega (arith, l))) r

-- a turn after a step that was reached
over-next : (p : Program) (at : ℕ) → HasEnded p at → HasEnded p (at + 1)
over-next p at h = subst (λ r. map_ok (λ (e : Ended). is_over e.end) r ≡ Ok true) (sym (step-over p at 1 h)) h

after-by : (p : Program) (k at at2 : ℕ) → IsReached p k at → IsReached p (at + 1) at2 → at2 < k + 1 → (at2 < at + 1) ⊎ (at + 1 ≤ at2) → HasEnded p at2
after-by p k at at2 r s l (inl h) = s.early h
after-by p k at at2 r s l (inr h) =
    let same : at + 1 ≡ at2 = omega (arith, h, s.within) in
    subst (HasEnded p) same (over-next p at (r.early (omega (arith, l, h))))

after-turn : (p : Program) (k at at2 : ℕ) → IsReached p k at → IsReached p (at + 1) at2 → IsReached p (k + 1) at2
after-turn p k at at2 r s = record {
  within = omega (arith, r.within, s.within);
  early = λ l. after-by p k at at2 r s l (cases_lt at2 (at + 1));
}

pub reached-after : (p q : Program) (k at at2 : ℕ) → q ≡ p → k ≢ 0 → IsReached p (k - 1) at → IsReached q (at + 1) at2 → IsReached p k at2
reached-after p q k at at2 e ne r s =
    let same : k - 1 + 1 ≡ k = omega (arith, ne) in
    subst (λ x. IsReached p x at2) same (after-turn p (k - 1) at at2 r (subst (λ x. IsReached x (at + 1) at2) e s))

-- this many steps on, but not past the last one that can be reached, which an octa can have
few-on : (at n most k : ℕ) → most < 2 ^ 64 → k ≡ min (min (at + n) (2 ^ 64 - 1)) most → min k most ≡ min (at + n) most
few-on at n most k h e = omega (arith, h, e)

pub reached-on : (p : Program) (at n most told k at2 : ℕ) → told < 2 ^ 64 → told ≡ most → k ≡ min (min (at + n) (2 ^ 64 - 1)) told → IsReached p (min k most) at2 → IsReached p (min (at + n) most) at2
reached-on p at n most told k at2 h same e r =
    subst (λ x. IsReached p x at2) (few-on at n most k (subst (λ x. x < 2 ^ 64) same h) (e ∙ ap (min (min (at + n) (2 ^ 64 - 1))) same)) r

pub ruleset reaching = (back-exact, reached-after)

-- ---- where the words lead

-- how many registers are hidden
depth-told : (r : Result Ended Outcome) (n : ℕ) → map_ok (λ (e : Ended). depth e.state) r ≡ Ok n → n ≡ depth_after r
depth-told (Err why) n h = absurd (cc)
depth-told (Ok e) n h = let same : depth e.state ≡ n = cc in sym same

pub depth-is : (d : Debugged) (p : Program) (at n : ℕ) → d.program ≡ p → d.at ≡ at → map_ok (λ (e : Ended). depth e.state) (step_of p at) ≡ Ok n → n ≡ depth_at d
depth-is d p at n e f h = depth-told (step_of p at) n h ∙ ap depth_after (ap (λ q. step_of q at) (sym e) ∙ ap (step_of d.program) (sym f))

-- the place by which a register is followed
follow-told : (place x : Place) (r : Result Ended Outcome) → map_ok (λ (e : Ended). followed e.state place) r ≡ Ok x → x ≡ followed_after place r
follow-told place x (Err why) h = absurd (cc)
follow-told place x (Ok e) h = let same : followed e.state place ≡ x = cc in sym same

pub follow-is : (d : Debugged) (p : Program) (at : ℕ) (place x : Place) → d.program ≡ p → d.at ≡ at → map_ok (λ (e : Ended). followed e.state place) (step_of p at) ≡ Ok x → x ≡ followed_at d place
follow-is d p at place x e f h = follow-told place x (step_of p at) h ∙ ap (followed_after place) (ap (λ q. step_of q at) (sym e) ∙ ap (step_of d.program) (sym f))

pub ruleset depths = (depth-is, follow-is)

-- to a stop that was found, and to the step that makes a value
pub next-led : (d : Debugged) (shallow : Option ℕ) (at there : ℕ) (found : Option ℕ) → IsNext d.program (stops_at d.breaks d.watches shallow) d.at d.most found →
    FoundAt d.program d.most d.at at found → there ≡ at → GoesToNext d shallow there
next-led d shallow at there found n f e = record { found = found; next = n; place = subst (λ x. FoundAt d.program d.most d.at x found) (sym e) f }

arrives-by : (d : Debugged) (shallow : Option ℕ) (there : ℕ) (found : Option ℕ) → IsLast d.program (stops_at d.breaks d.watches shallow) (d.at - 1) found →
    there ≡ min (unwrap_or found 0) d.at → ArrivesBack there found
arrives-by d shallow there None l e = omega (arith, e)
arrives-by d shallow there (Some k) l e = omega (arith, e, l.0)

pub last-led : (d : Debugged) (shallow : Option ℕ) (there : ℕ) (found : Option ℕ) → IsLast d.program (stops_at d.breaks d.watches shallow) (d.at - 1) found →
    there ≡ min (unwrap_or found 0) d.at → GoesToLast d shallow there
last-led d shallow there found l e = record { found = found; last = l; place = arrives-by d shallow there found l e }

pub maker-led : (d : Debugged) (place : Place) (there : ℕ) (found : Option ℕ) → IsLast d.program (changes place) d.at found → ArrivesBefore d.at there found → GoesToMaker d place there
maker-led d place there found l s = record { found = found; last = l; arrives = s }

-- on from the start
pub run-led : (d : Debugged) (p : Program) (here at : ℕ) → p ≡ d.program → here ≤ 0 → GoesToNext (record d { program = p; at = here }) None at → GoesToNext (record d { at = 0 }) None at
run-led d p here at e l g =
    let zero : here ≡ 0 = omega (arith, l) in
    subst (λ q. GoesToNext (record d { program = q; at = 0 }) None at) e (subst (λ k. GoesToNext (record d { program = p; at = k }) None at) zero g)

pub ruleset leading = (back-exact, next-led, last-led, maker-led, run-led)

-- out of a call
pub left-call : (d : Debugged) (at n : ℕ) (Goes : Option ℕ → ℕ → Type 0) → n ≡ depth_at d → n ≢ 0 → Goes (Some (n - 1)) at → LeavesCall d at Goes
left-call d at n Goes e ne g = record {
  within = λ h. subst (λ k. Goes (Some (k - 1)) at) e g;
  outside = λ h. absurd (ne (e ∙ h));
}

pub no-call : (d : Debugged) (at n : ℕ) (Goes : Option ℕ → ℕ → Type 0) → n ≡ depth_at d → n ≡ 0 → at ≡ d.at → LeavesCall d at Goes
no-call d at n Goes e h s = record {
  within = λ ne. absurd (ne (sym e ∙ h));
  outside = λ o. s;
}

pub ruleset leaving = (left-call, no-call)

-- a word that leads nowhere
pub stays : (d : Debugged) (w : Word) (rest : List ℕ) (at : ℕ) → goes w ≡ false → at ≡ d.at → Leads d w rest at
unfolding Leads
stays d word.Break rest at g e = e
stays d word.Watch rest at g e = e
stays d word.Delete rest at g e = e
stays d word.Print rest at g e = e
stays d word.Examine rest at g e = e
stays d word.Backtrace rest at g e = e
stays d word.Info rest at g e = e
stays d word.List rest at g e = e
stays d word.Help rest at g e = e
stays d word.Quit rest at g e = e
stays d word.Run rest at g e = absurd (cc)
stays d word.Start rest at g e = absurd (cc)
stays d word.Step rest at g e = absurd (cc)
stays d word.ReverseStep rest at g e = absurd (cc)
stays d word.GoTo rest at g e = absurd (cc)
stays d word.Next rest at g e = absurd (cc)
stays d word.ReverseNext rest at g e = absurd (cc)
stays d word.Finish rest at g e = absurd (cc)
stays d word.ReverseFinish rest at g e = absurd (cc)
stays d word.Continue rest at g e = absurd (cc)
stays d word.ReverseContinue rest at g e = absurd (cc)
stays d word.Who rest at g e = absurd (cc)

pub ruleset staying = (stays)

-- what holds where there is a value
pub on-ok : {A E P Q : Type 0} (r : Result A E) → (P → Q) → OnOk r P → OnOk r Q
on-ok (Ok x) f h = f h
on-ok (Err e) f h = h
