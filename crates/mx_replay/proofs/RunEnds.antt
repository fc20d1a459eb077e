-- Runs without flags by their last turn.
use Rattle.std.proofs.Common.{IsTrue, Some, ◌≡◌, ◌≢◌, ◌<◌, ◌≤◌, ◌+◌, ◌-◌, ◌%◌, ◌^◌, ℕ, zero, suc, Bool, true, false, arith, refl, sym, subst, ◌∙◌, ap}
use Rattle.mx_host.specs.HostModel.{HostModel, tells, contents}
use Rattle.mx_core.specs.State.{State}
use Rattle.mx_run.specs.Runs.{Ended, ended, no_flags, run}
use Rattle.mx_run.specs.Turns.{Turn, went_on, halts, stops, turn}
use Rattle.mx_run.specs.declared.end.End.{End}
use Rattle.mx_run.specs.declared.end.End.TheVariants.{Halted, Stopped, Broke, Traced, Spent, OutOfMemory}
use Rattle.mx_run.proofs.Following.{run-over}
use Rattle.mx_run.proofs.FreeTurns.{none-made, run-went, run-halts, run-stops}
use Rattle.mx_run.proofs.StepCounts.{CountsTurn, turn-count}
use Rattle.mx_replay.specs.Programs.{is_over}
use Rattle.mx_replay.specs.Visits.{ComesTo, uncounted, turns_told}

abbrev free : ℕ → State → HostModel → Ended
free n s m = run n no_flags false s m

-- an end at which a run goes on, or not
over-end : (e : End) → is_over e ≡ true → e ≢ Spent
over-end e h same = let wrong : is_over Spent ≡ true = subst (λ x. is_over x ≡ true) same h in absurd (cc)

pub is-spent : (e : End) → is_over e ≡ false → e ≡ Spent
is-spent Spent h = refl
is-spent (Halted status) h = absurd (cc)
is-spent (Stopped pc reason) h = absurd (cc)
is-spent (Broke kind at traced) h = absurd (cc)
is-spent (Traced trace) h = absurd (cc)
is-spent OutOfMemory h = absurd (cc)

-- ---- a run that has ended stays so, and one that goes on has gone on before

pub run-stays : (i j : ℕ) (s : State) (m : HostModel) → is_over (free i s m).end ≡ true → free (i + j) s m ≡ free i s m
run-stays i j s m h = run-over i j no_flags false s m (over-end (free i s m).end h)

run-before : (i j : ℕ) (s : State) (m : HostModel) → (free (i + j) s m).end ≡ Spent → (free i s m).end ≡ Spent
run-before i j s m h = by (is_over (free i s m).end) refl
  where
    by : (b : Bool) → is_over (free i s m).end ≡ b → (free i s m).end ≡ Spent
    by true e = ap (λ (x : Ended). x.end) (sym (run-stays i j s m e)) ∙ h
    by false e = is-spent (free i s m).end e

pub run-below : (j n : ℕ) (s : State) (m : HostModel) → j ≤ n → (free n s m).end ≡ Spent → (free j s m).end ≡ Spent
run-below j n s m l h = let all : j + (n - j) ≡ n = omega (arith, l) in run-before j (n - j) s m (subst (λ k. (free k s m).end ≡ Spent) (sym all) h)

-- ---- the last turn

-- this many turns went on, and the next one was the last
record LastTurn (n : ℕ) (s : State) (m : HostModel) (e : Ended) : Type 0 where
  before : ℕ
  few : before < n
  on : (free before s m).end ≡ Spent
  last : free (suc before) s m ≡ e
  counted : (e.state.steps + uncounted e.end) % 2 ^ 64 ≡ (s.steps + (before + 1)) % 2 ^ 64

last-by : (n : ℕ) (s : State) (m : HostModel) (e : Ended) (x : Turn) → turn s m ≡ x → ((u : State) (k : HostModel) → free n u k ≡ e → LastTurn n u k e) → is_over e.end ≡ true → free (suc n) s m ≡ e → LastTurn (suc n) s m e
last-by n s m e (went_on u k trace) t more h r =
    let rest = more u k (sym (run-went n s u m k trace t) ∙ r) in
    let steps : u.steps ≡ (s.steps + 1) % 2 ^ 64 = subst (CountsTurn s) t (turn-count s m) in
    record {
      before = suc rest.before;
      few = omega (arith, rest.few);
      on = ap (λ (x : Ended). x.end) (run-went rest.before s u m k trace t) ∙ rest.on;
      last = run-went (suc rest.before) s u m k trace t ∙ rest.last;
      counted = omega (arith, rest.counted, steps);
    }
last-by n s m e (halts status u k) t more h r =
    let is : ended (Halted status) u k ≡ e = sym (run-halts n s u m k status t) ∙ r in
    let steps : u.steps ≡ (s.steps + 1) % 2 ^ 64 = subst (CountsTurn s) t (turn-count s m) in
    record {
      before = 0;
      few = omega arith;
      on = ap (λ (x : Ended). x.end) (none-made s m);
      last = run-halts 0 s u m k status t ∙ is;
      counted = subst (λ (x : Ended). (x.state.steps + uncounted x.end) % 2 ^ 64 ≡ (s.steps + (0 + 1)) % 2 ^ 64) is (omega (arith, steps));
    }
last-by n s m e (stops reason u k) t more h r =
    let is : ended (Stopped s.pc reason) u k ≡ e = sym (run-stops n s u m k reason t) ∙ r in
    let steps : u.steps ≡ s.steps = subst (CountsTurn s) t (turn-count s m) in
    record {
      before = 0;
      few = omega arith;
      on = ap (λ (x : Ended). x.end) (none-made s m);
      last = run-stops 0 s u m k reason t ∙ is;
      counted = subst (λ (x : Ended). (x.state.steps + uncounted x.end) % 2 ^ 64 ≡ (s.steps + (0 + 1)) % 2 ^ 64) is (omega (arith, steps));
    }

last-turn : (n : ℕ) (s : State) (m : HostModel) (e : Ended) → is_over e.end ≡ true → free n s m ≡ e → LastTurn n s m e
last-turn zero s m e h r = let wrong : is_over Spent ≡ true = subst (λ (x : Ended). is_over x.end ≡ true) (sym r ∙ none-made s m) h in absurd (cc)
last-turn (suc n) s m e h r = last-by n s m e (turn s m) refl (λ u k q. last-turn n u k e h q) h r

-- WHAT SOME TURNS COME TO

all-on : (n : ℕ) (s t : State) (m k : HostModel) → ended Spent t k ≡ free n s m → ComesTo s m n n (ended Spent t k)
all-on n s t m k h = record {
  few = omega arith;
  reached = sym h;
  early = λ l. absurd (omega (arith, l));
  on = λ j l. run-below j n s m (omega (arith, l)) (sym (ap (λ (x : Ended). x.end) h));
}

told-turns : (n i before after extra : ℕ) → i < n → n < 2 ^ 64 → before < 2 ^ 64 → (after + extra) % 2 ^ 64 ≡ (before + (i + 1)) % 2 ^ 64 → (after + extra + (2 ^ 64 - before)) % 2 ^ 64 ≡ i + 1
told-turns n i before after extra l b c e = omega (arith, l, b, c, e)

last-on : (n : ℕ) (s : State) (m : HostModel) (e : Ended) (before after : ℕ) → n < 2 ^ 64 → before < 2 ^ 64 → before ≡ s.steps → after ≡ e.state.steps → is_over e.end ≡ true → e ≡ free n s m → ComesTo s m n (turns_told before after e.end) e
last-on n s m e before after b c first last h r =
    let t = last-turn n s m e h (sym r) in
    let made : turns_told before after e.end ≡ t.before + 1 =
    told-turns n t.before before after (uncounted e.end) t.few b c (ap (λ x. (x + uncounted e.end) % 2 ^ 64) last ∙ t.counted ∙ ap (λ x. (x + (t.before + 1)) % 2 ^ 64) (sym first)) in
    let next : suc t.before ≡ t.before + 1 = omega arith in
    subst (λ k. ComesTo s m n k e) (sym made) (record {
      few = omega (arith, t.few);
      reached = ap (λ k. free k s m) (sym next) ∙ t.last;
      early = λ l. h;
      on = λ j l. run-below j t.before s m (omega (arith, l)) t.on;
    })

-- ---- what a call over a host in memory tells of its run

abbrev Told : ℕ → State → State → HostModel → HostModel → End → Type 0
Told n s t m k end = IsTrue (tells (Some m)) → end ≢ OutOfMemory → ended end t (contents (Some k)) ≡ run n no_flags false s (contents (Some m))

pub all-made : (n : ℕ) (s t : State) (m k : HostModel) → Told n s t m k Spent → ComesTo s m n n (ended Spent t k)
unfolding tells contents
all-made n s t m k h = all-on n s t m k (h refl (λ e. absurd (cc)))

-- a run without flags comes to no other end
over-free : (n : ℕ) (s : State) (m : HostModel) (end : End) → end ≢ Spent → is_over end ≡ true
over-free n s m Spent h = absurd (h refl)
over-free n s m (Halted status) h = refl
over-free n s m (Stopped pc reason) h = refl
over-free n s m (Broke kind at traced) h = refl
over-free n s m (Traced trace) h = refl
over-free n s m OutOfMemory h = refl

pub last-made : (n : ℕ) (s t : State) (m k : HostModel) (end : End) (before after made : ℕ) → n < 2 ^ 64 → before < 2 ^ 64 → before ≡ s.steps → after ≡ t.steps → end ≢ OutOfMemory → end ≢ Spent → Told n s t m k end →
    made ≡ turns_told before after end → ComesTo s m n made (ended end t k)
unfolding tells contents
last-made n s t m k end before after made b c first last ne on h told =
    subst (λ j. ComesTo s m n j (ended end t k)) (sym told) (last-on n s m (ended end t k) before after b c first last (over-free n s m end on) (h refl ne))
