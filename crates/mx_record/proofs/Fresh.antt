-- At the start of a run no register is hidden.
use Rattle.std.proofs.Common.{◌≡◌, ℕ, ◌+◌, ◌||◌, List, [], ◌∷◌, ◌++◌, length, take, Option, None, Some, Ok, Err, refl, sym, subst, ◌∙◌, ap, ⊎_elim}
use Rattle.std.proofs.lemmas.Bool.{cases_Bool, cond_both}
use Rattle.std.specs.Prelude.{Result, map, string_bytes}
use Rattle.mx_host.specs.HostAnswer.{Then}
use Rattle.mx_host.specs.HostModel.{HostModel}
use Rattle.mx_plan.specs.Calls.{host}
use Rattle.mx_plan.specs.Plan.{end_after, end_of}
use Rattle.mx_mmo.specs.Image.{Image}
use Rattle.mx_word.specs.Results.{map_ok}
use Rattle.mx_ring.specs.Stack.{Stack, hidden_count, in_stack_area, listed, stack_index, windowed, with_stack_octa}
use Rattle.mx_ring.specs.Window.{window_at_start}
use Rattle.mx_core.specs.State.{State, is_negative, is_page_refused, with_octa}
use Rattle.mx_core.proofs.Kept.Stages.{octa-in-stack, octa-on-page}
use Rattle.mx_run.specs.Runs.{Ended}
use Rattle.mx_run.specs.WildRuns.{window_machine}
use Rattle.mx_run.proofs.FreeTurns.{none-made}
use Rattle.mx_start.specs.Start.{pool, pool_octas, loaded, start, with_octas}
use Rattle.mx_outcome.specs.declared.outcome.Outcome.{Outcome}
use Rattle.mx_files.specs.FilePlans.{on_ok}
use Rattle.mx_begin.specs.Arguments.{Word}
use Rattle.mx_begin.specs.BeginPlans.{start_plan}
use Rattle.mx_begin.specs.Begun.{begun_at}
use Rattle.mx_begin.proofs.Beginnings.{begin-by, start-end}
use Rattle.mx_replay.specs.Programs.{host_of, run_from, start_of, step_of}
use Rattle.mx_replay.specs.Searches.{Replayed}
use Rattle.mx_replay.specs.declared.program.Program.{Program}

abbrev IsFresh : Stack → Type 0
IsFresh (listed r) = r.hidden ≡ []
IsFresh (windowed w) = (w.hidden.spilled ≡ 0) × (w.hidden.resident ≡ [])

none-hidden : (z : Stack) → IsFresh z → hidden_count z ≡ 0
none-hidden (listed r) h = ap length h
none-hidden (windowed w) h = ap (λ n. length (take n w.hidden.stack ++ w.hidden.resident)) h.0 ∙ ap length h.1

-- MEMORY

octa-fresh : (z : Stack) (i x : ℕ) → IsFresh z → IsFresh (with_stack_octa z i x)
unfolding with_stack_octa
octa-fresh (listed r) i x h = h
octa-fresh (windowed w) i x h = h

stored-fresh : (s : State) (a x : ℕ) → IsFresh s.stack → IsFresh (with_octa s a x).stack
stored-fresh s a x h = ⊎_elim
    (λ e. subst (λ (u : State). IsFresh u.stack) (sym (octa-in-stack s a x e)) (octa-fresh s.stack (stack_index a) x h))
    (λ e. subst (λ (u : State). IsFresh u.stack) (sym (octa-on-page s a x e)) h)
    (cases_Bool (in_stack_area a))

abbrev MayBeFresh : Option State → Type 0
MayBeFresh None = Unit {0}
MayBeFresh (Some s) = IsFresh s.stack

octas-fresh : (s : State) (a : ℕ) (octas : List ℕ) → IsFresh s.stack → MayBeFresh (with_octas s a octas)
unfolding with_octas
octas-fresh s a [] h = h
octas-fresh s a (x ∷ octas) h = cond_both (is_negative a || is_page_refused s a) None (with_octas (with_octa s a x) (a + 8) octas) (λ (o : Option State). MayBeFresh o) (λ _. tt) (λ _. octas-fresh (with_octa s a x) (a + 8) octas (stored-fresh s a x h))

start-fresh : (image : Image) (arguments : List (List ℕ)) (ring : ℕ) → MayBeFresh (start image arguments (windowed (window_at_start ring)))
unfolding start
start-fresh image arguments ring = octas-fresh (loaded image (length arguments) (windowed (window_at_start ring))) pool (pool_octas arguments) (refl, refl)

-- A RUN

abbrev StartsFresh : Then (Result State Outcome) → Type 0
StartsFresh (Err outcome, m) = Unit {0}
StartsFresh (Ok s, m) = IsFresh s.stack

begun-fresh : (pc : ℕ) (o : Option State) (m : HostModel) → MayBeFresh o → StartsFresh (begun_at pc o, m)
begun-fresh pc None m h = tt
begun-fresh pc (Some s) m h = h

started-fresh : (ring : ℕ) (arguments : List Word) (x : Then (Result Image Outcome)) → StartsFresh (end_after host (on_ok (start_plan window_machine ring arguments)) x)
unfolding end_of
started-fresh ring arguments (Err outcome, m) = tt
started-fresh ring arguments (Ok image, m) = subst StartsFresh (sym (start-end window_machine ring arguments image m)) (begun-fresh _ _ m (start-fresh image arguments ring))

run-fresh : (p : Program) → StartsFresh (start_of p)
run-fresh p = subst StartsFresh (sym (begin-by window_machine (map string_bytes p.words) p.order p.form (host_of p))) (started-fresh _ _ _)

same-ok : {A B : Type 0} (x y : A) → ◌≡◌ {A = Result A B} (Ok x) (Ok y) → x ≡ y
same-ok x y e = cc

first-fresh : (x : Then (Result State Outcome)) (s : State) → StartsFresh x → map_ok (λ (e : Ended). e.state) (run_from 0 x) ≡ Ok s → IsFresh s.stack
first-fresh (Err outcome, m) s h e = absurd (cc)
first-fresh (Ok u, m) s h e =
    let own : u ≡ s = sym (ap (λ (e : Ended). e.state) (none-made u m)) ∙ same-ok _ s e in
    subst (λ (v : State). IsFresh v.stack) own h

pub none-at-start : (p : Program) (s : State) → map_ok (λ (e : Ended). e.state) (step_of p 0) ≡ Ok s → hidden_count s.stack ≡ 0
unfolding step_of
none-at-start p s e = none-hidden s.stack (first-fresh (start_of p) s (run-fresh p) e)

pub start-none : (v : Replayed) (p : Program) (s : State) → v ≡ record { program = p; at = 0 } → map_ok (λ (e : Ended). e.state) (step_of v.program v.at) ≡ Ok s → hidden_count s.stack ≡ 0
start-none v p s e h = none-at-start p s (sym (ap (λ (x : Replayed). map_ok (λ (e : Ended). e.state) (step_of x.program x.at)) e) ∙ h)
