-- A machine at its start, over a window and over the list that it represents.
use Rattle.std.proofs.Common.{◌≡◌, ◌≤◌, ℕ, ◌+◌, ◌*◌, ◌||◌, List, [], ◌∷◌, length, Bool, true, false, cond, refl, ◌∙◌, Ok, Err, Some, None}
use Rattle.std.specs.Prelude.{Option, Result}
use Rattle.mx_mmo.specs.Image.{Image}
use Rattle.mx_ring.specs.Stack.{Stack, windowed, stack_address, in_stack_area}
use Rattle.mx_ring.specs.Window.{window_at_start}
use Rattle.mx_start.proofs.ListedStarts.{start-listed}
use Rattle.mx_core.specs.Bounds.{as_list_state}
use Rattle.mx_start.specs.Start.{pool, pool_octas, with_octas, loaded, start}
use Rattle.mx_start.specs.Started.{begun}
use Rattle.mx_core.specs.State.{State, with_octa, is_negative, is_page_refused}
use Rattle.mx_start.specs.declared.fault.StartFault.{StartFault}
use Rattle.mx_start.specs.declared.fault.StartFault.TheVariants.{PagesFull}
use Rattle.mx_run.specs.WildRuns.{window_machine, list_machine}
use Rattle.mx_begin.specs.Begun.{main_address, pages_full, started}
use Rattle.mx_outcome.specs.declared.outcome.Outcome.{Outcome}
use Rattle.mx_outcome.specs.declared.outcome.Outcome.TheVariants.{Stopped}

-- NOTHING IS TOUCHED

chosen : (b : Bool) (s t : State) (touched : Bool) → s.touched ≡ touched → t.touched ≡ touched → (cond b s t).touched ≡ touched
chosen true s t touched e f = e
chosen false s t touched e f = f

octa-untouched : (s : State) (a x : ℕ) → (with_octa s a x).touched ≡ s.touched
unfolding with_octa
octa-untouched s a x = chosen (in_stack_area a) _ _ s.touched refl refl

unless-refused : (b : Bool) (more : Option State) (t : State) (touched : Bool) → (more ≡ Some t → t.touched ≡ touched) → cond b None more ≡ Some t → t.touched ≡ touched
unless-refused true more t touched h e = absurd (cc)
unless-refused false more t touched h e = h e

octas-untouched : (xs : List ℕ) (s t : State) (a : ℕ) → with_octas s a xs ≡ Some t → t.touched ≡ s.touched
unfolding with_octas
octas-untouched [] s t a e = cc
octas-untouched (x ∷ xs) s t a e =
    unless-refused (is_negative a || is_page_refused s a) (with_octas (with_octa s a x) (a + 8) xs) t s.touched
    (λ more. octas-untouched xs (with_octa s a x) t (a + 8) more ∙ octa-untouched s a x) e

untouched-start : (image : Image) (arguments : List (List ℕ)) (stack : Stack) (s : State) → start image arguments stack ≡ Some s → s.touched ≡ false
unfolding start
untouched-start image arguments stack s e = octas-untouched (pool_octas arguments) (loaded image (length arguments) stack) s pool e

-- THE START

begun-some : (o : Option State) (s : State) → ◌≡◌ {A = Result State StartFault} (Ok s) (begun o) → o ≡ Some s
begun-some None s e = absurd (cc)
begun-some (Some t) s e = cc

begun-none : (o : Option State) → ◌≡◌ {A = Result State StartFault} (Err PagesFull) (begun o) → o ≡ None
begun-none None e = refl
begun-none (Some t) e = absurd (cc)

pub started-window : (image : Image) (arguments : List (List ℕ)) (ring : ℕ) (s : State) →
    ◌≡◌ {A = Result State StartFault} (Ok s) (begun (start image arguments (windowed (window_at_start ring)))) →
    ◌≡◌ {A = Result State Outcome} (Ok s) (started window_machine ring image arguments)
started-window image arguments ring s e = rw (begun-some _ s e) refl

pub started-list : (image : Image) (arguments : List (List ℕ)) (ring : ℕ) (s : State) → pool + 8 * length (pool_octas arguments) ≤ stack_address 0 →
    ◌≡◌ {A = Result State StartFault} (Ok s) (begun (start image arguments (windowed (window_at_start ring)))) →
    ◌≡◌ {A = Result State Outcome} (Ok (as_list_state s)) (started list_machine ring image arguments)
started-list image arguments ring s fits e = rw (start-listed image arguments ring fits, begun-some _ s e) refl

pub started-untouched : (image : Image) (arguments : List (List ℕ)) (ring : ℕ) (s : State) →
    ◌≡◌ {A = Result State StartFault} (Ok s) (begun (start image arguments (windowed (window_at_start ring)))) → s.touched ≡ false
started-untouched image arguments ring s e = untouched-start image arguments (windowed (window_at_start ring)) s (begun-some _ s e)

pub full-window : (image : Image) (arguments : List (List ℕ)) (ring : ℕ) →
    ◌≡◌ {A = Result State StartFault} (Err PagesFull) (begun (start image arguments (windowed (window_at_start ring)))) →
    ◌≡◌ {A = Result State Outcome} (Err (Stopped (main_address image) pages_full)) (started window_machine ring image arguments)
full-window image arguments ring e = rw (begun-none _ e) refl

pub full-list : (image : Image) (arguments : List (List ℕ)) (ring : ℕ) → pool + 8 * length (pool_octas arguments) ≤ stack_address 0 →
    ◌≡◌ {A = Result State StartFault} (Err PagesFull) (begun (start image arguments (windowed (window_at_start ring)))) →
    ◌≡◌ {A = Result State Outcome} (Err (Stopped (main_address image) pages_full)) (started list_machine ring image arguments)
full-list image arguments ring fits e = rw (start-listed image arguments ring fits, begun-none _ e) refl

pub ruleset starting = (started-window, started-list, started-untouched, full-window, full-list)
