-- A turn over a window beside that over the list that it represents.
use Rattle.std.proofs.Common.{◌≡◌, Bool, true, false, refl, sym, subst, ◌∙◌, ap}
use Rattle.mx_host.specs.HostModel.{HostModel}
use Rattle.mx_core.specs.Bounds.{as_list_state}
use Rattle.mx_core.specs.State.{State}
use Rattle.mx_run.specs.Clauses.{as_list_answer, TurnGoesAsList}
use Rattle.mx_run.specs.Turns.{Turn, went_on, halts, stops, turn, turn_answer}
use Rattle.mx_run.specs.WildRuns.{turn_is_wild, HasWindow, as_list_turn, state_after}
use Rattle.mx_run.specs.declared.turn_answer.TurnAnswer.{TurnAnswer}
use Rattle.mx_run.proofs.ListTurns.{TurnWindow, turn-listed-on, wild-listed, turn-untouched}
use Rattle.mx_run.proofs.Outputs.{answer-front}

-- ONE TURN

answer-listed : (t : Turn) → as_list_answer (turn_answer t) ≡ turn_answer (as_list_turn t)
answer-listed (went_on s m trace) = refl
answer-listed (halts status s m) = refl
answer-listed (stops reason s m) = refl

answer-state : (t : Turn) → (turn_answer t).1 ≡ state_after t
answer-state (went_on s m trace) = refl
answer-state (halts status s m) = refl
answer-state (stops reason s m) = refl

turned : (s : State) (m : HostModel) → TurnWindow s → s.touched ≡ false → turn_is_wild s ≡ false → as_list_answer (turn_answer (turn s m)) ≡ turn_answer (turn (as_list_state s) m)
turned s m h u e = answer-listed (turn s m) ∙ ap turn_answer (sym (turn-listed-on s m h u e))

left-untouched : (s : State) (m : HostModel) → s.touched ≡ false → turn_is_wild s ≡ false → (turn_answer (turn s m)).1.touched ≡ false
left-untouched s m u e = ap (λ (t : State). t.touched) (answer-state (turn s m)) ∙ turn-untouched s m u e

turn-by : (s : State) (m : HostModel) (b : Bool) → TurnWindow s → s.touched ≡ false → turn_is_wild s ≡ b → TurnGoesAsList b (as_list_state s) m (turn_answer (turn s m))
turn-by s m true h u e = answer-front s m
turn-by s m false h u e = (turned s m h u e, left-untouched s m u e)

-- a machine of the code
pub list-window : (s : State) → HasWindow s → TurnWindow s
list-window s h = record { window = h.window; machine = h.machine; octas = λ call e. h.octas }

pub turn-listed-so : (s : State) (m : HostModel) → TurnWindow s → s.touched ≡ false → TurnGoesAsList (turn_is_wild (as_list_state s)) (as_list_state s) m (turn_answer (turn s m))
turn-listed-so s m h u = subst (λ b. TurnGoesAsList b (as_list_state s) m (turn_answer (turn s m))) (sym (wild-listed s h.window h.machine u)) (turn-by s m (turn_is_wild s) h u refl)

pub turn-goes : (s t : State) (m n : HostModel) (r : TurnAnswer) → HasWindow s → (r, t, n) ≡ turn_answer (turn s m) → s.touched ≡ false → TurnGoesAsList (turn_is_wild (as_list_state s)) (as_list_state s) m (r, t, n)
turn-goes s t m n r h e u = subst (TurnGoesAsList (turn_is_wild (as_list_state s)) (as_list_state s) m) (sym e) (turn-listed-so s m (list-window s h) u)
