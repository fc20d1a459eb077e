-- Steps of a machine that go on are a stretch of turns.
use Rattle.std.proofs.Common.{◌≡◌, ◌<◌, ℕ, zero, suc, Bool, true, false, List, length, get_or, set, arith, refl, sym, subst, ap, ◌∙◌}
use Rattle.std.specs.Prelude.{Some}
use Rattle.std.proofs.lemmas.List.{get_or-set_same, length-set, set-set, set-get_or}
use Rattle.mx_word.proofs.Fronts.{front-self}
use Rattle.mx_host.specs.HostModel.{HostModel, tells, contents}
use Rattle.mx_core.specs.Bare.{Shared, nothing_shared, shared_of, with_shared}
use Rattle.mx_core.specs.Bounds.{as_list_state}
use Rattle.mx_core.specs.State.{State}
use Rattle.mx_core.specs.Step.{step}
use Rattle.mx_core.specs.Way.Stepping.{advanced}
use Rattle.mx_core.specs.Walks.{Goes, IsWindowed, next_state}
use Rattle.mx_core.specs.Walks as walk
use Rattle.mx_core.specs.declared.step.Advance.{Advance}
use Rattle.mx_core.specs.declared.step.Advance.TheVariants as advance
use Rattle.mx_run.specs.Clauses.{TurnGoesAsList, as_list_answer}
use Rattle.mx_run.specs.Runs.{IsLater}
use Rattle.mx_run.specs.Turns.{Answered, Turn, went_on, halts, stops, turn, turn_answer}
use Rattle.mx_run.specs.WildRuns.{turn_is_wild, as_list_turn, state_after}
use Rattle.mx_run.specs.declared.turn_answer.TurnAnswer.{TurnAnswer}
use Rattle.mx_run.proofs.Later.{advanced-later}
use Rattle.mx_run.proofs.ListTurns.{TurnWindow, turn-listed-on, wild-listed, turn-untouched}
use Rattle.mx_run.proofs.Runners.{turn-told}
use Rattle.mx_multi.specs.Clauses.{MakesTurn}
use Rattle.mx_multi.specs.Joint.{no_processor, has_halted, alone, AllAlone}
use Rattle.mx_multi.specs.JointTurns.{told_at}
use Rattle.mx_multi.specs.Stretches.{GoesOn, Stretch}
use Rattle.mx_multi.specs.declared.turn.Turn.TheVariants as turned
use Rattle.mx_multi.proofs.Places.{alone-at, alone-set}
use Rattle.mx_multi.proofs.TurnComes.{joint, told-comes, step-listed}
use Rattle.mx_multi.proofs.Untraced.{went-makes}

-- ---- a step that goes on, over the list of its machine

answer-listed : (t : Turn) → as_list_answer (turn_answer t) ≡ turn_answer (as_list_turn t)
answer-listed (went_on s m trace) = refl
answer-listed (halts status s m) = refl
answer-listed (stops reason s m) = refl

answer-state : (t : Turn) → (turn_answer t).1 ≡ state_after t
answer-state (went_on s m trace) = refl
answer-state (halts status s m) = refl
answer-state (stops reason s m) = refl

on-window : (s : State) → IsWindowed s → walk.GoesOn s → TurnWindow s
on-window s w g = record {
  window = w.window;
  machine = w.machine;
  octas = λ call e. let first : advance.Went ≡ advance.Trap = sym g ∙ ap (λ x. (advanced s x).0) e in absurd (cc);
}

went-by : (s t : State) (m : HostModel) (r : TurnAnswer) (b : Bool) → TurnWindow s → (r, t, m) ≡ turn_answer (turn s m) → s.touched ≡ false → turn_is_wild s ≡ b → TurnGoesAsList b (as_list_state s) m (r, t, m)
went-by s t m r true h e u w = front-self m.output
went-by s t m r false h e u w = (
  ap as_list_answer e ∙ answer-listed (turn s m) ∙ ap turn_answer (sym (turn-listed-on s m h u w)),
  ap (λ (a : Answered TurnAnswer). a.1.touched) e ∙ ap (λ (x : State). x.touched) (answer-state (turn s m)) ∙ turn-untouched s m u w,
)

went-goes : (s t : State) (m : HostModel) (r : TurnAnswer) → TurnWindow s → (r, t, m) ≡ turn_answer (turn s m) → s.touched ≡ false → TurnGoesAsList (turn_is_wild (as_list_state s)) (as_list_state s) m (r, t, m)
went-goes s t m r h e u = subst (λ b. TurnGoesAsList b (as_list_state s) m (r, t, m)) (sym (wild-listed s h.window h.machine u)) (went-by s t m r (turn_is_wild s) h e u refl)

went-on : (s : State) → walk.GoesOn s → (advance.Went, next_state s) ≡ advanced s (step s)
went-on s e = ap (λ (a : Advance). (a, next_state s)) (sym e)

-- ---- one turn

own : (s : State) → shared_of s ≡ nothing_shared → alone s ≡ s
own s h = ap (λ x. with_shared x s) (sym h)

module _ (H : List Bool) (at : ℕ) (runs : has_halted H at ≡ false) where
  module _ (P : List State) (M : Shared) (inside : at < length P) (apart : AllAlone P) (w : IsWindowed (with_shared M (get_or P at no_processor))) (g : walk.GoesOn (with_shared M (get_or P at no_processor))) where
    abbrev pub before : State
    before = with_shared M (get_or P at no_processor)

    abbrev pub after : State
    after = next_state before

    abbrev pub Q : List State
    Q = set P at (alone after)

    there : get_or Q at no_processor ≡ alone after
    there = get_or-set_same P at (alone after) no_processor inside

    pub back : with_shared (shared_of after) (get_or Q at no_processor) ≡ after
    back = ap (with_shared (shared_of after)) there

    makes : (m : HostModel) → MakesTurn (Some m) (Some m) before (with_shared (shared_of after) (get_or Q at no_processor)) turned.Went
    makes m = subst (λ t. MakesTurn (Some m) (Some m) before t turned.Went) (sym back) (went-makes (Some m) before after (went-on before g))

    pub as-many : length Q ≡ length P
    as-many = length-set P at (alone after)

    pub all-apart : AllAlone Q
    all-apart = alone-set P at (alone after) apart refl

    put : Q ≡ set P at (get_or Q at no_processor)
    put = ap (set P at) (sym there)

    later : IsLater 1 before after
    later = advanced-later advance.Went before after (went-on before g)

    pub one-goes : GoesOn at (joint P H M) (joint Q H (shared_of after))
    unfolding tells contents
    one-goes = record {
      comes = λ m. told-comes P Q H M (shared_of after) at (Some m) (Some m) turned.Went inside as-many runs put all-apart (makes m) refl;
      listed = λ m u. step-listed P Q H M (shared_of after) at (Some m) (Some m) turned.Went inside as-many runs put all-apart (makes m)
          (λ f. went-goes before (with_shared (shared_of after) (get_or Q at no_processor)) m (makes m).step (on-window before w g)
          (turn-told before (with_shared (shared_of after) (get_or Q at no_processor)) m m (makes m).step ((makes m).carried refl) (λ e. let none : turned.Went ≡ turned.OutOfMemory = (makes m).told ∙ ap (told_at before.pc) e in absurd (cc))) f) refl u;
      bound = record {
        one = subst (λ (q : State). IsLater 1 (get_or P at no_processor) q) (sym there) (record { made = later.made; few = later.few; counted = later.counted });
        others = put;
        idle = λ h. (let no : false ≡ true = sym runs ∙ h in absurd (cc));
      };
      halted = refl;
    }

  -- ---- this many

  pub goes-stretch : (n : ℕ) (P Q : List State) (M N : Shared) → at < length P → AllAlone P → AllAlone Q → length Q ≡ length P → Q ≡ set P at (get_or Q at no_processor) →
      Goes n (with_shared M (get_or P at no_processor)) (with_shared N (get_or Q at no_processor)) → Stretch n at (joint P H M) (joint Q H N)
  unfolding Goes Stretch
  goes-stretch zero P Q M N inside p q same put e =
      let memory : M ≡ N = ap shared_of e in
      let long = same in
      let state : get_or P at no_processor ≡ get_or Q at no_processor =
      sym (own (get_or P at no_processor) (alone-at P at no_processor inside p)) ∙ ap alone e ∙ own (get_or Q at no_processor) (alone-at Q at no_processor (omega (arith, inside, same)) q) in
      ap (λ ss. joint ss H M) (sym (put ∙ ap (set P at) (sym state) ∙ set-get_or P at no_processor)) ∙ ap (joint Q H) memory
  goes-stretch (suc n) P Q M N inside p q same put g =
      let some = as-many P M inside p g.0 g.1 in (
        joint (set P at (alone (next_state (with_shared M (get_or P at no_processor))))) H (shared_of (next_state (with_shared M (get_or P at no_processor)))),
        (
          one-goes P M inside p g.0 g.1,
          goes-stretch n (set P at (alone (next_state (with_shared M (get_or P at no_processor))))) Q (shared_of (next_state (with_shared M (get_or P at no_processor)))) N (omega (arith, inside, some)) (all-apart P M inside p g.0 g.1) q (same ∙ sym some)
              (put ∙ sym (set-set P at (alone (next_state (with_shared M (get_or P at no_processor)))) (get_or Q at no_processor)))
              (subst (λ s. Goes n s (with_shared N (get_or Q at no_processor))) (sym (back P M inside p g.0 g.1)) g.2),
        ),
      )
