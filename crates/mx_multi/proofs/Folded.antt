-- Turns by a schedule as a fold of the schedule that is repeated.
use Rattle.std.proofs.Common.{◌≡◌, ℕ, zero, suc, ◌+◌, Bool, true, false, cond, List, [], ◌∷◌, ◌++◌, Option, None, Some, arith, append_assoc, refl, sym, subst, ap, ◌∙◌}
use Rattle.mx_host.specs.HostModel.{HostModel}
use Rattle.mx_plan.specs.Wild.{Course, ends, meets_wild}
use Rattle.mx_run.specs.Turns.{turn_answer, turn}
use Rattle.mx_run.specs.WildRuns.{MachineKind, ends_wild}
use Rattle.mx_multi.specs.Folds.{AreUnstopped, DoesNotEnd, EndsSo, FoldsFrom, IsNext, after_turns, repeated, steps_in, steps_of}
use Rattle.mx_multi.specs.Joint.{Joint, has_halted, state_at}
use Rattle.mx_multi.specs.JointTurns.{JointWorld, turn_of}
use Rattle.mx_multi.specs.Schedules.{next_in, or_again, AllHaveHalted, end_at_last}
use Rattle.mx_multi.specs.Turns.{turns}
use Rattle.mx_multi.specs.declared.turn.Turn.{Turn}
use Rattle.mx_multi.specs.declared.turn.Turn.TheVariants as turned
use Rattle.mx_multi.specs.declared.end.MultiEnd.{MultiEnd}
use Rattle.mx_multi.specs.declared.end.MultiEnd.TheVariants.{AllHalted, Stopped, Spent, OutOfMemory}
use Rattle.mx_multi.proofs.Schedules.{all-none, found-in}
use Rattle.mx_multi.proofs.TurnComes.{turn-idle, turn-made, not-idle-at}
use Rattle.mx_multi.proofs.TurnPlans.{made_turn, turn_by, no-turns, turns-next}

-- ---- what is found

record Found (halted : List Bool) (part : List ℕ) (who : ℕ) (after : List ℕ) : Type 0 where
  pub before : List ℕ
  pub split : part ≡ before ++ who ∷ after
  pub idle : AllHaveHalted halted before

found-by : (halted : List Bool) (x who : ℕ) (xs after : List ℕ) (b : Bool) → has_halted halted x ≡ b → (next_in halted xs ≡ Some (who, after) → Found halted xs who after) →
    cond b (next_in halted xs) (Some (x, xs)) ≡ Some (who, after) → Found halted (x ∷ xs) who after
found-by halted x who xs after true h more e =
    let f = more e in
    record { before = x ∷ f.before; split = ap (λ l. x ∷ l) f.split; idle = (h, f.idle) }
found-by halted x who xs after false h more e =
    let both : (x, xs) ≡ (who, after) = cc in
    record { before = []; split = ap (λ (p : ℕ × List ℕ). p.0 ∷ p.1) both; idle = tt }

found-at : (halted : List Bool) (part : List ℕ) (who : ℕ) (after : List ℕ) → next_in halted part ≡ Some (who, after) → Found halted part who after
unfolding next_in
found-at halted [] who after e = absurd (cc)
found-at halted (x ∷ xs) who after e = found-by halted x who xs after (has_halted halted x) refl (λ f. found-at halted xs who after f) e

-- one that runs is among them
not-all-in : (halted : List Bool) (before : List ℕ) (who : ℕ) (after : List ℕ) → has_halted halted who ≡ false → AllHaveHalted halted (before ++ who ∷ after) → ⊥
not-all-in halted [] who after runs h = let no : false ≡ true = sym runs ∙ h.0 in absurd (cc)
not-all-in halted (x ∷ before) who after runs h = not-all-in halted before who after runs h.1

all-after : (halted : List Bool) (before : List ℕ) (who : ℕ) (after : List ℕ) → AllHaveHalted halted (before ++ who ∷ after) → AllHaveHalted halted after
all-after halted [] who after h = h.1
all-after halted (x ∷ before) who after h = all-after halted before who after h.1

-- ---- turns of processors that have halted

idle-after : (before turns : List ℕ) (w : JointWorld) → AllHaveHalted w.0.halted before → after_turns (before ++ turns) w ≡ after_turns turns w
unfolding after_turns
idle-after [] turns w h = refl
idle-after (who ∷ before) turns w h = ap (λ (t : Turn × JointWorld). after_turns (before ++ turns) t.1) (turn-idle who w h.0) ∙ idle-after before turns w h.1

idle-steps : (before turns : List ℕ) (w : JointWorld) → AllHaveHalted w.0.halted before → steps_in (before ++ turns) w ≡ steps_in turns w
unfolding steps_in
idle-steps [] turns w h = refl
idle-steps (who ∷ before) turns w h =
    ap (λ (t : Turn × JointWorld). steps_of t.0 + steps_in (before ++ turns) t.1) (turn-idle who w h.0)
    ∙ (let none : 0 + steps_in (before ++ turns) w ≡ steps_in (before ++ turns) w = omega arith in none) ∙ idle-steps before turns w h.1

not-idle : (who : ℕ) (w : JointWorld) → has_halted w.0.halted who ≡ false → (turn_of who w).0 ≡ turned.Idle → ⊥
not-idle who w runs e =
    not-idle-at (state_at w.0 who).pc (turn_answer (turn (state_at w.0 who) w.1)).0 (ap (λ (t : Turn × JointWorld). t.0) (sym (turn-made who w runs)) ∙ e)

module _ (kind : MachineKind) (schedule : List ℕ) where
  idle-unstopped : (before turns : List ℕ) (w : JointWorld) → ¬ AllHaveHalted w.0.halted schedule → AllHaveHalted w.0.halted before → AreUnstopped kind schedule turns w → AreUnstopped kind schedule (before ++ turns) w
  unfolding AreUnstopped
  idle-unstopped [] turns w due h u = u
  idle-unstopped (who ∷ before) turns w due h u = (
    record {
      due = due;
      going = subst (λ (t : Turn × JointWorld). DoesNotEnd t.0) (sym (turn-idle who w h.0)) tt;
      tame = λ runs. (let no : false ≡ true = sym runs ∙ h.0 in absurd (cc));
    },
    subst (λ (t : Turn × JointWorld). AreUnstopped kind schedule (before ++ turns) t.1) (sym (turn-idle who w h.0)) (idle-unstopped before turns w due h.1 u),
  )

  module _ (n : ℕ) where
    -- ---- after turns of processors that have halted

    ends-as : (s t : ℕ) (next : List ℕ) (w v : JointWorld) (end : Course MultiEnd JointWorld) → s ≡ t → w ≡ v → EndsSo kind schedule n s next w end → EndsSo kind schedule n t next v end
    ends-as s t next w v end e f h = subst (λ u. EndsSo kind schedule n t next u end) f (subst (λ k. EndsSo kind schedule n k next w end) e h)

    after-idle : (before part : List ℕ) (w : JointWorld) (end : Course MultiEnd JointWorld) → ¬ AllHaveHalted w.0.halted schedule → AllHaveHalted w.0.halted before → FoldsFrom kind part schedule n w end → FoldsFrom kind (before ++ part) schedule n w end
    after-idle before part w end due h f =
        let steps : steps_in (before ++ f.turns) w ≡ steps_in f.turns w = idle-steps before f.turns w h in
        record {
          turns = before ++ f.turns;
          next = f.next;
          rounds = f.rounds;
          front = (
            f.front.0,
            append_assoc before part (repeated schedule f.rounds) ∙ ap (λ l. before ++ l) f.front.1 ∙ sym (append_assoc before (f.turns ++ f.next) f.front.0)
                ∙ ap (λ l. l ++ f.front.0) (sym (append_assoc before f.turns f.next)),
          );
          few = (let few = f.few in omega (arith, steps, few));
          unstopped = idle-unstopped before f.turns w due h f.unstopped;
          ends = ends-as (steps_in f.turns w) (steps_in (before ++ f.turns) w) f.next (after_turns f.turns w) (after_turns (before ++ f.turns) w) end (sym steps) (sym (idle-after before f.turns w h)) f.ends;
        }

    -- the schedule that is begun again is its first round
    one-round : (rest : List ℕ) (w : JointWorld) (end : Course MultiEnd JointWorld) → FoldsFrom kind (rest ++ schedule) schedule n w end → FoldsFrom kind rest schedule n w end
    one-round rest w end f = record {
      turns = f.turns;
      next = f.next;
      rounds = suc f.rounds;
      front = (f.front.0, sym (append_assoc rest schedule (repeated schedule f.rounds)) ∙ f.front.1);
      few = f.few;
      unstopped = f.unstopped;
      ends = f.ends;
    }

    -- ---- no turn is made

    nothing : (rest : List ℕ) (w : JointWorld) (end : Course MultiEnd JointWorld) → EndsSo kind schedule n 0 [] w end → FoldsFrom kind rest schedule n w end
    unfolding after_turns steps_in AreUnstopped
    nothing rest w end e = record { turns = []; next = []; rounds = 0; front = (rest ++ [], refl); few = omega arith; unstopped = tt; ends = e }

    -- the next one is that of this number, which ends them
    stops-at : (who : ℕ) (after : List ℕ) (w : JointWorld) (end : Course MultiEnd JointWorld) → EndsSo kind schedule n 0 (who ∷ []) w end → FoldsFrom kind (who ∷ after) schedule n w end
    unfolding after_turns steps_in AreUnstopped
    stops-at who after w end e = record { turns = []; next = who ∷ []; rounds = 0; front = (after ++ [], refl); few = omega arith; unstopped = tt; ends = e }

  -- ---- a step, and what follows it

  module _ (n who : ℕ) (after : List ℕ) (w : JointWorld) (due : ¬ AllHaveHalted w.0.halted schedule) (runs : has_halted w.0.halted who ≡ false) (tame : ends_wild kind (state_at w.0 who) ≡ false) where
    is-next : IsNext (suc n) 0 who (who ∷ []) w
    is-next = record { left = omega arith; named = refl; runs = runs }

    more-next : (s t x : ℕ) (next : List ℕ) (v : JointWorld) → t ≡ suc s → IsNext n s x next v → IsNext (suc n) t x next v
    more-next s t x next v e h = record { left = (let left = h.left in omega (arith, e, left)); named = h.named; runs = h.runs }

    ends-more : (s t : ℕ) (next : List ℕ) (v : JointWorld) (end : Course MultiEnd JointWorld) → t ≡ suc s → EndsSo kind schedule n s next v end → EndsSo kind schedule (suc n) t next v end
    ends-more s t next v (ends Spent u) e h = (h.0, (let all = h.1 in omega (arith, e, all)), h.2)
    ends-more s t next v (ends AllHalted u) e h = h
    ends-more s t next v (ends (Stopped x pc reason) u) e h = (more-next s t x next v e h.0, h.1, h.2)
    ends-more s t next v (ends OutOfMemory u) e h = (h.0, (more-next s t h.0 next v e h.1.0, h.1.1, h.1.2))
    ends-more s t next v (meets_wild u) e h = (h.0, (more-next s t h.0 next v e h.1.0, h.1.1, h.1.2))

    step-then : (r : Turn) (u : JointWorld) (end : Course MultiEnd JointWorld) → (r, u) ≡ turn_of who w → steps_of r ≡ 1 → DoesNotEnd r → FoldsFrom kind after schedule n u end → FoldsFrom kind (who ∷ after) schedule (suc n) w end
    unfolding after_turns steps_in AreUnstopped
    step-then r u end e one going f =
        let steps : steps_of (turn_of who w).0 + steps_in f.turns (turn_of who w).1 ≡ suc (steps_in f.turns u) =
        ap (λ (t : Turn × JointWorld). steps_of t.0 + steps_in f.turns t.1) (sym e) ∙ (let s = steps_in f.turns u in omega (arith, one)) in
        record {
          turns = who ∷ f.turns;
          next = f.next;
          rounds = f.rounds;
          front = (f.front.0, ap (λ l. who ∷ l) f.front.1);
          few = (let few = f.few in omega (arith, steps, few));
          unstopped = (
            record { due = due; going = subst (λ (t : Turn × JointWorld). DoesNotEnd t.0) e going; tame = λ h. tame },
            subst (λ (t : Turn × JointWorld). AreUnstopped kind schedule f.turns t.1) e f.unstopped,
          );
          ends = ends-more (steps_in f.turns u) (steps_of (turn_of who w).0 + steps_in f.turns (turn_of who w).1) f.next (after_turns f.turns (turn_of who w).1) end steps
              (subst (λ (t : Turn × JointWorld). EndsSo kind schedule n (steps_in f.turns u) f.next (after_turns f.turns t.1) end) e f.ends);
        }

    step-by : (r : Turn) (u : JointWorld) → (r, u) ≡ turn_of who w → (r ≡ turned.Idle → ⊥) → ((v : JointWorld) → FoldsFrom kind after schedule n v (turns kind schedule n after v.0 v.1)) →
        FoldsFrom kind (who ∷ after) schedule (suc n) w (made_turn (turns kind schedule n) who after (r, u))
    step-by turned.Went u e ne more = step-then turned.Went u (turns kind schedule n after u.0 u.1) e refl tt (more u)
    step-by (turned.Halted status) u e ne more = step-then (turned.Halted status) u (turns kind schedule n after u.0 u.1) e refl tt (more u)
    step-by turned.Idle u e ne more = absurd (ne refl)
    step-by (turned.Stopped pc reason) u e ne more = stops-at (suc n) who after w (ends (Stopped who pc reason) u) (is-next, e, tame)
    step-by turned.OutOfMemory u e ne more = stops-at (suc n) who after w (ends OutOfMemory u) (who, (is-next, e, tame))

  kind-by : (n who : ℕ) (after : List ℕ) (w : JointWorld) (b : Bool) → ends_wild kind (state_at w.0 who) ≡ b → ¬ AllHaveHalted w.0.halted schedule → has_halted w.0.halted who ≡ false →
      ((v : JointWorld) → FoldsFrom kind after schedule n v (turns kind schedule n after v.0 v.1)) →
      FoldsFrom kind (who ∷ after) schedule (suc n) w (cond b (meets_wild w) (made_turn (turns kind schedule n) who after (turn_of who w)))
  kind-by n who after w true e due runs more =
      stops-at (suc n) who after w (meets_wild w) (who, (record { left = omega arith; named = refl; runs = runs }, e, refl))
  kind-by n who after w false e due runs more = step-by n who after w due runs e (turn_of who w).0 (turn_of who w).1 refl (not-idle who w runs) more

  -- ---- the next turn, of what is left or of the schedule from its beginning

  abbrev Within : List ℕ → Type 0
  Within rest = (halted : List Bool) → AllHaveHalted halted schedule → AllHaveHalted halted rest

  abbrev Folds : ℕ → Type 0
  Folds n = (rest : List ℕ) (w : JointWorld) → Within rest → FoldsFrom kind rest schedule n w (turns kind schedule n rest w.0 w.1)

  one-found : (n : ℕ) (part : List ℕ) (who : ℕ) (after : List ℕ) (w : JointWorld) → next_in w.0.halted part ≡ Some (who, after) → Within part → Folds n →
      FoldsFrom kind part schedule (suc n) w (turn_by kind (turns kind schedule n) w (Some (who, after)))
  one-found n part who after w e within more =
      let f = found-at w.0.halted part who after e in
      let runs = found-in w.0.halted part who after e in
      let end = turn_by kind (turns kind schedule n) w (Some (who, after)) in
      let due : ¬ AllHaveHalted w.0.halted schedule = λ all. not-all-in w.0.halted f.before who after runs (subst (AllHaveHalted w.0.halted) f.split (within w.0.halted all)) in
      let later : Within after = λ halted all. all-after halted f.before who after (subst (AllHaveHalted halted) f.split (within halted all)) in
      subst (λ p. FoldsFrom kind p schedule (suc n) w end) (sym f.split)
      (after-idle (suc n) f.before (who ∷ after) w end due f.idle
      (kind-by n who after w (ends_wild kind (state_at w.0 who)) refl due runs (λ v. more after v later)))

  not-all-found : (halted : List Bool) (part : List ℕ) (who : ℕ) (after : List ℕ) → next_in halted part ≡ Some (who, after) → ¬ AllHaveHalted halted part
  not-all-found halted part who after e all =
      let f = found-at halted part who after e in not-all-in halted f.before who after (found-in halted part who after e) (subst (AllHaveHalted halted) f.split all)

  next-by : (n : ℕ) (rest : List ℕ) (w : JointWorld) (first second : Option (ℕ × List ℕ)) → next_in w.0.halted rest ≡ first → next_in w.0.halted schedule ≡ second → Within rest → Folds n →
      FoldsFrom kind rest schedule (suc n) w (turn_by kind (turns kind schedule n) w (or_again first second))
  next-by n rest w (Some (who, after)) second e f within more = one-found n rest who after w e within more
  next-by n rest w None (Some (who, after)) e f within more =
      let end = turn_by kind (turns kind schedule n) w (Some (who, after)) in
      one-round (suc n) rest w end
      (after-idle (suc n) rest schedule w end (not-all-found w.0.halted schedule who after f) (all-none w.0.halted rest e)
      (one-found n schedule who after w f (λ halted all. all) more))
  next-by n rest w None None e f within more = nothing (suc n) rest w (ends AllHalted w) (refl, all-none w.0.halted schedule f)

  last-by : (rest : List ℕ) (w : JointWorld) (x : Option (ℕ × List ℕ)) → next_in w.0.halted schedule ≡ x → FoldsFrom kind rest schedule 0 w (ends (end_at_last x) w)
  last-by rest w None e = nothing 0 rest w (ends AllHalted w) (refl, all-none w.0.halted schedule e)
  last-by rest w (Some (who, after)) e = nothing 0 rest w (ends Spent w) (refl, refl, not-all-found w.0.halted schedule who after e)

  fold-from : (n : ℕ) → Folds n
  fold-from zero rest w within = subst (FoldsFrom kind rest schedule 0 w) (sym (no-turns kind schedule rest w)) (last-by rest w (next_in w.0.halted schedule) refl)
  fold-from (suc n) rest w within =
      subst (FoldsFrom kind rest schedule (suc n) w) (sym (turns-next kind schedule n rest w)) (next-by n rest w (next_in w.0.halted rest) (next_in w.0.halted schedule) refl refl within (fold-from n))

pub turns-fold : (kind : MachineKind) (schedule : List ℕ) (n : ℕ) (j : Joint) (m : HostModel) → FoldsFrom kind schedule schedule n (j, m) (turns kind schedule n schedule j m)
turns-fold kind schedule n j m = fold-from kind schedule n schedule (j, m) (λ halted all. all)

pub ruleset folding = (turns-fold)
