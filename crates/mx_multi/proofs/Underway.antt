-- Turns by a schedule that are under way: how many steps are left, and what of the schedule.
use Rattle.std.proofs.Common.{◌≡◌, ◌<◌, ◌≤◌, ℕ, zero, suc, ◌+◌, ◌-◌, Bool, IsTrue, true, List, [], ◌∷◌, drop, get_or, length, Option, None, Some, Ok, Err, inl, inr, arith, refl, sym, subst, ap, ◌∙◌}
use Rattle.std.specs.Prelude.{◌⊎◌, ◌↔◌}
use Rattle.std.proofs.lemmas.Bool.{cases_lt}
use Rattle.std.proofs.lemmas.List.{at_drop_more, drop_all}
use Rattle.mx_host.specs.HostModel.{HostModel, tells, contents}
use Rattle.mx_host.specs.Keeping.{Keeps}
use Rattle.mx_host.proofs.Keeping.{keeps-then, keeps-all}
use Rattle.mx_word.proofs.Fronts.{front-through}
use Rattle.mx_plan.specs.Plan.{Stops}
use Rattle.mx_multi.specs.Clauses.{MakesAtMost, RestsBoth, TakesTurnsBetween, TurnsBoth, WriteOn}
use Rattle.mx_multi.specs.Joint.{Joint, has_halted}
use Rattle.mx_multi.specs.JointTurns.{JointWorld, halted_by}
use Rattle.mx_multi.specs.MultiPlans.{MultiPlan, multi, step_plan, steps_plan, turns_plan}
use Rattle.mx_multi.specs.Schedules.{AllHaveHalted, end_at_last, end_of_turn, next_in, next_turn, or_again}
use Rattle.mx_multi.specs.Stretches.{Along, IsPlaceFrom, place_after, running}
use Rattle.mx_multi.specs.declared.end.MultiEnd.{MultiEnd}
use Rattle.mx_multi.specs.declared.end.MultiEnd.TheVariants.{AllHalted, OutOfMemory, Spent}
use Rattle.mx_multi.specs.declared.turn.Turn.{Turn}
use Rattle.mx_multi.specs.declared.turn.Turn.TheVariants as turned
use Rattle.mx_multi.proofs.Names.{name-runs, run-next, run-none, run-again, still-halted, one-runs}
use Rattle.mx_multi.proofs.Rounds.{place-below, place-from}
use Rattle.mx_multi.proofs.RowTurns.{Over, Taken, goes-taken}
use Rattle.mx_multi.proofs.Schedules.{all-none, last-all}
use Rattle.mx_multi.proofs.StepSums.{both-made, few-made, none-made, one-made}
use Rattle.mx_multi.proofs.TurnPlans.{again-both, begun, ended-both, halted-both, spent-both, turn-goes, turned-both, turns-listed, turns-told, went-both}

abbrev pub world : Over → JointWorld
world v = (v.2, contents v.0)

-- ---- what a turn comes to

ends-not : (who : ℕ) (after : List ℕ) (a : Turn) → end_of_turn who after a ≡ Err AllHalted → ⊥
ends-not who after turned.Went e = absurd (cc)
ends-not who after (turned.Halted status) e = absurd (cc)
ends-not who after turned.Idle e = absurd (cc)
ends-not who after (turned.Stopped pc reason) e = absurd (cc)
ends-not who after turned.OutOfMemory e = absurd (cc)

ends-marked : (who : ℕ) (after : List ℕ) (a : Turn) (end : MultiEnd) (halted : List Bool) → end_of_turn who after a ≡ Err end → halted_by halted who a ≡ halted
ends-marked who after turned.Went end halted e = absurd (cc)
ends-marked who after (turned.Halted status) end halted e = absurd (cc)
ends-marked who after turned.Idle end halted e = absurd (cc)
ends-marked who after (turned.Stopped pc reason) end halted e = refl
ends-marked who after turned.OutOfMemory end halted e = refl

-- the end does not depend on what follows in the schedule
pub ends-so : (who : ℕ) (after : List ℕ) (a : Turn) (end : MultiEnd) → end_of_turn who [] a ≡ Err end → end_of_turn who after a ≡ Err end
ends-so who after turned.Went end e = absurd (cc)
ends-so who after (turned.Halted status) end e = absurd (cc)
ends-so who after turned.Idle end e = absurd (cc)
ends-so who after (turned.Stopped pc reason) end e = cc
ends-so who after turned.OutOfMemory end e = cc

-- ---- under way

-- from a start on, with n steps in all, of which some are left, and with what is left of the schedule
pub record Underway (schedule : List ℕ) (n : ℕ) (start : Over) (left : ℕ) (rest : List ℕ) (v : Over) : Type 0 where
  pub both : IsTrue (tells start.0) → RestsBoth (steps_plan schedule left rest) (world v) (turns_plan schedule n schedule) (world start)
  pub few : left ≤ n
  pub bound : MakesAtMost (n - left) start.2 v.2
  pub keeps : Keeps start.0 v.0 start.1 v.1

abbrev pub Done : List ℕ → ℕ → Over → Over → MultiEnd → Type 0
Done schedule n start w end = TakesTurnsBetween schedule n start.0 w.0 start.1 w.1 start.2 w.2 end

pub begins : (schedule : List ℕ) (n : ℕ) (start : Over) → Underway schedule n start n schedule start
begins schedule n start = record {
  both = λ t. begun schedule n (world start);
  few = omega arith;
  bound = few-made (n - n) 0 start.2 start.2 (omega arith) (none-made start.2);
  keeps = keeps-all start.0 start.1;
}

-- the start may lack memory
pub start-lacks : (schedule : List ℕ) (n : ℕ) (start : Over) → (AllHaveHalted start.2.halted schedule → ⊥) → Done schedule n start start OutOfMemory
unfolding turns_plan multi Stops
start-lacks schedule n start some-run = record {
  plan = λ t. record { ending = λ ne. absurd (ne refl); stopping = λ e. inl refl };
  told = λ t ne. absurd (ne refl);
  listed = λ t ne un. absurd (ne refl);
  halted = (λ e. absurd (cc), λ all. absurd (some-run all));
  bound = few-made n 0 start.2 start.2 (omega arith) (none-made start.2);
  keeps = keeps-all start.0 start.1;
}

module _ (schedule : List ℕ) (n : ℕ) (start : Over) where
  abbrev whole : MultiPlan MultiEnd
  whole = turns_plan schedule n schedule

  begins-again : (left : ℕ) (rest : List ℕ) (v : Over) → next_in v.2.halted rest ≡ None → Underway schedule n start left rest v → Underway schedule n start left schedule v
  begins-again left rest v e u = record { both = λ t. again-both schedule rest left (world v) (world start) whole e (u.both t); few = u.few; bound = u.bound; keeps = u.keeps }

  -- what holds of the turns as a whole, by their plan over both machines
  pub done-by : (w : Over) (end : MultiEnd) → (IsTrue (tells start.0) → TurnsBoth (world start) (world w) OutOfMemory end whole) → ((end ≡ AllHalted) ↔ AllHaveHalted w.2.halted schedule) → MakesAtMost n start.2 w.2 →
      Keeps start.0 w.0 start.1 w.1 → Done schedule n start w end
  done-by w end c halted bound keeps = record {
    plan = λ t. (c t).window;
    told = λ t ne. turns-told schedule schedule n (world start) (world w) end (c t) ne;
    listed = λ t ne un. turns-listed schedule schedule n (world start) (world w) end (c t) ne un;
    halted = halted;
    bound = bound;
    keeps = keeps;
  }

  there : (v : Over) → Keeps start.0 v.0 start.1 v.1 → IsTrue (tells start.0) → IsTrue (tells v.0)
  there v k t = subst IsTrue (sym k.telling) t

  -- ---- a turn

  module _ (left : ℕ) (rest : List ℕ) (v w : Over) (who : ℕ) (after : List ℕ) (a : Turn) (some : 0 < left) (next : next_turn v.2.halted schedule rest ≡ Some (who, after)) (taken : Taken who a v w) (u : Underway schedule n start left rest v) where
    steps : IsTrue (tells start.0) → TurnsBoth (world v) (world w) (Err OutOfMemory) (end_of_turn who after a) (step_plan schedule rest)
    steps t =
        turned-both schedule rest after who (world v) (world w) a next (record {
          window = taken.plan (there v u.keeps t);
          list = λ un ne. turn-goes who v.2 w.2 (contents v.0) (contents w.0) a (taken.listed (there v u.keeps t) ne un);
        })

    -- what was passed before the turn was passed after it
    writes : IsTrue (tells start.0) → (x : JointWorld) → WriteOn x (world v) → WriteOn x (world w)
    writes t x h = front-through x.1.output (contents v.0).output (contents w.0).output h (taken.keeps.growing (there v u.keeps t))

    one-less : left ≡ suc (left - 1)
    one-less = omega (arith, some)

    rest-now : IsTrue (tells start.0) → RestsBoth (steps_plan schedule (suc (left - 1)) rest) (world v) whole (world start)
    rest-now t = subst (λ b. RestsBoth (steps_plan schedule b rest) (world v) whole (world start)) one-less (u.both t)

    one-more : MakesAtMost (n - (left - 1)) start.2 w.2
    one-more =
        let f = u.few in
        few-made (n - (left - 1)) (n - left + 1) start.2 w.2 (omega (arith, f, some)) (both-made (n - left) 1 start.2 v.2 w.2 u.bound (one-made who v.2 w.2 taken.bound))

    pub goes-on : end_of_turn who after a ≡ Ok after → Underway schedule n start (left - 1) after w
    goes-on ok = record {
      both = λ t.
          went-both schedule rest after (left - 1) (world v) (world w) (world start) whole (writes t)
          (subst (λ x. TurnsBoth (world v) (world w) (Err OutOfMemory) x (step_plan schedule rest)) ok (steps t)) (rest-now t);
      few = (let f = u.few in omega (arith, f));
      bound = one-more;
      keeps = keeps-then start.0 v.0 w.0 start.1 v.1 w.1 u.keeps taken.keeps;
    }

    pub ends-here : (end : MultiEnd) → end_of_turn who after a ≡ Err end → (AllHaveHalted v.2.halted schedule → ⊥) → Done schedule n start w end
    ends-here end err some-run =
        done-by w end
        (λ t. ended-both schedule rest (left - 1) end (world v) (world w) (world start) whole (writes t)
        (subst (λ x. TurnsBoth (world v) (world w) (Err OutOfMemory) x (step_plan schedule rest)) err (steps t)) (rest-now t))
        (λ e. absurd (ends-not who after a (err ∙ ap Err e)), λ all. absurd (some-run (subst (λ hs. AllHaveHalted hs schedule) (taken.marked ∙ ends-marked who after a end v.2.halted err) all)))
        (let f = u.few in few-made n (n - (left - 1)) start.2 w.2 (omega (arith, f)) one-more)
        (keeps-then start.0 v.0 w.0 start.1 v.1 w.1 u.keeps taken.keeps)

  -- ---- the end without a turn

  module _ (left : ℕ) (rest : List ℕ) (v : Over) (u : Underway schedule n start left rest v) where
    at-most : MakesAtMost n start.2 v.2
    at-most = let f = u.few in few-made n (n - left) start.2 v.2 (omega (arith, f)) u.bound

    pub none-runs : 0 < left → running v.2.halted rest ≡ [] → running v.2.halted schedule ≡ [] → Done schedule n start v AllHalted
    none-runs some e f =
        let none = ap (λ x. or_again x (next_in v.2.halted schedule)) (run-none v.2.halted rest e) ∙ run-none v.2.halted schedule f in
        let one-less : left ≡ suc (left - 1) = omega (arith, some) in
        done-by v AllHalted
        (λ t. ended-both schedule rest (left - 1) AllHalted (world v) (world v) (world start) whole (λ x h. h) (halted-both schedule rest (world v) none)
        (subst (λ b. RestsBoth (steps_plan schedule b rest) (world v) whole (world start)) one-less (u.both t)))
        (λ a. all-none v.2.halted schedule (run-none v.2.halted schedule f), λ all. refl) at-most u.keeps

    pub all-made : (end : MultiEnd) → left ≤ 0 → end ≡ end_at_last (next_in v.2.halted schedule) → Done schedule n start v end
    all-made end none e =
        let no-step : left ≡ 0 = omega (arith, none) in
        done-by v end
        (λ t. subst (λ x. TurnsBoth (world start) (world v) OutOfMemory x whole) (sym e)
        (spent-both schedule rest (world v) (world start) whole (subst (λ b. RestsBoth (steps_plan schedule b rest) (world v) whole (world start)) no-step (u.both t))))
        (last-all v.2.halted schedule end e) at-most u.keeps

-- ---- by the names of those that run

-- the names of a schedule that are those of processors which have not halted, and the place of the next turn in them
pub record Queued (schedule : List ℕ) (n : ℕ) (start : Over) (left : ℕ) (names : List ℕ) (at : ℕ) (v : Over) : Type 0 where
  pub rest : List ℕ
  pub under : Underway schedule n start left rest v
  pub named : names ≡ running v.2.halted schedule
  pub place : drop at names ≡ running v.2.halted rest

module _ (schedule : List ℕ) (n : ℕ) (start : Over) (names : List ℕ) where
  at-place : (left at place : ℕ) (v : Over) → Queued schedule n start left names at v → IsPlaceFrom names at place → (at < length names) ⊎ (length names ≤ at) → Queued schedule n start left names place v
  at-place left at place v q p (inl l) = subst (λ k. Queued schedule n start left names k v) (sym (p.same l)) q
  at-place left at place v q p (inr l) =
      let none : running v.2.halted q.rest ≡ [] = sym q.place ∙ drop_all at names l in
      record {
        rest = schedule;
        under = begins-again schedule n start left q.rest v (run-none v.2.halted q.rest none) q.under;
        named = q.named;
        place = ap (λ k. drop k names) (p.again l) ∙ q.named;
      }

  pub placed : (held : List ℕ) (left at place : ℕ) (v : Over) → names ≡ held → Queued schedule n start left held at v → IsPlaceFrom names at place → Queued schedule n start left names place v
  placed held left at place v e q p = at-place left at place v (subst (λ ns. Queued schedule n start left ns at v) (sym e) q) p (cases_lt at (length names))

  -- the next turn of the schedule is that of a name
  next-named : (place left who : ℕ) (others : List ℕ) (v : Over) (q : Queued schedule n start left names place v) → drop place names ≡ who ∷ others →
      (after : List ℕ) × ((next_turn v.2.halted schedule q.rest ≡ Some (who, after)) × (running v.2.halted after ≡ others))
  next-named place left who others v q e =
      let f = run-next v.2.halted q.rest who others (sym q.place ∙ e) in
      (f.after, (ap (λ x. or_again x (next_in v.2.halted schedule)) f.next, f.others))

  -- ---- the turn of the name at a place

  module _ (place left : ℕ) (v w : Over) (some : 0 < left) (inside : place < length names) (q : Queued schedule n start left names place v) where
    abbrev who : ℕ
    who = get_or names place 0

    abbrev next : (after : List ℕ) × ((next_turn v.2.halted schedule q.rest ≡ Some (who, after)) × (running v.2.halted after ≡ drop (place + 1) names))
    next = next-named place left who (drop (place + 1) names) v q (at_drop_more (λ x. x) names place 0 inside)

    pub one-named : Taken who turned.Went v w → Queued schedule n start (left - 1) names (place + 1) w
    one-named taken = record {
      rest = next.0;
      under = goes-on schedule n start left q.rest v w who next.0 turned.Went some next.1.0 taken q.under refl;
      named = q.named ∙ ap (λ hs. running hs schedule) (sym taken.marked);
      place = sym next.1.1 ∙ ap (λ hs. running hs next.0) (sym taken.marked);
    }

    still : (status : ℕ) → Taken who (turned.Halted status) v w → (x : ℕ) → has_halted v.2.halted x ≡ true → has_halted w.2.halted x ≡ true
    still status taken x e = subst (λ hs. has_halted hs x ≡ true) (sym taken.marked) (still-halted v.2.halted who x e)

    pub halted-named : (status : ℕ) (others : List ℕ) (at : ℕ) → Taken who (turned.Halted status) v w → others ≡ running w.2.halted names →
        drop at others ≡ running w.2.halted (drop (place + 1) names) → Queued schedule n start (left - 1) others at w
    halted-named status others at taken f g = record {
      rest = next.0;
      under = goes-on schedule n start left q.rest v w who next.0 (turned.Halted status) some next.1.0 taken q.under refl;
      named = f ∙ ap (running w.2.halted) q.named ∙ run-again v.2.halted w.2.halted schedule (still status taken);
      place = g ∙ ap (running w.2.halted) (sym next.1.1) ∙ run-again v.2.halted w.2.halted next.0 (still status taken);
    }

    pub ended-named : (a : Turn) (end : MultiEnd) → Taken who a v w → end_of_turn who [] a ≡ Err end → Done schedule n start w end
    ended-named a end taken err =
        ends-here schedule n start left q.rest v w who next.0 a some next.1.0 taken q.under end (ends-so who next.0 a end err)
        (λ all. one-runs v.2.halted schedule names place q.named inside all)

  -- ---- turns by names, each of which goes on

  along-named : (k at after left : ℕ) (o : Option HostModel) (f : ℕ) (j l : Joint) → k ≤ left → at < length names → Along names k at after j l → Queued schedule n start left names at (o, f, j) →
      Queued schedule n start (left - k) names after (o, f, l)
  unfolding Along
  along-named zero at after left o f j l few inside a q =
      let less : left ≡ left - 0 = omega arith in
      subst (λ p. Queued schedule n start (left - 0) names p (o, f, l)) a.0
      (subst (λ (x : Joint). Queued schedule n start (left - 0) names at (o, f, x)) a.1 (subst (λ c. Queued schedule n start c names at (o, f, j)) less q))
  along-named (suc k) at after left o f j l few inside a q =
      let less : left - 1 - k ≡ left - suc k = omega arith in
      let taken = goes-taken (get_or names at 0) j a.0 o f (name-runs j.halted schedule names at q.named inside) a.1.0 in
      subst (λ c. Queued schedule n start c names after (o, f, l)) less
      (along-named k (place_after (length names) at 1) after (left - 1) o f a.0 l (omega (arith, few)) (place-below (length names) at 1 inside) a.1.1
      (placed names (left - 1) (at + 1) (place_after (length names) at 1) (o, f, a.0) refl (one-named at left (o, f, j) (o, f, a.0) (omega (arith, few)) inside q taken) (place-from names at inside)))

  -- up to a count of those that are left
  pub walked-named : (left more at after : ℕ) (o : Option HostModel) (f : ℕ) (j l : Joint) → more ≤ left → at < length names → Along names (left - more) at after j l →
      Queued schedule n start left names at (o, f, j) → Queued schedule n start more names after (o, f, l)
  walked-named left more at after o f j l few inside a q =
      let same : left - (left - more) ≡ more = omega (arith, few) in
      subst (λ c. Queued schedule n start c names after (o, f, l)) same (along-named (left - more) at after left o f j l (omega arith) inside a q)

  -- ---- no name, or no step, is left

  pub none-named : (left at : ℕ) (v : Over) → 0 < left → names ≡ [] → Queued schedule n start left names at v → Done schedule n start v AllHalted
  none-named left at v some e q =
      let none : running v.2.halted q.rest ≡ [] = sym q.place ∙ ap (drop at) e ∙ drop_all at [] (omega arith) in
      none-runs schedule n start left q.rest v q.under some none (sym q.named ∙ e)

  some-next : (halted : List Bool) (held : List ℕ) (place : ℕ) → held ≡ running halted schedule → place < length held → Spent ≡ end_at_last (next_in halted schedule)
  some-next halted [] place e l = absurd (omega arith)
  some-next halted (x ∷ xs) place e l = let f = run-next halted schedule x xs (sym e) in ap end_at_last (sym f.next)

  pub all-spent : (left at place : ℕ) (v : Over) → left ≤ 0 → place < length names → Queued schedule n start left names at v → Done schedule n start v Spent
  all-spent left at place v none l q = all-made schedule n start left q.rest v q.under Spent none (some-next v.2.halted names place q.named l)

  pub none-spent : (left at : ℕ) (v : Over) → left ≤ 0 → names ≡ [] → Queued schedule n start left names at v → Done schedule n start v AllHalted
  none-spent left at v none e q =
      all-made schedule n start left q.rest v q.under AllHalted none (ap end_at_last (sym (run-none v.2.halted schedule (sym q.named ∙ e))))
