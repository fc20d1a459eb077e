-- Parts of the work, one after another.
use Rattle.std.proofs.Common.{IsTrue, ◌≡◌, ◌≢◌, inl, inr, Ok, Err, refl, sym, ◌∙◌, ap, subst}
use Rattle.std.specs.Prelude.{Option, Result}
use Rattle.mx_host.specs.HostModel.{HostModel, tells, contents}
use Rattle.mx_plan.specs.Calls.{host, need}
use Rattle.mx_plan.specs.Clauses.{CarriesOutOnHost}
use Rattle.mx_plan.specs.Plan.{returns, bind, end_of, end_after, Stops, StopsAfter}
use Rattle.mx_plan.proofs.Plans.{end_bind, end_returns, stops_first, stops_after}
use Rattle.mx_files.specs.FilePlans.{Part, on_ok}
use Rattle.mx_outcome.specs.declared.outcome.Outcome.{Outcome}
use Rattle.mx_outcome.specs.declared.outcome.Outcome.TheVariants.{OutOfMemory}
use Rattle.mx_begin.specs.BeginPlans.{taking}

-- ---- memory that is taken

pub part-lacks : {A : Type 0} (a : Option HostModel) (p : Part A) → CarriesOutOnHost a a (Err OutOfMemory) (Err OutOfMemory) (taking p)
unfolding bind need Stops host
part-lacks a p = λ t. record { ending = λ ne. absurd (ne refl); stopping = λ e. inl refl }

pub part-taking : {A : Type 0} (a b : Option HostModel) (r : Result A Outcome) (p : Part A) → CarriesOutOnHost a b (Err OutOfMemory) r p → CarriesOutOnHost a b (Err OutOfMemory) r (taking p)
unfolding bind need Stops end_of host
part-taking a b r p h = λ t. record { ending = λ ne. (h t).ending ne; stopping = λ e. inr ((h t).stopping e) }

-- a value that memory alone is taken for
pub part-made : {A : Type 0} (a : Option HostModel) (r x : Result A Outcome) → (r ≢ Err OutOfMemory → r ≡ x) → CarriesOutOnHost a a (Err OutOfMemory) r (taking (returns x))
unfolding bind need Stops end_of host
part-made a r x is = λ t. record { ending = λ ne. ap (λ y. (y, contents a)) (is ne); stopping = λ e. inl refl }

-- ---- a part, and what follows it

tells-then : (a b : Option HostModel) → tells b ≡ tells a → IsTrue (tells a) → IsTrue (tells b)
tells-then a b e t = subst IsTrue (sym e) t

pub part-then : {A B : Type 0} (a b c : Option HostModel) (x : A) (r : Result B Outcome) (f : A → Part B) (p : Part A) → tells b ≡ tells a → CarriesOutOnHost a b (Err OutOfMemory) (Ok x) p →
    CarriesOutOnHost b c (Err OutOfMemory) r (f x) → CarriesOutOnHost a c (Err OutOfMemory) r (bind (on_ok f) p)
part-then {A} {B} a b c x r f p e first second = λ t.
    let is : (Ok x, contents b) ≡ end_of host p (contents a) = (first t).ending (λ o. absurd (cc)) in
    let next = second (tells-then a b e t) in
    record {
      ending = λ ne. next.ending ne ∙ sym (end_bind host (on_ok f) p (contents a) ∙ ap (end_after host (on_ok f)) (sym is));
      stopping = λ o. stops_after host (on_ok f) p (contents c) (contents a) (subst (StopsAfter host (contents c) (on_ok f)) is (next.stopping o));
    }

pub part-ends : {A B : Type 0} (a b : Option HostModel) (outcome : Outcome) (f : A → Part B) (p : Part A) → CarriesOutOnHost a b (Err OutOfMemory) (Err outcome) p → CarriesOutOnHost a b (Err OutOfMemory) (Err outcome) (bind (on_ok f) p)
part-ends {A} {B} a b outcome f p h = λ t. record {
  ending = λ ne.
      let is : (Err outcome, contents b) ≡ end_of host p (contents a) = (h t).ending (λ o. ne (cc)) in
      sym (end_bind host (on_ok f) p (contents a) ∙ ap (end_after host (on_ok f)) (sym is) ∙ end_returns host (Err outcome) (contents b));
  stopping = λ o. stops_first host (on_ok f) p (contents b) (contents a) ((h t).stopping (cc));
}
