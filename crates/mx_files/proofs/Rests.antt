-- What is left of a plan, and what comes of plans one after another.
use Rattle.std.proofs.Common.{◌≡◌, ◌≢◌, ◌⊎◌, inl, inr, ℕ, refl, sym, ◌∙◌, ap, IsTrue}
use Rattle.std.specs.Prelude.{Option}
use Rattle.mx_host.specs.HostModel.{HostModel, tells, contents}
use Rattle.mx_host.specs.Keeping.{Keeps}
use Rattle.mx_plan.specs.Calls.{host, HostPlan}
use Rattle.mx_plan.specs.Clauses.{KeepsHost}
use Rattle.mx_plan.specs.Held.{Held, KeepsStreams}
use Rattle.mx_plan.specs.Plan.{Plan, returns, Acts, end_of, Stops, Comes, IsRest}
use Rattle.mx_plan.proofs.HeldLaws.{held-end, held-stop, held-on}
use Rattle.mx_plan.proofs.Plans.{end_returns}
use Rattle.mx_plan.proofs.Streams.{streams-held}
use Rattle.mx_word.specs.Lists.{IsFront}

-- ---- what is left

pub rest-all : {O : Type 0} {R : O → Type 0} {W A : Type 0} (d : Acts O R W) (p : Plan O R A) (w : W) → IsRest d p w p w
rest-all d p w = record { ending = refl; stopping = λ v h. h }

pub rest-through : {O : Type 0} {R : O → Type 0} {W A : Type 0} (d : Acts O R W) (p q r : Plan O R A) (u v w : W) → IsRest d p u q v → IsRest d q v r w → IsRest d p u r w
rest-through d p q r u v w h k = record { ending = k.ending ∙ h.ending; stopping = λ x s. k.stopping x (h.stopping x s) }

-- what comes of what is left comes of the whole
pub rest-comes : {O : Type 0} {R : O → Type 0} {W A : Type 0} (d : Acts O R W) (p whole : Plan O R A) (now new start : W) (none r : A) → IsRest d p now whole start → Comes d now new none r p → Comes d start new none r whole
rest-comes d p whole now new start none r h c = record { ending = λ ne. c.ending ne ∙ sym h.ending; stopping = λ e. h.stopping new (c.stopping e) }

-- nothing is left but an answer
pub rest-done : {O : Type 0} {R : O → Type 0} {W A : Type 0} (d : Acts O R W) (a : A) (now start : W) (whole : Plan O R A) (none : A) → a ≢ none → IsRest d (returns a) now whole start → Comes d start now none a whole
rest-done d a now start whole none ne h = record { ending = λ no. sym (h.ending ∙ end_returns d a now); stopping = λ e. absurd (ne e) }

-- ---- a relation that every call keeps, where memory ran out or not

pub comes-held : {O : Type 0} {R : O → Type 0} {W A : Type 0} (d : Acts O R W) (Rel : W → W → Type 0) → Held d Rel → (v w : W) (none r : A) (p : Plan O R A) → (r ≡ none) ⊎ (r ≢ none) → Comes d v w none r p → Rel v w
comes-held d Rel h v w none r p (inl e) c = held-stop d Rel h p w v (c.stopping e)
comes-held {O} {R} {W} {A} d Rel h v w none r p (inr ne) c = rw (ap (λ (t : A × W). t.1) (c.ending ne)) (held-end d Rel h p v)

pub stop-streams : {A : Type 0} (p : HostPlan A) (v w : HostModel) → Stops host v p w → KeepsStreams w v
stop-streams p v w s = held-stop host KeepsStreams streams-held p v w s

-- what is on standard output where memory ran out is a front of what would be there at the end
pub stop-front : {A : Type 0} (p : HostPlan A) (v w : HostModel) → Stops host v p w → IsFront v.output (end_of host p w).1.output
stop-front p v w s = (held-on host KeepsStreams streams-held p v w s).growing

pub keeps-by : (old new : Option HostModel) (earlier later : ℕ) → KeepsHost old new earlier later → (IsTrue (tells old) → KeepsStreams (contents old) (contents new)) → Keeps old new earlier later
keeps-by old new earlier later h k = record {
  telling = h.0;
  counting = h.1;
  input = λ t. (k t).input;
  output = λ t. (k t).output;
  errors = λ t. (k t).errors;
  growing = λ t. (k t).growing;
}

pub comes-keeps : {A : Type 0} (old new : Option HostModel) (earlier later : ℕ) (none r : A) (p : HostPlan A) → (r ≡ none) ⊎ (r ≢ none) →
    (IsTrue (tells old) → Comes host (contents old) (contents new) none r p) → KeepsHost old new earlier later → Keeps old new earlier later
comes-keeps old new earlier later none r p lacks c h =
    keeps-by old new earlier later h (λ t. comes-held host KeepsStreams streams-held (contents old) (contents new) none r p lacks (c t))

pub ruleset stopping = (stop-streams, stop-front)
