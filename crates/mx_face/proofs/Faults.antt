-- How parts of a view fail, one after another.
use Rattle.std.proofs.Common.{◌≡◌, ◌≢◌, ◌≤◌, ◌<◌, ◌⊎◌, inl, inr, ℕ, IsTrue, Ok, Err, refl, sym, ◌∙◌, ap, subst, arith}
use Rattle.std.proofs.lemmas.Bool.{cases_lt}
use Rattle.std.specs.Prelude.{Option, Result}
use Rattle.mx_host.specs.HostModel.{HostModel, Rose}
use Rattle.mx_host.specs.Keeping.{ComesByFault, Keeps, OnlyByFailure}
use Rattle.mx_host.proofs.Keeping.{keeps-then, keeps-all}
use Rattle.mx_plan.proofs.KeptHosts.{only-after, rose-on, keeps_host-kept}
use Rattle.mx_outcome.specs.declared.outcome.Outcome.{Outcome}
use Rattle.mx_outcome.specs.declared.outcome.Outcome.TheVariants.{HostFault as Broken, NoFile, OutOfMemory}
use Rattle.mx_face.specs.Pages.{FaultsBetween, IsOfView}

-- a count that rose stays so
rose-later : (k m n : ℕ) → k ≤ m → m ≤ n → Rose k m → Rose k n
rose-later k m n a b (inl h) = inl (omega (arith, h, b))
rose-later k m n a b (inr e) = by (cases_lt k n)
  where
    by : (k < n) ⊎ (n ≤ k) → Rose k n
    by (inl h) = inl h
    by (inr h) = let same : n ≡ m = omega (arith, a, b, h) in inr (same ∙ e)

-- no call, and an outcome that tells no fault of the host
pub faults-nowhere : (a : Option HostModel) (k : ℕ) (r : Outcome) → IsOfView r → FaultsBetween a a k k Broken NoFile r
faults-nowhere a k r of = record { host_fault = λ had e. absurd (of.0 e); no_file = λ n e. absurd (of.1 e); keeps = keeps-all a k }

-- an outcome is told: what comes of that is the outcome, or that memory ran out
pub faults-told : (a b c : Option HostModel) (k m n : ℕ) (said r : Outcome) → FaultsBetween a b k m Broken NoFile said → Keeps b c m n → (r ≢ OutOfMemory → r ≡ said) → FaultsBetween a c k n Broken NoFile r
faults-told a b c k m n said r was kept same = record {
  host_fault = λ had e. rose-later k m n was.keeps.counting kept.counting (was.host_fault had (sym (same (λ x. absurd (cc (x, e)))) ∙ e));
  no_file = λ un e. rose-later k m n was.keeps.counting kept.counting (was.no_file un (sym (same (λ x. absurd (cc (x, e)))) ∙ e));
  keeps = keeps-then a b c k m n was.keeps kept;
}

-- an outcome that tells no fault of the host is told
pub faults-said : (a b : Option HostModel) (k m : ℕ) (said r : Outcome) → IsOfView said → Keeps a b k m → (r ≢ OutOfMemory → r ≡ said) → FaultsBetween a b k m Broken NoFile r
faults-said a b k m said r of kept same = faults-told a a b k k m said r (faults-nowhere a k said of) kept same

-- a whole after what keeps
pub faults-after : (a b c : Option HostModel) (k m n : ℕ) (r : Outcome) → Keeps a b k m → FaultsBetween b c m n Broken NoFile r → FaultsBetween a c k n Broken NoFile r
faults-after a b c k m n r kept rest = record {
  host_fault = only-after a b k m n Broken r (keeps_host-kept a b k m kept) rest.host_fault;
  no_file = λ un e. rose-on k m n kept.counting (rest.no_file (λ t. un (subst IsTrue kept.telling t)) e);
  keeps = keeps-then a b c k m n kept rest.keeps;
}

-- a part that ended ends the whole, and the end of a whole ends a part
pub whole-ended : {A : Type 0} (a b : Option HostModel) (k m : ℕ) (r : Outcome) → FaultsBetween {A = Result A Outcome} a b k m (Err Broken) (Err NoFile) (Err r) → FaultsBetween a b k m Broken NoFile r
whole-ended a b k m r part = record { host_fault = λ had e. part.host_fault had (ap Err e); no_file = λ un e. part.no_file un (ap Err e); keeps = part.keeps }

pub part-ended : {A : Type 0} (a b : Option HostModel) (k m : ℕ) (r : Outcome) → FaultsBetween a b k m Broken NoFile r → FaultsBetween {A = Result A Outcome} a b k m (Err Broken) (Err NoFile) (Err r)
part-ended a b k m r whole = record { host_fault = λ had e. whole.host_fault had (cc e); no_file = λ un e. whole.no_file un (cc e); keeps = whole.keeps }

-- a part of the work on files
pub part-works : {A : Type 0} (a b : Option HostModel) (k m : ℕ) (x : Result A Outcome) → OnlyByFailure a (Err Broken) x k m → ComesByFault a (Err NoFile) x k m → Keeps a b k m → FaultsBetween a b k m (Err Broken) (Err NoFile) x
part-works a b k m x host absent kept = record { host_fault = host; no_file = absent; keeps = kept }
