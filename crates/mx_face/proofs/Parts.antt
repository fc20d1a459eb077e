-- How parts that read over a host fail, one after another.
use Rattle.std.proofs.Common.{◌≡◌, ◌≢◌, ℕ, IsTrue, Ok, Err, subst}
use Rattle.std.specs.Prelude.{Option, Result}
use Rattle.mx_host.specs.HostModel.{HostModel}
use Rattle.mx_host.specs.Keeping.{Keeps}
use Rattle.mx_host.proofs.Keeping.{keeps-then, keeps-all}
use Rattle.mx_plan.proofs.KeptHosts.{only-after, rose-on, keeps_host-kept}
use Rattle.mx_outcome.specs.declared.outcome.Outcome.{Outcome}
use Rattle.mx_outcome.specs.declared.outcome.Outcome.TheVariants.{Done, HostFault as Broken, NoFile, OutOfMemory}
use Rattle.mx_face.specs.Pages.{FaultsBetween, IsOfView}
use Rattle.mx_face.proofs.Faults.{faults-after, faults-nowhere, faults-said, faults-told, part-ended, whole-ended}

-- a part that gives something
pub part-kept : {A : Type 0} (a b : Option HostModel) (k m : ℕ) (x : A) → Keeps a b k m → FaultsBetween {A = Result A Outcome} a b k m (Err Broken) (Err NoFile) (Ok x)
part-kept a b k m x kept = record { host_fault = λ had e. absurd (cc e); no_file = λ un e. absurd (cc e); keeps = kept }

-- one that makes no call
pub part-nowhere : {A : Type 0} (a : Option HostModel) (k : ℕ) (x : A) → FaultsBetween {A = Result A Outcome} a a k k (Err Broken) (Err NoFile) (Ok x)
part-nowhere a k x = part-kept a a k k x (keeps-all a k)

-- one that ends as another one did
pub part-failed : {A B : Type 0} (a b : Option HostModel) (k m : ℕ) (r : Outcome) → FaultsBetween {A = Result A Outcome} a b k m (Err Broken) (Err NoFile) (Err r) → FaultsBetween {A = Result B Outcome} a b k m (Err Broken) (Err NoFile) (Err r)
part-failed a b k m r part = part-ended a b k m r (whole-ended a b k m r part)

-- one after another
pub part-after : {A : Type 0} (a b c : Option HostModel) (k m n : ℕ) (x : Result A Outcome) → Keeps a b k m → FaultsBetween {A = Result A Outcome} b c m n (Err Broken) (Err NoFile) x → FaultsBetween {A = Result A Outcome} a c k n (Err Broken) (Err NoFile) x
part-after a b c k m n x kept rest = record {
  host_fault = only-after a b k m n (Err Broken) x (keeps_host-kept a b k m kept) rest.host_fault;
  no_file = λ un e. rose-on k m n kept.counting (rest.no_file (λ t. un (subst IsTrue kept.telling t)) e);
  keeps = keeps-then a b c k m n kept rest.keeps;
}

-- what is no fault of the host ends a part after another
pub part-lacked : {A : Type 0} (a b : Option HostModel) (k m : ℕ) (r : Outcome) → Keeps a b k m → IsOfView r → FaultsBetween {A = Result A Outcome} a b k m (Err Broken) (Err NoFile) (Err r)
part-lacked a b k m r kept of = part-ended a b k m r (faults-after a b b k m m r kept (faults-nowhere b m r of))

-- an end that is told
pub part-told : {A B : Type 0} (a b c : Option HostModel) (k m n : ℕ) (said r : Outcome) → FaultsBetween {A = Result A Outcome} a b k m (Err Broken) (Err NoFile) (Err said) → Keeps b c m n → (r ≢ OutOfMemory → r ≡ said) → FaultsBetween {A = Result B Outcome} a c k n (Err Broken) (Err NoFile) (Err r)
part-told a b c k m n said r part kept same = part-ended a c k n r (faults-told a b c k m n said r (whole-ended a b k m said part) kept same)

-- a whole that is done after a part
pub whole-kept : (a b : Option HostModel) (k m : ℕ) (r : Outcome) → Keeps a b k m → IsOfView r → FaultsBetween a b k m Broken NoFile r
whole-kept a b k m r kept of = faults-after a b b k m m r kept (faults-nowhere b m r of)

-- what keeps, and then a part or a whole
pub keeps-after : {A : Type 0} (a b c : Option HostModel) (k m n : ℕ) (broken absent x : A) → Keeps a b k m → FaultsBetween b c m n broken absent x → Keeps a c k n
keeps-after a b c k m n broken absent x kept rest = keeps-then a b c k m n kept rest.keeps

pub part-kept-after : {A B : Type 0} (a b c : Option HostModel) (k m n : ℕ) (x : Result A Outcome) (y : B) → Keeps a b k m → FaultsBetween {A = Result A Outcome} b c m n (Err Broken) (Err NoFile) x → FaultsBetween {A = Result B Outcome} a c k n (Err Broken) (Err NoFile) (Ok y)
part-kept-after a b c k m n x y kept rest = part-kept a c k n y (keeps-then a b c k m n kept rest.keeps)

pub part-failed-after : {A B : Type 0} (a b c : Option HostModel) (k m n : ℕ) (r : Outcome) → Keeps a b k m → FaultsBetween {A = Result A Outcome} b c m n (Err Broken) (Err NoFile) (Err r) → FaultsBetween {A = Result B Outcome} a c k n (Err Broken) (Err NoFile) (Err r)
part-failed-after a b c k m n r kept rest = part-failed a c k n r (part-after a b c k m n (Err r) kept rest)

pub whole-kept-after : {A : Type 0} (a b c : Option HostModel) (k m n : ℕ) (x : Result A Outcome) (status : ℕ) → Keeps a b k m → FaultsBetween {A = Result A Outcome} b c m n (Err Broken) (Err NoFile) x → FaultsBetween a c k n Broken NoFile (Done status)
whole-kept-after a b c k m n x status kept rest = whole-kept a c k n (Done status) (keeps-then a b c k m n kept rest.keeps) (λ e. cc, λ e. cc)

pub whole-failed-after : {A : Type 0} (a b c : Option HostModel) (k m n : ℕ) (r : Outcome) → Keeps a b k m → FaultsBetween {A = Result A Outcome} b c m n (Err Broken) (Err NoFile) (Err r) → FaultsBetween a c k n Broken NoFile r
whole-failed-after a b c k m n r kept rest = faults-after a b c k m n r kept (whole-ended b c m n r rest)

pub whole-done : (a b : Option HostModel) (k m status : ℕ) → Keeps a b k m → FaultsBetween a b k m Broken NoFile (Done status)
whole-done a b k m status kept = whole-kept a b k m (Done status) kept (λ e. cc, λ e. cc)

pub ruleset parts = (part-kept, part-nowhere, part-failed, part-after, part-lacked, part-told, whole-ended, faults-after, keeps-after, part-kept-after, part-failed-after, whole-kept-after, whole-failed-after, whole-done)
