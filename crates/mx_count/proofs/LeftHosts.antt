-- How what is counted leaves the host.
use Rattle.std.proofs.Common.{◌≡◌, ℕ, List, arith, refl, subst, Ok, Err}
use Rattle.std.specs.Prelude.{Result}
use Rattle.mx_host.specs.HostModel.{HostModel}
use Rattle.mx_mmo.specs.Image.{Image}
use Rattle.mx_core.specs.State.{State}
use Rattle.mx_run.specs.AccompaniedRuns.{ComesAccompanied}
use Rattle.mx_run.specs.WildRuns.{window_machine}
use Rattle.mx_run.specs.declared.end.End.{End}
use Rattle.mx_run.specs.declared.end.End.TheVariants.{OutOfMemory}
use Rattle.mx_run.proofs.AccompaniedRuns.{lacking-so}
use Rattle.mx_run.proofs.FreeTurns.{none-made}
use Rattle.mx_words.specs.declared.order.Order.{Order}
use Rattle.mx_begin.specs.Begun.{started}
use Rattle.mx_outcome.specs.declared.outcome.Outcome.{Outcome}
use Rattle.mx_count.specs.Leaving.{RunLeaves, StartLeaves, ImageLeaves, MeaningLeaves}

-- ---- a machine

pub run-left : (n : ℕ) (s t : State) (m k : HostModel) (end : End) → ComesAccompanied n (s, m) (t, k) end → RunLeaves n s m k
run-left n s t m k end c = record { end = end; after = t; run = c }

-- no step is made
left-still : (n : ℕ) (s : State) (m : HostModel) → RunLeaves n s m m
left-still n s m = record { end = OutOfMemory; after = s; run = lacking-so n 0 (s, m) (s, m) (omega arith) (none-made s m) }

-- ---- what begins it

pub started-left : (n : ℕ) (r : Result State Outcome) (s : State) (m k : HostModel) → Ok s ≡ r → RunLeaves n s m k → StartLeaves n r m k
started-left n r s m k e h = subst (λ (x : Result State Outcome). StartLeaves n x m k) e h

unstarted : (n : ℕ) (r : Result State Outcome) (m : HostModel) → StartLeaves n r m m
unstarted n (Ok s) m = left-still n s m
unstarted n (Err why) m = refl

pub unstarted-left : (o : Order) (arguments : List (List ℕ)) (image : Image) (m : HostModel) → ImageLeaves o arguments image m m
unstarted-left o arguments image m = unstarted o.steps (started window_machine o.ring image arguments) m

pub meant-left : (o : Order) (arguments : List (List ℕ)) (r : Result Image Outcome) (image : Image) (m k : HostModel) → Ok image ≡ r → ImageLeaves o arguments image m k → MeaningLeaves o arguments r m k
meant-left o arguments r image m k e h = subst (λ (x : Result Image Outcome). MeaningLeaves o arguments x m k) e h

pub unmeant-left : (o : Order) (arguments : List (List ℕ)) (r : Result Image Outcome) (m : HostModel) → MeaningLeaves o arguments r m m
unmeant-left o arguments (Ok image) m = unstarted-left o arguments image m
unmeant-left o arguments (Err outcome) m = refl
