-- How the host is left by what is run and counted, also where there is no memory.
use Rattle.std.specs.Prelude.{ℕ, ◌≡◌, IsTrue, List, Option, Result, Ok, Err}
use Rattle.mx_host.specs.HostModel.{HostModel, tells, contents}
use Rattle.mx_mmo.specs.Image.{Image}
use Rattle.mx_core.specs.State.{State}
use Rattle.mx_run.specs.AccompaniedRuns.{ComesAccompanied}
use Rattle.mx_run.specs.WildRuns.{window_machine}
use Rattle.mx_run.specs.declared.end.End.{End}
use Rattle.mx_words.specs.declared.order.Order.{Order}
use Rattle.mx_begin.specs.Begun.{image_in, started}
use Rattle.mx_begin.specs.declared.images.Form.TheVariants.{Source}
use Rattle.mx_outcome.specs.declared.outcome.Outcome.{Outcome}

-- A run of at most n steps from this state left the host so: it came to its end; or it stopped because memory ran out, in a step or between
-- two of them, and nothing but what was done by then changed.
pub record RunLeaves (n : ℕ) (s : State) (old new : HostModel) : Type 0 where
  pub end : End
  pub after : State
  pub run : ComesAccompanied n (s, old) (after, new) end

-- where no machine starts, nothing changed
abbrev pub StartLeaves : ℕ → Result State Outcome → HostModel → HostModel → Type 0
StartLeaves n (Err outcome) old new = new ≡ old
StartLeaves n (Ok s) old new = RunLeaves n s old new

abbrev pub ImageLeaves : Order → List (List ℕ) → Image → HostModel → HostModel → Type 0
ImageLeaves o arguments image old new = StartLeaves o.steps (started window_machine o.ring image arguments) old new

abbrev pub MeaningLeaves : Order → List (List ℕ) → Result Image Outcome → HostModel → HostModel → Type 0
MeaningLeaves o arguments (Err outcome) old new = new ≡ old
MeaningLeaves o arguments (Ok image) old new = ImageLeaves o arguments image old new

abbrev pub SourceLeaves : Order → List (List ℕ) → List ℕ → HostModel → HostModel → Type 0
SourceLeaves o arguments source old new = MeaningLeaves o arguments (image_in Source source) old new

-- a host that tells its contents is left so
abbrev pub IsLeft : Option HostModel → Option HostModel → (HostModel → HostModel → Type 0) → Type 0
IsLeft old new Leaves = IsTrue (tells old) → Leaves (contents old) (contents new)
