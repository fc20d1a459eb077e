-- What a watcher is to come to, over the traces that it will still be told.
use Rattle.std.specs.Prelude.{ℕ, Bool, List, ◌∷◌, if◌then◌else◌}
use Rattle.mx_code.specs.declared.trace.Trace.{Trace}
use Rattle.mx_watch.specs.declared.watcher.Wish.{Wish}
use Rattle.mx_watch.specs.declared.watcher.Wish.TheVariants.{More, Full}

-- its report after it was told these traces, and whether it has said by then that it is full
pub record Watching : Type 0 where
  pub text : List Trace → List ℕ
  pub full : List Trace → Bool

-- what it is once it was told a trace
abbrev pub later : Trace → Watching → Watching
later t w = record { text = λ h. w.text (t ∷ h); full = λ h. w.full (t ∷ h) }

-- what a watcher says
abbrev pub wish_if : Bool → Wish
wish_if full = if full then Full else More
