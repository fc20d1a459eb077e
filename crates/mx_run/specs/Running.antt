-- What a runner has: a machine, and the flags that are held.
use Rattle.std.specs.Prelude.{ℕ, List}
use Rattle.mx_core.specs.Kept.{Kept}
use Rattle.mx_run.specs.declared.flags.Flags.{Flags}

pub record Running : Type 0 where
  pub machine : Kept
  pub flags : List (ℕ × Flags)
