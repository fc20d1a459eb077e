-- Writes that were told a trace.
use Rattle.std.proofs.Common.{◌≡◌, ℕ, List, [], ◌∷◌, ◌++◌, length, nat_le, ap}
use Rattle.mx_code.specs.declared.trace.Trace.{Trace}
use Rattle.mx_watch.specs.Watching.{later}
use Rattle.mx_watch.specs.Writings.{write_of, writes_after, noting}
use Rattle.mx_watch.specs.declared.writes.Write.{Write}

pub writes_told : (from to cap : ℕ) (writes after : List Write) (t : Trace) → after ≡ writes ++ write_of from to t.pc t.writes → noting from to cap after ≡ later t (noting from to cap writes)
unfolding writes_after
writes_told from to cap writes after t e = ap (noting from to cap) e

pub full_told : (from to cap : ℕ) (writes after : List Write) (t : Trace) → after ≡ writes ++ write_of from to t.pc t.writes → nat_le cap (length after) ≡ (noting from to cap writes).full (t ∷ [])
unfolding writes_after
full_told from to cap writes after t e = ap (λ (ws : List Write). nat_le cap (length ws)) e
