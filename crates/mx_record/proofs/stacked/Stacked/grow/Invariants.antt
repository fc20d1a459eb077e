use Rattle.std.proofs.Common.{◌≡◌, ◌≤◌, ℕ, length}
use Rattle.mx_record.specs.Pictures.{octa_of}
use Rattle.mx_record.proofs.stacked.Stacked.grow.Given as goal

abbrev pub invariant-loop : goal.invariant-loop
invariant-loop l = ((q : ℕ) → octa_of l.self-inside.octas.items q ≡ octa_of l.fn.self q) × (l.counter ≤ length l.self-inside.octas.items)
