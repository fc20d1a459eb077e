-- Laws of dumps.
use Rattle.std.proofs.Common.{◌≡◌, ◌≤◌, ◌<◌, ℕ, ◌+◌, ◌*◌, ◌/◌, arith, ◌∙◌, ap}
use Rattle.mx_core.specs.State.{State, octa}
use Rattle.mx_dump.specs.Dump.{octa_lines}
use Rattle.mx_dump.proofs.Dumps.{zero-hidden}
use Rattle.mx_dump.proofs.DumpLines.{lines-skipped}
use Rattle.mx_top.proofs.SameDumps.{same-dump}

pub zeros-skipped : (s : State) (n k : ℕ) → ((i : ℕ) → n ≤ i → i < n + k → octa s (8 * i) ≡ 0) → octa_lines s (n + k) ≡ octa_lines s n
zeros-skipped s n k h =
    lines-skipped s n k
    (λ q l e m. let whole : q ≡ 8 * (q / 8) = omega (arith, e) in zero-hidden s q (ap (octa s) whole ∙ h (q / 8) (omega (arith, l)) (omega (arith, m))))

pub ruleset dumping = (same-dump, zeros-skipped)
