use Rattle.std.proofs.Common.{ℕ, List, ◌/◌, ◌%◌, ◌*◌, ◌+◌, ◌<◌, ◌^◌, get_or, subst, ap}
use Rattle.mx_mem.proofs.Tetras.{tetra-numbered}
use Rattle.mx_mem.proofs.page.read_numbered.Goals as goal

pub returns-clause-value : goal.returns-clause-value
returns-clause-value c = λ h.
    let fits = subst (λ (ts : List ℕ). get_or ts (2 * (4 * c.args.k / 8 % 512) + 1) 0 < 2 ^ 32) c.as_slice.ensures (c.know_tetras.ensures (2 * (4 * c.args.k / 8 % 512) + 1)) in
    tetra-numbered c.args.tetras.now c.args.k h fits

pub returns-clause-end : goal.returns-clause-end
returns-clause-end c = λ e. ap (λ i. get_or c.args.tetras.now i 0) e
