use Rattle.std.proofs.Common.{ℕ, List, ◌/◌, ◌%◌, ◌*◌, ◌+◌, ◌<◌, ◌^◌, get_or, subst}
use Rattle.mx_mem.proofs.Tetras.{tetra-read}
use Rattle.mx_mem.proofs.page.tetra_in.Goals as goal

pub returns : goal.returns
returns c =
    let fits = subst (λ (ts : List ℕ). get_or ts (2 * (c.args.a / 8 % 512) + 1) 0 < 2 ^ 32) c.as_slice.ensures (c.know_tetras.ensures (2 * (c.args.a / 8 % 512) + 1)) in
    tetra-read c.args.tetras.now c.args.a fits
