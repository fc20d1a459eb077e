use Rattle.std.proofs.Common.{◌<◌, arith, length}
use Rattle.mx_mem.specs.Tetras.{octas_of}
use Rattle.mx_mem.proofs.Counts.{most-set}
use Rattle.mx_mem.proofs.Tetras.{octas-length}
use Rattle.mx_mem.proofs.page.Page.put.Goals as goal

pub invariant_of-self : goal.invariant_of-self
invariant_of-self c =
    let s = c.self.inside.sheet.value in
    let l : c.args.at < length (octas_of s.tetras) = omega (arith, octas-length s.tetras, c.requires) in
    rw (c.deref_mut-2.ensures.value, c.put_octa.ensures.octas, c.put_octa.ensures.last, c.deref_mut.ensures.value) (most-set (octas_of s.tetras) c.args.at c.args.x s.most l c.self.invariant.0, c.self.invariant.1, c.self.invariant.2)
