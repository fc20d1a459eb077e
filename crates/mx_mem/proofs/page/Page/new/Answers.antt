use Rattle.std.proofs.Common.{ℕ, List, ◌<◌, sym, ap, subst, arith}
use Rattle.std.proofs.lemmas.List.{get_or-replicate}
use Rattle.mx_mem.specs.Count.{AreAtMost}
use Rattle.mx_mem.proofs.Counts.{most-zeros}
use Rattle.mx_mem.proofs.Tetras.{octas-zeros}
use Rattle.mx_mem.proofs.page.Page.new.Goals as goal

pub invariant_of-result : goal.invariant_of-result
invariant_of-result c = rw c.in_ok-new.ensures.ok (subst (AreAtMost 0) (sym octas-zeros) (most-zeros 512), c.low_number.ensures, get_or-replicate 1025 1024 0 0 (omega arith))

pub returns : goal.returns
returns c = rw c.in_ok-new.ensures.ok (ap (λ (xs : List ℕ). (c.args.number, xs)) octas-zeros)
