use Rattle.std.proofs.Common.{ap}
use Rattle.mx_host.proofs.Names.{IsSound-set}
use Rattle.mx_host.proofs.mem.MemHost.write_file.Goals as goal

-- the file keeps its name
pub invariant_of-self : goal.invariant_of-self
invariant_of-self c =
    (c.self.invariant.0, IsSound-set _ _ _ _ c.index_mut.result.now c.self.invariant.1 (ap (λ f. f.name) c.index_mut.ensures.value))
