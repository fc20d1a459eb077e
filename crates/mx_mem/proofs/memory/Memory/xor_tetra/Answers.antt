use Rattle.std.proofs.lemmas.Result.{on_ok_weaker}
use Rattle.mx_mem.proofs.Joins.{stored-joined, joined-bytes}
use Rattle.mx_mem.proofs.memory.Memory.xor_tetra.Goals as goal

-- the octas that `store` leaves, once what `load` and `in_its_half` gave is put in
pub returns-clause-octas : goal.returns-clause-octas
returns-clause-octas c =
    on_ok_weaker c.store.result (λ e. stored-joined c.args.self.now c.store.new.self c.args.a c.args.t (rw (c.load.ensures.value, c.in_its_half.ensures) at e)) c.store.ensures.octas

pub returns-clause-bytes : goal.returns-clause-bytes
returns-clause-bytes c =
    on_ok_weaker c.store.result (λ e. joined-bytes c.args.self.now c.store.new.self c.args.a c.args.t c.ranges.t.fits e) (returns-clause-octas c)
