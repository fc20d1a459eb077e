use Rattle.std.proofs.Common.{◌≡◌, ◌∙◌, ap}
use Rattle.std.proofs.lemmas.Result.{on_ok_weaker}
use Rattle.mx_mem.specs.Memory.{octa_at, stored_at}
use Rattle.mx_mem.specs.Parts.{with_part}
use Rattle.mx_mem.proofs.PartBytes.{part-bytes}
use Rattle.mx_mem.proofs.memory.Memory.store_part.Goals as goal

-- the octa that is stored, once what `load` gave is put in
octa-stored : (c : goal.After-store) → c.with_part.result ≡ with_part c.args.part (octa_at c.args.self.now c.args.a) c.args.a c.args.x
octa-stored c = c.with_part.ensures ∙ ap (λ octa. with_part c.args.part octa c.args.a c.args.x) c.load.ensures.value

pub returns-clause-octas : goal.returns-clause-octas
returns-clause-octas c =
    on_ok_weaker c.store.result (λ e. e ∙ ap (λ octa. stored_at (octa_at c.args.self.now) c.args.a octa) (octa-stored c)) c.store.ensures.octas

pub returns-clause-bytes : goal.returns-clause-bytes
returns-clause-bytes c =
    on_ok_weaker c.store.result (λ e. part-bytes c.args.self.now c.store.new.self c.args.part c.args.a c.args.x e) (returns-clause-octas c)
