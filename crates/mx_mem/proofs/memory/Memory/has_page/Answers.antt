use Rattle.std.proofs.Common.{◌/◌, ap, sym, ◌∙◌}
use Rattle.mx_mem.specs.Memory.{Stored, has_page}
use Rattle.mx_mem.proofs.Views.{has_page-view}
use Rattle.mx_mem.proofs.memory.Memory.has_page.Goals as goal

pub returns : goal.returns
returns c =
    c.contains_key.ensures ∙ sym (has_page-view c.self.inside.pages.items c.self.inside.places (c.args.a / 4096)) ∙ ap (λ s. has_page s (c.args.a / 4096)) c.self.view_is
