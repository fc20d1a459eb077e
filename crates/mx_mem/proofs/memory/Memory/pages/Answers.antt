use Rattle.std.proofs.Common.{sym, ap, ◌∙◌, subst}
use Rattle.std.specs.Ordering.{nat_cmp}
use Rattle.std.specs.List.Sorted.{IsStrictlySortedBy}
use Rattle.mx_mem.specs.Memory.{Stored, page_numbers}
use Rattle.mx_mem.proofs.Views.{page_numbers-view}
use Rattle.mx_mem.proofs.memory.Memory.pages.Goals as goal

-- the numbers are the keys of the map, which are in order
pub returns-clause-distinct : goal.returns-clause-distinct
returns-clause-distinct c =
    subst (IsStrictlySortedBy nat_cmp) (sym (page_numbers-view c.self.inside.pages.items c.self.inside.places.entries) ∙ ap page_numbers c.self.view_is) c.len.ensures.ordered
