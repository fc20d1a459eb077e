use Rattle.std.proofs.Common.{◌≡◌, ◌++◌, drop}
use Rattle.mx_type.specs.Texts.{items_text}
use Rattle.mx_type.proofs.lister.add_items.Given as goal

abbrev pub invariant-loop-item : goal.invariant-loop-item
invariant-loop-item l = l.text ++ items_text l.lambda (drop l.item-index l.items) ≡ l.fn.text ++ items_text 0 l.items
