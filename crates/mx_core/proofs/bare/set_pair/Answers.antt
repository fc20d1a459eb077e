use Rattle.mx_core.proofs.BareStarts.{none-fits, first-is, one-fits, second-is}
use Rattle.mx_core.proofs.bare.set_pair.Goals as goal

pub set_surely-requires : goal.set_surely-requires
set_surely-requires c = none-fits c.args.ring.now c.args.ring.now.size c.args.ring.now.visible.first_global c.args.ring.now.visible.globals c.requires

pub set_surely-requires-2 : goal.set_surely-requires-2
set_surely-requires-2 c =
    one-fits c.set_surely.new.ring c.args.ring.now.size c.args.ring.now.visible.first_global c.args.first c.args.ring.now.visible.globals
    (first-is c.args.ring.now c.set_surely.new.ring c.args.ring.now.size c.args.ring.now.visible.first_global c.args.first c.args.ring.now.visible.globals c.requires c.know_bounds.ensures.least_size c.know_bounds.ensures.registers.least_global c.set_surely.ensures)

pub returns : goal.returns
returns c =
    second-is c.set_surely.new.ring c.set_surely-2.new.ring c.args.ring.now.size c.args.ring.now.visible.first_global c.args.first _ c.args.ring.now.visible.globals
    (first-is c.args.ring.now c.set_surely.new.ring c.args.ring.now.size c.args.ring.now.visible.first_global c.args.first c.args.ring.now.visible.globals c.requires c.know_bounds.ensures.least_size c.know_bounds.ensures.registers.least_global c.set_surely.ensures)
    c.know_bounds.ensures.least_size c.know_bounds.ensures.registers.least_global c.set_surely-2.ensures
