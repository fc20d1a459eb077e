use Rattle.std.proofs.Common.{sym, ◌∙◌}
use Rattle.mx_multi.specs.Joint.{joint_of}
use Rattle.mx_top.proofs.SharedDumps.{shared-none, shared-there, shared-above}
use Rattle.mx_top.proofs.processors.next_shown.Goals as goal

pub returns-then-is_in_stack_area : goal.returns-then-is_in_stack_area
returns-then-is_in_stack_area c =
    shared-above (joint_of c.args.multi.now).memory c.args.from c.in-Some.a c.in-Some.x c.next_octa-then-is_in_stack_area.result c.in-Some.ensures (sym c.is_in_stack_area.ensures ∙ c.if-is_in_stack_area.true)
    c.next_octa-then-is_in_stack_area.ensures

pub returns-else-is_in_stack_area : goal.returns-else-is_in_stack_area
returns-else-is_in_stack_area c =
    shared-there (joint_of c.args.multi.now).memory c.args.from c.in-Some.a c.in-Some.x c.in-Some.ensures (sym c.is_in_stack_area.ensures ∙ c.if-is_in_stack_area.false)

pub returns-in-None : goal.returns-in-None
returns-in-None c = shared-none (joint_of c.args.multi.now).memory c.args.from c.in-None.ensures
