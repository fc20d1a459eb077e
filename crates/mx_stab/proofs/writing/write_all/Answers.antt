use Rattle.mx_stab.proofs.Groups.{all-noted, less-noted}
use Rattle.mx_stab.proofs.writing.write_all.Goals as goal

pub loop-next-smaller : goal.loop-next-smaller
loop-next-smaller c = less-noted c.loop-next.bytes.items c.take_node.new.bytes.items c.pop.new.self.items c.take_node.new.pending.items c.loop-next.pending.items c.in-Some.next
    c.in_ok-take_node.ensures.same c.in-Some.ensures.items c.in_ok-take_node.ensures.noted

pub loop-next-preserved : goal.loop-next-preserved
loop-next-preserved c = all-noted c.loop-next.bytes.items c.take_node.new.bytes.items _ c.pop.new.self.items c.take_node.new.pending.items c.loop-next.pending.items c.in-Some.next
    c.in_ok-take_node.ensures.same c.in-Some.ensures.items c.loop-next.invariant
