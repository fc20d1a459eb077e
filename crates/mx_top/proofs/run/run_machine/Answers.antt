use Rattle.mx_top.proofs.Chosen.{chosen-work, chosen-heard, session-quiet, kept-quiet, stepped-quiet}
use Rattle.mx_top.proofs.WorkParts.{session-is, kept-is, reported-is, stepped-is}
use Rattle.mx_top.proofs.run.run_machine.Goals as goal

pub returns-then-order-clause-part : goal.returns-then-order-clause-part
returns-then-order-clause-part g c = chosen-work g.H.Host.told g.H.Host.faults _ _ _ _ _ _ (session-is c.args.order.now c.if-order.true) c.run_session.ensures

pub returns-then-order-clause-heard : goal.returns-then-order-clause-heard
returns-then-order-clause-heard g c = chosen-heard _ _ _ _ _ _ _ _ _ (session-is c.args.order.now c.if-order.true) (session-quiet _ _ _ _ _ c.args.order.now)

pub returns-then-order-ne0-clause-part : goal.returns-then-order-ne0-clause-part
returns-then-order-ne0-clause-part g c = chosen-work g.H.Host.told g.H.Host.faults _ _ _ _ _ _ (kept-is c.args.order.now c.if-order.false c.if-order-ne0.true) c.run_back.ensures

pub returns-then-order-ne0-clause-heard : goal.returns-then-order-ne0-clause-heard
returns-then-order-ne0-clause-heard g c = chosen-heard _ _ _ _ _ _ _ _ _ (kept-is c.args.order.now c.if-order.false c.if-order-ne0.true) (kept-quiet _ _ _ _ _ c.args.order.now)

pub returns-then-order-2-clause-part : goal.returns-then-order-2-clause-part
returns-then-order-2-clause-part g c = chosen-work g.H.Host.told g.H.Host.faults _ _ _ _ _ _ (reported-is c.args.order.now c.if-order.false c.if-order-ne0.false c.if-order-2.true) c.run_told.ensures.part

pub returns-then-order-2-clause-heard : goal.returns-then-order-2-clause-heard
returns-then-order-2-clause-heard g c = chosen-heard _ _ _ _ _ _ _ _ _ (reported-is c.args.order.now c.if-order.false c.if-order-ne0.false c.if-order-2.true) c.run_told.ensures.heard

pub returns-else-order-2-clause-part : goal.returns-else-order-2-clause-part
returns-else-order-2-clause-part g c = chosen-work g.H.Host.told g.H.Host.faults _ _ _ _ _ _ (stepped-is c.args.order.now c.if-order.false c.if-order-ne0.false c.if-order-2.false) c.run_steps.ensures

pub returns-else-order-2-clause-heard : goal.returns-else-order-2-clause-heard
returns-else-order-2-clause-heard g c = chosen-heard _ _ _ _ _ _ _ _ _ (stepped-is c.args.order.now c.if-order.false c.if-order-ne0.false c.if-order-2.false) (stepped-quiet _ _ _ _ _ c.args.order.now)
