use Rattle.std.proofs.Common.{arith}
use Rattle.mx_panes.proofs.Shown.{one-row-more}
use Rattle.mx_panes.proofs.scene.Scene.register_rows.Goals as goal

pub loop-i-preserved : goal.loop-i-preserved
loop-i-preserved c =
    let few = c.requires in
    let inside = c.loop-i-test.true in
    one-row-more _ _ _ _ _ _ _ c.in_ok-push.ensures.ok c.in_ok-row.ensures (omega (arith, few, inside)) c.loop-i.invariant
