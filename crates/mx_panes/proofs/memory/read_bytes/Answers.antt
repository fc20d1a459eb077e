use Rattle.mx_panes.proofs.Shown.{one-byte-more}
use Rattle.mx_panes.proofs.memory.read_bytes.Goals as goal

pub loop-place-preserved : goal.loop-place-preserved
loop-place-preserved c = one-byte-more _ _ _ _ _ _ c.in_ok-push.ensures.ok c.byte_at.ensures c.loop-place.invariant
