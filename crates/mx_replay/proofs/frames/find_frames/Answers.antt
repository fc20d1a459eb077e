use Rattle.std.proofs.Common.{sym, ◌∙◌}
use Rattle.mx_replay.proofs.Framed.{frames-begun, frames-done, frames-on}
use Rattle.mx_replay.proofs.frames.find_frames.Goals as goal

pub loop-alloc-init : goal.loop-alloc-init
loop-alloc-init c = λ p s. frames-begun p _ _ _ c.new-frames.ensures.items s

pub loop-alloc-preserved : goal.loop-alloc-preserved
loop-alloc-preserved c = λ p s.
    frames-on p _ _ _ _ _ (sym c.has_more.ensures ∙ c.loop-alloc-test.true) c.in_ok-follow_turn.ensures.turn c.in_ok-follow_turn.ensures.frames (c.loop-alloc.invariant p s)

pub returns : goal.returns
returns c = λ p s. c.from_vec.ensures ∙ frames-done p _ _ _ (sym c.has_more.ensures ∙ c.loop-alloc-test.false) (c.loop-alloc.invariant p s)
