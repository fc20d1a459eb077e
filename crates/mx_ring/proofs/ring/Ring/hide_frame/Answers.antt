use Rattle.std.proofs.Common.{◌≡◌, ◌≤◌, ◌+◌, ◌-◌, length, arith, refl}
use Rattle.mx_ring.proofs.Rings.{save-ring, length-frame}
use Rattle.mx_ring.specs.Frames.{frame, frame_length}
use Rattle.mx_registers.specs.HiddenPart.{octas_of}
use Rattle.mx_ring.specs.RingParts.{window_in}
use Rattle.mx_ring.specs.Stack.{windowed, saved, frame_top}
use Rattle.mx_ring.proofs.ring.Ring.hide_frame.Goals as goal

pub invariant_of-self : goal.invariant_of-self
invariant_of-self c =
    let v = c.self.inside.visible in
    let g : v.first_global ≤ c.args.x = rw (← c.self.view_is) at c.requires.global in
    let top : c.args.last ≡ length (octas_of c.self.inside.hidden) + frame_length v.first_global (length v.locals) - 1 = rw (← c.self.view_is) at c.requires.top in
    let size : length (frame v c.args.s.now) ≡ frame_length v.first_global (length v.locals) = length-frame v c.args.s.now c.self.invariant.registers in
    rw (c.set.ensures, c.truncate.ensures, c.spill_all.ensures, c.hide_registers.ensures) (save-ring (window_in c.self.inside) c.args.x _ (frame v c.args.s.now) c.self.invariant g (omega arith))

pub returns : goal.returns
unfolding saved
returns c =
    let top : c.args.last ≡ frame_top (windowed (window_in c.self.inside)) = rw (← c.self.view_is) at c.requires.top in
    rw (← c.self.view_is, c.set.ensures, c.truncate.ensures, c.spill_all.ensures, c.hide_registers.ensures, top) refl
