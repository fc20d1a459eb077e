use Rattle.std.proofs.Common.{◌≡◌, ◌+◌, ◌*◌, ◌^◌, ◌∷◌, [], ◌++◌}
use Rattle.mx_ring.proofs.Rings.{frame-hidden}
use Rattle.mx_ring.specs.Frames.{saved_specials}
use Rattle.mx_ring.proofs.hiding.hide_registers.Goals as goal

pub returns : goal.returns
returns c =
    let top : c.upper_octas.result ≡ saved_specials c.args.s.now ++ (2 ^ 56 * c.args.visible.now.first_global + c.args.s.now.a) ∷ [] =
    rw (← c.first_global.ensures.value) c.upper_octas.ensures in
    rw (c.append-4.ensures, c.append-3.ensures, c.append-2.ensures, c.append.ensures, c.registers_below.ensures, c.globals.ensures, c.local_count-l.ensures.value) (frame-hidden c.args.hidden.now c.args.visible.now c.args.s.now c.upper_octas.result top)
