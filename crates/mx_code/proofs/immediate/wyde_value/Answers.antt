use Rattle.std.proofs.Common.{◌<◌, ◌%◌, ◌^◌, arith}
use Rattle.mx_code.specs.Instructions.{code_of, yz_of}
use Rattle.mx_code.proofs.Tables.{wyde-place, place-fits, wyde_low, wyde_high}
use Rattle.mx_code.proofs.immediate.wyde_value.Goals as goal

pub returns : goal.returns
returns c =
    let below : code_of c.args.i.now < 256 = omega arith in
    let among : code_of c.args.i.now % 4 < 4 = omega arith in
    let short : yz_of c.args.i.now < 2 ^ 16 = omega arith in
    let place = wyde-place (code_of c.args.i.now) (wyde_low _ below c.requires) (wyde_high _ below c.requires) in
    rw (c.from.ensures, c.code.ensures, place, c.yz.ensures.value) (place-fits (yz_of c.args.i.now) (code_of c.args.i.now % 4) short among)
