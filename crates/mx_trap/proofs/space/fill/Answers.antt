use Rattle.std.proofs.Common.{◌∙◌, arith, ◌<◌, length}
use Rattle.std.proofs.lemmas.List.{length-set}
use Rattle.mx_trap.proofs.Buffers.{fill-next}
use Rattle.mx_trap.proofs.space.fill.Goals as goal

pub loop-place-preserved : goal.loop-place-preserved
loop-place-preserved g c =
    let inside : c.loop-place.place < length c.loop-place.buffer = omega (arith, c.loop-place-test.true, c.loop-place.invariant.size) in
    record {
      told = fill-next (g.M.Space.contents c.args.memory.now).bytes c.args.at c.loop-place.place c.byte_or_zero.result c.loop-place.buffer inside c.loop-place.invariant.told c.byte_or_zero.ensures;
      size = length-set c.loop-place.buffer c.loop-place.place c.byte_or_zero.result ∙ c.loop-place.invariant.size;
    }
