use Rattle.std.proofs.Common.{◌∙◌, sym, ap}
use Rattle.mx_mem.specs.Memory.{byte_at}
use Rattle.mx_mem.specs.Parts.{bytes_with_part}
use Rattle.mx_mem.specs.declared.part.Part.TheVariants.{Byte}
use Rattle.mx_mem.proofs.Spaces.{stored-is-put}
use Rattle.mx_mem.proofs.space.MemorySpace.put_byte.Goals as goal

pub returns-in-Ok-clause-answer : goal.returns-in-Ok-clause-answer
returns-in-Ok-clause-answer c = λ _.
    stored-is-put c.args.self.now c.store_part.new.self c.args.a c.args.b (sym c.is_negative.ensures ∙ c.if-is_negative.false) c.ranges.b.fits
    (c.in-Ok.ensures.bytes ∙ ap (bytes_with_part Byte (byte_at c.args.self.now) c.args.a) c.from.ensures) c.in-Ok.ensures.pages c.in-Ok.ensures.count (λ t. absurd (cc (c.in-Ok.ensures.full.0 t)))
