use Rattle.std.proofs.Common.{sym, ◌∙◌, ap}
use Rattle.mx_mem.specs.Parts.{with_part}
use Rattle.mx_mem.specs.declared.part.Part.TheVariants.{Byte}
use Rattle.mx_core.specs.Kept.{state_of}
use Rattle.mx_core.specs.State.{octa}
use Rattle.mx_core.proofs.Spaces.Bytes.{stored-is-put}
use Rattle.mx_core.proofs.space.MachineSpace.put_byte.Goals as goal

pub returns-in-Ok-clause-answer : goal.returns-in-Ok-clause-answer
returns-in-Ok-clause-answer c = λ _.
    stored-is-put c.args.self.now c.store_octa.new.self c.args.a c.args.b c.with_part-octa.result c.in-Ok.ensures.bounds
    (sym c.is_negative.ensures ∙ c.if-is_negative.false) c.ranges.b.fits
    (c.with_part-octa.ensures ∙ ap (λ x. with_part Byte x c.args.a c.from.result) c.octa.ensures ∙ ap (λ b. with_part Byte (octa (state_of c.args.self.now) c.args.a) c.args.a b) c.from.ensures)
    (c.in-Ok.ensures.ok (λ e. absurd (cc)))
