use Rattle.std.proofs.Common.{◌≡◌, ◌<◌, ◌/◌, ◌%◌, ◌*◌, ◌-◌, ◌^◌, ℕ, bit_and, arith, ap, refl, ◌∙◌}
use Rattle.std.proofs.Math.Nat.{mod-eq_of_lt}
use Rattle.std.proofs.lemmas.Nat.{and_mask}
use Rattle.mx_mem.specs.Parts.{size_of, bits_below}
use Rattle.mx_mem.specs.declared.part.Part.{Part}
use Rattle.mx_mem.proofs.Fields.{field-within}
use Rattle.mx_mem.proofs.PartFields.{part-fits}
use Rattle.mx_mem.proofs.part.with_part.Goals as goal

-- a part, masked and moved to its place
moved : (part : Part) (n a below mask : ℕ) → below ≡ bits_below part a → mask ≡ 2 ^ (8 * size_of part) - 1 → n % 2 ^ (8 * size_of part) * 2 ^ bits_below part a < 2 ^ 64 →
    bit_and n mask * 2 ^ below % 18446744073709551616 ≡ n % 2 ^ (8 * size_of part) * 2 ^ bits_below part a
moved part n a below mask e f l =
    ap (λ b. bit_and n mask * 2 ^ b % 18446744073709551616) e
    ∙ ap (λ k. bit_and n k * 2 ^ bits_below part a % 18446744073709551616) f
    ∙ ap (λ k. k * 2 ^ bits_below part a % 18446744073709551616) (and_mask n (8 * size_of part))
    ∙ mod-eq_of_lt l

old-part : (c : goal.After-mask-mask) → bit_and (c.args.octa / 2 ^ c.bits_below-below.result) c.mask-mask.result * 2 ^ c.bits_below-below.result % 18446744073709551616
    ≡ c.args.octa / 2 ^ bits_below c.args.part c.args.a % 2 ^ (8 * size_of c.args.part) * 2 ^ bits_below c.args.part c.args.a
old-part c =
    let within = field-within c.args.octa (bits_below c.args.part c.args.a) (8 * size_of c.args.part) in
    ap (λ b. bit_and (c.args.octa / 2 ^ b) c.mask-mask.result * 2 ^ c.bits_below-below.result % 18446744073709551616) c.bits_below-below.ensures.value
    ∙ moved c.args.part (c.args.octa / 2 ^ bits_below c.args.part c.args.a) c.args.a _ _ c.bits_below-below.ensures.value c.mask-mask.ensures (omega arith)

new-part : (c : goal.After-mask-mask) → bit_and c.args.x c.mask-mask.result * 2 ^ c.bits_below-below.result % 18446744073709551616
    ≡ c.args.x % 2 ^ (8 * size_of c.args.part) * 2 ^ bits_below c.args.part c.args.a
new-part c =
    let fits = part-fits c.args.part c.args.octa c.args.a c.args.x c.ranges.octa.fits in
    moved c.args.part c.args.x c.args.a _ _ c.bits_below-below.ensures.value c.mask-mask.ensures (omega arith)

pub overflow_sub-result : goal.overflow_sub-result
overflow_sub-result c =
    let within = field-within c.args.octa (bits_below c.args.part c.args.a) (8 * size_of c.args.part) in
    rw (old-part c) within

pub overflow_add-result : goal.overflow_add-result
overflow_add-result c =
    let fits = part-fits c.args.part c.args.octa c.args.a c.args.x c.ranges.octa.fits in
    rw (old-part c, new-part c) (omega arith)

pub returns : goal.returns
returns c = rw (old-part c, new-part c) refl
