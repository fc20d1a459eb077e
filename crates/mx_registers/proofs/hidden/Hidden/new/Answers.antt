use Rattle.std.proofs.Common.{◌^◌, ◌≡◌, arith, refl, ap, ◌∙◌, length}
use Rattle.mx_registers.proofs.Areas.{zeros-length}
use Rattle.mx_registers.specs.ListParts.{ListPart}
use Rattle.mx_registers.proofs.hidden.Hidden.new.Goals as goal

pub invariant_of-result : goal.invariant_of-result
invariant_of-result c =
    let list = c.in_ok-new.ensures.begin in
    let none : length c.in_ok-new.field-0.octas ≡ 0 = ap (λ (l : ListPart). length l.octas) list in
    let some : c.in_ok-new.field-0.room ≡ 255 = ap (λ (l : ListPart). l.room) list in
    record {
      spilled_are_hidden = omega arith;
      same_spilled = refl;
      all_stack = ap length c.in_ok-new-2.ensures.begin ∙ zeros-length (2 ^ 20);
      has_room = omega (arith, none);
      has_limit = omega arith;
      has_list = omega (arith, some);
    }
