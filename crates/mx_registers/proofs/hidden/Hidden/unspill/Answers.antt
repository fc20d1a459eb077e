use Rattle.std.proofs.Common.{◌≡◌, ◌++◌, take, drop, refl, sym, ◌∙◌, ap}
use Rattle.std.proofs.lemmas.List.{take-append-drop, drop-take}
use Rattle.mx_registers.specs.HiddenPart.{octas_of}
use Rattle.mx_registers.specs.Parts.{part_in}
use Rattle.mx_registers.proofs.hidden.Hidden.unspill.Goals as goal

pub returns : goal.returns
returns c =
    let i = c.self.inside in
    let whole : octas_of (part_in i) ≡ i.list.octas = ap (λ xs. xs ++ drop i.spilled i.list.octas) (sym c.self.invariant.same_spilled) ∙ take-append-drop i.spilled i.list.octas in
    let left : drop c.args.spilled c.truncate.new.self.octas ≡ take c.args.stays (drop c.args.spilled (octas_of (part_in i))) =
    ap (drop c.args.spilled) c.truncate.ensures.octas ∙ drop-take c.args.spilled c.args.stays i.list.octas ∙ ap (λ xs. take c.args.stays (drop c.args.spilled xs)) (sym whole) in
    rw (← c.self.view_is, left) refl
