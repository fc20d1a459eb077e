use Rattle.std.proofs.Common.{rules, ◌≡◌, ◌++◌, ◌∷◌, [], ap, subst, sym, ◌∙◌, append_assoc}
use Rattle.mx_asm.specs.Fitting.{AreFit, GrowsFit}
use Rattle.mx_asm.proofs.Fitting.{grows-next, fit-rest}
use Rattle.mx_asm.proofs.lines.append.Goals as goal

pub loop-item-preserved : goal.loop-item-preserved
loop-item-preserved c =
    let rest = c.next.new.self.rest.items in
    let next : c.loop-item.item-iterator.rest.items ≡ c.in-Some.item ∷ rest = search rules in
    let pushed : c.loop-item.out ++ c.in-Some.item ∷ [] ≡ c.push.new.self = search rules in (
      ap (λ l. l ++ rest) (sym pushed) ∙ append_assoc c.loop-item.out (c.in-Some.item ∷ []) rest ∙ ap (λ l. c.loop-item.out ++ l) (sym next) ∙ c.loop-item.invariant.0,
      λ fit.
          let so_far = c.loop-item.invariant.1 fit in
          let more = subst AreFit next so_far.1 in
          (subst (GrowsFit c.args.out.now) pushed (grows-next _ _ rest c.in-Some.item so_far.0 more), fit-rest c.in-Some.item rest more),
    )
