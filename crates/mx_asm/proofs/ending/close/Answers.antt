use Rattle.std.proofs.Common.{rules, ◌≡◌, ◌++◌, ◌∷◌, ◌-◌, [], length, subst}
use Rattle.mx_asm.proofs.Words.{Post, Stab, GrowsFit}
use Rattle.mx_asm.proofs.Fitting.{fit-registers, grows-one, grows-two}
use Rattle.mx_asm.proofs.ending.close.Goals as goal

pub returns-in_err-push-3-clause-fits : goal.returns-in_err-push-3-clause-fits
returns-in_err-push-3-clause-fits c =
    let registers = fit-registers c.args.gregs.now c.main_address.result c.requires (search rules) (search rules) in
    let same : c.args.out.now ++ Post (255 - length c.args.gregs.now) (c.args.gregs.now ++ c.main_address.result ∷ []) ∷ [] ≡ c.push-3.new.self = search rules in
    subst (GrowsFit c.args.out.now) same (grows-one c.args.out.now _ registers)

pub returns-clause-fits : goal.returns-clause-fits
returns-clause-fits c =
    let registers = fit-registers c.args.gregs.now c.main_address.result c.requires (search rules) (search rules) in
    let same : (c.args.out.now ++ Post (255 - length c.args.gregs.now) (c.args.gregs.now ++ c.main_address.result ∷ []) ∷ []) ++ Stab ∷ [] ≡ c.push-3.new.self = search rules in
    subst (GrowsFit c.args.out.now) same (grows-two c.args.out.now _ Stab registers tt)
