use Rattle.std.proofs.Common.{◌≡◌, ◌-◌, sym, subst, arith}
use Rattle.mx_core.specs.Kept.{state_of}
use Rattle.mx_core.specs.Walks.{Goes}
use Rattle.mx_core.proofs.Walks.{goes-none}
use Rattle.mx_core.proofs.machine.Machine.make_usual_ones.Goals as goal

pub returns-in-None-clause-goes : goal.returns-in-None-clause-goes
returns-in-None-clause-goes c =
    let none : c.args.n - c.args.n ≡ 0 = omega arith in
    subst (λ k. Goes k (state_of c.args.self.now) (state_of c.args.self.now)) (sym none) (goes-none (state_of c.args.self.now))
