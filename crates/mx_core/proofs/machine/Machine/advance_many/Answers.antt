use Rattle.std.proofs.Common.{rules, ◌≡◌, ◌≢◌, ◌+◌, ◌-◌, ℕ, suc, sym, subst, arith}
use Rattle.std.proofs.lemmas.Grind.{common_steps}
use Rattle.mx_core.specs.Walks.{Goes}
use Rattle.mx_core.specs.Kept.{state_of}
use Rattle.mx_core.specs.declared.step.Advance.TheVariants as advance
use Rattle.mx_core.proofs.Walks.{goes-both, goes-end, goes-none}
use Rattle.mx_core.proofs.machine.Machine.advance_many.Goals as goal

pub loop-left-init : goal.loop-left-init
loop-left-init c =
    let none : c.args.n - c.args.n ≡ 0 = omega arith in
    (omega arith, subst (λ k. Goes k (state_of c.args.self.now) (state_of c.args.self.now)) (sym none) (goes-none (state_of c.args.self.now)))

pub loop-left-preserved : goal.loop-left-preserved
loop-left-preserved c =
    let other : advance.Went ≢ advance.OutOfMemory = grind (arith, common_steps) in
    let made : ℕ = c.args.n - c.loop-left.left in
    let usual : ℕ = c.loop-left.left - c.make_usual_ones-left.result in
    let most = c.loop-left.invariant.0 in
    let more : c.args.n - (c.make_usual_ones-left.result - 1) ≡ suc (made + usual) = omega (arith, c.if-left-eq0.false, most, c.make_usual_ones-left.ensures.most) in
    let all = goes-both made usual (state_of c.args.self.now) (state_of c.loop-left.self) (state_of c.make_usual_ones-left.new.self) c.loop-left.invariant.1 c.make_usual_ones-left.ensures.goes in
    let one = goes-end (made + usual) (state_of c.args.self.now) (state_of c.make_usual_ones-left.new.self) (state_of c.advance_and_keep.new.self)
    (record { window = c.make_usual_ones-left.new.self.ring; machine = c.machines_keep_the_invariant.ensures }) all (c.in-Went.ensures.answer other) in
    (omega (arith, most, c.make_usual_ones-left.ensures.most), subst (λ k. Goes k (state_of c.args.self.now) (state_of c.advance_and_keep.new.self)) (sym more) one)

pub returns-then-left-eq0-clause-goes : goal.returns-then-left-eq0-clause-goes
returns-then-left-eq0-clause-goes c =
    let made : ℕ = c.args.n - c.loop-left.left in
    let usual : ℕ = c.loop-left.left - c.make_usual_ones-left.result in
    let whole : made + usual ≡ c.args.n = omega (arith, c.if-left-eq0.true, c.loop-left.invariant.0, c.make_usual_ones-left.ensures.most) in
    let all = goes-both made usual (state_of c.args.self.now) (state_of c.loop-left.self) (state_of c.make_usual_ones-left.new.self) c.loop-left.invariant.1 c.make_usual_ones-left.ensures.goes in
    subst (λ k. Goes k (state_of c.args.self.now) (state_of c.make_usual_ones-left.new.self)) whole all

pub returns-in_default : goal.returns-in_default
returns-in_default c =
    let made : ℕ = c.args.n - c.loop-left.left in
    let usual : ℕ = c.loop-left.left - c.make_usual_ones-left.result in
    let whole : made + usual ≡ c.args.n - c.make_usual_ones-left.result = omega (arith, c.loop-left.invariant.0, c.make_usual_ones-left.ensures.most) in
    let all = goes-both made usual (state_of c.args.self.now) (state_of c.loop-left.self) (state_of c.make_usual_ones-left.new.self) c.loop-left.invariant.1 c.make_usual_ones-left.ensures.goes in
    let goes = subst (λ k. Goes k (state_of c.args.self.now) (state_of c.make_usual_ones-left.new.self)) whole all in
    search rules
