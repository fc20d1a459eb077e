use Rattle.std.proofs.Common.{◌≡◌, ◌≤◌, ◌-◌, ◌+◌, ℕ, refl, sym, subst, ap, ◌∙◌, arith}
use Rattle.mx_core.specs.Kept.{Kept, state_of}
use Rattle.mx_core.specs.State.{State}
use Rattle.mx_core.specs.Walks.{Goes}
use Rattle.mx_core.specs.Way.KeptPage.{address_in, placed}
use Rattle.mx_core.proofs.KeptSteps.{code-kept, placed-same, steps_after, walk-away, walk-end, walk-on, walk-unmade}
use Rattle.mx_core.proofs.Walks.{goes-none}
use Rattle.mx_core.proofs.machine.Machine.make_from.Goals as goal

pub loop-made-init : goal.loop-made-init
loop-made-init c =
    let k : Kept = c.args.self.now in
    let there : placed (state_of k) (address_in k c.args.first) (steps_after k 0) ≡ state_of k = placed-same (state_of k) (address_in k c.args.first) c.requires.at c.know_steps.ensures in
    (omega arith, c.requires.here, c.kept_place-place.ensures ∙ ap (λ (m : Kept). m.memory.code_place) c.self.view_is, subst (Goes 0 (state_of k)) (sym there) (goes-none (state_of k)))

pub loop-made-preserved : goal.loop-made-preserved
loop-made-preserved c =
    let l : Kept = c.advance_at.new.self in
    let v = c.loop-made.invariant in
    let kept = c.in-At.ensures.code in
    let goes = walk-on c.loop-made.made (state_of c.args.self.now) c.loop-made.self l c.loop-made.index c.in-At.j c.machines_keep_the_invariant.ensures v.1 c.in-At.ensures.within kept.0 kept.1 v.3 (c.in-At.ensures.made (λ e. cc) _) in
    (omega (arith, c.loop-made-test.true), (code-kept c.loop-made.self.memory l.memory kept.0 v.1.0, c.in-At.ensures.within), v.2 ∙ sym kept.0.2, goes)

pub loop-made-preserved-in-To : goal.loop-made-preserved-in-To
loop-made-preserved-in-To c =
    let l : Kept = c.advance_at.new.self in
    let v = c.loop-made.invariant in
    let kept = c.in-To.ensures.code in
    let below : c.in-To.j ≤ 1024 = omega (arith, c.if-j-gt1024.false) in
    let goes = walk-on c.loop-made.made (state_of c.args.self.now) c.loop-made.self l c.loop-made.index c.in-To.j c.machines_keep_the_invariant.ensures v.1 below kept.0 kept.1 v.3 (c.in-To.ensures.made (λ e. cc) _) in
    (omega (arith, c.loop-made-test.true), (code-kept c.loop-made.self.memory l.memory kept.0 v.1.0, below), v.2 ∙ sym kept.0.2, goes)

pub returns-then-j-gt1024-clause-goes : goal.returns-then-j-gt1024-clause-goes
returns-then-j-gt1024-clause-goes c =
    let made : ℕ = c.loop-made.made in
    let s : State = state_of c.args.self.now in
    let l : Kept = c.advance_at.new.self in
    let v = c.loop-made.invariant in
    let kept = c.in-To.ensures.code in
    let more : c.args.n - (c.args.n - (made + 1)) ≡ made + 1 = omega (arith, c.loop-made-test.true) in
    let goes = walk-away made s c.loop-made.self l c.loop-made.index c.in-To.j c.machines_keep_the_invariant.ensures v.1 kept.0 kept.1 v.3 (c.in-To.ensures.made (λ e. cc) _) in
    subst (λ n. Goes n s (state_of c.place_at.new.self)) (sym more) (subst (Goes (made + 1) s) (sym c.place_at.ensures) goes)

pub returns-in-Unmade-clause-goes : goal.returns-in-Unmade-clause-goes
returns-in-Unmade-clause-goes c =
    let made : ℕ = c.loop-made.made in
    let s : State = state_of c.args.self.now in
    let v = c.loop-made.invariant in
    let all : c.args.n - (c.args.n - made) ≡ made = omega (arith, v.0) in
    let goes = walk-unmade made s (state_of c.place_at-in-Unmade.new.self) c.loop-made.self c.advance_at.new.self c.loop-made.index v.1 c.in-Unmade.ensures.code.0 (c.in-Unmade.ensures.kept refl) v.3 c.place_at-in-Unmade.ensures in
    subst (λ n. Goes n s (state_of c.place_at-in-Unmade.new.self)) (sym all) goes

pub returns-clause-goes : goal.returns-clause-goes
returns-clause-goes c =
    let made : ℕ = c.loop-made.made in
    let s : State = state_of c.args.self.now in
    let v = c.loop-made.invariant in
    let all : c.args.n - 0 ≡ made = omega (arith, v.0, c.loop-made-test.false) in
    subst (λ n. Goes n s (state_of c.place_at-2.new.self)) (sym all) (walk-end made s (state_of c.place_at-2.new.self) c.loop-made.self c.loop-made.index v.1 v.3 c.place_at-2.ensures)
