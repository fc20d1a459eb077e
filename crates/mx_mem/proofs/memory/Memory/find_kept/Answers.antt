use Rattle.std.proofs.Common.{ℕ, ◌+◌, ◌-◌, ◌*◌, ◌<◌, ◌/◌, ◌%◌, ◌^◌, ◌≡◌, refl, subst, arith}
use Rattle.mx_mem.specs.Held.{number_in}
use Rattle.mx_mem.specs.Low.{low_pages}
use Rattle.mx_mem.specs.Memory.{Stored, IsCode}
use Rattle.mx_mem.proofs.memory.Memory.find_kept.Goals as goal

pub returns-then-within-self-clause-code : goal.returns-then-within-self-clause-code
returns-then-within-self-clause-code c =
    let kept = c.self.invariant.code (omega (arith, c.if-within-self.true)) in
    subst IsCode c.self.view_is (kept.0, omega (arith, kept.3), omega (arith, kept.3, kept.2))

pub returns-then-within-self-clause-within : goal.returns-then-within-self-clause-within
returns-then-within-self-clause-within c =
    let kept = c.self.invariant.code (omega (arith, c.if-within-self.true)) in
    omega (arith, c.if-within-self.true, kept.0)

-- an address less the first one of its page
numbered : (a start n d : ℕ) → a < 2 ^ 64 → 4096 * n ≡ start → n < low_pages → d ≡ (a + (18446744073709551616 - start)) % 18446744073709551616 → d < 4096 → a / 4 * 4 ≡ start + 4 * (d / 4)
numbered a start n d f e l is m = omega arith

pub returns-then-within-self-clause-at : goal.returns-then-within-self-clause-at
returns-then-within-self-clause-at c =
    let i = c.self.inside in
    let d : ℕ = (c.args.a + (18446744073709551616 - i.code_start)) % 18446744073709551616 in
    let kept = c.self.invariant.code (omega (arith, c.if-within-self.true)) in
    let small : d < 4096 = omega (arith, c.if-within-self.true, kept.0) in
    subst (λ (m : Stored). c.args.a / 4 * 4 ≡ m.code_start + 4 * (d / 4)) c.self.view_is
    (numbered c.args.a i.code_start (number_in i.pages.items i.code_place) d c.ranges.a.fits kept.3 kept.2 refl small)
