use Rattle.std.proofs.Common.{ℕ, List, [], get_or, ◌+◌, ◌-◌, ◌*◌, ◌<◌, ◌/◌, ◌%◌, ◌^◌, ◌≡◌, Some, sym, refl, ◌∙◌, ap, arith}
use Rattle.std.specs.Prelude.{nat_lt, if◌then◌else◌}
use Rattle.std.proofs.lemmas.List.{get_or_read}
use Rattle.std.specs.Ordering.{nat_cmp}
use Rattle.std.specs.BTreeMap.{get}
use Rattle.mx_mem.specs.Held.{number_in}
use Rattle.mx_mem.specs.Low.{low_pages}
use Rattle.mx_mem.specs.Memory.{Stored, tetra_of}
use Rattle.mx_mem.proofs.Views.{octa-found}
use Rattle.mx_mem.proofs.memory.Memory.near_tetra.Goals as goal

-- an address less the first one of its page
within : (a start n d : ℕ) → a < 2 ^ 64 → 4096 * n ≡ start → n < low_pages → d ≡ (a + (18446744073709551616 - start)) % 18446744073709551616 → d < 4096 → a ≡ 4096 * n + d
within a start n d f e l is m = omega arith

half : (x a d : ℕ) → d % 8 ≡ a % 8 → tetra_of x d ≡ tetra_of x a
half x a d e = ap (λ k. if nat_lt k 4 then x / 2 ^ 32 else x % 2 ^ 32) e

pub returns-then-within-self-clause-value : goal.returns-then-within-self-clause-value
returns-then-within-self-clause-value c =
    let i = c.self.inside in
    let d : ℕ = (c.args.a + (18446744073709551616 - i.code_start)) % 18446744073709551616 in
    let kept = c.self.invariant.code (omega (arith, c.if-within-self.true)) in
    let n : ℕ = number_in i.pages.items i.code_place in
    let small : d < 4096 = omega (arith, c.if-within-self.true, kept.0) in
    let at : c.args.a ≡ 4096 * n + d = within c.args.a i.code_start n d c.ranges.a.fits kept.3 kept.2 refl small in
    let number : n ≡ c.args.a / 4096 = omega (arith, at, small) in
    let here : Some i.code_place ≡ get nat_cmp i.places (c.args.a / 4096) =
    sym (c.self.invariant.indexed.named i.code_place kept.1) ∙ ap (get nat_cmp i.places) number in
    let there = octa-found i.pages.items i.places c.args.self.now c.args.a (Some i.code_place) (ap (λ (m : Stored). m.pages) c.self.view_is) here in
    let page = get_or_read i.pages.items i.code_place c.index.result.now kept.1 c.index.ensures (0, []) in
    let octa : d / 8 % 512 ≡ c.args.a / 8 % 512 = omega (arith, at, small) in
    let low : d % 8 ≡ c.args.a % 8 = omega (arith, at, small) in
    c.tetra.ensures
    ∙ ap (λ (p : ℕ × List ℕ). tetra_of (get_or p.1 (d / 8 % 512) 0) d) page
    ∙ ap (λ k. tetra_of (get_or (get_or i.pages.items i.code_place (0, [])).1 k 0) d) octa
    ∙ ap (λ o. tetra_of o d) (sym there)
    ∙ half _ c.args.a d low
