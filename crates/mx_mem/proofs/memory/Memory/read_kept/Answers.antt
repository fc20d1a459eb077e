use Rattle.std.proofs.Common.{ℕ, List, [], get_or, ◌+◌, ◌*◌, ◌<◌, ◌≤◌, ◌/◌, ◌%◌, ◌^◌, ◌≡◌, Some, sym, subst, ◌∙◌, ap, arith, length}
use Rattle.std.specs.Prelude.{nat_lt, if◌then◌else◌}
use Rattle.std.proofs.lemmas.List.{get_or_read}
use Rattle.std.specs.Ordering.{nat_cmp}
use Rattle.std.specs.BTreeMap.{get}
use Rattle.mx_mem.specs.Held.{IsKept, number_in}
use Rattle.mx_mem.specs.Memory.{Stored, tetra_of}
use Rattle.mx_mem.proofs.Views.{octa-found}
use Rattle.mx_mem.proofs.memory.Memory.read_kept.Goals as goal

pub index-requires : goal.index-requires
index-requires c =
    let size = ap (λ (m : Stored). m.code_size) c.self.view_is in
    let kept = (subst (λ p. IsKept c.self.inside.code_start c.self.inside.code_size p c.self.inside.pages.items) (sym (c.requires.place ∙ sym (ap (λ (m : Stored). m.code_place) c.self.view_is))) c.self.invariant.code) (omega (arith, size, c.requires.code.0)) in
    omega (arith, kept.1, c.self.inside.pages.ok.0)

half : (x a d : ℕ) → d % 8 ≡ a % 8 → tetra_of x d ≡ tetra_of x a
half x a d e = ap (λ k. if nat_lt k 4 then x / 2 ^ 32 else x % 2 ^ 32) e

pub returns-clause-value : goal.returns-clause-value
returns-clause-value c = λ h.
    let i = c.self.inside in
    let size = ap (λ (m : Stored). m.code_size) c.self.view_is in
    let start = ap (λ (m : Stored). m.code_start) c.self.view_is in
    let kept = (subst (λ p. IsKept c.self.inside.code_start c.self.inside.code_size p c.self.inside.pages.items) (sym (c.requires.place ∙ sym (ap (λ (m : Stored). m.code_place) c.self.view_is))) c.self.invariant.code) (omega (arith, size, c.requires.code.0)) in
    let n : ℕ = number_in i.pages.items c.args.place in
    let k : ℕ = c.args.k in
    let a : ℕ = c.args.self.now.code_start + 4 * k in
    let at : a ≡ 4096 * n + 4 * k = omega (arith, kept.3, start) in
    let number : n ≡ a / 4096 = omega (arith, at, h) in
    let here : Some c.args.place ≡ get nat_cmp i.places (a / 4096) =
    sym (c.self.invariant.indexed.named c.args.place kept.1) ∙ ap (get nat_cmp i.places) number in
    let there = octa-found i.pages.items i.places c.args.self.now a (Some c.args.place) (ap (λ (m : Stored). m.pages) c.self.view_is) here in
    let page = get_or_read i.pages.items c.args.place c.index.result.now kept.1 c.index.ensures (0, []) in
    let octa : 4 * k / 8 % 512 ≡ a / 8 % 512 = omega (arith, at, h) in
    let low : 4 * k % 8 ≡ a % 8 = omega (arith, at, h) in
    c.read_numbered_tetra.ensures.value h
    ∙ ap (λ (p : ℕ × List ℕ). tetra_of (get_or p.1 (4 * k / 8 % 512) 0) (4 * k)) page
    ∙ ap (λ j. tetra_of (get_or (get_or i.pages.items c.args.place (0, [])).1 j 0) (4 * k)) octa
    ∙ ap (λ o. tetra_of o (4 * k)) (sym there)
    ∙ half _ a (4 * k) low
