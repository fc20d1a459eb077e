use Rattle.std.proofs.Common.{ℕ, List, [], length, get_or, ◌<◌, ◌/◌, ◌%◌, Some, None, sym, ◌∙◌, ap, ◌≡◌, arith}
use Rattle.std.proofs.lemmas.List.{get_or_read}
use Rattle.std.proofs.lemmas.Bool.Decides.{nat_tests}
use Rattle.mx_mem.specs.Memory.{Stored, tetra_of}
use Rattle.mx_mem.proofs.Views.{octa-found}
use Rattle.mx_mem.proofs.memory.Memory.tetra.Goals as goal

zero-half : (a : ℕ) → 0 ≡ tetra_of 0 a
zero-half a = grind (arith, nat_tests)

pub returns-in-Some : goal.returns-in-Some
returns-in-Some c =
    let there = octa-found c.self.inside.pages.items c.self.inside.places c.args.self.now c.args.a (Some c.in-Some.place) (ap (λ (m : Stored). m.pages) c.self.view_is) c.in-Some.ensures.place in
    let within : c.in-Some.place < length c.self.inside.pages.items = rw c.deref.ensures.value at c.in-Some.ensures.within in
    let page = get_or_read c.self.inside.pages.items c.in-Some.place c.index.result.now within c.index.ensures (0, []) in
    c.tetra.ensures ∙ ap (λ (p : ℕ × List ℕ). tetra_of (get_or p.1 (c.args.a / 8 % 512) 0) c.args.a) page ∙ ap (λ o. tetra_of o c.args.a) (sym there)

pub returns-in-None : goal.returns-in-None
returns-in-None c =
    let nothing = octa-found c.self.inside.pages.items c.self.inside.places c.args.self.now c.args.a None (ap (λ (m : Stored). m.pages) c.self.view_is) c.in-None.ensures.place in
    zero-half c.args.a ∙ ap (λ o. tetra_of o c.args.a) (sym nothing)
