use Rattle.std.proofs.Common.{ℕ, List, [], length, get_or, ◌<◌, ◌/◌, ◌%◌, Some, sym, ◌∙◌, ap}
use Rattle.std.proofs.lemmas.List.{get_or_read}
use Rattle.mx_mem.specs.Memory.{Stored, tetra_of}
use Rattle.mx_mem.proofs.Views.{octa-found}
use Rattle.mx_mem.proofs.memory.Memory.tetra_if_near.Goals as goal

pub returns-in-Some-clause-value : goal.returns-in-Some-clause-value
returns-in-Some-clause-value c =
    let there = octa-found c.self.inside.pages.items c.self.inside.places c.args.self.now c.args.a (Some c.in-Some.place) (ap (λ (m : Stored). m.pages) c.self.view_is) c.in-Some.ensures.place in
    let within : c.in-Some.place < length c.self.inside.pages.items = rw c.deref.ensures.value at c.in-Some.ensures.within in
    let page = get_or_read c.self.inside.pages.items c.in-Some.place c.index.result.now within c.index.ensures (0, []) in
    c.tetra.ensures
    ∙ ap (λ (p : ℕ × List ℕ). tetra_of (get_or p.1 (c.args.a / 8 % 512) 0) c.args.a) page
    ∙ ap (λ o. tetra_of o c.args.a) (sym there)
