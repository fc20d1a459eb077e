use Rattle.std.proofs.Common.{ℕ, List, [], Some, get_or, ◌^◌, length, ◌<◌, ◌/◌, ◌%◌, ◌≡◌, true, refl, sym, ◌∙◌, ap, arith}
use Rattle.std.proofs.Math.ListN.{set}
use Rattle.std.proofs.lemmas.Grind.{common_steps}
use Rattle.mx_mem.specs.Memory.{Stored, octa_at, octa_on, has_page, page_on, count_on, stored_at}
use Rattle.mx_mem.specs.Held.{view_of}
use Rattle.mx_mem.specs.Held.{stored as held}
use Rattle.mx_mem.proofs.Stores.{rewritten, rewritten-by, rewritten-indexed, rewritten-bounded, rewritten-kept, length-kept, stored-octas, stored-pages, stored-count, stored-there}
use Rattle.std.proofs.lemmas.List.{get_or_read}
use Rattle.mx_mem.specs.Parts.{with_part}
use Rattle.mx_mem.proofs.PartFields.{part-fits}
use Rattle.mx_mem.proofs.Views.{octa-found}
use Rattle.mx_mem.proofs.Fits.{store-fits}
use Rattle.mx_mem.proofs.memory.Memory.store_part_if_near.Goals as goal

-- the octa that is stored
abbrev stored : goal.After-self-1 → ℕ
stored c = with_part c.args.part (octa_on (view_of c.self.inside.pages.items c.self.inside.places.entries) c.args.a) c.args.a c.args.x

within : (c : goal.After-self-1) → c.in-Some.place < length c.self.inside.pages.items
within c = rw c.deref.ensures.value at c.in-Some.ensures.within

-- the octa that was there, in its page
before : (c : goal.After-self-1) → get_or c.index_mut.result.now.1 (c.args.a / 8 % 512) 0 ≡ octa_on (view_of c.self.inside.pages.items c.self.inside.places.entries) c.args.a
before c =
    let page = get_or_read c.self.inside.pages.items c.in-Some.place c.index_mut.result.now (within c) c.index_mut.ensures.value (0, []) in
    let there = octa-found c.self.inside.pages.items c.self.inside.places (held c.self.inside) c.args.a (Some c.in-Some.place) refl c.in-Some.ensures.place in
    ap (λ (p : ℕ × List ℕ). get_or p.1 (c.args.a / 8 % 512) 0) page ∙ sym there

stored-fits : (c : goal.After-self-1) → stored c < 2 ^ 64
stored-fits c = part-fits c.args.part _ c.args.a c.args.x (c.self.invariant.fits c.args.a)

-- the page that was written to, among the pages
pages-after : (c : goal.After-self-1) → set c.self.inside.pages.items c.in-Some.place c.put_part.new.self ≡ rewritten c.self.inside.pages.items c.in-Some.place (c.args.a / 8 % 512) (stored c)
pages-after c =
    let put = c.put_part.ensures ∙ ap (λ o. (c.index_mut.result.now.0, set c.index_mut.result.now.1 (c.args.a / 8 % 512) (with_part c.args.part o c.args.a c.args.x))) (before c) in
    rewritten-by c.self.inside.pages.items c.in-Some.place (c.args.a / 8 % 512) (stored c) c.index_mut.result.now c.put_part.new.self (within c) c.index_mut.ensures.value put

-- the octas after the store
octas-after : (c : goal.After-self-1) → octa_on (view_of (set c.self.inside.pages.items c.in-Some.place c.put_part.new.self) c.self.inside.places.entries) ≡ stored_at (octa_on (view_of c.self.inside.pages.items c.self.inside.places.entries)) c.args.a (stored c)
octas-after c =
    ap (λ pages. octa_on (view_of pages c.self.inside.places.entries)) (pages-after c)
    ∙ stored-octas c.self.inside.pages.items c.self.inside.places (held c.self.inside) c.args.a (stored c) c.in-Some.place c.self.invariant.indexed c.self.invariant.bounded refl c.in-Some.ensures.place

pub invariant_of-self : goal.invariant_of-self
invariant_of-self c =
    let within : c.in-Some.place < length c.self.inside.pages.items = rw c.deref.ensures.value at c.in-Some.ensures.within in
    record {
      indexed = rw (pages-after c) (rewritten-indexed c.self.inside.pages.items c.self.inside.places c.in-Some.place (c.args.a / 8 % 512) (stored c) within c.self.invariant.indexed);
      bounded = rw (pages-after c) (rewritten-bounded c.self.inside.pages.items c.in-Some.place (c.args.a / 8 % 512) (stored c) within c.self.invariant.bounded);
      count = c.self.invariant.count ∙ sym (ap length (pages-after c) ∙ length-kept c.self.inside.pages.items c.in-Some.place (c.args.a / 8 % 512) (stored c));
      fits = store-fits (octa_on (view_of c.self.inside.pages.items c.self.inside.places.entries)) _ c.args.a (stored c) (octas-after c) (stored-fits c) c.self.invariant.fits;
      code = rw (pages-after c) (rewritten-kept c.self.inside.pages.items c.in-Some.place (c.args.a / 8 % 512) (stored c) c.self.inside.code_start c.self.inside.code_size c.self.inside.code_place within c.self.invariant.code);
    }

pub returns-in-Some-clause-octas : goal.returns-in-Some-clause-octas
returns-in-Some-clause-octas c _ =
    ap (λ pages. octa_on (view_of pages c.self.inside.places.entries)) (pages-after c)
    ∙ stored-octas c.self.inside.pages.items c.self.inside.places c.args.self.now c.args.a (stored c) c.in-Some.place c.self.invariant.indexed c.self.invariant.bounded (ap (λ (m : Stored). m.pages) c.self.view_is) c.in-Some.ensures.place
    ∙ ap (λ o. stored_at (octa_at c.args.self.now) c.args.a (with_part c.args.part o c.args.a c.args.x)) (ap (λ m. octa_at m c.args.a) c.self.view_is)

pub returns-in-Some-clause-pages : goal.returns-in-Some-clause-pages
returns-in-Some-clause-pages c _ =
    ap (λ pages. page_on (view_of pages c.self.inside.places.entries)) (pages-after c)
    ∙ stored-pages c.self.inside.pages.items c.self.inside.places c.args.self.now (c.args.a / 4096) (c.args.a / 8 % 512) (stored c) c.in-Some.place (ap (λ (m : Stored). m.pages) c.self.view_is) c.in-Some.ensures.place

pub returns-in-Some-clause-count : goal.returns-in-Some-clause-count
returns-in-Some-clause-count c _ =
    let there : has_page c.args.self.now (c.args.a / 4096) ≡ true = stored-there c.self.inside.pages.items c.self.inside.places c.args.self.now (c.args.a / 4096) c.in-Some.place (ap (λ (m : Stored). m.pages) c.self.view_is) c.in-Some.ensures.place in
    ap (λ pages. count_on (view_of pages c.self.inside.places.entries)) (pages-after c)
    ∙ stored-count c.self.inside.pages.items c.self.inside.places c.args.self.now (c.args.a / 8 % 512) (stored c) c.in-Some.place (ap (λ (m : Stored). m.pages) c.self.view_is)
    ∙ grind (arith, common_steps)

pub returns-in-Some-clause-there : goal.returns-in-Some-clause-there
returns-in-Some-clause-there c _ = stored-there c.self.inside.pages.items c.self.inside.places c.args.self.now (c.args.a / 4096) c.in-Some.place (ap (λ (m : Stored). m.pages) c.self.view_is) c.in-Some.ensures.place
