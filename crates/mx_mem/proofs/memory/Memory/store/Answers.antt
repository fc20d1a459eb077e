use Rattle.std.proofs.Common.{length, ◌<◌, ◌/◌, ◌%◌, ◌≡◌, true, refl, sym, ◌∙◌, ap, arith}
use Rattle.std.proofs.Math.ListN.{set}
use Rattle.std.proofs.lemmas.Grind.{common_steps}
use Rattle.mx_mem.specs.Memory.{Stored, octa_on, has_page, page_on, count_on, stored_at}
use Rattle.mx_mem.specs.Held.{stored, view_of}
use Rattle.mx_mem.proofs.Stores.{rewritten, rewritten-by, rewritten-indexed, rewritten-bounded, rewritten-kept, length-kept, stored-octas, stored-pages, stored-count, stored-there, stored-new}
use Rattle.std.proofs.lemmas.Result.{on_ok_weaker}
use Rattle.mx_mem.proofs.PartBytes.{octa-bytes}
use Rattle.mx_mem.proofs.Fits.{store-fits}
use Rattle.mx_mem.proofs.memory.Memory.store.Goals as goal

-- the page that was written to, among the pages
pages-after : (c : goal.After-self-1) → set c.self.inside.pages.items c.in-Some.place c.put.new.self ≡ rewritten c.self.inside.pages.items c.in-Some.place (c.args.a / 8 % 512) c.args.x
pages-after c =
    let within : c.in-Some.place < length c.self.inside.pages.items = rw c.deref.ensures.value at c.in-Some.ensures.within in
    rewritten-by c.self.inside.pages.items c.in-Some.place (c.args.a / 8 % 512) c.args.x c.index_mut.result.now c.put.new.self within c.index_mut.ensures.value c.put.ensures

-- the octas after the store
octas-after : (c : goal.After-self-1) → octa_on (view_of (set c.self.inside.pages.items c.in-Some.place c.put.new.self) c.self.inside.places.entries) ≡ stored_at (octa_on (view_of c.self.inside.pages.items c.self.inside.places.entries)) c.args.a c.args.x
octas-after c =
    ap (λ pages. octa_on (view_of pages c.self.inside.places.entries)) (pages-after c)
    ∙ stored-octas c.self.inside.pages.items c.self.inside.places (stored c.self.inside) c.args.a c.args.x c.in-Some.place c.self.invariant.indexed c.self.invariant.bounded refl c.in-Some.ensures.place

pub invariant_of-self : goal.invariant_of-self
invariant_of-self c =
    let within : c.in-Some.place < length c.self.inside.pages.items = rw c.deref.ensures.value at c.in-Some.ensures.within in
    record {
      indexed = rw (pages-after c) (rewritten-indexed c.self.inside.pages.items c.self.inside.places c.in-Some.place (c.args.a / 8 % 512) c.args.x within c.self.invariant.indexed);
      bounded = rw (pages-after c) (rewritten-bounded c.self.inside.pages.items c.in-Some.place (c.args.a / 8 % 512) c.args.x within c.self.invariant.bounded);
      count = c.self.invariant.count ∙ sym (ap length (pages-after c) ∙ length-kept c.self.inside.pages.items c.in-Some.place (c.args.a / 8 % 512) c.args.x);
      fits = store-fits (octa_on (view_of c.self.inside.pages.items c.self.inside.places.entries)) _ c.args.a c.args.x (octas-after c) (omega (arith, c.ranges.x)) c.self.invariant.fits;
      code = rw (pages-after c) (rewritten-kept c.self.inside.pages.items c.in-Some.place (c.args.a / 8 % 512) c.args.x c.self.inside.code_start c.self.inside.code_size c.self.inside.code_place within c.self.invariant.code);
    }

pub returns-in-Some-clause-octas : goal.returns-in-Some-clause-octas
returns-in-Some-clause-octas c =
    ap (λ pages. octa_on (view_of pages c.self.inside.places.entries)) (pages-after c)
    ∙ stored-octas c.self.inside.pages.items c.self.inside.places c.args.self.now c.args.a c.args.x c.in-Some.place c.self.invariant.indexed c.self.invariant.bounded (ap (λ (m : Stored). m.pages) c.self.view_is) c.in-Some.ensures.place

pub returns-in-Some-clause-pages : goal.returns-in-Some-clause-pages
returns-in-Some-clause-pages c =
    ap (λ pages. page_on (view_of pages c.self.inside.places.entries)) (pages-after c)
    ∙ stored-pages c.self.inside.pages.items c.self.inside.places c.args.self.now (c.args.a / 4096) (c.args.a / 8 % 512) c.args.x c.in-Some.place (ap (λ (m : Stored). m.pages) c.self.view_is) c.in-Some.ensures.place

pub returns-in-Some-clause-count : goal.returns-in-Some-clause-count
returns-in-Some-clause-count c =
    let there : has_page c.args.self.now (c.args.a / 4096) ≡ true = stored-there c.self.inside.pages.items c.self.inside.places c.args.self.now (c.args.a / 4096) c.in-Some.place (ap (λ (m : Stored). m.pages) c.self.view_is) c.in-Some.ensures.place in
    ap (λ pages. count_on (view_of pages c.self.inside.places.entries)) (pages-after c)
    ∙ stored-count c.self.inside.pages.items c.self.inside.places c.args.self.now (c.args.a / 8 % 512) c.args.x c.in-Some.place (ap (λ (m : Stored). m.pages) c.self.view_is)
    ∙ grind (arith, common_steps)

pub returns-in-Some-clause-full : goal.returns-in-Some-clause-full
returns-in-Some-clause-full c =
    let there : has_page c.args.self.now (c.args.a / 4096) ≡ true = stored-there c.self.inside.pages.items c.self.inside.places c.args.self.now (c.args.a / 4096) c.in-Some.place (ap (λ (m : Stored). m.pages) c.self.view_is) c.in-Some.ensures.place in
    grind (arith, common_steps)

pub begin-requires-clause-new : goal.begin-requires-clause-new
begin-requires-clause-new c = stored-new c.self.inside.pages.items c.self.inside.places c.args.self.now (c.args.a / 4096) (ap (λ (m : Stored). m.pages) c.self.view_is) c.in-None.ensures.place

pub returns-in-None-clause-there : goal.returns-in-None-clause-there
returns-in-None-clause-there c =
    let new = stored-new c.self.inside.pages.items c.self.inside.places c.args.self.now (c.args.a / 4096) (ap (λ (m : Stored). m.pages) c.self.view_is) c.in-None.ensures.place in
    grind (arith, common_steps)

pub returns-in-Some-clause-bytes : goal.returns-in-Some-clause-bytes
returns-in-Some-clause-bytes c = octa-bytes c.args.self.now (record c.args.self.now { pages = view_of (set c.self.inside.pages.items c.in-Some.place c.put.new.self) c.self.inside.places.entries }) c.args.a c.args.x (returns-in-Some-clause-octas c)

pub returns-in-None-clause-bytes : goal.returns-in-None-clause-bytes
returns-in-None-clause-bytes c = on_ok_weaker c.begin.result (λ e. octa-bytes c.args.self.now c.begin.new.self c.args.a c.args.x e) c.begin.ensures.octas
