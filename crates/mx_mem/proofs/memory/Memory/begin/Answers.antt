use Rattle.std.proofs.Common.{ℕ, List, length, ◌<◌, ◌/◌, ◌%◌, ◌^◌, ◌≡◌, None, refl, ◌∙◌, ap, subst, arith, replicate}
use Rattle.std.proofs.Math.ListN.{set}
use Rattle.std.specs.Ordering.{nat_cmp}
use Rattle.std.specs.BTreeMap.{get}
use Rattle.std.specs.Prelude.{OnOk}
use Rattle.std.proofs.lemmas.List.{length-set, length-replicate}
use Rattle.mx_mem.specs.Held.{stored, view_of}
use Rattle.mx_mem.specs.Memory.{Stored, octa_on, stored_at}
use Rattle.mx_mem.proofs.Views.{not-found}
use Rattle.mx_mem.proofs.Additions.{Extends, outcome-indexed, outcome-bounded, outcome-kept, outcome-count, outcome-octas, outcome-pages}
use Rattle.mx_mem.proofs.Fits.{outcome-fits}
use Rattle.mx_mem.proofs.memory.Memory.begin.Goals as goal

-- the new page, and that it was not there
number-new : (c : goal.After-add-arg-in-Ok-1) → c.in-Ok.page.0 ≡ c.args.a / 4096
number-new c = ap (λ (p : ℕ × List ℕ). p.0) c.in-Ok.ensures

place-new : (c : goal.After-add-arg-in-Ok-1) → get nat_cmp c.self.inside.places (c.args.a / 4096) ≡ None
place-new c = not-found c.self.inside.pages.items c.self.inside.places c.args.self.now (c.args.a / 4096) (ap (λ (m : Stored). m.pages) c.self.view_is) c.requires.new

octas-new : (c : goal.After-add-arg-in-Ok-1) → c.in-Ok.page.1 ≡ set (replicate 512 0) (c.args.a / 8 % 512) c.args.x
octas-new c = ap (λ (p : ℕ × List ℕ). p.1) c.in-Ok.ensures

pub add-requires : goal.add-requires
add-requires c = ap (get nat_cmp c.self.inside.places) (number-new c) ∙ place-new c

places-after : (c : goal.After-add) → OnOk c.add.result (Extends c.self.inside.places c.add.new.places (c.args.a / 4096) (length c.self.inside.pages.items))
places-after c = subst (λ n. OnOk c.add.result (Extends c.self.inside.places c.add.new.places n (length c.self.inside.pages.items))) (number-new c.before) c.add.ensures.places

octas-after : (c : goal.After-add) → OnOk c.add.result (octa_on (view_of c.add.new.pages.items c.add.new.places.entries) ≡ stored_at (octa_on (view_of c.self.inside.pages.items c.self.inside.places.entries)) c.args.a c.args.x)
octas-after c =
    outcome-octas c.add.result c.self.inside.pages.items c.add.new.pages.items c.self.inside.places c.add.new.places (stored c.self.inside) c.in-Ok.page c.args.a c.args.x c.self.invariant.indexed refl (place-new c.before) (octas-new c.before)
    c.add.ensures.pages (places-after c)

pub invariant_of-self : goal.invariant_of-self
invariant_of-self c =
    let long : length c.in-Ok.page.1 ≡ 512 = ap length (octas-new c.before) ∙ length-set (replicate 512 0) (c.args.a / 8 % 512) c.args.x ∙ length-replicate {A = ℕ} 512 0 in
    let new = number-new c.before in
    let low : c.in-Ok.page.0 < 2 ^ 51 = omega arith in
    let few = c.self.invariant.bounded.few in
    let room : length c.self.inside.pages.items < 65536 = omega arith in
    record {
      indexed = outcome-indexed c.add.result c.self.inside.pages.items c.add.new.pages.items c.self.inside.places c.add.new.places c.in-Ok.page c.self.invariant.indexed (add-requires c.before) c.add.ensures.pages c.add.ensures.places c.add.ensures.err;
      bounded = outcome-bounded c.add.result c.self.inside.pages.items c.add.new.pages.items c.in-Ok.page _ c.self.invariant.bounded low long room c.add.ensures.pages c.add.ensures.err;
      count = outcome-count c.add.result c.self.inside.pages.items c.add.new.pages.items c.self.inside.places c.add.new.places c.in-Ok.page c.self.invariant.count c.add.ensures.pages c.add.ensures.count c.add.ensures.err;
      fits = outcome-fits c.add.result c.self.inside.pages.items c.add.new.pages.items c.self.inside.places c.add.new.places c.args.a c.args.x (omega (arith, c.ranges.x)) c.self.invariant.fits (octas-after c) c.add.ensures.err;
      code = outcome-kept c.add.result c.self.inside.pages.items c.add.new.pages.items c.in-Ok.page _ c.self.inside.code_start c.self.inside.code_size c.self.inside.code_place c.self.invariant.code c.add.ensures.pages c.add.ensures.err;
    }

pub returns-in-Ok-clause-octas : goal.returns-in-Ok-clause-octas
returns-in-Ok-clause-octas c =
    outcome-octas c.add.result c.self.inside.pages.items c.add.new.pages.items c.self.inside.places c.add.new.places c.args.self.now c.in-Ok.page c.args.a c.args.x c.self.invariant.indexed (ap (λ (m : Stored). m.pages) c.self.view_is) (place-new c.before) (octas-new c.before)
    c.add.ensures.pages (places-after c)

pub returns-in-Ok-clause-pages : goal.returns-in-Ok-clause-pages
returns-in-Ok-clause-pages c =
    outcome-pages c.add.result c.self.inside.pages.items c.add.new.pages.items c.self.inside.places c.add.new.places c.args.self.now c.in-Ok.page (c.args.a / 4096) (ap (λ (m : Stored). m.pages) c.self.view_is) c.add.ensures.pages (places-after c)
