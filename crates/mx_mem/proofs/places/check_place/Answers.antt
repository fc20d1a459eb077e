use Rattle.std.proofs.Common.{◌≡◌, Some, sym, ◌∙◌, ap, refl}
use Rattle.std.specs.Prelude.{slice_get}
use Rattle.std.specs.Ordering.{nat_cmp}
use Rattle.std.specs.BTreeMap.{get}
use Rattle.std.proofs.lemmas.Option.{slice_get_read}
use Rattle.mx_mem.proofs.Finding.{place-here}
use Rattle.mx_mem.proofs.places.check_place.Goals as goal

-- a page that is where it was remembered
pub returns-then-number-clause-place : goal.returns-then-number-clause-place
returns-then-number-clause-place c =
    let here = c.in-Some.ensures.lookup in
    let at : slice_get c.args.pages.now c.args.place ≡ Some c.in-Some.page.now = slice_get_read c.args.pages.now _ c.args.place c.in-Some.page.now refl here.3.0 here.1 in
    place-here c.args.pages.now c.args.places.now c.args.place c.in-Some.page.now c.requires at
    ∙ ap (get nat_cmp c.args.places.now) (sym c.number.ensures ∙ c.if-number.true)
