use Rattle.std.proofs.Common.{◌∙◌, sym, ap, Ok, drop, ◌+◌}
use Rattle.std.proofs.lemmas.Result.{err_from_is_err_and}
use Rattle.mx_load.proofs.Words.{nothing, take_items, told, status}
use Rattle.mx_load.specs.Status.{image_in}
use Rattle.mx_load.proofs.Taken.{after_all, begins, ends-failed, ends-well, fits-more, goes-on, image-told}
use Rattle.mx_load.proofs.whole.load.Goals as goal

pub loop-item-init : goal.loop-item-init
loop-item-init c = record { fits = c.requires; same = begins c.args.items.now ∙ ap (λ r. after_all r c.args.items.now) (sym c.new-loader.ensures) }

pub returns-in_err-take-clause-meaning : goal.returns-in_err-take-clause-meaning
returns-in_err-take-clause-meaning c =
    let p = err_from_is_err_and c.from_residual.result c.from_residual.ensures.1 in
    rw (p.1, p.2) (λ ne.
    let items = c.args.items.now in
    let there = goes-on items c.loop-item.item-index c.item-item.result _ _ (status c.loop-item.loader) (status c.take.new.self) c.loop-item-test.true
    c.item-item.is c.loop-item.invariant.same (c.in_err-take.ensures.meaning (λ e. ne (cc))) in
    let whole = ends-failed (drop (c.loop-item.item-index + 1) items) _ (status c.take.new.self) c.in_err-take.field-0.0 there c.in_err-take.ensures.answer in
    sym (sym (image-told (take_items items (Ok nothing))) ∙ ap image_in whole))

pub loop-item-preserved : goal.loop-item-preserved
loop-item-preserved c = record {
  fits = fits-more c.args.items.now c.loop-item.item-index c.item-item.result c.loop-item-test.true c.loop-item.invariant.fits;
  same = goes-on c.args.items.now c.loop-item.item-index c.item-item.result _ _ (status c.loop-item.loader) (status c.take.new.self) c.loop-item-test.true
      c.item-item.is c.loop-item.invariant.same (c.in_ok-take.ensures.meaning (λ e. cc));
}

pub returns-clause-meaning : goal.returns-clause-meaning
returns-clause-meaning c = λ ne.
    let items = c.args.items.now in
    c.finish.ensures.meaning
    ∙ ap image_in (sym (ends-well items c.loop-item.item-index (told (take_items items (Ok nothing))) (status c.loop-item.loader) c.loop-item-test.false c.loop-item.invariant.same))
    ∙ image-told (take_items items (Ok nothing))
