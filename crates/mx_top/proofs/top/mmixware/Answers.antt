use Rattle.std.proofs.Common.{◌∙◌, ap, subst, map}
use Rattle.std.specs.Prelude.{string_bytes}
use Rattle.mx_host.specs.HostModel.{contents}
use Rattle.mx_run.specs.WildRuns.{window_machine, list_machine}
use Rattle.mx_files.specs.Answers.{Answer, GoesAs}
use Rattle.mx_top.proofs.Reported.{unwatched, unwatched-doing, none-mean, none-ever}
use Rattle.mx_words.specs.Orders.{order_of}
use Rattle.mx_top.specs.Reports.{due_reports}
use Rattle.mx_top.proofs.top.mmixware.Goals as goal

pub returns-clause-product : goal.returns-clause-product
returns-clause-product g c = record {
  plan = λ t.
      let words = map string_bytes c.args.words.now in
      unwatched-doing _ _ _ _ _ (ap (due_reports (order_of words)) (none-mean _ _ c.new-nobody.ensures.items) ∙ none-ever (order_of words)) (c.mmixware_watched.ensures.product.plan t);
  answer = λ t ne.
      c.mmixware_watched.ensures.product.answer t ne ∙ unwatched window_machine (map string_bytes c.args.words.now) _ (contents (g.H.Host.told c.args.host.now)) (none-mean _ _ c.new-nobody.ensures.items);
  written = c.mmixware_watched.ensures.product.written;
}

pub returns-clause-headline : goal.returns-clause-headline
returns-clause-headline g c = λ t ne.
    subst (λ (a : Answer). GoesAs a c.mmixware_watched.result (contents (g.H.Host.told c.mmixware_watched.new.host)))
    (unwatched list_machine (map string_bytes c.args.words.now) _ (contents (g.H.Host.told c.args.host.now)) (none-mean _ _ c.new-nobody.ensures.items)) (c.mmixware_watched.ensures.headline t ne)

pub returns-clause-causes : goal.returns-clause-causes
returns-clause-causes g c = c.mmixware_watched.ensures.causes
