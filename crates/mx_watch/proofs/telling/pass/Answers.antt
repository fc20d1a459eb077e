use Rattle.std.proofs.Common.{sym, ◌∙◌}
use Rattle.mx_watch.proofs.Passed as passed
use Rattle.mx_watch.proofs.Passed.{nobody}
use Rattle.mx_watch.proofs.telling.pass.Goals as goal

pub returns-in-Ok-More-clause-left : goal.returns-in-Ok-More-clause-left
returns-in-Ok-More-clause-left g c = passed.stayed _ c.args.t.now c.args.places.now.items _ c.args.at c.requires.same c.requires.inside _ (sym c.in-Ok-More.field-0-is ∙ c.in-Ok-More.ensures.wish nobody) (c.in-Ok-More.ensures.ok nobody)

pub returns-in-Ok-More-clause-kept : goal.returns-in-Ok-More-clause-kept
returns-in-Ok-More-clause-kept g c = passed.stayed-kept _ c.args.t.now c.args.places.now.items _ c.args.at c.requires.same c.requires.inside _ (sym c.in-Ok-More.field-0-is ∙ c.in-Ok-More.ensures.wish nobody)

pub returns-in-Ok-More-clause-next : goal.returns-in-Ok-More-clause-next
returns-in-Ok-More-clause-next g c = passed.stayed-next _ c.args.t.now c.args.places.now.items _ c.args.at c.requires.same c.requires.inside (sym c.in-Ok-More.field-0-is ∙ c.in-Ok-More.ensures.wish nobody)

pub returns-in_ok-dismiss-in-Ok-Full-clause-left : goal.returns-in_ok-dismiss-in-Ok-Full-clause-left
returns-in_ok-dismiss-in-Ok-Full-clause-left g c =
    let e = c.in_ok-dismiss-in-Ok-Full.ensures in
    passed.left _ c.args.t.now c.args.places.now.items _ c.args.at c.requires.same c.requires.inside _ _ _ (sym c.in-Ok-Full.field-0-is ∙ c.in-Ok-Full.ensures.wish nobody) (c.in-Ok-Full.ensures.ok nobody) e.left e.places

pub returns-in_ok-dismiss-in-Ok-Full-clause-kept : goal.returns-in_ok-dismiss-in-Ok-Full-clause-kept
returns-in_ok-dismiss-in-Ok-Full-clause-kept g c =
    let e = c.in_ok-dismiss-in-Ok-Full.ensures in
    passed.left-kept _ c.args.t.now c.args.places.now.items _ c.args.at c.requires.same c.requires.inside _ _ _ (sym c.in-Ok-Full.field-0-is ∙ c.in-Ok-Full.ensures.wish nobody) (c.in-Ok-Full.ensures.ok nobody) (e.kept nobody)

pub returns-in_ok-dismiss-in-Ok-Full-clause-next : goal.returns-in_ok-dismiss-in-Ok-Full-clause-next
returns-in_ok-dismiss-in-Ok-Full-clause-next g c = passed.left-next _ c.args.t.now c.args.places.now.items _ c.args.at c.requires.same c.requires.inside (sym c.in-Ok-Full.field-0-is ∙ c.in-Ok-Full.ensures.wish nobody)

pub returns-in-Err-clause-lacks : goal.returns-in-Err-clause-lacks
returns-in-Err-clause-lacks g c = passed.untold _ c.args.t.now c.args.places.now.items _ c.args.at c.requires.same c.requires.inside _ _ c.in-Err.ensures.err

pub returns-in_err-dismiss-in-Ok-Full-clause-lacks : goal.returns-in_err-dismiss-in-Ok-Full-clause-lacks
returns-in_err-dismiss-in-Ok-Full-clause-lacks g c =
    let e = c.in_err-dismiss-in-Ok-Full.ensures in
    passed.on-error _ (passed.unreported _ c.args.t.now c.args.places.now.items _ c.args.at c.requires.same c.requires.inside _ _ _ _ _ (c.in-Ok-Full.ensures.ok nobody) e.lacks e.placed e.unkept)
