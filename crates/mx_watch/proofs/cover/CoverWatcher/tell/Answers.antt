use Rattle.std.proofs.Common.{refl}
use Rattle.mx_watch.proofs.Covered.{cover_told}
use Rattle.mx_watch.proofs.Remembered.{known_told}
use Rattle.mx_watch.proofs.cover.CoverWatcher.tell.Goals as goal

pub returns-then-is_remembered-clause-ok : goal.returns-then-is_remembered-clause-ok
returns-then-is_remembered-clause-ok c =
    rw (← c.self.view_is) (known_told _ _ (c.if-is_remembered.ensures c.self.inside.addresses.keys refl c.self.invariant))

pub returns-in-Ok-clause-ok : goal.returns-in-Ok-clause-ok
returns-in-Ok-clause-ok c = rw (← c.self.view_is) (cover_told _ _ _ c.in-Ok.ensures.keys)
