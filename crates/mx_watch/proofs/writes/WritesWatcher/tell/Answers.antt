use Rattle.std.proofs.Common.{◌∙◌, ap}
use Rattle.mx_watch.specs.Watching.{wish_if}
use Rattle.mx_watch.proofs.Noted.{writes_told, full_told}
use Rattle.mx_watch.proofs.writes.WritesWatcher.tell.Goals as goal

pub returns-clause-wish : goal.returns-clause-wish
returns-clause-wish c =
    c.wish_of.ensures ∙ ap wish_if (c.is_full.ensures ∙ full_told c.args.self.now.from c.args.self.now.to c.args.self.now.cap c.args.self.now.writes c.note.new.writes c.args.t.now c.in_ok-note.ensures.ok)

pub returns-clause-ok : goal.returns-clause-ok
returns-clause-ok c = writes_told c.args.self.now.from c.args.self.now.to c.args.self.now.cap c.args.self.now.writes c.note.new.writes c.args.t.now c.in_ok-note.ensures.ok
