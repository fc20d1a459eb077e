use Rattle.std.proofs.Common.{sym}
use Rattle.mx_back.proofs.NoteLists.{count-notes}
use Rattle.mx_back.proofs.notes.Notes.len.Goals as goal

pub returns-clause-value : goal.returns-clause-value
returns-clause-value c = rw (← c.self.view_is) (sym (count-notes c.self.inside.newer.items c.self.inside.older.items c.self.inside.kept c.self.invariant.there))
