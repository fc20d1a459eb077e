use Rattle.std.proofs.Common.{sym, ◌∙◌}
use Rattle.mx_core.specs.Kept.{state_of}
use Rattle.mx_record.proofs.Searching.{new-next, new-none, new-passed}
use Rattle.mx_record.proofs.octas.note_new.Goals.{then-show_octa-eq0+in_ok-note_octa-in-Some, else-show_octa-eq0}
use Rattle.mx_record.proofs.octas.note_new.Goals as goal

pub loop-n-preserved : goal.loop-n-preserved
loop-n-preserved c = elim c.if-show_octa-eq0.branch [
  | then-show_octa-eq0+in_ok-note_octa-in-Some w ↦ new-next (state_of c.args.old.now) (state_of c.args.new.now) _ _ c.loop-n.n c.in-Some.at c.in-Some.field-0-1 c.loop-n.invariant c.in-Some.ensures (sym c.show_octa.ensures ∙ w.if-show_octa-eq0.true) (w.changes-is ∙ w.in_ok-note_octa-in-Some.ensures)
  | else-show_octa-eq0 w ↦ new-passed (state_of c.args.old.now) (state_of c.args.new.now) _ _ c.loop-n.n c.in-Some.at c.in-Some.field-0-1 c.loop-n.invariant c.in-Some.ensures (λ e. w.if-show_octa-eq0.false (c.show_octa.ensures ∙ e)) w.changes-is
]

pub returns-in-None : goal.returns-in-None
returns-in-None c = new-none (state_of c.args.old.now) (state_of c.args.new.now) _ c.loop-n.n c.loop-n.invariant c.in-None.ensures
