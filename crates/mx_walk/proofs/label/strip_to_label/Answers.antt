use Rattle.std.proofs.Common.{◌<◌, ◌∙◌, arith, length, sym}
use Rattle.std.proofs.lemmas.Bool.{eqb-false, eqb-true}
use Rattle.mx_walk.proofs.PlainLines.{label-none, label-some, label-first}
use Rattle.mx_walk.proofs.label.strip_to_label.Goals as goal

pub returns-then-is_empty : goal.returns-then-is_empty
returns-then-is_empty c = rw (label-none c.args.line.now (eqb-true _ _ (sym c.if-is_empty.ensures))) c.copy.ensures

pub cut_line-requires : goal.cut_line-requires
cut_line-requires c =
    label-some c.args.line.now c.as_slice.result.now c.requires.plain (omega (arith, eqb-false _ _ (sym c.if-is_empty.ensures))) (c.as_slice.ensures ∙ c.in_ok-mended.ensures)

pub returns : goal.returns
returns c =
    let some : 0 < length c.args.line.now = omega (arith, eqb-false _ _ (sym c.if-is_empty.ensures)) in
    rw (sym (label-first c.args.line.now c.cut_line.result.0.now c.cut_line.result.1.now c.as_slice.result.now c.requires.plain some (c.as_slice.ensures ∙ c.in_ok-mended.ensures) c.cut_line.ensures.line)) c.copy-2.ensures
