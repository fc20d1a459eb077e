use Rattle.std.proofs.Common.{◌≡◌, ◌∙◌, arith, false, get_or, refl, subst, sym}
use Rattle.mx_multi.specs.Joint.{has_halted}
use Rattle.mx_multi.proofs.RowTurns.{none-yet, walked-part, walked-row}
use Rattle.mx_multi.proofs.Rounds.{next-below}
use Rattle.mx_multi.proofs.Schedules.{name-below}
use Rattle.mx_multi.proofs.rows.walk_rows.Goals as goal

pub loop-left-init : goal.loop-left-init
loop-left-init c = record { few = omega arith; inside = c.requires.inside; turns = none-yet _ _ _ _; halted = refl; count = refl }

-- ---- a row

pub walk-made-requires-clause-inside : goal.walk-made-requires-clause-inside
walk-made-requires-clause-inside c = rw c.loop-left.invariant.count (name-below _ _ _ _ c.loop-left.invariant.inside c.requires.names)

pub walk-made-requires-clause-runs : goal.walk-made-requires-clause-runs
walk-made-requires-clause-runs c =
    let was = c.loop-left.invariant in
    subst (λ hs. has_halted hs (get_or c.args.names.now c.loop-left.place 0) ≡ false) (sym was.halted) (c.requires.run.runs _ was.inside)

pub loop-left-preserved : goal.loop-left-preserved
loop-left-preserved c =
    let was = c.loop-left.invariant in
    let row = c.next_row-row.ensures in
    let e = c.walk-made.ensures in
    record {
      few = (let few = was.few in omega (arith, few));
      inside = next-below _ _ _ _ was.inside row.next;
      turns = walked-row _ _ _ _ _ _ _ _ _ _ _ _ was.few e.few c.if-made-length.false row.few was.inside row.row row.next was.turns e.turns;
      halted = e.halted ∙ was.halted;
      count = e.count ∙ was.count;
    }

-- ---- a part of one

pub returns-then-made-length-clause-inside : goal.returns-then-made-length-clause-inside
returns-then-made-length-clause-inside c = next-below _ _ _ _ c.loop-left.invariant.inside c.pass-at.ensures

pub returns-then-made-length-clause-turns : goal.returns-then-made-length-clause-turns
returns-then-made-length-clause-turns c =
    let was = c.loop-left.invariant in
    let row = c.next_row-row.ensures in
    let e = c.walk-made.ensures in
    walked-part _ _ _ _ _ _ _ _ _ _ _ _ was.few e.few row.few was.inside row.row c.pass-at.ensures was.turns e.turns
