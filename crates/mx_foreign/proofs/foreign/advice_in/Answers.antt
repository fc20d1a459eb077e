use Rattle.std.proofs.Common.{sym, ap, ◌∙◌}
use Rattle.std.specs.Option.{option_map}
use Rattle.mx_foreign.proofs.Rows.{found-row, no-row}
use Rattle.mx_foreign.proofs.foreign.advice_in.Goals as goal

pub returns-in-Some : goal.returns-in-Some
returns-in-Some c =
    sym (found-row c.args.name.now c.args.rows.now c.in-Some.row.now (ap (option_map (λ row. row.now)) (sym c.in-Some.is) ∙ c.row_of.ensures))

pub returns-in-None : goal.returns-in-None
returns-in-None c = sym (no-row c.args.name.now c.args.rows.now (ap (option_map (λ row. row.now)) (sym c.in-None.is) ∙ c.row_of.ensures))
