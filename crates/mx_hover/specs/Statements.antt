-- The statement at a place of a line.
use Rattle.std.specs.Prelude.{ℕ, ◌==◌, nat_le, Bool, List, Option, None, Some}
use Rattle.std.specs.List.{find}
use Rattle.mx_slips.specs.declared.sources.Statement.{Statement}
use Rattle.mx_slips.specs.declared.sources.SourceLine.{SourceLine}

abbrev pub is_numbered : ℕ → SourceLine → Bool
is_numbered number l = l.number == number

-- the operands of a statement do not end before a place
abbrev pub reaches : ℕ → Statement → Bool
reaches from s = nat_le from s.rest.from

abbrev pub statement_in : ℕ → Option SourceLine → Option Statement
statement_in from None = None
statement_in from (Some l) = find (reaches from) l.statements

-- the first statement of line number whose operands do not end before a place of the line
abbrev pub statement_at : List SourceLine → ℕ → ℕ → Option Statement
statement_at lines number from = statement_in from (find (is_numbered number) lines)
