-- The two-pass meaning of the statements of a source. The first pass tells what is known at each statement and what every
-- name means at the end. The second places the bytes, with every label known.
-- (MMIXware, MMIXAL: `@`, labels, PREFIX, local labels, GREG and future references.)
use Rattle.std.specs.Prelude.{ℕ, ◌==◌, Bool, false, List, [], ◌∷◌, ◌++◌, fold, slice_set, Option, None, Some, Ok, Err, if◌then◌else◌}
use Rattle.mx_word.specs.declared.symbols.Value.{Value}
use Rattle.mx_word.specs.declared.symbols.Value.TheVariants.{Pure, Reg}
use Rattle.mx_word.specs.declared.waits.Awaited.{Awaited}
use Rattle.mx_word.specs.declared.waits.Awaited.TheVariants as awaited
use Rattle.mx_word.specs.declared.waits.Wait.{Wait}
use Rattle.mx_names.specs.Names.{NameTable, start, complete_form, value_of_name, with_symbol}
use Rattle.mx_names.specs.Gregs.{with_greg}
use Rattle.mx_stmt.specs.declared.statement.Label.{Label}
use Rattle.mx_stmt.specs.declared.statement.Label.TheVariants.{Name, Local}
use Rattle.mx_stmt.specs.declared.placed.Effect.{Effect}
use Rattle.mx_stmt.specs.declared.placed.Effect.TheVariants as effect
use Rattle.mx_stmt.specs.declared.placed.Placed.{Placed}
use Rattle.mx_stmt.specs.Steps.{Answer}
use Rattle.mx_stmt.specs.Operands.{Known, Targets, no_targets}
use Rattle.mx_stmt.specs.Encoding.{StatementTree, encoding}

-- ---- the first pass: what is known at each statement

-- the names with a label more: a symbol by its complete name, or the last label dH
abbrev pub with_label : NameTable → Option Label → Option Value → NameTable
with_label names (Some (Name text)) (Some value) = with_symbol names (complete_form names.prefix text) value
with_label names (Some (Local d)) (Some value) = record names { backs = slice_set names.backs d value }
with_label names label value = names

-- what is known once a statement has had its effect
abbrev pub with_effect : Known → Effect → Known
with_effect k effect.Plain = k
with_effect k (effect.Prefix full) = record k { names = record k.names { prefix = full } }
with_effect k (effect.Greg reg value) = record k { gregs = with_greg k.gregs reg value }
with_effect k (effect.Local reg) = k

-- what is known after a statement that is placed
abbrev pub known_following : Known → StatementTree → Placed → Known
known_following k s p = with_effect (record { names = with_label k.names s.label p.label; at = p.after; gregs = k.gregs }) p.effect

abbrev pub known_with : Known → StatementTree → Answer Placed → Known
known_with k s (Err fault) = k
known_with k s (Ok p) = known_following k s p

-- what is known after a statement; where its references lead makes no difference
unfoldable pub known_after : Known → StatementTree → Known
known_after k s = known_with k s (encoding no_targets k s)

-- before the first statement: `@` is 0, and no register is allocated
abbrev pub nothing_known : Known
nothing_known = record { names = start; at = 0; gregs = [] }

-- a statement with what is known at it, where `@` is as it was before the statement
pub record Sight : Type 0 where
  pub known : Known
  pub statement : StatementTree

-- the statements, each with what is known at it
unfoldable pub sights_from : Known → List StatementTree → List Sight
sights_from k [] = []
sights_from k (s ∷ later) = record { known = k; statement = s } ∷ sights_from (known_after k s) later

abbrev pub sights_of : List StatementTree → List Sight
sights_of statements = sights_from nothing_known statements

-- what is known at the end: every name, and every allocated register
abbrev pub final_known : List StatementTree → Known
final_known statements = fold known_after nothing_known statements

-- ---- references and labels

-- what a statement comes to while no reference has a target
abbrev pub outline : Sight → Answer Placed
outline s = encoding no_targets s.known s.statement

-- the references of a statement, from the left, and those of many
abbrev pub waits_in : Answer Placed → List Wait
waits_in (Err fault) = []
waits_in (Ok p) = p.waits

unfoldable pub references : List Sight → List Wait
references [] = []
references (s ∷ later) = waits_in (outline s) ++ references later

-- the value of a statement's label
abbrev pub value_in : Answer Placed → Option Value
value_in (Err fault) = None
value_in (Ok p) = p.label

-- whether a label is dH
abbrev pub is_local : ℕ → Option Label → Bool
is_local d None = false
is_local d (Some (Name text)) = false
is_local d (Some (Local e)) = d == e

-- the value of the next label dH among later statements
unfoldable pub next_local : ℕ → List Sight → Option Value
next_local d [] = None
next_local d (s ∷ later) = if is_local d s.statement.label then value_in (outline s) else next_local d later

-- what a reference means: the value of its name at the end, or of the next label dH on a later statement
abbrev pub referent : NameTable → List Sight → Awaited → Option Value
referent final later (awaited.Name full) = value_of_name final full
referent final later (awaited.Local d) = next_local d later

abbrev pub pure_number : Option Value → Option ℕ
pure_number None = None
pure_number (Some (Pure n)) = Some n
pure_number (Some (Reg r)) = None

abbrev pub targets : NameTable → List Sight → Targets
targets final later who = pure_number (referent final later who)

-- ---- the second pass: the bytes, with every label known

-- the bytes that a statement places from an address on, and its line
pub record Piece : Type 0 where
  pub line : ℕ
  pub start : ℕ
  pub bytes : List ℕ

abbrev pub piece_with : ℕ → Answer Placed → List Piece
piece_with line (Err fault) = []
piece_with line (Ok p) = record { line = line; start = p.start; bytes = p.bytes } ∷ []

-- what a statement places, before these later statements
abbrev pub piece_of : NameTable → List Sight → Sight → List Piece
piece_of final later s = piece_with s.statement.line (encoding (targets final later) s.known s.statement)

unfoldable pub pieces_of : NameTable → List Sight → List Piece
pieces_of final [] = []
pieces_of final (s ∷ later) = piece_of final later s ++ pieces_of final later

-- all that the statements of a source place
abbrev pub pieces : List StatementTree → List Piece
pieces statements = pieces_of (final_known statements).names (sights_of statements)
