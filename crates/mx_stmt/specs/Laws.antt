-- The words of the laws of statements.
use Rattle.std.specs.Prelude.{ℕ, ◌≡◌, List, slice_set, Option, IfSome, None, Ok}
use Rattle.mx_names.specs.Gregs.{with_greg}
use Rattle.mx_names.specs.Names.{value_in, value_of_name, with_symbol}
use Rattle.mx_word.specs.declared.symbols.Value.{Value}
use Rattle.mx_word.specs.declared.waits.Awaited.TheVariants as awaited
use Rattle.mx_word.specs.declared.waits.Wait.{Wait}
use Rattle.mx_stmt.specs.Encoding.{StatementTree, encoding}
use Rattle.mx_stmt.specs.Fixes.{HasRegisterNumber, IsFixed}
use Rattle.mx_stmt.specs.Operands.{Known, Targets, no_targets}
use Rattle.mx_stmt.specs.Steps.{AreAlike}
use Rattle.mx_stmt.specs.declared.placed.Placed.{Placed}

-- what a statement comes to
abbrev pub Places : Targets → Known → StatementTree → Placed → Type 0
Places t k s p = encoding t k s ≡ Ok p

-- it comes to the same without the targets, but for what its references add
abbrev pub JoinsTargets : Targets → Known → StatementTree → Type 0
JoinsTargets t k s = AreAlike (IsFixed t) (encoding no_targets k s) (encoding t k s)

-- its label, if it has one, means a register
abbrev pub HasRegisterLabel : Placed → Type 0
HasRegisterLabel p = IfSome p.label HasRegisterNumber

-- ---- what is known after one statement more

abbrev pub IsNew : List ℕ → Known → Type 0
IsNew full k = value_in full k.names.symbols ≡ None

abbrev pub with_name : Known → List ℕ → Value → Known
with_name k full v = record k { names = with_symbol k.names full v }

abbrev pub with_local : Known → ℕ → Value → Known
with_local k d v = record k { names = record k.names { backs = slice_set k.names.backs d v } }

abbrev pub with_given : Known → ℕ → ℕ → Known
with_given k reg value = record k { gregs = with_greg k.gregs reg value }

-- a name that is waited for has no value
abbrev pub IsUnknown : Known → Wait → Type 0
IsUnknown k w = (full : List ℕ) → w.who ≡ awaited.Name full → value_of_name k.names full ≡ None
