-- The statements of the source that `gen` makes, and the image that it means.
-- A rule of this program.
use Rattle.std.specs.Prelude.{ℕ, zero, suc, ◌+◌, List, [], ◌∷◌, ◌++◌, codes, decimal, Option, None, Some}
use Rattle.mx_mmo.specs.Image.{Image}
use Rattle.mx_expr.specs.declared.tree.UnOp.TheVariants.{Register}
use Rattle.mx_expr.specs.Tree.{Tree, number, name, ahead, unary}
use Rattle.mx_ops.specs.declared.op.Op.{Op}
use Rattle.mx_ops.specs.declared.op.Op.TheVariants.{Pseudo, Code, Set}
use Rattle.mx_ops.specs.declared.op.Pseudo.TheVariants.{Loc}
use Rattle.mx_stmt.specs.declared.statement.Label.{Label}
use Rattle.mx_stmt.specs.declared.statement.Label.TheVariants.{Name, Local}
use Rattle.mx_stmt.specs.Encoding.{StatementTree}
use Rattle.mx_asm.specs.Image.{image}
use Rattle.mx_gen.specs.Generator.{depth, increment, random}

abbrev pub stated : ℕ → Option Label → Op → List Tree → StatementTree
stated line label op operands = record { line = line; label = label; op = op; operands = operands }

-- the register of a number
abbrev pub reg : ℕ → Tree
reg r = unary Register (number r)

-- the name of block b, and that of the procedure
abbrev pub block_name : ℕ → List ℕ
block_name b = codes "B" ++ decimal b

abbrev pub procedure_name : List ℕ
procedure_name = codes "Rec"

-- the first two lines, before others
abbrev pub opening_before : List StatementTree → List StatementTree
opening_before later =
    stated 1 None (Pseudo Loc) (number 0x100 ∷ [])
    ∷ stated 2 (Some (Name (codes "Main"))) (Code 0xe3) (reg 0 ∷ number 0 ∷ [])
    ∷ later

-- a block from a line on, before others: its number, its two numbers that seem random, and the name of the next block
abbrev pub block_before : ℕ → ℕ → ℕ → ℕ → List StatementTree → List StatementTree
block_before line b deep more later =
    stated line (Some (Name (block_name b))) (Code 0xe3) (reg 2 ∷ number deep ∷ [])
    ∷ stated (line + 1) None (Code 0xf2) (reg 1 ∷ name procedure_name ∷ [])
    ∷ stated (line + 2) None (Code 0x22) (reg 0 ∷ reg 0 ∷ reg 1 ∷ [])
    ∷ stated (line + 3) None (Code 0x46) (reg 0 ∷ name (block_name (b + 1)) ∷ [])
    ∷ stated (line + 4) None (Code 0xe7) (reg 0 ∷ number more ∷ [])
    ∷ later

-- the procedure from a line on
abbrev pub procedure_at : ℕ → List StatementTree
procedure_at line =
    stated line (Some (Name procedure_name)) (Code 0x42) (reg 0 ∷ ahead 1 ∷ [])
    ∷ stated (line + 1) None (Code 0xfe) (reg 1 ∷ name (codes "rJ") ∷ [])
    ∷ stated (line + 2) None (Code 0x26) (reg 3 ∷ reg 0 ∷ number 1 ∷ [])
    ∷ stated (line + 3) None (Code 0xf2) (reg 2 ∷ name procedure_name ∷ [])
    ∷ stated (line + 4) None (Code 0x22) (reg 0 ∷ reg 0 ∷ reg 2 ∷ [])
    ∷ stated (line + 5) None (Code 0xf6) (name (codes "rJ") ∷ reg 1 ∷ [])
    ∷ stated (line + 6) None (Code 0xf8) (number 1 ∷ number 0 ∷ [])
    ∷ stated (line + 7) (Some (Local 1)) (Code 0xf8) (number 1 ∷ number 0 ∷ [])
    ∷ []

-- the end from a line on, with the name that the last block goes on with
abbrev pub closing_at : ℕ → ℕ → List StatementTree
closing_at line b =
    stated line (Some (Name (block_name b))) Set (reg 255 ∷ reg 0 ∷ [])
    ∷ stated (line + 1) None (Code 0) (number 0 ∷ name (codes "Halt") ∷ number 0 ∷ [])
    ∷ procedure_at (line + 2)

-- this many blocks from a line on after b blocks, and the end
unfoldable pub blocks_at : ℕ → ℕ → ℕ → List StatementTree
blocks_at line b zero = closing_at line (b + 1)
blocks_at line b (suc more) =
    block_before line (suc b) (depth (random (suc b))) (increment (random (suc b))) (blocks_at (line + 5) (suc b) more)

-- all statements of the source with n blocks
abbrev pub program : ℕ → List StatementTree
program n = opening_before (blocks_at 3 0 n)

-- the image of these statements, which the source means
abbrev pub generated_image : ℕ → Image
generated_image n = image (program n)
