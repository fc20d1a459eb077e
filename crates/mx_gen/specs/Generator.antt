-- The source that `gen` makes: this many blocks, each of which calls a procedure that calls itself, and the line that tells
-- what came of it.
-- A rule of this program.
use Rattle.std.specs.Prelude.{ℕ, zero, suc, ◌+◌, ◌*◌, ◌/◌, ◌%◌, ◌^◌, List, [], ◌++◌, codes, decimal}

-- numbers that seem random: x_0 is 0
abbrev pub next_random : ℕ → ℕ
next_random x = (6364136223846793005 * x + 1442695040888963407) % 2 ^ 64

unfoldable pub random : ℕ → ℕ
random zero = 0
random (suc i) = next_random (random i)

-- by the number of a block: how deep its calls go, and what is added to an even sum
abbrev pub depth : ℕ → ℕ
depth x = x / 2 ^ 55

abbrev pub increment : ℕ → ℕ
increment x = x % 2 ^ 16

abbrev pub opening : List ℕ
opening = codes " LOC #100\nMain SETL $0,0\n"

-- block i, which goes on with block i + 1
abbrev pub block_with : ℕ → ℕ → ℕ → List ℕ
block_with i deep more =
    codes "B" ++ decimal i ++ codes " SETL $2," ++ decimal deep ++ codes "\n PUSHJ $1,Rec\n ADDU $0,$0,$1\n BOD $0,B"
    ++ decimal (i + 1) ++ codes "\n INCL $0," ++ decimal more ++ codes "\n"

abbrev pub block : ℕ → List ℕ
block i = block_with i (depth (random i)) (increment (random i))

unfoldable pub blocks : ℕ → List ℕ
blocks zero = []
blocks (suc i) = blocks i ++ block (suc i)

-- the procedure Rec: of d it gives 1 + 2 + .. + d
abbrev pub procedure : List ℕ
procedure =
    codes "Rec BZ $0,1F\n GET $1,rJ\n SUBU $3,$0,1\n PUSHJ $2,Rec\n ADDU $0,$0,$2\n PUT rJ,$1\n POP 1,0\n1H POP 1,0\n"

-- the end, after n blocks
abbrev pub closing : ℕ → List ℕ
closing n = codes "B" ++ decimal (n + 1) ++ codes " SET $255,$0\n TRAP 0,Halt,0\n" ++ procedure

unfoldable pub generated : ℕ → List ℕ
generated n = opening ++ blocks n ++ closing n

-- the blocks, the bytes of the source, the steps that were made, and $255 at the end
abbrev pub summary : ℕ → ℕ → ℕ → ℕ → List ℕ
summary n size steps sum =
    codes "blocks " ++ decimal n ++ codes " bytes " ++ decimal size ++ codes " steps " ++ decimal steps ++ codes " sum "
    ++ decimal sum ++ codes "\n"
