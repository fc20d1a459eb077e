-- How many bytes of an object a statement asks for at most, and that the bytes of its operands bound it.
use Rattle.std.specs.Prelude.{nat_lt, if◌then◌else◌}
use Rattle.mx_asm.proofs.Words.{Tree, number, name, back, ahead, here, unary, binary, StatementTree, nat_tests, sum_by-cons, sum_by-append, AreBytes, ExprFault, reading, Operand, Operands, Spells, none, more, empty, operands, list-read}
use Rattle.std.proofs.Common.{◌≡◌, ℕ, ◌+◌, ◌*◌, ◌^◌, ◌<◌, ◌≤◌, List, [], ◌∷◌, ◌++◌, length, map, sum_by, arith, refl, length-append, Result, Ok, Err, rules}
use Rattle.mx_expr.proofs.Fields.{sum-some}
use Rattle.mx_asm.proofs.ByteStatements.{bytes-cut}

-- ---- how many bytes of an object a statement asks for at most

-- the most object bytes that an operand asks for: its bytes where each tetra is quoted, and the record of a reference
abbrev pub operand_weight : Tree → ℕ
operand_weight (number n) = if nat_lt n 256 then 8 else 28
operand_weight (name text) = 28
operand_weight (back d) = 28
operand_weight (ahead d) = 28
operand_weight here = 28
operand_weight (unary op e) = 28
operand_weight (binary op l r) = 28

-- a statement asks for 40 bytes besides those of its operands
abbrev pub weight : StatementTree → ℕ
weight s = 40 + sum_by operand_weight s.operands

abbrev pub weights : List StatementTree → ℕ
weights statements = sum_by weight statements

-- ---- what an operand field asks for is bounded by its bytes

abbrev pub total : List Tree → ℕ
total es = sum_by operand_weight es

abbrev pub ListWeighs : ℕ → Result (List Tree) ExprFault → Type 0
ListWeighs most (Err fault) = Unit {0}
ListWeighs most (Ok es) = total es ≤ most

operand-most : (e : Tree) → operand_weight e ≤ 28
operand-most e = grind (arith, nat_tests)

byte-weight : (b : ℕ) → b < 2 ^ 8 → operand_weight (number b) ≡ 8
byte-weight b l = grind (arith, nat_tests)

string-weighs : (bytes following : List ℕ) → AreBytes (bytes ++ following) → total (map number bytes) ≡ 8 * length bytes
string-weighs [] following l = refl
string-weighs (b ∷ bytes) following l = omega (arith, byte-weight b l.0, sum_by-cons operand_weight (number b) (map number bytes), string-weighs bytes following l.1)

-- Each byte adds at most 14: a byte of a string is an operand of 8, and another operand of 28 has a byte and a comma.
operand-weighs : {part : List ℕ} {fs : List Tree} → Operand part fs → AreBytes part → total fs ≤ 14 * length part + 14
operand-weighs h1 h2 = search (rules, operand-most, sum-some, string-weighs, length-append)

operands-weigh : {text : List ℕ} {es : List Tree} → Operands text es → AreBytes text → total es ≤ 14 * length text
operands-weigh none l = omega arith
operands-weigh (more t part es fs h g) l = grind (arith, bytes-cut, operand-weighs, sum_by-append, length-append, operands-weigh h)

spelled-weighs : {field : List ℕ} {es : List Tree} → Spells field es → AreBytes field → total es ≤ 14 * length field + 14
spelled-weighs empty l = omega arith
spelled-weighs (operands t part es fs h g) l = search (rules, bytes-cut, operands-weigh, operand-weighs, sum_by-append, length-append)

answer-weighs : (field : List ℕ) (r : Result (List Tree) ExprFault) → AreBytes field → reading field ≡ r → ListWeighs (14 * length field + 14) r
answer-weighs field (Err fault) l is = tt
answer-weighs field (Ok es) l is = spelled-weighs ((list-read field es).0 is).0 l

-- the most that a field asks for: one that is empty counts as `0`
abbrev pub field_most : List ℕ → ℕ
field_most [] = 8
field_most (b ∷ bs) = 14 * length (b ∷ bs) + 14

pub field-weighs : (field : List ℕ) → AreBytes field → ListWeighs (field_most field) (reading field)
field-weighs [] l = omega arith
field-weighs (b ∷ bs) l = answer-weighs (b ∷ bs) (reading (b ∷ bs)) l refl
