-- The instructions by their names in the table of codes (`mx_ops`).
use Rattle.std.specs.Prelude.{ℕ, List, [], ◌∷◌, ◌++◌, map, codes}
use Rattle.std.specs.List.{flat_map}
use Rattle.std.specs.Option.{unwrap_or}
use Rattle.mx_ops.specs.Opcodes.{opcode_name}
use Rattle.mx_ops.specs.Tables.{words, first_of}
use Rattle.mx_alu.specs.declared.names.Arithmetic.{Arithmetic}
use Rattle.mx_alu.specs.declared.names.Arithmetic.TheVariants.{Mul, Mulu, Div, Divu, Add, Addu, Sub, Subu, TwoAddu, FourAddu, EightAddu, SixteenAddu, Cmp, Cmpu, Neg, Negu, Sl, Slu, Sr, Sru}
use Rattle.mx_alu.specs.declared.names.Bitwise.{Bitwise}
use Rattle.mx_alu.specs.declared.names.Bitwise.TheVariants.{Or, Orn, Nor, Xor, And, Andn, Nand, Nxor, Bdif, Wdif, Tdif, Odif, Mux, Sadd, Mor, Mxor}
use Rattle.mx_alu.specs.declared.names.Wyde.{Wyde}
use Rattle.mx_alu.specs.declared.names.Wyde.TheVariants.{Set, Inc, OrIn, AndNot}
use Rattle.mx_alu.specs.declared.names.Condition.{Condition}
use Rattle.mx_alu.specs.declared.names.Condition.TheVariants.{Negative, Zero, Positive, Odd, NotNegative, NotZero, NotPositive, Even}

-- sums, products, quotients, comparisons and shifts
unfoldable pub arithmetic_names : List (List ℕ × Arithmetic)
arithmetic_names =
    (codes "MUL", Mul) ∷ (codes "MULU", Mulu) ∷ (codes "DIV", Div) ∷ (codes "DIVU", Divu)
    ∷ (codes "ADD", Add) ∷ (codes "ADDU", Addu) ∷ (codes "SUB", Sub) ∷ (codes "SUBU", Subu)
    ∷ (codes "2ADDU", TwoAddu) ∷ (codes "4ADDU", FourAddu) ∷ (codes "8ADDU", EightAddu) ∷ (codes "16ADDU", SixteenAddu)
    ∷ (codes "CMP", Cmp) ∷ (codes "CMPU", Cmpu) ∷ (codes "NEG", Neg) ∷ (codes "NEGU", Negu)
    ∷ (codes "SL", Sl) ∷ (codes "SLU", Slu) ∷ (codes "SR", Sr) ∷ (codes "SRU", Sru)
    ∷ []

-- logic, differences of fields and matrices of bits
unfoldable pub bitwise_names : List (List ℕ × Bitwise)
bitwise_names =
    (codes "OR", Or) ∷ (codes "ORN", Orn) ∷ (codes "NOR", Nor) ∷ (codes "XOR", Xor)
    ∷ (codes "AND", And) ∷ (codes "ANDN", Andn) ∷ (codes "NAND", Nand) ∷ (codes "NXOR", Nxor)
    ∷ (codes "BDIF", Bdif) ∷ (codes "WDIF", Wdif) ∷ (codes "TDIF", Tdif) ∷ (codes "ODIF", Odif)
    ∷ (codes "MUX", Mux) ∷ (codes "SADD", Sadd) ∷ (codes "MOR", Mor) ∷ (codes "MXOR", Mxor)
    ∷ []

-- what an immediate wyde does, and the wyde of the octa that it means, by its lowest bit: high, medium high, medium low, low
unfoldable pub wyde_fronts : List (List ℕ × Wyde)
wyde_fronts = (codes "SET", Set) ∷ (codes "INC", Inc) ∷ (codes "OR", OrIn) ∷ (codes "ANDN", AndNot) ∷ []

unfoldable pub wyde_ends : List (List ℕ × ℕ)
wyde_ends = (codes "H", 48) ∷ (codes "MH", 32) ∷ (codes "ML", 16) ∷ (codes "L", 0) ∷ []

unfoldable pub wyde_names : List (List ℕ × (Wyde × ℕ))
wyde_names = flat_map (λ front. map (λ end. (front.0 ++ end.0, (front.1, end.1))) wyde_ends) wyde_fronts

-- the conditions of branches, of conditional sets, and of those that set or clear
unfoldable pub condition_ends : List (List ℕ × Condition)
condition_ends =
    (codes "N", Negative) ∷ (codes "Z", Zero) ∷ (codes "P", Positive) ∷ (codes "OD", Odd)
    ∷ (codes "NN", NotNegative) ∷ (codes "NZ", NotZero) ∷ (codes "NP", NotPositive) ∷ (codes "EV", Even)
    ∷ []

unfoldable pub condition_names : List (List ℕ × Condition)
condition_names = flat_map (λ front. map (λ end. (front ++ end.0, end.1)) condition_ends) (words (codes "B PB CS ZS"))

-- the instruction or condition of a code, by its name; a code with another name has none, and the word after it means nothing
unfoldable pub arithmetic_of : ℕ → Arithmetic
arithmetic_of code = unwrap_or (first_of (opcode_name code) arithmetic_names) Mul

unfoldable pub bitwise_of : ℕ → Bitwise
bitwise_of code = unwrap_or (first_of (opcode_name code) bitwise_names) Or

unfoldable pub wyde_of : ℕ → Wyde × ℕ
wyde_of code = unwrap_or (first_of (opcode_name code) wyde_names) (Set, 0)

unfoldable pub condition_of : ℕ → Condition
condition_of code = unwrap_or (first_of (opcode_name code) condition_names) Negative
