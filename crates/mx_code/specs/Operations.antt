-- The operations that the machine carries out, by their names in the table of codes of `mx_ops` (MMIXware, the part on
-- MMIX; TAOCP 1, Fascicle 1, section 1.3.1').
use Rattle.std.specs.Prelude.{ℕ, List, ◌++◌, map, codes, Bool, true, false}
use Rattle.std.specs.Option.{unwrap_or}
use Rattle.mx_mem.specs.declared.part.Part.TheVariants.{Byte, Wyde, Tetra, Octa}
use Rattle.mx_ops.specs.Opcodes.{opcode_name}
use Rattle.mx_ops.specs.Tables.{words, first_of}
use Rattle.mx_code.specs.declared.operation.Loading.TheVariants as loading
use Rattle.mx_code.specs.declared.operation.Storing.TheVariants as storing
use Rattle.mx_code.specs.declared.operation.Operation.{Operation}
use Rattle.mx_code.specs.declared.operation.Operation.TheVariants as op

-- whether an operation tests a condition
unfoldable pub has_condition : Operation → Bool
has_condition op.Branch = true
has_condition op.ConditionalSet = true
has_condition op.ZeroOrSet = true
has_condition operation = false

-- whether an operation has a destination, the register $X
abbrev pub has_destination : Operation → Bool
has_destination op.Compute = true
has_destination op.Negate = true
has_destination op.Wyde = true
has_destination op.ConditionalSet = true
has_destination op.ZeroOrSet = true
has_destination (op.Load how) = true
has_destination op.CompareAndSwap = true
has_destination op.Address = true
has_destination op.Go = true
has_destination op.Get = true
has_destination operation = false

-- each of the names in a text has this operation
abbrev pub each : List ℕ → Operation → List (List ℕ × Operation)
each names operation = map (λ name. (name, operation)) (words names)

-- loads and stores: what part of an octa they move, and how (MMIXware, the part on MMIX, "Loading and storing")
unfoldable pub load_names : List (List ℕ × Operation)
load_names =
    each (codes "LDB") (op.Load (loading.Signed Byte)) ++ each (codes "LDBU") (op.Load (loading.Unsigned Byte))
    ++ each (codes "LDW") (op.Load (loading.Signed Wyde)) ++ each (codes "LDWU") (op.Load (loading.Unsigned Wyde))
    ++ each (codes "LDT") (op.Load (loading.Signed Tetra)) ++ each (codes "LDTU") (op.Load (loading.Unsigned Tetra))
    ++ each (codes "LDO LDOU LDUNC") (op.Load (loading.Unsigned Octa)) ++ each (codes "LDHT") (op.Load loading.HighTetra)

unfoldable pub store_names : List (List ℕ × Operation)
store_names =
    each (codes "STB") (op.Store (storing.Signed Byte)) ++ each (codes "STBU") (op.Store (storing.Unsigned Byte))
    ++ each (codes "STW") (op.Store (storing.Signed Wyde)) ++ each (codes "STWU") (op.Store (storing.Unsigned Wyde))
    ++ each (codes "STT") (op.Store (storing.Signed Tetra)) ++ each (codes "STTU") (op.Store (storing.Unsigned Tetra))
    ++ each (codes "STO STOU STUNC") (op.Store (storing.Unsigned Octa)) ++ each (codes "STHT") (op.Store storing.HighTetra)
    ++ each (codes "STCO") (op.Store storing.Constant)

-- all operations; `mx_alu` says what those of whole numbers give
unfoldable pub operation_names : List (List ℕ × Operation)
operation_names =
    each (codes "TRAP") op.Trap
    ++ each (codes "FCMP FUN FEQL FADD FIX FSUB FIXU FLOT FLOTU SFLOT SFLOTU FMUL FCMPE FUNE FEQLE FDIV FSQRT FREM FINT LDSF STSF") op.Float
    ++ each (codes "MUL MULU DIV DIVU ADD ADDU SUB SUBU 2ADDU 4ADDU 8ADDU 16ADDU CMP CMPU SL SLU SR SRU") op.Compute
    ++ each (codes "OR ORN NOR XOR AND ANDN NAND NXOR BDIF WDIF TDIF ODIF MUX SADD MOR MXOR") op.Compute
    ++ each (codes "NEG NEGU") op.Negate
    ++ each (codes "SETH SETMH SETML SETL INCH INCMH INCML INCL ORH ORMH ORML ORL ANDNH ANDNMH ANDNML ANDNL") op.Wyde
    ++ each (codes "BN BZ BP BOD BNN BNZ BNP BEV PBN PBZ PBP PBOD PBNN PBNZ PBNP PBEV") op.Branch
    ++ each (codes "CSN CSZ CSP CSOD CSNN CSNZ CSNP CSEV") op.ConditionalSet
    ++ each (codes "ZSN ZSZ ZSP ZSOD ZSNN ZSNZ ZSNP ZSEV") op.ZeroOrSet
    ++ load_names ++ store_names ++ each (codes "CSWAP") op.CompareAndSwap
    ++ each (codes "PRELD PREGO PREST SYNCD SYNCID SWYM") op.Nothing
    ++ each (codes "LDVTS") op.Privileged ++ each (codes "SYNC") op.Synchronize
    ++ each (codes "GETA") op.Address ++ each (codes "JMP") op.Jump ++ each (codes "GO") op.Go
    ++ each (codes "PUSHJ") op.PushJump ++ each (codes "PUSHGO") op.PushGo ++ each (codes "POP") op.Pop
    ++ each (codes "SAVE") op.Save ++ each (codes "UNSAVE") op.Unsave
    ++ each (codes "GET") op.Get ++ each (codes "PUT") op.Put
    ++ each (codes "TRIP") op.Trip ++ each (codes "RESUME") op.Resume

-- the operation of a code, by its name
unfoldable pub operation_of : ℕ → Operation
operation_of code = unwrap_or (first_of (opcode_name code) operation_names) op.Nothing
