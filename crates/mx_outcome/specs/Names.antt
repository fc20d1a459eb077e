-- The names of faults, of the reasons of a stop, and of the kinds of faulty words. Other numbers have no name.
use Rattle.std.specs.Prelude.{ℕ, List, [], nat_lt, ◌==◌, codes, if◌then◌else◌}

-- where a line cannot be cut
abbrev pub line_name : ℕ → List ℕ
line_name n =
    if n == 1 then codes "TooLong"
    else if n == 2 then codes "BadLabel"
    else if n == 3 then codes "BadLocal"
    else if n == 4 then codes "BadOpcode"
    else if n == 5 then codes "OpenString"
    else if n == 6 then codes "OpenChar"
    else if n == 7 then codes "NoOpcode"
    else []

-- where an operand list cannot be read or valued
abbrev pub expression_name : ℕ → List ℕ
expression_name n =
    if n == 10 then codes "Syntax"
    else if n == 11 then codes "TooWide"
    else if n == 12 then codes "DivZero"
    else if n == 13 then codes "FractionTooBig"
    else if n == 14 then codes "PureOnly"
    else if n == 15 then codes "TwoRegisters"
    else if n == 16 then codes "RegisterFromPure"
    else if n == 17 then codes "Future"
    else if n == 18 then codes "TooDeep"
    else if n == 19 then codes "EmptyString"
    else if n == 21 then codes "RegisterNumber"
    else []

-- where a symbol cannot be defined or completed
abbrev pub symbol_name : ℕ → List ℕ
symbol_name n =
    if n == 30 then codes "Twice"
    else if n == 31 then codes "Predefined"
    else if n == 33 then codes "NameTooLong"
    else []

-- where a statement has no encoding
abbrev pub statement_name : ℕ → List ℕ
statement_name n =
    if n == 39 then codes "UnknownOpcode"
    else if n == 40 then codes "Operands"
    else if n == 41 then codes "NotRegister"
    else if n == 42 then codes "NotPure"
    else if n == 43 then codes "Fit"
    else if n == 44 then codes "NoBase"
    else if n == 45 then codes "TooFar"
    else if n == 46 then codes "NotMultiple"
    else if n == 47 then codes "TooManyGregs"
    else if n == 48 then codes "LabelNotAllowed"
    else if n == 49 then codes "BadPlace"
    else []

-- where bytes are no object
abbrev pub object_name : ℕ → List ℕ
object_name n =
    if n == 60 then codes "NotTetras"
    else if n == 61 then codes "NoPre"
    else if n == 62 then codes "BadLop"
    else if n == 63 then codes "BadFields"
    else if n == 64 then codes "Truncated"
    else if n == 65 then codes "TooLong"
    else []

-- where bytes are no symbol trie
abbrev pub trie_name : ℕ → List ℕ
trie_name n =
    if n == 70 then codes "Truncated"
    else if n == 71 then codes "Padding"
    else if n == 72 then codes "Wide"
    else if n == 73 then codes "Twice"
    else if n == 74 then codes "TooLong"
    else if n == 76 then codes "BadSerial"
    else []

-- where a source cannot be assembled
abbrev pub source_name : ℕ → List ℕ
source_name n =
    if n == 80 then codes "UndefinedSymbol"
    else if n == 81 then codes "UndefinedLocal"
    else if n == 82 then codes "MainUndefined"
    else if n == 83 then codes "MainRegister"
    else if n == 84 then codes "FutureRegister"
    else if n == 85 then codes "FutureTooFar"
    else if n == 86 then codes "SymbolsTooMany"
    else if n == 87 then codes "LocalAboveGlobals"
    else if n == 88 then codes "SourceTooLong"
    else if n == 89 then codes "FutureNotMultiple"
    else []

-- where an object cannot be loaded
abbrev pub load_name : ℕ → List ℕ
load_name n =
    if n == 90 then codes "PagesFull"
    else if n == 95 then codes "BadPlace"
    else if n == 96 then codes "NoFile"
    else []

-- where the register stack refuses
abbrev pub stack_name : ℕ → List ℕ
stack_name n =
    if n == 100 then codes "StackFull"
    else if n == 101 then codes "Underflow"
    else if n == 102 then codes "BadFrame"
    else []

-- where an instruction stops
abbrev pub stop_name : ℕ → List ℕ
stop_name n =
    if n == 110 then codes "Float"
    else if n == 111 then codes "Illegal"
    else if n == 112 then codes "Privileged"
    else if n == 113 then codes "Negative"
    else if n == 114 then codes "StackFull"
    else if n == 115 then codes "Underflow"
    else if n == 116 then codes "BadFrame"
    else if n == 117 then codes "UnhandledTrip"
    else if n == 118 then codes "PagesFull"
    else if n == 120 then codes "ResumeInsert"
    else []

-- where a file trap stops
abbrev pub trap_name : ℕ → List ℕ
trap_name n =
    if n == 121 then codes "WideTrap"
    else if n == 122 then codes "TransferTooLarge"
    else if n == 123 then codes "TrapPagesFull"
    else if n == 124 then codes "UnknownTrap"
    else []

-- where no step can be taken back
abbrev pub back_name : ℕ → List ℕ
back_name n = if n == 140 then codes "NothingKept" else []

abbrev pub fault_name_of : ℕ → List ℕ
fault_name_of n =
    if nat_lt n 10 then line_name n
    else if nat_lt n 30 then expression_name n
    else if nat_lt n 39 then symbol_name n
    else if nat_lt n 60 then statement_name n
    else if nat_lt n 70 then object_name n
    else if nat_lt n 80 then trie_name n
    else if nat_lt n 90 then source_name n
    else if nat_lt n 100 then load_name n
    else if nat_lt n 110 then stack_name n
    else if nat_lt n 121 then stop_name n
    else if nat_lt n 130 then trap_name n
    else back_name n

abbrev pub usage_name_of : ℕ → List ℕ
usage_name_of n =
    if n == 1 then codes "NoCommand"
    else if n == 2 then codes "UnknownCommand"
    else if n == 3 then codes "UnknownOption"
    else if n == 4 then codes "MissingValue"
    else if n == 5 then codes "BadNumber"
    else if n == 6 then codes "BadRing"
    else if n == 7 then codes "MissingFile"
    else if n == 8 then codes "TooMany"
    else if n == 10 then codes "Conflict"
    else []
