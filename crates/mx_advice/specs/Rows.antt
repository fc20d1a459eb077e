-- What is said of a fault: what is wrong, with the text that is marked, and how to fix it. Other numbers have no sentence.
use Rattle.std.specs.Prelude.{ℕ, List, [], nat_lt, ◌==◌, codes, if◌then◌else◌}
use Rattle.mx_advice.specs.declared.rows.Row.{Row as Coded}

-- A sentence is what comes before the marked text, this text, and what comes after it; the noun takes the place of a text that is not
-- known. Where nothing comes after it, the noun is the whole. And a sentence on how to fix it.
pub record Row : Type 0 where
  pub before : List ℕ
  pub noun : List ℕ
  pub after : List ℕ
  pub help : List ℕ

abbrev pub row : List ℕ → List ℕ → List ℕ → List ℕ → Row
row before noun after help = record { before = before; noun = noun; after = after; help = help }

-- a row of the code as such a row
abbrev pub shown : Coded → Row
shown r = row r.before.now r.noun.now r.after.now r.help.now

abbrev pub no_row : Row
no_row = row [] [] [] []

-- where a line cannot be cut
unfoldable pub line_row : ℕ → Row
line_row n =
    if n == 1 then row [] (codes "The line has more than 4096 bytes.") [] (codes "Split it into several lines.")
    else if n == 2 then row (codes "The label ") (codes "of this statement") (codes " is followed by a character that is no blank.") (codes "A label has letters, digits, : and _. A statement without a label begins with a blank.")
    else if n == 3 then row [] (codes "The label") (codes " begins with a digit, and is no local label.") (codes "Local labels are 0H to 9H. Other labels begin with a letter.")
    else if n == 4 then row (codes "The operation ") (codes "of this statement") (codes " is followed by a character that is no blank.") (codes "Put a blank after the operation, and one in front: in the first column it is read as a label.")
    else if n == 5 then row [] (codes "A string is not closed on its line.") [] (codes "Close it by a double quote. For a double quote in a text write #22 outside of the string.")
    else if n == 6 then row [] (codes "An apostrophe is not followed by one byte and an apostrophe.") [] (codes "Write a text of several characters in double quotes, and a character beyond ASCII, too: it has more than one byte.")
    else if n == 7 then row [] (codes "This word") (codes " is read as a label, and no operation follows it.") (codes "Put a blank in front of an operation. For a label alone write IS @ after it.")
    else no_row

-- where operands cannot be read or valued
unfoldable pub expression_row : ℕ → Row
expression_row n =
    if n == 10 then row [] (codes "A part of the operands") (codes " does not belong here: an expression has ended, or none can begin so.") (codes "Operands contain no blanks. A comma separates two operands, and an operator as + or * two numbers.")
    else if n == 11 then row [] (codes "A number is 2^64 or more.") [] (codes "Take a smaller number: the largest is #ffffffffffffffff.")
    else if n == 12 then row [] (codes "The right side of a division is 0.") [] (codes "Look at the value of the right side of / or %.")
    else if n == 13 then row [] (codes "The left side of // is not below the right side.") [] (codes "x//y makes a fraction below 1. Whole numbers are divided by /.")
    else if n == 14 then row [] (codes "A register is in an expression that takes only numbers.") [] (codes "Only + and - are for registers, as in $1+2.")
    else if n == 15 then row [] (codes "The assembler cannot add two registers.") [] (codes "Add them when the program runs, by ADD.")
    else if n == 16 then row [] (codes "The assembler cannot subtract a register from a number.") [] (codes "Subtract it when the program runs, by SUB or NEG.")
    else if n == 17 then row [] (codes "A name") (codes " has no value here: no earlier line defines it.") (codes "Look for a misspelling. Registers are written with $, as $0. A comment needs operands in front of it.")
    else if n == 18 then row [] (codes "More than 255 parentheses are open.") [] (codes "Give parts of the expression names by IS.")
    else if n == 19 then row [] (codes "A string has no characters.") [] (codes "For a text without bytes write 0.")
    else if n == 21 then row [] (codes "There is no such register: they are $0 to $255.") [] (codes "Take a lower number.")
    else no_row

-- where a label cannot be defined
unfoldable pub symbol_row : ℕ → Row
symbol_row n =
    if n == 30 then row [] (codes "The label") (codes " is defined already.") (codes "Take another name, or a local label as 2H, which can be defined again.")
    else if n == 31 then row [] (codes "The label") (codes " is a name that MMIXAL defines.") (codes "Take another name.")
    else if n == 33 then row [] (codes "A name has more than 1024 bytes with its prefix.") [] (codes "Take a shorter one.")
    else no_row

-- where a statement has no encoding
unfoldable pub statement_row : ℕ → Row
statement_row n =
    if n == 39 then row (codes "There is no operation ") (codes "of this name") (codes ".") (codes "Operations are in capitals. A line of comment begins with *, and a ; begins the next statement.")
    else if n == 40 then row [] (codes "The operation does not take these operands.") [] (codes "Count the operands: a blank ends them.")
    else if n == 41 then row [] (codes "A number is given where a register is wanted.") [] (codes "Registers are written with $, as $2.")
    else if n == 42 then row [] (codes "A register is given where a number is wanted.") [] (codes "Only the program that runs knows what a register holds.")
    else if n == 43 then row [] (codes "A number does not fit into its place.") [] (codes "Put a number above 255 into a register: by SET up to 65535, by SETML and INCL above, by NEG below 0.")
    else if n == 44 then row [] (codes "No GREG has this address or one up to 255 below it.") [] (codes "Write GREG @ right in front of the data, after their LOC, and once more for each further 256 bytes.")
    else if n == 45 then row [] (codes "The target is too far away.") [] (codes "Branch around a JMP, or put the address into a register and use GO.")
    else if n == 46 then row [] (codes "The distance to the target is no multiple of 4.") [] (codes "Align the target, as by a TETRA in front of it. For the address of data use LDA and a GREG @.")
    else if n == 47 then row [] (codes "GREG has no register left above $31.") [] (codes "Let addresses that lie near each other share a GREG.")
    else if n == 48 then row [] (codes "PREFIX and LOCAL take no label.") [] (codes "Leave the label out.")
    else if n == 49 then row [] (codes "A byte would be placed at #6000000000000000 or above.") [] (codes "The register stack is the machine's own. Place data below it, as at Data_Segment.")
    else no_row

-- where a source cannot be assembled
unfoldable pub source_row : ℕ → Row
source_row n =
    if n == 80 then row [] (codes "A name") (codes " is not defined.") (codes "Capitals and small letters differ. A colon is part of a name: Loop: is another label than Loop.")
    else if n == 81 then row [] (codes "A local label") (codes " refers to a local label further down, and there is none.") (codes "For the one further up write B in place of F, as 1B.")
    else if n == 82 then row [] (codes "There is no label Main, where a program starts.") [] (codes "Write Main in front of the first instruction, without a colon. Under a PREFIX it is :Main.")
    else if n == 83 then row [] (codes "Main is a register, but a program starts at the address Main.") [] (codes "Write Main in front of the first instruction, and take another name for the register.")
    else if n == 84 then row [] (codes "A label that is used here is made a register further down.") [] (codes "Define the register before this line.")
    else if n == 85 then row [] (codes "The label that is used here is too far away.") [] (codes "Branch around a JMP, or put the address into a register and use GO.")
    else if n == 86 then row [] (codes "The names need more than 65535 tetras in an object.") [] (codes "Use local labels.")
    else if n == 87 then row [] (codes "GREG took a register that LOCAL names.") [] (codes "Use fewer GREGs, or a lower register.")
    else if n == 88 then row [] (codes "The lines up to here have more than 4194304 bytes.") [] (codes "Cut comments, or make the data when the program runs.")
    else if n == 89 then row [] (codes "The distance to the label that is used here is no multiple of 4.") [] (codes "Align the label, as by a TETRA in front of it. For the address of data use LDA and a GREG @.")
    else if n == 90 then row [] (codes "The program places bytes on more than 65536 pages of 4096 bytes.") [] (codes "Place them closer to each other.")
    else no_row

-- where there is room for a byte
unfoldable pub byte_row : Row
byte_row = row [] (codes "A number") (codes " does not fit: a number can be 0 to 255 here.") (codes "Put it into a register first: by SET up to 65535, by NEG below 0.")

-- where parentheses do not match
unfoldable pub match_row : Row
match_row = row [] (codes "The parentheses do not match, or a string is a part of an expression.") [] (codes "Close each ( by a ). A string is an operand of its own, with commas around it.")

-- where operands end too early
unfoldable pub end_row : Row
end_row = row (codes "The operands end after ") (codes "their last part") (codes ", where more has to follow.") (codes "Operands contain no blanks: what follows a blank is a comment.")

-- where a name is defined in a later line only
unfoldable pub later_row : Row
later_row = row [] (codes "A name") (codes " is defined further down, but its value is needed here.") (codes "Define it before this line: data, with their GREG, go in front of the code.")

-- where there is room for a wyde
unfoldable pub wyde_row : Row
wyde_row = row [] (codes "A number") (codes " does not fit: a number can be 0 to 65535 here.") (codes "Take SETML $0,x>>16 and INCL $0,x&#ffff for a large x, and NEG for a negative one.")

-- where a TETRA has it
unfoldable pub tetra_row : Row
tetra_row = row [] (codes "A number") (codes " does not fit: a tetra is 0 to 4294967295.") (codes "Take OCTA, which has room for all numbers.")

-- where a BYTE has it
unfoldable pub data_byte_row : Row
data_byte_row = row [] (codes "A number") (codes " does not fit: a byte is 0 to 255.") (codes "Take WYDE, TETRA or OCTA.")

-- where a WYDE has it
unfoldable pub data_wyde_row : Row
data_wyde_row = row [] (codes "A number") (codes " does not fit: a wyde is 0 to 65535.") (codes "Take TETRA or OCTA.")

-- where LDA has the name of an instruction that is defined in a later line
unfoldable pub later_code_row : Row
later_code_row = row [] (codes "A name") (codes " is defined further down, but its value is needed here.") (codes "Define it before this line. LDA can give way to GETA, which does not need the value.")

-- where a label is not in the first column
unfoldable pub indented_row : Row
indented_row = row [] (codes "This word") (codes " is not in the first column, so it is read as an operation.") (codes "A label begins in the first column of its line.")

-- where a comment begins with ;
unfoldable pub remark_row : Row
remark_row = row (codes "There is no operation ") (codes "of this name") (codes ".") (codes "A ; begins the next statement. A comment after the operands needs no mark, and a line of comment begins with *.")

-- where a number below 0 is added or subtracted
unfoldable pub sum_row : Row
sum_row = row [] (codes "A number") (codes " does not fit: a number can be 0 to 255 here.") (codes "Take SUB in place of ADD, or ADD in place of SUB, and the number without its minus.")

-- where a label of data is given for a number
unfoldable pub address_row : Row
address_row = row [] (codes "A number") (codes " is an address, which has no room in an instruction.") []

-- where there is no such local label at all
unfoldable pub nowhere_row : Row
nowhere_row = row [] (codes "A local label") (codes " refers to a local label further down, and there is none.") (codes "Write its label in front of a later line, as 1H for 1F.")

-- where Main has a colon
unfoldable pub colon_row : Row
colon_row = row [] (codes "There is no label Main, where a program starts.") [] (codes "The label Main: has a colon: remove it.")

-- where a number has a point
unfoldable pub point_row : Row
point_row = row [] (codes "A part of the operands") (codes " does not belong here: a number has no point.") (codes "Only whole numbers can be written. Count in smaller units: 15 tenths for 1.5.")

-- where an operand is missing in front of a comma
unfoldable pub comma_row : Row
comma_row = row [] (codes "A comma") (codes " is not expected here: an operand is missing in front of it.") (codes "Write 0 for an operand that is not needed. Operands contain no blanks.")

-- where a hexadecimal number begins as in other languages
unfoldable pub hexadecimal_row : Row
hexadecimal_row = row [] (codes "A part of the operands") (codes " does not belong here: the number has ended in front of it.") (codes "A hexadecimal number begins with #: write #ff for 0xff.")

-- where an operand is the name of a local label
unfoldable pub ahead_row : Row
ahead_row = row [] (codes "A part of the operands") (codes " does not belong here: 2H is written only as a label.") (codes "An operand names the next label 2H by 2F, and the last one by 2B.")

-- where a string has ended
unfoldable pub quote_row : Row
quote_row = row [] (codes "A part of the operands") (codes " does not belong here: a string ends at its next double quote.") (codes "For a double quote in a text write #22 outside of the string, as in \"He said \",#22,\"hi\",#22.")

-- where a comment takes the place of operands
unfoldable pub comment_row : Row
comment_row = row [] (codes "A part of the operands") (codes " is read as an operand, and none can begin so.") (codes "Put an operand in front of a comment, as in SWYM 0 // nothing.")

-- where SET has room for a wyde
unfoldable pub set_row : Row
set_row = row [] (codes "A number") (codes " does not fit: a number can be 0 to 65535 here.") []

-- where GETA does not reach an address
unfoldable pub far_row : Row
far_row = row [] (codes "The target is too far away for GETA.") [] []

-- where a label is like Main
unfoldable pub other_main_row : Row
other_main_row = row [] (codes "There is no label Main, where a program starts.") [] []

-- where another machine has the operation, and this is what MMIX has
abbrev pub foreign_row : List ℕ → Row
foreign_row advice = row (codes "There is no operation ") (codes "of this name") (codes ".") advice

-- the sentence on a fault of this number
abbrev pub row_of : ℕ → Row
row_of n =
    if nat_lt n 10 then line_row n
    else if nat_lt n 30 then expression_row n
    else if nat_lt n 39 then symbol_row n
    else if nat_lt n 60 then statement_row n
    else source_row n
