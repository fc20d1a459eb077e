-- The number, the name and the sentence of each kind of warnings: rules of this program.
use Rattle.std.specs.Prelude.{ℕ, List, codes}
use Rattle.mx_warn.specs.declared.warnings.Kind.{Kind}
use Rattle.mx_warn.specs.declared.warnings.Kind.TheVariants.{OperatorAfterBlank, BackslashInString, NoLabelBefore, PlacedTwice, GregOfZero, UnusedBase, DataAfterCode, OtherCase, LostReturn, TrapOperands, EndlessJump, FloatInstruction, NarrowLabel}

abbrev pub kind_number : Kind → ℕ
kind_number OperatorAfterBlank = 1
kind_number BackslashInString = 2
kind_number NoLabelBefore = 3
kind_number PlacedTwice = 4
kind_number GregOfZero = 5
kind_number UnusedBase = 6
kind_number DataAfterCode = 7
kind_number OtherCase = 8
kind_number LostReturn = 9
kind_number TrapOperands = 10
kind_number EndlessJump = 11
kind_number FloatInstruction = 12
kind_number NarrowLabel = 13

unfoldable pub kind_name : Kind → List ℕ
kind_name OperatorAfterBlank = codes "OperatorAfterBlank"
kind_name BackslashInString = codes "BackslashInString"
kind_name NoLabelBefore = codes "NoLabelBefore"
kind_name PlacedTwice = codes "PlacedTwice"
kind_name GregOfZero = codes "GregOfZero"
kind_name UnusedBase = codes "UnusedBase"
kind_name DataAfterCode = codes "DataAfterCode"
kind_name OtherCase = codes "OtherCase"
kind_name LostReturn = codes "LostReturn"
kind_name TrapOperands = codes "TrapOperands"
kind_name EndlessJump = codes "EndlessJump"
kind_name FloatInstruction = codes "FloatInstruction"
kind_name NarrowLabel = codes "NarrowLabel"

unfoldable pub kind_sentence : Kind → List ℕ
kind_sentence OperatorAfterBlank =
    codes "a blank ends the operands, so the rest of the line is a comment; write the operands without blanks"
kind_sentence BackslashInString =
    codes "a string has no escapes, so the backslash is a byte of it; write such a byte as a number, as in \"text\",10,0"
kind_sentence NoLabelBefore =
    codes "no such local label comes before, so this is 0; 1F means the next 1H, and for this line itself write JMP @"
kind_sentence PlacedTwice =
    codes "an earlier line placed some of these bytes, too, and memory gets the exclusive or; LOC leads elsewhere"
kind_sentence GregOfZero =
    codes "the register is 0, which is no base for data; GREG @ makes a base for those that follow"
kind_sentence UnusedBase =
    codes "nothing uses this register, neither by its name nor as a base; leave it out, or put it before the data that it is for"
kind_sentence DataAfterCode =
    codes "the machine goes on to the next tetra, where data are; TRAP 0,Halt,0 ends the program, and JMP leads around data"
kind_sentence OtherCase =
    codes "this label is never used, and a name that differs in the case of letters alone is not defined; write both alike"
kind_sentence LostReturn =
    codes "this may return to the wrong place: a call in the subroutine changed rJ; GET saves rJ before the call, and PUT restores it"
kind_sentence TrapOperands =
    codes "TRAP takes 0, a service and its handle, as in TRAP 0,Fputs,StdOut; by these operands it calls none, and the run stops"
kind_sentence EndlessJump =
    codes "this jumps to itself, so the run never gets past it; TRAP 0,Halt,0 ends the program"
kind_sentence FloatInstruction =
    codes "this machine has no floating-point numbers, so the run stops here; compute with whole numbers"
kind_sentence NarrowLabel =
    codes "this label has WYDEs or TETRAs, and an octa begins at a multiple of 8 and has 8 bytes; LDW and LDT load them, STW and STT store them"
