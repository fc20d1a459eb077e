-- What the fields of a statement say is one thing.
use Rattle.std.proofs.Common.{◌≡◌, ℕ, Bool, List, Option, is_some, Result, Ok, Err, refl, ap, rules}
use Rattle.mx_line.specs.declared.cutter.Cut.{Cut}
use Rattle.mx_line.specs.Spans.{part}
use Rattle.mx_stmt.proofs.Words.{ExprFault, IsFirst, Op, operation_of, StmtFault, OutOfMemory, fault_of, Answer, StatementTree, Fields, IsFault, IsRead, fields_of, operation_for, operation_with, IsOperation}
use Rattle.mx_expr.specs.declared.faults.ExprFault.TheVariants as expr

-- the operation of the fields, by the cut
pub operation-is : (text : List ℕ) (cut : Cut) (labelled : Bool) (name : List ℕ) (answer : Answer Op) → labelled ≡ is_some cut.label → name ≡ part text cut.op → answer ≡ operation_for labelled name → operation_for (is_some (fields_of text cut).label) (fields_of text cut).op ≡ answer
operation-is text cut labelled name answer some named is = search rules

-- a fault of the operation is the only one
pub operation-only : (fields : Fields) (first fault : StmtFault) → operation_for (is_some fields.label) fields.op ≡ Err first → IsFault fields fault → first ≡ fault
operation-only fields first fault is h = search rules

-- where the operation has none, a fault is the first one of the operand list
pub record OfOperands (fields : Fields) (fault : StmtFault) : Type 0 where
  pub list_fault : ExprFault
  pub first : IsFirst fields.operands list_fault
  pub is : fault ≡ fault_of list_fault

pub of-operands : (fields : Fields) (op : Op) (fault : StmtFault) → operation_for (is_some fields.label) fields.op ≡ Ok op → IsFault fields fault → OfOperands fields fault
of-operands fields op fault is h = search rules

pub same-parsed : (a b : StatementTree) → a.line ≡ b.line → a.label ≡ b.label → a.op ≡ b.op → a.operands ≡ b.operands → a ≡ b
same-parsed a b line label op operands = λ i. record { line = line i; label = label i; op = op i; operands = operands i }

-- out of memory in the operand list is out of memory in the statement
pub memory-of : {A : Type 0} (first : ExprFault) (answer : Result A ExprFault) → answer ≡ Err first → answer ≡ Err expr.OutOfMemory → fault_of first ≡ OutOfMemory
memory-of first answer is memory = let same : first ≡ expr.OutOfMemory = cc in ap fault_of same

pub same-first : {A : Type 0} (first other : ExprFault) (answer : Result A ExprFault) → answer ≡ Err first → answer ≡ Err other → fault_of first ≡ fault_of other
same-first first other answer is there = let same : first ≡ other = cc in ap fault_of same

-- the operation of a name
pub operation-named : (labelled : Bool) (name : List ℕ) (found : Option Op) (op : Op) → operation_of name ≡ found → operation_with labelled found ≡ Ok op → IsOperation op
operation-named labelled name found op is with = search rules

pub read-named : (fields : Fields) (line : ℕ) (s : StatementTree) → IsRead fields line s → IsOperation s.op
read-named fields line s read = operation-named (is_some fields.label) fields.op (operation_of fields.op) s.op refl read.op_is
