-- The lines of the source are read as the statements of the program.
use Rattle.std.proofs.Common.{◌≡◌, ℕ, zero, suc, ◌+◌, ◌*◌, ◌^◌, ◌<◌, ◌≤◌, Bool, true, false, List, [], ◌∷◌, ◌++◌, length, codes, map, Option, None, Some, Ok, refl, sym, ap, ◌∙◌, arith, subst, length-append, rules}
use Rattle.mx_gen.proofs.Words.{decimal, list_all, and_parts, nat_tests, is_name_byte, is_bad_local, Tree, number, name, ahead, reading, Op, Pseudo, Code, Set, Loc, Label, Name, Local, StatementTree, label_of, operation_with, entry_with, with_operation, source_entries, labelled-cut, line-cut, depth, increment, random, generated, stated, reg, block_name, procedure_name, closing_at, blocks_at, program}
use Rattle.std.proofs.lemmas.List.Folds.{list_all-append}
use Rattle.mx_ops.specs.Opcodes.{opcode_rows, opcode_names, pseudo_operations, chosen_operations, operations, operation_of}
use Rattle.mx_gen.proofs.Lines.{no_newline, IsClean, IsLine, IsNumbered, AreLines, text-entries}
use Rattle.mx_gen.proofs.Operands.{decimal-names, decimal-clean, short-digits, setl-read, incl-read, bod-read, loc-read, main-read, call-read, sum-read, set-read, trap-read, skip-read, get-read, less-read, again-read, more-read, put-read, pop-read}
use Rattle.mx_gen.proofs.Texts.{line_with, closing_lines, rest_lines, all_lines, generated-text}

-- ---- one line

name-plain : (b : ℕ) → is_name_byte b ≡ true → no_newline b ≡ true
name-plain b is = grind (arith, nat_tests)

all-plain : (P : ℕ → Bool) → ((b : ℕ) → P b ≡ true → no_newline b ≡ true) → (bs : List ℕ) → list_all P bs ≡ true → list_all no_newline bs ≡ true
all-plain P of [] all = refl
all-plain P of (b ∷ bs) all = let p = and_parts (P b) (list_all P bs) all in rw (of b p.0, all-plain P of bs p.1) refl

rest-plain : (op ops : List ℕ) → list_all is_name_byte op ≡ true → list_all no_newline ops ≡ true → list_all no_newline (32 ∷ (op ++ 32 ∷ ops)) ≡ true
rest-plain op ops names clean = grind (arith, list_all-append, all-plain, name-plain)

said-read : (line : ℕ) (label : Option Label) (op_name ops : List ℕ) (op : Op) (trees : List Tree) (labelled : Bool) → operation_with labelled (operation_of op_name) ≡ Ok op → reading ops ≡ Ok trees →
    entry_with line (with_operation (record { label = label; op = op_name; operands = ops }) line (operation_with labelled (operation_of op_name))) ≡ Ok (stated line label op trees)
said-read line label op_name ops op trees labelled is read = cc

-- a line without a label
unlabelled : (line : ℕ) (op_name ops : List ℕ) (op : Op) (trees : List Tree) → list_all is_name_byte op_name ≡ true → 0 < length op_name → IsClean ops →
    length op_name + length ops ≤ 38 → operation_with false (operation_of op_name) ≡ Ok op → reading ops ≡ Ok trees → IsLine (line_with [] op_name ops) (stated line None op trees)
unlabelled line op_name ops op trees names some others few is read = grind (arith, line-cut, rest-plain, length-append, said-read)

-- a line with a label
labelled : (line : ℕ) (label op_name ops : List ℕ) (as_label : Label) (op : Op) (trees : List Tree) → list_all is_name_byte label ≡ true → 0 < length label → is_bad_local label ≡ false → label_of label ≡ as_label →
    list_all is_name_byte op_name ≡ true → 0 < length op_name → IsClean ops →
    length label + length op_name + length ops ≤ 38 → operation_with true (operation_of op_name) ≡ Ok op → reading ops ≡ Ok trees → IsLine (line_with label op_name ops) (stated line (Some as_label) op trees)
labelled line label op_name ops as_label op trees labels by good label_is names some others few is read = search (rules, labelled-cut, length-append, said-read, list_all-append, all-plain, name-plain, rest-plain)

-- ---- the operations

-- what the names of the operations mean
record Named : Type 0 where
  loc-op : operation_of (codes "LOC") ≡ Some (Pseudo Loc)
  setl-op : operation_of (codes "SETL") ≡ Some (Code 0xe3)
  pushj-op : operation_of (codes "PUSHJ") ≡ Some (Code 0xf2)
  addu-op : operation_of (codes "ADDU") ≡ Some (Code 0x22)
  bod-op : operation_of (codes "BOD") ≡ Some (Code 0x46)
  incl-op : operation_of (codes "INCL") ≡ Some (Code 0xe7)
  set-op : operation_of (codes "SET") ≡ Some Set
  trap-op : operation_of (codes "TRAP") ≡ Some (Code 0)
  bz-op : operation_of (codes "BZ") ≡ Some (Code 0x42)
  get-op : operation_of (codes "GET") ≡ Some (Code 0xfe)
  subu-op : operation_of (codes "SUBU") ≡ Some (Code 0x26)
  put-op : operation_of (codes "PUT") ≡ Some (Code 0xf6)
  pop-op : operation_of (codes "POP") ≡ Some (Code 0xf8)

named : Named
unfolding operation_of operations pseudo_operations chosen_operations opcode_names opcode_rows
named = record { loc-op = refl; setl-op = refl; pushj-op = refl; addu-op = refl; bod-op = refl; incl-op = refl; set-op = refl; trap-op = refl; bz-op = refl; get-op = refl; subu-op = refl; put-op = refl; pop-op = refl }

-- ---- the lines

numbered : (row : ℕ) (line : List ℕ) (s : StatementTree) → s.line ≡ row → IsLine line s → IsNumbered row line s
numbered row line s is h = record { number_is = is; line_is = h }

moved : (m n : ℕ) (ls : List (List ℕ)) (ss : List StatementTree) → m ≡ n → AreLines m ls ss → AreLines n ls ss
moved m n ls ss is h = subst (λ k. AreLines k ls ss) is h

module _ (line : ℕ) where
  call-line : IsLine (line_with [] (codes "PUSHJ") (codes "$1,Rec")) (stated line None (Code 0xf2) (reg 1 ∷ name procedure_name ∷ []))
  call-line = unlabelled line (codes "PUSHJ") (codes "$1,Rec") (Code 0xf2) (reg 1 ∷ name procedure_name ∷ []) refl (omega arith) (refl, refl) (omega arith) (ap (operation_with false) named.pushj-op) call-read

  sum-line : IsLine (line_with [] (codes "ADDU") (codes "$0,$0,$1")) (stated line None (Code 0x22) (reg 0 ∷ reg 0 ∷ reg 1 ∷ []))
  sum-line = unlabelled line (codes "ADDU") (codes "$0,$0,$1") (Code 0x22) (reg 0 ∷ reg 0 ∷ reg 1 ∷ []) refl (omega arith) (refl, refl) (omega arith) (ap (operation_with false) named.addu-op) sum-read

  setl-line : (b deep : ℕ) → b < 2 ^ 16 → deep < 2 ^ 16 → IsLine (line_with (block_name b) (codes "SETL") (codes "$2," ++ decimal deep)) (stated line (Some (Name (block_name b))) (Code 0xe3) (reg 2 ∷ number deep ∷ []))
  setl-line b deep few low =
      labelled line (block_name b) (codes "SETL") (codes "$2," ++ decimal deep) (Name (block_name b)) (Code 0xe3) (reg 2 ∷ number deep ∷ [])
      (decimal-names b (omega (arith, few))) (omega arith) refl refl refl (omega arith) (decimal-clean deep (omega (arith, low)))
      (omega (arith, short-digits b few, short-digits deep low)) (ap (operation_with true) named.setl-op) (setl-read deep (omega (arith, low)))

  bod-line : (b : ℕ) → b < 2 ^ 16 → IsLine (line_with [] (codes "BOD") (codes "$0,B" ++ decimal b)) (stated line None (Code 0x46) (reg 0 ∷ name (block_name b) ∷ []))
  bod-line b few =
      unlabelled line (codes "BOD") (codes "$0,B" ++ decimal b) (Code 0x46) (reg 0 ∷ name (block_name b) ∷ []) refl (omega arith) (decimal-clean b (omega (arith, few)))
      (omega (arith, short-digits b few)) (ap (operation_with false) named.bod-op) (bod-read b (omega (arith, few)))

  incl-line : (more : ℕ) → more < 2 ^ 16 → IsLine (line_with [] (codes "INCL") (codes "$0," ++ decimal more)) (stated line None (Code 0xe7) (reg 0 ∷ number more ∷ []))
  incl-line more low =
      unlabelled line (codes "INCL") (codes "$0," ++ decimal more) (Code 0xe7) (reg 0 ∷ number more ∷ []) refl (omega arith) (decimal-clean more (omega (arith, low)))
      (omega (arith, short-digits more low)) (ap (operation_with false) named.incl-op) (incl-read more (omega (arith, low)))

  set-line : (b : ℕ) → b < 2 ^ 16 → IsLine (line_with (block_name b) (codes "SET") (codes "$255,$0")) (stated line (Some (Name (block_name b))) Set (reg 255 ∷ reg 0 ∷ []))
  set-line b few =
      labelled line (block_name b) (codes "SET") (codes "$255,$0") (Name (block_name b)) Set (reg 255 ∷ reg 0 ∷ [])
      (decimal-names b (omega (arith, few))) (omega arith) refl refl refl (omega arith) (refl, refl)
      (omega (arith, short-digits b few)) (ap (operation_with true) named.set-op) set-read

  trap-line : IsLine (line_with [] (codes "TRAP") (codes "0,Halt,0")) (stated line None (Code 0) (number 0 ∷ name (codes "Halt") ∷ number 0 ∷ []))
  trap-line = unlabelled line (codes "TRAP") (codes "0,Halt,0") (Code 0) (number 0 ∷ name (codes "Halt") ∷ number 0 ∷ []) refl (omega arith) (refl, refl) (omega arith) (ap (operation_with false) named.trap-op) trap-read

  skip-line : IsLine (line_with (codes "Rec") (codes "BZ") (codes "$0,1F")) (stated line (Some (Name procedure_name)) (Code 0x42) (reg 0 ∷ ahead 1 ∷ []))
  skip-line = labelled line (codes "Rec") (codes "BZ") (codes "$0,1F") (Name procedure_name) (Code 0x42) (reg 0 ∷ ahead 1 ∷ []) refl (omega arith) refl refl refl (omega arith) (refl, refl) (omega arith) (ap (operation_with true) named.bz-op) skip-read

  get-line : IsLine (line_with [] (codes "GET") (codes "$1,rJ")) (stated line None (Code 0xfe) (reg 1 ∷ name (codes "rJ") ∷ []))
  get-line = unlabelled line (codes "GET") (codes "$1,rJ") (Code 0xfe) (reg 1 ∷ name (codes "rJ") ∷ []) refl (omega arith) (refl, refl) (omega arith) (ap (operation_with false) named.get-op) get-read

  less-line : IsLine (line_with [] (codes "SUBU") (codes "$3,$0,1")) (stated line None (Code 0x26) (reg 3 ∷ reg 0 ∷ number 1 ∷ []))
  less-line = unlabelled line (codes "SUBU") (codes "$3,$0,1") (Code 0x26) (reg 3 ∷ reg 0 ∷ number 1 ∷ []) refl (omega arith) (refl, refl) (omega arith) (ap (operation_with false) named.subu-op) less-read

  again-line : IsLine (line_with [] (codes "PUSHJ") (codes "$2,Rec")) (stated line None (Code 0xf2) (reg 2 ∷ name procedure_name ∷ []))
  again-line = unlabelled line (codes "PUSHJ") (codes "$2,Rec") (Code 0xf2) (reg 2 ∷ name procedure_name ∷ []) refl (omega arith) (refl, refl) (omega arith) (ap (operation_with false) named.pushj-op) again-read

  more-line : IsLine (line_with [] (codes "ADDU") (codes "$0,$0,$2")) (stated line None (Code 0x22) (reg 0 ∷ reg 0 ∷ reg 2 ∷ []))
  more-line = unlabelled line (codes "ADDU") (codes "$0,$0,$2") (Code 0x22) (reg 0 ∷ reg 0 ∷ reg 2 ∷ []) refl (omega arith) (refl, refl) (omega arith) (ap (operation_with false) named.addu-op) more-read

  put-line : IsLine (line_with [] (codes "PUT") (codes "rJ,$1")) (stated line None (Code 0xf6) (name (codes "rJ") ∷ reg 1 ∷ []))
  put-line = unlabelled line (codes "PUT") (codes "rJ,$1") (Code 0xf6) (name (codes "rJ") ∷ reg 1 ∷ []) refl (omega arith) (refl, refl) (omega arith) (ap (operation_with false) named.put-op) put-read

  pop-line : IsLine (line_with [] (codes "POP") (codes "1,0")) (stated line None (Code 0xf8) (number 1 ∷ number 0 ∷ []))
  pop-line = unlabelled line (codes "POP") (codes "1,0") (Code 0xf8) (number 1 ∷ number 0 ∷ []) refl (omega arith) (refl, refl) (omega arith) (ap (operation_with false) named.pop-op) pop-read

  last-line : IsLine (line_with (codes "1H") (codes "POP") (codes "1,0")) (stated line (Some (Local 1)) (Code 0xf8) (number 1 ∷ number 0 ∷ []))
  last-line = labelled line (codes "1H") (codes "POP") (codes "1,0") (Local 1) (Code 0xf8) (number 1 ∷ number 0 ∷ []) refl (omega arith) refl refl refl (omega arith) (refl, refl) (omega arith) (ap (operation_with true) named.pop-op) pop-read

  loc-line : IsLine (line_with [] (codes "LOC") (codes "#100")) (stated line None (Pseudo Loc) (number 0x100 ∷ []))
  loc-line = unlabelled line (codes "LOC") (codes "#100") (Pseudo Loc) (number 0x100 ∷ []) refl (omega arith) (refl, refl) (omega arith) (ap (operation_with false) named.loc-op) loc-read

  main-line : IsLine (line_with (codes "Main") (codes "SETL") (codes "$0,0")) (stated line (Some (Name (codes "Main"))) (Code 0xe3) (reg 0 ∷ number 0 ∷ []))
  main-line = labelled line (codes "Main") (codes "SETL") (codes "$0,0") (Name (codes "Main")) (Code 0xe3) (reg 0 ∷ number 0 ∷ []) refl (omega arith) refl refl refl (omega arith) (refl, refl) (omega arith) (ap (operation_with true) named.setl-op) main-read

-- ---- all lines

closing-lines : (line b : ℕ) → b < 2 ^ 16 → AreLines line (closing_lines b) (closing_at line b)
closing-lines line b few = search (rules, trap-line, set-line, skip-line, get-line, less-line, again-line, more-line, put-line, pop-line, last-line)

-- the numbers that seem random
pub random-low : (i : ℕ) → random i < 2 ^ 64
unfolding random
random-low i = search rules

pub depth-low : (x : ℕ) → x < 2 ^ 64 → depth x < 2 ^ 16
depth-low x lt = omega (arith, lt)

pub increment-low : (x : ℕ) → increment x < 2 ^ 16
increment-low x = omega arith

rest-lines : (line b more : ℕ) → b + more ≤ 10000 → AreLines line (rest_lines b more) (blocks_at line b more)
unfolding rest_lines blocks_at
rest-lines line b zero few = closing-lines line (b + 1) (omega (arith, few))
rest-lines line b (suc more) few =
    let x = random (suc b) in
    let setl = numbered line _ _ refl (setl-line line (suc b) (depth x) (omega (arith, few)) (depth-low x (random-low (suc b)))) in
    let call = numbered (line + 1) _ _ refl (call-line (line + 1)) in
    let sum = numbered (line + 1 + 1) _ _ (omega arith) (sum-line (line + 2)) in
    let bod = numbered (line + 1 + 1 + 1) _ _ (omega arith) (bod-line (line + 3) (suc b + 1) (omega (arith, few))) in
    let incl = numbered (line + 1 + 1 + 1 + 1) _ _ (omega arith) (incl-line (line + 4) (increment x) (increment-low x)) in
    let rest = rest-lines (line + 5) (suc b) more (omega (arith, few)) in
    (setl, (call, (sum, (bod, (incl, moved (line + 5) (line + 1 + 1 + 1 + 1 + 1) _ _ (omega arith) rest)))))

rest-count : (b more : ℕ) → length (rest_lines b more) ≡ 5 * more + 10
unfolding rest_lines
rest-count b zero = refl
rest-count b (suc more) = let rest = rest-count (suc b) more in omega (arith, rest)

-- a source that is generated comes to these statements
pub generated-read : (n : ℕ) → n ≤ 10000 → source_entries (generated n) ≡ map Ok (program n)
generated-read n few =
    let count = rest-count 0 n in
    let are : AreLines 1 (all_lines n) (program n) =
    (numbered 1 _ _ refl (loc-line 1), (numbered 2 _ _ refl (main-line 2), rest-lines 3 0 n (omega (arith, few)))) in
    ap source_entries (sym (generated-text n)) ∙ text-entries (all_lines n) (program n) are (omega (arith, few, count))
