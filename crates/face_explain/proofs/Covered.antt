-- The whole table against the tables of the program and of MMIXAL, by computing.
use Rattle.std.proofs.Common.{◌≡◌, ◌≢◌, ℕ, zero, suc, Bool, true, false, ◌&&◌, ◌||◌, ◌<◌, ◌≤◌, List, [], ◌∷◌, Option, Some, inl, inr, cond, nat_lt, ◌==◌, bytes_eq, decimal, refl, sym, ap, ◌∙◌, arith, rules}
use Rattle.std.proofs.lemmas.Bool.{and_parts, eqb-true, cases_lt}
use Rattle.std.proofs.lemmas.Bool.Decides.{nat_tests}
use Rattle.std.proofs.lemmas.Slice.Eq.{bytes_eq-Decides}
use Rattle.std.proofs.lemmas.Map.Views.{any-filter_same}
use Rattle.std.specs.List.{list_any, list_all}
use Rattle.std.specs.Str.{str_eq_ignore_ascii_case, str_to_ascii_lowercase}
use Rattle.mx_ops.specs.Opcodes.{operation_of, operations, opcode_rows, opcode_names, pseudo_operations, chosen_operations}
use Rattle.mx_ops.specs.Predefined.{predefined_names, predefined_value, special_registers}
use Rattle.mx_ops.specs.Tables.{first_of}
use Rattle.mx_ops.specs.declared.op.Op.{Op}
use Rattle.mx_outcome.specs.Names.{fault_name_of, usage_name_of}
use Rattle.mx_outcome.specs.Status.{status_of}
use Rattle.mx_outcome.specs.declared.outcome.Outcome.{Outcome}
use Rattle.mx_outcome.specs.declared.outcome.Outcome.TheVariants as ends
use Rattle.mx_warn.specs.Kinds.{kind_name, kind_number}
use Rattle.mx_warn.specs.declared.warnings.Kind.{Kind as Odd}
use Rattle.mx_warn.specs.declared.warnings.Kind.TheVariants.{OperatorAfterBlank, BackslashInString, NoLabelBefore, PlacedTwice, GregOfZero, UnusedBase, DataAfterCode, OtherCase, LostReturn, TrapOperands, EndlessJump, FloatInstruction, NarrowLabel}
use Rattle.mx_explain.specs.declared.row.Topic.{Topic}
use Rattle.mx_explain.specs.declared.row.Topic.TheVariants.{Source, Object, Stop, Kind, Warning, Status, Inside, Operation, Unperformed, Symbol}
use Rattle.mx_explain.specs.Topics.{Row, number_of, name_of, topic_name}
use Rattle.mx_explain.specs.Facts.{value_of}
use Rattle.mx_explain.specs.Matching.{fits, is_number}
use Rattle.face_explain.specs.Tables.{table, sections}
use Rattle.mx_messages.specs.Parts.{line_rows, expression_rows, statement_rows, place_rows, source_rows, warning_rows, object_rows, trie_rows, loading_rows, stop_rows, trap_rows, kind_rows, status_rows, inside_rows}
use Rattle.mx_operations.specs.Parts.{arithmetic_rows, comparison_rows, bit_rows, byte_rows, wyde_rows, branch_rows, set_rows, load_rows, store_rows, hint_rows, jump_rows, system_rows, float_rows, more_float_rows}
use Rattle.mx_explain.specs.Parts.{pseudo_rows, register_rows, more_register_rows, event_rows, file_rows, service_rows, other_rows}
use Rattle.face_explain.specs.Known.{is_fault, is_kind, is_warning, is_status, is_its_own, is_operation, is_symbol, is_fault_topic, is_kind_topic, is_warning_topic, is_status_topic, is_operation_topic, is_symbol_topic, explains, is_known}

-- ---- a row is found by its number and by its name

same-text : (a b : List ℕ) → a ≡ b → bytes_eq a b ≡ true
same-text a b e = (bytes_eq-Decides a b).1 e

same-name : (a b : List ℕ) → a ≡ b → str_eq_ignore_ascii_case a b ≡ true
same-name a b e = same-text (str_to_ascii_lowercase a) (str_to_ascii_lowercase b) (ap str_to_ascii_lowercase e)

second : (a b : Bool) → b ≡ true → (a || b) ≡ true
second true b e = refl
second false b e = e

first : (a b : Bool) → a ≡ true → (a || b) ≡ true
first true b e = refl
first false b e = absurd (search rules)

pub by-name : (word : List ℕ) (row : Row) → word ≡ name_of row → fits word row ≡ true
unfolding fits
by-name word row e = second (is_number word (number_of row.topic)) _ (same-name word (name_of row) e)

by-number : (n : ℕ) (row : Row) → number_of row.topic ≡ Some n → fits (decimal n) row ≡ true
unfolding fits
by-number n row e = first (is_number (decimal n) (number_of row.topic)) _ (rw e (same-text (decimal n) (decimal n) refl))

fault-number : (n : ℕ) (topic : Topic) → is_fault_topic n topic ≡ true → number_of topic ≡ Some n
fault-number n (Source m) e = ap Some (eqb-true m n e)
fault-number n (Object m) e = ap Some (eqb-true m n e)
fault-number n (Stop m) e = ap Some (eqb-true m n e)
fault-number n (Inside m) e = ap Some (eqb-true m n e)
fault-number n other e = absurd (search rules)

fault-name : (n : ℕ) (topic : Topic) (given : List ℕ) → is_fault_topic n topic ≡ true → fault_name_of n ≡ topic_name topic given
fault-name n (Source m) given e = ap fault_name_of (sym (eqb-true m n e))
fault-name n (Object m) given e = ap fault_name_of (sym (eqb-true m n e))
fault-name n (Stop m) given e = ap fault_name_of (sym (eqb-true m n e))
fault-name n (Inside m) given e = ap fault_name_of (sym (eqb-true m n e))
fault-name n other given e = absurd (search rules)

kind-number : (n : ℕ) (topic : Topic) → is_kind_topic n topic ≡ true → number_of topic ≡ Some n
kind-number n (Kind m) e = ap Some (eqb-true m n e)
kind-number n other e = absurd (search rules)

kind-name : (n : ℕ) (topic : Topic) (given : List ℕ) → is_kind_topic n topic ≡ true → usage_name_of n ≡ topic_name topic given
kind-name n (Kind m) given e = ap usage_name_of (sym (eqb-true m n e))
kind-name n other given e = absurd (search rules)

warning-number : (n : ℕ) (topic : Topic) → is_warning_topic n topic ≡ true → number_of topic ≡ Some n
warning-number n (Warning m) e = ap Some (eqb-true m n e)
warning-number n other e = absurd (search rules)

warning-own : (n : ℕ) (topic : Topic) (given : List ℕ) → is_warning_topic n topic ≡ true → given ≡ topic_name topic given
warning-own n (Warning m) given e = refl
warning-own n other given e = absurd (search rules)

status-number : (n : ℕ) (topic : Topic) → is_status_topic n topic ≡ true → number_of topic ≡ Some n
status-number n (Status m) e = ap Some (eqb-true m n e)
status-number n other e = absurd (search rules)

warned-number : (k : Odd) (row : Row) → is_warning k row ≡ true → number_of row.topic ≡ Some (kind_number k)
warned-number k row e = warning-number (kind_number k) row.topic (and_parts (is_warning_topic (kind_number k) row.topic) (bytes_eq row.name (kind_name k)) e).0

warned-name : (k : Odd) (row : Row) → is_warning k row ≡ true → kind_name k ≡ name_of row
warned-name k row e =
    let both = and_parts (is_warning_topic (kind_number k) row.topic) (bytes_eq row.name (kind_name k)) e in
    sym ((bytes_eq-Decides row.name (kind_name k)).0 both.1) ∙ warning-own (kind_number k) row.topic row.name both.0

own-name : (topic : Topic) (given : List ℕ) → is_operation_topic topic ≡ true → given ≡ topic_name topic given
own-name Operation given e = refl
own-name Unperformed given e = refl
own-name other given e = absurd (search rules)

symbol-own : (topic : Topic) (given : List ℕ) → is_symbol_topic topic ≡ true → given ≡ topic_name topic given
symbol-own Symbol given e = refl
symbol-own other given e = absurd (search rules)

operation-name : (name : List ℕ) (row : Row) → is_operation name row ≡ true → name ≡ name_of row
operation-name name row e =
    let both = and_parts (is_operation_topic row.topic) (bytes_eq row.name name) e in
    sym ((bytes_eq-Decides row.name name).0 both.1) ∙ own-name row.topic row.name both.0

symbol-name : (name : List ℕ) (row : Row) → is_symbol name row ≡ true → name ≡ name_of row
symbol-name name row e =
    let both = and_parts (is_symbol_topic row.topic) (bytes_eq row.name name) e in
    sym ((bytes_eq-Decides row.name name).0 both.1) ∙ symbol-own row.topic row.name both.0

-- what the table has is found by a word that fits all rows of it
abbrev has : (Row → Bool) → Bool
has test = list_any test table

by : (word : List ℕ) (test : Row → Bool) → ((row : Row) → test row ≡ true → fits word row ≡ true) → list_any test table ≡ true → explains word test ≡ true
by word test fit there = any-filter_same test (fits word) true fit table ∙ there

-- ---- numbers that have a name

-- whether a test holds of all numbers below a bound
abbrev below : (ℕ → Bool) → ℕ → Bool
below p zero = true
below p (suc k) = p k && below p k

each-below : (p : ℕ → Bool) (k n : ℕ) → below p k ≡ true → n < k → p n ≡ true
each-below p zero n all less = absurd (omega (arith, less))
each-below p (suc k) n all less =
    elim (cases_lt n k) [
      | inl here ↦ each-below p k n (and_parts (p k) (below p k) all).1 here
      | inr there ↦ let same : n ≡ k = omega (arith, less, there) in rw same (and_parts (p k) (below p k) all).0
    ]

abbrev no_bytes : List ℕ → Bool
no_bytes [] = true
no_bytes (b ∷ bs) = false

-- a number has no name, or the table has a row on it
abbrev fault-covered : ℕ → Bool
fault-covered n = no_bytes (fault_name_of n) || has (is_fault n)

abbrev kind-covered : ℕ → Bool
kind-covered n = no_bytes (usage_name_of n) || has (is_kind n)

faults-below : below fault-covered 141 ≡ true
unfolding table sections line_rows expression_rows statement_rows place_rows source_rows warning_rows object_rows trie_rows loading_rows stop_rows trap_rows kind_rows status_rows inside_rows arithmetic_rows comparison_rows bit_rows byte_rows wyde_rows branch_rows set_rows load_rows store_rows hint_rows jump_rows system_rows float_rows more_float_rows pseudo_rows register_rows more_register_rows event_rows file_rows service_rows other_rows
faults-below = refl

kinds-below : below kind-covered 11 ≡ true
unfolding table sections line_rows expression_rows statement_rows place_rows source_rows warning_rows object_rows trie_rows loading_rows stop_rows trap_rows kind_rows status_rows inside_rows arithmetic_rows comparison_rows bit_rows byte_rows wyde_rows branch_rows set_rows load_rows store_rows hint_rows jump_rows system_rows float_rows more_float_rows pseudo_rows register_rows more_register_rows event_rows file_rows service_rows other_rows
kinds-below = refl

past : (n k : ℕ) → k ≤ n → nat_lt n k ≡ false
past n k most = grind (arith, nat_tests, most)

other : (n k : ℕ) → k < n → (n == k) ≡ false
other n k more = grind (arith, nat_tests, more)

no-fault : (n : ℕ) → 141 ≤ n → fault_name_of n ≡ []
no-fault n most =
    rw (past n 10 (omega (arith, most)), past n 30 (omega (arith, most)), past n 39 (omega (arith, most)), past n 60 (omega (arith, most)), past n 70 (omega (arith, most)), past n 80 (omega (arith, most)), past n 90 (omega (arith, most)), past n 100 (omega (arith, most)), past n 110 (omega (arith, most)), past n 121 (omega (arith, most)), past n 130 (omega (arith, most)), other n 140 (omega (arith, most))) refl

no-kind : (n : ℕ) → 11 ≤ n → usage_name_of n ≡ []
no-kind n most = grind (arith, nat_tests, most)

named : (name : List ℕ) (b : Bool) → name ≢ [] → (no_bytes name || b) ≡ true → b ≡ true
named [] b some e = absurd (some refl)
named (c ∷ cs) b some e = e

fault-there : (n : ℕ) → fault_name_of n ≢ [] → has (is_fault n) ≡ true
fault-there n some =
    elim (cases_lt n 141) [
      | inl here ↦ named (fault_name_of n) _ some (each-below fault-covered 141 n faults-below here)
      | inr there ↦ absurd (some (no-fault n there))
    ]

kind-there : (n : ℕ) → usage_name_of n ≢ [] → has (is_kind n) ≡ true
kind-there n some =
    elim (cases_lt n 11) [
      | inl here ↦ named (usage_name_of n) _ some (each-below kind-covered 11 n kinds-below here)
      | inr there ↦ absurd (some (no-kind n there))
    ]

-- ---- warnings and statuses

warning-there : (k : Odd) → has (is_warning k) ≡ true
unfolding table sections line_rows expression_rows statement_rows place_rows source_rows warning_rows object_rows trie_rows loading_rows stop_rows trap_rows kind_rows status_rows inside_rows arithmetic_rows comparison_rows bit_rows byte_rows wyde_rows branch_rows set_rows load_rows store_rows hint_rows jump_rows system_rows float_rows more_float_rows pseudo_rows register_rows more_register_rows event_rows file_rows service_rows other_rows kind_name
warning-there OperatorAfterBlank = refl
warning-there BackslashInString = refl
warning-there NoLabelBefore = refl
warning-there PlacedTwice = refl
warning-there GregOfZero = refl
warning-there UnusedBase = refl
warning-there DataAfterCode = refl
warning-there OtherCase = refl
warning-there LostReturn = refl
warning-there TrapOperands = refl
warning-there EndlessJump = refl
warning-there FloatInstruction = refl
warning-there NarrowLabel = refl

status-there : (o : Outcome) → is_its_own o ≡ false → has (is_status (status_of o)) ≡ true
unfolding table sections line_rows expression_rows statement_rows place_rows source_rows warning_rows object_rows trie_rows loading_rows stop_rows trap_rows kind_rows status_rows inside_rows arithmetic_rows comparison_rows bit_rows byte_rows wyde_rows branch_rows set_rows load_rows store_rows hint_rows jump_rows system_rows float_rows more_float_rows pseudo_rows register_rows more_register_rows event_rows file_rows service_rows other_rows
status-there (ends.Done b) e = absurd (search rules)
status-there ends.Quit e = refl
status-there (ends.Usage fault) e = refl
status-there (ends.Refused line fault from) e = refl
status-there (ends.BadObject place fault) e = refl
status-there (ends.BadSchedule place) e = refl
status-there ends.NoFile e = refl
status-there (ends.Stopped pc reason) e = refl
status-there ends.OutOfMemory e = refl
status-there ends.HostFault e = refl
status-there (ends.StepsSpent steps) e = refl
status-there ends.ConsoleLimit e = refl

-- ---- names of operations and symbols

listed-step : {A : Type 0} (p : List ℕ → Bool) (name given : List ℕ) (v : A) (rest : Option A) (b : Bool) → bytes_eq given name ≡ b → p given ≡ true → (v' : A) →
    (rest ≡ Some v' → p name ≡ true) → cond b (Some v) rest ≡ Some v' → p name ≡ true
listed-step p name given v rest true same good v' more e = rw (← (bytes_eq-Decides given name).0 same) good
listed-step p name given v rest false same good v' more e = more e

listed : {A : Type 0} (p : List ℕ → Bool) (name : List ℕ) (entries : List (List ℕ × A)) (v : A) → list_all (λ e. p e.0) entries ≡ true → first_of name entries ≡ Some v → p name ≡ true
listed p name [] v all e = absurd (search rules)
listed p name (entry ∷ entries) v all e =
    listed-step p name entry.0 entry.1 (first_of name entries) (bytes_eq entry.0 name) refl (and_parts (p entry.0) _ all).0 v (λ more. listed p name entries v (and_parts (p entry.0) _ all).1 more) e

operations-covered : list_all (λ (e : List ℕ × Op). has (is_operation e.0)) operations ≡ true
unfolding table sections line_rows expression_rows statement_rows place_rows source_rows warning_rows object_rows trie_rows loading_rows stop_rows trap_rows kind_rows status_rows inside_rows arithmetic_rows comparison_rows bit_rows byte_rows wyde_rows branch_rows set_rows load_rows store_rows hint_rows jump_rows system_rows float_rows more_float_rows pseudo_rows register_rows more_register_rows event_rows file_rows service_rows other_rows operations opcode_names opcode_rows pseudo_operations chosen_operations
operations-covered = refl

symbols-covered : list_all (λ (e : List ℕ × ℕ). has (is_symbol e.0)) predefined_names ≡ true
unfolding table sections line_rows expression_rows statement_rows place_rows source_rows warning_rows object_rows trie_rows loading_rows stop_rows trap_rows kind_rows status_rows inside_rows arithmetic_rows comparison_rows bit_rows byte_rows wyde_rows branch_rows set_rows load_rows store_rows hint_rows jump_rows system_rows float_rows more_float_rows pseudo_rows register_rows more_register_rows event_rows file_rows service_rows other_rows predefined_names special_registers
symbols-covered = refl

operation-there : (name : List ℕ) (op : Op) → operation_of name ≡ Some op → has (is_operation name) ≡ true
unfolding operation_of
operation-there name op e = listed (λ name. has (is_operation name)) name operations op operations-covered e

symbol-there : (name : List ℕ) (v : ℕ) → value_of name ≡ Some v → has (is_symbol name) ≡ true
unfolding predefined_value
symbol-there name v e = listed (λ name. has (is_symbol name)) name predefined_names v symbols-covered e

-- ---- the laws

pub faults-explained : (n : ℕ) → fault_name_of n ≢ [] → explains (decimal n) (is_fault n) ≡ true
faults-explained n some = by (decimal n) (is_fault n) (λ row e. by-number n row (fault-number n row.topic e)) (fault-there n some)

pub names-explained : (n : ℕ) → fault_name_of n ≢ [] → explains (fault_name_of n) (is_fault n) ≡ true
names-explained n some = by (fault_name_of n) (is_fault n) (λ row e. by-name (fault_name_of n) row (fault-name n row.topic row.name e)) (fault-there n some)

pub kinds-explained : (n : ℕ) → usage_name_of n ≢ [] → explains (decimal n) (is_kind n) ≡ true
kinds-explained n some = by (decimal n) (is_kind n) (λ row e. by-number n row (kind-number n row.topic e)) (kind-there n some)

pub kind-names-explained : (n : ℕ) → usage_name_of n ≢ [] → explains (usage_name_of n) (is_kind n) ≡ true
kind-names-explained n some = by (usage_name_of n) (is_kind n) (λ row e. by-name (usage_name_of n) row (kind-name n row.topic row.name e)) (kind-there n some)

pub warnings-explained : (k : Odd) → explains (decimal (kind_number k)) (is_warning k) ≡ true
warnings-explained k = by (decimal (kind_number k)) (is_warning k) (λ row e. by-number (kind_number k) row (warned-number k row e)) (warning-there k)

pub warning-names-explained : (k : Odd) → explains (kind_name k) (is_warning k) ≡ true
warning-names-explained k = by (kind_name k) (is_warning k) (λ row e. by-name (kind_name k) row (warned-name k row e)) (warning-there k)

pub statuses-explained : (o : Outcome) → is_its_own o ≡ false → explains (decimal (status_of o)) (is_status (status_of o)) ≡ true
statuses-explained o own =
    by (decimal (status_of o)) (is_status (status_of o)) (λ row e. by-number (status_of o) row (status-number (status_of o) row.topic e)) (status-there o own)

pub operations-explained : (name : List ℕ) (op : Op) → operation_of name ≡ Some op → explains name (is_operation name) ≡ true
operations-explained name op e = by name (is_operation name) (λ row at. by-name name row (operation-name name row at)) (operation-there name op e)

pub symbols-explained : (name : List ℕ) (v : ℕ) → value_of name ≡ Some v → explains name (is_symbol name) ≡ true
symbols-explained name v e = by name (is_symbol name) (λ row at. by-name name row (symbol-name name row at)) (symbol-there name v e)

pub all-known : list_all is_known table ≡ true
unfolding table sections line_rows expression_rows statement_rows place_rows source_rows warning_rows object_rows trie_rows loading_rows stop_rows trap_rows kind_rows status_rows inside_rows arithmetic_rows comparison_rows bit_rows byte_rows wyde_rows branch_rows set_rows load_rows store_rows hint_rows jump_rows system_rows float_rows more_float_rows pseudo_rows register_rows more_register_rows event_rows file_rows service_rows other_rows operation_of operations opcode_names opcode_rows pseudo_operations chosen_operations predefined_value predefined_names special_registers kind_name
all-known = refl

pub ruleset rows = (all-known)
