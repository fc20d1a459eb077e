-- The values of operands and labels are octas, and what is known at the statements that are accepted is sound.
use Rattle.std.proofs.Common.{◌≡◌, ℕ, zero, suc, ◌+◌, ◌-◌, ◌*◌, ◌/◌, ◌^◌, ◌<◌, ◌≤◌, List, [], ◌∷◌, replicate, slice_set, slice_index_or, true, arith, refl, sym, subst, bit_and, nat_le, nat_lt, Option, None, Result, Ok, Err, rules, ◌++◌, Some}
use Rattle.std.specs.Prelude.{◌==◌}
use Rattle.mx_asm.proofs.Words.{IfSome, AllByRecursion, list_all, and_le_l, or_lt, xor_lt, mod_below, cond_both, eqb-false, leb-false, ltb-true, and_parts, Value, Pure, Tree, number, name, back, ahead, here, unary, binary, Valued, register, pure_value, binary_value, after_operand, after_both, of_symbol, value_of, special_registers, predefined_names, predefined_value, NameFault, start, pure_of, value_of_name, back_of, value-defined, not-some, Label, Effect, Placed, and_then, Known, Targets, no_targets, symbol_form, knowledge_of, answer_of, StatementTree, alignment, label_value, encoding, with_label, with_effect, known_with, known_after, awaited_value, label_fault, HasOctas, IsStatement, nat_tests, complete_form, Name, Local, IsPossible, HasRegisterNumber, IsSound, sound-start, sound-symbol, sound-local, sound-greg, encoding-fine, Refused, Sight, nothing_known, sights_from, sights_of, statement_fault, first_fault, accepted, accepted_with}
use Rattle.std.proofs.Math.Nat.{div-le_self, div-lt_iff_lt-mul}
use Rattle.mx_expr.specs.declared.tree.UnOp.{UnOp}
use Rattle.mx_expr.specs.declared.tree.BinOp.{BinOp}
use Rattle.mx_expr.specs.declared.tree.BinOp.TheVariants.{Div, Fraction, Rem, Left, Right, And, Or, Xor}
use Rattle.mx_ops.specs.Tables.{first_of}
use Rattle.mx_stmt.specs.Operands.{value_in as symbol_in, pure_number}
use Rattle.mx_asm.proofs.OneStatement.{name-new}
use Rattle.mx_asm.proofs.MeaningStatements.{IsWord, IsSteady, faultless}
use Rattle.mx_asm.proofs.StatementForms.{Comes, at_place, encoding-comes}
use Rattle.mx_asm.proofs.InTurn.{all-accepted}

-- ---- the values of operands, labels and `@` are octas

-- ---- values

abbrev pub HasWord : Valued → Type 0
HasWord (Err fault) = Unit {0}
HasWord (Ok v) = IsWord v

register-word : (n : ℕ) → HasWord (register n)
register-word n = cond_both (nat_le n 255) _ _ HasWord (λ _. tt) (λ _. tt)

less-of : (x y z : ℕ) → x ≤ y → y < z → x < z
less-of x y z l m = omega (arith, l, m)

pure-word : (op : BinOp) (x y : ℕ) → x < 2 ^ 64 → y < 2 ^ 64 → HasWord (pure_value op x y)
pure-word Div x y l m = cond_both (y == 0) _ _ HasWord (λ _. tt) (λ _. less-of (x / y) x (2 ^ 64) (div-le_self x y) l)
pure-word Fraction x y l m = cond_both (nat_le y x) _ _ HasWord (λ _. tt) (λ e. let less = leb-false y x e in (div-lt_iff_lt-mul (omega (arith, less))).1 (omega (arith, less)))
pure-word Rem x y l m = cond_both (y == 0) _ _ HasWord (λ _. tt) (λ e. let some = eqb-false y 0 e in let below = mod_below x y (omega (arith, some)) in omega (arith, below, m))
pure-word Left x y l m = cond_both (nat_lt y 64) _ _ (λ x. x < 2 ^ 64) (λ _. mod_below (x * 2 ^ y) (2 ^ 64) (omega arith)) (λ _. omega arith)
pure-word Right x y l m = cond_both (nat_lt y 64) _ _ (λ x. x < 2 ^ 64) (λ _. less-of (x / 2 ^ y) x (2 ^ 64) (div-le_self x (2 ^ y)) l) (λ _. omega arith)
pure-word And x y l m = less-of (bit_and x y) x (2 ^ 64) (and_le_l x y) l
pure-word Or x y l m = or_lt 64 x y l m
pure-word Xor x y l m = xor_lt 64 x y l m
pure-word op x y l m = omega arith

binary-word : (op : BinOp) (v w : Value) → IsWord v → IsWord w → HasWord (binary_value op v w)
binary-word op v w h1 h2 = search (rules, pure-word, register-word)

operand-word : (op : UnOp) (r : Valued) → HasWord r → HasWord (after_operand op r)
operand-word op r h = grind (arith, nat_tests)

both-word : (op : BinOp) (l r : Valued) → HasWord l → HasWord r → HasWord (after_both op l r)
both-word op l r h1 h2 = search (rules, binary-word)

-- ---- what is known

pub record KnowsWords (k : Known) : Type 0 where
  pub symbols : (full : List ℕ) → IfSome (value_of_name k.names full) IsWord
  pub backs : (d : ℕ) → IsWord (back_of k.names d)
  pub at : k.at < 2 ^ 64

symbol-word : (k : Known) (r : Result (List ℕ) NameFault) → KnowsWords k → HasWord (of_symbol (symbol_in k.names r))
symbol-word k r h = grind (arith, nat_tests)

pub value-word : (k : Known) (e : Tree) → KnowsWords k → HasOctas e → HasWord (value_of (knowledge_of k) e)
value-word k (number n) h is = is
value-word k (name text) h is = symbol-word k (symbol_form k.names text) h
value-word k (back d) h is = h.backs d
value-word k (ahead d) h is = tt
value-word k here h is = h.at
value-word k (unary op e) h is = operand-word op (value_of (knowledge_of k) e) (value-word k e h is)
value-word k (binary op l r) h is = both-word op (value_of (knowledge_of k) l) (value_of (knowledge_of k) r) (value-word k l h is.0) (value-word k r h is.1)

-- ---- the beginning

list-bound : (entries : List (List ℕ × ℕ)) (bare : List ℕ) → list_all (λ (e : List ℕ × ℕ). nat_lt e.1 (2 ^ 64)) entries ≡ true → IfSome (pure_of (first_of bare entries)) IsWord
list-bound [] bare h = tt
list-bound (e ∷ entries) bare h = grind (arith, cond_both, ltb-true, and_parts, list-bound entries bare)

names-bound : list_all (λ (e : List ℕ × ℕ). nat_lt e.1 (2 ^ 64)) predefined_names ≡ true
unfolding predefined_names special_registers
names-bound = refl

predefined-word : (bare : List ℕ) → IfSome (pure_of (predefined_value bare)) IsWord
unfolding predefined_value
predefined-word bare = search (rules, list-bound, names-bound)

zeros-word : (n d : ℕ) → IsWord (slice_index_or (replicate n (Pure 0)) d (Pure 0))
zeros-word (suc n) (suc d) = zeros-word n d
zeros-word n d = omega arith

pub words-start : KnowsWords (record { names = start; at = 0; gregs = [] })
words-start = record { symbols = λ full. predefined-word full; backs = λ d. zeros-word 10 d; at = omega arith }

-- ---- a statement

pub record HasWords (p : Placed) : Type 0 where
  pub label : IfSome p.label IsWord
  pub after : p.after < 2 ^ 64

label-word : (label : Option Label) (v : Value) → IsWord v → IfSome (label_value label v) IsWord
label-word label v h = grind (arith, nat_tests)

value-fits : (r : Valued) (v : Value) → HasWord r → answer_of r ≡ Ok v → IsWord v
value-fits r v h1 h2 = grind (arith, nat_tests)

pub pure-low : (r : Valued) (n : ℕ) → HasWord r → and_then (answer_of r) pure_number ≡ Ok n → n < 2 ^ 64
pure-low r n h1 h2 = grind (arith, nat_tests)

-- the one operand of a statement
pub one-word : (k : Known) (operands : List Tree) (e : Tree) → KnowsWords k → AllByRecursion HasOctas operands → operands ≡ e ∷ [] → HasWord (value_of (knowledge_of k) e)
one-word k operands e h are o = let one = subst (AllByRecursion HasOctas) o are in value-word k e h one.0

words-of : (k : Known) (label : Option Label) (operands : List Tree) (p : Placed) → KnowsWords k → AllByRecursion HasOctas operands → Comes k label operands p → HasWords p
words-of k label operands p h1 h2 h3 = search (rules, label-word, value-fits, one-word, pure-low)

-- what is known where a statement lies
pub words-there : (k : Known) (s : StatementTree) → KnowsWords k → KnowsWords (at_place k s)
words-there k s h = record { symbols = h.symbols; backs = h.backs; at = mod_below ((k.at + (alignment s.op - 1)) / alignment s.op * alignment s.op) (2 ^ 64) (omega arith) }

pub encoding-words : (t : Targets) (k : Known) (s : StatementTree) (p : Placed) → KnowsWords k → IsStatement s → encoding t k s ≡ Ok p → HasWords p
encoding-words t k s p h is e = words-of (at_place k s) s.label s.operands p (words-there k s h) is.operands (encoding-comes t k s p e)

pub awaited-word : (label : Option Value) → IfSome label IsWord → IsWord (awaited_value label)
awaited-word label h = grind (arith, nat_tests)

-- ---- after a statement

set-word : (values : List Value) (d e : ℕ) (v : Value) → IsWord v → IsWord (slice_index_or values e (Pure 0)) → IsWord (slice_index_or (slice_set values d v) e (Pure 0))
set-word (x ∷ values) zero zero v fits h = fits
set-word (x ∷ values) (suc d) (suc e) v fits h = set-word values d e v fits h
set-word values d e v fits h = h

label-words : (k : Known) (label : Option Label) (value : Option Value) (after : ℕ) → label_fault k.names label ≡ None → IfSome value IsWord → after < 2 ^ 64 → KnowsWords k →
    KnowsWords (record { names = with_label k.names label value; at = after; gregs = k.gregs })
label-words k label value after h1 h2 h3 h4 = grind (arith, nat_tests, set-word, not-some, name-new, value-defined)

effect-words : (k : Known) (e : Effect) → KnowsWords k → KnowsWords (with_effect k e)
effect-words k e h = grind (arith, nat_tests)

pub words-kept : (k : Known) (s : StatementTree) (p : Placed) → KnowsWords k → IsStatement s → encoding no_targets k s ≡ Ok p → label_fault k.names s.label ≡ None → KnowsWords (known_after k s)
unfolding known_after
words-kept k s p h is e none =
    let words = encoding-words no_targets k s p h is e in
    subst (λ r. KnowsWords (known_with k s r)) (sym e)
    (effect-words (record { names = with_label k.names s.label p.label; at = p.after; gregs = k.gregs }) p.effect (label-words k s.label p.label p.after none words.label words.after h))

-- ---- what is known at the statements that are accepted is sound, and their values are octas

-- the same at another place
sound-at : (k : Known) (at : ℕ) → IsSound k → IsSound (record k { at = at })
sound-at k at h = record { symbols = h.symbols; backs = h.backs; gregs = h.gregs }

sound-label : (k : Known) (label : Option Label) (value : Option Value) (at : ℕ) → label_fault k.names label ≡ None → IfSome value HasRegisterNumber → IsSound k →
    IsSound (record { names = with_label k.names label value; at = at; gregs = k.gregs })
sound-label k (Some (Name text)) (Some v) at none fits h =
    sound-at _ at (sound-symbol k (complete_form k.names.prefix text) v (not-some _ (name-new k.names text (symbol_form k.names text) refl none)) fits h)
sound-label k (Some (Local d)) (Some v) at none fits h = sound-at _ at (sound-local k d v fits h)
sound-label k label value at none fits h = sound-at k at h

sound-effect : (k : Known) (e : Effect) → IsPossible k.gregs e → IsSound k → IsSound (with_effect k e)
sound-effect k e h1 h2 = search (rules, sound-greg)

pub sound-kept : (k : Known) (s : StatementTree) (p : Placed) → IsSound k → encoding no_targets k s ≡ Ok p → label_fault k.names s.label ≡ None → IsSound (known_after k s)
unfolding known_after
sound-kept k s p h e none =
    let fine = encoding-fine no_targets k s p h e in
    subst (λ r. IsSound (known_with k s r)) (sym e)
    (sound-effect (record { names = with_label k.names s.label p.label; at = p.after; gregs = k.gregs }) p.effect fine.effect (sound-label k s.label p.label p.after none fine.label h))

-- ---- the statements that are accepted

pub steady-accepted : (statements : List StatementTree) (k : Known) (earlier : List Sight) → AllByRecursion IsStatement statements → IsSound k → KnowsWords k → AllByRecursion IsSteady (accepted earlier (sights_from k statements))
unfolding sights_from accepted
steady-accepted [] k earlier read sound words = tt
steady-accepted (st ∷ statements) k earlier read sound words =
    by (statement_fault earlier (record { known = k; statement = st })) refl
    (λ p e none. steady-accepted statements (known_after k st) (earlier ++ record { known = k; statement = st } ∷ []) read.1 (sound-kept k st p sound e none) (words-kept k st p words read.0 e none))
  where
    by : (r : Option Refused) → statement_fault earlier (record { known = k; statement = st }) ≡ r →
        ((p : Placed) → encoding no_targets k st ≡ Ok p → label_fault k.names st.label ≡ None → AllByRecursion IsSteady (accepted (earlier ++ record { known = k; statement = st } ∷ []) (sights_from (known_after k st) statements))) →
        AllByRecursion IsSteady (accepted_with r (record { known = k; statement = st }) (accepted (earlier ++ record { known = k; statement = st } ∷ []) (sights_from (known_after k st) statements)))
    by (Some refused) e rest = tt
    by None e rest =
        let is = faultless earlier (record { known = k; statement = st }) e in (
          record {
            line = read.0.line;
            operation = read.0.operation;
            sound = sound;
            word = λ p out. awaited-word p.label (encoding-words no_targets k st p words read.0 out).label;
          },
          rest is.placed_as is.outlined is.label,
        )

pub accepted-faultless : (later earlier : List Sight) → first_fault earlier (accepted earlier later) ≡ None
unfolding accepted first_fault
accepted-faultless [] earlier = refl
accepted-faultless (t ∷ later) earlier = search (rules, accepted-faultless later (earlier ++ t ∷ []))

pub steady-begun : (statements : List StatementTree) → AllByRecursion IsStatement statements → AllByRecursion IsSteady (accepted [] (sights_of statements))
steady-begun statements read = steady-accepted statements nothing_known [] read (sound-start 0) words-start

pub steady-all : (statements : List StatementTree) → AllByRecursion IsStatement statements → first_fault [] (sights_of statements) ≡ None → AllByRecursion IsSteady (sights_of statements)
steady-all statements read none = subst (AllByRecursion IsSteady) (all-accepted (sights_of statements) [] none) (steady-begun statements read)
