-- What is known after statements of bytes: symbols that a trie can tell, and registers whose values are octas.
use Rattle.std.proofs.Common.{◌≡◌, ℕ, Bool, true, false, cond, List, [], ◌∷◌, Option, None, Some, Ordering, bytes_eq, refl, sym, ◌∙◌, ap, ◌<◌, ◌^◌, Ok, rules, ◌≤◌, suc, ◌+◌, ◌++◌, length, fold, Result, subst, arith}
use Rattle.mx_asm.proofs.Words.{AllByRecursion, Symbol, Value, InByteOrder, Below, AreInOrder, in-order, in-byte-order, value_in, symbols_with, all-inserted, cond_both, AreBytes, bytes-append, Tree, is_complete, complete_form, Label, Effect, Placed, Known, Targets, StatementTree, encoding, IfSome, AreOctas, IsValue, IsNamed, NameFault, NameTable, IsFullName, with_symbol, not-some, length-inserted, Name, Local, HasRegisterNumber, IsSound, lowest_of, no_targets, symbol_form, sound-start, encoding-fine, IsEffect, Sight, with_label, with_effect, known_with, known_after, nothing_known, sights_from, name_fault, label_fault, statement_fault, first_fault, nat_tests, common_steps}
use Rattle.std.specs.Ordering.{nat_cmp, is_lt, is_eq, ordering_reverse}
use Rattle.std.specs.declared.cmp.Ordering.TheVariants.{Less, Equal, Greater}
use Rattle.std.specs.Cmp.Lexicographic.{slice_cmp}
use Rattle.std.proofs.lemmas.Cmp.{nat_list_cmp_total}
use Rattle.std.proofs.lemmas.Map.Text.{is_eq-slice_cmp}
use Rattle.mx_stmt.specs.declared.placed.Effect.TheVariants as effect
use Rattle.mx_asm.proofs.StatementForms.{answer-full, Comes, at_place, encoding-comes, encoding-prefixed}
use Rattle.mx_asm.proofs.OneStatement.{form-is, name-new}
use Rattle.mx_asm.proofs.ByteStatements.{HasBytes, IsOfBytes, all-octas, IfLabelOfBytes}
use Rattle.mx_asm.proofs.MeaningSteady.{KnowsWords, pure-low, one-word, words-there, words-start, encoding-words, words-kept, sound-kept}
use Rattle.std.specs.List.Sorted.{IsStrictlySortedBy}
use Rattle.mx_asm.proofs.EndLaw.{both-none}
use Rattle.mx_asm.proofs.MeaningStatements.{IsWord, faultless}

-- ---- symbols with one more: they stay in byte order, and what holds of each stays

-- what is below a name is below all that follow it
below-all : (a b : List ℕ) (more : List Symbol) → Below a b → AllByRecursion (λ (t : Symbol). Below b t.name) more → AllByRecursion (λ (t : Symbol). Below a t.name) more
below-all a b [] less h = tt
below-all a b (t ∷ more) less h = (nat_list_cmp_total.trans a b t.name less h.0, below-all a b more less h.1)

absent-rest : (b : Bool) (v : Value) (rest : Option Value) → cond b (Some v) rest ≡ None → (b ≡ false) × (rest ≡ None)
absent-rest b v rest h = search rules

order-inserted : (new : Symbol) (symbols : List Symbol) → value_in new.name symbols ≡ None → AreInOrder symbols → AreInOrder (symbols_with new symbols)
order-inserted new [] absent h = (tt, tt)
order-inserted new (s ∷ ss) absent h = by (slice_cmp nat_cmp new.name s.name) refl (order-inserted new ss other.1 h.1)
  where
    other : (bytes_eq new.name s.name ≡ false) × (value_in new.name ss ≡ None)
    other = absent-rest (bytes_eq new.name s.name) s.value (value_in new.name ss) absent

    by : (o : Ordering) → slice_cmp nat_cmp new.name s.name ≡ o → AreInOrder (symbols_with new ss) → AreInOrder (cond (is_lt o) (new ∷ s ∷ ss) (s ∷ symbols_with new ss))
    by Less e rest = ((e, below-all new.name s.name ss e h.0), h)
    by Equal e rest = absurd (let same : true ≡ false = sym (ap is_eq e) ∙ is_eq-slice_cmp new.name s.name ∙ other.0 in cc)
    by Greater e rest =
        let above : Below s.name new.name = nat_list_cmp_total.antisymm s.name new.name ∙ ap ordering_reverse e in
        (all-inserted (λ (t : Symbol). Below s.name t.name) new ss above h.0, rest)

pub byte-order-inserted : (new : Symbol) (symbols : List Symbol) → value_in new.name symbols ≡ None → InByteOrder symbols → InByteOrder (symbols_with new symbols)
byte-order-inserted new symbols absent h = in-byte-order (symbols_with new symbols) (order-inserted new symbols absent (in-order symbols h))

-- ---- the effects of statements of bytes: a prefix is bytes, and the value of a register is an octa

abbrev pub IsEffectOfBytes : Effect → Type 0
IsEffectOfBytes effect.Plain = Unit {0}
IsEffectOfBytes (effect.Prefix full) = AreBytes full
IsEffectOfBytes (effect.Greg reg value) = value < 2 ^ 64
IsEffectOfBytes (effect.Local reg) = Unit {0}

-- ---- complete names

pub form-bytes : (prefix text : List ℕ) → AreBytes prefix → AreBytes text → AreBytes (complete_form prefix text)
form-bytes prefix text h g = cond_both (is_complete text) _ _ AreBytes (λ _. g) (λ _. bytes-append prefix text h g)

-- ---- each operation

effect-of : (k : Known) (label : Option Label) (operands : List Tree) (p : Placed) → KnowsWords k → AreBytes k.names.prefix → AllByRecursion HasBytes operands → Comes k label operands p → IsEffectOfBytes p.effect
effect-of k label operands p h1 h2 h3 h4 = search (rules, form-is, answer-full, form-bytes, pure-low, one-word, all-octas)

pub encoding-effect : (t : Targets) (k : Known) (s : StatementTree) (p : Placed) → KnowsWords k → AreBytes k.names.prefix → IsOfBytes s → encoding t k s ≡ Ok p → IsEffectOfBytes p.effect
encoding-effect t k s p words prefix of is = effect-of (at_place k s) s.label s.operands p (words-there k s words) prefix of.operands (encoding-comes t k s p is)

-- ---- what is known after statements of bytes: symbols that a trie can tell, and registers whose values are octas

-- ---- names

-- Symbols that a trie can tell, with this many statements to come.
pub record AreTellable (left : ℕ) (names : NameTable) : Type 0 where
  pub prefix : IsFullName names.prefix
  pub bytes : AreBytes names.prefix
  pub order : InByteOrder names.symbols
  pub named : AllByRecursion IsNamed names.symbols
  pub room : length names.symbols + left < 2 ^ 32

value-is : (v : Value) → IsWord v → HasRegisterNumber v → IsValue v
value-is v h1 h2 = grind (arith, nat_tests)

-- the complete form of a label without a fault
label-full : (names : NameTable) (text : List ℕ) (r : Result (List ℕ) NameFault) → IsFullName names.prefix → symbol_form names text ≡ r → name_fault names r ≡ None → IsFullName (complete_form names.prefix text)
label-full names text r h1 h2 h3 = grind (arith, common_steps, nat_tests)

one-statement-less : (left : ℕ) (names : NameTable) → AreTellable (suc left) names → AreTellable left names
one-statement-less left names h = record { prefix = h.prefix; bytes = h.bytes; order = h.order; named = h.named; room = let room = h.room in omega (arith, room) }

symbol-tellable : (left : ℕ) (names : NameTable) (full : List ℕ) (v : Value) → IsFullName full → AreBytes full → IsValue v → value_in full names.symbols ≡ None → AreTellable (suc left) names → AreTellable left (with_symbol names full v)
symbol-tellable left names full v is are value new h = search (rules, length-inserted, byte-order-inserted, all-inserted)

label-tellable : (left : ℕ) (names : NameTable) (label : Option Label) (value : Option Value) → label_fault names label ≡ None → IfLabelOfBytes label → IfSome value IsWord → IfSome value HasRegisterNumber →
    AreTellable (suc left) names → AreTellable left (with_label names label value)
label-tellable left names (Some (Local d)) (Some v) none bytes word number h = grind (arith, nat_tests)
label-tellable left names (Some (Name text)) (Some v) none bytes word number h = search (rules, symbol-tellable, label-full, form-bytes, value-is, not-some, name-new)
label-tellable left names label value none bytes word number h = one-statement-less left names h

effect-tellable : (left : ℕ) (k : Known) (gregs : List ℕ) (e : Effect) → IsEffect gregs e → IsEffectOfBytes e → AreTellable left k.names → AreTellable left (with_effect k e).names
effect-tellable left k gregs e h1 h2 h3 = grind (arith, nat_tests)

-- ---- registers

effect-octas : (k : Known) (e : Effect) → IsEffectOfBytes e → AreOctas k.gregs → AreOctas (with_effect k e).gregs
effect-octas k e h1 h2 = grind (arith, common_steps, nat_tests)

-- ---- statements

-- What is known after statements of bytes, with this many statements to come.
pub record IsTellable (left : ℕ) (k : Known) : Type 0 where
  pub names : AreTellable left k.names
  pub gregs : AreOctas k.gregs
  pub sound : IsSound k
  pub words : KnowsWords k

tellable-start : (left : ℕ) → left < 2 ^ 32 → IsTellable left nothing_known
unfolding IsStrictlySortedBy
tellable-start left few = search (rules, sound-start, words-start)

pub few-registers : (gregs : List ℕ) → 32 ≤ lowest_of gregs → length gregs ≤ 223
few-registers gregs low = omega (arith, low)

tellable-kept : (left : ℕ) (k : Known) (s : StatementTree) (p : Placed) → IsOfBytes s → encoding no_targets k s ≡ Ok p → label_fault k.names s.label ≡ None → IsTellable (suc left) k → IsTellable left (known_after k s)
unfolding known_after
tellable-kept left k s p of e none h =
    let placed = encoding-prefixed no_targets k s p h.names.prefix (few-registers k.gregs h.sound.gregs) e in
    let effects = encoding-effect no_targets k s p h.words h.names.bytes of e in
    let words = encoding-words no_targets k s p h.words of.statement e in
    let fine = encoding-fine no_targets k s p h.sound e in
    let named : Known = record { names = with_label k.names s.label p.label; at = p.after; gregs = k.gregs } in
    record {
      names = subst (λ r. AreTellable left (known_with k s r).names) (sym e)
          (effect-tellable left named k.gregs p.effect placed.effect effects (label-tellable left k.names s.label p.label none of.label words.label fine.label h.names));
      gregs = subst (λ r. AreOctas (known_with k s r).gregs) (sym e) (effect-octas named p.effect effects h.gregs);
      sound = sound-kept k s p h.sound e none;
      words = words-kept k s p h.words of.statement e none;
    }

tellable-after : (statements : List StatementTree) (k : Known) (earlier : List Sight) → first_fault earlier (sights_from k statements) ≡ None → AllByRecursion IsOfBytes statements → IsTellable (length statements) k →
    IsTellable 0 (fold known_after k statements)
unfolding sights_from first_fault
tellable-after [] k earlier none of h = h
tellable-after (s ∷ later) k earlier none of h =
    let here : Sight = record { known = k; statement = s } in
    let parts = both-none (statement_fault earlier here) (first_fault (earlier ++ here ∷ []) (sights_from (known_after k s) later)) none in
    let is = faultless earlier here parts.0 in
    tellable-after later (known_after k s) (earlier ++ here ∷ []) parts.1 of.1 (tellable-kept (length later) k s is.placed_as of.0 is.outlined is.label h)

-- what is known at the end of fewer than 2^32 statements of bytes without a fault
pub tellable-end : (statements : List StatementTree) → first_fault [] (sights_from nothing_known statements) ≡ None → AllByRecursion IsOfBytes statements → length statements < 2 ^ 32 →
    IsTellable 0 (fold known_after nothing_known statements)
tellable-end statements none of few = tellable-after statements nothing_known [] none of (tellable-start (length statements) few)
