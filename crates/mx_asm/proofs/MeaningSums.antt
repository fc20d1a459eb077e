-- The bytes that are placed and then joined by fix records are those that are placed with all targets known.
use Rattle.std.proofs.Common.{◌≡◌, ℕ, List, [], ◌∷◌, ◌++◌, fold, Bool, true, false, not, cond, refl, sym, ◌∙◌, ap, subst, bit_xor, Option, Some, None, Ok, append_assoc, ◌==◌, rules, arith}
use Rattle.mx_asm.proofs.Words.{cond_both, AllByRecursion, filter, xor_assoc, xor_zero_l, xor_zero_r, xor_comm, Decides-eqb, bytes_eq-Decides, Value, Pure, Reg, Awaited, Wait, same_awaited, NameTable, complete_form, value_of_name, with_symbol, waits_for, waits_for_others, value-inserted, not-some, Label, Name, Local, Placed, Known, Targets, no_targets, StatementTree, encoding, fix_bytes, fix_placements, from_place, placed, placed-append, Sight, outline, waits_in, is_local, next_local, pure_number, targets, with_label, known_after, sights_from, fixes, awaited_value, waiting_for, waiting_at, refusal_of, label_fault, statement_fault, first_fault}
use Rattle.mx_word.specs.declared.waits.Awaited.TheVariants as awaited
use Rattle.mx_names.specs.Names.{value_in as symbol_in}
use Rattle.mx_asm.specs.TwoPass.{value_in}
use Rattle.mx_asm.proofs.OpenWaits.{any_settles, open_waits, open-unlabelled, open-named, open-local, same-is, named-waits, local-waits}
use Rattle.mx_asm.proofs.OneStatement.{name-new, effect-symbols}
use Rattle.mx_asm.proofs.EndLaw.{both-none}
use Rattle.mx_asm.proofs.MeaningStates.{State}
use Rattle.mx_asm.proofs.MeaningBytes.{after_bytes}
use Rattle.mx_asm.proofs.MeaningStatements.{after_fixes, faultless}

-- ---- what references add

-- what references add at an address
abbrev pub added : Targets → List Wait → ℕ → ℕ
added t waits q = placed (fix_placements t waits) q

pub added-append : (t : Targets) (xs ys : List Wait) (q : ℕ) → added t (xs ++ ys) q ≡ bit_xor (added t xs q) (added t ys q)
added-append t xs ys q = ap (λ ps. placed ps q) (both xs) ∙ placed-append (fix_placements t xs) (fix_placements t ys) q
  where
    both : (xs : List Wait) → fix_placements t (xs ++ ys) ≡ fix_placements t xs ++ fix_placements t ys
    both [] = refl
    both (w ∷ waits) =
        ap (λ l. from_place w.at (fix_bytes w.kind w.at (t w.who)) ++ l) (both waits)
        ∙ sym (append_assoc (from_place w.at (fix_bytes w.kind w.at (t w.who))) (fix_placements t waits) (fix_placements t ys))

added-same : (t u : Targets) (waits : List Wait) (q : ℕ) → AllByRecursion (λ (w : Wait). t w.who ≡ u w.who) waits → added t waits q ≡ added u waits q
added-same t u waits q h = ap (λ ps. placed ps q) (same waits h)
  where
    same : (waits : List Wait) → AllByRecursion (λ (w : Wait). t w.who ≡ u w.who) waits → fix_placements t waits ≡ fix_placements u waits
    same [] h = refl
    same (w ∷ waits) h = λ i. from_place w.at (fix_bytes w.kind w.at (h.0 i)) ++ same waits h.1 i

every : (P : Wait → Type 0) (waits : List Wait) → ((w : Wait) → P w) → AllByRecursion P waits
every P [] h = tt
every P (w ∷ waits) h = (h w, every P waits h)

passing : (P : Wait → Type 0) (f : Wait → Bool) (waits : List Wait) → ((w : Wait) → f w ≡ true → P w) → AllByRecursion P (filter f waits)
passing P f [] h = tt
passing P f (w ∷ waits) h = cond_both (f w) _ _ (AllByRecursion P) (λ q. (h w q, (passing P f waits h))) (λ _. passing P f waits h)

-- one more among the first or the others
first-more : (x a b c : ℕ) → c ≡ bit_xor a b → bit_xor x c ≡ bit_xor (bit_xor x a) b
first-more x a b c h = ap (bit_xor x) h ∙ sym (xor_assoc x a b)

other-more : (x a b c : ℕ) → c ≡ bit_xor a b → bit_xor x c ≡ bit_xor a (bit_xor x b)
other-more x a b c h = first-more x a b c h ∙ ap (λ n. bit_xor n b) (xor_comm x a) ∙ xor_assoc a x b

added-split : (t : Targets) (who : Awaited) (waits : List Wait) (q : ℕ) → added t waits q ≡ bit_xor (added t (waits_for who waits) q) (added t (waits_for_others who waits) q)
added-split t who [] q = sym (xor_zero_r 0)
added-split t who (w ∷ waits) q = search (rules, placed-append, first-more, other-more, added-split t who waits q)

-- ---- names keep their values

symbol-kept : (names : NameTable) (form full : List ℕ) (value v : Value) → symbol_in form names.symbols ≡ None → symbol_in full names.symbols ≡ Some v → symbol_in full (with_symbol names form value).symbols ≡ Some v
symbol-kept names form full value v new h = search (rules, value-inserted, bytes_eq-Decides)

label-kept : (names : NameTable) (label : Option Label) (value : Option Value) (full : List ℕ) (v : Value) → label_fault names label ≡ None → symbol_in full names.symbols ≡ Some v →
    symbol_in full (with_label names label value).symbols ≡ Some v
label-kept names label value full v h1 h2 = search (rules, symbol-kept, not-some, name-new)

pub after-is : (k : Known) (st : StatementTree) (p : Placed) → encoding no_targets k st ≡ Ok p → (known_after k st).names.symbols ≡ (with_label k.names st.label p.label).symbols
unfolding known_after
after-is k st p e = search (rules, effect-symbols)

abbrev pub sight_at : Known → StatementTree → Sight
sight_at k st = record { known = k; statement = st }

pub symbol-at-end : (statements : List StatementTree) (k : Known) (earlier : List Sight) (full : List ℕ) (v : Value) → first_fault earlier (sights_from k statements) ≡ None → symbol_in full k.names.symbols ≡ Some v →
    symbol_in full (fold known_after k statements).names.symbols ≡ Some v
unfolding sights_from first_fault
symbol-at-end [] k earlier full v none h = h
symbol-at-end (st ∷ statements) k earlier full v none h =
    let t : Sight = sight_at k st in
    let parts = both-none (statement_fault earlier t) (first_fault (earlier ++ t ∷ []) (sights_from (known_after k st) statements)) none in
    let is = faultless earlier t parts.0 in
    symbol-at-end statements (known_after k st) (earlier ++ t ∷ []) full v parts.1
    (ap (symbol_in full) (after-is k st is.placed_as is.outlined) ∙ label-kept k.names st.label is.placed_as.label full v is.label h)

-- ---- one statement

-- what follows records, where these are the targets
pub fixes-placed : (s : State) (line : ℕ) (value : Value) (waits : List Wait) (t : Targets) (q : ℕ) → refusal_of (fixes line value waits) ≡ None → AllByRecursion (λ (w : Wait). t w.who ≡ pure_number (Some value)) waits →
    placed (after_fixes s value waits).placements q ≡ bit_xor (placed s.placements q) (added t waits q)
unfolding fixes
fixes-placed s line value [] t q none h = sym (xor_zero_r (placed s.placements q))
fixes-placed s line (Reg r) (w ∷ waits) t q none h = absurd (cc)
fixes-placed s line (Pure v) (w ∷ waits) t q none h = search (rules, placed-append, added-same)

pub bytes-placed : (s : State) (line start : ℕ) (bytes : List ℕ) (q : ℕ) → placed (after_bytes s line start bytes).placements q ≡ bit_xor (placed s.placements q) (placed (from_place start bytes) q)
bytes-placed s line start bytes q = grind (arith, xor_zero_r, placed-append)

-- what a statement settles, by the kind of its label: the references that waited for it had its value, and all others keep
-- theirs
pub record Settles (final : NameTable) (earlier later : List Sight) (t : Sight) (p : Placed) (q : ℕ) : Type 0 where
  pub by : Targets
  pub fixed : AllByRecursion (λ (w : Wait). by w.who ≡ pure_number (Some (awaited_value p.label))) (waiting_at earlier t)
  pub sums : bit_xor (added by (waiting_at earlier t) q) (added (targets final later) (open_waits (earlier ++ t ∷ [])) q)
      ≡ bit_xor (added (targets final (t ∷ later)) (open_waits earlier) q) (added (targets final later) p.waits q)

module _ (final : NameTable) (earlier later : List Sight) (t : Sight) (p : Placed) (q : ℕ) (is : outline t ≡ Ok p) where
  abbrev early : Targets
  early = targets final (t ∷ later)

  abbrev late : Targets
  late = targets final later

  -- a statement without a local label leaves the targets
  targets-same : (label : Option Label) → t.statement.label ≡ label → ((d : ℕ) → is_local d label ≡ false) → (who : Awaited) → late who ≡ early who
  unfolding next_local
  targets-same label e none who = search rules

  all-late : (label : Option Label) → t.statement.label ≡ label → ((d : ℕ) → is_local d label ≡ false) → (waits : List Wait) → added late waits q ≡ added early waits q
  all-late label e none waits = added-same late early waits q (every (λ (w : Wait). late w.who ≡ early w.who) waits (λ w. targets-same label e none w.who))

  pub unlabelled-settles : t.statement.label ≡ None → Settles final earlier later t p q
  unlabelled-settles e =
      let none : waiting_at earlier t ≡ [] = ap (waiting_for earlier t) e in
      record {
        by = late;
        fixed = subst (AllByRecursion (λ (w : Wait). late w.who ≡ pure_number (Some (awaited_value p.label)))) (sym none) tt;
        sums =
            ap (λ ws. bit_xor (added late ws q) (added late (open_waits (earlier ++ t ∷ [])) q)) none
            ∙ xor_zero_l (added late (open_waits (earlier ++ t ∷ [])) q)
            ∙ ap (λ ws. added late ws q) (open-unlabelled earlier t e ∙ ap (λ r. open_waits earlier ++ waits_in r) is)
            ∙ added-append late (open_waits earlier) p.waits q
            ∙ ap (λ n. bit_xor n (added late p.waits q)) (all-late None e (λ d. refl) (open_waits earlier));
      }

  pub named-settles : (text : List ℕ) → t.statement.label ≡ Some (Name text) → any_settles earlier (awaited.Name (complete_form t.known.names.prefix text)) ≡ false →
      value_of_name final (complete_form t.known.names.prefix text) ≡ Some (awaited_value p.label) → Settles final earlier later t p q
  named-settles text e new ends =
      let full : List ℕ = complete_form t.known.names.prefix text in
      let who : Awaited = awaited.Name full in
      let all : List Wait = open_waits earlier ++ p.waits in
      let waits : waiting_at earlier t ≡ waits_for who all =
      ap (waiting_for earlier t) e ∙ sym (named-waits full earlier t new) ∙ ap (λ r. waits_for who (open_waits earlier ++ waits_in r)) is in
      let open_is : open_waits (earlier ++ t ∷ []) ≡ waits_for_others who all = open-named earlier t text e ∙ ap (λ r. waits_for_others who (open_waits earlier ++ waits_in r)) is in
      record {
        by = late;
        fixed = subst (AllByRecursion (λ (w : Wait). late w.who ≡ pure_number (Some (awaited_value p.label)))) (sym waits)
            (passing (λ (w : Wait). late w.who ≡ pure_number (Some (awaited_value p.label))) (λ (w : Wait). same_awaited w.who who) all (λ w h. ap late (same-is w.who who h) ∙ ap pure_number ends));
        sums =
            (λ i. bit_xor (added late (waits i) q) (added late (open_is i) q))
            ∙ sym (added-split late who all q)
            ∙ added-append late (open_waits earlier) p.waits q
            ∙ ap (λ n. bit_xor n (added late p.waits q)) (all-late (Some (Name text)) e (λ d. refl) (open_waits earlier));
      }

  pub local-settles : (d : ℕ) (value : Value) → t.statement.label ≡ Some (Local d) → p.label ≡ Some value → Settles final earlier later t p q
  unfolding next_local
  local-settles d value e label =
      let who : Awaited = awaited.Local d in
      let before : List Wait = open_waits earlier in
      let waits : waiting_at earlier t ≡ waits_for who before = ap (waiting_for earlier t) e ∙ sym (local-waits d earlier) in
      let open_is : open_waits (earlier ++ t ∷ []) ≡ waits_for_others who before ++ p.waits = open-local earlier t d e ∙ ap (λ r. waits_for_others who before ++ waits_in r) is in
      let here : is_local d t.statement.label ≡ true = ap (is_local d) e ∙ (Decides-eqb d d).1 refl in
      let target : early who ≡ pure_number (Some (awaited_value p.label)) =
      ap (λ b. pure_number (cond b (value_in (outline t)) (next_local d later))) here ∙ ap (λ r. pure_number (value_in r)) is ∙ ap pure_number label ∙ ap (λ v. pure_number (Some (awaited_value v))) (sym label) in
      record {
        by = early;
        fixed = subst (AllByRecursion (λ (w : Wait). early w.who ≡ pure_number (Some (awaited_value p.label)))) (sym waits)
            (passing (λ (w : Wait). early w.who ≡ pure_number (Some (awaited_value p.label))) (λ (w : Wait). same_awaited w.who who) before (λ w h. ap early (same-is w.who who h) ∙ target));
        sums =
            (λ i. bit_xor (added early (waits i) q) (added late (open_is i) q))
            ∙ ap (bit_xor (added early (waits_for who before) q)) (added-append late (waits_for_others who before) p.waits q)
            ∙ sym (xor_assoc (added early (waits_for who before) q) (added late (waits_for_others who before) q) (added late p.waits q))
            ∙ ap (λ n. bit_xor (bit_xor (added early (waits_for who before) q) n) (added late p.waits q))
            (added-same late early (waits_for_others who before) q (passing (λ (w : Wait). late w.who ≡ early w.who) (λ (w : Wait). not (same_awaited w.who who)) before (λ w h. other w.who h)))
            ∙ ap (λ n. bit_xor n (added late p.waits q)) (sym (added-split early who before q));
      }
    where
      turned : (a b : ℕ) → not (a == b) ≡ true → (a == b) ≡ false
      turned a b h = by (a == b) h
        where
          by : (c : Bool) → not c ≡ true → c ≡ false
          by true h = absurd (cc)
          by false h = refl

      other : (other : Awaited) → not (same_awaited other (awaited.Local d)) ≡ true → late other ≡ early other
      other (awaited.Name full) h = refl
      other (awaited.Local b) h = sym (ap (λ c. pure_number (cond c (value_in (outline t)) (next_local b later))) (ap (is_local b) e ∙ turned b d h))
