-- The records of references, one after another.
use Rattle.std.proofs.Common.{◌≡◌, ◌≢◌, Bool, true, false, refl, subst, rules, ◌<◌, ◌≤◌, ℕ, ◌+◌, List, [], ◌∷◌, ◌++◌, length, drop, get_or, Result, Ok, Err, ap, sym, ◌∙◌, append_assoc, append-nil, arith}
use Rattle.mx_asm.proofs.Words.{drop_more, drop_all, Value, Wait, Item, AsmFault, Refused, refused_from, fix_of, with_fix, fixes, onto, fix_items, nat_tests}
use Rattle.mx_asm.specs.Faults.{is_early, no_memory}

onto-both : (front : List Item) (fix : Item) (line from : ℕ) (later : Result (List Item) Refused) → onto front (with_fix line from (Ok fix) later) ≡ onto (front ++ fix ∷ []) later
onto-both front fix line from later = grind (arith, append_assoc)

module _ (line : ℕ) (value : Value) where
  fixes-here : (i : ℕ) (waits : List Wait) (w : Wait) → i < length waits → fixes line value (drop i waits) ≡ with_fix line (get_or waits i w).line (fix_of value (get_or waits i w)) (fixes line value (drop (i + 1) waits))
  unfolding fixes
  fixes-here i waits w within = ap (fixes line value) (drop_more waits i w within)

  pub fixes-failed : (front : List Item) (i : ℕ) (waits : List Wait) (w : Wait) (fault : AsmFault) → i < length waits → w ≡ get_or waits i w → Err fault ≡ fix_of value w →
      onto front (fixes line value (drop i waits)) ≡ Err (refused_from line fault w.line)
  fixes-failed front i waits w fault within is failed =
      ap (onto front) (fixes-here i waits w within
      ∙ ap (λ w. with_fix line w.line (fix_of value w) (fixes line value (drop (i + 1) waits))) (sym is)
      ∙ ap (λ r. with_fix line w.line r (fixes line value (drop (i + 1) waits))) (sym failed))

  pub fixes-more : (front next : List Item) (i : ℕ) (waits : List Wait) (w : Wait) (fix : Item) → i < length waits → w ≡ get_or waits i w → Ok fix ≡ fix_of value w → next ≡ front ++ fix ∷ [] →
      onto next (fixes line value (drop (i + 1) waits)) ≡ onto front (fixes line value (drop i waits))
  fixes-more front next i waits w fix within is found pushed =
      ap (λ items. onto items (fixes line value (drop (i + 1) waits))) pushed
      ∙ sym (onto-both front fix line w.line (fixes line value (drop (i + 1) waits)))
      ∙ sym (ap (onto front) (fixes-here i waits w within
      ∙ ap (λ w. with_fix line w.line (fix_of value w) (fixes line value (drop (i + 1) waits))) (sym is)
      ∙ ap (λ r. with_fix line w.line r (fixes line value (drop (i + 1) waits))) (sym found)))

  pub fixes-end : (front : List Item) (i : ℕ) (waits : List Wait) → length waits ≤ i → onto front (fixes line value (drop i waits)) ≡ Ok front
  unfolding fixes
  fixes-end front i waits past = ap (λ ws. onto front (fixes line value ws)) (drop_all i waits past) ∙ ap (λ items. Ok items) (append-nil front)

-- ---- what they are refused with is found late

unfoldable IsLate : Result (List Item) Refused → Type 0
IsLate (Ok items) = Unit {0}
IsLate (Err r) = is_early r.fault ≡ false

fixes-late : (line : ℕ) (value : Value) (waits : List Wait) → IsLate (fixes line value waits)
unfolding IsLate fixes
fixes-late line value [] = tt
fixes-late line value (wait ∷ waits) = grind (arith, nat_tests, fixes-late line value waits)

late-fixes : (lambda line : ℕ) (value : Value) (waits : List Wait) → IsLate (fix_items lambda line value waits)
unfolding IsLate
late-fixes lambda line value waits = grind (arith, nat_tests, fixes-late)

late-if : (r : Refused) (x : Result (List Item) Refused) (b : Bool) → is_early r.fault ≡ b → IsLate x → (◌≢◌ {A = Result (List Item) Refused} (Err r) (Err no_memory) → Err r ≡ x) → is_early r.fault ≡ false
unfolding IsLate
late-if r x false e late h = e
late-if r x true e late h = subst IsLate (sym (h (λ same. let one : r ≡ no_memory = cc in let no : is_early r.fault ≡ false = ap (λ (q : Refused). is_early q.fault) one in absurd (cc)))) late

pub fixes-are-late : (r : Refused) (lambda line : ℕ) (value : Value) (waits : List Wait) → (◌≢◌ {A = Result (List Item) Refused} (Err r) (Err no_memory) → Err r ≡ fix_items lambda line value waits) → is_early r.fault ≡ false
fixes-are-late r lambda line value waits h = late-if r (fix_items lambda line value waits) (is_early r.fault) refl (late-fixes lambda line value waits) h

pub ruleset fixing = (fixes-failed, fixes-more, fixes-end)
