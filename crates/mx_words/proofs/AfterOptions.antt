-- The words after a file.
use Rattle.std.proofs.Common.{◌≡◌, ℕ, ◌+◌, ◌≤◌, ◌<◌, List, [], ◌∷◌, map, length, drop, refl, sym, ap, arith, Ok, Err, ◌⊎◌, inl, inr}
use Rattle.std.proofs.lemmas.List.{length-drop, length-map}
use Rattle.mx_words.specs.Values.{Word}
use Rattle.mx_words.specs.Orders.{fault, asm_order, multi_order, run_order, object_after, processors_after, none_after}
use Rattle.mx_words.specs.Files.{after_options}
use Rattle.mx_words.specs.declared.order.Command.{Command}
use Rattle.mx_words.specs.declared.order.Order.{Order}
use Rattle.mx_words.specs.declared.order.Command.TheVariants.{Run, Sim, Asm, Show, Multi}
use Rattle.mx_words.specs.declared.settings.Settings.{Settings}
use Rattle.mx_words.proofs.Chosen.{after-word}
use Rattle.mx_words.proofs.Places.{word-at, no-word}

one-object : (s : Settings) (p : ℕ) (ws : List Word) → length ws ≡ 1 → object_after s p ws ≡ Ok (asm_order s p)
one-object s p [] is = absurd (omega arith)
one-object s p (w ∷ []) is = refl
one-object s p (w ∷ v ∷ ws) is = absurd (omega arith)

two-words : (s : Settings) (p : ℕ) (ws : List Word) → 2 ≤ length ws → object_after s p ws ≡ Err (fault 8 (p + 2))
two-words s p [] lt = absurd (omega arith)
two-words s p (w ∷ []) lt = absurd (omega arith)
two-words s p (w ∷ v ∷ ws) lt = refl

one-program : (s : Settings) (p : ℕ) (ws : List Word) → length ws ≡ 1 → processors_after s p ws ≡ Ok (multi_order s p)
one-program s p [] is = absurd (omega arith)
one-program s p (w ∷ []) is = refl
one-program s p (w ∷ v ∷ ws) is = absurd (omega arith)

two-programs : (s : Settings) (p : ℕ) (ws : List Word) → 2 ≤ length ws → processors_after s p ws ≡ Err (fault 8 (p + 2))
two-programs s p [] lt = absurd (omega arith)
two-programs s p (w ∷ []) lt = absurd (omega arith)
two-programs s p (w ∷ v ∷ ws) lt = refl

some-word : (o : Order) (p : ℕ) (ws : List Word) → 1 ≤ length ws → none_after o p ws ≡ Err (fault 8 (p + 1))
some-word o p [] lt = absurd (omega arith)
some-word o p (w ∷ ws) lt = refl

module _ {A : Type 0} (f : A → Word) where
  left : (xs : List A) (i : ℕ) → i ≤ length xs → length (drop i (map f xs)) + i ≡ length xs
  left xs i lt = omega (arith, lt, length-drop i (map f xs), length-map xs f)

  pub object-alone : (s : Settings) (p : ℕ) (xs : List A) → length xs ≡ p + 2 → Ok (asm_order s p) ≡ object_after s p (drop (p + 1) (map f xs))
  object-alone s p xs is = sym (one-object s p _ (omega (arith, is, left xs (p + 1) (omega arith))))

  pub object-followed : (s : Settings) (p : ℕ) (xs : List A) → p + 2 < length xs → Err (fault 8 (p + 2)) ≡ object_after s p (drop (p + 1) (map f xs))
  object-followed s p xs lt = sym (two-words s p _ (omega (arith, lt, left xs (p + 1) (omega arith))))

  pub program-alone : (s : Settings) (p : ℕ) (xs : List A) → length xs ≡ p + 2 → Ok (multi_order s p) ≡ processors_after s p (drop (p + 1) (map f xs))
  program-alone s p xs is = sym (one-program s p _ (omega (arith, is, left xs (p + 1) (omega arith))))

  pub program-followed : (s : Settings) (p : ℕ) (xs : List A) → p + 2 < length xs → Err (fault 8 (p + 2)) ≡ processors_after s p (drop (p + 1) (map f xs))
  program-followed s p xs lt = sym (two-programs s p _ (omega (arith, lt, left xs (p + 1) (omega arith))))

  pub one-followed : (o : Order) (p : ℕ) (xs : List A) → p + 1 < length xs → Err (fault 8 (p + 1)) ≡ none_after o p (drop (p + 1) (map f xs))
  one-followed o p xs lt = sym (some-word o p _ (omega (arith, lt, left xs (p + 1) (omega arith))))

  -- the file of a command at a place
  pub after-asm : (s : Settings) (p : ℕ) (xs : List A) → p < length xs → object_after s p (drop (p + 1) (map f xs)) ≡ after_options Asm s p (drop p (map f xs))
  after-asm s p xs lt = first (drop p (map f xs)) refl
    where
      first : (ws : List Word) → drop p (map f xs) ≡ ws → object_after s p (drop (p + 1) (map f xs)) ≡ after_options Asm s p ws
      first [] is = absurd (omega (arith, lt, left xs p (omega arith), ap length is))
      first (w ∷ ws) is = ap (object_after s p) (after-word (map f xs) p w ws is)

  pub after-multi : (s : Settings) (p : ℕ) (xs : List A) → p < length xs →
      processors_after s p (drop (p + 1) (map f xs)) ≡ after_options Multi s p (drop p (map f xs))
  after-multi s p xs lt = first (drop p (map f xs)) refl
    where
      first : (ws : List Word) → drop p (map f xs) ≡ ws → processors_after s p (drop (p + 1) (map f xs)) ≡ after_options Multi s p ws
      first [] is = absurd (omega (arith, lt, left xs p (omega arith), ap length is))
      first (w ∷ ws) is = ap (processors_after s p) (after-word (map f xs) p w ws is)

  pub after-show : (s : Settings) (p : ℕ) (xs : List A) → p < length xs →
      none_after (run_order Show s p) p (drop (p + 1) (map f xs)) ≡ after_options Show s p (drop p (map f xs))
  after-show s p xs lt = first (drop p (map f xs)) refl
    where
      first : (ws : List Word) → drop p (map f xs) ≡ ws → none_after (run_order Show s p) p (drop (p + 1) (map f xs)) ≡ after_options Show s p ws
      first [] is = absurd (omega (arith, lt, left xs p (omega arith), ap length is))
      first (w ∷ ws) is = ap (none_after (run_order Show s p) p) (after-word (map f xs) p w ws is)

  pub after-run : (c : Command) (s : Settings) (p : ℕ) (xs : List A) → (c ≡ Run) ⊎ (c ≡ Sim) → p < length xs → Ok (run_order c s p) ≡ after_options c s p (drop p (map f xs))
  after-run c s p xs is lt = first (drop p (map f xs)) refl is
    where
      first : (ws : List Word) → drop p (map f xs) ≡ ws → (c ≡ Run) ⊎ (c ≡ Sim) → Ok (run_order c s p) ≡ after_options c s p ws
      first [] none is = absurd (omega (arith, lt, left xs p (omega arith), ap length none))
      first (w ∷ ws) some (inl is) = rw is refl
      first (w ∷ ws) some (inr is) = rw is refl

pub ruleset following_words = (word-at, no-word, object-alone, object-followed, program-alone, program-followed, one-followed, after-asm, after-run, after-show, after-multi)
