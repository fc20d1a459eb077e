-- The breaks and watches that are left.
use Rattle.std.proofs.Common.{◌≡◌, ◌≢◌, ◌<◌, ◌≤◌, ◌+◌, ℕ, Bool, true, false, cond, List, [], ◌∷◌, ◌++◌, length, get_or, drop, None, Some, arith, refl, sym, subst, ◌∙◌, ap, append_assoc, append-nil}
use Rattle.std.specs.List.{filter}
use Rattle.std.proofs.lemmas.List.{at_drop_all, at_drop_more}
use Rattle.mx_ask.specs.Places.{number_in}
use Rattle.mx_debug.specs.Sessions.{Debugged, KeepsStops}
use Rattle.mx_debug.specs.Words.{Deletes, LeavesAllBut, WhereSaid}

-- ---- by what follows the word

pub deletes-all : (old new : Debugged) (rest : List ℕ) → length rest ≡ 0 → new.breaks ≡ [] → new.watches ≡ [] → Deletes old rest new
deletes-all old new [] h b w = (b, w)
deletes-all old new (x ∷ xs) h b w = absurd (omega (arith, h))

pub deletes-one : (old new : Debugged) (rest : List ℕ) (n : ℕ) → length rest ≢ 0 → Some n ≡ number_in rest → LeavesAllBut n old new → Deletes old rest new
deletes-one old new [] n h s l = absurd (h refl)
deletes-one old new (x ∷ xs) n h s l = subst (λ o. WhereSaid o (λ k. LeavesAllBut k old new) (KeepsStops old new)) s l

pub deletes-none : (old new : Debugged) (rest : List ℕ) → length rest ≢ 0 → None ≡ number_in rest → KeepsStops old new → Deletes old rest new
deletes-none old new [] h s k = absurd (h refl)
deletes-none old new (x ∷ xs) h s k = subst (λ o. WhereSaid o (λ n. LeavesAllBut n old new) (KeepsStops old new)) s k

pub ruleset deleting = (deletes-all, deletes-one, deletes-none)

-- ---- one after another

module _ {A : Type 0} (p : A → Bool) where
  -- the first of what is left is kept, or is left out
  first-kept : (x : A) (xs left whole : List A) → p x ≡ true → whole ≡ left ++ filter p (x ∷ xs) → whole ≡ (left ++ x ∷ []) ++ filter p xs
  first-kept x xs left whole e h = h ∙ ap (λ (b : Bool). left ++ cond b (x ∷ filter p xs) (filter p xs)) e ∙ sym (append_assoc left (x ∷ []) (filter p xs))

  first-out : (x : A) (xs left whole : List A) → p x ≡ false → whole ≡ left ++ filter p (x ∷ xs) → whole ≡ left ++ filter p xs
  first-out x xs left whole e h = h ∙ ap (λ (b : Bool). left ++ cond b (x ∷ filter p xs) (filter p xs)) e

  pub kept-next : (xs : List A) (i : ℕ) (d : A) (left whole : List A) → i < length xs → p (get_or xs i d) ≡ true → whole ≡ left ++ filter p (drop i xs) →
      whole ≡ (left ++ get_or xs i d ∷ []) ++ filter p (drop (i + 1) xs)
  kept-next xs i d left whole inside e h = first-kept (get_or xs i d) (drop (i + 1) xs) left whole e (h ∙ at_drop_more (λ ys. left ++ filter p ys) xs i d inside)

  pub out-next : (xs : List A) (i : ℕ) (d : A) (left whole : List A) → i < length xs → p (get_or xs i d) ≡ false → whole ≡ left ++ filter p (drop i xs) →
      whole ≡ left ++ filter p (drop (i + 1) xs)
  out-next xs i d left whole inside e h = first-out (get_or xs i d) (drop (i + 1) xs) left whole e (h ∙ at_drop_more (λ ys. left ++ filter p ys) xs i d inside)

  pub kept-all : (xs : List A) (i : ℕ) (left whole : List A) → length xs ≤ i → whole ≡ left ++ filter p (drop i xs) → left ≡ whole
  kept-all xs i left whole end h = sym (h ∙ at_drop_all (λ ys. left ++ filter p ys) xs i end ∙ append-nil left)

pub ruleset keeping = (kept-next, out-next, kept-all)
