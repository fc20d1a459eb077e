-- Options from the left, among the words of the code.
use Rattle.std.proofs.Common.{◌≡◌, ℕ, ◌+◌, ◌<◌, ◌≤◌, true, false, List, ◌∷◌, map, length, drop, get_or, sym, ◌∙◌, ap, Ok, Err}
use Rattle.mx_words.specs.Values.{Word, is_option}
use Rattle.mx_words.specs.Orders.{options_from}
use Rattle.mx_words.specs.OneOption.{option_at}
use Rattle.mx_words.specs.Files.{after_options}
use Rattle.mx_words.specs.declared.order.Command.{Command}
use Rattle.mx_words.specs.declared.order.WordsFault.{WordsFault}
use Rattle.mx_words.specs.declared.settings.Settings.{Settings}
use Rattle.mx_words.proofs.Places.{word-at, no-word}
use Rattle.mx_words.proofs.Chosen.{followed, option-followed, not-option, no-file}

module _ {A : Type 0} (f : A → Word) where
  -- an option at a place
  at-option : (c : Command) (s : Settings) (p : ℕ) (xs : List A) (w d : A) → p < length xs → w ≡ get_or xs p d → is_option (f w) ≡ true →
      options_from c s p (drop p (map f xs)) ≡ followed c (map f xs) (option_at c s p (drop p (map f xs)))
  at-option c s p xs w d lt here dash =
      let from : drop p (map f xs) ≡ f w ∷ drop (p + 1) (map f xs) = word-at f xs p d lt ∙ ap (λ v. f v ∷ drop (p + 1) (map f xs)) (sym here) in
      rw from (option-followed c (map f xs) s p (f w) (drop (p + 1) (map f xs)) from dash)

  pub option-read : (c : Command) (s t : Settings) (p q : ℕ) (xs : List A) (w d : A) → p < length xs → w ≡ get_or xs p d → is_option (f w) ≡ true →
      Ok (t, q) ≡ option_at c s p (drop p (map f xs)) → options_from c s p (drop p (map f xs)) ≡ options_from c t q (drop q (map f xs))
  option-read c s t p q xs w d lt here dash is = at-option c s p xs w d lt here dash ∙ ap (followed c (map f xs)) (sym is)

  pub option-refused : (c : Command) (s : Settings) (p : ℕ) (e : WordsFault) (xs : List A) (w d : A) → p < length xs → w ≡ get_or xs p d → is_option (f w) ≡ true →
      Err e ≡ option_at c s p (drop p (map f xs)) → options_from c s p (drop p (map f xs)) ≡ Err e
  option-refused c s p e xs w d lt here dash is = at-option c s p xs w d lt here dash ∙ ap (followed c (map f xs)) (sym is)

  -- no option at a place
  pub at-file : (c : Command) (s : Settings) (p : ℕ) (xs : List A) (w d : A) → p < length xs → w ≡ get_or xs p d → is_option (f w) ≡ false →
      options_from c s p (drop p (map f xs)) ≡ after_options c s p (drop p (map f xs))
  at-file c s p xs w d lt here dash =
      let from : drop p (map f xs) ≡ f w ∷ drop (p + 1) (map f xs) = word-at f xs p d lt ∙ ap (λ v. f v ∷ drop (p + 1) (map f xs)) (sym here) in
      rw from (not-option c s p (f w) (drop (p + 1) (map f xs)) dash)

  pub at-end : (c : Command) (s : Settings) (p : ℕ) (xs : List A) → length xs ≤ p →
      options_from c s p (drop p (map f xs)) ≡ after_options c s p (drop p (map f xs))
  at-end c s p xs le = rw (no-word f xs p le) (no-file c s p)

pub ruleset reading = (option-read, option-refused, at-file, at-end)
