-- Words that are texts, and those that are none.
use Rattle.std.proofs.Common.{◌≡◌, ℕ, List, [], Bool, true, false, cond, refl, sym, ◌∙◌, ap}
use Rattle.std.specs.Str.{IsUtf8, is_utf8}
use Rattle.std.proofs.lemmas.Str.{IsUtf8-from_is_utf8, is_utf8-from_IsUtf8}
use Rattle.face_explain.specs.Answers.{answer}
use Rattle.mx_hover.specs.Meanings as spec

pub told : (word text : List ℕ) → text ≡ word → IsUtf8 word → spec.text_of (answer text) ≡ spec.meaning word
told word text same is = ap (λ w. spec.text_of (answer w)) same ∙ sym (ap (λ b. cond b (spec.text_of (answer word)) []) (is_utf8-from_IsUtf8 word is))

no-text : (word : List ℕ) (b : Bool) → is_utf8 word ≡ b → ¬ IsUtf8 word → b ≡ false
no-text word true e none = absurd (none (IsUtf8-from_is_utf8 word e))
no-text word false e none = refl

pub untold : (word : List ℕ) → ¬ IsUtf8 word → [] ≡ spec.meaning word
untold word none = sym (ap (λ b. cond b (spec.text_of (answer word)) []) (no-text word (is_utf8 word) refl none))
