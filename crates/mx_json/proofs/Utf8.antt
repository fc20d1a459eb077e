-- Whether bytes are UTF-8, as a test.
use Rattle.std.proofs.Common.{◌≡◌, ℕ, List, Bool, true, false, sym, refl}
use Rattle.std.specs.Str.{IsUtf8, is_utf8}
use Rattle.std.proofs.lemmas.Str.{IsUtf8-from_is_utf8, is_utf8-from_IsUtf8}

pub is-text : (bytes : List ℕ) → IsUtf8 bytes → true ≡ is_utf8 bytes
is-text bytes e = sym (is_utf8-from_IsUtf8 bytes e)

by-test : (t : Bool) → (t ≡ true → ⊥) → false ≡ t
by-test true other = absurd (other refl)
by-test false other = refl

pub no-text : (bytes : List ℕ) → ¬ IsUtf8 bytes → false ≡ is_utf8 bytes
no-text bytes other = by-test (is_utf8 bytes) (λ e. other (IsUtf8-from_is_utf8 bytes e))
