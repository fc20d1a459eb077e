-- The definitions on worked rows.
use Rattle.std.proofs.Common.{◌≡◌, true, false, [], ◌∷◌, refl, codes, map}
use Rattle.mx_slips.specs.declared.tokens.Token.{Token}
use Rattle.mx_slips.specs.Afters as afters
use Rattle.mx_slips.specs.Backslashes.{has_escape}
use Rattle.mx_slips.specs.Cases.{ends_with}
use Rattle.mx_slips.specs.Tokens.{token_length, tokens_after, tokens_of}

-- what follows the operands: an operator and a number, a comma and a number; and comments
product : afters.goes_on (codes " * 8") ≡ true
product = refl

further-byte : afters.goes_on (codes " ,2") ≡ true
further-byte = refl

in-words : afters.goes_on (codes " - the end") ≡ false
in-words = refl

after-two-blanks : afters.goes_on (codes "  * 8") ≡ false
after-two-blanks = refl

no-blank : afters.goes_on (codes " *8") ≡ false
no-blank = refl

words-after-number : afters.goes_on (codes " % 8 bytes") ≡ false
words-after-number = refl

-- a register, a string with a blank, and a local label
texts : map (λ (t : Token). t.text) (tokens_of 11 (codes "$0,\"a b\",1B"))
    ≡ codes "$" ∷ codes "0" ∷ codes "," ∷ codes "\"a b\"" ∷ codes "," ∷ codes "1B" ∷ []
unfolding tokens_after token_length
texts = refl

places : map (λ (t : Token). t.from) (tokens_of 11 (codes "#1B,'\"'")) ≡ 4 ∷ 7 ∷ 8 ∷ []
unfolding tokens_after token_length
places = refl

escaped : has_escape (codes "\"a\\n\"") ≡ true
unfolding has_escape
escaped = refl

other-backslash : has_escape (codes "\"a\\b\"") ≡ false
unfolding has_escape
other-backslash = refl

with-prefix : ends_with (codes ":Lib:Loop") (codes "Loop") ≡ true
with-prefix = refl
