-- A code with a second one is not one of the last two.
use Rattle.std.proofs.Common.{◌≡◌, ◌≢◌, ◌<◌, ℕ, ◌^◌, false, [], ◌∷◌, IsTrue, arith, refl, rules}
use Rattle.mx_stmt.proofs.Words.{Shape, Get, Free, shapes_of, shape_spans, has_second}

last-code : shapes_of 255 ≡ Free ∷ []
unfolding shapes_of shape_spans
last-code = refl

code-before : shapes_of 254 ≡ Get ∷ []
unfolding shapes_of shape_spans
code-before = refl

not-at : (code other : ℕ) (shape end : Shape) → shapes_of code ≡ shape ∷ [] → IsTrue (has_second shape) → shapes_of other ≡ end ∷ [] → has_second end ≡ false → code ≢ other
not-at code other shape end h1 h2 h3 h4 = grind arith

pub second-code : (code : ℕ) (shape : Shape) → code < 2 ^ 8 → shapes_of code ≡ shape ∷ [] → IsTrue (has_second shape) → code < 254
second-code code shape fits is second = search (rules, not-at, last-code, code-before)
