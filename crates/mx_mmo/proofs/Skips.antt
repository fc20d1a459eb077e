-- The tetras that a spec skips, read and spelled.
use Rattle.std.proofs.Common.{◌≡◌, ℕ, zero, suc, ◌+◌, ◌-◌, ◌/◌, ◌^◌, ◌<◌, ◌≤◌, length, List, [], ◌∷◌, ◌++◌, take, drop, get_or, Bool, true, false, arith, refl, sym, ◌∙◌, ap, subst, Some, None, length-take, length-drop, add-zero, Option, ◌==◌, ◌&&◌, rules}
use Rattle.mx_mmo.proofs.Words.{take-append-drop, take_all, drop-drop, tetra_to_bytes, tetra_from_bytes, AreBytes, EndsSpec, IsSkipped, quote_after, four_more, skip_on, skipped, quoted_on, quoted_after, four-bytes, four-fit, top-byte, take-four, drop-four, nat_tests}

-- what is skipped stays so, whatever follows
abbrev pub SkipGrows : Option ℕ → Option ℕ → Type 0
SkipGrows None later = Unit {0}
SkipGrows (Some n) later = later ≡ Some n

on-grows : (o : Option Bool) (f g : Bool → Option ℕ) → ((q : Bool) → SkipGrows (f q) (g q)) → SkipGrows (skip_on f o) (skip_on g o)
on-grows o f g h = grind arith

pub skip-grows : (quoted : Bool) (xs ys : List ℕ) → SkipGrows (skipped quoted xs) (skipped quoted (xs ++ ys))
skip-grows quoted (a ∷ code ∷ y ∷ z ∷ more) ys =
    on-grows (quote_after quoted a code y z) (λ q. skipped q more) (λ q. skipped q (more ++ ys)) (λ q. skip-grows q more ys)
skip-grows quoted xs ys = tt

-- no more is skipped than there is
abbrev pub SkipWithin : Option ℕ → ℕ → Type 0
SkipWithin None n = Unit {0}
SkipWithin (Some k) n = k ≤ n

on-within : (o : Option Bool) (f : Bool → Option ℕ) (n m : ℕ) → m ≡ 4 + n → ((q : Bool) → SkipWithin (f q) n) → SkipWithin (skip_on f o) m
on-within o f n m h1 h2 = grind arith

pub skip-within : (quoted : Bool) (xs : List ℕ) → SkipWithin (skipped quoted xs) (length xs)
skip-within quoted (a ∷ code ∷ y ∷ z ∷ more) =
    on-within (quote_after quoted a code y z) (λ q. skipped q more) (length more) (length (a ∷ code ∷ y ∷ z ∷ more)) (omega arith) (λ q. skip-within q more)
skip-within quoted xs = tt

-- what is skipped, after a quote and elsewhere
record QuotedFirst (front : List ℕ) : Type 0 where
  t : ℕ
  more : List ℕ
  fit : t < 2 ^ 32
  whole : front ≡ tetra_to_bytes t ++ more
  others : IsSkipped more

abbrev SkippedFrom : Bool → List ℕ → Type 0
SkippedFrom true front = QuotedFirst front
SkippedFrom false front = IsSkipped front

record Skips (quoted : Bool) (bytes : List ℕ) (size : ℕ) : Type 0 where
  front : SkippedFrom quoted (take size bytes)
  ends : EndsSpec (drop size bytes)

abbrev SkipTells : Bool → List ℕ → Option ℕ → Type 0
SkipTells quoted bytes None = Unit {0}
SkipTells quoted bytes (Some size) = Skips quoted bytes size

-- what a tetra that is skipped tells of those after it
abbrev Follows : Bool → ℕ → ℕ → ℕ → ℕ → Bool → Type 0
Follows true a code y z true = ⊥
Follows true a code y z false = Unit {0}
Follows false a code y z true = (a ≡ 0x98) × (code ≡ 0) × (y ≡ 0) × (z ≡ 1)
Follows false a code y z false = ¬ (a ≡ 0x98)

abbrev Tells : Bool → ℕ → ℕ → ℕ → ℕ → Option Bool → Type 0
Tells quoted a code y z None = (quoted ≡ false) × (a ≡ 0x98) × ¬ ((code ≡ 0) × (y ≡ 0) × (z ≡ 1))
Tells quoted a code y z (Some q) = Follows quoted a code y z q

record Told (quoted : Bool) (a code y z : ℕ) (o : Option Bool) : Type 0 where
  is : Tells quoted a code y z o

told : (quoted : Bool) (a code y z : ℕ) → Told quoted a code y z (quote_after quoted a code y z)
told quoted a code y z = grind arith

-- one tetra in front of what is skipped
cons-skips : (quoted q : Bool) (a b c d : ℕ) (front : List ℕ) → a < 256 → b < 256 → c < 256 → d < 256 → Follows quoted a b c d q → SkippedFrom q front →
    SkippedFrom quoted (a ∷ b ∷ c ∷ d ∷ front)
cons-skips true true a b c d front k l m n f s = absurd f
cons-skips true false a b c d front k l m n f s = grind (arith, nat_tests, four-fit a b c d k l m n, four-bytes a b c d k l m n)
cons-skips false true a b c d front k l m n f s =
    let e : 0x98 ∷ 0 ∷ 0 ∷ 1 ∷ tetra_to_bytes s.t ++ s.more ≡ a ∷ b ∷ c ∷ d ∷ front = rw (f.0, f.1, f.2, f.3) (ap (λ x. 0x98 ∷ 0 ∷ 0 ∷ 1 ∷ x) (sym s.whole)) in
    subst (λ (x : List ℕ). IsSkipped x) e (IsSkipped.quoted s.t s.more s.fit s.others)
cons-skips false false a b c d front k l m n f s =
    let t = tetra_from_bytes (a ∷ b ∷ c ∷ d ∷ []) in
    let other : ¬ (t / 2 ^ 24 ≡ 0x98) = rw (top-byte a b c d l m n) f in
    subst (λ (x : List ℕ). IsSkipped x) (ap (λ x. x ++ front) (four-bytes a b c d k l m n)) (IsSkipped.other t front (four-fit a b c d k l m n, other) s)

four-tell : (quoted q : Bool) (a b c d : ℕ) (more : List ℕ) (o : Option ℕ) → a < 256 → b < 256 → c < 256 → d < 256 → Follows quoted a b c d q → SkipTells q more o →
    SkipTells quoted (a ∷ b ∷ c ∷ d ∷ more) (four_more o)
four-tell quoted q a b c d more o h1 h2 h3 h4 h5 h6 = search (rules, take-four, cons-skips, drop-four)

on-tell : (quoted : Bool) (a b c d : ℕ) (more : List ℕ) (o : Option Bool) → a < 256 → b < 256 → c < 256 → d < 256 → Tells quoted a b c d o →
    ((q : Bool) → SkipTells q more (skipped q more)) → SkipTells quoted (a ∷ b ∷ c ∷ d ∷ more) (skip_on (λ q. skipped q more) o)
on-tell true a b c d more None k l m n t h = absurd (cc (t.0))
on-tell false a b c d more None k l m n t h = record { front = IsSkipped.none; ends = (t.1, t.2) }
on-tell quoted a b c d more (Some q) k l m n t h = four-tell quoted q a b c d more (skipped q more) k l m n t (h q)

skip-tells : (quoted : Bool) (bytes : List ℕ) → AreBytes bytes → SkipTells quoted bytes (skipped quoted bytes)
skip-tells quoted (a ∷ b ∷ c ∷ d ∷ more) h =
    on-tell quoted a b c d more (quote_after quoted a b c d) h.0 h.1.0 h.1.1.0 h.1.1.1.0 (told quoted a b c d).is (λ q. skip-tells q more h.1.1.1.1)
skip-tells quoted bytes h = tt

pub record Ended (bytes : List ℕ) (size : ℕ) : Type 0 where
  pub front : IsSkipped (take size bytes)
  pub ends : EndsSpec (drop size bytes)

ended : (bytes : List ℕ) (o : Option ℕ) (size : ℕ) → SkipTells false bytes o → o ≡ Some size → Ended bytes size
ended bytes o size h1 h2 = grind arith

-- what is skipped is in the grammar
pub skipped-ended : (bytes : List ℕ) (size : ℕ) → AreBytes bytes → skipped false bytes ≡ Some size → Ended bytes size
skipped-ended bytes size h e = ended bytes (skipped false bytes) size (skip-tells false bytes h) e

pub skipped-all : {front : List ℕ} (rest : List ℕ) → IsSkipped front → EndsSpec rest → skipped false (front ++ rest) ≡ Some (length front)
skipped-all rest IsSkipped.none e = grind arith
skipped-all rest (IsSkipped.other t more p others) e = grind (arith, nat_tests, skipped-all rest others e)
skipped-all rest (IsSkipped.quoted t more p others) e = search (rules, skipped-all rest others e)

-- looking on where it stopped before
abbrev plus : ℕ → Option ℕ → Option ℕ
plus n None = None
plus n (Some k) = Some (n + k)

on-looked : (f : Bool → Option Bool) (g h : Bool → Option ℕ) (o : Option Bool) (q : Bool) (n m : ℕ) → m ≡ 4 + n → quoted_on f o ≡ Some q →
    ((p : Bool) → f p ≡ Some q → g p ≡ plus n (h q)) → skip_on g o ≡ plus m (h q)
on-looked f g h o q n m h1 h2 h3 = grind arith

skipped-on : (quoted q : Bool) (front rest : List ℕ) → quoted_after quoted front ≡ Some q → skipped quoted (front ++ rest) ≡ plus (length front) (skipped q rest)
skipped-on quoted q [] rest e = grind arith
skipped-on quoted q (a ∷ code ∷ y ∷ z ∷ more) rest e =
    on-looked (λ p. quoted_after p more) (λ p. skipped p (more ++ rest)) (λ p. skipped p rest) (quote_after quoted a code y z) q (length more) (length (a ∷ code ∷ y ∷ z ∷ more)) (omega arith) e
    (λ p i. skipped-on p q more rest i)
skipped-on quoted q front rest e = absurd (cc)

step-more : (f g : Bool → Option Bool) (o : Option Bool) (q r : Bool) → quoted_on f o ≡ Some q → ((p : Bool) → f p ≡ Some q → g p ≡ Some r) → quoted_on g o ≡ Some r
step-more f g o q r h1 h2 = grind arith

after-more : (quoted q r : Bool) (front : List ℕ) (a b c d : ℕ) → quoted_after quoted front ≡ Some q → quote_after q a b c d ≡ Some r →
    quoted_after quoted (front ++ a ∷ b ∷ c ∷ d ∷ []) ≡ Some r
after-more quoted q r [] a b c d e h = let is : quoted ≡ q = cc in rw (is, h) refl
after-more quoted q r (k ∷ l ∷ m ∷ n ∷ more) a b c d e h =
    step-more (λ p. quoted_after p more) (λ p. quoted_after p (more ++ a ∷ b ∷ c ∷ d ∷ [])) (quote_after quoted k l m n) q r e (λ p i. after-more p q r more a b c d i h)
after-more quoted q r front a b c d e h = absurd (cc)

-- the tetra that is first in what is left
pub four-first : (r : List ℕ) → 4 ≤ length r → r ≡ get_or r 0 0 ∷ get_or r 1 0 ∷ get_or r 2 0 ∷ get_or r 3 0 ∷ drop 4 r
four-first r h = grind arith

front-grows : (n : ℕ) (more : List ℕ) (a b c d : ℕ) (others : List ℕ) → drop n more ≡ a ∷ b ∷ c ∷ d ∷ others → take (n + 4) more ≡ take n more ++ a ∷ b ∷ c ∷ d ∷ []
front-grows zero more a b c d others e = rw e refl
front-grows (suc n) [] a b c d others e = absurd (cc)
front-grows (suc n) (m ∷ more) a b c d others e = search (rules, front-grows n more a b c d others e)

pub rest-more : (n : ℕ) (more r : List ℕ) → r ≡ drop n more → take (length r - 4) (drop 4 r) ≡ drop (n + 4) more
rest-more n more r e = take_all (length r - 4) (drop 4 r) (omega (arith, length-drop 4 r)) ∙ ap (drop 4) e ∙ drop-drop 4 n more

-- one tetra more was looked at
pub looked-more : (n : ℕ) (more : List ℕ) (q r : Bool) (a b c d : ℕ) (others : List ℕ) → drop n more ≡ a ∷ b ∷ c ∷ d ∷ others → quoted_after false (take n more) ≡ Some q →
    quote_after q a b c d ≡ Some r → quoted_after false (take (n + 4) more) ≡ Some r
looked-more n more q r a b c d others e h i = rw (front-grows n more a b c d others e) (after-more false q r (take n more) a b c d h i)

looked-on : (n : ℕ) (more : List ℕ) (q : Bool) → n ≤ length more → quoted_after false (take n more) ≡ Some q → skipped false more ≡ plus n (skipped q (drop n more))
looked-on n more q l h =
    grind (arith, nat_tests, take-append-drop n more, skipped-on false q (take n more) (drop n more) h, length-take n more)

-- the lopcode that ends a spec was found, and it was not
pub looked-end : (n : ℕ) (more : List ℕ) (q : Bool) (a b c d : ℕ) (others : List ℕ) → n ≤ length more → drop n more ≡ a ∷ b ∷ c ∷ d ∷ others →
    quoted_after false (take n more) ≡ Some q → quote_after q a b c d ≡ None → skipped false more ≡ Some n
looked-end n more q a b c d others l e h i = looked-on n more q l h ∙ ap (λ r. plus n (skipped q r)) e ∙ rw i (ap Some (add-zero n))

few-none : (q : Bool) (r : List ℕ) → length r < 4 → skipped q r ≡ None
few-none q r h = grind arith

pub looked-none : (n : ℕ) (more : List ℕ) (q : Bool) → n ≤ length more → quoted_after false (take n more) ≡ Some q → length (drop n more) < 4 → skipped false more ≡ None
looked-none n more q l h few = looked-on n more q l h ∙ ap (λ o. plus n o) (few-none q (drop n more) few)
