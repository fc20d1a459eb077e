-- Names, and the zeros after them.
use Rattle.std.proofs.Common.{◌≡◌, ◌≢◌, ℕ, zero, suc, ◌+◌, ◌<◌, ◌≤◌, length, List, [], ◌∷◌, ◌++◌, take, get_or, replicate, Bool, true, false, cond, arith, refl, ◌∙◌, ap, ◌==◌, rules}
use Rattle.mx_mmo.proofs.Words.{AreBytes, IsName, onto_trimmed, trimmed, same-number, other-test, nat_tests, common_steps}

-- what is left without the zeros, and how many they were
record Trimmed (bytes name : List ℕ) : Type 0 where
  zeros : ℕ
  whole : bytes ≡ name ++ replicate zeros 0
  count : length name + zeros ≡ length bytes
  last : (front : List ℕ) → name ≢ front ++ 0 ∷ []
  each : AreBytes name

no-front : (front : List ℕ) (x : ℕ) → [] ≢ front ++ x ∷ []
no-front front x = grind (arith, common_steps, nat_tests)

more-front : (b c : ℕ) (more : List ℕ) → ((front : List ℕ) → c ∷ more ≢ front ++ 0 ∷ []) → (front : List ℕ) → b ∷ c ∷ more ≢ front ++ 0 ∷ []
more-front b c more h [] e = cc
more-front b c more h (a ∷ front) e = let r : c ∷ more ≡ front ++ 0 ∷ [] = cc in h front r

one-trimmed : (test : Bool) (b : ℕ) (bytes : List ℕ) → (b == 0) ≡ test → b < 256 → Trimmed bytes [] → Trimmed (b ∷ bytes) (cond test [] (b ∷ []))
one-trimmed true b bytes e f t =
    let is : b ≡ 0 = same-number b 0 e in
    record { zeros = suc t.zeros; whole = rw is (ap (λ x. 0 ∷ x) t.whole); count = omega (arith, t.count); last = λ front. no-front front 0; each = tt }
one-trimmed false b bytes e f t = grind (arith, common_steps, nat_tests)

onto-trimmed : (b : ℕ) (bytes name : List ℕ) → b < 256 → Trimmed bytes name → Trimmed (b ∷ bytes) (onto_trimmed b name)
onto-trimmed b bytes name h1 h2 = search (rules, one-trimmed, more-front)

is-trimmed : (bytes : List ℕ) → AreBytes bytes → Trimmed bytes (trimmed bytes)
is-trimmed [] h = record { zeros = 0; whole = refl; count = refl; last = λ front. no-front front 0; each = tt }
is-trimmed (b ∷ bytes) h = onto-trimmed b bytes (trimmed bytes) h.0 (is-trimmed bytes h.1)

-- the name that bytes have, where they are not all zeros
pub record Named (bytes name : List ℕ) : Type 0 where
  pub zeros : ℕ
  pub whole : bytes ≡ name ++ replicate zeros 0
  pub count : length name + zeros ≡ length bytes
  pub good : IsName name

pub is-named : (bytes : List ℕ) (b : ℕ) (name : List ℕ) → AreBytes bytes → length bytes ≤ 1020 → trimmed bytes ≡ b ∷ name → Named bytes (b ∷ name)
is-named bytes b name h l e = search (rules, is-trimmed)

-- zeros alone are no name
pub zeros-trimmed : (n : ℕ) → trimmed (replicate n 0) ≡ []
zeros-trimmed zero = refl
zeros-trimmed (suc n) = rw (zeros-trimmed n) refl

pub all-zeros : (bytes : List ℕ) → AreBytes bytes → trimmed bytes ≡ [] → bytes ≡ replicate (length bytes) 0
all-zeros bytes h e = search (rules, is-trimmed)

-- a name with zeros after it is that name
kept : (name : List ℕ) → 0 < length name → ((front : List ℕ) → name ≢ front ++ 0 ∷ []) → trimmed name ≡ name
kept [] l h = absurd (omega arith)
kept (b ∷ []) l h = let o : (b == 0) ≡ false = other-test b 0 (λ e. h [] (ap (λ x. x ∷ []) e)) in rw o refl
kept (b ∷ c ∷ name) l h = ap (onto_trimmed b) (kept (c ∷ name) (omega arith) (λ front e. h (b ∷ front) (ap (λ x. b ∷ x) e)))

with-zeros : (name : List ℕ) (zeros : ℕ) → trimmed (name ++ replicate zeros 0) ≡ trimmed name
with-zeros [] zeros = zeros-trimmed zeros
with-zeros (b ∷ name) zeros = ap (onto_trimmed b) (with-zeros name zeros)

pub name-back : (name : List ℕ) (zeros : ℕ) → IsName name → trimmed (name ++ replicate zeros 0) ≡ name
name-back name zeros n = with-zeros name zeros ∙ kept name n.least n.last

-- a zero at the end goes, and any other byte stays
pub last-zero : (n : ℕ) (name : List ℕ) → length name ≡ n + 1 → get_or name n 0 ≡ 0 → trimmed (take n name) ≡ trimmed name
last-zero zero (b ∷ []) l e = rw e refl
last-zero (suc n) (b ∷ name) l e = ap (onto_trimmed b) (last-zero n name (omega arith) e)
last-zero n name l e = absurd (omega arith)

pub last-stays : (n : ℕ) (name : List ℕ) → length name ≡ n + 1 → get_or name n 0 ≢ 0 → trimmed name ≡ name
last-stays zero (b ∷ []) l e = let o : (b == 0) ≡ false = other-test b 0 e in rw o refl
last-stays (suc n) (b ∷ name) l e = grind (arith, nat_tests, last-stays n name (omega arith) e)
last-stays n name l e = absurd (omega arith)
