-- The next octas of two memories.
use Rattle.std.proofs.Common.{◌≡◌, ◌≢◌, ◌≤◌, ◌<◌, ◌%◌, ◌^◌, ℕ, sym, ◌∙◌, arith, inl, inr, ap, subst, ◌+◌}
use Rattle.std.proofs.lemmas.Bool.{cases_lt}
use Rattle.std.proofs.lemmas.Bool.Decides.{nat_tests}
use Rattle.mx_changes.specs.Images.{AreSameOctas, IsNextOcta, after}

-- one memory has an octa where the other one has none
lone : (f g : ℕ → ℕ) (from a x b y : ℕ) → IsNextOcta f from a x → IsNextOcta g from b y → a < b → AreSameOctas f g → ⊥
lone f g from a x b y one two less same =
    let low : a < 2 ^ 63 = omega (arith, less, two.within) in
    one.other low (sym (one.found low) ∙ same a low one.aligned ∙ two.none a one.later one.aligned less)

pub apart : (f g : ℕ → ℕ) (from a x b y : ℕ) → IsNextOcta f from a x → IsNextOcta g from b y → a ≢ b → AreSameOctas f g → ⊥
apart f g from a x b y one two ne same =
    elim (cases_lt a b) [
      | inl less ↦ lone f g from a x b y one two less same
      | inr most ↦ elim (cases_lt b a) [
        | inl less ↦ lone g f from b y a x two one less (λ q low even. sym (same q low even))
        | inr least ↦ ne (omega (arith, most, least))
      ]
    ]

pub unlike : (f g : ℕ → ℕ) (from a x b y : ℕ) → IsNextOcta f from a x → IsNextOcta g from b y → a ≡ b → x ≢ y → AreSameOctas f g → ⊥
unlike f g from a x b y one two e ne same =
    elim (cases_lt a (2 ^ 63)) [
      | inl low ↦ let lower : b < 2 ^ 63 = omega (arith, e, low) in
          ne (sym (one.found low) ∙ same a low one.aligned ∙ (subst (λ n. g n ≡ y) (sym e) (two.found lower)))
      | inr high ↦ let top : a ≡ 2 ^ 63 = omega (arith, high, one.within) in
          ne (one.ends top ∙ sym (two.ends (sym e ∙ top)))
    ]

pub alike : (f g : ℕ → ℕ) (from a x b y : ℕ) → IsNextOcta f from a x → IsNextOcta g from b y → a ≡ b → x ≡ y →
    (q : ℕ) → from ≤ q → q < after a → q % 8 ≡ 0 → f q ≡ g q
alike f g from a x b y one two e is q later less even =
    elim (cases_lt q a) [
      | inl below ↦ one.none q later even below ∙ sym (two.none q later even (omega (arith, e, below)))
      | inr above ↦
          let low : a < 2 ^ 63 = grind (arith, nat_tests, above, less, one.within) in
          let near : q < a + 8 = grind (arith, nat_tests, less, low) in
          let here : q ≡ a = omega (arith, above, near, even, one.aligned) in
          let there : b < 2 ^ 63 = omega (arith, e, low) in
          ap f here ∙ one.found low ∙ is ∙ sym (two.found there) ∙ ap g (sym e ∙ sym here)
    ]

pub goes-on : (from a : ℕ) → from ≤ a → from < 2 ^ 63 → from < after a
goes-on from a le low = grind (arith, nat_tests, le, low)

pub ruleset octas = (apart, unlike, alike, goes-on)
