-- What the greatest byte of a schedule tells of all.
use Rattle.std.proofs.Common.{◌≡◌, ◌≤◌, ◌<◌, ⊎_elim, ℕ, ◌+◌, List, length, get_or, max, Option, None, Some, arith, refl, sym, subst}
use Rattle.std.specs.List.{position}
use Rattle.std.proofs.lemmas.Bool.{cases_eq}
use Rattle.std.proofs.lemmas.List.{get_or_default}
use Rattle.std.proofs.lemmas.List.Quantifiers.{position-Some}
use Rattle.std.proofs.Math.Nat.{le-max_left, le-max_right}
use Rattle.mx_files.specs.Schedules.{is_unnamed}
use Rattle.mx_files.proofs.LeastFaults.{eight-up}

pub greatest-more : (bytes : List ℕ) (at d most : ℕ) → at < length bytes → ((i : ℕ) → i < at → get_or bytes i 0 ≤ most) →
    (i : ℕ) → i < at + 1 → get_or bytes i 0 ≤ max most (get_or bytes at d)
greatest-more bytes at d most inside all i l =
    let up = le-max_left most (get_or bytes at d) in
    let last = le-max_right most (get_or bytes at d) in
    let same = get_or_default bytes at 0 d inside in
    ⊎_elim
    (λ e. subst (λ k. get_or bytes k 0 ≤ max most (get_or bytes at d)) (sym e) (subst (λ b. b ≤ max most (get_or bytes at d)) (sym same) last))
    (λ ne. (let low = all i (omega (arith, l, ne)) in omega (arith, low, up)))
    (cases_eq i at)

named-by : (bytes : List ℕ) (most : ℕ) → ((place : ℕ) → place < length bytes → get_or bytes place 0 ≤ most) → most ≤ 7 →
    (found : Option ℕ) → position is_unnamed bytes ≡ found → None ≡ found
named-by bytes most all l None e = refl
named-by bytes most all l (Some place) e =
    let at = position-Some is_unnamed bytes place 0 e in
    let low = all place at.0 in
    let up = eight-up (get_or bytes place 0) at.1 in absurd (omega (arith, l, low, up))

pub all-named : (bytes : List ℕ) (most : ℕ) → ((place : ℕ) → place < length bytes → get_or bytes place 0 ≤ most) → most ≤ 7 → None ≡ position is_unnamed bytes
all-named bytes most all l = named-by bytes most all l (position is_unnamed bytes) refl

pub ruleset greatest = (greatest-more, all-named)
