-- Parts of operands that are looked at one after another.
use Rattle.std.proofs.Common.{◌≡◌, ◌≤◌, ◌<◌, ℕ, zero, suc, ◌-◌, List, [], length, take, drop, Bool, true, false, arith, refl}
use Rattle.mx_word.specs.Kinds.{is_digit}
use Rattle.mx_line.specs.Bytes.{run}
use Rattle.mx_line.proofs.KindLemmas.{run-few, run-take}
use Rattle.mx_marks.specs.Tokens.{from_part, is_wanted, part_length}
use Rattle.mx_marks.specs.declared.tokens.Wanted.{Wanted}

pub digits-few : (text : List ℕ) → length (run is_digit text) ≤ length text
digits-few text = run-few is_digit text

pub digits-are : (text : List ℕ) → take (length (run is_digit text)) text ≡ run is_digit text
digits-are text = run-take is_digit text

pub run-within : (kind : ℕ → Bool) (text : List ℕ) → length (run kind text) ≤ length text
run-within kind text = run-few kind text

pub ruleset lengths = (digits-few, digits-are, run-within)

pub part-none : (n : ℕ) (kind : Wanted) (source : List ℕ) (most : ℕ) (text : List ℕ) → n ≤ 0 → from_part n kind source most text ≡ []
unfolding from_part
part-none zero kind source most text e = refl
part-none (suc n) kind source most text e = absurd (omega (arith, e))

pub part-found : (n : ℕ) (kind : Wanted) (source : List ℕ) (most : ℕ) (text : List ℕ) → 0 < n → true ≡ is_wanted kind source most text → from_part n kind source most text ≡ text
unfolding from_part
part-found zero kind source most text e is = absurd (omega (arith, e))
part-found (suc n) kind source most text e is = rw (← is) refl

pub part-next : (n : ℕ) (kind : Wanted) (source : List ℕ) (most : ℕ) (text : List ℕ) → 0 < n → false ≡ is_wanted kind source most text →
    from_part n kind source most text ≡ from_part (n - 1) kind source most (drop (part_length text) text)
unfolding from_part
part-next zero kind source most text e is = absurd (omega (arith, e))
part-next (suc n) kind source most text e is = let less : suc n - 1 ≡ n = omega arith in rw (← is, less) refl

pub ruleset parts = (part-none, part-found, part-next)
