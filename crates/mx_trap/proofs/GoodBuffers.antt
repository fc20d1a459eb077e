-- Which buffers are good.
use Rattle.std.proofs.Common.{◌≡◌, ℕ, suc, zero, ◌+◌, ◌<◌, ◌≤◌, ◌^◌, false, true, Ok, Err, refl, arith}
use Rattle.std.specs.Prelude.{nat_lt, ◌&&◌}
use Rattle.std.proofs.lemmas.Bool.Decides.{nat_tests}
use Rattle.mx_trap.specs.Laws.{LiesBelow}
use Rattle.mx_trap.specs.Requests.{good_buffer, most_bytes}
use Rattle.mx_trap.specs.declared.answer.TrapStop.TheVariants.{Negative, TransferTooLarge}

small : (q : ℕ) → q ≤ 2 ^ 24 → nat_lt (2 ^ 24) q ≡ false
small q h = grind (arith, nat_tests)

within : (p q : ℕ) → LiesBelow p q → (nat_lt 0 q && nat_lt (2 ^ 63) (p + q)) ≡ false
within p zero h = refl
within p (suc k) h = let l : p + k < 2 ^ 63 = h k (omega arith) in grind (arith, nat_tests)

pub good : (p q : ℕ) → q ≤ most_bytes → LiesBelow p q → good_buffer (Ok (p, q)) ≡ Ok (p, q)
good p q h b = rw (small q h, within p q b) refl

pub large : (p q : ℕ) → most_bytes < q → good_buffer (Ok (p, q)) ≡ Err TransferTooLarge
large p q h = let e : nat_lt (2 ^ 24) q ≡ true = grind (arith, nat_tests) in rw e refl

pub negative : (p q i : ℕ) → q ≤ most_bytes → i < q → 2 ^ 63 ≤ p + i → good_buffer (Ok (p, q)) ≡ Err Negative
negative p q i h l b =
    let e : (nat_lt 0 q && nat_lt (2 ^ 63) (p + q)) ≡ true = grind (arith, nat_tests) in
    rw (small q h, e) refl

pub ruleset goodness = (good, large, negative)
