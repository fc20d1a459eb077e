-- A relative address is joined to its instruction by exclusive or.
use Rattle.std.proofs.Common.{◌≡◌, ◌<◌, ℕ, ◌+◌, ◌*◌, ◌%◌, ◌^◌, Option, bit_xor, ap, ◌∙◌, arith, rules}
use Rattle.std.specs.Result.{result_unwrap_or}
use Rattle.mx_stmt.proofs.Words.{xor_zero_l, xor_zero_r, xor_block, eqb-true, leb-true, leb-false, ltb-true, forward_word, backward_word, future_word, tetra_wyde, tetra_whole, near_reach, far_reach, common_steps, nat_tests}

-- A head takes a number below the reach, and the second code with it.
pub record IsHead (head reach : ℕ) : Type 0 where
  pub forward_fix : (d : ℕ) → d < reach → head + d ≡ bit_xor head d
  pub backward_fix : (d : ℕ) → d < reach → head + 2 ^ 24 + d ≡ bit_xor head (2 ^ 24 + d)

module _ (head reach : ℕ) (is : IsHead head reach) where
  ahead : (distance : ℕ) → result_unwrap_or (forward_word head reach distance) head ≡ bit_xor head (result_unwrap_or (forward_word 0 reach distance) 0)
  ahead distance = grind (arith, ltb-true, xor_zero_r)

  following : (distance : ℕ) → 0 < distance → result_unwrap_or (backward_word head reach distance) head ≡ bit_xor head (result_unwrap_or (backward_word 0 reach distance) 0)
  following distance some = grind (arith, eqb-true, leb-true, xor_zero_r)

  pub word-joined : (place : ℕ) (target : Option ℕ) → future_word head reach place target ≡ bit_xor head (future_word 0 reach place target)
  word-joined place target = grind (arith, xor_zero_r, leb-false)

-- a number whose low bits are zero, with one that has more bits
block-joined : (k a b d : ℕ) → 0 < 2 ^ k → d < 2 ^ k → bit_xor (a * 2 ^ k) (b * 2 ^ k + d) ≡ bit_xor a b * 2 ^ k + d
block-joined k a b d some fits =
    ap (λ n. bit_xor n (b * 2 ^ k + d)) (omega arith) ∙ xor_block k a b 0 d some fits ∙ ap (λ n. bit_xor a b * 2 ^ k + n) (xor_zero_l d)

even-joined : (code : ℕ) → code % 2 ≡ 0 → bit_xor code 1 ≡ code + 1
even-joined code even = grind (arith, common_steps, nat_tests)

joined : (k a b c d u v w : ℕ) → 0 < 2 ^ k → d < 2 ^ k → u ≡ a * 2 ^ k → v ≡ b * 2 ^ k + d → bit_xor a b ≡ c → w ≡ c * 2 ^ k + d → w ≡ bit_xor u v
joined k a b c d u v w some fits head fix code is = search (rules, block-joined)

second-code : (code x : ℕ) → code % 2 ≡ 0 → x < 2 ^ 8 → bit_xor (code * 2 ^ 8 + x) (2 ^ 8) ≡ (code + 1) * 2 ^ 8 + x
second-code code x even fits =
    xor_block 8 code 1 x 0 fits (omega arith) ∙ ap (λ n. n * 2 ^ 8 + bit_xor x 0) (even-joined code even) ∙ ap (λ n. (code + 1) * 2 ^ 8 + n) (xor_zero_r x)

pub jump-head : (code : ℕ) → code % 2 ≡ 0 → IsHead (tetra_whole code 0) far_reach
jump-head code even = record {
  forward_fix = λ d fits. joined 24 code 0 code d (tetra_whole code 0) d (tetra_whole code 0 + d) (omega arith) fits (omega arith) (omega arith) (xor_zero_r code) (omega arith);
  backward_fix = λ d fits. joined 24 code 1 (code + 1) d (tetra_whole code 0) (2 ^ 24 + d) (tetra_whole code 0 + 2 ^ 24 + d) (omega arith) fits (omega arith) (omega arith) (even-joined code even) (omega arith);
}

pub branch-head : (code x : ℕ) → code % 2 ≡ 0 → x < 2 ^ 8 → IsHead (tetra_wyde code x 0) near_reach
branch-head code x even small = record {
  forward_fix = λ d fits. joined 16 (code * 2 ^ 8 + x) 0 (code * 2 ^ 8 + x) d (tetra_wyde code x 0) d (tetra_wyde code x 0 + d) (omega arith) fits (omega arith) (omega arith) (xor_zero_r (code * 2 ^ 8 + x)) (omega arith);
  backward_fix = λ d fits. joined 16 (code * 2 ^ 8 + x) (2 ^ 8) ((code + 1) * 2 ^ 8 + x) d (tetra_wyde code x 0) (2 ^ 24 + d) (tetra_wyde code x 0 + 2 ^ 24 + d) (omega arith) fits (omega arith) (omega arith) (second-code code x even small) (omega arith);
}
