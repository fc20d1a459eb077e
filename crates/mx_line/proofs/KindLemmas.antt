-- Runs of one kind of bytes.
use Rattle.std.proofs.Common.{◌≡◌, ℕ, ◌≤◌, ◌+◌, List, length, take, Bool, arith, ap}
use Rattle.mx_line.proofs.Words.{prefix_len, length-take, length-drop, length-prefix_len, run, past}

pub run-length : (kind : ℕ → Bool) (text : List ℕ) → length (run kind text) ≡ prefix_len kind text
run-length kind text = let most = length-prefix_len kind text in omega (arith, length-take (prefix_len kind text) text)

pub run-few : (kind : ℕ → Bool) (text : List ℕ) → length (run kind text) ≤ length text
run-few kind text = omega (arith, length-take (prefix_len kind text) text)

pub run-take : (kind : ℕ → Bool) (text : List ℕ) → take (length (run kind text)) text ≡ run kind text
run-take kind text = ap (λ n. take n text) (run-length kind text)

pub run-whole : (kind : ℕ → Bool) (text : List ℕ) → length (run kind text) + length (past kind text) ≡ length text
run-whole kind text = let few = run-few kind text in omega (arith, length-drop (length (run kind text)) text)

pub ruleset runs = (run-few, run-take)
