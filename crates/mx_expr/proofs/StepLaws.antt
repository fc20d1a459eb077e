-- Reading goes on byte by byte.
use Rattle.std.proofs.Common.{◌≡◌, ℕ, ◌+◌, ◌<◌, ◌≤◌, List, Ok, Err, refl, ap, sym, ◌∙◌, arith, length, drop, get_or, add-one}
use Rattle.std.proofs.Math.Seq.{drop-cons}
use Rattle.std.proofs.Math.ListN.{drop_of_length-le}
use Rattle.mx_expr.proofs.Words.{Tree, ExprFault, Mode, Waiting, bounded_step, reading_end, reading, State, step, steps, start}

pub steps-more : (s t : State) (xs : List ℕ) (i : ℕ) → i < length xs → step s (get_or xs i 0) ≡ Ok t → steps s (drop i xs) ≡ steps t (drop (i + 1) xs)
unfolding steps
steps-more s t xs i h e = rw (drop-cons xs i 0 h, e, add-one) refl

pub steps-stop : (s : State) (f : ExprFault) (xs : List ℕ) (i : ℕ) → i < length xs → step s (get_or xs i 0) ≡ Err f → steps s (drop i xs) ≡ Err f
unfolding steps
steps-stop s f xs i h e = rw (drop-cons xs i 0 h, e) refl

pub steps-end : (s : State) (xs : List ℕ) (i : ℕ) → length xs ≤ i → steps s (drop i xs) ≡ Ok s
unfolding steps
steps-end s xs i h = rw (drop_of_length-le xs h) refl

pub reading-some : (xs : List ℕ) → 0 < length xs → reading xs ≡ reading_end (steps start xs)
reading-some xs h = grind arith

pub reading-stop : (mode : Mode) (k : List Waiting) (depth : ℕ) (done : List Tree) (f : ExprFault) (xs : List ℕ) (i : ℕ) → i < length xs →
    steps (record { mode = mode; waiting = k; depth = depth; done = done }) (drop i xs) ≡ steps start xs → bounded_step mode k depth done (get_or xs i 0) ≡ Err f → reading xs ≡ Err f
reading-stop mode k depth done f xs i h e r =
    reading-some xs (omega arith) ∙ ap reading_end (sym e ∙ steps-stop (record { mode = mode; waiting = k; depth = depth; done = done }) f xs i h r)

pub ruleset bytes = (steps-more, steps-stop, steps-end)
