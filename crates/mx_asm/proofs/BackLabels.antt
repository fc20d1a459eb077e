-- What dB means: the value of the last label dH before the statement, and pure 0 where there is none.
use Rattle.std.proofs.Common.{◌≡◌, ℕ, zero, suc, ◌<◌, ◌≤◌, List, [], ◌∷◌, ◌++◌, length, fold, replicate, slice_set, slice_index_or, false, Some, Ok, refl, ap, ◌∙◌, arith, rules}
use Rattle.mx_asm.proofs.Words.{fold-append, Value, Pure, back, value_of, back_of, Local, Placed, Answer, Known, no_targets, knowledge_of, StatementTree, encoding, with_label, known_with, known_after, nothing_known, final_known, is_local}
use Rattle.mx_asm.specs.Locals.{HasNoLocal}
use Rattle.mx_asm.specs.TwoPass.{value_in}

set-here : (values : List Value) (d : ℕ) (v : Value) → d < length values → slice_index_or (slice_set values d v) d (Pure 0) ≡ v
set-here [] d v l = absurd (omega (arith, l))
set-here (x ∷ xs) zero v l = refl
set-here (x ∷ xs) (suc d) v l = set-here xs d v (omega (arith, l))

module _ (k : Known) (s : StatementTree) where
  abbrev labelled : Placed → Known
  labelled p = record { names = with_label k.names s.label p.label; at = p.after; gregs = k.gregs }

  kept-with : (r : Answer Placed) (d : ℕ) → is_local d s.label ≡ false → back_of (known_with k s r).names d ≡ back_of k.names d
  kept-with r d other = search rules

  length-with : (r : Answer Placed) → length (known_with k s r).names.backs ≡ length k.names.backs
  length-with r = search rules

all-kept : (statements : List StatementTree) (k : Known) (d : ℕ) → HasNoLocal d statements → back_of (fold known_after k statements).names d ≡ back_of k.names d
unfolding known_after
all-kept [] k d none = refl
all-kept (s ∷ statements) k d none = all-kept statements (known_after k s) d none.1 ∙ kept-with k s (encoding no_targets k s) d none.0

all-length : (statements : List StatementTree) (k : Known) → length (fold known_after k statements).names.backs ≡ length k.names.backs
unfolding known_after
all-length [] k = refl
all-length (s ∷ statements) k = all-length statements (known_after k s) ∙ length-with k s (encoding no_targets k s)

pub back-last : (front between : List StatementTree) (s : StatementTree) (d : ℕ) (value : Value) → d ≤ 9 → s.label ≡ Some (Local d) →
    value_in (encoding no_targets (final_known front) s) ≡ Some value → HasNoLocal d between → value_of (knowledge_of (final_known (front ++ s ∷ between))) (back d) ≡ Ok value
unfolding known_after
back-last front between s d value h1 h2 h3 h4 = search (rules, fold-append, all-kept, all-length)

zeros-back : (n d : ℕ) → slice_index_or (replicate n (Pure 0)) d (Pure 0) ≡ Pure 0
zeros-back (suc n) (suc d) = zeros-back n d
zeros-back n d = refl

pub back-none : (statements : List StatementTree) (d : ℕ) → HasNoLocal d statements → value_of (knowledge_of (final_known statements)) (back d) ≡ Ok (Pure 0)
back-none statements d none = ap Ok (all-kept statements nothing_known d none ∙ zeros-back 10 d)
