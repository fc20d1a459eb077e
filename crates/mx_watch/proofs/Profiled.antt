-- A profile that was told a trace.
use Rattle.std.proofs.Common.{◌≡◌, ℕ, zero, suc, ◌+◌, List, [], ◌∷◌, ◌++◌, slice_index, arith, ap, ◌∙◌, sym}
use Rattle.std.specs.List.{flat_map, range_with_len}
use Rattle.std.proofs.lemmas.Grind.{flat_map-append}
use Rattle.std.proofs.lemmas.List.{append_assoc, append-nil}
use Rattle.mx_code.specs.declared.trace.Trace.{Trace}
use Rattle.mx_watch.specs.Profiles.{code_in, one_more, counts_after, profile_line, profile_lines, profile_text, profiling}
use Rattle.mx_watch.specs.Watching.{later}

pub profile_told : (counts after : List ℕ) (t : Trace) → after ≡ one_more counts (code_in t) → profiling after ≡ later t (profiling counts)
unfolding counts_after
profile_told counts after t e = ap profiling e

pub ruleset counting = (profile_told)

pub range-more : (a n : ℕ) → range_with_len a (suc n) ≡ range_with_len a n ++ (a + n) ∷ []
range-more a zero = let same : a ≡ a + 0 = omega arith in ap (λ k. k ∷ []) same
range-more a (suc n) =
    let last : a + 1 + n ≡ a + suc n = omega arith in
    ap (λ ks. a ∷ ks) (range-more (a + 1) n ∙ ap (λ k. range_with_len (a + 1) n ++ k ∷ []) last)

-- the lines of one more code
pub lines_more : (counts text old : List ℕ) (n count : ℕ) → slice_index counts n ≡ count → text ≡ old ++ profile_lines counts 0 n → text ++ profile_line n count ≡ old ++ profile_lines counts 0 (n + 1)
lines_more counts text old n count c e =
    let line : ℕ → List ℕ = λ code. profile_line code (slice_index counts code) in
    let next : n + 1 ≡ suc n = omega arith in
    let same : 0 + n ≡ n = omega arith in
    let more : range_with_len 0 (n + 1) ≡ range_with_len 0 n ++ n ∷ [] =
    ap (λ k. range_with_len 0 k) next ∙ range-more 0 n ∙ ap (λ k. range_with_len 0 n ++ k ∷ []) same in
    rw (e, ← c) (append_assoc old (profile_lines counts 0 n) (line n) ∙ ap (λ xs. old ++ xs)
    (ap (λ xs. profile_lines counts 0 n ++ xs) (sym (append-nil (line n))) ∙ sym (flat_map-append line (range_with_len 0 n) (n ∷ [])) ∙ ap (λ ks. flat_map line ks) (sym more)))

pub no_lines : (counts old : List ℕ) → old ≡ old ++ profile_lines counts 0 0
no_lines counts old = sym (append-nil old)

pub all_lines : (counts text old : List ℕ) (n : ℕ) → n ≡ 256 → text ≡ old ++ profile_lines counts 0 n → text ≡ old ++ profile_text counts
unfolding profile_text
all_lines counts text old n e h = h ∙ ap (λ k. old ++ profile_lines counts 0 k) e

pub ruleset lines = (lines_more, no_lines, all_lines)
