-- How often a code is counted.
use Rattle.std.proofs.Common.{◌≡◌, ◌<◌, ◌≤◌, ◌+◌, ◌-◌, ◌^◌, ◌==◌, ℕ, Bool, true, false, min, cond, List, [], ◌∷◌, length, replicate, slice_index, arith, ap, ◌∙◌, zero-add}
use Rattle.std.proofs.lemmas.Bool.Decides.{nat_tests}
use Rattle.std.proofs.lemmas.Grind.{common_steps}
use Rattle.std.proofs.lemmas.List.{get_or-replicate, length-replicate}
use Rattle.mx_code.specs.declared.trace.Trace.{Trace}
use Rattle.mx_watch.specs.Profiles.{code_in, one_more, counts_after, occurrences}

more_at : (counts : List ℕ) (c code : ℕ) → code < length counts → slice_index (one_more counts c) code ≡ cond (c == code) (min (slice_index counts code + 1) (2 ^ 64 - 1)) (slice_index counts code)
more_at counts c code inside = grind (arith, common_steps, nat_tests)

more-length : (counts : List ℕ) (c code : ℕ) → code < length counts → code < length (one_more counts c)
more-length counts c code inside = grind (arith, common_steps)

summed : (b : Bool) (x next o most : ℕ) → next ≡ cond b (min (x + 1) most) x → min (next + o) most ≡ min (x + (cond b 1 0 + o)) most
summed true x next o most e = rw e (omega arith)
summed false x next o most e = rw e (omega arith)

bounded : (b : Bool) (x next most : ℕ) → x ≤ most → next ≡ cond b (min (x + 1) most) x → next ≤ most
bounded true x next most small e = omega arith
bounded false x next most small e = omega arith

counted : (h : List Trace) (counts : List ℕ) (code : ℕ) → code < length counts → slice_index counts code ≤ 2 ^ 64 - 1 → slice_index (counts_after counts h) code ≡ min (slice_index counts code + occurrences code h) (2 ^ 64 - 1)
unfolding counts_after occurrences
counted [] counts code inside small = omega arith
counted (t ∷ ts) counts code inside small =
    let c = code_in t in
    let at = more_at counts c code inside in
    let x = slice_index counts code in
    let next = slice_index (one_more counts c) code in
    counted ts (one_more counts c) code (more-length counts c code inside) (bounded (c == code) x next (2 ^ 64 - 1) small at) ∙ summed (c == code) x next (occurrences code ts) (2 ^ 64 - 1) at

pub counted_from_new : (h : List Trace) (code : ℕ) → code < 256 → slice_index (counts_after (replicate 256 0) h) code ≡ min (occurrences code h) (2 ^ 64 - 1)
counted_from_new h code inside =
    let zeros : List ℕ = replicate 256 0 in
    let none : slice_index zeros code ≡ 0 = get_or-replicate 256 code 0 0 inside in
    let long : length zeros ≡ 256 = length-replicate {A = ℕ} 256 0 in
    counted h zeros code (rw long inside) (rw none (omega arith)) ∙ ap (λ n. min (n + occurrences code h) (2 ^ 64 - 1)) none ∙ ap (λ n. min n (2 ^ 64 - 1)) (zero-add (occurrences code h))

pub ruleset counting_laws = (counted_from_new)
