-- A line is read byte by byte.
use Rattle.std.proofs.Common.{◌≡◌, ◌≢◌, ℕ, zero, suc, [], ◌∷◌, length, take, slice_index_or, ◌+◌, ◌-◌, ◌<◌, ◌≤◌, true, false, List, arith, refl, subst, Ok, Err}
use Rattle.mx_host.specs.HostModel.{HostModel, contents}
use Rattle.mx_plan.specs.Plan.{bind, end_of, Comes, IsRest}
use Rattle.mx_plan.specs.Calls.{host, HostPlan}
use Rattle.mx_plan.proofs.Plans.{rest_after}
use Rattle.std.specs.Prelude.{Option}
use Rattle.mx_con.specs.Clauses.{DoesOnHost}
use Rattle.mx_con.specs.LinePlans.{on_ok, grown_plan, LineRead, after_growing, reading_plan}
use Rattle.mx_con.specs.declared.end.SessionEnd.{SessionEnd}
use Rattle.mx_con.specs.declared.end.SessionEnd.TheVariants.{Limit, OutOfMemory}
use Rattle.mx_con.proofs.Parts.{Leaves, left-next}
use Rattle.mx_con.proofs.Rests.{rest-ended, rest-done}

one-more : (n : ℕ) → 0 < n → n ≡ suc (n - 1)
one-more n l = omega arith

reading-suc : (k n : ℕ) (got : List ℕ) → n ≡ suc k → reading_plan n got ≡ bind (on_ok (after_growing (reading_plan k))) (grown_plan k got)
unfolding reading_plan
reading-suc k n got e = rw e refl

reading-more : (n : ℕ) (got : List ℕ) → 0 < n → reading_plan n got ≡ bind (on_ok (after_growing (reading_plan (n - 1)))) (grown_plan (n - 1) got)
reading-more n got l = reading-suc (n - 1) n got (one-more n l)

as-bound : (n : ℕ) (got : List ℕ) (v start : HostModel) (whole : HostPlan LineRead) → 0 < n → IsRest host (reading_plan n got) v whole start →
    IsRest host (bind (on_ok (after_growing (reading_plan (n - 1)))) (grown_plan (n - 1) got)) v whole start
as-bound n got v start whole l r = subst (λ p. IsRest host p v whole start) (reading-more n got l) r

pub line-more : {Host : Type 0} (says : Host → Option HostModel) (faults : Host → ℕ) (a b c : Host) (n k : ℕ) (got next : List ℕ) (whole : HostPlan LineRead) → 0 < n →
    Leaves host says faults a b (contents (says a)) (contents (says b)) (reading_plan n got) whole → DoesOnHost says faults b c (Ok (true, next, k)) (grown_plan (n - 1) got) → k + 1 ≡ n →
    Leaves host says faults a c (contents (says a)) (contents (says c)) (reading_plan k next) whole
line-more says faults a b c n k got next whole l h w e =
    let same : n - 1 ≡ k = omega (arith, e) in
    rw (← same) (left-next host says faults a b c _ _ _ (true, next, k) (after_growing (reading_plan (n - 1))) (grown_plan (n - 1) got) whole (rw (← reading-more n got l) h) w)

pub line-whole : (n k : ℕ) (got next : List ℕ) (v w start : HostModel) (whole : HostPlan LineRead) → 0 < n → IsRest host (reading_plan n got) v whole start →
    (Ok (false, next, k), w) ≡ end_of host (grown_plan (n - 1) got) v → Comes host start w (Err OutOfMemory) (Ok (next, k)) whole
line-whole n k got next v w start whole l r e =
    rest-done host (Ok (next, k)) w start whole (λ o. absurd (cc))
    (rest_after host (on_ok (after_growing (reading_plan (n - 1)))) (grown_plan (n - 1) got) (Ok (false, next, k)) w v start whole e (as-bound n got v start whole l r))

pub line-ended : (n : ℕ) (end : SessionEnd) (got : List ℕ) (v w start : HostModel) (whole : HostPlan LineRead) → 0 < n → IsRest host (reading_plan n got) v whole start →
    Comes host v w (Err OutOfMemory) (Err end) (grown_plan (n - 1) got) → Comes host start w (Err OutOfMemory) (Err end) whole
line-ended n end got v w start whole l r c =
    rest-ended host (after_growing (reading_plan (n - 1))) (grown_plan (n - 1) got) end v w start whole (as-bound n got v start whole l r) c

pub line-limit : (n : ℕ) (got : List ℕ) (w start : HostModel) (whole : HostPlan LineRead) → n ≡ 0 → IsRest host (reading_plan n got) w whole start →
    Comes host start w (Err OutOfMemory) (Err Limit) whole
unfolding reading_plan
line-limit n got w start whole e r =
    rest-done host (Err Limit) w start whole (λ o. absurd (cc)) (subst (λ i. IsRest host (reading_plan i got) w whole start) e r)

pub ruleset reading = (line-whole, line-ended, line-limit)

-- ---- a buffer of one byte

pub first-byte : (n : ℕ) (xs : List ℕ) → length xs ≡ 1 → n ≤ 1 → n ≢ 0 → take n xs ≡ slice_index_or xs 0 0 ∷ []
first-byte zero xs one most some = absurd (some refl)
first-byte (suc zero) [] one most some = absurd (omega arith)
first-byte (suc zero) (x ∷ xs) one most some = refl
first-byte (suc (suc n)) xs one most some = absurd (omega arith)

pub ruleset bytes = (first-byte)
