-- A schedule that is read, and judged when its file was closed.
use Rattle.std.proofs.Common.{◌≡◌, ℕ, ◌+◌, ◌<◌, suc, Bool, not, true, false, cond, nat_lt, List, [], ◌∷◌, length, Option, None, Some, Ok, Err, arith, refl}
use Rattle.std.specs.Prelude.{Result}
use Rattle.std.specs.List.{position, position_or_len}
use Rattle.std.proofs.lemmas.Bool.Decides.{nat_tests}
use Rattle.mx_host.specs.HostModel.{HostModel}
use Rattle.mx_plan.specs.Plan.{returns}
use Rattle.mx_files.specs.Clauses.{DoesPartBetween}
use Rattle.mx_files.specs.FilePlans.{file_plan}
use Rattle.mx_files.specs.Schedules.{AreEight, is_unnamed, judged, schedule_in, schedule_fault, schedule_plan}
use Rattle.mx_outcome.specs.declared.outcome.Outcome.{Outcome}
use Rattle.mx_outcome.specs.declared.outcome.Outcome.TheVariants.{BadSchedule}
use Rattle.mx_files.proofs.Parts.{works-then, works-ends, works-done, works-refused}

-- ---- where no byte is found that names none of eight, each names one

named : (b : ℕ) → nat_lt 7 b ≡ false → b < 8
named b h = grind (arith, nat_tests)

shorter : (i n : ℕ) → nat_lt (1 + i) (suc n) ≡ false → nat_lt i n ≡ false
shorter i n h = grind (arith, nat_tests)

begun : (n : ℕ) → nat_lt 0 (suc n) ≡ false → ⊥
begun n h = grind (arith, nat_tests)

all-named : (bytes : List ℕ) → nat_lt (position_or_len is_unnamed bytes) (length bytes) ≡ false → AreEight bytes
all-named [] h = tt
all-named (b ∷ bs) h = by (is_unnamed b) refl (all-named bs) h
  where
    by : (u : Bool) → is_unnamed b ≡ u → (nat_lt (position_or_len is_unnamed bs) (length bs) ≡ false → AreEight bs) → nat_lt (cond (not u) (1 + position_or_len is_unnamed bs) 0) (suc (length bs)) ≡ false → (b < 8) × AreEight bs
    by true e rest h = absurd (begun (length bs) h)
    by false e rest h = (named b e, rest (shorter (position_or_len is_unnamed bs) (length bs) h))

none-at : (b : Bool) (i n : ℕ) → nat_lt i n ≡ b → cond b (Some i) None ≡ None → nat_lt i n ≡ false
none-at true i n h e = absurd (cc)
none-at false i n h e = h

pub none-named : (bytes : List ℕ) → position is_unnamed bytes ≡ None → AreEight bytes
none-named bytes e = let i = position_or_len is_unnamed bytes in all-named bytes (none-at (nat_lt i (length bytes)) i (length bytes) refl e)

-- ---- the plan

judged-works : (a : Option HostModel) (k : ℕ) (fault : Option ℕ) (bytes : List ℕ) → DoesPartBetween a a k k (judged fault bytes) (returns (judged fault bytes))
judged-works a k None bytes = works-done a k bytes
judged-works a k (Some place) bytes = works-refused a k (BadSchedule place) refl (λ e. absurd (cc)) (λ e. absurd (cc)) (λ e. absurd (cc))

in-works : (a : Option HostModel) (k : ℕ) (bytes : List ℕ) → DoesPartBetween a a k k (schedule_in bytes) (returns (schedule_in bytes))
unfolding schedule_in
in-works a k bytes = judged-works a k (schedule_fault bytes) bytes

pub schedule-read : (a b : Option HostModel) (k m : ℕ) (name bytes : List ℕ) (r : Result (List ℕ) Outcome) → r ≡ schedule_in bytes → DoesPartBetween a b k m (Ok bytes) (file_plan 1025 name) →
    DoesPartBetween a b k m r (schedule_plan name)
unfolding schedule_plan
schedule-read a b k m name bytes r e w =
    rw e (works-then a b b k m m bytes (schedule_in bytes) (λ bytes. returns (schedule_in bytes)) (file_plan 1025 name) w (in-works b m bytes))

pub schedule-unread : (a b : Option HostModel) (k m : ℕ) (name : List ℕ) (outcome : Outcome) → DoesPartBetween {A = List ℕ} a b k m (Err outcome) (file_plan 1025 name) →
    DoesPartBetween a b k m (Err outcome) (schedule_plan name)
unfolding schedule_plan
schedule-unread a b k m name outcome w = works-ends a b k m outcome (λ bytes. returns (schedule_in bytes)) (file_plan 1025 name) w
