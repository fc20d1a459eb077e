-- The sheet that is made of the counts of a run is that of the steps.
use Rattle.std.proofs.Common.{◌≡◌, ℕ, ◌+◌, ◌-◌, Bool, true, false, not, cond, List, [], ◌∷◌, Result, Ok, Err, Some, arith, refl}
use Rattle.mx_word.specs.declared.symbols.Symbol.{Symbol}
use Rattle.mx_host.specs.HostModel.{HostModel}
use Rattle.mx_mmo.specs.Image.{Image}
use Rattle.mx_load.specs.Objects.{object_loaded}
use Rattle.mx_code.specs.declared.trace.Trace.{Trace}
use Rattle.mx_run.specs.WildRuns.{MachineKind}
use Rattle.mx_words.specs.declared.order.Order.{Order}
use Rattle.mx_count.specs.Runs.{by_counts}
use Rattle.mx_count.specs.Sheets.{is_among, line_tally, tallies_in}
use Rattle.mx_count.specs.Tallies.{step_tally}
unfoldable use Rattle.mx_count.specs.Tallies.{added, nothing, tally_in}
use Rattle.mx_count.specs.declared.tally.Tally.{Tally}
use Rattle.mx_count.proofs.CountedRuns.{Remakes, image-same}
use Rattle.mx_object.specs.Addresses.{addresses_of, items_in}
use Rattle.mx_object.specs.Counting.{cells_of, counts_of, less, sheet_by, sheet_of}
use Rattle.mx_object.specs.Listing.{tetras_at}
use Rattle.mx_object.specs.Runs.{by_run, by_steps, by_tetras, loaded_with, object_counted, object_in, object_traced}
use Rattle.mx_object.specs.declared.tetras.ListedTetra.{ListedTetra}

-- ---- the steps elsewhere

record IsSum (x y z : Tally) : Type 0 where
  times : x.times + y.times ≡ z.times
  away : x.away + y.away ≡ z.away
  oops : x.oops + y.oops ≡ z.oops
  mems : x.mems + y.mems ≡ z.mems

step-sum : (b : Bool) (one x y z : Tally) → IsSum x y z → IsSum (added (cond b one nothing) x) (added (cond (not b) one nothing) y) (added one z)
unfolding added nothing
step-sum true one x y z s = record { times = omega (arith, s.times); away = omega (arith, s.away); oops = omega (arith, s.oops); mems = omega (arith, s.mems) }
step-sum false one x y z s = record { times = omega (arith, s.times); away = omega (arith, s.away); oops = omega (arith, s.oops); mems = omega (arith, s.mems) }

both-sum : (test : ℕ → Bool) (h : List Trace) → IsSum (tally_in test h) (tally_in (λ a. not (test a)) h) (tally_in (λ a. true) h)
unfolding tally_in nothing
both-sum test [] = record { times = refl; away = refl; oops = refl; mems = refl }
both-sum test (t ∷ ts) = step-sum (test t.pc) (step_tally t) (tally_in test ts) (tally_in (λ a. not (test a)) ts) (tally_in (λ a. true) ts) (both-sum test ts)

less-is : (x y z : Tally) → IsSum x y z → less z x ≡ y
less-is x y z s =
    let times : z.times - x.times ≡ y.times = omega (arith, s.times) in
    let away : z.away - x.away ≡ y.away = omega (arith, s.away) in
    let oops : z.oops - x.oops ≡ y.oops = omega (arith, s.oops) in
    let mems : z.mems - x.mems ≡ y.mems = omega (arith, s.mems) in
    λ i. record { times = times i; away = away i; oops = oops i; mems = mems i }

-- ---- the sheet

sheet-same : (tetras : List ListedTetra) (h : List Trace) → sheet_by (tallies_in h) tetras ≡ sheet_of (tallies_in h) tetras
sheet-same tetras h = λ i. record {
  tetras = tetras;
  counts = counts_of (line_tally (tallies_in h)) tetras;
  elsewhere = less-is (tally_in (is_among (cells_of tetras)) h) (tally_in (λ a. not (is_among (cells_of tetras) a)) h) (tally_in (λ a. true) h) (both-sum (is_among (cells_of tetras)) h) i;
  total = tally_in (λ a. true) h;
}

-- ---- the run

tetras-remade : (tetras : List ListedTetra) → Remakes (object_in tetras) by_counts (by_tetras tetras)
tetras-remade tetras = record {
  without = λ outcome. refl;
  with_steps = λ outcome h. λ i. record { outcome = outcome; sheet = Some (sheet-same tetras h i) };
}

loaded-same : (kind : MachineKind) (o : Order) (arguments : List (List ℕ)) (bytes : List ℕ) (r : Result (Image × List Symbol) (ℕ × ℕ)) (m : HostModel) →
    loaded_with by_run kind o arguments bytes r m ≡ loaded_with by_steps kind o arguments bytes r m
loaded-same kind o arguments bytes (Err (place, fault)) m = refl
loaded-same kind o arguments bytes (Ok (image, symbols)) m =
    let tetras : List ListedTetra = tetras_at image symbols (addresses_of (items_in bytes)) in
    image-same (object_in tetras) by_counts (by_tetras tetras) (tetras-remade tetras) kind o arguments image m

pub object-same : (kind : MachineKind) (o : Order) (arguments : List (List ℕ)) (bytes : List ℕ) (m : HostModel) →
    object_counted kind o arguments bytes m ≡ object_traced kind o arguments bytes m
object-same kind o arguments bytes m = loaded-same kind o arguments bytes (object_loaded bytes) m

pub ruleset counts = (object-same)
