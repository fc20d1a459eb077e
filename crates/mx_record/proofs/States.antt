-- The pictures that records lead to are those of the steps, and they are made at the same addresses.
use Rattle.std.proofs.Common.{◌≡◌, ◌≤◌, ℕ, zero, suc, ◌+◌, List, [], ◌∷◌, length, take, arith, refl, ◌∙◌, ap}
use Rattle.mx_replay.specs.declared.program.Program.{Program}
use Rattle.mx_record.specs.Counts.{one_at, records_at, turns_at}
use Rattle.mx_record.specs.Pictures.{picture_at}
use Rattle.mx_record.specs.Records.{AreRecords, all_applied}
use Rattle.mx_record.specs.declared.changes.Record.{Record}

pub states-follow : (p : Program) (k i : ℕ) (records : List Record) → AreRecords p k records → i ≤ length records → all_applied (take i records) (picture_at p k) ≡ picture_at p (k + i)
unfolding all_applied AreRecords
states-follow p k zero [] h l = ap (picture_at p) (omega arith)
states-follow p k (suc i) [] h l = absurd (omega (arith, l))
states-follow p k zero (r ∷ records) h l = ap (picture_at p) (omega arith)
states-follow p k (suc i) (r ∷ records) h l =
    ap (all_applied (take i records)) h.0 ∙ states-follow p (suc k) i records h.1 (omega (arith, l)) ∙ ap (picture_at p) (omega arith)

pub records-counted : (p : Program) (k a : ℕ) (records : List Record) → AreRecords p k records → records_at a records (picture_at p k) ≡ turns_at p a k (length records)
unfolding records_at turns_at AreRecords
records-counted p k a [] h = refl
records-counted p k a (r ∷ records) h =
    ap (λ q. one_at a (picture_at p k) + q) (ap (records_at a records) h.0 ∙ records-counted p (suc k) a records h.1)

pub ruleset states = (states-follow, records-counted)
