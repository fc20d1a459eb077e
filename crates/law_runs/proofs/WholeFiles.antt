-- Where no call that is made fails, a file is read whole, as far as the pieces reach.
use Rattle.std.proofs.Common.{◌≡◌, ℕ, ◌*◌, List, length, take, Some, None, Ok, Err, ◌∙◌, ap, arith}
use Rattle.mx_host.specs.HostModel.{HostModel, HasStartSlots, place_of}
use Rattle.mx_host.specs.HostAnswer.{Then, bytes_at}
use Rattle.std.specs.Prelude.{Result}
use Rattle.mx_host.proofs.Start.{start_slots-length}
use Rattle.mx_plan.specs.Counts.{NoneFailed}
use Rattle.mx_plan.proofs.Spared.{plan-spared}
use Rattle.mx_files.specs.FilePlans.{file_plan}
use Rattle.mx_files.specs.Source.{file_bytes}
use Rattle.mx_outcome.specs.declared.outcome.Outcome.{Outcome}
use Rattle.mx_outcome.specs.declared.outcome.Outcome.TheVariants.{NoFile}
use Rattle.law_runs.proofs.IdleFiles.{idle, file-idle, file-absent}

-- what is read is what the still model reads
read-of : (most : ℕ) (name : List ℕ) (m : HostModel) (r : Then (Result (List ℕ) Outcome)) → NoneFailed m (file_bytes most name m).1 → file_bytes most name (idle m.files m.slots m) ≡ r → (file_bytes most name m).0 ≡ r.0
read-of most name m r h e = ap (λ (t : Then (Result (List ℕ) Outcome)). t.0) ((plan-spared (file_plan most name) m).same h ∙ e)

pub file-read : (most : ℕ) (name : List ℕ) (m : HostModel) (at : ℕ) → NoneFailed m (file_bytes most name m).1 → HasStartSlots m → place_of m.files name ≡ Some at →
    (file_bytes most name m).0 ≡ Ok (take (4096 * most) (bytes_at m.files at))
file-read most name m at h slots e =
    let many : length m.slots ≡ 261 = ap length slots ∙ start_slots-length in
    read-of most name m _ h (file-idle most m.files m.slots m name at (omega arith) e)

pub file-missing : (most : ℕ) (name : List ℕ) (m : HostModel) → NoneFailed m (file_bytes most name m).1 → place_of m.files name ≡ None → (file_bytes most name m).0 ≡ Err NoFile
file-missing most name m h e = read-of most name m _ h (file-absent most m.files m.slots m name e)

pub ruleset wholes = (file-read, file-missing)
