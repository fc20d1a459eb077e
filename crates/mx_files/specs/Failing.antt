-- How the work on files fails, over every host. `told` is what a host tells, `faults` its count of faults, `old` and `new` are the
-- host before and after.
use Rattle.std.specs.Prelude.{ℕ, ◌≡◌, false, Option, Result, Err, IfErr}
use Rattle.mx_host.specs.HostModel.{HostModel}
use Rattle.mx_host.specs.Keeping.{ComesByFault, Keeps, OnlyByFailure}
use Rattle.mx_outcome.specs.Kinds.{is_usage}
use Rattle.mx_outcome.specs.declared.outcome.Outcome.{Outcome}
use Rattle.mx_outcome.specs.declared.outcome.Outcome.TheVariants.{HostFault, NoFile}

-- Where slots 258 and 259 lead to the tool's streams, the host is at fault only where a call failed; over a host that tells nothing
-- a file is missing only so, too; the words are not at fault; and what every function keeps is kept.
abbrev pub FailsOnlyBy : {H : Type 0} → (H → Option HostModel) → (H → ℕ) → H → H → Outcome → Type 0
FailsOnlyBy told faults old new result =
    OnlyByFailure (told old) HostFault result (faults old) (faults new)
    × ComesByFault (told old) NoFile result (faults old) (faults new)
    × (is_usage result ≡ false)
    × Keeps (told old) (told new) (faults old) (faults new)

-- the same holds of a part, which gives something or ends with an outcome
abbrev pub PartFailsOnlyBy : {H A : Type 0} → (H → Option HostModel) → (H → ℕ) → H → H → Result A Outcome → Type 0
PartFailsOnlyBy told faults old new result =
    OnlyByFailure (told old) (Err HostFault) result (faults old) (faults new)
    × ComesByFault (told old) (Err NoFile) result (faults old) (faults new)
    × IfErr result (λ outcome. is_usage outcome ≡ false)
    × Keeps (told old) (told new) (faults old) (faults new)
