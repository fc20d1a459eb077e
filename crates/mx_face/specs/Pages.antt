-- What a view has to say, and what it comes to over a host: a text on standard output, one on standard error, and an outcome. A text
-- of no bytes is not written.
use Rattle.std.specs.Prelude.{ℕ, ◌≡◌, ◌≢◌, List, [], ◌∷◌, Option, None, Some, Result, Ok, Err}
use Rattle.mx_host.specs.HostModel.{HostModel}
use Rattle.mx_host.specs.HostAnswer.{Then, write_answer}
use Rattle.mx_host.specs.Keeping.{Answers, ComesByFault, Keeps, OnlyByFailure}
use Rattle.mx_host.specs.declared.faults.HostFault.{HostFault}
use Rattle.mx_files.specs.Assembling.{refused_with}
use Rattle.mx_files.specs.Source.{file_bytes, source_pieces}
use Rattle.mx_files.specs.declared.refusal.Refusal.{Refusal}
use Rattle.mx_outcome.specs.Messages.{message_of}
use Rattle.mx_outcome.specs.declared.outcome.Outcome.{Outcome}
use Rattle.mx_outcome.specs.declared.outcome.Outcome.TheVariants.{Done, NoFile, HostFault as Broken, OutOfMemory}
use Rattle.mx_face.specs.declared.page.Page.{Page}

-- ---- standard error

-- a write that fails changes nothing
abbrev pub said : Outcome → Then (Result (Unit {0}) HostFault) → Then Outcome
said outcome (r, m) = (outcome, m)

abbrev pub remarked : Outcome → List ℕ → HostModel → Then Outcome
remarked outcome [] m = (outcome, m)
remarked outcome (b ∷ text) m = said outcome (write_answer m 260 (b ∷ text))

-- an outcome is told by its message
abbrev pub outcome_told : Outcome → HostModel → Then Outcome
outcome_told outcome m = remarked outcome (message_of outcome) m

-- ---- standard output

-- a text that is not written is a fault of the host
abbrev pub put_as : Then (Result (Unit {0}) HostFault) → Then (Result (Unit {0}) Outcome)
put_as (Ok u, m) = (Ok tt, m)
put_as (Err e, m) = (Err Broken, m)

abbrev pub text_put : List ℕ → HostModel → Then (Result (Unit {0}) Outcome)
text_put [] m = (Ok tt, m)
text_put (b ∷ text) m = put_as (write_answer m 259 (b ∷ text))

-- ---- pages

-- what follows the text
abbrev pub after_text : Page → Then (Result (Unit {0}) Outcome) → Then Outcome
after_text page (Ok u, m) = remarked page.outcome page.remark m
after_text page (Err outcome, m) = outcome_told outcome m

abbrev pub page_put : Page → HostModel → Then Outcome
page_put page m = after_text page (text_put page.text m)

-- the outcome of a source that is refused so, if it is
abbrev pub outcome_of : Option Refusal → Outcome
outcome_of None = Done 0
outcome_of (Some r) = refused_with r

-- ---- the source in a file

-- what follows the outcome of a source that is not read
abbrev pub unread : Then Outcome → Then (Result (List ℕ) Outcome)
unread (outcome, m) = (Err outcome, m)

-- a source that is not read is told
abbrev pub read_or_told : Then (Result (List ℕ) Outcome) → Then (Result (List ℕ) Outcome)
read_or_told (Ok source, m) = (Ok source, m)
read_or_told (Err outcome, m) = unread (outcome_told outcome m)

abbrev pub source_in : List ℕ → HostModel → Then (Result (List ℕ) Outcome)
source_in name m = read_or_told (file_bytes source_pieces name m)

abbrev pub page_of : (List ℕ → Page) → Then (Result (List ℕ) Outcome) → Then Outcome
page_of view (Ok source, m) = page_put (view source) m
page_of view (Err outcome, m) = (outcome, m)

-- what comes of the source in the file of this name, from which a view makes this page
abbrev pub shown_file : (List ℕ → Page) → List ℕ → HostModel → Then Outcome
shown_file view name m = page_of view (source_in name m)

-- ---- the words of clauses: `told` is what a host tells, `faults` its count of faults, `old` and `new` are the host before and after

-- over a host that tells its contents, the outcome and what the host then holds are those of f, unless there was no memory
abbrev pub Shows : {H : Type 0} → (H → Option HostModel) → H → H → Outcome → (HostModel → Then Outcome) → Type 0
Shows told old new result f = Answers (told old) (told new) OutOfMemory result f

-- an outcome that tells no fault of the host and no missing file
abbrev pub IsOfView : Outcome → Type 0
IsOfView outcome = (outcome ≢ Broken) × (outcome ≢ NoFile)

-- Where slots 258 and 259 lead to the tool's streams, the host is at fault only where a call failed; over a host that tells nothing
-- a file is missing only so, too; and what every function keeps is kept. `old` and `new` are what the host told before and after,
-- `earlier` and `later` its counts of faults.
pub record FaultsBetween {A : Type 0} (old new : Option HostModel) (earlier later : ℕ) (broken absent result : A) : Type 0 where
  pub host_fault : OnlyByFailure old broken result earlier later
  pub no_file : ComesByFault old absent result earlier later
  pub keeps : Keeps old new earlier later

-- the same holds of a whole
abbrev pub FaultsOnlyBy : {H : Type 0} → (H → Option HostModel) → (H → ℕ) → H → H → Outcome → Type 0
FaultsOnlyBy told faults old new result = FaultsBetween (told old) (told new) (faults old) (faults new) Broken NoFile result

-- and of a part, which gives something or ends with an outcome
abbrev pub PartFaultsOnlyBy : {H A : Type 0} → (H → Option HostModel) → (H → ℕ) → H → H → Result A Outcome → Type 0
PartFaultsOnlyBy told faults old new result = FaultsBetween (told old) (told new) (faults old) (faults new) (Err Broken) (Err NoFile) result

-- what comes of a page is so, if what was done before it is
abbrev pub FaultsOnward : {H : Type 0} → (H → Option HostModel) → (H → ℕ) → H → H → Outcome → Outcome → Type 0
FaultsOnward told faults old new outcome result =
    (start : Option HostModel) → (first : ℕ) → FaultsBetween start (told old) first (faults old) Broken NoFile outcome →
    FaultsBetween start (told new) first (faults new) Broken NoFile result
