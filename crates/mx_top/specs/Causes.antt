-- What holds over every host, also over one that tells nothing. `told` is what a host tells, `faults` its count of faults, `old` and
-- `new` are the host before and after.
use Rattle.std.specs.Prelude.{ℕ, ◌≡◌, ◌≢◌, List, Option, Err}
use Rattle.mx_host.specs.HostModel.{HostModel}
use Rattle.mx_host.specs.Keeping.{ComesByFault, Keeps, OnlyByFailure}
use Rattle.mx_words.specs.Orders.{order_of}
use Rattle.mx_words.specs.declared.order.WordsFault.{WordsFault}
use Rattle.mx_outcome.specs.declared.outcome.Outcome.{Outcome}
use Rattle.mx_outcome.specs.declared.outcome.Outcome.TheVariants.{HostFault, NoFile, OutOfMemory, Usage}
use Rattle.mx_begin.specs.Arguments.{Word}

-- Of all that the program does by these words: they are told to be no order exactly where they are none, unless memory runs out;
-- where slots 258 and 259 lead to the tool's streams, the host is at fault only where a call failed; over a host that tells nothing
-- a file is missing only so, too; and what every function keeps is kept.
pub record Causes {H : Type 0} (told : H → Option HostModel) (faults : H → ℕ) (old new : H) (result : Outcome) (words : List Word) : Type 0 where
  pub usage : (fault : WordsFault) → order_of words ≡ Err fault → result ≢ OutOfMemory → result ≡ Usage fault
  pub only_usage : (fault : WordsFault) → result ≡ Usage fault → order_of words ≡ Err fault
  pub host_fault : OnlyByFailure (told old) HostFault result (faults old) (faults new)
  pub no_file : ComesByFault (told old) NoFile result (faults old) (faults new)
  pub keeps : Keeps (told old) (told new) (faults old) (faults new)
