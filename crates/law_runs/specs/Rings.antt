-- Orders that differ in the size of the ring, and in whether reports are asked for.
use Rattle.std.specs.Prelude.{◌≡◌, List, [], ◌∷◌, Ok, codes}
use Rattle.mx_host.specs.HostModel.{HostModel}
use Rattle.mx_run.specs.WildRuns.{list_machine}
use Rattle.mx_watch.specs.Watching.{Watching}
use Rattle.mx_words.specs.Orders.{order_of}
use Rattle.mx_words.specs.declared.order.Command.{Command}
use Rattle.mx_words.specs.declared.order.Command.TheVariants.{Run, Asm, Sim, Gen, Show, Multi}
use Rattle.mx_words.specs.declared.order.Order.{Order}
use Rattle.mx_begin.specs.Arguments.{Word, word_at, arguments}
use Rattle.mx_files.specs.Answers.{Answer}
use Rattle.mx_top.specs.Reports.{watched_product}

-- the commands that hand arguments to a program
abbrev pub HandsArguments : Command → Type 0
HandsArguments Run = Unit {0}
HandsArguments Sim = Unit {0}
HandsArguments Asm = ⊥
HandsArguments Gen = ⊥
HandsArguments Show = ⊥
HandsArguments Multi = ⊥

-- the same command on the same file, with the same arguments where it hands them to a program, the same bounds and wishes
pub record DifferInRing (words others : List Word) (o p : Order) : Type 0 where
  pub command : o.command ≡ p.command
  pub file : word_at words o.file ≡ word_at others p.file
  pub object : word_at words o.rest ≡ word_at others p.rest
  pub schedule : o.command ≡ Multi → word_at words o.schedule ≡ word_at others p.schedule
  pub arguments : HandsArguments o.command → arguments words o ≡ arguments others p
  pub steps : o.steps ≡ p.steps
  pub interactive : o.interactive ≡ p.interactive
  pub dump : o.dump ≡ p.dump
  pub blocks : o.number ≡ p.number
  pub last : o.last ≡ p.last

-- two orders that differ so
pub record OrderPair : Type 0 where
  pub words : List Word
  pub others : List Word
  pub one : Order
  pub other : Order
  pub first : order_of words ≡ Ok one
  pub second : order_of others ≡ Ok other
  pub alike : DifferInRing words others one other

abbrev pub SameReports : OrderPair → Type 0
SameReports r = r.one.report ≡ r.other.report

abbrev pub SameRings : OrderPair → Type 0
SameRings r = r.one.ring ≡ r.other.ring

-- what the program does over the list machine, with watchers
abbrev pub watching : List Word → List Watching → HostModel → Answer
watching words watchers m = watched_product list_machine words watchers m

-- the words of `gen`, without `--ring` and with it
abbrev pub gen_words : Word → List Word
gen_words blocks = codes "gen" ∷ blocks ∷ []

abbrev pub gen_ring_words : Word → Word → List Word
gen_ring_words ring blocks = codes "gen" ∷ codes "--ring" ∷ ring ∷ blocks ∷ []
