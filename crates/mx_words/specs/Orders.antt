-- What the words of the command line order. A fault has its kind, and the place of the word that is at fault, or the
-- number of words where one is missing. The words are read from the left, and the first fault counts.
-- A rule of this program.
use Rattle.std.specs.Prelude.{◌≡◌, ◌<◌, ◌≤◌, ℕ, ◌+◌, ◌^◌, ◌==◌, ◌&&◌, ◌||◌, not, Bool, true, false, List, [], ◌∷◌, Option, None, Some, Result, Ok, Err, if◌then◌else◌, codes}
use Rattle.std.specs.Str.{bytes_eq}
use Rattle.mx_words.specs.Values.{Word, is_option, ring_value, steps_value, last_value, blocks_value}
use Rattle.mx_words.specs.declared.order.Command.{Command}
use Rattle.mx_words.specs.declared.order.Command.TheVariants.{Run, Asm, Sim, Gen, Show, Multi}
use Rattle.mx_words.specs.declared.order.Order.{Order}
use Rattle.mx_words.specs.declared.order.WordsFault.{WordsFault}
use Rattle.mx_words.specs.declared.settings.Settings.{Settings}

abbrev pub Ordered : Type 0
Ordered = Result Order WordsFault

abbrev pub fault : ℕ → ℕ → WordsFault
fault kind place = record { kind = kind; word = place }

-- the command that a word names
abbrev pub command_of : Word → Option Command
command_of word =
    if bytes_eq word (codes "run") then Some Run
    else if bytes_eq word (codes "asm") then Some Asm
    else if bytes_eq word (codes "sim") then Some Sim
    else if bytes_eq word (codes "gen") then Some Gen
    else if bytes_eq word (codes "type") then Some Show
    else if bytes_eq word (codes "multi") then Some Multi
    else None

-- whether a command runs a file that the words name
abbrev pub runs_file : Command → Bool
runs_file Run = true
runs_file Sim = true
runs_file Asm = false
runs_file Gen = false
runs_file Show = false
runs_file Multi = false

-- whether a command makes steps of an image up to a number, and may show memory at the end
abbrev pub takes_steps : Command → Bool
takes_steps Run = true
takes_steps Sim = true
takes_steps Multi = true
takes_steps Asm = false
takes_steps Gen = false
takes_steps Show = false

-- whether a command runs a program on a ring
abbrev pub takes_ring : Command → Bool
takes_ring Run = true
takes_ring Sim = true
takes_ring Asm = false
takes_ring Gen = true
takes_ring Show = false
takes_ring Multi = true

-- whether a word is this option of the command
abbrev pub is_console : Command → Word → Bool
is_console c word = runs_file c && bytes_eq word (codes "-i")

abbrev pub is_report : Command → Word → Bool
is_report c word = runs_file c && bytes_eq word (codes "--report")

abbrev pub is_last : Command → Word → Bool
is_last c word = runs_file c && bytes_eq word (codes "--last")

abbrev pub is_dump : Command → Word → Bool
is_dump c word = takes_steps c && bytes_eq word (codes "--dump")

abbrev pub is_steps : Command → Word → Bool
is_steps c word = takes_steps c && bytes_eq word (codes "--steps")

abbrev pub is_ring : Command → Word → Bool
is_ring c word = takes_ring c && bytes_eq word (codes "--ring")

-- without options: a ring of 256 registers, 10^9 steps, no console, no dump, no reports, and no step is taken back
abbrev pub defaults : Settings
defaults = record { ring = 256; steps = 10 ^ 9; interactive = false; dump = false; report = false; last = 0 }

abbrev pub with_console : Settings → Settings
with_console s = record s { interactive = true }

abbrev pub with_report : Settings → Settings
with_report s = record s { report = true }

abbrev pub with_last : Settings → ℕ → Settings
with_last s n = record s { last = n }

abbrev pub with_dump : Settings → Settings
with_dump s = record s { dump = true }

abbrev pub with_steps : Settings → ℕ → Settings
with_steps s n = record s { steps = n }

abbrev pub with_ring : Settings → ℕ → Settings
with_ring s n = record s { ring = n }

-- an order to run or to list the file at a place, with the arguments after it
abbrev pub run_order : Command → Settings → ℕ → Order
run_order c s place =
    record { command = c; ring = s.ring; steps = s.steps; interactive = s.interactive; dump = s.dump; file = place; rest = place + 1; number = 0; report = s.report; last = s.last; schedule = 0 }

-- an order to assemble the file at a place into the one that the next word names
abbrev pub asm_order : Settings → ℕ → Order
asm_order s place =
    record { command = Asm; ring = s.ring; steps = s.steps; interactive = s.interactive; dump = s.dump; file = place; rest = place + 1; number = 0; report = s.report; last = s.last; schedule = 0 }

-- an order to run the object after the schedule at a place on several processors
abbrev pub multi_order : Settings → ℕ → Order
multi_order s place =
    record { command = Multi; ring = s.ring; steps = s.steps; interactive = s.interactive; dump = s.dump; file = place + 1; rest = place + 2; number = 0; report = s.report; last = s.last; schedule = place }

-- an order to generate and run n blocks
abbrev pub gen_order : Settings → ℕ → Order
gen_order s n =
    record { command = Gen; ring = s.ring; steps = s.steps; interactive = s.interactive; dump = s.dump; file = 0; rest = 0; number = n; report = s.report; last = s.last; schedule = 0 }

-- The places that an order names lie among this many words, with what `asm` writes, and `gen` makes at most 10,000 blocks.
abbrev pub LiesIn : ℕ → Order → Type 0
LiesIn count o =
    (o.file < count) × (o.rest ≤ count) × (o.schedule < count) × (o.command ≡ Asm → o.rest < count) × (o.number ≤ 10000)

-- the words after the source of `asm`: one object, and no other word
abbrev pub object_after : Settings → ℕ → List Word → Ordered
object_after s place [] = Err (fault 7 (place + 1))
object_after s place (object ∷ []) = Ok (asm_order s place)
object_after s place (object ∷ other ∷ others) = Err (fault 8 (place + 2))

-- the words after the schedule of `multi`: one object, and no other word
abbrev pub processors_after : Settings → ℕ → List Word → Ordered
processors_after s place [] = Err (fault 7 (place + 1))
processors_after s place (object ∷ []) = Ok (multi_order s place)
processors_after s place (object ∷ other ∷ others) = Err (fault 8 (place + 2))

-- the words after the last one of an order, which is at a place: none
abbrev pub none_after : Order → ℕ → List Word → Ordered
none_after o place [] = Ok o
none_after o place (other ∷ others) = Err (fault 8 (place + 1))

-- the N of `gen` at a place, with the words after it
abbrev pub blocks_at : Settings → ℕ → Result ℕ ℕ → List Word → Ordered
blocks_at s place (Err kind) words = Err (fault kind place)
blocks_at s place (Ok n) words = none_after (gen_order s n) place words

-- a word at a place that is no option, with the words after it: a file, the N of `gen`, or the schedule of `multi`
abbrev pub file_at : Command → Settings → ℕ → Word → List Word → Ordered
file_at Run s place word words = Ok (run_order Run s place)
file_at Sim s place word words = Ok (run_order Sim s place)
file_at Asm s place word words = object_after s place words
file_at Gen s place word words = blocks_at s place (blocks_value word) words
file_at Show s place word words = none_after (run_order Show s place) place words
file_at Multi s place word words = processors_after s place words

-- a value at a place, and what follows it
abbrev pub valued : Result ℕ ℕ → ℕ → (ℕ → Ordered) → Ordered
valued (Err kind) place go = Err (fault kind place)
valued (Ok n) place go = go n

-- which options before it an option clashes with: `-i`, `--report` and `--last` exclude one another
abbrev pub takes_back : Settings → Bool
takes_back s = not (s.last == 0)

abbrev pub console_clashes : Settings → Bool
console_clashes s = s.report || takes_back s

abbrev pub report_clashes : Settings → Bool
report_clashes s = s.interactive || takes_back s

abbrev pub last_clashes : Settings → Bool
last_clashes s = s.interactive || s.report

-- an option at a place that clashes with one before it, or what follows
abbrev pub unless : Bool → ℕ → Ordered → Ordered
unless clashes place more = if clashes then Err (fault 10 place) else more

-- The words after a command, the first of them at a place, with what the options before it set. Options are before
-- the file, and the last one counts; `-i`, `--report` and `--last` exclude one another.
unfoldable pub options_from : Command → Settings → ℕ → List Word → Ordered
options_from c s place [] = Err (fault 7 place)
options_from c s place (word ∷ []) =
    if is_option word
    then (if is_console c word then unless (console_clashes s) place (Err (fault 7 (place + 1)))
    else if is_report c word then unless (report_clashes s) place (Err (fault 7 (place + 1)))
    else if is_last c word then unless (last_clashes s) place (Err (fault 4 (place + 1)))
    else if is_dump c word then Err (fault 7 (place + 1))
    else if is_ring c word then Err (fault 4 (place + 1))
    else if is_steps c word then Err (fault 4 (place + 1))
    else Err (fault 3 place))
    else file_at c s place word []
options_from c s place (word ∷ value ∷ words) =
    if is_option word
    then (if is_console c word then unless (console_clashes s) place (options_from c (with_console s) (place + 1) (value ∷ words))
    else if is_report c word then unless (report_clashes s) place (options_from c (with_report s) (place + 1) (value ∷ words))
    else if is_last c word then unless (last_clashes s) place (valued (last_value value) (place + 1) (λ n. options_from c (with_last s n) (place + 2) words))
    else if is_dump c word then options_from c (with_dump s) (place + 1) (value ∷ words)
    else if is_ring c word then valued (ring_value value) (place + 1) (λ n. options_from c (with_ring s n) (place + 2) words)
    else if is_steps c word then valued (steps_value value) (place + 1) (λ n. options_from c (with_steps s n) (place + 2) words)
    else Err (fault 3 place))
    else file_at c s place word (value ∷ words)

-- the words after a command, if the first word names one
abbrev pub commanded : Option Command → List Word → Ordered
commanded None words = Err (fault 2 0)
commanded (Some c) words = options_from c defaults 1 words

-- what the words order
abbrev pub order_of : List Word → Ordered
order_of [] = Err (fault 1 0)
order_of (word ∷ words) = commanded (command_of word) words
