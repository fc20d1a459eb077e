-- The words that are an order, as a grammar:
--   run [--ring R] [--steps N] [-i] [--dump] [--report] [--last J] SRC [ARG ..]
--   sim [--ring R] [--steps N] [-i] [--dump] [--report] [--last J] OBJ [ARG ..]
--   asm SRC OBJ
--   gen [--ring R] N
--   type OBJ
--   multi [--ring R] [--steps N] [--dump] SCHED OBJ
-- where `-i`, `--report` and `--last` exclude one another.
-- A rule of this program.
use Rattle.std.specs.Prelude.{◌≡◌, ℕ, ◌+◌, true, false, List, [], ◌∷◌, ◌++◌, length, Ok, codes}
use Rattle.mx_words.specs.Values.{Word, is_option, ring_value, steps_value, last_value, blocks_value}
use Rattle.mx_words.specs.Orders.{runs_file, takes_ring, takes_steps, defaults, with_console, with_report, with_last, with_dump, with_ring, with_steps, run_order, asm_order, gen_order, multi_order}
use Rattle.mx_words.specs.declared.order.Command.{Command}
use Rattle.mx_words.specs.declared.order.Command.TheVariants.{Run, Sim, Gen, Show, Multi}
use Rattle.mx_words.specs.declared.order.Order.{Order}
use Rattle.mx_words.specs.declared.settings.Settings.{Settings}

-- The options of a command: the settings before them, their words, and the settings after them.
pub data Options : Command → Settings → List Word → Settings → Type 0 where
  none : (c : Command) (s : Settings) → Options c s [] s
  console : (c : Command) (s t : Settings) (words : List Word) → runs_file c ≡ true → s.report ≡ false → s.last ≡ 0 →
      Options c (with_console s) words t → Options c s (codes "-i" ∷ words) t
  report : (c : Command) (s t : Settings) (words : List Word) → runs_file c ≡ true → s.interactive ≡ false → s.last ≡ 0 →
      Options c (with_report s) words t → Options c s (codes "--report" ∷ words) t
  last : (c : Command) (s t : Settings) (value : Word) (n : ℕ) (words : List Word) → runs_file c ≡ true → s.interactive ≡ false → s.report ≡ false → last_value value ≡ Ok n →
      Options c (with_last s n) words t → Options c s (codes "--last" ∷ value ∷ words) t
  dump : (c : Command) (s t : Settings) (words : List Word) → takes_steps c ≡ true →
      Options c (with_dump s) words t → Options c s (codes "--dump" ∷ words) t
  ring : (c : Command) (s t : Settings) (value : Word) (n : ℕ) (words : List Word) → takes_ring c ≡ true → ring_value value ≡ Ok n →
      Options c (with_ring s n) words t → Options c s (codes "--ring" ∷ value ∷ words) t
  steps : (c : Command) (s t : Settings) (value : Word) (n : ℕ) (words : List Word) → takes_steps c ≡ true → steps_value value ≡ Ok n →
      Options c (with_steps s n) words t → Options c s (codes "--steps" ∷ value ∷ words) t

-- The words of an order. A file, the N of `gen` and the schedule of `multi` begin with no dash; arguments, the object of
-- `asm` and that of `multi` may.
-- `type` takes no options.
pub data Orders : List Word → Order → Type 0 where
  run : (s : Settings) (options : List Word) (source : Word) (arguments : List Word) → Options Run defaults options s → is_option source ≡ false →
      Orders (codes "run" ∷ (options ++ source ∷ arguments)) (run_order Run s (1 + length options))
  sim : (s : Settings) (options : List Word) (object : Word) (arguments : List Word) → Options Sim defaults options s → is_option object ≡ false →
      Orders (codes "sim" ∷ (options ++ object ∷ arguments)) (run_order Sim s (1 + length options))
  asm : (source object : Word) → is_option source ≡ false → Orders (codes "asm" ∷ source ∷ object ∷ []) (asm_order defaults 1)
  gen : (s : Settings) (options : List Word) (number : Word) (n : ℕ) → Options Gen defaults options s → is_option number ≡ false → blocks_value number ≡ Ok n →
      Orders (codes "gen" ∷ (options ++ number ∷ [])) (gen_order s n)
  list : (object : Word) → is_option object ≡ false → Orders (codes "type" ∷ object ∷ []) (run_order Show defaults 1)
  multi : (s : Settings) (options : List Word) (schedule object : Word) → Options Multi defaults options s → is_option schedule ≡ false →
      Orders (codes "multi" ∷ (options ++ schedule ∷ object ∷ [])) (multi_order s (1 + length options))
