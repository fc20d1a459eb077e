use Rattle.std.proofs.Common.{length, ◌-◌, ◌≡◌, map, drop, string_bytes}
use Rattle.mx_words.specs.Orders.{defaults, options_from}
use Rattle.mx_words.proofs.words.read_command.Given as goal

abbrev pub invariant-loop-at : goal.invariant-loop-at
invariant-loop-at l =
    options_from l.command defaults 1 (drop 1 (map string_bytes l.words)) ≡ options_from l.command l.settings l.at (drop l.at (map string_bytes l.words))

abbrev pub decreases-loop-at : goal.decreases-loop-at
decreases-loop-at l = length l.words - l.at
