use Rattle.std.proofs.Common.{◌≡◌, ◌++◌}
use Rattle.mx_gen.specs.Generator as spec
use Rattle.mx_top.proofs.generator.add_blocks.Given as goal

-- as many blocks as turns are there
abbrev pub invariant-loop-turn : goal.invariant-loop-turn
invariant-loop-turn l = record {
  random : l.x ≡ spec.random l.turn;
  text : l.text ≡ l.fn.text ++ spec.blocks l.turn;
}
