use Rattle.std.proofs.Common.{◌∷◌, ◌-◌, ◌∙◌, ap, map, take, drop, length, length-drop, string_bytes, arith}
use Rattle.std.proofs.lemmas.List.{take_all}
use Rattle.mx_begin.specs.Arguments.{program_name}
use Rattle.mx_begin.proofs.Pools.{arguments-there}
use Rattle.mx_begin.proofs.argument.collect_arguments.Goals as goal

pub returns-clause-value : goal.returns-clause-value
returns-clause-value c =
    let words = c.args.words.now in
    let n = c.args.order.now.rest in
    let name = c.in_ok-name.ensures ∙ c.program_name.ensures ∙ ap program_name c.as_bytes.ensures.value in
    let rest = take_all (length words - n) (drop n words) (omega (arith, length-drop n words)) in
    arguments-there string_bytes words (take (length words - n) (drop n words)) c.args.order.now.file n c.index-words-order.result _ c.requires.file c.index-words-order.is rest
    (c.in_ok-arguments.ensures ∙ ap (λ x. x ∷ map string_bytes (take (length words - n) (drop n words))) name)
