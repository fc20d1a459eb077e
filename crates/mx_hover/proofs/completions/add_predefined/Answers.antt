use Rattle.std.proofs.Common.{◌≡◌, ◌++◌, List, ℕ, codes, subst}
use Rattle.std.specs.Prelude.{OnOk}
use Rattle.mx_hover.specs.Completions as spec
use Rattle.mx_hover.proofs.Named.{named}
use Rattle.mx_hover.proofs.completions.add_predefined.Goals as goal

pub returns : goal.returns
returns c =
    subst (λ (l : List (List ℕ)). OnOk c.add_names.result (c.add_names.new.values ≡ c.args.values.now ++ l))
    (named (spec.item_if c.args.word.now (codes "21")) _ _ _ c.list_predefined_words.ensures) c.add_names.ensures
