-- The request of a name.
use Rattle.std.proofs.Common.{◌≡◌, ◌<◌, ◌≤◌, ◌+◌, ◌∙◌, ap, drop, get_or, length, map, ℕ, Bool, true, false, List, sym, cond}
use Rattle.std.proofs.lemmas.List.{at_drop_all, at_drop_more}
use Rattle.std.specs.Prelude.{bytes_eq}
use Rattle.mx_adapter.specs.declared.commands.Command.{Command}
use Rattle.mx_adapter.specs.declared.commands.Command.TheVariants.{Other}
use Rattle.mx_adapter.specs.declared.commands.Row.{Row}
use Rattle.mx_adapter.specs.Commands.{named_by, named_in}

pub named-next : (rows : List Row) (i : ℕ) (d : Row) (name : List ℕ) (whole : Command) → i < length rows → bytes_eq (named_by (get_or rows i d)).name name ≡ false → whole ≡ named_in (map named_by (drop i rows)) name → whole ≡ named_in (map named_by (drop (i + 1) rows)) name
named-next rows i d name whole inside e h =
    h ∙ at_drop_more (λ ys. named_in (map named_by ys) name) rows i d inside ∙ ap (λ (b : Bool). cond b (get_or rows i d).command (named_in (map named_by (drop (i + 1) rows)) name)) e

pub named-found : (rows : List Row) (i : ℕ) (d : Row) (name : List ℕ) (whole : Command) → i < length rows → bytes_eq (named_by (get_or rows i d)).name name ≡ true → whole ≡ named_in (map named_by (drop i rows)) name → (get_or rows i d).command ≡ whole
named-found rows i d name whole inside e h =
    sym (h ∙ at_drop_more (λ ys. named_in (map named_by ys) name) rows i d inside ∙ ap (λ (b : Bool). cond b (get_or rows i d).command (named_in (map named_by (drop (i + 1) rows)) name)) e)

pub named-none : (rows : List Row) (i : ℕ) (name : List ℕ) (whole : Command) → length rows ≤ i → whole ≡ named_in (map named_by (drop i rows)) name → Other ≡ whole
named-none rows i name whole past h = sym (h ∙ at_drop_all (λ ys. named_in (map named_by ys) name) rows i past)

pub ruleset naming = (named-next, named-found, named-none)
