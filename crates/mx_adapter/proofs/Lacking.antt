-- The first of some arguments that is lacking.
use Rattle.std.proofs.Common.{◌≡◌, ◌<◌, ◌≤◌, ◌+◌, ◌∙◌, ap, drop, get_or, length, map, ℕ, List, sym}
use Rattle.std.proofs.lemmas.List.{at_drop_all, at_drop_more}
use Rattle.std.specs.Prelude.{Option, None, Some, option_map}
use Rattle.serde_json.specs.Data.{Data}
use Rattle.serde_json.specs.View.{items_view, view}
use Rattle.serde_json.specs.declared.value.Value.{Value}
use Rattle.mx_adapter.specs.Needs.{Argument, argument_of, first_of, first_unmet, first_unmet_of_each, said_of_each, unmet}
use Rattle.mx_adapter.specs.declared.needs.Need.{Need}

-- ---- of the arguments of one value

first-need : (needs : List Need) (i : ℕ) (d : Need) (v : Option Data) → i < length needs → first_unmet (map argument_of (drop i needs)) v ≡ first_of (unmet (argument_of (get_or needs i d)) v) (first_unmet (map argument_of (drop (i + 1) needs)) v)
first-need needs i d v inside = at_drop_more (λ ys. first_unmet (map argument_of ys) v) needs i d inside

pub unmet-next : (needs : List Need) (i : ℕ) (d : Need) (v : Option Data) (whole o : Option (List ℕ)) → i < length needs → o ≡ unmet (argument_of (get_or needs i d)) v → o ≡ None → whole ≡ first_unmet (map argument_of (drop i needs)) v → whole ≡ first_unmet (map argument_of (drop (i + 1) needs)) v
unmet-next needs i d v whole o inside e n h =
    h ∙ first-need needs i d v inside ∙ ap (λ x. first_of x (first_unmet (map argument_of (drop (i + 1) needs)) v)) (sym e ∙ n)

pub unmet-found : (needs : List Need) (i : ℕ) (d : Need) (v : Option Data) (whole o : Option (List ℕ)) (text : List ℕ) → i < length needs → o ≡ unmet (argument_of (get_or needs i d)) v → o ≡ Some text → whole ≡ first_unmet (map argument_of (drop i needs)) v → Some text ≡ whole
unmet-found needs i d v whole o text inside e n h =
    sym (h ∙ first-need needs i d v inside ∙ ap (λ x. first_of x (first_unmet (map argument_of (drop (i + 1) needs)) v)) (sym e ∙ n))

pub unmet-none : (needs : List Need) (i : ℕ) (v : Option Data) (whole : Option (List ℕ)) → length needs ≤ i → whole ≡ first_unmet (map argument_of (drop i needs)) v → None ≡ whole
unmet-none needs i v whole past h = sym (h ∙ at_drop_all (λ ys. first_unmet (map argument_of ys) v) needs i past)

-- ---- of each breakpoint

first-part : (wants : List Argument) (parts : List Value) (i : ℕ) (d : Value) → i < length parts → first_unmet_of_each wants i (items_view (drop i parts)) ≡ first_of (option_map (said_of_each i) (first_unmet wants (Some (view (get_or parts i d))))) (first_unmet_of_each wants (i + 1) (items_view (drop (i + 1) parts)))
first-part wants parts i d inside = at_drop_more (λ ys. first_unmet_of_each wants i (items_view ys)) parts i d inside

pub each-next : (wants : List Argument) (parts : List Value) (i : ℕ) (d : Value) (whole o : Option (List ℕ)) → i < length parts → o ≡ option_map (said_of_each i) (first_unmet wants (Some (view (get_or parts i d)))) → o ≡ None → whole ≡ first_unmet_of_each wants i (items_view (drop i parts)) → whole ≡ first_unmet_of_each wants (i + 1) (items_view (drop (i + 1) parts))
each-next wants parts i d whole o inside e n h =
    h ∙ first-part wants parts i d inside ∙ ap (λ x. first_of x (first_unmet_of_each wants (i + 1) (items_view (drop (i + 1) parts)))) (sym e ∙ n)

pub each-found : (wants : List Argument) (parts : List Value) (i : ℕ) (d : Value) (whole o : Option (List ℕ)) (text : List ℕ) → i < length parts → o ≡ option_map (said_of_each i) (first_unmet wants (Some (view (get_or parts i d)))) → o ≡ Some text → whole ≡ first_unmet_of_each wants i (items_view (drop i parts)) → Some text ≡ whole
each-found wants parts i d whole o text inside e n h =
    sym (h ∙ first-part wants parts i d inside ∙ ap (λ x. first_of x (first_unmet_of_each wants (i + 1) (items_view (drop (i + 1) parts)))) (sym e ∙ n))

pub each-none : (wants : List Argument) (parts : List Value) (i : ℕ) (whole : Option (List ℕ)) → length parts ≤ i → whole ≡ first_unmet_of_each wants i (items_view (drop i parts)) → None ≡ whole
each-none wants parts i whole past h = sym (h ∙ at_drop_all (λ ys. first_unmet_of_each wants i (items_view ys)) parts i past)

pub ruleset lacking = (unmet-next, unmet-found, unmet-none, each-next, each-found, each-none)
