-- A list of watchers, one of which is told a trace or leaves.
use Rattle.std.proofs.Common.{◌≡◌, ◌<◌, ℕ, suc, List, ◌++◌, map, take, drop, length, get_or, set, remove, ap, ◌∙◌, sym}
use Rattle.std.proofs.Math.Seq.{map-set_same}
use Rattle.std.proofs.lemmas.List.{map-set, map-append, take-map, drop-map, get_or-map}
use Rattle.mx_code.specs.declared.trace.Trace.{Trace}
use Rattle.mx_watch.specs.Watching.{Watching, later}

pub map-removed : {A : Type 0} (f : A → Watching) (xs ys : List A) (i : ℕ) → ys ≡ remove xs i → map f ys ≡ remove (map f xs) i
map-removed f xs ys i e =
    rw e (map-append f (take i xs) (drop (suc i) xs) ∙ ap (λ l. l ++ map f (drop (suc i) xs)) (sym (take-map f i xs)) ∙ ap (λ l. take i (map f xs) ++ l) (sym (drop-map f (suc i) xs)))

pub map-told : {A : Type 0} (f : A → Watching) (xs : List A) (i : ℕ) (x y : A) (t : Trace) (d : Watching) → i < length xs → x ≡ get_or xs i x → f y ≡ later t (f x)
    → map f (set xs i y) ≡ set (map f xs) i (later t (get_or (map f xs) i d))
map-told f xs i x y t d inside at e =
    let here : f x ≡ get_or (map f xs) i d = ap f at ∙ sym (get_or-map f xs i x d inside) in
    map-set f xs i y ∙ ap (λ w. set (map f xs) i w) (e ∙ ap (later t) here)

pub map-untold : {A : Type 0} (f : A → Watching) (xs : List A) (i : ℕ) (x y : A) → x ≡ get_or xs i x → f y ≡ f x → map f (set xs i y) ≡ map f xs
map-untold f xs i x y at e = map-set_same f xs i y x (e ∙ ap f at)

pub ruleset one_told = (map-removed, map-told, map-untold)
