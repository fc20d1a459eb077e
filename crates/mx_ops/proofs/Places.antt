-- Tables read by their places.
use Rattle.std.proofs.Common.{ℕ, ◌<◌, ◌≡◌, List, [], ◌∷◌, map, get_or, sym, ◌∙◌, ap, arith, Bor}
use Rattle.std.proofs.Math.ListN.{get_or-map}
use Rattle.std.proofs.lemmas.List.FromFn.{get_or-map-range_with_len}
use Rattle.std.specs.List.{range_with_len}
use Rattle.mx_ops.proofs.Words.{opcode_names, opcode_name, shapes_of}
use Rattle.mx_ops.specs.declared.op.Shape.{Shape}

pub name-at : (xs : List (Bor (List ℕ))) (i code : ℕ) (d : Bor (List ℕ)) → map (λ s. s.now) xs ≡ opcode_names → d.now ≡ [] → i ≡ code → (get_or xs i d).now ≡ opcode_name code
unfolding opcode_name
name-at xs i code d same nothing is =
    sym (get_or-map (λ s. s.now) xs i d) ∙ ap (λ l. get_or l i d.now) same ∙ ap (λ e. get_or opcode_names i e) nothing ∙ ap (λ k. get_or opcode_names k []) is

pub shape-at : (xs : List Shape) (i code : ℕ) (d : Shape) → map (λ s. s ∷ []) xs ≡ map shapes_of (range_with_len 0 256) → i ≡ code → code < 256 → shapes_of code ≡ get_or xs i d ∷ []
shape-at xs i code d same is below =
    sym (get_or-map-range_with_len shapes_of 0 256 code code (d ∷ []) below (omega arith))
    ∙ ap (λ l. get_or l code (d ∷ [])) (sym same)
    ∙ get_or-map (λ s. s ∷ []) xs code d
    ∙ ap (λ k. get_or xs k d ∷ []) (sym is)
