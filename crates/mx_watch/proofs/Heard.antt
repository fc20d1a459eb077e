-- Watchers that are told traces in turn.
use Rattle.std.proofs.Common.{◌≡◌, refl, ◌<◌, ◌≤◌, ◌+◌, ℕ, suc, List, [], ◌∷◌, ◌++◌, drop, length, get_or, map, zip, arith, ap, ◌∙◌, sym}
use Rattle.std.specs.List.{range_with_len}
use Rattle.std.proofs.lemmas.List.{at_drop_more, at_drop_all, length-map}
use Rattle.std.proofs.lemmas.List.FromFn.{length-range_with_len}
use Rattle.mx_code.specs.declared.trace.Trace.{Trace}
use Rattle.mx_watch.specs.Watching.{Watching}
use Rattle.mx_watch.specs.Listening.{Listening, listening, starting, told, watched, watchers_left}
use Rattle.mx_watch.specs.declared.telling.Report.{Report}
use Rattle.mx_watch.proofs.Profiled.{range-more}

pub heard_more : (ts : List Trace) (i : ℕ) (d : Trace) (l next whole : Listening) → i < length ts → next ≡ told (get_or ts i d) l → watched (drop i ts) l ≡ whole → watched (drop (i + 1) ts) next ≡ whole
unfolding watched
heard_more ts i d l next whole inside e h =
    ap (watched (drop (i + 1) ts)) e ∙ sym (at_drop_more (λ xs. watched xs l) ts i d inside) ∙ h

pub heard_all : (ts : List Trace) (i : ℕ) (l whole : Listening) → length ts ≤ i → watched (drop i ts) l ≡ whole → l ≡ whole
unfolding watched
heard_all ts i l whole end h = sym (at_drop_all (λ xs. watched xs l) ts i end) ∙ h

pub zip-second : (P : List ℕ) (M : List Watching) → length P ≡ length M → map (λ w. w.1) (zip P M) ≡ M
zip-second [] [] same = refl
zip-second [] (m ∷ M) same = absurd (omega arith)
zip-second (p ∷ P) [] same = absurd (omega arith)
zip-second (p ∷ P) (m ∷ M) same = ap (λ l. m ∷ l) (zip-second P M (omega arith))

module _ {A : Type 0} (f : A → Watching) (ts : List Trace) (P Q : List ℕ) (xs ys : List A) (K R : List Report) (n : ℕ) (places : P ≡ range_with_len 0 n) (count : n ≡ length xs)
    (heard : listening Q (map f ys) R ≡ watched ts (listening P (map f xs) K)) where
  from_start : listening Q (map f ys) R ≡ watched ts (starting (map f xs) K)
  from_start = heard ∙ ap (λ p. watched ts (listening p (map f xs) K)) (places ∙ ap (range_with_len 0) (count ∙ sym (length-map xs f)))

  pub heard_left : length Q ≡ length ys → map f ys ≡ watchers_left (watched ts (starting (map f xs) K))
  heard_left same = let long = length-map ys f in sym (zip-second Q (map f ys) (omega arith)) ∙ ap watchers_left from_start

pub places_more : (ps : List ℕ) (n : ℕ) → ps ≡ range_with_len 0 n → ps ++ n ∷ [] ≡ range_with_len 0 (n + 1)
places_more ps n e =
    let next : n + 1 ≡ suc n = omega arith in
    let same : 0 + n ≡ n = omega arith in
    rw e (sym (ap (λ k. range_with_len 0 k) next ∙ range-more 0 n ∙ ap (λ k. range_with_len 0 n ++ k ∷ []) same))

pub places_none : [] ≡ range_with_len 0 0
places_none = refl

pub place_count : (ps : List ℕ) (n : ℕ) → ps ≡ range_with_len 0 n → length ps ≡ n
place_count ps n e = ap (λ (l : List ℕ). length l) e ∙ length-range_with_len 0 n

pub ruleset first_places = (places_more, places_none, place_count)
