-- One text is the listing of at most one list of items and one trie.
use Rattle.std.proofs.Common.{◌≡◌, ℕ, List, [], ◌∷◌, ◌++◌, refl, sym, ap, subst, ◌∙◌, append_assoc, append-nil, drop}
use Rattle.std.proofs.lemmas.List.{append_cancel_left}
use Rattle.mx_type.proofs.Words.{AllByRecursion, flat_map, AreBytes, Fits, IsMiddle, Valid, Item, Load, Loc, Skip, FixOcta, FixNear, FixFar, File, Line, Spec, Pre, Post, Stab, cut-first, lambda_after, ended, stab_line, symbol_line, IsListing, item_text, items_text}
use Rattle.mx_type.proofs.Listed.{are-text, text-more}
use Rattle.mx_type.proofs.TrieBytes.{trie-bytes}
use Rattle.mx_type.proofs.Readings.{IsShown, bytes_in, first_in, item-read, stab-lacks, stab-read, trie-told}

-- the items before `stab`
record Front (items : List Item) : Type 0 where
  front : List Item
  whole : items ≡ front ++ Stab ∷ []
  fits : AllByRecursion Fits front
  shown : AllByRecursion IsShown front

middle-shown : (i : Item) → IsMiddle i → IsShown i
middle-shown (Load t) m = tt
middle-shown (Loc a) m = tt
middle-shown (Skip n) m = tt
middle-shown (FixOcta a) m = tt
middle-shown (FixNear n) m = tt
middle-shown (FixFar bits t) m = tt
middle-shown (File n name) m = tt
middle-shown (Line n) m = tt
middle-shown (Spec n) m = tt
middle-shown (Pre tetras) m = tt
middle-shown (Post g values) m = tt
middle-shown Stab m = m

shown-with : (middle : List Item) (g : ℕ) (values : List ℕ) → AllByRecursion IsMiddle middle → AllByRecursion IsShown (middle ++ Post g values ∷ [])
shown-with [] g values are = (tt, tt)
shown-with (i ∷ middle) g values are = (middle-shown i are.0, shown-with middle g values are.1)

fits-before : (front more : List Item) → AllByRecursion Fits (front ++ more) → AllByRecursion Fits front
fits-before [] more are = tt
fits-before (i ∷ front) more are = (are.0, fits-before front more are.1)

front-of : (items : List Item) → Valid items → Front items
front-of items v =
    let p = v.placed in
    let cut : items ≡ (Pre p.tetras ∷ p.middle ++ Post p.g p.values ∷ []) ++ Stab ∷ [] =
    p.whole ∙ sym (append_assoc (Pre p.tetras ∷ p.middle) (Post p.g p.values ∷ []) (Stab ∷ [])) in
    record {
      front = Pre p.tetras ∷ p.middle ++ Post p.g p.values ∷ [];
      whole = cut;
      fits = fits-before (Pre p.tetras ∷ p.middle ++ Post p.g p.values ∷ []) (Stab ∷ []) (subst (AllByRecursion Fits) cut v.fits);
      shown = (tt, shown-with p.middle p.g p.values p.between);
    }

-- `stab` gives no line
quiet-end : (front : List Item) → items_text 0 (front ++ Stab ∷ []) ≡ items_text 0 front
quiet-end front = text-more 0 front Stab ∙ append-nil (items_text 0 front)

not-shown : (i : Item) → IsShown i → Stab ≡ i → ⊥
not-shown i s is = subst IsShown (sym is) s

-- what two texts of items before the line of a trie tell
record Same (xs ys : List Item) (left right : List ℕ) : Type 0 where
  items : xs ≡ ys
  rest : left ≡ right

same-fronts : (a : ℕ) (xs ys : List Item) (s t u v : List ℕ) → AllByRecursion Fits xs → AllByRecursion Fits ys → AllByRecursion IsShown xs → AllByRecursion IsShown ys →
    items_text a xs ++ (ended (stab_line s) ++ u) ≡ items_text a ys ++ (ended (stab_line t) ++ v) → Same xs ys (ended (stab_line s) ++ u) (ended (stab_line t) ++ v)
unfolding items_text
same-fronts a [] [] s t u v fx fy sx sy same = record { items = refl; rest = same }
same-fronts a [] (y ∷ ys) s t u v fx fy sx sy same =
    absurd (not-shown y sy.0
    (sym (stab-read s u) ∙ ap first_in (same ∙ append_assoc (item_text a y) (items_text (lambda_after a y) ys) (ended (stab_line t) ++ v))
    ∙ item-read a y (items_text (lambda_after a y) ys ++ (ended (stab_line t) ++ v)) fy.0 sy.0))
same-fronts a (x ∷ xs) [] s t u v fx fy sx sy same =
    absurd (not-shown x sx.0
    (sym (stab-read t v) ∙ ap first_in (sym same ∙ append_assoc (item_text a x) (items_text (lambda_after a x) xs) (ended (stab_line s) ++ u))
    ∙ item-read a x (items_text (lambda_after a x) xs ++ (ended (stab_line s) ++ u)) fx.0 sx.0))
same-fronts a (x ∷ xs) (y ∷ ys) s t u v fx fy sx sy same =
    let left : List ℕ = items_text (lambda_after a x) xs ++ (ended (stab_line s) ++ u) in
    let right : List ℕ = items_text (lambda_after a y) ys ++ (ended (stab_line t) ++ v) in
    let parts : item_text a x ++ left ≡ item_text a y ++ right =
    sym (append_assoc (item_text a x) (items_text (lambda_after a x) xs) (ended (stab_line s) ++ u)) ∙ same
    ∙ append_assoc (item_text a y) (items_text (lambda_after a y) ys) (ended (stab_line t) ++ v) in
    let first : x ≡ y = sym (item-read a x left fx.0 sx.0) ∙ ap first_in parts ∙ item-read a y right fy.0 sy.0 in
    let rests : items_text (lambda_after a x) xs ++ (ended (stab_line s) ++ u) ≡ items_text (lambda_after a x) ys ++ (ended (stab_line t) ++ v) =
    append_cancel_left (item_text a x) _ _
    (parts ∙ ap (λ i. item_text a i ++ (items_text (lambda_after a i) ys ++ (ended (stab_line t) ++ v))) (sym first)) in
    let more : Same xs ys (ended (stab_line s) ++ u) (ended (stab_line t) ++ v) = same-fronts (lambda_after a x) xs ys s t u v fx.1 fy.1 sx.1 sy.1 rests in
    record { items = cc (first, more.items); rest = more.rest }

same-tries : (s t u v : List ℕ) → AreBytes s → AreBytes t → ended (stab_line s) ++ u ≡ ended (stab_line t) ++ v → s ≡ t
same-tries s t u v bs bt same =
    let lines : (stab_line s ≡ stab_line t) × (u ≡ v) =
    cut-first 10 (stab_line s) u (stab_line t) v (stab-lacks s) (stab-lacks t)
    (sym (append_assoc (stab_line s) (10 ∷ []) u) ∙ same ∙ append_assoc (stab_line t) (10 ∷ []) v) in
    sym (trie-told s bs) ∙ ap (λ l. bytes_in (drop 5 l)) lines.0 ∙ trie-told t bt

-- a listing is the text of the front, the line of the trie and the lines of its symbols
front-text : (text : List ℕ) (items : List Item) (trie : List ℕ) (f : Front items) (h : IsListing text items trie) →
    text ≡ items_text 0 f.front ++ (ended (stab_line trie) ++ flat_map (λ s. ended (symbol_line s)) h.symbols)
front-text text items trie f h =
    h.whole
    ∙ append_assoc h.lines (ended (stab_line trie)) (flat_map (λ s. ended (symbol_line s)) h.symbols)
    ∙ ap (λ l. l ++ (ended (stab_line trie) ++ flat_map (λ s. ended (symbol_line s)) h.symbols)) (are-text h.listed ∙ ap (items_text 0) f.whole ∙ quiet-end f.front)

fronts-told : (text : List ℕ) (items others : List Item) (trie other : List ℕ) (f : Front items) (g : Front others) (h : IsListing text items trie) (k : IsListing text others other) →
    Same f.front g.front (ended (stab_line trie) ++ flat_map (λ s. ended (symbol_line s)) h.symbols) (ended (stab_line other) ++ flat_map (λ s. ended (symbol_line s)) k.symbols)
fronts-told text items others trie other f g h k =
    same-fronts 0 f.front g.front trie other _ _ f.fits g.fits f.shown g.shown (sym (front-text text items trie f h) ∙ front-text text others other g k)

pub items-once : (text : List ℕ) (items others : List Item) (trie other : List ℕ) → Valid items → Valid others →
    IsListing text items trie → IsListing text others other → items ≡ others
items-once text items others trie other v w h k =
    let f : Front items = front-of items v in
    let g : Front others = front-of others w in
    f.whole ∙ ap (λ l. l ++ Stab ∷ []) (fronts-told text items others trie other f g h k).items ∙ sym g.whole

pub trie-once : (text : List ℕ) (items others : List Item) (trie other : List ℕ) → Valid items → Valid others →
    IsListing text items trie → IsListing text others other → trie ≡ other
trie-once text items others trie other v w h k =
    same-tries trie other _ _ (trie-bytes h.told) (trie-bytes k.told)
    (fronts-told text items others trie other (front-of items v) (front-of others w) h k).rest
