-- The reports of all watchers, in order.
use Rattle.std.proofs.Common.{◌≡◌, ◌≢◌, refl, ◌<◌, ◌≤◌, ◌+◌, ◌-◌, ℕ, suc, ◌==◌, Bool, true, false, cond, List, [], ◌∷◌, ◌++◌, Option, None, Some, take, drop, length, map, zip, get_or, slice_index_or, arith, ap, ◌∙◌, sym}
use Rattle.std.specs.List.{flat_map, range_with_len}
use Rattle.std.proofs.lemmas.List.{append_assoc, append-nil, drop_more, take_more, take_all, drop-drop, length-map}
use Rattle.std.proofs.Math.ListN.{get_or-map}
use Rattle.std.proofs.lemmas.Grind.{common_steps}
use Rattle.mx_code.specs.declared.trace.Trace.{Trace}
use Rattle.mx_watch.specs.Watching.{Watching, later}
use Rattle.mx_watch.specs.Listening.{Listening, watched}
use Rattle.mx_watch.specs.Hearing.{Hears, heard, remains, reported, reports_in_turn}
use Rattle.mx_watch.specs.Reporting.{report_on, reports_on, texts_now, kept_at, kept_or_next, next_following, in_places}
use Rattle.mx_watch.specs.declared.telling.Report.{Report}
use Rattle.mx_watch.proofs.Passed.{nobody}
use Rattle.mx_watch.proofs.HearingLaws.{same_parts, left_of_all, kept_of_all}

-- ---- one watcher alone

-- it is left with this report to give, or this report is kept
data One (p : ℕ) (g : List ℕ) (left : List (ℕ × Watching)) (kept : List Report) : Type 0 where
  is_left : (w : Watching) → left ≡ (p, w) ∷ [] → kept ≡ [] → w.text [] ≡ g → One p g left kept
  is_kept : left ≡ [] → kept ≡ record { place = p; text = g } ∷ [] → One p g left kept

moved : (p : ℕ) (g : List ℕ) (left left' : List (ℕ × Watching)) (kept kept' : List Report) → left' ≡ left → kept' ≡ kept → One p g left kept → One p g left' kept'
moved p g left left' kept kept' el ek (is_left w a b c) = is_left w (el ∙ a) (ek ∙ b) c
moved p g left left' kept kept' el ek (is_kept a b) = is_kept (el ∙ a) (ek ∙ b)

silent : (ts : List Trace) (K : List Report) → watched ts (record { left = []; kept = K }) ≡ record { left = []; kept = K }
unfolding watched
silent [] K = refl
silent (t ∷ ts) K = ap (λ rs. watched ts (record { left = []; kept = rs })) (append-nil K) ∙ silent ts K

abbrev alone : ℕ → Watching → Listening
alone p w = record { left = (p, w) ∷ []; kept = [] }

abbrev AtOnce : List Trace → ℕ → Watching → Type 0
AtOnce h p w = One p (report_on h w) (watched h (alone p w)).left (watched h (alone p w)).kept

one-told : (t : Trace) (ts : List Trace) (p : ℕ) (w : Watching) → AtOnce ts p (later t w) → (b : Bool) →
    let r : Report = record { place = p; text = w.text (t ∷ []) } in
    let l : Listening = record { left = cond b [] ((p, later t w) ∷ []) ++ []; kept = [] ++ (cond b (r ∷ []) [] ++ []) } in
    One p (w.text (cond b (t ∷ []) (t ∷ heard (λ h. w.full (t ∷ h)) ts))) (watched ts l).left (watched ts l).kept
one-told t ts p w rest true =
    let r : Report = record { place = p; text = w.text (t ∷ []) } in
    let gone = silent ts (r ∷ []) in
    is_kept (ap (λ (l : Listening). l.left) gone) (ap (λ (l : Listening). l.kept) gone)
one-told t ts p w rest false = rest

one : (h : List Trace) (p : ℕ) (w : Watching) → AtOnce h p w
unfolding watched heard
one [] p w = is_left w refl refl refl
one (t ∷ ts) p w = one-told t ts p w (one ts p (later t w)) (w.full (t ∷ []))

abbrev own_reports : List Trace → ℕ × Watching → List Report
own_reports h w = flat_map (λ k. reported h k w) (range_with_len 0 (length h))

alone-reports : (h : List Trace) (w : ℕ × Watching) → reports_in_turn h (w ∷ []) ≡ own_reports h w
alone-reports h w = same_parts (λ k. reported h k w ++ []) (λ k. reported h k w) (λ k. append-nil (reported h k w)) (range_with_len 0 (length h))

one-of : (h : List Trace) (p : ℕ) (w : Watching) → One p (report_on h w) (remains h (p, w)) (own_reports h (p, w))
one-of h p w =
    moved p (report_on h w) _ _ _ _ (sym (left_of_all h (alone p w) ∙ append-nil (remains h (p, w)))) (sym (kept_of_all h (alone p w) ∙ alone-reports h (p, w))) (one h p w)

-- ---- the report that is kept for a place

either : Option (List ℕ) → Option (List ℕ) → Option (List ℕ)
either (Some x) o = Some x
either None o = o

kept-append : (q : ℕ) (xs ys : List Report) → kept_at q (xs ++ ys) ≡ either (kept_at q xs) (kept_at q ys)
unfolding kept_at either
kept-append q [] ys = refl
kept-append q (r ∷ rs) ys = by (r.place == q) (kept-append q rs ys)
  where
    by : (b : Bool) → kept_at q (rs ++ ys) ≡ either (kept_at q rs) (kept_at q ys) → cond b (Some r.text) (kept_at q (rs ++ ys)) ≡ either (cond b (Some r.text) (kept_at q rs)) (kept_at q ys)
    by true e = refl
    by false e = e

either-none : (o : Option (List ℕ)) → either o None ≡ o
unfolding either
either-none None = refl
either-none (Some x) = refl

module _ (q : ℕ) (A B : ℕ → List Report) where
  both : (ks : List ℕ) (k : ℕ) (rest : List Report) → kept_at q ((A k ++ B k) ++ rest) ≡ either (either (kept_at q (A k)) (kept_at q (B k))) (kept_at q rest)
  both ks k rest = kept-append q (A k ++ B k) rest ∙ ap (λ o. either o (kept_at q rest)) (kept-append q (A k) (B k))

  without-second : ((k : ℕ) → kept_at q (B k) ≡ None) → (ks : List ℕ) → kept_at q (flat_map (λ k. A k ++ B k) ks) ≡ kept_at q (flat_map A ks)
  without-second none [] = refl
  without-second none (k ∷ ks) =
      both ks k (flat_map (λ k. A k ++ B k) ks)
      ∙ ap (λ o. either (either (kept_at q (A k)) o) (kept_at q (flat_map (λ k. A k ++ B k) ks))) (none k)
      ∙ ap (λ o. either o (kept_at q (flat_map (λ k. A k ++ B k) ks))) (either-none (kept_at q (A k)))
      ∙ ap (either (kept_at q (A k))) (without-second none ks)
      ∙ sym (kept-append q (A k) (flat_map A ks))

  without-first : ((k : ℕ) → kept_at q (A k) ≡ None) → (ks : List ℕ) → kept_at q (flat_map (λ k. A k ++ B k) ks) ≡ kept_at q (flat_map B ks)
  unfolding either
  without-first none [] = refl
  without-first none (k ∷ ks) =
      both ks k (flat_map (λ k. A k ++ B k) ks)
      ∙ ap (λ o. either (either o (kept_at q (B k))) (kept_at q (flat_map (λ k. A k ++ B k) ks))) (none k)
      ∙ ap (either (kept_at q (B k))) (without-first none ks)
      ∙ sym (kept-append q (B k) (flat_map B ks))

other-one : (q p : ℕ) (text : List ℕ) (b : Bool) → (p == q) ≡ false → kept_at q (cond b (record { place = p; text = text } ∷ []) []) ≡ None
unfolding kept_at
other-one q p text true e = ap (λ c. cond c (Some text) None) e
other-one q p text false e = refl

differ : (p q : ℕ) → p ≢ q → (p == q) ≡ false
differ p q ne = grind (arith, common_steps)

-- those after it have greater places
none-following : (q : ℕ) (h : List Trace) (k a : ℕ) (ws : List Watching) → q < a → kept_at q (flat_map (reported h k) (zip (range_with_len a (length ws)) ws)) ≡ None
unfolding kept_at either
none-following q h k a [] lt = refl
none-following q h k a (w ∷ ws) lt =
    kept-append q (reported h k (a, w)) (flat_map (reported h k) (zip (range_with_len (a + 1) (length ws)) ws))
    ∙ ap (λ o. either o (kept_at q (flat_map (reported h k) (zip (range_with_len (a + 1) (length ws)) ws)))) (other-one q a _ _ (differ a q (λ e. absurd (omega (arith, lt, e)))))
    ∙ none-following q h k (a + 1) ws (omega (arith, lt))

-- ---- all of them

found-left : (a : ℕ) (ps : List ℕ) (kept : List Report) (g : List ℕ) (texts whole : List (List ℕ)) → kept_at a kept ≡ None → in_places ps kept texts ≡ whole → in_places (a ∷ ps) kept (g ∷ texts) ≡ g ∷ whole
unfolding in_places
found-left a ps kept g texts whole none rest = rw none (ap (λ ts. g ∷ ts) rest)

found-kept : (a : ℕ) (ps : List ℕ) (kept : List Report) (g : List ℕ) (texts whole : List (List ℕ)) → kept_at a kept ≡ Some g → in_places ps kept texts ≡ whole → in_places (a ∷ ps) kept texts ≡ g ∷ whole
unfolding in_places
found-kept a ps kept g texts whole some rest = rw some (ap (λ ts. g ∷ ts) rest)

abbrev left_texts : List Trace → List (ℕ × Watching) → List (List ℕ)
left_texts h ws = texts_now (map (λ w. w.1) (flat_map (remains h) ws))

first-of : (h : List Trace) (a : ℕ) (w : Watching) (following : List (ℕ × Watching)) (ps : List ℕ) (kept : List Report) (whole : List (List ℕ)) (left : List (ℕ × Watching)) (own : List Report) →
    left ≡ remains h (a, w) → kept_at a kept ≡ kept_at a own → One a (report_on h w) left own → in_places ps kept (left_texts h following) ≡ whole →
    in_places (a ∷ ps) kept (texts_now (map (λ w. w.1) (left ++ flat_map (remains h) following))) ≡ report_on h w ∷ whole
unfolding kept_at
first-of h a w following ps kept whole left own el e (is_left v l k t) rest =
    ap (λ ws. in_places (a ∷ ps) kept (texts_now (map (λ (w : ℕ × Watching). w.1) (ws ++ flat_map (remains h) following)))) l
    ∙ ap (λ g. in_places (a ∷ ps) kept (g ∷ left_texts h following)) t
    ∙ found-left a ps kept (report_on h w) (left_texts h following) whole (e ∙ ap (kept_at a) k) rest
first-of h a w following ps kept whole left own el e (is_kept l k) rest =
    ap (λ ws. in_places (a ∷ ps) kept (texts_now (map (λ (w : ℕ × Watching). w.1) (ws ++ flat_map (remains h) following)))) l
    ∙ found-kept a ps kept (report_on h w) (left_texts h following) whole (e ∙ ap (kept_at a) k ∙ own-found a (report_on h w)) rest
  where
    own-found : (a : ℕ) (g : List ℕ) → kept_at a (record { place = a; text = g } ∷ []) ≡ Some g
    own-found a g = ap (λ b. cond b (Some g) None) (same-place a)
      where
        same-place : (a : ℕ) → (a == a) ≡ true
        same-place a = grind (arith, common_steps)

all-from : (h : List Trace) (ws : List Watching) (a : ℕ) (kept : List Report) →
    ((q : ℕ) → a ≤ q → kept_at q kept ≡ kept_at q (reports_in_turn h (zip (range_with_len a (length ws)) ws))) →
    in_places (range_with_len a (length ws)) kept (left_texts h (zip (range_with_len a (length ws)) ws)) ≡ reports_on h ws
unfolding in_places
all-from h [] a kept same = refl
all-from h (w ∷ ws) a kept same =
    let following = zip (range_with_len (a + 1) (length ws)) ws in
    let ks = range_with_len 0 (length h) in
    let own : kept_at a kept ≡ kept_at a (own_reports h (a, w)) =
    same a (omega arith) ∙ without-second a (λ k. reported h k (a, w)) (λ k. flat_map (reported h k) following) (λ k. none-following a h k (a + 1) ws (omega arith)) ks in
    let others : (q : ℕ) → a + 1 ≤ q → kept_at q kept ≡ kept_at q (reports_in_turn h following) =
    λ q le. same q (omega (arith, le)) ∙ without-first q (λ k. reported h k (a, w)) (λ k. flat_map (reported h k) following) (λ k. other-one q a _ _ (differ a q (λ e. absurd (omega (arith, le, e))))) ks in
    first-of h a w following (range_with_len (a + 1) (length ws)) kept (reports_on h ws) _ _ refl own (one-of h a w) (all-from h ws (a + 1) kept others)

pub all-reported : (h : List Trace) (ws left : List Watching) (kept : List Report) → Hears h ws left [] kept →
    in_places (range_with_len 0 (length ws)) kept (texts_now left) ≡ reports_on h ws
all-reported h ws left kept e =
    ap (λ l. in_places (range_with_len 0 (length ws)) kept (texts_now l)) e.staying ∙ all-from h ws 0 kept (λ q le. ap (kept_at q) e.reports)

-- ---- the code

pub next-there : (xs : List (List ℕ)) (i : ℕ) (d : List ℕ) → i < length xs → take 1 (drop i xs) ≡ get_or xs i d ∷ []
next-there xs i d lt = rw (drop_more xs i d lt) refl

pub next-gone : (xs : List (List ℕ)) (i : ℕ) → length xs ≤ i → (take 1 (drop i xs) ≡ []) × (drop 1 (drop i xs) ≡ drop i xs)
next-gone xs i le = (grind (arith, common_steps), grind (arith, common_steps))

pub next-following : (xs : List (List ℕ)) (i : ℕ) → drop (i + 1) xs ≡ drop 1 (drop i xs)
next-following xs i = sym (drop-drop 1 i xs)

-- the search for a report
pub kept-none : (q : ℕ) (rs : List Report) (i : ℕ) (found : Option (List ℕ)) → length rs ≤ i → found ≡ kept_at q (drop i rs) → found ≡ None
unfolding kept_at
kept-none q rs i found le e = let none : drop i rs ≡ [] = grind (arith, common_steps) in e ∙ ap (kept_at q) none

pub kept-here : (q : ℕ) (rs : List Report) (i : ℕ) (d : Report) → i < length rs → ((get_or rs i d).place == q) ≡ true → kept_at q (drop i rs) ≡ Some (get_or rs i d).text
unfolding kept_at
kept-here q rs i d lt e = rw (drop_more rs i d lt, e) refl

pub kept-later : (q : ℕ) (rs : List Report) (i : ℕ) (d : Report) → i < length rs → ((get_or rs i d).place == q) ≡ false → kept_at q (drop i rs) ≡ kept_at q (drop (i + 1) rs)
unfolding kept_at
kept-later q rs i d lt e = rw (drop_more rs i d lt, e) refl

-- the summaries of those that are left
pub one-more : (ws : List Watching) (i : ℕ) (d : Watching) → i < length ws → take (i + 1) (texts_now ws) ≡ take i (texts_now ws) ++ (slice_index_or ws i d).text [] ∷ []
one-more ws i d lt =
    let long = length-map ws (λ (w : Watching). w.text []) in
    take_more (texts_now ws) i (d.text []) (omega (arith, lt, long)) ∙ ap (λ x. take i (texts_now ws) ++ x ∷ []) (get_or-map (λ (w : Watching). w.text []) ws i d)

pub summed-on : {A : Type 0} (f : A → Watching) (xs : List A) (at n : ℕ) (texts new : List (List ℕ)) (x : List ℕ) → n ≡ length xs → at < n → new ≡ texts ++ x ∷ [] →
    x ≡ (slice_index_or (map f xs) at nobody).text [] → texts ≡ take at (texts_now (map f xs)) → new ≡ take (at + 1) (texts_now (map f xs))
summed-on f xs at n texts new x count lt en ex e =
    en ∙ ap (λ ts. ts ++ x ∷ []) e ∙ ap (λ y. take at (texts_now (map f xs)) ++ y ∷ []) ex ∙ sym (one-more (map f xs) at nobody (omega (arith, lt, count, length-map xs f)))

pub all-summed : (ws : List Watching) (i : ℕ) (texts : List (List ℕ)) → length ws ≤ i → texts ≡ take i (texts_now ws) → texts ≡ texts_now ws
all-summed ws i texts le e = let long = length-map ws (λ (w : Watching). w.text []) in e ∙ take_all i (texts_now ws) (omega (arith, le, long))

-- the places in turn
pub place-on : (count place : ℕ) (kept : List Report) (left more texts : List (List ℕ)) (rest whole : List (List ℕ)) → place < count →
    texts ≡ rest ++ kept_or_next (kept_at place kept) left → more ≡ next_following (kept_at place kept) left →
    rest ++ in_places (range_with_len place (count - place)) kept left ≡ whole → texts ++ in_places (range_with_len (place + 1) (count - (place + 1))) kept more ≡ whole
unfolding in_places
place-on count place kept left more texts rest whole lt et em e =
    let next : count - place ≡ suc (count - (place + 1)) = omega (arith, lt) in
    rw (et, em) (append_assoc rest (kept_or_next (kept_at place kept) left) (in_places (range_with_len (place + 1) (count - (place + 1))) kept (next_following (kept_at place kept) left))
    ∙ sym (ap (λ n. rest ++ in_places (range_with_len place n) kept left) next) ∙ e)

pub places-over : (count place : ℕ) (kept : List Report) (left texts whole : List (List ℕ)) → count ≤ place → texts ++ in_places (range_with_len place (count - place)) kept left ≡ whole → texts ≡ whole
unfolding in_places
places-over count place kept left texts whole le e =
    let none : count - place ≡ 0 = omega (arith, le) in sym (ap (λ n. texts ++ in_places (range_with_len place n) kept left) none ∙ append-nil texts) ∙ e

pub places-begun : (count : ℕ) (kept : List Report) (left : List (List ℕ)) → in_places (range_with_len 0 (count - 0)) kept left ≡ in_places (range_with_len 0 count) kept left
places-begun count kept left = let all : count - 0 ≡ count = omega arith in rw all refl

pub ruleset in_turn = (next-there, next-gone, next-following, kept-none, kept-here, kept-later, one-more, all-summed, place-on, places-over, places-begun)

pub ruleset all_reported = (all-reported)
