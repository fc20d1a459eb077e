-- The front of a list of watchers was told a trace, and the rest is still to be told.
use Rattle.std.proofs.Common.{◌≡◌, refl, ◌<◌, ◌≤◌, ◌+◌, ℕ, suc, List, [], ◌∷◌, ◌++◌, take, drop, length, map, zip, arith, ap, ◌∙◌, sym}
use Rattle.std.proofs.Math.Seq.{take-add}
use Rattle.std.proofs.lemmas.Grind.{flat_map-append}
use Rattle.std.proofs.lemmas.List.{append_assoc, append-nil, take_at, drop_at, drop-drop, take_all, drop_all, length-append, length-drop, length-map}
use Rattle.mx_code.specs.declared.trace.Trace.{Trace}
use Rattle.mx_watch.specs.Watching.{Watching}
use Rattle.mx_watch.specs.Lacking.{LacksAt, ToldSome, told_one}
use Rattle.mx_watch.specs.Listening.{Listening, listening, told, told_at, stays, leaves, still_listening, reports_at}
use Rattle.mx_watch.specs.declared.telling.Report.{Report}

-- the first k of those that listened at the start were told the trace: what listens now, what is kept and the index
-- of the first one that is still to be told
pub record Front (t : Trace) (start : Listening) (k : ℕ) (now : Listening) (at : ℕ) : Type 0 where
  pub left : now.left ≡ still_listening t (take k start.left) ++ drop k start.left
  pub kept : now.kept ≡ start.kept ++ reports_at t (take k start.left)
  pub next : at ≡ length (still_listening t (take k start.left))

pub front_none : (t : Trace) (start : Listening) → Front t start 0 start 0
front_none t start = record { left = refl; kept = sym (append-nil start.kept); next = refl }

pub front_more : (t : Trace) (start now : Listening) (left : List (ℕ × Watching)) (kept : List Report) (k at next : ℕ) → Front t start k now at → left ≡ told_at t at now.left
    → kept ≡ now.kept ++ reports_at t (take 1 (drop at now.left)) → next ≡ at + length (still_listening t (take 1 (drop at now.left)))
    → Front t start (k + 1) record { left = left; kept = kept } next
front_more t start now left kept k at next f l r n =
    let front = still_listening t (take k start.left) in
    let rest = drop k start.left in
    let reports = reports_at t (take k start.left) in
    let dropped : drop at now.left ≡ rest = ap (drop at) f.left ∙ drop_at front rest at (sym f.next) in
    let taken : take at now.left ≡ front = ap (take at) f.left ∙ take_at front rest at (sym f.next) in
    let more : take (k + 1) start.left ≡ take k start.left ++ take 1 rest = take-add k 1 start.left in
    let stay : still_listening t (take (k + 1) start.left) ≡ front ++ still_listening t (take 1 rest) = ap (still_listening t) more ∙ flat_map-append (stays t) (take k start.left) (take 1 rest) in
    let report : reports_at t (take (k + 1) start.left) ≡ reports ++ reports_at t (take 1 rest) = ap (reports_at t) more ∙ flat_map-append (leaves t) (take k start.left) (take 1 rest) in
    let following : drop (at + 1) now.left ≡ drop (k + 1) start.left = sym (drop-drop 1 at now.left) ∙ ap (drop 1) dropped ∙ drop-drop 1 k start.left in
    record {
      left = l ∙ ap (λ xs. (xs ++ still_listening t (take 1 (drop at now.left))) ++ drop (at + 1) now.left) taken
          ∙ ap (λ xs. (front ++ still_listening t (take 1 xs)) ++ drop (at + 1) now.left) dropped
          ∙ ap (λ xs. (front ++ still_listening t (take 1 rest)) ++ xs) following ∙ ap (λ xs. xs ++ drop (k + 1) start.left) (sym stay);
      kept = r ∙ ap (λ xs. now.kept ++ reports_at t (take 1 xs)) dropped ∙ ap (λ xs. xs ++ reports_at t (take 1 rest)) f.kept
          ∙ append_assoc start.kept reports (reports_at t (take 1 rest)) ∙ ap (λ xs. start.kept ++ xs) (sym report);
      next = n ∙ ap (λ xs. at + length (still_listening t (take 1 xs))) dropped ∙ ap (λ m. m + length (still_listening t (take 1 rest))) f.next
          ∙ sym (length-append front (still_listening t (take 1 rest))) ∙ ap (λ (xs : List (ℕ × Watching)). length xs) (sym stay);
    }

-- where memory runs out in the next one
pub front_lacks : (t : Trace) (start now next : Listening) (k at : ℕ) → Front t start k now at → LacksAt t at now next → ToldSome t start next
front_lacks t start now next k at f l =
    let front = still_listening t (take k start.left) in
    let rest = drop k start.left in
    let dropped : drop at now.left ≡ rest = ap (drop at) f.left ∙ drop_at front rest at (sym f.next) in
    let taken : take at now.left ≡ front = ap (take at) f.left ∙ take_at front rest at (sym f.next) in
    let following : drop (at + l.more) now.left ≡ drop (k + l.more) start.left = sym (drop-drop l.more at now.left) ∙ ap (drop l.more) dropped ∙ drop-drop l.more k start.left in
    record {
      first = k;
      more = l.more;
      one = l.one;
      left = l.left ∙ ap (λ xs. (xs ++ map (told_one t) (take l.more (drop at now.left))) ++ drop (at + l.more) now.left) taken
          ∙ ap (λ xs. (front ++ map (told_one t) (take l.more xs)) ++ drop (at + l.more) now.left) dropped ∙ ap (λ xs. (front ++ map (told_one t) (take l.more rest)) ++ xs) following;
      kept = l.kept ∙ f.kept;
    }

front_all : (t : Trace) (start now : Listening) (k at : ℕ) → Front t start k now at → length start.left ≤ k → now ≡ told t start
front_all t start now k at f all =
    let left : now.left ≡ still_listening t start.left =
    f.left ∙ ap (λ xs. still_listening t xs ++ drop k start.left) (take_all k start.left all) ∙ ap (λ xs. still_listening t start.left ++ xs) (drop_all k start.left all) ∙ append-nil (still_listening t start.left) in
    let kept : now.kept ≡ start.kept ++ reports_at t start.left = f.kept ∙ ap (λ xs. start.kept ++ reports_at t xs) (take_all k start.left all) in
    ap (λ xs. record { left = xs; kept = now.kept }) left ∙ ap (λ xs. record { left = still_listening t start.left; kept = xs }) kept

zip-none : (P : List ℕ) → length (zip {X = Watching} P []) ≡ 0
zip-none [] = refl
zip-none (p ∷ P) = refl

zip-length : (P : List ℕ) (M : List Watching) → length P ≡ length M → length (zip P M) ≡ length M
zip-length P [] same = zip-none P
zip-length [] (m ∷ M) same = absurd (omega arith)
zip-length (p ∷ P) (m ∷ M) same = ap suc (zip-length P M (omega arith))

module _ {A : Type 0} (f : A → Watching) where
  listeners : (P : List ℕ) (xs : List A) → length P ≡ length xs → length (zip P (map f xs)) ≡ length xs
  listeners P xs same = let long = length-map xs f in zip-length P (map f xs) (omega arith) ∙ long

  module _ (t : Trace) (P Q : List ℕ) (xs ys : List A) (K R : List Report) (k at n : ℕ) (same : length P ≡ length xs) (count : n ≡ length xs)
      (front : Front t (listening P (map f xs) K) k (listening Q (map f ys) R) at) where
    pub front_inside : length Q ≡ length ys → k < n → at < length ys
    front_inside now more =
        let whole = ap (λ (zs : List (ℕ × Watching)). length zs) front.left in
        let parts = length-append (still_listening t (take k (zip P (map f xs)))) (drop k (zip P (map f xs))) in
        let rest = length-drop k (zip P (map f xs)) in
        let here = front.next in
        let before = listeners P xs same in
        let after = listeners Q ys now in
        omega arith

    pub front_end : n ≤ k → listening Q (map f ys) R ≡ told t (listening P (map f xs) K)
    front_end end =
        let before = listeners P xs same in
        front_all t (listening P (map f xs) K) (listening Q (map f ys) R) k at front (omega arith)

pub ruleset turns = (front_none)
