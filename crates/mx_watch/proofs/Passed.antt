-- The watcher at an index is told a trace: it stays, or it leaves with its place.
use Rattle.std.proofs.Common.{◌≡◌, refl, ◌<◌, ◌+◌, ℕ, zero, suc, Bool, true, false, List, [], ◌∷◌, ◌++◌, take, drop, length, get_or, set, map, remove, zip, arith, ap, ◌∙◌, sym}
use Rattle.std.proofs.Common.{Ok, Err}
use Rattle.std.specs.Prelude.{Result, OnErr}
use Rattle.std.proofs.lemmas.List.{append_assoc, append-nil, take-append-drop, take-set, drop-set-lt, get_or-set_same, length-map}
use Rattle.mx_code.specs.declared.trace.Trace.{Trace}
use Rattle.mx_watch.specs.Watching.{Watching, later, wish_if}
use Rattle.mx_watch.specs.Lacking.{LacksAt, told_one}
use Rattle.mx_watch.specs.Listening.{listening, told_at, still_listening, reports_at}
use Rattle.mx_watch.specs.declared.telling.Report.{Report}
use Rattle.mx_watch.specs.declared.watcher.Wish.TheVariants.{More, Full}

abbrev pub nobody : Watching
nobody = record { text = λ h. []; full = λ h. true }

not-full : (b : Bool) → More ≡ wish_if b → b ≡ false
not-full false e = refl
not-full true e = absurd (cc)

is-full : (b : Bool) → Full ≡ wish_if b → b ≡ true
is-full true e = refl
is-full false e = absurd (cc)

zip-one : (P : List ℕ) (M : List Watching) (i : ℕ) (d : Watching) → length P ≡ length M → i < length M → take 1 (drop i (zip P M)) ≡ (get_or P i 0, get_or M i d) ∷ []
zip-one P [] i d same inside = absurd (omega arith)
zip-one [] (m ∷ M) i d same inside = absurd (omega arith)
zip-one (p ∷ P) (m ∷ M) zero d same inside = refl
zip-one (p ∷ P) (m ∷ M) (suc i) d same inside = zip-one P M i d (omega arith) (omega arith)

zip-set : (P : List ℕ) (M : List Watching) (i : ℕ) (w : Watching) → length P ≡ length M → i < length M → zip P (set M i w) ≡ take i (zip P M) ++ (get_or P i 0, w) ∷ drop (suc i) (zip P M)
zip-set P [] i w same inside = absurd (omega arith)
zip-set [] (m ∷ M) i w same inside = absurd (omega arith)
zip-set (p ∷ P) (m ∷ M) zero w same inside = refl
zip-set (p ∷ P) (m ∷ M) (suc i) w same inside = ap (λ l. (p, m) ∷ l) (zip-set P M i w (omega arith) (omega arith))

zip-removed : (P : List ℕ) (M : List Watching) (i : ℕ) → length P ≡ length M → i < length M → zip (remove P i) (remove M i) ≡ take i (zip P M) ++ drop (suc i) (zip P M)
zip-removed P [] i same inside = absurd (omega arith)
zip-removed [] (m ∷ M) i same inside = absurd (omega arith)
zip-removed (p ∷ P) (m ∷ M) zero same inside = refl
zip-removed (p ∷ P) (m ∷ M) (suc i) same inside = ap (λ l. (p, m) ∷ l) (zip-removed P M i (omega arith) (omega arith))

one-stays : (t : Trace) (w : ℕ × Watching) → w.1.full (t ∷ []) ≡ false → still_listening t (w ∷ []) ≡ (w.0, later t w.1) ∷ []
one-stays t w e = rw e refl

no-report : (t : Trace) (w : ℕ × Watching) → w.1.full (t ∷ []) ≡ false → reports_at t (w ∷ []) ≡ []
no-report t w e = rw e refl

none-stays : (t : Trace) (w : ℕ × Watching) → w.1.full (t ∷ []) ≡ true → still_listening t (w ∷ []) ≡ []
none-stays t w e = rw e refl

one-report : (t : Trace) (w : ℕ × Watching) → w.1.full (t ∷ []) ≡ true → reports_at t (w ∷ []) ≡ record { place = w.0; text = w.1.text (t ∷ []) } ∷ []
one-report t w e = rw e refl

remove-told : (M : List Watching) (i : ℕ) (w : Watching) → remove (set M i w) i ≡ remove M i
remove-told M i w =
    ap (λ l. l ++ drop (suc i) (set M i w)) (take-set M i w) ∙ ap (λ l. take i M ++ l) (drop-set-lt (suc i) M i w (omega arith))

module _ {A : Type 0} (f : A → Watching) (t : Trace) (P : List ℕ) (xs : List A) (i : ℕ) (same : length P ≡ length xs) (inside : i < length xs) where
  the-one : take 1 (drop i (zip P (map f xs))) ≡ (get_or P i 0, get_or (map f xs) i nobody) ∷ []
  the-one = let long = length-map xs f in zip-one P (map f xs) i nobody (omega arith) (omega arith)

  pub stayed : (N : List Watching) → More ≡ wish_if ((get_or (map f xs) i nobody).full (t ∷ [])) → N ≡ set (map f xs) i (later t (get_or (map f xs) i nobody)) → zip P N ≡ told_at t i (zip P (map f xs))
  stayed N e n =
      let long = length-map xs f in
      let w : ℕ × Watching = (get_or P i 0, get_or (map f xs) i nobody) in
      let z = zip P (map f xs) in
      let now : still_listening t (take 1 (drop i z)) ≡ (w.0, later t w.1) ∷ [] = ap (still_listening t) the-one ∙ one-stays t w (not-full (w.1.full (t ∷ [])) e) in
      let next : i + 1 ≡ suc i = omega arith in
      ap (λ l. zip P l) n ∙ zip-set P (map f xs) i (later t w.1) (omega arith) (omega arith) ∙ sym (append_assoc (take i z) ((w.0, later t w.1) ∷ []) (drop (suc i) z))
      ∙ ap (λ k. (take i z ++ (w.0, later t w.1) ∷ []) ++ drop k z) (sym next) ∙ ap (λ l. (take i z ++ l) ++ drop (i + 1) z) (sym now)

  pub stayed-kept : (R : List Report) → More ≡ wish_if ((get_or (map f xs) i nobody).full (t ∷ [])) → R ≡ R ++ reports_at t (take 1 (drop i (zip P (map f xs))))
  stayed-kept R e =
      let w : ℕ × Watching = (get_or P i 0, get_or (map f xs) i nobody) in
      sym (append-nil R) ∙ ap (λ l. R ++ l) (sym (ap (reports_at t) the-one ∙ no-report t w (not-full (w.1.full (t ∷ [])) e)))

  pub stayed-next : More ≡ wish_if ((get_or (map f xs) i nobody).full (t ∷ [])) → i + 1 ≡ i + length (still_listening t (take 1 (drop i (zip P (map f xs)))))
  stayed-next e =
      let w : ℕ × Watching = (get_or P i 0, get_or (map f xs) i nobody) in
      ap (λ (l : List (ℕ × Watching)). i + length l) (sym (ap (still_listening t) the-one ∙ one-stays t w (not-full (w.1.full (t ∷ [])) e)))

  gone : Full ≡ wish_if ((get_or (map f xs) i nobody).full (t ∷ [])) → still_listening t (take 1 (drop i (zip P (map f xs)))) ≡ []
  gone e =
      let w : ℕ × Watching = (get_or P i 0, get_or (map f xs) i nobody) in
      ap (still_listening t) the-one ∙ none-stays t w (is-full (w.1.full (t ∷ [])) e)

  pub left : (Q : List ℕ) (M N : List Watching) → Full ≡ wish_if ((get_or (map f xs) i nobody).full (t ∷ [])) → M ≡ set (map f xs) i (later t (get_or (map f xs) i nobody))
      → N ≡ remove M i → Q ≡ remove P i → zip Q N ≡ told_at t i (zip P (map f xs))
  left Q M N e m n q =
      let long = length-map xs f in
      let z = zip P (map f xs) in
      let next : i + 1 ≡ suc i = omega arith in
      let without : N ≡ remove (map f xs) i = n ∙ ap (λ l. remove l i) m ∙ remove-told (map f xs) i (later t (get_or (map f xs) i nobody)) in
      ap (λ l. zip l N) q ∙ ap (λ l. zip (remove P i) l) without ∙ zip-removed P (map f xs) i (omega arith) (omega arith)
      ∙ ap (λ l. l ++ drop (suc i) z) (sym (append-nil (take i z))) ∙ ap (λ k. (take i z ++ []) ++ drop k z) (sym next) ∙ ap (λ l. (take i z ++ l) ++ drop (i + 1) z) (sym (gone e))

  pub left-kept : (K R : List Report) (M : List Watching) → Full ≡ wish_if ((get_or (map f xs) i nobody).full (t ∷ [])) → M ≡ set (map f xs) i (later t (get_or (map f xs) i nobody))
      → R ≡ K ++ record { place = get_or P i 0; text = (get_or M i nobody).text [] } ∷ [] → R ≡ K ++ reports_at t (take 1 (drop i (zip P (map f xs))))
  left-kept K R M e m r =
      let long = length-map xs f in
      let w : ℕ × Watching = (get_or P i 0, get_or (map f xs) i nobody) in
      let at : get_or M i nobody ≡ later t w.1 = ap (λ l. get_or l i nobody) m ∙ get_or-set_same (map f xs) i (later t w.1) nobody (omega arith) in
      let one : reports_at t (take 1 (drop i (zip P (map f xs)))) ≡ record { place = w.0; text = w.1.text (t ∷ []) } ∷ [] = ap (reports_at t) the-one ∙ one-report t w (is-full (w.1.full (t ∷ [])) e) in
      r ∙ ap (λ (v : Watching). K ++ record { place = w.0; text = v.text [] } ∷ []) at ∙ ap (λ l. K ++ l) (sym one)

  pub left-next : Full ≡ wish_if ((get_or (map f xs) i nobody).full (t ∷ [])) → i ≡ i + length (still_listening t (take 1 (drop i (zip P (map f xs)))))
  left-next e = let here : i ≡ i + 0 = omega arith in here ∙ ap (λ (l : List (ℕ × Watching)). i + length l) (sym (gone e))

  -- where memory runs out, it was not told the trace
  pub untold : (N : List Watching) (R : List Report) → N ≡ map f xs → LacksAt t i (listening P (map f xs) R) (listening P N R)
  untold N R n =
      let z = zip P (map f xs) in
      let none : i + 0 ≡ i = omega arith in
      record {
        more = 0;
        one = omega arith;
        left = ap (λ l. zip P l) n ∙ sym (take-append-drop i z) ∙ ap (λ k. take i z ++ drop k z) (sym none) ∙ ap (λ l. l ++ drop (i + 0) z) (sym (append-nil (take i z)));
        kept = refl;
      }

  -- or its report lacked memory
  pub unreported : (Q : List ℕ) (M N : List Watching) (K R : List Report) → M ≡ set (map f xs) i (later t (get_or (map f xs) i nobody)) → N ≡ M → Q ≡ P → R ≡ K
      → LacksAt t i (listening P (map f xs) K) (listening Q N R)
  unreported Q M N K R m n q r =
      let long = length-map xs f in
      let w : ℕ × Watching = (get_or P i 0, get_or (map f xs) i nobody) in
      let z = zip P (map f xs) in
      let now : map (told_one t) (take 1 (drop i z)) ≡ (w.0, later t w.1) ∷ [] = ap (map (told_one t)) the-one in
      let next : i + 1 ≡ suc i = omega arith in
      record {
        more = 1;
        one = omega arith;
        left = ap (λ l. zip l N) q ∙ ap (λ l. zip P l) (n ∙ m) ∙ zip-set P (map f xs) i (later t w.1) (omega arith) (omega arith)
            ∙ sym (append_assoc (take i z) ((w.0, later t w.1) ∷ []) (drop (suc i) z)) ∙ ap (λ k. (take i z ++ (w.0, later t w.1) ∷ []) ++ drop k z) (sym next)
            ∙ ap (λ l. (take i z ++ l) ++ drop (i + 1) z) (sym now);
        kept = r;
      }

-- so it is of any error
pub on-error : {A E P : Type 0} (r : Result A E) → P → OnErr r P
on-error (Ok a) p = tt
on-error (Err e) p = p
