-- Lines that are written in turn, some after others.
use Rattle.std.proofs.Common.{◌≡◌, ℕ, ◌+◌, ◌<◌, ◌≤◌, Bool, true, false, cond, List, [], ◌∷◌, ◌++◌, take, drop, get_or, Ok, Err, refl, sym, ◌∙◌, ap, subst, arith, append-nil, zero-add}
use Rattle.std.proofs.Math.Path.{fun_ext}
use Rattle.std.proofs.lemmas.Grind.{flat_map-append}
use Rattle.std.proofs.lemmas.List.{take_more, take_all, take-append-drop}
use Rattle.std.proofs.lemmas.List.FromFn.{length-range_with_len, get_or-range_with_len}
use Rattle.std.specs.List.{flat_map, range_with_len}
use Rattle.std.specs.Prelude.{Option, Result}
use Rattle.mx_host.specs.HostModel.{HostModel}
use Rattle.mx_plan.specs.Plan.{Plan, returns, calls, bind}
use Rattle.mx_files.specs.Clauses.{DoesPartBetween}
use Rattle.mx_files.specs.FilePlans.{Part, on_ok, line_plan, made_plan, lines_plan}
use Rattle.mx_outcome.specs.declared.outcome.Outcome.{Outcome}
use Rattle.mx_outcome.specs.declared.outcome.Outcome.TheVariants.{OutOfMemory}
use Rattle.mx_files.proofs.FileParts.{line-made, line-lacks}
use Rattle.mx_files.proofs.Parts.{works-then, works-ends, works-done}

-- ---- plans one after another

bind-assoc : {O : Type 0} {R : O → Type 0} {A B C : Type 0} (f : B → Plan O R C) (g : A → Plan O R B) (p : Plan O R A) → bind f (bind g p) ≡ bind (λ a. bind f (g a)) p
unfolding bind
bind-assoc f g (returns a) = refl
bind-assoc f g (calls o k) = ap (calls o) (fun_ext (λ r. bind-assoc f g (k r)))

pub lines-append : (xs ys : List (List ℕ)) → lines_plan (xs ++ ys) ≡ bind (on_ok (λ u. lines_plan ys)) (lines_plan xs)
unfolding lines_plan bind
lines-append [] ys = refl
lines-append (x ∷ xs) ys =
    ap (λ (q : Part (Unit {0})). bind (on_ok (λ (u : Unit {0}). q)) (made_plan x)) (lines-append xs ys)
    ∙ ap (λ (f : Result (Unit {0}) Outcome → Part (Unit {0})). bind f (made_plan x)) (fun_ext same)
    ∙ sym (bind-assoc (on_ok (λ (u : Unit {0}). lines_plan ys)) (on_ok (λ (u : Unit {0}). lines_plan xs)) (made_plan x))
  where
    same : (r : Result (Unit {0}) Outcome) → on_ok (λ (u : Unit {0}). bind (on_ok (λ (v : Unit {0}). lines_plan ys)) (lines_plan xs)) r ≡ bind (on_ok (λ (v : Unit {0}). lines_plan ys)) (on_ok (λ (u : Unit {0}). lines_plan xs) r)
    same (Ok u) = refl
    same (Err outcome) = refl

-- ---- parts of the work

abbrev pub Writes : Option HostModel → Option HostModel → ℕ → ℕ → Result (Unit {0}) Outcome → List (List ℕ) → Type 0
Writes a b k m r lines = DoesPartBetween a b k m r (lines_plan lines)

pub writes-none : (a : Option HostModel) (k : ℕ) → Writes a a k k (Ok tt) []
unfolding lines_plan
writes-none a k = works-done a k tt

-- lines after those that were written
pub writes-then : (a b c : Option HostModel) (k m n : ℕ) (r : Result (Unit {0}) Outcome) (xs ys : List (List ℕ)) → Writes a b k m (Ok tt) xs → Writes b c m n r ys → Writes a c k n r (xs ++ ys)
writes-then a b c k m n r xs ys first second =
    subst (λ (p : Part (Unit {0})). DoesPartBetween a c k n r p) (sym (lines-append xs ys)) (works-then a b c k m n tt r (λ u. lines_plan ys) (lines_plan xs) first second)

-- no other line after one that was not written
pub writes-ended : (a b : Option HostModel) (k m : ℕ) (outcome : Outcome) (xs ys : List (List ℕ)) → Writes a b k m (Err outcome) xs → Writes a b k m (Err outcome) (xs ++ ys)
writes-ended a b k m outcome xs ys h =
    subst (λ (p : Part (Unit {0})). DoesPartBetween a b k m (Err outcome) p) (sym (lines-append xs ys)) (works-ends a b k m outcome (λ u. lines_plan ys) (lines_plan xs) h)

-- one line
one-made : (a b : Option HostModel) (k m : ℕ) (line : List ℕ) (r : Result (Unit {0}) Outcome) → DoesPartBetween a b k m r (made_plan line) → Writes a b k m r (line ∷ [])
unfolding lines_plan
one-made a b k m line (Ok u) w = works-then a b b k m m u (Ok u) (λ v. returns (Ok tt)) (made_plan line) w (works-done b m tt)
one-made a b k m line (Err outcome) w = works-ends a b k m outcome (λ v. returns (Ok tt)) (made_plan line) w

pub writes-line : (a b : Option HostModel) (k m : ℕ) (line made : List ℕ) (r : Result (Unit {0}) Outcome) → made ≡ line → DoesPartBetween a b k m r (line_plan made) → Writes a b k m r (line ∷ [])
writes-line a b k m line made r e w = one-made a b k m line r (line-made a b k m line made r e w)

pub writes-lacking : (a : Option HostModel) (k : ℕ) (line : List ℕ) → Writes a a k k (Err OutOfMemory) (line ∷ [])
writes-lacking a k line = one-made a a k k line (Err OutOfMemory) (line-lacks a k line)

-- a line that is there where a test holds
pub writes-shown : (a b : Option HostModel) (k m : ℕ) (r : Result (Unit {0}) Outcome) (shown : Bool) (line : List ℕ) → shown ≡ true → Writes a b k m r (line ∷ []) → Writes a b k m r (cond shown (line ∷ []) [])
writes-shown a b k m r shown line e h = subst (λ (s : Bool). Writes a b k m r (cond s (line ∷ []) [])) (sym e) h

pub writes-hidden : (a : Option HostModel) (k : ℕ) (shown : Bool) (line : List ℕ) → shown ≡ false → Writes a a k k (Ok tt) (cond shown (line ∷ []) [])
writes-hidden a k shown line e = subst (λ (s : Bool). Writes a a k k (Ok tt) (cond s (line ∷ []) [])) (sym e) (writes-none a k)

-- ---- the lines of the numbers from 0 on

module _ (f : ℕ → List (List ℕ)) where
  -- those of the first i of them
  abbrev pub lines-below : ℕ → ℕ → List (List ℕ)
  lines-below n i = flat_map f (take i (range_with_len 0 n))

  number-at : (n i : ℕ) → i < n → get_or (range_with_len 0 n) i 0 ≡ i
  number-at n i l = get_or-range_with_len 0 n i 0 l ∙ zero-add i

  lines-more : (n i : ℕ) → i < n → lines-below n (i + 1) ≡ lines-below n i ++ f i
  lines-more n i l =
      ap (flat_map f) (take_more (range_with_len 0 n) i 0 (omega (arith, l, length-range_with_len 0 n)) ∙ ap (λ y. take i (range_with_len 0 n) ++ y ∷ []) (number-at n i l))
      ∙ flat_map-append f (take i (range_with_len 0 n)) (i ∷ []) ∙ ap (λ ys. lines-below n i ++ ys) (append-nil (f i))

  lines-whole : (n i : ℕ) → i < n → flat_map f (range_with_len 0 n) ≡ (lines-below n i ++ f i) ++ flat_map f (drop (i + 1) (range_with_len 0 n))
  lines-whole n i l =
      ap (flat_map f) (sym (take-append-drop (i + 1) (range_with_len 0 n))) ∙ flat_map-append f (take (i + 1) (range_with_len 0 n)) (drop (i + 1) (range_with_len 0 n))
      ∙ ap (λ ys. ys ++ flat_map f (drop (i + 1) (range_with_len 0 n))) (lines-more n i l)

  -- those of the next one
  pub writes-next : (a b c : Option HostModel) (k m o n i : ℕ) → i < n → Writes a b k m (Ok tt) (lines-below n i) → Writes b c m o (Ok tt) (f i) → Writes a c k o (Ok tt) (lines-below n (i + 1))
  writes-next a b c k m o n i l first second =
      subst (λ ys. Writes a c k o (Ok tt) ys) (sym (lines-more n i l)) (writes-then a b c k m o (Ok tt) (lines-below n i) (f i) first second)

  -- one of them is not written
  pub writes-last : (a b c : Option HostModel) (k m o n i : ℕ) (outcome : Outcome) (whole : List (List ℕ)) → whole ≡ flat_map f (range_with_len 0 n) →
      i < n → Writes a b k m (Ok tt) (lines-below n i) → Writes b c m o (Err outcome) (f i) → Writes a c k o (Err outcome) whole
  writes-last a b c k m o n i outcome whole w l first second =
      subst (λ ys. Writes a c k o (Err outcome) ys) (sym (w ∙ lines-whole n i l))
      (writes-ended a c k o outcome (lines-below n i ++ f i) (flat_map f (drop (i + 1) (range_with_len 0 n))) (writes-then a b c k m o (Err outcome) (lines-below n i) (f i) first second))

  -- all are
  pub writes-all : (a b : Option HostModel) (k m n i : ℕ) (whole : List (List ℕ)) → whole ≡ flat_map f (range_with_len 0 n) → n ≤ i → Writes a b k m (Ok tt) (lines-below n i) → Writes a b k m (Ok tt) whole
  writes-all a b k m n i whole w l h =
      subst (λ ys. Writes a b k m (Ok tt) ys) (sym w) (subst (λ ys. Writes a b k m (Ok tt) (flat_map f ys)) (take_all i (range_with_len 0 n) (omega (arith, l, length-range_with_len 0 n))) h)
