-- The names of processors that have not halted, packed in place.
use Rattle.std.proofs.Common.{◌≡◌, ◌<◌, ◌≤◌, ⊎_elim, ℕ, zero, suc, ◌+◌, not, Bool, true, false, List, [], ◌∷◌, ◌++◌, drop, take, length, get_or, set, arith, refl, sym, subst, ap, ◌∙◌}
use Rattle.std.specs.Int.{from_bool}
use Rattle.std.proofs.lemmas.Bool.{cases_eq}
use Rattle.std.proofs.lemmas.List.{append-nil, append_assoc, at_drop_more, drop-append-le, drop-set-lt, drop_all, get_or_default, length-set, length-take-le, take-append-drop, take-set-le, take_all, take_more, take_more_set}
use Rattle.std.proofs.lemmas.List.Elements.{filter-append}
use Rattle.std.proofs.Math.Seq.{drop-append_seam, take-append_seam}
use Rattle.mx_multi.specs.Joint.{has_halted}
use Rattle.mx_multi.specs.Stretches.{running}
use Rattle.mx_multi.specs.Schedules.{AreNames}

-- of the names of a part, those up to a place were moved, and the others are where they were
pub record Packs (count : ℕ) (halted : List Bool) (old : List ℕ) (from place : ℕ) (at kept : ℕ) (names : List ℕ) : Type 0 where
  pub moved : take kept names ≡ take place old ++ running halted (drop from (take at old))
  pub same : drop at names ≡ drop at old
  pub few : kept ≤ at
  pub begun : from ≤ at
  pub long : length names ≡ length old
  pub named : AreNames count (drop at names)

module _ (count : ℕ) (halted : List Bool) (old : List ℕ) (from place : ℕ) where
  pub packs-none : place ≤ from → from ≤ length old → AreNames count (drop from old) → Packs count halted old from place from place old
  packs-none l i h =
      let none : drop from (take from old) ≡ [] = drop_all from (take from old) (let e = length-take-le from old i in omega (arith, e)) in
      record {
        moved = sym (ap (λ x. take place old ++ running halted x) none ∙ append-nil (take place old));
        same = refl;
        few = l;
        begun = omega arith;
        long = refl;
        named = h;
      }

  module _ (at kept : ℕ) (names : List ℕ) (l : at < length old) (p : Packs count halted old from place at kept names) where
    here : at < length names
    here = subst (λ n. at < n) (sym p.long) l

    abbrev name : ℕ
    name = get_or names at 0

    rest : drop at names ≡ name ∷ drop (at + 1) names
    rest = at_drop_more (λ x. x) names at 0 here

    old-rest : drop at old ≡ get_or old at 0 ∷ drop (at + 1) old
    old-rest = at_drop_more (λ x. x) old at 0 l

    both : name ∷ drop (at + 1) names ≡ get_or old at 0 ∷ drop (at + 1) old
    both = sym rest ∙ p.same ∙ old-rest

    name-same : get_or old at 0 ≡ name
    name-same = let b = both in cc

    rest-same : drop (at + 1) names ≡ drop (at + 1) old
    rest-same = let b = both in cc

    pub packs-name : name < count
    packs-name = (subst (AreNames count) rest p.named).0

    rest-named : AreNames count (drop (at + 1) names)
    rest-named = (subst (AreNames count) rest p.named).1

    -- what is left of one more name
    one-more : running halted (drop from (take (at + 1) old)) ≡ running halted (drop from (take at old)) ++ running halted (name ∷ [])
    one-more =
        let b = p.begun in
        let inside : from ≤ length (take at old) = (let e = length-take-le at old (omega (arith, l)) in omega (arith, e, b)) in
        let cut : drop from (take (at + 1) old) ≡ drop from (take at old) ++ name ∷ [] =
        ap (drop from) (take_more old at 0 l ∙ ap (λ x. take at old ++ x ∷ []) name-same) ∙ drop-append-le from (take at old) (name ∷ []) inside in
        ap (running halted) cut ∙ filter-append (λ who. not (has_halted halted who)) (drop from (take at old)) (name ∷ [])

    stored : kept < length names
    stored = let f = p.few in let h = here in omega (arith, f, h)

    moved-by : (b : Bool) → has_halted halted name ≡ b → take (kept + from_bool (not b)) (set names kept name) ≡ take kept names ++ running halted (name ∷ [])
    moved-by true h =
        let none : kept + 0 ≡ kept = omega arith in
        rw h (ap (λ n. take n (set names kept name)) none ∙ take-set-le kept names kept name (omega arith) ∙ sym (append-nil (take kept names)))
    moved-by false h = rw h (take_more_set names kept name stored)

    pub packs-more : (b : Bool) → has_halted halted name ≡ b → Packs count halted old from place (at + 1) (kept + from_bool (not b)) (set names kept name)
    packs-more b h =
        let f = p.few in
        let g = p.begun in
        let rest-now : drop (at + 1) (set names kept name) ≡ drop (at + 1) names = drop-set-lt (at + 1) names kept name (omega (arith, f)) in
        record {
          moved = moved-by b h ∙ ap (λ x. x ++ running halted (name ∷ [])) p.moved ∙ append_assoc (take place old) (running halted (drop from (take at old))) (running halted (name ∷ []))
              ∙ ap (λ x. take place old ++ x) (sym one-more);
          same = rest-now ∙ rest-same;
          few = few-by b f;
          begun = omega (arith, g);
          long = length-set names kept name ∙ p.long;
          named = subst (AreNames count) (sym rest-now) rest-named;
        }
      where
        few-by : (b : Bool) → kept ≤ at → kept + from_bool (not b) ≤ at + 1
        few-by true f = omega (arith, f)
        few-by false f = omega (arith, f)

pub names-drop : (count n : ℕ) (names : List ℕ) → AreNames count names → AreNames count (drop n names)
names-drop count zero names h = h
names-drop count (suc n) [] h = tt
names-drop count (suc n) (x ∷ xs) h = names-drop count n xs h.1

-- ---- the part before a place, and then the part from it on

-- the list, after its slice was written
pub written : (n : ℕ) (xs more : List ℕ) → n ≡ length xs → take n (xs ++ more) ≡ xs
written n xs more e = ap (λ k. take k (xs ++ more)) e ∙ take-append_seam xs more

module _ (halted : List Bool) (old mid new : List ℕ) (at n place packed : ℕ) (inside : place ≤ length mid) (all : length mid ≤ n)
    (front : take place mid ≡ take 0 old ++ running halted (drop 0 (take at old))) (same : drop at mid ≡ drop at old)
    (back : take packed new ≡ take place mid ++ running halted (drop at (take n mid))) where
  back-is : take packed new ≡ take place mid ++ running halted (drop at old)
  back-is = back ∙ ap (λ x. take place mid ++ running halted (drop at x)) (take_all n mid all) ∙ ap (λ x. take place mid ++ running halted x) same

  pub both-packed : take packed new ≡ running halted old
  both-packed =
      back-is ∙ ap (λ x. x ++ running halted (drop at old)) front ∙ sym (filter-append (λ who. not (has_halted halted who)) (take at old) (drop at old))
      ∙ ap (running halted) (take-append-drop at old)

  pub place-packed : drop place (take packed new) ≡ running halted (drop at old)
  place-packed =
      ap (drop place) back-is ∙ ap (λ n. drop n (take place mid ++ running halted (drop at old))) (sym (length-take-le place mid inside))
      ∙ drop-append_seam (take place mid) (running halted (drop at old))

-- ---- where none has halted

pub all-run : (halted : List Bool) → ((i : ℕ) → i < length halted → get_or halted i true ≡ false) → (names : List ℕ) → AreNames (length halted) names →
    running halted names ≡ names
all-run halted none [] named = refl
all-run halted none (x ∷ xs) named = rw (none x named.0) (ap (λ ys. x ∷ ys) (all-run halted none xs named.1))

-- one more of them
pub none-more : (halted : List Bool) (at : ℕ) (d : Bool) → at < length halted → get_or halted at d ≡ false → ((i : ℕ) → i < at → get_or halted i true ≡ false) →
    (i : ℕ) → i < at + 1 → get_or halted i true ≡ false
none-more halted at d inside here none i l =
    ⊎_elim (λ e. subst (λ k. get_or halted k true ≡ false) (sym e) (get_or_default halted at true d inside ∙ here)) (λ ne. none i (omega (arith, l, ne))) (cases_eq i at)

pub ruleset flags = (all-run, none-more)
