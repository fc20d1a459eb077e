-- What a store does to the octas, to the pages and to their places.
use Rattle.std.proofs.Common.{◌≡◌, ◌≢◌, ◌<◌, ◌*◌, ◌/◌, ◌%◌, [], ℕ, true, false, List, length, get_or, Option, Some, None, arith, ap, sym, ◌∙◌, refl, ⊎_elim}
use Rattle.std.specs.Prelude.{is_some}
use Rattle.std.proofs.Math.ListN.{set}
use Rattle.std.specs.Option.{option_map}
use Rattle.std.specs.Ordering.{nat_cmp}
use Rattle.std.specs.BTreeMap.{BTreeMap, get}
use Rattle.std.proofs.lemmas.Bool.{cases_eq}
use Rattle.std.proofs.lemmas.Grind.{common_steps}
use Rattle.std.proofs.lemmas.List.{get_or_read, get_or-set_same, get_or-set_other, length-set}
use Rattle.mx_mem.specs.Memory.{Stored, octa_in, octa_at, octa_on, has_page, page_on, page_count, count_on, stored_at, with_page}
use Rattle.mx_mem.specs.Held.{view_of, octas_in, number_in, Indexed, Bounded, IsKept}
use Rattle.mx_mem.proofs.Views.{octa_at-view, has_page-view, page_count-view}

-- the octa that is found through a place, or 0
abbrev pub octa_of : List (ℕ × List ℕ) → Option ℕ → ℕ → ℕ
octa_of pages o r = octa_in (option_map (octas_in pages) o) r

-- a page, with another octa
abbrev pub rewritten : List (ℕ × List ℕ) → ℕ → ℕ → ℕ → List (ℕ × List ℕ)
rewritten pages place i x = set pages place (number_in pages place, set (octas_in pages place) i x)

same-place : (pages : List (ℕ × List ℕ)) (place i x : ℕ) → place < length pages → octas_in (rewritten pages place i x) place ≡ set (octas_in pages place) i x
same-place pages place i x l = ap (λ (p : ℕ × List ℕ). p.1) (get_or-set_same pages place _ (0, []) l)

other-place : (pages : List (ℕ × List ℕ)) (place i x j : ℕ) → j ≢ place → octas_in (rewritten pages place i x) j ≡ octas_in pages j
other-place pages place i x j ne = ap (λ (p : ℕ × List ℕ). p.1) (get_or-set_other pages place j _ (0, []) ne)

-- the octa itself
pub rewritten-here : (pages : List (ℕ × List ℕ)) (place i x : ℕ) → place < length pages → i < length (octas_in pages place) → octa_of (rewritten pages place i x) (Some place) i ≡ x
rewritten-here pages place i x l m = ap (λ octas. get_or octas i 0) (same-place pages place i x l) ∙ get_or-set_same (octas_in pages place) i x 0 m

-- every other octa of the page, and every other page
pub rewritten-elsewhere : (pages : List (ℕ × List ℕ)) (place i x : ℕ) (o : Option ℕ) (r : ℕ) → place < length pages → (o ≡ Some place → r ≢ i) → octa_of (rewritten pages place i x) o r ≡ octa_of pages o r
rewritten-elsewhere pages place i x None r l apart = refl
rewritten-elsewhere pages place i x (Some j) r l apart = ⊎_elim (λ e. same e) (λ ne. ap (λ octas. get_or octas r 0) (other-place pages place i x j ne)) (cases_eq j place)
  where
    same : j ≡ place → octa_of (rewritten pages place i x) (Some j) r ≡ octa_of pages (Some j) r
    same e = ap (λ k. octa_of (rewritten pages place i x) (Some k) r) e
        ∙ ap (λ octas. get_or octas r 0) (same-place pages place i x l)
        ∙ get_or-set_other (octas_in pages place) i r x 0 (apart (ap Some e))
        ∙ ap (λ k. octa_of pages (Some k) r) (sym e)

number-kept : (pages : List (ℕ × List ℕ)) (place i x j : ℕ) → place < length pages → number_in (rewritten pages place i x) j ≡ number_in pages j
number-kept pages place i x j l = ⊎_elim (λ e. same e) (λ ne. ap (λ (p : ℕ × List ℕ). p.0) (get_or-set_other pages place j _ (0, []) ne)) (cases_eq j place)
  where
    same : j ≡ place → number_in (rewritten pages place i x) j ≡ number_in pages j
    same e = ap (number_in (rewritten pages place i x)) e ∙ ap (λ (p : ℕ × List ℕ). p.0) (get_or-set_same pages place _ (0, []) l) ∙ ap (number_in pages) (sym e)

whole-kept : (pages : List (ℕ × List ℕ)) (place i x j : ℕ) → place < length pages → length (octas_in (rewritten pages place i x) j) ≡ length (octas_in pages j)
whole-kept pages place i x j l = ⊎_elim (λ e. same e) (λ ne. ap length (other-place pages place i x j ne)) (cases_eq j place)
  where
    same : j ≡ place → length (octas_in (rewritten pages place i x) j) ≡ length (octas_in pages j)
    same e = ap (λ k. length (octas_in (rewritten pages place i x) k)) e ∙ ap length (same-place pages place i x l) ∙ length-set (octas_in pages place) i x ∙ ap (λ k. length (octas_in pages k)) (sym e)

pub length-kept : (pages : List (ℕ × List ℕ)) (place i x : ℕ) → length (rewritten pages place i x) ≡ length pages
length-kept pages place i x = length-set pages place _

pub rewritten-indexed : (pages : List (ℕ × List ℕ)) (places : BTreeMap ℕ ℕ) (place i x : ℕ) → place < length pages → Indexed pages places → Indexed (rewritten pages place i x) places
rewritten-indexed pages places place i x l ix = record {
  named = λ j m. ap (get nat_cmp places) (number-kept pages place i x j l) ∙ ix.named j (rw length-kept at m);
  placed = λ p j e. (rw (length-kept pages place i x) (ix.placed p j e).0, number-kept pages place i x j l ∙ (ix.placed p j e).1);
}

-- a page that is kept is where it was
pub rewritten-kept : (pages : List (ℕ × List ℕ)) (place i x start size at : ℕ) → place < length pages → IsKept start size at pages → IsKept start size at (rewritten pages place i x)
rewritten-kept pages place i x start size at l h = λ some.
    let k = h some in
    let same = number-kept pages place i x at l in
    (k.0, omega (arith, k.1, length-kept pages place i x), rw same k.2, ap (λ n. 4096 * n) same ∙ k.3)

pub rewritten-bounded : (pages : List (ℕ × List ℕ)) (place i x : ℕ) → place < length pages → Bounded pages → Bounded (rewritten pages place i x)
rewritten-bounded pages place i x l b = record {
  whole = λ j m. whole-kept pages place i x j l ∙ b.whole j (rw length-kept at m);
  below = λ j m. rw (number-kept pages place i x j l) (b.below j (rw length-kept at m));
  few = rw (length-kept pages place i x) b.few;
}

found-within : (pages : List (ℕ × List ℕ)) (places : BTreeMap ℕ ℕ) (place n : ℕ) → Indexed pages places → Some place ≡ get nat_cmp places n → place < length pages
found-within pages places place n ix e = (ix.placed n place (sym e)).0

-- two pages at one place are one page
one-number : (pages : List (ℕ × List ℕ)) (places : BTreeMap ℕ ℕ) (place n p : ℕ) → Indexed pages places → Some place ≡ get nat_cmp places n → get nat_cmp places p ≡ Some place → p ≡ n
one-number pages places place n p ix e f = sym (ix.placed p place f).1 ∙ (ix.placed n place (sym e)).1

stored-point : (pages : List (ℕ × List ℕ)) (places : BTreeMap ℕ ℕ) (m : Stored) (a x place q : ℕ) → Indexed pages places → Bounded pages → view_of pages places.entries ≡ m.pages → Some place ≡ get nat_cmp places (a / 4096) →
    octa_on (view_of (rewritten pages place (a / 8 % 512) x) places.entries) q ≡ stored_at (octa_at m) a x q
stored-point pages places m a x place q ix b v e = ⊎_elim (λ s. inside s) (λ ne. outside ne) (cases_eq (q / 8) (a / 8))
  where
    new : List (ℕ × List ℕ)
    new = rewritten pages place (a / 8 % 512) x

    inside : q / 8 ≡ a / 8 → octa_on (view_of new places.entries) q ≡ stored_at (octa_at m) a x q
    inside s =
        let l = found-within pages places place (a / 4096) ix e in
        let page : q / 4096 ≡ a / 4096 = omega arith in
        let octa : q / 8 % 512 ≡ a / 8 % 512 = omega arith in
        let whole : stored_at (octa_at m) a x q ≡ x = grind (arith, common_steps) in
        let long : a / 8 % 512 < length (octas_in pages place) = omega (arith, b.whole place l) in
        octa_at-view new places q
        ∙ ap (λ p. octa_of new (get nat_cmp places p) (q / 8 % 512)) page
        ∙ ap (λ r. octa_of new (get nat_cmp places (a / 4096)) r) octa
        ∙ ap (λ o. octa_of new o (a / 8 % 512)) (sym e)
        ∙ rewritten-here pages place (a / 8 % 512) x l long
        ∙ sym whole

    outside : (q / 8 ≡ a / 8 → ⊥) → octa_on (view_of new places.entries) q ≡ stored_at (octa_at m) a x q
    outside ne =
        let l = found-within pages places place (a / 4096) ix e in
        let whole : stored_at (octa_at m) a x q ≡ octa_at m q = grind (arith, common_steps) in
        let apart : get nat_cmp places (q / 4096) ≡ Some place → q / 8 % 512 ≢ a / 8 % 512 = λ f g. (let p = one-number pages places place (a / 4096) (q / 4096) ix e f in absurd (ne (omega arith))) in
        octa_at-view new places q
        ∙ rewritten-elsewhere pages place (a / 8 % 512) x (get nat_cmp places (q / 4096)) (q / 8 % 512) l apart
        ∙ sym (octa_at-view pages places q)
        ∙ ap (λ s. octa_on s q) v
        ∙ sym whole

pub stored-octas : (pages : List (ℕ × List ℕ)) (places : BTreeMap ℕ ℕ) (m : Stored) (a x place : ℕ) → Indexed pages places → Bounded pages → view_of pages places.entries ≡ m.pages → Some place ≡ get nat_cmp places (a / 4096) →
    octa_on (view_of (rewritten pages place (a / 8 % 512) x) places.entries) ≡ stored_at (octa_at m) a x
stored-octas pages places m a x place ix b v e = λ i q. stored-point pages places m a x place q ix b v e i

-- the pages stay as they are
pub stored-there : (pages : List (ℕ × List ℕ)) (places : BTreeMap ℕ ℕ) (m : Stored) (n place : ℕ) → view_of pages places.entries ≡ m.pages → Some place ≡ get nat_cmp places n → has_page m n ≡ true
stored-there pages places m n place v e = ap (λ s. page_on s n) (sym v) ∙ has_page-view pages places n ∙ ap is_some (sym e)

stored-pages-at : (pages : List (ℕ × List ℕ)) (places : BTreeMap ℕ ℕ) (m : Stored) (n i x place q : ℕ) → view_of pages places.entries ≡ m.pages → Some place ≡ get nat_cmp places n →
    page_on (view_of (rewritten pages place i x) places.entries) q ≡ with_page (has_page m) n q
stored-pages-at pages places m n i x place q v e =
    let same : page_on (view_of (rewritten pages place i x) places.entries) q ≡ has_page m q =
    has_page-view (rewritten pages place i x) places q ∙ sym (has_page-view pages places q) ∙ ap (λ s. page_on s q) v in
    let there = stored-there pages places m n place v e in
    same ∙ ⊎_elim (λ f. (ap (has_page m) f ∙ there) ∙ sym (with-here f)) (λ ne. sym (with-other ne)) (cases_eq q n)
  where
    with-here : q ≡ n → with_page (has_page m) n q ≡ true
    with-here f = grind (arith, common_steps)

    with-other : (q ≡ n → ⊥) → with_page (has_page m) n q ≡ has_page m q
    with-other ne = grind (arith, common_steps)

pub stored-pages : (pages : List (ℕ × List ℕ)) (places : BTreeMap ℕ ℕ) (m : Stored) (n i x place : ℕ) → view_of pages places.entries ≡ m.pages → Some place ≡ get nat_cmp places n →
    page_on (view_of (rewritten pages place i x) places.entries) ≡ with_page (has_page m) n
stored-pages pages places m n i x place v e = λ j q. stored-pages-at pages places m n i x place q v e j

pub stored-count : (pages : List (ℕ × List ℕ)) (places : BTreeMap ℕ ℕ) (m : Stored) (i x place : ℕ) → view_of pages places.entries ≡ m.pages → count_on (view_of (rewritten pages place i x) places.entries) ≡ page_count m
stored-count pages places m i x place v = page_count-view (rewritten pages place i x) places ∙ sym (page_count-view pages places) ∙ ap count_on v

-- a page that was read, rewritten and put back
pub rewritten-by : (pages : List (ℕ × List ℕ)) (place i x : ℕ) (old new : ℕ × List ℕ) → place < length pages → old ≡ get_or pages place old → new ≡ (old.0, set old.1 i x) → set pages place new ≡ rewritten pages place i x
rewritten-by pages place i x old new l e f =
    let read = get_or_read pages place old l e (0, []) in
    ap (set pages place) (f ∙ ap (λ (p : ℕ × List ℕ). (p.0, set p.1 i x)) read)

-- a page that is not found is not there
pub stored-new : (pages : List (ℕ × List ℕ)) (places : BTreeMap ℕ ℕ) (m : Stored) (n : ℕ) → view_of pages places.entries ≡ m.pages → None ≡ get nat_cmp places n → has_page m n ≡ false
stored-new pages places m n v e = ap (λ s. page_on s n) (sym v) ∙ has_page-view pages places n ∙ ap is_some (sym e)
