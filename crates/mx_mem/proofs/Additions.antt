-- What a page that is added does to the octas, to the pages and to their places.
use Rattle.std.proofs.Common.{◌≡◌, ◌≢◌, ◌<◌, ◌≤◌, ◌*◌, ◌/◌, ◌%◌, ◌^◌, ◌+◌, ◌++◌, ◌∷◌, [], ℕ, true, List, length, get_or, Option, Some, None, Result, Ok, Err, arith, ap, sym, ◌∙◌, refl, eqb, cond, replicate, ⊎_elim, subst, length-append}
use Rattle.std.specs.Prelude.{is_some, OnOk, OnErr}
use Rattle.std.proofs.Math.ListN.{set}
use Rattle.std.proofs.Math.Seq.{get_or-append_seam}
use Rattle.std.specs.Ordering.{nat_cmp}
use Rattle.std.specs.Map.{lookup}
use Rattle.std.specs.BTreeMap.{BTreeMap, get, is_at}
use Rattle.std.proofs.lemmas.Bool.{cases_eq, cases_lt}
use Rattle.std.proofs.lemmas.Grind.{common_steps}
use Rattle.std.proofs.lemmas.List.{get_or_append_left, get_or-set_same, get_or-set_other, get_or-replicate, length-replicate}
use Rattle.mx_mem.specs.Memory.{Stored, octa_at, octa_on, has_page, page_on, stored_at, with_page}
use Rattle.mx_mem.specs.Held.{view_of, number_in, Indexed, Bounded, IsKept}
use Rattle.mx_mem.proofs.Views.{octa_at-view, has_page-view}
use Rattle.mx_mem.proofs.Stores.{octa_of}

-- the pages with one more at the end
abbrev pub extended : List (ℕ × List ℕ) → ℕ × List ℕ → List (ℕ × List ℕ)
extended pages page = pages ++ page ∷ []

-- the places with that of one more page
abbrev pub Extends : BTreeMap ℕ ℕ → BTreeMap ℕ ℕ → ℕ → ℕ → Type 0
Extends places after n place = (p : ℕ) → get nat_cmp after p ≡ cond (eqb p n) (Some place) (get nat_cmp places p)

last-page : (pages : List (ℕ × List ℕ)) (page : ℕ × List ℕ) → get_or (extended pages page) (length pages) (0, []) ≡ page
last-page pages page = get_or-append_seam pages page [] (0, [])

earlier-page : (pages : List (ℕ × List ℕ)) (page : ℕ × List ℕ) (i : ℕ) → i < length pages → get_or (extended pages page) i (0, []) ≡ get_or pages i (0, [])
earlier-page pages page i l = get_or_append_left pages (page ∷ []) (0, []) i l

place-same : (places after : BTreeMap ℕ ℕ) (n place p : ℕ) → Extends places after n place → p ≡ n → get nat_cmp after p ≡ Some place
place-same places after n place p ex e = ex p ∙ grind (arith, common_steps)

place-other : (places after : BTreeMap ℕ ℕ) (n place p : ℕ) → Extends places after n place → (p ≡ n → ⊥) → get nat_cmp after p ≡ get nat_cmp places p
place-other places after n place p ex ne = ex p ∙ grind (arith, common_steps)

pub added-indexed : (pages : List (ℕ × List ℕ)) (places after : BTreeMap ℕ ℕ) (page : ℕ × List ℕ) → Indexed pages places → get nat_cmp places page.0 ≡ None → Extends places after page.0 (length pages) →
    Indexed (extended pages page) after
added-indexed pages places after page ix new ex = record { named = named; placed = placed }
  where
    here : number_in (extended pages page) (length pages) ≡ page.0
    here = ap (λ (p : ℕ × List ℕ). p.0) (last-page pages page)

    named-earlier : (i : ℕ) → i < length pages → get nat_cmp after (number_in (extended pages page) i) ≡ Some i
    named-earlier i l =
        let same : number_in (extended pages page) i ≡ number_in pages i = ap (λ (p : ℕ × List ℕ). p.0) (earlier-page pages page i l) in
        let apart : number_in pages i ≡ page.0 → ⊥ = λ e. absurd (cc (ap (get nat_cmp places) e, ix.named i l, new)) in
        ap (get nat_cmp after) same ∙ place-other places after page.0 (length pages) (number_in pages i) ex apart ∙ ix.named i l

    named-last : (i : ℕ) → i ≡ length pages → get nat_cmp after (number_in (extended pages page) i) ≡ Some i
    named-last i e = ap (λ k. get nat_cmp after (number_in (extended pages page) k)) e ∙ place-same places after page.0 (length pages) _ ex here ∙ ap Some (sym e)

    named : (i : ℕ) → i < length (extended pages page) → get nat_cmp after (number_in (extended pages page) i) ≡ Some i
    named i l = ⊎_elim (λ m. named-earlier i m) (λ m. named-last i (omega (arith, l, m, length-append pages (page ∷ [])))) (cases_lt i (length pages))

    placed-last : (p i : ℕ) → p ≡ page.0 → get nat_cmp after p ≡ Some i → (i < length (extended pages page)) × (number_in (extended pages page) i ≡ p)
    placed-last p i e f =
        let at : i ≡ length pages = cc (place-same places after page.0 (length pages) p ex e) in
        (omega (arith, at, length-append pages (page ∷ [])), ap (number_in (extended pages page)) at ∙ here ∙ sym e)

    placed-earlier : (p i : ℕ) → (p ≡ page.0 → ⊥) → get nat_cmp after p ≡ Some i → (i < length (extended pages page)) × (number_in (extended pages page) i ≡ p)
    placed-earlier p i ne f =
        let old = ix.placed p i (sym (place-other places after page.0 (length pages) p ex ne) ∙ f) in
        (omega (arith, old.0, length-append pages (page ∷ [])), ap (λ (q : ℕ × List ℕ). q.0) (earlier-page pages page i old.0) ∙ old.1)

    placed : (p i : ℕ) → get nat_cmp after p ≡ Some i → (i < length (extended pages page)) × (number_in (extended pages page) i ≡ p)
    placed p i f = ⊎_elim (λ e. placed-last p i e f) (λ ne. placed-earlier p i ne f) (cases_eq p page.0)

pub added-bounded : (pages : List (ℕ × List ℕ)) (page : ℕ × List ℕ) → Bounded pages → page.0 < 2 ^ 51 → length page.1 ≡ 512 → length pages < 65536 → Bounded (extended pages page)
added-bounded pages page b low long room = record {
  whole = λ i l. ⊎_elim (λ m. ap (λ (p : ℕ × List ℕ). length p.1) (earlier-page pages page i m) ∙ b.whole i m) (λ m. ap (λ (p : ℕ × List ℕ). length p.1) (at-last i l m) ∙ long) (cases_lt i (length pages));
  below = λ i l. ⊎_elim (λ m. subst (λ (p : ℕ × List ℕ). p.0 < 2 ^ 51) (sym (earlier-page pages page i m)) (b.below i m)) (λ m. subst (λ (p : ℕ × List ℕ). p.0 < 2 ^ 51) (sym (at-last i l m)) low) (cases_lt i (length pages));
  few = omega (arith, length-append pages (page ∷ []));
}
  where
    at-last : (i : ℕ) → i < length (extended pages page) → length pages ≤ i → get_or (extended pages page) i (0, []) ≡ page
    at-last i l m =
        let e : i ≡ length pages = omega (arith, length-append pages (page ∷ [])) in
        ap (λ k. get_or (extended pages page) k (0, [])) e ∙ last-page pages page

pub added-octa : (pages : List (ℕ × List ℕ)) (places after : BTreeMap ℕ ℕ) (m : Stored) (page : ℕ × List ℕ) (a x q : ℕ) → Indexed pages places → view_of pages places.entries ≡ m.pages → get nat_cmp places (a / 4096) ≡ None →
    Extends places after (a / 4096) (length pages) → page.1 ≡ set (replicate 512 0) (a / 8 % 512) x → octa_on (view_of (extended pages page) after.entries) q ≡ stored_at (octa_at m) a x q
added-octa pages places after m page a x q ix v new ex made =
    octa_at-view (extended pages page) after q ∙ ⊎_elim (λ e. on-page e) (λ ne. off-page ne) (cases_eq (q / 4096) (a / 4096))
  where
    r : ℕ
    r = q / 8 % 512

    old : octa_at m q ≡ octa_of pages (get nat_cmp places (q / 4096)) r
    old = ap (λ s. octa_on s q) (sym v) ∙ octa_at-view pages places q

    last : octa_of (extended pages page) (Some (length pages)) r ≡ get_or (set (replicate 512 0) (a / 8 % 512) x) r 0
    last = ap (λ octas. get_or octas r 0) (ap (λ (p : ℕ × List ℕ). p.1) (last-page pages page) ∙ made)

    here : q / 8 ≡ a / 8 → octa_of (extended pages page) (Some (length pages)) r ≡ stored_at (octa_at m) a x q
    here e =
        let at : r ≡ a / 8 % 512 = ap (λ n. n % 512) e in
        let whole : stored_at (octa_at m) a x q ≡ x = grind (arith, common_steps) in
        let long : a / 8 % 512 < length (replicate {A = ℕ} 512 0) = omega (arith, length-replicate {A = ℕ} 512 0) in
        last ∙ ap (λ i. get_or (set (replicate 512 0) (a / 8 % 512) x) i 0) at ∙ get_or-set_same (replicate 512 0) (a / 8 % 512) x 0 long ∙ sym whole

    beside : q / 4096 ≡ a / 4096 → (q / 8 ≡ a / 8 → ⊥) → octa_of (extended pages page) (Some (length pages)) r ≡ stored_at (octa_at m) a x q
    beside e ne =
        let whole : stored_at (octa_at m) a x q ≡ octa_at m q = grind (arith, common_steps) in
        let apart : r ≢ a / 8 % 512 = λ f. absurd (ne (omega (arith, f, e))) in
        let zero : octa_at m q ≡ 0 = old ∙ ap (λ p. octa_of pages (get nat_cmp places p) r) e ∙ ap (λ o. octa_of pages o r) new in
        last ∙ get_or-set_other (replicate 512 0) (a / 8 % 512) r x 0 apart ∙ get_or-replicate 512 r 0 0 (omega arith) ∙ sym (whole ∙ zero)

    on-page : q / 4096 ≡ a / 4096 → octa_of (extended pages page) (get nat_cmp after (q / 4096)) r ≡ stored_at (octa_at m) a x q
    on-page e =
        ap (λ o. octa_of (extended pages page) o r) (place-same places after (a / 4096) (length pages) (q / 4096) ex e)
        ∙ ⊎_elim (λ s. here s) (λ ne. beside e ne) (cases_eq (q / 8) (a / 8))

    same : (o : Option ℕ) → get nat_cmp places (q / 4096) ≡ o → octa_of (extended pages page) o r ≡ octa_of pages o r
    same None e = refl
    same (Some i) e = ap (λ (p : ℕ × List ℕ). get_or p.1 r 0) (earlier-page pages page i (ix.placed (q / 4096) i e).0)

    off-page : (q / 4096 ≡ a / 4096 → ⊥) → octa_of (extended pages page) (get nat_cmp after (q / 4096)) r ≡ stored_at (octa_at m) a x q
    off-page ne =
        let apart : q / 8 ≡ a / 8 → ⊥ = λ e. absurd (ne (omega (arith, e))) in
        let whole : stored_at (octa_at m) a x q ≡ octa_at m q = grind (arith, common_steps) in
        ap (λ o. octa_of (extended pages page) o r) (place-other places after (a / 4096) (length pages) (q / 4096) ex ne)
        ∙ same (get nat_cmp places (q / 4096)) refl ∙ sym old ∙ sym whole

pub added-page : (pages : List (ℕ × List ℕ)) (places after : BTreeMap ℕ ℕ) (m : Stored) (page : ℕ × List ℕ) (n q : ℕ) → view_of pages places.entries ≡ m.pages → Extends places after n (length pages) →
    page_on (view_of (extended pages page) after.entries) q ≡ with_page (has_page m) n q
added-page pages places after m page n q v ex =
    has_page-view (extended pages page) after q ∙ ⊎_elim (λ e. new e) (λ ne. old ne) (cases_eq q n)
  where
    new : q ≡ n → is_some (get nat_cmp after q) ≡ with_page (has_page m) n q
    new e =
        let there : with_page (has_page m) n q ≡ true = grind (arith, common_steps) in
        ap is_some (place-same places after n (length pages) q ex e) ∙ sym there

    old : (q ≡ n → ⊥) → is_some (get nat_cmp after q) ≡ with_page (has_page m) n q
    old ne =
        let same : with_page (has_page m) n q ≡ has_page m q = grind (arith, common_steps) in
        ap is_some (place-other places after n (length pages) q ex ne) ∙ sym (has_page-view pages places q) ∙ ap (λ s. page_on s q) v ∙ sym same

-- nothing changed
kept-indexed : (pages : List (ℕ × List ℕ)) (places after : BTreeMap ℕ ℕ) → Indexed pages places → after.entries ≡ places.entries → Indexed pages after
kept-indexed pages places after ix e = record {
  named = λ i l. found (number_in pages i) ∙ ix.named i l;
  placed = λ p i f. ix.placed p i (sym (found p) ∙ f);
}
  where
    found : (p : ℕ) → get nat_cmp after p ≡ get nat_cmp places p
    found p = ap (lookup (is_at (nat_cmp p))) e

-- what the invariant says, whether the page was added or there was no memory
pub outcome-indexed : {E : Type 0} (r : Result (Unit {0}) E) (pages pages' : List (ℕ × List ℕ)) (places after : BTreeMap ℕ ℕ) (page : ℕ × List ℕ) → Indexed pages places → get nat_cmp places page.0 ≡ None →
    OnOk r (pages' ≡ extended pages page) → OnOk r (Extends places after page.0 (length pages)) → OnErr r ((pages' ≡ pages) × (after.entries ≡ places.entries)) → Indexed pages' after
outcome-indexed (Ok u) pages pages' places after page ix new added ex kept = subst (λ ps. Indexed ps after) (sym added) (added-indexed pages places after page ix new ex)
outcome-indexed (Err e) pages pages' places after page ix new added ex kept = subst (λ ps. Indexed ps after) (sym kept.0) (kept-indexed pages places after ix kept.1)

pub outcome-bounded : {E : Type 0} (r : Result (Unit {0}) E) (pages pages' : List (ℕ × List ℕ)) (page : ℕ × List ℕ) (K : Type 0) → Bounded pages → page.0 < 2 ^ 51 → length page.1 ≡ 512 → length pages < 65536 →
    OnOk r (pages' ≡ extended pages page) → OnErr r ((pages' ≡ pages) × K) → Bounded pages'
outcome-bounded (Ok u) pages pages' page K b low long room added kept = subst Bounded (sym added) (added-bounded pages page b low long room)
outcome-bounded (Err e) pages pages' page K b low long room added kept = subst Bounded (sym kept.0) b

added-kept : (pages : List (ℕ × List ℕ)) (page : ℕ × List ℕ) (start size at : ℕ) → IsKept start size at pages → IsKept start size at (extended pages page)
added-kept pages page start size at h = λ some.
    let k = h some in
    let same : number_in (extended pages page) at ≡ number_in pages at = ap (λ (q : ℕ × List ℕ). q.0) (earlier-page pages page at k.1) in
    (k.0, omega (arith, k.1, length-append pages (page ∷ [])), rw same k.2, ap (λ n. 4096 * n) same ∙ k.3)

pub outcome-kept : {E : Type 0} (r : Result (Unit {0}) E) (pages pages' : List (ℕ × List ℕ)) (page : ℕ × List ℕ) (K : Type 0) (start size at : ℕ) → IsKept start size at pages → OnOk r (pages' ≡ extended pages page) → OnErr r ((pages' ≡ pages) × K) → IsKept start size at pages'
outcome-kept (Ok x) pages pages' page K start size at h ok err = subst (λ ps. IsKept start size at ps) (sym ok) (added-kept pages page start size at h)
outcome-kept (Err x) pages pages' page K start size at h ok err = subst (λ ps. IsKept start size at ps) (sym err.0) h

pub outcome-count : {E : Type 0} (r : Result (Unit {0}) E) (pages pages' : List (ℕ × List ℕ)) (places after : BTreeMap ℕ ℕ) (page : ℕ × List ℕ) → length places.entries ≡ length pages →
    OnOk r (pages' ≡ extended pages page) → OnOk r (length after.entries ≡ length places.entries + 1) → OnErr r ((pages' ≡ pages) × (after.entries ≡ places.entries)) → length after.entries ≡ length pages'
outcome-count (Ok u) pages pages' places after page same added more kept = omega (arith, length-append pages (page ∷ []), ap length added)
outcome-count (Err e) pages pages' places after page same added more kept = ap length kept.1 ∙ same ∙ ap length (sym kept.0)

pub outcome-octas : {E : Type 0} (r : Result (Unit {0}) E) (pages pages' : List (ℕ × List ℕ)) (places after : BTreeMap ℕ ℕ) (m : Stored) (page : ℕ × List ℕ) (a x : ℕ) → Indexed pages places → view_of pages places.entries ≡ m.pages → get nat_cmp places (a / 4096) ≡ None →
    page.1 ≡ set (replicate 512 0) (a / 8 % 512) x → OnOk r (pages' ≡ extended pages page) → OnOk r (Extends places after (a / 4096) (length pages)) → OnOk r (octa_on (view_of pages' after.entries) ≡ stored_at (octa_at m) a x)
outcome-octas (Ok u) pages pages' places after m page a x ix v new made added ex =
    ap (λ ps. octa_on (view_of ps after.entries)) added ∙ (λ i q. added-octa pages places after m page a x q ix v new ex made i)
outcome-octas (Err e) pages pages' places after m page a x ix v new made added ex = tt

pub outcome-pages : {E : Type 0} (r : Result (Unit {0}) E) (pages pages' : List (ℕ × List ℕ)) (places after : BTreeMap ℕ ℕ) (m : Stored) (page : ℕ × List ℕ) (n : ℕ) → view_of pages places.entries ≡ m.pages →
    OnOk r (pages' ≡ extended pages page) → OnOk r (Extends places after n (length pages)) → OnOk r (page_on (view_of pages' after.entries) ≡ with_page (has_page m) n)
outcome-pages (Ok u) pages pages' places after m page n v added ex =
    ap (λ ps. page_on (view_of ps after.entries)) added ∙ (λ i q. added-page pages places after m page n q v ex i)
outcome-pages (Err e) pages pages' places after m page n v added ex = tt
