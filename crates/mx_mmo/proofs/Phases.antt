-- The items of an object come in turn.
use Rattle.std.proofs.Common.{◌≡◌, ℕ, List, [], ◌∷◌, ◌++◌, refl, sym, ap, subst}
use Rattle.mx_mmo.proofs.Words.{AllByRecursion, IsMiddle, IsPlaced, MayCome, ComeInTurn, phase_end, Item, Load, Loc, Skip, FixOcta, FixNear, FixFar, File, Line, Spec, Pre, Post, Stab, Phase, Start, Middle, Posted, Ended}

pub record Reaches (phase : Phase) (items : List Item) : Type 0 where
  pub turn : ComeInTurn phase items
  pub end : phase_end phase items ≡ Ended

-- the items of an object come in turn
cons-reaches : (item : Item) (items : List Item) → IsMiddle item → Reaches Middle items → Reaches Middle (item ∷ items)
cons-reaches (Pre tetras) items m r = absurd m
cons-reaches (Post g values) items m r = absurd m
cons-reaches Stab items m r = absurd m
cons-reaches item items m r = record { turn = (tt, r.turn); end = r.end }

middle-reaches : (middle : List Item) (g : ℕ) (values : List ℕ) → AllByRecursion IsMiddle middle → Reaches Middle (middle ++ Post g values ∷ Stab ∷ [])
middle-reaches [] g values m = record { turn = (tt, (tt, tt)); end = refl }
middle-reaches (item ∷ items) g values m = cons-reaches item _ m.0 (middle-reaches items g values m.1)

pub placed-reaches : (items : List Item) → IsPlaced items → Reaches Start items
placed-reaches items p =
    let r = middle-reaches p.middle p.g p.values p.between in
    subst (λ (is : List Item). Reaches Start is) (sym p.whole) (record { turn = (tt, r.turn); end = r.end })

-- items that come in turn up to the end are those of an object
record Shaped (items : List Item) : Type 0 where
  middle : List Item
  g : ℕ
  values : List ℕ
  whole : items ≡ middle ++ Post g values ∷ Stab ∷ []
  between : AllByRecursion IsMiddle middle

none-ended : (item : Item) → MayCome Ended item → ⊥
none-ended (Load t) m = m
none-ended item m = m

stab-alone : (items : List Item) → Reaches Posted items → items ≡ Stab ∷ []
stab-alone [] r = absurd (cc (r.end))
stab-alone (Stab ∷ []) r = refl
stab-alone (Stab ∷ item ∷ items) r = absurd (none-ended item r.turn.1.0)
stab-alone (item ∷ items) r = absurd r.turn.0

cons-shaped : (item : Item) (items : List Item) → IsMiddle item → Shaped items → Shaped (item ∷ items)
cons-shaped item items m s =
    record { middle = item ∷ s.middle; g = s.g; values = s.values; whole = ap (λ is. item ∷ is) s.whole; between = (m, s.between) }

shaped : (items : List Item) → Reaches Middle items → Shaped items
shaped [] r = absurd (cc (r.end))
shaped (Load t ∷ items) r = cons-shaped (Load t) items tt (shaped items (record { turn = r.turn.1; end = r.end }))
shaped (Loc a ∷ items) r = cons-shaped (Loc a) items tt (shaped items (record { turn = r.turn.1; end = r.end }))
shaped (Skip n ∷ items) r = cons-shaped (Skip n) items tt (shaped items (record { turn = r.turn.1; end = r.end }))
shaped (FixOcta a ∷ items) r = cons-shaped (FixOcta a) items tt (shaped items (record { turn = r.turn.1; end = r.end }))
shaped (FixNear n ∷ items) r = cons-shaped (FixNear n) items tt (shaped items (record { turn = r.turn.1; end = r.end }))
shaped (FixFar bits t ∷ items) r = cons-shaped (FixFar bits t) items tt (shaped items (record { turn = r.turn.1; end = r.end }))
shaped (File number name ∷ items) r = cons-shaped (File number name) items tt (shaped items (record { turn = r.turn.1; end = r.end }))
shaped (Line n ∷ items) r = cons-shaped (Line n) items tt (shaped items (record { turn = r.turn.1; end = r.end }))
shaped (Spec n ∷ items) r = cons-shaped (Spec n) items tt (shaped items (record { turn = r.turn.1; end = r.end }))
shaped (Post g values ∷ items) r =
    record { middle = []; g = g; values = values; whole = ap (λ is. Post g values ∷ is) (stab-alone items (record { turn = r.turn.1; end = r.end })); between = tt }
shaped items r = absurd r.turn.0

pub placed-items : (items : List Item) → Reaches Start items → IsPlaced items
placed-items [] r = absurd (cc (r.end))
placed-items (Pre tetras ∷ items) r =
    let s = shaped items (record { turn = r.turn.1; end = r.end }) in
    record { tetras = tetras; middle = s.middle; g = s.g; values = s.values; whole = ap (λ is. Pre tetras ∷ is) s.whole; between = s.between }
placed-items (item ∷ items) r = absurd r.turn.0
