-- The nearest of symbols.
use Rattle.std.proofs.Common.{◌≡◌, ℕ, ◌<◌, ◌≤◌, ◌+◌, List, ◌∷◌, ◌++◌, length, get_or, drop, Bool, true, false, nat_lt, Option, None, Some, refl, ap, ◌∙◌, arith}
use Rattle.std.proofs.lemmas.Bool.Decides.{nat_tests}
use Rattle.mx_word.specs.declared.symbols.Symbol.{Symbol}
use Rattle.mx_word.proofs.Comparisons.{is-less, not-less}
use Rattle.mx_object.specs.Labels.{nearer, place_of}
unfoldable use Rattle.mx_object.specs.Labels.{nearest}
use Rattle.mx_object.specs.Listed.{IsAsNear}
use Rattle.mx_object.specs.declared.labels.Place.{Place}
use Rattle.mx_object.proofs.Bests.{AsGood, IsBest, IsRanking, best-all, best-next, none-better}

abbrev is_nearer : Place → Place → Bool
is_nearer q p = nat_lt q.offset p.offset

ranked : IsRanking is_nearer
ranked = record {
  never = λ p. grind (arith, nat_tests);
  through = λ p q r e f. grind (arith, nat_tests, e, f);
  between = λ p q r e f. grind (arith, nat_tests, e, f);
}

is-best : (a : ℕ) → IsBest is_nearer (place_of a) nearer (nearest a)
unfolding nearest
is-best a = record { ranking = ranked; none = λ q. refl; alone = λ p. refl; both = λ p q. refl; empty = refl; more = λ s symbols. refl }

pub nearest-next : (symbols : List Symbol) (i : ℕ) (s : Symbol) (a : ℕ) (best place new whole : Option Place) → i < length symbols → s ≡ get_or symbols i s → place ≡ place_of a s →
    new ≡ nearer best place → whole ≡ nearer best (nearest a (drop i symbols)) → whole ≡ nearer new (nearest a (drop (i + 1) symbols))
nearest-next symbols i s a best place new whole inside item is made so =
    best-next is_nearer (place_of a) nearer (nearest a) (is-best a) symbols i s best place new whole inside (is ∙ ap (place_of a) item) made so

pub nearest-all : (symbols : List Symbol) (i : ℕ) (a : ℕ) (best whole : Option Place) → length symbols ≤ i → whole ≡ nearer best (nearest a (drop i symbols)) → best ≡ whole
nearest-all symbols i a best whole end so = best-all is_nearer (place_of a) nearer (nearest a) (is-best a) symbols i best whole end so

as-near : (p q : Option Place) → AsGood is_nearer p q → IsAsNear p q
as-near p None h = tt
as-near None (Some q) h = absurd h
as-near (Some p) (Some q) h = not-less q.offset p.offset h

pub none-nearer : (front later : List Symbol) (s : Symbol) (a : ℕ) → IsAsNear (nearest a (front ++ s ∷ later)) (place_of a s)
none-nearer front later s a = as-near (nearest a (front ++ s ∷ later)) (place_of a s) (none-better is_nearer (place_of a) nearer (nearest a) (is-best a) front later s)

pub ruleset near = (none-nearer)
