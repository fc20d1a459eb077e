-- The greatest of the addresses of labels.
use Rattle.std.proofs.Common.{◌≡◌, ℕ, ◌<◌, ◌≤◌, ◌+◌, List, ◌∷◌, ◌++◌, length, get_or, drop, Bool, true, false, nat_lt, Option, None, Some, refl, ap, ◌∙◌, arith}
use Rattle.std.proofs.lemmas.Bool.Decides.{nat_tests}
use Rattle.mx_word.proofs.Comparisons.{is-less, not-less}
use Rattle.mx_object.proofs.Bests.{AsGood, IsBest, IsRanking, best-all, best-next, none-better}
use Rattle.mx_object.specs.declared.labels.Label.{Label}
use Rattle.mx_book.specs.Lookups.{IsAsNear, address_before, greater}
unfoldable use Rattle.mx_book.specs.Lookups.{nearest_address}

abbrev is_greater : ℕ → ℕ → Bool
is_greater y x = nat_lt x y

ranked : IsRanking is_greater
ranked = record {
  never = λ x. grind (arith, nat_tests);
  through = λ x y z e f. grind (arith, nat_tests, e, f);
  between = λ x y z e f. grind (arith, nat_tests, e, f);
}

is-best : (a : ℕ) → IsBest is_greater (address_before a) greater (nearest_address a)
unfolding nearest_address
is-best a = record { ranking = ranked; none = λ q. refl; alone = λ x. refl; both = λ x y. refl; empty = refl; more = λ l labels. refl }

pub nearest-next : (labels : List Label) (i : ℕ) (l : Label) (a : ℕ) (best place new whole : Option ℕ) → i < length labels → l ≡ get_or labels i l → place ≡ address_before a l →
    new ≡ greater best place → whole ≡ greater best (nearest_address a (drop i labels)) → whole ≡ greater new (nearest_address a (drop (i + 1) labels))
nearest-next labels i l a best place new whole inside item is made so =
    best-next is_greater (address_before a) greater (nearest_address a) (is-best a) labels i l best place new whole inside (is ∙ ap (address_before a) item) made so

pub nearest-all : (labels : List Label) (i : ℕ) (a : ℕ) (best whole : Option ℕ) → length labels ≤ i → whole ≡ greater best (nearest_address a (drop i labels)) → best ≡ whole
nearest-all labels i a best whole end so = best-all is_greater (address_before a) greater (nearest_address a) (is-best a) labels i best whole end so

as-near : (p q : Option ℕ) → AsGood is_greater p q → IsAsNear p q
as-near p None h = tt
as-near None (Some y) h = absurd h
as-near (Some x) (Some y) h = not-less x y h

pub none-nearer : (front later : List Label) (l : Label) (a : ℕ) → IsAsNear (nearest_address a (front ++ l ∷ later)) (address_before a l)
none-nearer front later l a = as-near (nearest_address a (front ++ l ∷ later)) (address_before a l) (none-better is_greater (address_before a) greater (nearest_address a) (is-best a) front later l)

pub ruleset near = (none-nearer)
