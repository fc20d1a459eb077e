-- The first instruction of the earliest line.
use Rattle.std.proofs.Common.{◌≡◌, ℕ, ◌<◌, ◌≤◌, ◌+◌, List, ◌∷◌, ◌++◌, length, get_or, drop, Bool, true, false, nat_lt, Option, None, Some, refl, ap, ◌∙◌, arith}
use Rattle.std.proofs.lemmas.Bool.Decides.{nat_tests}
use Rattle.mx_word.proofs.Comparisons.{is-less, not-less}
use Rattle.mx_object.proofs.Bests.{AsGood, IsBest, IsRanking, best-all, best-next, none-better}
use Rattle.mx_book.specs.Lookups.{IsAsEarly, earlier, from_line}
unfoldable use Rattle.mx_book.specs.Lookups.{earliest}
use Rattle.mx_book.specs.declared.loads.Load.{Load}

abbrev is_earlier : Load → Load → Bool
is_earlier q p = nat_lt q.line p.line

ranked : IsRanking is_earlier
ranked = record {
  never = λ p. grind (arith, nat_tests);
  through = λ p q r e f. grind (arith, nat_tests, e, f);
  between = λ p q r e f. grind (arith, nat_tests, e, f);
}

is-best : (line : ℕ) → IsBest is_earlier (from_line line) earlier (earliest line)
unfolding earliest
is-best line = record { ranking = ranked; none = λ q. refl; alone = λ p. refl; both = λ p q. refl; empty = refl; more = λ l loads. refl }

pub earliest-next : (loads : List Load) (i : ℕ) (d : Load) (line : ℕ) (best found new whole : Option Load) → i < length loads → found ≡ from_line line (get_or loads i d) →
    new ≡ earlier best found → whole ≡ earlier best (earliest line (drop i loads)) → whole ≡ earlier new (earliest line (drop (i + 1) loads))
earliest-next loads i d line best found new whole inside is made so =
    best-next is_earlier (from_line line) earlier (earliest line) (is-best line) loads i d best found new whole inside is made so

pub earliest-all : (loads : List Load) (i : ℕ) (line : ℕ) (best whole : Option Load) → length loads ≤ i → whole ≡ earlier best (earliest line (drop i loads)) → best ≡ whole
earliest-all loads i line best whole end so = best-all is_earlier (from_line line) earlier (earliest line) (is-best line) loads i best whole end so

as-early : (p q : Option Load) → AsGood is_earlier p q → IsAsEarly p q
as-early p None h = tt
as-early None (Some q) h = absurd h
as-early (Some p) (Some q) h = not-less q.line p.line h

pub none-earlier : (front later : List Load) (l : Load) (line : ℕ) → IsAsEarly (earliest line (front ++ l ∷ later)) (from_line line l)
none-earlier front later l line = as-early (earliest line (front ++ l ∷ later)) (from_line line l) (none-better is_earlier (from_line line) earlier (earliest line) (is-best line) front later l)

pub ruleset early = (none-earlier)
