-- Names that are distinct.
use Rattle.std.proofs.Common.{◌≡◌, ◌≢◌, Bool, true, false, ◌||◌, List, [], ◌∷◌, ◌++◌, sym, bytes_eq}
use Rattle.mx_stab.proofs.Words.{AllByRecursion, bytes_eq-Decides, Symbol, AreDistinct, is_among}
use Rattle.mx_stab.proofs.Orders.{all-front}

pub distinct-front : (xs ys : List Symbol) → AreDistinct (xs ++ ys) → AreDistinct xs
distinct-front [] ys d = tt
distinct-front (x ∷ xs) ys d = (all-front (λ (t : Symbol). x.name ≢ t.name) xs ys d.0, distinct-front xs ys d.1)

-- a new name keeps names distinct
pub distinct-push : (found : List Symbol) (new : Symbol) → is_among new.name found ≡ false → AreDistinct found → AreDistinct (found ++ new ∷ [])
distinct-push [] new a d = (tt, tt)
distinct-push (s ∷ found) new a d = one (bytes_eq new.name s.name) (λ e. (bytes_eq-Decides new.name s.name).1 e) a (λ k. distinct-push found new k d.1)
  where
    all-more : (found : List Symbol) → AllByRecursion (λ (t : Symbol). s.name ≢ t.name) found → (s.name ≡ new.name → ⊥) → AllByRecursion (λ (t : Symbol). s.name ≢ t.name) (found ++ new ∷ [])
    all-more [] h n = (n, tt)
    all-more (t ∷ found) h n = (h.0, all-more found h.1 n)

    differ : false ≡ true → ⊥
    differ e = cc

    one : (b : Bool) → (new.name ≡ s.name → b ≡ true) → (b || is_among new.name found) ≡ false → (is_among new.name found ≡ false → AreDistinct (found ++ new ∷ [])) → AreDistinct (s ∷ found ++ new ∷ [])
    one true h k rest = absurd (cc)
    one false h k rest = (all-more found d.0 (λ e. differ (h (sym e))), rest k)
