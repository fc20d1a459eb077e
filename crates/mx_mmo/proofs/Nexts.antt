-- What an answer of a reader says of the items that it still gives.
use Rattle.std.proofs.Common.{◌≡◌, ℕ, ◌<◌, ◌≤◌, length, List, [], ◌∷◌, ◌++◌, arith, refl, sym, ◌∙◌, ap, Ok, Err, Some, None, length-drop, append_assoc, Result}
use Rattle.mx_mmo.proofs.Words.{Due, IsWithin, first_item, ReaderModel, next_item, next_due, next_answer, given, tail_of, finish_answer, items_of, onto, with_rest, left_of, fed, Item, MmoFault, nat_tests}
use Rattle.mx_mmo.proofs.Firsts.{first-within}
use Rattle.mx_mmo.proofs.Walks.{items-more, items-none, items-fault}

-- an equation between answers is one between results and one between readers
pub result-is : {A : Type 0} (p q : Result A MmoFault × ReaderModel) → p ≡ q → p.0 ≡ q.0
result-is {A = A} p q h = ap (λ (p : Result A MmoFault × ReaderModel). p.0) h

pub reader-is : {A : Type 0} (p q : Result A MmoFault × ReaderModel) → p ≡ q → p.1 ≡ q.1
reader-is {A = A} p q h = ap (λ (p : Result A MmoFault × ReaderModel). p.1) h

pub record Gave (items : List Item) (m n : ReaderModel) (item : Item) : Type 0 where
  pub same : with_rest (items ++ item ∷ []) n ≡ with_rest items m
  pub well : n.fault ≡ None
  pub less : length n.rest < length m.rest
  pub end : fed n ≡ fed m

gave : (items : List Item) (m : ReaderModel) (item : Item) (size : ℕ) → m.fault ≡ None → first_item m.phase m.at m.rest ≡ Ok (Some (item, size)) →
    0 < size → size ≤ length m.rest → Gave items m (given m item size) item
gave items m item size well e p q = record {
  same = (rw append_assoc refl) ∙ ap (onto items) (sym (items-more m.phase m.at m.rest item size e));
  well = well;
  less = omega (arith, length-drop size m.rest);
  end = omega (arith, length-drop size m.rest);
}

gave-step : (items : List Item) (m n : ReaderModel) (item : Item) (d : Due) → m.fault ≡ None → first_item m.phase m.at m.rest ≡ d → IsWithin d (length m.rest) →
    (Ok (Some item), n) ≡ next_item m d → Gave items m n item
gave-step items m n item (Ok (Some (other, size))) well e w h = grind (arith, nat_tests, gave items m other size well e w.0 w.1)
gave-step items m n item d well e w h = grind arith

next-is : (m : ReaderModel) → m.fault ≡ None → next_answer m ≡ next_item m (first_item m.phase m.at m.rest)
next-is m well = ap (λ f. next_due f m) well

pub next-gave : (items : List Item) (m n : ReaderModel) (item : Item) → m.fault ≡ None → (Ok (Some item), n) ≡ next_answer m → Gave items m n item
next-gave items m n item well h =
    gave-step items m n item (first_item m.phase m.at m.rest) well refl (first-within m.phase m.at m.rest) (h ∙ next-is m well)

none-step : (m n : ReaderModel) (d : Due) → first_item m.phase m.at m.rest ≡ d → (Ok None, n) ≡ next_item m d → (n ≡ m) × (items_of m.phase m.at m.rest ≡ ([], Ok (left_of m)))
none-step m n d h1 h2 = grind (arith, nat_tests, items-none)

pub next-none : (m n : ReaderModel) → m.fault ≡ None → (Ok None, n) ≡ next_answer m → (n ≡ m) × (items_of m.phase m.at m.rest ≡ ([], Ok (left_of m)))
next-none m n well h = none-step m n (first_item m.phase m.at m.rest) refl (h ∙ next-is m well)

fault-step : (m n : ReaderModel) (fault : MmoFault) (d : Due) → first_item m.phase m.at m.rest ≡ d → (Err fault, n) ≡ next_item m d → items_of m.phase m.at m.rest ≡ ([], Err fault)
fault-step m n fault d h1 h2 = grind (arith, nat_tests, items-fault)

pub next-fault : (m n : ReaderModel) (fault : MmoFault) → m.fault ≡ None → (Err fault, n) ≡ next_answer m → items_of m.phase m.at m.rest ≡ ([], Err fault)
next-fault m n fault well h = fault-step m n fault (first_item m.phase m.at m.rest) refl (h ∙ next-is m well)

pub finish-fault : (m n : ReaderModel) (fault : MmoFault) → m.fault ≡ None → (Err fault, n) ≡ finish_answer m → tail_of m.phase m.at m.rest ≡ Err fault
finish-fault m n fault well h = grind arith
