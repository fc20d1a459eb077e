-- Look-ups in a table of names.
use Rattle.std.proofs.Common.{ℕ, zero, suc, ◌<◌, ◌≡◌, Bool, true, false, cond, List, [], ◌∷◌, ◌++◌, length, get_or, Option, Some, None, Decides, refl, sym, ◌∙◌, ap, arith, bytes_eq, Contains}
use Rattle.mx_ops.proofs.Words.{bytes_eq-Decides, and_parts, not-true, first_of, lacks, names_once}

-- a test that is not true
not-same : (a b : List ℕ) → bytes_eq a b ≡ false → a ≡ b → false ≡ true
not-same a b h same = sym h ∙ (bytes_eq-Decides a b).1 same

turned : (t : Bool) (a b : List ℕ) → Decides t (b ≡ a) → bytes_eq a b ≡ false → t ≡ false
turned true a b d h = sym (not-same a b h (sym (d.0 refl)))
turned false a b d h = refl

module _ {A : Type 0} where
  -- a table in which the name is not
  pub first_of-append : (name : List ℕ) (front back : List (List ℕ × A)) → first_of name front ≡ None → first_of name (front ++ back) ≡ first_of name back
  first_of-append name [] back h = refl
  first_of-append name (e ∷ front) back h = passed (bytes_eq e.0 name) e.1 _ _ h (first_of-append name front back)
    where
      passed : (b : Bool) (v : A) (rest more : Option A) → cond b (Some v) rest ≡ None → (rest ≡ None → more ≡ first_of name back) → cond b (Some v) more ≡ first_of name back
      passed true v rest more h go = cc
      passed false v rest more h go = go h

  -- a table in which the name is
  pub first_of-front : (name : List ℕ) (front back : List (List ℕ × A)) (v : A) → first_of name front ≡ Some v → first_of name (front ++ back) ≡ Some v
  first_of-front name [] back v h = cc
  first_of-front name (e ∷ front) back v h = kept (bytes_eq e.0 name) e.1 _ _ h (first_of-front name front back v)
    where
      kept : (b : Bool) (w : A) (rest more : Option A) → cond b (Some w) rest ≡ Some v → (rest ≡ Some v → more ≡ Some v) → cond b (Some w) more ≡ Some v
      kept true w rest more h go = h
      kept false w rest more h go = go h

  -- an entry of a table that lacks a name has another name
  lacks-at : (name : List ℕ) (table : List (List ℕ × A)) (k : ℕ) (d : List ℕ × A) → lacks name table ≡ true → k < length table → bytes_eq (get_or table k d).0 name ≡ false
  lacks-at name [] k d h lt = absurd (omega arith)
  lacks-at name (e ∷ table) zero d h lt = not-true _ (and_parts _ _ h).0
  lacks-at name (e ∷ table) (suc k) d h lt = lacks-at name table k d (and_parts _ _ h).1 (omega arith)

  -- each entry is found by its name, where no name has two
  pub first_of-once : (table : List (List ℕ × A)) (name : List ℕ) (v : A) → names_once table ≡ true → Contains table (name, v) → first_of name table ≡ Some v
  first_of-once [] name v once (k, lt, is) = absurd (omega arith)
  first_of-once (e ∷ table) name v once (zero, lt, is) =
      let same : bytes_eq e.0 name ≡ true = (bytes_eq-Decides e.0 name).1 (ap (λ x. x.0) is) in
      rw same (ap (λ x. Some x.1) is)
  first_of-once (e ∷ table) name v once (suc k, lt, is) =
      let rest : first_of name table ≡ Some v = first_of-once table name v (and_parts _ _ once).1 (k, omega arith, is) in
      let other : bytes_eq name e.0 ≡ false = ap (λ x. bytes_eq x.0 e.0) (sym is) ∙ lacks-at e.0 table k (name, v) (and_parts _ _ once).0 (omega arith) in
      let here : bytes_eq e.0 name ≡ false = turned (bytes_eq e.0 name) name e.0 (bytes_eq-Decides e.0 name) other in
      rw here rest
