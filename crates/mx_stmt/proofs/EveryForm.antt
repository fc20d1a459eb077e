-- What holds of tetras without a reference and of relative addresses holds of the forms of all instructions.
use Rattle.std.proofs.Common.{◌≡◌, ℕ, ◌^◌, true, List, [], ◌∷◌, None, Ok, Err, refl, rules}
use Rattle.mx_stmt.proofs.Words.{cond_both, Tree, Shape, Three, Regs, Round, Neg, Rel, Mem, MemPure, Wyde, Jump, Put, Pop, One, Unsave, Free, Tetra, StmtFault, Operands, Answer, and_then, Known, Targets, register_at, field_at, register_or_byte_at, plain_tetra, last_word, last_form, last_register, last_two, takes_byte, rounded_last, address_form, branch_form, jump_form, wyde_form, whole_form, byte_form, free_at, free_form, with_register, with_byte, form, form_by, set_form, tetra_xyz, tetra_wyde, tetra_whole}
use Rattle.mx_stmt.proofs.CodesOfTargets.{has_address}

-- an answer without a reference
unfoldable pub HasNoWait : Answer Tetra → Type 0
HasNoWait (Err fault) = Unit {0}
HasNoWait (Ok tetra) = tetra.wait ≡ None

pub none-plain : (word : ℕ) → HasNoWait (plain_tetra word)
unfolding HasNoWait
none-plain word = refl

none-fault : (fault : StmtFault) → HasNoWait (Err fault)
unfolding HasNoWait
none-fault fault = tt

pub none-then : {A : Type 0} (a : Answer A) (next : A → Answer Tetra) → ((x : A) → HasNoWait (next x)) → HasNoWait (and_then a next)
unfolding HasNoWait
none-then a next h = search rules

module _ (k : Known) (code : ℕ) where
  none-last : (x y : ℕ) (z : Tree) → HasNoWait (last_form k code x y z)
  none-last x y z = none-then (register_or_byte_at k z) (λ z. plain_tetra (last_word code x y z)) (λ z. none-plain _)

  none-register : (x y : ℕ) (z : Tree) → HasNoWait (last_register k code x y z)
  none-register x y z = none-then (register_at k z) (λ z. plain_tetra (tetra_xyz code x y z)) (λ z. none-plain _)

  none-two : (x : ℕ) (y z : Tree) → HasNoWait (last_two k code x y z)
  none-two x y z = none-then (register_at k y) (λ y. last_form k code x y z) (λ y. none-last x y z)

  none-rounded : (x y : ℕ) (z : Tree) → HasNoWait (rounded_last k code x y z)
  none-rounded x y z = cond_both (takes_byte code) _ _ HasNoWait (λ b. none-last x y z) (λ b. none-register x y z)

  none-address : (x : ℕ) (a : Tree) → HasNoWait (address_form k code x a)
  none-address x a = search (rules, none-then, none-plain)

  none-wyde : (x : ℕ) (n : Tree) → HasNoWait (wyde_form k code x n)
  none-wyde x n = none-then (field_at (2 ^ 16) k n) (λ n. plain_tetra (tetra_wyde code x n)) (λ n. none-plain _)

  none-whole : (n : Tree) → HasNoWait (whole_form k code n)
  none-whole n = none-then (field_at (2 ^ 24) k n) (λ n. plain_tetra (tetra_whole code n)) (λ n. none-plain _)

  none-byte : (x : ℕ) (z : Tree) → HasNoWait (byte_form k code x z)
  none-byte x z = none-then (field_at 256 k z) (λ z. plain_tetra (tetra_xyz code x 0 z)) (λ z. none-plain _)

  none-free : (x y z : Tree) → HasNoWait (free_form k code x y z)
  none-free x y z = search (rules, none-then, none-plain)

-- a property of lists of operands by their number
by-number : (P : List Tree → Type 0) → P [] → ((x : Tree) → P (x ∷ [])) → ((x y : Tree) → P (x ∷ y ∷ [])) → ((x y z : Tree) → P (x ∷ y ∷ z ∷ [])) → ((x y z w : Tree) (more : List Tree) → P (x ∷ y ∷ z ∷ w ∷ more)) → (l : List Tree) → P l
by-number P none one two three more [] = none
by-number P none one two three more (x ∷ []) = one x
by-number P none one two three more (x ∷ y ∷ []) = two x y
by-number P none one two three more (x ∷ y ∷ z ∷ []) = three x y z
by-number P none one two three more (x ∷ y ∷ z ∷ w ∷ rest) = more x y z w rest

-- one property of the answers with any targets
module _ (k : Known) (code : ℕ) (P : (Targets → Answer Tetra) → Type 0) (plain : (a : Answer Tetra) → HasNoWait a → P (λ t. a)) where
  none : P (λ t. Err Operands)
  none = plain (Err Operands) (none-fault Operands)

  after-register : (x : Tree) (next : ℕ → Answer Tetra) → ((x : ℕ) → HasNoWait (next x)) → P (λ t. with_register k x next)
  after-register x next h = plain (with_register k x next) (none-then (register_at k x) next h)

  after-byte : (x : Tree) (next : ℕ → Answer Tetra) → ((x : ℕ) → HasNoWait (next x)) → P (λ t. with_byte k x next)
  after-byte x next h = plain (with_byte k x next) (none-then (field_at 256 k x) next h)

  abbrev Forms : Shape → List Tree → Type 0
  Forms shape l = P (λ t. form t k shape code l)

  every-form : (shape : Shape) → (has_address (shape ∷ []) ≡ true → (x a : Tree) → P (λ t. with_register k x (λ x. branch_form t k code x a))) →
      (has_address (shape ∷ []) ≡ true → (a : Tree) → P (λ t. jump_form t k code a)) → (l : List Tree) → Forms shape l
  every-form Three branch jump l = by-number (Forms Three) none (λ x. none) (λ x y. none) (λ x y z. after-register x _ (λ x. none-two k code x y z)) (λ x y z w more. none) l
  every-form Regs branch jump l = by-number (Forms Regs) none (λ x. none) (λ x y. none) (λ x y z. after-register x _ (λ x. none-then (register_at k y) _ (λ y. none-register k code x y z))) (λ x y z w more. none) l
  every-form Round branch jump l = by-number (Forms Round) none (λ x. none) (λ x z. after-register x _ (λ x. none-rounded k code x 0 z)) (λ x y z. after-register x _ (λ x. none-then (field_at 256 k y) _ (λ y. none-rounded k code x y z))) (λ x y z w more. none) l
  every-form Neg branch jump l = by-number (Forms Neg) none (λ x. none) (λ x z. after-register x _ (λ x. none-last k code x 0 z)) (λ x y z. after-register x _ (λ x. none-then (field_at 256 k y) _ (λ y. none-last k code x y z))) (λ x y z w more. none) l
  every-form Rel branch jump l = by-number (Forms Rel) none (λ x. none) (λ x a. branch refl x a) (λ x y z. none) (λ x y z w more. none) l
  every-form Mem branch jump l = by-number (Forms Mem) none (λ x. none) (λ x a. after-register x _ (λ x. none-address k code x a)) (λ x y z. after-register x _ (λ x. none-two k code x y z)) (λ x y z w more. none) l
  every-form MemPure branch jump l = by-number (Forms MemPure) none (λ x. none) (λ x a. after-byte x _ (λ x. none-address k code x a)) (λ x y z. after-byte x _ (λ x. none-two k code x y z)) (λ x y z w more. none) l
  every-form Wyde branch jump l = by-number (Forms Wyde) none (λ x. none) (λ x n. after-register x _ (λ x. none-wyde k code x n)) (λ x y z. none) (λ x y z w more. none) l
  every-form Jump branch jump l = by-number (Forms Jump) none (λ a. jump refl a) (λ x y. none) (λ x y z. none) (λ x y z w more. none) l
  every-form Put branch jump l = by-number (Forms Put) none (λ x. none) (λ x z. after-byte x _ (λ x. none-last k code x 0 z)) (λ x y z. none) (λ x y z w more. none) l
  every-form Pop branch jump l = by-number (Forms Pop) none (λ n. plain _ (none-whole k code n)) (λ x n. after-byte x _ (λ x. none-wyde k code x n)) (λ x y z. none) (λ x y z w more. none) l
  every-form One branch jump l = by-number (Forms One) none (λ n. plain _ (none-whole k code n)) (λ x n. none) (λ x y z. none) (λ x y z w more. none) l
  every-form Unsave branch jump l = by-number (Forms Unsave) none (λ z. plain _ (none-register k code 0 0 z)) (λ x z. after-byte x _ (λ x. none-register k code x 0 z)) (λ x y z. none) (λ x y z w more. none) l
  every-form Free branch jump l = by-number (Forms Free) none (λ n. plain _ (none-whole k code n)) (λ x n. plain _ (none-then (free_at k x) _ (λ x. none-wyde k code x n))) (λ x y z. plain _ (none-free k code x y z)) (λ x y z w more. none) l
  every-form shape branch jump l = by-number (Forms shape) none (λ x. none) (λ x z. after-register x _ (λ x. none-byte k code x z)) (λ x y z. none) (λ x y z w more. none) l

  pub every-code : (shapes : List Shape) → (has_address shapes ≡ true → (x a : Tree) → P (λ t. with_register k x (λ x. branch_form t k code x a))) →
      (has_address shapes ≡ true → (a : Tree) → P (λ t. jump_form t k code a)) → (l : List Tree) → P (λ t. form_by t k shapes code l)
  every-code [] branch jump l = none
  every-code (shape ∷ shapes) branch jump l = every-form shape (λ h. branch (by shape h)) (λ h. jump (by shape h)) l
    where
      by : (shape : Shape) → has_address (shape ∷ []) ≡ true → has_address (shape ∷ shapes) ≡ true
      by Rel h = refl
      by Jump h = refl
      by shape h = absurd (cc)

pub set-plain : (k : Known) (l : List Tree) → HasNoWait (set_form k l)
set-plain k l = search (rules, by-number, none-fault, none-then, none-plain)
