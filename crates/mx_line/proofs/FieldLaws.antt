-- Operand fields: what the rules spell is what is measured, and what is measured is spelled so.
use Rattle.std.proofs.Common.{◌≡◌, ℕ, suc, ◌+◌, List, [], ◌∷◌, ◌++◌, length, Bool, true, false, cond, not, Result, Ok, Err, refl, sym, ap, ◌∙◌, arith, subst, append_assoc, length-append, inl, inr, ◌==◌, ◌||◌, rules}
use Rattle.mx_line.proofs.Words.{cond_both, and_parts, list_all, eqb_tells, LineFault, TooLong, BadLabel, BadLocal, BadOpcode, OpenString, OpenChar, NoOpcode, Within, field_from, field_length, more, ends_field, ends_here, nothing, string, constant, closing, begins, is_no_quote, is_other, IsField, closes}
use Rattle.mx_line.specs.Statements.IsField.{empty, string_first, constant_first, byte_first}
use Rattle.mx_line.proofs.FieldLemmas.{more-more}
use Rattle.mx_word.proofs.Comparisons.{same-number as is-eq}

-- a byte that passes a test is no byte that does not
not-at : (n b : ℕ) (test : ℕ → Bool) → test n ≡ false → test b ≡ true → (b == n) ≡ false
not-at n b test h k = elim (eqb_tells b n) [ inl (t, e) ↦ (let same = ap test e in absurd (cc)) | inr (f, e) ↦ f ]

passed : {X : Type 0} (t : Bool) (x y : X) → not t ≡ true → cond t x y ≡ y
passed t x y h = search rules

-- What the rules spell is measured, whatever follows it.
quoted : (inner rest : List ℕ) → list_all is_no_quote inner ≡ true → field_from string (inner ++ 34 ∷ rest) ≡ more (length inner + 1) (field_from nothing rest)
unfolding field_from
quoted [] rest h = refl
quoted (b ∷ bs) rest h = grind (arith, and_parts, more-more, quoted bs rest)

unquoted : (inner : List ℕ) → list_all is_no_quote inner ≡ true → field_from string inner ≡ Err OpenString
unfolding field_from
unquoted [] h = refl
unquoted (b ∷ bs) h = let both = and_parts (is_no_quote b) (list_all is_no_quote bs) h in passed (b == 34) _ _ both.0 ∙ ap (more 1) (unquoted bs both.1)

none-of : (x y z : Bool) → not (x || y || z) ≡ true → (x ≡ false) × (y ≡ false) × (z ≡ false)
none-of x y z h = search rules

one-more : (n : ℕ) (r : Result ℕ LineFault) → more 1 (more n r) ≡ more (suc n) r
one-more n r = let e : 1 + n ≡ suc n = omega arith in more-more 1 n r ∙ ap (λ m. more m r) e

pub measured : (front : List ℕ) → IsField front → (rest : List ℕ) → field_length (front ++ rest) ≡ more (length front) (field_length rest)
unfolding field_from
measured [] empty rest = search rules
measured _ (string_first inner after h f) rest =
    let lengths : suc (length inner + 1 + length after) ≡ suc (length (inner ++ 34 ∷ after)) = omega (arith, length-append inner (34 ∷ after)) in
    ap (λ t. more 1 (field_from string t)) (append_assoc inner (34 ∷ after) rest) ∙ ap (more 1) (quoted inner (after ++ rest) h)
    ∙ ap (λ r. more 1 (more (length inner + 1) r)) (measured after f rest) ∙ ap (more 1) (more-more (length inner + 1) (length after) (field_length rest))
    ∙ one-more (length inner + 1 + length after) (field_length rest) ∙ ap (λ n. more n (field_length rest)) lengths
measured _ (constant_first b after f) rest = simp (one-more, measured after f rest)
measured _ (byte_first b after h f) rest = search (rules, one-more, measured after f rest)

pub ended : (rest : List ℕ) → ends_here rest ≡ true → field_length rest ≡ Ok 0
unfolding field_from
ended rest h = search rules

pub whole-field : (front rest : List ℕ) → IsField front → ends_here rest ≡ true → field_length (front ++ rest) ≡ Ok (length front)
whole-field front rest f h =
    let e : length front + 0 ≡ length front = omega arith in
    measured front f rest ∙ ap (more (length front)) (ended rest h) ∙ ap (λ n. Ok n) e

pub open-string : (front inner : List ℕ) → IsField front → list_all is_no_quote inner ≡ true → field_length (front ++ 34 ∷ inner) ≡ Err OpenString
unfolding field_from
open-string front inner f h = measured front f (34 ∷ inner) ∙ ap (λ r. more (length front) (more 1 r)) (unquoted inner h)

unclosed : (after : List ℕ) → closes after ≡ false → field_from constant after ≡ Err OpenChar
unfolding field_from
unclosed after h = search rules

pub open-char : (front after : List ℕ) → IsField front → closes after ≡ false → field_length (front ++ 39 ∷ after) ≡ Err OpenChar
unfolding field_from
open-char front after f h = measured front f (39 ∷ after) ∙ ap (λ r. more (length front) (more 1 r)) (unclosed after h)

-- What is measured is spelled by the rules: what is left of a field, by where it is.
pub record InString (bytes : List ℕ) : Type 0 where
  pub inner : List ℕ
  pub rest : List ℕ
  pub spelled : bytes ≡ inner ++ 34 ∷ rest
  pub free : list_all is_no_quote inner ≡ true
  pub field : IsField rest

pub record InConstant (bytes : List ℕ) : Type 0 where
  pub byte : ℕ
  pub rest : List ℕ
  pub spelled : bytes ≡ byte ∷ 39 ∷ rest
  pub field : IsField rest

pub record InClosing (bytes : List ℕ) : Type 0 where
  pub rest : List ℕ
  pub spelled : bytes ≡ 39 ∷ rest
  pub field : IsField rest

abbrev pub IsLeft : Within → List ℕ → Type 0
IsLeft nothing bytes = IsField bytes
IsLeft string bytes = InString bytes
IsLeft constant bytes = InConstant bytes
IsLeft closing bytes = InClosing bytes

pub record Whole (w : Within) (text : List ℕ) (count : ℕ) : Type 0 where
  pub bytes : List ℕ
  pub after : List ℕ
  pub spelled : text ≡ bytes ++ after
  pub counted : length bytes ≡ count
  pub left : IsLeft w bytes
  pub ends : ends_here after ≡ true

pub data OpenedString (w : Within) (text : List ℕ) : Type 0 where
  opened : (bytes inner : List ℕ) → text ≡ bytes ++ 34 ∷ inner → IsLeft w bytes → list_all is_no_quote inner ≡ true → OpenedString w text
  inside : w ≡ string → list_all is_no_quote text ≡ true → OpenedString w text

pub data OpenedChar (w : Within) (text : List ℕ) : Type 0 where
  opened_char : (bytes after : List ℕ) → text ≡ bytes ++ 39 ∷ after → IsLeft w bytes → closes after ≡ false → OpenedChar w text
  at_byte : w ≡ constant → closes text ≡ false → OpenedChar w text
  at_close : w ≡ closing → begins (λ b. b == 39) text ≡ false → OpenedChar w text

abbrev pub Spelled : Within → List ℕ → Result ℕ LineFault → Type 0
Spelled w text (Ok count) = Whole w text count
Spelled w text (Err OpenString) = OpenedString w text
Spelled w text (Err OpenChar) = OpenedChar w text
Spelled w text (Err TooLong) = ⊥
Spelled w text (Err BadLabel) = ⊥
Spelled w text (Err BadLocal) = ⊥
Spelled w text (Err BadOpcode) = ⊥
Spelled w text (Err NoOpcode) = ⊥

-- one byte before what is left
grown : (v w : Within) (b : ℕ) (bs : List ℕ) → ((bytes : List ℕ) → IsLeft v bytes → IsLeft w (b ∷ bytes)) →
    (v ≡ string → list_all is_no_quote bs ≡ true → OpenedString w (b ∷ bs)) → (v ≡ constant → closes bs ≡ false → OpenedChar w (b ∷ bs)) →
    (v ≡ closing → begins (λ c. c == 39) bs ≡ false → OpenedChar w (b ∷ bs)) → (r : Result ℕ LineFault) → Spelled v bs r → Spelled w (b ∷ bs) (more 1 r)
grown v w b bs grow s c d (Ok n) h = record { bytes = b ∷ h.bytes; after = h.after; spelled = ap (λ t. b ∷ t) h.spelled; counted = omega (arith, h.counted); left = grow h.bytes h.left; ends = h.ends }
grown v w b bs grow s c d (Err OpenString) (opened bytes inner e l f) = opened (b ∷ bytes) inner (ap (λ t. b ∷ t) e) (grow bytes l) f
grown v w b bs grow s c d (Err OpenString) (inside e f) = s e f
grown v w b bs grow s c d (Err OpenChar) (opened_char bytes after e l f) = opened_char (b ∷ bytes) after (ap (λ t. b ∷ t) e) (grow bytes l) f
grown v w b bs grow s c d (Err OpenChar) (at_byte e f) = c e f
grown v w b bs grow s c d (Err OpenChar) (at_close e f) = d e f
grown v w b bs grow s c d r h = h

from-quote : (bs : List ℕ) → Spelled string bs (field_from string bs) → Spelled nothing (34 ∷ bs) (more 1 (field_from string bs))
from-quote bs h =
    grown string nothing 34 bs (λ bytes l. subst (λ t. IsField (34 ∷ t)) (sym l.spelled) (string_first l.inner l.rest l.free l.field))
    (λ e f. opened [] bs refl empty f) (λ e f. absurd (cc)) (λ e f. absurd (cc)) (field_from string bs) h

from-apostrophe : (bs : List ℕ) → Spelled constant bs (field_from constant bs) → Spelled nothing (39 ∷ bs) (more 1 (field_from constant bs))
from-apostrophe bs h =
    grown constant nothing 39 bs (λ bytes l. subst (λ t. IsField (39 ∷ t)) (sym l.spelled) (constant_first l.byte l.rest l.field))
    (λ e f. absurd (cc)) (λ e f. opened_char [] bs refl empty f) (λ e f. absurd (cc)) (field_from constant bs) h

from-byte : (b : ℕ) (bs : List ℕ) → is_other b ≡ true → Spelled nothing bs (field_from nothing bs) → Spelled nothing (b ∷ bs) (more 1 (field_from nothing bs))
from-byte b bs o h =
    grown nothing nothing b bs (λ bytes l. byte_first b bytes o l) (λ e f. absurd (cc)) (λ e f. absurd (cc)) (λ e f. absurd (cc)) (field_from nothing bs) h

string-ends : (bs : List ℕ) → Spelled nothing bs (field_from nothing bs) → Spelled string (34 ∷ bs) (more 1 (field_from nothing bs))
string-ends bs h =
    grown nothing string 34 bs (λ bytes l. record { inner = []; rest = bytes; spelled = refl; free = refl; field = l }) (λ e f. absurd (cc)) (λ e f. absurd (cc)) (λ e f. absurd (cc)) (field_from nothing bs) h

free-more : (b : ℕ) (bs : List ℕ) → (b == 34) ≡ false → list_all is_no_quote bs ≡ true → list_all is_no_quote (b ∷ bs) ≡ true
free-more b bs e f = rw (e, f) refl

string-goes : (b : ℕ) (bs : List ℕ) → (b == 34) ≡ false → Spelled string bs (field_from string bs) → Spelled string (b ∷ bs) (more 1 (field_from string bs))
string-goes b bs n h =
    grown string string b bs (λ bytes l. record { inner = b ∷ l.inner; rest = l.rest; spelled = ap (λ t. b ∷ t) l.spelled; free = free-more b l.inner n l.free; field = l.field })
    (λ e f. inside refl (free-more b bs n f)) (λ e f. absurd (cc)) (λ e f. absurd (cc)) (field_from string bs) h

unclosed-byte : (b : ℕ) (bs : List ℕ) → begins (λ c. c == 39) bs ≡ false → closes (b ∷ bs) ≡ false
unclosed-byte b bs h = cc

constant-goes : (b : ℕ) (bs : List ℕ) → Spelled closing bs (field_from closing bs) → Spelled constant (b ∷ bs) (more 1 (field_from closing bs))
constant-goes b bs h =
    grown closing constant b bs (λ bytes l. record { byte = b; rest = l.rest; spelled = ap (λ t. b ∷ t) l.spelled; field = l.field })
    (λ e f. absurd (cc)) (λ e f. absurd (cc)) (λ e f. at_byte refl (unclosed-byte b bs f)) (field_from closing bs) h

constant-ends : (bs : List ℕ) → Spelled nothing bs (field_from nothing bs) → Spelled closing (39 ∷ bs) (more 1 (field_from nothing bs))
constant-ends bs h =
    grown nothing closing 39 bs (λ bytes l. record { rest = bytes; spelled = refl; field = l }) (λ e f. absurd (cc)) (λ e f. absurd (cc)) (λ e f. absurd (cc)) (field_from nothing bs) h

pub spelled-is : (w : Within) (text : List ℕ) → Spelled w text (field_from w text)
unfolding field_from
spelled-is nothing [] = record { bytes = []; after = []; spelled = refl; counted = refl; left = empty; ends = refl }
spelled-is string [] = inside refl refl
spelled-is constant [] = at_byte refl refl
spelled-is closing [] = at_close refl refl
spelled-is nothing (b ∷ bs) =
    let P : Result ℕ LineFault → Type 0 = Spelled nothing (b ∷ bs) in
    cond_both (b == 34) _ _ P (λ e. subst (λ c. Spelled nothing (c ∷ bs) (more 1 (field_from string bs))) (sym (is-eq b 34 e)) (from-quote bs (spelled-is string bs))) (λ e.
    cond_both (b == 39) _ _ P (λ f. subst (λ c. Spelled nothing (c ∷ bs) (more 1 (field_from constant bs))) (sym (is-eq b 39 f)) (from-apostrophe bs (spelled-is constant bs))) (λ f.
    cond_both (ends_field b) _ _ P (λ g. record { bytes = []; after = b ∷ bs; spelled = refl; counted = refl; left = empty; ends = g })
    (λ g. from-byte b bs (rw (e, f, g) refl) (spelled-is nothing bs))))
spelled-is string (b ∷ bs) = grind (arith, cond_both, is-eq, string-ends, string-goes, spelled-is nothing bs, spelled-is string bs)
spelled-is constant (b ∷ bs) = constant-goes b bs (spelled-is closing bs)
spelled-is closing (b ∷ bs) = grind (arith, cond_both, is-eq, constant-ends, spelled-is nothing bs)
