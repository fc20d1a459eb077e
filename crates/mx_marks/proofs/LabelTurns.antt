-- Labels and words that are looked at one after another.
use Rattle.std.proofs.Common.{◌≡◌, ◌≢◌, ◌≤◌, ◌<◌, ℕ, zero, suc, ◌+◌, ◌-◌, Bool, List, [], ◌∷◌, length, drop, true, false, bytes_eq, arith, refl}
use Rattle.mx_word.proofs.Comparisons.{other-test}
use Rattle.mx_line.specs.Lines.{lines_of}
use Rattle.mx_line.specs.Pieces.{split}
use Rattle.mx_marks.specs.Fields.{Line, after_word, word}
use Rattle.mx_marks.specs.Labels.{begin_alike, first_line, first_word, is_alike, is_like, is_near, is_slip_in, label_number}
use Rattle.mx_marks.specs.declared.labels.Likeness.{Likeness}

-- ---- two words

pub near-next : (is_long : Bool) (a b : List ℕ) → begin_alike a b ≡ true → is_near is_long a b ≡ is_near is_long (drop 1 a) (drop 1 b)
unfolding is_near
near-next is_long [] b e = absurd (cc)
near-next is_long (x ∷ xs) [] e = absurd (cc)
near-next is_long (x ∷ xs) (y ∷ ys) e = rw e refl

pub near-last : (is_long : Bool) (a b : List ℕ) → begin_alike a b ≡ false → is_near is_long a b ≡ is_slip_in is_long a b
unfolding is_near
near-last is_long [] b e = refl
near-last is_long (x ∷ xs) [] e = refl
near-last is_long (x ∷ xs) (y ∷ ys) e = rw e refl

pub near-shorter : (a b : List ℕ) → begin_alike a b ≡ true → length (drop 1 a) < length a
near-shorter [] b e = absurd (cc)
near-shorter (x ∷ xs) b e = omega arith

pub ruleset nears = (near-next, near-last, near-shorter)

-- ---- lines

pub no-lines : (source : List ℕ) → length source ≡ 0 → lines_of source ≡ []
unfolding lines_of split
no-lines [] e = refl
no-lines (b ∷ bs) e = absurd (omega arith)

pub label-none : (kind : Likeness) (name : List ℕ) (most : ℕ) (source : List ℕ) → length source ≡ 0 → first_line kind name most (lines_of source) ≡ []
unfolding first_line
label-none kind name most source e = rw (no-lines source e) refl

pub label-cut : (kind : Likeness) (name : List ℕ) (source rest : List ℕ) (line : Line) → lines_of source ≡ line ∷ lines_of rest → first_line kind name 0 (lines_of source) ≡ []
unfolding first_line
label-cut kind name source rest line e = rw e refl

pub label-found : (kind : Likeness) (name : List ℕ) (most : ℕ) (source rest : List ℕ) (line : Line) → lines_of source ≡ line ∷ lines_of rest → most ≢ 0 → is_like kind name (word line) ≡ true →
    first_line kind name most (lines_of source) ≡ line
unfolding first_line
label-found kind name most source rest line e other like = rw (e, other-test most 0 other, like) refl

pub label-next : (kind : Likeness) (name : List ℕ) (most : ℕ) (source rest : List ℕ) (line : Line) → lines_of source ≡ line ∷ lines_of rest → most ≢ 0 → is_like kind name (word line) ≡ false →
    first_line kind name most (lines_of source) ≡ first_line kind name (most - 1) (lines_of rest)
unfolding first_line
label-next kind name most source rest line e other like = rw (e, other-test most 0 other, like) refl

pub ruleset labels = (label-none, label-cut, label-found, label-next)

-- ---- numbers of lines

pub number-none : (name : List ℕ) (most number : ℕ) (source : List ℕ) → length source ≡ 0 → label_number name most number (lines_of source) ≡ 0
unfolding label_number
number-none name most number source e = rw (no-lines source e) refl

pub number-cut : (name : List ℕ) (number : ℕ) (source rest : List ℕ) (line : Line) → lines_of source ≡ line ∷ lines_of rest → label_number name 0 number (lines_of source) ≡ 0
unfolding label_number
number-cut name number source rest line e = rw e refl

pub number-found : (name : List ℕ) (most number : ℕ) (source rest : List ℕ) (line : Line) → lines_of source ≡ line ∷ lines_of rest → most ≢ 0 → bytes_eq name (word line) ≡ true →
    label_number name most number (lines_of source) ≡ number
unfolding label_number
number-found name most number source rest line e other same = rw (e, other-test most 0 other, same) refl

pub number-next : (name : List ℕ) (most number : ℕ) (source rest : List ℕ) (line : Line) → lines_of source ≡ line ∷ lines_of rest → most ≢ 0 → bytes_eq name (word line) ≡ false →
    label_number name most number (lines_of source) ≡ label_number name (most - 1) (number + 1) (lines_of rest)
unfolding label_number
number-next name most number source rest line e other same = rw (e, other-test most 0 other, same) refl

pub ruleset numbers = (number-none, number-cut, number-found, number-next)

-- ---- words

pub word-none : (n : ℕ) (name text : List ℕ) → n ≤ 0 → first_word n name text ≡ []
unfolding first_word
word-none zero name text e = refl
word-none (suc n) name text e = absurd (omega (arith, e))

pub word-found : (n : ℕ) (name text : List ℕ) → 0 < n → is_alike name (word text) ≡ true → first_word n name text ≡ word text
unfolding first_word
word-found zero name text e like = absurd (omega (arith, e))
word-found (suc n) name text e like = rw like refl

pub word-next : (n : ℕ) (name text : List ℕ) → 0 < n → is_alike name (word text) ≡ false → first_word n name text ≡ first_word (n - 1) name (after_word text)
unfolding first_word
word-next zero name text e like = absurd (omega (arith, e))
word-next (suc n) name text e like = let less : suc n - 1 ≡ n = omega arith in rw (like, less) refl

pub ruleset words = (word-none, word-found, word-next)
