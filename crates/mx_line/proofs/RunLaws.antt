-- A text is in one way a run of one kind of bytes and a rest.
use Rattle.std.proofs.Common.{◌≡◌, ℕ, ◌+◌, List, [], ◌∷◌, ◌++◌, length, take, drop, Bool, true, false, cond, refl, sym, ap, ◌∙◌, arith, take-append-drop, take_at, drop_at, rules}
use Rattle.mx_line.proofs.Words.{and_parts, prefix_len, list_all, run, past, begins, Run}
use Rattle.mx_line.proofs.KindLemmas.{run-length}

joined : (kind : ℕ → Bool) (text : List ℕ) → text ≡ run kind text ++ past kind text
joined kind text = sym (ap (λ n. run kind text ++ drop n text) (run-length kind text) ∙ take-append-drop (prefix_len kind text) text)

all-step : (kind : ℕ → Bool) (t : Bool) (n b : ℕ) (bs : List ℕ) → kind b ≡ t → list_all kind (take n bs) ≡ true → list_all kind (take (cond t (1 + n) 0) (b ∷ bs)) ≡ true
all-step kind t n b bs e h = search rules

all-run : (kind : ℕ → Bool) (text : List ℕ) → list_all kind (take (prefix_len kind text) text) ≡ true
all-run kind [] = refl
all-run kind (b ∷ bs) = all-step kind (kind b) (prefix_len kind bs) b bs refl (all-run kind bs)

ends-step : (kind : ℕ → Bool) (t : Bool) (n b : ℕ) (bs : List ℕ) → kind b ≡ t → begins kind (drop n bs) ≡ false → begins kind (drop (cond t (1 + n) 0) (b ∷ bs)) ≡ false
ends-step kind t n b bs e h = search rules

ends-run : (kind : ℕ → Bool) (text : List ℕ) → begins kind (drop (prefix_len kind text) text) ≡ false
ends-run kind [] = refl
ends-run kind (b ∷ bs) = ends-step kind (kind b) (prefix_len kind bs) b bs refl (ends-run kind bs)

-- the run at the front and what follows it
pub run-is : (kind : ℕ → Bool) (text : List ℕ) → Run kind text (run kind text) (past kind text)
run-is kind text = record {
  spelled = joined kind text;
  all = all-run kind text;
  ends = ap (λ n. begins kind (drop n text)) (run-length kind text) ∙ ends-run kind text;
}

prefix-front : (kind : ℕ → Bool) (front rest : List ℕ) → list_all kind front ≡ true → begins kind rest ≡ false → prefix_len kind (front ++ rest) ≡ length front
prefix-front kind [] rest h k = search rules
prefix-front kind (b ∷ bs) rest h k = grind (arith, and_parts, prefix-front kind bs rest)

length-front : (kind : ℕ → Bool) (text front rest : List ℕ) → Run kind text front rest → length (run kind text) ≡ length front
length-front kind text front rest r = run-length kind text ∙ ap (prefix_len kind) r.spelled ∙ prefix-front kind front rest r.all r.ends

-- no other bytes are
pub run-only : (kind : ℕ → Bool) (text front rest : List ℕ) → Run kind text front rest → run kind text ≡ front
run-only kind text front rest r = grind (arith, run-length, length-front, take_at)

pub past-only : (kind : ℕ → Bool) (text front rest : List ℕ) → Run kind text front rest → past kind text ≡ rest
past-only kind text front rest r = grind (arith, length-front, drop_at)
