-- States that come back, and their lines.
use Rattle.std.proofs.Common.{◌≡◌, ◌≤◌, ◌<◌, ℕ, ◌+◌, false, List, [], ◌∷◌, ◌++◌, length, take, drop, get_or, min, zero, suc, Ok, Err, arith, codes, decimal, refl, sym, ◌∙◌, ap, subst}
use Rattle.std.specs.Prelude.{Option, Result}
use Rattle.std.proofs.lemmas.List.{drop_more, length-drop, map-append, take_min, take_more, take-append-drop}
use Rattle.std.proofs.lemmas.Grind.{common_steps}
use Rattle.mx_host.specs.HostModel.{HostModel}
use Rattle.mx_back.specs.History.{states_before}
use Rattle.mx_back.specs.KeptLists.{AreUntouched, as_lists}
use Rattle.mx_back.proofs.Histories.{length-states}
use Rattle.mx_show.specs.Texts.{state_text}
use Rattle.mx_core.specs.Bounds.{as_list_state}
use Rattle.mx_core.specs.State.{State}
use Rattle.mx_core.specs.Undoing.{StateWas}
use Rattle.mx_core.proofs.Same.Seen.{same-visible}
use Rattle.mx_registers.specs.Registers.{Registers}
use Rattle.mx_text.specs.Numbers.{hex_text}
use Rattle.mx_outcome.specs.declared.outcome.Outcome.{Outcome}
use Rattle.mx_files.proofs.WrittenLines.{Writes, writes-then, writes-ended}
use Rattle.mx_top.specs.Runs.{state_lines, reached}

-- ---- beside the list machine

text-listed : (s : State) → state_text (as_list_state s) ≡ state_text s
unfolding state_text
text-listed s =
    ap (λ (v : Registers). codes "steps " ++ decimal s.steps ++ codes " at " ++ hex_text s.pc ++ codes " L " ++ decimal (length v.locals) ++ codes " G " ++ decimal v.first_global) (same-visible s.stack)

pub lines-listed : (states : List State) → state_lines (as_lists states) ≡ state_lines states
unfolding state_lines
lines-listed [] = refl
lines-listed (s ∷ states) = ap (λ text. (text ++ 10 ∷ []) ∷ state_lines (as_lists states)) (text-listed s) ∙ ap (λ lines. (state_text s ++ 10 ∷ []) ∷ lines) (lines-listed states)

pub reached-listed : (s : State) (states : List State) → reached (as_list_state s) (as_lists states) ≡ as_list_state (reached s states)
unfolding reached
reached-listed s [] = refl
reached-listed s (t ∷ states) = reached-listed t states

pub reached-untouched : (s : State) (states : List State) → s.touched ≡ false → AreUntouched states → (reached s states).touched ≡ false
unfolding reached
reached-untouched s [] u h = u
reached-untouched s (t ∷ states) u h = reached-untouched t states h.0 h.1

pub take-untouched : (n : ℕ) (states : List State) → AreUntouched states → AreUntouched (take n states)
take-untouched zero states h = tt
take-untouched (suc n) [] h = tt
take-untouched (suc n) (s ∷ states) h = (h.0, take-untouched n states h.1)

-- ---- one after another

reached-last : (s t : State) (states : List State) → reached s (states ++ t ∷ []) ≡ t
unfolding reached
reached-last s t [] = refl
reached-last s t (u ∷ states) = reached-last u t states

-- the next of them
record IsNext (states : List State) (i : ℕ) (t : State) (rest : List State) : Type 0 where
  taken : take (i + 1) states ≡ take i states ++ t ∷ []
  left : rest ≡ drop (i + 1) states

next-of : (states : List State) (i : ℕ) (t : State) (rest : List State) → drop i states ≡ t ∷ rest → IsNext states i t rest
next-of states i t rest e =
    let inside : i < length states = omega (arith, length-drop i states, ap length e) in
    let both : t ∷ rest ≡ get_or states i t ∷ drop (i + 1) states = sym e ∙ drop_more states i t inside in
    let first : get_or states i t ≡ t = cc both in
    record {
      taken = take_more states i t inside ∙ ap (λ u. take i states ++ u ∷ []) first;
      left = cc both;
    }

pub states-next : (states before : List State) (i : ℕ) (t : State) (rest : List State) → before ≡ drop i states → before ≡ t ∷ rest → rest ≡ drop (i + 1) states
states-next states before i t rest is e = (next-of states i t rest (sym is ∙ e)).left

pub reached-next : (s : State) (states before : List State) (i : ℕ) (t : State) (rest : List State) → before ≡ drop i states → before ≡ t ∷ rest → t ≡ reached s (take (i + 1) states)
reached-next s states before i t rest is e = sym (ap (reached s) (next-of states i t rest (sym is ∙ e)).taken ∙ reached-last s t (take i states))

lines-append : (xs ys : List State) → state_lines (xs ++ ys) ≡ state_lines xs ++ state_lines ys
unfolding state_lines
lines-append xs ys = map-append _ xs ys

pub writes-next : (a b c : Option HostModel) (k m n : ℕ) (states before : List State) (i : ℕ) (t : State) (rest : List State) → before ≡ drop i states → before ≡ t ∷ rest →
    Writes a b k m (Ok tt) (state_lines (take i states)) → Writes b c m n (Ok tt) (state_lines (t ∷ [])) → Writes a c k n (Ok tt) (state_lines (take (i + 1) states))
writes-next a b c k m n states before i t rest is e first second =
    subst (λ lines. Writes a c k n (Ok tt) lines) (sym (ap state_lines (next-of states i t rest (sym is ∙ e)).taken ∙ lines-append (take i states) (t ∷ [])))
    (writes-then a b c k m n (Ok tt) (state_lines (take i states)) (state_lines (t ∷ [])) first second)

-- one is not written
pub writes-broken : (a b c : Option HostModel) (k m n : ℕ) (outcome : Outcome) (states before : List State) (i count : ℕ) (t : State) (rest : List State) → i < count → before ≡ drop i states → before ≡ t ∷ rest →
    Writes a b k m (Ok tt) (state_lines (take i states)) → Writes b c m n (Err outcome) (state_lines (t ∷ [])) → Writes a c k n (Err outcome) (state_lines (take count states))
writes-broken a b c k m n outcome states before i count t rest l is e first second =
    let next = next-of states i t rest (sym is ∙ e) in
    let front : take (i + 1) (take count states) ≡ take i states ++ t ∷ [] = take-front ∙ next.taken in
    subst (λ lines. Writes a c k n (Err outcome) lines)
    (sym (ap state_lines (sym (take-append-drop (i + 1) (take count states)) ∙ ap (λ ss. ss ++ drop (i + 1) (take count states)) front)
    ∙ lines-append (take i states ++ t ∷ []) (drop (i + 1) (take count states))
    ∙ ap (λ lines. lines ++ state_lines (drop (i + 1) (take count states))) (lines-append (take i states) (t ∷ []))))
    (writes-ended a c k n outcome (state_lines (take i states) ++ state_lines (t ∷ [])) (state_lines (drop (i + 1) (take count states)))
    (writes-then a b c k m n (Err outcome) (state_lines (take i states)) (state_lines (t ∷ [])) first second))
  where
    take-front : take (i + 1) (take count states) ≡ take (i + 1) states
    take-front = grind (arith, common_steps)

-- ---- how many

pub some-left : (notes now : List StateWas) (s t : State) (i count : ℕ) → count ≤ length notes → i < count → states_before now t ≡ drop i (states_before notes s) → 1 ≤ length now
some-left notes now s t i count few l e =
    omega (arith, few, l, length-states notes s, length-states now t, length-drop i (states_before notes s), ap length e)

pub count-taken : (last count kept : ℕ) (notes : List StateWas) (s : State) → count ≡ min last kept → kept ≡ length notes → take count (states_before notes s) ≡ take last (states_before notes s)
count-taken last count kept notes s is e =
    ap (λ n. take n (states_before notes s)) (is ∙ ap (min last) (e ∙ sym (length-states notes s))) ∙ take_min last (states_before notes s)

-- all are
pub all-taken : (a b : Option HostModel) (k m : ℕ) (states : List State) (i count : ℕ) → count ≤ i → i ≤ count → Writes a b k m (Ok tt) (state_lines (take i states)) → Writes a b k m (Ok tt) (state_lines (take count states))
all-taken a b k m states i count l h w = let same : i ≡ count = omega (arith, l, h) in subst (λ n. Writes a b k m (Ok tt) (state_lines (take n states))) same w

pub works-taken : (a b : Option HostModel) (k m : ℕ) (r : Result (Unit {0}) Outcome) (states others : List State) → states ≡ others → Writes a b k m r (state_lines states) → Writes a b k m r (state_lines others)
works-taken a b k m r states others e w = subst (λ ss. Writes a b k m r (state_lines ss)) e w

pub all-reached : {t : State} (s : State) (states : List State) (i count : ℕ) → count ≤ i → i ≤ count → t ≡ reached s (take i states) → t ≡ reached s (take count states)
all-reached {t} s states i count l h e = let same : i ≡ count = omega (arith, l, h) in subst (λ n. t ≡ reached s (take n states)) same e
