-- The lines of a dump, in turn.
use Rattle.std.proofs.Common.{◌≡◌, ◌≤◌, ℕ, zero, suc, ◌+◌, ◌-◌, ◌*◌, ◌/◌, ◌%◌, ◌^◌, List, [], ◌∷◌, ◌++◌, Option, Some, Ok, Err, arith, refl, sym, ◌∙◌, ap, subst, append-nil, append_assoc, add-zero}
use Rattle.std.specs.List.{flat_map, range_with_len}
use Rattle.std.specs.Prelude.{Result}
use Rattle.mx_host.specs.HostModel.{HostModel}
use Rattle.mx_core.specs.State.{State}
use Rattle.mx_dump.specs.Dump.{Line, special_line, special_lines, register_line, register_lines, octa_line, octa_lines, dump_lines, octa_count}
use Rattle.mx_outcome.specs.declared.outcome.Outcome.{Outcome}
use Rattle.mx_dump.specs.Shown.{AreHidden, IsNextShown, shown_octa}
use Rattle.mx_files.proofs.WrittenLines.{Writes, writes-none, writes-then, writes-ended}

pub special-lines : (s : State) → special_lines s ≡ flat_map (special_line s) (range_with_len 0 32)
unfolding special_lines
special-lines s = refl

pub register-lines : (s : State) → register_lines s ≡ flat_map (register_line s) (range_with_len 0 256)
unfolding register_lines
register-lines s = refl

-- ---- octas

-- where no octa is shown
pub lines-skipped : (s : State) (n k : ℕ) → AreHidden s (8 * n) (8 * (n + k)) → octa_lines s (n + k) ≡ octa_lines s n
unfolding octa_lines
lines-skipped s n zero h = ap (octa_lines s) (add-zero n)
lines-skipped s n (suc k) h =
    let next : n + suc k ≡ suc (n + k) = omega arith in
    ap (octa_lines s) next ∙ ap (λ l. octa_lines s (n + k) ++ l) (h (8 * (n + k)) (omega arith) (omega arith) (omega arith)) ∙ append-nil (octa_lines s (n + k))
    ∙ lines-skipped s n k (λ q l e m. h q l e (omega (arith, m)))

octas-to : (s : State) (from a : ℕ) → from % 8 ≡ 0 → a % 8 ≡ 0 → from ≤ a → AreHidden s from a → octa_lines s (a / 8) ≡ octa_lines s (from / 8)
octas-to s from a e f l h =
    let sum : from / 8 + (a / 8 - from / 8) ≡ a / 8 = omega (arith, l) in
    ap (octa_lines s) (sym sum)
    ∙ lines-skipped s (from / 8) (a / 8 - from / 8) (λ q m g n. h q (omega (arith, e, m)) g (omega (arith, f, sum, n)))

octa-next : (s : State) (a : ℕ) → a % 8 ≡ 0 → octa_lines s ((a + 8) / 8) ≡ octa_lines s (a / 8) ++ octa_line s a
unfolding octa_lines
octa-next s a e =
    let next : (a + 8) / 8 ≡ suc (a / 8) = omega arith in
    let same : 8 * (a / 8) ≡ a = omega (arith, e) in
    ap (octa_lines s) next ∙ ap (λ q. octa_lines s (a / 8) ++ octa_line s q) same

octas-more : (s : State) (n k : ℕ) → (more : List Line) × (octa_lines s (n + k) ≡ octa_lines s n ++ more)
unfolding octa_lines
octas-more s n zero = ([], ap (octa_lines s) (add-zero n) ∙ sym (append-nil (octa_lines s n)))
octas-more s n (suc k) =
    let rest = octas-more s n k in
    let next : n + suc k ≡ suc (n + k) = omega arith in
    (rest.0 ++ octa_line s (8 * (n + k)), ap (octa_lines s) next ∙ ap (λ l. l ++ octa_line s (8 * (n + k))) rest.1 ∙ append_assoc (octa_lines s n) rest.0 (octa_line s (8 * (n + k))))

octas-front : (s : State) (n count : ℕ) → n ≤ count → (more : List Line) × (octa_lines s count ≡ octa_lines s n ++ more)
octas-front s n count l =
    let rest = octas-more s n (count - n) in
    let sum : n + (count - n) ≡ count = omega (arith, l) in
    (rest.0, ap (octa_lines s) (sym sum) ∙ rest.1)

-- ---- what was written of them

pub writes-no-octa : (s : State) (a : Option HostModel) (k : ℕ) → Writes a a k k (Ok tt) (octa_lines s 0)
unfolding octa_lines
writes-no-octa s a k = writes-none a k

shown-lines : (s : State) (from a x : ℕ) → from % 8 ≡ 0 → IsNextShown s from (Some (a, x)) → octa_lines s ((a + 8) / 8) ≡ octa_lines s (from / 8) ++ shown_octa a x ∷ []
shown-lines s from a x e h =
    octa-next s a h.2 ∙ ap (λ l. l ++ octa_line s a) (octas-to s from a e h.2 h.0 h.4) ∙ ap (λ l. octa_lines s (from / 8) ++ l) h.3

pub writes-octa : (s : State) (a b c : Option HostModel) (k m o from at x : ℕ) → from % 8 ≡ 0 → IsNextShown s from (Some (at, x)) →
    Writes a b k m (Ok tt) (octa_lines s (from / 8)) → Writes b c m o (Ok tt) (shown_octa at x ∷ []) → Writes a c k o (Ok tt) (octa_lines s ((at + 8) / 8))
writes-octa s a b c k m o from at x e h first second =
    subst (λ ys. Writes a c k o (Ok tt) ys) (sym (shown-lines s from at x e h)) (writes-then a b c k m o (Ok tt) (octa_lines s (from / 8)) (shown_octa at x ∷ []) first second)

ended-octas : (s : State) (a b c : Option HostModel) (k m o from at x count : ℕ) (outcome : Outcome) → from % 8 ≡ 0 → IsNextShown s from (Some (at, x)) → (at + 8) / 8 ≤ count →
    Writes a b k m (Ok tt) (octa_lines s (from / 8)) → Writes b c m o (Err outcome) (shown_octa at x ∷ []) → Writes a c k o (Err outcome) (octa_lines s count)
ended-octas s a b c k m o from at x count outcome e h l first second =
    let rest = octas-front s ((at + 8) / 8) count l in
    subst (λ ys. Writes a c k o (Err outcome) ys) (sym (rest.1 ∙ ap (λ ys. ys ++ rest.0) (shown-lines s from at x e h)))
    (writes-ended a c k o outcome (octa_lines s (from / 8) ++ shown_octa at x ∷ []) rest.0 (writes-then a b c k m o (Err outcome) (octa_lines s (from / 8)) (shown_octa at x ∷ []) first second))

pub writes-octas-ended : (s : State) (a b c : Option HostModel) (k m o from at x : ℕ) (outcome : Outcome) → from % 8 ≡ 0 → IsNextShown s from (Some (at, x)) →
    Writes a b k m (Ok tt) (octa_lines s (from / 8)) → Writes b c m o (Err outcome) (shown_octa at x ∷ []) → Writes a c k o (Err outcome) (octa_lines s octa_count)
writes-octas-ended s a b c k m o from at x outcome e h first second =
    ended-octas s a b c k m o from at x octa_count outcome e h (omega (arith, h.1, h.2)) first second

pub writes-octas : (s : State) (a b : Option HostModel) (k m from : ℕ) → from % 8 ≡ 0 → from ≤ 2 ^ 63 → AreHidden s from (2 ^ 63) → Writes a b k m (Ok tt) (octa_lines s (from / 8)) →
    Writes a b k m (Ok tt) (octa_lines s octa_count)
writes-octas s a b k m from e l h first = subst (λ ys. Writes a b k m (Ok tt) ys) (sym (octas-to s from (2 ^ 63) e refl l h)) first

-- ---- the whole dump

pub writes-specials : (s : State) (a b : Option HostModel) (k m : ℕ) (outcome : Outcome) → Writes a b k m (Err outcome) (special_lines s) → Writes a b k m (Err outcome) (dump_lines s)
unfolding dump_lines
writes-specials s a b k m outcome h =
    writes-ended a b k m outcome (special_lines s ++ register_lines s) (octa_lines s octa_count) (writes-ended a b k m outcome (special_lines s) (register_lines s) h)

pub writes-registers : (s : State) (a b c : Option HostModel) (k m o : ℕ) (outcome : Outcome) → Writes a b k m (Ok tt) (special_lines s) → Writes b c m o (Err outcome) (register_lines s) →
    Writes a c k o (Err outcome) (dump_lines s)
unfolding dump_lines
writes-registers s a b c k m o outcome first second =
    writes-ended a c k o outcome (special_lines s ++ register_lines s) (octa_lines s octa_count) (writes-then a b c k m o (Err outcome) (special_lines s) (register_lines s) first second)

pub writes-memory : (s : State) (a b c d : Option HostModel) (k m o p : ℕ) (r : Result (Unit {0}) Outcome) → Writes a b k m (Ok tt) (special_lines s) → Writes b c m o (Ok tt) (register_lines s) →
    Writes c d o p r (octa_lines s octa_count) → Writes a d k p r (dump_lines s)
unfolding dump_lines
writes-memory s a b c d k m o p r first second third =
    writes-then a c d k o p r (special_lines s ++ register_lines s) (octa_lines s octa_count) (writes-then a b c k m o (Ok tt) (special_lines s) (register_lines s) first second) third
