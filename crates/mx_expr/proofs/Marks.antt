-- Where a bound is passed, reading stops.
use Rattle.std.proofs.Common.{◌≡◌, ℕ, ◌+◌, ◌-◌, ◌*◌, ◌^◌, ◌<◌, ◌≤◌, List, [], ◌∷◌, ◌++◌, length, Bool, true, false, cond, Some, None, Ok, Err, refl, sym, ap, ◌∙◌, arith, append_assoc, subst, ⊎_elim, inl, inr, ◌==◌, ◌&&◌, nat_le, fold, ◌⊎◌, rules}
use Rattle.mx_expr.proofs.Words.{list_all, and_parts, le-leb, cases_lt, nat_tests, ExprFault, Syntax, TooWide, TooDeep, EmptyString, Tree, number, is_digit, is_hexadecimal, digit_value, Waiting, Mode, operand, digit, decimal, hash, hexadecimal, slash, string, State, with_strong, step, steps, within, start, digits_value, Constant, Operands, Spells, Before, Begins, FaultAt, no_front, no_list, common_steps}
use Rattle.mx_expr.specs.Spelling.Constant.{decimal as decimal_digits, hexadecimal as hexadecimal_digits}
use Rattle.mx_expr.specs.Spelling.FaultAt.{too_wide as wide_there, too_deep as deep_there, empty_string as empty_there}
use Rattle.mx_expr.proofs.Moves.{st, move, moves, moves-on, moves-one, ends}
use Rattle.mx_expr.proofs.Forward.{Headed, constant-ended, constant-headed, slash-move}
use Rattle.mx_expr.proofs.Fields.{Wants, wants-moves, Stood, before-stood, operands-read}
use Rattle.mx_expr.proofs.Fields.Wants.{at_operand, at_slash}
use Rattle.mx_expr.proofs.Holds.{value-of-digit}
use Rattle.mx_expr.proofs.Steps.{same-state}
use Rattle.mx_expr.proofs.Stops.{steps-on, steps-first, steps-refused, steps-moves, front-read, wide-decimal, wide-hexadecimal}

-- one list is a front of the other
pub record Split (a x b y : List ℕ) : Type 0 where
  pub between : List ℕ
  pub longer : b ≡ a ++ between
  pub rest : x ≡ between ++ y

pub split : (a x b y : List ℕ) → a ++ x ≡ b ++ y → length a ≤ length b → Split a x b y
split [] x b y e h = record { between = b; longer = refl; rest = e }
split (c ∷ a) x [] y e h = absurd (omega arith)
split (c ∷ a) x (g ∷ b) y e h = search (rules, split a x b y (cc) (omega arith))

-- a byte where a primary is wanted
step-wants : {s : State} {k : List Waiting} {d : ℕ} {es : List Tree} → Wants s k d es → (b : ℕ) → (b == 40) ≡ false → (b == 47) ≡ false → step s b ≡ move (st operand k d es) b
step-wants (at_operand k d es) b h i = rw h refl
step-wants (at_slash l k d es) b h i = ap (λ c. within (cond (c && nat_le 255 d) (Some TooDeep) None) (move (st (slash l) k d es) b)) h ∙ slash-move l k d es b i

pub digit-small : (b : ℕ) → is_digit b ≡ true → digit_value b < 10
digit-small b h = let e : digit_value b ≡ b - 48 = rw h refl in let few : b - 48 < 10 = grind (arith, nat_tests) in omega (arith, e, few)

hexadecimal-small : (b : ℕ) → is_hexadecimal b ≡ true → b < 103
hexadecimal-small b h = grind (arith, nat_tests)

value-small : (b : ℕ) → digit_value b ≤ b
value-small b = grind (arith, nat_tests)

pub wide-stops : {s : State} {k : List Waiting} {d : ℕ} {es : List Tree} → Wants s k d es → (text rest : List ℕ) (n : ℕ) → Constant text n → 2 ^ 64 ≤ n → steps s (text ++ rest) ≡ Err TooWide
wide-stops w text rest n (decimal_digits (b ∷ []) some all) h = let small : digit_value b < 10 = digit-small b (and_parts _ _ all).0 in absurd (omega (arith, h, small))
wide-stops {s = s} {k = k} {d = d} {es = es} w text rest n (decimal_digits (b ∷ c ∷ bs) some all) h =
    let one : is_digit b ≡ true = (and_parts _ _ all).0 in
    let later : list_all is_digit (c ∷ bs) ≡ true = (and_parts (is_digit b) (list_all is_digit (c ∷ bs)) all).1 in
    let two : is_digit c ≡ true = (and_parts (is_digit c) (list_all is_digit bs) later).0 in
    let others : ((b == 40) ≡ false) × ((b == 47) ≡ false) = (grind (arith, nat_tests), grind (arith, nat_tests)) in
    let first : step s b ≡ Ok (st (digit (b - 48)) k d es) = step-wants w b others.0 others.1 ∙ rw one refl in
    let e : b - 48 ≡ 0 * 10 + digit_value b = omega (arith, value-of-digit b one) in
    let second : step (st (digit (b - 48)) k d es) c ≡ Ok (st (decimal ((b - 48) * 10 + digit_value c)) k d es) = rw two refl in
    let small : digit_value b < 10 = digit-small b one in
    let small2 : digit_value c < 10 = digit-small c two in
    let h2 : 2 ^ 64 ≤ fold (λ v x. v * 10 + digit_value x) ((b - 48) * 10 + digit_value c) bs = subst (λ v. 2 ^ 64 ≤ fold (λ v x. v * 10 + digit_value x) (v * 10 + digit_value c) bs) (sym e) h in
    let third : steps (st (decimal ((b - 48) * 10 + digit_value c)) k d es) (bs ++ rest) ≡ Err TooWide = wide-decimal ((b - 48) * 10 + digit_value c) bs rest k d es (and_parts _ _ later).1 (omega (arith, e, small, small2)) h2 in
    steps-first _ _ b (c ∷ (bs ++ rest)) first ∙ steps-first _ _ c (bs ++ rest) second ∙ third
wide-stops {s = s} {k = k} {d = d} {es = es} w text rest n (hexadecimal_digits (b ∷ bs) some all) h =
    let one : is_hexadecimal b ≡ true = (and_parts _ _ all).0 in
    let first : step s 35 ≡ Ok (st hash k d es) = step-wants w 35 refl refl in
    let second : step (st hash k d es) b ≡ Ok (st (hexadecimal (digit_value b)) k d es) = rw one refl in
    let e : digit_value b ≡ 0 * 16 + digit_value b = omega arith in
    let h2 : 2 ^ 64 ≤ fold (λ v x. v * 16 + digit_value x) (digit_value b) bs = subst (λ v. 2 ^ 64 ≤ fold (λ v x. v * 16 + digit_value x) v bs) (sym e) h in
    steps-first _ _ 35 (b ∷ (bs ++ rest)) first ∙ steps-first _ _ b (bs ++ rest) second
    ∙ wide-hexadecimal (digit_value b) bs rest k d es (and_parts _ _ all).1 (omega (arith, value-small b, hexadecimal-small b one)) h2
wide-stops w text rest n _ h = absurd (omega arith)

deep-stops : {s : State} {k : List Waiting} {d : ℕ} {es : List Tree} → Wants s k d es → (rest : List ℕ) → 255 ≤ d → steps s (40 ∷ rest) ≡ Err TooDeep
deep-stops (at_operand k d es) rest h = let t : nat_le 255 d ≡ true = le-leb 255 d h in steps-refused _ TooDeep 40 rest (rw t refl)
deep-stops (at_slash l k d es) rest h = let t : nat_le 255 d ≡ true = le-leb 255 d h in steps-refused _ TooDeep 40 rest (rw t refl)

empty-stops : (es : List Tree) (rest : List ℕ) → steps (st operand [] 0 es) (34 ∷ 34 ∷ rest) ≡ Err EmptyString
empty-stops es rest = steps-first _ (st (string true) [] 0 es) 34 (34 ∷ rest) refl ∙ steps-refused _ EmptyString 34 rest refl

-- what is wanted after a front of a constant is no primary
wants-ends : {s : State} {k : List Waiting} {d : ℕ} {es : List Tree} → Wants s k d es → ends s.mode s.waiting ≡ None
wants-ends h = grind arith

abbrev is_hash : Mode → Bool
is_hash hash = true
is_hash m = false

wants-hash : {s : State} {k : List Waiting} {d : ℕ} {es : List Tree} → Wants s k d es → is_hash s.mode ≡ false
wants-hash h = grind arith

all-front : (kind : ℕ → Bool) (a b : List ℕ) → list_all kind (a ++ b) ≡ true → list_all kind a ≡ true
all-front kind [] b h = refl
all-front kind (x ∷ xs) b h = grind (arith, common_steps, nat_tests)

number-front : (text front rest : List ℕ) (n : ℕ) → Constant text n → text ≡ front ++ rest → 0 < length front → ((m : ℕ) × Constant front m) ⊎ (front ≡ 35 ∷ [])
number-front text front rest n (decimal_digits digits some all) e h = inl (_, decimal_digits front h (all-front is_digit front rest (subst (λ t. list_all is_digit t ≡ true) e all)))
number-front text [] rest n (hexadecimal_digits digits some all) e h = absurd (omega arith)
number-front text (c ∷ []) rest n (hexadecimal_digits digits some all) e h = let same : c ≡ 35 = cc in inr (ap (λ t. t ∷ []) same)
number-front text (c ∷ x ∷ xs) rest n (hexadecimal_digits digits some all) e h =
    let same : 35 ≡ c = cc in
    let tail : digits ≡ (x ∷ xs) ++ rest = cc in
    inl (_, subst (λ t. Constant (t ∷ x ∷ xs) (digits_value 16 (x ∷ xs))) same (hexadecimal_digits (x ∷ xs) (omega arith) (all-front is_hexadecimal (x ∷ xs) rest (subst (λ t. list_all is_hexadecimal t ≡ true) tail all))))

no-primary : {s t : State} {k j : List Waiting} {d g : ℕ} {es fs : List Tree} → Wants s k d es → Wants t j g fs → (text front rest : List ℕ) (n : ℕ) → Constant text n → text ≡ front ++ rest → 0 < length front → moves s front ≡ Ok t → ⊥
no-primary {s = s} {t = t} {k = k} {d = d} {es = es} w v text front rest n c e h r = ⊎_elim counted marked_so (number-front text front rest n c e h)
  where
    counted : (m : ℕ) × Constant front m → ⊥
    counted (m, q) =
        let o = constant-ended front m k d es q in
        let same : t ≡ st o.mode o.rest d es = same-state t (st o.mode o.rest d es) (moves s front) r (wants-moves w front (constant-headed front m q) ∙ o.read) in
        let some : ends t.mode t.waiting ≡ Some (with_strong k (number m)) = ap (λ x. ends x.mode x.waiting) same ∙ o.ending in
        let none = wants-ends v in
        absurd (cc)

    marked_so : front ≡ 35 ∷ [] → ⊥
    marked_so q =
        let headed : Headed (35 ∷ []) = record { b = 35; bs = []; spelled = refl; other = refl } in
        let same : t ≡ st hash k d es = same-state t (st hash k d es) (moves s front) r (ap (moves s) q ∙ wants-moves w (35 ∷ []) headed ∙ moves-one _ 35) in
        let some : is_hash t.mode ≡ true = ap (λ x. is_hash x.mode) same in
        let none = wants-hash v in
        absurd (cc)

-- what a bound that is passed says of reading
pub record Marked (field : List ℕ) (other : ExprFault) (there : ℕ) : Type 0 where
  pub front : List ℕ
  pub tail : List ℕ
  pub spelled : field ≡ front ++ tail
  pub place : there ≡ length front
  pub bound : other ≡ Syntax → ⊥
  pub stops : (s : State) → steps start front ≡ Ok s → steps start field ≡ Err other
  pub inner : (z y : List ℕ) (t : State) → tail ≡ z ++ y → 0 < length z → steps start (front ++ z) ≡ Ok t →
      ((other ≡ EmptyString) × (length z ≤ 1)) ⊎ ((other ≡ TooWide) × ((v x : List ℕ) → z ≡ v ++ x → 0 < length v → (d : ℕ) → Before d (front ++ v) → ⊥))

wanted-at : {front : List ℕ} {d : ℕ} → (q : Stood d front) → (s : State) → steps start front ≡ Ok s → Wants s q.k d q.es
wanted-at {front = front} {d = d} q s e = subst (λ x. Wants x q.k d q.es) (same-state q.state s (moves start front) q.read (steps-moves start s front e)) q.wants

marked-wide : (front text rest : List ℕ) (d n : ℕ) → Before d front → Constant text n → 2 ^ 64 ≤ n → Marked (front ++ (text ++ rest)) TooWide (length front)
marked-wide front text rest d n b c h =
    let q = before-stood b in
    record {
      front = front;
      tail = text ++ rest;
      spelled = refl;
      place = refl;
      bound = λ e. absurd (cc);
      stops = λ s e. steps-on start s front (text ++ rest) e ∙ wide-stops (wanted-at q s e) text rest n c h;
      inner = λ z y t e some r. inr (refl, λ v x i more g k. inside q z y t e r v x i more g k);
    }
  where
    shorter : (q : Stood d front) (z y : List ℕ) (t : State) → text ++ rest ≡ z ++ y → steps start (front ++ z) ≡ Ok t → length text ≤ length z → ⊥
    shorter q z y t e r l =
        let o = front-read start t front z r in
        let w = split text rest z y e l in
        let stop : steps o.state z ≡ Err TooWide = ap (steps o.state) w.longer ∙ wide-stops (wanted-at q o.state o.read) text w.between n c h in
        let go = o.later in
        absurd (cc)

    within-text : (q : Stood d front) (z y : List ℕ) (t : State) → text ++ rest ≡ z ++ y → steps start (front ++ z) ≡ Ok t → (u : List ℕ) × (text ≡ z ++ u)
    within-text q z y t e r =
        ⊎_elim
        (λ l. let w = split z y text rest (sym e) (omega (arith, l)) in (w.between, w.longer))
        (λ l. absurd (shorter q z y t e r l))
        (cases_lt (length z) (length text))

    inside : (q : Stood d front) (z y : List ℕ) (t : State) → text ++ rest ≡ z ++ y → steps start (front ++ z) ≡ Ok t → (v x : List ℕ) → z ≡ v ++ x → 0 < length v → (g : ℕ) → Before g (front ++ v) → ⊥
    inside q z y t e r v x i more g k =
        let u = within-text q z y t e r in
        let j = before-stood k in
        let whole : text ≡ v ++ (x ++ u.0) = u.1 ∙ ap (λ a. a ++ u.0) i ∙ append_assoc v x u.0 in
        no-primary q.wants j.wants text v (x ++ u.0) n c whole more (sym (moves-on start q.state front v q.read) ∙ j.read)

marked-deep : (front rest : List ℕ) (d : ℕ) → Before d front → 255 ≤ d → Marked (front ++ 40 ∷ rest) TooDeep (length front)
marked-deep front rest d b h =
    let q = before-stood b in
    record {
      front = front;
      tail = 40 ∷ rest;
      spelled = refl;
      place = refl;
      bound = λ e. absurd (cc);
      stops = λ s e. steps-on start s front (40 ∷ rest) e ∙ deep-stops (wanted-at q s e) rest h;
      inner = λ z y t e some r. absurd (never q z y t e some r);
    }
  where
    never : (q : Stood d front) (z y : List ℕ) (t : State) → 40 ∷ rest ≡ z ++ y → 0 < length z → steps start (front ++ z) ≡ Ok t → ⊥
    never q [] y t e some r = absurd (omega arith)
    never q (c ∷ z) y t e some r =
        let o = front-read start t front (c ∷ z) r in
        let byte : c ≡ 40 = cc in
        let stop : steps o.state (c ∷ z) ≡ Err TooDeep = ap (λ x. steps o.state (x ∷ z)) byte ∙ deep-stops (wanted-at q o.state o.read) z h in
        let go = o.later in
        absurd (cc)

marked-empty : (front rest : List ℕ) (es : List Tree) → Operands front es → Marked (front ++ 34 ∷ 34 ∷ rest) EmptyString (length front)
marked-empty front rest es h =
    record {
      front = front;
      tail = 34 ∷ 34 ∷ rest;
      spelled = refl;
      place = refl;
      bound = λ e. absurd (cc);
      stops = λ s e. steps-on start s front (34 ∷ 34 ∷ rest) e ∙ ap (λ x. steps x (34 ∷ 34 ∷ rest)) (same-state s (st operand [] 0 es) (moves start front) (steps-moves start s front e) (operands-read h)) ∙ empty-stops es rest;
      inner = λ z y t e some r. inl (refl, one z y t e r);
    }
  where
    one : (z y : List ℕ) (t : State) → 34 ∷ 34 ∷ rest ≡ z ++ y → steps start (front ++ z) ≡ Ok t → length z ≤ 1
    one [] y t e r = omega arith
    one (a ∷ []) y t e r = omega arith
    one (a ∷ b ∷ z) y t e r =
        let o = front-read start t front (a ∷ b ∷ z) r in
        let first : a ≡ 34 = cc in
        let second : b ≡ 34 = cc in
        let same : o.state ≡ st operand [] 0 es = same-state o.state (st operand [] 0 es) (moves start front) (steps-moves start o.state front o.read) (operands-read h) in
        let stop : steps o.state (a ∷ b ∷ z) ≡ Err EmptyString = ap (λ x. steps o.state (x ∷ b ∷ z)) first ∙ ap (λ x. steps o.state (34 ∷ x ∷ z)) second ∙ ap (λ x. steps x (34 ∷ 34 ∷ z)) same ∙ empty-stops es z in
        let go = o.later in
        absurd (cc)

-- the three kinds of faults
pub data Seen (field : List ℕ) (other : ExprFault) (there : ℕ) : Type 0 where
  front_seen : (front rest : List ℕ) (b : ℕ) → field ≡ front ++ b ∷ rest → (Begins (front ++ b ∷ []) → ⊥) → there ≡ length front → Seen field other there
  list_seen : ((list : List Tree) → Spells field list → ⊥) → there ≡ length field → Seen field other there
  mark_seen : Marked field other there → Seen field other there

pub seen : {field : List ℕ} {other : ExprFault} {there : ℕ} → FaultAt field other there → Seen field other there
seen (no_front front rest b h) = front_seen front rest b refl h refl
seen (no_list field h) = list_seen h refl
seen (wide_there front text rest d n b c h) = mark_seen (marked-wide front text rest d n b c h)
seen (deep_there front rest d b h) = mark_seen (marked-deep front rest d b h)
seen (empty_there front rest es h) = mark_seen (marked-empty front rest es h)
