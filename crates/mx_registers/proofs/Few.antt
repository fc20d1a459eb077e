-- A few items that are copied at once, of which not all are wanted.
use Rattle.std.proofs.Common.{◌≡◌, ℕ, ◌+◌, ◌-◌, ◌≤◌, ◌<◌, List, [], ◌∷◌, ◌++◌, length, take, drop, set, replicate, max, suc, arith, refl, sym, ◌∙◌, ap, ⊎_elim}
use Rattle.std.proofs.lemmas.Bool.{cases_lt}
use Rattle.std.proofs.lemmas.List.{append-nil, append_assoc, take-append-drop, length-append, length-replicate, length-drop, length-take, length-take-le, take_at, take_all, take-take, take-append-le, take-replicate, drop_at, drop_all, drop-append-le, drop-drop, drop-replicate, replicate-append-replicate, set-append_right, set_split}
use Rattle.std.proofs.Math.Seq.{take-append-add, drop-append-add}
use Rattle.mx_word.specs.Lists.{with_part}
use Rattle.mx_registers.proofs.Values.{HasRegisters, registers-has, from-bounds}
use Rattle.mx_registers.specs.Bounds.{AreInBounds}
use Rattle.mx_registers.specs.Parts.{all_values, registers_in, HoldsRegisters, with_zeros_at}
use Rattle.mx_registers.specs.Registers.{Registers, registers_below, registers_from}
use Rattle.mx_registers.specs.declared.visible.Visible.TheInside.{Inside}

-- HIDDEN AT ONCE

-- the first n of some items and a number, after others
pub counted : (xs os : List ℕ) (n y : ℕ) → n < length os → set (take (length xs + n + 1) (xs ++ os)) (length xs + n) y ≡ xs ++ (take n os ++ y ∷ [])
counted xs os n y f =
    let sum : length xs + n + 1 ≡ length xs + (n + 1) = omega arith in
    let whole : take (length xs + n + 1) (xs ++ os) ≡ xs ++ take (n + 1) os = ap (λ m. take m (xs ++ os)) sum ∙ take-append-add xs os (n + 1) in
    let place : length xs + n - length xs ≡ n = omega arith in
    let size : length (take (n + 1) os) ≡ n + 1 = length-take-le (n + 1) os (omega arith) in
    let low : take n (take (n + 1) os) ≡ take n os = take-take n (n + 1) os (omega arith) in
    let none : drop (suc n) (take (n + 1) os) ≡ [] = drop_all (suc n) (take (n + 1) os) (omega arith) in
    let written : set (take (n + 1) os) n y ≡ take n os ++ y ∷ [] =
    set_split (take (n + 1) os) n y (omega arith) ∙ ap (λ zs. zs ++ y ∷ drop (suc n) (take (n + 1) os)) low ∙ ap (λ zs. take n os ++ y ∷ zs) none in
    rw whole (set-append_right xs (take (n + 1) os) (length xs) (length xs + n) y refl (omega arith) ∙ ap (λ m. xs ++ set (take (n + 1) os) m y) place ∙ ap (λ zs. xs ++ zs) written)

-- the first of the first few registers
pub first_below : (v : Registers) (n few : ℕ) → n ≤ few → take n (registers_below v few) ≡ registers_below v n
first_below v n few f = ⊎_elim (λ e. longer e) (λ e. shorter e) (cases_lt (length v.locals) n)
  where
    longer : length v.locals < n → take n (registers_below v few) ≡ registers_below v n
    longer e =
        let l : ℕ = length v.locals in
        let zs : List ℕ = replicate (few - l) 0 in
        let all : take few v.locals ≡ v.locals = take_all few v.locals (omega arith) in
        let same : take n v.locals ≡ v.locals = take_all n v.locals (omega arith) in
        let sum : l + (n - l) ≡ n = omega arith in
        let zeros : take (n - l) zs ≡ replicate (n - l) 0 = take-replicate (n - l) (few - l) 0 (omega arith) in
        rw (all, same) (ap (λ m. take m (v.locals ++ zs)) (sym sum) ∙ take-append-add v.locals zs (n - l) ∙ ap (λ (ws : List ℕ). v.locals ++ ws) zeros)

    shorter : n ≤ length v.locals → take n (registers_below v few) ≡ registers_below v n
    shorter e =
        let size : n ≤ length (take few v.locals) = omega (arith, length-take few v.locals) in
        let none : n - length v.locals ≡ 0 = omega arith in
        rw none (take-append-le n (take few v.locals) (replicate (few - length v.locals) 0) size ∙ take-take n few v.locals f ∙ sym (append-nil (take n v.locals)))

-- MOVED AT ONCE

-- what is above the locals
pub following : (v : Registers) (m : ℕ) → length v.locals ≤ m → m ≤ v.first_global → drop m (all_values v) ≡ replicate (v.first_global - m) 0 ++ v.globals
following v m f g =
    let l : ℕ = length v.locals in
    let zs : List ℕ = replicate (v.first_global - l) 0 in
    let split : l + (m - l) ≡ m = omega arith in
    let size : length zs ≡ v.first_global - l = length-replicate (v.first_global - l) 0 in
    let fewer : (v.first_global - l) - (m - l) ≡ v.first_global - m = omega arith in
    ap (drop m) (append_assoc v.locals zs v.globals) ∙ ap (λ k. drop k (v.locals ++ (zs ++ v.globals))) (sym split) ∙ drop-append-add v.locals (zs ++ v.globals) (m - l) ∙ drop-append-le (m - l) zs v.globals (omega arith) ∙ ap (λ (ws : List ℕ). ws ++ v.globals) (drop-replicate (m - l) (v.first_global - l) 0) ∙ ap (λ k. replicate {A = ℕ} k 0 ++ v.globals) fewer

-- the first of some zeros
zeros-first : (few n : ℕ) (rest : List ℕ) → few ≤ n → take few (replicate n 0 ++ rest) ≡ replicate few 0
zeros-first few n rest f =
    let size : length (replicate {A = ℕ} n 0) ≡ n = length-replicate n 0 in
    take-append-le few (replicate n 0) rest (omega arith) ∙ take-replicate few n 0 f

-- a few registers from a place on: the locals that stay, and zeros
moved : (v : Registers) (n c few : ℕ) → AreInBounds v → c ≡ length v.locals - n → c ≤ few → n + few ≤ v.first_global → take few (drop n (all_values v)) ≡ drop n v.locals ++ replicate (few - c) 0
moved v n c few b ec fc fn = ⊎_elim (λ e. all e) (λ e. some e) (cases_lt (length v.locals) n)
  where
    all : length v.locals < n → take few (drop n (all_values v)) ≡ drop n v.locals ++ replicate (few - c) 0
    all e =
        let none : drop n v.locals ≡ [] = drop_all n v.locals (omega arith) in
        let count : few - c ≡ few = omega arith in
        rw (none, count) (ap (take few) (following v n (omega arith) (omega arith)) ∙ zeros-first few (v.first_global - n) v.globals (omega arith))

    some : n ≤ length v.locals → take few (drop n (all_values v)) ≡ drop n v.locals ++ replicate (few - c) 0
    some e =
        let l : ℕ = length v.locals in
        let rest : List ℕ = replicate (v.first_global - l) 0 ++ v.globals in
        let size : length (drop n v.locals) ≡ c = omega (arith, length-drop n v.locals) in
        let sum : length (drop n v.locals) + (few - c) ≡ few = omega arith in
        let parted : drop n (all_values v) ≡ drop n v.locals ++ rest = ap (drop n) (append_assoc v.locals (replicate (v.first_global - l) 0) v.globals) ∙ drop-append-le n v.locals rest e in
        ap (take few) parted ∙ ap (λ k. take k (drop n v.locals ++ rest)) (sym sum) ∙ take-append-add (drop n v.locals) rest (few - c) ∙ ap (λ (ws : List ℕ). drop n v.locals ++ ws) (zeros-first (few - c) (v.first_global - l) v.globals (omega (arith, b.locals_below_globals)))

few-values : (v : Registers) (n c few : ℕ) (zs : List ℕ) → AreInBounds v → c ≡ length v.locals - n → c ≤ few → n + few ≤ v.first_global → zs ≡ with_zeros_at (with_part (all_values v) 0 (take few (drop n (all_values v)))) few (max (length v.locals) few) → zs ≡ all_values (registers_from v n)
few-values v n c few zs b ec fc fn ez =
    let xs : List ℕ = all_values v in
    let m : ℕ = max (length v.locals) few in
    let ps : List ℕ = drop n v.locals ++ replicate (few - c) 0 in
    let count : length (drop n v.locals) ≡ c = omega (arith, length-drop n v.locals) in
    let size : length ps ≡ few = length-append (drop n v.locals) (replicate (few - c) 0) ∙ ap (λ k. length (drop n v.locals) + k) (length-replicate (few - c) 0) ∙ omega arith in
    let whole : with_part xs 0 (take few (drop n xs)) ≡ ps ++ drop few xs = ap (with_part xs 0) (moved v n c few b ec fc fn) ∙ ap (λ k. ps ++ drop k xs) (omega arith) in
    let low : take few (ps ++ drop few xs) ≡ ps = take_at ps (drop few xs) few size in
    let split : few + (m - few) ≡ m = omega arith in
    let high : drop m (ps ++ drop few xs) ≡ replicate (v.first_global - m) 0 ++ v.globals =
    ap (λ k. drop k (ps ++ drop few xs)) (sym split) ∙ sym (drop-drop (m - few) few (ps ++ drop few xs)) ∙ ap (drop (m - few)) (drop_at ps (drop few xs) few size) ∙ drop-drop (m - few) few xs ∙ ap (λ k. drop k xs) split ∙ following v m (omega arith) (omega (arith, b.locals_below_globals)) in
    let two : replicate {A = ℕ} (m - few) 0 ++ replicate (v.first_global - m) 0 ≡ replicate (v.first_global - few) 0 = replicate-append-replicate (m - few) (v.first_global - m) 0 ∙ ap (λ k. replicate {A = ℕ} k 0) (omega (arith, b.locals_below_globals)) in
    let joined : replicate {A = ℕ} (few - c) 0 ++ (replicate (m - few) 0 ++ replicate (v.first_global - m) 0) ≡ replicate (v.first_global - c) 0 = ap (λ (ws : List ℕ). replicate (few - c) 0 ++ ws) two ∙ replicate-append-replicate (few - c) (v.first_global - few) 0 ∙ ap (λ k. replicate {A = ℕ} k 0) (omega arith) in
    rw (ez, whole, low, high, count, ← joined) (simp append_assoc)

pub few-has : (i : Inside) (n c few : ℕ) (zs : List ℕ) → HoldsRegisters i → c ≡ i.local_count - n → c ≤ few → n + few ≤ i.first_global → zs ≡ with_zeros_at (with_part i.values 0 (take few (drop n i.values))) few (max i.local_count few) → HasRegisters (record i { values = zs; local_count = c }) (registers_from (registers_in i) n)
few-has i n c few zs h ec fc fn ez =
    let v : Registers = registers_in i in
    let e : i.local_count ≡ length v.locals = sym h.all_locals in
    let size : c ≡ length (drop n v.locals) = omega (arith, length-drop n v.locals, h.all_locals) in
    let es : zs ≡ with_zeros_at (with_part (all_values v) 0 (take few (drop n (all_values v)))) few (max (length v.locals) few) =
    ez ∙ ap (λ (xs : List ℕ). with_zeros_at (with_part xs 0 (take few (drop n xs))) few (max i.local_count few)) h.all_shown ∙ ap (λ l. with_zeros_at (with_part (all_values v) 0 (take few (drop n (all_values v)))) few (max l few)) e in
    registers-has (registers_from v n) _ _ _ (from-bounds v n h.in_bounds) (few-values v n c few zs h.in_bounds (omega arith) fc fn es) size refl

-- nothing is cleared where few were local
pub zeros-none : (xs : List ℕ) (l few : ℕ) → l ≤ few → with_zeros_at xs few (max l few) ≡ xs
zeros-none xs l few f =
    let m : max l few ≡ few = omega arith in
    let none : few - few ≡ 0 = omega arith in
    rw (m, none) (ap (λ (ws : List ℕ). ws ++ drop few xs) (append-nil (take few xs)) ∙ take-append-drop few xs)
