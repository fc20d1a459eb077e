-- Eight octas that come back at once, of which not all are wanted.
use Rattle.std.proofs.Common.{◌≡◌, ℕ, zero, suc, ◌+◌, ◌-◌, ◌≤◌, ◌<◌, ◌==◌, List, [], ◌∷◌, ◌++◌, length, take, drop, set, get_or, replicate, nat_lt, if◌then◌else◌, true, false, arith, refl, sym, ◌∙◌, ap}
use Rattle.std.proofs.lemmas.Bool.Decides.{nat_tests}
use Rattle.std.proofs.lemmas.List.{append_assoc, append-nil, length-append, length-replicate, length-take-le, take_all, drop_all, drop_more, replicate-append-replicate, set_at}
use Rattle.std.proofs.Math.ListN.{get_or-append}
use Rattle.mx_word.specs.Lists.{with_part}
use Rattle.mx_registers.proofs.Few.{following}
use Rattle.mx_registers.proofs.Values.{HasRegisters, registers-has, locals-bounds}
use Rattle.mx_registers.specs.Bounds.{AreInBounds}
use Rattle.mx_registers.specs.Parts.{all_values, registers_in, HoldsRegisters}
use Rattle.mx_registers.specs.Registers.{Registers, results, with_returned}
use Rattle.mx_registers.specs.declared.visible.Visible.TheInside.{Inside}

-- of items from a place on those below a number, and zeros for the others
abbrev picked : ℕ → ℕ → List ℕ → List ℕ
picked k n [] = []
picked k n (x ∷ xs) = (if nat_lt k n then x else 0) ∷ picked (suc k) n xs

picked-none : (k n : ℕ) (xs : List ℕ) → n ≤ k → picked k n xs ≡ replicate (length xs) 0
picked-none k n [] f = refl
picked-none k n (x ∷ xs) f =
    let no : nat_lt k n ≡ false = grind (arith, nat_tests) in
    rw no (ap (λ (zs : List ℕ). 0 ∷ zs) (picked-none (suc k) n xs (omega arith)))

picked-is : (k n m : ℕ) (xs : List ℕ) → n ≡ k + m → m ≤ length xs → picked k n xs ≡ take m xs ++ replicate (length xs - m) 0
picked-is k n zero xs e f =
    let all : length xs - 0 ≡ length xs = omega arith in
    rw all (picked-none k n xs (omega arith))
picked-is k n (suc m) [] e f = absurd (omega arith)
picked-is k n (suc m) (x ∷ xs) e f =
    let yes : nat_lt k n ≡ true = grind (arith, nat_tests) in
    let less : length (x ∷ xs) - suc m ≡ length xs - m = omega arith in
    rw (yes, less) (ap (λ (zs : List ℕ). x ∷ zs) (picked-is (suc k) n m xs (omega arith) (omega arith)))

-- eight items, one by one
all-eight : (xs : List ℕ) → length xs ≡ 8 → xs ≡ get_or xs 0 0 ∷ get_or xs 1 0 ∷ get_or xs 2 0 ∷ get_or xs 3 0 ∷ get_or xs 4 0 ∷ get_or xs 5 0 ∷ get_or xs 6 0 ∷ get_or xs 7 0 ∷ []
all-eight xs e =
    let at : (i : ℕ) → i < 8 → drop i xs ≡ get_or xs i 0 ∷ drop (i + 1) xs = λ i f. drop_more xs i 0 (omega arith) in
    let on : (i : ℕ) (zs : List ℕ) → i < 8 → drop (i + 1) xs ≡ zs → drop i xs ≡ get_or xs i 0 ∷ zs = λ i zs f d. at i f ∙ ap (λ (ws : List ℕ). get_or xs i 0 ∷ ws) d in
    on 0 _ (omega arith) (on 1 _ (omega arith) (on 2 _ (omega arith) (on 3 _ (omega arith) (on 4 _ (omega arith) (on 5 _ (omega arith) (on 6 _ (omega arith) (on 7 _ (omega arith) (drop_all 8 xs (omega arith)))))))))

pub eight : (xs : List ℕ) (n : ℕ) → length xs ≡ 8 → n ≤ 8 → (if nat_lt 0 n then get_or xs 0 0 else 0) ∷ (if nat_lt 1 n then get_or xs 1 0 else 0) ∷ (if nat_lt 2 n then get_or xs 2 0 else 0) ∷ (if nat_lt 3 n then get_or xs 3 0 else 0) ∷ (if nat_lt 4 n then get_or xs 4 0 else 0) ∷ (if nat_lt 5 n then get_or xs 5 0 else 0) ∷ (if nat_lt 6 n then get_or xs 6 0 else 0) ∷ (if nat_lt 7 n then get_or xs 7 0 else 0) ∷ [] ≡ take n xs ++ replicate (8 - n) 0
eight xs n e f = sym (ap (picked 0 n) (all-eight xs e)) ∙ picked-is 0 n n xs (omega arith) (omega arith) ∙ ap (λ m. take n xs ++ replicate (m - n) 0) e

-- eight registers are written, and then the one after those that came back
registers-written : (v : Registers) (os : List ℕ) (n y : ℕ) → AreInBounds v → length v.locals ≤ 8 → length os ≡ n → n < 8 → set (with_part (all_values v) 0 (os ++ replicate (8 - n) 0)) n y ≡ os ++ y ∷ (replicate (v.first_global - (n + 1)) 0 ++ v.globals)
registers-written v os n y b f size g =
    let xs : List ℕ = all_values v in
    let ps : List ℕ = os ++ replicate (8 - n) 0 in
    let many : length ps ≡ 8 = omega (arith, length-append os (replicate (8 - n) 0), length-replicate {A = ℕ} (8 - n) 0) in
    let to : 0 + length ps ≡ 8 = omega (arith, many) in
    let whole : with_part xs 0 ps ≡ ps ++ drop 8 xs = ap (λ (k : ℕ). ps ++ drop k xs) to in
    let back : drop 8 xs ≡ replicate (v.first_global - 8) 0 ++ v.globals = following v 8 f (omega (arith, b.least_global)) in
    let sum : (8 - n) + (v.first_global - 8) ≡ suc (v.first_global - (n + 1)) = omega (arith, b.least_global) in
    let joined : replicate {A = ℕ} (8 - n) 0 ++ replicate (v.first_global - 8) 0 ≡ 0 ∷ replicate (v.first_global - (n + 1)) 0 =
    replicate-append-replicate (8 - n) (v.first_global - 8) 0 ∙ ap (λ k. replicate {A = ℕ} k 0) sum in
    let parted : ps ++ (replicate (v.first_global - 8) 0 ++ v.globals) ≡ os ++ ((replicate (8 - n) 0 ++ replicate (v.first_global - 8) 0) ++ v.globals) =
    append_assoc os (replicate (8 - n) 0) (replicate (v.first_global - 8) 0 ++ v.globals) ∙ ap (λ (zs : List ℕ). os ++ zs) (sym (append_assoc (replicate (8 - n) 0) (replicate (v.first_global - 8) 0) v.globals)) in
    let all : with_part xs 0 ps ≡ os ++ 0 ∷ (replicate (v.first_global - (n + 1)) 0 ++ v.globals) =
    whole ∙ ap (λ (zs : List ℕ). ps ++ zs) back ∙ parted ∙ ap (λ (zs : List ℕ). os ++ (zs ++ v.globals)) joined in
    ap (λ (zs : List ℕ). set zs n y) all ∙ set_at os 0 (replicate (v.first_global - (n + 1)) 0 ++ v.globals) y n size

-- the results of POP that gives one, or none
results-few : (ls : List ℕ) (x : ℕ) → x ≤ 1 → x ≤ length ls → results ls x ≡ take x (get_or ls 0 0 ∷ [])
results-few ls zero f g = refl
results-few ls (suc zero) f g = grind (arith, nat_tests)
results-few ls (suc (suc x)) f g = absurd (omega arith)

-- after the octas that came back comes the result, or a 0 that is no local
last-result : (v : Registers) (os : List ℕ) (n x : ℕ) → AreInBounds v → n < 8 → x ≤ 1 → x ≤ length v.locals → os ++ (if x == 0 then 0 else get_or (all_values v) 0 0) ∷ (replicate (v.first_global - (n + 1)) 0 ++ v.globals) ≡ (os ++ results v.locals x) ++ replicate (v.first_global - (n + x)) 0 ++ v.globals
last-result v os n zero b g one among =
    let zs : List ℕ = 0 ∷ replicate (v.first_global - (n + 1)) 0 in
    let one_more : suc (v.first_global - (n + 1)) ≡ v.first_global - (n + 0) = omega (arith, b.least_global) in
    let more : zs ≡ replicate (v.first_global - (n + 0)) 0 = ap (λ k. replicate {A = ℕ} k 0) one_more in
    sym (append_assoc os zs v.globals) ∙ ap (λ (ws : List ℕ). ws ++ zs ++ v.globals) (sym (append-nil os)) ∙ ap (λ (ws : List ℕ). (os ++ []) ++ ws ++ v.globals) more
last-result v os n (suc zero) b g one among =
    let y : ℕ = get_or v.locals 0 0 in
    let zs : List ℕ = replicate (v.first_global - (n + 1)) 0 in
    let main : get_or (all_values v) 0 0 ≡ y = ap (λ (ws : List ℕ). get_or ws 0 0) (append_assoc v.locals (replicate (v.first_global - length v.locals) 0) v.globals) ∙ get_or-append v.locals (replicate (v.first_global - length v.locals) 0 ++ v.globals) 0 0 (omega arith) in
    ap (λ (r : ℕ). os ++ r ∷ (zs ++ v.globals)) main ∙ sym (ap (λ (rs : List ℕ). (os ++ rs) ++ zs ++ v.globals) (results-few v.locals 1 one among) ∙ append_assoc (os ++ y ∷ []) zs v.globals ∙ append_assoc os (y ∷ []) (zs ++ v.globals))
last-result v os n (suc (suc x)) b g one among = absurd (omega arith)

returned-values : (v : Registers) (os : List ℕ) (n x : ℕ) → AreInBounds v → length v.locals ≤ 8 → length os ≡ n → n < 8 → x ≤ 1 → x ≤ length v.locals → set (with_part (all_values v) 0 (os ++ replicate (8 - n) 0)) n (if x == 0 then 0 else get_or (all_values v) 0 0) ≡ all_values (with_returned v os x)
returned-values v os n x b f size g one among =
    let rs : List ℕ = results v.locals x in
    let few : length rs ≡ x = ap length (results-few v.locals x one among) ∙ length-take-le x (get_or v.locals 0 0 ∷ []) one in
    let many : length (os ++ rs) ≡ n + x = omega (arith, length-append os rs) in
    let below : take v.first_global (os ++ rs) ≡ os ++ rs = take_all v.first_global (os ++ rs) (omega (arith, b.least_global)) in
    let shown : (os ++ rs) ++ replicate (v.first_global - (n + x)) 0 ++ v.globals ≡ all_values (with_returned v os x) =
    ap (λ k. (os ++ rs) ++ replicate (v.first_global - k) 0 ++ v.globals) (sym many) ∙ ap (λ (ls : List ℕ). ls ++ replicate (v.first_global - length ls) 0 ++ v.globals) (sym below) in
    registers-written v os n _ b f size g ∙ last-result v os n x b g one among ∙ shown

pub returned-has : (i : Inside) (octas zs : List ℕ) (n x : ℕ) → HoldsRegisters i → length octas ≡ 8 → n < 8 → length (registers_in i).locals ≤ 8 → x ≤ 1 → x ≤ length (registers_in i).locals → zs ≡ set (with_part i.values 0 (take n octas ++ replicate (8 - n) 0)) n (if x == 0 then 0 else get_or i.values 0 0) → HasRegisters (record i { values = zs; local_count = n + x }) (with_returned (registers_in i) (take n octas) x)
returned-has i octas zs n x h all f few one among ez =
    let v : Registers = registers_in i in
    let os : List ℕ = take n octas in
    let rs : List ℕ = results v.locals x in
    let size : length os ≡ n = length-take-le n octas (omega arith) in
    let length-rs : length rs ≡ x = ap length (results-few v.locals x one among) ∙ length-take-le x (get_or v.locals 0 0 ∷ []) one in
    let many : length (os ++ rs) ≡ n + x = omega (arith, length-append os rs) in
    let below : take v.first_global (os ++ rs) ≡ os ++ rs = take_all v.first_global (os ++ rs) (omega (arith, h.in_bounds.least_global)) in
    let locals : n + x ≡ length (take v.first_global (os ++ rs)) = sym (ap length below ∙ many) in
    let values : zs ≡ all_values (with_returned v os x) = ez ∙ ap (λ (vs : List ℕ). set (with_part vs 0 (os ++ replicate (8 - n) 0)) n (if x == 0 then 0 else get_or vs 0 0)) h.all_shown ∙ returned-values v os n x h.in_bounds few size f one among in
    registers-has (with_returned v os x) zs (n + x) i.first_global (locals-bounds v (take v.first_global (os ++ rs)) h.in_bounds (omega (arith, h.in_bounds.least_global))) values locals refl
