-- What is framed is read.
use Rattle.std.proofs.Common.{◌≡◌, ◌≢◌, ◌≤◌, ◌<◌, ◌^◌, ◌*◌, ◌/◌, ◌%◌, ℕ, suc, ◌-◌, ◌+◌, ◌==◌, nat_lt, Bool, true, false, not, cond, List, [], ◌∷◌, ◌++◌, length, take, drop, map, fold, codes, Option, None, Some, refl, ap, sym, ◌∙◌, arith, append_assoc, append-nil, take_while}
use Rattle.std.specs.List.{AllByRecursion, flat_map, list_all}
use Rattle.std.proofs.lemmas.Bool.{and_parts}
use Rattle.std.proofs.lemmas.Bool.Decides.{nat_tests}
use Rattle.std.proofs.lemmas.Grind.{common_steps}
use Rattle.std.specs.Str.Parse.{AllDigits}
use Rattle.std.specs.Char.{digit_value}
use Rattle.std.specs.Fmt.{decimal}
use Rattle.std.proofs.lemmas.Fmt.{decimal_by_steps, decimal_is_IsNumeral, decimal_nonempty, length-decimal-le}
use Rattle.std.proofs.lemmas.List.{take-append-drop}
use Rattle.std.proofs.lemmas.List.Sums.{take_while-cons}
use Rattle.std.proofs.lemmas.Slice.Eq.{bytes_eq-Decides}
use Rattle.mx_word.specs.Kinds.{is_digit}
use Rattle.mx_line.specs.Bytes.{run, past}
use Rattle.mx_frames.specs.declared.reader.Coming.{Coming}
use Rattle.mx_frames.specs.declared.reader.Coming.TheVariants.{Head, Body, Faulty}
use Rattle.mx_frames.specs.declared.reader.Frame.{Frame}
use Rattle.mx_frames.specs.Heads.{body_length, ends_head, ends_value, head_end, is_gap, is_no_newline, length_in, next_value, number_at, value_of}
use Rattle.mx_frames.specs.Streams.{Read, IsShort, frame_of, frame_with, framed, head_after, head_for, joined, nothing, read_with, reads, settled, with_byte}
use Rattle.mx_frames.proofs.Turns.{joined-assoc, pieces}

-- ---- ends of lists

pub snoc-same : (xs ys : List ℕ) (x y : ℕ) → xs ++ x ∷ [] ≡ ys ++ y ∷ [] → (xs ≡ ys) × (x ≡ y)
snoc-same [] [] x y e = (refl, cc)
snoc-same [] (b ∷ ys) x y e = absurd (grind (arith, common_steps))
snoc-same (a ∷ xs) [] x y e = absurd (grind (arith, common_steps))
snoc-same (a ∷ xs) (b ∷ ys) x y e =
    let first : a ≡ b = cc in
    let others : xs ++ x ∷ [] ≡ ys ++ y ∷ [] = cc in
    let p = snoc-same xs ys x y others in
    let same : xs ≡ ys = p.0 in
    (cc, p.1)

-- a header that ends has the end of headers at its end
ended-front : (head : List ℕ) → ends_head head ≡ true → (front : List ℕ) × (head ≡ front ++ head_end)
ended-front head e =
    let is : drop (length head - 4) head ≡ head_end = (bytes_eq-Decides (drop (length head - 4) head) head_end).0 e in
    (take (length head - 4) head, sym (take-append-drop (length head - 4) head) ∙ ap (λ t. take (length head - 4) head ++ t) is)

-- ---- headers that have not ended

open-byte : (head : List ℕ) (b : ℕ) → is_no_newline b ≡ true → (is : Bool) → ends_head (head ++ b ∷ []) ≡ is → is ≡ false
open-byte head b plain false e = refl
open-byte head b plain true e =
    let f = ended-front (head ++ b ∷ []) e in
    let last : b ≡ 10 = (snoc-same head (f.0 ++ 13 ∷ 10 ∷ 13 ∷ []) b 10 (f.1 ∙ sym (append_assoc f.0 (13 ∷ 10 ∷ 13 ∷ []) (10 ∷ [])))).1 in
    absurd (grind (arith, nat_tests))

-- a byte after which a header goes on
goes-on : (head : List ℕ) (b : ℕ) (rest : List ℕ) → ends_head (head ++ b ∷ []) ≡ false → length head + 1 < 4096 →
    reads (Head head) (b ∷ rest) ≡ reads (Head (head ++ b ∷ [])) rest
unfolding reads
goes-on head b rest e few =
    let short : nat_lt (length (head ++ b ∷ [])) 4096 ≡ true = grind (arith, nat_tests, common_steps) in
    rw (e, short) refl

walk : (head xs rest : List ℕ) → list_all is_no_newline xs ≡ true → length head + length xs < 4096 →
    reads (Head head) (xs ++ rest) ≡ reads (Head (head ++ xs)) rest
walk head [] rest all few = ap (λ h. reads (Head h) rest) (sym (append-nil head))
walk head (b ∷ xs) rest all few =
    let p = and_parts (is_no_newline b) (list_all is_no_newline xs) all in
    let more : length (head ++ b ∷ []) + length xs < 4096 = grind (arith, common_steps) in
    goes-on head b (xs ++ rest) (open-byte head b p.0 (ends_head (head ++ b ∷ [])) refl) (omega (arith, few))
    ∙ walk (head ++ b ∷ []) xs rest p.1 more
    ∙ ap (λ h. reads (Head h) rest) (append_assoc head (b ∷ []) xs)

-- ---- the end of a header

all-of-both : (xs ys : List ℕ) → list_all is_no_newline (xs ++ ys) ≡ true → list_all is_no_newline ys ≡ true
all-of-both [] ys all = all
all-of-both (x ∷ xs) ys all = all-of-both xs ys (and_parts (is_no_newline x) _ all).1

first-line : (head : List ℕ) → list_all is_no_newline head ≡ true → (is : Bool) → ends_head ((head ++ 13 ∷ []) ++ 10 ∷ []) ≡ is → is ≡ false
first-line head plain false e = refl
first-line head plain true e =
    let f = ended-front ((head ++ 13 ∷ []) ++ 10 ∷ []) e in
    let p = snoc-same (head ++ 13 ∷ []) (f.0 ++ 13 ∷ 10 ∷ 13 ∷ []) 10 10 (f.1 ∙ sym (append_assoc f.0 (13 ∷ 10 ∷ 13 ∷ []) (10 ∷ []))) in
    let q = snoc-same head (f.0 ++ 13 ∷ 10 ∷ []) 13 13 (p.0 ∙ sym (append_assoc f.0 (13 ∷ 10 ∷ []) (13 ∷ []))) in
    let all : list_all is_no_newline (f.0 ++ 13 ∷ 10 ∷ []) ≡ true = ap (list_all is_no_newline) (sym q.0) ∙ plain in
    let tail : list_all is_no_newline (13 ∷ 10 ∷ []) ≡ true = all-of-both f.0 (13 ∷ 10 ∷ []) all in
    absurd (cc)

ends : (head : List ℕ) → ends_head (head ++ head_end) ≡ true
ends head =
    let at : length (head ++ head_end) - 4 ≡ length head = grind (arith, common_steps) in
    let is : drop (length head) (head ++ head_end) ≡ head_end = grind (arith, common_steps) in
    rw (at, is) refl

-- a header whose lines are read up to its end
read-head : (head rest : List ℕ) → list_all is_no_newline head ≡ true → length head < 4000 →
    reads (Head []) ((head ++ head_end) ++ rest) ≡ joined (settled (head_after (head ++ head_end))) (reads (settled (head_after (head ++ head_end))).coming rest)
unfolding reads
read-head head rest plain few =
    let few_3 : length (head ++ 13 ∷ []) + 1 < 4096 = grind (arith, common_steps) in
    let few_2 : length ((head ++ 13 ∷ []) ++ 10 ∷ []) + 1 < 4096 = grind (arith, common_steps) in
    let whole : (((head ++ 13 ∷ []) ++ 10 ∷ []) ++ 13 ∷ []) ++ 10 ∷ [] ≡ head ++ head_end =
    append_assoc ((head ++ 13 ∷ []) ++ 10 ∷ []) (13 ∷ []) (10 ∷ []) ∙ append_assoc (head ++ 13 ∷ []) (10 ∷ []) (13 ∷ 10 ∷ []) ∙ append_assoc head (13 ∷ []) (10 ∷ 13 ∷ 10 ∷ []) in
    ap (reads (Head [])) (append_assoc head head_end rest)
    ∙ walk [] head (head_end ++ rest) plain (omega (arith, few))
    ∙ goes-on head 13 (10 ∷ 13 ∷ 10 ∷ rest) (open-byte head 13 refl (ends_head (head ++ 13 ∷ [])) refl) (omega (arith, few))
    ∙ goes-on (head ++ 13 ∷ []) 10 (13 ∷ 10 ∷ rest) (first-line head plain (ends_head ((head ++ 13 ∷ []) ++ 10 ∷ [])) refl) few_3
    ∙ goes-on ((head ++ 13 ∷ []) ++ 10 ∷ []) 13 (10 ∷ rest) (open-byte ((head ++ 13 ∷ []) ++ 10 ∷ []) 13 refl (ends_head (((head ++ 13 ∷ []) ++ 10 ∷ []) ++ 13 ∷ [])) refl) few_2
    ∙ ap (λ h. joined (settled (head_after h)) (reads (settled (head_after h)).coming rest)) whole

-- ---- what the header of a body says

fold-snoc : (f : ℕ → ℕ → ℕ) (a : ℕ) (xs : List ℕ) (x : ℕ) → fold f a (xs ++ x ∷ []) ≡ f (fold f a xs) x
fold-snoc f a [] x = refl
fold-snoc f a (y ∷ xs) x = fold-snoc f (f a y) xs x

value-step : (n : ℕ) (ds : List ℕ) → 10 ≤ n → (n / 10 ≤ 2 ^ 26 → value_of ds ≡ n / 10) → n ≤ 2 ^ 26 → value_of (ds ++ (48 + n % 10) ∷ []) ≡ n
value-step n ds ten h le =
    let low : n / 10 ≤ 2 ^ 26 = omega arith in
    let value : value_of ds ≡ n / 10 = h low in
    let few : nat_lt (2 ^ 26) (n / 10) ≡ false = grind (arith, nat_tests) in
    let last : (n / 10) * 10 + ((48 + n % 10) - 48) ≡ n = omega arith in
    fold-snoc next_value 0 ds (48 + n % 10) ∙ rw (value, few) last

value-one : (n : ℕ) → n < 10 → n ≤ 2 ^ 26 → value_of ((48 + n) ∷ []) ≡ n
value-one n lt le = omega arith

pub value-of-decimal : (n : ℕ) → n ≤ 2 ^ 26 → value_of (decimal n) ≡ n
value-of-decimal n le = decimal_by_steps (λ n ds. n ≤ 2 ^ 26 → value_of ds ≡ n) value-one (λ n ds ten h. value-step n ds ten h) n (omega (arith, le)) le

-- a run of a kind, and what stops it
abbrev stops : (ℕ → Bool) → List ℕ → Bool
stops kind [] = true
stops kind (b ∷ bs) = not (kind b)

run-stopped : (kind : ℕ → Bool) (b : ℕ) (bs : List ℕ) → not (kind b) ≡ true → run kind (b ∷ bs) ≡ []
run-stopped kind b bs e = let no : kind b ≡ false = grind (arith, nat_tests) in take_while-cons kind b bs ∙ rw no refl

run-of : (kind : ℕ → Bool) (xs rest : List ℕ) → list_all kind xs ≡ true → stops kind rest ≡ true → run kind (xs ++ rest) ≡ xs
run-of kind [] [] all s = refl
run-of kind [] (b ∷ rest) all s = run-stopped kind b rest s
run-of kind (x ∷ xs) rest all s =
    let p = and_parts (kind x) (list_all kind xs) all in
    take_while-cons kind x (xs ++ rest) ∙ rw (p.0, run-of kind xs rest p.1 s) refl

digit-is : (b : ℕ) → digit_value b < 10 → is_digit b ≡ true
digit-is b lt = grind (arith, nat_tests)

plain-is : (b : ℕ) → digit_value b < 10 → is_no_newline b ≡ true
plain-is b lt = grind (arith, nat_tests)

no-gap : (b : ℕ) → digit_value b < 10 → not (is_gap b) ≡ true
no-gap b lt = grind (arith, nat_tests)

all-digits : (P : ℕ → Bool) → ((b : ℕ) → digit_value b < 10 → P b ≡ true) → (ds : List ℕ) → AllDigits 10 ds → list_all P ds ≡ true
all-digits P of [] all = refl
all-digits P of (d ∷ ds) all = rw (of d all.0, all-digits P of ds all.1) refl

number-read : (ds rest : List ℕ) (n : ℕ) → list_all is_digit ds ≡ true → 0 < length ds → stops is_digit rest ≡ true → ends_value rest ≡ true → value_of ds ≡ n → n ≤ 2 ^ 26 →
    number_at (ds ++ rest) ≡ Some n
unfolding number_at
number-read ds rest n all some s end value le =
    let r : run is_digit (ds ++ rest) ≡ ds = run-of is_digit ds rest all s in
    let front : take (length ds) (ds ++ rest) ≡ ds = grind (arith, common_steps) in
    let others : drop (length ds) (ds ++ rest) ≡ rest = grind (arith, common_steps) in
    let is : (length ds == 0) ≡ false = grind (arith, nat_tests) in
    let low : nat_lt (2 ^ 26) n ≡ false = grind (arith, nat_tests) in
    rw (r, is, others, end, front, value, low) refl

gap-read : (ds rest : List ℕ) → AllDigits 10 ds → 0 < length ds → past is_gap (32 ∷ (ds ++ rest)) ≡ ds ++ rest
gap-read [] rest all some = absurd (omega (arith, some))
gap-read (d ∷ ds) rest all some =
    let r : run is_gap ((32 ∷ []) ++ (d ∷ (ds ++ rest))) ≡ 32 ∷ [] = run-of is_gap (32 ∷ []) (d ∷ (ds ++ rest)) refl (no-gap d all.0) in
    rw r refl

-- the header of a body says how long it is
pub head-says : (n : ℕ) → n ≤ 2 ^ 26 → body_length (head_for n) ≡ Some n
unfolding head_for length_in
head-says n le =
    let lt : n < 2 ^ 64 = omega (arith, le) in
    let ds : AllDigits 10 (decimal n) = (decimal_is_IsNumeral n lt).0.1 in
    let some : 0 < length (decimal n) = decimal_nonempty n lt in
    let gap : past is_gap (32 ∷ (decimal n ++ head_end)) ≡ decimal n ++ head_end = gap-read (decimal n) head_end ds some in
    ap number_at gap ∙ number-read (decimal n) head_end n (all-digits is_digit digit-is (decimal n) ds) some refl refl (value-of-decimal n le) le

-- ---- a body

body-walk : (head : List ℕ) (n : ℕ) (body bytes rest : List ℕ) → length body + length bytes ≡ n → 0 < length bytes →
    reads (Body head n body) (bytes ++ rest) ≡ joined (read_with (frame_with head (body ++ bytes) ∷ []) nothing) (reads nothing rest)
unfolding reads
body-walk head n body [] rest e some = absurd (omega (arith, some))
body-walk head n body (b ∷ []) rest e some =
    let is : (length (body ++ b ∷ []) == n) ≡ true = grind (arith, nat_tests, common_steps) in
    rw is refl
body-walk head n body (b ∷ c ∷ bytes) rest e some =
    let is : (length (body ++ b ∷ []) == n) ≡ false = grind (arith, nat_tests, common_steps) in
    let more : length (body ++ b ∷ []) + length (c ∷ bytes) ≡ n = grind (arith, common_steps) in
    rw is (body-walk head n (body ++ b ∷ []) (c ∷ bytes) rest more (omega arith) ∙ ap (λ body. joined (read_with (frame_with head body ∷ []) nothing) (reads nothing rest)) (append_assoc body (b ∷ []) (c ∷ bytes)))

-- ---- frames

head-plain : (n : ℕ) → n ≤ 2 ^ 26 → list_all is_no_newline (codes "Content-Length: " ++ decimal n) ≡ true
head-plain n le = all-digits is_no_newline plain-is (decimal n) (decimal_is_IsNumeral n (omega (arith, le))).0.1

head-short : (n : ℕ) → n ≤ 2 ^ 26 → length (codes "Content-Length: " ++ decimal n) < 4000
head-short n le = let few = length-decimal-le 8 n (omega arith) (omega (arith, le)) (omega (arith, le)) in grind (arith, common_steps)

opened : (n : ℕ) → n ≤ 2 ^ 26 → head_after (head_for n) ≡ Body (head_for n) n []
unfolding head_for
opened n le = rw (ends (codes "Content-Length: " ++ decimal n), head-says n le) refl

plain-head : (n : ℕ) (rest : List ℕ) → n ≤ 2 ^ 26 →
    reads nothing (head_for n ++ rest) ≡ joined (settled (head_after (head_for n))) (reads (settled (head_after (head_for n))).coming rest)
unfolding head_for
plain-head n rest le = read-head (codes "Content-Length: " ++ decimal n) rest (head-plain n le) (head-short n le)

from-head : (n : ℕ) (rest : List ℕ) → n ≤ 2 ^ 26 →
    reads nothing (head_for n ++ rest) ≡ joined (settled (Body (head_for n) n [])) (reads (settled (Body (head_for n) n [])).coming rest)
from-head n rest le =
    plain-head n rest le ∙ ap (λ c. joined (settled c) (reads (settled c).coming rest)) (opened n le)

open-body : (head : List ℕ) (n : ℕ) → 0 < n → settled (Body head n []) ≡ read_with [] (Body head n [])
open-body head n some = let no : (0 == n) ≡ false = grind (arith, nat_tests) in rw no refl

some-follow : (head : List ℕ) (n : ℕ) (bytes : List ℕ) → 0 < n → joined (settled (Body head n [])) (reads (settled (Body head n [])).coming bytes) ≡ reads (Body head n []) bytes
some-follow head n bytes some = ap (λ (r : Read). joined r (reads r.coming bytes)) (open-body head n some)

pub frame-read : (body rest : List ℕ) → length body ≤ 2 ^ 26 → reads nothing (framed body ++ rest) ≡ joined (read_with (frame_of body ∷ []) nothing) (reads nothing rest)
frame-read [] rest le = ap (λ h. reads nothing (h ++ rest)) (append-nil (head_for 0)) ∙ from-head 0 rest le
frame-read (b ∷ body) rest le =
    ap (reads nothing) (append_assoc (head_for (length (b ∷ body))) (b ∷ body) rest)
    ∙ from-head (length (b ∷ body)) ((b ∷ body) ++ rest) le
    ∙ some-follow (head_for (length (b ∷ body))) (length (b ∷ body)) ((b ∷ body) ++ rest) (omega arith)
    ∙ body-walk (head_for (length (b ∷ body))) (length (b ∷ body)) [] (b ∷ body) rest (omega arith) (omega arith)

pub frames-read : (bodies : List (List ℕ)) (rest : List ℕ) → AllByRecursion IsShort bodies →
    reads nothing (flat_map framed bodies ++ rest) ≡ joined (read_with (map frame_of bodies) nothing) (reads nothing rest)
frames-read [] rest all = refl
frames-read (body ∷ bodies) rest all =
    ap (reads nothing) (append_assoc (framed body) (flat_map framed bodies) rest)
    ∙ frame-read body (flat_map framed bodies ++ rest) all.0
    ∙ ap (joined (read_with (frame_of body ∷ []) nothing)) (frames-read bodies rest all.1)
    ∙ sym (joined-assoc (read_with (frame_of body ∷ []) nothing) (read_with (map frame_of bodies) nothing) (reads nothing rest))

pub ruleset laws = (frames-read)
