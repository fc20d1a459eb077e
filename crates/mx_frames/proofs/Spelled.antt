-- What is read is spelled in the stream.
use Rattle.std.proofs.Common.{◌≡◌, ◌≢◌, ◌≤◌, ◌<◌, ◌^◌, ℕ, ◌-◌, ◌+◌, ◌==◌, nat_lt, Bool, true, false, cond, List, [], ◌∷◌, ◌++◌, length, Option, None, Some, refl, ap, sym, ◌∙◌, arith, append_assoc, append-nil}
use Rattle.std.specs.List.{AllByRecursion, flat_map}
use Rattle.std.proofs.lemmas.Bool.Decides.{nat_tests}
use Rattle.std.proofs.lemmas.Grind.{common_steps}
use Rattle.mx_frames.specs.declared.reader.Coming.{Coming}
use Rattle.mx_frames.specs.declared.reader.Coming.TheVariants.{Head, Body, Faulty}
use Rattle.mx_frames.specs.declared.reader.Frame.{Frame}
use Rattle.mx_frames.specs.Heads.{body_length, ends_head}
use Rattle.mx_frames.specs.Streams.{Read, IsFrame, IsWithin, Spells, body_after, frame_with, head_after, held, joined, nothing, read_with, reads, settled, settled_body, wanted, whole, with_byte}
use Rattle.mx_frames.proofs.Turns.{pieces}

-- ---- a byte

same-length : (m n : ℕ) → (m == n) ≡ true → m ≡ n
same-length m n e = grind (arith, nat_tests)

other-length : (m n : ℕ) → (m == n) ≡ false → m ≤ n → m < n
other-length m n e le = grind (arith, nat_tests)

body-by : (is_whole : Bool) (head : List ℕ) (n : ℕ) (body : List ℕ) → (length body == n) ≡ is_whole → ends_head head ≡ true → body_length head ≡ Some n → length body ≤ n →
    Spells (head ++ body) (cond is_whole (read_with (frame_with head body ∷ []) (Head [])) (read_with [] (Body head n body)))
body-by true head n body e ends says le = record {
  each = (record { ends = ends; says = says ∙ ap Some (sym (same-length (length body) n e)) }, tt);
  spelled = sym (append-nil ((head ++ body) ++ []) ∙ append-nil (head ++ body));
  front = tt;
}
body-by false head n body e ends says le = record {
  each = tt;
  spelled = refl;
  front = (ends, says, other-length (length body) n e le);
}

body-settled : (head : List ℕ) (n : ℕ) (body : List ℕ) → ends_head head ≡ true → body_length head ≡ Some n → length body ≤ n →
    Spells (head ++ body) (settled_body head n body)
body-settled head n body ends says le = body-by (length body == n) head n body refl ends says le

after-head : (says : Option ℕ) (head : List ℕ) → body_length head ≡ says → ends_head head ≡ true → (settled (body_after head says)).coming ≢ Faulty →
    Spells head (settled (body_after head says))
after-head None head e ends some = absurd (some refl)
after-head (Some n) head e ends some =
    let s : Spells (head ++ []) (settled_body head n []) = body-settled head n [] ends e (omega arith) in
    record { each = s.each; spelled = sym (append-nil head) ∙ s.spelled; front = s.front }

head-by : (ended short : Bool) (head : List ℕ) → ends_head head ≡ ended →
    (settled (cond ended (body_after head (body_length head)) (cond short (Head head) Faulty))).coming ≢ Faulty →
    Spells head (settled (cond ended (body_after head (body_length head)) (cond short (Head head) Faulty)))
head-by true short head e some = after-head (body_length head) head refl e some
head-by false true head e some = record { each = tt; spelled = refl; front = tt }
head-by false false head e some = absurd (some refl)

pub byte-spells : (coming : Coming) (b : ℕ) → IsWithin coming → (settled (with_byte coming b)).coming ≢ Faulty →
    Spells (held coming ++ b ∷ []) (settled (with_byte coming b))
byte-spells (Head head) b is some = head-by (ends_head (head ++ b ∷ [])) (nat_lt (length (head ++ b ∷ [])) 4096) (head ++ b ∷ []) refl some
byte-spells (Body head n body) b is some =
    let few : length (body ++ b ∷ []) ≤ n = grind (arith, common_steps) in
    let s : Spells (head ++ (body ++ b ∷ [])) (settled_body head n (body ++ b ∷ [])) = body-settled head n (body ++ b ∷ []) is.0 is.1 few in
    record { each = s.each; spelled = append_assoc head body (b ∷ []) ∙ s.spelled; front = s.front }
byte-spells Faulty b is some = absurd is

-- ---- a stream

faulty-stays : (bytes : List ℕ) → (reads Faulty bytes).coming ≡ Faulty
unfolding reads
faulty-stays [] = refl
faulty-stays (b ∷ bytes) = faulty-stays bytes

all-frames : (xs ys : List Frame) → AllByRecursion IsFrame xs → AllByRecursion IsFrame ys → AllByRecursion IsFrame (xs ++ ys)
all-frames [] ys all others = others
all-frames (f ∷ xs) ys all others = (all.0, all-frames xs ys all.1 others)

flat-both : (xs ys : List Frame) → flat_map whole (xs ++ ys) ≡ flat_map whole xs ++ flat_map whole ys
flat-both [] ys = refl
flat-both (f ∷ xs) ys = ap (λ more. whole f ++ more) (flat-both xs ys) ∙ sym (append_assoc (whole f) (flat_map whole xs) (flat_map whole ys))

-- a piece that is spelled, and what follows it
both-spell : (front others : List ℕ) (r s : Read) → Spells front r → Spells (held r.coming ++ others) s → Spells (front ++ others) (joined r s)
both-spell front others r s p q = record {
  each = all-frames r.frames s.frames p.each q.each;
  spelled =
      ap (λ text. text ++ others) p.spelled ∙ append_assoc (flat_map whole r.frames) (held r.coming) others
      ∙ ap (λ text. flat_map whole r.frames ++ text) q.spelled
      ∙ sym (append_assoc (flat_map whole r.frames) (flat_map whole s.frames) (held s.coming))
      ∙ ap (λ text. text ++ held s.coming) (sym (flat-both r.frames s.frames));
  front = q.front;
}

pub all-spelled : (coming : Coming) (bytes : List ℕ) → IsWithin coming → (reads coming bytes).coming ≢ Faulty → Spells (held coming ++ bytes) (reads coming bytes)
unfolding reads
all-spelled coming [] is some = record { each = tt; spelled = append-nil (held coming); front = is }
all-spelled coming (b ∷ bytes) is some =
    let one : Spells (held coming ++ b ∷ []) (settled (with_byte coming b)) =
    byte-spells coming b is (λ e. some (ap (λ c. (reads c bytes).coming) e ∙ faulty-stays bytes)) in
    let both : Spells ((held coming ++ b ∷ []) ++ bytes) (joined (settled (with_byte coming b)) (reads (settled (with_byte coming b)).coming bytes)) =
    both-spell (held coming ++ b ∷ []) bytes _ _ one (all-spelled (settled (with_byte coming b)).coming bytes one.front some) in
    record { each = both.each; spelled = sym (append_assoc (held coming) (b ∷ []) bytes) ∙ both.spelled; front = both.front }

pub stream-spelled : (stream : List ℕ) → (reads nothing stream).coming ≢ Faulty → Spells stream (reads nothing stream)
stream-spelled stream some = all-spelled nothing stream tt some

-- ---- how much may be asked for

none-early : (coming : Coming) (piece : List ℕ) → length piece < wanted coming → (reads coming piece).frames ≡ []
unfolding reads
none-early coming [] few = refl
none-early (Head head) (b ∷ piece) few = absurd (omega (arith, few))
none-early (Body head n body) (b ∷ piece) few =
    let more : (length (body ++ b ∷ []) == n) ≡ false = grind (arith, nat_tests, common_steps) in
    let later : length piece < n - length (body ++ b ∷ []) = grind (arith, common_steps) in
    rw more (none-early (Body head n (body ++ b ∷ [])) piece later)
none-early Faulty (b ∷ piece) few = absurd (omega (arith, few))

pub none-before : (stream piece : List ℕ) → length piece < wanted (reads nothing stream).coming → (reads (reads nothing stream).coming piece).frames ≡ []
none-before stream piece few = none-early (reads nothing stream).coming piece few

pub ruleset laws = (stream-spelled, pieces, none-before)
