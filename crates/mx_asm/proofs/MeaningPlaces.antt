-- The pages and the lines of what statements place, with their targets known and with none.
use Rattle.std.proofs.Common.{◌≡◌, ℕ, ◌+◌, ◌-◌, ◌/◌, ◌≤◌, List, [], ◌∷◌, ◌++◌, length, fold, Bool, true, false, cond, arith, refl, sym, ◌∙◌, ap, subst, Option, Some, None, Ok, append-nil, ◌==◌, ◌||◌, ◌&&◌, nat_le, rules}
use Rattle.mx_asm.proofs.Words.{AllByRecursion, list_any, nat_tests, Value, Wait, same_awaited, NameTable, complete_form, Label, Name, Local, Placed, Answer, AreAlike, Targets, encoding, fix_placements, IsFixed, kind_size, IsInside, from_place, all-into, all-append, Sight, outline, waits_in, references, is_local, targets, piece_with, pieces_of, from_last, waiting_for, waiting_at, placements, pages_of, with_lines, statement_fault, first_fault}
use Rattle.mx_word.specs.declared.waits.Awaited.TheVariants as awaited
use Rattle.mx_stmt.proofs.JoinedStatements.{encoding-joined}
use Rattle.mx_asm.proofs.OpenWaits.{references-append, references-one as one-reference}
use Rattle.mx_asm.proofs.EndLaw.{both-none}
use Rattle.mx_asm.proofs.MeaningMemory.{AreMore, append-pages, append-more, pages-run, same-numbers}
use Rattle.mx_asm.proofs.MeaningStates.{State}
use Rattle.mx_asm.proofs.MeaningBytes.{piece_at, after_bytes}
use Rattle.mx_asm.proofs.MeaningStatements.{all-filter, after_fixes, after_placed, IsSteady, faultless, laid, after_sight, after_sights}
use Rattle.std.proofs.lemmas.Bool.{or_right as or-right}

-- ---- a statement with its targets known

-- what a statement comes to with targets, after what it comes to with none
pub record IsFixedTo (t : Targets) (s : Sight) (p : Placed) : Type 0 where
  pub after : Placed
  pub encoded : encoding t s.known s.statement ≡ Ok after
  pub fixed : IsFixed t p after

fixed-by : (t : Targets) (s : Sight) (p : Placed) (r q : Answer Placed) → r ≡ Ok p → encoding t s.known s.statement ≡ q → AreAlike (IsFixed t) r q → IsFixedTo t s p
unfolding AreAlike
fixed-by t s p r q h1 h2 h3 = grind (arith, nat_tests)

pub fixed-to : (t : Targets) (s : Sight) (p : Placed) → IsSteady s → outline s ≡ Ok p → IsFixedTo t s p
fixed-to t s p steady e = fixed-by t s p (outline s) (encoding t s.known s.statement) e refl (encoding-joined t s.known s.statement steady.operation steady.sound)

-- ---- addresses

-- tests of addresses hang on how many bytes there are
pub same-addresses : (f : ℕ → Bool) (a : ℕ) (xs ys : List ℕ) → length xs ≡ length ys → list_any (λ (q : ℕ × ℕ). f q.0) (from_place a xs) ≡ list_any (λ (q : ℕ × ℕ). f q.0) (from_place a ys)
same-addresses f a [] [] e = refl
same-addresses f a (x ∷ xs) (y ∷ ys) e = ap (λ b. f a || b) (same-addresses f (a + 1) xs ys (omega (arith, e)))
same-addresses f a xs ys e = absurd (omega (arith, e))

fixed-addresses : (f : ℕ → Bool) (t : Targets) (p q : Placed) → IsFixed t p q → list_any (λ (r : ℕ × ℕ). f r.0) (from_place q.start q.bytes) ≡ list_any (λ (r : ℕ × ℕ). f r.0) (from_place p.start p.bytes)
fixed-addresses f t p q is = ap (λ a. list_any (λ (r : ℕ × ℕ). f r.0) (from_place a q.bytes)) is.start ∙ same-addresses f p.start q.bytes p.bytes is.count

pub fixed-pages : (t : Targets) (p q : Placed) (page : ℕ) → IsFixed t p q → pages_of (from_place q.start q.bytes) page ≡ pages_of (from_place p.start p.bytes) page
fixed-pages t p q page is = fixed-addresses (λ a. a / 4096 == page) t p q is

fixed-lines : (t : Targets) (p q : Placed) (line : ℕ) (lines : ℕ → ℕ) → IsFixed t p q → with_lines lines (piece_at line q.start q.bytes) ≡ with_lines lines (piece_at line p.start p.bytes)
fixed-lines t p q line lines is = same-numbers _ _ (λ a.
    ap (λ b. cond (nat_le line 65535 && b) (line + (a / 4 - q.start / 4)) (lines a)) (fixed-addresses (λ r. r / 4 == a / 4) t p q is)
    ∙ ap (λ s. cond (nat_le line 65535 && list_any (λ (r : ℕ × ℕ). r.0 / 4 == a / 4) (from_place p.start p.bytes)) (line + (a / 4 - s / 4)) (lines a)) is.start)

-- ---- lines

placed-lines : (s : State) (line : ℕ) (p : Placed) (waits : List Wait) → (after_placed s line p waits).lines ≡ with_lines s.lines (piece_at line p.start p.bytes)
placed-lines s line p waits = grind (arith, nat_tests)

pub lines-of-sights : (final : NameTable) (later earlier : List Sight) (s : State) → first_fault earlier later ≡ None → AllByRecursion IsSteady later →
    (after_sights s earlier later).lines ≡ fold with_lines s.lines (pieces_of final later)
unfolding first_fault after_sights pieces_of
lines-of-sights final [] earlier s none steady = refl
lines-of-sights final (t ∷ later) earlier s none steady =
    let parts = both-none (statement_fault earlier t) (first_fault (earlier ++ t ∷ []) later) none in
    let is = faultless earlier t parts.0 in
    let p : Placed = is.placed_as in
    let line : ℕ = t.statement.line in
    let to = fixed-to (targets final later) t p steady.0 is.outlined in
    ap (λ r. (after_sights (after_sight s earlier t r) (earlier ++ t ∷ []) later).lines) is.outlined
    ∙ lines-of-sights final later (earlier ++ t ∷ []) (after_placed s line p (waiting_at earlier t)) parts.1 steady.1
    ∙ ap (λ (lines : ℕ → ℕ). fold with_lines lines (pieces_of final later)) (placed-lines s line p (waiting_at earlier t) ∙ sym (fixed-lines (targets final later) p to.after line s.lines to.fixed))
    ∙ ap (λ r. fold with_lines s.lines (piece_with line r ++ pieces_of final later)) (sym to.encoded)

-- ---- pages

-- the bytes of a reference lie on these pages
abbrev pub IsOn : List (ℕ × ℕ) → Wait → Type 0
IsOn ps w = (bytes : List ℕ) → length bytes ≡ kind_size w.kind → AreMore (pages_of ps) (pages_of (from_place w.at bytes))

on-same : (ps qs : List (ℕ × ℕ)) (w : Wait) → AreMore (pages_of qs) (pages_of ps) → IsOn ps w → IsOn qs w
on-same ps qs w more on = λ bytes l p h. more p (on bytes l p h)

all-on-same : (ps qs : List (ℕ × ℕ)) (waits : List Wait) → AreMore (pages_of qs) (pages_of ps) → AllByRecursion (IsOn ps) waits → AllByRecursion (IsOn qs) waits
all-on-same ps qs waits more on = all-into (IsOn ps) (IsOn qs) waits (λ w h. on-same ps qs w more h) on

run-within : (a b : ℕ) (x y : ℕ) (xs ys : List ℕ) → b ≤ a → a + length (x ∷ xs) ≤ b + length (y ∷ ys) → AreMore (pages_of (from_place b (y ∷ ys))) (pages_of (from_place a (x ∷ xs)))
run-within a b x y xs ys l u = λ p h.
    let inner = sym (pages-run a x xs p) ∙ h in
    pages-run b y ys p ∙ wider (a / 4096) ((a + length xs) / 4096) (b / 4096) ((b + length ys) / 4096) p (omega (arith, l)) (omega (arith, u)) inner
  where
    wider : (a b c d p : ℕ) → c ≤ a → b ≤ d → (nat_le a p && nat_le p b) ≡ true → (nat_le c p && nat_le p d) ≡ true
    wider a b c d p l u h = grind (arith, nat_tests)

inside-on : (start : ℕ) (placed_bytes : List ℕ) (w : Wait) → IsInside start (length placed_bytes) w → IsOn (from_place start placed_bytes) w
inside-on start placed_bytes w is bytes l = by placed_bytes bytes is.first (subst (λ k. w.at + k ≤ start + length placed_bytes) (sym l) is.last)
  where
    by : (ys xs : List ℕ) → start ≤ w.at → w.at + length xs ≤ start + length ys → AreMore (pages_of (from_place start ys)) (pages_of (from_place w.at xs))
    by ys [] first last = λ p h. absurd (cc)
    by [] (x ∷ xs) first last = absurd (omega (arith, first, last))
    by (y ∷ ys) (x ∷ xs) first last = run-within w.at start x y xs ys first last

fixes-on : (t : Targets) (waits : List Wait) (ps : List (ℕ × ℕ)) → AllByRecursion (IsOn ps) waits → AreMore (pages_of ps) (pages_of (fix_placements t waits))
fixes-on t [] ps on = λ p h. absurd (cc)
fixes-on t (w ∷ waits) ps on = grind (arith, nat_tests, append-pages, fixes-on t waits ps on.1)

between : (a f b : Bool) → (f ≡ true → (a || b) ≡ true) → ((a || f) || b) ≡ (a || b)
between a f b h = grind (arith, nat_tests)

fixes-pages : (s : State) (value : Value) (waits : List Wait) (qs : List (ℕ × ℕ)) (p : ℕ) → AllByRecursion (IsOn (s.placements ++ qs)) waits →
    pages_of ((after_fixes s value waits).placements ++ qs) p ≡ pages_of (s.placements ++ qs) p
fixes-pages s value waits qs p h = search (rules, append-pages, between, fixes-on)

bytes-pages : (s : State) (line start : ℕ) (bytes : List ℕ) (p : ℕ) → pages_of (after_bytes s line start bytes).placements p ≡ pages_of (s.placements ++ from_place start bytes) p
bytes-pages s line start bytes p = search (rules, append-nil)

placed-pages : (s : State) (line : ℕ) (q : Placed) (waits : List Wait) (p : ℕ) → AllByRecursion (IsOn (s.placements ++ from_place q.start q.bytes)) waits →
    pages_of (after_placed s line q waits).placements p ≡ pages_of (s.placements ++ from_place q.start q.bytes) p
placed-pages s line q waits p on = search (rules, bytes-pages, fixes-pages)

-- the references that wait are among those of the statements
last-on : (P : Wait → Type 0) (d : ℕ) (ss : List Sight) → AllByRecursion P (references ss) → AllByRecursion P (references (from_last d ss))
unfolding references from_last
last-on P d [] h = h
last-on P d (s ∷ later) h = by (list_any (λ (t : Sight). is_local d t.statement.label) later) (last-on P d later (following (waits_in (outline s)) h))
  where
    following : (xs : List Wait) → AllByRecursion P (xs ++ references later) → AllByRecursion P (references later)
    following [] h = h
    following (x ∷ xs) h = following xs h.1

    by : (b : Bool) → AllByRecursion P (references (from_last d later)) → AllByRecursion P (references (cond b (from_last d later) (s ∷ later)))
    by true rest = rest
    by false rest = h

front-of : (P : Wait → Type 0) (xs ys : List Wait) → AllByRecursion P (xs ++ ys) → AllByRecursion P xs
front-of P [] ys h = tt
front-of P (x ∷ xs) ys h = (h.0, front-of P xs ys h.1)

waiting-on : (P : Wait → Type 0) (earlier : List Sight) (s : Sight) (label : Option Label) → AllByRecursion P (references (earlier ++ s ∷ [])) → AllByRecursion P (waiting_for earlier s label)
waiting-on P earlier s None h = tt
waiting-on P earlier s (Some (Name text)) h = all-filter P (λ (w : Wait). same_awaited w.who (awaited.Name (complete_form s.known.names.prefix text))) (references (earlier ++ s ∷ [])) h
waiting-on P earlier s (Some (Local d)) h =
    all-filter P (λ (w : Wait). same_awaited w.who (awaited.Local d)) (references (from_last d earlier))
    (last-on P d earlier (front-of P (references earlier) (references (s ∷ [])) (subst (AllByRecursion P) (references-append earlier (s ∷ [])) h)))

-- the references of a statement and of those before it lie on the pages of what they place
references-on : (ps : List (ℕ × ℕ)) (earlier : List Sight) (t : Sight) (p : Placed) → outline t ≡ Ok p → AllByRecursion (IsOn ps) (references earlier) →
    AllByRecursion (IsOn (ps ++ from_place p.start p.bytes)) (references (earlier ++ t ∷ []))
references-on ps earlier t p e on =
    let lay = laid t p e in
    let whole : List (ℕ × ℕ) = ps ++ from_place p.start p.bytes in
    let before = all-on-same ps whole (references earlier) (append-more ps (from_place p.start p.bytes)) on in
    let own = all-into (IsInside p.start (length p.bytes)) (IsOn whole) p.waits
    (λ w h. on-same (from_place p.start p.bytes) whole w (λ q there. append-pages ps (from_place p.start p.bytes) q ∙ or-right (pages_of ps q) (pages_of (from_place p.start p.bytes) q) there) (inside-on p.start p.bytes w h)) lay.waits in
    subst (AllByRecursion (IsOn whole)) (sym (references-append earlier (t ∷ []) ∙ ap (λ ws. references earlier ++ ws) (one-reference t ∙ ap waits_in e)))
    (all-append (IsOn whole) (references earlier) p.waits before own)

or-assoc : (a b c : Bool) → ((a || b) || c) ≡ (a || (b || c))
or-assoc a b c = grind (arith, nat_tests)

pub pages-of-sights : (final : NameTable) (later earlier : List Sight) (s : State) (page : ℕ) → first_fault earlier later ≡ None → AllByRecursion IsSteady later → AllByRecursion (IsOn s.placements) (references earlier) →
    pages_of (after_sights s earlier later).placements page ≡ (pages_of s.placements page || pages_of (placements (pieces_of final later)) page)
unfolding first_fault after_sights pieces_of placements
pages-of-sights final [] earlier s page none steady on = grind (arith, nat_tests)
pages-of-sights final (t ∷ later) earlier s page none steady on =
    let parts = both-none (statement_fault earlier t) (first_fault (earlier ++ t ∷ []) later) none in
    let is = faultless earlier t parts.0 in
    let p : Placed = is.placed_as in
    let line : ℕ = t.statement.line in
    let to = fixed-to (targets final later) t p steady.0 is.outlined in
    let u : State = after_placed s line p (waiting_at earlier t) in
    let whole : List (ℕ × ℕ) = s.placements ++ from_place p.start p.bytes in
    let all = references-on s.placements earlier t p is.outlined on in
    let same : (q : ℕ) → pages_of u.placements q ≡ pages_of whole q = λ q. placed-pages s line p (waiting_at earlier t) q (waiting-on (IsOn whole) earlier t t.statement.label all) in
    let next = all-on-same whole u.placements (references (earlier ++ t ∷ [])) (λ q h. same q ∙ h) all in
    ap (λ r. pages_of (after_sights (after_sight s earlier t r) (earlier ++ t ∷ []) later).placements page) is.outlined
    ∙ pages-of-sights final later (earlier ++ t ∷ []) u page parts.1 steady.1 next
    ∙ ap (λ b. b || pages_of (placements (pieces_of final later)) page) (same page ∙ append-pages s.placements (from_place p.start p.bytes) page)
    ∙ or-assoc (pages_of s.placements page) (pages_of (from_place p.start p.bytes) page) (pages_of (placements (pieces_of final later)) page)
    ∙ ap (λ b. pages_of s.placements page || (b || pages_of (placements (pieces_of final later)) page)) (sym (fixed-pages (targets final later) p to.after page to.fixed))
    ∙ ap (λ b. pages_of s.placements page || b) (sym (append-pages (from_place to.after.start to.after.bytes) (placements (pieces_of final later)) page))
    ∙ ap (λ r. pages_of s.placements page || pages_of (placements (piece_with line r ++ pieces_of final later)) page) (sym to.encoded)
