-- Memory by its bytes, octa by octa, and its pages.
use Rattle.std.proofs.Common.{◌≡◌, ℕ, zero, suc, ◌+◌, ◌/◌, ◌%◌, ◌<◌, List, [], ◌∷◌, length, Bool, false, cond, arith, refl, ◌∙◌, bit_xor, ◌==◌, rules, ◌-◌, ◌*◌, ◌^◌, get_or, sym, ap, nat_lt, ◌≤◌, ◌++◌, true, ⊎_elim, add-zero, Result, Ok, Err, ◌||◌, ◌&&◌, nat_le}
use Rattle.mx_asm.proofs.Words.{common_steps, nat_tests, tetra_from_bytes, tetra_byte, placed, from_place, cond_both, byte_at, xor_lt, octa_to_bytes, byte_of, byte_in, with_tetra, in_half, bytes_with_tetra, AreBytes, eight-bytes, octa_from, octa_in, list_any, cases_eq, cases_lt, list_any-append, Image, Meaningless, PagesFull, with_page, paged, pages_of, pages_below}
use Rattle.mx_word.proofs.JoinedTetra.{byte_in-joined}
use Rattle.std.proofs.lemmas.Bool.{or_left as or-more}

-- ---- a tetra that is joined to memory, as four bytes that are placed

-- the four bytes of a tetra, by their places
abbrev pub pick : ℕ → ℕ → ℕ → ℕ → ℕ → ℕ
pick a b c d zero = a
pick a b c d (suc zero) = b
pick a b c d (suc (suc zero)) = c
pick a b c d (suc (suc (suc n))) = d

-- a tetra's byte at an address in it, and at an address outside it
tetra-inside : (a b c d x q : ℕ) → a < 256 → b < 256 → c < 256 → d < 256 → q / 4 ≡ x / 4 →
    tetra_byte x (tetra_from_bytes (a ∷ b ∷ c ∷ d ∷ [])) q ≡ pick a b c d (q % 4)
tetra-inside a b c d x q la lb lc ld e = grind (arith, nat_tests)

-- a test of an address
first-test : (t : Bool) (x r : ℕ) → t ≡ false → cond t (bit_xor x r) r ≡ r
first-test t x r e = rw e refl

abbrev pub four : ℕ → ℕ → ℕ → ℕ → ℕ → List (ℕ × ℕ)
four x a b c d = from_place x (a ∷ b ∷ c ∷ d ∷ [])

-- at an address outside, placements one after another
next-placed : (x y q : ℕ) (ps : List (ℕ × ℕ)) → (q ≡ x → ⊥) → placed ((x, y) ∷ ps) q ≡ placed ps q
next-placed x y q ps ne = first-test (q == x) y (placed ps q) (grind (arith, nat_tests))

-- bytes from a place on lie nowhere below it, and nowhere at their end or above
below-none : (x q : ℕ) (bytes : List ℕ) → q < x → placed (from_place x bytes) q ≡ 0
below-none x q [] l = refl
below-none x q (b ∷ bs) l = next-placed x b q (from_place (x + 1) bs) (λ e. omega arith) ∙ below-none (x + 1) q bs (omega arith)

above-none : (x q : ℕ) (bytes : List ℕ) → x + length bytes < q + 1 → placed (from_place x bytes) q ≡ 0
above-none x q [] l = refl
above-none x q (b ∷ bs) l = next-placed x b q (from_place (x + 1) bs) (λ e. omega arith) ∙ above-none (x + 1) q bs (omega arith)

four-at : (x a b c d i q : ℕ) → i < 4 → q ≡ x + i → placed (four x a b c d) q ≡ pick a b c d i
four-at x a b c d i q h1 h2 = grind (arith, common_steps, nat_tests)

-- a tetra has at each address what its bytes have that are placed
pub tetra-placed : (x a b c d q : ℕ) → x % 4 ≡ 0 → a < 256 → b < 256 → c < 256 → d < 256 →
    tetra_byte x (tetra_from_bytes (a ∷ b ∷ c ∷ d ∷ [])) q ≡ placed (four x a b c d) q
tetra-placed x a b c d q m la lb lc ld = search (rules, tetra-inside, four-at, below-none, above-none)

-- ---- memory octa by octa, as the bytes at each address tell it

-- a byte at each address
abbrev pub HaveBytes : (ℕ → ℕ) → Type 0
HaveBytes bytes = (q : ℕ) → bytes q < 2 ^ 8

-- the byte of an octa at a place
byte-of : (x a i : ℕ) → i < 8 → a % 8 ≡ i → byte_of x a ≡ byte_at (7 - i) x
byte-of x a (suc (suc (suc (suc (suc (suc (suc zero))))))) l e = ap (λ i. x / 2 ^ (8 * (7 - i)) % 256) e ∙ (let whole : x / 1 % 256 ≡ x % 256 = omega arith in whole)
byte-of x a (suc (suc (suc (suc (suc (suc (suc (suc i)))))))) l e = absurd (omega arith)
byte-of x a i l e = rw e refl

-- the byte of an octa by its place
place-of : (x i : ℕ) → i < 8 → byte_at (7 - i) x ≡ get_or (octa_to_bytes x) i 0
place-of x i h = grind (arith, nat_tests)

-- one octa at all addresses of eight bytes
abbrev pub IsEven : (ℕ → ℕ) → Type 0
IsEven octas = (q r : ℕ) → q / 8 ≡ r / 8 → octas q ≡ octas r

pub octas-of-bytes : (octas : ℕ → ℕ) (q : ℕ) → IsEven octas → octas q < 2 ^ 64 → octa_in (byte_in octas) q ≡ octas q
octas-of-bytes octas q even l = grind (arith, nat_tests)

-- the bytes of the octas that bytes tell are these bytes
eight : (ℕ → ℕ) → ℕ → List ℕ
eight f a = f a ∷ f (a + 1) ∷ f (a + 2) ∷ f (a + 3) ∷ f (a + 4) ∷ f (a + 5) ∷ f (a + 6) ∷ f (a + 7) ∷ []

eight-are : (f : ℕ → ℕ) (a : ℕ) → HaveBytes f → AreBytes (eight f a)
unfolding eight
eight-are f a h = (h a, (h (a + 1), (h (a + 2), (h (a + 3), (h (a + 4), (h (a + 5), (h (a + 6), (h (a + 7), tt))))))))

eight-at : (f : ℕ → ℕ) (a q i : ℕ) → i < 8 → q ≡ a + i → get_or (eight f a) i 0 ≡ f q
unfolding eight
eight-at f a q i h1 h2 = grind (arith, nat_tests)

eight-back : (f : ℕ → ℕ) (a : ℕ) → HaveBytes f → octa_to_bytes (octa_from f a) ≡ eight f a
unfolding eight
eight-back f a h = eight-bytes (f a) (f (a + 1)) (f (a + 2)) (f (a + 3)) (f (a + 4)) (f (a + 5)) (f (a + 6)) (f (a + 7)) (eight-are f a h)

bytes-of-octas : (f : ℕ → ℕ) (q : ℕ) → HaveBytes f → byte_in (octa_in f) q ≡ f q
bytes-of-octas f q h = grind (arith, nat_tests, byte-of, place-of, eight-back, eight-at)

octa-fits : (f : ℕ → ℕ) (q : ℕ) → HaveBytes f → octa_in f q < 2 ^ 64
unfolding eight
octa-fits f q h = grind (arith, nat_tests)

-- ---- a tetra that is joined

half-fits : (a t : ℕ) → t < 2 ^ 32 → in_half a t < 2 ^ 64
half-fits a t l = cond_both (nat_lt (a % 8) 4) _ _ (λ x. x < 2 ^ 64) (λ _. omega arith) (λ _. omega arith)

joined-even : (f : ℕ → ℕ) (a t : ℕ) → IsEven (with_tetra (octa_in f) a t)
joined-even f a t = λ q r e. ap (λ n. cond (n == a / 8) (bit_xor (octa_from f (n * 8)) (in_half a t)) (octa_from f (n * 8))) e

joined-fits : (f : ℕ → ℕ) (a t q : ℕ) → HaveBytes f → t < 2 ^ 32 → with_tetra (octa_in f) a t q < 2 ^ 64
joined-fits f a t q h l = cond_both (q / 8 == a / 8) _ _ (λ it. it < 2 ^ 64) (λ _. xor_lt 64 (octa_in f q) (in_half a t) (octa-fits f q h) (half-fits a t l)) (λ _. octa-fits f q h)

pub same-numbers : (f g : ℕ → ℕ) → ((q : ℕ) → f q ≡ g q) → f ≡ g
same-numbers f g h = λ i q. h q i

-- memory with a tetra joined is told by the bytes with the tetra's bytes joined
pub octas-joined : (f : ℕ → ℕ) (a t : ℕ) → HaveBytes f → t < 2 ^ 32 → with_tetra (octa_in f) a t ≡ octa_in (bytes_with_tetra f a t)
octas-joined f a t h l =
    let g : ℕ → ℕ = with_tetra (octa_in f) a t in
    let bytes : byte_in g ≡ bytes_with_tetra f a t = byte_in-joined (octa_in f) a t l ∙ ap (λ (b : ℕ → ℕ). bytes_with_tetra b a t) (same-numbers _ f (λ q. bytes-of-octas f q h)) in
    sym (same-numbers (octa_in (byte_in g)) g (λ q. octas-of-bytes g q (joined-even f a t) (joined-fits f a t q h l))) ∙ ap octa_in bytes

-- ---- how many pages there are, and one page more

pub same-pages : (f g : ℕ → Bool) → ((p : ℕ) → f p ≡ g p) → f ≡ g
same-pages f g h = λ i p. h p i

-- pages that are there stay where there are more
abbrev pub AreMore : (ℕ → Bool) → (ℕ → Bool) → Type 0
AreMore more pages = (p : ℕ) → pages p ≡ true → more p ≡ true

one-count : (s t : Bool) → (s ≡ true → t ≡ true) → cond s 1 0 ≤ cond t 1 0
one-count s t h = grind (arith, nat_tests)

pub more-count : (n : ℕ) (more pages : ℕ → Bool) → AreMore more pages → pages_below n pages ≤ pages_below n more
unfolding pages_below
more-count zero more pages h = omega arith
more-count (suc n) more pages h = omega (arith, one-count (pages n) (more n) (h n), more-count n more pages h)

pub append-pages : (ps qs : List (ℕ × ℕ)) (p : ℕ) → pages_of (ps ++ qs) p ≡ (pages_of ps p || pages_of qs p)
append-pages ps qs p = list_any-append (λ q. q.0 / 4096 == p) ps qs

pub append-more : (ps qs : List (ℕ × ℕ)) → AreMore (pages_of (ps ++ qs)) (pages_of ps)
append-more ps qs = λ p h. append-pages ps qs p ∙ or-more (pages_of ps p) (pages_of qs p) h

-- a page with a number that is not below n
same-count : (n : ℕ) (pages : ℕ → Bool) (page : ℕ) → n ≤ page → pages_below n (with_page pages page) ≡ pages_below n pages
unfolding pages_below
same-count zero pages page l = refl
same-count (suc n) pages page l = search (rules, same-count n pages page (omega arith))

-- a page more
one-more : (n : ℕ) (pages : ℕ → Bool) (page : ℕ) → page < n → pages page ≡ false → pages_below n (with_page pages page) ≡ pages_below n pages + 1
unfolding pages_below
one-more zero pages page l h = absurd (omega arith)
one-more (suc n) pages page l h = ⊎_elim (λ e. this e) (λ ne. other ne (one-more n pages page (omega arith) h)) (cases_eq n page)
  where
    this : n ≡ page → cond (with_page pages page n) 1 0 + pages_below n (with_page pages page) ≡ cond (pages n) 1 0 + pages_below n pages + 1
    this e =
        let same : (n == page) ≡ true = grind (arith, nat_tests) in
        let none : pages n ≡ false = ap pages e ∙ h in
        rw (same, none, same-count n pages page (omega arith)) (omega arith)

    other : (n ≡ page → ⊥) → pages_below n (with_page pages page) ≡ pages_below n pages + 1 → cond (with_page pages page n) 1 0 + pages_below n (with_page pages page) ≡ cond (pages n) 1 0 + pages_below n pages + 1
    other ne more =
        let apart : (n == page) ≡ false = grind (arith, nat_tests) in
        rw (apart, more) (omega arith)

-- a page that is there already
page-stays : (pages : ℕ → Bool) (page : ℕ) → pages page ≡ true → with_page pages page ≡ pages
page-stays pages page h = grind (arith, nat_tests)

-- what there is, unless there are too many pages
abbrev pub unless_full : {A : Type 0} → ℕ → A → Result A Meaningless
unless_full count x = cond (nat_le count 65536) (Ok x) (Err PagesFull)

-- an image with a page more, whose pages are counted below a number
pub paged-is : (n : ℕ) (m : Image) (page : ℕ) → page < n → m.page_count ≡ pages_below n m.pages → m.page_count ≤ 65536 →
    paged m page ≡ unless_full (pages_below n (with_page m.pages page)) (record m { pages = with_page m.pages page; page_count = pages_below n (with_page m.pages page) })
paged-is n m page l counted few = search (rules, page-stays, one-more)

-- ---- the pages of bytes one after another

last-page : (u p : ℕ) → (u == p || false) ≡ (nat_le u p && nat_le p u)
last-page u p = grind (arith, nat_tests)

-- from the page of the first byte to that of the last
pub pages-run : (a x : ℕ) (xs : List ℕ) (p : ℕ) → pages_of (from_place a (x ∷ xs)) p ≡ (nat_le (a / 4096) p && nat_le p ((a + length xs) / 4096))
pages-run a x [] p = rw add-zero (last-page (a / 4096) p)
pages-run a x (y ∷ ys) p = grind (arith, nat_tests, pages-run (a + 1) y ys p)

-- the same for tetras
pub tetras-run : (a x : ℕ) (xs : List ℕ) (p : ℕ) → list_any (λ (q : ℕ × ℕ). q.0 / 4 == p) (from_place a (x ∷ xs)) ≡ (nat_le (a / 4) p && nat_le p ((a + length xs) / 4))
tetras-run a x [] p = rw add-zero (last-page (a / 4) p)
tetras-run a x (y ∷ ys) p = grind (arith, nat_tests, tetras-run (a + 1) y ys p)

-- pages hang on the first and the last byte only
last-byte : (a n e : ℕ) → a + suc n ≡ e + 1 → a + n ≡ e
last-byte a n e h = omega arith

pub pages-alike : (a b e f : ℕ) (xs ys : List ℕ) (p : ℕ) → 0 < length xs → 0 < length ys → a + length xs ≡ e + 1 → b + length ys ≡ f + 1 → a / 4096 ≡ b / 4096 → e / 4096 ≡ f / 4096 →
    pages_of (from_place a xs) p ≡ pages_of (from_place b ys) p
pages-alike a b e f (x ∷ xs) (y ∷ ys) p l k u v g h =
    cc (pages-run a x xs p, last-byte a (length xs) e u, pages-run b y ys p, last-byte b (length ys) f v)
pages-alike a b e f xs ys p l k u v g h = absurd (omega arith)

-- where this many pages in a row are there, at least as many are below n
pub many-pages : (n u k : ℕ) (pages : ℕ → Bool) → u + k ≤ n → ((p : ℕ) → u ≤ p → p < u + k → pages p ≡ true) → k ≤ pages_below n pages
unfolding pages_below
many-pages (suc n) u (suc k) pages l h = grind (arith, cases_lt, many-pages n u (suc k) pages, many-pages n u k pages)
many-pages n u k pages l h = omega arith
