-- The tetras of a listing are the image.
use Rattle.std.proofs.Common.{◌≡◌, ℕ, ◌+◌, ◌*◌, ◌/◌, ◌%◌, ◌^◌, ◌<◌, ◌≤◌, List, [], ◌∷◌, ◌++◌, map, length, Bool, true, false, cond, nat_lt, nat_le, ◌==◌, ◌||◌, ◌&&◌, Some, None, Result, Ok, Err, refl, sym, ap, subst, ◌∙◌, arith, bit_xor}
use Rattle.std.proofs.lemmas.Nat.{xor_mod, xor_shr}
use Rattle.std.specs.Int.Bits.{xor_zero_r}
use Rattle.std.proofs.lemmas.Bool.Decides.{nat_tests}
use Rattle.std.specs.List.{AllByRecursion}
use Rattle.mx_word.specs.Ranges.{AreBytes}
use Rattle.mx_word.specs.declared.symbols.Symbol.{Symbol}
use Rattle.mx_word.proofs.Comparisons.{same-number, other-number}
use Rattle.mx_mem.specs.Memory.{in_half, tetra_of, with_tetra}
use Rattle.mx_mmo.specs.Image.{Image}
use Rattle.mx_mmo.specs.Meaning.{Loading, Meaningless, after_load, far_place, image_in, image_with_tetra, is_below, join, join_octa, lined, meaning, nothing, paged, take_item, take_items, tetras_before, then_join, with_image, with_page}
use Rattle.mx_mmo.specs.Meaning.Meaningless.{BadPlace, NoFile, PagesFull}
use Rattle.mx_mmo.specs.Replies.{limit, tail_of}
use Rattle.mx_mmo.specs.Valid.{Fits}
use Rattle.mx_mmo.specs.Whole.{Left, object_after, object_of, with_tail}
unfoldable use Rattle.mx_mmo.specs.Whole.{items_of}
use Rattle.mx_mmo.specs.declared.due.Phase.TheVariants.{Start}
use Rattle.mx_mmo.specs.declared.faults.MmoFault.{MmoFault}
use Rattle.mx_mmo.specs.declared.faults.MmoFault.TheVariants.{TooLong}
use Rattle.mx_mmo.specs.declared.items.Item.{Item}
use Rattle.mx_mmo.specs.declared.items.Item.TheVariants.{Load, Loc, Skip, FixOcta, FixNear, FixFar, File, Line, Spec, Pre, Post, Stab}
use Rattle.mx_mmo.specs.declared.items.Object.{Object}
use Rattle.mx_mmo.specs.declared.items.Tail.{Tail}
use Rattle.mx_mmo.proofs.Sound.{object-sound}
use Rattle.mx_load.specs.Objects.{object_loaded}
use Rattle.mx_load.proofs.Apart.{loaded-means}
use Rattle.mx_type.proofs.Lambdas.{meaning-moved}
use Rattle.mx_type.specs.Lambda.{lambda_after}
use Rattle.mx_type.specs.Lines.{tetra_address}
use Rattle.mx_object.specs.Addresses.{addresses_of, has, items_in, joined, joined_by, octa_tetras}
use Rattle.mx_object.specs.Listed.{shown_at}
use Rattle.mx_object.specs.Listing.{listed_at, listed_of, tetra_in, tetras_at}
use Rattle.mx_object.proofs.AddressLaws.{all-listed, has-append, neither}

-- ---- a tetra that is joined elsewhere

-- memory gives at each address the octa that holds it
abbrev IsByOctas : (ℕ → ℕ) → Type 0
IsByOctas f = (a b : ℕ) → a / 8 ≡ b / 8 → f a ≡ f b

joined-octas : (f : ℕ → ℕ) (b t : ℕ) → IsByOctas f → IsByOctas (with_tetra f b t)
joined-octas f b t h p q e = λ i. cond (e i == b / 8) (bit_xor (h p q e i) (in_half b t)) (h p q e i)

other-half : (x t a b : ℕ) → t < 2 ^ 32 → a / 8 ≡ b / 8 → (b / 4 ≡ a / 4 → ⊥) → tetra_of (bit_xor x (in_half b t)) a ≡ tetra_of x a
other-half x t a b l e ne = by (nat_lt (a % 8) 4) (nat_lt (b % 8) 4) refl refl
  where
    same-high : a % 8 < 4 → b % 8 < 4 → b / 4 ≡ a / 4
    same-high p q = omega (arith, p, q, e)

    same-low : 4 ≤ a % 8 → 4 ≤ b % 8 → b / 4 ≡ a / 4
    same-low p q = omega (arith, p, q, e)

    by : (p q : Bool) → nat_lt (a % 8) 4 ≡ p → nat_lt (b % 8) 4 ≡ q →
        cond p (bit_xor x (cond q (t * 2 ^ 32) t) / 2 ^ 32) (bit_xor x (cond q (t * 2 ^ 32) t) % 2 ^ 32) ≡ cond p (x / 2 ^ 32) (x % 2 ^ 32)
    by true true d f = absurd (ne (same-high (grind (arith, nat_tests)) (grind (arith, nat_tests))))
    by true false d f =
        let none : t / 2 ^ 32 ≡ 0 = omega (arith, l) in
        xor_shr x t 32 ∙ ap (λ n. bit_xor (x / 2 ^ 32) n) none ∙ xor_zero_r (x / 2 ^ 32)
    by false true d f =
        let none : t * 2 ^ 32 % 2 ^ 32 ≡ 0 = omega arith in
        xor_mod x (t * 2 ^ 32) 32 ∙ ap (λ n. bit_xor (x % 2 ^ 32) n) none ∙ xor_zero_r (x % 2 ^ 32)
    by false false d f = absurd (ne (same-low (grind (arith, nat_tests)) (grind (arith, nat_tests))))

elsewhere : (f : ℕ → ℕ) (b t a : ℕ) → t < 2 ^ 32 → (tetra_address b == tetra_address a) ≡ false → tetra_of (with_tetra f b t a) a ≡ tetra_of (f a) a
elsewhere f b t a l apart = by (a / 8 == b / 8) refl
  where
    by : (p : Bool) → (a / 8 == b / 8) ≡ p → tetra_of (cond p (bit_xor (f a) (in_half b t)) (f a)) a ≡ tetra_of (f a) a
    by true e = other-half (f a) t a b l (same-number (a / 8) (b / 8) e) (λ same. other-number (tetra_address b) (tetra_address a) apart (ap (λ n. 4 * n) same))
    by false e = refl

-- what a change of memory leaves as it was: octas, and a tetra that is out of it
record Stays (out : Type 0) (a : ℕ) (f g : ℕ → ℕ) : Type 0 where
  tetra : out → tetra_of (g a) a ≡ tetra_of (f a) a
  octas : IsByOctas f → IsByOctas g

-- where there is something, memory is this
abbrev MemoryIs : (ℕ → ℕ) → Result Image Meaningless → Type 0
MemoryIs f (Ok m) = m.memory ≡ f
MemoryIs f (Err e) = Unit {0}

paged-memory : (m : Image) (page : ℕ) → MemoryIs m.memory (paged m page)
paged-memory m page = by (m.pages page) (nat_le 65536 m.page_count)
  where
    by : (there full : Bool) → MemoryIs m.memory (cond there (Ok m) (cond full (Err PagesFull) (Ok (record m { pages = with_page m.pages page; page_count = m.page_count + 1 }))))
    by true full = refl
    by false true = tt
    by false false = refl

only : (b : Bool) → (b || false) ≡ false → b ≡ false
only true h = h
only false h = refl

stopped : (items : List Item) (e : Meaningless) → take_items items (Err e) ≡ Err e
stopped [] e = refl
stopped (item ∷ items) e = refl

next-lambda : (lambda : ℕ) (item : Item) → Fits item → lambda < 2 ^ 64 → lambda_after lambda item < 2 ^ 64
next-lambda lambda (Load t) fits l = omega arith
next-lambda lambda (Loc a) fits l = fits
next-lambda lambda (Skip n) fits l = omega arith
next-lambda lambda item fits l = l

module _ (out : Type 0) (a : ℕ) where
  same-stays : (f g : ℕ → ℕ) → g ≡ f → Stays out a f g
  same-stays f g e = record { tetra = λ o. ap (λ (h : ℕ → ℕ). tetra_of (h a) a) e; octas = λ is. subst IsByOctas (sym e) is }

  both-stay : (f g h : ℕ → ℕ) → Stays out a f g → Stays out a g h → Stays out a f h
  both-stay f g h s t = record { tetra = λ o. t.tetra o ∙ s.tetra o; octas = λ is. t.octas (s.octas is) }

  -- where there is something, it left a tetra as it was
  abbrev StaysIn : (ℕ → ℕ) → Result Image Meaningless → Type 0
  StaysIn f (Ok m) = Stays out a f m.memory
  StaysIn f (Err e) = Unit {0}

  -- ---- one join

  join-stays : (m : Image) (b t : ℕ) → t < 2 ^ 32 → (out → (tetra_address b == tetra_address a) ≡ false) → StaysIn m.memory (join m b t)
  join-stays m b t l apart = by (is_below b) (paged m (b / 4096)) (paged-memory m (b / 4096))
    where
      by : (below : Bool) (r : Result Image Meaningless) → MemoryIs m.memory r → StaysIn m.memory (cond below (image_with_tetra b t r) (Err BadPlace))
      by true (Ok k) is =
          both-stay m.memory k.memory (with_tetra k.memory b t) (same-stays m.memory k.memory is)
          (record { tetra = λ o. elsewhere k.memory b t a l (apart o); octas = joined-octas k.memory b t })
      by true (Err e) is = tt
      by false r is = tt

  then-stays : (f : ℕ → ℕ) (r : Result Image Meaningless) (b t : ℕ) → t < 2 ^ 32 → (out → (tetra_address b == tetra_address a) ≡ false) → StaysIn f r → StaysIn f (then_join b t r)
  then-stays f (Err e) b t l apart s = tt
  then-stays f (Ok m) b t l apart s = by (join m b t) (join-stays m b t l apart)
    where
      by : (r : Result Image Meaningless) → StaysIn m.memory r → StaysIn f r
      by (Ok k) next = both-stay f m.memory k.memory s next
      by (Err e) next = tt

  octa-stays : (m : Image) (b x : ℕ) → x < 2 ^ 64 → (out → has (octa_tetras b) (tetra_address a) ≡ false) → StaysIn m.memory (join_octa m b x)
  unfolding has
  octa-stays m b x l apart =
      by (is_below (4 * (b / 4)) && is_below ((4 * (b / 4) + 4) % 2 ^ 64))
      (then-stays m.memory (join m (4 * (b / 4)) (x / 2 ^ 32)) ((4 * (b / 4) + 4) % 2 ^ 64) (x % 2 ^ 32) (omega arith) (λ o. second (apart o))
      (join-stays m (4 * (b / 4)) (x / 2 ^ 32) (omega (arith, l)) (λ o. first (apart o))))
    where
      by : (below : Bool) → StaysIn m.memory (then_join ((4 * (b / 4) + 4) % 2 ^ 64) (x % 2 ^ 32) (join m (4 * (b / 4)) (x / 2 ^ 32))) →
          StaysIn m.memory (cond below (then_join ((4 * (b / 4) + 4) % 2 ^ 64) (x % 2 ^ 32) (join m (4 * (b / 4)) (x / 2 ^ 32))) (Err BadPlace))
      by true s = s
      by false s = tt

      first : (tetra_address b == tetra_address a || ((tetra_address b + 4) % 2 ^ 64 == tetra_address a || false)) ≡ false →
          (tetra_address (4 * (b / 4)) == tetra_address a) ≡ false
      first h = grind (arith, nat_tests)

      second : (tetra_address b == tetra_address a || ((tetra_address b + 4) % 2 ^ 64 == tetra_address a || false)) ≡ false →
          (tetra_address ((4 * (b / 4) + 4) % 2 ^ 64) == tetra_address a) ≡ false
      second h = grind (arith, nat_tests)

  -- ---- one item

  -- where there is something after an item, it left a tetra as it was
  abbrev KeepsTetra : (ℕ → ℕ) → Result Loading Meaningless → Type 0
  KeepsTetra f (Ok s) = Stays out a f s.image.memory
  KeepsTetra f (Err e) = Unit {0}

  loaded-keeps : (f : ℕ → ℕ) (s : Loading) (r : Result Image Meaningless) → StaysIn f r → KeepsTetra f (after_load s r)
  loaded-keeps f s (Err e) h = tt
  loaded-keeps f s (Ok m) h = by (s.line == 0)
    where
      by : (b : Bool) → Stays out a f (cond b m (record m { line_of = lined m.line_of s.lambda s.line })).memory
      by true = h
      by false = h

  fixed-keeps : (f : ℕ → ℕ) (s : Loading) (r : Result Image Meaningless) → StaysIn f r → KeepsTetra f (with_image s r)
  fixed-keeps f s (Err e) h = tt
  fixed-keeps f s (Ok m) h = h

  itself : (f : ℕ → ℕ) → Stays out a f f
  itself f = same-stays f f refl

  chosen-keeps : (s t : Loading) (b : Bool) (e : Meaningless) → t.image.memory ≡ s.image.memory → KeepsTetra s.image.memory (cond b (Ok t) (Err e))
  chosen-keeps s t true e is = same-stays s.image.memory t.image.memory is
  chosen-keeps s t false e is = tt

  item-keeps : (s : Loading) (item : Item) → Fits item → s.lambda < 2 ^ 64 → (out → has (joined_by s.lambda item) (tetra_address a) ≡ false) → KeepsTetra s.image.memory (take_item s item)
  unfolding has
  item-keeps s (Load t) fits l apart =
      loaded-keeps s.image.memory s (join s.image s.lambda t) (join-stays s.image s.lambda t fits (λ o. only (tetra_address s.lambda == tetra_address a) (apart o)))
  item-keeps s (Loc b) fits l apart = itself s.image.memory
  item-keeps s (Skip n) fits l apart = itself s.image.memory
  item-keeps s (FixOcta b) fits l apart = fixed-keeps s.image.memory s (join_octa s.image b s.lambda) (octa-stays s.image b s.lambda l apart)
  item-keeps s (FixNear n) fits l apart =
      fixed-keeps s.image.memory s (join s.image (tetras_before n s.lambda) n)
      (join-stays s.image (tetras_before n s.lambda) n (omega (arith, fits)) (λ o. only (tetra_address (tetras_before n s.lambda) == tetra_address a) (apart o)))
  item-keeps s (FixFar bits t) fits l apart =
      fixed-keeps s.image.memory s (join s.image (far_place s.lambda bits t) t)
      (join-stays s.image (far_place s.lambda bits t) t (omega (arith, fits.1)) (λ o. only (tetra_address (far_place s.lambda bits t) == tetra_address a) (apart o)))
  item-keeps s (File number (Some name)) fits l apart = itself s.image.memory
  item-keeps s (File number None) fits l apart = chosen-keeps s (record s { selected = true }) (s.named number) NoFile refl
  item-keeps s (Line n) fits l apart = chosen-keeps s (record s { line = n }) s.selected NoFile refl
  item-keeps s (Spec n) fits l apart = itself s.image.memory
  item-keeps s (Pre tetras) fits l apart = itself s.image.memory
  item-keeps s (Post g values) fits l apart = itself s.image.memory
  item-keeps s Stab fits l apart = itself s.image.memory

  -- ---- all items

  items-keep : (items : List Item) (s t : Loading) → AllByRecursion Fits items → s.lambda < 2 ^ 64 → take_items items (Ok s) ≡ Ok t →
      (out → has (joined s.lambda items) (tetra_address a) ≡ false) → Stays out a s.image.memory t.image.memory
  unfolding joined
  items-keep [] s t fits l e apart = let same : s ≡ t = cc in subst (λ (u : Loading). Stays out a s.image.memory u.image.memory) same (itself s.image.memory)
  items-keep (item ∷ items) s t fits l e apart =
      by (take_item s item) refl e (item-keeps s item fits.0 l (λ o. (parts o).0))
      (λ u f. items-keep items u t fits.1 f)
    where
      parts : out → (has (joined_by s.lambda item) (tetra_address a) ≡ false) × (has (joined (lambda_after s.lambda item) items) (tetra_address a) ≡ false)
      parts o =
          neither (has (joined_by s.lambda item) (tetra_address a)) (has (joined (lambda_after s.lambda item) items) (tetra_address a))
          (sym (has-append (joined_by s.lambda item) (joined (lambda_after s.lambda item) items) (tetra_address a)) ∙ apart o)

      by : (r : Result Loading Meaningless) → take_item s item ≡ r → take_items items r ≡ Ok t → KeepsTetra s.image.memory r →
          ((u : Loading) → u.lambda < 2 ^ 64 → take_items items (Ok u) ≡ Ok t → (out → has (joined u.lambda items) (tetra_address a) ≡ false) → Stays out a u.image.memory t.image.memory) →
          Stays out a s.image.memory t.image.memory
      by (Err f) is e h more = let no = sym (stopped items f) ∙ e in absurd (cc)
      by (Ok u) is e h more =
          let moved : u.lambda ≡ lambda_after s.lambda item = meaning-moved s u item is in
          both-stay s.image.memory u.image.memory t.image.memory h
          (more u (subst (λ n. n < 2 ^ 64) (sym moved) (next-lambda s.lambda item fits.0 l)) e
          (λ o. ap (λ n. has (joined n items) (tetra_address a)) moved ∙ (parts o).1))

-- ---- what is listed

-- tetras that each show what an image has at their address show the tetra that is there
shown-there : (m : Image) (symbols : List Symbol) (addresses : List ℕ) (a : ℕ) → IsByOctas m.memory → a < 2 ^ 63 → has addresses (tetra_address a) ≡ true →
    shown_at (tetras_at m symbols addresses) a ≡ tetra_of (m.memory a) a
unfolding has shown_at
shown-there m symbols [] a octas low there = absurd (cc)
shown-there m symbols (b ∷ addresses) a octas low there = by (b == tetra_address a) refl there (shown-there m symbols addresses a octas low)
  where
    tetra-here : tetra_of (m.memory (tetra_address a)) (tetra_address a) ≡ tetra_of (m.memory a) a
    tetra-here =
        let half : nat_lt (tetra_address a % 8) 4 ≡ nat_lt (a % 8) 4 = grind (arith, nat_tests) in
        let octa : m.memory (tetra_address a) ≡ m.memory a = octas (tetra_address a) a (omega arith) in
        λ i. cond (half i) (octa i / 2 ^ 32) (octa i % 2 ^ 32)

    below : nat_lt (tetra_address a) (2 ^ 63) ≡ true
    below = grind (arith, nat_tests)

    by : (t : Bool) → (b == tetra_address a) ≡ t → (t || has addresses (tetra_address a)) ≡ true →
        (has addresses (tetra_address a) ≡ true → shown_at (tetras_at m symbols addresses) a ≡ tetra_of (m.memory a) a) →
        cond t (tetra_in m b) (shown_at (tetras_at m symbols addresses) a) ≡ tetra_of (m.memory a) a
    by true e is rest =
        ap (tetra_in m) (same-number b (tetra_address a) e)
        ∙ ap (λ l. cond l (tetra_of (m.memory (tetra_address a)) (tetra_address a)) 0) below ∙ tetra-here
    by false e is rest = rest is

shown-nowhere : (m : Image) (symbols : List Symbol) (addresses : List ℕ) (a : ℕ) → has addresses (tetra_address a) ≡ false → shown_at (tetras_at m symbols addresses) a ≡ 0
unfolding has shown_at
shown-nowhere m symbols [] a none = refl
shown-nowhere m symbols (b ∷ addresses) a none =
    let parts = neither (b == tetra_address a) (has addresses (tetra_address a)) none in
    ap (λ t. cond t (tetra_in m b) (shown_at (tetras_at m symbols addresses) a)) parts.0 ∙ shown-nowhere m symbols addresses a parts.1

-- ---- the items of an object

tail-items : (items : List Item) (t : Result Tail MmoFault) (object : Object) → with_tail items t ≡ Ok object → items ≡ object.items
tail-items items (Ok tail) object e =
    let made : Object = record { items = items; tail = tail } in
    let same : made ≡ object = cc in
    ap (λ (o : Object). o.items) same
tail-items items (Err fault) object e = absurd (cc)

after-items : (items : List Item) (r : Result Left MmoFault) (object : Object) → object_after items r ≡ Ok object → items ≡ object.items
after-items items (Ok left) object e = tail-items items (tail_of left.phase left.at left.rest) object e
after-items items (Err fault) object e = absurd (cc)

object-items : (bytes : List ℕ) (object : Object) → object_of bytes ≡ Ok object → items_in bytes ≡ object.items
object-items bytes object e = by (nat_lt limit (length bytes)) e
  where
    by : (b : Bool) → cond b (Err (TooLong limit)) (object_after (items_in bytes) (items_of Start 0 bytes).1) ≡ Ok object → items_in bytes ≡ object.items
    by true e = absurd (cc)
    by false e = after-items (items_in bytes) (items_of Start 0 bytes).1 object e

-- what the items of an object leave at an address
record Left-at (a : ℕ) (items : List Item) (m : Image) : Type 0 where
  none : has (joined 0 items) (tetra_address a) ≡ false → tetra_of (m.memory a) a ≡ 0
  octas : IsByOctas m.memory

zero-tetra : (a : ℕ) → tetra_of 0 a ≡ 0
zero-tetra a = by (nat_lt (a % 8) 4)
  where
    by : (b : Bool) → cond b (0 / 2 ^ 32) (0 % 2 ^ 32) ≡ 0
    by true = omega arith
    by false = omega arith

image-left : (items : List Item) (m : Image) (a : ℕ) → AllByRecursion Fits items → meaning items ≡ Ok m → Left-at a items m
image-left items m a fits e = by (take_items items (Ok nothing)) refl e
  where
    by : (r : Result Loading Meaningless) → take_items items (Ok nothing) ≡ r → image_in r ≡ Ok m → Left-at a items m
    by (Err f) is e = absurd (cc)
    by (Ok t) is e =
        let same : t.image ≡ m = cc in
        let kept = items-keep (has (joined 0 items) (tetra_address a) ≡ false) a items nothing t fits (omega arith) is (λ o. o) in
        subst (λ (k : Image). Left-at a items k) same (record {
          none = λ o. kept.tetra o ∙ zero-tetra a;
          octas = kept.octas (λ p q e. refl);
        })

-- ---- the law

pub listing-is-image : (bytes : List ℕ) (m : Image) (symbols : List Symbol) (a : ℕ) → AreBytes bytes → object_loaded bytes ≡ Ok (m, symbols) → a < 2 ^ 63 →
    tetra_of (m.memory a) a ≡ shown_at (listed_of m symbols bytes).tetras a
listing-is-image bytes m symbols a are loaded low =
    let means = loaded-means bytes m symbols loaded in
    let object : Object = means.0 in
    let items : items_in bytes ≡ object.items = object-items bytes object means.1 in
    let left : Left-at a (items_in bytes) m = subst (λ is. Left-at a is m) (sym items) (image-left object.items m a (object-sound bytes object are means.1).spelled.valid.fits means.2) in
    by (has (addresses_of (items_in bytes)) (tetra_address a)) refl left
  where
    by : (b : Bool) → has (addresses_of (items_in bytes)) (tetra_address a) ≡ b → Left-at a (items_in bytes) m →
        tetra_of (m.memory a) a ≡ shown_at (tetras_at m symbols (addresses_of (items_in bytes))) a
    by true e left = sym (shown-there m symbols (addresses_of (items_in bytes)) a left.octas low e)
    by false e left =
        left.none (sym (all-listed (items_in bytes) (tetra_address a)) ∙ e)
        ∙ sym (shown-nowhere m symbols (addresses_of (items_in bytes)) a e)

pub ruleset image = (listing-is-image)
