-- What is read is there: an item is spelled by the bytes that it takes, and a fault is that of a tetra of the table.
use Rattle.std.proofs.Common.{◌≡◌, ◌≢◌, ℕ, zero, suc, ◌+◌, ◌-◌, ◌*◌, ◌/◌, ◌%◌, ◌^◌, ◌<◌, ◌≤◌, ◌⊎◌, length, List, [], ◌∷◌, ◌++◌, take, drop, arith, refl, sym, ◌∙◌, ap, subst, Ok, Err, Some, None, Bool, true, false, cond, length-take, take-append-drop, replicate, Option, nat_lt, nat_le, ◌==◌, ◌&&◌, ◌||◌, IfOk, IfSome, flat_map, rules}
use Rattle.mx_mmo.proofs.Words.{both_ways, nat_tests, TetraFault, tetra_to_bytes, octa_to_bytes, tetra_from_bytes, lop, wide_lop, AreBytes, AreTetras, AreOctas, Fits, Spells, SpellsAddress, EndsSpec, skipped, DueOf, Due, first_item, due_item, lop_item, lop_of, on_tetra, on_octa, quoted_tetra, short_address, long_address, address_due, item_due, far_tetra, named_file, file_item, ended_spec, pre_item, post_item, tetras_of, octas_of, trimmed, MayCome, EndsItem, Item, Load, Loc, Skip, FixOcta, FixNear, FixFar, File, Line, Spec, Pre, Post, Stab, Lop, MmoFault, BadFields, OutOfMemory, Phase, Start, Middle, Posted, Ended, four-bytes, four-fit, top-byte, bytes-front, take-four, drop-four, same-number, other-number, both-true, both-tests, all-tests, not-less, is-least, is-less}
use Rattle.mx_mmo.specs.declared.lops.Lop.TheVariants as lops
use Rattle.mx_mmo.proofs.Codes.{lop-code}
use Rattle.mx_mmo.proofs.Names.{is-named, all-zeros}
use Rattle.mx_mmo.proofs.Skips.{skipped-ended}

pub record Found (phase : Phase) (bytes : List ℕ) (item : Item) (size : ℕ) : Type 0 where
  pub spells : Spells item (take size bytes)
  pub comes : MayCome phase item
  pub fits : Fits item
  pub ends : EndsItem item (drop size bytes)

abbrev pub Tells : Phase → ℕ → List ℕ → Due → Type 0
Tells phase at bytes (Ok (Some (item, size))) = Found phase bytes item size
Tells phase at bytes (Ok None) = Unit {0}
Tells phase at bytes (Err fault) = TetraFault phase at bytes fault

record Told (phase : Phase) (at : ℕ) (bytes : List ℕ) (due : Due) : Type 0 where
  is : Tells phase at bytes due

cond-tells : (b : Bool) (phase : Phase) (at : ℕ) (bytes : List ℕ) (x y : Due) → (b ≡ true → Told phase at bytes x) → (b ≡ false → Told phase at bytes y) → Told phase at bytes (cond b x y)
cond-tells b phase at bytes x y h1 h2 = grind arith

fault-tells : (phase : Phase) (at : ℕ) (bytes : List ℕ) (f : MmoFault) → TetraFault phase at bytes f → Told phase at bytes (Err f)
fault-tells phase at bytes f t = record { is = t }

nothing-tells : (phase : Phase) (at : ℕ) (bytes : List ℕ) → Told phase at bytes (Ok None)
nothing-tells phase at bytes = record { is = tt }

pub spelled-as : (item : Item) (bytes others : List ℕ) → bytes ≡ others → Spells item bytes → Spells item others
spelled-as item bytes others e s = subst (λ (b : List ℕ). Spells item b) e s

-- an item that is no spec
item-tells : (phase : Phase) (at : ℕ) (bytes spelling : List ℕ) (item : Item) (size : ℕ) → spelling ≡ take size bytes → Spells item spelling → MayCome phase item → Fits item →
    EndsItem item (drop size bytes) → Told phase at bytes (Ok (Some (item, size)))
item-tells phase at bytes spelling item size e s c f n = record { is = record { spells = spelled-as item spelling (take size bytes) e s; comes = c; fits = f; ends = n } }

-- the tetra and the octa that are next
pub tetra-told : {A : Type 0} (P : DueOf A → Type 0) (due : ℕ → DueOf A) (more : List ℕ) → AreBytes more → P (Ok None) →
    ((t : ℕ) → t < 2 ^ 32 → tetra_to_bytes t ≡ take 4 more → P (due t)) → P (on_tetra due more)
tetra-told P due more h1 h2 h3 = grind arith

octa-told : {A : Type 0} (P : DueOf A → Type 0) (due : ℕ → DueOf A) (more : List ℕ) → AreBytes more → P (Ok None) →
    ((x : ℕ) → x < 2 ^ 64 → octa_to_bytes x ≡ take 8 more → P (due x)) → P (on_octa due more)
octa-told P due more h1 h2 h3 = grind arith

-- the bytes of tetras and of octas
record Tetras (n : ℕ) (bytes : List ℕ) (tetras : List ℕ) : Type 0 where
  count : length tetras ≡ n
  whole : flat_map tetra_to_bytes tetras ≡ bytes
  each : AreTetras tetras

tetras-told : (n : ℕ) (bytes : List ℕ) → length bytes ≡ 4 * n → AreBytes bytes → Tetras n bytes (tetras_of bytes)
tetras-told zero [] l h = record { count = refl; whole = refl; each = tt }
tetras-told (suc n) (a ∷ b ∷ c ∷ d ∷ more) l h = grind (arith, nat_tests, tetras-told n more (omega arith) h.1.1.1.1)
tetras-told n _ l h = absurd (omega arith)

record Octas (n : ℕ) (bytes : List ℕ) (values : List ℕ) : Type 0 where
  count : length values ≡ n
  whole : flat_map octa_to_bytes values ≡ bytes
  each : AreOctas values

octas-told : (n : ℕ) (bytes : List ℕ) → length bytes ≡ 8 * n → AreBytes bytes → Octas n bytes (octas_of bytes)
octas-told zero [] l s = record { count = refl; whole = refl; each = tt }
octas-told (suc n) (a ∷ b ∷ c ∷ d ∷ e ∷ f ∷ g ∷ h ∷ more) l s = grind (arith, nat_tests, octas-told n more (omega arith) s.1.1.1.1.1.1.1.1)
octas-told n _ l s = absurd (omega arith)

same-lop : (code y z code' y' z' : ℕ) (more more' : List ℕ) → code' ≡ code → y' ≡ y → z' ≡ z → more ≡ more' → lop code y z ++ more ≡ 0x98 ∷ code' ∷ y' ∷ z' ∷ more'
same-lop code y z code' y' z' more more' e f g h = rw (e, f, g, h) refl

wide-fit : (y z : ℕ) → y < 2 ^ 8 → z < 2 ^ 8 → 256 * y + z < 2 ^ 16
wide-fit y z p q = omega arith

same-wide : (code y z code' : ℕ) (more : List ℕ) → z < 2 ^ 8 → code' ≡ code → wide_lop code (256 * y + z) ++ more ≡ 0x98 ∷ code' ∷ y ∷ z ∷ more
same-wide code y z code' more h e = grind arith

quoted-tells : (at code y z : ℕ) (more : List ℕ) → code ≡ 0 → y ≡ 0 → z ≡ 1 → AreBytes more → Told Middle at (0x98 ∷ code ∷ y ∷ z ∷ more) (on_tetra quoted_tetra more)
quoted-tells at code y z more e f g h =
    tetra-told (Told Middle at (0x98 ∷ code ∷ y ∷ z ∷ more)) quoted_tetra more h (nothing-tells _ _ _)
    (λ t fit is. item-tells Middle at _ _ (Load t) 8 (same-lop 0 0 1 code y z _ _ e f g is) (Spells.quoted t fit) tt fit tt)

-- an address after a lopcode of this code
abbrev AddressTells : ℕ → ℕ → List ℕ → DueOf ℕ → Type 0
AddressTells at code bytes (Ok (Some (a, size))) = SpellsAddress code a (take size bytes) × (a < 2 ^ 64)
AddressTells at code bytes (Ok None) = Unit {0}
AddressTells at code bytes (Err fault) = TetraFault Middle at bytes fault

record AddressTold (at code : ℕ) (bytes : List ℕ) (due : DueOf ℕ) : Type 0 where
  is : AddressTells at code bytes due

cond-address : (b : Bool) (at code : ℕ) (bytes : List ℕ) (x y : DueOf ℕ) → (b ≡ true → AddressTold at code bytes x) → (b ≡ false → AddressTold at code bytes y) → AddressTold at code bytes (cond b x y)
cond-address b at code bytes x y h1 h2 = grind arith

address-as : (code a : ℕ) (bytes others : List ℕ) → bytes ≡ others → SpellsAddress code a bytes → SpellsAddress code a others
address-as code a bytes others e s = subst (λ (b : List ℕ). SpellsAddress code a b) e s

one-or-two : (z : ℕ) → (z == 1) ≡ false → (z == 2) ≡ false → ¬ ((z ≡ 1) ⊎ (z ≡ 2))
one-or-two z h1 h2 = grind arith

address-tells : (at code y z : ℕ) (more : List ℕ) → y < 2 ^ 8 → AreBytes more → (¬ ((z ≡ 1) ⊎ (z ≡ 2)) → TetraFault Middle at (0x98 ∷ code ∷ y ∷ z ∷ more) (BadFields at)) → AddressTold at code (0x98 ∷ code ∷ y ∷ z ∷ more) (address_due at y z more)
address-tells at code y z more f h bad =
    cond-address (z == 1) at code _ _ _
    (λ g. tetra-told (AddressTold at code (0x98 ∷ code ∷ y ∷ z ∷ more)) (short_address y) more h (record { is = tt })
    (λ t fit is. record { is = (address-as code (y * 2 ^ 56 + t) _ _ (same-lop code y 1 code y z _ _ refl refl (same-number z 1 g) is) (SpellsAddress.by_tetra code y t f fit), omega arith) }))
    (λ p. cond-address (z == 2) at code _ _ _
    (λ g. octa-told (AddressTold at code (0x98 ∷ code ∷ y ∷ z ∷ more)) (long_address y) more h (record { is = tt })
    (λ x fit is. record { is = (address-as code ((y * 2 ^ 56 + x) % 2 ^ 64) _ _ (same-lop code y 2 code y z _ _ refl refl (same-number z 2 g) is) (SpellsAddress.by_octa code y x f fit), omega arith) }))
    (λ q. record { is = bad (one-or-two z p q) }))

loc-tells : (at code : ℕ) (bytes : List ℕ) (due : DueOf ℕ) → code ≡ 1 → AddressTells at code bytes due → Told Middle at bytes (item_due (λ a. Loc a) due)
loc-tells at code bytes (Ok (Some (a, size))) e t =
    item-tells Middle at bytes (take size bytes) (Loc a) size refl (Spells.loc a (take size bytes) (subst (λ (c : ℕ). SpellsAddress c a (take size bytes)) e t.0)) tt t.1 tt
loc-tells at code bytes (Ok None) e t = nothing-tells _ _ _
loc-tells at code bytes (Err f) e t = fault-tells _ _ _ _ t

fixo-tells : (at code : ℕ) (bytes : List ℕ) (due : DueOf ℕ) → code ≡ 3 → AddressTells at code bytes due → Told Middle at bytes (item_due (λ a. FixOcta a) due)
fixo-tells at code bytes (Ok (Some (a, size))) e t =
    item-tells Middle at bytes (take size bytes) (FixOcta a) size refl (Spells.fixo a (take size bytes) (subst (λ (c : ℕ). SpellsAddress c a (take size bytes)) e t.0)) tt t.1 tt
fixo-tells at code bytes (Ok None) e t = nothing-tells _ _ _
fixo-tells at code bytes (Err f) e t = fault-tells _ _ _ _ t

pub bits-are : (z : ℕ) → (z == 16 || z == 24) ≡ true → (z ≡ 16) ⊎ (z ≡ 24)
bits-are z h = grind arith

bits-test : (y z : ℕ) → (y ≡ 0) × ((z ≡ 16) ⊎ (z ≡ 24)) → (y == 0 && (z == 16 || z == 24)) ≡ true
bits-test y z h = grind arith

post-test : (y z : ℕ) → (y ≡ 0) × (32 ≤ z) → (y == 0 && nat_le 32 z) ≡ true
post-test y z h = let l : nat_le 32 z ≡ true = let k = h.1 in grind (arith, nat_tests) in rw (h.0, l) refl

far-tells : (at code y z : ℕ) (more : List ℕ) → code ≡ 5 → y ≡ 0 → (z ≡ 16) ⊎ (z ≡ 24) → AreBytes more →
    Told Middle at (0x98 ∷ code ∷ y ∷ z ∷ more) (on_tetra (far_tetra at z) more)
far-tells at code y z more e f g h =
    tetra-told (Told Middle at (0x98 ∷ code ∷ y ∷ z ∷ more)) (far_tetra at z) more h (nothing-tells _ _ _)
    (λ t fit is. cond-tells (nat_lt t (2 ^ 25)) Middle at _ _ _
    (λ l. let few = is-less t (2 ^ 25) l in item-tells Middle at _ _ (FixFar z t) 8 (same-lop 5 0 z code y z _ _ e f refl is) (Spells.fixrx z t g few) tt (g, few) tt)
    (λ l. let split : tetra_to_bytes t ++ drop 4 more ≡ more = ap (λ x. x ++ drop 4 more) is ∙ take-append-drop 4 more in
    let bytes : 0x98 ∷ 5 ∷ 0 ∷ z ∷ (tetra_to_bytes t ++ drop 4 more) ≡ 0x98 ∷ code ∷ y ∷ z ∷ more = rw (e, f) (ap (λ x. 0x98 ∷ 5 ∷ 0 ∷ z ∷ x) split) in
    fault-tells _ _ _ _ (subst (λ (b : List ℕ). TetraFault Middle at b (BadFields at)) bytes (TetraFault.far_tetra at z t (drop 4 more) g (not-less t (2 ^ 25) l) fit))))

pub there : (n : ℕ) (more : List ℕ) → nat_lt (length more) n ≡ false → length (take n more) ≡ n
there n more h = let l = not-less (length more) n h in omega (arith, length-take n more)

named-tells : (at code y z : ℕ) (more bytes name : List ℕ) → z ≢ 0 → code ≡ 6 → y < 2 ^ 8 → z < 2 ^ 8 → bytes ≡ take (4 * z) more → length bytes ≡ 4 * z → AreBytes bytes → trimmed bytes ≡ name →
    Told Middle at (0x98 ∷ code ∷ y ∷ z ∷ more) (named_file at y (4 + 4 * z) name)
named-tells at code y z more bytes [] n e f g is l h t =
    let zeros : replicate (4 * z) 0 ≡ take (4 * z) more = ap (λ (k : ℕ). replicate k 0) (sym l) ∙ sym (all-zeros bytes h t) ∙ is in
    let split : replicate (4 * z) 0 ++ drop (4 * z) more ≡ more = ap (λ x. x ++ drop (4 * z) more) zeros ∙ take-append-drop (4 * z) more in
    let whole : 0x98 ∷ 6 ∷ y ∷ z ∷ (replicate (4 * z) 0 ++ drop (4 * z) more) ≡ 0x98 ∷ code ∷ y ∷ z ∷ more = rw e (ap (λ x. 0x98 ∷ 6 ∷ y ∷ z ∷ x) split) in
    fault-tells _ _ _ _ (subst (λ (b : List ℕ). TetraFault Middle at b (BadFields at)) whole (TetraFault.no_name at y z (drop (4 * z) more) (omega arith)))
named-tells at code y z more bytes (b ∷ name) o e f g is l h t =
    let n = is-named bytes b name h (omega arith) t in
    let spelling : lop 6 y z ++ (b ∷ name) ++ replicate n.zeros 0 ≡ take (4 + 4 * z) (0x98 ∷ code ∷ y ∷ z ∷ more) =
    same-lop 6 y z code y z _ _ e refl refl (sym n.whole ∙ is) ∙ sym (take-four (4 * z) 0x98 code y z more) in
    item-tells Middle at _ _ (File y (Some (b ∷ name))) (4 + 4 * z) spelling (Spells.named y z n.zeros (b ∷ name) f g n.good (n.count ∙ l)) tt (f, n.good) tt

file-tells : (at code y z : ℕ) (more : List ℕ) → code ≡ 6 → y < 2 ^ 8 → z < 2 ^ 8 → AreBytes more → Told Middle at (0x98 ∷ code ∷ y ∷ z ∷ more) (file_item at y z more)
file-tells at code y z more e f g h =
    cond-tells (z == 0) Middle at _ _ _
    (λ i. item-tells Middle at _ _ (File y None) 4 (same-lop 6 y 0 code y z [] [] e refl (same-number z 0 i) refl) (Spells.selected y f) tt (f, tt) tt)
    (λ n. cond-tells (nat_lt (length more) (4 * z)) Middle at _ _ _ (λ _. nothing-tells _ _ _)
    (λ l. named-tells at code y z more (take (4 * z) more) _ (other-number z 0 n) e f g refl (there (4 * z) more l) (bytes-front (4 * z) more h) refl))

spec-tells : (at code y z : ℕ) (more : List ℕ) (o : Option ℕ) → code ≡ 8 → y < 2 ^ 8 → z < 2 ^ 8 → AreBytes more → skipped false more ≡ o →
    Told Middle at (0x98 ∷ code ∷ y ∷ z ∷ more) (ended_spec (256 * y + z) o)
spec-tells at code y z more None e f g h o = nothing-tells _ _ _
spec-tells at code y z more (Some size) e f g h o =
    let n = skipped-ended more size h o in
    let fit = wide-fit y z f g in
    item-tells Middle at _ _ (Spec (256 * y + z)) (4 + size) (same-wide 8 y z code (take size more) g e ∙ sym (take-four size 0x98 code y z more))
    (Spells.spec (256 * y + z) (take size more) fit n.front) tt fit (subst (λ (r : List ℕ). EndsSpec r) (sym (drop-four size 0x98 code y z more)) n.ends)

pre-tells : (at a code y z : ℕ) (more : List ℕ) → a ≡ 0x98 → code ≡ 9 → y ≡ 1 → z < 2 ^ 8 → AreBytes more → Told Start at (a ∷ code ∷ y ∷ z ∷ more) (pre_item z more)
pre-tells at a code y z more d e f g h = cond-tells (nat_lt (length more) (4 * z)) Start at _ _ _ (λ _. nothing-tells _ _ _) (λ l.
    let w = tetras-told z (take (4 * z) more) (there (4 * z) more l) (bytes-front (4 * z) more h) in
    let tetras = tetras_of (take (4 * z) more) in
    let few : length tetras < 2 ^ 8 = rw (w.count) g in
    let bytes : lop 9 1 (length tetras) ++ flat_map tetra_to_bytes tetras ≡ take (4 + 4 * z) (a ∷ code ∷ y ∷ z ∷ more) =
    same-lop 9 1 (length tetras) code y z _ _ e f (sym w.count) w.whole ∙ ap (λ (b : ℕ). b ∷ code ∷ y ∷ z ∷ take (4 * z) more) (sym d) ∙ sym (take-four (4 * z) a code y z more) in
    item-tells Start at _ _ (Pre tetras) (4 + 4 * z) bytes (Spells.pre tetras few w.each) tt (few, w.each) tt)

post-tells : (at code y g : ℕ) (more : List ℕ) → code ≡ 10 → y ≡ 0 → 32 ≤ g → g < 2 ^ 8 → AreBytes more → Told Middle at (0x98 ∷ code ∷ y ∷ g ∷ more) (post_item g more)
post-tells at code y g more d e f k h = cond-tells (nat_lt (length more) (8 * (256 - g))) Middle at _ _ _ (λ _. nothing-tells _ _ _) (λ l.
    let w = octas-told (256 - g) (take (8 * (256 - g)) more) (there (8 * (256 - g)) more l) (bytes-front (8 * (256 - g)) more h) in
    let values = octas_of (take (8 * (256 - g)) more) in
    let count : length values + g ≡ 256 = omega (arith, w.count) in
    let bytes : lop 10 0 g ++ flat_map octa_to_bytes values ≡ take (4 + 8 * (256 - g)) (0x98 ∷ code ∷ y ∷ g ∷ more) =
    same-lop 10 0 g code y g _ _ d e refl w.whole ∙ sym (take-four (8 * (256 - g)) 0x98 code y g more) in
    item-tells Middle at _ _ (Post g values) (4 + 8 * (256 - g)) bytes (Spells.post g values f k count w.each) tt (f, k, count, w.each) tt)

pub zero-and-least : (y z : ℕ) → (y == 0 && nat_le 32 z) ≡ true → (y ≡ 0) × (32 ≤ z)
zero-and-least y z h = let t = both-true (y == 0) (nat_le 32 z) h in (same-number y 0 t.0, is-least 32 z t.1)

-- each lopcode by its code byte
lop-tells : (at code y z : ℕ) (more : List ℕ) (lop : Option Lop) → lop_of code ≡ lop → y < 2 ^ 8 → z < 2 ^ 8 → AreBytes more →
    Told Middle at (0x98 ∷ code ∷ y ∷ z ∷ more) (lop_item at lop y z more)
lop-tells at code y z more (Some lops.Quote) e p q h = cond-tells (y == 0 && z == 1) Middle at _ _ _
    (λ f. let t = both-tests y 0 z 1 f in quoted-tells at code y z more (lop-code code _ e) t.0 t.1 h)
    (λ n. fault-tells _ _ _ _ (TetraFault.fields at code y z more lops.Quote e tt (λ f. both_ways _ n (rw (f.0, f.1) refl))))
lop-tells at code y z more (Some lops.Loc) e p q h = loc-tells at code _ (address_due at y z more) (lop-code code _ e) (address-tells at code y z more p h (λ n. TetraFault.fields at code y z more lops.Loc e tt n)).is
lop-tells at code y z more (Some lops.Skip) e p q h =
    item-tells Middle at _ _ (Skip (256 * y + z)) 4 (same-wide 2 y z code [] q (lop-code code _ e)) (Spells.skip (256 * y + z) (wide-fit y z p q)) tt (wide-fit y z p q) tt
lop-tells at code y z more (Some lops.Fixo) e p q h = fixo-tells at code _ (address_due at y z more) (lop-code code _ e) (address-tells at code y z more p h (λ n. TetraFault.fields at code y z more lops.Fixo e tt n)).is
lop-tells at code y z more (Some lops.Fixr) e p q h =
    item-tells Middle at _ _ (FixNear (256 * y + z)) 4 (same-wide 4 y z code [] q (lop-code code _ e)) (Spells.fixr (256 * y + z) (wide-fit y z p q)) tt (wide-fit y z p q) tt
lop-tells at code y z more (Some lops.Fixrx) e p q h = cond-tells (y == 0 && (z == 16 || z == 24)) Middle at _ _ _
    (λ f. let t = both-true (y == 0) (z == 16 || z == 24) f in far-tells at code y z more (lop-code code _ e) (same-number y 0 t.0) (bits-are z t.1) h)
    (λ n. fault-tells _ _ _ _ (TetraFault.fields at code y z more lops.Fixrx e tt (λ f. both_ways _ n (bits-test y z f))))
lop-tells at code y z more (Some lops.File) e p q h = file-tells at code y z more (lop-code code _ e) p q h
lop-tells at code y z more (Some lops.Line) e p q h =
    item-tells Middle at _ _ (Line (256 * y + z)) 4 (same-wide 7 y z code [] q (lop-code code _ e)) (Spells.line (256 * y + z) (wide-fit y z p q)) tt (wide-fit y z p q) tt
lop-tells at code y z more (Some lops.Spec) e p q h = spec-tells at code y z more (skipped false more) (lop-code code _ e) p q h refl
lop-tells at code y z more (Some lops.Post) e p q h = cond-tells (y == 0 && nat_le 32 z) Middle at _ _ _
    (λ f. let t = zero-and-least y z f in post-tells at code y z more (lop-code code _ e) t.0 t.1 q h)
    (λ n. fault-tells _ _ _ _ (TetraFault.fields at code y z more lops.Post e tt (λ f. both_ways _ n (post-test y z f))))
lop-tells at code y z more lop e p q h = fault-tells _ _ _ _ (TetraFault.bad_lop at code y z more (λ m. rw e at m))

bare-tells : (at a b c d : ℕ) (more : List ℕ) → (a == 0x98) ≡ false → a < 256 → b < 256 → c < 256 → d < 256 →
    Told Middle at (a ∷ b ∷ c ∷ d ∷ more) (Ok (Some (Load (tetra_from_bytes (a ∷ b ∷ c ∷ d ∷ [])), 4)))
bare-tells at a b c d more e p q r s =
    let t = tetra_from_bytes (a ∷ b ∷ c ∷ d ∷ []) in
    let fit : t < 2 ^ 32 = four-fit a b c d p q r s in
    let other : t / 2 ^ 24 ≢ 0x98 = rw (top-byte a b c d q r s) (other-number a 0x98 e) in
    item-tells Middle at _ _ (Load t) 4 (four-bytes a b c d p q r s) (Spells.bare t (fit, other)) tt fit tt

due-tells : (phase : Phase) (at a code y z : ℕ) (more : List ℕ) → a < 256 → code < 256 → y < 256 → z < 256 → AreBytes more →
    Told phase at (a ∷ code ∷ y ∷ z ∷ more) (due_item phase at a code y z more)
due-tells Start at a code y z more p q r s h = cond-tells (a == 0x98 && code == 9 && y == 1) Start at _ _ _
    (λ e. let t = all-tests a 0x98 code 9 y 1 e in pre-tells at a code y z more t.0 t.1 t.2 s h)
    (λ n. fault-tells _ _ _ _ (TetraFault.no_pre at a code y z more (λ f. both_ways _ n (rw (f.0, f.1, f.2) refl))))
due-tells Middle at a code y z more p q r s h = cond-tells (a == 0x98) Middle at _ _ _
    (λ e. let is = same-number a 0x98 e in
    subst (λ (b : ℕ). Told Middle at (b ∷ code ∷ y ∷ z ∷ more) (lop_item at (lop_of code) y z more)) (sym is) (lop-tells at code y z more (lop_of code) refl r s h))
    (λ e. bare-tells at a code y z more e p q r s)
due-tells Posted at a code y z more p q r s h = cond-tells (a == 0x98 && code == 11) Posted at _ _ _
    (λ e. let t = both-tests a 0x98 code 11 e in
    cond-tells (y == 0 && z == 0) Posted at _ _ _ (λ f. let u = both-tests y 0 z 0 f in item-tells Posted at _ _ Stab 4 (rw (t.0, t.1, u.0, u.1) refl) Spells.stab tt tt tt)
    (λ n. let bytes : 0x98 ∷ 11 ∷ y ∷ z ∷ more ≡ a ∷ code ∷ y ∷ z ∷ more = rw (t.0, t.1) refl in
    fault-tells _ _ _ _ (subst (λ (b : List ℕ). TetraFault Posted at b (BadFields at)) bytes (TetraFault.stab_fields at y z more (λ f. both_ways _ n (rw (f.0, f.1) refl))))))
    (λ n. fault-tells _ _ _ _ (TetraFault.no_stab at a code y z more (λ f. both_ways _ n (rw (f.0, f.1) refl))))
due-tells Ended at a code y z more p q r s h = nothing-tells _ _ _

pub first-tells : (phase : Phase) (at : ℕ) (bytes : List ℕ) → AreBytes bytes → Tells phase at bytes (first_item phase at bytes)
first-tells phase at bytes h = search (rules, due-tells)

-- what is given where memory does not run out fits
pub given-fits : (phase : Phase) (at : ℕ) (bytes : List ℕ) (given due : Due) → (given ≢ Err OutOfMemory → given ≡ due) → Tells phase at bytes due →
    IfOk given (λ due. IfSome due (λ found. Fits found.0))
given-fits phase at bytes given due h1 h2 = grind arith

pub fault-found : (phase : Phase) (at : ℕ) (bytes : List ℕ) (fault : MmoFault) → AreBytes bytes → first_item phase at bytes ≡ Err fault → TetraFault phase at bytes fault
fault-found phase at bytes fault h e = subst (λ (d : Due). Tells phase at bytes d) e (first-tells phase at bytes h)
