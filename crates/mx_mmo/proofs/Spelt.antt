-- What is spelled so is read so.
use Rattle.std.proofs.Common.{◌≡◌, ℕ, ◌+◌, ◌-◌, ◌*◌, ◌/◌, ◌%◌, ◌^◌, ◌<◌, length, List, [], ◌∷◌, ◌++◌, take, arith, refl, ◌∙◌, ap, Ok, Some, false, inl, inr, length-append, replicate, nat_lt, ◌==◌, flat_map, rules}
use Rattle.mx_mmo.proofs.Words.{common_steps, take_at, nat_tests, tetra_to_bytes, octa_to_bytes, wide_lop, AreTetras, AreOctas, IsName, Spells, SpellsAddress, skipped, Due, first_item, tetras_of, octas_of, quoted_tetra, named_file, file_item, ended_spec, pre_item, post_item, MayCome, EndsItem, Item, File, Spec, Pre, Post, Phase, Start, Middle, Posted, tetra-back, octa-back}
use Rattle.mx_mmo.proofs.Names.{name-back}
use Rattle.mx_mmo.proofs.Skips.{skipped-all}

tetras-back : (tetras : List ℕ) → AreTetras tetras → tetras_of (flat_map tetra_to_bytes tetras) ≡ tetras
tetras-back [] h = refl
tetras-back (t ∷ tetras) h = ap (λ u. u ∷ tetras_of (flat_map tetra_to_bytes tetras)) (tetra-back t h.0) ∙ ap (λ ts. t ∷ ts) (tetras-back tetras h.1)

octas-back : (values : List ℕ) → AreOctas values → octas_of (flat_map octa_to_bytes values) ≡ values
octas-back [] h = refl
octas-back (x ∷ values) h = ap (λ u. u ∷ octas_of (flat_map octa_to_bytes values)) (octa-back x h.0) ∙ ap (λ vs. x ∷ vs) (octas-back values h.1)

pub tetras-length : (tetras : List ℕ) → length (flat_map tetra_to_bytes tetras) ≡ 4 * length tetras
tetras-length [] = refl
tetras-length (t ∷ tetras) = let e = tetras-length tetras in omega arith

pub octas-length : (values : List ℕ) → length (flat_map octa_to_bytes values) ≡ 8 * length values
octas-length [] = refl
octas-length (x ∷ values) = let e = octas-length values in omega arith

pub enough-there : (n : ℕ) (front rest : List ℕ) → length front ≡ n → nat_lt (length (front ++ rest)) n ≡ false
enough-there n front rest e = let l = length-append front rest in grind (arith, nat_tests)

front-taken : (n : ℕ) (front rest : List ℕ) → length front ≡ n → take n (front ++ rest) ≡ front
front-taken n front rest e = take_at front rest n e

pre-read : (tetras rest : List ℕ) → AreTetras tetras → pre_item (length tetras) (flat_map tetra_to_bytes tetras ++ rest) ≡ Ok (Some (Pre tetras, 4 + 4 * length tetras))
pre-read tetras rest h = simp (enough-there, tetras-length, front-taken, tetras-back)

post-read : (g : ℕ) (values rest : List ℕ) → length values + g ≡ 256 → AreOctas values →
    post_item g (flat_map octa_to_bytes values ++ rest) ≡ Ok (Some (Post g values, 4 + 8 * (256 - g)))
post-read g values rest c h = search (rules, octas-length, enough-there, front-taken, octas-back)

named-some : (at number size : ℕ) (name : List ℕ) → 0 < length name → named_file at number size name ≡ Ok (Some (File number (Some name), size))
named-some at number size name h = grind arith

file-read : (at number tetras zeros : ℕ) (name rest : List ℕ) → IsName name → length name + zeros ≡ 4 * tetras →
    file_item at number tetras ((name ++ replicate zeros 0) ++ rest) ≡ Ok (Some (File number (Some name), 4 + 4 * tetras))
file-read at number tetras zeros name rest n c =
    let front = name ++ replicate zeros 0 in
    let l : length front ≡ 4 * tetras = grind (arith, common_steps) in
    let some : (tetras == 0) ≡ false = let p = n.least in grind (arith, nat_tests) in
    rw (some, enough-there (4 * tetras) front rest l, front-taken (4 * tetras) front rest l, name-back name zeros n) (named-some at number (4 + 4 * tetras) name n.least)

sized : (item : Item) (m n : ℕ) → m ≡ n → ◌≡◌ {A = Due} (Ok (Some (item, m))) (Ok (Some (item, n)))
sized item m n e = ap (λ (k : ℕ). Ok (Some (item, k))) e

spec-read : (n : ℕ) (front : List ℕ) (o : _) → o ≡ Some (length front) → ◌≡◌ {A = Due} (ended_spec (256 * (n / 256) + n % 256) o) (Ok (Some (Spec n, length (wide_lop 8 n ++ front))))
spec-read n front o e = grind arith

-- an item that may come is read from its bytes, whatever follows, if that ends it
pub spells-first : {item : Item} {bytes : List ℕ} (phase : Phase) (at : ℕ) (rest : List ℕ) → Spells item bytes → MayCome phase item → EndsItem item rest →
    first_item phase at (bytes ++ rest) ≡ Ok (Some (item, length bytes))
spells-first Middle at rest (Spells.bare t p) s e = grind arith
spells-first Middle at rest (Spells.quoted t h) s e = ap quoted_tetra (tetra-back t h)
spells-first Middle at rest (Spells.loc a bytes (SpellsAddress.by_tetra code y t h k)) s e = grind arith
spells-first Middle at rest (Spells.loc a bytes (SpellsAddress.by_octa code y x h k)) s e = grind arith
spells-first Middle at rest (Spells.skip n h) s e = grind arith
spells-first Middle at rest (Spells.fixo a bytes (SpellsAddress.by_tetra code y t h k)) s e = grind arith
spells-first Middle at rest (Spells.fixo a bytes (SpellsAddress.by_octa code y x h k)) s e = grind arith
spells-first Middle at rest (Spells.fixr n h) s e = grind arith
spells-first Middle at rest (Spells.fixrx bits t (inl b) h) s e = grind arith
spells-first Middle at rest (Spells.fixrx bits t (inr b) h) s e = grind arith
spells-first Middle at rest (Spells.selected number h) s e = refl
spells-first Middle at rest (Spells.named number tetras zeros name h k n c) s e =
    file-read at number tetras zeros name rest n c ∙ sized (File number (Some name)) _ _ (grind (arith, common_steps))
spells-first Middle at rest (Spells.line n h) s e = grind arith
spells-first Middle at rest (Spells.spec n front h k) s e = spec-read n front (skipped false (front ++ rest)) (skipped-all rest k e)
spells-first Middle at rest (Spells.post g values l m c h) s e = grind (arith, nat_tests, post-read g values rest c h, octas-length values)
spells-first Start at rest (Spells.pre tetras l h) s e = pre-read tetras rest h ∙ sized (Pre tetras) _ _ (let e = tetras-length tetras in omega arith)
spells-first Posted at rest Spells.stab s e = refl
spells-first _ at rest _ s e = absurd s
