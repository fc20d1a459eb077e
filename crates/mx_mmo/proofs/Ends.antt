-- What follows a spec ends it.
use Rattle.std.proofs.Common.{ℕ, List, ◌∷◌, ◌++◌, arith, refl, sym, subst, append_assoc}
use Rattle.mx_mmo.proofs.Words.{MayFollow, SpecsEnd, EndsSpec, Spells, SpellsAddress, Spelled, EndsItem, EndsLast, Item, Spec}

-- an item that is not loaded begins with a lopcode that ends a spec
ends-before : {item : Item} {bytes : List ℕ} (n : ℕ) (rest : List ℕ) → Spells item bytes → MayFollow (Spec n) item → EndsSpec (bytes ++ rest)
ends-before n rest (Spells.loc a bytes (SpellsAddress.by_tetra code y t h k)) m = (refl, λ t. omega (arith, t.0))
ends-before n rest (Spells.loc a bytes (SpellsAddress.by_octa code y x h k)) m = (refl, λ t. omega (arith, t.0))
ends-before n rest (Spells.skip k h) m = (refl, λ t. omega (arith, t.0))
ends-before n rest (Spells.fixo a bytes (SpellsAddress.by_tetra code y t h k)) m = (refl, λ t. omega (arith, t.0))
ends-before n rest (Spells.fixo a bytes (SpellsAddress.by_octa code y x h k)) m = (refl, λ t. omega (arith, t.0))
ends-before n rest (Spells.fixr k h) m = (refl, λ t. omega (arith, t.0))
ends-before n rest (Spells.fixrx bits t b h) m = (refl, λ t. omega (arith, t.0))
ends-before n rest (Spells.selected number h) m = (refl, λ t. omega (arith, t.0))
ends-before n rest (Spells.named number tetras count name h k l c) m = (refl, λ t. omega (arith, t.0))
ends-before n rest (Spells.line k h) m = (refl, λ t. omega (arith, t.0))
ends-before n rest (Spells.spec k front h s) m = (refl, λ t. omega (arith, t.0))
ends-before n rest (Spells.pre tetras l h) m = (refl, λ t. omega (arith, t.0))
ends-before n rest (Spells.post g values l k c h) m = (refl, λ t. omega (arith, t.0))
ends-before n rest Spells.stab m = (refl, λ t. omega (arith, t.0))
ends-before n rest _ m = absurd m

ends-by : (item : Item) {next : Item} {bytes : List ℕ} (rest : List ℕ) → Spells next bytes → MayFollow item next → EndsItem item (bytes ++ rest)
ends-by (Spec n) rest s m = ends-before n rest s m
ends-by _ rest s m = tt

pub ends-next : (item : Item) {items : List Item} {more : List ℕ} (rest : List ℕ) → Spelled items more → SpecsEnd (item ∷ items) → EndsLast (item ∷ items) rest → EndsItem item (more ++ rest)
ends-next item rest Spelled.none s e = e
ends-next item rest (Spelled.next other items bytes more sp others) s e =
    subst (λ (b : List ℕ). EndsItem item b) (sym (append_assoc bytes more rest)) (ends-by item (more ++ rest) sp s.0)

-- one item in front of others
pub specs-cons : (item : Item) {items : List Item} {front : List ℕ} (rest : List ℕ) → Spelled items front → SpecsEnd items → EndsItem item (front ++ rest) → SpecsEnd (item ∷ items)
specs-cons item rest h1 h2 h3 = grind arith

pub last-cons : (item : Item) {items : List Item} {front : List ℕ} (rest : List ℕ) → Spelled items front → EndsLast items rest → EndsItem item (front ++ rest) → EndsLast (item ∷ items) rest
last-cons item rest h1 h2 h3 = grind arith
