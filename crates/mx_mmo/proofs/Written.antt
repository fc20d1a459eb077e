-- What is written is in the grammar.
use Rattle.std.proofs.Common.{◌≡◌, ◌≢◌, ℕ, ◌-◌, ◌*◌, ◌/◌, ◌%◌, ◌^◌, ◌<◌, ◌≤◌, length, List, [], ◌∷◌, ◌++◌, arith, refl, sym, subst, Some, None, Bool, true, false, cond, append_assoc, replicate, Ok, Option, ◌==◌}
use Rattle.mx_mmo.proofs.Words.{AllByRecursion, tetra_to_bytes, octa_to_bytes, lop, wide_lop, tetras_for, bytes_of, file, written, ending, Fits, Valid, IsObject, SpellsAddress, Spells, Spelled, IsSkipped, Item, Load, Loc, Skip, FixOcta, FixNear, FixFar, File, Line, Spec, Pre, Post, Stab, limit, object_of, same-number, other-number}
use Rattle.mx_mmo.proofs.Complete.{object-only}
use Rattle.mx_mmo.proofs.Told.{spelled-as}

loaded-spells : (b : Bool) (t : ℕ) → t < 2 ^ 32 → (b ≡ false → t / 2 ^ 24 ≢ 0x98) → Spells (Load t) (cond b (lop 0 0 1 ++ tetra_to_bytes t) (tetra_to_bytes t))
loaded-spells true t h p = Spells.quoted t h
loaded-spells false t h p = Spells.bare t (h, p refl)

address-spells : (b : Bool) (code a : ℕ) → a < 2 ^ 64 → (b ≡ true → a / 2 ^ 32 % 2 ^ 24 ≡ 0) →
    SpellsAddress code a (cond b (lop code (a / 2 ^ 56) 1 ++ tetra_to_bytes (a % 2 ^ 32)) (lop code 0 2 ++ octa_to_bytes a))
address-spells true code a h p = subst (λ (n : ℕ). SpellsAddress code n (lop code (a / 2 ^ 56) 1 ++ tetra_to_bytes (a % 2 ^ 32))) (omega (arith, (p refl)))
    (SpellsAddress.by_tetra code (a / 2 ^ 56) (a % 2 ^ 32) (omega arith) (omega arith))
address-spells false code a h p = subst (λ (n : ℕ). SpellsAddress code n (lop code 0 2 ++ octa_to_bytes a)) (omega arith) (SpellsAddress.by_octa code 0 a (omega arith) h)

file-spells : (number : ℕ) (name : Option (List ℕ)) → Fits (File number name) → Spells (File number name) (file number name)
file-spells number None f = Spells.selected number f.0
file-spells number (Some name) f =
    spelled-as (File number (Some name)) _ _ (append_assoc (lop 6 number (tetras_for (length name))) name (replicate (4 * tetras_for (length name) - length name) 0))
    (Spells.named number (tetras_for (length name)) (4 * tetras_for (length name) - length name) name f.0 (omega (arith, f.1.most)) f.1 (omega arith))

pub item-spells : (item : Item) → Fits item → Spells item (bytes_of item)
item-spells (Load t) f = loaded-spells (t / 2 ^ 24 == 0x98) t f (λ e. other-number (t / 2 ^ 24) 0x98 e)
item-spells (Loc a) f = Spells.loc a _ (address-spells (a / 2 ^ 32 % 2 ^ 24 == 0) 1 a f (λ e. same-number (a / 2 ^ 32 % 2 ^ 24) 0 e))
item-spells (Skip n) f = Spells.skip n f
item-spells (FixOcta a) f = Spells.fixo a _ (address-spells (a / 2 ^ 32 % 2 ^ 24 == 0) 3 a f (λ e. same-number (a / 2 ^ 32 % 2 ^ 24) 0 e))
item-spells (FixNear n) f = Spells.fixr n f
item-spells (FixFar bits t) f = Spells.fixrx bits t f.0 f.1
item-spells (File number name) f = file-spells number name f
item-spells (Line n) f = Spells.line n f
item-spells (Spec n) f = Spells.spec n [] f IsSkipped.none
item-spells (Pre tetras) f = Spells.pre tetras f.0 f.1
item-spells (Post g values) f = Spells.post g values f.0 f.1 f.2 f.3
item-spells Stab f = Spells.stab

items-spelled : (items : List Item) → AllByRecursion Fits items → Spelled items (written items)
items-spelled [] f = Spelled.none
items-spelled (item ∷ items) f = Spelled.next item items (bytes_of item) (written items) (item-spells item f.0) (items-spelled items f.1)

pub written-object : (items : List Item) (trie : List ℕ) → Valid items → length trie % 4 ≡ 0 → length trie / 4 < 2 ^ 16 → IsObject (written items ++ ending trie) items trie
written-object items trie v w m = record {
  front = written items;
  count = length trie / 4;
  valid = v;
  spelled = items-spelled items v.fits;
  counted = omega arith;
  most = m;
  whole = sym (append_assoc (written items) trie (wide_lop 12 (length trie / 4)));
}

-- and read again as what was written
pub written-read : (items : List Item) (trie : List ℕ) → Valid items → length trie % 4 ≡ 0 → length trie / 4 < 2 ^ 16 → length (written items ++ ending trie) ≤ limit →
    object_of (written items ++ ending trie) ≡ Ok (record { items = items; tail = record { trie = trie; place = length (written items) } })
unfolding written-object
written-read items trie v w m l =
    object-only (written items ++ ending trie) (record { items = items; tail = record { trie = trie; place = length (written items) } })
    (record { spelled = written-object items trie v w m; place = refl }) l
