-- The trie of symbols each of which tells few bytes is short.
use Rattle.std.proofs.Common.{◌≡◌, ℕ, zero, suc, ◌+◌, ◌-◌, ◌*◌, ◌/◌, ◌%◌, ◌^◌, ◌<◌, ◌≤◌, Bool, cond, List, [], ◌∷◌, ◌++◌, length, refl, ap, arith, length-append, ◌==◌, rules}
use Rattle.mx_gen.proofs.Words.{AllByRecursion, common_steps, Symbol, Pure, NameTable, zeros_after, padded_trie}
use Rattle.mx_stab.specs.Numbers.{fewest_digits, octa_digits, value_bytes, serial_bytes}
use Rattle.mx_stab.specs.Trie.{next_byte, groups_of, symbols_below, node_front, nodes, trie}

-- ---- what a symbol tells

no-front : (d e : ℕ) (more : List ℕ) → d ≡ 0 → fewest_digits (d ∷ e ∷ more) ≡ fewest_digits (e ∷ more)
no-front d e more is = ap (λ x. cond (x == 0) (fewest_digits (e ∷ more)) (x ∷ e ∷ more)) is

octa-short : (x : ℕ) → x < 2 ^ 24 → length (octa_digits x) ≤ 3
octa-short x low = search rules

-- A symbol of at most 8 bytes, with a low value and a low serial number.
pub record IsLight (s : Symbol) : Type 0 where
  pub name : length s.name ≤ 8
  pub told : length (value_bytes s.value) + length (serial_bytes s.serial) ≤ 5

pub light : (name : List ℕ) (value serial : ℕ) → length name ≤ 8 → value < 2 ^ 24 → serial < 2 ^ 14 → IsLight (record { name = name; value = Pure value; serial = serial })
light name value serial short low few = grind arith

-- ---- what the nodes of symbols take

-- the most bytes that a symbol adds to a trie from a place of its name on
abbrev cost : ℕ → Symbol → ℕ
cost at s = 7 + 2 * (length s.name - at)

abbrev costs : ℕ → List Symbol → ℕ
costs at [] = 0
costs at (s ∷ more) = cost at s + costs at more

abbrev group_costs : ℕ → List (List Symbol) → ℕ
group_costs at [] = 0
group_costs at (g ∷ groups) = costs at g + group_costs at groups

abbrev AreLight : List Symbol → Type 0
AreLight symbols = AllByRecursion IsLight symbols

abbrev GroupsAreLight : List (List Symbol) → Type 0
GroupsAreLight groups = AllByRecursion AreLight groups

grouped-costs : (at : ℕ) (symbols : List Symbol) → group_costs at (groups_of at symbols) ≡ costs at symbols
grouped-costs at [] = refl
grouped-costs at (s ∷ more) = search (rules, grouped-costs at more)

grouped-light : (at : ℕ) (symbols : List Symbol) → AreLight symbols → GroupsAreLight (groups_of at symbols)
grouped-light at [] are = tt
grouped-light at (s ∷ more) are = search (rules, grouped-light at more are.1)

-- deeper in their names symbols take no more
costs-less : (at : ℕ) (symbols : List Symbol) → costs (at + 1) symbols ≤ costs at symbols
costs-less at [] = omega arith
costs-less at (s ∷ more) = omega (arith, costs-less at more)

same-length : (at : ℕ) (s : Symbol) (goes others is_last : Bool) (m n : ℕ) →
    length (cond is_last (m ∷ next_byte at s ∷ value_bytes s.value ++ serial_bytes s.serial) (n ∷ next_byte at s ∷ []))
    ≡ length (cond is_last (0 ∷ next_byte at s ∷ value_bytes s.value ++ serial_bytes s.serial) (0 ∷ next_byte at s ∷ []))
same-length at s goes others is_last m n = search rules

node-costs : (at : ℕ) (group : List Symbol) (others : Bool) → AreLight group → length (node_front at group others) + costs (at + 1) (symbols_below at group) ≤ costs at group
node-costs at group others are = search (rules, same-length, length-append, costs-less)

nodes-costs : (middle : List Symbol → List ℕ) (at : ℕ) (groups : List (List Symbol)) → ((symbols : List Symbol) → AreLight symbols → length (middle symbols) ≤ costs (at + 1) symbols) → GroupsAreLight groups →
    length (nodes middle at groups) ≤ group_costs at groups
nodes-costs middle at [] of are = omega arith
nodes-costs middle at (group ∷ groups) of are = search (rules, node-costs, length-append, nodes-costs middle at groups of are.1)

trie-costs : (deep at : ℕ) (symbols : List Symbol) → AreLight symbols → length (trie deep at symbols) ≤ costs at symbols
unfolding trie
trie-costs zero at symbols are = omega arith
trie-costs (suc deep) at symbols are = grind (arith, nodes-costs, grouped-light, grouped-costs, trie-costs deep (at + 1))

-- each symbol takes at most 23 bytes
light-costs : (symbols : List Symbol) → AreLight symbols → costs 0 symbols ≤ 23 * length symbols
light-costs [] are = omega arith
light-costs (s ∷ more) are = let name = are.0.name in omega (arith, name, light-costs more are.1)

few-zeros : (n : ℕ) → length (zeros_after n) ≤ 3
few-zeros n = let count : length (zeros_after n) ≡ (4 - n % 4) % 4 = grind (arith, common_steps) in omega (arith, count)

pub trie-short : (names : NameTable) → AllByRecursion IsLight names.symbols → length names.symbols ≤ 10100 → length (padded_trie names) / 4 ≤ 65535
trie-short names are few = grind (arith, trie-costs, light-costs, few-zeros, length-append)
