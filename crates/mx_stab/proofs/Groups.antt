-- The first node of a trie, and what follows it.
use Rattle.std.proofs.Common.{◌≡◌, ℕ, zero, suc, ◌+◌, ◌-◌, ◌<◌, ◌==◌, List, [], ◌∷◌, ◌++◌, length, take, drop, Bool, true, false, refl, sym, ap, ◌∙◌, arith, append_assoc, append-nil, length-append, ◌≤◌, rules}
use Rattle.mx_stab.proofs.Words.{eqb-true, Symbol, next_byte, groups_of, symbols_below, has_symbols, node_front, trie, trie_from, longest, bytes_due, run_length, group_size, nat_tests}
use Rattle.mx_stab.specs.declared.writing.Pending.{Pending}

pub groups_of-first : (at : ℕ) (s : Symbol) (more : List Symbol) →
    groups_of at (s ∷ more) ≡ (s ∷ take (run_length at (next_byte at s) more) more) ∷ groups_of at (drop (run_length at (next_byte at s) more) more)
groups_of-first at s [] = refl
groups_of-first at s (t ∷ ts) = grind (arith, nat_tests, groups_of-first at t ts)

pub has_symbols-groups_of : (at : ℕ) (symbols : List Symbol) → has_symbols (groups_of at symbols) ≡ has_symbols symbols
has_symbols-groups_of at = grind arith

nodes-first : (deep at : ℕ) (symbols : List Symbol) → 0 < length symbols →
    trie (suc deep) at symbols ≡ node_front at (take (group_size at symbols) symbols) (has_symbols (drop (group_size at symbols) symbols))
    ++ trie deep (at + 1) (symbols_below at (take (group_size at symbols) symbols)) ++ trie (suc deep) at (drop (group_size at symbols) symbols)
unfolding trie
nodes-first deep at symbols h = search (rules, groups_of-first, has_symbols-groups_of)

pub first-node : (at : ℕ) (symbols : List Symbol) → at < 1024 → 0 < length symbols →
    trie_from at symbols ≡ node_front at (take (group_size at symbols) symbols) (has_symbols (drop (group_size at symbols) symbols))
    ++ trie_from (at + 1) (symbols_below at (take (group_size at symbols) symbols)) ++ trie_from at (drop (group_size at symbols) symbols)
first-node at symbols l h = grind (arith, nat_tests, nodes-first (longest - (at + 1)) at symbols h)

no-depth : (at : ℕ) (symbols : List Symbol) → trie zero at symbols ≡ []
unfolding trie
no-depth at symbols = refl

pub trie-deep : (at : ℕ) (symbols : List Symbol) → 1024 ≤ at → trie_from at symbols ≡ []
trie-deep at symbols l = search (rules, no-depth)

pub trie-none : (deep at : ℕ) → trie deep at [] ≡ []
unfolding trie
trie-none deep at = grind arith

pub bytes_due-push : (before : List Pending) (p : Pending) → bytes_due (before ++ p ∷ []) ≡ trie_from p.at p.symbols.now ++ bytes_due before
bytes_due-push [] p = sym (append-nil (trie_from p.at p.symbols.now))
bytes_due-push (q ∷ before) p = ap (λ xs. xs ++ trie_from q.at q.symbols.now) (bytes_due-push before p) ∙ append_assoc (trie_from p.at p.symbols.now) (bytes_due before) (trie_from q.at q.symbols.now)

-- what is on a node's way: the bytes before it, and what was noted before it
pub taken : (b c f t l r a d e : List ℕ) → t ≡ f ++ l ++ r → c ≡ b ++ f → d ≡ r ++ a → e ≡ l ++ d → c ++ e ≡ b ++ t ++ a
taken b c f t l r a d e ht hc hd he = rw (ht, hc, he, hd) (simp append_assoc)

pub nothing-taken : (b a t : List ℕ) → t ≡ [] → b ++ a ≡ b ++ t ++ a
nothing-taken b a t h = rw (h, append-nil) refl

pub taken-all : (b c t a d e w : List ℕ) → c ++ d ≡ b ++ t ++ a → e ≡ t ++ a → b ++ e ≡ w → c ++ d ≡ w
taken-all b c t a d e w h k m = h ∙ append_assoc b t a ∙ ap (λ xs. b ++ xs) (sym k) ∙ m

pub less-left : (b c t a d e : List ℕ) (m n : ℕ) → c ++ d ≡ b ++ t ++ a → e ≡ t ++ a → n + length b ≤ m + length c → length d + n < length e + (m + 1)
less-left b c t a d e m n h k l = grind (arith, nat_tests, length-append c d, length-append (b ++ t) a, length-append b t, length-append t a)

pub trie-empty : (at : ℕ) (symbols : List Symbol) → (length symbols == 0) ≡ true → trie_from at symbols ≡ []
trie-empty at [] h = trie-none (longest - at) at
trie-empty at (s ∷ more) h = absurd (omega (arith, eqb-true (length (s ∷ more)) 0 h))

some-symbol : (symbols : List Symbol) → (length symbols == 0) ≡ false → 0 < length symbols
some-symbol symbols h = grind arith

-- a node that is written, with what is noted after it
pub node-taken : (b c : List ℕ) (at k : ℕ) (symbols g o below : List Symbol) (s : Bool) (a d e : List ℕ) →
    at < 1024 → (length symbols == 0) ≡ false → k ≡ group_size at symbols → g ≡ take k symbols → o ≡ drop k symbols → s ≡ has_symbols o →
    below ≡ symbols_below at g → c ≡ b ++ node_front at g s → d ≡ trie_from at o ++ a → e ≡ trie_from (at + 1) below ++ d →
    c ++ e ≡ b ++ trie_from at symbols ++ a
node-taken b c at k symbols g o below s a d e l n hk hg ho hs hb hc hd he = search (rules, taken, first-node, some-symbol)

pub less-noted : (b c : List ℕ) (before after whole : List Pending) (p : Pending) →
    c ++ bytes_due after ≡ b ++ trie_from p.at p.symbols.now ++ bytes_due before → whole ≡ before ++ p ∷ [] → length after + length b ≤ length before + length c →
    length (bytes_due after) + length after < length (bytes_due whole) + length whole
less-noted b c before after whole p h k l =
    let more : length whole ≡ length before + 1 = ap length k ∙ length-append before (p ∷ []) in
    let less = less-left b c (trie_from p.at p.symbols.now) (bytes_due before) (bytes_due after) (bytes_due whole) (length before) (length after) h (ap bytes_due k ∙ bytes_due-push before p) l in
    omega (arith, more, less)

pub all-noted : (b c w : List ℕ) (before after whole : List Pending) (p : Pending) →
    c ++ bytes_due after ≡ b ++ trie_from p.at p.symbols.now ++ bytes_due before → whole ≡ before ++ p ∷ [] → b ++ bytes_due whole ≡ w →
    c ++ bytes_due after ≡ w
all-noted b c w before after whole p h k m =
    taken-all b c (trie_from p.at p.symbols.now) (bytes_due before) (bytes_due after) (bytes_due whole) w h (ap bytes_due k ∙ bytes_due-push before p) m
