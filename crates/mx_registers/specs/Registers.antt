-- The 256 registers that an instruction sees (MMIXware, the part on MMIX, "The register stack"; TAOCP 1, Fascicle 1,
-- section 1.4.1').
use Rattle.std.specs.Prelude.{ℕ, ◌-◌, ◌==◌, ◌&&◌, Bool, nat_lt, nat_le, if◌then◌else◌, List, [], ◌∷◌, ◌++◌, length, take, drop, replicate, slice_index, slice_set}

-- $k is global from G on, local below L, which is the number of locals, and otherwise marginal.
pub record Registers : Type 0 where
  -- the local registers, $0 first
  pub locals : List ℕ
  -- G, the number of the first global register
  pub first_global : ℕ
  -- the global registers, from $G to $255
  pub globals : List ℕ

-- at the start L is 0 and G is 255
abbrev pub registers_at_start : Registers
registers_at_start = record { locals = []; first_global = 255; globals = 0 ∷ [] }

-- GET AND SET

-- whether $k is neither global nor local
abbrev pub is_marginal : Registers → ℕ → Bool
is_marginal v k = nat_lt k v.first_global && nat_le (length v.locals) k

-- what $k has: a marginal register has 0
unfoldable pub value_of : Registers → ℕ → ℕ
value_of v k =
    if nat_le v.first_global k then slice_index v.globals (k - v.first_global)
    else if nat_lt k (length v.locals) then slice_index v.locals k
    else 0

-- the registers once $k is given a value: a marginal register becomes local, with zeros between
unfoldable pub with_value : Registers → ℕ → ℕ → Registers
with_value v k x =
    if nat_le v.first_global k then record v { globals = slice_set v.globals (k - v.first_global) x }
    else if nat_lt k (length v.locals) then record v { locals = slice_set v.locals k x }
    else record v { locals = v.locals ++ replicate (k - length v.locals) 0 ++ x ∷ [] }

-- PUT TO rL AND rG

-- L falls to l
abbrev pub with_locals_cut : Registers → ℕ → Registers
with_locals_cut v l = record v { locals = take l v.locals }

-- G becomes g: a register that is global only afterwards is 0, and so is one that was global only before
abbrev pub with_globals_from : Registers → ℕ → Registers
with_globals_from v g =
    record v { first_global = g; globals = replicate (v.first_global - g) 0 ++ drop (g - v.first_global) v.globals }

-- PUSHJ AND PUSHGO

-- the number that PUSH X,YZ hides: X, but L where $X is global
abbrev pub push_number : Registers → ℕ → ℕ
push_number v x = if nat_lt x v.first_global then x else length v.locals

-- the first n registers, $0 to $(n-1), where they are local or marginal
abbrev pub registers_below : Registers → ℕ → List ℕ
registers_below v n = take n v.locals ++ replicate (n - length v.locals) 0

-- the first n locals are gone, and what follows them becomes $0 and so on
abbrev pub registers_from : Registers → ℕ → Registers
registers_from v n = record v { locals = drop n v.locals }

-- POP

-- the results of POP X,YZ among the locals, the one for the hole first: none for X = 0, $(X-1) and then $0 to
-- $(X-2), or where X is above L a 0 and all locals
abbrev pub results : List ℕ → ℕ → List ℕ
results locals x =
    if x == 0 then []
    else if nat_le x (length locals) then slice_index locals (x - 1) ∷ take (x - 1) locals
    else 0 ∷ locals

-- octas come back as $0 and so on, and the results of POP X,YZ follow them, at most G registers in all
abbrev pub with_returned : Registers → List ℕ → ℕ → Registers
with_returned v octas x = record v { locals = take v.first_global (octas ++ results v.locals x) }
