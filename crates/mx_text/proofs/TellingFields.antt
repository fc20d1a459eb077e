-- The fields of a tetra are told by its operands.
use Rattle.std.proofs.Common.{◌≡◌, ℕ, ◌<◌, ◌≤◌, ◌+◌, ◌-◌, ◌*◌, ◌%◌, ◌^◌, Bool, true, false, not, ◌||◌, cond, [], ◌∷◌, refl, sym, arith}
use Rattle.mx_text.proofs.Words.{mod-lt, opcode_kind, is_immediate, is_backward, Shape, Three, Regs, Round, Neg, Rel, Mem, MemPure, Wyde, Jump, Put, Get, Pop, One, Save, Unsave, Free, field_code, field_x, field_y, field_z, field_yz, field_xyz, operands, hides_y, Operand, Register, Number, Address}

-- the part of a tetra after its code that is shown
abbrev pub after_code : Shape → ℕ → ℕ
after_code s w = cond (hides_y s) (2 ^ 16 * field_x w + field_z w) (w % 2 ^ 24)

-- shapes with `$Z|n`, and those with an address
abbrev pub ends_in_z : Shape → Bool
ends_in_z Three = true
ends_in_z Round = true
ends_in_z Neg = true
ends_in_z Mem = true
ends_in_z MemPure = true
ends_in_z Put = true
ends_in_z Regs = false
ends_in_z Rel = false
ends_in_z Wyde = false
ends_in_z Jump = false
ends_in_z Get = false
ends_in_z Pop = false
ends_in_z One = false
ends_in_z Save = false
ends_in_z Unsave = false
ends_in_z Free = false

abbrev pub ends_in_address : Shape → Bool
ends_in_address Rel = true
ends_in_address Jump = true
ends_in_address Three = false
ends_in_address Round = false
ends_in_address Neg = false
ends_in_address Mem = false
ends_in_address MemPure = false
ends_in_address Put = false
ends_in_address Regs = false
ends_in_address Wyde = false
ends_in_address Get = false
ends_in_address Pop = false
ends_in_address One = false
ends_in_address Save = false
ends_in_address Unsave = false
ends_in_address Free = false

by-bytes : (w v : ℕ) → field_x w ≡ field_x v → field_y w ≡ field_y v → field_z w ≡ field_z v → w % 2 ^ 24 ≡ v % 2 ^ 24
by-bytes w v hx hy hz = omega (arith, hx, hy, hz)

by-wyde : (w v : ℕ) → field_x w ≡ field_x v → field_yz w ≡ field_yz v → w % 2 ^ 24 ≡ v % 2 ^ 24
by-wyde w v hx hyz = omega (arith, hx, hyz)

by-ends : (w v : ℕ) → field_x w ≡ field_x v → field_z w ≡ field_z v → 2 ^ 16 * field_x w + field_z w ≡ 2 ^ 16 * field_x v + field_z v
by-ends w v hx hz = rw (hx, hz) refl

apart : (pc n m most : ℕ) → pc < 2 ^ 64 → n < most → m < most → most ≤ 2 ^ 24 →
    (2 ^ 64 + pc + 4 * n - 4 * most) % 2 ^ 64 ≡ (pc + 4 * m) % 2 ^ 64 → true ≡ false
apart pc n m most lp ln lm le is = absurd (omega arith)

-- a target tells its direction and its field
same-target : (a b : Bool) (pc n m most : ℕ) → pc < 2 ^ 64 → n < most → m < most → most ≤ 2 ^ 24 →
    cond a ((2 ^ 64 + pc + 4 * n - 4 * most) % 2 ^ 64) ((pc + 4 * n) % 2 ^ 64) ≡ cond b ((2 ^ 64 + pc + 4 * m - 4 * most) % 2 ^ 64) ((pc + 4 * m) % 2 ^ 64) → (a ≡ b) × (n ≡ m)
same-target true true pc n m most lp ln lm le is = (refl, omega arith)
same-target true false pc n m most lp ln lm le is = absurd (cc (apart pc n m most lp ln lm le is))
same-target false true pc n m most lp ln lm le is = absurd (cc (apart pc m n most lp lm ln le (sym is)))
same-target false false pc n m most lp ln lm le is = (refl, omega arith)

-- $Z or the byte Z tells which it is
same-last : (a b : Bool) (z y : ℕ) → cond a (Number z) (Register z) ≡ cond b (Number y) (Register y) → (a ≡ b) × (z ≡ y)
same-last true false z y is = cc is
same-last false true z y is = cc is
same-last a b z y is = (refl, cc is)

one : (o p : Operand) → o ∷ [] ≡ p ∷ [] → o ≡ p
one o p is = cc is

two : (o o' p p' : Operand) → o ∷ o' ∷ [] ≡ p ∷ p' ∷ [] → (o ≡ p) × (o' ≡ p')
two o o' p p' is = (cc is, cc is)

three : (o o' o'' p p' p'' : Operand) → o ∷ o' ∷ o'' ∷ [] ≡ p ∷ p' ∷ p'' ∷ [] → (o ≡ p) × (o' ≡ p') × (o'' ≡ p'')
three o o' o'' p p' p'' is = (cc is, cc is, cc is)

registers : (k j : ℕ) → Register k ≡ Register j → k ≡ j
registers k j is = cc is

numbers : (n m : ℕ) → Number n ≡ Number m → n ≡ m
numbers n m is = cc is

addresses : (a b : ℕ) → Address a ≡ Address b → a ≡ b
addresses a b is = cc is

not-both : (a b : Bool) → not a ≡ true → not b ≡ true → a ≡ b
not-both true b ha hb = cc ha
not-both false true ha hb = cc hb
not-both false false ha hb = refl

-- what is shown: whether Z is immediate, whether the relative address is backward, and the part after the code
pub record Told (s : Shape) (w v : ℕ) : Type 0 where
  pub immediate : is_immediate (opcode_kind (field_code w)) ≡ is_immediate (opcode_kind (field_code v))
  pub backward : is_backward (opcode_kind (field_code w)) ≡ is_backward (opcode_kind (field_code v))
  pub rest : after_code s w ≡ after_code s v

-- the codes of a shape are immediate only where it has `$Z|n`, and backward only where it has an address
pub record KindFits (s : Shape) (w : ℕ) : Type 0 where
  pub z : (ends_in_z s || not (is_immediate (opcode_kind (field_code w)))) ≡ true
  pub address : (ends_in_address s || not (is_backward (opcode_kind (field_code w)))) ≡ true

yz-below : (w : ℕ) → field_yz w < 2 ^ 16
yz-below w = mod-lt w (omega arith)

xyz-below : (w : ℕ) → field_xyz w < 2 ^ 24
xyz-below w = mod-lt w (omega arith)

pub told : (s : Shape) (w v pc : ℕ) → pc < 2 ^ 64 → KindFits s w → KindFits s v → operands s w pc ≡ operands s v pc → Told s w v
told Three w v pc below fw fv same =
    let end : (is_immediate (opcode_kind (field_code w)) ≡ is_immediate (opcode_kind (field_code v))) × (field_z w ≡ field_z v) = same-last _ _ _ _ ((three _ _ _ _ _ _ same).2) in
    record { immediate = end.0; backward = not-both _ _ fw.address fv.address; rest = by-bytes w v (registers _ _ ((three _ _ _ _ _ _ same).0)) (registers _ _ ((three _ _ _ _ _ _ same).1)) end.1 }
told Regs w v pc below fw fv same =
    record { immediate = not-both _ _ fw.z fv.z; backward = not-both _ _ fw.address fv.address; rest = by-bytes w v (registers _ _ ((three _ _ _ _ _ _ same).0)) (registers _ _ ((three _ _ _ _ _ _ same).1)) (registers _ _ ((three _ _ _ _ _ _ same).2)) }
told Round w v pc below fw fv same =
    let end : (is_immediate (opcode_kind (field_code w)) ≡ is_immediate (opcode_kind (field_code v))) × (field_z w ≡ field_z v) = same-last _ _ _ _ ((three _ _ _ _ _ _ same).2) in
    record { immediate = end.0; backward = not-both _ _ fw.address fv.address; rest = by-bytes w v (registers _ _ ((three _ _ _ _ _ _ same).0)) (numbers _ _ ((three _ _ _ _ _ _ same).1)) end.1 }
told Neg w v pc below fw fv same =
    let end : (is_immediate (opcode_kind (field_code w)) ≡ is_immediate (opcode_kind (field_code v))) × (field_z w ≡ field_z v) = same-last _ _ _ _ ((three _ _ _ _ _ _ same).2) in
    record { immediate = end.0; backward = not-both _ _ fw.address fv.address; rest = by-bytes w v (registers _ _ ((three _ _ _ _ _ _ same).0)) (numbers _ _ ((three _ _ _ _ _ _ same).1)) end.1 }
told Rel w v pc below fw fv same =
    let end : (is_backward (opcode_kind (field_code w)) ≡ is_backward (opcode_kind (field_code v))) × (field_yz w ≡ field_yz v) =
    same-target _ _ pc (field_yz w) (field_yz v) (2 ^ 16) below (yz-below w) (yz-below v) (omega arith) (addresses _ _ ((two _ _ _ _ same).1)) in
    record { immediate = not-both _ _ fw.z fv.z; backward = end.0; rest = by-wyde w v (registers _ _ ((two _ _ _ _ same).0)) end.1 }
told Mem w v pc below fw fv same =
    let end : (is_immediate (opcode_kind (field_code w)) ≡ is_immediate (opcode_kind (field_code v))) × (field_z w ≡ field_z v) = same-last _ _ _ _ ((three _ _ _ _ _ _ same).2) in
    record { immediate = end.0; backward = not-both _ _ fw.address fv.address; rest = by-bytes w v (registers _ _ ((three _ _ _ _ _ _ same).0)) (registers _ _ ((three _ _ _ _ _ _ same).1)) end.1 }
told MemPure w v pc below fw fv same =
    let end : (is_immediate (opcode_kind (field_code w)) ≡ is_immediate (opcode_kind (field_code v))) × (field_z w ≡ field_z v) = same-last _ _ _ _ ((three _ _ _ _ _ _ same).2) in
    record { immediate = end.0; backward = not-both _ _ fw.address fv.address; rest = by-bytes w v (numbers _ _ ((three _ _ _ _ _ _ same).0)) (registers _ _ ((three _ _ _ _ _ _ same).1)) end.1 }
told Wyde w v pc below fw fv same =
    record { immediate = not-both _ _ fw.z fv.z; backward = not-both _ _ fw.address fv.address; rest = by-wyde w v (registers _ _ ((two _ _ _ _ same).0)) (numbers _ _ ((two _ _ _ _ same).1)) }
told Jump w v pc below fw fv same =
    let end : (is_backward (opcode_kind (field_code w)) ≡ is_backward (opcode_kind (field_code v))) × (field_xyz w ≡ field_xyz v) =
    same-target _ _ pc (field_xyz w) (field_xyz v) (2 ^ 24) below (xyz-below w) (xyz-below v) (omega arith) (addresses _ _ ((one _ _ same))) in
    record { immediate = not-both _ _ fw.z fv.z; backward = end.0; rest = end.1 }
told Put w v pc below fw fv same =
    let end : (is_immediate (opcode_kind (field_code w)) ≡ is_immediate (opcode_kind (field_code v))) × (field_z w ≡ field_z v) = same-last _ _ _ _ ((two _ _ _ _ same).1) in
    record { immediate = end.0; backward = not-both _ _ fw.address fv.address; rest = by-ends w v (numbers _ _ ((two _ _ _ _ same).0)) end.1 }
told Get w v pc below fw fv same =
    record { immediate = not-both _ _ fw.z fv.z; backward = not-both _ _ fw.address fv.address; rest = by-ends w v (registers _ _ ((two _ _ _ _ same).0)) (numbers _ _ ((two _ _ _ _ same).1)) }
told Pop w v pc below fw fv same =
    record { immediate = not-both _ _ fw.z fv.z; backward = not-both _ _ fw.address fv.address; rest = by-wyde w v (numbers _ _ ((two _ _ _ _ same).0)) (numbers _ _ ((two _ _ _ _ same).1)) }
told One w v pc below fw fv same =
    record { immediate = not-both _ _ fw.z fv.z; backward = not-both _ _ fw.address fv.address; rest = (numbers _ _ ((one _ _ same))) }
told Save w v pc below fw fv same =
    record { immediate = not-both _ _ fw.z fv.z; backward = not-both _ _ fw.address fv.address; rest = by-ends w v (registers _ _ ((two _ _ _ _ same).0)) (numbers _ _ ((two _ _ _ _ same).1)) }
told Unsave w v pc below fw fv same =
    record { immediate = not-both _ _ fw.z fv.z; backward = not-both _ _ fw.address fv.address; rest = by-ends w v (numbers _ _ ((two _ _ _ _ same).0)) (registers _ _ ((two _ _ _ _ same).1)) }
told Free w v pc below fw fv same =
    record { immediate = not-both _ _ fw.z fv.z; backward = not-both _ _ fw.address fv.address; rest = by-bytes w v (numbers _ _ ((three _ _ _ _ _ _ same).0)) (numbers _ _ ((three _ _ _ _ _ _ same).1)) (numbers _ _ ((three _ _ _ _ _ _ same).2)) }
