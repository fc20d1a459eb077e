-- RESUME 0: it goes back to where a trip came from, or performs an instruction that rX holds.
-- (MMIXware, the part on MMIX, "Trips and traps": RESUME, rW and rX. What is left out: a rule of this program.)
use Rattle.std.specs.Prelude.{ℕ, ◌+◌, ◌-◌, ◌*◌, ◌/◌, ◌%◌, ◌^◌, Bool, not, ◌&&◌, ◌||◌, ◌==◌, nat_le, nat_lt, Option, None, Some, if◌then◌else◌}
use Rattle.mx_alu.specs.declared.insertion.Insert.{Insert}
use Rattle.mx_alu.specs.declared.insertion.Insert.TheVariants.{Back, Perform, Illegal, LeftOut}
use Rattle.mx_alu.specs.declared.insertion.Kind.{Kind}
use Rattle.mx_alu.specs.declared.insertion.Kind.TheVariants.{Again, Continue, Set}

-- THE PARTS OF rX AND rW

-- an instruction with the top bit set, as a trip leaves it in rX
abbrev pub marked_instruction : ℕ → ℕ
marked_instruction w = 2 ^ 63 + w

-- whether rX has the top bit set
abbrev pub goes_back : ℕ → Bool
goes_back rx = nat_le (2 ^ 63) rx

-- what the top byte of rX asks for
abbrev pub kind_of : ℕ → Option Kind
kind_of rx =
    if rx / 2 ^ 56 == 0 then Some Again
    else if rx / 2 ^ 56 == 1 then Some Continue
    else if rx / 2 ^ 56 == 2 then Some Set
    else None

-- bits 40 to 47 of rX, the events that come with a register that is set
abbrev pub event_byte : ℕ → ℕ
event_byte rx = rx / 2 ^ 40 % 2 ^ 8

-- the low tetra of rX, which is the inserted instruction
abbrev pub inserted_tetra : ℕ → ℕ
inserted_tetra rx = rx % 2 ^ 32

-- the code of a tetra, and its byte X
abbrev pub code_in : ℕ → ℕ
code_in w = w / 2 ^ 24

abbrev pub x_in : ℕ → ℕ
x_in w = w / 2 ^ 16 % 2 ^ 8

-- the address of the tetra at an address
abbrev pub tetra_address : ℕ → ℕ
tetra_address a = 4 * (a / 4)

-- where the inserted instruction counts: one tetra before the one that rW names
abbrev pub insertion_place : ℕ → ℕ
insertion_place next = (tetra_address next + (2 ^ 64 - 4)) % 2 ^ 64

-- WHAT IS REFUSED

-- the codes of TRAP and RESUME
abbrev pub trap_code : ℕ
trap_code = 0x00

abbrev pub resume_code : ℕ
resume_code = 0xf9

-- whether a code has no operands y and z that rY and rZ could be: branches, loads and stores, and from #f0 on
abbrev pub has_own_operands : ℕ → Bool
has_own_operands code =
    (nat_le 0x40 code && nat_le code 0x5f) || (nat_le 0x80 code && nat_le code 0xbf) || nat_le 0xf0 code

-- whether $x is marginal: neither local nor global
abbrev pub is_marginal : ℕ → ℕ → ℕ → Bool
is_marginal x l g = nat_le l x && nat_lt x g

-- whether the insertion of a tetra is illegal
abbrev pub is_illegal : Kind → ℕ → ℕ → ℕ → Bool
is_illegal Again w l g = code_in w == resume_code
is_illegal Continue w l g = code_in w == resume_code || has_own_operands (code_in w) || is_marginal (x_in w) l g
is_illegal Set w l g = code_in w == resume_code || is_marginal (x_in w) l g

-- whether it is left out: a trap is not performed again, and no register is set with events
abbrev pub is_left_out : Kind → ℕ → ℕ → Bool
is_left_out Again w events = code_in w == trap_code
is_left_out Continue w events = code_in w == trap_code
is_left_out Set w events = not (events == 0)

-- WHAT RESUME 0 COMES TO

-- a tetra is performed at a place
abbrev pub insertion_of : Option Kind → ℕ → ℕ → ℕ → ℕ → ℕ → Insert
insertion_of None w events place l g = Illegal
insertion_of (Some kind) w events place l g =
    if is_illegal kind w l g then Illegal
    else if is_left_out kind w events then LeftOut
    else Perform kind place w

-- RESUME 0 with this rX, L and G, and next in rW
abbrev pub insertion : ℕ → ℕ → ℕ → ℕ → Insert
insertion rx next l g =
    if goes_back rx then Back (tetra_address next)
    else insertion_of (kind_of rx) (inserted_tetra rx) (event_byte rx) (insertion_place next) l g
