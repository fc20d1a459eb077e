-- What an instruction costs (TAOCP 1, Fascicle 1, Table 1): its υ, which are called oops here, and its μ, which are called mems,
-- by the first byte of its tetra. The floating-point instructions, which no step completes, are left out of the table.
use Rattle.std.specs.Prelude.{ℕ, nat_le, ◌&&◌, ◌||◌, ◌==◌, Bool, if◌then◌else◌}

-- whether a code is one of a row of codes
abbrev pub is_within : ℕ → ℕ → ℕ → Bool
is_within first last code = nat_le first code && nat_le code last

-- υ+π and 3υ-π, where π is 2υ for a branch that is taken, and 0 for another
abbrev pub branch_oops : Bool → ℕ
branch_oops taken = if taken then 3 else 1

abbrev pub probable_oops : Bool → ℕ
probable_oops taken = if taken then 1 else 3

-- the υ, by the code and whether the step went away from the next address
unfoldable pub oops : ℕ → Bool → ℕ
oops code away =
    if is_within 0x40 0x4f code then branch_oops away  -- BN to BEV
    else if is_within 0x50 0x5f code then probable_oops away  -- PBN to PBEV
    else if is_within 0x18 0x1b code then 10  -- MUL, MULU
    else if is_within 0x1c 0x1f code then 60  -- DIV, DIVU
    else if is_within 0x94 0x95 code then 2  -- CSWAP
    else if is_within 0x9e 0x9f code then 3  -- GO
    else if is_within 0xbe 0xbf code then 3  -- PUSHGO
    else if code == 0xf8 then 3  -- POP
    else if code == 0xf9 || code == 0x00 || code == 0xff then 5  -- RESUME, TRAP, TRIP
    else 1

-- the μ
unfoldable pub mems : ℕ → ℕ
mems code =
    if is_within 0x80 0x93 code then 1  -- LDB to LDHT
    else if is_within 0x94 0x95 code then 2  -- CSWAP
    else if is_within 0x96 0x97 code then 1  -- LDUNC
    else if is_within 0xa0 0xb7 code then 1  -- STB to STUNC
    else if is_within 0xfa 0xfb code then 20  -- SAVE, UNSAVE
    else 0
