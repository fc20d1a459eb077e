-- The hidden octas of a window: the older ones lie in the stack area, the others in the ring (MMIXware, the part on
-- MMIX, rO and rS).
use Rattle.std.specs.Prelude.{ℕ, ◌+◌, ◌-◌, ◌^◌, min, nat_lt, if◌then◌else◌, List, [], ◌++◌, length, take, drop, replicate, slice_set}
use Rattle.mx_word.specs.Lists.{with_part}

pub record HiddenPart : Type 0 where
  -- the octas of the stack area
  pub stack : List ℕ
  -- how many hidden octas lie in the stack area, from its first octa on
  pub spilled : ℕ
  -- the hidden octas that lie in the ring, the oldest first
  pub resident : List ℕ

-- n zeros
unfoldable pub zeros : ℕ → List ℕ
zeros n = replicate n 0

-- nothing is hidden, and the stack area has 2^20 zeros
abbrev pub nothing_hidden : HiddenPart
nothing_hidden = record { stack = zeros (2 ^ 20); spilled = 0; resident = [] }

-- all hidden octas, the oldest first
abbrev pub octas_of : HiddenPart → List ℕ
octas_of h = take h.spilled h.stack ++ h.resident

-- octas are hidden, and lie in the ring
abbrev pub with_hidden : HiddenPart → List ℕ → HiddenPart
with_hidden h octas = record h { resident = h.resident ++ octas }

-- the n oldest octas of the ring go to the stack area, after those that lie there
unfoldable pub with_spilled : HiddenPart → ℕ → HiddenPart
with_spilled h n = record {
  stack = with_part h.stack h.spilled (take n h.resident);
  spilled = h.spilled + n;
  resident = drop n h.resident;
}

-- after a growth, where the ring has a number of registers and l of them are local: what is above that number
-- less one goes to the stack area, the oldest first
unfoldable pub with_room : HiddenPart → ℕ → ℕ → HiddenPart
with_room h l registers =
    if nat_lt (length h.resident + l) registers then h
    else with_spilled h (length h.resident + l + 1 - registers)

-- only the first n octas stay hidden
unfoldable pub with_first : HiddenPart → ℕ → HiddenPart
with_first h n = record h { spilled = min h.spilled n; resident = take (n - h.spilled) h.resident }

-- the first n octas of the stack area are the hidden ones
abbrev pub with_stack_first : HiddenPart → ℕ → HiddenPart
with_stack_first h n = record h { spilled = n; resident = [] }

-- an octa of the stack area is overwritten
abbrev pub with_octa : HiddenPart → ℕ → ℕ → HiddenPart
with_octa h i x = record h { stack = slice_set h.stack i x }

-- TAKEN BACK

-- this many octas are spilled, and these follow them; of the hidden octas in the ring this many stay, and these follow
abbrev pub rewound : HiddenPart → ℕ → ℕ → HiddenPart
rewound h spilled stays = record h { spilled = spilled; resident = take stays (drop spilled (octas_of h)) }

unfoldable pub put_back : HiddenPart → ℕ → List ℕ → ℕ → List ℕ → HiddenPart
put_back h spilled over stays gone = record {
  stack = with_part h.stack spilled over;
  spilled = spilled;
  resident = take stays (drop spilled (octas_of h)) ++ gone;
}
