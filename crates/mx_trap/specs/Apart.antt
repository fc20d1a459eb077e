-- Spaces that are the same outside Stack_Segment, the addresses from #6000000000000000 up to below 2^63.
use Rattle.std.specs.Prelude.{ℕ, ◌≡◌, ◌≤◌, ◌<◌, false, if◌then◌else◌}
use Rattle.mx_mem.specs.Space.{Contents}
use Rattle.mx_plan.specs.Counts.{unscheduled}
use Rattle.mx_trap.specs.Moves.{Leaves}
use Rattle.mx_word.specs.Segments.{is_in_stack_segment}

-- the bytes, with others in Stack_Segment
abbrev pub with_segment : (ℕ → ℕ) → (ℕ → ℕ) → ℕ → ℕ
with_segment others bytes a = if is_in_stack_segment a then others a else bytes a

-- the contents, with other bytes in Stack_Segment and other things beside them
abbrev pub apart : {A B : Type 0} → (ℕ → ℕ) → B → Contents A → Contents B
apart others rest s = record {
  bytes = with_segment others s.bytes;
  pages = s.pages;
  page_count = s.page_count;
  is_stack_apart = s.is_stack_apart;
  rest = rest;
}

-- what a call answers and leaves, in contents like these
abbrev pub leaves_apart : {X A B : Type 0} → (ℕ → ℕ) → B → Leaves X A → Leaves X B
leaves_apart others rest t = (t.0, apart others rest t.1, t.2)

-- none of the addresses from a up to below e lies in Stack_Segment
abbrev pub IsClear : ℕ → ℕ → Type 0
IsClear a e = (q : ℕ) → a ≤ q → q < e → is_in_stack_segment q ≡ false

-- what a call answers and leaves, but for the number of calls and the list of those that fail
abbrev pub leaves_unscheduled : {A Rest : Type 0} → Leaves A Rest → Leaves A Rest
leaves_unscheduled t = (t.0, t.1, unscheduled t.2)
