-- What a space of bytes is, and what its calls answer.
use Rattle.std.specs.Prelude.{ℕ, ◌+◌, ◌*◌, ◌/◌, ◌^◌, Bool, false, ◌==◌, ◌&&◌, not, nat_le, nat_lt, if◌then◌else◌, [], ◌∷◌, map, Result, Ok, Err}
use Rattle.mx_word.specs.Words.{octa_from_bytes}
use Rattle.mx_word.specs.Octas.{with_page}
use Rattle.mx_mem.specs.Memory.{Stored, byte_at, has_page, page_count}
use Rattle.mx_mem.specs.declared.space.SpaceFault.{SpaceFault}
use Rattle.mx_mem.specs.declared.space.SpaceFault.TheVariants.{Negative, PagesFull}

-- the bytes by their addresses; the pages that are there, by their numbers, and how many they are; whether the stack area
-- lies outside the pages; and all else that belongs to the space, of a type that the implementer names
pub record Contents (Rest : Type 0) : Type 0 where
  pub bytes : ℕ → ℕ
  pub pages : ℕ → Bool
  pub page_count : ℕ
  pub is_stack_apart : Bool
  pub rest : Rest

-- whether an address is refused
abbrev pub is_negative : ℕ → Bool
is_negative a = nat_le (2 ^ 63) a

-- whether an address lies in the stack area, the 2^23 bytes from #6000000000000000 on
abbrev pub is_in_stack_area : ℕ → Bool
is_in_stack_area a = nat_le 0x6000_0000_0000_0000 a && nat_lt a 0x6000_0000_0080_0000

-- whether a byte put at an address begins a page
abbrev pub begins_page : {Rest : Type 0} → Contents Rest → ℕ → Bool
begins_page s a = not (s.is_stack_apart && is_in_stack_area a) && not (s.pages (a / 4096))

-- whether it makes one, which is not refused
abbrev pub makes_page : {Rest : Type 0} → Contents Rest → ℕ → Bool
makes_page s a = not (is_negative a) && (begins_page s a && not (s.page_count == 65536))

-- the contents with a byte put at an address, without and with a new page for it
abbrev pub with_byte : {Rest : Type 0} → Contents Rest → ℕ → ℕ → Contents Rest
with_byte s a b = record s { bytes = λ q. if q == a then b else s.bytes q }

abbrev pub with_byte_page : {Rest : Type 0} → Contents Rest → ℕ → ℕ → Contents Rest
with_byte_page s a b =
    record (with_byte s a b) { pages = with_page s.pages (a / 4096); page_count = s.page_count + 1 }

-- the octa that holds an address, of its eight bytes
abbrev pub octa_of : (ℕ → ℕ) → ℕ → ℕ
octa_of bytes a = octa_from_bytes (map (λ k. bytes (8 * (a / 8) + k)) (0 ∷ 1 ∷ 2 ∷ 3 ∷ 4 ∷ 5 ∷ 6 ∷ 7 ∷ []))

-- what the calls answer
abbrev pub octa_answer : {Rest : Type 0} → Contents Rest → ℕ → Result ℕ SpaceFault
octa_answer s a = if is_negative a then Err Negative else Ok (octa_of s.bytes a)

abbrev pub byte_answer : {Rest : Type 0} → Contents Rest → ℕ → Result ℕ SpaceFault
byte_answer s a = if is_negative a then Err Negative else Ok (s.bytes a)

-- the answer of `put_byte`, unless it finds no memory, and the contents after it
abbrev pub put_answer : {Rest : Type 0} → Contents Rest → ℕ → ℕ → Result (Unit {0}) SpaceFault × Contents Rest
put_answer s a b =
    if is_negative a then (Err Negative, s)
    else if not (begins_page s a) then (Ok tt, with_byte s a b)
    else if s.page_count == 65536 then (Err PagesFull, s)
    else (Ok tt, with_byte_page s a b)

-- memory as a space: its pages have the stack area, and it has nothing else
abbrev pub memory_contents : Stored → Contents (Unit {0})
memory_contents m = record {
  bytes = byte_at m;
  pages = has_page m;
  page_count = page_count m;
  is_stack_apart = false;
  rest = tt;
}
