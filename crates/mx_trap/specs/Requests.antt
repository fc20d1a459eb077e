-- What a file trap asks for, or the stop that comes before any call of the host. Where several stops apply, the first of
-- this order counts: a service that is not there, an argument octa, the text, the size, the buffer.
use Rattle.std.specs.Prelude.{ℕ, zero, suc, ◌+◌, ◌<◌, ◌≤◌, ◌^◌, ◌==◌, ◌&&◌, ◌||◌, nat_lt, List, map, Result, Ok, Err, if◌then◌else◌}
use Rattle.std.specs.List.{range_with_len}
use Rattle.mx_word.specs.Results.{map_ok}
use Rattle.mx_word.specs.Words.{signed_value}
use Rattle.mx_mem.specs.Space.{Contents, is_negative, octa_of}
use Rattle.mx_alu.specs.declared.call.TrapCall.{TrapCall}
use Rattle.mx_trap.specs.Services.{service_of}
use Rattle.mx_trap.specs.declared.answer.TrapStop.{TrapStop}
use Rattle.mx_trap.specs.declared.answer.TrapStop.TheVariants.{Negative, TransferTooLarge}
use Rattle.mx_trap.specs.declared.service.Service.{Service}
use Rattle.mx_trap.specs.declared.service.Service.TheVariants.{Halt, Fopen, Fclose, Fread, Fgets, Fwrite, Fputs, Fseek, Ftell}
use Rattle.mx_trap.specs.declared.requests.Request.{Request}
use Rattle.mx_trap.specs.declared.requests.Request.TheVariants.{Ending, Opening, Closing, Reading, ReadingLine, Writing, WritingText, Seeking, Telling}

-- the bytes at n addresses, from a on
unfoldable pub bytes_from : (ℕ → ℕ) → ℕ → ℕ → List ℕ
bytes_from bytes a n = map bytes (range_with_len a n)

-- the same of a space: `holds` is what it holds
abbrev pub bytes_held : {M Rest : Type 0} → (M → Contents Rest) → M → ℕ → ℕ → List ℕ
bytes_held holds space a n = bytes_from (holds space).bytes a n

-- the most bytes of a buffer, and of a text before its zero byte
abbrev pub most_bytes : ℕ
most_bytes = 2 ^ 24

-- the argument octas p at b and q at b + 8
abbrev pub arguments : (ℕ → ℕ) → ℕ → Result (ℕ × ℕ) TrapStop
arguments bytes b =
    if is_negative b || is_negative (b + 8) then Err Negative else Ok (octa_of bytes b, octa_of bytes (b + 8))

-- the byte at an address
abbrev pub byte_at : (ℕ → ℕ) → ℕ → Result ℕ TrapStop
byte_at bytes a = if is_negative a then Err Negative else Ok (bytes a)

-- what follows a byte of a text, where there is room for none and where there is
abbrev pub last_byte : Result ℕ TrapStop → Result ℕ TrapStop
last_byte (Err stop) = Err stop
last_byte (Ok b) = if b == 0 then Ok 0 else Err TransferTooLarge

abbrev pub next_byte : Result ℕ TrapStop → Result ℕ TrapStop → Result ℕ TrapStop
next_byte more (Err stop) = Err stop
next_byte more (Ok b) = if b == 0 then Ok 0 else map_ok (λ n. n + 1) more

-- the number of bytes of the text at a, up to the first zero byte, with room for this many; it is read no further than
-- the byte that decides: the zero byte, one of a negative address, or the first that has no room
unfoldable pub text_length : ℕ → (ℕ → ℕ) → ℕ → Result ℕ TrapStop
text_length zero bytes a = last_byte (byte_at bytes a)
text_length (suc room) bytes a = next_byte (text_length room bytes (a + 1)) (byte_at bytes a)

-- a buffer of q bytes at p, of which none has a negative address
abbrev pub good_buffer : Result (ℕ × ℕ) TrapStop → Result (ℕ × ℕ) TrapStop
good_buffer (Err stop) = Err stop
good_buffer (Ok (p, q)) =
    if nat_lt most_bytes q then Err TransferTooLarge
    else if nat_lt 0 q && nat_lt (2 ^ 63) (p + q) then Err Negative
    else Ok (p, q)

abbrev pub buffer : (ℕ → ℕ) → ℕ → Result (ℕ × ℕ) TrapStop
buffer bytes b = good_buffer (arguments bytes b)

-- the text at p is the name of a file, and q is the number of a mode
abbrev pub opening_with : (ℕ → ℕ) → Result (ℕ × ℕ) TrapStop → Result Request TrapStop
opening_with bytes (Err stop) = Err stop
opening_with bytes (Ok (p, q)) = map_ok (λ size. Opening p size q) (text_length most_bytes bytes p)

abbrev pub opening : (ℕ → ℕ) → ℕ → Result Request TrapStop
opening bytes b = opening_with bytes (arguments bytes b)

-- what a service asks for, where $255 is b
abbrev pub request_by : (ℕ → ℕ) → ℕ → Service → Result Request TrapStop
request_by bytes b Halt = Ok Ending
request_by bytes b Fopen = opening bytes b
request_by bytes b Fclose = Ok Closing
request_by bytes b Fread = map_ok (λ (t : ℕ × ℕ). Reading t.0 t.1) (buffer bytes b)
request_by bytes b Fgets = map_ok (λ (t : ℕ × ℕ). ReadingLine t.0 t.1) (buffer bytes b)
request_by bytes b Fwrite = map_ok (λ (t : ℕ × ℕ). Writing t.0 t.1) (buffer bytes b)
request_by bytes b Fputs = map_ok (λ size. WritingText b size) (text_length most_bytes bytes b)
request_by bytes b Fseek = Ok (Seeking (signed_value b))
request_by bytes b Ftell = Ok Telling

abbrev pub request_after : (ℕ → ℕ) → ℕ → Result Service TrapStop → Result Request TrapStop
request_after bytes b (Err stop) = Err stop
request_after bytes b (Ok service) = request_by bytes b service

-- what a call asks for
unfoldable pub request_of : (ℕ → ℕ) → TrapCall → Result Request TrapStop
request_of bytes call = request_after bytes call.arg (service_of call.word)

-- the bytes at an address are few, and none has a negative address
pub record AreInBounds (at size : ℕ) : Type 0 where
  pub few : size ≤ 2 ^ 24
  pub below : 0 < size → at + size ≤ 2 ^ 63

-- what is asked for lies within its bounds
abbrev pub IsInBounds : Request → Type 0
IsInBounds Ending = Unit {0}
IsInBounds (Opening at size mode) = AreInBounds at size
IsInBounds Closing = Unit {0}
IsInBounds (Reading at size) = AreInBounds at size
IsInBounds (ReadingLine at size) = AreInBounds at size
IsInBounds (Writing at size) = AreInBounds at size
IsInBounds (WritingText at size) = AreInBounds at size
IsInBounds (Seeking to) = Unit {0}
IsInBounds Telling = Unit {0}
