-- Which calls touch Stack_Segment, the addresses from #6000000000000000 up to below 2^63.
use Rattle.std.specs.Prelude.{ℕ, ◌+◌, ◌-◌, ◌^◌, ◌%◌, Bool, true, false, ◌&&◌, ◌||◌, nat_le, nat_lt, Result, Ok, Err, if◌then◌else◌}
use Rattle.mx_word.specs.Segments.{stack_segment, is_in_stack_segment}
use Rattle.mx_alu.specs.declared.call.TrapCall.{TrapCall}
use Rattle.mx_trap.specs.Services.{service_of}
use Rattle.mx_trap.specs.Requests.{arguments, text_length, most_bytes}
use Rattle.mx_trap.specs.declared.answer.TrapStop.{TrapStop}
use Rattle.mx_trap.specs.declared.answer.TrapStop.TheVariants.{Negative, WideTrap, TransferTooLarge, TrapPagesFull, UnknownTrap}
use Rattle.mx_trap.specs.declared.service.Service.{Service}
use Rattle.mx_trap.specs.declared.service.Service.TheVariants.{Halt, Fopen, Fclose, Fread, Fgets, Fwrite, Fputs, Fseek, Ftell}

-- whether one of the n addresses a, a + 1 and so on lies there; they are sums modulo 2^64
abbrev pub meets_segment : ℕ → ℕ → Bool
meets_segment a n =
    if nat_lt a (2 ^ 63) then nat_lt 0 n && nat_lt stack_segment (a + n) else nat_lt (2 ^ 64 + stack_segment) (a + n)

-- how many bytes of the text at a are looked at below 2^63, by its length or by the stop that it meets
abbrev pub stop_reach : ℕ → TrapStop → ℕ
stop_reach a Negative = 2 ^ 63 - a
stop_reach a TransferTooLarge = most_bytes + 1
stop_reach a WideTrap = 0
stop_reach a TrapPagesFull = 0
stop_reach a UnknownTrap = 0

abbrev pub text_reach : ℕ → Result ℕ TrapStop → ℕ
text_reach a (Ok n) = n + 1
text_reach a (Err stop) = stop_reach a stop

-- whether a byte that is looked at in the text at a lies there
abbrev pub text_touches : (ℕ → ℕ) → ℕ → Bool
text_touches bytes a = meets_segment a (text_reach a (text_length most_bytes bytes a))

-- whether an argument octa lies there, or what follows from the arguments p and q
abbrev pub follows : (ℕ → ℕ → Bool) → Result (ℕ × ℕ) TrapStop → Bool
follows more (Err stop) = false
follows more (Ok (p, q)) = more p q

abbrev pub arguments_touch : (ℕ → ℕ → Bool) → (ℕ → ℕ) → ℕ → Bool
arguments_touch more bytes b =
    if is_in_stack_segment b || is_in_stack_segment ((b + 8) % 2 ^ 64) then true else follows more (arguments bytes b)

-- whether a service looks at a byte there, where $255 is b
abbrev pub service_touches : (ℕ → ℕ) → ℕ → Service → Bool
service_touches bytes b Halt = false
service_touches bytes b Fopen = arguments_touch (λ p q. text_touches bytes p) bytes b
service_touches bytes b Fclose = false
service_touches bytes b Fread = arguments_touch meets_segment bytes b
service_touches bytes b Fgets = arguments_touch meets_segment bytes b
service_touches bytes b Fwrite = arguments_touch meets_segment bytes b
service_touches bytes b Fputs = text_touches bytes b
service_touches bytes b Fseek = false
service_touches bytes b Ftell = false

abbrev pub touches_by : (ℕ → ℕ) → ℕ → Result Service TrapStop → Bool
touches_by bytes b (Err stop) = false
touches_by bytes b (Ok service) = service_touches bytes b service

-- whether a call is wild: an argument octa, a byte of the text that it reads or one of the bytes of its buffer lies there
unfoldable pub is_wild : (ℕ → ℕ) → TrapCall → Bool
is_wild bytes call = touches_by bytes call.arg (service_of call.word)

-- whether the TRAP itself lies there or its call is wild
unfoldable pub touches : (ℕ → ℕ) → TrapCall → Bool
touches bytes call = is_in_stack_segment call.pc || is_wild bytes call
