-- Trips: what an event comes to, by the bits of rA.
-- (MMIXware, the part on MMIX, "Trips and traps": rA and the handlers; TAOCP 1, Fascicle 1, section 1.3.1'.)
use Rattle.std.specs.Prelude.{ℕ, ◌*◌, ◌^◌, Bool, not, ◌==◌, if◌then◌else◌}
use Rattle.std.specs.Int.Bits.{bit_and, bit_or}
use Rattle.mx_alu.specs.declared.answer.Event.{Event}
use Rattle.mx_alu.specs.declared.answer.Event.TheVariants.{Divide, Overflow}
use Rattle.mx_alu.specs.declared.decision.Trip.{Trip}
use Rattle.mx_alu.specs.declared.decision.Trip.TheVariants.{Taken, Noted}

-- the bit of rA that notes an event: D and V of the eight bits D, V, W, I, O, U, Z and X from #80 to #01
abbrev pub event_bit : Event → ℕ
event_bit Divide = 0x80
event_bit Overflow = 0x40

-- the bit that enables its trip is eight places higher
abbrev pub enable_bit : Event → ℕ
enable_bit event = event_bit event * 2 ^ 8

-- the address of its handler
abbrev pub handler : Event → ℕ
handler Divide = 16
handler Overflow = 32

-- whether its trip is enabled
abbrev pub is_enabled : ℕ → Event → Bool
is_enabled ra event = not (bit_and ra (enable_bit event) == 0)

-- an enabled event trips and sets no bit; another one is noted in rA
abbrev pub decided : ℕ → Event → Trip
decided ra event = if is_enabled ra event then Taken (handler event) else Noted (bit_or ra (event_bit event))
