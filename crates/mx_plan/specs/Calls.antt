-- The calls of a host, of a space, and of both (MMIXware, MMIX-SIM, "Simulating a simple operating system").
use Rattle.std.specs.Prelude.{ℕ, ℤ, IsTrue, ◌≡◌, nat_le, List, Result, Err, if◌then◌else◌}
use Rattle.mx_mem.specs.Space.{Contents, put_answer, makes_page}
use Rattle.mx_mem.specs.declared.space.SpaceFault.{SpaceFault}
use Rattle.mx_host.specs.HostModel.{HostModel}
use Rattle.mx_host.specs.HostAnswer.{open_answer, close_answer, read_answer, write_answer, seek_answer, tell_answer}
use Rattle.mx_host.specs.Keeping.{Lacked}
use Rattle.mx_host.specs.declared.faults.HostFault.{HostFault}
use Rattle.mx_host.specs.declared.faults.HostFault.TheVariants.{Misused}
use Rattle.mx_host.specs.declared.faults.OpenFault.{OpenFault}
use Rattle.mx_host.specs.declared.faults.OpenFault.TheVariants.{Absent}
use Rattle.mx_host.specs.declared.slots.Mode.{Mode}
use Rattle.mx_plan.specs.Plan.{Plan, returns, calls, Acts}

-- ---- a host

-- A call on a slot. The last is no call of the host, but memory that a function takes between two calls: it is here, so
-- that a plan says where memory may run out.
pub data HostCall : Type 0 where
  opening : ℕ → List ℕ → Mode → HostCall
  closing : ℕ → HostCall
  reading : ℕ → ℕ → HostCall
  writing : ℕ → List ℕ → HostCall
  seeking : ℕ → ℤ → HostCall
  telling : ℕ → HostCall
  needing : HostCall

abbrev pub HostSays : HostCall → Type 0
HostSays (opening slot name mode) = Result (Unit {0}) OpenFault
HostSays (closing slot) = Result (Unit {0}) HostFault
HostSays (reading slot len) = Result (List ℕ) HostFault
HostSays (writing slot from) = Result (Unit {0}) HostFault
HostSays (seeking slot to) = Result (Unit {0}) HostFault
HostSays (telling slot) = Result ℕ HostFault
HostSays needing = Unit {0}

-- what a call answers and leaves; slots 258 to 260 are the tool's standard streams, which no plan opens or closes
abbrev pub host_act : (o : HostCall) → HostModel → HostSays o × HostModel
host_act (opening slot name mode) m = if nat_le slot 257 then open_answer m slot name mode else (Err Absent, m)
host_act (closing slot) m = if nat_le slot 257 then close_answer m slot else (Err Misused, m)
host_act (reading slot len) m = read_answer m slot len
host_act (writing slot from) m = write_answer m slot from
host_act (seeking slot to) m = seek_answer m slot to
host_act (telling slot) m = tell_answer m slot
host_act needing m = (tt, m)

-- What is left where there is no memory: a call is counted all the same, and is none that is to fail.
abbrev pub HostLacks : HostCall → HostModel → HostModel → Type 0
HostLacks (opening slot name mode) m n = Lacked m n
HostLacks (closing slot) m n = Lacked m n
HostLacks (reading slot len) m n = Lacked m n
HostLacks (writing slot from) m n = Lacked m n
HostLacks (seeking slot to) m n = Lacked m n
HostLacks (telling slot) m n = Lacked m n
HostLacks needing m n = n ≡ m

unfoldable pub host : Acts HostCall HostSays HostModel
host = record { act = host_act; Lacks = HostLacks }

abbrev pub HostPlan : Type 0 → Type 0
HostPlan A = Plan HostCall HostSays A

-- each call as a plan
unfoldable pub open_plan : ℕ → List ℕ → Mode → HostPlan (Result (Unit {0}) OpenFault)
open_plan slot name mode = calls (opening slot name mode) (λ r. returns r)

unfoldable pub close_plan : ℕ → HostPlan (Result (Unit {0}) HostFault)
close_plan slot = calls (closing slot) (λ r. returns r)

unfoldable pub read_plan : ℕ → ℕ → HostPlan (Result (List ℕ) HostFault)
read_plan slot len = calls (reading slot len) (λ r. returns r)

unfoldable pub write_plan : ℕ → List ℕ → HostPlan (Result (Unit {0}) HostFault)
write_plan slot from = calls (writing slot from) (λ r. returns r)

unfoldable pub seek_plan : ℕ → ℤ → HostPlan (Result (Unit {0}) HostFault)
seek_plan slot to = calls (seeking slot to) (λ r. returns r)

unfoldable pub tell_plan : ℕ → HostPlan (Result ℕ HostFault)
tell_plan slot = calls (telling slot) (λ r. returns r)

unfoldable pub need : HostPlan (Unit {0})
need = calls needing (λ u. returns u)

-- ---- a space

-- a byte is put at an address
pub data SpaceCall : Type 0 where
  putting : ℕ → ℕ → SpaceCall

abbrev pub SpaceSays : SpaceCall → Type 0
SpaceSays (putting a b) = Result (Unit {0}) SpaceFault

abbrev pub space_act : {Rest : Type 0} → (o : SpaceCall) → Contents Rest → SpaceSays o × Contents Rest
space_act (putting a b) s = put_answer s a b

-- memory lacks only where the byte makes a page; then nothing changed
abbrev pub SpaceLacks : {Rest : Type 0} → SpaceCall → Contents Rest → Contents Rest → Type 0
SpaceLacks (putting a b) s t = IsTrue (makes_page s a) × (t ≡ s)

unfoldable pub space : {Rest : Type 0} → Acts SpaceCall SpaceSays (Contents Rest)
space = record { act = space_act; Lacks = SpaceLacks }

abbrev pub SpacePlan : Type 0 → Type 0
SpacePlan A = Plan SpaceCall SpaceSays A

unfoldable pub put_plan : ℕ → ℕ → SpacePlan (Result (Unit {0}) SpaceFault)
put_plan a b = calls (putting a b) (λ r. returns r)

-- ---- both

-- a call of the host, one of the space, or a look at the bytes of the space
pub data BothCall : Type 0 where
  of_host : HostCall → BothCall
  of_space : SpaceCall → BothCall
  looking : BothCall

abbrev pub BothSays : BothCall → Type 0
BothSays (of_host o) = HostSays o
BothSays (of_space o) = SpaceSays o
BothSays looking = ℕ → ℕ

abbrev pub Both : Type 0 → Type 0
Both Rest = Contents Rest × HostModel

-- an answer and the host after it, beside a space; and an answer and the space after it, beside a host
abbrev pub beside_space : {A Rest : Type 0} → Contents Rest → A × HostModel → A × Both Rest
beside_space s t = (t.0, (s, t.1))

abbrev pub beside_host : {A Rest : Type 0} → HostModel → A × Contents Rest → A × Both Rest
beside_host m t = (t.0, (t.1, m))

abbrev pub both_act : {Rest : Type 0} → (o : BothCall) → Both Rest → BothSays o × Both Rest
both_act (of_host o) w = beside_space w.0 (host.act o w.1)
both_act (of_space o) w = beside_host w.1 (space.act o w.0)
both_act looking w = (w.0.bytes, w)

-- a look takes no memory
abbrev pub BothLacks : {Rest : Type 0} → BothCall → Both Rest → Both Rest → Type 0
BothLacks (of_host o) w v = (v.0 ≡ w.0) × host.Lacks o w.1 v.1
BothLacks (of_space o) w v = space.Lacks o w.0 v.0 × (v.1 ≡ w.1)
BothLacks looking w v = ⊥

unfoldable pub both : {Rest : Type 0} → Acts BothCall BothSays (Both Rest)
both = record { act = both_act; Lacks = BothLacks }

abbrev pub BothPlan : Type 0 → Type 0
BothPlan A = Plan BothCall BothSays A

unfoldable pub look : BothPlan (ℕ → ℕ)
look = calls looking (λ bytes. returns bytes)

-- a plan over one of the two
unfoldable pub on_host : {A : Type 0} → HostPlan A → BothPlan A
on_host (returns a) = returns a
on_host (calls o k) = calls (of_host o) (λ r. on_host (k r))

unfoldable pub on_space : {A : Type 0} → SpacePlan A → BothPlan A
on_space (returns a) = returns a
on_space (calls o k) = calls (of_space o) (λ r. on_space (k r))
