-- What instructions do, a line for each operation (MMIXware, the part on MMIX; TAOCP 1, Fascicle 1, section 1.3.1').
-- An effect is told in the state where the destination is local already; `Deeds` carries it out.
use Rattle.std.specs.Prelude.{ℕ, ◌+◌, ◌*◌, ◌%◌, ◌^◌, ◌==◌, Bool, true, false, if◌then◌else◌, List, [], ◌∷◌, ◌++◌, Option, None, Some}
use Rattle.mx_alu.specs.Alu.{alu}
use Rattle.mx_alu.specs.Names.{wyde_of}
use Rattle.mx_alu.specs.Truth.{truth}
use Rattle.mx_alu.specs.Wydes.{wyde}
use Rattle.mx_alu.specs.declared.answer.Answer.{Answer}
use Rattle.mx_alu.specs.declared.answer.Event.{Event}
use Rattle.mx_alu.specs.declared.answer.Extra.{Extra}
use Rattle.mx_mem.specs.declared.part.Part.{Part}
use Rattle.mx_mem.specs.declared.part.Part.TheVariants.{Octa}
use Rattle.mx_ops.specs.Opcodes.{opcode_kind, is_immediate}
use Rattle.mx_ring.specs.Stack.{register, stack_index, unsaved_specials}
use Rattle.mx_ring.specs.declared.saved.Saved.{Saved}
use Rattle.mx_code.specs.Puts.{put_of}
use Rattle.mx_code.specs.SpecialRegisters.{rB, rD, rE, rH, rJ, rM, rR, rG, rL, rA, rP, rW, rX, rY, rZ}
use Rattle.mx_code.specs.declared.put.Put.{Put}
use Rattle.mx_code.specs.declared.put.Put.TheVariants as put
use Rattle.mx_alu.specs.Trips.{decided}
use Rattle.mx_alu.specs.declared.decision.Trip.{Trip}
use Rattle.mx_alu.specs.declared.decision.Trip.TheVariants.{Taken, Noted}
use Rattle.mx_code.specs.Instructions.{code_of, x_of, y_of, z_of, yz_of, next_of, near_address, far_address, wyde_value}
use Rattle.mx_code.specs.declared.instruction.Instruction.{Instruction}
use Rattle.mx_code.specs.LoadsAndStores.{touch, loaded_part, loaded_value, stored_part, stored_value, stored_event}
use Rattle.mx_core.specs.State.{State, special_register, octa, global_start, locals}
use Rattle.mx_code.specs.declared.operation.Storing.{Storing}
use Rattle.mx_code.specs.declared.operation.Operation.{Operation}
use Rattle.mx_code.specs.declared.operation.Operation.TheVariants as op
use Rattle.mx_code.specs.declared.trace.Touch.{Touch}

-- what becomes of the register stack, besides a result
pub data Move : Type 0 where
  stays : Move
  pushes : ℕ → Move  -- PUSH X
  pops : ℕ → Move  -- POP X
  saves : ℕ → Saved → Move  -- SAVE to $X with these special registers
  unsaves : ℕ → Move  -- UNSAVE of the frame whose last octa has this index
  cuts : ℕ → Move  -- L falls to this number
  moves_globals : ℕ → Move  -- G becomes this number

-- whether frames are among what moves: POP may go below one that was saved, SAVE and UNSAVE end at one
abbrev pub moves_frames : Move → Bool
moves_frames (pops x) = true
moves_frames (saves x specials) = true
moves_frames (unsaves i) = true
moves_frames other = false

-- what is stored: the low bytes of a value, in the part that holds an address
pub record Store : Type 0 where
  pub at : ℕ
  pub part : Part
  pub value : ℕ

-- a trip to a handler, with the two operands
pub record Tripping : Type 0 where
  pub handler : ℕ
  pub y : ℕ
  pub z : ℕ

abbrev pub tripping : ℕ → ℕ → ℕ → Tripping
tripping handler y z = record { handler = handler; y = y; z = z }

pub record Effect : Type 0 where
  -- the value that the destination gets
  pub result : Option ℕ
  -- what it reads of memory, and what it stores
  pub load : Option Touch
  pub store : Option Store
  -- the special registers that get a value, by their codes
  pub special : List (ℕ × ℕ)
  pub move : Move
  -- where the machine goes on, unless it trips
  pub next : ℕ
  pub trip : Option Tripping

-- nothing but to go on
abbrev pub going_on : Instruction → Effect
going_on i = record { result = None; load = None; store = None; special = []; move = stays; next = next_of i; trip = None }

-- the destination gets a value
abbrev pub giving : Instruction → ℕ → Effect
giving i value = record (going_on i) { result = Some value }

-- the machine goes to an address
abbrev pub going_to : Instruction → ℕ → Effect
going_to i address = record (going_on i) { next = address }

-- OPERANDS

-- the registers $X and $Y
abbrev pub x_register : State → Instruction → ℕ
x_register s i = register s.stack (x_of i)

-- $Z, or Z at a code with an immediate byte
abbrev pub z_value : State → Instruction → ℕ
z_value s i = if is_immediate (opcode_kind (code_of i)) then z_of i else register s.stack (z_of i)

-- the operand y, and z, where one is not given by RESUME
abbrev pub given_y : Option (ℕ × ℕ) → ℕ → ℕ
given_y None own = own
given_y (Some (y, z)) own = y

abbrev pub given_z : Option (ℕ × ℕ) → ℕ → ℕ
given_z None own = own
given_z (Some (y, z)) own = z

abbrev pub y_operand : State → Instruction → ℕ
y_operand s i = given_y i.given (register s.stack (y_of i))

abbrev pub z_operand : State → Instruction → ℕ
z_operand s i = given_z i.given (z_value s i)

-- A: the address that $Y and $Z, or Z, tell together
abbrev pub data_address : State → Instruction → ℕ
data_address s i = (y_operand s i + z_operand s i) % 2 ^ 64

-- EVENTS

-- an event that trips, or is noted in rA
abbrev pub with_decision : Trip → ℕ → ℕ → Effect → Effect
with_decision (Taken handler) y z e = record e { trip = Some (record { handler = handler; y = y; z = z }) }
with_decision (Noted a) y z e = record e { special = e.special ++ (rA, a) ∷ [] }

abbrev pub with_event : State → Option Event → ℕ → ℕ → Effect → Effect
with_event s None y z e = e
with_event s (Some event) y z e = with_decision (decided (special_register s rA) event) y z e

-- WHOLE NUMBERS

-- a special register that may get a value
abbrev pub if_told : ℕ → Option ℕ → List (ℕ × ℕ)
if_told code None = []
if_told code (Some value) = (code, value) ∷ []

-- what an instruction on whole numbers gives: the result, rH and rR, and its event
abbrev pub answered : State → Instruction → ℕ → ℕ → Answer → Effect
answered s i y z a = with_event s a.event y z (record (giving i a.x) { special = if_told rH a.h ++ if_told rR a.r })

-- rD and rM
abbrev pub extra_of : State → Extra
extra_of s = record { d = special_register s rD; m = special_register s rM }

abbrev pub alu_answer : State → Instruction → ℕ → ℕ → Answer
alu_answer s i y z = alu (code_of i) y z (extra_of s)

abbrev pub computed : State → Instruction → ℕ → ℕ → Effect
computed s i y z = answered s i y z (alu_answer s i y z)

-- LOADS AND STORES

-- memory at an address is read, and the destination gets a value
abbrev pub loading_from : Instruction → ℕ → Part → ℕ → Effect
loading_from i a part value = record (giving i value) { load = Some (touch a part) }

abbrev pub stored_in : ℕ → Part → ℕ → Store
stored_in a part value = record { at = a; part = part; value = value }

-- the operands of the event are the address and $X
abbrev pub storing_to : State → Instruction → Storing → ℕ → ℕ → Effect
storing_to s i how a x =
    with_event s (stored_event how x) a x (record (going_on i) { store = Some (stored_in a (stored_part how) (stored_value how x (x_of i))) })

-- CSWAP: where memory has what rP has, it gets $X and $X becomes 1; else rP gets it, and $X becomes 0
abbrev pub swapped : State → Instruction → ℕ → ℕ → Effect
swapped s i a found =
    if found == special_register s rP then record (loading_from i a Octa 1) { store = Some (stored_in a Octa (x_register s i)) }
    else record (loading_from i a Octa 0) { special = (rP, found) ∷ [] }

-- SPECIAL REGISTERS AND FRAMES

-- what SAVE saves besides registers
abbrev pub specials_saved : State → Saved
specials_saved s = record {
  b = special_register s rB;
  d = special_register s rD;
  e = special_register s rE;
  h = special_register s rH;
  j = special_register s rJ;
  m = special_register s rM;
  r = special_register s rR;
  p = special_register s rP;
  w = special_register s rW;
  x = special_register s rX;
  y = special_register s rY;
  z = special_register s rZ;
  a = special_register s rA;
}

-- what UNSAVE brings back besides registers
abbrev pub specials_back : Saved → List (ℕ × ℕ)
specials_back f =
    (rB, f.b) ∷ (rD, f.d) ∷ (rE, f.e) ∷ (rH, f.h) ∷ (rJ, f.j) ∷ (rM, f.m) ∷ (rR, f.r) ∷ (rP, f.p)
    ∷ (rW, f.w) ∷ (rX, f.x) ∷ (rY, f.y) ∷ (rZ, f.z) ∷ (rA, f.a) ∷ []

abbrev pub unsaving : State → Instruction → ℕ → Effect
unsaving s i index = record (going_on i) { special = specials_back (unsaved_specials s.stack index); move = unsaves index }

-- PUT: rL and rG belong to the register stack
abbrev pub putting_value : Instruction → ℕ → ℕ → Effect
putting_value i code value =
    if code == rL then record (going_on i) { move = cuts value }
    else if code == rG then record (going_on i) { move = moves_globals value }
    else record (going_on i) { special = (code, value) ∷ [] }

abbrev pub putting : Instruction → ℕ → Put → Effect
putting i code (put.Store value) = putting_value i code value
putting i code put.Illegal = going_on i
putting i code put.Privileged = going_on i

-- ALL OPERATIONS

unfoldable pub effect_of : Operation → State → Instruction → Effect
effect_of op.Compute s i = computed s i (y_operand s i) (z_operand s i)
effect_of op.Negate s i = computed s i (y_of i) (z_operand s i)
effect_of op.Wyde s i = giving i (wyde (wyde_of (code_of i)).0 (given_y i.given (x_register s i)) (given_z i.given (wyde_value i)))
effect_of op.Branch s i = going_to i (if truth (code_of i) (x_register s i) then near_address i else next_of i)
effect_of op.ConditionalSet s i = giving i (if truth (code_of i) (y_operand s i) then z_operand s i else x_register s i)
effect_of op.ZeroOrSet s i = giving i (if truth (code_of i) (y_operand s i) then z_operand s i else 0)
effect_of (op.Load how) s i =
    loading_from i (data_address s i) (loaded_part how) (loaded_value how (octa s (data_address s i)) (data_address s i))
effect_of (op.Store how) s i = storing_to s i how (data_address s i) (x_register s i)
effect_of op.CompareAndSwap s i = swapped s i (data_address s i) (octa s (data_address s i))
effect_of op.Address s i = giving i (near_address i)
effect_of op.Jump s i = going_to i (far_address i)
effect_of op.Go s i = record (giving i (next_of i)) { next = data_address s i }
effect_of op.PushJump s i = record (going_to i (near_address i)) { special = (rJ, next_of i) ∷ []; move = pushes (x_of i) }
effect_of op.PushGo s i = record (going_to i (data_address s i)) { special = (rJ, next_of i) ∷ []; move = pushes (x_of i) }
effect_of op.Pop s i = record (going_to i ((special_register s rJ + 4 * yz_of i) % 2 ^ 64)) { move = pops (x_of i) }
effect_of op.Save s i = record (going_on i) { move = saves (x_of i) (specials_saved s) }
effect_of op.Unsave s i = unsaving s i (stack_index (z_operand s i))
effect_of op.Get s i = giving i (special_register s (z_of i))
effect_of op.Put s i = putting i (x_of i) (put_of (x_of i) (z_operand s i) (global_start s) (locals s))
effect_of op.Trip s i = record (going_on i) { trip = Some (record { handler = 0; y = y_operand s i; z = z_operand s i }) }
effect_of op.Nothing s i = going_on i
effect_of op.Synchronize s i = going_on i
-- these are refused, or never carried out as they are
effect_of op.Float s i = going_on i
effect_of op.Privileged s i = going_on i
effect_of op.Trap s i = going_on i
effect_of op.Resume s i = going_on i
