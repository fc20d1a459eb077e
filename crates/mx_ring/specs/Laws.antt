-- The forms of the laws on windows.
use Rattle.std.specs.Prelude.{ℕ, ◌≡◌, ◌≤◌, ◌<◌, ◌+◌, ◌-◌, ◌^◌, true, false, min, List, [], ◌∷◌, ◌++◌, length, take, drop, replicate}
use Rattle.mx_ring.specs.Bounds.{IsRing}
use Rattle.mx_ring.specs.Frames.{is_bad_frame}
use Rattle.mx_ring.specs.Kept.{KeepsFrame}
use Rattle.mx_ring.specs.Notes.{IsGiven, TakesBack, ring_noted_stored, work_answer, worked}
use Rattle.mx_ring.specs.RegisterList.{RegisterList}
use Rattle.mx_ring.specs.Stack.{Stack, listed, windowed, as_listed, list_of, in_stack_area, stack_index, spilled_count, hidden_count, local_count, pushed, saved, save_overfills, stack_octa, octas_to, with_register, with_stack_octa}
use Rattle.mx_ring.specs.Window.{Window}
use Rattle.mx_ring.specs.declared.notes.RingWork.{RingWork}
use Rattle.mx_ring.specs.declared.saved.Saved.{Saved}

-- The list that the window represents goes through an operation as a list does.
abbrev pub GoesAsList : Window → (Stack → Stack) → Type 0
GoesAsList w operation = as_listed (operation (windowed w)) ≡ operation (list_of w)

-- What an operation makes of the window is a ring.
abbrev pub BecomesRing : Window → (Stack → Stack) → Type 0
BecomesRing w operation = (v : Window) → windowed v ≡ operation (windowed w) → IsRing v

-- All hidden octas are spilled.
abbrev pub IsAllSpilled : Stack → Type 0
IsAllSpilled s = spilled_count s ≡ hidden_count s

-- What SAVE hides comes back.
abbrev pub SaveIsUndone : Stack → ℕ → Saved → Type 0
SaveIsUndone s x specials = KeepsFrame s (saved s x specials) specials

-- The address lies outside the stack area, or the octa there is spilled.
abbrev pub IsOutsideOrSpilled : Window → ℕ → Type 0
IsOutsideOrSpilled w a = in_stack_area a ≡ true → stack_index a < spilled_count (windowed w)

-- PUSH X,YZ hides these octas of the list, and leaves these locals.
abbrev pub HidesLocals : RegisterList → ℕ → List ℕ → List ℕ → Type 0
HidesLocals r x octas locals =
    pushed (listed r) x ≡ listed (record { hidden = r.hidden ++ octas; visible = record r.visible { locals = locals } })

-- where $X is local, those up to it; where it is marginal, all of them, with zeros up to it; where it is global, all, and their number
abbrev pub HidesUpTo : RegisterList → ℕ → Type 0
HidesUpTo r x = HidesLocals r x (take x r.visible.locals ++ x ∷ []) (drop (x + 1) r.visible.locals)

abbrev pub HidesWithZeros : RegisterList → ℕ → Type 0
HidesWithZeros r x = HidesLocals r x (r.visible.locals ++ replicate (x - length r.visible.locals) 0 ++ x ∷ []) []

abbrev pub HidesWithCount : RegisterList → ℕ → Type 0
HidesWithCount r x = HidesLocals r x (r.visible.locals ++ length r.visible.locals ∷ []) []

-- SAVE is not refused.
abbrev pub CanSave : Stack → Type 0
CanSave s = save_overfills s ≡ false

-- The octa of the stack area at an index is spilled; it is one of 64 bits; and a frame ends with it.
abbrev pub IsSpilled : Window → ℕ → Type 0
IsSpilled w i = i < spilled_count (windowed w)

abbrev pub HasOcta : Window → ℕ → Type 0
HasOcta w i = stack_octa (windowed w) i < 2 ^ 64

abbrev pub EndsFrame : Window → ℕ → Type 0
EndsFrame w i = is_bad_frame (octas_to (windowed w) i) i ≡ false

-- $X is global.
abbrev pub IsGlobal : Window → ℕ → Type 0
IsGlobal w x = w.visible.first_global ≤ x

-- G is not below L.
abbrev pub FitsLocals : Window → ℕ → Type 0
FitsLocals w g = local_count (windowed w) ≤ g

-- The number of spilled octas is cut to that of hidden ones.
abbrev pub CutsSpilled : Window → Stack → Type 0
CutsSpilled w after = spilled_count after ≡ min (spilled_count (windowed w)) (hidden_count after)

-- ---- what a step does to a window

-- the note of an octa of the stack area and of $k takes back what was done
abbrev pub StoreIsUndone : ℕ → ℕ → Window → Window → Type 0
StoreIsUndone i k w v = TakesBack (ring_noted_stored i k w) v w

-- work that is not refused, and what it makes of the window
abbrev pub WorkIsGiven : RingWork → Window → Type 0
WorkIsGiven work w = IsGiven (work_answer work (windowed w))

abbrev pub Works : RingWork → Window → Window → Type 0
Works work w v = windowed v ≡ worked work (windowed w)

-- $k is given a value, and an octa of the stack area
abbrev pub Sets : Window → ℕ → ℕ → Window → Type 0
Sets w k x v = windowed v ≡ with_register (windowed w) k x

abbrev pub Stores : Window → ℕ → ℕ → Window → Type 0
Stores w i z v = windowed v ≡ with_stack_octa (windowed w) i z

-- $k is given a value, and then $255; and between them an octa
abbrev pub SetsBoth : Window → ℕ → ℕ → ℕ → Window → Type 0
SetsBoth w k x y v = windowed v ≡ with_register (with_register (windowed w) k x) 255 y

abbrev pub SetsAndStores : Window → ℕ → ℕ → ℕ → ℕ → ℕ → Window → Type 0
SetsAndStores w k x i z y v = windowed v ≡ with_register (with_stack_octa (with_register (windowed w) k x) i z) 255 y
