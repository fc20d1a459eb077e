-- What a reader notes on its way: one part for each node that is not read to its end.
use Rattle.std.specs.Prelude.{◌≡◌, ◌≢◌, ℕ, ◌+◌, ◌*◌, ◌%◌, ◌^◌, Bool, true, false, nat_lt, List, [], ◌∷◌, ◌++◌, length, take, drop, Option, Some, None, Result, Ok, Err, min, if◌then◌else◌}
use Rattle.mx_stab.specs.declared.faults.StabFault.{StabFault}
use Rattle.mx_stab.specs.declared.faults.StabFault.TheVariants.{TooLong, OutOfMemory}
use Rattle.mx_stab.specs.declared.due.Due.{Due}
use Rattle.mx_stab.specs.declared.due.Due.TheVariants.{Subtrie, Rest, Right}
use Rattle.mx_stab.specs.Reading.{Reading, Answer, Character, part_if, symbol, has, node_rest, next_subtrie}

-- how far reading has come, and the path to what is read next
pub record Point : Type 0 where
  pub path : List ℕ
  pub reading : Reading

abbrev pub Progress : Type 0
Progress = Result Point StabFault

abbrev pub and_next : (Point → Progress) → Progress → Progress
and_next next (Ok p) = next p
and_next next (Err fault) = Err fault

-- an answer with the path to what is read after it
abbrev pub with_path : List ℕ → Answer → Progress
with_path path (Ok s) = Ok (record { path = path; reading = s })
with_path path (Err fault) = Err fault

-- one byte further
abbrev pub next_point : Point → Point
next_point p =
    record p { reading = record { at = p.reading.at + 1; rest = drop 1 p.reading.rest; found = p.reading.found } }

-- after a part that is due: a subtrie; what is in a node after its left subtrie; or a right subtrie, whose
-- path has this many bytes
abbrev pub after_due : Due → Point → Progress
after_due Subtrie p = with_path p.path (next_subtrie p.path p.reading)
after_due (Rest node m) p = with_path p.path (node_rest next_subtrie node m p.path p.reading)
after_due (Right depth m) p =
    with_path (take depth p.path) (part_if (has 0x10 m) (next_subtrie (take depth p.path)) p.reading)

-- after all that is due, the last noted first
abbrev pub after_all : List Due → Point → Progress
after_all [] p = Ok p
after_all (d ∷ above) p = and_next (after_due d) (after_all above p)

-- a part that is due or not
abbrev pub due_if : Bool → Due → List Due
due_if true d = d ∷ []
due_if false d = []

-- what is due after the byte m of a node, and after its symbol
abbrev pub node_due : ℕ → ℕ → List Due
node_due node m = Rest node m ∷ due_if (has 0x40 m) Subtrie

abbrev pub symbol_due : ℕ → ℕ → List Due
symbol_due depth m = Right depth m ∷ due_if (has 0x20 m) Subtrie

-- after the character of a node, with which the path ends
abbrev pub after_character : ℕ → ℕ → ℕ → Point → Progress
after_character depth node m p =
    if nat_lt 1024 (length p.path) then Err (TooLong node)
    else and_next (after_all (symbol_due depth m)) (with_path p.path (symbol (m % 16) node p.path p.reading))

-- a path with a character at its end
abbrev pub longer_path : List ℕ → Result Character StabFault → Progress
longer_path path (Ok c) = Ok (record { path = path ++ c.name; reading = c.following })
longer_path path (Err fault) = Err fault

-- the progress after a step, unless it was refused
abbrev pub progress_of : Result (Unit {0}) StabFault → Progress → Progress
progress_of (Ok u) came = came
progress_of (Err fault) came = Err fault

-- a step leads where it has to, unless it is out of memory
abbrev pub LeadsTo : Result (Unit {0}) StabFault → Progress → Progress → Type 0
LeadsTo result came due = result ≢ Err OutOfMemory → progress_of result came ≡ due

abbrev pub reading_of : Progress → Answer
reading_of (Ok p) = Ok p.reading
reading_of (Err fault) = Err fault

-- a number that does not matter from 2^32 on
abbrev pub cap : ℕ → ℕ
cap x = min x (2 ^ 32)

abbrev pub serial_cap : Option (ℕ × List ℕ) → Option (ℕ × List ℕ)
serial_cap None = None
serial_cap (Some (serial, more)) = Some (cap serial, more)

-- what reading has still before it: two for each part that is due, one for a subtrie, and three for each byte
abbrev pub due_weight : Due → ℕ
due_weight Subtrie = 1
due_weight (Rest node m) = 2
due_weight (Right depth m) = 2

abbrev pub all_weight : List Due → ℕ
all_weight [] = 0
all_weight (d ∷ due) = due_weight d + all_weight due

abbrev pub weight : Point → List Due → ℕ
weight p due = 3 * length p.reading.rest + all_weight due
