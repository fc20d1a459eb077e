-- A file is read in at most this many pieces.
use Rattle.std.proofs.Common.{ℕ, zero, suc, ◌≤◌, ◌+◌, ◌-◌, ◌*◌, ◌==◌, List, [], ◌++◌, length, Bool, true, false, Ok, Err, arith}
use Rattle.std.specs.Prelude.{Result}
use Rattle.mx_host.specs.declared.faults.HostFault.{HostFault}
use Rattle.mx_host.specs.declared.slots.Mode.TheVariants.{BinaryRead}
use Rattle.mx_plan.specs.Plan.{returns}
use Rattle.mx_plan.specs.Calls.{reading, open_plan, close_plan, read_plan, need}
use Rattle.mx_plan.specs.Taking.{CanSay, taken, Spares, TakesAtMost}
use Rattle.mx_plan.proofs.Taking.{spares-bind, spares-returns, need-spares, open-spares, close-spares}
use Rattle.mx_files.specs.FilePlans.{piece_size, input_slot, Part, on_ok, carried, close_file, input_opened, open_input, piece_added, read_piece, read_next, read_pieces, then_closed, read_open, file_plan}
use Rattle.mx_outcome.specs.declared.outcome.Outcome.{Outcome}

-- a part is done, or it ends the work, which takes nothing more
on-done : {A B : Type 0} (f : A → Part B) (r : Result A Outcome) (m : ℕ) → ((a : A) → TakesAtMost input_slot m (f a)) → TakesAtMost input_slot m (on_ok f r)
on-done f (Ok a) m h = h a
on-done f (Err outcome) m h = spares-returns input_slot (λ r. 0) (Err outcome) m (omega arith)

piece-said : (k n : ℕ) (r : Result (List ℕ) HostFault) → 4096 + k ≤ n → CanSay (reading 256 4096) r → (taken 256 (reading 256 4096) r ≤ n) × (k ≤ n - taken 256 (reading 256 4096) r)
piece-said k n (Ok piece) l c = let few : length piece ≤ 4096 = c in (omega (arith, l, few), omega (arith, l, few))
piece-said k n (Err why) l c = (omega arith, omega (arith, l))

read-spares : (k n : ℕ) → 4096 + k ≤ n → Spares 256 (λ r. k) n (read_plan 256 4096)
unfolding Spares read_plan
read-spares k n l = λ r c. piece-said k n r l c

added-spares : (got : List ℕ) (r : Result (List ℕ) HostFault) (k m : ℕ) → k ≤ m → Spares 256 (λ r. k) m (piece_added got r)
added-spares got (Ok piece) k m l =
    spares-bind 256 (λ u. k) (λ r. k) (λ u. returns (Ok (got ++ piece, length piece == piece_size))) need m (need-spares 256 k m l)
    (λ u i g. spares-returns 256 (λ r. k) (Ok (got ++ piece, length piece == piece_size)) i g)
added-spares got (Err why) k m l = spares-returns 256 (λ r. k) _ m l

piece-spares : (got : List ℕ) (k n : ℕ) → 4096 + k ≤ n → Spares 256 (λ r. k) n (read_piece got)
unfolding read_piece
piece-spares got k n l = spares-bind 256 (λ r. k) (λ r. k) (piece_added got) (read_plan 256 4096) n (read-spares k n l) (λ r m g. added-spares got r k m g)

next-takes : (left : ℕ) → ((got : List ℕ) (i : ℕ) → 4096 * left ≤ i → TakesAtMost 256 i (read_pieces left got)) → (a : List ℕ × Bool) (m : ℕ) → 4096 * left ≤ m →
    TakesAtMost 256 m (read_next (read_pieces left) a)
next-takes left more (got, true) m g = more got m g
next-takes left more (got, false) m g = spares-returns 256 (λ r. 0) (Ok got) m (omega arith)

pieces-take : (left : ℕ) (got : List ℕ) (n : ℕ) → 4096 * left ≤ n → TakesAtMost 256 n (read_pieces left got)
unfolding read_pieces
pieces-take zero got n l = spares-returns 256 (λ r. 0) (Ok got) n (omega arith)
pieces-take (suc left) got n l =
    spares-bind 256 (λ r. 4096 * left) (λ r. 0) (on_ok (read_next (read_pieces left))) (read_piece got) n (piece-spares got (4096 * left) n (omega (arith, l)))
    (λ r m g. on-done (read_next (read_pieces left)) r m (λ a. next-takes left (λ h i k. pieces-take left h i k) a m g))

close-takes : (bytes : List ℕ) (m : ℕ) → TakesAtMost 256 m (then_closed bytes)
unfolding close_file
close-takes bytes m =
    spares-bind 256 (λ r. 0) (λ r. 0) (on_ok (λ u. returns (Ok bytes))) (close_file input_slot) m
    (spares-bind 256 (λ r. 0) (λ r. 0) (λ r. returns (carried r)) (close_plan input_slot) m (close-spares 256 input_slot 0 m (omega arith)) (λ r i g. spares-returns 256 (λ r. 0) (carried r) i g))
    (λ r i g. on-done (λ u. returns (Ok bytes)) r i (λ u. spares-returns 256 (λ r. 0) (Ok bytes) i (omega arith)))

open-takes : (most n : ℕ) → 4096 * most ≤ n → TakesAtMost 256 n (read_open most)
unfolding read_open
open-takes most n l = spares-bind 256 (λ r. 0) (λ r. 0) (on_ok then_closed) (read_pieces most []) n (pieces-take most [] n l) (λ r m g. on-done then_closed r m (λ bytes. close-takes bytes m))

pub file-takes : (most : ℕ) (name : List ℕ) → TakesAtMost 256 (4096 * most) (file_plan most name)
unfolding file_plan open_input
file-takes most name =
    spares-bind 256 (λ r. 4096 * most) (λ r. 0) (on_ok (λ u. read_open most)) (open_input name) (4096 * most)
    (spares-bind 256 (λ r. 4096 * most) (λ r. 4096 * most) (λ r. returns (input_opened r)) (open_plan input_slot name BinaryRead) (4096 * most)
    (open-spares 256 input_slot name BinaryRead (4096 * most) (4096 * most) (omega arith)) (λ r i g. spares-returns 256 (λ r. 4096 * most) (input_opened r) i g))
    (λ r m g. on-done (λ u. read_open most) r m (λ u. open-takes most m g))
