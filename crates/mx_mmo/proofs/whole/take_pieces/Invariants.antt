use Rattle.std.proofs.Common.{◌≡◌, ◌≤◌, Ok, None, length, take}
use Rattle.mx_mmo.proofs.Words.{concat, limit, fed, items_of, left_of, AreBytes, Start}
use Rattle.mx_mmo.proofs.whole.take_pieces.Given as goal

-- the pieces so far have these items and this rest, and no fault
abbrev pub invariant-loop-piece : goal.invariant-loop-piece
invariant-loop-piece l = record {
  well : l.reader.fault ≡ None;
  same : items_of Start 0 (concat (take l.piece-index l.pieces)) ≡ (l.items, Ok (left_of l.reader));
  end : fed l.reader ≡ length (concat (take l.piece-index l.pieces));
  most : fed l.reader ≤ limit;
  bytes : AreBytes (concat (take l.piece-index l.pieces));
}
