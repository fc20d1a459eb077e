use Rattle.std.proofs.Common.{◌≡◌, ◌++◌, length}
use Rattle.mx_frames.specs.Streams.{reads}
use Rattle.mx_frames.proofs.reader.feed.Given as goal

-- the bytes that are left are left to read
abbrev pub invariant-loop-rest : goal.invariant-loop-rest
invariant-loop-rest l = record {
  frames : l.frames ++ (reads l.coming l.rest).frames ≡ l.fn.frames ++ (reads l.fn.before l.piece).frames;
  coming : (reads l.coming l.rest).coming ≡ (reads l.fn.before l.piece).coming;
}

abbrev pub decreases-loop-rest : goal.decreases-loop-rest
decreases-loop-rest l = length l.rest
