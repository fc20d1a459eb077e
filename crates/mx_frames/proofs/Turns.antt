-- Streams that are read one after another.
use Rattle.std.proofs.Common.{◌≡◌, ℕ, List, [], ◌∷◌, ◌++◌, refl, ap, sym, ◌∙◌, append_assoc, append-nil}
use Rattle.mx_frames.specs.declared.reader.Coming.{Coming}
use Rattle.mx_frames.specs.declared.reader.Frame.{Frame}
use Rattle.mx_frames.specs.Streams.{Read, joined, read_with, reads, settled, with_byte}

-- three parts are joined in either order
pub joined-assoc : (r s t : Read) → joined (joined r s) t ≡ joined r (joined s t)
joined-assoc r s t = ap (λ frames. read_with frames t.coming) (append_assoc r.frames s.frames t.frames)

-- the frames of three parts
pub frames-join : (xs ys zs : List Frame) → (xs ++ ys) ++ zs ≡ xs ++ (ys ++ zs)
frames-join xs ys zs = append_assoc xs ys zs

pub frames-none : (xs : List Frame) → xs ++ [] ≡ xs
frames-none xs = append-nil xs

pub ruleset turns = (frames-join, frames-none)

-- a piece, and what follows it
pub pieces : (coming : Coming) (piece others : List ℕ) →
    reads coming (piece ++ others) ≡ joined (reads coming piece) (reads (reads coming piece).coming others)
unfolding reads
pieces coming [] others = refl
pieces coming (b ∷ piece) others =
    ap (joined (settled (with_byte coming b))) (pieces (settled (with_byte coming b)).coming piece others)
    ∙ sym (joined-assoc (settled (with_byte coming b)) (reads (settled (with_byte coming b)).coming piece)
    (reads (reads (settled (with_byte coming b)).coming piece).coming others))
