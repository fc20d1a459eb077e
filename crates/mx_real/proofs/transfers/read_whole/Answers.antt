use Rattle.std.proofs.Common.{◌≡◌, ℕ, ◌+◌, ◌≤◌, List, ◌++◌, rules, length, take, drop, sym, ap, ◌∙◌, subst, le_refl, take_at, drop_at, length-take-le}
use Rattle.std.proofs.lemmas.Slice.{take-put_mid_below}
use Rattle.std.specs.Io.KnownBytes.{Consumes}
use Rattle.std.proofs.KnownBytes.{Consumes-trans, Consumes-kept}
use borrow.Rule.Slice.PartMut.{put_mid, post_of}
use lib.Seq.{take-add, take-append-le}
use Rattle.mx_real.proofs.transfers.read_whole.Goals.{in-Ok, in-Err+else-ne}
use Rattle.mx_real.proofs.transfers.read_whole.Goals as goal

-- what was read before, and then what was read after it
front_of : (from n k : ℕ) (old new : List ℕ) → from ≤ length old → n ≤ length new → take (from + n) (put_mid from k old new) ≡ take from old ++ take n new
front_of from n k old new within fits =
    let long = length-take-le from old within in
    let after = post_of from k old in
    take-add from n (put_mid from k old new)
    ∙ ap (λ l. l ++ take n (drop from (put_mid from k old new))) (take_at (take from old) (new ++ after) from long)
    ∙ ap (λ l. take from old ++ take n l) (drop_at (take from old) (new ++ after) from long)
    ∙ ap (λ l. take from old ++ l) (take-append-le n new after fits)

pub loop-turn-preserved : goal.loop-turn-preserved
loop-turn-preserved g c =
    let (within, as_long, read) = c.loop-turn.invariant in
    elim c.match-read.branch [
      | in-Ok w ↦ (search rules, search rules, rw w.count-is (subst (Consumes _ _) (sym (front_of _ _ _ _ _ within w.in-Ok.ensures.bound.0)) (Consumes-trans _ _ _ _ _ read w.in-Ok.ensures.bytes.0)))
      | in-Err+else-ne w ↦ (search rules, search rules, rw w.count-is (subst (Consumes _ _) (sym (take-put_mid_below _ _ _ _ _ (le_refl _) within)) (Consumes-kept _ _ _ _ read w.in-Err.ensures.bytes)))
    ]
