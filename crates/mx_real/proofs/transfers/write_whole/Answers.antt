use Rattle.std.proofs.Common.{◌≡◌, ℕ, ◌+◌, ◌-◌, List, ◌++◌, rules, length, take, drop, sym, ap, ◌∙◌, subst}
use Rattle.std.proofs.lemmas.List.{take_rest}
use Rattle.std.specs.Io.KnownBytes.{Appends}
use Rattle.std.proofs.KnownBytes.{Appends-trans, Appends-kept}
use lib.Seq.{take-add}
use Rattle.mx_real.proofs.transfers.write_whole.Goals.{in-Ok, in-Err+else-ne}
use Rattle.mx_real.proofs.transfers.write_whole.Goals as goal

-- what was written before, and then what was written of the rest
front_of : (from n : ℕ) (bytes : List ℕ) → take (from + n) bytes ≡ take from bytes ++ take n (take (length bytes - from) (drop from bytes))
front_of from n bytes = take-add from n bytes ∙ ap (λ l. take from bytes ++ take n l) (sym (take_rest bytes from))

pub loop-turn-preserved : goal.loop-turn-preserved
loop-turn-preserved g c =
    let (within, written) = c.loop-turn.invariant in
    elim c.match-write.branch [
      | in-Ok w ↦ (search rules, rw w.count-is (subst (Appends _ _) (sym (front_of _ _ _)) (Appends-trans _ _ _ _ _ written w.in-Ok.ensures.bytes)))
      | in-Err+else-ne w ↦ (search rules, rw w.count-is (Appends-kept _ _ _ _ written w.in-Err.ensures.bytes))
    ]
