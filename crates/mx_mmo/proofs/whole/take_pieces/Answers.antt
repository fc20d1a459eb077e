use Rattle.std.proofs.Common.{inl, inr, ap, sym, ◌∙◌, Err, length, List, ℕ, refl, arith, ◌≡◌, ◌+◌, Result}
use Rattle.mx_mmo.proofs.Words.{MmoFault, TooLong, limit, fed, items_of, Start, cases_lt}
use Rattle.mx_mmo.proofs.Pieces.{nothing-yet, exact-fault, long-fault, long-passed, not-passed, items-of-piece, length-of-piece, all-pieces, bytes-of-piece, all-bytes}
use Rattle.mx_mmo.proofs.whole.take_pieces.Goals as goal

same-fault : (f g : MmoFault) → ◌≡◌ {A = Result (Unit {0}) MmoFault} (Err f) (Err g) → f ≡ g
same-fault f g e = cc

pub loop-piece-init : goal.loop-piece-init
loop-piece-init c = rw (c.requires.unfed, c.requires.none) (record { well = refl; same = nothing-yet; end = refl; most = omega arith; bytes = tt })

pub returns-in-Err-clause-fault : goal.returns-in-Err-clause-fault
returns-in-Err-clause-fault c = λ l ne.
    let is = c.as_slice.ensures ∙ c.piece-item.is in
    let here = not-passed c.args.pieces.now c.loop-piece.piece-index c.as_slice.result.now c.piece-item.result c.loop-piece.reader c.loop-piece-test.true is c.loop-piece.invariant.end l in
    exact-fault c.args.pieces.now c.loop-piece.piece-index c.as_slice.result.now c.piece-item.result c.loop-piece.items c.loop-piece.reader c.in-Err.fault
    c.loop-piece-test.true is c.loop-piece.invariant.same (c.in-Err.ensures.fault here (λ e. ne (cc))) l

pub returns-in-Err-clause-long : goal.returns-in-Err-clause-long
returns-in-Err-clause-long c = λ l ne.
    let is = c.as_slice.ensures ∙ c.piece-item.is in
    elim (cases_lt limit (fed c.loop-piece.reader + length c.as_slice.result.now)) [
      | inl far ↦ ap (λ f. Err f) (same-fault c.in-Err.fault (TooLong limit) (c.in-Err.ensures.long far (λ e. ne (cc))))
          ∙ long-passed c.args.pieces.now c.loop-piece.piece-index c.as_slice.result.now c.piece-item.result c.loop-piece.items c.loop-piece.reader
          c.loop-piece-test.true is c.loop-piece.invariant.same c.loop-piece.invariant.end c.loop-piece.invariant.most far
      | inr near ↦ long-fault c.args.pieces.now c.loop-piece.piece-index c.as_slice.result.now c.piece-item.result c.loop-piece.items c.loop-piece.reader c.in-Err.fault
          c.loop-piece-test.true is c.loop-piece.invariant.same (c.in-Err.ensures.fault near (λ e. ne (cc)))
          (omega (arith, c.loop-piece.invariant.end, length-of-piece c.args.pieces.now c.loop-piece.piece-index c.as_slice.result.now c.piece-item.result c.loop-piece-test.true is))
    ]

pub loop-piece-preserved : goal.loop-piece-preserved
loop-piece-preserved c =
    let is = c.as_slice.ensures ∙ c.piece-item.is in
    record {
      well = c.in-Ok.ensures.no_fault;
      same = items-of-piece c.args.pieces.now c.loop-piece.piece-index c.as_slice.result.now c.piece-item.result c.loop-piece.items c.take_piece.new.items c.loop-piece.reader
          c.take_piece.new.reader c.loop-piece-test.true is c.loop-piece.invariant.same c.in-Ok.ensures.last;
      end = c.in-Ok.ensures.end ∙ ap (λ n. n + length c.as_slice.result.now) c.loop-piece.invariant.end
          ∙ sym (length-of-piece c.args.pieces.now c.loop-piece.piece-index c.as_slice.result.now c.piece-item.result c.loop-piece-test.true is);
      most = omega (arith, c.in-Ok.ensures.end, c.in-Ok.ensures.most);
      bytes = bytes-of-piece c.args.pieces.now c.loop-piece.piece-index c.as_slice.result.now c.piece-item.result c.loop-piece-test.true is c.loop-piece.invariant.bytes c.take_piece.ensures.bytes;
    }

pub returns-clause-last : goal.returns-clause-last
returns-clause-last c = ap (items_of Start 0) (sym (all-pieces c.args.pieces.now c.loop-piece.piece-index c.loop-piece-test.false)) ∙ c.loop-piece.invariant.same

pub returns-clause-most : goal.returns-clause-most
returns-clause-most c =
    let all = ap (λ (b : List ℕ). length b) (all-pieces c.args.pieces.now c.loop-piece.piece-index c.loop-piece-test.false) in
    omega (arith, all, c.loop-piece.invariant.end, c.loop-piece.invariant.most)

pub returns-clause-bytes : goal.returns-clause-bytes
returns-clause-bytes c = all-bytes c.args.pieces.now c.loop-piece.piece-index c.loop-piece-test.false c.loop-piece.invariant.bytes
