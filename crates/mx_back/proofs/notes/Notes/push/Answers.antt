use Rattle.std.proofs.Common.{◌∷◌, [], ◌++◌, length, arith, ◌∙◌, ap}
use Rattle.std.proofs.lemmas.List.{length_push}
use Rattle.mx_back.specs.NoteLists.{notes_of}
use Rattle.mx_back.proofs.NoteLists.{pushed-notes}
use Rattle.mx_back.proofs.notes.Notes.push.Goals as goal

pub turn_if_full-requires : goal.turn_if_full-requires
turn_if_full-requires c = omega (arith, c.self.invariant.fewer, ap length c.in-Ok.ensures.items, length_push c.self.inside.newer.items c.args.note)

pub returns : goal.returns
returns c =
    let newer = c.self.inside.newer.items in
    let older = c.self.inside.older.items in
    rw (← c.self.view_is)
    (c.turn_if_full.ensures.same c.min-kept.result (omega (arith, c.min-kept.ensures))
    ∙ ap (λ xs. notes_of xs older c.min-kept.result) c.in-Ok.ensures.items
    ∙ ap (λ k. notes_of (newer ++ c.args.note ∷ []) older k) c.min-kept.ensures
    ∙ pushed-notes newer older c.args.note c.self.inside.kept 1024)

pub invariant_of-self : goal.invariant_of-self
invariant_of-self c =
    let more = length_push c.self.inside.newer.items c.args.note in
    let grown = ap length c.in-Ok.ensures.items in
    let room = c.turn_if_full.ensures in
    record {
      most = omega (arith, c.min-kept.ensures);
      there = room.there c.min-kept.result (omega (arith, c.min-kept.ensures)) (omega (arith, c.min-kept.ensures, c.self.invariant.there, grown, more));
      fewer = room.fewer;
      newer_room = room.newer_room (omega (arith, c.self.invariant.newer_room, c.in-Ok.ensures.capacity)) c.self.invariant.older_room;
      older_room = room.older_room (omega (arith, c.self.invariant.newer_room, c.in-Ok.ensures.capacity)) c.self.invariant.older_room;
    }
