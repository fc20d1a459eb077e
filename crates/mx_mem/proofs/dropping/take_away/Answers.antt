use Rattle.std.proofs.Common.{ℕ, List, [], length, get_or, ◌-◌, ◌+◌, ◌≡◌, Some, ap, sym, ◌∙◌, subst, arith, vec_len}
use Rattle.std.specs.Prelude.{is_some}
use Rattle.std.specs.Ordering.{nat_cmp}
use Rattle.std.specs.BTreeMap.{get}
use Rattle.std.proofs.lemmas.List.{get_or_read}
use Rattle.mx_mem.specs.Held.{number_in}
use Rattle.mx_mem.proofs.Removals.{Swaps, Moves, taken-away, last-there}
use Rattle.mx_mem.proofs.dropping.take_away.Goals as goal

pub move_place-requires-clause-last : goal.move_place-requires-clause-last
move_place-requires-clause-last c =
    let at : get nat_cmp c.args.places.now c.args.number ≡ Some c.in-Some.place.now = sym c.in-Some.ensures.value in
    let within = (c.requires.indexed.placed c.args.number c.in-Some.place.now at).0 in
    let page = get_or_read c.args.pages.now.items (length c.args.pages.now.items - 1) c.index.result.now (omega (arith, within)) (c.index.ensures ∙ ap (λ k. get_or c.args.pages.now.items (k - 1) c.index.result.now) (c.len.ensures ∙ c.args.pages.now.ok.0)) (0, []) in
    ap (λ p. is_some (get nat_cmp c.args.places.now p)) (c.number-last.ensures ∙ ap (λ (p : ℕ × List ℕ). p.0) page) ∙ last-there c.args.pages.now.items c.args.places.now c.in-Some.place.now c.args.number c.requires.indexed at

pub swap_remove-requires : goal.swap_remove-requires
swap_remove-requires c =
    let at : get nat_cmp c.args.places.now c.args.number ≡ Some c.in-Some.place.now = sym c.in-Some.ensures.value in
    omega (arith, c.args.pages.now.ok.0, (c.requires.indexed.placed c.args.number c.in-Some.place.now at).0)

pub returns-clause-taken : goal.returns-clause-taken
returns-clause-taken c =
    let at : get nat_cmp c.args.places.now c.args.number ≡ Some c.in-Some.place.now = sym c.in-Some.ensures.value in
    let within = (c.requires.indexed.placed c.args.number c.in-Some.place.now at).0 in
    let page = get_or_read c.args.pages.now.items (length c.args.pages.now.items - 1) c.index.result.now (omega (arith, within)) (c.index.ensures ∙ ap (λ k. get_or c.args.pages.now.items (k - 1) c.index.result.now) (c.len.ensures ∙ c.args.pages.now.ok.0)) (0, []) in
    let last : c.number-last.result ≡ number_in c.args.pages.now.items (length c.args.pages.now.items - 1) = c.number-last.ensures ∙ ap (λ (p : ℕ × List ℕ). p.0) page in
    let long : vec_len c.args.pages.now ≡ length c.args.pages.now.items = c.args.pages.now.ok.0 in
    let swaps : Swaps c.args.pages.now.items c.in-Some.place.now c.swap_remove.new.self.items =
    record {
      shorter = ap (λ n. n + 1) (sym c.swap_remove.new.self.ok.0) ∙ c.swap_remove.ensures.len ∙ long;
      here = λ l. c.swap_remove.ensures.by_index.0 (0, []) (omega (arith, long, l)) ∙ ap (λ n. get_or c.args.pages.now.items (n - 1) (0, [])) long;
      elsewhere = λ k ne l. c.swap_remove.ensures.by_index.1 k (0, []) ne (omega (arith, long, l));
    } in
    let moves : Moves c.args.places.now c.move_place.new.places (number_in c.args.pages.now.items (length c.args.pages.now.items - 1)) c.in-Some.place.now c.args.number =
    subst (λ l. Moves c.args.places.now c.move_place.new.places l c.in-Some.place.now c.args.number) last c.move_place.ensures.places in
    taken-away c.args.pages.now.items c.swap_remove.new.self.items c.args.places.now c.move_place.new.places c.in-Some.place.now c.args.number c.requires.indexed c.requires.count at swaps moves c.move_place.ensures.count
