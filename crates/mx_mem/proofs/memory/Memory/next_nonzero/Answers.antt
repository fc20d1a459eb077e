use Rattle.std.proofs.Common.{◌≡◌, ◌≤◌, ◌<◌, ◌*◌, ◌^◌, ◌+◌, ◌/◌, ◌%◌, ◌⊎◌, inl, inr, max, ℕ, List, [], length, get_or, arith, ap, sym, ◌∙◌, ⊎_elim}
use Rattle.std.proofs.lemmas.Bool.{cases_lt}
use Rattle.std.proofs.lemmas.List.{get_or_read}
use Rattle.mx_mem.specs.Held.{octas_in}
use Rattle.mx_mem.proofs.Searches.{zero-on, zero-after, octa-on}
use Rattle.mx_mem.specs.Memory.{Stored}
use Rattle.mx_mem.proofs.memory.Memory.next_nonzero.Goals as goal

-- the page that was found
page-within : (c : goal.In-Some) → c.in-Some.place < length c.self.inside.pages.items
page-within c = (c.self.invariant.indexed.placed c.in-Some.number c.in-Some.place c.in-Some.ensures.1).0

page-low : (c : goal.In-Some) → c.in-Some.number < 2 ^ 51
page-low c =
    let is = (c.self.invariant.indexed.placed c.in-Some.number c.in-Some.place c.in-Some.ensures.1).1 in
    let low = c.self.invariant.bounded.below c.in-Some.place (page-within c) in
    omega arith

pub overflow_mul-number : goal.overflow_mul-number
overflow_mul-number c = let low = page-low c in omega arith

pub index-requires : goal.index-requires
index-requires c = let within = page-within c.before in omega (arith, c.self.inside.pages.ok.0)

page-read : (pages : List (ℕ × List ℕ)) (place : ℕ) (page : ℕ × List ℕ) → place < length pages → page ≡ get_or pages place page → page.1 ≡ octas_in pages place
page-read pages place page l e = ap (λ (p : ℕ × List ℕ). p.1) (get_or_read pages place page l e (0, []))

-- the search on the page begins where the one before ended, or with its first octa
start-is : (at first start : ℕ) → start ≡ max at first → (at ≤ start) × (first ≤ start) × ((start ≡ at) ⊎ (start ≡ first))
start-is at first start e = (omega arith, omega arith, ⊎_elim (λ s. inr (omega arith)) (λ s. inl (omega arith)) (cases_lt at first))

pub returns-in-Some-next_nonzero : goal.returns-in-Some-next_nonzero
returns-in-Some-next_nonzero c =
    let found = c.in-Some.ensures in
    let here = c.in-Some-next_nonzero.ensures in
    let start = start-is c.loop-number.at (512 * c.in-Some.number) c.max-at.result c.max-at.ensures in
    let within : c.in-Some.place < length c.self.inside.pages.items = (c.self.invariant.indexed.placed c.in-Some.number c.in-Some.place found.1).0 in
    let read = page-read c.self.inside.pages.items c.in-Some.place c.index.result.now within c.index.ensures in
    let address : ℕ = 4096 * c.in-Some.number + 8 * c.in-Some-next_nonzero.i in
    let at : address / 8 % 512 ≡ c.in-Some-next_nonzero.i = omega arith in
    let page : address / 4096 ≡ c.in-Some.number = omega arith in
    let zeros = zero-on c.self.inside.pages.items c.self.inside.places c.args.self.now c.args.from c.loop-number.at c.in-Some.number c.in-Some.place c.max-at.result (ap (λ (m : Stored). m.pages) c.self.view_is) c.loop-number.invariant.zeros
    found.1 found.0 found.2 start.0 start.1 start.2 c.in-Some-next_nonzero.i (omega arith) (λ k f l. ap (λ octas. get_or octas k 0) (sym read) ∙ here.4 k f l) in (
      omega arith,
      omega arith,
      octa-on c.self.inside.pages.items c.self.inside.places c.args.self.now address c.in-Some.number c.in-Some.place (ap (λ (m : Stored). m.pages) c.self.view_is) found.1 page
          ∙ ap (λ i. get_or (octas_in c.self.inside.pages.items c.in-Some.place) i 0) at ∙ ap (λ octas. get_or octas c.in-Some-next_nonzero.i 0) (sym read) ∙ here.2,
      here.3,
      λ q f w l. zeros q f w (omega arith),
    )

pub loop-number-preserved : goal.loop-number-preserved
loop-number-preserved c =
    let found = c.in-Some.ensures in
    let start = start-is c.loop-number.at (512 * c.in-Some.number) c.max-at.result c.max-at.ensures in
    let in-list = c.self.invariant.indexed.placed c.in-Some.number c.in-Some.place found.1 in
    let low = c.self.invariant.bounded.below c.in-Some.place in-list.0 in
    let read = page-read c.self.inside.pages.items c.in-Some.place c.index.result.now in-list.0 c.index.ensures in
    let zeros = zero-on c.self.inside.pages.items c.self.inside.places c.args.self.now c.args.from c.loop-number.at c.in-Some.number c.in-Some.place c.max-at.result (ap (λ (m : Stored). m.pages) c.self.view_is) c.loop-number.invariant.zeros
    found.1 found.0 found.2 start.0 start.1 start.2 512 (omega arith) (λ k f l. ap (λ octas. get_or octas k 0) (sym read) ∙ c.in_default-next_nonzero.ensures k f l) in
    record {
      reached = omega arith;
      below = omega arith;
      zeros = λ q f w l. zeros q f w (omega arith);
    }

pub returns : goal.returns
returns c = zero-after c.self.inside.pages.items c.self.inside.places c.args.self.now c.args.from c.loop-number.at (ap (λ (m : Stored). m.pages) c.self.view_is) c.loop-number.invariant.zeros c.in_default.ensures
