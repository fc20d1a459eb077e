-- One statement of the program after another.
use Rattle.std.proofs.Common.{◌≡◌, ℕ, true, false, cond, List, [], ◌∷◌, Option, None, Some, refl, ap, ◌∙◌, arith, is_some, rules}
use Rattle.mx_gen.proofs.Words.{Symbol, Value, Pure, Awaited, Wait, Near, Tree, Op, NameTable, Label, Placed, Known, StatementTree, label_value, sights_from, is_local, outline, next_local, referent, label_fault, undefined, unreferenced, stated}
use Rattle.mx_asm.specs.TwoPass.{value_in as label_value_in}
use Rattle.mx_asm.specs.Faults.{refused}
use Rattle.mx_gen.proofs.Refusals.{IsLow, AreGood, Leads, sights-then, good-then}
use Rattle.mx_gen.proofs.Placings.{known, placing, IsPlace}

-- nothing is left
pub good-end : (final : NameTable) (k : Known) → AreGood final k []
unfolding sights_from
good-end final k = record { fine = tt; met = tt }

low-label : (label : Option Label) (at : ℕ) → IsPlace at → IsLow (label_value label (Pure at))
low-label label at h = search rules

module _ (final : NameTable) (symbols : List Symbol) (backs : List Value) (at : ℕ) (place : IsPlace at) where
  -- a statement with no reference
  pub plain-good : (line : ℕ) (label : Option Label) (op : Op) (operands : List Tree) (word : ℕ) (k' : Known) (later : List StatementTree) →
      label_fault (known symbols backs at).names label ≡ None → Leads (known symbols backs at) (stated line label op operands) (placing line at label word None) k' →
      AreGood final k' later → AreGood final (known symbols backs at) (stated line label op operands ∷ later)
  unfolding unreferenced
  plain-good line label op operands word k' later new h rest = search (rules, good-then, low-label)

  -- a reference that is met
  abbrev pub reference : ℕ → Awaited → Wait
  reference line who = record { who = who; at = at; line = line; kind = Near }

  pub waiting-good : (line : ℕ) (label : Option Label) (op : Op) (operands : List Tree) (word : ℕ) (who : Awaited) (k' : Known) (later : List StatementTree) →
      label_fault (known symbols backs at).names label ≡ None → Leads (known symbols backs at) (stated line label op operands) (placing line at label word (Some (who, Near))) k' →
      is_some (referent final (sights_from k' later) who) ≡ true →
      AreGood final k' later → AreGood final (known symbols backs at) (stated line label op operands ∷ later)
  unfolding unreferenced
  waiting-good line label op operands word who k' later new h met rest =
      let low = place.low in
      good-then final (known symbols backs at) (stated line label op operands) (placing line at label word (Some (who, Near))) k' later h
      (record {
        label = new;
        waits = (record { kind = refl; whole = place.whole; low = omega (arith, low) }, tt);
        value = low-label label at place;
        effect = refl;
        room = place.low;
        met = ap (λ b. cond b (unreferenced final (sights_from k' later) []) (Some (refused line (undefined who)))) met;
      }) rest

-- ---- the next local label

pub local-later : (k : Known) (s : StatementTree) (p : Placed) (k' : Known) (later : List StatementTree) → Leads k s p k' → is_local 1 s.label ≡ false →
    is_some (next_local 1 (sights_from k' later)) ≡ true → is_some (next_local 1 (sights_from k (s ∷ later))) ≡ true
unfolding next_local
local-later k s p k' later h other rest = grind (arith, sights-then)

pub local-here : (k : Known) (s : StatementTree) (p : Placed) (k' : Known) (later : List StatementTree) → Leads k s p k' → is_local 1 s.label ≡ true →
    is_some p.label ≡ true → is_some (next_local 1 (sights_from k (s ∷ later))) ≡ true
unfolding next_local
local-here k s p k' later h own there =
    ap (λ ls. is_some (next_local 1 ls)) (sights-then k s p k' later h)
    ∙ ap (λ b. is_some (cond b (label_value_in (outline (record { known = k; statement = s }))) (next_local 1 (sights_from k' later)))) own
    ∙ ap (λ r. is_some (label_value_in r)) h.placed
    ∙ there
