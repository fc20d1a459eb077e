-- What data operands place, with their targets known and with none.
use Rattle.std.proofs.Common.{◌≡◌, ◌<◌, ◌≤◌, ℕ, ◌+◌, ◌%◌, ◌^◌, List, [], ◌∷◌, ◌++◌, length, Ok, Err, bit_xor, refl, sym, ap, ◌∙◌, arith, rules}
use Rattle.mx_stmt.proofs.Words.{length-append, Wait, Tree, Target, Data, Answer, AreAlike, Known, Targets, no_targets, data_target, datum, joined_data, with_rest, no_data, data_of, data_form, from_place, placed, fix_placements, common_steps, nat_tests}
use Rattle.mx_stmt.specs.declared.operands.Target.TheVariants as target
use Rattle.mx_stmt.proofs.Alike.{alike-fault, alike-values, alike-then}
use Rattle.mx_stmt.proofs.JoinedBytes.{xor-pairs, placed-append, from-append}

-- The bytes of the one are joined with those that the references add, unless they pass the last address.
pub record IsJoinedData (t : Targets) (place : ℕ) (before after : Data) : Type 0 where
  pub count : length after.bytes ≡ length before.bytes
  pub waits : after.waits ≡ before.waits
  pub bytes : place + length before.bytes < 2 ^ 64 → (a : ℕ) → placed (from_place place after.bytes) a ≡ placed (from_place place before.bytes ++ fix_placements t before.waits) a

fixes-append : (t : Targets) (xs ys : List Wait) → fix_placements t (xs ++ ys) ≡ fix_placements t xs ++ fix_placements t ys
fixes-append t [] ys = refl
fixes-append t (w ∷ waits) ys = search (rules, fixes-append t waits ys)

-- an operand of another size than 8 is no reference
abbrev pub HasSize : ℕ → Target → Type 0
HasSize size (target.Known n) = Unit {0}
HasSize size (target.Future who) = size ≡ 8

pub sized : (k : Known) (size : ℕ) (e : Tree) (target : Target) → data_target k size e ≡ Ok target → HasSize size target
sized k size e target is = grind arith

-- one datum
record IsJoinedDatum (t : Targets) (size place : ℕ) (before after : Data) : Type 0 where
  count : length after.bytes ≡ size
  same_count : length before.bytes ≡ size
  waits : after.waits ≡ before.waits
  bytes : (a : ℕ) → placed (from_place place after.bytes) a ≡ placed (from_place place before.bytes ++ fix_placements t before.waits) a

datum-joined : (t : Targets) (line size place : ℕ) (target : Target) → size ≤ 8 → HasSize size target → IsJoinedDatum t size place (datum no_targets line size place target) (datum t line size place target)
datum-joined t line size place target h1 h2 = grind (arith, common_steps, nat_tests)

-- a datum before others
rest-joined : (t : Targets) (size place : ℕ) (first other rest last : Data) → IsJoinedDatum t size place first other → IsJoinedData t ((place + size) % 2 ^ 64) rest last → IsJoinedData t place (joined_data first rest) (joined_data other last)
rest-joined t size place first other rest last one more = record {
  count = length-append other.bytes last.bytes ∙ omega (arith, one.count, one.same_count, more.count) ∙ sym (length-append first.bytes rest.bytes);
  waits = ap (λ l. l ++ last.waits) one.waits ∙ ap (λ l. first.waits ++ l) more.waits;
  bytes = λ fits a.
      let long : length (first.bytes ++ rest.bytes) ≡ size + length rest.bytes = length-append first.bytes rest.bytes ∙ ap (λ n. n + length rest.bytes) one.same_count in
      let next : (place + size) % 2 ^ 64 ≡ place + size = omega arith in
      let inside : (place + size) % 2 ^ 64 + length rest.bytes < 2 ^ 64 = omega arith in
      ap (λ l. placed l a) (from-append place other.bytes last.bytes)
      ∙ placed-append (from_place place other.bytes) (from_place (place + length other.bytes) last.bytes) a
      ∙ ap (λ n. bit_xor (placed (from_place place other.bytes) a) (placed (from_place n last.bytes) a)) (ap (λ n. place + n) one.count ∙ sym next)
      ∙ ap (λ n. bit_xor n (placed (from_place ((place + size) % 2 ^ 64) last.bytes) a)) (one.bytes a ∙ placed-append (from_place place first.bytes) (fix_placements t first.waits) a)
      ∙ ap (bit_xor _) (more.bytes inside a ∙ placed-append (from_place ((place + size) % 2 ^ 64) rest.bytes) (fix_placements t rest.waits) a)
      ∙ xor-pairs (placed (from_place place first.bytes) a) (placed (fix_placements t first.waits) a) (placed (from_place ((place + size) % 2 ^ 64) rest.bytes) a) (placed (fix_placements t rest.waits) a)
      ∙ ap (λ n. bit_xor (bit_xor (placed (from_place place first.bytes) a) (placed (from_place n rest.bytes) a)) (bit_xor (placed (fix_placements t first.waits) a) (placed (fix_placements t rest.waits) a))) (next ∙ ap (λ n. place + n) (sym one.same_count))
      ∙ sym (placed-append (from_place place (first.bytes ++ rest.bytes)) (fix_placements t (first.waits ++ rest.waits)) a
      ∙ ap (λ l. bit_xor (placed l a) (placed (fix_placements t (first.waits ++ rest.waits)) a)) (from-append place first.bytes rest.bytes)
      ∙ ap (λ l. bit_xor (placed (from_place place first.bytes ++ from_place (place + length first.bytes) rest.bytes) a) (placed l a)) (fixes-append t first.waits rest.waits)
      ∙ ap (λ n. bit_xor n (placed (fix_placements t first.waits ++ fix_placements t rest.waits) a)) (placed-append (from_place place first.bytes) (from_place (place + length first.bytes) rest.bytes) a)
      ∙ ap (bit_xor _) (placed-append (fix_placements t first.waits) (fix_placements t rest.waits) a));
}

with-rest-joined : (t : Targets) (size place : ℕ) (first other : Data) (rest last : Answer Data) → IsJoinedDatum t size place first other → AreAlike (IsJoinedData t ((place + size) % 2 ^ 64)) rest last → AreAlike (IsJoinedData t place) (with_rest first rest) (with_rest other last)
unfolding AreAlike
with-rest-joined t size place first other (Err fault) (Err more) one is = is
with-rest-joined t size place first other (Ok rest) (Ok last) one is = rest-joined t size place first other rest last one is
with-rest-joined t size place first other rest last one is = absurd is

data-joined : (t : Targets) (k : Known) (line size place : ℕ) (es : List Tree) → size ≤ 8 → AreAlike (IsJoinedData t place) (data_of no_targets k line size place es) (data_of t k line size place es)
unfolding data_of
data-joined t k line size place [] small = alike-values _ no_data no_data (record { count = refl; waits = refl; bytes = λ fits a. refl })
data-joined t k line size place (e ∷ es) small =
    search (rules, alike-then, with-rest-joined, datum-joined, sized, data-joined t k line size ((place + size) % 2 ^ 64) es small)

pub form-joined : (t : Targets) (k : Known) (line size : ℕ) (es : List Tree) → size ≤ 8 → AreAlike (IsJoinedData t k.at) (data_form no_targets k line size es) (data_form t k line size es)
form-joined t k line size es h = search (rules, alike-fault, data-joined)
