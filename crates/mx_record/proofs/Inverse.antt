-- A record leads back.
use Rattle.std.proofs.Common.{◌≡◌, ℕ, List, sym, ◌∙◌, ap, bit_xor}
use Rattle.std.specs.Int.Bits.{xor_assoc, xor_self, xor_zero_r}
use Rattle.mx_record.specs.Pictures.{Picture}
use Rattle.mx_record.specs.Records.{Leads, applied, changed, difference}
use Rattle.mx_record.specs.declared.changes.Change.{Change}
use Rattle.mx_record.specs.declared.changes.Record.{Record}

xor-twice : (a b : ℕ) → bit_xor (bit_xor a b) b ≡ a
xor-twice a b = xor_assoc a b b ∙ ap (bit_xor a) (xor_self b) ∙ xor_zero_r a

changed-twice : (f : ℕ → ℕ) (changes : List Change) (q : ℕ) → changed (changed f changes) changes q ≡ f q
changed-twice f changes q = xor-twice (f q) (difference changes q)

pub applied-twice : (r : Record) (p : Picture) → applied r (applied r p) ≡ p
unfolding applied
applied-twice r p = λ i. record {
  next = xor-twice p.next r.next i;
  special = λ q. changed-twice p.special r.special q i;
  global = λ q. changed-twice p.global r.global q i;
  stacked = λ q. changed-twice p.stacked r.stacked q i;
  octa = λ q. changed-twice p.octa r.octas q i;
}

pub leads-back : (r : Record) (p q : Picture) → Leads r p q → Leads r q p
leads-back r p q e = ap (applied r) (sym e) ∙ applied-twice r p

pub ruleset inverse = (applied-twice, leads-back)
