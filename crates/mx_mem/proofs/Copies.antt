-- A memory with the same pages and the same places of them.
use Rattle.std.proofs.Common.{◌≡◌, ◌<◌, ◌^◌, ℕ, List, Some, length, sym, subst, ◌∙◌, ap}
use Rattle.std.specs.Ordering.{nat_cmp}
use Rattle.std.specs.BTreeMap.{BTreeMap, is_at}
use Rattle.std.specs.Map.{lookup}
use Rattle.mx_mem.specs.Held.{Bounded, Holds, Indexed, IsKept, number_in, view_of}
use Rattle.mx_mem.specs.Memory.{octa_on}
use Rattle.mx_mem.specs.declared.memory.Memory.TheInside.{Inside}

indexed-same : (pages others : List (ℕ × List ℕ)) (places copies : BTreeMap ℕ ℕ) → others ≡ pages → copies.entries ≡ places.entries → Indexed pages places → Indexed others copies
indexed-same pages others places copies e f h = record {
  named = λ i l.
      ap (lookup (is_at (nat_cmp (number_in others i)))) f
      ∙ subst (λ ps. i < length ps → lookup (is_at (nat_cmp (number_in ps i))) places.entries ≡ Some i) (sym e) (h.named i) l;
  placed = λ p i g. subst (λ ps. (i < length ps) × (number_in ps i ≡ p)) (sym e) (h.placed p i (sym (ap (lookup (is_at (nat_cmp p))) f) ∙ g));
}

pub copy-holds : (i j : Inside) → j.pages.items ≡ i.pages.items → j.places.entries ≡ i.places.entries → j.code_start ≡ i.code_start → j.code_size ≡ i.code_size → j.code_place ≡ i.code_place → Holds i → Holds j
copy-holds i j e f a b c h = record {
  indexed = indexed-same i.pages.items j.pages.items i.places j.places e f h.indexed;
  bounded = subst Bounded (sym e) h.bounded;
  count = ap length f ∙ h.count ∙ sym (ap length e);
  fits = λ q. subst (λ ps. octa_on (view_of ps j.places.entries) q < 2 ^ 64) (sym e) (subst (λ es. octa_on (view_of i.pages.items es) q < 2 ^ 64) (sym f) (h.fits q));
  code = subst (λ n. IsKept n j.code_size j.code_place j.pages.items) (sym a) (subst (λ n. IsKept i.code_start n j.code_place j.pages.items) (sym b)
      (subst (λ n. IsKept i.code_start i.code_size n j.pages.items) (sym c) (subst (λ ps. IsKept i.code_start i.code_size i.code_place ps) (sym e) h.code)));
}
