-- The addresses that a reader still adds.
use Rattle.std.specs.Prelude.{◌≡◌, ℕ, List}
use Rattle.mx_mmo.specs.Replies.{ReaderModel}
use Rattle.mx_mmo.specs.Whole.{items_of}
use Rattle.mx_mmo.specs.declared.items.Item.{Item}
use Rattle.mx_type.specs.Lambda.{lambda_after}
use Rattle.mx_object.specs.Addresses.{joined, joined_by, with_all}

-- addresses with those of the items that a reader still gives, where lambda is an address before the first of them
abbrev pub left : List ℕ → ℕ → ReaderModel → List ℕ
left addresses lambda r = with_all addresses (joined lambda (items_of r.phase r.at r.rest).0)

-- what an item loads was noted
pub record HasNoted (old new : List ℕ) (from to : ℕ) (item : Item) : Type 0 where
  pub addresses : new ≡ with_all old (joined_by from item)
  pub lambda : to ≡ lambda_after from item
