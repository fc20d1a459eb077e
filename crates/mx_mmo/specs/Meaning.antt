-- What a list of items means, item by item.
-- (MMIXware, the part on MMIXAL, "Binary MMO output", and the part on MMIX-SIM, "Loading an object file". Which items
-- mean nothing: a rule of this program.)
use Rattle.std.specs.Prelude.{ℕ, ◌+◌, ◌-◌, ◌*◌, ◌/◌, ◌%◌, ◌^◌, ◌==◌, ◌&&◌, Bool, true, false, not, nat_le, List, [], ◌∷◌, Option, Some, None, Result, Ok, Err, slice_index, min, if◌then◌else◌}
pub use Rattle.mx_word.specs.Octas.{with_tetra, with_page}
use Rattle.mx_mmo.specs.Image.{Image}
use Rattle.mx_mmo.specs.declared.items.Item.{Item}
use Rattle.mx_mmo.specs.declared.items.Item.TheVariants.{Load, Loc, Skip, FixOcta, FixNear, FixFar, File, Line, Spec, Pre, Post, Stab}

-- why items have no meaning: a tetra would need page 65,537, or would lie in the stack segment or
-- above it, or a line or a file number came before its file
pub data Meaningless : Type 0 where
  PagesFull : Meaningless
  BadPlace : Meaningless
  NoFile : Meaningless

-- what there is so far: the image, lambda, the line in force, whether a file is selected, and the
-- numbers of the files that were named
pub record Loading : Type 0 where
  pub image : Image
  pub lambda : ℕ
  pub line : ℕ
  pub selected : Bool
  pub named : ℕ → Bool

-- before the first item there is nothing anywhere
abbrev pub nothing : Loading
nothing = record {
  image = record { memory = λ a. 0; pages = λ p. false; page_count = 0; line_of = λ a. 0; g = 255; global = λ k. 0 };
  lambda = 0;
  line = 0;
  selected = false;
  named = λ n. false;
}

-- a page that is there already is not counted again, and there are at most 65,536
abbrev pub paged : Image → ℕ → Result Image Meaningless
paged m page =
    if m.pages page then Ok m
    else if nat_le 65536 m.page_count then Err PagesFull
    else Ok (record m { pages = with_page m.pages page; page_count = m.page_count + 1 })

-- whether the tetra that holds an address may be there: it lies below the stack segment
abbrev pub is_below : ℕ → Bool
is_below a = not (nat_le 0x6000_0000_0000_0000 a)

-- the image with a tetra joined to memory
abbrev pub image_with_tetra : ℕ → ℕ → Result Image Meaningless → Result Image Meaningless
image_with_tetra a t (Ok m) = Ok (record m { memory = with_tetra m.memory a t })
image_with_tetra a t (Err e) = Err e

-- a tetra is joined at an address, on the page that it lies on
abbrev pub join : Image → ℕ → ℕ → Result Image Meaningless
join m a t = if is_below a then image_with_tetra a t (paged m (a / 4096)) else Err BadPlace

abbrev pub then_join : ℕ → ℕ → Result Image Meaningless → Result Image Meaningless
then_join a t (Ok m) = join m a t
then_join a t (Err e) = Err e

-- an octa is joined as two tetras, the first at the tetra that holds the address; both have to lie
-- below the stack segment before either is joined
abbrev pub join_octa : Image → ℕ → ℕ → Result Image Meaningless
join_octa m a x =
    let high = 4 * (a / 4) in
    let low = (high + 4) % 2 ^ 64 in
    if is_below high && is_below low then then_join low (x % 2 ^ 32) (join m high (x / 2 ^ 32)) else Err BadPlace

-- the address this many tetras before another, and this many after it; addresses are modulo 2^64
abbrev pub tetras_before : ℕ → ℕ → ℕ
tetras_before n a = (a + 2 ^ 64 - 4 * n) % 2 ^ 64

abbrev pub tetras_following : ℕ → ℕ → ℕ
tetras_following n a = (a + 4 * n) % 2 ^ 64

-- where a far fix joins its tetra: lambda less four times a distance, which is the tetra, or its low 24 bits less 2^bits
-- where its first byte is 1
abbrev pub far_place : ℕ → ℕ → ℕ → ℕ
far_place a bits t =
    if nat_le (2 ^ 24) t then tetras_following (2 ^ bits) (tetras_before (t % 2 ^ 24) a) else tetras_before t a

-- the image after a change, and all else as it was
abbrev pub with_image : Loading → Result Image Meaningless → Result Loading Meaningless
with_image s (Ok m) = Ok (record s { image = m })
with_image s (Err e) = Err e

-- the line of a loaded tetra
abbrev pub lined : (ℕ → ℕ) → ℕ → ℕ → ℕ → ℕ
lined line_of a line q = if q / 4 == a / 4 then line else line_of q

abbrev pub noted : Loading → Image → Image
noted s m = if s.line == 0 then m else record m { line_of = lined m.line_of s.lambda s.line }

-- the line in force after a tetra: one that is not 0 grows by 1, up to 2^32 - 1, the greatest line there is; an object
-- of at most 2^26 bytes does not come to that one
abbrev pub next_line : ℕ → ℕ
next_line line = if line == 0 then 0 else min (line + 1) (2 ^ 32 - 1)

-- after a tetra lambda is the next multiple of 4
abbrev pub after_load : Loading → Result Image Meaningless → Result Loading Meaningless
after_load s (Ok m) =
    Ok (record s {
      image = noted s m;
      lambda = (4 * (s.lambda / 4) + 4) % 2 ^ 64;
      line = next_line s.line;
    })
after_load s (Err e) = Err e

abbrev pub with_name : (ℕ → Bool) → ℕ → ℕ → Bool
with_name named number n = if n == number then true else named n

-- a file is selected: one with a name is named, and one without has to have been named
abbrev pub select : Loading → ℕ → Option (List ℕ) → Result Loading Meaningless
select s number (Some name) = Ok (record s { selected = true; named = with_name s.named number })
select s number None = if s.named number then Ok (record s { selected = true }) else Err NoFile

-- $g to $255 have the values in order; a lower register is not global and has none, here 0
abbrev pub value_at : ℕ → List ℕ → ℕ → ℕ
value_at g values k = if nat_le g k then slice_index values (k - g) else 0

abbrev pub with_globals : Image → ℕ → List ℕ → Image
with_globals m g values = record m { g = g; global = value_at g values }

-- what there is after one item more
abbrev pub take_item : Loading → Item → Result Loading Meaningless
take_item s (Load t) = after_load s (join s.image s.lambda t)
take_item s (Loc a) = Ok (record s { lambda = a })
take_item s (Skip n) = Ok (record s { lambda = (s.lambda + n) % 2 ^ 64 })
take_item s (FixOcta a) = with_image s (join_octa s.image a s.lambda)
take_item s (FixNear n) = with_image s (join s.image (tetras_before n s.lambda) n)
take_item s (FixFar bits t) = with_image s (join s.image (far_place s.lambda bits t) t)
take_item s (File number name) = select s number name
take_item s (Line n) = if s.selected then Ok (record s { line = n }) else Err NoFile
take_item s (Spec n) = Ok s
take_item s (Pre tetras) = Ok s
take_item s (Post g values) = Ok (record s { image = with_globals s.image g values })
take_item s Stab = Ok s

-- what there is after items, from the left; the first that has no meaning counts
abbrev pub take_items : List Item → Result Loading Meaningless → Result Loading Meaningless
take_items [] (Ok s) = Ok s
take_items (item ∷ items) (Ok s) = take_items items (take_item s item)
take_items items (Err e) = Err e

abbrev pub image_in : Result Loading Meaningless → Result Image Meaningless
image_in (Ok s) = Ok s.image
image_in (Err e) = Err e

-- the meaning of items: the image that they set up
abbrev pub meaning : List Item → Result Image Meaningless
meaning items = image_in (take_items items (Ok nothing))
