-- A start is a machine over a window.
use Rattle.std.proofs.Common.{◌≡◌, ◌≤◌, ◌<◌, ℕ, zero, suc, ◌+◌, ◌-◌, ◌*◌, ◌^◌, ◌||◌, Bool, false, cond, List, [], ◌∷◌, ◌++◌, length, map, replicate, None, Some, arith, refl, ap, subst}
use Rattle.std.specs.List.{AllByRecursion, flat_map, range_with_len}
use Rattle.std.proofs.lemmas.List.{length-replicate, length-append}
use Rattle.std.proofs.lemmas.List.FromFn.{length-map-range_with_len}
use Rattle.mx_word.specs.Ranges.{AreBytes, AreOctas}
use Rattle.mx_word.specs.Words.{octa_from_bytes}
use Rattle.mx_mmo.specs.Image.{Image}
use Rattle.mx_mmo.specs.Reading.{octas_of}
use Rattle.mx_registers.specs.HiddenPart.{zeros}
use Rattle.mx_ring.specs.Stack.{windowed, stack_address}
use Rattle.mx_ring.specs.Window.{window_at_start}
use Rattle.mx_core.specs.Machines.{IsOverWindow}
use Rattle.mx_core.specs.Bare.{special_at_start}
use Rattle.mx_core.specs.UserChanges.{allowed_unless}
use Rattle.mx_start.specs.Images.{IsImage}
use Rattle.mx_start.specs.Start.{pool, pool_octas, with_octas, loaded, start, registers_of, text_size, text_octas, texts_end, text_addresses, first_text}
use Rattle.mx_core.specs.State.{State, with_octa, is_negative, is_page_refused}
use Rattle.mx_core.proofs.Octas.Steps.{octa-over}
use Rattle.mx_start.proofs.StoredOctas.{addresses-length, pool-count}

-- ---- octas in lists

all-append : (P : ℕ → Type 0) (xs ys : List ℕ) → AllByRecursion P xs → AllByRecursion P ys → AllByRecursion P (xs ++ ys)
all-append P [] ys h g = g
all-append P (x ∷ xs) ys h g = (h.0, all-append P xs ys h.1 g)

all-same : (P : ℕ → Type 0) (n x : ℕ) → P x → AllByRecursion P (replicate n x)
all-same P zero x h = tt
all-same P (suc n) x h = (h, all-same P n x h)

all-mapped : (P : ℕ → Type 0) (f : ℕ → ℕ) (xs : List ℕ) → ((x : ℕ) → P (f x)) → AllByRecursion P (map f xs)
all-mapped P f [] h = tt
all-mapped P f (x ∷ xs) h = (h x, all-mapped P f xs h)

eight-below : (a b c d e f g h : ℕ) → a < 2 ^ 8 → b < 2 ^ 8 → c < 2 ^ 8 → d < 2 ^ 8 → e < 2 ^ 8 → f < 2 ^ 8 → g < 2 ^ 8 → h < 2 ^ 8 →
    octa_from_bytes (a ∷ b ∷ c ∷ d ∷ e ∷ f ∷ g ∷ h ∷ []) < 2 ^ 64
eight-below a b c d e f g h ha hb hc hd he hf hg hh = omega (arith, ha, hb, hc, hd, he, hf, hg, hh)

octas-below : (bytes : List ℕ) → AreBytes bytes → AreOctas (octas_of bytes)
octas-below (a ∷ b ∷ c ∷ d ∷ e ∷ f ∷ g ∷ h ∷ more) (ha, (hb, (hc, (hd, (he, (hf, (hg, (hh, rest)))))))) =
    (eight-below a b c d e f g h ha hb hc hd he hf hg hh, octas-below more rest)
octas-below [] all = tt
octas-below (a ∷ []) all = tt
octas-below (a ∷ b ∷ []) all = tt
octas-below (a ∷ b ∷ c ∷ []) all = tt
octas-below (a ∷ b ∷ c ∷ d ∷ []) all = tt
octas-below (a ∷ b ∷ c ∷ d ∷ e ∷ []) all = tt
octas-below (a ∷ b ∷ c ∷ d ∷ e ∷ f ∷ []) all = tt
octas-below (a ∷ b ∷ c ∷ d ∷ e ∷ f ∷ g ∷ []) all = tt

-- ---- the octas of the pool

texts-below : (texts : List (List ℕ)) → AllByRecursion AreBytes texts → AreOctas (flat_map text_octas texts)
texts-below [] all = tt
texts-below (t ∷ texts) all =
    all-append (λ x. x < 2 ^ 64) (text_octas t) (flat_map text_octas texts)
    (octas-below (t ++ replicate (text_size t - length t) 0) (all-append (λ b. b < 2 ^ 8) t (replicate (text_size t - length t) 0) all.0 (all-same (λ b. b < 2 ^ 8) (text_size t - length t) 0 (omega arith))))
    (texts-below texts all.1)

ends-on : (at : ℕ) (texts : List (List ℕ)) → at ≤ texts_end at texts
ends-on at [] = omega arith
ends-on at (t ∷ texts) = omega (arith, ends-on (at + text_size t) texts)

addresses-below : (at : ℕ) (texts : List (List ℕ)) → texts_end at texts < 2 ^ 64 → AreOctas (text_addresses at texts)
addresses-below at [] far = tt
addresses-below at (t ∷ texts) far = (omega (arith, far, ends-on (at + text_size t) texts), addresses-below (at + text_size t) texts far)

pool-below : (texts : List (List ℕ)) → AllByRecursion AreBytes texts → pool + 8 * length (pool_octas texts) ≤ stack_address 0 → AreOctas (pool_octas texts)
unfolding pool_octas
pool-below texts all fit =
    let end : texts_end (first_text texts) texts < 2 ^ 64 = omega (arith, fit, pool-count texts) in
    (end, all-append (λ x. x < 2 ^ 64) (text_addresses (first_text texts) texts) (0 ∷ flat_map text_octas texts) (addresses-below (first_text texts) texts end) (omega arith, texts-below texts all))

few-arguments : (texts : List (List ℕ)) → pool + 8 * length (pool_octas texts) ≤ stack_address 0 → length texts < 2 ^ 64
unfolding pool_octas
few-arguments texts fit = omega (arith, fit, addresses-length (first_text texts) texts, length-append (text_addresses (first_text texts) texts) (0 ∷ flat_map text_octas texts))

-- ---- the machine before its arguments are stored

zeros-length : (n : ℕ) → length (zeros n) ≡ n
unfolding zeros
zeros-length n = length-replicate n 0

zeros-below : (n : ℕ) → AreOctas (zeros n)
unfolding zeros
zeros-below n = all-same (λ x. x < 2 ^ 64) n 0 (omega arith)

loaded-over : (image : Image) (count size : ℕ) → IsImage image → 256 ≤ size → count < 2 ^ 64 → IsOverWindow (loaded image count (windowed (window_at_start size)))
unfolding special_at_start
loaded-over image count size is least few = record {
  window = record (window_at_start size) { visible = registers_of image count };
  machine = record {
    over = refl;
    ring = record {
      least_size = least;
      area = zeros-length (2 ^ 20);
      spilled_are_hidden = omega arith;
      shorter = omega (arith, least);
      has_room = omega arith;
      registers = record {
        locals_below_globals = omega (arith, is.least_global);
        least_global = is.least_global;
        one_is_global = is.one_is_global;
        all_globals = omega (arith, length-map-range_with_len image.global image.g (256 - image.g), is.one_is_global);
      };
    };
    frames_are_spilled = λ quiet. omega arith;
    pages = is.pages;
    specials = refl;
    address = omega arith;
  };
  octas = record {
    locals = (few, (omega arith, tt));
    globals = all-mapped (λ x. x < 2 ^ 64) image.global (range_with_len image.g (256 - image.g)) is.globals;
    resident = tt;
    area = zeros-below (2 ^ 20);
    special = grind arith;
    status = omega arith;
    memory = is.memory;
    steps = omega arith;
  };
}

-- ---- the arguments

stored-over : (s t : State) (a x : ℕ) (xs : List ℕ) (negative refused : Bool) → x < 2 ^ 64 → IsOverWindow s →
    (IsOverWindow (with_octa s a x) → with_octas (with_octa s a x) (a + 8) xs ≡ Some t → IsOverWindow t) →
    is_page_refused s a ≡ refused → cond (negative || refused) None (with_octas (with_octa s a x) (a + 8) xs) ≡ Some t → IsOverWindow t
stored-over s t a x xs false false small over more allowed next =
    more (octa-over s (with_octa s a x) a x over small (ap (λ b. allowed_unless b (with_octa s a x)) allowed)) next
stored-over s t a x xs negative refused small over more allowed next = absurd (cc)

octas-over : (xs : List ℕ) (a : ℕ) (s t : State) → AreOctas xs → IsOverWindow s → with_octas s a xs ≡ Some t → IsOverWindow t
unfolding with_octas
octas-over [] a s t all over e = subst IsOverWindow (let same : s ≡ t = cc in same) over
octas-over (x ∷ xs) a s t all over e =
    stored-over s t a x xs (is_negative a) (is_page_refused s a) all.0 over (λ stored next. octas-over xs (a + 8) (with_octa s a x) t all.1 stored next) refl e

pub start-over : (image : Image) (arguments : List (List ℕ)) (size : ℕ) (s : State) → IsImage image → 256 ≤ size → AllByRecursion AreBytes arguments → pool + 8 * length (pool_octas arguments) ≤ stack_address 0 →
    start image arguments (windowed (window_at_start size)) ≡ Some s → IsOverWindow s
unfolding start
start-over image arguments size s is least all fit e =
    octas-over (pool_octas arguments) pool (loaded image (length arguments) (windowed (window_at_start size))) s (pool-below arguments all fit)
    (loaded-over image (length arguments) size is least (few-arguments arguments fit)) e

pub ruleset starting = (start-over)
