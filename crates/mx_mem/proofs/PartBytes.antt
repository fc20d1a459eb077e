-- What a part that is stored does to the bytes.
use Rattle.std.proofs.Common.{◌≡◌, ◌<◌, ◌≤◌, ◌/◌, ◌%◌, ◌*◌, ◌+◌, ◌-◌, ◌^◌, ℕ, arith, ap, sym, ◌∙◌, ⊎_elim}
use Rattle.std.proofs.lemmas.Bool.{cases_eq, cases_lt}
use Rattle.std.proofs.lemmas.Grind.{common_steps}
use Rattle.mx_mem.specs.Memory.{Stored, octa_at, byte_at, byte_of, stored_at, stored_bytes}
use Rattle.mx_mem.specs.Parts.{size_of, bits_below, with_part, bytes_with_part}
use Rattle.mx_mem.specs.declared.part.Part.{Part}
use Rattle.mx_mem.specs.declared.part.Part.TheVariants.{Byte, Wyde, Tetra, Octa}
use Rattle.mx_mem.proofs.Fields.{byte-below, byte-above, byte-within}
use Rattle.mx_mem.proofs.Joins.{same-octa}

-- where a byte of the part is in its octa
place-within : (part : Part) (a q : ℕ) → q / 8 ≡ a / 8 → q / size_of part ≡ a / size_of part →
    (8 * (7 - q % 8) ≡ bits_below part a + 8 * (size_of part - 1 - q % size_of part)) × (8 * size_of part ≡ 8 * (q % size_of part) + (8 + 8 * (size_of part - 1 - q % size_of part)))
place-within Byte a q e f = (omega arith, omega arith)
place-within Wyde a q e f = (omega arith, omega arith)
place-within Tetra a q e f = (omega arith, omega arith)
place-within Octa a q e f = (omega arith, omega arith)

-- a byte before the part is above it, and one after it below
place-before : (part : Part) (a q : ℕ) → q / 8 ≡ a / 8 → q / size_of part < a / size_of part →
    8 * (7 - q % 8) ≡ bits_below part a + (8 * size_of part + (8 * (7 - q % 8) - bits_below part a - 8 * size_of part))
place-before Byte a q e f = omega arith
place-before Wyde a q e f = omega arith
place-before Tetra a q e f = omega arith
place-before Octa a q e f = omega arith

place-after : (part : Part) (a q : ℕ) → q / 8 ≡ a / 8 → a / size_of part < q / size_of part →
    bits_below part a ≡ (bits_below part a - 8 - 8 * (7 - q % 8)) + (8 + 8 * (7 - q % 8))
place-after Byte a q e f = omega arith
place-after Wyde a q e f = omega arith
place-after Tetra a q e f = omega arith
place-after Octa a q e f = omega arith

one-octa : (part : Part) (a q : ℕ) → q / size_of part ≡ a / size_of part → q / 8 ≡ a / 8
one-octa Byte a q f = omega arith
one-octa Wyde a q f = omega arith
one-octa Tetra a q f = omega arith
one-octa Octa a q f = omega arith

byte-of-part : (part : Part) (octa a x q : ℕ) → q / 8 ≡ a / 8 → q / size_of part ≡ a / size_of part → byte_of (with_part part octa a x) q ≡ x / 2 ^ (8 * (size_of part - 1 - q % size_of part)) % 256
byte-of-part part octa a x q e f =
    let place = place-within part a q e f in
    byte-within octa (bits_below part a) (8 * size_of part) x (8 * (7 - q % 8)) (8 * (size_of part - 1 - q % size_of part)) (8 * (q % size_of part)) place.0 place.1

byte-beside : (part : Part) (octa a x q : ℕ) → q / 8 ≡ a / 8 → (q / size_of part ≡ a / size_of part → ⊥) → byte_of (with_part part octa a x) q ≡ byte_of octa q
byte-beside part octa a x q e ne = ⊎_elim (λ l. before l) (λ l. following l) (cases_lt (q / size_of part) (a / size_of part))
  where
    before : q / size_of part < a / size_of part → byte_of (with_part part octa a x) q ≡ byte_of octa q
    before l = byte-above octa (bits_below part a) (8 * size_of part) x (8 * (7 - q % 8)) _ (place-before part a q e l)

    following : a / size_of part ≤ q / size_of part → byte_of (with_part part octa a x) q ≡ byte_of octa q
    following l =
        let less : a / size_of part < q / size_of part = omega arith in
        byte-below octa (bits_below part a) (8 * size_of part) x (8 * (7 - q % 8)) _ (place-after part a q e less)

part-byte : (m : Stored) (part : Part) (a x q : ℕ) → byte_of (stored_at (octa_at m) a (with_part part (octa_at m a) a x) q) q ≡ bytes_with_part part (byte_at m) a x q
part-byte m part a x q = ⊎_elim (λ f. inside f) (λ ne. beside ne) (cases_eq (q / size_of part) (a / size_of part))
  where
    y : ℕ
    y = with_part part (octa_at m a) a x

    inside : q / size_of part ≡ a / size_of part → byte_of (stored_at (octa_at m) a y q) q ≡ bytes_with_part part (byte_at m) a x q
    inside f =
        let e = one-octa part a q f in
        let octa : stored_at (octa_at m) a y q ≡ y = grind (arith, common_steps) in
        let byte : bytes_with_part part (byte_at m) a x q ≡ x / 2 ^ (8 * (size_of part - 1 - q % size_of part)) % 256 = grind (arith, common_steps) in
        ap (λ n. byte_of n q) octa ∙ byte-of-part part (octa_at m a) a x q e f ∙ sym byte

    same : (q / 8 ≡ a / 8) → (q / size_of part ≡ a / size_of part → ⊥) → byte_of (stored_at (octa_at m) a y q) q ≡ byte_at m q
    same e ne =
        let octa : stored_at (octa_at m) a y q ≡ y = grind (arith, common_steps) in
        ap (λ n. byte_of n q) octa ∙ byte-beside part (octa_at m a) a x q e ne ∙ ap (λ n. byte_of n q) (sym (same-octa m q a e))

    other : (q / 8 ≡ a / 8 → ⊥) → byte_of (stored_at (octa_at m) a y q) q ≡ byte_at m q
    other ne =
        let octa : stored_at (octa_at m) a y q ≡ octa_at m q = grind (arith, common_steps) in
        ap (λ n. byte_of n q) octa

    beside : (q / size_of part ≡ a / size_of part → ⊥) → byte_of (stored_at (octa_at m) a y q) q ≡ bytes_with_part part (byte_at m) a x q
    beside ne =
        let byte : bytes_with_part part (byte_at m) a x q ≡ byte_at m q = grind (arith, common_steps) in
        ⊎_elim (λ e. same e ne) (λ e. other e) (cases_eq (q / 8) (a / 8)) ∙ sym byte

-- the bytes after a part was stored
pub part-bytes : (m n : Stored) (part : Part) (a x : ℕ) → octa_at n ≡ stored_at (octa_at m) a (with_part part (octa_at m a) a x) → byte_at n ≡ bytes_with_part part (byte_at m) a x
part-bytes m n part a x e = λ i q. (ap (λ (f : ℕ → ℕ). byte_of (f q) q) e ∙ part-byte m part a x q) i

octa-byte : (m : Stored) (a x q : ℕ) → byte_of (stored_at (octa_at m) a x q) q ≡ stored_bytes (byte_at m) a x q
octa-byte m a x q = ⊎_elim (λ e. inside e) (λ ne. beside ne) (cases_eq (q / 8) (a / 8))
  where
    inside : q / 8 ≡ a / 8 → byte_of (stored_at (octa_at m) a x q) q ≡ stored_bytes (byte_at m) a x q
    inside e =
        let octa : stored_at (octa_at m) a x q ≡ x = grind (arith, common_steps) in
        let byte : stored_bytes (byte_at m) a x q ≡ byte_of x q = grind (arith, common_steps) in
        ap (λ n. byte_of n q) octa ∙ sym byte

    beside : (q / 8 ≡ a / 8 → ⊥) → byte_of (stored_at (octa_at m) a x q) q ≡ stored_bytes (byte_at m) a x q
    beside ne =
        let octa : stored_at (octa_at m) a x q ≡ octa_at m q = grind (arith, common_steps) in
        let byte : stored_bytes (byte_at m) a x q ≡ byte_at m q = grind (arith, common_steps) in
        ap (λ n. byte_of n q) octa ∙ sym byte

-- the bytes after an octa was stored
pub octa-bytes : (m n : Stored) (a x : ℕ) → octa_at n ≡ stored_at (octa_at m) a x → byte_at n ≡ stored_bytes (byte_at m) a x
octa-bytes m n a x e = λ i q. (ap (λ (f : ℕ → ℕ). byte_of (f q) q) e ∙ octa-byte m a x q) i
