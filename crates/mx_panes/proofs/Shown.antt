-- Bytes of memory and values that are shown.
use Rattle.std.proofs.Common.{◌≡◌, ◌+◌, ◌++◌, ℕ, List, [], ◌∷◌, length, zero, suc, take, drop, arith, refl, sym, ◌∙◌, ap, subst, length-append}
use Rattle.std.proofs.lemmas.List.{take_all}
use Rattle.mx_core.specs.State.{State}
use Rattle.mx_ring.specs.Stack.{register}
use Rattle.serde_json.specs.Data.{Data}
use Rattle.mx_panes.specs.Memory.{ShowsBytes, count_asked, memory_body}
use Rattle.mx_panes.specs.Registers.{HasDigits, ShowFrom, ShowRegisters, ShowsValue, digits_text, row_text}
use Rattle.mx_text.specs.Numbers.{hex_digits, hex_text}
use Rattle.mx_trap.specs.Requests.{bytes_from}
use Rattle.mx_trap.proofs.Buffers.{bytes-more, bytes-none}

-- ---- bytes

pub no-bytes : (f : ℕ → ℕ) (a : ℕ) (bytes : List ℕ) → bytes ≡ [] → bytes ≡ bytes_from f a 0
no-bytes f a bytes e = e ∙ sym (bytes-none f a)

pub one-byte-more : (f : ℕ → ℕ) (a i b : ℕ) (bytes new : List ℕ) → new ≡ bytes ++ b ∷ [] → b ≡ f (a + i) → bytes ≡ bytes_from f a i → new ≡ bytes_from f a (i + 1)
one-byte-more f a i b bytes new n e h = n ∙ ap (λ xs. xs ++ b ∷ []) h ∙ ap (λ x. bytes_from f a i ++ x ∷ []) e ∙ sym (bytes-more f a i)

pub bytes-shown : (s : State) (d : Data) (a n : ℕ) (body : List ℕ) → body ≡ memory_body s a n → n ≡ count_asked d → ShowsBytes s d body
bytes-shown s d a n body e same = record { address = a; is = e ∙ ap (memory_body s a) same }

pub ruleset reading = (no-bytes, one-byte-more, bytes-shown)

-- ---- references

digit-count : (k x : ℕ) → length (hex_digits k x) ≡ k
unfolding hex_digits
digit-count zero x = refl
digit-count (suc k) x = ap suc (digit-count k x)

pub digits-after-mark : (x : ℕ) (text : List ℕ) → text ≡ hex_text x → take 16 (drop 1 text) ≡ hex_digits 16 x
digits-after-mark x text e =
    let few : length (hex_digits 16 x) ≡ 16 = digit-count 16 x in
    ap (λ ds. take 16 (drop 1 ds)) e ∙ take_all 16 (hex_digits 16 x) (omega (arith, few))

-- ---- values

pub has-digits : (x : ℕ) (front label text : List ℕ) → text ≡ digits_text front x label → HasDigits x text
has-digits x front label text e = record { front = front; label = label; is = e }

pub shows-value : (x : ℕ) (name value text rest row : List ℕ) → row ≡ row_text name value rest → value ≡ text → HasDigits x text → ShowsValue x row
shows-value x name value text rest row e same d = record { name = name; value = value; rest = rest; digits = subst (HasDigits x) (sym same) d; is = e }

pub ruleset showing = (has-digits, shows-value)

pub value-same : (x y : ℕ) (row : List ℕ) → ShowsValue y row → y ≡ x → ShowsValue x row
value-same x y row h e = subst (λ n. ShowsValue n row) e h

pub ruleset equal_values = (value-same)

-- ---- registers

row-more : (s : State) (k : ℕ) (rows : List (List ℕ)) (row : List ℕ) → ShowFrom s k rows → ShowsValue (register s.stack (k + length rows)) row → ShowFrom s k (rows ++ row ∷ [])
row-more s k [] row h g = let same : k + 0 ≡ k = omega arith in (subst (λ n. ShowsValue (register s.stack n) row) same g, tt)
row-more s k (r ∷ rows) row h g =
    let same : k + suc (length rows) ≡ k + 1 + length rows = omega arith in
    (h.0, row-more s (k + 1) rows row h.1 (subst (λ n. ShowsValue (register s.stack n) row) same g))

pub no-rows : (s : State) (first : ℕ) (rows : List (List ℕ)) → rows ≡ [] → ShowRegisters s first 0 rows
no-rows s first rows e = subst (ShowRegisters s first 0) (sym e) (record { number = refl; shown = tt })

pub one-row-more : (s : State) (first i k : ℕ) (rows new : List (List ℕ)) (row : List ℕ) → new ≡ rows ++ row ∷ [] → ShowsValue (register s.stack k) row → k ≡ first + i → ShowRegisters s first i rows → ShowRegisters s first (i + 1) new
one-row-more s first i k rows new row n g e h =
    let there : k ≡ first + length rows = e ∙ ap (λ m. first + m) (sym h.number) in
    subst (ShowRegisters s first (i + 1)) (sym n) (record {
      number = length-append rows (row ∷ []) ∙ ap (λ m. m + 1) h.number;
      shown = row-more s first rows row h.shown (subst (λ m. ShowsValue (register s.stack m) row) there g);
    })

pub all-rows : (s : State) (first i count : ℕ) (rows : List (List ℕ)) → ShowRegisters s first i rows → i ≡ count → ShowRegisters s first count rows
all-rows s first i count rows h e = subst (λ n. ShowRegisters s first n rows) e h

pub ruleset listing = (no-rows, one-row-more, all-rows)

pub rows-same : (s : State) (first count start number : ℕ) (rows : List (List ℕ)) → ShowRegisters s first count rows → first ≡ start → count ≡ number → ShowRegisters s start number rows
rows-same s first count start number rows h e f =
    subst (λ n. ShowRegisters s start n rows) f (subst (λ k. ShowRegisters s k count rows) e h)

pub ruleset listed = (rows-same)
