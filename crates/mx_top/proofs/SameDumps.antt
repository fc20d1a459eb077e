-- A machine over a window and the one over the list that it represents have the same dump, where nothing was touched.
use Rattle.std.proofs.Common.{◌≡◌, ℕ, zero, suc, ◌*◌, ◌==◌, ◌&&◌, ◌||◌, not, nat_lt, nat_le, Bool, true, false, cond, List, [], ◌∷◌, ◌++◌, length, codes, decimal, refl, sym, ◌∙◌, ap}
use Rattle.std.specs.List.{flat_map, range_with_len}
use Rattle.std.proofs.lemmas.List.Concat.{flat_map-cons}
use Rattle.mx_core.specs.Bounds.{as_list_state}
use Rattle.mx_core.specs.State.{State}
use Rattle.mx_core.proofs.Same.Seen.{same-visible, same-register, same-special, same-octa}
use Rattle.mx_registers.specs.Registers.{Registers}
use Rattle.mx_ring.specs.Stack.{as_listed, register, in_stack_area}
use Rattle.mx_code.specs.SpecialRegisters.{rS}
use Rattle.mx_text.specs.Numbers.{hex_text}
use Rattle.mx_ops.specs.Predefined.{special_name}
use Rattle.mx_dump.specs.Dump.{Line, named_octa, special_line, special_lines, register_line, register_lines, is_register_shown, is_address_shown, octa_line, octa_lines, octa_count, dump_lines}
use Rattle.mx_dump.proofs.Dumps.{address-hidden}

pub same-each : (f g : ℕ → List Line) → ((k : ℕ) → f k ≡ g k) → (xs : List ℕ) → flat_map f xs ≡ flat_map g xs
same-each f g h [] = refl
same-each f g h (x ∷ xs) =
    flat_map-cons f x xs ∙ ap (λ l. l ++ flat_map f xs) (h x) ∙ ap (λ l. g x ++ l) (same-each f g h xs) ∙ sym (flat_map-cons g x xs)

same-special_line : (s : State) (code : ℕ) → s.touched ≡ false → special_line (as_list_state s) code ≡ special_line s code
same-special_line s code h = by (code == rS) refl
  where
    by : (b : Bool) → (code == rS) ≡ b → special_line (as_list_state s) code ≡ special_line s code
    by true e = rw (h, e) refl
    by false e = ap (λ v. cond (s.touched || not (code == rS)) (named_octa (special_name code) v ∷ []) []) (same-special s s.stack code e)

same-register_line : (s : State) (k : ℕ) → register_line (as_list_state s) k ≡ register_line s k
same-register_line s k =
    ap (λ (v : Registers). cond (nat_lt k (length v.locals) || nat_le v.first_global k) (named_octa (codes "$" ++ decimal k) (register (as_listed s.stack) k) ∷ []) []) (same-visible s.stack)
    ∙ ap (λ x. cond (is_register_shown s k) (named_octa (codes "$" ++ decimal k) x ∷ []) []) (same-register s.stack k)

same-octa_line : (s : State) (a : ℕ) → s.touched ≡ false → octa_line (as_list_state s) a ≡ octa_line s a
same-octa_line s a h = by (in_stack_area a) refl
  where
    by : (b : Bool) → in_stack_area a ≡ b → octa_line (as_list_state s) a ≡ octa_line s a
    by true e =
        let hidden : is_address_shown s a ≡ false = rw (h, e) refl in
        address-hidden (as_list_state s) a hidden ∙ sym (address-hidden s a hidden)
    by false e = ap (λ x. cond (not (x == 0) && is_address_shown s a) (named_octa (codes "M" ++ hex_text a) x ∷ []) []) (same-octa s s.stack a e)

same-octa_lines : (s : State) (n : ℕ) → s.touched ≡ false → octa_lines (as_list_state s) n ≡ octa_lines s n
unfolding octa_lines
same-octa_lines s zero h = refl
same-octa_lines s (suc n) h =
    ap (λ l. l ++ octa_line (as_list_state s) (8 * n)) (same-octa_lines s n h) ∙ ap (λ l. octa_lines s n ++ l) (same-octa_line s (8 * n) h)

joined : (a a' b b' c c' : List Line) → a ≡ a' → b ≡ b' → c ≡ c' → a ++ b ++ c ≡ a' ++ b' ++ c'
joined a a' b b' c c' e f g = rw (e, f, g) refl

pub same-dump : (s : State) → s.touched ≡ false → dump_lines (as_list_state s) ≡ dump_lines s
unfolding special_lines register_lines dump_lines
same-dump s h =
    joined _ _ _ _ _ _ (same-each (special_line (as_list_state s)) (special_line s) (λ code. same-special_line s code h) (range_with_len 0 32))
    (same-each (register_line (as_list_state s)) (register_line s) (λ k. same-register_line s k) (range_with_len 0 256))
    (same-octa_lines s octa_count h)
