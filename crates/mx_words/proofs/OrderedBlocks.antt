-- The words order at most 10,000 blocks, and that at most 1,024 steps are taken back.
use Rattle.std.proofs.Common.{◌≡◌, ℕ, ◌+◌, ◌≤◌, Bool, true, false, cond, List, [], ◌∷◌, Option, None, Some, Result, Ok, Err, arith, refl, subst, sym}
use Rattle.std.specs.Prelude.{◌&&◌, nat_le, IfOk}
use Rattle.std.proofs.lemmas.Bool.Decides.{nat_tests}
use Rattle.mx_words.specs.Values.{Word, is_option, number_of, up_to, ring_value, steps_value, last_value, blocks_value}
use Rattle.mx_words.specs.Orders.{Ordered, command_of, is_console, is_report, is_last, is_dump, is_ring, is_steps, defaults, with_console, with_report, with_last, with_dump, with_ring, with_steps, console_clashes, report_clashes, last_clashes, blocks_at, file_at, unless, valued, options_from, commanded, order_of}
use Rattle.mx_words.specs.declared.order.Command.{Command}
use Rattle.mx_words.specs.declared.order.Command.TheVariants.{Run, Asm, Sim, Gen, Show, Multi}
use Rattle.mx_words.specs.declared.order.Order.{Order}
use Rattle.mx_words.specs.declared.settings.Settings.{Settings}

-- what is ordered has few blocks, and few steps are taken back
abbrev IfFew : Ordered → Type 0
IfFew (Err fault) = Unit {0}
IfFew (Ok o) = (o.number ≤ 10000) × (o.last ≤ 1024)

either : (b : Bool) (x y : Ordered) → IfFew x → IfFew y → IfFew (cond b x y)
either true x y h g = h
either false x y h g = g

abbrev IfUpTo : ℕ → Result ℕ ℕ → Type 0
IfUpTo most (Err kind) = Unit {0}
IfUpTo most (Ok n) = n ≤ most

in-range : (most n : ℕ) → (nat_le 1 n && nat_le n most) ≡ true → n ≤ most
in-range most n h = grind (arith, nat_tests)

value-few : (most : ℕ) (o : Option ℕ) → IfUpTo most (up_to most o)
value-few most None = tt
value-few most (Some n) = by (nat_le 1 n && nat_le n most) refl
  where
    by : (b : Bool) → (nat_le 1 n && nat_le n most) ≡ b → IfUpTo most (cond b (Ok n) (Err 5))
    by true h = in-range most n h
    by false h = tt

blocks-few : (s : Settings) (place : ℕ) (r : Result ℕ ℕ) (words : List Word) → s.last ≤ 1024 → IfUpTo 10000 r → IfFew (blocks_at s place r words)
blocks-few s place (Err kind) words l h = tt
blocks-few s place (Ok n) [] l h = (h, l)
blocks-few s place (Ok n) (other ∷ others) l h = tt

file-few : (c : Command) (s : Settings) (place : ℕ) (word : Word) (words : List Word) → s.last ≤ 1024 → IfFew (file_at c s place word words)
file-few Run s place word words l = (omega arith, l)
file-few Sim s place word words l = (omega arith, l)
file-few Asm s place word [] l = tt
file-few Asm s place word (object ∷ []) l = (omega arith, l)
file-few Asm s place word (object ∷ other ∷ others) l = tt
file-few Gen s place word words l = blocks-few s place (blocks_value word) words l (value-few 10000 (number_of word))
file-few Show s place word [] l = (omega arith, l)
file-few Show s place word (other ∷ others) l = tt
file-few Multi s place word [] l = tt
file-few Multi s place word (object ∷ []) l = (omega arith, l)
file-few Multi s place word (object ∷ other ∷ others) l = tt

valued-few : (most : ℕ) (r : Result ℕ ℕ) (place : ℕ) (go : ℕ → Ordered) → IfUpTo most r → ((n : ℕ) → n ≤ most → IfFew (go n)) → IfFew (valued r place go)
valued-few most (Err kind) place go u h = tt
valued-few most (Ok n) place go u h = h n u

any-few : (r : Result ℕ ℕ) (place : ℕ) (go : ℕ → Ordered) → ((n : ℕ) → IfFew (go n)) → IfFew (valued r place go)
any-few (Err kind) place go h = tt
any-few (Ok n) place go h = h n

unless-few : (clashes : Bool) (place : ℕ) (more : Ordered) → IfFew more → IfFew (unless clashes place more)
unless-few true place more h = tt
unless-few false place more h = h

options-few : (c : Command) (s : Settings) (place : ℕ) (words : List Word) → s.last ≤ 1024 → IfFew (options_from c s place words)
unfolding options_from
options-few c s place [] l = tt
options-few c s place (word ∷ []) l =
    either (is_option word) _ _ (either (is_console c word) _ _ (unless-few (console_clashes s) place _ tt)
    (either (is_report c word) _ _ (unless-few (report_clashes s) place _ tt)
    (either (is_last c word) _ _ (unless-few (last_clashes s) place _ tt)
    (either (is_dump c word) _ _ tt (either (is_ring c word) _ _ tt (either (is_steps c word) _ _ tt tt)))))) (file-few c s place word [] l)
options-few c s place (word ∷ value ∷ words) l =
    either (is_option word) _ _
    (either (is_console c word) _ _ (unless-few (console_clashes s) place _ (options-few c (with_console s) (place + 1) (value ∷ words) l))
    (either (is_report c word) _ _ (unless-few (report_clashes s) place _ (options-few c (with_report s) (place + 1) (value ∷ words) l))
    (either (is_last c word) _ _
    (unless-few (last_clashes s) place _ (valued-few 1024 (last_value value) (place + 1) _ (value-few 1024 (number_of value)) (λ n few. options-few c (with_last s n) (place + 2) words few)))
    (either (is_dump c word) _ _ (options-few c (with_dump s) (place + 1) (value ∷ words) l)
    (either (is_ring c word) _ _ (any-few (ring_value value) (place + 1) _ (λ n. options-few c (with_ring s n) (place + 2) words l))
    (either (is_steps c word) _ _ (any-few (steps_value value) (place + 1) _ (λ n. options-few c (with_steps s n) (place + 2) words l)) tt))))))
    (file-few c s place word (value ∷ words) l)

commanded-few : (c : Option Command) (words : List Word) → IfFew (commanded c words)
commanded-few None words = tt
commanded-few (Some c) words = options-few c defaults 1 words (omega arith)

words-few : (words : List Word) → IfFew (order_of words)
words-few [] = tt
words-few (word ∷ words) = commanded-few (command_of word) words

pub order-few : (words : List Word) (o : Order) → order_of words ≡ Ok o → o.number ≤ 10000
order-few words o is = (subst IfFew is (words-few words)).0

pub last-few : (c : Command) (words : List Word) (r : Ordered) → r ≡ options_from c defaults 1 words → IfOk r (λ o. o.last ≤ 1024)
last-few c words (Err e) is = tt
last-few c words (Ok o) is = (subst IfFew (sym is) (options-few c defaults 1 words (omega arith))).1

pub ruleset orders = (last-few)
