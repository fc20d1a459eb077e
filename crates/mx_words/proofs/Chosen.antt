-- Options from the left: what follows an option.
use Rattle.std.proofs.Common.{◌≡◌, ℕ, ◌+◌, Bool, true, false, cond, List, [], ◌∷◌, drop, refl, sym, ◌∙◌, ap, Result, Ok, Err, arith}
use Rattle.std.proofs.lemmas.List.{drop-drop}
use Rattle.mx_words.specs.Values.{Word, is_option, ring_value, steps_value, last_value}
use Rattle.mx_words.specs.Orders.{Ordered, fault, unless, is_console, is_report, is_last, is_dump, is_ring, is_steps, with_console, with_report, with_last, with_ring, with_steps, console_clashes, report_clashes, last_clashes, valued, options_from, file_at}
use Rattle.mx_words.specs.OneOption.{Read, set, set_unless, last_read, option_read}
use Rattle.mx_words.specs.declared.order.Command.{Command}
use Rattle.mx_words.specs.declared.settings.Settings.{Settings}

-- what follows an option that was read, among all words
abbrev pub followed : Command → List Word → Read → Ordered
followed c all (Err e) = Err e
followed c all (Ok (s, place)) = options_from c s place (drop place all)

-- a value and what follows it
value-followed : (c : Command) (all : List Word) (v : Result ℕ ℕ) (place next : ℕ) (with_value : ℕ → Settings) (words : List Word) → next ≡ place + 1 → drop (place + 1) all ≡ words →
    valued v place (λ n. options_from c (with_value n) next words) ≡ followed c all (set v place with_value)
value-followed c all (Err kind) place next with_value words is rest = refl
value-followed c all (Ok n) place next with_value words is rest = rw (rest, is) refl

-- an option that may clash with one before it, and what follows it
unless-followed : (c : Command) (all : List Word) (clashes : Bool) (place : ℕ) (s : Settings) (more : Ordered) → more ≡ options_from c s (place + 1) (drop (place + 1) all) →
    unless clashes place more ≡ followed c all (set_unless clashes place s)
unless-followed c all true place s more is = refl
unless-followed c all false place s more is = is

-- one with a value that may clash
valued-unless : (c : Command) (all : List Word) (clashes : Bool) (place : ℕ) (more : Ordered) (read : Read) → more ≡ followed c all read →
    unless clashes place more ≡ followed c all (cond clashes (Err (fault 10 place)) read)
valued-unless c all true place more read is = refl
valued-unless c all false place more read is = is

-- one option, and the others: each with what follows it
either : (c : Command) (all : List Word) (b : Bool) (one others : Read) (g h : Ordered) → g ≡ followed c all one → h ≡ followed c all others →
    cond b g h ≡ followed c all (cond b one others)
either c all true one others g h hg hh = hg
either c all false one others g h hg hh = hh

-- the words after a word
pub after-word : (all : List Word) (p : ℕ) (word : Word) (words : List Word) → drop p all ≡ word ∷ words → drop (p + 1) all ≡ words
after-word all p word words is =
    sym (drop-drop 1 p all) ∙ ap (drop 1) is

-- an option, and what follows it
pub option-followed : (c : Command) (all : List Word) (s : Settings) (p : ℕ) (word : Word) (words : List Word) →
    drop p all ≡ word ∷ words → is_option word ≡ true → options_from c s p (word ∷ words) ≡ followed c all (option_read c s p word words)
unfolding options_from
option-followed c all s p word [] rest dash =
    let none : drop (p + 1) all ≡ [] = after-word all p word [] rest in
    rw dash (either c all (is_console c word) _ _ _ _ (unless-followed c all (console_clashes s) p (with_console s) _ (rw none refl))
    (either c all (is_report c word) _ _ _ _ (unless-followed c all (report_clashes s) p (with_report s) _ (rw none refl))
    (either c all (is_last c word) _ _ _ _ (valued-unless c all (last_clashes s) p _ (last_read s (p + 1) []) refl)
    (either c all (is_dump c word) _ _ _ _ (rw none refl) (either c all (is_ring c word) _ _ _ _ refl (either c all (is_steps c word) _ _ _ _ refl refl))))))
option-followed c all s p word (value ∷ words) rest dash =
    let more : drop (p + 1) all ≡ value ∷ words = after-word all p word (value ∷ words) rest in
    let others : drop (p + 1 + 1) all ≡ words = after-word all (p + 1) value words more in
    rw dash (either c all (is_console c word) _ _ _ _ (unless-followed c all (console_clashes s) p (with_console s) _ (rw more refl))
    (either c all (is_report c word) _ _ _ _ (unless-followed c all (report_clashes s) p (with_report s) _ (rw more refl))
    (either c all (is_last c word) _ _ _ _
    (valued-unless c all (last_clashes s) p _ (last_read s (p + 1) (value ∷ words)) (value-followed c all (last_value value) (p + 1) (p + 2) (with_last s) words (omega arith) others))
    (either c all (is_dump c word) _ _ _ _ (rw more refl)
    (either c all (is_ring c word) _ _ _ _ (value-followed c all (ring_value value) (p + 1) (p + 2) (with_ring s) words (omega arith) others)
    (either c all (is_steps c word) _ _ _ _ (value-followed c all (steps_value value) (p + 1) (p + 2) (with_steps s) words (omega arith) others) refl))))))

-- a word that is no option
pub not-option : (c : Command) (s : Settings) (p : ℕ) (word : Word) (words : List Word) → is_option word ≡ false →
    options_from c s p (word ∷ words) ≡ file_at c s p word words
unfolding options_from
not-option c s p word [] dash = rw dash refl
not-option c s p word (value ∷ words) dash = rw dash refl

-- no word
pub no-file : (c : Command) (s : Settings) (p : ℕ) → options_from c s p [] ≡ Err (fault 7 p)
unfolding options_from
no-file c s p = refl
