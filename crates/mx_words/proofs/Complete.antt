-- The words of the grammar are read as their order.
use Rattle.std.proofs.Common.{◌≡◌, ℕ, ◌+◌, Bool, true, false, List, [], ◌∷◌, ◌++◌, length, refl, ◌∙◌, ap, arith, Ok, codes}
use Rattle.mx_words.specs.Values.{Word, ring_value, steps_value, last_value}
use Rattle.mx_words.specs.Orders.{Ordered, runs_file, takes_ring, takes_steps, defaults, with_console, with_report, with_last, with_dump, with_ring, with_steps, console_clashes, report_clashes, last_clashes, unless, valued, options_from, order_of, blocks_at}
use Rattle.std.specs.Prelude.{◌==◌, ◌||◌, not}
use Rattle.mx_words.specs.Usage.{Options, Orders, none, console, report, last, dump, ring, steps, run, sim, asm, gen, list, multi}
use Rattle.mx_words.specs.declared.order.Command.{Command}
use Rattle.mx_words.specs.declared.order.Command.TheVariants.{Run, Sim, Asm, Gen, Show, Multi}
use Rattle.mx_words.specs.declared.order.Order.{Order}
use Rattle.mx_words.specs.declared.settings.Settings.{Settings}
use Rattle.mx_words.proofs.Chosen.{not-option}

no-clash : (clashes : Bool) (p : ℕ) (more : Ordered) → clashes ≡ false → unless clashes p more ≡ more
no-clash true p more is = absurd (cc is)
no-clash false p more is = refl

no-option : (clashes : Bool) (n : ℕ) → clashes ≡ false → n ≡ 0 → (clashes || not (n == 0)) ≡ false
no-option clashes n is unset = rw (is, unset) refl

neither : (a b : Bool) → a ≡ false → b ≡ false → (a || b) ≡ false
neither a b is unset = rw (is, unset) refl

console-step : (c : Command) (s : Settings) (p : ℕ) (word : Word) (words : List Word) → runs_file c ≡ true →
    options_from c s p (codes "-i" ∷ word ∷ words) ≡ unless (console_clashes s) p (options_from c (with_console s) (p + 1) (word ∷ words))
unfolding options_from
console-step Run s p word words is = refl
console-step Sim s p word words is = refl
console-step Asm s p word words is = cc is
console-step Gen s p word words is = cc is
console-step Show s p word words is = cc is
console-step Multi s p word words is = cc is

report-step : (c : Command) (s : Settings) (p : ℕ) (word : Word) (words : List Word) → runs_file c ≡ true →
    options_from c s p (codes "--report" ∷ word ∷ words) ≡ unless (report_clashes s) p (options_from c (with_report s) (p + 1) (word ∷ words))
unfolding options_from
report-step Run s p word words is = refl
report-step Sim s p word words is = refl
report-step Asm s p word words is = cc is
report-step Gen s p word words is = cc is
report-step Show s p word words is = cc is
report-step Multi s p word words is = cc is

last-step : (c : Command) (s : Settings) (p : ℕ) (value : Word) (words : List Word) → runs_file c ≡ true →
    options_from c s p (codes "--last" ∷ value ∷ words) ≡ unless (last_clashes s) p (valued (last_value value) (p + 1) (λ n. options_from c (with_last s n) (p + 2) words))
unfolding options_from
last-step Run s p value words is = refl
last-step Sim s p value words is = refl
last-step Asm s p value words is = cc is
last-step Gen s p value words is = cc is
last-step Show s p value words is = cc is
last-step Multi s p value words is = cc is

dump-step : (c : Command) (s : Settings) (p : ℕ) (word : Word) (words : List Word) → takes_steps c ≡ true →
    options_from c s p (codes "--dump" ∷ word ∷ words) ≡ options_from c (with_dump s) (p + 1) (word ∷ words)
unfolding options_from
dump-step Run s p word words is = refl
dump-step Sim s p word words is = refl
dump-step Asm s p word words is = cc is
dump-step Gen s p word words is = cc is
dump-step Show s p word words is = cc is
dump-step Multi s p word words is = refl

ring-step : (c : Command) (s : Settings) (p : ℕ) (value : Word) (words : List Word) → takes_ring c ≡ true →
    options_from c s p (codes "--ring" ∷ value ∷ words) ≡ valued (ring_value value) (p + 1) (λ n. options_from c (with_ring s n) (p + 2) words)
unfolding options_from
ring-step Run s p value words is = refl
ring-step Sim s p value words is = refl
ring-step Asm s p value words is = cc is
ring-step Gen s p value words is = refl
ring-step Show s p value words is = cc is
ring-step Multi s p value words is = refl

steps-step : (c : Command) (s : Settings) (p : ℕ) (value : Word) (words : List Word) → takes_steps c ≡ true →
    options_from c s p (codes "--steps" ∷ value ∷ words) ≡ valued (steps_value value) (p + 1) (λ n. options_from c (with_steps s n) (p + 2) words)
unfolding options_from
steps-step Run s p value words is = refl
steps-step Sim s p value words is = refl
steps-step Asm s p value words is = cc is
steps-step Gen s p value words is = cc is
steps-step Show s p value words is = cc is
steps-step Multi s p value words is = refl

-- options in front of a file
played : (c : Command) (s : Settings) (p : ℕ) (words : List Word) (file : Word) (following : List Word) → runs_file c ≡ true → s.report ≡ false → s.last ≡ 0 →
    options_from c s p (codes "-i" ∷ (words ++ file ∷ following)) ≡ options_from c (with_console s) (p + 1) (words ++ file ∷ following)
played c s p [] file following is alone unset = console-step c s p file following is ∙ no-clash (console_clashes s) p _ (no-option s.report s.last alone unset)
played c s p (w ∷ words) file following is alone unset = console-step c s p w (words ++ file ∷ following) is ∙ no-clash (console_clashes s) p _ (no-option s.report s.last alone unset)

told : (c : Command) (s : Settings) (p : ℕ) (words : List Word) (file : Word) (following : List Word) → runs_file c ≡ true → s.interactive ≡ false → s.last ≡ 0 →
    options_from c s p (codes "--report" ∷ (words ++ file ∷ following)) ≡ options_from c (with_report s) (p + 1) (words ++ file ∷ following)
told c s p [] file following is alone unset = report-step c s p file following is ∙ no-clash (report_clashes s) p _ (no-option s.interactive s.last alone unset)
told c s p (w ∷ words) file following is alone unset = report-step c s p w (words ++ file ∷ following) is ∙ no-clash (report_clashes s) p _ (no-option s.interactive s.last alone unset)

dumped : (c : Command) (s : Settings) (p : ℕ) (words : List Word) (file : Word) (following : List Word) → takes_steps c ≡ true →
    options_from c s p (codes "--dump" ∷ (words ++ file ∷ following)) ≡ options_from c (with_dump s) (p + 1) (words ++ file ∷ following)
dumped c s p [] file following is = dump-step c s p file following is
dumped c s p (w ∷ words) file following is = dump-step c s p w (words ++ file ∷ following) is

moved : (c : Command) (t : Settings) (p q : ℕ) (words : List Word) → p ≡ q → options_from c t p words ≡ options_from c t q words
moved c t p q words is = rw is refl

pub options-read : (c : Command) (s t : Settings) (words : List Word) → Options c s words t → (p : ℕ) (file : Word) (following : List Word) →
    options_from c s p (words ++ file ∷ following) ≡ options_from c t (p + length words) (file ∷ following)
options-read _ _ _ _ (none c s) p file following = moved c s p (p + 0) (file ∷ following) (omega arith)
options-read _ _ _ _ (console c s t words takes alone back rest) p file following =
    played c s p words file following takes alone back
    ∙ options-read c (with_console s) t words rest (p + 1) file following
    ∙ moved c t _ _ (file ∷ following) (omega arith)
options-read _ _ _ _ (report c s t words takes alone back rest) p file following =
    told c s p words file following takes alone back
    ∙ options-read c (with_report s) t words rest (p + 1) file following
    ∙ moved c t _ _ (file ∷ following) (omega arith)
options-read _ _ _ _ (last c s t value n words takes alone told_none is rest) p file following =
    last-step c s p value (words ++ file ∷ following) takes
    ∙ no-clash (last_clashes s) p _ (neither s.interactive s.report alone told_none)
    ∙ ap (λ v. valued v (p + 1) (λ m. options_from c (with_last s m) (p + 2) (words ++ file ∷ following))) is
    ∙ options-read c (with_last s n) t words rest (p + 2) file following
    ∙ moved c t _ _ (file ∷ following) (omega arith)
options-read _ _ _ _ (dump c s t words takes rest) p file following =
    dumped c s p words file following takes
    ∙ options-read c (with_dump s) t words rest (p + 1) file following
    ∙ moved c t _ _ (file ∷ following) (omega arith)
options-read _ _ _ _ (ring c s t value n words takes is rest) p file following =
    ring-step c s p value (words ++ file ∷ following) takes
    ∙ ap (λ v. valued v (p + 1) (λ m. options_from c (with_ring s m) (p + 2) (words ++ file ∷ following))) is
    ∙ options-read c (with_ring s n) t words rest (p + 2) file following
    ∙ moved c t _ _ (file ∷ following) (omega arith)
options-read _ _ _ _ (steps c s t value n words takes is rest) p file following =
    steps-step c s p value (words ++ file ∷ following) takes
    ∙ ap (λ v. valued v (p + 1) (λ m. options_from c (with_steps s m) (p + 2) (words ++ file ∷ following))) is
    ∙ options-read c (with_steps s n) t words rest (p + 2) file following
    ∙ moved c t _ _ (file ∷ following) (omega arith)

pub order-read : (words : List Word) (o : Order) → Orders words o → order_of words ≡ Ok o
order-read _ _ (run s options source arguments set file) =
    options-read Run defaults s options set 1 source arguments ∙ not-option Run s (1 + length options) source arguments file
order-read _ _ (sim s options object arguments set file) =
    options-read Sim defaults s options set 1 object arguments ∙ not-option Sim s (1 + length options) object arguments file
order-read _ _ (asm source object file) = not-option Asm defaults 1 source (object ∷ []) file
order-read _ _ (gen s options number n set file is) =
    options-read Gen defaults s options set 1 number []
    ∙ not-option Gen s (1 + length options) number [] file
    ∙ ap (λ v. blocks_at s (1 + length options) v []) is
order-read _ _ (list object file) = not-option Show defaults 1 object [] file
order-read _ _ (multi s options schedule object set file) =
    options-read Multi defaults s options set 1 schedule (object ∷ []) ∙ not-option Multi s (1 + length options) schedule (object ∷ []) file
