-- Words that are read as an order are of the grammar.
use Rattle.std.proofs.Common.{◌≡◌, ℕ, ◌+◌, Bool, true, false, cond, List, [], ◌∷◌, ◌++◌, length, refl, sym, ◌∙◌, ap, arith, Result, Ok, Err, Some, None, codes, bytes_eq}
use Rattle.std.proofs.lemmas.Slice.Eq.{bytes_eq-Decides}
use Rattle.std.proofs.lemmas.Bool.{and_parts}
use Rattle.std.proofs.lemmas.Bool.Decides.{nat_tests}
use Rattle.std.specs.Prelude.{◌==◌, ◌||◌, not}
use Rattle.mx_words.specs.Values.{Word, is_option, ring_value, steps_value, last_value, blocks_value}
use Rattle.mx_words.specs.Orders.{Ordered, fault, runs_file, takes_ring, takes_steps, is_console, is_report, is_last, is_dump, is_ring, is_steps, defaults, with_console, with_report, with_last, with_dump, with_ring, with_steps, console_clashes, report_clashes, last_clashes, unless, valued, options_from, file_at, commanded, order_of, run_order, object_after, processors_after, none_after, blocks_at}
use Rattle.mx_words.specs.Usage.{Options, Orders, none, console, report, last, dump, ring, steps, run, sim, asm, gen, list, multi}
use Rattle.mx_words.specs.declared.order.Command.{Command}
use Rattle.mx_words.specs.declared.order.Command.TheVariants.{Run, Sim, Asm, Gen, Show, Multi}
use Rattle.mx_words.specs.declared.order.Order.{Order}
use Rattle.mx_words.specs.declared.order.WordsFault.{WordsFault}
use Rattle.mx_words.specs.declared.settings.Settings.{Settings}

-- words that an order was read from: options, a file, and the words after it
record Parted (c : Command) (s : Settings) (p : ℕ) (words : List Word) (o : Order) : Type 0 where
  options : List Word
  after : Settings
  file : Word
  following : List Word
  whole : words ≡ options ++ file ∷ following
  set : Options c s options after
  no_dash : is_option file ≡ false
  ordered : file_at c after (p + length options) file following ≡ Ok o

refused : {A : Type 0} (e : WordsFault) (o : Order) → ◌≡◌ {A = Ordered} (Err e) (Ok o) → A
refused e o is = cc is

ok : (a b : Order) → ◌≡◌ {A = Ordered} (Ok a) (Ok b) → a ≡ b
ok a b e = cc e

no-options : (c : Command) (s : Settings) (p : ℕ) (word : Word) (words : List Word) (o : Order) → is_option word ≡ false →
    file_at c s p word words ≡ Ok o → Parted c s p (word ∷ words) o
no-options c s p word words o dash is =
    record { options = []; after = s; file = word; following = words; whole = refl; set = none c s; no_dash = dash; ordered = file_at-moved (omega arith) ∙ is }
  where
    file_at-moved : p + 0 ≡ p → file_at c s (p + 0) word words ≡ file_at c s p word words
    file_at-moved same = rw same refl

file_at-same : (c : Command) (t : Settings) (p q : ℕ) (file : Word) (following : List Word) → p ≡ q → file_at c t p file following ≡ file_at c t q file following
file_at-same c t p q file following is = rw is refl

-- what follows an option that clashes with none before it
not-clashing : (clashes : Bool) (p : ℕ) (more : Ordered) (o : Order) → unless clashes p more ≡ Ok o → (clashes ≡ false) × (more ≡ Ok o)
not-clashing true p more o is = refused _ o is
not-clashing false p more o is = (refl, is)

-- it is after neither of two
neither : (a b : Bool) → (a || b) ≡ false → (a ≡ false) × (b ≡ false)
neither true b is = absurd (cc is)
neither false b is = (refl, is)

no-option : (clashes : Bool) (n : ℕ) → (clashes || not (n == 0)) ≡ false → (clashes ≡ false) × (n ≡ 0)
no-option true n is = absurd (cc is)
no-option false n is = (refl, grind (arith, nat_tests))

with-played : (c : Command) (s : Settings) (p : ℕ) (word : Word) (words : List Word) (o : Order) → is_console c word ≡ true → (s.report ≡ false) × (s.last ≡ 0) →
    Parted c (with_console s) (p + 1) words o → Parted c s p (word ∷ words) o
with-played c s p word words o is alone rest =
    let parts : (runs_file c ≡ true) × (bytes_eq word (codes "-i") ≡ true) = and_parts (runs_file c) (bytes_eq word (codes "-i")) is in
    let named : word ≡ codes "-i" = (bytes_eq-Decides word (codes "-i")).0 parts.1 in
    record {
      options = codes "-i" ∷ rest.options;
      after = rest.after;
      file = rest.file;
      following = rest.following;
      whole = cc (named, rest.whole);
      set = console c s rest.after rest.options parts.0 alone.0 alone.1 rest.set;
      no_dash = rest.no_dash;
      ordered = file_at-same c rest.after _ _ rest.file rest.following (omega arith) ∙ rest.ordered;
    }

with-reported : (c : Command) (s : Settings) (p : ℕ) (word : Word) (words : List Word) (o : Order) → is_report c word ≡ true → (s.interactive ≡ false) × (s.last ≡ 0) →
    Parted c (with_report s) (p + 1) words o → Parted c s p (word ∷ words) o
with-reported c s p word words o is alone rest =
    let parts : (runs_file c ≡ true) × (bytes_eq word (codes "--report") ≡ true) = and_parts (runs_file c) (bytes_eq word (codes "--report")) is in
    let named : word ≡ codes "--report" = (bytes_eq-Decides word (codes "--report")).0 parts.1 in
    record {
      options = codes "--report" ∷ rest.options;
      after = rest.after;
      file = rest.file;
      following = rest.following;
      whole = cc (named, rest.whole);
      set = report c s rest.after rest.options parts.0 alone.0 alone.1 rest.set;
      no_dash = rest.no_dash;
      ordered = file_at-same c rest.after _ _ rest.file rest.following (omega arith) ∙ rest.ordered;
    }

with-backed : (c : Command) (s : Settings) (p : ℕ) (word value : Word) (n : ℕ) (words : List Word) (o : Order) → is_last c word ≡ true → (s.interactive ≡ false) × (s.report ≡ false) → last_value value ≡ Ok n →
    Parted c (with_last s n) (p + 2) words o → Parted c s p (word ∷ value ∷ words) o
with-backed c s p word value n words o is alone good rest =
    let parts : (runs_file c ≡ true) × (bytes_eq word (codes "--last") ≡ true) = and_parts (runs_file c) (bytes_eq word (codes "--last")) is in
    let named : word ≡ codes "--last" = (bytes_eq-Decides word (codes "--last")).0 parts.1 in
    record {
      options = codes "--last" ∷ value ∷ rest.options;
      after = rest.after;
      file = rest.file;
      following = rest.following;
      whole = cc (named, rest.whole);
      set = last c s rest.after value n rest.options parts.0 alone.0 alone.1 good rest.set;
      no_dash = rest.no_dash;
      ordered = file_at-same c rest.after _ _ rest.file rest.following (omega arith) ∙ rest.ordered;
    }

with-dumped : (c : Command) (s : Settings) (p : ℕ) (word : Word) (words : List Word) (o : Order) → is_dump c word ≡ true →
    Parted c (with_dump s) (p + 1) words o → Parted c s p (word ∷ words) o
with-dumped c s p word words o is rest =
    let parts : (takes_steps c ≡ true) × (bytes_eq word (codes "--dump") ≡ true) = and_parts (takes_steps c) (bytes_eq word (codes "--dump")) is in
    let named : word ≡ codes "--dump" = (bytes_eq-Decides word (codes "--dump")).0 parts.1 in
    record {
      options = codes "--dump" ∷ rest.options;
      after = rest.after;
      file = rest.file;
      following = rest.following;
      whole = cc (named, rest.whole);
      set = dump c s rest.after rest.options parts.0 rest.set;
      no_dash = rest.no_dash;
      ordered = file_at-same c rest.after _ _ rest.file rest.following (omega arith) ∙ rest.ordered;
    }

with-ringed : (c : Command) (s : Settings) (p : ℕ) (word value : Word) (n : ℕ) (words : List Word) (o : Order) → is_ring c word ≡ true → ring_value value ≡ Ok n →
    Parted c (with_ring s n) (p + 2) words o → Parted c s p (word ∷ value ∷ words) o
with-ringed c s p word value n words o is good rest =
    let parts : (takes_ring c ≡ true) × (bytes_eq word (codes "--ring") ≡ true) = and_parts (takes_ring c) (bytes_eq word (codes "--ring")) is in
    let named : word ≡ codes "--ring" = (bytes_eq-Decides word (codes "--ring")).0 parts.1 in
    record {
      options = codes "--ring" ∷ value ∷ rest.options;
      after = rest.after;
      file = rest.file;
      following = rest.following;
      whole = cc (named, rest.whole);
      set = ring c s rest.after value n rest.options parts.0 good rest.set;
      no_dash = rest.no_dash;
      ordered = file_at-same c rest.after _ _ rest.file rest.following (omega arith) ∙ rest.ordered;
    }

with-stepped : (c : Command) (s : Settings) (p : ℕ) (word value : Word) (n : ℕ) (words : List Word) (o : Order) → is_steps c word ≡ true → steps_value value ≡ Ok n →
    Parted c (with_steps s n) (p + 2) words o → Parted c s p (word ∷ value ∷ words) o
with-stepped c s p word value n words o is good rest =
    let parts : (takes_steps c ≡ true) × (bytes_eq word (codes "--steps") ≡ true) = and_parts (takes_steps c) (bytes_eq word (codes "--steps")) is in
    let named : word ≡ codes "--steps" = (bytes_eq-Decides word (codes "--steps")).0 parts.1 in
    record {
      options = codes "--steps" ∷ value ∷ rest.options;
      after = rest.after;
      file = rest.file;
      following = rest.following;
      whole = cc (named, rest.whole);
      set = steps c s rest.after value n rest.options parts.0 good rest.set;
      no_dash = rest.no_dash;
      ordered = file_at-same c rest.after _ _ rest.file rest.following (omega arith) ∙ rest.ordered;
    }

-- one word, which has to be the file
one-word : (c : Command) (s : Settings) (p : ℕ) (word : Word) (o : Order) (dash i w l d r t : Bool) → is_option word ≡ dash →
    cond dash (cond i (unless (console_clashes s) p (Err (fault 7 (p + 1)))) (cond w (unless (report_clashes s) p (Err (fault 7 (p + 1))))
    (cond l (unless (last_clashes s) p (Err (fault 4 (p + 1))))
    (cond d (Err (fault 7 (p + 1))) (cond r (Err (fault 4 (p + 1))) (cond t (Err (fault 4 (p + 1))) (Err (fault 3 p)))))))) (file_at c s p word []) ≡ Ok o →
    Parted c s p (word ∷ []) o
one-word c s p word o true true w l d r t h is = refused _ o (not-clashing (console_clashes s) p _ o is).1
one-word c s p word o true false true l d r t h is = refused _ o (not-clashing (report_clashes s) p _ o is).1
one-word c s p word o true false false true d r t h is = refused _ o (not-clashing (last_clashes s) p _ o is).1
one-word c s p word o true false false false true r t h is = refused _ o is
one-word c s p word o true false false false false true t h is = refused _ o is
one-word c s p word o true false false false false false true h is = refused _ o is
one-word c s p word o true false false false false false false h is = refused _ o is
one-word c s p word o false i w l d r t h is = no-options c s p word [] o h is

-- a value, if what follows was read
value-good : {A : Type 0} (v : Result ℕ ℕ) (place : ℕ) (go : ℕ → Ordered) (o : Order) → valued v place go ≡ Ok o → ((n : ℕ) → v ≡ Ok n → go n ≡ Ok o → A) → A
value-good (Err kind) place go o is then = refused _ o is
value-good (Ok n) place go o is then = then n refl is

-- two words and more, with the recursion as arguments
more-words : (c : Command) (s : Settings) (p : ℕ) (word value : Word) (words : List Word) (o : Order) (dash i w l d r t : Bool) →
    is_option word ≡ dash → is_console c word ≡ i → is_report c word ≡ w → is_last c word ≡ l → is_dump c word ≡ d → is_ring c word ≡ r → is_steps c word ≡ t →
    (options_from c (with_console s) (p + 1) (value ∷ words) ≡ Ok o → Parted c (with_console s) (p + 1) (value ∷ words) o) →
    (options_from c (with_report s) (p + 1) (value ∷ words) ≡ Ok o → Parted c (with_report s) (p + 1) (value ∷ words) o) →
    ((n : ℕ) → options_from c (with_last s n) (p + 2) words ≡ Ok o → Parted c (with_last s n) (p + 2) words o) →
    (options_from c (with_dump s) (p + 1) (value ∷ words) ≡ Ok o → Parted c (with_dump s) (p + 1) (value ∷ words) o) →
    ((n : ℕ) → options_from c (with_ring s n) (p + 2) words ≡ Ok o → Parted c (with_ring s n) (p + 2) words o) →
    ((n : ℕ) → options_from c (with_steps s n) (p + 2) words ≡ Ok o → Parted c (with_steps s n) (p + 2) words o) →
    cond dash
    (cond i (unless (console_clashes s) p (options_from c (with_console s) (p + 1) (value ∷ words)))
    (cond w (unless (report_clashes s) p (options_from c (with_report s) (p + 1) (value ∷ words)))
    (cond l (unless (last_clashes s) p (valued (last_value value) (p + 1) (λ n. options_from c (with_last s n) (p + 2) words)))
    (cond d (options_from c (with_dump s) (p + 1) (value ∷ words))
    (cond r (valued (ring_value value) (p + 1) (λ n. options_from c (with_ring s n) (p + 2) words))
    (cond t (valued (steps_value value) (p + 1) (λ n. options_from c (with_steps s n) (p + 2) words)) (Err (fault 3 p))))))))
    (file_at c s p word (value ∷ words)) ≡ Ok o →
    Parted c s p (word ∷ value ∷ words) o
more-words c s p word value words o true true w l d r t hh hi hw hl hd hr ht gi gw gl gd gr gt is =
    let alone = not-clashing (console_clashes s) p (options_from c (with_console s) (p + 1) (value ∷ words)) o is in
    with-played c s p word (value ∷ words) o hi (no-option s.report s.last alone.0) (gi alone.1)
more-words c s p word value words o true false true l d r t hh hi hw hl hd hr ht gi gw gl gd gr gt is =
    let alone = not-clashing (report_clashes s) p (options_from c (with_report s) (p + 1) (value ∷ words)) o is in
    with-reported c s p word (value ∷ words) o hw (no-option s.interactive s.last alone.0) (gw alone.1)
more-words c s p word value words o true false false true d r t hh hi hw hl hd hr ht gi gw gl gd gr gt is =
    let alone = not-clashing (last_clashes s) p (valued (last_value value) (p + 1) (λ n. options_from c (with_last s n) (p + 2) words)) o is in
    value-good (last_value value) (p + 1) _ o alone.1 (λ n good then. with-backed c s p word value n words o hl (neither s.interactive s.report alone.0) good (gl n then))
more-words c s p word value words o true false false false true r t hh hi hw hl hd hr ht gi gw gl gd gr gt is = with-dumped c s p word (value ∷ words) o hd (gd is)
more-words c s p word value words o true false false false false true t hh hi hw hl hd hr ht gi gw gl gd gr gt is =
    value-good (ring_value value) (p + 1) _ o is (λ n good then. with-ringed c s p word value n words o hr good (gr n then))
more-words c s p word value words o true false false false false false true hh hi hw hl hd hr ht gi gw gl gd gr gt is =
    value-good (steps_value value) (p + 1) _ o is (λ n good then. with-stepped c s p word value n words o ht good (gt n then))
more-words c s p word value words o true false false false false false false hh hi hw hl hd hr ht gi gw gl gd gr gt is = refused _ o is
more-words c s p word value words o false i w l d r t hh hi hw hl hd hr ht gi gw gl gd gr gt is = no-options c s p word (value ∷ words) o hh is

parted : (c : Command) (s : Settings) (p : ℕ) (words : List Word) (o : Order) → options_from c s p words ≡ Ok o → Parted c s p words o
unfolding options_from
parted c s p [] o is = refused _ o is
parted c s p (word ∷ []) o is =
    one-word c s p word o (is_option word) (is_console c word) (is_report c word) (is_last c word) (is_dump c word) (is_ring c word) (is_steps c word) refl is
parted c s p (word ∷ value ∷ words) o is =
    more-words c s p word value words o (is_option word) (is_console c word) (is_report c word) (is_last c word) (is_dump c word) (is_ring c word) (is_steps c word) refl refl refl refl refl refl refl
    (parted c (with_console s) (p + 1) (value ∷ words) o)
    (parted c (with_report s) (p + 1) (value ∷ words) o)
    (λ n. parted c (with_last s n) (p + 2) words o)
    (parted c (with_dump s) (p + 1) (value ∷ words) o)
    (λ n. parted c (with_ring s n) (p + 2) words o)
    (λ n. parted c (with_steps s n) (p + 2) words o)
    is

-- `asm` and `type` have no options
bare : (c : Command) (s t : Settings) (options : List Word) → runs_file c ≡ false → takes_ring c ≡ false → takes_steps c ≡ false → Options c s options t → (options ≡ []) × (s ≡ t)
bare _ _ _ _ file on makes (none c s) = (refl, refl)
bare _ _ _ _ file on makes (console c s t words takes alone unset rest) = absurd (cc (file, takes))
bare _ _ _ _ file on makes (report c s t words takes alone unset rest) = absurd (cc (file, takes))
bare _ _ _ _ file on makes (last c s t value n words takes alone unset is rest) = absurd (cc (file, takes))
bare _ _ _ _ file on makes (dump c s t words takes rest) = absurd (cc (makes, takes))
bare _ _ _ _ file on makes (ring c s t value n words takes is rest) = absurd (cc (on, takes))
bare _ _ _ _ file on makes (steps c s t value n words takes is rest) = absurd (cc (makes, takes))

run-order : (words : List Word) (o : Order) → Parted Run defaults 1 words o → Orders (codes "run" ∷ words) o
run-order words o parts =
    let is : run_order Run parts.after (1 + length parts.options) ≡ o = ok _ _ parts.ordered in
    rw (parts.whole, ← is) (run parts.after parts.options parts.file parts.following parts.set parts.no_dash)

sim-order : (words : List Word) (o : Order) → Parted Sim defaults 1 words o → Orders (codes "sim" ∷ words) o
sim-order words o parts =
    let is : run_order Sim parts.after (1 + length parts.options) ≡ o = ok _ _ parts.ordered in
    rw (parts.whole, ← is) (sim parts.after parts.options parts.file parts.following parts.set parts.no_dash)

asm-from : (s : Settings) (file : Word) (following : List Word) (o : Order) → is_option file ≡ false → defaults ≡ s → object_after s 1 following ≡ Ok o →
    Orders (codes "asm" ∷ file ∷ following) o
asm-from s file [] o dash is ordered = refused _ o ordered
asm-from s file (object ∷ []) o dash is ordered = rw (← ok _ _ ordered, ← is) (asm file object dash)
asm-from s file (object ∷ other ∷ others) o dash is ordered = refused _ o ordered

asm-order : (words : List Word) (o : Order) → Parted Asm defaults 1 words o → Orders (codes "asm" ∷ words) o
asm-order words o parts =
    let none_set : (parts.options ≡ []) × (defaults ≡ parts.after) = bare Asm defaults parts.after parts.options refl refl refl parts.set in
    let whole : words ≡ parts.file ∷ parts.following = parts.whole ∙ ap (λ l. l ++ parts.file ∷ parts.following) none_set.0 in
    let ordered : object_after parts.after 1 parts.following ≡ Ok o = ap (λ l. object_after parts.after (1 + length l) parts.following) (sym none_set.0) ∙ parts.ordered in
    rw whole (asm-from parts.after parts.file parts.following o parts.no_dash none_set.1 ordered)

list-from : (s : Settings) (file : Word) (following : List Word) (o : Order) → is_option file ≡ false → defaults ≡ s → none_after (run_order Show s 1) 1 following ≡ Ok o →
    Orders (codes "type" ∷ file ∷ following) o
list-from s file [] o dash is ordered = rw (← ok _ _ ordered, ← is) (list file dash)
list-from s file (other ∷ others) o dash is ordered = refused _ o ordered

list-order : (words : List Word) (o : Order) → Parted Show defaults 1 words o → Orders (codes "type" ∷ words) o
list-order words o parts =
    let none_set : (parts.options ≡ []) × (defaults ≡ parts.after) = bare Show defaults parts.after parts.options refl refl refl parts.set in
    let whole : words ≡ parts.file ∷ parts.following = parts.whole ∙ ap (λ l. l ++ parts.file ∷ parts.following) none_set.0 in
    let ordered : none_after (run_order Show parts.after 1) 1 parts.following ≡ Ok o =
    ap (λ l. none_after (run_order Show parts.after (1 + length l)) (1 + length l) parts.following) (sym none_set.0) ∙ parts.ordered in
    rw whole (list-from parts.after parts.file parts.following o parts.no_dash none_set.1 ordered)

gen-order : (words : List Word) (o : Order) → Parted Gen defaults 1 words o → Orders (codes "gen" ∷ words) o
gen-order words o parts = from parts.following (blocks_value parts.file) refl parts.whole parts.ordered
  where
    from : (following : List Word) (v : Result ℕ ℕ) → blocks_value parts.file ≡ v → words ≡ parts.options ++ parts.file ∷ following →
        blocks_at parts.after (1 + length parts.options) v following ≡ Ok o → Orders (codes "gen" ∷ words) o
    from following (Err kind) is whole ordered = refused _ o ordered
    from [] (Ok n) is whole ordered = rw (whole, ← ok _ _ ordered) (gen parts.after parts.options parts.file n parts.set parts.no_dash is)
    from (other ∷ others) (Ok n) is whole ordered = refused _ o ordered

multi-order : (words : List Word) (o : Order) → Parted Multi defaults 1 words o → Orders (codes "multi" ∷ words) o
multi-order words o parts = from parts.following parts.whole parts.ordered
  where
    from : (following : List Word) → words ≡ parts.options ++ parts.file ∷ following → processors_after parts.after (1 + length parts.options) following ≡ Ok o →
        Orders (codes "multi" ∷ words) o
    from [] whole ordered = refused _ o ordered
    from (object ∷ []) whole ordered = rw (whole, ← ok _ _ ordered) (multi parts.after parts.options parts.file object parts.set parts.no_dash)
    from (object ∷ other ∷ others) whole ordered = refused _ o ordered

-- the command
by-command : (word : Word) (words : List Word) (o : Order) (r a s g t m : Bool) →
    bytes_eq word (codes "run") ≡ r → bytes_eq word (codes "asm") ≡ a → bytes_eq word (codes "sim") ≡ s → bytes_eq word (codes "gen") ≡ g → bytes_eq word (codes "type") ≡ t → bytes_eq word (codes "multi") ≡ m →
    commanded (cond r (Some Run) (cond a (Some Asm) (cond s (Some Sim) (cond g (Some Gen) (cond t (Some Show) (cond m (Some Multi) None)))))) words ≡ Ok o → Orders (word ∷ words) o
by-command word words o true a s g t m hr ha hs hg ht hm is = rw ((bytes_eq-Decides word (codes "run")).0 hr) (run-order words o (parted Run defaults 1 words o is))
by-command word words o false true s g t m hr ha hs hg ht hm is = rw ((bytes_eq-Decides word (codes "asm")).0 ha) (asm-order words o (parted Asm defaults 1 words o is))
by-command word words o false false true g t m hr ha hs hg ht hm is = rw ((bytes_eq-Decides word (codes "sim")).0 hs) (sim-order words o (parted Sim defaults 1 words o is))
by-command word words o false false false true t m hr ha hs hg ht hm is = rw ((bytes_eq-Decides word (codes "gen")).0 hg) (gen-order words o (parted Gen defaults 1 words o is))
by-command word words o false false false false true m hr ha hs hg ht hm is = rw ((bytes_eq-Decides word (codes "type")).0 ht) (list-order words o (parted Show defaults 1 words o is))
by-command word words o false false false false false true hr ha hs hg ht hm is = rw ((bytes_eq-Decides word (codes "multi")).0 hm) (multi-order words o (parted Multi defaults 1 words o is))
by-command word words o false false false false false false hr ha hs hg ht hm is = refused _ o is

pub order-spelled : (words : List Word) (o : Order) → order_of words ≡ Ok o → Orders words o
order-spelled [] o is = refused _ o is
order-spelled (word ∷ words) o is =
    by-command word words o (bytes_eq word (codes "run")) (bytes_eq word (codes "asm")) (bytes_eq word (codes "sim")) (bytes_eq word (codes "gen")) (bytes_eq word (codes "type")) (bytes_eq word (codes "multi")) refl refl refl refl refl refl is
