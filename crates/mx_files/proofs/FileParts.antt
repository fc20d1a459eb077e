-- The parts of which the work on files is made.
use Rattle.std.proofs.Common.{◌≡◌, ℕ, List, [], ◌∷◌, Ok, Err, refl}
use Rattle.std.specs.Prelude.{Option, Result}
use Rattle.mx_host.specs.HostModel.{HostModel}
use Rattle.mx_plan.specs.Plan.{returns}
use Rattle.mx_files.specs.Assembling.{refused_with}
use Rattle.mx_files.specs.Clauses.{DoesPartBetween}
use Rattle.mx_files.specs.FilePlans.{close_file, read_pieces, then_closed, read_open, open_input, file_plan, text_plan, line_plan, made_plan, lines_plan}
use Rattle.mx_files.specs.ObjectPlans.{assembled, close_object, put_object, put_source, put_into, open_object, assemble_part, list_part, typed_plan, shown_plan, item_plan}
use Rattle.mx_files.specs.Objects.{source_object}
use Rattle.mx_files.specs.Typed.{typed}
use Rattle.mx_outcome.specs.declared.outcome.Outcome.{Outcome}
use Rattle.mx_outcome.specs.declared.outcome.Outcome.TheVariants.{OutOfMemory}
use Rattle.mx_files.specs.declared.refusal.Refusal.{Refusal}
use Rattle.mx_files.proofs.Parts.{works-then, works-ends, works-done, works-refused, works-lacking, works-taking}

-- ---- a file that is read

pub read-closed : (a b c : Option HostModel) (k m n most : ℕ) (bytes : List ℕ) → DoesPartBetween a b k m (Ok bytes) (read_pieces most []) → DoesPartBetween b c m n (Ok tt) (close_file 256) → DoesPartBetween a c k n (Ok bytes) (read_open most)
unfolding read_open
read-closed a b c k m n most bytes h w =
    works-then a b c k m n bytes (Ok bytes) then_closed (read_pieces most []) h (works-then b c c m n n tt (Ok bytes) (λ u. returns (Ok bytes)) (close_file 256) w (works-done c n bytes))

pub read-unclosed : (a b c : Option HostModel) (k m n most : ℕ) (bytes : List ℕ) (outcome : Outcome) → DoesPartBetween a b k m (Ok bytes) (read_pieces most []) → DoesPartBetween {A = Unit {0}} b c m n (Err outcome) (close_file 256) →
    DoesPartBetween a c k n (Err outcome) (read_open most)
unfolding read_open
read-unclosed a b c k m n most bytes outcome h w =
    works-then a b c k m n bytes (Err outcome) then_closed (read_pieces most []) h (works-ends b c m n outcome (λ u. returns (Ok bytes)) (close_file 256) w)

pub read-ends : (a b : Option HostModel) (k m most : ℕ) (outcome : Outcome) → DoesPartBetween a b k m (Err outcome) (read_pieces most []) → DoesPartBetween a b k m (Err outcome) (read_open most)
unfolding read_open
read-ends a b k m most outcome w = works-ends a b k m outcome then_closed (read_pieces most []) w

-- ---- an object that is written

object-done : (a : Option HostModel) (k : ℕ) (answer : Result (Unit {0}) Refusal) → DoesPartBetween a a k k (assembled answer) (returns (assembled answer))
object-done a k (Ok u) = works-done a k tt
object-done a k (Err refusal) = works-refused a k (refused_with refusal) refl (λ e. absurd (cc)) (λ e. absurd (cc)) (λ e. absurd (cc))

pub object-closed : (a b : Option HostModel) (k m : ℕ) (answer : Result (Unit {0}) Refusal) (r : Result (Unit {0}) Outcome) → r ≡ assembled answer → DoesPartBetween a b k m (Ok tt) (close_file 257) → DoesPartBetween a b k m r (close_object answer)
unfolding close_object
object-closed a b k m answer r e w =
    rw e (works-then a b b k m m tt (assembled answer) (λ u. returns (assembled answer)) (close_file 257) w (object-done b m answer))

pub object-unclosed : (a b : Option HostModel) (k m : ℕ) (outcome : Outcome) (answer : Result (Unit {0}) Refusal) → DoesPartBetween a b k m (Err outcome) (close_file 257) → DoesPartBetween a b k m (Err outcome) (close_object answer)
unfolding close_object
object-unclosed a b k m outcome answer w = works-ends a b k m outcome (λ u. returns (assembled answer)) (close_file 257) w

pub object-put : (a b c : Option HostModel) (k m n : ℕ) (bytes : List ℕ) (answer : Result (Unit {0}) Refusal) (r : Result (Unit {0}) Outcome) → DoesPartBetween a b k m (Ok tt) (text_plan 257 bytes) →
    DoesPartBetween b c m n r (close_object answer) → DoesPartBetween a c k n r (put_object (bytes, answer))
unfolding put_object
object-put a b c k m n bytes answer r h w = works-then a b c k m n tt r (λ u. close_object answer) (text_plan 257 bytes) h w

pub object-unput : (a b : Option HostModel) (k m : ℕ) (bytes : List ℕ) (answer : Result (Unit {0}) Refusal) (outcome : Outcome) → DoesPartBetween a b k m (Err outcome) (text_plan 257 bytes) →
    DoesPartBetween a b k m (Err outcome) (put_object (bytes, answer))
unfolding put_object
object-unput a b k m bytes answer outcome w = works-ends a b k m outcome (λ u. close_object answer) (text_plan 257 bytes) w

pub source-put : (a b : Option HostModel) (k m : ℕ) (source bytes slice : List ℕ) (answer : Result (Unit {0}) Refusal) (r : Result (Unit {0}) Outcome) → (bytes, answer) ≡ source_object source → slice ≡ bytes →
    DoesPartBetween a b k m r (put_object (slice, answer)) → DoesPartBetween a b k m r (put_source source)
unfolding put_source
source-put a b k m source bytes slice answer r e s w = works-taking a b k m r (λ u. put_object (source_object source)) (rw (← e, ← s) w)

pub source-lacks : (a : Option HostModel) (k : ℕ) (source : List ℕ) → DoesPartBetween a a k k (Err OutOfMemory) (put_source source)
unfolding put_source
source-lacks a k source = works-lacking a k (λ u. put_object (source_object source))

-- ---- a line that is made

pub line-made : (a b : Option HostModel) (k m : ℕ) (line made : List ℕ) (r : Result (Unit {0}) Outcome) → made ≡ line → DoesPartBetween a b k m r (line_plan made) → DoesPartBetween a b k m r (made_plan line)
unfolding made_plan
line-made a b k m line made r e w = works-taking a b k m r (λ u. line_plan line) (rw (← e) w)

pub line-lacks : (a : Option HostModel) (k : ℕ) (line : List ℕ) → DoesPartBetween a a k k (Err OutOfMemory) (made_plan line)
unfolding made_plan
line-lacks a k line = works-lacking a k (λ u. line_plan line)

pub item-made : (a b : Option HostModel) (k m : ℕ) (text made : List ℕ) (r : Result (Unit {0}) Outcome) → made ≡ text → DoesPartBetween a b k m r (shown_plan made) → DoesPartBetween a b k m r (item_plan text)
unfolding item_plan
item-made a b k m text made r e w = works-taking a b k m r (λ u. shown_plan text) (rw (← e) w)

pub item-lacks : (a : Option HostModel) (k : ℕ) (text : List ℕ) → DoesPartBetween a a k k (Err OutOfMemory) (item_plan text)
unfolding item_plan
item-lacks a k text = works-lacking a k (λ u. shown_plan text)

-- ---- lines in turn

pub lines-next : (a b c : Option HostModel) (k m n : ℕ) (line : List ℕ) (lines : List (List ℕ)) (r : Result (Unit {0}) Outcome) → DoesPartBetween a b k m (Ok tt) (made_plan line) → DoesPartBetween b c m n r (lines_plan lines) →
    DoesPartBetween a c k n r (lines_plan (line ∷ lines))
unfolding lines_plan
lines-next a b c k m n line lines r h w = works-then a b c k m n tt r (λ u. lines_plan lines) (made_plan line) h w

pub lines-end : (a b : Option HostModel) (k m : ℕ) (line : List ℕ) (lines : List (List ℕ)) (outcome : Outcome) → DoesPartBetween a b k m (Err outcome) (made_plan line) → DoesPartBetween a b k m (Err outcome) (lines_plan (line ∷ lines))
unfolding lines_plan
lines-end a b k m line lines outcome w = works-ends a b k m outcome (λ u. lines_plan lines) (made_plan line) w

-- ---- a file that is opened, and what follows

pub file-read : (a b c : Option HostModel) (k m n most : ℕ) (name : List ℕ) (r : Result (List ℕ) Outcome) → DoesPartBetween a b k m (Ok tt) (open_input name) → DoesPartBetween b c m n r (read_open most) → DoesPartBetween a c k n r (file_plan most name)
unfolding file_plan
file-read a b c k m n most name r h w = works-then a b c k m n tt r (λ u. read_open most) (open_input name) h w

pub file-unopened : (a b : Option HostModel) (k m most : ℕ) (name : List ℕ) (outcome : Outcome) → DoesPartBetween a b k m (Err outcome) (open_input name) → DoesPartBetween a b k m (Err outcome) (file_plan most name)
unfolding file_plan
file-unopened a b k m most name outcome w = works-ends a b k m outcome (λ u. read_open most) (open_input name) w

pub into-put : (a b c : Option HostModel) (k m n : ℕ) (object source : List ℕ) (r : Result (Unit {0}) Outcome) → DoesPartBetween a b k m (Ok tt) (open_object object) → DoesPartBetween b c m n r (put_source source) → DoesPartBetween a c k n r (put_into object source)
unfolding put_into
into-put a b c k m n object source r h w = works-then a b c k m n tt r (λ u. put_source source) (open_object object) h w

pub into-unopened : (a b : Option HostModel) (k m : ℕ) (object source : List ℕ) (outcome : Outcome) → DoesPartBetween a b k m (Err outcome) (open_object object) → DoesPartBetween a b k m (Err outcome) (put_into object source)
unfolding put_into
into-unopened a b k m object source outcome w = works-ends a b k m outcome (λ u. put_source source) (open_object object) w

pub assembled-file : (a b c : Option HostModel) (k m n : ℕ) (source object bytes slice : List ℕ) (r : Result (Unit {0}) Outcome) → slice ≡ bytes → DoesPartBetween a b k m (Ok bytes) (file_plan 1025 source) →
    DoesPartBetween b c m n r (put_into object slice) → DoesPartBetween a c k n r (assemble_part source object)
unfolding assemble_part
assembled-file a b c k m n source object bytes slice r e h w = works-then a b c k m n bytes r (put_into object) (file_plan 1025 source) h (rw (← e) w)

pub unread-source : (a b : Option HostModel) (k m : ℕ) (source object : List ℕ) (outcome : Outcome) → DoesPartBetween a b k m (Err outcome) (file_plan 1025 source) → DoesPartBetween a b k m (Err outcome) (assemble_part source object)
unfolding assemble_part
unread-source a b k m source object outcome w = works-ends a b k m outcome (put_into object) (file_plan 1025 source) w

pub listed-file : (a b c : Option HostModel) (k m n : ℕ) (name bytes slice : List ℕ) (r : Result (Unit {0}) Outcome) → slice ≡ bytes → DoesPartBetween a b k m (Ok bytes) (file_plan 16385 name) →
    DoesPartBetween b c m n r (typed_plan (typed slice)) → DoesPartBetween a c k n r (list_part name)
unfolding list_part
listed-file a b c k m n name bytes slice r e h w = works-then a b c k m n bytes r (λ object. typed_plan (typed object)) (file_plan 16385 name) h (rw (← e) w)

pub unread-object : (a b : Option HostModel) (k m : ℕ) (name : List ℕ) (outcome : Outcome) → DoesPartBetween a b k m (Err outcome) (file_plan 16385 name) → DoesPartBetween a b k m (Err outcome) (list_part name)
unfolding list_part
unread-object a b k m name outcome w = works-ends a b k m outcome (λ object. typed_plan (typed object)) (file_plan 16385 name) w
