-- A file that is put among files: where it is, and what the other files have.
use Rattle.std.proofs.Common.{◌≡◌, ◌≢◌, ℕ, ◌+◌, ◌<◌, ◌≤◌, Bool, true, false, cond, nat_lt, List, [], ◌∷◌, ◌++◌, length, take, drop, Some, None, refl, sym, ◌∙◌, ap, arith, get_or, append-nil}
use Rattle.std.specs.Prelude.{Option, slice_get, slice_set, replicate, ◌==◌, ◌-◌}
use Rattle.std.specs.List.{position, position_or_len}
use Rattle.std.specs.Str.{bytes_eq}
use Rattle.std.proofs.lemmas.Bool.{false≢true}
use Rattle.std.proofs.lemmas.Bool.Decides.{nat_tests}
use Rattle.std.proofs.lemmas.Cmp.{nat_list_eq_equiv}
use Rattle.std.proofs.lemmas.List.{length-set, length-append, length-replicate, length_push, get_or-set_same, get_or-set_other, get_or_append_left, get_or_push, set-set, set_at, take_at, drop_all}
use Rattle.std.proofs.lemmas.List.Folds.{position_or_len-set, position_or_len_push}
use Rattle.std.proofs.lemmas.List.Quantifiers.{position-Some}
use Rattle.std.proofs.lemmas.List.Sums.{prefix_len-le-length}
use Rattle.std.proofs.lemmas.Option.{slice_get-get_or}
use Rattle.mx_word.specs.Lists.{with_written}
use Rattle.mx_host.specs.declared.files.StoredFile.{StoredFile}
use Rattle.mx_host.specs.HostModel.{place_of}
use Rattle.mx_host.specs.HostAnswer.{changed_at, with_bytes, empty_file, bytes_of, bytes_at, put_at}

-- the place of the file that was put where this place was found
abbrev pub home : List StoredFile → Option ℕ → ℕ
home files None = length files
home files (Some at) = at

-- a place that was found is that of a file
abbrev pub Lies : List StoredFile → Option ℕ → Type 0
Lies files None = Unit {0}
Lies files (Some at) = at < length files

pub lies : (files : List StoredFile) (name : List ℕ) → Lies files (place_of files name)
lies files name = on (nat_lt (position_or_len (λ f. bytes_eq f.name name) files) (length files)) refl
  where
    on : (b : Bool) → nat_lt (position_or_len (λ f. bytes_eq f.name name) files) (length files) ≡ b → Lies files (cond b (Some (position_or_len (λ f. bytes_eq f.name name) files)) None)
    on true e = grind (arith, nat_tests)
    on false e = tt

-- ---- other bytes at a place

with-is : (files : List StoredFile) (at : ℕ) (bytes : List ℕ) (d : StoredFile) → at < length files → with_bytes files at bytes ≡ slice_set files at (record (get_or files at d) { bytes = bytes })
with-is files at bytes d h = ap (changed_at files at bytes) (slice_get-get_or files at d h)

get-with : (files : List StoredFile) (at : ℕ) (bytes : List ℕ) (d : StoredFile) → at < length files → slice_get (with_bytes files at bytes) at ≡ Some (record (get_or files at d) { bytes = bytes })
get-with files at bytes d h =
    let f : StoredFile = record (get_or files at d) { bytes = bytes } in
    rw (with-is files at bytes d h)
    (slice_get-get_or (slice_set files at f) at d (rw (length-set files at f) h) ∙ ap Some (get_or-set_same files at f d h))

with-with : (files : List StoredFile) (at : ℕ) (b c : List ℕ) (d : StoredFile) → at < length files → with_bytes (with_bytes files at b) at c ≡ with_bytes files at c
with-with files at b c d h =
    let f : StoredFile = record (get_or files at d) { bytes = b } in
    let g : StoredFile = record (get_or files at d) { bytes = c } in
    ap (changed_at (with_bytes files at b) at c) (get-with files at b d h)
    ∙ ap (λ fs. slice_set fs at g) (with-is files at b d h) ∙ set-set files at f g ∙ sym (with-is files at c d h)

-- ---- the file that was put

get-last : (files : List StoredFile) (f : StoredFile) → slice_get (files ++ f ∷ []) (length files) ≡ Some f
get-last files f =
    let more : length files < length (files ++ f ∷ []) = rw (length_push files f) (omega arith) in
    slice_get-get_or (files ++ f ∷ []) (length files) f more ∙ ap Some (get_or_push files f f (length files) refl)

pub at-home : (files : List StoredFile) (name bytes : List ℕ) (p : Option ℕ) → Lies files p → bytes_at (put_at files name bytes p) (home files p) ≡ bytes
at-home files name bytes None h = rw (get-last files (record { name = name; bytes = bytes })) refl
at-home files name bytes (Some at) h = rw (get-with files at bytes (empty_file name) h) refl

-- other bytes in it
pub put-put : (files : List StoredFile) (name b c : List ℕ) (p : Option ℕ) → Lies files p → with_bytes (put_at files name b p) (home files p) c ≡ put_at files name c p
put-put files name b c None h =
    let f : StoredFile = record { name = name; bytes = b } in
    let g : StoredFile = record { name = name; bytes = c } in
    ap (changed_at (files ++ f ∷ []) (length files) c) (get-last files f) ∙ set_at files f [] g (length files) refl
put-put files name b c (Some at) h = with-with files at b c (empty_file name) h

ended : (b zeros from : List ℕ) → length zeros ≤ length from → take (length b) (b ++ zeros) ++ from ++ drop (length b + length from) (b ++ zeros) ≡ b ++ from
ended b zeros from h =
    let short : length (b ++ zeros) ≤ length b + length from = rw (length-append b zeros) (omega arith) in
    rw (take_at b zeros (length b) refl, drop_all (length b + length from) (b ++ zeros) short, append-nil (b ++ from)) refl

-- bytes that are written at the end of others
pub overwritten-end : (b from : List ℕ) → with_written b (length b) from ≡ b ++ from
overwritten-end b [] = sym (append-nil b)
overwritten-end b (x ∷ xs) =
    let k : ℕ = length b + length (x ∷ xs) - length b in
    let few : length (replicate {A = ℕ} k 0) ≤ length (x ∷ xs) = rw (length-replicate {A = ℕ} k 0) (omega arith) in
    ended b (replicate k 0) (x ∷ xs) few

-- ---- where files are

pushed-other : (k n : ℕ) (b : Bool) → k ≤ n → (k == n) ≡ b →
    ◌≡◌ {A = Option ℕ} (cond (nat_lt (cond b (n + 1) k) (n + 1)) (Some (cond b (n + 1) k)) None) (cond (nat_lt k n) (Some k) None)
pushed-other k n true h e = grind (arith, nat_tests)
pushed-other k n false h e = grind (arith, nat_tests)

-- after a file that is not looked for
position-push : (p : StoredFile → Bool) (files : List StoredFile) (f : StoredFile) → p f ≡ false → position p (files ++ f ∷ []) ≡ position p files
position-push p files f e =
    let k : ℕ = position_or_len p files in
    let n : ℕ = length files in
    rw (position_or_len_push p files f, length_push files f, e) (pushed-other k n (k == n) (prefix_len-le-length _ files) refl)

pushed-same : (k n : ℕ) (b : Bool) → k ≤ n → ◌≡◌ {A = Option ℕ} (cond (nat_lt k n) (Some k) None) None → (k == n) ≡ b →
    ◌≡◌ {A = Option ℕ} (cond (nat_lt (cond b (n + 0) k) (n + 1)) (Some (cond b (n + 0) k)) None) (Some n)
pushed-same k n true h none e = grind (arith, nat_tests)
pushed-same k n false h none e = grind (arith, nat_tests)

-- the file that is looked for after others
position-last : (p : StoredFile → Bool) (files : List StoredFile) (f : StoredFile) → p f ≡ true → position p files ≡ None → position p (files ++ f ∷ []) ≡ Some (length files)
position-last p files f e none =
    let k : ℕ = position_or_len p files in
    let n : ℕ = length files in
    rw (position_or_len_push p files f, length_push files f, e) (pushed-same k n (k == n) (prefix_len-le-length _ files) none refl)

-- other bytes change no place
place-with : (files : List StoredFile) (at : ℕ) (bytes name : List ℕ) (d : StoredFile) → at < length files → place_of (with_bytes files at bytes) name ≡ place_of files name
place-with files at bytes name d h =
    let f : StoredFile = record (get_or files at d) { bytes = bytes } in
    rw (with-is files at bytes d h, position_or_len-set (λ g. bytes_eq g.name name) files at f d refl, length-set files at f) refl

-- and it is found there
pub place-home : (files : List StoredFile) (name bytes : List ℕ) (p : Option ℕ) → place_of files name ≡ p → Lies files p → place_of (put_at files name bytes p) name ≡ Some (home files p)
place-home files name bytes None e h = position-last (λ f. bytes_eq f.name name) files (record { name = name; bytes = bytes }) (nat_list_eq_equiv.refl name) e
place-home files name bytes (Some at) e h = place-with files at bytes name (empty_file name) h ∙ e

-- a file of another name stays where it is
pub place-other : (files : List StoredFile) (name bytes other : List ℕ) (p : Option ℕ) → bytes_eq name other ≡ false → Lies files p → place_of (put_at files name bytes p) other ≡ place_of files other
place-other files name bytes other None e h = position-push (λ f. bytes_eq f.name other) files (record { name = name; bytes = bytes }) e
place-other files name bytes other (Some at) e h = place-with files at bytes other (empty_file name) h

-- and keeps its bytes
pub bytes-other : (files : List StoredFile) (name bytes other : List ℕ) (at : ℕ) (p : Option ℕ) → bytes_eq name other ≡ false → place_of files other ≡ Some at → place_of files name ≡ p →
    bytes_at (put_at files name bytes p) at ≡ bytes_at files at
bytes-other files name bytes other at None e o q =
    let d : StoredFile = record { name = name; bytes = bytes } in
    let there : at < length files = (position-Some (λ f. bytes_eq f.name other) files at d o).0 in
    let more : at < length (files ++ d ∷ []) = rw (length_push files d) (omega arith) in
    ap bytes_of (slice_get-get_or (files ++ d ∷ []) at d more ∙ ap Some (get_or_append_left files (d ∷ []) d at there) ∙ sym (slice_get-get_or files at d there))
bytes-other files name bytes other at (Some k) e o q =
    let d : StoredFile = empty_file name in
    let f : StoredFile = record (get_or files k d) { bytes = bytes } in
    let here = position-Some (λ f. bytes_eq f.name other) files at d o in
    let its = position-Some (λ f. bytes_eq f.name name) files k d q in
    let apart : at ≢ k = λ same. false≢true (sym e ∙ sym (nat_list_eq_equiv.congr (get_or files k d).name name other its.1) ∙ ap (λ i. bytes_eq (get_or files i d).name other) (sym same) ∙ here.1) in
    let there : at < length (slice_set files k f) = rw (length-set files k f) here.0 in
    rw (with-is files k bytes d its.0)
    (ap bytes_of (slice_get-get_or (slice_set files k f) at d there ∙ ap Some (get_or-set_other files k at f d apart) ∙ sym (slice_get-get_or files at d here.0)))
