-- The host of a program, while its files are put there.
use Rattle.std.proofs.Common.{◌≡◌, ◌<◌, ◌≤◌, ◌+◌, ℕ, List, drop, length, sym, subst, ◌∙◌, ap, get_or}
use Rattle.std.proofs.lemmas.List.{at_drop_more, at_drop_all}
use Rattle.mx_host.specs.HostAnswer.{with_file}
use Rattle.mx_host.specs.HostModel.{HostModel}
use Rattle.mx_host.specs.declared.files.StoredFile.{StoredFile}
use Rattle.mx_replay.specs.Programs.{with_files}

pub file-put : (m n whole : HostModel) (files items : List StoredFile) (i : ℕ) (f : StoredFile) → items ≡ files → i < length items → f ≡ get_or items i f → n ≡ with_file m f.name f.bytes →
    with_files m (drop i files) ≡ whole → with_files n (drop (i + 1) files) ≡ whole
unfolding with_files
file-put m n whole files items i f same l e put h =
    ap (λ k. with_files k (drop (i + 1) files)) put
    ∙ ap (λ (g : StoredFile). with_files (with_file m g.name g.bytes) (drop (i + 1) files)) (e ∙ ap (λ xs. get_or xs i f) same)
    ∙ sym (at_drop_more (with_files m) files i f (subst (λ xs. i < length xs) same l)) ∙ h

pub files-put : (m whole : HostModel) (files items : List StoredFile) (i : ℕ) → items ≡ files → length items ≤ i → with_files m (drop i files) ≡ whole → m ≡ whole
unfolding with_files
files-put m whole files items i same l h = sym (at_drop_all (with_files m) files i (subst (λ xs. length xs ≤ i) same l)) ∙ h
