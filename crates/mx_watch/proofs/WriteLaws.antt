-- Which writes are noted.
use Rattle.std.proofs.Common.{◌≡◌, ℕ, List, [], ◌∷◌, ◌++◌, ap, ◌∙◌, sym}
use Rattle.std.specs.List.{flat_map}
use Rattle.std.proofs.lemmas.List.{append_assoc, append-nil}
use Rattle.std.proofs.lemmas.List.Concat.{flat_map-cons}
use Rattle.mx_code.specs.declared.trace.Trace.{Trace}
use Rattle.mx_watch.specs.Writings.{write_of, writes_after}
use Rattle.mx_watch.specs.declared.writes.Write.{Write}

noted : (from to : ℕ) (h : List Trace) (writes : List Write) → writes_after from to writes h ≡ writes ++ flat_map (λ t. write_of from to t.pc t.writes) h
unfolding writes_after
noted from to [] writes = sym (append-nil writes)
noted from to (t ∷ ts) writes =
    let one = λ (t : Trace). write_of from to t.pc t.writes in
    noted from to ts (writes ++ one t) ∙ append_assoc writes (one t) (flat_map one ts) ∙ ap (λ ws. writes ++ ws) (sym (flat_map-cons one t ts))

pub noted_from_new : (from to : ℕ) (h : List Trace) → writes_after from to [] h ≡ flat_map (λ t. write_of from to t.pc t.writes) h
noted_from_new from to h = noted from to h []

pub ruleset write_laws = (noted_from_new)
