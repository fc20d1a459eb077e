use Rattle.std.proofs.Common.{◌≡◌, ℕ, List, None, Ok, Err, Result, ap, refl}
use Rattle.mx_stab.proofs.Words.{AreBytes, Symbol, StabFault, IsTrie, fault_in, trie_answer}
use Rattle.mx_stab.proofs.Sound.{read-trie}
use Rattle.mx_stab.proofs.Whole.{trie-read}
use Rattle.mx_stab.proofs.laws.a_trie_has_no_fault.Goals as goal

no-fault : (bytes : List ℕ) (r : Result (List Symbol) StabFault) → AreBytes bytes → trie_answer bytes ≡ r → fault_in r ≡ None → (symbols : List Symbol) × IsTrie bytes symbols
no-fault bytes (Ok symbols) b e h = (symbols, read-trie bytes symbols b e)
no-fault bytes (Err fault) b e h = absurd (cc)

pub returns : goal.returns
returns c = λ bytes b. (no-fault bytes (trie_answer bytes) b refl, λ t. ap fault_in (trie-read bytes t.0 t.1))
