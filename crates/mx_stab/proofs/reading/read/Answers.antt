use Rattle.std.proofs.Common.{◌≡◌, ◌≢◌, ◌∙◌, List, Ok, Err, Result, IfErr, IfOk, sym, ℕ, arith}
use Rattle.mx_stab.proofs.Words.{AllByRecursion, bytes-each, AreBytes, Symbol, StabFault, OutOfMemory, FaultOf, AreDistinct, IsTrie, IsNamed, trie_answer}
use Rattle.mx_stab.proofs.NamesLaw.{trie-named}
use Rattle.mx_stab.proofs.FaultsFound.{fault-found}
use Rattle.mx_stab.proofs.Sound.{read-trie}
use Rattle.mx_stab.proofs.Whole.{trie-read}
use Rattle.mx_stab.proofs.reading.read.Goals as goal

well-read : (bytes : List ℕ) (r : Result (List Symbol) StabFault) → AreBytes bytes → (r ≢ Err OutOfMemory → r ≡ trie_answer bytes) → IfOk r (λ symbols. IsTrie bytes symbols)
well-read bytes (Ok symbols) b h = read-trie bytes symbols b (sym (h (λ e. cc)))
well-read bytes (Err fault) b h = tt

pub returns-clause-grammar : goal.returns-clause-grammar
returns-clause-grammar c = well-read c.args.bytes.now _ (bytes-each c.args.bytes.now (λ i. omega (arith, c.type_inv.bytes i))) c.symbols_of.ensures

pub returns-clause-only : goal.returns-clause-only
returns-clause-only c = λ ne symbols h. c.symbols_of.ensures ne ∙ trie-read c.args.bytes.now symbols h

well-named : (bytes : List ℕ) (r : Result (List Symbol) StabFault) → IfOk r (λ symbols. IsTrie bytes symbols) → IfOk r (λ symbols. AreDistinct symbols × AllByRecursion IsNamed symbols)
well-named bytes (Ok symbols) h = trie-named bytes symbols h
well-named bytes (Err fault) h = tt

pub returns-clause-names : goal.returns-clause-names
returns-clause-names c = well-named c.args.bytes.now _ (returns-clause-grammar c)

abbrev refusal : StabFault → Result (List Symbol) StabFault
refusal fault = Err fault

tabled : (bytes : List ℕ) (r : Result (List Symbol) StabFault) → AreBytes bytes → (r ≢ Err OutOfMemory → r ≡ trie_answer bytes) → IfErr r (λ fault. fault ≢ OutOfMemory → FaultOf bytes fault)
tabled bytes (Ok symbols) b h = tt
tabled bytes (Err fault) b h = λ other. fault-found bytes fault b (sym (h (λ e. other (same e))))
  where
    same : refusal fault ≡ refusal OutOfMemory → fault ≡ OutOfMemory
    same e = cc

pub returns-clause-table : goal.returns-clause-table
returns-clause-table c = tabled c.args.bytes.now _ (bytes-each c.args.bytes.now (λ i. omega (arith, c.type_inv.bytes i))) c.symbols_of.ensures
