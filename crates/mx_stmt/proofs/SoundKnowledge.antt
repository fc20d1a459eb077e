-- What is known stays sound when a label is defined or a register is given.
use Rattle.std.proofs.Common.{◌≡◌, ℕ, List, [], slice_set, None, arith, rules}
use Rattle.mx_stmt.proofs.Words.{Value, start, with_symbol, IsAllocable, with_greg, Known, HasRegisterNumber, IsSound, common_steps, nat_tests}
use Rattle.mx_names.specs.Names.{value_in}
use Rattle.mx_names.proofs.Entries.{value-defined}

pub sound-start : (at : ℕ) → IsSound (record { names = start; at = at; gregs = [] })
sound-start at = grind arith

pub sound-symbol : (k : Known) (full : List ℕ) (value : Value) → value_in full k.names.symbols ≡ None → HasRegisterNumber value → IsSound k → IsSound (record k { names = with_symbol k.names full value })
sound-symbol k full value absent fits sound = search (rules, value-defined)

pub sound-local : (k : Known) (d : ℕ) (value : Value) → HasRegisterNumber value → IsSound k → IsSound (record k { names = record k.names { backs = slice_set k.names.backs d value } })
sound-local k d value fits sound = grind (arith, common_steps, nat_tests)

pub sound-greg : (k : Known) (reg value : ℕ) → IsAllocable k.gregs reg → IsSound k → IsSound (record k { gregs = with_greg k.gregs reg value })
sound-greg k reg value free sound = grind (arith, common_steps, nat_tests)
