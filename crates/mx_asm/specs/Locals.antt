-- Which statements have the label dH. (MMIXware, MMIXAL: local labels; TAOCP 1, Fascicle 1, section 1.3.2'.)
use Rattle.std.specs.Prelude.{◌≡◌, ℕ, false, List}
use Rattle.std.specs.List.{AllByRecursion}
use Rattle.mx_stmt.specs.Encoding.{StatementTree}
use Rattle.mx_asm.specs.TwoPass.{is_local}

-- none of these statements has the label dH
abbrev pub HasNoLocal : ℕ → List StatementTree → Type 0
HasNoLocal d statements = AllByRecursion (λ (s : StatementTree). is_local d s.label ≡ false) statements
