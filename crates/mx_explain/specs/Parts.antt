-- The rows of the table, part by part.
use Rattle.std.specs.Prelude.{List, map}
use Rattle.mx_explain.specs.Topics.{Row, row}
use Rattle.mx_explain.specs.declared.pseudo.TheConstants.{PSEUDO}
use Rattle.mx_explain.specs.declared.registers.TheConstants.{REGISTERS, MORE_REGISTERS}
use Rattle.mx_explain.specs.declared.symbols.TheConstants.{EVENTS, FILES, SERVICES, OTHERS}

-- pseudo-operations
unfoldable pub pseudo_rows : List Row
pseudo_rows = map (λ e. row e.0 e.1.now e.2.now e.3.now e.4.now) PSEUDO

-- special registers
unfoldable pub register_rows : List Row
register_rows = map (λ e. row e.0 e.1.now e.2.now e.3.now e.4.now) REGISTERS

-- more special registers
unfoldable pub more_register_rows : List Row
more_register_rows = map (λ e. row e.0 e.1.now e.2.now e.3.now e.4.now) MORE_REGISTERS

-- bits and handlers of events
unfoldable pub event_rows : List Row
event_rows = map (λ e. row e.0 e.1.now e.2.now e.3.now e.4.now) EVENTS

-- handles and modes of files
unfoldable pub file_rows : List Row
file_rows = map (λ e. row e.0 e.1.now e.2.now e.3.now e.4.now) FILES

-- services of TRAP
unfoldable pub service_rows : List Row
service_rows = map (λ e. row e.0 e.1.now e.2.now e.3.now e.4.now) SERVICES

-- other predefined symbols
unfoldable pub other_rows : List Row
other_rows = map (λ e. row e.0 e.1.now e.2.now e.3.now e.4.now) OTHERS
