-- The window that a ring's fields are.
use Rattle.mx_ring.specs.Window.{Window}
use Rattle.mx_ring.specs.declared.ring.Ring.TheInside.{Inside}

abbrev pub window_in : Inside → Window
window_in i = record { size = i.size; hidden = i.hidden; visible = i.visible }
