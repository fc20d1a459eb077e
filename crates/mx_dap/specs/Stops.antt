-- What is told of a stop. (Debug Adapter Protocol, "Stopped Event".)
use Rattle.std.specs.Prelude.{ℕ, ◌≡◌, List, [], codes}
use Rattle.mx_adapter.specs.Messages.{and_then, told}
use Rattle.mx_adapter.specs.Numbers.{Sent}
use Rattle.mx_panes.specs.Stops.{stop_body}

-- the last message tells that the run is at a stop, at this step
pub record TellsStop (at : ℕ) (sent : Sent) : Type 0 where
  pub before : Sent
  pub reason : List ℕ
  pub said : List ℕ
  pub met : List ℕ
  pub is : sent ≡ and_then before (told (codes "stopped") (stop_body at reason said met))

-- it tells that the run is done
pub record TellsEnd (sent : Sent) : Type 0 where
  pub before : Sent
  pub is : sent ≡ and_then before (told (codes "terminated") [])

pub data TellsWhere (at : ℕ) (sent : Sent) : Type 0 where
  stopped : TellsStop at sent → TellsWhere at sent
  ended : TellsEnd sent → TellsWhere at sent
