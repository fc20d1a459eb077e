-- The numbers of the messages that are sent: 1, 2, 3 and so on. (Debug Adapter Protocol, "Base Protocol".)
use Rattle.std.specs.Prelude.{ℕ, ◌≡◌, ◌≤◌, ◌+◌, ◌-◌, ◌&&◌, nat_eq, Bool, true, List, [], ◌∷◌, ◌++◌, length, codes, decimal}
use Rattle.std.specs.List.{starts_with}

-- the beginning of the message with a number
unfoldable pub front : ℕ → List ℕ
front n = codes "{\"seq\":" ++ decimal n

-- messages that are to be sent, and how many there were in all
pub record Sent : Type 0 where
  pub count : ℕ
  pub bodies : List (List ℕ)

-- whether messages are numbered one after another, the first by n
abbrev pub are_numbered : ℕ → List (List ℕ) → Bool
are_numbered n [] = true
are_numbered n (b ∷ bs) = starts_with nat_eq b (front n) && are_numbered (n + 1) bs

-- messages at the end of so many are numbered
pub record AreLast (count : ℕ) (bodies : List (List ℕ)) : Type 0 where
  pub few : length bodies ≤ count
  pub numbered : are_numbered (count - length bodies + 1) bodies ≡ true
