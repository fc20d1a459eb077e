-- What is written of bodies over a host: each in its frame, one after another, up to one that is not written.
use Rattle.std.specs.Prelude.{ℕ, List, [], ◌∷◌, Result, Ok, Err}
use Rattle.mx_face.specs.Pages.{put_as}
use Rattle.mx_frames.specs.Streams.{framed}
use Rattle.mx_host.specs.HostAnswer.{Then, write_answer}
use Rattle.mx_host.specs.HostModel.{HostModel}
use Rattle.mx_outcome.specs.declared.outcome.Outcome.{Outcome}

abbrev pub frame_put : List ℕ → HostModel → Then (Result (Unit {0}) Outcome)
frame_put frame m = put_as (write_answer m 259 frame)

abbrev pub body_put : List ℕ → HostModel → Then (Result (Unit {0}) Outcome)
body_put body m = frame_put (framed body) m

-- what follows a body that is written
abbrev pub and_more : (HostModel → Then (Result (Unit {0}) Outcome)) → Then (Result (Unit {0}) Outcome) → Then (Result (Unit {0}) Outcome)
and_more more (Ok u, m) = more m
and_more more (Err outcome, m) = (Err outcome, m)

unfoldable pub bodies_put : List (List ℕ) → HostModel → Then (Result (Unit {0}) Outcome)
bodies_put [] m = (Ok tt, m)
bodies_put (b ∷ bs) m = and_more (bodies_put bs) (body_put b m)
