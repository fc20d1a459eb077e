-- The slots at the start.
use Rattle.std.proofs.Common.{◌≡◌, List, [], ◌++◌, length, map, refl, ap, ◌∙◌}
use Rattle.std.specs.Prelude.{replicate}
use Rattle.mx_host.specs.HostModel.{start_slots, standard_streams}
use Rattle.mx_real.specs.declared.streams.Stream.{Stream}
use Rattle.mx_real.specs.declared.streams.Stream.TheVariants.{Closed}
use Rattle.mx_real.specs.Streams.{stream_of}

-- the lists that the streams at the start are made of
pub streams-at_start : {F : Type 0} → (a b streams : List (Stream F)) → a ≡ [] ++ map stream_of standard_streams → b ≡ a ++ replicate 255 Closed → streams ≡ b ++ map stream_of standard_streams → streams ≡ map stream_of start_slots
unfolding start_slots
streams-at_start a b streams h i j = j ∙ ap (λ l. l ++ map stream_of standard_streams) (i ∙ ap (λ l. l ++ replicate 255 Closed) h)

pub streams-count : (F : Type 0) → length (map (stream_of {F = F}) start_slots) ≡ 261
unfolding start_slots
streams-count F = refl
