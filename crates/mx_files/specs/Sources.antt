-- What a source means that is run: its image, in which every label is known before a byte is placed; or its refusal.
use Rattle.std.specs.Prelude.{ℕ, List, Option, None, Some, Result, Ok, Err}
use Rattle.mx_mmo.specs.Image.{Image}
use Rattle.mx_asm.specs.Entries.{statements_in, source_entries}
use Rattle.mx_asm.specs.Image.{image}
use Rattle.mx_asm.specs.Pages.{RunRefusal, run_refusal}
use Rattle.mx_files.specs.declared.refusal.Refusal.{Refusal}

-- the refusal of a source, as the program tells it
abbrev pub refusal_told : RunRefusal → Refusal
refusal_told r = record { line = r.line; fault = r.number; from_line = r.from_line }

abbrev pub meaning_unless : Option RunRefusal → Image → Result Image Refusal
meaning_unless None image = Ok image
meaning_unless (Some r) image = Err (refusal_told r)

-- the image of a source that is run: memory, pages, lines and registers; or its refusal
unfoldable pub source_meaning : List ℕ → Result Image Refusal
source_meaning source = meaning_unless (run_refusal source) (image (statements_in (source_entries source)))
