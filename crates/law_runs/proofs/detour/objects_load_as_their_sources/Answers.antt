use Rattle.law_runs.proofs.DetourImages.{source-loads, pages-refused}
use Rattle.law_runs.proofs.detour.objects_load_as_their_sources.Goals as goal

pub returns-clause-loaded : goal.returns-clause-loaded
returns-clause-loaded c = λ text image h. source-loads text image h.0 h.1

pub returns-clause-pages : goal.returns-clause-pages
returns-clause-pages c = λ text r h. pages-refused text r h.0 h.1 h.2
