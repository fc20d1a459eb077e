use Rattle.law_runs.proofs.DetourRuns.{refused-detour}
use Rattle.law_runs.proofs.detour.objects_are_refused_as_their_sources.Goals as goal

pub returns : goal.returns
returns c = λ d line fault from told.
    refused-detour d.kind d.options d.source d.object d.given d.text d.old d.after line fault from d.ordered d.assembled d.simulated d.ran told
