use Rattle.law_runs.proofs.DetourRuns.{detour-is}
use Rattle.law_runs.proofs.detour.objects_run_as_their_sources.Goals as goal

pub returns : goal.returns
returns c = λ d image means.
    detour-is d.kind d.options d.source d.object d.given d.text d.old d.after d.ordered d.assembled image means d.simulated d.ran
