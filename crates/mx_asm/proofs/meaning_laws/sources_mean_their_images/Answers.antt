use Rattle.mx_asm.proofs.MeaningSources.{source-means, run-means, pages-mean, source-fault}
use Rattle.mx_asm.proofs.meaning_laws.sources_mean_their_images.Goals as goal

pub returns-clause-image : goal.returns-clause-image
returns-clause-image c = source-means

pub returns-clause-run : goal.returns-clause-run
returns-clause-run c = run-means

pub returns-clause-fault : goal.returns-clause-fault
returns-clause-fault c = source-fault

pub returns-clause-pages : goal.returns-clause-pages
returns-clause-pages c = pages-mean
