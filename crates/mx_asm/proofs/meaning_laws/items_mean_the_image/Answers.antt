use Rattle.mx_asm.proofs.MeaningLaws.{image-meant}
use Rattle.mx_asm.proofs.meaning_laws.items_mean_the_image.Goals as goal

pub returns : goal.returns
returns c = image-meant
