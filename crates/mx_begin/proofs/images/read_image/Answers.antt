use Rattle.std.proofs.Common.{ap}
use Rattle.std.proofs.lemmas.Result.{err_from_is_err_and}
use Rattle.mx_load.specs.Kept.{image_of}
use Rattle.mx_word.specs.Results.{map_ok}
use Rattle.mx_begin.proofs.Beginnings.{image-carried, image-uncarried}
use Rattle.mx_begin.proofs.images.read_image.Goals as goal

pub returns-clause-plan : goal.returns-clause-plan
returns-clause-plan g c =
    image-carried _ _ _ _ _ _ _ _ c.most_pieces.ensures c.in_ok-bytes.ensures.causes.3.telling c.as_slice.ensures (λ ne. c.image_in.ensures.image (λ e. ne (ap (map_ok image_of) e))) c.in_ok-bytes.ensures.works.told

pub returns-in_err-bytes-clause-plan : goal.returns-in_err-bytes-clause-plan
returns-in_err-bytes-clause-plan g c =
    let p = err_from_is_err_and c.from_residual.result c.from_residual.ensures.1 in
    rw (p.1, p.2) (image-uncarried _ _ _ _ _ _ c.most_pieces.ensures c.in_err-bytes.ensures.works.told)

pub returns-clause-causes : goal.returns-clause-causes
returns-clause-causes g c = (λ had e. absurd (c.image_in.ensures.no_host_fault e), λ n e. absurd (c.image_in.ensures.no_missing_file e), c.image_in.ensures.no_usage, c.in_ok-bytes.ensures.causes.3)

pub returns-in_err-bytes-clause-causes : goal.returns-in_err-bytes-clause-causes
returns-in_err-bytes-clause-causes g c =
    let p = err_from_is_err_and c.from_residual.result c.from_residual.ensures.1 in
    rw (p.1, p.2) ((λ had e. c.in_err-bytes.ensures.causes.0 had (cc), λ n e. c.in_err-bytes.ensures.causes.1 n (cc), c.in_err-bytes.ensures.causes.2, c.in_err-bytes.ensures.causes.3))
