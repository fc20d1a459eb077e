use Rattle.std.proofs.Common.{◌∙◌, ap, refl}
use Rattle.std.proofs.lemmas.Result.{err_from_is_err_and}
use Rattle.mx_core.specs.Kept.{state_of}
use Rattle.mx_host.proofs.Keeping.{keeps-all}
use Rattle.mx_word.specs.Results.{map_ok}
use Rattle.mx_begin.specs.Begun.{list_state_of}
use Rattle.mx_begin.proofs.Beginnings.{begun-carried, begun-uncarried, begun-lacks}
use Rattle.mx_begin.proofs.beginning.begin.Goals as goal

-- ---- no memory for the arguments

pub returns-in_err-arguments-clause-window : goal.returns-in_err-arguments-clause-window
returns-in_err-arguments-clause-window g c =
    let p = err_from_is_err_and c.from_residual.result c.from_residual.ensures.1 in
    rw (p.1, p.2) (begun-lacks _ _ _ _ _)

pub returns-in_err-arguments-clause-list : goal.returns-in_err-arguments-clause-list
returns-in_err-arguments-clause-list g c =
    let p = err_from_is_err_and c.from_residual.result c.from_residual.ensures.1 in
    rw (p.1, p.2) (begun-lacks _ _ _ _ _)

pub returns-in_err-arguments-clause-causes : goal.returns-in_err-arguments-clause-causes
returns-in_err-arguments-clause-causes g c =
    let p = err_from_is_err_and c.from_residual.result c.from_residual.ensures.1 in
    rw (p.1, p.2) ((λ had e. absurd (cc), λ n e. absurd (cc), refl, keeps-all _ _))

-- ---- an image

pub returns-clause-window : goal.returns-clause-window
returns-clause-window g c =
    begun-carried _ _ _ _ _ _ _ _ _ _ c.word_bytes.ensures (c.as_slice.ensures.value ∙ c.in_ok-arguments.ensures.value) c.in_ok-image.ensures.causes.3.telling (λ ne. c.start_machine.ensures.window (λ e. ne (ap (map_ok state_of) e)))
    c.in_ok-image.ensures.plan

pub returns-clause-list : goal.returns-clause-list
returns-clause-list g c =
    begun-carried _ _ _ _ _ _ _ _ _ _ c.word_bytes.ensures (c.as_slice.ensures.value ∙ c.in_ok-arguments.ensures.value) c.in_ok-image.ensures.causes.3.telling
    (λ ne. c.start_machine.ensures.list (λ e. ne (ap (map_ok list_state_of) e))) c.in_ok-image.ensures.plan

pub returns-clause-causes : goal.returns-clause-causes
returns-clause-causes g c = (λ had e. absurd (c.start_machine.ensures.no_host_fault e), λ n e. absurd (c.start_machine.ensures.no_missing_file e), c.start_machine.ensures.no_usage, c.in_ok-image.ensures.causes.3)

-- ---- and none

pub returns-in_err-image-clause-window : goal.returns-in_err-image-clause-window
returns-in_err-image-clause-window g c =
    let p = err_from_is_err_and c.from_residual-in_err-image.result c.from_residual-in_err-image.ensures.1 in
    rw (p.1, p.2) (begun-uncarried _ _ _ _ _ _ _ _ c.word_bytes.ensures c.in_err-image.ensures.plan)

pub returns-in_err-image-clause-list : goal.returns-in_err-image-clause-list
returns-in_err-image-clause-list g c =
    let p = err_from_is_err_and c.from_residual-in_err-image.result c.from_residual-in_err-image.ensures.1 in
    rw (p.1, p.2) (begun-uncarried _ _ _ _ _ _ _ _ c.word_bytes.ensures c.in_err-image.ensures.plan)

pub returns-in_err-image-clause-causes : goal.returns-in_err-image-clause-causes
returns-in_err-image-clause-causes g c =
    let p = err_from_is_err_and c.from_residual-in_err-image.result c.from_residual-in_err-image.ensures.1 in
    rw (p.1, p.2) ((λ had e. c.in_err-image.ensures.causes.0 had (cc), λ n e. c.in_err-image.ensures.causes.1 n (cc), c.in_err-image.ensures.causes.2, c.in_err-image.ensures.causes.3))
