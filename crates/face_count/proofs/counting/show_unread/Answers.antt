use Rattle.face_count.specs.CountPages.{unread_page}
use Rattle.face_count.proofs.Shown.{made-lacks, made-shown}
use Rattle.face_count.proofs.counting.show_unread.Goals as goal

pub returns-clause-told : goal.returns-clause-told
returns-clause-told g c = made-shown _ _ _ _ (unread_page c.args.is_json c.args.outcome) c.unread_file_page.ensures.page c.put_made.ensures.told c.put_made.ensures.lacking

pub returns-clause-lacking : goal.returns-clause-lacking
returns-clause-lacking g c = λ e. made-lacks _ _ _ c.unread_file_page.ensures.enough c.put_made.ensures.lacking e

pub returns-clause-onward : goal.returns-clause-onward
returns-clause-onward g c = c.put_made.ensures.onward c.args.outcome c.unread_file_page.ensures.outcome
