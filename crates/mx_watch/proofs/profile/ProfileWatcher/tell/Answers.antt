use Rattle.mx_watch.proofs.Profiled.{profile_told}
use Rattle.mx_watch.proofs.profile.ProfileWatcher.tell.Goals as goal

pub returns-clause-ok : goal.returns-clause-ok
returns-clause-ok c = profile_told c.args.self.now.counts c.count_one.new.counts c.args.t.now c.count_one.ensures
