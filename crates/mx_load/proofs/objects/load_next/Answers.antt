use Rattle.mx_load.proofs.Words.{Load}
use Rattle.mx_load.proofs.Loading.{next-went, next-failed}
use Rattle.mx_load.proofs.objects.load_next.Goals as goal

pub returns-in-Some-clause-next : goal.returns-in-Some-clause-next
returns-in-Some-clause-next c =
    next-went c.args.progress.now c.load_tetra.new.progress c.args.reader.now c.next_plain.new.self (Load c.in-Some.t) c.place.result c.load_tetra.result c.requires
    c.in-Some.ensures.answers c.place.ensures c.load_tetra.ensures.taken

pub returns-in-Some-clause-fault : goal.returns-in-Some-clause-fault
returns-in-Some-clause-fault c =
    next-failed c.args.progress.now c.load_tetra.new.progress c.args.reader.now c.next_plain.new.self (Load c.in-Some.t) c.place.result c.load_tetra.result c.requires
    c.in-Some.ensures.answers c.place.ensures c.load_tetra.ensures.taken
