use Rattle.std.proofs.Common.{arith, ◌∙◌}
use Rattle.std.proofs.lemmas.List.{length-map}
use Rattle.mx_core.specs.Kept.{state_of}
use Rattle.mx_multi.specs.Joint.{joint_of}
use Rattle.mx_top.specs.Processors.{processor_line}
use Rattle.mx_top.proofs.SharedDumps.{lines-of}
use Rattle.mx_files.proofs.WrittenLines.{writes-none, writes-next, writes-last, writes-all}
use Rattle.mx_top.proofs.processors.put_processors.Goals as goal

pub loop-who-init : goal.loop-who-init
loop-who-init g c = writes-none _ _

pub returns-in-Err : goal.returns-in-Err
returns-in-Err g c =
    let j = joint_of c.args.multi.now in
    writes-last (processor_line c.args.end j) _ _ _ _ _ _ c.args.count c.loop-who.who _ _ (lines-of c.args.end j c.args.count (length-map c.args.multi.now.machines state_of ∙ c.requires)) c.loop-who-test.true
    c.loop-who.invariant c.in-Err.ensures

pub loop-who-preserved : goal.loop-who-preserved
loop-who-preserved g c =
    writes-next (processor_line c.args.end (joint_of c.args.multi.now)) _ _ _ _ _ _ c.args.count c.loop-who.who c.loop-who-test.true c.loop-who.invariant
    c.in-Ok.ensures

pub returns : goal.returns
returns g c =
    let j = joint_of c.args.multi.now in
    writes-all (processor_line c.args.end j) _ _ _ _ c.args.count c.loop-who.who _ (lines-of c.args.end j c.args.count (length-map c.args.multi.now.machines state_of ∙ c.requires)) (omega (arith, c.loop-who-test.false)) c.loop-who.invariant
