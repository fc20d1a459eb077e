use Rattle.std.proofs.Common.{[], ◌∷◌, refl}
use Rattle.mx_ops.specs.declared.op.Shape.TheVariants.{Three, Regs, Round, Neg, Rel, Mem, MemPure, Wyde, Jump, Put, Get, Pop, One, Save, Unsave, Free}
use Rattle.mx_text.proofs.ByShape.{shown-added, shown-either}
use Rattle.mx_text.proofs.Words.{operands_text, Number}
use Rattle.mx_text.proofs.instructions.add_shown.Goals as goal

pub returns-in-Three : goal.returns-in-Three
returns-in-Three c =
    shown-either _ _ _ _ c.args.word c.args.pc c.code.result _ Three Mem c.add_three.ensures c.code.ensures c.shape_of.ensures c.in-Three.is (rw (c.x-x.ensures, c.y-y.ensures, c.last.ensures) refl) refl

pub returns-in-Regs : goal.returns-in-Regs
returns-in-Regs c =
    shown-added _ _ _ _ c.args.word c.args.pc c.code.result Regs c.add_three-in-Regs.ensures c.code.ensures c.in-Regs.ensures (rw (c.x-x.ensures, c.y-y.ensures, c.z-z.ensures) refl)

pub returns-in-Round : goal.returns-in-Round
returns-in-Round c =
    shown-either _ _ _ _ c.args.word c.args.pc c.code.result _ Round Neg c.add_three-in-Round.ensures c.code.ensures c.shape_of.ensures c.in-Round.is (rw (c.x-x.ensures, c.number.ensures, c.y-y.ensures, c.last-in-Round.ensures) refl) refl

pub returns-in-MemPure : goal.returns-in-MemPure
returns-in-MemPure c =
    shown-added _ _ _ _ c.args.word c.args.pc c.code.result MemPure c.add_three-in-MemPure.ensures c.code.ensures c.in-MemPure.ensures (rw (c.number-in-MemPure.ensures, c.x-x.ensures, c.y-y.ensures, c.last-in-MemPure.ensures) refl)

pub returns-in-Rel : goal.returns-in-Rel
returns-in-Rel c =
    shown-added _ _ _ _ c.args.word c.args.pc c.code.result Rel c.add_two.ensures c.code.ensures c.in-Rel.ensures (rw (c.x-x.ensures, c.near.ensures) refl)

pub returns-in-Jump : goal.returns-in-Jump
unfolding operands_text
returns-in-Jump c =
    shown-added _ _ _ (c.far.result ∷ []) c.args.word c.args.pc c.code.result Jump c.add_operand.ensures c.code.ensures c.in-Jump.ensures (rw c.far.ensures refl)

pub returns-in-Wyde : goal.returns-in-Wyde
returns-in-Wyde c =
    shown-added _ _ _ _ c.args.word c.args.pc c.code.result Wyde c.add_two-in-Wyde.ensures c.code.ensures c.in-Wyde.ensures (rw (c.x-x.ensures, c.yz.ensures) refl)

pub returns-in-Put : goal.returns-in-Put
returns-in-Put c =
    shown-added _ _ _ _ c.args.word c.args.pc c.code.result Put c.add_two-in-Put.ensures c.code.ensures c.in-Put.ensures (rw (c.number-in-Put.ensures, c.x-x.ensures, c.last-in-Put.ensures) refl)

pub returns-in-Get : goal.returns-in-Get
returns-in-Get c =
    shown-either _ _ _ _ c.args.word c.args.pc c.code.result _ Get Save c.add_two-in-Get.ensures c.code.ensures c.shape_of.ensures c.in-Get.is (rw (c.x-x.ensures, c.number-in-Get.ensures, c.z-z.ensures) refl) refl

pub returns-in-Pop : goal.returns-in-Pop
returns-in-Pop c =
    shown-added _ _ _ _ c.args.word c.args.pc c.code.result Pop c.add_two-in-Pop.ensures c.code.ensures c.in-Pop.ensures (rw (c.number-in-Pop.ensures, c.x-x.ensures, c.yz-in-Pop.ensures) refl)

pub returns-in-One : goal.returns-in-One
unfolding operands_text
returns-in-One c =
    shown-added _ _ _ (Number c.xyz.result ∷ []) c.args.word c.args.pc c.code.result One c.add_operand-in-One.ensures c.code.ensures c.in-One.ensures (rw c.xyz.ensures refl)

pub returns-in-Unsave : goal.returns-in-Unsave
returns-in-Unsave c =
    shown-added _ _ _ _ c.args.word c.args.pc c.code.result Unsave c.add_two-in-Unsave.ensures c.code.ensures c.in-Unsave.ensures (rw (c.number-in-Unsave.ensures, c.x-x.ensures, c.z-z.ensures) refl)

pub returns-in-Free : goal.returns-in-Free
returns-in-Free c =
    shown-added _ _ _ _ c.args.word c.args.pc c.code.result Free c.add_three-in-Free.ensures c.code.ensures c.in-Free.ensures (rw (c.number-in-Free.ensures, c.number-in-Free-2.ensures, c.number-in-Free-3.ensures, c.x-x.ensures, c.y-y.ensures, c.z-z.ensures) refl)
