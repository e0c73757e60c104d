use Rattle.std.proofs.Common.{ap, ◌∙◌, Ok, refl, FitsSigned}
use Rattle.std.proofs.lemmas.Int.{to_z-of_z}
use mir.Syntax.{w128}
use Rattle.int_ops.proofs.Wide.{wide, sum_is}
use Rattle.int_ops.proofs.Unsigned.{or_is, xor_is}
use Rattle.int_ops.proofs.range.Range.answer.Goals as goal

pub returns-in-Or : goal.returns-in-Or
returns-in-Or g c =
    let u = rw c.in-Or.is at c.requires.allowed in
    let k = rw c.in-Or.is at c.requires.right in
    rw c.in-Or.is (ap Ok (or_is _ _ c.args.a c.args.b c.requires.width u c.requires.left (k refl)))

pub returns-in-Xor : goal.returns-in-Xor
returns-in-Xor g c =
    let u = rw c.in-Xor.is at c.requires.allowed in
    let k = rw c.in-Xor.is at c.requires.right in
    rw c.in-Xor.is (ap Ok (xor_is _ _ c.args.a c.args.b c.requires.width u c.requires.left (k refl)))

pub returns-in-WrapAdd : goal.returns-in-WrapAdd
returns-in-WrapAdd g c =
    let h = wide _ _ c.args.a c.requires.width c.requires.left in
    let k = rw c.in-WrapAdd.is at c.requires.right in
    let l = wide _ _ c.args.b c.requires.width (k refl) in
    let e = rw (sum_is _ _ h l) at c.modulo.ensures in
    let f : FitsSigned w128 c.modulo.result = record { sfits = c.modulo.type_inv } in
    rw c.in-WrapAdd.is (ap Ok (to_z-of_z w128 c.modulo.result f ∙ e))
