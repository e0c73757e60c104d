use Rattle.std.proofs.lemmas.Int.{to_z-of_z}
use mir.Syntax.{w128}
use Rattle.int_ops.proofs.Answers.{answer_in_range}
use Rattle.int_ops.proofs.answer.apply.Goals as goal

pub returns-in-U8-clause-in_range : goal.returns-in-U8-clause-in_range
returns-in-U8-clause-in_range c =
    let e = rw (to_z-of_z w128 c.args.a c.ranges.a, to_z-of_z w128 c.args.b c.ranges.b) at c.answer.ensures in
    answer_in_range c.args.op c.args.kind c.args.a c.args.b _ (rw c.in-U8.is e) c.requires.allowed c.requires.left c.requires.right

pub returns-in-U16-clause-in_range : goal.returns-in-U16-clause-in_range
returns-in-U16-clause-in_range c =
    let e = rw (to_z-of_z w128 c.args.a c.ranges.a, to_z-of_z w128 c.args.b c.ranges.b) at c.answer-in-U16.ensures in
    answer_in_range c.args.op c.args.kind c.args.a c.args.b _ (rw c.in-U16.is e) c.requires.allowed c.requires.left c.requires.right

pub returns-in-U32-clause-in_range : goal.returns-in-U32-clause-in_range
returns-in-U32-clause-in_range c =
    let e = rw (to_z-of_z w128 c.args.a c.ranges.a, to_z-of_z w128 c.args.b c.ranges.b) at c.answer-in-U32.ensures in
    answer_in_range c.args.op c.args.kind c.args.a c.args.b _ (rw c.in-U32.is e) c.requires.allowed c.requires.left c.requires.right

pub returns-in-U64-clause-in_range : goal.returns-in-U64-clause-in_range
returns-in-U64-clause-in_range c =
    let e = rw (to_z-of_z w128 c.args.a c.ranges.a, to_z-of_z w128 c.args.b c.ranges.b) at c.answer-in-U64.ensures in
    answer_in_range c.args.op c.args.kind c.args.a c.args.b _ (rw c.in-U64.is e) c.requires.allowed c.requires.left c.requires.right

pub returns-in-I8-clause-in_range : goal.returns-in-I8-clause-in_range
returns-in-I8-clause-in_range c =
    let e = rw (to_z-of_z w128 c.args.a c.ranges.a, to_z-of_z w128 c.args.b c.ranges.b) at c.answer-in-I8.ensures in
    answer_in_range c.args.op c.args.kind c.args.a c.args.b _ (rw c.in-I8.is e) c.requires.allowed c.requires.left c.requires.right

pub returns-in-I16-clause-in_range : goal.returns-in-I16-clause-in_range
returns-in-I16-clause-in_range c =
    let e = rw (to_z-of_z w128 c.args.a c.ranges.a, to_z-of_z w128 c.args.b c.ranges.b) at c.answer-in-I16.ensures in
    answer_in_range c.args.op c.args.kind c.args.a c.args.b _ (rw c.in-I16.is e) c.requires.allowed c.requires.left c.requires.right

pub returns-in-I32-clause-in_range : goal.returns-in-I32-clause-in_range
returns-in-I32-clause-in_range c =
    let e = rw (to_z-of_z w128 c.args.a c.ranges.a, to_z-of_z w128 c.args.b c.ranges.b) at c.answer-in-I32.ensures in
    answer_in_range c.args.op c.args.kind c.args.a c.args.b _ (rw c.in-I32.is e) c.requires.allowed c.requires.left c.requires.right

pub returns-in-I64-clause-in_range : goal.returns-in-I64-clause-in_range
returns-in-I64-clause-in_range c =
    let e = rw (to_z-of_z w128 c.args.a c.ranges.a, to_z-of_z w128 c.args.b c.ranges.b) at c.answer-in-I64.ensures in
    answer_in_range c.args.op c.args.kind c.args.a c.args.b _ (rw c.in-I64.is e) c.requires.allowed c.requires.left c.requires.right
