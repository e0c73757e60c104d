use Rattle.std.proofs.Common.{sym, ap, ◌∙◌, arith, drop, ◌+◌}
use Rattle.std.specs.Prelude.{map}
use Rattle.type_trees.specs.Layouts.{lay_row}
use Rattle.c_memory.specs.Access.{laid_out}
use Rattle.type_trees.specs.Multiples.{up}
use Rattle.c_ast.specs.Scalars.{metric_of}
use Rattle.c_ast.specs.StaticTypes.{same_scalar}
use Rattle.c_ast.proofs.Scalars.{bytes_some}
use Rattle.c_objects.specs.Shapes.{tree_of, field_of, row_from}
use Rattle.c_objects.proofs.View.{fields_drop}
use Rattle.c_objects.proofs.Offsets.{elements_none, elements_past, elements_laid, member_above, member_within, member_below}
use Rattle.c_objects.proofs.laid.+laid.Goals as goal

pub is_laid_in_elements-returns-then-wide-eq0 : goal.is_laid_in_elements-returns-then-wide-eq0
is_laid_in_elements-returns-then-wide-eq0 t c =
    sym (elements_none (metric_of c.args.t) same_scalar bytes_some c.args.n c.args.at c.args.s (tree_of c.args.element.now) (sym c.if-wide-eq0.true ∙ c.in_ok-wide.ensures))

pub is_laid_in_elements-returns-then-from-at : goal.is_laid_in_elements-returns-then-from-at
is_laid_in_elements-returns-then-from-at t c =
    sym (elements_past (metric_of c.args.t) same_scalar bytes_some c.args.n c.args.at c.args.s (tree_of c.args.element.now) c.in_ok-wide.wide c.in_ok-wide.ensures (omega arith) (omega arith))

pub is_laid_in_elements-returns : goal.is_laid_in_elements-returns
is_laid_in_elements-returns t c =
    rw (elements_laid (metric_of c.args.t) same_scalar bytes_some c.args.n c.args.at c.args.s (tree_of c.args.element.now) c.in_ok-wide.wide c.in_ok-wide.ensures (omega arith) (omega arith)) c.is_laid_in_shape.ensures

pub look_in_field-returns-then-at-begin : goal.look_in_field-returns-then-at-begin
look_in_field-returns-then-at-begin t c = λ f r.
    member_above (metric_of c.args.t) same_scalar bytes_some f (field_of c.args.field.now).1 r c.args.end c.in_ok-begin.begin c.args.at c.args.s
    (c.in_ok-begin.ensures ∙ ap (up c.args.end) c.field_align.ensures.value) c.if-at-begin.true

pub look_in_field-returns : goal.look_in_field-returns
look_in_field-returns t c = λ f r.
    c.in_ok-holds.ensures ∙
    member_within (metric_of c.args.t) same_scalar bytes_some f (field_of c.args.field.now).1 r c.args.end c.in_ok-begin.begin c.in_ok-wide.wide c.args.at c.args.s
    (c.in_ok-begin.ensures ∙ ap (up c.args.end) c.field_align.ensures.value) c.in_ok-wide.ensures (omega arith) (omega arith)

pub look_in_field-returns-then-wide-at : goal.look_in_field-returns-then-wide-at
look_in_field-returns-then-wide-at t c = λ f r.
    member_below (metric_of c.args.t) same_scalar bytes_some f (field_of c.args.field.now).1 r c.args.end c.in_ok-begin.begin c.in_ok-wide.wide c.args.at c.args.s
    (c.in_ok-begin.ensures ∙ ap (up c.args.end) c.field_align.ensures.value) c.in_ok-wide.ensures (omega arith) (omega arith)

pub is_laid_in_fields-returns-in-Settled : goal.is_laid_in_fields-returns-in-Settled
is_laid_in_fields-returns-in-Settled t c =
    let h = rw c.in-Settled.is at c.in-Some.ensures in
    h (field_of c.field-item.result).0 (row_from (map field_of (drop (c.loop-field.field-index + 1) c.args.fields.now)))
    ∙ ap (λ r. laid_out same_scalar (c.args.at, c.args.s) (lay_row (metric_of c.args.t) r 0 c.loop-field.end)) (sym (fields_drop c.args.fields.now c.loop-field.field-index c.field-item.result c.field-item.is c.loop-field-test.true))
    ∙ c.loop-field.invariant

pub is_laid_in_fields-loop-field-preserved : goal.is_laid_in_fields-loop-field-preserved
is_laid_in_fields-loop-field-preserved t c =
    let h = rw c.in-Behind.is at c.in-Some.ensures in
    sym (h (field_of c.field-item.result).0 (row_from (map field_of (drop (c.loop-field.field-index + 1) c.args.fields.now))))
    ∙ ap (λ r. laid_out same_scalar (c.args.at, c.args.s) (lay_row (metric_of c.args.t) r 0 c.loop-field.end)) (sym (fields_drop c.args.fields.now c.loop-field.field-index c.field-item.result c.field-item.is c.loop-field-test.true))
    ∙ c.loop-field.invariant
