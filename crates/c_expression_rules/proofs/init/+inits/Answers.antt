use Rattle.std.proofs.Common.{ap}
use Rattle.c_ast.proofs.View.{many_is}
use Rattle.c_ast.specs.View.{init_of, inits_of}
use Rattle.c_text.specs.TypeText.{listed}
use Rattle.c_text.specs.ExpressionText.{init_text}
use Rattle.c_scopes.specs.Scope.{names_view}
use Rattle.c_scopes.specs.Shapes.{shape_view}
use Rattle.c_expression_rules.specs.Slots.{slots_view, slots_of_tree, inits_demands}
use Rattle.c_scopes.proofs.Rows.{listing_begins, listing_on, all_listed}
use Rattle.c_expression_rules.proofs.SlotRows.{item, next, inits_are, texts_are, many_are}
use Rattle.c_scopes.proofs.Walks.{followed, passed, as_demands, as_text}
use Rattle.c_expression_rules.proofs.init.+inits.Goals as goal

pub check_init-returns-in-Many : goal.check_init-returns-in-Many
check_init-returns-in-Many t c =
    rw c.in-Many.is (rw (many_is c.in-Many.inits)
    (as_demands (many_are c.args.names.now.target (names_view c.args.names.now) (shape_view c.args.shape.now) c.args.walk.now.at (inits_of c.in-Many.inits))
    (passed
    (followed (λ at. inits_demands c.args.names.now.target (names_view c.args.names.now) (slots_of_tree (shape_view c.args.shape.now)) at (inits_of c.in-Many.inits))
    c.check_brace-in-Many.ensures (rw (c.slots_of.ensures, c.as_slice.ensures) at c.check_inits.ensures))
    c.pass.ensures)))

pub check_inits-loop-init-init : goal.check_inits-loop-init-init
check_inits-loop-init-init t c = listing_begins (λ i. init_text (init_of i)) (item c.args.names.now.target (names_view c.args.names.now)) next c.args.walk.now (slots_view c.args.slots) c.args.inits.now

pub check_inits-loop-init-preserved : goal.check_inits-loop-init-preserved
check_inits-loop-init-preserved t c =
    rw c.rest-slots.ensures
    (listing_on (λ i. init_text (init_of i)) (item c.args.names.now.target (names_view c.args.names.now)) next c.args.walk.now (slots_view c.args.slots) (slots_view c.loop-init.slots) c.loop-init.more c.args.inits.now c.loop-init.init-index c.init-item.result c.loop-init-test.true c.init-item.is c.loop-init.invariant c.pass_comma.ensures
    (rw c.first.ensures at c.check_slot.ensures))

pub check_inits-returns : goal.check_inits-returns
check_inits-returns t c =
    as_text (ap listed (texts_are c.args.inits.now)) (as_demands (inits_are c.args.names.now.target (names_view c.args.names.now) (slots_view c.args.slots) c.args.walk.now.at c.args.inits.now)
    (all_listed (λ i. init_text (init_of i)) (item c.args.names.now.target (names_view c.args.names.now)) next (slots_view c.args.slots) (slots_view c.loop-init.slots) c.loop-init.more c.args.inits.now c.loop-init.init-index c.loop-init-test.false c.loop-init.invariant))
