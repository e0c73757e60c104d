use Rattle.std.proofs.Common.{ap}
use Rattle.c_ast.proofs.View.{many_is}
use Rattle.c_ast.specs.View.{init_of}
use Rattle.c_text.specs.TypeText.{listed}
use Rattle.c_text.specs.ExpressionText.{init_text}
use Rattle.c_scopes.proofs.Rows.{listing_begins, listing_on, all_listed}
use Rattle.c_expression_rules.proofs.SlotRows.{no_item, same, nothing_in_row, texts_are}
use Rattle.c_scopes.proofs.Walks.{passed, as_demands, as_text}
use Rattle.c_expression_rules.proofs.init.+passes.Goals as goal

pub pass_init-returns-in-Many : goal.pass_init-returns-in-Many
pass_init-returns-in-Many t c = rw c.in-Many.is (rw (many_is c.in-Many.inits) (passed (passed c.pass-in-Many.ensures (rw c.as_slice.ensures at c.pass_inits.ensures)) c.pass-in-Many-2.ensures))

pub pass_inits-loop-init-init : goal.pass_inits-loop-init-init
pass_inits-loop-init-init t c = listing_begins (λ i. init_text (init_of i)) no_item same c.args.walk.now 0 c.args.inits.now

pub pass_inits-loop-init-preserved : goal.pass_inits-loop-init-preserved
pass_inits-loop-init-preserved t c =
    listing_on (λ i. init_text (init_of i)) no_item same c.args.walk.now 0 0 c.loop-init.more c.args.inits.now c.loop-init.init-index c.init-item.result c.loop-init-test.true c.init-item.is c.loop-init.invariant c.pass_comma.ensures c.pass_init.ensures

pub pass_inits-returns : goal.pass_inits-returns
pass_inits-returns t c =
    as_text (ap listed (texts_are c.args.inits.now)) (as_demands (nothing_in_row 0 c.args.walk.now.at c.args.inits.now)
    (all_listed (λ i. init_text (init_of i)) no_item same 0 0 c.loop-init.more c.args.inits.now c.loop-init.init-index c.loop-init-test.false c.loop-init.invariant))
