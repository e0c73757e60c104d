use Rattle.std.proofs.Common.{◌≡◌, ◌+◌, drop, Some, sym, ap, ◌∙◌, arith}
use Rattle.ivory_tree.specs.Syntax.{MoreStmts}
use Rattle.ivory_tree.specs.View.{stmt_of, stmts_of}
use Rattle.ivory_tree.proofs.Places.{stmt_place}
use Rattle.control_effects.specs.Unreached.{first, within_stmts}
use Rattle.control_effects.proofs.Rows.{next_of, unreached_here, unreached_within, unreached_later}
use Rattle.control_effects.proofs.unreached.+unreached.Goals as goal

pub first_in_row-returns-then-not-reached : goal.first_in_row-returns-then-not-reached
first_in_row-returns-then-not-reached t c =
    let rest = stmts_of (drop (c.loop-stmt.stmt-index + 1) c.args.stmts.now) in
    let row = stmts_of (drop c.loop-stmt.stmt-index c.args.stmts.now) in
    let next : row ≡ MoreStmts (stmt_of c.stmt-item.result) rest = next_of c.args.stmts.now c.loop-stmt.stmt-index c.stmt-item.result (omega arith) c.stmt-item.is in
    sym (ap first c.loop-stmt.invariant ∙ ap (λ r. first (within_stmts r row)) c.if-not-reached.true
    ∙ unreached_here (stmt_of c.stmt-item.result) rest row next ∙ ap Some (stmt_place c.stmt-item.result))

pub first_in_row-returns-in-Some : goal.first_in_row-returns-in-Some
first_in_row-returns-in-Some t c =
    let rest = stmts_of (drop (c.loop-stmt.stmt-index + 1) c.args.stmts.now) in
    let row = stmts_of (drop c.loop-stmt.stmt-index c.args.stmts.now) in
    let next : row ≡ MoreStmts (stmt_of c.stmt-item.result) rest = next_of c.args.stmts.now c.loop-stmt.stmt-index c.stmt-item.result (omega arith) c.stmt-item.is in
    sym (ap first c.loop-stmt.invariant ∙ ap (λ r. first (within_stmts r row)) c.if-not-reached.false
    ∙ unreached_within (stmt_of c.stmt-item.result) rest row c.in-Some.span next (sym c.first_within.ensures ∙ c.in-Some.is))

pub first_in_row-loop-stmt-preserved : goal.first_in_row-loop-stmt-preserved
first_in_row-loop-stmt-preserved t c =
    let rest = stmts_of (drop (c.loop-stmt.stmt-index + 1) c.args.stmts.now) in
    let row = stmts_of (drop c.loop-stmt.stmt-index c.args.stmts.now) in
    let next : row ≡ MoreStmts (stmt_of c.stmt-item.result) rest = next_of c.args.stmts.now c.loop-stmt.stmt-index c.stmt-item.result (omega arith) c.stmt-item.is in
    c.loop-stmt.invariant ∙ ap (λ r. within_stmts r row) c.if-not-reached.false
    ∙ unreached_later (stmt_of c.stmt-item.result) rest row next (sym c.first_within.ensures ∙ c.in_default.is)
    ∙ ap (λ r. within_stmts r rest) (sym c.stmt_falls-reached.ensures)
