use Rattle.std.proofs.Common.{◌≡◌, ℕ, ◌+◌, Bool, drop, subst, ap, sym, ◌∙◌}
use Rattle.std.specs.Prelude.{◌&&◌}
use Rattle.ivory_tree.specs.View.{stmt_of, stmts_of}
use Rattle.ivory_tree.specs.Syntax.{StmtsSyntax}
use Rattle.ivory_tree.specs.declared.stmt.Stmt.{Stmt}
use Rattle.control_effects.specs.Falling.{stmt_falls}
use Rattle.rule_faults.specs.Contexts as contexts
use Rattle.rule_faults.specs.FirstFault.{first_of}
use Rattle.rule_faults.specs.StatementRows.{stmts_row, after_stmt}
use Rattle.rule_checker.specs.Contexts.{context_of}
use Rattle.rule_checker.specs.Faults.{found}
use Rattle.rule_checker.specs.declared.Context.{Context}
use Rattle.rule_checker.proofs.Started.{found_here, found_later}
use Rattle.statement_rules.specs.Kept.{Kept}
use Rattle.statement_rules.proofs.Scopes.{kept_both}
use Rattle.statement_rules.proofs.Told.{next_stmt}
use Rattle.statement_rules.proofs.blocks.+stmts.Goals as goal

pub stmts_fault-returns-in-Some-clause-fault : goal.stmts_fault-returns-in-Some-clause-fault
stmts_fault-returns-in-Some-clause-fault t c =
    let x : contexts.Context = context_of c.loop-stmt.context in
    let at : ℕ = c.loop-stmt.stmt-index in
    let s : Stmt = c.stmt-item.result in
    found_here (first_of (stmts_row (after_stmt x (stmt_of s)) (c.loop-stmt.reached && stmt_falls (stmt_of s)) (stmts_of (drop (at + 1) c.args.stmts.now)))) c.loop-stmt.invariant.rest
    (next_stmt x c.loop-stmt.reached c.args.stmts.now at s c.loop-stmt-test.true c.stmt-item.is)
    (sym c.in_ok-fault.ensures.fault ∙ ap found c.in-Some.is)

pub stmts_fault-loop-stmt-preserved : goal.stmts_fault-loop-stmt-preserved
stmts_fault-loop-stmt-preserved t c =
    let x : contexts.Context = context_of c.loop-stmt.context in
    let at : ℕ = c.loop-stmt.stmt-index in
    let s : Stmt = c.stmt-item.result in
    let rest : StmtsSyntax = stmts_of (drop (at + 1) c.args.stmts.now) in
    let view : context_of c.declare.new.context ≡ after_stmt x (stmt_of s) = c.in_ok-declare.ensures.view ∙ ap (λ (y : Context). after_stmt (context_of y) (stmt_of s)) c.in_ok-fault.ensures.same in
    record {
      rest = ap (λ (y : contexts.Context). first_of (stmts_row y c.is_next_reached-reached.result rest)) view
          ∙ ap (λ (b : Bool). first_of (stmts_row (after_stmt x (stmt_of s)) b rest)) c.is_next_reached-reached.ensures
          ∙ found_later (first_of (stmts_row (after_stmt x (stmt_of s)) (c.loop-stmt.reached && stmt_falls (stmt_of s)) rest)) c.loop-stmt.invariant.rest
          (next_stmt x c.loop-stmt.reached c.args.stmts.now at s c.loop-stmt-test.true c.stmt-item.is)
          (sym c.in_ok-fault.ensures.fault ∙ ap found c.in_default.is);
      kept = kept_both c.args.context.now c.loop-stmt.context c.declare.new.context c.loop-stmt.invariant.kept
          (subst (λ (y : Context). Kept y c.declare.new.context) c.in_ok-fault.ensures.same c.in_ok-declare.ensures.kept);
    }
