use Rattle.std.proofs.Common.{◌≡◌, ℕ, ◌+◌, List, drop, map, ap, sym, ◌∙◌}
use Rattle.ivory_tree.specs.View.{stmt_of, stmts_of}
use Rattle.ivory_tree.specs.Syntax.{StmtsSyntax}
use Rattle.ivory_tree.specs.declared.stmt.Stmt.{Stmt}
use Rattle.core_tree.specs.View as tree
use Rattle.core_tree.specs.declared.stmt.CoreStmt.{CoreStmt}
use Rattle.typing_rules.specs.Environments.{Env}
use Rattle.typing_rules.specs.StatementCores.{stmts_core, stmts_last}
use Rattle.check_numbers.specs.NumberedParts.{stmts_from, stmts_after}
use Rattle.core_maker.specs.Places.{env_of}
use Rattle.statement_maker.specs.Parts.{followed}
use Rattle.statement_maker.proofs.Followed.{next_of, none_left, all_made, more_core, more_after, more_last}
use Rattle.statement_maker.proofs.Scopes.{stays_both}
use Rattle.statement_maker.proofs.blocks.+stmts.Goals as goal

pub statements-loop-stmt-preserved : goal.statements-loop-stmt-preserved
statements-loop-stmt-preserved t c =
    let env : Env = env_of c.loop-stmt.place in
    let behind : Env = env_of c.statement.new.place in
    let n : ℕ = c.loop-stmt.next in
    let m : ℕ = c.statement.new.next in
    let made : List CoreStmt = c.loop-stmt.made in
    let s : Stmt = c.stmt-item.result in
    let rest : StmtsSyntax = stmts_of (drop (c.loop-stmt.stmt-index + 1) c.args.stmts.now) in
    let all = sym (next_of c.args.stmts.now c.loop-stmt.stmt-index s c.loop-stmt-test.true c.stmt-item.is) in
    record {
      core = ap (λ (xs : List CoreStmt). followed (map tree.stmt_of xs) (stmts_from m (stmts_core behind rest))) c.in_ok-push.ensures.ok
          ∙ more_core n m env behind made c.in_ok-core.core (stmt_of s) rest c.in_ok-core.ensures.core c.in_ok-core.ensures.after c.in_ok-core.ensures.env
          ∙ ap (λ (r : StmtsSyntax). followed (map tree.stmt_of made) (stmts_from n (stmts_core env r))) all
          ∙ c.loop-stmt.invariant.core;
      after = more_after n m env behind (stmt_of s) rest c.in_ok-core.ensures.after c.in_ok-core.ensures.env ∙ ap (λ (r : StmtsSyntax). stmts_after n (stmts_core env r)) all ∙ c.loop-stmt.invariant.after;
      env = more_last env behind (stmt_of s) rest c.in_ok-core.ensures.env ∙ ap (λ (r : StmtsSyntax). stmts_last env r) all ∙ c.loop-stmt.invariant.env;
      stays = stays_both c.args.place.now c.loop-stmt.place c.statement.new.place c.loop-stmt.invariant.stays c.in_ok-core.ensures.stays;
    }

pub statements-returns-clause-core : goal.statements-returns-clause-core
statements-returns-clause-core t c =
    sym (all_made c.loop-stmt.made)
    ∙ ap (λ (r : StmtsSyntax). followed (map tree.stmt_of c.loop-stmt.made) (stmts_from c.loop-stmt.next (stmts_core (env_of c.loop-stmt.place) r))) (sym (none_left c.args.stmts.now c.loop-stmt.stmt-index c.loop-stmt-test.false))
    ∙ c.loop-stmt.invariant.core
