use Rattle.std.proofs.Common.{ap, ◌∙◌, arith, take}
use Rattle.ivory_tree.specs.View.{stmts_of}
use Rattle.alloc_effects.specs.Effects.{either, stmts_effects}
use Rattle.alloc_effects.proofs.Rows.{one_more}
use Rattle.alloc_effects.proofs.effects.+effects.Goals as goal

pub stmts_effects-loop-stmt-preserved : goal.stmts_effects-loop-stmt-preserved
stmts_effects-loop-stmt-preserved t c =
    c.either-all.ensures ∙ ap (λ all. either all c.stmt_effects.result) c.loop-stmt.invariant
    ∙ ap (either (stmts_effects (stmts_of (take c.loop-stmt.stmt-index c.args.stmts.now)))) c.stmt_effects.ensures
    ∙ one_more c.args.stmts.now c.loop-stmt.stmt-index c.stmt-item.result (omega arith) c.stmt-item.is
