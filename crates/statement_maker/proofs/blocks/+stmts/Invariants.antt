-- The statements so far, with the rest from what is known there, are the whole.
use Rattle.std.proofs.Common.{◌≡◌, drop, map}
use Rattle.core_tree.specs.View.{stmt_of}
use Rattle.ivory_tree.specs.View.{stmts_of}
use Rattle.typing_rules.specs.StatementCores.{stmts_core, stmts_last}
use Rattle.check_numbers.specs.NumberedParts.{stmts_from, stmts_after}
use Rattle.core_maker.specs.Places.{env_of}
use Rattle.statement_maker.specs.Parts.{followed}
use Rattle.statement_maker.specs.Places.{Stays}
use Rattle.statement_maker.proofs.blocks.+stmts.Given as goal

abbrev pub invariant-statements-loop-stmt : goal.invariant-statements-loop-stmt
invariant-statements-loop-stmt l = record {
  core : followed (map stmt_of l.made) (stmts_from l.next (stmts_core (env_of l.place) (stmts_of (drop l.stmt-index l.stmts)))) ≡ stmts_from l.initial.next (stmts_core (env_of l.initial.place) (stmts_of l.stmts));
  after : stmts_after l.next (stmts_core (env_of l.place) (stmts_of (drop l.stmt-index l.stmts))) ≡ stmts_after l.initial.next (stmts_core (env_of l.initial.place) (stmts_of l.stmts));
  env : stmts_last (env_of l.place) (stmts_of (drop l.stmt-index l.stmts)) ≡ stmts_last (env_of l.initial.place) (stmts_of l.stmts);
  stays : Stays l.initial.place l.place;
}
