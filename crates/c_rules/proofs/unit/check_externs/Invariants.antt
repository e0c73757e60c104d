use Rattle.std.proofs.Common.{◌≡◌, drop}
use Rattle.c_text.specs.Spelling.{extern_text}
use Rattle.c_rules.specs.Kept.{OthersStay}
use Rattle.c_scopes.specs.Scope.{names_view}
use Rattle.c_rules.specs.UnitRows.{behind_externs, with_extern}
use Rattle.c_scopes.proofs.Rows.{Going}
use Rattle.c_rules.proofs.Units.{extern_asked}
use Rattle.c_rules.proofs.unit.check_externs.Given as goal

abbrev pub invariant-loop-declared : goal.invariant-loop-declared
invariant-loop-declared l = record {
  going : Going extern_text extern_asked with_extern l.initial.walk l.walk (names_view l.initial.names) (names_view l.names) l.externs (drop l.declared-index l.externs);
  view : behind_externs (names_view l.names) (drop l.declared-index l.externs) ≡ behind_externs (names_view l.initial.names) l.externs;
  others : OthersStay l.initial.names l.names;
}
