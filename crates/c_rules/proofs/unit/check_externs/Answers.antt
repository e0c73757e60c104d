use Rattle.std.proofs.Common.{◌+◌, ◌∙◌, refl, ap, sym, subst, drop, ℕ}
use Rattle.std.proofs.lemmas.List.{drop_all}
use Rattle.c_ast.specs.declared.unit.CExtern.{CExtern}
use Rattle.c_text.specs.Spelling.{extern_text}
use Rattle.c_scopes.specs.Scope.{names_view}
use Rattle.c_rules.specs.UnitRows.{behind_externs, with_extern}
use Rattle.c_scopes.proofs.Rows.{Going, going_on, all_gone, next_is}
use Rattle.c_rules.proofs.Units.{extern_asked, asked_of_externs, others_stay}
use Rattle.c_scopes.proofs.Walks.{as_demands}
use Rattle.c_rules.proofs.unit.check_externs.Goals as goal

pub loop-declared-init : goal.loop-declared-init
loop-declared-init c = record { going = λ w rest. rest; view = refl; others = refl }

pub loop-declared-preserved : goal.loop-declared-preserved
loop-declared-preserved c =
    let x : CExtern = c.declared-item.result in
    let i : ℕ = c.loop-declared.declared-index in
    let xs = c.args.externs.now in
    record {
      going = subst (λ s. Going extern_text extern_asked with_extern c.args.walk.now c.check_next_extern.new.walk (names_view c.args.names.now) s xs (drop (i + 1) xs)) (sym c.in_ok-check_next_extern.ensures.next)
          (going_on extern_text extern_asked with_extern c.args.walk.now (names_view c.args.names.now) (names_view c.loop-declared.names) xs i x c.loop-declared-test.true c.declared-item.is c.loop-declared.invariant.going c.check_next_extern.ensures.walks);
      view = ap (λ s. behind_externs s (drop (i + 1) xs)) c.in_ok-check_next_extern.ensures.next
          ∙ ap (λ l. behind_externs (names_view c.loop-declared.names) l) (sym (next_is xs i x c.loop-declared-test.true c.declared-item.is)) ∙ c.loop-declared.invariant.view;
      others = others_stay c.args.names.now c.loop-declared.names c.check_next_extern.new.names c.loop-declared.invariant.others c.in_ok-check_next_extern.ensures.others;
    }

pub returns-clause-walks : goal.returns-clause-walks
returns-clause-walks c =
    as_demands (asked_of_externs (names_view c.args.names.now) c.args.walk.now.at c.args.externs.now)
    (all_gone extern_text extern_asked with_extern (names_view c.args.names.now) (names_view c.loop-declared.names) c.args.externs.now c.loop-declared.declared-index c.loop-declared-test.false c.loop-declared.invariant.going)

pub returns-clause-view : goal.returns-clause-view
returns-clause-view c = sym (ap (λ l. behind_externs (names_view c.loop-declared.names) l) (drop_all c.loop-declared.declared-index c.args.externs.now c.loop-declared-test.false)) ∙ c.loop-declared.invariant.view
