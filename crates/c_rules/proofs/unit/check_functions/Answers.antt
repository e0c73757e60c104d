use Rattle.std.proofs.Common.{◌≡◌, ◌+◌, ◌∙◌, refl, ap, sym, subst, drop, ℕ}
use Rattle.std.proofs.lemmas.Simd.{map-map}
use Rattle.c_ast.specs.declared.unit.CFunction.{CFunction}
use Rattle.c_ast.specs.View.{function_of}
use Rattle.c_text.specs.Spelling.{function_text}
use Rattle.c_text.specs.TypeText.{texts}
use Rattle.c_scopes.specs.Scope.{names_view}
use Rattle.c_scopes.specs.Walks.{Walks}
use Rattle.c_scopes.proofs.Rows.{Going, going_on, all_gone}
use Rattle.c_rules.proofs.Units.{function_line, function_item, function_next, functions_row, others_stay}
use Rattle.c_scopes.proofs.Walks.{as_demands, as_text}
use Rattle.c_rules.proofs.unit.check_functions.Goals as goal

pub check_next_function-requires : goal.check_next_function-requires
check_next_function-requires c = ap (λ n. n.itself) c.loop-function.invariant.others ∙ c.requires

pub loop-function-init : goal.loop-function-init
loop-function-init c = record { going = λ w rest. rest; others = refl }

pub loop-function-preserved : goal.loop-function-preserved
loop-function-preserved c =
    let f : CFunction = c.function-item.result in
    let i : ℕ = c.loop-function.function-index in
    let fs = c.args.functions.now in
    let same_target : c.loop-function.names.target ≡ c.args.names.now.target = ap (λ n. n.target) c.loop-function.invariant.others in
    let one : Walks c.loop-function.walk c.check_next_function.new.walk (function_line f) (function_item c.args.names.now.target (names_view c.loop-function.names) c.loop-function.walk.at f) =
    subst (λ x. Walks c.loop-function.walk c.check_next_function.new.walk (function_line f) (function_item x (names_view c.loop-function.names) c.loop-function.walk.at f)) same_target c.in_ok-check_next_function.ensures.walks in
    record {
      going = subst (λ s. Going function_line (function_item c.args.names.now.target) function_next c.args.walk.now c.check_next_function.new.walk (names_view c.args.names.now) s fs (drop (i + 1) fs)) (sym c.in_ok-check_next_function.ensures.next)
          (going_on function_line (function_item c.args.names.now.target) function_next c.args.walk.now (names_view c.args.names.now) (names_view c.loop-function.names) fs i f c.loop-function-test.true c.function-item.is c.loop-function.invariant.going one);
      others = others_stay c.args.names.now c.loop-function.names c.check_next_function.new.names c.loop-function.invariant.others c.in_ok-check_next_function.ensures.others;
    }

pub returns : goal.returns
returns c =
    as_text (ap texts (sym (map-map function_text function_of c.args.functions.now))) (as_demands (functions_row c.args.names.now.target (names_view c.args.names.now) c.args.walk.now.at c.args.functions.now)
    (all_gone function_line (function_item c.args.names.now.target) function_next (names_view c.args.names.now) (names_view c.loop-function.names) c.args.functions.now c.loop-function.function-index c.loop-function-test.false c.loop-function.invariant.going))
