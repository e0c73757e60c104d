use Rattle.std.proofs.Common.{◌≡◌, ◌++◌, ◌∙◌, ap, refl, []}
use Rattle.std.specs.Prelude.{codes, map, false, List, ℕ}
use Rattle.c_ast.specs.View.{stmts_of}
use Rattle.c_text.specs.Rules.{Demand, behind}
use Rattle.c_text.specs.Scopes.{Names}
use Rattle.c_text.specs.Spelling.{storage_text, param_text, params_text}
use Rattle.c_text.specs.StatementText.{stmts_text}
use Rattle.c_text.specs.StatementRules.{stmts_demands}
use Rattle.c_text.specs.TypeText.{line, type_text, gap_text, typed_text}
use Rattle.c_text.specs.ExpressionRules.{type_demands}
use Rattle.c_text.specs.UnitRules.{file_name, inside, params_demands, with_params}
use Rattle.c_scopes.specs.Scope.{names_view}
use Rattle.c_rules.proofs.BraceRows.{in_is, none_is}
use Rattle.c_rules.proofs.Places.{function_params, function_body, function_lines}
use Rattle.c_rules.proofs.Scopes.{kept_both, back}
use Rattle.c_scopes.proofs.Walks.{followed, passed, as_demands, as_text}
use Rattle.c_rules.proofs.declarations.check_function.Goals as goal

pub returns-clause-walks : goal.returns-clause-walks
returns-clause-walks c =
    let f = c.args.function.now in
    let at : ℕ = c.args.walk.now.at in
    let within : Names = inside (names_view c.args.names.now) f.name in
    let head : List Demand = type_demands (names_view c.args.names.now) (behind at (storage_text f.hidden)) f.result ++ file_name (names_view c.args.names.now) (behind (behind at (storage_text f.hidden)) (typed_text f.result [])) f.name in
    let params : ℕ → List Demand = λ n. params_demands within (behind n (codes "(")) f.params in
    let body : ℕ → List Demand = λ n. stmts_demands c.args.names.now.target f.result false 1 (with_params within f.params) n (stmts_of f.body) in
    let same_target : c.check_params.new.names.target ≡ c.args.names.now.target = ap (λ n. n.target) c.in_ok-check_params.ensures.kept.others in
    let view : names_view c.check_params.new.names ≡ with_params within f.params = rw c.as_slice.ensures at c.in_ok-check_params.ensures.view in
    as_text (function_lines (storage_text f.hidden) (typed_text f.result f.name) (params_text (map param_text f.params)) (codes " ") (line (codes "{")) (stmts_text 1 (stmts_of f.body)) [] (codes "}") (line []))
    (as_demands
    (ap (λ n. head ++ params n ++ body (behind at (storage_text f.hidden ++ typed_text f.result f.name ++ params_text (map param_text f.params) ++ line (codes " {"))))
    (function_params at (storage_text f.hidden) (type_text f.result) (gap_text f.result) f.name)
    ∙ ap (λ n. head ++ params (behind (behind (behind at (storage_text f.hidden)) (typed_text f.result [])) f.name) ++ body n)
    (function_body at (storage_text f.hidden) (type_text f.result) (gap_text f.result) f.name (params_text (map param_text f.params)) (line (codes " {"))))
    (passed
    (followed body
    (passed
    (followed params
    (followed (λ n. type_demands (names_view c.args.names.now) n f.result ++ file_name (names_view c.args.names.now) (behind n (typed_text f.result [])) f.name) (rw c.storage_name.ensures at c.pass.ensures) c.check_typed.ensures)
    (rw c.as_slice.ensures at c.in_ok-check_params.ensures.walks))
    c.pass-2.ensures)
    (rw (c.wanted_of-wanted.ensures, c.as_slice-2.ensures, in_is, none_is, same_target, view) at c.in_ok-check_stmts.ensures.walks))
    c.pass-3.ensures))

pub returns-clause-same : goal.returns-clause-same
returns-clause-same c =
    back c.args.names.now _ c.check_stmts.new.names c.leave.new.names c.len-outside.result c.requires refl
    (kept_both _ c.check_params.new.names c.check_stmts.new.names c.in_ok-check_params.ensures.kept c.in_ok-check_stmts.ensures.kept) c.len-outside.ensures c.leave.ensures
