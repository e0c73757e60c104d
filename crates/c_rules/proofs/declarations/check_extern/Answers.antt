use Rattle.std.proofs.Common.{◌++◌, ◌∙◌, ap, sym, []}
use Rattle.std.specs.Prelude.{codes}
use Rattle.c_text.specs.Rules.{behind}
use Rattle.c_text.specs.TypeText.{type_text, gap_text, typed_text}
use Rattle.c_text.specs.ExpressionRules.{type_demands}
use Rattle.c_text.specs.UnitRules.{file_name, types_demands}
use Rattle.c_scopes.specs.Scope.{names_view}
use Rattle.c_rules.proofs.Places.{params_begin}
use Rattle.c_scopes.proofs.Walks.{followed, passed, as_demands, behind_both}
use Rattle.c_rules.proofs.declarations.check_extern.Goals as goal

pub returns : goal.returns
returns c =
    let x = c.args.declared.now in
    let at = c.args.walk.now.at in
    let head = type_demands (names_view c.args.names.now) (behind at (codes "extern ")) x.result in
    as_demands
    (ap (λ n. head ++ file_name (names_view c.args.names.now) n x.name ++ types_demands (names_view c.args.names.now) (behind (behind at (codes "extern " ++ typed_text x.result x.name)) (codes "(")) x.params) (sym (behind_both at (codes "extern ") (typed_text x.result [])))
    ∙ ap (λ n. head ++ file_name (names_view c.args.names.now) (behind at (codes "extern " ++ typed_text x.result [])) x.name ++ types_demands (names_view c.args.names.now) n x.params) (params_begin at (codes "extern ") (type_text x.result) (gap_text x.result) x.name (codes "(")))
    (passed
    (passed
    (followed (λ n. types_demands (names_view c.args.names.now) (behind n (codes "(")) x.params)
    (followed (λ n. type_demands (names_view c.args.names.now) n x.result ++ file_name (names_view c.args.names.now) (behind n (typed_text x.result [])) x.name) c.pass.ensures c.check_typed.ensures)
    (rw c.as_slice.ensures at c.check_types.ensures))
    c.pass-2.ensures)
    c.pass-3.ensures)
