use Rattle.std.proofs.Common.{◌++◌, ◌∙◌, ap}
use Rattle.std.specs.Prelude.{codes}
use Rattle.c_ast.specs.Structs.{tree}
use Rattle.c_ast.specs.View.{init_of}
use Rattle.c_text.specs.Rules.{behind}
use Rattle.c_text.specs.TypeText.{base_text}
use Rattle.c_text.specs.Spelling.{base_const_text}
use Rattle.c_text.specs.ExpressionRules.{base_demands, init_demands}
use Rattle.c_text.specs.UnitRules.{file_name}
use Rattle.c_scopes.specs.Scope.{names_view}
use Rattle.c_scopes.specs.StructViews.{structs_view}
use Rattle.c_rules.proofs.Places.{object_name, object_init}
use Rattle.c_scopes.proofs.Walks.{followed, passed, as_demands}
use Rattle.c_rules.proofs.declarations.check_object_line.Goals as goal

pub returns : goal.returns
returns c =
    let o = c.args.object.now in
    let at = c.args.walk.now.at in
    let base = tree (structs_view c.args.names.now.structs) o.base in
    let head = base_demands (names_view c.args.names.now) (behind at (codes "static ")) o.base in
    as_demands
    (ap (λ n. head ++ file_name (names_view c.args.names.now) n o.name ++ init_demands c.args.names.now.target (names_view c.args.names.now) (behind at (codes "static " ++ base_text o.base ++ codes " " ++ base_const_text o.constant ++ o.name ++ codes " = ")) base (init_of o.init))
    (object_name at (codes "static ") (base_text o.base) (codes " ") (base_const_text o.constant))
    ∙ ap (λ n. head ++ file_name (names_view c.args.names.now) (behind (behind at (codes "static ")) (base_text o.base ++ codes " " ++ base_const_text o.constant)) o.name ++ init_demands c.args.names.now.target (names_view c.args.names.now) n base (init_of o.init))
    (object_init at (codes "static ") (base_text o.base) (codes " ") (base_const_text o.constant) o.name (codes " = ")))
    (passed
    (passed
    (followed (λ n. init_demands c.args.names.now.target (names_view c.args.names.now) n base (init_of o.init))
    (passed
    (followed (λ n. file_name (names_view c.args.names.now) n o.name)
    (passed
    (passed (followed (λ n. base_demands (names_view c.args.names.now) n o.base) c.pass.ensures c.check_base.ensures.walks) c.pass-2.ensures)
    (rw c.const_name.ensures at c.pass-3.ensures))
    c.check_file_name.ensures)
    c.pass-4.ensures)
    (rw (c.shape_of.ensures, c.base_of.ensures) at c.check_init.ensures))
    c.pass-5.ensures)
    c.pass-6.ensures)
