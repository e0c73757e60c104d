use Rattle.std.proofs.Common.{◌≡◌, ◌∙◌, ap, []}
use Rattle.std.specs.Prelude.{map}
use Rattle.c_ast.specs.Syntax.{TranslationUnit}
use Rattle.c_ast.specs.View.{function_of, unit_of}
use Rattle.c_text.specs.Spelling.{extern_text, function_text, unit_text}
use Rattle.c_text.specs.TypeText.{texts}
use Rattle.c_text.specs.UnitRules.{file_scope, unit_demands}
use Rattle.c_scopes.specs.Scope.{names_view, stop_alone}
use Rattle.c_rules.specs.UnitRows.{structs_asks, externs_asks, objects_asks, functions_asks, with_objects}
use Rattle.c_scopes.specs.Walks.{Walks}
use Rattle.c_rules.proofs.Scopes.{on_ok}
use Rattle.c_rules.proofs.Units.{outside, rows_of_externs, scope_behind_externs, unit_is}
use Rattle.c_scopes.proofs.Walks.{followed, as_demands}
use Rattle.c_rules.proofs.unit.check_tabled.Goals as goal

pub check_objects-requires : goal.check_objects-requires
check_objects-requires c = ap (λ n. n.values) c.in_ok-check_externs.ensures.others ∙ c.names_behind-names.ensures.values

pub check_functions-requires : goal.check_functions-requires
check_functions-requires c = ap (λ n. n.itself) c.in_ok-check_objects.ensures.others ∙ ap (λ n. n.itself) c.in_ok-check_externs.ensures.others ∙ c.names_behind-names.ensures.itself

pub returns : goal.returns
returns c =
    let u : TranslationUnit = unit_of c.args.unit.now in
    let first : names_view c.names_behind-names.result ≡ file_scope u.structs stop_alone [] = c.names_behind-names.ensures.view ∙ ap (λ ss. file_scope ss stop_alone []) (c.all_structs.ensures ∙ c.requires.tabled) in
    let view : names_view c.check_externs.new.names ≡ outside u =
    (rw (first, c.as_slice.ensures) at c.in_ok-check_externs.ensures.view) ∙ scope_behind_externs u.structs stop_alone u.externs in
    let extern_target : c.check_externs.new.names.target ≡ c.args.target = ap (λ n. n.target) c.in_ok-check_externs.ensures.others ∙ c.names_behind-names.ensures.target in
    let same_target : c.check_objects.new.names.target ≡ c.args.target = ap (λ n. n.target) c.in_ok-check_objects.ensures.others ∙ extern_target in
    let behind_objects : names_view c.check_objects.new.names ≡ with_objects (outside u) u.objects = rw (view, c.as_slice-2.ensures) at c.in_ok-check_objects.ensures.view in
    let externs : Walks c.check_structs.new.walk c.check_externs.new.walk (texts (map extern_text u.externs)) (externs_asks u.structs stop_alone c.check_structs.new.walk.at u.externs) =
    as_demands (rows_of_externs u.structs stop_alone c.check_structs.new.walk.at u.externs) (rw (first, c.as_slice.ensures) at c.in_ok-check_externs.ensures.walks) in
    let whole : Walks c.check_objects.new.walk c.check_functions.new.walk (texts (map function_text (map function_of c.as_slice-3.result.now))) (functions_asks c.check_objects.new.names.target (names_view c.check_objects.new.names) c.check_objects.new.walk.at (map function_of c.as_slice-3.result.now))
    → Walks c.args.walk.now c.check_functions.new.walk (unit_text u) (unit_demands c.args.target u) =
    λ w.
    as_demands (unit_is c.args.target u c.args.walk.now.at c.requires.start)
    (followed (λ at. functions_asks c.args.target (with_objects (outside u) u.objects) at u.functions)
    (followed (λ at. objects_asks c.args.target (outside u) at u.objects)
    (followed (λ at. externs_asks u.structs stop_alone at u.externs)
    (followed (λ at. structs_asks c.args.target [] at u.structs) c.pass_fixed.ensures (rw c.requires.tabled at c.in_ok-check_structs.ensures))
    externs)
    (rw (extern_target, view, c.as_slice-2.ensures) at c.in_ok-check_objects.ensures.walks))
    (rw (same_target, behind_objects, c.as_slice-3.ensures) at w)) in
    on_ok c.check_functions.result whole c.check_functions.ensures
