use Rattle.std.proofs.Common.{◌≡◌, ◌+◌, ◌∙◌, refl, ap, sym, subst, drop, ℕ}
use Rattle.std.specs.Prelude.{map}
use Rattle.std.proofs.lemmas.List.{drop_all}
use Rattle.std.proofs.lemmas.Simd.{map-map}
use Rattle.c_ast.specs.declared.unit.CObject.{CObject}
use Rattle.c_ast.specs.View.{object_of}
use Rattle.c_text.specs.Spelling.{file_object_text}
use Rattle.c_text.specs.TypeText.{texts}
use Rattle.c_scopes.specs.Scope.{names_view}
use Rattle.c_rules.specs.UnitRows.{with_objects}
use Rattle.c_scopes.specs.Walks.{Walks}
use Rattle.c_scopes.proofs.Rows.{Going, going_on, all_gone, next_is}
use Rattle.c_rules.proofs.Units.{object_line, object_item, object_next, objects_row, objects_alone}
use Rattle.c_scopes.proofs.Walks.{as_demands, as_text}
use Rattle.c_rules.proofs.unit.check_objects.Goals as goal

pub check_file_object-requires : goal.check_file_object-requires
check_file_object-requires c = ap (λ n. n.values) c.loop-object.invariant.others ∙ c.requires

pub loop-object-init : goal.loop-object-init
loop-object-init c = record { going = λ w rest. rest; view = refl; others = refl }

pub loop-object-preserved : goal.loop-object-preserved
loop-object-preserved c =
    let o : CObject = c.object-item.result in
    let i : ℕ = c.loop-object.object-index in
    let os = c.args.objects.now in
    let same_target : c.loop-object.names.target ≡ c.args.names.now.target = ap (λ n. n.target) c.loop-object.invariant.others in
    let one : Walks c.loop-object.walk c.check_file_object.new.walk (object_line o) (object_item c.args.names.now.target (names_view c.loop-object.names) c.loop-object.walk.at o) =
    subst (λ x. Walks c.loop-object.walk c.check_file_object.new.walk (object_line o) (object_item x (names_view c.loop-object.names) c.loop-object.walk.at o)) same_target c.check_file_object.ensures.walks in
    record {
      going = subst (λ s. Going object_line (object_item c.args.names.now.target) object_next c.args.walk.now c.check_file_object.new.walk (names_view c.args.names.now) s os (drop (i + 1) os)) (sym c.in_ok-check_file_object.ensures.view)
          (going_on object_line (object_item c.args.names.now.target) object_next c.args.walk.now (names_view c.args.names.now) (names_view c.loop-object.names) os i o c.loop-object-test.true c.object-item.is c.loop-object.invariant.going one);
      view = ap (λ s. with_objects s (map object_of (drop (i + 1) os))) c.in_ok-check_file_object.ensures.view
          ∙ ap (λ l. with_objects (names_view c.loop-object.names) (map object_of l)) (sym (next_is os i o c.loop-object-test.true c.object-item.is)) ∙ c.loop-object.invariant.view;
      others = objects_alone c.args.names.now c.loop-object.names c.check_file_object.new.names c.loop-object.invariant.others c.in_ok-check_file_object.ensures.others;
    }

pub returns-clause-walks : goal.returns-clause-walks
returns-clause-walks c =
    as_text (ap texts (sym (map-map file_object_text object_of c.args.objects.now))) (as_demands (objects_row c.args.names.now.target (names_view c.args.names.now) c.args.walk.now.at c.args.objects.now)
    (all_gone object_line (object_item c.args.names.now.target) object_next (names_view c.args.names.now) (names_view c.loop-object.names) c.args.objects.now c.loop-object.object-index c.loop-object-test.false c.loop-object.invariant.going))

pub returns-clause-view : goal.returns-clause-view
returns-clause-view c = sym (ap (λ l. with_objects (names_view c.loop-object.names) (map object_of l)) (drop_all c.loop-object.object-index c.args.objects.now c.loop-object-test.false)) ∙ c.loop-object.invariant.view
