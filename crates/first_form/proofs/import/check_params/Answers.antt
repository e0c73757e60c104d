use Rattle.std.proofs.Common.{◌≡◌, map, ap, sym, subst, ◌∙◌}
use Rattle.std.specs.List.{list_any}
use Rattle.ivory_tree.specs.Syntax.{ParamSyntax}
use Rattle.ivory_tree.specs.View.{param_of}
use Rattle.first_form.specs.Valid.{AllDifferent}
use Rattle.first_form.specs.Tables.{is_noted}
use Rattle.first_form.proofs.Params.{params_stand, params_clash}
use Rattle.first_form.proofs.import.check_params.Goals as goal

pub returns-then-contains_any-clause-refused : goal.returns-then-contains_any-clause-refused
returns-then-contains_any-clause-refused c =
    let names : c.deref-2.result.now ≡ map (λ (p : ParamSyntax). p.name.text) (map param_of c.args.params.now) = c.deref-2.ensures ∙ c.in_ok-names.ensures in
    params_clash _ _ (ap (list_any (λ name. is_noted name c.args.items.now)) (sym names) ∙ sym c.contains_any.ensures ∙ c.if-contains_any.true)

pub returns-clause-ok : goal.returns-clause-ok
returns-clause-ok c =
    let names : c.deref-2.result.now ≡ map (λ (p : ParamSyntax). p.name.text) (map param_of c.args.params.now) = c.deref-2.ensures ∙ c.in_ok-names.ensures in
    let noted_names : c.deref.result.now ≡ map (λ (p : ParamSyntax). p.name.text) (map param_of c.args.params.now) = c.deref.ensures ∙ c.in_ok-names.ensures in
    params_stand _ _ (subst (λ x. AllDifferent x) noted_names c.in_ok-table_of.ensures.different)
    (ap (list_any (λ name. is_noted name c.args.items.now)) (sym names) ∙ sym c.contains_any.ensures ∙ c.if-contains_any.false)
