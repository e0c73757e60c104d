use Rattle.std.proofs.Common.{◌≡◌, true, false, map, sym, ap, ◌∙◌, subst}
use Rattle.std.specs.List.{list_all}
use Rattle.std.proofs.lemmas.List.{length-map}
use Rattle.ivory_tree.specs.Syntax.{ParamSyntax}
use Rattle.ivory_tree.specs.View.{type_of, param_of}
use Rattle.ivory_tree.specs.declared.Param.{Param}
use Rattle.first_form.specs.Stands.{is_uint8, ParamsStand}
use Rattle.first_form.proofs.Headers.{no_result, all_seen}
use Rattle.first_form.proofs.import.first_header.Goals as goal

pub returns-then-not-are_uint8-clause-refused : goal.returns-then-not-are_uint8-clause-refused
returns-then-not-are_uint8-clause-refused c = λ i s.
    let seen : c.are_uint8.result ≡ list_all (λ (p : Param). is_uint8 (type_of p.ty)) c.args.header.now.params = c.are_uint8.ensures ∙ ap (list_all (λ (p : Param). is_uint8 (type_of p.ty))) c.deref.ensures in
    let no : false ≡ true = sym c.if-not-are_uint8.true ∙ seen ∙ sym (all_seen c.args.header.now.params) ∙ s.uint8s in
    absurd (cc)

pub returns-clause-ok : goal.returns-clause-ok
returns-clause-ok c =
    let seen : c.are_uint8.result ≡ list_all (λ (p : Param). is_uint8 (type_of p.ty)) c.args.header.now.params = c.are_uint8.ensures ∙ ap (list_all (λ (p : Param). is_uint8 (type_of p.ty))) c.deref.ensures in
    record {
      result = no_result _ (sym c.is_some.ensures ∙ c.if-is_some.false);
      uint8s = all_seen c.args.header.now.params ∙ sym seen ∙ c.if-not-are_uint8.false;
      params = subst (λ ps. ParamsStand c.args.items.now (map (λ (p : ParamSyntax). p.name.text) (map param_of ps))) c.deref-2.ensures c.in_ok-check_params.ensures.ok;
      named = c.in_ok-name.ensures;
      counted = c.len.ensures ∙ sym (length-map c.args.header.now.params param_of);
    }
