use Rattle.std.proofs.Common.{◌+◌, ◌∙◌, refl, true, sym, ap, subst, drop}
use Rattle.c_text.specs.Spelling.{param_text}
use Rattle.c_text.specs.UnitRules.{with_params}
use Rattle.c_scopes.specs.Scope.{names_view}
use Rattle.std.proofs.lemmas.List.{drop_all}
use Rattle.c_scopes.proofs.Rows.{Listing, listing_begins, listing_on, all_listed, next_is}
use Rattle.c_rules.proofs.ParamRows.{param_item, with_param, params_are}
use Rattle.c_rules.proofs.Scopes.{kept_both, stays}
use Rattle.c_scopes.proofs.Walks.{as_demands}
use Rattle.c_rules.proofs.params.check_listed_params.Goals as goal

pub loop-param-init : goal.loop-param-init
loop-param-init c = record { listing = listing_begins param_text param_item with_param c.args.walk.now (names_view c.args.names.now) c.args.params.now; view = refl; kept = stays c.args.names.now }

pub loop-param-preserved : goal.loop-param-preserved
loop-param-preserved c = record {
  listing = subst (λ s. Listing param_text param_item with_param c.args.walk.now c.check_param.new.walk (names_view c.args.names.now) s true c.args.params.now (drop (c.loop-param.param-index + 1) c.args.params.now)) (sym c.in_ok-check_param.ensures.view)
      (listing_on param_text param_item with_param c.args.walk.now (names_view c.args.names.now) (names_view c.loop-param.names) c.loop-param.more c.args.params.now c.loop-param.param-index c.param-item.result c.loop-param-test.true c.param-item.is c.loop-param.invariant.listing c.pass_comma.ensures c.check_param.ensures.walks);
  view = ap (λ s. with_params s (drop (c.loop-param.param-index + 1) c.args.params.now)) c.in_ok-check_param.ensures.view
      ∙ ap (with_params (names_view c.loop-param.names)) (sym (next_is c.args.params.now c.loop-param.param-index c.param-item.result c.loop-param-test.true c.param-item.is)) ∙ c.loop-param.invariant.view;
  kept = kept_both c.args.names.now c.loop-param.names c.check_param.new.names c.loop-param.invariant.kept c.in_ok-check_param.ensures.kept;
}

pub returns-clause-walks : goal.returns-clause-walks
returns-clause-walks c =
    as_demands (params_are (names_view c.args.names.now) c.args.walk.now.at c.args.params.now)
    (all_listed param_text param_item with_param (names_view c.args.names.now) (names_view c.loop-param.names) c.loop-param.more c.args.params.now c.loop-param.param-index c.loop-param-test.false c.loop-param.invariant.listing)

pub returns-clause-view : goal.returns-clause-view
returns-clause-view c = sym (ap (with_params (names_view c.loop-param.names)) (drop_all c.loop-param.param-index c.args.params.now c.loop-param-test.false)) ∙ c.loop-param.invariant.view
