use Rattle.std.proofs.Common.{List, slice_get, map, Result, Err, IfErr, sym, ap, subst, ◌∙◌}
use Rattle.std.proofs.lemmas.Result.{err_from_is_err_and}
use Rattle.area_types.specs.View.{type_of}
use Rattle.area_types.specs.declared.region.Region.{Region}
use Rattle.region_check.specs.Calls.{reference_of, call}
use Rattle.region_check.specs.Faults.{IsFaultOf, Refused}
use Rattle.region_check.specs.declared.fault.RegionFault.{RegionFault}
use Rattle.region_check.proofs.SoFar.{so_far_more, all_found, faulty}
use Rattle.region_check.proofs.matching.match_all.Goals as goal

pub returns-in_err-match_argument-clause-err : goal.returns-in_err-match_argument-clause-err
returns-in_err-match_argument-clause-err c =
    let p = err_from_is_err_and c.from_residual.result c.from_residual.ensures.1 in
    let fault = c.in_err-match_argument.field-0.0 in
    subst (λ (r : Result (List Region) RegionFault). IfErr r (λ f. Refused (call (map type_of c.args.params.now) (map type_of c.args.args.now)) f))
    (sym (p.1 ∙ ap Err p.2))
    (faulty c.args.params.now c.args.args.now c.loop-i.i c.index-params-i.result c.index-args-i.result c.loop-i.subst fault c.loop-i.invariant c.loop-i-test.true c.requires.equal c.index-params-i.is c.index-args-i.is
    (subst (λ n. IsFaultOf n (slice_get c.loop-i.subst) (reference_of (type_of c.index-params-i.result)) (reference_of (type_of c.index-args-i.result)) fault) c.argument_number.ensures c.in_err-match_argument.ensures.err))

pub loop-i-preserved : goal.loop-i-preserved
loop-i-preserved c =
    so_far_more c.args.params.now c.args.args.now c.loop-i.i c.index-params-i.result c.index-args-i.result c.loop-i.subst c.match_argument.new.subst c.loop-i.invariant c.loop-i-test.true c.requires.equal c.index-params-i.is c.index-args-i.is
    c.in_ok-match_argument.ensures.ok c.in_ok-match_argument.ensures.learns

pub returns-clause-ok : goal.returns-clause-ok
returns-clause-ok c = all_found c.args.params.now c.args.args.now c.loop-i.i c.loop-i.subst c.loop-i.invariant c.loop-i-test.false c.requires.equal
