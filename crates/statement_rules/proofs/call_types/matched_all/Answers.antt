use Rattle.std.proofs.Common.{map, ◌∙◌}
use Rattle.std.specs.Prelude.{option_map}
use Rattle.area_types.specs.View.{type_of}
use Rattle.rule_checker.specs.Arguments.{passed_at}
use Rattle.rule_checker.specs.Contexts.{context_of}
use Rattle.statement_rules.proofs.Passed.{all_matched}
use Rattle.statement_rules.proofs.call_types.matched_all.Goals as goal

pub returns : goal.returns
returns c =
    all_matched (context_of c.args.context.now) (map passed_at c.loop-arg.before) (map (option_map type_of) c.loop-arg.rest.now) c.args.args.now c.loop-arg.arg-index c.loop-arg-test.false
    ∙ c.loop-arg.invariant
