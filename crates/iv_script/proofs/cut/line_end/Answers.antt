use Rattle.std.proofs.Common.{rules, tests}
use Rattle.std.proofs.lemmas.Iterator.{YieldsList-from_slice}
use Rattle.std.proofs.lemmas.Iterator.Search.{position_from_yields_List}
use Rattle.iv_script.specs.ScriptText.{is_line_end}
use Rattle.iv_script.proofs.cut.line_end.Goals as goal

pub returns : goal.returns
returns c = position_from_yields_List is_line_end _ _ _ c.position.ensures.ran (YieldsList-from_slice c.args.text.now cc) (λ x b q k. search (rules, tests))
