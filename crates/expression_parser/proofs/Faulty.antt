-- A fault within a level of a chain is the chain's.
use Rattle.std.proofs.Common.{◌≡◌, ℕ, suc, List}
use Rattle.ivory_lexer.specs.declared.Token.{Token}
use Rattle.ivory_tree.specs.declared.Expr.{Expr}
use Rattle.reading.specs.Reader.{Outcome, Reader}
use Rattle.expression_grammar.specs.FlatChain.{linked}
use Rattle.expression_grammar.proofs.FlatChain.{Climbs, climbs_unexpected, climbs_too_deep}
use Rattle.expression_parser.specs.Gives.{Faults}
use Rattle.expression_parser.specs.declared.fault.Fault.{Fault}
use Rattle.expression_parser.specs.declared.fault.Fault.TheVariants as fault

pub climbs_fault : {wanted : Outcome Token Expr} {operand : Reader Token Expr} {from : List Token} {left at : ℕ} {x : Expr} {rest : List Token} (e : Fault) (k : ℕ)
    → Climbs wanted operand from left at x rest → left ≡ suc k → Faults e (linked at operand from x rest) → Faults e wanted
climbs_fault fault.Memory k c e f = tt
climbs_fault (fault.Unexpected r) k c e f = climbs_unexpected c k r.now e f
climbs_fault (fault.TooDeep r) k c e f = climbs_too_deep c k r.now e f
