-- The nodes of a tree, each of its parts and the tokens that spell it.
use Rattle.std.proofs.Common.{ℕ, pos, neg_ℤ, Bool, List, Option}
use Rattle.iv_words.specs.declared.Span.{Span}
use Rattle.iv_words.specs.declared.Name.{Name}
use Rattle.iv_words.specs.declared.IntKind.{IntKind}
use Rattle.ivory_lexer.specs.declared.Token.{Token}
use Rattle.ivory_tree.specs.Syntax.{Word}
use Rattle.ivory_tree.specs.declared.PrefixOp.{PrefixOp}
use Rattle.ivory_tree.specs.declared.PrefixOp.TheVariants as op
use Rattle.ivory_tree.specs.declared.Expr.{Expr}
use Rattle.ivory_tree.specs.declared.Link.{Link}
use Rattle.ivory_tree.specs.declared.Step.{Step}
use Rattle.expression_grammar.specs.Tokens.{span_of}
use Rattle.expression_grammar.specs.Trees as tree

abbrev pub number_node : ℕ → List Token → Expr
number_node n ts = tree.literal (pos n) (span_of ts)

abbrev pub negative_node : ℕ → List Token → Expr
negative_node n ts = tree.literal (neg_ℤ (pos n)) (span_of ts)

abbrev pub truth_node : Bool → List Token → Expr
truth_node b ts = tree.truth b (span_of ts)

abbrev pub outcome_node : Span → List Token → Expr
outcome_node at ts = tree.outcome (span_of ts)

abbrev pub variable_node : Word → List Token → Expr
variable_node w ts = tree.variable w (span_of ts)

abbrev pub cast_node : IntKind × Expr → List Token → Expr
cast_node p ts = tree.cast p.0 p.1 (span_of ts)

abbrev pub to_index_node : ℕ × Expr → List Token → Expr
to_index_node p ts = tree.to_index p.0 p.1 (span_of ts)

abbrev pub wrap_index_node : ℕ × Expr → List Token → Expr
wrap_index_node p ts = tree.wrap_index p.0 p.1 (span_of ts)

abbrev pub make_bits_node : Word × Expr → List Token → Expr
make_bits_node p ts = tree.make_bits p.0 p.1 (span_of ts)

abbrev pub raw_node : Expr → List Token → Expr
raw_node x ts = tree.raw x (span_of ts)

abbrev pub set_field_node : Expr × (Name × Expr) → List Token → Expr
set_field_node p ts = tree.set_field p.0 p.1.0 p.1.1 (span_of ts)

abbrev pub element_node : Expr → List Token → Step
element_node x ts = tree.index x (span_of ts)

abbrev pub steps_node : Expr × List Step → List Token → Expr
steps_node p ts = tree.with_steps p.0 p.1 (span_of ts)

abbrev pub negated_node : Expr → List Token → Expr
negated_node x ts = tree.prefixed_by op.Neg x (span_of ts)

abbrev pub prefixed_node : PrefixOp × Expr → List Token → Expr
prefixed_node p ts = tree.prefixed_by p.0 p.1 (span_of ts)

abbrev pub links_node : Expr × List Link → List Token → Expr
links_node p ts = tree.with_links p.0 p.1 (span_of ts)

abbrev pub arms_node : Expr × Option (Expr × Expr) → List Token → Expr
arms_node p ts = tree.with_arms p.0 p.1 (span_of ts)
