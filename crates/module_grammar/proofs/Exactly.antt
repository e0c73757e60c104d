-- A text that is a module is read exactly, and has one tree; what this says of a parser's answers.
use Rattle.std.proofs.Common.{◌≡◌, ℕ, ◌≤◌, List, length, sym, ◌∙◌, arith, Option, Some, None}
use Rattle.ivory_lexer.specs.declared.Token.{Token}
use Rattle.ivory_tree.specs.declared.Module.{Module}
use Rattle.reading.specs.Reader.{whole}
use Rattle.reading.specs.Exact.{Answer, Tree, UnexpectedToken, DeepToken, Exact}
use Rattle.reading.proofs.Exactness.{left, exact, one_value, whole_within}
use Rattle.expression_grammar.specs.Tokens.{signs}
use Rattle.module_grammar.specs.Modules.{Text}
use Rattle.module_grammar.specs.ItemReader.{module_}
use Rattle.module_grammar.specs.Parse.{levels, parse, OneTree, Answers, Found, Only, Unexpected, OnlyUnexpected, Deep, OnlyDeep}
use Rattle.module_grammar.proofs.GoodItems.{good_module}

pub parse_exact : (limit : ℕ) → Exact signs limit Text (parse limit)
parse_exact limit = exact (good_module limit limit 0 (omega arith))

pub one_module : OneTree
one_module = λ x y ts. one_value Text parse parse_exact x y ts

-- for the place of a fault
pub rest_within : (limit : ℕ) (ts rest : List Token) → left (whole (module_ limit) ts) ≡ rest → length rest ≤ length ts
rest_within limit ts rest e = whole_within (good_module limit limit 0 (omega arith)) ts rest e

-- ---- an answer that is the reader's, or none for want of memory

module _ (ts : List Token) where
  pub found : (a : Option (Answer Module)) → Answers a (parse levels ts) → Found ts a
  found (Some (Tree x)) h = (parse_exact levels).found ts x (sym h)
  found (Some (UnexpectedToken i)) h = tt
  found (Some (DeepToken i)) h = tt
  found None h = tt

  pub unexpected : (a : Option (Answer Module)) → Answers a (parse levels ts) → Unexpected ts a
  unexpected (Some (Tree x)) h = tt
  unexpected (Some (UnexpectedToken i)) h = (parse_exact levels).unexpected ts i (sym h)
  unexpected (Some (DeepToken i)) h = tt
  unexpected None h = tt

  pub too_deep : (a : Option (Answer Module)) → Answers a (parse levels ts) → Deep ts a
  too_deep (Some (Tree x)) h = tt
  too_deep (Some (UnexpectedToken i)) h = tt
  too_deep (Some (DeepToken i)) h = (parse_exact levels).too_deep ts i (sym h)
  too_deep None h = tt

  -- the answer that the reader gives is the only one
  answered : (a : Option (Answer Module)) (wanted : Answer Module) → Answers a (parse levels ts) → parse levels ts ≡ wanted → Answers a wanted
  answered (Some a) wanted h e = h ∙ e
  answered None wanted h e = tt

  pub only : (a : Option (Answer Module)) → Answers a (parse levels ts) → Only ts a
  only a h = λ x spelled. answered a (Tree x) h ((parse_exact levels).only ts x spelled)

  pub only_unexpected : (a : Option (Answer Module)) → Answers a (parse levels ts) → OnlyUnexpected ts a
  only_unexpected a h = λ i at none. answered a (UnexpectedToken i) h ((parse_exact levels).only_unexpected ts i at none)

  pub only_deep : (a : Option (Answer Module)) → Answers a (parse levels ts) → OnlyDeep ts a
  only_deep a h = λ i at. answered a (DeepToken i) h ((parse_exact levels).only_deep ts i at)
