-- Each name in a field, a parameter or a contract is the word of a name among its tokens.
use Rattle.std.proofs.Common.{ℕ, suc, ◌++◌}
use Rattle.ivory_lexer.specs.declared.Token.{Token}
use Rattle.ivory_tree.specs.View.{field_of, param_of, contract_of}
use Rattle.ivory_tree.specs.declared.BitField.{BitField}
use Rattle.ivory_tree.specs.declared.AreaField.{AreaField}
use Rattle.ivory_tree.specs.declared.Param.{Param}
use Rattle.ivory_tree.specs.declared.Contract.{Contract}
use Rattle.reading.specs.Row.{Row}
use Rattle.module_grammar.specs.Parts as grammar
use Rattle.module_grammar.specs.Parts.{Symbol, bit_field, struct_field, parameter, contract, Tree, Spells}
use Rattle.ivory_lexer.specs.declared.TokenKind.{TokenKind}
use Rattle.ivory_tree.specs.Names.{bit_field_names, field_names, param_names, contract_names}
use Rattle.spelled_trees.proofs.Words.{Told, told_ahead, told_behind, told_then, told_name}
use Rattle.spelled_trees.proofs.ExprNames.{expression_tells}
use Rattle.spelled_trees.proofs.TypeNames.{type_tells, area_tells}

module _ (P : TokenKind → Type 0) where
  abbrev Means : (s : Symbol) → Tree s → Row Token → Type 0
  Means bit_field x row = Told P row (bit_field_names x)
  Means struct_field x row = Told P row (field_names (field_of x))
  Means parameter x row = Told P row (param_names (param_of x))
  Means contract x row = Told P row (contract_names (contract_of x))

  tell : (s : Symbol) (x : Tree s) (d : ℕ) (row : Row Token) → Spells s x d row → Means s x row
  tell s x d row (grammar.bit {f} {g} {h} t u v) = told_ahead (g ++ h) (told_name t.1 t.3)
  tell s x d row (grammar.member {a} {f} {g} {h} {i} t u r v) = told_then (told_ahead (g ++ (h ++ i)) (told_name t.1 t.3)) (told_behind f (told_behind g (told_ahead i (area_tells P a d h r))))
  tell s x d row (grammar.taken {t = y} {f} {g} {h} t u r) = told_then (told_ahead (g ++ h) (told_name t.1 t.3)) (told_behind f (told_behind g (type_tells P y d h r)))
  tell s x d row (grammar.condition {x = y} {e} {f} {g} {h} t u r v) = told_behind e (told_behind f (told_ahead h (expression_tells P y (suc d) g r)))

  pub bit_field_tells : (x : BitField) (d : ℕ) (row : Row Token) → Spells bit_field x d row → Told P row (bit_field_names x)
  bit_field_tells x d row r = tell bit_field x d row r

  pub struct_field_tells : (x : AreaField) (d : ℕ) (row : Row Token) → Spells struct_field x d row → Told P row (field_names (field_of x))
  struct_field_tells x d row r = tell struct_field x d row r

  pub parameter_tells : (x : Param) (d : ℕ) (row : Row Token) → Spells parameter x d row → Told P row (param_names (param_of x))
  parameter_tells x d row r = tell parameter x d row r

  pub contract_tells : (x : Contract) (d : ℕ) (row : Row Token) → Spells contract x d row → Told P row (contract_names (contract_of x))
  contract_tells x d row r = tell contract x d row r
