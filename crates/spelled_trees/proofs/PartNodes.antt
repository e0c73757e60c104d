-- Fields, parameters and contracts have at most two nodes for each token.
use Rattle.std.proofs.Common.{ℕ, suc, arith}
use Rattle.ivory_lexer.specs.declared.Token.{Token}
use Rattle.ivory_tree.specs.View.{field_of, param_of, contract_of}
use Rattle.ivory_tree.specs.declared.BitField.{BitField}
use Rattle.ivory_tree.specs.declared.AreaField.{AreaField}
use Rattle.ivory_tree.specs.declared.Param.{Param}
use Rattle.ivory_tree.specs.declared.Contract.{Contract}
use Rattle.reading.specs.Row.{Row}
use Rattle.module_grammar.specs.Parts as grammar
use Rattle.module_grammar.specs.Parts.{Symbol, bit_field, struct_field, parameter, contract, Tree, Spells}
use Rattle.ivory_tree.specs.Nodes.{bit_field_node, field_node, param_node, contract_node}
use Rattle.spelled_trees.proofs.Sizes.{both_long, one_long, Few}
use Rattle.spelled_trees.proofs.ExprNodes.{few_expression}
use Rattle.spelled_trees.proofs.TypeNodes.{few_type, few_area}

abbrev Means : (s : Symbol) → Tree s → Row Token → Type 0
Means bit_field x row = Few row (bit_field_node x)
Means struct_field x row = Few row (field_node (field_of x))
Means parameter x row = Few row (param_node (param_of x))
Means contract x row = Few row (contract_node (contract_of x))

few : (s : Symbol) (x : Tree s) (d : ℕ) (row : Row Token) → Spells s x d row → Means s x row
few s x d row (grammar.bit t u v) = record { count = omega (arith, one_long t.1, both_long) }
few s x d row (grammar.member {a} {h} t u r v) = record { count = omega (arith, one_long t.1, (few_area a d h r).count, both_long) }
few s x d row (grammar.taken {t = y} {h} t u r) = record { count = omega (arith, one_long t.1, (few_type y d h r).count, both_long) }
few s x d row (grammar.condition {x = y} {g} t u r v) = record { count = omega (arith, one_long t.1, (few_expression y (suc d) g r).count, both_long) }

pub few_bit_field : (x : BitField) (d : ℕ) (row : Row Token) → Spells bit_field x d row → Few row (bit_field_node x)
few_bit_field x d row r = few bit_field x d row r

pub few_struct_field : (x : AreaField) (d : ℕ) (row : Row Token) → Spells struct_field x d row → Few row (field_node (field_of x))
few_struct_field x d row r = few struct_field x d row r

pub few_parameter : (x : Param) (d : ℕ) (row : Row Token) → Spells parameter x d row → Few row (param_node (param_of x))
few_parameter x d row r = few parameter x d row r

pub few_contract : (x : Contract) (d : ℕ) (row : Row Token) → Spells contract x d row → Few row (contract_node (contract_of x))
few_contract x d row r = few contract x d row r
