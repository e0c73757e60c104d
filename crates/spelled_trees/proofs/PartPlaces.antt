-- Fields, parameters and contracts stand where their tokens stand, and have the form of a tree.
use Rattle.std.proofs.Common.{◌≡◌, ℕ, suc, Bool, Some, ◌++◌}
use Rattle.std.specs.Prelude.{IsTrue}
use Rattle.ivory_lexer.specs.declared.Token.{Token}
use Rattle.ivory_tree.specs.View.{field_of, param_of, contract_of}
use Rattle.ivory_tree.specs.declared.BitField.{BitField}
use Rattle.ivory_tree.specs.declared.AreaField.{AreaField}
use Rattle.ivory_tree.specs.declared.Param.{Param}
use Rattle.ivory_tree.specs.declared.Contract.{Contract}
use Rattle.reading.specs.Row.{Row}
use Rattle.module_grammar.specs.Parts as grammar
use Rattle.module_grammar.specs.Parts.{Symbol, bit_field, struct_field, parameter, contract, Tree, Spells}
use Rattle.ivory_lexer.specs.declared.TokenKind.{TokenKind}
use Rattle.ivory_lexer.specs.declared.TokenKind.TheVariants as kind
use Rattle.ivory_lexer.specs.declared.Key.TheVariants as key
use Rattle.ivory_tree.specs.View.{expr_of}
use Rattle.ivory_tree.specs.Nodes.{bit_field_node, field_node, param_node, contract_node}
use Rattle.ivory_tree.specs.Formed.{FormedBitField, FormedField, FormedParam, FormedContract}
use Rattle.module_grammar.specs.Tokens.{width_of_kind}
use Rattle.spelled_trees.proofs.Order.{always, both, ahead, behind, filled_front, filled_token}
use Rattle.spelled_trees.proofs.Places.{lie_none, lie_behind, lie_then, lies_alone, lies_at, Stands}
use Rattle.spelled_trees.proofs.ExprPlaces.{before, expression_stands}
use Rattle.spelled_trees.proofs.TypePlaces.{type_stands, area_stands}

-- a field that is a truth has one bit
one_bit : (k : TokenKind) (width : ℕ × Bool) → width_of_kind k ≡ Some width → IsTrue width.1 → width.0 ≡ 1
one_bit (kind.Number n) width e is = cc
one_bit (kind.Key key.KwBool) width e is = cc
one_bit _ width e is = cc

abbrev Means : (s : Symbol) → Tree s → Row Token → Type 0
Means bit_field x row = Stands bit_field_node FormedBitField row x
Means struct_field x row = Stands field_node FormedField row (field_of x)
Means parameter x row = Stands param_node FormedParam row (param_of x)
Means contract x row = Stands contract_node FormedContract row (contract_of x)

stand : (s : Symbol) (x : Tree s) (d : ℕ) (row : Row Token) → Spells s x d row → Means s x row
stand s x d row (grammar.bit {width} {f} {g} {h} t u v) = record { lies = lies_at (filled_front f (g ++ h) (filled_token t.1)) lie_none; formed = always (one_bit v.0.token.kind width v.3) }
stand s x d row (grammar.member {a} {f} {g} {h} {i} t u r v) =
    let one = area_stands a d h r in
    record { lies = lies_at (filled_front f (g ++ (h ++ i)) (filled_token t.1)) (lie_behind f (lie_behind g (lie_then one.lies (lie_none {row = i})))); formed = behind f (behind g (ahead i one.formed)) }
stand s x d row (grammar.taken {t = y} {f} {g} {h} t u r) =
    let one = type_stands y d h r in
    record { lies = lies_at (filled_front f (g ++ h) (filled_token t.1)) (lie_behind f (lie_behind g (lies_alone one.lies))); formed = behind f (behind g one.formed) }
stand s x d row (grammar.condition {x = y} {e} {f} {g} {h} t u r v) =
    let one = expression_stands y (suc d) g r in
    let parts = lie_behind f (lie_then one.lies (lie_none {row = h})) in
    record { lies = lies_at (filled_front e (f ++ (g ++ h)) (filled_token t.1)) (lie_behind e parts); formed = both (before e (expr_of y) (filled_token t.1) parts) (behind e (behind f (ahead h one.formed))) }

pub bit_field_stands : (x : BitField) (d : ℕ) (row : Row Token) → Spells bit_field x d row → Stands bit_field_node FormedBitField row x
bit_field_stands x d row r = stand bit_field x d row r

pub struct_field_stands : (x : AreaField) (d : ℕ) (row : Row Token) → Spells struct_field x d row → Stands field_node FormedField row (field_of x)
struct_field_stands x d row r = stand struct_field x d row r

pub parameter_stands : (x : Param) (d : ℕ) (row : Row Token) → Spells parameter x d row → Stands param_node FormedParam row (param_of x)
parameter_stands x d row r = stand parameter x d row r

pub contract_stands : (x : Contract) (d : ℕ) (row : Row Token) → Spells contract x d row → Stands contract_node FormedContract row (contract_of x)
contract_stands x d row r = stand contract x d row r
