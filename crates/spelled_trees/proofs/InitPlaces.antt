-- Initializers stand where their tokens stand, and have the form of a tree.
use Rattle.std.proofs.Common.{ℕ, suc, ◌<◌, ◌≤◌, List, [], ◌∷◌, ◌++◌, Option, sym, subst, arith}
use Rattle.std.specs.Option.{option_map}
use Rattle.ivory_lexer.specs.declared.Token.{Token}
use Rattle.ivory_tree.specs.Syntax as syntax
use Rattle.ivory_tree.specs.View.{init_of, inits_of, expr_of}
use Rattle.ivory_tree.specs.declared.InitText.{InitText}
use Rattle.ivory_tree.proofs.View.{one_is, many_is}
use Rattle.reading.specs.Row.{Row, tokens}
use Rattle.expression_grammar.specs.Tokens.{span_of}
use Rattle.module_grammar.specs.Pieces.{FirstValue}
use Rattle.module_grammar.specs.Inits as grammar
use Rattle.module_grammar.specs.Inits.{Symbol, init, further, Tree, Spells}
use Rattle.ivory_tree.specs.Syntax.{ExprSyntax, InitSyntax}
use Rattle.ivory_tree.specs.Places.{expr_span}
use Rattle.ivory_tree.specs.Nodes.{expr_node, init_node, init_nodes}
use Rattle.ivory_tree.specs.Formed.{FormedInit, FormedInits}
use Rattle.spelled_trees.proofs.Order.{Where, always, both, ahead, behind, filled_front, filled_token}
use Rattle.spelled_trees.proofs.Places.{Inside, not_empty, no_nodes, one_more, node_inside, AllLie, lie_none, lie_behind, lie_ahead, lie_then, lies_at, Stands}
use Rattle.spelled_trees.proofs.ListPlaces.{OptionStands, optional_stands, after_stands}
use Rattle.spelled_trees.proofs.ExprPlaces.{place_of_node, expression_stands}

record InitsStand (row : Row Token) (is : List InitText) : Type 0 where
  lie : AllLie row (init_nodes (inits_of is))
  formed : Where row (FormedInits (inits_of is))

-- an initializer of one value stands where its expression does
same_place : {low high : ℕ} (e : ExprSyntax) → Inside low high (expr_node e) → Inside low high (init_node (syntax.One e))
same_place {low} {high} e i =
    let some = not_empty (expr_node e) i.placed in
    let inner : Inside (expr_span e).start (expr_span e).end (expr_node e) =
    subst (λ p. Inside p.start p.end (expr_node e)) (place_of_node e) (record { begins = omega arith; placed = i.placed; ends = omega arith }) in
    node_inside (subst (λ p. low ≤ p.start) (place_of_node e) i.begins) (subst (λ p. p.start < p.end) (place_of_node e) some) (subst (λ p. p.end ≤ high) (place_of_node e) i.ends) (one_more inner (no_nodes (omega arith)))

abbrev Means : (s : Symbol) → Tree s → Row Token → Type 0
Means init i row = Stands init_node FormedInit row (init_of i)
Means further is row = InitsStand row is

stand : (s : Symbol) (x : Tree s) (d : ℕ) (row : Row Token) → Spells s x d row → Means s x row
stand s x d row grammar.none = record { lie = lie_none; formed = always tt }
stand s x d row (grammar.more {x = y} {xs} {f} {g} {h} t r rs) =
    let one = stand init y d g r in
    let more = stand further xs d h rs in
    record { lie = lie_behind f (lie_then one.lies more.lie); formed = both (behind f (ahead h one.formed)) (behind f (behind g more.formed)) }
stand s x d row (grammar.one {x = e} r) =
    let inner = expression_stands e d row r in
    subst (Stands init_node FormedInit row) (sym (one_is e)) (record { lies = record { inside = λ o. same_place (expr_of e) (inner.lies.inside o) }; formed = inner.formed })
stand s x d row (grammar.empty {f} {g} t u) =
    subst (Stands init_node FormedInit row) (sym (many_is [] (span_of (tokens row)))) (record { lies = lies_at (filled_front f g (filled_token t.1)) lie_none; formed = always tt })
stand s x d row (grammar.listed {x = y} {xs} {f} {g} {h} {i} t r rs u) =
    let one = stand init y (suc d) g r in
    let more = stand further xs (suc d) h rs in
    subst (Stands init_node FormedInit row) (sym (many_is (y ∷ xs) (span_of (tokens row)))) (record {
      lies = lies_at (filled_front f (g ++ (h ++ i)) (filled_token t.1)) (lie_behind f (lie_then one.lies (lie_ahead i more.lie)));
      formed = both (behind f (ahead (h ++ i) one.formed)) (behind f (behind g (ahead i more.formed)));
    })

pub init_stands : (i : InitText) (d : ℕ) (row : Row Token) → Spells init i d row → Stands init_node FormedInit row (init_of i)
init_stands i d row r = stand init i d row r

-- an initializer that may be absent
pub first_stands : (o : Option InitText) (d : ℕ) (row : Row Token) → FirstValue d o row → OptionStands init_node FormedInit row (option_map init_of o)
first_stands o d row r = optional_stands init_node FormedInit init_of (λ i y a. after_stands init_node FormedInit init_of (λ j z b. init_stands j d z b) i y a) o row r
