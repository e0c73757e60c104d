-- What holds of every module that tokens spell.
use Rattle.std.proofs.Common.{◌≡◌, ℕ, ◌+◌, ◌*◌, ◌≤◌, List, [], ◌∷◌, ◌++◌, length, map, sym, ap, subst, arith}
use Rattle.std.specs.Prelude.{All}
use Rattle.ivory_lexer.specs.declared.Token.{Token}
use Rattle.ivory_lexer.specs.Tokens.{IsKind, IsName, InOrder}
use Rattle.ivory_tree.specs.Nodes.{item_node, module_nodes, nodes_count}
use Rattle.ivory_tree.specs.Formed.{Formed, FormedItem}
use Rattle.ivory_tree.specs.Names.{item_names, module_names}
use Rattle.ivory_tree.specs.Depth.{item_depth, module_depth}
use Rattle.ivory_tree.specs.TextLike.{TextLike}
use Rattle.ivory_tree.specs.View.{item_of, module_of}
use Rattle.ivory_tree.specs.declared.Module.{Module}
use Rattle.reading.specs.Row.{Row, tokens}
use Rattle.reading.specs.Exact.{Spelled, SpelledWithin}
use Rattle.module_grammar.specs.Items as items
use Rattle.module_grammar.specs.Modules as grammar
use Rattle.module_grammar.specs.Modules.{Symbol, module_, Tree, Spells, Text}
use Rattle.module_grammar.specs.Parse.{levels}
use Rattle.spelled_trees.specs.Trees.{FewNodes, OfTokens}
use Rattle.spelled_trees.proofs.Order.{Ordered, Where, behind}
use Rattle.spelled_trees.proofs.Places.{AllLie, lie_behind}
use Rattle.spelled_trees.proofs.Sizes.{both_long, AllFew}
use Rattle.spelled_trees.proofs.Words.{Each, Told, told_ahead, told_behind, told_then, told_name}
use Rattle.spelled_trees.proofs.Nesting.{AtMost, deep_behind}
use Rattle.spelled_trees.proofs.Lists.{of_many}
use Rattle.spelled_trees.proofs.ListPlaces.{places_listed}
use Rattle.spelled_trees.proofs.ListNodes.{few_listed}
use Rattle.spelled_trees.proofs.ListNames.{names_listed}
use Rattle.spelled_trees.proofs.ListDepth.{depth_listed}
use Rattle.spelled_trees.proofs.ItemPlaces.{item_stands}
use Rattle.spelled_trees.proofs.ItemNodes.{few_item}
use Rattle.spelled_trees.proofs.ItemNames.{item_tells}
use Rattle.spelled_trees.proofs.ItemDepth.{item_deep}

record Stood (m : Module) (row : Row Token) : Type 0 where
  lie : AllLie row (module_nodes (module_of m))
  formed : Where row (All FormedItem (map item_of m.items))

abbrev SeenPlaces : (s : Symbol) → Tree s → Row Token → Type 0
SeenPlaces module_ m row = Stood m row

stand : (s : Symbol) (x : Tree s) (d : ℕ) (row : Row Token) → Spells s x d row → SeenPlaces s x row
stand s x d row (grammar.whole xs h {e} {f} {g} t u v r) =
    let all = of_many (places_listed item_node FormedItem item_of) (items.Rule items.item d) (λ y z a. item_stands y d z a) xs h r in
    record { lie = lie_behind e (lie_behind f (lie_behind g all.lie)); formed = behind e (behind f (behind g all.formed)) }

abbrev SeenNodes : (s : Symbol) → Tree s → Row Token → Type 0
SeenNodes module_ m row = AllFew row (module_nodes (module_of m))

few : (s : Symbol) (x : Tree s) (d : ℕ) (row : Row Token) → Spells s x d row → SeenNodes s x row
few s x d row (grammar.whole xs h t u v r) =
    let all = of_many (few_listed item_node item_of) (items.Rule items.item d) (λ y z a. few_item y d z a) xs h r in
    record { count = omega (arith, all.count, both_long) }

abbrev SeenNames : (s : Symbol) → Tree s → Row Token → Type 0
SeenNames module_ m row = Told IsKind row (module_names (module_of m))

tell : (s : Symbol) (x : Tree s) (d : ℕ) (row : Row Token) → Spells s x d row → SeenNames s x row
tell s x d row (grammar.whole xs h {e} {f} {g} t u v r) =
    let all = of_many (names_listed IsKind item_names item_of) (items.Rule items.item d) (λ y z a. item_tells IsKind y d z a) xs h r in
    told_behind e (told_then (told_ahead (g ++ h) (told_name u.1 u.3)) (told_behind f (told_behind g all)))

abbrev SeenDepth : (s : Symbol) → Tree s → ℕ → Row Token → Type 0
SeenDepth module_ m d row = AtMost d row (module_depth (module_of m)) 2

deep : (s : Symbol) (x : Tree s) (d : ℕ) (row : Row Token) → Spells s x d row → SeenDepth s x d row
deep s x d row (grammar.whole xs h {e} {f} {g} t u v r) =
    deep_behind e (deep_behind f (deep_behind g (of_many (depth_listed d 2 item_depth item_of) (items.Rule items.item d) (λ y z a. item_deep y d z a) xs h r)))

-- each token of a text has the kind of one of the table
each_kind : (row : Row Token) (low high : ℕ) → InOrder low (tokens row) high → Each IsKind row
each_kind [] low high o = tt
each_kind (m ∷ row) low high o = (o.2, each_kind row m.token.span.end high o.3)

pub formed : (ts : List Token) (high : ℕ) (m : Module) → InOrder 0 ts high → Spelled Text m ts → Formed (module_of m)
formed ts high m o (row, r, e) =
    let ordered : Ordered 0 row high = record { in_order = subst (λ ts. InOrder 0 ts high) (sym e) o } in
    let stood = stand module_ m 0 row r in
    record { items = stood.formed.holds ordered; places = (stood.lie.inside ordered).placed }

tokens_long : (row : Row Token) → length (tokens row) ≡ length row
tokens_long [] = omega arith
tokens_long (m ∷ row) = omega (arith, tokens_long row)

-- two nodes for each token are enough
pub two_nodes : (ts : List Token) (m : Module) → Spelled Text m ts → nodes_count (module_nodes (module_of m)) ≤ 2 * length ts
two_nodes ts m (row, r, e) = omega (arith, (few module_ m 0 row r).count, ap length e, tokens_long row)

pub few_nodes : (ts : List Token) (m : Module) → Spelled Text m ts → FewNodes (module_of m) ts
few_nodes ts m s = omega (arith, two_nodes ts m s)

-- three for each level, and two more
pub depth_within : (limit : ℕ) (ts : List Token) (m : Module) → SpelledWithin Text limit m ts → module_depth (module_of m) ≤ 3 * limit + 2
depth_within limit ts m (row, r, s, e) = omega (arith, (deep module_ m 0 row r).bound limit s (omega arith))

pub text_like : (ts : List Token) (high : ℕ) (m : Module) → InOrder 0 ts high → SpelledWithin Text levels m ts → TextLike IsName (module_of m)
text_like ts high m o (row, r, s, e) =
    let each = each_kind row 0 high (subst (λ ts. InOrder 0 ts high) (sym e) o) in
    record { names = (tell module_ m 0 row r).all each; shallow = depth_within levels ts m (row, r, s, e) }

pub of_tokens : (ts : List Token) (high : ℕ) (m : Module) → InOrder 0 ts high → SpelledWithin Text levels m ts → OfTokens ts (module_of m)
of_tokens ts high m o (row, r, s, e) =
    record { formed = formed ts high m o (row, r, e); few_nodes = few_nodes ts m (row, r, e); text_like = text_like ts high m o (row, r, s, e) }
