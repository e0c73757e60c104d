-- Small trees: what they say, how many nodes they have, and whether they have the form of a text's tree.
use Rattle.std.specs.Prelude.{◌≡◌, ℕ, pos, [], ◌∷◌, false, codes}
use Rattle.iv_words.specs.declared.Span.{Span}
use Rattle.ivory_tree.specs.Syntax.{RefType, AreaSyntax, StoredArea, ExprSyntax, Literal, Variable, Binary, Field, Element}
use Rattle.ivory_tree.specs.View.{LinkSyntax, FieldStep, IndexStep, chain_from, postfix_from}
use Rattle.ivory_tree.specs.Nodes.{At, Nil, two, expr_node, node_count}
use Rattle.ivory_tree.specs.Names.{expr_names}
use Rattle.ivory_tree.specs.Depth.{expr_depth}
use Rattle.ivory_tree.specs.Formed.{Placed, FormedExpr, FormedArea}
use Rattle.ivory_tree.specs.declared.expr.BinOp.{BinOp}
use Rattle.ivory_tree.specs.declared.expr.BinOp.TheVariants.{OrElse, AndAlso, Add, Sub}
use Rattle.ivory_tree.specs.declared.types.RegionText.TheVariants as region

abbrev pub span : ℕ → ℕ → Span
span start end = record { start = start; end = end }

abbrev pub link : BinOp → Span → ExprSyntax → LinkSyntax
link op at right = record { op = op; at = at; right = right }

-- `1 + 2 - 3`
abbrev pub sum : ExprSyntax
sum = chain_from (span 0 9) (Literal (span 0 1) (pos 1)) (link Add (span 2 3) (Literal (span 4 5) (pos 2)) ∷ link Sub (span 6 7) (Literal (span 8 9) (pos 3)) ∷ [])

-- it is nested to the left, and `1 + 2` is a node
abbrev pub SumNests : Type 0
SumNests = sum ≡ Binary (span 0 9) Sub (span 6 7) (Binary (span 0 5) Add (span 2 3) (Literal (span 0 1) (pos 1)) (Literal (span 4 5) (pos 2))) (Literal (span 8 9) (pos 3))

abbrev pub SumHasFiveNodes : Type 0
SumHasFiveNodes = node_count (expr_node sum) ≡ 5

abbrev pub SumIsFormed : Type 0
SumIsFormed = FormedExpr sum × Placed (expr_node sum)

-- `a.b[1]`, of which `a.b` is a node
abbrev pub part : ExprSyntax
part = postfix_from (span 0 6) (Variable (span 0 1) (codes "a")) (FieldStep (record { text = codes "b"; span = span 2 3 }) ∷ IndexStep (Literal (span 4 5) (pos 1)) (span 3 6) ∷ [])

abbrev pub PartNests : Type 0
PartNests = part ≡ Element (span 0 6) (span 3 6) (Field (span 0 3) (Variable (span 0 1) (codes "a")) (record { text = codes "b"; span = span 2 3 })) (Literal (span 4 5) (pos 1))

abbrev pub PartHasFourNodes : Type 0
PartHasFourNodes = node_count (expr_node part) ≡ 4

abbrev pub PartHasTwoNames : Type 0
PartHasTwoNames = expr_names part ≡ codes "a" ∷ codes "b" ∷ []

-- in `a || b && c` the right operand of `&&` is open within that of `||`
abbrev pub LogicIsTwoDeep : Type 0
LogicIsTwoDeep = expr_depth (Binary (span 0 11) OrElse (span 2 4) (Variable (span 0 1) (codes "a")) (Binary (span 5 11) AndAlso (span 7 9) (Variable (span 5 6) (codes "b")) (Variable (span 10 11) (codes "c")))) ≡ 2

-- in `a && b || c` neither is open within the other
abbrev pub LogicIsOneDeep : Type 0
LogicIsOneDeep = expr_depth (Binary (span 0 11) OrElse (span 7 9) (Binary (span 0 6) AndAlso (span 2 4) (Variable (span 0 1) (codes "a")) (Variable (span 5 6) (codes "b"))) (Variable (span 10 11) (codes "c"))) ≡ 1

-- a chain has a link, and a postfix a step
abbrev pub ChainsHaveLinks : Type 0
ChainsHaveLinks = (s : Span) (first : ExprSyntax) → FormedExpr (chain_from s first []) → ⊥

abbrev pub PostfixesHaveSteps : Type 0
PostfixesHaveSteps = (s : Span) (base : ExprSyntax) → FormedExpr (postfix_from s base []) → ⊥

-- an operator stands between its operands
abbrev pub OperatorsStandBetween : Type 0
OperatorsStandBetween = FormedExpr (Binary (span 0 3) Add (span 3 4) (Literal (span 0 1) (pos 1)) (Literal (span 2 3) (pos 2))) → ⊥

-- no reference is stored
abbrev pub NoStoredReferences : Type 0
NoStoredReferences = (s : Span) (area : AreaSyntax) → FormedArea (StoredArea s (RefType s false region.Global area)) → ⊥

-- nodes side by side do not overlap, lie within the node around them, and are not empty
abbrev pub NoOverlap : Type 0
NoOverlap = Placed (At (span 0 3) (two (At (span 0 2) Nil) (At (span 1 3) Nil))) → ⊥

abbrev pub WithinTheOuter : Type 0
WithinTheOuter = Placed (At (span 0 2) (two (At (span 0 1) Nil) (At (span 1 3) Nil))) → ⊥

abbrev pub NotEmpty : Type 0
NotEmpty = Placed (At (span 2 2) Nil) → ⊥
