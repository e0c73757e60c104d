-- The row of nodes of a type, an area, an expression, a call or an initializer has the places of its tree.
use Rattle.std.proofs.Common.{◌≡◌, ℕ, ◌+◌, Bool, List, [], ◌∷◌, ◌++◌, map, refl, sym, ap, ap₂, ◌∙◌}
use Rattle.std.specs.Prelude.{Option}
use Rattle.std.proofs.lemmas.List.{append-nil, append_assoc, map-append}
use Rattle.ivory_tree.specs.Syntax.{Word, TypeSyntax, TruthType, IntType, IndexType, BitsType, RefType, AreaSyntax, StoredArea, ArrayArea, StructArea, ExprSyntax, Literal, Truth, Outcome, Variable, Cast, ToIndex, WrapIndex, MakeBits, Raw, SetField, Prefix, Binary, Field, Element, Cond, Bare, InitSyntax, One, Many, InitsSyntax, NoInits, MoreInits, CallSyntax}
use Rattle.ivory_tree.specs.Nodes as tree
use Rattle.ivory_tree.specs.Nodes.{At, Nodes, Nil, Cons, one, joined, nodes_from, type_node, area_node, expr_node, init_node, init_nodes, call_node}
use Rattle.area_types.specs.Syntax as types
use Rattle.area_types.specs.Syntax.{ValueType, Area}
use Rattle.region_check.specs.Calls.{Passed}
use Rattle.source_types.specs.Environments.{Earlier, callee_named}
use Rattle.rule_faults.specs.Contexts.{Context}
use Rattle.rule_faults.specs.Wants.{Want, Nothing, Wants, of_operand, of_arm, beside, of_cast, of_word, of_new_value, of_index, of_argument}
use Rattle.rule_faults.specs.Nodes.{Use, Within, Node, span_of}
use Rattle.rule_faults.specs.ExpressionRows.{type_row, area_row, expr_row, matched, params_of, args_row, call_row, of_cell, place_in, init_row, inits_row}
use Rattle.node_order.proofs.Placed.{spans, spans_in}

pub record Shows (row : List Node) (n : tree.Node) : Type 0 where
  pub same : map span_of row ≡ spans n

pub record ShowsAll (row : List Node) (ns : Nodes) : Type 0 where
  pub same : map span_of row ≡ spans_in ns

-- ---- rows of rows

pub none : ShowsAll [] Nil
none = record { same = refl }

pub more : {xs ys : List Node} {n : tree.Node} {ns : Nodes} → Shows xs n → ShowsAll ys ns → ShowsAll (xs ++ ys) (Cons n ns)
more {xs} {ys} {n} {ns} first rest = record { same = map-append span_of xs ys ∙ ap₂ (λ a b. a ++ b) first.same rest.same }

pub last : {xs : List Node} {n : tree.Node} → Shows xs n → ShowsAll xs (one n)
last {xs} {n} it = record { same = it.same ∙ sym (append-nil (spans n)) }

pub under : {x : Node} {xs : List Node} {ns : Nodes} → ShowsAll xs ns → Shows (x ∷ xs) (At (span_of x) ns)
under {x} {xs} {ns} within = record { same = ap (λ ss. span_of x ∷ ss) within.same }

spans_joined : (ns ms : Nodes) → spans_in (joined ns ms) ≡ spans_in ns ++ spans_in ms
spans_joined Nil ms = refl
spans_joined (Cons n ns) ms = ap (λ ss. spans n ++ ss) (spans_joined ns ms) ∙ sym (append_assoc (spans n) (spans_in ns) (spans_in ms))

pub both : {xs ys : List Node} {ns ms : Nodes} → ShowsAll xs ns → ShowsAll ys ms → ShowsAll (xs ++ ys) (joined ns ms)
both {xs} {ys} {ns} {ms} first second = record { same = map-append span_of xs ys ∙ ap₂ (λ a b. a ++ b) first.same second.same ∙ sym (spans_joined ns ms) }

-- ---- types and areas

mutual
  pub type_shown : (earlier : Earlier) (regions : List Word) (place : Use) (t : TypeSyntax) → Shows (type_row earlier regions place t) (type_node t)
  type_shown earlier regions place (TruthType s) = under none
  type_shown earlier regions place (IntType s kind) = under none
  type_shown earlier regions place (IndexType s n) = under none
  type_shown earlier regions place (BitsType s name) = under none
  type_shown earlier regions place (RefType s constant region area) = under (last (area_shown earlier area))

  pub area_shown : (earlier : Earlier) (a : AreaSyntax) → Shows (area_row earlier a) (area_node a)
  area_shown earlier (StoredArea s ty) = under (last (type_shown earlier [] Within ty))
  area_shown earlier (ArrayArea s n element) = under (last (area_shown earlier element))
  area_shown earlier (StructArea s name) = under none

-- ---- expressions

pub expr_shown : (context : Context) (want : Want) (e : ExprSyntax) → Shows (expr_row context want e) (expr_node e)
expr_shown context want (Literal s value) = under none
expr_shown context want (Truth s value) = under none
expr_shown context want (Outcome s) = under none
expr_shown context want (Variable s name) = under none
expr_shown context want (Cast s kind e) = under (last (expr_shown context (of_cast kind e) e))
expr_shown context want (ToIndex s n e) = under (last (expr_shown context Nothing e))
expr_shown context want (WrapIndex s n e) = under (last (expr_shown context Nothing e))
expr_shown context want (MakeBits s name e) = under (last (expr_shown context (of_word context name) e))
expr_shown context want (Raw s e) = under (last (expr_shown context Nothing e))
expr_shown context want (SetField s e field value) = under (more (expr_shown context Nothing e) (last (expr_shown context (of_new_value context e field.text) value)))
expr_shown context want (Prefix s op e) = under (last (expr_shown context (of_operand op want e) e))
expr_shown context want (Binary s op at left right) =
    under (more (expr_shown context (beside context want op left right) left) (last (expr_shown context (beside context want op right left) right)))
expr_shown context want (Field s e field) = under (last (expr_shown context Nothing e))
expr_shown context want (Element s brackets e index) = under (more (expr_shown context Nothing e) (last (expr_shown context (of_index context e) index)))
expr_shown context want (Cond s test first second) =
    under (more (expr_shown context (Wants types.Truth) test)
    (more (expr_shown context (of_arm context want first second) first) (last (expr_shown context (of_arm context want second first) second))))
expr_shown context want (Bare s e) = under (last (expr_shown context want e))

-- ---- calls

args_shown : (context : Context) (before : List Passed) (params : List (Option ValueType)) (args : List ExprSyntax) → ShowsAll (args_row context before params args) (nodes_from (map expr_node args))
args_shown context before [] [] = none
args_shown context before (p ∷ params) [] = none
args_shown context before [] (e ∷ args) = more (expr_shown context Nothing e) (args_shown context before [] args)
args_shown context before (p ∷ params) (e ∷ args) = more (expr_shown context (of_argument before p) e) (args_shown context (before ++ matched context p e ∷ []) params args)

pub call_shown : (context : Context) (c : CallSyntax) → Shows (call_row context c) (call_node c)
call_shown context c = under (args_shown context [] (params_of (callee_named context.earlier c.name.text)) c.args)

-- ---- initializers

mutual
  pub init_shown : (context : Context) (global : Bool) (area : Option Area) (i : InitSyntax) → Shows (init_row context global area i) (init_node i)
  init_shown context global area (One e) = under (last (expr_shown context (of_cell area) e))
  init_shown context global area (Many s inits) = under (inits_shown context global area 0 inits)

  inits_shown : (context : Context) (global : Bool) (area : Option Area) (k : ℕ) (inits : InitsSyntax) → ShowsAll (inits_row context global area k inits) (init_nodes inits)
  inits_shown context global area k NoInits = none
  inits_shown context global area k (MoreInits init inits) = more (init_shown context global (place_in context.earlier area k) init) (inits_shown context global area (k + 1) inits)
