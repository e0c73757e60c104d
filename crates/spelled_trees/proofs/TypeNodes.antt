-- Types and areas have at most two nodes for each token.
use Rattle.std.proofs.Common.{◌≡◌, ℕ, suc, is_some, ◌≤◌, length, ap, ◌∙◌, arith}
use Rattle.iv_words.specs.declared.Span.{Span}
use Rattle.ivory_lexer.specs.declared.Token.{Token}
use Rattle.ivory_tree.specs.Syntax as syntax
use Rattle.ivory_tree.specs.Syntax.{TypeSyntax}
use Rattle.ivory_tree.specs.View.{type_of, area_of}
use Rattle.ivory_tree.specs.declared.TypeKind.{TypeKind}
use Rattle.ivory_tree.specs.declared.TypeText.{TypeText}
use Rattle.ivory_tree.specs.declared.AreaText.{AreaText}
use Rattle.ivory_tree.proofs.View.{type_at, truth_type_is, int_type_is, index_type_is, bits_type_is, ref_type_is, stored_area_is, array_area_is, struct_area_is}
use Rattle.reading.specs.Row.{Row, tokens}
use Rattle.expression_grammar.specs.Tokens.{span_of}
use Rattle.module_grammar.specs.Trees as tree
use Rattle.module_grammar.specs.Types as grammar
use Rattle.module_grammar.specs.Types.{Symbol, value, type, area, Tree, Spells}
use Rattle.ivory_tree.specs.Nodes.{type_node, area_node, node_count}
use Rattle.spelled_trees.proofs.Sizes.{both_long, one_long, Few}

record OneNode (row : Row Token) (k : TypeKind) : Type 0 where
  some : 1 ≤ length row
  count : (s : Span) → node_count (type_node (type_at k s)) ≡ 1

one_node : {row : Row Token} {k : TypeKind} (t : Span → TypeSyntax) → ((s : Span) → type_at k s ≡ t s) → ((s : Span) → node_count (type_node (t s)) ≡ 1) → 1 ≤ length row → OneNode row k
one_node t is count some = record { some = some; count = λ s. ap (λ t. node_count (type_node t)) (is s) ∙ count s }

abbrev Means : (s : Symbol) → Tree s → Row Token → Type 0
Means value k row = OneNode row k
Means type t row = Few row (type_node (type_of t))
Means area a row = Few row (area_node (area_of a))

few : (s : Symbol) (x : Tree s) (d : ℕ) (row : Row Token) → Spells s x d row → Means s x row
few s x d row (grammar.truth t) = one_node (λ s. syntax.TruthType s) truth_type_is (λ s. omega arith) (omega (arith, one_long t.1))
few s x d row (grammar.whole {k} t) = one_node (λ s. syntax.IntType s k) (int_type_is k) (λ s. omega arith) (omega (arith, one_long t.1))
few s x d row (grammar.index {n} t u v w) = one_node (λ s. syntax.IndexType s n) (index_type_is n) (λ s. omega arith) (omega (arith, one_long t.1, both_long))
few s x d row (grammar.bits {w} t) = one_node (λ s. syntax.BitsType s w) (bits_type_is w) (λ s. omega arith) (omega (arith, one_long t.1))
few s x d row (grammar.plain {k} r) = let one = few value k d row r in record { count = omega (arith, one.some, one.count (span_of (tokens row))) }
few s x d row (grammar.reference constant e {r} {a} {f} {g} {h} t u v w) =
    let is = ref_type_is (is_some constant) r a (span_of (tokens row)) in
    record { count = omega (arith, ap (λ t. node_count (type_node t)) is, (few area a d h w).count, one_long u.1, both_long) }
few s x d row (grammar.stored {k} r) =
    let one = few value k d row r in
    let is = stored_area_is (tree.typed k (span_of (tokens row))) (span_of (tokens row)) in
    record { count = omega (arith, ap (λ a. node_count (area_node a)) is, one.some, one.count (span_of (tokens row))) }
few s x d row (grammar.array {n} {a} {f} {g} {h} {i} t u v w) =
    let is = array_area_is n a (span_of (tokens row)) in
    record { count = omega (arith, ap (λ a. node_count (area_node a)) is, (few area a (suc d) i w).count, one_long t.1, both_long) }
few s x d row (grammar.structure {w} {f} {g} t u) =
    let is = struct_area_is w (span_of (tokens row)) in
    record { count = omega (arith, ap (λ a. node_count (area_node a)) is, one_long t.1, both_long) }

pub few_type : (t : TypeText) (d : ℕ) (row : Row Token) → Spells type t d row → Few row (type_node (type_of t))
few_type t d row r = few type t d row r

pub few_area : (a : AreaText) (d : ℕ) (row : Row Token) → Spells area a d row → Few row (area_node (area_of a))
few_area a d row r = few area a d row r
