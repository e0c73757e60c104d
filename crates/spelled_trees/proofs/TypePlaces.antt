-- Types and areas stand where their tokens stand, and have the form of a tree.
use Rattle.std.proofs.Common.{◌≡◌, ℕ, suc, is_some, ◌++◌, refl, sym, ap, ◌∙◌, subst}
use Rattle.iv_words.specs.declared.Span.{Span}
use Rattle.ivory_lexer.specs.declared.Token.{Token}
use Rattle.ivory_tree.specs.Syntax as syntax
use Rattle.ivory_tree.specs.Syntax.{TypeSyntax}
use Rattle.ivory_tree.specs.View.{type_of, area_of}
use Rattle.ivory_tree.specs.declared.TypeKind.{TypeKind}
use Rattle.ivory_tree.specs.declared.TypeText.{TypeText}
use Rattle.ivory_tree.specs.declared.AreaText.{AreaText}
use Rattle.ivory_tree.proofs.View.{type_at, truth_type_is, int_type_is, index_type_is, bits_type_is, ref_type_is, stored_area_is, array_area_is, struct_area_is}
use Rattle.reading.specs.Row.{Row, tokens}
use Rattle.expression_grammar.specs.Tokens.{span_of}
use Rattle.module_grammar.specs.Trees as tree
use Rattle.module_grammar.specs.Types as grammar
use Rattle.module_grammar.specs.Types.{Symbol, value, type, area, Tree, Spells}
use Rattle.ivory_tree.specs.Nodes.{At, Nil, type_node, area_node}
use Rattle.ivory_tree.specs.Formed.{NoReference, FormedType, FormedArea}
use Rattle.spelled_trees.proofs.Order.{always, behind, Filled, filled_front, filled_back, filled_token}
use Rattle.spelled_trees.proofs.Places.{Lies, lie_none, lie_behind, lies_alone, lies_at, Stands}

-- a type without another in it, at any place
pub record Simple (row : Row Token) (k : TypeKind) : Type 0 where
  pub filled : Filled row
  pub node : (s : Span) → type_node (type_at k s) ≡ At s Nil
  pub stored : (s : Span) → NoReference (type_at k s)
  pub formed : (s : Span) → FormedType (type_at k s)

simple : {row : Row Token} {k : TypeKind} (t : Span → TypeSyntax) → ((s : Span) → type_at k s ≡ t s) → ((s : Span) → type_node (t s) ≡ At s Nil) → ((s : Span) → NoReference (t s)) → ((s : Span) → FormedType (t s)) → Filled row → Simple row k
simple t is node stored formed filled = record { filled = filled; node = λ s. ap type_node (is s) ∙ node s; stored = λ s. subst NoReference (sym (is s)) (stored s); formed = λ s. subst FormedType (sym (is s)) (formed s) }

simple_lies : {row : Row Token} {k : TypeKind} → Simple row k → Lies row (type_node (type_at k (span_of (tokens row))))
simple_lies {row} k = subst (Lies row) (sym (k.node (span_of (tokens row)))) (lies_at k.filled lie_none)

abbrev Means : (s : Symbol) → Tree s → Row Token → Type 0
Means value k row = Simple row k
Means type t row = Stands type_node FormedType row (type_of t)
Means area a row = Stands area_node FormedArea row (area_of a)

stand : (s : Symbol) (x : Tree s) (d : ℕ) (row : Row Token) → Spells s x d row → Means s x row
stand s x d row (grammar.truth t) = simple (λ s. syntax.TruthType s) truth_type_is (λ s. refl) (λ s. tt) (λ s. tt) (filled_token t.1)
stand s x d row (grammar.whole {k} t) = simple (λ s. syntax.IntType s k) (int_type_is k) (λ s. refl) (λ s. tt) (λ s. tt) (filled_token t.1)
stand s x d row (grammar.index {n} {e} {f} {g} {h} t u v w) = simple (λ s. syntax.IndexType s n) (index_type_is n) (λ s. refl) (λ s. tt) (λ s. tt) (filled_front e (f ++ (g ++ h)) (filled_token t.1))
stand s x d row (grammar.bits {w} t) = simple (λ s. syntax.BitsType s w) (bits_type_is w) (λ s. refl) (λ s. tt) (λ s. tt) (filled_token t.1)
stand s x d row (grammar.plain {k} r) = let one = stand value k d row r in record { lies = simple_lies one; formed = always (one.formed (span_of (tokens row))) }
stand s x d row (grammar.reference constant e {r} {a} {f} {g} {h} t u v w) =
    let inner = stand area a d h w in
    subst (Stands type_node FormedType row) (sym (ref_type_is (is_some constant) r a (span_of (tokens row)))) (record {
      lies = lies_at (filled_back e (f ++ (g ++ h)) (filled_front f (g ++ h) (filled_token u.1))) (lie_behind e (lie_behind f (lie_behind g (lies_alone inner.lies))));
      formed = behind e (behind f (behind g inner.formed));
    })
stand s x d row (grammar.stored {k} r) =
    let inner = stand value k d row r in
    subst (Stands area_node FormedArea row) (sym (stored_area_is (tree.typed k (span_of (tokens row))) (span_of (tokens row)))) (record {
      lies = lies_at inner.filled (lies_alone (simple_lies inner));
      formed = always (inner.stored (span_of (tokens row)), inner.formed (span_of (tokens row)));
    })
stand s x d row (grammar.array {n} {a} {f} {g} {h} {i} t u v w) =
    let inner = stand area a (suc d) i w in
    subst (Stands area_node FormedArea row) (sym (array_area_is n a (span_of (tokens row)))) (record {
      lies = lies_at (filled_front f (g ++ (h ++ i)) (filled_token t.1)) (lie_behind f (lie_behind g (lie_behind h (lies_alone inner.lies))));
      formed = behind f (behind g (behind h inner.formed));
    })
stand s x d row (grammar.structure {w} {f} {g} t u) =
    subst (Stands area_node FormedArea row) (sym (struct_area_is w (span_of (tokens row)))) (record { lies = lies_at (filled_front f g (filled_token t.1)) lie_none; formed = always tt })

pub type_stands : (t : TypeText) (d : ℕ) (row : Row Token) → Spells type t d row → Stands type_node FormedType row (type_of t)
type_stands t d row r = stand type t d row r

pub area_stands : (a : AreaText) (d : ℕ) (row : Row Token) → Spells area a d row → Stands area_node FormedArea row (area_of a)
area_stands a d row r = stand area a d row r
