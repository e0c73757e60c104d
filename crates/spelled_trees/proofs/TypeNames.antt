-- Each name in a type or an area is the word of a name among its tokens.
use Rattle.std.proofs.Common.{◌≡◌, ℕ, suc, Some, is_some, [], ◌∷◌, sym, subst}
use Rattle.iv_words.specs.declared.Span.{Span}
use Rattle.ivory_lexer.specs.declared.Token.{Token}
use Rattle.ivory_tree.specs.Syntax.{TypeSyntax}
use Rattle.ivory_tree.specs.View.{type_of, area_of}
use Rattle.ivory_tree.specs.declared.TypeText.{TypeText}
use Rattle.ivory_tree.specs.declared.AreaText.{AreaText}
use Rattle.ivory_tree.proofs.View.{type_at, truth_type_is, int_type_is, index_type_is, bits_type_is, ref_type_is, stored_area_is, array_area_is, struct_area_is}
use Rattle.reading.specs.Row.{Row, tokens}
use Rattle.expression_grammar.specs.Tokens.{span_of, word_of_kind}
use Rattle.module_grammar.specs.Trees as tree
use Rattle.module_grammar.specs.Types as grammar
use Rattle.module_grammar.specs.Types.{Symbol, value, type, area, Tree, Spells}
use Rattle.ivory_tree.specs.Syntax.{Word, AreaSyntax}
use Rattle.ivory_tree.specs.Names.{region_names, type_names, area_names}
use Rattle.ivory_tree.specs.declared.RegionText.{RegionText}
use Rattle.ivory_tree.specs.declared.RegionText.TheVariants as region
use Rattle.ivory_lexer.specs.declared.TokenKind.{TokenKind}
use Rattle.ivory_lexer.specs.declared.TokenKind.TheVariants as kind
use Rattle.ivory_lexer.specs.declared.Key.TheVariants as key
use Rattle.reading.specs.Row.{Entry}
use Rattle.module_grammar.specs.Tokens.{region_of_kind, region_of}
use Rattle.spelled_trees.proofs.Words.{Told, no_names, told_ahead, told_behind, told_both, told_word}

region_word : (k : TokenKind) (w : Word) → region_of_kind k ≡ Some (region.Named w) → word_of_kind k ≡ Some w
region_word (kind.Name v) w e = cc
region_word (kind.Key key.KwGlobal) w e = cc
region_word _ w e = cc

module _ (P : TokenKind → Type 0) where
  told_region : (m : Entry Token) (f : Row Token) (r : RegionText) → f ≡ m ∷ [] → region_of m.token ≡ Some r → Told P f (region_names r)
  told_region m f region.Global e is = no_names
  told_region m f (region.Named w) e is = told_word e (region_word m.token.kind w is)

  type_told : {row : Row Token} {x t : TypeSyntax} → x ≡ t → Told P row (type_names t) → Told P row (type_names x)
  type_told {row} is t = subst (λ t. Told P row (type_names t)) (sym is) t

  area_told : {row : Row Token} {x a : AreaSyntax} → x ≡ a → Told P row (area_names a) → Told P row (area_names x)
  area_told {row} is t = subst (λ a. Told P row (area_names a)) (sym is) t

  abbrev Means : (s : Symbol) → Tree s → Row Token → Type 0
  Means value k row = (s : Span) → Told P row (type_names (type_at k s))
  Means type t row = Told P row (type_names (type_of t))
  Means area a row = Told P row (area_names (area_of a))

  tell : (s : Symbol) (x : Tree s) (d : ℕ) (row : Row Token) → Spells s x d row → Means s x row
  tell s x d row (grammar.truth t) = λ s. type_told (truth_type_is s) no_names
  tell s x d row (grammar.whole {k} t) = λ s. type_told (int_type_is k s) no_names
  tell s x d row (grammar.index {n} t u v w) = λ s. type_told (index_type_is n s) no_names
  tell s x d row (grammar.bits {w} t) = λ s. type_told (bits_type_is w s) (told_word t.1 t.3)
  tell s x d row (grammar.plain {k} r) = tell value k d row r (span_of (tokens row))
  tell s x d row (grammar.reference constant e {r} {a} {f} {g} {h} t u v w) =
      type_told (ref_type_is (is_some constant) r a (span_of (tokens row))) (told_behind e (told_behind f (told_both (told_ahead h (told_region v.0 g r v.1 v.3)) (told_behind g (tell area a d h w)))))
  tell s x d row (grammar.stored {k} r) = area_told (stored_area_is (tree.typed k (span_of (tokens row))) (span_of (tokens row))) (tell value k d row r (span_of (tokens row)))
  tell s x d row (grammar.array {n} {a} {f} {g} {h} {i} t u v w) = area_told (array_area_is n a (span_of (tokens row))) (told_behind f (told_behind g (told_behind h (tell area a (suc d) i w))))
  tell s x d row (grammar.structure {w} {f} {g} t u) = area_told (struct_area_is w (span_of (tokens row))) (told_behind f (told_word u.1 u.3))

  pub type_tells : (t : TypeText) (d : ℕ) (row : Row Token) → Spells type t d row → Told P row (type_names (type_of t))
  type_tells t d row r = tell type t d row r

  pub area_tells : (a : AreaText) (d : ℕ) (row : Row Token) → Spells area a d row → Told P row (area_names (area_of a))
  area_tells a d row r = tell area a d row r
