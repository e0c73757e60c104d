-- Each name in a header or an item is the word of a name among its tokens.
use Rattle.std.proofs.Common.{ℕ, suc, ◌++◌, subst}
use Rattle.std.specs.List.{flat_map}
use Rattle.ivory_lexer.specs.declared.Token.{Token}
use Rattle.ivory_lexer.specs.declared.Mark.TheVariants as mark
use Rattle.ivory_tree.specs.View.{type_of, field_of, param_of, header_of, contract_of, item_of}
use Rattle.ivory_tree.specs.declared.BitField.{BitField}
use Rattle.ivory_tree.specs.declared.Item.{Item}
use Rattle.reading.specs.Row.{Row}
use Rattle.reading.specs.Language.{Terminal}
use Rattle.expression_grammar.specs.Tokens.{symbol}
use Rattle.module_grammar.specs.Parts as parts
use Rattle.module_grammar.specs.Items as grammar
use Rattle.module_grammar.specs.Items.{Symbol, header, item, Tree, Spells}
use Rattle.ivory_lexer.specs.declared.TokenKind.{TokenKind}
use Rattle.ivory_tree.specs.Names.{type_names, bit_field_names, field_names, param_names, contract_names, header_names, item_names}
use Rattle.spelled_trees.proofs.Words.{Told, told_ahead, told_behind, told_both, told_then, told_name}
use Rattle.spelled_trees.proofs.Lists.{seen_same, of_many, of_at_least_one, of_separated, of_closed}
use Rattle.spelled_trees.proofs.ListNames.{names_listed, optional_tells, after_tells}
use Rattle.spelled_trees.proofs.TypeNames.{type_tells, area_tells}
use Rattle.spelled_trees.proofs.InitNames.{first_tells}
use Rattle.spelled_trees.proofs.StmtNames.{block_tells}
use Rattle.spelled_trees.proofs.PartNames.{bit_field_tells, struct_field_tells, parameter_tells, contract_tells}

module _ (P : TokenKind → Type 0) where
  abbrev Means : (s : Symbol) → Tree s → Row Token → Type 0
  Means header h row = Told P row (header_names (header_of h))
  Means item i row = Told P row (item_names (item_of i))

  tell : (s : Symbol) (x : Tree s) (d : ℕ) (row : Row Token) → Spells s x d row → Means s x row
  tell s x d row (grammar.signature {to} {params} result h {e} {f} {g} t u r q) =
      let takes = of_closed (names_listed P param_names param_of) (parts.Rule parts.parameter (suc d)) (λ y z a. parameter_tells P y (suc d) z a) (Terminal (suc d) (symbol mark.Comma)) (Terminal (suc d) (symbol mark.CloseParen)) params to g r in
      let gives = optional_tells P type_names type_of (λ y z a. after_tells P type_names type_of (λ v w b. type_tells P v d w b) y z a) result h q in
      told_then (told_ahead (f ++ (g ++ h)) (told_name t.1 t.3)) (told_behind e (told_behind f (told_both (told_ahead h takes) (told_behind g gives))))
  tell s x d row (grammar.bits {fields} {e} {f} {g} {h} {i} {j} {k} t u v w r q p) =
      let seen = of_separated (names_listed P bit_field_names (λ (y : BitField). y)) (parts.Rule parts.bit_field (suc d)) (λ y z a. bit_field_tells P y (suc d) z a) (Terminal (suc d) (symbol mark.Comma)) fields j q in
      let all : Told P j (flat_map bit_field_names fields) = subst (λ xs. Told P j (flat_map bit_field_names xs)) (seen_same fields) seen in
      told_behind e (told_then (told_ahead (g ++ (h ++ (i ++ (j ++ k)))) (told_name u.1 u.3)) (told_behind f (told_behind g (told_behind h (told_behind i (told_ahead k all))))))
  tell s x d row (grammar.structure {fields} {e} {f} {g} {h} {i} t u v r q) =
      let all = of_at_least_one (names_listed P field_names field_of) (parts.Rule parts.struct_field (suc d)) (λ y z a. struct_field_tells P y (suc d) z a) fields h r in
      told_behind e (told_then (told_ahead (g ++ (h ++ i)) (told_name u.1 u.3)) (told_behind f (told_behind g (told_ahead i all))))
  tell s x d row (grammar.area constant e {a} init j {f} {g} {h} {i} {k} t u v w r q p) =
      told_behind e (told_behind f (told_then (told_ahead (h ++ (i ++ (j ++ k))) (told_name v.1 v.3)) (told_behind g (told_behind h (told_both (told_ahead (j ++ k) (area_tells P a d i r)) (told_behind i (told_ahead k (first_tells P init d j q))))))))
  tell s x d row (grammar.import {x = y} {e} {f} {g} t r u) = told_behind e (told_ahead g (tell header y d f r))
  tell s x d row (grammar.procedure exported e {x = y} contracts h {body} {f} {g} {i} t u r q p) =
      let all = of_many (names_listed P contract_names contract_of) (parts.Rule parts.contract d) (λ v w a. contract_tells P v d w a) contracts h q in
      told_behind e (told_behind f (told_both (told_ahead (h ++ i) (tell header y d g r)) (told_behind g (told_both (told_ahead i all) (told_behind h (block_tells P body d i p))))))

  pub item_tells : (i : Item) (d : ℕ) (row : Row Token) → Spells item i d row → Told P row (item_names (item_of i))
  item_tells i d row r = tell item i d row r
