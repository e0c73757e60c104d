-- Headers and items stand where their tokens stand, and have the form of a tree.
use Rattle.std.proofs.Common.{◌≡◌, ℕ, suc, List, [], ◌∷◌, ◌++◌, map, refl, sym, ap, ◌∙◌, subst}
use Rattle.std.specs.Prelude.{◌≢◌}
use Rattle.ivory_lexer.specs.declared.Token.{Token}
use Rattle.ivory_lexer.specs.declared.Mark.TheVariants as mark
use Rattle.ivory_tree.specs.View.{type_of, field_of, param_of, header_of, contract_of, item_of}
use Rattle.ivory_tree.specs.declared.AreaField.{AreaField}
use Rattle.ivory_tree.specs.declared.BitField.{BitField}
use Rattle.ivory_tree.specs.declared.Header.{Header}
use Rattle.ivory_tree.specs.declared.Item.{Item}
use Rattle.reading.specs.Row.{Row}
use Rattle.reading.specs.Language.{Language, Terminal, AtLeastOne}
use Rattle.expression_grammar.specs.Tokens.{symbol}
use Rattle.module_grammar.specs.Parts as parts
use Rattle.module_grammar.specs.Items as grammar
use Rattle.module_grammar.specs.Items.{Symbol, header, item, Tree, Spells}
use Rattle.ivory_tree.specs.Nodes.{type_node, bit_field_node, field_node, param_node, contract_node, header_nodes, item_node}
use Rattle.ivory_tree.specs.Formed.{FormedType, FormedBitField, FormedField, FormedParam, FormedHeader, FormedContract, FormedItem}
use Rattle.spelled_trees.proofs.Order.{Where, always, both, all_three, ahead, behind, filled_front, filled_back, filled_token}
use Rattle.spelled_trees.proofs.Places.{AllLie, lie_ahead, lie_behind, lie_then, lie_joined, lies_alone, lies_at, Stands}
use Rattle.spelled_trees.proofs.Lists.{seen_same, of_many, of_at_least_one, of_separated, of_closed}
use Rattle.spelled_trees.proofs.ListPlaces.{ListStands, places_listed, optional_stands, after_stands}
use Rattle.spelled_trees.proofs.TypePlaces.{type_stands, area_stands}
use Rattle.spelled_trees.proofs.InitPlaces.{first_stands}
use Rattle.spelled_trees.proofs.StmtPlaces.{block_stands}
use Rattle.spelled_trees.proofs.PartPlaces.{bit_field_stands, struct_field_stands, parameter_stands, contract_stands}

-- a header is no node of its own
record HeaderStands (row : Row Token) (h : Header) : Type 0 where
  lie : AllLie row (header_nodes (header_of h))
  formed : Where row (FormedHeader (header_of h))

bit_fields_stand : (xs : List BitField) (row : Row Token) → ListStands bit_field_node FormedBitField row (map (λ (x : BitField). x) xs) → ListStands bit_field_node FormedBitField row xs
bit_fields_stand xs row l = subst (ListStands bit_field_node FormedBitField row) (seen_same xs) l

-- a list of at least one is not empty
some_field : (R : Language Token AreaField) (xs : List AreaField) (row : Row Token) → AtLeastOne R xs row → map field_of xs ≢ []
some_field R xs row (x, f, g, e, r, (more, rs, is)) = λ none. let none_of : map field_of (x ∷ more) ≡ [] = ap (λ ys. map field_of ys) (sym is) ∙ none in cc

abbrev Means : (s : Symbol) → Tree s → Row Token → Type 0
Means header h row = HeaderStands row h
Means item i row = Stands item_node FormedItem row (item_of i)

stand : (s : Symbol) (x : Tree s) (d : ℕ) (row : Row Token) → Spells s x d row → Means s x row
stand s x d row (grammar.signature {to} {params} result h {e} {f} {g} t u r q) =
    let takes = of_closed (places_listed param_node FormedParam param_of) (parts.Rule parts.parameter (suc d)) (λ y z a. parameter_stands y (suc d) z a) (Terminal (suc d) (symbol mark.Comma)) (Terminal (suc d) (symbol mark.CloseParen)) params to g r in
    let gives = optional_stands type_node FormedType type_of (λ y z a. after_stands type_node FormedType type_of (λ v w b. type_stands v d w b) y z a) result h q in
    record {
      lie = lie_behind e (lie_behind f (lie_joined takes.lie gives.lie));
      formed = behind e (behind f (both (ahead h takes.formed) (behind g gives.formed)));
    }
stand s x d row (grammar.bits {fields} {e} {f} {g} {h} {i} {j} {k} t u v w r q p) =
    let all = bit_fields_stand fields j (of_separated (places_listed bit_field_node FormedBitField (λ (y : BitField). y)) (parts.Rule parts.bit_field (suc d)) (λ y z a. bit_field_stands y (suc d) z a) (Terminal (suc d) (symbol mark.Comma)) fields j q) in
    record {
      lies = lies_at (filled_front e (f ++ (g ++ (h ++ (i ++ (j ++ k))))) (filled_token t.1)) (lie_behind e (lie_behind f (lie_behind g (lie_behind h (lie_behind i (lie_ahead k all.lie))))));
      formed = behind e (behind f (behind g (behind h (behind i (ahead k all.formed)))));
    }
stand s x d row (grammar.structure {fields} {e} {f} {g} {h} {i} t u v r q) =
    let all = of_at_least_one (places_listed field_node FormedField field_of) (parts.Rule parts.struct_field (suc d)) (λ y z a. struct_field_stands y (suc d) z a) fields h r in
    record {
      lies = lies_at (filled_front e (f ++ (g ++ (h ++ i))) (filled_token t.1)) (lie_behind e (lie_behind f (lie_behind g (lie_ahead i all.lie))));
      formed = both (always (some_field (parts.Rule parts.struct_field (suc d)) fields h r)) (behind e (behind f (behind g (ahead i all.formed))));
    }
stand s x d row (grammar.area constant e {a} init j {f} {g} {h} {i} {k} t u v w r q p) =
    let one = area_stands a d i r in
    let two = first_stands init d j q in
    record {
      lies = lies_at (filled_back e (f ++ (g ++ (h ++ (i ++ (j ++ k))))) (filled_front f (g ++ (h ++ (i ++ (j ++ k)))) (filled_token u.1))) (lie_behind e (lie_behind f (lie_behind g (lie_behind h (lie_then one.lies (lie_ahead k two.lie))))));
      formed = behind e (behind f (behind g (behind h (both (ahead (j ++ k) one.formed) (behind i (ahead k two.formed))))));
    }
stand s x d row (grammar.import {x = y} {e} {f} {g} t r u) =
    let one = stand header y d f r in
    record { lies = lies_at (filled_front e (f ++ g) (filled_token t.1)) (lie_behind e (lie_ahead g one.lie)); formed = behind e (ahead g one.formed) }
stand s x d row (grammar.procedure exported e {x = y} contracts h {body} {f} {g} {i} t u r q p) =
    let one = stand header y d g r in
    let two = of_many (places_listed contract_node FormedContract contract_of) (parts.Rule parts.contract d) (λ v w a. contract_stands v d w a) contracts h q in
    let three = block_stands body d i p in
    record {
      lies = lies_at (filled_back e (f ++ (g ++ (h ++ i))) (filled_front f (g ++ (h ++ i)) (filled_token u.1))) (lie_behind e (lie_behind f (lie_joined one.lie (lie_joined two.lie (lies_alone three.lies)))));
      formed = behind e (behind f (all_three (ahead (h ++ i) one.formed) (behind g (ahead i two.formed)) (behind g (behind h three.formed))));
    }

pub item_stands : (i : Item) (d : ℕ) (row : Row Token) → Spells item i d row → Stands item_node FormedItem row (item_of i)
item_stands i d row r = stand item i d row r
