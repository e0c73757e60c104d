-- The readers of items and modules are good.
use Rattle.std.proofs.Common.{◌≡◌, ℕ, suc, ◌+◌, ◌≤◌, Bool, true, false, List, [], ◌++◌, refl, arith, Some, None, is_some}
use Rattle.iv_words.specs.declared.Span.{Span}
use Rattle.iv_words.specs.declared.Name.{Name}
use Rattle.ivory_lexer.specs.declared.Token.{Token}
use Rattle.ivory_lexer.specs.declared.Mark.TheVariants as mark
use Rattle.ivory_lexer.specs.declared.Key.{Key}
use Rattle.ivory_lexer.specs.declared.Key.TheVariants as key
use Rattle.ivory_tree.specs.declared.BitField.{BitField}
use Rattle.ivory_tree.specs.declared.AreaField.{AreaField}
use Rattle.ivory_tree.specs.declared.Header.{Header}
use Rattle.reading.specs.Row.{Row}
use Rattle.reading.specs.Language.{Language}
use Rattle.reading.specs.Reader.{Reader, ◌>>=◌, accept, after, below}
use Rattle.reading.specs.Good.{Good}
use Rattle.reading.proofs.Same.{none, good_as, good_map}
use Rattle.reading.proofs.Sequence.{good_after, good_ended_then}
use Rattle.reading.proofs.Starts.{StartsWith, starts_then, starts_mapped, starts_headed, starts_as, starts_wider, either}
use Rattle.reading.proofs.Choice.{Heads, Headless, good_dispatch}
use Rattle.reading.proofs.Repeat.{good_many}
use Rattle.reading.proofs.Lists.{good_optional, good_at_least_one, good_separated}
use Rattle.reading.proofs.Nesting.{good_enclosed}
use Rattle.expression_grammar.specs.Tokens.{is_mark, is_key, is_name, name_of, signs}
use Rattle.expression_grammar.specs.Reader.{mark_reader}
use Rattle.expression_grammar.proofs.Tokens.{marked, at_mark, at_key, not_mark, not_key}
use Rattle.expression_grammar.proofs.GoodPrimary.{good_symbol, good_keyword, good_name, good_parens}
use Rattle.expression_grammar.proofs.Expressions.{expression_within}
use Rattle.expression_grammar.proofs.Following.{one_of_two}
use Rattle.expression_grammar.proofs.Samples.{some_expression}
use Rattle.module_grammar.specs.declared.ItemForm.{ItemForm}
use Rattle.module_grammar.specs.declared.ItemForm.TheVariants as head
use Rattle.module_grammar.specs.Forms.{item_form_of}
use Rattle.module_grammar.specs.Tokens.{begins_contract}
use Rattle.module_grammar.specs.Trees as tree
use Rattle.module_grammar.specs.Parts as parts
use Rattle.module_grammar.specs.Items.{Rule}
use Rattle.module_grammar.specs.Items as items
use Rattle.module_grammar.specs.Modules as modules
use Rattle.module_grammar.specs.ItemReader as reader
use Rattle.module_grammar.proofs.Terminals.{good_int, good_width, good_contract_head, starts_mark, starts_key, good_apart, good_up_to, good_maybe_key, brackets, within_below, a_mark, a_name, a_width}
use Rattle.module_grammar.proofs.Placed.{good_placed, starts_placed}
use Rattle.module_grammar.proofs.Edges.{starts_maybe, starts_many}
use Rattle.module_grammar.proofs.TypeEdges.{some_area}
use Rattle.module_grammar.proofs.GoodTypes.{good_area, good_type}
use Rattle.module_grammar.proofs.GoodInits.{good_first_value}
use Rattle.module_grammar.proofs.StatementEdges.{starts_block}
use Rattle.module_grammar.proofs.GoodStatements.{good_list, good_block}
use Rattle.module_grammar.proofs.PartRules.{Declared, to_bit, from_bit, to_member, from_member, starts_member, to_parameter, from_parameter, starts_parameter, to_contract, from_contract, starts_contract}
use Rattle.module_grammar.proofs.ItemRules.{to_header, from_header, Braces, BitFields, StructFields, Form, Body, Procedure, to_item, from_item, to_module, from_module}

-- ---- parts

good_declared : {A : Type 0} {limit d : ℕ} {c : Token → Bool} {R : Name → Language Token A} {p : Name → Reader Token A} → d ≤ limit → ((name : Name) → Good signs limit c (R name) (p name))
    → Good signs limit c (Declared d R) (accept name_of >>= λ name. after (mark_reader mark.Colon) (p name))
good_declared within g = good_ended_then (good_name within) (λ name. good_after (good_symbol mark.Colon within) (g name))

good_bit : {limit d : ℕ} → d ≤ limit → Good signs limit none (parts.Rule parts.bit_field d) reader.bit_field
good_bit {limit} {d} within = good_as (to_bit d) (from_bit d) (good_placed (good_declared within (λ name. good_map (tree.bit_field name) (good_width within))))

good_bits : {limit d : ℕ} → d ≤ limit → Good signs limit (is_mark mark.Comma) (BitFields d) reader.bit_fields
good_bits {limit} {d} within = good_separated (good_symbol mark.Comma within) (starts_mark d mark.Comma) (good_bit within) (λ t e. refl) (λ t e. e) (λ t e. cc)

good_member : (limit k d : ℕ) → d + k ≡ limit → Good signs limit none (parts.Rule parts.struct_field d) (reader.struct_field k)
good_member limit k d e =
    good_as (to_member d) (from_member d)
    (good_placed (good_declared (omega arith) (λ name. good_up_to (good_map (tree.struct_field name) (good_area limit k d e)) (omega arith) mark.Semicolon (λ s. refl))))

good_members : (limit k d : ℕ) → d + k ≡ limit → Good signs limit is_name (StructFields d) (reader.struct_fields k)
good_members limit k d e = good_at_least_one (good_member limit k d e) (starts_member d) (λ t is. refl) (λ t is. is) (λ t is. cc)

good_parameter : (limit k d : ℕ) → d + k ≡ limit → Good signs limit none (parts.Rule parts.parameter d) (reader.parameter k)
good_parameter limit k d e = good_as (to_parameter d) (from_parameter d) (good_placed (good_declared (omega arith) (λ name. good_map (tree.parameter name) (good_type limit k d e))))

-- ---- samples

some_bits : (d : ℕ) → (v : List BitField) × (row : Row Token) × BitFields d v row
some_bits d =
    let n = a_name d in
    let c = a_mark d mark.Colon in
    let w = a_width d in
    (_, (n.1 ++ (c.1 ++ w.1)) ++ [], (_, n.1 ++ (c.1 ++ w.1), [], refl, parts.bit n.2 c.2 w.2, ([], refl, refl)))

some_members : (d : ℕ) → (v : List AreaField) × (row : Row Token) × StructFields d v row
some_members d =
    let n = a_name d in
    let c = a_mark d mark.Colon in
    let a = some_area d in
    let s = a_mark d mark.Semicolon in
    (_, (n.1 ++ (c.1 ++ (a.1 ++ s.1))) ++ [], (_, n.1 ++ (c.1 ++ (a.1 ++ s.1)), [], refl, parts.member n.2 c.2 a.2 s.2, ([], refl, refl)))

-- ---- what items begin with

abbrev form_test : ItemForm → Token → Bool
form_test head.Bits = is_key key.KwBitdata
form_test head.Struct = is_key key.KwStruct
form_test head.Area = either (is_key key.KwConst) (is_key key.KwArea)
form_test head.Import = is_key key.KwImport

abbrev procedure_test : Token → Bool
procedure_test = either (is_key key.KwExport) (is_key key.KwProc)

-- what both of two keywords tell
of_either : {X : Type 0} (f : Token → X) (b : X) (a c : Key) → ((t : Token) → is_key a t ≡ true → f t ≡ b) → ((t : Token) → is_key c t ≡ true → f t ≡ b)
    → (t : Token) → either (is_key a) (is_key c) t ≡ true → f t ≡ b
of_either f b a c one two t e = one_of_two (is_key a t) (is_key c t) (f t ≡ b) (one t) (two t) e

form_told : (h : ItemForm) (t : Token) → form_test h t ≡ true → item_form_of t ≡ Some h
form_told head.Bits t e = at_key item_form_of (Some head.Bits) key.KwBitdata (λ s. refl) t e
form_told head.Struct t e = at_key item_form_of (Some head.Struct) key.KwStruct (λ s. refl) t e
form_told head.Area t e =
    of_either item_form_of (Some head.Area) key.KwConst key.KwArea (at_key item_form_of (Some head.Area) key.KwConst (λ s. refl)) (at_key item_form_of (Some head.Area) key.KwArea (λ s. refl)) t e
form_told head.Import t e = at_key item_form_of (Some head.Import) key.KwImport (λ s. refl) t e

no_form : (t : Token) → procedure_test t ≡ true → item_form_of t ≡ None
no_form = of_either item_form_of None key.KwExport key.KwProc (at_key item_form_of None key.KwExport (λ s. refl)) (at_key item_form_of None key.KwProc (λ s. refl))

starts_form : (d : ℕ) (h : ItemForm) → StartsWith (form_test h) (Form d h)
starts_form d head.Bits = starts_placed (starts_then (starts_key d key.KwBitdata))
starts_form d head.Struct = starts_placed (starts_then (starts_key d key.KwStruct))
starts_form d head.Area = starts_placed (starts_maybe (is_key key.KwConst) (is_key key.KwArea) (starts_key d key.KwConst) (λ o. starts_then (starts_key d key.KwArea)))
starts_form d head.Import = starts_placed (starts_then (starts_key d key.KwImport))

starts_procedure : (d : ℕ) → StartsWith procedure_test (Procedure d)
starts_procedure d = starts_placed (starts_maybe (is_key key.KwExport) (is_key key.KwProc) (starts_key d key.KwExport) (λ o. starts_then (starts_key d key.KwProc)))

item_heads : (d : ℕ) → Heads item_form_of (Form d)
item_heads d = record {
  first = λ h v m row r. form_told h m.token ((starts_form d h).first v m row r);
  nonempty = λ h v r. (starts_form d h).nonempty v r;
}

item_headless : (d : ℕ) → Headless none item_form_of (Procedure d)
item_headless d = record {
  first = λ v m row r. no_form m.token ((starts_procedure d).first v m row r);
  empty = λ v r. absurd ((starts_procedure d).nonempty v r);
}

abbrev any : Token → Bool
any _ = true

starts_item : (d : ℕ) → StartsWith any (Rule items.item d)
starts_item d = starts_as (from_item d) (starts_headed (λ h. starts_wider (λ t e. refl) (starts_form d h)) (starts_wider (λ t e. refl) (starts_procedure d)))

-- ---- items

good_braces : {A : Type 0} (c : Token → Bool) (R : Language Token A) (p : ℕ → Reader Token A) (limit k d : ℕ) → d + k ≡ limit → ((j : ℕ) → suc d + j ≡ limit → Good signs limit c R (p j))
    → (x : A) × (row : Row Token) × R x row → ((s : Span) → c (marked mark.CloseBrace s) ≡ false) → Good signs limit none (Braces d R) (reader.braces (below p k))
good_braces c R p limit k d e good example stops = good_enclosed (λ x _. x) (brackets c mark.OpenBrace mark.CloseBrace refl refl stops) example (within_below p limit k d e good)

good_header : (limit k d : ℕ) → d + k ≡ limit → Good signs limit (is_mark mark.Arrow) (Rule items.header d) (reader.header k)
unfolding reader.header
good_header limit k d e =
    good_as (to_header d) (from_header d)
    (good_placed (good_ended_then (good_name (omega arith))
    (λ name. good_ended_then
    (good_list (parts.Rule parts.parameter (suc d)) reader.parameter limit k d e (λ j there. good_parameter limit j (suc d) there) (starts_parameter (suc d)) (λ s. refl) (λ s. refl)
    (not_mark is_name mark.CloseParen (λ s. refl)))
    (λ params. good_map (tree.header name params)
    (good_optional (good_after (good_symbol mark.Arrow (omega arith)) (good_type limit k d e)) (starts_then (starts_mark d mark.Arrow)) (λ t is. is) (λ t is. cc))))))

-- behind a header
starts_body : (d : ℕ) (exported : Bool) (h : Header) → StartsWith (either begins_contract (is_mark mark.OpenBrace)) (Body d exported h)
starts_body d exported h = starts_many begins_contract (is_mark mark.OpenBrace) (starts_contract d) (λ contracts. starts_mapped (tree.procedure exported h contracts) (starts_block d))

good_contract : (limit k d : ℕ) → d + k ≡ limit → Good signs limit none (parts.Rule parts.contract d) (reader.contract k)
good_contract limit k d e =
    good_as (to_contract d) (from_contract d)
    (good_placed (good_ended_then (good_contract_head (omega arith))
    (λ before. good_map (tree.contract before)
    (good_parens (some_expression (suc d)) (expression_within limit k d e)))))

module _ (limit k d : ℕ) (e : d + k ≡ limit) where
  good_form : (h : ItemForm) → Good signs limit none (Form d h) (reader.form_reader k h)
  good_form head.Bits =
      good_placed (good_after (good_keyword key.KwBitdata (omega arith)) (good_declared (omega arith)
      (λ name. good_ended_then (good_int (omega arith))
      (λ word. good_map (tree.bits name word)
      (good_braces (is_mark mark.Comma) (BitFields (suc d)) (λ _. reader.bit_fields) limit k d e (λ j there. good_bits (omega arith)) (some_bits (suc d)) (λ s. refl))))))
  good_form head.Struct =
      good_placed (good_after (good_keyword key.KwStruct (omega arith)) (good_ended_then (good_name (omega arith))
      (λ name. good_map (tree.structure name)
      (good_braces is_name (StructFields (suc d)) reader.struct_fields limit k d e (λ j there. good_members limit j (suc d) there) (some_members (suc d)) (λ s. refl)))))
  good_form head.Area =
      good_placed (good_maybe_key (omega arith) key.KwConst
      (λ constant. good_after (good_keyword key.KwArea (omega arith)) (good_declared (omega arith)
      (λ name. good_ended_then (good_area limit k d e)
      (λ a. good_up_to (good_map (tree.global (is_some constant) name a) (good_first_value limit k d e)) (omega arith) mark.Semicolon (λ s. refl)))))
      (is_key key.KwArea) (λ constant. starts_then (starts_key d key.KwArea)) (not_key (is_key key.KwArea) key.KwConst (λ s. refl)))
  good_form head.Import =
      good_placed (good_after (good_keyword key.KwImport (omega arith)) (good_up_to (good_map tree.import (good_header limit k d e)) (omega arith) mark.Semicolon (λ s. refl)))

  good_procedure : Good signs limit none (Procedure d) (reader.procedure_reader k)
  good_procedure =
      good_placed (good_maybe_key (omega arith) key.KwExport
      (λ exported. good_after (good_keyword key.KwProc (omega arith))
      (good_apart (good_header limit k d e)
      (λ h. good_apart (good_many (good_contract limit k d e) (starts_contract d) (λ t is. refl) (λ t is. is) (λ t is. cc))
      (λ contracts. good_map (tree.procedure (is_some exported) h contracts) (good_block limit k d e))
      (is_mark mark.OpenBrace) (λ contracts. starts_mapped (tree.procedure (is_some exported) h contracts) (starts_block d)) (at_mark begins_contract false mark.OpenBrace (λ s. refl)))
      (either begins_contract (is_mark mark.OpenBrace)) (λ h. starts_body d (is_some exported) h) (not_mark (either begins_contract (is_mark mark.OpenBrace)) mark.Arrow (λ s. refl))))
      (is_key key.KwProc) (λ exported. starts_then (starts_key d key.KwProc)) (not_key (is_key key.KwProc) key.KwExport (λ s. refl)))

  pub good_item : Good signs limit none (Rule items.item d) (reader.item k)
  unfolding reader.item
  good_item = good_as (to_item d) (from_item d) (good_dispatch good_form good_procedure (item_heads d) (item_headless d))

  -- any token may go on, as the first of a further item
  pub good_module : Good signs limit any (modules.Rule modules.module_ d) (reader.module_ k)
  unfolding reader.module_
  good_module =
      good_as (to_module d) (from_module d)
      (good_placed (good_after (good_keyword key.KwModule (omega arith)) (good_ended_then (good_name (omega arith))
      (λ name. good_after (good_symbol mark.Semicolon (omega arith))
      (good_map (tree.module_of name) (good_many good_item (starts_item d) (λ t is. refl) (λ t is. refl) (λ t is. refl)))))))
