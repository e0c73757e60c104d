-- How items and modules are read. The number is that of the levels that are left to nest.
use Rattle.std.specs.Prelude.{ℕ, true, List, Option, is_some}
use Rattle.ivory_lexer.specs.declared.Token.{Token}
use Rattle.ivory_lexer.specs.declared.Mark.TheVariants as mark
use Rattle.ivory_lexer.specs.declared.Key.TheVariants as key
use Rattle.ivory_tree.specs.declared.TypeText.{TypeText}
use Rattle.ivory_tree.specs.declared.BitField.{BitField}
use Rattle.ivory_tree.specs.declared.AreaField.{AreaField}
use Rattle.ivory_tree.specs.declared.Param.{Param}
use Rattle.ivory_tree.specs.declared.Header.{Header}
use Rattle.ivory_tree.specs.declared.Contract.{Contract}
use Rattle.ivory_tree.specs.declared.Item.{Item}
use Rattle.ivory_tree.specs.declared.Module.{Module}
use Rattle.reading.specs.Reader.{Reader, ◌>>=◌, ◌<$>◌, accept, after, before, dispatch, optional, many, at_least_one, separated, enclosed, below}
use Rattle.expression_grammar.specs.Tokens.{symbol, is_mark, is_key, is_name, name_of, int_of}
use Rattle.expression_grammar.specs.Reader.{mark_reader, key_reader, within, expression}
use Rattle.module_grammar.specs.declared.ItemForm.{ItemForm}
use Rattle.module_grammar.specs.declared.ItemForm.TheVariants as form
use Rattle.module_grammar.specs.Tokens.{width_of, before_of, begins_contract}
use Rattle.module_grammar.specs.Forms.{item_form_of}
use Rattle.module_grammar.specs.TypeReader.{placed, area, type_}
use Rattle.module_grammar.specs.InitReader.{first_value}
use Rattle.module_grammar.specs.StatementReader.{semicolon, listed, block}
use Rattle.module_grammar.specs.Trees as tree

-- what stands between braces
abbrev pub braces : {A : Type 0} → Option (Reader Token A) → Reader Token A
braces inner = enclosed (symbol mark.OpenBrace) (symbol mark.CloseBrace) (λ x _. x) inner

-- ---- parts

abbrev pub bit_field : Reader Token BitField
bit_field = placed (accept name_of >>= λ name. after (mark_reader mark.Colon) (tree.bit_field name <$> accept width_of))

abbrev pub bit_fields : Reader Token (List BitField)
bit_fields = separated (is_mark mark.Comma) (mark_reader mark.Comma) bit_field

abbrev pub struct_field : ℕ → Reader Token AreaField
struct_field k = placed (accept name_of >>= λ name. after (mark_reader mark.Colon) (before (tree.struct_field name <$> area k) semicolon))

abbrev pub struct_fields : ℕ → Reader Token (List AreaField)
struct_fields k = at_least_one is_name (struct_field k)

abbrev pub parameter : ℕ → Reader Token Param
parameter k = placed (accept name_of >>= λ name. after (mark_reader mark.Colon) (tree.parameter name <$> type_ k))

abbrev pub contract : ℕ → Reader Token Contract
contract k = placed (accept before_of >>= λ before. tree.contract before <$> within (below expression k))

abbrev pub contracts : ℕ → Reader Token (List Contract)
contracts k = many begins_contract (contract k)

abbrev pub result : ℕ → Reader Token (Option TypeText)
result k = optional (is_mark mark.Arrow) (after (mark_reader mark.Arrow) (type_ k))

unfoldable pub header : ℕ → Reader Token Header
header k = placed (accept name_of >>= λ name. listed (below parameter k) >>= λ params. tree.header name params <$> result k)

-- ---- items

abbrev pub bits_reader : ℕ → Reader Token Item
bits_reader k = placed (after (key_reader key.KwBitdata) (accept name_of >>= λ name. after (mark_reader mark.Colon)
    (accept int_of >>= λ word. tree.bits name word <$> braces (below (λ _. bit_fields) k))))

abbrev pub structure_reader : ℕ → Reader Token Item
structure_reader k = placed (after (key_reader key.KwStruct) (accept name_of >>= λ name. tree.structure name <$> braces (below struct_fields k)))

abbrev pub area_reader : ℕ → Reader Token Item
area_reader k = placed (optional (is_key key.KwConst) (key_reader key.KwConst) >>= λ constant. after (key_reader key.KwArea)
    (accept name_of >>= λ name. after (mark_reader mark.Colon) (area k >>= λ a. before (tree.global (is_some constant) name a <$> first_value k) semicolon)))

abbrev pub import_reader : ℕ → Reader Token Item
import_reader k = placed (after (key_reader key.KwImport) (before (tree.import <$> header k) semicolon))

abbrev pub procedure_reader : ℕ → Reader Token Item
procedure_reader k = placed (optional (is_key key.KwExport) (key_reader key.KwExport) >>= λ exported. after (key_reader key.KwProc)
    (header k >>= λ h. contracts k >>= λ conditions. tree.procedure (is_some exported) h conditions <$> block k))

abbrev pub form_reader : ℕ → ItemForm → Reader Token Item
form_reader k form.Bits = bits_reader k
form_reader k form.Struct = structure_reader k
form_reader k form.Area = area_reader k
form_reader k form.Import = import_reader k

unfoldable pub item : ℕ → Reader Token Item
item k = dispatch item_form_of (form_reader k) (procedure_reader k)

-- ---- modules

-- as many as there are: any token goes on
abbrev pub items : ℕ → Reader Token (List Item)
items k = many (λ _. true) (item k)

unfoldable pub module_ : ℕ → Reader Token Module
module_ k = placed (after (key_reader key.KwModule) (accept name_of >>= λ name. after semicolon (tree.module_of name <$> items k)))
