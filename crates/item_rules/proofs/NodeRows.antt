-- What the types of parameters and results, items and fields break: one equation for each form, and the first fault of each from that.
use Rattle.std.proofs.Common.{◌≡◌, ℕ, List, [], ◌∷◌, refl, ap, ◌∙◌}
use Rattle.std.specs.Prelude.{Option, None}
use Rattle.iv_words.specs.declared.Span.{Span}
use Rattle.ivory_tree.specs.Syntax.{Word, TypeSyntax, TruthType, IntType, IndexType, BitsType, RefType, FieldSyntax, ParamSyntax, ContractSyntax, ItemSyntax, BitsData, Struct, Global, Import, Procedure}
use Rattle.ivory_tree.specs.Places.{type_span, item_span}
use Rattle.ivory_tree.specs.View.{type_of}
use Rattle.ivory_tree.specs.declared.types.TypeText.{TypeText}
use Rattle.ivory_tree.proofs.Places.{type_place}
use Rattle.ivory_tree.specs.declared.types.RegionText.TheVariants as region
use Rattle.ivory_tree.specs.declared.items.BitField.{BitField}
use Rattle.source_types.specs.Environments.{Earlier}
use Rattle.rule_faults.specs.Contexts.{Context, is_taken}
use Rattle.rule_faults.specs.ExpressionRows.{type_row, area_row}
use Rattle.rule_faults.specs.FirstFault.{least_broken, first_of}
use Rattle.rule_faults.specs.ItemRows.{within_item}
use Rattle.rule_faults.specs.Nodes.{Boundary, Exported, Imported, Inner, Use, ForParam, ForResult, Node, AnItem, ABitField, AField, AParam, AType, AContract}
use Rattle.rule_checker.specs.Faults.{at_place}
use Rattle.rule_checker.specs.Rows.{least, all_rows, one_row}
use Rattle.rule_checker.proofs.Patterns.{least_rows, told}
use Rattle.statement_rules.specs.Areas.{within_type}
use Rattle.item_rules.specs.Boundaries.{param_rows, result_rows}
use Rattle.item_rules.specs.Fields.{field_row}
use Rattle.item_rules.specs.Params.{param_row}
use Rattle.item_rules.specs.Rules.{item_rows, bit_field_rows, field_rows}
use Rattle.item_rules.specs.Within.{item_row}

-- ---- types

param_rows_are : (e : Earlier) (regions : List Word) (b : Boundary) (t : TypeSyntax) → least (all_rows (AType e regions (ForParam b) t)) ≡ least (param_rows e b t)
param_rows_are e regions Exported (TruthType s) = refl
param_rows_are e regions Exported (IntType s kind) = refl
param_rows_are e regions Exported (IndexType s n) = refl
param_rows_are e regions Exported (BitsType s name) = refl
param_rows_are e regions Exported (RefType s constant r area) = refl
param_rows_are e regions Imported (TruthType s) = refl
param_rows_are e regions Imported (IntType s kind) = refl
param_rows_are e regions Imported (IndexType s n) = refl
param_rows_are e regions Imported (BitsType s name) = refl
param_rows_are e regions Imported (RefType s constant r area) = refl
param_rows_are e regions Inner (TruthType s) = refl
param_rows_are e regions Inner (IntType s kind) = refl
param_rows_are e regions Inner (IndexType s n) = refl
param_rows_are e regions Inner (BitsType s name) = refl
param_rows_are e regions Inner (RefType s constant r area) = refl

result_rows_are : (e : Earlier) (regions : List Word) (b : Boundary) (t : TypeSyntax) → least (all_rows (AType e regions (ForResult b) t)) ≡ least (result_rows e regions b t)
result_rows_are e regions Exported (TruthType s) = refl
result_rows_are e regions Exported (IntType s kind) = refl
result_rows_are e regions Exported (IndexType s n) = refl
result_rows_are e regions Exported (BitsType s name) = refl
result_rows_are e regions Exported (RefType s constant region.Global area) = refl
result_rows_are e regions Exported (RefType s constant (region.Named name) area) = refl
result_rows_are e regions Imported (TruthType s) = refl
result_rows_are e regions Imported (IntType s kind) = refl
result_rows_are e regions Imported (IndexType s n) = refl
result_rows_are e regions Imported (BitsType s name) = refl
result_rows_are e regions Imported (RefType s constant region.Global area) = refl
result_rows_are e regions Imported (RefType s constant (region.Named name) area) = refl
result_rows_are e regions Inner (TruthType s) = refl
result_rows_are e regions Inner (IntType s kind) = refl
result_rows_are e regions Inner (IndexType s n) = refl
result_rows_are e regions Inner (BitsType s name) = refl
result_rows_are e regions Inner (RefType s constant region.Global area) = refl
result_rows_are e regions Inner (RefType s constant (region.Named name) area) = refl

type_told : (e : Earlier) (regions : List Word) (place : Use) (t : TypeSyntax) (rule : Option ℕ) → least_broken (AType e regions place t) ≡ rule → first_of (type_row e regions place t) ≡ at_place rule (type_span t) (first_of (within_type e t))
type_told e regions place (TruthType s) rule h = told (AType e regions place (TruthType s)) [] rule None h refl
type_told e regions place (IntType s kind) rule h = told (AType e regions place (IntType s kind)) [] rule None h refl
type_told e regions place (IndexType s n) rule h = told (AType e regions place (IndexType s n)) [] rule None h refl
type_told e regions place (BitsType s name) rule h = told (AType e regions place (BitsType s name)) [] rule None h refl
type_told e regions place (RefType s constant r area) rule h = told (AType e regions place (RefType s constant r area)) (area_row e area) rule (first_of (area_row e area)) h refl

pub param_type_told : (e : Earlier) (regions : List Word) (b : Boundary) (t : TypeSyntax) → first_of (type_row e regions (ForParam b) t) ≡ at_place (least (param_rows e b t)) (type_span t) (first_of (within_type e t))
param_type_told e regions b t = type_told e regions (ForParam b) t (least (param_rows e b t)) (least_rows (AType e regions (ForParam b) t) ∙ param_rows_are e regions b t)

pub result_type_told : (e : Earlier) (regions : List Word) (b : Boundary) (t : TypeSyntax) → first_of (type_row e regions (ForResult b) t) ≡ at_place (least (result_rows e regions b t)) (type_span t) (first_of (within_type e t))
result_type_told e regions b t = type_told e regions (ForResult b) t (least (result_rows e regions b t)) (least_rows (AType e regions (ForResult b) t) ∙ result_rows_are e regions b t)

-- ---- parameters and fields

pub param_told : (c : Context) (b : Boundary) (p : ParamSyntax) → first_of (param_row c b p) ≡ at_place (least (one_row 1 (is_taken c p.name.text))) p.span (first_of (type_row c.earlier c.regions (ForParam b) p.ty))
param_told c b p = told (AParam c p) (type_row c.earlier c.regions (ForParam b) p.ty) (least (one_row 1 (is_taken c p.name.text))) (first_of (type_row c.earlier c.regions (ForParam b) p.ty)) (least_rows (AParam c p)) refl

pub bit_field_told : (before : List Word) (f : BitField) (rest : List Node) → first_of (ABitField before f ∷ rest) ≡ at_place (least (bit_field_rows before f)) f.span (first_of rest)
bit_field_told before f rest = told (ABitField before f) rest (least (bit_field_rows before f)) (first_of rest) (least_rows (ABitField before f)) refl

pub field_told : (e : Earlier) (before : List Word) (f : FieldSyntax) → first_of (field_row e before f) ≡ at_place (least (field_rows before f.name.text)) f.span (first_of (area_row e f.area))
field_told e before f = told (AField before f) (area_row e f.area) (least (field_rows before f.name.text)) (first_of (area_row e f.area)) (least_rows (AField before f)) refl

-- a contract breaks no rule itself
pub contract_told : (c : ContractSyntax) (rest : List Node) → first_of (AContract c ∷ rest) ≡ first_of rest
contract_told c rest = told (AContract c) rest None (first_of rest) (least_rows (AContract c)) refl

-- ---- items

item_rows_are : (e : Earlier) (item : ItemSyntax) → least (all_rows (AnItem e item)) ≡ least (item_rows e item)
item_rows_are e (BitsData i) = refl
item_rows_are e (Struct i) = refl
item_rows_are e (Global i) = refl
item_rows_are e (Import h) = refl
item_rows_are e (Procedure p) = refl

pub item_told : (c : Context) (item : ItemSyntax) → first_of (item_row c item) ≡ at_place (least (item_rows c.earlier item)) (item_span item) (first_of (within_item c item))
item_told c item = told (AnItem c.earlier item) (within_item c item) (least (item_rows c.earlier item)) (first_of (within_item c item)) (least_rows (AnItem c.earlier item) ∙ item_rows_are c.earlier item) refl

-- ---- the types of the code, at their places

pub param_type_at : (e : Earlier) (regions : List Word) (b : Boundary) (t : TypeText) → first_of (type_row e regions (ForParam b) (type_of t)) ≡ at_place (least (param_rows e b (type_of t))) t.span (first_of (within_type e (type_of t)))
param_type_at e regions b t = param_type_told e regions b (type_of t) ∙ ap (λ (s : Span). at_place (least (param_rows e b (type_of t))) s (first_of (within_type e (type_of t)))) (type_place t)

pub result_type_at : (e : Earlier) (regions : List Word) (b : Boundary) (t : TypeText) → first_of (type_row e regions (ForResult b) (type_of t)) ≡ at_place (least (result_rows e regions b (type_of t))) t.span (first_of (within_type e (type_of t)))
result_type_at e regions b t = result_type_told e regions b (type_of t) ∙ ap (λ (s : Span). at_place (least (result_rows e regions b (type_of t))) s (first_of (within_type e (type_of t)))) (type_place t)
