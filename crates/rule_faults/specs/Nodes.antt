-- The nodes of a module, each with what is known at it, and its place.
use Rattle.std.specs.Prelude.{Bool, List, Option}
use Rattle.iv_words.specs.declared.Span.{Span}
use Rattle.ivory_tree.specs.Syntax.{Word, TypeSyntax, AreaSyntax, ExprSyntax, InitSyntax, CallSyntax, StmtSyntax, BlockSyntax, FieldSyntax, ParamSyntax, ContractSyntax, ItemSyntax}
use Rattle.ivory_tree.specs.Places.{type_span, area_span, expr_span, init_span, stmt_span, block_span, item_span}
use Rattle.ivory_tree.specs.declared.items.BitField.{BitField}
use Rattle.area_types.specs.Syntax.{Area}
use Rattle.source_types.specs.Environments.{Earlier}
use Rattle.rule_faults.specs.Contexts.{Context}
use Rattle.rule_faults.specs.Wants.{Want}

-- who calls: code outside calls an exported procedure, an import is called outside
pub data Boundary : Type 0 where
  Exported Imported Inner : Boundary

-- where a type stands: for a parameter, for a result, or within an area
pub data Use : Type 0 where
  ForParam ForResult : Boundary → Use
  Within : Use

pub data Node : Type 0 where
  AnItem : Earlier → ItemSyntax → Node
  -- with the names of the fields before it
  ABitField : List Word → BitField → Node
  AField : List Word → FieldSyntax → Node
  AParam : Context → ParamSyntax → Node
  AType : Earlier → (regions : List Word) → Use → TypeSyntax → Node
  AnArea : Earlier → AreaSyntax → Node
  AContract : ContractSyntax → Node
  -- with the area that it is for, which is one of the module where global
  AnInit : Earlier → (global : Bool) → Option Area → InitSyntax → Node
  -- whether it is the body of a procedure with a result
  ABlock : Bool → BlockSyntax → Node
  AStatement : Context → (reached : Bool) → StmtSyntax → Node
  ACall : Context → CallSyntax → Node
  AnExpr : Context → Want → ExprSyntax → Node

abbrev pub span_of : Node → Span
span_of (AnItem earlier item) = item_span item
span_of (ABitField before f) = f.span
span_of (AField before f) = f.span
span_of (AParam context p) = p.span
span_of (AType earlier regions place t) = type_span t
span_of (AnArea earlier a) = area_span a
span_of (AContract c) = c.span
span_of (AnInit earlier global area i) = init_span i
span_of (ABlock with_result b) = block_span b
span_of (AStatement context reached s) = stmt_span s
span_of (ACall context c) = c.span
span_of (AnExpr context want e) = expr_span e
