-- The nodes of types, areas, expressions, calls and initializers, each before those within it, in the order of the text.
use Rattle.std.specs.Prelude.{ℕ, ◌+◌, Bool, List, [], ◌∷◌, ◌++◌, Option, Some, None, slice_get, option_map, option_and_then}
use Rattle.ivory_tree.specs.Syntax.{Word, TypeSyntax, TruthType, IntType, IndexType, BitsType, RefType, AreaSyntax, StoredArea, ArrayArea, StructArea, ExprSyntax, Literal, Truth, Outcome, Variable, Cast, ToIndex, WrapIndex, MakeBits, Raw, SetField, Prefix, Binary, Field, Element, Cond, Bare, InitSyntax, One, Many, InitsSyntax, NoInits, MoreInits, CallSyntax}
use Rattle.area_types.specs.Syntax as types
use Rattle.area_types.specs.Syntax.{ValueType, Area, StructType}
use Rattle.region_check.specs.Calls.{reference_of, Passed}
use Rattle.source_types.specs.Environments.{Earlier, Callee, callee_named}
use Rattle.rule_faults.specs.Contexts.{Context}
use Rattle.rule_faults.specs.Types.{own_type}
use Rattle.rule_faults.specs.Wants.{Want, Nothing, Unknown, Wants, of_operand, of_arm, beside, of_cast, of_word, of_new_value, of_index, of_argument}
use Rattle.rule_faults.specs.Nodes.{Use, Within, Node, AType, AnArea, AnInit, ACall, AnExpr}

abbrev mutual
  pub type_row : Earlier → (regions : List Word) → Use → TypeSyntax → List Node
  type_row earlier regions place (TruthType s) = AType earlier regions place (TruthType s) ∷ []
  type_row earlier regions place (IntType s kind) = AType earlier regions place (IntType s kind) ∷ []
  type_row earlier regions place (IndexType s n) = AType earlier regions place (IndexType s n) ∷ []
  type_row earlier regions place (BitsType s name) = AType earlier regions place (BitsType s name) ∷ []
  type_row earlier regions place (RefType s constant region area) = AType earlier regions place (RefType s constant region area) ∷ area_row earlier area

  pub area_row : Earlier → AreaSyntax → List Node
  area_row earlier (StoredArea s ty) = AnArea earlier (StoredArea s ty) ∷ type_row earlier [] Within ty
  area_row earlier (ArrayArea s n element) = AnArea earlier (ArrayArea s n element) ∷ area_row earlier element
  area_row earlier (StructArea s name) = AnArea earlier (StructArea s name) ∷ []

abbrev pub expr_row : Context → Want → ExprSyntax → List Node
expr_row context want (Literal s value) = AnExpr context want (Literal s value) ∷ []
expr_row context want (Truth s value) = AnExpr context want (Truth s value) ∷ []
expr_row context want (Outcome s) = AnExpr context want (Outcome s) ∷ []
expr_row context want (Variable s name) = AnExpr context want (Variable s name) ∷ []
expr_row context want (Cast s kind e) = AnExpr context want (Cast s kind e) ∷ expr_row context (of_cast kind e) e
expr_row context want (ToIndex s n e) = AnExpr context want (ToIndex s n e) ∷ expr_row context Nothing e
expr_row context want (WrapIndex s n e) = AnExpr context want (WrapIndex s n e) ∷ expr_row context Nothing e
expr_row context want (MakeBits s name e) = AnExpr context want (MakeBits s name e) ∷ expr_row context (of_word context name) e
expr_row context want (Raw s e) = AnExpr context want (Raw s e) ∷ expr_row context Nothing e
expr_row context want (SetField s e field value) = AnExpr context want (SetField s e field value) ∷ (expr_row context Nothing e ++ expr_row context (of_new_value context e field.text) value)
expr_row context want (Prefix s op e) = AnExpr context want (Prefix s op e) ∷ expr_row context (of_operand op want e) e
expr_row context want (Binary s op at left right) =
    AnExpr context want (Binary s op at left right) ∷ (expr_row context (beside context want op left right) left ++ expr_row context (beside context want op right left) right)
expr_row context want (Field s e field) = AnExpr context want (Field s e field) ∷ expr_row context Nothing e
expr_row context want (Element s brackets e index) = AnExpr context want (Element s brackets e index) ∷ (expr_row context Nothing e ++ expr_row context (of_index context e) index)
expr_row context want (Cond s test first second) =
    AnExpr context want (Cond s test first second) ∷ (expr_row context (Wants types.Truth) test ++ (expr_row context (of_arm context want first second) first ++ expr_row context (of_arm context want second first) second))
expr_row context want (Bare s e) = AnExpr context want (Bare s e) ∷ expr_row context want e

-- ---- calls

-- a parameter with its argument, as region matching sees them
abbrev pub matched : Context → Option ValueType → ExprSyntax → Passed
matched context param arg = record { wanted = option_and_then reference_of param; given = option_and_then reference_of (own_type context arg) }

abbrev pub matched_all : Context → List (Option ValueType) → List ExprSyntax → List Passed
matched_all context (p ∷ params) (e ∷ args) = matched context p e ∷ matched_all context params args
matched_all context [] args = []
matched_all context (p ∷ params) [] = []

abbrev pub params_of : Option Callee → List (Option ValueType)
params_of None = []
params_of (Some c) = c.params

-- of an argument without a parameter nothing is wanted
abbrev pub args_row : Context → (before : List Passed) → List (Option ValueType) → List ExprSyntax → List Node
args_row context before params [] = []
args_row context before [] (e ∷ args) = expr_row context Nothing e ++ args_row context before [] args
args_row context before (p ∷ params) (e ∷ args) = expr_row context (of_argument before p) e ++ args_row context (before ++ matched context p e ∷ []) params args

abbrev pub call_row : Context → CallSyntax → List Node
call_row context c = ACall context c ∷ args_row context [] (params_of (callee_named context.earlier c.name.text)) c.args

-- ---- initializers

-- what is wanted of the expression for an area: the cell's type
abbrev pub of_cell : Option Area → Want
of_cell (Some (types.Stored t)) = Wants t
of_cell (Some (types.Array n element)) = Unknown
of_cell (Some (types.Struct k)) = Unknown
of_cell None = Unknown

-- the area of the element or field of that number
abbrev pub place_in : Earlier → Option Area → ℕ → Option Area
place_in earlier (Some (types.Array n element)) i = Some element
place_in earlier (Some (types.Struct k)) i = option_map (λ (f : types.Field). f.area) (option_and_then (λ (s : StructType). slice_get s.fields i) (slice_get earlier.structs k))
place_in earlier (Some (types.Stored t)) i = None
place_in earlier None i = None

abbrev mutual
  pub init_row : Context → (global : Bool) → Option Area → InitSyntax → List Node
  init_row context global area (One e) = AnInit context.earlier global area (One e) ∷ expr_row context (of_cell area) e
  init_row context global area (Many s inits) = AnInit context.earlier global area (Many s inits) ∷ inits_row context global area 0 inits

  pub inits_row : Context → (global : Bool) → Option Area → ℕ → InitsSyntax → List Node
  inits_row context global area i NoInits = []
  inits_row context global area i (MoreInits init inits) = init_row context global (place_in context.earlier area i) init ++ inits_row context global area (i + 1) inits
