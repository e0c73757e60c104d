-- Which items stand after earlier ones, and their cores.
use Rattle.std.specs.Prelude.{◌≡◌, ℕ, ℤ, Bool, true, false, ◌&&◌, not, List, [], ◌∷◌, ◌++◌, length, map, Option, Some, None, is_some, IsTrue, Ok}
use Rattle.std.specs.List.{list_all}
use Rattle.run_records.specs.declared.Plain.{Plain}
use Rattle.run_records.specs.declared.Plain.TheVariants as plain
use Rattle.ivory_tree.specs.Syntax.{Word, TypeSyntax, InitSyntax, FieldSyntax, StructSyntax, GlobalSyntax, ParamSyntax, HeaderSyntax, ContractSyntax, ProcSyntax}
use Rattle.ivory_tree.specs.declared.items.BitField.{BitField}
use Rattle.ivory_tree.specs.declared.items.BitsItem.{BitsItem}
use Rattle.type_trees.specs.Trees as trees
use Rattle.type_trees.specs.Trees.{count}
use Rattle.area_types.specs.Syntax as types
use Rattle.area_types.specs.Syntax.{ValueType, Area, Field, Ref}
use Rattle.area_types.specs.Trees.{Written, WrittenRow, fields_of, trees_of}
use Rattle.area_types.specs.Tables.{is_small}
use Rattle.alloc_effects.specs.declared.allowed.Allowed.{Allowed}
use Rattle.bit_data.specs.Layouts.{laid_out}
use Rattle.bit_data.specs.declared.FieldWish.{FieldWish}
use Rattle.bit_data.specs.declared.BitLayout.{BitLayout}
use Rattle.control_effects.specs.Falling.{block_falls}
use Rattle.core_tree.specs.Syntax.{InitCore, AreaCore, ImportCore, ParamCore, ContractCore, ProcCore}
use Rattle.core_tree.specs.declared.SiteKind.{SiteKind}
use Rattle.core_tree.specs.declared.SiteKind.TheVariants as site
use Rattle.source_types.specs.Values.{is_plain}
use Rattle.source_types.specs.Environments.{Earlier, words, has_word, is_item, is_type_name}
use Rattle.typing_rules.specs.Environments.{Env, with_local}
use Rattle.typing_rules.specs.Sites.{first_token}
use Rattle.typing_rules.specs.Expressions.{Under}
use Rattle.typing_rules.specs.Areas.{NamesArea, NamesType, written}
use Rattle.typing_rules.specs.Initializers.{Fills, has_constants, cell_values, zeros}
use Rattle.typing_rules.specs.Statements.{Marks, StandsBlock}

-- ---- bit data and structs, which share a name space

abbrev pub wish_of : BitField → FieldWish
wish_of f = record { name = f.name.text; width = f.width; truth = f.truth }

-- its fields have names of their own and some bits, and fill an unsigned word
pub record StandsBits (earlier : Earlier) (i : BitsItem) (layout : BitLayout) : Type 0 where
  pub unused : is_type_name earlier i.name.text ≡ false
  pub name : layout.name ≡ i.name.text
  pub laid : laid_out i.word (map wish_of i.fields) ≡ Ok (record layout { name = [] })

-- fields after those of these names
pub data Fields (earlier : Earlier) : List Word → List FieldSyntax → List Field → Type 0 where
  no_fields : {before : List Word} → Fields earlier before [] []
  more_fields : {before : List Word} {f : FieldSyntax} {fields : List FieldSyntax} {area : Area} {rest : List Field} → has_word before f.name.text ≡ false → NamesArea earlier f.area area
      → Fields earlier (before ++ f.name.text ∷ []) fields rest → Fields earlier before (f ∷ fields) (record { name = f.name.text; area = area } ∷ rest)

pub record StandsStruct (earlier : Earlier) (i : StructSyntax) : Type 0 where
  pub unused : is_type_name earlier i.name.text ≡ false
  pub fields : List Field
  pub stand : Fields earlier [] i.fields fields
  pub small : IsTrue (is_small (words earlier) (trees.Struct (length earlier.structs) (fields_of (trees_of earlier.structs) fields)))

-- ---- areas, which share a name space with imports and procedures

-- the first values of an area; without an initializer they are zero
pub data FirstValues (env : Env) (area : Area) : Option InitSyntax → List ℤ → Type 0 where
  zero : FirstValues env area None (zeros (count (written env.earlier area)))
  given : {i : InitSyntax} {c : InitCore} → has_constants i ≡ true → Fills env area i c → FirstValues env area (Some i) (cell_values (written env.earlier area) c)

pub record StandsArea (env : Env) (i : GlobalSyntax) (core : AreaCore) : Type 0 where
  pub unused : is_item env.earlier i.name.text ≡ false
  pub name : core.name ≡ i.name.text
  pub constant : core.constant ≡ i.constant
  pub area : NamesArea env.earlier i.area core.area
  pub first : FirstValues env core.area i.init core.first

-- ---- headers

-- parameters after those of these names; none has a name of the module
pub data Params (env : Env) : List Word → List ParamSyntax → List ValueType → Type 0 where
  no_params : {before : List Word} → Params env before [] []
  more_params : {before : List Word} {p : ParamSyntax} {params : List ParamSyntax} {t : ValueType} {ts : List ValueType} → has_word env.names p.name.text ≡ false → has_word before p.name.text ≡ false
      → NamesType env.earlier env.regions p.ty t → Params env (before ++ p.name.text ∷ []) params ts → Params env before (p ∷ params) (t ∷ ts)

-- the region of a result is global or that of a parameter
pub data Results (env : Env) : Option TypeSyntax → Option ValueType → Type 0 where
  no_result : Results env None None
  a_result : {text : TypeSyntax} {t : ValueType} → NamesType env.earlier env.regions text t → Results env (Some text) (Some t)

pub record StandsHeader (env : Env) (h : HeaderSyntax) (params : List ValueType) (result : Option ValueType) : Type 0 where
  pub unused : is_item env.earlier h.name.text ≡ false
  pub params_stand : Params env [] h.params params
  pub result_stands : Results env h.result result

abbrev pub none_or_plain : Option ValueType → Bool
none_or_plain None = true
none_or_plain (Some t) = is_plain t

abbrev pub plain_of : ValueType → Option Plain
plain_of types.Truth = Some plain.Truth
plain_of (types.Int kind) = Some (plain.Int kind)
plain_of (types.Ix n) = None
plain_of (types.Bits k) = None
plain_of (Ref constant region area) = None

-- ---- imports: what they give is bool or integers

abbrev mutual
  pub has_plain_cells : Written → Bool
  has_plain_cells (trees.Leaf t) = is_plain t
  has_plain_cells (trees.Many n element) = has_plain_cells element
  has_plain_cells (trees.Struct k fields) = have_plain_cells fields

  pub have_plain_cells : WrittenRow → Bool
  have_plain_cells trees.End = true
  have_plain_cells (trees.Field i a fields) = has_plain_cells a && have_plain_cells fields

-- through a mutable reference it writes the cells behind it
abbrev pub writes_plain : Earlier → ValueType → Bool
writes_plain earlier (Ref false region area) = has_plain_cells (written earlier area)
writes_plain earlier (Ref true region area) = true
writes_plain earlier types.Truth = true
writes_plain earlier (types.Int kind) = true
writes_plain earlier (types.Ix n) = true
writes_plain earlier (types.Bits k) = true

abbrev pub plain_result : Option ValueType → Option Plain
plain_result None = None
plain_result (Some t) = plain_of t

pub record StandsImport (env : Env) (h : HeaderSyntax) (core : ImportCore) : Type 0 where
  pub result : Option ValueType
  pub header : StandsHeader env h core.params result
  pub name : core.name ≡ h.name.text
  pub gives : core.result ≡ plain_result result
  pub result_plain : IsTrue (none_or_plain result)
  pub params_plain : IsTrue (list_all (writes_plain env.earlier) core.params)

-- ---- procedures

abbrev pub with_params : Env → List ParamSyntax → List ValueType → Env
with_params env [] ts = env
with_params env (p ∷ params) [] = env
with_params env (p ∷ params) (t ∷ ts) = with_params (with_local env p.name.text t) params ts

abbrev pub param_cores : List ParamSyntax → List ValueType → List ParamCore
param_cores [] ts = []
param_cores (p ∷ params) [] = []
param_cores (p ∷ params) (t ∷ ts) = record { name = p.name.text; ty = t } ∷ param_cores params ts

abbrev pub contract_site : (before : Bool) → SiteKind
contract_site true = site.Pre
contract_site false = site.Post

-- the bytes of `requires` and of `ensures`
abbrev pub contract_bytes : (before : Bool) → ℕ
contract_bytes true = 8
contract_bytes false = 7

-- behind the header: the parameters are in scope
abbrev pub behind_header : Env → ProcSyntax → List ValueType → Option ValueType → Env
behind_header env p types result = with_params (record env { result = result }) p.header.params types

-- a body may allocate and return, and not break
abbrev pub of_body : Allowed
of_body = record { may_alloc = true; may_break = false; may_return = true }

abbrev pub in_body : Env → Env
in_body env = record env { allowed = of_body }

-- `result` may be named in an `ensures`
abbrev pub at_contract : Env → ContractSyntax → Env
at_contract env c = record env { in_ensures = not c.before }

pub record StandsContract (env : Env) (c : ContractSyntax) (core : ContractCore) : Type 0 where
  pub before : core.before ≡ c.before
  pub cond : Under (at_contract env c) types.Truth c.cond core.cond
  pub check : Marks core.check (contract_site c.before) (first_token c.span (contract_bytes c.before))

pub data Contracts (env : Env) : List ContractSyntax → List ContractCore → Type 0 where
  no_contracts : Contracts env [] []
  more_contracts : {c : ContractSyntax} {contracts : List ContractSyntax} {d : ContractCore} {cores : List ContractCore} → StandsContract env c d → Contracts env contracts cores → Contracts env (c ∷ contracts) (d ∷ cores)

-- with a result its body does not fall through
pub record StandsProc (env : Env) (p : ProcSyntax) (core : ProcCore) : Type 0 where
  pub types : List ValueType
  pub last : Env
  pub header : StandsHeader env p.header types core.result
  pub plain : p.exported ≡ true → IsTrue (list_all is_plain types && none_or_plain core.result)
  pub contracts : Contracts (behind_header env p types core.result) p.contracts core.contracts
  pub body : StandsBlock (in_body (behind_header env p types core.result)) p.body last core.body
  pub ends : is_some core.result ≡ true → block_falls p.body ≡ false
  pub name : core.name ≡ p.header.name.text
  pub exported : core.exported ≡ p.exported
  pub params : core.params ≡ param_cores p.header.params types
  pub locals : core.locals ≡ last.locals
