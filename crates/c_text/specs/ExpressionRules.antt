-- What is asked of expressions, places, calls and initializers, in text order: the place of each rule is where its form begins, that of a
-- tag or a member where its name begins.
use Rattle.std.specs.Prelude.{ℕ, zero, suc, ◌==◌, ◌||◌, ◌&&◌, if◌then◌else◌, not, Bool, true, false, List, [], ◌∷◌, ◌++◌, length, codes, Option, Some, None}
use Rattle.std.specs.Option.{is_some, option_map}
use Rattle.c_ast.specs.declared.types.CBase.{CBase}
use Rattle.c_ast.specs.declared.types.CBase.TheVariants as base
use Rattle.c_ast.specs.declared.types.CType.{CType}
use Rattle.c_ast.specs.declared.types.CType.TheVariants.{Void, Value, Pointer}
use Rattle.c_ast.specs.declared.types.Target.{Target}
use Rattle.c_ast.specs.Conversions.{constant_type}
use Rattle.c_ast.specs.Names.{named}
use Rattle.c_ast.specs.Signatures.{Signature}
use Rattle.c_ast.specs.StaticTypes.{ValueType, Arithmetic, PointerTo, PlaceType, Held, Stored, declared, value_type, of_cast, of_read, of_address, expr_type, place_type, member_tree, may_be_given}
use Rattle.c_ast.specs.Structs.{CTree, CRow}
use Rattle.c_ast.specs.Syntax.{Name, Expr, Number, Read, Address, Unary, Binary, Cast, Cond, Place, Var, At, Member, Element, Init, One, Zero, Many, Inits, NoInits, MoreInits, FunctionCall}
use Rattle.c_ast.specs.Targets.{table_of}
use Rattle.type_trees.specs.Trees as trees
use Rattle.type_trees.specs.Trees.{Leaf, Struct, End, Field}
use Rattle.c_text.specs.TypeText.{type_text}
use Rattle.c_text.specs.ExpressionText.{unary_text, binary_text, expr_text, place_text, init_text}
use Rattle.c_text.specs.Rules.{Demand, NameIsKnown, TagIsKnown, MemberIsKnown, CalledIsEarlier, OperandsAreScalars, CastIsAllowed, StarHasPointer, DotHasStruct, IndexHasArray, AddressIsOfObject, ReadHasValue, NameIsPlace, GivenIsWanted, IndexIsScalar, TestIsScalar, ArgumentsAreCounted, ResultIsWanted, InitializersFit, BracesMatch, FileScopeHasNoNames, ConstantHasType, ask, behind, where_typed, where_both}
use Rattle.c_text.specs.Scopes.{Names, is_function, is_value, is_taken, is_tag, usable}

-- ---- what types are

abbrev pub is_number : ValueType → Bool
is_number (Arithmetic k) = true
is_number (PointerTo constant b) = false

abbrev pub is_pointer : ValueType → Bool
is_pointer v = not (is_number v)

abbrev pub is_struct : PlaceType → Bool
is_struct (Held v) = false
is_struct (Stored constant (Leaf s)) = false
is_struct (Stored constant (trees.Many n a)) = false
is_struct (Stored constant (Struct k r)) = true

abbrev pub is_array : PlaceType → Bool
is_array (Held v) = false
is_array (Stored constant (Leaf s)) = false
is_array (Stored constant (trees.Many n a)) = true
is_array (Stored constant (Struct k r)) = false

-- the member is there, where it is asked of a struct
abbrev pub has_member : Name → PlaceType → Bool
has_member m (Held v) = true
has_member m (Stored constant (Leaf s)) = true
has_member m (Stored constant (trees.Many n a)) = true
has_member m (Stored constant (Struct k r)) = is_some (member_tree r m)

-- ---- tags

abbrev pub base_demands : Names → ℕ → CBase → List Demand
base_demands names at (base.Scalar s) = []
base_demands names at (base.Struct tag) = ask (behind at (codes "struct ")) TagIsKnown (is_tag names tag)

abbrev pub type_demands : Names → ℕ → CType → List Demand
type_demands names at Void = []
type_demands names at (Value s) = []
type_demands names at (Pointer constant b) = base_demands names at b

abbrev pub is_known_base : Names → CBase → Bool
is_known_base names (base.Scalar s) = true
is_known_base names (base.Struct tag) = is_tag names tag

abbrev pub is_known_type : Names → CType → Bool
is_known_type names Void = true
is_known_type names (Value s) = true
is_known_type names (Pointer constant b) = is_known_base names b

-- the tags of all casts in it are known
abbrev mutual
  pub tags_known : Names → Expr → Bool
  tags_known names (Number v suffix) = true
  tags_known names (Read place) = place_tags_known names place
  tags_known names (Address place) = place_tags_known names place
  tags_known names (Unary op e) = tags_known names e
  tags_known names (Binary op a b) = tags_known names a && tags_known names b
  tags_known names (Cast t e) = is_known_type names t && tags_known names e
  tags_known names (Cond c a b) = tags_known names c && tags_known names a && tags_known names b

  pub place_tags_known : Names → Place → Bool
  place_tags_known names (Var x) = true
  place_tags_known names (At e) = tags_known names e
  place_tags_known names (Member place m) = place_tags_known names place
  place_tags_known names (Element place e) = place_tags_known names place && tags_known names e

-- a function's name by itself
abbrev pub is_function_name : Names → Place → Bool
is_function_name names (Var x) = is_function names x
is_function_name names (At e) = false
is_function_name names (Member place m) = false
is_function_name names (Element place e) = false

module _ (target : Target) (names : Names) where
  -- an expression with an unknown tag in it has no type
  abbrev pub type_of : Expr → Option ValueType
  type_of e = if tags_known names e then expr_type (table_of target) names.structs (declared (usable names)) e else None

  abbrev pub place_of : Place → Option PlaceType
  place_of place = if place_tags_known names place then place_type (table_of target) names.structs (declared (usable names)) place else None

  -- ---- expressions and places

  abbrev mutual
    pub expr_demands : ℕ → Expr → List Demand
    expr_demands at (Number v suffix) = ask at ConstantHasType (is_some (constant_type target suffix v))
    expr_demands at (Read place) = ask at ReadHasValue (where_typed (λ p. is_some (of_read p)) (place_of place)) ++ place_demands at place
    expr_demands at (Address place) = ask at AddressIsOfObject (not (is_function_name names place) && where_typed (λ p. is_some (of_address p)) (place_of place)) ++ place_demands (behind at (codes "(&")) place
    expr_demands at (Unary op e) = ask at OperandsAreScalars (where_typed is_number (type_of e)) ++ expr_demands (behind at (codes "(" ++ unary_text op)) e
    expr_demands at (Binary op a b) =
        ask at OperandsAreScalars (where_typed is_number (type_of a) && where_typed is_number (type_of b))
        ++ expr_demands (behind at (codes "(")) a ++ expr_demands (behind at (codes "(" ++ expr_text a ++ codes " " ++ binary_text op ++ codes " ")) b
    expr_demands at (Cast t e) =
        ask at CastIsAllowed (where_typed (λ v. is_some (of_cast t v)) (type_of e))
        ++ type_demands names (behind at (codes "((")) t ++ expr_demands (behind at (codes "((" ++ type_text t ++ codes ")")) e
    expr_demands at (Cond c a b) =
        ask at OperandsAreScalars (where_typed is_number (type_of c) && where_typed is_number (type_of a) && where_typed is_number (type_of b))
        ++ expr_demands (behind at (codes "(")) c ++ expr_demands (behind at (codes "(" ++ expr_text c ++ codes " ? ")) a
        ++ expr_demands (behind at (codes "(" ++ expr_text c ++ codes " ? " ++ expr_text a ++ codes " : ")) b

    pub place_demands : ℕ → Place → List Demand
    place_demands at (Var x) =
        ask at NameIsKnown (is_taken names x) ++ ask at NameIsPlace (not (is_function names x)) ++ ask at FileScopeHasNoNames (names.in_function || not (is_value names x))
    place_demands at (At e) = ask at StarHasPointer (where_typed is_pointer (type_of e)) ++ expr_demands (behind at (codes "(*")) e
    place_demands at (Member place m) =
        ask at DotHasStruct (where_typed is_struct (place_of place)) ++ place_demands at place ++ ask (behind at (place_text place ++ codes ".")) MemberIsKnown (where_typed (has_member m) (place_of place))
    place_demands at (Element place e) =
        ask at IndexHasArray (where_typed is_array (place_of place)) ++ place_demands at place
        ++ ask (behind at (place_text place ++ codes "[")) IndexIsScalar (where_typed is_number (type_of e)) ++ expr_demands (behind at (place_text place ++ codes "[")) e

  -- an expression that is given where a type is wanted
  abbrev pub given_demands : ℕ → CType → Expr → List Demand
  given_demands at t e = ask at GivenIsWanted (where_typed (λ v. may_be_given v t) (type_of e)) ++ expr_demands at e

  -- one that `if` tests
  abbrev pub tested_demands : ℕ → Expr → List Demand
  tested_demands at e = ask at TestIsScalar (where_typed is_number (type_of e)) ++ expr_demands at e

  -- ---- calls

  -- the arguments with the types of the parameters, as far as there are such
  abbrev pub args_demands : ℕ → List CType → List Expr → List Demand
  args_demands at ts [] = []
  args_demands at [] (e ∷ es) = expr_demands at e ++ args_demands (behind at (expr_text e ++ codes ", ")) [] es
  args_demands at (t ∷ ts) (e ∷ es) = given_demands at t e ++ args_demands (behind at (expr_text e ++ codes ", ")) ts es

  abbrev pub params_of : Option Signature → List CType
  params_of None = []
  params_of (Some s) = s.params

  abbrev pub result_may_be_given : CType → CType → Bool
  result_may_be_given t result = is_wanted (value_type result)
    where
      is_wanted : Option ValueType → Bool
      is_wanted None = false
      is_wanted (Some v) = may_be_given v t

  -- a call whose result, if one is wanted, is of the type
  abbrev pub call_demands : ℕ → Option CType → FunctionCall → List Demand
  call_demands at wanted c =
      let called : Option Signature = named names.functions c.name in
      ask at CalledIsEarlier (is_some called)
      ++ ask at ArgumentsAreCounted (where_typed (λ s. length s.params == length c.args) called)
      ++ ask at ResultIsWanted (where_both result_may_be_given wanted (option_map (λ s. s.result) called))
      ++ args_demands (behind at (c.name ++ codes "(")) (params_of called) c.args

  -- ---- initializers, of a type as a tree (6.7.8)

  -- one too many, of which its names still are asked for
  abbrev pub loose_demands : ℕ → Init → List Demand
  loose_demands at (One e) = expr_demands at e
  loose_demands at Zero = []
  loose_demands at (Many is) = []

  abbrev mutual
    pub init_demands : ℕ → CTree → Init → List Demand
    init_demands at (Leaf s) (One e) = given_demands at (Value s) e
    init_demands at (Leaf s) Zero = ask at BracesMatch false
    init_demands at (Leaf s) (Many is) = ask at BracesMatch false
    init_demands at (trees.Many n a) (One e) = ask at BracesMatch false ++ expr_demands at e
    init_demands at (trees.Many n a) Zero = []
    init_demands at (trees.Many n a) (Many is) = elements_demands (behind at (codes "{")) n a is
    init_demands at (Struct k r) (One e) = ask at BracesMatch false ++ expr_demands at e
    init_demands at (Struct k r) Zero = []
    init_demands at (Struct k r) (Many is) = members_demands (behind at (codes "{")) r is

    -- at most as many as the array has elements
    pub elements_demands : ℕ → ℕ → CTree → Inits → List Demand
    elements_demands at n a NoInits = []
    elements_demands at zero a (MoreInits i is) = ask at InitializersFit false ++ loose_demands at i
    elements_demands at (suc n) a (MoreInits i is) = init_demands at a i ++ elements_demands (behind at (init_text i ++ codes ", ")) n a is

    -- at most as many as the struct has members
    pub members_demands : ℕ → CRow → Inits → List Demand
    members_demands at r NoInits = []
    members_demands at End (MoreInits i is) = ask at InitializersFit false ++ loose_demands at i
    members_demands at (Field m a r) (MoreInits i is) = init_demands at a i ++ members_demands (behind at (init_text i ++ codes ", ")) r is
