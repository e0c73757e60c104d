-- What is known at a node: the items before it, and within a procedure its region parameters, its result and the names in scope. A type is
-- none where it does not exist: the place that names it wrongly is an earlier node, and is at fault.
use Rattle.std.specs.Prelude.{Bool, true, false, ◌||◌, ◌&&◌, List, [], ◌∷◌, ◌++◌, Option, None, option_map, option_and_then, if◌then◌else◌}
use Rattle.std.specs.List.{list_any, find}
use Rattle.iv_words.specs.Words.{same_word}
use Rattle.ivory_tree.specs.Syntax.{Word}
use Rattle.area_types.specs.Syntax.{ValueType, Ref, Area}
use Rattle.area_types.specs.declared.region.Region.TheVariants.{Global, Own}
use Rattle.alloc_effects.specs.declared.allowed.Allowed.{Allowed}
use Rattle.source_types.specs.Environments.{Earlier, AreaDeclared, has_word, area_named, is_area}

-- a parameter, or a name of `let`, `alloc` or a loop
pub record Local : Type 0 where
  pub name : Word
  pub ty : Option ValueType

pub record Context : Type 0 where
  pub earlier : Earlier
  -- the names of all areas, imports and procedures of the module
  pub names : List Word
  -- the procedure's region parameters by number, and its result
  pub regions : List Word
  pub gives : Bool
  pub result : Option ValueType
  -- whether `result` may be named here
  pub in_ensures : Bool
  pub allowed : Allowed
  pub scope : List Local

-- the body of a procedure may allocate and return, and not break
abbrev pub of_body : Allowed
of_body = record { may_alloc = true; may_break = false; may_return = true }

-- there is no code outside of bodies
abbrev pub of_no_code : Allowed
of_no_code = record { may_alloc = false; may_break = false; may_return = false }

abbrev pub outside : List Word → Earlier → Context
outside names earlier = record { earlier = earlier; names = names; regions = []; gives = false; result = None; in_ensures = false; allowed = of_no_code; scope = [] }

abbrev pub with_local : Context → Word → Option ValueType → Context
with_local context name ty = record context { scope = context.scope ++ record { name = name; ty = ty } ∷ [] }

abbrev pub in_scope : Context → Word → Bool
in_scope context name = list_any (λ (l : Local). same_word l.name name) context.scope

-- a local name must be none of the module's, and not in scope
abbrev pub is_taken : Context → Word → Bool
is_taken context name = has_word context.names name || in_scope context name

abbrev pub is_known : Context → Word → Bool
is_known context name = in_scope context name || is_area context.earlier name

-- a local of a procedure, else an area, whose name is a reference to it
abbrev pub name_type : Context → Word → Option ValueType
name_type context name =
    if in_scope context name then option_and_then (λ (l : Local). l.ty) (find (λ (l : Local). same_word l.name name) context.scope)
    else option_and_then (λ (a : AreaDeclared). option_map (Ref a.constant Global) a.area) (area_named context.earlier name)

-- the name of an `alloc`
abbrev pub own_area : Option Area → Option ValueType
own_area area = option_map (Ref false Own) area

-- `result` has the result type of the procedure, in an `ensures` of one that has a result
abbrev pub has_outcome : Context → Bool
has_outcome context = context.in_ensures && context.gives

abbrev pub outcome_type : Context → Option ValueType
outcome_type context = if has_outcome context then context.result else None
