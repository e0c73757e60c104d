-- Types in the C subset, and names with their types before them.
use Rattle.std.specs.Prelude.{Bool, true, false, Option, Some, None}
use Rattle.c_ast.specs.declared.types.CScalar.{CScalar}
use Rattle.c_ast.specs.declared.types.CBase.{CBase}
use Rattle.c_ast.specs.declared.types.CBase.TheVariants.{Scalar, Struct}
use Rattle.c_ast.specs.declared.types.CType.{CType}
use Rattle.c_ast.specs.declared.types.CType.TheVariants.{Value, Pointer}
use Rattle.c_ast.specs.Syntax.{Name}
use Rattle.grammars.specs.Grammar.{token, map, sequence, choice, after, optional}
use Rattle.c_grammar.specs.Kinds.{name_word, scalar_word, name_of, scalar_of}
use Rattle.c_grammar.specs.Symbols.{Rule, blank, word_struct, word_const, star}

abbrev pub name : Rule Name
name = token name_word name_of

abbrev pub scalar : Rule CScalar
scalar = token scalar_word scalar_of

-- struct NAME
abbrev pub tag : Rule Name
tag = after word_struct (after blank name)

abbrev pub base : Rule CBase
base = choice (map Scalar scalar) (map Struct tag)

-- a scalar, or a pointer to it, to const or not
abbrev pub scalar_type : CScalar → Option Bool → CType
scalar_type s None = Value s
scalar_type s (Some constant) = Pointer constant (Scalar s)

abbrev pub struct_pointer : Name → Bool → CType
struct_pointer x constant = Pointer constant (Struct x)

-- behind a base: ` *` or ` const *`, and whether it is to const
abbrev pub pointer : Rule Bool
pointer = after blank (choice (map (λ _. false) star) (map (λ _. true) (after word_const (after blank star))))

-- S, B *, B const *
abbrev pub value_type : Rule CType
value_type = choice (sequence scalar_type scalar (optional pointer)) (sequence struct_pointer tag pointer)

-- ---- behind a base and a blank: a name that holds a value

abbrev pub not_to_const : Name → Bool × Name
not_to_const x = (false, x)

abbrev pub to_const : Name → Bool × Name
to_const x = (true, x)

abbrev pub some_pointer : Bool × Name → Option Bool × Name
some_pointer p = (Some p.0, p.1)

abbrev pub no_pointer : Name → Option Bool × Name
no_pointer x = (None, x)

abbrev pub const_name : Rule Name
const_name = after word_const (after blank name)

-- *const NAME, const *const NAME
abbrev pub held_pointer : Rule (Bool × Name)
held_pointer = choice (map not_to_const (after star const_name)) (map to_const (after word_const (after blank (after star const_name))))

-- and const NAME
abbrev pub held : Rule (Option Bool × Name)
held =
    choice (map (λ x. some_pointer (not_to_const x)) (after star const_name))
    (after word_const (after blank (choice (map (λ x. some_pointer (to_const x)) (after star const_name)) (map no_pointer name))))

-- ---- the same of a result and its function

-- *NAME, const *NAME
abbrev pub pointer_name : Rule (Bool × Name)
pointer_name = choice (map not_to_const (after star name)) (map to_const (after word_const (after blank (after star name))))

-- and NAME
abbrev pub typed_name : Rule (Option Bool × Name)
typed_name = choice (map some_pointer pointer_name) (map no_pointer name)
