-- The core of an expression, with 0 for the numbers of its checks, as a function of its text. Where something is missing, for a rule is broken,
-- something stands in its place: the core of what is typed has none of that.
use Rattle.std.specs.Prelude.{ℕ, if◌then◌else◌, List, [], map, Option, Some, None, option_map, unwrap_or}
use Rattle.iv_words.specs.declared.IntKind.{IntKind}
use Rattle.iv_words.specs.declared.Span.{Span}
use Rattle.ivory_tree.specs.Syntax as syntax
use Rattle.ivory_tree.specs.Syntax.{Word, ExprSyntax}
use Rattle.ivory_tree.specs.declared.expr.BinOp.{BinOp}
use Rattle.ivory_tree.specs.declared.expr.PrefixOp.TheVariants.{Neg, Not, Flip, Deref}
use Rattle.ivory_tree.specs.declared.items.BitField.{BitField}
use Rattle.area_types.specs.Syntax as types
use Rattle.area_types.specs.Syntax.{ValueType, Int, Ix, Bits, Ref}
use Rattle.area_types.specs.Tables.{is_length}
use Rattle.core_tree.specs.Syntax as core
use Rattle.core_tree.specs.Syntax.{ExprCore, Label, type_of}
use Rattle.core_tree.specs.declared.Check.{Check}
use Rattle.core_tree.specs.declared.SiteKind.{SiteKind}
use Rattle.source_types.specs.Operators.{is_logic}
use Rattle.source_types.specs.Settled.{settled}
use Rattle.source_types.specs.Parts.{length_behind, word_type, bit_field_type, bit_field_named, bit_field_number, field_number}
use Rattle.rule_faults.specs.Types.{own_type}
use Rattle.typing_rules.specs.Environments.{Env, Local, local_named, area_number}
use Rattle.typing_rules.specs.Contexts.{context_of}
use Rattle.core_tree.specs.Operators.{operator_sites, prefix_sites, cast_sites, result_type}
use Rattle.typing_rules.specs.Sites.{unchecked, index_sites, set_sites, first_token, name_bytes}
use Rattle.typing_rules.specs.Expressions.{truth_value, chain, field_of, element_of}

-- ---- labels

abbrev pub checks_at : List SiteKind → Span → List Check
checks_at kinds at = map (λ (kind : SiteKind). record { site = 0; kind = kind; span = at }) kinds

abbrev pub bare : ValueType → List SiteKind → Span → Label
bare t kinds at = record { ty = t; checks = checks_at kinds at }

-- ---- where nothing is there

abbrev pub any_type : ValueType
any_type = types.Truth

abbrev pub type_or : Option ValueType → ValueType
type_or o = unwrap_or o any_type

abbrev pub number_or : Option ℕ → ℕ
number_or o = unwrap_or o 0

abbrev pub length_or : ℕ → ℕ
length_or n = if is_length n then n else 0

-- ---- parts

-- the type that an expression has by its form
abbrev pub own : Env → ExprSyntax → ValueType
own env e = type_or (own_type (context_of env) e)

abbrev pub local_number : Env → Word → Option ℕ
local_number env name = option_map (λ (l : Local). l.number) (local_named env name)

-- the local of that number, else the area
abbrev pub name_core : ValueType → (local : Option ℕ) → (area : ℕ) → ExprCore
name_core t None area = core.AreaName (unchecked t) area
name_core t (Some local) area = core.Local (unchecked t) local

-- a conversion of an unsettled operand checks nothing
abbrev pub cast_checks : Env → IntKind → ExprSyntax → List SiteKind
cast_checks env kind e = if settled e then cast_sites kind (own env e) else []

-- the number of bit data
abbrev pub bits_number : ValueType → ℕ
bits_number (Bits k) = k
bits_number types.Truth = 0
bits_number (Int kind) = 0
bits_number (Ix n) = 0
bits_number (Ref constant region area) = 0

abbrev pub new_field : Env → ExprSyntax → Word → Option BitField
new_field env e name = bit_field_named env.earlier (bits_number (own env e)) name

abbrev pub new_type : Option BitField → ValueType
new_type None = any_type
new_type (Some f) = bit_field_type f

abbrev pub new_sites : Option BitField → List SiteKind
new_sites None = []
new_sites (Some f) = set_sites f

-- the number of a field of bit data, or of the struct behind a reference
abbrev pub number_in : Env → ValueType → Word → Option ℕ
number_in env (Bits k) name = bit_field_number env.earlier k name
number_in env (Ref constant region (types.Struct k)) name = field_number env.earlier k name
number_in env (Ref constant region (types.Stored t)) name = None
number_in env (Ref constant region (types.Array n area)) name = None
number_in env types.Truth name = None
number_in env (Int kind) name = None
number_in env (Ix n) name = None

-- what operands are wanted as: by the first settled one, else as the whole
abbrev pub beside : Env → ValueType → (first second : ExprSyntax) → ValueType
beside env w first second = if settled first then own env first else (if settled second then own env second else w)

abbrev pub operand : Env → ValueType → BinOp → (left right : ExprSyntax) → ValueType
operand env w op left right = if is_logic op then types.Truth else beside env w left right

abbrev pub operated : Span → BinOp → Span → ExprSyntax → ValueType → (left right : ExprCore) → ExprCore
operated s op at left t c d = chain s op left (bare (result_type op t) (operator_sites op t) at) c d

-- ---- expressions

-- `w` is what is wanted, and counts for unsettled expressions alone
abbrev pub core_of : Env → (w : ValueType) → ExprSyntax → ExprCore
core_of env w (syntax.Literal s v) = core.Number (unchecked w) v
core_of env w (syntax.Truth s b) = core.Number (unchecked types.Truth) (truth_value b)
core_of env w (syntax.Outcome s) = core.Outcome (unchecked (own env (syntax.Outcome s)))
core_of env w (syntax.Variable s name) = name_core (own env (syntax.Variable s name)) (local_number env name) (number_or (area_number env.earlier name))
core_of env w (syntax.Cast s kind e) = core.Cast (bare (Int kind) (cast_checks env kind e) (first_token s (name_bytes kind))) (core_of env (Int kind) e)
core_of env w (syntax.ToIndex s n e) = core.ToIndex (bare (own env (syntax.ToIndex s n e)) (index_sites n (own env e)) (first_token s 4)) (core_of env w e)
core_of env w (syntax.WrapIndex s n e) = core.WrapIndex (unchecked (own env (syntax.WrapIndex s n e))) (core_of env w e)
core_of env w (syntax.MakeBits s name e) = core.MakeBits (unchecked (own env (syntax.MakeBits s name e))) (core_of env (type_or (word_type env.earlier (own env (syntax.MakeBits s name e)))) e)
core_of env w (syntax.Raw s e) = core.Raw (unchecked (own env (syntax.Raw s e))) (core_of env w e)
core_of env w (syntax.SetField s e name value) =
    core.SetField (bare (own env (syntax.SetField s e name value)) (new_sites (new_field env e name.text)) (first_token s 3)) (core_of env w e)
    (number_or (bit_field_number env.earlier (bits_number (own env e)) name.text)) (core_of env (new_type (new_field env e name.text)) value)
core_of env w (syntax.Prefix s Not e) = core.Prefix (unchecked types.Truth) Not (core_of env types.Truth e)
core_of env w (syntax.Prefix s Deref e) = core.Prefix (unchecked (own env (syntax.Prefix s Deref e))) Deref (core_of env w e)
core_of env w (syntax.Prefix s Neg e) = core.Prefix (bare (type_of (core_of env w e)) (prefix_sites Neg) (first_token s 1)) Neg (core_of env w e)
core_of env w (syntax.Prefix s Flip e) = core.Prefix (bare (type_of (core_of env w e)) (prefix_sites Flip) (first_token s 1)) Flip (core_of env w e)
core_of env w (syntax.Binary s op at left right) = operated s op at left (operand env w op left right) (core_of env (operand env w op left right) left) (core_of env (operand env w op left right) right)
core_of env w (syntax.Field s e name) = field_of s e (own env (syntax.Field s e name)) (core_of env w e) (number_or (number_in env (own env e) name.text))
core_of env w (syntax.Element s brackets e index) =
    element_of s e (own env (syntax.Element s brackets e index)) (core_of env w e) (core_of env (Ix (number_or (length_behind (own env e)))) index)
core_of env w (syntax.Cond s test first second) = core.Cond (unchecked (beside env w first second)) (core_of env types.Truth test) (core_of env (beside env w first second) first) (core_of env (beside env w first second) second)
core_of env w (syntax.Bare s e) = core_of env w e
