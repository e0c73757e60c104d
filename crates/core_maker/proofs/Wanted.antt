-- The core of an expression has the type of its form, where it is settled, and else the one that is wanted.
use Rattle.std.proofs.Common.{◌≡◌, ℕ, Bool, true, false, cond, not, ◌||◌, Option, Some, None, refl}
use Rattle.ivory_tree.specs.Syntax as syntax
use Rattle.ivory_tree.specs.Syntax.{ExprSyntax}
use Rattle.ivory_tree.specs.declared.PrefixOp.TheVariants.{Neg, Not, Flip, Deref}
use Rattle.area_types.specs.Syntax as types
use Rattle.area_types.specs.Syntax.{ValueType}
use Rattle.core_tree.specs.Syntax.{type_of}
use Rattle.source_types.specs.Operators.{is_logic, is_comparison}
use Rattle.source_types.specs.Settled.{settled}
use Rattle.rule_faults.specs.Types.{own_type}
use Rattle.typing_rules.specs.Environments.{Env}
use Rattle.typing_rules.specs.Contexts.{context_of}
use Rattle.typing_rules.specs.ExpressionCores.{type_or, own, local_number, name_core, core_of}

name_typed : (t : ValueType) (o : Option ℕ) (area : ℕ) → type_of (name_core t o area) ≡ t
name_typed t None area = refl
name_typed t (Some local) area = refl

binary_typed : (logic comparison sl sr : Bool) (l r : Option ValueType) (w : ValueType)
    → cond comparison types.Truth (cond logic types.Truth (cond sl (type_or l) (cond sr (type_or r) w)))
    ≡ cond ((logic || comparison) || sl || sr) (type_or (cond (logic || comparison) (Some types.Truth) (cond (sl || not sr) l r))) w
binary_typed true true sl sr l r w = refl
binary_typed true false sl sr l r w = refl
binary_typed false true sl sr l r w = refl
binary_typed false false true sr l r w = refl
binary_typed false false false true l r w = refl
binary_typed false false false false l r w = refl

cond_typed : (sl sr : Bool) (l r : Option ValueType) (w : ValueType) → cond sl (type_or l) (cond sr (type_or r) w) ≡ cond (sl || sr) (type_or (cond (sl || not sr) l r)) w
cond_typed true sr l r w = refl
cond_typed false true l r w = refl
cond_typed false false l r w = refl

pub core_typed : (env : Env) (w : ValueType) (e : ExprSyntax) → type_of (core_of env w e) ≡ cond (settled e) (own env e) w
core_typed env w (syntax.Literal s v) = refl
core_typed env w (syntax.Truth s b) = refl
core_typed env w (syntax.Outcome s) = refl
core_typed env w (syntax.Variable s name) = name_typed (own env (syntax.Variable s name)) (local_number env name) _
core_typed env w (syntax.Cast s kind e) = refl
core_typed env w (syntax.ToIndex s n e) = refl
core_typed env w (syntax.WrapIndex s n e) = refl
core_typed env w (syntax.MakeBits s name e) = refl
core_typed env w (syntax.Raw s e) = refl
core_typed env w (syntax.SetField s e name value) = refl
core_typed env w (syntax.Prefix s Not e) = refl
core_typed env w (syntax.Prefix s Deref e) = refl
core_typed env w (syntax.Prefix s Neg e) = core_typed env w e
core_typed env w (syntax.Prefix s Flip e) = core_typed env w e
core_typed env w (syntax.Binary s op at left right) =
    binary_typed (is_logic op) (is_comparison op) (settled left) (settled right) (own_type (context_of env) left) (own_type (context_of env) right) w
core_typed env w (syntax.Field s e name) = refl
core_typed env w (syntax.Element s brackets e index) = refl
core_typed env w (syntax.Cond s test first second) = cond_typed (settled first) (settled second) (own_type (context_of env) first) (own_type (context_of env) second) w
core_typed env w (syntax.Bare s e) = core_typed env w e
