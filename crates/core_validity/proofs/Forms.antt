-- Facts of forms, one by one: which operators are comparisons, which cores are settled, and what a prefix of a chain keeps.
use Rattle.std.proofs.Common.{◌≡◌, ℕ, List, [], Bool, true, false, not, ◌||◌, IsTrue, refl, sym, ◌∙◌, ap}
use Rattle.iv_words.specs.declared.IntKind.{IntKind}
use Rattle.iv_words.specs.declared.IntKind.TheVariants.{U8, U16, U32, U64, I8, I16, I32, I64}
use Rattle.ivory_tree.specs.Syntax.{ExprSyntax}
use Rattle.ivory_tree.specs.declared.expr.BinOp.{BinOp}
use Rattle.ivory_tree.specs.declared.expr.BinOp.TheVariants.{OrElse, AndAlso, Or, Xor, And, Eq, Ne, Lt, Le, Gt, Ge, Shl, Shr, Add, Sub, WrapAdd, WrapSub, Mul, Div, Rem, WrapMul}
use Rattle.ivory_tree.specs.declared.expr.PrefixOp.{PrefixOp}
use Rattle.ivory_tree.specs.declared.expr.PrefixOp.TheVariants.{Neg, Not, Flip, Deref}
use Rattle.area_types.specs.Syntax as types
use Rattle.area_types.specs.Syntax.{ValueType}
use Rattle.core_tree.specs.Syntax as core
use Rattle.core_tree.specs.Syntax.{ExprCore, Label, type_of}
use Rattle.core_tree.specs.Settled as settled_core
use Rattle.core_tree.specs.Settled.{is_settled, are_settled}
use Rattle.core_tree.specs.Operators.{cast_sites}
use Rattle.core_tree.specs.Environments as around
use Rattle.core_tree.specs.TypedExpressions.{ExprTyped}
use Rattle.source_types.specs.Operators.{is_logic, gives_truth}
use Rattle.typing_rules.specs.Environments.{Env}
use Rattle.typing_rules.specs.Wholes.{is_chain_prefix, part}
use Rattle.typing_rules.specs.Expressions as rule
use Rattle.typing_rules.specs.Expressions.{Has}
use Rattle.typing_laws.proofs.TypesAgree.{gives}

-- ---- operators

-- whether it gives a truth, whatever its operands are
pub truth_same : (op : BinOp) → settled_core.gives_truth op ≡ gives_truth op
truth_same OrElse = refl
truth_same AndAlso = refl
truth_same Or = refl
truth_same Xor = refl
truth_same And = refl
truth_same Eq = refl
truth_same Ne = refl
truth_same Lt = refl
truth_same Le = refl
truth_same Gt = refl
truth_same Ge = refl
truth_same Shl = refl
truth_same Shr = refl
truth_same Add = refl
truth_same Sub = refl
truth_same WrapAdd = refl
truth_same WrapSub = refl
truth_same Mul = refl
truth_same Div = refl
truth_same Rem = refl
truth_same WrapMul = refl

-- a comparison gives a truth, and is no `&&` or `||`
comparison_is : (op : BinOp) → gives_truth op ≡ settled_core.is_comparison op || is_logic op
comparison_is OrElse = refl
comparison_is AndAlso = refl
comparison_is Or = refl
comparison_is Xor = refl
comparison_is And = refl
comparison_is Eq = refl
comparison_is Ne = refl
comparison_is Lt = refl
comparison_is Le = refl
comparison_is Gt = refl
comparison_is Ge = refl
comparison_is Shl = refl
comparison_is Shr = refl
comparison_is Add = refl
comparison_is Sub = refl
comparison_is WrapAdd = refl
comparison_is WrapSub = refl
comparison_is Mul = refl
comparison_is Div = refl
comparison_is Rem = refl
comparison_is WrapMul = refl

pub logic_compares : (op : BinOp) → is_logic op ≡ true → settled_core.is_comparison op ≡ false
logic_compares OrElse h = refl
logic_compares AndAlso h = refl
logic_compares Or h = refl
logic_compares Xor h = refl
logic_compares And h = refl
logic_compares Eq h = let no : ⊥ = cc in absurd no
logic_compares Ne h = let no : ⊥ = cc in absurd no
logic_compares Lt h = let no : ⊥ = cc in absurd no
logic_compares Le h = let no : ⊥ = cc in absurd no
logic_compares Gt h = let no : ⊥ = cc in absurd no
logic_compares Ge h = let no : ⊥ = cc in absurd no
logic_compares Shl h = refl
logic_compares Shr h = refl
logic_compares Add h = refl
logic_compares Sub h = refl
logic_compares WrapAdd h = refl
logic_compares WrapSub h = refl
logic_compares Mul h = refl
logic_compares Div h = refl
logic_compares Rem h = refl
logic_compares WrapMul h = refl

-- what gives no truth compares nothing
pub no_truth_compares : (op : BinOp) → gives_truth op ≡ false → settled_core.is_comparison op ≡ false
no_truth_compares op h = go (settled_core.is_comparison op) (sym (comparison_is op) ∙ h)
  where
    go : (b : Bool) → b || is_logic op ≡ false → b ≡ false
    go false e = refl
    go true e = let no : ⊥ = cc in absurd no

-- a number of a kind is one of that kind
pub same_kind_unchecked : (kind : IntKind) → cast_sites kind (types.Int kind) ≡ []
same_kind_unchecked U8 = refl
same_kind_unchecked U16 = refl
same_kind_unchecked U32 = refl
same_kind_unchecked U64 = refl
same_kind_unchecked I8 = refl
same_kind_unchecked I16 = refl
same_kind_unchecked I32 = refl
same_kind_unchecked I64 = refl

-- ---- what is settled

or_second : (a b : Bool) → b ≡ true → a || b ≡ true
or_second true b h = refl
or_second false b h = h

or_first : (a b : Bool) → a ≡ true → a || b ≡ true
or_first true b h = refl
or_first false b h = let no : ⊥ = cc in absurd no

pub part_settled : (prefix : Bool) (c : ExprCore) → is_settled (part prefix c) ≡ is_settled c
part_settled false c = refl
part_settled true (core.Whole l c) = refl
part_settled true (core.Number l value) = refl
part_settled true (core.Outcome l) = refl
part_settled true (core.Local l number) = refl
part_settled true (core.AreaName l number) = refl
part_settled true (core.Cast l e) = refl
part_settled true (core.ToIndex l e) = refl
part_settled true (core.WrapIndex l e) = refl
part_settled true (core.MakeBits l e) = refl
part_settled true (core.Raw l e) = refl
part_settled true (core.SetField l e field value) = refl
part_settled true (core.Prefix l op e) = refl
part_settled true (core.Binary l op left right) = refl
part_settled true (core.Field l e field) = refl
part_settled true (core.Element l e index) = refl
part_settled true (core.Cond l test first second) = refl

prefix_settled : (l : Label) (op : PrefixOp) (c : ExprCore) → is_settled c ≡ true → is_settled (core.Prefix l op c) ≡ true
prefix_settled l Neg c h = h
prefix_settled l Flip c h = h
prefix_settled l Not c h = refl
prefix_settled l Deref c h = refl

pub has_is_settled : {env : Env} {e : ExprSyntax} {c : ExprCore} → Has env e c → is_settled c ≡ true
has_is_settled rule.truth = refl
has_is_settled (rule.outcome h g) = refl
has_is_settled (rule.local h) = refl
has_is_settled (rule.area_name n h g k) = refl
has_is_settled (rule.cast h i l) = refl
has_is_settled (rule.cast_literal n u) = refl
has_is_settled (rule.to_index n h i l) = refl
has_is_settled (rule.wrap_index n h i) = refl
has_is_settled (rule.make_bits n w u) = refl
has_is_settled (rule.raw h w) = refl
has_is_settled (rule.set_field h k f n u l) = refl
has_is_settled (rule.negated u) = refl
has_is_settled (rule.read h s) = refl
has_is_settled (rule.signed {op = op} {c = c} {label = label} a h p l) = prefix_settled label op c (has_is_settled h)
has_is_settled (rule.logical {s = s} {op = op} {left = left} {c = c} {d = d} l u v) =
    or_first (settled_core.gives_truth op) (is_settled (part (is_chain_prefix s op left) c) || is_settled d) (truth_same op ∙ gives op l)
has_is_settled (rule.by_left {s = s} {op = op} {left = left} {c = c} {d = d} l h u i k) =
    or_second (settled_core.gives_truth op) (is_settled (part (is_chain_prefix s op left) c) || is_settled d)
    (or_first (is_settled (part (is_chain_prefix s op left) c)) (is_settled d) (part_settled (is_chain_prefix s op left) c ∙ has_is_settled h))
has_is_settled (rule.by_right {s = s} {op = op} {left = left} {c = c} {d = d} l n h u i k) =
    or_second (settled_core.gives_truth op) (is_settled (part (is_chain_prefix s op left) c) || is_settled d) (or_second (is_settled (part (is_chain_prefix s op left) c)) (is_settled d) (has_is_settled h))
has_is_settled (rule.bit_field h k t n) = refl
has_is_settled (rule.field h k t n) = refl
has_is_settled (rule.element h k u) = refl
has_is_settled (rule.choice_by_first {c = c} {d = d} u h v n) = or_first (is_settled c) (is_settled d) (has_is_settled h)
has_is_settled (rule.choice_by_second {c = c} {d = d} u n h v k) = or_second (is_settled c) (is_settled d) (has_is_settled h)

-- one operand of a comparison is settled
pub settled_by_left : (op : BinOp) (c d : ExprCore) → is_settled c ≡ true → IsTrue (are_settled op c d)
settled_by_left op c d h = or_second (not (settled_core.is_comparison op)) (is_settled c || is_settled d) (or_first (is_settled c) (is_settled d) h)

pub settled_by_right : (op : BinOp) (c d : ExprCore) → is_settled d ≡ true → IsTrue (are_settled op c d)
settled_by_right op c d h = or_second (not (settled_core.is_comparison op)) (is_settled c || is_settled d) (or_second (is_settled c) (is_settled d) h)

pub settled_anyhow : (op : BinOp) (c d : ExprCore) → settled_core.is_comparison op ≡ false → IsTrue (are_settled op c d)
settled_anyhow op c d h = or_first (not (settled_core.is_comparison op)) (is_settled c || is_settled d) (ap not h)

-- ---- a prefix of a chain

pub part_typed : (env : around.Env) (scope : List ℕ) (prefix : Bool) (c : ExprCore) → ExprTyped env scope c → ExprTyped env scope (part prefix c)
part_typed env scope false c h = h
part_typed env scope true (core.Whole l c) h = h.0
part_typed env scope true (core.Number l value) h = h
part_typed env scope true (core.Outcome l) h = h
part_typed env scope true (core.Local l number) h = h
part_typed env scope true (core.AreaName l number) h = h
part_typed env scope true (core.Cast l e) h = h
part_typed env scope true (core.ToIndex l e) h = h
part_typed env scope true (core.WrapIndex l e) h = h
part_typed env scope true (core.MakeBits l e) h = h
part_typed env scope true (core.Raw l e) h = h
part_typed env scope true (core.SetField l e field value) h = h
part_typed env scope true (core.Prefix l op e) h = h
part_typed env scope true (core.Binary l op left right) h = h
part_typed env scope true (core.Field l e field) h = h
part_typed env scope true (core.Element l e index) h = h
part_typed env scope true (core.Cond l test first second) h = h

pub part_type : (env : around.Env) (scope : List ℕ) (prefix : Bool) (c : ExprCore) → ExprTyped env scope c → type_of (part prefix c) ≡ type_of c
part_type env scope false c h = refl
part_type env scope true (core.Whole l c) h = sym h.1.type
part_type env scope true (core.Number l value) h = refl
part_type env scope true (core.Outcome l) h = refl
part_type env scope true (core.Local l number) h = refl
part_type env scope true (core.AreaName l number) h = refl
part_type env scope true (core.Cast l e) h = refl
part_type env scope true (core.ToIndex l e) h = refl
part_type env scope true (core.WrapIndex l e) h = refl
part_type env scope true (core.MakeBits l e) h = refl
part_type env scope true (core.Raw l e) h = refl
part_type env scope true (core.SetField l e field value) h = refl
part_type env scope true (core.Prefix l op e) h = refl
part_type env scope true (core.Binary l op left right) h = refl
part_type env scope true (core.Field l e field) h = refl
part_type env scope true (core.Element l e index) h = refl
part_type env scope true (core.Cond l test first second) h = refl
