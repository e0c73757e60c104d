-- What the guards and the values of each form on numbers come to, where its operands stand exactly for theirs, in any state of C.
use Rattle.std.specs.Prelude.{◌≡◌, ℕ, ℤ, pos, Bool, false, not, ◌||◌, List, map, if◌then◌else◌, slice_get, Some, Ok, Err, IsTrue}
use Rattle.std.specs.Ordering.{int_eq}
use Rattle.iv_words.specs.Kinds.{in_range}
use Rattle.iv_words.specs.declared.IntKind.{IntKind}
use Rattle.iv_words.specs.declared.IntKind.TheVariants.{U16}
use Rattle.int_ops.specs.Operators.{truth, is_allowed}
use Rattle.int_ops.specs.declared.Op.{Op}
use Rattle.index_types.specs.Indices.{is_index, wrapped}
use Rattle.bit_data.specs.Fields.{field_of, changed}
use Rattle.bit_data.specs.Layouts.{IsLayout}
use Rattle.bit_data.specs.declared.BitLayout.{BitLayout}
use Rattle.bit_data.specs.declared.FieldBits.{FieldBits}
use Rattle.area_types.specs.Syntax.{ValueType, Int, Ix}
use Rattle.area_types.specs.Tables.{is_length}
use Rattle.source_types.specs.Values.{is_integer, is_index_type}
use Rattle.core_tree.specs.Operators.{cast_sites, indexing_sites, set_sites, field_type}
use Rattle.core_tree.specs.Types.{is_value}
use Rattle.core_tree.specs.declared.Check.{Check}
use Rattle.core_tree.specs.declared.SiteKind.{SiteKind}
use Rattle.core_tree.specs.declared.SiteKind.TheVariants.{Index, Cast}
use Rattle.core_meaning.specs.Answers.{in_kind, equates, site_of, changing}
use Rattle.c_ast.specs.declared.CScalar.TheVariants as scalar
use Rattle.c_ast.specs.declared.CUnary.TheVariants.{Not}
use Rattle.c_ast.specs.declared.Suffix.TheVariants.{Plain}
use Rattle.c_ast.specs.Syntax.{Expr, Number, Unary}
use Rattle.c_meaning.specs.State.{Program, CState}
use Rattle.overflow_checks.specs.Checks.{checks}
use Rattle.overflow_checks.specs.Contract.{result_type}
use Rattle.lower_types.specs.Types.{scalar_for}
use Rattle.lower_values.specs.Frames.{Frame, kind_in}
use Rattle.lower_values.specs.Ranges.{settled}
use Rattle.lower_values.specs.Operators.{guard_in, computed, compared}
use Rattle.lower_values.specs.Conversions.{range_guard, valued, remainder, is_signed_type, set_guard, set_settled, put_in}
use Rattle.lower_values.specs.Conversions as word
use Rattle.form_answers.specs.Answering.{GuardsTell}
use Rattle.form_answers.specs.Standing.{ExactlyIs, IsNumber, Converts}

abbrev pub never : {A : Type 0} → A → Bool
never which = false

-- the kinds of checks in order
abbrev pub AreFor : (checks : List Check) → List SiteKind → Type 0
AreFor cs kinds = map (λ c. c.kind) cs ≡ kinds

-- an operand that stands for a number of the kind
pub record Operand (p : Program) (u : CState) (kind : IntKind) (e : Expr) (n : ℤ) : Type 0 where
  pub exact : ExactlyIs p u (scalar.Int kind) e n
  pub is_in : IsTrue (in_range kind n)

-- ---- operators

-- Of a prefix operator both operands are the one that it has. An operator that the kind does not have may answer otherwise in C, as `~` of
-- a signed kind does.
abbrev pub OperatorsAnswer : Type 0
OperatorsAnswer =
    (f : Frame) (p : Program) → f.target ≡ p.target → (u : CState) (o : Op) (kind : IntKind) (a b : Expr) (x y : ℤ) (cs : List Check)
    → IsTrue (is_allowed o kind) → Operand p u kind a x → Operand p u kind b y → AreFor cs (map site_of (checks o kind))
    → GuardsTell p u (guard_in f kind o a b) (settled kind o b) (in_kind o kind x y) cs
    × ((v : ℤ) → in_kind o kind x y ≡ Ok v → Converts p u (result_type o kind) (computed kind o a b) v)

-- truths are compared as they are
abbrev pub TruthsCompare : Type 0
TruthsCompare =
    (p : Program) (u : CState) (o : Op) (a b : Expr) (x y v : ℤ) → IsTrue (equates o) → ExactlyIs p u scalar.Truth a x → ExactlyIs p u scalar.Truth b y
    → IsTrue (is_index 2 x) → IsTrue (is_index 2 y) → in_kind o U16 x y ≡ Ok v → Converts p u scalar.Truth (compared o a b) v

-- `!`
abbrev pub NegationsAnswer : Type 0
NegationsAnswer =
    (p : Program) (u : CState) (e : Expr) (x : ℤ) → ExactlyIs p u scalar.Truth e x → IsNumber p u (Unary Not e) (truth (not (not (int_eq x (pos 0)))))

-- ---- conversions

-- `T(e)`, of a whole number or of an index: the guard counts on the ends of these types alone
abbrev pub CastsAnswer : Type 0
CastsAnswer =
    (f : Frame) (p : Program) → f.target ≡ p.target → (u : CState) (from : ValueType) (of_kind kind : IntKind) (e : Expr) (x : ℤ) (cs : List Check)
    → IsTrue (is_integer from || is_index_type from) → kind_in f from ≡ Some of_kind → Operand p u of_kind e x → IsTrue (is_value f.core.structs from x) → AreFor cs (cast_sites kind from)
    → GuardsTell p u (λ which. range_guard f from (Int kind) (valued (Some of_kind) e)) never (if in_range kind x then Ok x else Err Cast) cs
    × IsNumber p u (valued (Some of_kind) e) x

-- `toix(N, e)`
abbrev pub IndicesAnswer : Type 0
IndicesAnswer =
    (f : Frame) (p : Program) → f.target ≡ p.target → (u : CState) (n : ℕ) (of_kind : IntKind) (e : Expr) (x : ℤ) (cs : List Check)
    → IsTrue (is_length n) → Operand p u of_kind e x → AreFor cs (indexing_sites n of_kind)
    → GuardsTell p u (λ which. range_guard f (Int of_kind) (Ix n) (valued (Some of_kind) e)) never (if is_index n x then Ok x else Err Index) cs
    × IsNumber p u (valued (Some of_kind) e) x

-- `wrapix(N, e)`
abbrev pub WrapsAnswer : Type 0
WrapsAnswer =
    (p : Program) (u : CState) (n : ℕ) (of_kind : IntKind) (e : Expr) (x : ℤ) → IsTrue (is_length n) → Operand p u of_kind e x
    → IsNumber p u (remainder (is_signed_type (Some of_kind)) (valued (Some of_kind) e) (Number n Plain)) (pos (wrapped n x))

-- ---- bit data

-- a field of bit data
pub record FieldIs (layout : BitLayout) (field : ℕ) (bits : FieldBits) : Type 0 where
  pub laid : IsLayout layout
  pub there : slice_get layout.fields field ≡ Some bits

-- `e.f`
abbrev pub FieldsAnswer : Type 0
FieldsAnswer =
    (p : Program) (u : CState) (layout : BitLayout) (field : ℕ) (bits : FieldBits) (e : Expr) (x : ℤ) → FieldIs layout field bits → Operand p u layout.word e x
    → IsNumber p u (word.field_of bits (valued (Some layout.word) e)) (field_of layout field x)

-- `set(e, f, value)`
abbrev pub SetsAnswer : Type 0
SetsAnswer =
    (f : Frame) (p : Program) → f.target ≡ p.target → (u : CState) (layout : BitLayout) (field : ℕ) (bits : FieldBits) (e value : Expr) (x n : ℤ) (cs : List Check)
    → FieldIs layout field bits → Operand p u layout.word e x → ExactlyIs p u (scalar_for f.table (field_type bits)) value n → IsTrue (is_value f.core.structs (field_type bits) n)
    → AreFor cs (set_sites bits)
    → GuardsTell p u (λ which. set_guard bits value) (λ which. set_settled layout field value) (changing (changed layout field x n)) cs
    × ((r : ℤ) → changing (changed layout field x n) ≡ Ok r → Converts p u (scalar.Int layout.word) (put_in (Some layout.word) bits e value) r)
