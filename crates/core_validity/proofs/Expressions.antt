-- What has a type is a well typed expression of the core, and its type is one that a value may have there.
use Rattle.std.proofs.Common.{◌≡◌, inl, inr, ℕ, ℤ, List, [], slice_get, Contains, Some, Bool, true, false, cond, not, ◌||◌, IsTrue, refl, sym, ◌∙◌, ap, subst}
use Rattle.iv_words.specs.declared.Span.{Span}
use Rattle.iv_words.specs.Words.{same_word}
use Rattle.ivory_tree.specs.Syntax.{Word, ExprSyntax}
use Rattle.ivory_tree.specs.declared.expr.BinOp.{BinOp}
use Rattle.ivory_tree.specs.declared.expr.BinOp.TheVariants.{OrElse, AndAlso, Or, Xor, And, Eq, Ne, Lt, Le, Gt, Ge, Shl, Shr, Add, Sub, WrapAdd, WrapSub, Mul, Div, Rem, WrapMul}
use Rattle.ivory_tree.specs.declared.expr.PrefixOp.{PrefixOp}
use Rattle.ivory_tree.specs.declared.expr.PrefixOp.TheVariants.{Neg, Not, Flip, Deref}
use Rattle.index_types.specs.Indices.{is_index}
use Rattle.area_types.specs.Syntax as types
use Rattle.area_types.specs.Syntax.{ValueType, Area}
use Rattle.area_types.specs.Tables.{Table, is_length, is_made_of}
use Rattle.area_types.specs.declared.region.Region.{Region}
use Rattle.area_types.specs.declared.region.Region.TheVariants.{Global}
use Rattle.area_types.proofs.Truths.{both}
use Rattle.bit_data.specs.Layouts.{placed_at}
use Rattle.core_tree.specs.Syntax as core
use Rattle.core_tree.specs.Syntax.{ExprCore, Label, type_of}
use Rattle.core_tree.specs.Operators.{operator_sites, prefix_sites, cast_sites, result_type}
use Rattle.core_tree.specs.Settled.{are_settled}
use Rattle.core_tree.specs.Environments as around
use Rattle.core_tree.specs.Types.{is_core_area}
use Rattle.core_tree.specs.TypedExpressions.{Checked, PrefixTyped, PrefixedTyped, BinaryTyped, ExprTyped, HasType}
use Rattle.core_tree.specs.declared.SiteKind.{SiteKind}
use Rattle.source_types.specs.Environments.{Earlier, AreaDeclared}
use Rattle.source_types.specs.Parts.{bit_field_type, bit_field_named, bit_field_number, field_number, field_type}
use Rattle.source_types.specs.Operators.{is_logic, is_comparison, gives_truth, is_for, is_arithmetic, prefix_is_for}
use Rattle.source_types.specs.Settled.{settled}
use Rattle.source_types.specs.Values.{holds, is_integer, is_index_type, is_reference}
use Rattle.typing_rules.specs.Environments.{Env, Local, local_named}
use Rattle.typing_rules.specs.Sites.{Labelled, unchecked, index_sites}
use Rattle.typing_rules.specs.Items.{wish_of}
use Rattle.typing_rules.specs.Wholes.{is_chain_prefix, is_postfix_prefix, part}
use Rattle.typing_rules.specs.Expressions as rule
use Rattle.typing_rules.specs.Expressions.{Has, Under, truth_value, chain, field_of, element_of}
use Rattle.typing_laws.proofs.Lookups.{mapped}
use Rattle.typing_laws.proofs.TypesAgree.{has_settled}
use Rattle.typing_laws.proofs.Made.{position_below, below_zero}
use Rattle.core_validity.proofs.Lists.{found_at, front_at}
use Rattle.core_validity.proofs.Types.{Usable, area_parts, element_area, held_usable, number_held}
use Rattle.core_validity.proofs.Known.{IsArea, Known}
use Rattle.core_validity.proofs.Forms.{same_kind_unchecked, no_truth_compares, logic_compares, has_is_settled, part_settled, part_typed, part_type, settled_by_left, settled_by_right, settled_anyhow}
use Rattle.core_validity.proofs.Parts.{integer_is, stored_behind, has_word, bits_usable, has_bit_field, bit_type_usable, has_field}

-- ---- around an expression

-- a local that is in scope
pub record LocalThere (n : ℕ) (cenv : around.Env) (scope : List ℕ) (l : Local) : Type 0 where
  pub in_scope : Contains scope l.number
  pub type : slice_get cenv.locals l.number ≡ Some l.ty
  pub usable : Usable cenv.core.structs n l.ty

-- `result`, where it may be named
pub record OutcomeThere (n : ℕ) (cenv : around.Env) (t : ValueType) : Type 0 where
  pub is : cenv.outcome ≡ Some t
  pub usable : Usable cenv.core.structs n t

-- what the text knows at a place, the core knows there too; n regions are known
pub record Around (n : ℕ) (env : Env) (cenv : around.Env) (scope : List ℕ) : Type 0 where
  pub known : Known cenv.core cenv.earlier env.earlier
  pub locals : (name : Word) (l : Local) → local_named env name ≡ Some l → LocalThere n cenv scope l
  pub outcome : (t : ValueType) → env.in_ensures ≡ true → env.result ≡ Some t → OutcomeThere n cenv t

pub record Fine (n : ℕ) (cenv : around.Env) (scope : List ℕ) (c : ExprCore) : Type 0 where
  pub typed : ExprTyped cenv scope c
  pub usable : Usable cenv.core.structs n (type_of c)

-- ---- checks

checked_of : {label : Label} {t : ValueType} {kinds : List SiteKind} {at : Span} → Labelled label t kinds at → Checked label.checks kinds
checked_of {label = label} {t = t} {kinds = kinds} {at = at} l = record { of_kinds = l.checks.kinds; token = at; together = l.checks.places }

some_span : Span
some_span = record { start = 0; end = 0 }

checks_nothing : (kinds : List SiteKind) → kinds ≡ [] → Checked [] kinds
checks_nothing kinds e = subst (Checked []) (sym e) (record { of_kinds = refl; token = some_span; together = refl })

-- ---- operators

record OfLogic (op : BinOp) : Type 0 where
  sites : operator_sites op types.Truth ≡ []
  type : types.Truth ≡ result_type op types.Truth
  is_for_truths : IsTrue (is_for op types.Truth)

of_logic : (op : BinOp) → is_logic op ≡ true → OfLogic op
of_logic OrElse h = record { sites = refl; type = refl; is_for_truths = refl }
of_logic AndAlso h = record { sites = refl; type = refl; is_for_truths = refl }
of_logic Or h = let no : ⊥ = cc in absurd no
of_logic Xor h = let no : ⊥ = cc in absurd no
of_logic And h = let no : ⊥ = cc in absurd no
of_logic Eq h = let no : ⊥ = cc in absurd no
of_logic Ne h = let no : ⊥ = cc in absurd no
of_logic Lt h = let no : ⊥ = cc in absurd no
of_logic Le h = let no : ⊥ = cc in absurd no
of_logic Gt h = let no : ⊥ = cc in absurd no
of_logic Ge h = let no : ⊥ = cc in absurd no
of_logic Shl h = let no : ⊥ = cc in absurd no
of_logic Shr h = let no : ⊥ = cc in absurd no
of_logic Add h = let no : ⊥ = cc in absurd no
of_logic Sub h = let no : ⊥ = cc in absurd no
of_logic WrapAdd h = let no : ⊥ = cc in absurd no
of_logic WrapSub h = let no : ⊥ = cc in absurd no
of_logic Mul h = let no : ⊥ = cc in absurd no
of_logic Div h = let no : ⊥ = cc in absurd no
of_logic Rem h = let no : ⊥ = cc in absurd no
of_logic WrapMul h = let no : ⊥ = cc in absurd no

result_usable : (table : Table) (n : ℕ) (op : BinOp) (t : ValueType) → Usable table n t → Usable table n (result_type op t)
result_usable table n op t u = go (is_comparison op)
  where
    go : (b : Bool) → Usable table n (cond b types.Truth t)
    go true = tt
    go false = u

-- an operator on operands of one type, with a prefix of the chain at its left
binary_fine : (n : ℕ) (cenv : around.Env) (scope : List ℕ) (prefix : Bool) (op : BinOp) (label : Label) (c d : ExprCore) (t : ValueType) → HasType cenv scope c t → HasType cenv scope d t → IsTrue (is_for op t)
    → label.ty ≡ result_type op t → Checked label.checks (operator_sites op t) → IsTrue (are_settled op (part prefix c) d) → Usable cenv.core.structs n t
    → Fine n cenv scope (core.Whole (unchecked label.ty) (core.Binary label op (part prefix c) d))
binary_fine n cenv scope prefix op label c d t h g f e k s u =
    let left : type_of (part prefix c) ≡ t = part_type cenv scope prefix c h.typed ∙ h.type in
    record {
      typed = (
        (
          part_typed cenv scope prefix c h.typed,
          g.typed,
          subst (λ a. BinaryTyped label op a (type_of d)) (sym left) (record { is_for = f; same = g.type; type = e; checked = k }),
          s,
        ),
        record { type = refl; unchecked = refl },
        refl,
      );
      usable = subst (Usable cenv.core.structs n) (sym e) (result_usable cenv.core.structs n op t u);
    }

-- `-` or `~`
prefix_typed : (label : Label) (op : PrefixOp) (from : ValueType) → is_arithmetic op ≡ true → PrefixTyped label op from → PrefixedTyped label op from
prefix_typed label Neg from a h = h
prefix_typed label Flip from a h = h
prefix_typed label Not from a h = h
prefix_typed label Deref from a h = let no : ⊥ = cc in absurd no

signed_typed : (cenv : around.Env) (scope : List ℕ) (op : PrefixOp) (label : Label) (c : ExprCore) (t : ValueType) (at : Span) → is_arithmetic op ≡ true → HasType cenv scope c t → IsTrue (prefix_is_for op t) → Labelled label t (prefix_sites op) at
    → HasType cenv scope (core.Prefix label op c) t
signed_typed cenv scope op label c t at a h p l =
    record {
      typed = (h.typed, prefix_typed label op (type_of c) a (record { is_for = subst (λ u. IsTrue (prefix_is_for op u)) (sym h.type) p; type = l.ty ∙ sym h.type; checked = checked_of l }));
      type = l.ty;
    }

-- `test ? first : second`
choice_typed : (cenv : around.Env) (scope : List ℕ) (b c d : ExprCore) (t : ValueType) → HasType cenv scope b types.Truth → HasType cenv scope c t → HasType cenv scope d t → is_reference t ≡ false
    → ExprTyped cenv scope (core.Cond (unchecked t) b c d)
choice_typed cenv scope b c d t h f g k = (h.typed, f.typed, g.typed, record { test_is = h.type; first_is = f.type; second_is = g.type; value = ap not k; unchecked = refl })

-- ---- unsettled expressions have no reference's type

no_reference_held : (t : ValueType) (v : ℤ) → IsTrue (holds t v) → is_reference t ≡ false
no_reference_held types.Truth v h = refl
no_reference_held (types.Int kind) v h = refl
no_reference_held (types.Ix n) v h = refl
no_reference_held (types.Bits k) v h = refl
no_reference_held (types.Ref c r a) v h = absurd (cc)

unsettled_no_reference : {env : Env} {t : ValueType} {e : ExprSyntax} {c : ExprCore} → Under env t e c → settled e ≡ false → is_reference t ≡ false
unsettled_no_reference (rule.has h q) n = let s = has_settled h in let no : ⊥ = cc in absurd no
unsettled_no_reference (rule.literal {t = t} {v = v} h) n = no_reference_held t v h
unsettled_no_reference (rule.signed_under a s u p l) n = unsettled_no_reference u s
unsettled_no_reference (rule.operated_under g s r u v i k) n = unsettled_no_reference u s
unsettled_no_reference (rule.choice_under u s r v w) n = unsettled_no_reference v s

-- ---- names

truth_held : (b : Bool) → IsTrue (is_index 2 (truth_value b))
truth_held true = refl
truth_held false = refl

area_fine : (n : ℕ) (env : Env) (cenv : around.Env) (scope : List ℕ) (a : AreaDeclared) (area : Area) (number : ℕ) → Known cenv.core cenv.earlier env.earlier → slice_get env.earlier.areas number ≡ Some a → a.area ≡ Some area
    → Fine n cenv scope (core.AreaName (unchecked (types.Ref a.constant Global area)) number)
area_fine n env cenv scope a area number known at h =
    let o = front_at (IsArea cenv.core.structs) env.earlier.areas cenv.core.areas number a known.areas at in
    let same : area ≡ o.value.area = let s = sym h ∙ o.related.area in cc in
    record {
      typed = record { area = o.value; found = o.there; type = ap (λ c. types.Ref c Global area) (sym o.related.constant) ∙ ap (types.Ref o.value.constant Global) same; unchecked = refl };
      usable = (tt, subst (λ x. IsTrue (is_core_area cenv.core.structs x)) (sym same) o.related.there);
    }

-- ---- elements

element_fine : (n : ℕ) (cenv : around.Env) (scope : List ℕ) (prefix : Bool) (c d : ExprCore) (constant : Bool) (region : Region) (m : ℕ) (area : Area) → Fine n cenv scope c → type_of c ≡ types.Ref constant region (types.Array m area)
    → HasType cenv scope d (types.Ix m)
    → Fine n cenv scope (core.Whole (unchecked (types.Ref constant region area)) (core.Element (unchecked (types.Ref constant region area)) (part prefix c) d))
element_fine n cenv scope prefix c d constant region m area f q g =
    let u = subst (Usable cenv.core.structs n) q f.usable in
    record {
      typed = (
        (
          part_typed cenv scope prefix c f.typed,
          g.typed,
          record { constant = constant; region = region; length = m; element = area; operand = part_type cenv scope prefix c f.typed ∙ q; index_is = g.type; type = refl; unchecked = refl },
        ),
        record { type = refl; unchecked = refl },
        refl,
      );
      usable = (u.0, element_area cenv.core.structs m area u.1);
    }

-- the length of an array behind a reference
array_length : (table : Table) (n : ℕ) (t : ValueType) (constant : Bool) (region : Region) (m : ℕ) (area : Area) → Usable table n t → t ≡ types.Ref constant region (types.Array m area) → IsTrue (is_length m)
array_length table n t constant region m area u q =
    let k = subst (Usable table n) q u in
    (both (is_length m) (is_made_of _ _ area) (area_parts table (types.Array m area) k.1).of_table).0

-- ---- fields

bits_step : (n : ℕ) (cenv : around.Env) (scope : List ℕ) (prefix : Bool) (earlier : Earlier) → Known cenv.core cenv.earlier earlier → (c : ExprCore) (b number : ℕ) (name : Word) (t : ValueType) → Fine n cenv scope c → type_of c ≡ types.Bits b
    → field_type earlier (types.Bits b) name ≡ Some t → bit_field_number earlier b name ≡ Some number → Fine n cenv scope (core.Whole (unchecked t) (core.Field (unchecked t) (part prefix c) number))
bits_step n cenv scope prefix earlier known c b number name t f q x y =
    let r = mapped bit_field_type (bit_field_named earlier b name) t x in
    let p = has_bit_field cenv.core cenv.earlier earlier b number name r.value known r.there y in
    record {
      typed = (
        (part_typed cenv scope prefix c f.typed, inl (record { number = b; bits = placed_at p.start (wish_of r.value); operand = part_type cenv scope prefix c f.typed ∙ q; found = p.found; type = r.is; unchecked = refl })),
        record { type = refl; unchecked = refl },
        refl,
      );
      usable = subst (Usable cenv.core.structs n) (sym r.is) (bit_type_usable cenv.core n r.value);
    }

field_step : (n : ℕ) (cenv : around.Env) (scope : List ℕ) (prefix : Bool) (earlier : Earlier) → Known cenv.core cenv.earlier earlier → (c : ExprCore) (constant : Bool) (region : Region) (b number : ℕ) (name : Word) (t : ValueType)
    → Fine n cenv scope c → type_of c ≡ types.Ref constant region (types.Struct b) → field_type earlier (type_of c) name ≡ Some t → field_number earlier b name ≡ Some number
    → Fine n cenv scope (core.Whole (unchecked t) (core.Field (unchecked t) (part prefix c) number))
field_step n cenv scope prefix earlier known c constant region b number name t f q x y =
    let p = has_field cenv.core cenv.earlier earlier constant region b number name t known (ap (λ u. field_type earlier u name) (sym q) ∙ x) y in
    let u = subst (Usable cenv.core.structs n) q f.usable in
    record {
      typed = (
        (
          part_typed cenv scope prefix c f.typed,
          inr (record { constant = constant; region = region; number = b; area = p.area; operand = part_type cenv scope prefix c f.typed ∙ q; found = p.found; type = p.is; unchecked = refl }),
        ),
        record { type = refl; unchecked = refl },
        refl,
      );
      usable = subst (Usable cenv.core.structs n) (sym p.is) (u.0, p.fits);
    }

-- what gives no truth has the type of its operands
no_truth_type : (op : BinOp) (t : ValueType) → gives_truth op ≡ false → result_type op t ≡ t
no_truth_type op t h = go (is_logic op) (is_comparison op) h
  where
    go : (a b : Bool) → a || b ≡ false → cond b types.Truth t ≡ t
    go a false e = refl
    go true true e = let no : ⊥ = cc in absurd no
    go false true e = let no : ⊥ = cc in absurd no

-- ---- expressions

mutual
  pub has_fine : {env : Env} {e : ExprSyntax} {c : ExprCore} → Has env e c → (n : ℕ) (cenv : around.Env) (scope : List ℕ) → Around n env cenv scope → Fine n cenv scope c
  has_fine (rule.truth {b = b}) n cenv scope k = record { typed = record { form = refl; type = refl; holds = truth_held b; unchecked = refl }; usable = tt }
  has_fine (rule.outcome {t = t} h g) n cenv scope k = let o = k.outcome t h g in record { typed = record { outcome = o.is; unchecked = refl }; usable = o.usable }
  has_fine (rule.local {name = name} {l = l} h) n cenv scope k = let o = k.locals name l h in record { typed = record { in_scope = o.in_scope; type = o.type; unchecked = refl }; usable = o.usable }
  has_fine (rule.area_name {env = env} {name = name} {a = a} {area = area} {number = number} x h g q) n cenv scope k =
      area_fine n env cenv scope a area number k.known (found_at (λ (y : AreaDeclared). same_word y.name name) number env.earlier.areas a q h) g
  has_fine (rule.cast {kind = kind} {c = c} {label = label} h i l) n cenv scope k =
      let f = has_fine h n cenv scope k in
      record { typed = (f.typed, record { kind = kind; type = l.ty; operand = i; checked = checked_of l }, inl (has_is_settled h)); usable = subst (Usable cenv.core.structs n) (sym l.ty) tt }
  has_fine (rule.cast_literal {kind = kind} {c = c} s u) n cenv scope k =
      let f = under_fine u n cenv scope k tt in
      record {
        typed = (
          f.typed,
          record { kind = kind; type = refl; operand = subst (λ t. IsTrue (is_integer t || is_index_type t)) (sym f.type) refl; checked = checks_nothing (cast_sites kind (type_of c)) (ap (cast_sites kind) f.type ∙ same_kind_unchecked kind) },
          inr f.type,
        );
        usable = tt;
      }
  has_fine (rule.to_index {n = m} {c = c} {label = label} x h i l) n cenv scope k =
      let f = has_fine h n cenv scope k in
      let t = integer_is (type_of c) i in
      record {
        typed = (f.typed, record { length = m; kind = t.kind; type = l.ty; in_range = x; operand = t.is; checked = subst (λ u. Checked label.checks (index_sites m u)) t.is (checked_of l) }, has_is_settled h);
        usable = subst (Usable cenv.core.structs n) (sym l.ty) x;
      }
  has_fine (rule.wrap_index {n = m} {c = c} x h i) n cenv scope k =
      let f = has_fine h n cenv scope k in
      let t = integer_is (type_of c) i in
      record { typed = (f.typed, record { length = m; kind = t.kind; type = refl; in_range = x; operand = t.is; unchecked = refl }, has_is_settled h); usable = x }
  has_fine (rule.make_bits {env = env} {name = name} {k = b} {word = word} x w u) n cenv scope k =
      let p = has_word cenv.core cenv.earlier env.earlier (types.Bits b) word k.known w in
      let f = under_fine u n cenv scope k (subst (Usable cenv.core.structs n) (sym p.is) tt) in
      record {
        typed = (f.typed, record { number = p.number; layout = p.layout; found = p.there; bits_are = p.bits; word_is = f.type ∙ p.is }, refl);
        usable = bits_usable cenv.core cenv.earlier env.earlier n b k.known (below_zero b _ (position_below _ 0 env.earlier.bits b x));
      }
  has_fine (rule.raw {env = env} {c = c} {word = word} h w) n cenv scope k =
      let f = has_fine h n cenv scope k in
      let p = has_word cenv.core cenv.earlier env.earlier (type_of c) word k.known w in
      record { typed = (f.typed, record { number = p.number; layout = p.layout; found = p.there; bits_are = p.bits; word_is = p.is }, refl); usable = subst (Usable cenv.core.structs n) (sym p.is) tt }
  has_fine (rule.set_field {env = env} {name = name} {c = c} {d = d} {k = b} {number = number} {f = field} {label = label} h q x y u l) n cenv scope k =
      let f = has_fine h n cenv scope k in
      let p = has_bit_field cenv.core cenv.earlier env.earlier b number name.text field k.known x y in
      let g = under_fine u n cenv scope k (bit_type_usable cenv.core n field) in
      record {
        typed = (f.typed, g.typed, record { number = b; bits = placed_at p.start (wish_of field); operand = q; found = p.found; type = l.ty ∙ sym q; value_is = g.type; checked = checked_of l });
        usable = subst (Usable cenv.core.structs n) (q ∙ sym l.ty) f.usable;
      }
  has_fine (rule.negated u) n cenv scope k =
      let f = under_fine u n cenv scope k tt in
      record { typed = (f.typed, record { is_for = subst (λ t. IsTrue (prefix_is_for Not t)) (sym f.type) refl; type = sym f.type; checked = checks_nothing [] refl }); usable = tt }
  has_fine (rule.read {c = c} {t = t} h s) n cenv scope k =
      let f = has_fine h n cenv scope k in
      let p = stored_behind (type_of c) t s in
      let u = subst (Usable cenv.core.structs n) p.is f.usable in
      record { typed = (f.typed, record { constant = p.constant; region = p.region; operand = p.is; unchecked = refl }); usable = held_usable cenv.core.structs n t u.1 }
  has_fine (rule.signed {op = op} {c = c} {label = label} a h p l) n cenv scope k =
      let f = has_fine h n cenv scope k in
      let g = signed_typed cenv scope op label c (type_of c) _ a (record { typed = f.typed; type = refl }) p l in
      record { typed = g.typed; usable = subst (Usable cenv.core.structs n) (sym g.type) f.usable }
  has_fine (rule.logical {s = s} {op = op} {left = left} {c = c} {d = d} l u v) n cenv scope k =
      let o = of_logic op l in
      binary_fine n cenv scope (is_chain_prefix s op left) op (unchecked types.Truth) c d types.Truth (under_fine u n cenv scope k tt) (under_fine v n cenv scope k tt) o.is_for_truths o.type (checks_nothing (operator_sites op types.Truth) o.sites)
      (settled_anyhow op (part (is_chain_prefix s op left) c) d (logic_compares op l)) tt
  has_fine (rule.by_left {s = s} {op = op} {left = left} {c = c} {d = d} {label = label} l h u i m) n cenv scope k =
      let f = has_fine h n cenv scope k in
      binary_fine n cenv scope (is_chain_prefix s op left) op label c d (type_of c) (record { typed = f.typed; type = refl }) (under_fine u n cenv scope k f.usable) i m.ty (checked_of m)
      (settled_by_left op (part (is_chain_prefix s op left) c) d (part_settled (is_chain_prefix s op left) c ∙ has_is_settled h)) f.usable
  has_fine (rule.by_right {s = s} {op = op} {left = left} {c = c} {d = d} {label = label} l x h u i m) n cenv scope k =
      let f = has_fine h n cenv scope k in
      binary_fine n cenv scope (is_chain_prefix s op left) op label c d (type_of d) (under_fine u n cenv scope k f.usable) (record { typed = f.typed; type = refl }) i m.ty (checked_of m)
      (settled_by_right op (part (is_chain_prefix s op left) c) d (has_is_settled h)) f.usable
  has_fine (rule.bit_field {env = env} {s = s} {e = e} {name = name} {c = c} {k = b} {number = number} {t = t} h q x y) n cenv scope k =
      let f = has_fine h n cenv scope k in
      bits_step n cenv scope (is_postfix_prefix s e) env.earlier k.known c b number name.text t f q x y
  has_fine (rule.field {env = env} {s = s} {e = e} {name = name} {c = c} {constant = constant} {region = region} {k = b} {number = number} {t = t} h q x y) n cenv scope k =
      let f = has_fine h n cenv scope k in
      field_step n cenv scope (is_postfix_prefix s e) env.earlier k.known c constant region b number name.text t f q x y
  has_fine (rule.element {s = s} {e = e} {c = c} {d = d} {constant = constant} {region = region} {n = m} {area = area} h q u) n cenv scope k =
      let f = has_fine h n cenv scope k in
      element_fine n cenv scope (is_postfix_prefix s e) c d constant region m area f q (under_fine u n cenv scope k (array_length cenv.core.structs n (type_of c) constant region m area f.usable q))
  has_fine (rule.choice_by_first {b = b} {c = c} {d = d} u h v x) n cenv scope k =
      let f = has_fine h n cenv scope k in
      record { typed = choice_typed cenv scope b c d (type_of c) (under_fine u n cenv scope k tt) (record { typed = f.typed; type = refl }) (under_fine v n cenv scope k f.usable) x; usable = f.usable }
  has_fine (rule.choice_by_second {b = b} {c = c} {d = d} u y h v x) n cenv scope k =
      let f = has_fine h n cenv scope k in
      record { typed = choice_typed cenv scope b c d (type_of d) (under_fine u n cenv scope k tt) (under_fine v n cenv scope k f.usable) (record { typed = f.typed; type = refl }) x; usable = f.usable }

  pub under_fine : {env : Env} {t : ValueType} {e : ExprSyntax} {c : ExprCore} → Under env t e c → (n : ℕ) (cenv : around.Env) (scope : List ℕ) → Around n env cenv scope → Usable cenv.core.structs n t → HasType cenv scope c t
  under_fine (rule.has h q) n cenv scope k u = let f = has_fine h n cenv scope k in record { typed = f.typed; type = q }
  under_fine (rule.literal {t = t} {v = v} h) n cenv scope k u =
      let f = number_held cenv.core.structs n t v u h in record { typed = record { form = f.form; type = f.type; holds = f.value; unchecked = refl }; type = refl }
  under_fine (rule.signed_under {t = t} {op = op} {c = c} {label = label} a s v p l) n cenv scope k u = signed_typed cenv scope op label c t _ a (under_fine v n cenv scope k u) p l
  under_fine (rule.operated_under {t = t} {s = s} {op = op} {left = left} {c = c} {d = d} {label = label} g x y v w i m) n cenv scope k u =
      let f = binary_fine n cenv scope (is_chain_prefix s op left) op label c d t (under_fine v n cenv scope k u) (under_fine w n cenv scope k u) i (m.ty ∙ sym (no_truth_type op t g)) (checked_of m) (settled_anyhow op (part (is_chain_prefix s op left) c) d (no_truth_compares op g)) u in
      record { typed = f.typed; type = m.ty }
  under_fine (rule.choice_under {t = t} {b = b} {c = c} {d = d} v x y w z) n cenv scope k u =
      record { typed = choice_typed cenv scope b c d t (under_fine v n cenv scope k tt) (under_fine w n cenv scope k u) (under_fine z n cenv scope k u) (unsettled_no_reference w x); type = refl }
