-- Which expressions have a type, and the core that each stands for. A settled one gets its type from its parts (Has); of another a type is
-- wanted (Under), and a settled one has the wanted type.
use Rattle.std.specs.Prelude.{◌≡◌, ℕ, ℤ, pos, Bool, true, false, if◌then◌else◌, ◌||◌, Some, None, IsTrue}
use Rattle.iv_words.specs.declared.IntKind.{IntKind}
use Rattle.iv_words.specs.declared.Name.{Name}
use Rattle.iv_words.specs.declared.Span.{Span}
use Rattle.ivory_tree.specs.Syntax.{Word, ExprSyntax, Literal, Truth, Outcome, Variable, Cast, ToIndex, WrapIndex, MakeBits, Raw, SetField, Prefix, Binary, Field, Element, Cond}
use Rattle.ivory_tree.specs.declared.expr.BinOp.{BinOp}
use Rattle.ivory_tree.specs.declared.expr.PrefixOp.{PrefixOp}
use Rattle.ivory_tree.specs.declared.expr.PrefixOp.TheVariants.{Not, Deref}
use Rattle.ivory_tree.specs.declared.items.BitField.{BitField}
use Rattle.area_types.specs.Syntax as types
use Rattle.area_types.specs.Syntax.{ValueType, Area, Int, Ix, Bits, Ref}
use Rattle.area_types.specs.Tables.{is_length}
use Rattle.area_types.specs.declared.region.Region.{Region}
use Rattle.area_types.specs.declared.region.Region.TheVariants.{Global}
use Rattle.core_tree.specs.Syntax as core
use Rattle.core_tree.specs.Syntax.{ExprCore, Label, Whole, type_of}
use Rattle.source_types.specs.Values.{holds, is_integer, is_index_type, is_reference}
use Rattle.source_types.specs.Operators.{is_logic, gives_truth, is_for, is_arithmetic, prefix_is_for}
use Rattle.source_types.specs.Settled.{settled}
use Rattle.source_types.specs.Environments.{AreaDeclared, area_named, number_of_bits}
use Rattle.source_types.specs.Parts.{stored_type, field_type, word_type, bit_field_type, bit_field_named, bit_field_number, field_number}
use Rattle.typing_rules.specs.Environments.{Env, Local, local_named, area_number}
use Rattle.core_tree.specs.Operators.{operator_sites, prefix_sites, cast_sites, result_type}
use Rattle.typing_rules.specs.Sites.{Labelled, unchecked, index_sites, set_sites, first_token, name_bytes}
use Rattle.typing_rules.specs.Wholes.{is_chain_prefix, is_postfix_prefix, part}

abbrev pub truth_value : Bool → ℤ
truth_value b = if b then pos 1 else pos 0

-- a chain up to an operator, with the core of its left operand
abbrev pub chain : Span → BinOp → ExprSyntax → Label → (left right : ExprCore) → ExprCore
chain s op left label c d = Whole (unchecked label.ty) (core.Binary label op (part (is_chain_prefix s op left) c) d)

abbrev pub field_of : Span → ExprSyntax → ValueType → ExprCore → ℕ → ExprCore
field_of s base t c number = Whole (unchecked t) (core.Field (unchecked t) (part (is_postfix_prefix s base) c) number)

abbrev pub element_of : Span → ExprSyntax → ValueType → ExprCore → ExprCore → ExprCore
element_of s base t c index = Whole (unchecked t) (core.Element (unchecked t) (part (is_postfix_prefix s base) c) index)

mutual
  pub data Has : Env → ExprSyntax → ExprCore → Type 0 where
    truth : {env : Env} {s : Span} {b : Bool} → Has env (Truth s b) (core.Number (unchecked types.Truth) (truth_value b))
    outcome : {env : Env} {s : Span} {t : ValueType} → env.in_ensures ≡ true → env.result ≡ Some t → Has env (Outcome s) (core.Outcome (unchecked t))
    local : {env : Env} {s : Span} {name : Word} {l : Local} → local_named env name ≡ Some l → Has env (Variable s name) (core.Local (unchecked l.ty) l.number)
    -- the name of an area is a reference to it
    area_name : {env : Env} {s : Span} {name : Word} {a : AreaDeclared} {area : Area} {number : ℕ} → local_named env name ≡ None → area_named env.earlier name ≡ Some a → a.area ≡ Some area
        → area_number env.earlier name ≡ Some number → Has env (Variable s name) (core.AreaName (unchecked (Ref a.constant Global area)) number)
    cast : {env : Env} {s : Span} {kind : IntKind} {e : ExprSyntax} {c : ExprCore} {label : Label} → Has env e c → IsTrue (is_integer (type_of c) || is_index_type (type_of c))
        → Labelled label (Int kind) (cast_sites kind (type_of c)) (first_token s (name_bytes kind)) → Has env (Cast s kind e) (core.Cast label c)
    -- of an unsettled operand T is wanted, and nothing is checked
    cast_literal : {env : Env} {s : Span} {kind : IntKind} {e : ExprSyntax} {c : ExprCore} → settled e ≡ false → Under env (Int kind) e c → Has env (Cast s kind e) (core.Cast (unchecked (Int kind)) c)
    to_index : {env : Env} {s : Span} {n : ℕ} {e : ExprSyntax} {c : ExprCore} {label : Label} → IsTrue (is_length n) → Has env e c → IsTrue (is_integer (type_of c))
        → Labelled label (Ix n) (index_sites n (type_of c)) (first_token s 4) → Has env (ToIndex s n e) (core.ToIndex label c)
    wrap_index : {env : Env} {s : Span} {n : ℕ} {e : ExprSyntax} {c : ExprCore} → IsTrue (is_length n) → Has env e c → IsTrue (is_integer (type_of c)) → Has env (WrapIndex s n e) (core.WrapIndex (unchecked (Ix n)) c)
    -- the operand of `bits` is wanted as the word
    make_bits : {env : Env} {s : Span} {name : Word} {e : ExprSyntax} {c : ExprCore} {k : ℕ} {word : ValueType} → number_of_bits env.earlier name ≡ Some k → word_type env.earlier (Bits k) ≡ Some word
        → Under env word e c → Has env (MakeBits s name e) (core.MakeBits (unchecked (Bits k)) c)
    raw : {env : Env} {s : Span} {e : ExprSyntax} {c : ExprCore} {word : ValueType} → Has env e c → word_type env.earlier (type_of c) ≡ Some word → Has env (Raw s e) (core.Raw (unchecked word) c)
    -- the new value is wanted as the field's type
    set_field : {env : Env} {s : Span} {e value : ExprSyntax} {name : Name} {c d : ExprCore} {k number : ℕ} {f : BitField} {label : Label} → Has env e c → type_of c ≡ Bits k
        → bit_field_named env.earlier k name.text ≡ Some f → bit_field_number env.earlier k name.text ≡ Some number → Under env (bit_field_type f) value d
        → Labelled label (Bits k) (set_sites f) (first_token s 3) → Has env (SetField s e name value) (core.SetField label c number d)
    negated : {env : Env} {s : Span} {e : ExprSyntax} {c : ExprCore} → Under env types.Truth e c → Has env (Prefix s Not e) (core.Prefix (unchecked types.Truth) Not c)
    read : {env : Env} {s : Span} {e : ExprSyntax} {c : ExprCore} {t : ValueType} → Has env e c → stored_type (type_of c) ≡ Some t → Has env (Prefix s Deref e) (core.Prefix (unchecked t) Deref c)
    signed : {env : Env} {s : Span} {op : PrefixOp} {e : ExprSyntax} {c : ExprCore} {label : Label} → is_arithmetic op ≡ true → Has env e c → IsTrue (prefix_is_for op (type_of c))
        → Labelled label (type_of c) (prefix_sites op) (first_token s 1) → Has env (Prefix s op e) (core.Prefix label op c)
    logical : {env : Env} {s at : Span} {op : BinOp} {left right : ExprSyntax} {c d : ExprCore} → is_logic op ≡ true → Under env types.Truth left c → Under env types.Truth right d
        → Has env (Binary s op at left right) (chain s op left (unchecked types.Truth) c d)
    -- the type of the first settled operand, which is wanted of the other
    by_left : {env : Env} {s at : Span} {op : BinOp} {left right : ExprSyntax} {c d : ExprCore} {label : Label} → is_logic op ≡ false → Has env left c → Under env (type_of c) right d → IsTrue (is_for op (type_of c))
        → Labelled label (result_type op (type_of c)) (operator_sites op (type_of c)) at → Has env (Binary s op at left right) (chain s op left label c d)
    by_right : {env : Env} {s at : Span} {op : BinOp} {left right : ExprSyntax} {c d : ExprCore} {label : Label} → is_logic op ≡ false → settled left ≡ false → Has env right d → Under env (type_of d) left c
        → IsTrue (is_for op (type_of d)) → Labelled label (result_type op (type_of d)) (operator_sites op (type_of d)) at → Has env (Binary s op at left right) (chain s op left label c d)
    -- a field of bit data
    bit_field : {env : Env} {s : Span} {e : ExprSyntax} {name : Name} {c : ExprCore} {k number : ℕ} {t : ValueType} → Has env e c → type_of c ≡ Bits k → field_type env.earlier (Bits k) name.text ≡ Some t
        → bit_field_number env.earlier k name.text ≡ Some number → Has env (Field s e name) (field_of s e t c number)
    -- a reference to a field of the struct behind one
    field : {env : Env} {s : Span} {e : ExprSyntax} {name : Name} {c : ExprCore} {constant : Bool} {region : Region} {k number : ℕ} {t : ValueType} → Has env e c → type_of c ≡ Ref constant region (types.Struct k)
        → field_type env.earlier (type_of c) name.text ≡ Some t → field_number env.earlier k name.text ≡ Some number → Has env (Field s e name) (field_of s e t c number)
    -- a reference to an element of the array behind one; its index is wanted as `ix(n)`
    element : {env : Env} {s brackets : Span} {e index : ExprSyntax} {c d : ExprCore} {constant : Bool} {region : Region} {n : ℕ} {area : Area} → Has env e c
        → type_of c ≡ Ref constant region (types.Array n area) → Under env (Ix n) index d → Has env (Element s brackets e index) (element_of s e (Ref constant region area) c d)
    -- arms of bool, integer, index or bit data
    choice_by_first : {env : Env} {s : Span} {test first second : ExprSyntax} {b c d : ExprCore} → Under env types.Truth test b → Has env first c → Under env (type_of c) second d
        → is_reference (type_of c) ≡ false → Has env (Cond s test first second) (core.Cond (unchecked (type_of c)) b c d)
    choice_by_second : {env : Env} {s : Span} {test first second : ExprSyntax} {b c d : ExprCore} → Under env types.Truth test b → settled first ≡ false → Has env second d → Under env (type_of d) first c
        → is_reference (type_of d) ≡ false → Has env (Cond s test first second) (core.Cond (unchecked (type_of d)) b c d)

  pub data Under : Env → ValueType → ExprSyntax → ExprCore → Type 0 where
    has : {env : Env} {t : ValueType} {e : ExprSyntax} {c : ExprCore} → Has env e c → type_of c ≡ t → Under env t e c
    literal : {env : Env} {t : ValueType} {s : Span} {v : ℤ} → IsTrue (holds t v) → Under env t (Literal s v) (core.Number (unchecked t) v)
    signed_under : {env : Env} {t : ValueType} {s : Span} {op : PrefixOp} {e : ExprSyntax} {c : ExprCore} {label : Label} → is_arithmetic op ≡ true → settled e ≡ false → Under env t e c → IsTrue (prefix_is_for op t)
        → Labelled label t (prefix_sites op) (first_token s 1) → Under env t (Prefix s op e) (core.Prefix label op c)
    operated_under : {env : Env} {t : ValueType} {s at : Span} {op : BinOp} {left right : ExprSyntax} {c d : ExprCore} {label : Label} → gives_truth op ≡ false → settled left ≡ false → settled right ≡ false
        → Under env t left c → Under env t right d → IsTrue (is_for op t) → Labelled label t (operator_sites op t) at → Under env t (Binary s op at left right) (chain s op left label c d)
    choice_under : {env : Env} {t : ValueType} {s : Span} {test first second : ExprSyntax} {b c d : ExprCore} → Under env types.Truth test b → settled first ≡ false → settled second ≡ false → Under env t first c → Under env t second d
        → Under env t (Cond s test first second) (core.Cond (unchecked t) b c d)
