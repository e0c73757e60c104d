-- An expression that is typed has the core that is made of its text, up to the numbers of its checks, so it has no other.
use Rattle.std.proofs.Common.{◌≡◌, ℕ, List, [], ◌∷◌, map, Some, None, option_map, Bool, true, false, cond, IsTrue, refl, sym, ◌∙◌, ap, ap₂}
use Rattle.iv_words.specs.declared.Span.{Span}
use Rattle.ivory_tree.specs.Syntax as syntax
use Rattle.ivory_tree.specs.Syntax.{Word, ExprSyntax}
use Rattle.ivory_tree.specs.declared.expr.BinOp.{BinOp}
use Rattle.ivory_tree.specs.declared.expr.BinOp.TheVariants.{OrElse, AndAlso, Or, Xor, And, Eq, Ne, Lt, Le, Gt, Ge, Shl, Shr, Add, Sub, WrapAdd, WrapSub, Mul, Div, Rem, WrapMul}
use Rattle.ivory_tree.specs.declared.expr.PrefixOp.{PrefixOp}
use Rattle.ivory_tree.specs.declared.expr.PrefixOp.TheVariants.{Neg, Not, Flip, Deref}
use Rattle.area_types.specs.Syntax as types
use Rattle.area_types.specs.Syntax.{ValueType, Area, Int, Ix, Bits, Ref}
use Rattle.area_types.specs.Tables.{is_length}
use Rattle.area_types.specs.declared.region.Region.TheVariants.{Global}
use Rattle.core_tree.specs.Syntax as core
use Rattle.core_tree.specs.Syntax.{ExprCore, Label, type_of}
use Rattle.core_tree.specs.declared.Check.{Check}
use Rattle.core_tree.specs.declared.SiteKind.{SiteKind}
use Rattle.source_types.specs.Operators.{is_logic, is_arithmetic}
use Rattle.source_types.specs.Settled.{settled}
use Rattle.source_types.specs.Parts.{length_behind, word_type, bit_field_named, bit_field_number}
use Rattle.rule_faults.specs.Types.{own_type}
use Rattle.typing_rules.specs.Environments.{Env, Local, area_number}
use Rattle.typing_rules.specs.Contexts.{context_of}
use Rattle.core_tree.specs.Operators.{operator_sites, prefix_sites, cast_sites, result_type}
use Rattle.typing_rules.specs.Sites.{Labelled, unchecked, index_sites, first_token, name_bytes}
use Rattle.typing_rules.specs.Wholes.{is_chain_prefix, is_postfix_prefix}
use Rattle.typing_rules.specs.Expressions as rule
use Rattle.typing_rules.specs.Expressions.{Has, Under, chain, field_of, element_of}
use Rattle.typing_rules.specs.OtherChecks.{label_by, expr_by}
use Rattle.typing_rules.specs.ExpressionCores.{checks_at, bare, type_or, number_or, length_or, own, name_core, bits_number, new_type, new_sites, number_in, beside, operand, operated, core_of}
use Rattle.typing_laws.proofs.TypesAgree.{has_settled, typed, under_typed}
use Rattle.typing_laws.proofs.Clean.{not_logic}
use Rattle.typing_laws.proofs.Relabelled.{type_by, part_by}
use Rattle.typing_laws.proofs.Ranks.{unnumbered}

-- ---- labels

pub carried : (checks : List Check) (kinds : List SiteKind) (at : Span) → map (λ (c : Check). c.kind) checks ≡ kinds → map (λ (c : Check). c.span) checks ≡ map (λ (k : SiteKind). at) kinds → map unnumbered checks ≡ checks_at kinds at
carried [] [] at h k = refl
carried [] (x ∷ kinds) at h k = let no : ⊥ = cc in absurd no
carried (c ∷ checks) [] at h k = let no : ⊥ = cc in absurd no
carried (c ∷ checks) (x ∷ kinds) at h k =
    let kind : c.kind ≡ x = cc in
    let span : c.span ≡ at = cc in
    let kinds_same : map (λ (d : Check). d.kind) checks ≡ kinds = cc in
    let spans_same : map (λ (d : Check). d.span) checks ≡ map (λ (y : SiteKind). at) kinds = cc in
    ap₂ (λ (k : SiteKind) (s : Span). record { site = 0; kind = k; span = s } ∷ map unnumbered checks) kind span ∙ ap (λ cs. record { site = 0; kind = x; span = at } ∷ cs) (carried checks kinds at kinds_same spans_same)

pub labelled_bare : {label : Label} {t : ValueType} {kinds : List SiteKind} {at : Span} → Labelled label t kinds at → label_by unnumbered label ≡ bare t kinds at
labelled_bare {label = label} {t = t} {kinds = kinds} {at = at} l = ap₂ (λ (u : ValueType) (cs : List Check). record { ty = u; checks = cs }) l.ty (carried label.checks kinds at l.checks.kinds l.checks.places)

-- ---- lengths and types

length_if : (n : ℕ) (b : Bool) → b ≡ true → cond b n 0 ≡ n
length_if n true h = refl
length_if n false h = let no : ⊥ = cc in absurd no

pub length_is : (n : ℕ) → IsTrue (is_length n) → length_or n ≡ n
length_is n h = length_if n (is_length n) h

-- the type of what is typed, by its form
own_is : {env : Env} {e : ExprSyntax} {c : ExprCore} → Has env e c → own env e ≡ type_of c
own_is h = ap type_or (typed h None)

-- ---- what is wanted

beside_first : (env : Env) (w t : ValueType) (x y : ExprSyntax) → settled x ≡ true → own_type (context_of env) x ≡ Some t → beside env w x y ≡ t
beside_first env w t x y h k = rw (h, k) refl

beside_second : (env : Env) (w t : ValueType) (x y : ExprSyntax) → settled x ≡ false → settled y ≡ true → own_type (context_of env) y ≡ Some t → beside env w x y ≡ t
beside_second env w t x y n h k = rw (n, h, k) refl

beside_none : (env : Env) (w : ValueType) (x y : ExprSyntax) → settled x ≡ false → settled y ≡ false → beside env w x y ≡ w
beside_none env w x y n m = rw (n, m) refl

operand_truth : (env : Env) (w : ValueType) (op : BinOp) (x y : ExprSyntax) → is_logic op ≡ true → operand env w op x y ≡ types.Truth
operand_truth env w op x y l = ap (λ b. cond b types.Truth (beside env w x y)) l

operand_beside : (env : Env) (w : ValueType) (op : BinOp) (x y : ExprSyntax) → is_logic op ≡ false → operand env w op x y ≡ beside env w x y
operand_beside env w op x y l = ap (λ b. cond b types.Truth (beside env w x y)) l

logic_label : (op : BinOp) (at : Span) → is_logic op ≡ true → Labelled (unchecked types.Truth) (result_type op types.Truth) (operator_sites op types.Truth) at
logic_label OrElse at h = record { ty = refl; checks = record { kinds = refl; places = refl } }
logic_label AndAlso at h = record { ty = refl; checks = record { kinds = refl; places = refl } }
logic_label Or at h = let no : ⊥ = cc in absurd no
logic_label Xor at h = let no : ⊥ = cc in absurd no
logic_label And at h = let no : ⊥ = cc in absurd no
logic_label Eq at h = let no : ⊥ = cc in absurd no
logic_label Ne at h = let no : ⊥ = cc in absurd no
logic_label Lt at h = let no : ⊥ = cc in absurd no
logic_label Le at h = let no : ⊥ = cc in absurd no
logic_label Gt at h = let no : ⊥ = cc in absurd no
logic_label Ge at h = let no : ⊥ = cc in absurd no
logic_label Shl at h = let no : ⊥ = cc in absurd no
logic_label Shr at h = let no : ⊥ = cc in absurd no
logic_label Add at h = let no : ⊥ = cc in absurd no
logic_label Sub at h = let no : ⊥ = cc in absurd no
logic_label WrapAdd at h = let no : ⊥ = cc in absurd no
logic_label WrapSub at h = let no : ⊥ = cc in absurd no
logic_label Mul at h = let no : ⊥ = cc in absurd no
logic_label Div at h = let no : ⊥ = cc in absurd no
logic_label Rem at h = let no : ⊥ = cc in absurd no
logic_label WrapMul at h = let no : ⊥ = cc in absurd no

-- ---- links and steps

pub chain_by : (g : Check → Check) (s : Span) (op : BinOp) (left : ExprSyntax) (label : Label) (c d : ExprCore) → expr_by g (chain s op left label c d) ≡ chain s op left (label_by g label) (expr_by g c) (expr_by g d)
chain_by g s op left label c d = ap (λ (x : ExprCore). core.Whole (unchecked label.ty) (core.Binary (label_by g label) op x (expr_by g d))) (part_by g (is_chain_prefix s op left) c)

pub field_by : (g : Check → Check) (s : Span) (base : ExprSyntax) (t : ValueType) (c : ExprCore) (number : ℕ) → expr_by g (field_of s base t c number) ≡ field_of s base t (expr_by g c) number
field_by g s base t c number = ap (λ (x : ExprCore). core.Whole (unchecked t) (core.Field (unchecked t) x number)) (part_by g (is_postfix_prefix s base) c)

pub element_by : (g : Check → Check) (s : Span) (base : ExprSyntax) (t : ValueType) (c d : ExprCore) → expr_by g (element_of s base t c d) ≡ element_of s base t (expr_by g c) (expr_by g d)
element_by g s base t c d = ap (λ (x : ExprCore). core.Whole (unchecked t) (core.Element (unchecked t) x (expr_by g d))) (part_by g (is_postfix_prefix s base) c)

-- an operator on operands of which this type is wanted
operated_is : (env : Env) (w t : ValueType) (s at : Span) (op : BinOp) (left right : ExprSyntax) (c d : ExprCore) (label : Label) → operand env w op left right ≡ t → core_of env t left ≡ expr_by unnumbered c → core_of env t right ≡ expr_by unnumbered d
    → Labelled label (result_type op t) (operator_sites op t) at → core_of env w (syntax.Binary s op at left right) ≡ expr_by unnumbered (chain s op left label c d)
operated_is env w t s at op left right c d label h k l m =
    ap (λ u. operated s op at left u (core_of env u left) (core_of env u right)) h
    ∙ ap₂ (λ x y. operated s op at left t x y) k l
    ∙ ap (λ x. chain s op left x (expr_by unnumbered c) (expr_by unnumbered d)) (sym (labelled_bare m))
    ∙ sym (chain_by unnumbered s op left label c d)

choice_is : (env : Env) (w t : ValueType) (s : Span) (test first second : ExprSyntax) (b c d : ExprCore) → beside env w first second ≡ t → core_of env types.Truth test ≡ expr_by unnumbered b → core_of env t first ≡ expr_by unnumbered c
    → core_of env t second ≡ expr_by unnumbered d → core_of env w (syntax.Cond s test first second) ≡ expr_by unnumbered (core.Cond (unchecked t) b c d)
choice_is env w t s test first second b c d h k l m =
    ap (λ u. core.Cond (unchecked u) (core_of env types.Truth test) (core_of env u first) (core_of env u second)) h
    ∙ ap (λ x. core.Cond (unchecked t) x (core_of env t first) (core_of env t second)) k
    ∙ ap₂ (λ x y. core.Cond (unchecked t) (expr_by unnumbered b) x y) l m

signed_is : (env : Env) (w t : ValueType) (s : Span) (op : PrefixOp) (e : ExprSyntax) (c : ExprCore) (label : Label) → is_arithmetic op ≡ true → core_of env w e ≡ expr_by unnumbered c → type_of c ≡ t
    → Labelled label t (prefix_sites op) (first_token s 1) → core_of env w (syntax.Prefix s op e) ≡ expr_by unnumbered (core.Prefix label op c)
signed_is env w t s Neg e c label a h q l =
    ap (λ x. core.Prefix (bare (type_of x) (prefix_sites Neg) (first_token s 1)) Neg x) h
    ∙ ap (λ u. core.Prefix (bare u (prefix_sites Neg) (first_token s 1)) Neg (expr_by unnumbered c)) (type_by unnumbered c ∙ q)
    ∙ ap (λ x. core.Prefix x Neg (expr_by unnumbered c)) (sym (labelled_bare l))
signed_is env w t s Flip e c label a h q l =
    ap (λ x. core.Prefix (bare (type_of x) (prefix_sites Flip) (first_token s 1)) Flip x) h
    ∙ ap (λ u. core.Prefix (bare u (prefix_sites Flip) (first_token s 1)) Flip (expr_by unnumbered c)) (type_by unnumbered c ∙ q)
    ∙ ap (λ x. core.Prefix x Flip (expr_by unnumbered c)) (sym (labelled_bare l))
signed_is env w t s Not e c label a h q l = let no : ⊥ = cc in absurd no
signed_is env w t s Deref e c label a h q l = let no : ⊥ = cc in absurd no

-- ---- expressions

mutual
  pub has_core : {env : Env} {e : ExprSyntax} {c : ExprCore} → Has env e c → (w : ValueType) → core_of env w e ≡ expr_by unnumbered c
  has_core rule.truth w = refl
  has_core (rule.outcome {env = env} {s = s} {t = t} h g) w = ap (λ u. core.Outcome (unchecked u)) (own_is (rule.outcome {env = env} {s = s} {t = t} h g))
  has_core (rule.local {env = env} {s = s} {name = name} {l = l} h) w = ap₂ (λ t o. name_core t o (number_or (area_number env.earlier name))) (own_is (rule.local {env = env} {s = s} {name = name} {l = l} h)) (ap (option_map (λ (x : Local). x.number)) h)
  has_core (rule.area_name {env = env} {s = s} {name = name} {a = a} {area = area} {number = number} n h g k) w =
      ap₂ (λ t o. name_core t o (number_or (area_number env.earlier name))) (own_is (rule.area_name {env = env} {s = s} {name = name} {a = a} {area = area} {number = number} n h g k)) (ap (option_map (λ (x : Local). x.number)) n)
      ∙ ap (λ o. core.AreaName (unchecked (Ref a.constant Global area)) (number_or o)) k
  has_core (rule.cast {env = env} {s = s} {kind = kind} {e = e} {c = c} {label = label} h i l) w =
      ap (λ b. core.Cast (bare (Int kind) (cond b (cast_sites kind (own env e)) []) (first_token s (name_bytes kind))) (core_of env (Int kind) e)) (has_settled h)
      ∙ ap₂ (λ t x. core.Cast (bare (Int kind) (cast_sites kind t) (first_token s (name_bytes kind))) x) (own_is h) (has_core h (Int kind))
      ∙ ap (λ x. core.Cast x (expr_by unnumbered c)) (sym (labelled_bare l))
  has_core (rule.cast_literal {env = env} {s = s} {kind = kind} {e = e} n u) w =
      ap (λ b. core.Cast (bare (Int kind) (cond b (cast_sites kind (own env e)) []) (first_token s (name_bytes kind))) (core_of env (Int kind) e)) n ∙ ap (core.Cast (unchecked (Int kind))) (under_core u)
  has_core (rule.to_index {env = env} {s = s} {n = n} {e = e} {c = c} {label = label} k h i l) w =
      ap (λ t. core.ToIndex (bare t (index_sites n (own env e)) (first_token s 4)) (core_of env w e)) (own_is (rule.to_index {env = env} {s = s} {n = n} {e = e} {c = c} {label = label} k h i l) ∙ l.ty)
      ∙ ap₂ (λ t x. core.ToIndex (bare (Ix n) (index_sites n t) (first_token s 4)) x) (own_is h) (has_core h w)
      ∙ ap (λ x. core.ToIndex x (expr_by unnumbered c)) (sym (labelled_bare l))
  has_core (rule.wrap_index {env = env} {s = s} {n = n} {e = e} {c = c} k h i) w = ap₂ (λ t x. core.WrapIndex (unchecked t) x) (own_is (rule.wrap_index {env = env} {s = s} {n = n} {e = e} {c = c} k h i)) (has_core h w)
  has_core (rule.make_bits {env = env} {s = s} {name = name} {e = e} {c = c} {k = k} {word = word} n v u) w =
      ap (λ t. core.MakeBits (unchecked t) (core_of env (type_or (word_type env.earlier t)) e)) (own_is (rule.make_bits {env = env} {s = s} {name = name} {e = e} {c = c} {k = k} {word = word} n v u))
      ∙ ap (λ o. core.MakeBits (unchecked (Bits k)) (core_of env (type_or o) e)) v
      ∙ ap (core.MakeBits (unchecked (Bits k))) (under_core u)
  has_core (rule.raw {env = env} {s = s} {e = e} {c = c} {word = word} h v) w =
      ap₂ (λ t x. core.Raw (unchecked t) x) (own_is (rule.raw {env = env} {s = s} {e = e} {c = c} {word = word} h v)) (has_core h w)
  has_core (rule.set_field {env = env} {s = s} {e = e} {value = value} {name = name} {c = c} {d = d} {k = k} {number = number} {f = f} {label = label} h q n m u l) w =
      ap (λ t. core.SetField (bare t (new_sites (bit_field_named env.earlier (bits_number (own env e)) name.text)) (first_token s 3)) (core_of env w e)
      (number_or (bit_field_number env.earlier (bits_number (own env e)) name.text)) (core_of env (new_type (bit_field_named env.earlier (bits_number (own env e)) name.text)) value))
      (own_is (rule.set_field {env = env} {s = s} {e = e} {value = value} {name = name} {c = c} {d = d} {k = k} {number = number} {f = f} {label = label} h q n m u l) ∙ l.ty)
      ∙ ap (λ t. core.SetField (bare (Bits k) (new_sites (bit_field_named env.earlier (bits_number t) name.text)) (first_token s 3)) (core_of env w e)
      (number_or (bit_field_number env.earlier (bits_number t) name.text)) (core_of env (new_type (bit_field_named env.earlier (bits_number t) name.text)) value)) (own_is h ∙ q)
      ∙ ap₂ (λ o p. core.SetField (bare (Bits k) (new_sites o) (first_token s 3)) (core_of env w e) (number_or p) (core_of env (new_type o) value)) n m
      ∙ ap₂ (λ x y. core.SetField (bare (Bits k) (new_sites (Some f)) (first_token s 3)) x number y) (has_core h w) (under_core u)
      ∙ ap (λ x. core.SetField x (expr_by unnumbered c) number (expr_by unnumbered d)) (sym (labelled_bare l))
  has_core (rule.negated u) w = ap (core.Prefix (unchecked types.Truth) Not) (under_core u)
  has_core (rule.read {env = env} {s = s} {e = e} {c = c} {t = t} h q) w = ap₂ (λ u x. core.Prefix (unchecked u) Deref x) (own_is (rule.read {env = env} {s = s} {e = e} {c = c} {t = t} h q)) (has_core h w)
  has_core (rule.signed {env = env} {s = s} {op = op} {e = e} {c = c} {label = label} a h p l) w = signed_is env w (type_of c) s op e c label a (has_core h w) refl l
  has_core (rule.logical {env = env} {s = s} {at = at} {op = op} {left = left} {right = right} {c = c} {d = d} l u v) w =
      operated_is env w types.Truth s at op left right c d (unchecked types.Truth) (operand_truth env w op left right l) (under_core u) (under_core v) (logic_label op at l)
  has_core (rule.by_left {env = env} {s = s} {at = at} {op = op} {left = left} {right = right} {c = c} {d = d} {label = label} l h u i k) w =
      operated_is env w (type_of c) s at op left right c d label (operand_beside env w op left right l ∙ beside_first env w (type_of c) left right (has_settled h) (typed h None)) (has_core h (type_of c)) (under_core u) k
  has_core (rule.by_right {env = env} {s = s} {at = at} {op = op} {left = left} {right = right} {c = c} {d = d} {label = label} l n h u i k) w =
      operated_is env w (type_of d) s at op left right c d label (operand_beside env w op left right l ∙ beside_second env w (type_of d) left right n (has_settled h) (typed h None)) (under_core u) (has_core h (type_of d)) k
  has_core (rule.bit_field {env = env} {s = s} {e = e} {name = name} {c = c} {k = k} {number = number} {t = t} h q f n) w =
      ap₂ (λ u v. field_of s e u (core_of env w e) (number_or (number_in env v name.text))) (own_is (rule.bit_field {env = env} {s = s} {e = e} {name = name} {c = c} {k = k} {number = number} {t = t} h q f n)) (own_is h ∙ q)
      ∙ ap₂ (λ x p. field_of s e t x (number_or p)) (has_core h w) n
      ∙ sym (field_by unnumbered s e t c number)
  has_core (rule.field {env = env} {s = s} {e = e} {name = name} {c = c} {constant = constant} {region = region} {k = k} {number = number} {t = t} h q f n) w =
      ap₂ (λ u v. field_of s e u (core_of env w e) (number_or (number_in env v name.text)))
      (own_is (rule.field {env = env} {s = s} {e = e} {name = name} {c = c} {constant = constant} {region = region} {k = k} {number = number} {t = t} h q f n)) (own_is h ∙ q)
      ∙ ap₂ (λ x p. field_of s e t x (number_or p)) (has_core h w) n
      ∙ sym (field_by unnumbered s e t c number)
  has_core (rule.element {env = env} {s = s} {brackets = brackets} {e = e} {index = index} {c = c} {d = d} {constant = constant} {region = region} {n = n} {area = area} h q u) w =
      ap₂ (λ t v. element_of s e t (core_of env w e) (core_of env (Ix (number_or (length_behind v))) index))
      (own_is (rule.element {env = env} {s = s} {brackets = brackets} {e = e} {index = index} {c = c} {d = d} {constant = constant} {region = region} {n = n} {area = area} h q u)) (own_is h ∙ q)
      ∙ ap₂ (λ x y. element_of s e (Ref constant region area) x y) (has_core h w) (under_core u)
      ∙ sym (element_by unnumbered s e (Ref constant region area) c d)
  has_core (rule.choice_by_first {env = env} {s = s} {test = test} {first = first} {second = second} {b = b} {c = c} {d = d} u h v n) w =
      choice_is env w (type_of c) s test first second b c d (beside_first env w (type_of c) first second (has_settled h) (typed h None)) (under_core u) (has_core h (type_of c)) (under_core v)
  has_core (rule.choice_by_second {env = env} {s = s} {test = test} {first = first} {second = second} {b = b} {c = c} {d = d} u m h v n) w =
      choice_is env w (type_of d) s test first second b c d (beside_second env w (type_of d) first second m (has_settled h) (typed h None)) (under_core u) (under_core v) (has_core h (type_of d))

  pub under_core : {env : Env} {t : ValueType} {e : ExprSyntax} {c : ExprCore} → Under env t e c → core_of env t e ≡ expr_by unnumbered c
  under_core (rule.has {t = t} h q) = has_core h t
  under_core (rule.literal h) = refl
  under_core (rule.signed_under {env = env} {t = t} {s = s} {op = op} {e = e} {c = c} {label = label} a n u p l) = signed_is env t t s op e c label a (under_core u) (under_typed u).1 l
  under_core (rule.operated_under {env = env} {t = t} {s = s} {at = at} {op = op} {left = left} {right = right} {c = c} {d = d} {label = label} g n m u v i l) =
      operated_is env t t s at op left right c d label (operand_beside env t op left right (not_logic op g).0 ∙ beside_none env t left right n m) (under_core u) (under_core v)
      (record { ty = l.ty ∙ ap (λ b. cond b types.Truth t) (sym (not_logic op g).1); checks = l.checks })
  under_core (rule.choice_under {env = env} {t = t} {s = s} {test = test} {first = first} {second = second} {b = b} {c = c} {d = d} u n m v x) =
      choice_is env t t s test first second b c d (beside_none env t first second n m) (under_core u) (under_core v) (under_core x)
