-- When an expression breaks no rule: none of those that look at what is wanted of it, and none of those that look at its form.
use Rattle.std.proofs.Common.{◌≡◌, ℕ, List, [], ◌∷◌, ◌++◌, Option, Some, None, option_map, Bool, true, false, not, ◌&&◌, refl, ◌∙◌, ap, nat_eq, eq-eqb}
use Rattle.std.specs.List.{find}
use Rattle.ivory_tree.specs.Syntax.{ExprSyntax}
use Rattle.iv_words.specs.declared.IntKind.{IntKind}
use Rattle.iv_words.specs.Kinds.{width, is_signed}
use Rattle.area_types.specs.Syntax as types
use Rattle.area_types.specs.Syntax.{ValueType, Area}
use Rattle.area_types.specs.declared.region.Region.{Region}
use Rattle.area_types.specs.declared.region.Region.TheVariants.{Global, Param, Own}
use Rattle.source_types.specs.Settled.{settled}
use Rattle.source_types.specs.Values.{same_type, same_area, same_region, same_kind, same_truth, is_reference}
use Rattle.rule_faults.specs.Contexts.{Context}
use Rattle.rule_faults.specs.Types.{own_type}
use Rattle.rule_faults.specs.Wants.{Want, Nothing, Wants}
use Rattle.rule_faults.specs.Nodes.{Node, AnExpr}
use Rattle.rule_faults.specs.ExpressionRules.{rule_4, rule_6, rule_18, rule_19, rule_20, rule_21, rule_22, rule_23, rule_24, rule_25, rule_26, rule_27, rule_28, rule_29, rule_30, rule_35, rule_36, rule_37, rule_38, rule_39}
use Rattle.rule_faults.specs.ItemRules.{rule_8}
use Rattle.rule_faults.specs.FirstFault.{rules, least_broken, first_of, at_node}

-- ---- rows

abbrev pub AllFalse : List (ℕ × (Node → Bool)) → Node → Type 0
AllFalse [] n = Unit {0}
AllFalse (r ∷ rs) n = (r.1 n ≡ false) × AllFalse rs n

pub none_at : (rs : List (ℕ × (Node → Bool))) (n : Node) → AllFalse rs n → option_map (λ (rule : ℕ × (Node → Bool)). rule.0) (find (λ (rule : ℕ × (Node → Bool)). rule.1 n) rs) ≡ None
none_at [] n h = refl
none_at (r ∷ rs) n h = rw h.0 (none_at rs n h.1)

pub quiet_cons : (n : Node) (ns : List Node) → least_broken n ≡ None → first_of ns ≡ None → first_of (n ∷ ns) ≡ None
quiet_cons n ns h g = ap (λ o. at_node n o (first_of ns)) h ∙ g

pub quiet_append : (ns ms : List Node) → first_of ns ≡ None → first_of ms ≡ None → first_of (ns ++ ms) ≡ None
quiet_append [] ms h g = g
quiet_append (n ∷ ns) ms h g = go (quiet_append ns ms) (least_broken n) refl h
  where
    go : (first_of ns ≡ None → first_of ms ≡ None → first_of (ns ++ ms) ≡ None) → (o : Option ℕ) → least_broken n ≡ o → at_node n o (first_of ns) ≡ None → first_of (n ∷ (ns ++ ms)) ≡ None
    go ih None e k = ap (λ o. at_node n o (first_of (ns ++ ms))) e ∙ ih k g
    go ih (Some j) e k = let no : ⊥ = cc in absurd no

-- ---- expressions

-- the rules that look at what is wanted
pub record AsWanted (n : Node) : Type 0 where
  pub r18 : rule_18 n ≡ false
  pub r20 : rule_20 n ≡ false
  pub r35 : rule_35 n ≡ false
  pub r36 : rule_36 n ≡ false
  pub r37 : rule_37 n ≡ false
  pub r38 : rule_38 n ≡ false
  pub r39 : rule_39 n ≡ false

-- those that look at the form: 4, 6, 8, 19, and 21 to 30
abbrev pub InForm : Node → Type 0
InForm n =
    (rule_4 n ≡ false) × (rule_6 n ≡ false) × (rule_8 n ≡ false) × (rule_19 n ≡ false) × (rule_21 n ≡ false) × (rule_22 n ≡ false) × (rule_23 n ≡ false) × (rule_24 n ≡ false)
    × (rule_25 n ≡ false) × (rule_26 n ≡ false) × (rule_27 n ≡ false) × (rule_28 n ≡ false) × (rule_29 n ≡ false) × (rule_30 n ≡ false)

pub quiet : (context : Context) (want : Want) (e : ExprSyntax) → AsWanted (AnExpr context want e) → InForm (AnExpr context want e) → least_broken (AnExpr context want e) ≡ None
quiet context want e w f =
    none_at rules (AnExpr context want e)
    (refl, (refl, (refl, (f.0, (refl, (f.1, (refl, (f.2, (refl, (refl, (refl, (refl, (refl, (refl, (refl, (refl, (refl, (w.r18, (f.3, (w.r20, (f.4, (f.5, (f.6, (f.7, (f.8, (f.9, (f.10, (f.11, (f.12, (f.13, (refl, (refl, (refl, (refl, (w.r35, (w.r36, (w.r37, (w.r38, (w.r39, (refl, (refl, (refl, (refl, (refl, tt))))))))))))))))))))))))))))))))))))))))))))

-- ---- what is wanted

nat_same : (n : ℕ) → nat_eq n n ≡ true
nat_same n = eq-eqb n n refl

truth_same : (b : Bool) → same_truth b b ≡ true
truth_same true = refl
truth_same false = refl

kind_same : (k : IntKind) → same_kind k k ≡ true
kind_same k = rw (nat_same (width k), truth_same (is_signed k)) refl

pub region_same : (r : Region) → same_region r r ≡ true
region_same Global = refl
region_same (Param j) = nat_same j
region_same Own = refl

mutual
  pub type_same : (t : ValueType) → same_type t t ≡ true
  type_same types.Truth = refl
  type_same (types.Int k) = kind_same k
  type_same (types.Ix n) = nat_same n
  type_same (types.Bits k) = nat_same k
  type_same (types.Ref c r a) = rw (truth_same c, region_same r, area_same a) refl

  pub area_same : (a : Area) → same_area a a ≡ true
  area_same (types.Stored t) = type_same t
  area_same (types.Array n a) = rw (nat_same n, area_same a) refl
  area_same (types.Struct k) = nat_same k

pub and_false : (b : Bool) → b && false ≡ false
and_false true = refl
and_false false = refl

pub false_between : (b c : Bool) → (b && false) && c ≡ false
false_between true c = refl
false_between false c = refl

-- of a settled expression nothing
pub nothing_wanted : (context : Context) (e : ExprSyntax) → settled e ≡ true → AsWanted (AnExpr context Nothing e)
nothing_wanted context e h = record { r18 = rw h refl; r20 = refl; r35 = refl; r36 = refl; r37 = refl; r38 = refl; r39 = refl }

-- its own type
pub type_wanted : (context : Context) (t : ValueType) (e : ExprSyntax) → settled e ≡ true → own_type context e ≡ Some t → AsWanted (AnExpr context (Wants t) e)
type_wanted context t e h g = record { r18 = refl; r20 = rw (h, g, type_same t) (and_false (not (is_reference t) && true)); r35 = refl; r36 = refl; r37 = refl; r38 = refl; r39 = refl }

-- of an unsettled expression a type
pub unsettled_wanted : (context : Context) (t : ValueType) (e : ExprSyntax) → settled e ≡ false → AsWanted (AnExpr context (Wants t) e)
unsettled_wanted context t e h = record { r18 = refl; r20 = rw h (false_between (not (is_reference t)) _); r35 = refl; r36 = refl; r37 = refl; r38 = refl; r39 = refl }
