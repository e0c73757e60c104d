-- The first fault of a module: the first node in the order of the text that breaks a rule, and the least rule that is broken there.
use Rattle.std.specs.Prelude.{◌≡◌, ℕ, ◌<◌, Bool, true, ◌||◌, ◌&&◌, nat_lt, nat_le, nat_eq, List, [], ◌∷◌, ◌⊎◌, Option, Some, None, option_map, IsTrue}
use Rattle.std.specs.List.{list_all, find}
use Rattle.iv_words.specs.declared.Span.{Span}
use Rattle.ivory_tree.specs.Syntax.{ModuleSyntax}
use Rattle.rule_faults.specs.Nodes.{Node, span_of}
use Rattle.rule_faults.specs.ItemRows.{module_row}
use Rattle.rule_faults.specs.ItemRules.{rule_1, rule_2, rule_3, rule_8, rule_9, rule_10, rule_11, rule_12, rule_13, rule_14, rule_15, rule_16, rule_17}
use Rattle.rule_faults.specs.ExpressionRules.{rule_4, rule_5, rule_6, rule_7, rule_18, rule_19, rule_20, rule_21, rule_22, rule_23, rule_24, rule_25, rule_26, rule_27, rule_28, rule_29, rule_30, rule_35, rule_36, rule_37, rule_38, rule_39}
use Rattle.rule_faults.specs.StatementRules.{rule_31, rule_32, rule_33, rule_34, rule_40, rule_41, rule_42, rule_43, rule_44}

-- the rules with their numbers
abbrev pub rules : List (ℕ × (Node → Bool))
rules =
    (1, rule_1) ∷ (2, rule_2) ∷ (3, rule_3) ∷ (4, rule_4) ∷ (5, rule_5) ∷ (6, rule_6)
    ∷ (7, rule_7) ∷ (8, rule_8) ∷ (9, rule_9) ∷ (10, rule_10) ∷ (11, rule_11) ∷ (12, rule_12)
    ∷ (13, rule_13) ∷ (14, rule_14) ∷ (15, rule_15) ∷ (16, rule_16) ∷ (17, rule_17) ∷ (18, rule_18)
    ∷ (19, rule_19) ∷ (20, rule_20) ∷ (21, rule_21) ∷ (22, rule_22) ∷ (23, rule_23) ∷ (24, rule_24)
    ∷ (25, rule_25) ∷ (26, rule_26) ∷ (27, rule_27) ∷ (28, rule_28) ∷ (29, rule_29) ∷ (30, rule_30)
    ∷ (31, rule_31) ∷ (32, rule_32) ∷ (33, rule_33) ∷ (34, rule_34) ∷ (35, rule_35) ∷ (36, rule_36)
    ∷ (37, rule_37) ∷ (38, rule_38) ∷ (39, rule_39) ∷ (40, rule_40) ∷ (41, rule_41) ∷ (42, rule_42)
    ∷ (43, rule_43) ∷ (44, rule_44) ∷ []

-- a rule of these has the number k and is broken at the node
abbrev pub Broken : List (ℕ × (Node → Bool)) → (k : ℕ) → Node → Type 0
Broken [] k n = ⊥
Broken (rule ∷ more) k n = ((k ≡ rule.0) × IsTrue (rule.1 n)) ⊎ Broken more k n

-- the node breaks rule k
abbrev pub Breaks : ℕ → Node → Type 0
Breaks k n = Broken rules k n

-- it breaks none
abbrev pub Sound : Node → Type 0
Sound n = (k : ℕ) → Breaks k n → ⊥

-- it breaks rule k, and no lesser one
pub record Least (k : ℕ) (n : Node) : Type 0 where
  pub breaks : Breaks k n
  pub least : (j : ℕ) → j < k → Breaks j n → ⊥

pub data First : List Node → ℕ → Span → Type 0 where
  here : {n : Node} {ns : List Node} {k : ℕ} → Least k n → First (n ∷ ns) k (span_of n)
  later : {n : Node} {ns : List Node} {k : ℕ} {s : Span} → Sound n → First ns k s → First (n ∷ ns) k s

abbrev pub FirstFault : ModuleSyntax → ℕ → Span → Type 0
FirstFault m k s = First (module_row m) k s

abbrev pub AllSound : List Node → Type 0
AllSound [] = Unit {0}
AllSound (n ∷ ns) = Sound n × AllSound ns

-- no node of the module breaks a rule
abbrev pub Faultless : ModuleSyntax → Type 0
Faultless m = AllSound (module_row m)

-- ---- the same as a function

abbrev pub least_broken : Node → Option ℕ
least_broken n = option_map (λ rule. rule.0) (find (λ rule. rule.1 n) rules)

abbrev pub at_node : Node → Option ℕ → Option (ℕ × Span) → Option (ℕ × Span)
at_node n None rest = rest
at_node n (Some k) rest = Some (k, span_of n)

abbrev pub first_of : List Node → Option (ℕ × Span)
first_of [] = None
first_of (n ∷ ns) = at_node n (least_broken n) (first_of ns)

abbrev pub first_fault : ModuleSyntax → Option (ℕ × Span)
first_fault m = first_of (module_row m)

-- ---- the order of nodes: by start, the outer before the inner

abbrev pub comes_before : Span → Span → Bool
comes_before s t = nat_lt s.start t.start || (nat_eq s.start t.start && nat_le t.end s.end)

abbrev pub in_order : List Node → Bool
in_order [] = true
in_order (n ∷ ns) = list_all (λ m. comes_before (span_of n) (span_of m)) ns && in_order ns

abbrev pub module_in_order : ModuleSyntax → Bool
module_in_order m = in_order (module_row m)
