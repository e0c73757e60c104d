-- When a node other than an expression or a call breaks no rule: by the rules that look at its kind.
use Rattle.std.proofs.Common.{◌≡◌, List, Option, None, Bool, false, refl}
use Rattle.ivory_tree.specs.Syntax.{Word, TypeSyntax, AreaSyntax, ItemSyntax, FieldSyntax, ParamSyntax, ContractSyntax, InitSyntax, BlockSyntax, StmtSyntax}
use Rattle.ivory_tree.specs.declared.items.BitField.{BitField}
use Rattle.area_types.specs.Syntax.{Area}
use Rattle.source_types.specs.Environments.{Earlier}
use Rattle.rule_faults.specs.Contexts.{Context}
use Rattle.rule_faults.specs.Nodes.{Use, Node, AnItem, ABitField, AField, AParam, AType, AnArea, AContract, AnInit, ABlock, AStatement}
use Rattle.rule_faults.specs.ItemRules.{rule_1, rule_2, rule_3, rule_8, rule_9, rule_10, rule_11, rule_12, rule_13, rule_14, rule_15, rule_16, rule_17}
use Rattle.rule_faults.specs.ExpressionRules.{rule_5, rule_6, rule_23}
use Rattle.rule_faults.specs.StatementRules.{rule_31, rule_32, rule_33, rule_40, rule_41, rule_42, rule_43, rule_44}
use Rattle.rule_faults.specs.FirstFault.{rules, least_broken}
use Rattle.typing_laws.proofs.Quiet.{none_at}

abbrev pub InType : Node → Type 0
InType n = (rule_6 n ≡ false) × (rule_8 n ≡ false) × (rule_12 n ≡ false) × (rule_13 n ≡ false) × (rule_14 n ≡ false)

pub quiet_type : (earlier : Earlier) (regions : List Word) (place : Use) (t : TypeSyntax) → InType (AType earlier regions place t) → least_broken (AType earlier regions place t) ≡ None
quiet_type earlier regions place t h = none_at rules (AType earlier regions place t)
    (refl, (refl, (refl, (refl, (refl, (h.0, (refl, (h.1, (refl, (refl, (refl, (h.2, (h.3, (h.4, (refl, (refl, (refl, (refl, (refl, (refl, (refl, (refl, (refl, (refl, (refl, (refl, (refl, (refl, (refl, (refl, (refl, (refl, (refl, (refl, (refl, (refl, (refl, (refl, (refl, (refl, (refl, (refl, (refl, (refl, tt))))))))))))))))))))))))))))))))))))))))))))

abbrev pub InArea : Node → Type 0
InArea n = (rule_5 n ≡ false) × (rule_8 n ≡ false) × (rule_9 n ≡ false)

pub quiet_area : (earlier : Earlier) (a : AreaSyntax) → InArea (AnArea earlier a) → least_broken (AnArea earlier a) ≡ None
quiet_area earlier a h = none_at rules (AnArea earlier a)
    (refl, (refl, (refl, (refl, (h.0, (refl, (refl, (h.1, (h.2, (refl, (refl, (refl, (refl, (refl, (refl, (refl, (refl, (refl, (refl, (refl, (refl, (refl, (refl, (refl, (refl, (refl, (refl, (refl, (refl, (refl, (refl, (refl, (refl, (refl, (refl, (refl, (refl, (refl, (refl, (refl, (refl, (refl, (refl, (refl, tt))))))))))))))))))))))))))))))))))))))))))))

abbrev pub InItem : Node → Type 0
InItem n = (rule_1 n ≡ false) × (rule_2 n ≡ false) × (rule_9 n ≡ false) × (rule_10 n ≡ false)

pub quiet_item : (earlier : Earlier) (i : ItemSyntax) → InItem (AnItem earlier i) → least_broken (AnItem earlier i) ≡ None
quiet_item earlier i h = none_at rules (AnItem earlier i)
    (h.0, (h.1, (refl, (refl, (refl, (refl, (refl, (refl, (h.2, (h.3, (refl, (refl, (refl, (refl, (refl, (refl, (refl, (refl, (refl, (refl, (refl, (refl, (refl, (refl, (refl, (refl, (refl, (refl, (refl, (refl, (refl, (refl, (refl, (refl, (refl, (refl, (refl, (refl, (refl, (refl, (refl, (refl, (refl, (refl, tt))))))))))))))))))))))))))))))))))))))))))))

abbrev pub InBitField : Node → Type 0
InBitField n = (rule_3 n ≡ false) × (rule_11 n ≡ false)

pub quiet_bit_field : (before : List Word) (f : BitField) → InBitField (ABitField before f) → least_broken (ABitField before f) ≡ None
quiet_bit_field before f h = none_at rules (ABitField before f)
    (refl, (refl, (h.0, (refl, (refl, (refl, (refl, (refl, (refl, (refl, (h.1, (refl, (refl, (refl, (refl, (refl, (refl, (refl, (refl, (refl, (refl, (refl, (refl, (refl, (refl, (refl, (refl, (refl, (refl, (refl, (refl, (refl, (refl, (refl, (refl, (refl, (refl, (refl, (refl, (refl, (refl, (refl, (refl, (refl, tt))))))))))))))))))))))))))))))))))))))))))))

pub quiet_field : (before : List Word) (f : FieldSyntax) → rule_3 (AField before f) ≡ false → least_broken (AField before f) ≡ None
quiet_field before f h = none_at rules (AField before f)
    (refl, (refl, (h, (refl, (refl, (refl, (refl, (refl, (refl, (refl, (refl, (refl, (refl, (refl, (refl, (refl, (refl, (refl, (refl, (refl, (refl, (refl, (refl, (refl, (refl, (refl, (refl, (refl, (refl, (refl, (refl, (refl, (refl, (refl, (refl, (refl, (refl, (refl, (refl, (refl, (refl, (refl, (refl, (refl, tt))))))))))))))))))))))))))))))))))))))))))))

pub quiet_param : (context : Context) (p : ParamSyntax) → rule_1 (AParam context p) ≡ false → least_broken (AParam context p) ≡ None
quiet_param context p h = none_at rules (AParam context p)
    (h, (refl, (refl, (refl, (refl, (refl, (refl, (refl, (refl, (refl, (refl, (refl, (refl, (refl, (refl, (refl, (refl, (refl, (refl, (refl, (refl, (refl, (refl, (refl, (refl, (refl, (refl, (refl, (refl, (refl, (refl, (refl, (refl, (refl, (refl, (refl, (refl, (refl, (refl, (refl, (refl, (refl, (refl, (refl, tt))))))))))))))))))))))))))))))))))))))))))))

pub quiet_contract : (c : ContractSyntax) → least_broken (AContract c) ≡ None
quiet_contract c = none_at rules (AContract c)
    (refl, (refl, (refl, (refl, (refl, (refl, (refl, (refl, (refl, (refl, (refl, (refl, (refl, (refl, (refl, (refl, (refl, (refl, (refl, (refl, (refl, (refl, (refl, (refl, (refl, (refl, (refl, (refl, (refl, (refl, (refl, (refl, (refl, (refl, (refl, (refl, (refl, (refl, (refl, (refl, (refl, (refl, (refl, (refl, tt))))))))))))))))))))))))))))))))))))))))))))

abbrev pub InInit : Node → Type 0
InInit n = (rule_15 n ≡ false) × (rule_16 n ≡ false) × (rule_17 n ≡ false)

pub quiet_init : (earlier : Earlier) (global : Bool) (area : Option Area) (i : InitSyntax) → InInit (AnInit earlier global area i) → least_broken (AnInit earlier global area i) ≡ None
quiet_init earlier global area i h = none_at rules (AnInit earlier global area i)
    (refl, (refl, (refl, (refl, (refl, (refl, (refl, (refl, (refl, (refl, (refl, (refl, (refl, (refl, (h.0, (h.1, (h.2, (refl, (refl, (refl, (refl, (refl, (refl, (refl, (refl, (refl, (refl, (refl, (refl, (refl, (refl, (refl, (refl, (refl, (refl, (refl, (refl, (refl, (refl, (refl, (refl, (refl, (refl, (refl, tt))))))))))))))))))))))))))))))))))))))))))))

pub quiet_block : (with_result : Bool) (b : BlockSyntax) → rule_44 (ABlock with_result b) ≡ false → least_broken (ABlock with_result b) ≡ None
quiet_block with_result b h = none_at rules (ABlock with_result b)
    (refl, (refl, (refl, (refl, (refl, (refl, (refl, (refl, (refl, (refl, (refl, (refl, (refl, (refl, (refl, (refl, (refl, (refl, (refl, (refl, (refl, (refl, (refl, (refl, (refl, (refl, (refl, (refl, (refl, (refl, (refl, (refl, (refl, (refl, (refl, (refl, (refl, (refl, (refl, (refl, (refl, (refl, (refl, (h, tt))))))))))))))))))))))))))))))))))))))))))))

abbrev pub InStatement : Node → Type 0
InStatement n = (rule_1 n ≡ false) × (rule_8 n ≡ false) × (rule_23 n ≡ false) × (rule_31 n ≡ false) × (rule_32 n ≡ false) × (rule_33 n ≡ false) × (rule_40 n ≡ false) × (rule_41 n ≡ false) × (rule_42 n ≡ false) × (rule_43 n ≡ false) × (rule_44 n ≡ false)

pub quiet_statement : (context : Context) (reached : Bool) (s : StmtSyntax) → InStatement (AStatement context reached s) → least_broken (AStatement context reached s) ≡ None
quiet_statement context reached s h = none_at rules (AStatement context reached s)
    (h.0, (refl, (refl, (refl, (refl, (refl, (refl, (h.1, (refl, (refl, (refl, (refl, (refl, (refl, (refl, (refl, (refl, (refl, (refl, (refl, (refl, (refl, (h.2, (refl, (refl, (refl, (refl, (refl, (refl, (refl, (h.3, (h.4, (h.5, (refl, (refl, (refl, (refl, (refl, (refl, (h.6, (h.7, (h.8, (h.9, (h.10, tt))))))))))))))))))))))))))))))))))))))))))))
