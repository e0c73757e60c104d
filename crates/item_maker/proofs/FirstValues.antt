-- The first values of an area do not depend on the numbers of checks in its initializer.
use Rattle.std.proofs.Common.{◌≡◌, ℕ, ◌-◌, ℤ, List, ◌∷◌, ◌++◌, refl, ap, ap₂, []}
use Rattle.std.specs.Prelude.{Option, Some, None}
use Rattle.ivory_tree.specs.Syntax.{InitSyntax}
use Rattle.type_trees.specs.Trees as trees
use Rattle.area_types.specs.Syntax.{Area}
use Rattle.area_types.specs.Trees.{Written, WrittenRow}
use Rattle.core_tree.specs.Syntax as core
use Rattle.core_tree.specs.Syntax.{ExprCore, InitCore, InitsCore}
use Rattle.check_numbers.specs.Numbered.{label_from, label_after, expr_from}
use Rattle.check_numbers.specs.NumberedParts.{init_from, init_after, inits_from}
use Rattle.typing_rules.specs.Areas.{written}
use Rattle.typing_rules.specs.Environments.{Env}
use Rattle.typing_rules.specs.Initializers.{constant_of, cell_values, element_values, field_values}
use Rattle.typing_rules.specs.ItemCores.{first_core}
use Rattle.typing_rules.specs.StatementCores.{init_core}
use Rattle.area_values.specs.Values.{values_of}
use Rattle.item_maker.specs.FirstValues.{numbered_init}

constant_kept : (n : ℕ) (c : ExprCore) → constant_of (expr_from n c) ≡ constant_of c
constant_kept n (core.Number l value) = refl
constant_kept n (core.MakeBits l e) = constant_kept (label_after n l) e
constant_kept n (core.Outcome l) = refl
constant_kept n (core.Local l number) = refl
constant_kept n (core.AreaName l number) = refl
constant_kept n (core.Cast l e) = refl
constant_kept n (core.ToIndex l e) = refl
constant_kept n (core.WrapIndex l e) = refl
constant_kept n (core.Raw l e) = refl
constant_kept n (core.SetField l e field value) = refl
constant_kept n (core.Prefix l op e) = refl
constant_kept n (core.Binary l op left right) = refl
constant_kept n (core.Field l e field) = refl
constant_kept n (core.Element l e index) = refl
constant_kept n (core.Cond l test first second) = refl
constant_kept n (core.Whole l e) = refl

joined : {a b c d : List ℤ} → a ≡ b → c ≡ d → a ++ c ≡ b ++ d
joined p q = ap₂ (λ (x : List ℤ) (y : List ℤ). x ++ y) p q

mutual
  values_kept : (n : ℕ) (area : Written) (c : InitCore) → cell_values area (init_from n c) ≡ cell_values area c
  values_kept n area (core.One c) = ap (λ (v : ℤ). v ∷ []) (constant_kept n c)
  values_kept n (trees.Leaf t) (core.Many cs) = refl
  values_kept n (trees.Many m element) (core.Many cs) = elements_kept n m element cs
  values_kept n (trees.Struct k fields) (core.Many cs) = fields_kept n fields cs

  elements_kept : (n m : ℕ) (element : Written) (cs : InitsCore) → element_values m element (inits_from n cs) ≡ element_values m element cs
  elements_kept n m element core.NoInits = refl
  elements_kept n m element (core.MoreInits c cs) = joined (values_kept n element c) (elements_kept (init_after n c) (m - 1) element cs)

  fields_kept : (n : ℕ) (fields : WrittenRow) (cs : InitsCore) → field_values fields (inits_from n cs) ≡ field_values fields cs
  fields_kept n trees.End core.NoInits = refl
  fields_kept n (trees.Field i a fields) core.NoInits = refl
  fields_kept n trees.End (core.MoreInits c cs) = refl
  fields_kept n (trees.Field i a fields) (core.MoreInits c cs) = joined (values_kept n a c) (fields_kept (init_after n c) fields cs)

pub first_values_are : (env : Env) (area : Area) (i : Option InitSyntax) → values_of (written env.earlier area) (numbered_init env area i) ≡ first_core env area i
first_values_are env area None = refl
first_values_are env area (Some i) = values_kept 0 (written env.earlier area) (init_core env area i)
