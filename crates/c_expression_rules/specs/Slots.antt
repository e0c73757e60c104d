-- Initializers one by one: what each is for, and what is asked of them in a row.
use Rattle.std.specs.Prelude.{ℕ, zero, suc, false, List, [], ◌++◌, codes}
use Rattle.c_ast.specs.declared.types.Target.{Target}
use Rattle.c_ast.specs.Structs.{CTree, CRow, row_of, table, tree}
use Rattle.c_ast.specs.Syntax.{Init, Inits, NoInits, MoreInits}
use Rattle.type_trees.specs.Trees.{Leaf, Many, Struct, End, Field}
use Rattle.c_text.specs.Rules.{Demand, BracesMatch, InitializersFit, ask, behind}
use Rattle.c_text.specs.ExpressionText.{init_text}
use Rattle.c_text.specs.ExpressionRules.{init_demands, loose_demands}
use Rattle.c_text.specs.Scopes.{Names}
use Rattle.c_expression_rules.specs.declared.init.Slots as borrowed
use Rattle.c_expression_rules.specs.declared.init.Slots.TheVariants as slots
use Rattle.c_expression_rules.specs.declared.init.Slot as one
use Rattle.c_expression_rules.specs.declared.init.Slot.TheVariants as slot
use Rattle.c_scopes.specs.Shapes.{shape_view}
use Rattle.c_scopes.specs.StructViews.{structs_view}
use Rattle.c_scopes.specs.Views.{base_view}

-- elements or members that are not initialized yet, or nothing that could be
pub data Slots : Type 0 where
  Elements : ℕ → CTree → Slots
  Members : CRow → Slots
  Nothing : Slots

-- what an initializer is for: a type, none although there were some, or nothing
pub data Slot : Type 0 where
  Fits : CTree → Slot
  TooMany : Slot
  Ignored : Slot

abbrev pub slots_view : borrowed.Slots → Slots
slots_view (slots.Elements n b structs) = Elements n (tree (structs_view structs) (base_view b))
slots_view (slots.Members ms structs) = Members (row_of (table [] (structs_view structs)) ms.now)
slots_view slots.Nothing = Nothing

abbrev pub slot_view : one.Slot → Slot
slot_view (slot.Fits shape) = Fits (shape_view shape)
slot_view slot.TooMany = TooMany
slot_view slot.Nothing = Ignored

abbrev pub slots_of_tree : CTree → Slots
slots_of_tree (Leaf s) = Nothing
slots_of_tree (Many n a) = Elements n a
slots_of_tree (Struct k r) = Members r

abbrev pub first_slot : Slots → Slot
first_slot (Elements zero a) = TooMany
first_slot (Elements (suc n) a) = Fits a
first_slot (Members End) = TooMany
first_slot (Members (Field m a r)) = Fits a
first_slot Nothing = Ignored

abbrev pub rest_slots : Slots → Slots
rest_slots (Elements zero a) = Nothing
rest_slots (Elements (suc n) a) = Elements n a
rest_slots (Members End) = Nothing
rest_slots (Members (Field m a r)) = Members r
rest_slots Nothing = Nothing

-- where a list or `{0}` begins
abbrev pub brace_demands : ℕ → CTree → List Demand
brace_demands at (Leaf s) = ask at BracesMatch false
brace_demands at (Many n a) = []
brace_demands at (Struct k r) = []

abbrev pub slot_demands : Target → Names → ℕ → Slot → Init → List Demand
slot_demands target names at (Fits a) i = init_demands target names at a i
slot_demands target names at TooMany i = ask at InitializersFit false ++ loose_demands target names at i
slot_demands target names at Ignored i = []

abbrev pub inits_demands : Target → Names → Slots → ℕ → Inits → List Demand
inits_demands target names s at NoInits = []
inits_demands target names s at (MoreInits i is) = slot_demands target names at (first_slot s) i ++ inits_demands target names (rest_slots s) (behind at (init_text i ++ codes ", ")) is
