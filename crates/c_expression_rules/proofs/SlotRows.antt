-- Initializers in a row are those of the elements of an array, or of the members of a struct.
use Rattle.std.proofs.Common.{◌≡◌, refl, ap, ◌∙◌, ℕ, zero, suc, false, List, [], ◌∷◌, ◌++◌}
use Rattle.std.specs.Prelude.{codes, map}
use Rattle.std.proofs.lemmas.List.{append-nil}
use Rattle.c_ast.specs.declared.expr.CInit.{CInit}
use Rattle.c_ast.specs.declared.types.Target.{Target}
use Rattle.c_ast.specs.Structs.{CTree, CRow}
use Rattle.c_ast.specs.Syntax.{Inits, NoInits, MoreInits, Many}
use Rattle.c_ast.specs.View.{init_of, inits_from}
use Rattle.type_trees.specs.Trees as trees
use Rattle.type_trees.specs.Trees.{Leaf, Struct, End, Field}
use Rattle.c_text.specs.Rules.{Demand, InitializersFit, ask, behind}
use Rattle.c_text.specs.ExpressionText.{init_text, init_texts}
use Rattle.c_text.specs.ExpressionRules.{init_demands, elements_demands, members_demands, loose_demands}
use Rattle.c_text.specs.Scopes.{Names}
use Rattle.c_expression_rules.specs.Slots.{Slots, Elements, Members, Nothing, slots_of_tree, first_slot, rest_slots, slot_demands, brace_demands, inits_demands}
use Rattle.c_scopes.proofs.Rows.{listed_asks}

nothing_asked : (target : Target) (names : Names) (at : ℕ) (is : Inits) → inits_demands target names Nothing at is ≡ []
nothing_asked target names at NoInits = refl
nothing_asked target names at (MoreInits i is) = nothing_asked target names (behind at (init_text i ++ codes ", ")) is

elements_are : (target : Target) (names : Names) (n : ℕ) (a : CTree) (at : ℕ) (is : Inits) → inits_demands target names (Elements n a) at is ≡ elements_demands target names at n a is
elements_are target names n a at NoInits = refl
elements_are target names zero a at (MoreInits i is) =
    let mine : List Demand = ask at InitializersFit false ++ loose_demands target names at i in
    ap (λ ds. mine ++ ds) (nothing_asked target names (behind at (init_text i ++ codes ", ")) is) ∙ append-nil mine
elements_are target names (suc n) a at (MoreInits i is) = ap (λ ds. init_demands target names at a i ++ ds) (elements_are target names n a (behind at (init_text i ++ codes ", ")) is)

members_are : (target : Target) (names : Names) (r : CRow) (at : ℕ) (is : Inits) → inits_demands target names (Members r) at is ≡ members_demands target names at r is
members_are target names r at NoInits = refl
members_are target names End at (MoreInits i is) =
    let mine : List Demand = ask at InitializersFit false ++ loose_demands target names at i in
    ap (λ ds. mine ++ ds) (nothing_asked target names (behind at (init_text i ++ codes ", ")) is) ∙ append-nil mine
members_are target names (Field m a r) at (MoreInits i is) = ap (λ ds. init_demands target names at a i ++ ds) (members_are target names r (behind at (init_text i ++ codes ", ")) is)

-- a list in braces
pub many_are : (target : Target) (names : Names) (a : CTree) (at : ℕ) (is : Inits)
    → brace_demands at a ++ inits_demands target names (slots_of_tree a) (behind at (codes "{")) is ≡ init_demands target names at a (Many is)
many_are target names (Leaf s) at is = ap (λ ds. brace_demands at (Leaf s) ++ ds) (nothing_asked target names (behind at (codes "{")) is)
many_are target names (trees.Many n a) at is = elements_are target names n a (behind at (codes "{")) is
many_are target names (Struct k r) at is = members_are target names r (behind at (codes "{")) is

-- ---- the loop over a list

abbrev pub item : Target → Names → Slots → ℕ → CInit → List Demand
item target names s at i = slot_demands target names at (first_slot s) (init_of i)

abbrev pub next : Slots → CInit → Slots
next s i = rest_slots s

pub inits_are : (target : Target) (names : Names) (s : Slots) (at : ℕ) (is : List CInit) → listed_asks (λ i. init_text (init_of i)) (item target names) next s at is ≡ inits_demands target names s at (inits_from (map init_of is))
inits_are target names s at [] = refl
inits_are target names s at (i ∷ is) = ap (λ ds. slot_demands target names at (first_slot s) (init_of i) ++ ds) (inits_are target names (rest_slots s) (behind at (init_text (init_of i) ++ codes ", ")) is)

pub texts_are : (is : List CInit) → map (λ i. init_text (init_of i)) is ≡ init_texts (inits_from (map init_of is))
texts_are [] = refl
texts_are (i ∷ is) = ap (λ ts. init_text (init_of i) ∷ ts) (texts_are is)

-- the same where nothing is asked
abbrev pub no_item : ℕ → ℕ → CInit → List Demand
no_item s at i = []

abbrev pub same : ℕ → CInit → ℕ
same s i = s

pub nothing_in_row : (s at : ℕ) (is : List CInit) → listed_asks (λ i. init_text (init_of i)) no_item same s at is ≡ []
nothing_in_row s at [] = refl
nothing_in_row s at (i ∷ is) = nothing_in_row s (behind at (init_text (init_of i) ++ codes ", ")) is
