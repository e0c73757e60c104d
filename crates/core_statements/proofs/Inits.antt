-- The values of an initializer's parts, one after another, and zeros behind them.
use Rattle.std.proofs.Common.{◌≡◌, ◌<◌, ◌≤◌, ◌+◌, ℕ, ℤ, List, [], ◌∷◌, ◌++◌, length, drop, get_or, map, Result, Ok, Err, refl, sym, ap, ◌∙◌, subst}
use Rattle.run_records.specs.declared.Reason.TheVariants.{Dead}
use Rattle.step_semantics.specs.Steps as steps
use Rattle.step_semantics.specs.Steps.{Part, Progress, Finished, Halted, NoMeaning, after, give}
use Rattle.step_semantics.proofs.Equations.{after_give, after_after, after_same}
use Rattle.type_trees.specs.Values as tree
use Rattle.type_trees.specs.Values.{Cons}
use Rattle.area_types.specs.Trees as trees
use Rattle.core_tree.specs.Syntax.{ModuleCore, InitCore, InitsCore, NoInits, MoreInits}
use Rattle.core_tree.specs.View.{init_of, inits_of}
use Rattle.core_tree.specs.declared.CoreInit.{CoreInit}
use Rattle.core_meaning.specs.Areas as areas
use Rattle.core_meaning.specs.Initializers.{init_value, init_values, zeros}
use Rattle.core_meaning.specs.State.{State, seen}
use Rattle.core_state.specs.Types.{row_of}
use Rattle.core_state.proofs.Filled.{row_with, one_before}
use Rattle.run_world.specs.Comes.{Comes, world_of}
use Rattle.run_world.specs.declared.Stopped.{Stopped}
use Rattle.run_world.specs.declared.World.{World}
use Rattle.run_world.proofs.Comes.{stops}
use Rattle.run_world.proofs.Rests.{one_left, nothing_left}
use Rattle.core_statements.specs.Initial.{zero_held}

-- the initializers from a place on
pub inits_here : (is : List CoreInit) (k : ℕ) (x : CoreInit) → k < length is → x ≡ get_or is k x → inits_of (drop k is) ≡ MoreInits (init_of x) (inits_of (drop (k + 1) is))
inits_here is k x h here = ap inits_of (one_left is k x h here)

pub inits_past : (is : List CoreInit) (k : ℕ) → length is ≤ k → inits_of (drop k is) ≡ NoInits
inits_past is k h = ap inits_of (nothing_left is k h)

-- zeros behind the values that are there
pub with_zeros : (front : List areas.Held) (types : List trees.Written) → row_with front (zeros types) ≡ row_of (front ++ map zero_held types)
with_zeros [] [] = refl
with_zeros [] (a ∷ types) = ap (Cons (zero_held a)) (with_zeros [] types)
with_zeros (v ∷ front) types = ap (Cons v) (with_zeros front types)

abbrev Row : Type 0
Row = tree.Values ℤ

module _ (core : ModuleCore) where
  -- what the rest gives, behind the values that are there
  abbrev pub Left : List areas.Held → InitsCore → List trees.Written → ℕ → steps.World → State → Progress State Row
  Left front is types n w s = after (init_values core is types n w s) (λ row. give (row_with front row))

  module _ (n : ℕ) (w : steps.World) (s : State) (front : List areas.Held) (whole : Progress State Row) where
    pub init_more : (i : InitCore) (is : InitsCore) (ty : trees.Written) (types : List trees.Written) (v : areas.Held) (u : steps.World) (m : ℕ) → init_value core i ty n w s ≡ Finished v u s m → Left front (MoreInits i is) (ty ∷ types) n w s ≡ after whole give
        → Left (front ++ v ∷ []) is types m u s ≡ after whole give
    init_more i is ty types v u m h inv =
        after_same (init_values core is types m u s) (λ row. give (row_with (front ++ v ∷ []) row)) (λ row. give (row_with front (Cons v row))) (λ row k x t. ap (λ r. Finished r x t k) (one_before front v row))
        ∙ sym (after_after (init_values core is types m u s) (λ vs. give (Cons v vs)) (λ row. give (row_with front row)))
        ∙ ap (λ r. after (after r (λ v. steps.bind (init_values core is types) (λ vs. give (Cons v vs)))) (λ row. give (row_with front row))) (sym h) ∙ inv

    pub init_none : (i : InitCore) (is : InitsCore) → Left front (MoreInits i is) [] n w s ≡ after whole give → whole ≡ Halted (NoMeaning Dead) w (seen core s)
    init_none i is inv = sym (after_give whole) ∙ sym inv

    pub init_stops : {B C : Type 0} (view : B → areas.Held) (view' : C → Row) (i : InitCore) (is : InitsCore) (ty : trees.Written) (types : List trees.Written) (why : Stopped) (v : World) → Comes (seen core) view (init_value core i ty n w s) (Err why) v s
        → Left front (MoreInits i is) (ty ∷ types) n w s ≡ after whole give → Comes (seen core) view' whole (Err why) v s
    init_stops view view' i is ty types why v h inv =
        subst (λ p. Comes (seen core) view' p (Err why) v s) (inv ∙ after_give whole)
        (stops (seen core) view' view' (init_values core (MoreInits i is) (ty ∷ types) n w s) (λ row. give (row_with front row)) why v s
        (stops (seen core) view view' (init_value core i ty n w s) (λ a. steps.bind (init_values core is types) (λ vs. give (Cons a vs))) why v s h))

    pub init_ends : (types : List trees.Written) → Left front NoInits types n w s ≡ after whole give → whole ≡ Finished (row_of (front ++ map zero_held types)) w s n
    init_ends types inv = sym (after_give whole) ∙ sym inv ∙ ap (λ row. Finished row w s n) (with_zeros front types)
