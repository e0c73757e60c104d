-- How forms with several operands go on behind their first one, and stop with it.
use Rattle.std.proofs.Common.{◌≡◌, ℕ, List, Bool, true, false, Some, None, Ok, Err, if◌then◌else◌, ap, sym, subst}
use Rattle.std.specs.Prelude.{Option, Result}
use Rattle.std.specs.Option.{option_map}
use Rattle.run_records.specs.declared.Reason.TheVariants.{Dead}
use Rattle.step_semantics.specs.Steps.{Part, Halted, NoMeaning, after, bind}
use Rattle.bit_data.specs.Fields.{changed}
use Rattle.bit_data.specs.declared.BitLayout.{BitLayout}
use Rattle.core_tree.specs.Syntax.{ModuleCore, Label, ExprCore, SetField, Cond, Whole, type_of}
use Rattle.core_tree.specs.View.{LinkCore, StepCore, linked, stepped}
use Rattle.core_meaning.specs.Answers.{changing, layout_of}
use Rattle.core_meaning.specs.Expressions.{of_numbers, eval}
use Rattle.core_meaning.specs.State.{State, seen}
use Rattle.core_meaning.specs.Values.{Value}
use Rattle.core_state.specs.State.{value_of}
use Rattle.core_state.specs.declared.Value.{Value as CodeValue}
use Rattle.core_expressions.specs.Chains.{chain_from, steps_from, formed}
use Rattle.core_expressions.specs.Operands.{on_both, set_by, Decided}
use Rattle.core_expressions.proofs.Linked.{chain_is, steps_are, no_chain}
use Rattle.run_world.specs.declared.Stopped.{Stopped}
use Rattle.run_world.specs.declared.World.{World}
use Rattle.run_world.specs.Comes.{world_of, Comes}
use Rattle.run_world.proofs.Comes.{goes_on, stops}

module _ (core : ModuleCore) (outcome : Option Value) (s : State) where
  abbrev pub Says : ExprCore → World → Result CodeValue Stopped → World → Type 0
  Says e old r new = Comes (seen core) value_of (eval core outcome e old.steps (world_of old) s) r new s

  pub said_of : (e f : ExprCore) (old new : World) (r : Result CodeValue Stopped) → e ≡ f → Says f old r new → Says e old r new
  said_of e f old new r is h = subst (λ x. Says x old r new) (sym is) h

  -- ---- `set`

  abbrev behind_word : Label → BitLayout → ℕ → ExprCore → Value → Part State Value
  behind_word l layout field number x = bind (eval core outcome number) (on_both core l.checks (set_by layout field) x)

  set_is : (l : Label) (e : ExprCore) (field : ℕ) (number : ExprCore) (layout : BitLayout) (w : World) → Some layout ≡ layout_of core (type_of e)
      → eval core outcome (SetField l e field number) w.steps (world_of w) s ≡ after (eval core outcome e w.steps (world_of w) s) (behind_word l layout field number)
  set_is l e field number layout w h = sym (ap (λ (o : Option BitLayout). of_numbers core l (option_map (λ a word x. changing (changed a field word x)) o) (eval core outcome e) (eval core outcome number) w.steps (world_of w) s) h)

  pub set_goes : (l : Label) (e : ExprCore) (field : ℕ) (number : ExprCore) (layout : BitLayout) (word : CodeValue) (old mid new : World) (r : Result CodeValue Stopped) → Some layout ≡ layout_of core (type_of e)
      → Says e old (Ok word) mid → Comes (seen core) value_of (after (eval core outcome number mid.steps (world_of mid) s) (on_both core l.checks (set_by layout field) (value_of word))) r new s → Says (SetField l e field number) old r new
  set_goes l e field number layout word old mid new r h there rest =
      subst (λ p. Comes (seen core) value_of p r new s) (sym (set_is l e field number layout old h))
      (goes_on (seen core) value_of (eval core outcome e old.steps (world_of old) s) (behind_word l layout field number) r new s there rest)

  pub set_stops : (l : Label) (e : ExprCore) (field : ℕ) (number : ExprCore) (layout : BitLayout) (old new : World) (why : Stopped) → Some layout ≡ layout_of core (type_of e)
      → Says e old (Err why) new → Says (SetField l e field number) old (Err why) new
  set_stops l e field number layout old new why h rest =
      subst (λ p. Comes {B = CodeValue} (seen core) value_of p (Err why) new s) (sym (set_is l e field number layout old h))
      (stops {C = CodeValue} {D = CodeValue} (seen core) value_of value_of (eval core outcome e old.steps (world_of old) s) (behind_word l layout field number) why new s rest)

  pub no_set : (l : Label) (e : ExprCore) (field : ℕ) (number : ExprCore) (w : World) → None ≡ layout_of core (type_of e) → eval core outcome (SetField l e field number) w.steps (world_of w) s ≡ Halted (NoMeaning Dead) (world_of w) (seen core s)
  no_set l e field number w h = sym (ap (λ (o : Option BitLayout). of_numbers core l (option_map (λ a word x. changing (changed a field word x)) o) (eval core outcome e) (eval core outcome number) w.steps (world_of w) s) h)

  -- ---- chains and postfixes

  pub chain_goes : (l : Label) (first : ExprCore) (ls : List LinkCore) (x : CodeValue) (old mid new : World) (r : Result CodeValue Stopped) → formed (type_of first) ls ≡ true
      → Says first old (Ok x) mid → Comes (seen core) value_of (chain_from core outcome (value_of x) (type_of first) ls mid.steps (world_of mid) s) r new s → Says (Whole l (linked first ls)) old r new
  chain_goes l first ls x old mid new r h there rest =
      subst (λ p. Comes (seen core) value_of p r new s) (sym (chain_is core outcome ls first old.steps (world_of old) s h))
      (goes_on (seen core) value_of (eval core outcome first old.steps (world_of old) s) (λ y. chain_from core outcome y (type_of first) ls) r new s there rest)

  pub chain_stops : (l : Label) (first : ExprCore) (ls : List LinkCore) (old new : World) (why : Stopped) → formed (type_of first) ls ≡ true → Says first old (Err why) new → Says (Whole l (linked first ls)) old (Err why) new
  chain_stops l first ls old new why h rest =
      subst (λ p. Comes {B = CodeValue} (seen core) value_of p (Err why) new s) (sym (chain_is core outcome ls first old.steps (world_of old) s h))
      (stops {C = CodeValue} {D = CodeValue} (seen core) value_of value_of (eval core outcome first old.steps (world_of old) s) (λ y. chain_from core outcome y (type_of first) ls) why new s rest)

  pub chain_missing : (l : Label) (first : ExprCore) (ls : List LinkCore) (w : World) → formed (type_of first) ls ≡ false → eval core outcome (Whole l (linked first ls)) w.steps (world_of w) s ≡ Halted (NoMeaning Dead) (world_of w) (seen core s)
  chain_missing l first ls w h = no_chain core outcome ls first h w.steps (world_of w) s

  pub steps_go : (l : Label) (base : ExprCore) (ts : List StepCore) (x : CodeValue) (old mid new : World) (r : Result CodeValue Stopped)
      → Says base old (Ok x) mid → Comes (seen core) value_of (steps_from core outcome (value_of x) (type_of base) ts mid.steps (world_of mid) s) r new s → Says (Whole l (stepped base ts)) old r new
  steps_go l base ts x old mid new r there rest =
      subst (λ p. Comes (seen core) value_of p r new s) (sym (steps_are core outcome ts base old.steps (world_of old) s))
      (goes_on (seen core) value_of (eval core outcome base old.steps (world_of old) s) (λ y. steps_from core outcome y (type_of base) ts) r new s there rest)

  pub steps_stop : (l : Label) (base : ExprCore) (ts : List StepCore) (old new : World) (why : Stopped) → Says base old (Err why) new → Says (Whole l (stepped base ts)) old (Err why) new
  steps_stop l base ts old new why rest =
      subst (λ p. Comes {B = CodeValue} (seen core) value_of p (Err why) new s) (sym (steps_are core outcome ts base old.steps (world_of old) s))
      (stops {C = CodeValue} {D = CodeValue} (seen core) value_of value_of (eval core outcome base old.steps (world_of old) s) (λ y. steps_from core outcome y (type_of base) ts) why new s rest)

  -- ---- `?:`

  abbrev either_part : ExprCore → ExprCore → Bool → Part State Value
  either_part first second holds = if holds then eval core outcome first else eval core outcome second

  pub cond_goes : (l : Label) (test first second : ExprCore) (holds : Bool) (old mid new : World) (r : Result CodeValue Stopped) → Decided core (eval core outcome test old.steps (world_of old) s) s (Ok holds) mid
      → Comes (seen core) value_of (either_part first second holds mid.steps (world_of mid) s) r new s → Says (Cond l test first second) old r new
  cond_goes l test first second holds old mid new r h rest = subst (λ p. Comes (seen core) value_of p r new s) (sym (h (either_part first second))) rest

  pub cond_stops : (l : Label) (test first second : ExprCore) (old new : World) (why : Stopped) → Decided core (eval core outcome test old.steps (world_of old) s) s (Err why) new → Says (Cond l test first second) old (Err why) new
  cond_stops l test first second old new why h = h (either_part first second)
