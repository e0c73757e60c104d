-- An object made with the values of its initializer, once they are numbers.
use Rattle.std.proofs.Common.{◌≡◌, ℕ, ℤ, List, Bool, false, Result, Ok, Err, refl, sym, ap, subst}
use Rattle.type_trees.specs.Values.{cells}
use Rattle.c_memory.specs.Initializers.{Init, initial}
use Rattle.c_ast.specs.declared.CBase.{CBase}
use Rattle.c_ast.specs.declared.Target.{Target}
use Rattle.c_ast.specs.Structs.{CTree, tree}
use Rattle.c_ast.specs.Syntax.{Name}
use Rattle.c_meaning.specs.Calls as calls
use Rattle.c_meaning.specs.Initializers.{in_numbers, made_with}
use Rattle.c_meaning.specs.Memory.{CObjects, memory_of, nought}
use Rattle.c_meaning.specs.State.{CState, seen, declare_object}
use Rattle.c_meaning.specs.Statements.{object_with}
use Rattle.c_meaning.specs.Values as meaning
use Rattle.c_meaning.specs.Values.{CValue, on_ok}
use Rattle.step_semantics.specs.Control.{Falls}
use Rattle.step_semantics.specs.Steps.{Part, change}
use Rattle.c_operators.specs.Values.{Gives, itself}
use Rattle.c_operators.specs.declared.Trouble.{Trouble}
use Rattle.c_operators.specs.declared.Trouble.TheVariants.{Undefined, Stuck, Memory}
use Rattle.c_expressions.specs.Programs.{Parts, program_of}
use Rattle.run_world.specs.Comes.{Comes, world_of}
use Rattle.run_world.specs.declared.World.{World}
use Rattle.run_world.specs.declared.Stopped.{Stopped}
use Rattle.c_statements.specs.Numbers.{numbers_given}
use Rattle.c_statements.specs.Parts.{control_of, stop_of, given}

pub made_split : (t : Target) (a : CTree) (constant : Bool) (objects : CObjects) (g : Init CValue) → made_with t a constant objects g ≡ on_ok (numbers_given t a g) (λ xs. Ok ((memory_of t).initialize objects a constant xs))
made_split t a constant objects g = go (in_numbers t a g)
  where
    go : (r : Result (Init ℤ) meaning.Trouble) → on_ok r (λ numbers. Ok ((memory_of t).initialize objects a constant (cells (initial nought a numbers)))) ≡ on_ok (on_ok r (λ ns. Ok (cells (initial nought a ns)))) (λ xs. Ok ((memory_of t).initialize objects a constant xs))
    go (Ok numbers) = refl
    go (Err w) = refl

module _ (p : Parts) {C D : Type 0} (view : D → C) where
  trouble_ends : {B F : Type 0} (said : Result B meaning.Trouble) (f : Result B Trouble) (why : Stopped) (then_found : B → Result F meaning.Trouble) (next : F → Part CState C) (n : ℕ) (w : World) (s : CState) → Gives (Unit {0}) (itself {A = B}) said f → Err why ≡ given f → Comes (seen (program_of p)) view (calls.given (program_of p) (on_ok said then_found) next n (world_of w) s) (Err why) w s
  trouble_ends said (Ok b) why then_found next n w s h e = absurd (cc)
  trouble_ends said (Err (Undefined reason)) why then_found next n w s h e =
      let k : stop_of (Undefined reason) ≡ why = cc in
      subst (λ x. Comes (seen (program_of p)) view (calls.given (program_of p) (on_ok said then_found) next n (world_of w) s) (Err x) w s) k (ap (λ r. calls.given (program_of p) (on_ok r then_found) next n (world_of w) s) h)
  trouble_ends said (Err Stuck) why then_found next n w s h e =
      let k : stop_of Stuck ≡ why = cc in
      subst (λ x. Comes (seen (program_of p)) view (calls.given (program_of p) (on_ok said then_found) next n (world_of w) s) (Err x) w s) k (ap (λ r. calls.given (program_of p) (on_ok r then_found) next n (world_of w) s) h)
  trouble_ends said (Err Memory) why then_found next n w s h e =
      let k : stop_of Memory ≡ why = cc in
      subst (λ x. Comes (seen (program_of p)) view (calls.given (program_of p) (on_ok said then_found) next n (world_of w) s) (Err x) w s) k tt

pub making_stops : (p : Parts) (x : Name) (b : CBase) (g : Init CValue) (a : CTree) (f : Result (List ℤ) Trouble) (why : Stopped) (n : ℕ) (w : World) (s : CState) (t : Target) → t ≡ p.target → a ≡ tree p.unit.structs b → Gives (Unit {0}) (itself {A = List ℤ}) (numbers_given t a g) f → Err why ≡ given f
    → Comes (seen (program_of p)) control_of (object_with (program_of p) x b g n (world_of w) s) (Err why) w s
making_stops p x b g a f why n w s t at is h e =
    subst (λ r. Comes (seen (program_of p)) control_of (calls.given (program_of p) r (λ made. change Falls (declare_object x b made)) n (world_of w) s) (Err why) w s) (sym (made_split p.target (tree p.unit.structs b) false s.objects g))
    (trouble_ends p control_of (numbers_given p.target (tree p.unit.structs b) g) f why (λ xs. Ok ((memory_of p.target).initialize s.objects (tree p.unit.structs b) false xs)) (λ made. change Falls (declare_object x b made)) n w s
    (subst (λ y. Gives (Unit {0}) (itself {A = List ℤ}) (numbers_given p.target y g) f) is (subst (λ u. Gives (Unit {0}) (itself {A = List ℤ}) (numbers_given u a g) f) at h)) e)
