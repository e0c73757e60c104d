-- What single statements of C take and leave: a statement that does nothing, the declaration of a name, and the test of a check.
use Rattle.std.proofs.Common.{◌≡◌, ℕ, suc, ◌+◌, ◌^◌, ◌<◌, pos, Bool, true, false, List, [], ◌∷◌, length, Option, Some, None, Result, Ok, Err, refl, ◌∙◌, ap, arith, lit<}
use Rattle.std.specs.Prelude.{if◌then◌else◌, not, IsSome}
use Rattle.std.specs.Ordering.{int_eq}
use Rattle.step_semantics.specs.Control.{Falls, onward}
use Rattle.step_semantics.specs.Steps.{World, Finished, Halted, Exhausted, FailedCheck, Part, give, after, tick, by_state, change, left, block}
use Rattle.step_semantics.specs.Takes.{Takes, Reaches}
use Rattle.step_semantics.proofs.Paying.{takes_reaches, takes_tick}
use Rattle.c_memory.specs.Blocks as blocks
use Rattle.c_memory.specs.Objects.{Objects}
use Rattle.c_ast.specs.declared.Arith.{Arith}
use Rattle.c_ast.specs.declared.CKind.{CKind}
use Rattle.c_ast.specs.declared.CKind.TheVariants.{Scalar, Arith as Computed}
use Rattle.c_ast.specs.declared.CScalar.TheVariants as scalar
use Rattle.iv_words.specs.declared.IntKind.TheVariants.{U32}
use Rattle.c_ast.specs.declared.CType.{CType}
use Rattle.c_ast.specs.declared.CType.TheVariants.{Value}
use Rattle.c_ast.proofs.Conversions.{held_stays}
use Rattle.c_ast.specs.Names.{stop_name}
use Rattle.c_ast.specs.Targets.{table_of}
use Rattle.overflow_checks.proofs.Constants.{plain_typed, typed_is_some}
use Rattle.overflow_checks.proofs.Numbers.{natural}
use Rattle.overflow_checks.proofs.Tables.{table_of_target}
use Rattle.c_ast.specs.declared.CUnary.TheVariants.{Not}
use Rattle.c_ast.specs.declared.Suffix.TheVariants.{Plain}
use Rattle.c_ast.specs.declared.Target.{Target}
use Rattle.c_ast.specs.Conversions.{constant_type}
use Rattle.c_ast.specs.Syntax.{Name, Expr, Number, Unary, Stmt, Stmts, Const, If, Nil, Cons}
use Rattle.c_meaning.specs.Expressions.{eval, eval_all}
use Rattle.c_meaning.specs.Calls as calls
use Rattle.c_meaning.specs.Calls.{given, call}
use Rattle.c_meaning.specs.Operators.{truth}
use Rattle.c_meaning.specs.State.{Program, CState, declare, leave, seen}
use Rattle.c_meaning.specs.Statements.{exec, exec_all, declaration}
use Rattle.c_meaning.specs.Values.{CValue, Trouble, Num, Ptr, is_true, on_ok, of_type, typed, as_assigned, as_arguments}
use Rattle.lower_values.specs.Pieces.{pad}
use Rattle.lower_values.specs.Tests.{stop_at, test_for}
use Rattle.value_refinement.specs.Laws.{running}
use Rattle.value_refinement.specs.Settings.{Setting}
use Rattle.form_answers.specs.Standing.{TestIs}

-- ---- statements in a row

module _ (g : Setting) where
  -- a statement that falls through, before the rest
  pub runs_first : (c : ℕ) (first : Stmt) (rest : List Stmt) (w : World) (t u : CState) → Takes c (exec g.program g.functions first) w t Falls u
      → Reaches c w (λ j. running g (first ∷ rest) j w t) (λ j. running g rest j w u)
  runs_first c first rest w t u h = takes_reaches c (exec g.program g.functions first) (onward (running g rest)) w t u Falls h

-- ---- constants

-- a constant below 2^63 has a type
pub constants_typed : (t : Target) (v : ℕ) → v < 2 ^ 63 → IsSome (constant_type t Plain v)
constants_typed t v lt = typed_is_some (table_of t) (table_of_target t) true (pos v) (constant_type t Plain v) (plain_typed (table_of t) (table_of_target t) v lt)

-- and its own value
pub constant_gives : (p : Program) (v : ℕ) (t : CState) → v < 2 ^ 63 → (kind : CKind) × (eval p (Number v Plain) t ≡ Ok (Num kind (pos v)))
constant_gives p v t lt = go (constant_type p.target Plain v) (constants_typed p.target v lt) where
  go : (found : Option Arith) → IsSome found → (kind : CKind) × (of_type found v ≡ Ok (Num kind (pos v)))
  go (Some a) some = (Computed a, refl)
  go None some = let no : ⊥ = cc in absurd no

-- ---- one statement

leave_all : {S N B : Type 0} (mem : Objects S N B) → blocks.leave (length mem) mem ≡ mem
leave_all [] = refl
leave_all (o ∷ os) = ap (λ l. o ∷ l) (leave_all os)

pub nothing_left : (t : CState) → leave t t ≡ t
nothing_left t = ap (λ objects. let r : CState = record { frames = t.frames; objects = objects } in r) (leave_all t.objects)

of_truth : (b : Bool) → on_ok (Ok (truth b)) is_true ≡ Ok b
of_truth true = refl
of_truth false = refl

negated : (r : Result CValue Trouble) (b : Bool) → on_ok r is_true ≡ Ok b → on_ok (on_ok r (λ v. on_ok (is_true v) (λ holds. Ok (truth (not holds))))) is_true ≡ Ok (not b)
negated (Ok (Num kind v)) b e = let same : not (int_eq v (pos 0)) ≡ b = cc in ap (λ c. on_ok (Ok (truth (not c))) is_true) same ∙ of_truth (not b)
negated (Ok (Ptr c base to)) b e = let no : ⊥ = cc in absurd no
negated (Err trouble) b e = let no : ⊥ = cc in absurd no

-- the opposite of a guard
pub not_tests : (p : Program) (t : CState) (guard : Expr) (b : Bool) → TestIs p t guard b → TestIs p t (Unary Not guard) (not b)
not_tests p t guard b e = negated (eval p guard t) b e

module _ (p : Program) (w : World) (t : CState) where
  -- what a statement does with a value that is there
  pub takes_value : {A B : Type 0} (c : ℕ) (f : CState → Result A Trouble) (a : A) (next : A → Part CState B) (b : B) (u : CState) → f t ≡ Ok a → Takes c (next a) w t b u → Takes c (by_state (λ s. given p (f s) next)) w t b u
  takes_value c f a next b u e h = record {
    waits = λ j lt. ap (λ r. given p r next j w t) e ∙ h.waits j lt;
    finishes = λ j. ap (λ r. given p r next (c + j) w t) e ∙ h.finishes j;
  }

  pub takes_one : {B : Type 0} (part : Part CState B) (b : B) (u : CState) → ((j : ℕ) → part j w t ≡ Finished b w u j) → Takes 1 (tick part) w t b u
  takes_one part b u h = takes_tick 0 part w t b u (record { waits = λ j lt. absurd (omega (arith, lt)); finishes = λ j. let e : 0 + j ≡ j = omega arith in ap (λ n. part n w t) e ∙ h j })

module _ (g : Setting) (w : World) (t : CState) where
  -- an `if` without `else`
  if_takes : (e : Expr) (body : Stmts) (b : Bool) → TestIs g.program t e b
      → ((j : ℕ) → (if b then block leave (exec_all g.program g.functions body) else give Falls) j w t ≡ Finished Falls w t j) → Takes 1 (exec g.program g.functions (If e body)) w t Falls t
  if_takes e body b tests h =
      takes_value g.program w t 1 (λ s. on_ok (eval g.program e s) is_true) b (λ holds. tick (if holds then block leave (exec_all g.program g.functions body) else give Falls)) Falls t tests
      (takes_one g.program w t (if b then block leave (exec_all g.program g.functions body) else give Falls) Falls t h)

  pub takes_pad : Takes 1 (exec g.program g.functions pad) w t Falls t
  takes_pad =
      let c = constant_gives g.program 1 t (lit< tt) in
      if_takes (Number 1 Plain) Nil true (ap (λ r. on_ok r is_true) c.1) (λ j. ap (λ u. Finished Falls w u j) (nothing_left t))

  pub takes_const : (x : Name) (ty : CType) (e : Expr) (v a : CValue) → eval g.program e t ≡ Ok v → as_assigned g.program.target ty v ≡ Ok a → Takes 1 (exec g.program g.functions (Const x ty e)) w t Falls (declare x a t)
  takes_const x ty e v a gives assigned =
      takes_value g.program w t 1 (eval g.program e) v (λ u. tick (declaration g.program x ty u)) Falls (declare x a t) gives
      (takes_one g.program w t (declaration g.program x ty v) Falls (declare x a t) (λ j. ap (λ r. given g.program r (λ b. change Falls (declare x b)) j w t) assigned))

  pub takes_test : (guard : Expr) (site : ℕ) → TestIs g.program t guard true → Takes 1 (exec g.program g.functions (test_for guard site)) w t Falls t
  takes_test guard site holds = if_takes (Unary Not guard) (Cons (stop_at site) Nil) false (not_tests g.program t guard true holds) (λ j. refl)

  site_given : (site : ℕ) → site < 2 ^ 32 → (values : List CValue) × (eval_all g.program (Number site Plain ∷ []) t ≡ Ok values) × (as_arguments g.program.target (Value (scalar.Int U32) ∷ []) values ≡ Ok (Num (Scalar (scalar.Int U32)) (pos site) ∷ []))
  site_given site small =
      let c = constant_gives g.program site t (omega (arith, small)) in (
        Num c.0 (pos site) ∷ [],
        ap (λ r. on_ok r (λ v. on_ok (Ok []) (λ vs. Ok (v ∷ vs)))) c.1,
        ap (λ n. on_ok (typed (Scalar (scalar.Int U32)) n) (λ a. on_ok (Ok []) (λ rest. Ok (a ∷ rest)))) (held_stays 32 false (pos site) (natural 32 site small)),
      )

  stopped : (site : ℕ) → site < 2 ^ 32 → (j : ℕ) → exec g.program g.functions (stop_at site) (suc j) w t ≡ Halted (FailedCheck site) w (seen g.program t)
  stopped site small j =
      let v = site_given site small in
      ap (λ r. after (given g.program r (λ values. tick (call g.program g.functions stop_name values)) (suc j) w t) (λ result. give Falls)) v.1
      ∙ ap (λ r. after (given g.program r (calls.stop_at g.program) j w t) (λ result. give Falls)) v.2

  -- one that fails ends the run with its second step
  pub stops_test : (guard : Expr) (site : ℕ) (rest : List Stmt) → site < 2 ^ 32 → TestIs g.program t guard false → (j : ℕ) → running g (test_for guard site ∷ rest) (suc (suc j)) w t ≡ Halted (FailedCheck site) w (seen g.program t)
  stops_test guard site rest small fails j =
      let body : Stmts = Cons (stop_at site) Nil in
      ap (λ r. after (given g.program r (λ holds. tick (if holds then block leave (exec_all g.program g.functions body) else give Falls)) (suc (suc j)) w t) (onward (running g rest))) (not_tests g.program t guard false fails)
      ∙ ap (λ r. after (left leave t (after r (onward (give Falls)))) (onward (running g rest))) (stopped site small j)

  -- and waits for its first
  pub test_waits : (guard : Expr) (site : ℕ) (rest : List Stmt) → TestIs g.program t guard false → running g (test_for guard site ∷ rest) 0 w t ≡ Exhausted w
  test_waits guard site rest fails =
      let body : Stmts = Cons (stop_at site) Nil in
      ap (λ r. after (given g.program r (λ holds. tick (if holds then block leave (exec_all g.program g.functions body) else give Falls)) 0 w t) (onward (running g rest))) (not_tests g.program t guard false fails)
