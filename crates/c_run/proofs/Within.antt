-- Statements only add names to the frame in which they stand, and calls leave the frames as they were.
use Rattle.std.proofs.Common.{◌≡◌, ℕ, ℤ, Bool, true, false, List, [], ◌∷◌, Option, Some, None, refl, sym, ap, ◌∙◌, append_assoc}
use Rattle.std.specs.List.{find}
use Rattle.std.specs.Prelude.{◌++◌, if◌then◌else◌, Result, Ok, Err}
use Rattle.iv_words.specs.Words.{same_word}
use Rattle.iv_words.specs.declared.IntKind.TheVariants.{U32}
use Rattle.run_records.specs.declared.Piece.{Piece}
use Rattle.run_records.specs.declared.Plain.{Plain}
use Rattle.step_semantics.specs.Frames.{Frames, pop_frame}
use Rattle.step_semantics.specs.Steps.{World, Halt, Finished, Part, bind, tick, block}
use Rattle.step_semantics.specs.Control.{Control, Falls, Broke, Returned}
use Rattle.step_semantics.specs.Imports.{import_call}
use Rattle.step_semantics.specs.Safe.{Keeps}
use Rattle.step_semantics.proofs.Keeping.{Given, keeps_weaker, keeps_after, keeps_tick, keeps_left, keeps_also, keeps_forever, keeps_import_call}
use Rattle.step_semantics.proofs.FrameLaws.{keeps_in_frame}
use Rattle.c_memory.specs.Initializers.{Init}
use Rattle.c_ast.specs.Structs.{tree}
use Rattle.c_ast.specs.declared.CBase.{CBase}
use Rattle.c_ast.specs.declared.CExtern.{CExtern}
use Rattle.c_ast.specs.declared.CScalar.TheVariants.{Int}
use Rattle.c_ast.specs.declared.CType.{CType}
use Rattle.c_ast.specs.declared.CType.TheVariants.{Void, Value, Pointer}
use Rattle.c_ast.specs.Names.{outer_name, stop_name}
use Rattle.c_ast.specs.Syntax.{Name, Expr, FunctionCall, Stmt, Const, ConstCall, Object, Assign, If, IfElse, Forever, Break, Return, Block, Call, Stmts, Nil, Cons, Function}
use Rattle.c_meaning.specs.Values.{Trouble, CValue, Num, Ptr, is_true, on_ok, as_assigned, as_arguments}
use Rattle.c_meaning.specs.State.{Program, CState, Frame, leave, enter, back, seen}
use Rattle.c_meaning.specs.Expressions.{eval, eval_place, eval_all}
use Rattle.c_meaning.specs.Places.{Lvalue, alive}
use Rattle.c_meaning.specs.Initializers.{eval_init, made_with}
use Rattle.c_meaning.specs.Calls.{troubled, given, CallResult, Nothing, Missing, Gave, Calls, no_functions, stop_at, stop_call, pieces_of, reply_shape, written_shape, reply_value, write_replies, reply_written, outside_with, outside, call_found, call}
use Rattle.c_meaning.specs.Statements.{with_value, with_truth, call_step, used, declaration, object, object_with, stored, assign, exec, exec_all}
use Rattle.c_meaning.specs.Runs.{gave, function_value, param_types, bound, function_body, function_call, with_function}
use Rattle.c_run.specs.Within.{frames_of, Within}

abbrev pub any : Halt → Type 0
any how = Unit {0}

-- ---- the relation

pub within_itself : (s : CState) → Within s s
within_itself s = record { more = []; own = refl; callers = refl }

pub within_later : (s u v : CState) → Within s u → Within u v → Within s v
within_later s u v h k =
    record {
      more = k.more ++ h.more;
      own = k.own ∙ ap (λ xs. k.more ++ xs) h.own ∙ sym (append_assoc k.more h.more (frames_of s).own);
      callers = k.callers ∙ h.callers;
    }

within_same : (s u v : CState) → Within s u → frames_of v ≡ frames_of u → Within s v
within_same s u v h e = record { more = h.more; own = ap (λ (f : Frames Frame). f.own) e ∙ h.own; callers = ap (λ (f : Frames Frame). f.callers) e ∙ h.callers }

same_within : (s u : CState) → frames_of u ≡ frames_of s → Within s u
same_within s u e = within_same s s u (within_itself s) e

-- the frames are those of s
abbrev SameFrames : {A : Type 0} → CState → A → CState → Type 0
SameFrames s a u = frames_of u ≡ frames_of s

abbrev InFrame : {A : Type 0} → CState → A → CState → Type 0
InFrame s a u = Within s u

-- a part that leaves the frames as they were
record Steady {A : Type 0} (part : Part CState A) : Type 0 where
  steady : (n : ℕ) (w : World) (s : CState) → Keeps any (SameFrames {A = A} s) (part n w s)

-- a part that only adds names
pub record Adds {A : Type 0} (part : Part CState A) : Type 0 where
  pub adds : (n : ℕ) (w : World) (s : CState) → Keeps any (InFrame {A = A} s) (part n w s)

-- ---- how parts are made

kept_troubled : {A : Type 0} (p : Program) (post : A → CState → Type 0) (trouble : Trouble) (n : ℕ) (w : World) (s : CState) → Keeps any post (troubled {A = A} p trouble n w s)
kept_troubled p post trouble n w s = tt

kept_given : {A B : Type 0} (p : Program) (post : B → CState → Type 0) (r : Result A Trouble) (next : A → Part CState B) (n : ℕ) (w : World) (s : CState) → ((a : A) → Keeps any post (next a n w s)) → Keeps any post (given p r next n w s)
kept_given p post (Ok a) next n w s h = h a
kept_given p post (Err trouble) next n w s h = tt

steady_adds : {A : Type 0} {part : Part CState A} → Steady part → Adds part
steady_adds {A} {part} h = record { adds = λ n w s. keeps_weaker any (SameFrames {A = A} s) (InFrame {A = A} s) (part n w s) (λ a u e. same_within s u e) (h.steady n w s) }

steady_given : {A B : Type 0} (p : Program) (r : Result A Trouble) {next : A → Part CState B} → ((a : A) → Steady (next a)) → Steady (given p r next)
steady_given {A} {B} p r {next} h = record { steady = λ n w s. kept_given p (SameFrames {A = B} s) r next n w s (λ a. (h a).steady n w s) }

adds_given : {A B : Type 0} (p : Program) (r : Result A Trouble) {next : A → Part CState B} → ((a : A) → Adds (next a)) → Adds (given p r next)
adds_given {A} {B} p r {next} h = record { adds = λ n w s. kept_given p (InFrame {A = B} s) r next n w s (λ a. (h a).adds n w s) }

steady_bind : {A B : Type 0} {part : Part CState A} {next : A → Part CState B} → Steady part → ((a : A) → Steady (next a)) → Steady (bind part next)
steady_bind {A} {B} {part} {next} h k =
    record {
      steady = λ n w s. keeps_after any (SameFrames {A = A} s) (SameFrames {A = B} s) (part n w s) next (h.steady n w s)
          (λ a u e m v. keeps_weaker any (SameFrames {A = B} u) (SameFrames {A = B} s) (next a m v u) (λ b t f. f ∙ e) ((k a).steady m v u));
    }

adds_bind : {A B : Type 0} {part : Part CState A} {next : A → Part CState B} → Adds part → ((a : A) → Adds (next a)) → Adds (bind part next)
adds_bind {A} {B} {part} {next} h k =
    record {
      adds = λ n w s. keeps_after any (InFrame {A = A} s) (InFrame {A = B} s) (part n w s) next (h.adds n w s)
          (λ a u e m v. keeps_weaker any (InFrame {A = B} u) (InFrame {A = B} s) (next a m v u) (λ b t f. within_later s u t e f) ((k a).adds m v u));
    }

steady_tick : {A : Type 0} {part : Part CState A} → Steady part → Steady (tick part)
steady_tick {A} {part} h = record { steady = λ n w s. keeps_tick any (SameFrames {A = A} s) part n w s (λ m. h.steady m w s) }

adds_tick : {A : Type 0} {part : Part CState A} → Adds part → Adds (tick part)
adds_tick {A} {part} h = record { adds = λ n w s. keeps_tick any (InFrame {A = A} s) part n w s (λ m. h.adds m w s) }

steady_choice : {A : Type 0} (test : Bool) {c d : Part CState A} → Steady c → Steady d → Steady (if test then c else d)
steady_choice true h k = h
steady_choice false h k = k

adds_choice : {A : Type 0} (test : Bool) {c d : Part CState A} → Adds c → Adds d → Adds (if test then c else d)
adds_choice true h k = h
adds_choice false h k = k

left_in_frame : (s u : CState) → Within s u → frames_of (leave s u) ≡ frames_of s
left_in_frame s u h = ap (λ (callers : List Frame). let f : Frames Frame = record { own = (frames_of s).own; callers = callers } in f) h.callers

-- a block leaves the frames as they were
steady_block : {A : Type 0} {part : Part CState A} → Adds part → Steady (block leave part)
steady_block {A} {part} h = record { steady = λ n w s. keeps_left any (InFrame {A = A} s) (SameFrames {A = A} s) leave s (part n w s) (λ a u k. left_in_frame s u k) (h.adds n w s) }

-- ---- calls

module _ (p : Program) where
  steady_stop : (values : List CValue) → Steady (stop_at p values)
  steady_stop [] = record { steady = λ n w s. tt }
  steady_stop (Num kind site ∷ []) = record { steady = λ n w s. tt }
  steady_stop (Ptr constant base to ∷ []) = record { steady = λ n w s. tt }
  steady_stop (v ∷ x ∷ vs) = record { steady = λ n w s. tt }

  steady_import : (name : List ℕ) (pieces : List Piece) (shape : List Plain) → Steady (import_call (seen p) name pieces shape)
  steady_import name pieces shape =
      record {
        steady = λ n w s. keeps_weaker any (Given s shape) (SameFrames {A = List ℤ} s) (import_call (seen p) name pieces shape n w s) (λ a u h. ap frames_of h.same)
            (keeps_import_call any (seen p) tt tt s name pieces shape n w);
      }

  steady_written : (args : List CValue) (reply : CallResult × List ℤ) → Steady (reply_written p args reply)
  steady_written args reply =
      record {
        steady = λ n w s. kept_given p (SameFrames {A = CallResult} s) (write_replies p.target p.unit.structs args reply.1 s.objects) _ n w s (λ objects. refl);
      }

  steady_replied : (x : CExtern) (args : List CValue) (pieces : List Piece) → Steady (outside_with p x args pieces)
  steady_replied x args pieces =
      steady_given p (reply_shape x.result) {next = λ shape. bind (import_call (seen p) (outer_name x.name) pieces (shape ++ written_shape p.unit.structs args)) (λ reply. given p (reply_value x.result reply) (reply_written p args))}
      (λ shape. steady_bind {part = import_call (seen p) (outer_name x.name) pieces (shape ++ written_shape p.unit.structs args)} {next = λ reply. given p (reply_value x.result reply) (reply_written p args)}
      (steady_import (outer_name x.name) pieces (shape ++ written_shape p.unit.structs args))
      (λ reply. steady_given p (reply_value x.result reply) {next = reply_written p args} (steady_written args)))

  steady_outside : (x : CExtern) (args : List CValue) → Steady (outside p x args)
  steady_outside x args =
      record {
        steady = λ n w s. kept_given p (SameFrames {A = CallResult} s) (pieces_of p.target p.unit.structs s.objects args) (outside_with p x args) n w s (λ pieces. (steady_replied x args pieces).steady n w s);
      }

  pub record CallsSteady (functions : Calls) : Type 0 where
    calls : (name : Name) (values : List CValue) → Steady (functions name values)

  steady_found : (functions : Calls) → CallsSteady functions → (name : Name) (values : List CValue) (found : Option CExtern) → Steady (call_found p functions name values found)
  steady_found functions h name values (Some x) = steady_given p (as_arguments p.target x.params values) {next = outside p x} (steady_outside x)
  steady_found functions h name values None = h.calls name values

  steady_call : (functions : Calls) → CallsSteady functions → (name : Name) (values : List CValue) → Steady (call p functions name values)
  steady_call functions h name values =
      let found : Option CExtern = find (λ x. same_word x.name name) p.unit.externs in
      steady_choice (same_word name stop_name) {c = stop_call p values} {d = call_found p functions name values found}
      (steady_given p (as_arguments p.target (Value (Int U32) ∷ []) values) {next = stop_at p} steady_stop) (steady_found functions h name values found)

  -- ---- statements

  adds_value : {A : Type 0} (e : Expr) {next : CValue → Part CState A} → ((v : CValue) → Adds (next v)) → Adds (with_value p e next)
  adds_value {A} e {next} h = record { adds = λ n w s. kept_given p (InFrame {A = A} s) (eval p e s) (λ v. tick (next v)) n w s (λ v. keeps_tick any (InFrame {A = A} s) (next v) n w s (λ m. (h v).adds m w s)) }

  adds_truth : {A : Type 0} (e : Expr) {next : Bool → Part CState A} → ((holds : Bool) → Adds (next holds)) → Adds (with_truth p e next)
  adds_truth {A} e {next} h =
      record { adds = λ n w s. kept_given p (InFrame {A = A} s) (on_ok (eval p e s) is_true) (λ holds. tick (next holds)) n w s (λ holds. keeps_tick any (InFrame {A = A} s) (next holds) n w s (λ m. (h holds).adds m w s)) }

  adds_declaration : (x : Name) (ty : CType) (v : CValue) → Adds (declaration p x ty v)
  adds_declaration x ty v = adds_given p (as_assigned p.target ty v) (λ a. record { adds = λ n w s. record { more = _ ∷ []; own = refl; callers = refl } })

  adds_object : (x : Name) (b : CBase) → Adds (object p x b)
  adds_object x b = record { adds = λ n w s. record { more = _ ∷ []; own = refl; callers = refl } }

  adds_object_with : (x : Name) (b : CBase) (values : Init CValue) → Adds (object_with p x b values)
  adds_object_with x b values =
      record {
        adds = λ n w s. kept_given p (InFrame {A = Control (Option CValue)} s) (made_with p.target (tree p.unit.structs b) false s.objects values) _ n w s (λ made. record { more = _ ∷ []; own = refl; callers = refl });
      }

  adds_assign : (l : Lvalue) (v : CValue) → Adds (assign p l v)
  adds_assign l v = record { adds = λ n w s. kept_given p (InFrame {A = Control (Option CValue)} s) (stored p.target s l v) _ n w s (λ objects. record { more = []; own = refl; callers = refl }) }

  adds_used : (x : Name) (ty : CType) (result : CallResult) → Adds (used p result (declaration p x ty))
  adds_used x ty Nothing = record { adds = λ n w s. tt }
  adds_used x ty Missing = record { adds = λ n w s. tt }
  adds_used x ty (Gave v) = adds_declaration x ty v

  adds_give : {A : Type 0} (a : A) → Adds (λ n w s. Finished a w s n)
  adds_give a = record { adds = λ n w s. within_itself s }

  module _ (functions : Calls) (h : CallsSteady functions) where
    steady_step : (c : FunctionCall) → Steady (call_step p functions c)
    steady_step c =
        record {
          steady = λ n w s. kept_given p (SameFrames {A = CallResult} s) (eval_all p c.args s) (λ values. tick (call p functions c.name values)) n w s
              (λ values. keeps_tick any (SameFrames {A = CallResult} s) (call p functions c.name values) n w s (λ m. (steady_call functions h c.name values).steady m w s));
        }

    mutual
      pub exec_adds : (st : Stmt) → Adds (exec p functions st)
      exec_adds (Const x ty e) = adds_value e (adds_declaration x ty)
      exec_adds (ConstCall x ty c) = adds_bind (steady_adds (steady_step c)) (λ result. adds_tick (adds_used x ty result))
      exec_adds (Object x b None) = adds_tick (adds_object x b)
      exec_adds (Object x b (Some i)) =
          record {
            adds = λ n w s. kept_given p (InFrame {A = Control (Option CValue)} s) (eval_init p i s) (λ values. tick (object_with p x b values)) n w s
                (λ values. keeps_tick any (InFrame {A = Control (Option CValue)} s) (object_with p x b values) n w s (λ m. (adds_object_with x b values).adds m w s));
          }
      exec_adds (Assign place e) =
          record {
            adds = λ n w s. kept_given p (InFrame {A = Control (Option CValue)} s) (eval_place p place s) (λ l. given p (eval p e s) (λ v. tick (assign p l v))) n w s
                (λ l. kept_given p (InFrame {A = Control (Option CValue)} s) (eval p e s) (λ v. tick (assign p l v)) n w s
                (λ v. keeps_tick any (InFrame {A = Control (Option CValue)} s) (assign p l v) n w s (λ m. (adds_assign l v).adds m w s)));
          }
      exec_adds (If e a) = adds_truth e (λ holds. adds_choice holds (steady_adds (steady_block (exec_all_adds a))) (adds_give Falls))
      exec_adds (IfElse e a b) = adds_truth e (λ holds. adds_choice holds (steady_adds (steady_block (exec_all_adds a))) (steady_adds (steady_block (exec_all_adds b))))
      exec_adds (Forever body) =
          let k = steady_block (exec_all_adds body) in
          record {
            adds = λ n w s. keeps_forever any (InFrame {A = Control (Option CValue)} s) (InFrame {A = Control (Option CValue)} s) (λ u e. e) (λ v u e. e) (block leave (exec_all p functions body))
                (λ u e m v. keeps_weaker any (SameFrames {A = Control (Option CValue)} u) (InFrame {A = Control (Option CValue)} s) (block leave (exec_all p functions body) m v u) (λ c t f. within_same s u t e f) (k.steady m v u))
                n w s (within_itself s);
          }
      exec_adds Break = adds_tick (adds_give Broke)
      exec_adds (Return None) = adds_tick (adds_give (Returned None))
      exec_adds (Return (Some e)) = adds_value e (λ v. adds_give (Returned (Some v)))
      exec_adds (Block body) = steady_adds (steady_block (exec_all_adds body))
      exec_adds (Call c) = adds_bind (steady_adds (steady_step c)) (λ result. adds_give Falls)

      pub exec_all_adds : (ss : Stmts) → Adds (exec_all p functions ss)
      exec_all_adds Nil = adds_give Falls
      exec_all_adds (Cons st rest) =
          let first = exec_adds st in
          let others = exec_all_adds rest in
          record {
            adds = λ n w s. keeps_also any (InFrame {A = Control (Option CValue)} s) (InFrame {A = Control (Option CValue)} s) (exec p functions st) (exec_all p functions rest) n w s (first.adds n w s)
                (λ u e m v. keeps_weaker any (InFrame {A = Control (Option CValue)} u) (InFrame {A = Control (Option CValue)} s) (exec_all p functions rest m v u) (λ c t f. within_later s u t e f) (others.adds m v u))
                (λ u e. e) (λ v u e. e);
          }

    -- ---- functions

    steady_gave : (v : CValue) → Steady (gave p v)
    steady_gave v = record { steady = λ n w s. kept_given p (SameFrames {A = CallResult} s) (alive s v) _ n w s (λ a. refl) }

    steady_left : (result : CType) (control : Control (Option CValue)) → Steady (function_value p result control)
    steady_left Void Falls = record { steady = λ n w s. refl }
    steady_left (Value k) Falls = record { steady = λ n w s. refl }
    steady_left (Pointer constant base) Falls = record { steady = λ n w s. refl }
    steady_left Void (Returned None) = record { steady = λ n w s. refl }
    steady_left (Value k) (Returned None) = record { steady = λ n w s. tt }
    steady_left (Pointer constant base) (Returned None) = record { steady = λ n w s. tt }
    steady_left result (Returned (Some v)) = steady_given p (as_assigned p.target result v) {next = gave p} steady_gave
    steady_left result Broke = record { steady = λ n w s. tt }

    popped : (params : Frame) (s u : CState) → frames_of u ≡ frames_of (enter params s) → frames_of (back u) ≡ frames_of s
    popped params s u e = ap pop_frame e

    steady_function : (f : Function) (values : List CValue) → Steady (function_call p functions f values)
    steady_function f values =
        steady_given p (as_arguments p.target (param_types f.params) values) {next = function_body p functions f}
        (λ args. steady_bind {next = function_value p f.result}
        (record {
          steady = λ n w s. keeps_in_frame any (SameFrames {A = Control (Option CValue)} (enter (bound f.params args) s)) (SameFrames {A = Control (Option CValue)} s) (enter (bound f.params args)) back
              (block leave (exec_all p functions f.body)) n w s (λ a u e. popped (bound f.params args) s u e) ((steady_block (exec_all_adds f.body)).steady n w (enter (bound f.params args) s));
        }) (steady_left f.result))

    pub with_steady : (f : Function) → CallsSteady (with_function p functions f)
    with_steady f = record { calls = λ name values. steady_choice (same_word f.name name) (steady_function f values) (h.calls name values) }

  pub none_steady : CallsSteady (no_functions p)
  none_steady = record { calls = λ name values. record { steady = λ n w s. tt } }
