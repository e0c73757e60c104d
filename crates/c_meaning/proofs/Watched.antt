-- Where a run that is watched is not stuck, the run of the unit shows the same: the one program differs from the other in how being stuck
-- is shown, and in nothing else.
use Rattle.std.proofs.Common.{◌≡◌, ◌≢◌, ℕ, zero, suc, ℤ, Bool, true, false, List, [], ◌∷◌, Option, Some, None, refl, ap, ◌∙◌}
use Rattle.std.specs.List.{find}
use Rattle.std.specs.Prelude.{⊤, ◌++◌, ◌&&◌, not, if◌then◌else◌, Result, Ok, Err}
use Rattle.iv_words.specs.Words.{same_word}
use Rattle.iv_words.specs.declared.IntKind.TheVariants.{U32}
use Rattle.run_records.specs.declared.EntryCall.{EntryCall}
use Rattle.run_records.specs.declared.End.TheVariants.{Stopped}
use Rattle.run_records.specs.declared.Piece.{Piece}
use Rattle.run_records.specs.declared.Reason.TheVariants.{NoValue}
use Rattle.run_records.specs.declared.Script.{Script}
use Rattle.step_semantics.specs.Steps.{World, Progress, Finished, Halted, Exhausted, Part, after, bind, tick, by_state, left, block}
use Rattle.step_semantics.specs.Control.{Control, Falls, Broke, Returned, onward, again, turns, forever}
use Rattle.step_semantics.specs.Frames.{in_frame}
use Rattle.step_semantics.specs.Imports.{import_call}
use Rattle.step_semantics.specs.Runs.{end_of, entry_calls, outcome, start}
use Rattle.step_semantics.specs.Safe.{Keeps}
use Rattle.c_memory.specs.Initializers as values
use Rattle.c_ast.specs.Structs.{tree}
use Rattle.c_ast.specs.declared.CBase.{CBase}
use Rattle.c_ast.specs.declared.CExtern.{CExtern}
use Rattle.c_ast.specs.declared.CScalar.TheVariants.{Int}
use Rattle.c_ast.specs.declared.CType.{CType}
use Rattle.c_ast.specs.declared.CType.TheVariants.{Void, Value, Pointer}
use Rattle.c_ast.specs.declared.Target.{Target}
use Rattle.c_ast.specs.Syntax.{Name, Expr, Number, Read, Address, Unary, Binary, Cast, Cond, Place, Var, At, Member, Element, Init, One, Zero, Many as Row, Inits, NoInits, MoreInits, FunctionCall, Stmt, Const, ConstCall, Object, Assign, If, IfElse, Forever, Break, Return, Block, Call, Stmts, Nil, Cons, FileObject, Function, TranslationUnit}
use Rattle.c_ast.specs.Names.{outer_name, stop_name}
use Rattle.c_ast.specs.Targets.{TargetTable, table_of}
use Rattle.c_meaning.specs.Values.{Trouble, Undefined, Stuck, CValue, Num, Ptr, is_true, on_ok, as_assigned, as_arguments}
use Rattle.c_meaning.specs.Memory.{CObjects}
use Rattle.c_meaning.specs.Places.{Lvalue, pointee, member_of, element_of, alive, read, address_of, cast}
use Rattle.c_meaning.specs.Initializers.{eval_init, eval_inits, made_with}
use Rattle.c_meaning.specs.Operators.{unary, binary}
use Rattle.c_meaning.specs.State.{Program, program_of, CState, at_rest, enter, leave, back, seen}
use Rattle.c_meaning.specs.Expressions.{static_type, as_common, eval, eval_place, eval_all}
use Rattle.c_meaning.specs.Calls.{troubled, given, CallResult, Nothing, Missing, Gave, Calls, no_functions, stop_at, stop_call, pieces_of, reply_shape, written_shape, reply_value, write_replies, reply_written, outside_with, outside, call_found, call}
use Rattle.c_meaning.specs.Statements.{with_value, with_truth, call_step, used, declaration, object_with, stored, assign, exec, exec_all}
use Rattle.c_meaning.specs.Runs.{gave, function_value, param_types, bound, function_body, function_call, with_function, entry_result, entry_values, entered, entry_among, entry, file_objects, first_state, run_from}
use Rattle.c_meaning.specs.Laws.{no_site, watched, IsNotStuck, WatchedRunsAreRuns}

-- not stuck, whatever else it came to
abbrev Moves : {A : Type 0} → Progress CState A → Type 0
Moves r = Keeps IsNotStuck (λ a s. ⊤) r

-- where the first part is not stuck, the second comes to the same
record Agree {A : Type 0} (part part' : Part CState A) : Type 0 where
  same : (n : ℕ) (w : World) (s : CState) → Moves (part n w s) → part' n w s ≡ part n w s

-- ---- how parts are made

agree_itself : {A : Type 0} {part : Part CState A} → Agree part part
agree_itself = record { same = λ n w s moves. refl }

after_same : {A B : Type 0} (r r' : Progress CState A) (next next' : A → Part CState B) → (Moves r → r' ≡ r) → ((a : A) → Agree (next a) (next' a)) → Moves (after r next) → after r' next' ≡ after r next
after_same (Finished a w s n) r' next next' e h moves = ap (λ x. after x next') (e tt) ∙ (h a).same n w s moves
after_same (Halted how w seen) r' next next' e h moves = ap (λ x. after x next') (e moves)
after_same (Exhausted w) r' next next' e h moves = ap (λ x. after x next') (e tt)

agree_bind : {A B : Type 0} {part part' : Part CState A} {next next' : A → Part CState B} → Agree part part' → ((a : A) → Agree (next a) (next' a)) → Agree (bind part next) (bind part' next')
agree_bind {A} {B} {part} {part'} {next} {next'} e h = record { same = λ n w s moves. after_same (part n w s) (part' n w s) next next' (e.same n w s) h moves }

tick_same : {A : Type 0} (part part' : Part CState A) → Agree part part' → (n : ℕ) (w : World) (s : CState) → Moves (tick part n w s) → tick part' n w s ≡ tick part n w s
tick_same part part' e zero w s moves = refl
tick_same part part' e (suc n) w s moves = e.same n w s moves

agree_tick : {A : Type 0} {part part' : Part CState A} → Agree part part' → Agree (tick part) (tick part')
agree_tick {A} {part} {part'} e = record { same = tick_same part part' e }

agree_by_state : {A : Type 0} {part part' : CState → Part CState A} → ((s : CState) → Agree (part s) (part' s)) → Agree (by_state part) (by_state part')
agree_by_state e = record { same = λ n w s moves. (e s).same n w s moves }

left_same : {A : Type 0} (leave : CState → CState → CState) (s : CState) (r r' : Progress CState A) → (Moves r → r' ≡ r) → Moves (left leave s r) → left leave s r' ≡ left leave s r
left_same leave s (Finished a w u n) r' e moves = ap (left leave s) (e tt)
left_same leave s (Halted how w seen) r' e moves = ap (left leave s) (e moves)
left_same leave s (Exhausted w) r' e moves = ap (left leave s) (e tt)

agree_block : {A : Type 0} {part part' : Part CState A} → Agree part part' → Agree (block leave part) (block leave part')
agree_block {A} {part} {part'} e = record { same = λ n w s moves. left_same leave s (part n w s) (part' n w s) (e.same n w s) moves }

agree_in_frame : {A : Type 0} (push : CState → CState) {part part' : Part CState A} → Agree part part' → Agree (in_frame push back part) (in_frame push back part')
agree_in_frame push {part} {part'} e = record { same = λ n w s moves. left_same (λ before end. back end) s (part n w (push s)) (part' n w (push s)) (e.same n w (push s)) moves }

agree_choice : {A : Type 0} (test : Bool) {c d c' d' : Part CState A} → Agree c c' → Agree d d' → Agree (if test then c else d) (if test then c' else d')
agree_choice true e f = e
agree_choice false e f = f

agree_onward : {V : Type 0} {next next' : Part CState (Control V)} → Agree next next' → (control : Control V) → Agree (onward next control) (onward next' control)
agree_onward e Falls = e
agree_onward e Broke = agree_itself
agree_onward e (Returned v) = agree_itself

agree_again : {V : Type 0} {loop loop' : Part CState (Control V)} → Agree loop loop' → (control : Control V) → Agree (again loop control) (again loop' control)
agree_again e Falls = e
agree_again e Broke = agree_itself
agree_again e (Returned v) = agree_itself

agree_turns : {V : Type 0} (body body' : Part CState (Control V)) → Agree body body' → (most : ℕ) → Agree (turns most body) (turns most body')
agree_turns body body' e zero = record { same = λ n w s moves. refl }
agree_turns body body' e (suc most) =
    record { same = λ n w s moves. after_same (tick body n w s) (tick body' n w s) (again (turns most body)) (again (turns most body')) (tick_same body body' e n w s) (agree_again (agree_turns body body' e most)) moves }

agree_forever : {V : Type 0} {body body' : Part CState (Control V)} → Agree body body' → Agree (forever body) (forever body')
agree_forever {V} {body} {body'} e = record { same = λ n w s moves. (agree_turns body body' e n).same n w s moves }

module _ (u : TranslationUnit) (target : Target) where
  abbrev p : Program
  p = watched u target

  abbrev q : Program
  q = program_of u target

  abbrev t : TargetTable
  t = table_of target

  troubled_agree : {A : Type 0} (trouble : Trouble) → Agree (troubled {A = A} p trouble) (troubled {A = A} q trouble)
  troubled_agree (Undefined reason) = record { same = λ n w s moves. refl }
  troubled_agree Stuck = record { same = λ n w s moves. absurd (moves refl) }

  given_agree : {A B : Type 0} (r : Result A Trouble) {next next' : A → Part CState B} → ((a : A) → Agree (next a) (next' a)) → Agree (given p r next) (given q r next')
  given_agree (Ok a) h = h a
  given_agree (Err trouble) h = troubled_agree trouble

  -- ---- expressions

  on_ok_same : {A B : Type 0} (r : Result A Trouble) {next next' : A → Result B Trouble} → ((a : A) → next' a ≡ next a) → on_ok r next' ≡ on_ok r next
  on_ok_same (Ok a) h = h a
  on_ok_same (Err trouble) h = refl

  mutual
    eval_same : (e : Expr) (s : CState) → eval q e s ≡ eval p e s
    eval_same (Number v suffix) s = refl
    eval_same (Read place) s = ap (λ r. on_ok r (read target s)) (place_same place s)
    eval_same (Address place) s = ap (λ r. on_ok r address_of) (place_same place s)
    eval_same (Unary op e) s = ap (λ r. on_ok r (unary t op)) (eval_same e s)
    eval_same (Binary op a b) s =
        ap (λ r. let x : Result CValue Trouble = on_ok r (λ v. binary t op v (eval q b s)) in x) (eval_same a s) ∙ ap (λ r. let x : Result CValue Trouble = on_ok (eval p a s) (λ v. binary t op v r) in x) (eval_same b s)
    eval_same (Cast to e) s = ap (λ r. on_ok r (cast target s to)) (eval_same e s)
    eval_same (Cond c a b) s =
        ap (λ r. let x : Result CValue Trouble = on_ok (on_ok r is_true) (λ holds. as_common t (static_type p s (Cond c a b)) (if holds then eval q a s else eval q b s)) in x) (eval_same c s)
        ∙ ap (λ r. let x : Result CValue Trouble = on_ok (on_ok (eval p c s) is_true) (λ holds. as_common t (static_type p s (Cond c a b)) (if holds then r else eval q b s)) in x) (eval_same a s)
        ∙ ap (λ r. let x : Result CValue Trouble = on_ok (on_ok (eval p c s) is_true) (λ holds. as_common t (static_type p s (Cond c a b)) (if holds then eval p a s else r)) in x) (eval_same b s)

    place_same : (place : Place) (s : CState) → eval_place q place s ≡ eval_place p place s
    place_same (Var x) s = refl
    place_same (At e) s = ap (λ r. on_ok r (pointee u.structs)) (eval_same e s)
    place_same (Member place m) s = ap (λ r. on_ok r (member_of target m)) (place_same place s)
    place_same (Element place e) s =
        ap (λ r. let x : Result Lvalue Trouble = on_ok r (λ array. on_ok (eval q e s) (element_of target array)) in x) (place_same place s)
        ∙ ap (λ r. let x : Result Lvalue Trouble = on_ok (eval_place p place s) (λ array. on_ok r (element_of target array)) in x) (eval_same e s)

  mutual
    init_same : (i : Init) (s : CState) → eval_init q i s ≡ eval_init p i s
    init_same (One e) s = ap (λ r. let x : Result (values.Init CValue) Trouble = on_ok r (λ v. Ok (values.One v)) in x) (eval_same e s)
    init_same Zero s = refl
    init_same (Row is) s = ap (λ r. let x : Result (values.Init CValue) Trouble = on_ok r (λ vs. Ok (values.Braces vs)) in x) (inits_same is s)

    inits_same : (is : Inits) (s : CState) → eval_inits q is s ≡ eval_inits p is s
    inits_same NoInits s = refl
    inits_same (MoreInits i is) s =
        ap (λ r. let x : Result (values.Inits CValue) Trouble = on_ok r (λ v. on_ok (eval_inits q is s) (λ vs. Ok (values.More v vs))) in x) (init_same i s)
        ∙ ap (λ r. let x : Result (values.Inits CValue) Trouble = on_ok (eval_init p i s) (λ v. on_ok r (λ vs. Ok (values.More v vs))) in x) (inits_same is s)

  eval_all_same : (es : List Expr) (s : CState) → eval_all q es s ≡ eval_all p es s
  eval_all_same [] s = refl
  eval_all_same (e ∷ es) s =
      ap (λ r. let x : Result (List CValue) Trouble = on_ok r (λ v. on_ok (eval_all q es s) (λ vs. Ok (v ∷ vs))) in x) (eval_same e s)
      ∙ ap (λ r. let x : Result (List CValue) Trouble = on_ok (eval p e s) (λ v. on_ok r (λ vs. Ok (v ∷ vs))) in x) (eval_all_same es s)

  -- what is done with a result that both have
  given_same : {A B : Type 0} (r r' : Result A Trouble) {next next' : A → Part CState B} → r' ≡ r → ((a : A) → Agree (next a) (next' a)) → Agree (given p r next) (given q r' next')
  given_same r r' {next} {next'} e h = record { same = λ n w s moves. ap (λ x. given q x next' n w s) e ∙ (given_agree r h).same n w s moves }

  -- ---- calls

  stop_agree : (values : List CValue) → Agree (stop_at p values) (stop_at q values)
  stop_agree [] = troubled_agree Stuck
  stop_agree (Num kind site ∷ []) = record { same = λ n w s moves. refl }
  stop_agree (Ptr constant base to ∷ []) = troubled_agree Stuck
  stop_agree (v ∷ x ∷ vs) = troubled_agree Stuck

  written_agree : (args : List CValue) (reply : CallResult × List ℤ) → Agree (reply_written p args reply) (reply_written q args reply)
  written_agree args reply = agree_by_state (λ s. given_agree (write_replies target u.structs args reply.1 s.objects) (λ objects. agree_itself))

  replied_agree : (x : CExtern) (args : List CValue) (pieces : List Piece) → Agree (outside_with p x args pieces) (outside_with q x args pieces)
  replied_agree x args pieces =
      given_agree (reply_shape x.result)
      {next = λ shape. bind (import_call (seen p) (outer_name x.name) pieces (shape ++ written_shape u.structs args)) (λ reply. given p (reply_value x.result reply) (reply_written p args))}
      {next' = λ shape. bind (import_call (seen q) (outer_name x.name) pieces (shape ++ written_shape u.structs args)) (λ reply. given q (reply_value x.result reply) (reply_written q args))}
      (λ shape. agree_bind {part = import_call (seen p) (outer_name x.name) pieces (shape ++ written_shape u.structs args)} {next = λ reply. given p (reply_value x.result reply) (reply_written p args)}
      {next' = λ reply. given q (reply_value x.result reply) (reply_written q args)} agree_itself
      (λ reply. given_agree (reply_value x.result reply) {next = reply_written p args} {next' = reply_written q args} (written_agree args)))

  outside_agree : (x : CExtern) (args : List CValue) → Agree (outside p x args) (outside q x args)
  outside_agree x args = agree_by_state (λ s. given_agree (pieces_of target u.structs s.objects args) {next = outside_with p x args} {next' = outside_with q x args} (replied_agree x args))

  abbrev CallsAgree : Calls → Calls → Type 0
  CallsAgree functions functions' = (name : Name) (values : List CValue) → Agree (functions name values) (functions' name values)

  found_agree : (functions functions' : Calls) → CallsAgree functions functions' → (name : Name) (values : List CValue) (found : Option CExtern) → Agree (call_found p functions name values found) (call_found q functions' name values found)
  found_agree functions functions' h name values (Some x) = given_agree (as_arguments target x.params values) {next = outside p x} {next' = outside q x} (outside_agree x)
  found_agree functions functions' h name values None = h name values

  call_agree : (functions functions' : Calls) → CallsAgree functions functions' → CallsAgree (call p functions) (call q functions')
  call_agree functions functions' h name values =
      let found : Option CExtern = find (λ x. same_word x.name name) u.externs in
      agree_choice (same_word name stop_name) {c = stop_call p values} {d = call_found p functions name values found} {c' = stop_call q values} {d' = call_found q functions' name values found}
      (given_agree (as_arguments target (Value (Int U32) ∷ []) values) {next = stop_at p} {next' = stop_at q} stop_agree) (found_agree functions functions' h name values found)

  -- ---- statements

  value_agree : {A : Type 0} (e : Expr) {next next' : CValue → Part CState A} → ((v : CValue) → Agree (next v) (next' v)) → Agree (with_value p e next) (with_value q e next')
  value_agree e h = agree_by_state (λ s. given_same (eval p e s) (eval q e s) (eval_same e s) (λ v. agree_tick (h v)))

  truth_agree : {A : Type 0} (e : Expr) {next next' : Bool → Part CState A} → ((holds : Bool) → Agree (next holds) (next' holds)) → Agree (with_truth p e next) (with_truth q e next')
  truth_agree e h = agree_by_state (λ s. given_same (on_ok (eval p e s) is_true) (on_ok (eval q e s) is_true) (ap (λ r. on_ok r is_true) (eval_same e s)) (λ holds. agree_tick (h holds)))

  declaration_agree : (x : Name) (ty : CType) (v : CValue) → Agree (declaration p x ty v) (declaration q x ty v)
  declaration_agree x ty v = given_agree (as_assigned target ty v) (λ a. agree_itself)

  object_agree : (x : Name) (b : CBase) (values : values.Init CValue) → Agree (object_with p x b values) (object_with q x b values)
  object_agree x b values = agree_by_state (λ s. given_agree (made_with target (tree u.structs b) false s.objects values) (λ made. agree_itself))

  assign_agree : (l : Lvalue) (v : CValue) → Agree (assign p l v) (assign q l v)
  assign_agree l v = agree_by_state (λ s. given_agree (stored target s l v) (λ objects. agree_itself))

  used_agree : (x : Name) (ty : CType) (result : CallResult) → Agree (used p result (declaration p x ty)) (used q result (declaration q x ty))
  used_agree x ty Nothing = troubled_agree Stuck
  used_agree x ty Missing = troubled_agree (Undefined NoValue)
  used_agree x ty (Gave v) = declaration_agree x ty v

  module _ (functions functions' : Calls) (h : CallsAgree functions functions') where
    step_agree : (c : FunctionCall) → Agree (call_step p functions c) (call_step q functions' c)
    step_agree c = agree_by_state (λ s. given_same (eval_all p c.args s) (eval_all q c.args s) (eval_all_same c.args s) (λ values. agree_tick (call_agree functions functions' h c.name values)))

    mutual
      exec_agree : (st : Stmt) → Agree (exec p functions st) (exec q functions' st)
      exec_agree (Const x ty e) = value_agree e (declaration_agree x ty)
      exec_agree (ConstCall x ty c) = agree_bind (step_agree c) (λ result. agree_tick (used_agree x ty result))
      exec_agree (Object x b None) = agree_itself
      exec_agree (Object x b (Some i)) = agree_by_state (λ s. given_same (eval_init p i s) (eval_init q i s) (init_same i s) (λ values. agree_tick (object_agree x b values)))
      exec_agree (Assign place e) =
          agree_by_state (λ s. given_same (eval_place p place s) (eval_place q place s) (place_same place s) (λ l. given_same (eval p e s) (eval q e s) (eval_same e s) (λ v. agree_tick (assign_agree l v))))
      exec_agree (If e a) = truth_agree e (λ holds. agree_choice holds (agree_block (exec_all_agree a)) agree_itself)
      exec_agree (IfElse e a b) = truth_agree e (λ holds. agree_choice holds (agree_block (exec_all_agree a)) (agree_block (exec_all_agree b)))
      exec_agree (Forever body) = agree_forever (agree_block (exec_all_agree body))
      exec_agree Break = agree_itself
      exec_agree (Return None) = agree_itself
      exec_agree (Return (Some e)) = value_agree e (λ v. agree_itself)
      exec_agree (Block body) = agree_block (exec_all_agree body)
      exec_agree (Call c) = agree_bind (step_agree c) (λ result. agree_itself)

      exec_all_agree : (ss : Stmts) → Agree (exec_all p functions ss) (exec_all q functions' ss)
      exec_all_agree Nil = agree_itself
      exec_all_agree (Cons st rest) = agree_bind (exec_agree st) (agree_onward (exec_all_agree rest))

    -- ---- functions

    gave_agree : (v : CValue) → Agree (gave p v) (gave q v)
    gave_agree v = agree_by_state (λ s. given_agree (alive s v) (λ a. agree_itself))

    left_agree : (result : CType) (control : Control (Option CValue)) → Agree (function_value p result control) (function_value q result control)
    left_agree Void Falls = agree_itself
    left_agree (Value s) Falls = agree_itself
    left_agree (Pointer constant base) Falls = agree_itself
    left_agree Void (Returned None) = agree_itself
    left_agree (Value s) (Returned None) = troubled_agree Stuck
    left_agree (Pointer constant base) (Returned None) = troubled_agree Stuck
    left_agree result (Returned (Some v)) = given_agree (as_assigned target result v) gave_agree
    left_agree result Broke = troubled_agree Stuck

    function_agree : (f : Function) (values : List CValue) → Agree (function_call p functions f values) (function_call q functions' f values)
    function_agree f values =
        given_agree (as_arguments target (param_types f.params) values) {next = function_body p functions f} {next' = function_body q functions' f}
        (λ args. agree_bind {next = function_value p f.result} {next' = function_value q f.result} (agree_in_frame (enter (bound f.params args)) (agree_block (exec_all_agree f.body))) (left_agree f.result))

    with_agree : (f : Function) → CallsAgree (with_function p functions f) (with_function q functions' f)
    with_agree f name values = agree_choice (same_word f.name name) (function_agree f values) (h name values)

    -- ---- entry calls

    result_agree : (result : CallResult) → Agree (entry_result p result) (entry_result q result)
    result_agree Nothing = agree_itself
    result_agree Missing = troubled_agree (Undefined NoValue)
    result_agree (Gave (Num kind v)) = agree_itself
    result_agree (Gave (Ptr constant base to)) = troubled_agree Stuck

    entered_agree : (f : Function) (values : List ℤ) → Agree (entered p functions f values) (entered q functions' f values)
    entered_agree f values =
        given_agree (entry_values (param_types f.params) values) {next = λ args. bind (function_call p functions f args) (entry_result p)} {next' = λ args. bind (function_call q functions' f args) (entry_result q)}
        (λ args. agree_bind {next = entry_result p} {next' = entry_result q} (function_agree f args) result_agree)

  among_agree : (functions functions' : Calls) → CallsAgree functions functions' → (fs : List Function) (name : Name) (values : List ℤ) → Agree (entry_among p functions fs name values) (entry_among q functions' fs name values)
  among_agree functions functions' h [] name values = troubled_agree Stuck
  among_agree functions functions' h (f ∷ fs) name values =
      agree_choice (not f.hidden && same_word (outer_name f.name) name) (entered_agree functions functions' h f values) (among_agree (with_function p functions f) (with_function q functions' f) (with_agree functions functions' h f) fs name values)

  entry_agree : (entry_call : EntryCall) → Agree (entry p entry_call) (entry q entry_call)
  entry_agree entry_call = among_agree (no_functions p) (no_functions q) (λ name values. troubled_agree Stuck) u.functions entry_call.name entry_call.values

  -- ---- runs

  calls_agree : (calls : List EntryCall) → Agree (entry_calls (entry p) calls) (entry_calls (entry q) calls)
  calls_agree [] = agree_itself
  calls_agree (entry_call ∷ calls) = agree_bind (agree_tick (entry_agree entry_call)) (λ result. record { same = λ n w s moves. (calls_agree calls).same n _ s moves })

  moves_unless : {A : Type 0} (r : Progress CState A) → (outcome (seen p) r).end ≢ Stopped no_site → Moves r
  moves_unless (Finished a w s n) other = tt
  moves_unless (Halted how w seen) other = λ e. other (ap end_of e)
  moves_unless (Exhausted w) other = tt

  objects_same : (os : List FileObject) (made : CObjects) → file_objects q os made ≡ file_objects p os made
  objects_same [] made = refl
  objects_same (o ∷ os) made =
      ap (λ r. let x : Result CObjects Trouble = on_ok r (λ values. on_ok (made_with target (tree u.structs o.base) o.constant made values) (file_objects q os)) in x) (init_same o.init at_rest)
      ∙ on_ok_same (eval_init p o.init at_rest) (λ values. on_ok_same (made_with target (tree u.structs o.base) o.constant made values) (objects_same os))

  first_same : first_state q ≡ first_state p
  first_same = ap (λ r. let x : Result CState Trouble = on_ok r (λ made. Ok (record at_rest { objects = made })) in x) (objects_same u.objects [])

  run_same : (first : Result CState Trouble) (script : Script) (n : ℕ) → (run_from p first script n).end ≢ Stopped no_site → run_from q first script n ≡ run_from p first script n
  run_same (Ok s) script n other = ap (outcome (seen q)) ((calls_agree script.calls).same n (start script) s (moves_unless _ other))
  run_same (Err (Undefined reason)) script n other = refl
  run_same (Err Stuck) script n other = absurd (other refl)

pub watched_runs_are_runs : WatchedRunsAreRuns
watched_runs_are_runs u target script n other =
    ap (λ first. run_from (program_of u target) first script n) (first_same u target) ∙ run_same u target (first_state (watched u target)) script n other
