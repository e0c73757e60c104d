-- Statements whose demands are kept are not stuck, in a state that has their names.
use Rattle.std.proofs.Common.{◌≡◌, ℕ, Bool, true, false, IsTrue, List, [], ◌∷◌, length, map, Option, Some, None, Result, refl, sym, subst, ap, ◌∙◌}
use Rattle.std.specs.Prelude.{⊤, ◌++◌, ◌==◌, if◌then◌else◌, All, codes}
use Rattle.std.specs.Option.{is_some, option_map, option_and_then}
use Rattle.std.proofs.lemmas.Bool.{eqb-true}
use Rattle.std.proofs.lemmas.List.Elements.{All-cons}
use Rattle.step_semantics.specs.Control.{Control, Falls, Broke, Returned}
use Rattle.step_semantics.specs.Frames.{Frames}
use Rattle.step_semantics.specs.Safe.{Keeps}
use Rattle.step_semantics.specs.Steps.{World, Part, give, tick, change, block}
use Rattle.step_semantics.proofs.Keeping.{keeps_weaker, keeps_after, keeps_tick, keeps_left, keeps_also, keeps_forever, keeps_choice}
use Rattle.type_trees.specs.Trees.{Leaf, Many, Struct}
use Rattle.c_memory.specs.Access.{Fault}
use Rattle.c_memory.specs.Initializers as inits
use Rattle.c_memory.specs.Initializers.{IsInit}
use Rattle.c_ast.specs.declared.CBase.{CBase}
use Rattle.c_ast.specs.declared.CScalar.{CScalar}
use Rattle.c_ast.specs.declared.CType.{CType}
use Rattle.c_ast.specs.declared.CType.TheVariants.{Void, Value, Pointer}
use Rattle.c_ast.specs.declared.Target.{Target}
use Rattle.c_ast.specs.Names.{named}
use Rattle.c_ast.specs.Signatures.{Signature}
use Rattle.c_ast.specs.StaticTypes.{PlaceType, Held, Stored, Entity, ObjectName, declared, assigned_scalar}
use Rattle.c_ast.specs.Structs.{tree}
use Rattle.c_ast.specs.Syntax.{Name, Expr, Place, Init, FunctionCall, Stmt, Const, ConstCall, Object, Assign, If, IfElse, Forever, Break, Return, Block, Call, Stmts, Nil, Cons, TranslationUnit}
use Rattle.c_ast.specs.Targets.{table_of}
use Rattle.c_text.specs.ExpressionRules.{is_number, type_of, place_of, expr_demands, place_demands, given_demands, args_demands, call_demands, params_of, result_may_be_given, init_demands}
use Rattle.c_text.specs.Rules.{behind, where_typed, where_both}
use Rattle.c_text.specs.Scopes.{Names, usable, with_value, with_held, with_const, after}
use Rattle.c_text.specs.StatementRules.{is_void, assigned_demands, stmt_demands, stmts_demands}
use Rattle.c_meaning.specs.Values.{Trouble, CValue, is_true, on_ok, as_assigned}
use Rattle.c_meaning.specs.Memory.{CObjects, memory_of, answered, unless_refused}
use Rattle.c_meaning.specs.State.{Program, Slot, Holding, Naming, Frame, CState, with_name, declare, declare_object, leave}
use Rattle.c_meaning.specs.Scopes.{slot_entity, local_entity, file_entity, declarations}
use Rattle.c_meaning.specs.Places.{Lvalue, Known, Located}
use Rattle.c_meaning.specs.Expressions.{eval, eval_place, eval_all}
use Rattle.c_meaning.specs.Initializers.{eval_init, as_number, made_with}
use Rattle.c_meaning.specs.ExpressionLaws.{SlotIsTyped, place_type_of}
use Rattle.c_meaning.specs.Calls.{CallResult, Nothing, Missing, Gave, Calls, given, call}
use Rattle.c_meaning.specs.Statements.{with_value as with_value_of, with_truth, call_step, used, declaration, object, object_with, stored, assign, exec, exec_all}
use Rattle.c_meaning.specs.Laws.{CanHold, watched, IsNotStuck}
use Rattle.c_soundness.proofs.Kept.{Kept, front, rest, asked, others, found}
use Rattle.c_soundness.proofs.Typed.{place_is, place_said, place_test}
use Rattle.c_soundness.proofs.Names.{Covers, covers_more}
use Rattle.c_soundness.proofs.HeldMemory.{MemoryHeld, write_held, create_held, leave_held}
use Rattle.c_soundness.proofs.Given.{Good, good_on_ok, answered_good, good_given, IsGiven, Holds, assigned_good, held_given, AreGiven}
use Rattle.c_soundness.proofs.Evaluated.{Ready, place_good, given_is_good, tested_is_good, args_good, init_good, number_good, made_good}
use Rattle.c_soundness.proofs.Outside.{Called}

-- ---- what is asked of refl calls, and of what is assigned to

scalar_place : (q : PlaceType) (k : CScalar) → assigned_scalar q ≡ Some k → q ≡ Stored false (Leaf k)
scalar_place (Held v) k h = let no : ⊥ = cc in absurd no
scalar_place (Stored true a) k h = let no : ⊥ = cc in absurd no
scalar_place (Stored false (Leaf s)) k h = let is : s ≡ k = cc in ap (λ r. Stored false (Leaf r)) is
scalar_place (Stored false (Many n a)) k h = let no : ⊥ = cc in absurd no
scalar_place (Stored false (Struct w r)) k h = let no : ⊥ = cc in absurd no

void_is : (result : CType) → is_void result ≡ true → result ≡ Void
void_is Void h = refl
void_is (Value s) h = let no : ⊥ = cc in absurd no
void_is (Pointer constant base) h = let no : ⊥ = cc in absurd no

module _ (target : Target) (names : Names) where
  -- a call of what is declared, with as many arguments as parameters
  record CallIs (wanted : Option CType) (c : FunctionCall) : Type 0 where
    called : Signature
    found : named names.functions c.name ≡ Some called
    counted : length called.params ≡ length c.args
    result : where_typed (λ ty. result_may_be_given target names ty called.result) wanted ≡ true
    at : ℕ
    args : Kept (args_demands target names at called.params c.args)

  -- what is asked of refl two things, once the second is known
  second_known : {A B : Type 0} (f : A → B → Bool) (w : Option A) (b : B) → where_both f w (Some b) ≡ true → where_typed (λ a. f a b) w ≡ true
  second_known f None b h = refl
  second_known f (Some a) b h = h

  call_is : (at : ℕ) (wanted : Option CType) (c : FunctionCall) → Kept (call_demands target names at wanted c) → CallIs wanted c
  call_is at wanted c k =
      let f = found (named names.functions c.name) (asked k refl) in
      record {
        called = f.value;
        found = f.is;
        counted = eqb-true (length f.value.params) (length c.args) (subst (λ q. where_typed (λ s. length s.params == length c.args) q ≡ true) f.is (asked (others k) refl));
        result = second_known (result_may_be_given target names) wanted f.value.result
            (subst (λ q. where_both (result_may_be_given target names) wanted (option_map (λ s. s.result) q) ≡ true) f.is (asked (others (others k)) refl));
        at = behind at (c.name ++ codes "(");
        args = subst (λ q. Kept (args_demands target names (behind at (c.name ++ codes "(")) (params_of target names q) c.args)) f.is (others (others (others k)));
      }

pub usable_is : (names : Names) → names.in_function ≡ true → usable names ≡ names.values
usable_is names h = ap (λ b. let r : List (Name × Entity) = if b then names.values else [] in r) h

module _ (u : TranslationUnit) (target : Target) where
  abbrev p : Program
  p = watched u target

  -- what the table of functions says of each that may be called
  pub record CallsKeep (table : List (Name × Signature)) (functions : Calls) : Type 0 where
    pub keeps : (name : Name) (called : Signature) → named table name ≡ Some called → (values : List CValue) → AreGiven target called.params values → (n : ℕ) (w : World) (s : CState) → MemoryHeld target s.objects
        → Keeps IsNotStuck (Called target called.result s) (call (watched u target) functions name values n w s)

  -- what a `return` gives
  abbrev pub Returns : CType → Option CValue → Type 0
  Returns result None = result ≡ Void
  Returns result (Some v) = IsGiven target result v

  module _ (functions : Calls) (result : CType) (callers : List Frame) where
    pub record Within (names : Names) (s : CState) : Type 0 where
      pub ready : Ready u target names s
      pub in_function : names.in_function ≡ true
      pub calls : CallsKeep names.functions functions
      pub waiting : s.frames.callers ≡ callers

    -- where a block is left
    pub record Still (v : CState) : Type 0 where
      pub waiting : v.frames.callers ≡ callers
      pub memory : MemoryHeld target v.objects

    still : (names : Names) (s : CState) → Within names s → Still s
    still names s inv = record { waiting = inv.waiting; memory = inv.ready.memory }

    -- behind a statement, behind a row of them, and behind a block
    abbrev After : Names → Bool → Control (Option CValue) → CState → Type 0
    After names in_loop Falls v = Within names v
    After names in_loop Broke v = IsTrue in_loop × Still v
    After names in_loop (Returned value) v = Returns result value × Still v

    abbrev Ends : Bool → Control (Option CValue) → CState → Type 0
    Ends in_loop Falls v = Still v
    Ends in_loop Broke v = IsTrue in_loop × Still v
    Ends in_loop (Returned value) v = Returns result value × Still v

    abbrev pub LeftBlock : Names → Bool → Control (Option CValue) → CState → Type 0
    LeftBlock names in_loop Falls v = Within names v
    LeftBlock names in_loop Broke v = IsTrue in_loop × Within names v
    LeftBlock names in_loop (Returned value) v = Returns result value × Within names v

    left_after : (names : Names) (in_loop : Bool) (control : Control (Option CValue)) (v : CState) → LeftBlock names in_loop control v → After names in_loop control v
    left_after names in_loop Falls v h = h
    left_after names in_loop Broke v h = (h.0, still names v h.1)
    left_after names in_loop (Returned value) v h = (h.0, still names v h.1)

    -- ---- states that follow

    -- other objects, and the same names
    with_objects : (names : Names) (s v : CState) → Within names s → v.frames ≡ s.frames → MemoryHeld target v.objects → Within names v
    with_objects names s v inv same held = record {
      ready = record {
        structs = inv.ready.structs;
        typed = subst (λ f. All (λ n. SlotIsTyped (table_of target) n.1) f.own) (sym same) inv.ready.typed;
        covers = subst (λ f. Covers (declared (usable names)) (declared (map local_entity f.own ++ map file_entity u.objects))) (sym same) inv.ready.covers;
        memory = held;
      };
      in_function = inv.in_function;
      calls = inv.calls;
      waiting = ap (λ (f : Frames Frame). f.callers) same ∙ inv.waiting;
    }

    -- one name more
    named_within : (names : Names) (x : Name) (slot : Slot) (s : CState) (made : CObjects) → SlotIsTyped (table_of target) slot → MemoryHeld target made → Within names s
        → Within (with_value names x (slot_entity slot)) (with_name x slot (record s { objects = made }))
    named_within names x slot s made typed held inv = record {
      ready = record {
        structs = inv.ready.structs;
        typed = All-cons (λ n. SlotIsTyped (table_of target) n.1) (x, slot) s.frames.own typed inv.ready.typed;
        covers = subst (λ ds. Covers (declared ds) (declared ((x, slot_entity slot) ∷ declarations p s))) (sym (usable_is (with_value names x (slot_entity slot)) inv.in_function))
            (covers_more x (slot_entity slot) names.values (declarations p s) (subst (λ ds. Covers (declared ds) (declared (declarations p s))) (usable_is names inv.in_function) inv.ready.covers));
        memory = held;
      };
      in_function = inv.in_function;
      calls = inv.calls;
      waiting = inv.waiting;
    }

    held_within : (names : Names) (x : Name) (ty : CType) (a : CValue) (s : CState) → Holds target ty a → Within names s → Within (with_const names x ty) (declare x a s)
    held_within names x ty a s holds inv =
        subst (λ q. Within (with_held names x q) (declare x a s)) (sym holds.of_type) (named_within names x (Holding a) s s.objects holds.typed inv.ready.memory inv)

    restored : (names : Names) (s v : CState) → Within names s → Still v → Within names (leave s v)
    restored names s v inv h = record {
      ready = record { structs = inv.ready.structs; typed = inv.ready.typed; covers = inv.ready.covers; memory = leave_held target v.objects (length s.objects) h.memory };
      in_function = inv.in_function;
      calls = inv.calls;
      waiting = h.waiting;
    }

    ends_left : (names : Names) (in_loop : Bool) (s : CState) → Within names s → (control : Control (Option CValue)) (v : CState) → Ends in_loop control v → LeftBlock names in_loop control (leave s v)
    ends_left names in_loop s inv Falls v h = restored names s v inv h
    ends_left names in_loop s inv Broke v h = (h.0, restored names s v inv h.1)
    ends_left names in_loop s inv (Returned value) v h = (h.0, restored names s v inv h.1)

    -- ---- blocks

    left_of : (part : Part CState (Control (Option CValue))) (names : Names) (in_loop : Bool) (n : ℕ) (w : World) (s : CState) → Within names s → Keeps IsNotStuck (Ends in_loop) (part n w s)
        → Keeps IsNotStuck (LeftBlock names in_loop) (block leave part n w s)
    left_of part names in_loop n w s inv h = keeps_left IsNotStuck (Ends in_loop) (LeftBlock names in_loop) leave s (part n w s) (ends_left names in_loop s inv) h

    block_of : (part : Part CState (Control (Option CValue))) (names : Names) (in_loop : Bool) (n : ℕ) (w : World) (s : CState) → Within names s → Keeps IsNotStuck (Ends in_loop) (part n w s)
        → Keeps IsNotStuck (After names in_loop) (block leave part n w s)
    block_of part names in_loop n w s inv h =
        keeps_weaker IsNotStuck (LeftBlock names in_loop) (After names in_loop) (block leave part n w s) (left_after names in_loop) (left_of part names in_loop n w s inv h)

    -- ---- values

    declaration_keeps : (names : Names) (x : Name) (ty : CType) (v : CValue) → IsGiven target ty v → (in_loop : Bool) (n : ℕ) (w : World) (s : CState) → Within names s
        → Keeps IsNotStuck (After (with_const names x ty) in_loop) (declaration p x ty v n w s)
    declaration_keeps names x ty v h in_loop n w s inv =
        good_given u target (Holds target ty) (After (with_const names x ty) in_loop) (as_assigned target ty v) (λ a. change Falls (declare x a)) n w s (assigned_good target ty v h)
        (λ a holds. held_within names x ty a s holds inv)

    value_keeps : {A : Type 0} (post : A → CState → Type 0) (names : Names) (at : ℕ) (ty : CType) (e : Expr) → Kept (given_demands target names at ty e) → (next : CValue → Part CState A) (n : ℕ) (w : World) (s : CState) → Within names s
        → ((v : CValue) → IsGiven target ty v → (m : ℕ) → Keeps IsNotStuck post (next v m w s)) → Keeps IsNotStuck post (with_value_of p e next n w s)
    value_keeps post names at ty e k next n w s inv f =
        good_given u target (IsGiven target ty) post (eval p e s) (λ v. tick (next v)) n w s (given_is_good u target names s inv.ready at ty e k) (λ v h. keeps_tick IsNotStuck post (next v) n w s (λ m. f v h m))

    truth_keeps : {A : Type 0} (post : A → CState → Type 0) (names : Names) (at : ℕ) (e : Expr) → where_typed is_number (type_of target names e) ≡ true → Kept (expr_demands target names at e)
        → (next : Bool → Part CState A) (n : ℕ) (w : World) (s : CState) → Within names s → ((holds : Bool) (m : ℕ) → Keeps IsNotStuck post (next holds m w s)) → Keeps IsNotStuck post (with_truth p e next n w s)
    truth_keeps post names at e number k next n w s inv f =
        good_given u target (λ holds. ⊤) post (on_ok (eval p e s) is_true) (λ holds. tick (next holds)) n w s (tested_is_good u target names s inv.ready at e number k)
        (λ holds is. keeps_tick IsNotStuck post (next holds) n w s (f holds))

    -- ---- calls

    call_step_keeps : (names : Names) (wanted : Option CType) (c : FunctionCall) (is : CallIs target names wanted c) (n : ℕ) (w : World) (s : CState) → Within names s
        → Keeps IsNotStuck (Called target is.called.result s) (call_step p functions c n w s)
    call_step_keeps names wanted c is n w s inv =
        good_given u target (AreGiven target is.called.params) (Called target is.called.result s) (eval_all p c.args s) (λ values. tick (call p functions c.name values)) n w s
        (args_good u target names s inv.ready is.called.params c.args is.counted is.at is.args)
        (λ values h. keeps_tick IsNotStuck (Called target is.called.result s) (call p functions c.name values) n w s (λ m. inv.calls.keeps c.name is.called is.found values h m w s inv.ready.memory))

    used_keeps : (names : Names) (x : Name) (ty given_type : CType) → result_may_be_given target names ty given_type ≡ true → (s : CState) (value : CallResult) (v : CState) → Called target given_type s value v
        → (in_loop : Bool) (n : ℕ) (w : World) → Within names v → Keeps IsNotStuck (After (with_const names x ty) in_loop) (used p value (declaration p x ty) n w v)
    used_keeps names x ty given_type may s Nothing v h in_loop n w inv =
        let no : false ≡ true = subst (λ r. result_may_be_given target names ty r ≡ true) h.gives may in let bad : ⊥ = cc in absurd bad
    used_keeps names x ty given_type may s Missing v h in_loop n w inv = λ e. cc
    used_keeps names x ty given_type may s (Gave a) v h in_loop n w inv = declaration_keeps names x ty a (held_given target names ty given_type a h.gives may) in_loop n w v inv

    after_call : (names : Names) (result_type : CType) (s : CState) (value : CallResult) (v : CState) → Within names s → Called target result_type s value v → Within names v
    after_call names result_type s value v inv h = with_objects names s v inv h.frames h.memory

    -- ---- assignments

    unless_good : {A : Type 0} (P : A → Type 0) (fault : Option Fault) (r : Result A Trouble) → Good P r → Good P (unless_refused fault r)
    unless_good P None r h = h
    unless_good P (Some fault) r h = tt

    stored_good : (s : CState) → MemoryHeld target s.objects → (l : Lvalue) (k : CScalar) → place_type_of l ≡ Stored false (Leaf k) → (v : CValue) → IsGiven target (Value k) v → Good (MemoryHeld target) (stored target s l v)
    stored_good s held (Known q) k e v h = let no : ⊥ = cc in absurd no
    stored_good s held (Located constant to (Leaf j)) k e v h =
        let is : k ≡ j = cc in
        unless_good (MemoryHeld target) ((memory_of target).refuses s.objects to.object (to.offset, j)) (on_ok (as_number target j v) (λ n. answered ((memory_of target).write s.objects to.object (to.offset, j) n)))
        (good_on_ok (CanHold target j) (MemoryHeld target) (as_number target j v) (λ n. answered ((memory_of target).write s.objects to.object (to.offset, j) n)) (number_good target j v (subst (λ i. IsGiven target (Value i) v) is h))
        (λ n can. answered_good (MemoryHeld target) ((memory_of target).write s.objects to.object (to.offset, j) n) (λ made wrote. write_held target s.objects made held to.object (to.offset, j) n can wrote)))
    stored_good s held (Located constant to (Many n a)) k e v h = let no : ⊥ = cc in absurd no
    stored_good s held (Located constant to (Struct w r)) k e v h = let no : ⊥ = cc in absurd no

    assign_keeps : (names : Names) (l : Lvalue) (k : CScalar) → place_type_of l ≡ Stored false (Leaf k) → (v : CValue) → IsGiven target (Value k) v → (in_loop : Bool) (n : ℕ) (w : World) (s : CState) → Within names s
        → Keeps IsNotStuck (After names in_loop) (assign p l v n w s)
    assign_keeps names l k e v h in_loop n w s inv =
        good_given u target (MemoryHeld target) (After names in_loop) (stored target s l v) (λ objects. change Falls (λ x. record x { objects = objects })) n w s (stored_good s inv.ready.memory l k e v h)
        (λ made held. with_objects names s (record s { objects = made }) inv refl held)

    -- the place is one of a scalar, to which its value is given
    assignment_keeps : (names : Names) (place : Place) (e : Expr) (at later : ℕ) → where_typed (λ q. is_some (assigned_scalar q)) (place_of target names place) ≡ true → Kept (place_demands target names at place)
        → Kept (assigned_demands target names later (option_and_then assigned_scalar (place_of target names place)) e) → (in_loop : Bool) (n : ℕ) (w : World) (s : CState) → Within names s
        → Keeps IsNotStuck (After names in_loop) (exec p functions (Assign place e) n w s)
    assignment_keeps names place e at later test k given_kept in_loop n w s inv =
        let x = place_is target names place at k in
        let f = found (assigned_scalar x.found.value) (place_test target names (λ q. is_some (assigned_scalar q)) place x test) in
        let is : option_and_then assigned_scalar (place_of target names place) ≡ Some f.value = ap (option_and_then assigned_scalar) (place_said target names place x) ∙ f.is in
        let g : Kept (given_demands target names later (Value f.value) e) = subst (λ q. Kept (assigned_demands target names later q e)) is given_kept in
        let q : x.found.value ≡ Stored false (Leaf f.value) = scalar_place x.found.value f.value f.is in
        good_given u target (λ l. place_type_of l ≡ x.found.value) (After names in_loop) (eval_place p place s) (λ l. given p (eval p e s) (λ v. tick (assign p l v))) n w s (place_good u target names s inv.ready place x)
        (λ l typed. good_given u target (IsGiven target (Value f.value)) (After names in_loop) (eval p e s) (λ v. tick (assign p l v)) n w s (given_is_good u target names s inv.ready later (Value f.value) e g)
        (λ v h. keeps_tick IsNotStuck (After names in_loop) (assign p l v) n w s (λ m. assign_keeps names l f.value (typed ∙ q) v h in_loop m w s inv)))

    -- ---- objects

    object_with_keeps : (names : Names) (x : Name) (b : CBase) (i : inits.Init CValue) → IsInit (λ k v. IsGiven target (Value k) v) (tree u.structs b) i → (in_loop : Bool) (n : ℕ) (w : World) (s : CState) → Within names s
        → Keeps IsNotStuck (After (with_value names x (ObjectName false b)) in_loop) (object_with p x b i n w s)
    object_with_keeps names x b i h in_loop n w s inv =
        good_given u target (MemoryHeld target) (After (with_value names x (ObjectName false b)) in_loop) (made_with target (tree u.structs b) false s.objects i) (λ made. change Falls (declare_object x b made)) n w s
        (made_good target (tree u.structs b) false s.objects i h inv.ready.memory) (λ made held. named_within names x (Naming (length s.objects) b) s made tt held inv)

    initialized_keeps : (names : Names) (x : Name) (b : CBase) (i : Init) (at : ℕ) → Kept (init_demands target names at (tree names.structs b) i) → (in_loop : Bool) (n : ℕ) (w : World) (s : CState) → Within names s
        → Keeps IsNotStuck (After (with_value names x (ObjectName false b)) in_loop) (exec p functions (Object x b (Some i)) n w s)
    initialized_keeps names x b i at k in_loop n w s inv =
        good_given u target (IsInit (λ k v. IsGiven target (Value k) v) (tree u.structs b)) (After (with_value names x (ObjectName false b)) in_loop) (eval_init p i s) (λ values. tick (object_with p x b values)) n w s
        (init_good u target names s inv.ready (tree u.structs b) i at (subst (λ ss. Kept (init_demands target names at (tree ss b) i)) inv.ready.structs k))
        (λ values h. keeps_tick IsNotStuck (After (with_value names x (ObjectName false b)) in_loop) (object_with p x b values) n w s (λ m. object_with_keeps names x b values h in_loop m w s inv))

    -- ---- statements

    mutual
      exec_keeps : (st : Stmt) (names : Names) (in_loop : Bool) (braces at : ℕ) → Kept (stmt_demands target result in_loop braces names at st) → (n : ℕ) (w : World) (s : CState) → Within names s
          → Keeps IsNotStuck (After (after st names) in_loop) (exec p functions st n w s)
      exec_keeps (Const x ty e) names in_loop braces at k n w s inv =
          value_keeps (After (with_const names x ty) in_loop) names _ ty e (rest _ _ k) (declaration p x ty) n w s inv (λ v h m. declaration_keeps names x ty v h in_loop m w s inv)
      exec_keeps (ConstCall x ty c) names in_loop braces at k n w s inv =
          let is = call_is target names _ (Some ty) c (rest _ _ k) in
          keeps_after IsNotStuck (Called target is.called.result s) (After (with_const names x ty) in_loop) (call_step p functions c n w s) (λ value. tick (used p value (declaration p x ty)))
          (call_step_keeps names (Some ty) c is n w s inv)
          (λ value v h m later. keeps_tick IsNotStuck (After (with_const names x ty) in_loop) (used p value (declaration p x ty)) m later v
          (λ j. used_keeps names x ty is.called.result is.result s value v h in_loop j later (after_call names is.called.result s value v inv h)))
      exec_keeps (Object x b None) names in_loop braces at k n w s inv =
          keeps_tick IsNotStuck (After (with_value names x (ObjectName false b)) in_loop) (object p x b) n w s
          (λ m. named_within names x (Naming (length s.objects) b) s ((memory_of target).create s.objects (tree u.structs b)) tt (create_held target s.objects (tree u.structs b) inv.ready.memory) inv)
      exec_keeps (Object x b (Some i)) names in_loop braces at k n w s inv = initialized_keeps names x b i _ (rest _ _ k) in_loop n w s inv
      exec_keeps (Assign place e) names in_loop braces at k n w s inv = assignment_keeps names place e _ _ (asked k refl) (front _ _ (others k)) (rest _ _ (others k)) in_loop n w s inv
      exec_keeps (If e a) names in_loop braces at k n w s inv =
          truth_keeps (After names in_loop) names _ e (asked k refl) (front _ _ (others k)) _ n w s inv
          (λ holds m. keeps_choice IsNotStuck (After names in_loop) holds (block leave (exec_all p functions a)) (give Falls) m w s
          (λ is. block_of (exec_all p functions a) names in_loop m w s inv (exec_all_keeps a names in_loop _ _ (rest _ _ (others k)) m w s inv)) inv)
      exec_keeps (IfElse e a b) names in_loop braces at k n w s inv =
          truth_keeps (After names in_loop) names _ e (asked k refl) (front _ _ (front _ _ (others k))) _ n w s inv
          (λ holds m. keeps_choice IsNotStuck (After names in_loop) holds (block leave (exec_all p functions a)) (block leave (exec_all p functions b)) m w s
          (λ is. block_of (exec_all p functions a) names in_loop m w s inv (exec_all_keeps a names in_loop _ _ (rest _ _ (front _ _ (others k))) m w s inv))
          (block_of (exec_all p functions b) names in_loop m w s inv (exec_all_keeps b names in_loop _ _ (rest _ _ (others k)) m w s inv)))
      exec_keeps (Forever body) names in_loop braces at k n w s inv =
          keeps_forever IsNotStuck (LeftBlock names true) (After names in_loop) (λ v h. h.1) (λ value v h. (h.0, still names v h.1)) (block leave (exec_all p functions body))
          (λ v h m later. left_of (exec_all p functions body) names true m later v h (exec_all_keeps body names true _ _ k m later v h)) n w s inv
      exec_keeps Break names in_loop braces at k n w s inv = keeps_tick IsNotStuck (After names in_loop) (give Broke) n w s (λ m. (asked k refl, still names s inv))
      exec_keeps (Return None) names in_loop braces at k n w s inv = keeps_tick IsNotStuck (After names in_loop) (give (Returned None)) n w s (λ m. (void_is result (asked k refl), still names s inv))
      exec_keeps (Return (Some e)) names in_loop braces at k n w s inv =
          value_keeps (After names in_loop) names _ result e (others k) (λ v. give (Returned (Some v))) n w s inv (λ v h m. (h, still names s inv))
      exec_keeps (Block body) names in_loop braces at k n w s inv = block_of (exec_all p functions body) names in_loop n w s inv (exec_all_keeps body names in_loop _ _ k n w s inv)
      exec_keeps (Call c) names in_loop braces at k n w s inv =
          let is = call_is target names at None c k in
          keeps_after IsNotStuck (Called target is.called.result s) (After names in_loop) (call_step p functions c n w s) (λ value. give Falls) (call_step_keeps names None c is n w s inv)
          (λ value v h m later. after_call names is.called.result s value v inv h)

      exec_all_keeps : (ss : Stmts) (names : Names) (in_loop : Bool) (braces at : ℕ) → Kept (stmts_demands target result in_loop braces names at ss) → (n : ℕ) (w : World) (s : CState) → Within names s
          → Keeps IsNotStuck (Ends in_loop) (exec_all p functions ss n w s)
      exec_all_keeps Nil names in_loop braces at k n w s inv = still names s inv
      exec_all_keeps (Cons st ss) names in_loop braces at k n w s inv =
          keeps_also IsNotStuck (After (after st names) in_loop) (Ends in_loop) (exec p functions st) (exec_all p functions ss) n w s (exec_keeps st names in_loop braces _ (front _ _ k) n w s inv)
          (λ v h m later. exec_all_keeps ss (after st names) in_loop braces _ (rest _ _ k) m later v h) (λ v h. h) (λ value v h. h)

    pub body_left : (ss : Stmts) (names : Names) (braces at : ℕ) → Kept (stmts_demands target result false braces names at ss) → (n : ℕ) (w : World) (s : CState) → Within names s
        → Keeps IsNotStuck (LeftBlock names false) (block leave (exec_all (watched u target) functions ss) n w s)
    body_left ss names braces at k n w s inv = left_of (exec_all p functions ss) names false n w s inv (exec_all_keeps ss names false braces at k n w s inv)
