-- Functions whose demands are kept are not stuck where they are called with what their parameters want.
use Rattle.std.proofs.Common.{◌≡◌, ℕ, Bool, true, false, not, List, [], ◌∷◌, map, Option, Some, None, Ok, Err, refl, sym, subst, ap, ◌∙◌}
use Rattle.std.specs.Prelude.{⊤, ◌++◌, if◌then◌else◌, All, codes}
use Rattle.std.specs.Option.{is_some}
use Rattle.std.specs.List.{find, list_any}
use Rattle.std.proofs.lemmas.Bool.{or_parts, not-true, false_from_ne_true}
use Rattle.std.proofs.lemmas.List.Elements.{All-nil, All-cons}
use Rattle.iv_words.specs.Words.{same_word}
use Rattle.run_records.specs.declared.Reason.TheVariants.{Dead}
use Rattle.step_semantics.specs.Control.{Control, Falls, Broke, Returned}
use Rattle.step_semantics.specs.Frames.{without}
use Rattle.step_semantics.specs.Safe.{Keeps}
use Rattle.step_semantics.specs.Steps.{World, Part, give, block}
use Rattle.step_semantics.proofs.FrameLaws.{keeps_in_frame}
use Rattle.step_semantics.proofs.Keeping.{keeps_after}
use Rattle.c_ast.specs.declared.CExtern.{CExtern}
use Rattle.c_ast.specs.declared.CParam.{CParam}
use Rattle.c_ast.specs.declared.CType.{CType}
use Rattle.c_ast.specs.declared.CType.TheVariants.{Void, Value, Pointer}
use Rattle.c_ast.specs.declared.Target.{Target}
use Rattle.c_ast.specs.Names.{named, stop_name}
use Rattle.c_ast.specs.Signatures.{Signature, function_signature}
use Rattle.c_ast.specs.StaticTypes.{Entity, ConstName, declared}
use Rattle.c_ast.specs.Syntax.{Name, Function, TranslationUnit}
use Rattle.c_ast.specs.Targets.{table_of}
use Rattle.c_text.specs.Rules.{behind}
use Rattle.c_text.specs.Spelling.{param_text}
use Rattle.c_text.specs.Scopes.{Names, is_function, is_value, is_taken, with_value, with_held, with_const}
use Rattle.c_text.specs.StatementRules.{stmts_demands}
use Rattle.c_text.specs.UnitRules.{file_scope, inside, params_demands, with_params}
use Rattle.c_meaning.specs.Values.{Undefined, Address, CValue, Num, Ptr, held_type, as_assigned, as_arguments}
use Rattle.c_meaning.specs.State.{Program, Holding, CState, lives, leave, enter, back, in_own_frame}
use Rattle.c_meaning.specs.Scopes.{local_entity, file_entity}
use Rattle.c_meaning.specs.Places.{alive}
use Rattle.c_meaning.specs.ExpressionLaws.{SlotIsTyped}
use Rattle.c_meaning.specs.Calls.{CallResult, Gave, Calls, stop_call, call_found, call}
use Rattle.c_meaning.specs.Statements.{exec_all}
use Rattle.c_meaning.specs.Runs.{gave, function_value, param_types, bound, function_body, function_call, with_function}
use Rattle.c_meaning.specs.Laws.{watched, IsNotStuck}
use Rattle.c_soundness.proofs.Kept.{Kept, front, rest, asked}
use Rattle.c_soundness.proofs.Names.{same_self, same_equal, none_there, Alike, alike_covers, anywhere, Covers}
use Rattle.c_soundness.proofs.HeldMemory.{MemoryHeld}
use Rattle.c_soundness.proofs.Given.{Good, good_given, Holds, assigned_good, AreGiven, AreHeld, arguments_good}
use Rattle.c_soundness.proofs.Outside.{Called}
use Rattle.c_soundness.proofs.Statements.{usable_is, CallsKeep, Returns, Within, LeftBlock, body_left}

-- ---- new names

-- a name that may be declared stands for no value and no function
pub record IsNew (names : Names) (x : Name) : Type 0 where
  pub no_value : named names.values x ≡ None
  pub no_function : named names.functions x ≡ None

pub new_is : (names : Names) (x : Name) → not (is_taken names x) ≡ true → IsNew names x
new_is names x h =
    let parts = or_parts (is_value names x) (is_function names x) (not-true (is_taken names x) h) in
    record { no_value = none_there (named names.values x) parts.0; no_function = none_there (named names.functions x) (or_parts (is_some (named names.functions x)) (list_any (same_word x) names.itself) parts.1).0 }

-- what a list has not is other than what it has
pub differs : {A : Type 0} (ds : List (Name × A)) (x k : Name) (e : A) → named ds x ≡ None → named ds k ≡ Some e → same_word x k ≡ false
differs ds x k e none some = false_from_ne_true (same_word x k) (λ same. let q = ap (named ds) (same_equal x k same) in let no : ⊥ = (let both = sym none ∙ q ∙ some in cc) in no)

pub passed : {A : Type 0} (ds : List (Name × A)) (x k : Name) (v : A) → same_word x k ≡ false → named ((x, v) ∷ ds) k ≡ named ds k
passed {A} ds x k v differ = ap (λ b. let r : Option A = if b then Some v else named ds k in r) differ

-- ---- parameters

module _ (target : Target) where
  const_is : (names : Names) (x : Name) (ty : CType) (a : CValue) → Holds target ty a → with_const names x ty ≡ with_value names x (ConstName (held_type a))
  const_is names x ty a holds = ap (with_held names x) holds.of_type

  bound_typed : (xs : List CParam) (args : List CValue) → AreHeld target (param_types xs) args → All (λ n. SlotIsTyped (table_of target) n.1) (bound xs args)
  bound_typed [] args h = All-nil (λ n. SlotIsTyped (table_of target) n.1)
  bound_typed (x ∷ xs) [] h = absurd h
  bound_typed (x ∷ xs) (a ∷ args) h = All-cons (λ n. SlotIsTyped (table_of target) n.1) (x.name, Holding a) (bound xs args) h.0.typed (bound_typed xs args h.1)

  -- one that is declared already is none of the parameters
  absent : (xs : List CParam) (args : List CValue) (names : Names) (at : ℕ) (k : Name) (e : Entity) (more : List (Name × Entity)) → named names.values k ≡ Some e → named more k ≡ None → Kept (params_demands names at xs)
      → AreHeld target (param_types xs) args → named (map local_entity (bound xs args) ++ more) k ≡ None
  absent [] args names at k e more there none kept held = none
  absent (x ∷ xs) [] names at k e more there none kept held = absurd held
  absent (x ∷ xs) (a ∷ args) names at k e more there none kept held =
      let v : Entity = ConstName (held_type a) in
      let next : Names = with_value names x.name v in
      let new = new_is names x.name (asked (rest _ _ (front _ _ kept)) refl) in
      let differ = differs names.values x.name k e new.no_value there in
      let later = subst (λ q. Kept (params_demands q (behind at (param_text x ++ codes ", ")) xs)) (const_is names x.name x.ty a held.0) (rest _ _ kept) in
      passed (map local_entity (bound xs args) ++ more) x.name k v differ
      ∙ absent xs args next _ k e more (passed names.values x.name k v differ ∙ there) none later held.1

  -- the names behind the parameters, as the frame of the function has them
  pub record ParamsIn (names later : Names) (own : List (Name × Entity)) : Type 0 where
    pub structs : later.structs ≡ names.structs
    pub functions : later.functions ≡ names.functions
    pub in_function : later.in_function ≡ names.in_function
    pub values : Alike later.values own

  alike_cons : (x : Name) (v : Entity) (ds es : List (Name × Entity)) → Alike ds es → Alike ((x, v) ∷ ds) ((x, v) ∷ es)
  alike_cons x v ds es h = record { at = λ y. ap (λ r. let q : Option Entity = if same_word x y then Some v else r in q) (h.at y) }

  pub params_in : (xs : List CParam) (args : List CValue) (names : Names) (at : ℕ) (more : List (Name × Entity)) → Kept (params_demands names at xs) → AreHeld target (param_types xs) args → Alike names.values more
      → ParamsIn names (with_params names xs) (map local_entity (bound xs args) ++ more)
  params_in [] args names at more kept held alike = record { structs = refl; functions = refl; in_function = refl; values = alike }
  params_in (x ∷ xs) [] names at more kept held alike = absurd held
  params_in (x ∷ xs) (a ∷ args) names at more kept held alike =
      let v : Entity = ConstName (held_type a) in
      let next : Names = with_value names x.name v in
      let new = new_is names x.name (asked (rest _ _ (front _ _ kept)) refl) in
      let later = subst (λ q. Kept (params_demands q (behind at (param_text x ++ codes ", ")) xs)) (const_is names x.name x.ty a held.0) (rest _ _ kept) in
      let r = params_in xs args next _ ((x.name, v) ∷ more) later held.1 (alike_cons x.name v names.values more alike) in
      let none = absent xs args next _ x.name v more (ap (λ b. let q : Option Entity = if b then Some v else named names.values x.name in q) (same_self x.name)) (sym (alike.at x.name) ∙ new.no_value) later held.1 in
      subst (λ q. ParamsIn names (with_params q xs) (map local_entity (bound (x ∷ xs) (a ∷ args)) ++ more)) (sym (const_is names x.name x.ty a held.0))
      (record {
        structs = r.structs;
        functions = r.functions;
        in_function = r.in_function;
        values = record { at = λ y. r.values.at y ∙ sym (anywhere (map local_entity (bound xs args)) more x.name v none y) };
      })

-- ---- functions

module _ (u : TranslationUnit) (target : Target) where
  abbrev p : Program
  p = watched u target

  -- what the rules ask of a function behind these declarations
  pub record FunctionIs (table : List (Name × Signature)) (objects : List (Name × Entity)) (f : Function) : Type 0 where
    pub params_at : ℕ
    pub body_at : ℕ
    pub new : IsNew (file_scope u.structs table objects) f.name
    pub params : Kept (params_demands (inside (file_scope u.structs table objects) f.name) params_at f.params)
    pub body : Kept (stmts_demands target f.result false 1 (with_params (inside (file_scope u.structs table objects) f.name) f.params) body_at f.body)

  -- control as it leaves a function
  abbrev Gone : CType → Control (Option CValue) → Type 0
  Gone result Falls = ⊤
  Gone result Broke = ⊥
  Gone result (Returned value) = Returns u target result value

  record Back (result : CType) (s : CState) (control : Control (Option CValue)) (v : CState) : Type 0 where
    gone : Gone result control
    frames : v.frames ≡ s.frames
    memory : MemoryHeld target v.objects

  alive_by : (constant : Bool) (base : _) (to : Address) (test : Bool) → Good (λ a. a ≡ Ptr constant base to) (if test then Ok (Ptr constant base to) else Err (Undefined Dead))
  alive_by constant base to true = refl
  alive_by constant base to false = tt

  alive_good : (s : CState) (v : CValue) → Good (λ a. a ≡ v) (alive s v)
  alive_good s (Num k n) = refl
  alive_good s (Ptr constant base to) = alive_by constant base to (lives s to.object)

  gave_keeps : (result : CType) (a : CValue) → Holds target result a → (s v : CState) → v.frames ≡ s.frames → MemoryHeld target v.objects → (n : ℕ) (w : World) → Keeps IsNotStuck (Called target result s) (gave p a n w v)
  gave_keeps result a holds s v same held n w =
      good_given u target (λ b. b ≡ a) (Called target result s) (alive v a) (λ b. give (Gave b)) n w v (alive_good v a) (λ b is. record { gives = subst (Holds target result) (sym is) holds; frames = same; memory = held })

  value_keeps : (result : CType) (control : Control (Option CValue)) (s v : CState) → Back result s control v → (n : ℕ) (w : World) → Keeps IsNotStuck (Called target result s) (function_value p result control n w v)
  value_keeps Void Falls s v h n w = record { gives = refl; frames = h.frames; memory = h.memory }
  value_keeps (Value y) Falls s v h n w = record { gives = tt; frames = h.frames; memory = h.memory }
  value_keeps (Pointer constant base) Falls s v h n w = record { gives = tt; frames = h.frames; memory = h.memory }
  value_keeps result Broke s v h n w = absurd h.gone
  value_keeps Void (Returned None) s v h n w = record { gives = refl; frames = h.frames; memory = h.memory }
  value_keeps (Value y) (Returned None) s v h n w = let no : ⊥ = (let e = h.gone in cc) in absurd no
  value_keeps (Pointer constant base) (Returned None) s v h n w = let no : ⊥ = (let e = h.gone in cc) in absurd no
  value_keeps result (Returned (Some value)) s v h n w =
      good_given u target (Holds target result) (Called target result s) (as_assigned target result value) (gave p) n w v (assigned_good target result value h.gone) (λ a holds. gave_keeps result a holds s v h.frames h.memory n w)

  module _ (table : List (Name × Signature)) (objects : List (Name × Entity)) (alike : Alike objects (map file_entity u.objects)) (functions : Calls) (keep : CallsKeep u target table functions) (f : Function) (is : FunctionIs table objects f) where
    abbrev outer : Names
    outer = inside (file_scope u.structs table objects) f.name

    abbrev names : Names
    names = with_params outer f.params

    entered_within : (args : List CValue) → AreHeld target (param_types f.params) args → (s : CState) → MemoryHeld target s.objects
        → Within u target functions f.result (s.frames.own ∷ s.frames.callers) names (enter (bound f.params args) s)
    entered_within args held s memory =
        let r = params_in target f.params args outer is.params_at (map file_entity u.objects) is.params held alike in
        record {
          ready = record {
            structs = r.structs;
            typed = bound_typed target f.params args held;
            covers = subst (λ ds. Covers (declared ds) (declared (map local_entity (bound f.params args) ++ map file_entity u.objects))) (sym (usable_is names r.in_function))
                (alike_covers names.values (map local_entity (bound f.params args) ++ map file_entity u.objects) r.values);
            memory = memory;
          };
          in_function = r.in_function;
          calls = subst (λ q. CallsKeep u target q functions) (sym r.functions) keep;
          waiting = refl;
        }

    back_frames : (s v : CState) → v.frames.callers ≡ s.frames.own ∷ s.frames.callers → (back v).frames ≡ s.frames
    back_frames s v e = ap (without v.frames.own) e

    gone_back : (s : CState) (control : Control (Option CValue)) (v : CState) → LeftBlock u target functions f.result (s.frames.own ∷ s.frames.callers) names false control v → Back f.result s control (back v)
    gone_back s Falls v h = record { gone = tt; frames = back_frames s v h.waiting; memory = h.ready.memory }
    gone_back s Broke v h = let no : ⊥ = (let broke : false ≡ true = h.0 in cc) in absurd no
    gone_back s (Returned value) v h = record { gone = h.0; frames = back_frames s v h.1.waiting; memory = h.1.ready.memory }

    body_keeps : (args : List CValue) → AreHeld target (param_types f.params) args → (n : ℕ) (w : World) (s : CState) → MemoryHeld target s.objects → Keeps IsNotStuck (Called target f.result s) (function_body p functions f args n w s)
    body_keeps args held n w s memory =
        let body : Part CState (Control (Option CValue)) = block leave (exec_all p functions f.body) in
        let inner : CState = enter (bound f.params args) s in
        keeps_after IsNotStuck (Back f.result s) (Called target f.result s) (in_own_frame (bound f.params args) body n w s) (function_value p f.result)
        (keeps_in_frame IsNotStuck (LeftBlock u target functions f.result (s.frames.own ∷ s.frames.callers) names false) (Back f.result s) (enter (bound f.params args)) back body n w s (gone_back s)
        (body_left u target functions f.result (s.frames.own ∷ s.frames.callers) f.body names 1 is.body_at is.body n w inner (entered_within args held s memory)))
        (λ control v h m later. value_keeps f.result control s v h m later)

    pub function_keeps : (values : List CValue) → AreGiven target (param_types f.params) values → (n : ℕ) (w : World) (s : CState) → MemoryHeld target s.objects
        → Keeps IsNotStuck (Called target f.result s) (function_call (watched u target) functions f values n w s)
    function_keeps values h n w s memory =
        good_given u target (AreHeld target (param_types f.params)) (Called target f.result s) (as_arguments target (param_types f.params) values) (function_body p functions f) n w s (arguments_good target (param_types f.params) values h)
        (λ args held. body_keeps args held n w s memory)

  -- ---- one function more

  -- what the table has not is neither the end of a run at a check nor an extern
  pub record Grounded (table : List (Name × Signature)) : Type 0 where
    pub at : (name : Name) → named table name ≡ None → (same_word name stop_name ≡ false) × (find (λ x. same_word x.name name) u.externs ≡ None)

  none_before : {A : Type 0} (b : Bool) (v : A) (r : Option A) → (if b then Some v else r) ≡ None → r ≡ None
  none_before true v r h = let no : ⊥ = cc in absurd no
  none_before false v r h = h

  pub grounded_more : (table : List (Name × Signature)) (k : Name) (v : Signature) → Grounded table → Grounded ((k, v) ∷ table)
  grounded_more table k v g = record { at = λ name none. g.at name (none_before (same_word k name) v (named table name) none) }

  module _ (functions : Calls) (f : Function) where
    calls_it : (name : Name) (values : List CValue) → same_word name stop_name ≡ false → find (λ x. same_word x.name name) u.externs ≡ None → same_word f.name name ≡ true
        → call p (with_function p functions f) name values ≡ function_call p functions f values
    calls_it name values stop none same =
        ap (λ b. let q : Part CState CallResult = if b then stop_call p values else call_found p (with_function p functions f) name values (find (λ x. same_word x.name name) u.externs) in q) stop
        ∙ ap (call_found p (with_function p functions f) name values) none
        ∙ ap (λ b. let q : Part CState CallResult = if b then function_call p functions f values else functions name values in q) same

    found_as_before : (name : Name) (values : List CValue) (there : Option CExtern) → with_function p functions f name values ≡ functions name values → call_found p (with_function p functions f) name values there ≡ call_found p functions name values there
    found_as_before name values None e = e
    found_as_before name values (Some x) e = refl

    calls_as_before : (name : Name) (values : List CValue) → same_word f.name name ≡ false → call p (with_function p functions f) name values ≡ call p functions name values
    calls_as_before name values other =
        ap (λ r. let q : Part CState CallResult = if same_word name stop_name then stop_call p values else r in q)
        (found_as_before name values (find (λ x. same_word x.name name) u.externs) (ap (λ b. let q : Part CState CallResult = if b then function_call p functions f values else functions name values in q) other))

  some_same : (a b : Signature) → (let r : Option Signature = Some a in r) ≡ Some b → a ≡ b
  some_same a b e = cc

  module _ (table : List (Name × Signature)) (objects : List (Name × Entity)) (alike : Alike objects (map file_entity u.objects)) (functions : Calls) (keep : CallsKeep u target table functions) (ground : Grounded table) (f : Function)
      (is : FunctionIs table objects f) where
    called_by : (name : Name) (called : Signature) (test : Bool) → same_word f.name name ≡ test → (if test then Some (function_signature f) else named table name) ≡ Some called → (values : List CValue) → AreGiven target called.params values
        → (n : ℕ) (w : World) (s : CState) → MemoryHeld target s.objects → Keeps IsNotStuck (Called target called.result s) (call p (with_function p functions f) name values n w s)
    called_by name called true same there values h n w s memory =
        let is_called : function_signature f ≡ called = some_same (function_signature f) called there in
        let none : named table name ≡ None = subst (λ q. named table q ≡ None) (same_equal f.name name same) is.new.no_function in
        let g = ground.at name none in
        subst (λ part. Keeps IsNotStuck (Called target called.result s) (part n w s)) (sym (calls_it functions f name values g.0 g.1 same))
        (subst (λ r. Keeps IsNotStuck (Called target r s) (function_call p functions f values n w s)) (ap (λ c. c.result) is_called)
        (function_keeps table objects alike functions keep f is values (subst (λ ts. AreGiven target ts values) (sym (ap (λ c. c.params) is_called)) h) n w s memory))
    called_by name called false other there values h n w s memory =
        subst (λ part. Keeps IsNotStuck (Called target called.result s) (part n w s)) (sym (calls_as_before functions f name values other)) (keep.keeps name called there values h n w s memory)

    pub with_function_keeps : CallsKeep u target ((f.name, function_signature f) ∷ table) (with_function (watched u target) functions f)
    with_function_keeps = record { keeps = λ name called there values h n w s memory. called_by name called (same_word f.name name) refl there values h n w s memory }
