-- Statements only add names to the frame in which they stand, and calls leave the frames as they were.
use Rattle.std.proofs.Common.{◌≡◌, ℕ, ℤ, zero, suc, pred, Bool, true, false, List, [], ◌∷◌, Option, Some, None, refl, sym, ap, ◌∙◌, append_assoc}
use Rattle.std.specs.Prelude.{◌++◌, ◌==◌, map, pos, unsigned_abs, slice_get, if◌then◌else◌}
use Rattle.run_records.specs.declared.Piece.{Piece}
use Rattle.run_records.specs.declared.Plain.{Plain}
use Rattle.step_semantics.specs.Frames.{Frames, pop_frame}
use Rattle.step_semantics.specs.Steps.{World, Halt, Progress, Finished, Halted, Exhausted, Part, give, bind, tick, ticks, by_state, change, block}
use Rattle.step_semantics.specs.Control.{Control, Falls, Broke, Returned, also, again, counted}
use Rattle.step_semantics.specs.Imports.{import_call}
use Rattle.step_semantics.specs.Safe.{Keeps}
use Rattle.step_semantics.proofs.Keeping.{Given, keeps_weaker, keeps_after, keeps_tick, keeps_ticks, keeps_left, keeps_also, keeps_again, keeps_forever, keeps_import_call}
use Rattle.step_semantics.proofs.FrameLaws.{keeps_in_frame}
use Rattle.type_trees.specs.Trees.{nodes}
use Rattle.type_trees.specs.Values.{Cell}
use Rattle.area_types.specs.Tables.{written_out}
use Rattle.core_tree.specs.View.{proc_of}
use Rattle.core_tree.specs.declared.Check.{Check}
use Rattle.core_tree.specs.declared.CoreProc.{CoreProc}
use Rattle.core_tree.specs.Syntax.{ModuleCore, ExprCore, CallCore, ImportCore, ProcCore, StmtCore, StmtsCore, NoStmts, MoreStmts}
use Rattle.core_tree.specs.Syntax.{Let, LetCall, Alloc, Store, Copy, Call, If, IfElse, Map, Upto, Downto, Forever, Break, Return, Assert, NoAlloc, NoBreak, NoReturn}
use Rattle.core_meaning.specs.Areas.{Held, type_at, held_at}
use Rattle.core_meaning.specs.Calls.{Calls, no_procedures, called, call}
use Rattle.core_meaning.specs.Checks.{formless, on_number, on_truth, on_reference, on_some}
use Rattle.core_meaning.specs.Conditions.{Ensured, ensured, required, tested, tested_all, ensures_of, requires_of}
use Rattle.core_meaning.specs.Expressions.{choice, eval, eval_all}
use Rattle.core_meaning.specs.Gives.{Gives, GivesAll, Holds, AllHold, FirstGives, Rests}
use Rattle.core_meaning.specs.Imports.{pieces_of, reply_shape, result_in, after_reply, asking, outside}
use Rattle.core_meaning.specs.Initializers.{first_value}
use Rattle.core_meaning.specs.Run.{result_of, body_of, procedure_call, with_procedure}
use Rattle.core_meaning.specs.State.{Frame, State, seen, leave, enter, back, with_name, with_area, holding}
use Rattle.core_meaning.specs.Statements.{Flow, naming, store, copied, copy, turn, returning, exec, exec_all}
use Rattle.core_meaning.specs.Values.{Value, Num, Ref}
use Rattle.core_meaning.proofs.Resting.{eval_rests}
use Rattle.core_meaning.proofs.RestingParts.{eval_all_rests, tested_rests, tested_all_rests, first_value_rests}
use Rattle.core_run.specs.Calls.{calls_after, calls_of}
use Rattle.core_run.specs.Within.{frames_of, Within}

abbrev pub any : Halt → Type 0
any how = Unit {0}

-- ---- the relation

within_itself : (s : State) → Within s s
within_itself s = record { more = []; names = refl; first = refl; callers = refl }

within_later : (s u v : State) → Within s u → Within u v → Within s v
within_later s u v h k =
    record {
      more = k.more ++ h.more;
      names = k.names ∙ ap (λ xs. k.more ++ xs) h.names ∙ sym (append_assoc k.more h.more (frames_of s).own.names);
      first = k.first ∙ h.first;
      callers = k.callers ∙ h.callers;
    }

within_same : (s u v : State) → Within s u → frames_of v ≡ frames_of u → Within s v
within_same s u v h e =
    record {
      more = h.more;
      names = ap (λ (f : Frames Frame). f.own.names) e ∙ h.names;
      first = ap (λ (f : Frames Frame). f.own.first) e ∙ h.first;
      callers = ap (λ (f : Frames Frame). f.callers) e ∙ h.callers;
    }

-- the frames are those of s
abbrev SameFrames : {A : Type 0} → State → A → State → Type 0
SameFrames s a u = frames_of u ≡ frames_of s

abbrev InFrame : {A : Type 0} → State → A → State → Type 0
InFrame s a u = Within s u

-- a part that leaves the frames as they were
record Steady {A : Type 0} (part : Part State A) : Type 0 where
  steady : (n : ℕ) (w : World) (s : State) → Keeps any (SameFrames {A = A} s) (part n w s)

-- a part that only adds names
pub record Adds {A : Type 0} (part : Part State A) : Type 0 where
  pub adds : (n : ℕ) (w : World) (s : State) → Keeps any (InFrame {A = A} s) (part n w s)

-- ---- how parts are made

steady_adds : {A : Type 0} {part : Part State A} → Steady part → Adds part
steady_adds {A} {part} h = record { adds = λ n w s. keeps_weaker any (SameFrames {A = A} s) (InFrame {A = A} s) (part n w s) (λ a u e. within_same s s u (within_itself s) e) (h.steady n w s) }

steady_bind : {A B : Type 0} {part : Part State A} {next : A → Part State B} → Steady part → ((a : A) → Steady (next a)) → Steady (bind part next)
steady_bind {A} {B} {part} {next} h k =
    record {
      steady = λ n w s. keeps_after any (SameFrames {A = A} s) (SameFrames {A = B} s) (part n w s) next (h.steady n w s)
          (λ a u e m v. keeps_weaker any (SameFrames {A = B} u) (SameFrames {A = B} s) (next a m v u) (λ b t f. f ∙ e) ((k a).steady m v u));
    }

adds_bind : {A B : Type 0} {part : Part State A} {next : A → Part State B} → Adds part → ((a : A) → Adds (next a)) → Adds (bind part next)
adds_bind {A} {B} {part} {next} h k =
    record {
      adds = λ n w s. keeps_after any (InFrame {A = A} s) (InFrame {A = B} s) (part n w s) next (h.adds n w s)
          (λ a u e m v. keeps_weaker any (InFrame {A = B} u) (InFrame {A = B} s) (next a m v u) (λ b t f. within_later s u t e f) ((k a).adds m v u));
    }

steady_tick : {A : Type 0} {part : Part State A} → Steady part → Steady (tick part)
steady_tick {A} {part} h = record { steady = λ n w s. keeps_tick any (SameFrames {A = A} s) part n w s (λ m. h.steady m w s) }

steady_ticks : {A : Type 0} (k : ℕ) {part : Part State A} → Steady part → Steady (ticks k part)
steady_ticks {A} k {part} h = record { steady = λ n w s. keeps_ticks any (SameFrames {A = A} s) k part n w s (λ m. h.steady m w s) }

adds_tick : {A : Type 0} {part : Part State A} → Adds part → Adds (tick part)
adds_tick {A} {part} h = record { adds = λ n w s. keeps_tick any (InFrame {A = A} s) part n w s (λ m. h.adds m w s) }

steady_either : {A : Type 0} (test : Bool) {c d : Part State A} → Steady c → Steady d → Steady (if test then c else d)
steady_either true h k = h
steady_either false h k = k

adds_either : {A : Type 0} (test : Bool) {c d : Part State A} → Adds c → Adds d → Adds (if test then c else d)
adds_either true h k = h
adds_either false h k = k

steady_give : {A : Type 0} (a : A) → Steady (give {S = State} a)
steady_give a = record { steady = λ n w s. refl }

adds_give : {A : Type 0} (a : A) → Adds (give {S = State} a)
adds_give a = record { adds = λ n w s. within_itself s }

left_in_frame : (s u : State) → Within s u → frames_of (leave s u) ≡ frames_of s
left_in_frame s u h =
    ap (λ (k : ℕ). let f : Frames Frame = record { own = record { names = (frames_of s).own.names; first = k }; callers = (frames_of u).callers } in f) h.first
    ∙ ap (λ (callers : List Frame). let f : Frames Frame = record { own = (frames_of s).own; callers = callers } in f) h.callers

-- a block leaves the frames as they were
steady_block : {A : Type 0} {part : Part State A} → Adds part → Steady (block leave part)
steady_block {A} {part} h = record { steady = λ n w s. keeps_left any (InFrame {A = A} s) (SameFrames {A = A} s) leave s (part n w s) (λ a u k. left_in_frame s u k) (h.adds n w s) }

adds_block : {A : Type 0} {part : Part State A} → Adds part → Adds (block leave part)
adds_block h = steady_adds (steady_block h)

adds_also : {first rest : Part State Flow} → Adds first → Adds rest → Adds (also first rest)
adds_also {first} {rest} h k =
    record {
      adds = λ n w s. keeps_also any (InFrame {A = Flow} s) (InFrame {A = Flow} s) first rest n w s (h.adds n w s)
          (λ u e m v. keeps_weaker any (InFrame {A = Flow} u) (InFrame {A = Flow} s) (rest m v u) (λ c t f. within_later s u t e f) (k.adds m v u)) (λ u e. e) (λ v u e. e);
    }

module _ (core : ModuleCore) where
  steady_formless : {A : Type 0} → Steady (formless {A = A} core)
  steady_formless = record { steady = λ n w s. tt }

  adds_formless : {A : Type 0} → Adds (formless {A = A} core)
  adds_formless = record { adds = λ n w s. tt }

  adds_number : {A : Type 0} (x : Value) {next : ℤ → Part State A} → ((v : ℤ) → Adds (next v)) → Adds (on_number core x next)
  adds_number (Num v) h = h v
  adds_number (Ref k path) h = adds_formless

  adds_truth : {A : Type 0} (x : Value) {next : Bool → Part State A} → ((b : Bool) → Adds (next b)) → Adds (on_truth core x next)
  adds_truth (Num v) h = h _
  adds_truth (Ref k path) h = adds_formless

  steady_number : {A : Type 0} (x : Value) {next : ℤ → Part State A} → ((v : ℤ) → Steady (next v)) → Steady (on_number core x next)
  steady_number (Num v) h = h v
  steady_number (Ref k path) h = steady_formless

  steady_reference : {A : Type 0} (x : Value) {next : ℕ → List ℕ → Part State A} → ((k : ℕ) (path : List ℕ) → Steady (next k path)) → Steady (on_reference core x next)
  steady_reference (Num v) h = steady_formless
  steady_reference (Ref k path) h = h k path

  steady_some : {A B : Type 0} (x : Option A) {next : A → Part State B} → ((a : A) → Steady (next a)) → Steady (on_some core x next)
  steady_some None h = steady_formless
  steady_some (Some a) h = h a

  adds_some : {A B : Type 0} (x : Option A) {next : A → Part State B} → ((a : A) → Adds (next a)) → Adds (on_some core x next)
  adds_some None h = adds_formless
  adds_some (Some a) h = h a

  -- ---- what changes nothing

  rests_keep : {A : Type 0} (given : A → Type 0) (w : World) (s : State) (r : Progress State A) → Rests core given w s r → Keeps any (SameFrames {A = A} s) r
  rests_keep given w s (Finished a u t m) h = ap frames_of h.2
  rests_keep given w s (Halted how u cells) h = tt
  rests_keep given w s (Exhausted u) h = tt

  steady_eval : (outcome : Option Value) (e : ExprCore) → Steady (eval core outcome e)
  steady_eval outcome e = record { steady = λ n w s. rests_keep (Gives core outcome s e) w s (eval core outcome e n w s) (eval_rests core w s outcome e n) }

  steady_eval_all : (es : List ExprCore) → Steady (eval_all core es)
  steady_eval_all es = record { steady = λ n w s. rests_keep (GivesAll core s es) w s (eval_all core es n w s) (eval_all_rests core w s es n) }

  steady_tested : (outcome : Option Value) (e : ExprCore) (check : Check) → Steady (tested core outcome e check)
  steady_tested outcome e check = record { steady = λ n w s. rests_keep (λ t. Holds core outcome s e) w s (tested core outcome e check n w s) (tested_rests core w s outcome e check n) }

  steady_ensured : (p : ProcCore) (outcome : Option Value) → Steady (ensured core p outcome)
  steady_ensured p outcome = record { steady = λ n w s. rests_keep (λ t. AllHold core outcome s (ensures_of p)) w s (tested_all core outcome (ensures_of p) n w s) (tested_all_rests core w s outcome (ensures_of p) n) }

  steady_required : (p : ProcCore) → Steady (required core p)
  steady_required p = record { steady = λ n w s. rests_keep (λ t. AllHold core None s (requires_of p)) w s (tested_all core None (requires_of p) n w s) (tested_all_rests core w s None (requires_of p) n) }

  -- ---- calls of imports

  steady_import : (name : List ℕ) (pieces : List Piece) (shape : List Plain) → Steady (import_call (seen core) name pieces shape)
  steady_import name pieces shape =
      record {
        steady = λ n w s. keeps_weaker any (Given s shape) (SameFrames {A = List ℤ} s) (import_call (seen core) name pieces shape n w s) (λ a u h. ap frames_of h.same)
            (keeps_import_call any (seen core) tt tt s name pieces shape n w);
      }

  steady_asking : (i : ImportCore) (args : List Value) (pieces : List Piece) (shape : List Plain) → Steady (asking core i args pieces shape)
  steady_asking i args pieces shape =
      steady_tick (steady_bind {part = import_call (seen core) i.name pieces shape} {next = λ reply. change (result_in i.result reply) (after_reply core i args reply)} (steady_import i.name pieces shape) (λ reply. record { steady = λ n w s. refl }))

  steady_outside : (i : ImportCore) (args : List Value) → Steady (outside core i args)
  steady_outside i args =
      record {
        steady = λ n w s. (steady_some (pieces_of s.areas args) {next = λ pieces. on_some core (reply_shape core i) (asking core i args pieces)} (λ pieces. steady_some (reply_shape core i) {next = asking core i args pieces} (steady_asking i args pieces))).steady n w s;
      }

  -- ---- calls

  pub record CallsSteady (calls : Calls) : Type 0 where
    keep : (number : ℕ) (args : List Value) → Steady (calls number args)

  steady_called : (calls : Calls) → CallsSteady calls → (c : CallCore) (args : List Value) → Steady (called core calls c args)
  steady_called calls h c args =
      steady_either c.import {c = on_some core (slice_get core.imports c.callee) (λ i. outside core i args)} {d = tick (calls c.callee args)}
      (steady_some (slice_get core.imports c.callee) {next = λ i. outside core i args} (λ i. steady_outside i args)) (steady_tick (h.keep c.callee args))

  steady_call : (calls : Calls) → CallsSteady calls → (c : CallCore) → Steady (call core calls c)
  steady_call calls h c = steady_bind {part = eval_all core c.args} {next = called core calls c} (steady_eval_all c.args) (steady_called calls h c)

  -- ---- statements that contain none

  adds_naming : (number : ℕ) (v : Value) → Adds (naming number v)
  adds_naming number v = record { adds = λ n w s. record { more = (number, v) ∷ []; names = refl; first = refl; callers = refl } }

  -- a number in a cell
  abbrev put_in : ℕ → List ℕ → ℤ → State → Part State Flow
  put_in k path v s = on_some core (type_at s.areas k path) (λ ty. tick (change Falls (holding k path (Cell v))))

  steady_put : (k : ℕ) (path : List ℕ) (v : ℤ) → Steady (by_state (put_in k path v))
  steady_put k path v = record { steady = λ n w s. (steady_some (type_at s.areas k path) {next = λ ty. tick (change Falls (holding k path (Cell v)))} (λ ty. steady_tick (record { steady = λ n w s. refl }))).steady n w s }

  steady_store : (target value : Value) → Steady (store core target value)
  steady_store target value =
      steady_number value {next = λ v. on_reference core target (λ k path. by_state (put_in k path v))} (λ v. steady_reference target {next = λ k path. by_state (put_in k path v)} (λ k path. steady_put k path v))

  steady_copied : (k : ℕ) (path : List ℕ) (target : Option _) (source : Option Held) → Steady (copied core k path target source)
  steady_copied k path target source =
      steady_some target {next = λ ty. on_some core source (λ held. ticks (nodes ty) (change Falls (holding k path held)))}
      (λ ty. steady_some source {next = λ held. ticks (nodes ty) (change Falls (holding k path held))} (λ held. steady_ticks (nodes ty) (record { steady = λ n w s. refl })))

  steady_copy : (target source : Value) → Steady (copy core target source)
  steady_copy target source =
      steady_reference target {next = λ k path. on_reference core source (λ j from. by_state (λ s. copied core k path (type_at s.areas k path) (held_at s.areas j from)))}
      (λ k path. steady_reference source {next = λ j from. by_state (λ s. copied core k path (type_at s.areas k path) (held_at s.areas j from))}
      (λ j from. record { steady = λ n w s. (steady_copied k path (type_at s.areas k path) (held_at s.areas j from)).steady n w s }))

  -- ---- statements

  module _ (calls : Calls) (h : CallsSteady calls) (p : ProcCore) where
    adds_returning : (result : Option Value) → Adds (returning (ensured core p) result)
    adds_returning result = adds_tick (adds_bind {part = ensured core p result} {next = λ t. give (Returned result)} (steady_adds (steady_ensured p result)) (λ t. adds_give (Returned result)))

    adds_choice : (e : ExprCore) (first second : Part State Flow) → Adds first → Adds second → Adds (choice core (eval core None e) first second)
    adds_choice e first second f g =
        adds_bind {part = eval core None e} {next = λ x. on_truth core x (λ b. tick (if b then first else second))} (steady_adds (steady_eval None e))
        (λ x. adds_truth x {next = λ b. tick (if b then first else second)} (λ b. adds_tick (adds_either b f g)))

    adds_again : (c : Flow) (loop : Part State Flow) → Adds loop → Adds (again loop c)
    adds_again Falls loop h = h
    adds_again Broke loop h = adds_give Falls
    adds_again (Returned v) loop h = adds_give (Returned v)

    adds_counted : (more : ℕ) (next : ℕ → ℕ) (i : ℕ) (body : ℕ → Part State Flow) → ((i : ℕ) → Adds (body i)) → Adds (counted more next i body)
    adds_counted zero next i body f = adds_bind {part = tick (body i)} {next = again (give Falls)} (adds_tick (f i)) (λ c. adds_again c (give Falls) (adds_give Falls))
    adds_counted (suc more) next i body f =
        adds_bind {part = tick (body i)} {next = again (counted more next (next i) body)} (adds_tick (f i)) (λ c. adds_again c (counted more next (next i) body) (adds_counted more next (next i) body f))

    adds_turn : (number : ℕ) (body : Part State Flow) → Adds body → (i : ℕ) → Adds (turn number body i)
    adds_turn number body f i = adds_block (adds_also (adds_naming number (Num (pos i))) f)

    mutual
      exec_adds : (st : StmtCore) → Adds (exec core calls (ensured core p) st)
      exec_adds (Let number e) = adds_bind {part = eval core None e} {next = λ v. tick (naming number v)} (steady_adds (steady_eval None e)) (λ v. adds_tick (adds_naming number v))
      exec_adds (LetCall number c) =
          adds_bind {part = call core calls c} {next = λ result. on_some core result (naming number)} (steady_adds (steady_call calls h c)) (λ result. adds_some result {next = naming number} (adds_naming number))
      exec_adds (Alloc number area init) =
          let ty = written_out core.structs area in
          adds_bind {part = first_value core init ty} {next = λ held. tick (change Falls (with_area number ty held))}
          (record { adds = λ n w s. keeps_weaker any (SameFrames {A = Held} s) (InFrame {A = Held} s) (first_value core init ty n w s) (λ a u e. within_same s s u (within_itself s) e) (rests_keep (FirstGives core s init ty) w s (first_value core init ty n w s) (first_value_rests core w s init ty n)) })
          (λ held. adds_tick (record { adds = λ n w s. record { more = _ ∷ []; names = refl; first = refl; callers = refl } }))
      exec_adds (Store target value) =
          adds_bind {part = eval core None value} {next = λ v. bind (eval core None target) (λ r. store core r v)} (steady_adds (steady_eval None value))
          (λ v. adds_bind {part = eval core None target} {next = λ r. store core r v} (steady_adds (steady_eval None target)) (λ r. steady_adds (steady_store r v)))
      exec_adds (Copy target source) =
          adds_bind {part = eval core None target} {next = λ r. bind (eval core None source) (λ from. copy core r from)} (steady_adds (steady_eval None target))
          (λ r. adds_bind {part = eval core None source} {next = λ from. copy core r from} (steady_adds (steady_eval None source)) (λ from. steady_adds (steady_copy r from)))
      exec_adds (Call c) = adds_bind {part = call core calls c} {next = λ result. give Falls} (steady_adds (steady_call calls h c)) (λ result. adds_give Falls)
      exec_adds (If e a) = adds_choice e (block leave (exec_all core calls (ensured core p) a)) (give Falls) (adds_block (exec_all_adds a)) (adds_give Falls)
      exec_adds (IfElse e a b) = adds_choice e (block leave (exec_all core calls (ensured core p) a)) (block leave (exec_all core calls (ensured core p) b)) (adds_block (exec_all_adds a)) (adds_block (exec_all_adds b))
      exec_adds (Map number length a) = adds_tick (adds_counted (pred length) suc 0 (turn number (exec_all core calls (ensured core p) a)) (adds_turn number (exec_all core calls (ensured core p) a) (exec_all_adds a)))
      exec_adds (Upto number length e a) =
          let body = turn number (exec_all core calls (ensured core p) a) in
          adds_bind {part = eval core None e} {next = λ x. on_number core x (λ last. tick (counted (unsigned_abs last) suc 0 body))} (steady_adds (steady_eval None e))
          (λ x. adds_number x {next = λ last. tick (counted (unsigned_abs last) suc 0 body)} (λ last. adds_tick (adds_counted (unsigned_abs last) suc 0 body (adds_turn number (exec_all core calls (ensured core p) a) (exec_all_adds a)))))
      exec_adds (Downto number length e a) =
          let body = turn number (exec_all core calls (ensured core p) a) in
          adds_bind {part = eval core None e} {next = λ x. on_number core x (λ first. tick (counted (unsigned_abs first) pred (unsigned_abs first) body))} (steady_adds (steady_eval None e))
          (λ x. adds_number x {next = λ first. tick (counted (unsigned_abs first) pred (unsigned_abs first) body)} (λ first. adds_tick (adds_counted (unsigned_abs first) pred (unsigned_abs first) body (adds_turn number (exec_all core calls (ensured core p) a) (exec_all_adds a)))))
      exec_adds (Forever a) =
          let k = steady_block (exec_all_adds a) in
          record {
            adds = λ n w s. keeps_forever any (InFrame {A = Flow} s) (InFrame {A = Flow} s) (λ u e. e) (λ v u e. e) (block leave (exec_all core calls (ensured core p) a))
                (λ u e m v. keeps_weaker any (SameFrames {A = Flow} u) (InFrame {A = Flow} s) (block leave (exec_all core calls (ensured core p) a) m v u) (λ c t f. within_same s u t e f) (k.steady m v u))
                n w s (within_itself s);
          }
      exec_adds Break = adds_tick (adds_give Broke)
      exec_adds (Return None) = adds_returning None
      exec_adds (Return (Some e)) = adds_bind {part = eval core None e} {next = λ v. returning (ensured core p) (Some v)} (steady_adds (steady_eval None e)) (λ v. adds_returning (Some v))
      exec_adds (Assert e check) = adds_bind {part = tested core None e check} {next = λ t. give Falls} (steady_adds (steady_tested None e check)) (λ t. adds_give Falls)
      exec_adds (NoAlloc a) = adds_block (exec_all_adds a)
      exec_adds (NoBreak a) = adds_block (exec_all_adds a)
      exec_adds (NoReturn a) = adds_block (exec_all_adds a)

      pub exec_all_adds : (ss : StmtsCore) → Adds (exec_all core calls (ensured core p) ss)
      exec_all_adds NoStmts = adds_give Falls
      exec_all_adds (MoreStmts st rest) = adds_also (exec_adds st) (exec_all_adds rest)

    -- ---- procedures

    adds_result : (c : Flow) → Adds (result_of core (ensured core p) c)
    adds_result Falls = adds_bind {part = ensured core p None} {next = λ t. give None} (steady_adds (steady_ensured p None)) (λ t. adds_give None)
    adds_result Broke = adds_formless
    adds_result (Returned result) = adds_give result

    adds_body : Adds (body_of core calls p)
    adds_body =
        adds_bind {part = required core p} {next = λ t. bind (exec_all core calls (ensured core p) p.body) (result_of core (ensured core p))} (steady_adds (steady_required p))
        (λ t. adds_bind {part = exec_all core calls (ensured core p) p.body} {next = result_of core (ensured core p)} (exec_all_adds p.body) adds_result)

    -- the frames of the callers are those at the entry
    popped : (args : List Value) (s u : State) → Within (enter args s) u → frames_of (back u) ≡ frames_of s
    popped args s u e = ap (λ (callers : List Frame). pop_frame (record { own = (frames_of u).own; callers = callers })) e.callers

    steady_procedure : (args : List Value) → Steady (procedure_call core calls p args)
    steady_procedure args =
        record {
          steady = λ n w s. keeps_in_frame any (InFrame {A = Option Value} (enter args s)) (SameFrames {A = Option Value} s) (enter args) back (body_of core calls p) n w s (λ a u e. popped args s u e) (adds_body.adds n w (enter args s));
        }

  with_steady : (calls : Calls) → CallsSteady calls → (number : ℕ) (p : ProcCore) → CallsSteady (with_procedure core calls number p)
  with_steady calls h number p = record { keep = λ callee args. steady_either (number == callee) {c = procedure_call core calls p args} {d = calls callee args} (steady_procedure calls h p args) (h.keep callee args) }

  after_steady : (number : ℕ) (calls : Calls) → CallsSteady calls → (ps : List ProcCore) → CallsSteady (calls_after core number calls ps)
  after_steady number calls h [] = h
  after_steady number calls h (p ∷ ps) = after_steady (suc number) (with_procedure core calls number p) (with_steady calls h number p) ps

  pub calls_steady : (ps : List CoreProc) → CallsSteady (calls_of core ps)
  calls_steady ps = after_steady 0 (no_procedures core) (record { keep = λ number args. record { steady = λ n w s. tt } }) (map proc_of ps)
