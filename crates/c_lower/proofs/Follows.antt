-- The lowered unit follows its module, call by call, and so both directions hold of their runs.
use Rattle.std.proofs.Common.{◌≡◌, ◌≢◌, ℕ, ℤ, pos, ◌<◌, ◌≤◌, ◌^◌, Bool, true, false, List, [], ◌∷◌, map, Option, Some, None, Result, Ok, refl, sym, ◌∙◌, ap, subst, arith}
use Rattle.std.specs.Prelude.{All, IsTrue, if◌then◌else◌, replicate}
use Rattle.std.proofs.lemmas.List.Elements.{All-head, All-tail}
use Rattle.iv_words.specs.declared.IntKind.TheVariants.{U8}
use Rattle.run_records.specs.declared.Export.{Export}
use Rattle.iv_words.specs.Words.{same_word}
use Rattle.run_records.specs.Scripts.{export_of, found_fits, values_fit}
use Rattle.step_semantics.specs.Steps.{World, Progress, Part, give, after, bind, tick, change, left}
use Rattle.step_semantics.specs.Control.{Control, Falls, Broke, Returned, onward}
use Rattle.step_semantics.specs.Imports.{import_call}
use Rattle.step_semantics.specs.Follows.{none_excused, Follows}
use Rattle.step_semantics.specs.Bodies.{Returns, BodiesFollow}
use Rattle.step_semantics.proofs.Equations.{after_after, after_same, tick_then, ticks_same}
use Rattle.step_semantics.proofs.Following.{as_is, eased, rests, both_tick, bound, finished, wrapped}
use Rattle.step_semantics.proofs.ImportFollows.{import_then_follows}
use Rattle.step_semantics.proofs.RunFollows.{run_refines, none_fails}
use Rattle.first_form.specs.declared.FirstModule.{FirstModule}
use Rattle.first_form.specs.declared.FirstImport.{FirstImport}
use Rattle.first_form.specs.declared.FirstProc.{FirstProc}
use Rattle.first_form.specs.declared.FirstCall.{FirstCall}
use Rattle.first_form.specs.Valid.{CallFits, Valid}
use Rattle.first_meaning.specs.Source as source
use Rattle.first_meaning.proofs.Source.{runs_defined}
use Rattle.c_ast.specs.declared.CStruct.{CStruct}
use Rattle.c_ast.specs.declared.Target.{Target}
use Rattle.c_ast.specs.declared.Target.{Target}
use Rattle.c_ast.specs.declared.CScalar.TheVariants.{Int}
use Rattle.c_ast.specs.declared.CType.TheVariants.{Void, Value}
use Rattle.c_ast.specs.Names.{prefixed}
use Rattle.c_ast.specs.Syntax.{Function}
use Rattle.run_records.specs.declared.Piece.{Piece}
use Rattle.run_records.specs.declared.Piece.TheVariants as piece
use Rattle.c_meaning.specs.Values.{Trouble, CValue, on_ok, as_arguments}
use Rattle.c_meaning.specs.Memory.{CObjects}
use Rattle.c_meaning.specs.State.{Program, program_of, CState, at_rest, seen, leave, enter, back}
use Rattle.c_meaning.specs.Expressions.{eval_all}
use Rattle.c_meaning.specs.Calls.{CallResult, Nothing, Calls, no_functions, given, pieces_of, written_shape, write_replies, reply_written, outside_with, outside, call_found, call}
use Rattle.c_meaning.specs.Statements.{exec, exec_all}
use Rattle.c_meaning.specs.Runs.{function_value, entry_result, entered, entry_among, with_function, entry}
use Rattle.c_meaning.proofs.Lawful.{entry_lawful}
use Rattle.c_lower.specs.Shape.{extern_for}
use Rattle.c_lower.specs.Lowered.{constant_for, name_of, call_for, body_for, function_for, lowered}
use Rattle.c_lower.specs.Refines.{Refines}
use Rattle.c_lower.proofs.Imports.{found}
use Rattle.c_lower.proofs.Constants.{int_value, byte_value, constants_are, arguments_are}

-- the same bytes reach the outside, whatever objects there are, and no reply is written behind a number
module _ (t : Target) (structs : List CStruct) (objects : CObjects) where
  pieces_are : (values : List ℕ) → pieces_of t structs objects (map byte_value values) ≡ Ok (source.pieces values)
  pieces_are [] = refl
  pieces_are (v ∷ vs) = ap (λ r. on_ok r (λ rest. let q : Result (List Piece) Trouble = Ok (piece.Value (pos v) ∷ rest) in q)) (pieces_are vs)

  nothing_written : (values : List ℕ) (reply : List ℤ) → write_replies t structs (map byte_value values) reply objects ≡ Ok objects
  nothing_written [] reply = refl
  nothing_written (v ∷ vs) reply = nothing_written vs reply

nothing_shaped : (structs : List CStruct) (values : List ℕ) → written_shape structs (map byte_value values) ≡ []
nothing_shaped structs [] = refl
nothing_shaped structs (v ∷ vs) = nothing_shaped structs vs

-- states hold nothing yet
abbrev Alike : source.State → CState → Type 0
Alike s t = Unit {0}

-- both fall through: there is no loop and no return yet
abbrev Fell : Control (Option ℤ) → source.State → Control (Option CValue) → CState → Type 0
Fell Falls s Falls t = Unit {0}
Fell Falls s Broke t = ⊥
Fell Falls s (Returned u) t = ⊥
Fell Broke s b t = ⊥
Fell (Returned v) s b t = ⊥

-- whatever the states
fell_still : (a : Control (Option ℤ)) (s : source.State) (b : Control (Option CValue)) (t t' : CState) → Fell a s b t → Fell a s b t'
fell_still Falls s Falls t t' fell = fell
fell_still Falls s Broke t t' fell = absurd fell
fell_still Falls s (Returned u) t t' fell = absurd fell
fell_still Broke s b t t' fell = absurd fell
fell_still (Returned v) s b t t' fell = absurd fell

module _ (m : FirstModule) (valid : Valid m) (machine : Target) where
  abbrev program : Program
  program = program_of (lowered m) machine

  abbrev NameDiffers : List ℕ → List ℕ → Type 0
  NameDiffers a b = a ≢ b

  abbrev Small : ℕ → Type 0
  Small v = v < 2 ^ 8

  -- ---- one call

  module _ (functions : Calls) (c : FirstCall) (fits : CallFits m.imports c) where
    abbrev target : FirstImport
    target = fits.target

    -- what a call comes to, once its step is taken
    abbrev reached : Part CState CallResult
    reached = bind (import_call (seen program) target.name (source.pieces c.values) []) (λ reply. give Nothing)

    abbrev given_bytes : List CValue
    given_bytes = map byte_value c.values

    arguments : as_arguments machine (extern_for target).params (map int_value c.values) ≡ Ok given_bytes
    arguments = ap (λ k. as_arguments machine (replicate k (Value (Int U8))) (map int_value c.values)) (sym fits.counted) ∙ arguments_are machine c.values fits.small

    outside_is : (j : ℕ) (w : World) (t : CState) → outside program (extern_for target) given_bytes j w t ≡ reached j w t
    outside_is j w t =
        ap (λ r. given program r (outside_with program (extern_for target) given_bytes) j w t) (pieces_are machine [] t.objects c.values)
        ∙ ap (λ shape. after (import_call (seen program) target.name (source.pieces c.values) shape j w t) (λ reply. reply_written program given_bytes (Nothing, reply))) (nothing_shaped [] c.values)
        ∙ after_same (import_call (seen program) target.name (source.pieces c.values) [] j w t) (λ reply. reply_written program given_bytes (Nothing, reply)) (λ reply. give Nothing)
        (λ reply i v s. ap (λ r. given program r (λ objects. change Nothing (λ x. record x { objects = objects })) i v s) (nothing_written machine [] s.objects c.values reply))

    call_is : (j : ℕ) (w : World) (t : CState) → call program functions (prefixed target.name) (map int_value c.values) j w t ≡ reached j w t
    call_is j w t =
        ap (λ x. call_found program functions (prefixed target.name) (map int_value c.values) x j w t) (found (map (λ p. p.name) m.procs) m.imports valid.different c.import target fits.found)
        ∙ ap (λ r. given program r (outside program (extern_for target)) j w t) arguments
        ∙ outside_is j w t

    exec_is : (j : ℕ) (w : World) (t : CState) → exec program functions (call_for m.imports c) j w t ≡ tick (bind reached (λ result. give Falls)) j w t
    exec_is j w t =
        ap (λ name. after (given program (eval_all program (map constant_for c.values) t) (λ values. tick (call program functions (prefixed name) values)) j w t) (λ result. give Falls)) (ap name_of fits.found)
        ∙ ap (λ r. after (given program r (λ values. tick (call program functions (prefixed target.name) values)) j w t) (λ result. give Falls)) (constants_are (lowered m) machine t c.values fits.small)
        ∙ ap (λ r. after r (λ result. give Falls)) (ticks_same 1 (call program functions (prefixed target.name) (map int_value c.values)) reached call_is j w t)
        ∙ tick_then reached (λ result. give Falls) j w t

    -- what each side does in that step
    abbrev act : Part source.State (Control (Option ℤ))
    act = bind (import_call source.observed target.name (source.pieces c.values) []) (λ reply. give Falls)

    abbrev c_act : Part CState (Control (Option CValue))
    c_act = bind reached (λ result. give Falls)

    acts_follow : (n : ℕ) (w : World) (s : source.State) (t : CState) → Follows none_excused Fell 0 0 n (act n w s) (λ j. c_act j w t)
    acts_follow n w s t =
        let next : List ℤ → Part CState (Control (Option CValue)) = λ reply. give Falls in
        let value : List ℤ → Part CState CallResult = λ reply. give Nothing in
        as_is none_excused Fell 0 0 n (act n w s) (λ j. c_act j w t) (λ j. after (import_call (seen program) target.name (source.pieces c.values) [] j w t) next)
        (λ j. after_after (import_call (seen program) target.name (source.pieces c.values) [] j w t) value (λ result. give Falls))
        (import_then_follows none_excused source.observed (seen program) s t refl 0 Fell 0 target.name (source.pieces c.values) [] (λ reply. give Falls) next n w
        (λ values ok i le v. rests none_excused Fell 0 Falls Falls i v s t tt))

    exec_follows : (n : ℕ) (w : World) (s : source.State) (t : CState) → Follows none_excused Fell 0 0 n (source.exec m.imports c n w s) (λ j. exec program functions (call_for m.imports c) j w t)
    exec_follows n w s t =
        subst (λ i. Follows none_excused Fell 0 0 n (source.call_of i c.values n w s) (λ j. exec program functions (call_for m.imports c) j w t)) (sym fits.found)
        (as_is none_excused Fell 0 0 n (tick act n w s) (λ j. exec program functions (call_for m.imports c) j w t) (λ j. tick c_act j w t) (λ j. exec_is j w t)
        (both_tick none_excused Fell 0 0 act c_act w s t (λ i. eased none_excused Fell 0 0 15 0 i (act i w s) (λ j. c_act j w t) (omega arith) (omega arith) (acts_follow i w s t)) n))

  -- ---- bodies

  abbrev CallIsRight : FirstCall → Type 0
  CallIsRight = CallFits m.imports

  abbrev BodyIsRight : FirstProc → Type 0
  BodyIsRight p = All CallIsRight p.calls

  -- the statements after one that fell through
  onward_follows : (next : Part source.State (Control (Option ℤ))) (next' : Part CState (Control (Option CValue))) (n : ℕ) → ((s : source.State) (t : CState) (i : ℕ) (w : World) → Follows none_excused Fell 0 0 i (next i w s) (λ j. next' j w t))
      → (a : Control (Option ℤ)) (s : source.State) (b : Control (Option CValue)) (t : CState) → Fell a s b t → (i : ℕ) → i ≤ n → (w : World) → Follows none_excused Fell 0 0 i (onward next a i w s) (λ j. onward next' b j w t)
  onward_follows next next' n h Falls s Falls t fell i le w = h s t i w
  onward_follows next next' n h Falls s Broke t fell i le w = absurd fell
  onward_follows next next' n h Falls s (Returned u) t fell i le w = absurd fell
  onward_follows next next' n h Broke s b t fell i le w = absurd fell
  onward_follows next next' n h (Returned v) s b t fell i le w = absurd fell

  module _ (functions : Calls) where
    body_follows : (cs : List FirstCall) → All CallIsRight cs → (s : source.State) (t : CState) (n : ℕ) (w : World) → Follows none_excused Fell 0 0 n (source.execs m.imports cs n w s) (λ j. exec_all program functions (body_for m.imports cs) j w t)
    body_follows [] right s t n w = rests none_excused Fell 0 Falls Falls n w s t tt
    body_follows (c ∷ cs) right s t n w =
        let rest : Part source.State (Control (Option ℤ)) = source.execs m.imports cs in
        let rest' : Part CState (Control (Option CValue)) = exec_all program functions (body_for m.imports cs) in
        bound none_excused Fell Fell 0 0 0 n (source.exec m.imports c n w s) (λ j. exec program functions (call_for m.imports c) j w t) (onward rest) (onward rest')
        (exec_follows functions c (All-head CallIsRight c cs right) n w s t)
        (onward_follows rest rest' n (λ u v i x. body_follows cs (All-tail CallIsRight c cs right) u v i x))

    -- ---- procedures

    -- no procedure gives a value yet
    abbrev NoResult : Option ℤ → source.State → CallResult → CState → Type 0
    NoResult result s value t = (result ≡ None) × (value ≡ Nothing)

    value_follows : (a : Control (Option ℤ)) (s : source.State) (b : Control (Option CValue)) (t : CState) → Fell a s b t → (n : ℕ) (w : World) → Follows none_excused NoResult 0 0 n (give (source.result_of a) n w s) (λ j. function_value program Void b j w t)
    value_follows Falls s Falls t fell n w = rests none_excused NoResult 0 None Nothing n w s t (refl, refl)
    value_follows Falls s Broke t fell n w = absurd fell
    value_follows Falls s (Returned u) t fell n w = absurd fell
    value_follows Broke s b t fell n w = absurd fell
    value_follows (Returned v) s b t fell n w = absurd fell

    entered_follows : (p : FirstProc) → BodyIsRight p → (s : source.State) (t : CState) (n : ℕ) (w : World) → Follows none_excused (Returns Alike) 15 0 n (source.entered m.imports (Some p) n w s) (λ j. entered program functions (function_for m.imports p) [] j w t)
    entered_follows p right s t n w =
        let body : Progress source.State (Control (Option ℤ)) = source.execs m.imports p.calls n w s in
        let own : CState = enter [] t in
        let body' : ℕ → Progress CState (Control (Option CValue)) = λ j. exec_all program functions (body_for m.imports p.calls) j w own in
        let framed : ℕ → Progress CState (Control (Option CValue)) = λ j. left (λ before after. back after) t (left leave own (body' j)) in
        let ends : Control (Option ℤ) → Part source.State (Option ℤ) = λ control. give (source.result_of control) in
        eased none_excused (Returns Alike) 0 0 15 0 n (after body ends) (λ j. after (after (framed j) (function_value program Void)) (entry_result program)) (omega arith) (omega arith)
        (finished none_excused NoResult (Returns Alike) 0 0 0 n (after body ends) (λ j. after (framed j) (function_value program Void)) (entry_result program)
        (bound none_excused Fell NoResult 0 0 0 n body framed ends (function_value program Void)
        (wrapped none_excused Fell Fell (λ before after. back after) t 0 0 n body (λ j. left leave own (body' j)) (λ a u b v fell. fell_still a u b v (back v) fell)
        (wrapped none_excused Fell Fell leave own 0 0 n body body' (λ a u b v fell. fell_still a u b v (leave own v) fell) (body_follows p.calls right s own n w)))
        (λ a u b v fell i le x. value_follows a u b v fell i x))
        (λ a u b v none i x. subst (λ r. Follows none_excused (Returns Alike) 0 0 i (give a i x u) (λ j. entry_result program r j x v)) (sym none.1) (rests none_excused (Returns Alike) 0 a None i x u v (record { same = sym none.0; states = tt }))))

  -- ---- entry calls

  no_values : (values : List ℤ) → IsTrue (values_fit [] values) → values ≡ []
  no_values [] fit = refl
  no_values (v ∷ vs) fit = let no : ⊥ = cc in absurd no

  module _ (name : List ℕ) (values : List ℤ) (n : ℕ) (w : World) (s : source.State) (t : CState) where
    -- this procedure, or one of those after it
    chosen_follows : (b : Bool) (p : FirstProc) (earlier : Calls) (x : Export) (later : Option FirstProc) (later' : Option Export) (rest : Part CState (Option ℤ)) → BodyIsRight p → x ≡ source.export_for p
        → (IsTrue (found_fits later' values) → Follows none_excused (Returns Alike) 15 0 n (source.entered m.imports later n w s) (λ j. rest j w t)) → IsTrue (found_fits (if b then Some x else later') values)
        → Follows none_excused (Returns Alike) 15 0 n (source.entered m.imports (if b then Some p else later) n w s) (λ j. (if b then entered program earlier (function_for m.imports p) values else rest) j w t)
    chosen_follows true p earlier x later later' rest right is go fits =
        let none : values ≡ [] = no_values values (subst (λ y. IsTrue (values_fit y.params values)) is fits) in
        subst (λ vs. Follows none_excused (Returns Alike) 15 0 n (source.entered m.imports (Some p) n w s) (λ j. entered program earlier (function_for m.imports p) vs j w t)) (sym none) (entered_follows earlier p right s t n w)
    chosen_follows false p earlier x later later' rest right is go fits = go fits

    entry_follows : (ps : List FirstProc) → All BodyIsRight ps → (earlier : Calls) → IsTrue (found_fits (export_of name (map source.export_for ps)) values)
        → Follows none_excused (Returns Alike) 15 0 n (source.entered m.imports (source.proc_of name ps) n w s) (λ j. entry_among program earlier (map (function_for m.imports) ps) name values j w t)
    entry_follows [] right earlier fits = let no : ⊥ = cc in absurd no
    entry_follows (p ∷ ps) right earlier fits =
        let f : Function = function_for m.imports p in
        chosen_follows (same_word p.name name) p earlier (source.export_for p) (source.proc_of name ps) (export_of name (map source.export_for ps))
        (entry_among program (with_function program earlier f) (map (function_for m.imports) ps) name values) (All-head BodyIsRight p ps right) refl
        (entry_follows ps (All-tail BodyIsRight p ps right) (with_function program earlier f)) fits

  bodies_follow : BodiesFollow none_excused Alike (source.exports_of m) (source.enter m) (entry program)
  bodies_follow entry_call fits n w s t alike = entry_follows entry_call.name entry_call.values n w s t m.procs valid.calls (no_functions program) fits

  pub lowered_refines : Refines m (lowered m) machine
  lowered_refines script fits =
      run_refines none_excused source.observed (seen program) Alike (λ s t alike. refl) (source.exports_of m) (source.enter m) (entry program) (entry_lawful program) bodies_follow tt at_rest tt script fits (runs_defined m valid script fits) (none_fails (source.run_src m script))
