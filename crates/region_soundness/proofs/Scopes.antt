-- Scoped states: what an open call does keeps the frames of those that wait for it, and each statement keeps its own.
use Rattle.std.proofs.Common.{Contains, ◌≡◌, ℕ, zero, suc, ◌<◌, List, [], ◌∷◌, ◌++◌, length, take, drop, Some, refl, sym, ◌∙◌, ap, subst, arith, length-append, append_assoc, append-nil}
use Rattle.std.specs.Prelude.{slice_get}
use Rattle.std.proofs.lemmas.List.{take-append-drop}
use Rattle.step_semantics.specs.Control.{Falls, Broke, Returned}
use Rattle.step_semantics.specs.Safe.{HasMeaning, Safe}
use Rattle.step_semantics.specs.Steps.{World}
use Rattle.step_semantics.proofs.Keeping.{keeps_weaker, keeps_left}
use Rattle.area_types.specs.Syntax.{ValueType}
use Rattle.core_tree.specs.Syntax.{StmtsCore, ProcCore, ModuleCore}
use Rattle.core_tree.specs.Environments.{Env, Point, after}
use Rattle.core_tree.specs.Falling.{stmt_falls, stmt_breaks, stmts_fall, stmts_break}
use Rattle.core_tree.specs.TypedItems.{below, env_of, ProcTyped}
use Rattle.core_tree.specs.TypedStatements.{StmtsTyped}
use Rattle.core_tree.specs.Valid.{ValidCore}
use Rattle.core_meaning.specs.Values.{Value}
use Rattle.core_meaning.specs.Areas.{Areas}
use Rattle.core_meaning.specs.Calls.{Calls, no_procedures}
use Rattle.core_meaning.specs.Conditions.{ensured}
use Rattle.core_meaning.specs.Run.{with_procedure}
use Rattle.core_meaning.specs.State.{Frame, State, with_name, leave}
use Rattle.core_meaning.specs.Statements.{Flow, exec, exec_all}
use Rattle.region_soundness.specs.Fitting.{Entry, ValueFits}
use Rattle.region_soundness.specs.Scoped.{name_in, Activation, NamesFit, CallersFit, Scoped, AreasFit}
use Rattle.region_soundness.specs.Laws.{calls_among, calls_before, PlaceIn, inside, KeepsScope, StatementsKeepScopes, BlocksKeepScopes}
use Rattle.region_soundness.proofs.Lasting.{Lasting, lasting_refl, lasting_longer, mark_lasts, mark_areas_fit, names_last, globals_last}
use Rattle.region_soundness.proofs.Calls.{CallsSafe}
use Rattle.region_soundness.proofs.Conditions.{ensured_safe}
use Rattle.region_soundness.proofs.Standing.{NamesKept, Stands, Lasts, Came, stands_named}
use Rattle.region_soundness.proofs.Statements.{after_all, exec_safe, exec_all_safe}
use Rattle.region_soundness.proofs.Procedures.{taken_before, result_kept, calls_more}
use Rattle.region_soundness.proofs.Runs.{next_there, taken_front, imports_safe, inits_safe}

-- ---- calls that wait

taken_low : {A : Type 0} (xs : List A) (n k : ℕ) (a : A) → slice_get (take n xs) k ≡ Some a → k < n
taken_low xs zero k a e = let no : ⊥ = cc in absurd no
taken_low [] (suc n) k a e = let no : ⊥ = cc in absurd no
taken_low (x ∷ xs) (suc n) zero a e = omega arith
taken_low (x ∷ xs) (suc n) (suc k) a e = omega (arith, taken_low xs n k a e)

lasting_taken : (n : ℕ) (before later : Areas) → Lasting before later → Lasting (take n before) (take n later)
lasting_taken n before later h k a e =
    let low = taken_low before n k a e in
    let b = h k a (sym (taken_before before n k low) ∙ e) in
    (b.0, taken_before later n k low ∙ b.1, b.2)

callers_last : (core : ModuleCore) (before later : Areas) → Lasting before later → (first : ℕ) (waiting : List Activation) (frames : List Frame) → CallersFit core before first waiting frames → CallersFit core later first waiting frames
callers_last core before later h first [] [] f = tt
callers_last core before later h first [] (x ∷ frames) f = absurd f
callers_last core before later h first (a ∷ waiting) [] f = absurd f
callers_last core before later h first (a ∷ waiting) (x ∷ frames) f =
    let l = lasting_taken first before later h in (
      record {
        names = names_last core (take first before) (take first later) l a x.names f.0.names;
        named = f.0.named;
        params = f.0.params;
        args = f.0.args;
        first = f.0.first;
        referred = f.0.referred;
        globals = f.0.globals;
        room = omega (arith, f.0.room, lasting_longer (take first before) (take first later) l);
      },
      callers_last core before later h x.first waiting frames f.1,
    )

-- ---- the procedures that may be called

module _ (core : ModuleCore) (valid : ValidCore core) where
  proc_typed : (earlier later : List ProcCore) (p : ProcCore) → core.procs ≡ earlier ++ p ∷ later → ProcTyped core earlier p
  proc_typed earlier later p are =
      subst (λ ps. ProcTyped core ps p) (ap (take (length earlier)) are ∙ taken_front earlier (p ∷ later))
      (valid.procs (length earlier) p (ap (λ ps. slice_get ps (length earlier)) are ∙ next_there earlier later p))

  among_safe : (ps earlier later : List ProcCore) (calls : Calls) (number : ℕ) → core.procs ≡ earlier ++ (ps ++ later) → number ≡ length earlier → CallsSafe core earlier calls → CallsSafe core (earlier ++ ps) (calls_among core calls number ps)
  among_safe [] earlier later calls number are is safe = subst (λ qs. CallsSafe core qs calls) (sym (append-nil earlier)) safe
  among_safe (p ∷ ps) earlier later calls number are is safe =
      subst (λ qs. CallsSafe core qs (calls_among core (with_procedure core calls number p) (suc number) ps)) (append_assoc earlier (p ∷ []) ps)
      (among_safe ps (earlier ++ p ∷ []) later (with_procedure core calls number p) (suc number) (are ∙ sym (append_assoc earlier (p ∷ []) (ps ++ later))) (omega (arith, is, length-append earlier (p ∷ [])))
      (subst (λ m. CallsSafe core (earlier ++ p ∷ []) (with_procedure core calls m p)) (sym is) (calls_more core valid (imports_safe core valid) inits_safe earlier calls safe p (proc_typed earlier (ps ++ later) p are))))

  before_safe : (k : ℕ) → CallsSafe core (take k core.procs) (calls_before core k)
  before_safe k = among_safe (take k core.procs) [] (drop k core.procs) (no_procedures core) 0 (sym (take-append-drop k core.procs)) refl (λ j p e. let no : ⊥ = cc in absurd no)

-- ---- statements

-- what is kept of the whole stack, where the own frame stands
module _ (core : ModuleCore) (p : ProcCore) (entry : Entry) (waiting : List Activation) (scope : List ℕ) (s : State) (h : Scoped core (inside p scope entry) waiting s) where
  pub scoped_with : (names : List ℕ) (u : State) → Lasts s u → AreasFit core.structs u.areas → NamesFit core u.areas (inside p names entry) u.frames.own.names → ((m : ℕ) (v : Value) → name_in u.frames.own.names m ≡ Some v → Contains names m)
      → ((m : ℕ) (v : Value) → slice_get entry.args m ≡ Some v → name_in u.frames.own.names m ≡ Some v) → Scoped core (inside p names entry) waiting u
  scoped_with names u l fit fits named args = record {
    areas = fit;
    globals = globals_last core s.areas u.areas l.areas h.globals;
    frame = record {
      names = fits;
      named = named;
      params = h.frame.params;
      args = args;
      first = l.first ∙ h.frame.first;
      referred = h.frame.referred;
      globals = h.frame.globals;
      room = omega (arith, h.frame.room, lasting_longer s.areas u.areas l.areas);
    };
    callers = subst (λ fs. CallersFit core u.areas u.frames.own.first waiting fs) (sym l.callers) (subst (λ k. CallersFit core u.areas k waiting s.frames.callers) (sym l.first) (callers_last core s.areas u.areas l.areas s.frames.own.first waiting s.frames.callers h.callers));
  }

  -- with the names that it found
  pub scoped_as : (u : State) → Lasts s u → AreasFit core.structs u.areas → u.frames.own.names ≡ s.frames.own.names → Scoped core (inside p scope entry) waiting u
  scoped_as u l fit same =
      scoped_with scope u l fit (subst (NamesFit core u.areas (inside p scope entry)) (sym same) (names_last core s.areas u.areas l.areas (inside p scope entry) s.frames.own.names h.frame.names))
      (λ m v e. h.frame.named m v (ap (λ xs. name_in xs m) (sym same) ∙ e)) (λ m v e. ap (λ xs. name_in xs m) same ∙ h.frame.args m v e)

  -- at the end of a block
  pub left_scoped : (u : State) → Lasts s u → AreasFit core.structs u.areas → Scoped core (inside p scope entry) waiting (leave s u)
  left_scoped u l fit = scoped_as (leave s u) (record { areas = mark_lasts s.areas u.areas l.areas; first = l.first; callers = l.callers }) (mark_areas_fit core.structs u.areas (length s.areas) fit) refl

-- ---- lists of statements

module _ (core : ModuleCore) (valid : ValidCore core) (k : ℕ) (p : ProcCore) (there : slice_get core.procs k ≡ Some p) (entry : Entry) (waiting : List Activation) (at : Point) (place : PlaceIn p at) (s : State) (h : Scoped core (inside p at.scope entry) waiting s) where
  abbrev env : Env
  env = env_of core (take k core.procs) p

  pub stands_here : Stands env (below (length p.params)) at.scope at.next entry s
  stands_here = record { knows = record { areas = h.areas; globals = h.globals; names = h.frame.names }; below = place.before; parameters = place.parameters; room = h.frame.room; named = h.frame.named; args = h.frame.args }

  -- one more name
  pub named_scoped : (ty : ValueType) (v : Value) → slice_get p.locals at.next ≡ Some ty → ValueFits core entry s.areas ty v → Scoped core (inside p (at.next ∷ at.scope) entry) waiting (with_name at.next v s)
  named_scoped ty v type fits =
      let st = stands_named env (below (length p.params)) entry at.scope at.next s ty v stands_here type fits in
      scoped_with core p entry waiting at.scope s h (at.next ∷ at.scope) (with_name at.next v s) (record { areas = lasting_refl s.areas; first = refl; callers = refl }) st.knows.areas st.knows.names st.named st.args

  abbrev pub Comes : StmtsCore → Flow → State → Type 0
  Comes cs = Came env (below (length p.params)) entry s (after_all cs at).scope (after_all cs at).next (stmts_fall cs) (stmts_break cs) at.allowed.may_break

  pub stmts_come : (cs : StmtsCore) → StmtsTyped env at cs → (n : ℕ) (w : World) → Safe (Comes cs) (exec_all core (calls_before core k) (ensured core p) cs n w s)
  stmts_come cs typed n w =
      let t : ProcTyped core (take k core.procs) p = valid.procs k p there in
      let base : List ℕ = below (length p.params) in
      exec_all_safe env valid refl (calls_before core k) (before_safe core valid k) (imports_safe core valid) base entry (record { referred = h.frame.referred; globals = h.frame.globals }) (result_kept core.structs p p.result t.result)
      (ensured core p) (λ u result. ensured_safe env valid entry p base t.contracts u result) (inits_safe env valid refl entry) cs at typed s stands_here n w

  pub stmts_last : (cs : StmtsCore) → StmtsTyped env at cs → (n : ℕ) (w : World) → Safe (λ flow u. Lasts s u × AreasFit core.structs u.areas) (exec_all core (calls_before core k) (ensured core p) cs n w s)
  stmts_last cs typed n w =
      keeps_weaker HasMeaning (Comes cs) (λ flow u. Lasts s u × AreasFit core.structs u.areas) (exec_all core (calls_before core k) (ensured core p) cs n w s) last (stmts_come cs typed n w)
    where
      last : (flow : Flow) (u : State) → Came (env_of core (take k core.procs) p) (below (length p.params)) entry s (after_all cs at).scope (after_all cs at).next (stmts_fall cs) (stmts_break cs) at.allowed.may_break flow u → Lasts s u × AreasFit core.structs u.areas
      last Falls u x = (x.lasts, x.stands.knows.areas)
      last Broke u x = (x.lasts, x.areas)
      last (Returned result) u x = (x.lasts, x.areas)

pub blocks_keep_scopes : BlocksKeepScopes
blocks_keep_scopes core valid k p there at cs place typed entry waiting s h n w =
    keeps_left HasMeaning (λ flow u. Lasts s u × AreasFit core.structs u.areas) (λ flow u. Scoped core (inside p at.scope entry) waiting u) leave s (exec_all core (calls_before core k) (ensured core p) cs n w s)
    (λ flow u x. left_scoped core p entry waiting at.scope s h u x.0 x.1) (stmts_last core valid k p there entry waiting at place s h cs typed n w)

-- ---- single statements

pub statements_keep_scopes : StatementsKeepScopes
statements_keep_scopes core valid k p there at c place typed entry waiting s h n w =
    keeps_weaker HasMeaning (λ flow u. Came env base entry s (after c at).scope (after c at).next (stmt_falls c) (stmt_breaks c) at.allowed.may_break flow u × NamesKept s flow u) (KeepsScope core p at c entry waiting) (exec core (calls_before core k) (ensured core p) c n w s)
    (λ flow u x. kept flow u x.0 x.1)
    (exec_safe env valid refl (calls_before core k) (before_safe core valid k) (imports_safe core valid) base entry (record { referred = h.frame.referred; globals = h.frame.globals }) (result_kept core.structs p p.result t.result)
    (ensured core p) (λ u result. ensured_safe env valid entry p base t.contracts u result) (inits_safe env valid refl entry) c at typed s stands n w)
  where
    t : ProcTyped core (take k core.procs) p
    t = valid.procs k p there

    env : Env
    env = env_of core (take k core.procs) p

    base : List ℕ
    base = below (length p.params)

    stands : Stands (env_of core (take k core.procs) p) (below (length p.params)) at.scope at.next entry s
    stands = record { knows = record { areas = h.areas; globals = h.globals; names = h.frame.names }; below = place.before; parameters = place.parameters; room = h.frame.room; named = h.frame.named; args = h.frame.args }

    kept : (flow : Flow) (u : State) → Came (env_of core (take k core.procs) p) (below (length p.params)) entry s (after c at).scope (after c at).next (stmt_falls c) (stmt_breaks c) at.allowed.may_break flow u → NamesKept s flow u
        → KeepsScope core p at c entry waiting flow u
    kept Falls u x same = scoped_with core p entry waiting at.scope s h (after c at).scope u x.lasts x.stands.knows.areas x.stands.knows.names x.stands.named x.stands.args
    kept Broke u x same = scoped_as core p entry waiting at.scope s h u x.lasts x.areas same
    kept (Returned result) u x same = scoped_as core p entry waiting at.scope s h u x.lasts x.areas same
