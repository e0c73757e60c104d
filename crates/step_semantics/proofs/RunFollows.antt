-- Whole runs follow where each procedure does, so that one refines the other.
use Rattle.std.proofs.Common.{◌≡◌, ℕ, Bool, List, [], ◌∷◌, sym, subst}
use Rattle.std.specs.Prelude.{IsTrue}
use Rattle.std.proofs.lemmas.Bool.{and_parts}
use Rattle.run_records.specs.declared.AreaCells.{AreaCells}
use Rattle.run_records.specs.declared.EntryCall.{EntryCall}
use Rattle.run_records.specs.declared.Event.TheVariants.{Ret}
use Rattle.run_records.specs.declared.Export.{Export}
use Rattle.run_records.specs.declared.Outcome.{Outcome}
use Rattle.run_records.specs.declared.Script.{Script}
use Rattle.run_records.specs.Scripts.{calls_fit, Fits}
use Rattle.step_semantics.specs.Steps.{World, tick, with_event}
use Rattle.step_semantics.specs.Runs.{Body, returned, entry_calls, start, run}
use Rattle.step_semantics.specs.Lawful.{Lawful}
use Rattle.step_semantics.specs.Safe.{NeverUndefined, NeverFailsAt}
use Rattle.step_semantics.specs.Follows.{none_excused, Follows}
use Rattle.step_semantics.specs.Bodies.{CallFits, Returns, BodiesFollow}
use Rattle.step_semantics.specs.Refines.{Refines}
use Rattle.step_semantics.proofs.RunLaws.{entry_calls_lawful}
use Rattle.step_semantics.proofs.Following.{framed, rests, both_tick, bound}
use Rattle.step_semantics.proofs.Both.{part_refines}

-- the first call fits, and the calls after it do
pub calls_fit_parts : (call : EntryCall) (calls : List EntryCall) (exports : List Export) → IsTrue (calls_fit (call ∷ calls) exports) → CallFits call exports × IsTrue (calls_fit calls exports)
calls_fit_parts call calls exports h = and_parts _ _ h

module _ {S T : Type 0} (excused : ℕ → Bool) (rel : S → T → Type 0) (exports : List Export) (body : Body S) (body' : Body T) (follow : BodiesFollow excused rel exports body body') where
  -- states after the last call
  abbrev pub Related : Unit {0} → S → Unit {0} → T → Type 0
  Related a s b t = rel s t

  pub entry_calls_follow : (calls : List EntryCall) → IsTrue (calls_fit calls exports) → (n : ℕ) (w : World) (s : S) (t : T) → rel s t → Follows excused Related 16 16 n (entry_calls body calls n w s) (λ j. entry_calls body' calls j w t)
  entry_calls_follow [] fits n w s t r = rests excused Related 16 tt tt n w s t r
  entry_calls_follow (call ∷ calls) fits n w s t r =
      let p = calls_fit_parts call calls exports fits in
      bound excused (Returns rel) Related 16 16 16 n (tick (body call) n w s) (λ j. tick (body' call) j w t) (returned call.name (entry_calls body calls)) (returned call.name (entry_calls body' calls))
      (both_tick excused (Returns rel) 16 16 (body call) (body' call) w s t (λ m. framed excused (Returns rel) 16 15 0 m (body call m w s) (λ j. body' call j w t) (follow call p.0 m w s t r)) n)
      (λ a u b v q m le x.
      subst (λ c. Follows excused Related 16 16 m (returned call.name (entry_calls body calls) a m x u) (λ j. returned call.name (entry_calls body' calls) c j x v)) (sym q.same)
      (entry_calls_follow calls p.1 m (with_event (Ret call.name a) x) u v q.states))

-- Both directions for the run of a script that fits: the states are related at the start, each entry call keeps them so and
-- follows, related states show the same, and the source always has a meaning and fails no check that is excused.
pub run_refines : {S T : Type 0} (excused : ℕ → Bool) (see : S → List AreaCells) (see' : T → List AreaCells) (rel : S → T → Type 0) → ((s : S) (t : T) → rel s t → see s ≡ see' t) → (exports : List Export) (body : Body S) (body' : Body T) → ((call : EntryCall) → Lawful (body' call)) → BodiesFollow excused rel exports body body' → (first : S) (first' : T) → rel first first' → (script : Script) → Fits script exports → NeverUndefined (run see body first script) → NeverFailsAt excused (run see body first script) → Refines (run see body first script) (run see' body' first' script)
run_refines excused see see' rel alike exports body body' lawful follow first first' r script fits defined unfailed =
    part_refines excused see see' (Related excused rel exports body body' follow) (λ a s b t h. alike s t h) (entry_calls body script.calls) (entry_calls body' script.calls) (entry_calls_lawful body' lawful script.calls) (start script) first first' 16 defined unfailed
    (λ n. entry_calls_follow excused rel exports body body' follow script.calls fits n (start script) first first' r)

-- no check is excused, so none of those that are fails
pub none_fails : (source : ℕ → Outcome) → NeverFailsAt none_excused source
none_fails source n site excused = absurd (cc)
