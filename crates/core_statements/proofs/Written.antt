-- What an import may write, as one list; which replies fit, and what they write.
use Rattle.std.proofs.Common.{◌≡◌, ◌≤◌, ℕ, zero, suc, ℤ, List, [], ◌∷◌, ◌++◌, length, map, drop, min, Option, Some, None, refl, sym, ap, ◌∙◌, arith}
use Rattle.std.specs.List.{flat_map}
use Rattle.std.specs.Option.{option_map, option_and_then, option_to_list}
use Rattle.std.proofs.lemmas.List.{map-append, length-map, length-drop}
use Rattle.run_records.specs.declared.Plain.{Plain}
use Rattle.run_records.specs.declared.Piece.{Piece}
use Rattle.step_semantics.specs.Frames.{Frames}
use Rattle.step_semantics.specs.Imports.{import_call}
use Rattle.step_semantics.specs.Steps.{World, Finished, change}
use Rattle.step_semantics.proofs.Equations.{after_same}
use Rattle.area_types.specs.Syntax.{ValueType}
use Rattle.area_types.specs.Trees as trees
use Rattle.core_tree.specs.Exports.{plain_of}
use Rattle.core_tree.specs.Syntax.{ModuleCore, ImportCore}
use Rattle.core_meaning.specs.Areas.{Areas}
use Rattle.core_meaning.specs.Imports as imports
use Rattle.core_meaning.specs.Imports.{result_in, cells_in, writable, scalars_of, plains_of, reply_shape, behind, written, all_written}
use Rattle.core_meaning.specs.State.{Frame, State, seen}
use Rattle.core_meaning.specs.Values.{Value}
use Rattle.core_state.specs.State.{value_of}
use Rattle.core_state.specs.Types.{written_of}
use Rattle.core_state.specs.declared.Value as value
use Rattle.core_state.specs.declared.Written as code
use Rattle.core_statements.specs.Replies.{targets_of, all_some, plains_in, shape_of, written_all, after_reply, asking}

plains_are : (ts : List ValueType) → plains_of ts ≡ all_some (map plain_of ts)
plains_are [] = refl
plains_are (t ∷ ts) = ap (λ r. option_and_then (λ p. option_map (λ ps. p ∷ ps) r) (plain_of t)) (plains_are ts)

module _ (core : ModuleCore) where
  cells_are : (params : List ValueType) → map plain_of (flat_map (λ t. scalars_of (writable core t)) params) ≡ plains_in (map (writable core) params)
  cells_are [] = refl
  cells_are (t ∷ params) = map-append plain_of (scalars_of (writable core t)) (flat_map (λ u. scalars_of (writable core u)) params) ∙ ap (λ ps. map plain_of (scalars_of (writable core t)) ++ ps) (cells_are params)

  pub shape_is : (i : ImportCore) (targets : List (Option trees.Written)) → targets ≡ map (writable core) i.params → shape_of i.result targets ≡ reply_shape core i
  shape_is i targets e =
      ap (shape_of i.result) e ∙ ap (λ ps. option_map (λ cells. option_to_list i.result ++ cells) (all_some ps)) (sym (cells_are i.params))
      ∙ ap (option_map (λ cells. option_to_list i.result ++ cells)) (sym (plains_are (flat_map (λ t. scalars_of (writable core t)) i.params)))

  all_are : (params : List ValueType) (args : List Value) (reply : List ℤ) (areas : Areas) → written_all (map (writable core) params) args reply areas ≡ all_written core params args reply areas
  all_are [] args reply areas = refl
  all_are (t ∷ params) [] reply areas = refl
  all_are (t ∷ params) (v ∷ args) reply areas = all_are params args (behind (writable core t) reply) (written (writable core t) v reply areas)

  pub written_is : (params : List ValueType) (targets : List (Option trees.Written)) (args : List Value) (reply : List ℤ) (areas : Areas) → targets ≡ map (writable core) params → written_all targets args reply areas ≡ all_written core params args reply areas
  written_is params targets args reply areas e = ap (λ ts. written_all ts args reply areas) e ∙ all_are params args reply areas

  pub asking_is : (i : ImportCore) (targets : List (Option trees.Written)) (args : List Value) (pieces : List Piece) (shape : List Plain) (n : ℕ) (w : World) (s : State) → targets ≡ map (writable core) i.params
      → imports.asking core i args pieces shape n w s ≡ asking core i targets args pieces shape n w s
  asking_is i targets args pieces shape zero w s e = refl
  asking_is i targets args pieces shape (suc n) w s e =
      after_same (import_call (seen core) i.name pieces shape n w s) (λ reply. change (result_in i.result reply) (imports.after_reply core i args reply)) (λ reply. change (result_in i.result reply) (after_reply i targets args reply))
      (λ reply m u t. ap (λ (areas : Areas). let to : State = record { areas = areas; frames = t.frames } in Finished (result_in i.result reply) u to m) (sym (written_is i.params targets args (cells_in i.result reply) t.areas e)))

-- ---- the end of a row, and what changes of a state

written_none : (targets : List (Option trees.Written)) (args : List Value) (reply : List ℤ) (areas : Areas) → min (length targets) (length args) ≡ 0 → written_all targets args reply areas ≡ areas
written_none [] args reply areas h = refl
written_none (t ∷ targets) [] reply areas h = refl
written_none (t ∷ targets) (v ∷ args) reply areas h = absurd (omega arith)

pub written_end : (targets : List (Option code.Written)) (args : List value.Value) (reply : List ℤ) (areas : Areas) (k : ℕ) → min (length targets) (length args) ≤ k → written_all (targets_of (drop k targets)) (map value_of (drop k args)) reply areas ≡ areas
written_end targets args reply areas k h =
    written_none (targets_of (drop k targets)) (map value_of (drop k args)) reply areas
    (omega (arith, h, length-map (drop k targets) (option_map written_of), length-map (drop k args) value_of, length-drop k targets, length-drop k args))

pub writes_is : (old new : State) (areas : Areas) → new.areas ≡ areas → new.frames ≡ old.frames → new ≡ record old { areas = areas }
writes_is old new areas e f = ap (λ (a : Areas). let s : State = record { areas = a; frames = new.frames } in s) e ∙ ap (λ (fs : Frames Frame). let s : State = record { areas = areas; frames = fs } in s) f
