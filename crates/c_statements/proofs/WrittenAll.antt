-- Scalars that are written all or none, and what a call of an extern makes of them.
use Rattle.std.proofs.Common.{◌≡◌, ℕ, ℤ, List, [], ◌∷◌, ◌++◌, map, Some, None, Result, Ok, Err, refl, sym, ap, ◌∙◌, subst}
use Rattle.std.specs.Prelude.{IfOk}
use Rattle.iv_words.specs.declared.Memory.{Memory as NoRoom}
use Rattle.run_records.specs.declared.Piece.{Piece}
use Rattle.run_records.specs.declared.Plain.{Plain}
use Rattle.step_semantics.specs.Imports.{import_call}
use Rattle.step_semantics.specs.Steps as steps
use Rattle.step_semantics.specs.Steps.{Part, bind, after}
use Rattle.c_ast.specs.declared.CExtern.{CExtern}
use Rattle.c_ast.specs.declared.CType.{CType}
use Rattle.c_ast.specs.declared.CType.TheVariants.{Void, Value, Pointer}
use Rattle.c_ast.specs.declared.Target.{Target}
use Rattle.c_ast.specs.Exports.{plain_of}
use Rattle.c_ast.specs.Names.{outer_name}
use Rattle.c_meaning.specs.Calls as calls
use Rattle.c_meaning.specs.Calls.{CallResult, reply_shape, reply_value, reply_written, write_replies, written_shape, outside_with}
use Rattle.c_meaning.specs.Memory as memory
use Rattle.c_meaning.specs.Memory.{CObjects}
use Rattle.c_meaning.specs.State.{CState, seen}
use Rattle.c_meaning.specs.Values as meaning
use Rattle.c_meaning.specs.Values.{CValue, on_ok}
use Rattle.c_objects.specs.Faults.{fault_of, Writes}
use Rattle.c_objects.specs.declared.Fault.{Fault}
use Rattle.c_objects.specs.declared.Fault.TheVariants.{Dead, BadAccess, Indeterminate, ConstWrite}
use Rattle.c_objects.specs.declared.Refusal.{Refusal}
use Rattle.c_objects.specs.declared.Refusal.TheVariants as refusal
use Rattle.c_operators.specs.declared.Trouble.{Trouble}
use Rattle.c_operators.specs.declared.Trouble.TheVariants.{Undefined, Stuck, Memory}
use Rattle.c_expressions.specs.Programs.{Parts, program_of}
use Rattle.run_world.specs.Comes.{Comes, world_of, unseen}
use Rattle.run_world.specs.Comes as world
use Rattle.run_world.specs.declared.World.{World}
use Rattle.run_world.specs.declared.Stopped.{Stopped}
use Rattle.run_world.proofs.Comes.{goes_on, stops, import_comes}
use Rattle.c_statements.specs.Cells.{all_behind, first_refusal, written}
use Rattle.c_statements.specs.Parts.{stop_of, given, room, called_of, Alters}
use Rattle.c_statements.specs.Parts as parts
use Rattle.c_statements.specs.Replies.{reply_called, reply_rest, answer}
use Rattle.c_statements.specs.declared.cells.Cell.{Cell}
use Rattle.c_statements.specs.declared.parts.Called.{Called}
use Rattle.c_statements.proofs.WrittenCells.{all_granted, one_refused, replies_are, shape_is}

abbrev pub stopped : Stopped → Result Called Stopped
stopped why = Err why

abbrev pub no_reply : Stopped → Result (List ℤ) Stopped
no_reply why = Err why

-- ---- what is there

pub room_gives : {A : Type 0} (r : Result A NoRoom) (P : A → Type 0) (a : A) → Ok a ≡ room r → IfOk r P → P a
room_gives (Ok b) P a e h = let k : b ≡ a = cc in subst P k h
room_gives (Err memory) P a e h = absurd (cc)

pub reasons_are : (f : Fault) → memory.reason_of (fault_of f) ≡ parts.reason_of f
reasons_are Dead = refl
reasons_are BadAccess = refl
reasons_are Indeterminate = refl
reasons_are ConstWrite = refl

-- ---- all or none

module _ (t : Target) (cs : List Cell) (vs : List ℤ) where
  pub refused_all : (mem : CObjects) (f : Fault) → Some (fault_of f) ≡ first_refusal t mem cs vs → memory.answered (written t cs vs mem) ≡ Err (meaning.Undefined (parts.reason_of f))
  refused_all mem f e = ap memory.answered (one_refused t cs vs mem (fault_of f) (sym e)) ∙ ap (λ r. Err (meaning.Undefined r)) (reasons_are f)

  pub written_all : (old new : CState) (r : Result (Unit {0}) Refusal) → None ≡ first_refusal t old.objects cs vs → Writes (written t cs vs old.objects) new.objects r → new ≡ record old { objects = new.objects } → Alters (memory.answered (written t cs vs old.objects)) old new (parts.answered r)
  written_all old new (Ok done) e h same = (ap memory.answered h, same)
  written_all old new (Err (refusal.Fault f)) e h same = let g = all_granted t cs vs old.objects (sym e) in absurd (let x : Ok g.0 ≡ Err (fault_of f) = sym g.1 ∙ h in cc)
  written_all old new (Err refusal.Memory) e h same = tt

-- ---- replies

value_rest : (ty : CType) (vs : List ℤ) → reply_value ty vs ≡ on_ok (reply_called ty vs) (λ c. Ok (c, reply_rest ty vs))
value_rest Void vs = refl
value_rest (Value s) [] = refl
value_rest (Value s) (v ∷ vs) = refl
value_rest (Pointer constant base) vs = refl

module _ (p : Parts) (x : CExtern) (args : List CValue) (cs : List Cell) (are : cs ≡ all_behind p.target p.unit.structs args) (vs : List ℤ) (called : Called) (is : reply_called x.result vs ≡ Ok (called_of called)) where
  whole : (n : ℕ) (w : steps.World) (s : CState) → answer (program_of p) x args vs n w s
      ≡ calls.given (program_of p) (memory.answered (written p.target cs (reply_rest x.result vs) s.objects)) (λ objects. steps.change (called_of called) (λ u. record u { objects = objects })) n w s
  whole n w s =
      ap (λ r. calls.given (program_of p) r (reply_written (program_of p) args) n w s) (value_rest x.result vs ∙ ap (λ r. on_ok r (λ c. Ok (c, reply_rest x.result vs))) is)
      ∙ ap (λ r. calls.given (program_of p) r (λ objects. steps.change (called_of called) (λ u. record u { objects = objects })) n w s)
      (replies_are p.target p.unit.structs args (reply_rest x.result vs) s.objects ∙ ap (λ k. memory.answered (written p.target k (reply_rest x.result vs) s.objects)) (sym are))

  pub reply_stops : (old new : CState) (r : Result (Unit {0}) Trouble) (why : Stopped) (n : ℕ) (w : World) → Alters (memory.answered (written p.target cs (reply_rest x.result vs) old.objects)) old new r → Err why ≡ given r → Comes (seen (program_of p)) called_of (answer (program_of p) x args vs n (world_of w) old) (stopped why) w new
  reply_stops old new (Ok done) why n w h e = absurd (cc)
  reply_stops old new (Err (Undefined reason)) why n w h e =
      let k : stop_of (Undefined reason) ≡ why = cc in
      subst (λ y. Comes (seen (program_of p)) called_of (answer (program_of p) x args vs n (world_of w) old) (stopped y) w new) k
      (whole n (world_of w) old ∙ ap (λ q. calls.given (program_of p) q (λ objects. steps.change (called_of called) (λ u. record u { objects = objects })) n (world_of w) old) h.0 ∙ ap (λ s. steps.Halted (steps.NoMeaning reason) (world_of w) (seen (program_of p) s)) (sym h.1))
  reply_stops old new (Err Stuck) why n w h e =
      let k : stop_of Stuck ≡ why = cc in
      subst (λ y. Comes (seen (program_of p)) called_of (answer (program_of p) x args vs n (world_of w) old) (stopped y) w new) k
      (whole n (world_of w) old ∙ ap (λ q. calls.given (program_of p) q (λ objects. steps.change (called_of called) (λ u. record u { objects = objects })) n (world_of w) old) h.0 ∙ ap (λ s. calls.troubled (program_of p) meaning.Stuck n (world_of w) s) (sym h.1))
  reply_stops old new (Err Memory) why n w h e =
      let k : stop_of Memory ≡ why = cc in
      subst (λ y. Comes (seen (program_of p)) called_of (answer (program_of p) x args vs n (world_of w) old) (stopped y) w new) k tt

  pub reply_goes : (old new : CState) (r : Result (Unit {0}) Trouble) (u : Unit {0}) (n : ℕ) (w : steps.World) → Alters (memory.answered (written p.target cs (reply_rest x.result vs) old.objects)) old new r → Ok u ≡ given r → answer (program_of p) x args vs n w old ≡ steps.Finished (called_of called) w new n
  reply_goes old new (Ok done) u n w h e =
      whole n w old ∙ ap (λ q. calls.given (program_of p) q (λ objects. steps.change (called_of called) (λ u. record u { objects = objects })) n w old) h.0 ∙ ap (λ s. steps.Finished (called_of called) w s n) (sym h.1)
  reply_goes old new (Err why) u n w h e = absurd (cc)

-- ---- the call

module _ (p : Parts) (x : CExtern) (args : List CValue) (pieces : List Piece) (shape : List Plain) (cs : List Cell) (are : cs ≡ all_behind p.target p.unit.structs args) (is : on_ok (reply_shape x.result) (λ own. Ok (own ++ map (λ c. plain_of c.scalar) cs)) ≡ Ok shape) where
  call_whole : (n : ℕ) (w : steps.World) (s : CState) → outside_with (program_of p) x args pieces n w s ≡ after (import_call (seen (program_of p)) (outer_name x.name) pieces shape n w s) (answer (program_of p) x args)
  call_whole n w s = go (reply_shape x.result) is
    where
      go : (r : Result (List Plain) meaning.Trouble) → on_ok r (λ own. Ok (own ++ map (λ c. plain_of c.scalar) cs)) ≡ Ok shape
          → calls.given (program_of p) r (λ own. bind (import_call (seen (program_of p)) (outer_name x.name) pieces (own ++ written_shape p.unit.structs args)) (answer (program_of p) x args)) n w s ≡ after (import_call (seen (program_of p)) (outer_name x.name) pieces shape n w s) (answer (program_of p) x args)
      go (Ok own) e =
          let k : own ++ map (λ c. plain_of c.scalar) cs ≡ shape = cc in
          ap (λ y. after (import_call (seen (program_of p)) (outer_name x.name) pieces y n w s) (answer (program_of p) x args)) (ap (λ y. own ++ y) (shape_is p.target p.unit.structs args ∙ ap (λ y. map (λ c. plain_of c.scalar) y) (sym are)) ∙ k)
      go (Err why) e = absurd (cc)

  pub call_stops : (old new : World) (s : CState) (why : Stopped) → Comes unseen world.itself (import_call unseen (outer_name x.name) pieces shape old.steps (world_of old) tt) (no_reply why) new tt → Comes (seen (program_of p)) called_of (outside_with (program_of p) x args pieces old.steps (world_of old) s) (stopped why) new s
  call_stops old new s why h =
      subst (λ y. Comes (seen (program_of p)) called_of y (stopped why) new s) (sym (call_whole old.steps (world_of old) s))
      (stops (seen (program_of p)) world.itself called_of (import_call (seen (program_of p)) (outer_name x.name) pieces shape old.steps (world_of old) s) (answer (program_of p) x args) why new s
      (import_comes (seen (program_of p)) s (outer_name x.name) pieces shape old (Err why) new h))

  pub call_goes : (old mid new : World) (s t : CState) (reply : List ℤ) (r : Result Called Stopped) → Comes unseen world.itself (import_call unseen (outer_name x.name) pieces shape old.steps (world_of old) tt) (Ok reply) mid tt
      → Comes (seen (program_of p)) called_of (answer (program_of p) x args reply mid.steps (world_of mid) s) r new t → Comes (seen (program_of p)) called_of (outside_with (program_of p) x args pieces old.steps (world_of old) s) r new t
  call_goes old mid new s t reply r h k =
      subst (λ y. Comes (seen (program_of p)) called_of y r new t) (sym (call_whole old.steps (world_of old) s))
      (goes_on (seen (program_of p)) called_of (import_call (seen (program_of p)) (outer_name x.name) pieces shape old.steps (world_of old) s) (answer (program_of p) x args) r new t
      (import_comes (seen (program_of p)) s (outer_name x.name) pieces shape old (Ok reply) mid h) k)
