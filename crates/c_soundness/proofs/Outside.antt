-- Calls of what is outside the unit: they are not stuck, leave the frames as they were, and keep the memory held.
use Rattle.std.proofs.Common.{◌≡◌, ℕ, ℤ, ◌<◌, ◌^◌, Bool, true, false, IsTrue, List, [], ◌∷◌, length, map, drop, Result, Ok, Err, arith, refl, sym, subst, ap}
use Rattle.std.specs.Prelude.{⊤, ◌++◌, unsigned_abs}
use Rattle.std.proofs.lemmas.Bool.{and_parts}
use Rattle.std.proofs.lemmas.Int.{ints}
use Rattle.iv_words.specs.Kinds.{in_range}
use Rattle.iv_words.specs.declared.IntKind.TheVariants.{U32}
use Rattle.run_records.specs.declared.Piece.TheVariants as piece
use Rattle.run_records.specs.declared.Plain.{Plain}
use Rattle.run_records.specs.Scripts.{plain_fits, values_fit}
use Rattle.step_semantics.specs.Imports.{import_call}
use Rattle.step_semantics.specs.Safe.{Keeps}
use Rattle.step_semantics.specs.Steps.{World, FailedCheck, bind, change}
use Rattle.step_semantics.proofs.Keeping.{Given, keeps_after, keeps_import_call}
use Rattle.type_trees.specs.Trees.{scalars, count}
use Rattle.type_trees.proofs.Scalars.{length_scalars, scalars_of_lay}
use Rattle.c_memory.specs.Access.{Fault}
use Rattle.c_memory.specs.Copies.{read_each, write_each}
use Rattle.c_ast.specs.declared.CBase.{CBase}
use Rattle.c_ast.specs.declared.CExtern.{CExtern}
use Rattle.c_ast.specs.declared.CKind.{CKind}
use Rattle.c_ast.specs.declared.CKind.TheVariants.{Scalar}
use Rattle.c_ast.specs.declared.CScalar.{CScalar}
use Rattle.c_ast.specs.declared.CScalar.TheVariants.{Truth, Int}
use Rattle.c_ast.specs.declared.CType.{CType}
use Rattle.c_ast.specs.declared.CType.TheVariants.{Void, Value, Pointer}
use Rattle.c_ast.specs.declared.Target.{Target}
use Rattle.c_ast.specs.Conversions.{can_hold}
use Rattle.c_ast.specs.Exports.{plain_of}
use Rattle.c_ast.specs.Names.{outer_name}
use Rattle.c_ast.specs.Scalars.{metric_of}
use Rattle.c_ast.specs.Signatures.{IsResult}
use Rattle.c_ast.specs.Structs.{tree}
use Rattle.c_ast.specs.Syntax.{TranslationUnit}
use Rattle.c_ast.specs.Targets.{table_of}
use Rattle.c_meaning.specs.Values.{Address, CValue, Num, Ptr, on_ok, as_arguments}
use Rattle.c_meaning.specs.Memory.{CObjects, memory_of, answered}
use Rattle.c_meaning.specs.State.{Program, CState, seen}
use Rattle.c_meaning.specs.Calls.{given, CallResult, Nothing, Missing, Gave, piece_of, pieces_of, pointed, reply_shape, written_shape, reply_value, write_replies, reply_written, outside_with, outside, stop_at, stop_call, extern_call}
use Rattle.c_meaning.specs.Laws.{CanHold, watched, IsNotStuck}
use Rattle.c_soundness.proofs.Given.{Good, good_on_ok, answered_good, good_given, Holds, AreGiven, AreHeld, arguments_good}
use Rattle.c_soundness.proofs.HeldMemory.{MemoryHeld, FrontFits, each_write_held}

-- ---- what calls come to

module _ (target : Target) where
  abbrev pub Gives : CType → CallResult → Type 0
  Gives result Nothing = result ≡ Void
  Gives result Missing = ⊤
  Gives result (Gave v) = Holds target result v

  -- behind a call from a state
  pub record Called (result : CType) (s : CState) (value : CallResult) (v : CState) : Type 0 where
    pub gives : Gives result value
    pub frames : v.frames ≡ s.frames
    pub memory : MemoryHeld target v.objects

module _ (u : TranslationUnit) (target : Target) where
  abbrev p : Program
  p = watched u target

  -- ---- replies

  pub plain_held : (s : CScalar) (v : ℤ) → plain_fits (plain_of s) v ≡ true → CanHold target s v
  plain_held Truth v h = grind (arith, ints)
  plain_held (Int kind) v h = h

  record Front (ks : List CScalar) (more : List Plain) (vs : List ℤ) : Type 0 where
    fits : FrontFits target ks vs
    later : values_fit more (drop (length ks) vs) ≡ true

  front_fits : (ks : List CScalar) (more : List Plain) (vs : List ℤ) → values_fit (map plain_of ks ++ more) vs ≡ true → Front ks more vs
  front_fits [] more vs h = record { fits = tt; later = h }
  front_fits (k ∷ ks) more [] h = let no : ⊥ = cc in absurd no
  front_fits (k ∷ ks) more (v ∷ vs) h =
      let parts = and_parts (plain_fits (plain_of k) v) (values_fit (map plain_of ks ++ more) vs) h in
      let r = front_fits ks more vs parts.1 in
      record { fits = (plain_held k v parts.0, r.fits); later = r.later }

  written_good : (args : List CValue) (vs : List ℤ) (objects : CObjects) → MemoryHeld target objects → values_fit (written_shape u.structs args) vs ≡ true → Good (MemoryHeld target) (write_replies target u.structs args vs objects)
  written_good [] vs objects held fits = held
  written_good (Num k v ∷ args) vs objects held fits = written_good args vs objects held fits
  written_good (Ptr true b to ∷ args) vs objects held fits = written_good args vs objects held fits
  written_good (Ptr false b to ∷ args) vs objects held fits =
      let a = tree u.structs b in
      let f = front_fits (scalars a) (written_shape u.structs args) vs fits in
      good_on_ok (MemoryHeld target) (MemoryHeld target) (answered (write_each (memory_of target).write objects to.object (pointed target u.structs b to) vs)) (write_replies target u.structs args (drop (count a) vs))
      (answered_good (MemoryHeld target) (write_each (memory_of target).write objects to.object (pointed target u.structs b to) vs)
      (λ made is. each_write_held target to.object (pointed target u.structs b to) vs objects made held (subst (λ ks. FrontFits target ks vs) (sym (scalars_of_lay (metric_of target) a to.offset)) f.fits) is))
      (λ made h. written_good args (drop (count a) vs) made h (subst (λ n. values_fit (written_shape u.structs args) (drop n vs) ≡ true) (length_scalars a) f.later))

  -- what a reply says, with the values that are left to be written
  record Said (result : CType) (more : List Plain) (r : CallResult × List ℤ) : Type 0 where
    gives : Gives target result r.0
    later : values_fit more r.1 ≡ true

  abbrev IsShape : CType → List Plain → List Plain → Type 0
  IsShape result more shape = (reply : List ℤ) → IsTrue (values_fit (shape ++ more) reply) → Good (Said result more) (reply_value result reply)

  value_shape : (s : CScalar) (more : List Plain) → IsShape (Value s) more (plain_of s ∷ [])
  value_shape s more [] fits = let no : ⊥ = cc in absurd no
  value_shape s more (v ∷ vs) fits =
      let parts = and_parts (plain_fits (plain_of s) v) (values_fit more vs) fits in
      record { gives = record { typed = plain_held s v parts.0; of_type = refl }; later = parts.1 }

  shape_good : (result : CType) (more : List Plain) → IsResult result → Good (IsShape result more) (reply_shape result)
  shape_good Void more is = λ reply fits. record { gives = refl; later = fits }
  shape_good (Value s) more is = value_shape s more
  shape_good (Pointer constant base) more is = absurd is

  -- ---- externs

  cells_good : (constant : Bool) (b : CBase) (to : Address) (r : Result (List ℤ) Fault) → Good (λ piece. ⊤) (on_ok (answered r) (λ cells. Ok (piece.Cells cells)))
  cells_good constant b to (Ok cells) = tt
  cells_good constant b to (Err fault) = tt

  piece_good : (objects : CObjects) (v : CValue) → Good (λ piece. ⊤) (piece_of target u.structs objects v)
  piece_good objects (Num k n) = tt
  piece_good objects (Ptr constant b to) = cells_good constant b to (read_each (memory_of target).read objects to.object (pointed target u.structs b to))

  pieces_good : (objects : CObjects) (vs : List CValue) → Good (λ pieces. ⊤) (pieces_of target u.structs objects vs)
  pieces_good objects [] = tt
  pieces_good objects (v ∷ vs) =
      good_on_ok (λ piece. ⊤) (λ pieces. ⊤) (piece_of target u.structs objects v) (λ piece. on_ok (pieces_of target u.structs objects vs) (λ pieces. Ok (piece ∷ pieces))) (piece_good objects v)
      (λ piece x. good_on_ok (λ pieces. ⊤) (λ pieces. ⊤) (pieces_of target u.structs objects vs) (λ pieces. Ok (piece ∷ pieces)) (pieces_good objects vs) (λ pieces y. tt))

  written_keeps : (result : CType) (args : List CValue) (reply : CallResult × List ℤ) → Said result (written_shape u.structs args) reply → (s v : CState) → v ≡ s → MemoryHeld target s.objects
      → (n : ℕ) (w : World) → Keeps IsNotStuck (Called target result s) (reply_written p args reply n w v)
  written_keeps result args reply said s v same held n w =
      good_given u target (MemoryHeld target) (Called target result s) (write_replies target u.structs args reply.1 v.objects) (λ objects. change reply.0 (λ x. record x { objects = objects })) n w v
      (written_good args reply.1 v.objects (subst (λ q. MemoryHeld target q.objects) (sym same) held) said.later)
      (λ made h. record { gives = said.gives; frames = ap (λ (q : CState). q.frames) same; memory = h })

  outside_keeps : (x : CExtern) → IsResult x.result → (args : List CValue) (n : ℕ) (w : World) (s : CState) → MemoryHeld target s.objects → Keeps IsNotStuck (Called target x.result s) (outside p x args n w s)
  outside_keeps x is args n w s held =
      let more : List Plain = written_shape u.structs args in
      good_given u target (λ pieces. ⊤) (Called target x.result s) (pieces_of target u.structs s.objects args) (outside_with p x args) n w s (pieces_good s.objects args)
      (λ pieces z. good_given u target (IsShape x.result more) (Called target x.result s) (reply_shape x.result)
      (λ shape. bind (import_call (seen p) (outer_name x.name) pieces (shape ++ more)) (λ reply. given p (reply_value x.result reply) (reply_written p args))) n w s (shape_good x.result more is)
      (λ shape good. keeps_after IsNotStuck (Given s (shape ++ more)) (Called target x.result s) _ (λ reply. given p (reply_value x.result reply) (reply_written p args))
      (keeps_import_call IsNotStuck (seen p) (λ e. cc) (λ e. cc) s (outer_name x.name) pieces (shape ++ more) n w)
      (λ reply v replied m later. good_given u target (Said x.result more) (Called target x.result s) (reply_value x.result reply) (reply_written p args) m later v (good reply replied.fits)
      (λ r said. written_keeps x.result args r said s v replied.same held m later))))

  pub extern_keeps : (x : CExtern) → IsResult x.result → (values : List CValue) → AreGiven target x.params values → (n : ℕ) (w : World) (s : CState) → MemoryHeld target s.objects
      → Keeps IsNotStuck (Called target x.result s) (extern_call (watched u target) x values n w s)
  extern_keeps x is values given_values n w s held =
      good_given u target (AreHeld target x.params) (Called target x.result s) (as_arguments target x.params values) (outside p x) n w s (arguments_good target x.params values given_values)
      (λ args h. outside_keeps x is args n w s held)

  -- ---- the end of a run at a check

  -- a site of uint32_t is another than the one that is watched
  is_u32 : (k : CKind) (site : ℤ) → Holds target (Value (Int U32)) (Num k site) → IsTrue (in_range U32 site)
  is_u32 k site h = let is : k ≡ Scalar (Int U32) = (let e = h.of_type in cc) in subst (λ kind. IsTrue (can_hold (table_of target) kind site)) is h.typed

  site_below : (site : ℤ) → IsTrue (in_range U32 site) → unsigned_abs site < 2 ^ 32
  site_below site h = grind (arith, ints)

  other_site : (m : ℕ) → m < 2 ^ 32 → IsNotStuck (FailedCheck m)
  other_site m l = λ e. let is : m ≡ 2 ^ 32 = cc in omega (arith, l, is)

  stop_at_keeps : (args : List CValue) → AreHeld target (Value (Int U32) ∷ []) args → (n : ℕ) (w : World) (s : CState) → Keeps IsNotStuck (Called target Void s) (stop_at p args n w s)
  stop_at_keeps [] held n w s = absurd held
  stop_at_keeps (Num k site ∷ []) held n w s = other_site (unsigned_abs site) (site_below site (is_u32 k site held.0))
  stop_at_keeps (Ptr constant base to ∷ []) held n w s = let no : ⊥ = (let e = held.0.of_type in cc) in absurd no
  stop_at_keeps (v ∷ x ∷ vs) held n w s = absurd held.1

  pub stop_keeps : (values : List CValue) → AreGiven target (Value (Int U32) ∷ []) values → (n : ℕ) (w : World) (s : CState) → Keeps IsNotStuck (Called target Void s) (stop_call (watched u target) values n w s)
  stop_keeps values given_values n w s =
      good_given u target (AreHeld target (Value (Int U32) ∷ [])) (Called target Void s) (as_arguments target (Value (Int U32) ∷ []) values) (stop_at p) n w s (arguments_good target (Value (Int U32) ∷ []) values given_values)
      (λ args held. stop_at_keeps args held n w s)
