-- Whole units: what the rules ask of the declarations one after another, the objects of file scope, and runs.
use Rattle.std.proofs.Common.{◌≡◌, ℕ, Bool, true, false, List, [], ◌∷◌, map, Option, Some, None, Result, Ok, Err, refl, sym, subst, ap, ◌∙◌}
use Rattle.std.specs.Prelude.{⊤, ◌++◌, ◌≢◌, if◌then◌else◌, All}
use Rattle.std.specs.Option.{option_map}
use Rattle.std.specs.List.{find}
use Rattle.std.proofs.lemmas.List.{append-nil, append_assoc}
use Rattle.std.proofs.lemmas.List.Elements.{All-head, All-tail, All-nil}
use Rattle.iv_words.specs.Words.{same_word}
use Rattle.run_records.specs.declared.End.TheVariants.{Stopped}
use Rattle.run_records.specs.declared.Script.{Script}
use Rattle.run_records.specs.Scripts.{Fits}
use Rattle.step_semantics.specs.Safe.{Keeps}
use Rattle.step_semantics.specs.Steps.{World, FailedCheck}
use Rattle.step_semantics.proofs.Keeping.{keeps_run}
use Rattle.c_memory.specs.Initializers.{IsInit}
use Rattle.c_ast.specs.declared.CExtern.{CExtern}
use Rattle.c_ast.specs.declared.CStruct.{CStruct}
use Rattle.c_ast.specs.declared.CType.TheVariants.{Value}
use Rattle.c_ast.specs.declared.Target.{Target}
use Rattle.c_ast.specs.Exports.{c_exports}
use Rattle.c_ast.specs.Names.{named, stop_name}
use Rattle.c_ast.specs.Signatures.{IsResult, Signature, stop_signature, extern_signature}
use Rattle.c_ast.specs.StaticTypes.{Entity, ObjectName, declared}
use Rattle.c_ast.specs.Structs.{tree}
use Rattle.c_ast.specs.Syntax.{Name, FileObject, Function, TranslationUnit}
use Rattle.c_ast.specs.Targets.{table_of}
use Rattle.c_text.specs.ExpressionRules.{init_demands}
use Rattle.c_text.specs.Scopes.{Names}
use Rattle.c_text.specs.Subset.{ExternInSubset, InSubset}
use Rattle.c_text.specs.UnitRules.{file_scope, functions_demands, objects_demands, externs_demands, structs_demands, unit_demands}
use Rattle.c_meaning.specs.Values.{Trouble, Undefined, Stuck, CValue, on_ok}
use Rattle.c_meaning.specs.Memory.{CObjects}
use Rattle.c_meaning.specs.State.{Program, CState, at_rest, seen}
use Rattle.c_meaning.specs.Scopes.{file_entity, scope_of}
use Rattle.c_meaning.specs.ExpressionLaws.{SlotIsTyped}
use Rattle.c_meaning.specs.Initializers.{eval_init, made_with}
use Rattle.c_meaning.specs.Calls.{no_functions, stop_call, call_found}
use Rattle.c_meaning.specs.Runs.{entry, file_objects, first_state_of, run_from}
use Rattle.c_meaning.specs.Laws.{no_site, watched, IsNotStuck}
use Rattle.c_soundness.specs.Laws.{KeepsWhatMatters, NeverStuckLaws}
use Rattle.c_soundness.proofs.Kept.{Kept, front, rest, asked, others, right_kept}
use Rattle.c_soundness.proofs.Names.{same_self, same_equal, Alike, alike_more, Covers}
use Rattle.c_soundness.proofs.HeldMemory.{MemoryHeld, nothing_held}
use Rattle.c_soundness.proofs.Given.{Good, good_on_ok, IsGiven, AreGiven}
use Rattle.c_soundness.proofs.Evaluated.{Ready, init_good, made_good}
use Rattle.c_soundness.proofs.Outside.{Called, extern_keeps, stop_keeps}
use Rattle.c_soundness.proofs.Statements.{CallsKeep}
use Rattle.c_soundness.proofs.Functions.{new_is, Grounded}
use Rattle.c_soundness.proofs.Entries.{among_keep}

-- ---- lists that grow at their ends

alike_last : {A : Type 0} (ds es : List (Name × A)) (k : Name) (v : A) → Alike ds es → named ds k ≡ None → Alike ((k, v) ∷ ds) (es ++ (k, v) ∷ [])
alike_last ds es k v h none = alike_more ds es [] k v (subst (Alike ds) (sym (append-nil es)) h) none

same_turned : (a b : List ℕ) → same_word a b ≡ true → same_word b a ≡ true
same_turned a b h = ap (same_word b) (same_equal a b h) ∙ same_self b

turned : (a b : List ℕ) (x y : Bool) → same_word a b ≡ x → same_word b a ≡ y → x ≡ y
turned a b true true h g = refl
turned a b false false h g = refl
turned a b true false h g = sym (same_turned a b h) ∙ g
turned a b false true h g = sym h ∙ same_turned b a g

-- ---- externs

abbrev of_extern : CExtern → Name × Signature
of_extern x = (x.name, extern_signature x)

named_extern : (xs : List CExtern) (name : Name) → named (map of_extern xs) name ≡ option_map extern_signature (find (λ x. same_word x.name name) xs)
named_extern [] name = refl
named_extern (x ∷ xs) name = by (same_word x.name name) (named_extern xs name)
  where
    by : (b : Bool) → named (map of_extern xs) name ≡ option_map extern_signature (find (λ y. same_word y.name name) xs)
        → (let r : Option Signature = if b then Some (extern_signature x) else named (map of_extern xs) name in r) ≡ option_map extern_signature (if b then Some x else find (λ y. same_word y.name name) xs)
    by true h = refl
    by false h = h

find_in_subset : (name : Name) (xs : List CExtern) → All ExternInSubset xs → (x : CExtern) → find (λ y. same_word y.name name) xs ≡ Some x → IsResult x.result
find_in_subset name [] h x e = let no : ⊥ = cc in absurd no
find_in_subset name (y ∷ ys) h x e = by (find_in_subset name ys (All-tail ExternInSubset y ys h) x) (same_word y.name name) e
  where
    by : (find (λ z. same_word z.name name) ys ≡ Some x → IsResult x.result) → (test : Bool) → (if test then Some y else find (λ z. same_word z.name name) ys) ≡ Some x → IsResult x.result
    by later true is = let same : y ≡ x = cc in subst (λ (z : CExtern). IsResult z.result) same (All-head ExternInSubset y ys h).result
    by later false is = later is

module _ (target : Target) (u : TranslationUnit) where
  abbrev p : Program
  p = watched u target

  -- what each unit declares first, and then the externs
  abbrev declared_outside : List (Name × Signature)
  declared_outside = (stop_name, stop_signature) ∷ map of_extern u.externs

  none_two : (a b : Bool) (v : Signature) (r : Option CExtern) → a ≡ b → (if a then Some v else option_map extern_signature r) ≡ None → (b ≡ false) × (r ≡ None)
  none_two true b v r e h = let no : ⊥ = cc in absurd no
  none_two false b v None e h = (sym e, refl)
  none_two false b v (Some x) e h = let no : ⊥ = cc in absurd no

  first_one : (name : Name) → named declared_outside name ≡ (if same_word stop_name name then Some stop_signature else option_map extern_signature (find (λ x. same_word x.name name) u.externs))
  first_one name = ap (λ r. let q : Option Signature = if same_word stop_name name then Some stop_signature else r in q) (named_extern u.externs name)

  module _ (table : List (Name × Signature)) (alike : Alike table declared_outside) where
    outside_grounded : Grounded u target table
    outside_grounded = record {
      at = λ name none. none_two (same_word stop_name name) (same_word name stop_name) stop_signature (find (λ x. same_word x.name name) u.externs) (turned stop_name name _ _ refl refl) (sym (first_one name) ∙ sym (alike.at name) ∙ none);
    }

    some_same : (a b : Signature) → (let r : Option Signature = Some a in r) ≡ Some b → a ≡ b
    some_same a b e = cc

    module _ (externs : All ExternInSubset u.externs) (name : Name) (called : Signature) (values : List CValue) (h : AreGiven target called.params values) (n : ℕ) (w : World) (s : CState) (memory : MemoryHeld target s.objects) where
      extern_found : (there : Option CExtern) → find (λ x. same_word x.name name) u.externs ≡ there → option_map extern_signature there ≡ Some called → Keeps IsNotStuck (Called target called.result s) (call_found p (no_functions p) name values there n w s)
      extern_found None e is = let no : ⊥ = cc in absurd no
      extern_found (Some x) e is =
          let same = some_same (extern_signature x) called is in
          subst (λ r. Keeps IsNotStuck (Called target r s) (call_found p (no_functions p) name values (Some x) n w s)) (ap (λ c. c.result) same)
          (extern_keeps u target x (find_in_subset name u.externs externs x e) values (subst (λ ts. AreGiven target ts values) (sym (ap (λ c. c.params) same)) h) n w s memory)

      outside_by : (a b : Bool) → a ≡ b → (if a then Some stop_signature else option_map extern_signature (find (λ x. same_word x.name name) u.externs)) ≡ Some called
          → Keeps IsNotStuck (Called target called.result s) ((if b then stop_call p values else call_found p (no_functions p) name values (find (λ x. same_word x.name name) u.externs)) n w s)
      outside_by true true e is =
          let same = some_same stop_signature called is in
          subst (λ r. Keeps IsNotStuck (Called target r s) (stop_call p values n w s)) (ap (λ c. c.result) same)
          (stop_keeps u target values (subst (λ ts. AreGiven target ts values) (sym (ap (λ c. c.params) same)) h) n w s)
      outside_by false false e is = extern_found (find (λ x. same_word x.name name) u.externs) refl is
      outside_by true false e is = let no : ⊥ = cc in absurd no
      outside_by false true e is = let no : ⊥ = cc in absurd no

    outside_keeps : All ExternInSubset u.externs → CallsKeep u target table (no_functions (watched u target))
    outside_keeps externs = record {
      keeps = λ name called there values h n w s memory.
          outside_by externs name called values h n w s memory (same_word stop_name name) (same_word name stop_name) (turned stop_name name _ _ refl refl) (sym (first_one name) ∙ sym (alike.at name) ∙ there);
    }

  -- ---- declarations one after another

  -- an initializer of an object of file scope, in whose demands no name stands
  record FirstValueIs (o : FileObject) : Type 0 where
    names : Names
    at : ℕ
    structs : names.structs ≡ u.structs
    outside : names.in_function ≡ false
    kept : Kept (init_demands target names at (tree u.structs o.base) o.init)

  abbrev FirstValuesAre : List FileObject → Type 0
  FirstValuesAre [] = ⊤
  FirstValuesAre (o ∷ os) = FirstValueIs o × FirstValuesAre os

  record ObjectsIn (table : List (Name × Signature)) (es : List (Name × Entity)) (os : List FileObject) (fs : List Function) : Type 0 where
    objects : List (Name × Entity)
    at : ℕ
    alike : Alike objects (es ++ map file_entity os)
    first_values : FirstValuesAre os
    kept : Kept (functions_demands target u.structs table objects at fs)

  objects_in : (os : List FileObject) (table : List (Name × Signature)) (objects es : List (Name × Entity)) (at : ℕ) (fs : List Function) → Alike objects es → Kept (objects_demands target u.structs table objects at os fs) → ObjectsIn table es os fs
  objects_in [] table objects es at fs alike k = record { objects = objects; at = at; alike = subst (Alike objects) (sym (append-nil es)) alike; first_values = tt; kept = k }
  objects_in (o ∷ os) table objects es at fs alike k =
      let own = front _ _ k in
      let new = new_is (file_scope u.structs table objects) o.name (asked (others (rest _ _ (front _ _ own))) refl) in
      let more = objects_in os table ((o.name, ObjectName o.constant o.base) ∷ objects) (es ++ (o.name, ObjectName o.constant o.base) ∷ []) _ fs (alike_last objects es o.name (ObjectName o.constant o.base) alike new.no_value) (rest _ _ k) in
      record {
        objects = more.objects;
        at = more.at;
        alike = subst (Alike more.objects) (append_assoc es ((o.name, ObjectName o.constant o.base) ∷ []) (map file_entity os)) more.alike;
        first_values = (record { names = file_scope u.structs table objects; at = _; structs = refl; outside = refl; kept = rest _ _ own }, more.first_values);
        kept = more.kept;
      }

  record ExternsIn (es : List (Name × Signature)) (xs : List CExtern) (os : List FileObject) (fs : List Function) : Type 0 where
    table : List (Name × Signature)
    at : ℕ
    alike : Alike table (es ++ map of_extern xs)
    kept : Kept (objects_demands target u.structs table [] at os fs)

  externs_in : (xs : List CExtern) (table es : List (Name × Signature)) (at : ℕ) (os : List FileObject) (fs : List Function) → Alike table es → Kept (externs_demands target u.structs table at xs os fs) → ExternsIn es xs os fs
  externs_in [] table es at os fs alike k = record { table = table; at = at; alike = subst (Alike table) (sym (append-nil es)) alike; kept = k }
  externs_in (x ∷ xs) table es at os fs alike k =
      let new = new_is (file_scope u.structs table []) x.name (asked (others (rest _ _ (front _ _ (front _ _ k)))) refl) in
      let more = externs_in xs ((x.name, extern_signature x) ∷ table) (es ++ (x.name, extern_signature x) ∷ []) _ os fs (alike_last table es x.name (extern_signature x) alike new.no_function) (rest _ _ k) in
      record { table = more.table; at = more.at; alike = subst (Alike more.table) (append_assoc es ((x.name, extern_signature x) ∷ []) (map of_extern xs)) more.alike; kept = more.kept }

  record StructsIn (all : List CStruct) : Type 0 where
    at : ℕ
    kept : Kept (externs_demands target all ((stop_name, stop_signature) ∷ []) at u.externs u.objects u.functions)

  structs_in : (ss earlier : List CStruct) (at : ℕ) → Kept (structs_demands target earlier at ss u) → StructsIn (earlier ++ ss)
  structs_in [] earlier at k = subst StructsIn (sym (append-nil earlier)) (record { at = at; kept = k })
  structs_in (s ∷ ss) earlier at k = subst StructsIn (append_assoc earlier (s ∷ []) ss) (structs_in ss (earlier ++ s ∷ []) _ (rest _ _ (others k)))

  -- ---- the objects of file scope

  nothing_covered : (names : Names) → names.in_function ≡ false → Covers (declared (if names.in_function then names.values else [])) (scope_of p at_rest)
  nothing_covered names h = subst (λ b. Covers (declared (if b then names.values else [])) (scope_of p at_rest)) (sym h) (record { at = λ x e is. cc })

  first_ready : (o : FileObject) (x : FirstValueIs o) → Ready u target x.names at_rest
  first_ready o x = record { structs = x.structs; typed = All-nil (λ n. SlotIsTyped (table_of target) n.1); covers = nothing_covered x.names x.outside; memory = nothing_held target }

  objects_good : (os : List FileObject) → FirstValuesAre os → (made : CObjects) → MemoryHeld target made → Good (MemoryHeld target) (file_objects p os made)
  objects_good [] h made held = held
  objects_good (o ∷ os) h made held =
      good_on_ok (IsInit (λ k v. IsGiven target (Value k) v) (tree u.structs o.base)) (MemoryHeld target) (eval_init p o.init at_rest)
      (λ values. on_ok (made_with target (tree u.structs o.base) o.constant made values) (file_objects p os)) (init_good u target h.0.names at_rest (first_ready o h.0) (tree u.structs o.base) o.init h.0.at h.0.kept)
      (λ values is. good_on_ok (MemoryHeld target) (MemoryHeld target) (made_with target (tree u.structs o.base) o.constant made values) (file_objects p os) (made_good target (tree u.structs o.base) o.constant made values is held)
      (λ more kept. objects_good os h.1 more kept))

  first_good : FirstValuesAre u.objects → Good (λ (s : CState). MemoryHeld target s.objects) (first_state_of p u.objects)
  first_good h = good_on_ok (MemoryHeld target) (λ (s : CState). MemoryHeld target s.objects) (file_objects p u.objects []) (λ made. Ok (record at_rest { objects = made })) (objects_good u.objects h [] (nothing_held target)) (λ made held. held)

  -- ---- runs

  undefined_is_other : (reason : _) (script : Script) (n : ℕ) → (run_from p (Err (Undefined reason)) script n).end ≢ Stopped no_site
  undefined_is_other reason script n = λ e. cc

  run_not_stuck : InSubset u → KeepsWhatMatters target u → (script : Script) → Fits script (c_exports u) → (n : ℕ) → (run_from p (first_state_of p u.objects) script n).end ≢ Stopped no_site
  run_not_stuck subset kept script fits n = by (first_state_of p u.objects) (first_good in_objects.first_values)
    where
      in_structs : StructsIn u.structs
      in_structs = structs_in u.structs [] _ (record { all = kept })

      in_externs : ExternsIn ((stop_name, stop_signature) ∷ []) u.externs u.objects u.functions
      in_externs = externs_in u.externs ((stop_name, stop_signature) ∷ []) ((stop_name, stop_signature) ∷ []) in_structs.at u.objects u.functions (record { at = λ x. refl }) in_structs.kept

      in_objects : ObjectsIn in_externs.table [] u.objects u.functions
      in_objects = objects_in u.objects in_externs.table [] [] in_externs.at u.functions (record { at = λ x. refl }) in_externs.kept

      by : (first : Result CState Trouble) → Good (λ (s : CState). MemoryHeld target s.objects) first → (run_from p first script n).end ≢ Stopped no_site
      by (Ok s) held e =
          keeps_run IsNotStuck (λ (v : CState). MemoryHeld target v.objects) (c_exports u) (entry p)
          (λ entry_call call_fits m w v memory. among_keep u target in_objects.objects in_objects.alike entry_call.name entry_call.values m w v memory u.functions in_externs.table in_objects.at (no_functions p) in_objects.kept
          (outside_keeps in_externs.table in_externs.alike subset.externs) (outside_grounded in_externs.table in_externs.alike) call_fits)
          (seen p) s held script fits n (FailedCheck no_site) e refl
      by (Err (Undefined reason)) held e = undefined_is_other reason script n e
      by (Err Stuck) held e = absurd held

pub never_stuck_laws : NeverStuckLaws
never_stuck_laws = record {
  kept = λ target u subset kept. run_not_stuck target u subset kept;
  right = λ target u subset right. run_not_stuck target u subset (right_kept (unit_demands target u) right.kept);
  read_back = λ target u bytes back. run_not_stuck target u back.spelled.in_subset (right_kept (unit_demands target u) back.right.kept);
}
