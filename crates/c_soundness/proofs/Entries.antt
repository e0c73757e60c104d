-- Entry calls that fit are not stuck: the function that the outside means is the one that it finds.
use Rattle.std.proofs.Common.{◌≡◌, ℕ, ℤ, Bool, true, false, not, List, [], ◌∷◌, map, take, drop, Option, Some, None, Ok, refl, sym, subst, ap, ◌∙◌}
use Rattle.std.specs.Prelude.{⊤, ◌++◌, ◌&&◌, ◌||◌, if◌then◌else◌}
use Rattle.std.specs.Option.{option_map, option_and_then}
use Rattle.std.proofs.lemmas.Bool.{and_parts, false_from_ne_true}
use Rattle.std.proofs.lemmas.List.{take-append-drop}
use Rattle.iv_words.specs.Words.{same_word}
use Rattle.run_records.specs.declared.Export.{Export}
use Rattle.run_records.specs.declared.Plain.{Plain}
use Rattle.run_records.specs.Scripts.{plain_fits, values_fit, export_of, found_fits}
use Rattle.step_semantics.specs.Safe.{Keeps}
use Rattle.step_semantics.specs.Steps.{World, Part, bind}
use Rattle.step_semantics.proofs.Keeping.{keeps_after}
use Rattle.c_ast.specs.declared.CBase.{CBase}
use Rattle.c_ast.specs.declared.CKind.TheVariants.{Scalar}
use Rattle.c_ast.specs.declared.CParam.{CParam}
use Rattle.c_ast.specs.declared.CScalar.{CScalar}
use Rattle.c_ast.specs.declared.CType.{CType}
use Rattle.c_ast.specs.declared.CType.TheVariants.{Void, Value, Pointer}
use Rattle.c_ast.specs.declared.Target.{Target}
use Rattle.c_ast.specs.Exports.{plain_of, plain_param, plain_params, plain_result, export_as, exports_by, exports_among}
use Rattle.c_ast.specs.Names.{named, prefix, has_prefix, outer_name, stop_name}
use Rattle.c_ast.specs.Signatures.{Signature, function_signature}
use Rattle.c_ast.specs.StaticTypes.{PointerTo, Entity, value_type}
use Rattle.c_ast.specs.Syntax.{Name, Function, TranslationUnit}
use Rattle.c_text.specs.Scopes.{is_of_file}
use Rattle.c_text.specs.UnitRules.{file_scope, function_demands, functions_demands}
use Rattle.c_meaning.specs.Values.{Num, Ptr}
use Rattle.c_meaning.specs.State.{Program, CState}
use Rattle.c_meaning.specs.Scopes.{file_entity}
use Rattle.c_meaning.specs.Calls.{CallResult, Nothing, Missing, Gave, Calls}
use Rattle.c_meaning.specs.Runs.{param_types, function_call, with_function, entry_result, entry_values, entered, entry_among}
use Rattle.c_meaning.specs.Laws.{watched, IsNotStuck}
use Rattle.c_soundness.proofs.Kept.{Kept, front, rest, asked, others}
use Rattle.c_soundness.proofs.Names.{same_self, same_equal, Alike}
use Rattle.c_soundness.proofs.HeldMemory.{MemoryHeld}
use Rattle.c_soundness.proofs.Given.{Good, good_on_ok, good_given, AreGiven}
use Rattle.c_soundness.proofs.Outside.{Called, plain_held}
use Rattle.c_soundness.proofs.Statements.{CallsKeep}
use Rattle.c_soundness.proofs.Functions.{new_is, differs, passed, FunctionIs, function_keeps, Grounded, grounded_more, with_function_keeps}

-- ---- names of the outside

-- two names with the prefix are one where the outside has one name for them
prefix_parts : (a : Name) → has_prefix a ≡ true → a ≡ prefix ++ drop 3 a
prefix_parts a h = sym (take-append-drop 3 a) ∙ ap (λ l. l ++ drop 3 a) (sym (same_equal prefix (take 3 a) h))

outer_is : (a : Name) → has_prefix a ≡ true → outer_name a ≡ drop 3 a
outer_is a h = ap (λ b. let r : Name = if b then drop 3 a else a in r) h

one_name : (a b : Name) → has_prefix a ≡ true → has_prefix b ≡ true → outer_name a ≡ outer_name b → a ≡ b
one_name a b h g e = prefix_parts a h ∙ ap (λ l. prefix ++ l) (sym (outer_is a h) ∙ e ∙ outer_is b g) ∙ sym (prefix_parts b g)

of_file : (a b c : Bool) → ((a && b) || c) ≡ true → c ≡ false → a ≡ true
of_file true b c h g = refl
of_file false b true h g = let no : ⊥ = cc in absurd no
of_file false b false h g = let no : ⊥ = cc in absurd no

-- ---- values of a script

no_pointer : (result : CType) (r : Option Plain) → plain_result result ≡ Some r → (constant : Bool) (base : CBase) → value_type result ≡ Some (PointerTo constant base) → ⊥
no_pointer Void r h constant base e = cc
no_pointer (Value s) r h constant base e = cc
no_pointer (Pointer c b) r h constant base e = cc

module _ (u : TranslationUnit) (target : Target) where
  abbrev p : Program
  p = watched u target

  -- numbers that fit plain types, where there are such, are values of the parameters' types
  abbrev FitsParams : List CType → Option (List Plain) → Type 0
  FitsParams ts None = ⊤
  FitsParams ts (Some plains) = (values : List ℤ) → values_fit plains values ≡ true → Good (AreGiven target ts) (entry_values ts values)

  no_values : FitsParams [] (Some [])
  no_values [] fits = tt
  no_values (v ∷ vs) fits = let no : ⊥ = cc in absurd no

  more_values : (y : CScalar) (ts : List CType) (plains : List Plain) → FitsParams ts (Some plains) → FitsParams (Value y ∷ ts) (Some (plain_of y ∷ plains))
  more_values y ts plains good [] fits = let no : ⊥ = cc in absurd no
  more_values y ts plains good (v ∷ vs) fits =
      let parts = and_parts (plain_fits (plain_of y) v) (values_fit plains vs) fits in
      good_on_ok (AreGiven target ts) (AreGiven target (Value y ∷ ts)) (entry_values ts vs) (λ more. Ok (Num (Scalar y) v ∷ more)) (good vs parts.1) (λ more given. (record { typed = plain_held u target y v parts.0; may = refl }, given))

  more_params : (ty : CType) (ts : List CType) (r : Option (List Plain)) → FitsParams ts r → FitsParams (ty ∷ ts) (option_and_then (λ t. option_map (λ ps. t ∷ ps) r) (plain_param ty))
  more_params Void ts r h = tt
  more_params (Pointer constant base) ts r h = tt
  more_params (Value y) ts None h = tt
  more_params (Value y) ts (Some plains) h = more_values y ts plains h

  params_fit : (xs : List CParam) → FitsParams (param_types xs) (plain_params xs)
  params_fit [] = no_values
  params_fit (x ∷ xs) = more_params x.ty (param_types xs) (plain_params xs) (params_fit xs)

  -- ---- functions behind others

  record FileFunction (table : List (Name × Signature)) (objects : List (Name × Entity)) (f : Function) : Type 0 where
    is : FunctionIs u target table objects f
    of_file : is_of_file f.name ≡ true

  function_is : (table : List (Name × Signature)) (objects : List (Name × Entity)) (at : ℕ) (f : Function) → Kept (function_demands target (file_scope u.structs table objects) at f) → FileFunction table objects f
  function_is table objects at f k =
      let name_kept = rest _ _ (front _ _ (front _ _ k)) in
      record {
        is = record { params_at = _; body_at = _; new = new_is (file_scope u.structs table objects) f.name (asked (others name_kept) refl); params = rest _ _ (front _ _ k); body = rest _ _ k };
        of_file = asked name_kept refl;
      }

  has_the_prefix : (table : List (Name × Signature)) (objects : List (Name × Entity)) (f : Function) → Grounded u target table → FileFunction table objects f → has_prefix f.name ≡ true
  has_the_prefix table objects f ground x = of_file (has_prefix f.name) _ (same_word f.name stop_name) x.of_file (ground.at f.name x.is.new.no_function).0

  module _ (objects : List (Name × Entity)) (alike : Alike objects (map file_entity u.objects)) (name : Name) (values : List ℤ) where
    abbrev Fitting : List Export → Type 0
    Fitting exports = found_fits (export_of name exports) values ≡ true

    abbrev FittingAmong : List Function → Type 0
    FittingAmong fs = Fitting (exports_among fs)

    -- an export of another name is not the one that is meant
    skipped : (x : Export) (more : List Export) → same_word x.name name ≡ false → Fitting (x ∷ more) → Fitting more
    skipped x more other h = subst (λ b. found_fits (if b then Some x else export_of name more) values ≡ true) other h

    skip_as : (f : Name) (params : Option (List Plain)) (result : Option (Option Plain)) (more : List Export) → same_word (outer_name f) name ≡ false → Fitting (export_as f params result ++ more) → Fitting more
    skip_as f (Some params) (Some result) more other h = skipped (record { name = outer_name f; params = params; result = result }) more other h
    skip_as f (Some params) None more other h = h
    skip_as f None result more other h = h

    skip : (hidden : Bool) (f : Function) (more : List Export) → same_word (outer_name f.name) name ≡ false → Fitting (exports_by hidden f ++ more) → Fitting more
    skip true f more other h = h
    skip false f more other h = skip_as f.name (plain_params f.params) (plain_result f.result) more other h

    -- no later function has the name that an earlier one has outside
    no_clash : (fs : List Function) (table : List (Name × Signature)) (at : ℕ) → Kept (functions_demands target u.structs table objects at fs) → Grounded u target table → (k : Name) (called : Signature) → has_prefix k ≡ true
        → named table k ≡ Some called → same_word (outer_name k) name ≡ true → FittingAmong fs → ⊥
    no_clash [] table at kept ground k called prefixed there same fits = cc
    no_clash (g ∷ gs) table at kept ground k called prefixed there same fits =
        let x = function_is table objects at g (front _ _ kept) in
        let apart = differs table g.name k called x.is.new.no_function there in
        let g_prefixed = has_the_prefix table objects g ground x in
        let other = false_from_ne_true (same_word (outer_name g.name) name)
        (λ e. let is = one_name g.name k g_prefixed prefixed (same_equal (outer_name g.name) name e ∙ sym (same_equal (outer_name k) name same)) in
        let q : same_word g.name k ≡ true = ap (λ w. same_word w k) is ∙ same_self k in let no : ⊥ = (let both : false ≡ true = sym apart ∙ q in cc) in no) in
        no_clash gs ((g.name, function_signature g) ∷ table) _ (rest _ _ kept) (grounded_more u target table g.name (function_signature g) ground) k called prefixed
        (passed table g.name k (function_signature g) apart ∙ there) same (skip g.hidden g (exports_among gs) other fits)

    module _ (n : ℕ) (w : World) (s : CState) (memory : MemoryHeld target s.objects) where
      abbrev Holding : Part CState (Option ℤ) → Type 0
      Holding part = Keeps IsNotStuck (λ number v. MemoryHeld target v.objects) (part n w s)

      result_keeps : (result : CType) (plain : Option Plain) → plain_result result ≡ Some plain → (value : CallResult) (v : CState) → Called target result s value v → (m : ℕ) (later : World)
          → Keeps IsNotStuck (λ number v. MemoryHeld target v.objects) (entry_result p value m later v)
      result_keeps result plain is Nothing v h m later = h.memory
      result_keeps result plain is Missing v h m later = λ e. cc
      result_keeps result plain is (Gave (Num k number)) v h m later = h.memory
      result_keeps result plain is (Gave (Ptr constant base to)) v h m later = absurd (no_pointer result plain is constant base h.gives.of_type)

      module _ (table : List (Name × Signature)) (functions : Calls) (keep : CallsKeep u target table functions) (ground : Grounded u target table) (f : Function) (x : FileFunction table objects f) where
        entered_keeps : (plain : Option Plain) → plain_result f.result ≡ Some plain → Good (AreGiven target (param_types f.params)) (entry_values (param_types f.params) values) → Holding (entered p functions f values)
        entered_keeps plain is good =
            good_given u target (AreGiven target (param_types f.params)) (λ number v. MemoryHeld target v.objects) (entry_values (param_types f.params) values) (λ args. bind (function_call p functions f args) (entry_result p)) n w s good
            (λ args given. keeps_after IsNotStuck (Called target f.result s) (λ number v. MemoryHeld target v.objects) (function_call p functions f args n w s) (entry_result p)
            (function_keeps u target table objects alike functions keep f x.is args given n w s memory) (λ value v h m later. result_keeps f.result plain is value v h m later))

        abbrev next : List (Name × Signature)
        next = (f.name, function_signature f) ∷ table

        -- where the outside has the name for this function, it means it
        clash : (fs : List Function) (at : ℕ) → Kept (functions_demands target u.structs next objects at fs) → same_word (outer_name f.name) name ≡ true → FittingAmong fs → ⊥
        clash fs at kept same fits =
            no_clash fs next at kept (grounded_more u target table f.name (function_signature f) ground) f.name (function_signature f) (has_the_prefix table objects f ground x)
            (ap (λ b. let r : Option Signature = if b then Some (function_signature f) else named table f.name in r) (same_self f.name)) same fits

        named_so : (fs : List Function) (at : ℕ) → Kept (functions_demands target u.structs next objects at fs) → (params : Option (List Plain)) (result : Option (Option Plain)) → plain_result f.result ≡ result
            → FitsParams (param_types f.params) params → Fitting (export_as f.name params result ++ exports_among fs) → same_word (outer_name f.name) name ≡ true → Holding (entered p functions f values)
        named_so fs at kept (Some params) (Some result) is good fits same =
            entered_keeps result is
            (good values (subst (λ b. found_fits (if b then Some (record { name = outer_name f.name; params = params; result = result }) else export_of name (exports_among fs)) values ≡ true) same fits))
        named_so fs at kept (Some params) None is good fits same = absurd (clash fs at kept same fits)
        named_so fs at kept None result is good fits same = absurd (clash fs at kept same fits)

        -- else it means a later one
        by_name : (fs : List Function) (at : ℕ) → Kept (functions_demands target u.structs next objects at fs) → Fitting (export_as f.name (plain_params f.params) (plain_result f.result) ++ exports_among fs)
            → (later : Part CState (Option ℤ)) → (FittingAmong fs → Holding later) → (test : Bool) → same_word (outer_name f.name) name ≡ test → Holding (if test then entered p functions f values else later)
        by_name fs at kept fits later h false other = h (skip_as f.name (plain_params f.params) (plain_result f.result) (exports_among fs) other fits)
        by_name fs at kept fits later h true same = named_so fs at kept (plain_params f.params) (plain_result f.result) refl (params_fit f.params) fits same

        by_hidden : (fs : List Function) (at : ℕ) → Kept (functions_demands target u.structs next objects at fs) → (hidden : Bool) → Fitting (exports_by hidden f ++ exports_among fs) → (later : Part CState (Option ℤ))
            → (FittingAmong fs → Holding later) → Holding (if not hidden && same_word (outer_name f.name) name then entered p functions f values else later)
        by_hidden fs at kept true fits later h = h fits
        by_hidden fs at kept false fits later h = by_name fs at kept fits later h (same_word (outer_name f.name) name) refl

      pub among_keep : (fs : List Function) (table : List (Name × Signature)) (at : ℕ) (functions : Calls) → Kept (functions_demands target u.structs table objects at fs) → CallsKeep u target table functions → Grounded u target table
          → found_fits (export_of name (exports_among fs)) values ≡ true → Keeps IsNotStuck (λ number v. MemoryHeld target v.objects) (entry_among (watched u target) functions fs name values n w s)
      among_keep [] table at functions kept keep ground fits = let no : ⊥ = cc in absurd no
      among_keep (f ∷ fs) table at functions kept keep ground fits =
          let x = function_is table objects at f (front _ _ kept) in
          by_hidden table functions keep ground f x fs _ (rest _ _ kept) f.hidden fits (entry_among p (with_function p functions f) fs name values)
          (among_keep fs ((f.name, function_signature f) ∷ table) _ (with_function p functions f) (rest _ _ kept) (with_function_keeps u target table objects alike functions keep ground f x.is)
          (grounded_more u target table f.name (function_signature f) ground))
