-- What the C of a procedure's expressions stands among: each field of `Set`.
use Rattle.std.proofs.Common.{◌≡◌, ℕ, zero, suc, ◌≤◌, Bool, List, [], ◌∷◌, map, length, slice_get, Option, Some, None, refl, sym, ◌∙◌, ap, subst, arith}
use Rattle.std.proofs.lemmas.Option.{slice_get_within}
use Rattle.type_trees.specs.Trees.{Struct, End}
use Rattle.area_types.specs.Syntax as types
use Rattle.area_types.specs.Syntax.{ValueType, Area, Field, StructType}
use Rattle.area_types.specs.Tables.{structs_of, written_out}
use Rattle.area_types.specs.Trees.{Written, WrittenRow, fields_from, trees_of}
use Rattle.area_types.specs.View.{struct_of}
use Rattle.area_types.specs.declared.region.Region.{Region}
use Rattle.area_types.specs.declared.structs.StructDef.{StructDef}
use Rattle.area_types.proofs.Written.{struct_missing, none_past}
use Rattle.core_tree.specs.Names.{AllDifferent, struct_fields}
use Rattle.core_tree.specs.Syntax.{AreaCore, ParamCore, ProcCore, ModuleCore, type_of}
use Rattle.core_tree.specs.Valid.{ValidCore}
use Rattle.region_soundness.proofs.Structs.{struct_there}
use Rattle.core_meaning.specs.Values.{Value}
use Rattle.c_ast.specs.declared.Suffix.TheVariants.{Plain}
use Rattle.c_ast.specs.declared.Target.{Target}
use Rattle.c_ast.specs.Syntax.{Expr, Number, Read, Var}
use Rattle.c_meaning.specs.Calls.{Calls}
use Rattle.area_objects.specs.Located.{FieldsApart, IsType, SameGlobals, many_fields}
use Rattle.lower_types.specs.Arrays.{declared}
use Rattle.lower_types.specs.Declarations.{object_for, structs_for}
use Rattle.lower_types.specs.Names.{local_name}
use Rattle.lower_types.specs.Types.{table_for}
use Rattle.lower_values.specs.Expressions.{field_name, fields_of}
use Rattle.value_refinement.specs.Settings.{Setting, Set, HasCType, OutcomeNamed}
use Rattle.lowered_surroundings.specs.Laws.{ProceduresAreSet, EnsuresAreSet, PlainEnsuresAreSet}
use Rattle.lowered_surroundings.specs.Surroundings.{naming_for, setting_for}
use Rattle.lowered_surroundings.proofs.Collected.{AllMet, TypeKnown, all_met}
use Rattle.lowered_surroundings.proofs.DeclaredTypes.{base_is, declared_is}
use Rattle.lowered_surroundings.proofs.ExpressionTypes.{all_at, no_outcome}
use Rattle.lowered_surroundings.proofs.LocalTypes.{result_known, types_known}
use Rattle.lowered_surroundings.proofs.Meeting.{Known}
use Rattle.lowered_surroundings.proofs.NamesApart.{named_old, names_kept, fields_differ}

-- ---- fields

many_from : (i : ℕ) (trees : List Written) (fs : List Field) → many_fields (fields_from i trees fs) ≡ length fs
many_from i trees [] = refl
many_from i trees (f ∷ fs) = ap suc (many_from (suc i) trees fs)

same_row : (k : ℕ) (r q : WrittenRow) → Struct k r ≡ Struct k q → r ≡ q
same_row k r q e = cc

module _ (core : ModuleCore) (valid : ValidCore core) where
  abbrev structs : List StructType
  structs = structs_of core.structs

  fields_named : (defs : List StructDef) → ((k : ℕ) (d : StructDef) → slice_get defs k ≡ Some d → AllDifferent (struct_fields d)) → (k : ℕ) (s : StructType) → slice_get (map struct_of defs) k ≡ Some s
      → AllDifferent (map (λ (f : Field). f.name) s.fields)
  fields_named [] h k s e = let no : ⊥ = cc in absurd no
  fields_named (d ∷ defs) h zero s e =
      let same : struct_of d ≡ s = cc in
      subst (λ (x : StructType). AllDifferent (map (λ (f : Field). f.name) x.fields)) same (subst AllDifferent (sym (names_kept d.fields)) (h 0 d refl))
  fields_named (d ∷ defs) h (suc k) s e = fields_named defs (λ j x g. h (suc j) x g) k s e

  row_apart : (k : ℕ) (r : WrittenRow) → written_out core.structs (types.Struct k) ≡ Struct k r → (o : Option StructType) → slice_get structs k ≡ o → FieldsApart (naming_for core) k r
  row_apart k r e None f i j low below same =
      let none : r ≡ End = same_row k r End (sym e ∙ struct_missing structs k (none_past structs k f)) in
      absurd (omega (arith, low, ap many_fields none))
  row_apart k r e (Some s) f i j low below same =
      let row : r ≡ fields_from 0 (trees_of structs) s.fields = same_row k r (fields_from 0 (trees_of structs) s.fields) (sym e ∙ (struct_there core.structs.words structs k s valid.table f).is) in
      let many : many_fields r ≡ length s.fields = ap many_fields row ∙ many_from 0 (trees_of structs) s.fields in
      let different : AllDifferent (map (λ (x : Field). x.name) s.fields) =
      fields_named core.structs.structs (λ n d g. all_at (λ x. AllDifferent (struct_fields x)) core.structs.structs n d valid.names.struct_fields g) k s f in
      let here : (n : ℕ) → field_name (slice_get (fields_of (slice_get structs k)) n) ≡ field_name (slice_get s.fields n) = λ n. ap (λ o. field_name (slice_get (fields_of o) n)) f in
      fields_differ s.fields different i j (omega (arith, low, many)) (omega (arith, below, many)) (sym (here i) ∙ same ∙ here j)

  pub fields_apart : (k : ℕ) (r : WrittenRow) → written_out core.structs (types.Struct k) ≡ Struct k r → FieldsApart (naming_for core) k r
  fields_apart k r e = row_apart k r e (slice_get structs k) refl

  -- ---- objects and types

  module _ (every : AllMet core (declared core)) where
    objects_for : (xs : List AreaCore) → ((k : ℕ) (a : AreaCore) → slice_get xs k ≡ Some a → Known structs (length core.structs.words) (declared core) a.area)
        → SameGlobals (naming_for core) core.structs (structs_for core) xs (map (object_for core (table_for core)) xs)
    objects_for [] h = tt
    objects_for (x ∷ xs) h = (refl, declared_is core valid (declared core) every.good.ordered x.area (h 0 x refl), objects_for xs (λ k a e. h (suc k) a e))

    pub same_globals : SameGlobals (naming_for core) core.structs (structs_for core) core.areas (map (object_for core (table_for core)) core.areas)
    same_globals = objects_for core.areas every.areas

    reference_known : (ty : ValueType) (constant : Bool) (region : Region) (area : Area) → ty ≡ types.Ref constant region area → TypeKnown core (declared core) ty → Known structs (length core.structs.words) (declared core) area
    reference_known ty constant region area e known = subst (TypeKnown core (declared core)) e known

    module _ (k : ℕ) (p : ProcCore) (at_k : slice_get core.procs k ≡ Some p) (skip : ℕ → Bool) (t : Target) (functions : Calls) (scope : List ℕ) (outcome : Expr) (result : Option ValueType) (value : Option Value) (first : ℕ) where
      abbrev around : Setting
      around =
          let g : Setting = setting_for skip core t functions k p scope in
          record g { frame = record g.frame { outcome = outcome }; env = record g.env { outcome = result }; outcome = value; first = first }

      has_c_type : (area : Area) → Known structs (length core.structs.words) (declared core) area → HasCType around area
      has_c_type area known =
          let named = base_is core valid (declared core) every.good.ordered area in
          record {
            type = subst (λ b. IsType (naming_for core) (structs_for core) b (written_out core.structs area)) named (declared_is core valid (declared core) every.good.ordered area known);
            base = named;
          }

      set_in : length p.locals ≤ first → ((ty : ValueType) → result ≡ Some ty → p.result ≡ Some ty) → ((ty : ValueType) → result ≡ Some ty → OutcomeNamed around) → Set around
      set_in room own named = record {
        target = refl;
        core = refl;
        valid = valid;
        table = refl;
        scalars = λ ty. refl;
        elements = refl;
        members = λ j field. refl;
        apart = λ j r e. fields_apart j r e;
        areas = same_globals;
        types = λ e constant region area typed is.
            has_c_type area (reference_known (type_of e) constant region area is
            (types_known core valid (declared core) every k p at_k result (λ ty here. result_known core valid (declared core) every k p at_k ty (own ty here)) scope e typed));
        locals = λ x ty e. named_old (slice_get (map (λ (y : ParamCore). y.name) p.params) x) x first (omega (arith, slice_get_within p.locals x ty e, room));
        result = named;
      }

pub procedures_are_set : ProceduresAreSet
procedures_are_set core valid k p at_k skip t functions scope =
    set_in core valid (all_met core valid) k p at_k skip t functions scope (Number 0 Plain) None None (length p.locals) (omega arith) (λ ty e. absurd (no_outcome ty e)) (λ ty e. absurd (no_outcome ty e))

pub ensures_are_set : EnsuresAreSet
ensures_are_set core valid k p at_k skip t functions scope value n room =
    set_in core valid (all_met core valid) k p at_k skip t functions scope (Read (Var (local_name n))) p.result value (suc n) (omega (arith, room)) (λ ty e. e)
    (λ ty e. record { name = local_name n; is = refl; old = named_old None n (suc n) (omega arith) })

pub plain_ensures_are_set : PlainEnsuresAreSet
plain_ensures_are_set core valid k p at_k none skip t functions scope outcome value n room =
    set_in core valid (all_met core valid) k p at_k skip t functions scope outcome p.result value n room (λ ty e. e) (λ ty e. absurd (no_outcome ty (sym none ∙ e)))
