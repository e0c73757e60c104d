-- Types that are declared in order, with different names, are the C types of their areas.
use Rattle.std.proofs.Common.{◌≡◌, ℕ, zero, suc, ◌+◌, Bool, true, false, ◌||◌, if◌then◌else◌, List, [], ◌∷◌, ◌++◌, map, length, slice_get, Option, Some, None, IsTrue, refl, sym, ◌∙◌, ap, subst, arith, append-nil, append_assoc}
use Rattle.std.specs.Option.{option_map}
use Rattle.std.proofs.lemmas.List.{map-append}
use Rattle.std.proofs.lemmas.Option.{slice_get-map}
use Rattle.iv_words.specs.Words.{same_word}
use Rattle.iv_words.proofs.Equality.{same_self, same_equal}
use Rattle.type_trees.specs.Trees as trees
use Rattle.area_types.specs.Syntax.{Name, Area, Stored, Array, Struct, Field, StructType}
use Rattle.area_types.specs.Tables.{structs_of, written_out}
use Rattle.area_types.specs.Trees.{Written, fields_from, trees_of}
use Rattle.area_types.specs.View.{struct_of}
use Rattle.area_types.specs.declared.structs.StructDef.{StructDef}
use Rattle.area_types.proofs.Parts.{area_written}
use Rattle.area_types.proofs.Written.{struct_missing, none_past}
use Rattle.source_types.specs.Values.{same_area}
use Rattle.typing_laws.proofs.Equal.{area_equal}
use Rattle.typing_laws.proofs.Quiet.{area_same}
use Rattle.core_tree.specs.Names.{type_names}
use Rattle.core_tree.specs.Syntax.{ModuleCore}
use Rattle.core_tree.specs.Valid.{ValidCore}
use Rattle.region_soundness.proofs.Structs.{struct_there}
use Rattle.c_ast.specs.declared.CBase.TheVariants as base
use Rattle.c_ast.specs.Names.{named}
use Rattle.c_ast.specs.Structs as c
use Rattle.c_ast.specs.Structs.{CTree, CRow, base_tree, or_empty, row_of, table, tree}
use Rattle.area_objects.specs.Shapes.{Naming, shape, members, base_of}
use Rattle.area_objects.specs.Located.{IsType}
use Rattle.lower_types.specs.Arrays.{Declared, is_declared, arrays_among, place_of}
use Rattle.lower_types.specs.Declarations.{member_for, members_of, struct_for}
use Rattle.lower_types.specs.Names.{item_name, array_name, elements_name}
use Rattle.lower_types.specs.Types.{TypeTable, base_for, struct_name}
use Rattle.lower_types.proofs.Names.{arrays_differ, item_is_no_array, items_differ}
use Rattle.lower_values.specs.Expressions.{field_name, fields_of}
use Rattle.lowered_surroundings.specs.Surroundings.{naming_over}
use Rattle.lowered_surroundings.proofs.Meeting.{Known, FieldsKnown, PartsKnown, Ordered, declared_front, known_front}
use Rattle.lowered_surroundings.proofs.NamesApart.{same_place}

-- ---- places of array types

arrays_declared : (d : Declared) (n : ℕ) (element : Area) → IsTrue (is_declared d (Array n element)) → IsTrue (is_declared (arrays_among d) (Array n element))
arrays_declared [] n element h = h
arrays_declared (Stored held ∷ d) n element h = arrays_declared d n element h
arrays_declared (Struct k ∷ d) n element h = arrays_declared d n element h
arrays_declared (Array m x ∷ d) n element h = go (arrays_declared d n element) (same_area (Array m x) (Array n element)) h
  where
    go : (IsTrue (is_declared d (Array n element)) → IsTrue (is_declared (arrays_among d) (Array n element))) → (b : Bool)
        → IsTrue (b || is_declared d (Array n element)) → IsTrue (b || is_declared (arrays_among d) (Array n element))
    go later true h = refl
    go later false h = later h

places_differ : (arrays : List Area) (a b : Area) → IsTrue (is_declared arrays a) → IsTrue (is_declared arrays b) → place_of arrays a ≡ place_of arrays b → a ≡ b
places_differ [] a b h k e = let no : ⊥ = cc in absurd no
places_differ (x ∷ arrays) a b h k e = go (places_differ arrays a b) (same_area x a) refl (same_area x b) refl h k e
  where
    go : (IsTrue (is_declared arrays a) → IsTrue (is_declared arrays b) → place_of arrays a ≡ place_of arrays b → a ≡ b) → (p : Bool) → same_area x a ≡ p → (q : Bool) → same_area x b ≡ q → IsTrue (p || is_declared arrays a) → IsTrue (q || is_declared arrays b)
        → (if p then 0 else suc (place_of arrays a)) ≡ (if q then 0 else suc (place_of arrays b)) → a ≡ b
    go later true f true g h k e = sym (area_equal x a f) ∙ area_equal x b g
    go later true f false g h k e = absurd (omega (arith, e))
    go later false f true g h k e = absurd (omega (arith, e))
    go later false f false g h k e = later h k (omega (arith, e))

-- ---- structs by name

get_front : {A : Type 0} (xs ys : List A) (k : ℕ) (x : A) → slice_get xs k ≡ Some x → slice_get (xs ++ ys) k ≡ Some x
get_front [] ys k x h = let no : ⊥ = cc in absurd no
get_front (y ∷ xs) ys zero x h = h
get_front (y ∷ xs) ys (suc k) x h = get_front xs ys k x h

struct_names_kept : (ss : List StructDef) → map (λ (s : StructType). s.name) (map struct_of ss) ≡ map (λ (s : StructDef). s.name) ss
struct_names_kept [] = refl
struct_names_kept (s ∷ ss) = ap (λ names. s.name ∷ names) (struct_names_kept ss)

module _ (core : ModuleCore) (valid : ValidCore core) (all : Declared) where
  abbrev structs : List StructType
  structs = structs_of core.structs

  abbrev words : ℕ
  words = length core.structs.words

  abbrev types : TypeTable
  types = record { structs = structs; words = core.structs.words; arrays = arrays_among all }

  abbrev names : Naming
  names = naming_over types

  abbrev written : Area → Written
  written a = written_out core.structs a

  abbrev shaped : Area → CTree
  shaped a = shape names (written a)

  struct_name_at : (k : ℕ) (s : StructType) → slice_get structs k ≡ Some s → slice_get (type_names core) k ≡ Some s.name
  struct_name_at k s e =
      get_front (map (λ (x : StructDef). x.name) core.structs.structs) (map (λ l. l.name) core.layouts) k s.name
      (ap (λ xs. slice_get xs k) (sym (struct_names_kept core.structs.structs)) ∙ slice_get-map (λ (x : StructType). x.name) structs k ∙ ap (option_map (λ (x : StructType). x.name)) e)

  structs_differ : (j k : ℕ) (s u : StructType) → slice_get structs j ≡ Some s → slice_get structs k ≡ Some u → s.name ≡ u.name → j ≡ k
  structs_differ j k s u e f same = same_place (type_names core) valid.names.types j k s.name (struct_name_at j s e) (struct_name_at k u f ∙ ap Some (sym same))

  -- ---- names of types

  abbrev type_name : Area → Name
  type_name (Stored held) = []
  type_name (Array n element) = array_name (place_of (arrays_among all) (Array n element))
  type_name (Struct k) = struct_name (slice_get structs k)

  parts_front : (d more : Declared) (a : Area) → PartsKnown structs words d a → PartsKnown structs words (d ++ more) a
  parts_front d more (Stored held) p = p
  parts_front d more (Array n element) p = known_front structs words d more element p
  parts_front d more (Struct k) p = record { struct_type = p.struct_type; found = p.found; fields = λ i f e. known_front structs words d more f.area (p.fields i f e) }

  -- what is declared has its parts declared
  pub parts_declared : (before more : Declared) (a : Area) → Ordered structs words before more → IsTrue (is_declared more a) → PartsKnown structs words (before ++ more) a
  parts_declared before [] a o h = let no : ⊥ = cc in absurd no
  parts_declared before (x ∷ more) a o h =
      go (λ k. subst (λ d. PartsKnown structs words d a) (append_assoc before (x ∷ []) more) (parts_declared (before ++ x ∷ []) more a o.1 k)) (same_area x a) refl h
    where
      go : (IsTrue (is_declared more a) → PartsKnown structs words (before ++ x ∷ more) a) → (b : Bool) → same_area x a ≡ b → IsTrue (b || is_declared more a) → PartsKnown structs words (before ++ x ∷ more) a
      go later true e h = parts_front before (x ∷ more) a (subst (λ y. PartsKnown structs words before y) (area_equal x a e) o.0)
      go later false e h = later h

  module _ (ordered : Ordered structs words [] all) where
    parts_of : (a : Area) → IsTrue (is_declared all a) → PartsKnown structs words all a
    parts_of a h = parts_declared [] all a ordered h

    names_differ : (a b : Area) → IsTrue (is_declared all a) → IsTrue (is_declared all b) → type_name a ≡ type_name b → a ≡ b
    names_differ (Stored held) b h k e = absurd (parts_of (Stored held) h)
    names_differ (Array n x) (Stored held) h k e = absurd (parts_of (Stored held) k)
    names_differ (Array n x) (Array m y) h k e =
        places_differ (arrays_among all) (Array n x) (Array m y) (arrays_declared all n x h) (arrays_declared all m y k)
        (arrays_differ (place_of (arrays_among all) (Array n x)) (place_of (arrays_among all) (Array m y)) e)
    names_differ (Array n x) (Struct j) h k e =
        let p : FieldsKnown structs words all j = parts_of (Struct j) k in
        absurd (item_is_no_array p.struct_type.name (place_of (arrays_among all) (Array n x)) (ap struct_name (sym p.found) ∙ sym e))
    names_differ (Struct i) (Stored held) h k e = absurd (parts_of (Stored held) k)
    names_differ (Struct i) (Array m y) h k e =
        let p : FieldsKnown structs words all i = parts_of (Struct i) h in
        absurd (item_is_no_array p.struct_type.name (place_of (arrays_among all) (Array m y)) (ap struct_name (sym p.found) ∙ e))
    names_differ (Struct i) (Struct j) h k e =
        let p : FieldsKnown structs words all i = parts_of (Struct i) h in
        let q : FieldsKnown structs words all j = parts_of (Struct j) k in
        let same : item_name p.struct_type.name ≡ item_name q.struct_type.name = ap struct_name (sym p.found) ∙ e ∙ ap struct_name q.found in
        ap Struct (structs_differ i j p.struct_type q.struct_type p.found q.found (items_differ p.struct_type.name q.struct_type.name same))

    -- ---- types by name

    abbrev entry : Area → Name × CTree
    entry a = (type_name a, shaped a)

    abbrev Apart : Declared → Area → Type 0
    Apart d a = (b : Area) → IsTrue (is_declared d b) → type_name b ≡ type_name a → b ≡ a

    entry_found : (d : Declared) (a : Area) → Apart d a → IsTrue (is_declared d a) → named (map entry d) (type_name a) ≡ Some (shaped a)
    entry_found [] a apart h = let no : ⊥ = cc in absurd no
    entry_found (x ∷ d) a apart h =
        go (entry_found d a (λ b k n. apart b (more b (same_area x b) k) n)) (same_word (type_name x) (type_name a)) refl (same_area x a) refl h
      where
        first : (b : Bool) → b ≡ true → IsTrue (b || is_declared d x)
        first true e = refl
        first false e = let no : ⊥ = cc in absurd no

        more : (b : Area) (p : Bool) → IsTrue (is_declared d b) → IsTrue (p || is_declared d b)
        more b true k = refl
        more b false k = k

        go : (IsTrue (is_declared d a) → named (map entry d) (type_name a) ≡ Some (shaped a)) → (p : Bool) → same_word (type_name x) (type_name a) ≡ p → (q : Bool) → same_area x a ≡ q → IsTrue (q || is_declared d a)
            → (if p then Some (shaped x) else named (map entry d) (type_name a)) ≡ Some (shaped a)
        go later true e q f h = ap (λ y. Some (shaped y)) (apart x (first (same_area x x) (area_same x)) (same_equal (type_name x) (type_name a) e))
        go later false e true f h =
            let same : x ≡ a = area_equal x a f in
            let no : true ≡ false = sym (same_self (type_name a)) ∙ ap (λ y. same_word (type_name y) (type_name a)) (sym same) ∙ e in
            let no_ : ⊥ = cc in absurd no_
        go later false e false f h = later h

    -- ---- bases

    pub base_is : (a : Area) → base_for types a ≡ base_of names (written a)
    base_is (Stored held) = refl
    base_is (Array n element) = ap (λ x. base.Struct (array_name (place_of (arrays_among all) (Array n x)))) (sym (area_written structs element))
    base_is (Struct k) = go (slice_get structs k) refl
      where
        go : (o : Option StructType) → slice_get structs k ≡ o → base_for types (Struct k) ≡ base_of names (written (Struct k))
        go (Some s) e = ap (base_of names) (sym (struct_there core.structs.words structs k s valid.table e).is)
        go None e = ap (base_of names) (sym (struct_missing structs k (none_past structs k e)))

    -- ---- trees

    apart_in : (d more : Declared) (a : Area) → d ++ more ≡ all → IsTrue (is_declared d a) → Apart d a
    apart_in d more a e h b k n =
        names_differ b a (subst (λ x. IsTrue (is_declared x b)) e (declared_front d more b k)) (subst (λ x. IsTrue (is_declared x a)) e (declared_front d more a h)) n

    tree_found : (d more : Declared) (a : Area) → d ++ more ≡ all → Known structs words d a → base_tree (map entry d) (base_for types a) ≡ shaped a
    tree_found d more (Stored held) e k = refl
    tree_found d more (Array n element) e k = ap (or_empty (type_name (Array n element))) (entry_found d (Array n element) (apart_in d more (Array n element) e k) k)
    tree_found d more (Struct j) e k = ap (or_empty (type_name (Struct j))) (entry_found d (Struct j) (apart_in d more (Struct j) e k) k)

    row_is : (d more : Declared) → d ++ more ≡ all → (k : ℕ) (fs : List Field) (i : ℕ)
        → ((j : ℕ) (f : Field) → slice_get fs j ≡ Some f → Known structs words d f.area)
        → ((j : ℕ) (f : Field) → slice_get fs j ≡ Some f → names.member k (i + j) ≡ item_name f.name)
        → row_of (map entry d) (map (member_for types) fs) ≡ members names (fields_from i (trees_of structs) fs) k
    row_is d more e k [] i known named = refl
    row_is d more e k (f ∷ fs) i known named =
        let first : names.member k i ≡ item_name f.name = subst (λ n. names.member k n ≡ item_name f.name) (let z : i + 0 ≡ i = omega arith in z) (named 0 f refl) in
        let rest = row_is d more e k fs (suc i) (λ j x h. known (suc j) x h)
        (λ j x h. subst (λ n. names.member k n ≡ item_name x.name) (let z : i + suc j ≡ suc i + j = omega arith in z) (named (suc j) x h)) in
        ap (λ w. trees.Field w (base_tree (map entry d) (base_for types f.area)) (row_of (map entry d) (map (member_for types) fs))) (sym first)
        ∙ ap (λ x. trees.Field (names.member k i) x (row_of (map entry d) (map (member_for types) fs))) (tree_found d more f.area e (known 0 f refl))
        ∙ ap (trees.Field (names.member k i) (shaped f.area)) rest

    made_array : (d more : Declared) (n : ℕ) (element : Area) → d ++ more ≡ all → Known structs words d element → c.struct_of (map entry d) (struct_for types (Array n element)) ≡ shaped (Array n element)
    made_array d more n element e k =
        let w : Name = type_name (Array n element) in
        ap (λ x. trees.Struct w (trees.Field elements_name (trees.Many n x) trees.End)) (tree_found d more element e k)
        ∙ ap (λ x. trees.Struct (array_name (place_of (arrays_among all) (Array n x))) (trees.Field elements_name (trees.Many n (shaped element)) trees.End)) (sym (area_written structs element))

    made_struct : (d more : Declared) (k : ℕ) → d ++ more ≡ all → FieldsKnown structs words d k → c.struct_of (map entry d) (struct_for types (Struct k)) ≡ shaped (Struct k)
    made_struct d more k e p =
        let s : StructType = p.struct_type in
        let w : Name = type_name (Struct k) in
        let row : row_of (map entry d) (map (member_for types) s.fields) ≡ members names (fields_from 0 (trees_of structs) s.fields) k =
        row_is d more e k s.fields 0 p.fields (λ j f h. subst (λ n. names.member k n ≡ item_name f.name) (let z : j ≡ 0 + j = omega arith in z) (ap (λ o. field_name (slice_get (fields_of o) j)) p.found ∙ ap field_name h)) in
        ap (λ o. trees.Struct w (row_of (map entry d) (members_of types o))) p.found
        ∙ ap (trees.Struct w) row
        ∙ ap (shape names) (sym (struct_there core.structs.words structs k s valid.table p.found).is)

    made_entry : (d more : Declared) (a : Area) → d ++ more ≡ all → PartsKnown structs words d a → ◌≡◌ {A = Name × CTree} ((struct_for types a).name, c.struct_of (map entry d) (struct_for types a)) (entry a)
    made_entry d more (Stored held) e p = absurd p
    made_entry d more (Array n element) e p = ap (λ x. (type_name (Array n element), x)) (made_array d more n element e p)
    made_entry d more (Struct k) e p = ap (λ x. (type_name (Struct k), x)) (made_struct d more k e p)

    table_is : (d more : Declared) → Ordered structs words d more → d ++ more ≡ all → table (map entry d) (map (struct_for types) more) ≡ map entry (d ++ more)
    table_is d [] o e = ap (map entry) (sym (append-nil d))
    table_is d (a ∷ more) o e =
        let joined : (d ++ a ∷ []) ++ more ≡ d ++ a ∷ more = append_assoc d (a ∷ []) more in
        ap (λ x. table (map entry d ++ x ∷ []) (map (struct_for types) more)) (made_entry d (a ∷ more) a e o.0)
        ∙ ap (λ known. table known (map (struct_for types) more)) (sym (map-append entry d (a ∷ [])))
        ∙ table_is (d ++ a ∷ []) more o.1 (joined ∙ e)
        ∙ ap (map entry) joined

    -- a declared type is the C type of its area
    pub declared_is : (a : Area) → Known structs words all a → IsType names (map (struct_for types) all) (base_for types a) (written a)
    declared_is a k = ap (λ known. base_tree known (base_for types a)) (table_is [] all ordered refl) ∙ tree_found all [] a (append-nil all) k
