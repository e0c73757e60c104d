-- The areas of a table: a struct stands written out over all structs of the table, its fields and the elements of an array are parts of it and are
-- made of the table too, and zero is a value of each of their cells.
use Rattle.std.proofs.Common.{◌≡◌, ℕ, zero, suc, ◌+◌, ◌<◌, ◌≤◌, List, [], ◌∷◌, ◌++◌, length, slice_get, get_or, unwrap_or, take, drop, Option, Some, None, IsTrue, refl, sym, ◌∙◌, ap, subst, arith, length-append, take-append-drop, length-take-le, if◌then◌else◌}
use Rattle.std.specs.List.{list_all}
use Rattle.std.specs.Option.{option_map, option_and_then}
use Rattle.std.proofs.lemmas.Bool.{lt-ltb}
use Rattle.std.proofs.lemmas.List.{length-map}
use Rattle.std.proofs.lemmas.Option.{slice_get-map, slice_get_within, slice_get-get_or}
use Rattle.iv_words.specs.declared.IntKind.{IntKind}
use Rattle.type_trees.specs.Trees as trees
use Rattle.type_trees.specs.Trees.{scalars, scalars_row, part, part_row}
use Rattle.type_trees.proofs.Paths.{part_append}
use Rattle.area_types.specs.Syntax as types
use Rattle.area_types.specs.Syntax.{ValueType, Area, StructType}
use Rattle.area_types.specs.View.{struct_of}
use Rattle.area_types.specs.Tables.{Table, structs_of, written_out, is_table, is_length, is_made_of, is_area, is_small, is_field, has_index_lengths, fits_after, fit_after}
use Rattle.area_types.specs.Trees.{Written, tree_of, fields_from, fields_of, trees_from, trees_of}
use Rattle.area_types.specs.declared.structs.StructDef.{StructDef}
use Rattle.area_types.proofs.Truths.{both, also, is_below, below_is}
use Rattle.area_types.proofs.Written.{trees_kept, struct_found}
use Rattle.area_types.proofs.Sound.{fitting, length-trees_of}
use Rattle.core_tree.specs.Syntax.{ModuleCore}
use Rattle.core_tree.specs.Types.{is_core_area}
use Rattle.core_tree.specs.Environments.{struct_field}
use Rattle.core_meaning.specs.Areas.{filled}
use Rattle.region_soundness.specs.Scoped.{HeldFits}
use Rattle.region_soundness.proofs.Cells.{Gets, Zeros, filled_fits, zero_held, no_zeros, zeros_one, zeros_both, zeros_repeated}

abbrev pub TableFits : Table → Type 0
TableFits table = IsTrue (is_table (structs_of table) table.words)

-- ---- with more structs an area is written out in the same way

trees_join : (ss more : List StructType) (built : List Written) → trees_from built (ss ++ more) ≡ trees_from (trees_from built ss) more
trees_join [] more built = refl
trees_join (s ∷ ss) more built = trees_join ss more (built ++ trees.Struct (length built) (fields_of built s.fields) ∷ [])

kept_at : (ss more : List StructType) (k : ℕ) (a : Written) → slice_get (trees_of ss) k ≡ Some a → slice_get (trees_of (ss ++ more)) k ≡ Some a
kept_at ss more k a h = ap (λ ts. slice_get ts k) (trees_join ss more []) ∙ trees_kept more (trees_of ss) k a h

written_more : (ss more : List StructType) (words : ℕ) (a : Area) → IsTrue (is_made_of (length ss) words a) → tree_of (trees_of (ss ++ more)) a ≡ tree_of (trees_of ss) a
written_more ss more words (types.Stored t) h = refl
written_more ss more words (types.Array n a) h = ap (trees.Many n) (written_more ss more words a (both (is_length n) (is_made_of (length ss) words a) h).1)
written_more ss more words (types.Struct k) h =
    let there : k < length (trees_of ss) = omega (arith, is_below k (length ss) h, length-trees_of ss) in
    let e = slice_get-get_or (trees_of ss) k (trees.Struct k trees.End) there in
    ap (λ o. unwrap_or o (trees.Struct k trees.End)) (kept_at ss more k (get_or (trees_of ss) k (trees.Struct k trees.End)) e ∙ sym e)

made_within : (s t w : ℕ) (a : Area) → s ≤ t → IsTrue (is_made_of s w a) → IsTrue (is_made_of t w a)
made_within s t w (types.Stored held) le h = h
made_within s t w (types.Array n x) le h = let p = both (is_length n) (is_made_of s w x) h in also (is_length n) (is_made_of t w x) p.0 (made_within s t w x le p.1)
made_within s t w (types.Struct k) le h = below_is k t (omega (arith, is_below k s h, le))

fields_within : (s t w : ℕ) (fs : List types.Field) → s ≤ t → IsTrue (list_all (is_field s w) fs) → IsTrue (list_all (is_field t w) fs)
fields_within s t w [] le h = refl
fields_within s t w (f ∷ fs) le h =
    let p = both (is_field s w f) (list_all (is_field s w) fs) h in
    let q = both (is_made_of s w f.area) (has_index_lengths f.area) p.0 in
    also (is_field t w f) (list_all (is_field t w) fs) (also (is_made_of t w f.area) (has_index_lengths f.area) (made_within s t w f.area le q.0) q.1) (fields_within s t w fs le p.1)

fields_more : (ss more : List StructType) (w i : ℕ) (fs : List types.Field) → IsTrue (list_all (is_field (length ss) w) fs) → fields_from i (trees_of (ss ++ more)) fs ≡ fields_from i (trees_of ss) fs
fields_more ss more w i [] h = refl
fields_more ss more w i (f ∷ fs) h =
    let p = both (is_field (length ss) w f) (list_all (is_field (length ss) w) fs) h in
    let q = both (is_made_of (length ss) w f.area) (has_index_lengths f.area) p.0 in
    ap (λ a. trees.Field i a (fields_from (suc i) (trees_of (ss ++ more)) fs)) (written_more ss more w f.area q.0) ∙ ap (trees.Field i (tree_of (trees_of ss) f.area)) (fields_more ss more w (suc i) fs p.1)

-- ---- a struct

fields_at : (words : List IntKind) (more done : List StructType) (k : ℕ) (s : StructType) → IsTrue (fit_after done words more) → slice_get more k ≡ Some s → IsTrue (list_all (is_field (length done + k) (length words)) s.fields)
fields_at words [] done k s h e = let no : ⊥ = cc in absurd no
fields_at words (x ∷ more) done zero s h e =
    let p = both (fits_after done words x) (fit_after (done ++ x ∷ []) words more) h in
    let same : x ≡ s = cc in
    let n : length done ≡ length done + 0 = omega arith in
    subst (λ m. IsTrue (list_all (is_field m (length words)) s.fields)) n (subst (λ (y : StructType). IsTrue (list_all (is_field (length done) (length words)) y.fields)) same (fitting done words x p.0).fields)
fields_at words (x ∷ more) done (suc k) s h e =
    let p = both (fits_after done words x) (fit_after (done ++ x ∷ []) words more) h in
    let n : length (done ++ x ∷ []) + k ≡ length done + suc k = omega (arith, length-append done (x ∷ [])) in
    subst (λ m. IsTrue (list_all (is_field m (length words)) s.fields)) n (fields_at words more (done ++ x ∷ []) k s p.1 e)

-- a struct, with its fields over all structs of the table
pub record StructThere (words : List IntKind) (ss : List StructType) (k : ℕ) (s : StructType) : Type 0 where
  pub fields : IsTrue (list_all (is_field (length ss) (length words)) s.fields)
  pub is : tree_of (trees_of ss) (types.Struct k) ≡ trees.Struct k (fields_of (trees_of ss) s.fields)

pub struct_there : (words : List IntKind) (ss : List StructType) (k : ℕ) (s : StructType) → IsTrue (fit_after [] words ss) → slice_get ss k ≡ Some s → StructThere words ss k s
struct_there words ss k s h e =
    let within : k < length ss = slice_get_within ss k s e in
    let front : length (take k ss) ≡ k = length-take-le k ss (omega (arith, within)) in
    let n : 0 + k ≡ length (take k ss) = omega (arith, front) in
    let own : IsTrue (list_all (is_field (length (take k ss)) (length words)) s.fields) = subst (λ m. IsTrue (list_all (is_field m (length words)) s.fields)) n (fields_at words ss [] k s h e) in
    let same : fields_from 0 (trees_of (take k ss ++ drop k ss)) s.fields ≡ fields_from 0 (trees_of (take k ss)) s.fields = fields_more (take k ss) (drop k ss) (length words) 0 s.fields own in
    record {
      fields = fields_within (length (take k ss)) (length ss) (length words) s.fields (omega (arith, front, within)) own;
      is = struct_found ss k s e ∙ ap (trees.Struct k) (sym same ∙ ap (λ xs. fields_from 0 (trees_of xs) s.fields) (take-append-drop k ss));
    }

-- the struct and the field of these numbers, of this area
pub record StructField (table : Table) (number field : ℕ) (area : Area) : Type 0 where
  pub struct_type : StructType
  pub found : slice_get (structs_of table) number ≡ Some struct_type
  pub held : types.Field
  pub there : slice_get struct_type.fields field ≡ Some held
  pub area_is : held.area ≡ area

abbrev fields_area : StructType → ℕ → Option Area
fields_area s field = option_map (λ f. f.area) (slice_get s.fields field)

field_found : (table : Table) (number field : ℕ) (area : Area) (s : StructType) → slice_get (structs_of table) number ≡ Some s → (o : Option types.Field) → slice_get s.fields field ≡ o → option_map (λ f. f.area) o ≡ Some area → StructField table number field area
field_found table number field area s e None q h = let no : ⊥ = cc in absurd no
field_found table number field area s e (Some f) q h = record { struct_type = s; found = e; held = f; there = q; area_is = (let same : f.area ≡ area = cc in same) }

struct_found_in : (table : Table) (number field : ℕ) (area : Area) (o : Option StructDef) → slice_get table.structs number ≡ o → option_and_then (λ d. fields_area (struct_of d) field) o ≡ Some area → StructField table number field area
struct_found_in table number field area None e h = let no : ⊥ = cc in absurd no
struct_found_in table number field area (Some d) e h =
    field_found table number field area (struct_of d) (slice_get-map struct_of table.structs number ∙ ap (option_map struct_of) e) (slice_get (struct_of d).fields field) refl h

pub struct_field_is : (core : ModuleCore) (number field : ℕ) (area : Area) → struct_field core number field ≡ Some area → StructField core.structs number field area
struct_field_is core number field area h = struct_found_in core.structs number field area (slice_get core.structs.structs number) refl h

-- ---- parts

row_part : (built : List Written) (i : ℕ) (fs : List types.Field) (k : ℕ) (f : types.Field) → slice_get fs k ≡ Some f → part_row (fields_from i built fs) k [] ≡ Some (tree_of built f.area)
row_part built i [] k f e = let no : ⊥ = cc in absurd no
row_part built i (g ∷ fs) zero f e = let same : g ≡ f = cc in ap (λ (x : types.Field). Some (tree_of built x.area)) same
row_part built i (g ∷ fs) (suc k) f e = row_part built (suc i) fs k f e

pub field_part : (core : ModuleCore) → TableFits core.structs → (number field : ℕ) (area : Area) → struct_field core number field ≡ Some area
    → (w : Written) (path : List ℕ) → part w path ≡ Some (written_out core.structs (types.Struct number)) → part w (path ++ field ∷ []) ≡ Some (written_out core.structs area)
field_part core table number field area h w path at =
    let f = struct_field_is core number field area h in
    let there = struct_there core.structs.words (structs_of core.structs) number f.struct_type table f.found in
    part_append w path (field ∷ []) (written_out core.structs (types.Struct number)) at
    ∙ ap (λ a. part a (field ∷ [])) there.is
    ∙ row_part (trees_of (structs_of core.structs)) 0 f.struct_type.fields field f.held f.there
    ∙ ap (λ a. Some (written_out core.structs a)) f.area_is

pub element_part : (table : Table) (n i : ℕ) (element : Area) → i < n → (w : Written) (path : List ℕ) → part w path ≡ Some (written_out table (types.Array n element)) → part w (path ++ i ∷ []) ≡ Some (written_out table element)
element_part table n i element low w path at =
    part_append w path (i ∷ []) (written_out table (types.Array n element)) at ∙ ap (λ b. if b then Some (written_out table element) else None) (lt-ltb i n low)

-- ---- what areas are made of

-- the area is made of what the table has, and each index in it has a length
pub record Made (table : Table) (area : Area) : Type 0 where
  pub of_structs : IsTrue (is_made_of (length (structs_of table)) (length table.words) area)
  pub lengths : IsTrue (has_index_lengths area)

pub core_area_made : (table : Table) (area : Area) → IsTrue (is_core_area table area) → Made table area
core_area_made table area h =
    let p = both (is_area table area) (has_index_lengths area) h in
    let q = both (is_made_of (length table.structs) (length table.words) area) (is_small table.words (written_out table area)) p.0 in
    record { of_structs = subst (λ n. IsTrue (is_made_of n (length table.words) area)) (sym (length-map table.structs struct_of)) q.0; lengths = p.1 }

pub element_made : (table : Table) (n : ℕ) (element : Area) → Made table (types.Array n element) → Made table element
element_made table n element m = record { of_structs = (both (is_length n) (is_made_of (length (structs_of table)) (length table.words) element) m.of_structs).1; lengths = m.lengths }

pub field_is_made : (table : Table) (f : types.Field) → IsTrue (is_field (length (structs_of table)) (length table.words) f) → Made table f.area
field_is_made table f h = let p = both (is_made_of (length (structs_of table)) (length table.words) f.area) (has_index_lengths f.area) h in record { of_structs = p.0; lengths = p.1 }

field_among : (s w : ℕ) (fs : List types.Field) (k : ℕ) (f : types.Field) → IsTrue (list_all (is_field s w) fs) → slice_get fs k ≡ Some f → IsTrue (is_field s w f)
field_among s w [] k f h e = let no : ⊥ = cc in absurd no
field_among s w (g ∷ fs) zero f h e = let same : g ≡ f = cc in subst (λ x. IsTrue (is_field s w x)) same (both (is_field s w g) (list_all (is_field s w) fs) h).0
field_among s w (g ∷ fs) (suc k) f h e = field_among s w fs k f (both (is_field s w g) (list_all (is_field s w) fs) h).1 e

-- a field of each struct of the table
pub field_made : (core : ModuleCore) → TableFits core.structs → (number field : ℕ) (area : Area) → struct_field core number field ≡ Some area → Made core.structs area
field_made core table number field area h =
    let f = struct_field_is core number field area h in
    let there = struct_there core.structs.words (structs_of core.structs) number f.struct_type table f.found in
    subst (Made core.structs) f.area_is (field_is_made core.structs f.held (field_among (length (structs_of core.structs)) (length core.structs.words) f.struct_type.fields field f.held there.fields f.there))

-- the struct of a number that an area has
pub made_struct : (table : Table) → TableFits table → (number : ℕ) → Made table (types.Struct number) → (s : StructType) × (slice_get (structs_of table) number ≡ Some s) × StructThere table.words (structs_of table) number s
made_struct table fits number m =
    let low : number < length (structs_of table) = is_below number (length (structs_of table)) m.of_structs in
    let blank : StructType = record { name = []; fields = [] } in
    let e = slice_get-get_or (structs_of table) number blank low in
    (get_or (structs_of table) number blank, e, struct_there table.words (structs_of table) number (get_or (structs_of table) number blank) fits e)

-- ---- zeros

abbrev EachZero : Table → List Written → Type 0
EachZero table built = (k : ℕ) (a : Written) → slice_get built k ≡ Some a → Zeros table (scalars a)

module _ (table : Table) (built : List Written) (each : EachZero table built) where
  zero_tree : (a : Area) → IsTrue (is_made_of (length built) (length table.words) a) → IsTrue (has_index_lengths a) → Zeros table (scalars (tree_of built a))
  zero_tree (types.Stored t) h k = zeros_one table t (zero_held table t h k)
  zero_tree (types.Array n a) h k = zeros_repeated table n (scalars (tree_of built a)) (zero_tree a (both (is_length n) (is_made_of (length built) (length table.words) a) h).1 k)
  zero_tree (types.Struct j) h k =
      let e = slice_get-get_or built j (trees.Struct j trees.End) (is_below j (length built) h) in
      subst (λ x. Zeros table (scalars x)) (sym (ap (λ o. unwrap_or o (trees.Struct j trees.End)) e)) (each j (get_or built j (trees.Struct j trees.End)) e)

  zero_row : (i : ℕ) (fs : List types.Field) → IsTrue (list_all (is_field (length built) (length table.words)) fs) → Zeros table (scalars_row (fields_from i built fs))
  zero_row i [] h = no_zeros table
  zero_row i (f ∷ fs) h =
      let p = both (is_field (length built) (length table.words) f) (list_all (is_field (length built) (length table.words)) fs) h in
      let q = both (is_made_of (length built) (length table.words) f.area) (has_index_lengths f.area) p.0 in
      zeros_both table (scalars (tree_of built f.area)) (scalars_row (fields_from (suc i) built fs)) (zero_tree f.area q.0 q.1) (zero_row (suc i) fs p.1)

each_last : (table : Table) (built : List Written) (a : Written) → EachZero table built → Zeros table (scalars a) → EachZero table (built ++ a ∷ [])
each_last table [] a h z zero b e = let same : a ≡ b = cc in subst (λ x. Zeros table (scalars x)) same z
each_last table [] a h z (suc k) b e = let no : ⊥ = cc in absurd no
each_last table (x ∷ built) a h z zero b e = h zero b e
each_last table (x ∷ built) a h z (suc k) b e = each_last table built a (λ i c q. h (suc i) c q) z k b e

-- the trees of the table's structs
zero_from : (table : Table) (more done : List StructType) (built : List Written) → length done ≡ length built → EachZero table built → IsTrue (fit_after done table.words more) → EachZero table (trees_from built more)
zero_from table [] done built n h k = h
zero_from table (s ∷ more) done built n h k =
    let p = both (fits_after done table.words s) (fit_after (done ++ s ∷ []) table.words more) k in
    let fields : IsTrue (list_all (is_field (length built) (length table.words)) s.fields) = subst (λ m. IsTrue (list_all (is_field m (length table.words)) s.fields)) n (fitting done table.words s p.0).fields in
    let here : Written = trees.Struct (length built) (fields_of built s.fields) in
    zero_from table more (done ++ s ∷ []) (built ++ here ∷ []) (omega (arith, n, length-append done (s ∷ []), length-append built (here ∷ [])))
    (each_last table built here h (zero_row table built h 0 s.fields fields)) p.1

no_trees : (table : Table) → EachZero table []
no_trees table k a e = let no : ⊥ = cc in absurd no

pub made_zeros : (table : Table) → TableFits table → (area : Area) → Made table area → Zeros table (scalars (written_out table area))
made_zeros table fits area m =
    zero_tree table (trees_of (structs_of table)) (zero_from table (structs_of table) [] [] refl (no_trees table) fits) area
    (subst (λ n. IsTrue (is_made_of n (length table.words) area)) (sym (length-trees_of (structs_of table))) m.of_structs) m.lengths

pub gets_zeros : (table : Table) → TableFits table → (area : Area) → IsTrue (is_core_area table area) → Gets table (scalars (written_out table area)) []
gets_zeros table fits area h = made_zeros table fits area (core_area_made table area h)

pub made_zeros_fit : (table : Table) → TableFits table → (area : Area) → Made table area → HeldFits table (written_out table area) (filled (written_out table area) [])
made_zeros_fit table fits area m = filled_fits table (written_out table area) [] (made_zeros table fits area m)

pub zero_fits : (table : Table) → TableFits table → (area : Area) → IsTrue (is_core_area table area) → HeldFits table (written_out table area) (filled (written_out table area) [])
zero_fits table fits area h = made_zeros_fit table fits area (core_area_made table area h)
