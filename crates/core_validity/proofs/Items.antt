-- The items of a module that stands: each is well typed in the core, and then known to those that follow.
use Rattle.std.proofs.Common.{◌≡◌, ◌≢◌, ℕ, suc, ◌+◌, ◌<◌, ◌≤◌, List, [], ◌∷◌, ◌++◌, map, length, Option, Some, None, option_map, Bool, true, false, not, cond, ◌&&◌, ◌||◌, All, IsTrue, filter, ℤ, Ok, Err, eq-eqb, nat_eq, refl, sym, ◌∙◌, ap, subst, arith, length-append, append_assoc, append-nil}
use Rattle.std.specs.List.{list_all}
use Rattle.std.specs.Prelude.{nat_lt}
use Rattle.std.proofs.lemmas.List.{length-map}
use Rattle.std.proofs.lemmas.List.Elements.{All-head, All-tail, All-cons, All-nil, All-push}
use Rattle.iv_words.specs.declared.IntKind.{IntKind}
use Rattle.ivory_tree.specs.Syntax as syntax
use Rattle.ivory_tree.specs.Syntax.{Word, FieldSyntax, StructSyntax, GlobalSyntax, HeaderSyntax, ProcSyntax, InitSyntax, ItemSyntax}
use Rattle.ivory_tree.specs.Nodes.{item_node, nodes_from, nodes_count}
use Rattle.ivory_tree.specs.Formed.{FormedBitField, FormedField, FormedItem}
use Rattle.ivory_tree.specs.declared.items.BitField.{BitField}
use Rattle.ivory_tree.specs.declared.items.BitsItem.{BitsItem}
use Rattle.type_trees.specs.Trees as trees
use Rattle.type_trees.specs.Trees.{scalars, count}
use Rattle.area_types.specs.Syntax as types
use Rattle.area_types.specs.Syntax.{ValueType, Area, StructType}
use Rattle.area_types.specs.Tables.{Table, structs_of, is_made_of, is_field, has_index_lengths, is_small, is_number, fits_after, is_table, written_out}
use Rattle.area_types.specs.Trees.{fields_of, trees_of}
use Rattle.area_types.proofs.Truths.{also, below_is}
use Rattle.area_types.proofs.Sound.{fit_last}
use Rattle.area_types.proofs.Words.{table_more}
use Rattle.bit_data.specs.Layouts.{has_its_bit, is_filled, first_fault, faultless, laid_out, IsLayout}
use Rattle.bit_data.specs.declared.LayoutFault.{LayoutFault}
use Rattle.bit_data.specs.declared.LayoutFault.TheVariants.{WidthSum}
use Rattle.bit_data.specs.declared.BitLayout.{BitLayout}
use Rattle.bit_data.specs.declared.FieldWish.{FieldWish}
use Rattle.bit_data.proofs.Placed.{laid_is, stands}
use Rattle.core_tree.specs.Syntax.{AreaCore, ImportCore, ProcCore, ModuleCore}
use Rattle.core_tree.specs.Environments.{type_of_plain}
use Rattle.core_tree.specs.Types.{is_core_area}
use Rattle.core_tree.specs.TypedItems.{ValuesFit, AreaTyped, ImportTyped, ProcTyped}
use Rattle.source_types.specs.Environments.{Earlier, Callee, words}
use Rattle.source_types.specs.Items.{after}
use Rattle.source_types.specs.Written.{struct_in, global_in, callee_in}
use Rattle.typing_rules.specs.Areas.{written}
use Rattle.typing_rules.specs.Environments.{Env, is_import, is_procedure, of_kind}
use Rattle.typing_rules.specs.Items as item
use Rattle.typing_rules.specs.Items.{wish_of, StandsBits, Fields, StandsStruct, FirstValues, StandsArea, StandsImport, StandsProc}
use Rattle.typing_rules.specs.Initializers.{zeros, cell_values}
use Rattle.typing_rules.specs.WellTyped as rule
use Rattle.typing_rules.specs.WellTyped.{outside, at_header, StandItems}
use Rattle.typing_laws.proofs.Callees.{Determined, determined_last, header_determined}
use Rattle.typing_laws.proofs.CleanItems.{fields_there}
use Rattle.typing_laws.proofs.Lookups.{map_last}
use Rattle.core_validity.specs.Laws.{most_nodes}
use Rattle.core_validity.proofs.Lists.{Begins, begins_at, Front, front_next, front_more}
use Rattle.core_validity.proofs.Types.{area_parts}
use Rattle.core_validity.proofs.Known.{IsLaid, HasAreas, IsArea, IsImport, IsProc, Known, IsHeader}
use Rattle.core_validity.proofs.Named.{Grows, made_of, names_areas, written_same}
use Rattle.core_validity.proofs.FirstValues.{Cells, CellArea, zeros_in_area, cells_fit}
use Rattle.core_validity.proofs.Headers.{header_typed, header_is, plain_back, params_given}
use Rattle.core_validity.proofs.Procedures.{param_types_are, params_long, proc_typed}

-- ---- what is declared only grows

begins_same : {A : Type 0} (xs : List A) → Begins A xs xs
begins_same xs = record { rest = []; is = sym (append-nil xs) }

begins_push : {A : Type 0} (xs : List A) (x : A) (ys : List A) → Begins A (xs ++ x ∷ []) ys → Begins A xs ys
begins_push xs x ys b = record { rest = x ∷ b.rest; is = b.is ∙ append_assoc xs (x ∷ []) b.rest }

record Declares (earlier end : Earlier) : Type 0 where
  structs_begin : Begins StructType earlier.structs end.structs
  words_begin : Begins IntKind (words earlier) (words end)

items_declare : {names : List Word} {earlier end : Earlier} {items : List ItemSyntax} {bs : List BitLayout} {as' : List AreaCore} {is : List ImportCore} {ps : List ProcCore} → StandItems names earlier items end bs as' is ps → Declares earlier end
items_declare (rule.no_items {earlier = earlier}) = record { structs_begin = begins_same earlier.structs; words_begin = begins_same (words earlier) }
items_declare (rule.bits {earlier = earlier} {end = end} {i = i} h more) =
    let d = items_declare more in
    record {
      structs_begin = d.structs_begin;
      words_begin = begins_push (words earlier) i.word (words end) (subst (λ ws. Begins IntKind ws (words end)) (map_last (λ (x : BitsItem). x.word) earlier.bits i) d.words_begin);
    }
items_declare (rule.struct {earlier = earlier} {end = end} {i = i} h more) = let d = items_declare more in record { structs_begin = begins_push earlier.structs (struct_in earlier i) end.structs d.structs_begin; words_begin = d.words_begin }
items_declare (rule.area h more) = let d = items_declare more in record { structs_begin = d.structs_begin; words_begin = d.words_begin }
items_declare (rule.import h more) = let d = items_declare more in record { structs_begin = d.structs_begin; words_begin = d.words_begin }
items_declare (rule.procedure h more) = let d = items_declare more in record { structs_begin = d.structs_begin; words_begin = d.words_begin }

-- ---- bit data

laid_word : (word : IntKind) (wishes : List FieldWish) (l : BitLayout) → laid_out word wishes ≡ Ok l → l.word ≡ word
laid_word word wishes l h = go (is_filled word wishes) (first_fault [] wishes) h
  where
    go : (b : Bool) (fault : Option LayoutFault) → cond b (faultless fault word wishes) (Err WidthSum) ≡ Ok l → l.word ≡ word
    go true None e = cc
    go true (Some x) e = let no : ⊥ = cc in absurd no
    go false fault e = let no : ⊥ = cc in absurd no

truths_are : (fields : List BitField) → All FormedBitField fields → IsTrue (list_all has_its_bit (map wish_of fields))
truths_are [] h = refl
truths_are (f ∷ fields) h = also (has_its_bit (wish_of f)) (list_all has_its_bit (map wish_of fields)) (one_bit f.truth f.width (All-head FormedBitField f fields h)) (truths_are fields (All-tail FormedBitField f fields h))
  where
    one_bit : (b : Bool) (w : ℕ) → (IsTrue b → w ≡ 1) → IsTrue (not b || nat_eq w 1)
    one_bit false w k = refl
    one_bit true w k = eq-eqb w 1 (k refl)

layout_named : (l : BitLayout) (name : List ℕ) → IsLayout (record l { name = name }) → IsLayout l
layout_named l name h = record { truths = h.truths; laid = h.laid }

pub bits_laid : (earlier : Earlier) (i : BitsItem) (l : BitLayout) → StandsBits earlier i l → IsLaid i l
bits_laid earlier i l s =
    let word : l.word ≡ i.word = laid_word i.word (map wish_of i.fields) (record l { name = [] }) s.laid in
    let p = stands (record l { name = [] }) (map wish_of i.fields) (ap (λ k. laid_out k (map wish_of i.fields)) word ∙ s.laid) in
    record { word = word; fields = p.fields }

bits_layout : (earlier : Earlier) (i : BitsItem) (l : BitLayout) → StandsBits earlier i l → All FormedBitField i.fields → IsLayout l
bits_layout earlier i l s f = layout_named l [] (laid_is i.word (map wish_of i.fields) (record l { name = [] }) (truths_are i.fields f) s.laid)

-- ---- structs

fields_made : {earlier : Earlier} {before : List Word} {texts : List FieldSyntax} {fields : List types.Field} → Fields earlier before texts fields → All FormedField texts → IsTrue (list_all (is_field (length earlier.structs) (length (words earlier))) fields)
fields_made item.no_fields f = refl
fields_made {earlier = earlier} (item.more_fields {f = x} {fields = texts} {area = area} {rest = rest} fresh names more) f =
    let m = made_of earlier x.area area (All-head FormedField x texts f) names.exists in
    also (is_made_of (length earlier.structs) (length (words earlier)) area && has_index_lengths area) (list_all (is_field (length earlier.structs) (length (words earlier))) rest)
    (also (is_made_of (length earlier.structs) (length (words earlier)) area) (has_index_lengths area) m.of_earlier m.lengths) (fields_made more (All-tail FormedField x texts f))

fields_areas : {earlier : Earlier} {before : List Word} {texts : List FieldSyntax} {fields : List types.Field} → Fields earlier before texts fields → (table : Table) → Grows table earlier → All FormedField texts
    → All (λ (f : types.Field). IsTrue (is_core_area table f.area)) fields
fields_areas item.no_fields table g f = All-nil (λ (x : types.Field). IsTrue (is_core_area table x.area))
fields_areas {earlier = earlier} (item.more_fields {f = x} {fields = texts} {area = area} {rest = rest} fresh names more) table g f =
    All-cons (λ (y : types.Field). IsTrue (is_core_area table y.area)) (record { name = x.name.text; area = area }) rest (names_areas table earlier g x.area area (All-head FormedField x texts f) names)
    (fields_areas more table g (All-tail FormedField x texts f))

has_fields : {earlier : Earlier} {before : List Word} {texts : List FieldSyntax} {fields : List types.Field} → Fields earlier before texts fields → texts ≢ [] → IsTrue (nat_lt 0 (length fields))
has_fields item.no_fields h = absurd (h refl)
has_fields (item.more_fields {rest = rest} fresh names more) h = below_is 0 (suc (length rest)) (omega arith)

-- the struct that is declared
pub struct_is : (earlier : Earlier) (i : StructSyntax) (s : StandsStruct earlier i) → struct_in earlier i ≡ record { name = i.name.text; fields = s.fields }
struct_is earlier i s = ap (λ (fs : List types.Field). let t : StructType = record { name = i.name.text; fields = fs } in t) (fields_there s.stand).1

struct_fits : (earlier : Earlier) (i : StructSyntax) (s : StandsStruct earlier i) → FormedItem (syntax.Struct i) → length earlier.structs < most_nodes → IsTrue (fits_after earlier.structs (words earlier) (record { name = i.name.text; fields = s.fields }))
struct_fits earlier i s f few =
    let some : Bool = nat_lt 0 (length s.fields) in
    let known : Bool = list_all (is_field (length earlier.structs) (length (words earlier))) s.fields in
    let small : Bool = is_small (words earlier) (trees.Struct (length earlier.structs) (fields_of (trees_of earlier.structs) s.fields)) in
    also (some && known && small) (is_number (length earlier.structs))
    (also (some && known) small (also some known (has_fields s.stand f.0) (fields_made s.stand f.1)) s.small)
    (below_is (length earlier.structs) 4_294_967_296 (omega (arith, few)))

-- ---- areas

cell_area : (table : Table) (a : Area) → IsTrue (is_core_area table a) → CellArea table (structs_of table) a
cell_area table a h =
    let p = area_parts table a h in
    record { of_structs = subst (λ n. IsTrue (is_made_of n (length table.words) a)) (sym (length-map table.structs _)) p.of_table; lengths = p.lengths }

values_fit : {env : Env} {area : Area} {i : Option InitSyntax} {vs : List ℤ} → FirstValues env area i vs → (table : Table) → Cells table (structs_of table) env → IsTrue (is_core_area table area) → written_out table area ≡ written env.earlier area
    → ValuesFit table (scalars (written_out table area)) vs
values_fit {env = env} {area = area} item.zero table cells h e =
    subst (λ w. ValuesFit table (scalars (written_out table area)) (zeros (count w))) e (zeros_in_area table (structs_of table) area cells.fits (cell_area table area h))
values_fit {env = env} {area = area} (item.given {c = c} constants fill) table cells h e =
    subst (λ w. ValuesFit table (scalars (written_out table area)) (cell_values w c)) e (cells_fit fill constants table (structs_of table) cells (cell_area table area h))

area_typed : (m : ModuleCore) (names : List Word) (earlier : Earlier) (i : GlobalSyntax) (core : AreaCore) → IsTrue (is_table (structs_of m.structs) m.structs.words) → Grows m.structs earlier → FormedItem (syntax.Global i)
    → StandsArea (outside names earlier) i core → AreaTyped m core
area_typed m names earlier i core table g f s =
    let there = names_areas m.structs earlier g i.area core.area f.0 s.area in
    record {
      area_is = there;
      first = values_fit s.first m.structs
          (record { fits = table; words_begin = g.words_begin; structs_are = λ k st e. begins_at earlier.structs (structs_of m.structs) k st g.structs_begin e }) there
          (written_same m.structs earlier i.area core.area g f.0 s.area.exists);
    }

-- ---- imports

import_typed : (m : ModuleCore) (names : List Word) (earlier : Earlier) (h : HeaderSyntax) (core : ImportCore) → Grows m.structs earlier → FormedItem (syntax.Import h) → StandsImport (at_header names earlier h) h core → ImportTyped m core
import_typed m names earlier h core g f s =
    record { params = (header_typed m.structs names earlier h core.params s.result g f s.header).params; given = params_given s.header.params_stand m.structs g f.0 s.params_plain }

import_is : (m : ModuleCore) (names : List Word) (earlier : Earlier) (h : HeaderSyntax) (core : ImportCore) → Grows m.structs earlier → FormedItem (syntax.Import h) → StandsImport (at_header names earlier h) h core → IsImport m.structs (callee_in earlier true h) core
import_is m names earlier h core g f s =
    let t = header_typed m.structs names earlier h core.params s.result g f s.header in
    let back : s.result ≡ option_map type_of_plain core.result = sym (plain_back s.result s.result_plain) ∙ ap (option_map type_of_plain) (sym s.gives) in
    subst (λ r. IsHeader m.structs (callee_in earlier true h) (record { params = core.params; result = r })) back (header_is m.structs names earlier true h core.params s.result s.header t)

proc_is : (m : ModuleCore) (names : List Word) (earlier : Earlier) (p : ProcSyntax) (core : ProcCore) → Grows m.structs earlier → FormedItem (syntax.Procedure p) → StandsProc (at_header names earlier p.header) p core → IsProc m.structs (callee_in earlier false p.header) core
proc_is m names earlier p core g f s =
    let t = header_typed m.structs names earlier p.header s.types core.result g f.0 s.header in
    let same : s.types ≡ map (λ x. x.ty) core.params = sym (ap (map (λ x. x.ty)) s.params ∙ param_types_are p.header.params s.types (params_long s.header.params_stand)) in
    subst (λ ts. IsHeader m.structs (callee_in earlier false p.header) (record { params = ts; result = core.result })) same (header_is m.structs names earlier false p.header s.types core.result s.header t)

-- ---- lists of callees

kept_last : {A : Type 0} (f : A → Bool) (xs : List A) (x : A) → filter f (xs ++ x ∷ []) ≡ filter f xs ++ cond (f x) (x ∷ []) []
kept_last f [] x = refl
kept_last f (y ∷ xs) x = go (kept_last f xs x) (f y)
  where
    go : filter f (xs ++ x ∷ []) ≡ filter f xs ++ cond (f x) (x ∷ []) [] → (b : Bool) → cond b (y ∷ filter f (xs ++ x ∷ [])) (filter f (xs ++ x ∷ [])) ≡ cond b (y ∷ filter f xs) (filter f xs) ++ cond (f x) (x ∷ []) []
    go ih true = ap (λ zs. y ∷ zs) ih
    go ih false = ih

same_last : {A : Type 0} (f : A → Bool) (xs : List A) (x : A) → f x ≡ true → filter f (xs ++ x ∷ []) ≡ filter f xs ++ x ∷ []
same_last f xs x h = kept_last f xs x ∙ ap (λ b. filter f xs ++ cond b (x ∷ []) []) h

none_last : {A : Type 0} (f : A → Bool) (xs : List A) (x : A) → f x ≡ false → filter f (xs ++ x ∷ []) ≡ filter f xs
none_last f xs x h = kept_last f xs x ∙ ap (λ b. filter f xs ++ cond b (x ∷ []) []) h ∙ append-nil (filter f xs)

-- ---- the table so far

-- the structs so far and the nodes to come have numbers
abbrev Few : Earlier → List ItemSyntax → Type 0
Few earlier items = length earlier.structs + nodes_count (nodes_from (map item_node items)) ≤ most_nodes

few_later : (earlier : Earlier) (i : ItemSyntax) (items : List ItemSyntax) → Few earlier (i ∷ items) → length earlier.structs + nodes_count (nodes_from (map item_node items)) ≤ most_nodes
few_later earlier i items h = omega (arith, h)

few_struct : (earlier : Earlier) (i : StructSyntax) (items : List ItemSyntax) → Few earlier (syntax.Struct i ∷ items) → length earlier.structs < most_nodes
few_struct earlier i items h = omega (arith, h)

few_after : (earlier : Earlier) (i : StructSyntax) (items : List ItemSyntax) → Few earlier (syntax.Struct i ∷ items) → Few (after earlier (syntax.Struct i)) items
few_after earlier i items h = omega (arith, h, length-append earlier.structs (struct_in earlier i ∷ []))

bits_table : (earlier : Earlier) (i : BitsItem) → IsTrue (is_table earlier.structs (words earlier)) → IsTrue (is_table earlier.structs (words (after earlier (syntax.BitsData i))))
bits_table earlier i h = subst (λ ws. IsTrue (is_table earlier.structs ws)) (sym (map_last (λ (x : BitsItem). x.word) earlier.bits i)) (table_more (words earlier) (i.word ∷ []) earlier.structs h)

struct_table : (earlier : Earlier) (i : StructSyntax) → StandsStruct earlier i → FormedItem (syntax.Struct i) → length earlier.structs < most_nodes → IsTrue (is_table earlier.structs (words earlier)) → IsTrue (is_table (after earlier (syntax.Struct i)).structs (words earlier))
struct_table earlier i s f few h =
    subst (λ st. IsTrue (is_table (earlier.structs ++ st ∷ []) (words earlier))) (sym (struct_is earlier i s)) (fit_last earlier.structs [] (words earlier) (record { name = i.name.text; fields = s.fields }) h (struct_fits earlier i s f few))

-- the table at the end
pub items_table : {names : List Word} {earlier end : Earlier} {items : List ItemSyntax} {bs : List BitLayout} {as' : List AreaCore} {is : List ImportCore} {ps : List ProcCore} → StandItems names earlier items end bs as' is ps → All FormedItem items → Few earlier items
    → IsTrue (is_table earlier.structs (words earlier)) → IsTrue (is_table end.structs (words end))
items_table rule.no_items f few h = h
items_table (rule.bits {earlier = earlier} {i = i} {items = items} s more) f few h = items_table more (All-tail FormedItem (syntax.BitsData i) items f) (few_later earlier (syntax.BitsData i) items few) (bits_table earlier i h)
items_table (rule.struct {earlier = earlier} {i = i} {items = items} s more) f few h =
    items_table more (All-tail FormedItem (syntax.Struct i) items f) (few_after earlier i items few) (struct_table earlier i s (All-head FormedItem (syntax.Struct i) items f) (few_struct earlier i items few) h)
items_table (rule.area {earlier = earlier} {i = i} {items = items} s more) f few h = items_table more (All-tail FormedItem (syntax.Global i) items f) (few_later earlier (syntax.Global i) items few) h
items_table (rule.import {earlier = earlier} {h = x} {items = items} s more) f few h = items_table more (All-tail FormedItem (syntax.Import x) items f) (few_later earlier (syntax.Import x) items few) h
items_table (rule.procedure {earlier = earlier} {p = x} {items = items} s more) f few h = items_table more (All-tail FormedItem (syntax.Procedure x) items f) (few_later earlier (syntax.Procedure x) items few) h

-- ---- what is known after each item

-- the table of the core is that of the end
pub record Whole (m : ModuleCore) (end : Earlier) : Type 0 where
  pub structs : structs_of m.structs ≡ end.structs
  pub words_are : m.structs.words ≡ words end
  pub table : IsTrue (is_table (structs_of m.structs) m.structs.words)

table_grows : (m : ModuleCore) (earlier end : Earlier) → Whole m end → Declares earlier end → IsTrue (is_table earlier.structs (words earlier)) → Grows m.structs earlier
table_grows m earlier end w d h = record {
  structs_begin = subst (Begins StructType earlier.structs) (sym w.structs) d.structs_begin;
  words_begin = subst (Begins IntKind (words earlier)) (sym w.words_are) d.words_begin;
  so_far = h;
}

-- these cores stand before a place, and what is known there
pub record SoFar (m : ModuleCore) (earlier : Earlier) (bs : List BitLayout) (as' : List AreaCore) (is : List ImportCore) (ps : List ProcCore) : Type 0 where
  pub known : Known m ps earlier
  pub table : IsTrue (is_table earlier.structs (words earlier))
  pub layouts : length bs ≡ length earlier.bits
  pub areas : length as' ≡ length earlier.areas
  pub imports : length is ≡ length (of_kind true earlier.callees)
  pub procs : length ps ≡ length (of_kind false earlier.callees)

length_push : {A B : Type 0} (xs : List A) (ys : List B) (x : A) (y : B) → length xs ≡ length ys → length (xs ++ x ∷ []) ≡ length (ys ++ y ∷ [])
length_push xs ys x y h = omega (arith, h, length-append xs (x ∷ []), length-append ys (y ∷ []))

after_bits : (m : ModuleCore) (earlier : Earlier) (i : BitsItem) (b : BitLayout) (rest bs : List BitLayout) (as' : List AreaCore) (is : List ImportCore) (ps : List ProcCore) → SoFar m earlier bs as' is ps → m.layouts ≡ bs ++ b ∷ rest → IsLaid i b
    → Grows m.structs (after earlier (syntax.BitsData i)) → SoFar m (after earlier (syntax.BitsData i)) (bs ++ b ∷ []) as' is ps
after_bits m earlier i b rest bs as' is ps s e h g = record {
  known = record {
    words_begin = g.words_begin;
    bits = subst (Front IsLaid (earlier.bits ++ i ∷ [])) (sym e) (front_next IsLaid earlier.bits bs i b rest (subst (Front IsLaid earlier.bits) e s.known.bits) s.layouts h);
    structs_begin = s.known.structs_begin;
    struct_fields = s.known.struct_fields;
    areas = s.known.areas;
    imports = s.known.imports;
    procedures = s.known.procedures;
    determined = s.known.determined;
  };
  table = g.so_far;
  layouts = length_push bs earlier.bits b i s.layouts;
  areas = s.areas;
  imports = s.imports;
  procs = s.procs;
}

after_struct : (m : ModuleCore) (earlier : Earlier) (i : StructSyntax) (bs : List BitLayout) (as' : List AreaCore) (is : List ImportCore) (ps : List ProcCore) → SoFar m earlier bs as' is ps → HasAreas m.structs (struct_in earlier i)
    → Grows m.structs (after earlier (syntax.Struct i)) → SoFar m (after earlier (syntax.Struct i)) bs as' is ps
after_struct m earlier i bs as' is ps s h g = record {
  known = record {
    words_begin = s.known.words_begin;
    bits = s.known.bits;
    structs_begin = g.structs_begin;
    struct_fields = All-push (HasAreas m.structs) earlier.structs (struct_in earlier i) s.known.struct_fields h;
    areas = s.known.areas;
    imports = s.known.imports;
    procedures = s.known.procedures;
    determined = s.known.determined;
  };
  table = g.so_far;
  layouts = s.layouts;
  areas = s.areas;
  imports = s.imports;
  procs = s.procs;
}

after_area : (m : ModuleCore) (earlier : Earlier) (i : GlobalSyntax) (a : AreaCore) (bs : List BitLayout) (rest as' : List AreaCore) (is : List ImportCore) (ps : List ProcCore) → SoFar m earlier bs as' is ps → m.areas ≡ as' ++ a ∷ rest → IsArea m.structs (global_in earlier i) a
    → SoFar m (after earlier (syntax.Global i)) bs (as' ++ a ∷ []) is ps
after_area m earlier i a bs rest as' is ps s e h = record {
  known = record {
    words_begin = s.known.words_begin;
    bits = s.known.bits;
    structs_begin = s.known.structs_begin;
    struct_fields = s.known.struct_fields;
    areas = subst (Front (IsArea m.structs) (earlier.areas ++ global_in earlier i ∷ [])) (sym e)
        (front_next (IsArea m.structs) earlier.areas as' (global_in earlier i) a rest (subst (Front (IsArea m.structs) earlier.areas) e s.known.areas) s.areas h);
    imports = s.known.imports;
    procedures = s.known.procedures;
    determined = s.known.determined;
  };
  table = s.table;
  layouts = s.layouts;
  areas = length_push as' earlier.areas a (global_in earlier i) s.areas;
  imports = s.imports;
  procs = s.procs;
}

after_import : (m : ModuleCore) (earlier : Earlier) (h : HeaderSyntax) (c : ImportCore) (bs : List BitLayout) (as' : List AreaCore) (rest is : List ImportCore) (ps : List ProcCore) → SoFar m earlier bs as' is ps → m.imports ≡ is ++ c ∷ rest
    → IsImport m.structs (callee_in earlier true h) c → Determined (callee_in earlier true h) → SoFar m (after earlier (syntax.Import h)) bs as' (is ++ c ∷ []) ps
after_import m earlier h c bs as' rest is ps s e k d =
    let x : Callee = callee_in earlier true h in
    let kept = same_last is_import earlier.callees x refl in
    let other = none_last is_procedure earlier.callees x refl in
    record {
      known = record {
        words_begin = s.known.words_begin;
        bits = s.known.bits;
        structs_begin = s.known.structs_begin;
        struct_fields = s.known.struct_fields;
        areas = s.known.areas;
        imports = subst (λ cs. Front (IsImport m.structs) cs m.imports) (sym kept)
            (subst (Front (IsImport m.structs) (filter is_import earlier.callees ++ x ∷ [])) (sym e)
            (front_next (IsImport m.structs) (filter is_import earlier.callees) is x c rest (subst (Front (IsImport m.structs) (filter is_import earlier.callees)) e s.known.imports) s.imports k));
        procedures = subst (λ cs. Front (IsProc m.structs) cs ps) (sym other) s.known.procedures;
        determined = determined_last earlier.callees x s.known.determined d;
      };
      table = s.table;
      layouts = s.layouts;
      areas = s.areas;
      imports = length_push is (filter is_import earlier.callees) c x s.imports ∙ ap length (sym kept);
      procs = s.procs ∙ ap length (sym other);
    }

after_proc : (m : ModuleCore) (earlier : Earlier) (p : ProcSyntax) (c : ProcCore) (bs : List BitLayout) (as' : List AreaCore) (is : List ImportCore) (ps : List ProcCore) → SoFar m earlier bs as' is ps
    → IsProc m.structs (callee_in earlier false p.header) c → Determined (callee_in earlier false p.header) → SoFar m (after earlier (syntax.Procedure p)) bs as' is (ps ++ c ∷ [])
after_proc m earlier p c bs as' is ps s k d =
    let x : Callee = callee_in earlier false p.header in
    let kept = same_last is_procedure earlier.callees x refl in
    let other = none_last is_import earlier.callees x refl in
    record {
      known = record {
        words_begin = s.known.words_begin;
        bits = s.known.bits;
        structs_begin = s.known.structs_begin;
        struct_fields = s.known.struct_fields;
        areas = s.known.areas;
        imports = subst (λ cs. Front (IsImport m.structs) cs m.imports) (sym other) s.known.imports;
        procedures = subst (λ cs. Front (IsProc m.structs) cs (ps ++ c ∷ [])) (sym kept)
            (front_next (IsProc m.structs) (filter is_procedure earlier.callees) ps x c [] (front_more (IsProc m.structs) (filter is_procedure earlier.callees) ps (c ∷ []) s.known.procedures) s.procs k);
        determined = determined_last earlier.callees x s.known.determined d;
      };
      table = s.table;
      layouts = s.layouts;
      areas = s.areas;
      imports = s.imports ∙ ap length (sym other);
      procs = length_push ps (filter is_procedure earlier.callees) c x s.procs ∙ ap length (sym kept);
    }

-- ---- all items

-- each procedure is well typed after those before it
abbrev pub ProcsFrom : ModuleCore → (done : List ProcCore) → List ProcCore → Type 0
ProcsFrom m done [] = Unit {0}
ProcsFrom m done (p ∷ ps) = ProcTyped m done p × ProcsFrom m (done ++ p ∷ []) ps

pub record ItemsFine (m : ModuleCore) (bs : List BitLayout) (as' : List AreaCore) (is : List ImportCore) (done ps : List ProcCore) : Type 0 where
  pub layouts : All IsLayout bs
  pub areas : All (AreaTyped m) as'
  pub imports : All (ImportTyped m) is
  pub procs : ProcsFrom m done ps

joined : {A : Type 0} (xs : List A) (x : A) (rest all : List A) → all ≡ xs ++ x ∷ rest → all ≡ (xs ++ x ∷ []) ++ rest
joined xs x rest all h = h ∙ sym (append_assoc xs (x ∷ []) rest)

pub items_fine : {names : List Word} {earlier end : Earlier} {items : List ItemSyntax} {bs : List BitLayout} {as' : List AreaCore} {is : List ImportCore} {ps : List ProcCore} → StandItems names earlier items end bs as' is ps → All FormedItem items → Few earlier items
    → (m : ModuleCore) → Whole m end → (bs0 : List BitLayout) (as0 : List AreaCore) (is0 : List ImportCore) (ps0 : List ProcCore) → SoFar m earlier bs0 as0 is0 ps0 → m.layouts ≡ bs0 ++ bs → m.areas ≡ as0 ++ as' → m.imports ≡ is0 ++ is
    → ItemsFine m bs as' is ps0 ps
items_fine rule.no_items f few m w bs0 as0 is0 ps0 s el ea ei = record { layouts = All-nil IsLayout; areas = All-nil (AreaTyped m); imports = All-nil (ImportTyped m); procs = tt }
items_fine (rule.bits {earlier = earlier} {end = end} {i = i} {items = items} {b = b} {bs = bs} h more) f few m w bs0 as0 is0 ps0 s el ea ei =
    let formed = All-head FormedItem (syntax.BitsData i) items f in
    let g = table_grows m (after earlier (syntax.BitsData i)) end w (items_declare more) (bits_table earlier i s.table) in
    let rest = items_fine more (All-tail FormedItem (syntax.BitsData i) items f) (few_later earlier (syntax.BitsData i) items few) m w (bs0 ++ b ∷ []) as0 is0 ps0 (after_bits m earlier i b bs bs0 as0 is0 ps0 s el (bits_laid earlier i b h) g) (joined bs0 b bs m.layouts el) ea ei in
    record { layouts = All-cons IsLayout b bs (bits_layout earlier i b h formed) rest.layouts; areas = rest.areas; imports = rest.imports; procs = rest.procs }
items_fine (rule.struct {earlier = earlier} {end = end} {i = i} {items = items} h more) f few m w bs0 as0 is0 ps0 s el ea ei =
    let formed = All-head FormedItem (syntax.Struct i) items f in
    let here = table_grows m earlier end w (items_declare (rule.struct h more)) s.table in
    let g = table_grows m (after earlier (syntax.Struct i)) end w (items_declare more) (struct_table earlier i h formed (few_struct earlier i items few) s.table) in
    let areas : HasAreas m.structs (struct_in earlier i) = subst (HasAreas m.structs) (sym (struct_is earlier i h)) (fields_areas h.stand m.structs here formed.1) in
    items_fine more (All-tail FormedItem (syntax.Struct i) items f) (few_after earlier i items few) m w bs0 as0 is0 ps0 (after_struct m earlier i bs0 as0 is0 ps0 s areas g) el ea ei
items_fine {names = names} (rule.area {earlier = earlier} {end = end} {i = i} {items = items} {a = a} {as' = as'} h more) f few m w bs0 as0 is0 ps0 s el ea ei =
    let formed = All-head FormedItem (syntax.Global i) items f in
    let g = table_grows m earlier end w (items_declare (rule.area h more)) s.table in
    let typed = area_typed m names earlier i a w.table g formed h in
    let there : IsArea m.structs (global_in earlier i) a = record { constant = h.constant; area = h.area.exists; there = typed.area_is } in
    let rest = items_fine more (All-tail FormedItem (syntax.Global i) items f) (few_later earlier (syntax.Global i) items few) m w bs0 (as0 ++ a ∷ []) is0 ps0 (after_area m earlier i a bs0 as' as0 is0 ps0 s ea there) el (joined as0 a as' m.areas ea) ei in
    record { layouts = rest.layouts; areas = All-cons (AreaTyped m) a as' typed rest.areas; imports = rest.imports; procs = rest.procs }
items_fine {names = names} (rule.import {earlier = earlier} {end = end} {h = x} {items = items} {i = c} {is = is} h more) f few m w bs0 as0 is0 ps0 s el ea ei =
    let formed = All-head FormedItem (syntax.Import x) items f in
    let g = table_grows m earlier end w (items_declare (rule.import h more)) s.table in
    let d = header_determined names earlier true x c.params h.header.params_stand in
    let rest = items_fine more (All-tail FormedItem (syntax.Import x) items f) (few_later earlier (syntax.Import x) items few) m w bs0 as0 (is0 ++ c ∷ []) ps0
    (after_import m earlier x c bs0 as0 is is0 ps0 s ei (import_is m names earlier x c g formed h) d) el ea (joined is0 c is m.imports ei) in
    record { layouts = rest.layouts; areas = rest.areas; imports = All-cons (ImportTyped m) c is (import_typed m names earlier x c g formed h) rest.imports; procs = rest.procs }
items_fine {names = names} (rule.procedure {earlier = earlier} {end = end} {p = x} {items = items} {c = c} {ps = ps} h more) f few m w bs0 as0 is0 ps0 s el ea ei =
    let formed = All-head FormedItem (syntax.Procedure x) items f in
    let g = table_grows m earlier end w (items_declare (rule.procedure h more)) s.table in
    let d = header_determined names earlier false x.header h.types h.header.params_stand in
    let rest = items_fine more (All-tail FormedItem (syntax.Procedure x) items f) (few_later earlier (syntax.Procedure x) items few) m w bs0 as0 is0 (ps0 ++ c ∷ [])
    (after_proc m earlier x c bs0 as0 is0 ps0 s (proc_is m names earlier x c g formed h) d) el ea ei in
    record { layouts = rest.layouts; areas = rest.areas; imports = rest.imports; procs = (proc_typed m ps0 names earlier x c g s.known formed h, rest.procs) }
