-- The names of a core are names of its text; so the core of a module that is like a text is like one too.
use Rattle.std.proofs.Common.{◌≡◌, ℕ, ◌+◌, List, [], ◌∷◌, ◌++◌, map, flat_map, All, Contains, refl, sym, ◌∙◌, ap, subst, le_trans}
use Rattle.std.proofs.lemmas.List.Elements.{All-head, All-tail, All-cons, All-nil, All-push, All-append, All-contains_itself}
use Rattle.ivory_tree.specs.Syntax as syntax
use Rattle.ivory_tree.specs.Syntax.{Word, FieldSyntax, ParamSyntax, ItemSyntax, ModuleSyntax}
use Rattle.ivory_tree.specs.Names as text
use Rattle.ivory_tree.specs.TextLike as tree
use Rattle.ivory_tree.specs.declared.items.BitField.{BitField}
use Rattle.area_types.specs.Syntax as types
use Rattle.area_types.specs.Syntax.{StructType, ValueType}
use Rattle.area_types.specs.View.{struct_of}
use Rattle.area_types.specs.declared.StructDef.{StructDef}
use Rattle.bit_data.specs.Layouts.{placed_from}
use Rattle.bit_data.specs.declared.BitLayout.{BitLayout}
use Rattle.core_tree.specs.Syntax.{AreaCore, ImportCore, ProcCore, ModuleCore}
use Rattle.core_tree.specs.Names.{module_names, struct_fields, bit_fields, param_names}
use Rattle.core_tree.specs.TextLike.{TextLike}
use Rattle.source_types.specs.Environments.{Earlier}
use Rattle.source_types.specs.Written.{struct_in}
use Rattle.typing_rules.specs.Items as item
use Rattle.typing_rules.specs.Items.{Fields, Params, wish_of}
use Rattle.typing_rules.specs.WellTyped as rule
use Rattle.typing_rules.specs.WellTyped.{StandItems, Stands}
use Rattle.core_validity.specs.Laws.{NamesAreOfTheText}
use Rattle.core_validity.proofs.Items.{struct_is, bits_laid}
use Rattle.core_validity.proofs.Apart.{field_names_same, param_names_are}
use Rattle.core_validity.proofs.Depths.{core_is_no_deeper}

-- ---- parts of lists

record Parts (A : Type 0) (P : A → Type 0) (xs ys : List A) : Type 0 where
  first : All P xs
  second : All P ys

all_parts : {A : Type 0} (P : A → Type 0) (xs ys : List A) → All P (xs ++ ys) → Parts A P xs ys
all_parts P [] ys h = record { first = All-nil P; second = h }
all_parts P (x ∷ xs) ys h = let p = all_parts P xs ys (All-tail P x (xs ++ ys) h) in record { first = All-cons P x xs (All-head P x (xs ++ ys) h) p.first; second = p.second }

-- the first name of each element
firsts : {A : Type 0} (P : Word → Type 0) (name : A → Word) (more : A → List Word) (xs : List A) → All P (flat_map (λ x. name x ∷ more x) xs) → All P (map name xs)
firsts P name more [] h = All-nil P
firsts P name more (x ∷ xs) h =
    let p = all_parts P (name x ∷ more x) (flat_map (λ y. name y ∷ more y) xs) h in
    All-cons P (name x) (map name xs) (All-head P (name x) (more x) p.first) (firsts P name more xs p.second)

flat : {A : Type 0} (P : Word → Type 0) (names : A → List Word) (xs : List A) → All (λ x. All P (names x)) xs → All P (flat_map names xs)
flat P names [] h = All-nil P
flat P names (x ∷ xs) h = All-append P (names x) (flat_map names xs) (All-head (λ y. All P (names y)) x xs h) (flat P names xs (All-tail (λ y. All P (names y)) x xs h))

mapped_names : {A : Type 0} (P : Word → Type 0) (name : A → Word) (xs : List A) → All (λ x. P (name x)) xs → All P (map name xs)
mapped_names P name [] h = All-nil P
mapped_names P name (x ∷ xs) h = All-cons P (name x) (map name xs) (All-head (λ y. P (name y)) x xs h) (mapped_names P name xs (All-tail (λ y. P (name y)) x xs h))

-- ---- names of items

record NamedAs (P : Word → Type 0) (name : Word) (within : List Word) : Type 0 where
  own : P name
  parts : All P within

abbrev StructNamed : (Word → Type 0) → StructType → Type 0
StructNamed P s = NamedAs P s.name (map (λ (f : types.Field). f.name) s.fields)

record Named (P : Word → Type 0) (end : Earlier) (bs : List BitLayout) (as' : List AreaCore) (is : List ImportCore) (ps : List ProcCore) : Type 0 where
  structs : All (StructNamed P) end.structs
  layouts : All (λ (l : BitLayout). NamedAs P l.name (bit_fields l)) bs
  areas : All (λ (a : AreaCore). P a.name) as'
  imports : All (λ (i : ImportCore). P i.name) is
  procs : All (λ (p : ProcCore). NamedAs P p.name (param_names p)) ps

fields_named : {earlier : Earlier} {before : List Word} {texts : List FieldSyntax} {fields : List types.Field} → Fields earlier before texts fields → map (λ (f : types.Field). f.name) fields ≡ map (λ (f : FieldSyntax). f.name.text) texts
fields_named item.no_fields = refl
fields_named (item.more_fields {f = f} fresh names more) = ap (λ ns. f.name.text ∷ ns) (fields_named more)

placed_names : (fields : List BitField) (low : ℕ) → map (λ f. f.name) (placed_from low (map wish_of fields)) ≡ map (λ (f : BitField). f.name.text) fields
placed_names [] low = refl
placed_names (f ∷ fields) low = ap (λ ns. f.name.text ∷ ns) (placed_names fields (low + f.width))

items_named : {names : List Word} {earlier end : Earlier} {items : List ItemSyntax} {bs : List BitLayout} {as' : List AreaCore} {is : List ImportCore} {ps : List ProcCore} → StandItems names earlier items end bs as' is ps → (P : Word → Type 0)
    → All P (flat_map text.item_names items) → All (StructNamed P) earlier.structs → Named P end bs as' is ps
items_named rule.no_items P h s = record {
  structs = s;
  layouts = All-nil (λ (l : BitLayout). NamedAs P l.name (bit_fields l));
  areas = All-nil (λ (a : AreaCore). P a.name);
  imports = All-nil (λ (i : ImportCore). P i.name);
  procs = All-nil (λ (p : ProcCore). NamedAs P p.name (param_names p));
}
items_named (rule.bits {earlier = earlier} {i = i} {items = items} {b = b} {bs = bs} stand more) P h s =
    let p = all_parts P (text.item_names (syntax.BitsData i)) (flat_map text.item_names items) h in
    let r = items_named more P p.second s in
    let fields = firsts P (λ (f : BitField). f.name.text) (λ f. []) i.fields (All-tail P i.name.text (flat_map text.bit_field_names i.fields) p.first) in
    let same : bit_fields b ≡ map (λ (f : BitField). f.name.text) i.fields = ap (map (λ f. f.name)) (bits_laid earlier i b stand).fields ∙ placed_names i.fields 0 in
    record {
      structs = r.structs;
      layouts = All-cons (λ (l : BitLayout). NamedAs P l.name (bit_fields l)) b bs
          (record { own = subst P (sym stand.name) (All-head P i.name.text (flat_map text.bit_field_names i.fields) p.first); parts = subst (All P) (sym same) fields }) r.layouts;
      areas = r.areas;
      imports = r.imports;
      procs = r.procs;
    }
items_named (rule.struct {earlier = earlier} {i = i} {items = items} stand more) P h s =
    let p = all_parts P (text.item_names (syntax.Struct i)) (flat_map text.item_names items) h in
    let fields = firsts P (λ (f : FieldSyntax). f.name.text) (λ f. text.area_names f.area) i.fields (All-tail P i.name.text (flat_map text.field_names i.fields) p.first) in
    let named : StructNamed P (struct_in earlier i) =
    subst (StructNamed P) (sym (struct_is earlier i stand))
    (record { own = All-head P i.name.text (flat_map text.field_names i.fields) p.first; parts = subst (All P) (sym (fields_named stand.stand)) fields }) in
    items_named more P p.second (All-push (StructNamed P) earlier.structs (struct_in earlier i) s named)
items_named (rule.area {i = i} {items = items} {a = a} {as' = as'} stand more) P h s =
    let p = all_parts P (text.item_names (syntax.Global i)) (flat_map text.item_names items) h in
    let r = items_named more P p.second s in
    record {
      structs = r.structs;
      layouts = r.layouts;
      areas = All-cons (λ (x : AreaCore). P x.name) a as' (subst P (sym stand.name) (All-head P i.name.text (text.area_names i.area ++ text.if_any text.init_names i.init) p.first)) r.areas;
      imports = r.imports;
      procs = r.procs;
    }
items_named (rule.import {h = x} {items = items} {i = c} {is = is} stand more) P h s =
    let p = all_parts P (text.item_names (syntax.Import x)) (flat_map text.item_names items) h in
    let r = items_named more P p.second s in
    record {
      structs = r.structs;
      layouts = r.layouts;
      areas = r.areas;
      imports = All-cons (λ (y : ImportCore). P y.name) c is (subst P (sym stand.name) (All-head P x.name.text (flat_map text.param_names x.params ++ text.if_any text.type_names x.result) p.first)) r.imports;
      procs = r.procs;
    }
items_named (rule.procedure {p = x} {items = items} {c = c} {ps = ps} stand more) P h s =
    let p = all_parts P (text.item_names (syntax.Procedure x)) (flat_map text.item_names items) h in
    let r = items_named more P p.second s in
    let header = (all_parts P (text.header_names x.header) (flat_map text.contract_names x.contracts ++ text.block_names x.body) p.first).first in
    let params = (all_parts P (flat_map text.param_names x.header.params) (text.if_any text.type_names x.header.result) (All-tail P x.header.name.text (flat_map text.param_names x.header.params ++ text.if_any text.type_names x.header.result) header)).first in
    let named = firsts P (λ (q : ParamSyntax). q.name.text) (λ q. text.type_names q.ty) x.header.params params in
    let same : param_names c ≡ map (λ (q : ParamSyntax). q.name.text) x.header.params = ap (map (λ y. y.name)) stand.params ∙ param_names_are stand.header.params_stand in
    record {
      structs = r.structs;
      layouts = r.layouts;
      areas = r.areas;
      imports = r.imports;
      procs = All-cons (λ (q : ProcCore). NamedAs P q.name (param_names q)) c ps
          (record { own = subst P (sym stand.name) (All-head P x.header.name.text (flat_map text.param_names x.header.params ++ text.if_any text.type_names x.header.result) header); parts = subst (All P) (sym same) named }) r.procs;
    }

-- ---- the whole

own_names : {A : Type 0} (P : Word → Type 0) (name : A → Word) (within : A → List Word) (xs : List A) → All (λ x. NamedAs P (name x) (within x)) xs → All P (map name xs)
own_names P name within [] h = All-nil P
own_names P name within (x ∷ xs) h =
    All-cons P (name x) (map name xs) (All-head (λ y. NamedAs P (name y) (within y)) x xs h).own (own_names P name within xs (All-tail (λ y. NamedAs P (name y) (within y)) x xs h))

part_names : {A : Type 0} (P : Word → Type 0) (name : A → Word) (within : A → List Word) (xs : List A) → All (λ x. NamedAs P (name x) (within x)) xs → All P (flat_map within xs)
part_names P name within [] h = All-nil P
part_names P name within (x ∷ xs) h =
    All-append P (within x) (flat_map within xs) (All-head (λ y. NamedAs P (name y) (within y)) x xs h).parts (part_names P name within xs (All-tail (λ y. NamedAs P (name y) (within y)) x xs h))

defs_named : (P : Word → Type 0) (ds : List StructDef) → All (StructNamed P) (map struct_of ds) → All (λ (d : StructDef). NamedAs P d.name (struct_fields d)) ds
defs_named P [] h = All-nil (λ (d : StructDef). NamedAs P d.name (struct_fields d))
defs_named P (d ∷ ds) h =
    let n = All-head (StructNamed P) (struct_of d) (map struct_of ds) h in
    All-cons (λ (x : StructDef). NamedAs P x.name (struct_fields x)) d ds (record { own = n.own; parts = subst (All P) (field_names_same d.fields) n.parts }) (defs_named P ds (All-tail (StructNamed P) (struct_of d) (map struct_of ds) h))

names_hold : (P : Word → Type 0) (m : ModuleSyntax) (core : ModuleCore) → Stands m core → All P (text.module_names m) → All P (module_names core)
names_hold P m core stands h =
    let n = items_named stands.items P (All-tail P m.name.text (flat_map text.item_names m.items) h) (All-nil (StructNamed P)) in
    let defs = defs_named P core.structs.structs (subst (All (StructNamed P)) (sym stands.structs) n.structs) in
    let struct_own = own_names P (λ (d : StructDef). d.name) struct_fields core.structs.structs defs in
    let layout_own = own_names P (λ (l : BitLayout). l.name) bit_fields core.layouts n.layouts in
    let struct_parts = part_names P (λ (d : StructDef). d.name) struct_fields core.structs.structs defs in
    let layout_parts = part_names P (λ (l : BitLayout). l.name) bit_fields core.layouts n.layouts in
    let proc_own = own_names P (λ (p : ProcCore). p.name) param_names core.procs n.procs in
    let proc_parts = part_names P (λ (p : ProcCore). p.name) param_names core.procs n.procs in
    let areas = mapped_names P (λ (a : AreaCore). a.name) core.areas n.areas in
    let imports = mapped_names P (λ (i : ImportCore). i.name) core.imports n.imports in
    let types_named = All-append P (map (λ (d : StructDef). d.name) core.structs.structs) (map (λ (l : BitLayout). l.name) core.layouts) struct_own layout_own in
    let items = All-append P (map (λ (a : AreaCore). a.name) core.areas) _ areas (All-append P (map (λ (i : ImportCore). i.name) core.imports) (map (λ (p : ProcCore). p.name) core.procs) imports proc_own) in
    All-append P _ _ types_named (All-append P _ _ struct_parts (All-append P _ _ layout_parts (All-append P _ _ items proc_parts)))

pub names_are_of_the_text : NamesAreOfTheText
names_are_of_the_text m core stands = names_hold (Contains (text.module_names m)) m core stands (All-contains_itself (text.module_names m))

pub text_like : (IsName : Word → Type 0) (m : ModuleSyntax) (core : ModuleCore) → Stands m core → tree.TextLike IsName m → TextLike IsName core
text_like IsName m core stands h = record { names = names_hold IsName m core stands h.names; shallow = le_trans (core_is_no_deeper m core stands) h.shallow }
