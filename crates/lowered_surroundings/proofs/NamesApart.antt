-- The fields of a struct have different names in C, so have two structs, and no local of a procedure has the name of a temporary.
use Rattle.std.proofs.Common.{◌≡◌, ℕ, ◌<◌, Bool, true, false, List, [], ◌∷◌, map, length, slice_get, get_or, Option, Some, None, option_map, refl, sym, ◌∙◌, ap, arith, ltb-false}
use Rattle.std.specs.Prelude.{nat_lt}
use Rattle.std.proofs.lemmas.Option.{get_or_from_slice_get, slice_get-map, slice_get_within, slice_get-get_or}
use Rattle.area_types.specs.Syntax as types
use Rattle.area_types.specs.Syntax.{Name, ValueType, StructType}
use Rattle.area_types.specs.View.{field_of}
use Rattle.area_types.specs.declared.structs.FieldDef.{FieldDef}
use Rattle.area_types.proofs.Truths.{is_below}
use Rattle.core_tree.specs.Names.{AllDifferent}
use Rattle.lower_types.specs.Names.{item_name}
use Rattle.lower_types.proofs.Names.{locals_differ, item_is_no_local, items_differ}
use Rattle.lower_values.specs.Expressions.{field_name}
use Rattle.lower_values.specs.Frames.{named_or}
use Rattle.value_refinement.specs.Settings.{IsOld}

-- ---- locals

pub named_old : (o : Option Name) (x first : ℕ) → x < first → IsOld first (named_or x o)
named_old None x first low j from e = let same : x ≡ j = locals_differ x j e in absurd (omega (arith, same, low, from))
named_old (Some name) x first low j from e = item_is_no_local name j e

-- ---- places in lists of different names

pub same_place : (names : List Name) → AllDifferent names → (i j : ℕ) (x : Name) → slice_get names i ≡ Some x → slice_get names j ≡ Some x → i ≡ j
same_place names different i j x e f = go (nat_lt i j) refl (nat_lt j i) refl
  where
    go : (b : Bool) → nat_lt i j ≡ b → (c : Bool) → nat_lt j i ≡ c → i ≡ j
    go true h c g = absurd (different i j x (is_below i j h) (slice_get_within names j x f) (get_or_from_slice_get names i x x e ∙ sym (get_or_from_slice_get names j x x f)))
    go false h true g = absurd (different j i x (is_below j i g) (slice_get_within names i x e) (get_or_from_slice_get names j x x f ∙ sym (get_or_from_slice_get names i x x e)))
    go false h false g = omega (arith, ltb-false i j h, ltb-false j i g)

-- ---- fields

pub names_kept : (fs : List FieldDef) → map (λ (f : types.Field). f.name) (map field_of fs) ≡ map (λ (f : FieldDef). f.name) fs
names_kept [] = refl
names_kept (f ∷ fs) = ap (λ names. f.name ∷ names) (names_kept fs)

blank : types.Field
blank = record { name = []; area = types.Stored types.Truth }

field_at : (fs : List types.Field) (i : ℕ) → i < length fs → slice_get (map (λ (f : types.Field). f.name) fs) i ≡ Some (get_or fs i blank).name
field_at fs i low = slice_get-map (λ (f : types.Field). f.name) fs i ∙ ap (option_map (λ (f : types.Field). f.name)) (slice_get-get_or fs i blank low)

pub fields_differ : (fs : List types.Field) → AllDifferent (map (λ (f : types.Field). f.name) fs) → (i j : ℕ) → i < length fs → j < length fs
    → field_name (slice_get fs i) ≡ field_name (slice_get fs j) → i ≡ j
fields_differ fs different i j low below e =
    let x : types.Field = get_or fs i blank in
    let y : types.Field = get_or fs j blank in
    let named : item_name x.name ≡ item_name y.name = ap field_name (sym (slice_get-get_or fs i blank low)) ∙ e ∙ ap field_name (slice_get-get_or fs j blank below) in
    let same : x.name ≡ y.name = items_differ x.name y.name named in
    same_place (map (λ (f : types.Field). f.name) fs) different i j x.name (field_at fs i low) (field_at fs j below ∙ ap Some (sym same))
