-- Names that must be apart are apart in the core: each stands at most once among those of its kind.
use Rattle.std.proofs.Common.{◌≡◌, ◌≢◌, ℕ, ◌+◌, ◌≤◌, List, [], ◌∷◌, ◌++◌, map, length, Bool, true, false, cond, ◌||◌, All, Contains, Some, None, refl, sym, ◌∙◌, ap, subst, arith, nat_eq, append_assoc, append-nil}
use Rattle.std.specs.List.{list_any}
use Rattle.std.proofs.lemmas.List.Elements.{All-head, All-tail, All-cons, All-nil, All-push, All-append, All-contains, All-weaker}
use Rattle.std.proofs.lemmas.List.Kept.{AllPairs-cons}
use Rattle.iv_words.specs.Words.{same_word}
use Rattle.ivory_tree.specs.Syntax as syntax
use Rattle.ivory_tree.specs.Syntax.{Word, ItemSyntax, FieldSyntax, ParamSyntax}
use Rattle.ivory_tree.specs.declared.items.BitsItem.{BitsItem}
use Rattle.area_types.specs.Syntax as types
use Rattle.area_types.specs.Syntax.{ValueType, StructType}
use Rattle.area_types.specs.Tables.{structs_of}
use Rattle.area_types.specs.View.{field_of, struct_of}
use Rattle.area_types.specs.declared.FieldDef.{FieldDef}
use Rattle.area_types.specs.declared.StructDef.{StructDef}
use Rattle.bit_data.specs.Layouts.{is_name_of, first_fault, wish_of, wishes_of, IsLayout}
use Rattle.bit_data.specs.declared.BitLayout.{BitLayout}
use Rattle.bit_data.specs.declared.FieldBits.{FieldBits}
use Rattle.bit_data.specs.declared.FieldWish.{FieldWish}
use Rattle.bit_data.specs.declared.LayoutFault.TheVariants.{TwiceNamed, EmptyField}
use Rattle.bit_data.proofs.Placed.{stands}
use Rattle.core_tree.specs.Syntax.{AreaCore, ImportCore, ProcCore, ModuleCore}
use Rattle.core_tree.specs.Names.{item_names, type_names, struct_fields, bit_fields, param_names, AllDifferent, ParamsApart, NamesApart}
use Rattle.source_types.specs.Environments.{Earlier, AreaDeclared, Callee, nothing_earlier, has_word, is_area, is_callee, is_item, is_struct, is_bits, is_type_name}
use Rattle.source_types.specs.Items as text
use Rattle.source_types.specs.Items.{after}
use Rattle.source_types.specs.Written.{struct_in, global_in, callee_in}
use Rattle.typing_rules.specs.Environments.{Env}
use Rattle.typing_rules.specs.Items as item
use Rattle.typing_rules.specs.Items.{Fields, StandsStruct, Params, param_cores}
use Rattle.typing_rules.specs.WellTyped as rule
use Rattle.typing_rules.specs.WellTyped.{at_header, StandItems}
use Rattle.typing_laws.proofs.CleanItems.{fields_there}
use Rattle.typing_laws.proofs.Lookups.{same_equal, any_last, map_last, neither}
use Rattle.core_validity.proofs.Headers.{same_self}

-- ---- how often a name stands in a list

abbrev one_if : Bool → ℕ
one_if true = 1
one_if false = 0

abbrev times : Word → List Word → ℕ
times w [] = 0
times w (x ∷ xs) = one_if (same_word x w) + times w xs

times_both : (w : Word) (xs ys : List Word) → times w (xs ++ ys) ≡ times w xs + times w ys
times_both w [] ys = omega arith
times_both w (x ∷ xs) ys = omega (arith, times_both w xs ys)

absent : (x : Word) (xs : List Word) → times x xs ≡ 0 → All (λ y. x ≢ y) xs
absent x [] h = All-nil (λ y. x ≢ y)
absent x (y ∷ ys) h =
    All-cons (λ z. x ≢ z) y ys (λ e. let s : one_if (same_word y x) ≡ 1 = ap one_if (ap (λ z. same_word y z) e ∙ same_self y) in let no : ⊥ = omega (arith, s, h) in no) (absent x ys (omega (arith, h)))

-- each name at most once
apart : (xs : List Word) → ((w : Word) → times w xs ≤ 1) → AllDifferent xs
apart [] h = λ i j d less within. let no : ⊥ = omega (arith, less, within) in absurd no
apart (x ∷ xs) h =
    let here : one_if (same_word x x) ≡ 1 = ap one_if (same_self x) in
    AllPairs-cons (λ a b. a ≢ b) x xs (absent x xs (omega (arith, h x, here))) (apart xs (λ w. let most = h w in omega (arith, most)))

-- one more name, which is new: what stands once or never, where what is old stands never
record Once (old : Bool) (count : ℕ) : Type 0 where
  most : count ≤ 1
  never : old ≡ true → count ≡ 0

once_more : (old new : Bool) (count : ℕ) → Once (old || new) count → (new ≡ true → old ≡ false) → Once old (one_if new + count)
once_more old true count h fresh = record { most = let z = h.never (or_true old) in omega (arith, z); never = λ e. let f = sym e ∙ fresh refl in let no : ⊥ = cc in absurd no }
  where
    or_true : (b : Bool) → b || true ≡ true
    or_true true = refl
    or_true false = refl
once_more old false count h fresh = record { most = let m = h.most in omega (arith, m); never = λ e. let z = h.never (ap (λ b. b || false) e) in omega (arith, z) }

once_as : (a b : Bool) (m n : ℕ) → a ≡ b → m ≡ n → Once b n → Once a m
once_as a b m n e f h = record { most = let k = h.most in omega (arith, f, k); never = λ x. f ∙ h.never (sym e ∙ x) }

-- a name that is not among some is not one of them
fresh_word : (test : Word → Bool) (name w : Word) → test name ≡ false → same_word name w ≡ true → test w ≡ false
fresh_word test name w h e = ap test (sym (same_equal name w e)) ∙ h

-- ---- areas, imports and procedures

or_last : (a b c : Bool) → (a || c) || b ≡ (a || b) || c
or_last true b c = refl
or_last false true true = refl
or_last false true false = refl
or_last false false c = or_false c
  where
    or_false : (x : Bool) → x || false ≡ x
    or_false true = refl
    or_false false = refl

or_assoc : (a b c : Bool) → a || (b || c) ≡ (a || b) || c
or_assoc true b c = refl
or_assoc false b c = refl

area_after : (earlier : Earlier) (i : syntax.GlobalSyntax) (w : Word) → is_item (after earlier (syntax.Global i)) w ≡ is_item earlier w || same_word i.name.text w
area_after earlier i w =
    ap (λ b. b || is_callee earlier w) (any_last (λ (a : AreaDeclared). same_word a.name w) earlier.areas (global_in earlier i)) ∙ or_last (is_area earlier w) (is_callee earlier w) (same_word i.name.text w)

callee_after : (earlier : Earlier) (import : Bool) (h : syntax.HeaderSyntax) (w : Word) → (is_area earlier w || list_any (λ (c : Callee). same_word c.name w) (earlier.callees ++ callee_in earlier import h ∷ [])) ≡ is_item earlier w || same_word h.name.text w
callee_after earlier import h w =
    ap (λ b. is_area earlier w || b) (any_last (λ (c : Callee). same_word c.name w) earlier.callees (callee_in earlier import h)) ∙ or_assoc (is_area earlier w) (is_callee earlier w) (same_word h.name.text w)

abbrev total : Word → List AreaCore → List ImportCore → List ProcCore → ℕ
total w as' is ps = times w (map (λ a. a.name) as') + (times w (map (λ i. i.name) is) + times w (map (λ p. p.name) ps))

items_once : {names : List Word} {earlier end : Earlier} {items : List ItemSyntax} {bs : List BitLayout} {as' : List AreaCore} {is : List ImportCore} {ps : List ProcCore} → StandItems names earlier items end bs as' is ps → (w : Word) → Once (is_item earlier w) (total w as' is ps)
items_once rule.no_items w = record { most = omega arith; never = λ e. omega arith }
items_once (rule.bits h more) w = let o = items_once more w in record { most = o.most; never = o.never }
items_once (rule.struct h more) w = let o = items_once more w in record { most = o.most; never = o.never }
items_once (rule.area {earlier = earlier} {i = i} {a = a} {as' = as'} {is = is} {ps = ps} h more) w =
    let o = once_as (is_item earlier w || same_word i.name.text w) (is_item (after earlier (syntax.Global i)) w) (total w as' is ps) (total w as' is ps) (sym (area_after earlier i w)) refl (items_once more w) in
    let n = once_more (is_item earlier w) (same_word i.name.text w) (total w as' is ps) o (fresh_word (is_item earlier) i.name.text w h.unused) in
    let same : one_if (same_word a.name w) ≡ one_if (same_word i.name.text w) = ap (λ x. one_if (same_word x w)) h.name in
    once_as (is_item earlier w) (is_item earlier w) (total w (a ∷ as') is ps) (one_if (same_word i.name.text w) + total w as' is ps) refl (omega (arith, same)) n
items_once (rule.import {earlier = earlier} {h = x} {as' = as'} {i = c} {is = is} {ps = ps} h more) w =
    let o = once_as (is_item earlier w || same_word x.name.text w) (is_item (after earlier (syntax.Import x)) w) (total w as' is ps) (total w as' is ps) (sym (callee_after earlier true x w)) refl (items_once more w) in
    let n = once_more (is_item earlier w) (same_word x.name.text w) (total w as' is ps) o (fresh_word (is_item earlier) x.name.text w h.header.unused) in
    let same : one_if (same_word c.name w) ≡ one_if (same_word x.name.text w) = ap (λ y. one_if (same_word y w)) h.name in
    once_as (is_item earlier w) (is_item earlier w) (total w as' (c ∷ is) ps) (one_if (same_word x.name.text w) + total w as' is ps) refl (omega (arith, same)) n
items_once (rule.procedure {earlier = earlier} {p = x} {as' = as'} {is = is} {c = c} {ps = ps} h more) w =
    let o = once_as (is_item earlier w || same_word x.header.name.text w) (is_item (after earlier (syntax.Procedure x)) w) (total w as' is ps) (total w as' is ps) (sym (callee_after earlier false x.header w)) refl (items_once more w) in
    let n = once_more (is_item earlier w) (same_word x.header.name.text w) (total w as' is ps) o (fresh_word (is_item earlier) x.header.name.text w h.header.unused) in
    let same : one_if (same_word c.name w) ≡ one_if (same_word x.header.name.text w) = ap (λ y. one_if (same_word y w)) h.name in
    once_as (is_item earlier w) (is_item earlier w) (total w as' is (c ∷ ps)) (one_if (same_word x.header.name.text w) + total w as' is ps) refl (omega (arith, same)) n

-- ---- structs and bit data

never_times : {A : Type 0} (name : A → Word) (xs : List A) (w : Word) → list_any (λ x. same_word (name x) w) xs ≡ false → times w (map name xs) ≡ 0
never_times name [] w h = refl
never_times name (x ∷ xs) w h =
    let p = neither (same_word (name x) w) (list_any (λ y. same_word (name y) w) xs) h in
    omega (arith, ap one_if p.0, never_times name xs w p.1)

abbrev struct_names : List StructType → List Word
struct_names ss = map (λ (s : StructType). s.name) ss

abbrev bits_names : List BitsItem → List Word
bits_names bits = map (λ (i : BitsItem). i.name.text) bits

abbrev TypesOnce : Earlier → Type 0
TypesOnce earlier = (w : Word) → times w (struct_names earlier.structs) + times w (bits_names earlier.bits) ≤ 1

times_last : (w : Word) (xs : List Word) (x : Word) → times w (xs ++ x ∷ []) ≡ times w xs + one_if (same_word x w)
times_last w xs x = omega (arith, times_both w xs (x ∷ []))

-- a type's name that is new
new_type : (earlier : Earlier) (name w : Word) → TypesOnce earlier → is_type_name earlier name ≡ false → times w (struct_names earlier.structs) + times w (bits_names earlier.bits) + one_if (same_word name w) ≤ 1
new_type earlier name w h fresh = go (same_word name w) refl
  where
    go : (b : Bool) → same_word name w ≡ b → times w (struct_names earlier.structs) + times w (bits_names earlier.bits) + one_if (same_word name w) ≤ 1
    go false e = omega (arith, h w, ap one_if e)
    go true e =
        let p = neither (is_struct earlier w) (is_bits earlier w) (fresh_word (is_type_name earlier) name w fresh e) in
        omega (arith, never_times (λ (s : StructType). s.name) earlier.structs w p.0, never_times (λ (i : BitsItem). i.name.text) earlier.bits w p.1, ap one_if e)

types_once : {names : List Word} {earlier end : Earlier} {items : List ItemSyntax} {bs : List BitLayout} {as' : List AreaCore} {is : List ImportCore} {ps : List ProcCore} → StandItems names earlier items end bs as' is ps → TypesOnce earlier → TypesOnce end
types_once rule.no_items h = h
types_once (rule.bits {earlier = earlier} {i = i} s more) h =
    types_once more
    (λ w. let n = new_type earlier i.name.text w h s.unused in
    let last = times_last w (bits_names earlier.bits) i.name.text in
    let same = ap (times w) (map_last (λ (x : BitsItem). x.name.text) earlier.bits i) in
    omega (arith, n, last, same))
types_once (rule.struct {earlier = earlier} {i = i} s more) h =
    types_once more
    (λ w. let n = new_type earlier i.name.text w h s.unused in
    let last = times_last w (struct_names earlier.structs) i.name.text in
    let same = ap (times w) (map_last (λ (x : StructType). x.name) earlier.structs (struct_in earlier i)) in
    omega (arith, n, last, same))
types_once (rule.area s more) h = types_once more h
types_once (rule.import s more) h = types_once more h
types_once (rule.procedure s more) h = types_once more h

-- the names of the layouts are those of the bit data
layouts_named : {names : List Word} {earlier end : Earlier} {items : List ItemSyntax} {bs : List BitLayout} {as' : List AreaCore} {is : List ImportCore} {ps : List ProcCore} → StandItems names earlier items end bs as' is ps
    → bits_names end.bits ≡ bits_names earlier.bits ++ map (λ l. l.name) bs
layouts_named (rule.no_items {earlier = earlier}) = sym (append-nil (bits_names earlier.bits))
layouts_named (rule.bits {earlier = earlier} {i = i} {b = b} {bs = bs} s more) =
    layouts_named more ∙ ap (λ xs. xs ++ map (λ l. l.name) bs) (map_last (λ (x : BitsItem). x.name.text) earlier.bits i)
    ∙ append_assoc (bits_names earlier.bits) (i.name.text ∷ []) (map (λ l. l.name) bs)
    ∙ ap (λ (x : Word). bits_names earlier.bits ++ x ∷ map (λ l. l.name) bs) (sym s.name)
layouts_named (rule.struct s more) = layouts_named more
layouts_named (rule.area s more) = layouts_named more
layouts_named (rule.import s more) = layouts_named more
layouts_named (rule.procedure s more) = layouts_named more

-- ---- fields of structs

word_after : (before : List Word) (name w : Word) → has_word (before ++ name ∷ []) w ≡ has_word before w || same_word name w
word_after before name w = any_last (λ n. same_word n w) before name

fields_once : {earlier : Earlier} {before : List Word} {texts : List FieldSyntax} {fields : List types.Field} → Fields earlier before texts fields → (w : Word) → Once (has_word before w) (times w (map (λ (f : types.Field). f.name) fields))
fields_once item.no_fields w = record { most = omega arith; never = λ e. refl }
fields_once {before = before} (item.more_fields {f = f} {rest = rest} fresh names more) w =
    once_more (has_word before w) (same_word f.name.text w) (times w (map (λ (x : types.Field). x.name) rest))
    (once_as (has_word before w || same_word f.name.text w) (has_word (before ++ f.name.text ∷ []) w) (times w (map (λ (x : types.Field). x.name) rest)) (times w (map (λ (x : types.Field). x.name) rest)) (sym (word_after before f.name.text w)) refl (fields_once more w))
    (fresh_word (has_word before) f.name.text w fresh)

abbrev FieldsApart : StructType → Type 0
FieldsApart s = AllDifferent (map (λ (f : types.Field). f.name) s.fields)

struct_apart : (earlier : Earlier) (i : syntax.StructSyntax) → StandsStruct earlier i → FieldsApart (struct_in earlier i)
struct_apart earlier i s =
    subst (λ (fs : List types.Field). AllDifferent (map (λ (f : types.Field). f.name) fs)) (sym (fields_there s.stand).1) (apart (map (λ (f : types.Field). f.name) s.fields) (λ w. (fields_once s.stand w).most))

structs_apart : {names : List Word} {earlier end : Earlier} {items : List ItemSyntax} {bs : List BitLayout} {as' : List AreaCore} {is : List ImportCore} {ps : List ProcCore} → StandItems names earlier items end bs as' is ps → All FieldsApart earlier.structs → All FieldsApart end.structs
structs_apart rule.no_items h = h
structs_apart (rule.bits s more) h = structs_apart more h
structs_apart (rule.struct {earlier = earlier} {i = i} s more) h = structs_apart more (All-push FieldsApart earlier.structs (struct_in earlier i) h (struct_apart earlier i s))
structs_apart (rule.area s more) h = structs_apart more h
structs_apart (rule.import s more) h = structs_apart more h
structs_apart (rule.procedure s more) h = structs_apart more h

pub all_unmapped : {A B : Type 0} (P : B → Type 0) (f : A → B) (xs : List A) → All P (map f xs) → All (λ x. P (f x)) xs
all_unmapped P f [] h = All-nil (λ x. P (f x))
all_unmapped P f (x ∷ xs) h = All-cons (λ y. P (f y)) x xs (All-head P (f x) (map f xs) h) (all_unmapped P f xs (All-tail P (f x) (map f xs) h))

pub field_names_same : (fs : List FieldDef) → map (λ (f : types.Field). f.name) (map field_of fs) ≡ map (λ f. f.name) fs
field_names_same [] = refl
field_names_same (f ∷ fs) = ap (λ ns. f.name ∷ ns) (field_names_same fs)

pub struct_names_same : (ss : List StructDef) → struct_names (map struct_of ss) ≡ map (λ s. s.name) ss
struct_names_same [] = refl
struct_names_same (s ∷ ss) = ap (λ ns. s.name ∷ ns) (struct_names_same ss)

-- ---- fields of bit data

wishes_once : (before : List FieldWish) (ws : List FieldWish) (w : Word) → first_fault before ws ≡ None → Once (is_name_of before w) (times w (map (λ (x : FieldWish). x.name) ws))
wishes_once before [] w h = record { most = omega arith; never = λ e. refl }
wishes_once before (x ∷ ws) w h = go (is_name_of before x.name) refl (nat_eq x.width 0) h (λ rest. wishes_once (before ++ x ∷ []) ws w rest)
  where
    go : (a : Bool) → is_name_of before x.name ≡ a → (b : Bool) → cond a (Some (TwiceNamed (length before))) (cond b (Some (EmptyField (length before))) (first_fault (before ++ x ∷ []) ws)) ≡ None
        → (first_fault (before ++ x ∷ []) ws ≡ None → Once (is_name_of (before ++ x ∷ []) w) (times w (map (λ (y : FieldWish). y.name) ws))) → Once (is_name_of before w) (times w (map (λ (y : FieldWish). y.name) (x ∷ ws)))
    go true e b g ih = let no : ⊥ = cc in absurd no
    go false e true g ih = let no : ⊥ = cc in absurd no
    go false e false g ih =
        once_more (is_name_of before w) (same_word x.name w) (times w (map (λ (y : FieldWish). y.name) ws))
        (once_as (is_name_of before w || same_word x.name w) (is_name_of (before ++ x ∷ []) w) (times w (map (λ (y : FieldWish). y.name) ws)) (times w (map (λ (y : FieldWish). y.name) ws))
        (sym (any_last (λ (y : FieldWish). same_word y.name w) before x)) refl (ih g))
        (fresh_word (λ n. is_name_of before n) x.name w e)

wish_names_same : (fs : List FieldBits) → map (λ (x : FieldWish). x.name) (map wish_of fs) ≡ map (λ f. f.name) fs
wish_names_same [] = refl
wish_names_same (f ∷ fs) = ap (λ ns. f.name ∷ ns) (wish_names_same fs)

layout_apart : (l : BitLayout) → IsLayout l → AllDifferent (bit_fields l)
layout_apart l h =
    let s = stands l (wishes_of l) h.laid in
    subst AllDifferent (wish_names_same l.fields) (apart (map (λ (x : FieldWish). x.name) (wishes_of l)) (λ w. (wishes_once [] (wishes_of l) w s.faultless).most))

-- ---- parameters

params_once : {env : Env} {before : List Word} {params : List ParamSyntax} {ts : List ValueType} → Params env before params ts → (w : Word) → Once (has_word before w) (times w (map (λ (p : ParamSyntax). p.name.text) params))
params_once item.no_params w = record { most = omega arith; never = λ e. refl }
params_once {before = before} (item.more_params {p = p} {params = params} taken fresh named more) w =
    once_more (has_word before w) (same_word p.name.text w) (times w (map (λ (x : ParamSyntax). x.name.text) params))
    (once_as (has_word before w || same_word p.name.text w) (has_word (before ++ p.name.text ∷ []) w) (times w (map (λ (x : ParamSyntax). x.name.text) params)) (times w (map (λ (x : ParamSyntax). x.name.text) params)) (sym (word_after before p.name.text w)) refl (params_once more w))
    (fresh_word (has_word before) p.name.text w fresh)

params_outside : {env : Env} {before : List Word} {params : List ParamSyntax} {ts : List ValueType} → Params env before params ts → All (λ n. has_word env.names n ≡ false) (map (λ (p : ParamSyntax). p.name.text) params)
params_outside {env = env} item.no_params = All-nil (λ n. has_word env.names n ≡ false)
params_outside {env = env} (item.more_params {p = p} {params = params} taken fresh named more) = All-cons (λ n. has_word env.names n ≡ false) p.name.text (map (λ (x : ParamSyntax). x.name.text) params) taken (params_outside more)

pub param_names_are : {env : Env} {before : List Word} {params : List ParamSyntax} {ts : List ValueType} → Params env before params ts → map (λ x. x.name) (param_cores params ts) ≡ map (λ (p : ParamSyntax). p.name.text) params
param_names_are item.no_params = refl
param_names_are (item.more_params {p = p} taken fresh named more) = ap (λ ns. p.name.text ∷ ns) (param_names_are more)

record ParamsFine (names : List Word) (p : ProcCore) : Type 0 where
  different : AllDifferent (param_names p)
  outside : All (λ n. has_word names n ≡ false) (param_names p)

procs_fine : {names : List Word} {earlier end : Earlier} {items : List ItemSyntax} {bs : List BitLayout} {as' : List AreaCore} {is : List ImportCore} {ps : List ProcCore} → StandItems names earlier items end bs as' is ps → All (ParamsFine names) ps
procs_fine {names = names} rule.no_items = All-nil (ParamsFine names)
procs_fine (rule.bits s more) = procs_fine more
procs_fine (rule.struct s more) = procs_fine more
procs_fine (rule.area s more) = procs_fine more
procs_fine (rule.import s more) = procs_fine more
procs_fine {names = names} (rule.procedure {p = p} {c = c} {ps = ps} s more) =
    let same : map (λ (x : ParamSyntax). x.name.text) p.header.params ≡ param_names c = sym (ap (map (λ x. x.name)) s.params ∙ param_names_are s.header.params_stand) in
    All-cons (ParamsFine names) c ps
    (record {
      different = subst AllDifferent same (apart (map (λ (x : ParamSyntax). x.name.text) p.header.params) (λ w. (params_once s.header.params_stand w).most));
      outside = subst (All (λ n. has_word names n ≡ false)) same (params_outside s.header.params_stand);
    })
    (procs_fine more)

-- ---- each item of the core is one of the text

record Listed (names : List Word) (as' : List AreaCore) (is : List ImportCore) (ps : List ProcCore) : Type 0 where
  areas : All (λ n. has_word names n ≡ true) (map (λ a. a.name) as')
  imports : All (λ n. has_word names n ≡ true) (map (λ i. i.name) is)
  procs : All (λ n. has_word names n ≡ true) (map (λ p. p.name) ps)

listed_more : (names : List Word) (name : Word) (as' : List AreaCore) (is : List ImportCore) (ps : List ProcCore) → Listed names as' is ps → Listed (name ∷ names) as' is ps
listed_more names name as' is ps l =
    let more : (n : Word) → has_word names n ≡ true → has_word (name ∷ names) n ≡ true = λ n e. or_second (same_word name n) (has_word names n) e in
    record {
      areas = All-weaker (λ n. has_word names n ≡ true) (λ n. has_word (name ∷ names) n ≡ true) more (map (λ a. a.name) as') l.areas;
      imports = All-weaker (λ n. has_word names n ≡ true) (λ n. has_word (name ∷ names) n ≡ true) more (map (λ i. i.name) is) l.imports;
      procs = All-weaker (λ n. has_word names n ≡ true) (λ n. has_word (name ∷ names) n ≡ true) more (map (λ p. p.name) ps) l.procs;
    }
  where
    or_second : (a b : Bool) → b ≡ true → a || b ≡ true
    or_second true b h = refl
    or_second false b h = h

word_first : (name n : Word) (names : List Word) → n ≡ name → has_word (name ∷ names) n ≡ true
word_first name n names e = ap (λ b. b || has_word names n) (ap (same_word name) e ∙ same_self name)

items_listed : {names : List Word} {earlier end : Earlier} {items : List ItemSyntax} {bs : List BitLayout} {as' : List AreaCore} {is : List ImportCore} {ps : List ProcCore} → StandItems names earlier items end bs as' is ps → Listed (text.item_names items) as' is ps
items_listed rule.no_items = record { areas = All-nil (λ n. has_word [] n ≡ true); imports = All-nil (λ n. has_word [] n ≡ true); procs = All-nil (λ n. has_word [] n ≡ true) }
items_listed (rule.bits s more) = items_listed more
items_listed (rule.struct s more) = items_listed more
items_listed (rule.area {i = i} {items = items} {a = a} {as' = as'} {is = is} {ps = ps} s more) =
    let names : List Word = text.item_names items in
    let l = listed_more names i.name.text as' is ps (items_listed more) in
    record { areas = All-cons (λ n. has_word (i.name.text ∷ names) n ≡ true) a.name (map (λ x. x.name) as') (word_first i.name.text a.name names s.name) l.areas; imports = l.imports; procs = l.procs }
items_listed (rule.import {h = x} {items = items} {as' = as'} {i = c} {is = is} {ps = ps} s more) =
    let names : List Word = text.item_names items in
    let l = listed_more names x.name.text as' is ps (items_listed more) in
    record { areas = l.areas; imports = All-cons (λ n. has_word (x.name.text ∷ names) n ≡ true) c.name (map (λ y. y.name) is) (word_first x.name.text c.name names s.name) l.imports; procs = l.procs }
items_listed (rule.procedure {p = x} {items = items} {as' = as'} {is = is} {c = c} {ps = ps} s more) =
    let names : List Word = text.item_names items in
    let l = listed_more names x.header.name.text as' is ps (items_listed more) in
    record { areas = l.areas; imports = l.imports; procs = All-cons (λ n. has_word (x.header.name.text ∷ names) n ≡ true) c.name (map (λ y. y.name) ps) (word_first x.header.name.text c.name names s.name) l.procs }

-- ---- the whole

params_apart : (m : ModuleCore) (names : List Word) → All (λ n. has_word names n ≡ true) (item_names m) → (p : ProcCore) → ParamsFine names p → ParamsApart m p
params_apart m names listed p f = record {
  different = f.different;
  outside = All-weaker (λ n. has_word names n ≡ false) (λ n. Contains (item_names m) n → ⊥)
      (λ n e c. let t = All-contains (λ x. has_word names x ≡ true) (item_names m) n listed c in let no : ⊥ = let k = sym t ∙ e in cc in no) (param_names p) f.outside;
}

pub names_apart : (m : ModuleCore) (items : List ItemSyntax) (end : Earlier) → StandItems (text.item_names items) nothing_earlier items end m.layouts m.areas m.imports m.procs → structs_of m.structs ≡ end.structs → All IsLayout m.layouts → NamesApart m
names_apart m items end stand e layouts =
    let names : List Word = text.item_names items in
    let l = items_listed stand in
    let listed : All (λ n. has_word names n ≡ true) (item_names m) =
    All-append (λ n. has_word names n ≡ true) (map (λ a. a.name) m.areas) (map (λ i. i.name) m.imports ++ map (λ p. p.name) m.procs) l.areas
    (All-append (λ n. has_word names n ≡ true) (map (λ i. i.name) m.imports) (map (λ p. p.name) m.procs) l.imports l.procs) in
    record {
      items = apart (item_names m)
          (λ w. let o = (items_once stand w).most in
          omega (arith, o, times_both w (map (λ a. a.name) m.areas) (map (λ i. i.name) m.imports ++ map (λ p. p.name) m.procs), times_both w (map (λ i. i.name) m.imports) (map (λ p. p.name) m.procs)));
      types = apart (type_names m)
          (λ w. let o = types_once stand (λ v. omega arith) w in
          let s : times w (struct_names end.structs) ≡ times w (map (λ s. s.name) m.structs.structs) = ap (λ ss. times w (struct_names ss)) (sym e) ∙ ap (times w) (struct_names_same m.structs.structs) in
          let b : times w (bits_names end.bits) ≡ times w (map (λ l. l.name) m.layouts) = ap (times w) (layouts_named stand) in
          omega (arith, o, s, b, times_both w (map (λ s. s.name) m.structs.structs) (map (λ l. l.name) m.layouts)));
      struct_fields = All-weaker (λ (d : StructDef). FieldsApart (struct_of d)) (λ d. AllDifferent (struct_fields d)) (λ d h. subst AllDifferent (field_names_same d.fields) h) m.structs.structs
          (all_unmapped FieldsApart struct_of m.structs.structs (subst (All FieldsApart) (sym e) (structs_apart stand (All-nil FieldsApart))));
      bit_fields = All-weaker IsLayout (λ l. AllDifferent (bit_fields l)) layout_apart m.layouts layouts;
      params = All-weaker (ParamsFine names) (ParamsApart m) (params_apart m names listed) m.procs (procs_fine stand);
    }
