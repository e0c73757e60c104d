-- The first values of an area of the module fit its cells, one a cell.
use Rattle.std.proofs.Common.{◌≡◌, ℕ, zero, suc, ◌+◌, ◌*◌, ◌-◌, ◌<◌, ◌≤◌, ℤ, List, [], ◌∷◌, ◌++◌, length, slice_get, take, drop, Some, option_map, true, false, IsTrue, refl, sym, ◌∙◌, ap, subst, arith, length-append, take-append-drop, length-take-le}
use Rattle.std.specs.List.{list_all}
use Rattle.iv_words.specs.declared.IntKind.{IntKind}
use Rattle.ivory_tree.specs.Syntax as syntax
use Rattle.ivory_tree.specs.Syntax.{ExprSyntax, InitSyntax, InitsSyntax}
use Rattle.ivory_tree.specs.declared.items.BitsItem.{BitsItem}
use Rattle.type_trees.specs.Trees as trees
use Rattle.type_trees.specs.Trees.{repeated, scalars, scalars_row, count, count_row}
use Rattle.type_trees.proofs.Scalars.{length_repeated, length_scalars, length_scalars_row}
use Rattle.area_types.specs.Syntax as types
use Rattle.area_types.specs.Syntax.{ValueType, Area, StructType}
use Rattle.area_types.specs.Tables.{Table, is_length, is_made_of, is_field, has_index_lengths, fits_after, fit_after}
use Rattle.area_types.specs.Trees.{Written, tree_of, fields_from, fields_of, trees_of}
use Rattle.area_types.proofs.Truths.{both, also}
use Rattle.area_types.proofs.Written.{struct_found}
use Rattle.area_types.proofs.Sound.{fitting, length-trees_of}
use Rattle.core_tree.specs.Syntax as core
use Rattle.core_tree.specs.Syntax.{ExprCore, InitCore, InitsCore, type_of}
use Rattle.core_tree.specs.Types.{is_word, is_value}
use Rattle.core_tree.specs.TypedItems.{ValuesFit}
use Rattle.source_types.specs.Environments.{Earlier, words}
use Rattle.source_types.specs.Parts.{word_type}
use Rattle.source_types.specs.Settled.{settled}
use Rattle.source_types.specs.Values.{holds}
use Rattle.typing_rules.specs.Environments.{Env}
use Rattle.typing_rules.specs.Expressions as rule
use Rattle.typing_rules.specs.Expressions.{Has, Under}
use Rattle.typing_rules.specs.Initializers as fills
use Rattle.typing_rules.specs.Initializers.{Fills, FillElements, FillFields, is_number, is_constant, has_constants, have_constants, constant_of, zeros, cell_values, element_values, field_values}
use Rattle.typing_laws.proofs.Lookups.{mapped, and_both}
use Rattle.typing_laws.proofs.TypesAgree.{has_settled}
use Rattle.core_validity.proofs.Lists.{Begins, begins_at, get_mapped, get_within}
use Rattle.core_validity.proofs.Sizes.{written_more, made_within}
use Rattle.core_validity.proofs.Values.{fit_both, so_many_zeros, zero_repeated, ZeroTree, zero_tree, zero_row, zero_table}

-- ---- constants

number_unsettled : (e : ExprSyntax) → is_number e ≡ true → settled e ≡ false
number_unsettled (syntax.Literal s v) h = refl
number_unsettled (syntax.Truth s b) h = let no : ⊥ = cc in absurd no
number_unsettled (syntax.Outcome s) h = let no : ⊥ = cc in absurd no
number_unsettled (syntax.Variable s name) h = let no : ⊥ = cc in absurd no
number_unsettled (syntax.Cast s kind e) h = let no : ⊥ = cc in absurd no
number_unsettled (syntax.ToIndex s n e) h = let no : ⊥ = cc in absurd no
number_unsettled (syntax.WrapIndex s n e) h = let no : ⊥ = cc in absurd no
number_unsettled (syntax.MakeBits s name e) h = let no : ⊥ = cc in absurd no
number_unsettled (syntax.Raw s e) h = let no : ⊥ = cc in absurd no
number_unsettled (syntax.SetField s e field value) h = let no : ⊥ = cc in absurd no
number_unsettled (syntax.Prefix s op e) h = let no : ⊥ = cc in absurd no
number_unsettled (syntax.Binary s op at left right) h = let no : ⊥ = cc in absurd no
number_unsettled (syntax.Field s e field) h = let no : ⊥ = cc in absurd no
number_unsettled (syntax.Element s brackets e index) h = let no : ⊥ = cc in absurd no
number_unsettled (syntax.Cond s test first second) h = let no : ⊥ = cc in absurd no
number_unsettled (syntax.Bare s e) h = let no : ⊥ = cc in absurd no

value_held : (table : Table) (t : ValueType) (v : ℤ) → IsTrue (holds t v) → IsTrue (is_value table t v)
value_held table types.Truth v h = absurd (cc)
value_held table (types.Int kind) v h = h
value_held table (types.Ix n) v h = h
value_held table (types.Bits k) v h = absurd (cc)
value_held table (types.Ref c r a) v h = absurd (cc)

-- a number of which a type is wanted is one that the type holds
number_under : {env : Env} {t : ValueType} {e : ExprSyntax} {c : ExprCore} → Under env t e c → is_number e ≡ true → IsTrue (holds t (constant_of c))
number_under (rule.has {e = e} h q) n = let s = number_unsettled e n in let k = has_settled h in let no : ⊥ = cc in absurd no
number_under (rule.literal h) n = h
number_under (rule.signed_under a s u p l) n = let no : ⊥ = cc in absurd no
number_under (rule.operated_under g s r u v i k) n = let no : ⊥ = cc in absurd no
number_under (rule.choice_under u s r v w) n = let no : ⊥ = cc in absurd no

-- of bit data a number is that of their word
bits_value : (table : Table) (earlier : Earlier) (k : ℕ) (word : ValueType) (v : ℤ) → Begins IntKind (words earlier) table.words → word_type earlier (types.Bits k) ≡ Some word → IsTrue (holds word v) → IsTrue (is_value table (types.Bits k) v)
bits_value table earlier k word v b h g =
    let p = mapped (λ (i : BitsItem). types.Int i.word) (slice_get earlier.bits k) word h in
    let at : slice_get table.words k ≡ Some p.value.word = begins_at (words earlier) table.words k p.value.word b (get_mapped (λ (i : BitsItem). i.word) earlier.bits k ∙ ap (option_map (λ (i : BitsItem). i.word)) p.there) in
    subst (λ o. IsTrue (is_word o v)) (sym at) (subst (λ t. IsTrue (holds t v)) p.is g)

settled_constant : {env : Env} {e : ExprSyntax} {c : ExprCore} → Has env e c → is_constant e ≡ true → (table : Table) → Begins IntKind (words env.earlier) table.words → IsTrue (is_value table (type_of c) (constant_of c))
settled_constant (rule.truth {b = true}) n table w = refl
settled_constant (rule.truth {b = false}) n table w = refl
settled_constant (rule.make_bits {env = env} {c = c} {k = k} {word = word} x y u) n table w = bits_value table env.earlier k word (constant_of c) w y (number_under u n)
settled_constant (rule.outcome h g) n table w = let no : ⊥ = cc in absurd no
settled_constant (rule.local h) n table w = let no : ⊥ = cc in absurd no
settled_constant (rule.area_name x h g k) n table w = let no : ⊥ = cc in absurd no
settled_constant (rule.cast h i l) n table w = let no : ⊥ = cc in absurd no
settled_constant (rule.cast_literal x u) n table w = let no : ⊥ = cc in absurd no
settled_constant (rule.to_index x h i l) n table w = let no : ⊥ = cc in absurd no
settled_constant (rule.wrap_index x h i) n table w = let no : ⊥ = cc in absurd no
settled_constant (rule.raw h x) n table w = let no : ⊥ = cc in absurd no
settled_constant (rule.set_field h k f x u l) n table w = let no : ⊥ = cc in absurd no
settled_constant (rule.negated u) n table w = let no : ⊥ = cc in absurd no
settled_constant (rule.read h s) n table w = let no : ⊥ = cc in absurd no
settled_constant (rule.signed a h p l) n table w = let no : ⊥ = cc in absurd no
settled_constant (rule.logical l u v) n table w = let no : ⊥ = cc in absurd no
settled_constant (rule.by_left l h u i k) n table w = let no : ⊥ = cc in absurd no
settled_constant (rule.by_right l x h u i k) n table w = let no : ⊥ = cc in absurd no
settled_constant (rule.bit_field h k t x) n table w = let no : ⊥ = cc in absurd no
settled_constant (rule.field h k t x) n table w = let no : ⊥ = cc in absurd no
settled_constant (rule.element h k u) n table w = let no : ⊥ = cc in absurd no
settled_constant (rule.choice_by_first u h v x) n table w = let no : ⊥ = cc in absurd no
settled_constant (rule.choice_by_second u x h v k) n table w = let no : ⊥ = cc in absurd no

constant_fits : {env : Env} {t : ValueType} {e : ExprSyntax} {c : ExprCore} → Under env t e c → is_constant e ≡ true → (table : Table) → Begins IntKind (words env.earlier) table.words → IsTrue (is_value table t (constant_of c))
constant_fits (rule.has {c = c} h q) n table w = subst (λ t. IsTrue (is_value table t (constant_of c))) q (settled_constant h n table w)
constant_fits (rule.literal {t = t} {v = v} h) n table w = value_held table t v h
constant_fits (rule.signed_under a s u p l) n table w = let no : ⊥ = cc in absurd no
constant_fits (rule.operated_under g s r u v i k) n table w = let no : ⊥ = cc in absurd no
constant_fits (rule.choice_under u s r v z) n table w = let no : ⊥ = cc in absurd no

-- ---- the structs of a table

fields_at : (words : List IntKind) (more done : List StructType) (k : ℕ) (s : StructType) → IsTrue (fit_after done words more) → slice_get more k ≡ Some s → IsTrue (list_all (is_field (length done + k) (length words)) s.fields)
fields_at words [] done k s h e = let no : ⊥ = cc in absurd no
fields_at words (x ∷ more) done zero s h e =
    let p = both (fits_after done words x) (fit_after (done ++ x ∷ []) words more) h in
    let same : x ≡ s = cc in
    let n : length done ≡ length done + 0 = omega arith in
    subst (λ m. IsTrue (list_all (is_field m (length words)) s.fields)) n (subst (λ (y : StructType). IsTrue (list_all (is_field (length done) (length words)) y.fields)) same (fitting done words x p.0).fields)
fields_at words (x ∷ more) done (suc k) s h e =
    let p = both (fits_after done words x) (fit_after (done ++ x ∷ []) words more) h in
    let n : length (done ++ x ∷ []) + k ≡ length done + suc k = omega (arith, length-append done (x ∷ [])) in
    subst (λ m. IsTrue (list_all (is_field m (length words)) s.fields)) n (fields_at words more (done ++ x ∷ []) k s p.1 e)

fields_within : (s t w : ℕ) (fs : List types.Field) → s ≤ t → IsTrue (list_all (is_field s w) fs) → IsTrue (list_all (is_field t w) fs)
fields_within s t w [] le h = refl
fields_within s t w (f ∷ fs) le h =
    let p = both (is_field s w f) (list_all (is_field s w) fs) h in
    let q = both (is_made_of s w f.area) (has_index_lengths f.area) p.0 in
    also (is_field t w f) (list_all (is_field t w) fs) (also (is_made_of t w f.area) (has_index_lengths f.area) (made_within s t w w f.area le (omega arith) q.0) q.1) (fields_within s t w fs le p.1)

fields_more : (ss more : List StructType) (w : ℕ) (i : ℕ) (fs : List types.Field) → IsTrue (list_all (is_field (length ss) w) fs) → fields_from i (trees_of (ss ++ more)) fs ≡ fields_from i (trees_of ss) fs
fields_more ss more w i [] h = refl
fields_more ss more w i (f ∷ fs) h =
    let p = both (is_field (length ss) w f) (list_all (is_field (length ss) w) fs) h in
    let q = both (is_made_of (length ss) w f.area) (has_index_lengths f.area) p.0 in
    ap (λ a. trees.Field i a (fields_from (suc i) (trees_of (ss ++ more)) fs)) (written_more ss more w f.area q.0) ∙ ap (trees.Field i (tree_of (trees_of ss) f.area)) (fields_more ss more w (suc i) fs p.1)

-- a struct, with its fields over all structs of the table
record StructThere (words : List IntKind) (ss : List StructType) (k : ℕ) (s : StructType) : Type 0 where
  fields : IsTrue (list_all (is_field (length ss) (length words)) s.fields)
  is : tree_of (trees_of ss) (types.Struct k) ≡ trees.Struct k (fields_of (trees_of ss) s.fields)

struct_there : (words : List IntKind) (ss : List StructType) (k : ℕ) (s : StructType) → IsTrue (fit_after [] words ss) → slice_get ss k ≡ Some s → StructThere words ss k s
struct_there words ss k s h e =
    let within : k < length ss = get_within ss k s e in
    let front : length (take k ss) ≡ k = length-take-le k ss (omega (arith, within)) in
    let own : IsTrue (list_all (is_field (length (take k ss)) (length words)) s.fields) = subst (λ m. IsTrue (list_all (is_field m (length words)) s.fields)) (let n : 0 + k ≡ length (take k ss) = omega (arith, front) in n) (fields_at words ss [] k s h e) in
    let same : fields_from 0 (trees_of (take k ss ++ drop k ss)) s.fields ≡ fields_from 0 (trees_of (take k ss)) s.fields = fields_more (take k ss) (drop k ss) (length words) 0 s.fields own in
    record {
      fields = fields_within (length (take k ss)) (length ss) (length words) s.fields (omega (arith, front, within)) own;
      is = struct_found ss k s e ∙ ap (trees.Struct k) (sym same ∙ ap (λ xs. fields_from 0 (trees_of xs) s.fields) (take-append-drop k ss));
    }

-- ---- values of initializers

-- the structs so far, their table, and what is there of both in the core's table
pub record Cells (table : Table) (ss : List StructType) (env : Env) : Type 0 where
  pub fits : IsTrue (fit_after [] table.words ss)
  pub words_begin : Begins IntKind (words env.earlier) table.words
  pub structs_are : (k : ℕ) (s : StructType) → slice_get env.earlier.structs k ≡ Some s → slice_get ss k ≡ Some s

-- the area is made of them
pub record CellArea (table : Table) (ss : List StructType) (a : Area) : Type 0 where
  pub of_structs : IsTrue (is_made_of (length ss) (length table.words) a)
  pub lengths : IsTrue (has_index_lengths a)

all_zero : (table : Table) (ss : List StructType) (a : Area) → IsTrue (fit_after [] table.words ss) → CellArea table ss a → ZeroTree table (tree_of (trees_of ss) a)
all_zero table ss a h c = zero_tree table (trees_of ss) (zero_table table ss h) a (subst (λ n. IsTrue (is_made_of n (length table.words) a)) (sym (length-trees_of ss)) c.of_structs) c.lengths

row_zero : (table : Table) (ss : List StructType) (i : ℕ) (fs : List types.Field) → IsTrue (fit_after [] table.words ss) → IsTrue (list_all (is_field (length ss) (length table.words)) fs) → ValuesFit table (scalars_row (fields_from i (trees_of ss) fs)) (zeros (count_row (fields_from i (trees_of ss) fs)))
row_zero table ss i fs h c =
    so_many_zeros table (scalars_row (fields_from i (trees_of ss) fs)) (count_row (fields_from i (trees_of ss) fs))
    (zero_row table (trees_of ss) (zero_table table ss h) i fs (subst (λ n. IsTrue (list_all (is_field n (length table.words)) fs)) (sym (length-trees_of ss)) c)) (length_scalars_row (fields_from i (trees_of ss) fs))

-- without an initializer all values are zero
pub zeros_in_area : (table : Table) (ss : List StructType) (a : Area) → IsTrue (fit_after [] table.words ss) → CellArea table ss a → ValuesFit table (scalars (tree_of (trees_of ss) a)) (zeros (count (tree_of (trees_of ss) a)))
zeros_in_area table ss a h c = so_many_zeros table (scalars (tree_of (trees_of ss) a)) (count (tree_of (trees_of ss) a)) (all_zero table ss a h c) (length_scalars (tree_of (trees_of ss) a))

element_in : (table : Table) (ss : List StructType) (n : ℕ) (a : Area) → CellArea table ss (types.Array n a) → CellArea table ss a
element_in table ss n a c = record { of_structs = (both (is_length n) (is_made_of (length ss) (length table.words) a) c.of_structs).1; lengths = c.lengths }

mutual
  pub cells_fit : {env : Env} {a : Area} {i : InitSyntax} {c : InitCore} → Fills env a i c → has_constants i ≡ true → (table : Table) (ss : List StructType) → Cells table ss env → CellArea table ss a
      → ValuesFit table (scalars (tree_of (trees_of ss) a)) (cell_values (tree_of (trees_of ss) a) c)
  cells_fit (fills.stored {t = t} u) k table ss cells area = (constant_fits u k table cells.words_begin, tt)
  cells_fit (fills.array {n = n} {element = element} {cs = cs} fill) k table ss cells area = elements_fit fill k table ss cells (element_in table ss n element area)
  cells_fit (fills.struct {k = b} {struct_type = s} {cs = cs} there fill) k table ss cells area =
      let p = struct_there table.words ss b s cells.fits (cells.structs_are b s there) in
      subst (λ w. ValuesFit table (scalars w) (cell_values w (core.Many cs))) (sym p.is) (fields_fit fill k table ss cells 0 p.fields)

  elements_fit : {env : Env} {n : ℕ} {element : Area} {is : InitsSyntax} {cs : InitsCore} → FillElements env n element is cs → have_constants is ≡ true → (table : Table) (ss : List StructType) → Cells table ss env → CellArea table ss element
      → ValuesFit table (repeated n (scalars (tree_of (trees_of ss) element))) (element_values n (tree_of (trees_of ss) element) cs)
  elements_fit (fills.no_elements {n = n} {element = element}) k table ss cells area =
      let a : Written = tree_of (trees_of ss) element in
      so_many_zeros table (repeated n (scalars a)) (n * count a) (zero_repeated table n (scalars a) (all_zero table ss element cells.fits area)) (length_repeated n (scalars a) ∙ ap (λ m. n * m) (length_scalars a))
  elements_fit (fills.more_elements {n = n} {element = element} {i = i} {is = is} {c = c} {cs = cs} fill more) k table ss cells area =
      let a : Written = tree_of (trees_of ss) element in
      let p = and_both (has_constants i) (have_constants is) k in
      let less : n ≡ suc n - 1 = omega arith in
      fit_both table (scalars a) (repeated n (scalars a)) (cell_values a c) (element_values (suc n - 1) a cs) (cells_fit fill p.0 table ss cells area)
      (subst (λ m. ValuesFit table (repeated n (scalars a)) (element_values m a cs)) less (elements_fit more p.1 table ss cells area))

  fields_fit : {env : Env} {fs : List types.Field} {is : InitsSyntax} {cs : InitsCore} → FillFields env fs is cs → have_constants is ≡ true → (table : Table) (ss : List StructType) → Cells table ss env → (j : ℕ)
      → IsTrue (list_all (is_field (length ss) (length table.words)) fs) → ValuesFit table (scalars_row (fields_from j (trees_of ss) fs)) (field_values (fields_from j (trees_of ss) fs) cs)
  fields_fit (fills.no_fields {fields = fs}) k table ss cells j area = row_zero table ss j fs cells.fits area
  fields_fit (fills.more_fields {f = f} {fields = fs} {i = i} {is = is} {c = c} {cs = cs} fill more) k table ss cells j area =
      let p = and_both (has_constants i) (have_constants is) k in
      let q = both (is_field (length ss) (length table.words) f) (list_all (is_field (length ss) (length table.words)) fs) area in
      let r = both (is_made_of (length ss) (length table.words) f.area) (has_index_lengths f.area) q.0 in
      fit_both table (scalars (tree_of (trees_of ss) f.area)) (scalars_row (fields_from (suc j) (trees_of ss) fs)) (cell_values (tree_of (trees_of ss) f.area) c) (field_values (fields_from (suc j) (trees_of ss) fs) cs)
      (cells_fit fill p.0 table ss cells (record { of_structs = r.0; lengths = r.1 })) (fields_fit more p.1 table ss cells (suc j) q.1)
