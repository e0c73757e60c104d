-- Places of parts: the members of a struct stand where its fields do, and `&` and `*` of a part lead there and back.
use Rattle.std.proofs.Common.{◌≡◌, ◌≢◌, ℕ, zero, suc, ◌+◌, ◌*◌, ◌<◌, ◌≤◌, pos, int_le, int_lt, List, [], ◌∷◌, ◌++◌, length, map, slice_get, unwrap_or, Option, Some, None, Ok, Err, Bool, true, false, ◌&&◌, if◌then◌else◌, refl, sym, ◌∙◌, ap, subst, arith, ⊎_elim}
use Rattle.std.proofs.lemmas.Bool.{lt-ltb}
use Rattle.std.proofs.lemmas.Int.{ints}
use Rattle.iv_words.specs.Words.{same_word}
use Rattle.iv_words.proofs.Equality.{same_self, same_not}
use Rattle.run_records.specs.declared.Reason.TheVariants.{Bounds}
use Rattle.type_trees.specs.Trees.{Leaf, Many, Struct, End, Field, part, part_row}
use Rattle.type_trees.specs.Layouts.{Metric, align, size, offset_row}
use Rattle.type_trees.proofs.Multiples.{up_none}
use Rattle.type_trees.proofs.Paths.{part_append}
use Rattle.area_types.specs.Syntax as types
use Rattle.area_types.specs.View.{struct_of}
use Rattle.area_types.specs.Trees.{Written, WrittenRow, tree_of, fields_from, fields_of, trees_from, trees_of}
use Rattle.c_ast.specs.declared.CScalar.{CScalar}
use Rattle.c_ast.specs.Scalars.{metric_of}
use Rattle.c_ast.specs.StaticTypes.{member_tree}
use Rattle.c_ast.specs.Structs.{CTree, CRow, index_of}
use Rattle.c_meaning.specs.Places.{Located, member_of, element_of, part_at, behind}
use Rattle.c_meaning.specs.Values.{Undefined, Address, Num, on_ok}
use Rattle.area_objects.specs.Shapes.{Naming, shape, members, c_path_row, place}
use Rattle.area_objects.specs.Located.{many_fields, Numbered, NumberedFrom, begins, located}
use Rattle.area_objects.specs.PlaceLaws.{FieldsInOrder, FieldsLocated, ElementsLocated, PartsPointedTo}
use Rattle.area_objects.proofs.Places.{get_append_cases}
use Rattle.area_objects.proofs.Shapes.{place_append, place_element}

-- ---- fields in order

abbrev AllNumbered : List Written → Type 0
AllNumbered trees = (k : ℕ) (a : Written) → slice_get trees k ≡ Some a → Numbered a

struct_numbered : (trees : List Written) (k : ℕ) → AllNumbered trees → Numbered (unwrap_or (slice_get trees k) (Struct k End))
struct_numbered trees k h = go (slice_get trees k) refl
  where
    go : (x : Option Written) → slice_get trees k ≡ x → Numbered (unwrap_or x (Struct k End))
    go None e = tt
    go (Some a) e = h k a e

tree_numbered : (trees : List Written) (area : types.Area) → AllNumbered trees → Numbered (tree_of trees area)
tree_numbered trees (types.Stored held) h = tt
tree_numbered trees (types.Array n element) h = tree_numbered trees element h
tree_numbered trees (types.Struct k) h = struct_numbered trees k h

fields_numbered : (trees : List Written) (fs : List types.Field) (i : ℕ) → AllNumbered trees → NumberedFrom (fields_from i trees fs) i
fields_numbered trees [] i h = tt
fields_numbered trees (f ∷ fs) i h = (refl, tree_numbered trees f.area h, fields_numbered trees fs (suc i) h)

trees_numbered : (ss : List types.StructType) (trees : List Written) → AllNumbered trees → AllNumbered (trees_from trees ss)
trees_numbered [] trees h = h
trees_numbered (s ∷ ss) trees h =
    let new : Written = Struct (length trees) (fields_of trees s.fields) in
    trees_numbered ss (trees ++ new ∷ [])
    (λ k a e. ⊎_elim (λ f. h k a f) (λ f. subst Numbered f.1 (fields_numbered trees s.fields 0 h)) (get_append_cases trees new a k e))

pub fields_in_order : FieldsInOrder
fields_in_order table area = (let ss = map struct_of table.structs in tree_numbered (trees_of ss) area (trees_numbered ss [] (λ k a e. absurd (cc))))

-- ---- a field

no_rest : (r : WrittenRow) (i : ℕ) → c_path_row r i [] ≡ []
no_rest End i = refl
no_rest (Field f a r) zero = refl
no_rest (Field f a r) (suc i) = no_rest r i

-- the member for field number n is at place f of a row that begins with number i
pub record MemberAt (g : Naming) (r : WrittenRow) (k n f : ℕ) (b : Written) : Type 0 where
  pub tree : member_tree (members g r k) (g.member k n) ≡ Some (shape g b)
  pub index : index_of (members g r k) (g.member k n) ≡ f

field_below : (r : WrittenRow) (f : ℕ) (b : Written) → part_row r f [] ≡ Some b → f < many_fields r
field_below End f b e = absurd (cc)
field_below (Field j a r) zero b e = omega arith
field_below (Field j a r) (suc f) b e = omega (arith, field_below r f b e)

-- the first so many fields of the struct of number k have names of their own
module _ (g : Naming) (k width : ℕ) (apart : (i j : ℕ) → i < width → j < width → g.member k i ≡ g.member k j → i ≡ j) where
  member_here : (r : WrittenRow) (n f : ℕ) (b : Written) → f ≡ n → MemberAt g (Field f b r) k n 0 b
  member_here r n f b e =
      let same : same_word (g.member k f) (g.member k n) ≡ true = ap (λ x. same_word (g.member k x) (g.member k n)) e ∙ same_self (g.member k n) in
      record {
        tree = ap (λ x. if x then Some (shape g b) else member_tree (members g r k) (g.member k n)) same;
        index = ap (λ x. if x then 0 else suc (index_of (members g r k) (g.member k n))) same;
      }

  member_later : (r : WrittenRow) (a : Written) (n j f : ℕ) (b : Written) → j < width → n < width → j ≢ n → MemberAt g r k n f b → MemberAt g (Field j a r) k n (suc f) b
  member_later r a n j f b low lower ne m =
      let other : same_word (g.member k j) (g.member k n) ≡ false = same_not (g.member k j) (g.member k n) (λ e. ne (apart j n low lower e)) in
      record {
        tree = ap (λ x. if x then Some (shape g a) else member_tree (members g r k) (g.member k n)) other ∙ m.tree;
        index = ap (λ x. if x then 0 else suc (index_of (members g r k) (g.member k n))) other ∙ ap suc m.index;
      }

  member_at : (r : WrittenRow) (i n f : ℕ) (b : Written) → NumberedFrom r i → i + many_fields r ≤ width → n ≡ i + f → part_row r f [] ≡ Some b → MemberAt g r k n f b
  member_at End i n f b h le e is = absurd (cc)
  member_at (Field j a r) i n zero b h le e is =
      let same : a ≡ b = cc in
      subst (λ x. MemberAt g (Field j a r) k n 0 x) same (member_here r n j a (omega (arith, h.0, e)))
  member_at (Field j a r) i n (suc f) b h le e is =
      member_later r a n j f b (omega (arith, h.0, le)) (omega (arith, e, le, field_below r f b is)) (λ q. omega (arith, q, h.0, e)) (member_at r (suc i) n f b h.2 (omega (arith, le)) (omega (arith, e)) is)

-- a part of an object, by the equation of its offset
at_offset : (c : Bool) (o x y : ℕ) (a : CTree) → x ≡ y → Located c (record { object = o; offset = x }) a ≡ Located c (record { object = o; offset = y }) a
at_offset c o x y a e = ap (λ n. Located c (record { object = o; offset = n }) a) e

pub fields_located : FieldsLocated
fields_located t g c o ty p k r f b apart numbered leads is =
    let m : Metric CScalar = metric_of t in
    let to : Address = begins t g o ty p in
    let row : CRow = members g r k in
    let found = member_at g k (many_fields r) apart r 0 f f b numbered (omega arith) (omega arith) is in
    let offset_is : offset_row m row (index_of row (g.member k f)) [] 0 ≡ place m g (Struct k r) (f ∷ []) =
    ap (λ j. offset_row m row j [] 0) found.index ∙ ap (λ q. offset_row m row f q 0) (sym (no_rest r f)) in (
      part_append ty p (f ∷ []) (Struct k r) leads ∙ is,
      ap (part_at c (behind to (offset_row m row (index_of row (g.member k f)) [] 0))) found.tree
          ∙ ap Ok (at_offset c o (place m g ty p + offset_row m row (index_of row (g.member k f)) [] 0) (place m g ty (p ++ f ∷ [])) (shape g b)
          (omega (arith, offset_is, place_append m g ty p (f ∷ []) (Struct k r) leads))),
    )

-- ---- an element

in_bounds : (i n : ℕ) → i < n → (int_le (pos 0) (pos i) && int_lt (pos i) (pos n)) ≡ true
in_bounds i n h = grind (arith, ints, h)

pub elements_located : ElementsLocated
elements_located t g c o ty p n i b kind leads low =
    let m : Metric CScalar = metric_of t in
    let to : Address = begins t g o ty p in
    let row : CRow = Field g.elements (Many n (shape g b)) End in
    let self : same_word g.elements g.elements ≡ true = same_self g.elements in
    let x : ℕ = offset_row m row (index_of row g.elements) [] 0 in
    let start : x ≡ 0 = ap (λ z. offset_row m row (if z then 0 else 1) [] 0) self ∙ omega (arith, up_none (align m (shape g b))) in
    let there : part (Many n b) (i ∷ []) ≡ Some b = ap (λ z. if z then Some b else None) (lt-ltb i n low) in
    let array : member_of t g.elements (located t g c o ty p (Many n b)) ≡ Ok (Located c (behind to x) (Many n (shape g b))) =
    ap (λ z. part_at c (behind to x) (if z then Some (Many n (shape g b)) else None)) self in (
      part_append ty p (i ∷ []) (Many n b) leads ∙ there,
      ap (λ l. on_ok l (λ q. element_of t q (Num kind (pos i)))) array
          ∙ ap (λ z. if z then Ok (Located c (behind (behind to x) (i * size m (shape g b))) (shape g b)) else Err (Undefined Bounds)) (in_bounds i n low)
          ∙ ap Ok (at_offset c o (place m g ty p + x + i * size m (shape g b)) (place m g ty (p ++ i ∷ [])) (shape g b)
          (omega (arith, start, place_append m g ty p (i ∷ []) (Many n b) leads, place_element m g n i b))),
    )

-- ---- pointers

pub parts_pointed_to : PartsPointedTo
parts_pointed_to t g structs c o ty p (Leaf s) typed = (refl, ap (λ a. Ok (Located c (begins t g o ty p) a)) typed)
parts_pointed_to t g structs c o ty p (Many n a) typed = (refl, ap (λ a. Ok (Located c (begins t g o ty p) a)) typed)
parts_pointed_to t g structs c o ty p (Struct k r) typed = (refl, ap (λ a. Ok (Located c (begins t g o ty p) a)) typed)
