-- An expression or a place whose demands are kept has a type, and knows the tags in it.
use Rattle.std.proofs.Common.{◌≡◌, ℕ, true, false, not, Bool, List, [], Option, Some, None, refl, sym, subst, ap, ◌∙◌}
use Rattle.std.specs.Prelude.{◌&&◌, ◌||◌, if◌then◌else◌}
use Rattle.std.specs.Option.{is_some, option_map}
use Rattle.std.proofs.lemmas.Bool.{and_parts, and_from}
use Rattle.c_ast.specs.declared.CBase.TheVariants as base
use Rattle.c_ast.specs.declared.CBinary.{CBinary}
use Rattle.c_ast.specs.declared.CStruct.{CStruct}
use Rattle.c_ast.specs.declared.CType.{CType}
use Rattle.c_ast.specs.declared.CType.TheVariants.{Void, Value, Pointer}
use Rattle.c_ast.specs.declared.CUnary.{CUnary}
use Rattle.c_ast.specs.declared.Target.{Target}
use Rattle.c_ast.specs.Conversions.{constant_type}
use Rattle.c_ast.specs.Names.{named}
use Rattle.c_ast.specs.StaticTypes.{ValueType, Arithmetic, PointerTo, PlaceType, Held, Stored, Scope, declared, of_unary, of_binary, of_choice, of_cast, of_entity, of_pointee, of_member, of_element, of_read, of_address, of_both, member_tree, expr_type, place_type}
use Rattle.c_ast.specs.Syntax.{Name, Expr, Number, Read, Address, Unary, Binary, Cast, Cond, Place, Var, At, Member, Element}
use Rattle.c_ast.specs.Targets.{TargetTable, table_of}
use Rattle.type_trees.specs.Trees.{Leaf, Many, Struct}
use Rattle.c_text.specs.ExpressionRules.{is_number, is_pointer, is_struct, is_array, has_member, type_demands, is_known_type, tags_known, place_tags_known, type_of, place_of, expr_demands, place_demands}
use Rattle.c_text.specs.Rules.{where_typed}
use Rattle.c_text.specs.Scopes.{Names, is_function, is_value, usable}
use Rattle.c_soundness.proofs.Kept.{Kept, front, rest, asked, others, Found, found, found_map, then_found, tested}

-- ---- what the rules of one form say of types

module _ (t : TargetTable) where
  unary_is : (op : CUnary) (v : ValueType) → is_number v ≡ true → Found (of_unary t op v)
  unary_is op (Arithmetic k) h = record { value = _; is = refl }
  unary_is op (PointerTo constant b) h = let no : ⊥ = cc in absurd no

  binary_is : (op : CBinary) (v w : ValueType) → is_number v ≡ true → is_number w ≡ true → Found (of_binary t op v w)
  binary_is op (Arithmetic k) (Arithmetic l) h g = record { value = _; is = refl }
  binary_is op (Arithmetic k) (PointerTo constant b) h g = let no : ⊥ = cc in absurd no
  binary_is op (PointerTo constant b) w h g = let no : ⊥ = cc in absurd no

  choice_is : (c v w : ValueType) → is_number c ≡ true → is_number v ≡ true → is_number w ≡ true → Found (of_choice t c v w)
  choice_is (Arithmetic m) (Arithmetic k) (Arithmetic l) f h g = record { value = _; is = refl }
  choice_is (Arithmetic m) (Arithmetic k) (PointerTo constant b) f h g = let no : ⊥ = cc in absurd no
  choice_is (Arithmetic m) (PointerTo constant b) w f h g = let no : ⊥ = cc in absurd no
  choice_is (PointerTo constant b) v w f h g = let no : ⊥ = cc in absurd no

pointee_is : (structs : List CStruct) (v : ValueType) → is_pointer v ≡ true → Found (of_pointee structs v)
pointee_is structs (Arithmetic k) h = let no : ⊥ = cc in absurd no
pointee_is structs (PointerTo constant b) h = record { value = _; is = refl }

member_is : (m : Name) (q : PlaceType) → is_struct q ≡ true → has_member m q ≡ true → Found (of_member m q)
member_is m (Held v) h g = let no : ⊥ = cc in absurd no
member_is m (Stored constant (Leaf s)) h g = let no : ⊥ = cc in absurd no
member_is m (Stored constant (Many n a)) h g = let no : ⊥ = cc in absurd no
member_is m (Stored constant (Struct k r)) h g = found_map (Stored constant) (member_tree r m) (found (member_tree r m) g)

element_is : (q : PlaceType) (v : ValueType) → is_array q ≡ true → is_number v ≡ true → Found (of_element q v)
element_is (Held w) v h g = let no : ⊥ = cc in absurd no
element_is (Stored constant (Leaf s)) v h g = let no : ⊥ = cc in absurd no
element_is (Stored constant (Struct k r)) v h g = let no : ⊥ = cc in absurd no
element_is (Stored constant (Many n a)) (Arithmetic k) h g = record { value = _; is = refl }
element_is (Stored constant (Many n a)) (PointerTo c b) h g = let no : ⊥ = cc in absurd no

-- of two types
both_found : {A B C : Type 0} (f : A → B → Option C) (r : Option A) (q : Option B) (a : A) (b : B) → r ≡ Some a → q ≡ Some b → Found (f a b) → Found (of_both f r q)
both_found f r q a b ra qb x = subst (λ z. Found (of_both f z q)) (sym ra) (then_found (f a) q b qb x)

-- a name that is used: it has a value's or an object's declaration, and stands in a function
used_name : (a b c : Bool) → (a || b) ≡ true → not b ≡ true → (c || not a) ≡ true → (a ≡ true) × (c ≡ true)
used_name true false true h g f = (refl, refl)
used_name true false false h g f = let no : ⊥ = cc in absurd no
used_name true true c h g f = let no : ⊥ = cc in absurd no
used_name false true c h g f = let no : ⊥ = cc in absurd no
used_name false false c h g f = let no : ⊥ = cc in absurd no

module _ (target : Target) (names : Names) where
  abbrev t : TargetTable
  t = table_of target

  abbrev scope : Scope
  scope = declared (usable names)

  abbrev said : Expr → Option ValueType
  said e = expr_type t names.structs scope e

  abbrev said_place : Place → Option PlaceType
  said_place place = place_type t names.structs scope place

  pub record ExprIs (e : Expr) : Type 0 where
    pub tags : tags_known names e ≡ true
    pub found : Found (said e)

  pub record PlaceIs (place : Place) : Type 0 where
    pub tags : place_tags_known names place ≡ true
    pub found : Found (said_place place)

  pub type_said : (e : Expr) (x : ExprIs e) → type_of target names e ≡ Some x.found.value
  type_said e x = ap (λ b. let r : Option ValueType = if b then said e else None in r) x.tags ∙ x.found.is

  pub place_said : (place : Place) (x : PlaceIs place) → place_of target names place ≡ Some x.found.value
  place_said place x = ap (λ b. let r : Option PlaceType = if b then said_place place else None in r) x.tags ∙ x.found.is

  type_tags : (ty : CType) (at : ℕ) → Kept (type_demands names at ty) → is_known_type names ty ≡ true
  type_tags Void at k = refl
  type_tags (Value s) at k = refl
  type_tags (Pointer constant (base.Scalar s)) at k = refl
  type_tags (Pointer constant (base.Struct tag)) at k = asked k refl

  -- a test of the type of a part
  pub test_of : (test : ValueType → Bool) (e : Expr) (x : ExprIs e) → where_typed test (type_of target names e) ≡ true → test x.found.value ≡ true
  test_of test e x h = tested test (type_of target names e) x.found.value (type_said e x) h

  pub place_test : (test : PlaceType → Bool) (place : Place) (x : PlaceIs place) → where_typed test (place_of target names place) ≡ true → test x.found.value ≡ true
  place_test test place x h = tested test (place_of target names place) x.found.value (place_said place x) h

  var_found : (x : Name) → Found (named names.values x) → names.in_function ≡ true → Found (said_place (Var x))
  var_found x f within = subst (λ b. Found (option_map (of_entity names.structs) (declared (if b then names.values else []) x))) (sym within) (found_map (of_entity names.structs) (named names.values x) f)

  mutual
    pub expr_is : (e : Expr) (at : ℕ) → Kept (expr_demands target names at e) → ExprIs e
    expr_is (Number v suffix) at k = record { tags = refl; found = found_map _ (constant_type target suffix v) (found (constant_type target suffix v) (asked k refl)) }
    expr_is (Read place) at k =
        let x = place_is place _ (others k) in
        record { tags = x.tags; found = then_found of_read (said_place place) x.found.value x.found.is (found (of_read x.found.value) (place_test (λ p. is_some (of_read p)) place x (asked k refl))) }
    expr_is (Address place) at k =
        let x = place_is place _ (others k) in
        record {
          tags = x.tags;
          found = then_found of_address (said_place place) x.found.value x.found.is (found (of_address x.found.value) (place_test (λ p. is_some (of_address p)) place x (and_parts _ _ (asked k refl)).1));
        }
    expr_is (Unary op e) at k =
        let x = expr_is e _ (others k) in
        record { tags = x.tags; found = then_found (of_unary t op) (said e) x.found.value x.found.is (unary_is t op x.found.value (test_of is_number e x (asked k refl))) }
    expr_is (Binary op a b) at k =
        let x = expr_is a _ (front _ _ (others k)) in
        let y = expr_is b _ (rest _ _ (others k)) in
        let tests = and_parts _ _ (asked k refl) in
        record {
          tags = and_from (tags_known names a) (tags_known names b) x.tags y.tags;
          found = both_found (of_binary t op) (said a) (said b) x.found.value y.found.value x.found.is y.found.is (binary_is t op x.found.value y.found.value (test_of is_number a x tests.0) (test_of is_number b y tests.1));
        }
    expr_is (Cast to e) at k =
        let x = expr_is e _ (rest _ _ (others k)) in
        record {
          tags = and_from (is_known_type names to) (tags_known names e) (type_tags to _ (front _ _ (others k))) x.tags;
          found = then_found (of_cast to) (said e) x.found.value x.found.is (found (of_cast to x.found.value) (test_of (λ v. is_some (of_cast to v)) e x (asked k refl)));
        }
    expr_is (Cond c a b) at k =
        let x = expr_is c _ (front _ _ (front _ _ (others k))) in
        let y = expr_is a _ (rest _ _ (front _ _ (others k))) in
        let z = expr_is b _ (rest _ _ (others k)) in
        let tests = and_parts _ _ (asked k refl) in
        let more = and_parts _ _ tests.0 in
        record {
          tags = and_from (tags_known names c && tags_known names a) (tags_known names b) (and_from (tags_known names c) (tags_known names a) x.tags y.tags) z.tags;
          found = then_found (λ test. of_both (of_choice t test) (said a) (said b)) (said c) x.found.value x.found.is
              (both_found (of_choice t x.found.value) (said a) (said b) y.found.value z.found.value y.found.is z.found.is
              (choice_is t x.found.value y.found.value z.found.value (test_of is_number c x more.0) (test_of is_number a y more.1) (test_of is_number b z tests.1)));
        }

    pub place_is : (place : Place) (at : ℕ) → Kept (place_demands target names at place) → PlaceIs place
    place_is (Var x) at k =
        let u = used_name (is_value names x) (is_function names x) names.in_function (asked k refl) (asked (others k) refl) (asked (others (others k)) refl) in
        record { tags = refl; found = var_found x (found (named names.values x) u.0) u.1 }
    place_is (At e) at k =
        let x = expr_is e _ (others k) in
        record { tags = x.tags; found = then_found (of_pointee names.structs) (said e) x.found.value x.found.is (pointee_is names.structs x.found.value (test_of is_pointer e x (asked k refl))) }
    place_is (Member place m) at k =
        let x = place_is place _ (front _ _ (others k)) in
        record {
          tags = x.tags;
          found = then_found (of_member m) (said_place place) x.found.value x.found.is
              (member_is m x.found.value (place_test is_struct place x (asked k refl)) (place_test (has_member m) place x (asked (rest _ _ (others k)) refl)));
        }
    place_is (Element place e) at k =
        let x = place_is place _ (front _ _ (front _ _ (others k))) in
        let y = expr_is e _ (rest _ _ (others k)) in
        record {
          tags = and_from (place_tags_known names place) (tags_known names e) x.tags y.tags;
          found = both_found of_element (said_place place) (said e) x.found.value y.found.value x.found.is y.found.is
              (element_is x.found.value y.found.value (place_test is_array place x (asked k refl)) (test_of is_number e y (asked (rest _ _ (front _ _ (others k))) refl)));
        }
