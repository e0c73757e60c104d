-- What expressions, places, arguments and initializers come to where their demands are kept, in a state that has their names.
use Rattle.std.proofs.Common.{◌≡◌, ℕ, zero, suc, ℤ, pos, Bool, true, List, [], ◌∷◌, length, Option, Some, Result, Ok, Err, refl, sym, subst, arith}
use Rattle.std.specs.Prelude.{⊤, IsTrue}
use Rattle.std.proofs.lemmas.List.{map-id}
use Rattle.iv_words.specs.Kinds.{in_range}
use Rattle.iv_words.specs.declared.IntKind.{IntKind}
use Rattle.iv_words.specs.declared.IntKind.TheVariants.{U8, U16, U32, U64, I8, I16, I32, I64}
use Rattle.type_trees.specs.Trees as trees
use Rattle.type_trees.specs.Trees.{Leaf, Struct, End, Field}
use Rattle.type_trees.specs.Layouts.{lay}
use Rattle.type_trees.specs.Values.{cells}
use Rattle.c_memory.specs.Initializers as inits
use Rattle.c_memory.specs.Initializers.{EachInit, IsInit, AreInits, initial}
use Rattle.c_memory.specs.Seen.{EachFits}
use Rattle.c_memory.proofs.Cells.{fits_each}
use Rattle.c_memory.proofs.Initializers.{initial_fits}
use Rattle.c_ast.specs.declared.CKind.TheVariants.{Scalar}
use Rattle.c_ast.specs.declared.CScalar.{CScalar}
use Rattle.c_ast.specs.declared.CScalar.TheVariants.{Truth, Int}
use Rattle.c_ast.specs.declared.CType.{CType}
use Rattle.c_ast.specs.declared.CType.TheVariants.{Value}
use Rattle.c_ast.specs.declared.Target.{Target}
use Rattle.c_ast.specs.Scalars.{metric_of}
use Rattle.c_ast.specs.StaticTypes.{ValueType, PlaceType, declared, may_be_given, expr_type, place_type}
use Rattle.c_ast.specs.Structs.{CTree, CRow}
use Rattle.c_ast.specs.Syntax.{Expr, Place, Init, One, Zero, Many, Inits, NoInits, MoreInits, TranslationUnit}
use Rattle.c_ast.specs.Targets.{table_of}
use Rattle.c_text.specs.ExpressionRules.{is_number, type_of, expr_demands, given_demands, args_demands, init_demands, elements_demands, members_demands}
use Rattle.c_text.specs.Rules.{where_typed}
use Rattle.c_text.specs.Scopes.{Names, usable}
use Rattle.c_meaning.specs.Values.{Trouble, Undefined, Stuck, CValue, Num, Ptr, held_type, is_true, on_ok, as_assigned}
use Rattle.c_meaning.specs.Memory.{CObjects, memory_of, nought}
use Rattle.c_meaning.specs.State.{Program, CState}
use Rattle.c_meaning.specs.Scopes.{scope_of}
use Rattle.c_meaning.specs.Places.{Lvalue}
use Rattle.c_meaning.specs.Expressions.{static_type, static_place_type, eval, eval_place, eval_all}
use Rattle.c_meaning.specs.Initializers.{eval_init, eval_inits, number_of, as_number, each_number, in_numbers, row_in_numbers, made_with}
use Rattle.c_meaning.specs.ExpressionLaws.{IsTyped, NamesAreTyped, place_type_of}
use Rattle.c_meaning.specs.Laws.{CanHold, watched}
use Rattle.c_meaning.proofs.Expressions.{PlaceComes, typed_comes, typed_place_comes}
use Rattle.c_soundness.proofs.Kept.{Kept, front, rest, asked, others}
use Rattle.c_soundness.proofs.Typed.{ExprIs, PlaceIs, expr_is, test_of}
use Rattle.c_soundness.proofs.Names.{Covers, type_stays, place_stays}
use Rattle.c_soundness.proofs.HeldMemory.{MemoryHeld, reads_held, initialize_held}
use Rattle.c_soundness.proofs.Given.{Good, good_on_ok, IsOf, comes_good, IsGiven, Holds, assigned_good, AreGiven}

module _ (u : TranslationUnit) (target : Target) where
  abbrev p : Program
  p = watched u target

  -- a state in which what the rules take to be in scope is there, as it was declared
  pub record Ready (names : Names) (s : CState) : Type 0 where
    pub structs : names.structs ≡ u.structs
    pub typed : NamesAreTyped (table_of target) s
    pub covers : Covers (declared (usable names)) (scope_of (watched u target) s)
    pub memory : MemoryHeld target s.objects

  module _ (names : Names) (s : CState) (ready : Ready names s) where
    type_is : (e : Expr) (type : ValueType) → expr_type (table_of target) names.structs (declared (usable names)) e ≡ Some type → static_type p s e ≡ Some type
    type_is e type is =
        type_stays (table_of target) u.structs (declared (usable names)) (scope_of p s) ready.covers e type
        (subst (λ ss. expr_type (table_of target) ss (declared (usable names)) e ≡ Some type) ready.structs is)

    place_type_is : (place : Place) (type : PlaceType) → place_type (table_of target) names.structs (declared (usable names)) place ≡ Some type → static_place_type p s place ≡ Some type
    place_type_is place type is =
        place_stays (table_of target) u.structs (declared (usable names)) (scope_of p s) ready.covers place type
        (subst (λ ss. place_type (table_of target) ss (declared (usable names)) place ≡ Some type) ready.structs is)

    pub expr_good : (e : Expr) (x : ExprIs target names e) → Good (IsOf target x.found.value) (eval p e s)
    expr_good e x =
        comes_good target (static_type p s e) x.found.value (eval p e s) (typed_comes p s ready.typed (reads_held target s.objects ready.memory) e) (type_is e x.found.value x.found.is)

    place_comes_good : (said : Option PlaceType) (type : PlaceType) (r : Result Lvalue Trouble) → PlaceComes (table_of target) ⊥ said r → said ≡ Some type → Good (λ l. place_type_of l ≡ type) r
    place_comes_good said type (Ok l) h e = h.agrees type e
    place_comes_good said type (Err (Undefined reason)) h e = tt
    place_comes_good said type (Err Stuck) h e = h type e

    pub place_good : (place : Place) (x : PlaceIs target names place) → Good (λ l. place_type_of l ≡ x.found.value) (eval_place p place s)
    place_good place x =
        place_comes_good (static_place_type p s place) x.found.value (eval_place p place s) (typed_place_comes p s ready.typed (reads_held target s.objects ready.memory) place)
        (place_type_is place x.found.value x.found.is)

    good_weaker : {A : Type 0} (P Q : A → Type 0) (r : Result A Trouble) → ((a : A) → P a → Q a) → Good P r → Good Q r
    good_weaker P Q (Ok a) f h = f a h
    good_weaker P Q (Err (Undefined reason)) f h = tt
    good_weaker P Q (Err Stuck) f h = absurd h

    -- an expression that is given where a type is wanted
    pub given_is_good : (at : ℕ) (ty : CType) (e : Expr) → Kept (given_demands target names at ty e) → Good (IsGiven target ty) (eval p e s)
    given_is_good at ty e k =
        let x = expr_is target names e at (others k) in
        good_weaker (IsOf target x.found.value) (IsGiven target ty) (eval p e s)
        (λ v is. record { typed = is.typed; may = subst (λ q. may_be_given q ty ≡ true) (sym is.of_type) (test_of target names (λ v. may_be_given v ty) e x (asked k refl)) })
        (expr_good e x)

    truth_of : (v : CValue) → is_number (held_type v) ≡ true → Good (λ holds. ⊤) (is_true v)
    truth_of (Num k n) h = tt
    truth_of (Ptr constant base to) h = let no : ⊥ = cc in absurd no

    -- and one that `if` tests
    pub tested_is_good : (at : ℕ) (e : Expr) → where_typed is_number (type_of target names e) ≡ true → Kept (expr_demands target names at e) → Good (λ holds. ⊤) (on_ok (eval p e s) is_true)
    tested_is_good at e number k =
        let x = expr_is target names e at k in
        good_on_ok (IsOf target x.found.value) (λ holds. ⊤) (eval p e s) is_true (expr_good e x)
        (λ v is. truth_of v (subst (λ q. is_number q ≡ true) (sym is.of_type) (test_of target names is_number e x number)))

    -- ---- arguments, as many as parameters

    pub args_good : (ts : List CType) (es : List Expr) → length ts ≡ length es → (at : ℕ) → Kept (args_demands target names at ts es) → Good (AreGiven target ts) (eval_all p es s)
    args_good [] [] same at k = tt
    args_good [] (e ∷ es) same at k = absurd (omega (arith, same))
    args_good (ty ∷ ts) [] same at k = absurd (omega (arith, same))
    args_good (ty ∷ ts) (e ∷ es) same at k =
        good_on_ok (IsGiven target ty) (AreGiven target (ty ∷ ts)) (eval p e s) (λ v. on_ok (eval_all p es s) (λ vs. Ok (v ∷ vs))) (given_is_good at ty e (front _ _ k))
        (λ v first. good_on_ok (AreGiven target ts) (AreGiven target (ty ∷ ts)) (eval_all p es s) (λ vs. Ok (v ∷ vs)) (args_good ts es (omega (arith, same)) _ (rest (given_demands target names at ty e) _ k)) (λ vs more. (first, more)))

    -- ---- initializers

    abbrev IsScalarValue : CScalar → CValue → Type 0
    IsScalarValue k v = IsGiven target (Value k) v

    abbrev Inited : CTree → inits.Init CValue → Type 0
    Inited a i = IsInit IsScalarValue a i

    abbrev InitedRow : CRow → inits.Inits CValue → Type 0
    InitedRow r is = AreInits IsScalarValue r is

    mutual
      pub init_good : (a : CTree) (i : Init) (at : ℕ) → Kept (init_demands target names at a i) → Good (IsInit (λ k v. IsGiven target (Value k) v) a) (eval_init p i s)
      init_good (Leaf k) (One e) at h = good_on_ok (IsScalarValue k) (Inited (Leaf k)) (eval p e s) (λ v. Ok (inits.One v)) (given_is_good at (Value k) e h) (λ v is. is)
      init_good (Leaf k) Zero at h = let no : ⊥ = (let e = asked h refl in cc) in absurd no
      init_good (Leaf k) (Many is) at h = let no : ⊥ = (let e = asked h refl in cc) in absurd no
      init_good (trees.Many n a) (One e) at h = let no : ⊥ = (let e = asked h refl in cc) in absurd no
      init_good (trees.Many n a) Zero at h = tt
      init_good (trees.Many n a) (Many is) at h =
          good_on_ok (EachInit n (Inited a)) (Inited (trees.Many n a)) (eval_inits p is s) (λ vs. Ok (inits.Braces vs)) (elements_good n a is _ h) (λ vs each. each)
      init_good (Struct k r) (One e) at h = let no : ⊥ = (let e = asked h refl in cc) in absurd no
      init_good (Struct k r) Zero at h = tt
      init_good (Struct k r) (Many is) at h = good_on_ok (InitedRow r) (Inited (Struct k r)) (eval_inits p is s) (λ vs. Ok (inits.Braces vs)) (members_good r is _ h) (λ vs each. each)

      elements_good : (n : ℕ) (a : CTree) (is : Inits) (at : ℕ) → Kept (elements_demands target names at n a is) → Good (EachInit n (Inited a)) (eval_inits p is s)
      elements_good n a NoInits at h = tt
      elements_good zero a (MoreInits i is) at h = let no : ⊥ = (let e = asked h refl in cc) in absurd no
      elements_good (suc n) a (MoreInits i is) at h =
          good_on_ok (Inited a) (EachInit (suc n) (Inited a)) (eval_init p i s) (λ v. on_ok (eval_inits p is s) (λ vs. Ok (inits.More v vs))) (init_good a i at (front _ _ h))
          (λ v first. good_on_ok (EachInit n (Inited a)) (EachInit (suc n) (Inited a)) (eval_inits p is s) (λ vs. Ok (inits.More v vs)) (elements_good n a is _ (rest (init_demands target names at a i) _ h)) (λ vs more. (first, more)))

      members_good : (r : CRow) (is : Inits) (at : ℕ) → Kept (members_demands target names at r is) → Good (InitedRow r) (eval_inits p is s)
      members_good r NoInits at h = tt
      members_good End (MoreInits i is) at h = let no : ⊥ = (let e = asked h refl in cc) in absurd no
      members_good (Field f a r) (MoreInits i is) at h =
          good_on_ok (Inited a) (InitedRow (Field f a r)) (eval_init p i s) (λ v. on_ok (eval_inits p is s) (λ vs. Ok (inits.More v vs))) (init_good a i at (front _ _ h))
          (λ v first. good_on_ok (InitedRow r) (InitedRow (Field f a r)) (eval_inits p is s) (λ vs. Ok (inits.More v vs)) (members_good r is _ (rest (init_demands target names at a i) _ h)) (λ vs more. (first, more)))

-- ---- numbers of an initializer, and the object that is made with them

module _ (target : Target) where
  abbrev Asked : CScalar → CValue → Type 0
  Asked k v = IsGiven target (Value k) v

  abbrev InitedBy : CTree → inits.Init CValue → Type 0
  InitedBy a i = IsInit Asked a i

  abbrev InitedRowBy : CRow → inits.Inits CValue → Type 0
  InitedRowBy r is = AreInits Asked r is

  abbrev Numbered : CTree → inits.Init ℤ → Type 0
  Numbered a i = IsInit (CanHold target) a i

  abbrev NumberedRow : CRow → inits.Inits ℤ → Type 0
  NumberedRow r is = AreInits (CanHold target) r is

  number_held : (k : CScalar) (v : CValue) → Holds target (Value k) v → Good (CanHold target k) (number_of v)
  number_held k (Num kind n) h = (let is : kind ≡ Scalar k = (let e = h.of_type in cc) in subst (λ q. IsTyped (table_of target) (Num q n)) is h.typed)
  number_held k (Ptr constant base to) h = let no : ⊥ = (let e = h.of_type in cc) in absurd no

  pub number_good : (k : CScalar) (v : CValue) → IsGiven target (Value k) v → Good (CanHold target k) (as_number target k v)
  number_good k v h = good_on_ok (Holds target (Value k)) (CanHold target k) (as_assigned target (Value k) v) number_of (assigned_good target (Value k) v h) (number_held k)

  each_number_good : (n : ℕ) (P : inits.Init CValue → Type 0) (Q : inits.Init ℤ → Type 0) (f : inits.Init CValue → Result (inits.Init ℤ) Trouble) → ((i : inits.Init CValue) → P i → Good Q (f i))
      → (is : inits.Inits CValue) → EachInit n P is → Good (EachInit n Q) (each_number n f is)
  each_number_good n P Q f each inits.Done h = tt
  each_number_good zero P Q f each (inits.More i is) h = absurd h
  each_number_good (suc n) P Q f each (inits.More i is) h =
      good_on_ok Q (EachInit (suc n) Q) (f i) (λ w. on_ok (each_number n f is) (λ ws. Ok (inits.More w ws))) (each i h.0)
      (λ w first. good_on_ok (EachInit n Q) (EachInit (suc n) Q) (each_number n f is) (λ ws. Ok (inits.More w ws)) (each_number_good n P Q f each is h.1) (λ ws more. (first, more)))

  mutual
    numbers_good : (a : CTree) (i : inits.Init CValue) → InitedBy a i → Good (Numbered a) (in_numbers target a i)
    numbers_good (Leaf k) (inits.One v) h = good_on_ok (CanHold target k) (Numbered (Leaf k)) (as_number target k v) (λ w. Ok (inits.One w)) (number_good k v h) (λ w can. can)
    numbers_good (Leaf k) inits.Zero h = absurd h
    numbers_good (Leaf k) (inits.Braces is) h = absurd h
    numbers_good (trees.Many n a) (inits.One v) h = absurd h
    numbers_good (trees.Many n a) inits.Zero h = tt
    numbers_good (trees.Many n a) (inits.Braces is) h =
        good_on_ok (EachInit n (Numbered a)) (Numbered (trees.Many n a)) (each_number n (in_numbers target a) is) (λ ws. Ok (inits.Braces ws))
        (each_number_good n (InitedBy a) (Numbered a) (in_numbers target a) (λ i k. numbers_good a i k) is h) (λ ws each. each)
    numbers_good (Struct k r) (inits.One v) h = absurd h
    numbers_good (Struct k r) inits.Zero h = tt
    numbers_good (Struct k r) (inits.Braces is) h =
        good_on_ok (NumberedRow r) (Numbered (Struct k r)) (row_in_numbers target r is) (λ ws. Ok (inits.Braces ws)) (row_numbers_good r is h) (λ ws each. each)

    row_numbers_good : (r : CRow) (is : inits.Inits CValue) → InitedRowBy r is → Good (NumberedRow r) (row_in_numbers target r is)
    row_numbers_good End inits.Done h = tt
    row_numbers_good End (inits.More i is) h = absurd h
    row_numbers_good (Field f a r) inits.Done h = tt
    row_numbers_good (Field f a r) (inits.More i is) h =
        good_on_ok (Numbered a) (NumberedRow (Field f a r)) (in_numbers target a i) (λ w. on_ok (row_in_numbers target r is) (λ ws. Ok (inits.More w ws))) (numbers_good a i h.0)
        (λ w first. good_on_ok (NumberedRow r) (NumberedRow (Field f a r)) (row_in_numbers target r is) (λ ws. Ok (inits.More w ws)) (row_numbers_good r is h.1) (λ ws more. (first, more)))

  zero_in : (kind : IntKind) → IsTrue (in_range kind (pos 0))
  zero_in U8 = refl
  zero_in U16 = refl
  zero_in U32 = refl
  zero_in U64 = refl
  zero_in I8 = refl
  zero_in I16 = refl
  zero_in I32 = refl
  zero_in I64 = refl

  nought_held : (k : CScalar) → CanHold target k (nought k)
  nought_held Truth = refl
  nought_held (Int kind) = zero_in kind

  pub made_good : (a : CTree) (constant : Bool) (objects : CObjects) (i : inits.Init CValue) → IsInit (λ k v. IsGiven target (Value k) v) a i → MemoryHeld target objects → Good (MemoryHeld target) (made_with target a constant objects i)
  made_good a constant objects i h held =
      good_on_ok (Numbered a) (MemoryHeld target) (in_numbers target a i) (λ numbers. Ok ((memory_of target).initialize objects a constant (cells (initial nought a numbers)))) (numbers_good a i h)
      (λ numbers is. initialize_held target objects a constant (cells (initial nought a numbers))
      (subst (λ l. EachFits (CanHold target) (lay (metric_of target) a 0) l) (map-id (cells (initial nought a numbers)))
      (fits_each (metric_of target) (CanHold target) (λ w. w) a (initial nought a numbers) 0 (initial_fits (CanHold target) nought nought_held a numbers is))) held)
