-- Answers that are not stuck, and values that are given where a type is wanted: each is converted to it, or there is a reason why not.
use Rattle.std.proofs.Common.{◌≡◌, ℕ, Bool, true, false, not, List, [], ◌∷◌, Option, Some, Result, Ok, Err, refl, sym, ap, subst}
use Rattle.std.specs.Prelude.{⊤, ◌&&◌, ◌||◌, if◌then◌else◌}
use Rattle.step_semantics.specs.Steps.{World, Part}
use Rattle.step_semantics.specs.Safe.{Keeps}
use Rattle.c_ast.specs.declared.CBase.{CBase}
use Rattle.c_ast.specs.declared.CKind.TheVariants.{Scalar}
use Rattle.c_ast.specs.declared.CScalar.{CScalar}
use Rattle.c_ast.specs.declared.CType.{CType}
use Rattle.c_ast.specs.declared.CType.TheVariants.{Void, Value, Pointer}
use Rattle.c_ast.specs.declared.Target.{Target}
use Rattle.c_ast.specs.StaticTypes.{ValueType, Arithmetic, PointerTo, value_type, may_be_given, same_base}
use Rattle.c_ast.specs.Targets.{table_of}
use Rattle.c_memory.specs.Access.{Fault}
use Rattle.c_text.specs.ExpressionRules.{result_may_be_given}
use Rattle.c_text.specs.Scopes.{Names}
use Rattle.c_meaning.specs.Values.{Trouble, Undefined, Stuck, CValue, Num, Ptr, Address, held_type, on_ok, as_kind, as_assigned, as_arguments}
use Rattle.c_meaning.specs.Memory.{answered}
use Rattle.c_meaning.specs.State.{CState}
use Rattle.c_meaning.specs.ExpressionLaws.{IsTyped}
use Rattle.c_meaning.specs.Calls.{given}
use Rattle.c_meaning.specs.Laws.{watched, IsNotStuck}
use Rattle.c_ast.specs.Syntax.{TranslationUnit}
use Rattle.c_meaning.proofs.Operands.{Fine, Comes}
use Rattle.c_meaning.proofs.Expressions.{as_kind_fine}

-- ---- answers

abbrev pub Good : {A : Type 0} → (A → Type 0) → Result A Trouble → Type 0
Good P (Ok a) = P a
Good P (Err (Undefined reason)) = ⊤
Good P (Err Stuck) = ⊥

pub good_on_ok : {A B : Type 0} (P : A → Type 0) (Q : B → Type 0) (r : Result A Trouble) (next : A → Result B Trouble) → Good P r → ((a : A) → P a → Good Q (next a)) → Good Q (on_ok r next)
good_on_ok P Q (Ok a) next h f = f a h
good_on_ok P Q (Err (Undefined reason)) next h f = tt
good_on_ok P Q (Err Stuck) next h f = absurd h

pub answered_good : {A : Type 0} (P : A → Type 0) (r : Result A Fault) → ((a : A) → r ≡ Ok a → P a) → Good P (answered r)
answered_good P (Ok a) h = h a refl
answered_good P (Err fault) h = tt

module _ (u : TranslationUnit) (target : Target) where
  pub good_given : {A B : Type 0} (P : A → Type 0) (post : B → CState → Type 0) (r : Result A Trouble) (next : A → Part CState B) (n : ℕ) (w : World) (s : CState) → Good P r → ((a : A) → P a → Keeps IsNotStuck post (next a n w s))
      → Keeps IsNotStuck post (given (watched u target) r next n w s)
  good_given P post (Ok a) next n w s h f = f a h
  good_given P post (Err (Undefined reason)) next n w s h f = λ e. cc
  good_given P post (Err Stuck) next n w s h f = absurd h

-- ---- values of types

module _ (target : Target) where
  -- a value of a static type
  pub record IsOf (type : ValueType) (v : CValue) : Type 0 where
    pub typed : IsTyped (table_of target) v
    pub of_type : held_type v ≡ type

  pub comes_good : (said : Option ValueType) (type : ValueType) (r : Result CValue Trouble) → Comes (table_of target) ⊥ said r → said ≡ Some type → Good (IsOf type) r
  comes_good said type (Ok v) h e = record { typed = h.typed; of_type = h.agrees type e }
  comes_good said type (Err (Undefined reason)) h e = tt
  comes_good said type (Err Stuck) h e = h type e

  -- a value that may be given where the type is wanted, and one that has been converted to it
  pub record IsGiven (ty : CType) (v : CValue) : Type 0 where
    pub typed : IsTyped (table_of target) v
    pub may : may_be_given (held_type v) ty ≡ true

  pub record Holds (ty : CType) (v : CValue) : Type 0 where
    pub typed : IsTyped (table_of target) v
    pub of_type : value_type ty ≡ Some (held_type v)

  fine_good : (s : CScalar) (r : Result CValue Trouble) → Fine (table_of target) (Scalar s) r → Good (Holds (Value s)) r
  fine_good s (Ok v) h = record { typed = h.typed; of_type = ap (λ q. let r : Option ValueType = Some q in r) (sym h.of_kind) }
  fine_good s (Err (Undefined reason)) h = tt
  fine_good s (Err Stuck) h = absurd h

  pointer_good : (constant : Bool) (base : CBase) (to : Address) (test : Bool) → test ≡ true → Good (Holds (Pointer constant base)) (if test then Ok (Ptr constant base to) else Err Stuck)
  pointer_good constant base to true h = record { typed = tt; of_type = refl }
  pointer_good constant base to false h = let no : ⊥ = cc in absurd no

  pub assigned_good : (ty : CType) (v : CValue) → IsGiven ty v → Good (Holds ty) (as_assigned target ty v)
  assigned_good (Value s) (Num k n) h = fine_good s (as_kind (table_of target) (Scalar s) (Num k n)) (as_kind_fine (table_of target) (Scalar s) k n)
  assigned_good (Value s) (Ptr constant base to) h = let no : ⊥ = (let e = h.may in cc) in absurd no
  assigned_good Void (Num k n) h = let no : ⊥ = (let e = h.may in cc) in absurd no
  assigned_good Void (Ptr constant base to) h = let no : ⊥ = (let e = h.may in cc) in absurd no
  assigned_good (Pointer constant base) (Num k n) h = let no : ⊥ = (let e = h.may in cc) in absurd no
  assigned_good (Pointer constant base) (Ptr c from to) h = pointer_good constant base to (same_base from base && (not c || constant)) h.may

  -- the result of a call that is given on
  wanted_type : (names : Names) (ty result : CType) (q : ValueType) → value_type result ≡ Some q → result_may_be_given target names ty result ≡ true → may_be_given q ty ≡ true
  wanted_type names ty Void q e h = let no : ⊥ = cc in absurd no
  wanted_type names ty (Value s) q e h = let is : Arithmetic (Scalar s) ≡ q = cc in subst (λ v. may_be_given v ty ≡ true) is h
  wanted_type names ty (Pointer constant base) q e h = let is : PointerTo constant base ≡ q = cc in subst (λ v. may_be_given v ty ≡ true) is h

  pub held_given : (names : Names) (ty result : CType) (v : CValue) → Holds result v → result_may_be_given target names ty result ≡ true → IsGiven ty v
  held_given names ty result v h may = record { typed = h.typed; may = wanted_type names ty result (held_type v) h.of_type may }

  -- ---- arguments

  abbrev pub AreGiven : List CType → List CValue → Type 0
  AreGiven [] [] = ⊤
  AreGiven [] (v ∷ vs) = ⊥
  AreGiven (ty ∷ ts) [] = ⊥
  AreGiven (ty ∷ ts) (v ∷ vs) = IsGiven ty v × AreGiven ts vs

  abbrev pub AreHeld : List CType → List CValue → Type 0
  AreHeld [] [] = ⊤
  AreHeld [] (v ∷ vs) = ⊥
  AreHeld (ty ∷ ts) [] = ⊥
  AreHeld (ty ∷ ts) (v ∷ vs) = Holds ty v × AreHeld ts vs

  pub arguments_good : (ts : List CType) (vs : List CValue) → AreGiven ts vs → Good (AreHeld ts) (as_arguments target ts vs)
  arguments_good [] [] h = tt
  arguments_good [] (v ∷ vs) h = absurd h
  arguments_good (ty ∷ ts) [] h = absurd h
  arguments_good (ty ∷ ts) (v ∷ vs) h =
      good_on_ok (Holds ty) (AreHeld (ty ∷ ts)) (as_assigned target ty v) (λ a. on_ok (as_arguments target ts vs) (λ rest. Ok (a ∷ rest))) (assigned_good ty v h.0)
      (λ a holds. good_on_ok (AreHeld ts) (AreHeld (ty ∷ ts)) (as_arguments target ts vs) (λ rest. Ok (a ∷ rest)) (arguments_good ts vs h.1) (λ rest held. (holds, held)))
