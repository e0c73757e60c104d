-- The values of arguments, from a place on.
use Rattle.std.proofs.Common.{◌≡◌, ℕ, zero, suc, ◌+◌, ◌<◌, ◌≤◌, List, [], ◌∷◌, length, map, drop, get_or, Some, None, Result, Ok, Err, refl, sym, ap, ◌∙◌, arith, length-drop}
use Rattle.std.specs.Prelude.{slice_get, OnOk}
use Rattle.iv_words.specs.declared.Memory.{Memory as NoRoom}
use Rattle.c_statements.specs.Parts.{room, given}
use Rattle.run_world.proofs.Rests.{one_left, nothing_left}
use Rattle.c_ast.specs.declared.CType.{CType}
use Rattle.c_ast.specs.declared.Target.{Target}
use Rattle.c_meaning.specs.Values as meaning
use Rattle.c_meaning.specs.Values.{CValue, on_ok, as_assigned, as_arguments}
use Rattle.c_operators.specs.Values.{Gives, value_of}
use Rattle.c_operators.specs.declared.Trouble.{Trouble}
use Rattle.c_operators.specs.declared.Trouble.TheVariants.{Undefined, Stuck, Memory}
use Rattle.c_operators.specs.declared.Value.{Value}

-- ---- trouble is passed on

pub passes : {A B C D : Type 0} (E : Type 0) (view : A → B) (view' : C → D) (said : Result B meaning.Trouble) (whole : Result D meaning.Trouble) (trouble : Trouble) → ((w : meaning.Trouble) → said ≡ Err w → whole ≡ Err w) → Gives E view said (Err trouble) → Gives (Unit {0}) view' whole (Err trouble)
passes E view view' said whole (Undefined reason) h e = h (meaning.Undefined reason) e
passes E view view' said whole Stuck h e = h meaning.Stuck e
passes E view view' said whole Memory h e = tt

pub room_on : {A : Type 0} (r : Result A NoRoom) (X : Type 0) (a : A) → Ok a ≡ room r → OnOk r X → X
room_on (Ok b) X a e h = h
room_on (Err memory) X a e h = absurd (cc)

-- ---- lists

pub nothing_there : {A : Type 0} (xs : List A) (i : ℕ) → slice_get xs i ≡ None → drop i xs ≡ []
nothing_there [] zero h = refl
nothing_there [] (suc i) h = refl
nothing_there (x ∷ xs) zero h = absurd (cc)
nothing_there (x ∷ xs) (suc i) h = nothing_there xs i h

pub something_there : {A : Type 0} (xs : List A) (i : ℕ) (x : A) → slice_get xs i ≡ Some x → drop i xs ≡ x ∷ drop (i + 1) xs
something_there [] i x h = absurd (cc)
something_there (y ∷ ys) zero x h = let e : y ≡ x = cc in ap (λ z. z ∷ ys) e
something_there (y ∷ ys) (suc i) x h = let e : suc i + 1 ≡ suc (i + 1) = omega arith in something_there ys i x h ∙ ap (λ n. x ∷ drop n (y ∷ ys)) (sym e)

-- ---- arguments

module _ (t : Target) (ts : List CType) (vs : List Value) (i : ℕ) where
  pub argument_at : (ty : CType) (v : Value) → Some ty ≡ slice_get ts i → i < length vs → v ≡ get_or vs i v
      → as_arguments t (drop i ts) (map value_of (drop i vs)) ≡ on_ok (as_assigned t ty (value_of v)) (λ a. on_ok (as_arguments t (drop (i + 1) ts) (map value_of (drop (i + 1) vs))) (λ rest. Ok (a ∷ rest)))
  argument_at ty v h k e = ap (λ xs. as_arguments t xs (map value_of (drop i vs))) (something_there ts i ty (sym h)) ∙ ap (λ ys. as_arguments t (ty ∷ drop (i + 1) ts) (map value_of ys)) (one_left vs i v k e)

  few : (ys : List Value) → ys ≡ drop i vs → i < length vs → as_arguments t [] (map value_of ys) ≡ Err meaning.Stuck
  few [] e h = absurd (omega (arith, ap length e, length-drop i vs))
  few (y ∷ ys) e h = refl

  pub no_type_left : None ≡ slice_get ts i → i < length vs → as_arguments t (drop i ts) (map value_of (drop i vs)) ≡ Err meaning.Stuck
  no_type_left h k = ap (λ xs. as_arguments t xs (map value_of (drop i vs))) (nothing_there ts i (sym h)) ∙ few (drop i vs) refl k

  many : (xs : List CType) → xs ≡ drop i ts → i < length ts → as_arguments t xs [] ≡ Err meaning.Stuck
  many [] e h = absurd (omega (arith, ap length e, length-drop i ts))
  many (x ∷ xs) e h = refl

  pub no_value_left : length vs ≤ i → i < length ts → as_arguments t (drop i ts) (map value_of (drop i vs)) ≡ Err meaning.Stuck
  no_value_left h k = ap (λ ys. as_arguments t (drop i ts) (map value_of ys)) (nothing_left vs i h) ∙ many (drop i ts) refl k

-- ---- what was found

pub found : {A B : Type 0} (E : Type 0) (view : A → B) (said : Result B meaning.Trouble) (f : Result A Trouble) (a : A) → Gives E view said f → Ok a ≡ given f → said ≡ Ok (view a)
found E view said (Ok b) a h e = let k : b ≡ a = cc in h ∙ ap (λ x. Ok (view x)) k
found E view said (Err (Undefined reason)) a h e = absurd (cc)
found E view said (Err Stuck) a h e = absurd (cc)
found E view said (Err Memory) a h e = absurd (cc)
