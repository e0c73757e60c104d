-- What an initializer of C gives for a type: its parts in a row, zeros for those that are left out, and braces, which are `{0}` around one zero.
use Rattle.std.proofs.Common.{◌≡◌, ℕ, zero, suc, ℤ, pos, Bool, true, false, List, [], ◌∷◌, ◌++◌, Result, Ok, Err, refl, sym, ◌∙◌, ap, subst, eqb-true, lit<}
use Rattle.std.specs.Prelude.{if◌then◌else◌}
use Rattle.type_trees.specs.Trees.{Leaf, Many as Repeated, Struct, End, Field, repeated}
use Rattle.type_trees.specs.Values.{Values, Parts, Nil, Cons, cells, cells_row}
use Rattle.c_memory.specs.Initializers as values
use Rattle.c_memory.specs.Initializers.{zeros, zeros_row, initial, initial_row, copies_of, elements}
use Rattle.c_ast.specs.declared.CKind.{CKind}
use Rattle.c_ast.specs.declared.CScalar.{CScalar}
use Rattle.c_ast.specs.declared.CScalar.TheVariants as scalar
use Rattle.c_ast.specs.declared.Suffix.TheVariants.{Plain, U, Ll, Ull}
use Rattle.c_ast.specs.declared.Target.{Target}
use Rattle.c_ast.specs.Structs.{CTree, CRow}
use Rattle.c_ast.specs.Syntax.{Expr, Number, Read, Address, Unary, Binary, Cast, Cond, Init, One, Zero, Many, Inits, NoInits, MoreInits}
use Rattle.c_ast.specs.Targets.{table_of}
use Rattle.c_meaning.specs.Expressions.{eval}
use Rattle.c_meaning.specs.Initializers.{eval_init, eval_inits, as_number, number_of, each_number, in_numbers, row_in_numbers}
use Rattle.c_meaning.specs.Memory.{nought}
use Rattle.c_meaning.specs.State.{Program, CState}
use Rattle.c_meaning.specs.Values.{Trouble, Stuck, CValue, Num, on_ok}
use Rattle.c_meaning.proofs.HeldNumbers.{held_as_assigned}
use Rattle.iv_words.specs.declared.IntKind.TheVariants.{U8, U16, U32, U64, I8, I16, I32, I64}
use Rattle.area_objects.specs.Holds.{CanHold}
use Rattle.lower_types.specs.Initializers.{is_zero, braced, braced_array}
use Rattle.value_refinement.proofs.Running.{constant_gives}

-- ---- parts in a row

-- of an array's elements, or of a struct's members
abbrev pub parts_in_numbers : Target → List CTree → values.Inits CValue → Result (values.Inits ℤ) Trouble
parts_in_numbers t ts values.Done = Ok values.Done
parts_in_numbers t [] (values.More i is) = Err Stuck
parts_in_numbers t (a ∷ ts) (values.More i is) = on_ok (in_numbers t a i) (λ w. on_ok (parts_in_numbers t ts is) (λ ws. Ok (values.More w ws)))

abbrev pub zero_parts : List CTree → Values ℤ
zero_parts [] = Nil
zero_parts (a ∷ ts) = Cons (zeros nought a) (zero_parts ts)

abbrev pub initial_parts : List CTree → values.Inits ℤ → Values ℤ
initial_parts [] is = Nil
initial_parts (a ∷ ts) values.Done = Cons (zeros nought a) (zero_parts ts)
initial_parts (a ∷ ts) (values.More i is) = Cons (initial nought a i) (initial_parts ts is)

abbrev pub member_types : CRow → List CTree
member_types End = []
member_types (Field f a r) = a ∷ member_types r

each_is_parts : (t : Target) (n : ℕ) (a : CTree) (is : values.Inits CValue) → each_number n (in_numbers t a) is ≡ parts_in_numbers t (repeated n (a ∷ [])) is
each_is_parts t n a values.Done = refl
each_is_parts t zero a (values.More i is) = refl
each_is_parts t (suc n) a (values.More i is) = ap (λ r. on_ok (in_numbers t a i) (λ w. on_ok r (λ ws. Ok (values.More w ws)))) (each_is_parts t n a is)

pub copies_are_parts : (n : ℕ) (a : CTree) → copies_of n (zeros nought a) ≡ zero_parts (repeated n (a ∷ []))
copies_are_parts zero a = refl
copies_are_parts (suc n) a = ap (Cons (zeros nought a)) (copies_are_parts n a)

elements_are_parts : (n : ℕ) (a : CTree) (is : values.Inits ℤ) → elements n (initial nought a) (zeros nought a) is ≡ initial_parts (repeated n (a ∷ [])) is
elements_are_parts zero a is = refl
elements_are_parts (suc n) a values.Done = ap (Cons (zeros nought a)) (copies_are_parts n a)
elements_are_parts (suc n) a (values.More i is) = ap (Cons (initial nought a i)) (elements_are_parts n a is)

row_is_parts : (t : Target) (r : CRow) (is : values.Inits CValue) → row_in_numbers t r is ≡ parts_in_numbers t (member_types r) is
row_is_parts t End values.Done = refl
row_is_parts t End (values.More i is) = refl
row_is_parts t (Field f a r) values.Done = refl
row_is_parts t (Field f a r) (values.More i is) = ap (λ q. on_ok (in_numbers t a i) (λ w. on_ok q (λ ws. Ok (values.More w ws)))) (row_is_parts t r is)

pub zero_row_is_parts : (r : CRow) → zeros_row nought r ≡ zero_parts (member_types r)
zero_row_is_parts End = refl
zero_row_is_parts (Field f a r) = ap (Cons (zeros nought a)) (zero_row_is_parts r)

initial_row_is_parts : (r : CRow) (is : values.Inits ℤ) → initial_row nought r is ≡ initial_parts (member_types r) is
initial_row_is_parts End is = refl
initial_row_is_parts (Field f a r) values.Done = ap (Cons (zeros nought a)) (zero_row_is_parts r)
initial_row_is_parts (Field f a r) (values.More i is) = ap (Cons (initial nought a i)) (initial_row_is_parts r is)

-- a type that has these parts, for which braces give what the initializers in them give for the parts
record HasParts (t : Target) (a : CTree) (ts : List CTree) : Type 0 where
  converts : (is : values.Inits CValue) → in_numbers t a (values.Braces is) ≡ on_ok (parts_in_numbers t ts is) (λ ws. Ok (values.Braces ws))
  gives : (is : values.Inits ℤ) → initial nought a (values.Braces is) ≡ Parts (initial_parts ts is)
  zero_converts : in_numbers t a values.Zero ≡ Ok values.Zero
  zero_gives : initial nought a values.Zero ≡ Parts (zero_parts ts)

array_parts : (t : Target) (n : ℕ) (a : CTree) → HasParts t (Repeated n a) (repeated n (a ∷ []))
array_parts t n a = record {
  converts = λ is. ap (λ r. on_ok r (λ ws. Ok (values.Braces ws))) (each_is_parts t n a is);
  gives = λ is. ap Parts (elements_are_parts n a is);
  zero_converts = refl;
  zero_gives = ap Parts (copies_are_parts n a);
}

struct_parts : (t : Target) (tag : List ℕ) (r : CRow) → HasParts t (Struct tag r) (member_types r)
struct_parts t tag r = record {
  converts = λ is. ap (λ q. on_ok q (λ ws. Ok (values.Braces ws))) (row_is_parts t r is);
  gives = λ is. ap Parts (initial_row_is_parts r is);
  zero_converts = refl;
  zero_gives = ap Parts (zero_row_is_parts r);
}

-- ---- zero

pub nought_held : (t : Target) (k : CScalar) → CanHold (table_of t) k (pos 0)
nought_held t scalar.Truth = refl
nought_held t (scalar.Int U8) = refl
nought_held t (scalar.Int U16) = refl
nought_held t (scalar.Int U32) = refl
nought_held t (scalar.Int U64) = refl
nought_held t (scalar.Int I8) = refl
nought_held t (scalar.Int I16) = refl
nought_held t (scalar.Int I32) = refl
nought_held t (scalar.Int I64) = refl

zero_number : (t : Target) (k : CScalar) (kind : CKind) → as_number t k (Num kind (pos 0)) ≡ Ok (pos 0)
zero_number t k kind = ap (λ r. on_ok r number_of) (held_as_assigned t k kind (pos 0) (nought_held t k))

is_the_zero : (e : Expr) → is_zero e ≡ true → e ≡ Number 0 Plain
is_the_zero (Number n Plain) q = ap (λ k. Number k Plain) (eqb-true n 0 q)
is_the_zero (Number n U) q = let no : ⊥ = cc in absurd no
is_the_zero (Number n Ll) q = let no : ⊥ = cc in absurd no
is_the_zero (Number n Ull) q = let no : ⊥ = cc in absurd no
is_the_zero (Read p) q = let no : ⊥ = cc in absurd no
is_the_zero (Address p) q = let no : ⊥ = cc in absurd no
is_the_zero (Unary o e) q = let no : ⊥ = cc in absurd no
is_the_zero (Binary o a b) q = let no : ⊥ = cc in absurd no
is_the_zero (Cast ty e) q = let no : ⊥ = cc in absurd no
is_the_zero (Cond a b c) q = let no : ⊥ = cc in absurd no

-- ---- what initializers give

module _ (p : Program) (w : CState) where
  -- these numbers in the scalars of the type, in order
  pub record InitGives (a : CTree) (i : Init) (vs : List ℤ) : Type 0 where
    pub given : values.Init CValue
    pub is : eval_init p i w ≡ Ok given
    pub numbers : values.Init ℤ
    pub converted : in_numbers p.target a given ≡ Ok numbers
    pub gives : cells (initial nought a numbers) ≡ vs

  pub record InitsGive (ts : List CTree) (is : Inits) (vs : List ℤ) : Type 0 where
    pub given : values.Inits CValue
    pub evaluated : eval_inits p is w ≡ Ok given
    pub numbers : values.Inits ℤ
    pub converted : parts_in_numbers p.target ts given ≡ Ok numbers
    pub gives : cells_row (initial_parts ts numbers) ≡ vs

  pub one_gives : (k : CScalar) (e : Expr) (v : CValue) (n : ℤ) → eval p e w ≡ Ok v → as_number p.target k v ≡ Ok n → InitGives (Leaf k) (One e) (n ∷ [])
  one_gives k e v n gives number = record {
    given = values.One v;
    is = ap (λ r. on_ok r (λ u. Ok (values.One u))) gives;
    numbers = values.One n;
    converted = ap (λ r. on_ok r (λ u. Ok (values.One u))) number;
    gives = refl;
  }

  pub zero_gives : (k : CScalar) → InitGives (Leaf k) (One (Number 0 Plain)) (pos 0 ∷ [])
  zero_gives k = let c = constant_gives p 0 w (lit< tt) in one_gives k (Number 0 Plain) (Num c.0 (pos 0)) (pos 0) c.1 (zero_number p.target k c.0)

  none_given : (ts : List CTree) → initial_parts ts values.Done ≡ zero_parts ts
  none_given [] = refl
  none_given (a ∷ ts) = refl

  -- parts that are left out are zero
  pub none_give : (ts : List CTree) → InitsGive ts NoInits (cells_row (zero_parts ts))
  none_give ts = record { given = values.Done; evaluated = refl; numbers = values.Done; converted = refl; gives = ap cells_row (none_given ts) }

  pub more_give : (a : CTree) (ts : List CTree) (i : Init) (is : Inits) (vs us : List ℤ) → InitGives a i vs → InitsGive ts is us → InitsGive (a ∷ ts) (MoreInits i is) (vs ++ us)
  more_give a ts i is vs us h k = record {
    given = values.More h.given k.given;
    evaluated = ap (λ r. on_ok r (λ v. on_ok (eval_inits p is w) (λ rest. Ok (values.More v rest)))) h.is ∙ ap (λ r. on_ok r (λ rest. Ok (values.More h.given rest))) k.evaluated;
    numbers = values.More h.numbers k.numbers;
    converted = ap (λ r. on_ok r (λ v. on_ok (parts_in_numbers p.target ts k.given) (λ rest. Ok (values.More v rest)))) h.converted ∙ ap (λ r. on_ok r (λ rest. Ok (values.More h.numbers rest))) k.converted;
    gives = ap (λ l. l ++ cells_row (initial_parts ts k.numbers)) h.gives ∙ ap (λ l. vs ++ l) k.gives;
  }

  -- ---- braces

  -- one number 0 is the first scalar's, and all behind it is left out
  zero_first : (ts : List CTree) (kind : CKind) (numbers : values.Inits ℤ) → parts_in_numbers p.target ts (values.More (values.One (Num kind (pos 0))) values.Done) ≡ Ok numbers → cells_row (initial_parts ts numbers) ≡ cells_row (zero_parts ts)
  zero_first [] kind numbers e = let no : ⊥ = cc in absurd no
  zero_first (Repeated n a ∷ ts) kind numbers e = let no : ⊥ = cc in absurd no
  zero_first (Struct tag r ∷ ts) kind numbers e = let no : ⊥ = cc in absurd no
  zero_first (Leaf k ∷ ts) kind numbers e =
      let is : on_ok (as_number p.target k (Num kind (pos 0))) (λ v. Ok (values.One v)) ≡ Ok (values.One (pos 0)) = ap (λ r. on_ok r (λ v. let q : Result (values.Init ℤ) Trouble = Ok (values.One v) in q)) (zero_number p.target k kind) in
      let known : Ok (values.More (values.One (pos 0)) values.Done) ≡ Ok numbers = sym (ap (λ r. on_ok r (λ v. let q : Result (values.Inits ℤ) Trouble = Ok (values.More v values.Done) in q)) is) ∙ e in
      let same : values.More (values.One (pos 0)) values.Done ≡ numbers = cc in
      subst (λ ns. cells_row (initial_parts (Leaf k ∷ ts) ns) ≡ cells_row (zero_parts (Leaf k ∷ ts))) same (ap (λ vs. pos 0 ∷ cells_row vs) (none_given ts))

  zero_given : (ts : List CTree) (e : Expr) (vs : List ℤ) → e ≡ Number 0 Plain → InitsGive ts (MoreInits (One e) NoInits) vs → cells_row (zero_parts ts) ≡ vs
  zero_given ts e vs is h =
      let c = constant_gives p 0 w (lit< tt) in
      let value : eval p e w ≡ Ok (Num c.0 (pos 0)) = ap (λ d. eval p d w) is ∙ c.1 in
      let known : Ok (values.More (values.One (Num c.0 (pos 0))) values.Done) ≡ Ok h.given =
      sym (ap (λ r. on_ok (on_ok r (λ v. Ok (values.One v))) (λ v. let q : Result (values.Inits CValue) Trouble = Ok (values.More v values.Done) in q)) value) ∙ h.evaluated in
      let same : h.given ≡ values.More (values.One (Num c.0 (pos 0))) values.Done = cc in
      sym (zero_first ts c.0 h.numbers (ap (parts_in_numbers p.target ts) (sym same) ∙ h.converted)) ∙ h.gives

  many_gives : (a : CTree) (ts : List CTree) → HasParts p.target a ts → (is : Inits) (vs : List ℤ) → InitsGive ts is vs → InitGives a (Many is) vs
  many_gives a ts parts is vs h = record {
    given = values.Braces h.given;
    is = ap (λ r. on_ok r (λ us. Ok (values.Braces us))) h.evaluated;
    numbers = values.Braces h.numbers;
    converted = parts.converts h.given ∙ ap (λ r. on_ok r (λ us. Ok (values.Braces us))) h.converted;
    gives = ap cells (parts.gives h.numbers) ∙ h.gives;
  }

  braces_give : (a : CTree) (ts : List CTree) → HasParts p.target a ts → (is : Inits) (vs : List ℤ) → InitsGive ts is vs → InitGives a (braced is) vs
  braces_give a ts parts NoInits vs h = many_gives a ts parts NoInits vs h
  braces_give a ts parts (MoreInits Zero is) vs h = many_gives a ts parts (MoreInits Zero is) vs h
  braces_give a ts parts (MoreInits (Many js) is) vs h = many_gives a ts parts (MoreInits (Many js) is) vs h
  braces_give a ts parts (MoreInits (One e) (MoreInits i is)) vs h = many_gives a ts parts (MoreInits (One e) (MoreInits i is)) vs h
  braces_give a ts parts (MoreInits (One e) NoInits) vs h = by_case (is_zero e) refl where
    by_case : (b : Bool) → is_zero e ≡ b → InitGives a (if b then Zero else Many (MoreInits (One e) NoInits)) vs
    by_case true q = record {
      given = values.Zero;
      is = refl;
      numbers = values.Zero;
      converted = parts.zero_converts;
      gives = ap cells parts.zero_gives ∙ zero_given ts e vs (is_the_zero e q) h;
    }
    by_case false q = many_gives a ts parts (MoreInits (One e) NoInits) vs h

  pub struct_gives : (tag : List ℕ) (r : CRow) (is : Inits) (vs : List ℤ) → InitsGive (member_types r) is vs → InitGives (Struct tag r) (braced is) vs
  struct_gives tag r is vs h = braces_give (Struct tag r) (member_types r) (struct_parts p.target tag r) is vs h

  -- of an array type, which is a struct of one member
  pub array_gives : (tag element : List ℕ) (n : ℕ) (a : CTree) (is : Inits) (vs : List ℤ) → InitsGive (repeated n (a ∷ [])) is vs → InitGives (Struct tag (Field element (Repeated n a) End)) (braced_array is) (vs ++ [])
  array_gives tag element n a is vs h =
      let inner : InitGives (Repeated n a) (braced is) vs = braces_give (Repeated n a) (repeated n (a ∷ [])) (array_parts p.target n a) is vs h in
      struct_gives tag (Field element (Repeated n a) End) (MoreInits (braced is) NoInits) (vs ++ []) (more_give (Repeated n a) [] (braced is) NoInits vs [] inner (none_give []))
