-- The numbers that an initializer gives a type's scalars, in order, the missing ones zero.
use Rattle.std.specs.Prelude.{ℕ, ℤ, List, ◌++◌, Option, Some, None, Result, Ok, Err}
use Rattle.type_trees.specs.Values.{cells, cells_row}
use Rattle.c_memory.specs.Initializers.{Init, One, Zero, Braces, Inits, zeros, initial, initial_row, elements}
use Rattle.c_ast.specs.declared.CScalar.{CScalar}
use Rattle.c_ast.specs.declared.Target.{Target}
use Rattle.c_ast.specs.Structs.{CTree, CRow}
use Rattle.c_meaning.specs.Initializers.{as_number, each_number, in_numbers, row_in_numbers}
use Rattle.c_meaning.specs.Memory.{nought}
use Rattle.c_meaning.specs.Values as meaning
use Rattle.c_meaning.specs.Values.{CValue, on_ok}
use Rattle.c_operators.specs.Values.{Gives}
use Rattle.c_operators.specs.declared.Trouble.{Trouble}

-- of a scalar
abbrev pub number_given : Target → CScalar → Init CValue → Result ℤ meaning.Trouble
number_given t k (One v) = as_number t k v
number_given t k Zero = Err meaning.Stuck
number_given t k (Braces is) = Err meaning.Stuck

abbrev pub numbers_given : Target → CTree → Init CValue → Result (List ℤ) meaning.Trouble
numbers_given t a i = on_ok (in_numbers t a i) (λ ns. Ok (cells (initial nought a ns)))

-- of n elements, and of members
abbrev pub elements_given : Target → ℕ → CTree → Inits CValue → Result (List ℤ) meaning.Trouble
elements_given t n a is = on_ok (each_number n (in_numbers t a) is) (λ ns. Ok (cells_row (elements n (initial nought a) (zeros nought a) ns)))

abbrev pub members_given : Target → CRow → Inits CValue → Result (List ℤ) meaning.Trouble
members_given t r is = on_ok (row_in_numbers t r is) (λ ns. Ok (cells_row (initial_row nought r ns)))

-- of one member, which may have no initializer
abbrev pub member_given : Target → CTree → Option (Init CValue) → Result (List ℤ) meaning.Trouble
member_given t a None = Ok (cells (zeros nought a))
member_given t a (Some i) = numbers_given t a i

-- numbers more
abbrev pub Adds : Result (List ℤ) meaning.Trouble → (old new : List ℤ) → Result (Unit {0}) Trouble → Type 0
Adds said old new result = Gives (Unit {0}) (λ done. new) (on_ok said (λ ns. Ok (old ++ ns))) result
