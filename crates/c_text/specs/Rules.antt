-- The rules of names and of types that a text can break, one line for each, and what is asked of a text at its places.
use Rattle.std.specs.Prelude.{ℕ, ◌+◌, Bool, true, List, [], ◌∷◌, length, Option, Some, None}
use Rattle.c_text.specs.declared.fault.CWhy.{CWhy}
use Rattle.c_text.specs.declared.fault.CWhy.TheVariants.{BadName, BadType}

pub data Rule : Type 0 where
  -- an unknown name, tag or member
  NameIsKnown TagIsKnown MemberIsKnown : Rule
  -- a name declared while it is in scope, or a member or tag twice (6.7)
  NameIsNew TagIsNew MemberIsNew : Rule
  -- a function, extern or object whose name is not `iv_` and more, other than `ivory_stop`
  NameIsOfFile : Rule
  -- a call of no function, or of a later or the same one
  CalledIsEarlier : Rule
  -- an operator on other than scalars, `?:` included (6.5.3.3, 6.5.5 to 6.5.15)
  OperandsAreScalars : Rule
  -- a cast that there is not (6.5.4)
  CastIsAllowed : Rule
  -- `*` of no pointer (6.5.3.2)
  StarHasPointer : Rule
  -- `.` or `[` of a wrong place (6.5.2.1, 6.5.2.3)
  DotHasStruct IndexHasArray : Rule
  -- `&` of a const name, of an array member or of no object (6.5.3.2)
  AddressIsOfObject : Rule
  -- a place read as a value that is neither scalar nor a const name (6.3.2.1)
  ReadHasValue : Rule
  -- a function's name used as a place
  NameIsPlace : Rule
  -- an assignment to an array or struct, to a const name, const object or through a const pointer (6.5.16)
  AssignedIsScalar : Rule
  -- a pointer given where another base is wanted or const would be lost, a scalar for a pointer or the reverse (6.5.16.1)
  GivenIsWanted : Rule
  -- an index, or what `if` tests, that is no scalar
  IndexIsScalar TestIsScalar : Rule
  -- a wrong number of arguments (6.5.2.2)
  ArgumentsAreCounted : Rule
  -- a void call as initializer, or a call's result of another type than is wanted
  ResultIsWanted : Rule
  -- a `return` with a value in a void function, or without one in another (6.8.6.4)
  ReturnMatches : Rule
  -- `break` outside a loop (6.8.6.3)
  BreakIsInLoop : Rule
  -- too many initializers (6.7.8)
  InitializersFit : Rule
  -- a wrongly braced initializer
  BracesMatch : Rule
  -- a name in an initializer at file scope (6.6)
  FileScopeHasNoNames : Rule
  -- an array length not from 1 to 65,535
  LengthIsAllowed : Rule
  -- a member that ends past byte 4,294,967,295 of its struct in the target
  MemberEndsInTime : Rule
  -- a decimal constant that 6.4.4.1 gives no type
  ConstantHasType : Rule

-- whether a rule speaks of names or of types
abbrev pub why_of : Rule → CWhy
why_of NameIsKnown = BadName
why_of TagIsKnown = BadName
why_of MemberIsKnown = BadName
why_of NameIsNew = BadName
why_of TagIsNew = BadName
why_of MemberIsNew = BadName
why_of NameIsOfFile = BadName
why_of CalledIsEarlier = BadName
why_of OperandsAreScalars = BadType
why_of CastIsAllowed = BadType
why_of StarHasPointer = BadType
why_of DotHasStruct = BadType
why_of IndexHasArray = BadType
why_of AddressIsOfObject = BadType
why_of ReadHasValue = BadType
why_of NameIsPlace = BadType
why_of AssignedIsScalar = BadType
why_of GivenIsWanted = BadType
why_of IndexIsScalar = BadType
why_of TestIsScalar = BadType
why_of ArgumentsAreCounted = BadType
why_of ResultIsWanted = BadType
why_of ReturnMatches = BadType
why_of BreakIsInLoop = BadType
why_of InitializersFit = BadType
why_of BracesMatch = BadType
why_of FileScopeHasNoNames = BadType
why_of LengthIsAllowed = BadType
why_of MemberEndsInTime = BadType
why_of ConstantHasType = BadType

-- at a place of the text a rule is asked for, and it is kept or broken
pub record Demand : Type 0 where
  pub at : ℕ
  pub rule : Rule
  pub kept : Bool

abbrev pub ask : ℕ → Rule → Bool → List Demand
ask at rule kept = record { at = at; rule = rule; kept = kept } ∷ []

-- the place behind a text that begins at a place
abbrev pub behind : ℕ → List ℕ → ℕ
behind at text = at + length text

-- Of what has no type nothing is asked: a rule is broken within it, and told there.
abbrev pub where_typed : {A : Type 0} → (A → Bool) → Option A → Bool
where_typed test None = true
where_typed test (Some a) = test a

abbrev pub where_both : {A B : Type 0} → (A → B → Bool) → Option A → Option B → Bool
where_both test None b = true
where_both test (Some a) b = where_typed (test a) b
