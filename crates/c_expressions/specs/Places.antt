-- What the code's places say in the words of the meaning.
use Rattle.run_records.specs.declared.Reason.TheVariants as reason
use Rattle.c_meaning.specs.Places as meaning
use Rattle.c_objects.specs.declared.Fault.TheVariants as fault
use Rattle.c_objects.specs.declared.Refusal.{Refusal}
use Rattle.c_objects.specs.declared.Refusal.TheVariants as refusal
use Rattle.c_objects.specs.Shapes.{type_tree}
use Rattle.c_operators.specs.Values.{address_of, value_of}
use Rattle.c_operators.specs.declared.Trouble.{Trouble}
use Rattle.c_operators.specs.declared.Trouble.TheVariants as trouble
use Rattle.c_expressions.specs.declared.lvalues.Lvalue.{Lvalue}
use Rattle.c_expressions.specs.declared.lvalues.Lvalue.TheVariants.{Known, Located}

abbrev pub lvalue_of : Lvalue → meaning.Lvalue
lvalue_of (Known v) = meaning.Known (value_of v)
lvalue_of (Located constant to part) = meaning.Located constant (address_of to) (type_tree part)

-- Want of memory says nothing: an offset past what the code's numbers hold is no exception.
abbrev pub Excused : Type 0
Excused = Unit {0}

-- why an access to memory has no meaning
abbrev pub trouble_of : Refusal → Trouble
trouble_of (refusal.Fault fault.Dead) = trouble.Undefined reason.Dead
trouble_of (refusal.Fault fault.BadAccess) = trouble.Undefined reason.BadAccess
trouble_of (refusal.Fault fault.Indeterminate) = trouble.Undefined reason.Indeterminate
trouble_of (refusal.Fault fault.ConstWrite) = trouble.Undefined reason.ConstWrite
trouble_of refusal.Memory = trouble.Memory
