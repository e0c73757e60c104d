use Rattle.std.proofs.Common.{Some, map, sym, ap, ◌∙◌, subst}
use Rattle.core_state.specs.Types.{written_of}
use Rattle.core_state.proofs.Views.{struct_is}
use Rattle.core_statements.specs.Initial.{TypesIn}
use Rattle.core_statements.proofs.Lists.{types_are}
use Rattle.core_statements.proofs.initial.types_in.Goals as goal

pub returns-in-Struct : goal.returns-in-Struct
returns-in-Struct c =
    let types = map written_of c.in-Struct.fields in
    subst (λ a. TypesIn (Some types) a) (sym (ap written_of c.in-Struct.is ∙ struct_is c.in-Struct.field-0 c.in-Struct.fields)) (ap Some (sym (types_are 0 types)))
