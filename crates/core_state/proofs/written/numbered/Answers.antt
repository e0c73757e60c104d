use Rattle.std.proofs.Common.{◌∙◌, map, sym, ap}
use Rattle.std.specs.Prelude.{unwrap_or}
use Rattle.std.specs.Option.{option_map}
use Rattle.std.proofs.lemmas.Option.{slice_get-map, slice_get_past}
use Rattle.type_trees.specs.Trees.{Struct, End}
use Rattle.core_state.specs.Types.{written_of, fields_from}
use Rattle.core_state.proofs.Views.{struct_is}
use Rattle.core_state.proofs.written.numbered.Goals as goal

pub returns-in-None : goal.returns-in-None
returns-in-None c =
    struct_is c.args.number c.new.result ∙ ap (λ fs. Struct c.args.number (fields_from 0 (map written_of fs))) c.new.ensures
    ∙ ap (λ found. unwrap_or found (Struct c.args.number End))
    (sym (slice_get-map written_of c.args.structs.now c.args.number ∙ ap (option_map written_of) (slice_get_past c.args.structs.now c.args.number c.in-None.ensures.lookup.3)))
