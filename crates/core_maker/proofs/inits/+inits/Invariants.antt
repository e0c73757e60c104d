-- What the initializers so far leave to the rest.
use Rattle.std.proofs.Common.{◌≡◌, drop, map}
use Rattle.area_types.specs.View.{area_of, field_of}
use Rattle.core_tree.specs.View as tree
use Rattle.ivory_tree.specs.View.{inits_of}
use Rattle.typing_rules.specs.StatementCores.{elements_core, fields_core}
use Rattle.core_maker.specs.Initializers.{fields_at, ended}
use Rattle.check_numbers.specs.NumberedParts.{inits_from, inits_after}
use Rattle.core_maker.specs.Places.{env_of}
use Rattle.core_maker.proofs.inits.+inits.Given as goal

abbrev pub invariant-elements-loop-text : goal.invariant-elements-loop-text
invariant-elements-loop-text l =
    (ended (map tree.init_of l.made) (inits_from l.next (elements_core (env_of l.place) (area_of l.element) (inits_of (drop l.text-index l.inits)))) ≡ inits_from l.initial.next (elements_core (env_of l.place) (area_of l.element) (inits_of l.inits)))
    × (inits_after l.next (elements_core (env_of l.place) (area_of l.element) (inits_of (drop l.text-index l.inits))) ≡ inits_after l.initial.next (elements_core (env_of l.place) (area_of l.element) (inits_of l.inits)))

abbrev pub invariant-fields-loop-text : goal.invariant-fields-loop-text
invariant-fields-loop-text l =
    (ended (map tree.init_of l.made) (inits_from l.next (fields_core (env_of l.place) (map field_of l.rest) (inits_of (drop l.text-index l.inits))))
    ≡ inits_from l.initial.next (fields_core (env_of l.place) (fields_at (env_of l.place) l.number) (inits_of l.inits)))
    × (inits_after l.next (fields_core (env_of l.place) (map field_of l.rest) (inits_of (drop l.text-index l.inits))) ≡ inits_after l.initial.next (fields_core (env_of l.place) (fields_at (env_of l.place) l.number) (inits_of l.inits)))
