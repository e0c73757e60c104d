-- What the arguments so far leave to the rest.
use Rattle.std.proofs.Common.{◌≡◌, ◌++◌, drop, map, option_map}
use Rattle.area_types.specs.View.{type_of}
use Rattle.core_tree.specs.View as tree
use Rattle.ivory_tree.specs.View.{expr_of}
use Rattle.typing_rules.specs.StatementCores.{args_core}
use Rattle.check_numbers.specs.NumberedParts.{exprs_from, exprs_after}
use Rattle.core_maker.specs.Places.{env_of}
use Rattle.core_maker.proofs.calls.arguments.Given as goal

abbrev pub invariant-loop-arg : goal.invariant-loop-arg
invariant-loop-arg l =
    (map tree.expr_of l.made ++ exprs_from l.next (args_core (env_of l.place) (map (option_map type_of) l.rest) (map expr_of (drop l.arg-index l.args)))
    ≡ exprs_from l.initial.next (args_core (env_of l.place) (map (option_map type_of) l.params) (map expr_of l.args)))
    × (exprs_after l.next (args_core (env_of l.place) (map (option_map type_of) l.rest) (map expr_of (drop l.arg-index l.args)))
    ≡ exprs_after l.initial.next (args_core (env_of l.place) (map (option_map type_of) l.params) (map expr_of l.args)))
