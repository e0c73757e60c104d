-- The first faults of small modules, by the function.
use Rattle.std.proofs.Common.{refl}
use Rattle.rule_faults.specs.Examples as example
use Rattle.rule_faults.specs.Examples.{own_returned, two_regions, five, too_great, left_loop, short_fields, two_rules, two_nodes, after_else, later_call, OwnIsNotReturned, TwoRegionsClash, NarrowedBreak, NothingIsWanted, LiteralIsTooGreat, BodyFallsThrough, WidthsMissTheWord, LeastRuleCounts, OuterNodeCounts, ElseBlockEnds, LaterIsNotCalled}
use Rattle.rule_faults.proofs.Found.{found_law}

pub own_is_not_returned : OwnIsNotReturned
own_is_not_returned = found_law own_returned 38 _ refl

pub two_regions_clash : TwoRegionsClash
two_regions_clash = found_law two_regions 35 _ refl

pub narrowed_break : NarrowedBreak
narrowed_break = found_law example.narrowed_break 42 _ refl

pub nothing_is_wanted : NothingIsWanted
nothing_is_wanted = found_law five 18 _ refl

pub literal_is_too_great : LiteralIsTooGreat
literal_is_too_great = found_law too_great 19 _ refl

pub body_falls_through : BodyFallsThrough
body_falls_through = found_law left_loop 44 _ refl

pub widths_miss_the_word : WidthsMissTheWord
widths_miss_the_word = found_law short_fields 10 _ refl

pub least_rule_counts : LeastRuleCounts
least_rule_counts = found_law two_rules 20 _ refl

pub outer_node_counts : OuterNodeCounts
outer_node_counts = found_law two_nodes 20 _ refl

pub else_block_ends : ElseBlockEnds
else_block_ends = found_law after_else 4 _ refl

pub later_is_not_called : LaterIsNotCalled
later_is_not_called = found_law later_call 7 _ refl

pub ruleset examples = (own_is_not_returned, two_regions_clash, narrowed_break, nothing_is_wanted, literal_is_too_great, body_falls_through, widths_miss_the_word, least_rule_counts, outer_node_counts, else_block_ends, later_is_not_called)
