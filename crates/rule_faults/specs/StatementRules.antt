-- Rules 31 to 34 and 40 to 44: stores and copies, calls, what is allowed, and paths. Each is told in words, and is
-- true of the nodes at which it is broken.
use Rattle.std.specs.Prelude.{Bool, false, ◌&&◌, not, nat_eq, length, Option, Some, None}
use Rattle.ivory_tree.specs.Syntax.{LetCall, Alloc, Store, Copy, Break, Return}
use Rattle.region_check.specs.Calls.{Reference, reference_of}
use Rattle.control_effects.specs.Falling.{block_falls}
use Rattle.source_types.specs.Values.{same_area}
use Rattle.source_types.specs.Environments.{callee_named}
use Rattle.rule_faults.specs.Types.{own_type}
use Rattle.rule_faults.specs.Nodes.{Node, ABlock, AStatement, ACall}
use Rattle.rule_faults.specs.Tests.{where_there, where_both}

abbrev pub only_reads : Option Reference → Bool
only_reads None = false
only_reads (Some r) = r.constant

-- rule 31: nothing is written through a const reference
abbrev pub rule_31 : Node → Bool
rule_31 (AStatement context reached (Store s target value)) = where_there (own_type context target) (λ t. only_reads (reference_of t))
rule_31 (AStatement context reached (Copy s target source)) = where_there (own_type context target) (λ t. only_reads (reference_of t))
rule_31 _ = false

-- both are references, to equal areas
abbrev pub alike : Option Reference → Option Reference → Bool
alike (Some p) (Some q) = same_area p.area q.area
alike _ _ = false

-- rule 32: areas of the same type are copied, from reference to reference
abbrev pub rule_32 : Node → Bool
rule_32 (AStatement context reached (Copy s target source)) = where_both (own_type context target) (own_type context source) (λ t u. not (alike (reference_of t) (reference_of u)))
rule_32 _ = false

-- rule 33: a `let` names the result of a call, so there is one
abbrev pub rule_33 : Node → Bool
rule_33 (AStatement context reached (LetCall s name call)) = where_there (callee_named context.earlier call.name.text) (λ c. not c.gives)
rule_33 _ = false

-- rule 34: there are as many arguments as parameters
abbrev pub rule_34 : Node → Bool
rule_34 (ACall context call) = where_there (callee_named context.earlier call.name.text) (λ c. not (nat_eq (length c.params) (length call.args)))
rule_34 _ = false

-- rule 40: a value is returned if and only if the procedure has a result
abbrev pub rule_40 : Node → Bool
rule_40 (AStatement context reached (Return s None)) = context.gives
rule_40 (AStatement context reached (Return s (Some value))) = not context.gives
rule_40 _ = false

-- rule 41: a `return` stands where returning is allowed
abbrev pub rule_41 : Node → Bool
rule_41 (AStatement context reached (Return s value)) = not context.allowed.may_return
rule_41 _ = false

-- rule 42: a `break` stands in a loop that it may leave
abbrev pub rule_42 : Node → Bool
rule_42 (AStatement context reached (Break s)) = not context.allowed.may_break
rule_42 _ = false

-- rule 43: an `alloc` stands where allocating is allowed
abbrev pub rule_43 : Node → Bool
rule_43 (AStatement context reached (Alloc s name area init)) = not context.allowed.may_alloc
rule_43 _ = false

-- rule 44: each statement is reached, and no path through the body of a procedure with a result ends without `return`
abbrev pub rule_44 : Node → Bool
rule_44 (ABlock with_result body) = with_result && block_falls body
rule_44 (AStatement context reached s) = not reached
rule_44 _ = false
