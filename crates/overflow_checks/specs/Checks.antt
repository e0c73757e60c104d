-- Which checks an operator of a kind has, in the order in which they are made: for each one there is a guard.
use Rattle.std.specs.Prelude.{Bool, true, false, ◌||◌, if◌then◌else◌, List, [], ◌∷◌}
use Rattle.iv_words.specs.Kinds.{is_signed}
use Rattle.iv_words.specs.declared.IntKind.{IntKind}
use Rattle.int_ops.specs.declared.Op.{Op}
use Rattle.int_ops.specs.declared.Op.TheVariants.{Add, Sub, Mul, Div, Rem, Shl, Shr, Neg, Eq, Ne, Lt, Le, Gt, Ge}
use Rattle.int_ops.specs.declared.Stop.{Stop}
use Rattle.int_ops.specs.declared.Stop.TheVariants.{Overflow, DivZero, Shift}

abbrev pub checks_at : Op → Bool → List Stop
checks_at Add signed = Overflow ∷ []
checks_at Sub signed = Overflow ∷ []
checks_at Mul signed = Overflow ∷ []
checks_at Neg signed = Overflow ∷ []
checks_at Div signed = DivZero ∷ (if signed then Overflow ∷ [] else [])
checks_at Rem signed = DivZero ∷ (if signed then Overflow ∷ [] else [])
checks_at Shl signed = Shift ∷ []
checks_at Shr signed = Shift ∷ []
checks_at _ signed = []

abbrev pub checks : Op → IntKind → List Stop
checks op kind = checks_at op (is_signed kind)

abbrev pub same_stop : Stop → Stop → Bool
same_stop Overflow Overflow = true
same_stop DivZero DivZero = true
same_stop Shift Shift = true
same_stop _ _ = false

abbrev pub is_among : List Stop → Stop → Bool
is_among [] which = false
is_among (check ∷ rest) which = same_stop check which || is_among rest which

-- the operator of the kind has this check
abbrev pub is_check : Op → IntKind → Stop → Bool
is_check op kind which = is_among (checks op kind) which

abbrev pub up_to : List Stop → Stop → List Stop
up_to [] which = []
up_to (check ∷ rest) which = if same_stop check which then [] else check ∷ up_to rest which

-- the checks that are made before this one
abbrev pub checks_before : Op → IntKind → Stop → List Stop
checks_before op kind which = up_to (checks op kind) which

-- the operators whose answer is a truth
abbrev pub is_comparison : Op → Bool
is_comparison Eq = true
is_comparison Ne = true
is_comparison Lt = true
is_comparison Le = true
is_comparison Gt = true
is_comparison Ge = true
is_comparison _ = false
