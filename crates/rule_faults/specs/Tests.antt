-- Tests of what may be missing: a rule that speaks of a type is broken only where that type exists.
use Rattle.std.specs.Prelude.{Bool, false, Option, Some, None}

abbrev pub where_there : {A : Type 0} → Option A → (A → Bool) → Bool
where_there None test = false
where_there (Some x) test = test x

abbrev pub where_both : {A B : Type 0} → Option A → Option B → (A → B → Bool) → Bool
where_both (Some x) (Some y) test = test x y
where_both _ _ test = false
