-- The forms on numbers that the code tells apart, and what each answers.
use Rattle.std.specs.Prelude.{ℕ, ℤ, pos, List, [], ◌∷◌, if◌then◌else◌, Option, Some, None, Result, Ok, Err}
use Rattle.iv_words.specs.Kinds.{in_range}
use Rattle.index_types.specs.Indices.{is_index, wrapped}
use Rattle.core_tree.specs.declared.Check.{Check}
use Rattle.core_tree.specs.declared.SiteKind.{SiteKind}
use Rattle.core_tree.specs.declared.SiteKind.TheVariants as site
use Rattle.core_meaning.specs.Checks.{Answer, same_kind}
use Rattle.core_meaning.specs.Answers.{in_kind}
use Rattle.run_world.specs.declared.Stopped.{Stopped}
use Rattle.run_world.specs.declared.Stopped.TheVariants as stopped
use Rattle.core_expressions.specs.declared.answers.Unary.{Unary}
use Rattle.core_expressions.specs.declared.answers.Unary.TheVariants.{Cast, Index, Wrap, Itself, Operator}
use Rattle.core_expressions.specs.declared.answers.Binary.{Binary}

abbrev pub unary_answer : Unary → ℤ → Answer
unary_answer (Cast kind) v = if in_range kind v then Ok v else Err site.Cast
unary_answer (Index length) v = if is_index length v then Ok v else Err site.Index
unary_answer (Wrap length) v = Ok (pos (wrapped length v))
unary_answer Itself v = Ok v
unary_answer (Operator op kind) v = in_kind op kind v v

abbrev pub binary_answer : Binary → ℤ → ℤ → Answer
binary_answer f a b = in_kind f.op f.kind a b

-- the site of the first check of a kind
abbrev pub first_site : List Check → SiteKind → Option ℕ
first_site [] kind = None
first_site (c ∷ cs) kind = if same_kind kind c.kind then Some c.site else first_site cs kind

-- an answer that only want of memory can withhold
abbrev pub NoHalt : {A : Type 0} → Result A Stopped → (A → Type 0) → Type 0
NoHalt (Ok a) P = P a
NoHalt (Err (stopped.Halted how)) P = ⊥
NoHalt (Err stopped.Exhausted) P = ⊥
NoHalt (Err stopped.Memory) P = Unit {0}
