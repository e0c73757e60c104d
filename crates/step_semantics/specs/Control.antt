-- How control leaves a statement, and the statements that it moves through: rows of statements and loops.
use Rattle.std.specs.Prelude.{ℕ, zero, suc}
use Rattle.step_semantics.specs.Steps.{Exhausted, Part, give, after, bind, tick}

-- a statement falls through to the next one, breaks off its loop, or ends its procedure, with a value where it gives one
pub data Control (V : Type 0) : Type 0 where
  Falls : Control V
  Broke : Control V
  Returned : (value : V) → Control V

-- the next statement is reached by falling through alone
abbrev pub onward : {S V : Type 0} → Part S (Control V) → Control V → Part S (Control V)
onward next Falls = next
onward next Broke = give Broke
onward next (Returned v) = give (Returned v)

-- one statement, and those after it
abbrev pub also : {S V : Type 0} → Part S (Control V) → Part S (Control V) → Part S (Control V)
also first rest = bind first (onward rest)

-- what comes after a turn of a loop: a break leaves the loop, which then falls through
abbrev pub again : {S V : Type 0} → Part S (Control V) → Control V → Part S (Control V)
again loop Falls = loop
again loop Broke = give Falls
again loop (Returned v) = give (Returned v)

-- at most so many turns, each of which takes a step at its start
abbrev pub turns : {S V : Type 0} → ℕ → Part S (Control V) → Part S (Control V)
turns zero body n w s = Exhausted w
turns (suc most) body n w s = after (tick body n w s) (again (turns most body))

-- a loop with no end of its own: no run has more turns than steps
abbrev pub forever : {S V : Type 0} → Part S (Control V) → Part S (Control V)
forever body n w s = turns n body n w s

-- a loop that counts: a turn for i and `more` turns after it, for what comes next each time; each takes a step at its start
abbrev pub counted : {S V : Type 0} → ℕ → (ℕ → ℕ) → ℕ → (ℕ → Part S (Control V)) → Part S (Control V)
counted zero next i body = bind (tick (body i)) (again (give Falls))
counted (suc more) next i body = bind (tick (body i)) (again (counted more next (next i) body))
