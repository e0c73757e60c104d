-- How control leaves two sides alike: with related states, and where both give a value back, with values and states that are
-- related together. So what a returned reference means may depend on what is still there.
use Rattle.step_semantics.specs.Control.{Control, Falls, Broke, Returned}

module _ {S T V U : Type 0} (rel : S → T → Type 0) (back : V → S → U → T → Type 0) where
  abbrev pub Same : Control V → S → Control U → T → Type 0
  Same Falls s Falls t = rel s t
  Same Broke s Broke t = rel s t
  Same (Returned v) s (Returned u) t = back v s u t
  Same _ s _ t = ⊥

  -- A turn of a loop that counts, with more to come: `head` relates the states before the next turn. The loop of the second has no
  -- end of its own.
  abbrev pub Turned : (S → T → Type 0) → Control V → S → Control U → T → Type 0
  Turned head Falls s Falls t = head s t
  Turned head Broke s Broke t = rel s t
  Turned head (Returned v) s (Returned u) t = back v s u t
  Turned head _ s _ t = ⊥

  -- the last turn: the second breaks off its loop
  abbrev pub LastTurned : Control V → S → Control U → T → Type 0
  LastTurned Falls s Broke t = rel s t
  LastTurned Broke s Broke t = rel s t
  LastTurned (Returned v) s (Returned u) t = back v s u t
  LastTurned _ s _ t = ⊥
