-- The call of an import, the same act in the source and in C: the outside sees the call, and then replies.
use Rattle.std.specs.Prelude.{ℕ, ℤ, List, [], ◌∷◌, if◌then◌else◌}
use Rattle.run_records.specs.declared.AreaCells.{AreaCells}
use Rattle.run_records.specs.declared.Event.TheVariants.{Call}
use Rattle.run_records.specs.declared.Piece.{Piece}
use Rattle.run_records.specs.declared.Plain.{Plain}
use Rattle.run_records.specs.Scripts.{values_fit}
use Rattle.step_semantics.specs.Steps.{MissingReply, UnfitReply, Halted, Part, give, halt, with_event}

-- a reply must have a value for each type of the shape, in it
abbrev pub checked : {S : Type 0} → (S → List AreaCells) → List Plain → List ℤ → Part S (List ℤ)
checked see shape reply = if values_fit shape reply then give reply else halt see UnfitReply

-- the next of the replies that are left
abbrev pub next_reply : {S : Type 0} → (S → List AreaCells) → List Plain → List (List ℤ) → Part S (List ℤ)
next_reply see shape [] n w s = Halted MissingReply w (see s)
next_reply see shape (reply ∷ later) n w s = checked see shape reply n (record w { replies = later }) s

-- an import whose shape is empty takes no reply
abbrev pub replied : {S : Type 0} → (S → List AreaCells) → List Plain → Part S (List ℤ)
replied see [] n w s = give [] n w s
replied see (t ∷ ts) n w s = next_reply see (t ∷ ts) w.replies n w s

-- The call of an import by its name, with what is seen of its arguments. The shape of its reply is its result, if it has
-- one, and then the cells of each reference through which it may write. The values of the reply are given on; the state
-- is as it was.
abbrev pub import_call : {S : Type 0} → (S → List AreaCells) → List ℕ → List Piece → List Plain → Part S (List ℤ)
import_call see name pieces shape n w s = replied see shape n (with_event (Call name pieces) w) s
