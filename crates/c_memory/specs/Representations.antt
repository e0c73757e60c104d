-- What the memory is told of scalars: their sizes and alignments, how a value is represented in bytes (C99 6.2.6), and which two are of
-- one type. Everything above these definitions and `Faithful` speaks of any such representation and opens no byte.
use Rattle.std.specs.Prelude.{List, Option, Bool}
use Rattle.type_trees.specs.Layouts.{Metric}

-- over scalars S, values V and bytes B
pub record Codec (S V B : Type 0) : Type 0 where
  pub encode : S → V → List B
  -- none where a byte is indeterminate
  pub decode : S → List B → Option V
  -- a byte to which nothing was written
  pub blank : B

pub record Representation (S V B : Type 0) : Type 0 where
  pub metric : Metric S
  pub codec : Codec S V B
  pub same : S → S → Bool
