-- What must hold of a representation, and all that is used of it: what was written is read, and what was not is indeterminate.
use Rattle.std.specs.Prelude.{◌≡◌, length, replicate, Some, None, true}
use Rattle.c_memory.specs.Representations.{Representation}

-- where `Ok` says which values a scalar can hold
pub record Faithful {S V B : Type 0} (r : Representation S V B) (Ok : S → V → Type 0) : Type 0 where
  -- a value has as many bytes as its scalar
  pub long : (s : S) (v : V) → length (r.codec.encode s v) ≡ r.metric.width s
  -- it is decoded from those to which it was encoded
  pub back : (s : S) (v : V) → Ok s v → r.codec.decode s (r.codec.encode s v) ≡ Some v
  -- bytes to which nothing was written have no value
  pub fresh : (s : S) → r.codec.decode s (replicate (r.metric.width s) r.codec.blank) ≡ None
  -- scalars are told apart
  pub itself : (s : S) → r.same s s ≡ true
  pub exact : (s u : S) → r.same s u ≡ true → s ≡ u
