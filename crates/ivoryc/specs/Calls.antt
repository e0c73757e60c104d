-- What can be seen of one call of the program: its words, its status, and the store and the two outputs before and after it.
use Rattle.std.specs.Prelude.{◌≡◌, ℕ, ◌+◌, ◌≤◌, List, length, Option, Some, None}
use Rattle.iv_base.specs.Counts.{capped, Rose}
use Rattle.iv_base.specs.Sinks.{grown, GrewByPrefix}
use Rattle.iv_base.specs.Stores.{FileMap, text_of}
use Rattle.ivoryc.specs.declared.status.Status.{Status}

-- ---- stores and outputs as they are seen

pub record StoreSeen : Type 0 where
  -- the bytes under each name, where the store tells it
  pub holds : Option FileMap
  -- the number of loads
  pub loads : ℕ
  pub faults : ℕ

pub record SinkSeen : Type 0 where
  -- what was written, where the output tells it
  pub held : Option (List ℕ)
  -- the number of bytes that it has taken
  pub taken : ℕ
  pub faults : ℕ

abbrev pub store_seen : {S : Type 0} → (S → Option FileMap) → (S → ℕ) → (S → ℕ) → S → StoreSeen
store_seen holds loads faults s = record { holds = holds s; loads = loads s; faults = faults s }

abbrev pub sink_seen : {K : Type 0} → (K → Option (List ℕ)) → (K → ℕ) → (K → ℕ) → K → SinkSeen
sink_seen held taken faults k = record { held = held k; taken = taken k; faults = faults k }

-- ---- a call

-- what is seen of a thing before and after
pub record Change (T : Type 0) : Type 0 where
  pub before : T
  pub after : T

abbrev pub change_of : {X T : Type 0} → (X → T) → X → X → Change T
change_of seen old new = record { before = seen old; after = seen new }

pub record Call : Type 0 where
  pub words : List (List ℕ)
  pub status : Status
  pub store : Change StoreSeen
  pub out : Change SinkSeen
  pub err : Change SinkSeen

-- ---- what a call did to a store or an output

-- nothing: no byte was written, and no count moved
abbrev pub Unchanged : {T : Type 0} → Change T → Type 0
Unchanged c = c.after ≡ c.before

-- the store failed
abbrev pub Unread : Change StoreSeen → Type 0
Unread store = Rose store.before.faults store.after.faults

-- the output failed
abbrev pub Unwritten : Change SinkSeen → Type 0
Unwritten sink = Rose sink.before.faults sink.after.faults

-- the output took the whole text; its count of faults did not fall
pub record Took (sink : Change SinkSeen) (text : List ℕ) : Type 0 where
  pub held : sink.after.held ≡ grown sink.before.held text
  pub taken : sink.after.taken ≡ capped (sink.before.taken + length text)
  pub later : sink.before.faults ≤ sink.after.faults

-- the output failed at the text, of which it took a part
pub record FailedAt (sink : Change SinkSeen) (text : List ℕ) : Type 0 where
  pub held : GrewByPrefix sink.before.held sink.after.held text
  pub unwritten : Unwritten sink
  pub later : sink.before.faults ≤ sink.after.faults

-- the text under a name: an absent one stands for the empty text; where the store does not tell, it may be any
abbrev pub StandsUnder : Option FileMap → List ℕ → List ℕ → Type 0
StandsUnder None file text = Unit {0}
StandsUnder (Some files) file text = text ≡ text_of (files file)
