-- Objects made, and those that end (C99 6.2.4): an object of a block is made where its declaration is reached, with no value, and ends
-- with the block.
use Rattle.std.specs.Prelude.{ℕ, zero, suc, List, [], ◌∷◌, ◌++◌, map, replicate, true, false}
use Rattle.type_trees.specs.Trees.{Tree}
use Rattle.type_trees.specs.Layouts.{size}
use Rattle.c_memory.specs.Representations.{Representation}
use Rattle.c_memory.specs.Objects.{Object, Objects}

abbrev pub blank_bytes : {S N V B : Type 0} → Representation S V B → Tree S N → List B
blank_bytes r a = replicate (size r.metric a) r.codec.blank

abbrev pub fresh : {S N V B : Type 0} → Representation S V B → Tree S N → Object S N B
fresh r a = record { type = a; constant = false; live = true; bytes = blank_bytes r a }

-- its number is how many were made before
abbrev pub create : {S N V B : Type 0} → Representation S V B → Objects S N B → Tree S N → Objects S N B
create r mem a = mem ++ fresh r a ∷ []

abbrev pub ended : {S N B : Type 0} → Object S N B → Object S N B
ended ob = record ob { live = false }

-- those from number k on have ended
abbrev pub leave : {S N B : Type 0} → (made_before : ℕ) → Objects S N B → Objects S N B
leave zero mem = map ended mem
leave (suc k) [] = []
leave (suc k) (ob ∷ mem) = ob ∷ leave k mem
