-- When one list of events begins another.
use Rattle.std.proofs.Common.{◌≡◌, List, [], ◌∷◌, ◌++◌, refl, sym, ◌∙◌, ap, append_assoc, append-nil}
use Rattle.run_records.specs.declared.Event.{Event}
use Rattle.step_semantics.specs.Steps.{World, with_event}
use Rattle.step_semantics.specs.Lawful.{Prefix}

pub prefix_refl : (l : List Event) → Prefix l l
prefix_refl l = record { more = []; is = sym (append-nil l) }

pub prefix_of_equal : (l m : List Event) → m ≡ l → Prefix l m
prefix_of_equal l m e = record { more = []; is = e ∙ sym (append-nil l) }

pub prefix_trans : (l m k : List Event) → Prefix l m → Prefix m k → Prefix l k
prefix_trans l m k h g = record { more = h.more ++ g.more; is = g.is ∙ ap (λ z. z ++ g.more) h.is ∙ append_assoc l h.more g.more }

pub prefix_with_event : (event : Event) (w : World) → Prefix w.events (with_event event w).events
prefix_with_event event w = record { more = event ∷ []; is = refl }
