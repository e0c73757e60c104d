-- A text that is put in two pieces: what was added, and how much of it where a put refused.
use Rattle.std.proofs.Common.{◌≡◌, refl, sym, ◌∙◌, ap, ℕ, List, ◌++◌, append_assoc}
use Rattle.std.specs.Prelude.{Option, Some, None}
use Rattle.iv_base.specs.Sinks.{grown, GrewByPrefix}

pub grown_grown : (held : Option (List ℕ)) (a b : List ℕ) → grown (grown held a) b ≡ grown held (a ++ b)
grown_grown None a b = refl
grown_grown (Some text) a b = ap (λ x. Some x) (append_assoc text a b)

pub part_of_first : (held now : Option (List ℕ)) (a b : List ℕ) → GrewByPrefix held now a → GrewByPrefix held now (a ++ b)
part_of_first held now a b g = record {
  added = g.added;
  rest = g.rest ++ b;
  whole = sym (append_assoc g.added g.rest b) ∙ ap (λ x. x ++ b) g.whole;
  holds = g.holds;
}

pub part_of_second : (held now : Option (List ℕ)) (a b : List ℕ) → GrewByPrefix (grown held a) now b → GrewByPrefix held now (a ++ b)
part_of_second held now a b g = record {
  added = a ++ g.added;
  rest = g.rest;
  whole = append_assoc a g.added g.rest ∙ ap (λ x. a ++ x) g.whole;
  holds = g.holds ∙ grown_grown held a g.added;
}
