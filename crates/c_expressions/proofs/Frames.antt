-- Lists whose last element is the first that is seen.
use Rattle.std.proofs.Common.{◌≡◌, ℕ, List, ◌++◌, map, take, length, ap, sym, ◌∙◌}
use Rattle.std.specs.Prelude.{reverse}
use Rattle.c_meaning.specs.Memory.{CObjects}
use Rattle.c_meaning.specs.State.{Frame, CState}
use Rattle.std.proofs.lemmas.List.{reverse-append, reverse-reverse, length-reverse, take-map, take_at}

module _ {A B : Type 0} (f : A → B) where
  -- the first n of them are the last n that are seen
  pub kept : (xs : List A) (more tail : List B) (n : ℕ) → reverse (map f xs) ≡ more ++ tail → n ≡ length tail → reverse (map f (take n xs)) ≡ tail
  kept xs more tail n e h =
      let whole : map f xs ≡ reverse tail ++ reverse more = sym (reverse-reverse (map f xs)) ∙ ap reverse e ∙ reverse-append more tail in
      ap reverse (sym (take-map f n xs) ∙ ap (take n) whole ∙ take_at (reverse tail) (reverse more) n (length-reverse tail ∙ sym h)) ∙ reverse-reverse tail

-- ---- states

abbrev state_with : Frame → List Frame → CObjects → CState
state_with own callers objects = record { frames = record { own = own; callers = callers }; objects = objects }

pub same_state : {own before : Frame} {objects left : CObjects} (callers : List Frame) → own ≡ before → objects ≡ left → state_with own callers objects ≡ state_with before callers left
same_state {before = before} {objects = objects} callers e h = ap (λ f. state_with f callers objects) e ∙ ap (state_with before callers) h
