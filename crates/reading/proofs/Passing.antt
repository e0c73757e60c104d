-- What a reader leaves is a part of what it was given.
use Rattle.std.proofs.Common.{◌≡◌, ℕ, Bool, true, false, List, [], ◌∷◌, ◌++◌, refl, sym, ap, ◌∙◌, append_assoc}
use Rattle.reading.specs.Row.{Signs, tokens, starts}
use Rattle.reading.specs.Language.{Language}
use Rattle.reading.specs.Reader.{Outcome, Done, Unexpected, TooDeep, Reader}
use Rattle.reading.specs.Good.{Good, Passed}

pub passed_more : {T A : Type 0} (g rest : List T) (o : Outcome T A) → Passed rest o → Passed (g ++ rest) o
passed_more g rest (Done a r) w = (g ++ w.0, ap (λ x. g ++ x) w.1 ∙ sym (append_assoc g w.0 r))
passed_more g rest (Unexpected r) w = (g ++ w.0, ap (λ x. g ++ x) w.1 ∙ sym (append_assoc g w.0 r))
passed_more g rest (TooDeep r) w = tt

suffix_of : {T A : Type 0} {signs : Signs T} {limit : ℕ} {c : T → Bool} {R : Language T A} {p : Reader T A} → Good signs limit c R p
    → (ts : List T) (o : Outcome T A) → p ts ≡ o → Passed ts o
suffix_of g ts (Done a r) e = let d = g.done ts a r e in (tokens d.0, d.3)
suffix_of g ts (Unexpected r) e = let d = g.unexpected ts r e in (tokens d.0, d.5)
suffix_of g ts (TooDeep r) e = tt

pub suffix : {T A : Type 0} {signs : Signs T} {limit : ℕ} {c : T → Bool} {R : Language T A} {p : Reader T A} → Good signs limit c R p → (ts : List T) → Passed ts (p ts)
suffix {p} g ts = suffix_of g ts (p ts) refl

-- where fewer tokens go on, no token goes on there either
pub still_stops : {T : Type 0} (c wide : T → Bool) → ((t : T) → c t ≡ true → wide t ≡ true) → (rest : List T) → starts wide rest ≡ false → starts c rest ≡ false
still_stops c wide h [] e = refl
still_stops c wide h (t ∷ rest) e = at (c t) refl
  where
    at : (b : Bool) → c t ≡ b → c t ≡ false
    at true is = let bad : wide t ≡ true = h t is in cc
    at false is = is
