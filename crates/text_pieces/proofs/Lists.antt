-- The texts of a list, put one after another.
use Rattle.std.proofs.Common.{◌≡◌, refl, sym, ◌∙◌, ap, subst, ℕ, ◌+◌, ◌<◌, ◌≤◌, List, [], ◌∷◌, ◌++◌, length, take, get_or, append_assoc}
use Rattle.std.specs.Prelude.{map}
use Rattle.std.specs.List.{concat}
use Rattle.std.proofs.lemmas.List.{take_more, take_all, map-append, append-nil}
use Rattle.text_pieces.specs.Stages.{Stage, Puts}
use Rattle.text_pieces.proofs.Stages.{then}

joined : (xs ys : List (List ℕ)) → concat (xs ++ ys) ≡ concat xs ++ concat ys
joined [] ys = refl
joined (x ∷ xs) ys = ap (λ t. x ++ t) (joined xs ys) ∙ sym (append_assoc x (concat xs) (concat ys))

one_text_more : {X : Type 0} (text : X → List ℕ) (xs : List X) (i : ℕ) (x : X) → i < length xs
    → concat (map text (take (i + 1) xs)) ≡ concat (map text (take i xs)) ++ text (get_or xs i x)
one_text_more text xs i x below =
    ap (λ ys. concat (map text ys)) (take_more xs i x below)
    ∙ ap concat (map-append text (take i xs) (get_or xs i x ∷ []))
    ∙ joined (map text (take i xs)) (text (get_or xs i x) ∷ [])
    ∙ ap (λ t. concat (map text (take i xs)) ++ t) (append-nil (text (get_or xs i x)))

-- the step of a loop over a list
pub one_more : {X : Type 0} (text : X → List ℕ) (xs : List X) (i : ℕ) (x : X) {s m e : Stage} → i < length xs → x ≡ get_or xs i x
    → Puts s m (concat (map text (take i xs))) → Puts m e (text x) → Puts s e (concat (map text (take (i + 1) xs)))
one_more text xs i x {s} {m} {e} below is so_far last =
    subst (Puts s e) (sym (one_text_more text xs i x below)) (then so_far (subst (λ y. Puts m e (text y)) is last))

-- the end of such a loop
pub all_put : {X : Type 0} (text : X → List ℕ) (xs : List X) (i : ℕ) {s e : Stage} → length xs ≤ i → Puts s e (concat (map text (take i xs))) → Puts s e (concat (map text xs))
all_put text xs i {s} {e} past puts = subst (λ ys. Puts s e (concat (map text ys))) (take_all i xs past) puts
