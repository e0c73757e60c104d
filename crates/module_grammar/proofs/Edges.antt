-- Where rows of two rules begin and end.
use Rattle.std.proofs.Common.{◌≡◌, true, List, [], ◌∷◌, ◌++◌, inl, inr, sym, ap, ◌∙◌, subst, append_assoc, Bool, Option, Some, None}
use Rattle.reading.specs.Row.{Entry, Row, Signs}
use Rattle.reading.specs.Language.{Language, Then, Optional, Many}
use Rattle.reading.proofs.Rows.{back_nil, split_at}
use Rattle.reading.proofs.Plain.{Plain, plain_last}
use Rattle.reading.proofs.Starts.{StartsWith, either, either_first, either_second, many_first}

-- the last mark of two rows is the last of the second, if that has one
pub last_behind : {T : Type 0} (f g row : Row T) (m : Entry T) → f ++ g ≡ row ++ m ∷ [] → (g ≡ [] → ⊥) → (h : Row T) × (g ≡ h ++ m ∷ [])
last_behind f g row m e filled = elim (split_at row m [] f g (sym e)) [
  | inl (h, here, there) ↦ (h, there)
  | inr (h, here, there) ↦ absurd (filled (back_nil h g there))
]

-- two rows in one, and a third behind them
pub two_before : {T : Type 0} (m f g h : Row T) → m ≡ f ++ g → m ++ h ≡ f ++ (g ++ h)
two_before m f g h one = ap (λ x. x ++ h) one ∙ append_assoc f g h

-- three rows in one, and a fourth behind them
pub three_before : {T : Type 0} (m f r g h i : Row T) → m ≡ f ++ r → r ≡ g ++ h → m ++ i ≡ f ++ (g ++ (h ++ i))
three_before m f r g h i one two = ap (λ x. x ++ i) (one ∙ ap (λ x. f ++ x) two) ∙ append_assoc f (g ++ h) i ∙ ap (λ x. f ++ x) (append_assoc g h i)

-- the second rule, which is never empty, has the last token
pub plain_behind : {T A B : Type 0} {signs : Signs T} {P : Language T A} {Q : A → Language T B} {test : T → Bool} → ((a : A) → Plain signs (Q a)) → ((a : A) → StartsWith test (Q a)) → Plain signs (Then P Q)
plain_behind q s = plain_last q (λ a b r. (s a).nonempty b r)

-- none or more before it
pub starts_many : {T A B : Type 0} {R : Language T A} {Q : List A → Language T B} (p q : T → Bool) → StartsWith p R → ((vs : List A) → StartsWith q (Q vs)) → StartsWith (either p q) (Then (Many R) Q)
starts_many {T} {A} {B} {R} {Q} p q s t = record {
  first = λ b m row (vs, f, g, e, r, x). at b vs f g m row e r x;
  nonempty = λ b (vs, f, g, e, r, x). (t vs).nonempty b (subst (Q vs b) (back_nil f g e) x);
}
  where
    at : (b : B) (vs : List A) (f g : Row T) (m : Entry T) (row : Row T) → m ∷ row ≡ f ++ g → Many R vs f → Q vs b g → either p q m.token ≡ true
    at b vs [] g m row e r x = either_second p q m.token ((t vs).first b m row (subst (Q vs b) (sym e) x))
    at b vs (n ∷ f) g m row e r x =
        let same : m ≡ n = cc in
        subst (λ y. either p q y.token ≡ true) (sym same) (either_first p q n.token (many_first s vs n f r))

-- a part that may be left out
pub starts_maybe : {T A B : Type 0} {P : Language T A} {Q : Option A → Language T B} (p q : T → Bool) → StartsWith p P → ((o : Option A) → StartsWith q (Q o))
    → StartsWith (either p q) (Then (Optional P) Q)
starts_maybe {T} {A} {B} {P} {Q} p q s t = record {
  first = λ b m row (o, f, g, e, r, x). at b o f g m row e r x;
  nonempty = λ b (o, f, g, e, r, x). (t o).nonempty b (subst (Q o b) (back_nil f g e) x);
}
  where
    at : (b : B) (o : Option A) (f g : Row T) (m : Entry T) (row : Row T) → m ∷ row ≡ f ++ g → Optional P o f → Q o b g → either p q m.token ≡ true
    at b None f g m row e none x =
        let behind : m ∷ row ≡ g = e ∙ ap (λ y. y ++ g) none in
        either_second p q m.token ((t None).first b m row (subst (Q None b) (sym behind) x))
    at b (Some a) [] g m row e r x = absurd (s.nonempty a r)
    at b (Some a) (n ∷ f) g m row e r x =
        let same : m ≡ n = cc in
        subst (λ y. either p q y.token ≡ true) (sym same) (either_first p q n.token (s.first a n f r))
