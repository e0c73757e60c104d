-- The first fault of a row is what the function gives.
use Rattle.std.proofs.Common.{◌≡◌, ℕ, suc, ◌≤◌, ◌<◌, Bool, true, false, cond, ◌&&◌, List, [], ◌∷◌, Option, Some, None, option_map, inl, inr, refl, sym, ap, subst, ◌∙◌, IsTrue, arith}
use Rattle.std.specs.List.{find}
use Rattle.std.proofs.Math.Dec.{leb}
use Rattle.std.proofs.lemmas.Bool.{leb-true}
use Rattle.iv_words.specs.declared.Span.{Span}
use Rattle.rule_faults.specs.Nodes.{Node}
use Rattle.rule_faults.specs.FirstFault.{rules, Broken, Sound, Least, First, AllSound, here, later, least_broken, at_node, first_of}
use Rattle.rule_faults.specs.Laws.{Found, Complete, Unique, NoneIsFaultless, FaultlessIsNone}

some_injective : {A : Type 0} {x y : A} → Some x ≡ Some y → x ≡ y
some_injective h = cc

no_truth : {b : Bool} → b ≡ false → IsTrue b → ⊥
no_truth h g = let no : ⊥ = cc in no

-- the number of the first of these rules that the node breaks
abbrev number_in : List (ℕ × (Node → Bool)) → Node → Option ℕ
number_in rs n = option_map (λ rule. rule.0) (find (λ rule. rule.1 n) rs)

-- the numbers of these rules rise, and the first is at least i
abbrev rise : (i : ℕ) → List (ℕ × (Node → Bool)) → Bool
rise i [] = true
rise i (r ∷ rs) = leb i r.0 && rise (suc r.0) rs

both : (a b : Bool) → a && b ≡ true → (a ≡ true) × (b ≡ true)
both true true h = (refl, refl)
both true false h = let no : ⊥ = cc in absurd no
both false b h = let no : ⊥ = cc in absurd no

from : (i : ℕ) (rs : List (ℕ × (Node → Bool))) (j : ℕ) (n : Node) → rise i rs ≡ true → Broken rs j n → i ≤ j
from i [] j n u h = absurd h
from i (r ∷ rs) j n u (inl p) = let e = p.0 in let l = leb-true i r.0 (both (leb i r.0) (rise (suc r.0) rs) u).0 in omega arith
from i (r ∷ rs) j n u (inr h) = let p = both (leb i r.0) (rise (suc r.0) rs) u in let l = from (suc r.0) rs j n p.1 h in let m = leb-true i r.0 p.0 in omega arith

-- what the search finds, and what it does not
abbrev LeastIn : List (ℕ × (Node → Bool)) → Node → ℕ → Type 0
LeastIn rs n k = Broken rs k n × ((j : ℕ) → j < k → Broken rs j n → ⊥)

least_of : (i : ℕ) (rs : List (ℕ × (Node → Bool))) (n : Node) (k : ℕ) → rise i rs ≡ true → number_in rs n ≡ Some k → LeastIn rs n k
least_of i [] n k u e = let no : ⊥ = cc in absurd no
least_of i (r ∷ rs) n k u e = go (least_of (suc r.0) rs n k higher) (r.1 n) refl e
  where
    higher : rise (suc r.0) rs ≡ true
    higher = (both (leb i r.0) (rise (suc r.0) rs) u).1

    low : r.1 n ≡ false → ((j : ℕ) → j < k → Broken rs j n → ⊥) → (j : ℕ) → j < k → Broken (r ∷ rs) j n → ⊥
    low h f j l (inl p) = no_truth h p.1
    low h f j l (inr b) = f j l b

    none_less : r.0 ≡ k → (j : ℕ) → j < k → Broken (r ∷ rs) j n → ⊥
    none_less q j l (inl p) = let e2 = p.0 in omega arith
    none_less q j l (inr b) = let f = from (suc r.0) rs j n higher b in omega arith

    go : (number_in rs n ≡ Some k → LeastIn rs n k) → (b : Bool) → r.1 n ≡ b → option_map (λ (rule : ℕ × (Node → Bool)). rule.0) (cond b (Some r) (find (λ (rule : ℕ × (Node → Bool)). rule.1 n) rs)) ≡ Some k → LeastIn (r ∷ rs) n k
    go ih true h g = (inl (sym (some_injective g), h), none_less (some_injective g))
    go ih false h g = (inr (ih g).0, low h (ih g).1)

none_of : (rs : List (ℕ × (Node → Bool))) (n : Node) → number_in rs n ≡ None → (k : ℕ) → Broken rs k n → ⊥
none_of [] n e k h = h
none_of (r ∷ rs) n e k h = go (none_of rs n) (r.1 n) refl e h
  where
    go : (number_in rs n ≡ None → (k : ℕ) → Broken rs k n → ⊥) → (b : Bool) → r.1 n ≡ b → option_map (λ (rule : ℕ × (Node → Bool)). rule.0) (cond b (Some r) (find (λ (rule : ℕ × (Node → Bool)). rule.1 n) rs)) ≡ None → Broken (r ∷ rs) k n → ⊥
    go ih true h g b = let no : ⊥ = cc in no
    go ih false h g (inl p) = no_truth h p.1
    go ih false h g (inr b) = ih g k b

is_least : (n : Node) (k : ℕ) → least_broken n ≡ Some k → Least k n
is_least n k e = let p = least_of 1 rules n k refl e in record { breaks = p.0; least = p.1 }

is_sound : (n : Node) → least_broken n ≡ None → Sound n
is_sound n e k h = none_of rules n e k h

pub found : (ns : List Node) (k : ℕ) (s : Span) → first_of ns ≡ Some (k, s) → First ns k s
found [] k s e = let no : ⊥ = cc in absurd no
found (n ∷ ns) k s e = go (found ns k s) (least_broken n) refl e
  where
    go : (first_of ns ≡ Some (k, s) → First ns k s) → (o : Option ℕ) → least_broken n ≡ o → at_node n o (first_of ns) ≡ Some (k, s) → First (n ∷ ns) k s
    go ih None h g = later (is_sound n h) (ih g)
    go ih (Some j) h g = subst (λ (p : ℕ × Span). First (n ∷ ns) p.0 p.1) (some_injective g) (here (is_least n j h))

same_least : (n : Node) (j k : ℕ) → Least j n → Least k n → j ≡ k
same_least n j k l m =
    let not_less : (j < k → ⊥) = λ h. m.least j h l.breaks in
    let not_more : (k < j → ⊥) = λ h. l.least k h m.breaks in
    omega arith

gives_least : (n : Node) (k : ℕ) → Least k n → least_broken n ≡ Some k
gives_least n k l = go (least_broken n) refl
  where
    go : (o : Option ℕ) → least_broken n ≡ o → least_broken n ≡ Some k
    go None h = absurd (is_sound n h k l.breaks)
    go (Some j) h = h ∙ ap Some (same_least n j k (is_least n j h) l)

gives_none : (n : Node) → Sound n → least_broken n ≡ None
gives_none n f = go (least_broken n) refl
  where
    go : (o : Option ℕ) → least_broken n ≡ o → least_broken n ≡ None
    go None h = h
    go (Some j) h = absurd (f j (is_least n j h).breaks)

pub complete : (ns : List Node) (k : ℕ) (s : Span) → First ns k s → first_of ns ≡ Some (k, s)
complete [] k s f = elim f [ ]
complete (n ∷ ns) k s (here l) = ap (λ o. at_node n o (first_of ns)) (gives_least n k l)
complete (n ∷ ns) k s (later f g) = ap (λ o. at_node n o (first_of ns)) (gives_none n f) ∙ complete ns k s g

pub all_sound : (ns : List Node) → first_of ns ≡ None → AllSound ns
all_sound [] e = tt
all_sound (n ∷ ns) e = go (all_sound ns) (least_broken n) refl e
  where
    go : (first_of ns ≡ None → AllSound ns) → (o : Option ℕ) → least_broken n ≡ o → at_node n o (first_of ns) ≡ None → AllSound (n ∷ ns)
    go ih None h g = (is_sound n h, ih g)
    go ih (Some j) h g = let no : ⊥ = cc in absurd no

pub none_first : (ns : List Node) → AllSound ns → first_of ns ≡ None
none_first [] f = refl
none_first (n ∷ ns) f = ap (λ o. at_node n o (first_of ns)) (gives_none n f.0) ∙ none_first ns f.1

pub none_is_faultless : NoneIsFaultless
none_is_faultless m e = all_sound _ e

pub faultless_is_none : FaultlessIsNone
faultless_is_none m f = none_first _ f

pub found_law : Found
found_law m k s e = found _ k s e

pub complete_law : Complete
complete_law m k s f = complete _ k s f

pub unique_law : Unique
unique_law m j k s t f g =
    let e : Some (j, s) ≡ Some (k, t) = sym (complete_law m j s f) ∙ complete_law m k t g in
    (ap (λ p. p.0) (some_injective e), ap (λ p. p.1) (some_injective e))

pub ruleset laws = (found_law, complete_law, unique_law, none_is_faultless, faultless_is_none)
