-- Places in order, between two bounds.
use Rattle.std.proofs.Common.{◌≡◌, ℕ, ◌<◌, ◌≤◌, Bool, true, false, ◌||◌, ◌&&◌, List, [], ◌∷◌, ◌++◌, refl, ap₂, ◌∙◌, arith}
use Rattle.std.specs.Prelude.{nat_lt, nat_le, nat_eq}
use Rattle.std.specs.List.{list_all}
use Rattle.std.proofs.lemmas.Bool.{lt-ltb, le-leb, eq-eqb, ltb-false}
use Rattle.std.proofs.lemmas.List.Folds.{list_all-append}
use Rattle.iv_words.specs.declared.Span.{Span}
use Rattle.rule_faults.specs.FirstFault.{comes_before}

abbrev pub ordered : List Span → Bool
ordered [] = true
ordered (s ∷ ss) = list_all (λ t. comes_before s t) ss && ordered ss

abbrev pub Inside : ℕ → ℕ → List Span → Type 0
Inside low high [] = Unit {0}
Inside low high (s ∷ ss) = (low ≤ s.start) × (s.start < s.end) × (s.end ≤ high) × Inside low high ss

pub record Between (low high : ℕ) (ss : List Span) : Type 0 where
  pub inside : Inside low high ss
  pub order : ordered ss ≡ true

-- ---- truths

first_of_two : (a b : Bool) → (a && b) ≡ true → a ≡ true
first_of_two true b h = refl
first_of_two false b h = h

second_of_two : (a b : Bool) → (a && b) ≡ true → b ≡ true
second_of_two true b h = h
second_of_two false b h = let no : ⊥ = cc in absurd no

two : {a b : Bool} → a ≡ true → b ≡ true → (a && b) ≡ true
two h k = ap₂ (λ p q. p && q) h k

either : (less same within : Bool) → (less ≡ false → same ≡ true) → within ≡ true → (less || (same && within)) ≡ true
either true same within h k = refl
either false true within h k = k
either false false within h k = h refl

-- ---- one place and others

outer_first : (s t : Span) → s.start ≤ t.start → t.end ≤ s.end → comes_before s t ≡ true
outer_first s t low high =
    either (nat_lt s.start t.start) (nat_eq s.start t.start) (nat_le t.end s.end)
    (λ (no : nat_lt s.start t.start ≡ false). (let back : t.start ≤ s.start = ltb-false s.start t.start no in eq-eqb s.start t.start (omega (arith, low, back)))) (le-leb t.end s.end high)

lesser_first : (less rest : Bool) → less ≡ true → (less || rest) ≡ true
lesser_first true rest h = refl
lesser_first false rest h = let no : ⊥ = cc in absurd no

before_all_within : (s : Span) (ss : List Span) → Inside s.start s.end ss → list_all (λ t. comes_before s t) ss ≡ true
before_all_within s [] i = refl
before_all_within s (t ∷ ss) i = two (outer_first s t i.0 i.2) (before_all_within s ss i.3)

before_all_later : (s : Span) (mid high : ℕ) (ss : List Span) → s.start < mid → Inside mid high ss → list_all (λ t. comes_before s t) ss ≡ true
before_all_later s mid high [] less i = refl
before_all_later s mid high (t ∷ ss) less i =
    let low : mid ≤ t.start = i.0 in
    two (lesser_first (nat_lt s.start t.start) (nat_eq s.start t.start && nat_le t.end s.end) (lt-ltb s.start t.start (omega (arith, less, low)))) (before_all_later s mid high ss less i.3)

-- ---- rows

widen : (below low high above : ℕ) (ss : List Span) → below ≤ low → high ≤ above → Inside low high ss → Inside below above ss
widen below low high above [] a b i = tt
widen below low high above (s ∷ ss) a b i =
    let start : low ≤ s.start = i.0 in
    let end : s.end ≤ high = i.2 in
    (omega (arith, a, start), i.1, omega (arith, b, end), widen below low high above ss a b i.3)

pub nothing : (low high : ℕ) → Between low high []
nothing low high = record { inside = tt; order = refl }

-- between lesser and greater bounds
pub wider : (below low high above : ℕ) (ss : List Span) → below ≤ low → high ≤ above → Between low high ss → Between below above ss
wider below low high above ss a b r = record { inside = widen below low high above ss a b r.inside; order = r.order }

-- a place before those within it
pub over : (s : Span) (ss : List Span) → s.start < s.end → Between s.start s.end ss → Between s.start s.end (s ∷ ss)
over s ss filled r = record {
  inside = (omega arith, filled, omega arith, r.inside);
  order = two (before_all_within s ss r.inside) r.order;
}

-- one row behind another
pub beside : (low mid high : ℕ) (xs ys : List Span) → low ≤ mid → mid ≤ high → Between low mid xs → Between mid high ys → Between low high (xs ++ ys)
beside low mid high [] ys a b p q = wider low mid high high ys a (omega arith) q
beside low mid high (x ∷ xs) ys a b p q =
    let start : x.start < x.end = p.inside.1 in
    let end : x.end ≤ mid = p.inside.2 in
    let front : Between low mid xs = record { inside = p.inside.3; order = second_of_two (list_all (λ t. comes_before x t) xs) (ordered xs) p.order } in
    let rest : Between low high (xs ++ ys) = beside low mid high xs ys a b front q in
    record {
      inside = (p.inside.0, start, omega (arith, end, b), rest.inside);
      order = two
          (list_all-append (λ t. comes_before x t) xs ys
          ∙ two (first_of_two (list_all (λ t. comes_before x t) xs) (ordered xs) p.order) (before_all_later x mid high ys (omega (arith, start, end)) q.inside))
          rest.order;
    }
