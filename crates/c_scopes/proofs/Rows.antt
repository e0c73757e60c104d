-- Loops over a list: what is asked of all is what is asked of those so far, and then of the rest.
use Rattle.std.proofs.Common.{◌≡◌, refl, sym, ◌∙◌, ap, subst, ℕ, suc, ◌+◌, ◌<◌, ◌≤◌, Bool, true, false, List, [], ◌∷◌, ◌++◌, length, drop, get_or, append_assoc, add-one, arith}
use Rattle.std.specs.Prelude.{codes, map}
use Rattle.std.proofs.lemmas.List.{append-nil, drop_all}
use Rattle.std.proofs.Math.Seq.{drop-cons}
use Rattle.c_text.specs.TypeText.{listed, texts}
use Rattle.c_text.specs.Rules.{Demand, behind}
use Rattle.c_scopes.specs.declared.walk.Walk.{Walk}
use Rattle.c_scopes.specs.Walks.{Walks}
use Rattle.c_scopes.specs.Separated.{comma}
use Rattle.c_scopes.proofs.Walks.{followed, stands, as_demands, as_text, behind_both}

pub next_is : {X : Type 0} (xs : List X) (i : ℕ) (x : X) → i < length xs → x ≡ get_or xs i x → drop i xs ≡ x ∷ drop (i + 1) xs
next_is xs i x below is = drop-cons xs i x below ∙ ap (λ y. y ∷ drop (suc i) xs) (sym is) ∙ ap (λ n. x ∷ drop n xs) (sym (add-one i))

module _ {S X : Type 0} (text : X → List ℕ) (item : S → ℕ → X → List Demand) (next : S → X → S) where
  -- ---- one behind another

  abbrev pub asks : S → ℕ → List X → List Demand
  asks s at [] = []
  asks s at (x ∷ xs) = item s at x ++ asks (next s x) (behind at (text x)) xs

  -- where the rest is walked through, all is
  abbrev pub Going : (start now : Walk) (first s : S) (whole rest : List X) → Type 0
  Going start now first s whole rest = (c : Walk) → Walks now c (texts (map text rest)) (asks s now.at rest) → Walks start c (texts (map text whole)) (asks first start.at whole)

  pub going_on : (start : Walk) (first : S) {now e : Walk} (s : S) (xs : List X) (i : ℕ) (x : X) → i < length xs → x ≡ get_or xs i x → Going start now first s xs (drop i xs)
      → Walks now e (text x) (item s now.at x) → Going start e first (next s x) xs (drop (i + 1) xs)
  going_on start first {now} {e} s xs i x below is so_far one c rest =
      so_far c (subst (λ ys. Walks now c (texts (map text ys)) (asks s now.at ys)) (sym (next_is xs i x below is))
      (followed (λ at. asks (next s x) at (drop (i + 1) xs)) one rest))

  pub all_gone : {start now : Walk} (first s : S) (xs : List X) (i : ℕ) → length xs ≤ i → Going start now first s xs (drop i xs) → Walks start now (texts (map text xs)) (asks first start.at xs)
  all_gone {start} {now} first s xs i past so_far =
      so_far now (subst (λ ys. Walks now now (texts (map text ys)) (asks s now.at ys)) (sym (drop_all i xs past)) (stands now))

  -- ---- with a comma between two of them

  abbrev pub listed_asks : S → ℕ → List X → List Demand
  listed_asks s at [] = []
  listed_asks s at (x ∷ xs) = item s at x ++ listed_asks (next s x) (behind at (text x ++ codes ", ")) xs

  abbrev pub rest_text : Bool → List X → List ℕ
  rest_text more [] = []
  rest_text more (x ∷ xs) = (comma more ++ text x) ++ rest_text true xs

  abbrev pub Listing : (start now : Walk) (first s : S) (more : Bool) (whole rest : List X) → Type 0
  Listing start now first s more whole rest =
      (c : Walk) → Walks now c (rest_text more rest) (listed_asks s (behind now.at (comma more)) rest) → Walks start c (listed (map text whole)) (listed_asks first start.at whole)

  rest_is : (x : X) (xs : List X) → text x ++ rest_text true xs ≡ listed (map text (x ∷ xs))
  rest_is x [] = append-nil (text x)
  rest_is x (y ∷ ys) = regroup (text x) (codes ", ") (text y) (rest_text true ys) ∙ ap (λ t. (text x ++ codes ", ") ++ t) (rest_is y ys)
    where
      regroup : (a b c d : List ℕ) → a ++ ((b ++ c) ++ d) ≡ (a ++ b) ++ (c ++ d)
      regroup a b c d = simp append_assoc

  whole_is : (xs : List X) → rest_text false xs ≡ listed (map text xs)
  whole_is [] = refl
  whole_is (x ∷ xs) = rest_is x xs

  pub listing_begins : (start : Walk) (first : S) (xs : List X) → Listing start start first first false xs xs
  listing_begins start first xs c rest =
      let same : behind start.at [] ≡ start.at = omega arith in
      as_text (whole_is xs) (as_demands (ap (λ n. listed_asks first n xs) same) rest)

  pub listing_on : (start : Walk) (first : S) {now m e : Walk} (s : S) (more : Bool) (xs : List X) (i : ℕ) (x : X) → i < length xs → x ≡ get_or xs i x → Listing start now first s more xs (drop i xs)
      → Walks now m (comma more) [] → Walks m e (text x) (item s m.at x) → Listing start e first (next s x) true xs (drop (i + 1) xs)
  listing_on start first {now} {m} {e} s more xs i x below is so_far separates one c rest =
      let ys : List X = drop (i + 1) xs in
      let place : behind (behind now.at (comma more ++ text x)) (codes ", ") ≡ behind (behind now.at (comma more)) (text x ++ codes ", ") =
      sym (behind_both now.at (comma more ++ text x) (codes ", ")) ∙ ap (behind now.at) (append_assoc (comma more) (text x) (codes ", ")) ∙ behind_both now.at (comma more) (text x ++ codes ", ") in
      so_far c (subst (λ zs. Walks now c (rest_text more zs) (listed_asks s (behind now.at (comma more)) zs)) (sym (next_is xs i x below is))
      (as_demands (ap (λ n. item s (behind now.at (comma more)) x ++ listed_asks (next s x) n ys) place)
      (followed (λ at. listed_asks (next s x) (behind at (codes ", ")) ys) (followed (λ at. item s at x) separates one) rest)))

  pub all_listed : {start now : Walk} (first s : S) (more : Bool) (xs : List X) (i : ℕ) → length xs ≤ i → Listing start now first s more xs (drop i xs)
      → Walks start now (listed (map text xs)) (listed_asks first start.at xs)
  all_listed {start} {now} first s more xs i past so_far =
      so_far now (subst (λ ys. Walks now now (rest_text more ys) (listed_asks s (behind now.at (comma more)) ys)) (sym (drop_all i xs past)) (stands now))
