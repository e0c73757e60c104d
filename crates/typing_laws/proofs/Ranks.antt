-- The number of a site is the number of checks that stand before it, so the other parts of the checks determine it.
use Rattle.std.proofs.Common.{◌≡◌, ℕ, suc, ◌+◌, ◌*◌, ◌<◌, ◌≤◌, List, [], ◌∷◌, ◌++◌, map, length, Bool, true, false, cond, ◌&&◌, ◌||◌, ◌⊎◌, inl, inr, refl, sym, ◌∙◌, ap, ap₂, subst, All, IsPermutation, sum_by, nat_lt, nat_eq, arith, eqb-true, length-append, append_assoc}
use Rattle.std.proofs.lemmas.Bool.Decides.{nat_tests}
use Rattle.std.proofs.lemmas.List.Elements.{All-cons, All-nil, All-head, All-tail}
use Rattle.std.proofs.lemmas.List.Sums.{sum_by-cons}
use Rattle.std.proofs.lemmas.List.Sorted.{All-permutation, sum_by-IsPermutation, IsPermutation-sym, IsPermutation-refl}
use Rattle.core_tree.specs.declared.Check.{Check}
use Rattle.core_tree.specs.declared.SiteKind.{SiteKind}
use Rattle.core_tree.specs.declared.SiteKind.TheVariants.{Overflow, DivZero, Shift, Index, Cast, Assert, Pre, Post}
use Rattle.core_tree.specs.Sites.{is_made_before, stands_before, IsFirstOf, Ascends, IsNumberedFrom, AreSitesOf}
use Rattle.typing_rules.specs.Numbers.{late, key, below, rank, numbered_by}
use Rattle.typing_laws.proofs.Lookups.{and_both}
use Rattle.typing_laws.proofs.Relabelled.{GivesBack}

-- ---- the order, as that of numbers

made_before : (a b : SiteKind) → is_made_before a b ≡ true → (late a ≡ 0) × (late b ≡ 1)
made_before Overflow b h = let no : ⊥ = cc in absurd no
made_before Shift b h = let no : ⊥ = cc in absurd no
made_before Index b h = let no : ⊥ = cc in absurd no
made_before Cast b h = let no : ⊥ = cc in absurd no
made_before Assert b h = let no : ⊥ = cc in absurd no
made_before Pre b h = let no : ⊥ = cc in absurd no
made_before Post b h = let no : ⊥ = cc in absurd no
made_before DivZero Overflow h = (refl, refl)
made_before DivZero DivZero h = let no : ⊥ = cc in absurd no
made_before DivZero Shift h = let no : ⊥ = cc in absurd no
made_before DivZero Index h = let no : ⊥ = cc in absurd no
made_before DivZero Cast h = let no : ⊥ = cc in absurd no
made_before DivZero Assert h = let no : ⊥ = cc in absurd no
made_before DivZero Pre h = let no : ⊥ = cc in absurd no
made_before DivZero Post h = let no : ⊥ = cc in absurd no

late_at_most : (k : SiteKind) → late k ≤ 1
late_at_most Overflow = omega arith
late_at_most DivZero = omega arith
late_at_most Shift = omega arith
late_at_most Index = omega arith
late_at_most Cast = omega arith
late_at_most Assert = omega arith
late_at_most Pre = omega arith
late_at_most Post = omega arith

earlier : (m n a b : ℕ) → a ≤ 1 → m < n → 2 * m + a < 2 * n + b
earlier m n a b h k = omega arith

level : (m n a b : ℕ) → m ≡ n → a ≡ 0 → b ≡ 1 → 2 * m + a < 2 * n + b
level m n a b h k l = omega arith

is_below : (m n : ℕ) → nat_lt m n ≡ true → m < n
is_below m n h = grind (arith, nat_tests)

before_key : (c d : Check) → stands_before c d ≡ true → key c < key d
before_key c d h = go (nat_lt c.span.start d.span.start) refl h
  where
    go : (b : Bool) → nat_lt c.span.start d.span.start ≡ b → b || (nat_eq c.span.start d.span.start && is_made_before c.kind d.kind) ≡ true → key c < key d
    go true e g = earlier c.span.start d.span.start (late c.kind) (late d.kind) (late_at_most c.kind) (is_below c.span.start d.span.start e)
    go false e g =
        let p = and_both (nat_eq c.span.start d.span.start) (is_made_before c.kind d.kind) g in
        let q = made_before c.kind d.kind p.1 in
        level c.span.start d.span.start (late c.kind) (late d.kind) (eqb-true c.span.start d.span.start p.0) q.0 q.1

-- ---- ranks

rank_is : (n : ℕ) (cs : List Check) → sum_by (below n) cs ≡ rank n cs
rank_is n [] = refl
rank_is n (c ∷ cs) = sum_by-cons (below n) c cs ∙ ap (λ m. below n c + m) (rank_is n cs)

rank_kept : (n : ℕ) (cs ds : List Check) → IsPermutation cs ds → rank n ds ≡ rank n cs
rank_kept n cs ds p = sym (rank_is n ds) ∙ sum_by-IsPermutation (below n) cs ds p ∙ rank_is n cs

abbrev AllAbove : ℕ → List Check → Type 0
AllAbove n [] = Unit {0}
AllAbove n (c ∷ cs) = (n < key c) × AllAbove n cs

above_more : (m n : ℕ) (cs : List Check) → m < n → AllAbove n cs → AllAbove m cs
above_more m n [] h k = tt
above_more m n (c ∷ cs) h k = let first = k.0 in (omega arith, above_more m n cs h k.1)

rises : (c : Check) (cs : List Check) → IsFirstOf c cs → Ascends cs → AllAbove (key c) cs
rises c [] h k = tt
rises c (d ∷ ds) h k = let first = before_key c d h in (first, above_more (key c) (key d) ds first (rises d ds k.0 k.1))

not_below : (m n : ℕ) → n ≤ m → nat_lt m n ≡ false
not_below m n h = grind (arith, nat_tests)

below_is : (m n : ℕ) → m < n → nat_lt m n ≡ true
below_is m n h = grind (arith, nat_tests)

none_below : (n : ℕ) (cs : List Check) → AllAbove n cs → rank n cs ≡ 0
none_below n [] h = refl
none_below n (c ∷ cs) h =
    let first = h.0 in
    let at_most : n ≤ key c = omega arith in
    let here : below n c ≡ 0 = ap (λ b. cond b 1 0) (not_below (key c) n at_most) in
    let rest = none_below n cs h.1 in
    omega arith

abbrev In : Check → List Check → Type 0
In c [] = ⊥
In c (d ∷ ds) = (c ≡ d) ⊎ In c ds

in_above : (n : ℕ) (c : Check) (cs : List Check) → AllAbove n cs → In c cs → n < key c
in_above n c [] h m = absurd m
in_above n c (d ∷ ds) h (inl e) = subst (λ x. n < key x) (sym e) h.0
in_above n c (d ∷ ds) h (inr m) = in_above n c ds h.1 m

numbered_first : (n : ℕ) (x : Check) (cs : List Check) → Ascends (x ∷ cs) → x.site ≡ n → x.site ≡ n + rank (key x) (x ∷ cs)
numbered_first n x cs asc h =
    let here : below (key x) x ≡ 0 = ap (λ b. cond b 1 0) (not_below (key x) (key x) (omega arith)) in
    let rest = none_below (key x) cs (rises x cs asc.0 asc.1) in
    omega arith

numbered : (n : ℕ) (cs : List Check) → Ascends cs → IsNumberedFrom n cs → (c : Check) → In c cs → c.site ≡ n + rank (key c) cs
numbered n [] asc num c m = absurd m
numbered n (x ∷ cs) asc num c (inl e) = subst (λ y. y.site ≡ n + rank (key y) (x ∷ cs)) (sym e) (numbered_first n x cs asc num.0)
numbered n (x ∷ cs) asc num c (inr m) =
    let ih = numbered (suc n) cs asc.1 num.1 c m in
    let here : below (key c) x ≡ 1 = ap (λ b. cond b 1 0) (below_is (key x) (key c) (in_above (key x) c cs (rises x cs asc.0 asc.1) m)) in
    omega arith

all_of : (P : Check → Type 0) (cs : List Check) → ((c : Check) → In c cs → P c) → All P cs
all_of P [] f = All-nil P
all_of P (c ∷ cs) f = All-cons P c cs (f c (inl refl)) (all_of P cs (λ d m. f d (inr m)))

sites_ranked : (checks sites : List Check) → AreSitesOf checks sites → All (λ c. c.site ≡ rank (key c) checks) checks
sites_ranked checks sites h =
    All-permutation (λ c. c.site ≡ rank (key c) checks) sites checks (IsPermutation-sym checks sites h.all)
    (all_of (λ c. c.site ≡ rank (key c) checks) sites (λ c m. let a = numbered 0 sites h.ascending h.numbered c m in let b = rank_kept (key c) checks sites h.all in omega arith))

-- ---- numbers taken away, and given again

abbrev pub unnumbered : Check → Check
unnumbered c = record { site = 0; kind = c.kind; span = c.span }

rank_unnumbered : (n : ℕ) (cs : List Check) → rank n (map unnumbered cs) ≡ rank n cs
rank_unnumbered n [] = refl
rank_unnumbered n (c ∷ cs) = ap (λ m. below n c + m) (rank_unnumbered n cs)

each_back : (all cs : List Check) → All (λ (c : Check). c.site ≡ rank (key c) all) cs → GivesBack (numbered_by (map unnumbered all)) unnumbered cs
each_back all [] h = tt
each_back all (c ∷ cs) h =
    let first = All-head (λ (x : Check). x.site ≡ rank (key x) all) c cs h in
    let one : numbered_by (map unnumbered all) (unnumbered c) ≡ c = ap (λ n. record { site = n; kind = c.kind; span = c.span }) (rank_unnumbered (key c) all ∙ sym first) in
    (one, each_back all cs (All-tail (λ (x : Check). x.site ≡ rank (key x) all) c cs h))

pub sites_back : (checks sites : List Check) → AreSitesOf checks sites → GivesBack (numbered_by (map unnumbered checks)) unnumbered checks
sites_back checks sites h = each_back checks checks (sites_ranked checks sites h)

-- ---- checks that stand in order, numbered by their ranks

abbrev AllBelow : ℕ → List Check → Type 0
AllBelow n [] = Unit {0}
AllBelow n (c ∷ cs) = (key c < n) × AllBelow n cs

below_last : (n : ℕ) (cs : List Check) (c : Check) → AllBelow n cs → key c < n → AllBelow n (cs ++ c ∷ [])
below_last n [] c h k = (k, tt)
below_last n (d ∷ cs) c h k = (h.0, below_last n cs c h.1 k)

rank_join : (n : ℕ) (cs ds : List Check) → rank n (cs ++ ds) ≡ rank n cs + rank n ds
rank_join n [] ds = omega arith
rank_join n (c ∷ cs) ds = let h = rank_join n cs ds in omega arith

all_counted : (n : ℕ) (cs : List Check) → AllBelow n cs → rank n cs ≡ length cs
all_counted n [] h = refl
all_counted n (c ∷ cs) h = ap₂ (λ a b. a + b) (ap (λ b. cond b 1 0) (below_is (key c) n h.0)) (all_counted n cs h.1) ∙ omega arith

rank_first : (x : Check) (cs : List Check) → Ascends (x ∷ cs) → rank (key x) (x ∷ cs) ≡ 0
rank_first x cs asc =
    let here : below (key x) x ≡ 0 = ap (λ b. cond b 1 0) (not_below (key x) (key x) (omega arith)) in
    let rest = none_below (key x) cs (rises x cs asc.0 asc.1) in
    omega arith

in_order : (done cs : List Check) → Ascends cs → ((c : Check) → In c cs → AllBelow (key c) done) → IsNumberedFrom (length done) (map (numbered_by (done ++ cs)) cs)
in_order done [] asc h = tt
in_order done (x ∷ cs) asc h =
    let joined = rank_join (key x) done (x ∷ cs) in
    let counted = all_counted (key x) done (h x (inl refl)) in
    let first = rank_first x cs asc in
    let here : rank (key x) (done ++ x ∷ cs) ≡ length done = omega arith in
    let above = rises x cs asc.0 asc.1 in
    let rest = in_order (done ++ x ∷ []) cs asc.1 (λ c m. below_last (key c) done x (h c (inr m)) (in_above (key x) c cs above m)) in
    let long : length (done ++ x ∷ []) ≡ suc (length done) = omega (arith, length-append done (x ∷ [])) in
    (here, subst (λ n. IsNumberedFrom n (map (numbered_by (done ++ x ∷ cs)) cs)) long (subst (λ all. IsNumberedFrom (length (done ++ x ∷ [])) (map (numbered_by all) cs)) (append_assoc done (x ∷ []) cs) rest))

ascends_kept : (us cs : List Check) → Ascends cs → Ascends (map (numbered_by us) cs)
ascends_kept us [] h = tt
ascends_kept us (c ∷ []) h = (tt, tt)
ascends_kept us (c ∷ d ∷ cs) h = (h.0, ascends_kept us (d ∷ cs) h.1)

pub in_order_are_sites : (us : List Check) → Ascends us → AreSitesOf (map (numbered_by us) us) (map (numbered_by us) us)
in_order_are_sites us asc = record { all = IsPermutation-refl (map (numbered_by us) us); ascending = ascends_kept us us asc; numbered = in_order [] us asc (λ c m. tt) }
