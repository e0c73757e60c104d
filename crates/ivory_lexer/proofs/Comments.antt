-- Where the first `*/` ends.
use Rattle.std.proofs.Common.{◌≡◌, ℕ, zero, suc, ◌+◌, ◌-◌, ◌≤◌, ◌<◌, ◌&&◌, ◌==◌, Bool, true, false, List, [], ◌∷◌, ◌++◌, length, drop, get_or, Option, Some, None, cond, refl, sym, ap, ◌∙◌, subst, arith}
use Rattle.std.proofs.Common.{drop-cons, length-drop}
use Rattle.std.proofs.lemmas.Bool.{eqb-true}
use Rattle.std.specs.Prelude.{option_map}
use Rattle.ivory_lexer.specs.Table.{first_close}

-- whether two bytes are `*/`
abbrev pub closes : ℕ → ℕ → Bool
closes b c = 42 == b && (47 == c && true)

-- a close seen from so many bytes before
abbrev pub moved : ℕ → Option ℕ → Option ℕ
moved k None = None
moved k (Some n) = Some (k + n)

pub close_step : (b c : ℕ) (bs : List ℕ) → first_close (b ∷ c ∷ bs) ≡ cond (closes b c) (Some 2) (option_map suc (first_close (c ∷ bs)))
close_step b c bs = refl

pub no_close : (b : ℕ) → first_close (b ∷ []) ≡ None
no_close b = at (42 == b)
  where
    at : (t : Bool) → cond {A = Option ℕ} (t && false) (Some 2) None ≡ None
    at true = refl
    at false = refl

mapped : (o : Option ℕ) (n : ℕ) → option_map suc o ≡ Some n → (m : ℕ) × (o ≡ Some m) × (n ≡ suc m)
mapped None n e = absurd cc
mapped (Some m) n e = (m, refl, cc)

-- a close has two bytes
pub close_after : (bs : List ℕ) (n : ℕ) → first_close bs ≡ Some n → 2 ≤ n
close_after [] n e = absurd cc
close_after (b ∷ []) n e = let no = no_close b in absurd cc
close_after (b ∷ c ∷ bs) n e = at (closes b c) e (λ m. close_after (c ∷ bs) m)
  where
    at : (t : Bool) → cond t (Some 2) (option_map suc (first_close (c ∷ bs))) ≡ Some n → ((m : ℕ) → first_close (c ∷ bs) ≡ Some m → 2 ≤ m) → 2 ≤ n
    at true s ih = let two : 2 ≡ n = cc in omega arith
    at false s ih = let m = mapped (first_close (c ∷ bs)) n s in omega (arith, m.2, ih m.0 m.1)

-- a close in a text is one in each front that holds it
pub close_in_front : (f r : List ℕ) (n : ℕ) → first_close (f ++ r) ≡ Some n → n ≤ length f → first_close f ≡ Some n
close_in_front [] r n e h = absurd (omega (arith, close_after r n e))
close_in_front (b ∷ []) r n e h = absurd (omega (arith, close_after (b ∷ r) n e))
close_in_front (b ∷ c ∷ f) r n e h = at (closes b c) e (λ m. close_in_front (c ∷ f) r m)
  where
    at : (t : Bool) → cond t (Some 2) (option_map suc (first_close (c ∷ (f ++ r)))) ≡ Some n → ((m : ℕ) → first_close (c ∷ (f ++ r)) ≡ Some m → m ≤ suc (length f) → first_close (c ∷ f) ≡ Some m)
        → cond t (Some 2) (option_map suc (first_close (c ∷ f))) ≡ Some n
    at true s ih = s
    at false s ih = let m = mapped (first_close (c ∷ (f ++ r))) n s in ap (option_map suc) (ih m.0 m.1 (omega (arith, m.2))) ∙ ap Some (sym m.2)

pub close_within : (bs : List ℕ) (n : ℕ) → first_close bs ≡ Some n → n ≤ length bs
close_within [] n e = absurd cc
close_within (b ∷ []) n e = let no = no_close b in absurd cc
close_within (b ∷ c ∷ bs) n e = at (closes b c) e (λ m. close_within (c ∷ bs) m)
  where
    at : (t : Bool) → cond t (Some 2) (option_map suc (first_close (c ∷ bs))) ≡ Some n → ((m : ℕ) → first_close (c ∷ bs) ≡ Some m → m ≤ suc (length bs)) → n ≤ suc (suc (length bs))
    at true s ih = let two : 2 ≡ n = cc in omega arith
    at false s ih = let m = mapped (first_close (c ∷ bs)) n s in omega (arith, m.2, ih m.0 m.1)

-- ---- the search for it, byte by byte

two_of : (bs : List ℕ) (k : ℕ) → suc k < length bs → drop k bs ≡ get_or bs k 0 ∷ get_or bs (suc k) 0 ∷ drop (suc (suc k)) bs
two_of bs k h = drop-cons bs k 0 (omega arith) ∙ ap (λ cs. get_or bs k 0 ∷ cs) (drop-cons bs (suc k) 0 h)

moved_suc : (k : ℕ) (o : Option ℕ) → moved k (option_map suc o) ≡ moved (suc k) o
moved_suc k None = refl
moved_suc k (Some n) = ap Some (omega arith)

moved_none : (o : Option ℕ) → o ≡ moved 0 o
moved_none None = refl
moved_none (Some n) = ap Some (omega arith)

pub search_begins : (bs : List ℕ) → first_close bs ≡ moved 0 (first_close (drop 0 bs))
search_begins bs = moved_none (first_close bs)

pub search_finds : (bs : List ℕ) (k : ℕ) → suc k < length bs → first_close bs ≡ moved k (first_close (drop k bs)) → get_or bs k 0 ≡ 42 → get_or bs (suc k) 0 ≡ 47 → Some (k + 2) ≡ first_close bs
search_finds bs k h e star slash =
    let here : closes (get_or bs k 0) (get_or bs (suc k) 0) ≡ true = ap (λ b. closes b (get_or bs (suc k) 0)) star ∙ ap (closes 42) slash in
    sym (e ∙ ap (λ cs. moved k (first_close cs)) (two_of bs k h) ∙ ap (λ t. moved k (cond t (Some 2) (option_map suc (first_close (get_or bs (suc k) 0 ∷ drop (suc (suc k)) bs))))) here)

pub search_goes_on : (bs : List ℕ) (k : ℕ) → suc k < length bs → first_close bs ≡ moved k (first_close (drop k bs)) → (get_or bs k 0 ≡ 42 → get_or bs (suc k) 0 ≡ 47 → ⊥) → first_close bs ≡ moved (suc k) (first_close (drop (suc k) bs))
search_goes_on bs k h e never =
    e ∙ ap (λ cs. moved k (first_close cs)) (two_of bs k h) ∙ ap (λ t. moved k (cond t (Some 2) (option_map suc (first_close (get_or bs (suc k) 0 ∷ drop (suc (suc k)) bs))))) (not_here (42 == get_or bs k 0) refl (47 == get_or bs (suc k) 0) refl)
    ∙ moved_suc k (first_close (get_or bs (suc k) 0 ∷ drop (suc (suc k)) bs)) ∙ ap (λ cs. moved (suc k) (first_close cs)) (sym (drop-cons bs (suc k) 0 h))
  where
    not_here : (s : Bool) → 42 == get_or bs k 0 ≡ s → (t : Bool) → 47 == get_or bs (suc k) 0 ≡ t → (s && (t && true)) ≡ false
    not_here true is true it = absurd (never (sym (eqb-true 42 _ is)) (sym (eqb-true 47 _ it)))
    not_here true is false it = refl
    not_here false is t it = refl

pub search_next : (bs : List ℕ) (i : ℕ) → 1 ≤ i → i < length bs → first_close bs ≡ moved (i - 1) (first_close (drop (i - 1) bs)) → (get_or bs (i - 1) 0 ≡ 42 → get_or bs i 0 ≡ 47 → ⊥)
    → first_close bs ≡ moved (i + 1 - 1) (first_close (drop (i + 1 - 1) bs))
search_next bs zero some h e never = absurd (omega arith)
search_next bs (suc k) some h e never =
    let before : suc k - 1 ≡ k = omega arith in
    let after : suc k + 1 - 1 ≡ suc k = omega arith in
    subst (λ n. first_close bs ≡ moved n (first_close (drop n bs))) (sym after)
    (search_goes_on bs k h (subst (λ n. first_close bs ≡ moved n (first_close (drop n bs))) before e) (λ star slash. never (subst (λ n. get_or bs n 0 ≡ 42) (sym before) star) slash))

pub search_ends : (bs : List ℕ) (k : ℕ) → length bs ≤ k + 1 → first_close bs ≡ moved k (first_close (drop k bs)) → None ≡ first_close bs
search_ends bs k h e = sym (e ∙ ap (moved k) (short (drop k bs) (omega (arith, length-drop k bs))))
  where
    short : (cs : List ℕ) → length cs ≤ 1 → first_close cs ≡ None
    short [] l = refl
    short (c ∷ []) l = no_close c
    short (c ∷ d ∷ cs) l = absurd (omega arith)
