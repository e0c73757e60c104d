-- How many brackets of a text are open at each byte, from the depths of a row of its pieces.
use Rattle.std.proofs.Common.{◌≡◌, ℕ, zero, suc, ◌+◌, ◌-◌, ◌<◌, ◌≤◌, ◌⊎◌, inl, inr, Bool, true, false, not, List, [], ◌∷◌, ◌++◌, length, take, refl, sym, ap, ◌∙◌, subst, arith, if◌then◌else◌}
use Rattle.std.specs.Prelude.{◌||◌}
use Rattle.std.specs.List.{list_all}
use Rattle.std.proofs.lemmas.Bool.{and_parts, cases_lt}
use Rattle.std.proofs.lemmas.Bool.Decides.{nat_tests}
use Rattle.reading.specs.Row.{Entry, Row, tokens, Shallow}
use Rattle.c_text.specs.ReadsBack.{is_opening, is_closing, open_after, open_brackets}
use Rattle.c_text.proofs.Plain.{is_plain}
use Rattle.c_grammar.specs.Pieces.{Piece, piece_text, joined}
use Rattle.c_reader.proofs.OpenedLevels.{Entered, plain, opens, closes, Leveled}

-- never more than the limit are open in the text, from `a` before it to `c` behind it
abbrev pub Low : ℕ → ℕ → List ℕ → ℕ → Type 0
Low limit a [] c = (a ≤ limit) × (a ≡ c)
Low limit a (b ∷ bs) c = (a ≤ limit) × Low limit (open_after a b) bs c

low_append : (limit a b c : ℕ) (s t : List ℕ) → Low limit a s b → Low limit b t c → Low limit a (s ++ t) c
low_append limit a b c [] t l m = subst (λ k. Low limit k t c) (sym l.1) m
low_append limit a b c (x ∷ s) t l m = (l.0, low_append limit (open_after a x) b c s t l.1 m)

low_start : (limit a c : ℕ) (t : List ℕ) → Low limit a t c → a ≤ limit
low_start limit a c [] l = l.0
low_start limit a c (x ∷ t) l = l.0

pub low_end : (limit a c : ℕ) (t : List ℕ) → Low limit a t c → c ≤ limit
low_end limit a c [] l = subst (λ k. k ≤ limit) l.1 l.0
low_end limit a c (x ∷ t) l = low_end limit (open_after a x) c t l.1

-- ---- bytes

neither : (opening closing : Bool) (count : ℕ) → not (opening || closing) ≡ true → (if opening then count + 1 else (if closing then count - 1 else count)) ≡ count
neither true closing count free = cc
neither false true count free = cc
neither false false count free = refl

low_plain : (limit a : ℕ) (t : List ℕ) → list_all is_plain t ≡ true → a ≤ limit → Low limit a t a
low_plain limit a [] free low = (low, refl)
low_plain limit a (b ∷ bs) free low =
    let parts = and_parts (is_plain b) (list_all is_plain bs) free in
    let same : open_after a b ≡ a = neither (is_opening b) (is_closing b) a parts.0 in
    (low, subst (λ k. Low limit k bs a) (sym same) (low_plain limit a bs parts.1 low))

pub opened : (a b : ℕ) → is_opening b ≡ true → open_after a b ≡ suc a
opened a b opening = ap (λ x. if x then a + 1 else (if is_closing b then a - 1 else a)) opening ∙ one
  where
    one : a + 1 ≡ suc a
    one = omega arith

closes_alone : (b : ℕ) → is_closing b ≡ true → is_opening b ≡ false
closes_alone b closing = grind (arith, nat_tests)

closed : (a b : ℕ) → is_closing b ≡ true → open_after (suc a) b ≡ a
closed a b closing =
    ap (λ x. if x then suc a + 1 else (if is_closing b then suc a - 1 else suc a)) (closes_alone b closing) ∙ ap (λ x. if x then suc a - 1 else suc a) closing ∙ one
  where
    one : suc a - 1 ≡ a
    one = omega arith

-- ---- pieces and rows

entered_low : (limit a b : ℕ) (m : Entry Piece) → Entered a m b → m.depth ≤ limit → a ≤ limit → Low limit a (piece_text m.token) b
entered_low limit a b m (plain free deep) shallow low = low_plain limit a (piece_text m.token) free.all low
entered_low limit a b m (opens x is opening deep) shallow low =
    subst (λ t. Low limit a t b) (sym is) (low, (subst (λ k. k ≤ limit) (deep ∙ sym (opened a x opening)) shallow, opened a x opening))
entered_low limit a b m (closes x is closing deep) shallow low =
    let back : b ≤ limit = omega (arith, low) in
    subst (λ t. Low limit a t b) (sym is) (low, (subst (λ k. k ≤ limit) (sym (closed b x closing)) back, closed b x closing))

pub row_low : (limit a c : ℕ) (row : Row Piece) → Leveled a row c → Shallow limit row → a ≤ limit → Low limit a (joined (tokens row)) c
row_low limit a c [] l s low = (low, l)
row_low limit a c (m ∷ row) (b, e, l) s low =
    let here = entered_low limit a b m e s.0 low in
    low_append limit a b c (piece_text m.token) (joined (tokens row)) here (row_low limit b c row l s.1 (low_end limit a b (piece_text m.token) here))

-- the first piece that nests too deep is the bracket with which one more than the limit are open
pub one_too_many : (limit a b : ℕ) (m : Entry Piece) → Entered a m b → a ≤ limit → limit < m.depth → (x : ℕ) × (piece_text m.token ≡ x ∷ []) × (open_after a x ≡ suc limit)
one_too_many limit a b m (plain free deep) low high = absurd (omega (arith, deep, low, high))
one_too_many limit a b m (opens x is opening deep) low high =
    let all : suc a ≡ suc limit = omega (arith, deep, low, high) in
    (x, is, opened a x opening ∙ all)
one_too_many limit a b m (closes x is closing deep) low high = absurd (omega (arith, deep, low, high))

-- ---- what is said of each front of the text

pub low_front : (limit a c : ℕ) (t rest : List ℕ) → Low limit a t c → (n : ℕ) → n ≤ length t → open_brackets a (take n (t ++ rest)) ≤ limit
low_front limit a c [] rest l zero few = l.0
low_front limit a c [] rest l (suc n) few = absurd (omega arith)
low_front limit a c (b ∷ t) rest l zero few = l.0
low_front limit a c (b ∷ t) rest l (suc n) few = low_front limit (open_after a b) c t rest l.1 n (omega arith)

pub low_all : (limit a c : ℕ) (t : List ℕ) → Low limit a t c → (n : ℕ) → open_brackets a (take n t) ≤ limit
low_all limit a c [] l zero = l.0
low_all limit a c [] l (suc n) = l.0
low_all limit a c (b ∷ t) l zero = l.0
low_all limit a c (b ∷ t) l (suc n) = low_all limit (open_after a b) c t l.1 n

pub one_further : (limit a c : ℕ) (t : List ℕ) (b : ℕ) (rest : List ℕ) → Low limit a t c → open_brackets a (take (length t + 1) (t ++ b ∷ rest)) ≡ open_after c b
one_further limit a c t b rest l = subst (λ n. open_brackets a (take n (t ++ b ∷ rest)) ≡ open_after c b) next (at a t l)
  where
    next : suc (length t) ≡ length t + 1
    next = omega arith

    at : (a : ℕ) (t : List ℕ) → Low limit a t c → open_brackets a (take (suc (length t)) (t ++ b ∷ rest)) ≡ open_after c b
    at a [] l = ap (λ k. open_after k b) l.1
    at a (x ∷ t) l = at (open_after a x) t l.1

-- ---- rows that are shallow, or have a first piece that nests too deep

pub split_tokens : (row : Row Piece) (first rest : List Piece) → tokens row ≡ first ++ rest → (f : Row Piece) × (g : Row Piece) × (row ≡ f ++ g) × (tokens f ≡ first) × (tokens g ≡ rest)
split_tokens row [] rest e = ([], row, refl, refl, e)
split_tokens [] (p ∷ first) rest e = cc
split_tokens (m ∷ row) (p ∷ first) rest e =
    let same : m.token ≡ p = cc in
    let tails : tokens row ≡ first ++ rest = cc in
    let w = split_tokens row first rest tails in
    (m ∷ w.0, w.1, ap (λ r. m ∷ r) w.2, ap (λ q. q ∷ tokens w.0) same ∙ ap (λ qs. p ∷ qs) w.3, w.4)

-- where the first such piece stands in a row
pub record FirstDeep (limit : ℕ) (row : Row Piece) : Type 0 where
  pub before : Row Piece
  pub deep : Entry Piece
  pub behind : Row Piece
  pub is : row ≡ before ++ deep ∷ behind
  pub shallow : Shallow limit before
  pub exceeds : limit < deep.depth

pub shallow_or_deep : (limit : ℕ) (row : Row Piece) → Shallow limit row ⊎ FirstDeep limit row
shallow_or_deep limit [] = inl tt
shallow_or_deep limit (m ∷ row) = at (cases_lt limit m.depth) (shallow_or_deep limit row)
  where
    at : (limit < m.depth) ⊎ (m.depth ≤ limit) → Shallow limit row ⊎ FirstDeep limit row → Shallow limit (m ∷ row) ⊎ FirstDeep limit (m ∷ row)
    at (inl high) other = inr (record { before = []; deep = m; behind = row; is = refl; shallow = tt; exceeds = high })
    at (inr low) (inl s) = inl (low, s)
    at (inr low) (inr f) = inr (record { before = m ∷ f.before; deep = f.deep; behind = f.behind; is = ap (λ r. m ∷ r) f.is; shallow = (low, f.shallow); exceeds = f.exceeds })
