-- What the rows of a rule say, rule by rule: which values they spell, and the text that their pieces make.
use Rattle.std.proofs.Common.{◌≡◌, ℕ, suc, Bool, true, false, List, [], ◌∷◌, ◌++◌, map, All, inl, inr, refl, sym, ap, ◌∙◌, subst, Option, Some, None, if◌then◌else◌}
use Rattle.std.specs.Prelude.{nat_eq}
use Rattle.std.proofs.lemmas.Bool.{eqb-true, and_parts}
use Rattle.std.proofs.lemmas.List.Elements.{All-nil, All-cons}
use Rattle.reading.specs.Row.{Row, tokens}
use Rattle.reading.specs.Language.{Language, Many}
use Rattle.reading.proofs.Rows.{append_nil}
use Rattle.iv_words.specs.Words.{same_word}
use Rattle.c_text.specs.TypeText.{texts}
use Rattle.grammars.specs.Grammar as rules
use Rattle.grammars.specs.Grammar.{of_kind, stage, token, empty, sequence, split, choice, repeat, brackets, after, before, optional}
use Rattle.grammars.specs.Spelled.{SpellsWith}
use Rattle.grammars.proofs.Sets.{value_is}
use Rattle.c_grammar.specs.Pieces.{Piece, Word, Blanks, Byte, piece_text, joined}
use Rattle.c_grammar.specs.Kinds.{lexicon, same_piece, exactly}
use Rattle.c_grammar.specs.Symbols.{Symbol, Tree, Rule, pair}
use Rattle.c_grammar.proofs.Written.{joined_append}

pub same_word_is : (v w : List ℕ) → same_word v w ≡ true → v ≡ w
same_word_is [] [] e = refl
same_word_is [] (x ∷ w) e = cc
same_word_is (x ∷ v) [] e = cc
same_word_is (x ∷ v) (y ∷ w) e =
    let parts = and_parts (nat_eq x y) (same_word v w) e in
    ap (λ z. z ∷ v) (eqb-true x y parts.0) ∙ ap (λ z. y ∷ z) (same_word_is v w parts.1)

same_piece_is : (p q : Piece) → same_piece p q ≡ true → p ≡ q
same_piece_is (Word v) (Word w) e = ap Word (same_word_is v w e)
same_piece_is (Word v) (Blanks n) e = cc
same_piece_is (Word v) (Byte b) e = cc
same_piece_is (Blanks m) (Word w) e = cc
same_piece_is (Blanks m) (Blanks n) e = ap Blanks (eqb-true m n e)
same_piece_is (Blanks m) (Byte b) e = cc
same_piece_is (Byte b) (Word w) e = cc
same_piece_is (Byte b) (Blanks n) e = cc
same_piece_is (Byte b) (Byte c) e = ap Byte (eqb-true b c e)

pub picked_true : {A : Type 0} (b : Bool) (x y : A) → (if b then Some x else None) ≡ Some y → (b ≡ true) × (x ≡ y)
picked_true true x y e = let same : x ≡ y = cc in (refl, same)
picked_true false x y e = cc

pub exactly_is : (d k : ℕ) (p q v : Piece) → of_kind lexicon d k (exactly p) q ≡ Some v → q ≡ p
exactly_is d k p q v e = same_piece_is q p (picked_true (same_piece q p) q v (value_is (nat_eq k (lexicon.kind d q)) (exactly p q) v e)).0

abbrev pub IfThere : {A : Type 0} → (A → Type 0) → Option A → Type 0
IfThere I None = Unit {0}
IfThere I (Some a) = I a

abbrev pub text_if : {A : Type 0} → (A → List ℕ) → Option A → List ℕ
text_if s None = []
text_if s (Some a) = s a

-- each value is one of these, and has this text
pub record Is {A : Type 0} (I : A → Type 0) (text : A → List ℕ) (a : A) (t : List ℕ) : Type 0 where
  pub good : I a
  pub is : t ≡ text a

module _ (d : ℕ) (L : (n : Symbol) → Language Piece (Tree n)) where
  pub record Means {A : Type 0} (r : Rule A) (Q : A → List ℕ → Type 0) : Type 0 where
    pub means : (a : A) (row : Row Piece) → SpellsWith lexicon d L r a row → Q a (joined (tokens row))

  abbrev pub Says : {A : Type 0} → Rule A → (A → Type 0) → (A → List ℕ) → Type 0
  Says r I text = Means r (Is I text)

module _ {d : ℕ} {L : (n : Symbol) → Language Piece (Tree n)} where
  pub m_token : {A : Type 0} {k : ℕ} {f : Piece → Option A} {Q : A → List ℕ → Type 0} → ((p : Piece) (a : A) → of_kind lexicon d k f p ≡ Some a → Q a (piece_text p)) → Means d L (token k f) Q
  m_token {Q = Q} h = record { means = λ a row (m, e, at, sel). subst (λ r. Q a (joined (tokens r))) (sym e) (subst (Q a) (sym (append_nil (piece_text m.token))) (h m.token a sel)) }

  pub m_map : {A B : Type 0} {p : Rule A} {Q : B → List ℕ → Type 0} (f : A → B) → Means d L p (λ a t. Q (f a) t) → Means d L (rules.map f p) Q
  m_map {Q = Q} f w = record { means = λ b row (a, s, is). subst (λ x. Q x (joined (tokens row))) (sym is) (w.means a row s) }

  pub m_sequence : {A B C : Type 0} {p : Rule A} {q : Rule B} {P : A → List ℕ → Type 0} {R : B → List ℕ → Type 0} {Q : C → List ℕ → Type 0} (f : A → B → C) → Means d L p P → Means d L q R
      → ((a : A) (b : B) (s t : List ℕ) → P a s → R b t → Q (f a b) (s ++ t)) → Means d L (sequence f p q) Q
  m_sequence {Q = Q} f v w h = record {
    means = λ c row (a, u, z, e, s, (b, t, is)).
        subst (λ x. Q x (joined (tokens row))) (sym is) (subst (λ r. Q (f a b) (joined (tokens r))) (sym e) (subst (Q (f a b)) (sym (joined_append u z)) (h a b (joined (tokens u)) (joined (tokens z)) (v.means a u s) (w.means b z t))));
  }

  pub m_choice : {A : Type 0} {p q : Rule A} {Q : A → List ℕ → Type 0} → Means d L p Q → Means d L q Q → Means d L (choice p q) Q
  m_choice v w = record { means = λ a row s. elim s [ inl x ↦ v.means a row x | inr x ↦ w.means a row x ] }

  pub m_empty : {A : Type 0} {a : A} {Q : A → List ℕ → Type 0} → Q a [] → Means d L (empty a) Q
  m_empty {a = a} {Q = Q} h = record { means = λ b row (is, e). subst (λ x. Q x (joined (tokens row))) (sym is) (subst (λ r. Q a (joined (tokens r))) (sym e) h) }

  pub m_as : {A : Type 0} {r : Rule A} {P Q : A → List ℕ → Type 0} → Means d L r P → ((a : A) (t : List ℕ) → P a t → Q a t) → Means d L r Q
  m_as w h = record { means = λ a row s. h a (joined (tokens row)) (w.means a row s) }

  pub m_split : {A C : Type 0} {Y : ℕ → Type 0} {last : ℕ} {way : A → ℕ} {f : (a : A) → Y (stage last (way a)) → C} {p : Rule A} {rest : (s : ℕ) → Rule (Y s)} {P : A → List ℕ → Type 0} {R : (s : ℕ) → Y s → List ℕ → Type 0} {Q : C → List ℕ → Type 0}
      → Means d L p P → ((s : ℕ) → Means d L (rest s) (R s)) → ((a : A) (y : Y (stage last (way a))) (s t : List ℕ) → P a s → R (stage last (way a)) y t → Q (f a y) (s ++ t)) → Means d L (split {Y = Y} last way f p rest) Q
  m_split {last = last} {way = way} {f = f} {Q = Q} v w h = record {
    means = λ c row (a, u, z, e, s, (y, t, is)).
        subst (λ x. Q x (joined (tokens row))) (sym is) (subst (λ r. Q (f a y) (joined (tokens r))) (sym e) (subst (Q (f a y)) (sym (joined_append u z)) (h a y (joined (tokens u)) (joined (tokens z)) (v.means a u s) ((w (stage last (way a))).means y z t))));
  }

  -- a token for a bracket, what stands between, and the other
  pub m_brackets : {o c : ℕ} {n : Symbol} {M Q : Tree n → List ℕ → Type 0} (opens closes : List ℕ) → ((p v : Piece) → of_kind lexicon d o Some p ≡ Some v → piece_text p ≡ opens) → ((p v : Piece) → of_kind lexicon (suc d) c Some p ≡ Some v → piece_text p ≡ closes)
      → ((x : Tree n) (row : Row Piece) → L n x row → M x (joined (tokens row))) → ((x : Tree n) (t : List ℕ) → M x t → Q x (opens ++ (t ++ closes))) → Means d L (brackets o c n) Q
  m_brackets {Q = Q} opens closes first last inner h = record {
    means = λ x row (a, u, v, e, (m, is, deep, sel), (y, k, l, e2, inside, (b, (z, at, deep2, sel2), same))).
        let opened : joined (tokens u) ≡ opens = ap (λ r. joined (tokens r)) is ∙ append_nil (piece_text m.token) ∙ first m.token a sel in
        let closed : joined (tokens l) ≡ closes = ap (λ r. joined (tokens r)) at ∙ append_nil (piece_text z.token) ∙ last z.token b sel2 in
        let rest : joined (tokens v) ≡ joined (tokens k) ++ closes = ap (λ r. joined (tokens r)) e2 ∙ joined_append k l ∙ ap (λ t. joined (tokens k) ++ t) closed in
        let all : joined (tokens row) ≡ opens ++ (joined (tokens k) ++ closes) = ap (λ r. joined (tokens r)) e ∙ joined_append u v ∙ ap (λ t. t ++ joined (tokens v)) opened ∙ ap (λ t. opens ++ t) rest in
        subst (λ w. Q w (joined (tokens row))) (sym same) (subst (Q y) (sym all) (h y (joined (tokens k)) (inner y k inside)));
  }

  -- ---- values with a text of their own

  pub s_fixed : {k : ℕ} {p : Piece} → Says d L (token k (exactly p)) (λ _. Unit {0}) (λ _. piece_text p)
  s_fixed {k} {p} = m_token (λ q v e. record { good = tt; is = ap piece_text (exactly_is d k p q v e) })

  pub s_sequence : {A B C : Type 0} {p : Rule A} {q : Rule B} {I : A → Type 0} {J : B → Type 0} {K : C → Type 0} {s : A → List ℕ} {t : B → List ℕ} {u : C → List ℕ} (f : A → B → C) → Says d L p I s → Says d L q J t
      → ((a : A) (b : B) → I a → J b → K (f a b) × (s a ++ t b ≡ u (f a b))) → Says d L (sequence f p q) K u
  s_sequence {s = s} {t = t} f v w h = m_sequence f v w (λ a b x y i j. let k = h a b i.good j.good in record { good = k.0; is = ap (λ z. z ++ y) i.is ∙ ap (λ z. s a ++ z) j.is ∙ k.1 })

  pub s_after : {A B : Type 0} {p : Rule A} {q : Rule B} {I : A → Type 0} {J : B → Type 0} {s : List ℕ} {t : B → List ℕ} → Says d L p I (λ _. s) → Says d L q J t → Says d L (after p q) J (λ b. s ++ t b)
  s_after v w = s_sequence (λ _ b. b) v w (λ a b i j. (j, refl))

  pub s_before : {A B : Type 0} {p : Rule A} {q : Rule B} {I : A → Type 0} {J : B → Type 0} {s : A → List ℕ} {t : List ℕ} → Says d L p I s → Says d L q J (λ _. t) → Says d L (before p q) I (λ a. s a ++ t)
  s_before v w = s_sequence (λ a _. a) v w (λ a b i j. (i, refl))

  pub s_pair : {A B : Type 0} {p : Rule A} {q : Rule B} {I : A → Type 0} {J : B → Type 0} {s : A → List ℕ} {t : B → List ℕ} → Says d L p I s → Says d L q J t → Says d L (sequence pair p q) (λ x. I x.0 × J x.1) (λ x. s x.0 ++ t x.1)
  s_pair v w = s_sequence pair v w (λ a b i j. ((i, j), refl))

  pub s_map : {A B : Type 0} {p : Rule A} {I : A → Type 0} {J : B → Type 0} {s : A → List ℕ} {t : B → List ℕ} (f : A → B) → Says d L p I s → ((a : A) → I a → J (f a) × (s a ≡ t (f a))) → Says d L (rules.map f p) J t
  s_map f w h = m_map f (m_as w (λ a x i. let k = h a i.good in record { good = k.0; is = i.is ∙ k.1 }))

  pub s_as : {A : Type 0} {p : Rule A} {I J : A → Type 0} {s t : A → List ℕ} → Says d L p I s → ((a : A) → I a → J a × (s a ≡ t a)) → Says d L p J t
  s_as w h = m_as w (λ a x i. let k = h a i.good in record { good = k.0; is = i.is ∙ k.1 })

  pub s_optional : {A : Type 0} {p : Rule A} {I : A → Type 0} {s : A → List ℕ} → Says d L p I s → Says d L (optional p) (IfThere I) (text_if s)
  s_optional w = m_choice (s_map Some w (λ a i. (i, refl))) (m_empty record { good = tt; is = refl })

  many_says : {A : Type 0} {p : Rule A} {I : A → Type 0} {s : A → List ℕ} → Says d L p I s → (xs : List A) (row : Row Piece) → Many (SpellsWith lexicon d L p) xs row → Is (All I) (λ xs. texts (map s xs)) xs (joined (tokens row))
  many_says {I = I} w [] row e = record { good = All-nil I; is = ap (λ r. joined (tokens r)) e }
  many_says {I = I} {s = s} w (x ∷ xs) row (u, v, e, a, b) =
      let i = w.means x u a in
      let j = many_says w xs v b in
      record { good = All-cons I x xs i.good j.good; is = ap (λ r. joined (tokens r)) e ∙ joined_append u v ∙ ap (λ z. z ++ joined (tokens v)) i.is ∙ ap (λ z. s x ++ z) j.is }

  pub s_repeat : {A : Type 0} {p : Rule A} {I : A → Type 0} {s : A → List ℕ} → Says d L p I s → Says d L (repeat p) (All I) (λ xs. texts (map s xs))
  s_repeat w = record { means = many_says w }
