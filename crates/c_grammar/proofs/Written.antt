-- Rows that spell a value, put together rule by rule, with the text that their pieces make.
use Rattle.std.proofs.Common.{◌≡◌, ℕ, suc, List, [], ◌∷◌, ◌++◌, inl, inr, refl, sym, ap, ◌∙◌, subst, append_assoc, Option, Some}
use Rattle.reading.specs.Row.{Entry, Row, tokens}
use Rattle.reading.proofs.Rows.{append_nil}
use Rattle.grammars.specs.Grammar as rules
use Rattle.grammars.specs.Grammar.{of_kind, stage, token, empty, sequence, split, choice, repeat, stages, brackets, after, before, separated}
use Rattle.grammars.specs.Spelled.{SpellsWith, Spells}
use Rattle.grammars.proofs.Levels.{to_symbol}
use Rattle.c_grammar.specs.Pieces.{Piece, Byte, piece_text, joined}
use Rattle.c_grammar.specs.Kinds.{lexicon}
use Rattle.c_grammar.specs.Symbols.{Symbol, Tree, Rule, parens, squares, braces}
use Rattle.c_grammar.specs.Subset.{grammar}

-- some row of the rule at this depth spells the value, and its pieces make the text
pub record Written {A : Type 0} (d : ℕ) (r : Rule A) (a : A) (text : List ℕ) : Type 0 where
  pub row : Row Piece
  pub spelled : SpellsWith lexicon d (Spells lexicon grammar (suc d)) r a row
  pub makes : joined (tokens row) ≡ text

pub joined_append : (u v : Row Piece) → joined (tokens (u ++ v)) ≡ joined (tokens u) ++ joined (tokens v)
joined_append [] v = refl
joined_append (m ∷ u) v = ap (λ t. piece_text m.token ++ t) (joined_append u v) ∙ sym (append_assoc (piece_text m.token) (joined (tokens u)) (joined (tokens v)))

two_texts : (u v : Row Piece) (s t : List ℕ) → joined (tokens u) ≡ s → joined (tokens v) ≡ t → joined (tokens (u ++ v)) ≡ s ++ t
two_texts u v s t e h = joined_append u v ∙ ap (λ x. x ++ joined (tokens v)) e ∙ ap (λ x. s ++ x) h

-- the same text in other words, and the same value
pub as_text : {A : Type 0} {d : ℕ} {r : Rule A} {a : A} {s t : List ℕ} → Written d r a s → s ≡ t → Written d r a t
as_text w e = record { row = w.row; spelled = w.spelled; makes = w.makes ∙ e }

pub as_value : {A : Type 0} {d : ℕ} {r : Rule A} {a b : A} {t : List ℕ} → Written d r a t → a ≡ b → Written d r b t
as_value {A} {d} {r} {a} {b} {t} w e = subst (λ x. Written d r x t) e w

pub one_piece : {A : Type 0} {d k : ℕ} {f : Piece → Option A} {a : A} (p : Piece) → of_kind lexicon d k f p ≡ Some a → Written d (token k f) a (piece_text p)
one_piece {d = d} p e = let m : Entry Piece = record { token = p; depth = d } in record { row = m ∷ []; spelled = (m, refl, refl, e); makes = append_nil (piece_text p) }

pub nothing : {A : Type 0} {d : ℕ} {a : A} → Written d (empty a) a []
nothing = record { row = []; spelled = (refl, refl); makes = refl }

pub mapped : {A B : Type 0} {d : ℕ} {p : Rule A} {a : A} {t : List ℕ} (f : A → B) → Written d p a t → Written d (rules.map f p) (f a) t
mapped {a = a} f w = record { row = w.row; spelled = (a, w.spelled, refl); makes = w.makes }

pub in_sequence : {A B C : Type 0} {d : ℕ} {p : Rule A} {q : Rule B} {a : A} {b : B} {s t : List ℕ} (f : A → B → C) → Written d p a s → Written d q b t → Written d (sequence f p q) (f a b) (s ++ t)
in_sequence {a = a} {b = b} {s = s} {t = t} f v w = record { row = v.row ++ w.row; spelled = (a, v.row, w.row, refl, v.spelled, (b, w.spelled, refl)); makes = two_texts v.row w.row s t v.makes w.makes }

-- one after the other, with the value of the second, or of the first
infixr 5 ◌then◌
pub ◌then◌ : {A B : Type 0} {d : ℕ} {p : Rule A} {q : Rule B} {a : A} {b : B} {s t : List ℕ} → Written d p a s → Written d q b t → Written d (after p q) b (s ++ t)
v then w = in_sequence (λ _ b. b) v w

pub ended : {A B : Type 0} {d : ℕ} {p : Rule A} {q : Rule B} {a : A} {b : B} {s t : List ℕ} → Written d p a s → Written d q b t → Written d (before p q) a (s ++ t)
ended v w = in_sequence (λ a _. a) v w

pub first_of : {A : Type 0} {d : ℕ} {p q : Rule A} {a : A} {t : List ℕ} → Written d p a t → Written d (choice p q) a t
first_of w = record { row = w.row; spelled = inl w.spelled; makes = w.makes }

pub second_of : {A : Type 0} {d : ℕ} {p q : Rule A} {a : A} {t : List ℕ} → Written d q a t → Written d (choice p q) a t
second_of w = record { row = w.row; spelled = inr w.spelled; makes = w.makes }

pub by_way : {A C : Type 0} {Y : ℕ → Type 0} {d last : ℕ} {way : A → ℕ} {f : (a : A) → Y (stage last (way a)) → C} {p : Rule A} {rest : (s : ℕ) → Rule (Y s)} {s t : List ℕ} (a : A) (y : Y (stage last (way a)))
    → Written d p a s → Written d (rest (stage last (way a))) y t → Written d (split {Y = Y} last way f p rest) (f a y) (s ++ t)
by_way {s = s} {t = t} a y v w = record { row = v.row ++ w.row; spelled = (a, v.row, w.row, refl, v.spelled, (y, w.spelled, refl)); makes = two_texts v.row w.row s t v.makes w.makes }

-- ---- lists

pub none : {A : Type 0} {d : ℕ} {p : Rule A} → Written d (repeat p) [] []
none = record { row = []; spelled = refl; makes = refl }

pub more : {A : Type 0} {d : ℕ} {p : Rule A} {a : A} {xs : List A} {s t : List ℕ} → Written d p a s → Written d (repeat p) xs t → Written d (repeat p) (a ∷ xs) (s ++ t)
more {s = s} {t = t} v w = record { row = v.row ++ w.row; spelled = (v.row, w.row, refl, v.spelled, w.spelled); makes = two_texts v.row w.row s t v.makes w.makes }

-- ---- brackets

pub in_brackets : {d o c : ℕ} {n : Symbol} {x : Tree n} {t : List ℕ} (p q : Piece) → of_kind lexicon d o Some p ≡ Some p → of_kind lexicon (suc d) c Some q ≡ Some q
    → Written (suc d) (grammar n) x t → Written d (brackets o c n) x (piece_text p ++ (t ++ piece_text q))
in_brackets {d} {o} {c} {n} {x} {t} p q e h w =
    let m : Entry Piece = record { token = p; depth = suc d } in
    let k : Entry Piece = record { token = q; depth = suc d } in
    record {
      row = (m ∷ []) ++ (w.row ++ (k ∷ []));
      spelled = (p, m ∷ [], w.row ++ (k ∷ []), refl, (m, refl, refl, e), (x, w.row, k ∷ [], refl, to_symbol lexicon grammar (suc d) n x w.row w.spelled, (q, (k, refl, refl, h), refl)));
      makes = ap (λ s. piece_text p ++ s) (two_texts w.row (k ∷ []) t (piece_text q) w.makes (append_nil (piece_text q)));
    }

pub within_parens : {d : ℕ} {n : Symbol} {x : Tree n} {t : List ℕ} → Written (suc d) (grammar n) x t → Written d (parens n) x (40 ∷ (t ++ 41 ∷ []))
within_parens w = in_brackets (Byte 40) (Byte 41) refl refl w

pub within_squares : {d : ℕ} {n : Symbol} {x : Tree n} {t : List ℕ} → Written (suc d) (grammar n) x t → Written d (squares n) x (91 ∷ (t ++ 93 ∷ []))
within_squares w = in_brackets (Byte 91) (Byte 93) refl refl w

pub within_braces : {d : ℕ} {n : Symbol} {x : Tree n} {t : List ℕ} → Written (suc d) (grammar n) x t → Written d (braces n) x (123 ∷ (t ++ 125 ∷ []))
within_braces w = in_brackets (Byte 123) (Byte 125) refl refl w
