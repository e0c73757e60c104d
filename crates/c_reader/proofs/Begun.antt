-- What begins a unit, in bytes and in pieces of the grammar; and the first piece with which nothing does.
use Rattle.std.proofs.Common.{◌≡◌, ℕ, Bool, true, false, cond, ◌⊎◌, inl, inr, List, [], ◌∷◌, ◌++◌, map, length, refl, sym, ap, ◌∙◌, subst, append_assoc, append-nil, if◌then◌else◌}
use Rattle.std.specs.Prelude.{nat_eq}
use Rattle.std.proofs.lemmas.List.{map-append}
use Rattle.reading.specs.Row.{Row, tokens}
use Rattle.reading.specs.Exact.{Spelled, Begins, Stuck}
use Rattle.c_ast.specs.Syntax.{TranslationUnit}
use Rattle.c_text.specs.TypeText.{texts}
use Rattle.c_text.specs.Spelling.{unit_text}
use Rattle.c_text.specs.ReadsBack.{Spells}
use Rattle.c_text.specs.Faults as text
use Rattle.c_text.specs.Faults.{BeginsUnit, EndsUnit, SyntaxAt}
use Rattle.grammars.specs.Neighbours.{SideBySide}
use Rattle.grammars.specs.Spelled as grammar
use Rattle.grammars.proofs.Begins.{first_in}
use Rattle.grammars.proofs.Levels.{from_symbol}
use Rattle.c_grammar.specs.Pieces.{Piece, piece_text, joined, pieces}
use Rattle.c_grammar.specs.Kinds.{lexicon, is_whole, kind_of, other}
use Rattle.c_grammar.specs.Symbols.{a_unit}
use Rattle.c_grammar.specs.UnitRules.{fixed_lines, unit_rule}
use Rattle.c_grammar.specs.Subset as subset
use Rattle.c_grammar.specs.Subset.{Text}
use Rattle.c_grammar.proofs.Cut.{Apart, cut_from}
use Rattle.c_grammar.proofs.Parted.{rows_are_apart}
use Rattle.c_grammar.proofs.Texts.{text_spelled}
use Rattle.c_grammar.proofs.SaysTexts.{spelled_texts}
use Rattle.c_reader.proofs.Cuts.{piece_of, AllWhole, pieces_whole, whole_front, whole_back, all_again, cuts_are, pieces_are, joined_texts, same_front}

-- ---- the pieces of a unit's row are those of its text

whole : (b : Bool) (k : ℕ) → cond (nat_eq 291 (if b then k else other)) true false ≡ true → b ≡ true
whole true k e = refl
whole false k e = cc

row_cut : (u : TranslationUnit) (row : Row Piece) → grammar.SpellsWith lexicon 0 (grammar.Spells lexicon subset.grammar 1) unit_rule u row → SideBySide Apart row → pieces (joined (tokens row)) ≡ tokens row
unfolding fixed_lines
row_cut u [] s apart = refl
row_cut u (m ∷ row) s apart = cut_from m row (whole (is_whole m.token) (kind_of 0 m.token) (first_in lexicon 0 (grammar.Spells lexicon subset.grammar 1) unit_rule u m row s)) apart

pub spelled_again : (u : TranslationUnit) (ts : List Piece) → Spelled Text u ts → pieces (joined ts) ≡ ts
spelled_again u ts (row, s, e) = subst (λ z. pieces (joined z) ≡ z) e (row_cut u row (from_symbol lexicon subset.grammar 0 a_unit u row s) (rows_are_apart 0 a_unit u row s))

pub spelled_bytes : (u : TranslationUnit) (ts : List Piece) → Spelled Text u ts → Spells u (joined ts)
spelled_bytes u ts s = spelled_texts u (joined ts) (subst (Spelled Text u) (sym (spelled_again u ts s)) s)

pub spelled_pieces : (u : TranslationUnit) (bytes : List ℕ) → Spells u bytes → Spelled Text u (pieces bytes)
spelled_pieces u bytes s = subst (λ b. Spelled Text u (pieces b)) (sym s.is) (text_spelled u s.in_subset)

-- ---- what begins a unit

pub begins_bytes : (ps : List Piece) → Begins Text ps → BeginsUnit (map piece_text ps)
begins_bytes ps (tail, u, s) =
    let spells = spelled_bytes u (ps ++ tail) s in
    record {
      unit = u;
      in_subset = spells.in_subset;
      rest = map piece_text tail;
      is = sym (ap text.pieces spells.is) ∙ sym (cuts_are (joined (ps ++ tail))) ∙ ap (map piece_text) (spelled_again u (ps ++ tail) s) ∙ map-append piece_text ps tail;
    }

pub begins_pieces : (cs : List (List ℕ)) → BeginsUnit cs → Begins Text (map piece_of cs)
begins_pieces cs b = (
  map piece_of b.rest,
  b.unit,
  subst (Spelled Text b.unit) (pieces_are (unit_text b.unit) ∙ ap (map piece_of) b.is ∙ map-append piece_of cs b.rest) (text_spelled b.unit b.in_subset),
)

pub begins_front : (ps qs : List Piece) → Begins Text (ps ++ qs) → Begins Text ps
begins_front ps qs (tail, u, s) = (qs ++ tail, u, subst (Spelled Text u) (append_assoc ps qs tail) s)

-- ---- the first piece with which no unit begins

pub record FirstUnexpected (ts : List Piece) (at : ℕ) : Type 0 where
  pub first : List Piece
  pub rest : List Piece
  pub cut : ts ≡ first ++ rest
  pub begins : Begins Text first
  pub stuck : Stuck Text first rest
  pub place : at ≡ length (joined first)

ends_bytes : (bytes : List ℕ) (first rest : List Piece) → pieces bytes ≡ first ++ rest → Stuck Text first rest → AllWhole rest → EndsUnit bytes (map piece_text first) (map piece_text rest)
ends_bytes bytes first [] cut stuck all = λ u s. stuck u (subst (Spelled Text u) (cut ∙ append-nil first) (spelled_pieces u bytes s))
ends_bytes bytes first (t ∷ rest) cut stuck all =
    let behind : AllWhole (first ++ t ∷ []) = whole_front (first ++ t ∷ []) rest (subst AllWhole (cut ∙ sym (append_assoc first (t ∷ []) rest)) (pieces_whole bytes)) in
    λ b. stuck (subst (Begins Text) (ap (map piece_of) (sym (map-append piece_text first (t ∷ []))) ∙ all_again (first ++ t ∷ []) behind) (begins_pieces (map piece_text first ++ piece_text t ∷ []) b))

pub syntax_bytes : (bytes : List ℕ) (at : ℕ) → FirstUnexpected (pieces bytes) at → SyntaxAt bytes at
syntax_bytes bytes at f = record {
  before = map piece_text f.first;
  after = map piece_text f.rest;
  cut = sym (cuts_are bytes) ∙ ap (map piece_text) f.cut ∙ map-append piece_text f.first f.rest;
  begins = begins_bytes f.first f.begins;
  ends = ends_bytes bytes f.first f.rest f.cut f.stuck (whole_back f.first f.rest (subst AllWhole f.cut (pieces_whole bytes)));
  place = f.place ∙ ap length (joined_texts f.first);
}

-- the texts of the pieces that are made of the pieces of some bytes
cuts_again : (bytes : List ℕ) → map piece_text (map piece_of (text.pieces bytes)) ≡ text.pieces bytes
cuts_again bytes = ap (map piece_text) (sym (pieces_are bytes)) ∙ cuts_are bytes

map_map : (cs : List (List ℕ)) → map (λ c. piece_text (piece_of c)) cs ≡ map piece_text (map piece_of cs)
map_map [] = refl
map_map (c ∷ cs) = ap (λ z. piece_text (piece_of c) ∷ z) (map_map cs)

front_again : (bytes : List ℕ) (before after : List (List ℕ)) → text.pieces bytes ≡ before ++ after → map piece_text (map piece_of before) ≡ before
front_again bytes before after cut =
    sym (map_map before) ∙ same_front (λ c. piece_text (piece_of c)) before after (map_map (before ++ after) ∙ subst (λ z. map piece_text (map piece_of z) ≡ z) cut (cuts_again bytes))

stuck_pieces : (bytes : List ℕ) (before after : List (List ℕ)) → text.pieces bytes ≡ before ++ after → EndsUnit bytes before after → Stuck Text (map piece_of before) (map piece_of after)
stuck_pieces bytes before [] cut ends =
    let all : pieces bytes ≡ map piece_of before = pieces_are bytes ∙ ap (map piece_of) (cut ∙ append-nil before) in
    λ u s. ends u (spelled_texts u bytes (subst (Spelled Text u) (sym all) s))
stuck_pieces bytes before (c ∷ after) cut ends =
    let again = front_again bytes (before ++ c ∷ []) after (cut ∙ sym (append_assoc before (c ∷ []) after)) in
    λ b. ends (subst BeginsUnit (ap (map piece_text) (sym (map-append piece_of before (c ∷ []))) ∙ again) (begins_bytes (map piece_of before ++ piece_of c ∷ []) b))

pub syntax_pieces : (bytes : List ℕ) (at : ℕ) → SyntaxAt bytes at → FirstUnexpected (pieces bytes) at
syntax_pieces bytes at s = record {
  first = map piece_of s.before;
  rest = map piece_of s.after;
  cut = pieces_are bytes ∙ ap (map piece_of) s.cut ∙ map-append piece_of s.before s.after;
  begins = begins_pieces s.before s.begins;
  stuck = stuck_pieces bytes s.before s.after s.cut s.ends;
  place = s.place ∙ ap (λ z. length (texts z)) (sym (front_again bytes s.before s.after s.cut)) ∙ ap length (sym (joined_texts (map piece_of s.before)));
}

-- ---- there is one at most, and none in the text of a unit

-- of two ways to cut a list in two, one is cut further on, or they are one
pub further : {A : Type 0} (xs ys us vs : List A) → xs ++ ys ≡ us ++ vs → ((w : List A) × (us ≡ xs ++ w) × (ys ≡ w ++ vs)) ⊎ ((w : List A) × (xs ≡ us ++ w) × (vs ≡ w ++ ys))
further [] ys us vs e = inl (us, refl, e)
further (x ∷ xs) ys [] vs e = inr (x ∷ xs, refl, sym e)
further {A} (x ∷ xs) ys (u ∷ us) vs e =
    let same : x ≡ u = cc in
    let tails : xs ++ ys ≡ us ++ vs = cc in
    at (further xs ys us vs tails) same
  where
    at : ((w : List A) × (us ≡ xs ++ w) × (ys ≡ w ++ vs)) ⊎ ((w : List A) × (xs ≡ us ++ w) × (vs ≡ w ++ ys)) → x ≡ u
        → ((w : List A) × (u ∷ us ≡ (x ∷ xs) ++ w) × (ys ≡ w ++ vs)) ⊎ ((w : List A) × (x ∷ xs ≡ (u ∷ us) ++ w) × (vs ≡ w ++ ys))
    at (inl (w, e, f)) same = inl (w, ap (λ z. u ∷ z) e ∙ ap (λ z. z ∷ (xs ++ w)) (sym same), f)
    at (inr (w, e, f)) same = inr (w, ap (λ z. x ∷ z) e ∙ ap (λ z. z ∷ (us ++ w)) same, f)

-- what begins a unit ends no later than where none begins any more
pub not_behind : (first rest longer : List Piece) (w after : List Piece) → Stuck Text first rest → Begins Text longer → longer ≡ first ++ w → rest ≡ w ++ after → longer ≡ first
not_behind first rest longer [] after stuck begins is behind = is ∙ append-nil first
not_behind first [] longer (t ∷ w) after stuck begins is behind = cc
not_behind first (r ∷ rest) longer (t ∷ w) after stuck begins is behind =
    let same : r ≡ t = cc in
    absurd (stuck (begins_front (first ++ r ∷ []) w (subst (Begins Text) (is ∙ ap (λ z. first ++ z ∷ w) (sym same) ∙ sym (append_assoc first (r ∷ []) w)) begins)))

pub one_unexpected : (ts : List Piece) (a b : ℕ) → FirstUnexpected ts a → FirstUnexpected ts b → a ≡ b
one_unexpected ts a b f g = f.place ∙ ap (λ z. length (joined z)) (at (further f.first f.rest g.first g.rest (sym f.cut ∙ g.cut))) ∙ sym g.place
  where
    at : ((w : List Piece) × (g.first ≡ f.first ++ w) × (f.rest ≡ w ++ g.rest)) ⊎ ((w : List Piece) × (f.first ≡ g.first ++ w) × (g.rest ≡ w ++ f.rest)) → f.first ≡ g.first
    at (inl (w, e, h)) = sym (not_behind f.first f.rest g.first w g.rest f.stuck g.begins e h)
    at (inr (w, e, h)) = not_behind g.first g.rest f.first w f.rest g.stuck f.begins e h

stuck_spelled : (u : TranslationUnit) (first rest : List Piece) → Spelled Text u (first ++ rest) → Stuck Text first rest → ⊥
stuck_spelled u first [] s stuck = stuck u (subst (Spelled Text u) (append-nil first) s)
stuck_spelled u first (t ∷ rest) s stuck = stuck (rest, u, subst (Spelled Text u) (sym (append_assoc first (t ∷ []) rest)) s)

pub spelled_is_expected : (u : TranslationUnit) (bytes : List ℕ) (at : ℕ) → Spells u bytes → SyntaxAt bytes at → ⊥
spelled_is_expected u bytes at s f =
    let w = syntax_pieces bytes at f in
    stuck_spelled u w.first w.rest (subst (Spelled Text u) w.cut (spelled_pieces u bytes s)) w.stuck

pub one_syntax : (bytes : List ℕ) (a b : ℕ) → SyntaxAt bytes a → SyntaxAt bytes b → a ≡ b
one_syntax bytes a b f g = one_unexpected (pieces bytes) a b (syntax_pieces bytes a f) (syntax_pieces bytes b g)
