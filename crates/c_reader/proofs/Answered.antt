-- What is answered of the pieces of some bytes, and what it says of the bytes.
use Rattle.std.proofs.Common.{◌≡◌, ℕ, suc, ◌+◌, ◌<◌, ◌≤◌, ◌⊎◌, inl, inr, true, List, [], ◌∷◌, ◌++◌, length, take, refl, sym, ap, ◌∙◌, subst, arith, append_assoc, append-nil}
use Rattle.std.proofs.lemmas.List.{length-append, take_at}
use Rattle.reading.specs.Row.{Entry, Row, no_signs, tokens, Shallow}
use Rattle.reading.specs.Exact.{Tree, UnexpectedToken, DeepToken, Begins, TooDeepAt}
use Rattle.reading.proofs.Rows.{tokens_append}
use Rattle.c_ast.specs.Syntax.{TranslationUnit}
use Rattle.c_text.specs.ReadsBack.{open_after, open_brackets, Spells, IsShallow}
use Rattle.c_text.specs.Faults.{SyntaxAt, ShallowBefore, DeepAt}
use Rattle.c_grammar.specs.Pieces.{Piece, piece_text, joined, pieces}
use Rattle.c_grammar.specs.Kinds.{is_whole}
use Rattle.c_grammar.specs.Subset.{Text, parse}
use Rattle.c_grammar.proofs.Checked.{exactly}
use Rattle.c_grammar.proofs.Cut.{pieces_joined}
use Rattle.c_grammar.proofs.SaysTexts.{spelled_texts}
use Rattle.c_reader.proofs.Cuts.{AllWhole, pieces_whole, whole_back, whole_has_bytes, pieces_appended}
use Rattle.c_reader.proofs.Begun.{FirstUnexpected, syntax_bytes, syntax_pieces, begins_front, further, not_behind}
use Rattle.c_reader.proofs.OpenedLevels.{Leveled, leveled_split, rows_are_leveled}
use Rattle.c_reader.proofs.Depths.{Low, row_low, low_end, one_too_many, low_front, low_all, one_further, split_tokens, FirstDeep, shallow_or_deep}

-- the place of a piece: the bytes before it
abbrev pub place_of : List ℕ → ℕ → ℕ
place_of bytes k = length (joined (take k (pieces bytes)))

-- ---- a unit

pub unit_answered : (bytes : List ℕ) (u : TranslationUnit) → parse 300 (pieces bytes) ≡ Tree u → Spells u bytes × IsShallow bytes
unit_answered bytes u e =
    let (row, spelled, shallow, is) = (exactly 300).found (pieces bytes) u e in
    let low : Low 300 0 (joined (tokens row)) 0 = row_low 300 0 0 row (rows_are_leveled u row spelled) shallow (omega arith) in
    let text : joined (tokens row) ≡ bytes = ap joined is ∙ pieces_joined bytes in
    (spelled_texts u bytes (row, spelled, is), low_all 300 0 0 bytes (subst (λ t. Low 300 0 t 0) text low))

-- ---- an unexpected piece

place_is : (bytes : List ℕ) (first rest : List Piece) (k : ℕ) → pieces bytes ≡ first ++ rest → k ≡ length first → place_of bytes k ≡ length (joined first)
place_is bytes first rest k cut is = ap (λ ps. length (joined (take k ps))) cut ∙ ap (λ ps. length (joined ps)) (take_at first rest k (sym is))

pub bytes_are : (bytes : List ℕ) (first rest : List Piece) → pieces bytes ≡ first ++ rest → joined first ++ joined rest ≡ bytes
bytes_are bytes first rest cut = sym (pieces_appended first rest) ∙ ap joined (sym cut) ∙ pieces_joined bytes

abbrev NoneTooDeep : List Piece → Type 0
NoneTooDeep ts = (j : ℕ) → TooDeepAt Text no_signs 300 ts j → ⊥

-- the first piece of a row that nests too deep
deep_there : (ts first rest tail : List Piece) (u : TranslationUnit) (f g row : Row Piece) → ts ≡ first ++ rest → row ≡ f ++ g → tokens f ≡ first → Text u row → FirstDeep 300 f → (j : ℕ) × TooDeepAt Text no_signs 300 ts j
deep_there ts first rest tail u f g row cut whole is spelled d =
    let all : row ≡ d.before ++ d.deep ∷ (d.behind ++ g) = whole ∙ ap (λ r. r ++ g) d.is ∙ append_assoc d.before (d.deep ∷ d.behind) g in
    let front : first ≡ tokens d.before ++ d.deep.token ∷ tokens d.behind = sym is ∙ ap tokens d.is ∙ tokens_append d.before (d.deep ∷ d.behind) in
    let at : ts ≡ tokens d.before ++ d.deep.token ∷ (tokens d.behind ++ rest) = cut ∙ ap (λ z. z ++ rest) front ∙ append_assoc (tokens d.before) (d.deep.token ∷ tokens d.behind) rest in
    (length (tokens d.before), (d.before, d.deep, d.behind ++ g, tokens d.behind ++ rest, u, at, refl, subst (Text u) all spelled, d.shallow, d.exceeds, λ sign. absurd cc))

shallow_begun : (ts first rest : List Piece) → ts ≡ first ++ rest → Begins Text first → NoneTooDeep ts → (c : ℕ) × Low 300 0 (joined first) c
shallow_begun ts first rest cut (tail, u, (row, spelled, e)) none =
    let (f, g, whole, is, other) = split_tokens row first tail e in
    at f g whole is (shallow_or_deep 300 f)
  where
    at : (f g : Row Piece) → row ≡ f ++ g → tokens f ≡ first → Shallow 300 f ⊎ FirstDeep 300 f → (c : ℕ) × Low 300 0 (joined first) c
    at f g whole is (inl s) =
        let l = leveled_split 0 0 f g (subst (λ r. Leveled 0 r 0) whole (rows_are_leveled u row spelled)) in
        (l.0, subst (λ ps. Low 300 0 (joined ps) l.0) is (row_low 300 0 l.0 f l.1 s (omega arith)))
    at f g whole is (inr d) = let w = deep_there ts first rest tail u f g row cut whole is spelled d in absurd (none w.0 w.1)

pub syntax_answered : (bytes : List ℕ) (k : ℕ) → parse 300 (pieces bytes) ≡ UnexpectedToken k → SyntaxAt bytes (place_of bytes k) × ShallowBefore bytes (place_of bytes k)
syntax_answered bytes k e =
    let (first, rest, cut, is, begins, stuck) = (exactly 300).unexpected (pieces bytes) k e in
    let place : place_of bytes k ≡ length (joined first) = place_is bytes first rest k cut is in
    let none : NoneTooDeep (pieces bytes) = λ j deep. let other : UnexpectedToken k ≡ DeepToken j = sym e ∙ (exactly 300).only_deep (pieces bytes) j deep in absurd cc in
    let low = shallow_begun (pieces bytes) first rest cut begins none in (
      syntax_bytes bytes (place_of bytes k) record { first = first; rest = rest; cut = cut; begins = begins; stuck = stuck; place = place },
      λ n few. subst (λ t. open_brackets 0 (take n t) ≤ 300) (bytes_are bytes first rest cut) (low_front 300 0 low.0 (joined first) (joined rest) low.1 n (subst (λ p. n ≤ p) place few)),
    )

-- ---- a bracket too many

-- where such a piece stands, an unexpected one stands behind it
behind_deep : (ts front rest : List Piece) (p : Piece) (at : ℕ) → ts ≡ front ++ p ∷ rest → Begins Text (front ++ p ∷ []) → is_whole p ≡ true → FirstUnexpected ts at → length (joined front) < at
behind_deep ts front rest p at cut begins whole f = which (further f.first f.rest (front ++ p ∷ []) rest (sym f.cut ∙ cut ∙ sym (append_assoc front (p ∷ []) rest)))
  where
    longer : (w : List Piece) → f.first ≡ (front ++ p ∷ []) ++ w → length (joined front) < at
    longer w e =
        let (b, bs, text) = whole_has_bytes p whole in
        let parts : joined f.first ≡ joined front ++ (piece_text p ++ joined w) =
        ap joined (e ∙ append_assoc front (p ∷ []) w) ∙ pieces_appended front (p ∷ w) in
        let size : length (joined f.first) ≡ length (joined front) + length (piece_text p ++ joined w) = ap length parts ∙ length-append (joined front) (piece_text p ++ joined w) in
        let some : length (piece_text p ++ joined w) ≡ length ((b ∷ bs) ++ joined w) = ap (λ t. length (t ++ joined w)) text in
        let place : at ≡ length (joined f.first) = f.place in
        positive (length (joined front)) (length (bs ++ joined w)) (length (piece_text p ++ joined w)) (length (joined f.first)) at some size place
      where
        positive : (a c d e at : ℕ) → d ≡ suc c → e ≡ a + d → at ≡ e → a < at
        positive a c d e at x y z = omega (arith, x, y, z)

    which : ((w : List Piece) × (front ++ p ∷ [] ≡ f.first ++ w) × (f.rest ≡ w ++ rest)) ⊎ ((w : List Piece) × (f.first ≡ (front ++ p ∷ []) ++ w) × (rest ≡ w ++ f.rest)) → length (joined front) < at
    which (inl (w, e, h)) =
        let same : front ++ p ∷ [] ≡ f.first = not_behind f.first f.rest (front ++ p ∷ []) w rest f.stuck begins e h in
        longer [] (sym same ∙ sym (append-nil (front ++ p ∷ [])))
    which (inr (w, e, h)) = longer w e

-- the bracket behind a front of the bytes, with which one more than 300 are open
deep_bytes : (bytes front p rest : List ℕ) (x c at : ℕ) → at ≡ length front → front ++ (p ++ rest) ≡ bytes → p ≡ x ∷ [] → Low 300 0 front c → open_after c x ≡ 301 → DeepAt bytes at
deep_bytes bytes front p rest x c at place text one low over =
    let further : front ++ x ∷ rest ≡ bytes = ap (λ t. front ++ (t ++ rest)) (sym one) ∙ text in
    let opens : open_brackets 0 (take (length front + 1) (front ++ x ∷ rest)) ≡ 301 = one_further 300 0 c front x rest low ∙ over in
    record {
      shallow_before = λ n few. subst (λ t. open_brackets 0 (take n t) ≤ 300) text (low_front 300 0 c front (p ++ rest) low n (subst (λ q. n ≤ q) place few));
      opens = subst (λ q. open_brackets 0 (take (q + 1) bytes) ≡ 301) (sym place) (subst (λ t. open_brackets 0 (take (length front + 1) t) ≡ 301) further opens);
    }

row_then : (row : Row Piece) (m : Entry Piece) (tail : Row Piece) → tokens (row ++ m ∷ tail) ≡ ((tokens row ++ m.token ∷ []) ++ tokens tail) ++ []
row_then row m tail = tokens_append row (m ∷ tail) ∙ sym (append_assoc (tokens row) (m.token ∷ []) (tokens tail)) ∙ sym (append-nil ((tokens row ++ m.token ∷ []) ++ tokens tail))

pub deep_answered : (bytes : List ℕ) (k : ℕ) → parse 300 (pieces bytes) ≡ DeepToken k → DeepAt bytes (place_of bytes k) × ((place : ℕ) → SyntaxAt bytes place → place_of bytes k < place)
deep_answered bytes k e =
    let (row, m, tail, rest, u, cut, is, spelled, shallow, high, fits) = (exactly 300).too_deep (pieces bytes) k e in
    let place : place_of bytes k ≡ length (joined (tokens row)) = place_is bytes (tokens row) (m.token ∷ rest) k cut is in
    let (c, before, (b, enters, after)) = leveled_split 0 0 row (m ∷ tail) (rows_are_leveled u (row ++ m ∷ tail) spelled) in
    let low : Low 300 0 (joined (tokens row)) c = row_low 300 0 c row before shallow (omega arith) in
    let (x, one, over) = one_too_many 300 c b m enters (low_end 300 0 c (joined (tokens row)) low) high in
    let whole : AllWhole (m.token ∷ rest) = whole_back (tokens row) (m.token ∷ rest) (subst AllWhole cut (pieces_whole bytes)) in
    let begins : Begins Text (tokens row ++ m.token ∷ []) = begins_front (tokens row ++ m.token ∷ []) (tokens tail) ([], u, (row ++ m ∷ tail, spelled, row_then row m tail)) in (
      deep_bytes bytes (joined (tokens row)) (piece_text m.token) (joined rest) x c (place_of bytes k) place (bytes_are bytes (tokens row) (m.token ∷ rest) cut) one low over,
      λ at syntax. subst (λ p. p < at) (sym place) (behind_deep (pieces bytes) (tokens row) rest m.token at cut begins whole.0 (syntax_pieces bytes at syntax)),
    )
