-- The limit of nesting by the tokens alone.
use Rattle.std.proofs.Common.{◌≡◌, ℕ, ◌≤◌, ◌<◌, Bool, true, List, [], ◌∷◌, ◌++◌, refl, sym, ap, ◌∙◌, subst, length}
use Rattle.ivory_lexer.specs.declared.Token.{Token}
use Rattle.ivory_lexer.specs.declared.TokenKind.{TokenKind}
use Rattle.ivory_lexer.specs.declared.TokenKind.TheVariants as kind
use Rattle.ivory_lexer.specs.declared.Mark.TheVariants as mark
use Rattle.ivory_lexer.specs.declared.Key.TheVariants as key
use Rattle.reading.specs.Row.{Entry, Row, tokens, Shallow, starts}
use Rattle.reading.specs.Exact.{Spelled, SpelledWithin, TooDeepAt}
use Rattle.reading.proofs.Rows.{tokens_append}
use Rattle.expression_grammar.specs.Tokens.{is_mark_kind, is_mark, is_number, signs}
use Rattle.module_grammar.specs.Modules.{Text}
use Rattle.token_nesting.specs.Open.{Open, Before}
use Rattle.token_nesting.specs.Nesting.{still_open, open_at, open_behind, behind, nestings_from, nestings}
use Rattle.token_nesting.specs.Law.{depths}
use Rattle.token_nesting.specs.Limit.{AllWithin, FirstAbove, BeginsUpTo, TokensTellWithin, TokensTellTooDeep}
use Rattle.token_nesting.proofs.Modules.{tokens_tell_nesting}

-- ---- rows

all_within : (limit : ℕ) (row : Row Token) → Shallow limit row → AllWithin limit (depths row)
all_within limit [] s = tt
all_within limit (m ∷ row) s = (s.0, all_within limit row s.1)

shallow : (limit : ℕ) (row : Row Token) → AllWithin limit (depths row) → Shallow limit row
shallow limit [] s = tt
shallow limit (m ∷ row) s = (s.0, shallow limit row s.1)

first_above : (limit : ℕ) (row : Row Token) (m : Entry Token) (tail : Row Token) → Shallow limit row → limit < m.depth → FirstAbove limit (depths (row ++ m ∷ tail)) (length (tokens row))
first_above limit [] m tail s deep = deep
first_above limit (n ∷ row) m tail s deep = (s.0, first_above limit row m tail s.1 deep)

-- the row of a list of tokens, cut at one of them
abbrev Cut : ℕ → Row Token → List Token → Token → List Token → Type 0
Cut limit all first t rest = (row : Row Token) × (m : Entry Token) × (tail : Row Token) × (all ≡ row ++ m ∷ tail) × (tokens row ≡ first) × (m.token ≡ t) × (tokens tail ≡ rest)
    × (FirstAbove limit (depths all) (length first) → Shallow limit row × (limit < m.depth))

further : (limit : ℕ) (n : Entry Token) (all : Row Token) (u : Token) (first : List Token) (t : Token) (rest : List Token) → n.token ≡ u → Cut limit all first t rest → Cut limit (n ∷ all) (u ∷ first) t rest
further limit n all u first t rest same (row, m, tail, is, before, here, others, tells) =
    (n ∷ row, m, tail, ap (λ x. n ∷ x) is, ap (λ x. n.token ∷ x) before ∙ ap (λ y. y ∷ first) same, here, others, λ above. let w = tells above.1 in ((above.0, w.0), w.1))

cut : (limit : ℕ) (all : Row Token) (first : List Token) (t : Token) (rest : List Token) → tokens all ≡ first ++ t ∷ rest → Cut limit all first t rest
cut limit [] [] t rest e = cc
cut limit [] (u ∷ first) t rest e = cc
cut limit (m ∷ all) [] t rest e =
    let same : m.token ≡ t = cc in
    let others : tokens all ≡ rest = cc in
    ([], m, all, refl, refl, same, others, λ above. (tt, above))
cut limit (n ∷ all) (u ∷ first) t rest e =
    let same : n.token ≡ u = cc in
    let others : tokens all ≡ first ++ t ∷ rest = cc in
    further limit n all u first t rest same (cut limit all first t rest others)

-- ---- what is told up to a token rests on no more than whether a number follows a `-`

open_same : (b : Before) (k : TokenKind) (n m : Bool) (os : List Open) → (is_mark_kind mark.Minus k ≡ true → n ≡ m) → open_at b k n os ≡ open_at b k m os
open_same b (kind.Mark mark.Minus) n m os same = ap (λ x. open_at b (kind.Mark mark.Minus) x os) (same refl)
open_same b (kind.Key key.KwIf) n m os same = refl
open_same b k n m os same = refl

number_ahead : (first : List Token) (t : Token) (tail rest : List Token) → starts is_number (first ++ t ∷ tail) ≡ starts is_number (first ++ t ∷ rest)
number_ahead [] t tail rest = refl
number_ahead (u ∷ first) t tail rest = refl

above_same : (limit : ℕ) (b : Before) (os : List Open) (first : List Token) (t : Token) (tail rest : List Token) → (is_mark mark.Minus t ≡ true → starts is_number tail ≡ starts is_number rest)
    → FirstAbove limit (nestings_from b os (first ++ t ∷ tail)) (length first) → FirstAbove limit (nestings_from b os (first ++ t ∷ rest)) (length first)
above_same limit b os [] t tail rest same above = subst (λ now. limit < length now) (open_same b t.kind (starts is_number tail) (starts is_number rest) (still_open b t.kind os) same) above
above_same limit b os (u ∷ first) t tail rest same above =
    let now = λ (n : Bool). open_at b u.kind n (still_open b u.kind os) in
    let n = starts is_number (first ++ t ∷ tail) in
    let ahead = number_ahead first t tail rest in (
      subst (λ m. length (now m) ≤ limit) ahead above.0,
      subst (λ m. FirstAbove limit (nestings_from (behind b u.kind (now m)) (open_behind u.kind (now m)) (first ++ t ∷ rest)) (length first)) ahead
          (above_same limit (behind b u.kind (now n)) (open_behind u.kind (now n)) first t tail rest same above.1),
    )

-- ---- the laws

pub tokens_tell_within : TokensTellWithin
tokens_tell_within limit x ts = (to, back)
  where
    to : SpelledWithin Text limit x ts → Spelled Text x ts × AllWithin limit (nestings ts)
    to (row, r, s, is) = ((row, r, is), subst (λ y. AllWithin limit (nestings y)) is (subst (AllWithin limit) (sym (tokens_tell_nesting x row r)) (all_within limit row s)))

    back : Spelled Text x ts × AllWithin limit (nestings ts) → SpelledWithin Text limit x ts
    back ((row, r, is), within) = (row, r, shallow limit row (subst (AllWithin limit) (ap (λ y. nestings y) (sym is) ∙ tokens_tell_nesting x row r) within), is)

pub tokens_tell_too_deep : TokensTellTooDeep
tokens_tell_too_deep limit ts i = (to, back)
  where
    to : TooDeepAt Text signs limit ts i → BeginsUpTo ts i × FirstAbove limit (nestings ts) i
    to (row, m, tail, rest, x, is, at, r, s, deep, fits) =
        let told = nestings (tokens (row ++ m ∷ tail)) in
        let whole : told ≡ depths (row ++ m ∷ tail) = tokens_tell_nesting x (row ++ m ∷ tail) r in
        let above = subst (λ ns. FirstAbove limit ns (length (tokens row))) (sym whole) (first_above limit row m tail s deep) in
        let cut_above = subst (λ y. FirstAbove limit (nestings y) (length (tokens row))) (tokens_append row (m ∷ tail)) above in (
          (tokens row, m.token, rest, tokens tail, x, is, at, (row ++ m ∷ tail, r, tokens_append row (m ∷ tail)), fits),
          subst (λ j. FirstAbove limit (nestings ts) j) (sym at) (subst (λ y. FirstAbove limit (nestings y) (length (tokens row))) (sym is) (above_same limit _ _ (tokens row) m.token (tokens tail) rest fits cut_above)),
        )

    back : BeginsUpTo ts i × FirstAbove limit (nestings ts) i → TooDeepAt Text signs limit ts i
    back ((first, t, rest, tail, x, is, at, (all, r, spelled), agree), above) =
        let (row, m, behind_it, parts, before, here, others, tells) = cut limit all first t tail spelled in
        let here_above = subst (λ y. FirstAbove limit (nestings y) (length first)) is (subst (λ j. FirstAbove limit (nestings ts) j) at above) in
        let there_above = above_same limit _ _ first t rest tail (λ minus. sym (agree minus)) here_above in
        let told : nestings (first ++ t ∷ tail) ≡ depths all = ap (λ y. nestings y) (sym spelled) ∙ tokens_tell_nesting x all r in
        let w = tells (subst (λ ns. FirstAbove limit ns (length first)) told there_above) in (
          row,
          m,
          behind_it,
          rest,
          x,
          is ∙ ap (λ y. y ++ t ∷ rest) (sym before) ∙ ap (λ u. tokens row ++ u ∷ rest) (sym here),
          at ∙ ap (λ y. length y) (sym before),
          subst (Text x) parts r,
          w.0,
          w.1,
          λ minus. ap (λ y. starts is_number y) others ∙ agree (ap (λ u. is_mark mark.Minus u) (sym here) ∙ minus),
        )
