-- Words of name tokens: what holds of the kind of each token of a row holds of each name that is told to be among them.
use Rattle.std.proofs.Common.{◌≡◌, List, [], ◌∷◌, ◌++◌, Option, Some, None, ap, subst}
use Rattle.std.specs.Prelude.{All}
use Rattle.std.proofs.lemmas.List.Elements.{All-nil, All-cons, All-append}
use Rattle.iv_words.specs.declared.Name.{Name}
use Rattle.iv_words.specs.declared.Span.{Span}
use Rattle.ivory_lexer.specs.declared.Token.{Token}
use Rattle.ivory_lexer.specs.declared.TokenKind.{TokenKind}
use Rattle.ivory_lexer.specs.declared.TokenKind.TheVariants as kind
use Rattle.ivory_tree.specs.Syntax.{Word}
use Rattle.reading.specs.Row.{Entry, Row}
use Rattle.expression_grammar.specs.Tokens.{word_of_kind, word_of, named, name_of}

-- of each token's kind
abbrev pub Each : (TokenKind → Type 0) → Row Token → Type 0
Each P [] = Unit {0}
Each P (m ∷ row) = P m.token.kind × Each P row

-- the names are words of tokens of the row
pub record Told (P : TokenKind → Type 0) (row : Row Token) (names : List Word) : Type 0 where
  pub all : Each P row → All (λ w. P (kind.Name w)) names

pub each_front : (P : TokenKind → Type 0) (f g : Row Token) → Each P (f ++ g) → Each P f
each_front P [] g e = tt
each_front P (m ∷ f) g e = (e.0, each_front P f g e.1)

pub each_back : (P : TokenKind → Type 0) (f g : Row Token) → Each P (f ++ g) → Each P g
each_back P [] g e = e
each_back P (m ∷ f) g e = each_back P f g e.1

-- the word of a token, and a name with its place

worded : (k : TokenKind) (w : Word) → word_of_kind k ≡ Some w → k ≡ kind.Name w
worded (kind.Name v) w e = let same : v ≡ w = cc in ap kind.Name same
worded _ w e = cc

named_word : (o : Option Word) (s : Span) (name : Name) → named o s ≡ Some name → o ≡ Some name.text
named_word None s name e = cc
named_word (Some w) s name e = let is : record { text = w; span = s } ≡ name = cc in ap (λ (n : Name). Some n.text) is

module _ {P : TokenKind → Type 0} where
  pub no_names : {row : Row Token} → Told P row []
  no_names = record { all = λ e. All-nil (λ w. P (kind.Name w)) }

  pub told_ahead : {f : Row Token} (g : Row Token) {ws : List Word} → Told P f ws → Told P (f ++ g) ws
  told_ahead {f} g t = record { all = λ e. t.all (each_front P f g e) }

  pub told_behind : (f : Row Token) {g : Row Token} {ws : List Word} → Told P g ws → Told P (f ++ g) ws
  told_behind f {g} t = record { all = λ e. t.all (each_back P f g e) }

  pub told_both : {row : Row Token} {vs ws : List Word} → Told P row vs → Told P row ws → Told P row (vs ++ ws)
  told_both {vs} {ws} t u = record { all = λ e. All-append (λ w. P (kind.Name w)) vs ws (t.all e) (u.all e) }

  pub told_then : {row : Row Token} {w : Word} {ws : List Word} → Told P row (w ∷ []) → Told P row ws → Told P row (w ∷ ws)
  told_then {w} {ws} t u = told_both t u

  pub told_word : {m : Entry Token} {f : Row Token} {w : Word} → f ≡ m ∷ [] → word_of m.token ≡ Some w → Told P f (w ∷ [])
  told_word {m} {f} {w} e is = record {
    all = λ each.
        let there : Each P (m ∷ []) = subst (Each P) e each in
        All-cons (λ w. P (kind.Name w)) w [] (subst P (worded m.token.kind w is) there.0) (All-nil (λ w. P (kind.Name w)));
  }

  pub told_name : {m : Entry Token} {f : Row Token} {name : Name} → f ≡ m ∷ [] → name_of m.token ≡ Some name → Told P f (name.text ∷ [])
  told_name {m} {name} e is = told_word e (named_word (word_of m.token) m.token.span name is)
