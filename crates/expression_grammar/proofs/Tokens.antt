-- What a test or the value of a token tells of the token, so that each other test of it computes.
use Rattle.std.proofs.Common.{◌≡◌, ℕ, Bool, true, false, refl, sym, ap, ◌∙◌, Option, Some, None, is_some}
use Rattle.iv_words.specs.declared.Span.{Span}
use Rattle.iv_words.specs.declared.Name.{Name}
use Rattle.ivory_lexer.specs.declared.Token.{Token}
use Rattle.ivory_lexer.specs.declared.TokenKind.{TokenKind}
use Rattle.ivory_lexer.specs.declared.TokenKind.TheVariants as kind
use Rattle.ivory_lexer.specs.declared.Mark.{Mark}
use Rattle.ivory_lexer.specs.declared.Key.{Key}
use Rattle.ivory_tree.specs.Syntax.{Word}
use Rattle.ivory_lexer.specs.Same.{same_key, same_mark}
use Rattle.expression_grammar.specs.Tokens.{is_mark_kind, is_key_kind, is_mark, is_key, span_where, symbol, keyword, named, word_of_kind, word_of, name_of, number_of_kind, number_of, is_name, is_number}
use Rattle.ivory_lexer.proofs.Same.{same_mark_equal, same_key_equal}

-- a token of this kind
abbrev pub token : TokenKind → Span → Token
token k s = record { kind = k; span = s }

abbrev pub marked : Mark → Span → Token
marked m s = token (kind.Mark m) s

abbrev pub keyed : Key → Span → Token
keyed k s = token (kind.Key k) s

-- ---- the kind behind a test

mark_kind : (a : Mark) (k : TokenKind) → is_mark_kind a k ≡ true → k ≡ kind.Mark a
mark_kind a (kind.Mark m) e = ap kind.Mark (sym (same_mark_equal a m e))
mark_kind a _ e = cc

key_kind : (a : Key) (k : TokenKind) → is_key_kind a k ≡ true → k ≡ kind.Key a
key_kind a (kind.Key m) e = ap kind.Key (sym (same_key_equal a m e))
key_kind a _ e = cc

word_kind : (k : TokenKind) (w : Word) → word_of_kind k ≡ Some w → k ≡ kind.Name w
word_kind (kind.Name v) w e = let same : v ≡ w = cc in ap kind.Name same
word_kind _ w e = cc

number_kind : (k : TokenKind) (n : ℕ) → number_of_kind k ≡ Some n → k ≡ kind.Number n
number_kind (kind.Number m) n e = let same : m ≡ n = cc in ap kind.Number same
number_kind _ n e = cc

pub is_marked : (a : Mark) (t : Token) → is_mark a t ≡ true → t ≡ marked a t.span
is_marked a t e = ap (λ k. token k t.span) (mark_kind a t.kind e)

pub is_keyed : (a : Key) (t : Token) → is_key a t ≡ true → t ≡ keyed a t.span
is_keyed a t e = ap (λ k. token k t.span) (key_kind a t.kind e)

pub is_worded : (w : Word) (t : Token) → word_of t ≡ Some w → t ≡ token (kind.Name w) t.span
is_worded w t e = ap (λ k. token k t.span) (word_kind t.kind w e)

pub is_numbered : (n : ℕ) (t : Token) → number_of t ≡ Some n → t ≡ token (kind.Number n) t.span
is_numbered n t e = ap (λ k. token k t.span) (number_kind t.kind n e)

-- ---- a value passes its test

pub found_some : {A : Type 0} (o : Option A) (x : A) → o ≡ Some x → is_some o ≡ true
found_some o x e = ap is_some e

pub some_found : {A : Type 0} (o : Option A) → is_some o ≡ true → (x : A) × (o ≡ Some x)
some_found (Some x) e = (x, refl)
some_found None e = cc

stood : (b : Bool) (t : Token) (s : Span) → span_where b t ≡ Some s → b ≡ true
stood true t s e = refl
stood false t s e = cc

pub symbol_passes : (a : Mark) (t : Token) (s : Span) → symbol a t ≡ Some s → is_mark a t ≡ true
symbol_passes a t s e = stood (is_mark a t) t s e

pub keyword_passes : (a : Key) (t : Token) (s : Span) → keyword a t ≡ Some s → is_key a t ≡ true
keyword_passes a t s e = stood (is_key a t) t s e

pub symbol_some : (a : Mark) (t : Token) → is_mark a t ≡ true → symbol a t ≡ Some t.span
symbol_some a t e = ap (λ b. span_where b t) e

pub keyword_some : (a : Key) (t : Token) → is_key a t ≡ true → keyword a t ≡ Some t.span
keyword_some a t e = ap (λ b. span_where b t) e

pub number_passes : (t : Token) (n : ℕ) → number_of t ≡ Some n → is_number t ≡ true
number_passes t n e = ap is_some e

pub word_passes : (t : Token) (w : Word) → word_of t ≡ Some w → is_name t ≡ true
word_passes t w e = ap is_some e

named_some : (o : Option Word) (s : Span) (x : Name) → named o s ≡ Some x → is_some o ≡ true
named_some (Some w) s x e = refl
named_some None s x e = cc

pub name_passes : (t : Token) (x : Name) → name_of t ≡ Some x → is_name t ≡ true
name_passes t x e = named_some (word_of t) t.span x e

-- ---- any test of a token by what is known of it

module _ {X : Type 0} (f : Token → X) (b : X) where
  pub at_mark : (a : Mark) → ((s : Span) → f (marked a s) ≡ b) → (t : Token) → is_mark a t ≡ true → f t ≡ b
  at_mark a computes t e = ap f (is_marked a t e) ∙ computes t.span

  pub at_key : (a : Key) → ((s : Span) → f (keyed a s) ≡ b) → (t : Token) → is_key a t ≡ true → f t ≡ b
  at_key a computes t e = ap f (is_keyed a t e) ∙ computes t.span

  pub at_number : ((n : ℕ) (s : Span) → f (token (kind.Number n) s) ≡ b) → (t : Token) → is_number t ≡ true → f t ≡ b
  at_number computes t e = let w = some_found (number_of t) e in ap f (is_numbered w.0 t w.1) ∙ computes w.0 t.span

  pub at_name : ((w : Word) (s : Span) → f (token (kind.Name w) s) ≡ b) → (t : Token) → is_name t ≡ true → f t ≡ b
  at_name computes t e = let w = some_found (word_of t) e in ap f (is_worded w.0 t w.1) ∙ computes w.0 t.span

-- a test that excludes another
pub otherwise : (x y : Bool) → y ≡ true → (x ≡ true → y ≡ false) → x ≡ false
otherwise true y e h = let isnt : y ≡ false = h refl in cc
otherwise false y e h = refl

-- where a test is false at all tokens of one kind, a token that passes it is of none of them
module _ (f : Token → Bool) where
  pub not_mark : (a : Mark) → ((s : Span) → f (marked a s) ≡ false) → (t : Token) → f t ≡ true → is_mark a t ≡ false
  not_mark a computes t e = otherwise (is_mark a t) (f t) e (at_mark f false a computes t)

  pub not_key : (a : Key) → ((s : Span) → f (keyed a s) ≡ false) → (t : Token) → f t ≡ true → is_key a t ≡ false
  not_key a computes t e = otherwise (is_key a t) (f t) e (at_key f false a computes t)

  pub not_number : ((n : ℕ) (s : Span) → f (token (kind.Number n) s) ≡ false) → (t : Token) → f t ≡ true → is_number t ≡ false
  not_number computes t e = otherwise (is_number t) (f t) e (at_number f false computes t)

  pub not_name : ((w : Word) (s : Span) → f (token (kind.Name w) s) ≡ false) → (t : Token) → f t ≡ true → is_name t ≡ false
  not_name computes t e = otherwise (is_name t) (f t) e (at_name f false computes t)

-- two marks, and two keywords

pub mark_or : (a b : Mark) (t : Token) → is_mark a t ≡ true → is_mark b t ≡ same_mark b a
mark_or a b = at_mark (is_mark b) (same_mark b a) a (λ s. refl)

pub key_or : (a b : Key) (t : Token) → is_key a t ≡ true → is_key b t ≡ same_key b a
key_or a b = at_key (is_key b) (same_key b a) a (λ s. refl)
