-- Scans: what is told of a row from a place on, whatever follows it. They are put together as rules are.
use Rattle.std.proofs.Common.{◌≡◌, ℕ, Bool, true, List, [], ◌∷◌, ◌++◌, refl, sym, ap, ◌∙◌, append_assoc, Option, Some}
use Rattle.ivory_lexer.specs.declared.Token.{Token}
use Rattle.ivory_lexer.specs.declared.TokenKind.{TokenKind}
use Rattle.reading.specs.Row.{Row, tokens}
use Rattle.reading.specs.Language.{Terminal}
use Rattle.reading.proofs.Rows.{tokens_append}
use Rattle.token_nesting.specs.Open.{Open, Before}
use Rattle.token_nesting.specs.Nesting.{nestings_from}
use Rattle.token_nesting.specs.Law.{depths}

-- a test of the token that follows; the end of the text passes
abbrev pub next : (TokenKind → Bool) → List Token → Bool
next test [] = true
next test (t ∷ ts) = test t.kind

abbrev pub anything : List Token → Bool
anything ts = true

-- what is told from this place on begins with what the row says, and goes on from that place, where what follows passes the test
pub record Scan (test : List Token → Bool) (b : Before) (os : List Open) (row : Row Token) (c : Before) (now : List Open) : Type 0 where
  pub told : (rest : List Token) → test rest ≡ true → nestings_from b os (tokens row ++ rest) ≡ depths row ++ nestings_from c now rest

depths_append : (f g : Row Token) → depths (f ++ g) ≡ depths f ++ depths g
depths_append [] g = refl
depths_append (m ∷ f) g = ap (λ x. m.depth ∷ x) (depths_append f g)

-- one row behind another
pub before_that : {p q : List Token → Bool} {a b c : Before} {os now end : List Open} {f g : Row Token} → Scan p a os f b now → Scan q b now g c end
    → ((rest : List Token) → q rest ≡ true → p (tokens g ++ rest) ≡ true) → Scan q a os (f ++ g) c end
before_that {p} {q} {a} {b} {c} {os} {now} {end} {f} {g} one two passes = record {
  told = λ rest e.
      ap (λ x. nestings_from a os x) (ap (λ x. x ++ rest) (tokens_append f g) ∙ append_assoc (tokens f) (tokens g) rest)
      ∙ one.told (tokens g ++ rest) (passes rest e)
      ∙ ap (λ x. depths f ++ x) (two.told rest e)
      ∙ sym (append_assoc (depths f) (depths g) (nestings_from c end rest))
      ∙ ap (λ x. x ++ nestings_from c end rest) (sym (depths_append f g));
}

-- where anything may follow the first
pub and : {q : List Token → Bool} {a b c : Before} {os now end : List Open} {f g : Row Token} → Scan anything a os f b now → Scan q b now g c end → Scan q a os (f ++ g) c end
and one two = before_that one two (λ rest e. refl)

-- with more that may not follow
pub stricter : {p q : List Token → Bool} {a c : Before} {os now : List Open} {f : Row Token} → Scan p a os f c now → ((rest : List Token) → q rest ≡ true → p rest ≡ true) → Scan q a os f c now
stricter one passes = record { told = λ rest e. one.told rest (passes rest e) }

-- to another place that tells the same of what follows
pub onward : {p : List Token → Bool} {a b c : Before} {os now end : List Open} {f : Row Token} → Scan p a os f b now
    → ((rest : List Token) → p rest ≡ true → nestings_from b now rest ≡ nestings_from c end rest) → Scan p a os f c end
onward {f} one same = record { told = λ rest e. one.told rest e ∙ ap (λ x. depths f ++ x) (same rest e) }

-- nothing at all
pub nothing : {p : List Token → Bool} {a : Before} {os : List Open} → Scan p a os [] a os
nothing = record { told = λ rest e. refl }

-- a test that the first token of a row passes

pub first_passes : {A : Type 0} {d : ℕ} (test : TokenKind → Bool) (select : Token → Option A) (x : A) (f : Row Token) → Terminal d select x f
    → ((t : Token) → select t ≡ Some x → test t.kind ≡ true) → (rest : List Token) → next test (tokens f ++ rest) ≡ true
first_passes test select x f (m, is, at, found) told rest = ap (λ y. next test (tokens y ++ rest)) is ∙ told m.token found

pub first_of_two : {A : Type 0} {d : ℕ} (test : TokenKind → Bool) (select : Token → Option A) (x : A) (f : Row Token) → Terminal d select x f
    → ((t : Token) → select t ≡ Some x → test t.kind ≡ true) → (g : Row Token) (rest : List Token) → next test (tokens (f ++ g) ++ rest) ≡ true
first_of_two test select x f (m, is, at, found) told g rest = ap (λ y. next test (tokens (y ++ g) ++ rest)) is ∙ told m.token found

-- ---- one token

pub scan_token : {A : Type 0} {n d : ℕ} (select : Token → Option A) (x : A) {p : List Token → Bool} {a c : Before} {os now : List Open} (f : Row Token) → n ≡ d
    → Terminal d select x f → ((t : Token) (rest : List Token) → select t ≡ Some x → p rest ≡ true → nestings_from a os (t ∷ rest) ≡ n ∷ nestings_from c now rest)
    → Scan p a os f c now
scan_token select x {p} {a} {c} {os} {now} f same (m, is, at, found) told = record {
  told = λ rest e.
      ap (λ y. nestings_from a os (tokens y ++ rest)) is
      ∙ told m.token rest found e
      ∙ ap (λ y. y ∷ nestings_from c now rest) (same ∙ sym at)
      ∙ ap (λ y. depths y ++ nestings_from c now rest) (sym is);
}
