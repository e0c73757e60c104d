-- What the tokens of an initializer tell, and of an area with one.
use Rattle.std.proofs.Common.{◌≡◌, ℕ, suc, true, List, ◌∷◌, ◌++◌, refl, sym, ap, ◌∙◌, subst, append_assoc, length, Option, Some, None}
use Rattle.iv_words.specs.declared.Span.{Span}
use Rattle.ivory_lexer.specs.declared.Token.{Token}
use Rattle.ivory_lexer.specs.declared.TokenKind.TheVariants as kind
use Rattle.ivory_lexer.specs.declared.Mark.TheVariants as mark
use Rattle.ivory_tree.specs.declared.InitText.{InitText}
use Rattle.ivory_tree.specs.declared.AreaText.{AreaText}
use Rattle.reading.specs.Row.{Row, tokens}
use Rattle.reading.specs.Language.{Terminal}
use Rattle.reading.proofs.Rows.{regroup}
use Rattle.expression_grammar.specs.Tokens.{symbol}
use Rattle.module_grammar.specs.Pieces.{Area, FirstValue}
use Rattle.module_grammar.specs.Inits as grammar
use Rattle.module_grammar.specs.Inits.{Symbol, init, further, Tree, Spells}
use Rattle.token_nesting.specs.Open.{Open, Bracket, Operand, Start, Value, Other}
use Rattle.token_nesting.specs.Nesting.{nestings_from}
use Rattle.token_nesting.proofs.Scan.{Scan, anything, and, before_that, stricter, onward, nothing}
use Rattle.token_nesting.proofs.Ends.{expression_stops}
use Rattle.token_nesting.proofs.Grounds.{ground, of_ground, ground_stays, behind_brace_same}
use Rattle.token_nesting.proofs.Tokens.{scan_mark}
use Rattle.token_nesting.proofs.Expressions.{scan_value, stops_alone, stops_at}
use Rattle.token_nesting.proofs.Types.{area_stops, area_stops_alone, area_stops_at, scan_area}

abbrev Told : (s : Symbol) → List Open → Row Token → Type 0
Told init os row = ground os ≡ true → Scan expression_stops Value os row Operand os
Told further os row = ground os ≡ true → Scan expression_stops Operand os row Operand os × ((rest : List Token) → expression_stops rest ≡ true → expression_stops (tokens row ++ rest) ≡ true)

told : (s : Symbol) (x : Tree s) (d : ℕ) (row : Row Token) → Spells s x d row → (os : List Open) → length os ≡ d → Told s os row
told further x d row grammar.none os at = λ h. (nothing, λ rest e. e)
told further x d row (grammar.more {x = y} {xs} {g} {h = i} t r rs) os at = λ h.
    let others = told further xs d i rs os at h in (
      and (scan_mark mark.Comma at t (λ s rest. ap (λ x. length x ∷ nestings_from Value x rest) (ground_stays (kind.Mark mark.Comma) os h))) (before_that (told init y d g r os at h) others.0 others.1),
      λ rest e. stops_at mark.Comma t refl _ rest,
    )
told init x d row (grammar.one r) os at = λ h. scan_value at (of_ground os h) r
told init x d row (grammar.empty t u) os at = λ h.
    onward (stricter (and (scan_mark mark.OpenBrace (ap suc at) t (λ s rest. refl)) (scan_mark mark.CloseBrace (ap suc at) u (λ s rest. refl))) (λ rest e. refl)) (behind_brace_same os h)
told init x d row (grammar.listed {x = y} {xs} {g} {h = i} t r rs u) os at = λ h.
    let others = told further xs (suc d) i rs (Bracket ∷ os) (ap suc at) refl in
    let end = before_that others.0 (scan_mark mark.CloseBrace (ap suc at) u (λ s rest. refl)) (λ rest e. stops_alone mark.CloseBrace u refl rest) in
    onward (stricter (and (scan_mark mark.OpenBrace (ap suc at) t (λ s rest. refl)) (before_that (told init y (suc d) g r (Bracket ∷ os) (ap suc at) refl) end (λ rest e. ap expression_stops (regroup i _ rest) ∙ others.1 _ (stops_alone mark.CloseBrace u refl rest)))) (λ rest e. refl)) (behind_brace_same os h)

pub scan_init : {d : ℕ} {x : InitText} {f : Row Token} {os : List Open} → length os ≡ d → ground os ≡ true → Spells init x d f → Scan expression_stops Value os f Operand os
scan_init {d} {x} {f} {os} at h r = told init x d f r os at h

-- what follows an area: perhaps `=` and an initializer, and a `;`

first_value : {d : ℕ} {x : Span} {os : List Open} (o : Option InitText) (f : Row Token) {g : Row Token} → length os ≡ d → ground os ≡ true → FirstValue d o f → Terminal d (symbol mark.Semicolon) x g
    → Scan anything Operand os (f ++ g) Start os
first_value {os = os} None f {g} at h e u =
    subst (λ f. Scan anything Operand os (f ++ g) Start os) (sym e) (scan_mark mark.Semicolon at u (λ s rest. ap (λ x. length x ∷ nestings_from Start x rest) (ground_stays (kind.Mark mark.Semicolon) os h)))
first_value {os = os} (Some v) f {g} at h (w, i, j, is, t, r) u =
    before_that (subst (λ f. Scan expression_stops Operand os f Operand os) (sym is) (and (scan_mark mark.Assign at t (λ s rest. ap (λ x. length x ∷ nestings_from Value x rest) (ground_stays (kind.Mark mark.Assign) os h))) (scan_init at h r)))
    (scan_mark mark.Semicolon at u (λ s rest. ap (λ x. length x ∷ nestings_from Start x rest) (ground_stays (kind.Mark mark.Semicolon) os h)))
    (λ rest e. stops_alone mark.Semicolon u refl rest)

first_value_stops : {d : ℕ} {x : Span} (o : Option InitText) (f : Row Token) {g : Row Token} → FirstValue d o f → Terminal d (symbol mark.Semicolon) x g → (rest : List Token) → area_stops (tokens (f ++ g) ++ rest) ≡ true
first_value_stops None f {g} e u rest = ap (λ f. area_stops (tokens (f ++ g) ++ rest)) e ∙ area_stops_alone mark.Semicolon u refl rest
first_value_stops (Some v) f {g} (w, i, j, is, t, r) u rest =
    ap (λ f. area_stops (tokens (f ++ g) ++ rest)) is ∙ ap (λ y. area_stops (tokens y ++ rest)) (append_assoc i j g) ∙ area_stops_at mark.Assign t refl (j ++ g) rest

-- an area with what follows it
pub scan_area_and_value : {d : ℕ} {x : Span} {a : AreaText} {os : List Open} (o : Option InitText) (f : Row Token) {e g : Row Token} → length os ≡ d → ground os ≡ true → Area d a e → FirstValue d o f
    → Terminal d (symbol mark.Semicolon) x g → Scan anything Other os (e ++ (f ++ g)) Start os
scan_area_and_value o f at h r v u = before_that (scan_area at r) (first_value o f at h v u) (λ rest e. first_value_stops o f v u rest)
