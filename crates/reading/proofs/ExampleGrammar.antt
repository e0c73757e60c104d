-- The small grammar of specs/Example: its readers are good, so that its parser is exact.
use Rattle.std.proofs.Common.{◌≡◌, ℕ, zero, suc, ◌+◌, ◌≤◌, Bool, true, false, List, [], ◌∷◌, ◌++◌, inl, inr, refl, sym, ap, ◌∙◌, subst, append_assoc, arith, Option, Some, None}
use Rattle.reading.specs.Row.{Entry, Row, tokens, starts}
use Rattle.reading.specs.Language.{Language, Terminal, Mapped, After, Either, Many, Separated, Closed, Nested, Prefixed, passing}
use Rattle.reading.specs.Reader.{Reader}
use Rattle.reading.specs.Good.{Good}
use Rattle.reading.specs.Exact.{Spelled, Exact}
use Rattle.reading.specs.Example.{Letter, Name, Number, Minus, Comma, OpenBracket, CloseBracket, Value, Named, Signed, Negative, Nothing, list_of, name_of, number_of, is_name, is_number, is_minus, is_comma, is_open, is_close, signs, Symbol, value, values, Tree, Spells, named, positive, signed, negative, nothing, list, last, next, Text, items, operand_with, read_with, read, parse}
use Rattle.reading.proofs.Rows.{append_nil, back_nil, split_at}
use Rattle.reading.proofs.Same.{none, good_as, good_map}
use Rattle.reading.proofs.Tokens.{good_accept}
use Rattle.reading.proofs.Sequence.{good_after}
use Rattle.reading.proofs.Starts.{StartsWith, starts_then, starts_terminal, starts_mapped, starts_either, starts_prefixed, starts_as, starts_apart, either, passing_passes, passing_some, terminal_nonempty}
use Rattle.reading.proofs.Choice.{good_choice}
use Rattle.reading.proofs.Plain.{Plain, plain_terminal, plain_mapped, plain_either, plain_last, ends_in_terminal}
use Rattle.reading.proofs.Nesting.{Within, barred_within, read_within, Below, barred_there, read_there, good_nested}
use Rattle.reading.proofs.Lists.{good_closed}
use Rattle.reading.proofs.SignChoice.{Others}
use Rattle.reading.proofs.Literals.{others_literal, others_mapped, others_either}
use Rattle.reading.proofs.Prefix.{good_prefixed}
use Rattle.reading.proofs.Exactness.{exact, one_value}

-- ---- the productions, put together from languages

abbrev Rule : (s : Symbol) → ℕ → Language Letter (Tree s)
Rule s d v row = Spells s v d row

abbrev Signed_ : ℕ → Language Letter Value
Signed_ d = Mapped (Signed true) (After (Terminal d (passing is_minus)) (Terminal d number_of))

abbrev Inside : ℕ → Letter → Language Letter Value
Inside d _ = Mapped (λ (p : List Value × Letter). list_of p.0) (Closed (Terminal (suc d) (passing is_comma)) (Rule value (suc d)) (Terminal (suc d) (passing is_close)))

abbrev Operand : ℕ → Language Letter Value
Operand d = Either (Signed_ d) (Either (Mapped (Signed false) (Terminal d number_of)) (Either (Mapped Named (Terminal d name_of)) (Nested d (passing is_open) (Inside d))))

abbrev Production : ℕ → Language Letter Value
Production d = Either (Prefixed signs d (λ x _. Negative x) (Rule value (suc d))) (Operand d)

told : {v w : Value} {d : ℕ} {row row2 : Row Letter} → v ≡ w → row ≡ row2 → Spells value w d row2 → Spells value v d row
told {w = w} {d} {row} is e r = subst (λ x. Spells value x d row) (sym is) (subst (λ y. Spells value w d y) (sym e) r)

-- one value, and each further one behind a comma
to_values : (d : ℕ) (x : Value) (more : List Value) (f g : Row Letter) → Spells value x d f → Many (After (Terminal d (passing is_comma)) (Rule value d)) more g → Spells values (x ∷ more) d (f ++ g)
to_values d x [] f g r e = subst (Spells values (x ∷ []) d) (sym (ap (λ y. f ++ y) e ∙ append_nil f)) (last r)
to_values d x (y ∷ ys) f g r (g1, g2, e, (t, h1, h2, e2, comma, ry), others) =
    let row_is : g ≡ h1 ++ (h2 ++ g2) = e ∙ ap (λ z. z ++ g2) e2 ∙ append_assoc h1 h2 g2 in
    subst (λ z. Spells values (x ∷ y ∷ ys) d (f ++ z)) (sym row_is) (next r comma (to_values d y ys h2 g2 ry others))

from_values : (d : ℕ) (xs : List Value) (row : Row Letter) → Spells values xs d row → Separated (Terminal d (passing is_comma)) (Rule value d) xs row
from_values d xs row (last {x} {f} r) = (x, f, [], sym (append_nil f), r, ([], refl, refl))
from_values d xs row (next {t} {x} {xs = ys} {f} {g} {h} r comma rs) =
    let w = from_values d ys h rs in
    let row_is : g ++ h ≡ (g ++ w.1) ++ w.2 = ap (λ z. g ++ z) w.3 ∙ sym (append_assoc g w.1 w.2) in
    let others : Many (After (Terminal d (passing is_comma)) (Rule value d)) (w.0 ∷ w.5.0) (g ++ h) = (g ++ w.1, w.2, row_is, (t, g, w.1, refl, comma, w.4), w.5.1) in
    (x, f, g ++ h, refl, r, (ys, subst (λ z. Many (After (Terminal d (passing is_comma)) (Rule value d)) z (g ++ h)) (sym w.5.2) others, refl))

nonempty : (d : ℕ) (v : Value) (row : Row Letter) → Spells value v d row → row ≡ [] → ⊥
nonempty d v row (named {f} t) e = terminal_nonempty name_of f t [] (sym e ∙ sym (append_nil f))
nonempty d v row (positive {f} t) e = terminal_nonempty number_of f t [] (sym e ∙ sym (append_nil f))
nonempty d v row (signed {f} {g} t u) e = terminal_nonempty (passing is_minus) f t g (sym e)
nonempty d v row (negative {f} {g} t r isnt) e = terminal_nonempty (passing is_minus) f t g (sym e)
nonempty d v row (nothing {f} {g} t u) e = terminal_nonempty (passing is_open) f t g (sym e)
nonempty d v row (list {f} {g} {h} t r u) e = terminal_nonempty (passing is_open) f t (g ++ h) (sym e)

to_value : (d : ℕ) (v : Value) (row : Row Letter) → Production d v row → Spells value v d row
to_value d v row (inl (x, m, n, g, e, at, is, isnt, r, v_is)) = told v_is e (negative (m, refl, at, passing_some is_minus m.token is) r isnt)
to_value d v row (inr (inl (n, (t, f, g, e, a, b), is))) = told is e (signed a b)
to_value d v row (inr (inr (inl (n, t, is)))) = told is refl (positive t)
to_value d v row (inr (inr (inr (inl (n, t, is))))) = told is refl (named t)
to_value d v row (inr (inr (inr (inr (t, f, g, e, a, (p, inl (u, b, p_is), is)))))) = told (is ∙ ap (λ q. list_of q.0) p_is) e (nothing a b)
to_value d v row (inr (inr (inr (inr (t, f, g, e, a, (p, inr (xs, g1, h, e1, (x, f2, g2, e2, r, (more, many, are)), (u, b, p_is)), is)))))) =
    let inside : Spells values xs (suc d) g1 = subst (λ y. Spells values y (suc d) g1) (sym are) (subst (Spells values (x ∷ more) (suc d)) (sym e2) (to_values (suc d) x more f2 g2 r many)) in
    told (is ∙ ap (λ q. list_of q.0) p_is) (e ∙ ap (λ y. f ++ y) e1) (list a inside b)

from_negative : (d : ℕ) (t : Letter) (x : Value) (f g : Row Letter) → Terminal (suc d) (passing is_minus) t f → Spells value x (suc d) g → starts is_number (tokens g) ≡ false
    → Prefixed signs d (λ x _. Negative x) (Rule value (suc d)) (Negative x) (f ++ g)
from_negative d t x f [] a r isnt = absurd (nonempty (suc d) x [] r refl)
from_negative d t x f (n ∷ g) (m, e, at, sel) r isnt = (x, m, n, g, ap (λ y. y ++ n ∷ g) e, at, passing_passes is_minus m.token t sel, isnt, r, refl)

from_value : (d : ℕ) (v : Value) (row : Row Letter) → Spells value v d row → Production d v row
from_value d v row (named {n} t) = inr (inr (inr (inl (n, t, refl))))
from_value d v row (positive {n} t) = inr (inr (inl (n, t, refl)))
from_value d v row (signed {n} {t} {f} {g} a b) = inr (inl (n, (t, f, g, refl, a, b), refl))
from_value d v row (negative {t} {x} {f} {g} a r isnt) = inl (from_negative d t x f g a r isnt)
from_value d v row (nothing {t} {u} {f} {g} a b) = inr (inr (inr (inr (t, f, g, refl, a, (([], u), inl (u, b, refl), refl)))))
from_value d v row (list {t} {u} {xs} {f} {g} {h} a r b) = inr (inr (inr (inr (t, f, g ++ h, refl, a, ((xs, u), inr (xs, g, h, refl, from_values (suc d) xs g r, (u, b, refl)), refl)))))

-- ---- with what a value begins and ends

number_passes : (t : Letter) (n : ℕ) → number_of t ≡ Some n → is_number t ≡ true
number_passes (Number m) n e = refl
number_passes _ n e = cc

name_passes : (t : Letter) (n : ℕ) → name_of t ≡ Some n → is_name t ≡ true
name_passes (Name m) n e = refl
name_passes _ n e = cc

abbrev begins : Letter → Bool
begins = either is_minus (either is_minus (either is_number (either is_name is_open)))

starts_list : (d : ℕ) → StartsWith is_open (Nested d (passing is_open) (Inside d))
starts_list d = starts_then (starts_terminal is_open (passing_passes is_open))

starts_name : (d : ℕ) → StartsWith (either is_name is_open) (Either (Mapped Named (Terminal d name_of)) (Nested d (passing is_open) (Inside d)))
starts_name d = starts_either is_name is_open (starts_mapped Named (starts_terminal is_name name_passes)) (starts_list d)

starts_number : (d : ℕ) → StartsWith (either is_number (either is_name is_open)) (Either (Mapped (Signed false) (Terminal d number_of)) (Either (Mapped Named (Terminal d name_of)) (Nested d (passing is_open) (Inside d))))
starts_number d = starts_either is_number (either is_name is_open) (starts_mapped (Signed false) (starts_terminal is_number number_passes)) (starts_name d)

starts_sign : (d : ℕ) → StartsWith is_minus (Signed_ d)
starts_sign d = starts_mapped (Signed true) (starts_then (starts_terminal is_minus (passing_passes is_minus)))

starts_value : (d : ℕ) → StartsWith begins (Rule value d)
starts_value d = starts_as (from_value d) (starts_either is_minus (either is_minus (either is_number (either is_name is_open))) (starts_prefixed signs d (λ x _. Negative x) (Rule value (suc d)))
    (starts_either is_minus (either is_number (either is_name is_open)) (starts_sign d) (starts_number d)))

name_plain : (t : Letter) (n : ℕ) → name_of t ≡ Some n → is_minus t ≡ false
name_plain (Name m) n e = refl
name_plain _ n e = cc

number_plain : (t : Letter) (n : ℕ) → number_of t ≡ Some n → is_minus t ≡ false
number_plain (Number m) n e = refl
number_plain _ n e = cc

close_plain : (t u : Letter) → passing is_close t ≡ Some u → is_minus t ≡ false
close_plain CloseBracket u e = refl
close_plain _ u e = cc

open_plain : (t u : Letter) → passing is_open t ≡ Some u → is_minus t ≡ false
open_plain OpenBracket u e = refl
open_plain _ u e = cc

value_ends : (d : ℕ) (v : Value) (whole_row : Row Letter) → Spells value v d whole_row → (row : Row Letter) (m : Entry Letter) → whole_row ≡ row ++ m ∷ [] → is_minus m.token ≡ false
value_ends d v whole_row (named {n} {f} t) row m e = ends_in_terminal signs _ name_of name_plain n [] f row m t e
value_ends d v whole_row (positive {n} {f} t) row m e = ends_in_terminal signs _ number_of number_plain n [] f row m t e
value_ends d v whole_row (signed {n} {t} {f} {g} a b) row m e = ends_in_terminal signs _ number_of number_plain n f g row m b e
value_ends d v whole_row (negative {t} {x} {f} {g} a r isnt) row m e = elim (split_at row m [] f g (sym e)) [
  | inl (h, here, there) ↦ value_ends (suc d) x g r h m there
  | inr (h, here, there) ↦ absurd (nonempty (suc d) x g r (back_nil h g there))
]
value_ends d v whole_row (nothing {t} {u} {f} {g} a b) row m e = ends_in_terminal signs _ (passing is_close) close_plain u f g row m b e
value_ends d v whole_row (list {t} {u} {xs} {f} {g} {h} a r b) row m e = ends_in_terminal signs _ (passing is_close) close_plain u (f ++ g) h row m b (append_assoc f g h ∙ e)

plain_value : (d : ℕ) → Plain signs (Rule value d)
plain_value d = record { ends = λ v row m r. value_ends d v (row ++ m ∷ []) r row m refl }

-- ---- tokens that exclude each other

not_close : (t : Letter) → begins t ≡ true → is_close t ≡ false
not_close CloseBracket e = cc
not_close _ e = refl

close_stops : (t : Letter) → is_close t ≡ true → is_comma t ≡ false
close_stops CloseBracket e = refl
close_stops _ e = cc

not_minus : (t : Letter) → either is_number (either is_name is_open) t ≡ true → is_minus t ≡ false
not_minus Minus e = cc
not_minus _ e = refl

not_number : (t : Letter) → either is_name is_open t ≡ true → is_number t ≡ false
not_number (Number n) e = cc
not_number _ e = refl

not_name : (t : Letter) → is_open t ≡ true → is_name t ≡ false
not_name OpenBracket e = refl
not_name _ e = cc

-- ---- the readers

a_name : (d : ℕ) → (x : Value) × (n : Entry Letter) × (g : Row Letter) × Spells value x d (n ∷ g) × (is_number n.token ≡ false)
a_name d = let m : Entry Letter = record { token = Name 0; depth = d } in (Named 0, m, [], named (m, refl, refl, refl), refl)

no_value : (d : ℕ) (t : Letter) → (v : Value) × (row : Row Letter) × Inside d t v row
no_value d t =
    let m : Entry Letter = record { token = CloseBracket; depth = suc d } in
    (Nothing, m ∷ [], (([], CloseBracket), inl (CloseBracket, (m, refl, refl, refl), refl), refl))

plain_inside : (d : ℕ) (t : Letter) → Plain signs (Inside d t)
plain_inside d t = plain_mapped (λ (p : List Value × Letter). list_of p.0)
    (plain_either (plain_mapped (λ c. ([], c)) (plain_terminal close_plain))
    (plain_last (λ xs. plain_mapped (λ c. (xs, c)) (plain_terminal close_plain)) (λ xs b (c, r, is). terminal_nonempty (passing is_close) [] r [] refl)))

module _ (limit d : ℕ) (fits : d ≤ limit) where
  good_items : (inner : Option (Reader Letter Value)) → Within signs limit d none (Rule value (suc d)) inner → Below signs limit d none (Inside d) (items inner)
  good_items None (barred_within deeper) = barred_there deeper
  good_items (Some p) (read_within deeper_fits good) = read_there deeper_fits (λ _. good_map (λ (p : List Value × Letter). list_of p.0)
      (good_closed {wide = is_comma} {element = begins} (good_accept (passing is_close) deeper_fits CloseBracket CloseBracket refl) (starts_terminal is_close (passing_passes is_close))
      (good_accept (passing is_comma) deeper_fits Comma Comma refl) (starts_terminal is_comma (passing_passes is_comma)) good (starts_value (suc d))
      (λ t e. refl) (λ t e. e) (λ t e. cc) close_stops not_close))

  good_operand : (inner : Option (Reader Letter Value)) → Within signs limit d none (Rule value (suc d)) inner → Good signs limit none (Operand d) (operand_with inner)
  good_operand inner within =
      good_choice is_minus (either is_number (either is_name is_open)) not_minus
      (good_map (Signed true) (good_after (good_accept (passing is_minus) fits Minus Minus refl) (good_accept number_of fits 0 (Number 0) refl))) (starts_sign d)
      (good_choice is_number (either is_name is_open) not_number
      (good_map (Signed false) (good_accept number_of fits 0 (Number 0) refl)) (starts_mapped (Signed false) (starts_terminal is_number number_passes))
      (good_choice is_name is_open not_name
      (good_map Named (good_accept name_of fits 0 (Name 0) refl)) (starts_mapped Named (starts_terminal is_name name_passes))
      (good_nested (good_items inner within) (no_value d) open_plain (plain_inside d) OpenBracket OpenBracket refl) (starts_list d))
      (starts_name d))
      (starts_number d)

  others : Others signs limit (Operand d)
  others = others_either
      (others_mapped (Signed true) (others_literal (passing is_minus) number_of fits number_passes (λ t is. (t, passing_some is_minus t is)) (0, Number 0, refl)))
      (starts_apart is_minus not_minus (starts_number d)) (starts_number d).nonempty

  good_with : (inner : Option (Reader Letter Value)) → Within signs limit d none (Rule value (suc d)) inner → Good signs limit none (Rule value d) (read_with inner)
  good_with inner within =
      good_as (to_value d) (from_value d)
      (good_prefixed (passing is_minus) (λ x _. Negative x) (passing_passes is_minus) (λ t is. (t, passing_some is_minus t is)) (Minus, refl)
      (λ x r. nonempty (suc d) x [] r refl) (a_name (suc d)) (plain_value (suc d)) within (good_operand inner within) others)

good_read : (limit k d : ℕ) → d + k ≡ limit → Good signs limit none (Rule value d) (read k)
unfolding read
good_read limit zero d e = good_with limit d (omega arith) None (barred_within (omega arith))
good_read limit (suc k) d e = good_with limit d (omega arith) (Some (read k)) (read_within (omega arith) (good_read limit k (suc d) (omega arith)))

pub parse_exact : (limit : ℕ) → Exact signs limit Text (parse limit)
parse_exact limit = exact (good_read limit limit 0 (omega arith))

pub one_tree : (x y : Value) (ts : List Letter) → Spelled Text x ts → Spelled Text y ts → x ≡ y
one_tree x y ts = one_value Text parse parse_exact x y ts
