-- What the rules know of a type and of a name, the typing knows too.
use Rattle.std.proofs.Common.{◌≡◌, ℕ, suc, ◌+◌, List, [], ◌∷◌, Bool, true, false, cond, Option, Some, None, option_map, option_and_then, slice_get, arith, refl, sym, ap, ◌∙◌}
use Rattle.std.specs.List.{find, position_from}
use Rattle.iv_words.specs.Words.{same_word}
use Rattle.ivory_tree.specs.Syntax.{Word, ExprSyntax}
use Rattle.area_types.specs.Syntax.{ValueType}
use Rattle.area_types.specs.View.{type_of}
use Rattle.rule_faults.specs.Types.{own_type}
use Rattle.typing_rules.specs.Environments as typing
use Rattle.typing_rules.specs.ExpressionCores.{type_or, own}
use Rattle.rule_checker.specs.Contexts as checker
use Rattle.rule_checker.specs.declared.Local.{Local}
use Rattle.core_maker.specs.Places.{scope_of, env_of, Agrees}
use Rattle.core_maker.specs.declared.place.Place.{Place}

pub own_is : (p : Place) (e : ExprSyntax) {o : Option ValueType} → Agrees p → o ≡ own_type (checker.context_of p.context) e → type_or o ≡ own (env_of p) e
own_is p e a h = ap type_or h ∙ ap (λ c. type_or (own_type c e)) (sym a.known)

one_more : (i : ℕ) → i + 1 ≡ suc i
one_more i = omega arith

shifted : {A : Type 0} (f : A → Bool) (i : ℕ) (xs : List A) → position_from f (i + 1) xs ≡ option_map suc (position_from f i xs)
shifted f i [] = refl
shifted f i (x ∷ xs) = go (f x) (shifted f (i + 1) xs)
  where
    go : (b : Bool) → position_from f (i + 1 + 1) xs ≡ option_map suc (position_from f (i + 1) xs) → cond b (Some (i + 1)) (position_from f (i + 1 + 1) xs) ≡ option_map suc (cond b (Some i) (position_from f (i + 1) xs))
    go true h = ap Some (one_more i)
    go false h = h

abbrev no_numbers : List ℕ
no_numbers = []

none_of : (o : Option ℕ) → None ≡ option_and_then (slice_get no_numbers) o
none_of None = refl
none_of (Some k) = refl

behind : (n : ℕ) (ns : List ℕ) (o : Option ℕ) → option_and_then (slice_get ns) o ≡ option_and_then (slice_get (n ∷ ns)) (option_map suc o)
behind n ns None = refl
behind n ns (Some k) = refl

abbrev numbers_found : Word → List Local → List ℕ → Option ℕ
numbers_found name ls ns = option_map (λ (l : typing.Local). l.number) (find (λ (l : typing.Local). same_word l.name name) (scope_of ls ns))

abbrev place_of : ℕ → Word → List Local → Option ℕ
place_of i name ls = position_from (λ (l : Local). same_word l.name name) i ls

first_or : (name : Word) (ls : List Local) (n : ℕ) (ns : List ℕ) (x : typing.Local) → x.number ≡ n → (b : Bool) → numbers_found name ls ns ≡ option_and_then (slice_get ns) (place_of 0 name ls)
    → option_map (λ (y : typing.Local). y.number) (cond b (Some x) (find (λ (y : typing.Local). same_word y.name name) (scope_of ls ns))) ≡ option_and_then (slice_get (n ∷ ns)) (cond b (Some 0) (place_of (0 + 1) name ls))
first_or name ls n ns x q true h = ap Some q
first_or name ls n ns x q false h = h ∙ behind n ns (place_of 0 name ls) ∙ ap (option_and_then (slice_get (n ∷ ns))) (sym (shifted (λ (y : Local). same_word y.name name) 0 ls))

-- the number of the name stands where the name does
pub number_found : (name : Word) (ls : List Local) (ns : List ℕ) → numbers_found name ls ns ≡ option_and_then (slice_get ns) (place_of 0 name ls)
number_found name [] ns = refl
number_found name (l ∷ ls) [] = none_of (place_of 0 name (l ∷ ls))
number_found name (l ∷ ls) (n ∷ ns) = first_or name ls n ns (record { name = l.name; number = n; ty = type_or (option_map type_of l.ty) }) refl (same_word l.name name) (number_found name ls ns)
