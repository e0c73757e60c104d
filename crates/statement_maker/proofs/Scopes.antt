-- Names that come into scope with their numbers, and are gone behind a block.
use Rattle.std.proofs.Common.{◌≡◌, ℕ, zero, suc, List, [], ◌∷◌, ◌++◌, length, map, take, refl, sym, subst, ap, ap₂, ◌∙◌, ◌+◌, ◌≤◌, arith, length-append}
use Rattle.std.specs.Prelude.{Option, Some, None, option_map}
use Rattle.std.proofs.lemmas.List.{map-append, take-append-le, take_all, take-take, take_at, length-take}
use Rattle.ivory_tree.specs.Syntax.{Word}
use Rattle.area_types.specs.Syntax as types
use Rattle.area_types.specs.View.{type_of}
use Rattle.area_types.specs.declared.area.ValueType.{ValueType}
use Rattle.alloc_effects.specs.declared.allowed.Allowed.{Allowed}
use Rattle.rule_faults.specs.Contexts as faults
use Rattle.rule_checker.specs.Contexts as checker
use Rattle.rule_checker.specs.declared.Context.{Context}
use Rattle.rule_checker.specs.declared.Local.{Local}
use Rattle.typing_rules.specs.Environments as typing
use Rattle.typing_rules.specs.Environments.{Env}
use Rattle.typing_rules.specs.Contexts as typing_view
use Rattle.typing_rules.specs.ExpressionCores.{type_or}
use Rattle.statement_rules.specs.Kept as contexts
use Rattle.statement_rules.proofs.Scopes as scopes
use Rattle.core_maker.specs.Places.{scope_of, env_of, Agrees}
use Rattle.core_maker.specs.declared.place.Place.{Place}
use Rattle.statement_maker.specs.Places.{Kept, Stays, with_locals}
use Rattle.statement_maker.specs.Leaving.{around_of, left_with}

-- ---- one more name

abbrev pub named : Word → ValueType → Local
named name t = record { name = name; ty = Some t }

abbrev pub place_with : Place → List Local → List ℕ → List ValueType → Place
place_with p scope numbers locals = record { context = record p.context { scope = scope }; numbers = numbers; locals = locals }

abbrev pub with_name : Place → Word → ValueType → ℕ → Place
with_name p name t n = place_with p (p.context.scope ++ named name t ∷ []) (p.numbers ++ n ∷ []) (p.locals ++ t ∷ [])

abbrev entry : Local → ℕ → typing.Local
entry l n = record { name = l.name; number = n; ty = type_or (option_map type_of l.ty) }

scope_named : (name : Word) (t : ValueType) (n : ℕ) (ls : List Local) (ns : List ℕ) → length ns ≡ length ls → scope_of (ls ++ named name t ∷ []) (ns ++ n ∷ []) ≡ scope_of ls ns ++ entry (named name t) n ∷ []
scope_named name t n [] [] h = refl
scope_named name t n [] (m ∷ ns) h = absurd (omega (arith, h))
scope_named name t n (l ∷ ls) [] h = absurd (omega (arith, h))
scope_named name t n (l ∷ ls) (m ∷ ns) h = ap (λ (xs : List typing.Local). entry l m ∷ xs) (scope_named name t n ls ns (omega (arith, h)))

-- with other names in scope and other locals
abbrev env_with : Env → List typing.Local → List types.ValueType → Env
env_with env scope locals = record env { scope = scope; locals = locals }

pub named_is : (p : Place) (name : Word) (t : ValueType) (n : ℕ) → Agrees p → n ≡ typing.next (env_of p) → env_of (with_name p name t n) ≡ typing.with_local (env_of p) name (type_of t)
named_is p name t n a is =
    ap₂ (env_with (env_of p)) (scope_named name t n p.context.scope p.numbers a.numbered) (map-append type_of p.locals (t ∷ []))
    ∙ ap (λ (k : ℕ). env_with (env_of p) (scope_of p.context.scope p.numbers ++ entry (named name t) k ∷ []) (map type_of p.locals ++ type_of t ∷ [])) is

named_known : (p : Place) (name : Word) (t : ValueType) (n : ℕ) → Agrees p → n ≡ typing.next (env_of p) → typing_view.context_of (env_of (with_name p name t n)) ≡ checker.context_of (with_name p name t n).context
named_known p name t n a is =
    ap typing_view.context_of (named_is p name t n a is)
    ∙ ap (λ (xs : List faults.Local). with_names (typing_view.context_of (env_of p)) xs) (map-append typing_view.local_of (env_of p).scope (record { name = name; number = typing.next (env_of p); ty = type_of t } ∷ []))
    ∙ ap (λ (c : faults.Context). faults.with_local c name (Some (type_of t))) a.known
    ∙ sym (scopes.pushed_view p.context (p.context.scope ++ named name t ∷ []) (named name t) refl)
  where
    with_names : faults.Context → List faults.Local → faults.Context
    with_names c xs = record c { scope = xs }

named_numbered : (p : Place) (name : Word) (t : ValueType) (n : ℕ) → Agrees p → length (p.numbers ++ n ∷ []) ≡ length (p.context.scope ++ named name t ∷ [])
named_numbered p name t n a = length-append p.numbers (n ∷ []) ∙ ap (λ (k : ℕ). k + 1) a.numbered ∙ sym (length-append p.context.scope (named name t ∷ []))

pub named_stays : (p : Place) (name : Word) (t : ValueType) (n : ℕ) → Agrees p → n ≡ typing.next (env_of p) → Stays p (with_name p name t n)
named_stays p name t n a is = record {
  kept = record {
    context = scopes.pushed_keeps p.context (p.context.scope ++ named name t ∷ []) (named name t) refl;
    numbers = take_at p.numbers (n ∷ []) (length p.numbers) refl;
  };
  agrees = record { known = named_known p name t n a is; numbered = named_numbered p name t n a };
}

-- the same, of lists that are so
pub pushed_stays : (p : Place) (name : Word) (t : ValueType) (n : ℕ) (scope : List Local) (numbers : List ℕ) (locals : List ValueType) → Agrees p → n ≡ typing.next (env_of p)
    → scope ≡ p.context.scope ++ named name t ∷ [] → numbers ≡ p.numbers ++ n ∷ [] → locals ≡ p.locals ++ t ∷ [] → Stays p (place_with p scope numbers locals)
pushed_stays p name t n scope numbers locals a is scope_is numbers_are locals_are =
    subst (λ (xs : List Local). Stays p (place_with p xs numbers locals)) (sym scope_is)
    (subst (λ (ns : List ℕ). Stays p (place_with p (p.context.scope ++ named name t ∷ []) ns locals)) (sym numbers_are)
    (subst (λ (ts : List ValueType). Stays p (place_with p (p.context.scope ++ named name t ∷ []) (p.numbers ++ n ∷ []) ts)) (sym locals_are) (named_stays p name t n a is)))

-- ---- more behind more

pub stays : (p : Place) → Agrees p → Stays p p
stays p a = record { kept = record { context = scopes.stays p.context; numbers = take_all (length p.numbers) p.numbers (omega arith) }; agrees = a }

front_within : (xs ys : List ℕ) → take (length xs) ys ≡ xs → length xs ≤ length ys
front_within xs ys e = omega (arith, ap length e, length-take (length xs) ys)

kept_both : (a b c : Place) → Kept a b → Kept b c → Kept a c
kept_both a b c first second = record {
  context = scopes.kept_both a.context b.context c.context first.context second.context;
  numbers = sym (take-take (length a.numbers) (length b.numbers) c.numbers (front_within a.numbers b.numbers first.numbers)) ∙ ap (take (length a.numbers)) second.numbers ∙ first.numbers;
}

pub stays_both : (a b c : Place) → Stays a b → Stays b c → Stays a c
stays_both a b c first second = record { kept = kept_both a b c first.kept second.kept; agrees = second.agrees }

-- ---- behind a block

abbrev pub with_allowed : Place → Allowed → Place
with_allowed p allowed = record p { context = scopes.with_allowed p.context allowed }

pub allowed_agrees : (p : Place) (allowed : Allowed) → Agrees p → Agrees (with_allowed p allowed)
allowed_agrees p allowed a = record { known = ap (λ (c : faults.Context). with_permission c) a.known; numbered = a.numbered }
  where
    with_permission : faults.Context → faults.Context
    with_permission c = record c { allowed = allowed }

pub left_is : (a b : Place) (allowed : Allowed) → Kept (with_allowed a allowed) b → left_with b (around_of a) ≡ with_locals a b.locals
left_is a b allowed kept =
    ap₂ (λ (c : Context) (ns : List ℕ). place_of c ns b.locals) (scopes.left_allowed a.context b.context allowed kept.context) kept.numbers
  where
    place_of : Context → List ℕ → List ValueType → Place
    place_of c ns locals = record { context = c; numbers = ns; locals = locals }

-- with other locals a place stays
pub same_stays : (a b : Place) → Agrees a → b ≡ with_locals a b.locals → Stays a b
same_stays a b agrees same = subst (λ (p : Place). Stays a p) (sym same) (record { kept = record { context = (stays a agrees).kept.context; numbers = (stays a agrees).kept.numbers }; agrees = record { known = agrees.known; numbered = agrees.numbered } })
