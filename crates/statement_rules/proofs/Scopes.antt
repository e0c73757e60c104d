-- Names that are added to those in scope, and taken out again.
use Rattle.std.proofs.Common.{◌≡◌, refl, sym, ◌∙◌, ap, ℕ, zero, suc, ◌≤◌, List, [], ◌∷◌, ◌++◌, length, take, arith}
use Rattle.std.specs.Prelude.{option_map}
use Rattle.std.proofs.lemmas.List.{length-take, map-append, take-append-le, take_all}
use Rattle.alloc_effects.specs.declared.allowed.Allowed.{Allowed}
use Rattle.area_types.specs.View.{type_of}
use Rattle.rule_faults.specs.Contexts as contexts
use Rattle.rule_faults.specs.Contexts.{with_local}
use Rattle.rule_checker.specs.Contexts.{context_of, local_of}
use Rattle.rule_checker.specs.declared.Context.{Context}
use Rattle.rule_checker.specs.declared.Local.{Local}
use Rattle.statement_rules.specs.Kept.{Kept}

abbrev pub with_scope : Context → List Local → Context
with_scope c ls = record c { scope = ls }

abbrev pub with_allowed : Context → Allowed → Context
with_allowed c a = record c { allowed = a }

front_within : (xs ys : List Local) → take (length xs) ys ≡ xs → length xs ≤ length ys
front_within xs ys e = omega (arith, ap length e, length-take (length xs) ys)

take-take : (m n : ℕ) (xs : List Local) → m ≤ n → take m (take n xs) ≡ take m xs
take-take zero n xs below = refl
take-take (suc m) zero xs below = absurd (omega arith)
take-take (suc m) (suc n) [] below = refl
take-take (suc m) (suc n) (x ∷ xs) below = ap (λ ys. x ∷ ys) (take-take m n xs (omega arith))

pub pushed_view : (old : Context) (ls : List Local) (l : Local) → ls ≡ old.scope ++ l ∷ [] → context_of (with_scope old ls) ≡ with_local (context_of old) l.name (option_map type_of l.ty)
pushed_view old ls l is =
    ap (λ xs. context_of (with_scope old xs)) is
    ∙ ap (λ (xs : List contexts.Local). let c : contexts.Context = record (context_of old) { scope = xs } in c) (map-append local_of old.scope (l ∷ []))

pub pushed_keeps : (old : Context) (ls : List Local) (l : Local) → ls ≡ old.scope ++ l ∷ [] → Kept old (with_scope old ls)
pushed_keeps old ls l is = record {
  others = refl;
  front = ap (λ xs. take (length old.scope) xs) is ∙ take-append-le (length old.scope) old.scope (l ∷ []) (omega arith) ∙ take_all (length old.scope) old.scope (omega arith);
}

pub stays : (c : Context) → Kept c c
stays c = record { others = refl; front = take_all (length c.scope) c.scope (omega arith) }

-- more behind more
pub kept_both : (a b c : Context) → Kept a b → Kept b c → Kept a c
kept_both a b c first second =
    let longer : length a.scope ≤ length b.scope = front_within a.scope b.scope first.front in
    record {
      others = second.others ∙ ap (λ n. with_scope n c.scope) first.others;
      front = sym (take-take (length a.scope) (length b.scope) c.scope longer) ∙ ap (take (length a.scope)) second.front ∙ first.front;
    }

-- the names of a block are gone behind it
pub left : (a b : Context) → Kept a b → with_scope b (take (length a.scope) b.scope) ≡ a
left a b kept = ap (λ n. with_scope n (take (length a.scope) b.scope)) kept.others ∙ ap (with_scope a) kept.front

-- and what was allowed before it is allowed again
pub left_allowed : (a b : Context) (allowed : Allowed) → Kept (with_allowed a allowed) b → with_scope (with_allowed b a.allowed) (take (length a.scope) b.scope) ≡ a
left_allowed a b allowed kept = ap (λ n. with_allowed n a.allowed) (left (with_allowed a allowed) b kept)
