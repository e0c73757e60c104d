-- Names that are added to those in scope, and taken out again.
use Rattle.std.proofs.Common.{◌≡◌, refl, sym, ◌∙◌, ap, ℕ, zero, suc, ◌≤◌, List, [], ◌∷◌, ◌++◌, length, take, arith}
use Rattle.std.proofs.lemmas.List.{length-take}
use Rattle.std.specs.Prelude.{Result, Ok, Err, OnOk, None}
use Rattle.std.proofs.lemmas.List.{take-append-le, take_all}
use Rattle.c_text.specs.Scopes as scopes
use Rattle.c_text.specs.Scopes.{with_value, with_const}
use Rattle.c_ast.specs.Syntax.{Name}
use Rattle.c_scopes.specs.declared.names.Entity.{Entity}
use Rattle.c_scopes.specs.declared.names.Names.{Names}
use Rattle.c_rules.specs.Kept.{Kept}
use Rattle.c_scopes.specs.Scope.{entity_view, names_view}
use Rattle.c_scopes.proofs.ScopeLists.{values_push}

pub on_ok : {T E P Q : Type 0} (r : Result T E) → (P → Q) → OnOk r P → OnOk r Q
on_ok (Ok x) f p = f p
on_ok (Err x) f p = tt

pub on_ok_always : {T E P : Type 0} (r : Result T E) → P → OnOk r P
on_ok_always (Ok x) p = p
on_ok_always (Err x) p = tt

abbrev with_entries : Names → List (Name × Entity) → Names
with_entries n vs = record n { values = vs }

front_within : (xs ys : List (Name × Entity)) → take (length xs) ys ≡ xs → length xs ≤ length ys
front_within xs ys e = omega (arith, ap length e, length-take (length xs) ys)

take-take : (m n : ℕ) (xs : List (Name × Entity)) → m ≤ n → take m (take n xs) ≡ take m xs
take-take zero n xs below = refl
take-take (suc m) zero xs below = absurd (omega arith)
take-take (suc m) (suc n) [] below = refl
take-take (suc m) (suc n) (x ∷ xs) below = ap (λ ys. x ∷ ys) (take-take m n xs (omega arith))

pub pushed_view : (old : Names) (vs : List (Name × Entity)) (d : Name × Entity) → vs ≡ old.values ++ d ∷ [] → names_view (with_entries old vs) ≡ with_value (names_view old) d.0 (entity_view d.1)
pushed_view old vs d is =
    ap (λ xs. names_view (with_entries old xs)) is
    ∙ ap (λ xs. let n : scopes.Names = record { structs = (names_view old).structs; functions = (names_view old).functions; itself = (names_view old).itself; values = xs; in_function = (names_view old).in_function } in n) (values_push old.objects old.values d)

pub pushed_keeps : (old : Names) (vs : List (Name × Entity)) (d : Name × Entity) → vs ≡ old.values ++ d ∷ [] → Kept old (with_entries old vs)
pushed_keeps old vs d is = record {
  others = refl;
  front = ap (λ xs. take (length old.values) xs) is ∙ take-append-le (length old.values) old.values (d ∷ []) (omega arith) ∙ take_all (length old.values) old.values (omega arith);
}

pub stays : (n : Names) → Kept n n
stays n = record { others = refl; front = take_all (length n.values) n.values (omega arith) }

-- more behind more
pub kept_both : (a b c : Names) → Kept a b → Kept b c → Kept a c
kept_both a b c first second =
    let longer : length a.values ≤ length b.values = front_within a.values b.values first.front in
    record {
      others = second.others ∙ ap (λ n. with_entries n c.values) first.others;
      front = sym (take-take (length a.values) (length b.values) c.values longer) ∙ ap (take (length a.values)) second.front ∙ first.front;
    }

-- the names of a block are gone behind it
pub left : (a b : Names) → Kept a b → with_entries b (take (length a.values) b.values) ≡ a
left a b kept = ap (λ n. with_entries n (take (length a.values) b.values)) kept.others ∙ ap (with_entries a) kept.front

-- outside of a function again
pub back : (before inner after final : Names) (n : ℕ) → before.itself ≡ None → (let same : Names = record before { itself = inner.itself } in inner ≡ same) → Kept inner after → n ≡ length before.values
    → final ≡ with_entries after (take n after.values) → (let outside : Names = record final { itself = None } in outside ≡ before)
back before inner after final n none enters kept counted is =
    let same_count : n ≡ length inner.values = counted ∙ sym (ap (λ m. length m.values) enters) in
    let whole : final ≡ inner = is ∙ ap (λ k. with_entries after (take k after.values)) same_count ∙ left inner after kept in
    ap (λ m. let o : Names = record m { itself = None } in o) (whole ∙ enters) ∙ ap (λ x. let o : Names = record before { itself = x } in o) (sym none)
