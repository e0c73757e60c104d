-- The number of an import or a procedure is the place of its name among those of its kind.
use Rattle.std.proofs.Common.{◌≡◌, ℕ, Bool, true, false, cond, List, [], ◌∷◌, map, filter, refl, sym, ap, ◌∙◌}
use Rattle.std.specs.List.{position_from}
use Rattle.iv_words.specs.Words.{same_word}
use Rattle.source_types.specs.Environments.{Callee}
use Rattle.rule_checker.specs.Contexts.{callee_entry_of}
use Rattle.rule_checker.specs.Named.{names_of_imports, names_of_procedures}
use Rattle.rule_checker.specs.declared.CalleeEntry.{CalleeEntry}
use Rattle.rule_checker.proofs.Searches.{position_by_name}
use Rattle.typing_rules.specs.Environments.{is_import, is_procedure, of_kind}

kept_with : {A B : Type 0} (v : A → B) (b : Bool) (x : A) (xs : List A) (ys : List B) → map v xs ≡ ys → map v (cond b (x ∷ xs) xs) ≡ cond b (v x ∷ ys) ys
kept_with v true x xs ys h = ap (λ zs. v x ∷ zs) h
kept_with v false x xs ys h = h

kept_seen : {A B : Type 0} (v : A → B) (test : B → Bool) (xs : List A) → map v (filter (λ x. test (v x)) xs) ≡ filter test (map v xs)
kept_seen v test [] = refl
kept_seen v test (x ∷ xs) = kept_with v (test (v x)) x (filter (λ y. test (v y)) xs) (filter test (map v xs)) (kept_seen v test xs)

numbered : (test : Callee → Bool) (names : List (List ℕ)) (cs : List CalleeEntry) (name : List ℕ) →
    names ≡ map (λ (c : CalleeEntry). c.name) (filter (λ (c : CalleeEntry). test (callee_entry_of c)) cs) →
    position_from (λ n. same_word n name) 0 names ≡ position_from (λ (d : Callee). same_word d.name name) 0 (filter test (map callee_entry_of cs))
numbered test names cs name named =
    position_by_name callee_entry_of (λ (d : Callee). d.name) names (filter (λ (c : CalleeEntry). test (callee_entry_of c)) cs) name named
    ∙ ap (position_from (λ (d : Callee). same_word d.name name) 0) (kept_seen callee_entry_of test cs)

of_this_kind : (name : List ℕ) (b import : Bool) (cs : List CalleeEntry) → import ≡ b →
    position_from (λ (d : Callee). same_word d.name name) 0 (of_kind b (map callee_entry_of cs)) ≡ position_from (λ (d : Callee). same_word d.name name) 0 (of_kind import (map callee_entry_of cs))
of_this_kind name b import cs is = sym (ap (λ k. position_from (λ (d : Callee). same_word d.name name) 0 (of_kind k (map callee_entry_of cs))) is)

pub import_numbered : (names : List (List ℕ)) (cs : List CalleeEntry) (name : List ℕ) (import : Bool) → import ≡ true → names ≡ names_of_imports cs →
    position_from (λ n. same_word n name) 0 names ≡ position_from (λ (d : Callee). same_word d.name name) 0 (of_kind import (map callee_entry_of cs))
import_numbered names cs name import is named = numbered is_import names cs name named ∙ of_this_kind name true import cs is

pub procedure_numbered : (names : List (List ℕ)) (cs : List CalleeEntry) (name : List ℕ) (import : Bool) → import ≡ false → names ≡ names_of_procedures cs →
    position_from (λ n. same_word n name) 0 names ≡ position_from (λ (d : Callee). same_word d.name name) 0 (of_kind import (map callee_entry_of cs))
procedure_numbered names cs name import is named = numbered is_procedure names cs name named ∙ of_this_kind name false import cs is
