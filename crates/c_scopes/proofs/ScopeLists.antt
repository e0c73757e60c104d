-- One more declaration behind others.
use Rattle.std.proofs.Common.{◌≡◌, refl, sym, ◌∙◌, ap, Bool, true, false, List, [], ◌∷◌, ◌++◌, Option, Some, None, if◌then◌else◌}
use Rattle.std.specs.Prelude.{map}
use Rattle.std.specs.Option.{option_map}
use Rattle.std.proofs.lemmas.List.{map-append}
use Rattle.iv_words.specs.Words.{same_word}
use Rattle.name_tables.specs.Latest.{latest}
use Rattle.name_tables.specs.Scoped.{latest_first}
use Rattle.name_tables.proofs.Shadowings.{first_is_latest}
use Rattle.c_ast.specs.Names.{named}
use Rattle.c_ast.specs.Signatures.{Signature}
use Rattle.c_ast.specs.StaticTypes.{Entity}
use Rattle.c_ast.specs.Syntax.{Name}
use Rattle.c_scopes.specs.declared.names.Entity as borrowed
use Rattle.c_scopes.specs.declared.names.Signature as called
use Rattle.c_scopes.specs.Scope.{entity_view, entity_entry, entity_found, signature_view, signature_entry, signature_found, stop_alone, functions_view, values_view}

pub values_push : (os vs : List (Name × borrowed.Entity)) (d : Name × borrowed.Entity) → values_view os (vs ++ d ∷ []) ≡ entity_entry d ∷ values_view os vs
values_push os vs d = ap (latest_first (map entity_entry os)) (map-append entity_entry vs (d ∷ [])) ∙ first_is_latest (map entity_entry os) (map entity_entry vs) (entity_entry d)

-- ---- first these declarations, and then those before them

found_first : {A : Type 0} (xs ds : List (Name × A)) (name : Name) (a : A) → named xs name ≡ Some a → named (xs ++ ds) name ≡ Some a
found_first [] ds name a e = cc
found_first {A} (x ∷ xs) ds name a e = at (same_word x.0 name) e (found_first xs ds name a)
  where
    at : (t : Bool) → (if t then Some x.1 else named xs name) ≡ Some a → (named xs name ≡ Some a → named (xs ++ ds) name ≡ Some a) → (if t then Some x.1 else named (xs ++ ds) name) ≡ Some a
    at true f more = f
    at false f more = more f

found_behind : {A : Type 0} (xs ds : List (Name × A)) (name : Name) → named xs name ≡ None → named (xs ++ ds) name ≡ named ds name
found_behind [] ds name e = refl
found_behind {A} (x ∷ xs) ds name e = at (same_word x.0 name) e (found_behind xs ds name)
  where
    at : (t : Bool) → (if t then Some x.1 else named xs name) ≡ None → (named xs name ≡ None → named (xs ++ ds) name ≡ named ds name) → (if t then Some x.1 else named (xs ++ ds) name) ≡ named ds name
    at true f more = cc
    at false f more = more f

-- a declaration that a table has, by what it says
named_entries : {A B : Type 0} (says : A → B) (ds : List (Name × A)) (name : Name) → named (map (λ d. (d.0, says d.1)) ds) name ≡ option_map says (latest ds name)
named_entries says [] name = refl
named_entries {A} {B} says (d ∷ ds) name = at (same_word d.0 name) (named_entries says ds name)
  where
    at : (t : Bool) → named (map (λ x. (x.0, says x.1)) ds) name ≡ option_map says (latest ds name)
        → (if t then Some (says d.1) else named (map (λ x. (x.0, says x.1)) ds) name) ≡ option_map says (if t then Some d.1 else latest ds name)
    at true more = refl
    at false more = more

-- ---- functions

pub function_first : (fs : List (Name × called.Signature)) (name : Name) (found : Option called.Signature) (s : called.Signature) → found ≡ latest fs name → found ≡ Some s
    → Some (signature_view s) ≡ named (functions_view fs) name
function_first fs name found s e is = sym (found_first (map signature_entry fs) stop_alone name (signature_view s) (named_entries signature_view fs name ∙ ap signature_found (sym e ∙ is)))

pub function_behind : (fs : List (Name × called.Signature)) (name : Name) (found : Option called.Signature) (r : Option Signature) → found ≡ latest fs name → found ≡ None → r ≡ named stop_alone name
    → r ≡ named (functions_view fs) name
function_behind fs name found r e is stop = stop ∙ sym (found_behind (map signature_entry fs) stop_alone name (named_entries signature_view fs name ∙ ap signature_found (sym e ∙ is)))

-- ---- objects of file scope, and the names in a function

values_on : (ds : List (Name × Entity)) (later vs : List (Name × borrowed.Entity)) → latest_first (map entity_entry later ++ ds) (map entity_entry vs) ≡ map entity_entry (latest_first later vs) ++ ds
values_on ds later [] = refl
values_on ds later (v ∷ vs) = values_on ds (v ∷ later) vs

pub entity_first : (os vs : List (Name × borrowed.Entity)) (name : Name) (found : Option borrowed.Entity) (e : borrowed.Entity) → found ≡ latest (latest_first [] vs) name → found ≡ Some e
    → Some (entity_view e) ≡ named (values_view os vs) name
entity_first os vs name found e here is =
    let ds : List (Name × borrowed.Entity) = latest_first [] vs in
    sym (ap (λ rows. named rows name) (values_on (map entity_entry os) [] vs) ∙ found_first (map entity_entry ds) (map entity_entry os) name (entity_view e) (named_entries entity_view ds name ∙ ap entity_found (sym here ∙ is)))

pub entity_behind : (os vs : List (Name × borrowed.Entity)) (name : Name) (found r : Option borrowed.Entity) → found ≡ latest (latest_first [] vs) name → found ≡ None → r ≡ latest os name
    → entity_found r ≡ named (values_view os vs) name
entity_behind os vs name found r here is e =
    let ds : List (Name × borrowed.Entity) = latest_first [] vs in
    ap entity_found e
    ∙ sym (ap (λ rows. named rows name) (values_on (map entity_entry os) [] vs) ∙ found_behind (map entity_entry ds) (map entity_entry os) name (named_entries entity_view ds name ∙ ap entity_found (sym here ∙ is)) ∙ named_entries entity_view os name)
