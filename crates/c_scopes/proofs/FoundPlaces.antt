-- What is found in a table of structs, or of members, is what a search from the first on finds.
use Rattle.std.proofs.Common.{◌≡◌, refl, sym, ◌∙◌, ap, ℕ, zero, suc, ◌+◌, ◌<◌, ◌≤◌, Bool, true, false, List, [], ◌∷◌, length, take, get_or, Option, Some, None, if◌then◌else◌, ◌||◌, arith}
use Rattle.std.specs.Borrow.{Bor}
use Rattle.std.specs.Prelude.{map, is_some, nat_lt, slice_get, IfSome, MatchOption}
use Rattle.std.specs.List.{list_any, HoldsAt}
use Rattle.std.specs.Option.{option_map, option_copied}
use Rattle.std.proofs.lemmas.Bool.{lt-ltb, le-ltb}
use Rattle.std.proofs.lemmas.List.{get_or-take, length-take, take-take}
use Rattle.std.proofs.lemmas.Option.{slice_get_past, slice_get_read}
use Rattle.iv_words.specs.Words.{same_word}
use Rattle.name_tables.specs.FirstPlaces.{first_from}
use Rattle.c_ast.specs.declared.types.CBase.TheVariants.{Struct as Named}
use Rattle.c_ast.specs.declared.unit.CMember.{CMember}
use Rattle.c_ast.specs.declared.unit.CStruct.{CStruct}
use Rattle.c_ast.specs.Places.{place_from}
use Rattle.c_ast.specs.StaticTypes.{member_tree}
use Rattle.c_ast.specs.Structs.{CTree, base_tree, row_of, table, times, tree}
use Rattle.c_ast.specs.Syntax.{Name}
use Rattle.c_ast.proofs.Structs.{named_struct}
use Rattle.type_trees.specs.Trees.{Struct}
use Rattle.c_scopes.specs.Tables.{first_member}

-- ---- structs

pub place_is : (k : ℕ) (ss : List CStruct) (w : Name) → first_from k (map (λ s. s.name) ss) w ≡ place_from k ss w
place_is k [] w = refl
place_is k (s ∷ ss) w = ap (λ o. if same_word s.name w then Some k else o) (place_is (suc k) ss w)

-- a place is behind where it is counted from, and in the row
place_lies : (j : ℕ) (ss : List CStruct) (w : Name) (k : ℕ) → place_from j ss w ≡ Some k → (j ≤ k) × (k < j + length ss)
place_lies j [] w k e = absurd (cc)
place_lies j (s ∷ ss) w k e = at (same_word s.name w) e (place_lies (suc j) ss w k)
  where
    at : (b : Bool) → (if b then Some j else place_from (suc j) ss w) ≡ Some k → (place_from (suc j) ss w ≡ Some k → (suc j ≤ k) × (k < suc j + length ss)) → (j ≤ k) × (k < j + suc (length ss))
    at true here later = let same : j ≡ k = cc in (omega (arith, same), omega (arith, same))
    at false here later = let lies = later here in (omega (arith, lies.0), omega (arith, lies.1))

front_has : (j n : ℕ) (ss : List CStruct) (w : Name) (k : ℕ) → place_from j ss w ≡ Some k → k < j + n → place_from j (take n ss) w ≡ Some k
front_has j zero ss w k e below = absurd (omega (arith, below, (place_lies j ss w k e).0))
front_has j (suc n) [] w k e below = e
front_has j (suc n) (s ∷ ss) w k e below = at (same_word s.name w) e (λ h. front_has (suc j) n ss w k h (omega (arith, below)))
  where
    at : (b : Bool) → (if b then Some j else place_from (suc j) ss w) ≡ Some k → (place_from (suc j) ss w ≡ Some k → place_from (suc j) (take n ss) w ≡ Some k)
        → (if b then Some j else place_from (suc j) (take n ss) w) ≡ Some k
    at true here later = here
    at false here later = later here

front_lacks : (j n : ℕ) (ss : List CStruct) (w : Name) (k : ℕ) → place_from j ss w ≡ Some k → j + n ≤ k → place_from j (take n ss) w ≡ None
front_lacks j zero ss w k e past = refl
front_lacks j (suc n) [] w k e past = refl
front_lacks j (suc n) (s ∷ ss) w k e past = at (same_word s.name w) e (λ h. front_lacks (suc j) n ss w k h (omega (arith, past)))
  where
    at : (b : Bool) → (if b then Some j else place_from (suc j) ss w) ≡ Some k → (place_from (suc j) ss w ≡ Some k → place_from (suc j) (take n ss) w ≡ None)
        → (if b then Some j else place_from (suc j) (take n ss) w) ≡ None
    at true here later = let same : j ≡ k = cc in absurd (omega (arith, same, past))
    at false here later = later here

front_empty : (j n : ℕ) (ss : List CStruct) (w : Name) → place_from j ss w ≡ None → place_from j (take n ss) w ≡ None
front_empty j zero ss w e = refl
front_empty j (suc n) [] w e = refl
front_empty j (suc n) (s ∷ ss) w e = at (same_word s.name w) e (front_empty (suc j) n ss w)
  where
    at : (b : Bool) → (if b then Some j else place_from (suc j) ss w) ≡ None → (place_from (suc j) ss w ≡ None → place_from (suc j) (take n ss) w ≡ None)
        → (if b then Some j else place_from (suc j) (take n ss) w) ≡ None
    at true here later = absurd (cc)
    at false here later = later here

-- among the first so many structs
pub place_in_front : (n : ℕ) (ss : List CStruct) (w : Name) (found : Option ℕ) (k : ℕ) → found ≡ place_from 0 ss w → found ≡ Some k → k < n → Some k ≡ place_from 0 (take n ss) w
place_in_front n ss w found k is at below = sym (front_has 0 n ss w k (sym is ∙ at) (omega (arith, below)))

pub place_behind : (n : ℕ) (ss : List CStruct) (w : Name) (found : Option ℕ) (k : ℕ) → found ≡ place_from 0 ss w → found ≡ Some k → n ≤ k → None ≡ place_from 0 (take n ss) w
place_behind n ss w found k is at past = sym (front_lacks 0 n ss w k (sym is ∙ at) (omega (arith, past)))

pub place_nowhere : (n : ℕ) (ss : List CStruct) (w : Name) (found : Option ℕ) → found ≡ place_from 0 ss w → found ≡ None → None ≡ place_from 0 (take n ss) w
place_nowhere n ss w found is none = sym (front_empty 0 n ss w (sym is ∙ none))

pub place_within : (ss : List CStruct) (w : Name) (k : ℕ) → Some k ≡ place_from 0 ss w → k < length ss
place_within ss w k e = omega (arith, (place_lies 0 ss w k (sym e)).1)

pub place_within_all : (n : ℕ) (ss : List CStruct) (w : Name) (found : Option ℕ) (k : ℕ) → found ≡ place_from 0 (take n ss) w → found ≡ Some k → k < length ss
place_within_all n ss w found k is at = go n ss k (place_within (take n ss) w k (sym at ∙ is))
  where
    go : (n : ℕ) (ss : List CStruct) (k : ℕ) → k < length (take n ss) → k < length ss
    go n ss k below = omega (arith, below, length-take n ss)

pub has_is : (k : ℕ) (ss : List CStruct) (w : Name) → is_some (place_from k ss w) ≡ list_any (λ s. same_word s.name w) ss
has_is k [] w = refl
has_is k (s ∷ ss) w = at (same_word s.name w) (has_is (suc k) ss w)
  where
    at : (b : Bool) → is_some (place_from (suc k) ss w) ≡ list_any (λ s. same_word s.name w) ss → is_some (if b then Some k else place_from (suc k) ss w) ≡ (b || list_any (λ s. same_word s.name w) ss)
    at true rest = refl
    at false rest = rest

-- a struct by its tag and its members
pub struct_at : (ss : List CStruct) (k : ℕ) (tag : Name) (ms : List CMember) (d : CStruct) → ((d : CStruct) → tag ≡ (get_or ss k d).name) → ((d : CStruct) → ms ≡ (get_or ss k d).members)
    → (let s : CStruct = record { name = tag; members = ms } in s ≡ get_or ss k d)
struct_at ss k tag ms d tagged filled =
    ap (λ x. let s : CStruct = record { name = x; members = ms } in s) (tagged d) ∙ ap (λ x. let s : CStruct = record { name = (get_or ss k d).name; members = x } in s) (filled d)

-- the struct of a tag, as the table has it
pub struct_found : (n : ℕ) (ss : List CStruct) (w tag : Name) (ms : List CMember) (found : Option ℕ) (k : ℕ) → found ≡ place_from 0 (take n ss) w → found ≡ Some k
    → ((d : CStruct) → tag ≡ (get_or ss k d).name) → ((d : CStruct) → ms ≡ (get_or ss k d).members)
    → Struct tag (row_of (table [] (take k ss)) ms) ≡ tree (take n ss) (Named w)
struct_found n ss w tag ms found k is at tagged filled =
    let front : List CStruct = take n ss in
    let d : CStruct = record { name = tag; members = ms } in
    let below : k < length front = place_within front w k (sym at ∙ is) in
    let inside : k < n = omega (arith, below, length-take n ss) in
    let same : d ≡ get_or front k d = struct_at ss k tag ms d tagged filled ∙ sym (get_or-take n ss k d inside) in
    ap (λ earlier. Struct tag (row_of (table [] earlier) ms)) (sym (take-take k n ss (omega (arith, inside))))
    ∙ sym (named_struct front w k d ms (sym is ∙ at) same (ap (λ s. s.members) same))

-- ---- members

-- what a slice has at an index
pub got : {X : Type 0} (found : Option (Bor X)) (xs : List X) (k : ℕ) → IfSome found (λ x. x.now ≡ get_or xs k x.now) → MatchOption found (length xs ≤ k) (λ x. (k < length xs) × HoldsAt (λ y. x.now ≡ y) xs k)
    → option_copied found ≡ slice_get xs k
got None xs k is within = sym (slice_get_past xs k within)
got (Some x) xs k is within = sym (slice_get_read xs (length xs) k x.now refl within.0 is)

-- the member at the place of a name
member_lies : (j : ℕ) (ms : List CMember) (w : Name) (k : ℕ) → first_from j (map (λ m. m.name) ms) w ≡ Some k → (i : ℕ) × (k ≡ j + i) × (slice_get ms i ≡ first_member ms w)
member_lies j [] w k e = absurd (cc)
member_lies j (m ∷ ms) w k e = at (same_word m.name w) e (member_lies (suc j) ms w k)
  where
    at : (b : Bool) → (if b then Some j else first_from (suc j) (map (λ m. m.name) ms) w) ≡ Some k
        → (first_from (suc j) (map (λ m. m.name) ms) w ≡ Some k → (i : ℕ) × (k ≡ suc j + i) × (slice_get ms i ≡ first_member ms w))
        → (i : ℕ) × (k ≡ j + i) × (slice_get (m ∷ ms) i ≡ (if b then Some m else first_member ms w))
    at true here later = let same : j ≡ k = cc in (0, omega (arith, same), refl)
    at false here later = let lies = later here in (suc lies.0, omega (arith, lies.1), lies.2)

pub member_at : (ms : List CMember) (w : Name) (found : Option ℕ) (k : ℕ) → found ≡ first_from 0 (map (λ m. m.name) ms) w → found ≡ Some k → slice_get ms k ≡ first_member ms w
member_at ms w found k is at =
    let lies : (i : ℕ) × (k ≡ 0 + i) × (slice_get ms i ≡ first_member ms w) = member_lies 0 ms w k (sym is ∙ at) in
    let same : k ≡ lies.0 = omega (arith, lies.1) in
    ap (slice_get ms) same ∙ lies.2

member_missing : (j : ℕ) (ms : List CMember) (w : Name) → first_from j (map (λ m. m.name) ms) w ≡ None → None ≡ first_member ms w
member_missing j [] w e = refl
member_missing j (m ∷ ms) w e = at (same_word m.name w) e (member_missing (suc j) ms w)
  where
    at : (b : Bool) → (if b then Some j else first_from (suc j) (map (λ m. m.name) ms) w) ≡ None → (first_from (suc j) (map (λ m. m.name) ms) w ≡ None → None ≡ first_member ms w)
        → None ≡ (if b then Some m else first_member ms w)
    at true here later = absurd (cc)
    at false here later = later here

pub no_member : (ms : List CMember) (w : Name) (found : Option ℕ) → found ≡ first_from 0 (map (λ m. m.name) ms) w → found ≡ None → None ≡ first_member ms w
no_member ms w found is none = member_missing 0 ms w (sym is ∙ none)

had : (j n : ℕ) (ms : List CMember) (w : Name) (k : ℕ) → first_from j (map (λ m. m.name) ms) w ≡ Some k → nat_lt k (j + n) ≡ list_any (λ m. same_word m.name w) (take n ms)
had j zero ms w k e = let lies : (i : ℕ) × (k ≡ j + i) × (slice_get ms i ≡ first_member ms w) = member_lies j ms w k e in le-ltb k (j + 0) (omega (arith, lies.1))
had j (suc n) [] w k e = absurd (cc)
had j (suc n) (m ∷ ms) w k e = at (same_word m.name w) e (had (suc j) n ms w k)
  where
    at : (b : Bool) → (if b then Some j else first_from (suc j) (map (λ m. m.name) ms) w) ≡ Some k
        → (first_from (suc j) (map (λ m. m.name) ms) w ≡ Some k → nat_lt k (suc j + n) ≡ list_any (λ m. same_word m.name w) (take n ms))
        → nat_lt k (j + suc n) ≡ (b || list_any (λ m. same_word m.name w) (take n ms))
    at true here later = let same : j ≡ k = cc in lt-ltb k (j + suc n) (omega (arith, same))
    at false here later = ap (nat_lt k) (omega arith) ∙ later here

had_none : (j n : ℕ) (ms : List CMember) (w : Name) → first_from j (map (λ m. m.name) ms) w ≡ None → false ≡ list_any (λ m. same_word m.name w) (take n ms)
had_none j zero ms w e = refl
had_none j (suc n) [] w e = refl
had_none j (suc n) (m ∷ ms) w e = at (same_word m.name w) e (had_none (suc j) n ms w)
  where
    at : (b : Bool) → (if b then Some j else first_from (suc j) (map (λ m. m.name) ms) w) ≡ None → (first_from (suc j) (map (λ m. m.name) ms) w ≡ None → false ≡ list_any (λ m. same_word m.name w) (take n ms))
        → false ≡ (b || list_any (λ m. same_word m.name w) (take n ms))
    at true here later = absurd (cc)
    at false here later = later here

-- among the first so many members
pub had_before : (n : ℕ) (ms : List CMember) (w : Name) (found : Option ℕ) (k : ℕ) → found ≡ first_from 0 (map (λ m. m.name) ms) w → found ≡ Some k → nat_lt k n ≡ list_any (λ m. same_word m.name w) (take n ms)
had_before n ms w found k is at = ap (nat_lt k) (omega arith) ∙ had 0 n ms w k (sym is ∙ at)

pub not_before : (n : ℕ) (ms : List CMember) (w : Name) (found : Option ℕ) → found ≡ first_from 0 (map (λ m. m.name) ms) w → found ≡ None → false ≡ list_any (λ m. same_word m.name w) (take n ms)
not_before n ms w found is none = had_none 0 n ms w (sym is ∙ none)

pub member_found : (tbl : List (Name × CTree)) (ms : List CMember) (w : Name) → option_map (λ m. times m.length (base_tree tbl m.base)) (first_member ms w) ≡ member_tree (row_of tbl ms) w
member_found tbl [] w = refl
member_found tbl (m ∷ ms) w = at (same_word m.name w) (member_found tbl ms w)
  where
    at : (b : Bool) → option_map (λ m. times m.length (base_tree tbl m.base)) (first_member ms w) ≡ member_tree (row_of tbl ms) w
        → option_map (λ m. times m.length (base_tree tbl m.base)) (if b then Some m else first_member ms w) ≡ (if b then Some (times m.length (base_tree tbl m.base)) else member_tree (row_of tbl ms) w)
    at true rest = refl
    at false rest = rest
