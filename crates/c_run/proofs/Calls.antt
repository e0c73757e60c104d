-- What calls and entry calls reach, from the first function of a unit to the last.
use Rattle.std.proofs.Common.{◌≡◌, ℕ, zero, suc, ◌+◌, ◌<◌, ◌≤◌, ℤ, Bool, true, false, List, [], ◌∷◌, ◌++◌, length, map, take, drop, get_or, Option, Some, None, refl, sym, ap, ◌∙◌, subst, arith, if◌then◌else◌}
use Rattle.std.specs.Prelude.{◌&&◌, not, slice_get, MatchOption}
use Rattle.std.proofs.lemmas.Option.{slice_get_within}
use Rattle.run_world.proofs.Rests.{nothing_left}
use Rattle.std.proofs.lemmas.List.{map-append}
use Rattle.iv_words.specs.Words.{same_word}
use Rattle.c_ast.specs.Names.{outer_name}
use Rattle.c_ast.specs.Syntax.{Name, Function}
use Rattle.c_ast.specs.View.{function_of, stmt_of, stmts_of}
use Rattle.c_ast.specs.declared.CFunction.{CFunction}
use Rattle.c_ast.specs.declared.CStmt.{CStmt}
use Rattle.c_meaning.specs.Calls.{Calls, no_functions, troubled}
use Rattle.c_meaning.specs.Runs.{with_function, function_call, entered, entry_among}
use Rattle.c_meaning.specs.State.{Program}
use Rattle.c_meaning.specs.Values.{CValue, Stuck}
use Rattle.c_run.specs.Calls.{calls_after, calls_of, weight, weights, load}
use Rattle.c_run.specs.Found.{NoneIsCalled, IsCalledAt, IsCalled, NoneIsEntered, IsEnteredAt, IsEntered}
use Rattle.c_run.proofs.Within.{CallsSteady, none_steady, with_steady}

-- ---- one function more

pub taken_more : {A : Type 0} (xs : List A) (k : ℕ) (x : A) → slice_get xs k ≡ Some x → take (k + 1) xs ≡ take k xs ++ x ∷ []
taken_more [] k x h = absurd (cc)
taken_more (y ∷ ys) zero x h = let e : y ≡ x = cc in ap (λ z. z ∷ []) e
taken_more (y ∷ ys) (suc k) x h = let e : suc k + 1 ≡ suc (k + 1) = omega arith in ap (λ n. take n (y ∷ ys)) e ∙ ap (λ l. y ∷ l) (taken_more ys k x h)

pub left_here : {A : Type 0} (xs : List A) (k : ℕ) (x : A) → slice_get xs k ≡ Some x → drop k xs ≡ x ∷ drop (k + 1) xs
left_here [] k x h = absurd (cc)
left_here (y ∷ ys) zero x h = let e : y ≡ x = cc in ap (λ z. z ∷ ys) e
left_here (y ∷ ys) (suc k) x h = let e : suc k + 1 ≡ suc (k + 1) = omega arith in left_here ys k x h ∙ ap (λ n. x ∷ drop n (y ∷ ys)) (sym e)

module _ (p : Program) where
  after_last : (earlier : Calls) (xs : List Function) (f : Function) → calls_after p earlier (xs ++ f ∷ []) ≡ with_function p (calls_after p earlier xs) f
  after_last earlier [] f = refl
  after_last earlier (x ∷ xs) f = after_last (with_function p earlier x) xs f

  pub one_function_more : (fs : List CFunction) (k : ℕ) (f : CFunction) → slice_get fs k ≡ Some f → calls_of p (take (k + 1) fs) ≡ with_function p (calls_of p (take k fs)) (function_of f)
  one_function_more fs k f h =
      ap (λ xs. calls_of p xs) (taken_more fs k f h) ∙ ap (λ xs. calls_after p (no_functions p) xs) (map-append function_of (take k fs) (f ∷ [])) ∙ after_last (no_functions p) (map function_of (take k fs)) (function_of f)

  -- ---- calls keep the frames

  after_steady : (earlier : Calls) → CallsSteady p earlier → (xs : List Function) → CallsSteady p (calls_after p earlier xs)
  after_steady earlier h [] = h
  after_steady earlier h (x ∷ xs) = after_steady (with_function p earlier x) (with_steady p earlier h x) xs

  pub calls_steady : (fs : List CFunction) → CallsSteady p (calls_of p fs)
  calls_steady fs = after_steady (no_functions p) (none_steady p) (map function_of fs)

-- ---- how much there is to walk

load_append : (xs ys : List Function) → load (xs ++ ys) ≡ load xs + load ys
load_append [] ys = omega arith
load_append (x ∷ xs) ys = omega (arith, load_append xs ys)

pub earlier_load : (fs : List CFunction) (k : ℕ) (f : CFunction) → slice_get fs k ≡ Some f → load (map function_of (take k fs)) + weights (function_of f).body < load (map function_of fs)
earlier_load [] k f h = absurd (cc)
earlier_load (x ∷ xs) zero f h = let e : x ≡ f = cc in subst (λ y. 0 + weights (function_of y).body < load (map function_of (x ∷ xs))) e (omega arith)
earlier_load (x ∷ xs) (suc k) f h = omega (arith, earlier_load xs k f h)

-- ---- the latest function of a name, among the first k

abbrev pub Latest : List CFunction → Name → ℕ → Option ℕ → Type 0
Latest fs name k None = (p : Program) (values : List CValue) → calls_of p (take k fs) name values ≡ troubled p Stuck
Latest fs name k (Some j) = (j < length fs) × ((p : Program) (values : List CValue) (f : CFunction) → slice_get fs j ≡ Some f → calls_of p (take k fs) name values ≡ function_call p (calls_of p (take j fs)) (function_of f) values)

get_once : (fs : List CFunction) (k : ℕ) (f g : CFunction) → slice_get fs k ≡ Some f → slice_get fs k ≡ Some g → f ≡ g
get_once fs k f g h e = let q : Some f ≡ Some g = sym h ∙ e in cc

-- the functions from k on are left to look at
abbrev pub EntryFrom : List CFunction → Name → ℕ → Type 0
EntryFrom fs name k = (p : Program) (values : List ℤ) → entry_among p (no_functions p) (map function_of fs) name values ≡ entry_among p (calls_of p (take k fs)) (map function_of (drop k fs)) name values

module _ (fs : List CFunction) (name : Name) (k : ℕ) (f : CFunction) (here : slice_get fs k ≡ Some f) where
  step : (p : Program) (values : List CValue) (b : Bool) → same_word f.name name ≡ b
      → calls_of p (take (k + 1) fs) name values ≡ (if b then function_call p (calls_of p (take k fs)) (function_of f) values else calls_of p (take k fs) name values)
  step p values b e =
      ap (λ (c : Calls). c name values) (one_function_more p fs k f here) ∙ ap (λ (b : Bool). if b then function_call p (calls_of p (take k fs)) (function_of f) values else calls_of p (take k fs) name values) e

  pub latest_here : same_word f.name name ≡ true → Latest fs name (k + 1) (Some k)
  latest_here e = (slice_get_within fs k f here, λ p values g h. step p values true e ∙ ap (λ x. function_call p (calls_of p (take k fs)) (function_of x) values) (get_once fs k f g here h))

  pub latest_other : (found : Option ℕ) → same_word f.name name ≡ false → Latest fs name k found → Latest fs name (k + 1) found
  latest_other None e h = λ p values. step p values false e ∙ h p values
  latest_other (Some j) e h = (h.0, λ p values g is. step p values false e ∙ h.1 p values g is)

  pub latest_next : (found new : Option ℕ) → new ≡ (if same_word f.name name then Some k else found) → Latest fs name k found → Latest fs name (k + 1) new
  latest_next found new e h =
      subst (λ o. Latest fs name (k + 1) o) (sym e) ((elim (same_word f.name name) as (λ b. same_word f.name name ≡ b → Latest fs name (k + 1) (if b then Some k else found)) [ true ↦ λ is. latest_here is | false ↦ λ is. latest_other found is h ]) refl)

  -- ---- the first function that the outside calls by a name

  entry_step : (p : Program) (values : List ℤ) (b : Bool) → (not f.hidden && same_word (outer_name f.name) name) ≡ b → entry_among p (calls_of p (take k fs)) (map function_of (drop k fs)) name values
      ≡ (if b then entered p (calls_of p (take k fs)) (function_of f) values else entry_among p (calls_of p (take (k + 1) fs)) (map function_of (drop (k + 1) fs)) name values)
  entry_step p values b e =
      ap (λ xs. entry_among p (calls_of p (take k fs)) (map function_of xs) name values) (left_here fs k f here)
      ∙ ap (λ (b : Bool). if b then entered p (calls_of p (take k fs)) (function_of f) values else entry_among p (with_function p (calls_of p (take k fs)) (function_of f)) (map function_of (drop (k + 1) fs)) name values) e
      ∙ ap (λ (c : Calls). if b then entered p (calls_of p (take k fs)) (function_of f) values else entry_among p c (map function_of (drop (k + 1) fs)) name values) (sym (one_function_more p fs k f here))

  pub entry_here : EntryFrom fs name k → (not f.hidden && same_word (outer_name f.name) name) ≡ true → IsEnteredAt fs name k
  entry_here h e = record {
    within = slice_get_within fs k f here;
    entered_by = λ p values g is. h p values ∙ entry_step p values true e ∙ ap (λ x. entered p (calls_of p (take k fs)) (function_of x) values) (get_once fs k f g here is);
  }

  pub entry_other : EntryFrom fs name k → (not f.hidden && same_word (outer_name f.name) name) ≡ false → EntryFrom fs name (k + 1)
  entry_other h e = λ p values. h p values ∙ entry_step p values false e

take_all : {A : Type 0} (xs : List A) (k : ℕ) → length xs ≤ k → take k xs ≡ xs
take_all [] zero h = refl
take_all [] (suc k) h = refl
take_all (x ∷ xs) zero h = absurd (omega arith)
take_all (x ∷ xs) (suc k) h = ap (λ l. x ∷ l) (take_all xs k (omega arith))

pub latest_is : (fs : List CFunction) (name : Name) (k : ℕ) (found : Option ℕ) → length fs ≤ k → Latest fs name k found → MatchOption found (NoneIsCalled fs name) (λ j. IsCalledAt fs name j)
latest_is fs name k None h l = λ p values. ap (λ xs. calls_of p xs name values) (sym (take_all fs k h)) ∙ l p values
latest_is fs name k (Some j) h l = record { within = l.0; called = λ p values f is. ap (λ xs. calls_of p xs name values) (sym (take_all fs k h)) ∙ l.1 p values f is }

pub none_entered : (fs : List CFunction) (name : Name) (k : ℕ) → length fs ≤ k → EntryFrom fs name k → NoneIsEntered fs name
none_entered fs name k h e = λ p values. e p values ∙ ap (λ xs. entry_among p (calls_of p (take k fs)) (map function_of xs) name values) (nothing_left fs k h)

-- a statement of a row weighs less than the row
pub one_weight : (ss : List CStmt) (i : ℕ) (x : CStmt) → i < length ss → x ≡ get_or ss i x → weight (stmt_of x) < weights (stmts_of ss)
one_weight [] i x h is = absurd (omega arith)
one_weight (s ∷ ss) zero x h is = let e : weight (stmt_of x) ≡ weight (stmt_of s) = ap (λ y. weight (stmt_of y)) is in omega (arith, e)
one_weight (s ∷ ss) (suc i) x h is = omega (arith, one_weight ss i x (omega arith) is)

-- ---- the functions that are found

pub called_is : (fs : List CFunction) (name : Name) (k : ℕ) (earlier : List CFunction) (f : CFunction) → IsCalledAt fs name k → earlier ≡ take k fs → slice_get fs k ≡ Some f → IsCalled fs name earlier f
called_is fs name k earlier f at e is = record {
  less = subst (λ xs. load (map function_of xs) + weights (function_of f).body < load (map function_of fs)) (sym e) (earlier_load fs k f is);
  called = λ p values. at.called p values f is ∙ ap (λ xs. function_call p (calls_of p xs) (function_of f) values) (sym e);
}

pub entered_is : (fs : List CFunction) (name : Name) (k : ℕ) (earlier : List CFunction) (f : CFunction) → IsEnteredAt fs name k → earlier ≡ take k fs → slice_get fs k ≡ Some f → IsEntered fs name earlier f
entered_is fs name k earlier f at e is = record { entered_by = λ p values. at.entered_by p values f is ∙ ap (λ xs. entered p (calls_of p xs) (function_of f) values) (sym e) }
