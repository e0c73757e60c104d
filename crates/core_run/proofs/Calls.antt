-- What calls and entry calls reach, from the first procedure of a module to the last.
use Rattle.std.proofs.Common.{◌≡◌, ◌≢◌, ℕ, zero, suc, ◌+◌, ◌<◌, ◌≤◌, ℤ, Bool, true, false, List, [], ◌∷◌, ◌++◌, length, map, take, drop, get_or, Option, Some, None, refl, sym, ap, ◌∙◌, subst, arith, if◌then◌else◌}
use Rattle.std.specs.Prelude.{◌&&◌, ◌==◌, slice_get, MatchOption}
use Rattle.std.specs.Option.{option_map}
use Rattle.std.proofs.lemmas.Bool.{eq-eqb, ne_eqb}
use Rattle.std.proofs.lemmas.List.{map-append, length-map}
use Rattle.std.proofs.lemmas.Option.{slice_get_within, slice_get-map, slice_get_past}
use Rattle.iv_words.specs.Words.{same_word}
use Rattle.run_world.proofs.Rests.{nothing_left}
use Rattle.step_semantics.specs.Steps.{Part}
use Rattle.area_types.specs.Syntax.{Name}
use Rattle.core_tree.specs.Syntax.{ModuleCore, ProcCore}
use Rattle.core_tree.specs.View.{proc_of, stmt_of, stmts_of}
use Rattle.core_tree.specs.declared.CoreProc.{CoreProc}
use Rattle.core_tree.specs.declared.CoreStmt.{CoreStmt}
use Rattle.core_meaning.specs.Calls.{Calls, no_procedures}
use Rattle.core_meaning.specs.Checks.{formless}
use Rattle.core_meaning.specs.Run.{procedure_call, with_procedure, entry_among}
use Rattle.core_meaning.specs.State.{State}
use Rattle.core_meaning.specs.Values.{Value}
use Rattle.core_run.specs.Calls.{calls_after, calls_of, weight, weights, load}
use Rattle.core_run.specs.Entries.{entered}
use Rattle.core_run.specs.Found.{NoneIsCalled, IsCalled, NoneIsEntered, IsEnteredAt, IsEntered}

module _ (core : ModuleCore) where
  -- ---- a call by a number

  chosen : (b c : Bool) (e : b ≡ c) (x y : Part State (Option Value)) → (if b then x else y) ≡ (if c then x else y)
  chosen b c e x y = ap (λ (d : Bool). if d then x else y) e

  -- procedures with larger numbers change no call
  with_larger : (ps : List ProcCore) (number callee : ℕ) (earlier : Calls) (args : List Value) → callee < number → calls_after core number earlier ps callee args ≡ earlier callee args
  with_larger [] number callee earlier args h = refl
  with_larger (p ∷ ps) number callee earlier args h =
      with_larger ps (suc number) callee (with_procedure core earlier number p) args (omega arith)
      ∙ chosen (number == callee) false (ne_eqb number callee (λ e. omega arith)) (procedure_call core earlier p args) (earlier callee args)

  called_at : (ps : List ProcCore) (number i : ℕ) (earlier : Calls) (p : ProcCore) (args : List Value) → slice_get ps i ≡ Some p
      → calls_after core number earlier ps (number + i) args ≡ procedure_call core (calls_after core number earlier (take i ps)) p args
  called_at [] number i earlier p args h = absurd (cc)
  called_at (x ∷ ps) number zero earlier p args h =
      let same : x ≡ p = cc in
      let e : number ≡ number + 0 = omega arith in
      ap (λ k. calls_after core (suc number) (with_procedure core earlier number x) ps k args) (sym e)
      ∙ with_larger ps (suc number) number (with_procedure core earlier number x) args (omega arith)
      ∙ chosen (number == number) true (eq-eqb number number refl) (procedure_call core earlier x args) (earlier number args)
      ∙ ap (λ y. procedure_call core earlier y args) same
  called_at (x ∷ ps) number (suc i) earlier p args h =
      let e : number + suc i ≡ suc number + i = omega arith in
      ap (λ k. calls_after core number earlier (x ∷ ps) k args) e ∙ called_at ps (suc number) i (with_procedure core earlier number x) p args h

  none_at : (ps : List ProcCore) (number callee : ℕ) (earlier : Calls) (args : List Value) → number + length ps ≤ callee → calls_after core number earlier ps callee args ≡ earlier callee args
  none_at [] number callee earlier args h = refl
  none_at (p ∷ ps) number callee earlier args h =
      none_at ps (suc number) callee (with_procedure core earlier number p) args (omega arith)
      ∙ chosen (number == callee) false (ne_eqb number callee (λ e. omega arith)) (procedure_call core earlier p args) (earlier callee args)

  after_last : (number : ℕ) (earlier : Calls) (xs : List ProcCore) (p : ProcCore) → calls_after core number earlier (xs ++ p ∷ []) ≡ with_procedure core (calls_after core number earlier xs) (number + length xs) p
  after_last number earlier [] p = let e : number ≡ number + 0 = omega arith in ap (λ k. with_procedure core earlier k p) e
  after_last number earlier (x ∷ xs) p =
      let e : suc number + length xs ≡ number + suc (length xs) = omega arith in
      after_last (suc number) (with_procedure core earlier number x) xs p ∙ ap (λ k. with_procedure core (calls_after core (suc number) (with_procedure core earlier number x) xs) k p) e

-- ---- one procedure more

taken_more : {A : Type 0} (xs : List A) (k : ℕ) (x : A) → slice_get xs k ≡ Some x → take (k + 1) xs ≡ take k xs ++ x ∷ []
taken_more [] k x h = absurd (cc)
taken_more (y ∷ ys) zero x h = let e : y ≡ x = cc in ap (λ z. z ∷ []) e
taken_more (y ∷ ys) (suc k) x h = let e : suc k + 1 ≡ suc (k + 1) = omega arith in ap (λ n. take n (y ∷ ys)) e ∙ ap (λ l. y ∷ l) (taken_more ys k x h)

taken_length : {A : Type 0} (xs : List A) (k : ℕ) (x : A) → slice_get xs k ≡ Some x → length (take k xs) ≡ k
taken_length [] k x h = absurd (cc)
taken_length (y ∷ ys) zero x h = refl
taken_length (y ∷ ys) (suc k) x h = ap suc (taken_length ys k x h)

left_here : {A : Type 0} (xs : List A) (k : ℕ) (x : A) → slice_get xs k ≡ Some x → drop k xs ≡ x ∷ drop (k + 1) xs
left_here [] k x h = absurd (cc)
left_here (y ∷ ys) zero x h = let e : y ≡ x = cc in ap (λ z. z ∷ ys) e
left_here (y ∷ ys) (suc k) x h = let e : suc k + 1 ≡ suc (k + 1) = omega arith in left_here ys k x h ∙ ap (λ n. x ∷ drop n (y ∷ ys)) (sym e)

map_take : {A B : Type 0} (f : A → B) (k : ℕ) (xs : List A) → map f (take k xs) ≡ take k (map f xs)
map_take f zero xs = refl
map_take f (suc k) [] = refl
map_take f (suc k) (x ∷ xs) = ap (λ l. f x ∷ l) (map_take f k xs)

from_zero : (n : ℕ) → 0 + n ≡ n
from_zero n = omega arith

pub one_procedure_more : (core : ModuleCore) (ps : List CoreProc) (k : ℕ) (p : CoreProc) → slice_get ps k ≡ Some p → calls_of core (take (k + 1) ps) ≡ with_procedure core (calls_of core (take k ps)) k (proc_of p)
one_procedure_more core ps k p h =
    ap (calls_of core) (taken_more ps k p h) ∙ ap (calls_after core 0 (no_procedures core)) (map-append proc_of (take k ps) (p ∷ []))
    ∙ after_last core 0 (no_procedures core) (map proc_of (take k ps)) (proc_of p)
    ∙ ap (λ j. with_procedure core (calls_of core (take k ps)) j (proc_of p)) (from_zero (length (map proc_of (take k ps))) ∙ length-map (take k ps) proc_of ∙ taken_length ps k p h)

-- ---- how much there is to walk

earlier_load : (ps : List CoreProc) (k : ℕ) (p : CoreProc) → slice_get ps k ≡ Some p → load (map proc_of (take k ps)) + weights (proc_of p).body < load (map proc_of ps)
earlier_load [] k p h = absurd (cc)
earlier_load (x ∷ ps) zero p h = let e : x ≡ p = cc in subst (λ y. 0 + weights (proc_of y).body < load (map proc_of (x ∷ ps))) e (omega arith)
earlier_load (x ∷ ps) (suc k) p h = omega (arith, earlier_load ps k p h)

-- a statement of a row weighs less than the row
pub one_weight : (ss : List CoreStmt) (i : ℕ) (x : CoreStmt) → i < length ss → x ≡ get_or ss i x → weight (stmt_of x) < weights (stmts_of ss)
one_weight [] i x h is = absurd (omega arith)
one_weight (s ∷ ss) zero x h is = let e : weight (stmt_of x) ≡ weight (stmt_of s) = ap (λ y. weight (stmt_of y)) is in omega (arith, e)
one_weight (s ∷ ss) (suc i) x h is = omega (arith, one_weight ss i x (omega arith) is)

-- ---- the procedures that are called

pub called_is : (ps : List CoreProc) (k : ℕ) (earlier : List CoreProc) (p : CoreProc) → earlier ≡ take k ps → slice_get ps k ≡ Some p → IsCalled ps k earlier p
called_is ps k earlier p e is = record {
  less = subst (λ xs. load (map proc_of xs) + weights (proc_of p).body < load (map proc_of ps)) (sym e) (earlier_load ps k p is);
  called = λ core args. ap (λ j. calls_after core 0 (no_procedures core) (map proc_of ps) j args) (sym (from_zero k)) ∙ called_at core (map proc_of ps) 0 k (no_procedures core) (proc_of p) args (slice_get-map proc_of ps k ∙ ap (option_map proc_of) is)
      ∙ ap (λ xs. procedure_call core (calls_after core 0 (no_procedures core) xs) (proc_of p) args) (sym (map_take proc_of k ps) ∙ ap (map proc_of) (sym e));
}

pub none_called : (ps : List CoreProc) (k : ℕ) → length ps ≤ k → NoneIsCalled ps k
none_called ps k h = λ core args. none_at core (map proc_of ps) 0 k (no_procedures core) args (omega (arith, length-map ps proc_of))

-- ---- the first procedure that the outside calls by a name

get_once : (ps : List CoreProc) (k : ℕ) (p q : CoreProc) → slice_get ps k ≡ Some p → slice_get ps k ≡ Some q → p ≡ q
get_once ps k p q h e = let both : Some p ≡ Some q = sym h ∙ e in cc

-- the procedures from k on are left to look at
abbrev pub EntryFrom : List CoreProc → Name → ℕ → Type 0
EntryFrom ps name k = (core : ModuleCore) (values : List ℤ) → entry_among core (no_procedures core) 0 (map proc_of ps) name values ≡ entry_among core (calls_of core (take k ps)) k (map proc_of (drop k ps)) name values

module _ (ps : List CoreProc) (name : Name) (k : ℕ) (p : CoreProc) (here : slice_get ps k ≡ Some p) where
  entry_step : (core : ModuleCore) (values : List ℤ) (b : Bool) → (p.exported && same_word p.name name) ≡ b → entry_among core (calls_of core (take k ps)) k (map proc_of (drop k ps)) name values
      ≡ (if b then entered core (calls_of core (take k ps)) (proc_of p) values else entry_among core (calls_of core (take (k + 1) ps)) (k + 1) (map proc_of (drop (k + 1) ps)) name values)
  entry_step core values b e =
      let next : suc k ≡ k + 1 = omega arith in
      ap (λ xs. entry_among core (calls_of core (take k ps)) k (map proc_of xs) name values) (left_here ps k p here)
      ∙ ap (λ (b : Bool). if b then entered core (calls_of core (take k ps)) (proc_of p) values else entry_among core (with_procedure core (calls_of core (take k ps)) k (proc_of p)) (suc k) (map proc_of (drop (k + 1) ps)) name values) e
      ∙ ap (λ (c : Calls). if b then entered core (calls_of core (take k ps)) (proc_of p) values else entry_among core c (suc k) (map proc_of (drop (k + 1) ps)) name values) (sym (one_procedure_more core ps k p here))
      ∙ ap (λ j. if b then entered core (calls_of core (take k ps)) (proc_of p) values else entry_among core (calls_of core (take (k + 1) ps)) j (map proc_of (drop (k + 1) ps)) name values) next

  pub entry_here : EntryFrom ps name k → (p.exported && same_word p.name name) ≡ true → IsEnteredAt ps name k
  entry_here h e = record {
    within = slice_get_within ps k p here;
    entered_by = λ core values q is. h core values ∙ entry_step core values true e ∙ ap (λ x. entered core (calls_of core (take k ps)) (proc_of x) values) (get_once ps k p q here is);
  }

  pub entry_other : EntryFrom ps name k → (p.exported && same_word p.name name) ≡ false → EntryFrom ps name (k + 1)
  entry_other h e = λ core values. h core values ∙ entry_step core values false e

pub none_entered : (ps : List CoreProc) (name : Name) (k : ℕ) → length ps ≤ k → EntryFrom ps name k → NoneIsEntered ps name
none_entered ps name k h e = λ core values. e core values ∙ ap (λ xs. entry_among core (calls_of core (take k ps)) k (map proc_of xs) name values) (nothing_left ps k h)

pub entered_is : (ps : List CoreProc) (name : Name) (k : ℕ) (earlier : List CoreProc) (p : CoreProc) → IsEnteredAt ps name k → earlier ≡ take k ps → slice_get ps k ≡ Some p → IsEntered ps name earlier p
entered_is ps name k earlier p at e is = record { entered_by = λ core values. at.entered_by core values p is ∙ ap (λ xs. entered core (calls_of core xs) (proc_of p) values) (sym e) }
