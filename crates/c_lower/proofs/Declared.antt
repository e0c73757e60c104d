-- The names and types of the lowered unit are right, and so its text reads back.
use Rattle.std.proofs.Common.{◌≡◌, ◌≢◌, ℕ, zero, suc, ◌<◌, ◌^◌, Bool, true, false, Option, List, [], ◌∷◌, ◌++◌, map, length, Some, None, refl, sym, ◌∙◌, ap, subst, arith, append_assoc}
use Rattle.std.specs.Prelude.{slice_get, All, AllPairs, replicate, leb, nat_lt, nat_eq, ◌||◌, not, IsSome, codes, if◌then◌else◌}
use Rattle.std.specs.Option.{is_some, option_map}
use Rattle.std.proofs.lemmas.Bool.{le-leb, eq-eqb}
use Rattle.std.proofs.lemmas.Bool.Decides.{nat_tests}
use Rattle.std.proofs.lemmas.List.{append-nil}
use Rattle.iv_words.specs.Words.{same_word}
use Rattle.std.proofs.lemmas.List.Elements.{All-nil, All-head, All-tail, All-cons, All-push}
use Rattle.iv_words.specs.declared.IntKind.TheVariants.{U8}
use Rattle.first_form.specs.declared.FirstModule.{FirstModule}
use Rattle.first_form.specs.declared.FirstImport.{FirstImport}
use Rattle.first_form.specs.declared.FirstProc.{FirstProc}
use Rattle.first_form.specs.declared.FirstCall.{FirstCall}
use Rattle.ivory_lexer.specs.Tokens.{IsName}
use Rattle.first_form.specs.Valid.{CallFits, Valid}
use Rattle.c_ast.specs.declared.CScalar.TheVariants.{Int}
use Rattle.c_ast.specs.declared.CType.{CType}
use Rattle.c_ast.specs.declared.CType.TheVariants.{Void, Value}
use Rattle.c_ast.specs.declared.Target.{Target}
use Rattle.c_ast.specs.declared.Target.TheVariants.{T32}
use Rattle.c_ast.specs.declared.Arith.{Arith}
use Rattle.c_ast.specs.declared.Arith.TheVariants.{Int as int}
use Rattle.c_ast.specs.declared.Suffix.TheVariants.{Plain}
use Rattle.c_ast.specs.Conversions.{constant_type}
use Rattle.c_ast.specs.Names.{prefixed, stop_name}
use Rattle.c_ast.specs.Syntax.{FunctionCall, Call, Function}
use Rattle.c_text.specs.Spelling.{fixed_text, unit_text}
use Rattle.c_ast.specs.Names.{named}
use Rattle.c_ast.specs.Signatures.{Signature, stop_signature, extern_signature, function_signature}
use Rattle.c_ast.specs.StaticTypes.{Arithmetic, may_be_given}
use Rattle.c_ast.specs.declared.CKind.TheVariants.{Arith as Computed}
use Rattle.c_text.specs.StatementText.{indent, stmt_text}
use Rattle.c_text.specs.Rules.{Rule, NameIsNew, NameIsOfFile, CalledIsEarlier, ArgumentsAreCounted, ResultIsWanted, GivenIsWanted, ConstantHasType, Demand, ask, behind, where_typed}
use Rattle.c_text.specs.Scopes.{Names, is_taken, is_of_file}
use Rattle.c_text.specs.ExpressionRules.{args_demands, call_demands}
use Rattle.c_text.specs.StatementRules.{stmts_demands}
use Rattle.c_text.specs.UnitRules.{file_scope, inside, file_name, types_demands, functions_demands, externs_demands}
use Rattle.c_text.specs.Right.{IsKept, Right}
use Rattle.c_text.specs.ReadsBack.{ReadsBack}
use Rattle.c_text.proofs.Shallow.{right_reads_back}
use Rattle.c_lower.specs.Shape.{extern_for}
use Rattle.c_lower.specs.Lowered.{constant_for, name_of, body_for, function_for, lowered}
use Rattle.c_lower.proofs.Lists.{some_is, all_same, all_after, pairs_head, pairs_tail, pairs_after}
use Rattle.c_lower.proofs.Words.{same_self, same_equal, same_not}
use Rattle.c_lower.proofs.Identifiers.{word_some}
use Rattle.c_lower.proofs.Spelled.{import_names, proc_names, lowered_in_subset, lowered_nests}

abbrev Small : ℕ → Type 0
Small v = v < 2 ^ 8

abbrev Differs : List ℕ → List ℕ → Type 0
Differs a b = a ≢ b

-- ---- what is kept

record AreKept (ds : List Demand) : Type 0 where
  all : All IsKept ds

nothing : AreKept []
nothing = record { all = All-nil IsKept }

one_kept : (at : ℕ) (rule : Rule) (kept : Bool) → kept ≡ true → AreKept (ask at rule kept)
one_kept at rule kept is = record { all = All-cons IsKept (record { at = at; rule = rule; kept = kept }) [] is (All-nil IsKept) }

all_both : (ds es : List Demand) → All IsKept ds → All IsKept es → All IsKept (ds ++ es)
all_both [] es first second = second
all_both (d ∷ ds) es first second = All-cons IsKept d (ds ++ es) (All-head IsKept d ds first) (all_both ds es (All-tail IsKept d ds first) second)

both : {ds es : List Demand} → AreKept ds → AreKept es → AreKept (ds ++ es)
both {ds} {es} first second = record { all = all_both ds es first.all second.all }

-- ---- names

abbrev Table : Type 0
Table = List (List ℕ × Signature)

-- none of these names is declared yet
abbrev AreNew : Table → List (List ℕ) → Type 0
AreNew known names = All (λ n. named known (prefixed n) ≡ None) names

module _ (known : Table) (name : List ℕ) (s : Signature) where
  abbrev with_name : Table
  with_name = (prefixed name, s) ∷ known

  other_new : (n : List ℕ) → Differs name n → named known (prefixed n) ≡ None → named with_name (prefixed n) ≡ None
  other_new n differ new = ap (λ b. if b then Some s else named known (prefixed n)) (same_not name n differ) ∙ new

  -- after a name is declared, the others still are new
  still_new : (names : List (List ℕ)) → All (Differs name) names → AreNew known names → AreNew with_name names
  still_new [] differ new = All-nil (λ n. named with_name (prefixed n) ≡ None)
  still_new (n ∷ ns) differ new =
      All-cons (λ n. named with_name (prefixed n) ≡ None) n ns (other_new n (All-head (Differs name) n ns differ) (All-head (λ n. named known (prefixed n) ≡ None) n ns new))
      (still_new ns (All-tail (Differs name) n ns differ) (All-tail (λ n. named known (prefixed n) ≡ None) n ns new))

  found_later : (new : named known (prefixed name) ≡ None) (x : List ℕ) (t : Signature) (b : Bool) → same_word (prefixed name) x ≡ b → named known x ≡ Some t → (if b then Some s else named known x) ≡ Some t
  found_later new x t true same found =
      let is : prefixed name ≡ x = same_equal (prefixed name) x same in
      let no : None ≡ Some t = sym new ∙ ap (named known) is ∙ found in cc
  found_later new x t false same found = found

  -- and what was found is found
  still_found : named known (prefixed name) ≡ None → (x : List ℕ) (t : Signature) → named known x ≡ Some t → named with_name x ≡ Some t
  still_found new x t found = found_later new x t (same_word (prefixed name) x) refl found

abbrev signature_for : FirstImport → Signature
signature_for i = extern_signature (extern_for i)

-- each of the imports is declared
abbrev Reaches : Table → List FirstImport → Type 0
Reaches known imports = All (λ i. named known (prefixed i.name) ≡ Some (signature_for i)) imports

still_reaches : (known : Table) (name : List ℕ) (s : Signature) → named known (prefixed name) ≡ None → (is : List FirstImport) → Reaches known is → Reaches ((prefixed name, s) ∷ known) is
still_reaches known name s new is reaches =
    all_same (λ i. named known (prefixed i.name) ≡ Some (signature_for i)) (λ i. named ((prefixed name, s) ∷ known) (prefixed i.name) ≡ Some (signature_for i))
    (λ i found. still_found known name s new (prefixed i.name) (signature_for i) found) is reaches

at_index : (P : FirstImport → Type 0) (is : List FirstImport) → All P is → (k : ℕ) (i : FirstImport) → slice_get is k ≡ Some i → P i
at_index P [] all k i e = let no : ⊥ = cc in absurd no
at_index P (j ∷ is) all zero i e = subst P (some_is j i e) (All-head P j is all)
at_index P (j ∷ is) all (suc k) i e = at_index P is (All-tail P j is all) k i e

longer : (name : List ℕ) → 0 < length name → nat_lt 3 (length (prefixed name)) ≡ true
longer [] some = absurd (omega (arith, some))
longer (b ∷ bs) some = grind (arith, nat_tests)

-- a new name of file scope
name_kept : (known : Table) (at : ℕ) (name : List ℕ) → IsName name → named known (prefixed name) ≡ None → AreKept (file_name (file_scope [] known []) at (prefixed name))
name_kept known at name is new =
    both (one_kept at NameIsOfFile (is_of_file (prefixed name)) (ap (λ b. b || same_word (prefixed name) stop_name) (longer name (word_some name is.0))))
    (one_kept at NameIsNew (not (is_taken (file_scope [] known []) (prefixed name))) (ap (λ found. not (is_some found || false)) new))

-- ---- arguments and calls

some_first : (b : Bool) (rest : Option Arith) → b ≡ true → IsSome (if b then Some int else rest)
some_first true rest e = refl
some_first false rest e = let no : ⊥ = cc in absurd no

-- a small number is an int constant
has_type : (target : Target) (v : ℕ) → Small v → IsSome (constant_type target Plain v)
has_type T32 v small = some_first (leb v 2147483647) _ (le-leb v 2147483647 (omega (arith, small)))

number_given : (type : Option Arith) → where_typed (λ v. may_be_given v (Value (Int U8))) (option_map (λ a. Arithmetic (Computed a)) type) ≡ true
number_given None = refl
number_given (Some a) = refl

module _ (target : Target) (names : Names) where
  args_kept : (values : List ℕ) (at : ℕ) → All Small values → AreKept (args_demands target names at (replicate (length values) (Value (Int U8))) (map constant_for values))
  args_kept [] at small = nothing
  args_kept (v ∷ vs) at small =
      both (both (one_kept at GivenIsWanted _ (number_given (constant_type target Plain v))) (one_kept at ConstantHasType _ (has_type target v (All-head Small v vs small))))
      (args_kept vs _ (All-tail Small v vs small))

counted : (k n : ℕ) → k ≡ n → nat_eq k n ≡ true
counted k n e = eq-eqb k n e

length_replicated : {X : Type 0} (k : ℕ) (x : X) → length (replicate k x) ≡ k
length_replicated zero x = refl
length_replicated (suc k) x = ap suc (length_replicated k x)

length_mapped : {X Y : Type 0} (f : X → Y) (xs : List X) → length (map f xs) ≡ length xs
length_mapped f [] = refl
length_mapped f (x ∷ xs) = ap suc (length_mapped f xs)

module _ (target : Target) (imports : List FirstImport) where
  abbrev called_for : FirstCall → FunctionCall
  called_for c = record { name = prefixed (name_of (slice_get imports c.import)); args = map constant_for c.values }

  call_kept : (names : Names) → Reaches names.functions imports → (at : ℕ) (c : FirstCall) → CallFits imports c → AreKept (call_demands target names at None (called_for c))
  call_kept names reaches at c fits =
      let s : Signature = signature_for fits.target in
      let reached : named names.functions (prefixed fits.target.name) ≡ Some s = at_index (λ i. named names.functions (prefixed i.name) ≡ Some (signature_for i)) imports reaches c.import fits.target fits.found in
      let found : named names.functions (called_for c).name ≡ Some s = ap (λ i. named names.functions (prefixed (name_of i))) fits.found ∙ reached in
      let many : length s.params ≡ length (called_for c).args = length_replicated fits.target.params (Value (Int U8)) ∙ sym fits.counted ∙ sym (length_mapped constant_for c.values) in
      rw found (both (both (both (one_kept at CalledIsEarlier true refl) (one_kept at ArgumentsAreCounted _ (counted (length s.params) (length (called_for c).args) many))) (one_kept at ResultIsWanted true refl))
      (subst (λ k. AreKept (args_demands target names (behind at ((called_for c).name ++ codes "(")) (replicate k (Value (Int U8))) (map constant_for c.values))) fits.counted
      (args_kept target names c.values (behind at ((called_for c).name ++ codes "(")) fits.small)))

  calls_kept : (result : CType) (in_loop : Bool) (braces : ℕ) (names : Names) → Reaches names.functions imports → (at : ℕ) (cs : List FirstCall) → All (CallFits imports) cs
      → AreKept (stmts_demands target result in_loop braces names at (body_for imports cs))
  calls_kept result in_loop braces names reaches at [] fits = nothing
  calls_kept result in_loop braces names reaches at (c ∷ cs) fits =
      both (call_kept names reaches (behind at (indent braces)) c (All-head (CallFits imports) c cs fits))
      (calls_kept result in_loop braces names reaches (behind at (stmt_text braces (Call (called_for c)))) cs (All-tail (CallFits imports) c cs fits))

  functions_kept : (known : Table) → Reaches known imports → (at : ℕ) (ps : List FirstProc) → All IsName (map (λ p. p.name) ps) → AreNew known (map (λ p. p.name) ps) → AllPairs Differs (map (λ p. p.name) ps)
      → All (λ p. All (CallFits imports) p.calls) ps → AreKept (functions_demands target [] known [] at (map (function_for imports) ps))
  functions_kept known reaches at [] named_ new differ fits = nothing
  functions_kept known reaches at (p ∷ ps) named_ new differ fits =
      let names : List (List ℕ) = map (λ p. p.name) ps in
      let f : Function = function_for imports p in
      let fresh : named known (prefixed p.name) ≡ None = All-head (λ n. named known (prefixed n) ≡ None) p.name names new in
      let others : AreNew known names = All-tail (λ n. named known (prefixed n) ≡ None) p.name names new in
      both (both (name_kept known _ p.name (All-head IsName p.name names named_) fresh)
      (calls_kept Void false 1 (inside (file_scope [] known []) f.name) reaches _ p.calls (All-head (λ p. All (CallFits imports) p.calls) p ps fits)))
      (functions_kept ((f.name, function_signature f) ∷ known) (still_reaches known p.name (function_signature f) fresh imports reaches) _ ps (All-tail IsName p.name names named_)
      (still_new known p.name (function_signature f) names (pairs_head Differs p.name names differ) others) (pairs_tail Differs p.name names differ) (All-tail (λ p. All (CallFits imports) p.calls) p ps fits))

-- no parameter has a tag
params_kept : (names : Names) (k at : ℕ) → AreKept (types_demands names at (replicate k (Value (Int U8))))
params_kept names zero at = nothing
params_kept names (suc k) at = params_kept names k _

reaches_more : (known : Table) (before : List FirstImport) (i : FirstImport) → Reaches known before → named known (prefixed i.name) ≡ Some (signature_for i) → Reaches known (before ++ i ∷ [])
reaches_more known before i reaches found = All-push (λ i. named known (prefixed i.name) ≡ Some (signature_for i)) before i reaches found

same_named : (known : Table) (name : List ℕ) (s : Signature) → named ((prefixed name, s) ∷ known) (prefixed name) ≡ Some s
same_named known name s = ap (λ b. if b then Some s else named known (prefixed name)) (same_self (prefixed name))

module _ (target : Target) (rest : List (List ℕ)) (fs : List Function) (all : List FirstImport) where
  abbrev names_from : List FirstImport → List (List ℕ)
  names_from is = map (λ i. i.name) is ++ rest

  -- what is asked of the functions once all externs are known
  abbrev Onward : Type 0
  Onward = (known : Table) (at : ℕ) → Reaches known all → AreNew known rest → AreKept (functions_demands target [] known [] at fs)

  externs_kept : (before is : List FirstImport) → before ++ is ≡ all → (known : Table) (at : ℕ) → Reaches known before → All IsName (names_from is) → AreNew known (names_from is) → AllPairs Differs (names_from is)
      → Onward → AreKept (externs_demands target [] known at (map extern_for is) [] fs)
  externs_kept before [] is known at reaches named_ new differ go = go known at (subst (Reaches known) (sym (append-nil before) ∙ is) reaches) new
  externs_kept before (i ∷ is) whole known at reaches named_ new differ go =
      let names : List (List ℕ) = names_from is in
      let s : Signature = signature_for i in
      let later : Table = (prefixed i.name, s) ∷ known in
      let fresh : named known (prefixed i.name) ≡ None = All-head (λ n. named known (prefixed n) ≡ None) i.name names new in
      let others : AreNew known names = All-tail (λ n. named known (prefixed n) ≡ None) i.name names new in
      both (both (name_kept known _ i.name (All-head IsName i.name names named_) fresh) (params_kept (file_scope [] known []) i.params _))
      (externs_kept (before ++ i ∷ []) is (append_assoc before (i ∷ []) is ∙ whole) later _
      (reaches_more later before i (still_reaches known i.name s fresh before reaches) (same_named known i.name s))
      (All-tail IsName i.name names named_) (still_new known i.name s names (pairs_head Differs i.name names differ) others) (pairs_tail Differs i.name names differ) go)

-- at first nothing is declared but `ivory_stop`
abbrev first_table : Table
first_table = (stop_name, stop_signature) ∷ []

all_new : (names : List (List ℕ)) → AreNew first_table names
all_new [] = All-nil (λ n. named first_table (prefixed n) ≡ None)
all_new (n ∷ ns) = All-cons (λ n. named first_table (prefixed n) ≡ None) n ns refl (all_new ns)

module _ (m : FirstModule) (valid : Valid m) where
  lowered_right : (target : Target) → Right target (lowered m)
  lowered_right target =
      let imports : List (List ℕ) = import_names m valid in
      let procs : List (List ℕ) = proc_names m valid in
      record {
        kept = (externs_kept target procs (map (function_for m.imports) m.procs) m.imports [] m.imports refl first_table (behind 0 fixed_text) (All-nil (λ i. named first_table (prefixed i.name) ≡ Some (signature_for i)))
            valid.named (all_new (imports ++ procs)) valid.different
            (λ known at reaches new. functions_kept target m.imports known reaches at m.procs (all_after IsName imports procs valid.named) new (pairs_after Differs imports procs valid.different) valid.calls)).all;
      }

  pub lowered_reads_back : (target : Target) → ReadsBack (lowered m) (unit_text (lowered m)) target
  lowered_reads_back target = right_reads_back (lowered m) target (lowered_in_subset m valid) (lowered_right target) (omega (arith, lowered_nests m))
