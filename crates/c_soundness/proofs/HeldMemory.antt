-- A memory of objects whose scalars are indeterminate or hold numbers of their types: what is read of it is such a number, and each
-- operation keeps it so.
use Rattle.std.proofs.Common.{◌≡◌, ℕ, suc, ◌<◌, ◌≤◌, ℤ, Bool, true, false, List, [], ◌∷◌, ◌++◌, length, map, Option, Some, None, Result, Ok, Err, refl, sym, ap, subst, arith, ◌∙◌, ◌⊎◌, inl, inr}
use Rattle.std.specs.Prelude.{⊤}
use Rattle.std.proofs.lemmas.Bool.{cases_eq, cases_lt}
use Rattle.type_trees.specs.Layouts.{Metric, lay}
use Rattle.c_memory.specs.Abstract.{Lawful, Operations, Same, At, Unlaid, Made, Left}
use Rattle.c_memory.specs.Access.{Fault, laid_out, known, and_then}
use Rattle.c_memory.specs.Copies.{write_each}
use Rattle.c_memory.specs.Seen.{EachFits}
use Rattle.c_memory.proofs.Laid.{laid_there, laid_stands}
use Rattle.c_ast.specs.declared.CScalar.{CScalar}
use Rattle.c_ast.specs.declared.Target.{Target}
use Rattle.c_ast.specs.Scalars.{metric_of}
use Rattle.c_ast.specs.StaticTypes.{same_scalar}
use Rattle.c_ast.specs.Structs.{CTree}
use Rattle.c_ast.specs.Syntax.{Name}
use Rattle.c_ast.specs.Targets.{table_of}
use Rattle.c_meaning.specs.Memory.{CObjects, memory_of}
use Rattle.c_meaning.specs.ExpressionLaws.{ReadsAreHeld}
use Rattle.c_meaning.specs.Laws.{CanHold}
use Rattle.c_meaning.proofs.Memory.{scalars_are_sound, memory_is_lawful}

module _ (t : Target) where
  abbrev M : Operations CScalar Name ℤ
  M = memory_of t

  abbrev m : Metric CScalar
  m = metric_of t

  abbrev law : Lawful m (CanHold t) M
  law = memory_is_lawful t

  -- what a scalar shows
  abbrev pub MayHold : CScalar → Option ℤ → Type 0
  MayHold k None = ⊤
  MayHold k (Some v) = CanHold t k v

  pub record ShowsHeld (mem : CObjects) (o : ℕ) : Type 0 where
    pub constant : Bool
    pub type : CTree
    pub values : List (Option ℤ)
    pub shows : (memory_of t).Shows mem o constant type values
    pub held : EachFits MayHold (lay (metric_of t) type 0) values

  pub record MemoryHeld (mem : CObjects) : Type 0 where
    pub shown : (o : ℕ) → (memory_of t).live mem o ≡ true → ShowsHeld mem o

  -- ---- one scalar among those of an object

  record Split (left : List (ℕ × CScalar)) (x : ℕ × CScalar) (right : List (ℕ × CScalar)) (values : List (Option ℤ)) : Type 0 where
    before : List (Option ℤ)
    value : Option ℤ
    after : List (Option ℤ)
    is : values ≡ before ++ value ∷ after
    number : length left ≡ length before
    held : MayHold x.1 value
    again : (w : Option ℤ) → MayHold x.1 w → EachFits MayHold (left ++ x ∷ right) (before ++ w ∷ after)

  split : (left : List (ℕ × CScalar)) (x : ℕ × CScalar) (right : List (ℕ × CScalar)) (values : List (Option ℤ)) → EachFits MayHold (left ++ x ∷ right) values → Split left x right values
  split [] x right [] h = absurd h
  split [] x right (v ∷ vs) h = record { before = []; value = v; after = vs; is = refl; number = refl; held = h.0; again = λ w may. (may, h.1) }
  split (y ∷ left) x right [] h = absurd h
  split (y ∷ left) x right (v ∷ vs) h =
      let s = split left x right vs h.1 in
      record { before = v ∷ s.before; value = s.value; after = s.after; is = ap (λ l. v ∷ l) s.is; number = ap suc s.number; held = s.held; again = λ w may. (h.0, s.again w may) }

  -- a scalar that stands in a type, and what it shows
  record Stands (mem : CObjects) (o : ℕ) (x : ℕ × CScalar) (s : ShowsHeld mem o) : Type 0 where
    left : List (ℕ × CScalar)
    right : List (ℕ × CScalar)
    is : lay m s.type 0 ≡ left ++ x ∷ right
    parts : Split left x right s.values

  stands : (mem : CObjects) (o : ℕ) (x : ℕ × CScalar) (s : ShowsHeld mem o) → laid_out same_scalar x (lay m s.type 0) ≡ true → Stands mem o x s
  stands mem o x s laid =
      let at = laid_stands same_scalar (scalars_are_sound (table_of t)).exact x (lay m s.type 0) laid in
      record { left = at.left; right = at.right; is = at.is; parts = split at.left x at.right s.values (subst (λ l. EachFits MayHold l s.values) at.is s.held) }

  unlaid_of : (a : CTree) (x : ℕ × CScalar) → laid_out same_scalar x (lay m a 0) ≡ false → Unlaid m M a x
  unlaid_of a x not left right is =
      let there : laid_out same_scalar x (lay m a 0) ≡ true = subst (λ l. laid_out same_scalar x l ≡ true) (sym is) (laid_there same_scalar x left right ((scalars_are_sound (table_of t)).itself x.1)) in
      let no : false ≡ true = sym not ∙ there in let bad : ⊥ = cc in bad

  module _ (mem : CObjects) (o : ℕ) (x : ℕ × CScalar) (s : ShowsHeld mem o) (w : Stands mem o x s) where
    shows_at : M.Shows mem o s.constant s.type (w.parts.before ++ w.parts.value ∷ w.parts.after)
    shows_at = subst (λ us. M.Shows mem o s.constant s.type us) w.parts.is s.shows

    stands_at : At m M s.type x w.parts.before w.parts.after
    stands_at = record { left = w.left; right = w.right; is = w.is; number = w.parts.number }

  -- ---- reads

  known_held : (k : CScalar) (u : Option ℤ) (v : ℤ) → MayHold k u → known u ≡ Ok v → CanHold t k v
  known_held k (Some w) v h e = let same : w ≡ v = cc in subst (CanHold t k) same h
  known_held k None v h e = let no : ⊥ = cc in absurd no

  read_laid : (mem : CObjects) (o : ℕ) (x : ℕ × CScalar) (v : ℤ) (s : ShowsHeld mem o) (test : Bool) → laid_out same_scalar x (lay m s.type 0) ≡ test → M.read mem o x ≡ Ok v → CanHold t x.1 v
  read_laid mem o x v s true laid is =
      let w = stands mem o x s laid in
      known_held x.1 w.parts.value v w.parts.held
      (sym (law.reads mem o s.constant s.type x w.parts.before w.parts.after w.parts.value (shows_at mem o x s w) (stands_at mem o x s w)) ∙ is)
  read_laid mem o x v s false laid is =
      let fault = law.unlaid_reads mem o s.constant s.type s.values x s.shows (unlaid_of s.type x laid) in
      let no : ⊥ = (let e = sym is ∙ fault in cc) in absurd no

  read_live : (mem : CObjects) → MemoryHeld mem → (o : ℕ) (x : ℕ × CScalar) (v : ℤ) (test : Bool) → M.live mem o ≡ test → M.read mem o x ≡ Ok v → CanHold t x.1 v
  read_live mem h o x v true live is = let s = h.shown o live in read_laid mem o x v s (laid_out same_scalar x (lay m s.type 0)) refl is
  read_live mem h o x v false dead is = let fault = law.dead_reads mem o x dead in let no : ⊥ = (let e = sym is ∙ fault in cc) in absurd no

  pub reads_held : (mem : CObjects) → MemoryHeld mem → ReadsAreHeld t mem
  reads_held mem h o x v is = read_live mem h o x v (M.live mem o) refl is

  -- ---- objects that stay as they are

  moved : (mem new : CObjects) (q : ℕ) → Same m M mem new q → ShowsHeld mem q → ShowsHeld new q
  moved mem new q same s = record { constant = s.constant; type = s.type; values = s.values; shows = same.shows s.constant s.type s.values s.shows; held = s.held }

  -- ---- a write

  abbrev Wrote : (mem new : CObjects) (o : ℕ) (x : ℕ × CScalar) (v : ℤ) → Type 0
  Wrote mem new o x v = M.write mem o x v ≡ Ok new

  module _ (mem new : CObjects) (h : MemoryHeld mem) (o : ℕ) (x : ℕ × CScalar) (v : ℤ) (can : CanHold t x.1 v) (is : Wrote mem new o x v) where
    refused : {A : Type 0} (fault : Fault) → M.write mem o x v ≡ Err fault → A
    refused fault e = let no : ⊥ = (let both = sym is ∙ e in cc) in absurd no

    -- where object o then shows just held values
    others_too : ShowsHeld new o → MemoryHeld new
    others_too s = record { shown = λ q live. by q live (cases_eq q o) }
      where
        by : (q : ℕ) → M.live new q ≡ true → (q ≡ o) ⊎ (q ≡ o → ⊥) → ShowsHeld new q
        by q live (inl e) = subst (ShowsHeld new) (sym e) s
        by q live (inr ne) = let same = law.others_stay mem new o x v q is ne in moved mem new q same (h.shown q (sym same.live ∙ live))

    write_object : (c : Bool) (a : CTree) (left right : List (ℕ × CScalar)) (before after : List (Option ℤ)) (u : Option ℤ) → M.Shows mem o c a (before ++ u ∷ after) → At m M a x before after
        → EachFits MayHold (lay m a 0) (before ++ Some v ∷ after) → ShowsHeld new o
    write_object true a left right before after u shows at held = refused _ (law.const_writes mem o a x before after u v shows at)
    write_object false a left right before after u shows at held =
        let w = law.writes mem o a x before after u v shows at can in
        let same : w.new ≡ new = (let both = sym w.is ∙ is in cc) in
        record { constant = false; type = a; values = before ++ Some v ∷ after; shows = subst (λ q. M.Shows q o false a (before ++ Some v ∷ after)) same w.shows; held = held }

    write_laid : (s : ShowsHeld mem o) (test : Bool) → laid_out same_scalar x (lay m s.type 0) ≡ test → MemoryHeld new
    write_laid s true laid =
        let w = stands mem o x s laid in
        others_too (write_object s.constant s.type w.left w.right w.parts.before w.parts.after w.parts.value (shows_at mem o x s w) (stands_at mem o x s w)
        (subst (λ l. EachFits MayHold l (w.parts.before ++ Some v ∷ w.parts.after)) (sym w.is) (w.parts.again (Some v) can)))
    write_laid s false laid = refused _ (law.unlaid_writes mem o s.constant s.type s.values x v s.shows (unlaid_of s.type x laid))

    write_live : (test : Bool) → M.live mem o ≡ test → MemoryHeld new
    write_live true live = let s = h.shown o live in write_laid s (laid_out same_scalar x (lay m s.type 0)) refl
    write_live false dead = refused _ (law.dead_writes mem o x v dead)

    pub write_held : MemoryHeld new
    write_held = write_live (M.live mem o) refl

  -- ---- several writes

  -- the numbers, as far as there are scalars
  abbrev pub FrontFits : List CScalar → List ℤ → Type 0
  FrontFits [] vs = ⊤
  FrontFits (k ∷ ks) [] = ⊤
  FrontFits (k ∷ ks) (v ∷ vs) = CanHold t k v × FrontFits ks vs

  pub each_write_held : (o : ℕ) (xs : List (ℕ × CScalar)) (vs : List ℤ) (mem new : CObjects) → MemoryHeld mem → FrontFits (map (λ x. x.1) xs) vs → write_each (memory_of t).write mem o xs vs ≡ Ok new → MemoryHeld new
  each_write_held o [] vs mem new h fits is = let same : mem ≡ new = cc in subst MemoryHeld same h
  each_write_held o (x ∷ xs) [] mem new h fits is = let same : mem ≡ new = cc in subst MemoryHeld same h
  each_write_held o (x ∷ xs) (v ∷ vs) mem new h fits is = by (λ next held rest. each_write_held o xs vs next new held fits.1 rest) (M.write mem o x v) refl is
    where
      by : ((next : CObjects) → MemoryHeld next → write_each M.write next o xs vs ≡ Ok new → MemoryHeld new) → (r : Result CObjects Fault) → M.write mem o x v ≡ r
          → and_then r (λ next. write_each M.write next o xs vs) ≡ Ok new → MemoryHeld new
      by later (Ok next) e is = later next (write_held mem next h o x v fits.0 e) is
      by later (Err fault) e is = let no : ⊥ = cc in absurd no

  -- ---- objects made, and those that end

  made_held : (mem new : CObjects) (c : Bool) (a : CTree) (us : List (Option ℤ)) → Made m M mem new c a us → EachFits MayHold (lay m a 0) us → MemoryHeld mem → MemoryHeld new
  made_held mem new c a us made held h = record { shown = λ q live. by q live (cases_lt q (M.count mem)) }
    where
      by : (q : ℕ) → M.live new q ≡ true → (q < M.count mem) ⊎ (M.count mem ≤ q) → ShowsHeld new q
      by q live (inl low) = let same = made.others q low in moved mem new q same (h.shown q (sym same.live ∙ live))
      by q live (inr high) =
          let below : q < M.count new = law.numbered new q live in
          let is : M.count mem ≡ q = omega (arith, high, below, made.count) in
          subst (ShowsHeld new) is (record { constant = c; type = a; values = us; shows = made.shows; held = held })

  nones : (xs : List (ℕ × CScalar)) → EachFits MayHold xs (map (λ x. None) xs)
  nones [] = tt
  nones (x ∷ xs) = (tt, nones xs)

  somes : (xs : List (ℕ × CScalar)) (vs : List ℤ) → EachFits (CanHold t) xs vs → EachFits MayHold xs (map Some vs)
  somes [] [] h = tt
  somes [] (v ∷ vs) h = absurd h
  somes (x ∷ xs) [] h = absurd h
  somes (x ∷ xs) (v ∷ vs) h = (h.0, somes xs vs h.1)

  pub create_held : (mem : CObjects) (a : CTree) → MemoryHeld mem → MemoryHeld ((memory_of t).create mem a)
  create_held mem a h = made_held mem (M.create mem a) false a (map (λ x. None) (lay m a 0)) (law.creates mem a) (nones (lay m a 0)) h

  pub initialize_held : (mem : CObjects) (a : CTree) (c : Bool) (vs : List ℤ) → EachFits (CanHold t) (lay (metric_of t) a 0) vs → MemoryHeld mem → MemoryHeld ((memory_of t).initialize mem a c vs)
  initialize_held mem a c vs fits h = made_held mem (M.initialize mem a c vs) c a (map Some vs) (law.initializes mem a c vs fits) (somes (lay m a 0) vs fits) h

  pub leave_held : (mem : CObjects) (before : ℕ) → MemoryHeld mem → MemoryHeld ((memory_of t).leave before mem)
  leave_held mem before h = record { shown = λ q live. by q live (cases_lt q before) }
    where
      all : Left m M mem before (M.leave before mem)
      all = law.leaves mem before

      by : (q : ℕ) → M.live (M.leave before mem) q ≡ true → (q < before) ⊎ (before ≤ q) → ShowsHeld (M.leave before mem) q
      by q live (inl low) = let same = all.others q low in moved mem (M.leave before mem) q same (h.shown q (sym same.live ∙ live))
      by q live (inr high) = let no : ⊥ = (let e : false ≡ true = sym (all.ended q high) ∙ live in cc) in absurd no

  -- before anything is made
  pub nothing_held : MemoryHeld []
  nothing_held = record { shown = λ o live. let low : o < 0 = law.numbered [] o live in absurd (omega (arith, low)) }
