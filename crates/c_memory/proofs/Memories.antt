-- The memory of objects and bytes keeps the laws, whatever faithful representation its scalars have.
use Rattle.std.proofs.Common.{◌≡◌, ◌≢◌, ℕ, ◌+◌, ◌<◌, List, [], ◌∷◌, ◌++◌, length, map, Option, Some, None, Result, Ok, Err, Bool, true, false, refl, sym, ◌∙◌, ap, arith, ⊎_elim, if◌then◌else◌, length-append}
use Rattle.std.specs.Prelude.{slice_get, slice_set}
use Rattle.std.proofs.lemmas.List.{length-map, length-set, length-replicate}
use Rattle.type_trees.specs.Trees.{Tree}
use Rattle.type_trees.specs.Layouts.{lay, size}
use Rattle.type_trees.proofs.Layouts.{lay_ascends}
use Rattle.c_memory.specs.Representations.{Representation}
use Rattle.c_memory.specs.Faithful.{Faithful}
use Rattle.c_memory.specs.Objects.{Object, Objects, lives, is_live}
use Rattle.c_memory.specs.Seen.{scalar_in, seen, EachFits}
use Rattle.c_memory.specs.Access.{Fault, Dead, BadAccess, ConstWrite, laid_out, known, unless, first_of, and_then, access_fault, write_fault, read_object, written, write_object, of_object, read, refusal, refuses, write}
use Rattle.c_memory.specs.Blocks.{fresh, create, leave, blank_bytes}
use Rattle.c_memory.specs.Initializers.{initialized, initialize}
use Rattle.c_memory.specs.Copies.{Apart}
use Rattle.c_memory.specs.Holds.{ShowsValues, ShowsAt}
use Rattle.c_memory.specs.Abstract.{Same, At, Unlaid, Written, Made, Left, Lawful}
use Rattle.c_memory.specs.Memories.{memory}
use Rattle.c_memory.proofs.Lists.{get_append, get_last, get_low, get_set_same, get_set_other, length_leave, get_leave_before, get_leave_after, ended_or_none}
use Rattle.c_memory.proofs.Bytes.{read_before, read_behind, length_scalars, seen_scalars, seen_blank}
use Rattle.c_memory.proofs.Laid.{unlaid}
use Rattle.c_memory.proofs.Accesses.{read_unlaid, write_unlaid, read_laid, write_laid, write_const, scalar_shown, laid_here, shows_written}

module _ {S N V B : Type 0} (r : Representation S V B) where
  -- an object with the same content is the same
  same_of : (mem new : Objects S N B) (q : ℕ) → slice_get new q ≡ slice_get mem q → Same r.metric (memory {N = N} r) mem new q
  same_of mem new q e = record {
    live = ap lives e;
    reads = λ x. ap (λ w. of_object w (λ ob. read_object r ob x)) e;
    refuses = λ x. ap (λ w. refusal r w x) e;
    shows = λ c a us h. record { object = h.object; is = e ∙ h.is; constant = h.constant; shows = h.shows };
  }

  -- what a write has done
  record Wrote (mem new : Objects S N B) (o : ℕ) (x : ℕ × S) (v : V) : Type 0 where
    object : Object S N B
    is : slice_get mem o ≡ Some object
    new_is : new ≡ slice_set mem o (written r object x v)

  wrote : (mem new : Objects S N B) (o : ℕ) (x : ℕ × S) (v : V) → write r mem o x v ≡ Ok new → Wrote mem new o x v
  wrote mem new o x v h = go (slice_get mem o) refl h
    where
      done : (ob : Object S N B) (f : Option Fault) → and_then (unless f (Ok (written r ob x v))) (λ n. Ok (slice_set mem o n)) ≡ Ok new → new ≡ slice_set mem o (written r ob x v)
      done ob (Some f) e = absurd (cc)
      done ob None e = cc

      go : (w : Option (Object S N B)) → slice_get mem o ≡ w → of_object w (λ ob. and_then (write_object r ob x v) (λ n. Ok (slice_set mem o n))) ≡ Ok new → Wrote mem new o x v
      go None e k = absurd (cc)
      go (Some ob) e k = record { object = ob; is = e; new_is = done ob (write_fault r ob x) k }

  refusals : (mem : Objects S N B) (o : ℕ) (x : ℕ × S) (v : V) (fault : Fault) → refuses r mem o x ≡ Some fault → write r mem o x v ≡ Err fault
  refusals mem o x v fault h = go (slice_get mem o) h
    where
      go : (w : Option (Object S N B)) → refusal r w x ≡ Some fault → of_object w (λ ob. and_then (write_object r ob x v) (λ n. Ok (slice_set mem o n))) ≡ Err fault
      go None e = (let same : Dead ≡ fault = cc in ap Err same)
      go (Some ob) e = ap (λ f. and_then (unless f (Ok (written r ob x v))) (λ n. Ok (slice_set mem o n))) e

  grants : (mem : Objects S N B) (o : ℕ) (x : ℕ × S) (v : V) → refuses r mem o x ≡ None → (new : Objects S N B) × (write r mem o x v ≡ Ok new)
  grants mem o x v h = go (slice_get mem o) h
    where
      go : (w : Option (Object S N B)) → refusal r w x ≡ None → (new : Objects S N B) × (of_object w (λ ob. and_then (write_object r ob x v) (λ n. Ok (slice_set mem o n))) ≡ Ok new)
      go None e = absurd (cc)
      go (Some ob) e = (slice_set mem o (written r ob x v), ap (λ f. and_then (unless f (Ok (written r ob x v))) (λ n. Ok (slice_set mem o n))) e)

  pub numbered : (mem : Objects S N B) (o : ℕ) → is_live mem o ≡ true → o < length mem
  numbered mem o h = go (slice_get mem o) refl h
    where
      go : (w : Option (Object S N B)) → slice_get mem o ≡ w → lives w ≡ true → o < length mem
      go None e k = absurd (cc)
      go (Some ob) e k = get_low mem o ob e

  dead_read : (w : Option (Object S N B)) (x : ℕ × S) → lives w ≡ false → of_object w (λ ob. read_object r ob x) ≡ Err Dead
  dead_read None x h = refl
  dead_read (Some ob) x h = ap (λ b. unless (if b then if laid_out r.same x (lay r.metric ob.type 0) then None else Some BadAccess else Some Dead) (known (scalar_in r ob.bytes x))) h

  dead_write : (mem : Objects S N B) (o : ℕ) (w : Option (Object S N B)) (x : ℕ × S) (v : V) → lives w ≡ false → of_object w (λ ob. and_then (write_object r ob x v) (λ n. Ok (slice_set mem o n))) ≡ Err Dead
  dead_write mem o None x v h = refl
  dead_write mem o (Some ob) x v h =
      ap (λ b. and_then (unless (first_of (if b then if laid_out r.same x (lay r.metric ob.type 0) then None else Some BadAccess else Some Dead) (if ob.constant then Some ConstWrite else None)) (Ok (written r ob x v))) (λ n. Ok (slice_set mem o n))) h

  -- a further object, which shows values
  made : (mem : Objects S N B) (ob : Object S N B) (a : Tree S N) (us : List (Option V)) → ShowsValues r a us ob → Made r.metric (memory r) mem (mem ++ ob ∷ []) ob.constant a us
  made mem ob a us h = record {
    count = omega (arith, length-append mem (ob ∷ []));
    shows = record { object = ob; is = get_last mem ob; constant = refl; shows = h };
    others = λ q lt. same_of mem (mem ++ ob ∷ []) q (get_append mem (ob ∷ []) q lt);
  }

  ended_lives_not : (w : Option (Object S N B)) → lives (ended_or_none w) ≡ false
  ended_lives_not None = refl
  ended_lives_not (Some ob) = refl

  pub left : (mem : Objects S N B) (k : ℕ) → Left r.metric (memory r) mem k (leave k mem)
  left mem k = record {
    count = length_leave k mem;
    ended = λ q le. ap lives (get_leave_after k q mem le) ∙ ended_lives_not (slice_get mem q);
    others = λ q lt. same_of mem (leave k mem) q (get_leave_before k q mem lt);
  }

module _ {S N V B : Type 0} (r : Representation S V B) (Can : S → V → Type 0) (faithful : Faithful r Can) where
  reads : (mem : Objects S N B) (o : ℕ) (c : Bool) (a : Tree S N) (x : ℕ × S) (before after : List (Option V)) (u : Option V)
      → ShowsAt r mem o c a (before ++ u ∷ after) → At r.metric (memory {N = N} r) a x before after → read r mem o x ≡ known u
  reads mem o c a x before after u h s =
      ap (λ w. of_object w (λ ob. read_object r ob x)) h.is
      ∙ read_laid r a (before ++ u ∷ after) h.object h.shows x (laid_here r a before after u h.object h.shows x s.left s.right s.is s.number Can faithful) u
      (scalar_shown r a before after u h.object h.shows x s.left s.right s.is s.number)

  unlaid_reads : (mem : Objects S N B) (o : ℕ) (c : Bool) (a : Tree S N) (us : List (Option V)) (x : ℕ × S) → ShowsAt r mem o c a us → Unlaid r.metric (memory {N = N} r) a x → read r mem o x ≡ Err BadAccess
  unlaid_reads mem o c a us x h none =
      ap (λ w. of_object w (λ ob. read_object r ob x)) h.is ∙ read_unlaid r a us h.object h.shows x (unlaid r.same faithful.exact x (lay r.metric a 0) none)

  abbrev put_back : Objects S N B → ℕ → ℕ × S → V → Option (Object S N B) → Result (Objects S N B) Fault
  put_back mem o x v w = of_object w (λ ob. and_then (write_object r ob x v) (λ n. Ok (slice_set mem o n)))

  writes : (mem : Objects S N B) (o : ℕ) (a : Tree S N) (x : ℕ × S) (before after : List (Option V)) (u : Option V) (v : V)
      → ShowsAt r mem o false a (before ++ u ∷ after) → At r.metric (memory {N = N} r) a x before after → Can x.1 v → Written r.metric (memory r) mem o a x before v after
  writes mem o a x before after u v h s fits =
      let ob = h.object in
      let laid = laid_here r a before after u ob h.shows x s.left s.right s.is s.number Can faithful in
      record {
        new = slice_set mem o (written r ob x v);
        is = ap (put_back mem o x v) h.is ∙ ap (λ w. and_then w (λ n. Ok (slice_set mem o n))) (write_laid r a (before ++ u ∷ after) ob h.shows x laid v h.constant);
        shows = record {
          object = written r ob x v;
          is = get_set_same mem o (written r ob x v) ob h.is;
          constant = h.constant;
          shows = shows_written r a before after u ob h.shows x s.left s.right s.is s.number Can faithful v fits;
        };
      }

  const_writes : (mem : Objects S N B) (o : ℕ) (a : Tree S N) (x : ℕ × S) (before after : List (Option V)) (u : Option V) (v : V)
      → ShowsAt r mem o true a (before ++ u ∷ after) → At r.metric (memory {N = N} r) a x before after → write r mem o x v ≡ Err ConstWrite
  const_writes mem o a x before after u v h s =
      let laid = laid_here r a before after u h.object h.shows x s.left s.right s.is s.number Can faithful in
      ap (put_back mem o x v) h.is ∙ ap (λ w. and_then w (λ n. Ok (slice_set mem o n))) (write_const r a (before ++ u ∷ after) h.object h.shows x laid v h.constant)

  unlaid_writes : (mem : Objects S N B) (o : ℕ) (c : Bool) (a : Tree S N) (us : List (Option V)) (x : ℕ × S) (v : V) → ShowsAt r mem o c a us → Unlaid r.metric (memory {N = N} r) a x → write r mem o x v ≡ Err BadAccess
  unlaid_writes mem o c a us x v h none =
      ap (put_back mem o x v) h.is ∙ ap (λ w. and_then w (λ n. Ok (slice_set mem o n))) (write_unlaid r a us h.object h.shows x v (unlaid r.same faithful.exact x (lay r.metric a 0) none))

  scalars_stay : (mem new : Objects S N B) (o : ℕ) (x : ℕ × S) (v : V) (y : ℕ × S) → write r mem o x v ≡ Ok new → Apart r.metric x y → read r new o y ≡ read r mem o y
  scalars_stay mem new o x v y h apart =
      let w = wrote r mem new o x v h in
      let new_ob = written r w.object x v in
      let still : scalar_in r new_ob.bytes y ≡ scalar_in r w.object.bytes y = ⊎_elim (λ e. read_behind r Can faithful w.object.bytes x y v e) (λ e. read_before r Can faithful w.object.bytes x y v e) apart in
      ap (λ m. read r m o y) w.new_is ∙ ap (λ z. of_object z (λ ob. read_object r ob y)) (get_set_same mem o new_ob w.object w.is)
      ∙ ap (λ z. unless (access_fault r w.object y) (known z)) still ∙ sym (ap (λ z. of_object z (λ ob. read_object r ob y)) w.is)

  others_stay : (mem new : Objects S N B) (o : ℕ) (x : ℕ × S) (v : V) (q : ℕ) → write r mem o x v ≡ Ok new → q ≢ o → Same r.metric (memory r) mem new q
  others_stay mem new o x v q h ne =
      let w = wrote r mem new o x v h in
      same_of r mem new q (ap (λ m. slice_get m q) w.new_is ∙ get_set_other mem o q (written r w.object x v) ne)

  count_stays : (mem new : Objects S N B) (o : ℕ) (x : ℕ × S) (v : V) → write r mem o x v ≡ Ok new → length new ≡ length mem
  count_stays mem new o x v h = (let w = wrote r mem new o x v h in ap length w.new_is ∙ length-set mem o (written r w.object x v))

  creates : (mem : Objects S N B) (a : Tree S N) → Made r.metric (memory r) mem (create r mem a) false a (map (λ x. None) (lay r.metric a 0))
  creates mem a = made r mem (fresh r a) a (map (λ x. None) (lay r.metric a 0)) (record {
    live = refl;
    type = refl;
    room = sym (length-replicate (size r.metric a) r.codec.blank);
    same = seen_blank r Can faithful (size r.metric a) 0 (0 + size r.metric a) (lay r.metric a 0) (lay_ascends r.metric a 0) (omega arith);
  })

  initializes : (mem : Objects S N B) (a : Tree S N) (c : Bool) (vs : List V) → EachFits Can (lay r.metric a 0) vs → Made r.metric (memory r) mem (initialize r mem a c vs) c a (map Some vs)
  initializes mem a c vs fits =
      let long : length (blank_bytes r a) ≡ size r.metric a = length-replicate (size r.metric a) r.codec.blank in
      made r mem (initialized r a c vs) a (map Some vs) (record {
        live = refl;
        type = refl;
        room = sym (length_scalars r Can faithful (blank_bytes r a) (lay r.metric a 0) vs ∙ long);
        same = seen_scalars r Can faithful (blank_bytes r a) 0 (0 + size r.metric a) (lay r.metric a 0) vs (lay_ascends r.metric a 0) (omega (arith, long)) fits;
      })

  alone : (mem : Objects S N B) (o : ℕ) (c d : Bool) (a b : Tree S N) (us ws : List (Option V)) → ShowsAt r mem o c a us → ShowsAt r mem o d b ws → (c ≡ d) × (a ≡ b) × (us ≡ ws)
  alone mem o c d a b us ws h k =
      let same : h.object ≡ k.object = (let e : Some h.object ≡ Some k.object = sym h.is ∙ k.is in cc) in
      let types : a ≡ b = sym h.shows.type ∙ ap (λ ob. ob.type) same ∙ k.shows.type in (
        sym h.constant ∙ ap (λ ob. ob.constant) same ∙ k.constant,
        types,
        sym h.shows.same ∙ ap (λ ob. seen r ob.bytes (lay r.metric a 0)) same ∙ ap (λ c. seen r k.object.bytes (lay r.metric c 0)) types ∙ k.shows.same,
      )

  pub lawful : Lawful r.metric Can (memory {N = N} r)
  lawful = record {
    lives = λ mem o c a us h. ap lives h.is ∙ h.shows.live;
    numbered = numbered r;
    alone = alone;
    whole = λ mem o c a us h. sym (ap length h.shows.same) ∙ length-map (lay r.metric a 0) (scalar_in r h.object.bytes);
    reads = reads;
    unlaid_reads = unlaid_reads;
    dead_reads = λ mem o x h. dead_read r (slice_get mem o) x h;
    writes = writes;
    scalars_stay = scalars_stay;
    others_stay = others_stay;
    count_stays = count_stays;
    refusals = refusals r;
    grants = grants r;
    unlaid_writes = unlaid_writes;
    const_writes = const_writes;
    dead_writes = λ mem o x v h. dead_write r mem o (slice_get mem o) x v h;
    creates = creates;
    initializes = initializes;
    leaves = λ mem k. left r mem k;
  }
