-- Objects that hold values, over the laws of memory alone.
use Rattle.std.proofs.Common.{◌≡◌, ℕ, ◌+◌, ◌<◌, List, [], ◌∷◌, ◌++◌, length, map, Option, Some, None, Result, Ok, Err, Bool, true, false, ◌==◌, refl, sym, ◌∙◌, ap, subst, arith, ⊎_elim, inl, inr}
use Rattle.std.proofs.lemmas.List.{map-append, length-map}
use Rattle.std.proofs.lemmas.Bool.{eqb-true, eqb-false}
use Rattle.type_trees.specs.Trees.{Tree, Leaf, count, first, part}
use Rattle.type_trees.specs.Layouts.{Metric, Ascends, size, lay, offset}
use Rattle.type_trees.specs.Values.{Value, Cell, Parts, Fits, cells, at, put}
use Rattle.type_trees.specs.Windows.{Window}
use Rattle.type_trees.proofs.Layouts.{lay_ascends, length_lay}
use Rattle.type_trees.proofs.Windows.{lay_window}
use Rattle.type_trees.proofs.Parts as parts
use Rattle.type_trees.proofs.Values.{Lens, lens, length_cells}
use Rattle.c_memory.specs.Seen.{EachFits}
use Rattle.c_memory.specs.Access.{Fault, Indeterminate, and_then}
use Rattle.c_memory.specs.Copies.{read_each, write_each, copy_each, rebuilt, Clear}
use Rattle.c_memory.specs.Abstract.{Operations, Same, At, Lawful}
use Rattle.c_memory.specs.Holds.{Holds}
use Rattle.c_memory.specs.ValueLaws.{part_scalars, FitsType, Stored, LawfulValues}
use Rattle.c_memory.proofs.Several.{clear_same, clear_before, clear_behind, several, each_read, all_read, copy_writes, Far, EachRead}
use Rattle.c_memory.proofs.Cells.{fits_each, each_length, rebuilt_fits, cells_rebuilt}

map_three : {A C : Type 0} (g : A → C) (xs ys zs : List A) → map g (xs ++ (ys ++ zs)) ≡ map g xs ++ (map g ys ++ map g zs)
map_three g xs ys zs = map-append g xs (ys ++ zs) ∙ ap (λ l. map g xs ++ l) (map-append g ys zs)

map_some : {W V : Type 0} (f : W → V) (ws : List W) → map Some (map f ws) ≡ map (λ w. Some (f w)) ws
map_some f [] = refl
map_some f (w ∷ ws) = ap (λ l. Some (f w) ∷ l) (map_some f ws)

module _ {S N V W : Type 0} (m : Metric S) (Can : S → V → Type 0) (f : W → V) (M : Operations S N V) (law : Lawful m Can M) where
  abbrev pub Fit : S → W → Type 0
  Fit s w = Can s (f w)

  abbrev pub show : W → Option V
  show w = Some (f w)

  -- ---- a part of an object that holds a value

  module _ (mem : M.Memory) (o : ℕ) (c : Bool) (a : Tree S N) (v : Value W) (h : Holds Can f M mem o c a v) (p : List ℕ) (b : Tree S N) (leads : part a p ≡ Some b) where
    abbrev pub w : Window (lay m a 0) (part_scalars m Can f M a p b) (first a p)
    w = lay_window m a p b 0 (offset m a p) leads (omega arith)

    abbrev pub l : Lens (Fits Fit a) (Fits Fit b) cells (λ x. at x p) (λ x u. put x p u) v (first a p)
    l = lens Fit a p b v leads h.fits

    pub shown : M.Shows mem o c a (map show l.before ++ (map show (cells l.value) ++ map show l.after))
    shown = subst (λ us. M.Shows mem o c a us) (ap (map show) l.cells_are ∙ map_three show l.before (cells l.value) l.after) h.shows

    pub shown_values : M.Shows mem o c a (map show l.before ++ (map Some (map f (cells l.value)) ++ map show l.after))
    shown_values = subst (λ us. M.Shows mem o c a (map show l.before ++ (us ++ map show l.after))) (sym (map_some f (cells l.value))) shown

    pub number : length w.before ≡ length (map show l.before)
    number = w.number ∙ sym (length-map l.before show ∙ l.number)

    pub as_many : length (map f (cells l.value)) ≡ length (part_scalars m Can f M a p b)
    as_many = length-map (cells l.value) f ∙ length_cells Fit b l.value l.fits ∙ sym (length_lay m b (offset m a p))

    pub value_is : (u : Value W) → at v p ≡ Some u → l.value ≡ u
    value_is u e = let i : at v p ≡ Some l.value = l.is in cc

    pub part_reads : (u : Value W) → at v p ≡ Some u → EachRead m Can M law mem o (part_scalars m Can f M a p b) (map f (cells u))
    part_reads u e = subst (λ x. EachRead m Can M law mem o (part_scalars m Can f M a p b) (map f (cells x))) (value_is u e)
        (each_read m Can M law mem o c a (part_scalars m Can f M a p b) (map f (cells l.value)) w.before w.after (map show l.before) (map show l.after) shown_values w.is number as_many)

  part_read : (mem : M.Memory) (o : ℕ) (c : Bool) (a : Tree S N) (v : Value W) (p : List ℕ) (b : Tree S N) (u : Value W)
      → Holds Can f M mem o c a v → part a p ≡ Some b → at v p ≡ Some u → read_each M.read mem o (part_scalars m Can f M a p b) ≡ Ok (map f (cells u))
  part_read mem o c a v p b u h leads e = all_read m Can M law mem o (part_scalars m Can f M a p b) (map f (cells u)) (part_reads mem o c a v h p b leads u e)

  cell_read : (mem : M.Memory) (o : ℕ) (c : Bool) (a : Tree S N) (v : Value W) (p : List ℕ) (s : S) (n : W)
      → Holds Can f M mem o c a v → part a p ≡ Some (Leaf s) → at v p ≡ Some (Cell n) → M.read mem o (offset m a p, s) ≡ Ok (f n)
  cell_read mem o c a v p s n h leads e = (part_reads mem o c a v h p (Leaf s) leads (Cell n) e).0

  part_written : (mem : M.Memory) (o : ℕ) (a : Tree S N) (v : Value W) (p : List ℕ) (b : Tree S N) (u : Value W)
      → Holds Can f M mem o false a v → part a p ≡ Some b → FitsType m Can f M b u → Stored m Can f M (write_each M.write mem o (part_scalars m Can f M a p b) (map f (cells u))) mem o a (put v p u)
  part_written mem o a v p b u h leads fits =
      let z = l mem o false a v h p b leads in
      let q = w mem o false a v h p b leads in
      let long : length (map show (cells z.value)) ≡ length (part_scalars m Can f M a p b) = length-map (cells z.value) show ∙ length_cells Fit b z.value z.fits ∙ sym (length_lay m b (offset m a p)) in
      let done = several m Can M law o a (part_scalars m Can f M a p b) (map f (cells u)) (map show (cells z.value)) q.before q.after (map show z.before) (map show z.after) mem
      (shown mem o false a v h p b leads) q.is (number mem o false a v h p b leads) long (fits_each m Can f b u (offset m a p) fits) in
      let same : map show z.before ++ (map Some (map f (cells u)) ++ map show z.after) ≡ map show (cells (put v p u)) =
      ap (λ us. map show z.before ++ (us ++ map show z.after)) (map_some f (cells u)) ∙ sym (map_three show z.before (cells u) z.after) ∙ ap (map show) (sym (z.cells_put u fits)) in
      record {
        new = done.new;
        is = done.is;
        holds = record { fits = z.puts u fits; shows = subst (λ us. M.Shows done.new o false a us) same done.shows };
        others = done.others;
        count = done.count;
      }

  -- ---- one scalar

  single_cell : (s : S) (v : Value W) → Fits {N = N} Fit (Leaf s) v → (x : W) × (cells v ≡ x ∷ [])
  single_cell s (Cell x) h = (x, refl)
  single_cell s (Parts vs) h = absurd h

  single : (mem : M.Memory) (o : ℕ) (x : ℕ × S) (v : V) → write_each M.write mem o (x ∷ []) (v ∷ []) ≡ M.write mem o x v
  single mem o x v = go (M.write mem o x v)
    where
      go : (z : Result M.Memory Fault) → and_then z (λ next. Ok next) ≡ z
      go (Ok new) = refl
      go (Err fault) = refl

  -- the same, done in another way
  done_as : (one other : Result M.Memory Fault) (mem : M.Memory) (o : ℕ) (a : Tree S N) (v : Value W) → other ≡ one → Stored m Can f M one mem o a v → Stored m Can f M other mem o a v
  done_as one other mem o a v e s = record { new = s.new; is = e ∙ s.is; holds = s.holds; others = s.others; count = s.count }

  cell_written : (mem : M.Memory) (o : ℕ) (a : Tree S N) (v : Value W) (p : List ℕ) (s : S) (n : W)
      → Holds Can f M mem o false a v → part a p ≡ Some (Leaf s) → Can s (f n) → Stored m Can f M (M.write mem o (offset m a p, s) (f n)) mem o a (put v p (Cell n))
  cell_written mem o a v p s n h leads fits =
      done_as (write_each M.write mem o ((offset m a p, s) ∷ []) (f n ∷ [])) (M.write mem o (offset m a p, s) (f n)) mem o a (put v p (Cell n)) (sym (single mem o (offset m a p, s) (f n)))
      (part_written mem o a v p (Leaf s) (Cell n) h leads fits)

  first_write : (mem : M.Memory) (o : ℕ) (s : S) (u : Option V) (n : W) → M.Shows mem o false (Leaf s) (u ∷ []) → Can s (f n) → Stored m Can f M (M.write mem o (0, s) (f n)) mem o (Leaf s) (Cell n)
  first_write mem o s u n h fits =
      let w = law.writes mem o (Leaf s) (0, s) [] [] u (f n) h (record { left = []; right = []; is = refl; number = refl }) fits in
      record {
        new = w.new;
        is = w.is;
        holds = record { fits = fits; shows = w.shows };
        others = λ q ne. law.others_stay mem w.new o (0, s) (f n) q w.is ne;
        count = law.count_stays mem w.new o (0, s) (f n) w.is;
      }

  written_read : (mem new : M.Memory) (o : ℕ) (a : Tree S N) (v : Value W) (p : List ℕ) (s : S) (n : W)
      → Holds Can f M mem o false a v → part a p ≡ Some (Leaf s) → Can s (f n) → M.write mem o (offset m a p, s) (f n) ≡ Ok new → M.read new o (offset m a p, s) ≡ Ok (f n)
  written_read mem new o a v p s n h leads fits e =
      let z = l mem o false a v h p (Leaf s) leads in
      let q = w mem o false a v h p (Leaf s) leads in
      let x : ℕ × S = (offset m a p, s) in
      let place : At m M a x (map show z.before) (map show z.after) = record { left = q.before; right = q.after; is = q.is; number = number mem o false a v h p (Leaf s) leads } in
      let one : (x : W) × (cells z.value ≡ x ∷ []) = single_cell s z.value z.fits in
      let shows : M.Shows mem o false a (map show z.before ++ show one.0 ∷ map show z.after) =
      subst (λ us. M.Shows mem o false a (map show z.before ++ (map show us ++ map show z.after))) one.1 (shown mem o false a v h p (Leaf s) leads) in
      let done = law.writes mem o a x (map show z.before) (map show z.after) (show one.0) (f n) shows place fits in
      let same : done.new ≡ new = (let k : Ok done.new ≡ Ok new = sym done.is ∙ e in cc) in
      ap (λ y. M.read y o x) (sym same) ∙ law.reads done.new o false a x (map show z.before) (map show z.after) (Some (f n)) done.shows place

  -- ---- replies and copies

  reply_written : (mem : M.Memory) (o : ℕ) (a : Tree S N) (v : Value W) (p : List ℕ) (b : Tree S N) (ws : List W)
      → Holds Can f M mem o false a v → part a p ≡ Some b → EachFits Can (part_scalars m Can f M a p b) (map f ws)
      → Stored m Can f M (write_each M.write mem o (part_scalars m Can f M a p b) (map f ws)) mem o a (put v p (rebuilt b ws))
  reply_written mem o a v p b ws h leads fits =
      let xs = part_scalars m Can f M a p b in
      let many : length ws ≡ count b = sym (length-map ws f) ∙ each_length Can xs (map f ws) fits ∙ length_lay m b (offset m a p) in
      done_as (write_each M.write mem o xs (map f (cells (rebuilt b ws)))) (write_each M.write mem o xs (map f ws)) mem o a (put v p (rebuilt b ws))
      (ap (λ us. write_each M.write mem o xs (map f us)) (sym (cells_rebuilt b ws many)))
      (part_written mem o a v p b (rebuilt b ws) h leads (rebuilt_fits m Can f b ws (offset m a p) fits))

  clear_parts : (a : Tree S N) (p q : List ℕ) (b : Tree S N) → part a p ≡ Some b → part a q ≡ Some b → Clear m (part_scalars m Can f M a p b) (part_scalars m Can f M a q b)
  clear_parts a p q b h k =
      let x : ℕ = offset m a p in
      let y : ℕ = offset m a q in
      let low : Ascends m x (lay m b x) (x + size m b) = lay_ascends m b x in
      let high : Ascends m y (lay m b y) (y + size m b) = lay_ascends m b y in
      ⊎_elim
      (λ e. subst (λ z. Clear m (lay m b x) (lay m b z)) (ap (offset m a) e) (clear_same m x (x + size m b) (lay m b x) low))
      (λ d. ⊎_elim
      (λ e. clear_before m x (x + size m b) y (y + size m b) (lay m b x) (lay m b y) low high e)
      (λ e. clear_behind m x (x + size m b) y (y + size m b) (lay m b x) (lay m b y) low high e)
      d)
      (parts.apart m a p q b h k)

  far : (mem : M.Memory) (o : ℕ) (a : Tree S N) (v : Value W) (p : List ℕ) (b : Tree S N) (q : ℕ) (d : Bool) (e : Tree S N) (x : Value W) (k : List ℕ)
      → Holds Can f M mem o false a v → part a p ≡ Some b → Holds Can f M mem q d e x → part e k ≡ Some b → Far m Can M law o (part_scalars m Can f M a p b) q (part_scalars m Can f M e k b)
  far mem o a v p b q d e x k h leads i leads' = go (o == q) refl
    where
      go : (z : Bool) → (o == q) ≡ z → Far m Can M law o (part_scalars m Can f M a p b) q (part_scalars m Can f M e k b)
      go false n = inl (eqb-false o q n)
      go true n =
          let same : o ≡ q = eqb-true o q n in
          let types : a ≡ e = (law.alone mem q false d a e (map show (cells v)) (map show (cells x)) (subst (λ y. M.Shows mem y false a (map show (cells v))) same h.shows) i.shows).1 in
          inr (same, subst (λ t. Clear m (part_scalars m Can f M a p b) (part_scalars m Can f M t k b)) types (clear_parts a p k b leads (ap (λ t. part t k) types ∙ leads')))

  copied : (mem : M.Memory) (o : ℕ) (a : Tree S N) (v : Value W) (p : List ℕ) (b : Tree S N) (q : ℕ) (d : Bool) (e : Tree S N) (x : Value W) (k : List ℕ) (u : Value W)
      → Holds Can f M mem o false a v → part a p ≡ Some b → Holds Can f M mem q d e x → part e k ≡ Some b → at x k ≡ Some u
      → Stored m Can f M (copy_each M.read M.write mem o (part_scalars m Can f M a p b) q (part_scalars m Can f M e k b)) mem o a (put v p u)
  copied mem o a v p b q d e x k u h leads i leads' is =
      let xs = part_scalars m Can f M a p b in
      let ys = part_scalars m Can f M e k b in
      let z = l mem q d e x i k b leads' in
      let fits : Fits Fit b u = subst (λ y. Fits Fit b y) (value_is mem q d e x i k b leads' u is) z.fits in
      done_as (write_each M.write mem o xs (map f (cells u))) (copy_each M.read M.write mem o xs q ys) mem o a (put v p u)
      (copy_writes m Can M law o xs q ys (map f (cells u)) mem (part_reads mem q d e x i k b leads' u is) (length_lay m b (offset m a p) ∙ sym (length_lay m b (offset m e k))) (far mem o a v p b q d e x k h leads i leads'))
      (part_written mem o a v p b u h leads fits)

  -- ---- objects made, and the end of a block

  first_values : (mem : M.Memory) (a : Tree S N) (c : Bool) (v : Value W) → FitsType m Can f M a v → Holds Can f M (M.initialize mem a c (map f (cells v))) (M.count mem) c a v
  first_values mem a c v fits =
      let new = M.initialize mem a c (map f (cells v)) in
      record { fits = fits; shows = subst (λ us. M.Shows new (M.count mem) c a us) (map_some f (cells v)) (law.initializes mem a c (map f (cells v)) (fits_each m Can f a v 0 fits)).shows }

  no_values : (mem : M.Memory) (a : Tree S N) (p : List ℕ) (s : S) → part a p ≡ Some (Leaf s) → M.read (M.create mem a) (M.count mem) (offset m a p, s) ≡ Err Indeterminate
  no_values mem a p s leads =
      let q = lay_window m a p (Leaf s) 0 (offset m a p) leads (omega arith) in
      let none : ℕ × S → Option V = λ x. None in
      let shows : M.Shows (M.create mem a) (M.count mem) false a (map none q.before ++ None ∷ map none q.after) =
      subst (λ us. M.Shows (M.create mem a) (M.count mem) false a us) (ap (map none) q.is ∙ map-append none q.before ((offset m a p, s) ∷ q.after)) (law.creates mem a).shows in
      law.reads (M.create mem a) (M.count mem) false a (offset m a p, s) (map none q.before) (map none q.after) None shows
      (record { left = q.before; right = q.after; is = q.is; number = sym (length-map q.before none) })

  unchanged : (mem new : M.Memory) (o : ℕ) (c : Bool) (a : Tree S N) (v : Value W) → Holds Can f M mem o c a v → Same m M mem new o → Holds Can f M new o c a v
  unchanged mem new o c a v h same = record { fits = h.fits; shows = same.shows c a (map show (cells v)) h.shows }

  block_left : (mem : M.Memory) (made_before o : ℕ) (c : Bool) (a : Tree S N) (v : Value W) → Holds Can f M mem o c a v → o < made_before → Holds Can f M (M.leave made_before mem) o c a v
  block_left mem k o c a v h lt = unchanged mem (M.leave k mem) o c a v h ((law.leaves mem k).others o lt)

  pub lawful_values : LawfulValues m Can f M
  lawful_values = record {
    cell_read = cell_read;
    cell_written = cell_written;
    written_read = written_read;
    part_read = part_read;
    part_written = part_written;
    reply_written = reply_written;
    copied = copied;
    first_values = first_values;
    no_values = no_values;
    first_write = first_write;
    unchanged = unchanged;
    block_left = block_left;
  }
