-- What lasts of the map of areas while a run goes on: each area keeps its number, its type and its access. What it holds may change, but stays a
-- value of its type; so what fits a type before fits it afterwards.
use Rattle.std.proofs.Common.{◌≡◌, ℕ, zero, suc, ◌≤◌, List, [], ◌∷◌, ◌++◌, length, slice_get, Option, Some, None, IsTrue, refl, sym, ◌∙◌, ap, subst, arith}
use Rattle.std.specs.Option.{option_and_then}
use Rattle.type_trees.specs.Trees.{part}
use Rattle.area_types.specs.Syntax.{ValueType}
use Rattle.area_types.specs.Tables.{Table, written_out}
use Rattle.area_types.specs.Trees.{Written}
use Rattle.region_check.specs.Calls.{Reference, reference_of, may_stand_for}
use Rattle.core_tree.specs.Syntax.{ModuleCore, AreaCore}
use Rattle.core_meaning.specs.Values.{Value, Num, Ref}
use Rattle.core_meaning.specs.Areas.{Held, Area, AreaState, Live, Marked, Gone, Areas, in_map, area_at, type_at, from_place, with_part, put_part, put_at, marked, mark_from, take_from}
use Rattle.region_soundness.specs.Fitting.{Entry, Refers, RefersAs, ValueFits}
use Rattle.region_soundness.specs.Scoped.{HeldFits, AreasFit, IsGlobal, GlobalsFirst, NamesFit, Activation}
use Rattle.region_soundness.proofs.Trees.{put_fits}

-- as live as before, with the same type and access
abbrev pub SameArea : AreaState → AreaState → Type 0
SameArea (Live a) (Live b) = (b.ty ≡ a.ty) × (b.constant ≡ a.constant)
SameArea (Marked a) (Marked b) = (b.ty ≡ a.ty) × (b.constant ≡ a.constant)
SameArea Gone Gone = Unit {0}
SameArea (Live a) (Marked b) = ⊥
SameArea (Live a) Gone = ⊥
SameArea (Marked a) (Live b) = ⊥
SameArea (Marked a) Gone = ⊥
SameArea Gone (Live b) = ⊥
SameArea Gone (Marked b) = ⊥

-- each area of the map is still there; there may be more behind them
abbrev pub Lasting : Areas → Areas → Type 0
Lasting before after = (k : ℕ) (a : AreaState) → slice_get before k ≡ Some a → (b : AreaState) × (slice_get after k ≡ Some b) × SameArea a b

-- ---- one area

pub same_area : (a : AreaState) → SameArea a a
same_area (Live a) = (refl, refl)
same_area (Marked a) = (refl, refl)
same_area Gone = tt

same_trans : (a b c : AreaState) → SameArea a b → SameArea b c → SameArea a c
same_trans (Live a) (Live b) (Live c) h g = (g.0 ∙ h.0, g.1 ∙ h.1)
same_trans (Live a) (Live b) (Marked c) h g = absurd g
same_trans (Live a) (Live b) Gone h g = absurd g
same_trans (Live a) (Marked b) c h g = absurd h
same_trans (Live a) Gone c h g = absurd h
same_trans (Marked a) (Marked b) (Marked c) h g = (g.0 ∙ h.0, g.1 ∙ h.1)
same_trans (Marked a) (Marked b) (Live c) h g = absurd g
same_trans (Marked a) (Marked b) Gone h g = absurd g
same_trans (Marked a) (Live b) c h g = absurd h
same_trans (Marked a) Gone c h g = absurd h
same_trans Gone Gone c h g = g
same_trans Gone (Live b) c h g = absurd h
same_trans Gone (Marked b) c h g = absurd h

same_put : (path : List ℕ) (v : Held) (a : AreaState) → SameArea a (put_part path v a)
same_put path v (Live a) = (refl, refl)
same_put path v (Marked a) = (refl, refl)
same_put path v Gone = tt

-- ---- the map

pub lasting_refl : (areas : Areas) → Lasting areas areas
lasting_refl areas = λ k a h. (a, h, same_area a)

pub lasting_trans : (first second third : Areas) → Lasting first second → Lasting second third → Lasting first third
lasting_trans first second third h g = λ k a e.
    let p = h k a e in
    let q = g k p.0 p.1 in
    (q.0, q.1, same_trans a p.0 q.0 p.2 q.2)

pub lasting_longer : (before after : Areas) → Lasting before after → length before ≤ length after
lasting_longer [] after h = omega arith
lasting_longer (a ∷ before) [] h = let p = h 0 a refl in let no : ⊥ = cc in absurd no
lasting_longer (a ∷ before) (b ∷ after) h = omega (arith, lasting_longer before after (λ k c e. h (suc k) c e))

pub put_lasts : (k : ℕ) (path : List ℕ) (v : Held) (areas : Areas) → Lasting areas (put_at k path v areas)
put_lasts k path v [] i a e = let no : ⊥ = cc in absurd no
put_lasts zero path v (b ∷ areas) zero a e = let same : b ≡ a = cc in (put_part path v b, refl, subst (λ x. SameArea x (put_part path v b)) same (same_put path v b))
put_lasts zero path v (b ∷ areas) (suc i) a e = (a, e, same_area a)
put_lasts (suc k) path v (b ∷ areas) zero a e = (a, e, same_area a)
put_lasts (suc k) path v (b ∷ areas) (suc i) a e = put_lasts k path v areas i a e

pub more_lasts : (areas more : Areas) → Lasting areas (areas ++ more)
more_lasts [] more k a e = let no : ⊥ = cc in absurd no
more_lasts (b ∷ areas) more zero a e = (a, e, same_area a)
more_lasts (b ∷ areas) more (suc k) a e = more_lasts areas more k a e

-- what changes behind the areas that there were before does not touch them
from_lasts : (f : AreaState → AreaState) (before end : Areas) → Lasting before end → Lasting before (from_place f (length before) end)
from_lasts f [] end h k a e = let no : ⊥ = cc in absurd no
from_lasts f (b ∷ before) [] h k a e = let p = h 0 b refl in let no : ⊥ = cc in absurd no
from_lasts f (b ∷ before) (c ∷ end) h zero a e = h zero a e
from_lasts f (b ∷ before) (c ∷ end) h (suc k) a e = from_lasts f before end (λ i x q. h (suc i) x q) k a e

pub mark_lasts : (before end : Areas) → Lasting before end → Lasting before (mark_from (length before) end)
mark_lasts before end h = from_lasts marked before end h

pub take_lasts : (before end : Areas) → Lasting before end → Lasting before (take_from (length before) end)
take_lasts before end h = from_lasts (λ a. Gone) before end h

-- ---- what areas hold

pub put_areas_fit : (table : Table) (areas : Areas) (k : ℕ) (path : List ℕ) (v : Held) (b : Written) → type_at areas k path ≡ Some b → HeldFits table b v → AreasFit table areas → AreasFit table (put_at k path v areas)
put_areas_fit table [] k path v b e f h j a q = let no : ⊥ = cc in absurd no
put_areas_fit table (Live c ∷ areas) zero path v b e f h zero a q =
    let same : with_part path v c ≡ a = cc in
    subst (λ (x : Area). HeldFits table x.ty x.held) same (put_fits table c.ty path b c.held v e (h 0 c refl) f)
put_areas_fit table (Marked c ∷ areas) zero path v b e f h zero a q =
    let same : with_part path v c ≡ a = cc in
    subst (λ (x : Area). HeldFits table x.ty x.held) same (put_fits table c.ty path b c.held v e (h 0 c refl) f)
put_areas_fit table (Gone ∷ areas) zero path v b e f h zero a q = let no : ⊥ = cc in absurd no
put_areas_fit table (x ∷ areas) zero path v b e f h (suc j) a q = h (suc j) a q
put_areas_fit table (x ∷ areas) (suc k) path v b e f h zero a q = h zero a q
put_areas_fit table (x ∷ areas) (suc k) path v b e f h (suc j) a q = put_areas_fit table areas k path v b e f (λ i c r. h (suc i) c r) j a q

pub more_areas_fit : (table : Table) (areas : Areas) (c : Area) → AreasFit table areas → HeldFits table c.ty c.held → AreasFit table (areas ++ Live c ∷ [])
more_areas_fit table [] c h f zero a q = let same : c ≡ a = cc in subst (λ (x : Area). HeldFits table x.ty x.held) same f
more_areas_fit table [] c h f (suc j) a q = let no : ⊥ = cc in absurd no
more_areas_fit table (x ∷ areas) c h f zero a q = h zero a q
more_areas_fit table (x ∷ areas) c h f (suc j) a q = more_areas_fit table areas c (λ i b r. h (suc i) b r) f j a q

from_areas_fit : (table : Table) (f : AreaState → AreaState) → ((x : AreaState) (a : Area) → in_map (f x) ≡ Some a → in_map x ≡ Some a) → (areas : Areas) (n : ℕ) → AreasFit table areas → AreasFit table (from_place f n areas)
from_areas_fit table f less [] n h j a q = let no : ⊥ = cc in absurd no
from_areas_fit table f less (x ∷ areas) zero h zero a q = h zero a (less x a q)
from_areas_fit table f less (x ∷ areas) zero h (suc j) a q = from_areas_fit table f less areas zero (λ i b r. h (suc i) b r) j a q
from_areas_fit table f less (x ∷ areas) (suc n) h zero a q = h zero a q
from_areas_fit table f less (x ∷ areas) (suc n) h (suc j) a q = from_areas_fit table f less areas n (λ i b r. h (suc i) b r) j a q

in_marked : (x : AreaState) (a : Area) → in_map (marked x) ≡ Some a → in_map x ≡ Some a
in_marked (Live b) a q = q
in_marked (Marked b) a q = q
in_marked Gone a q = q

pub mark_areas_fit : (table : Table) (areas : Areas) (n : ℕ) → AreasFit table areas → AreasFit table (mark_from n areas)
mark_areas_fit table areas n h = from_areas_fit table marked in_marked areas n h

pub take_areas_fit : (table : Table) (areas : Areas) (n : ℕ) → AreasFit table areas → AreasFit table (take_from n areas)
take_areas_fit table areas n h = from_areas_fit table (λ a. Gone) (λ x a q. let no : ⊥ = cc in absurd no) areas n h

-- ---- what fits

-- the area that a live one is
pub there : (areas : Areas) (k : ℕ) (a : Area) → slice_get areas k ≡ Some (Live a) → area_at areas k ≡ Some a
there areas k a e = ap (option_and_then in_map) e

pub leads_to : (core : ModuleCore) (entry : Entry) (areas : Areas) (r : Reference) (k : ℕ) (path : List ℕ) → Refers core entry areas r k path → type_at areas k path ≡ Some (written_out core.structs r.area)
leads_to core entry areas r k path f = ap (option_and_then (λ (a : Area). part a.ty path)) (there areas k f.area f.live) ∙ f.leads

still_refers : (core : ModuleCore) (entry : Entry) (before after : Areas) (r : Reference) (k : ℕ) (path : List ℕ) (f : Refers core entry before r k path) (b : AreaState) → slice_get after k ≡ Some b → SameArea (Live f.area) b → Refers core entry after r k path
still_refers core entry before after r k path f (Live b) e s =
    record { area = b; live = e; leads = ap (λ t. part t path) s.0 ∙ f.leads; access = subst (λ x. IsTrue (may_stand_for x r.constant)) (sym s.1) f.access; allowed = f.allowed }
still_refers core entry before after r k path f (Marked b) e s = absurd s
still_refers core entry before after r k path f Gone e s = absurd s

pub reference_lasts : (core : ModuleCore) (entry : Entry) (before after : Areas) → Lasting before after → (r : Option Reference) (k : ℕ) (path : List ℕ) → RefersAs core entry before r k path → RefersAs core entry after r k path
reference_lasts core entry before after h None k path f = absurd f
reference_lasts core entry before after h (Some r) k path f = let p = h k (Live f.area) f.live in still_refers core entry before after r k path f p.0 p.1 p.2

pub value_lasts : (core : ModuleCore) (entry : Entry) (before after : Areas) → Lasting before after → (ty : ValueType) (v : Value) → ValueFits core entry before ty v → ValueFits core entry after ty v
value_lasts core entry before after h ty (Num v) f = f
value_lasts core entry before after h ty (Ref k path) f = reference_lasts core entry before after h (reference_of ty) k path f

-- one value for each type, which fits it
abbrev pub ValuesFitAll : ModuleCore → Entry → Areas → List ValueType → List Value → Type 0
ValuesFitAll core entry areas [] [] = Unit {0}
ValuesFitAll core entry areas [] (v ∷ vs) = ⊥
ValuesFitAll core entry areas (t ∷ ts) [] = ⊥
ValuesFitAll core entry areas (t ∷ ts) (v ∷ vs) = ValueFits core entry areas t v × ValuesFitAll core entry areas ts vs

pub values_last : (core : ModuleCore) (entry : Entry) (before after : Areas) → Lasting before after → (ts : List ValueType) (vs : List Value) → ValuesFitAll core entry before ts vs → ValuesFitAll core entry after ts vs
values_last core entry before after h [] [] f = tt
values_last core entry before after h [] (v ∷ vs) f = f
values_last core entry before after h (t ∷ ts) [] f = f
values_last core entry before after h (t ∷ ts) (v ∷ vs) f = (value_lasts core entry before after h t v f.0, values_last core entry before after h ts vs f.1)

pub names_last : (core : ModuleCore) (before after : Areas) → Lasting before after → (a : Activation) (names : List (ℕ × Value)) → NamesFit core before a names → NamesFit core after a names
names_last core before after h a names f = λ number ty c g.
    let n = f number ty c g in
    record { value = n.value; has = n.has; fits = value_lasts core a.entry before after h ty n.value n.fits }

still_global : (table : Table) (g : AreaCore) (before after : Areas) (k : ℕ) (f : IsGlobal table g before k) (b : AreaState) → slice_get after k ≡ Some b → SameArea (Live f.area) b → IsGlobal table g after k
still_global table g before after k f (Live b) e s = record { area = b; live = e; type = s.0 ∙ f.type; access = s.1 ∙ f.access }
still_global table g before after k f (Marked b) e s = absurd s
still_global table g before after k f Gone e s = absurd s

pub globals_last : (core : ModuleCore) (before after : Areas) → Lasting before after → GlobalsFirst core before → GlobalsFirst core after
globals_last core before after h f = λ k g e.
    let x = f k g e in
    let p = h k (Live x.area) x.live in
    still_global core.structs g before after k x p.0 p.1 p.2
