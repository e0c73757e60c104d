-- What holds of the arguments so far and of the regions learned from them.
use Rattle.std.proofs.Common.{◌≡◌, ℕ, suc, ◌+◌, ◌<◌, ◌≤◌, Bool, true, false, ◌&&◌, List, [], ◌∷◌, ◌++◌, length, take, drop, drop-cons, get_or, map, Option, Some, None, slice_get, IsTrue, refl, sym, ap, ◌∙◌, subst, add-one, arith}
use Rattle.std.specs.Prelude.{unwrap_or}
use Rattle.std.proofs.lemmas.List.{take_all, drop_all}
use Rattle.std.proofs.lemmas.Option.{slice_get-get_or, unwrap_or-slice_get}
use Rattle.area_types.specs.View.{type_of}
use Rattle.area_types.specs.declared.area.ValueType.{ValueType}
use Rattle.area_types.specs.declared.region.Region.{Region}
use Rattle.area_types.specs.declared.region.Region.TheVariants.{Global, Param, Own}
use Rattle.region_check.specs.Substitutions.{region_of}
use Rattle.region_check.specs.Calls.{Reference, Passed, passed, reference_of, AllFit}
use Rattle.region_check.specs.Faults.{argument_number, region_from, or_else, known, required, Accepts, AcceptsPassed, AcceptedAfter, IsFault, IsFaultOf, FirstFault, Refused}
use Rattle.region_check.specs.Found.{may_follow, count_with, is_numbered, region_count, learned_from, Found}
use Rattle.region_check.specs.declared.fault.RegionFault.{RegionFault}
use Rattle.region_check.specs.declared.fault.RegionFault.TheVariants.{Clash, Mutable, AreaDiffers, Memory}
use Rattle.region_check.proofs.Known.{known_more, learns, learns_count, or_nothing}
use Rattle.region_check.proofs.Accepted.{known_fits, accepted_fit, accepted_more, none_fits}
use Rattle.region_check.proofs.Calls.{row, row_more, row_split, row_length}

pub record SoFar (ps qs : List ValueType) (i : ℕ) (s : List Region) : Type 0 where
  pub knows : (j : ℕ) → slice_get s j ≡ known (row (take i ps) (take i qs)) j
  pub accepted : AcceptedAfter [] (row (take i ps) (take i qs))
  pub numbered : IsTrue (is_numbered (length s) (map type_of (drop i ps)))
  pub counted : region_count (length s) (map type_of (drop i ps)) ≡ region_count 0 (map type_of ps)

both : (a b : Bool) → IsTrue (a && b) → IsTrue a × IsTrue b
both true b h = (refl, h)
both false b h = absurd (cc)

required_same : (f g : ℕ → Option Region) → ((j : ℕ) → f j ≡ g j) → (q : Region) → required f q ≡ required g q
required_same f g h Global = refl
required_same f g h (Param j) = h j
required_same f g h Own = refl

accepts_same : (f g : ℕ → Option Region) → ((j : ℕ) → f j ≡ g j) → (w x : Option Reference) → AcceptsPassed f w x → AcceptsPassed g w x
accepts_same f g h None x k = tt
accepts_same f g h (Some w) None k = absurd k
accepts_same f g h (Some w) (Some x) k = subst (λ o. Accepts o w x) (required_same f g h w.region) k

fault_same : (arg : ℕ) (f g : ℕ → Option Region) → ((j : ℕ) → f j ≡ g j) → (w x : Option Reference) (fault : RegionFault) → IsFaultOf arg f w x fault → IsFaultOf arg g w x fault
fault_same arg f g h None x fault k = k
fault_same arg f g h (Some w) None fault k = k
fault_same arg f g h (Some w) (Some x) fault k = subst (λ o. IsFault arg o w x fault) (required_same f g h w.region) k

-- ---- the list with one more argument

learns_from : (s : List Region) (w x : Option Reference) (j : ℕ) → IsTrue (may_follow (length s) w) → AcceptsPassed (slice_get s) w x → slice_get (learned_from s w x) j ≡ or_else (slice_get s j) (region_from j w x)
learns_from s None x j h k = sym (or_nothing (slice_get s j))
learns_from s (Some w) None j h k = absurd k
learns_from s (Some w) (Some x) j h k = learns s w.region x.region j h

count_from : (s : List Region) (w x : Option Reference) → IsTrue (may_follow (length s) w) → AcceptsPassed (slice_get s) w x → length (learned_from s w x) ≡ count_with (length s) w
count_from s None x h k = refl
count_from s (Some w) None h k = absurd k
count_from s (Some w) (Some x) h k = learns_count s w.region x.region h

pub so_far_none : (ps qs : List ValueType) → IsTrue (is_numbered 0 (map type_of ps)) → SoFar ps qs 0 []
so_far_none ps qs h = record { knows = λ j. refl; accepted = tt; numbered = h; counted = refl }

next_type : (ps : List ValueType) (i : ℕ) (x : ValueType) → i < length ps → x ≡ get_or ps i x → map type_of (drop i ps) ≡ type_of x ∷ map type_of (drop (suc i) ps)
next_type ps i x h e = ap (map type_of) (drop-cons ps i x h) ∙ ap (λ z. type_of z ∷ map type_of (drop (suc i) ps)) (sym e)

so_far_next : (ps qs : List ValueType) (i : ℕ) (x y : ValueType) (s t : List Region) → SoFar ps qs i s → i < length ps → i < length qs → x ≡ get_or ps i x → y ≡ get_or qs i y → AcceptsPassed (slice_get s) (reference_of (type_of x)) (reference_of (type_of y)) → t ≡ learned_from s (reference_of (type_of x)) (reference_of (type_of y)) → SoFar ps qs (suc i) t
so_far_next ps qs i x y s t was h k e f accepts learned =
    let w = reference_of (type_of x) in
    let more = row_more ps qs i x y h k e f in
    let rest = both (may_follow (length s) w) (is_numbered (count_with (length s) w) (map type_of (drop (suc i) ps))) (subst (λ l. IsTrue (is_numbered (length s) l)) (next_type ps i x h e) was.numbered) in
    let count : length t ≡ count_with (length s) w = ap length learned ∙ count_from s w (reference_of (type_of y)) rest.0 accepts in
    record {
      knows = λ j. ap (λ l. slice_get l j) learned ∙ learns_from s w (reference_of (type_of y)) j rest.0 accepts
          ∙ ap (λ o. or_else o (region_from j w (reference_of (type_of y)))) (was.knows j)
          ∙ sym (known_more (row (take i ps) (take i qs)) (passed (type_of x) (type_of y)) j) ∙ ap (λ l. known l j) (sym more);
      accepted = subst (AcceptedAfter []) (sym more) (accepted_more [] (row (take i ps) (take i qs)) (passed (type_of x) (type_of y)) was.accepted (accepts_same (slice_get s) (known (row (take i ps) (take i qs))) was.knows w (reference_of (type_of y)) accepts));
      numbered = subst (λ n. IsTrue (is_numbered n (map type_of (drop (suc i) ps)))) (sym count) rest.1;
      counted = ap (λ n. region_count n (map type_of (drop (suc i) ps))) count ∙ ap (region_count (length s)) (sym (next_type ps i x h e)) ∙ was.counted;
    }

pub so_far_more : (ps qs : List ValueType) (i : ℕ) (x y : ValueType) (s t : List Region) → SoFar ps qs i s → i < length ps → length ps ≡ length qs → x ≡ get_or ps i x → y ≡ get_or qs i y → AcceptsPassed (slice_get s) (reference_of (type_of x)) (reference_of (type_of y)) → t ≡ learned_from s (reference_of (type_of x)) (reference_of (type_of y)) → SoFar ps qs (i + 1) t
so_far_more ps qs i x y s t was h same e f accepts learned = subst (λ n. SoFar ps qs n t) (sym (add-one i)) (so_far_next ps qs i x y s t was h (omega arith) e f accepts learned)

-- ---- the end

known_region : (s : List Region) (o : ℕ → Option Region) → ((j : ℕ) → slice_get s j ≡ o j) → (j : ℕ) (r : Region) → o j ≡ Some r → region_of s j ≡ r
known_region s o h j r e = ap (λ p. unwrap_or p Global) (h j ∙ e)

region_known : (s : List Region) (j : ℕ) → j < length s → slice_get s j ≡ Some (region_of s j)
region_known s j h = slice_get-get_or s j Global h ∙ ap Some (sym (unwrap_or-slice_get s j Global))

found : (ps qs : List ValueType) (s : List Region) (xs : List Passed) → ((j : ℕ) → slice_get s j ≡ known xs j) → AcceptedAfter [] xs → length s ≡ region_count 0 (map type_of ps) → Found xs (region_count 0 (map type_of ps)) s
found ps qs s xs knows accepted counted = record {
  counted = counted;
  fits = accepted_fit (region_of s) [] xs (known_region s (known xs) knows) accepted;
  only = λ f fit j h. known_fits f xs j (region_of s j) fit (sym (knows j) ∙ region_known s j h);
}

pub all_found : (ps qs : List ValueType) (i : ℕ) (s : List Region) → SoFar ps qs i s → length ps ≤ i → length ps ≡ length qs → Found (row ps qs) (region_count 0 (map type_of ps)) s
all_found ps qs i s all h same =
    let whole : row (take i ps) (take i qs) ≡ row ps qs = ap (λ l. row l (take i qs)) (take_all i ps h) ∙ ap (row ps) (take_all i qs (omega arith)) in
    found ps qs s (row ps qs) (λ j. all.knows j ∙ ap (λ l. known l j) whole) (subst (AcceptedAfter []) whole all.accepted)
    (ap (λ l. region_count (length s) (map type_of l)) (sym (drop_all i ps h)) ∙ all.counted)

-- ---- a fault

refused : (xs : List Passed) (fault : RegionFault) → FirstFault xs fault → ((fault ≡ Memory → ⊥) → (f : ℕ → Region) → AllFit f xs → ⊥) → Refused xs fault
refused xs (Clash k a b) h n = record { first = h; none = n (λ e. absurd (cc)) }
refused xs (Mutable k) h n = record { first = h; none = n (λ e. absurd (cc)) }
refused xs (AreaDiffers k) h n = record { first = h; none = n (λ e. absurd (cc)) }
refused xs Memory h n = tt

pub faulty : (ps qs : List ValueType) (i : ℕ) (x y : ValueType) (s : List Region) (fault : RegionFault) → SoFar ps qs i s → i < length ps → length ps ≡ length qs → x ≡ get_or ps i x → y ≡ get_or qs i y → IsFaultOf (argument_number i) (slice_get s) (reference_of (type_of x)) (reference_of (type_of y)) fault → Refused (row ps qs) fault
faulty ps qs i x y s fault was h same e f is_fault =
    let earlier = row (take i ps) (take i qs) in
    let at = passed (type_of x) (type_of y) in
    let later = row (drop (suc i) ps) (drop (suc i) qs) in
    let split : row ps qs ≡ earlier ++ at ∷ later = row_split ps qs i x y h (omega arith) e f in
    let here : IsFaultOf (argument_number i) (known earlier) at.wanted at.given fault = fault_same (argument_number i) (slice_get s) (known earlier) was.knows at.wanted at.given fault is_fault in
    let numbered : IsFaultOf (argument_number (length earlier)) (known earlier) at.wanted at.given fault = subst (λ n. IsFaultOf (argument_number n) (known earlier) at.wanted at.given fault) (sym (row_length ps qs i (omega arith) (omega arith))) here in
    refused (row ps qs) fault (record { earlier = earlier; at = at; later = later; split = split; accepted = was.accepted; faulty = numbered })
    (λ m g fit. none_fits g (argument_number i) earlier later at fault here m (subst (AllFit g) split fit))
