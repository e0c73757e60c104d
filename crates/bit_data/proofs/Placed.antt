-- What a layout has: an unsigned word that is filled by fields in a row, each with bits.
use Rattle.std.proofs.Common.{◌≡◌, ℕ, ◌+◌, ◌<◌, ◌≤◌, List, [], length, get_or, take, Bool, true, false, Option, Some, None, Result, Ok, Err, IsTrue, refl, sym, subst, ap, ◌∙◌, arith}
use Rattle.std.specs.Prelude.{nat_eq, not, ◌&&◌, ◌||◌, if◌then◌else◌}
use Rattle.std.specs.List.{sum_by, list_all}
use Rattle.std.proofs.lemmas.List.Sums.{AllPass-from_list_all}
use Rattle.std.proofs.lemmas.Bool.Decides.{nat_tests}
use Rattle.iv_words.specs.Kinds.{width, is_signed}
use Rattle.iv_words.specs.declared.kind.IntKind.{IntKind}
use Rattle.iv_words.proofs.Widths.{width_most}
use Rattle.bit_data.specs.declared.layout.FieldWish.{FieldWish}
use Rattle.bit_data.specs.declared.layout.FieldBits.{FieldBits}
use Rattle.bit_data.specs.declared.layout.BitLayout.{BitLayout}
use Rattle.bit_data.specs.declared.fault.LayoutFault.{LayoutFault}
use Rattle.bit_data.specs.declared.fault.LayoutFault.TheVariants.{WidthSum}
use Rattle.bit_data.specs.Layouts.{bits_of, has_its_bit, is_filled, first_fault, placed_at, placed_from, faultless, laid_out, wishes_of, IsLayout}
use Rattle.bit_data.specs.Fields.{field_at}
use Rattle.bit_data.specs.Laws.{wish_at, IsInWord}
use Rattle.bit_data.proofs.Faults.{faultless_fields_are_sound}
use Rattle.bit_data.proofs.Rows.{placed_length, placed_is, placed_bits, placed_wishes, ends_before, ends_inside}

-- the word is filled by these wishes
pub record IsFilled (word : IntKind) (wishes : List FieldWish) : Type 0 where
  pub unsigned : is_signed word ≡ false
  pub sum : bits_of wishes ≡ width word

pub filled : (word : IntKind) (wishes : List FieldWish) → is_filled word wishes ≡ true → IsFilled word wishes
filled word wishes e = go (is_signed word) (nat_eq (bits_of wishes) (width word)) refl refl e
  where
    go : (signed same : Bool) → is_signed word ≡ signed → nat_eq (bits_of wishes) (width word) ≡ same → (not signed && same) ≡ true → IsFilled word wishes
    go true same s t h = cc
    go false false s t h = cc
    go false true s t h = record { unsigned = s; sum = grind (arith, nat_tests) }

pub small_sum : (word : IntKind) (wishes : List FieldWish) → is_filled word wishes ≡ true → bits_of wishes ≤ 64
small_sum word wishes e = let f = filled word wishes e in omega (arith, f.sum, width_most word)

-- the layout stands for these wishes
pub record Stands (layout : BitLayout) (wishes : List FieldWish) : Type 0 where
  pub filled : IsFilled layout.word wishes
  pub faultless : first_fault [] wishes ≡ None
  pub fields : layout.fields ≡ placed_from 0 wishes

fields_in : Result BitLayout LayoutFault → List FieldBits
fields_in (Ok layout) = layout.fields
fields_in (Err fault) = []

pub stands : (layout : BitLayout) (wishes : List FieldWish) → laid_out layout.word wishes ≡ Ok (record layout { name = [] }) → Stands layout wishes
unfolding fields_in
stands layout wishes e = go (is_filled layout.word wishes) (first_fault [] wishes) refl refl e
  where
    go : (b : Bool) (fault : Option LayoutFault) → is_filled layout.word wishes ≡ b → first_fault [] wishes ≡ fault
        → (if b then faultless fault layout.word wishes else Err WidthSum) ≡ Ok (record layout { name = [] }) → Stands layout wishes
    go true None s t h = record { filled = filled layout.word wishes s; faultless = t; fields = sym (ap fields_in h) }
    go true (Some fault) s t h = cc
    go false fault s t h = cc

layout_is : (word : IntKind) (wishes : List FieldWish) (layout : BitLayout) → laid_out word wishes ≡ Ok layout → layout ≡ record { name = []; word = word; fields = placed_from 0 wishes }
layout_is word wishes layout e = go (is_filled word wishes) (first_fault [] wishes) e
  where
    go : (b : Bool) (fault : Option LayoutFault) → (if b then faultless fault word wishes else Err WidthSum) ≡ Ok layout → layout ≡ record { name = []; word = word; fields = placed_from 0 wishes }
    go true None h = cc
    go true (Some fault) h = cc
    go false fault h = cc

-- what was laid out is a layout
pub laid_is : (word : IntKind) (wishes : List FieldWish) (layout : BitLayout) → IsTrue (list_all has_its_bit wishes) → laid_out word wishes ≡ Ok layout → IsLayout layout
laid_is word wishes layout truths laid =
    let is = layout_is word wishes layout laid in
    let kind : layout.word ≡ word = ap (λ (l : BitLayout). l.word) is in
    let unnamed : layout.name ≡ [] = ap (λ (l : BitLayout). l.name) is in
    let same : wishes_of layout ≡ wishes = ap wishes_of is ∙ placed_wishes 0 wishes in
    record {
      truths = subst (λ ws. IsTrue (list_all has_its_bit ws)) (sym same) truths;
      laid = ap (λ k. laid_out k (wishes_of layout)) kind ∙ ap (laid_out word) same ∙ laid ∙ ap (λ n. let r : Result BitLayout LayoutFault = Ok (record layout { name = n }) in r) unnamed;
    }

-- ---- of a layout

pub field_is : (l : BitLayout) (h : IsLayout l) (i : ℕ) → i < length l.fields → field_at l i ≡ placed_at (bits_of (take i (wishes_of l))) (wish_at (wishes_of l) i)
field_is l h i k =
    let s = stands l (wishes_of l) h.laid in
    let start : 0 + bits_of (take i (wishes_of l)) ≡ bits_of (take i (wishes_of l)) = omega arith in
    let none : FieldBits = record { name = []; low = 0; width = 0; truth = false } in
    let within : i < length (wishes_of l) = omega (arith, ap length s.fields, placed_length 0 (wishes_of l)) in
    ap (λ fs. get_or fs i none) s.fields ∙ placed_is 0 (wishes_of l) i none within ∙ ap (λ n. placed_at n (wish_at (wishes_of l) i)) start

pub wish_within : (l : BitLayout) (h : IsLayout l) (i : ℕ) → i < length l.fields → i < length (wishes_of l)
wish_within l h i k = let s = stands l (wishes_of l) h.laid in omega (arith, ap length s.fields, placed_length 0 (wishes_of l))

pub in_a_row : (l : BitLayout) → IsLayout l → (i : ℕ) → i < length l.fields → (field_at l i).low ≡ sum_by (λ (f : FieldBits). f.width) (take i l.fields)
in_a_row l h i k =
    let s = stands l (wishes_of l) h.laid in
    ap (λ (f : FieldBits). f.low) (field_is l h i k) ∙ sym (placed_bits 0 (wishes_of l) i) ∙ ap (λ fs. sum_by (λ (f : FieldBits). f.width) (take i fs)) (sym s.fields)

one_bit : (w : FieldWish) → has_its_bit w ≡ true → w.truth ≡ true → w.width ≡ 1
one_bit w h t = let e : (not true || nat_eq w.width 1) ≡ true = subst (λ b. (not b || nat_eq w.width 1) ≡ true) t h in grind (arith, nat_tests)

pub in_word : (l : BitLayout) → IsLayout l → (i : ℕ) → i < length l.fields → IsInWord l i
in_word l h i k =
    let s = stands l (wishes_of l) h.laid in
    let within = wish_within l h i k in
    let w = wish_at (wishes_of l) i in
    let truths : has_its_bit w ≡ true = AllPass-from_list_all has_its_bit (wishes_of l) h.truths i (record { name = []; width = 0; truth = false }) within in
    let is = field_is l h i k in
    record {
      some = subst (λ (f : FieldBits). 1 ≤ f.width) (sym is) (faultless_fields_are_sound (wishes_of l) s.faultless i within).some;
      inside = subst (λ (f : FieldBits). f.low + f.width ≤ width l.word) (sym is) (omega (arith, ends_inside (wishes_of l) i within, s.filled.sum));
      truth = subst (λ (f : FieldBits). f.truth ≡ true → f.width ≡ 1) (sym is) (one_bit w truths);
    }

-- a field ends before each later one begins
pub before_later : (l : BitLayout) → IsLayout l → (i j : ℕ) → i < j → j < length l.fields → (field_at l i).low + (field_at l i).width ≤ (field_at l j).low
before_later l h i j less k =
    let first : i < length l.fields = omega arith in
    let a = field_is l h i first in
    let b = field_is l h j k in
    let e : (field_at l j).low ≡ bits_of (take j (wishes_of l)) = ap (λ (f : FieldBits). f.low) b in
    subst (λ (f : FieldBits). f.low + f.width ≤ (field_at l j).low) (sym a) (omega (arith, ends_before (wishes_of l) i j less (wish_within l h i first)))
