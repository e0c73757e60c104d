-- Where the value of a `Box` lies, for types that hold a `Box` of themselves: in the `std` box inside it.
use mathlib.Core.Path.{refl}
use mathlib.Core.Former.{Former, this, const, pair, via}
use base.Stored.{gnil}
use base.Fml.{ftrue}
use denote.RattleType.{RattleType}
use denote.Memory.{part_of}
use denote.RawPtr.{Ptr}
use denote.Sharing.{nothing}
use denote.HoleLaws.{Alike}
use denote.HolePlaces.{Recodes, struct_places, laid, one_value}
use denote.Hole.Fix.{over}
use denote.Param.Weighed.{Weighed}
use denote.Model.Placed.{view_places}
use Rattle.std.specs.declared.boxed.Box as plain
use Rattle.std.specs.contracts.boxed.Box as plain_row
use Rattle.std.specs.declared.alloc.Global.{Global}
use Rattle.std.specs.contracts.alloc.Global as heap
use Rattle.std.specs.contracts.impls.GlobalAllocator.TheImpl.{ghosts}
use Rattle.iv_words.specs.declared.boxed.Box.TheInside.{Inside}
use Rattle.iv_words.specs.declared.boxed.Box.TheView.{view, invariant}
use Rattle.iv_words.specs.contracts.boxed.Box as boxed
use Rattle.iv_words.specs.contracts.boxed.Box.TheInside as inside

abbrev pub the_former : Former {0} → Former {0}
the_former value = value

abbrev pub the_weighed : {g : Former {0}} → Weighed g → Weighed (the_former g)
the_weighed weights = weights

-- the one field: a pointer and an allocator, and then the value
abbrev field : Former {0}
field =
    via (pair (const (Ptr × Global)) this) Inside (λ T fields. ((fields.inner.ptr, fields.inner.alloc), fields.inner.value))
    (λ T parts. record { inner = record { ptr = parts.0.0; alloc = parts.0.1; value = parts.1 } }) (λ T fields. refl) (λ T parts. refl)

abbrev holding : {T U : Type 0} → plain.Box T Global → U → plain.Box U Global
holding b value = record { ptr = b.ptr; alloc = b.alloc; value = value }

abbrev row_of : RattleType → RattleType
row_of R = plain_row.the_row R heap.the_row ghosts

module _ (R S : RattleType) (h : R.Denot → S.Denot) where
  inner_places : Alike R S h → Alike (row_of R) (row_of S) (λ b. holding b (h b.value))
  unfolding part_of
  inner_places alike = record {
    mir_same = λ i. (row_of (one_value R (alike.mir_same i) (λ _. ftrue) (λ _ _. nothing) gnil)).mir;
    own_same = λ b i. (row_of (one_value R (alike.mir_same i) (alike.own_same b.value i) (alike.shr_same b.value i) gnil)).own_val (holding b tt);
    shr_same = λ b i. (row_of (one_value R (alike.mir_same i) (alike.own_same b.value i) (alike.shr_same b.value i) gnil)).shr_at (holding b tt);
  }

  pub the_places : Alike R S h → Alike (boxed.the_row R) (boxed.the_row S) ((the_former this).map R.Denot S.Denot h)
  the_places alike =
      view_places field this view (λ T U k fields. refl) (λ T fields. refl) R.Denot S.Denot h (boxed.the_row R).coded (boxed.the_row S).coded
      (invariant R.Denot) (invariant S.Denot) (λ u p q. refl) (λ u p q. refl) (λ u e. tt) (λ u e. tt)
      (over (inside.the_row R)) (over (inside.the_row S))
      (struct_places (inside.the_type R) (inside.the_type S) ((λ b. holding b (h b.value)), tt) _ (λ d. refl) refl (laid _ _ _ (inner_places alike), tt))

  pub the_codes_placed : Recodes R S h → Recodes (boxed.the_row R) (boxed.the_row S) ((the_former this).map R.Denot S.Denot h)
  the_codes_placed same value = same value
