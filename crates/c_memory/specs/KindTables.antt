-- The exact-width kinds of whole numbers as the scalars of a target: a scalar is aligned to its size, or to the greatest alignment.
use Rattle.std.specs.Prelude.{ℕ, min, Bool}
use denote.Enum.Bare.{sameb}
use Rattle.iv_words.specs.Kinds.{kind_bytes, is_signed, in_range}
use Rattle.iv_words.specs.declared.IntKind.{IntKind}
use Rattle.iv_words.specs.contracts.kind.IntKind as kinds
use Rattle.c_memory.specs.Codecs.{ByteOrder, ScalarTable}

abbrev pub same_kind : IntKind → IntKind → Bool
same_kind a b = sameb kinds.the_type a b

abbrev pub kind_table : ByteOrder → (greatest_alignment : ℕ) → ScalarTable IntKind
kind_table order most = record {
  metric = record { width = kind_bytes; align = λ kind. min (kind_bytes kind) most };
  signed = is_signed;
  order = order;
  same = same_kind;
  holds = in_range;
}
