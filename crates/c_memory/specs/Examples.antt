-- Small objects and exactly what their bytes are and their accesses give: examples that hold the definitions fast.
use Rattle.std.specs.Prelude.{◌≡◌, ℕ, ℤ, pos, negsuc, List, [], ◌∷◌, Option, Some, None, Ok, Err, Bool, true, false}
use Rattle.iv_words.specs.declared.IntKind.{IntKind}
use Rattle.iv_words.specs.declared.IntKind.TheVariants.{U8, U16, U32, I16, I32}
use Rattle.type_trees.specs.Trees.{Tree, Leaf, Many, Struct, End, Field}
use Rattle.type_trees.specs.Layouts.{lay}
use Rattle.type_trees.specs.Values.{cells}
use Rattle.c_memory.specs.Bytes.{Byte, Number, Unset, PointerByte}
use Rattle.c_memory.specs.Representations.{Representation}
use Rattle.c_memory.specs.Codecs.{Little, Big, ScalarTable, encode_number, decode_number, numbers}
use Rattle.c_memory.specs.Objects.{Object, Objects, is_live}
use Rattle.c_memory.specs.Access.{Dead, BadAccess, Indeterminate, ConstWrite, read, write, and_then}
use Rattle.c_memory.specs.Standing.{refuses_cast}
use Rattle.c_memory.specs.Blocks.{create, leave}
use Rattle.c_memory.specs.Initializers.{initialize, initial, One, Zero, Braces, Done, More}
use Rattle.c_memory.specs.Copies.{read_each, copy_each}
use Rattle.c_memory.specs.KindTables.{kind_table}

-- one target has the lowest byte first and aligns scalars to their size, the other the highest first and aligns to 2 at most
abbrev pub low_first : ScalarTable IntKind
low_first = kind_table Little 8

abbrev pub high_first : ScalarTable IntKind
high_first = kind_table Big 2

-- pointers, of which none is in these objects, are numbers
abbrev pub Bytes : Type 0
Bytes = List (Byte ℕ)

abbrev pub encoded : ScalarTable IntKind → IntKind → ℤ → Bytes
encoded t kind v = encode_number t kind v

abbrev pub decoded : ScalarTable IntKind → IntKind → Bytes → Option ℤ
decoded t kind bs = decode_number t kind bs

pub record NumberExamples : Type 0 where
  pub lowest : encoded low_first U16 (pos 258) ≡ Number 2 ∷ Number 1 ∷ []
  pub highest : encoded high_first U16 (pos 258) ≡ Number 1 ∷ Number 2 ∷ []
  pub negative : encoded low_first I16 (negsuc 1) ≡ Number 254 ∷ Number 255 ∷ []
  pub negative_high_first : encoded high_first I16 (negsuc 1) ≡ Number 255 ∷ Number 254 ∷ []
  pub long : encoded high_first U32 (pos 1) ≡ Number 0 ∷ Number 0 ∷ Number 0 ∷ Number 1 ∷ []
  pub back : decoded high_first I16 (Number 255 ∷ Number 254 ∷ []) ≡ Some (negsuc 1)
  pub unsigned : decoded high_first U16 (Number 255 ∷ Number 254 ∷ []) ≡ Some (pos 65534)
  pub indeterminate : decoded low_first U16 (Number 1 ∷ Unset ∷ []) ≡ None
  pub pointer : decoded low_first U16 (PointerByte 5 0 ∷ PointerByte 5 1 ∷ []) ≡ None

-- ---- objects

abbrev pub low : Representation IntKind ℤ (Byte ℕ)
low = numbers low_first

abbrev pub Memory : Type 0
Memory = Objects IntKind ℕ (Byte ℕ)

-- a byte, then a number of four
abbrev pub pair : Tree IntKind ℕ
pair = Struct 0 (Field 0 (Leaf U8) (Field 1 (Leaf U32) End))

-- 7 and 9
abbrev pub one_pair : Memory
one_pair = initialize low [] pair false (pos 7 ∷ pos 9 ∷ [])

-- an object of that type, not const and living
abbrev pub pair_of : Bytes → Object IntKind ℕ (Byte ℕ)
pair_of bs = record { type = pair; constant = false; live = true; bytes = bs }

abbrev pub seven_and_nine : Bytes
seven_and_nine = Number 7 ∷ Unset ∷ Unset ∷ Unset ∷ Number 9 ∷ Number 0 ∷ Number 0 ∷ Number 0 ∷ []

-- what lies between the members is no scalar and stays indeterminate, in a copy too
pub record PaddingExamples : Type 0 where
  pub bytes : one_pair ≡ pair_of seven_and_nine ∷ []
  pub member : read low one_pair 0 (4, U32) ≡ Ok (pos 9)
  pub padding : read low one_pair 0 (1, U8) ≡ Err BadAccess
  pub byte_of_member : read low one_pair 0 (4, U8) ≡ Err BadAccess
  pub other_type : read low one_pair 0 (4, I32) ≡ Err BadAccess
  pub written_padding : write low one_pair 0 (1, U8) (pos 0) ≡ Err BadAccess
  pub all_scalars : read_each (read low) one_pair 0 (lay low.metric pair 0) ≡ Ok (pos 7 ∷ pos 9 ∷ [])
  pub copied : copy_each (read low) (write low) (create low one_pair pair) 1 (lay low.metric pair 0) 0 (lay low.metric pair 0) ≡ Ok (pair_of seven_and_nine ∷ pair_of seven_and_nine ∷ [])
  pub neighbour : write low one_pair 0 (0, U8) (pos 8) ≡ Ok (pair_of (Number 8 ∷ Unset ∷ Unset ∷ Unset ∷ Number 9 ∷ Number 0 ∷ Number 0 ∷ Number 0 ∷ []) ∷ [])
  pub no_neighbour : write low one_pair 0 (4, U32) (pos 1) ≡ Ok (pair_of (Number 7 ∷ Unset ∷ Unset ∷ Unset ∷ Number 1 ∷ Number 0 ∷ Number 0 ∷ Number 0 ∷ []) ∷ [])

-- the same two numbers where the highest byte is first and nothing is aligned to more than 2
abbrev pub high : Representation IntKind ℤ (Byte ℕ)
high = numbers high_first

abbrev pub one_high : Memory
one_high = initialize high [] pair false (pos 7 ∷ pos 258 ∷ [])

pub record OtherTargetExamples : Type 0 where
  pub bytes : one_high ≡ pair_of (Number 7 ∷ Unset ∷ Number 0 ∷ Number 0 ∷ Number 1 ∷ Number 2 ∷ []) ∷ []
  pub member : read high one_high 0 (2, U32) ≡ Ok (pos 258)
  pub no_member : read high one_high 0 (4, U32) ≡ Err BadAccess

-- a const byte, and then another byte without a value
abbrev pub two_bytes : Memory
two_bytes = create low (initialize low [] (Leaf U8) true (pos 5 ∷ [])) (Leaf U8)

pub record AccessExamples : Type 0 where
  pub no_value : read low two_bytes 1 (0, U8) ≡ Err Indeterminate
  pub first_value : and_then (write low two_bytes 1 (0, U8) (pos 6)) (λ mem. read low mem 1 (0, U8)) ≡ Ok (pos 6)
  pub other_object : and_then (write low two_bytes 1 (0, U8) (pos 6)) (λ mem. read low mem 0 (0, U8)) ≡ Ok (pos 5)
  pub const_read : read low two_bytes 0 (0, U8) ≡ Ok (pos 5)
  pub const_write : write low two_bytes 0 (0, U8) (pos 6) ≡ Err ConstWrite
  pub ended_read : read low (leave 1 two_bytes) 1 (0, U8) ≡ Err Dead
  pub ended_write : write low (leave 1 two_bytes) 1 (0, U8) (pos 6) ≡ Err Dead
  pub ended_first : write low (leave 0 two_bytes) 0 (1, U16) (pos 6) ≡ Err Dead
  pub access_first : write low two_bytes 0 (1, U16) (pos 6) ≡ Err BadAccess
  pub older_lives : read low (leave 1 two_bytes) 0 (0, U8) ≡ Ok (pos 5)
  pub never_made : read low two_bytes 2 (0, U8) ≡ Err Dead
  pub next_number : is_live (create low (leave 1 two_bytes) (Leaf U8)) 2 ≡ true

abbrev pub is_long : Tree IntKind ℕ → Bool
is_long (Leaf U32) = true
is_long a = false

-- pointers into an object with two pairs, as pointers to numbers of four bytes
abbrev pub two_pairs : Memory
two_pairs = create low [] (Many 2 pair)

pub record CastExamples : Type 0 where
  pub there : refuses_cast low.metric is_long two_pairs 0 12 ≡ None
  pub other_type : refuses_cast low.metric is_long two_pairs 0 8 ≡ Some BadAccess
  pub padding : refuses_cast low.metric is_long two_pairs 0 2 ≡ Some BadAccess
  pub past : refuses_cast low.metric is_long two_pairs 0 20 ≡ Some BadAccess
  pub ended : refuses_cast low.metric is_long (leave 0 two_pairs) 0 2 ≡ Some Dead

-- missing elements are zero
abbrev pub nought : IntKind → ℤ
nought kind = pos 0

abbrev pub bytes : Tree IntKind ℕ
bytes = Many 3 (Leaf U8)

abbrev pub pairs : Tree IntKind ℕ
pairs = Many 2 pair

pub record InitializerExamples : Type 0 where
  pub missing : cells (initial nought bytes (Braces (More (One (pos 5)) Done))) ≡ pos 5 ∷ pos 0 ∷ pos 0 ∷ []
  pub nothing : cells (initial nought pairs Zero) ≡ pos 0 ∷ pos 0 ∷ pos 0 ∷ pos 0 ∷ []
  pub within : cells (initial nought pairs (Braces (More (Braces (More (One (pos 3)) Done)) Done))) ≡ pos 3 ∷ pos 0 ∷ pos 0 ∷ pos 0 ∷ []
  pub in_order : cells (initial nought pair (Braces (More (One (pos 3)) (More (One (pos 4)) Done)))) ≡ pos 3 ∷ pos 4 ∷ []
