-- What the fast hasher computes.
use Rattle.std.specs.Prelude.{ℕ, ◌*◌, ◌/◌, ◌-◌, ◌^◌, ◌∷◌, [], List, length}
use Rattle.std.specs.Prelude.{if◌then◌else◌, nat_eq, slice_index, bit_and, bit_xor}
use Rattle.std.specs.Int.{w64, from_le_bytes}
use Rattle.multimap_workloads.specs.declared.fast.FastHasher.{FastHasher}

-- the two halves of the product, joined
abbrev pub folded : ℕ → ℕ → ℕ
folded state word =
    let product = bit_xor state word * 0x5851_F42D_4C95_7F2D in
    bit_xor (bit_and product (2 ^ 64 - 1)) (product / 2 ^ 64)

-- the first eight bytes as a word, the lowest first
abbrev pub first_word : List ℕ → ℕ
first_word bytes = from_le_bytes w64 (slice_index bytes 0 ∷ slice_index bytes 1
    ∷ slice_index bytes 2 ∷ slice_index bytes 3 ∷ slice_index bytes 4 ∷ slice_index bytes 5
    ∷ slice_index bytes 6 ∷ slice_index bytes 7 ∷ [])

-- the word that a write stands for: its eight bytes, or its length where it has more or fewer
abbrev pub word_of : List ℕ → ℕ
word_of bytes = if nat_eq (length bytes) 8 then first_word bytes else length bytes

-- the hasher after a write
abbrev pub written : FastHasher → List ℕ → FastHasher
written h bytes = record { state = folded h.state (word_of bytes) }
