-- When two neighbours would fit in one node, on small trees at the limits: 1,016 bytes, a pivot suffix of 65, and no message. The second
-- program tests its own rule at the same limits (tests/second/tests/upkeep.rs).
use Rattle.std.specs.Prelude.{ℕ, ◌≡◌, refl, List, [], ◌∷◌, ◌++◌, true, false, replicate}
use Rattle.image.specs.Bytes.{shared}
use Rattle.image.specs.Entry.{drops}
use Rattle.image.specs.Table.{Row}
use Rattle.image.specs.Image.{Tree, leaf, interior, end, tree}
use Rattle.image.specs.Upkeep.{pair_bytes, child_bytes, short_pivots, tree_bytes, tree_short, no_message, would_fit}
use Rattle.samples.specs.Verdict.{row}

-- a pair that takes 8 bytes and its value's
abbrev pub valued : ℕ → Row
valued k = row (0x61 ∷ 0 ∷ []) (replicate k 7)

-- a leaf of so many pairs of 40 bytes and one more with a value of this length
abbrev pub leaf_of : ℕ → ℕ → Tree
leaf_of count k = leaf 2 (replicate count (valued 32) ++ valued k ∷ [])

-- a node over two leaves, the second from a pivot whose suffix has this length
abbrev pub over : ℕ → Tree
over k = interior 3 (tree [] (leaf 4 []) (tree (replicate k 0x70) (leaf 5 []) end)) []

abbrev pub waiting : Tree
waiting = interior 3 (tree [] (leaf 4 []) end) (drops (0x61 ∷ 0 ∷ []) ∷ [])

-- r1 00, where what lies below r1 begins, and r1 00 FF, where it ends
abbrev pub r1 : List ℕ
r1 = 0x72 ∷ 0x31 ∷ 0 ∷ []

abbrev pub past_r1 : List ℕ
past_r1 = r1 ++ 255 ∷ []

pub record Limits : Type 0 where
  small : would_fit (leaf 2 []) (leaf 3 []) [] r1 (255 ∷ []) ≡ true
  -- 12 × 40 + 16 and 12 × 40 + 40 bytes, and then one more
  bytes_1016 : would_fit (leaf_of 12 8) (leaf_of 12 32) [] r1 (255 ∷ []) ≡ true
  bytes_1017 : would_fit (leaf_of 12 9) (leaf_of 12 32) [] r1 (255 ∷ []) ≡ false
  -- the left one lifts r1, 3 bytes: 24 × 40 + 8 bytes; below r1 the joined range lifts it too, beyond it lifts nothing
  lifted_still : would_fit (leaf_of 24 0) (leaf 3 []) r1 (r1 ++ 0x6d ∷ 0 ∷ []) past_r1 ≡ true
  lifted_no_more : would_fit (leaf_of 24 0) (leaf 3 []) r1 past_r1 (255 ∷ []) ≡ false
  -- the right one lifts r1, the joined range nothing: suffixes of 62 and 63 become 65 and 66
  pivot_65 : would_fit (over 1) (over 62) [] r1 past_r1 ≡ true
  pivot_66 : would_fit (over 1) (over 63) [] r1 past_r1 ≡ false
  waiting_left : would_fit waiting (over 1) [] r1 (255 ∷ []) ≡ false
  waiting_right : would_fit (over 1) waiting [] r1 (255 ∷ []) ≡ false

pub limits : Limits
unfolding shared pair_bytes child_bytes short_pivots tree_bytes tree_short no_message would_fit
limits =
    record {
      small = refl;
      bytes_1016 = refl;
      bytes_1017 = refl;
      lifted_still = refl;
      lifted_no_more = refl;
      pivot_65 = refl;
      pivot_66 = refl;
      waiting_left = refl;
      waiting_right = refl;
    }
