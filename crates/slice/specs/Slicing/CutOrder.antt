-- Why cuts go from the right to the left: a right part cut once more can leave a pivot of more than 65 bytes, where a left part cannot.
use Rattle.std.specs.Prelude.{ℕ, ◌+◌, ◌≡◌, refl, List, [], ◌∷◌, ◌++◌, true, false, ◌&&◌, replicate}
use Rattle.image.specs.Bytes.{same, before, shared}
use Rattle.image.specs.Path.{owns}
use Rattle.image.specs.Table.{every_key, under_prefix, rising}
use Rattle.image.specs.Image.{Tree, leaf, interior, end, tree}
use Rattle.image.specs.Meaning.{high_of}
use Rattle.image.specs.Sound.{sound_tree, sound_messages, first_pivot, values_fit, highest}
use Rattle.laws.specs.Filter.{keep, lower_rows}
use Rattle.laws.specs.Pieces.{joined, raise, lower, node, over, still, levelled}
use Rattle.slice.specs.Slicing.Slice.{rest_in, packed, after, left_of, right_of}
use Rattle.slice.specs.Slicing.SliceFits.{fits, short_in, short_at, branches_size, pairs_size}
use Rattle.slice.specs.Slicing.Tail.{first_of}

-- r1 00, and r2 00; then r1 00 followed by 65 bytes 'z'
abbrev r1 : List ℕ
r1 = 0x72 ∷ 0x31 ∷ 0 ∷ []

abbrev long : List ℕ
long = replicate 65 0x7A

-- three levels: the middle child lifts r1 00, and one of its own children begins 68 bytes in
abbrev root : Tree
root =
    interior 1 (tree [] (interior 2 (tree [] (leaf 3 []) end) [])
    (tree r1 (interior 4 (tree [] (leaf 5 []) (tree long (leaf 6 []) end)) [])
    (tree (r1 ++ highest) (interior 7 (tree (r1 ++ highest) (leaf 8 []) end) []) end))) []

-- from is r1/a, to is r1/b
abbrev past_from : List ℕ
past_from = r1 ++ (0x61 ∷ 0 ∷ 0xFF ∷ [])

abbrev past_to : List ℕ
past_to = r1 ++ (0x62 ∷ 0 ∷ 0xFF ∷ [])

root-sound : sound_tree root [] highest ≡ true
unfolding sound_tree first_pivot shared before owns same high_of every_key under_prefix rising values_fit sound_messages
root-sound = refl

root_fits : fits root ≡ true
unfolding fits short_in branches_size pairs_size
root_fits = refl

-- the right part of the first cut, and the right part of its edge at the second: a pivot of 68 bytes
edge : Tree
edge = first_of (right_of (λ i. 100 + i) true root [] highest past_from 0)

wrong-order : short_at 0 (right_of (λ i. 200 + i) true edge past_from (r1 ++ highest) past_to 0) ≡ false
unfolding edge first_of right_of rest_in packed after over node joined raise lower shared before high_of keep lower_rows under_prefix short_at
wrong-order = refl

-- the same cuts from the right to the left
right-order : short_at 0 (right_of (λ i. 100 + i) true root [] highest past_to 0) ≡ true
unfolding right_of rest_in packed after over node joined raise lower shared before high_of keep lower_rows under_prefix short_at
right-order = refl

right-order-next : short_at 0 (right_of (λ i. 200 + i) true (left_of (λ i. 300 + i) root [] highest past_to 0) [] past_to past_from 0) ≡ true
unfolding left_of right_of rest_in packed after over node joined raise lower shared before high_of keep lower_rows under_prefix short_at
right-order-next = refl

still-and-level : still root && levelled root 3 ≡ true
unfolding still levelled
still-and-level = refl
