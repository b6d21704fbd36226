-- Examples beyond the paper's thirteen, for rules that those do not touch: the ends of a range, a whole image with its live count, upkeep.
-- They hold by computation. Images of several levels, made and read by the second program, are in crate samples.
use Rattle.std.specs.Prelude.{ℕ, ◌*◌, ◌≡◌, refl, List, [], ◌∷◌, ◌++◌, true, false, replicate}
use Rattle.image.specs.Prelude.{some}
use Rattle.image.specs.Bytes.{same, before, begins, shared, zeros, u16}
use Rattle.image.specs.Path.{letter, reads_on, well_formed, owns, value_fits}
use Rattle.image.specs.Entry.{drops, clears, keyed, pointer, entry_of, entry_then, read_all, entries_of}
use Rattle.image.specs.Table.{Row, find, with_row, without, without_below, every_key, leads, rising, under_prefix}
use Rattle.image.specs.Image.{Tree, leaf, interior, end, tree, nodes_of, whole_nodes, node_bytes, header, header_of, header_laid_out, laid_out, entry_bytes, node_entries, pair_then, pairs_of, leaf_of, or_none, tree_at, tree_of}
use Rattle.image.specs.Meaning.{says_of, newer, newest, decide, high_of, lookup, apply, apply_all, rows}
use Rattle.image.specs.Sound.{lowest, highest, values_fit, sound_tree, sound_messages, first_pivot, numbers, is_in, once, in_range, sound_header, sound_root, sound, value_in, table_of}
use Rattle.image.specs.Upkeep.{same_message, is_sublist}

-- a and b are paths of one component
abbrev a : List ℕ
a = 0x61 ∷ 0 ∷ []

abbrev b : List ℕ
b = 0x62 ∷ 0 ∷ []

abbrev row : List ℕ → List ℕ → Row
row p v = record { key = p; value = v }

-- a root with two leaves, parted at b
abbrev two_leaves : Tree
two_leaves = interior 3 (tree [] (leaf 1 (row a (1 ∷ []) ∷ [])) (tree b (leaf 2 (row b (2 ∷ []) ∷ [])) end)) []

-- an image of 32 nodes whose root is the leaf 1 with the pair (a, 7); node 0 says that so many paths are live
abbrev one_pair : ℕ → List ℕ
one_pair live =
    (8 ∷ 0 ∷ 0 ∷ 1 ∷ 32 ∷ 0 ∷ 1 ∷ 0 ∷ 1 ∷ 0 ∷ live ∷ 0 ∷ replicate 1012 0)
    ++ ((9 ∷ 0 ∷ 1 ∷ 0 ∷ 1 ∷ 0 ∷ 0 ∷ 0 ∷ 5 ∷ 0 ∷ 1 ∷ 0 ∷ 2 ∷ 0 ∷ 0x61 ∷ 0 ∷ 7 ∷ replicate 1007 0) ++ replicate (30 * 1024) 0)

pub record Examples : Type 0 where
  -- a range takes its low end, and not its high one
  low_in : owns a b a ≡ true
  high_out : owns a b b ≡ false
  inside : owns a b (0x61 ∷ 0 ∷ 0x78 ∷ 0 ∷ []) ≡ true
  -- so a path that is a pivot is looked up to the right of it
  at_pivot : lookup two_leaves lowest highest b ≡ some (2 ∷ [])
  left_of_pivot : lookup two_leaves lowest highest a ≡ some (1 ∷ [])
  pivots_sound : sound_tree two_leaves lowest highest ≡ true
  -- the live count is that of the table, exactly
  live_right : sound (one_pair 1) ≡ true
  live_low : sound (one_pair 0) ≡ false
  live_high : sound (one_pair 2) ≡ false
  one_row : table_of (one_pair 1) ≡ row a (7 ∷ []) ∷ []
  one_value : value_in (one_pair 1) a ≡ some (7 ∷ [])
  -- a message that stands twice where it stood once, or in another order, is a gain
  kept_all : is_sublist [] (drops a ∷ drops b ∷ []) [] (drops a ∷ drops b ∷ []) ≡ true
  lost_one : is_sublist [] (drops b ∷ []) [] (drops a ∷ drops b ∷ []) ≡ true
  doubled : is_sublist [] (drops a ∷ drops a ∷ []) [] (drops a ∷ []) ≡ false
  swapped : is_sublist [] (drops b ∷ drops a ∷ []) [] (drops a ∷ drops b ∷ []) ≡ false
  lifted_alike : is_sublist a (clears b ∷ []) [] (clears (a ++ b) ∷ []) ≡ true

pub examples : Examples
unfolding same before begins shared zeros u16 letter reads_on well_formed owns value_fits keyed pointer entry_of entry_then read_all entries_of find with_row without without_below every_key leads rising under_prefix nodes_of whole_nodes node_bytes header header_of header_laid_out laid_out entry_bytes node_entries pair_then pairs_of leaf_of or_none tree_at tree_of says_of newer newest decide high_of lookup apply apply_all rows values_fit sound_tree sound_messages first_pivot numbers is_in once in_range sound_header sound_root sound value_in table_of same_message is_sublist
examples =
    record {
      low_in = refl;
      high_out = refl;
      inside = refl;
      at_pivot = refl;
      left_of_pivot = refl;
      pivots_sound = refl;
      live_right = refl;
      live_low = refl;
      live_high = refl;
      one_row = refl;
      one_value = refl;
      kept_all = refl;
      lost_one = refl;
      doubled = refl;
      swapped = refl;
      lifted_alike = refl;
    }
