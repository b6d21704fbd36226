-- The definitions on small trees, by computation.
use Rattle.std.specs.Prelude.{ℕ, ◌≡◌, refl, List, [], ◌∷◌, true, false}
use Rattle.image.specs.Bytes.{same, before, begins, shared}
use Rattle.image.specs.Path.{letter, reads_on, well_formed, below, owns, value_fits}
use Rattle.image.specs.Entry.{puts, drops, clears}
use Rattle.image.specs.Table.{Row, with_row, without, without_below, every_key, leads, rising, under_prefix}
use Rattle.image.specs.Image.{Tree, leaf, interior, end, tree}
use Rattle.image.specs.Meaning.{high_of, apply, apply_all, rows, rows_in}
use Rattle.image.specs.Sound.{values_fit, sound_message, sound_messages, first_pivot, sound_tree, sound_forest, numbers, numbers_in, lowest, highest}
use Rattle.image.specs.Upkeep.{reachable, reachable_in, reachable_at, holds_no_message, every, overlap, flushed, same_message, is_sublist, gains_no_message, none_gains, pair_bytes, child_bytes, short_pivots, tree_bytes, tree_short, no_message, would_fit, unmergeable, unmergeable_at, keeps_range, healed}
use Rattle.laws.specs.PushDown.{taken, touches, lowered, sent, pushed, raised}
use Rattle.laws.specs.Upkeep.Merge.{rewritten, repointed, followed, same_kind, merged}
use Rattle.laws.specs.Upkeep.Join.{joins, join_at, first_pair, mended, branch_count, healing}
use Rattle.laws.specs.Upkeep.Alter.{altered, altered_in, on_branches}
use Rattle.laws.specs.Upkeep.Healed.{healed_tree}
use Rattle.laws.specs.Upkeep.Flush.{pushed_all, flushed_node, flushed_tree}

abbrev pub row : List ℕ → List ℕ → Row
row k v = record { key = k; value = v }

-- r1/a in [empty, r1/b), r1/b in [r1/b, r1/c), r1/c and s/a in [r1/c, FF); the middle leaf lifts r1 00 and stores b 00
abbrev pub three : Tree
three =
    interior 5
    (tree [] (leaf 2 (row (0x72 ∷ 0x31 ∷ 0 ∷ 0x61 ∷ 0 ∷ []) (7 ∷ []) ∷ []))
    (tree (0x72 ∷ 0x31 ∷ 0 ∷ 0x62 ∷ 0 ∷ []) (leaf 3 (row (0x62 ∷ 0 ∷ []) [] ∷ []))
    (tree (0x72 ∷ 0x31 ∷ 0 ∷ 0x63 ∷ 0 ∷ [])
    (leaf 4 (row (0x72 ∷ 0x31 ∷ 0 ∷ 0x63 ∷ 0 ∷ []) [] ∷ row (0x73 ∷ 0 ∷ 0x61 ∷ 0 ∷ []) [] ∷ [])) end)))
    (clears (0x72 ∷ 0x31 ∷ 0 ∷ []) ∷ puts (0x72 ∷ 0x31 ∷ 0 ∷ 0x62 ∷ 0 ∷ 0x78 ∷ 0 ∷ []) (9 ∷ []) ∷ [])

abbrev pub one : Tree
one =
    interior 5
    (tree []
    (leaf 2
    (row (0x72 ∷ 0x31 ∷ 0 ∷ 0x61 ∷ 0 ∷ []) (7 ∷ []) ∷ row (0x72 ∷ 0x31 ∷ 0 ∷ 0x62 ∷ 0 ∷ []) []
    ∷ row (0x72 ∷ 0x31 ∷ 0 ∷ 0x63 ∷ 0 ∷ []) [] ∷ row (0x73 ∷ 0 ∷ 0x61 ∷ 0 ∷ []) [] ∷ [])) end)
    (clears (0x72 ∷ 0x31 ∷ 0 ∷ []) ∷ puts (0x72 ∷ 0x31 ∷ 0 ∷ 0x62 ∷ 0 ∷ 0x78 ∷ 0 ∷ []) (9 ∷ []) ∷ [])

-- the clear is shorter than what the middle leaf lifts there, and empties it; then the put comes in
abbrev pub down : Tree
down =
    interior 5
    (tree [] (leaf 2 [])
    (tree (0x72 ∷ 0x31 ∷ 0 ∷ 0x62 ∷ 0 ∷ []) (leaf 3 (row (0x62 ∷ 0 ∷ 0x78 ∷ 0 ∷ []) (9 ∷ []) ∷ []))
    (tree (0x72 ∷ 0x31 ∷ 0 ∷ 0x63 ∷ 0 ∷ []) (leaf 4 (row (0x73 ∷ 0 ∷ 0x61 ∷ 0 ∷ []) [] ∷ [])) end)))
    []

pub record Tried : Type 0 where
  is_sound : sound_tree three lowest highest ≡ true
  not_spread : unmergeable (tree [] (leaf 2 []) (tree (0x61 ∷ 0 ∷ []) (leaf 3 []) end)) lowest highest ≡ false
  heals : healed_tree three 5 lowest highest ≡ one
  heals_well : healed (record { number = 5; level = 2; low = lowest; high = highest; messages = clears (0x72 ∷ 0x31 ∷ 0 ∷ []) ∷ puts (0x72 ∷ 0x31 ∷ 0 ∷ 0x62 ∷ 0 ∷ 0x78 ∷ 0 ∷ []) (9 ∷ []) ∷ []; children = end })
      (reachable three 2 lowest highest) (reachable one 2 lowest highest) ≡ true
  flushes : flushed_tree three 5 lowest highest ≡ down
  flushes_sound : sound_tree down lowest highest ≡ true
  same_rows : rows three lowest highest ≡ rows down lowest highest
  -- a message that stands there twice is a gain
  twice_gains : is_sublist [] (drops (1 ∷ []) ∷ drops (1 ∷ []) ∷ []) [] (drops (1 ∷ []) ∷ []) ≡ false
  order_gains : is_sublist [] (drops (1 ∷ []) ∷ drops (2 ∷ []) ∷ []) [] (drops (2 ∷ []) ∷ drops (1 ∷ []) ∷ []) ≡ false

pub tried : Tried
unfolding same before begins shared letter reads_on well_formed below owns value_fits with_row without without_below every_key leads rising under_prefix high_of apply apply_all rows rows_in values_fit sound_message sound_messages first_pivot sound_tree sound_forest numbers numbers_in reachable reachable_in reachable_at holds_no_message every overlap flushed same_message is_sublist gains_no_message none_gains pair_bytes child_bytes short_pivots tree_bytes tree_short no_message would_fit unmergeable unmergeable_at keeps_range healed taken touches lowered sent pushed raised rewritten repointed followed same_kind merged joins join_at first_pair mended branch_count healing altered altered_in on_branches healed_tree pushed_all flushed_node flushed_tree
tried =
    record {
      is_sound = refl;
      not_spread = refl;
      heals = refl;
      heals_well = refl;
      flushes = refl;
      flushes_sound = refl;
      same_rows = refl;
      twice_gains = refl;
      order_gains = refl;
    }
