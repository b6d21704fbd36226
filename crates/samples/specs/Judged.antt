-- The definitions, computed on each image of Data, say what the second program says of it.
use Rattle.std.specs.Prelude.{◌≡◌, refl}
use Rattle.image.specs.Bytes.{same, before, begins, shared, zeros, u16}
use Rattle.image.specs.Path.{letter, reads_on, well_formed, below, owns, value_fits}
use Rattle.image.specs.Entry.{keyed, pointer, entry_of, entry_then, read_all, entries_of}
use Rattle.image.specs.Table.{with_row, without, without_below, every_key, leads, rising, under_prefix}
use Rattle.image.specs.Image.{nodes_of, node_bytes, header, header_of, header_laid_out, laid_out, entry_bytes, node_entries, pair_then, pairs_of, message_then, messages_of, no_branches, branch_then, inside_of, forest_of, leaf_of, interior_of, or_none, tree_at, tree_of}
use Rattle.image.specs.Meaning.{high_of, apply, apply_all, rows}
use Rattle.image.specs.Sound.{values_fit, sound_message, sound_messages, first_pivot, sound_tree, numbers, is_in, once, in_range, sound_header, sound_root, sound, table_of}
use Rattle.image.specs.Upkeep.{reachable, reachable_nodes, holds_no_message, every, settled, used, free_nodes}
use Rattle.samples.specs.Verdict.{verdict_of}
use Rattle.samples.specs.Data as outside

pub record Judged : Type 0 where
  made : verdict_of outside.made ≡ outside.made_says
  one_leaf : verdict_of outside.one_leaf ≡ outside.one_leaf_says
  two_levels : verdict_of outside.two_levels ≡ outside.two_levels_says
  three_levels : verdict_of outside.three_levels ≡ outside.three_levels_says
  long_pivot : verdict_of outside.long_pivot ≡ outside.long_pivot_says
  four_levels : verdict_of outside.four_levels ≡ outside.four_levels_says
  long_values : verdict_of outside.long_values ≡ outside.long_values_says
  two_levels_flushed : verdict_of outside.two_levels_flushed ≡ outside.two_levels_flushed_says
  three_levels_flushed : verdict_of outside.three_levels_flushed ≡ outside.three_levels_flushed_says
  four_levels_flushed : verdict_of outside.four_levels_flushed ≡ outside.four_levels_flushed_says
  two_levels_healed : verdict_of outside.two_levels_healed ≡ outside.two_levels_healed_says
  long_pivot_healed : verdict_of outside.long_pivot_healed ≡ outside.long_pivot_healed_says
  two_levels_raised : verdict_of outside.two_levels_raised ≡ outside.two_levels_raised_says
  two_levels_lifted : verdict_of outside.two_levels_lifted ≡ outside.two_levels_lifted_says
  bad_live_count : verdict_of outside.bad_live_count ≡ outside.bad_live_count_says
  bad_reached_once : verdict_of outside.bad_reached_once ≡ outside.bad_reached_once_says
  bad_pair_order : verdict_of outside.bad_pair_order ≡ outside.bad_pair_order_says
  bad_put_owned : verdict_of outside.bad_put_owned ≡ outside.bad_put_owned_says
  bad_clear_shape : verdict_of outside.bad_clear_shape ≡ outside.bad_clear_shape_says
  bad_node_zeros : verdict_of outside.bad_node_zeros ≡ outside.bad_node_zeros_says
  bad_pair_value : verdict_of outside.bad_pair_value ≡ outside.bad_pair_value_says
  bad_put_value : verdict_of outside.bad_put_value ≡ outside.bad_put_value_says

pub judged : Judged
unfolding same before begins shared zeros u16 letter reads_on well_formed below owns value_fits keyed pointer entry_of entry_then read_all entries_of with_row without without_below every_key leads rising under_prefix nodes_of node_bytes header header_of header_laid_out laid_out entry_bytes node_entries pair_then pairs_of message_then messages_of no_branches branch_then inside_of forest_of leaf_of interior_of or_none tree_at tree_of high_of apply apply_all rows values_fit sound_message sound_messages first_pivot sound_tree numbers is_in once in_range sound_header sound_root sound table_of reachable reachable_nodes holds_no_message every settled used free_nodes verdict_of
judged =
    record {
      made = refl;
      one_leaf = refl;
      two_levels = refl;
      three_levels = refl;
      long_pivot = refl;
      four_levels = refl;
      long_values = refl;
      two_levels_flushed = refl;
      three_levels_flushed = refl;
      four_levels_flushed = refl;
      two_levels_healed = refl;
      long_pivot_healed = refl;
      two_levels_raised = refl;
      two_levels_lifted = refl;
      bad_live_count = refl;
      bad_reached_once = refl;
      bad_pair_order = refl;
      bad_put_owned = refl;
      bad_clear_shape = refl;
      bad_node_zeros = refl;
      bad_pair_value = refl;
      bad_put_value = refl;
    }
