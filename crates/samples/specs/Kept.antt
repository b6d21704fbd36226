-- The definitions, computed on each change of Data, say what the second program says of it: its own flushes and heals keep the rules of
-- upkeep, and those that only seem to be done do not.
use Rattle.std.specs.Prelude.{◌≡◌, refl, true, false}
use Rattle.image.specs.Bytes.{same, before, begins, shared, zeros, u16}
use Rattle.image.specs.Path.{letter, reads_on, well_formed, below, owns, value_fits}
use Rattle.image.specs.Entry.{keyed, pointer, entry_of, entry_then, read_all, entries_of}
use Rattle.image.specs.Image.{nodes_of, node_bytes, header, header_of, header_laid_out, laid_out, entry_bytes, node_entries, pair_then, pairs_of, message_then, messages_of, no_branches, branch_then, inside_of, forest_of, leaf_of, interior_of, or_none, tree_at, tree_of}
use Rattle.image.specs.Meaning.{high_of}
use Rattle.image.specs.Upkeep.{reachable, reachable_in, reachable_nodes, reachable_at, holds_no_message, every, overlap, same_message, is_sublist, gains_no_message, none_gains, from_level, emptied, none_waits, flushed, pair_bytes, child_bytes, short_pivots, tree_bytes, tree_short, no_message, would_fit, unmergeable, unmergeable_at, keeps_range, healed, changed}
use Rattle.samples.specs.Verdict.{kept_at, kept_of, changes_of}
use Rattle.samples.specs.Data as outside

pub record AsTold : Type 0 where
  flush_two_levels : kept_of outside.flush_two_levels ≡ outside.flush_two_levels_keeps
  flush_three_levels : kept_of outside.flush_three_levels ≡ outside.flush_three_levels_keeps
  flush_four_levels : kept_of outside.flush_four_levels ≡ outside.flush_four_levels_keeps
  flush_nothing : kept_of outside.flush_nothing ≡ outside.flush_nothing_keeps
  flush_raised : kept_of outside.flush_raised ≡ outside.flush_raised_keeps
  flush_lifted : kept_of outside.flush_lifted ≡ outside.flush_lifted_keeps
  heal_two_levels : kept_of outside.heal_two_levels ≡ outside.heal_two_levels_keeps
  heal_long_pivot : kept_of outside.heal_long_pivot ≡ outside.heal_long_pivot_keeps
  heal_nothing_fits : kept_of outside.heal_nothing_fits ≡ outside.heal_nothing_fits_keeps
  heal_nothing : kept_of outside.heal_nothing ≡ outside.heal_nothing_keeps
  heal_level_between : kept_of outside.heal_level_between ≡ outside.heal_level_between_keeps
  -- What the wrong ones are, said once more: a flush that raises the node with its messages, and one that hands them up to a new
  -- root, although nothing waits in the old level; and a heal that puts a level between.
  raised_waits_not : (kept_of outside.flush_raised).none_waits ≡ true
  raised_is_wrong : (kept_of outside.flush_raised).flushed ≡ false
  lifted_waits_not : (kept_of outside.flush_lifted).none_waits ≡ true
  lifted_is_wrong : (kept_of outside.flush_lifted).flushed ≡ false
  between_is_wrong : (kept_of outside.heal_level_between).healed ≡ false

pub as-told : AsTold
unfolding same before begins shared zeros u16 letter reads_on well_formed below owns value_fits keyed pointer entry_of entry_then read_all entries_of nodes_of node_bytes header header_of header_laid_out laid_out entry_bytes node_entries pair_then pairs_of message_then messages_of no_branches branch_then inside_of forest_of leaf_of interior_of or_none tree_at tree_of high_of reachable reachable_in reachable_nodes reachable_at holds_no_message every overlap same_message is_sublist gains_no_message none_gains from_level emptied none_waits flushed pair_bytes child_bytes short_pivots tree_bytes tree_short no_message would_fit unmergeable unmergeable_at keeps_range healed kept_at kept_of
as-told =
    record {
      flush_two_levels = refl;
      flush_three_levels = refl;
      flush_four_levels = refl;
      flush_nothing = refl;
      flush_raised = refl;
      flush_lifted = refl;
      heal_two_levels = refl;
      heal_long_pivot = refl;
      heal_nothing_fits = refl;
      heal_nothing = refl;
      heal_level_between = refl;
      raised_waits_not = refl;
      raised_is_wrong = refl;
      lifted_waits_not = refl;
      lifted_is_wrong = refl;
      between_is_wrong = refl;
    }

-- The count of changed nodes, on the whole store (each costs as much as all the above): node 0 counts, and so does one that was free.
pub flush-changes : changes_of outside.flush_two_levels ≡ outside.flush_two_levels_changes
unfolding same nodes_of node_bytes changed changes_of
flush-changes = refl

pub raised-changes : changes_of outside.flush_raised ≡ outside.flush_raised_changes
unfolding same nodes_of node_bytes changed changes_of
raised-changes = refl
