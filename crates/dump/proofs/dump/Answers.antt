-- The dump from the root, with an empty prefix and an empty trail: by its puts where all its messages are puts (specs/RootPuts), else as
-- any node with the pivots of the root (specs/RootSteps).
use Rattle.std.specs.Prelude.{refl}
use Rattle.image.specs.Prelude.{arith, sym, ap, ◌∙◌}
use Rattle.live_count.specs.RootSteps.{root_told}
use Rattle.dump.specs.Replacing.{only_puts}
use Rattle.dump.specs.RootSteps.{dump-long, dump-ready, dump-sound, dump-room, dump-done}
use Rattle.dump.specs.RootPuts.{root-inside}
use Rattle.dump.proofs.dump.Goals as goal

pub read_root-number-requires : goal.read_root-number-requires
read_root-number-requires c = let l = dump-long c.args.store.now c.requires.0 in omega arith

pub read_levels-level-requires : goal.read_levels-level-requires
read_levels-level-requires c = let l = dump-long c.args.store.now c.requires.0 in omega arith

pub of_node-requires : goal.of_node-requires
of_node-requires c = (root-inside c.args.store.now c.requires.0 _ _ c.read_root-number.ensures.0 c.read_levels-level.ensures.0).0

pub dump_putting-requires : goal.dump_putting-requires
dump_putting-requires c = (c.read_root-number.ensures.0, c.read_levels-level.ensures.0, c.requires.0, c.requires.1, omega arith, ap only_puts (sym c.of_node.ensures.lists) ∙ sym c.only_puts.ensures ∙ c.if-only_puts.true, c.new-above.ensures)

pub dump_node-requires : goal.dump_node-requires
dump_node-requires c = (
  dump-ready c.args.store.now c.requires.0 _ _ c.read_root-number.ensures.0 c.read_levels-level.ensures.0 _ c.new-above.ensures.trail,
  dump-sound c.args.store.now c.requires.0 _ _ c.read_root-number.ensures.0 c.read_levels-level.ensures.0 _ c.new-above.ensures.prefix _ _ refl refl,
  dump-room c.args.store.now c.requires.0 _ _ c.read_root-number.ensures.0 c.read_levels-level.ensures.0 _ c.new-above.ensures.prefix _ _ refl refl c.new-above.result.trail c.new-above.ensures.trail _ c.requires.1,
  root_told c.new-above.result _ _ c.new-above.ensures,
)

pub returns : goal.returns
returns c = dump-done c.args.store.now c.requires.0 _ _ c.read_root-number.ensures.0 c.read_levels-level.ensures.0 _ c.new-above.ensures.prefix _ _ refl refl c.new-above.result.trail c.new-above.ensures.trail _ _ _ c.dump_node.ensures
