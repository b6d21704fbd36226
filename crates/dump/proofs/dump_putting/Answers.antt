-- The dump from a root whose messages are all puts: its children's rows, the puts put in, all merged (specs/RootPuts).
use Rattle.dump.specs.RootPuts.{root-inside, children-ready, children-sound, children-room, puts-unset, puts-dumped}
use Rattle.dump.proofs.dump_putting.Goals as goal

pub of_node-entries-requires : goal.of_node-entries-requires
of_node-entries-requires c = (root-inside c.args.store.now c.requires.2 c.args.root c.args.level c.requires.0 c.requires.1).0

pub dump_children-m-requires : goal.dump_children-m-requires
dump_children-m-requires c = (
  children-ready c.args.store.now c.requires.2 c.args.root c.args.level c.requires.0 c.requires.1 c.args.above.now c.requires.6 c.requires.4 c.requires.5 c.of_node-entries.result c.of_node-entries.ensures.lists _ c.among.ensures.pending _ c.among.ensures.high,
  children-room c.args.store.now c.requires.2 c.args.root c.args.level c.requires.0 c.requires.1 c.args.above.now c.requires.6 c.requires.4 c.requires.5 c.of_node-entries.result c.of_node-entries.ensures.lists _ c.among.ensures.pending _ c.among.ensures.high _ c.requires.3,
  children-sound c.args.store.now c.requires.2 c.args.root c.args.level c.requires.0 c.requires.1 c.args.above.now c.requires.6 c.requires.4 c.requires.5 c.of_node-entries.result c.of_node-entries.ensures.lists _ c.among.ensures.pending _ c.among.ensures.high,
)

pub set_puts-all-requires : goal.set_puts-all-requires
set_puts-all-requires c = puts-unset c.args.store.now c.requires.2 c.args.root c.args.level c.requires.0 c.requires.1 c.args.above.now c.requires.6 c.requires.4 c.requires.5 c.of_node-entries.result c.of_node-entries.ensures.lists _ c.among.ensures.pending _ c.among.ensures.high _ _ c.requires.3 _ c.dump_children-m.ensures

pub returns : goal.returns
returns c = puts-dumped c.args.store.now c.requires.2 c.args.root c.args.level c.requires.0 c.requires.1 c.args.above.now c.requires.6 c.requires.4 c.requires.5 c.of_node-entries.result c.of_node-entries.ensures.lists _ c.among.ensures.pending _ c.among.ensures.high _ _ c.requires.3 _ c.dump_children-m.ensures _ _ _ c.set_puts-all.ensures c.merge_rows.auto.area c.merge_rows.ensures
