-- `make_ready` meets its contract. Relies on specs/Prepare/Steps.
use Rattle.std.specs.Prelude.{refl}
use Rattle.image.specs.Prelude.{arith}
use Rattle.rename.specs.Prepare.Steps.{node-few, ready-now, ready-rebuilt}
use Rattle.rename.proofs.prepare.make_ready.Goals as goal

pub free_list-free-requires : goal.free_list-free-requires
free_list-free-requires c = let k = node-few c.args.store.now c.requires.0.whole in omega (arith, k.2)

pub read_levels-levels-requires : goal.read_levels-levels-requires
read_levels-levels-requires c = let k = node-few c.args.store.now c.requires.0.whole in omega (arith, k.0)

pub returns-then-may_swing : goal.returns-then-may_swing
returns-then-may_swing c = ready-now _ _ _ _ _ c.requires.0 c.requires.1 c.requires.2 _ _ _ refl c.free_list-free.ensures.0 c.read_levels-levels.ensures.0 _ c.may_swing.ensures c.if-may_swing.true

pub list_upper-requires : goal.list_upper-requires
list_upper-requires c = let k = node-few c.args.store.now c.requires.0.whole in omega (arith, k.2, c.rebuild.ensures.size)

pub returns : goal.returns
returns c = ready-rebuilt _ _ _ _ _ c.requires.0 c.requires.1 c.requires.2 _ _ _ refl c.free_list-free.ensures.0 c.read_levels-levels.ensures.0 _ c.may_swing.ensures _ _ _ _ c.if-may_swing.false c.rebuild.ensures c.list_upper.ensures.0 c.list_upper.ensures.1
