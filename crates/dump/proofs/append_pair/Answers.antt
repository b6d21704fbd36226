-- One pair's row: hidden, or put after the rows in the area (specs/AppendSteps).
use Rattle.image.specs.Prelude.{arith}
use Rattle.dump.specs.AppendSteps.{pair-hidden, key-short, pair-room, pair-added, value-short}
use Rattle.dump.proofs.append_pair.Goals as goal

pub returns-then-not-shows : goal.returns-then-not-shows
returns-then-not-shows c = pair-hidden c.args.here.now.prefix c.args.here.now.trail c.args.key.now c.args.value.now c.args.area.now c.args.m _ c.shows.ensures c.requires.1 c.if-not-shows.true

pub put_joined-requires : goal.put_joined-requires
put_joined-requires c =
    let k = key-short c.args.here.now.prefix c.args.here.now.trail c.args.key.now _ c.shows.ensures c.if-not-shows.false in
    rw c.as_slice.ensures.held (c.requires.1.fit, pair-room c.args.here.now.prefix c.args.here.now.trail c.args.key.now c.args.value.now c.args.area.now c.args.m _ c.shows.ensures c.requires.1 c.if-not-shows.false, omega arith, value-short _ c.requires.0)

pub returns : goal.returns
returns c = pair-added c.args.here.now.prefix c.args.here.now.trail c.args.key.now c.args.value.now c.args.area.now c.args.m _ c.shows.ensures c.requires.1 c.if-not-shows.false _ c.put_joined.auto.area (rw c.as_slice.ensures.held at c.put_joined.ensures)
