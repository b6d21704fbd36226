-- `successor::joined::joined_precedes` meets the contract: the first part decides unless it begins the other string
-- (specs/Joined).
use Rattle.successor.specs.Joined.{joined-yes, joined-no, short-yes}
use Rattle.image.specs.Prelude.{arith}
use Rattle.successor.proofs.joined.joined_precedes.Goals as goal

pub slice_bounds-precedes-count : goal.slice_bounds-precedes-count
slice_bounds-precedes-count c = let h = short-yes c.args.pre.now c.args.s.now c.args.t.now c.begins_with.result c.begins_with.result c.begins_with.ensures c.if-begins_with.true in omega arith

pub slice_bounds-precedes-start : goal.slice_bounds-precedes-start
slice_bounds-precedes-start c = let h = short-yes c.args.pre.now c.args.s.now c.args.t.now c.begins_with.result c.begins_with.result c.begins_with.ensures c.if-begins_with.true in omega arith

pub returns-then-begins_with : goal.returns-then-begins_with
returns-then-begins_with c = joined-yes c.args.pre.now c.args.s.now c.args.t.now c.begins_with.result _ c.begins_with.ensures c.if-begins_with.true c.precedes.ensures

pub returns : goal.returns
returns c = joined-no c.args.pre.now c.args.s.now c.args.t.now c.begins_with.result _ c.begins_with.ensures c.if-begins_with.false c.precedes-2.ensures
