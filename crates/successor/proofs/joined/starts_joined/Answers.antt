-- `successor::joined::starts_joined` meets the contract: the first part decides unless it begins the other string
-- (specs/Joined).
use Rattle.successor.specs.Joined.{begun-yes, begun-no, short-yes}
use Rattle.image.specs.Prelude.{arith}
use Rattle.successor.proofs.joined.starts_joined.Goals as goal

pub slice_bounds-begins_with-count : goal.slice_bounds-begins_with-count
slice_bounds-begins_with-count c = let h = short-yes c.args.pre.now c.args.s.now c.args.t.now c.begins_with.result c.begins_with.result c.begins_with.ensures c.if-begins_with.true in omega arith

pub slice_bounds-begins_with-start : goal.slice_bounds-begins_with-start
slice_bounds-begins_with-start c = let h = short-yes c.args.pre.now c.args.s.now c.args.t.now c.begins_with.result c.begins_with.result c.begins_with.ensures c.if-begins_with.true in omega arith

pub returns-then-begins_with : goal.returns-then-begins_with
returns-then-begins_with c = begun-yes c.args.pre.now c.args.s.now c.args.t.now c.begins_with.result _ c.begins_with.ensures c.if-begins_with.true c.begins_with-then-begins_with.ensures

pub returns : goal.returns
returns c = begun-no c.args.pre.now c.args.s.now c.args.t.now c.begins_with.result _ c.begins_with.ensures c.if-begins_with.false c.begins_with-2.ensures
