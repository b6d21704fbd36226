-- `header_good` is `sound_head`: the tests of node 0, each on a word of the store.
-- Relies on RootSteps.
use Rattle.image.specs.Prelude.{arith}
use Rattle.tree_check.specs.RootSteps.{other_length, other-kind, other-count, root-low, root-past, no-level, many-levels, many-live, head-rest}
use Rattle.tree_check.proofs.header.header_good.Goals as goal

pub returns-then-len-ne8 : goal.returns-then-len-ne8
returns-then-len-ne8 c = other_length c.args.store.now c.requires c.node_count-n.result c.node_count-n.ensures c.read_length-len.result c.read_kind-kind.result c.read_count-count.result c.read_root-root.result c.read_levels-levels.result c.read_live-live.result c.read_length-len.ensures.0 c.read_kind-kind.ensures.0 c.read_count-count.ensures.0 c.read_root-root.ensures.0 c.read_levels-levels.ensures.0 c.read_live-live.ensures.0 (λ h. omega arith)

pub returns-then-kind-ne-HEADER : goal.returns-then-kind-ne-HEADER
returns-then-kind-ne-HEADER c = other-kind c.args.store.now c.requires c.node_count-n.result c.node_count-n.ensures c.read_length-len.result c.read_kind-kind.result c.read_count-count.result c.read_root-root.result c.read_levels-levels.result c.read_live-live.result c.read_length-len.ensures.0 c.read_kind-kind.ensures.0 c.read_count-count.ensures.0 c.read_root-root.ensures.0 c.read_levels-levels.ensures.0 c.read_live-live.ensures.0 (λ h. omega arith)

pub returns-then-count-n : goal.returns-then-count-n
returns-then-count-n c = other-count c.args.store.now c.requires c.node_count-n.result c.node_count-n.ensures c.read_length-len.result c.read_kind-kind.result c.read_count-count.result c.read_root-root.result c.read_levels-levels.result c.read_live-live.result c.read_length-len.ensures.0 c.read_kind-kind.ensures.0 c.read_count-count.ensures.0 c.read_root-root.ensures.0 c.read_levels-levels.ensures.0 c.read_live-live.ensures.0 (λ h. omega arith)

pub returns-then-root-lt1 : goal.returns-then-root-lt1
returns-then-root-lt1 c = root-low c.args.store.now c.requires c.node_count-n.result c.node_count-n.ensures c.read_length-len.result c.read_kind-kind.result c.read_count-count.result c.read_root-root.result c.read_levels-levels.result c.read_live-live.result c.read_length-len.ensures.0 c.read_kind-kind.ensures.0 c.read_count-count.ensures.0 c.read_root-root.ensures.0 c.read_levels-levels.ensures.0 c.read_live-live.ensures.0 (omega arith) (omega arith)

pub returns-then-n-root : goal.returns-then-n-root
returns-then-n-root c = root-past c.args.store.now c.requires c.node_count-n.result c.node_count-n.ensures c.read_length-len.result c.read_kind-kind.result c.read_count-count.result c.read_root-root.result c.read_levels-levels.result c.read_live-live.result c.read_length-len.ensures.0 c.read_kind-kind.ensures.0 c.read_count-count.ensures.0 c.read_root-root.ensures.0 c.read_levels-levels.ensures.0 c.read_live-live.ensures.0 (omega arith) (omega arith) (omega arith)

pub returns-then-levels-lt1 : goal.returns-then-levels-lt1
returns-then-levels-lt1 c = no-level c.args.store.now c.requires c.node_count-n.result c.node_count-n.ensures c.read_length-len.result c.read_kind-kind.result c.read_count-count.result c.read_root-root.result c.read_levels-levels.result c.read_live-live.result c.read_length-len.ensures.0 c.read_kind-kind.ensures.0 c.read_count-count.ensures.0 c.read_root-root.ensures.0 c.read_levels-levels.ensures.0 c.read_live-live.ensures.0 (omega arith) (omega arith) (omega arith) (omega arith)

pub returns-then-levels-gt8 : goal.returns-then-levels-gt8
returns-then-levels-gt8 c = many-levels c.args.store.now c.requires c.node_count-n.result c.node_count-n.ensures c.read_length-len.result c.read_kind-kind.result c.read_count-count.result c.read_root-root.result c.read_levels-levels.result c.read_live-live.result c.read_length-len.ensures.0 c.read_kind-kind.ensures.0 c.read_count-count.ensures.0 c.read_root-root.ensures.0 c.read_levels-levels.ensures.0 c.read_live-live.ensures.0 (omega arith) (omega arith) (omega arith) (omega arith) (omega arith)

pub returns-then-n-live : goal.returns-then-n-live
returns-then-n-live c = many-live c.args.store.now c.requires c.node_count-n.result c.node_count-n.ensures c.read_length-len.result c.read_kind-kind.result c.read_count-count.result c.read_root-root.result c.read_levels-levels.result c.read_live-live.result c.read_length-len.ensures.0 c.read_kind-kind.ensures.0 c.read_count-count.ensures.0 c.read_root-root.ensures.0 c.read_levels-levels.ensures.0 c.read_live-live.ensures.0 (omega arith) (omega arith) (omega arith) (omega arith) (omega arith) (omega arith)

pub returns : goal.returns
returns c = head-rest c.args.store.now c.requires c.node_count-n.result c.node_count-n.ensures c.read_length-len.result c.read_kind-kind.result c.read_count-count.result c.read_root-root.result c.read_levels-levels.result c.read_live-live.result c.read_length-len.ensures.0 c.read_kind-kind.ensures.0 c.read_count-count.ensures.0 c.read_root-root.ensures.0 c.read_levels-levels.ensures.0 c.read_live-live.ensures.0 (omega arith) (omega arith) (omega arith) (omega arith) (omega arith) (omega arith) (omega arith) (omega arith) _ c.all_zero.ensures
