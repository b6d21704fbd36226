-- `judge` meets its contract. Relies on specs/Judged.
use Rattle.image.specs.Prelude.{arith}
use Rattle.soundness.specs.Judged.{judged-no-tree, judged-settled-yes, judged-settled-no, judged-yes, judged-no, count-it, whole_long}
use Rattle.soundness.proofs.judge.Goals.{then-tally-eq0, else-tally-eq0}
use Rattle.soundness.proofs.judge.Goals as goal

pub check_tree-requires : goal.check_tree-requires
check_tree-requires c = let w = whole_long _ c.requires in w

pub returns-in_err-tally : goal.returns-in_err-tally
returns-in_err-tally c = rw c.from_residual.ensures (judged-no-tree _ _ _ c.check_tree.ensures c.in_err-tally.was)

pub count_paths-live-requires : goal.count_paths-live-requires
count_paths-live-requires c = count-it _ _ _ c.check_tree.ensures _ c.in_ok-tally.was

pub read_live-requires : goal.read_live-requires
read_live-requires c = let w = whole_long _ c.requires in omega (arith, w.0)

pub returns-then-live-read_live : goal.returns-then-live-read_live
returns-then-live-read_live c = elim c.if-tally-eq0.branch [
  | then-tally-eq0 w ↦ judged-settled-no _ _ _ c.check_tree.ensures _ c.in_ok-tally.was c.requires _ c.read_live.ensures.0 (omega (arith, w.if-tally-eq0.true)) (λ h. omega (arith, h, w.live-is, c.if-live-read_live.true))
  | else-tally-eq0 w ↦ judged-no _ _ _ c.check_tree.ensures _ c.in_ok-tally.was c.requires _ c.read_live.ensures.0 _ w.count_paths-live.ensures (λ h. omega (arith, h, w.live-is, c.if-live-read_live.true))
]

pub returns : goal.returns
returns c = elim c.if-tally-eq0.branch [
  | then-tally-eq0 w ↦ judged-settled-yes _ _ _ c.check_tree.ensures _ c.in_ok-tally.was c.requires _ c.read_live.ensures.0 (omega (arith, w.if-tally-eq0.true)) (omega (arith, w.live-is, c.if-live-read_live.false))
  | else-tally-eq0 w ↦ judged-yes _ _ _ c.check_tree.ensures _ c.in_ok-tally.was c.requires _ c.read_live.ensures.0 _ w.count_paths-live.ensures (omega (arith, w.live-is, c.if-live-read_live.false))
]
