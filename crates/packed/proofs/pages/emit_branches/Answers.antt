-- The loop over the rows of an interior node. Relies on specs/Pages/Emitting and on how the bytes of children follow each other.
use Rattle.packed.specs.Rows.Area.{row-fits}
use Rattle.image.specs.Prelude.{arith}
use Rattle.packed.specs.Pages.Emitting.{emits-first, emits-next, emits-last, emits-room}
use Rattle.packed.specs.Pages.Entries.{branch_bytes, bytes-step, bytes-done}
use Rattle.packed.proofs.pages.emit_branches.Goals as goal

pub loop-t-init : goal.loop-t-init
loop-t-init c = emits-first _ _ _ _ _ c.requires.1

pub emit_branch-p-requires : goal.emit_branch-p-requires
emit_branch-p-requires c = let q = emits-room (λ n i. branch_bytes c.args.k n c.args.area.now i) c.args.page.now c.args.from c.args.to c.args.at c.loop-t.page c.loop-t.t c.loop-t.p c.loop-t.invariant (omega arith) (bytes-step c.args.k c.args.to c.args.area.now c.loop-t.t (omega arith)) in
    (row-fits _ _ c.requires.0 _ (omega arith), omega arith, omega arith)

pub loop-t-preserved : goal.loop-t-preserved
loop-t-preserved c = emits-next (λ n i. branch_bytes c.args.k n c.args.area.now i) c.args.page.now c.args.from c.args.to c.args.at c.loop-t.page c.loop-t.t c.loop-t.p c.loop-t.invariant (omega arith) (bytes-step c.args.k c.args.to c.args.area.now c.loop-t.t (omega arith)) c.requires.2 _ _
    c.emit_branch-p.ensures.0 c.emit_branch-p.ensures.1

pub returns : goal.returns
returns c = emits-last _ _ _ _ _ _ _ _ c.loop-t.invariant (bytes-done _ _ _ _ (omega arith))
