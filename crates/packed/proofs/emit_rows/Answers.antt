-- `emit_rows` meets its contract.
-- Relies on specs/Pages/Emitting and on how the bytes of pairs follow each other (specs/Build/PairLaws).
use Rattle.packed.specs.Rows.Area.{row-fits}
use Rattle.image.specs.Prelude.{arith}
use Rattle.packed.specs.Pages.Emitting.{emits-first, emits-next, emits-last, emits-room}
use Rattle.packed.specs.Build.Pairs.{pair_bytes}
use Rattle.packed.specs.Build.PairLaws.{pairs-step, pairs-done}
use Rattle.packed.proofs.emit_rows.Goals as goal

pub loop-t-init : goal.loop-t-init
loop-t-init c = emits-first _ _ _ _ _ c.requires.1

pub emit_row-p-requires : goal.emit_row-p-requires
emit_row-p-requires c = let q = emits-room (λ n i. pair_bytes c.args.k n c.args.area.now i) c.args.page.now c.args.from c.args.to c.args.at c.loop-t.page c.loop-t.t c.loop-t.p c.loop-t.invariant (omega arith) (pairs-step c.args.k c.args.to c.args.area.now c.loop-t.t (omega arith)) in
    (row-fits _ _ c.requires.0 _ (omega arith), omega arith, omega arith)

pub loop-t-preserved : goal.loop-t-preserved
loop-t-preserved c = emits-next (λ n i. pair_bytes c.args.k n c.args.area.now i) c.args.page.now c.args.from c.args.to c.args.at c.loop-t.page c.loop-t.t c.loop-t.p c.loop-t.invariant (omega arith) (pairs-step c.args.k c.args.to c.args.area.now c.loop-t.t (omega arith)) c.requires.2 _ _
    c.emit_row-p.ensures.0 c.emit_row-p.ensures.1

pub returns : goal.returns
returns c = emits-last _ _ _ _ _ _ _ _ c.loop-t.invariant (pairs-done _ _ _ _ (omega arith))
