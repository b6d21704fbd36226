-- `script::writing::put_exchanged` meets its contract: the loop has put the first i bytes (specs/Writing). Assumes nothing.
use Rattle.std.specs.Prelude.{◌≡◌, ◌+◌, refl, length}
use Rattle.image.specs.Program.{exchanged}
use Rattle.image.specs.Prelude.{length-set, arith, subst, ◌∙◌}
use Rattle.script.specs.Writing.{Wrote, exchange-starts, exchange-more, exchange-done}
use Rattle.script.proofs.writing.put_exchanged.Goals as goal

pub loop-i-init : goal.loop-i-init
loop-i-init c = (refl, exchange-starts c.args.out.now c.args.at c.args.from c.args.to c.args.s.now)

pub loop-i-preserved : goal.loop-i-preserved
loop-i-preserved c = ((simp length-set) ∙ c.loop-i.invariant.0, exchange-more c.args.out.now c.args.at c.args.from c.args.to c.args.s.now c.loop-i.out c.loop-i.i c.loop-i.invariant.1 _ (omega arith) (omega arith) c.exchange_byte.ensures)

pub returns : goal.returns
returns c = let e : c.loop-i.i ≡ length c.args.s.now = omega arith in
    subst (λ k. Wrote c.args.out.now c.args.at (exchanged c.args.from c.args.to c.args.s.now) (c.args.at + k) c.loop-i.out) e
    (exchange-done c.args.out.now c.args.at c.args.from c.args.to c.args.s.now c.loop-i.out c.loop-i.i c.loop-i.invariant.1 (omega arith) (omega arith))
