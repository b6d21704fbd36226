-- `copy_at` meets its contract: its loop keeps an invariant. Relies on specs/Put.
use Rattle.std.proofs.Common.{rules}
use Rattle.std.specs.Prelude.{refl}
use Rattle.image.specs.Prelude.{arith, sym, ap, ◌∙◌, take_all, length-set}
use Rattle.octets.specs.Put.{put, put-nil, put-more}
use Rattle.octets.proofs.copy_at.Goals as goal

pub loop-i-init : goal.loop-i-init
loop-i-init c = (refl, sym (put-nil _ _))

pub loop-i-preserved : goal.loop-i-preserved
loop-i-preserved c = ((simp length-set) ∙ c.loop-i.invariant.0, put-more c.args.page.now _ c.args.at c.args.src.now c.loop-i.i (omega arith) (omega arith) c.loop-i.invariant.1)

pub returns : goal.returns
returns c = c.loop-i.invariant.1 ∙ ap (put c.args.page.now c.args.at) (take_all c.loop-i.i c.args.src.now (omega arith))
