-- `fill_at` meets its contract: its loop keeps an invariant. Relies on specs/Put.
use Rattle.std.proofs.Common.{rules}
use Rattle.std.specs.Prelude.{◌≡◌, refl, replicate}
use Rattle.image.specs.Prelude.{arith, sym, ap, ◌∙◌}
use Rattle.octets.specs.Put.{put, put-nil, fill_more}
use Rattle.octets.proofs.fill_at.Goals as goal

pub loop-i-init : goal.loop-i-init
loop-i-init c = (refl, sym (put-nil _ _))

pub loop-i-preserved : goal.loop-i-preserved
loop-i-preserved c = (search rules, search (rules, fill_more))

pub returns : goal.returns
returns c =
    let e : c.loop-i.i ≡ c.args.count = omega arith in
    c.loop-i.invariant.1 ∙ ap (λ n. put c.args.page.now c.args.at (replicate n c.args.byte)) e
