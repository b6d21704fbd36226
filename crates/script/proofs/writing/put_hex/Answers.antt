-- `script::writing::put_hex` meets its contract: the loop has put two digits for each of the first i bytes (specs/Writing). Assumes nothing.
use Rattle.std.specs.Prelude.{◌≡◌, ◌*◌, ◌+◌, refl, length}
use Rattle.image.specs.Program.{hex_text}
use Rattle.image.specs.Prelude.{length-set, arith, subst, ◌∙◌}
use Rattle.script.specs.Writing.{Wrote, hex-starts, hex-more, hex-done}
use Rattle.script.proofs.writing.put_hex.Goals as goal

pub loop-i-init : goal.loop-i-init
loop-i-init c = (refl, hex-starts c.args.out.now c.args.at c.args.value.now)

pub bounds-out-at-in-loop-i : goal.bounds-out-at-in-loop-i
bounds-out-at-in-loop-i c = let n = length-set c.loop-i.out (c.args.at + 2 * c.loop-i.i) c.show_digit.result in omega arith

pub loop-i-preserved : goal.loop-i-preserved
loop-i-preserved c = ((simp (length-set, length-set)) ∙ c.loop-i.invariant.0, hex-more c.args.out.now c.args.at c.args.value.now c.loop-i.out c.loop-i.i c.loop-i.invariant.1 _ _ (omega arith) (omega arith) c.show_digit.ensures c.show_digit-in-loop-i.ensures)

pub returns : goal.returns
returns c = let e : c.loop-i.i ≡ length c.args.value.now = omega arith in
    subst (λ k. Wrote c.args.out.now c.args.at (hex_text c.args.value.now) (c.args.at + 2 * k) c.loop-i.out) e
    (hex-done c.args.out.now c.args.at c.args.value.now c.loop-i.out c.loop-i.i c.loop-i.invariant.1 (omega arith) (omega arith))
