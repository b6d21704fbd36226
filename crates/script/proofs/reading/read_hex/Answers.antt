-- `read_hex` meets its contract: the loop has read two digits for each of i bytes, and the rest is still to be read (specs/Reading).
use Rattle.std.specs.Prelude.{refl, ◌*◌, ◌+◌, ◌≡◌, drop, take, length, set, ◌/◌, Some}
use Rattle.image.specs.Prelude.{sym, length-set, arith, ◌∙◌, subst}
use Rattle.image.specs.Program.{bytes_of}
use Rattle.script.specs.Reading.{Parsed, behind_all, wrong-value, hex-begins, hex-odd, high-wrong, low-wrong, both_right, hex-read}
use Rattle.script.proofs.reading.read_hex.Goals as goal

pub loop-i-init : goal.loop-i-init
loop-i-init c = (refl, hex-begins c.args.hex.now c.args.value.now)

pub returns-in_err-high : goal.returns-in_err-high
returns-in_err-high c = rw c.from_residual.ensures (wrong-value (bytes_of c.args.hex.now) c.loop-i.value (high-wrong c.args.hex.now c.loop-i.value (2 * c.loop-i.i) c.loop-i.i c.loop-i.invariant.1 (omega arith) 16 (sym c.in_err-high.ensures) (omega arith)))

pub returns-in_err-low : goal.returns-in_err-low
returns-in_err-low c = rw c.from_residual-in_err-low.ensures (wrong-value (bytes_of c.args.hex.now) c.loop-i.value (low-wrong c.args.hex.now c.loop-i.value (2 * c.loop-i.i) c.loop-i.i c.loop-i.invariant.1 (omega arith) c.in_ok-high.high c.in_ok-high.ensures.0 c.in_ok-high.ensures.1 16 (sym c.in_err-low.ensures) (omega arith)))

pub loop-i-preserved : goal.loop-i-preserved
loop-i-preserved c =
    let n : 2 * c.loop-i.i + 2 ≡ 2 * (c.loop-i.i + 1) = omega arith in (
      (simp length-set) ∙ c.loop-i.invariant.0,
      subst (λ k. bytes_of c.args.hex.now ≡ behind_all (take (c.loop-i.i + 1) (set c.loop-i.value c.loop-i.i (16 * c.in_ok-high.high + c.in_ok-low.low))) (bytes_of (drop k c.args.hex.now))) n
          (both_right c.args.hex.now c.loop-i.value (2 * c.loop-i.i) c.loop-i.i c.loop-i.invariant.1 (omega arith) c.in_ok-high.high c.in_ok-high.ensures.0 c.in_ok-high.ensures.1 c.in_ok-low.low c.in_ok-low.ensures.0 c.in_ok-low.ensures.1 (omega arith)),
    )

pub returns-then-hex-eq1 : goal.returns-then-hex-eq1
returns-then-hex-eq1 c = wrong-value (bytes_of c.args.hex.now) c.loop-i.value (hex-odd c.args.hex.now c.loop-i.value (2 * c.loop-i.i) c.loop-i.i c.loop-i.invariant.1 (omega arith))

pub returns : goal.returns
returns c =
    let e : c.loop-i.i ≡ length c.args.hex.now / 2 = omega arith in
    subst (λ k. Parsed (bytes_of c.args.hex.now) (Some k) c.loop-i.value) e
    (hex-read c.args.hex.now c.loop-i.value (2 * c.loop-i.i) c.loop-i.i c.loop-i.invariant.1 (omega arith) (omega arith))
