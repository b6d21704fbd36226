-- `clear_area` meets its contract: what octets says of `fill_at`, from the front on. Relies on octets' Put.
use Rattle.std.specs.Prelude.{ℕ, drop, ◌+◌, ◌++◌, ◌≡◌, length, replicate}
use Rattle.image.specs.Prelude.{arith, ap, ◌∙◌, length-replicate}
use Rattle.laws.specs.Page.{zeros_of}
use Rattle.octets.specs.Put.{put}
use Rattle.packed.proofs.clear_area.Goals as goal

pub returns : goal.returns
unfolding zeros_of put
returns c =
    let n : length (replicate {A = ℕ} c.args.len 0) ≡ c.args.len = length-replicate c.args.len 0 in
    let e : 0 + length (replicate {A = ℕ} c.args.len 0) ≡ c.args.len = omega arith in
    c.fill_at.ensures ∙ ap (λ k. replicate {A = ℕ} c.args.len 0 ++ drop k c.args.area.now) e
