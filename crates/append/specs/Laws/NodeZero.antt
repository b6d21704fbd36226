-- A number of node 0 written anew: the root, the levels or the live count. Node 0 stays laid out, its other numbers stay.
-- Relies on InNode.
use Rattle.std.specs.Prelude.{ℕ, ◌+◌, ◌≤◌, ◌≡◌, List, true, ◌&&◌, length, eqb}
use Rattle.image.specs.Prelude.{ap, ◌∙◌, arith}
use Rattle.image.specs.Bytes.{u16, u16_bytes, zeros}
use Rattle.image.specs.Image.{header_laid_out}
use Rattle.octets.specs.Order.{and_left, and_right}
use Rattle.octets.specs.Put.{put}
use Rattle.laws.specs.Rising.{both}
use Rattle.append.specs.Laws.InNode.{drop-put, u16-before}

pub laid-put : (page : List ℕ) (k v : ℕ) → 12 ≤ length page → 4 ≤ k → k + 2 ≤ 12 → header_laid_out page ≡ true → header_laid_out (put page k (u16_bytes v)) ≡ true
unfolding header_laid_out
laid-put page k v full low high h =
    let front : eqb (u16 page 0) 8 && eqb (u16 page 2) 0x0100 ≡ true = and_left _ _ h in
    rw (u16-before page k (u16_bytes v) (omega arith) 0 (omega arith), u16-before page k (u16_bytes v) (omega arith) 2 (omega arith))
    (both front (ap zeros (drop-put page k (u16_bytes v) (omega arith) 12 (omega arith)) ∙ and_right (eqb (u16 page 0) 8 && eqb (u16 page 2) 0x0100) _ h))
