-- Steps of the leaf writer: the rows go into the page one after the other, and the page is written with its header.
-- Rely on the page writer's algebra (octets/specs/Put) and on the laws of pairs.
use Rattle.std.specs.Prelude.{ℕ, ◌+◌, ◌*◌, ◌-◌, ◌≤◌, ◌≡◌, List, length}
use Rattle.image.specs.Prelude.{ap, ◌∙◌, arith}
use Rattle.image.specs.Bytes.{u16_bytes}
use Rattle.laws.specs.Encode.{bytes_of_all}
use Rattle.packed.specs.Form.Packed.{short_rows}
use Rattle.laws.specs.Page.{page, pair_entries, zeros_of}
use Rattle.laws.specs.WriteNode.{write_node}
use Rattle.packed.specs.Rows.Area.{rows_of}
use Rattle.packed.specs.Rows.Branches.{low_of_row}
use Rattle.packed.specs.Rows.Steps.{leaf_page}
use Rattle.octets.specs.Put.{put}
use Rattle.node.specs.Pages.{page-written}
use Rattle.packed.specs.Build.Pairs.{pair_bytes, leaf_lifts, leaf_bytes}
use Rattle.packed.specs.Build.PairLaws.{bytes-of}

-- one leaf, written
pub leaf-written : (store store' : List ℕ) (num m : ℕ) (area : List ℕ) (i j k : ℕ) → k ≡ leaf_lifts m area i j → leaf_bytes m area i j ≤ 1016
    → (p : List ℕ) (e : ℕ) → p ≡ put (zeros_of 1024) 8 (pair_bytes k (j - i) area i) → e ≡ 8 + length (pair_bytes k (j - i) area i)
    → store' ≡ put store (num * 1024) (put (put (put p 0 (u16_bytes (e - 8))) 2 (u16_bytes 1)) 4 (u16_bytes 1))
    → store' ≡ write_node store num (leaf_page m area i (low_of_row area i) j)
leaf-written store store' num m area i j k kk h p e a b c =
    let q = bytes-of m area i j k kk in
    page-written store store' p num 1 1 e (pair_bytes k (j - i) area i) (omega arith) a b c ∙ ap (write_node store num) shown
  where
    shown : page 1 1 (pair_bytes k (j - i) area i) ≡ leaf_page m area i (low_of_row area i) j
    shown = unfold leaf_page pair_bytes leaf_lifts in ap (λ x. page 1 1 (bytes_of_all (pair_entries (short_rows x (rows_of (j - i) area i))))) kk
