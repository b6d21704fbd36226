-- The lifted prefix, and a whole interior page.
use Rattle.std.specs.Prelude.{ℕ, suc, ◌+◌, ◌*◌, ◌-◌, ◌≤◌, ◌<◌, ◌≡◌, refl, List, length, Bool, true, false, ltb}
use Rattle.image.specs.Prelude.{sym, ap, ◌∙◌, arith, ltb-true, ltb-false}
use Rattle.image.specs.Bytes.{shared, u16_bytes}
use Rattle.image.specs.Sound.{highest}
use Rattle.laws.specs.Encode.{bytes_of_all}
use Rattle.laws.specs.WriteNode.{write_node}
use Rattle.packed.specs.Form.Packed.{first}
use Rattle.laws.specs.Page.{page, zeros_of}
use Rattle.packed.specs.Form.Marks.{pivot_of, branch_entries}
use Rattle.packed.specs.Rows.Branches.{mark_at, low_of_row, branches_of, branches-take, high_of_row, node_page}
use Rattle.octets.specs.Put.{put}
use Rattle.node.specs.Pages.{page-written}
use Rattle.packed.specs.Pages.Entries.{branch_bytes}
use Rattle.packed.specs.Rows.Steps.{high_at}
use Rattle.packed.specs.Build.Pairs.{leaf_lifts}
use Rattle.packed.specs.Build.PairLaws.{high_end, high-low}

-- the high pivot of what ends before row j
pub high-last : (m : ℕ) (area : List ℕ) (j : ℕ) → j ≡ m → high_of_row m area j ≡ highest
unfolding high_of_row branches_of first
high-last m area j e = let z : m - j ≡ 0 = omega arith in rw z refl

pub high-row : (m : ℕ) (area : List ℕ) (j : ℕ) → j < m → 1 ≤ mark_at area j → high_of_row m area j ≡ low_of_row area j
unfolding high_of_row first
high-row m area j h o =
    let z : m - j ≡ suc (m - suc j) = omega arith in
    ap (λ k. first pivot_of highest (branches_of k area j)) z ∙ ap (first pivot_of highest) (branches-take (m - suc j) area j o)

-- what a node lifts, told by its rows as for a leaf
pub lifts-alike : (m : ℕ) (area : List ℕ) (i j : ℕ) → i < j → j ≤ m → (j < m → 1 ≤ mark_at area j)
    → leaf_lifts m area i j ≡ length (shared (low_of_row area i) (high_of_row m area j))
unfolding leaf_lifts
lifts-alike m area i j a b o = ap (λ l. length (shared (low_of_row area i) l)) (go (ltb j m) refl)
  where
    go : (x : Bool) → ltb j m ≡ x → high_at m area j ≡ high_of_row m area j
    go true e =
        let h : j < m = ltb-true j m e in
        high-low m area j (omega arith) h ∙ sym (high-row m area j h (o h))
    go false e =
        let h : m ≤ j = ltb-false j m e in
        high_end m area j h ∙ sym (high-last m area j (omega arith))

-- the bytes of the entries of the node that starts at row i and ends before row j
unfoldable pub node_bytes_of : ℕ → List ℕ → ℕ → ℕ → ℕ
node_bytes_of m area i j = length (branch_bytes (length (shared (low_of_row area i) (high_of_row m area j))) (j - i) area i)

pub bytes-of : (m : ℕ) (area : List ℕ) (i j k : ℕ) → k ≡ length (shared (low_of_row area i) (high_of_row m area j)) → node_bytes_of m area i j ≡ length (branch_bytes k (j - i) area i)
unfolding node_bytes_of
bytes-of m area i j k e = ap (λ x. length (branch_bytes x (j - i) area i)) (sym e)

-- one interior node, written
pub inner-written : (store store' : List ℕ) (num level m : ℕ) (area : List ℕ) (i j k : ℕ) → k ≡ length (shared (low_of_row area i) (high_of_row m area j)) → node_bytes_of m area i j ≤ 1016
    → (p : List ℕ) (e : ℕ) → p ≡ put (zeros_of 1024) 8 (branch_bytes k (j - i) area i) → e ≡ 8 + length (branch_bytes k (j - i) area i)
    → store' ≡ put store (num * 1024) (put (put (put p 0 (u16_bytes (e - 8))) 2 (u16_bytes 2)) 4 (u16_bytes level))
    → store' ≡ write_node store num (node_page level m area i j)
inner-written store store' num level m area i j k kk h p e a b c =
    let q = bytes-of m area i j k kk in
    page-written store store' p num 2 level e (branch_bytes k (j - i) area i) (omega arith) a b c ∙ ap (write_node store num) shown
  where
    shown : page 2 level (branch_bytes k (j - i) area i) ≡ node_page level m area i j
    shown = unfold node_page branch_bytes in ap (λ x. page 2 level (bytes_of_all (branch_entries x (branches_of (j - i) area i)))) kk
