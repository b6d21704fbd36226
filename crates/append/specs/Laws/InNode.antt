-- Bytes put inside one node: that node has them at the same place, every other node stays. And what a page reads after a put.
-- Relies on octets' `put` and on laws' `write_node`.
use Rattle.std.specs.Prelude.{ℕ, ◌+◌, ◌*◌, ◌-◌, ◌≤◌, ◌<◌, ◌≡◌, List, ◌++◌, length, take, drop, get_or}
use Rattle.image.specs.Prelude.{sym, ap, ap₂, ◌∙◌, append_assoc, arith, length-append, length-drop, take-append-drop, List·getD-append, take-add, take-take, drop-drop, drop-append-le, drop-append-add, length-take-le, get_or-take, get_or-drop}
use Rattle.image.specs.Bytes.{u16}
use Rattle.image.specs.Image.{node_bytes}
use Rattle.octets.specs.Put.{put, put-size}
use Rattle.laws.specs.WriteNode.{write_node, write_same, write-other}

-- A PAGE AFTER A PUT
module _ (page : List ℕ) (at : ℕ) (bs : List ℕ) (fits : at + length bs ≤ length page) where
  head-length : length (take at page ++ bs) ≡ at + length bs
  head-length = length-append (take at page) bs ∙ ap (λ n. n + length bs) (length-take-le at page (omega arith))

  pub drop-put : (k : ℕ) → at + length bs ≤ k → drop k (put page at bs) ≡ drop k page
  unfolding put
  drop-put k h =
      let q = head-length in
      let z : k ≡ length (take at page ++ bs) + (k - (at + length bs)) = omega arith in
      let y : at + length bs + (k - (at + length bs)) ≡ k = omega arith in
      ap₂ (λ n l. drop n l) z (sym (append_assoc (take at page) bs (drop (at + length bs) page)))
      ∙ drop-append-add (take at page ++ bs) (drop (at + length bs) page) (k - (at + length bs))
      ∙ drop-drop (k - (at + length bs)) (at + length bs) page
      ∙ ap (λ n. drop n page) y

  get-before : (j : ℕ) → j < at → get_or (put page at bs) j 0 ≡ get_or page j 0
  unfolding put
  get-before j h =
      let q = length-take-le at page (omega arith) in
      List·getD-append (take at page) (bs ++ drop (at + length bs) page) 0 j (omega arith) ∙ get_or-take at page j 0 h

  get_after : (j : ℕ) → at + length bs ≤ j → get_or (put page at bs) j 0 ≡ get_or page j 0
  get_after j h =
      let z : j + 0 ≡ j = omega arith in
      ap (λ n. get_or (put page at bs) n 0) (sym z) ∙ sym (get_or-drop j (put page at bs) 0 0) ∙ ap (λ l. get_or l 0 0) (drop-put j h)
      ∙ get_or-drop j page 0 0 ∙ ap (λ n. get_or page n 0) z

  pub u16-before : (k : ℕ) → k + 2 ≤ at → u16 (put page at bs) k ≡ u16 page k
  unfolding u16
  u16-before k h = ap₂ (λ a b. a + 256 * b) (get-before k (omega arith)) (get-before (k + 1) (omega arith))

  pub u16-after : (k : ℕ) → at + length bs ≤ k → u16 (put page at bs) k ≡ u16 page k
  unfolding u16
  u16-after k h = ap₂ (λ a b. a + 256 * b) (get_after k h) (get_after (k + 1) (omega arith))

-- a node's numbers in the store
pub node-u16 : (s : List ℕ) (i k : ℕ) → k + 1 < 1024 → u16 (node_bytes s i) k ≡ u16 s (i * 1024 + k)
unfolding u16 node_bytes
node-u16 s i k h =
    let x : 1024 * i + k ≡ i * 1024 + k = omega arith in
    let y : 1024 * i + (k + 1) ≡ i * 1024 + k + 1 = omega arith in
    ap₂ (λ a b. a + 256 * b)
    (get_or-take 1024 (drop (1024 * i) s) k 0 (omega arith) ∙ get_or-drop (1024 * i) s k 0 ∙ ap (λ n. get_or s n 0) x)
    (get_or-take 1024 (drop (1024 * i) s) (k + 1) 0 h ∙ get_or-drop (1024 * i) s (k + 1) 0 ∙ ap (λ n. get_or s n 0) y)

pub node-length : (s : List ℕ) (i : ℕ) → i * 1024 + 1024 ≤ length s → length (node_bytes s i) ≡ 1024
unfolding node_bytes
node-length s i h = length-take-le 1024 (drop (1024 * i) s) (omega (arith, length-drop (1024 * i) s))

-- A PUT INSIDE A NODE
module _ (s : List ℕ) (i k : ℕ) (bs : List ℕ) (inside : i * 1024 + 1024 ≤ length s) (fits : k + length bs ≤ 1024) where
  page-full : length (put (node_bytes s i) k bs) ≡ 1024
  page-full = let n = node-length s i inside in put-size (node_bytes s i) k bs (omega arith) ∙ n

  pub put_in : put s (i * 1024 + k) bs ≡ write_node s i (put (node_bytes s i) k bs)
  unfolding put write_node node_bytes
  put_in =
      let D : List ℕ = drop (1024 * i) s in
      let n = length-take-le 1024 D (omega (arith, length-drop (1024 * i) s)) in
      let x : i * 1024 + k ≡ 1024 * i + k = omega arith in
      let y : i * 1024 + k + length bs ≡ 1024 * i + (k + length bs) = omega arith in
      let front : take (i * 1024 + k) s ≡ take (1024 * i) s ++ take k (take 1024 D) =
      ap (λ m. take m s) x ∙ take-add (1024 * i) k s ∙ ap (λ l. take (1024 * i) s ++ l) (sym (take-take k 1024 D (omega arith))) in
      let back : drop (i * 1024 + k + length bs) s ≡ drop (k + length bs) (take 1024 D) ++ drop (1024 * i + 1024) s =
      ap (λ m. drop m s) y ∙ sym (drop-drop (k + length bs) (1024 * i) s) ∙ ap (drop (k + length bs)) (sym (take-append-drop 1024 D))
      ∙ drop-append-le (k + length bs) (take 1024 D) (drop 1024 D) (omega arith)
      ∙ ap (λ l. drop (k + length bs) (take 1024 D) ++ l) (drop-drop 1024 (1024 * i) s) in
      ap₂ (λ a b. a ++ (bs ++ b)) front back
      ∙ append_assoc (take (1024 * i) s) (take k (take 1024 D)) (bs ++ (drop (k + length bs) (take 1024 D) ++ drop (1024 * i + 1024) s))
      ∙ ap (λ l. take (1024 * i) s ++ l)
      (ap (λ l. take k (take 1024 D) ++ l) (sym (append_assoc bs (drop (k + length bs) (take 1024 D)) (drop (1024 * i + 1024) s)))
      ∙ sym (append_assoc (take k (take 1024 D)) (bs ++ drop (k + length bs) (take 1024 D)) (drop (1024 * i + 1024) s)))

  pub put_same : node_bytes (put s (i * 1024 + k) bs) i ≡ put (node_bytes s i) k bs
  put_same = ap (λ l. node_bytes l i) put_in ∙ write_same s i (put (node_bytes s i) k bs) (omega arith) page-full

  pub put_other : (j : ℕ) → (j ≡ i → ⊥) → node_bytes (put s (i * 1024 + k) bs) j ≡ node_bytes s j
  put_other j n = ap (λ l. node_bytes l j) put_in ∙ write-other s i (put (node_bytes s i) k bs) (omega arith) page-full j n
