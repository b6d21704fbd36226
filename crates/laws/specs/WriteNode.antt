-- One node of an image written anew.
use Rattle.std.specs.Prelude.{ℕ, ◌+◌, ◌*◌, ◌-◌, ◌/◌, ◌≤◌, ◌<◌, ◌≡◌, List, ◌++◌, ltb, length, take, drop}
use Rattle.image.specs.Prelude.{sym, ap, ◌∙◌, append_assoc, arith, ltb-true, ltb-false, length-append, length-drop, take-append-drop, take-append-le, drop-append-le, take_at, drop_at, drop-append-add, length-take-le, mul-div-le, lt_of_le_of_ne, cases}
use Rattle.image.specs.Image.{node_bytes, nodes_of}

unfoldable pub write_node : List ℕ → ℕ → List ℕ → List ℕ
write_node image i bytes = take (1024 * i) image ++ (bytes ++ drop (1024 * i + 1024) image)

-- a node of a store lies inside it
pub in-store : (len i : ℕ) → i < nodes_of len → i * 1024 + 1024 ≤ len
unfolding nodes_of
in-store len i h = let b : 1024 * (len / 1024) ≤ len = mul-div-le len 1024 in omega arith

-- a node that lies in the first part
front : (t u : List ℕ) (j : ℕ) → 1024 * j + 1024 ≤ length t → node_bytes (t ++ u) j ≡ node_bytes t j
unfolding node_bytes
front t u j h =
    ap (λ l. take 1024 l) (drop-append-le (1024 * j) t u (omega arith))
    ∙ take-append-le 1024 (drop (1024 * j) t) u (rw (length-drop (1024 * j) t) (omega arith))

-- the nodes behind the first part
past : (k : ℕ) (x v : List ℕ) → length x ≤ k → drop k (x ++ v) ≡ drop (k - length x) v
past k x v h =
    let e : k ≡ length x + (k - length x) = omega arith in
    ap (λ m. drop m (x ++ v)) e ∙ drop-append-add x v (k - length x)

behind : (t u v : List ℕ) (j : ℕ) → length t ≡ length u → length t ≤ 1024 * j → node_bytes (t ++ v) j ≡ node_bytes (u ++ v) j
unfolding node_bytes
behind t u v j e h =
    ap (λ l. take 1024 l) (past (1024 * j) t v h ∙ ap (λ m. drop (1024 * j - m) v) e ∙ sym (past (1024 * j) u v (omega arith)))

module _ (image : List ℕ) (i : ℕ) (bytes : List ℕ) (fits : 1024 * i + 1024 ≤ length image) (full : length bytes ≡ 1024) where
  first-length : length (take (1024 * i) image) ≡ 1024 * i
  first-length = length-take-le (1024 * i) image (omega arith)

  pub write-length : length (write_node image i bytes) ≡ length image
  unfolding write_node
  write-length =
      length-append (take (1024 * i) image) (bytes ++ drop (1024 * i + 1024) image)
      ∙ rw (first-length, length-append bytes (drop (1024 * i + 1024) image), full, length-drop (1024 * i + 1024) image) (omega arith)

  pub write_same : node_bytes (write_node image i bytes) i ≡ bytes
  unfolding write_node node_bytes
  write_same =
      ap (λ l. take 1024 l) (drop_at (take (1024 * i) image) (bytes ++ drop (1024 * i + 1024) image) (1024 * i) first-length)
      ∙ take_at bytes (drop (1024 * i + 1024) image) 1024 full

  write-before : (j : ℕ) → j < i → node_bytes (write_node image i bytes) j ≡ node_bytes image j
  unfolding write_node
  write-before j h =
      front (take (1024 * i) image) (bytes ++ drop (1024 * i + 1024) image) j (rw first-length (omega arith))
      ∙ sym (front (take (1024 * i) image) (drop (1024 * i) image) j (rw first-length (omega arith)))
      ∙ ap (λ l. node_bytes l j) (take-append-drop (1024 * i) image)

  write-after : (j : ℕ) → i < j → node_bytes (write_node image i bytes) j ≡ node_bytes image j
  unfolding write_node
  write-after j h =
      ap (λ l. node_bytes l j) (sym (append_assoc (take (1024 * i) image) bytes (drop (1024 * i + 1024) image)))
      ∙ behind (take (1024 * i) image ++ bytes) (take (1024 * i + 1024) image) (drop (1024 * i + 1024) image) j
      (length-append (take (1024 * i) image) bytes ∙ rw (first-length, full, length-take-le (1024 * i + 1024) image fits))
      (rw (length-append (take (1024 * i) image) bytes, first-length, full) (omega arith))
      ∙ ap (λ l. node_bytes l j) (take-append-drop (1024 * i + 1024) image)

  pub write-other : (j : ℕ) → (j ≡ i → ⊥) → node_bytes (write_node image i bytes) j ≡ node_bytes image j
  write-other j n =
      cases (ltb j i) (λ e. write-before j (ltb-true j i e))
      (λ e. let h : i ≤ j = ltb-false j i e in write-after j (lt_of_le_of_ne h (λ q. n (sym q))))
