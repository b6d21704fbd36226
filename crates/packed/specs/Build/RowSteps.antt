-- Steps of the row writer.
-- Rely on the laws of puts.
use Rattle.std.specs.Prelude.{ℕ, zero, suc, ◌+◌, ◌*◌, ◌≤◌, ◌<◌, ◌≡◌, refl, List, [], ◌∷◌, ◌++◌, Bool, true, false, length, take, drop, get_or, set, ltb}
use Rattle.image.specs.Prelude.{sym, ap, ap₂, subst, ◌∙◌, arith, length-append, length-set, ltb-true, ltb-false}
use Rattle.packed.specs.Rows.Area.{row_at, rows_of, RowsFit}
use Rattle.octets.specs.Put.{put, put_one, put-put, put-size}
use Rattle.packed.specs.Build.Rows.{RowPut}
use Rattle.packed.specs.Build.PutLaws.{put-before, put-after, put_same, byte_at, byte-same}

rows_end : (k : ℕ) (area : List ℕ) (i : ℕ) → rows_of (suc k) area i ≡ rows_of k area i ++ (row_at area (i + k) ∷ [])
unfolding rows_of
rows_end zero area i = let z : i ≡ i + 0 = omega arith in ap (λ q. row_at area q ∷ []) z
rows_end (suc k) area i =
    let z : suc i + k ≡ i + suc k = omega arith in
    ap (λ l. row_at area i ∷ l) (rows_end k area (suc i) ∙ ap (λ q. rows_of k area (suc i) ++ (row_at area q ∷ [])) z)

rows_alike : (k : ℕ) (a b : List ℕ) (i : ℕ) → ((t : ℕ) → i ≤ t → t < i + k → row_at b t ≡ row_at a t) → rows_of k b i ≡ rows_of k a i
unfolding rows_of
rows_alike zero a b i h = refl
rows_alike (suc k) a b i h =
    ap₂ (λ r l. r ∷ l) (h i (omega arith) (omega arith)) (rows_alike k a b (suc i) (λ t p q. h t (omega arith) (omega arith)))

module _ (area : List ℕ) (i : ℕ) (path value : List ℕ) (fit : RowsFit i area) (room : i * 128 + 128 ≤ length area) (short-path : length path ≤ 64) (short-value : length value ≤ 60)
    (area₁ area₂ area₃ area₄ : List ℕ) (e₁ : area₁ ≡ set area (i * 128) (length path)) (e₂ : area₂ ≡ set area₁ (i * 128 + 1) (length value))
    (e₃ : area₃ ≡ put area₂ (i * 128 + 4) path) (e₄ : area₄ ≡ put area₃ (i * 128 + 68) value) where
  heads : area₂ ≡ put area (i * 128) (length path ∷ length value ∷ [])
  heads =
      let p : area₁ ≡ put area (i * 128) (length path ∷ []) = e₁ ∙ put_one area (i * 128) (length path) (omega arith) in
      let s : length area₁ ≡ length area = ap length p ∙ put-size area (i * 128) (length path ∷ []) (omega arith) in
      e₂ ∙ put_one area₁ (i * 128 + 1) (length value) (omega arith) ∙ ap (λ x. put x (i * 128 + 1) (length value ∷ [])) p
      ∙ put-put area (i * 128) (length path ∷ []) (length value ∷ []) (omega arith)

  size₂ : length area₂ ≡ length area
  size₂ = ap length heads ∙ put-size area (i * 128) (length path ∷ length value ∷ []) (omega arith)

  size₃ : length area₃ ≡ length area
  size₃ = let s = size₂ in ap length e₃ ∙ put-size area₂ (i * 128 + 4) path (omega arith) ∙ s

  size₄ : length area₄ ≡ length area
  size₄ = let s = size₃ in ap length e₄ ∙ put-size area₃ (i * 128 + 68) value (omega arith) ∙ s

  -- a part before the row's path stays under the two copies
  part-head : (a n : ℕ) → a + n ≤ i * 128 + 4 → take n (drop a area₄) ≡ take n (drop a area₂)
  part-head a n h =
      let s = size₂ in
      let t = size₃ in
      ap (λ x. take n (drop a x)) e₄ ∙ put-before area₃ (i * 128 + 68) value a n (omega arith) (omega arith)
      ∙ ap (λ x. take n (drop a x)) e₃ ∙ put-before area₂ (i * 128 + 4) path a n h (omega arith)

  part-before : (a n : ℕ) → a + n ≤ i * 128 → take n (drop a area₄) ≡ take n (drop a area)
  part-before a n h =
      part-head a n (omega arith) ∙ ap (λ x. take n (drop a x)) heads
      ∙ put-before area (i * 128) (length path ∷ length value ∷ []) a n h (omega arith)

  head-bytes : take 2 (drop (i * 128) area₄) ≡ length path ∷ length value ∷ []
  head-bytes =
      part-head (i * 128) 2 (omega arith) ∙ ap (λ x. take 2 (drop (i * 128) x)) heads
      ∙ put_same area (i * 128) (length path ∷ length value ∷ []) (omega arith)

  path-byte : get_or area₄ (i * 128) 0 ≡ length path
  path-byte =
      let z : i * 128 ≡ i * 128 + 0 = omega arith in
      ap (λ q. get_or area₄ q 0) z ∙ sym (byte_at area₄ (i * 128) 2 0 (omega arith)) ∙ ap (λ x. get_or x 0 0) head-bytes

  value-byte : get_or area₄ (i * 128 + 1) 0 ≡ length value
  value-byte = sym (byte_at area₄ (i * 128) 2 1 (omega arith)) ∙ ap (λ x. get_or x 1 0) head-bytes

  path-part : take (length path) (drop (i * 128 + 4) area₄) ≡ path
  path-part =
      let s = size₂ in
      let t = size₃ in
      ap (λ x. take (length path) (drop (i * 128 + 4) x)) e₄ ∙ put-before area₃ (i * 128 + 68) value (i * 128 + 4) (length path) (omega arith) (omega arith)
      ∙ ap (λ x. take (length path) (drop (i * 128 + 4) x)) e₃ ∙ put_same area₂ (i * 128 + 4) path (omega arith)

  value-part : take (length value) (drop (i * 128 + 68) area₄) ≡ value
  value-part = let t = size₃ in ap (λ x. take (length value) (drop (i * 128 + 68) x)) e₄ ∙ put_same area₃ (i * 128 + 68) value (omega arith)

  row-here : row_at area₄ i ≡ record { key = path; value = value }
  unfolding row_at
  row-here =
      ap₂ (λ k v. record { key = k; value = v })
      (ap (λ n. take n (drop (i * 128 + 4) area₄)) path-byte ∙ path-part) (ap (λ n. take n (drop (i * 128 + 68) area₄)) value-byte ∙ value-part)

  byte-before : (p : ℕ) → p < i * 128 → get_or area₄ p 0 ≡ get_or area p 0
  byte-before p h = byte-same area₄ area p p (omega arith) (part-before p 1 (omega arith))

  row_before : (t : ℕ) → t < i → row_at area₄ t ≡ row_at area t
  unfolding row_at
  row_before t h =
      let a = fit.paths t h in
      let b = fit.values t h in
      ap₂ (λ k v. record { key = k; value = v })
      (ap (λ n. take n (drop (t * 128 + 4) area₄)) (byte-before (t * 128) (omega arith)) ∙ part-before (t * 128 + 4) (get_or area (t * 128) 0) (omega arith))
      (ap (λ n. take n (drop (t * 128 + 68) area₄)) (byte-before (t * 128 + 1) (omega arith)) ∙ part-before (t * 128 + 68) (get_or area (t * 128 + 1) 0) (omega arith))

  lengths : (t : ℕ) → t < i + 1 → (get_or area₄ (t * 128) 0 ≤ 64) × (get_or area₄ (t * 128 + 1) 0 ≤ 60)
  lengths t h = go (ltb t i) refl
    where
      go : (b : Bool) → ltb t i ≡ b → (get_or area₄ (t * 128) 0 ≤ 64) × (get_or area₄ (t * 128 + 1) 0 ≤ 60)
      go true e =
          let l : t < i = ltb-true t i e in
          (rw (byte-before (t * 128) (omega arith)) (fit.paths t l), rw (byte-before (t * 128 + 1) (omega arith)) (fit.values t l))
      go false e =
          let l : i ≤ t = ltb-false t i e in
          let z : i ≡ t = omega arith in
          subst (λ q. (get_or area₄ (q * 128) 0 ≤ 64) × (get_or area₄ (q * 128 + 1) 0 ≤ 60)) z (rw path-byte short-path, rw value-byte short-value)

  pub row_put : RowPut i area area₄ path value
  row_put =
      let s = size₄ in
      let r = size₃ in
      let q = size₂ in
      let z : i + 1 ≡ suc i = omega arith in
      let y : 0 + i ≡ i = omega arith in
      record {
        fit = record { room = omega arith; paths = λ t h. (lengths t h).0; values = λ t h. (lengths t h).1 };
        rows =
            ap (λ k. rows_of k area₄ 0) z ∙ rows_end i area₄ 0
            ∙ ap₂ (λ a b. a ++ (b ∷ [])) (rows_alike i area area₄ 0 (λ t a b. row_before t (omega arith))) (ap (row_at area₄) y ∙ row-here);
        behind =
            ap (drop (i * 128 + 128)) e₄ ∙ put-after area₃ (i * 128 + 68) value (i * 128 + 128) (omega arith) (omega arith)
            ∙ ap (drop (i * 128 + 128)) e₃ ∙ put-after area₂ (i * 128 + 4) path (i * 128 + 128) (omega arith) (omega arith)
            ∙ ap (drop (i * 128 + 128)) heads ∙ put-after area (i * 128) (length path ∷ length value ∷ []) (i * 128 + 128) (omega arith) (omega arith);
      }

-- the same where the path is put in two parts
pub row-joined : (area : List ℕ) (i : ℕ) (front rest value : List ℕ) → RowsFit i area → i * 128 + 128 ≤ length area → length front + length rest ≤ 64 → length value ≤ 60
    → (area₁ area₂ area₃ area₄ area₅ : List ℕ) → area₁ ≡ set area (i * 128) (length front + length rest) → area₂ ≡ set area₁ (i * 128 + 1) (length value)
    → area₃ ≡ put area₂ (i * 128 + 4) front → area₄ ≡ put area₃ (i * 128 + 4 + length front) rest → area₅ ≡ put area₄ (i * 128 + 68) value
    → RowPut i area area₅ (front ++ rest) value
row-joined area i front rest value fit room short-path short-value area₁ area₂ area₃ area₄ area₅ e₁ e₂ e₃ e₄ e₅ =
    let n = length-append front rest in
    let s : length area₂ ≡ length area = ap length e₂ ∙ length-set area₁ (i * 128 + 1) (length value) ∙ ap length e₁ ∙ length-set area (i * 128) (length front + length rest) in
    row_put area i (front ++ rest) value fit room (omega arith) short-value area₁ area₂ area₄ area₅ (e₁ ∙ ap (set area (i * 128)) (sym n)) e₂
    (e₄ ∙ ap (λ x. put x (i * 128 + 4 + length front) rest) e₃ ∙ put-put area₂ (i * 128 + 4) front rest (omega arith)) e₅
