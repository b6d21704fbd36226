-- A mark written: the rows stay, the other marks stay.
use Rattle.std.specs.Prelude.{ℕ, ◌+◌, ◌*◌, ◌-◌, ◌/◌, ◌%◌, ◌≤◌, ◌<◌, ◌≡◌, refl, ◌⊎◌, List, Bool, true, false, length, take, drop, get_or, set, ltb}
use Rattle.image.specs.Prelude.{ap, ap₂, ◌∙◌, inl, inr, arith, length-set, get_or-set_same, get_or-set_other, drop-set-lt, drop-set-add, take-set-le, ltb-true, ltb-false, sym}
use Rattle.image.specs.Bytes.{u16, u16_bytes}
use Rattle.octets.specs.Put.{put, put_two}
use Rattle.packed.specs.Rows.Area.{row_at}
use Rattle.packed.specs.Rows.Branches.{mark_at}

-- a part that a store does not touch
part-set : (l : List ℕ) (a n p v : ℕ) → (p < a) ⊎ (a + n ≤ p) → take n (drop a (set l p v)) ≡ take n (drop a l)
part-set l a n p v (inl h) = ap (take n) (drop-set-lt a l p v h)
part-set l a n p v (inr h) =
    let e : p ≡ a + (p - a) = omega arith in
    ap (λ q. take n (drop a (set l q v))) e ∙ ap (take n) (drop-set-add a l (p - a) v) ∙ take-set-le n (drop a l) (p - a) v (omega arith)

unfoldable pub put_mark : List ℕ → ℕ → ℕ → List ℕ
put_mark area i v = set (set area (i * 128 + 2) (v % 256)) (i * 128 + 3) (v / 256)

pub mark-put : (area : List ℕ) (i v : ℕ) → i * 128 + 4 ≤ length area → put area (i * 128 + 2) (u16_bytes v) ≡ put_mark area i v
unfolding put_mark
mark-put area i v h =
    let z : i * 128 + 2 + 1 ≡ i * 128 + 3 = omega arith in
    sym (put_two area (i * 128 + 2) v (omega arith)) ∙ ap (λ p. set (set area (i * 128 + 2) (v % 256)) p (v / 256)) z

pub put-length : (area : List ℕ) (i v : ℕ) → length (put_mark area i v) ≡ length area
unfolding put_mark
put-length area i v = simp length-set

-- a byte that is none of the two
pub put_byte : (area : List ℕ) (i v p : ℕ) → (p ≡ i * 128 + 2 → ⊥) → (p ≡ i * 128 + 3 → ⊥) → get_or (put_mark area i v) p 0 ≡ get_or area p 0
unfolding put_mark
put_byte area i v p a b =
    get_or-set_other (set area (i * 128 + 2) (v % 256)) (i * 128 + 3) p (v / 256) 0 b ∙ get_or-set_other area (i * 128 + 2) p (v % 256) 0 a

put-part : (area : List ℕ) (i v a n : ℕ) → (i * 128 + 3 < a) ⊎ (a + n ≤ i * 128 + 2) → take n (drop a (put_mark area i v)) ≡ take n (drop a area)
unfolding put_mark
put-part area i v a n (inl h) =
    part-set (set area (i * 128 + 2) (v % 256)) a n (i * 128 + 3) (v / 256) (inl h) ∙ part-set area a n (i * 128 + 2) (v % 256) (inl (omega arith))
put-part area i v a n (inr h) =
    part-set (set area (i * 128 + 2) (v % 256)) a n (i * 128 + 3) (v / 256) (inr (omega arith)) ∙ part-set area a n (i * 128 + 2) (v % 256) (inr h)

pub mark-same : (area : List ℕ) (i v : ℕ) → i * 128 + 4 ≤ length area → mark_at (put_mark area i v) i ≡ v
unfolding mark_at u16 put_mark
mark-same area i v h =
    let a : get_or (set (set area (i * 128 + 2) (v % 256)) (i * 128 + 3) (v / 256)) (i * 128 + 2) 0 ≡ v % 256 =
    get_or-set_other (set area (i * 128 + 2) (v % 256)) (i * 128 + 3) (i * 128 + 2) (v / 256) 0 (λ q. omega arith)
    ∙ get_or-set_same area (i * 128 + 2) (v % 256) 0 (omega arith) in
    let p : i * 128 + 2 + 1 ≡ i * 128 + 3 = omega arith in
    let n = length-set area (i * 128 + 2) (v % 256) in
    let b : get_or (set (set area (i * 128 + 2) (v % 256)) (i * 128 + 3) (v / 256)) (i * 128 + 2 + 1) 0 ≡ v / 256 =
    ap (λ q. get_or (set (set area (i * 128 + 2) (v % 256)) (i * 128 + 3) (v / 256)) q 0) p
    ∙ get_or-set_same (set area (i * 128 + 2) (v % 256)) (i * 128 + 3) (v / 256) 0 (omega arith) in
    rw (a, b) (omega arith)

pub mark-other : (area : List ℕ) (i v j : ℕ) → (j ≡ i → ⊥) → mark_at (put_mark area i v) j ≡ mark_at area j
unfolding mark_at u16
mark-other area i v j n =
    ap₂ (λ x y. x + 256 * y) (put_byte area i v (j * 128 + 2) (λ q. n (omega arith)) (λ q. n (omega arith)))
    (put_byte area i v (j * 128 + 2 + 1) (λ q. n (omega arith)) (λ q. n (omega arith)))

-- left or right of it, or the same
side : (i j : ℕ) → (j < i) ⊎ (i ≤ j)
side i j = go (ltb j i) refl
  where
    go : (b : Bool) → ltb j i ≡ b → (j < i) ⊎ (i ≤ j)
    go true e = inl (ltb-true j i e)
    go false e = inr (ltb-false j i e)

pub row_stays : (area : List ℕ) (i v j : ℕ) → get_or area (j * 128) 0 ≤ 64 → get_or area (j * 128 + 1) 0 ≤ 60 → row_at (put_mark area i v) j ≡ row_at area j
row_stays area i v j a b = unfold row_at in
    (λ t. record { key = key-path t; value = value-path t })
  where
    p : get_or (put_mark area i v) (j * 128) 0 ≡ get_or area (j * 128) 0
    p = put_byte area i v (j * 128) (λ q. omega arith) (λ q. omega arith)

    q : get_or (put_mark area i v) (j * 128 + 1) 0 ≡ get_or area (j * 128 + 1) 0
    q = put_byte area i v (j * 128 + 1) (λ z. omega arith) (λ z. omega arith)

    away : (s : ℕ) → (j < i) ⊎ (i ≤ j) → 4 ≤ s → (n : ℕ) → s + n ≤ 128 → (i * 128 + 3 < j * 128 + s) ⊎ (j * 128 + s + n ≤ i * 128 + 2)
    away s (inl h) l n k = inr (omega arith)
    away s (inr h) l n k = inl (omega arith)

    key-path : take (get_or (put_mark area i v) (j * 128) 0) (drop (j * 128 + 4) (put_mark area i v)) ≡ take (get_or area (j * 128) 0) (drop (j * 128 + 4) area)
    key-path = ap (λ n. take n (drop (j * 128 + 4) (put_mark area i v))) p ∙ put-part area i v (j * 128 + 4) (get_or area (j * 128) 0) (away 4 (side i j) (omega arith) _ (omega arith))

    value-path : take (get_or (put_mark area i v) (j * 128 + 1) 0) (drop (j * 128 + 68) (put_mark area i v)) ≡ take (get_or area (j * 128 + 1) 0) (drop (j * 128 + 68) area)
    value-path = ap (λ n. take n (drop (j * 128 + 68) (put_mark area i v))) q ∙ put-part area i v (j * 128 + 68) (get_or area (j * 128 + 1) 0) (away 68 (side i j) (omega arith) _ (omega arith))
