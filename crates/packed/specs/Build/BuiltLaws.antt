-- Laws for the callers of `build`: what its contract gives, and when rows fit their places.
-- Rely on specs/Form/Tidy: the packed image is sound, means the table, and is tidied.
use Rattle.std.specs.Prelude.{ℕ, zero, suc, ◌+◌, ◌*◌, ◌-◌, ◌/◌, ◌≤◌, ◌<◌, ◌≡◌, refl, List, [], ◌∷◌, Bool, true, false, length, take, drop, get_or, leb}
use Rattle.image.specs.Prelude.{sym, ap, ◌∙◌, subst, arith, length-drop, length-take-le, leb-true, leb-false}
use Rattle.image.specs.Path.{value_limit}
use Rattle.image.specs.Image.{nodes_of}
use Rattle.image.specs.Sound.{is_in, once, in_range, numbers}
use Rattle.packed.specs.Form.Packed.{packed, numbers_from}
use Rattle.packed.specs.Form.Numbered.{times-in, in-times}
use Rattle.packed.specs.Form.Tower.{Packs, from-once, from-range, from-length}
use Rattle.packed.specs.Form.Tidy.{image_of, built-packs, built-holds, built-tree, built-table, built-sound, built-tidied, built-other}
use Rattle.packed.specs.Rows.Area.{rows_of, row_at, RowsFit}
use Rattle.packed.specs.Rows.Steps.{rows-length}
use Rattle.packed.specs.Build.Handed.{handed}
use Rattle.packed.specs.Form.Chunk.{All}
use Rattle.packed.specs.Form.Leaves.{Good, value_length}
use Rattle.packed.specs.Build.Built.{Asks, built_image, Built}
use Rattle.laws.specs.Follow.{formed-length}

pub built : (store store' area : List ℕ) (m : ℕ) (given : List ℕ) → Asks store area m given → store' ≡ built_image store area m given
    → Built store store' (rows_of m area 0) (handed given)
unfolding built_image
built store store' area m given a e =
    let enough : nodes_of (length store) / 4 ≤ length (handed given) + 1 = let x = a.enough in omega arith in
    let l : m ≡ length (rows_of m area 0) = sym (rows-length m area 0) in
    let f : store' ≡ image_of store (nodes_of (length store)) (length (rows_of m area 0)) (packed (handed given) (rows_of m area 0)) =
    e ∙ ap (λ k. image_of store (nodes_of (length store)) k (packed (handed given) (rows_of m area 0))) l in
    let p : Packs (handed given) (rows_of m area 0) (nodes_of (length store)) =
    built-packs store (handed given) (nodes_of (length store)) (rows_of m area 0) a.size a.least a.most enough a.differ a.ranged a.table in
    rw f
    (record {
      is_sound = built-sound store (handed given) (nodes_of (length store)) (rows_of m area 0) a.size a.least a.most enough a.differ a.ranged a.table;
      same_table = built-table store (handed given) (nodes_of (length store)) (rows_of m area 0) a.size a.least a.most enough a.differ a.ranged a.table;
      is_tidied = built-tidied store (handed given) (nodes_of (length store)) (rows_of m area 0) a.size a.least a.most enough a.differ a.ranged a.table;
      same_size =
          (built-holds store (handed given) (nodes_of (length store)) (rows_of m area 0) a.size a.least a.most enough a.differ a.ranged a.table).size
          ∙ sym a.size;
      unused = λ j h. ap (λ t. is_in j (numbers t)) (built-tree store (handed given) (nodes_of (length store)) (rows_of m area 0) a.size a.least a.most enough a.differ a.ranged a.table) ∙ fresh p j h;
      others = λ j o h.
          built-other store (handed given) (nodes_of (length store)) (rows_of m area 0) a.size a.least a.most enough a.differ a.ranged a.table j o (fresh p j h);
    })
  where
    fresh : Packs (handed given) (rows_of m area 0) (nodes_of (length store)) → (j : ℕ) → is_in j (handed given) ≡ false
        → is_in j (numbers (packed (handed given) (rows_of m area 0)).root) ≡ false
    fresh p j h = in-times j (numbers (packed (handed given) (rows_of m area 0)).root) (let x = p.counted j in let y = times-in j (handed given) h in omega arith)

-- no rows yet
pub no-rows-fit : (area : List ℕ) → RowsFit 0 area
no-rows-fit area = record { room = omega arith; paths = λ i h. absurd (omega arith); values = λ i h. absurd (omega arith) }

-- a length byte that is too large would show in the row
byte-bound : (b k : ℕ) (l : List ℕ) → length (take b l) ≤ k → k < length l → b ≤ k
byte-bound b k l h g = go (leb b (length l)) refl
  where
    go : (x : Bool) → leb b (length l) ≡ x → b ≤ k
    go true e = let z = length-take-le b l (leb-true b (length l) e) in omega arith
    go false e =
        let y : length l < b = leb-false b (length l) e in
        let z : length (take b l) ≡ length l = whole b l (omega arith) in
        absurd (omega arith)
      where
        whole : (n : ℕ) (xs : List ℕ) → length xs ≤ n → length (take n xs) ≡ length xs
        whole zero [] p = refl
        whole zero (x ∷ xs) p = absurd (omega arith)
        whole (suc n) [] p = refl
        whole (suc n) (x ∷ xs) p = ap suc (whole n xs (omega arith))

good-at : (k : ℕ) (area : List ℕ) (i t : ℕ) → All Good (rows_of k area i) → i ≤ t → t < i + k → Good (row_at area t)
unfolding rows_of
good-at zero area i t g a b = absurd (omega arith)
good-at (suc k) area i t g a b = go (leb t i) refl (good-at k area (suc i) t g.1)
  where
    go : (x : Bool) → leb t i ≡ x → (suc i ≤ t → t < suc i + k → Good (row_at area t)) → Good (row_at area t)
    go true e ih = let z : i ≡ t = let y = leb-true t i e in omega arith in subst (λ q. Good (row_at area q)) z g.0
    go false e ih = let y : i < t = leb-false t i e in ih (omega arith) (omega arith)

-- rows that are well formed and have room fit their places
pub good-fit : (m : ℕ) (area : List ℕ) → 128 * m ≤ length area → All Good (rows_of m area 0) → RowsFit m area
good-fit m area r g = record { room = r; paths = path; values = value }
  where
    path : (i : ℕ) → i < m → get_or area (i * 128) 0 ≤ 64
    path i h = unfold row_at in
        byte-bound (get_or area (i * 128) 0) 64 (drop (i * 128 + 4) area)
        (formed-length (take (get_or area (i * 128) 0) (drop (i * 128 + 4) area)) (good-at m area 0 i g (omega arith) (omega arith)).0)
        (rw (length-drop (i * 128 + 4) area) (omega arith))

    value : (i : ℕ) → i < m → get_or area (i * 128 + 1) 0 ≤ 60
    value i h = unfold row_at in
        (let a = byte-bound (get_or area (i * 128 + 1) 0) value_limit (drop (i * 128 + 68) area)
        (value_length (take (get_or area (i * 128 + 1) 0) (drop (i * 128 + 68) area)) (good-at m area 0 i g (omega arith) (omega arith)).1)
        (rw (length-drop (i * 128 + 68) area) (omega arith)) in omega arith)

-- what `build` asks of the numbers, where they are those from 1 up
pub counted-numbers : (given : List ℕ) (n c : ℕ) → handed given ≡ numbers_from 1 c → n / 4 - 1 ≤ c → c + 1 ≤ n
    → (n / 4 - 1 ≤ length (handed given)) × (once (handed given) ≡ true) × (in_range n (handed given) ≡ true)
counted-numbers given n c e few most =
    rw e (rw (from-length 1 c) few, from-once 1 c, from-range 1 c n (omega arith) (omega arith))
