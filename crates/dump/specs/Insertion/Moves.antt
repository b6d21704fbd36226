-- Rows moved up, the last first: what has been moved once the rows from `at` on are. Relies on the laws of puts (`octets`, `packed`).
use Rattle.std.specs.Prelude.{ℕ, ◌+◌, ◌*◌, ◌-◌, ◌≤◌, ◌≡◌, List, ◌++◌, length, take, drop}
use Rattle.image.specs.Prelude.{sym, ap, ap₂, ◌∙◌, append_assoc, append-nil, arith, length-append, length-drop, drop_of_length-le, length-take-le, take-append-le, take-take, take-add, drop_at, drop-drop}
use Rattle.octets.specs.Put.{put, put-nil}
use Rattle.packed.specs.Build.PutLaws.{put-before}
use Rattle.dump.specs.Insertion.Insertion.{slot}

-- bytes put right in front of others
pub put-ahead : (l : List ℕ) (at : ℕ) (a b : List ℕ) → at + length a + length b ≤ length l → put (put l (at + length a) b) at a ≡ put l at (a ++ b)
unfolding put
put-ahead l at a b h =
    ap₂ (λ x y. x ++ (a ++ y)) front back ∙ ap (λ y. take at l ++ y) (sym (append_assoc a b (drop (at + length (a ++ b)) l)))
  where
    head : length (take (at + length a) l) ≡ at + length a
    head = length-take-le (at + length a) l (omega arith)

    front : take at (put l (at + length a) b) ≡ take at l
    front =
        let n = head in
        take-append-le at (take (at + length a) l) (b ++ drop (at + length a + length b) l) (omega arith) ∙ take-take at (at + length a) l (omega arith)

    back : drop (at + length a) (put l (at + length a) b) ≡ b ++ drop (at + length (a ++ b)) l
    back =
        let n = length-append a b in
        let z : at + length a + length b ≡ at + length (a ++ b) = omega arith in
        drop_at (take (at + length a) l) (b ++ drop (at + length a + length b) l) (at + length a) head ∙ ap (λ k. b ++ drop k l) z

-- a row as it is set aside
pub row-aside : (blank area : List ℕ) (t : ℕ) → length blank ≡ 128 → t * 128 + 128 ≤ length area
    → put blank 0 (take (t * 128 + 128 - t * 128) (drop (t * 128) area)) ≡ slot area t
unfolding put slot
row-aside blank area t l h =
    let d = length-drop (t * 128) area in
    let z : t * 128 + 128 - t * 128 ≡ 128 = omega arith in
    let n = length-take-le 128 (drop (t * 128) area) (omega arith) in
    ap (λ k. put blank 0 (take k (drop (t * 128) area))) z
    ∙ ap (λ y. take 128 (drop (t * 128) area) ++ y) (drop_of_length-le blank {i = 0 + length (take 128 (drop (t * 128) area))} (omega arith)) ∙ append-nil (take 128 (drop (t * 128) area))

-- the rows from `at` up to m moved up
unfoldable pub moved : List ℕ → ℕ → ℕ → ℕ → List ℕ
moved l m by at = put l ((at + by) * 128) (take ((m - at) * 128) (drop (at * 128) l))

pub move-none : (l : List ℕ) (m by : ℕ) → l ≡ moved l m by m
unfolding moved
move-none l m by = let z : (m - m) * 128 ≡ 0 = omega arith in rw z (sym (put-nil l ((m + by) * 128)))

pub move-one : (l now : List ℕ) (m by at : ℕ) → (m + by) * 128 ≤ length l → 1 ≤ by → 1 ≤ at → at ≤ m → now ≡ moved l m by at
    → put now ((at - 1 + by) * 128) (slot now (at - 1)) ≡ moved l m by (at - 1)
unfolding moved slot
move-one l now m by at h b a k e =
    let d = length-drop ((at - 1) * 128) l in
    let f = length-drop (at * 128) l in
    let n = length-take-le 128 (drop ((at - 1) * 128) l) (omega arith) in
    let s = length-take-le ((m - at) * 128) (drop (at * 128) l) (omega arith) in
    let z : (at + by) * 128 ≡ (at - 1 + by) * 128 + length (take 128 (drop ((at - 1) * 128) l)) = omega arith in
    let y : (at - 1) * 128 + 128 ≡ at * 128 = omega arith in
    let x : 128 + (m - at) * 128 ≡ (m - (at - 1)) * 128 = omega arith in
    let row : take 128 (drop ((at - 1) * 128) now) ≡ take 128 (drop ((at - 1) * 128) l) =
    ap (λ q. take 128 (drop ((at - 1) * 128) q)) e
    ∙ put-before l ((at + by) * 128) (take ((m - at) * 128) (drop (at * 128) l)) ((at - 1) * 128) 128 (omega arith) (omega arith) in
    let bytes : take 128 (drop ((at - 1) * 128) l) ++ take ((m - at) * 128) (drop (at * 128) l) ≡ take ((m - (at - 1)) * 128) (drop ((at - 1) * 128) l) =
    ap (λ q. take 128 (drop ((at - 1) * 128) l) ++ take ((m - at) * 128) (drop q l)) (sym y)
    ∙ ap (λ q. take 128 (drop ((at - 1) * 128) l) ++ take ((m - at) * 128) q) (sym (drop-drop 128 ((at - 1) * 128) l))
    ∙ sym (take-add 128 ((m - at) * 128) (drop ((at - 1) * 128) l)) ∙ ap (λ q. take q (drop ((at - 1) * 128) l)) x in
    ap₂ (λ p q. put p ((at - 1 + by) * 128) q) (e ∙ ap (λ q. put l q (take ((m - at) * 128) (drop (at * 128) l))) z) row
    ∙ put-ahead l ((at - 1 + by) * 128) (take 128 (drop ((at - 1) * 128) l)) (take ((m - at) * 128) (drop (at * 128) l)) (omega arith)
    ∙ ap (put l ((at - 1 + by) * 128)) bytes

pub move_all : (l now : List ℕ) (i m by at : ℕ) → i ≤ at → at ≤ i → now ≡ moved l m by at
    → now ≡ put l ((i + by) * 128) (take ((m - i) * 128) (drop (i * 128) l))
unfolding moved
move_all l now i m by at h k e =
    let z : at ≡ i = omega arith in
    e ∙ ap (λ q. put l ((q + by) * 128) (take ((m - q) * 128) (drop (q * 128) l))) z
