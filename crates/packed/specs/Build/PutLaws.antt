-- What a put leaves of the bytes before it and behind it, and that its own bytes are there.
-- Relies on octets/specs/Put.
use Rattle.std.specs.Prelude.{ℕ, ◌+◌, ◌-◌, ◌≤◌, ◌<◌, ◌≡◌, List, ◌++◌, length, take, drop, get_or}
use Rattle.image.specs.Prelude.{sym, ap, ◌∙◌, append_assoc, arith, length-append, length-drop, take-append-drop, length-take-le, drop-drop, drop-append-le, take-append-le, drop-append-add, drop_at, take-append_seam, get_or-take, get_or-drop}
use Rattle.octets.specs.Put.{put}

-- a part before a seam
front : (t u : List ℕ) (a n : ℕ) → a + n ≤ length t → take n (drop a (t ++ u)) ≡ take n (drop a t)
front t u a n h =
    ap (take n) (drop-append-le a t u (omega arith)) ∙ take-append-le n (drop a t) u (rw (length-drop a t) (omega arith))

pub put-before : (l : List ℕ) (at : ℕ) (bs : List ℕ) (a n : ℕ) → a + n ≤ at → at ≤ length l → take n (drop a (put l at bs)) ≡ take n (drop a l)
unfolding put
put-before l at bs a n h k =
    let s = length-take-le at l k in
    front (take at l) (bs ++ drop (at + length bs) l) a n (omega arith)
    ∙ sym (front (take at l) (drop at l) a n (omega arith))
    ∙ ap (λ x. take n (drop a x)) (take-append-drop at l)

pub put-after : (l : List ℕ) (at : ℕ) (bs : List ℕ) (a : ℕ) → at + length bs ≤ a → at + length bs ≤ length l → drop a (put l at bs) ≡ drop a l
unfolding put
put-after l at bs a h k =
    let s = length-take-le at l (omega arith) in
    let n = length-append (take at l) bs in
    let z : a ≡ length (take at l ++ bs) + (a - (at + length bs)) = omega arith in
    let y : a - (at + length bs) + (at + length bs) ≡ a = omega arith in
    ap (drop a) (sym (append_assoc (take at l) bs (drop (at + length bs) l)))
    ∙ ap (λ k. drop k ((take at l ++ bs) ++ drop (at + length bs) l)) z
    ∙ drop-append-add (take at l ++ bs) (drop (at + length bs) l) (a - (at + length bs))
    ∙ drop-drop (a - (at + length bs)) (at + length bs) l
    ∙ ap (λ k. drop k l) (let x : at + length bs + (a - (at + length bs)) ≡ a = omega arith in x)

pub put_same : (l : List ℕ) (at : ℕ) (bs : List ℕ) → at ≤ length l → take (length bs) (drop at (put l at bs)) ≡ bs
unfolding put
put_same l at bs h =
    ap (take (length bs)) (drop_at (take at l) (bs ++ drop (at + length bs) l) at (length-take-le at l h))
    ∙ take-append_seam bs (drop (at + length bs) l)

-- a byte of a part
pub byte_at : (l : List ℕ) (a n p : ℕ) → p < n → get_or (take n (drop a l)) p 0 ≡ get_or l (a + p) 0
byte_at l a n p h = get_or-take n (drop a l) p 0 h ∙ get_or-drop a l p 0

pub byte-same : (l l' : List ℕ) (a p : ℕ) → p ≡ a + 0 → take 1 (drop a l) ≡ take 1 (drop a l') → get_or l p 0 ≡ get_or l' p 0
byte-same l l' a p z e =
    ap (λ q. get_or l q 0) z ∙ sym (byte_at l a 1 0 (omega arith)) ∙ ap (λ x. get_or x 0 0) e ∙ byte_at l' a 1 0 (omega arith) ∙ ap (λ q. get_or l' q 0) (sym z)
