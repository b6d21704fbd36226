-- Bytes put into a page at a place: what every writer of bytes leaves, and its laws (one put after another is one put).
use Rattle.std.specs.Prelude.{ℕ, zero, suc, ◌+◌, ◌/◌, ◌%◌, ◌≤◌, ◌<◌, ◌-◌, ◌≡◌, refl, List, [], ◌∷◌, ◌++◌, length, take, drop, get_or, set, replicate}
use Rattle.image.specs.Prelude.{sym, ap, ap₂, ◌∙◌, append_assoc, arith, length-append, length-drop, take-append-drop, length-replicate, List·getD-append, set_split, take-suc, length-take-le, drop-drop, drop-append-add, take_at, get_or-append-add}
use Rattle.image.specs.Bytes.{u16_bytes, u16}

-- the bytes bs in place of as many bytes of the page, from `at` on
unfoldable pub put : List ℕ → ℕ → List ℕ → List ℕ
put page at bs = take at page ++ (bs ++ drop (at + length bs) page)

pub put-size : (page : List ℕ) (at : ℕ) (bs : List ℕ) → at + length bs ≤ length page → length (put page at bs) ≡ length page
unfolding put
put-size page at bs h =
    let a = length-append (take at page) (bs ++ drop (at + length bs) page) in
    let b = length-append bs (drop (at + length bs) page) in
    let c = length-drop (at + length bs) page in
    let d = length-take-le at page (omega arith) in
    omega arith

pub put-nil : (page : List ℕ) (at : ℕ) → put page at [] ≡ page
unfolding put
put-nil page at = let z : at + 0 ≡ at = omega arith in ap (λ k. take at page ++ drop k page) z ∙ take-append-drop at page

-- one after the other
pub put-put : (page : List ℕ) (at : ℕ) (a b : List ℕ) → at + length a + length b ≤ length page → put (put page at a) (at + length a) b ≡ put page at (a ++ b)
unfolding put
put-put page at a b h =
    ap₂ (λ x y. x ++ (b ++ y)) front back
    ∙ append_assoc (take at page) a (b ++ drop (at + length (a ++ b)) page)
    ∙ ap (λ l. take at page ++ l) (sym (append_assoc a b (drop (at + length (a ++ b)) page)))
  where
    head-length : length (take at page ++ a) ≡ at + length a
    head-length = length-append (take at page) a ∙ ap (λ n. n + length a) (length-take-le at page (omega arith))

    parts : put page at a ≡ (take at page ++ a) ++ drop (at + length a) page
    parts = sym (append_assoc (take at page) a (drop (at + length a) page))

    front : take (at + length a) (put page at a) ≡ take at page ++ a
    front = ap (take (at + length a)) parts ∙ take_at (take at page ++ a) (drop (at + length a) page) (at + length a) head-length

    back : drop (at + length a + length b) (put page at a) ≡ drop (at + length (a ++ b)) page
    back =
        let z : at + length a + length b ≡ length (take at page ++ a) + length b = let q = head-length in omega arith in
        let y : at + length a + length b ≡ at + length (a ++ b) = let q = length-append a b in omega arith in
        ap₂ (λ n l. drop n l) z parts
        ∙ drop-append-add (take at page ++ a) (drop (at + length a) page) (length b)
        ∙ drop-drop (length b) (at + length a) page
        ∙ ap (λ n. drop n page) y

pub put_one : (page : List ℕ) (at v : ℕ) → at < length page → set page at v ≡ put page at (v ∷ [])
unfolding put
put_one page at v h = let z : suc at ≡ at + 1 = omega arith in set_split page at v h ∙ ap (λ n. take at page ++ (v ∷ drop n page)) z

-- the step of a copy
pub put-more : (page now : List ℕ) (at : ℕ) (src : List ℕ) (i : ℕ) → at + length src ≤ length page → i < length src → now ≡ put page at (take i src)
    → set now (at + i) (get_or src i 0) ≡ put page at (take (i + 1) src)
put-more page now at src i h k e =
    let n = length-take-le i src (omega arith) in
    let s = put-size page at (take i src) (omega arith) in
    let z : at + i ≡ at + length (take i src) = omega arith in
    let y : i + 1 ≡ suc i = omega arith in
    ap (λ p. set p (at + i) (get_or src i 0)) e
    ∙ put_one (put page at (take i src)) (at + i) (get_or src i 0) (omega arith)
    ∙ ap (λ q. put (put page at (take i src)) q (get_or src i 0 ∷ [])) z
    ∙ put-put page at (take i src) (get_or src i 0 ∷ []) (omega arith)
    ∙ ap (put page at) (sym (take-suc src i 0 k) ∙ ap (λ q. take q src) (sym y))

pub put_two : (page : List ℕ) (at v : ℕ) → at + 2 ≤ length page → set (set page at (v % 256)) (at + 1) (v / 256) ≡ put page at (u16_bytes v)
put_two page at v h =
    let e = put_one page at (v % 256) (omega arith) in
    let s = put-size page at (v % 256 ∷ []) (omega arith) in
    ap (λ p. set p (at + 1) (v / 256)) e
    ∙ put_one (put page at (v % 256 ∷ [])) (at + 1) (v / 256) (omega arith)
    ∙ put-put page at (v % 256 ∷ []) (v / 256 ∷ []) (omega arith)

-- the step of a fill
pub put_fill : (page : List ℕ) (at count v i : ℕ) → at + count ≤ length page → i < count
    → set (put page at (replicate i v)) (at + i) v ≡ put page at (replicate (i + 1) v)
put_fill page at count v i h k =
    let n : length (replicate i v) ≡ i = length-replicate i v in
    let s = put-size page at (replicate i v) (omega arith) in
    let z : at + i ≡ at + length (replicate i v) = omega arith in
    let y : i + 1 ≡ suc i = omega arith in
    put_one (put page at (replicate i v)) (at + i) v (omega arith)
    ∙ ap (λ q. put (put page at (replicate i v)) q (v ∷ [])) z
    ∙ put-put page at (replicate i v) (v ∷ []) (omega arith)
    ∙ ap (put page at) (replicate_more i v ∙ ap (λ q. replicate q v) (sym y))
  where
    replicate_more : (i v : ℕ) → replicate i v ++ (v ∷ []) ≡ replicate (suc i) v
    replicate_more zero v = refl
    replicate_more (suc i) v = ap (λ l. v ∷ l) (replicate_more i v)

-- the same for a page that is known to be filled so far
module _ (page now : List ℕ) (at count v i : ℕ) (filled : now ≡ put page at (replicate i v)) where
  pub fill_more : at + count ≤ length page → i < count → set now (at + i) v ≡ put page at (replicate (i + 1) v)
  fill_more h k = ap (λ p. set p (at + i) v) filled ∙ put_fill page at count v i h k

pub get-there : (page : List ℕ) (at : ℕ) (bs : List ℕ) (j : ℕ) → at ≤ length page → j < length bs → get_or (put page at bs) (at + j) 0 ≡ get_or bs j 0
unfolding put
get-there page at bs j h k =
    let q = length-take-le at page h in
    let z : at + j ≡ length (take at page) + j = omega arith in
    ap (λ n. get_or (take at page ++ (bs ++ drop (at + length bs) page)) n 0) z
    ∙ get_or-append-add (take at page) (bs ++ drop (at + length bs) page) j 0
    ∙ List·getD-append bs (drop (at + length bs) page) 0 j k

pub u16-there : (page : List ℕ) (at v : ℕ) → at ≤ length page → u16 (put page at (u16_bytes v)) at ≡ v
unfolding u16
u16-there page at v h =
    let z : at + 0 ≡ at = omega arith in
    let a : get_or (put page at (u16_bytes v)) at 0 ≡ v % 256 = ap (λ n. get_or (put page at (u16_bytes v)) n 0) (sym z) ∙ get-there page at (u16_bytes v) 0 h (omega arith) in
    let b : get_or (put page at (u16_bytes v)) (at + 1) 0 ≡ v / 256 = get-there page at (u16_bytes v) 1 h (omega arith) in
    omega arith

-- a part from the start on, as it is made
pub front-is : (n : ℕ) (l : List ℕ) → take (n - 0) (drop 0 l) ≡ take n l
front-is n l = let e : n - 0 ≡ n = omega arith in rw e

-- the part that is lent of a buffer's bytes
pub taken-size : (n : ℕ) (bytes : List ℕ) → n ≤ length bytes → length (take (n - 0) (drop 0 bytes)) ≡ n
taken-size n bytes h = length-take-le (n - 0) bytes (omega arith) ∙ omega arith
