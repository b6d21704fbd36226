-- Writing entries, and reading them back.
use Rattle.std.specs.Prelude.{ℕ, zero, suc, ◌+◌, ◌-◌, ◌/◌, ◌%◌, ◌≤◌, ◌*◌, ◌<◌, ◌≡◌, refl, List, [], ◌∷◌, ◌++◌, Bool, true, ◌&&◌, cond, false, length, take, drop, leb}
use Rattle.image.specs.Prelude.{ap, ◌∙◌, ap₂, none, some, Option, Option·none-ne-some, Option·some-injective, arith, length-append, length-drop, List·getD-append, take-append_seam, drop-append_seam, drop-append-le, take-append-le, le-leb, leb-true}
use Rattle.image.specs.Bytes.{u16, u16_bytes}
use Rattle.octets.specs.Order.{and_left, and_right}
use Rattle.image.specs.Entry.{puts, drops, clears, Entry, pair, child, message, keyed, pointer, entry_of, entry_then, read_all, entries_of}
use Rattle.laws.specs.Rising.{both}

-- the rest of an entry, and its kind
unfoldable pub rest_of : Entry → List ℕ
rest_of (pair s v) = u16_bytes (length s) ++ (s ++ v)
rest_of (child i s) = u16_bytes i ++ s
rest_of (message (puts s v)) = u16_bytes (length s) ++ (s ++ v)
rest_of (message (drops s)) = s
rest_of (message (clears s)) = s

unfoldable pub kind_of : Entry → ℕ
kind_of (pair s v) = 0x0001
kind_of (child i s) = 0x0010
kind_of (message (puts s v)) = 0x0020
kind_of (message (drops s)) = 0x0021
kind_of (message (clears s)) = 0x0022

unfoldable pub bytes_of : Entry → List ℕ
bytes_of e = u16_bytes (length (rest_of e)) ++ (u16_bytes (kind_of e) ++ rest_of e)

unfoldable pub bytes_of_all : List Entry → List ℕ
bytes_of_all [] = []
bytes_of_all (e ∷ es) = bytes_of e ++ bytes_of_all es

-- THE SAME BYTES BY THE KIND, as the writer puts them down
-- the first six bytes of a pair, a put or a child
unfoldable pub head_bytes : ℕ → ℕ → ℕ → List ℕ
head_bytes rest kind first = u16_bytes rest ++ (u16_bytes kind ++ u16_bytes first)

-- a pair or a put: u16 suffix length, suffix, value
unfoldable pub keyed_entry : ℕ → List ℕ → List ℕ → List ℕ
keyed_entry kind key value = u16_bytes (2 + length key + length value) ++ (u16_bytes kind ++ (u16_bytes (length key) ++ (key ++ value)))

-- a drop or a clear: the suffix alone
unfoldable pub short_entry : ℕ → List ℕ → List ℕ
short_entry kind key = u16_bytes (length key) ++ (u16_bytes kind ++ key)

pub keyed-length : (kind : ℕ) (key value : List ℕ) → length (keyed_entry kind key value) ≡ 6 + length key + length value
unfolding keyed_entry
keyed-length kind key value = let a = length-append key value in omega arith

pub short-length : (kind : ℕ) (key : List ℕ) → length (short_entry kind key) ≡ 4 + length key
unfolding short_entry
short-length kind key = omega arith

pub pair-entry : (key value : List ℕ) → bytes_of (pair key value) ≡ keyed_entry 1 key value
unfolding bytes_of rest_of kind_of keyed_entry
pair-entry key value =
    let z : length (u16_bytes (length key) ++ (key ++ value)) ≡ 2 + length key + length value = let n = length-append key value in omega arith in
    ap (λ n. u16_bytes n ++ (u16_bytes 1 ++ (u16_bytes (length key) ++ (key ++ value)))) z

pub put-entry : (key value : List ℕ) → bytes_of (message (puts key value)) ≡ keyed_entry 32 key value
unfolding bytes_of rest_of kind_of keyed_entry
put-entry key value =
    let z : length (u16_bytes (length key) ++ (key ++ value)) ≡ 2 + length key + length value = let n = length-append key value in omega arith in
    ap (λ n. u16_bytes n ++ (u16_bytes 32 ++ (u16_bytes (length key) ++ (key ++ value)))) z

pub drop-entry : (key : List ℕ) → bytes_of (message (drops key)) ≡ short_entry 33 key
unfolding bytes_of rest_of kind_of short_entry
drop-entry key = refl

pub clear-entry : (key : List ℕ) → bytes_of (message (clears key)) ≡ short_entry 34 key
unfolding bytes_of rest_of kind_of short_entry
clear-entry key = refl

-- an entry that the layout allows: a pivot suffix of at most 65 bytes
unfoldable pub allowed : Entry → Bool
allowed (pair s v) = true
allowed (child i s) = leb (length s) 65
allowed (message m) = true

unfoldable pub all_allowed : List Entry → Bool
all_allowed [] = true
all_allowed (e ∷ es) = allowed e && all_allowed es

u16-two : (n : ℕ) (r : List ℕ) → u16 (u16_bytes n ++ r) 0 ≡ n
unfolding u16
u16-two n r = omega arith

u16-second : (a b n : ℕ) (r : List ℕ) → u16 (a ∷ b ∷ (u16_bytes n ++ r)) 2 ≡ n
unfolding u16
u16-second a b n r = omega arith

-- an entry's rest reads back
keyed-back : (make : List ℕ → List ℕ → Entry) (s v : List ℕ) → keyed make (u16_bytes (length s) ++ (s ++ v)) ≡ some (make s v)
unfolding keyed
keyed-back make s v =
    rw (
      u16-two (length s) (s ++ v),
      length-append s v,
      le-leb 2 (suc (suc (length s + length v))) (omega arith),
      le-leb (length s) (suc (suc (length s + length v)) - 2) (omega arith),
      take-append_seam s v,
      drop-append_seam s v,
    )

pointer_back : (i : ℕ) (s : List ℕ) → length s ≤ 65 → pointer (u16_bytes i ++ s) ≡ some (child i s)
unfolding pointer
pointer_back i s h =
    rw (u16-two i s, le-leb 2 (suc (suc (length s))) (omega arith), le-leb (suc (suc (length s)) - 2) 65 (omega arith))

entry-back : (e : Entry) → allowed e ≡ true → entry_of (kind_of e) (rest_of e) ≡ some e
unfolding entry_of kind_of rest_of allowed
entry-back (pair s v) h = keyed-back pair s v
entry-back (child i s) h = pointer_back i s (leb-true (length s) 65 h)
entry-back (message (puts s v)) h = keyed-back (λ a b. message (puts a b)) s v
entry-back (message (drops s)) h = refl
entry-back (message (clears s)) h = refl

pub shorter : (b : ℕ) (s : List ℕ) (m : ℕ) → length (b ∷ s) ≤ suc m → length (drop (u16 (b ∷ s) 0) (drop 4 (b ∷ s))) ≤ m
shorter b s m h = rw (length-drop (u16 (b ∷ s) 0) (drop 4 (b ∷ s)), length-drop 4 (b ∷ s)) (omega arith)

-- more fuel than bytes changes nothing
pub fuel : (k j : ℕ) (s : List ℕ) → length s ≤ k → length s ≤ j → read_all k s ≡ read_all j s
unfolding read_all
fuel zero zero s h g = refl
fuel zero (suc j) [] h g = refl
fuel zero (suc j) (b ∷ s) h g = absurd (omega arith)
fuel (suc k) zero [] h g = refl
fuel (suc k) zero (b ∷ s) h g = absurd (omega arith)
fuel (suc k) (suc j) [] h g = refl
fuel (suc k) (suc j) (b ∷ s) h g =
    ap (λ r. cond (leb 4 (length (b ∷ s)) && leb (u16 (b ∷ s) 0) (length (b ∷ s) - 4))
    (entry_then (entry_of (u16 (b ∷ s) 2) (take (u16 (b ∷ s) 0) (drop 4 (b ∷ s)))) r) none)
    (fuel k j (drop (u16 (b ∷ s) 0) (drop 4 (b ∷ s))) (shorter b s k h) (shorter b s j g))

-- one entry in front of others
step_back : (e : Entry) (r : List ℕ) → allowed e ≡ true → entries_of (bytes_of e ++ r) ≡ entry_then (some e) (entries_of r)
unfolding entries_of bytes_of read_all
step_back e r h =
    let q : List ℕ = rest_of e ++ r in
    let x : List ℕ = u16_bytes (length (rest_of e)) ++ (u16_bytes (kind_of e) ++ q) in
    let n : length q ≡ length (rest_of e) + length r = length-append (rest_of e) r in
    let a : u16 x 0 ≡ length (rest_of e) = u16-two (length (rest_of e)) (u16_bytes (kind_of e) ++ q) in
    let b : u16 x 2 ≡ kind_of e = u16-second (length (rest_of e) % 256) (length (rest_of e) / 256) (kind_of e) q in
    rw (
      a,
      b,
      le-leb 4 (suc (suc (suc (suc (length q))))) (omega arith),
      le-leb (length (rest_of e)) (suc (suc (suc (suc (length q)))) - 4) (omega arith),
      take-append_seam (rest_of e) r,
      drop-append_seam (rest_of e) r,
      entry-back e h,
    )
    (ap (λ z. entry_then (some e) z) (fuel (suc (suc (suc (length q)))) (length r) r (omega arith) (omega arith)))

-- entries that are written read back
pub all_back : (es : List Entry) → all_allowed es ≡ true → entries_of (bytes_of_all es) ≡ some es
unfolding bytes_of_all entries_of read_all all_allowed entry_then
all_back [] h = refl
all_back (e ∷ es) h = step_back e (bytes_of_all es) (and_left _ _ h) ∙ rw (all_back es (and_right (allowed e) _ h))

pub pair_size : (s v : List ℕ) → length (bytes_of (pair s v)) ≡ 6 + length s + length v
unfolding bytes_of rest_of kind_of
pair_size s v = omega (arith, length-append s v)

pub child-size : (i : ℕ) (s : List ℕ) → length (bytes_of (child i s)) ≡ 6 + length s
unfolding bytes_of rest_of kind_of
child-size i s = omega arith

-- a number in front of bytes that follow
pub front-u16 : (x y : List ℕ) (k : ℕ) → k + 1 < length x → u16 (x ++ y) k ≡ u16 x k
unfolding u16
front-u16 x y k h = ap₂ (λ a b. a + 256 * b) (List·getD-append x y 0 k (omega arith)) (List·getD-append x y 0 (k + 1) h)

-- ENTRIES AFTER ENTRIES
pub then_append : (o : Option Entry) (q r : Option (List Entry)) (es fs : List Entry) → entry_then o q ≡ some es
    → ((ts : List Entry) → q ≡ some ts → r ≡ some (ts ++ fs)) → entry_then o r ≡ some (es ++ fs)
unfolding entry_then
then_append none q r es fs p f = absurd (Option·none-ne-some es p)
then_append (some e) none r es fs p f = absurd (Option·none-ne-some es p)
then_append (some e) (some ts) r es fs p f =
    rw (f ts refl) (ap (λ l. some (l ++ fs)) (Option·some-injective (e ∷ ts) es p))

pub reads-append : (k : ℕ) (x y : List ℕ) (es fs : List Entry) → read_all k x ≡ some es → entries_of y ≡ some fs
    → (j : ℕ) → length (x ++ y) ≤ j → read_all j (x ++ y) ≡ some (es ++ fs)
unfolding read_all entries_of
reads-append zero [] y es fs p q j h =
    fuel j (length y) y h (omega arith) ∙ q ∙ ap (λ l. some (l ++ fs)) (Option·some-injective [] es p)
reads-append (suc k) [] y es fs p q j h =
    fuel j (length y) y h (omega arith) ∙ q ∙ ap (λ l. some (l ++ fs)) (Option·some-injective [] es p)
reads-append zero (b ∷ x) y es fs p q j h = absurd (Option·none-ne-some es p)
reads-append (suc k) (b ∷ x) y es fs p q zero h = absurd (omega arith)
reads-append (suc k) (b ∷ x) y es fs p q (suc j) h =
    go (leb 4 (length (b ∷ x)) && leb (u16 (b ∷ x) 0) (length (b ∷ x) - 4)) refl (λ u ts r i l. reads-append k u y ts fs r q i l)
  where
    go : (t : Bool) → leb 4 (length (b ∷ x)) && leb (u16 (b ∷ x) 0) (length (b ∷ x) - 4) ≡ t
        → ((u : List ℕ) (ts : List Entry) → read_all k u ≡ some ts → (i : ℕ) → length (u ++ y) ≤ i → read_all i (u ++ y) ≡ some (ts ++ fs))
        → read_all (suc j) (b ∷ x ++ y) ≡ some (es ++ fs)
    go true e ih =
        let four : 4 ≤ length (b ∷ x) = leb-true 4 (length (b ∷ x)) (and_left _ _ e) in
        let rest : u16 (b ∷ x) 0 ≤ length (b ∷ x) - 4 = leb-true (u16 (b ∷ x) 0) (length (b ∷ x) - 4) (and_right (leb 4 (length (b ∷ x))) _ e) in
        let n : ℕ = u16 (b ∷ x) 0 in
        let d : List ℕ = drop 4 (b ∷ x) in
        let dl : length d ≡ length (b ∷ x) - 4 = length-drop 4 (b ∷ x) in
        let all : length (b ∷ x ++ y) ≡ length (b ∷ x) + length y = length-append (b ∷ x) y in
        let first : u16 (b ∷ x ++ y) 0 ≡ n = front-u16 (b ∷ x) y 0 (omega arith) in
        let second : u16 (b ∷ x ++ y) 2 ≡ u16 (b ∷ x) 2 = front-u16 (b ∷ x) y 2 (omega arith) in
        let dropped : drop 4 (b ∷ x ++ y) ≡ d ++ y = drop-append-le 4 (b ∷ x) y four in
        let taken : take n (d ++ y) ≡ take n d = take-append-le n d y (omega arith) in
        let left : drop n (d ++ y) ≡ drop n d ++ y = drop-append-le n d y (omega arith) in
        let small : length (drop n d ++ y) ≤ j = omega (arith, length-append (drop n d) y, length-drop n d) in
        let was : entry_then (entry_of (u16 (b ∷ x) 2) (take n d)) (read_all k (drop n d)) ≡ some es = rw e at p in
        let is : entry_then (entry_of (u16 (b ∷ x) 2) (take n d)) (read_all j (drop n d ++ y)) ≡ some (es ++ fs) =
        then_append (entry_of (u16 (b ∷ x) 2) (take n d)) (read_all k (drop n d)) (read_all j (drop n d ++ y)) es fs was (λ ts r. ih (drop n d) ts r j small) in
        ap (λ t. cond t (entry_then (entry_of (u16 (b ∷ x ++ y) 2) (take (u16 (b ∷ x ++ y) 0) (drop 4 (b ∷ x ++ y)))) (read_all j (drop (u16 (b ∷ x ++ y) 0) (drop 4 (b ∷ x ++ y))))) none)
        (both (le-leb 4 (length (b ∷ x ++ y)) (omega arith)) (le-leb (u16 (b ∷ x ++ y) 0) (length (b ∷ x ++ y) - 4) (omega arith)))
        ∙ ap₂ (λ c z. entry_then (entry_of c (take z (drop 4 (b ∷ x ++ y)))) (read_all j (drop z (drop 4 (b ∷ x ++ y))))) second first
        ∙ ap (λ z. entry_then (entry_of (u16 (b ∷ x) 2) (take n z)) (read_all j (drop n z))) dropped
        ∙ ap₂ (λ v w. entry_then (entry_of (u16 (b ∷ x) 2) v) (read_all j w)) taken left
        ∙ is
    go false e ih = let is : none ≡ some es = rw e at p in absurd (Option·none-ne-some es is)
