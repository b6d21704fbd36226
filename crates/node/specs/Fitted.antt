-- A path that fits the buffer of a path, and what such a buffer holds. The room is that of the longest well-formed path.
use Rattle.std.specs.Prelude.{ℕ, ◌+◌, ◌<◌, ◌≤◌, ◌≡◌, refl, List, ◌++◌, [], cond, length, take, drop, leb, true, false, Bool, replicate}
use Rattle.std.specs.Prelude as found
use Rattle.image.specs.Prelude.{Option, none, some, sym, ap, ◌∙◌, arith, length-append, take_at, le-leb, lt-leb, leb-false}
use Rattle.octets.specs.Put.{put, put-put, put-size}

-- the longest path that a buffer holds: as long as the longest well-formed path
abbrev pub room : ℕ
room = 64

-- a path that is short enough, or none
unfoldable pub fitted : List ℕ → Option (List ℕ)
fitted x = cond (leb (length x) room) (some x) none

-- the bytes of a buffer that holds x: behind it stand zeros
abbrev pub filled : List ℕ → List ℕ
filled x = put (replicate room 0) 0 x

-- the path in a buffer, if there is a buffer
abbrev pub buffer_is : found.Option (List ℕ) → Option (List ℕ)
buffer_is found.None = none
buffer_is (found.Some p) = some p

pub fits : (x : List ℕ) → length x ≤ 64 → fitted x ≡ some x
unfolding fitted
fits x h = rw (le-leb (length x) 64 h)

pub fits_not : (x : List ℕ) → 64 < length x → fitted x ≡ none
unfolding fitted
fits_not x h = rw (lt-leb (length x) 64 h)

pub joined-long : (a b : List ℕ) → 64 < length a + length b → none ≡ fitted (a ++ b)
joined-long a b h = let l = length-append a b in sym (fits_not (a ++ b) (omega arith))

-- two parts copied into a buffer, one behind the other
module _ (z a b : List ℕ) (n : ℕ) (l : length z ≡ 64) (e : n ≡ length a + length b) (h : n ≤ 64) where
  both : put (put z 0 a) (length a) b ≡ put z 0 (a ++ b)
  both = let s : length a ≡ 0 + length a = omega arith in ap (λ k. put (put z 0 a) k b) s ∙ put-put z 0 a b (omega arith)

  taken : take n (put (put z 0 a) (length a) b) ≡ a ++ b
  unfolding put
  taken = let m = length-append a b in ap (take n) both ∙ take_at (a ++ b) (drop (0 + length (a ++ b)) z) n (omega arith)

  pub joined-is : some (take n (put (put z 0 a) (length a) b)) ≡ fitted (a ++ b)
  joined-is = let m = length-append a b in ap (λ x. some x) taken ∙ sym (fits (a ++ b) (omega arith))

  pub joined-length : length (put (put z 0 a) (length a) b) ≡ 64
  joined-length = let m = length-append a b in ap length both ∙ put-size z 0 (a ++ b) (omega arith) ∙ l

  pub joined-laid : put (put z 0 a) (length a) b ≡ put z 0 (take n (put (put z 0 a) (length a) b))
  joined-laid = both ∙ ap (put z 0) (sym taken)

-- what a buffer that holds what fits tells of it
pub fitted-is : (l x : List ℕ) → some l ≡ fitted x → l ≡ x
unfolding fitted
fitted-is l x e = go (leb (length x) 64) refl
  where
    go : (b : Bool) → leb (length x) 64 ≡ b → l ≡ x
    go true f = let q : some l ≡ some x = e ∙ rw f in cc
    go false f = let q : some l ≡ none = e ∙ rw f in let z : ◌≡◌ {A = ℕ} 0 1 = cc in absurd (omega arith)

pub fitted-long : (x : List ℕ) → none ≡ fitted x → 64 < length x
unfolding fitted
fitted-long x e = go (leb (length x) 64) refl
  where
    go : (b : Bool) → leb (length x) 64 ≡ b → 64 < length x
    go true f = let q : none ≡ some x = e ∙ rw f in let z : ◌≡◌ {A = ℕ} 0 1 = cc in absurd (omega arith)
    go false f = leb-false (length x) 64 f

pub fitted-told : (o : found.Option (List ℕ)) (x : List ℕ) → buffer_is o ≡ fitted x → found.MatchOption o (64 < length x) (λ p. p ≡ x)
fitted-told found.None x e = fitted-long x e
fitted-told (found.Some p) x e = fitted-is p x e
