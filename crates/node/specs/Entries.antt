-- The entries from a place up to another, one at a time.
use Rattle.std.specs.Prelude.{ℕ, zero, suc, ◌-◌, ◌<◌, ◌≤◌, ◌≡◌, refl, List, [], ◌∷◌, Bool, true, false, ◌&&◌, cond, length, take, drop, leb}
use Rattle.image.specs.Prelude.{ap, ◌∙◌, Option, none, some, arith, length-drop, ne_eqb}
use Rattle.image.specs.Bytes.{u16}
use Rattle.image.specs.Entry.{drops, clears, Entry, message, entry_of, entry_then, read_all, entries_of}
use Rattle.laws.specs.Encode.{fuel, shorter}
use Rattle.node.specs.Cut.{cut, cut-nil}

-- one entry of a list of bytes, and the rest
pub read-cons : (x : List ℕ) → 0 < length x → entries_of x ≡
    cond (leb 4 (length x) && leb (u16 x 0) (length x - 4))
    (entry_then (entry_of (u16 x 2) (take (u16 x 0) (drop 4 x))) (entries_of (drop (u16 x 0) (drop 4 x))))
    none
unfolding entries_of read_all
read-cons [] h = absurd (omega arith)
read-cons (b ∷ x) h =
    ap (λ r. cond (leb 4 (length (b ∷ x)) && leb (u16 (b ∷ x) 0) (length (b ∷ x) - 4))
    (entry_then (entry_of (u16 (b ∷ x) 2) (take (u16 (b ∷ x) 0) (drop 4 (b ∷ x)))) r) none)
    (fuel (length x) (length (drop (u16 (b ∷ x) 0) (drop 4 (b ∷ x)))) (drop (u16 (b ∷ x) 0) (drop 4 (b ∷ x)))
    (rw (length-drop (u16 (b ∷ x) 0) (drop 4 (b ∷ x)), length-drop 4 (b ∷ x)) (omega arith)) (omega arith))

-- The entries as far as they read: a plain list, for the readers that walk a node known to read.
unfoldable pub cons_then : Option Entry → List Entry → List Entry
cons_then none es = []
cons_then (some e) es = e ∷ es

unfoldable pub read_some : ℕ → List ℕ → List Entry
read_some zero x = []
read_some (suc more) [] = []
read_some (suc more) (b ∷ x) =
    cond (leb 4 (length (b ∷ x)) && leb (u16 (b ∷ x) 0) (length (b ∷ x) - 4))
    (cons_then (entry_of (u16 (b ∷ x) 2) (take (u16 (b ∷ x) 0) (drop 4 (b ∷ x)))) (read_some more (drop (u16 (b ∷ x) 0) (drop 4 (b ∷ x)))))
    []

unfoldable pub list_of : List ℕ → List Entry
list_of x = read_some (length x) x

unfoldable pub listed : List ℕ → ℕ → ℕ → List Entry
listed s at end = list_of (cut s at end)

fuel-some : (k j : ℕ) (s : List ℕ) → length s ≤ k → length s ≤ j → read_some k s ≡ read_some j s
unfolding read_some
fuel-some zero zero s h g = refl
fuel-some zero (suc j) [] h g = refl
fuel-some zero (suc j) (b ∷ s) h g = absurd (omega arith)
fuel-some (suc k) zero [] h g = refl
fuel-some (suc k) zero (b ∷ s) h g = absurd (omega arith)
fuel-some (suc k) (suc j) [] h g = refl
fuel-some (suc k) (suc j) (b ∷ s) h g =
    ap (λ r. cond (leb 4 (length (b ∷ s)) && leb (u16 (b ∷ s) 0) (length (b ∷ s) - 4))
    (cons_then (entry_of (u16 (b ∷ s) 2) (take (u16 (b ∷ s) 0) (drop 4 (b ∷ s)))) r) [])
    (fuel-some k j (drop (u16 (b ∷ s) 0) (drop 4 (b ∷ s))) (shorter b s k h) (shorter b s j g))

pub list-cons : (x : List ℕ) → 0 < length x → list_of x ≡
    cond (leb 4 (length x) && leb (u16 x 0) (length x - 4))
    (cons_then (entry_of (u16 x 2) (take (u16 x 0) (drop 4 x))) (list_of (drop (u16 x 0) (drop 4 x))))
    []
unfolding list_of read_some
list-cons [] h = absurd (omega arith)
list-cons (b ∷ x) h =
    ap (λ r. cond (leb 4 (length (b ∷ x)) && leb (u16 (b ∷ x) 0) (length (b ∷ x) - 4))
    (cons_then (entry_of (u16 (b ∷ x) 2) (take (u16 (b ∷ x) 0) (drop 4 (b ∷ x)))) r) [])
    (fuel-some (length x) (length (drop (u16 (b ∷ x) 0) (drop 4 (b ∷ x)))) (drop (u16 (b ∷ x) 0) (drop 4 (b ∷ x)))
    (rw (length-drop (u16 (b ∷ x) 0) (drop 4 (b ∷ x)), length-drop 4 (b ∷ x)) (omega arith)) (omega arith))

-- where they all read, the list is that of all
then-list : (o : Option Entry) (y : Option (List Entry)) (z es : List Entry) → entry_then o y ≡ some es → ((ts : List Entry) → y ≡ some ts → z ≡ ts) → cons_then o z ≡ es
unfolding entry_then cons_then
then-list none y z es h ih = let q : ◌≡◌ {A = ℕ} 0 1 = cc in absurd (omega arith)
then-list (some e) none z es h ih = let q : ◌≡◌ {A = ℕ} 0 1 = cc in absurd (omega arith)
then-list (some e) (some ts) z es h ih = let q : z ≡ ts = ih ts refl in let r : e ∷ ts ≡ es = cc in ap (λ l. e ∷ l) q ∙ r

all-some : (k : ℕ) (x : List ℕ) (es : List Entry) → read_all k x ≡ some es → read_some k x ≡ es
unfolding read_all read_some
all-some zero [] es h = cc
all-some zero (b ∷ x) es h = let q : ◌≡◌ {A = ℕ} 0 1 = cc in absurd (omega arith)
all-some (suc k) [] es h = cc
all-some (suc k) (b ∷ x) es h = go (leb 4 (length (b ∷ x)) && leb (u16 (b ∷ x) 0) (length (b ∷ x) - 4)) refl (λ ts q. all-some k (drop (u16 (b ∷ x) 0) (drop 4 (b ∷ x))) ts q)
  where
    go : (t : Bool) → leb 4 (length (b ∷ x)) && leb (u16 (b ∷ x) 0) (length (b ∷ x) - 4) ≡ t
        → ((ts : List Entry) → read_all k (drop (u16 (b ∷ x) 0) (drop 4 (b ∷ x))) ≡ some ts → read_some k (drop (u16 (b ∷ x) 0) (drop 4 (b ∷ x))) ≡ ts)
        → read_some (suc k) (b ∷ x) ≡ es
    go true e ih = rw e (then-list _ _ _ _ (rw e at h) ih)
    go false e ih = let q : none ≡ some es = rw e at h in let z : ◌≡◌ {A = ℕ} 0 1 = cc in absurd (omega arith)

pub all_listed : (x : List ℕ) (es : List Entry) → entries_of x ≡ some es → list_of x ≡ es
unfolding entries_of list_of
all_listed x es h = all-some (length x) x es h

pub listed-end : (s : List ℕ) (at end : ℕ) → end ≤ at → listed s at end ≡ []
unfolding listed list_of read_some
listed-end s at end h = rw (cut-nil s at end h)

-- an entry by its kind
module _ (kind : ℕ) (r : List ℕ) where
  pub kind-drop : kind ≡ 33 → entry_of kind r ≡ some (message (drops r))
  unfolding entry_of
  kind-drop h = rw h

  pub kind-clear : kind ≡ 34 → entry_of kind r ≡ some (message (clears r))
  unfolding entry_of
  kind-clear h = rw h

  pub kind-other : (kind ≡ 1 → ⊥) → (kind ≡ 16 → ⊥) → (kind ≡ 32 → ⊥) → (kind ≡ 33 → ⊥) → (kind ≡ 34 → ⊥) → entry_of kind r ≡ none
  unfolding entry_of
  kind-other a b c d e = rw (ne_eqb kind 1 a, ne_eqb kind 16 b, ne_eqb kind 32 c, ne_eqb kind 33 d, ne_eqb kind 34 e)
