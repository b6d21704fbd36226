-- Step lemmas of the weighing: one entry, the entries of a node, two neighbours.
use Rattle.std.specs.Prelude.{ℕ, ◌+◌, ◌*◌, ◌<◌, ◌≤◌, ◌≡◌, refl, List, [], ◌∷◌, Bool, true, false, ◌&&◌, cond, length, take, drop, ltb, leb, Option, None, Some, is_some}
use Rattle.std.specs.Borrow.{Bor}
use Rattle.image.specs.Prelude.{sym, ap, ap₂, ◌∙◌, arith, length-append, length-drop, length-take, lt-ltb, le-ltb, le-leb, lt-leb}
use Rattle.image.specs.Bytes.{u16, shared}
use Rattle.image.specs.Entry as defined
use Rattle.image.specs.Image.{nodes_of}
use Rattle.octets.specs.Beginnings.{take_part, shared-take}
use Rattle.laws.specs.Encode.{bytes_of, bytes_of_all, pair_size, child-size}
use Rattle.laws.specs.Upkeep.Size.{size_of}
use Rattle.node.specs.Lent.{entry_is}
use Rattle.node.specs.declared.entries.Message.{Message}
use Rattle.node.specs.declared.entries.Entry.{Entry}
use Rattle.lookup.specs.Look.{listing}
use Rattle.push.specs.Laws.LeafRoom.{listing-size}
use Rattle.merge.specs.Laws.Joined.{weight, weights, node_weight, left_more, right_more, pair_fits}
use Rattle.merge.specs.Light.{Light}

-- ONE ENTRY
module _ (e : Entry) (k : ℕ) where
  pub pair_weighs : (key value : Bor (List ℕ)) → e ≡ Entry.Pair key value → 6 + (k + length key.now) + length value.now ≡ weight k (entry_is e)
  unfolding weight
  pair_weighs key value q = rw q refl

  module _ (i : ℕ) (p : Bor (List ℕ)) (q : e ≡ Entry.Child i p) where
    pub child-long : 65 < k + length p.now → 1016 < weight k (entry_is e)
    unfolding weight
    child-long h = rw (q, lt-leb (k + length p.now) 65 h) (omega arith)

    pub child-big : k + length p.now ≤ 65 → 65535 < i → 1016 < weight k (entry_is e)
    unfolding weight
    child-big h g = rw (q, le-leb (k + length p.now) 65 h, le-ltb i 65536 (omega arith)) (omega arith)

    pub child-weighs : k + length p.now ≤ 65 → i ≤ 65535 → 6 + (k + length p.now) ≡ weight k (entry_is e)
    unfolding weight
    child-weighs h g = rw (q, le-leb (k + length p.now) 65 h, lt-ltb i 65536 (omega arith)) refl

  pub message-weighs : (m : Message) → e ≡ Entry.Message m → 1016 < weight k (entry_is e)
  unfolding weight
  message-weighs m q = rw q (omega arith)

-- no entry weighs much more than its bytes and what its suffix grows by
pub weight-small : (k : ℕ) (e : defined.Entry) → weight k e ≤ 1017 + k + length (bytes_of e)
unfolding weight
weight-small k (defined.pair key v) = let z = pair_size key v in omega arith
weight-small k (defined.child i key) = let z = child-size i key in go (leb (k + length key) 65 && ltb i 65536) z
  where
    go : (b : Bool) → length (bytes_of (defined.child i key)) ≡ 6 + length key → cond b (6 + (k + length key)) 1017 ≤ 1017 + k + length (bytes_of (defined.child i key))
    go true z = omega arith
    go false z = omega arith
weight-small k (defined.message m) = omega arith

-- ENTRIES
over : (k : ℕ) (ts : List defined.Entry) (sum : ℕ) → 1016 < sum → weights k ts sum ≡ sum
unfolding weights
over k [] sum h = refl
over k (t ∷ ts) sum h = rw (lt-ltb 1016 sum h)

pub first_light : (es ts : List defined.Entry) (e : defined.Entry) → es ≡ e ∷ ts → length (bytes_of_all es) ≤ 1016 → (length (bytes_of e) ≤ 1016) × (length (bytes_of_all ts) ≤ 1016)
unfolding bytes_of_all
first_light es ts e q h = let a = ap (λ l. length (bytes_of_all l)) q in let b = length-append (bytes_of e) (bytes_of_all ts) in (omega arith, omega arith)

module _ (k : ℕ) (es : List defined.Entry) (sum total : ℕ) (inv : weights k es sum ≡ total) where
  pub weighs-none : es ≡ [] → sum ≡ total
  unfolding weights
  weighs-none e = sym (ap (λ l. weights k l sum) e) ∙ inv

  module _ (e : defined.Entry) (ts : List defined.Entry) (q : es ≡ e ∷ ts) (h : sum ≤ 1016) where
    weighs-then : weights k ts (sum + weight k e) ≡ total
    unfolding weights
    weighs-then = sym (ap (λ l. weights k l sum) q ∙ rw (le-ltb 1016 sum h)) ∙ inv

    pub weighs-on : (w : ℕ) → w ≡ weight k e → weights k ts (sum + w) ≡ total
    weighs-on w g = ap (λ z. weights k ts (sum + z)) g ∙ weighs-then

    pub weighs-over : 1016 < sum + weight k e → 1016 < total
    weighs-over g = let z = over k ts (sum + weight k e) g in let w = weighs-then in omega arith

-- A NODE
pub listed-light : (s : List ℕ) (i : ℕ) (es : List defined.Entry) → es ≡ listing s i → u16 s (i * 1024) ≤ 1016 → length (bytes_of_all es) ≤ 1016
unfolding size_of
listed-light s i es q h = let a = ap (λ l. length (bytes_of_all l)) q in let b : length (bytes_of_all (listing s i)) ≤ u16 s (i * 1024) = listing-size s i in omega arith

module _ (k : ℕ) (s : List ℕ) (i used : ℕ) where
  pub node-out : nodes_of (length s) ≤ i → 1016 < node_weight k s i used
  unfolding node_weight
  node-out h = rw (le-ltb i (nodes_of (length s)) h) (omega arith)

  pub node-long : i < nodes_of (length s) → 1016 < u16 s (i * 1024) → 1016 < node_weight k s i used
  unfolding node_weight
  node-long h g = rw (lt-ltb i (nodes_of (length s)) h, lt-leb (u16 s (i * 1024)) 1016 g) (omega arith)

  pub node-weighs : (es : List defined.Entry) → es ≡ listing s i → i < nodes_of (length s) → u16 s (i * 1024) ≤ 1016 → weights k es used ≡ node_weight k s i used
  unfolding node_weight
  node-weighs es q h g = ap (λ l. weights k l used) q ∙ sym (rw (lt-ltb i (nodes_of (length s)) h, le-leb (u16 s (i * 1024)) 1016 g))

  pub node-over : 1016 < used → 1016 < node_weight k s i used
  unfolding node_weight
  node-over h = go (ltb i (nodes_of (length s)) && leb (u16 s (i * 1024)) 1016)
    where
      go : (b : Bool) → 1016 < cond b (weights k (listing s i) used) 1017
      go true = let z = over k (listing s i) used h in omega arith
      go false = omega arith

-- TWO NEIGHBOURS
-- what one lifts, as the part of its low pivot
pub lifted-part : (lo hi l : List ℕ) (n : ℕ) → n ≡ length (shared lo hi) → l ≡ take n lo → l ≡ shared lo hi
lifted-part lo hi l n e q = q ∙ take_part lo hi n e

shared-short : (lo hi : List ℕ) (n : ℕ) → length (drop n (shared lo hi)) ≤ length lo
shared-short lo hi n =
    let a = length-drop n (shared lo hi) in let b = ap length (shared-take lo hi) in let c = length-take (length (shared lo hi)) lo in omega arith

pub left-short : (lo mid hi l : List ℕ) → l ≡ left_more lo mid hi → length lo ≤ 2000000 → length l ≤ 2000000
unfolding left_more
left-short lo mid hi l e h = let a = shared-short lo mid (length (shared lo hi)) in let b = ap length e in omega arith

pub right-short : (lo mid hi l : List ℕ) → l ≡ right_more lo mid hi → length mid ≤ 2000000 → length l ≤ 2000000
unfolding right_more
right-short lo mid hi l e h = let a = shared-short mid hi (length (shared lo hi)) in let b = ap length e in omega arith

module _ (s : List ℕ) (a b : ℕ) (lo mid hi l r : List ℕ) (el : l ≡ left_more lo mid hi) (er : r ≡ right_more lo mid hi) where
  weights-are : leb (node_weight (length r) s b (node_weight (length l) s a 0)) 1016 ≡ pair_fits s a b lo mid hi
  unfolding pair_fits
  weights-are = ap₂ (λ p q. leb (node_weight (length q) s b (node_weight (length p) s a 0)) 1016) el er

  pub one-heavy : 1016 < node_weight (length l) s a 0 → false ≡ pair_fits s a b lo mid hi
  one-heavy h = sym (lt-leb (node_weight (length r) s b (node_weight (length l) s a 0)) 1016 (node-over (length r) s b (node_weight (length l) s a 0) h)) ∙ weights-are

  module _ (one : ℕ) (e : one ≡ node_weight (length l) s a 0) where
    as-one : leb (node_weight (length r) s b one) 1016 ≡ pair_fits s a b lo mid hi
    as-one = ap (λ z. leb (node_weight (length r) s b z) 1016) e ∙ weights-are

    pub both-told : (w : Option ℕ) → Light (node_weight (length r) s b one) w → is_some w ≡ pair_fits s a b lo mid hi
    both-told None h = sym (lt-leb (node_weight (length r) s b one) 1016 h) ∙ as-one
    both-told (Some n) h = let q = h.0 in let z = h.1 in sym (le-leb (node_weight (length r) s b one) 1016 (omega arith)) ∙ as-one
