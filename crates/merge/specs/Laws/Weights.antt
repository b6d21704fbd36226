-- Entries that weigh no more than a node holds: their numbers are small, and they take so many bytes.
use Rattle.std.specs.Prelude.{ℕ, ◌+◌, ◌*◌, ◌≤◌, ◌<◌, ◌≡◌, refl, List, [], ◌∷◌, ◌++◌, Bool, true, false, ◌&&◌, cond, length, ltb, leb}
use Rattle.image.specs.Prelude.{sym, ap, ◌∙◌, arith, length-append, leb-true, leb-false, ltb-true}
use Rattle.image.specs.Bytes.{u16}
use Rattle.image.specs.Entry.{Entry, pair, child, message}
use Rattle.image.specs.Image.{nodes_of}
use Rattle.octets.specs.Order.{and_left, and_right}
use Rattle.laws.specs.Encode.{bytes_of, bytes_of_all, pair_size, child-size}
use Rattle.laws.specs.Rising.{both}
use Rattle.lookup.specs.Look.{listing, below_length}
use Rattle.merge.specs.Laws.Joined.{prefixed, prefixed_all, weight, weights, node_weight, left_more, right_more, pair_fits, small_entry, small_entries, is_child, without_child}

-- the sum never falls
pub weights-rise : (n : ℕ) (es : List Entry) (used : ℕ) → used ≤ weights n es used
unfolding weights
weights-rise n [] used = omega arith
weights-rise n (e ∷ es) used = go (ltb 1016 used) (weights-rise n es (used + weight n e))
  where
    go : (x : Bool) → used + weight n e ≤ weights n es (used + weight n e) → used ≤ cond x used (weights n es (used + weight n e))
    go true r = omega arith
    go false r = omega arith

-- one entry that is light
pub record Light (more : List ℕ) (e : Entry) : Type 0 where
  pub small : small_entry e ≡ true
  pub size : length (bytes_of (prefixed more e)) ≡ weight (length more) e

light-one : (more : List ℕ) (e : Entry) → weight (length more) e ≤ 1016 → Light more e
unfolding weight prefixed small_entry
light-one more (pair k v) h = record { small = refl; size = pair_size (more ++ k) v ∙ ap (λ z. 6 + z + length v) (length-append more k) }
light-one more (child i k) h = go (leb (length more + length k) 65 && ltb i 65536) refl h
  where
    go : (x : Bool) → leb (length more + length k) 65 && ltb i 65536 ≡ x → cond x (6 + (length more + length k)) 1017 ≤ 1016 → Light more (child i k)
    go true e g =
        record {
          small = and_right (leb (length more + length k) 65) _ e;
          size = child-size i (more ++ k) ∙ ap (λ z. 6 + z) (length-append more k) ∙ sym (ap (λ x. cond x (6 + (length more + length k)) 1017) e);
        }
    go false e g = absurd (omega arith)
light-one more (message m) h = absurd (omega arith)

-- entries that are
pub record Lights (more : List ℕ) (es : List Entry) (used total : ℕ) : Type 0 where
  pub small : small_entries es ≡ true
  pub size : used + length (bytes_of_all (prefixed_all more es)) ≡ total

pub lights : (more : List ℕ) (es : List Entry) (used : ℕ) → weights (length more) es used ≤ 1016 → Lights more es used (weights (length more) es used)
unfolding weights small_entries prefixed_all bytes_of_all
lights more [] used h = record { small = refl; size = omega arith }
lights more (e ∷ es) used h = go (ltb 1016 used) refl h (λ g. lights more es (used + weight (length more) e) g)
  where
    go : (x : Bool) → ltb 1016 used ≡ x → cond x used (weights (length more) es (used + weight (length more) e)) ≤ 1016
        → (weights (length more) es (used + weight (length more) e) ≤ 1016 → Lights more es (used + weight (length more) e) (weights (length more) es (used + weight (length more) e)))
        → Lights more (e ∷ es) used (cond (ltb 1016 used) used (weights (length more) es (used + weight (length more) e)))
    go true q g ih = let o = ltb-true 1016 used q in absurd (omega arith)
    go false q g ih =
        let r : Lights more es (used + weight (length more) e) (weights (length more) es (used + weight (length more) e)) = ih g in
        let up = weights-rise (length more) es (used + weight (length more) e) in
        let one : Light more e = light-one more e (omega arith) in
        let a = length-append (bytes_of (prefixed more e)) (bytes_of_all (prefixed_all more es)) in
        let b = one.size in
        let d = r.size in
        let z : used + length (bytes_of (prefixed more e) ++ bytes_of_all (prefixed_all more es)) ≡ weights (length more) es (used + weight (length more) e) = omega arith in
        record { small = both one.small r.small; size = z ∙ sym (ap (λ x. cond x used (weights (length more) es (used + weight (length more) e))) q) }

-- a node that is light lies in the store
pub record LightNode (more s : List ℕ) (i used total : ℕ) : Type 0 where
  pub inside : i * 1024 + 1024 ≤ length s
  pub short : u16 s (i * 1024) ≤ 1016
  pub small : small_entries (listing s i) ≡ true
  pub size : used + length (bytes_of_all (prefixed_all more (listing s i))) ≡ total

pub light-node : (more s : List ℕ) (i used : ℕ) → node_weight (length more) s i used ≤ 1016 → LightNode more s i used (node_weight (length more) s i used)
unfolding node_weight
light-node more s i used h = go (ltb i (nodes_of (length s)) && leb (u16 s (i * 1024)) 1016) refl h
  where
    go : (x : Bool) → ltb i (nodes_of (length s)) && leb (u16 s (i * 1024)) 1016 ≡ x → cond x (weights (length more) (listing s i) used) 1017 ≤ 1016
        → LightNode more s i used (cond (ltb i (nodes_of (length s)) && leb (u16 s (i * 1024)) 1016) (weights (length more) (listing s i) used) 1017)
    go true q g =
        let r = lights more (listing s i) used g in
        record {
          inside = below_length s i (and_left _ _ q);
          short = leb-true (u16 s (i * 1024)) 1016 (and_right (ltb i (nodes_of (length s))) _ q);
          small = r.small;
          size = r.size ∙ sym (ap (λ x. cond x (weights (length more) (listing s i) used) 1017) q);
        }
    go false q g = absurd (omega arith)

-- more than a node holds stays more
pub node-heavy : (n : ℕ) (s : List ℕ) (i used : ℕ) → 1016 < used → 1016 < node_weight n s i used
unfolding node_weight
node-heavy n s i used h = go (ltb i (nodes_of (length s)) && leb (u16 s (i * 1024)) 1016) (weights-rise n (listing s i) used)
  where
    go : (x : Bool) → used ≤ weights n (listing s i) used → 1016 < cond x (weights n (listing s i) used) 1017
    go true r = omega arith
    go false r = omega arith

-- TWO NEIGHBOURS THAT ONE NODE HOLDS
pub record Joinable (s : List ℕ) (a b : ℕ) (lo mid hi : List ℕ) : Type 0 where
  pub left_in : a * 1024 + 1024 ≤ length s
  pub left_short : u16 s (a * 1024) ≤ 1016
  pub left_small : small_entries (listing s a) ≡ true
  pub right_in : b * 1024 + 1024 ≤ length s
  pub right_short : u16 s (b * 1024) ≤ 1016
  pub right_small : small_entries (listing s b) ≡ true
  pub fits : length (bytes_of_all (prefixed_all (left_more lo mid hi) (listing s a))) + length (bytes_of_all (prefixed_all (right_more lo mid hi) (listing s b))) ≤ 1016

pub joinable : (s : List ℕ) (a b : ℕ) (lo mid hi : List ℕ) → pair_fits s a b lo mid hi ≡ true → Joinable s a b lo mid hi
unfolding pair_fits
joinable s a b lo mid hi e = go (leb (node_weight (length (left_more lo mid hi)) s a 0) 1016) refl
  where
    both-light : node_weight (length (right_more lo mid hi)) s b (node_weight (length (left_more lo mid hi)) s a 0) ≤ 1016
    both-light = leb-true (node_weight (length (right_more lo mid hi)) s b (node_weight (length (left_more lo mid hi)) s a 0)) 1016 e

    go : (x : Bool) → leb (node_weight (length (left_more lo mid hi)) s a 0) 1016 ≡ x → Joinable s a b lo mid hi
    go true q =
        let one = light-node (left_more lo mid hi) s a 0 (leb-true (node_weight (length (left_more lo mid hi)) s a 0) 1016 q) in
        let two = light-node (right_more lo mid hi) s b (node_weight (length (left_more lo mid hi)) s a 0) both-light in
        let d = one.size in
        let g = two.size in
        let h = both-light in
        record {
          left_in = one.inside;
          left_short = one.short;
          left_small = one.small;
          right_in = two.inside;
          right_short = two.short;
          right_small = two.small;
          fits = omega arith;
        }
    go false q =
        let w = leb-false (node_weight (length (left_more lo mid hi)) s a 0) 1016 q in
        let v = node-heavy (length (right_more lo mid hi)) s b (node_weight (length (left_more lo mid hi)) s a 0) w in
        let h = both-light in
        absurd (omega arith)

-- THE NODE ABOVE without one child
pub without-fits : (b : ℕ) (es : List Entry) → length (bytes_of_all (without_child b es)) ≤ length (bytes_of_all es)
unfolding without_child bytes_of_all
without-fits b [] = omega arith
without-fits b (e ∷ es) = go (is_child b e) (without-fits b es)
  where
    go : (x : Bool) → length (bytes_of_all (without_child b es)) ≤ length (bytes_of_all es) → length (bytes_of_all (cond x (without_child b es) (e ∷ without_child b es))) ≤ length (bytes_of e ++ bytes_of_all es)
    go true r = omega (arith, length-append (bytes_of e) (bytes_of_all es))
    go false r = omega (arith, length-append (bytes_of e) (bytes_of_all es), length-append (bytes_of e) (bytes_of_all (without_child b es)))
