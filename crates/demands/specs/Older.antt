-- Request S-2: an image made before it, whose values have at most 32 bytes, is sound as it was. `sound_within` is `sound` of image/Sound with the limit
-- of a value given: at today's limit it is `sound`, and a higher limit refuses no image that a lower one takes. Relies on the definitions (image) and on the laws of &&.
use Rattle.std.specs.Prelude.{ℕ, ◌≤◌, ◌≡◌, refl, List, [], ◌∷◌, ◌++◌, Bool, true, false, ◌&&◌, length, eqb, leb}
use Rattle.image.specs.Prelude.{sym, ap, ◌∙◌, arith, leb-true, le-leb}
use Rattle.image.specs.Bytes.{before, shared}
use Rattle.image.specs.Path.{well_formed, owns, value_limit, value_fits}
use Rattle.image.specs.Entry.{Message, puts, drops, clears}
use Rattle.image.specs.Table.{Row, every_key, rising, under_prefix}
use Rattle.image.specs.Image.{Tree, unread, leaf, interior, Forest, end, tree, header_of, header_laid_out, node_bytes, nodes_of, tree_of}
use Rattle.image.specs.Meaning.{high_of, rows}
use Rattle.image.specs.Sound.{lowest, highest, values_fit, sound_message, sound_messages, first_pivot, sound_tree, sound_forest, numbers, once, in_range, sound_header, sound_root, sound}
use Rattle.octets.specs.Order.{and_left, and_right}
use Rattle.laws.specs.Rising.{both}

-- The rules of Sound that look at a value, with its limit given; what does not is cited from there.
unfoldable pub values_within : ℕ → List Row → Bool
values_within limit [] = true
values_within limit (r ∷ t) = leb (length r.value) limit && values_within limit t

unfoldable pub messages_within : ℕ → List ℕ → List ℕ → List Message → Bool
messages_within limit lo hi [] = true
messages_within limit lo hi (puts s v ∷ ms) =
    (well_formed (shared lo hi ++ s) && owns lo hi (shared lo hi ++ s) && leb (length v) limit) && messages_within limit lo hi ms
messages_within limit lo hi (drops s ∷ ms) = sound_message lo hi (drops s) && messages_within limit lo hi ms
messages_within limit lo hi (clears s ∷ ms) = sound_message lo hi (clears s) && messages_within limit lo hi ms

unfoldable mutual
  pub tree_within : ℕ → Tree → List ℕ → List ℕ → Bool
  tree_within limit (unread i) lo hi = false
  tree_within limit (leaf i rs) lo hi =
      every_key well_formed (under_prefix (shared lo hi) rs) && every_key (owns lo hi) (under_prefix (shared lo hi) rs)
      && rising rs && values_within limit rs
  tree_within limit (interior i f ms) lo hi =
      first_pivot (shared lo hi) lo f && forest_within limit f (shared lo hi) lo hi && messages_within limit lo hi ms

  pub forest_within : ℕ → Forest → List ℕ → List ℕ → List ℕ → Bool
  forest_within limit end lifted lo hi = true
  forest_within limit (tree s t f) lifted lo hi =
      owns lo hi (lifted ++ s) && before (lifted ++ s) (high_of lifted hi f)
      && tree_within limit t (lifted ++ s) (high_of lifted hi f) && forest_within limit f lifted lo hi

unfoldable pub sound_within : ℕ → List ℕ → Bool
sound_within limit image =
    let n = nodes_of (length image) in
    let t = tree_of image in
    header_laid_out (node_bytes image 0) && sound_header n (header_of image)
    && (tree_within limit t lowest highest && once (numbers t) && in_range n (numbers t) && eqb (header_of image).live (length (rows t lowest highest)))

-- At today's limit these are the rules of Sound.
values-now : (t : List Row) → values_within value_limit t ≡ values_fit t
unfolding values_within values_fit value_fits
values-now [] = refl
values-now (r ∷ t) = ap (λ b. leb (length r.value) value_limit && b) (values-now t)

messages-now : (lo hi : List ℕ) (ms : List Message) → messages_within value_limit lo hi ms ≡ sound_messages lo hi ms
unfolding messages_within sound_messages sound_message value_fits
messages-now lo hi [] = refl
messages-now lo hi (puts s v ∷ ms) = ap (λ b. (well_formed (shared lo hi ++ s) && owns lo hi (shared lo hi ++ s) && leb (length v) value_limit) && b) (messages-now lo hi ms)
messages-now lo hi (drops s ∷ ms) = ap (λ b. sound_message lo hi (drops s) && b) (messages-now lo hi ms)
messages-now lo hi (clears s ∷ ms) = ap (λ b. sound_message lo hi (clears s) && b) (messages-now lo hi ms)

mutual
  unfolding tree_within forest_within sound_tree sound_forest

  tree-now : (t : Tree) (lo hi : List ℕ) → tree_within value_limit t lo hi ≡ sound_tree t lo hi
  tree-now (unread i) lo hi = refl
  tree-now (leaf i rs) lo hi = rw (values-now rs)
  tree-now (interior i f ms) lo hi = rw (forest-now f (shared lo hi) lo hi, messages-now lo hi ms)

  forest-now : (f : Forest) (lifted lo hi : List ℕ) → forest_within value_limit f lifted lo hi ≡ sound_forest f lifted lo hi
  forest-now end lifted lo hi = refl
  forest-now (tree s t f) lifted lo hi = rw (tree-now t (lifted ++ s) (high_of lifted hi f), forest-now f lifted lo hi)

pub within-now : (image : List ℕ) → sound_within value_limit image ≡ sound image
unfolding sound_within sound sound_root
within-now image = rw (tree-now (tree_of image) lowest highest)

-- A higher limit takes what a lower one takes.
module _ {low high : ℕ} (more : low ≤ high) where
  length_more : (v : List ℕ) → leb (length v) low ≡ true → leb (length v) high ≡ true
  length_more v e = le-leb (length v) high (let l = leb-true (length v) low e in omega arith)

  values-more : (t : List Row) → values_within low t ≡ true → values_within high t ≡ true
  unfolding values_within
  values-more [] e = refl
  values-more (r ∷ t) e = both (length_more r.value (and_left _ _ e)) (values-more t (and_right (leb (length r.value) low) _ e))

  messages-more : (lo hi : List ℕ) (ms : List Message) → messages_within low lo hi ms ≡ true → messages_within high lo hi ms ≡ true
  unfolding messages_within
  messages-more lo hi [] e = refl
  messages-more lo hi (puts s v ∷ ms) e =
      let owned : Bool = well_formed (shared lo hi ++ s) && owns lo hi (shared lo hi ++ s) in
      let here : owned && leb (length v) low ≡ true = and_left _ _ e in
      both (both (and_left owned _ here) (length_more v (and_right owned _ here))) (messages-more lo hi ms (and_right (owned && leb (length v) low) _ e))
  messages-more lo hi (drops s ∷ ms) e = both (and_left (sound_message lo hi (drops s)) _ e) (messages-more lo hi ms (and_right (sound_message lo hi (drops s)) _ e))
  messages-more lo hi (clears s ∷ ms) e = both (and_left (sound_message lo hi (clears s)) _ e) (messages-more lo hi ms (and_right (sound_message lo hi (clears s)) _ e))

  mutual
    unfolding tree_within forest_within

    tree-more : (t : Tree) (lo hi : List ℕ) → tree_within low t lo hi ≡ true → tree_within high t lo hi ≡ true
    tree-more (unread i) lo hi e = e
    tree-more (leaf i rs) lo hi e =
        let keys : Bool = every_key well_formed (under_prefix (shared lo hi) rs) && every_key (owns lo hi) (under_prefix (shared lo hi) rs) && rising rs in
        both (and_left keys _ e) (values-more rs (and_right keys _ e))
    tree-more (interior i f ms) lo hi e =
        let first : Bool = first_pivot (shared lo hi) lo f in
        let front : first && forest_within low f (shared lo hi) lo hi ≡ true = and_left _ _ e in
        both (both (and_left first _ front) (forest-more f (shared lo hi) lo hi (and_right first _ front)))
        (messages-more lo hi ms (and_right (first && forest_within low f (shared lo hi) lo hi) _ e))

    forest-more : (f : Forest) (lifted lo hi : List ℕ) → forest_within low f lifted lo hi ≡ true → forest_within high f lifted lo hi ≡ true
    forest-more end lifted lo hi e = refl
    forest-more (tree s t f) lifted lo hi e =
        let pivots : Bool = owns lo hi (lifted ++ s) && before (lifted ++ s) (high_of lifted hi f) in
        let below : Bool = tree_within low t (lifted ++ s) (high_of lifted hi f) in
        let front : pivots && below ≡ true = and_left _ _ e in
        both (both (and_left pivots _ front) (tree-more t (lifted ++ s) (high_of lifted hi f) (and_right pivots _ front)))
        (forest-more f lifted lo hi (and_right (pivots && below) _ e))

  pub within_more : (image : List ℕ) → sound_within low image ≡ true → sound_within high image ≡ true
  unfolding sound_within
  within_more image e =
      let n : ℕ = nodes_of (length image) in
      let t : Tree = tree_of image in
      let header : Bool = header_laid_out (node_bytes image 0) && sound_header n (header_of image) in
      let root : tree_within low t lowest highest && once (numbers t) && in_range n (numbers t) && eqb (header_of image).live (length (rows t lowest highest)) ≡ true
      = and_right header _ e in
      let three : tree_within low t lowest highest && once (numbers t) && in_range n (numbers t) ≡ true = and_left _ _ root in
      let two : tree_within low t lowest highest && once (numbers t) ≡ true = and_left _ _ three in
      both (and_left header _ e)
      (both (both (both (tree-more t lowest highest (and_left _ _ two)) (and_right (tree_within low t lowest highest) _ two))
      (and_right (tree_within low t lowest highest && once (numbers t)) _ three)) (and_right (tree_within low t lowest highest && once (numbers t) && in_range n (numbers t)) _ root))

-- the limit of document 01
abbrev pub older_limit : ℕ
older_limit = 32

-- What such an image means depends on no limit: there is none in `table_of`.
pub older-sound : (image : List ℕ) → sound_within older_limit image ≡ true → sound image ≡ true
older-sound image e = sym (within-now image) ∙ within_more (omega arith) image e
