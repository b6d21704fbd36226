-- All that makes an image sound but its live count: what holds between the write of a message and the write of the new count.
-- Relies on image's `sound`.
use Rattle.std.specs.Prelude.{ℕ, ◌≤◌, ◌<◌, ◌≡◌, List, Bool, true, ◌&&◌, length, ltb, leb, eqb}
use Rattle.image.specs.Prelude.{sym, ◌∙◌, ltb-true, leb-true, eqb-true, lt-ltb, le-leb, eq-eqb}
use Rattle.image.specs.Image.{Header, node_bytes, nodes_of, header_of, header_laid_out, tree_of}
use Rattle.image.specs.Meaning.{rows}
use Rattle.image.specs.Sound.{sound, sound_tree, sound_root, sound_header, once, in_range, numbers, lowest, highest, table_of}
use Rattle.octets.specs.Order.{and_left, and_right, and_assoc}
use Rattle.laws.specs.Rising.{both}

unfoldable pub sound_head : List ℕ → Bool
sound_head image = header_laid_out (node_bytes image 0) && sound_header (nodes_of (length image)) (header_of image)

unfoldable pub sound_nodes : List ℕ → Bool
sound_nodes image = sound_tree (tree_of image) lowest highest && once (numbers (tree_of image)) && in_range (nodes_of (length image)) (numbers (tree_of image))

unfoldable pub sound_but_live : List ℕ → Bool
sound_but_live image = sound_head image && sound_nodes image

-- sound is all but the live count, and the live count
pub sound-live : (image : List ℕ) → sound image ≡ sound_but_live image && eqb (header_of image).live (length (table_of image))
unfolding sound sound_root sound_but_live sound_head sound_nodes table_of
sound-live image =
    sym (and_assoc (header_laid_out (node_bytes image 0) && sound_header (nodes_of (length image)) (header_of image))
    (sound_tree (tree_of image) lowest highest && once (numbers (tree_of image)) && in_range (nodes_of (length image)) (numbers (tree_of image)))
    (eqb (header_of image).live (length (rows (tree_of image) lowest highest))))

pub sound-but-live : (image : List ℕ) → sound image ≡ true → sound_but_live image ≡ true
sound-but-live image e = and_left (sound_but_live image) (eqb (header_of image).live (length (table_of image))) (sym (sound-live image) ∙ e)

pub live-sound : (image : List ℕ) → sound_but_live image ≡ true → (header_of image).live ≡ length (table_of image) → sound image ≡ true
live-sound image e h = sound-live image ∙ both e (eq-eqb (header_of image).live (length (table_of image)) h)

-- the same as facts: what a proof takes a sound image apart by
pub record SoundParts (image : List ℕ) : Type 0 where
  pub laid : header_laid_out (node_bytes image 0) ≡ true
  pub count : (header_of image).count ≡ nodes_of (length image)
  pub root_low : 1 ≤ (header_of image).root
  pub root_high : (header_of image).root < nodes_of (length image)
  pub levels_low : 1 ≤ (header_of image).levels
  pub levels_high : (header_of image).levels ≤ 8
  pub live_high : (header_of image).live ≤ nodes_of (length image)
  pub tree : sound_tree (tree_of image) lowest highest ≡ true
  pub once : once (numbers (tree_of image)) ≡ true
  pub range : in_range (nodes_of (length image)) (numbers (tree_of image)) ≡ true

pub parts_of : (image : List ℕ) → sound_but_live image ≡ true → SoundParts image
unfolding sound_but_live sound_head sound_nodes sound_header
parts_of image e =
    let n : ℕ = nodes_of (length image) in
    let h : Header = header_of image in
    let head : header_laid_out (node_bytes image 0) && sound_header n h ≡ true = and_left _ _ e in
    let nodes : sound_tree (tree_of image) lowest highest && once (numbers (tree_of image)) && in_range n (numbers (tree_of image)) ≡ true =
    and_right (header_laid_out (node_bytes image 0) && sound_header n h) _ e in
    let two : sound_tree (tree_of image) lowest highest && once (numbers (tree_of image)) ≡ true = and_left _ _ nodes in
    let six : sound_header n h ≡ true = and_right (header_laid_out (node_bytes image 0)) _ head in
    let five : eqb h.count n && leb 1 h.root && ltb h.root n && leb 1 h.levels && leb h.levels 8 ≡ true = and_left _ _ six in
    let four : eqb h.count n && leb 1 h.root && ltb h.root n && leb 1 h.levels ≡ true = and_left _ _ five in
    let three : eqb h.count n && leb 1 h.root && ltb h.root n ≡ true = and_left _ _ four in
    let pair : eqb h.count n && leb 1 h.root ≡ true = and_left _ _ three in
    record {
      laid = and_left (header_laid_out (node_bytes image 0)) _ head;
      count = eqb-true h.count n (and_left (eqb h.count n) _ pair);
      root_low = leb-true 1 h.root (and_right (eqb h.count n) _ pair);
      root_high = ltb-true h.root n (and_right (eqb h.count n && leb 1 h.root) _ three);
      levels_low = leb-true 1 h.levels (and_right (eqb h.count n && leb 1 h.root && ltb h.root n) _ four);
      levels_high = leb-true h.levels 8 (and_right (eqb h.count n && leb 1 h.root && ltb h.root n && leb 1 h.levels) _ five);
      live_high =
          leb-true h.live n (and_right (eqb h.count n && leb 1 h.root && ltb h.root n && leb 1 h.levels && leb h.levels 8) _ six);
      tree = and_left (sound_tree (tree_of image) lowest highest) _ two;
      once = and_right (sound_tree (tree_of image) lowest highest) _ two;
      range = and_right (sound_tree (tree_of image) lowest highest && once (numbers (tree_of image))) _ nodes;
    }

pub of_parts : (image : List ℕ) → SoundParts image → sound_but_live image ≡ true
unfolding sound_but_live sound_head sound_nodes sound_header
of_parts image p =
    let n : ℕ = nodes_of (length image) in
    let h : Header = header_of image in
    both
    (both p.laid
    (both
    (both
    (both
    (both (both (eq-eqb h.count n p.count) (le-leb 1 h.root p.root_low)) (lt-ltb h.root n p.root_high))
    (le-leb 1 h.levels p.levels_low))
    (le-leb h.levels 8 p.levels_high))
    (le-leb h.live n p.live_high)))
    (both (both p.tree p.once) p.range)

pub sound-parts : (image : List ℕ) → sound image ≡ true → SoundParts image
sound-parts image e = parts_of image (sound-but-live image e)

pub live-is : (image : List ℕ) → sound image ≡ true → (header_of image).live ≡ length (table_of image)
live-is image e =
    eqb-true (header_of image).live (length (table_of image))
    (and_right (sound_but_live image) (eqb (header_of image).live (length (table_of image))) (sym (sound-live image) ∙ e))
