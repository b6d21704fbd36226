-- An image that holds the packed tree is sound, means the table, and is tidied.
use Rattle.std.specs.Prelude.{ℕ, zero, suc, ◌*◌, ◌/◌, ◌≤◌, ◌<◌, ◌≡◌, refl, List, [], true, length}
use Rattle.image.specs.Prelude.{◌∙◌, arith, le-leb, lt-ltb, eq-eqb}
use Rattle.image.specs.Table.{Row}
use Rattle.image.specs.Image.{Tree, unread, leaf, interior, Forest, end, tree, node_bytes, nodes_of, header_of, tree_of}
use Rattle.image.specs.Sound.{numbers, numbers_in, once, in_range, sound_header, sound, table_of}
use Rattle.image.specs.Upkeep.{reachable_nodes, settled, used, tidied}
use Rattle.laws.specs.Frame.{Keeps, keeps-left, keeps-right, keeps-head, keeps-tail}
use Rattle.laws.specs.Rising.{both}
use Rattle.packed.specs.Form.Packed.{Built, packed}
use Rattle.packed.specs.Form.Neat.{Neat}
use Rattle.packed.specs.Form.Numbered.{times, range-times}
use Rattle.packed.specs.Form.Tower.{Packs, packed-root, packed-settled}
use Rattle.laws.specs.Page.{number_of, head_page, head-header, head-laid}
use Rattle.packed.specs.Form.Pages.{Written, WrittenIn, reads-back}

-- the frame: where the bytes of its nodes stay, a tree stays written
mutual
  unfolding Written WrittenIn numbers numbers_in

  pub written-stays : (t : Tree) (l : ℕ) (s s' : List ℕ) → Keeps s s' (numbers t) → Written t l s → Written t l s'
  written-stays (unread i) l s s' k w = w
  written-stays (leaf i rs) l s s' k w = keeps-head s s' i [] k ∙ w
  written-stays (interior i f ms) zero s s' k w = w
  written-stays (interior i f ms) (suc l) s s' k w =
      (keeps-head s s' i (numbers_in f) k ∙ w.0, written-stays-in f l s s' (keeps-tail s s' i (numbers_in f) k) w.1)

  pub written-stays-in : (f : Forest) (l : ℕ) (s s' : List ℕ) → Keeps s s' (numbers_in f) → WrittenIn f l s → WrittenIn f l s'
  written-stays-in end l s s' k w = w
  written-stays-in (tree p t f) l s s' k w = (
    written-stays t l s s' (keeps-left s s' (numbers t) (numbers_in f) k) w.0,
    written-stays-in f l s s' (keeps-right s s' (numbers t) (numbers_in f) k) w.1,
  )

-- the image holds this tree, with this many live paths
pub record HoldsTree (image : List ℕ) (n live : ℕ) (b : Built) : Type 0 where
  pub size : length image ≡ 1024 * n
  pub head : node_bytes image 0 ≡ head_page n (number_of b.root) b.levels live
  pub pages : Written b.root b.levels image

-- a tree's own number is one of its numbers
number_in : (t : Tree) → 1 ≤ times (number_of t) (numbers t)
unfolding times numbers number_of
number_in (unread i) = rw (eq-eqb i i refl) (omega arith)
number_in (leaf i rs) = rw (eq-eqb i i refl) (omega arith)
number_in (interior i f ms) = rw (eq-eqb i i refl) (omega arith)

module _ (image : List ℕ) (n live : ℕ) (b : Built) (h : HoldsTree image n live b) where
  held-nodes : nodes_of (length image) ≡ n
  unfolding nodes_of
  held-nodes = rw h.size (omega arith)

  pub held-header : header_of image ≡ record { count = n; root = number_of b.root; levels = b.levels; live = live }
  unfolding header_of
  held-header = rw h.head (head-header n (number_of b.root) b.levels live)

  pub held-tree : Neat b.root b.levels → tree_of image ≡ b.root
  unfolding tree_of
  held-tree x = rw held-header (reads-back b.root b.levels image x h.pages)

module _ (image nums : List ℕ) (t : List Row) (n : ℕ) (few : length t ≤ n) (p : Packs nums t n) (o : once nums ≡ true) (r : in_range n nums ≡ true)
    (h : HoldsTree image n (length t) (packed nums t)) where
  pub image-tree : tree_of image ≡ (packed nums t).root
  image-tree = held-tree image n (length t) (packed nums t) h p.neat

  pub image-table : table_of image ≡ t
  unfolding table_of
  image-table = rw image-tree p.same_table

  root-range : (1 ≤ number_of (packed nums t).root) × (number_of (packed nums t).root < n)
  root-range =
      range-times n nums r (number_of (packed nums t).root)
      (let a = number_in (packed nums t).root in let c = p.counted (number_of (packed nums t).root) in omega arith)

  pub image-sound : sound image ≡ true
  unfolding sound sound_header
  image-sound =
      rw (
        image-tree,
        held-header image n (length t) (packed nums t) h,
        held-nodes image n (length t) (packed nums t) h,
        h.head,
        head-laid n (number_of (packed nums t).root) (packed nums t).levels (length t),
      )
      (both (both (both (both (both (both (eq-eqb n n refl) (le-leb 1 (number_of (packed nums t).root) root-range.0)) (lt-ltb (number_of (packed nums t).root) n root-range.1))
      (le-leb 1 (packed nums t).levels p.levels_least)) (le-leb (packed nums t).levels 8 (let q = p.levels_most in omega arith))) (le-leb (length t) n few))
      (packed-root nums t n p o r))

  pub image-tidied : tidied image ≡ true
  unfolding tidied settled used reachable_nodes
  image-tidied =
      rw (image-tree, held-header image n (length t) (packed nums t) h, held-nodes image n (length t) (packed nums t) h)
      (both (packed-settled nums t n p) (le-leb (suc (length (numbers (packed nums t).root))) (n / 4) (let q = p.quarter in omega arith)))
