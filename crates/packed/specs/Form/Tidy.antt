-- The image of request S-10: node 0, the pages of the packed tree, zeros elsewhere. It is one image for one map.
use Rattle.std.specs.Prelude.{ℕ, zero, suc, ◌+◌, ◌*◌, ◌-◌, ◌/◌, ◌≤◌, ◌<◌, ◌↔◌, ◌≡◌, refl, List, [], ◌∷◌, ◌++◌, Bool, true, false, ◌&&◌, ◌||◌, not, length, take, drop, ltb, leb, eqb}
use Rattle.image.specs.Prelude.{sym, ap, ap₂, ◌∙◌, false≢true, true≢false, arith, length-replicate, length-drop, take-append-drop, drop-drop, leb-true, ltb-true, eq-eqb, ne_eqb, eqb-true}
use Rattle.image.specs.Path.{well_formed}
use Rattle.image.specs.Table.{Row, rising, every_key}
use Rattle.image.specs.Image.{Tree, unread, leaf, interior, Forest, end, tree, node_bytes, tree_of}
use Rattle.image.specs.Sound.{numbers, numbers_in, is_in, once, in_range, values_fit, sound, table_of}
use Rattle.image.specs.Upkeep.{tidied}
use Rattle.laws.specs.Encode.{bytes_of_all}
use Rattle.octets.specs.Order.{and_left, and_right, not-true, not_so}
use Rattle.laws.specs.Frame.{Keeps}
use Rattle.laws.specs.WriteNode.{write_node, write-length, write_same, write-other}
use Rattle.packed.specs.Form.Chunk.{All, all_append, all_left, all_right}
use Rattle.packed.specs.Form.Packed.{Built, packed, numbers_from}
use Rattle.packed.specs.Form.Leaves.{tabled}
use Rattle.packed.specs.Form.Neat.{Neat, NeatIn}
use Rattle.packed.specs.Form.Tower.{Packs, packs, once-and-range, from-range, from-once, from-length}
use Rattle.laws.specs.Page.{page, page-length, pair_entries, child_entries, number_of, head_page, head-length, zeros_of, drop-zeros, take-zeros}
use Rattle.packed.specs.Form.Pages.{pairs-length, branches-length, Written, WrittenIn}
use Rattle.packed.specs.Form.Stored.{written-stays, HoldsTree, image-tree, image-table, image-sound, image-tidied}

-- a node's number and its 1,024 bytes
pub record Page : Type 0 where
  pub number : ℕ
  pub bytes : List ℕ

unfoldable mutual
  pub pages : Tree → ℕ → List Page
  pages (unread i) l = []
  pages (leaf i rs) l = record { number = i; bytes = page 0x0001 l (bytes_of_all (pair_entries rs)) } ∷ []
  pages (interior i f ms) zero = []
  pages (interior i f ms) (suc l) = record { number = i; bytes = page 0x0002 (suc l) (bytes_of_all (child_entries f)) } ∷ pages_in f l

  pub pages_in : Forest → ℕ → List Page
  pages_in end l = []
  pages_in (tree s t f) l = pages t l ++ pages_in f l

unfoldable pub page_numbers : List Page → List ℕ
page_numbers [] = []
page_numbers (p ∷ ps) = p.number ∷ page_numbers ps

unfoldable pub write_all : List Page → List ℕ → List ℕ
write_all [] image = image
write_all (p ∷ ps) image = write_all ps (write_node image p.number p.bytes)

-- a node, and a store of n nodes, of zeros
abbrev pub blank_node : List ℕ
blank_node = zeros_of 1024

abbrev pub blank : ℕ → List ℕ
blank n = zeros_of (1024 * n)

-- the pages of a tree written into a store, and node 0 last
unfoldable pub image_of : List ℕ → ℕ → ℕ → Built → List ℕ
image_of base n live b = write_node (write_all (pages b.root b.levels) base) 0 (head_page n (number_of b.root) b.levels live)

-- request S-10: numbers from 1
unfoldable pub packed_image : ℕ → List Row → List ℕ
packed_image n t = image_of (blank n) n (length t) (packed (numbers_from 1 (n - 1)) t)

-- pages that can be written into n nodes
abbrev pub PageFits : ℕ → Page → Type 0
PageFits n p = (p.number < n) × (length p.bytes ≡ 1024)

fits-node : (n i : ℕ) (image : List ℕ) → length image ≡ 1024 * n → i < n → 1024 * i + 1024 ≤ length image
fits-node n i image e h = omega arith

pub all-length : (n : ℕ) (ps : List Page) (image : List ℕ) → All (PageFits n) ps → length image ≡ 1024 * n → length (write_all ps image) ≡ 1024 * n
unfolding write_all
all-length n [] image r e = e
all-length n (p ∷ ps) image r e =
    all-length n ps (write_node image p.number p.bytes) r.1
    (write-length image p.number p.bytes (fits-node n p.number image e r.0.0) r.0.1 ∙ e)

or-false : (a b : Bool) → a || b ≡ false → (a ≡ false) × (b ≡ false)
or-false true b e = absurd (true≢false e)
or-false false b e = (refl, e)

eqb_no : (a b : ℕ) → eqb a b ≡ false → a ≡ b → ⊥
eqb_no a b e q = true≢false (sym (eq-eqb a b q) ∙ e)

pub all-other : (n : ℕ) (ps : List Page) (image : List ℕ) → All (PageFits n) ps → length image ≡ 1024 * n
    → (j : ℕ) → is_in j (page_numbers ps) ≡ false → node_bytes (write_all ps image) j ≡ node_bytes image j
unfolding write_all is_in page_numbers
all-other n [] image r e j h = refl
all-other n (p ∷ ps) image r e j h =
    let q = or-false (eqb j p.number) (is_in j (page_numbers ps)) h in
    let f = fits-node n p.number image e r.0.0 in
    all-other n ps (write_node image p.number p.bytes) r.1 (write-length image p.number p.bytes f r.0.1 ∙ e) j q.1
    ∙ write-other image p.number p.bytes f r.0.1 j (eqb_no j p.number q.0)

abbrev pub In : List ℕ → Page → Type 0
In image p = node_bytes image p.number ≡ p.bytes

pub all_same : (n : ℕ) (ps : List Page) (image : List ℕ) → All (PageFits n) ps → length image ≡ 1024 * n → once (page_numbers ps) ≡ true
    → All (In (write_all ps image)) ps
unfolding write_all once page_numbers
all_same n [] image r e o = tt
all_same n (p ∷ ps) image r e o =
    let f = fits-node n p.number image e r.0.0 in
    let k = write-length image p.number p.bytes f r.0.1 ∙ e in (
      all-other n ps (write_node image p.number p.bytes) r.1 k p.number (not-true (is_in p.number (page_numbers ps)) (and_left _ _ o))
          ∙ write_same image p.number p.bytes f r.0.1,
      all_same n ps (write_node image p.number p.bytes) r.1 k (and_right (not (is_in p.number (page_numbers ps))) _ o),
    )

-- the pages of a tree
pub page-numbers-append : (ps qs : List Page) → page_numbers (ps ++ qs) ≡ page_numbers ps ++ page_numbers qs
unfolding page_numbers
page-numbers-append [] qs = refl
page-numbers-append (p ∷ ps) qs = ap (λ l. p.number ∷ l) (page-numbers-append ps qs)

mutual
  unfolding pages pages_in numbers numbers_in page_numbers Neat NeatIn

  pub pages-numbers : (t : Tree) (l : ℕ) → Neat t l → page_numbers (pages t l) ≡ numbers t
  pages-numbers (unread i) l h = absurd h
  pages-numbers (leaf i rs) l h = refl
  pages-numbers (interior i f ms) zero h = absurd h
  pages-numbers (interior i f ms) (suc l) h = ap (λ is. i ∷ is) (pages-numbers-in f l h.3)

  pub pages-numbers-in : (f : Forest) (l : ℕ) → NeatIn f l → page_numbers (pages_in f l) ≡ numbers_in f
  pages-numbers-in end l h = refl
  pages-numbers-in (tree s t f) l h =
      page-numbers-append (pages t l) (pages_in f l) ∙ ap₂ (λ a b. a ++ b) (pages-numbers t l h.1) (pages-numbers-in f l h.2)

mutual
  unfolding pages pages_in Neat NeatIn

  pub pages-full : (t : Tree) (l : ℕ) → Neat t l → All (λ p. length p.bytes ≡ 1024) (pages t l)
  pages-full (unread i) l h = absurd h
  pages-full (leaf i rs) l h = (page-length 0x0001 l (bytes_of_all (pair_entries rs)) (rw (pairs-length rs) h.1), tt)
  pages-full (interior i f ms) zero h = absurd h
  pages-full (interior i f ms) (suc l) h =
      (page-length 0x0002 (suc l) (bytes_of_all (child_entries f)) (rw (branches-length f) h.2), pages-full-in f l h.3)

  pub pages-full-in : (f : Forest) (l : ℕ) → NeatIn f l → All (λ p. length p.bytes ≡ 1024) (pages_in f l)
  pages-full-in end l h = tt
  pages-full-in (tree s t f) l h =
      all_append (λ p. length p.bytes ≡ 1024) (pages t l) (pages_in f l) (pages-full t l h.1) (pages-full-in f l h.2)

mutual
  unfolding pages pages_in Neat NeatIn Written WrittenIn

  pub pages-written : (t : Tree) (l : ℕ) (image : List ℕ) → Neat t l → All (In image) (pages t l) → Written t l image
  pages-written (unread i) l image h a = absurd h
  pages-written (leaf i rs) l image h a = a.0
  pages-written (interior i f ms) zero image h a = absurd h
  pages-written (interior i f ms) (suc l) image h a = (a.0, pages-written-in f l image h.3 a.1)

  pub pages-written-in : (f : Forest) (l : ℕ) (image : List ℕ) → NeatIn f l → All (In image) (pages_in f l) → WrittenIn f l image
  pages-written-in end l image h a = tt
  pages-written-in (tree s t f) l image h a = (
    pages-written t l image h.1 (all_left (In image) (pages t l) (pages_in f l) a),
    pages-written-in f l image h.2 (all_right (In image) (pages t l) (pages_in f l) a),
  )

-- two images with the same nodes are the same
shift-node : (s : List ℕ) (j : ℕ) → node_bytes s (suc j) ≡ node_bytes (drop 1024 s) j
unfolding node_bytes
shift-node s j =
    let e : 1024 * suc j ≡ 1024 + 1024 * j = omega arith in
    ap (λ k. take 1024 (drop k s)) e ∙ ap (λ l. take 1024 l) (sym (drop-drop (1024 * j) 1024 s))

no_length : (s : List ℕ) → length s ≡ 0 → s ≡ []
no_length [] e = refl
no_length (a ∷ s) e = absurd (omega arith)

pub nodes-ext : (n : ℕ) (s s' : List ℕ) → length s ≡ 1024 * n → length s' ≡ 1024 * n → ((j : ℕ) → j < n → node_bytes s j ≡ node_bytes s' j) → s ≡ s'
unfolding node_bytes
nodes-ext zero s s' e f h = no_length s e ∙ sym (no_length s' f)
nodes-ext (suc n) s s' e f h =
    sym (take-append-drop 1024 s)
    ∙ ap₂ (λ a b. a ++ b) (h 0 (omega arith))
    (nodes-ext n (drop 1024 s) (drop 1024 s') (length-drop 1024 s ∙ (omega arith)) (length-drop 1024 s' ∙ (omega arith))
    (λ j k. sym (shift-node s j) ∙ h (suc j) (omega arith) ∙ shift-node s' j))
    ∙ take-append-drop 1024 s'

-- pages with numbers in range
pub range-ready : (n : ℕ) (ps : List Page) → in_range n (page_numbers ps) ≡ true → All (λ p. length p.bytes ≡ 1024) ps → All (PageFits n) ps
unfolding in_range page_numbers
range-ready n [] r f = tt
range-ready n (p ∷ ps) r f = (
  (ltb-true p.number n (and_right (leb 1 p.number) _ (and_left _ _ r)), f.0),
  range-ready n ps (and_right (leb 1 p.number && ltb p.number n) _ r) f.1,
)

pub zero-out : (n : ℕ) (is : List ℕ) → in_range n is ≡ true → is_in 0 is ≡ false
unfolding in_range is_in
zero-out n [] r = refl
zero-out n (i ∷ is) r =
    let a : 1 ≤ i = leb-true 1 i (and_left _ _ (and_left _ _ r)) in
    rw (ne_eqb 0 i (λ q. omega arith)) (zero-out n is (and_right (leb 1 i && ltb i n) _ r))

pub blank-length : (n : ℕ) → length (blank n) ≡ 1024 * n
unfolding zeros_of
blank-length n = length-replicate {A = ℕ} (1024 * n) 0

pub blank-node : (n j : ℕ) → j < n → node_bytes (blank n) j ≡ blank_node
unfolding node_bytes
blank-node n j h = ap (take 1024) (drop-zeros (1024 * j) (1024 * n)) ∙ take-zeros 1024 (1024 * n - 1024 * j) (omega arith)

-- each page is in the image of its tree
mutual
  unfolding pages pages_in Written WrittenIn

  pub written-pages : (t : Tree) (l : ℕ) (image : List ℕ) → Written t l image → All (In image) (pages t l)
  written-pages (unread i) l image w = tt
  written-pages (leaf i rs) l image w = (w, tt)
  written-pages (interior i f ms) zero image w = tt
  written-pages (interior i f ms) (suc l) image w = (w.0, written-pages-in f l image w.1)

  pub written-pages-in : (f : Forest) (l : ℕ) (image : List ℕ) → WrittenIn f l image → All (In image) (pages_in f l)
  written-pages-in end l image w = tt
  written-pages-in (tree s t f) l image w =
      all_append (In image) (pages t l) (pages_in f l) (written-pages t l image w.0) (written-pages-in f l image w.1)

pub same_in : (s s' : List ℕ) (ps : List Page) → All (In s) ps → All (In s') ps → (j : ℕ) → is_in j (page_numbers ps) ≡ true → node_bytes s j ≡ node_bytes s' j
unfolding is_in page_numbers
same_in s s' [] a b j h = absurd (false≢true h)
same_in s s' (p ∷ ps) a b j h = go (eqb j p.number) refl (same_in s s' ps a.1 b.1 j)
  where
    go : (x : Bool) → eqb j p.number ≡ x → (is_in j (page_numbers ps) ≡ true → node_bytes s j ≡ node_bytes s' j) → node_bytes s j ≡ node_bytes s' j
    go true e ih = rw (eqb-true j p.number e) (a.0 ∙ sym b.0)
    go false e ih = ih (rw e at h)

-- images that hold one tree, and agree elsewhere
pub one-over : (s s' : List ℕ) (n live : ℕ) (b : Built) → Neat b.root b.levels → HoldsTree s n live b → HoldsTree s' n live b
    → ((j : ℕ) → 1 ≤ j → j < n → is_in j (numbers b.root) ≡ false → node_bytes s j ≡ node_bytes s' j) → s ≡ s'
one-over s s' n live b h c d rest = nodes-ext n s s' c.size d.size each
  where
    other : (j : ℕ) → 1 ≤ j → j < n → (x : Bool) → is_in j (numbers b.root) ≡ x → node_bytes s j ≡ node_bytes s' j
    other j o k true e =
        same_in s s' (pages b.root b.levels) (written-pages b.root b.levels s c.pages)
        (written-pages b.root b.levels s' d.pages) j (rw (pages-numbers b.root b.levels h) e)
    other j o k false e = rest j o k e

    each : (j : ℕ) → j < n → node_bytes s j ≡ node_bytes s' j
    each zero k = c.head ∙ sym d.head
    each (suc j) k = other (suc j) (omega arith) k (is_in (suc j) (numbers b.root)) refl

-- an image that holds a tree, and zeros in its free nodes
pub record Clean (image : List ℕ) (n live : ℕ) (b : Built) : Type 0 where
  pub holds : HoldsTree image n live b
  pub zeroed : (j : ℕ) → 1 ≤ j → j < n → is_in j (numbers b.root) ≡ false → node_bytes image j ≡ blank_node

-- there is one such image
pub one-image : (s s' : List ℕ) (n live : ℕ) (b : Built) → Neat b.root b.levels → Clean s n live b → Clean s' n live b → s ≡ s'
one-image s s' n live b h c d = one-over s s' n live b h c.holds d.holds (λ j o k e. c.zeroed j o k e ∙ sym (d.zeroed j o k e))

-- what is written holds the tree; the other nodes keep their bytes
module _ (base : List ℕ) (n live : ℕ) (b : Built) (size : length base ≡ 1024 * n) (some-nodes : 1 ≤ n) (h : Neat b.root b.levels)
    (o : once (numbers b.root) ≡ true) (r : in_range n (numbers b.root) ≡ true) where
  ready : All (PageFits n) (pages b.root b.levels)
  ready = range-ready n (pages b.root b.levels) (rw (pages-numbers b.root b.levels h) r) (pages-full b.root b.levels h)

  written-size : length (write_all (pages b.root b.levels) base) ≡ 1024 * n
  written-size = all-length n (pages b.root b.levels) base ready size

  fits-0 : 1024 * 0 + 1024 ≤ length (write_all (pages b.root b.levels) base)
  fits-0 = rw written-size (omega arith)

  after-head : Keeps (write_all (pages b.root b.levels) base) (image_of base n live b) (numbers b.root)
  unfolding Keeps image_of
  after-head j e =
      write-other (write_all (pages b.root b.levels) base) 0 (head_page n (number_of b.root) b.levels live) fits-0
      (head-length n (number_of b.root) b.levels live) j (λ q. not_so e (rw q (zero-out n (numbers b.root) r)))

  pub image_holds : HoldsTree (image_of base n live b) n live b
  image_holds =
      record {
        size = unfold image_of in (write-length (write_all (pages b.root b.levels) base) 0 _ fits-0 (head-length n (number_of b.root) b.levels live) ∙ written-size);
        head = unfold image_of in write_same (write_all (pages b.root b.levels) base) 0 _ fits-0 (head-length n (number_of b.root) b.levels live);
        pages =
            written-stays b.root b.levels (write_all (pages b.root b.levels) base) (image_of base n live b) after-head
            (pages-written b.root b.levels (write_all (pages b.root b.levels) base) h
            (all_same n (pages b.root b.levels) base ready size (rw (pages-numbers b.root b.levels h) o)));
      }

  pub image-other : (j : ℕ) → 1 ≤ j → is_in j (numbers b.root) ≡ false → node_bytes (image_of base n live b) j ≡ node_bytes base j
  unfolding image_of
  image-other j k e =
      write-other (write_all (pages b.root b.levels) base) 0 (head_page n (number_of b.root) b.levels live) fits-0
      (head-length n (number_of b.root) b.levels live) j (λ q. omega arith)
      ∙ all-other n (pages b.root b.levels) base ready size j (rw (pages-numbers b.root b.levels h) e)

-- a table that a store of n nodes may hold
pub record Table (n : ℕ) (t : List Row) : Type 0 where
  pub few : length t ≤ n
  pub rises : rising t ≡ true
  pub formed : every_key well_formed t ≡ true
  pub values : values_fit t ≡ true

-- Any numbers from 1 to n less 1 that differ, at least n / 4 less 1 of them, over any bytes.
module _ (base nums : List ℕ) (n : ℕ) (t : List Row) (size : length base ≡ 1024 * n) (least : 32 ≤ n) (most : n ≤ 1024)
    (enough : n / 4 ≤ length nums + 1) (o : once nums ≡ true) (r : in_range n nums ≡ true) (tab : Table n t) where
  pub built-packs : Packs nums t n
  built-packs = packs nums t n least most tab.few enough (tabled t tab.rises tab.formed tab.values)

  pub root-parts : (once (numbers (packed nums t).root) ≡ true) × (in_range n (numbers (packed nums t).root) ≡ true)
  root-parts = once-and-range nums t n built-packs o r

  pub built-holds : HoldsTree (image_of base n (length t) (packed nums t)) n (length t) (packed nums t)
  built-holds =
      image_holds base n (length t) (packed nums t) size (omega arith) built-packs.neat root-parts.0 root-parts.1

  pub built-tree : tree_of (image_of base n (length t) (packed nums t)) ≡ (packed nums t).root
  built-tree = image-tree _ nums t n tab.few built-packs o r built-holds

  pub built-table : table_of (image_of base n (length t) (packed nums t)) ≡ t
  built-table = image-table _ nums t n tab.few built-packs o r built-holds

  pub built-sound : sound (image_of base n (length t) (packed nums t)) ≡ true
  built-sound = image-sound _ nums t n tab.few built-packs o r built-holds

  pub built-tidied : tidied (image_of base n (length t) (packed nums t)) ≡ true
  built-tidied = image-tidied _ nums t n tab.few built-packs o r built-holds

  pub built-other : (j : ℕ) → 1 ≤ j → is_in j (numbers (packed nums t).root) ≡ false
      → node_bytes (image_of base n (length t) (packed nums t)) j ≡ node_bytes base j
  built-other = image-other base n (length t) (packed nums t) size (omega arith) built-packs.neat root-parts.0 root-parts.1

-- Request S-10.
module _ (n : ℕ) (t : List Row) (least : 32 ≤ n) (most : n ≤ 1024) (tab : Table n t) where
  enough-1 : n / 4 ≤ length (numbers_from 1 (n - 1)) + 1
  enough-1 = rw (from-length 1 (n - 1)) (omega arith)

  range-1 : in_range n (numbers_from 1 (n - 1)) ≡ true
  range-1 = from-range 1 (n - 1) n (omega arith) (omega arith)

  pub packed-clean : Clean (packed_image n t) n (length t) (packed (numbers_from 1 (n - 1)) t)
  unfolding packed_image
  packed-clean =
      record {
        holds = built-holds (blank n) (numbers_from 1 (n - 1)) n t (blank-length n) least most enough-1 (from-once 1 (n - 1)) range-1 tab;
        zeroed = λ j k l e.
            built-other (blank n) (numbers_from 1 (n - 1)) n t (blank-length n) least most enough-1 (from-once 1 (n - 1)) range-1 tab j k e ∙ blank-node n j l;
      }

  pub packed-image-table : table_of (packed_image n t) ≡ t
  unfolding packed_image
  packed-image-table = built-table (blank n) (numbers_from 1 (n - 1)) n t (blank-length n) least most enough-1 (from-once 1 (n - 1)) range-1 tab

  pub packed-image-sound : sound (packed_image n t) ≡ true
  unfolding packed_image
  packed-image-sound = built-sound (blank n) (numbers_from 1 (n - 1)) n t (blank-length n) least most enough-1 (from-once 1 (n - 1)) range-1 tab

  pub packed-image-tidied : tidied (packed_image n t) ≡ true
  unfolding packed_image
  packed-image-tidied = built-tidied (blank n) (numbers_from 1 (n - 1)) n t (blank-length n) least most enough-1 (from-once 1 (n - 1)) range-1 tab

-- equal bytes exactly when the maps are equal
pub packed-one : (n : ℕ) (t u : List Row) → 32 ≤ n → n ≤ 1024 → Table n t → Table n u → (packed_image n t ≡ packed_image n u) ↔ (t ≡ u)
packed-one n t u a b x y =
    ((λ e. sym (packed-image-table n t a b x) ∙ ap table_of e ∙ packed-image-table n u a b y), (λ e. ap (packed_image n) e))
