-- Slices written into an image: page by page into free nodes, the deepest first. What is read back is the slice.
use Rattle.std.specs.Prelude.{ℕ, zero, suc, ◌+◌, ◌*◌, ◌≤◌, ◌≡◌, refl, List, [], ◌∷◌, ◌++◌, Bool, true, false, ◌&&◌, cond, length, replicate, leb, eqb}
use Rattle.image.specs.Prelude.{sym, ap, subst, ◌∙◌, false≢true, Option, none, some, arith, length-replicate, leb-true, eqb-true, eq-eqb, cases}
use Rattle.image.specs.Bytes.{before, shared}
use Rattle.image.specs.Entry.{Message, pivot_limit}
use Rattle.image.specs.Table.{Row, under_prefix}
use Rattle.image.specs.Image.{Tree, unread, leaf, interior, Forest, end, tree, Branch, Inside, node_bytes, node_entries, pairs_of, inside_of, forest_of, leaf_of, interior_of, or_none, tree_at, entries_limit}
use Rattle.image.specs.Meaning.{high_of}
use Rattle.image.specs.Sound.{sound_tree, numbers, is_in}
use Rattle.octets.specs.Order.{and_left, and_right}
use Rattle.laws.specs.Frame.{Keeps, tree-stays}
use Rattle.laws.specs.WriteNode.{write_node, write-length, write_same, write-other}
use Rattle.laws.specs.Encode.{bytes_of_all}
use Rattle.laws.specs.Filter.{keep, up_to, lower_rows}
use Rattle.laws.specs.Pieces.{still, levelled, Good, Branches, branch-first, branch-later, inner-branches, lower, node}
use Rattle.slice.specs.Slicing.Slice.{left_of, left_in}
use Rattle.slice.specs.Slicing.SliceNumbers.{one, hits, met, met_in, hits-met, spent, left-numbers-in}
use Rattle.slice.specs.Slicing.SliceFits.{pairs_size, branches_size, short_in, fits, fits_in, cut_fits}
use Rattle.laws.specs.Page.{page, number_of, pair_entries, child_entries, page-length, number_read}
use Rattle.slice.specs.Slicing.ReadBack.{ReadsIn, pairs-size, branches-size, leaf-read, node-read}

-- the page of a settled node
unfoldable pub page_of : ℕ → Tree → List ℕ
page_of h (unread i) = replicate 1024 0
page_of h (leaf i rs) = page 0x0001 h (bytes_of_all (pair_entries rs))
page_of h (interior i f ms) = page 0x0002 h (bytes_of_all (child_entries f))

pub page_of-full : (h : ℕ) (t : Tree) → fits t ≡ true → length (page_of h t) ≡ 1024
unfolding page_of fits
page_of-full h (unread i) e = length-replicate {A = ℕ} 1024 0
page_of-full h (leaf i rs) e = page-length 0x0001 h (bytes_of_all (pair_entries rs)) (omega (arith, pairs-size rs, leb-true (pairs_size rs) 1016 e))
page_of-full h (interior i f ms) e =
    page-length 0x0002 h (bytes_of_all (child_entries f)) (omega (arith, branches-size f, leb-true (branches_size f) 1016 (and_left _ _ (and_left _ _ e))))

-- a tree stays where its nodes' bytes stay
pub in-hits : (j : ℕ) (is : List ℕ) → is_in j is ≡ true → 1 ≤ hits j is
unfolding is_in hits one
in-hits j [] e = absurd (false≢true e)
in-hits j (i ∷ is) e = cases (eqb j i) (λ q. rw q (omega arith)) (λ q. rw q (omega (arith, in-hits j is (rw q at e))))

pub stays : (h : ℕ) (s s' : List ℕ) (t : Tree) → tree_at h s (number_of t) ≡ t → ((j : ℕ) → 1 ≤ met j t → node_bytes s' j ≡ node_bytes s j) → tree_at h s' (number_of t) ≡ t
unfolding Keeps
stays h s s' t e k =
    tree-stays h s s' (number_of t) (λ j i. k j (omega (arith, hits-met j t, in-hits j (numbers t) (ap (λ x. is_in j (numbers x)) (sym e) ∙ i)))) ∙ e

pub stays-in : (h : ℕ) (s s' : List ℕ) (f : Forest) → ReadsIn (λ j. tree_at h s j) f → ((j : ℕ) → 1 ≤ met_in j f → node_bytes s' j ≡ node_bytes s j)
    → ReadsIn (λ j. tree_at h s' j) f
unfolding ReadsIn met_in
stays-in h s s' end e k = tt
stays-in h s s' (tree q t f) e k = (stays h s s' t e.0 (λ j i. k j (omega arith)), stays-in h s s' f e.1 (λ j i. k j (omega arith)))

reads-lower : (under : ℕ → Tree) (l : List ℕ) (f : Forest) → ReadsIn under f → ReadsIn under (lower l f)
unfolding ReadsIn lower
reads-lower under l end e = tt
reads-lower under l (tree s t f) e = (e.0, reads-lower under l f e.1)

unfoldable children_of : Tree → Forest
children_of (unread i) = end
children_of (leaf i rs) = end
children_of (interior i f ms) = f

reads-forest : (under : ℕ → Tree) → ((j : ℕ) → number_of (under j) ≡ j) → (ks : List Branch) → ReadsIn under (forest_of under ks)
unfolding ReadsIn forest_of
reads-forest under g [] = tt
reads-forest under g (k ∷ ks) = (ap under (g k.number), reads-forest under g ks)

reads-children : (l : ℕ) (s : List ℕ) (i : ℕ) → ReadsIn (λ j. tree_at (suc l) s j) (children_of (tree_at (suc (suc l)) s i))
unfolding tree_at
reads-children l s i = go (or_none inside_of (node_entries 0x0002 (suc (suc l)) (node_bytes s i)))
  where
    go : (o : Option Inside) → ReadsIn (λ j. tree_at (suc l) s j) (children_of (interior_of (λ j. tree_at (suc l) s j) i o))
    go none = unfold interior_of children_of ReadsIn in tt
    go (some x) = unfold interior_of children_of in (reads-forest (λ j. tree_at (suc l) s j) (λ j. number_read (suc l) s j) x.branches)

pub branches-read : (l : ℕ) (s : List ℕ) (i n : ℕ) (f : Forest) (ms : List Message) → tree_at (suc (suc l)) s i ≡ interior n f ms → ReadsIn (λ j. tree_at (suc l) s j) f
unfolding children_of
branches-read l s i n f ms e = subst (λ x. ReadsIn (λ j. tree_at (suc l) s j) (children_of x)) e (reads-children l s i)

is-inner : Tree → Bool
is-inner (unread i) = false
is-inner (leaf i rs) = false
is-inner (interior i f ms) = true

pub no_inner : (s : List ℕ) (i n : ℕ) (f : Forest) (ms : List Message) → tree_at 1 s i ≡ interior n f ms → ⊥
unfolding tree_at leaf_of is-inner
no_inner s i n f ms e = go (or_none pairs_of (node_entries 0x0001 1 (node_bytes s i))) e
  where
    go : (o : Option (List Row)) → leaf_of i o ≡ interior n f ms → ⊥
    go none q = false≢true (ap is-inner q)
    go (some rs) q = false≢true (ap is-inner q)

pub one-other : (j i : ℕ) → one j i ≡ 0 → j ≡ i → ⊥
unfolding one
one-other j i e q = let z : one j i ≡ 1 = rw (q, eq-eqb i i refl) in omega arith

pub one_same : (j : ℕ) → one j j ≡ 1
unfolding one
one_same j = rw (eq-eqb j j refl)

-- a node written over pieces that are read
pub node_done : (l : ℕ) (s : List ℕ) (n : ℕ) (lo hi : List ℕ) (g : Forest) → 1024 * n + 1024 ≤ length s → fits (node n lo hi g) ≡ true → met_in n g ≡ 0
    → ReadsIn (λ j. tree_at (suc l) s j) g → tree_at (suc (suc l)) (write_node s n (page_of (suc (suc l)) (node n lo hi g))) n ≡ node n lo hi g
unfolding node page_of fits
node_done l s n lo hi g room fit new reads =
    let f : Forest = lower (shared lo hi) g in
    let pg : List ℕ = page 0x0002 (suc (suc l)) (bytes_of_all (child_entries f)) in
    let full : length pg ≡ 1024 = page_of-full (suc (suc l)) (interior n f []) fit in
    node-read (write_node s n pg) l n f (write_same s n pg room full) (leb-true (branches_size f) 1016 (and_left _ _ (and_left _ _ fit)))
    (and_right (leb (branches_size f) 1016) _ (and_left _ _ fit))
    (reads-lower (λ j. tree_at (suc l) (write_node s n pg) j) (shared lo hi) g
    (stays-in (suc l) s (write_node s n pg) g reads (λ j h. write-other s n pg room full j (λ q. never j q h))))
  where
    never : (j : ℕ) → j ≡ n → 1 ≤ met_in j g → ⊥
    never j q h = let z : met_in j g ≡ 0 = ap (λ x. met_in x g) q ∙ new in omega arith

pub leaf-done : (s : List ℕ) (n : ℕ) (rs : List Row) → 1024 * n + 1024 ≤ length s → fits (leaf n rs) ≡ true → tree_at 1 (write_node s n (page_of 1 (leaf n rs))) n ≡ leaf n rs
unfolding page_of fits
leaf-done s n rs room fit =
    leaf-read (write_node s n (page 0x0001 1 (bytes_of_all (pair_entries rs)))) n rs
    (write_same s n (page 0x0001 1 (bytes_of_all (pair_entries rs))) room (page_of-full 1 (leaf n rs) fit)) (leb-true (pairs_size rs) 1016 fit)

-- what a slice leaves: an image of the same size in which c free nodes from place `at` on may differ
pub record Only (fresh : ℕ → ℕ) (s s' : List ℕ) (c at : ℕ) : Type 0 where
  pub size : length s' ≡ length s
  pub others : (j : ℕ) → spent fresh j c at ≡ 0 → node_bytes s' j ≡ node_bytes s j

pub only_none : (fresh : ℕ → ℕ) (s : List ℕ) (c at : ℕ) → Only fresh s s c at
only_none fresh s c at = record { size = refl; others = λ j e. refl }

pub only-more : (fresh : ℕ → ℕ) (s s' : List ℕ) (c at : ℕ) (pg : List ℕ) → 1024 * fresh at + 1024 ≤ length s → length pg ≡ 1024 → Only fresh s s' c (suc at)
    → Only fresh s (write_node s' (fresh at) pg) (suc c) at
unfolding spent
only-more fresh s s' c at pg room full o =
    let room' : 1024 * fresh at + 1024 ≤ length s' = omega (arith, o.size) in
    record {
      size = write-length s' (fresh at) pg room' full ∙ o.size;
      others = λ j e. write-other s' (fresh at) pg room' full j (one-other j (fresh at) (omega arith)) ∙ o.others j (omega arith);
    }

module _ (fresh : ℕ → ℕ) where
  unfoldable mutual
    pub left_write : Tree → ℕ → List ℕ → List ℕ → List ℕ → ℕ → List ℕ → List ℕ
    left_write (unread i) h lo hi k at s = s
    left_write (leaf i rs) h lo hi k at s = write_node s (fresh at) (page_of h (left_of fresh (leaf i rs) lo hi k at))
    left_write (interior i f ms) zero lo hi k at s = s
    left_write (interior i f ms) (suc h) lo hi k at s =
        write_node (left_write_in f h (shared lo hi) hi k (suc at) s) (fresh at) (page_of (suc h) (left_of fresh (interior i f ms) lo hi k at))

    pub left_write_in : Forest → ℕ → List ℕ → List ℕ → List ℕ → ℕ → List ℕ → List ℕ
    left_write_in end h lifted hi k at s = s
    left_write_in (tree q t f) h lifted hi k at s =
        cond (before k (high_of lifted hi f))
        (cond (before (lifted ++ q) k) (left_write t h (lifted ++ q) (high_of lifted hi f) k at s) s)
        (left_write_in f h lifted hi k at s)

  pub number-left : (t : Tree) (h : ℕ) (lo hi k : List ℕ) (at : ℕ) → levelled t h ≡ true → number_of (left_of fresh t lo hi k at) ≡ fresh at
  unfolding left_of number_of levelled node
  number-left (unread i) h lo hi k at e = absurd (false≢true e)
  number-left (leaf i rs) h lo hi k at e = refl
  number-left (interior i f ms) h lo hi k at e = refl

  pub record LeftDone (s s' : List ℕ) (h at : ℕ) (t : Tree) : Type 0 where
    pub only : Only fresh s s' h at
    pub reads : tree_at h s' (fresh at) ≡ t

  pub record LeftDoneIn (s s' : List ℕ) (h at : ℕ) (f : Forest) : Type 0 where
    pub only_in : Only fresh s s' h at
    pub reads_in : ReadsIn (λ j. tree_at h s' j) f

  left-leaf : (i : ℕ) (rs : List Row) (lo hi k : List ℕ) (at : ℕ) (s : List ℕ) → 1024 * fresh at + 1024 ≤ length s
      → fits (left_of fresh (leaf i rs) lo hi k at) ≡ true
      → LeftDone s (left_write (leaf i rs) 1 lo hi k at s) 1 at (left_of fresh (leaf i rs) lo hi k at)
  unfolding left_write left_of
  left-leaf i rs lo hi k at s room fit =
      let rs' : List Row = lower_rows (shared lo k) (keep (up_to k) (under_prefix (shared lo hi) rs)) in
      record {
        only = only-more fresh s s 0 at (page_of 1 (leaf (fresh at) rs')) room (page_of-full 1 (leaf (fresh at) rs') fit) (only_none fresh s 0 (suc at));
        reads = leaf-done s (fresh at) rs' room fit;
      }

  left-inner : (i : ℕ) (f : Forest) (l : ℕ) (lo hi k : List ℕ) (at : ℕ) (s s' : List ℕ) → 1024 * fresh at + 1024 ≤ length s
      → fits (left_of fresh (interior i f []) lo hi k at) ≡ true → met_in (fresh at) (left_in fresh f (shared lo hi) hi k (suc at)) ≡ 0
      → s' ≡ left_write_in f (suc l) (shared lo hi) hi k (suc at) s
      → LeftDoneIn s s' (suc l) (suc at) (left_in fresh f (shared lo hi) hi k (suc at))
      → LeftDone s (left_write (interior i f []) (suc (suc l)) lo hi k at s) (suc (suc l)) at (left_of fresh (interior i f []) lo hi k at)
  unfolding left_write left_of
  left-inner i f l lo hi k at s s' room fit new e d =
      let g : Forest = left_in fresh f (shared lo hi) hi k (suc at) in
      rw (← e)
      (record {
        only = only-more fresh s s' (suc l) at (page_of (suc (suc l)) (node (fresh at) lo k g)) room (page_of-full (suc (suc l)) (node (fresh at) lo k g) fit) d.only_in;
        reads = node_done l s' (fresh at) lo k g (omega (arith, d.only_in.size)) fit new d.reads_in;
      })

  module _ (n : ℕ) (room : (i : ℕ) → 1024 * fresh i + 1024 ≤ n) where
    mutual
      unfolding sound_tree still levelled fits_in left_write_in left_in ReadsIn met met_in spent

      pub left-written : (t : Tree) (h : ℕ) (lo hi k : List ℕ) (at : ℕ) (s : List ℕ) → n ≤ length s → Good h t lo hi → fits t ≡ true → before lo k ≡ true → before k hi ≡ true
          → length k ≤ pivot_limit → tree_at h s (number_of t) ≡ t → ((j : ℕ) → met j t + spent fresh j h at ≤ 1)
          → LeftDone s (left_write t h lo hi k at s) h at (left_of fresh t lo hi k at)
      left-written (unread i) h lo hi k at s big g e a b short r d = absurd (false≢true g.sound)
      left-written (leaf i rs) h lo hi k at s big g e a b short r d =
          subst (λ x. LeftDone s (left_write (leaf i rs) x lo hi k at s) x at (left_of fresh (leaf i rs) lo hi k at)) (sym (eqb-true h 1 g.level))
          (left-leaf i rs lo hi k at s (omega (arith, room at)) (cut_fits fresh true (leaf i rs) h lo hi k at 0 g a b short refl e).0)
      left-written (interior i f (m ∷ ms)) h lo hi k at s big g e a b short r d = absurd (false≢true g.holds_no_message)
      left-written (interior i f []) zero lo hi k at s big g e a b short r d = absurd (false≢true g.level)
      left-written (interior i f []) (suc zero) lo hi k at s big g e a b short r d = absurd (no_inner s (number_of (interior i f [])) i f [] r)
      left-written (interior i f []) (suc (suc l)) lo hi k at s big g e a b short r d =
          left-inner i f l lo hi k at s (left_write_in f (suc l) (shared lo hi) hi k (suc at) s) (omega (arith, room at))
          (cut_fits fresh true (interior i f []) (suc (suc l)) lo hi k at 0 g a b short refl e).0
          (omega (arith, left-numbers-in (fresh at) fresh f (suc l) (shared lo hi) hi k (suc at) (inner-branches i f lo hi g).levels, d (fresh at), one_same (fresh at)))
          refl
          (left-written-in f (suc l) (shared lo hi) lo hi k (suc at) s big (inner-branches i f lo hi g) (and_right (leb (branches_size f) entries_limit && short_in f) _ e) short
          (branches-read l s (number_of (interior i f [])) i f [] r) (λ j. omega (arith, d j)))

      pub left-written-in : (f : Forest) (h : ℕ) (lifted lo hi k : List ℕ) (at : ℕ) (s : List ℕ) → n ≤ length s → Branches h f lifted lo hi → fits_in f ≡ true
          → length k ≤ pivot_limit → ReadsIn (λ j. tree_at h s j) f → ((j : ℕ) → met_in j f + spent fresh j h at ≤ 1)
          → LeftDoneIn s (left_write_in f h lifted hi k at s) h at (left_in fresh f lifted hi k at)
      left-written-in end h lifted lo hi k at s big g e short r d = record { only_in = only_none fresh s h at; reads_in = tt }
      left-written-in (tree q t f) h lifted lo hi k at s big g e short r d =
          let on = left-written-in f h lifted lo hi k at s big (branch-later q t f lifted lo hi g) (and_right (fits t) _ e) short r.1 (λ j. omega (arith, d j)) in
          cases (before k (high_of lifted hi f))
          (λ a. cases (before (lifted ++ q) k)
          (λ b. let first = branch-first q t f lifted lo hi g in
          let here = left-written t h (lifted ++ q) (high_of lifted hi f) k at s big first (and_left (fits t) _ e) b a short r.0 (λ j. omega (arith, d j)) in
          rw (a, b)
          (record {
            only_in = here.only;
            reads_in =
                (ap (tree_at h (left_write t h (lifted ++ q) (high_of lifted hi f) k at s)) (number-left t h (lifted ++ q) (high_of lifted hi f) k at first.level) ∙ here.reads, tt);
          }))
          (λ b. rw (a, b) (record { only_in = only_none fresh s h at; reads_in = tt })))
          (λ a. rw a
          (record {
            only_in = on.only_in;
            reads_in = (stays h s (left_write_in f h lifted hi k at s) t r.0 (λ j m. on.only_in.others j (omega (arith, d j))), on.reads_in);
          }))
