-- Step lemmas of the left part: what is composed of a leaf and of an interior node, what the child that holds the cut is asked, and that
-- the pages written are those of `left_write`. Relies on PointLaws and on specs/Slicing's laws of stripped pivots.
use Rattle.std.specs.Prelude.{ℕ, zero, suc, ◌+◌, ◌*◌, ◌-◌, ◌≤◌, ◌≡◌, refl, List, [], ◌∷◌, ◌++◌, Bool, true, false, ◌&&◌, length, drop, leb, get_or}
use Rattle.image.specs.Prelude.{sym, ap, ap₂, subst, ◌∙◌, false≢true, arith, length-append, leb-true, lt-ltb}
use Rattle.image.specs.Bytes.{before, shared}
use Rattle.image.specs.Table.{Row}
use Rattle.image.specs.Image.{Tree, leaf, interior, Forest, Branch, nodes_of, tree_at, forest_of}
use Rattle.octets.specs.Order.{and_left, and_right, before-append}
use Rattle.laws.specs.Rising.{both}
use Rattle.laws.specs.Encode.{bytes_of_all}
use Rattle.laws.specs.Filter.{keep, up_to, lower_rows}
use Rattle.laws.specs.Pieces.{lower, node}
use Rattle.laws.specs.Page.{page, number_of, pair_entries, child_entries, number_read}
use Rattle.laws.specs.WriteNode.{write_node}
use Rattle.laws.specs.Reading.Relative.{branch_high, high-at, usable, usable_in, number-under}
use Rattle.slice.specs.Slicing.Slice.{left_of, left_in}
use Rattle.slice.specs.Slicing.SliceFits.{pairs_size, branches_size, short_in, fits, fits_in}
use Rattle.slice.specs.Slicing.ReadBack.{pairs-size, branches-size}
use Rattle.slice.specs.Slicing.SliceStrip.{split-low, split-high, split-cut, left-strip, left-leaf-bare, left-node-bare}
use Rattle.slice.specs.Slicing.SliceWrite.{page_of, left_write, left_write_in}
use Rattle.slice.specs.Slicing.WriteStrip.{left-write-strip}
use Rattle.node.specs.Cut.{cut}
use Rattle.node.specs.Whole.{HasEntries}
use Rattle.node.specs.declared.branches.Branch as child
use Rattle.push.specs.NodeSteps.{copy-size, copy-count, copy_lists}
use Rattle.image.specs.Entry as defined
use Rattle.node.specs.Search.Own.{branches_among}
use Rattle.lookup.specs.Look.{part-rest, listing, LeafAt, InteriorAt, leaf-at, interior-at, node-inside, inside-splits}
use Rattle.push.specs.Laws.Written.{small_numbers}
use Rattle.slice.specs.Point.{Point, within, between, nowhere, fresh_in, point_of, Holds, Misses, before_line, left_at, side_line}
use Rattle.slice.specs.PointLaws.{before-line, left-write, side-line}
use Rattle.slice.specs.Left.{LeftAsks, PointAsks, from}
use Rattle.octets.specs.Beginnings.{strip-shared}

pub small-branches : (n : ℕ) (under : ℕ → Tree) (ks : List Branch) → n ≤ 1024 → ((j : ℕ) → number_of (under j) ≡ j) → usable_in n (forest_of under ks) ≡ true → small_numbers ks ≡ true
unfolding usable_in forest_of small_numbers
small-branches n under [] h num e = refl
small-branches n under (k ∷ ks) h num e =
    let a = number-under n (under k.number) (and_left _ _ e) in
    let b = num k.number in
    both (lt-ltb k.number 65536 (omega arith)) (small-branches n under ks h num (and_right (usable n (under k.number)) _ e))

-- THE CHILD THAT HOLDS THE CUT
unfoldable PointIs : (ℕ → ℕ) → (ℕ → Tree) → ℕ → List ℕ → ℕ → Point → Type 0
PointIs fresh under m k at (within n i low high) =
    (usable m (under i) ≡ true) × (fits (left_of fresh (under i) low high k at) ≡ true) × (before low k ≡ true) × (before k high ≡ true)
PointIs fresh under m k at (between n low) = Unit
PointIs fresh under m k at (nowhere n) = Unit

module _ (fresh : ℕ → ℕ) (under : ℕ → Tree) (hi k l : List ℕ) (m at : ℕ) where
  point-is : (ks : List Branch) (n : ℕ) → usable_in m (forest_of under ks) ≡ true → fits_in (lower l (left_in fresh (forest_of under ks) [] hi k at)) ≡ true
      → PointIs fresh under m k at (point_of n ks hi k)
  unfolding left_in forest_of lower fits_in point_of PointIs usable_in
  point-is [] n u e = tt
  point-is (c ∷ cs) n u e =
      go (before k (branch_high hi cs)) refl (before c.pivot k) refl (λ f. point-is cs (n + 1) (and_right (usable m (under c.number)) _ u) f)
    where
      t : Tree
      t = under c.number

      go : (x : Bool) → before k (branch_high hi cs) ≡ x → (y : Bool) → before c.pivot k ≡ y
          → (fits_in (lower l (left_in fresh (forest_of under cs) [] hi k at)) ≡ true → PointIs fresh under m k at (point_of (n + 1) cs hi k))
          → PointIs fresh under m k at (point_of n (c ∷ cs) hi k)
      go true a true b ih = rw (a, b) (and_left _ _ u, and_left _ _ (rw (high-at under hi cs, a, b) at e), b, a)
      go true a false b ih = rw (a, b) tt
      go false a y b ih = rw a (ih (and_right (fits t) _ (rw (high-at under hi cs, a) at e)))

-- LEVELS
pub some_level : (n level : ℕ) (s : List ℕ) (i : ℕ) → usable n (tree_at level s i) ≡ true → 1 ≤ level
unfolding tree_at usable
some_level n zero s i e = absurd (false≢true e)
some_level n (suc l) s i e = omega arith

pub one-level : (n level : ℕ) (s : List ℕ) (i : ℕ) → level ≤ 1 → usable n (tree_at level s i) ≡ true → level ≡ 1
one-level n level s i h e = omega (arith, some_level n level s i e)

-- A NODE'S COPY
module _ (s : List ℕ) (num level : ℕ) (reads : usable (nodes_of (length s)) (tree_at level s num) ≡ true) (node' : List ℕ) (en : node' ≡ cut s (num * 1024) (num * 1024 + 1024)) where
  pub copy-entries : HasEntries node' 0
  copy-entries =
      let i = node-inside s num level reads in
      let z = copy-size s num i.0 node' en in
      let n = copy-count s num i.0 node' en in
      let h = i.1 in
      (omega arith, omega arith)

  pub copied : (es : List defined.Entry) → es ≡ listing node' 0 → es ≡ listing s num
  copied es q = let i = node-inside s num level reads in q ∙ copy_lists s num i.0 node' en i.1

-- ONE NODE
module _ (s : List ℕ) (num level : ℕ) (lo hi k : List ℕ) (at : ℕ) (free : List ℕ) (pre : LeftAsks s num level lo hi k at free) where
  pub left-inside : num * 1024 + 1024 ≤ length s
  left-inside = (node-inside s num level pre.reads).0

  pub left-level : 1 ≤ level
  left-level = some_level (nodes_of (length s)) level s num pre.reads

  pub left-new : (new : ℕ) → new ≡ get_or free at 0 → new * 1024 + 1024 ≤ length s
  unfolding fresh_in
  left-new new e = let r = pre.room at (let a = left-level in omega arith) in omega arith

  module _ (bare : shared lo hi ≡ []) (es : List defined.Entry) (lists : es ≡ listing s num) (d : ℕ) (ed : d ≡ length (shared lo k)) where
    -- a leaf
    module _ (leafy : level ≤ 1) where
      leaf' : LeafAt s num level
      leaf' = leaf-at s num level leafy pre.reads

      abbrev kept : List Row
      kept = lower_rows (shared lo k) (keep (up_to k) leaf'.rs)

      part-is : left_of (fresh_in free) (tree_at level s num) lo hi k at ≡ leaf (fresh_in free at) kept
      part-is = ap (λ t. left_of (fresh_in free) t lo hi k at) leaf'.tree ∙ left-leaf-bare (fresh_in free) num leaf'.rs lo hi k at bare

      line-is : bytes_of_all (pair_entries kept) ≡ side_line (up_to k) d es
      line-is =
          side-line (up_to k) (shared lo k) leaf'.es leaf'.rs leaf'.pairs ∙ ap₂ (λ n l. side_line (up_to k) n l) (sym ed) (sym (lists ∙ leaf'.node.lists))

      pub leaf-fits : length (side_line (up_to k) d es) ≤ 1016
      unfolding fits
      leaf-fits =
          let a : leb (pairs_size kept) 1016 ≡ true = ap fits (sym part-is) ∙ pre.small in
          let b = ap length line-is in
          omega (arith, leb-true (pairs_size kept) 1016 a, pairs-size kept)

      pub leaf-written : (new : ℕ) (s' : List ℕ) → new ≡ get_or free at 0 → s' ≡ write_node s new (page 1 1 (side_line (up_to k) d es))
          → s' ≡ left_write (fresh_in free) (tree_at level s num) level lo hi k at s
      unfolding left_write page_of fresh_in
      leaf-written new s' e q =
          q
          ∙ ap₂ (λ n b. write_node s n (page 1 1 b)) e (sym line-is)
          ∙ ap (λ h. write_node s (get_or free at 0) (page 1 h (bytes_of_all (pair_entries kept)))) (sym (one-level (nodes_of (length s)) level s num leafy pre.reads))
          ∙ ap (λ t. write_node s (get_or free at 0) (page_of level t)) (sym (left-leaf-bare (fresh_in free) num leaf'.rs lo hi k at bare))
          ∙ ap (λ t. left_write (fresh_in free) t level lo hi k at s) (sym leaf'.tree)

    -- an interior node
    module _ (inner : 2 ≤ level) (ks : List Branch) (among : ks ≡ branches_among es) where
      inner' : InteriorAt s num level (level - 1)
      inner' = interior-at s num level inner pre.reads

      abbrev under : ℕ → Tree
      under = λ j. tree_at (level - 1) s j

      branches-are : inner'.x.branches ≡ ks
      branches-are = sym (among ∙ ap branches_among (lists ∙ inner'.node.lists) ∙ (inside-splits inner'.es inner'.x inner'.splits).branches)

      usables : usable_in (nodes_of (length s)) (forest_of under ks) ≡ true
      usables = ap (λ l. usable_in (nodes_of (length s)) (forest_of under l)) (sym branches-are) ∙ inner'.branches

      tree_is : tree_at level s num ≡ interior num (forest_of under ks) inner'.x.messages
      tree_is = inner'.tree ∙ ap (λ l. interior num (forest_of under l) inner'.x.messages) branches-are

      pub branches-small : small_numbers ks ≡ true
      branches-small = small-branches (nodes_of (length s)) under ks pre.few (λ j. number_read (level - 1) s j) usables

      abbrev pieces : Forest
      pieces = left_in (fresh_in free) (forest_of under ks) [] hi k (suc at)

      part-is' : left_of (fresh_in free) (tree_at level s num) lo hi k at ≡ node (fresh_in free at) lo k pieces
      part-is' =
          ap (λ t. left_of (fresh_in free) t lo hi k at) tree_is
          ∙ left-node-bare (fresh_in free) num (forest_of under ks) inner'.x.messages lo hi k at bare

      fit : fits (node (fresh_in free at) lo k pieces) ≡ true
      fit = ap fits (sym part-is') ∙ pre.small

      size_fits : branches_size (lower (shared lo k) pieces) ≤ 1016
      unfolding fits node
      size_fits = leb-true (branches_size (lower (shared lo k) pieces)) 1016 (and_left _ _ (and_left _ _ fit))

      pieces-fit : fits_in (lower (shared lo k) pieces) ≡ true
      unfolding fits node
      pieces-fit = and_right (leb (branches_size (lower (shared lo k) pieces)) 1016 && short_in (lower (shared lo k) pieces)) _ fit

      asks_of : (x : Point) → PointIs (fresh_in free) under (nodes_of (length s)) k (suc at) x → PointAsks s (level - 1) k (at + 1) free x
      unfolding PointIs PointAsks
      asks_of (within n i low high) h =
          let z : suc at ≡ at + 1 = omega arith in
          record {
            reads = h.0;
            small = ap (λ a. fits (left_of (fresh_in free) (tree_at (level - 1) s i) low high k a)) (sym z) ∙ h.1;
            above = h.2;
            below = h.3;
            few = pre.few;
            levels = let a = pre.levels in omega arith;
            enough = let a = pre.enough in omega arith;
            room = λ j b. pre.room j (omega arith);
          }
      asks_of (between n low) h = tt
      asks_of (nowhere n) h = tt

      pub child-asks : PointAsks s (level - 1) k (at + 1) free (point_of 0 ks hi k)
      child-asks =
          asks_of (point_of 0 ks hi k)
          (point-is (fresh_in free) under hi k (shared lo k) (nodes_of (length s)) (suc at) ks 0 usables pieces-fit)

      module _ (m : ℕ) (em : m ≡ get_or free (at + 1) 0) where
        number_is : m ≡ fresh_in free (suc at)
        unfolding fresh_in
        number_is = let z : at + 1 ≡ suc at = omega arith in em ∙ ap (λ n. get_or free n 0) z

        line-is' : bytes_of_all (child_entries (lower (shared lo k) pieces)) ≡ before_line d m ks hi k
        line-is' =
            before-line (fresh_in free) under hi k (shared lo k) ks (suc at) (nodes_of (length s)) (λ j. number_read (level - 1) s j) usables
            ∙ ap₂ (λ a b. before_line a b ks hi k) (sym ed) (sym number_is)

        pub inner-fits : length (before_line d m ks hi k) ≤ 1016
        inner-fits = let a = size_fits in let b = branches-size (lower (shared lo k) pieces) in let e = ap length line-is' in omega arith

        pub inner-written : (new : ℕ) (s₁ s₂ : List ℕ) → new ≡ get_or free at 0
            → s₁ ≡ left_at (fresh_in free) under (level - 1) k (at + 1) s (point_of 0 ks hi k)
            → s₂ ≡ write_node s₁ new (page 2 level (before_line d m ks hi k))
            → s₂ ≡ left_write (fresh_in free) (tree_at level s num) level lo hi k at s
        inner-written new s₁ s₂ e a b =
            let f : Forest = forest_of under ks in
            let z : at + 1 ≡ suc at = omega arith in
            let w : level ≡ suc (level - 1) = omega arith in
            let number : new ≡ fresh_in free at = e ∙ own in
            let first : s₁ ≡ left_write_in (fresh_in free) f (level - 1) [] hi k (suc at) s =
            a ∙ ap (λ n. left_at (fresh_in free) under (level - 1) k n s (point_of 0 ks hi k)) z
            ∙ sym (left-write (fresh_in free) under hi k ks 0 (level - 1) (suc at) s) in
            b
            ∙ ap₂ (λ x y. write_node x new (page 2 level y)) first (sym line-is')
            ∙ ap₂ (λ n h. write_node (left_write_in (fresh_in free) f (level - 1) [] hi k (suc at) s) n (page 2 h (bytes_of_all (child_entries (lower (shared lo k) pieces))))) number w
            ∙ shown f
            ∙ ap₂ (λ h t. left_write (fresh_in free) t h lo hi k at s) (sym w) (sym tree_is)
          where
            own : get_or free at 0 ≡ fresh_in free at
            own = unfold fresh_in in refl

            shown : (f : Forest) → write_node (left_write_in (fresh_in free) (forest_of under ks) (level - 1) [] hi k (suc at) s) (fresh_in free at)
                (page 2 (suc (level - 1)) (bytes_of_all (child_entries (lower (shared lo k) pieces))))
                ≡ left_write (fresh_in free) (interior num (forest_of under ks) inner'.x.messages) (suc (level - 1)) lo hi k at s
            shown f = unfold left_write page_of left_of node in rw bare

-- THE CHILD WITHOUT WHAT IT LIFTS
module _ (s : List ℕ) (i level : ℕ) (low high k : List ℕ) (at : ℕ) (free : List ℕ) (pre : LeftAsks s i level low high k at free) (j : ℕ) (ej : j ≡ length (shared low high)) where
  within-k : shared low high ++ drop (length (shared low high)) k ≡ k
  within-k = split-cut low high k pre.above pre.below

  pub strip-short : j ≤ length k
  strip-short = let a = ap length within-k in let b = length-append (shared low high) (drop (length (shared low high)) k) in omega arith

  low' : from j low ≡ drop (length (shared low high)) low
  low' = part-rest j low ∙ ap (λ n. drop n low) ej

  high' : from j high ≡ drop (length (shared low high)) high
  high' = part-rest j high ∙ ap (λ n. drop n high) ej

  k' : from j k ≡ drop (length (shared low high)) k
  k' = part-rest j k ∙ ap (λ n. drop n k) ej

  pub strip-bare : shared (from j low) (from j high) ≡ []
  strip-bare = ap₂ shared low' high' ∙ strip-shared low high

  pub strip-asks : LeftAsks s i level (from j low) (from j high) (from j k) at free
  strip-asks =
      record {
        reads = pre.reads;
        small =
            (λ z. fits (left_of (fresh_in free) (tree_at level s i) (low' z) (high' z) (k' z) at))
            ∙ ap fits (sym (left-strip low high (fresh_in free) k pre.above pre.below (tree_at level s i) at)) ∙ pre.small;
        above =
            ap₂ before low' k' ∙ sym (before-append (shared low high) (drop (length (shared low high)) low) (drop (length (shared low high)) k))
            ∙ ap₂ before (split-low low high) within-k ∙ pre.above;
        below =
            ap₂ before k' high' ∙ sym (before-append (shared low high) (drop (length (shared low high)) k) (drop (length (shared low high)) high))
            ∙ ap₂ before within-k (split-high low high) ∙ pre.below;
        few = pre.few;
        levels = pre.levels;
        enough = pre.enough;
        room = pre.room;
      }

  pub strip-written : (s' : List ℕ) → s' ≡ left_write (fresh_in free) (tree_at level s i) level (from j low) (from j high) (from j k) at s → s' ≡ left_write (fresh_in free) (tree_at level s i) level low high k at s
  strip-written s' q =
      q ∙ (λ z. left_write (fresh_in free) (tree_at level s i) level (low' z) (high' z) (k' z) at s)
      ∙ sym (left-write-strip (fresh_in free) low high k pre.above pre.below (tree_at level s i) level at s)

-- BY THE ANSWER
module _ (s k : List ℕ) (level at : ℕ) (free : List ℕ) (x : Point) where
  module _ (b : child.Branch) (h : Holds x b) where
    pub held-asks : PointAsks s level k at free x → LeftAsks s b.number level b.low.now b.high.now k at free
    unfolding PointAsks
    held-asks a = subst (PointAsks s level k at free) h.is a

    pub held-at : (s' : List ℕ) → s' ≡ left_write (fresh_in free) (tree_at level s b.number) level b.low.now b.high.now k at s
        → s' ≡ left_at (fresh_in free) (λ j. tree_at level s j) level k at s x
    unfolding left_at
    held-at s' q = q ∙ ap (left_at (fresh_in free) (λ j. tree_at level s j) level k at s) (sym h.is)

pub missed-at : (s k : List ℕ) (level at : ℕ) (free : List ℕ) (x : Point) → Misses x → s ≡ left_at (fresh_in free) (λ j. tree_at level s j) level k at s x
unfolding left_at Misses
missed-at s k level at free (within n i low high) h = absurd h
missed-at s k level at free (between n low) h = refl
missed-at s k level at free (nowhere n) h = refl
