-- The move written into an image: eight slices into free nodes, one after another, then the new root. What is read back is the moved tree.
use Rattle.std.specs.Prelude.{ℕ, suc, ◌+◌, ◌*◌, ◌≤◌, ◌≡◌, refl, List, [], Bool, true, false, cond, length}
use Rattle.image.specs.Prelude.{ap, subst, ◌∙◌, arith}
use Rattle.image.specs.Entry.{pivot_limit}
use Rattle.image.specs.Bytes.{same, before, begins}
use Rattle.image.specs.Image.{Tree, tree, tree_at}
use Rattle.image.specs.Sound.{highest}
use Rattle.octets.specs.Order.{not_so, same_false, before-total}
use Rattle.laws.specs.WriteNode.{write_node}
use Rattle.laws.specs.Pieces.{Good}
use Rattle.slice.specs.Slicing.Slice.{right_of}
use Rattle.slice.specs.Slicing.SliceNumbers.{met, met_in, met-node, spent, taken}
use Rattle.octets.specs.Beginnings.{begins-refl, begins-append as begins-past}
use Rattle.slice.specs.Slicing.SliceFits.{fits}
use Rattle.laws.specs.Page.{number_of}
use Rattle.slice.specs.Slicing.ReadBack.{ReadsIn}
use Rattle.slice.specs.Slicing.SliceWrite.{page_of, page_of-full, one_same, Only, only_none, only-more, left_write, number-left, LeftDone, left-written}
use Rattle.slice.specs.Slicing.RightWrite.{right_write, RightDone, right-written, reads-joined}
use Rattle.slice.specs.Slicing.Tail.{tail_of, gap_of, tail-good, tail-met}
use Rattle.image.specs.Path.{well_formed}
use Rattle.slice.specs.Slicing.Range.{past, before-past, before-aside, formed-inside}
use Rattle.slice.specs.Moving.Move.{left_past_r, right_past_r, left_r, mid_r, left_past_p, right_past_p, left_p, mid_p, pieces, root_over, moved_tree}
use Rattle.slice.specs.Moving.MoveLaws.{taken-two, taken-one, short-of, b-past-p, b-r, b-past-r, cut-1, cut-2, cut-3, fit-1, fit-2, fit-3, short-past, Well}
use Rattle.slice.specs.Moving.GapWrite.{spent-block, only_then, gap_write, first_read, Within, WithinIn, keep-read, keep-reads, apart, within-left, within-right, within-self, within-later, within-tail, gap_at, gap-number-at, node_at}

pub record HoldsMoved (fresh : ℕ → ℕ) (h : ℕ) (new : Tree) (s s' : List ℕ) : Type 0 where
  pub is_there : tree_at (suc h) s' (fresh (10 * h)) ≡ new
  pub only_new : Only fresh s s' (suc (10 * h)) 0

-- the images between
module _ (fresh : ℕ → ℕ) (h : ℕ) (t : Tree) (p r s : List ℕ) where
  unfoldable pub im1 : List ℕ
  im1 = left_write fresh t h [] highest (past r) 0 s

  unfoldable pub im2 : List ℕ
  im2 = right_write fresh true t h [] highest (past r) h im1

  unfoldable pub im3 : List ℕ
  im3 = left_write fresh (left_past_r fresh h t p r) h [] (past r) r (3 * h) im2

  unfoldable pub im4 : List ℕ
  im4 = left_write fresh (left_r fresh h t p r) h [] r (past p) (4 * h) im3

  unfoldable pub im5 : List ℕ
  im5 = right_write fresh true (left_r fresh h t p r) h [] r (past p) (5 * h) im4

  unfoldable pub im6 : List ℕ
  im6 = left_write fresh (left_past_p fresh h t p r) h [] (past p) p (7 * h) im5

  -- the tail, the gap, the root
  unfoldable pub im7 : Tree → List ℕ → List ℕ
  im7 u q = right_write fresh false u h [] (past q) q (8 * h) im6

  unfoldable pub im8 : Tree → List ℕ → List ℕ
  im8 u q = gap_write fresh h q (past q) (9 * h) (im7 u q)

  unfoldable pub im9 : Tree → List ℕ → Tree → Tree → List ℕ
  im9 u q x y = write_node (im8 u q) (fresh (10 * h)) (page_of (suc h) (root_over fresh h t p r x y))

  -- what they rely on: a sound tree that fits, read from the image; two ranges, one before the other; free nodes, none of them the tree's
  pub record MoveAsks : Type 0 where
    pub good : Good h t [] highest
    pub above : before [] p ≡ true
    pub between : before (past p) r ≡ true
    pub below : before (past r) highest ≡ true
    pub short_p : length (past p) ≤ pivot_limit
    pub short_r : length (past r) ≤ pivot_limit
    pub fit : fits t ≡ true
    pub room : (x : ℕ) → 1024 * fresh x + 1024 ≤ length s
    pub reads : tree_at h s (number_of t) ≡ t
    pub once : (j : ℕ) → met j t + spent fresh j (suc (10 * h)) 0 ≤ 1

  module _ (asks : MoveAsks) where
    open asks use {good, above, between, below, short_p, short_r, fit, room, reads, once}

    pub g1 : Good h (left_past_r fresh h t p r) [] (past r)
    g1 = (cut-1 fresh h t p r good above between below).low

    pub g3 : Good h (left_r fresh h t p r) [] r
    g3 = (cut-2 fresh h t p r good above between below).low

    pub g4 : Good h (left_past_p fresh h t p r) [] (past p)
    g4 = (cut-3 fresh h t p r good above between below).low

    pub f1 : fits (left_past_r fresh h t p r) ≡ true
    f1 = (fit-1 fresh h t p r good above between below short_p short_r fit).0

    pub f3 : fits (left_r fresh h t p r) ≡ true
    f3 = fit-2 fresh h t p r good above between below short_p short_r fit

    pub f4 : fits (left_past_p fresh h t p r) ≡ true
    f4 = (fit-3 fresh h t p r good above between below short_p short_r fit).0

    -- whose numbers are whose
    pub w1 : Within fresh t (suc (10 * h)) once h (left_past_r fresh h t p r)
    unfolding left_past_r
    w1 = within-left fresh t (suc (10 * h)) once t 0 h [] highest (past r) 0 h (omega arith) (omega arith) good.level (within-self fresh t (suc (10 * h)) once)

    pub w2 : WithinIn fresh t (suc (10 * h)) once (3 * h) (right_past_r fresh h t p r)
    unfolding right_past_r
    w2 = within-right fresh t (suc (10 * h)) once true t 0 h [] highest (past r) h (3 * h) (omega arith) (omega (arith, taken-two h)) good.level (within-self fresh t (suc (10 * h)) once)

    pub w3 : Within fresh t (suc (10 * h)) once (4 * h) (left_r fresh h t p r)
    unfolding left_r
    w3 = within-left fresh t (suc (10 * h)) once (left_past_r fresh h t p r) h h [] (past r) r (3 * h) (4 * h) (omega arith) (omega arith) g1.level w1

    pub w4 : Within fresh t (suc (10 * h)) once (5 * h) (left_past_p fresh h t p r)
    unfolding left_past_p
    w4 = within-left fresh t (suc (10 * h)) once (left_r fresh h t p r) (4 * h) h [] r (past p) (4 * h) (5 * h) (omega arith) (omega arith) g3.level w3

    pub w5 : WithinIn fresh t (suc (10 * h)) once (7 * h) (right_past_p fresh h t p r)
    unfolding right_past_p
    w5 = within-right fresh t (suc (10 * h)) once true (left_r fresh h t p r) (4 * h) h [] r (past p) (5 * h) (7 * h) (omega arith) (omega (arith, taken-two h)) g3.level w3

    pub w6 : Within fresh t (suc (10 * h)) once (8 * h) (left_p fresh h t p r)
    unfolding left_p
    w6 = within-left fresh t (suc (10 * h)) once (left_past_p fresh h t p r) (5 * h) h [] (past p) p (7 * h) (8 * h) (omega arith) (omega arith) g4.level w4

    -- slice by slice
    pub d1 : LeftDone fresh s im1 h 0 (left_past_r fresh h t p r)
    unfolding im1 left_past_r
    d1 =
        left-written fresh (length s) room t h [] highest (past r) 0 s (omega arith) good fit (b-past-r fresh h t p r good above between below) below short_r reads
        (apart fresh t (suc (10 * h)) once t 0 h 0 (omega arith) (omega arith) (within-self fresh t (suc (10 * h)) once))

    pub t1 : tree_at h im1 (number_of t) ≡ t
    t1 = keep-read fresh t (suc (10 * h)) once h s im1 t 0 h 0 (omega arith) (omega arith) (within-self fresh t (suc (10 * h)) once) d1.only reads

    pub d2 : RightDone fresh im1 im2 h (taken true h) h (right_past_r fresh h t p r)
    unfolding im2 right_past_r
    d2 =
        right-written fresh true t h [] highest (past r) h im1 (λ x. omega (arith, room x, d1.only.size)) good fit (b-past-r fresh h t p r good above between below) below
        short_r refl t1
        (apart fresh t (suc (10 * h)) once t 0 (taken true h) h (omega arith) (omega (arith, taken-two h)) (within-self fresh t (suc (10 * h)) once))

    pub o2 : Only fresh im1 im2 (2 * h) h
    o2 = subst (λ x. Only fresh im1 im2 x h) (taken-two h) d2.only

    pub n1 : number_of (left_past_r fresh h t p r) ≡ fresh 0
    unfolding left_past_r
    n1 = number-left fresh t h [] highest (past r) 0 good.level

    pub l1-2 : tree_at h im2 (number_of (left_past_r fresh h t p r)) ≡ left_past_r fresh h t p r
    l1-2 =
        keep-read fresh t (suc (10 * h)) once h im1 im2 (left_past_r fresh h t p r) h (2 * h) h (omega arith) (omega arith) w1 o2
        (ap (tree_at h im1) n1 ∙ d1.reads)

    pub size2 : length im2 ≡ length s
    size2 = o2.size ∙ d1.only.size

    pub d3 : LeftDone fresh im2 im3 h (3 * h) (left_r fresh h t p r)
    unfolding im3 left_r
    d3 =
        left-written fresh (length s) room (left_past_r fresh h t p r) h [] (past r) r (3 * h) im2 (omega (arith, size2)) g1 f1
        (b-r fresh h t p r good above between below) (before-past r) (short-of r short_r) l1-2
        (apart fresh t (suc (10 * h)) once (left_past_r fresh h t p r) h h (3 * h) (omega arith) (omega arith) w1)

    pub n3 : number_of (left_r fresh h t p r) ≡ fresh (3 * h)
    unfolding left_r
    n3 = number-left fresh (left_past_r fresh h t p r) h [] (past r) r (3 * h) g1.level

    pub l3-3 : tree_at h im3 (number_of (left_r fresh h t p r)) ≡ left_r fresh h t p r
    l3-3 = ap (tree_at h im3) n3 ∙ d3.reads

    pub d4 : LeftDone fresh im3 im4 h (4 * h) (left_past_p fresh h t p r)
    unfolding im4 left_past_p
    d4 =
        left-written fresh (length s) room (left_r fresh h t p r) h [] r (past p) (4 * h) im3 (omega (arith, size2, d3.only.size)) g3 f3
        (b-past-p fresh h t p r good above between below) between short_p l3-3
        (apart fresh t (suc (10 * h)) once (left_r fresh h t p r) (4 * h) h (4 * h) (omega arith) (omega arith) w3)

    pub l3-4 : tree_at h im4 (number_of (left_r fresh h t p r)) ≡ left_r fresh h t p r
    l3-4 = keep-read fresh t (suc (10 * h)) once h im3 im4 (left_r fresh h t p r) (4 * h) h (4 * h) (omega arith) (omega arith) w3 d4.only l3-3

    pub d5 : RightDone fresh im4 im5 h (taken true h) (5 * h) (right_past_p fresh h t p r)
    unfolding im5 right_past_p
    d5 =
        right-written fresh true (left_r fresh h t p r) h [] r (past p) (5 * h) im4
        (λ x. omega (arith, room x, size2, d3.only.size, d4.only.size)) g3 f3 (b-past-p fresh h t p r good above between below) between short_p refl l3-4
        (apart fresh t (suc (10 * h)) once (left_r fresh h t p r) (4 * h) (taken true h) (5 * h) (omega arith) (omega (arith, taken-two h)) w3)

    pub o5 : Only fresh im4 im5 (2 * h) (5 * h)
    o5 = subst (λ x. Only fresh im4 im5 x (5 * h)) (taken-two h) d5.only

    pub n4 : number_of (left_past_p fresh h t p r) ≡ fresh (4 * h)
    unfolding left_past_p
    n4 = number-left fresh (left_r fresh h t p r) h [] r (past p) (4 * h) g3.level

    pub l4-5 : tree_at h im5 (number_of (left_past_p fresh h t p r)) ≡ left_past_p fresh h t p r
    l4-5 =
        keep-read fresh t (suc (10 * h)) once h im4 im5 (left_past_p fresh h t p r) (5 * h) (2 * h) (5 * h) (omega arith) (omega arith) w4 o5
        (ap (tree_at h im4) n4 ∙ d4.reads)

    pub size5 : length im5 ≡ length s
    size5 = o5.size ∙ d4.only.size ∙ d3.only.size ∙ size2

    pub d6 : LeftDone fresh im5 im6 h (7 * h) (left_p fresh h t p r)
    unfolding im6 left_p
    d6 =
        left-written fresh (length s) room (left_past_p fresh h t p r) h [] (past p) p (7 * h) im5 (omega (arith, size5)) g4 f4
        above (before-past p) (short-of p short_p) l4-5
        (apart fresh t (suc (10 * h)) once (left_past_p fresh h t p r) (5 * h) h (7 * h) (omega arith) (omega arith) w4)

    pub n6 : number_of (left_p fresh h t p r) ≡ fresh (7 * h)
    unfolding left_p
    n6 = number-left fresh (left_past_p fresh h t p r) h [] (past p) p (7 * h) g4.level

    -- what is read after the last left slice
    o26 : Only fresh im2 im6 (5 * h) (3 * h)
    o26 =
        only_then fresh im2 im3 im6 h (4 * h) (5 * h) (3 * h) (4 * h) (omega arith) (omega arith) d3.only
        (only_then fresh im3 im4 im6 h (3 * h) (4 * h) (4 * h) (5 * h) (omega arith) (omega arith) d4.only
        (only_then fresh im4 im5 im6 (2 * h) h (3 * h) (5 * h) (7 * h) (omega arith) (omega arith) o5 d6.only))

    pub size6 : length im6 ≡ length s
    size6 = o26.size ∙ size2

    pub l1-6 : tree_at h im6 (number_of (left_past_r fresh h t p r)) ≡ left_past_r fresh h t p r
    l1-6 =
        keep-read fresh t (suc (10 * h)) once h im2 im6 (left_past_r fresh h t p r) h (5 * h) (3 * h) (omega arith) (omega arith) w1 o26 l1-2

    pub l4-6 : tree_at h im6 (number_of (left_past_p fresh h t p r)) ≡ left_past_p fresh h t p r
    l4-6 =
        keep-read fresh t (suc (10 * h)) once h im5 im6 (left_past_p fresh h t p r) (5 * h) h (7 * h) (omega arith) (omega arith) w4 d6.only l4-5

    -- the tail of u at q, the gap, and the root over them
    module _ (k : ℕ) (eh : h ≡ suc k) (u : Tree) (q : List ℕ) (gu : Good h u [] (past q)) (fu : fits u ≡ true) (b-q : before [] q ≡ true) (short-q : length (past q) ≤ pivot_limit)
        (wu : Within fresh t (suc (10 * h)) once (8 * h) u) (ru : tree_at h im6 (number_of u) ≡ u) where
      pub d7 : RightDone fresh im6 (im7 u q) h (taken false h) (8 * h) (right_of fresh false u [] (past q) q (8 * h))
      unfolding im7
      d7 =
          right-written fresh false u h [] (past q) q (8 * h) im6 (λ x. omega (arith, room x, size6)) gu fu b-q (before-past q) (short-of q short-q)
          (begins-past q highest) ru (apart fresh t (suc (10 * h)) once u (8 * h) (taken false h) (8 * h) (omega arith) (omega (arith, taken-one h)) wu)

      pub o7 : Only fresh im6 (im7 u q) h (8 * h)
      o7 = subst (λ x. Only fresh im6 (im7 u q) x (8 * h)) (taken-one h) d7.only

      pub m7 : tree_at h (im7 u q) (number_of (tail_of fresh u [] (past q) q (8 * h))) ≡ tail_of fresh u [] (past q) q (8 * h)
      unfolding tail_of
      m7 =
          first_read (λ j. tree_at h (im7 u q) j) (right_of fresh false u [] (past q) q (8 * h)) q (past q) d7.reads
          (tail-good fresh u h [] (past q) q (8 * h) gu b-q (before-past q)).sound

      wm : Within fresh t (suc (10 * h)) once (9 * h) (tail_of fresh u [] (past q) q (8 * h))
      wm =
          within-tail fresh t (suc (10 * h)) once u (tail_of fresh u [] (past q) q (8 * h)) (8 * h) h (past q) q (8 * h) (9 * h)
          (λ j. tail-met fresh u h [] (past q) q (8 * h) gu b-q (before-past q) j) (omega arith) (omega arith) gu.level wu

      gap-new : (j : ℕ) → spent fresh j h (9 * h) ≤ 1
      gap-new j = omega (arith, once j, spent-block fresh j 0 h (9 * h) (suc (10 * h)) (omega arith) (omega arith))

      pub d8 : LeftDone fresh (im7 u q) (im8 u q) h (9 * h) (gap_of fresh h q (past q) (9 * h))
      unfolding im8
      d8 =
          gap_at fresh h k eh q (short-of q short-q) (9 * h) (im7 u q) (λ x. omega (arith, room x, size6, o7.size)) gap-new

      pub tail-8 : tree_at h (im8 u q) (number_of (tail_of fresh u [] (past q) q (8 * h))) ≡ tail_of fresh u [] (past q) q (8 * h)
      tail-8 =
          keep-read fresh t (suc (10 * h)) once h (im7 u q) (im8 u q) (tail_of fresh u [] (past q) q (8 * h)) (9 * h) h (9 * h) (omega arith)
          (omega arith) wm d8.only m7

      pub gap-8 : tree_at h (im8 u q) (number_of (gap_of fresh h q (past q) (9 * h))) ≡ gap_of fresh h q (past q) (9 * h)
      gap-8 = ap (tree_at h (im8 u q)) (gap-number-at fresh h k eh q (9 * h)) ∙ d8.reads

      o68 : Only fresh im6 (im8 u q) (2 * h) (8 * h)
      o68 = only_then fresh im6 (im7 u q) (im8 u q) h h (2 * h) (8 * h) (9 * h) (omega arith) (omega arith) o7 d8.only

      o58 : Only fresh im5 (im8 u q) (3 * h) (7 * h)
      o58 = only_then fresh im5 im6 (im8 u q) h (2 * h) (3 * h) (7 * h) (8 * h) (omega arith) (omega arith) d6.only o68

      o28 : Only fresh im2 (im8 u q) (7 * h) (3 * h)
      o28 = only_then fresh im2 im6 (im8 u q) (5 * h) (2 * h) (7 * h) (3 * h) (8 * h) (omega arith) (omega arith) o26 o68

      pub o08 : Only fresh s (im8 u q) (10 * h) 0
      o08 =
          only_then fresh s im1 (im8 u q) h (9 * h) (10 * h) 0 h (omega arith) (omega arith) d1.only
          (only_then fresh im1 im2 (im8 u q) (2 * h) (7 * h) (9 * h) h (3 * h) (omega arith) (omega arith) o2 o28)

      pub left-8 : tree_at h (im8 u q) (number_of (left_p fresh h t p r)) ≡ left_p fresh h t p r
      left-8 =
          keep-read fresh t (suc (10 * h)) once h im6 (im8 u q) (left_p fresh h t p r) (8 * h) (2 * h) (8 * h) (omega arith) (omega arith) w6 o68
          (ap (tree_at h im6) n6 ∙ d6.reads)

      pub right-p-8 : ReadsIn (λ j. tree_at h (im8 u q) j) (right_past_p fresh h t p r)
      right-p-8 =
          keep-reads fresh t (suc (10 * h)) once h im5 (im8 u q) (right_past_p fresh h t p r) (7 * h) (3 * h) (7 * h) (omega arith) (omega arith) w5
          o58 d5.reads

      pub right-r-8 : ReadsIn (λ j. tree_at h (im8 u q) j) (right_past_r fresh h t p r)
      right-r-8 =
          keep-reads fresh t (suc (10 * h)) once h im2 (im8 u q) (right_past_r fresh h t p r) (3 * h) (7 * h) (3 * h) (omega arith) (omega arith) w2
          o28 d2.reads

      module _ (x y : Tree) (rx : tree_at h (im8 u q) (number_of x) ≡ x) (ry : tree_at h (im8 u q) (number_of y) ≡ y)
          (fr : fits (root_over fresh h t p r x y) ≡ true) (nr : (j : ℕ) → met j (root_over fresh h t p r x y) ≤ met j t + spent fresh j (suc (10 * h)) 0) where
        spread-8 : ReadsIn (λ j. tree_at h (im8 u q) j) (pieces fresh h t p r x y)
        unfolding pieces ReadsIn
        spread-8 =
            (left-8, (rx, reads-joined (λ j. tree_at h (im8 u q) j) (right_past_p fresh h t p r) (tree r y (right_past_r fresh h t p r)) right-p-8 (ry, right-r-8)))

        root-new : met_in (fresh (10 * h)) (pieces fresh h t p r x y) ≡ 0
        unfolding root_over
        root-new =
            omega (arith, met-node (fresh (10 * h)) (fresh (10 * h)) [] highest (pieces fresh h t p r x y), nr (fresh (10 * h)), once (fresh (10 * h)), one_same (fresh (10 * h)))

        -- the whole is read back
        holds-9 : HoldsMoved fresh h (root_over fresh h t p r x y) s (im9 u q x y)
        unfolding im9 root_over
        holds-9 =
            record {
              is_there = node_at h k eh (im8 u q) (fresh (10 * h)) [] highest (pieces fresh h t p r x y) (omega (arith, room (10 * h), o08.size)) fr root-new spread-8;
              only_new =
                  only_then fresh s (im8 u q) (im9 u q x y) (10 * h) 1 (suc (10 * h)) 0 (10 * h) (omega arith) (omega arith) o08
                  (only-more fresh (im8 u q) (im8 u q) 0 (10 * h) (page_of (suc h) (root_over fresh h t p r x y)) (omega (arith, room (10 * h), o08.size))
                  (page_of-full (suc h) (root_over fresh h t p r x y) fr) (only_none fresh (im8 u q) 0 (suc (10 * h))));
            }

    -- the range of p moved, and that of r
    module _ (k : ℕ) (eh : h ≡ suc k) (from to : List ℕ) where
      holds-p : Well fresh h from to t (root_over fresh h t p r (gap_of fresh h p (past p) (9 * h)) (mid_p fresh h t p r))
          → HoldsMoved fresh h (root_over fresh h t p r (gap_of fresh h p (past p) (9 * h)) (mid_p fresh h t p r)) s
          (im9 (left_past_p fresh h t p r) p (gap_of fresh h p (past p) (9 * h)) (mid_p fresh h t p r))
      unfolding mid_p
      holds-p w =
          let wu = within-later fresh t (suc (10 * h)) once (left_past_p fresh h t p r) (5 * h) (8 * h) (omega arith) w4 in
          holds-9 k eh (left_past_p fresh h t p r) p g4 f4 above short_p wu l4-6 (gap_of fresh h p (past p) (9 * h)) (mid_p fresh h t p r)
          (gap-8 k eh (left_past_p fresh h t p r) p g4 f4 above short_p wu l4-6) (tail-8 k eh (left_past_p fresh h t p r) p g4 f4 above short_p wu l4-6) w.new_fits w.new_numbers

      holds-r : Well fresh h from to t (root_over fresh h t p r (mid_r fresh h t p r) (gap_of fresh h r (past r) (9 * h)))
          → HoldsMoved fresh h (root_over fresh h t p r (mid_r fresh h t p r) (gap_of fresh h r (past r) (9 * h))) s
          (im9 (left_past_r fresh h t p r) r (mid_r fresh h t p r) (gap_of fresh h r (past r) (9 * h)))
      unfolding mid_r
      holds-r w =
          let wu = within-later fresh t (suc (10 * h)) once (left_past_r fresh h t p r) h (8 * h) (omega arith) w1 in
          let b = b-r fresh h t p r good above between below in
          holds-9 k eh (left_past_r fresh h t p r) r g1 f1 b short_r wu l1-6 (mid_r fresh h t p r) (gap_of fresh h r (past r) (9 * h))
          (tail-8 k eh (left_past_r fresh h t p r) r g1 f1 b short_r wu l1-6) (gap-8 k eh (left_past_r fresh h t p r) r g1 f1 b short_r wu l1-6) w.new_fits w.new_numbers

-- THE MOVE, as a function on images: all but node 0.
unfoldable pub moved_image : (ℕ → ℕ) → ℕ → Tree → List ℕ → List ℕ → List ℕ → List ℕ
moved_image fresh h t from to s =
    cond (before from to)
    (im9 fresh h t from to s (left_past_p fresh h t from to) from (gap_of fresh h from (past from) (9 * h)) (mid_p fresh h t from to))
    (im9 fresh h t to from s (left_past_r fresh h t to from) from (mid_r fresh h t to from) (gap_of fresh h from (past from) (9 * h)))

module _ (fresh : ℕ → ℕ) (h k : ℕ) (eh : h ≡ suc k) (t : Tree) (from to : List ℕ) (good : Good h t [] highest) (fit : fits t ≡ true)
    (formed_from : well_formed from ≡ true) (formed_to : well_formed to ≡ true) (apart-1 : begins from to ≡ false) (apart-2 : begins to from ≡ false)
    (w : Well fresh h from to t (moved_tree fresh h t from to))
    (s : List ℕ) (room : (x : ℕ) → 1024 * fresh x + 1024 ≤ length s) (e : tree_at h s (number_of t) ≡ t)
    (D : (j : ℕ) → met j t + spent fresh j (suc (10 * h)) 0 ≤ 1) where
  asks : (p r : List ℕ) → well_formed p ≡ true → well_formed r ≡ true → before (past p) r ≡ true → MoveAsks fresh h t p r s
  asks p r formed-p formed-r lt =
      record {
        good = good;
        above = (formed-inside p formed-p).0;
        between = lt;
        below = (formed-inside r formed-r).1;
        short_p = short-past p formed-p;
        short_r = short-past r formed-r;
        fit = fit;
        room = room;
        reads = e;
        once = D;
      }

  pub image_holds : HoldsMoved fresh h (moved_tree fresh h t from to) s (moved_image fresh h t from to s)
  unfolding moved_image moved_tree
  image_holds = go (before from to) refl
    where
      go : (x : Bool) → before from to ≡ x → HoldsMoved fresh h (moved_tree fresh h t from to) s (moved_image fresh h t from to s)
      go true b = rw b (holds-p fresh h t from to s (asks from to formed_from formed_to (before-aside from to highest b apart-1)) k eh from to (rw b at w))
      go false b =
          let z : same to from ≡ false = same_false to from (λ q. not_so (rw q (begins-refl from)) apart-2) in
          rw b (holds-r fresh h t to from s (asks to from formed_to formed_from (before-aside to from highest (before-total to from z b) apart-2)) k eh from to (rw b at w))
