-- What each step of a swing asks, from the plan; and the image that it leaves, as slice/Moving's laws have it.
-- Relies on slice/Moving's MoveWrite (what is read between the cuts) and on slice's Callers.
use Rattle.std.specs.Prelude.{ℕ, suc, ◌+◌, ◌*◌, ◌-◌, ◌≤◌, ◌≡◌, refl, List, [], Bool, true, false, ◌||◌, length, take}
use Rattle.image.specs.Prelude.{sym, ap, ap₂, subst, ◌∙◌, arith, length-append, take_at}
use Rattle.image.specs.Bytes.{before, begins}
use Rattle.image.specs.Entry.{pivot_limit}
use Rattle.image.specs.Image.{Tree, nodes_of, header_of, tree_at, tree_of}
use Rattle.image.specs.Sound.{highest, numbers}
use Rattle.laws.specs.Pieces.{Good}
use Rattle.node.specs.Whole.{whole_parts}
use Rattle.laws.specs.Page.{number_of, branches_of, number_read}
use Rattle.laws.specs.Reading.Relative.{usable, sound-usable}
use Rattle.slice.specs.Slicing.Slice.{right_of}
use Rattle.slice.specs.Slicing.SliceNumbers.{hits-met}
use Rattle.slice.specs.Slicing.SliceWrite.{left_write}
use Rattle.slice.specs.Slicing.RightWrite.{right_write}
use Rattle.slice.specs.Slicing.Range.{past, before-past}
use Rattle.slice.specs.Moving.GapWrite.{gap_write, Within, within-self, within-later, gap-number-at}
use Rattle.slice.specs.Slicing.SliceFits.{fits}
use Rattle.slice.specs.Slicing.Tail.{tail-good}
use Rattle.slice.specs.Moving.Move.{left_past_r, right_past_r, left_r, mid_r, left_past_p, right_past_p, left_p, mid_p}
use Rattle.slice.specs.Moving.MoveLaws.{short-of, b-past-p, b-r, b-past-r, some_level}
use Rattle.octets.specs.Beginnings.{begins-append as begins-past}
use Rattle.slice.specs.Moving.MoveImage.{range-of}
use Rattle.slice.specs.Moving.MoveWrite.{MoveAsks, im1, im2, im3, im4, im5, im6, im7, im8, g1, g3, g4, f1, f4, w1, w3, w4, d1, t1, n1, l1-2, size2, d3, n3, l3-3, d4, l3-4, n4, l4-5, size5, size6, l1-6, l4-6, n6, o7, o08}
use Rattle.slice.specs.declared.Parts.{Parts}
use Rattle.slice.specs.Point.{fresh_in}
use Rattle.slice.specs.Left.{LeftAsks}
use Rattle.slice.specs.Right.{RightAsks, pieces_in, raise_branches}
use Rattle.slice.specs.GapSteps.{GapAsks}
use Rattle.slice.specs.Callers.{left-asked, right-asked}
use Rattle.swing.specs.declared.Cuts.{Cuts}
use Rattle.swing.specs.Cuts.{front, left_in, right_in, range_in, RangeAsks, RangeAs, high_in, BothAsks, BothAs, tail_in, out_in, OutAsks, taken_number, taken_bound, taken_out, TakeAsks, low_place}
use Rattle.swing.specs.Plan.{under_low, under_high, taken, taken_path, Plan}
use Rattle.swing.specs.RootLaws.{number-tail}

-- THE PATH THAT A RANGE ENDS BEHIND
pub past-length : (p : List ℕ) → length (past p) ≡ length p + 1
past-length p = length-append p highest

pub front-past : (p : List ℕ) → front (past p) ≡ p
unfolding front
front-past p = let e : length (past p) - 1 ≡ length p = omega (arith, past-length p) in ap (λ n. take n (past p)) e ∙ take_at p highest (length p) refl

-- ONE RANGE, from what is known of the images between
module _ (free : List ℕ) (h num : ℕ) (u inner : Tree) (hi bound path : List ℕ) (at b c : ℕ) (s₀ s₁ s₂ s₃ : List ℕ) (eb : b ≡ at + h) (ec : c ≡ at + 3 * h)
    (ef : front bound ≡ path) (read₀ : tree_at h s₀ num ≡ u) (read₁ : tree_at h s₁ num ≡ u) (read₂ : tree_at h s₂ (fresh_in free at) ≡ inner)
    (w₁ : s₁ ≡ left_write (fresh_in free) u h [] hi bound at s₀) (w₂ : s₂ ≡ right_write (fresh_in free) true u h [] hi bound b s₁)
    (w₃ : s₃ ≡ left_write (fresh_in free) inner h [] bound path c s₂) where
  left_is : left_in s₀ num h hi bound at free ≡ s₁
  unfolding left_in
  left_is = ap (λ t. left_write (fresh_in free) t h [] hi bound at s₀) read₀ ∙ sym w₁

  right_is : right_in s₀ num h hi bound at free ≡ s₂
  unfolding right_in
  right_is =
      ap (λ s. right_write (fresh_in free) true (tree_at h s num) h [] hi bound (at + h) s) left_is
      ∙ ap₂ (λ t k. right_write (fresh_in free) true t h [] hi bound k s₁) read₁ (sym eb) ∙ sym w₂

  pub range-is : range_in s₀ num h hi bound at free ≡ s₃
  unfolding range_in
  range-is =
      ap (λ s. left_write (fresh_in free) (tree_at h s (fresh_in free at)) h [] bound (front bound) (at + 3 * h) s) right_is
      ∙ ap₂ (λ t q. left_write (fresh_in free) t h [] bound q (at + 3 * h) s₂) read₂ ef ∙ ap (λ k. left_write (fresh_in free) inner h [] bound path k s₂) (sym ec) ∙ sym w₃

  pub range-asked : 1 ≤ h → 1 ≤ length bound → length bound ≤ 65 → LeftAsks s₀ num h [] hi bound at free → RightAsks true s₁ num h [] hi bound b free
      → LeftAsks s₂ (fresh_in free at) h [] bound path c free → RangeAsks s₀ num h hi bound at free
  range-asked some ends short a₀ a₁ a₂ =
      record {
        some = some;
        ends = ends;
        short = short;
        left = a₀;
        right = subst (λ s. RightAsks true s num h [] hi bound (at + h) free) (sym left_is) (subst (λ k. RightAsks true s₁ num h [] hi bound k free) eb a₁);
        inner =
            subst (λ s. LeftAsks s (fresh_in free at) h [] bound (front bound) (at + 3 * h) free) (sym right_is)
            (subst (λ q. LeftAsks s₂ (fresh_in free at) h [] bound q (at + 3 * h) free) (sym ef) (subst (λ k. LeftAsks s₂ (fresh_in free at) h [] bound path k free) ec a₂));
      }

  -- the pieces behind it
  pub range-pieces : (s' out : List ℕ) (r : Parts) → RangeAs s₀ num h hi bound at free s' out r
      → raise_branches [] (branches_of (right_of (fresh_in free) true u [] hi bound b)) ≡ pieces_in (fresh_in free b) (fresh_in free (b + 1)) bound out r
  range-pieces s' out r a =
      sym (ap₂ (λ t k. raise_branches [] (branches_of (right_of (fresh_in free) true t [] hi bound k))) (ap (λ s. tree_at h s num) left_is ∙ read₁) (sym eb)) ∙ a.pieces
      ∙ ap (λ k. pieces_in (fresh_in free k) (fresh_in free (k + 1)) bound out r) (sym eb)

  pub range-written : (s' out : List ℕ) (r : Parts) → RangeAs s₀ num h hi bound at free s' out r → s' ≡ s₃
  range-written s' out r a = a.written ∙ range-is

module _ (s free p r : List ℕ) (up : Bool) (plan : Plan s free p r up) where
  abbrev F : ℕ → ℕ
  F = fresh_in free

  abbrev h : ℕ
  h = (header_of s).levels

  abbrev t : Tree
  t = tree_of s

  levels : (k : ℕ) × (h ≡ suc k)
  levels = some_level t h plan.good.level

  root-reads : tree_at h s (header_of s).root ≡ t
  unfolding tree_of
  root-reads = refl

  root-number : number_of t ≡ (header_of s).root
  unfolding tree_of
  root-number = number_read (header_of s).levels s (header_of s).root

  abbrev asks : MoveAsks F h t p r s
  asks =
      record {
        good = plan.good;
        above = plan.above;
        between = plan.between;
        below = plan.below;
        short_p = plan.short_p;
        short_r = plan.short_r;
        fit = plan.fit;
        room = plan.room;
        reads = ap (tree_at h s) root-number ∙ root-reads;
        once = plan.once;
      }

  -- WHAT A CUT ASKS
  usable-of : (u : Tree) (c : ℕ) (lo hi : List ℕ) → Good h u lo hi → Within F t (suc (10 * h)) plan.once c u → c ≤ suc (10 * h) → usable (nodes_of (length s)) u ≡ true
  unfolding Within
  usable-of u c lo hi g w l =
      sound-usable u (nodes_of (length s)) lo hi g.sound (range-of (nodes_of (length s)) (numbers u) (λ j q. plan.range j c l (omega (arith, hits-met j u, w j))))

  module _ (im : List ℕ) (num : ℕ) (u : Tree) (c : ℕ) (lo hi k : List ℕ) (at : ℕ) (reads : tree_at h im num ≡ u) (size : length im ≡ length s) (g : Good h u lo hi)
      (w : Within F t (suc (10 * h)) plan.once c u) (l : c ≤ suc (10 * h)) (above : before lo k ≡ true) (below : before k hi ≡ true) (short : length k ≤ pivot_limit) where
    reads-in : usable (nodes_of (length im)) (tree_at h im num) ≡ true
    reads-in = ap₂ (λ m x. usable (nodes_of m) x) size reads ∙ usable-of u c lo hi g w l

    few-in : nodes_of (length im) ≤ 1024
    few-in = subst (λ m. nodes_of m ≤ 1024) (sym size) (whole_parts (length s) plan.whole).few

    good-in : Good h (tree_at h im num) lo hi
    good-in = subst (λ x. Good h x lo hi) (sym reads) g

    room_in : (i : ℕ) → fresh_in free i * 1024 + 1024 ≤ length im
    room_in i = omega (arith, plan.room i, size)

    left_at : at + h ≤ 10 * h → LeftAsks im num h lo hi k at free
    left_at a =
        left-asked im num h lo hi k free reads-in good-in above below short few-in (omega (arith, plan.low)) at (omega (arith, plan.enough)) (λ i q. room_in i)

    right-at : (v : Bool) → v || begins k hi ≡ true → at + 2 * h ≤ 10 * h → RightAsks v im num h lo hi k at free
    right-at v e a =
        right-asked im num h lo hi k free reads-in good-in above below short few-in (omega (arith, plan.low)) at v e (omega (arith, plan.enough)) (λ i q. room_in i)

  -- THE HIGHER RANGE
  abbrev A1 : List ℕ
  A1 = im1 F h t p r s

  abbrev A2 : List ℕ
  A2 = im2 F h t p r s

  abbrev A3 : List ℕ
  A3 = im3 F h t p r s

  abbrev A4 : List ℕ
  A4 = im4 F h t p r s

  abbrev A5 : List ℕ
  A5 = im5 F h t p r s

  abbrev A6 : List ℕ
  A6 = im6 F h t p r s

  b-end-p : before [] (past p) ≡ true
  b-end-p = b-past-p F h t p r plan.good plan.above plan.between plan.below

  b-path-r : before [] r ≡ true
  b-path-r = b-r F h t p r plan.good plan.above plan.between plan.below

  b-end-r : before [] (past r) ≡ true
  b-end-r = b-past-r F h t p r plan.good plan.above plan.between plan.below

  size-1 : length A1 ≡ length s
  size-1 = (d1 F h t p r s asks).only.size

  size-3 : length A3 ≡ length s
  size-3 = (d3 F h t p r s asks).only.size ∙ size2 F h t p r s asks

  size-4 : length A4 ≡ length s
  size-4 = (d4 F h t p r s asks).only.size ∙ size-3

  root-1 : tree_at h A1 (header_of s).root ≡ t
  root-1 = ap (tree_at h A1) (sym root-number) ∙ t1 F h t p r s asks

  left-2 : tree_at h A2 (F 0) ≡ left_past_r F h t p r
  left-2 = ap (tree_at h A2) (sym (n1 F h t p r s asks)) ∙ l1-2 F h t p r s asks

  mid-3 : tree_at h A3 (F (3 * h)) ≡ left_r F h t p r
  mid-3 = ap (tree_at h A3) (sym (n3 F h t p r s asks)) ∙ l3-3 F h t p r s asks

  mid-4 : tree_at h A4 (F (3 * h)) ≡ left_r F h t p r
  mid-4 = ap (tree_at h A4) (sym (n3 F h t p r s asks)) ∙ l3-4 F h t p r s asks

  low-5 : tree_at h A5 (F (4 * h)) ≡ left_past_p F h t p r
  low-5 = ap (tree_at h A5) (sym (n4 F h t p r s asks)) ∙ l4-5 F h t p r s asks

  left-6 : tree_at h A6 (F 0) ≡ left_past_r F h t p r
  left-6 = ap (tree_at h A6) (sym (n1 F h t p r s asks)) ∙ l1-6 F h t p r s asks

  low-6 : tree_at h A6 (F (4 * h)) ≡ left_past_p F h t p r
  low-6 = ap (tree_at h A6) (sym (n4 F h t p r s asks)) ∙ l4-6 F h t p r s asks

  high-writes : (A1 ≡ left_write F t h [] highest (past r) 0 s) × (A2 ≡ right_write F true t h [] highest (past r) h A1)
      × (A3 ≡ left_write F (left_past_r F h t p r) h [] (past r) r (3 * h) A2)
  unfolding im1 im2 im3
  high-writes = (refl, refl, refl)

  low-writes : (A4 ≡ left_write F (left_r F h t p r) h [] r (past p) (4 * h) A3) × (A5 ≡ right_write F true (left_r F h t p r) h [] r (past p) (5 * h) A4)
      × (A6 ≡ left_write F (left_past_p F h t p r) h [] (past p) p (7 * h) A5)
  unfolding im4 im5 im6
  low-writes = (refl, refl, refl)

  high-asks : RangeAsks s (header_of s).root h highest (past r) 0 free
  high-asks =
      range-asked free h (header_of s).root t (left_past_r F h t p r) highest (past r) r 0 h (3 * h) s A1 A2 A3 (omega arith) (omega arith) (front-past r)
      root-reads root-1 left-2 high-writes.0 high-writes.1 high-writes.2 plan.some (omega (arith, past-length r)) plan.short_r
      (left_at s (header_of s).root t 0 [] highest (past r) 0 root-reads refl plan.good (within-self F t (suc (10 * h)) plan.once) (omega arith) b-end-r plan.below plan.short_r
      (omega arith))
      (right-at A1 (header_of s).root t 0 [] highest (past r) h root-1 size-1 plan.good (within-self F t (suc (10 * h)) plan.once) (omega arith) b-end-r plan.below plan.short_r
      true refl (omega arith))
      (left_at A2 (F 0) (left_past_r F h t p r) h [] (past r) r (3 * h) left-2 (size2 F h t p r s asks) (g1 F h t p r s asks) (w1 F h t p r s asks) (omega arith) b-path-r (before-past r) (short-of r plan.short_r) (omega arith))

  high_is : high_in s h (past r) free ≡ A3
  unfolding high_in
  high_is =
      range-is free h (header_of s).root t (left_past_r F h t p r) highest (past r) r 0 h (3 * h) s A1 A2 A3 (omega arith) (omega arith) (front-past r)
      root-reads root-1 left-2 high-writes.0 high-writes.1 high-writes.2

  -- THE LOWER RANGE
  low-asks : RangeAsks A3 (F (3 * h)) h r (past p) (4 * h) free
  low-asks =
      range-asked free h (F (3 * h)) (left_r F h t p r) (left_past_p F h t p r) r (past p) p (4 * h) (5 * h) (7 * h) A3 A4 A5 A6 (omega arith) (omega arith) (front-past p)
      mid-3 mid-4 low-5 low-writes.0 low-writes.1 low-writes.2 plan.some (omega (arith, past-length p)) plan.short_p
      (left_at A3 (F (3 * h)) (left_r F h t p r) (4 * h) [] r (past p) (4 * h) mid-3 size-3 (g3 F h t p r s asks) (w3 F h t p r s asks) (omega arith) b-end-p plan.between plan.short_p (omega arith))
      (right-at A4 (F (3 * h)) (left_r F h t p r) (4 * h) [] r (past p) (5 * h) mid-4 size-4 (g3 F h t p r s asks) (w3 F h t p r s asks) (omega arith) b-end-p plan.between plan.short_p true refl (omega arith))
      (left_at A5 (F (4 * h)) (left_past_p F h t p r) (5 * h) [] (past p) p (7 * h) low-5 (size5 F h t p r s asks) (g4 F h t p r s asks) (w4 F h t p r s asks) (omega arith) plan.above (before-past p) (short-of p plan.short_p)
      (omega arith))

  pub both-asks : 12 ≤ length s → BothAsks s h (past p) (past r) free
  both-asks big =
      record {
        big = big;
        higher = high-asks;
        lower =
            subst (λ x. RangeAsks x (F (3 * h)) h (front (past r)) (past p) (4 * h) free) (sym high_is)
            (subst (λ q. RangeAsks A3 (F (3 * h)) h q (past p) (4 * h) free) (sym (front-past r)) low-asks);
      }

  low-as : (s' out : List ℕ) (x : Parts) → RangeAs (high_in s h (past r) free) (F (3 * h)) h (front (past r)) (past p) (4 * h) free s' out x
      → RangeAs A3 (F (3 * h)) h r (past p) (4 * h) free s' out x
  low-as s' out x a =
      subst (λ q. RangeAs A3 (F (3 * h)) h q (past p) (4 * h) free s' out x) (front-past r)
      (subst (λ y. RangeAs y (F (3 * h)) h (front (past r)) (past p) (4 * h) free s' out x) high_is a)

  module _ (s' low high : List ℕ) (c : Cuts) (a : BothAs s h (past p) (past r) free s' low high c) where
    pub both-written : s' ≡ A6
    both-written =
        range-written free h (F (3 * h)) (left_r F h t p r) (left_past_p F h t p r) r (past p) p (4 * h) (5 * h) (7 * h) A3 A4 A5 A6 (omega arith) (omega arith) (front-past p)
        mid-3 mid-4 low-5 low-writes.0 low-writes.1 low-writes.2 s' low c.low (low-as s' low c.low a.lower)

    pub low-pieces : raise_branches [] (branches_of (right_past_p F h t p r)) ≡ pieces_in (F (5 * h)) (F (5 * h + 1)) (past p) low c.low
    unfolding right_past_p
    low-pieces =
        range-pieces free h (F (3 * h)) (left_r F h t p r) (left_past_p F h t p r) r (past p) p (4 * h) (5 * h) (7 * h) A3 A4 A5 A6 (omega arith) (omega arith) (front-past p)
        mid-3 mid-4 low-5 low-writes.0 low-writes.1 low-writes.2 s' low c.low (low-as s' low c.low a.lower)

    pub high-pieces : raise_branches [] (branches_of (right_past_r F h t p r)) ≡ pieces_in (F h) (F (h + 1)) (past r) high c.high
    unfolding right_past_r
    high-pieces =
        range-pieces free h (header_of s).root t (left_past_r F h t p r) highest (past r) r 0 h (3 * h) s A1 A2 A3 (omega arith) (omega arith) (front-past r)
        root-reads root-1 left-2 high-writes.0 high-writes.1 high-writes.2 (high_in s h (past r) free) high c.high a.higher

  -- THE RANGE THAT MOVES
  module _ (u : Tree) (q : List ℕ) (num : ℕ) (gu : Good h u [] (past q)) (fu : fits u ≡ true) (wu : Within F t (suc (10 * h)) plan.once (8 * h) u)
      (nu : number_of u ≡ num) (ru : tree_at h A6 num ≡ u) (b-q : before [] q ≡ true) (short-q : length (past q) ≤ pivot_limit) where
    sized : length (im7 F h t p r s u q) ≡ length s
    sized =
        (o7 F h t p r s asks levels.0 levels.1 u q gu fu b-q short-q wu (ap (tree_at h A6) nu ∙ ru)).size ∙ size6 F h t p r s asks

    tail-is : tail_in A6 num h (past q) free ≡ im7 F h t p r s u q
    unfolding tail_in im7
    tail-is = ap₂ (λ x y. right_write F false x h [] (past q) y (8 * h) A6) ru (front-past q)

    out_is : out_in A6 num h (past q) free ≡ im8 F h t p r s u q
    unfolding out_in im8
    out_is = ap₂ (λ x y. gap_write F h x (past q) (9 * h) y) (front-past q) tail-is

    out-asks : OutAsks A6 num h (past q) free
    out-asks =
        record {
          ends = omega (arith, past-length q);
          short = short-q;
          right =
              subst (λ k. RightAsks false A6 num h [] (past q) k (8 * h) free) (sym (front-past q))
              (right-at A6 num u (8 * h) [] (past q) q (8 * h) ru (size6 F h t p r s asks) gu wu (omega arith) b-q (before-past q) (short-of q short-q) false (begins-past q highest) (omega arith));
          gap =
              subst (λ x. GapAsks x h (front (past q)) (9 * h) free) (sym tail-is)
              (subst (λ k. GapAsks (im7 F h t p r s u q) h k (9 * h) free) (sym (front-past q))
              (record {
                some = plan.some;
                levels = omega (arith, plan.low);
                short = short-of q short-q;
                enough = omega (arith, plan.enough);
                room = λ i z. omega (arith, plan.room i, sized);
              }));
        }

  later-low : Within F t (suc (10 * h)) plan.once (8 * h) (left_past_p F h t p r)
  later-low = within-later F t (suc (10 * h)) plan.once (left_past_p F h t p r) (5 * h) (8 * h) (omega arith) (w4 F h t p r s asks)

  later-left : Within F t (suc (10 * h)) plan.once (8 * h) (left_past_r F h t p r)
  later-left = within-later F t (suc (10 * h)) plan.once (left_past_r F h t p r) h (8 * h) (omega arith) (w1 F h t p r s asks)

  -- by direction
  pub take-asks : (b : Bool) → TakeAsks A6 h (past p) (past r) free b
  take-asks true =
      record { out = unfold taken_number taken_bound in out-asks (left_past_p F h t p r) p (F (4 * h)) (g4 F h t p r s asks) (f4 F h t p r s asks) later-low (n4 F h t p r s asks) low-6 plan.above plan.short_p }
  take-asks false =
      record { out = unfold taken_number taken_bound in out-asks (left_past_r F h t p r) r (F 0) (g1 F h t p r s asks) (f1 F h t p r s asks) later-left (n1 F h t p r s asks) left-6 b-path-r plan.short_r }

  pub taken_is : (b : Bool) → taken_out A6 h (past p) (past r) free b ≡ im8 F h t p r s (taken F h t p r b) (taken_path F h t p r b)
  unfolding taken_out taken_number taken_bound taken taken_path
  taken_is true = out_is (left_past_p F h t p r) p (F (4 * h)) (g4 F h t p r s asks) (f4 F h t p r s asks) later-low (n4 F h t p r s asks) low-6 plan.above plan.short_p
  taken_is false = out_is (left_past_r F h t p r) r (F 0) (g1 F h t p r s asks) (f1 F h t p r s asks) later-left (n1 F h t p r s asks) left-6 b-path-r plan.short_r

  pub size-8 : (b : Bool) → length (im8 F h t p r s (taken F h t p r b) (taken_path F h t p r b)) ≡ length s
  unfolding taken taken_path
  size-8 true =
      (o08 F h t p r s asks levels.0 levels.1
      (left_past_p F h t p r) p (g4 F h t p r s asks) (f4 F h t p r s asks) plan.above plan.short_p later-low (ap (tree_at h A6) (n4 F h t p r s asks) ∙ low-6)).size
  size-8 false =
      (o08 F h t p r s asks levels.0 levels.1
      (left_past_r F h t p r) r (g1 F h t p r s asks) (f1 F h t p r s asks) b-path-r plan.short_r later-left (ap (tree_at h A6) (n1 F h t p r s asks) ∙ left-6)).size

  -- THE NUMBERS UNDER THE NEW ROOT
  pub number-first : number_of (left_p F h t p r) ≡ F (7 * h)
  number-first = n6 F h t p r s asks

  pub number-under-low : (b : Bool) → number_of (under_low F h t p r b) ≡ F (low_place h b)
  unfolding under_low low_place mid_r
  number-under-low true = gap-number-at F h levels.0 levels.1 p (9 * h)
  number-under-low false =
      number-tail F (left_past_r F h t p r) [] (past r) r (8 * h)
      (tail-good F (left_past_r F h t p r) h [] (past r) r (8 * h) (g1 F h t p r s asks) b-path-r (before-past r)).sound

  pub number-under-high : (b : Bool) → number_of (under_high F h t p r b) ≡ F (17 * h - low_place h b)
  unfolding under_high low_place mid_p
  number-under-high true =
      number-tail F (left_past_p F h t p r) [] (past p) p (8 * h)
      (tail-good F (left_past_p F h t p r) h [] (past p) p (8 * h) (g4 F h t p r s asks) plan.above (before-past p)).sound
      ∙ ap F (let e : 8 * h ≡ 17 * h - 9 * h = omega arith in e)
  number-under-high false = gap-number-at F h levels.0 levels.1 r (9 * h) ∙ ap F (let e : 9 * h ≡ 17 * h - 8 * h = omega arith in e)
