-- The steps of the code of a swing, one law for each call and each way out. Relies on Cuts and Root (what is asked and written) and on octets' Put.
use Rattle.std.specs.Prelude.{ℕ, ◌+◌, ◌*◌, ◌-◌, ◌≤◌, ◌<◌, ◌≡◌, refl, List, [], ◌∷◌, ◌++◌, Bool, true, false, length, take, drop, set, get_or}
use Rattle.image.specs.Prelude.{sym, ap, ap₂, subst, ◌∙◌, append_assoc, arith, length-append}
use Rattle.image.specs.Bytes.{u16}
use Rattle.image.specs.Entry.{child}
use Rattle.image.specs.Image.{header_of, tree_at}
use Rattle.image.specs.Sound.{highest}
use Rattle.octets.specs.Put.{put, put_one, put-put, put-size}
use Rattle.laws.specs.Encode.{bytes_of}
use Rattle.laws.specs.Page.{page, branches_of}
use Rattle.slice.specs.Slicing.Slice.{right_of}
use Rattle.laws.specs.WriteNode.{write_node}
use Rattle.append.specs.Laws.Append.{header-root}
use Rattle.slice.specs.Slicing.Range.{past}
use Rattle.slice.specs.Slicing.SliceWrite.{left_write}
use Rattle.slice.specs.Slicing.RightWrite.{right_write}
use Rattle.slice.specs.Moving.GapWrite.{gap_write}
use Rattle.slice.specs.declared.Parts.{Parts}
use Rattle.slice.specs.declared.pieces.Numbered.{Numbered}
use Rattle.slice.specs.Point.{fresh_in}
use Rattle.slice.specs.Left.{LeftAsks}
use Rattle.slice.specs.Right.{RightAsks, RightAs, pieces_in, raise_branches, all_line}
use Rattle.slice.specs.GapSteps.{GapAsks}
use Rattle.swing.specs.declared.root.Half.{Half}
use Rattle.swing.specs.Cuts.{front, left_in, right_in, range_in, RangeAsks, RangeAs, high_in, BothAsks, BothAs, tail_in, out_in, OutAsks, taken_number, taken_bound, taken_out, TakeAsks, low_place}
use Rattle.swing.specs.Root.{half_in, half_line, root_line, RootAsks}

-- THE END OF A RANGE
pub past-put : (cut cut' path : List ℕ) (n : ℕ) → length path < length cut → cut' ≡ put cut 0 path → n ≡ length path → set cut' n 255 ≡ put cut 0 (past path)
past-put cut cut' path n h e q =
    let z : 0 + length path ≡ n = omega arith in
    let s : length (put cut 0 path) ≡ length cut = put-size cut 0 path (omega arith) in
    ap (λ l. set l n 255) e ∙ put_one (put cut 0 path) n 255 (omega arith) ∙ ap (λ k. put (put cut 0 path) k (255 ∷ [])) (sym z)
    ∙ put-put cut 0 path (255 ∷ []) (omega arith)

-- the path of an end, as the code lends it
pub front-part : (bound : List ℕ) → take (length bound - 1 - 0) (drop 0 bound) ≡ front bound
unfolding front
front-part bound = let e : length bound - 1 - 0 ≡ length bound - 1 = omega arith in ap (λ n. take n bound) e

-- ONE RANGE
module _ (s : List ℕ) (num h : ℕ) (hi bound : List ℕ) (at : ℕ) (free : List ℕ) (pre : RangeAsks s num h hi bound at free) (s₁ : List ℕ)
    (e : s₁ ≡ left_write (fresh_in free) (tree_at h s num) h [] hi bound at s) where
  first-is : left_in s num h hi bound at free ≡ s₁
  unfolding left_in
  first-is = sym e

  pub then-right : RightAsks true s₁ num h [] hi bound (at + h) free
  then-right = subst (λ x. RightAsks true x num h [] hi bound (at + h) free) first-is pre.right

  module _ (s₂ out : List ℕ) (r : Parts) (a : RightAs true (tree_at h s₁ num) h [] hi bound (at + h) free [] s₁ s₂ out r) (inner : ℕ) (n : inner ≡ get_or free at 0) where
    second_is : right_in s num h hi bound at free ≡ s₂
    unfolding right_in
    second_is = ap (λ x. right_write (fresh_in free) true (tree_at h x num) h [] hi bound (at + h) x) first-is ∙ sym a.written

    inner-is : fresh_in free at ≡ inner
    unfolding fresh_in
    inner-is = sym n

    pub then-inner : LeftAsks s₂ inner h [] bound (take (length bound - 1 - 0) (drop 0 bound)) (at + 3 * h) free
    then-inner =
        subst (λ q. LeftAsks s₂ inner h [] bound q (at + 3 * h) free) (sym (front-part bound))
        (subst (λ i. LeftAsks s₂ i h [] bound (front bound) (at + 3 * h) free) inner-is
        (subst (λ x. LeftAsks x (fresh_in free at) h [] bound (front bound) (at + 3 * h) free) second_is pre.inner))

    pub range-done : (s₃ : List ℕ)
        → s₃ ≡ left_write (fresh_in free) (tree_at h s₂ inner) h [] bound (take (length bound - 1 - 0) (drop 0 bound)) (at + 3 * h) s₂
        → RangeAs s num h hi bound at free s₃ out r
    range-done s₃ w =
        record {
          written =
              w ∙ ap (λ q. left_write (fresh_in free) (tree_at h s₂ inner) h [] bound q (at + 3 * h) s₂) (front-part bound)
              ∙ ap (λ i. left_write (fresh_in free) (tree_at h s₂ i) h [] bound (front bound) (at + 3 * h) s₂) (sym inner-is)
              ∙ ap (λ x. left_write (fresh_in free) (tree_at h x (fresh_in free at)) h [] bound (front bound) (at + 3 * h) x) (sym second_is) ∙ shown;
          pieces =
              ap (λ x. raise_branches [] (branches_of (right_of (fresh_in free) true (tree_at h x num) [] hi bound (at + h)))) first-is
              ∙ a.pieces;
          fit = a.fit;
        }
      where
        shown : left_write (fresh_in free) (tree_at h (right_in s num h hi bound at free) (fresh_in free at)) h [] bound (front bound) (at + 3 * h) (right_in s num h hi bound at free)
            ≡ range_in s num h hi bound at free
        shown = unfold range_in in refl

-- BOTH RANGES
module _ (s : List ℕ) (h : ℕ) (bound limit free : List ℕ) (pre : BothAsks s h bound limit free) (root : ℕ) (n : root ≡ u16 s 6) where
  root_is : (header_of s).root ≡ root
  root_is = header-root s ∙ sym n

  pub high-asked : RangeAsks s root h highest limit 0 free
  high-asked = subst (λ i. RangeAsks s i h highest limit 0 free) root_is pre.higher

  module _ (s₁ high : List ℕ) (x : Parts) (a : RangeAs s root h highest limit 0 free s₁ high x) (inner : ℕ) (m : inner ≡ get_or free (3 * h) 0) where
    high-in : RangeAs s (header_of s).root h highest limit 0 free s₁ high x
    high-in = subst (λ i. RangeAs s i h highest limit 0 free s₁ high x) (sym root_is) a

    high-written : s₁ ≡ high_in s h limit free
    unfolding high_in
    high-written = high-in.written

    mid-is : fresh_in free (3 * h) ≡ inner
    unfolding fresh_in
    mid-is = sym m

    pub low-asked : RangeAsks s₁ inner h (take (length limit - 1 - 0) (drop 0 limit)) bound (4 * h) free
    low-asked =
        subst (λ q. RangeAsks s₁ inner h q bound (4 * h) free) (sym (front-part limit))
        (subst (λ i. RangeAsks s₁ i h (front limit) bound (4 * h) free) mid-is
        (subst (λ y. RangeAsks y (fresh_in free (3 * h)) h (front limit) bound (4 * h) free) (sym high-written) pre.lower))

    pub both-done : (s₂ low : List ℕ) (y : Parts) → RangeAs s₁ inner h (take (length limit - 1 - 0) (drop 0 limit)) bound (4 * h) free s₂ low y
        → BothAs s h bound limit free s₂ low high (record { low = y; high = x })
    both-done s₂ low y b =
        record {
          higher = subst (λ z. RangeAs s (header_of s).root h highest limit 0 free z high x) high-written high-in;
          lower =
              subst (λ z. RangeAs z (fresh_in free (3 * h)) h (front limit) bound (4 * h) free s₂ low y) high-written
              (subst (λ i. RangeAs s₁ i h (front limit) bound (4 * h) free s₂ low y) (sym mid-is)
              (subst (λ q. RangeAs s₁ inner h q bound (4 * h) free s₂ low y) (front-part limit) b));
        }

-- THE RANGE THAT MOVES
module _ (s : List ℕ) (num h : ℕ) (bound free : List ℕ) (pre : OutAsks s num h bound free) where
  pub tail-asked : RightAsks false s num h [] bound (take (length bound - 1 - 0) (drop 0 bound)) (8 * h) free
  tail-asked = subst (λ q. RightAsks false s num h [] bound q (8 * h) free) (sym (front-part bound)) pre.right

  pub front-short : length (take (length bound - 1 - 0) (drop 0 bound)) ≤ 65
  front-short = subst (λ q. length q ≤ 65) (sym (front-part bound)) pre.gap.short

  module _ (s₁ out : List ℕ) (r : Parts)
      (a : RightAs false (tree_at h s num) h [] bound (take (length bound - 1 - 0) (drop 0 bound)) (8 * h) free [] s s₁ out r) where
    tail-in : tail_in s num h bound free ≡ s₁
    unfolding tail_in
    tail-in = ap (λ q. right_write (fresh_in free) false (tree_at h s num) h [] bound q (8 * h) s) (sym (front-part bound)) ∙ sym a.written

    pub gap-asked : GapAsks s₁ h (take (length bound - 1 - 0) (drop 0 bound)) (9 * h) free
    gap-asked =
        subst (λ q. GapAsks s₁ h q (9 * h) free) (sym (front-part bound)) (subst (λ x. GapAsks x h (front bound) (9 * h) free) tail-in pre.gap)

    pub out-done : (s₂ : List ℕ) → s₂ ≡ gap_write (fresh_in free) h (take (length bound - 1 - 0) (drop 0 bound)) bound (9 * h) s₁ → s₂ ≡ out_in s num h bound free
    unfolding out_in
    out-done s₂ w = w ∙ ap₂ (λ q x. gap_write (fresh_in free) h q bound (9 * h) x) (front-part bound) (sym tail-in)

module _ (s : List ℕ) (h : ℕ) (bound limit free : List ℕ) (up : Bool) (pre : TakeAsks s h bound limit free up) (num : ℕ) where
  pub up-asked : up ≡ true → num ≡ get_or free (4 * h) 0 → OutAsks s num h bound free
  unfolding taken_number taken_bound fresh_in
  up-asked e n = subst (λ i. OutAsks s i h bound free) (sym n) (rw e at pre.out)

  pub up_done : (s' : List ℕ) → up ≡ true → num ≡ get_or free (4 * h) 0 → s' ≡ out_in s num h bound free → s' ≡ taken_out s h bound limit free up
  unfolding taken_out taken_number taken_bound fresh_in
  up_done s' e n w = rw e (w ∙ ap (λ i. out_in s i h bound free) n)

  pub down-asked : up ≡ false → num ≡ get_or free 0 0 → OutAsks s num h limit free
  unfolding taken_number taken_bound fresh_in
  down-asked e n = subst (λ i. OutAsks s i h limit free) (sym n) (rw e at pre.out)

  pub down-done : (s' : List ℕ) → up ≡ false → num ≡ get_or free 0 0 → s' ≡ out_in s num h limit free → s' ≡ taken_out s h bound limit free up
  unfolding taken_out taken_number taken_bound fresh_in
  down-done s' e n w = rw e (w ∙ ap (λ i. out_in s i h limit free) n)

pub place_up : (h : ℕ) (up : Bool) → up ≡ true → (9 * h ≡ low_place h up) × (8 * h ≤ 9 * h) × (9 * h ≤ 9 * h)
unfolding low_place
place_up h up e = (rw e, omega arith, omega arith)

pub place_down : (h : ℕ) (up : Bool) → up ≡ false → (8 * h ≡ low_place h up) × (8 * h ≤ 8 * h) × (8 * h ≤ 9 * h)
unfolding low_place
place_down h up e = (rw e, omega arith, omega arith)

-- THE ROOT'S PAGE
pub half-made : (free : List ℕ) (place block : ℕ) (parts : Parts) (a : ℕ) (q : Numbered) → a ≡ get_or free place 0 → q.parts ≡ parts → q.edge ≡ fresh_in free block
    → q.rest ≡ fresh_in free (block + 1) → ◌≡◌ {A = Half} (record { number = a; pieces = q }) (half_in free place block parts)
unfolding half_in fresh_in
half-made free place block parts a q x w y z = λ i. record { number = x i; pieces = record { parts = w i; edge = y i; rest = z i } }

-- a half, behind what is on the page
module _ (now bound : List ℕ) (half : Half) (out : List ℕ) (room : length now + length (half_line bound half out) ≤ 1016) where
  line-size : length (half_line bound half out) ≡ length (bytes_of (child half.number (front bound))) + length (all_line 0 (pieces_in half.pieces.edge half.pieces.rest bound out half.pieces.parts))
  unfolding half_line
  line-size = length-append (bytes_of (child half.number (front bound))) (all_line 0 (pieces_in half.pieces.edge half.pieces.rest bound out half.pieces.parts))

  path-is : bytes_of (child half.number (take (length bound - 1 - 0) (drop 0 bound))) ≡ bytes_of (child half.number (front bound))
  path-is = ap (λ q. bytes_of (child half.number q)) (front-part bound)

  pub path_room : length now + length (bytes_of (child half.number (take (length bound - 1 - 0) (drop 0 bound)))) ≤ 1016
  path_room = let z = ap length path-is in let l = line-size in omega arith

  module _ (pg₁ : List ℕ) (w : pg₁ ≡ now ++ bytes_of (child half.number (take (length bound - 1 - 0) (drop 0 bound)))) where
    path-put : pg₁ ≡ now ++ bytes_of (child half.number (front bound))
    path-put = w ∙ ap (λ l. now ++ l) path-is

    pub parts-room : length pg₁ + length (all_line 0 (pieces_in half.pieces.edge half.pieces.rest bound out half.pieces.parts)) ≤ 1016
    parts-room = let l = line-size in let p = ap length path-put in let a = length-append now (bytes_of (child half.number (front bound))) in omega arith

    pub half-done : (pg₂ : List ℕ) → pg₂ ≡ pg₁ ++ all_line 0 (pieces_in half.pieces.edge half.pieces.rest bound out half.pieces.parts) → pg₂ ≡ now ++ half_line bound half out
    unfolding half_line
    half-done pg₂ x =
        x ∙ ap (λ l. l ++ all_line 0 (pieces_in half.pieces.edge half.pieces.rest bound out half.pieces.parts)) path-put
        ∙ append_assoc now (bytes_of (child half.number (front bound))) (all_line 0 (pieces_in half.pieces.edge half.pieces.rest bound out half.pieces.parts))

module _ (s : List ℕ) (h : ℕ) (bound limit free : List ℕ) (low : Half) (behind : List ℕ) (high : Half) (last : List ℕ) (pre : RootAsks s h bound limit free low behind high last)
    (left num : ℕ) (left_is : left ≡ get_or free (7 * h) 0) (num-is : num ≡ get_or free (10 * h) 0) where
  left-in : fresh_in free (7 * h) ≡ left
  unfolding fresh_in
  left-in = sym left_is

  num-in : fresh_in free (10 * h) ≡ num
  unfolding fresh_in
  num-in = sym num-is

  line-is : root_line (fresh_in free (7 * h)) bound low behind limit high last ≡ bytes_of (child left []) ++ (half_line bound low behind ++ half_line limit high last)
  line-is = ap (λ n. root_line n bound low behind limit high last) left-in ∙ (unfold root_line in refl)

  sizes : length (bytes_of (child left [])) + (length (half_line bound low behind) + length (half_line limit high last)) ≤ 1016
  sizes =
      let a = ap length line-is in
      let b = length-append (bytes_of (child left [])) (half_line bound low behind ++ half_line limit high last) in
      let c = length-append (half_line bound low behind) (half_line limit high last) in
      let e = pre.size in
      omega arith

  pub num-room : num * 1024 + 1024 ≤ length s
  num-room = let r = pre.room in let n = num-in in omega arith

  module _ (bare : List ℕ) (nil : bare ≡ []) where
    pub left-room : length bare + length (bytes_of (child left [])) ≤ 1016
    left-room = let e = sizes in let z = ap length nil in omega arith

    module _ (pg₁ : List ℕ) (w₁ : pg₁ ≡ bare ++ bytes_of (child left [])) where
      first_put : pg₁ ≡ bytes_of (child left [])
      first_put = w₁ ∙ ap (λ l. l ++ bytes_of (child left [])) nil

      pub low-room : length pg₁ + length (half_line bound low behind) ≤ 1016
      low-room = let e = sizes in let z = ap length first_put in omega arith

      module _ (pg₂ : List ℕ) (w₂ : pg₂ ≡ pg₁ ++ half_line bound low behind) where
        pub high-room : length pg₂ + length (half_line limit high last) ≤ 1016
        high-room = let e = sizes in let z = ap length first_put in let y = ap length w₂ in let a = length-append pg₁ (half_line bound low behind) in omega arith

        pub root-done : (pg₃ : List ℕ) → pg₃ ≡ pg₂ ++ half_line limit high last → (s' : List ℕ) → s' ≡ write_node s num (page 2 (h + 1) pg₃)
            → s' ≡ write_node s (fresh_in free (10 * h)) (page 2 (h + 1) (root_line (fresh_in free (7 * h)) bound low behind limit high last))
        root-done pg₃ w₃ s' w =
            let z : pg₃ ≡ root_line (fresh_in free (7 * h)) bound low behind limit high last =
            w₃ ∙ ap (λ l. l ++ half_line limit high last) (w₂ ∙ ap (λ l. l ++ half_line bound low behind) first_put)
            ∙ append_assoc (bytes_of (child left [])) (half_line bound low behind) (half_line limit high last) ∙ sym line-is in
            w ∙ ap₂ (λ n l. write_node s n (page 2 (h + 1) l)) (sym num-in) z
