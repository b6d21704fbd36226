-- The steps of `build` put together: the leaves start the climb, node 0 ends it, and what is written is the promised image.
-- Rely on specs/Form/Ordered: pages written level by level give the packed image.
use Rattle.std.specs.Prelude.{ℕ, zero, suc, ◌+◌, ◌*◌, ◌-◌, ◌/◌, ◌≤◌, ◌≡◌, refl, List, [], ◌++◌, true, length, drop, get_or}
use Rattle.image.specs.Prelude.{sym, ap, ap₂, subst, ◌∙◌, arith}
use Rattle.image.specs.Table.{Row}
use Rattle.image.specs.Image.{nodes_of}
use Rattle.image.specs.Sound.{in_range}
use Rattle.laws.specs.Encode.{bytes_of_all}
use Rattle.laws.specs.WriteNode.{write_node}
use Rattle.packed.specs.Form.Chunk.{groups}
use Rattle.packed.specs.Form.Packed.{pair_weight, leaves, leaf_level, climb, packed}
use Rattle.packed.specs.Form.Leaves.{Tabled, tabled}
use Rattle.packed.specs.Form.Numbered.{leaf_level-length}
use Rattle.packed.specs.Form.Tower.{room-7, Level, leaf-level, few-leaves}
use Rattle.laws.specs.Page.{page, pair_entries, number_of, head_page}
use Rattle.packed.specs.Form.Tidy.{write_all, image_of}
use Rattle.packed.specs.Form.Sweep.{own_page, own_pages, climb_pages, order_pages}
use Rattle.packed.specs.Form.Ordered.{order_image, order-image}
use Rattle.packed.specs.Form.Marks.{branch_of, mapped}
use Rattle.packed.specs.Rows.Area.{rows_of, RowsFit}
use Rattle.packed.specs.Rows.Branches.{mark_at, branches_of}
use Rattle.packed.specs.Rows.Steps.{leaf_pages_from, rows-length}
use Rattle.packed.specs.Rows.Remark.{stays-refl, stays_fit}
use Rattle.packed.specs.Build.Handed.{handed_from, handed}
use Rattle.packed.specs.Build.HandedLaws.{handed-is, handed-length, handed-drop, handed-step, handed-range}
use Rattle.packed.specs.Build.Grow.{rows_same}
use Rattle.packed.specs.Build.AboveSteps.{write-append}
use Rattle.packed.specs.Build.Built.{Asks, built_image}
use Rattle.packed.specs.Build.Passes.{leaves_from, leaf_branches, LeavesMade, Ascends, Ascended, tree_above, pages_above}
use Rattle.packed.specs.Build.BuiltLaws.{good-fit}

-- the leaves of the rows, by the level's groups
leaves-are : (m : ℕ) (area nums : List ℕ) → 1 ≤ m → leaves nums (rows_of m area 0) ≡ leaf_level nums [] (groups pair_weight (rows_of (m - 0) area 0))
leaves-are zero area nums o = absurd (omega arith)
leaves-are (suc m) area nums o =
    let z : suc m ≡ suc m - 0 = omega arith in
    opened ∙ ap (λ k. leaf_level nums [] (groups pair_weight (rows_of k area 0))) z
  where
    opened : leaves nums (rows_of (suc m) area 0) ≡ leaf_level nums [] (groups pair_weight (rows_of (suc m) area 0))
    opened = unfold rows_of leaves in refl

leaves-count : (m : ℕ) (area nums : List ℕ) → 1 ≤ m → leaves_from m area 0 ≡ length (leaves nums (rows_of m area 0))
unfolding leaves_from
leaves-count m area nums o =
    sym (ap length (leaves-are m area nums o) ∙ leaf_level-length nums [] (groups pair_weight (rows_of (m - 0) area 0)))

-- what the leaf pass asks for
pub record LeavesReady (store area : List ℕ) (m : ℕ) (given : List ℕ) : Type 0 where
  pub fit : RowsFit m area
  pub few : m ≤ 1024
  pub enough : leaves_from m area 0 ≤ length given
  pub ranged : in_range (length store / 1024) (handed given) ≡ true
  pub small : length store ≤ 2000000
  pub large : 32768 ≤ length store

-- what the empty leaf asks for
pub record EmptyReady (store given : List ℕ) : Type 0 where
  pub some_number : 1 ≤ length given
  pub room : get_or given 0 0 * 1024 + 1024 ≤ length store
  pub small : length store ≤ 2000000

module _ (store area : List ℕ) (m : ℕ) (given : List ℕ) (a : Asks store area m given) where
  abbrev rows : List Row
  rows = rows_of m area 0

  abbrev nums : List ℕ
  nums = handed given

  tab : Tabled rows
  tab = tabled rows a.table.rises a.table.formed a.table.values

  count : length nums ≡ length given
  unfolding handed
  count = handed-length given 0 ∙ (omega arith)

  enough : nodes_of (length store) / 4 ≤ length nums + 1
  enough = let x = a.enough in omega arith

  -- the pages in the order of the code are the image that is promised
  order-built : order_image store nums (nodes_of (length store)) rows ≡ built_image store area m given
  unfolding built_image
  order-built =
      order-image store nums (nodes_of (length store)) rows a.size a.least a.most enough a.differ a.ranged a.table
      ∙ ap (λ k. image_of store (nodes_of (length store)) k (packed nums rows)) (rows-length m area 0)

  -- the numbers suffice for the leaves, and for twice as many nodes above them as there may be
  few : (length (leaves nums rows) ≤ length given) × (length (leaves nums rows) ≤ 2 * (length given - length (leaves nums rows)) + 1)
      × (length (leaves nums rows) ≤ 1024)
  few =
      let p = few-leaves nums rows tab in
      let c = count in
      let k = a.table.few in
      let x = a.enough in
      let l = a.least in
      let u = a.most in
      (omega arith, omega arith, omega arith)

  pub leaves-ready : 1 ≤ m → LeavesReady store area m given
  leaves-ready o =
      let k = a.table.few in
      let n = rows-length m area 0 in
      let u = a.most in
      let l = a.least in
      let s = a.size in
      record {
        fit = good-fit m area a.room tab.good;
        few = omega arith;
        enough = let c = leaves-count m area nums o in let f = few in omega arith;
        ranged = range-is a.ranged;
        small = omega arith;
        large = omega arith;
      }
    where
      range-is : in_range (nodes_of (length store)) (handed given) ≡ true → in_range (length store / 1024) (handed given) ≡ true
      range-is r = unfold nodes_of in r

  -- after the leaf pass
  module _ (o : 1 ≤ m) (area₁ store₁ : List ℕ) (made : ℕ) (l : LeavesMade m given area area₁ store store₁ made) where
    same_rows : rows_of m area₁ 0 ≡ rows
    same_rows = rows_same m area area₁ l.stays m 0 (omega arith)

    made-is : made ≡ length (leaves nums rows)
    made-is = l.counted ∙ leaves-count m area nums o

    leaf-pages : store₁ ≡ write_all (own_pages 1 (leaves nums rows)) store
    leaf-pages = l.pages ∙ ap (λ ps. write_all ps store) shown
      where
        shown : leaf_pages_from m area 0 [] (handed given) ≡ own_pages 1 (leaves nums rows)
        shown = unfold leaf_pages_from in ap (own_pages 1) (sym (leaves-are m area nums o))

    leaf-marks : branches_of m area₁ 0 ≡ mapped branch_of (leaves nums (rows_of m area₁ 0))
    leaf-marks = l.marks ∙ shown ∙ ap (λ t. mapped branch_of (leaves nums t)) (sym same_rows)
      where
        shown : leaf_branches m area 0 [] (handed given) ≡ mapped branch_of (leaves nums rows)
        shown = unfold leaf_branches in ap (mapped branch_of) (sym (leaves-are m area nums o))

    pub ascent-first : Ascends m given area₁ area₁ store₁ store₁ 1 made made (tree_above m given area₁ made) (write_all (pages_above m given area₁ made) store₁)
    ascent-first =
        let c = made-is in
        let f = few in
        let h = handed-length given made in
        let e = ap (λ t. length (leaves nums t)) same_rows in
        let r = room-7 in
        record {
          items = leaves nums (rows_of m area₁ 0);
          fuel = 7;
          counted = omega arith;
          reached =
              record {
                stands = subst (λ t. Level 1 (leaves nums t)) (sym same_rows) (leaf-level nums rows tab);
                marks = leaf-marks;
                room_left = omega arith;
                enough = omega arith;
                levels_left = refl;
                pages = unfold pages_above in refl;
                built = unfold tree_above in refl;
              };
          fit = stays_fit m area area₁ l.stays (good-fit m area a.room tab.good);
          stays = stays-refl m area₁;
          size = refl;
          marked = l.marked;
        }

    -- the rest of the numbers
    rest : handed_from given made ≡ drop (length (leaves nums rows)) nums
    rest =
        ap (handed_from given) z ∙ sym (handed-drop given 0 (length (leaves nums rows)) (let f = few in omega arith))
        ∙ ap (drop (length (leaves nums rows))) (sym (handed-is given))
      where
        z : made ≡ 0 + length (leaves nums rows)
        z = let c = made-is in omega arith

    tree_is : tree_above m given area₁ made ≡ packed nums rows
    tree_is = shown ∙ ap₂ (λ ns t. climb 7 1 ns (leaves nums t)) rest same_rows ∙ (unfold packed in refl)
      where
        shown : tree_above m given area₁ made ≡ climb 7 1 (handed_from given made) (leaves (handed given) (rows_of m area₁ 0))
        shown = unfold tree_above in refl

    pages-are : pages_above m given area₁ made ≡ climb_pages 7 1 (drop (length (leaves nums rows)) nums) (leaves nums rows)
    pages-are = shown ∙ ap₂ (λ ns t. climb_pages 7 1 ns (leaves nums t)) rest same_rows
      where
        shown : pages_above m given area₁ made ≡ climb_pages 7 1 (handed_from given made) (leaves (handed given) (rows_of m area₁ 0))
        shown = unfold pages_above in refl

    -- after the ascent and node 0
    pub build-last : (area₂ store₂ store₃ : List ℕ) (root levels : ℕ)
        → Ascended area₂ store₂ levels (tree_above m given area₁ made) (write_all (pages_above m given area₁ made) store₁)
        → root ≡ mark_at area₂ 0 → length store₂ ≡ length store → store₃ ≡ write_node store₂ 0 (head_page (length store₂ / 1024) root levels m)
        → store₃ ≡ built_image store area m given
    build-last area₂ store₂ store₃ root levels d e s x =
        x
        ∙ ap (λ p. write_node p 0 (head_page (length store₂ / 1024) root levels m)) all-pages
        ∙ ap (write_node (write_all (order_pages nums rows) store) 0) head-is
        ∙ order_is
        ∙ order-built
      where
        opened : write_all (own_pages 1 (leaves nums rows) ++ climb_pages 7 1 (drop (length (leaves nums rows)) nums) (leaves nums rows)) store
            ≡ write_all (order_pages nums rows) store
        opened = unfold order_pages in refl

        all-pages : store₂ ≡ write_all (order_pages nums rows) store
        all-pages =
            d.pages ∙ ap₂ (λ ps z. write_all ps z) pages-are leaf-pages
            ∙ sym (write-append (own_pages 1 (leaves nums rows)) (climb_pages 7 1 (drop (length (leaves nums rows)) nums) (leaves nums rows)) store)
            ∙ opened

        size_is : length store₂ / 1024 ≡ nodes_of (length store)
        size_is = unfold nodes_of in ap (λ k. k / 1024) s

        head-is : head_page (length store₂ / 1024) root levels m ≡ head_page (nodes_of (length store)) (number_of (packed nums rows).root) (packed nums rows).levels (length rows)
        head-is =
            ap (λ k. head_page k root levels m) size_is
            ∙ ap₂ (λ r k. head_page (nodes_of (length store)) r k m)
            (e ∙ d.root ∙ ap (λ t. number_of t.root) tree_is) (d.height ∙ ap (λ t. t.levels) tree_is)
            ∙ ap (head_page (nodes_of (length store)) (number_of (packed nums rows).root) (packed nums rows).levels) (sym (rows-length m area 0))

        order_is : write_node (write_all (order_pages nums rows) store) 0
            (head_page (nodes_of (length store)) (number_of (packed nums rows).root) (packed nums rows).levels (length rows))
            ≡ order_image store nums (nodes_of (length store)) rows
        order_is = unfold order_image in refl

  -- no rows: one empty leaf
  pub empty-ready : EmptyReady store given
  empty-ready =
      let c = count in
      let x = a.enough in
      let l = a.least in
      let s = a.size in
      let g = handed-range (nodes_of (length store)) given 0 a.ranged (omega arith) in
      let h = g.1 in
      let u = a.most in
      record { some_number = omega arith; room = omega arith; small = omega arith }

  pub build-empty : m ≡ 0 → (store₁ store₂ : List ℕ) (num : ℕ) → num ≡ get_or given 0 0 → store₁ ≡ write_node store num (page 1 1 [])
      → length store₁ ≡ length store → store₂ ≡ write_node store₁ 0 (head_page (length store₁ / 1024) num 1 0) → store₂ ≡ built_image store area m given
  build-empty z store₁ store₂ num n x s y =
      y ∙ ap₂ (λ p k. write_node p 0 (head_page k num 1 0)) x size_is ∙ order_is
    where
      size_is : length store₁ / 1024 ≡ nodes_of (length store)
      size_is = unfold nodes_of in ap (λ k. k / 1024) s

      first-number : get_or (handed given) 0 0 ≡ num
      first-number = ap (λ l. get_or l 0 0) (handed-is given ∙ handed-step given 0 (let c = count in let q = a.enough in let l = a.least in omega arith)) ∙ sym n

      no_rows : rows_of 0 area 0 ≡ []
      no_rows = unfold rows_of in refl

      rows_none : rows ≡ []
      rows_none = ap (λ k. rows_of k area 0) z ∙ no_rows

      empty-image : (nn : List ℕ) → write_node (write_node store (get_or nn 0 0) (page 1 1 [])) 0 (head_page (nodes_of (length store)) (get_or nn 0 0) 1 0) ≡ order_image store nn (nodes_of (length store)) []
      empty-image nn = unfold order_image order_pages leaves own_pages own_page climb_pages write_all packed climb number_of pair_entries bytes_of_all in refl

      order_is : write_node (write_node store num (page 1 1 [])) 0 (head_page (nodes_of (length store)) num 1 0) ≡ built_image store area m given
      order_is =
          ap (λ k. write_node (write_node store k (page 1 1 [])) 0 (head_page (nodes_of (length store)) k 1 0)) (sym first-number)
          ∙ empty-image nums
          ∙ ap (order_image store nums (nodes_of (length store))) (sym rows_none)
          ∙ order-built
