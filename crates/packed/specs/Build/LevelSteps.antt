-- Steps of the pass that writes one level of interior nodes and makes its marks, with numbers from the list.
-- Rely on specs/Rows/Branches (one node, and on) and on the turn of the marks (Grow).
use Rattle.std.specs.Prelude.{ℕ, suc, ◌+◌, ◌*◌, ◌-◌, ◌/◌, ◌≤◌, ◌<◌, ◌≡◌, refl, List, [], ◌∷◌, ◌++◌, true, length, get_or}
use Rattle.image.specs.Prelude.{sym, ap, ap₂, ◌∙◌, append_assoc, append-nil, arith}
use Rattle.image.specs.Sound.{in_range}
use Rattle.laws.specs.WriteNode.{write_node}
use Rattle.packed.specs.Form.Chunk.{groups}
use Rattle.packed.specs.Form.Tidy.{Page, write_all}
use Rattle.packed.specs.Form.Marks.{pivot_of, branch_weight, first_branches, node_pages}
use Rattle.packed.specs.Rows.Area.{RowsFit}
use Rattle.packed.specs.Rows.Branches.{mark_at, low_of_row, branches_of, node_end, node-ends, node_page, node_pages_from, above_from, node-pages-step, above_step, node-pages-done, above-done}
use Rattle.packed.specs.Rows.Puts.{put_mark}
use Rattle.packed.specs.Rows.Remark.{clear_marks, start_weight, Stays, stays-refl, stays-trans, stays_fit}
use Rattle.packed.specs.Pages.Nodes.{node_bytes_of}
use Rattle.packed.specs.Pages.Raise.{nodes_from, node-fits, nodes-step}
use Rattle.packed.specs.Build.Handed.{handed_from, handed}
use Rattle.packed.specs.Build.HandedLaws.{handed-step, handed-range}
use Rattle.packed.specs.Build.Grow.{grow-stays, grow-branches, grow-later, grow-next, grow_first}
use Rattle.packed.specs.Build.Passes.{LevelMade}

-- what holds before each turn
pub record NodeTurns (l m : ℕ) (numbers : List ℕ) (from : ℕ) (area₀ area store₀ store : List ℕ) (i made : ℕ) : Type 0 where
  pub in_range : i ≤ m
  pub fit : RowsFit m area
  pub stays : Stays m area₀ area
  pub size : length store ≡ length store₀
  pub marked : i < m → 1 ≤ mark_at area i
  pub first_marked : 0 < i → 1 ≤ mark_at area 0
  pub counted : made + nodes_from m area i ≡ from + nodes_from m area₀ 0
  pub marks : branches_of i area 0 ++ above_from m area i (handed_from numbers made) ≡ above_from m area₀ 0 (handed_from numbers from)
  pub pages : write_all (node_pages_from l m area i (handed_from numbers made)) store ≡ write_all (node_pages_from l m area₀ 0 (handed_from numbers from)) store₀

pub level-first : (l m : ℕ) (numbers : List ℕ) (from : ℕ) (area store : List ℕ) → RowsFit m area → 1 ≤ mark_at area 0 → NodeTurns l m numbers from area area store store 0 from
unfolding branches_of
level-first l m numbers from area store f o =
    record {
      in_range = omega arith;
      fit = f;
      stays = stays-refl m area;
      size = refl;
      marked = λ h. o;
      first_marked = λ h. o;
      counted = refl;
      marks = refl;
      pages = refl;
    }

-- what a turn asks of the page writer
pub record NodeReady (m : ℕ) (numbers area : List ℕ) (i j made len : ℕ) : Type 0 where
  pub later : i < j
  pub last : j ≤ m
  pub left : made < length numbers
  pub next : j < m → 1 ≤ mark_at area j
  pub fits : node_bytes_of m area i j ≤ 1016
  pub positive : 1 ≤ get_or numbers made 0
  pub room : get_or numbers made 0 * 1024 + 1024 ≤ len

module _ (l m : ℕ) (numbers : List ℕ) (from : ℕ) (area₀ area store₀ store : List ℕ) (i made : ℕ) (t : NodeTurns l m numbers from area₀ area store₀ store i made) (h : i < m)
    (enough : from + nodes_from m area₀ 0 ≤ length numbers) (r : in_range (length store₀ / 1024) (handed numbers) ≡ true)
    (w : ℕ) (e : w ≡ start_weight area i) (j : ℕ) (f : j ≡ node_end m area (i + 1) w) where
  weight : 6 + length (low_of_row area i) ≡ w
  unfolding start_weight
  weight = sym e

  more_left : nodes_from m area i ≡ suc (nodes_from m area j)
  more_left = nodes-step m area t.fit i h (t.marked h) w weight j f

  pub node-ready : NodeReady m numbers area i j made (length store)
  node-ready =
      let a = node-ends m area t.fit i h (t.marked h) w weight j f in
      let b = more_left in
      let c = t.counted in
      let s = t.size in
      let k : made < length numbers = omega arith in
      let g = handed-range (length store₀ / 1024) numbers made r k in
      record {
        later = a.later;
        last = a.last;
        left = k;
        next = a.next;
        fits = node-fits m area t.fit i h (t.marked h) w weight j f;
        positive = g.0;
        room = let z = g.1 in omega arith;
      }

  pub level-next : (num : ℕ) → num ≡ get_or numbers made 0 → (store' cleared after : List ℕ) → store' ≡ write_node store num (node_page l m area i j)
      → cleared ≡ clear_marks (j - (i + 1)) area (i + 1) → after ≡ put_mark cleared i num → length store' ≡ length store
      → NodeTurns l m numbers from area₀ after store₀ store' j (made + 1)
  level-next num n store' cleared after x p q sz =
      let y = node-ready in
      let pos : 1 ≤ num = let z = y.positive in omega arith in
      let s = grow-stays m area t.fit i j num y.later y.last pos cleared after p q in
      let k = grow-branches m area t.fit i j num y.later y.last pos cleared after p q in
      let g = grow-later m area t.fit i j num y.later y.last pos cleared after p q in
      let d : nodes_from m after j ≡ nodes_from m area j = nodes-by j after g in
      let nums : handed_from numbers made ≡ num ∷ handed_from numbers (made + 1) = handed-step numbers made y.left ∙ ap (λ v. v ∷ handed_from numbers (made + 1)) (sym n) in
      record {
        in_range = y.last;
        fit = stays_fit m area after s t.fit;
        stays = stays-trans m area₀ area after t.stays s;
        size = sz ∙ t.size;
        marked = λ z. rw (grow-next m area t.fit i j num y.later y.last pos cleared after p q) (y.next z);
        first_marked = λ z. grow_first m area t.fit i j num y.later y.last pos cleared after p q t.first_marked;
        counted = let a = t.counted in let b = more_left in omega arith;
        marks =
            ap₂ (λ a b. a ++ b) k (above-by j after (handed_from numbers (made + 1)) g)
            ∙ append_assoc (branches_of i area 0) (record { number = num; pivot = low_of_row area i } ∷ []) (above_from m area j (handed_from numbers (made + 1)))
            ∙ ap (λ ks. branches_of i area 0 ++ ks)
            (sym (ap (above_from m area i) nums ∙ above_step m area t.fit i h (t.marked h) w weight j f num (handed_from numbers (made + 1))))
            ∙ t.marks;
        pages =
            ap₂ (λ ps z. write_all ps z) (pages-by j after (handed_from numbers (made + 1)) g) x
            ∙ written (node_page l m area i j) (node_pages_from l m area j (handed_from numbers (made + 1)))
            ∙ ap (λ ps. write_all ps store)
            (sym (ap (node_pages_from l m area i) nums ∙ node-pages-step m area t.fit i h (t.marked h) w weight j f l num (handed_from numbers (made + 1))))
            ∙ t.pages;
      }
    where
      written : (bs : List ℕ) (ps : List Page) → write_all ps (write_node store num bs) ≡ write_all (record { number = num; bytes = bs } ∷ ps) store
      written bs ps = unfold write_all in refl

      nodes-by : (k : ℕ) (b : List ℕ) → branches_of (m - k) b k ≡ branches_of (m - k) area k → nodes_from m b k ≡ nodes_from m area k
      nodes-by k b g = unfold nodes_from in ap (λ ks. length (groups branch_weight ks)) g

      above-by : (k : ℕ) (b nums : List ℕ) → branches_of (m - k) b k ≡ branches_of (m - k) area k → above_from m b k nums ≡ above_from m area k nums
      above-by k b nums g = unfold above_from in ap (λ ks. first_branches pivot_of nums (groups branch_weight ks)) g

      pages-by : (k : ℕ) (b nums : List ℕ) → branches_of (m - k) b k ≡ branches_of (m - k) area k → node_pages_from l m b k nums ≡ node_pages_from l m area k nums
      pages-by k b nums g = unfold node_pages_from in ap (λ ks. node_pages l nums (groups branch_weight ks)) g

pub level-last : (l m : ℕ) (numbers : List ℕ) (from : ℕ) (area₀ area store₀ store : List ℕ) (i made : ℕ) → NodeTurns l m numbers from area₀ area store₀ store i made
    → 1 ≤ m → m ≤ i → LevelMade l m numbers from area₀ area store₀ store made
level-last l m numbers from area₀ area store₀ store i made t o h =
    let z : m ≡ i = let a = t.in_range in omega arith in
    record {
      stays = t.stays;
      marks =
          ap (λ k. branches_of k area 0) z ∙ sym (append-nil (branches_of i area 0))
          ∙ ap (λ ks. branches_of i area 0 ++ ks) (sym (above-done m area i (handed_from numbers made) h)) ∙ t.marks;
      pages = done (node-pages-done l m area i (handed_from numbers made) h) ∙ t.pages;
      counted = (let a : nodes_from m area i ≡ 0 = none_left in let b = t.counted in omega arith);
      marked = t.first_marked (omega arith);
    }
  where
    done : node_pages_from l m area i (handed_from numbers made) ≡ [] → store ≡ write_all (node_pages_from l m area i (handed_from numbers made)) store
    done e = unfold write_all in sym (ap (λ ps. write_all ps store) e)

    none_left : nodes_from m area i ≡ 0
    none_left = unfold nodes_from branches_of groups in (let z : m - i ≡ 0 = omega arith in ap (λ k. length (groups branch_weight (branches_of k area i))) z)
