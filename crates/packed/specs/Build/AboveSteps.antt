-- Steps of the loop over the levels: one pass makes the level above of the definitions, and one node is left at last.
-- Rely on specs/Form/Tower for how few nodes a level has, and on specs/Form/Marks for a level by its marks.
use Rattle.std.specs.Prelude.{ℕ, zero, suc, ◌+◌, ◌*◌, ◌-◌, ◌≤◌, ◌<◌, ◌≡◌, refl, List, [], ◌∷◌, ◌++◌, length, drop}
use Rattle.image.specs.Prelude.{sym, ap, ap₂, subst, ◌∙◌, arith}
use Rattle.packed.specs.Form.Chunk.{groups}
use Rattle.packed.specs.Form.Packed.{Item, Built, child_weight, raised, climb, top_of}
use Rattle.packed.specs.Form.Numbered.{raised-length}
use Rattle.packed.specs.Form.Tower.{room, Level, level-above, few-raised, some-raised}
use Rattle.laws.specs.Page.{number_of}
use Rattle.packed.specs.Form.Tidy.{Page, write_all}
use Rattle.packed.specs.Form.Sweep.{own_pages, climb_pages}
use Rattle.packed.specs.Form.Marks.{branch_of, branch_weight, pivot_of, mapped, map_group, groups-mapped, mapped-length, first_branches, node_pages, raised-branches, raised-pages, top_number}
use Rattle.packed.specs.Rows.Branches.{mark_at, branches_of, branches-take, above_from, node_pages_from}
use Rattle.packed.specs.Rows.Remark.{stays-trans, stays_fit}
use Rattle.packed.specs.Pages.Raise.{nodes_from}
use Rattle.packed.specs.Build.Handed.{handed_from}
use Rattle.packed.specs.Build.HandedLaws.{handed-length, handed-drop}
use Rattle.packed.specs.Build.Passes.{LevelMade, Reached, Ascends, Ascended}

-- a level by its marks
module _ (m : ℕ) (area : List ℕ) (nums : List ℕ) (xs : List Item) (e : branches_of m area 0 ≡ mapped branch_of xs) where
  whole : branches_of (m - 0) area 0 ≡ mapped branch_of xs
  whole = let z : m - 0 ≡ m = omega arith in ap (λ k. branches_of k area 0) z ∙ e

  level-count : nodes_from m area 0 ≡ length (raised nums xs)
  unfolding nodes_from
  level-count =
      ap (λ ks. length (groups branch_weight ks)) whole ∙ ap length (groups-mapped branch_of branch_weight xs)
      ∙ mapped-length (map_group branch_of branch_weight) (groups child_weight xs) ∙ sym (raised-length nums xs)

  level-branches : above_from m area 0 nums ≡ mapped branch_of (raised nums xs)
  unfolding above_from
  level-branches = ap (λ ks. first_branches pivot_of nums (groups branch_weight ks)) whole ∙ raised-branches nums xs

  level-pages : (l : ℕ) → node_pages_from l m area 0 nums ≡ own_pages l (raised nums xs)
  unfolding node_pages_from
  level-pages l = ap (λ ks. node_pages l nums (groups branch_weight ks)) whole ∙ raised-pages l nums xs

pub write-append : (ps qs : List Page) (s : List ℕ) → write_all (ps ++ qs) s ≡ write_all qs (write_all ps s)
unfolding write_all
write-append [] qs s = refl
write-append (p ∷ ps) qs s = write-append ps qs _

-- two nodes or more: the level above takes fewer numbers than are left
few-numbers : (nums : List ℕ) (l : ℕ) (xs : List Item) → Level l xs → 2 ≤ length xs → length xs ≤ 2 * length nums + 1 → length (raised nums xs) ≤ length nums
few-numbers nums l xs v h k = let a = few-raised nums l xs v in omega arith

more-fuel : (fuel : ℕ) (xs : List Item) → 2 ≤ length xs → length xs ≤ room fuel → 1 ≤ fuel
unfolding room
more-fuel zero xs h k = absurd (omega arith)
more-fuel (suc f) xs h k = omega arith

-- what a turn asks of the pass
pub record AscentReady (m : ℕ) (numbers area : List ℕ) (level used : ℕ) : Type 0 where
  pub enough : used + nodes_from m area 0 ≤ length numbers
  pub low : level + 1 ≤ 8

pub ascent-ready : (m : ℕ) (numbers area₀ area store₀ store : List ℕ) (level used count : ℕ) (b : Built) (s : List ℕ)
    → Ascends m numbers area₀ area store₀ store level used count b s → 1 < count → AscentReady m numbers area level used
ascent-ready m numbers area₀ area store₀ store level used count b s a h =
    let c = a.counted in
    let r = a.reached in
    let k = few-numbers (handed_from numbers used) level a.items r.stands (omega arith) r.enough in
    let n = level-count m area (handed_from numbers used) a.items r.marks in
    let l = handed-length numbers used in
    let e = r.enough in
    let f = more-fuel a.fuel a.items (omega arith) r.room_left in
    let g = r.levels_left in
    record { enough = omega arith; low = omega arith }

module _ (m : ℕ) (numbers area store : List ℕ) (level used : ℕ) (b : Built) (s : List ℕ) (area' store' : List ℕ) (next : ℕ)
    (made : LevelMade (level + 1) m numbers used area area' store store' next) where
  module _ (x y : Item) (zs : List Item) (f : ℕ) (r : Reached m numbers area store level used b s (x ∷ y ∷ zs) (suc f)) where
    abbrev xs : List Item
    xs = x ∷ y ∷ zs

    abbrev nums : List ℕ
    nums = handed_from numbers used

    abbrev ys : List Item
    ys = raised nums xs

    up : suc level ≡ level + 1
    up = omega arith

    used-next : next ≡ used + length ys
    used-next = let a = made.counted in let c = level-count m area nums xs r.marks in omega arith

    rest : drop (length ys) nums ≡ handed_from numbers next
    rest =
        let a = few-numbers nums level xs r.stands (omega arith) r.enough in
        let c = handed-length numbers used in
        let k = r.enough in
        handed-drop numbers used (length ys) (omega arith) ∙ ap (handed_from numbers) (sym used-next)

    roomy : length xs ≤ room (suc f) → length xs ≤ 14 * room f
    unfolding room
    roomy k = k

    climb-on : climb f (suc level) (drop (length ys) nums) ys ≡ climb (suc f) level nums xs
    unfolding climb
    climb-on = refl

    climb-pages : climb_pages (suc f) level nums xs ≡ own_pages (suc level) ys ++ climb_pages f (suc level) (drop (length ys) nums) ys
    unfolding climb_pages
    climb-pages = refl

    pages-on : write_all (climb_pages f (level + 1) (handed_from numbers next) ys) store' ≡ write_all (climb_pages (suc f) level nums xs) store
    pages-on =
        ap₂ (λ l ns. write_all (climb_pages f l ns ys) store') (sym up) (sym rest)
        ∙ ap (write_all (climb_pages f (suc level) (drop (length ys) nums) ys))
        (made.pages ∙ ap (λ ps. write_all ps store) (level-pages m area nums xs r.marks (level + 1) ∙ ap (λ l. own_pages l ys) (sym up)))
        ∙ sym (write-append (own_pages (suc level) ys) (climb_pages f (suc level) (drop (length ys) nums) ys) store)
        ∙ ap (λ ps. write_all ps store) (sym climb-pages)

    reached-above : Reached m numbers area' store' (level + 1) next b s ys f
    reached-above =
        let few = few-raised nums level xs r.stands in
        let one = some-raised nums xs (omega arith) in
        record {
          stands = subst (λ l. Level l ys) up (level-above nums level xs r.stands);
          marks = made.marks ∙ level-branches m area nums xs r.marks;
          room_left = let d = roomy r.room_left in omega arith;
          enough =
              (let d = handed-length numbers next in
              let e = handed-length numbers used in
              let g = used-next in
              let k = r.enough in
              omega arith);
          levels_left = let a = r.levels_left in omega arith;
          pages = pages-on ∙ r.pages;
          built = ap₂ (λ l ns. climb f l ns ys) (sym up) (sym rest) ∙ climb-on ∙ r.built;
        }

  reached-next : (xs : List Item) (fuel : ℕ) → Reached m numbers area store level used b s xs fuel → 2 ≤ length xs
      → (f : ℕ) × Reached m numbers area' store' (level + 1) next b s (raised (handed_from numbers used) xs) f
  reached-next [] fuel r h = absurd (omega arith)
  reached-next (x ∷ []) fuel r h = absurd (omega arith)
  reached-next (x ∷ y ∷ zs) zero r h = absurd (let k = more-fuel zero (x ∷ y ∷ zs) h r.room_left in omega arith)
  reached-next (x ∷ y ∷ zs) (suc f) r h = (f, reached-above x y zs f r)

pub ascent-next : (m : ℕ) (numbers area₀ area store₀ store : List ℕ) (level used count : ℕ) (b : Built) (s : List ℕ)
    → Ascends m numbers area₀ area store₀ store level used count b s → 1 < count
    → (area' store' : List ℕ) (next : ℕ) → LevelMade (level + 1) m numbers used area area' store store' next → length store' ≡ length store
    → Ascends m numbers area₀ area' store₀ store' (level + 1) next (next - used) b s
ascent-next m numbers area₀ area store₀ store level used count b s a h area' store' next made sz =
    let c = a.counted in
    let r = reached-next m numbers area store level used b s area' store' next made a.items a.fuel a.reached (omega arith) in
    let n = level-count m area (handed_from numbers used) a.items a.reached.marks in
    let k = made.counted in
    record {
      items = raised (handed_from numbers used) a.items;
      fuel = r.0;
      counted = omega arith;
      reached = r.1;
      fit = stays_fit m area area' made.stays a.fit;
      stays = stays-trans m area₀ area area' a.stays made.stays;
      size = sz ∙ a.size;
      marked = made.marked;
    }

-- one node is left
top-mark : (m : ℕ) (area : List ℕ) → 1 ≤ m → 1 ≤ mark_at area 0 → top_number (branches_of m area 0) ≡ mark_at area 0
unfolding top_number
top-mark zero area o h = absurd (omega arith)
top-mark (suc m) area o h = ap top_number (branches-take m area 0 h)

reached-last : (m : ℕ) (numbers area store : List ℕ) (level used : ℕ) (b : Built) (s : List ℕ) (xs : List Item) (fuel : ℕ)
    → Reached m numbers area store level used b s xs fuel → length xs ≤ 1 → 1 ≤ m → 1 ≤ mark_at area 0 → Ascended area store level b s
reached-last m numbers area store level used b s [] fuel r h o k = absurd (let a = r.stands.some_node in omega arith)
reached-last m numbers area store level used b s (x ∷ y ∷ zs) fuel r h o k = absurd (omega arith)
reached-last m numbers area store level used b s (x ∷ []) fuel r h o k =
    record {
      pages = none_more fuel ∙ r.pages;
      root = sym (top-mark m area o k) ∙ ap top_number r.marks ∙ top-is ∙ ap (λ t. number_of t.root) (is-built fuel ∙ r.built);
      height = ap (λ t. t.levels) (is-built fuel ∙ r.built);
      low = let a = r.levels_left in omega arith;
    }
  where
    none_more : (f : ℕ) → store ≡ write_all (climb_pages f level (handed_from numbers used) (x ∷ [])) store
    none_more zero = unfold climb_pages write_all in refl
    none_more (suc f) = unfold climb_pages write_all in refl

    is-built : (f : ℕ) → record { root = x.node; levels = level } ≡ climb f level (handed_from numbers used) (x ∷ [])
    is-built zero = unfold climb top_of in refl
    is-built (suc f) = unfold climb in refl

    top-is : top_number (mapped branch_of (x ∷ [])) ≡ number_of x.node
    top-is = unfold top_number mapped in refl

pub ascent-last : (m : ℕ) (numbers area₀ area store₀ store : List ℕ) (level used count : ℕ) (b : Built) (s : List ℕ)
    → Ascends m numbers area₀ area store₀ store level used count b s → count ≤ 1 → 1 ≤ m → Ascended area store level b s
ascent-last m numbers area₀ area store₀ store level used count b s a h o =
    let c = a.counted in
    reached-last m numbers area store level used b s a.items a.fuel a.reached (omega arith) o a.marked
