-- Steps of the pass that writes the leaves and marks the first row of each: what holds before each turn, and one turn.
-- Rely on specs/Rows/Steps (one leaf, and on) and on the turn of the marks (Grow).
use Rattle.std.specs.Prelude.{ℕ, zero, suc, ◌+◌, ◌*◌, ◌-◌, ◌/◌, ◌≤◌, ◌<◌, ◌≡◌, refl, List, [], ◌∷◌, ◌++◌, Bool, true, false, length, get_or, ltb}
use Rattle.image.specs.Prelude.{sym, ap, ap₂, ◌∙◌, append_assoc, append-nil, arith, ltb-true, ltb-false}
use Rattle.image.specs.Bytes.{shared}
use Rattle.laws.specs.Encode.{bytes_of_all}
use Rattle.image.specs.Sound.{in_range, highest}
use Rattle.laws.specs.WriteNode.{write_node}
use Rattle.packed.specs.Form.Chunk.{groups, groups-flat, more, end_of}
use Rattle.packed.specs.Form.Packed.{pair_weight, leaf_from, leaf_level, first, key_of, short_rows}
use Rattle.laws.specs.Page.{page, pair_entries, number_of}
use Rattle.packed.specs.Form.Tidy.{Page, write_all}
use Rattle.packed.specs.Form.Marks.{mapped}
use Rattle.packed.specs.Rows.Area.{row_at, rows_of, RowsFit, row-weight, row_adds, leaf_end}
use Rattle.packed.specs.Rows.Branches.{mark_at, low_of_row, branches_of}
use Rattle.packed.specs.Rows.Steps.{high_at, leaf_page, leaf_pages_from, leaf-pages-step, leaf-pages-done, leaf-ends}
use Rattle.packed.specs.Rows.Puts.{put_mark}
use Rattle.packed.specs.Rows.Remark.{clear_marks, Stays, stays-refl, stays-sym, stays-trans, stays_fit, low_same}
use Rattle.packed.specs.Build.Handed.{handed_from, handed}
use Rattle.packed.specs.Build.HandedLaws.{handed-step, handed-range}
use Rattle.packed.specs.Build.Pairs.{leaf_bytes}
use Rattle.packed.specs.Build.PairLaws.{high-low, leaf-fits}
use Rattle.packed.specs.Build.Grow.{rows_same, grow-stays, grow-branches, grow_first}
use Rattle.packed.specs.Build.Passes.{leaves_from, leaf_branches, LeavesMade}

-- what holds before each turn
pub record LeafTurns (m : ℕ) (numbers area₀ area store₀ store : List ℕ) (i made : ℕ) : Type 0 where
  pub in_range : i ≤ m
  pub fit : RowsFit m area
  pub stays : Stays m area₀ area
  pub size : length store ≡ length store₀
  pub first_marked : 0 < i → 1 ≤ mark_at area 0
  pub counted : made + leaves_from m area₀ i ≡ leaves_from m area₀ 0
  pub marks : branches_of i area 0 ++ leaf_branches m area₀ i (low_of_row area₀ i) (handed_from numbers made) ≡ leaf_branches m area₀ 0 [] (handed numbers)
  pub pages : write_all (leaf_pages_from m area₀ i (low_of_row area₀ i) (handed_from numbers made)) store ≡ write_all (leaf_pages_from m area₀ 0 [] (handed numbers)) store₀

leaves-done : (m : ℕ) (area : List ℕ) (i : ℕ) → m ≤ i → leaves_from m area i ≡ 0
unfolding leaves_from rows_of groups
leaves-done m area i h = let z : m - i ≡ 0 = omega arith in rw z refl

branches-done : (m : ℕ) (area : List ℕ) (i : ℕ) (lo nums : List ℕ) → m ≤ i → leaf_branches m area i lo nums ≡ []
unfolding leaf_branches rows_of groups leaf_level mapped
branches-done m area i lo nums h = let z : m - i ≡ 0 = omega arith in rw z refl

-- the low pivot of what starts at row j is the high pivot of what ends there
low-on : {A : Type 0} (m : ℕ) (area : List ℕ) (j : ℕ) → 1 ≤ j → (f : List ℕ → A) → (m ≤ j → (a b : List ℕ) → f a ≡ f b) → f (high_at m area j) ≡ f (low_of_row area j)
low-on m area j o f past = go (ltb j m) refl
  where
    go : (b : Bool) → ltb j m ≡ b → f (high_at m area j) ≡ f (low_of_row area j)
    go true e = ap f (high-low m area j o (ltb-true j m e))
    go false e = past (ltb-false j m e) (high_at m area j) (low_of_row area j)

module _ (m : ℕ) (area : List ℕ) (fit : RowsFit m area) (i : ℕ) (h : i < m) (w : ℕ) (e : pair_weight (row_at area i) ≡ w) (j : ℕ) (f : j ≡ leaf_end m area (i + 1) w) where
  leaves-step : leaves_from m area i ≡ suc (leaves_from m area j)
  unfolding leaves_from
  leaves-step = ap length (leaf-ends m area fit i h w e j f).groups_are

  later : 1 ≤ j
  later = let a = (leaf-ends m area fit i h w e j f).later in omega arith

  branches-step : (lo : List ℕ) (num : ℕ) (nums : List ℕ) → leaf_branches m area i lo (num ∷ nums) ≡ record { number = num; pivot = lo } ∷ leaf_branches m area j (low_of_row area j) nums
  branches-step lo num nums =
      opened
      ∙ ap (λ ks. record { number = num; pivot = lo } ∷ ks)
      (low-on m area j later (λ x. leaf_branches m area j x nums) (λ p a b. branches-done m area j a nums p ∙ sym (branches-done m area j b nums p)))
    where
      opened : leaf_branches m area i lo (num ∷ nums) ≡ record { number = num; pivot = lo } ∷ leaf_branches m area j (high_at m area j) nums
      opened = unfold leaf_branches high_at leaf_level leaf_from mapped number_of in
          rw ((leaf-ends m area fit i h w e j f).groups_are, groups-flat pair_weight (rows_of (m - j) area j)) refl

  pages-step : (lo : List ℕ) (num : ℕ) (nums : List ℕ)
      → leaf_pages_from m area i lo (num ∷ nums) ≡ record { number = num; bytes = leaf_page m area i lo j } ∷ leaf_pages_from m area j (low_of_row area j) nums
  pages-step lo num nums =
      leaf-pages-step m area fit i h w e j f lo num nums
      ∙ ap (λ ps. record { number = num; bytes = leaf_page m area i lo j } ∷ ps)
      (low-on m area j later (λ x. leaf_pages_from m area j x nums) (λ p a b. leaf-pages-done m area j a nums p ∙ sym (leaf-pages-done m area j b nums p)))

-- what is read is the same in both areas
more_same : (m : ℕ) (a b : List ℕ) → Stays m a b → (k i used : ℕ) → more (row_adds b) k i used ≡ more (row_adds a) k i used
unfolding more
more_same m a b s zero i used = refl
more_same m a b s (suc k) i used = rw (s.path_length i, s.value_length i, more_same m a b s k (suc i) (used + row_adds a i))

end_same : (m : ℕ) (a b : List ℕ) → Stays m a b → (i used : ℕ) → leaf_end m b i used ≡ leaf_end m a i used
unfolding end_of
end_same m a b s i used = ap (λ k. i + k) (more_same m a b s (m - i) i used)

page-same : (m : ℕ) (a b : List ℕ) → Stays m a b → (i j : ℕ) → i < j → j ≤ m → leaf_page m b i (low_of_row b i) j ≡ leaf_page m a i (low_of_row a i) j
page-same m a b s i j h k =
    ap (λ lo. leaf_page m b i lo j) (low_same a b i (s.row i (omega arith))) ∙ shown
  where
    shown : leaf_page m b i (low_of_row a i) j ≡ leaf_page m a i (low_of_row a i) j
    shown = unfold leaf_page high_at in
        ap₂ (λ x y. page 0x0001 1 (bytes_of_all (pair_entries (short_rows (length (shared (low_of_row a i) (first key_of highest x))) y))))
        (rows_same m a b s (m - j) j (omega arith)) (rows_same m a b s (j - i) i (omega arith))

pub leaf_first : (m : ℕ) (numbers area store : List ℕ) → RowsFit m area → LeafTurns m numbers area area store store 0 0
unfolding branches_of handed low_of_row
leaf_first m numbers area store f =
    record { in_range = omega arith; fit = f; stays = stays-refl m area; size = refl; first_marked = λ h. absurd (omega arith); counted = omega arith; marks = refl; pages = refl }

-- what a turn asks of the page writer
pub record LeafReady (m : ℕ) (numbers area : List ℕ) (i j made len : ℕ) : Type 0 where
  pub later : i < j
  pub last : j ≤ m
  pub left : made < length numbers
  pub fits : leaf_bytes m area i j ≤ 1016
  pub positive : 1 ≤ get_or numbers made 0
  pub room : get_or numbers made 0 * 1024 + 1024 ≤ len

module _ (m : ℕ) (numbers area₀ area store₀ store : List ℕ) (i made : ℕ) (t : LeafTurns m numbers area₀ area store₀ store i made) (h : i < m)
    (enough : leaves_from m area₀ 0 ≤ length numbers) (r : in_range (length store₀ / 1024) (handed numbers) ≡ true)
    (w : ℕ) (e : w ≡ 6 + get_or area (i * 128) 0 + get_or area (i * 128 + 1) 0) (j : ℕ) (f : j ≡ leaf_end m area (i + 1) w) where
  weight : pair_weight (row_at area i) ≡ w
  weight = row-weight m area t.fit i h ∙ sym e

  fit₀ : RowsFit m area₀
  fit₀ = stays_fit m area area₀ (stays-sym m area₀ area t.stays) t.fit

  weight₀ : pair_weight (row_at area₀ i) ≡ w
  weight₀ = ap pair_weight (sym (t.stays.row i h)) ∙ weight

  end₀ : j ≡ leaf_end m area₀ (i + 1) w
  end₀ = f ∙ end_same m area₀ area t.stays (i + 1) w

  more_left : leaves_from m area₀ i ≡ suc (leaves_from m area₀ j)
  more_left = leaves-step m area₀ fit₀ i h w weight₀ j end₀

  pub leaf-ready : LeafReady m numbers area i j made (length store)
  leaf-ready =
      let a = leaf-ends m area t.fit i h w weight j f in
      let b = more_left in
      let c = t.counted in
      let s = t.size in
      let l : made < length numbers = omega arith in
      let g = handed-range (length store₀ / 1024) numbers made r l in
      record {
        later = a.later;
        last = a.last;
        left = l;
        fits = leaf-fits m area t.fit i h w weight j f;
        positive = g.0;
        room = let k = g.1 in omega arith;
      }

  pub leaf-next : (num : ℕ) → num ≡ get_or numbers made 0 → (store' cleared after : List ℕ) → store' ≡ write_node store num (leaf_page m area i (low_of_row area i) j)
      → cleared ≡ clear_marks (j - (i + 1)) area (i + 1) → after ≡ put_mark cleared i num → length store' ≡ length store
      → LeafTurns m numbers area₀ after store₀ store' j (made + 1)
  leaf-next num n store' cleared after x p q sz =
      let y = leaf-ready in
      let pos : 1 ≤ num = let z = y.positive in omega arith in
      let s = grow-stays m area t.fit i j num y.later y.last pos cleared after p q in
      let k = grow-branches m area t.fit i j num y.later y.last pos cleared after p q in
      let nums : handed_from numbers made ≡ num ∷ handed_from numbers (made + 1) = handed-step numbers made y.left ∙ ap (λ v. v ∷ handed_from numbers (made + 1)) (sym n) in
      let low : low_of_row area i ≡ low_of_row area₀ i = low_same area₀ area i (t.stays.row i h) in
      record {
        in_range = y.last;
        fit = stays_fit m area after s t.fit;
        stays = stays-trans m area₀ area after t.stays s;
        size = sz ∙ t.size;
        first_marked = λ z. grow_first m area t.fit i j num y.later y.last pos cleared after p q t.first_marked;
        counted = let a = t.counted in let b = more_left in omega arith;
        marks =
            ap (λ ks. ks ++ leaf_branches m area₀ j (low_of_row area₀ j) (handed_from numbers (made + 1)))
            (k ∙ ap (λ lo. branches_of i area 0 ++ (record { number = num; pivot = lo } ∷ [])) low)
            ∙ append_assoc (branches_of i area 0) (record { number = num; pivot = low_of_row area₀ i } ∷ []) (leaf_branches m area₀ j (low_of_row area₀ j) (handed_from numbers (made + 1)))
            ∙ ap (λ ks. branches_of i area 0 ++ ks)
            (sym (ap (leaf_branches m area₀ i (low_of_row area₀ i)) nums ∙ branches-step m area₀ fit₀ i h w weight₀ j end₀ (low_of_row area₀ i) num (handed_from numbers (made + 1))))
            ∙ t.marks;
        pages =
            ap (write_all (leaf_pages_from m area₀ j (low_of_row area₀ j) (handed_from numbers (made + 1))))
            (x ∙ ap (write_node store num) (page-same m area₀ area t.stays i j y.later y.last))
            ∙ written (leaf_page m area₀ i (low_of_row area₀ i) j) (leaf_pages_from m area₀ j (low_of_row area₀ j) (handed_from numbers (made + 1)))
            ∙ ap (λ ps. write_all ps store)
            (sym (ap (leaf_pages_from m area₀ i (low_of_row area₀ i)) nums ∙ pages-step m area₀ fit₀ i h w weight₀ j end₀ (low_of_row area₀ i) num (handed_from numbers (made + 1))))
            ∙ t.pages;
      }
    where
      written : (bs : List ℕ) (ps : List Page) → write_all ps (write_node store num bs) ≡ write_all (record { number = num; bytes = bs } ∷ ps) store
      written bs ps = unfold write_all in refl

pub leaf_last : (m : ℕ) (numbers area₀ area store₀ store : List ℕ) (i made : ℕ) → LeafTurns m numbers area₀ area store₀ store i made → 1 ≤ m → m ≤ i
    → LeavesMade m numbers area₀ area store₀ store made
leaf_last m numbers area₀ area store₀ store i made t o h =
    let z : m ≡ i = let a = t.in_range in omega arith in
    record {
      stays = t.stays;
      marks =
          ap (λ k. branches_of k area 0) z ∙ sym (append-nil (branches_of i area 0))
          ∙ ap (λ l. branches_of i area 0 ++ l) (sym (branches-done m area₀ i (low_of_row area₀ i) (handed_from numbers made) h)) ∙ t.marks;
      pages = done (leaf-pages-done m area₀ i (low_of_row area₀ i) (handed_from numbers made) h) ∙ t.pages;
      counted = let a = leaves-done m area₀ i h in let b = t.counted in omega arith;
      marked = t.first_marked (omega arith);
    }
  where
    done : leaf_pages_from m area₀ i (low_of_row area₀ i) (handed_from numbers made) ≡ [] → store ≡ write_all (leaf_pages_from m area₀ i (low_of_row area₀ i) (handed_from numbers made)) store
    done e = unfold write_all in sym (ap (λ ps. write_all ps store) e)
