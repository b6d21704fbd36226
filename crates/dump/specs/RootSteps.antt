-- The steps of the dump from the root: what the first call asks, and that its rows are the table of the store.
-- Relies on what a sound image is (laws: ButLive) and on the steps of the count from the root (live_count: RootSteps).
use Rattle.std.specs.Prelude.{ℕ, ◌*◌, ◌≤◌, ◌≡◌, List, [], ◌++◌, true, length}
use Rattle.image.specs.Prelude.{sym, ap, ap₂, ◌∙◌, arith, eqb-true}
use Rattle.image.specs.Bytes.{u16}
use Rattle.image.specs.Table.{Row}
use Rattle.image.specs.Image.{nodes_of, header_of, tree_at, tree_of}
use Rattle.image.specs.Meaning.{rows}
use Rattle.image.specs.Sound.{sound, sound_tree, lowest, highest, table_of}
use Rattle.octets.specs.Order.{and_right}
use Rattle.laws.specs.Filter.{keep, keep_all}
use Rattle.laws.specs.ButLive.{sound_but_live, sound-live, sound-but-live, parts_of}
use Rattle.laws.specs.Reading.Relative.{usable}
use Rattle.packed.specs.Build.BuiltLaws.{no-rows-fit}
use Rattle.packed.specs.Rows.Area.{rows_of}
use Rattle.live_count.specs.Live.{short}
use Rattle.live_count.specs.LiveLaws.{all_short}
use Rattle.live_count.specs.declared.trail.Trail.{Trail}
use Rattle.live_count.specs.Walk.{passing, Ready}
use Rattle.live_count.specs.Steps.{no-trail}
use Rattle.live_count.specs.RootSteps.{countable, one-node, tree-reads, tree_is, root-ready}
use Rattle.dump.specs.Dump.{Room, Added, Dumped}

-- a sound store has at most as many rows as nodes
pub table-few : (s : List ℕ) → sound s ≡ true → length (table_of s) ≤ nodes_of (length s)
table-few s h =
    let a = (parts_of s (sound-but-live s h)).live_high in
    let b = eqb-true (header_of s).live (length (table_of s)) (and_right (sound_but_live s) _ (sym (sound-live s) ∙ h)) in
    omega arith

module _ (s : List ℕ) (h : sound s ≡ true) where
  pub dump-long : 1024 ≤ length s
  dump-long = one-node s (countable s (sound-but-live s h))

  -- the root, with an empty prefix and an empty trail
  module _ (root levels : ℕ) (a : root ≡ u16 s 6) (b : levels ≡ u16 s 8) where
    pub root-reads : usable (nodes_of (length s)) (tree_at levels s root) ≡ true
    root-reads = ap (λ x. usable (nodes_of (length s)) x) (tree_is s (countable s (sound-but-live s h)) root levels a b) ∙ tree-reads s (countable s (sound-but-live s h))

    pub dump-ready : (t : Trail) → t.depth ≡ 0 → Ready s levels root t
    dump-ready t f = root-ready s (countable s (sound-but-live s h)) root levels a b t f

    module _ (p : List ℕ) (e : p ≡ []) where
      module _ (lo hi : List ℕ) (g : lo ≡ []) (k : hi ≡ highest) where
        low_is : p ++ lo ≡ lowest
        low_is = ap₂ (λ x y. x ++ y) e g

        high_is : p ++ hi ≡ highest
        high_is = ap₂ (λ x y. x ++ y) e k

        pub dump-sound : sound_tree (tree_at levels s root) (p ++ lo) (p ++ hi) ≡ true
        dump-sound =
            ap₂ (λ x y. sound_tree (tree_at levels s root) x y) low_is high_is ∙ ap (λ x. sound_tree x lowest highest) (tree_is s (countable s (sound-but-live s h)) root levels a b)
            ∙ (countable s (sound-but-live s h)).tree

        module _ (t : Trail) (f : t.depth ≡ 0) where
          abbrev Rows : List Row
          Rows = keep (passing t) (rows (tree_at levels s root) (p ++ lo) (p ++ hi))

          whole-table : Rows ≡ table_of s
          unfolding table_of
          whole-table =
              ap₂ (λ x y. keep (passing t) (rows (tree_at levels s root) x y)) low_is high_is
              ∙ ap₂ (λ x y. keep y (rows x lowest highest)) (tree_is s (countable s (sound-but-live s h)) root levels a b) (λ i q. no-trail t f q i)
              ∙ keep_all short (rows (tree_of s) lowest highest) (all_short (tree_of s) lowest highest (countable s (sound-but-live s h)).tree)

          pub dump-room : (area : List ℕ) → 128 * nodes_of (length s) ≤ length area → Room area 0 Rows
          dump-room area l =
              let n = table-few s h in
              let w : length Rows ≡ length (table_of s) = ap length whole-table in
              record { fit = no-rows-fit area; room = omega arith }

          pub dump-done : (area area' : List ℕ) (r : ℕ) → Added 0 area area' r Rows → Dumped s area area' r
          unfolding rows_of
          dump-done area area' r x =
              let w : length Rows ≡ length (table_of s) = ap length whole-table in
              let c = x.count in
              record { fit = x.fit; table = x.rows ∙ whole-table; count = omega arith; size = x.size }
