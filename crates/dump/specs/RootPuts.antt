-- The steps of the dump from a root whose messages are all puts: what the walk over its children asks, and that their rows with the puts are
-- the table of the store. Relies on specs/TreeLaws (an interior node whose messages are puts) and on the steps from the root (RootSteps).
use Rattle.std.specs.Prelude.{ℕ, ◌+◌, ◌-◌, ◌*◌, ◌≤◌, ◌≡◌, refl, List, [], ◌++◌, true, length}
use Rattle.image.specs.Prelude.{sym, ap, ap₂, ◌∙◌, arith}
use Rattle.image.specs.Bytes.{u16, shared}
use Rattle.image.specs.Entry.{Entry}
use Rattle.image.specs.Table.{Row, put_all, every_key, rising}
use Rattle.image.specs.Image.{Branch, Forest, nodes_of, forest_of, tree_at, tree_of}
use Rattle.image.specs.Meaning.{rows, rows_in}
use Rattle.image.specs.Sound.{sound, sound_tree, sound_forest, lowest, highest, table_of}
use Rattle.laws.specs.RowsRising.{rows-rise-in}
use Rattle.laws.specs.Filter.{keep, keep_all}
use Rattle.laws.specs.ButLive.{sound-but-live}
use Rattle.laws.specs.Reading.Relative.{usable_in}
use Rattle.node.specs.Lent.{left_of}
use Rattle.node.specs.declared.entries.Entries.{Entries}
use Rattle.node.specs.Search.Own.{branches_among}
use Rattle.lookup.specs.Look.{listing, node-inside, branches-usable}
use Rattle.packed.specs.Build.BuiltLaws.{no-rows-fit}
use Rattle.packed.specs.Rows.Area.{rows_of}
use Rattle.packed.specs.Rows.Steps.{rows-length}
use Rattle.live_count.specs.Live.{short}
use Rattle.live_count.specs.LiveLaws.{all_short}
use Rattle.live_count.specs.declared.position.Position.{Position}
use Rattle.live_count.specs.Walk.{passing, Ready, ReadyBranches}
use Rattle.live_count.specs.Noted.{AtRoot, SoundBranches}
use Rattle.live_count.specs.Steps.{no-trail}
use Rattle.live_count.specs.RootSteps.{countable, tree_is, root_told}
use Rattle.dump.specs.Insertion.Insertion.{Merged, Laid, laid}
use Rattle.dump.specs.Dump.{Room, Added, Dumped}
use Rattle.dump.specs.Replacing.{only_puts, put_among, puts_fit, Unset}
use Rattle.dump.specs.ReplacingSteps.{puts-more, puts-passed}
use Rattle.dump.specs.TreeLaws.{branches_sound, interior-puts, interior-puts-fit}
use Rattle.dump.specs.RootSteps.{table-few, root-reads, dump-ready}

-- the root lies in the store, and so do its entries
pub root-inside : (s : List ℕ) → sound s ≡ true → (root levels : ℕ) → root ≡ u16 s 6 → levels ≡ u16 s 8 → (root * 1024 + 1024 ≤ length s) × (u16 s (root * 1024) ≤ 1016)
root-inside s h root levels a b = node-inside s root levels (root-reads s h root levels a b)

module _ (s : List ℕ) (h : sound s ≡ true) (num level : ℕ) (en : num ≡ u16 s 6) (el : level ≡ u16 s 8) (v : Position) (at : AtRoot v) where
  abbrev p : List ℕ
  p = v.prefix

  ready : Ready s level num v.trail
  ready = dump-ready s h num level en el v.trail at.trail

  nothing-before : p ≡ []
  nothing-before = at.prefix

  tree-whole : tree_at level s num ≡ tree_of s
  tree-whole = tree_is s (countable s (sound-but-live s h)) num level en el

  root-sound : sound_tree (tree_at level s num) lowest highest ≡ true
  root-sound = ap (λ x. sound_tree x lowest highest) tree-whole ∙ (countable s (sound-but-live s h)).tree

  nothing-lifted : shared lowest highest ≡ []
  unfolding shared
  nothing-lifted = refl

  module _ (two : 2 ≤ level) (only : only_puts (listing s num) ≡ true) (it : Entries) (ee : left_of it ≡ listing s num) (branches : List Branch) (eb : branches ≡ branches_among (left_of it))
      (hi : List ℕ) (eh : hi ≡ highest) where
    abbrev own : List Entry
    own = left_of it

    own_is : listing s num ≡ own
    own_is = sym ee

    abbrev forest : List Branch → Forest
    forest ks = forest_of (λ j. tree_at (level - 1) s j) ks

    branches-are : branches_among (listing s num) ≡ branches
    branches-are = ap branches_among own_is ∙ sym eb

    prefix-is : shared lowest highest ≡ p
    prefix-is = nothing-lifted ∙ sym nothing-before

    high_is : highest ≡ p ++ hi
    high_is = sym eh ∙ ap (λ front. front ++ hi) (sym nothing-before)

    forest-sound : sound_forest (forest branches) p lowest (p ++ hi) ≡ true
    forest-sound =
        ap₂ (λ front y. sound_forest (forest branches) front lowest y) (sym prefix-is) (sym high_is)
        ∙ ap (λ ks. sound_forest (forest ks) (shared lowest highest) lowest highest) (sym branches-are)
        ∙ branches_sound s num level ready.reads two lowest highest root-sound

    -- what the walk over the children asks
    pub children-ready : ReadyBranches s (level - 1) branches v.trail
    children-ready =
        let d = ready.deep in
        record { reads = ap (λ ks. usable_in (nodes_of (length s)) (forest ks)) (sym branches-are) ∙ branches-usable s num level ready.reads two; deep = omega arith }

    pub children-sound : SoundBranches s (level - 1) branches hi v
    children-sound =
        record {
          low = lowest;
          sound = ap (λ l. sound_forest (forest branches) p l (p ++ hi)) (ap (λ front. front ++ lowest) nothing-before) ∙ forest-sound;
          tells = root_told v lowest hi at;
        }

    -- the children's rows, all of them short
    abbrev Branches : List Row
    Branches = rows_in (forest branches) p (p ++ hi)

    abbrev Kept : List Row
    Kept = keep (passing v.trail) Branches

    with-puts : put_among [] own Branches ≡ table_of s
    unfolding table_of
    with-puts =
        ap₂ (λ front es. put_among front es Branches) (sym nothing-lifted) (sym own_is)
        ∙ ap (put_among (shared lowest highest) (listing s num))
        (ap₂ (λ front y. rows_in (forest branches) front y) (sym prefix-is) (sym high_is) ∙ ap (λ ks. rows_in (forest ks) (shared lowest highest) highest) (sym branches-are))
        ∙ interior-puts s num level ready.reads two lowest highest root-sound only
        ∙ ap (λ x. rows x lowest highest) tree-whole

    table-short : every_key short (table_of s) ≡ true
    unfolding table_of
    table-short = all_short (tree_of s) lowest highest (countable s (sound-but-live s h)).tree

    kept_all : Kept ≡ Branches
    kept_all =
        ap (λ f. keep f Branches) (λ i q. no-trail v.trail at.trail q i)
        ∙ keep_all short Branches (puts-passed short [] own Branches (ap (every_key short) with-puts ∙ table-short))

    kept-rises : rising Kept ≡ true
    kept-rises = ap rising kept_all ∙ rows-rise-in (forest branches) p lowest (p ++ hi) forest-sound

    with-kept : put_among [] own Kept ≡ table_of s
    with-kept = ap (put_among [] own) kept_all ∙ with-puts

    table-room : (area : List ℕ) → 128 * nodes_of (length s) ≤ length area → 128 * length (put_among [] own Kept) ≤ length area
    table-room area l = let n = table-few s h in let e : length (put_among [] own Kept) ≡ length (table_of s) = ap length with-kept in omega arith

    pub children-room : (area : List ℕ) → 128 * nodes_of (length s) ≤ length area → Room area 0 Kept
    children-room area l =
        let a = table-room area l in
        let b = puts-more [] own Kept in
        record { fit = no-rows-fit area; room = omega arith }

    -- they stand in the area
    module _ (area area₁ : List ℕ) (l : 128 * nodes_of (length s) ≤ length area) (m : ℕ) (x : Added 0 area area₁ m Kept) where
      first_rows : rows_of (m - 0) area₁ 0 ≡ Kept
      unfolding rows_of
      first_rows = let z : m - 0 ≡ m = omega arith in ap (λ k. rows_of k area₁ 0) z ∙ x.rows

      no-later : rows_of (m - m) area₁ m ≡ []
      unfolding rows_of
      no-later = let z : m - m ≡ 0 = omega arith in ap (λ k. rows_of k area₁ m) z

      laid-first : laid area₁ m m ≡ Kept
      unfolding put_all
      laid-first = ap₂ put_all no-later first_rows

      pub puts-unset : Unset area₁ m m own
      unfolding rising
      puts-unset =
          let a = table-room area l in
          let b : length (put_among [] own (laid area₁ m m)) ≡ length (put_among [] own Kept) = ap (λ u. length (put_among [] own u)) laid-first in
          let c : length (laid area₁ m m) ≡ length Kept = ap length laid-first in
          let d = x.count in
          let z = x.size in
          record {
            apart = record {
              fit = x.fit;
              low = omega arith;
              high = omega arith;
              rises = ap rising first_rows ∙ kept-rises;
              later = ap rising no-later;
              apart = omega arith;
            };
            fits = ap₂ puts_fit (sym nothing-lifted) (sym own_is) ∙ interior-puts-fit s num level ready.reads two lowest highest root-sound;
            room = omega arith;
          }

      -- the puts are in, and all is merged
      pub puts-dumped : (area₂ area₃ : List ℕ) (all : ℕ) → Laid m area₁ area₂ all (put_among [] own (laid area₁ m m)) → length area₃ ≡ length area₂
          → Merged area₂ area₃ 0 m all → Dumped s area area₃ all
      puts-dumped area₂ area₃ all y size z =
          let e : all ≡ all - 0 = omega arith in
          let f : rows_of all area₃ 0 ≡ table_of s
          = ap (λ k. rows_of k area₃ 0) e ∙ z.rows ∙ y.table ∙ ap (put_among [] own) laid-first ∙ with-kept in
          record { fit = z.fit; table = f; count = sym (rows-length all area₃ 0) ∙ ap length f; size = size ∙ y.size ∙ x.size }
