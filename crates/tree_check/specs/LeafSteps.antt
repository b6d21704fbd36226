-- The exits of the check of a leaf.
-- Relies on Walk (what the walk is for a leaf) and Layout (where its entries stand).
use Rattle.std.specs.Prelude.{ℕ, ◌+◌, ◌*◌, ◌≤◌, ◌≡◌, refl, List, Bool, true, false, cond, length, None, Some}
use Rattle.image.specs.Prelude.{sym, ap, ◌∙◌, Option, none, some}
use Rattle.image.specs.Entry as defined
use Rattle.image.specs.Image.{node_bytes, laid_out, node_entries, pairs_of, or_none, leaf_of, tree_at}
use Rattle.path.specs.Shape.{Shape}
use Rattle.laws.specs.Reading.SoundHere.{sound_here}
use Rattle.image.specs.Bytes.{u16}
use Rattle.node.specs.Cut.{cut}
use Rattle.node.specs.Entries.{list_of, all_listed}
use Rattle.tree_check.specs.Node.Leaf.{leaf_run, leaf-sound}
use Rattle.octets.specs.Cap.{cap}
use Rattle.tree_check.specs.Count.{count_of, only_pairs, capped}
use Rattle.tree_check.specs.CountLaws.{pairs-capped}
use Rattle.tree_check.specs.Answer.{Checked, Checks, unsound, all_sound}
use Rattle.tree_check.specs.Walk.{leaf-counts}
use Rattle.tree_check.specs.Layout.{entries_at, entries_none}

module _ (s : List ℕ) (i : ℕ) (sh : Shape) (lo hi : List ℕ) where
  -- what the check of a leaf promises
  abbrev pub LeafChecks : Checked → Type 0
  LeafChecks r = (seen : List ℕ) → Checks (cond (sound_here (tree_at 1 s i) sh lo hi) (some seen) none) (count_of (tree_at 1 s i)) r seen

  run_is : leaf_run sh lo hi none (node_entries 0x0001 1 (node_bytes s i)) ≡ sound_here (tree_at 1 s i) sh lo hi
  unfolding tree_at
  run_is = leaf-sound sh lo hi i (node_entries 0x0001 1 (node_bytes s i))

  leaf-tree : count_of (tree_at 1 s i) ≡ count_of (leaf_of i (or_none pairs_of (node_entries 0x0001 1 (node_bytes s i))))
  unfolding tree_at
  leaf-tree = refl

  not_sound : leaf_run sh lo hi none (node_entries 0x0001 1 (node_bytes s i)) ≡ false → LeafChecks None
  not_sound h seen =
      let q : sound_here (tree_at 1 s i) sh lo hi ≡ false = sym run_is ∙ h in
      unsound (cond (sound_here (tree_at 1 s i) sh lo hi) (some seen) none) (count_of (tree_at 1 s i)) seen (rw q)

  none_read : (o : Option (List defined.Entry)) → o ≡ none → leaf_run sh lo hi none o ≡ false
  unfolding leaf_run
  none_read o e = rw e

  module _ (inside : i * 1024 + 1024 ≤ length s) (b : Bool) (eb : b ≡ laid_out 1 1 (node_bytes s i)) where
    pub leaf-unlaid : b ≡ false → LeafChecks None
    leaf-unlaid f = not_sound (none_read (node_entries 0x0001 1 (node_bytes s i)) (entries_none s i 1 1 inside (sym eb ∙ f)))

    module _ (f : b ≡ true) (l : List ℕ) (el : l ≡ cut s (i * 1024 + 8) (i * 1024 + 8 + u16 s (i * 1024))) where
      at_leaf : node_entries 0x0001 1 (node_bytes s i) ≡ defined.entries_of l
      at_leaf = entries_at s i 1 1 inside l el (sym eb ∙ f)

      module _ (t : Bool) (et : t ≡ leaf_run sh lo hi none (defined.entries_of l)) where
        pub leaf-unsound : t ≡ false → LeafChecks None
        leaf-unsound g = not_sound (ap (λ o. leaf_run sh lo hi none o) at_leaf ∙ sym et ∙ g)

        pub leaf-all-sound : t ≡ true → (k : ℕ) → k ≡ cap (length (list_of l)) → LeafChecks (Some (record { pairs = k; messages = 0; nodes = 1 }))
        leaf-all-sound g k ek seen =
            let h : leaf_run sh lo hi none (node_entries 0x0001 1 (node_bytes s i)) ≡ true = ap (λ o. leaf_run sh lo hi none o) at_leaf ∙ sym et ∙ g in
            let q : sound_here (tree_at 1 s i) sh lo hi ≡ true = sym run_is ∙ h in
            let n : count_of (leaf_of i (or_none pairs_of (node_entries 0x0001 1 (node_bytes s i)))) ≡ only_pairs (length (list_of l))
            = leaf-counts sh lo hi i (node_entries 0x0001 1 (node_bytes s i)) (list_of l) (λ es e. all_listed l es (sym at_leaf ∙ e)) h in
            let m : count_of (tree_at 1 s i) ≡ only_pairs (length (list_of l)) = leaf-tree ∙ n in
            all_sound (cond (sound_here (tree_at 1 s i) sh lo hi) (some seen) none) (count_of (tree_at 1 s i)) (record { pairs = k; messages = 0; nodes = 1 }) seen (rw q)
            (pairs-capped k (length (list_of l)) ek ∙ ap (λ c. capped c) (sym m))
