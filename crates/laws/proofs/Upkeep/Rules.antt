-- The rules of heal and flush on images, as a loop of code meets them.
-- These laws rest on a definition which a must-fail edit changes; the others of the name are in specs.
use Rattle.std.specs.Prelude.{ℕ, ◌≡◌, List, true}
use Rattle.image.specs.Prelude.{sym, ap, ap₂, ◌∙◌, some, Option·some-injective}
use Rattle.image.specs.Image.{Tree, node_bytes, header, header_of, tree_of}
use Rattle.image.specs.Sound.{sound, lowest, highest}
use Rattle.image.specs.Upkeep.{Reachable, reachable, reachable_nodes, reachable_at, unmergeable_at, healed, flushed}
use Rattle.laws.specs.Upkeep.Join.{mended}
use Rattle.laws.specs.Upkeep.Alter.{altered, on_branches}
use Rattle.laws.specs.Upkeep.Healed.{rechilded, rechild, place-altered}
use Rattle.laws.specs.Upkeep.Steps.{mended-end}
use Rattle.laws.proofs.Upkeep.Steps.{ended}
use Rattle.laws.specs.Upkeep.Flush.{flushed_tree}
use Rattle.laws.specs.Upkeep.Flushed.{flush-flushed}
use Rattle.laws.specs.Upkeep.Bridge.{image-tall}
use Rattle.laws.specs.ButLive.{sound-parts}

module _ (s r : List ℕ) (e : sound s ≡ true) (z : node_bytes r 0 ≡ node_bytes s 0) where
  places-now : (t : Tree) → tree_of r ≡ t → reachable_nodes r ≡ reachable t (header_of s).levels lowest highest
  unfolding reachable_nodes header_of
  places-now t q = ap₂ (λ (b : List ℕ) (u : Tree). reachable u (header b).levels lowest highest) z q

  -- heal's rule, where the search finds no pair at node n any more
  pub loop-ends : (n j : ℕ) (x y : Reachable) → tree_of r ≡ altered (tree_of s) n (on_branches (mended j)) lowest highest
      → reachable_at n (reachable_nodes s) ≡ some x → reachable_at n (reachable_nodes r) ≡ some y → unmergeable_at y ≡ true → healed x (reachable_nodes s) (reachable_nodes r) ≡ true
  unfolding reachable_nodes rechild
  loop-ends n j x y q p w g =
      let after : List Reachable = reachable (altered (tree_of s) n (on_branches (mended j)) lowest highest) (header_of s).levels lowest highest in
      let now : reachable_nodes r ≡ reachable (altered (tree_of s) n (on_branches (mended j)) lowest highest) (header_of s).levels lowest highest = places-now (altered (tree_of s) n (on_branches (mended j)) lowest highest) q in
      let is : some (rechilded (mended j) x) ≡ some y =
      sym (ap (rechild (mended j)) p) ∙ sym (place-altered (tree_of s) n (mended j) (mended-end j) (header_of s).levels lowest highest) ∙ sym (ap (reachable_at n) now) ∙ w in
      let rest : unmergeable_at (rechilded (mended j) x) ≡ true = ap unmergeable_at (Option·some-injective (rechilded (mended j) x) y is) ∙ g in
      ap (healed x (reachable_nodes s)) now
      ∙ ended (tree_of s) n j lowest highest (header_of s).levels x (sound-parts s e).tree (image-tall s (sound-parts s e).tree) (sound-parts s e).once p rest

  -- flush's rule
  pub flush-rule : (n : ℕ) (x : Reachable) → tree_of r ≡ flushed_tree (tree_of s) n lowest highest → reachable_at n (reachable_nodes s) ≡ some x
      → flushed x (reachable_nodes s) (reachable_nodes r) ≡ true
  unfolding reachable_nodes
  flush-rule n x q p =
      ap (flushed x (reachable_nodes s)) (places-now (flushed_tree (tree_of s) n lowest highest) q)
      ∙ flush-flushed (tree_of s) n lowest highest (header_of s).levels x (sound-parts s e).tree (image-tall s (sound-parts s e).tree) (sound-parts s e).once p
