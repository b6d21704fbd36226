-- Two neighbouring nodes as one: the left one's number, the entries rewritten for the joined range.
-- The laws of specs/Upkeep/Merge that rest on a definition which a must-fail edit changes.
use Rattle.std.specs.Prelude.{ℕ, ◌≡◌, List, true}
use Rattle.image.specs.Bytes.{before}
use Rattle.image.specs.Image.{Tree}
use Rattle.image.specs.Sound.{sound_tree}
use Rattle.laws.specs.Upkeep.Merge.{Pair, inners, inners-sound, leaves, leaves-sound, merged}

pub merged-sound : {t u : Tree} → Pair t u → (lo mid hi : List ℕ) → before lo mid ≡ true → before mid hi ≡ true
    → sound_tree t lo mid ≡ true → sound_tree u mid hi ≡ true → sound_tree (merged t u lo mid hi) lo hi ≡ true
merged-sound (leaves i j rs qs) lo mid hi a b e k = leaves-sound i j rs qs lo mid hi a b e k
merged-sound (inners i j f g) lo mid hi a b e k = inners-sound i j f g lo mid hi a b e k
