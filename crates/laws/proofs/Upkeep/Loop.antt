-- Merging again and again until no two neighbouring children would fit in one node.
-- These laws rest on a definition which a must-fail edit changes; the others of the name are in specs.
use Rattle.std.specs.Prelude.{ℕ, zero, suc, ◌≡◌, List, Bool, true}
use Rattle.image.specs.Image.{Forest}
use Rattle.image.specs.Sound.{sound_forest, is_in}
use Rattle.image.specs.Upkeep.{reachable_in}
use Rattle.laws.specs.Upkeep.Sublists.{sub_in}
use Rattle.laws.specs.Upkeep.Kept.{Kept, kept_refl, kept_trans}
use Rattle.laws.specs.Upkeep.Merge.{tall_in}
use Rattle.laws.specs.Upkeep.Mends.{MendsIn}
use Rattle.laws.specs.Upkeep.Join.{join_at, first_pair, mended, heads}
use Rattle.laws.proofs.Upkeep.Join.{join-mends, join-heads, join_kept}

pub mended-kept : (among : ℕ → Bool) (n : ℕ) (f : Forest) (lifted lo hi : List ℕ) (level : ℕ) → sound_forest f lifted lo hi ≡ true → tall_in f level ≡ true
    → ((j : ℕ) → is_in j (heads f) ≡ true → among j ≡ true)
    → Kept among (reachable_in f level lifted hi) (reachable_in (mended n f lifted hi) level lifted hi)
unfolding mended
mended-kept among zero f lifted lo hi level e h a = kept_refl among (reachable_in f level lifted hi)
mended-kept among (suc n) f lifted lo hi level e h a =
    let m : MendsIn f (join_at (first_pair f lifted hi) f lifted hi) lifted lo hi level = join-mends (first_pair f lifted hi) f lifted lo hi level e h in
    kept_trans among (join_kept among (first_pair f lifted hi) f lifted lo hi level e h a)
    (mended-kept among n (join_at (first_pair f lifted hi) f lifted hi) lifted lo hi level m.sound m.height
    (λ j b. a j (sub_in j (join-heads (first_pair f lifted hi) f lifted hi) b)))
