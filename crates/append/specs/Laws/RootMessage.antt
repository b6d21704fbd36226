-- Which messages are sound at the root: it lifts nothing and owns every path, so a well-formed path and a value that fits are enough.
-- Relies on packed's Leaves: a well-formed path comes before FF.
use Rattle.std.specs.Prelude.{ℕ, ◌≡◌, List, [], true}
use Rattle.image.specs.Bytes.{same, shared}
use Rattle.image.specs.Path.{well_formed, owns, value_fits}
use Rattle.image.specs.Entry.{puts, drops, clears}
use Rattle.image.specs.Sound.{sound_message, lowest, highest}
use Rattle.laws.specs.Frame.{or_right}
use Rattle.laws.specs.Rising.{both}
use Rattle.packed.specs.Form.Leaves.{formed-under, not-before-nil}

root-owns : (p : List ℕ) → well_formed p ≡ true → owns lowest highest p ≡ true
unfolding owns
root-owns p e = rw (not-before-nil p) (formed-under p e)

pub put-sound : (p v : List ℕ) → well_formed p ≡ true → value_fits v ≡ true → sound_message lowest highest (puts p v) ≡ true
unfolding sound_message shared
put-sound p v e f = both (both e (root-owns p e)) f

pub drop-sound : (p : List ℕ) → well_formed p ≡ true → sound_message lowest highest (drops p) ≡ true
unfolding sound_message shared
drop-sound p e = both e (root-owns p e)

pub clear-sound : (p : List ℕ) → well_formed p ≡ true → sound_message lowest highest (clears p) ≡ true
unfolding sound_message shared
clear-sound p e = or_right (same p []) (well_formed p) e
