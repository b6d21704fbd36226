-- Demand 2, what is put is kept: after an accepted put of p, v, on any bytes whatever, and any calls that do not touch p, a get of p with
-- room for a value gives v; and so with what a first image holds. Relies on the contracts of the calls (image), on Touches and on laws/Formed.
-- The laws of specs/Kept that rest on a definition which a must-fail edit changes.
use Rattle.std.specs.Prelude.{ℕ, ◌≤◌, ◌≡◌, refl, List, ◌++◌, true, length, drop}
use Rattle.image.specs.Prelude.{sym, ◌∙◌, some}
use Rattle.image.specs.Path.{value_limit}
use Rattle.image.specs.Table.{find}
use Rattle.image.specs.Image.{whole_nodes}
use Rattle.image.specs.Sound.{sound, table_of, value_in}
use Rattle.image.specs.Calls.{Call, acts, asks, put, get, Answer, filled, number_of}
use Rattle.image.specs.Contract.{Meets, Run, stop}
use Rattle.laws.specs.LookupTable.{means-table}
use Rattle.laws.specs.Formed.{found-formed}
use Rattle.demands.specs.Consequences.{all_yes, was-whole, put-formed, run-size, run_sound, get-reads}
use Rattle.demands.specs.Touches.{untouched}
use Rattle.demands.proofs.Touches.{run-spares}
use Rattle.demands.specs.Kept.{put_there}

-- A get gives what was put: the length, the value, and the rest of the buffer as it was. That the put is accepted says that its store was
-- whole and sound (was-whole, was_sound of Consequences), so nothing more is asked of the bytes s.
pub put-then-get : {s w s₁ w₁ s₂ s₃ w₃ p v buffer : List ℕ} {a b : Answer} {cs : List Call} {given : List Answer}
    → Meets s (acts (put p v) w) a s₁ w₁ → number_of a ≡ 0
    → Run s₁ cs given s₂ → untouched p cs given ≡ true
    → Meets s₂ (asks (get p) buffer) b s₃ w₃ → value_limit ≤ length buffer
    → b ≡ filled 0 (length v) (v ++ drop (length v) buffer)
put-then-get {s} {w} {p = p} {v = v} m e r u g l =
    get-reads v g
    (rw (run-size r ∙ m.size) (was-whole s (acts (put p v) w) (all_yes m e)))
    (run_sound r (m.leaves (all_yes m e)))
    (put-formed s p v w (all_yes m e))
    l
    (run-spares p r u ∙ put_there m e)

-- with no call in between
pub put-get : {s w s₁ w₁ s₂ w₂ p v buffer : List ℕ} {a b : Answer}
    → Meets s (acts (put p v) w) a s₁ w₁ → number_of a ≡ 0
    → Meets s₁ (asks (get p) buffer) b s₂ w₂ → value_limit ≤ length buffer
    → b ≡ filled 0 (length v) (v ++ drop (length v) buffer)
unfolding untouched
put-get m e g l = put-then-get m e stop refl g l

-- What a whole sound image holds is kept in the same way.
pub held-then-get : {s s₁ s₂ w₂ p v buffer : List ℕ} {b : Answer} {cs : List Call} {given : List Answer}
    → whole_nodes (length s) ≡ true → sound s ≡ true → value_in s p ≡ some v
    → Run s cs given s₁ → untouched p cs given ≡ true
    → Meets s₁ (asks (get p) buffer) b s₂ w₂ → value_limit ≤ length buffer
    → b ≡ filled 0 (length v) (v ++ drop (length v) buffer)
held-then-get {s} {p = p} {v = v} whole is_sound h r u g l =
    let there : find p (table_of s) ≡ some v = sym (means-table s is_sound p) ∙ h in
    get-reads v g (rw (run-size r) whole) (run_sound r is_sound) (found-formed s is_sound p v there) l (run-spares p r u ∙ there)
