-- The live count right and the work area zeroed: what the end of a call leaves.
-- Relies on append's Laws (the live count written) and on what counting promises.
use Rattle.std.specs.Prelude.{ℕ, ◌*◌, ◌/◌, ◌<◌, ◌≤◌, ◌≡◌, refl, List, ◌++◌, true, length, drop, replicate}
use Rattle.image.specs.Prelude.{sym, ap, subst, ◌∙◌, arith, length-append, length-drop, length-replicate, drop_at}
use Rattle.image.specs.Image.{nodes_of, whole_nodes}
use Rattle.image.specs.Sound.{sound, table_of}
use Rattle.image.specs.Calls.{work_per_node}
use Rattle.octets.specs.Cap.{cap, cap-small}
use Rattle.laws.specs.ButLive.{sound_but_live}
use Rattle.laws.specs.Page.{zeros_of}
use Rattle.node.specs.Whole.{Whole, whole_parts}
use Rattle.append.specs.Laws.SetLive.{with_live, live_right, live-length, live_table}
use Rattle.rebuild.specs.Rebuild.{cleared}

-- the live count right and the work area zeroed
pub record Finished (s s' w w' : List ℕ) : Type 0 where
  pub is_sound : sound s' ≡ true
  pub table : table_of s' ≡ table_of s
  pub size : length s' ≡ length s
  pub work : w' ≡ cleared (nodes_of (length s)) w
  pub exact : s' ≡ with_live s (length (table_of s))

area-size : (len : ℕ) → 128 * (len / 1024) ≡ work_per_node * nodes_of len
unfolding nodes_of
area-size len = refl

zeroed : (k n : ℕ) (w : List ℕ) → k ≡ work_per_node * n → zeros_of k ++ drop k w ≡ cleared n w
unfolding zeros_of
zeroed k n w e = ap (λ j. replicate j 0 ++ drop j w) e

pub finish-done : (s s' w w' : List ℕ) (live k : ℕ) → whole_nodes (length s) ≡ true → sound_but_live s ≡ true → length (table_of s) ≤ nodes_of (length s)
    → live ≡ cap (length (table_of s)) → s' ≡ with_live s live → k ≡ 128 * (length s / 1024) → w' ≡ zeros_of k ++ drop k w → Finished s s' w w'
finish-done s s' w w' live k whole e few l q z r =
    let p : Whole (length s) = whole_parts (length s) whole in
    let counted : live ≡ length (table_of s) = l ∙ cap-small (length (table_of s)) (omega (arith, p.few)) in
    record {
      is_sound = ap sound q ∙ live_right s live e counted (omega arith);
      table = ap table_of q ∙ live_table s live e;
      size = ap length q ∙ live-length s live e;
      work = r ∙ zeroed k (nodes_of (length s)) w (z ∙ area-size (length s));
      exact = q ∙ ap (with_live s) counted;
    }

-- where the number is known, it needs no count
pub known-cap : (n k : ℕ) → k ≤ 65535 → (k ≤ 65535 → k ≡ n) → k ≡ cap n
known-cap n k h f = let e : k ≡ n = f h in e ∙ sym (cap-small n (omega arith))

pub small-live : (s : List ℕ) (live : ℕ) → whole_nodes (length s) ≡ true → length (table_of s) ≤ nodes_of (length s) → live ≡ cap (length (table_of s))
    → (12 ≤ length s) × (length s ≤ 2000000) × (live < 65536)
small-live s live whole few l =
    let p : Whole (length s) = whole_parts (length s) whole in
    let c = cap-small (length (table_of s)) (omega (arith, p.few)) in
    (omega (arith, p.filled, p.enough), omega (arith, p.filled, p.few), omega (arith, p.few))

pub area-fits : (s s' w : List ℕ) (live : ℕ) → sound_but_live s ≡ true → s' ≡ with_live s live → work_per_node * nodes_of (length s) ≤ length w → 128 * (length s' / 1024) ≤ length w
area-fits s s' w live e q h = subst (λ k. 128 * (k / 1024) ≤ length w) (sym (ap length q ∙ live-length s live e)) (subst (λ k. k ≤ length w) (sym (area-size (length s))) h)

pub len-kept : (s s' : List ℕ) (live : ℕ) → sound_but_live s ≡ true → s' ≡ with_live s live → 128 * (length s' / 1024) ≡ 128 * (length s / 1024)
len-kept s s' live e q = ap (λ k. 128 * (k / 1024)) (ap length q ∙ live-length s live e)

-- a work area that was cleared: its size, and the bytes behind, are as they were
module _ (n : ℕ) (w w' : List ℕ) (e : w' ≡ cleared n w) where
  zeros-size : length {A = ℕ} (replicate (work_per_node * n) 0) ≡ work_per_node * n
  zeros-size = length-replicate {A = ℕ} (work_per_node * n) 0

  pub cleared-size : work_per_node * n ≤ length w → length w' ≡ length w
  cleared-size h =
      ap length e ∙ length-append (replicate (work_per_node * n) 0) (drop (work_per_node * n) w)
      ∙ (let d = length-drop (work_per_node * n) w in let z = zeros-size in omega arith)

  pub cleared-later : drop (work_per_node * n) w' ≡ drop (work_per_node * n) w
  cleared-later = ap (drop (work_per_node * n)) e ∙ drop_at (replicate (work_per_node * n) 0) (drop (work_per_node * n) w) (work_per_node * n) zeros-size

-- cleared again: only the bytes behind count
pub cleared-again : (n : ℕ) (w w₁ : List ℕ) → drop (work_per_node * n) w₁ ≡ drop (work_per_node * n) w → cleared n w₁ ≡ cleared n w
cleared-again n w w₁ e = ap (λ l. replicate (work_per_node * n) 0 ++ l) e
