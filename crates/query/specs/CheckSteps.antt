-- The steps of check: the two questions in order, and the live count of a sound store.
-- Relies on what the check of soundness promises of node 0's numbers (soundness: Judged) and on what makes an image sound (laws: ButLive).
use Rattle.std.specs.Prelude.{ℕ, zero, suc, ◌≤◌, ◌≡◌, refl, List, Bool, true, false, length, Ok, Err}
use Rattle.image.specs.Prelude.{sym, ◌∙◌, arith}
use Rattle.image.specs.Bytes.{u16}
use Rattle.image.specs.Image.{whole_nodes, most_nodes}
use Rattle.image.specs.Sound.{sound, table_of}
use Rattle.image.specs.Calls.{first_no}
use Rattle.image.specs.Contract.{check_no, check_at, CheckMeets}
use Rattle.image.specs.Answers.{refusal_number, outcome_number, verdict_number, verdict_paths}
use Rattle.image.specs.declared.Refusal.{Refusal}
use Rattle.laws.specs.Refusals.{refusal-some}
use Rattle.laws.specs.ButLive.{live-is, parts_of, sound-but-live}
use Rattle.node.specs.Whole.{whole_parts}
use Rattle.lookup.specs.Root.{long-enough}
use Rattle.soundness.specs.Judged.{told-live}

-- the live count of a sound store is how many rows its table has: at most one for each node
pub count-is : (s : List ℕ) (m : ℕ) → sound s ≡ true → m ≡ u16 s 10 → m ≡ length (table_of s)
count-is s m e h = told-live s m (long-enough s e) h ∙ live-is s e

pub count-few : (s : List ℕ) → whole_nodes (length s) ≡ true → sound s ≡ true → length (table_of s) ≤ most_nodes
count-few s w e = omega (arith, live-is s e, (parts_of s (sound-but-live s e)).live_high, (whole_parts (length s) w).few)

pub refused-few : (r : Refusal) → verdict_paths (Err r) ≤ most_nodes
unfolding verdict_paths
refused-few r = omega arith

module _ (s : List ℕ) where
  -- questions 1 and 2 got no no
  pub fit-store : outcome_number (Ok tt) ≡ check_no s → (whole_nodes (length s) ≡ true) × (sound s ≡ true)
  unfolding check_no first_no outcome_number
  fit-store e = by_questions (whole_nodes (length s)) refl (sound s) refl
    where
      by_questions : (w : Bool) → whole_nodes (length s) ≡ w → (b : Bool) → sound s ≡ b → (whole_nodes (length s) ≡ true) × (sound s ≡ true)
      by_questions false f b g = let z : ◌≡◌ {A = ℕ} 1 0 = sym (rw f refl) ∙ sym e in absurd (omega arith)
      by_questions true f false g = let z : ◌≡◌ {A = ℕ} 2 0 = sym (rw (f, g) refl) ∙ sym e in absurd (omega arith)
      by_questions true f true g = (f, g)

  -- the ways out of check
  pub unfit : (r : Refusal) → outcome_number (Err r) ≡ check_no s → CheckMeets s (verdict_number (Err r)) (verdict_paths (Err r))
  unfolding verdict_number verdict_paths outcome_number
  unfit r e = record { answer = e; beside = beside_no (check_no s) (omega (arith, refusal-some r, e)) }
    where
      beside_no : (k : ℕ) → 1 ≤ k → 0 ≡ check_at k s
      beside_no zero h = absurd (omega arith)
      beside_no (suc k) h = unfold check_at in refl

  module _ (a : Bool) (a-is : a ≡ whole_nodes (length s)) where
    pub ragged : a ≡ false → CheckMeets s (verdict_number (Err Refusal.Length)) (verdict_paths (Err Refusal.Length))
    unfolding check_no first_no outcome_number refusal_number
    ragged e = unfit Refusal.Length (rw (sym a-is ∙ e) refl)

    module _ (a-yes : a ≡ true) (b : Bool) (b-is : b ≡ sound s) where
      pub unsound : b ≡ false → CheckMeets s (verdict_number (Err Refusal.Unsound)) (verdict_paths (Err Refusal.Unsound))
      unfolding check_no first_no outcome_number refusal_number
      unsound e = unfit Refusal.Unsound (rw (sym a-is ∙ a-yes, sym b-is ∙ e) refl)

      pub counted : b ≡ true → (n : ℕ) → n ≡ u16 s 10 → CheckMeets s (verdict_number (Ok n)) (verdict_paths (Ok n)) × (verdict_paths (Ok n) ≤ most_nodes)
      unfolding verdict_number verdict_paths check_no check_at first_no
      counted b-yes n n-is =
          let whole : whole_nodes (length s) ≡ true = sym a-is ∙ a-yes in
          let is_sound : sound s ≡ true = sym b-is ∙ b-yes in
          let no : check_no s ≡ 0 = rw (whole, is_sound) refl in
          let count : n ≡ length (table_of s) = count-is s n is_sound n-is in
          (record { answer = sym no; beside = rw no count }, omega (arith, count-few s whole is_sound))
