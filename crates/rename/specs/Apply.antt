-- What the act of a move asks, and one law for each way out of the call. Relies on Prepare/Moved (the contract from the steps).
use Rattle.std.specs.Prelude.{ℕ, ◌*◌, ◌-◌, ◌/◌, ◌≤◌, ◌≡◌, refl, List, ◌++◌, Bool, true, false, length, take, drop, Ok, Err, Result, IsErrAnd}
use Rattle.std.proofs.lemmas.Result.{err_from_is_err_and}
use Rattle.image.specs.Prelude.{sym, ap, subst, ◌∙◌}
use Rattle.image.specs.Bytes.{same}
use Rattle.image.specs.Image.{nodes_of, whole_nodes, header_of}
use Rattle.image.specs.Sound.{table_of}
use Rattle.image.specs.Upkeep.{settled}
use Rattle.image.specs.Calls.{acts, move, work_per_node}
use Rattle.image.specs.Contract.{Meets}
use Rattle.image.specs.Answers.{outcome_answer}
use Rattle.image.specs.declared.Refusal.{Refusal}
use Rattle.laws.specs.ButLive.{sound_but_live}
use Rattle.node.specs.Whole.{whole_parts}
use Rattle.packed.specs.Build.Handed.{handed}
use Rattle.rebuild.specs.Rebuild.{cleared}
use Rattle.tree_check.specs.Whole.{Marks}
use Rattle.finish.specs.Finished.{Finished}
use Rattle.swing.specs.Head.{swung_with}
use Rattle.swing.specs.Plan.{SwingAsks}
use Rattle.rename.specs.Prepare.Prepared.{Prepared}
use Rattle.rename.specs.Prepare.Moved.{list-end, swing-asks, stays-meets, live-few, whole-2, but-live-2, few-2, size-2, moved-meets}
use Rattle.rename.specs.declared.going.Going.{Going}
use Rattle.rename.specs.Going.Going.{Accepted, AskedMove}

-- an accepted move of two paths that differ, with what is known of the store
pub record Differ (s w from to seen : List ℕ) (quiet : Bool) : Type 0 where
  pub accepted : Accepted s w from to
  pub differ : same from to ≡ false
  pub marks : Marks s seen
  pub quiet_is : quiet ≡ settled s

module _ (s w from to seen : List ℕ) (quiet : Bool) (d : Differ s w from to seen quiet) (s₁ w₁ numbers : List ℕ) (r : ℕ) (p : Prepared s s₁ w w₁ numbers r) (long : length numbers ≡ 1024) where
  pub numbers-end : r ≤ length numbers
  numbers-end = list-end s s₁ w w₁ numbers (take r numbers) r d.accepted.passed.whole p refl long

  pub swing-asked : SwingAsks s₁ (take r numbers) from to
  swing-asked =
      swing-asks s s₁ w w₁ numbers (take r numbers) from to r d.accepted.passed.whole p refl long d.accepted.formed_from d.accepted.formed_to
      d.accepted.may d.differ d.accepted.nine

  module _ (s₂ : List ℕ) (e : s₂ ≡ swung_with (header_of s₁).live s₁ (handed (take r numbers)) from to) where
    pub finish-asked : (whole_nodes (length s₂) ≡ true) × (sound_but_live s₂ ≡ true) × (length (table_of s₂) ≤ nodes_of (length s₂)) × (work_per_node * nodes_of (length s₂) ≤ length w₁)
    finish-asked = (
      whole-2 s₁ _ from to swing-asked s₂ (header_of s₁).live (live-few s₁ p.is_sound) e,
      but-live-2 s₁ _ from to swing-asked s₂ (header_of s₁).live (live-few s₁ p.is_sound) e,
      few-2 s₁ _ from to swing-asked s₂ (header_of s₁).live (live-few s₁ p.is_sound) e,
      subst (λ m. work_per_node * nodes_of m ≤ length w₁) (sym (size-2 s₁ _ from to swing-asked s₂ (header_of s₁).live (live-few s₁ p.is_sound) e ∙ p.size))
          (subst (λ m. work_per_node * nodes_of (length s) ≤ m) (sym p.work_size) d.accepted.passed.long),
    )

    pub applied : (s₃ w₂ : List ℕ) → Finished s₂ s₃ w₁ w₂ → Meets s (acts (move from to) w) (outcome_answer (Ok tt)) s₃ w₂
    applied s₃ w₂ z =
        moved-meets s s₁ s₂ s₃ w w₁ w₂ numbers (take r numbers) from to r d.accepted.passed.whole d.accepted.number d.differ p swing-asked e z

-- THE WAYS OUT OF THE CALL, by the answer of the questions
module _ (s w from to : List ℕ) where
  -- the refusal is handed on
  pub refused : (q : Refusal) → AskedMove s w from to (Err q) → (r : Result (Unit {0}) Refusal) → IsErrAnd r (λ y. y ≡ q) → Meets s (acts (move from to) w) (outcome_answer r) s w
  unfolding AskedMove
  refused q a r h = let p = err_from_is_err_and r h in rw (p.1, p.2) a

  module _ (g : Going) (a : AskedMove s w from to (Ok g)) where
    module _ (e : g ≡ Going.Stays) where
      kept : Accepted s w from to × (from ≡ to)
      unfolding AskedMove
      kept = subst (λ x. AskedMove s w from to (Ok x)) e a

      pub area-long : (128 * (length s / 1024) ≤ length w) × (length s / 1024 ≤ 1024)
      unfolding nodes_of
      area-long = (kept.0.passed.long, (whole_parts (length s) kept.0.passed.whole).few)

      pub stays : (w' : List ℕ) (n : ℕ) → n ≡ length s / 1024 → w' ≡ cleared n w → Meets s (acts (move from to) w) (outcome_answer (Ok tt)) s w'
      unfolding nodes_of
      stays w' n z q = stays-meets s w w' from to kept.0.passed.is_sound kept.0.number kept.1 (q ∙ ap (λ k. cleared k w) z)

    pub goes : g ≡ Going.Goes → (seen : List ℕ) (quiet : Bool) → Marks s seen → quiet ≡ settled s → Differ s w from to seen quiet
    unfolding AskedMove
    goes e seen quiet m q =
        let x : Accepted s w from to × (same from to ≡ false) = subst (λ x. AskedMove s w from to (Ok x)) e a in
        record { accepted = x.0; differ = x.1; marks = m; quiet_is = q }
