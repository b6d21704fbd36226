-- The steps of ask: one law for each way out of the code.
-- Relies on questions' Callers for the number of each refusal, and on what soundness promises.
use Rattle.std.specs.Prelude.{ℕ, ◌*◌, ◌/◌, ◌<◌, ◌≤◌, ◌≡◌, refl, List, Bool, true, false, length, Result, Ok, Err, None, Some}
use Rattle.std.proofs.Common.{ok_or}
use Rattle.image.specs.Prelude.{sym, ◌∙◌}
use Rattle.image.specs.Image.{nodes_of, whole_nodes}
use Rattle.image.specs.declared.Refusal.{Refusal}
use Rattle.tree_check.specs.Answer.{Checked}
use Rattle.tree_check.specs.declared.Tally.{Tally}
use Rattle.soundness.specs.Judged.{Judged, verdict-yes, verdict-no}
use Rattle.questions.specs.Callers.{ragged-number, short-number, unsound-number}
use Rattle.questions.specs.Asked.{Asked}

module _ (s w seen : List ℕ) where
  pub ragged-store : (x : Bool) → x ≡ whole_nodes (length s) → x ≡ false → Asked s w seen (Err Refusal.Length)
  unfolding Asked
  ragged-store x e f = λ c l. ragged-number s l (sym e ∙ f)

  pub short-work : length w < 128 * (length s / 1024) → Asked s w seen (Err Refusal.Length)
  unfolding Asked nodes_of
  short-work h = λ c l. short-number s l h

  module _ (x : Bool) (x-is : x ≡ whole_nodes (length s)) (x-yes : x ≡ true) (long : 128 * (length s / 1024) ≤ length w) (v : Checked) (j : Judged s v seen) where
    pub unsound-store : v ≡ None → Asked s w seen (Err Refusal.Unsound)
    unfolding Asked nodes_of
    unsound-store e = λ c l. unsound-number s l (sym x-is ∙ x-yes) long (sym (verdict-no s seen v j e))

    pub sound-store : (t : Tally) → v ≡ Some t → Asked s w seen (Ok t)
    unfolding Asked nodes_of
    sound-store t e = record { whole = sym x-is ∙ x-yes; long = long; is_sound = sym (verdict-yes s seen v t j e); holds = j.holds t e }

    -- the verdict handed on, a no as the refusal
    pub judged-store : (r : Result Tally Refusal) → r ≡ ok_or v Refusal.Unsound → Asked s w seen r
    judged-store r e = go v refl
      where
        go : (u : Checked) → v ≡ u → Asked s w seen r
        go None f = rw (e, f) (unsound-store f)
        go (Some t) f = rw (e, f) (sound-store t f)
