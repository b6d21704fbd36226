-- The steps of same: the counts and the walk.
-- Relies on: SamePaths (when two tables have the same keys), CheckSteps (the live count), and on what inclusion promises.
use Rattle.std.specs.Prelude.{ℕ, ◌≡◌, List, Bool, true, false}
use Rattle.image.specs.Prelude.{sym, ◌∙◌}
use Rattle.image.specs.Bytes.{u16}
use Rattle.image.specs.Sound.{sound, table_of}
use Rattle.image.specs.Contract.{same_keys}
use Rattle.laws.specs.Follow.{table-rises}
use Rattle.inclusion.specs.Held.{included}
use Rattle.query.specs.CheckSteps.{count-is}
use Rattle.query.specs.SamePaths.{other_length, same_length}

module _ (s t : List ℕ) (s-sound : sound s ≡ true) (t-sound : sound t ≡ true) (m n : ℕ) (m-is : m ≡ u16 s 10) (n-is : n ≡ u16 t 10) where
  pub counts-differ : (m ≡ n → ⊥) → false ≡ same_keys (table_of s) (table_of t)
  counts-differ h = other_length (table_of s) (table_of t) (λ e. h (count-is s m s-sound m-is ∙ e ∙ sym (count-is t n t-sound n-is)))

  pub counts-agree : m ≡ n → (r : Bool) → r ≡ included (table_of s) (table_of t) → r ≡ same_keys (table_of s) (table_of t)
  counts-agree h r e =
      e ∙ same_length (table_of s) (table_of t) (table-rises s s-sound) (table-rises t t-sound) (sym (count-is s m s-sound m-is) ∙ h ∙ count-is t n t-sound n-is)
