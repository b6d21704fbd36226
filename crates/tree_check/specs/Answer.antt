-- What an answer of the check promises: the marks that the definition's walk leaves, and the counts of the tree.
-- Relies on Count. Each promise has a law that makes it and one that uses it, so that no proof of code unfolds it.
use Rattle.std.specs.Prelude.{ℕ, ◌≡◌, refl, List, None, Some}
use Rattle.std.specs.Prelude as found
use Rattle.image.specs.Prelude.{sym, subst, ◌∙◌, Option, none, some}
use Rattle.tree_check.specs.declared.Tally.{Tally}
use Rattle.tree_check.specs.Count.{Count, capped}

-- what a part holds, where it is sound
abbrev pub Checked : Type 0
Checked = found.Option Tally

-- the marks after a walk that found all sound; nothing after another
unfoldable pub out : Checked → List ℕ → Option (List ℕ)
out None seen = none
out (Some t) seen = some seen

unfoldable pub Counts : Count → Checked → Type 0
Counts y None = Unit
Counts y (Some t) = t ≡ capped y

-- x is what the definition's walk leaves, y what the tree holds
pub record Checks (x : Option (List ℕ)) (y : Count) (r : Checked) (seen : List ℕ) : Type 0 where
  pub marks : out r seen ≡ x
  pub counts : Counts y r

pub unsound : (x : Option (List ℕ)) (y : Count) (seen : List ℕ) → x ≡ none → Checks x y None seen
unfolding out Counts
unsound x y seen e = record { marks = sym e; counts = tt }

pub all_sound : (x : Option (List ℕ)) (y : Count) (t : Tally) (seen : List ℕ) → x ≡ some seen → t ≡ capped y → Checks x y (Some t) seen
unfolding out Counts
all_sound x y t seen e f = record { marks = sym e; counts = f }

pub unsound-is : (x : Option (List ℕ)) (y : Count) (r : Checked) (seen : List ℕ) → Checks x y r seen → r ≡ None → x ≡ none
unfolding out
unsound-is x y r seen h e = sym h.marks ∙ rw e

pub sound-is : (x : Option (List ℕ)) (y : Count) (r : Checked) (t : Tally) (seen : List ℕ) → Checks x y r seen → r ≡ Some t → x ≡ some seen
unfolding out
sound-is x y r t seen h e = sym h.marks ∙ rw e

pub tally-is : (x : Option (List ℕ)) (y : Count) (r : Checked) (t : Tally) (seen : List ℕ) → Checks x y r seen → r ≡ Some t → t ≡ capped y
unfolding Counts
tally-is x y r t seen h e = subst (Counts y) e h.counts

pub checks-as : (x z : Option (List ℕ)) (y w : Count) (r : Checked) (seen : List ℕ) → x ≡ z → y ≡ w → Checks x y r seen → Checks z w r seen
checks-as x z y w r seen e f h = rw (← e, ← f) h
