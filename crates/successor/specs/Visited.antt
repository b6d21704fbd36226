-- What a visitor has seen of the paths of a walk, and the steps of the walk for any visitor.
use Rattle.std.specs.Prelude.{ℕ, ◌≡◌, refl, List, [], ◌∷◌, ◌++◌}
use Rattle.image.specs.Prelude.{sym, ap, subst, ◌∙◌, append_assoc}
use Rattle.image.specs.Entry as defined
use Rattle.node.specs.Lent.{path_of}
use Rattle.laws.specs.Reading.SeekHere.{under, under-append}
use Rattle.successor.specs.Walk.{paths_of}

-- some of the paths have made w of v, and the rest are left
abbrev pub Visited : {V : Type 0} → (V → List (List ℕ) → V → Type 0) → V → V → List (List ℕ) → List (List ℕ) → Type 0
Visited W v w rest all = (a : List (List ℕ)) × W v a w × (a ++ rest ≡ all)

module _ {V : Type 0} (W : V → List (List ℕ) → V → Type 0) where
  pub visited-start : ((v : V) → W v [] v) → (v : V) (all : List (List ℕ)) → Visited W v v all all
  visited-start nothing v all = ([], nothing v, refl)

  pub without-paths : ((v : V) → W v [] v) → (v : V) (prefix : List ℕ) (ks : List (List ℕ)) → ks ≡ [] → W v (under prefix ks) v
  unfolding under
  without-paths nothing v prefix ks e = rw e (nothing v)

  module _ (both : (v w x : V) (a b : List (List ℕ)) → W v a w → W w b x → W v (a ++ b) x) (v w x : V) (rest all : List (List ℕ)) where
    pub visited-end : Visited W v w rest all → W w rest x → W v all x
    visited-end (a, h, e) g = subst (λ (ks : List (List ℕ)). W v ks x) e (both v w x a rest h g)

    pub visited-more : (b later : List (List ℕ)) → rest ≡ b ++ later → Visited W v w rest all → W w b x → Visited W v x later all
    visited-more b later q (a, h, e) g = (a ++ b, both v w x a b h g, append_assoc a b later ∙ ap (λ l. a ++ l) (sym q) ∙ e)

-- the paths of entries under a prefix: ps is the first one's, if it has one
pub entries-more : (prefix : List ℕ) (es ts : List defined.Entry) (e : defined.Entry) (ps : List (List ℕ)) → es ≡ e ∷ ts → ps ≡ path_of e
    → under prefix (paths_of es) ≡ under prefix ps ++ under prefix (paths_of ts)
unfolding paths_of
entries-more prefix es ts e ps q h =
    ap (λ l. under prefix (paths_of l)) q ∙ under-append prefix (path_of e) (paths_of ts) ∙ ap (λ l. under prefix l ++ under prefix (paths_of ts)) (sym h)

pub entries-end : (prefix : List ℕ) (es : List defined.Entry) → es ≡ [] → under prefix (paths_of es) ≡ []
unfolding paths_of under
entries-end prefix es q = ap (λ l. under prefix (paths_of l)) q
