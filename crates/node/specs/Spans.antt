-- What the iterator over a node's children gives: each child with its two pivots, and the children that are left.
use Rattle.std.specs.Prelude.{ℕ, ◌≡◌, refl, List, [], ◌∷◌, Option, None, Some, MatchOption}
use Rattle.std.specs.Borrow.{Bor}
use Rattle.image.specs.Entry as defined
use Rattle.image.specs.Image as image
use Rattle.laws.specs.Reading.Relative.{branch_high}
use Rattle.image.specs.Prelude.{ap, ◌∙◌}
use Rattle.node.specs.Lent.{entry_is, left_of}
use Rattle.node.specs.Search.Own.{branch, branches_among}
use Rattle.node.specs.declared.entries.Entry.{Entry}
use Rattle.node.specs.declared.entries.Entries.{Entries}
use Rattle.node.specs.declared.branches.Branch.{Branch}
use Rattle.node.specs.declared.branches.Branches.{Branches}

-- the child in front, if there is one, and those among the entries behind it
abbrev pub pending : Option (ℕ × Bor (List ℕ)) → List defined.Entry → List image.Branch
pending None es = []
pending (Some p) es = branch p.0 p.1.now ∷ branches_among es

abbrev pub pending_of : Branches → List image.Branch
pending_of it = pending it.front (left_of it.behind)

abbrev pub FrontAs : List defined.Entry → Option (ℕ × Bor (List ℕ)) → Entries → Type 0
FrontAs es front behind = branches_among es ≡ pending front (left_of behind)

-- a child given: it stood in front of the children that are left then, and its high pivot is the first one's low one, or the node's
pub record Given (s : Branches) (b : Branch) (t : Branches) : Type 0 where
  pub first : pending_of s ≡ branch b.number b.low.now ∷ pending_of t
  pub ends : b.high.now ≡ branch_high s.high.now (pending_of t)
  pub keeps : t.high.now ≡ s.high.now

abbrev pub Gives : Branches → Option Branch → Branches → Type 0
Gives s r t = MatchOption r (pending_of s ≡ []) (λ b. Given s b t)

-- entries that a child does not begin
pub none-in-front : (es : List defined.Entry) → es ≡ [] → branches_among es ≡ []
unfolding branches_among
none-in-front es q = rw q

other-in-front : (e : Entry) (ts : List defined.Entry) → ((i : ℕ) (k : Bor (List ℕ)) → e ≡ Entry.Child i k → ⊥) → branches_among (entry_is e ∷ ts) ≡ []
unfolding branches_among
other-in-front (Entry.Pair k v) ts h = refl
other-in-front (Entry.Child i k) ts h = absurd (h i k refl)
other-in-front (Entry.Message m) ts h = refl

pub no-child-in-front : (e : Entry) (es ts : List defined.Entry) → es ≡ entry_is e ∷ ts → ((i : ℕ) (k : Bor (List ℕ)) → e ≡ Entry.Child i k → ⊥) → branches_among es ≡ []
no-child-in-front e es ts q h = ap branches_among q ∙ other-in-front e ts h

pub child-in-front : (e : Entry) (es ts : List defined.Entry) (i : ℕ) (k : Bor (List ℕ)) → es ≡ entry_is e ∷ ts → e ≡ Entry.Child i k
    → branches_among es ≡ branch i k.now ∷ branches_among ts
unfolding branches_among
child-in-front e es ts i k q h = rw (q, h)

-- the high pivot of a child, by whether one follows it
pub high-pending : (front : Option (ℕ × Bor (List ℕ))) (es : List defined.Entry) (hi : List ℕ) (p : ℕ × Bor (List ℕ)) → front ≡ Some p → p.1.now ≡ branch_high hi (pending front es)
unfolding branch_high
high-pending front es hi p q = rw q

pub high-last : (front : Option (ℕ × Bor (List ℕ))) (es : List defined.Entry) (hi : List ℕ) → front ≡ None → hi ≡ branch_high hi (pending front es)
unfolding branch_high
high-last front es hi q = rw q
