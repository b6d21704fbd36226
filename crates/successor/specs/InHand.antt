-- The child in hand of a node that is walked: it is ready, so are those after it, and its paths come first.
-- Relies on: node's children as an iterator (Spans), Candidates.
use Rattle.std.specs.Prelude.{ℕ, ◌≡◌, List, ◌∷◌, ◌++◌}
use Rattle.image.specs.Prelude.{sym, ap, subst, ◌∙◌}
use Rattle.image.specs.Entry as defined
use Rattle.image.specs.Image as image
use Rattle.laws.specs.Reading.Relative.{branch_high}
use Rattle.laws.specs.Reading.SeekHere.{under, under-append}
use Rattle.node.specs.Search.Own.{branch}
use Rattle.node.specs.Spans.{pending_of, Given}
use Rattle.node.specs.declared.branches.Branch.{Branch}
use Rattle.node.specs.declared.branches.Branches.{Branches}
use Rattle.successor.specs.Walk.{child_paths, run_paths, ChildReady, BranchesReady}
use Rattle.successor.specs.Candidates.{run-first, branches-first, branches-later}

module _ (s prefix hi : List ℕ) (level : ℕ) (it : Branches) (b : Branch) (later : Branches) (given : Given it b later) (ready : BranchesReady s level prefix hi (pending_of it)) (ends : it.high.now ≡ hi) where
  high-here : b.high.now ≡ branch_high hi (pending_of later)
  high-here = given.ends ∙ ap (λ h. branch_high h (pending_of later)) ends

  all-ready : BranchesReady s level prefix hi (branch b.number b.low.now ∷ pending_of later)
  all-ready = subst (λ (ks : List image.Branch). BranchesReady s level prefix hi ks) given.first ready

  pub in-hand : ChildReady s prefix b.low.now b.high.now level b.number
  in-hand = subst (λ (h : List ℕ). ChildReady s prefix b.low.now h level b.number) (sym high-here) (branches-first s level prefix hi (branch b.number b.low.now) (pending_of later) all-ready)

  pub later-ready : BranchesReady s level prefix hi (pending_of later)
  later-ready = branches-later s level prefix hi (branch b.number b.low.now) (pending_of later) all-ready

  pub later-ends : later.high.now ≡ hi
  later-ends = given.keeps ∙ ends

  pub run-more : (es : List defined.Entry)
      → under prefix (run_paths level s hi (pending_of it) es) ≡ under prefix (child_paths level s b.number b.low.now b.high.now) ++ under prefix (run_paths level s hi (pending_of later) es)
  run-more es =
      ap (λ ks. under prefix (run_paths level s hi ks es)) given.first
      ∙ ap (under prefix) (run-first level s hi (branch b.number b.low.now) (pending_of later) es)
      ∙ under-append prefix (child_paths level s b.number b.low.now (branch_high hi (pending_of later))) (run_paths level s hi (pending_of later) es)
      ∙ ap (λ h. under prefix (child_paths level s b.number b.low.now h) ++ under prefix (run_paths level s hi (pending_of later) es)) (sym high-here)
