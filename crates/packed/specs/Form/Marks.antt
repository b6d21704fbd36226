-- The way of the code: rows with a mark "a node starts here, numbered x" (0: none), one sweep over them for each level. A level is known by its
-- marks alone: the numbers and the low pivots of its nodes. No tree is looked at.
use Rattle.std.specs.Prelude.{ℕ, suc, ◌+◌, ◌≡◌, refl, List, [], ◌∷◌, Bool, true, false, length, drop, get_or, leb}
use Rattle.image.specs.Prelude.{sym, ap, ap₂, ◌∙◌, arith}
use Rattle.image.specs.Bytes.{shared}
use Rattle.image.specs.Entry.{Entry, child}
use Rattle.image.specs.Image.{Branch}
use Rattle.image.specs.Sound.{highest}
use Rattle.laws.specs.Encode.{bytes_of_all}
use Rattle.packed.specs.Form.Chunk.{Group, members, flat, cut, cut-opens, groups}
use Rattle.packed.specs.Form.Packed.{Item, low_of, child_weight, first, branches, node_from, node_level, raised}
use Rattle.laws.specs.Page.{page, child_entries, number_of}
use Rattle.packed.specs.Form.Tidy.{Page}
use Rattle.packed.specs.Form.Sweep.{own_page, own_pages}

-- a node's number and its low pivot in full
abbrev pub branch_of : Item → Branch
branch_of x = record { number = number_of x.node; pivot = x.low }

abbrev pub pivot_of : Branch → List ℕ
pivot_of k = k.pivot

abbrev pub branch_weight : Branch → ℕ
branch_weight k = 6 + length k.pivot

unfoldable pub mapped : {A B : Type 0} → (A → B) → List A → List B
mapped f [] = []
mapped f (x ∷ xs) = f x ∷ mapped f xs

-- the first of each group, with the next numbers
unfoldable pub first_branches : {A : Type 0} → (A → List ℕ) → List ℕ → List (Group A) → List Branch
first_branches low nums [] = []
first_branches low nums (g ∷ gs) = record { number = get_or nums 0 0; pivot = low g.head } ∷ first_branches low (drop 1 nums) gs

module _ {A : Type 0} (weight : A → ℕ) where
  -- the groups are what is cut off when nothing more fits
  pub groups-cut : (xs : List A) → groups weight xs ≡ (cut weight 1017 xs).later
  unfolding groups cut
  groups-cut [] = refl
  groups-cut (x ∷ xs) = ap (λ c. c.later) (sym (cut-opens weight 1017 x xs (omega arith)))

-- groups of mapped lists
module _ {A B : Type 0} (f : A → B) (w : B → ℕ) where
  abbrev pub map_group : Group A → Group B
  map_group g = record { head = f g.head; tail = mapped f g.tail }

  cut-mapped : (used : ℕ) (xs : List A)
      → ((cut w used (mapped f xs)).here ≡ mapped f (cut (λ x. w (f x)) used xs).here) × ((cut w used (mapped f xs)).later ≡ mapped map_group (cut (λ x. w (f x)) used xs).later)
  unfolding cut mapped
  cut-mapped used [] = (refl, refl)
  cut-mapped used (x ∷ xs) = go (leb (used + w (f x)) 1016) refl (cut-mapped (used + w (f x)) xs) (cut-mapped (w (f x)) xs)
    where
      go : (t : Bool) → leb (used + w (f x)) 1016 ≡ t
          → ((cut w (used + w (f x)) (mapped f xs)).here ≡ mapped f (cut (λ y. w (f y)) (used + w (f x)) xs).here) × ((cut w (used + w (f x)) (mapped f xs)).later ≡ mapped map_group (cut (λ y. w (f y)) (used + w (f x)) xs).later)
          → ((cut w (w (f x)) (mapped f xs)).here ≡ mapped f (cut (λ y. w (f y)) (w (f x)) xs).here) × ((cut w (w (f x)) (mapped f xs)).later ≡ mapped map_group (cut (λ y. w (f y)) (w (f x)) xs).later)
          → ((cut w used (mapped f (x ∷ xs))).here ≡ mapped f (cut (λ y. w (f y)) used (x ∷ xs)).here) × ((cut w used (mapped f (x ∷ xs))).later ≡ mapped map_group (cut (λ y. w (f y)) used (x ∷ xs)).later)
      go true e a b = rw e (ap (λ l. f x ∷ l) a.0, a.1)
      go false e a b = rw e (refl, ap₂ (λ h l. record { head = f x; tail = h } ∷ l) b.0 b.1)

  pub groups-mapped : (xs : List A) → groups w (mapped f xs) ≡ mapped map_group (groups (λ x. w (f x)) xs)
  groups-mapped xs = groups-cut w (mapped f xs) ∙ (cut-mapped 1017 xs).1 ∙ ap (mapped map_group) (sym (groups-cut (λ x. w (f x)) xs))

first-mapped : (nums : List ℕ) (gs : List (Group Item)) → first_branches pivot_of nums (mapped (map_group branch_of branch_weight) gs) ≡ mapped branch_of (node_level nums gs)
unfolding mapped first_branches node_level node_from number_of
first-mapped nums [] = refl
first-mapped nums (g ∷ gs) = ap (λ ks. record { number = get_or nums 0 0; pivot = g.head.low } ∷ ks) (first-mapped (drop 1 nums) gs)

-- the level above, by numbers and pivots alone
pub raised-branches : (nums : List ℕ) (xs : List Item) → first_branches pivot_of nums (groups branch_weight (mapped branch_of xs)) ≡ mapped branch_of (raised nums xs)
unfolding raised
raised-branches nums xs = ap (first_branches pivot_of nums) (groups-mapped branch_of branch_weight xs) ∙ first-mapped nums (groups child_weight xs)

pub mapped-length : {A B : Type 0} (f : A → B) (xs : List A) → length (mapped f xs) ≡ length xs
unfolding mapped
mapped-length f [] = refl
mapped-length f (x ∷ xs) = ap suc (mapped-length f xs)

-- the pages of a level above, by numbers and pivots alone
unfoldable pub branch_entries : ℕ → List Branch → List Entry
branch_entries k [] = []
branch_entries k (x ∷ xs) = child x.number (drop k x.pivot) ∷ branch_entries k xs

unfoldable pub node_pages : ℕ → List ℕ → List (Group Branch) → List Page
node_pages l nums [] = []
node_pages l nums (g ∷ gs) =
    record {
      number = get_or nums 0 0;
      bytes = page 0x0002 l (bytes_of_all (branch_entries (length (shared g.head.pivot (first pivot_of highest (flat gs)))) (members g)));
    }
    ∷ node_pages l (drop 1 nums) gs

branches-entries : (k : ℕ) (xs : List Item) → child_entries (branches k xs) ≡ branch_entries k (mapped branch_of xs)
unfolding child_entries branches branch_entries mapped
branches-entries k [] = refl
branches-entries k (x ∷ xs) = ap (λ es. child (number_of x.node) (drop k x.low) ∷ es) (branches-entries k xs)

first_flat : (gs : List (Group Item)) → first pivot_of highest (flat (mapped (map_group branch_of branch_weight) gs)) ≡ first low_of highest (flat gs)
unfolding first flat mapped
first_flat [] = refl
first_flat (g ∷ gs) = refl

node_level-pages : (l : ℕ) (nums : List ℕ) (gs : List (Group Item)) → node_pages l nums (mapped (map_group branch_of branch_weight) gs) ≡ own_pages l (node_level nums gs)
unfolding node_pages own_pages own_page node_level node_from mapped number_of
node_level-pages l nums [] = refl
node_level-pages l nums (g ∷ gs) =
    ap₂ (λ es ps. record { number = get_or nums 0 0; bytes = page 0x0002 l (bytes_of_all es) } ∷ ps)
    (ap (λ h. branch_entries (length (shared g.head.low h)) (mapped branch_of (members g))) (first_flat gs)
    ∙ sym (branches-entries (length (shared g.head.low (first low_of highest (flat gs)))) (members g)))
    (node_level-pages l (drop 1 nums) gs)

pub raised-pages : (l : ℕ) (nums : List ℕ) (xs : List Item) → node_pages l nums (groups branch_weight (mapped branch_of xs)) ≡ own_pages l (raised nums xs)
unfolding raised
raised-pages l nums xs = ap (node_pages l nums) (groups-mapped branch_of branch_weight xs) ∙ node_level-pages l nums (groups child_weight xs)

-- the climb, by numbers and pivots alone: the pages it writes, the root's number, and the levels
pub record Run : Type 0 where
  pub pages : List Page
  pub root : ℕ
  pub levels : ℕ

unfoldable pub top_number : List Branch → ℕ
top_number [] = 0
top_number (k ∷ ks) = k.number
