-- The exits of the check of a node.
-- Relies on Walk, First and Sequence.
use Rattle.std.specs.Prelude.{ℕ, zero, suc, ◌-◌, ◌<◌, ◌≤◌, ◌≡◌, refl, List, true, false, cond, length, get_or, set, None, Some}
use Rattle.image.specs.Prelude.{sym, ap, ◌∙◌, Option, none, some, arith}
use Rattle.image.specs.Entry as defined
use Rattle.image.specs.Image.{Tree, node_bytes, nodes_of, node_entries, inside_of, or_none, interior_of, tree_at}
use Rattle.path.specs.Shape.{Shape}
use Rattle.octets.specs.Order.{same_refl}
use Rattle.laws.specs.Reading.SoundHere.{sound_here}
use Rattle.laws.specs.Reading.Visit.{unmet, visit}
use Rattle.node.specs.Entries.{list_of, all_listed}
use Rattle.tree_check.specs.Node.Inside.{branches_run}
use Rattle.tree_check.specs.Count.{Count, plus, count_of, only_node, branches_count, capped}
use Rattle.tree_check.specs.CountLaws.{node-capped}
use Rattle.tree_check.specs.Answer.{Checked, Checks, unsound, all_sound, unsound-is, sound-is, tally-is, checks-as}
use Rattle.tree_check.specs.Walk.{node_run, node-met, unmet-low, unmet-past, unmet-again, unmet-yes, leaf-walk, headless, first_walk, first-counts}
use Rattle.tree_check.specs.First.{NoFirst, FirstOf}
use Rattle.tree_check.specs.LeafSteps.{LeafChecks}
use Rattle.tree_check.specs.Sequence.{Passed}

module _ (s : List ℕ) (i level : ℕ) (sh : Shape) (lo hi seen : List ℕ) where
  -- what the walk over the tree leaves, and what it holds
  abbrev marked : Option (List ℕ)
  marked = visit (tree_at level s i) (nodes_of (length s)) sh lo hi seen

  abbrev Y : Count
  Y = count_of (tree_at level s i)

  met : unmet (nodes_of (length s)) seen i ≡ false → (after : List ℕ) → Checks marked Y None after
  met e after = unsound marked Y after (node-met level s i (nodes_of (length s)) sh lo hi seen e)

  pub number-low : i < 1 → (after : List ℕ) → Checks marked Y None after
  number-low h after = met (unmet-low (nodes_of (length s)) i seen h) after

  pub number_past : (n : ℕ) → n ≡ nodes_of (length s) → n ≤ i → (after : List ℕ) → Checks marked Y None after
  number_past n e h after = met (unmet-past (nodes_of (length s)) i seen (omega arith)) after

  pub reached-before : (get_or seen i 0 ≡ 0 → ⊥) → (after : List ℕ) → Checks marked Y None after
  reached-before h after = met (unmet-again (nodes_of (length s)) i seen h) after

  unread-walk : (l : ℕ) → l < 1 → visit (tree_at l s i) (nodes_of (length s)) sh lo hi seen ≡ none
  unfolding tree_at visit
  unread-walk zero h = refl
  unread-walk (suc l) h = absurd (omega arith)

  pub level-zero : level < 1 → (after : List ℕ) → Checks marked Y None after
  level-zero h after = unsound marked Y after (unread-walk level h)

  module _ (n : ℕ) (en : n ≡ nodes_of (length s)) (low : 1 ≤ i) (high : i < n) (fresh : get_or seen i 0 ≡ 0) where
    open-node : unmet (nodes_of (length s)) seen i ≡ true
    open-node = unmet-yes (nodes_of (length s)) i seen low (omega arith) fresh

    -- a leaf
    pub node-leaf : level ≡ 1 → (r : Checked) → LeafChecks s i sh lo hi r → Checks marked Y r (set seen i 1)
    node-leaf e r h =
        checks-as (cond (sound_here (tree_at 1 s i) sh lo hi) (some (set seen i 1)) none) marked (count_of (tree_at 1 s i)) Y r (set seen i 1)
        (leaf-walk s i (nodes_of (length s)) sh lo hi seen open-node level e) (ap (λ l. count_of (tree_at l s i)) (sym e)) (h (set seen i 1))

  -- an interior node
  interior-tree : (l : ℕ) → 2 ≤ l → tree_at l s i ≡ interior_of (tree_at (l - 1) s) i (or_none inside_of (node_entries 0x0002 l (node_bytes s i)))
  unfolding tree_at
  interior-tree zero h = absurd (omega arith)
  interior-tree (suc zero) h = absurd (omega arith)
  interior-tree (suc (suc l)) h =
      let e : suc l ≡ suc (suc l) - 1 = omega arith in
      ap (λ m. interior_of (tree_at m s) i (or_none inside_of (node_entries 0x0002 (suc (suc l)) (node_bytes s i)))) e

  alike : (j : ℕ) (z : Shape) (a b q : List ℕ) → node_run (level - 1) s j z a b q ≡ visit (tree_at (level - 1) s j) (nodes_of (length s)) z a b q
  unfolding node_run
  alike j z a b q = refl

  abbrev T : Tree
  T = interior_of (tree_at (level - 1) s) i (or_none inside_of (node_entries 0x0002 level (node_bytes s i)))

  pub no-first : 2 ≤ level → NoFirst s i level lo → (after : List ℕ) → Checks marked Y None after
  no-first two f after =
      unsound marked Y after
      (ap (λ t. visit t (nodes_of (length s)) sh lo hi seen) (interior-tree level two)
      ∙ headless (tree_at (level - 1) s) (nodes_of (length s)) (node_run (level - 1) s) alike i sh lo hi seen (node_entries 0x0002 level (node_bytes s i)) f)

  -- an interior node whose first child is read
  module _ (n : ℕ) (en : n ≡ nodes_of (length s)) (low : 1 ≤ i) (high : i < n) (fresh : get_or seen i 0 ≡ 0) (two : 2 ≤ level)
      (j : ℕ) (b : List ℕ) (reads : FirstOf s i level lo j b) where
    abbrev K : Option (List ℕ)
    K = branches_run (node_run (level - 1) s) sh lo hi j lo (defined.entries_of b) (set seen i 1)

    walk_is : K ≡ marked
    walk_is =
        first_walk (tree_at (level - 1) s) (nodes_of (length s)) (node_run (level - 1) s) alike i sh lo hi seen (open-node n en low high fresh) j lo (same_refl lo)
        (node_entries 0x0002 level (node_bytes s i)) (defined.entries_of b) reads
        ∙ ap (λ t. visit t (nodes_of (length s)) sh lo hi seen) (sym (interior-tree level two))

    abbrev M : Count
    M = branches_count (tree_at (level - 1) s) j (list_of b)

    -- the node itself is counted before its list of children
    pub branches-found : (w : Checked) (after : List ℕ) → Checks K (plus only_node M) w after → Checks marked Y w after
    branches-found None after h = unsound marked Y after (sym walk_is ∙ unsound-is K (plus only_node M) None after h refl)
    branches-found (Some t) after h =
        let k : K ≡ some after = sound-is K (plus only_node M) (Some t) t after h refl in
        let y : plus only_node M ≡ count_of T
        = first-counts (tree_at (level - 1) s) (nodes_of (length s)) (node_run (level - 1) s) alike i sh lo hi seen (open-node n en low high fresh) j lo (same_refl lo)
        (node_entries 0x0002 level (node_bytes s i)) (defined.entries_of b) (list_of b) (set seen i 1) after reads
        (λ es q. all_listed b es q) k in
        all_sound marked Y t after (sym walk_is ∙ k)
        (tally-is K (plus only_node M) (Some t) t after h refl ∙ ap (λ z. capped z) (y ∙ ap (λ z. count_of z) (sym (interior-tree level two))))

-- at the first child nothing but the node itself is counted
pub list-begins : (run : Option (List ℕ)) (y : Count) → Passed run (plus only_node y) run y (record { pairs = 0; messages = 0; nodes = 1 })
list-begins run y = record { counted = only_node; tally = node-capped; counts = refl; walk = refl }
