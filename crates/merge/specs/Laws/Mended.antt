-- Heal as the code takes it, a step at a time: the first two neighbours that fit are joined, the image stays sound with the same table, and
-- where there are none heal's rule holds. Relies on laws/Upkeep's HealWrite and Rules, and on Search for what the code finds and writes.
use Rattle.std.specs.Prelude.{ℕ, zero, suc, ◌+◌, ◌*◌, ◌≤◌, ◌<◌, ◌≡◌, refl, List, [], ◌∷◌, ◌++◌, Bool, true, false, not, cond, length}
use Rattle.image.specs.Prelude.{sym, ap, ap₂, ◌∙◌, true≢false, none, some, Option·some-injective, Option·none-ne-some, arith, lt-ltb}
use Rattle.image.specs.Bytes.{shared, u16}
use Rattle.image.specs.Entry.{Entry}
use Rattle.image.specs.Image.{Tree, interior, Forest, end, tree, Branch, node_bytes, forest_of, tree_at, tree_of, nodes_of, whole_nodes, header, header_of}
use Rattle.image.specs.Meaning.{high_of}
use Rattle.image.specs.Sound.{sound, sound_forest, table_of, numbers_in, once, lowest, highest}
use Rattle.image.specs.Upkeep.{Reachable, reachable, reachable_at, reachable_nodes, unmergeable, unmergeable_at, healed}
use Rattle.image.specs.Calls.{heal}
use Rattle.image.specs.Contract.{has_children, is_interior, upkeep_rule}
use Rattle.octets.specs.Order.{begins-split, not-true}
use Rattle.octets.specs.Beginnings.{shared-right}
use Rattle.laws.specs.Rising.{both}
use Rattle.laws.specs.Encode.{bytes_of_all}
use Rattle.laws.specs.Page.{page, child_entries}
use Rattle.laws.specs.WriteNode.{write_node}
use Rattle.laws.specs.Reading.Relative.{branch_high, usable, usable_in, sound-usable-in, rest-left as range-later}
use Rattle.laws.specs.Upkeep.Sublists.{range-sub}
use Rattle.laws.specs.Upkeep.Merge.{merged, tall_in}
use Rattle.laws.specs.Upkeep.Size.{message_entries, entries_for, size_of}
use Rattle.laws.specs.Upkeep.Join.{joins, join_at, first_pair, mended, branch_count, heads}
use Rattle.laws.specs.Upkeep.Loop.{join-less}
use Rattle.laws.specs.Upkeep.Alter.{altered, on_branches}
use Rattle.laws.specs.Upkeep.Healed.{rechilded, rechild, place-altered}
use Rattle.laws.specs.Upkeep.Steps.{stepped}
use Rattle.laws.specs.Upkeep.Page.{page_of}
use Rattle.laws.specs.Upkeep.HealImage.{page_for, pair_at, left_at, merged_at}
use Rattle.laws.proofs.Upkeep.HealWrite.{step_bytes, wrote-length, wrote-zero, wrote-first, wrote-keeps}
use Rattle.laws.specs.Upkeep.Rules.{first-pair, loop-starts, loop-goes}
use Rattle.laws.proofs.Upkeep.Rules.{loop-ends}
use Rattle.node.specs.Search.Own.{branches_among}
use Rattle.lookup.specs.Look.{listing}
use Rattle.push.specs.Laws.High.{high_here}
use Rattle.push.specs.Laws.HighLaws.{own_high, some-here}
use Rattle.push.specs.Laws.PushedDown.{interior-place, few-nodes, at_place, l, level_is, at, inside, short, stored-level, lists, forest-is, heads-are, branches_once, good-entries}
use Rattle.merge.specs.Laws.Joined.{without_child, pair_fits, pair_joined, first_joined, any_fits, small_entries}
use Rattle.merge.specs.Laws.HighShort.{tree-short, here-short}
use Rattle.merge.specs.Laws.Fits.{lists-tree, tree-small}
use Rattle.merge.specs.Laws.Search.{right_at, entries-join, any-mergeable, first-joined}
use Rattle.laws.specs.Upkeep.Site.{Site}
use Rattle.laws.specs.ButLive.{sound-parts}
use Rattle.laws.specs.RowsRising.{is_true}

-- WHAT A STEP RELIES ON: node n is an interior node of a sound image, and h is its high pivot without what it lifts
pub record Mendable (s : List ℕ) (n : ℕ) (h : List ℕ) : Type 0 where
  pub whole : whole_nodes (length s) ≡ true
  pub is_sound : sound s ≡ true
  pub reached : is_interior (reachable_at n (reachable_nodes s)) ≡ true
  pub high : high_here n (tree_of s) [] highest ≡ some h

-- WHAT SOME STEPS LEAVE
pub record SoFar (s₀ : List ℕ) (n : ℕ) (s : List ℕ) : Type 0 where
  pub steps : ℕ
  pub tree_is : tree_of s ≡ altered (tree_of s₀) n (on_branches (mended steps)) lowest highest
  pub size : length s ≡ length s₀
  pub zero_is : node_bytes s 0 ≡ node_bytes s₀ 0
  pub table : table_of s ≡ table_of s₀

-- WHAT A HEAL LEAVES
pub record HealedNode (s : List ℕ) (n : ℕ) (s' : List ℕ) : Type 0 where
  pub size : length s' ≡ length s
  pub is_sound : sound s' ≡ true
  pub table : table_of s' ≡ table_of s
  pub rule : upkeep_rule heal (reachable_at n (reachable_nodes s)) (reachable_nodes s) (reachable_nodes s') ≡ true

-- how many children the node has
abbrev pub branches_left : List ℕ → ℕ → ℕ
branches_left s n = length (branches_among (listing s n))

pub record Step (s₀ : List ℕ) (n : ℕ) (h s s' : List ℕ) : Type 0 where
  pub ready : Mendable s' n h
  pub so_far : SoFar s₀ n s'
  pub fewer : branches_left s' n < branches_left s n

branch-count : (under : ℕ → Tree) (ks : List Branch) → branch_count (forest_of under ks) ≡ length ks
unfolding branch_count forest_of
branch-count under [] = refl
branch-count under (k ∷ ks) = ap suc (branch-count under ks)

joined-some : (k : ℕ) (f : Forest) (lifted hi : List ℕ) → has_children f ≡ true → has_children (join_at k f lifted hi) ≡ true
unfolding has_children join_at
joined-some k end lifted hi e = e
joined-some k (tree s t end) lifted hi e = refl
joined-some zero (tree s t (tree q u f)) lifted hi e = go (joins t u (lifted ++ s) (lifted ++ q) (high_of lifted hi f))
  where
    go : (x : Bool) → has_children (cond x (tree s (merged t u (lifted ++ s) (lifted ++ q) (high_of lifted hi f)) f) (tree s t (tree q u f))) ≡ true
    go true = refl
    go false = refl
joined-some (suc k) (tree s t (tree q u f)) lifted hi e = refl

stepped-some : (f : Forest) (lifted hi : List ℕ) → has_children f ≡ true → has_children (stepped f lifted hi) ≡ true
unfolding stepped
stepped-some f lifted hi e = joined-some (first_pair f lifted hi) f lifted hi e

stepped-end : (lifted hi : List ℕ) → stepped end lifted hi ≡ end
unfolding stepped join_at first_pair
stepped-end lifted hi = refl

-- THE NODE
module _ (s : List ℕ) (n : ℕ) (h : List ℕ) (m : Mendable s n h) where
  abbrev pub found : (x : Reachable) × ((reachable_at n (reachable_nodes s) ≡ some x) × (has_children x.children ≡ true))
  found = interior-place (reachable_at n (reachable_nodes s)) m.reached

  abbrev x : Reachable
  x = found.0

  abbrev p : reachable_at n (reachable_nodes s) ≡ some x
  p = found.1.0

  abbrev c : has_children x.children ≡ true
  c = found.1.1

  abbrev e : sound s ≡ true
  e = m.is_sound

  abbrev prefix : List ℕ
  prefix = shared x.low x.high

  abbrev d : ℕ
  d = l s n x e p c

  abbrev K : List Branch
  K = branches_among (listing s n)

  few : nodes_of (length s) ≤ 1024
  few = few-nodes (length s) m.whole

  pub own-high : own_high x ≡ h
  own-high = Option·some-injective (own_high x) h (sym (some-here (tree_of s) n (header_of s).levels [] lowest highest x (at_place s n x e p c) c) ∙ m.high)

  high-whole : prefix ++ h ≡ x.high
  high-whole = ap (λ z. prefix ++ z) (sym own-high) ∙ begins-split prefix x.high (shared-right x.low x.high)

  forest : forest_of (λ j. tree_at (suc d) s j) K ≡ x.children
  forest = forest-is s n x e p c

  abbrev own_site : Site s n x d
  own_site = at s n x e p c

  branches-usable : usable_in (nodes_of (length s)) x.children ≡ true
  branches-usable =
      sound-usable-in x.children (nodes_of (length s)) prefix x.low x.high own_site.branches_sound
      (range-later (nodes_of (length s)) n (numbers_in x.children) (range-sub (nodes_of (length s)) own_site.sub (sound-parts s e).range))

  own-usable : usable (nodes_of (length s)) (tree_at x.level s n) ≡ true
  unfolding usable
  own-usable = ap (usable (nodes_of (length s))) own_site.there ∙ both (lt-ltb n (nodes_of (length s)) own_site.range.1) branches-usable

  own-entries : listing s n ≡ child_entries x.children ++ message_entries x.messages
  unfolding entries_for
  own-entries = lists-tree s n x.level own-usable ∙ ap entries_for own_site.there

  -- what the writers rely on
  pub node-inside : n * 1024 + 1024 ≤ length s
  node-inside = inside s n x e p c

  pub node-short : u16 s (n * 1024) ≤ 1016
  node-short = short s n x e p c

  pub node-small : small_entries (listing s n) ≡ true
  node-small = ap small_entries (lists-tree s n x.level own-usable) ∙ tree-small (nodes_of (length s)) (tree_at x.level s n) few own-usable

  pub node-fits : length (bytes_of_all (listing s n)) ≤ 1016
  unfolding size_of
  node-fits = let z = ap (λ es. length (bytes_of_all es)) (lists s n x e p c) in omega (arith, (good-entries s n x e p c).0)

  -- the search
  f-sound : sound_forest (forest_of (λ j. tree_at (suc d) s j) K) prefix x.low (prefix ++ h) ≡ true
  f-sound = ap₂ (λ f z. sound_forest f prefix x.low z) forest high-whole ∙ own_site.branches_sound

  f-usable : usable_in (nodes_of (length s)) (forest_of (λ j. tree_at (suc d) s j) K) ≡ true
  f-usable = ap (usable_in (nodes_of (length s))) forest ∙ branches-usable

  f-tall : tall_in (forest_of (λ j. tree_at (suc d) s j) K) (suc d) ≡ true
  f-tall = ap (λ f. tall_in f (suc d)) forest ∙ own_site.branches_tall

  any-is : any_fits K h s ≡ not (unmergeable x.children prefix x.high)
  any-is = any-mergeable s d prefix h x.low few K f-sound f-usable ∙ ap₂ (λ f z. not (unmergeable f prefix z)) forest high-whole

  -- NONE FITS: the rule holds
  pub none-fits : any_fits K h s ≡ false → unmergeable_at x ≡ true
  unfolding unmergeable_at
  none-fits q = is_true (unmergeable x.children prefix x.high) (sym any-is ∙ q)

  -- TWO FIT: the step
  module _ (q : any_fits K h s ≡ true) (level : ℕ) (lv : level ≡ u16 s (n * 1024 + 4)) where
    abbrev k : ℕ
    k = first_pair x.children prefix x.high

    some_fit : unmergeable x.children prefix x.high ≡ false
    some_fit = not-true (unmergeable x.children prefix x.high) (sym any-is ∙ q)

    joined : pair_at k x.children prefix x.high ≡ true
    joined = first-pair x.children prefix x.high (suc d) own_site.branches_tall some_fit

    heads-once : once (heads x.children) ≡ true
    heads-once = ap once (heads-are s n x e p c) ∙ branches_once s n x e p c

    node-page : page 2 level (bytes_of_all (without_child (right_at k x.children) (listing s n))) ≡ page_for (suc (suc d)) (interior n (join_at k x.children prefix x.high) x.messages)
    unfolding page_for page_of
    node-page =
        ap₂ (λ v es. page 2 v (bytes_of_all (without_child (right_at k x.children) es))) (lv ∙ stored-level s n x e p c ∙ level_is s n x e p c) own-entries
        ∙ ap (λ es. page 2 (suc (suc d)) (bytes_of_all es)) (entries-join k x.children x.messages prefix x.high joined heads-once)

    abbrev bytes : List ℕ
    bytes = step_bytes s n x d k e (at_place s n x e p c) (level_is s n x e p c) joined

    wrote : first_joined n level (listing s n) K h s ≡ bytes
    wrote =
        first-joined s d prefix h x.low few n level (listing s n) K f-sound f-usable f-tall q
        ∙ ap₂ (λ f z. write_node (write_node s (left_at (first_pair f prefix z) f) (page_for (suc d) (merged_at (first_pair f prefix z) f prefix z))) n
        (page 2 level (bytes_of_all (without_child (right_at (first_pair f prefix z) f) (listing s n))))) forest high-whole
        ∙ ap (write_node (write_node s (left_at k x.children) (page_for (suc d) (merged_at k x.children prefix x.high))) n) node-page

    module _ (s' : List ℕ) (is : s' ≡ first_joined n level (listing s n) K h s) where
      same : s' ≡ bytes
      same = is ∙ wrote

      size-stays : length s' ≡ length s
      size-stays = ap length same ∙ wrote-length s n x d k e (at_place s n x e p c) (level_is s n x e p c) joined

      zero-stays : node_bytes s' 0 ≡ node_bytes s 0
      zero-stays = ap (λ z. node_bytes z 0) same ∙ wrote-zero s n x d k e (at_place s n x e p c) (level_is s n x e p c) joined

      new-sound : sound s' ≡ true
      new-sound = ap sound same ∙ (wrote-keeps s n x d k e (at_place s n x e p c) (level_is s n x e p c) joined).0

      new-table : table_of s' ≡ table_of s
      new-table = ap table_of same ∙ (wrote-keeps s n x d k e (at_place s n x e p c) (level_is s n x e p c) joined).1

      new-tree : tree_of s' ≡ altered (tree_of s) n (on_branches stepped) lowest highest
      new-tree = ap tree_of same ∙ wrote-first s n x d k e (at_place s n x e p c) (level_is s n x e p c) joined refl

      levels-stay : (header_of s').levels ≡ (header_of s).levels
      unfolding header_of
      levels-stay = ap (λ z. (header z).levels) zero-stays

      new-places : reachable (tree_of s') (header_of s').levels lowest highest ≡ reachable (altered (tree_of s) n (on_branches stepped) lowest highest) (header_of s).levels lowest highest
      new-places = ap₂ (λ t v. reachable t v lowest highest) new-tree levels-stay

      place : reachable_at n (reachable_nodes s') ≡ some (rechilded stepped x)
      unfolding reachable_nodes rechild
      place =
          ap (reachable_at n) new-places ∙ place-altered (tree_of s) n stepped stepped-end (header_of s).levels lowest highest
          ∙ ap (rechild stepped) (at_place s n x e p c)

      has_some : has_children (rechilded stepped x).children ≡ true
      unfolding rechilded
      has_some = stepped-some x.children prefix x.high c

      interior-still : is_interior (reachable_at n (reachable_nodes s')) ≡ true
      unfolding is_interior
      interior-still = ap is_interior place ∙ has_some

      same-high : own_high (rechilded stepped x) ≡ own_high x
      unfolding rechilded
      same-high = refl

      still-high : high_here n (tree_of s') [] highest ≡ some h
      still-high =
          some-here (tree_of s') n (header_of s').levels [] lowest highest (rechilded stepped x) (at_place s' n (rechilded stepped x) new-sound place has_some) has_some
          ∙ ap some (same-high ∙ own-high)

      pub still-mendable : Mendable s' n h
      still-mendable = record { whole = ap whole_nodes size-stays ∙ m.whole; is_sound = new-sound; reached = interior-still; high = still-high }

      new-branches : branch_count (rechilded stepped x).children ≡ branch_count (join_at k x.children prefix x.high)
      unfolding rechilded stepped
      new-branches = refl

      pub fewer-branches : branches_left s' n < branches_left s n
      fewer-branches =
          let a : branch_count (rechilded stepped x).children ≡ branches_left s' n =
          ap branch_count (sym (forest-is s' n (rechilded stepped x) new-sound place has_some))
          ∙ branch-count (λ j. tree_at (suc (l s' n (rechilded stepped x) new-sound place has_some)) s' j) (branches_among (listing s' n)) in
          let b : branch_count x.children ≡ branches_left s n = ap branch_count (sym forest) ∙ branch-count (λ j. tree_at (suc d) s j) K in
          let g = join-less x.children prefix x.high (suc d) own_site.branches_tall some_fit in
          let r = new-branches in
          omega arith

      pub goes-on : (s₀ : List ℕ) → SoFar s₀ n s → SoFar s₀ n s'
      goes-on s₀ r =
          record {
            steps = suc r.steps;
            tree_is = loop-goes s₀ s s' n r.steps r.tree_is new-tree;
            size = size-stays ∙ r.size;
            zero_is = zero-stays ∙ r.zero_is;
            table = new-table ∙ r.table;
          }

      pub steps_on : (s₀ : List ℕ) → SoFar s₀ n s → Step s₀ n h s s'
      steps_on s₀ r = record { ready = still-mendable; so_far = goes-on s₀ r; fewer = fewer-branches }

as-rule : (x : Reachable) (was after : List Reachable) → healed x was after ≡ true → upkeep_rule heal (some x) was after ≡ true
unfolding upkeep_rule
as-rule x was after e = e

-- THE LOOP starts, and ends
pub starts : (s : List ℕ) (n : ℕ) → SoFar s n s
starts s n = record { steps = 0; tree_is = loop-starts s n; size = refl; zero_is = refl; table = refl }

pub ends : (s₀ : List ℕ) (n : ℕ) (h s : List ℕ) → Mendable s₀ n h → (m : Mendable s n h) → SoFar s₀ n s → any_fits (branches_among (listing s n)) h s ≡ false → HealedNode s₀ n s
ends s₀ n h s m₀ m r q =
    record {
      size = r.size;
      is_sound = m.is_sound;
      table = r.table;
      rule = rule-is;
    }
  where
    x₀ : Reachable
    x₀ = (found s₀ n h m₀).0

    y : Reachable
    y = (found s n h m).0

    rule-is : upkeep_rule heal (reachable_at n (reachable_nodes s₀)) (reachable_nodes s₀) (reachable_nodes s) ≡ true
    rule-is =
        ap (λ o. upkeep_rule heal o (reachable_nodes s₀) (reachable_nodes s)) (found s₀ n h m₀).1.0
        ∙ as-rule x₀ (reachable_nodes s₀) (reachable_nodes s)
        (loop-ends s₀ s m₀.is_sound r.zero_is n r.steps x₀ y r.tree_is (found s₀ n h m₀).1.0 (found s n h m).1.0 (none-fits s n h m q))

-- where none fits, nothing is written
pub none-joined : (n level : ℕ) (es : List Entry) (ks : List Branch) (h s : List ℕ) → any_fits ks h s ≡ false → first_joined n level es ks h s ≡ s
unfolding any_fits first_joined
none-joined n level es [] h s q = refl
none-joined n level es (k ∷ []) h s q = refl
none-joined n level es (k ∷ q ∷ ks) h s z =
    go (pair_fits s k.number q.number k.pivot q.pivot (branch_high h ks)) z (λ w. none-joined n level es (q ∷ ks) h s w)
  where
    go : (b : Bool) → cond b true (any_fits (q ∷ ks) h s) ≡ false → (any_fits (q ∷ ks) h s ≡ false → first_joined n level es (q ∷ ks) h s ≡ s)
        → cond b (pair_joined n level es k.number q.number k.pivot q.pivot (branch_high h ks) s) (first_joined n level es (q ∷ ks) h s) ≡ s
    go true w ih = absurd (true≢false w)
    go false w ih = ih w

-- THE HIGH PIVOT as it is found: a reachable interior node has one, and it is short
pub high-there : (s : List ℕ) (n : ℕ) → sound s ≡ true → is_interior (reachable_at n (reachable_nodes s)) ≡ true → high_here n (tree_of s) [] highest ≡ none → ⊥
high-there s n e i q =
    let w = interior-place (reachable_at n (reachable_nodes s)) i in
    Option·none-ne-some (own_high w.0) (sym q ∙ some-here (tree_of s) n (header_of s).levels [] lowest highest w.0 (at_place s n w.0 e w.1.0 w.1.1) w.1.1)

pub high_fits : (s : List ℕ) (n : ℕ) (h : List ℕ) → high_here n (tree_of s) [] highest ≡ some h → length h ≤ 65
unfolding tree_of
high_fits s n h q = here-short (tree_at (header_of s).levels s (header_of s).root) n [] highest h (tree-short (header_of s).levels s (header_of s).root) (omega arith) q
