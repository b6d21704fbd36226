-- A flush by one level as the code writes it keeps the image sound and its table, and meets flush's rule: `pushed-down`.
-- Relies on laws/Upkeep's site of a node and its bridge to the image, on TakesLaws for the children, and on HighLaws for the high pivot.
use Rattle.std.specs.Prelude.{ℕ, suc, ◌+◌, ◌*◌, ◌-◌, ◌≤◌, ◌<◌, ◌≡◌, refl, List, [], ◌∷◌, ◌++◌, Bool, true, false, ◌&&◌, ◌||◌, length, leb, eqb}
use Rattle.image.specs.Prelude.{sym, ap, ap₂, subst, ◌∙◌, append-nil, false≢true, Option, none, some, Option·some-injective, arith, eqb-false, ne_eqb, leb-true, leb-false, ltb-true, lt-ltb}
use Rattle.image.specs.Bytes.{u16, shared}
use Rattle.image.specs.Entry.{Message, Entry, entries_of}
use Rattle.image.specs.Image.{unread, leaf, interior, Forest, end, tree, Branch, Inside, entry_bytes, node_bytes, node_entries, inside_of, or_none, forest_of, interior_of, tree_at, tree_of, nodes_of, whole_nodes, header_of}
use Rattle.image.specs.Sound.{sound, sound_forest, table_of, numbers, numbers_in, is_in, once, lowest, highest}
use Rattle.image.specs.Upkeep.{Reachable, reachable, reachable_at, reachable_nodes}
use Rattle.image.specs.Calls.{flush}
use Rattle.image.specs.Contract.{has_children, is_interior, upkeep_rule}
use Rattle.octets.specs.Order.{and_left, and_right, begins-split, or-none-right, or-none-left, refuted, not_so}
use Rattle.laws.specs.Encode.{bytes_of_all, all_allowed, all_back}
use Rattle.laws.specs.Rising.{both}
use Rattle.laws.specs.Frame.{Keeps}
use Rattle.laws.specs.WriteNode.{write-length, write_same, write-other}
use Rattle.laws.specs.Page.{page, page-length, number_read}
use Rattle.octets.specs.Beginnings.{shared-right}
use Rattle.laws.specs.Reading.Relative.{branch_high}
use Rattle.laws.specs.Upkeep.Sublists.{once-sub}
use Rattle.laws.specs.Upkeep.Merge.{tall, tall_in}
use Rattle.laws.specs.Upkeep.Size.{message_entries, size_of, size-append, allowed-left}
use Rattle.laws.specs.Upkeep.Join.{heads}
use Rattle.laws.specs.Upkeep.Healed.{good_place}
use Rattle.laws.specs.Upkeep.Flush.{pushed_all, flushed_node, flush-sane, flushed_tree}
use Rattle.laws.specs.Upkeep.Room.{sent_each, pushed-each}
use Rattle.laws.specs.Upkeep.Reading.{branch_entries, inside-entries, node-good}
use Rattle.laws.specs.Upkeep.Bridge.{image-tree, image-mends}
use Rattle.laws.specs.Upkeep.Site.{place-good, Site, site}
use Rattle.laws.specs.Upkeep.HealWrite.{whole-fits}
use Rattle.laws.specs.Upkeep.Children.{deep_in, heads-in, deep-in, deep-apart, heads-sub}
use Rattle.laws.proofs.Upkeep.Rules.{flush-rule}
use Rattle.node.specs.Entries.{listed, list_of, all_listed}
use Rattle.node.specs.Search.Own.{branches_among}
use Rattle.lookup.specs.Look.{listing, count-is, bytes-is, inside-splits}
use Rattle.push.specs.Laws.Arriving.{waiting}
use Rattle.push.specs.Laws.ArrivingLaws.{taken_each, each-under}
use Rattle.push.specs.Laws.High.{high_here}
use Rattle.push.specs.Laws.HighLaws.{own_high, some-here}
use Rattle.push.specs.Laws.Written.{child_takes, each_takes, has_room, all_have_room, branch_numbers, small_numbers, child_bytes, emptied}
use Rattle.push.specs.Laws.ReadBack.{page-reads, Laid, laid, inside_back, child-bytes}
use Rattle.push.specs.Laws.TakesLaws.{Arrived, each-size, each-other, each-arrives, arrived-on, sorted_in, sound-sorted, branches-take, level-at}

-- WHAT A FLUSH LEAVES
pub record PushedDown (s : List ℕ) (n : ℕ) (s' : List ℕ) : Type 0 where
  pub size : length s' ≡ length s
  pub is_sound : sound s' ≡ true
  pub table : table_of s' ≡ table_of s
  pub rule : upkeep_rule flush (reachable_at n (reachable_nodes s)) (reachable_nodes s) (reachable_nodes s') ≡ true

-- AN INTERIOR NODE AND ITS ENTRIES
pub record NodeIs (l : ℕ) (s : List ℕ) (n : ℕ) (f : Forest) (ms : List Message) : Type 0 where
  pub es : List Entry
  pub y : Inside
  pub entries : node_entries 0x0002 (suc (suc l)) (node_bytes s n) ≡ some es
  pub splits : inside_of es ≡ some y
  pub branches : forest_of (λ j. tree_at (suc l) s j) y.branches ≡ f
  pub messages : y.messages ≡ ms

pub node-is : (l : ℕ) (s : List ℕ) (n : ℕ) (f : Forest) (ms : List Message) → tree_at (suc (suc l)) s n ≡ interior n f ms → NodeIs l s n f ms
unfolding tree_at
node-is l s n f ms e = go (node_entries 0x0002 (suc (suc l)) (node_bytes s n)) refl e
  where
    inner : (es : List Entry) → node_entries 0x0002 (suc (suc l)) (node_bytes s n) ≡ some es → (w : Option Inside) → inside_of es ≡ w
        → interior_of (λ j. tree_at (suc l) s j) n w ≡ interior n f ms → NodeIs l s n f ms
    inner es p none q r = let r2 : unread n ≡ interior n f ms = unfold interior_of in r in let z : ◌≡◌ {A = ℕ} 0 1 = cc in absurd (omega arith)
    inner es p (some y) q r =
        let r2 : interior n (forest_of (λ j. tree_at (suc l) s j) y.branches) y.messages ≡ interior n f ms = unfold interior_of in r in
        let a : forest_of (λ j. tree_at (suc l) s j) y.branches ≡ f = cc in
        let b : y.messages ≡ ms = cc in
        record { es = es; y = y; entries = p; splits = q; branches = a; messages = b }

    go : (o : Option (List Entry)) → node_entries 0x0002 (suc (suc l)) (node_bytes s n) ≡ o → interior_of (λ j. tree_at (suc l) s j) n (or_none inside_of o) ≡ interior n f ms → NodeIs l s n f ms
    go none p r = let r2 : unread n ≡ interior n f ms = unfold interior_of or_none in r in let z : ◌≡◌ {A = ℕ} 0 1 = cc in absurd (omega arith)
    go (some es) p r = inner es p (inside_of es) refl (unfold or_none in r)

-- the messages among the entries
waiting-messages : (ms : List Message) → waiting (message_entries ms) ≡ ms
unfolding waiting message_entries
waiting-messages [] = refl
waiting-messages (m ∷ ms) = ap (λ l. m ∷ l) (waiting-messages ms)

waiting-branches : (ks : List Branch) (es : List Entry) → waiting (branch_entries ks ++ es) ≡ waiting es
unfolding waiting branch_entries
waiting-branches [] es = refl
waiting-branches (k ∷ ks) es = waiting-branches ks es

pub waiting-inside : (es : List Entry) (y : Inside) → inside_of es ≡ some y → waiting es ≡ y.messages
waiting-inside es y e = ap waiting (inside-entries es y e) ∙ waiting-branches y.branches (message_entries y.messages) ∙ waiting-messages y.messages

-- the numbers of the children
pub branch-heads : (l : ℕ) (s : List ℕ) (ks : List Branch) → heads (forest_of (λ j. tree_at l s j) ks) ≡ branch_numbers ks
unfolding heads forest_of branch_numbers
branch-heads l s [] = refl
branch-heads l s (k ∷ ks) = ap₂ (λ a b. a ∷ b) (number_read l s k.number) (branch-heads l s ks)

-- children that have room have small numbers
pub small-branches : (es : List Entry) (ks : List Branch) (h s : List ℕ) → nodes_of (length s) ≤ 1024 → all_have_room es ks h s ≡ true → small_numbers ks ≡ true
unfolding all_have_room has_room small_numbers
small-branches es [] h s w e = refl
small-branches es (k ∷ ks) h s w e =
    let a : k.number < nodes_of (length s) = ltb-true k.number (nodes_of (length s)) (and_left _ _ (and_left _ _ e)) in
    both (lt-ltb k.number 65536 (omega arith)) (small-branches es ks h s w (and_right (has_room es k.number k.pivot (branch_high h ks) s) _ e))

pub few-nodes : (len : ℕ) → whole_nodes len ≡ true → nodes_of len ≤ 1024
unfolding whole_nodes
few-nodes len e = leb-true (nodes_of len) 1024 (and_right (eqb (1024 * nodes_of len) len && leb 32 (nodes_of len)) _ e)

-- the reachable node of an interior number
pub interior-place : (o : Option Reachable) → is_interior o ≡ true → (x : Reachable) × ((o ≡ some x) × (has_children x.children ≡ true))
unfolding is_interior
interior-place none e = absurd (false≢true e)
interior-place (some x) e = (x, (refl, e))

tall-zero : (f : Forest) → has_children f ≡ true → tall_in f 0 ≡ true → ⊥
unfolding has_children tall_in tall
tall-zero end c e = false≢true c
tall-zero (tree s (unread i) f) c e = false≢true e
tall-zero (tree s (leaf i rs) f) c e = false≢true e
tall-zero (tree s (interior i g ms) f) c e = false≢true e

under-two : (m : ℕ) → leb 2 m ≡ false → m < 2
under-two m q = leb-false 2 m q

-- THE NODE x OF NUMBER n
module _ (s : List ℕ) (n : ℕ) (x : Reachable) (e : sound s ≡ true) (p : reachable_at n (reachable_nodes s) ≡ some x) (c : has_children x.children ≡ true) where
  pub at_place : reachable_at n (reachable (tree_of s) (header_of s).levels lowest highest) ≡ some x
  unfolding reachable_nodes
  at_place = p

  pub two_levels : 2 ≤ x.level
  two_levels = go (leb 2 x.level) refl
    where
      go : (b : Bool) → leb 2 x.level ≡ b → 2 ≤ x.level
      go true q = leb-true 2 x.level q
      go false q =
          let low : x.level < 2 = under-two x.level q in
          let z : x.level - 1 ≡ 0 = omega arith in
          absurd (tall-zero x.children c (ap (tall_in x.children) (sym z) ∙ unfold good_place in and_right (sound_forest x.children (shared x.low x.high) x.low x.high) _ (place-good s n x e at_place)))

  abbrev pub l : ℕ
  l = x.level - 2

  pub level_is : x.level ≡ suc (suc l)
  level_is = omega (arith, two_levels)

  abbrev pub at : Site s n x l
  at = site s n x l e at_place level_is

  abbrev pub node : NodeIs l s n x.children x.messages
  node = node-is l s n x.children x.messages at.node

  pub inside : n * 1024 + 1024 ≤ length s
  inside = omega (arith, whole-fits (length s) n at.range.1)

  abbrev pub laid_n : Laid 0x0002 (suc (suc l)) (node_bytes s n) node.es
  laid_n = laid 0x0002 (suc (suc l)) (node_bytes s n) node.es node.entries

  pub short : u16 s (n * 1024) ≤ 1016
  short = omega (arith, count-is s n inside, laid_n.size)

  pub stored-level : u16 s (n * 1024 + 4) ≡ x.level
  stored-level = sym (level-at s n inside) ∙ laid_n.level_is ∙ sym level_is

  pub lists : listing s n ≡ node.es
  unfolding listed
  lists = ap (λ b. list_of b) (sym (bytes-is s n inside short)) ∙ all_listed (entry_bytes (node_bytes s n)) node.es laid_n.reads

  pub branches-are : branches_among (listing s n) ≡ node.y.branches
  branches-are = ap branches_among lists ∙ (inside-splits node.es node.y node.splits).branches

  waiting-is : waiting (listing s n) ≡ x.messages
  waiting-is = ap waiting lists ∙ waiting-inside node.es node.y node.splits ∙ node.messages

  pub forest-is : forest_of (λ j. tree_at (suc l) s j) (branches_among (listing s n)) ≡ x.children
  forest-is = ap (forest_of (λ j. tree_at (suc l) s j)) branches-are ∙ node.branches

  pub heads-are : heads x.children ≡ branch_numbers (branches_among (listing s n))
  heads-are = ap heads (sym forest-is) ∙ branch-heads (suc l) s (branches_among (listing s n))

  pub branches_once : once (branch_numbers (branches_among (listing s n))) ≡ true
  branches_once = ap once (sym heads-are) ∙ once-sub (heads-sub x.children) at.branches_once

  pub own-entries : node.es ≡ branch_entries (branches_among (listing s n)) ++ message_entries node.y.messages
  own-entries = inside-entries node.es node.y node.splits ∙ ap (λ ks. branch_entries ks ++ message_entries node.y.messages) (sym branches-are)

  pub good-entries : (size_of node.es ≤ 1016) × (all_allowed node.es ≡ true)
  good-entries = node-good 0x0002 (suc (suc l)) (node_bytes s n) node.es node.entries

  pub children-fit : length (child_bytes (branches_among (listing s n))) ≤ 1016
  unfolding size_of
  children-fit =
      let a = size-append (branch_entries (branches_among (listing s n))) (message_entries node.y.messages) in
      let b : size_of node.es ≡ size_of (branch_entries (branches_among (listing s n)) ++ message_entries node.y.messages) = ap size_of own-entries in
      let d : length (child_bytes (branches_among (listing s n))) ≡ length (bytes_of_all (branch_entries (branches_among (listing s n)))) = ap length (child-bytes (branches_among (listing s n))) in
      omega (arith, good-entries.0)

  children-read : node_entries 0x0002 (suc (suc l)) (page 2 (suc (suc l)) (child_bytes (branches_among (listing s n)))) ≡ some (branch_entries (branches_among (listing s n)))
  children-read =
      page-reads 2 (suc (suc l)) (child_bytes (branches_among (listing s n))) (branch_entries (branches_among (listing s n))) children-fit
      (ap entries_of (child-bytes (branches_among (listing s n)))
      ∙ all_back (branch_entries (branches_among (listing s n)))
      (allowed-left (branch_entries (branches_among (listing s n))) (message_entries node.y.messages) (ap all_allowed (sym own-entries) ∙ good-entries.1)))

  -- ANY STORE s' in which the node alone is changed, to what flush makes of it
  module _ (s' : List ℕ) (len : length s' ≡ length s) (z : node_bytes s' 0 ≡ node_bytes s 0)
      (changed : tree_at x.level s' n ≡ flushed_node (tree_at x.level s n) x.low x.high)
      (others : (j : ℕ) → is_in j (numbers (tree_of s)) ≡ true → is_in j (numbers (tree_at x.level s n)) ≡ false → node_bytes s' j ≡ node_bytes s j) where
    new-tree : tree_of s' ≡ flushed_tree (tree_of s) n lowest highest
    unfolding flushed_tree
    new-tree = image-tree s s' n x flushed_node two_levels changed e z at_place others

    keeps : (sound s' ≡ true) × (table_of s' ≡ table_of s)
    keeps = image-mends s s' n x flushed_node two_levels changed e len z at_place others flush-sane

    meets : upkeep_rule flush (reachable_at n (reachable_nodes s)) (reachable_nodes s) (reachable_nodes s') ≡ true
    unfolding upkeep_rule
    meets = ap (λ o. upkeep_rule flush o (reachable_nodes s) (reachable_nodes s')) p ∙ flush-rule s s' e z n x new-tree p

    pub flush-meets : PushedDown s n s'
    flush-meets = record { size = len; is_sound = keeps.0; table = keeps.1; rule = meets }

  -- NO MESSAGE: nothing changes
  no-message : x.messages ≡ [] → tree_at x.level s n ≡ flushed_node (tree_at x.level s n) x.low x.high
  unfolding flushed_node pushed_all
  no-message q =
      at.there ∙ ap (λ ms. interior n x.children ms) q ∙ sym (ap (λ t. flushed_node t x.low x.high) (at.there ∙ ap (λ ms. interior n x.children ms) q))

  pub nothing-waits : waiting (listing s n) ≡ [] → PushedDown s n s
  nothing-waits q = flush-meets s refl refl (no-message (sym waiting-is ∙ q)) (λ j a b. refl)

  -- THE FLUSH
  module _ (h : List ℕ) (eh : high_here n (tree_of s) [] highest ≡ some h) (rooms : all_have_room (listing s n) (branches_among (listing s n)) h s ≡ true) where
    abbrev K : List Branch
    K = branches_among (listing s n)

    abbrev s₁ : List ℕ
    s₁ = each_takes (child_takes (listing s n)) K h s

    abbrev s₂ : List ℕ
    s₂ = emptied s₁ n (suc (suc l)) K

    h-is : h ≡ own_high x
    h-is = Option·some-injective h (own_high x) (sym eh ∙ some-here (tree_of s) n (header_of s).levels [] [] highest x at_place c)

    high-splits : shared x.low x.high ++ h ≡ x.high
    high-splits = ap (λ q. shared x.low x.high ++ q) h-is ∙ begins-split (shared x.low x.high) x.high (shared-right x.low x.high)

    size-one : length s₁ ≡ length s
    size-one = each-size (listing s n) K h s branches_once rooms

    fits-n : 1024 * n + 1024 ≤ length s₁
    fits-n = omega (arith, inside, size-one)

    full-n : length (page 2 (suc (suc l)) (child_bytes K)) ≡ 1024
    full-n = page-length 2 (suc (suc l)) (child_bytes K) children-fit

    size-two : length s₂ ≡ length s
    unfolding emptied
    size-two = write-length s₁ n (page 2 (suc (suc l)) (child_bytes K)) fits-n full-n ∙ size-one

    top : node_bytes s₂ n ≡ page 2 (suc (suc l)) (child_bytes K)
    unfolding emptied
    top = write_same s₁ n (page 2 (suc (suc l)) (child_bytes K)) fits-n full-n

    beside : (j : ℕ) → (j ≡ n → ⊥) → node_bytes s₂ j ≡ node_bytes s₁ j
    unfolding emptied
    beside j q = write-other s₁ n (page 2 (suc (suc l)) (child_bytes K)) fits-n full-n j q

    branch_in : (j : ℕ) → is_in j (branch_numbers K) ≡ true → is_in j (numbers_in x.children) ≡ true
    branch_in j q = heads-in j x.children (ap (is_in j) heads-are ∙ q)

    branch-not-n : (j : ℕ) → is_in j (branch_numbers K) ≡ true → j ≡ n → ⊥
    branch-not-n j q = at.other j (branch_in j q)

    rest : (j : ℕ) → eqb j n ≡ false → is_in j (branch_numbers K) ≡ false → node_bytes s₂ j ≡ node_bytes s j
    rest j a b = beside j (eqb-false j n a) ∙ each-other (listing s n) K h s branches_once rooms j b

    arrived : Arrived (listing s n) s s₂ h K
    arrived = arrived-on (listing s n) s s₁ s₂ h K
        (each-arrives (listing s n) K h s s branches_once rooms rooms (λ j q. refl)) (λ j q. beside j (branch-not-n j q))

    deep-keeps : Keeps s s₂ (deep_in x.children)
    unfolding Keeps
    deep-keeps = λ j q.
        rest j (ne_eqb j n (at.other j (deep-in j x.children q)))
        (ap (is_in j) (sym heads-are) ∙ deep-apart j x.children at.branches_once q)

    new-branches : forest_of (λ j. tree_at (suc l) s₂ j) K ≡ pushed_all x.messages x.children (shared x.low x.high) x.high
    new-branches =
        branches-take l (listing s n) s s₂ h arrived (ap (λ f. tall_in f (suc l)) forest-is ∙ at.branches_tall) (ap sorted_in forest-is ∙ sound-sorted x.children (shared x.low x.high) x.low x.high at.branches_sound) (subst (λ f. Keeps s s₂ (deep_in f)) (sym forest-is) deep-keeps)
        ∙ ap (λ ms. taken_each ms (λ j. tree_at (suc l) s j) K h) waiting-is
        ∙ sym (each-under x.messages (λ j. tree_at (suc l) s j) K (shared x.low x.high) h)
        ∙ ap₂ (λ f q. sent_each x.messages f (shared x.low x.high) q) forest-is high-splits
        ∙ sym (pushed-each x.messages x.children (shared x.low x.high) x.high)

    new-node : tree_at (suc (suc l)) s₂ n ≡ interior n (forest_of (λ j. tree_at (suc l) s₂ j) K) []
    unfolding tree_at interior_of or_none
    new-node = rw (top, children-read, empty-inside K)
      where
        empty-inside : (ks : List Branch) → inside_of (branch_entries ks) ≡ some (record { branches = ks; messages = [] })
        empty-inside ks = ap inside_of (sym (append-nil (branch_entries ks))) ∙ (unfold message_entries in inside_back ks [])

    changed-node : tree_at x.level s₂ n ≡ flushed_node (tree_at x.level s n) x.low x.high
    unfolding flushed_node
    changed-node =
        ap (λ m. tree_at m s₂ n) level_is ∙ new-node ∙ ap (λ f. interior n f []) new-branches
        ∙ sym (ap (λ t. flushed_node t x.low x.high) at.there)

    other-nodes : (j : ℕ) → is_in j (numbers (tree_of s)) ≡ true → is_in j (numbers (tree_at x.level s n)) ≡ false → node_bytes s₂ j ≡ node_bytes s j
    unfolding numbers is_in
    other-nodes j a b =
        let out : eqb j n || is_in j (numbers_in x.children) ≡ false = ap (λ t. is_in j (numbers t)) (sym at.there) ∙ b in
        rest j (or-none-left (eqb j n) (is_in j (numbers_in x.children)) out)
        (refuted (λ q. not_so (branch_in j q) (or-none-right (eqb j n) (is_in j (numbers_in x.children)) out)))

    node-zero : node_bytes s₂ 0 ≡ node_bytes s 0
    node-zero =
        rest 0 (ne_eqb 0 n (λ q. omega (arith, at.range.0)))
        (refuted (λ q. omega (arith, (at.branch_range 0 (branch_in 0 q)).0)))

    pub pushed-down : PushedDown s n s₂
    pushed-down = flush-meets s₂ size-two node-zero changed-node other-nodes
