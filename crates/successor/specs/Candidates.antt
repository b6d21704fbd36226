-- The paths that a walk comes to, whatever it asks of them: those of a child, of a run of children and of a node, in pieces; and what is ready
-- of a node is ready of its children. Relies on: the keys of a tree (Seek, SeekHere), the nodes of lookup (leaf-at, interior-at), node's branches.
use Rattle.std.specs.Prelude.{ℕ, ◌-◌, ◌<◌, ◌≤◌, ◌≡◌, refl, List, [], ◌∷◌, ◌++◌, true, length, take, drop}
use Rattle.image.specs.Prelude.{sym, ap, ap₂, subst, ◌∙◌, append-nil, append_assoc, Option, none, some, arith, length-append, take_at}
use Rattle.image.specs.Bytes.{shared}
use Rattle.image.specs.Entry as defined
use Rattle.image.specs.Table.{Row}
use Rattle.image.specs.Image.{leaf, interior, Forest, Branch, Inside, nodes_of, pair_then, pairs_of, message_then, messages_of, no_branches, branch_then, inside_of, forest_of, tree_at}
use Rattle.image.specs.Sound.{sound, sound_tree, sound_forest}
use Rattle.octets.specs.Order.{and_left, and_right, begins-split, shared-append}
use Rattle.octets.specs.Beginnings.{shared-left, shared-right, strip-shared}
use Rattle.laws.specs.LookupTable.{parts, inner}
use Rattle.laws.specs.Follow.{formed-length}
use Rattle.laws.specs.Reading.Relative.{lifts, branch_high, high-at, high-joined, usable, usable_in}
use Rattle.laws.specs.Reading.Seek.{every, holds, keys-hold, keys_of, puts_of}
use Rattle.laws.specs.Reading.SeekHere.{under, keys_here, keys_branches, under-under, child-under, keys-here}
use Rattle.node.specs.Fitted.{fitted, fitted-is, fitted-long}
use Rattle.node.specs.Lent.{path_of}
use Rattle.node.specs.Search.Own.{branches_among}
use Rattle.lookup.specs.Look.{listing, part-rest, leaf-at, interior-at, inside-splits}
use Rattle.successor.specs.Walk.{paths_of, child_paths, run_paths, ChildReady, NodeReady, BranchesReady}
use Rattle.successor.specs.Present.{formed-of}

-- 1. The paths of a run of children, a child at a time.
pub run-first : (level : ℕ) (s hi : List ℕ) (k : Branch) (ks : List Branch) (es : List defined.Entry)
    → run_paths level s hi (k ∷ ks) es ≡ child_paths level s k.number k.pivot (branch_high hi ks) ++ run_paths level s hi ks es
unfolding run_paths child_paths keys_branches forest_of
run-first level s hi k ks es =
    rw (high-at (λ j. tree_at level s j) hi ks)
    (append_assoc (under (shared k.pivot (branch_high hi ks)) (keys_here (tree_at level s k.number) (drop (lifts k.pivot (branch_high hi ks)) (branch_high hi ks))))
    (keys_branches (forest_of (λ j. tree_at level s j) ks) hi) (paths_of es))

pub run-none : (level : ℕ) (s hi : List ℕ) (es : List defined.Entry) → run_paths level s hi [] es ≡ paths_of es
unfolding run_paths forest_of keys_branches
run-none level s hi es = refl

-- 2. A child, entered with a buffer that holds the lifted prefix.
shared-rest : (a b : List ℕ) → shared a b ++ drop (length (shared a b)) a ≡ a
shared-rest a b = begins-split (shared a b) a (shared-left a b)

module _ (s prefix low high : List ℕ) (level num : ℕ) (c : ChildReady s prefix low high level num) where
  no-paths : (ks : List (List ℕ)) → 64 < length (prefix ++ shared low high) → every (holds (prefix ++ low) (prefix ++ high)) (under (prefix ++ shared low high) ks) ≡ true → ks ≡ []
  unfolding every under
  no-paths [] l h = refl
  no-paths (k ∷ ks) l h =
      let f = formed-length ((prefix ++ shared low high) ++ k) (formed-of (prefix ++ low) (prefix ++ high) ((prefix ++ shared low high) ++ k) (and_left (holds (prefix ++ low) (prefix ++ high) ((prefix ++ shared low high) ++ k)) (every (holds (prefix ++ low) (prefix ++ high)) (under (prefix ++ shared low high) ks)) h)) in
      let a = length-append (prefix ++ shared low high) k in
      absurd (omega arith)

  all_hold : every (holds (prefix ++ low) (prefix ++ high)) (under (prefix ++ shared low high) (keys_here (tree_at level s num) (drop (lifts low high) high))) ≡ true
  all_hold =
      ap (λ ks. every (holds (prefix ++ low) (prefix ++ high)) ks)
      (under-under prefix (shared low high) (keys_here (tree_at level s num) (drop (lifts low high) high)) ∙ sym (child-under prefix low high (tree_at level s num)) ∙ sym (keys-here (tree_at level s num) (prefix ++ low) (prefix ++ high)))
      ∙ keys-hold (tree_at level s num) (prefix ++ low) (prefix ++ high) c.tree

  pub child-holds : every (holds (prefix ++ low) (prefix ++ high)) (under prefix (child_paths level s num low high)) ≡ true
  unfolding child_paths
  child-holds =
      ap (λ ks. every (holds (prefix ++ low) (prefix ++ high)) ks) (sym (under-under prefix (shared low high) (keys_here (tree_at level s num) (drop (lifts low high) high))))
      ∙ all_hold

  child-ready : NodeReady s (prefix ++ shared low high) (drop (lifts low high) high) level num
  unfolding lifts
  child-ready =
      record {
        whole = c.whole;
        usable = c.usable;
        lo = drop (length (shared low high)) low;
        apart = strip-shared low high;
        tree =
            ap₂ (λ a b. sound_tree (tree_at level s num) a b)
            (append_assoc prefix (shared low high) (drop (length (shared low high)) low) ∙ ap (λ l. prefix ++ l) (shared-rest low high))
            (append_assoc prefix (shared low high) (drop (length (shared low high)) high) ∙ ap (λ l. prefix ++ l) (begins-split (shared low high) high (shared-right low high)))
            ∙ c.tree;
      }

  module _ (k : ℕ) (ek : k ≡ length (shared low high)) where
    front-shared : take k low ≡ shared low high
    front-shared =
        ap (λ z. take k z) (sym (begins-split (shared low high) low (shared-left low high)))
        ∙ take_at (shared low high) (drop (length (shared low high)) low) k (sym ek)

    -- a prefix that is too long for any path
    pub long-empty : none ≡ fitted (prefix ++ take k low) → child_paths level s num low high ≡ []
    unfolding child_paths under
    long-empty h =
        rw (no-paths (keys_here (tree_at level s num) (drop (lifts low high) high)) (fitted-long (prefix ++ shared low high) (h ∙ ap (λ z. fitted (prefix ++ z)) front-shared)) all_hold)

    module _ (l : List ℕ) (el : some l ≡ fitted (prefix ++ take k low)) where
      prefix-is : l ≡ prefix ++ shared low high
      prefix-is = fitted-is l (prefix ++ shared low high) (el ∙ ap (λ z. fitted (prefix ++ z)) front-shared)

      high_is : take (length high - k) (drop k high) ≡ drop (lifts low high) high
      unfolding lifts
      high_is = part-rest k high ∙ ap (λ z. drop z high) ek

      pub enters-ready : (y : List ℕ) → y ≡ l → NodeReady s y (take (length high - k) (drop k high)) level num
      enters-ready y e =
          subst (λ (y : List ℕ). NodeReady s y (take (length high - k) (drop k high)) level num) (sym (e ∙ prefix-is))
          (subst (λ (h : List ℕ). NodeReady s (prefix ++ shared low high) h level num) (sym high_is) child-ready)

      pub entered-is : (y : List ℕ) → y ≡ l → under y (keys_here (tree_at level s num) (take (length high - k) (drop k high))) ≡ under prefix (child_paths level s num low high)
      unfolding child_paths
      entered-is y e =
          ap₂ (λ y h. under y (keys_here (tree_at level s num) h)) (e ∙ prefix-is) high_is
          ∙ under-under prefix (shared low high) (keys_here (tree_at level s num) (drop (lifts low high) high))

-- 3. A node: its children are ready, and its paths are those of its entries.
pub branches-first : (s : List ℕ) (level : ℕ) (prefix hi : List ℕ) (k : Branch) (ks : List Branch) → BranchesReady s level prefix hi (k ∷ ks) → ChildReady s prefix k.pivot (branch_high hi ks) level k.number
unfolding BranchesReady
branches-first s level prefix hi k ks h = h.0

pub branches-later : (s : List ℕ) (level : ℕ) (prefix hi : List ℕ) (k : Branch) (ks : List Branch) → BranchesReady s level prefix hi (k ∷ ks) → BranchesReady s level prefix hi ks
unfolding BranchesReady
branches-later s level prefix hi k ks h = h.1

forest-ready : (s : List ℕ) (level : ℕ) (prefix lo hi : List ℕ) (ks : List Branch) → sound s ≡ true → usable_in (nodes_of (length s)) (forest_of (λ j. tree_at level s j) ks) ≡ true
    → sound_forest (forest_of (λ j. tree_at level s j) ks) prefix lo (prefix ++ hi) ≡ true → BranchesReady s level prefix hi ks
unfolding BranchesReady forest_of usable_in
forest-ready s level prefix lo hi [] e u f = tt
forest-ready s level prefix lo hi (k ∷ ks) e u f =
    let p = parts k.pivot (tree_at level s k.number) (forest_of (λ j. tree_at level s j) ks) prefix lo (prefix ++ hi) f in (
      record {
        whole = e;
        usable = and_left (usable (nodes_of (length s)) (tree_at level s k.number)) (usable_in (nodes_of (length s)) (forest_of (λ j. tree_at level s j) ks)) u;
        tree = ap (λ h. sound_tree (tree_at level s k.number) (prefix ++ k.pivot) h) (sym (high-joined (λ j. tree_at level s j) prefix hi ks)) ∙ p.first;
      },
      forest-ready s level prefix lo hi ks e (and_right (usable (nodes_of (length s)) (tree_at level s k.number)) _ u) p.later,
    )

pairs-paths : (es : List defined.Entry) (rs : List Row) → pairs_of es ≡ some rs → paths_of es ≡ keys_of rs
unfolding pairs_of paths_of path_of keys_of
pairs-paths [] rs h = let q : rs ≡ [] = cc in rw q
pairs-paths (defined.pair k v ∷ es) rs h = go (pairs_of es) refl (pairs-paths es)
  where
    go : (o : Option (List Row)) → pairs_of es ≡ o → ((ts : List Row) → pairs_of es ≡ some ts → paths_of es ≡ keys_of ts) → paths_of (defined.pair k v ∷ es) ≡ keys_of rs
    go none e ih = let q : none ≡ some rs = unfold pair_then in rw e at h in let z : ◌≡◌ {A = ℕ} 0 1 = cc in absurd (omega arith)
    go (some ts) e ih =
        let q : some (record { key = k; value = v } ∷ ts) ≡ some rs = unfold pair_then in rw e at h in
        let p : rs ≡ record { key = k; value = v } ∷ ts = cc in
        rw p (ap (λ l. k ∷ l) (ih ts e))
pairs-paths (defined.child i k ∷ es) rs h = let q : none ≡ some rs = unfold pair_then in h in let z : ◌≡◌ {A = ℕ} 0 1 = cc in absurd (omega arith)
pairs-paths (defined.message m ∷ es) rs h = let q : none ≡ some rs = unfold pair_then in h in let z : ◌≡◌ {A = ℕ} 0 1 = cc in absurd (omega arith)

one-put : (m : defined.Message) (ms : List defined.Message) → path_of (defined.message m) ++ puts_of [] ms ≡ puts_of [] (m ∷ ms)
unfolding path_of puts_of
one-put (defined.puts k v) ms = refl
one-put (defined.drops k) ms = refl
one-put (defined.clears k) ms = refl

messages-paths : (es : List defined.Entry) (ms : List defined.Message) → messages_of es ≡ some ms → paths_of es ≡ puts_of [] ms
unfolding messages_of paths_of
messages-paths [] ms h = let q : ms ≡ [] = cc in rw q nil
  where
    nil : [] ≡ puts_of [] []
    nil = unfold puts_of in refl
messages-paths (defined.pair k v ∷ es) ms h = let q : none ≡ some ms = h in let z : ◌≡◌ {A = ℕ} 0 1 = cc in absurd (omega arith)
messages-paths (defined.child i k ∷ es) ms h = let q : none ≡ some ms = h in let z : ◌≡◌ {A = ℕ} 0 1 = cc in absurd (omega arith)
messages-paths (defined.message m ∷ es) ms h = go (messages_of es) refl (messages-paths es)
  where
    go : (o : Option (List defined.Message)) → messages_of es ≡ o → ((ts : List defined.Message) → messages_of es ≡ some ts → paths_of es ≡ puts_of [] ts)
        → paths_of (defined.message m ∷ es) ≡ puts_of [] ms
    go none e ih = let q : none ≡ some ms = unfold message_then in rw e at h in let z : ◌≡◌ {A = ℕ} 0 1 = cc in absurd (omega arith)
    go (some ts) e ih =
        let q : some (m ∷ ts) ≡ some ms = unfold message_then in rw e at h in
        let p : ms ≡ m ∷ ts = cc in
        rw p (ap (λ l. path_of (defined.message m) ++ l) (ih ts e) ∙ one-put m ts)

only-messages : (m : defined.Message) (es : List defined.Entry) (x : Inside) → inside_of (defined.message m ∷ es) ≡ some x → paths_of (defined.message m ∷ es) ≡ puts_of [] x.messages
unfolding inside_of
only-messages m es x h = go (messages_of (defined.message m ∷ es)) refl
  where
    go : (o : Option (List defined.Message)) → messages_of (defined.message m ∷ es) ≡ o → paths_of (defined.message m ∷ es) ≡ puts_of [] x.messages
    go none e = let q : none ≡ some x = unfold no_branches in rw e at h in let z : ◌≡◌ {A = ℕ} 0 1 = cc in absurd (omega arith)
    go (some ms) e =
        let q : some (record { branches = []; messages = ms }) ≡ some x = unfold no_branches in rw e at h in
        let p : (record { branches = []; messages = ms }) ≡ x = cc in
        subst (λ (y : Inside). paths_of (defined.message m ∷ es) ≡ puts_of [] y.messages) p (messages-paths (defined.message m ∷ es) ms e)

inside-paths : (es : List defined.Entry) (x : Inside) → inside_of es ≡ some x → paths_of es ≡ puts_of [] x.messages
unfolding inside_of
inside-paths [] x h =
    let p : (record { branches = []; messages = [] }) ≡ x = cc in
    subst (λ (y : Inside). paths_of [] ≡ puts_of [] y.messages) p (unfold paths_of puts_of in refl)
inside-paths (defined.pair k v ∷ es) x h = let q : none ≡ some x = h in let z : ◌≡◌ {A = ℕ} 0 1 = cc in absurd (omega arith)
inside-paths (defined.child i k ∷ es) x h = go (inside_of es) refl (inside-paths es)
  where
    go : (o : Option Inside) → inside_of es ≡ o → ((y : Inside) → inside_of es ≡ some y → paths_of es ≡ puts_of [] y.messages) → paths_of (defined.child i k ∷ es) ≡ puts_of [] x.messages
    go none e ih = let q : none ≡ some x = unfold branch_then in rw e at h in let z : ◌≡◌ {A = ℕ} 0 1 = cc in absurd (omega arith)
    go (some y) e ih =
        let q : some (record { branches = record { number = i; pivot = k } ∷ y.branches; messages = y.messages }) ≡ some x = unfold branch_then in rw e at h in
        let p : (record { branches = record { number = i; pivot = k } ∷ y.branches; messages = y.messages }) ≡ x = cc in
        subst (λ (z : Inside). paths_of (defined.child i k ∷ es) ≡ puts_of [] z.messages) p (unfold paths_of path_of in ih y e)
inside-paths (defined.message m ∷ es) x h = only-messages m es x h

module _ (s prefix hi : List ℕ) (level num : ℕ) (n : NodeReady s prefix hi level num) where
  leaf-paths : level ≤ 1 → keys_here (tree_at level s num) hi ≡ paths_of (listing s num)
  leaf-paths l =
      let f = leaf-at s num level l n.usable in
      ap (λ t. keys_here t hi) f.tree ∙ leaf-keys f.rs ∙ sym (pairs-paths f.es f.rs f.pairs) ∙ ap (λ es. paths_of es) (sym f.node.lists)
    where
      leaf-keys : (rs : List Row) → keys_here (leaf num rs) hi ≡ keys_of rs
      leaf-keys rs = unfold keys_here in refl

  interior-paths : 2 ≤ level → keys_here (tree_at level s num) hi ≡ run_paths (level - 1) s hi (branches_among (listing s num)) (listing s num)
  unfolding run_paths
  interior-paths l =
      let f = interior-at s num level l n.usable in
      let b : branches_among (listing s num) ≡ f.x.branches = ap (λ es. branches_among es) f.node.lists ∙ (inside-splits f.es f.x f.splits).branches in
      let p : paths_of (listing s num) ≡ puts_of [] f.x.messages = ap (λ es. paths_of es) f.node.lists ∙ inside-paths f.es f.x f.splits in
      ap (λ t. keys_here t hi) f.tree ∙ interior-keys (forest_of (λ j. tree_at (level - 1) s j) f.x.branches) f.x.messages
      ∙ ap₂ (λ ks l. keys_branches (forest_of (λ j. tree_at (level - 1) s j) ks) hi ++ l) (sym b) (sym p)
    where
      interior-keys : (f : Forest) (ms : List defined.Message) → keys_here (interior num f ms) hi ≡ keys_branches f hi ++ puts_of [] ms
      interior-keys f ms = unfold keys_here in refl

  lifted : shared (prefix ++ n.lo) (prefix ++ hi) ≡ prefix
  lifted = shared-append prefix n.lo hi ∙ ap (λ l. prefix ++ l) n.apart ∙ append-nil prefix

  branches-ready : 2 ≤ level → BranchesReady s (level - 1) prefix hi (branches_among (listing s num))
  branches-ready l =
      let f = interior-at s num level l n.usable in
      let b : branches_among (listing s num) ≡ f.x.branches = ap (λ es. branches_among es) f.node.lists ∙ (inside-splits f.es f.x f.splits).branches in
      let w : sound_tree (interior num (forest_of (λ j. tree_at (level - 1) s j) f.x.branches) f.x.messages) (prefix ++ n.lo) (prefix ++ hi) ≡ true
      = ap (λ t. sound_tree t (prefix ++ n.lo) (prefix ++ hi)) (sym f.tree) ∙ n.tree in
      let k : sound_forest (forest_of (λ j. tree_at (level - 1) s j) f.x.branches) (shared (prefix ++ n.lo) (prefix ++ hi)) (prefix ++ n.lo) (prefix ++ hi) ≡ true
      = (inner num (forest_of (λ j. tree_at (level - 1) s j) f.x.branches) f.x.messages (prefix ++ n.lo) (prefix ++ hi) w).branches in
      let z : sound_forest (forest_of (λ j. tree_at (level - 1) s j) f.x.branches) prefix (prefix ++ n.lo) (prefix ++ hi) ≡ true
      = ap (λ y. sound_forest (forest_of (λ j. tree_at (level - 1) s j) f.x.branches) y (prefix ++ n.lo) (prefix ++ hi)) (sym lifted) ∙ k in
      subst (λ (ks : List Branch). BranchesReady s (level - 1) prefix hi ks) (sym b)
      (forest-ready s (level - 1) prefix (prefix ++ n.lo) hi f.x.branches n.whole f.branches z)

-- 4. A node, by what the readers list.
module _ (s prefix hi : List ℕ) (level num : ℕ) (n : NodeReady s prefix hi level num) (es : List defined.Entry) (q : es ≡ listing s num) where
  pub leaf-is : level ≤ 1 → paths_of es ≡ keys_here (tree_at level s num) hi
  leaf-is l = ap (λ l. paths_of l) q ∙ sym (leaf-paths s prefix hi level num n l)

  module _ (two : 2 ≤ level) (ks : List Branch) (among : ks ≡ branches_among es) where
    pub children-are : run_paths (level - 1) s hi ks es ≡ keys_here (tree_at level s num) hi
    children-are =
        ap₂ (λ l m. run_paths (level - 1) s hi l m) (among ∙ ap (λ l. branches_among l) q) q ∙ sym (interior-paths s prefix hi level num n two)

    pub children-ready : BranchesReady s (level - 1) prefix hi ks
    children-ready = subst (λ (l : List Branch). BranchesReady s (level - 1) prefix hi l) (sym (among ∙ ap (λ l. branches_among l) q)) (branches-ready s prefix hi level num n two)
