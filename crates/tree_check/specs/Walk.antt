-- The check of one node by its entries: what the walk of laws/Reading (Visit) is for a leaf and for an interior node of an image.
-- Relies on the walks over pairs (Node/Leaf) and over children and messages (Node/Inside).
use Rattle.std.specs.Prelude.{ℕ, zero, suc, ◌<◌, ◌≤◌, ◌≡◌, refl, List, [], ◌∷◌, Bool, true, false, ◌&&◌, cond, length, get_or, set, ltb, leb, eqb}
use Rattle.image.specs.Prelude.{sym, ap, ◌∙◌, Option, none, some, arith, lt-ltb, le-ltb, le-leb, lt-leb, eq-eqb, ne_eqb}
use Rattle.image.specs.Bytes.{same}
use Rattle.image.specs.Entry as defined
use Rattle.image.specs.Table.{Row}
use Rattle.image.specs.Image.{Tree, unread, leaf, interior, Forest, tree, Inside, node_bytes, nodes_of, node_entries, pairs_of, messages_of, no_branches, branch_then, inside_of, or_none, forest_of, leaf_of, interior_of, tree_at}
use Rattle.image.specs.Sound.{first_pivot}
use Rattle.octets.specs.Order.{and-false}
use Rattle.path.specs.Shape.{Shape}
use Rattle.laws.specs.Reading.SoundHere.{sound_here, messages_here}
use Rattle.laws.specs.Reading.Visit.{mark, unmet, onward, visit, visit_branches}
use Rattle.tree_check.specs.Node.Leaf.{leaf_run, leaf-sound}
use Rattle.tree_check.specs.Node.Inside.{messages_run, messages-not, child_run, branches_list, branches_run, branches-are}
use Rattle.tree_check.specs.Count.{plus, count_of, only_pairs, only_node, branches_count}
use Rattle.tree_check.specs.CountLaws.{leaf-holds, interior-holds}

-- the walk under the nodes of a level
unfoldable pub node_run : ℕ → List ℕ → ℕ → Shape → List ℕ → List ℕ → List ℕ → Option (List ℕ)
node_run level s i sh lo hi seen = visit (tree_at level s i) (nodes_of (length s)) sh lo hi seen

-- the walk over the child of number i, the last one, whose high pivot is the node's, and over the messages after it
abbrev pub last_run : (ℕ → Shape → List ℕ → List ℕ → List ℕ → Option (List ℕ)) → Shape → List ℕ → List ℕ → ℕ → List ℕ → Option (List defined.Entry) → List ℕ → Option (List ℕ)
last_run node sh lo hi i low ms seen = onward (child_run node sh lo hi i low hi seen) (λ after. cond (messages_run sh lo hi ms) (some after) none)

-- the first entry is a child, and its pivot is this one
unfoldable pub headed : List ℕ → Option (List defined.Entry) → Bool
headed lo none = false
headed lo (some []) = false
headed lo (some (defined.pair k v ∷ es)) = false
headed lo (some (defined.child j q ∷ es)) = same q lo
headed lo (some (defined.message m ∷ es)) = false

-- a node that is not in range, or was reached before
leaf-unmet : (i : ℕ) (o : Option (List Row)) (n : ℕ) (sh : Shape) (lo hi seen : List ℕ)
    → visit (leaf_of i o) n sh lo hi seen ≡ cond (unmet n seen i) (cond (sound_here (leaf_of i o) sh lo hi) (some (mark seen i)) none) none
leaf-unmet i none n sh lo hi seen = go (unmet n seen i)
  where
    go : (b : Bool) → visit (leaf_of i none) n sh lo hi seen ≡ cond b (cond (sound_here (leaf_of i none) sh lo hi) (some (mark seen i)) none) none
    go true = unfold leaf_of visit sound_here in refl
    go false = unfold leaf_of visit in refl
leaf-unmet i (some rs) n sh lo hi seen = unfold leaf_of visit in refl

interior-met : (under : ℕ → Tree) (i : ℕ) (o : Option Inside) (n : ℕ) (sh : Shape) (lo hi seen : List ℕ) → unmet n seen i ≡ false
    → visit (interior_of under i o) n sh lo hi seen ≡ none
unfolding interior_of visit
interior-met under i none n sh lo hi seen h = refl
interior-met under i (some x) n sh lo hi seen h = rw h

pub node-met : (level : ℕ) (s : List ℕ) (i n : ℕ) (sh : Shape) (lo hi seen : List ℕ) → unmet n seen i ≡ false → visit (tree_at level s i) n sh lo hi seen ≡ none
unfolding tree_at
node-met zero s i n sh lo hi seen h = unread-none i
  where
    unread-none : (i : ℕ) → visit (unread i) n sh lo hi seen ≡ none
    unread-none i = unfold visit in refl
node-met (suc zero) s i n sh lo hi seen h = leaf-unmet i _ n sh lo hi seen ∙ rw h
node-met (suc (suc level)) s i n sh lo hi seen h = interior-met _ i _ n sh lo hi seen h

pub unmet-low : (n i : ℕ) (seen : List ℕ) → i < 1 → unmet n seen i ≡ false
unfolding unmet
unmet-low n i seen h = rw (lt-leb 1 i h)

pub unmet-past : (n i : ℕ) (seen : List ℕ) → n ≤ i → unmet n seen i ≡ false
unfolding unmet
unmet-past n i seen h = rw (le-ltb i n h) (go (leb 1 i))
  where
    go : (a : Bool) → a && false && eqb (get_or seen i 0) 0 ≡ false
    go true = refl
    go false = refl

pub unmet-again : (n i : ℕ) (seen : List ℕ) → (get_or seen i 0 ≡ 0 → ⊥) → unmet n seen i ≡ false
unfolding unmet
unmet-again n i seen h = rw (ne_eqb (get_or seen i 0) 0 h) (and-false (leb 1 i && ltb i n))

pub unmet-yes : (n i : ℕ) (seen : List ℕ) → 1 ≤ i → i < n → get_or seen i 0 ≡ 0 → unmet n seen i ≡ true
unfolding unmet
unmet-yes n i seen a b c = rw (le-leb 1 i a, lt-ltb i n b, eq-eqb (get_or seen i 0) 0 c)

-- a leaf
module _ (s : List ℕ) (i n : ℕ) (sh : Shape) (lo hi seen : List ℕ) (open-node : unmet n seen i ≡ true) where
  pub leaf-walk : (level : ℕ) → level ≡ 1 → cond (sound_here (tree_at 1 s i) sh lo hi) (some (set seen i 1)) none ≡ visit (tree_at level s i) n sh lo hi seen
  unfolding tree_at mark
  leaf-walk level e =
      let w : visit (leaf_of i (or_none pairs_of (node_entries 0x0001 1 (node_bytes s i)))) n sh lo hi seen
      ≡ cond (sound_here (leaf_of i (or_none pairs_of (node_entries 0x0001 1 (node_bytes s i)))) sh lo hi) (some (set seen i 1)) none
      = leaf-unmet i (or_none pairs_of (node_entries 0x0001 1 (node_bytes s i))) n sh lo hi seen ∙ rw open-node in
      rw e (sym w)

-- what a sound leaf holds
leaf-reads : (sh : Shape) (lo hi : List ℕ) (i : ℕ) (o : Option (List defined.Entry)) → leaf_run sh lo hi none o ≡ true
    → (es : List defined.Entry) × ((o ≡ some es) × (count_of (leaf_of i (or_none pairs_of o)) ≡ only_pairs (length es)))
leaf-reads sh lo hi i none h =
    let q : false ≡ true = unfold leaf_run in h in let z : ◌≡◌ {A = ℕ} 0 1 = cc in absurd (omega arith)
leaf-reads sh lo hi i (some es) h = go (pairs_of es) refl
  where
    unread-no : (i : ℕ) (o : Option (List Row)) → o ≡ none → sound_here (leaf_of i o) sh lo hi ≡ false
    unread-no i o e = unfold sound_here leaf_of in rw e

    there : (o : Option (List Row)) (rs : List Row) → o ≡ some rs → count_of (leaf_of i o) ≡ count_of (leaf i rs)
    there o rs e = unfold leaf_of in rw e

    go : (p : Option (List Row)) → pairs_of es ≡ p → (fs : List defined.Entry) × ((some es ≡ some fs) × (count_of (leaf_of i (or_none pairs_of (some es))) ≡ only_pairs (length fs)))
    go none e =
        let s1 : leaf_run sh lo hi none (some es) ≡ sound_here (leaf_of i (pairs_of es)) sh lo hi = unfold or_none in leaf-sound sh lo hi i (some es) in
        let q : false ≡ true = sym (unread-no i (pairs_of es) e) ∙ sym s1 ∙ h in
        let z : ◌≡◌ {A = ℕ} 0 1 = cc in absurd (omega arith)
    go (some rs) e =
        let c1 : count_of (leaf_of i (or_none pairs_of (some es))) ≡ count_of (leaf i rs) = unfold or_none in there (pairs_of es) rs e in
        (es, (refl, c1 ∙ leaf-holds i es rs e))

pub leaf-counts : (sh : Shape) (lo hi : List ℕ) (i : ℕ) (o : Option (List defined.Entry)) (l : List defined.Entry) → ((es : List defined.Entry) → o ≡ some es → l ≡ es)
    → leaf_run sh lo hi none o ≡ true → count_of (leaf_of i (or_none pairs_of o)) ≡ only_pairs (length l)
leaf-counts sh lo hi i o l f h =
    let r = leaf-reads sh lo hi i o h in
    r.1.1 ∙ ap (λ k. only_pairs (length k)) (sym (f r.0 r.1.0))

-- an interior node whose entries do not split has no walk
module _ (node : ℕ → Shape → List ℕ → List ℕ → List ℕ → Option (List ℕ)) (sh : Shape) (lo hi : List ℕ) where
  onward-no : (o : Option (List ℕ)) (f : List ℕ → Option (List ℕ)) → ((a : List ℕ) → f a ≡ none) → onward o f ≡ none
  unfolding onward
  onward-no none f h = refl
  onward-no (some a) f h = h a

  pub branches-not : (es : List defined.Entry) → inside_of es ≡ none → (i : ℕ) (low seen : List ℕ) → branches_list node sh lo hi i low es seen ≡ none
  unfolding branches_list inside_of
  branches-not [] h i low seen = let z : ◌≡◌ {A = ℕ} 0 1 = cc in absurd (omega arith)
  branches-not (defined.pair k v ∷ es) h i low seen = refl
  branches-not (defined.child j q ∷ es) h i low seen = go (inside_of es) refl (branches-not es)
    where
      go : (o : Option Inside) → inside_of es ≡ o → (inside_of es ≡ none → (i : ℕ) (low seen : List ℕ) → branches_list node sh lo hi i low es seen ≡ none)
          → onward (child_run node sh lo hi i low q seen) (λ after. branches_list node sh lo hi j q es after) ≡ none
      go none e ih = onward-no (child_run node sh lo hi i low q seen) (λ after. branches_list node sh lo hi j q es after) (λ a. ih e j q a)
      go (some y) e ih =
          let w : ◌≡◌ {A = Option Inside} (some (record { branches = record { number = j; pivot = q } ∷ y.branches; messages = y.messages })) none = unfold branch_then in rw e at h in
          let z : ◌≡◌ {A = ℕ} 0 1 = cc in absurd (omega arith)
  branches-not (defined.message m ∷ es) h i low seen = go (messages_of (defined.message m ∷ es)) refl
    where
      go : (o : Option (List defined.Message)) → messages_of (defined.message m ∷ es) ≡ o
          → onward (child_run node sh lo hi i low hi seen) (λ after. cond (messages_run sh lo hi (some (defined.message m ∷ es))) (some after) none) ≡ none
      go none e =
          onward-no (child_run node sh lo hi i low hi seen) (λ after. cond (messages_run sh lo hi (some (defined.message m ∷ es))) (some after) none)
          (λ a. rw (messages-not sh lo hi (defined.message m ∷ es) e))
      go (some ms) e =
          let w : ◌≡◌ {A = Option Inside} (some (record { branches = []; messages = ms })) none = unfold no_branches in rw e at h in
          let z : ◌≡◌ {A = ℕ} 0 1 = cc in absurd (omega arith)

  -- the entries after a child split where the walk over them ends well
  run-splits : (i : ℕ) (low : List ℕ) (y : Option (List defined.Entry)) (seen after : List ℕ) → branches_run node sh lo hi i low y seen ≡ some after
      → (es : List defined.Entry) × ((y ≡ some es) × ((x : Inside) × (inside_of es ≡ some x)))
  run-splits i low none seen after h =
      let q : none ≡ some after = unfold branches_run in h in let z : ◌≡◌ {A = ℕ} 0 1 = cc in absurd (omega arith)
  run-splits i low (some es) seen after h = go (inside_of es) refl
    where
      go : (o : Option Inside) → inside_of es ≡ o → (fs : List defined.Entry) × ((some es ≡ some fs) × ((x : Inside) × (inside_of fs ≡ some x)))
      go none e =
          let q : branches_list node sh lo hi i low es seen ≡ some after = unfold branches_run in h in
          let w : none ≡ some after = sym (branches-not es e i low seen) ∙ q in
          let z : ◌≡◌ {A = ℕ} 0 1 = cc in absurd (omega arith)
      go (some x) e = (es, (refl, (x, e)))

-- an interior node, from its first entry on
module _ (below : ℕ → Tree) (n : ℕ) (node : ℕ → Shape → List ℕ → List ℕ → List ℕ → Option (List ℕ))
    (alike : (i : ℕ) (z : Shape) (a b seen : List ℕ) → node i z a b seen ≡ visit (below i) n z a b seen) (i : ℕ) (sh : Shape) (lo hi seen : List ℕ) where
  unread-walk : (o : Option (List defined.Entry)) → or_none inside_of o ≡ none → visit (interior_of below i (or_none inside_of o)) n sh lo hi seen ≡ none
  unread-walk o e = unfold interior_of visit in rw e

  -- no first child with this pivot
  pub headless : (o : Option (List defined.Entry)) → headed lo o ≡ false → visit (interior_of below i (or_none inside_of o)) n sh lo hi seen ≡ none
  unfolding headed
  headless none h = unread-walk none (unfold or_none in refl)
  headless (some []) h = no-child
    where
      no-child : visit (interior_of below i (or_none inside_of (some []))) n sh lo hi seen ≡ none
      no-child = unfold or_none inside_of interior_of visit forest_of first_pivot in rw (and-false (unmet n seen i))
  headless (some (defined.pair k v ∷ es)) h = unread-walk (some (defined.pair k v ∷ es)) (unfold or_none inside_of in refl)
  headless (some (defined.child j q ∷ es)) h = go (inside_of es) refl
    where
      stopped : (x : Inside) → visit (interior i (forest_of below (record { number = j; pivot = q } ∷ x.branches)) x.messages) n sh lo hi seen ≡ none
      stopped x = unfold forest_of visit first_pivot in rw (h, and-false (unmet n seen i))

      go : (o : Option Inside) → inside_of es ≡ o → visit (interior_of below i (or_none inside_of (some (defined.child j q ∷ es)))) n sh lo hi seen ≡ none
      go none e = unread-walk (some (defined.child j q ∷ es)) (unfold or_none inside_of branch_then in rw e)
      go (some x) e = unfold or_none inside_of branch_then interior_of in rw e (stopped x)
  headless (some (defined.message m ∷ es)) h = go (messages_of (defined.message m ∷ es)) refl
    where
      stopped : (ms : List defined.Message) → visit (interior i (forest_of below []) ms) n sh lo hi seen ≡ none
      stopped ms = unfold forest_of visit first_pivot in rw (and-false (unmet n seen i))

      go : (o : Option (List defined.Message)) → messages_of (defined.message m ∷ es) ≡ o → visit (interior_of below i (or_none inside_of (some (defined.message m ∷ es)))) n sh lo hi seen ≡ none
      go none e = unread-walk (some (defined.message m ∷ es)) (unfold or_none inside_of no_branches in rw e)
      go (some ms) e = unfold or_none inside_of no_branches interior_of in rw e (stopped ms)

  -- the first child, with the pivot that it is to have
  module _ (open-node : unmet n seen i ≡ true) (j : ℕ) (q : List ℕ) (first : same q lo ≡ true) where
    interior-walk : (f : Forest) (ms : List defined.Message) → visit (interior i (tree q (below j) f) ms) n sh lo hi seen
        ≡ onward (visit_branches (tree q (below j) f) n sh lo hi (mark seen i)) (λ after. cond (messages_here sh lo hi ms) (some after) none)
    interior-walk f ms = unfold visit first_pivot in rw (open-node, first)

    no_run : (start : List ℕ) → branches_run node sh lo hi j q none start ≡ none
    unfolding branches_run
    no_run start = refl

    a-run : (es : List defined.Entry) (start : List ℕ) → branches_run node sh lo hi j q (some es) start ≡ branches_list node sh lo hi j q es start
    unfolding branches_run
    a-run es start = refl

    marked : mark seen i ≡ set seen i 1
    unfolding mark
    marked = refl

    unsplit : (o : Option (List defined.Entry)) → o ≡ defined.entry_then (some (defined.child j q)) none → or_none inside_of o ≡ none
    unfolding or_none defined.entry_then
    unsplit o e = rw e

    pub first_walk : (o y : Option (List defined.Entry)) → o ≡ defined.entry_then (some (defined.child j q)) y
        → branches_run node sh lo hi j q y (set seen i 1) ≡ visit (interior_of below i (or_none inside_of o)) n sh lo hi seen
    first_walk o none e = no_run (set seen i 1) ∙ sym (unread-walk o (unsplit o e))
    first_walk o (some es) e = go (inside_of es) refl
      where
        shape : (z : Option Inside) → inside_of es ≡ z → or_none inside_of o ≡ branch_then (record { number = j; pivot = q }) z
        shape z f = unfold or_none defined.entry_then inside_of in rw (e, f)

        build : (x : Inside) → or_none inside_of o ≡ branch_then (record { number = j; pivot = q }) (some x)
            → interior_of below i (or_none inside_of o) ≡ interior i (tree q (below j) (forest_of below x.branches)) x.messages
        build x f = unfold interior_of branch_then forest_of in rw f

        go : (z : Option Inside) → inside_of es ≡ z → branches_run node sh lo hi j q (some es) (set seen i 1) ≡ visit (interior_of below i (or_none inside_of o)) n sh lo hi seen
        go none f =
            a-run es (set seen i 1) ∙ branches-not node sh lo hi es f j q (set seen i 1)
            ∙ sym (unread-walk o (shape none f ∙ (unfold branch_then in refl)))
        go (some x) f =
            a-run es (set seen i 1) ∙ branches-are node sh lo hi n below alike es x f j q (set seen i 1)
            ∙ ap (λ m. onward (visit_branches (tree q (below j) (forest_of below x.branches)) n sh lo hi m) (λ after. cond (messages_here sh lo hi x.messages) (some after) none)) (sym marked)
            ∙ sym (ap (λ t. visit t n sh lo hi seen) (build x (shape (some x) f)) ∙ interior-walk (forest_of below x.branches) x.messages)

    built : (o y : Option (List defined.Entry)) (es : List defined.Entry) (x : Inside) → o ≡ defined.entry_then (some (defined.child j q)) y → y ≡ some es → inside_of es ≡ some x
        → interior_of below i (or_none inside_of o) ≡ interior i (tree q (below j) (forest_of below x.branches)) x.messages
    unfolding or_none defined.entry_then inside_of branch_then interior_of forest_of
    built o y es x e f h = rw (e, f, h)

    pub first-counts : (o y : Option (List defined.Entry)) (l : List defined.Entry) (start after : List ℕ) → o ≡ defined.entry_then (some (defined.child j q)) y
        → ((es : List defined.Entry) → y ≡ some es → l ≡ es) → branches_run node sh lo hi j q y start ≡ some after
        → plus only_node (branches_count below j l) ≡ count_of (interior_of below i (or_none inside_of o))
    first-counts o y l start after e f h =
        let r = run-splits node sh lo hi j q y start after h in
        let es = r.0 in
        let x = r.1.1.0 in
        let b : interior_of below i (or_none inside_of o) ≡ interior i (tree q (below j) (forest_of below x.branches)) x.messages = built o y es x e r.1.0 r.1.1.1 in
        ap (λ k. plus only_node (branches_count below j k)) (f es r.1.0)
        ∙ sym (ap (λ t. count_of t) b ∙ interior-holds below i j q es x r.1.1.1)
