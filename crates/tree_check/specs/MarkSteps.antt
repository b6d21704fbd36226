-- The walk that marks a sound store: what it leaves of a tree, and one law for each step of its code.
-- Relies on laws/Reading (`mark_all`, `usable`), on lookup's view of a usable node, and on RootSteps and Callers for the store as a whole.
use Rattle.std.specs.Prelude.{ℕ, ◌+◌, ◌-◌, ◌*◌, ◌<◌, ◌≤◌, ◌≡◌, refl, List, [], ◌∷◌, Bool, true, false, ◌&&◌, length, set}
use Rattle.image.specs.Prelude.{sym, ap, ap₂, subst, ◌∙◌, and-true, Option, none, some, arith}
use Rattle.image.specs.Bytes.{u16}
use Rattle.image.specs.Entry as defined
use Rattle.image.specs.Table.{Row}
use Rattle.image.specs.Image as image
use Rattle.image.specs.Image.{Tree, leaf, interior, Forest, Inside, nodes_of, message_then, messages_of, no_branches, branch_then, inside_of, forest_of, tree_at, tree_of}
use Rattle.image.specs.Sound.{sound, numbers, numbers_in}
use Rattle.image.specs.Upkeep.{settled}
use Rattle.octets.specs.Order.{and-false, and_left, and_right, and_assoc}
use Rattle.laws.specs.Pieces.{still, still_in}
use Rattle.laws.specs.Reading.Relative.{usable, usable_in}
use Rattle.laws.specs.Reading.Visit.{mark, mark_all, blank, mark-append}
use Rattle.std.specs.Borrow.{Bor}
use Rattle.node.specs.Entries.{listed}
use Rattle.node.specs.Lent.{entry_is, message_is}
use Rattle.node.specs.declared.entries.Entry.{Entry}
use Rattle.node.specs.Search.Own.{branch}
use Rattle.lookup.specs.Look.{leaf-at, interior-at, node-inside}
use Rattle.lookup.specs.Root.{starts, root_is}
use Rattle.tree_check.specs.Whole.{Marks}
use Rattle.tree_check.specs.RootSteps.{marks-all}
use Rattle.tree_check.specs.Callers.{settled-still}

-- every node of the tree is marked, and the answer is whether none holds a message
pub record MarksTree (t : Tree) (before : List ℕ) (quiet : Bool) (after : List ℕ) : Type 0 where
  pub marks : after ≡ mark_all before (numbers t)
  pub answer : quiet ≡ still t

-- The walk over the entries of the node num, of which es are left: with what is found so far, they make what is found of its tree t. At its
-- start the node itself is marked.
pub record Left (s : List ℕ) (lower num : ℕ) (t : Tree) (start : List ℕ) (es : List defined.Entry) (seen : List ℕ) (quiet : Bool) : Type 0 where
  pub x : Inside
  pub splits : inside_of es ≡ some x
  pub branches : usable_in (nodes_of (length s)) (forest_of (λ j. tree_at lower s j) x.branches) ≡ true
  pub marks : (before : List ℕ) → start ≡ set before num 1 → mark_all seen (numbers_in (forest_of (λ j. tree_at lower s j) x.branches)) ≡ mark_all before (numbers t)
  pub answer : quiet && still (interior num (forest_of (λ j. tree_at lower s j) x.branches) x.messages) ≡ still t

-- THE NODE
one-marked : (num : ℕ) (rs : List Row) (before : List ℕ) → MarksTree (leaf num rs) before true (set before num 1)
unfolding numbers still mark_all mark
one-marked num rs before = record { marks = refl; answer = refl }

node-marked : (num : ℕ) (f : Forest) (ms : List defined.Message) (before start : List ℕ) → start ≡ set before num 1 → mark_all start (numbers_in f) ≡ mark_all before (numbers (interior num f ms))
unfolding numbers mark_all mark
node-marked num f ms before start e = ap (λ z. mark_all z (numbers_in f)) e

module _ (s : List ℕ) (level num : ℕ) (u : usable (nodes_of (length s)) (tree_at level s num) ≡ true) where
  pub number-low : nodes_of (length s) ≤ 1024 → num < 1024
  unfolding nodes_of
  number-low h = let w = node-inside s num level u in omega arith

  pub leaf-marked : (before : List ℕ) → level ≤ 1 → MarksTree (tree_at level s num) before true (set before num 1)
  leaf-marked before l = let n = leaf-at s num level l u in subst (λ t. MarksTree t before true (set before num 1)) (sym n.tree) (one-marked num n.rs before)

  pub left-start : (start : List ℕ) → 2 ≤ level → (es : List defined.Entry) → es ≡ listed s (num * 1024 + 8) (num * 1024 + 8 + u16 s (num * 1024))
      → Left s (level - 1) num (tree_at level s num) start es start true
  left-start start l es e =
      let n = interior-at s num level l u in
      record {
        x = n.x;
        splits = ap inside_of e ∙ ap inside_of n.node.lists ∙ n.splits;
        branches = n.branches;
        marks = λ before q. node-marked num (forest_of (λ j. tree_at (level - 1) s j) n.x.branches) n.x.messages before start q
            ∙ ap (λ t. mark_all before (numbers t)) (sym n.tree);
        answer = ap still (sym n.tree);
      }

-- THE ENTRIES
no_more : (x : Inside) → inside_of [] ≡ some x → x ≡ record { branches = []; messages = [] }
unfolding inside_of
no_more x h = cc

-- an entry that is no child is a message, and only messages follow it
waits : (e : Entry) (ts : List defined.Entry) (x : Inside) → inside_of (entry_is e ∷ ts) ≡ some x → ((i : ℕ) (k : Bor (List ℕ)) → e ≡ Entry.Child i k → ⊥)
    → (m : defined.Message) × ((ms : List defined.Message) × (x ≡ record { branches = []; messages = m ∷ ms }))
waits (Entry.Pair p v) ts x h k = let q : none ≡ some x = unfold inside_of in h in let z : ◌≡◌ {A = ℕ} 0 1 = cc in absurd (omega arith)
waits (Entry.Child i p) ts x h k = absurd (k i p refl)
waits (Entry.Message m) ts x h k = go (messages_of ts) refl
  where
    go : (o : Option (List defined.Message)) → messages_of ts ≡ o → (n : defined.Message) × ((ms : List defined.Message) × (x ≡ record { branches = []; messages = n ∷ ms }))
    go none e = let q : none ≡ some x = unfold inside_of messages_of message_then no_branches in rw e at h in let z : ◌≡◌ {A = ℕ} 0 1 = cc in absurd (omega arith)
    go (some ms) e =
        let q : some (record { branches = []; messages = message_is m ∷ ms }) ≡ some x = unfold inside_of messages_of message_then no_branches in rw e at h in
        (message_is m, (ms, cc))

-- a child in front of the others
follows : (i : ℕ) (q : List ℕ) (ts : List defined.Entry) (x : Inside) → inside_of (defined.child i q ∷ ts) ≡ some x
    → (y : Inside) × ((inside_of ts ≡ some y) × (x ≡ record { branches = branch i q ∷ y.branches; messages = y.messages }))
unfolding inside_of
follows i q ts x h = go (inside_of ts) refl
  where
    go : (o : Option Inside) → inside_of ts ≡ o → (y : Inside) × ((inside_of ts ≡ some y) × (x ≡ record { branches = branch i q ∷ y.branches; messages = y.messages }))
    go none e = let z : none ≡ some x = unfold branch_then in rw e at h in let w : ◌≡◌ {A = ℕ} 0 1 = cc in absurd (omega arith)
    go (some y) e =
        let z : some (record { branches = branch i q ∷ y.branches; messages = y.messages }) ≡ some x = unfold branch_then in rw e at h in
        (y, (e, cc))

more-marked : (under : ℕ → Tree) (k : image.Branch) (ks : List image.Branch) (seen : List ℕ)
    → mark_all (mark_all seen (numbers (under k.number))) (numbers_in (forest_of under ks)) ≡ mark_all seen (numbers_in (forest_of under (k ∷ ks)))
unfolding forest_of numbers_in
more-marked under k ks seen = sym (mark-append seen (numbers (under k.number)) (numbers_in (forest_of under ks)))

more-still : (under : ℕ → Tree) (k : image.Branch) (ks : List image.Branch) (num : ℕ) (ms : List defined.Message) (a : Bool)
    → a && still (under k.number) && still (interior num (forest_of under ks) ms) ≡ a && still (interior num (forest_of under (k ∷ ks)) ms)
unfolding forest_of still still_in
more-still under k ks num [] a = and_assoc a (still (under k.number)) (still_in (forest_of under ks))
more-still under k ks num (m ∷ ms) a = and-false (a && still (under k.number)) ∙ sym (and-false a)

module _ (s : List ℕ) (lower num : ℕ) (t : Tree) (start : List ℕ) (es : List defined.Entry) (seen : List ℕ) (quiet : Bool) (l : Left s lower num t start es seen quiet) where
  abbrev below : List image.Branch → Forest
  below ks = forest_of (λ j. tree_at lower s j) ks

  marks-at : (before : List ℕ) → start ≡ set before num 1 → (x : Inside) → l.x ≡ x → mark_all seen (numbers_in (below x.branches)) ≡ mark_all before (numbers t)
  marks-at before q x e = ap (λ (y : Inside). mark_all seen (numbers_in (below y.branches))) (sym e) ∙ l.marks before q

  answer-at : (x : Inside) → l.x ≡ x → quiet && still (interior num (below x.branches) x.messages) ≡ still t
  answer-at x e = ap (λ (y : Inside). quiet && still (interior num (below y.branches) y.messages)) (sym e) ∙ l.answer

  pub left_end : (before : List ℕ) → start ≡ set before num 1 → es ≡ [] → MarksTree t before quiet seen
  unfolding forest_of numbers_in mark_all still still_in
  left_end before f q =
      let x : Inside = record { branches = []; messages = [] } in
      let e : l.x ≡ x = no_more l.x (ap inside_of (sym q) ∙ l.splits) in
      record { marks = marks-at before f x e; answer = sym (and-true quiet) ∙ answer-at x e }

  module _ (e : Entry) (ts : List defined.Entry) (q : es ≡ entry_is e ∷ ts) where
    here : inside_of (entry_is e ∷ ts) ≡ some l.x
    here = ap inside_of (sym q) ∙ l.splits

    pub left-message : (before : List ℕ) → start ≡ set before num 1 → ((i : ℕ) (k : Bor (List ℕ)) → e ≡ Entry.Child i k → ⊥) → MarksTree t before false seen
    unfolding forest_of numbers_in mark_all still
    left-message before f k =
        let w = waits e ts l.x here k in
        let x : Inside = record { branches = []; messages = w.0 ∷ w.1.0 } in
        record { marks = marks-at before f x w.1.1; answer = sym (and-false quiet) ∙ answer-at x w.1.1 }

    module _ (i : ℕ) (p : Bor (List ℕ)) (k : e ≡ Entry.Child i p) where
      next : (y : Inside) × ((inside_of ts ≡ some y) × (l.x ≡ record { branches = branch i p.now ∷ y.branches; messages = y.messages }))
      next = follows i p.now ts l.x (ap (λ z. inside_of (entry_is z ∷ ts)) (sym k) ∙ here)

      both-usable : usable (nodes_of (length s)) (tree_at lower s i) && usable_in (nodes_of (length s)) (below next.0.branches) ≡ true
      unfolding forest_of usable_in
      both-usable = ap (λ (y : Inside). usable_in (nodes_of (length s)) (below y.branches)) (sym next.1.1) ∙ l.branches

      pub child-usable : usable (nodes_of (length s)) (tree_at lower s i) ≡ true
      child-usable = and_left _ _ both-usable

      pub left-next : (r b : Bool) (after : List ℕ) → MarksTree (tree_at lower s i) seen r after → b ≡ quiet && r → Left s lower num t start ts after b
      left-next r b after m f =
          let x : Inside = record { branches = branch i p.now ∷ next.0.branches; messages = next.0.messages } in
          record {
            x = next.0;
            splits = next.1.0;
            branches = and_right (usable (nodes_of (length s)) (tree_at lower s i)) _ both-usable;
            marks = λ before g. ap (λ z. mark_all z (numbers_in (below next.0.branches))) m.marks ∙ more-marked (λ j. tree_at lower s j) (branch i p.now) next.0.branches seen
                ∙ marks-at before g x next.1.1;
            answer = ap (λ z. z && still (interior num (below next.0.branches) next.0.messages)) (f ∙ ap (λ z. quiet && z) m.answer)
                ∙ more-still (λ j. tree_at lower s j) (branch i p.now) next.0.branches num next.0.messages quiet ∙ answer-at x next.1.1;
          }

-- THE STORE
pub store-marked : (s : List ℕ) (m root levels : ℕ) (blanks : List ℕ) → sound s ≡ true → nodes_of (length s) ≤ m → blanks ≡ blank m → root ≡ u16 s 6 → levels ≡ u16 s 8
    → (quiet : Bool) (seen : List ℕ) → MarksTree (tree_at levels s root) blanks quiet seen → Marks s seen × (quiet ≡ settled s)
store-marked s m root levels blanks ok h b er el quiet seen t =
    let r : tree_at levels s root ≡ tree_of s = root_is s root levels ok er el in
    (marks-all s seen m h (starts s ok).range (t.marks ∙ ap₂ (λ x y. mark_all x (numbers y)) b r), t.answer ∙ ap still r ∙ sym (settled-still s))
