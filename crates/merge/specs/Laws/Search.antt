-- The first two neighbours that one node holds, and the store after they are joined: as `first_pair` and `join_at` of laws/Upkeep tell them.
use Rattle.std.specs.Prelude.{ℕ, zero, suc, ◌+◌, ◌*◌, ◌≤◌, ◌≡◌, refl, List, [], ◌∷◌, ◌++◌, Bool, true, false, ◌&&◌, not, cond, length, eqb}
use Rattle.image.specs.Prelude.{sym, ap, ap₂, ◌∙◌, false≢true, true≢false, Option, none, some, arith, eqb-true, eq-eqb}
use Rattle.image.specs.Bytes.{before, u16}
use Rattle.image.specs.Entry.{Message, Entry, child, message}
use Rattle.image.specs.Table.{Row}
use Rattle.image.specs.Image.{Tree, unread, leaf, interior, Forest, end, tree, Branch, Inside, node_bytes, node_entries, pairs_of, inside_of, or_none, forest_of, leaf_of, interior_of, tree_at, nodes_of}
use Rattle.image.specs.Meaning.{high_of}
use Rattle.image.specs.Sound.{sound_forest, is_in, once}
use Rattle.image.specs.Upkeep.{would_fit, unmergeable}
use Rattle.octets.specs.Order.{and_left, and_right, not_so, not-true, before-append, or-none-right, or-none-left, refuted}
use Rattle.laws.specs.Frame.{or_left, or_right}
use Rattle.laws.specs.Rising.{both}
use Rattle.laws.specs.LookupTable.{parts}
use Rattle.laws.specs.Encode.{bytes_of_all}
use Rattle.laws.specs.Page.{page, number_of, child_entries, number_read}
use Rattle.laws.specs.WriteNode.{write_node}
use Rattle.laws.specs.Reading.Relative.{branch_high, usable, usable_in}
use Rattle.laws.specs.Upkeep.Merge.{same_kind, merged, tall_in, Pair, merged-number}
use Rattle.laws.specs.Upkeep.Size.{message_entries, entries_for}
use Rattle.laws.specs.Upkeep.Mends.{tall-first, tall-later}
use Rattle.laws.specs.Upkeep.Join.{joins, join_at, first_pair, heads}
use Rattle.laws.proofs.Upkeep.Join.{join-pair}
use Rattle.laws.specs.Upkeep.Loop.{one-kind}
use Rattle.laws.specs.Upkeep.Page.{page_of}
use Rattle.laws.specs.Upkeep.HealImage.{page_for, pair_at, left_at, merged_at}
use Rattle.lookup.specs.Look.{node-is, node-inside}
use Rattle.node.specs.Cut.{cut-u16}
use Rattle.push.specs.Laws.ReadBack.{Laid, laid}
use Rattle.merge.specs.Laws.Joined.{is_child, without_child, pair_fits, both_entries, left_written, node_without, pair_joined, first_joined, any_fits}
use Rattle.merge.specs.Laws.Fits.{fits-would, both-merged}

-- THE FIRST BYTES of a node that reads
unfoldable pub kind_for : Tree → ℕ
kind_for (unread i) = 0
kind_for (leaf i rs) = 1
kind_for (interior i f ms) = 2

pub record Head (s : List ℕ) (i level : ℕ) : Type 0 where
  pub kind : u16 s (i * 1024 + 2) ≡ kind_for (tree_at level s i)
  pub level_is : u16 s (i * 1024 + 4) ≡ level

module _ (n i : ℕ) where
  no-unread : usable n (unread i) ≡ true → ⊥
  unfolding usable
  no-unread u = false≢true u

  leaf-kind : (o : Option (List Row)) → usable n (leaf_of i o) ≡ true → kind_for (leaf_of i o) ≡ 1
  unfolding leaf_of kind_for
  leaf-kind none u = absurd (no-unread u)
  leaf-kind (some rs) u = refl

  interior-kind : (under : ℕ → Tree) (o : Option Inside) → usable n (interior_of under i o) ≡ true → kind_for (interior_of under i o) ≡ 2
  unfolding interior_of kind_for
  interior-kind under none u = absurd (no-unread u)
  interior-kind under (some y) u = refl

  leaf-none : usable n (leaf_of i none) ≡ true → ⊥
  unfolding leaf_of
  leaf-none u = no-unread u

  interior-none : (under : ℕ → Tree) → usable n (interior_of under i none) ≡ true → ⊥
  unfolding interior_of
  interior-none under u = no-unread u

head_in : (s : List ℕ) (i k : ℕ) → i * 1024 + 1024 ≤ length s → k ≤ 8 → u16 (node_bytes s i) k ≡ u16 s (i * 1024 + k)
head_in s i k h g = ap (λ l. u16 l k) (node-is s i h) ∙ cut-u16 s (i * 1024) (i * 1024 + 1024) k (omega arith)

pub head_of : (s : List ℕ) (i level : ℕ) → usable (nodes_of (length s)) (tree_at level s i) ≡ true → Head s i level
unfolding tree_at or_none
head_of s i zero u = absurd (no-unread (nodes_of (length s)) i u)
head_of s i (suc zero) u = go (node_entries 0x0001 1 (node_bytes s i)) refl u
  where
    inside : i * 1024 + 1024 ≤ length s
    inside = (node-inside s i 1 u).0

    go : (o : Option (List Entry)) → node_entries 0x0001 1 (node_bytes s i) ≡ o → usable (nodes_of (length s)) (leaf_of i (or_none pairs_of o)) ≡ true → Head s i 1
    go none q v = absurd (leaf-none (nodes_of (length s)) i v)
    go (some es) q v =
        let l : Laid 0x0001 1 (node_bytes s i) es = laid 0x0001 1 (node_bytes s i) es q in
        record {
          kind = sym (head_in s i 2 inside (omega arith)) ∙ l.kind_is ∙ sym (leaf-kind (nodes_of (length s)) i (or_none pairs_of (node_entries 0x0001 1 (node_bytes s i))) u);
          level_is = sym (head_in s i 4 inside (omega arith)) ∙ l.level_is;
        }
head_of s i (suc (suc m)) u = go (node_entries 0x0002 (suc (suc m)) (node_bytes s i)) refl u
  where
    inside : i * 1024 + 1024 ≤ length s
    inside = (node-inside s i (suc (suc m)) u).0

    go : (o : Option (List Entry)) → node_entries 0x0002 (suc (suc m)) (node_bytes s i) ≡ o → usable (nodes_of (length s)) (interior_of (λ j. tree_at (suc m) s j) i (or_none inside_of o)) ≡ true → Head s i (suc (suc m))
    go none q v = absurd (interior-none (nodes_of (length s)) i (λ j. tree_at (suc m) s j) v)
    go (some es) q v =
        let l : Laid 0x0002 (suc (suc m)) (node_bytes s i) es = laid 0x0002 (suc (suc m)) (node_bytes s i) es q in
        record {
          kind = sym (head_in s i 2 inside (omega arith)) ∙ l.kind_is
              ∙ sym (interior-kind (nodes_of (length s)) i (λ j. tree_at (suc m) s j) (or_none inside_of (node_entries 0x0002 (suc (suc m)) (node_bytes s i))) u);
          level_is = sym (head_in s i 4 inside (omega arith)) ∙ l.level_is;
        }

-- the page of two as one
page-merged : {t u : Tree} → Pair t u → (level : ℕ) (lo mid hi : List ℕ) → page (kind_for t) level (bytes_of_all (entries_for (merged t u lo mid hi))) ≡ page_for level (merged t u lo mid hi)
unfolding kind_for merged entries_for page_for page_of
page-merged (Pair.leaves i j rs qs) level lo mid hi = refl
page-merged (Pair.inners i j f g) level lo mid hi = refl

-- THE RIGHT ONE of the pair
unfoldable pub right_at : ℕ → Forest → ℕ
right_at k end = 0
right_at zero (tree s t end) = 0
right_at zero (tree s t (tree q u f)) = number_of u
right_at (suc k) (tree s t f) = right_at k f

right_in : (k : ℕ) (f : Forest) (lifted hi : List ℕ) → pair_at k f lifted hi ≡ true → is_in (right_at k f) (heads f) ≡ true
unfolding pair_at right_at heads is_in
right_in k end lifted hi e = absurd (false≢true e)
right_in k (tree s t end) lifted hi e = absurd (false≢true e)
right_in zero (tree s t (tree q u f)) lifted hi e =
    or_right (eqb (number_of u) (number_of t)) _ (or_left (eqb (number_of u) (number_of u)) (is_in (number_of u) (heads f)) (eq-eqb (number_of u) (number_of u) refl))
right_in (suc k) (tree s t (tree q u f)) lifted hi e = or_right (eqb (right_at k (tree q u f)) (number_of t)) _ (right_in k (tree q u f) lifted hi e)

messages-stay : (b : ℕ) (ms : List Message) → without_child b (message_entries ms) ≡ message_entries ms
unfolding without_child is_child message_entries
messages-stay b [] = refl
messages-stay b (m ∷ ms) = ap (λ l. message m ∷ l) (messages-stay b ms)

apart : (i j : ℕ) (js : List ℕ) → is_in i js ≡ false → is_in j js ≡ true → eqb i j ≡ false
apart i j js a b = refuted (λ q. not_so (ap (λ z. is_in z js) (eqb-true i j q) ∙ b) a)

first-apart : (i j : ℕ) (js : List ℕ) → is_in i (j ∷ js) ≡ false → eqb i j ≡ false
unfolding is_in
first-apart i j js e = or-none-left (eqb i j) (is_in i js) e

others-stay : (b : ℕ) (f : Forest) (ms : List Message) → is_in b (heads f) ≡ false → without_child b (child_entries f ++ message_entries ms) ≡ child_entries f ++ message_entries ms
unfolding without_child is_child child_entries heads is_in
others-stay b end ms e = messages-stay b ms
others-stay b (tree s t f) ms e =
    let z : eqb (number_of t) b ≡ false = flip (number_of t) b (or-none-left (eqb b (number_of t)) (is_in b (heads f)) e) in
    ap (λ x. cond x (without_child b (child_entries f ++ message_entries ms)) (child (number_of t) s ∷ without_child b (child_entries f ++ message_entries ms))) z
    ∙ ap (λ l. child (number_of t) s ∷ l) (others-stay b f ms (or-none-right (eqb b (number_of t)) (is_in b (heads f)) e))
  where
    flip : (i j : ℕ) → eqb j i ≡ false → eqb i j ≡ false
    flip i j q = refuted (λ w. not_so (eq-eqb j i (sym (eqb-true i j w))) q)

-- the node's entries without the right one's are those of the children joined
pub entries-join : (k : ℕ) (f : Forest) (ms : List Message) (lifted hi : List ℕ) → pair_at k f lifted hi ≡ true → once (heads f) ≡ true
    → without_child (right_at k f) (child_entries f ++ message_entries ms) ≡ child_entries (join_at k f lifted hi) ++ message_entries ms
unfolding pair_at right_at join_at child_entries without_child is_child heads once
entries-join k end ms lifted hi e o = absurd (false≢true e)
entries-join k (tree s t end) ms lifted hi e o = absurd (false≢true e)
entries-join zero (tree s t (tree q u f)) ms lifted hi e o =
    let out : is_in (number_of t) (number_of u ∷ heads f) ≡ false = not-true (is_in (number_of t) (number_of u ∷ heads f)) (and_left _ _ o) in
    let far : eqb (number_of t) (number_of u) ≡ false = first-apart (number_of t) (number_of u) (heads f) out in
    let inner : once (number_of u ∷ heads f) ≡ true = and_right (not (is_in (number_of t) (number_of u ∷ heads f))) _ o in
    let gone : is_in (number_of u) (heads f) ≡ false = not-true (is_in (number_of u) (heads f)) (and_left _ _ inner) in
    let own : eqb (number_of u) (number_of u) ≡ true = eq-eqb (number_of u) (number_of u) refl in
    let number = merged-number (join-pair t u (lifted ++ s) (lifted ++ q) (high_of lifted hi f) e) (lifted ++ s) (lifted ++ q) (high_of lifted hi f) in
    rw (far, own, e, number) (ap (λ l. child (number_of t) s ∷ l) (others-stay (number_of u) f ms gone))
entries-join (suc k) (tree s t (tree q u f)) ms lifted hi e o =
    let out : is_in (number_of t) (heads (tree q u f)) ≡ false = not-true (is_in (number_of t) (heads (tree q u f))) (and_left _ _ o) in
    let far : eqb (number_of t) (right_at k (tree q u f)) ≡ false = apart (number_of t) (right_at k (tree q u f)) (heads (tree q u f)) out (right_in k (tree q u f) lifted hi e) in
    let rest = entries-join k (tree q u f) ms lifted hi e (and_right (not (is_in (number_of t) (heads (tree q u f)))) _ o) in
    rw far (ap (λ l. child (number_of t) s ∷ l) rest)

-- THE SEARCH over the children of a node that lifts `prefix` and whose high pivot is `prefix` ++ h
module _ (s : List ℕ) (l : ℕ) (prefix h low : List ℕ) (few : nodes_of (length s) ≤ 1024) where
  abbrev under : ℕ → Tree
  under j = tree_at (suc l) s j

  high_is : (ks : List Branch) → high_of prefix (prefix ++ h) (forest_of under ks) ≡ prefix ++ branch_high h ks
  unfolding high_of forest_of branch_high
  high_is [] = refl
  high_is (k ∷ ks) = refl

  -- one pair
  module _ (k q : Branch) (ks : List Branch) (sn : sound_forest (forest_of under (k ∷ q ∷ ks)) prefix low (prefix ++ h) ≡ true) (us : usable_in (nodes_of (length s)) (forest_of under (k ∷ q ∷ ks)) ≡ true) where
    abbrev t : Tree
    t = under k.number

    abbrev u : Tree
    u = under q.number

    abbrev f : Forest
    f = forest_of under ks

    first-rises : before k.pivot q.pivot ≡ true
    unfolding forest_of high_of
    first-rises = sym (before-append prefix k.pivot q.pivot) ∙ (parts k.pivot t (tree q.pivot u f) prefix low (prefix ++ h) sn).rises

    second-rises : before q.pivot (branch_high h ks) ≡ true
    unfolding forest_of
    second-rises =
        sym (before-append prefix q.pivot (branch_high h ks)) ∙ ap (before (prefix ++ q.pivot)) (sym (high_is ks))
        ∙ (parts q.pivot u f prefix low (prefix ++ h) (parts k.pivot t (tree q.pivot u f) prefix low (prefix ++ h) sn).later).rises

    left-usable : usable (nodes_of (length s)) t ≡ true
    unfolding forest_of usable_in
    left-usable = and_left (usable (nodes_of (length s)) t) _ us

    right-usable : usable (nodes_of (length s)) u ≡ true
    unfolding forest_of usable_in
    right-usable = and_left (usable (nodes_of (length s)) u) _ (and_right (usable (nodes_of (length s)) t) _ us)

    pub pair-would : pair_fits s k.number q.number k.pivot q.pivot (branch_high h ks) ≡ would_fit t u (prefix ++ k.pivot) (prefix ++ q.pivot) (high_of prefix (prefix ++ h) f)
    pair-would =
        fits-would prefix k.pivot q.pivot (branch_high h ks) first-rises second-rises s (suc l) k.number q.number few left-usable right-usable
        ∙ ap (would_fit t u (prefix ++ k.pivot) (prefix ++ q.pivot)) (sym (high_is ks))

    pub left-page : Pair t u → left_written s k.number q.number k.pivot q.pivot (branch_high h ks)
        ≡ write_node s (number_of t) (page_for (suc l) (merged t u (prefix ++ k.pivot) (prefix ++ q.pivot) (high_of prefix (prefix ++ h) f)))
    unfolding left_written
    left-page p =
        let d = head_of s k.number (suc l) left-usable in
        let e : both_entries s k.number q.number k.pivot q.pivot (branch_high h ks) ≡ bytes_of_all (entries_for (merged t u (prefix ++ k.pivot) (prefix ++ q.pivot) (high_of prefix (prefix ++ h) f))) =
        both-merged prefix k.pivot q.pivot (branch_high h ks) first-rises second-rises s (suc l) k.number q.number few left-usable right-usable p
        ∙ ap (λ z. bytes_of_all (entries_for (merged t u (prefix ++ k.pivot) (prefix ++ q.pivot) z))) (sym (high_is ks)) in
        ap₂ (λ a b. write_node s k.number (page a b (both_entries s k.number q.number k.pivot q.pivot (branch_high h ks)))) d.kind d.level_is
        ∙ ap (λ b. write_node s k.number (page (kind_for t) (suc l) b)) e
        ∙ ap₂ (λ a b. write_node s a b) (sym (number_read (suc l) s k.number)) (page-merged p (suc l) (prefix ++ k.pivot) (prefix ++ q.pivot) (high_of prefix (prefix ++ h) f))

  any-choice : (a b c d : Bool) → a ≡ b → c ≡ not d → cond a true c ≡ not (not b && d)
  any-choice true true c d e f = refl
  any-choice true false c d e f = absurd (true≢false e)
  any-choice false true c d e f = absurd (false≢true e)
  any-choice false false c d e f = f

  later-usable : (k : Branch) (ks : List Branch) → usable_in (nodes_of (length s)) (forest_of under (k ∷ ks)) ≡ true → usable_in (nodes_of (length s)) (forest_of under ks) ≡ true
  unfolding forest_of usable_in
  later-usable k ks us = and_right (usable (nodes_of (length s)) (under k.number)) _ us

  later-sound : (k : Branch) (ks : List Branch) → sound_forest (forest_of under (k ∷ ks)) prefix low (prefix ++ h) ≡ true → sound_forest (forest_of under ks) prefix low (prefix ++ h) ≡ true
  unfolding forest_of
  later-sound k ks sn = (parts k.pivot (under k.number) (forest_of under ks) prefix low (prefix ++ h) sn).later

  -- there are such two just where the rule finds them
  pub any-mergeable : (ks : List Branch) → sound_forest (forest_of under ks) prefix low (prefix ++ h) ≡ true → usable_in (nodes_of (length s)) (forest_of under ks) ≡ true
      → any_fits ks h s ≡ not (unmergeable (forest_of under ks) prefix (prefix ++ h))
  unfolding any_fits unmergeable forest_of
  any-mergeable [] sn us = refl
  any-mergeable (k ∷ []) sn us = refl
  any-mergeable (k ∷ q ∷ ks) sn us =
      any-choice (pair_fits s k.number q.number k.pivot q.pivot (branch_high h ks)) _ _ _ (pair-would k q ks sn us)
      (any-mergeable (q ∷ ks) (later-sound k (q ∷ ks) sn) (later-usable k (q ∷ ks) us))

  -- the store after the first two are joined
  module _ (n level : ℕ) (es : List Entry) where
    abbrev pub joined_at : ℕ → Forest → List ℕ
    joined_at k f = write_node (write_node s (left_at k f) (page_for (suc l) (merged_at k f prefix (prefix ++ h)))) n (page 2 level (bytes_of_all (without_child (right_at k f) es)))

    -- the two in front are joined, or the search goes on
    module _ (k q : Branch) (ks : List Branch) (kind : same_kind (under k.number) (under q.number) ≡ true) where
      abbrev full : Bool
      full = would_fit (under k.number) (under q.number) (prefix ++ k.pivot) (prefix ++ q.pivot) (high_of prefix (prefix ++ h) (forest_of under ks))

      abbrev fits : Bool
      fits = pair_fits s k.number q.number k.pivot q.pivot (branch_high h ks)

      here : fits ≡ true → full ≡ true
          → (Pair (under k.number) (under q.number) → left_written s k.number q.number k.pivot q.pivot (branch_high h ks)
          ≡ write_node s (number_of (under k.number)) (page_for (suc l) (merged (under k.number) (under q.number) (prefix ++ k.pivot) (prefix ++ q.pivot) (high_of prefix (prefix ++ h) (forest_of under ks)))))
          → first_joined n level es (k ∷ q ∷ ks) h s ≡ joined_at (first_pair (forest_of under (k ∷ q ∷ ks)) prefix (prefix ++ h)) (forest_of under (k ∷ q ∷ ks))
      unfolding first_joined first_pair forest_of joins left_at merged_at right_at pair_joined node_without
      here e w page-is =
          let p : Pair (under k.number) (under q.number) =
          join-pair (under k.number) (under q.number) (prefix ++ k.pivot) (prefix ++ q.pivot) (high_of prefix (prefix ++ h) (forest_of under ks)) (unfold joins in both kind w) in
          rw (e, kind, w)
          (ap₂ (λ r b. write_node r n (page 2 level (bytes_of_all (without_child b es)))) (page-is p) (sym (number_read (suc l) s q.number)))

      there : fits ≡ false → full ≡ false
          → first_joined n level es (q ∷ ks) h s ≡ joined_at (first_pair (forest_of under (q ∷ ks)) prefix (prefix ++ h)) (forest_of under (q ∷ ks))
          → first_joined n level es (k ∷ q ∷ ks) h s ≡ joined_at (first_pair (forest_of under (k ∷ q ∷ ks)) prefix (prefix ++ h)) (forest_of under (k ∷ q ∷ ks))
      unfolding first_joined first_pair forest_of joins left_at merged_at right_at
      there e w ih = rw (e, kind, w) ih

      rest-any : fits ≡ false → any_fits (k ∷ q ∷ ks) h s ≡ true → any_fits (q ∷ ks) h s ≡ true
      unfolding any_fits
      rest-any e a = rw e at a

    pub first-joined : (ks : List Branch) → sound_forest (forest_of under ks) prefix low (prefix ++ h) ≡ true → usable_in (nodes_of (length s)) (forest_of under ks) ≡ true
        → tall_in (forest_of under ks) (suc l) ≡ true → any_fits ks h s ≡ true → first_joined n level es ks h s ≡ joined_at (first_pair (forest_of under ks) prefix (prefix ++ h)) (forest_of under ks)
    unfolding any_fits forest_of
    first-joined [] sn us ta e = absurd (false≢true e)
    first-joined (k ∷ []) sn us ta e = absurd (false≢true e)
    first-joined (k ∷ q ∷ ks) sn us ta e =
        go (would_fit (under k.number) (under q.number) (prefix ++ k.pivot) (prefix ++ q.pivot) (high_of prefix (prefix ++ h) (forest_of under ks))) refl
        (λ w. first-joined (q ∷ ks) (later-sound k (q ∷ ks) sn) (later-usable k (q ∷ ks) us) (tall-later k.pivot (under k.number) (forest_of under (q ∷ ks)) (suc l) ta) w)
      where
        kind : same_kind (under k.number) (under q.number) ≡ true
        kind =
            one-kind (under k.number) (under q.number) (suc l) (tall-first k.pivot (under k.number) (forest_of under (q ∷ ks)) (suc l) ta)
            (tall-first q.pivot (under q.number) (forest_of under ks) (suc l) (tall-later k.pivot (under k.number) (forest_of under (q ∷ ks)) (suc l) ta))

        go : (x : Bool) → would_fit (under k.number) (under q.number) (prefix ++ k.pivot) (prefix ++ q.pivot) (high_of prefix (prefix ++ h) (forest_of under ks)) ≡ x
            → (any_fits (q ∷ ks) h s ≡ true → first_joined n level es (q ∷ ks) h s ≡ joined_at (first_pair (forest_of under (q ∷ ks)) prefix (prefix ++ h)) (forest_of under (q ∷ ks)))
            → first_joined n level es (k ∷ q ∷ ks) h s ≡ joined_at (first_pair (forest_of under (k ∷ q ∷ ks)) prefix (prefix ++ h)) (forest_of under (k ∷ q ∷ ks))
        go true w ih = here k q ks kind (pair-would k q ks sn us ∙ w) w (left-page k q ks sn us)
        go false w ih = there k q ks kind (pair-would k q ks sn us ∙ w) w (ih (rest-any k q ks kind (pair-would k q ks sn us ∙ w) e))
