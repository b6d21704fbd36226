-- Sums of counts, also capped, and what the entries of a node hold.
-- Relies on Count and on image's tree of entries.
use Rattle.std.specs.Prelude.{ℕ, suc, ◌+◌, ◌≡◌, refl, List, [], ◌∷◌, ◌++◌, length}
use Rattle.image.specs.Prelude.{sym, ap, ap₂, subst, ◌∙◌, Option, none, some, arith, length-append}
use Rattle.image.specs.Entry as defined
use Rattle.image.specs.Table.{Row}
use Rattle.image.specs.Image.{Tree, leaf, interior, Forest, end, tree, Inside, pair_then, pairs_of, message_then, messages_of, no_branches, branch_then, inside_of, forest_of}
use Rattle.image.specs.Sound.{numbers, numbers_in}
use Rattle.octets.specs.Cap.{cap, cap-small, cap-sum}
use Rattle.laws.specs.LiveCount.{pair_count, pair_count_in}
use Rattle.tree_check.specs.declared.Tally.{Tally}
use Rattle.tree_check.specs.Count.{message_count, message_count_in, Count, plus, count_of, count_in, only_pairs, only_messages, only_node, last_count, branches_count, capped, tally_sum}

tally-path : {a b c x y z : ℕ} → a ≡ x → b ≡ y → c ≡ z → ◌≡◌ {A = Tally} (record { pairs = a; messages = b; nodes = c }) (record { pairs = x; messages = y; nodes = z })
tally-path p q r = rw (p, q, r)

count-path : {a b c x y z : ℕ} → a ≡ x → b ≡ y → c ≡ z → ◌≡◌ {A = Count} (record { pairs = a; messages = b; nodes = c }) (record { pairs = x; messages = y; nodes = z })
count-path p q r = rw (p, q, r)

pub tally-plus : (x y : Count) → tally_sum (capped x) (capped y) ≡ capped (plus x y)
unfolding tally_sum capped plus
tally-plus x y = tally-path (cap-sum x.pairs y.pairs) (cap-sum x.messages y.messages) (cap-sum x.nodes y.nodes)

-- two tallies joined
pub tally-joined : (a b r : Tally) (x y : Count) → a ≡ capped x → b ≡ capped y → r ≡ tally_sum a b → r ≡ capped (plus x y)
tally-joined a b r x y e f g = g ∙ ap₂ (λ u v. tally_sum u v) e f ∙ tally-plus x y

pub sum_is : (a b : Tally) (p q r : ℕ) → p ≡ cap (a.pairs + b.pairs) → q ≡ cap (a.messages + b.messages) → r ≡ cap (a.nodes + b.nodes)
    → ◌≡◌ {A = Tally} (record { pairs = p; messages = q; nodes = r }) (tally_sum a b)
unfolding tally_sum
sum_is a b p q r h k l = tally-path h k l

-- a capped number beside none of the others
pub pairs-capped : (k n : ℕ) → k ≡ cap n → ◌≡◌ {A = Tally} (record { pairs = k; messages = 0; nodes = 1 }) (capped (only_pairs n))
unfolding capped
pairs-capped k n e = tally-path e (sym (cap-small 0 (omega arith))) (sym (cap-small 1 (omega arith)))

pub messages-capped : (k n : ℕ) → k ≡ cap n → ◌≡◌ {A = Tally} (record { pairs = 0; messages = k; nodes = 0 }) (capped (only_messages n))
unfolding capped
messages-capped k n e = tally-path (sym (cap-small 0 (omega arith))) e (sym (cap-small 0 (omega arith)))

pub node-capped : ◌≡◌ {A = Tally} (record { pairs = 0; messages = 0; nodes = 1 }) (capped only_node)
unfolding capped
node-capped = tally-path (sym (cap-small 0 (omega arith))) (sym (cap-small 0 (omega arith))) (sym (cap-small 1 (omega arith)))

pub plus_assoc : (a b c : Count) → plus a (plus b c) ≡ plus (plus a b) c
unfolding plus
plus_assoc a b c = count-path (omega arith) (omega arith) (omega arith)

-- the parts of a tree
tree-count : (s : List ℕ) (t : Tree) (f : Forest) → count_in (tree s t f) ≡ plus (count_of t) (count_in f)
unfolding count_in count_of plus pair_count_in message_count_in numbers_in
tree-count s t f = count-path refl refl (length-append (numbers t) (numbers_in f))

last-count : (s : List ℕ) (t : Tree) → count_in (tree s t end) ≡ count_of t
unfolding count_in count_of pair_count_in message_count_in numbers_in
last-count s t =
    let l : length (numbers t ++ []) ≡ length (numbers t) + length (numbers_in end) = length-append (numbers t) [] in
    let z : length (numbers_in end) ≡ 0 = refl in
    count-path (omega arith) (omega arith) (omega arith)

plus_none : (a : Count) → plus a (only_messages 0) ≡ a
unfolding plus
plus_none a = count-path (omega arith) (omega arith) (omega arith)

interior-count : (i : ℕ) (f : Forest) (ms : List defined.Message) → count_of (interior i f ms) ≡ plus only_node (plus (count_in f) (only_messages (length ms)))
unfolding count_in count_of plus pair_count message_count numbers
interior-count i f ms = count-path (omega arith) (omega arith) (omega arith)

leaf-count : (i : ℕ) (rs : List Row) → count_of (leaf i rs) ≡ only_pairs (length rs)
unfolding count_of pair_count message_count numbers
leaf-count i rs = refl

pairs-length : (es : List defined.Entry) (rs : List Row) → pairs_of es ≡ some rs → length rs ≡ length es
unfolding pairs_of
pairs-length [] rs h = let q : rs ≡ [] = cc in rw q
pairs-length (defined.pair k v ∷ es) rs h = go (pairs_of es) refl (pairs-length es)
  where
    go : (o : Option (List Row)) → pairs_of es ≡ o → ((ts : List Row) → pairs_of es ≡ some ts → length ts ≡ length es) → length rs ≡ suc (length es)
    go none e ih = let q : none ≡ some rs = unfold pair_then in rw e at h in let z : ◌≡◌ {A = ℕ} 0 1 = cc in absurd (omega arith)
    go (some ts) e ih =
        let q : some (record { key = k; value = v } ∷ ts) ≡ some rs = unfold pair_then in rw e at h in
        let p : rs ≡ record { key = k; value = v } ∷ ts = cc in
        rw p (ap suc (ih ts e))
pairs-length (defined.child i k ∷ es) rs h = let q : none ≡ some rs = unfold pair_then in h in let z : ◌≡◌ {A = ℕ} 0 1 = cc in absurd (omega arith)
pairs-length (defined.message m ∷ es) rs h = let q : none ≡ some rs = unfold pair_then in h in let z : ◌≡◌ {A = ℕ} 0 1 = cc in absurd (omega arith)

messages-length : (es : List defined.Entry) (ms : List defined.Message) → messages_of es ≡ some ms → length ms ≡ length es
unfolding messages_of
messages-length [] ms h = let q : ms ≡ [] = cc in rw q
messages-length (defined.pair k v ∷ es) ms h = let q : none ≡ some ms = h in let z : ◌≡◌ {A = ℕ} 0 1 = cc in absurd (omega arith)
messages-length (defined.child i k ∷ es) ms h = let q : none ≡ some ms = h in let z : ◌≡◌ {A = ℕ} 0 1 = cc in absurd (omega arith)
messages-length (defined.message m ∷ es) ms h = go (messages_of es) refl (messages-length es)
  where
    go : (o : Option (List defined.Message)) → messages_of es ≡ o → ((ts : List defined.Message) → messages_of es ≡ some ts → length ts ≡ length es) → length ms ≡ suc (length es)
    go none e ih = let q : none ≡ some ms = unfold message_then in rw e at h in let z : ◌≡◌ {A = ℕ} 0 1 = cc in absurd (omega arith)
    go (some ts) e ih =
        let q : some (m ∷ ts) ≡ some ms = unfold message_then in rw e at h in
        let p : ms ≡ m ∷ ts = cc in
        rw p (ap suc (ih ts e))

-- what the entries of a leaf hold
pub leaf-holds : (i : ℕ) (es : List defined.Entry) (rs : List Row) → pairs_of es ≡ some rs → count_of (leaf i rs) ≡ only_pairs (length es)
leaf-holds i es rs h = leaf-count i rs ∙ ap (λ n. only_pairs n) (pairs-length es rs h)

module _ (below : ℕ → Tree) where
  pub branches-hold : (es : List defined.Entry) (x : Inside) → inside_of es ≡ some x → (i : ℕ) (low : List ℕ)
      → branches_count below i es ≡ plus (count_in (tree low (below i) (forest_of below x.branches))) (only_messages (length x.messages))
  unfolding branches_count inside_of
  branches-hold [] x h i low =
      let p : (record { branches = []; messages = [] }) ≡ x = cc in
      subst (λ (y : Inside). count_of (below i) ≡ plus (count_in (tree low (below i) (forest_of below y.branches))) (only_messages (length y.messages))) p
      (alone i low)
    where
      alone : (i : ℕ) (low : List ℕ) → count_of (below i) ≡ plus (count_in (tree low (below i) (forest_of below []))) (only_messages 0)
      alone i low = unfold forest_of in sym (plus_none (count_in (tree low (below i) end)) ∙ last-count low (below i))
  branches-hold (defined.pair k v ∷ es) x h i low = let q : none ≡ some x = h in let z : ◌≡◌ {A = ℕ} 0 1 = cc in absurd (omega arith)
  branches-hold (defined.child j q ∷ es) x h i low = go (inside_of es) refl (λ y e. branches-hold es y e j q)
    where
      more : (y : Inside) (K : Count) → K ≡ plus (count_in (tree q (below j) (forest_of below y.branches))) (only_messages (length y.messages))
          → plus (count_of (below i)) K ≡ plus (count_in (tree low (below i) (forest_of below (record { number = j; pivot = q } ∷ y.branches)))) (only_messages (length y.messages))
      more y K e =
          unfold forest_of in
          ap (λ k. plus (count_of (below i)) k) e
          ∙ plus_assoc (count_of (below i)) (count_in (tree q (below j) (forest_of below y.branches))) (only_messages (length y.messages))
          ∙ ap (λ k. plus k (only_messages (length y.messages))) (sym (tree-count low (below i) (tree q (below j) (forest_of below y.branches))))

      go : (o : Option Inside) → inside_of es ≡ o
          → ((y : Inside) → inside_of es ≡ some y → branches_count below j es ≡ plus (count_in (tree q (below j) (forest_of below y.branches))) (only_messages (length y.messages)))
          → plus (count_of (below i)) (branches_count below j es) ≡ plus (count_in (tree low (below i) (forest_of below x.branches))) (only_messages (length x.messages))
      go none e ih = let w : none ≡ some x = unfold branch_then in rw e at h in let z : ◌≡◌ {A = ℕ} 0 1 = cc in absurd (omega arith)
      go (some y) e ih =
          let w : some (record { branches = record { number = j; pivot = q } ∷ y.branches; messages = y.messages }) ≡ some x = unfold branch_then in rw e at h in
          let p : (record { branches = record { number = j; pivot = q } ∷ y.branches; messages = y.messages }) ≡ x = cc in
          subst (λ (z : Inside). plus (count_of (below i)) (branches_count below j es) ≡ plus (count_in (tree low (below i) (forest_of below z.branches))) (only_messages (length z.messages))) p
          (more y (branches_count below j es) (ih y e))
  branches-hold (defined.message m ∷ es) x h i low = go (messages_of (defined.message m ∷ es)) refl
    where
      last : (ms : List defined.Message) → length ms ≡ suc (length es)
          → plus (count_of (below i)) (only_messages (suc (length es))) ≡ plus (count_in (tree low (below i) (forest_of below []))) (only_messages (length ms))
      last ms e = unfold forest_of in ap₂ (λ k n. plus k (only_messages n)) (sym (last-count low (below i))) (sym e)

      go : (o : Option (List defined.Message)) → messages_of (defined.message m ∷ es) ≡ o
          → plus (count_of (below i)) (only_messages (suc (length es))) ≡ plus (count_in (tree low (below i) (forest_of below x.branches))) (only_messages (length x.messages))
      go none e = let w : none ≡ some x = unfold no_branches in rw e at h in let z : ◌≡◌ {A = ℕ} 0 1 = cc in absurd (omega arith)
      go (some ms) e =
          let w : some (record { branches = []; messages = ms }) ≡ some x = unfold no_branches in rw e at h in
          let p : (record { branches = []; messages = ms }) ≡ x = cc in
          subst (λ (z : Inside). plus (count_of (below i)) (only_messages (suc (length es))) ≡ plus (count_in (tree low (below i) (forest_of below z.branches))) (only_messages (length z.messages))) p
          (last ms (messages-length (defined.message m ∷ es) ms e))

  -- what the entries of an interior node hold
  pub interior-holds : (n i : ℕ) (q : List ℕ) (es : List defined.Entry) (x : Inside) → inside_of es ≡ some x
      → count_of (interior n (tree q (below i) (forest_of below x.branches)) x.messages) ≡ plus only_node (branches_count below i es)
  interior-holds n i q es x h =
      interior-count n (tree q (below i) (forest_of below x.branches)) x.messages ∙ ap (λ k. plus only_node k) (sym (branches-hold es x h i q))

  pub count-end : (i : ℕ) (l : List defined.Entry) → l ≡ [] → last_count below i l ≡ branches_count below i l
  unfolding branches_count
  count-end i l e = rw e (plus_none (count_of (below i)))

  pub count-more : (i j : ℕ) (q : List ℕ) (l es : List defined.Entry) → l ≡ defined.child j q ∷ es → plus (count_of (below i)) (branches_count below j es) ≡ branches_count below i l
  unfolding branches_count
  count-more i j q l es e = rw e
