-- What the walk counts at a node, and over its children, is what Live defines of the tree under the node.
-- Relies on the laws that join the bytes of a node to its tree (lookup: Look) and on octets' laws of capped sums (Cap).
use Rattle.std.specs.Prelude.{ℕ, ◌+◌, ◌-◌, ◌≤◌, ◌≡◌, refl, List, [], ◌∷◌, ◌++◌, Bool, true, false, ◌&&◌, length, drop}
use Rattle.image.specs.Prelude.{sym, ap, ap₂, ◌∙◌, and_comm, Option, none, some, arith}
use Rattle.image.specs.Bytes.{shared}
use Rattle.image.specs.Entry as defined
use Rattle.image.specs.Table.{Row}
use Rattle.image.specs.Image.{Tree, leaf, interior, Forest, Branch, Inside, nodes_of, pair_then, pairs_of, message_then, messages_of, no_branches, branch_then, inside_of, forest_of, tree_at}
use Rattle.image.specs.Meaning.{newest}
use Rattle.octets.specs.Cap.{cap, cap-add, cap-front}
use Rattle.laws.specs.Reading.Relative.{lifts, usable, branch_high, high-at}
use Rattle.node.specs.Search.Latest.{newest_among}
use Rattle.node.specs.Search.Own.{branch, branches_among}
use Rattle.lookup.specs.Look.{listing, leaf-at, interior-at, inside-splits, messages-newest}
use Rattle.live_count.specs.Live.{holds_no_message, one, count_rows, count_puts, live_here, live_branches}
use Rattle.live_count.specs.Walk.{decides, count_among}

-- a count of one entry
none-decides : (n : ℕ) → one false + n ≡ n
unfolding one
none-decides n = omega arith

-- the pairs of a leaf
pub pairs-count : (ok : List ℕ → Bool) (prefix : List ℕ) (es : List defined.Entry) (rs : List Row) → pairs_of es ≡ some rs → count_among ok prefix es ≡ count_rows ok prefix rs
unfolding pairs_of count_among count_rows decides
pairs-count ok prefix [] rs h = let q : rs ≡ [] = cc in rw q
pairs-count ok prefix (defined.pair k v ∷ es) rs h = go (pairs_of es) refl (pairs-count ok prefix es)
  where
    go : (o : Option (List Row)) → pairs_of es ≡ o → ((ts : List Row) → pairs_of es ≡ some ts → count_among ok prefix es ≡ count_rows ok prefix ts)
        → count_among ok prefix (defined.pair k v ∷ es) ≡ count_rows ok prefix rs
    go none e ih = let q : none ≡ some rs = unfold pair_then in rw e at h in let z : ◌≡◌ {A = ℕ} 0 1 = cc in absurd (omega arith)
    go (some ts) e ih =
        let q : some (record { key = k; value = v } ∷ ts) ≡ some rs = unfold pair_then in rw e at h in
        let p : rs ≡ record { key = k; value = v } ∷ ts = cc in
        rw (p, ih ts e)
pairs-count ok prefix (defined.child i k ∷ es) rs h = let q : none ≡ some rs = unfold pair_then in h in let z : ◌≡◌ {A = ℕ} 0 1 = cc in absurd (omega arith)
pairs-count ok prefix (defined.message m ∷ es) rs h = let q : none ≡ some rs = unfold pair_then in h in let z : ◌≡◌ {A = ℕ} 0 1 = cc in absurd (omega arith)

-- the messages of an interior node
message-first : (ok : List ℕ → Bool) (prefix : List ℕ) (m : defined.Message) (es : List defined.Entry) (ms : List defined.Message) → ((r : List ℕ) → newest_among es r ≡ newest ms r)
    → count_among ok prefix es ≡ count_puts ok prefix ms → count_among ok prefix (defined.message m ∷ es) ≡ count_puts ok prefix (m ∷ ms)
unfolding count_among count_puts decides
message-first ok prefix (defined.puts k v) es ms n e =
    ap₂ (λ a b. one a + b) (ap (λ x. holds_no_message x && ok (prefix ++ k)) (n k) ∙ and_comm (holds_no_message (newest ms k)) (ok (prefix ++ k))) e
message-first ok prefix (defined.drops k) es ms n e = none-decides (count_among ok prefix es) ∙ e
message-first ok prefix (defined.clears k) es ms n e = none-decides (count_among ok prefix es) ∙ e

no-entries : (ok : List ℕ → Bool) (prefix : List ℕ) → count_among ok prefix [] ≡ count_puts ok prefix []
unfolding count_among count_puts
no-entries ok prefix = refl

messages-count : (ok : List ℕ → Bool) (prefix : List ℕ) (es : List defined.Entry) (ms : List defined.Message) → messages_of es ≡ some ms → count_among ok prefix es ≡ count_puts ok prefix ms
unfolding messages_of
messages-count ok prefix [] ms h = let q : ms ≡ [] = cc in no-entries ok prefix ∙ ap (λ l. count_puts ok prefix l) (sym q)
messages-count ok prefix (defined.pair k v ∷ es) ms h = let q : none ≡ some ms = h in let z : ◌≡◌ {A = ℕ} 0 1 = cc in absurd (omega arith)
messages-count ok prefix (defined.child i k ∷ es) ms h = let q : none ≡ some ms = h in let z : ◌≡◌ {A = ℕ} 0 1 = cc in absurd (omega arith)
messages-count ok prefix (defined.message m ∷ es) ms h = go (messages_of es) refl (messages-count ok prefix es)
  where
    go : (o : Option (List defined.Message)) → messages_of es ≡ o → ((ts : List defined.Message) → messages_of es ≡ some ts → count_among ok prefix es ≡ count_puts ok prefix ts)
        → count_among ok prefix (defined.message m ∷ es) ≡ count_puts ok prefix ms
    go none e ih = let q : none ≡ some ms = unfold message_then in rw e at h in let z : ◌≡◌ {A = ℕ} 0 1 = cc in absurd (omega arith)
    go (some ts) e ih =
        let q : some (m ∷ ts) ≡ some ms = unfold message_then in rw e at h in
        let p : m ∷ ts ≡ ms = cc in
        message-first ok prefix m es ts (λ r. messages-newest es ts r e) (ih ts e) ∙ ap (λ l. count_puts ok prefix l) p

child-first : (ok : List ℕ → Bool) (prefix : List ℕ) (i : ℕ) (k : List ℕ) (es : List defined.Entry) → count_among ok prefix (defined.child i k ∷ es) ≡ count_among ok prefix es
unfolding count_among decides
child-first ok prefix i k es = none-decides (count_among ok prefix es)

pub inside-count : (ok : List ℕ → Bool) (prefix : List ℕ) (es : List defined.Entry) (x : Inside) → inside_of es ≡ some x → count_among ok prefix es ≡ count_puts ok prefix x.messages
unfolding inside_of
inside-count ok prefix [] x h =
    let p : (record { branches = []; messages = [] }) ≡ x = cc in
    no-entries ok prefix ∙ ap (λ (y : Inside). count_puts ok prefix y.messages) p
inside-count ok prefix (defined.pair k v ∷ es) x h = let q : none ≡ some x = h in let z : ◌≡◌ {A = ℕ} 0 1 = cc in absurd (omega arith)
inside-count ok prefix (defined.child i k ∷ es) x h = go (inside_of es) refl (inside-count ok prefix es)
  where
    go : (o : Option Inside) → inside_of es ≡ o → ((y : Inside) → inside_of es ≡ some y → count_among ok prefix es ≡ count_puts ok prefix y.messages)
        → count_among ok prefix (defined.child i k ∷ es) ≡ count_puts ok prefix x.messages
    go none e ih = let q : none ≡ some x = unfold branch_then in rw e at h in let z : ◌≡◌ {A = ℕ} 0 1 = cc in absurd (omega arith)
    go (some y) e ih =
        let q : some (record { branches = record { number = i; pivot = k } ∷ y.branches; messages = y.messages }) ≡ some x = unfold branch_then in rw e at h in
        let p : (record { branches = record { number = i; pivot = k } ∷ y.branches; messages = y.messages }) ≡ x = cc in
        child-first ok prefix i k es ∙ ih y e ∙ ap (λ (z : Inside). count_puts ok prefix z.messages) p
inside-count ok prefix (defined.message m ∷ es) x h = go (messages_of (defined.message m ∷ es)) refl
  where
    go : (o : Option (List defined.Message)) → messages_of (defined.message m ∷ es) ≡ o → count_among ok prefix (defined.message m ∷ es) ≡ count_puts ok prefix x.messages
    go none e = let q : none ≡ some x = unfold no_branches in rw e at h in let z : ◌≡◌ {A = ℕ} 0 1 = cc in absurd (omega arith)
    go (some ms) e =
        let q : some (record { branches = []; messages = ms }) ≡ some x = unfold no_branches in rw e at h in
        let p : (record { branches = []; messages = ms }) ≡ x = cc in
        messages-count ok prefix (defined.message m ∷ es) ms e ∙ ap (λ (z : Inside). count_puts ok prefix z.messages) p

-- the whole of a node, from its bytes
pub same_tests : {A : Type 0} (f : (List ℕ → Bool) → A) (a b : List ℕ → Bool) → ((q : List ℕ) → a q ≡ b q) → f a ≡ f b
same_tests f a b h = ap f (λ i q. h q i)

leaf-here : (i : ℕ) (rs : List Row) (ok : List ℕ → Bool) (prefix hi : List ℕ) → count_rows ok prefix rs ≡ live_here (leaf i rs) ok prefix hi
unfolding live_here
leaf-here i rs ok prefix hi = refl

interior-here : (i : ℕ) (f : Forest) (ms : List defined.Message) (ok : List ℕ → Bool) (prefix hi : List ℕ)
    → count_puts ok prefix ms + live_branches f (λ q. ok q && holds_no_message (newest ms (drop (length prefix) q))) prefix hi ≡ live_here (interior i f ms) ok prefix hi
unfolding live_here
interior-here i f ms ok prefix hi = refl

module _ (s : List ℕ) (i level : ℕ) (u : usable (nodes_of (length s)) (tree_at level s i) ≡ true) where
  pub leaf-counts : level ≤ 1 → (ok : List ℕ → Bool) (prefix hi : List ℕ) → count_among ok prefix (listing s i) ≡ live_here (tree_at level s i) ok prefix hi
  leaf-counts l ok prefix hi =
      let n = leaf-at s i level l u in
      ap (λ es. count_among ok prefix es) n.node.lists ∙ pairs-count ok prefix n.es n.rs n.pairs ∙ leaf-here i n.rs ok prefix hi
      ∙ ap (λ t. live_here t ok prefix hi) (sym n.tree)

  pub interior-counts : 2 ≤ level → (ok more : List ℕ → Bool) (prefix hi : List ℕ)
      → ((q : List ℕ) → more q ≡ ok q && holds_no_message (newest_among (listing s i) (drop (length prefix) q)))
      → count_among ok prefix (listing s i) + live_branches (forest_of (λ j. tree_at (level - 1) s j) (branches_among (listing s i))) more prefix hi ≡ live_here (tree_at level s i) ok prefix hi
  interior-counts l ok more prefix hi h =
      let n = interior-at s i level l u in
      let p = inside-splits n.es n.x n.splits in
      let a : count_among ok prefix (listing s i) ≡ count_puts ok prefix n.x.messages = ap (λ es. count_among ok prefix es) n.node.lists ∙ inside-count ok prefix n.es n.x n.splits in
      let b : branches_among (listing s i) ≡ n.x.branches = ap (λ es. branches_among es) n.node.lists ∙ p.branches in
      let f : Forest = forest_of (λ j. tree_at (level - 1) s j) n.x.branches in
      let c : live_branches f more prefix hi ≡ live_branches f (λ q. ok q && holds_no_message (newest n.x.messages (drop (length prefix) q))) prefix hi
      = same_tests (λ t. live_branches f t prefix hi) more (λ q. ok q && holds_no_message (newest n.x.messages (drop (length prefix) q)))
      (λ q. h q ∙ ap (λ w. ok q && holds_no_message w) (ap (λ es. newest_among es (drop (length prefix) q)) n.node.lists ∙ p.newest (drop (length prefix) q))) in
      ap₂ (λ y z. y + z) a (ap (λ ks. live_branches (forest_of (λ j. tree_at (level - 1) s j) ks) more prefix hi) b ∙ c)
      ∙ interior-here i f n.x.messages ok prefix hi
      ∙ ap (λ t. live_here t ok prefix hi) (sym n.tree)

-- the children, one at a time: the child in front, and those that follow
module _ (under : ℕ → Tree) (ok : List ℕ → Bool) (prefix hi : List ℕ) where
  pub walk-none : (ks : List Branch) (total N : ℕ) → ks ≡ [] → cap total ≡ total → cap (total + live_branches (forest_of under ks) ok prefix hi) ≡ N → total ≡ N
  unfolding live_branches forest_of
  walk-none ks total N q c inv =
      let z : total + 0 ≡ total = omega arith in
      sym c ∙ ap cap (sym z) ∙ sym (ap (λ l. cap (total + live_branches (forest_of under l) ok prefix hi)) q) ∙ inv

  module _ (num : ℕ) (low high : List ℕ) (us : List Branch) (eh : high ≡ branch_high hi us) where
    branches-more : live_branches (forest_of under (branch num low ∷ us)) ok prefix hi
        ≡ live_here (under num) ok (prefix ++ shared low high) (drop (lifts low high) high) + live_branches (forest_of under us) ok prefix hi
    unfolding live_branches forest_of
    branches-more =
        ap (λ h. live_here (under num) ok (prefix ++ shared low h) (drop (lifts low h) h) + live_branches (forest_of under us) ok prefix hi) (high-at under hi us ∙ sym eh)

    pub walk-on : (ks : List Branch) (total n r N : ℕ) → ks ≡ branch num low ∷ us → n ≡ cap (live_here (under num) ok (prefix ++ shared low high) (drop (lifts low high) high))
        → r ≡ cap (total + n) → cap (total + live_branches (forest_of under ks) ok prefix hi) ≡ N → cap (r + live_branches (forest_of under us) ok prefix hi) ≡ N
    walk-on ks total n r N q e f inv =
        let A : ℕ = live_here (under num) ok (prefix ++ shared low high) (drop (lifts low high) high) in
        let B : ℕ = live_branches (forest_of under us) ok prefix hi in
        let g : r ≡ cap (total + A) = f ∙ ap (λ z. cap (total + z)) e ∙ cap-add total A in
        let a : total + A + B ≡ total + (A + B) = omega arith in
        ap (λ z. cap (z + B)) g ∙ cap-front (total + A) B ∙ ap cap a
        ∙ ap (λ z. cap (total + z)) (sym branches-more) ∙ ap (λ l. cap (total + live_branches (forest_of under l) ok prefix hi)) (sym q) ∙ inv
