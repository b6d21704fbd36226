-- What the readers of a node find there is what the tree under it answers.
use Rattle.std.specs.Prelude.{ℕ, zero, suc, ◌+◌, ◌-◌, ◌*◌, ◌/◌, ◌<◌, ◌≤◌, ◌≡◌, refl, List, [], ◌∷◌, ◌++◌, Bool, true, false, length, take, drop, ltb}
use Rattle.image.specs.Prelude.{sym, ap, ap₂, subst, ◌∙◌, false≢true, Option, none, some, arith, length-append, length-drop, take_all, ltb-true, leb-true, mul-div-le}
use Rattle.image.specs.Bytes.{u16, shared}
use Rattle.image.specs.Path.{owns}
use Rattle.image.specs.Entry as defined
use Rattle.image.specs.Table.{Row, find}
use Rattle.image.specs.Image.{Tree, unread, leaf, interior, Forest, Branch, Inside, node_bytes, nodes_of, laid_out, entry_bytes, node_entries, pair_then, pairs_of, message_then, messages_of, no_branches, branch_then, inside_of, or_none, forest_of, leaf_of, interior_of, tree_at}
use Rattle.image.specs.Meaning.{Said, nothing, says, newest, decide}
use Rattle.octets.specs.Order.{and_left, and_right}
use Rattle.laws.specs.LookupTable.{split}
use Rattle.laws.specs.Reading.Relative.{lifts, from_here, from_branches, branch_high, high-at, usable, usable_in}
use Rattle.node.specs.Cut.{cut, cut-drop, cut-take, cut-u16}
use Rattle.node.specs.Entries.{listed, list_of, all_listed}
use Rattle.node.specs.Search.Latest.{entry_says, newest_among, newer-nothing}
use Rattle.node.specs.Search.Pairs.{find_among}
use Rattle.node.specs.Search.Own.{branch, branches_among, Range, range, owner_of}

-- a node's bytes in the store
module _ (s : List ℕ) (i : ℕ) (inside : i * 1024 + 1024 ≤ length s) where
  pub node-is : node_bytes s i ≡ cut s (i * 1024) (i * 1024 + 1024)
  unfolding node_bytes
  node-is =
      let a : i * 1024 + 1024 - i * 1024 ≡ 1024 = omega arith in
      let b : 1024 * i ≡ i * 1024 = omega arith in
      rw (a, b)

  pub count-is : u16 (node_bytes s i) 0 ≡ u16 s (i * 1024)
  count-is =
      let z : u16 s (i * 1024 + 0) ≡ u16 s (i * 1024) = ap (λ k. u16 s k) (omega arith) in
      ap (λ l. u16 l 0) node-is ∙ cut-u16 s (i * 1024) (i * 1024 + 1024) 0 (omega arith) ∙ z

  pub bytes-is : u16 s (i * 1024) ≤ 1016 → entry_bytes (node_bytes s i) ≡ cut s (i * 1024 + 8) (i * 1024 + 8 + u16 s (i * 1024))
  unfolding entry_bytes
  bytes-is h =
      ap₂ (λ n l. take n (drop 8 l)) count-is node-is
      ∙ ap (λ l. take (u16 s (i * 1024)) l) (cut-drop s (i * 1024) (i * 1024 + 1024) 8 (omega arith))
      ∙ cut-take s (i * 1024 + 8) (i * 1024 + 1024) (u16 s (i * 1024)) (omega arith)

-- the entries of a node, as the readers list them
abbrev pub listing : List ℕ → ℕ → List defined.Entry
listing s i = listed s (i * 1024 + 8) (i * 1024 + 8 + u16 s (i * 1024))

pub record NodeAt (s : List ℕ) (i : ℕ) (es : List defined.Entry) : Type 0 where
  pub inside : i * 1024 + 1024 ≤ length s
  pub short : u16 s (i * 1024) ≤ 1016
  pub lists : listing s i ≡ es

pub below_length : (s : List ℕ) (i : ℕ) → ltb i (nodes_of (length s)) ≡ true → i * 1024 + 1024 ≤ length s
unfolding nodes_of
below_length s i h =
    let a : i < length s / 1024 = ltb-true i (length s / 1024) h in
    let b : 1024 * (length s / 1024) ≤ length s = mul-div-le (length s) 1024 in
    omega arith

pub laid-short : (kind level : ℕ) (node : List ℕ) → laid_out kind level node ≡ true → u16 node 0 ≤ 1016
unfolding laid_out
laid-short kind level node h = leb-true (u16 node 0) 1016 (and_left _ _ (and_left _ _ (and_left _ _ (and_left _ _ h))))

pub read_of : (kind level : ℕ) (node : List ℕ) (es : List defined.Entry) → node_entries kind level node ≡ some es → (laid_out kind level node ≡ true) × (defined.entries_of (entry_bytes node) ≡ some es)
unfolding node_entries
read_of kind level node es h = go (laid_out kind level node) refl
  where
    go : (x : Bool) → laid_out kind level node ≡ x → (laid_out kind level node ≡ true) × (defined.entries_of (entry_bytes node) ≡ some es)
    go true e = (e, rw e at h)
    go false e = let q : none ≡ some es = rw e at h in let z : ◌≡◌ {A = ℕ} 0 1 = cc in absurd (omega arith)

node_at : (s : List ℕ) (i kind level : ℕ) (es : List defined.Entry) → ltb i (nodes_of (length s)) ≡ true → node_entries kind level (node_bytes s i) ≡ some es → NodeAt s i es
unfolding listed
node_at s i kind level es n h =
    let r = read_of kind level (node_bytes s i) es h in
    let f : i * 1024 + 1024 ≤ length s = below_length s i n in
    let c : u16 (node_bytes s i) 0 ≡ u16 s (i * 1024) = count-is s i f in
    let w : u16 (node_bytes s i) 0 ≤ 1016 = laid-short kind level (node_bytes s i) r.0 in
    let v : u16 s (i * 1024) ≤ 1016 = omega arith in
    record { inside = f; short = v; lists = ap (λ l. list_of l) (sym (bytes-is s i f v)) ∙ all_listed (entry_bytes (node_bytes s i)) es r.1 }

-- what a usable node is
pub record LeafAt (s : List ℕ) (i level : ℕ) : Type 0 where
  pub es : List defined.Entry
  pub rs : List Row
  pub node : NodeAt s i es
  pub pairs : pairs_of es ≡ some rs
  pub tree : tree_at level s i ≡ leaf i rs

pub record InteriorAt (s : List ℕ) (i level lower : ℕ) : Type 0 where
  pub es : List defined.Entry
  pub x : Inside
  pub node : NodeAt s i es
  pub splits : inside_of es ≡ some x
  pub tree : tree_at level s i ≡ interior i (forest_of (λ j. tree_at lower s j) x.branches) x.messages
  pub branches : usable_in (nodes_of (length s)) (forest_of (λ j. tree_at lower s j) x.branches) ≡ true

no-unread : (n i : ℕ) → usable n (unread i) ≡ true → ⊥
unfolding usable
no-unread n i h = false≢true h

leaf-number : (n i : ℕ) (rs : List Row) → usable n (leaf i rs) ≡ true → ltb i n ≡ true
unfolding usable
leaf-number n i rs h = h

interior-number : (n i : ℕ) (f : Forest) (ms : List defined.Message) → usable n (interior i f ms) ≡ true → ltb i n ≡ true
unfolding usable
interior-number n i f ms h = and_left _ _ h

interior-branches : (n i : ℕ) (f : Forest) (ms : List defined.Message) → usable n (interior i f ms) ≡ true → usable_in n f ≡ true
unfolding usable
interior-branches n i f ms h = and_right (ltb i n) _ h

pub leaf-at : (s : List ℕ) (i level : ℕ) → level ≤ 1 → usable (nodes_of (length s)) (tree_at level s i) ≡ true → LeafAt s i level
unfolding tree_at
leaf-at s i zero l u = absurd (no-unread _ i u)
leaf-at s i (suc zero) l u = go (node_entries 0x0001 1 (node_bytes s i)) refl
  where
    go2 : (es : List defined.Entry) → node_entries 0x0001 1 (node_bytes s i) ≡ some es → (o : Option (List Row)) → pairs_of es ≡ o → usable (nodes_of (length s)) (leaf_of i o) ≡ true → LeafAt s i (suc zero)
    go2 es e none f v = absurd (no-unread (nodes_of (length s)) i (unfold leaf_of in v))
    go2 es e (some rs) f v =
        record {
          es = es;
          rs = rs;
          node = node_at s i 0x0001 1 es (leaf-number (nodes_of (length s)) i rs (unfold leaf_of in v)) e;
          pairs = f;
          tree = unfold leaf_of or_none in rw (e, f);
        }

    go : (o : Option (List defined.Entry)) → node_entries 0x0001 1 (node_bytes s i) ≡ o → LeafAt s i (suc zero)
    go none e = absurd (no-unread (nodes_of (length s)) i (unfold leaf_of or_none in rw e at u))
    go (some es) e = go2 es e (pairs_of es) refl (unfold or_none in rw e at u)
leaf-at s i (suc (suc level)) l u = absurd (omega arith)

pub interior-at : (s : List ℕ) (i level : ℕ) → 2 ≤ level → usable (nodes_of (length s)) (tree_at level s i) ≡ true → InteriorAt s i level (level - 1)
unfolding tree_at
interior-at s i zero l u = absurd (omega arith)
interior-at s i (suc zero) l u = absurd (omega arith)
interior-at s i (suc (suc level)) l u =
    let e : suc level ≡ suc (suc level) - 1 = omega arith in
    subst (λ (m : ℕ). InteriorAt s i (suc (suc level)) m) e (go (node_entries 0x0002 (suc (suc level)) (node_bytes s i)) refl)
  where
    go2 : (es : List defined.Entry) → node_entries 0x0002 (suc (suc level)) (node_bytes s i) ≡ some es → (o : Option Inside) → inside_of es ≡ o
        → usable (nodes_of (length s)) (interior_of (λ j. tree_at (suc level) s j) i o) ≡ true → InteriorAt s i (suc (suc level)) (suc level)
    go2 es e none f v = absurd (no-unread (nodes_of (length s)) i (unfold interior_of in v))
    go2 es e (some x) f v =
        record {
          es = es;
          x = x;
          node = node_at s i 0x0002 (suc (suc level)) es (interior-number (nodes_of (length s)) i (forest_of (λ j. tree_at (suc level) s j) x.branches) x.messages (unfold interior_of in v)) e;
          splits = f;
          tree = unfold interior_of or_none in rw (e, f) refl;
          branches = interior-branches (nodes_of (length s)) i (forest_of (λ j. tree_at (suc level) s j) x.branches) x.messages (unfold interior_of in v);
        }

    go : (o : Option (List defined.Entry)) → node_entries 0x0002 (suc (suc level)) (node_bytes s i) ≡ o → InteriorAt s i (suc (suc level)) (suc level)
    go none e = absurd (no-unread (nodes_of (length s)) i (unfold interior_of or_none in rw e at u))
    go (some es) e = go2 es e (inside_of es) refl (unfold or_none in rw e at u)

-- any usable node lies in the store
pub node-inside : (s : List ℕ) (i level : ℕ) → usable (nodes_of (length s)) (tree_at level s i) ≡ true → (i * 1024 + 1024 ≤ length s) × (u16 s (i * 1024) ≤ 1016)
unfolding tree_at
node-inside s i zero u = absurd (no-unread _ i u)
node-inside s i (suc zero) u = let n = (leaf-at s i 1 (omega arith) u).node in (n.inside, n.short)
node-inside s i (suc (suc level)) u = let n = (interior-at s i (suc (suc level)) (omega arith) u).node in (n.inside, n.short)

-- the entries of a leaf and of an interior node
pairs-find : (es : List defined.Entry) (rs : List Row) (rest : List ℕ) → pairs_of es ≡ some rs → find_among es rest ≡ find rest rs
unfolding pairs_of find_among find
pairs-find [] rs rest h = let q : rs ≡ [] = cc in rw q
pairs-find (defined.pair k v ∷ es) rs rest h = go (pairs_of es) refl (pairs-find es)
  where
    go : (o : Option (List Row)) → pairs_of es ≡ o → ((ts : List Row) (r : List ℕ) → pairs_of es ≡ some ts → find_among es r ≡ find r ts) → find_among (defined.pair k v ∷ es) rest ≡ find rest rs
    go none e ih = let q : none ≡ some rs = unfold pair_then in rw e at h in let z : ◌≡◌ {A = ℕ} 0 1 = cc in absurd (omega arith)
    go (some ts) e ih =
        let q : some (record { key = k; value = v } ∷ ts) ≡ some rs = unfold pair_then in rw e at h in
        let p : rs ≡ record { key = k; value = v } ∷ ts = cc in
        rw (p, ih ts rest e)
pairs-find (defined.child i k ∷ es) rs rest h = let q : none ≡ some rs = unfold pair_then in h in let z : ◌≡◌ {A = ℕ} 0 1 = cc in absurd (omega arith)
pairs-find (defined.message m ∷ es) rs rest h = let q : none ≡ some rs = unfold pair_then in h in let z : ◌≡◌ {A = ℕ} 0 1 = cc in absurd (omega arith)

nil-newest : (rest : List ℕ) → newest_among [] rest ≡ newest [] rest
unfolding newest_among newest
nil-newest rest = refl

pub messages-newest : (es : List defined.Entry) (ms : List defined.Message) (rest : List ℕ) → messages_of es ≡ some ms → newest_among es rest ≡ newest ms rest
unfolding messages_of newest_among newest entry_says
messages-newest [] ms rest h = let q : ms ≡ [] = cc in rw q
messages-newest (defined.pair k v ∷ es) ms rest h = let q : none ≡ some ms = h in let z : ◌≡◌ {A = ℕ} 0 1 = cc in absurd (omega arith)
messages-newest (defined.child i k ∷ es) ms rest h = let q : none ≡ some ms = h in let z : ◌≡◌ {A = ℕ} 0 1 = cc in absurd (omega arith)
messages-newest (defined.message m ∷ es) ms rest h = go (messages_of es) refl (messages-newest es)
  where
    go : (o : Option (List defined.Message)) → messages_of es ≡ o → ((ts : List defined.Message) (r : List ℕ) → messages_of es ≡ some ts → newest_among es r ≡ newest ts r)
        → newest_among (defined.message m ∷ es) rest ≡ newest ms rest
    go none e ih = let q : none ≡ some ms = unfold message_then in rw e at h in let z : ◌≡◌ {A = ℕ} 0 1 = cc in absurd (omega arith)
    go (some ts) e ih =
        let q : some (m ∷ ts) ≡ some ms = unfold message_then in rw e at h in
        let p : ms ≡ m ∷ ts = cc in
        rw (p, ih ts rest e)

pub record Splits (es : List defined.Entry) (x : Inside) : Type 0 where
  pub branches : branches_among es ≡ x.branches
  pub newest : (rest : List ℕ) → newest_among es rest ≡ newest x.messages rest

only-messages : (m : defined.Message) (es : List defined.Entry) (x : Inside) → inside_of (defined.message m ∷ es) ≡ some x → Splits (defined.message m ∷ es) x
unfolding inside_of
only-messages m es x h = go (messages_of (defined.message m ∷ es)) refl
  where
    go : (o : Option (List defined.Message)) → messages_of (defined.message m ∷ es) ≡ o → Splits (defined.message m ∷ es) x
    go none e = let q : none ≡ some x = unfold no_branches in rw e at h in let z : ◌≡◌ {A = ℕ} 0 1 = cc in absurd (omega arith)
    go (some ms) e =
        let q : some (record { branches = []; messages = ms }) ≡ some x = unfold no_branches in rw e at h in
        let p : (record { branches = []; messages = ms }) ≡ x = cc in
        subst (Splits (defined.message m ∷ es)) p (record { branches = unfold branches_among in refl; newest = λ rest. messages-newest (defined.message m ∷ es) ms rest e })

pub inside-splits : (es : List defined.Entry) (x : Inside) → inside_of es ≡ some x → Splits es x
unfolding inside_of
inside-splits [] x h =
    let p : (record { branches = []; messages = [] }) ≡ x = cc in
    subst (Splits []) p (record { branches = unfold branches_among in refl; newest = λ rest. nil-newest rest })
inside-splits (defined.pair k v ∷ es) x h = let q : none ≡ some x = h in let z : ◌≡◌ {A = ℕ} 0 1 = cc in absurd (omega arith)
inside-splits (defined.child i k ∷ es) x h = go (inside_of es) refl (inside-splits es)
  where
    go : (o : Option Inside) → inside_of es ≡ o → ((y : Inside) → inside_of es ≡ some y → Splits es y) → Splits (defined.child i k ∷ es) x
    go none e ih = let q : none ≡ some x = unfold branch_then in rw e at h in let z : ◌≡◌ {A = ℕ} 0 1 = cc in absurd (omega arith)
    go (some y) e ih =
        let q : some (record { branches = record { number = i; pivot = k } ∷ y.branches; messages = y.messages }) ≡ some x = unfold branch_then in rw e at h in
        let p : (record { branches = record { number = i; pivot = k } ∷ y.branches; messages = y.messages }) ≡ x = cc in
        subst (Splits (defined.child i k ∷ es)) p
        (record { branches = unfold branches_among in ap (λ l. branch i k ∷ l) (ih y e).branches; newest = λ rest. unfold newest_among entry_says in newer-nothing (newest_among es rest) ∙ (ih y e).newest rest })
inside-splits (defined.message m ∷ es) x h = only-messages m es x h

-- the child that owns the rest answers
unfoldable pub on_range : (ℕ → Tree) → List ℕ → Option Range → Option (List ℕ)
on_range under rest none = none
on_range under rest (some o) = from_here (under o.number) (drop (lifts o.low o.high) o.high) (drop (lifts o.low o.high) rest)

no-range : (under : ℕ → Tree) (rest : List ℕ) → on_range under rest none ≡ none
unfolding on_range
no-range under rest = refl

pub branches-range : (under : ℕ → Tree) (ks : List Branch) (hi rest : List ℕ) → from_branches (forest_of under ks) hi rest ≡ on_range under rest (owner_of ks hi rest)
unfolding from_branches forest_of owner_of on_range
branches-range under [] hi rest = refl
branches-range under (k ∷ ks) hi rest = go (owns k.pivot (branch_high hi ks) rest) refl (branches-range under ks hi rest)
  where
    go : (b : Bool) → owns k.pivot (branch_high hi ks) rest ≡ b → from_branches (forest_of under ks) hi rest ≡ on_range under rest (owner_of ks hi rest)
        → from_branches (forest_of under (k ∷ ks)) hi rest ≡ on_range under rest (owner_of (k ∷ ks) hi rest)
    go true e ih = rw (high-at under hi ks, e)
    go false e ih = rw (high-at under hi ks, e) ih

pub range-owns : (ks : List Branch) (hi rest : List ℕ) (o : Range) → owner_of ks hi rest ≡ some o → owns o.low o.high rest ≡ true
unfolding owner_of
range-owns [] hi rest o h = let q : none ≡ some o = h in let z : ◌≡◌ {A = ℕ} 0 1 = cc in absurd (omega arith)
range-owns (k ∷ ks) hi rest o h = go (owns k.pivot (branch_high hi ks) rest) refl (range-owns ks hi rest o)
  where
    go : (b : Bool) → owns k.pivot (branch_high hi ks) rest ≡ b → (owner_of ks hi rest ≡ some o → owns o.low o.high rest ≡ true) → owns o.low o.high rest ≡ true
    go true e ih =
        let q : some (range k.number k.pivot (branch_high hi ks)) ≡ some o = rw e at h in
        let p : range k.number k.pivot (branch_high hi ks) ≡ o = cc in
        subst (λ (y : Range). owns y.low y.high rest ≡ true) p e
    go false e ih = ih (rw e at h)

pub range-usable : (n : ℕ) (under : ℕ → Tree) (ks : List Branch) (hi rest : List ℕ) (o : Range) → usable_in n (forest_of under ks) ≡ true → owner_of ks hi rest ≡ some o
    → usable n (under o.number) ≡ true
unfolding owner_of forest_of usable_in
range-usable n under [] hi rest o u h = let q : none ≡ some o = h in let z : ◌≡◌ {A = ℕ} 0 1 = cc in absurd (omega arith)
range-usable n under (k ∷ ks) hi rest o u h =
    go (owns k.pivot (branch_high hi ks) rest) refl (range-usable n under ks hi rest o (and_right (usable n (under k.number)) _ u))
  where
    go : (b : Bool) → owns k.pivot (branch_high hi ks) rest ≡ b → (owner_of ks hi rest ≡ some o → usable n (under o.number) ≡ true) → usable n (under o.number) ≡ true
    go true e ih =
        let q : some (range k.number k.pivot (branch_high hi ks)) ≡ some o = rw e at h in
        let p : range k.number k.pivot (branch_high hi ks) ≡ o = cc in
        subst (λ (y : Range). usable n (under y.number) ≡ true) p (and_left (usable n (under k.number)) (usable_in n (forest_of under ks)) u)
    go false e ih = ih (rw e at h)

-- what is lifted is no longer than what is owned, or than the high pivot
pub lifts-rest : (lo hi rest : List ℕ) → owns lo hi rest ≡ true → lifts lo hi ≤ length rest
unfolding lifts
lifts-rest lo hi rest o =
    let e : length (shared lo hi ++ drop (length (shared lo hi)) rest) ≡ length rest = ap length (split lo hi rest o) in
    let f : length (shared lo hi ++ drop (length (shared lo hi)) rest) ≡ length (shared lo hi) + length (drop (length (shared lo hi)) rest) = length-append (shared lo hi) (drop (length (shared lo hi)) rest) in
    omega arith

-- A leaf and an interior node, by what the readers list.
module _ (s : List ℕ) (i level : ℕ) (u : usable (nodes_of (length s)) (tree_at level s i) ≡ true) (hi rest : List ℕ) where
  pub at_leaf : level ≤ 1 → find_among (listing s i) rest ≡ from_here (tree_at level s i) hi rest
  at_leaf l =
      let n = leaf-at s i level l u in
      ap (λ es. find_among es rest) n.node.lists ∙ pairs-find n.es n.rs rest n.pairs ∙ leaf-is n.rs ∙ ap (λ t. from_here t hi rest) (sym n.tree)
    where
      leaf-is : (rs : List Row) → find rest rs ≡ from_here (leaf i rs) hi rest
      leaf-is rs = unfold from_here in refl

  pub at-interior : 2 ≤ level
      → decide (newest_among (listing s i) rest) (on_range (λ j. tree_at (level - 1) s j) rest (owner_of (branches_among (listing s i)) hi rest)) ≡ from_here (tree_at level s i) hi rest
  at-interior l =
      let n = interior-at s i level l u in
      let p = inside-splits n.es n.x n.splits in
      let a : newest_among (listing s i) rest ≡ newest n.x.messages rest = ap (λ es. newest_among es rest) n.node.lists ∙ p.newest rest in
      let b : branches_among (listing s i) ≡ n.x.branches = ap (λ es. branches_among es) n.node.lists ∙ p.branches in
      ap₂ (λ y ks. decide y (on_range (λ j. tree_at (level - 1) s j) rest (owner_of ks hi rest))) a b
      ∙ ap (λ d. decide (newest n.x.messages rest) d) (sym (branches-range (λ j. tree_at (level - 1) s j) n.x.branches hi rest))
      ∙ interior-is (forest_of (λ j. tree_at (level - 1) s j) n.x.branches) n.x.messages
      ∙ ap (λ t. from_here t hi rest) (sym n.tree)
    where
      interior-is : (f : Forest) (ms : List defined.Message) → decide (newest ms rest) (from_branches f hi rest) ≡ from_here (interior i f ms) hi rest
      interior-is f ms = unfold from_here in refl

  pub child-usable : 2 ≤ level → (o : Range) → owner_of (branches_among (listing s i)) hi rest ≡ some o → usable (nodes_of (length s)) (tree_at (level - 1) s o.number) ≡ true
  child-usable l o h =
      let n = interior-at s i level l u in
      let p = inside-splits n.es n.x n.splits in
      let b : branches_among (listing s i) ≡ n.x.branches = ap (λ es. branches_among es) n.node.lists ∙ p.branches in
      range-usable (nodes_of (length s)) (λ j. tree_at (level - 1) s j) n.x.branches hi rest o n.branches (ap (λ ks. owner_of ks hi rest) (sym b) ∙ h)

-- what is left of a list from a place on, as a part is made
pub part-rest : (k : ℕ) (xs : List ℕ) → take (length xs - k) (drop k xs) ≡ drop k xs
part-rest k xs = take_all (length xs - k) (drop k xs) (omega (arith, length-drop k xs))

said-decides : (x : Said) (v d : Option (List ℕ)) → says v ≡ x → v ≡ decide x d
unfolding decide
said-decides x v d h = ap (λ y. decide y d) h

silent-decides : (x : Said) (d : Option (List ℕ)) → nothing ≡ x → d ≡ decide x d
unfolding decide
silent-decides x d h = ap (λ y. decide y d) h

-- The arms of the lookup: es is what the readers list.
module _ (s : List ℕ) (i level : ℕ) (u : usable (nodes_of (length s)) (tree_at level s i) ≡ true) (hi rest : List ℕ) (es : List defined.Entry) (q : es ≡ listing s i) where
  pub look-leaf : level ≤ 1 → (r : Option (List ℕ)) → r ≡ find_among es rest → r ≡ from_here (tree_at level s i) hi rest
  look-leaf l r h = h ∙ ap (λ l. find_among l rest) q ∙ at_leaf s i level u hi rest l

  module _ (two : 2 ≤ level) where
    whole : decide (newest_among es rest) (on_range (λ j. tree_at (level - 1) s j) rest (owner_of (branches_among es) hi rest)) ≡ from_here (tree_at level s i) hi rest
    whole = ap (λ l. decide (newest_among l rest) (on_range (λ j. tree_at (level - 1) s j) rest (owner_of (branches_among l) hi rest))) q ∙ at-interior s i level u hi rest two

    pub look-said : (v : Option (List ℕ)) → says v ≡ newest_among es rest → v ≡ from_here (tree_at level s i) hi rest
    look-said v h = said-decides (newest_among es rest) v _ h ∙ whole

    -- the owner among the children ks of the entries
    module _ (ks : List Branch) (high : List ℕ) (among : ks ≡ branches_among es) (ends : high ≡ hi) (x : Option Range) (found : x ≡ owner_of ks high rest) where
      owner-here : x ≡ owner_of (branches_among es) hi rest
      owner-here = found ∙ ap₂ (λ l h. owner_of l h rest) among ends

      below : nothing ≡ newest_among es rest → on_range (λ j. tree_at (level - 1) s j) rest x ≡ from_here (tree_at level s i) hi rest
      below h = ap (λ o. on_range (λ j. tree_at (level - 1) s j) rest o) owner-here ∙ silent-decides (newest_among es rest) _ h ∙ whole

      pub look-nobody : nothing ≡ newest_among es rest → x ≡ none → none ≡ from_here (tree_at level s i) hi rest
      look-nobody h e = sym (no-range (λ j. tree_at (level - 1) s j) rest) ∙ ap (λ o. on_range (λ j. tree_at (level - 1) s j) rest o) (sym e) ∙ below h

      module _ (o : Range) (e : x ≡ some o) where
        pub owner-usable : usable (nodes_of (length s)) (tree_at (level - 1) s o.number) ≡ true
        owner-usable = child-usable s i level u hi rest two o (ap (λ l. owner_of (branches_among l) hi rest) (sym q) ∙ sym owner-here ∙ e)

        module _ (k : ℕ) (ek : k ≡ length (shared o.low o.high)) where
          pub owner-short : k ≤ length rest
          owner-short =
              let l : k ≡ lifts o.low o.high = unfold lifts in ek in
              let h : lifts o.low o.high ≤ length rest = lifts-rest o.low o.high rest (range-owns ks high rest o (sym found ∙ e)) in
              omega arith

          pub look-owner : nothing ≡ newest_among es rest → (r : Option (List ℕ))
              → r ≡ from_here (tree_at (level - 1) s o.number) (take (length o.high - k) (drop k o.high)) (take (length rest - k) (drop k rest))
              → r ≡ from_here (tree_at level s i) hi rest
          look-owner h r f =
              let b : from_here (tree_at (level - 1) s o.number) (drop (lifts o.low o.high) o.high) (drop (lifts o.low o.high) rest) ≡ from_here (tree_at level s i) hi rest
              = unfold on_range in rw e at below h in
              let l : k ≡ lifts o.low o.high = unfold lifts in ek in
              let c : from_here (tree_at (level - 1) s o.number) (drop k o.high) (drop k rest) ≡ from_here (tree_at level s i) hi rest = rw (← l) at b in
              f ∙ ap₂ (λ a z. from_here (tree_at (level - 1) s o.number) a z) (part-rest k o.high) (part-rest k rest) ∙ c

-- the children of a node that can be read
pub branches-usable : (s : List ℕ) (i level : ℕ) → usable (nodes_of (length s)) (tree_at level s i) ≡ true → 2 ≤ level
    → usable_in (nodes_of (length s)) (forest_of (λ j. tree_at (level - 1) s j) (branches_among (listing s i))) ≡ true
branches-usable s i level u l =
    let n = interior-at s i level l u in
    let p = inside-splits n.es n.x n.splits in
    let b : branches_among (listing s i) ≡ n.x.branches = ap (λ es. branches_among es) n.node.lists ∙ p.branches in
    ap (λ ks. usable_in (nodes_of (length s)) (forest_of (λ j. tree_at (level - 1) s j) ks)) b ∙ n.branches
