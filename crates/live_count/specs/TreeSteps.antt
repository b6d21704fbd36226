-- The tree stays sound on the way down, so that the keys of a leaf are its own, and notes that tell of a node tell of its children.
-- Relies on the definitions of Noted and on the laws of sound trees (laws: LookupTable, Filter, Reading's Relative).
use Rattle.std.specs.Prelude.{ℕ, ◌-◌, ◌≤◌, ◌≡◌, refl, List, [], ◌∷◌, ◌++◌, Bool, true, false, ◌&&◌, length, drop}
use Rattle.image.specs.Prelude.{sym, ap, ap₂, ◌∙◌, append_assoc, false≢true, Option, none, some, arith}
use Rattle.image.specs.Bytes.{shared}
use Rattle.image.specs.Path.{well_formed, owns}
use Rattle.image.specs.Entry as defined
use Rattle.image.specs.Table.{Row, every_key, under_prefix}
use Rattle.image.specs.Image.{Tree, leaf, interior, Forest, tree, Branch, nodes_of, pair_then, pairs_of, forest_of, tree_at}
use Rattle.image.specs.Meaning.{high_of}
use Rattle.image.specs.Sound.{sound_tree, sound_forest}
use Rattle.octets.specs.Beginnings.{shared-left, shared-right}
use Rattle.octets.specs.Order.{and_left, and_right, shared-append, begins-split}
use Rattle.laws.specs.Rising.{both}
use Rattle.laws.specs.LookupTable.{parts, inner, inside-not, not_low, high-under}
use Rattle.laws.specs.Filter.{leaf-rowed}
use Rattle.laws.specs.Reading.Relative.{usable, branch_high, high-joined}
use Rattle.node.specs.Lent.{left_of}
use Rattle.node.specs.declared.entries.Entries.{Entries}
use Rattle.node.specs.Search.Own.{branch, branches_among}
use Rattle.lookup.specs.Look.{listing, leaf-at, interior-at, inside-splits}
use Rattle.live_count.specs.Live.{short}
use Rattle.live_count.specs.NotedSteps.{owns-under}
use Rattle.live_count.specs.Noted.{keyed, Tells, Standing, Entered, LeafTold, SoundNode, SoundBranches}
use Rattle.live_count.specs.declared.position.Position.{Position}

-- a child's range lies in its node's
child-within : (s : List ℕ) (t : Tree) (f : Forest) (lifted lo hi : List ℕ) → sound_forest (tree s t f) lifted lo hi ≡ true
    → (q : List ℕ) → owns (lifted ++ s) (high_of lifted hi f) q ≡ true → owns lo hi q ≡ true
child-within s t f lifted lo hi e q o = go (owns lo hi q) refl
  where
    go : (b : Bool) → owns lo hi q ≡ b → owns lo hi q ≡ true
    go true x = x
    go false x =
        let p = parts s t f lifted lo hi e in
        let z = inside-not lo hi (lifted ++ s) (high_of lifted hi f) q (not_low lo hi (lifted ++ s) p.owned) (high-under f lifted lo hi q p.later) x in
        absurd (false≢true (sym z ∙ o))

split-first : (prefix lo hi k v : List ℕ) (ts : List Row) → every_key (owns (prefix ++ lo) (prefix ++ hi)) (under_prefix prefix (record { key = k; value = v } ∷ ts)) ≡ true
    → every_key well_formed (under_prefix prefix (record { key = k; value = v } ∷ ts)) ≡ true
    → (owns lo hi k ≡ true) × (short (prefix ++ k) ≡ true) × (every_key (owns (prefix ++ lo) (prefix ++ hi)) (under_prefix prefix ts) ≡ true) × (every_key well_formed (under_prefix prefix ts) ≡ true)
unfolding every_key under_prefix well_formed short
split-first prefix lo hi k v ts o f =
    (sym (owns-under prefix lo hi k) ∙ and_left _ _ o, and_left _ _ (and_left _ _ f), and_right (owns (prefix ++ lo) (prefix ++ hi) (prefix ++ k)) _ o, and_right (well_formed (prefix ++ k)) _ f)

pairs-keyed : (prefix lo hi : List ℕ) (es : List defined.Entry) (rs : List Row) → pairs_of es ≡ some rs → every_key (owns (prefix ++ lo) (prefix ++ hi)) (under_prefix prefix rs) ≡ true
    → every_key well_formed (under_prefix prefix rs) ≡ true → keyed prefix lo hi es ≡ true
unfolding pairs_of keyed
pairs-keyed prefix lo hi [] rs h o f = refl
pairs-keyed prefix lo hi (defined.pair k v ∷ es) rs h o f = go (pairs_of es) refl (pairs-keyed prefix lo hi es)
  where
    go : (x : Option (List Row)) → pairs_of es ≡ x
        → ((ts : List Row) → pairs_of es ≡ some ts → every_key (owns (prefix ++ lo) (prefix ++ hi)) (under_prefix prefix ts) ≡ true → every_key well_formed (under_prefix prefix ts) ≡ true → keyed prefix lo hi es ≡ true)
        → owns lo hi k && short (prefix ++ k) && keyed prefix lo hi es ≡ true
    go none e ih = let q : none ≡ some rs = unfold pair_then in rw e at h in let z : ◌≡◌ {A = ℕ} 0 1 = cc in absurd (omega arith)
    go (some ts) e ih =
        let q : some (record { key = k; value = v } ∷ ts) ≡ some rs = unfold pair_then in rw e at h in
        let p : rs ≡ record { key = k; value = v } ∷ ts = cc in
        let a = first-key p in
        both (both a.0 a.1) (ih ts e a.2 a.3)
      where
        first-key : rs ≡ record { key = k; value = v } ∷ ts
            → (owns lo hi k ≡ true) × (short (prefix ++ k) ≡ true) × (every_key (owns (prefix ++ lo) (prefix ++ hi)) (under_prefix prefix ts) ≡ true) × (every_key well_formed (under_prefix prefix ts) ≡ true)
        first-key p = split-first prefix lo hi k v ts (rw p at o) (rw p at f)
pairs-keyed prefix lo hi (defined.child i k ∷ es) rs h o f = let q : none ≡ some rs = unfold pair_then in h in let z : ◌≡◌ {A = ℕ} 0 1 = cc in absurd (omega arith)
pairs-keyed prefix lo hi (defined.message m ∷ es) rs h o f = let q : none ≡ some rs = unfold pair_then in h in let z : ◌≡◌ {A = ℕ} 0 1 = cc in absurd (omega arith)

-- the pivots in full, and what the node lifts of them
module _ (above : Position) (lo hi : List ℕ) (k : ℕ) (here : Position) (st : Standing above lo hi k here) where
  lifted-is : shared (above.prefix ++ lo) (above.prefix ++ hi) ≡ here.prefix
  lifted-is = shared-append above.prefix lo hi ∙ sym st.prefix

  low_is : above.prefix ++ lo ≡ here.prefix ++ drop k lo
  low_is =
      let a : shared lo hi ++ drop k lo ≡ lo = ap (λ n. shared lo hi ++ drop n lo) st.lifts ∙ begins-split (shared lo hi) lo (shared-left lo hi) in
      ap (λ l. above.prefix ++ l) (sym a) ∙ sym (append_assoc above.prefix (shared lo hi) (drop k lo)) ∙ ap (λ l. l ++ drop k lo) (sym st.prefix)

  high_is : above.prefix ++ hi ≡ here.prefix ++ drop k hi
  high_is =
      let a : shared lo hi ++ drop k hi ≡ hi = ap (λ n. shared lo hi ++ drop n hi) st.lifts ∙ begins-split (shared lo hi) hi (shared-right lo hi) in
      ap (λ l. above.prefix ++ l) (sym a) ∙ sym (append_assoc above.prefix (shared lo hi) (drop k hi)) ∙ ap (λ l. l ++ drop k hi) (sym st.prefix)

  module _ (s : List ℕ) (level num : ℕ) (u : usable (nodes_of (length s)) (tree_at level s num) ≡ true) (e : SoundNode s level num above.prefix lo hi)
      (it : Entries) (el : left_of it ≡ listing s num) where
    -- the keys of a leaf are its own
    leaf-keyed : level ≤ 1 → keyed here.prefix (drop k lo) (drop k hi) (left_of it) ≡ true
    leaf-keyed l =
        let n = leaf-at s num level l u in
        let a : sound_tree (leaf num n.rs) (above.prefix ++ lo) (above.prefix ++ hi) ≡ true = ap (λ t. sound_tree t (above.prefix ++ lo) (above.prefix ++ hi)) (sym n.tree) ∙ e in
        let r = leaf-rowed num n.rs (above.prefix ++ lo) (above.prefix ++ hi) a in
        let o : every_key (owns (here.prefix ++ drop k lo) (here.prefix ++ drop k hi)) (under_prefix here.prefix n.rs) ≡ true
        = ap₂ (λ x y. every_key (owns x y) (under_prefix here.prefix n.rs)) (sym low_is) (sym high_is)
        ∙ ap (λ x. every_key (owns (above.prefix ++ lo) (above.prefix ++ hi)) (under_prefix x n.rs)) (sym lifted-is) ∙ r.owned in
        let f : every_key well_formed (under_prefix here.prefix n.rs) ≡ true = ap (λ x. every_key well_formed (under_prefix x n.rs)) (sym lifted-is) ∙ r.formed in
        ap (λ es. keyed here.prefix (drop k lo) (drop k hi) es) (el ∙ n.node.lists)
        ∙ pairs-keyed here.prefix (drop k lo) (drop k hi) n.es n.rs n.pairs o f

    pub leaf-told : level ≤ 1 → LeafTold here (left_of it)
    leaf-told l = record { lo = drop k lo; hi = drop k hi; keys = leaf-keyed l; tells = st.tells }

    -- the children of an interior node
    pub branches_sound : 2 ≤ level → (below : Position) (a b h : List ℕ) → a ≡ drop k lo → b ≡ drop k hi → Entered (left_of it) a b here below
        → (ks : List Branch) → ks ≡ branches_among (left_of it) → h ≡ b → SoundBranches s (level - 1) ks h below
    branches_sound l below x y h ex ey en ks eb eh =
        let n = interior-at s num level l u in
        let q = inside-splits n.es n.x n.splits in
        let a : sound_tree (interior num (forest_of (λ j. tree_at (level - 1) s j) n.x.branches) n.x.messages) (above.prefix ++ lo) (above.prefix ++ hi) ≡ true
        = ap (λ t. sound_tree t (above.prefix ++ lo) (above.prefix ++ hi)) (sym n.tree) ∙ e in
        let b = inner num (forest_of (λ j. tree_at (level - 1) s j) n.x.branches) n.x.messages (above.prefix ++ lo) (above.prefix ++ hi) a in
        let c : ks ≡ n.x.branches = eb ∙ ap branches_among (el ∙ n.node.lists) ∙ q.branches in
        let d : sound_forest (forest_of (λ j. tree_at (level - 1) s j) ks) here.prefix (here.prefix ++ drop k lo) (here.prefix ++ drop k hi) ≡ true
        = ap (λ zs. sound_forest (forest_of (λ j. tree_at (level - 1) s j) zs) here.prefix (here.prefix ++ drop k lo) (here.prefix ++ drop k hi)) c
        ∙ ap₂ (λ v w. sound_forest (forest_of (λ j. tree_at (level - 1) s j) n.x.branches) here.prefix v w) (sym low_is) (sym high_is)
        ∙ ap (λ v. sound_forest (forest_of (λ j. tree_at (level - 1) s j) n.x.branches) v (above.prefix ++ lo) (above.prefix ++ hi)) (sym lifted-is)
        ∙ b.branches in
        record {
          low = drop k lo;
          sound =
              ap (λ p. sound_forest (forest_of (λ j. tree_at (level - 1) s j) ks) p (p ++ drop k lo) (p ++ h)) en.prefix
              ∙ ap (λ v. sound_forest (forest_of (λ j. tree_at (level - 1) s j) ks) here.prefix (here.prefix ++ drop k lo) (here.prefix ++ v)) (eh ∙ ey) ∙ d;
          tells = λ some r o. en.tells (λ f r o. st.tells f r (ap₂ (λ v w. owns v w r) (sym ex) (sym ey) ∙ o)) some r (ap₂ (λ v w. owns v w r) ex (sym eh) ∙ o);
        }

-- the child in front, and those after it
module _ (s : List ℕ) (level num : ℕ) (low : List ℕ) (us ks : List Branch) (hi : List ℕ) (p : Position) (h : SoundBranches s level ks hi p) (q : ks ≡ branch num low ∷ us) where
  abbrev At : ℕ → Tree
  At j = tree_at level s j

  forest : sound_forest (forest_of At (branch num low ∷ us)) p.prefix (p.prefix ++ h.low) (p.prefix ++ hi) ≡ true
  forest = ap (λ xs. sound_forest (forest_of At xs) p.prefix (p.prefix ++ h.low) (p.prefix ++ hi)) (sym q) ∙ h.sound

  module _ (b : List ℕ) (eb : b ≡ branch_high hi us) where
    high-is : high_of p.prefix (p.prefix ++ hi) (forest_of At us) ≡ p.prefix ++ b
    high-is = high-joined At p.prefix hi us ∙ ap (λ x. p.prefix ++ x) (sym eb)

    pub child-sound : SoundNode s level num p.prefix low b
    unfolding forest_of
    child-sound =
        ap (λ x. sound_tree (tree_at level s num) (p.prefix ++ low) x) (sym high-is)
        ∙ (parts low (tree_at level s num) (forest_of At us) p.prefix (p.prefix ++ h.low) (p.prefix ++ hi) forest).first

    pub child-told : Tells p low b
    unfolding forest_of
    child-told = λ some k o. h.tells some k (mine k o)
      where
        mine : (k : List ℕ) → owns low b k ≡ true → owns h.low hi k ≡ true
        mine k o =
            sym (owns-under p.prefix h.low hi k)
            ∙ child-within low (At num) (forest_of At us) p.prefix (p.prefix ++ h.low) (p.prefix ++ hi) forest (p.prefix ++ k)
            (ap (λ x. owns (p.prefix ++ low) x (p.prefix ++ k)) high-is ∙ owns-under p.prefix low b k ∙ o)

  pub later-sound : SoundBranches s level us hi p
  unfolding forest_of
  later-sound = record { low = h.low; sound = (parts low (tree_at level s num) (forest_of At us) p.prefix (p.prefix ++ h.low) (p.prefix ++ hi) forest).later; tells = h.tells }
