-- The tree of a sound, settled image is of the level that node 0 gives, holds no message, and each of its nodes fits.
use Rattle.std.specs.Prelude.{ℕ, zero, suc, ◌+◌, ◌-◌, ◌≤◌, ◌≡◌, refl, List, [], ◌∷◌, ◌++◌, Bool, true, false, ◌&&◌, cond, length, take, drop, leb, eqb}
use Rattle.image.specs.Prelude.{sym, ap, ◌∙◌, false≢true, Option, none, some, Option·some-injective, Option·none-ne-some, arith, length-append, length-drop, length-take, le-leb, leb-true, cases}
use Rattle.image.specs.Bytes.{u16, shared}
use Rattle.octets.specs.Order.{and_left, and_right}
use Rattle.laws.specs.Rising.{both}
use Rattle.image.specs.Entry.{Message, puts, drops, clears, Entry, pair, child, message, keyed, pointer, entry_of, entry_then, read_all, entries_of}
use Rattle.image.specs.Table.{Row}
use Rattle.image.specs.Image.{Tree, unread, Branch, Inside, node_bytes, laid_out, entry_bytes, node_entries, pair_then, pairs_of, messages_of, no_branches, branch_then, inside_of, forest_of, leaf_of, interior_of, or_none, tree_at, header_of, tree_of}
use Rattle.image.specs.Meaning.{high_of}
use Rattle.image.specs.Sound.{sound_tree, sound_forest, sound, lowest, highest}
use Rattle.laws.specs.LookupTable.{Parts, parts, inner}
use Rattle.image.specs.Upkeep.{reachable_nodes, settled}
use Rattle.laws.specs.Encode.{rest_of, allowed, all_allowed}
use Rattle.laws.specs.LiveCount.{quiet-still}
use Rattle.laws.specs.Pieces.{levelled, levelled_in, Good}
use Rattle.slice.specs.Slicing.SliceFits.{pairs_size, branches_size, short_in, fits, fits_in}
use Rattle.laws.specs.ButLive.{sound-parts}

-- level
leaf-level : (i : ℕ) (o : Option (List Row)) (lo hi : List ℕ) → sound_tree (leaf_of i o) lo hi ≡ true → levelled (leaf_of i o) 1 ≡ true
unfolding leaf_of sound_tree levelled
leaf-level i none lo hi e = absurd (false≢true e)
leaf-level i (some rs) lo hi e = refl

forest-level : (u : ℕ → Tree) (h : ℕ) → ((j : ℕ) (lo hi : List ℕ) → sound_tree (u j) lo hi ≡ true → levelled (u j) h ≡ true)
    → (ks : List Branch) (lifted lo hi : List ℕ) → sound_forest (forest_of u ks) lifted lo hi ≡ true → levelled_in (forest_of u ks) h ≡ true
unfolding forest_of levelled_in
forest-level u h g [] lifted lo hi e = refl
forest-level u h g (k ∷ ks) lifted lo hi e =
    let p : Parts k.pivot (u k.number) (forest_of u ks) lifted lo hi = parts k.pivot (u k.number) (forest_of u ks) lifted lo hi e in
    both (g k.number (lifted ++ k.pivot) (high_of lifted hi (forest_of u ks)) p.first) (forest-level u h g ks lifted lo hi p.later)

inner-level : (u : ℕ → Tree) (h i : ℕ) → ((j : ℕ) (lo hi : List ℕ) → sound_tree (u j) lo hi ≡ true → levelled (u j) h ≡ true)
    → (o : Option Inside) (lo hi : List ℕ) → sound_tree (interior_of u i o) lo hi ≡ true → levelled (interior_of u i o) (suc h) ≡ true
unfolding interior_of levelled
inner-level u h i g none lo hi e = absurd (not-read i lo hi e)
  where
    not-read : (i : ℕ) (lo hi : List ℕ) → sound_tree (unread i) lo hi ≡ true → ⊥
    not-read i lo hi e = false≢true (unfold sound_tree in e)
inner-level u h i g (some x) lo hi e =
    forest-level u h g x.branches (shared lo hi) lo hi (inner i (forest_of u x.branches) x.messages lo hi e).branches

pub read-level : (l : ℕ) (image : List ℕ) (i : ℕ) (lo hi : List ℕ) → sound_tree (tree_at l image i) lo hi ≡ true → levelled (tree_at l image i) l ≡ true
unfolding tree_at sound_tree
read-level zero image i lo hi e = absurd (false≢true e)
read-level (suc zero) image i lo hi e = leaf-level i (or_none pairs_of (node_entries 0x0001 1 (node_bytes image i))) lo hi e
read-level (suc (suc l)) image i lo hi e =
    inner-level (λ j. tree_at (suc l) image j) (suc l) i (λ j a b h. read-level (suc l) image j a b h)
    (or_none inside_of (node_entries 0x0002 (suc (suc l)) (node_bytes image i))) lo hi e

-- sizes: an entry that is read has the bytes that it was read from
if_some : {A : Type 0} (b : Bool) (x y : A) → cond b (some x) none ≡ some y → (b ≡ true) × (x ≡ y)
if_some true x y e = (refl, Option·some-injective x y e)
if_some false x y e = absurd (Option·none-ne-some y e)

record Sized (e : Entry) (r : List ℕ) : Type 0 where
  bytes : length (rest_of e) ≡ length r
  fine : allowed e ≡ true

halves : (n : ℕ) (r : List ℕ) → 2 ≤ length r → suc (suc (length (take n (drop 2 r) ++ drop n (drop 2 r)))) ≡ length r
halves n r h = rw (length-append (take n (drop 2 r)) (drop n (drop 2 r)), length-take n (drop 2 r), length-drop n (drop 2 r), length-drop 2 r) (omega arith)

keyed-sized : (make : List ℕ → List ℕ → Entry) (r : List ℕ) (e : Entry) → ((s v : List ℕ) → length (rest_of (make s v)) ≡ suc (suc (length (s ++ v))))
    → ((s v : List ℕ) → allowed (make s v) ≡ true) → keyed make r ≡ some e → Sized e r
unfolding keyed
keyed-sized make r e a b h =
    let n : ℕ = u16 r 0 in
    let x : Entry = make (take n (drop 2 r)) (drop n (drop 2 r)) in
    let q : (leb 2 (length r) && leb n (length r - 2) ≡ true) × (x ≡ e) = if_some (leb 2 (length r) && leb n (length r - 2)) x e h in
    record {
      bytes = ap (λ z. length (rest_of z)) (sym q.1) ∙ a (take n (drop 2 r)) (drop n (drop 2 r)) ∙ halves n r (leb-true 2 (length r) (and_left _ _ q.0));
      fine = ap allowed (sym q.1) ∙ b (take n (drop 2 r)) (drop n (drop 2 r));
    }

pointer-sized : (r : List ℕ) (e : Entry) → pointer r ≡ some e → Sized e r
unfolding pointer rest_of allowed
pointer-sized r e h =
    let x : Entry = child (u16 r 0) (drop 2 r) in
    let q : (leb 2 (length r) && leb (length r - 2) 65 ≡ true) × (x ≡ e) = if_some (leb 2 (length r) && leb (length r - 2) 65) x e h in
    let l : 2 ≤ length r = leb-true 2 (length r) (and_left _ _ q.0) in
    let z : length (drop 2 r) ≡ length r - 2 = length-drop 2 r in
    record {
      bytes = ap (λ y. length (rest_of y)) (sym q.1) ∙ (omega arith);
      fine = ap allowed (sym q.1) ∙ ap (λ m. leb m 65) z ∙ and_right (leb 2 (length r)) _ q.0;
    }

entry-sized : (kind : ℕ) (r : List ℕ) (e : Entry) → entry_of kind r ≡ some e → Sized e r
unfolding entry_of rest_of allowed
entry-sized kind r e h = go (eqb kind 0x0001) (eqb kind 0x0010) (eqb kind 0x0020) (eqb kind 0x0021) (eqb kind 0x0022) h
  where
    go : (a b c d f : Bool)
        → cond a (keyed pair r) (cond b (pointer r) (cond c (keyed (λ s v. message (puts s v)) r) (cond d (some (message (drops r))) (cond f (some (message (clears r))) none)))) ≡ some e
        → Sized e r
    go true b c d f q = keyed-sized pair r e (λ s v. refl) (λ s v. refl) q
    go false true c d f q = pointer-sized r e q
    go false false true d f q = keyed-sized (λ s v. message (puts s v)) r e (λ s v. refl) (λ s v. refl) q
    go false false false true f q =
        let z : message (drops r) ≡ e = Option·some-injective (message (drops r)) e q in
        record { bytes = ap (λ y. length (rest_of y)) (sym z); fine = ap allowed (sym z) }
    go false false false false true q =
        let z : message (clears r) ≡ e = Option·some-injective (message (clears r)) e q in
        record { bytes = ap (λ y. length (rest_of y)) (sym z); fine = ap allowed (sym z) }
    go false false false false false q = absurd (Option·none-ne-some e q)

unfoldable sizes : List Entry → ℕ
sizes [] = 0
sizes (e ∷ es) = 4 + length (rest_of e) + sizes es

then_some : (a : Option Entry) (b : Option (List Entry)) (es : List Entry) → entry_then a b ≡ some es
    → (e : Entry) × ((t : List Entry) × ((a ≡ some e) × ((b ≡ some t) × (es ≡ e ∷ t))))
unfolding entry_then
then_some none b es h = absurd (Option·none-ne-some es h)
then_some (some e) none es h = absurd (Option·none-ne-some es h)
then_some (some e) (some t) es h = (e, (t, (refl, (refl, sym (Option·some-injective (e ∷ t) es h)))))

step-sized : (S : List ℕ) (n kind : ℕ) (b : Option (List Entry)) (es : List Entry) → 4 ≤ length S → n ≤ length S - 4
    → ((t : List Entry) → b ≡ some t → (sizes t ≡ length (drop n (drop 4 S))) × (all_allowed t ≡ true))
    → entry_then (entry_of kind (take n (drop 4 S))) b ≡ some es → (sizes es ≡ length S) × (all_allowed es ≡ true)
unfolding sizes all_allowed
step-sized S n kind b es l m ih h =
    let w : (e : Entry) × ((t : List Entry) × ((entry_of kind (take n (drop 4 S)) ≡ some e) × ((b ≡ some t) × (es ≡ e ∷ t)))) =
    then_some (entry_of kind (take n (drop 4 S))) b es h in
    let e : Entry = w.0 in
    let t : List Entry = w.1.0 in
    let z : Sized e (take n (drop 4 S)) = entry-sized kind (take n (drop 4 S)) e w.1.1.0 in
    let i : (sizes t ≡ length (drop n (drop 4 S))) × (all_allowed t ≡ true) = ih t w.1.1.1.0 in
    let x : length (rest_of e) ≡ length (take n (drop 4 S)) = z.bytes in (
      ap sizes w.1.1.1.1 ∙ (omega (arith, i.0, length-take n (drop 4 S), length-drop n (drop 4 S), length-drop 4 S)),
      ap all_allowed w.1.1.1.1 ∙ both z.fine i.1,
    )

all-sized : (more : ℕ) (s : List ℕ) (es : List Entry) → read_all more s ≡ some es → (sizes es ≡ length s) × (all_allowed es ≡ true)
unfolding read_all sizes all_allowed
all-sized zero [] es h = rw (← Option·some-injective [] es h) (refl, refl)
all-sized zero (b ∷ s) es h = absurd (Option·none-ne-some es h)
all-sized (suc more) [] es h = rw (← Option·some-injective [] es h) (refl, refl)
all-sized (suc more) (b ∷ s) es h =
    cases (leb 4 (length (b ∷ s)) && leb (u16 (b ∷ s) 0) (length (b ∷ s) - 4))
    (λ q. step-sized (b ∷ s) (u16 (b ∷ s) 0) (u16 (b ∷ s) 2) (read_all more (drop (u16 (b ∷ s) 0) (drop 4 (b ∷ s)))) es
    (leb-true 4 (length (b ∷ s)) (and_left _ _ q)) (leb-true (u16 (b ∷ s) 0) (length (b ∷ s) - 4) (and_right (leb 4 (length (b ∷ s))) _ q))
    (λ t. all-sized more (drop (u16 (b ∷ s) 0) (drop 4 (b ∷ s))) t) (rw q at h))
    (λ q. absurd (Option·none-ne-some es (rw q at h)))

-- the entries of a node that is laid out
node-sized : (kind level : ℕ) (node : List ℕ) (es : List Entry) → node_entries kind level node ≡ some es → (sizes es ≤ 1016) × (all_allowed es ≡ true)
unfolding node_entries laid_out entries_of entry_bytes
node-sized kind level node es h = go (laid_out kind level node) refl
  where
    go : (x : Bool) → laid_out kind level node ≡ x → (sizes es ≤ 1016) × (all_allowed es ≡ true)
    go true q =
        let n : ℕ = u16 node 0 in
        let room : n ≤ 1016 = leb-true n 1016 (and_left _ _ (and_left _ _ (and_left _ _ (and_left _ _ q)))) in
        let z : (sizes es ≡ length (take n (drop 8 node))) × (all_allowed es ≡ true) = all-sized (length (take n (drop 8 node))) (take n (drop 8 node)) es (rw q at h) in
        (omega (arith, z.0, length-take n (drop 8 node)), z.1)
    go false q = absurd (Option·none-ne-some es (rw q at h))

pairs-then : (e : Entry) (o : Option (List Row)) (rs : List Row) → pair_then e o ≡ some rs
    → (s : List ℕ) × ((v : List ℕ) × ((t : List Row) × ((e ≡ pair s v) × ((o ≡ some t) × (rs ≡ record { key = s; value = v } ∷ t)))))
unfolding pair_then
pairs-then (pair s v) none rs h = absurd (Option·none-ne-some rs h)
pairs-then (pair s v) (some t) rs h = (s, (v, (t, (refl, (refl, sym (Option·some-injective (record { key = s; value = v } ∷ t) rs h))))))
pairs-then (child i s) o rs h = absurd (Option·none-ne-some rs h)
pairs-then (message m) o rs h = absurd (Option·none-ne-some rs h)

pairs-sized : (es : List Entry) (rs : List Row) → pairs_of es ≡ some rs → pairs_size rs ≡ sizes es
unfolding pairs_of pairs_size sizes rest_of
pairs-sized [] rs h = rw (← Option·some-injective [] rs h)
pairs-sized (e ∷ es) rs h =
    let w : (s : List ℕ) × ((v : List ℕ) × ((t : List Row) × ((e ≡ pair s v) × ((pairs_of es ≡ some t) × (rs ≡ record { key = s; value = v } ∷ t))))) =
    pairs-then e (pairs_of es) rs h in
    let s : List ℕ = w.0 in
    let v : List ℕ = w.1.0 in
    let t : List Row = w.1.1.0 in
    let x : length (rest_of e) ≡ suc (suc (length (s ++ v))) = ap (λ y. length (rest_of y)) w.1.1.1.0 in
    ap pairs_size w.1.1.1.1.1 ∙ (omega (arith, pairs-sized es t w.1.1.1.1.0, length-append s v))

branch-then : (k : Branch) (o : Option Inside) (x : Inside) → branch_then k o ≡ some x → (y : Inside) × ((o ≡ some y) × (x.branches ≡ k ∷ y.branches))
unfolding branch_then
branch-then k none x h = absurd (Option·none-ne-some x h)
branch-then k (some y) x h =
    (y, (refl, ap (λ z. z.branches) (sym (Option·some-injective (record { branches = k ∷ y.branches; messages = y.messages }) x h))))

no-branches : (o : Option (List Message)) (x : Inside) → no_branches o ≡ some x → x.branches ≡ []
unfolding no_branches
no-branches none x h = absurd (Option·none-ne-some x h)
no-branches (some ms) x h = ap (λ z. z.branches) (sym (Option·some-injective (record { branches = []; messages = ms }) x h))

none-sized : (u : ℕ → Tree) (ks : List Branch) (n : ℕ) → ks ≡ [] → (branches_size (forest_of u ks) ≤ n) × (short_in (forest_of u ks) ≡ true)
unfolding forest_of branches_size short_in
none-sized u ks n e = rw e (omega arith, refl)

branches-sized : (u : ℕ → Tree) (es : List Entry) (x : Inside) → inside_of es ≡ some x → all_allowed es ≡ true
    → (branches_size (forest_of u x.branches) ≤ sizes es) × (short_in (forest_of u x.branches) ≡ true)
unfolding inside_of all_allowed
branches-sized u [] x h a = none-sized u x.branches (sizes []) (ap (λ z. z.branches) (sym (Option·some-injective (record { branches = []; messages = [] }) x h)))
branches-sized u (pair s v ∷ es) x h a = absurd (Option·none-ne-some x h)
branches-sized u (message m ∷ es) x h a = none-sized u x.branches (sizes (message m ∷ es)) (no-branches (messages_of (message m ∷ es)) x h)
branches-sized u (child i s ∷ es) x h a =
    let k : Branch = record { number = i; pivot = s } in
    let w : (y : Inside) × ((inside_of es ≡ some y) × (x.branches ≡ k ∷ y.branches)) = branch-then k (inside_of es) x h in
    first-sized u i s es x.branches w.0.branches w.1.1 (and_left _ _ a) (branches-sized u es w.0 w.1.0 (and_right (allowed (child i s)) _ a))
  where
    first-sized : (u : ℕ → Tree) (i : ℕ) (s : List ℕ) (es : List Entry) (ks ks' : List Branch) → ks ≡ record { number = i; pivot = s } ∷ ks' → allowed (child i s) ≡ true
        → (branches_size (forest_of u ks') ≤ sizes es) × (short_in (forest_of u ks') ≡ true)
        → (branches_size (forest_of u ks) ≤ sizes (child i s ∷ es)) × (short_in (forest_of u ks) ≡ true)
    first-sized u i s es ks ks' e b ih =
        rw e (unfold forest_of branches_size sizes rest_of in (omega (arith, ih.0)), unfold forest_of short_in allowed in both b ih.1)

forest-fits : (u : ℕ → Tree) → ((j : ℕ) → fits (u j) ≡ true) → (ks : List Branch) → fits_in (forest_of u ks) ≡ true
unfolding forest_of fits_in
forest-fits u g [] = refl
forest-fits u g (k ∷ ks) = both (g k.number) (forest-fits u g ks)

leaf_room : (i : ℕ) (o : Option (List Entry)) → ((es : List Entry) → o ≡ some es → sizes es ≤ 1016) → fits (leaf_of i (or_none pairs_of o)) ≡ true
unfolding or_none leaf_of fits
leaf_room i none g = refl
leaf_room i (some es) g = go (pairs_of es) refl
  where
    go : (p : Option (List Row)) → pairs_of es ≡ p → fits (leaf_of i p) ≡ true
    go none q = refl
    go (some rs) q = le-leb (pairs_size rs) 1016 (omega (arith, pairs-sized es rs q, g es refl))

inner_room : (u : ℕ → Tree) → ((j : ℕ) → fits (u j) ≡ true) → (i : ℕ) (o : Option (List Entry))
    → ((es : List Entry) → o ≡ some es → (sizes es ≤ 1016) × (all_allowed es ≡ true)) → fits (interior_of u i (or_none inside_of o)) ≡ true
unfolding or_none interior_of fits
inner_room u f i none g = refl
inner_room u f i (some es) g = go (inside_of es) refl
  where
    go : (p : Option Inside) → inside_of es ≡ p → fits (interior_of u i p) ≡ true
    go none q = refl
    go (some x) q =
        let z : (branches_size (forest_of u x.branches) ≤ sizes es) × (short_in (forest_of u x.branches) ≡ true) = branches-sized u es x q (g es refl).1 in
        both (both (le-leb (branches_size (forest_of u x.branches)) 1016 (omega (arith, z.0, (g es refl).0))) z.1) (forest-fits u f x.branches)

-- whatever is read fits
pub read_fits : (l : ℕ) (image : List ℕ) (i : ℕ) → fits (tree_at l image i) ≡ true
unfolding tree_at fits
read_fits zero image i = refl
read_fits (suc zero) image i = leaf_room i (node_entries 0x0001 1 (node_bytes image i)) (λ es h. (node-sized 0x0001 1 (node_bytes image i) es h).0)
read_fits (suc (suc l)) image i =
    inner_room (λ j. tree_at (suc l) image j) (λ j. read_fits (suc l) image j) i (node_entries 0x0002 (suc (suc l)) (node_bytes image i))
    (λ es h. node-sized 0x0002 (suc (suc l)) (node_bytes image i) es h)

-- A sound, settled image gives a tree that can be sliced.
pub image-good : (image : List ℕ) → sound image ≡ true → settled image ≡ true → Good (header_of image).levels (tree_of image) lowest highest
unfolding tree_of settled reachable_nodes
image-good image e q =
    record {
      sound = (sound-parts image e).tree;
      holds_no_message = quiet-still (tree_of image) (header_of image).levels lowest highest q;
      level = read-level (header_of image).levels image (header_of image).root lowest highest (sound-parts image e).tree;
    }

pub image-fits : (image : List ℕ) → fits (tree_of image) ≡ true
unfolding tree_of
image-fits image = read_fits (header_of image).levels image (header_of image).root
