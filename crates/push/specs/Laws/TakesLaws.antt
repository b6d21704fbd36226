-- The children after each took what its parent brings: their trees are those that took what arrives.
-- Relies on Only for the bytes of the others, and on ReadBack for those of the child that is written.
use Rattle.std.specs.Prelude.{ℕ, zero, suc, ◌+◌, ◌*◌, ◌≤◌, ◌≡◌, refl, List, [], ◌∷◌, ◌++◌, Bool, true, false, ◌&&◌, ◌||◌, cond, length, eqb}
use Rattle.image.specs.Prelude.{sym, ap, ap₂, subst, ◌∙◌, false≢true, Option, none, some, arith, eq-eqb, ne_eqb}
use Rattle.image.specs.Bytes.{u16}
use Rattle.image.specs.Entry.{Entry, entries_of}
use Rattle.image.specs.Image.{Tree, unread, leaf, interior, Forest, end, tree, Branch, Inside, entry_bytes, node_bytes, node_entries, pairs_of, inside_of, or_none, forest_of, leaf_of, interior_of, tree_at}
use Rattle.image.specs.Meaning.{high_of}
use Rattle.image.specs.Sound.{is_in, once, sound_tree, sound_forest}
use Rattle.octets.specs.Order.{and_left, and_right, or-none-right}
use Rattle.laws.specs.Rising.{both}
use Rattle.laws.specs.RowsRising.{leaf-rises}
use Rattle.laws.specs.LookupTable.{parts}
use Rattle.laws.specs.Encode.{bytes_of_all}
use Rattle.laws.specs.Frame.{Keeps, forest-stays, tree-stays, keeps-left, keeps-right, or_left, or_right}
use Rattle.laws.specs.Page.{page}
use Rattle.laws.specs.Reading.Relative.{branch_high}
use Rattle.laws.specs.Upkeep.Merge.{tall, tall_in}
use Rattle.laws.specs.Upkeep.Mends.{tall-first, tall-later}
use Rattle.laws.specs.Upkeep.Size.{message_entries, messages-allowed}
use Rattle.laws.specs.Upkeep.Children.{numbers_under, deep_in}
use Rattle.node.specs.Cut.{cut-u16}
use Rattle.lookup.specs.Look.{node-is, count-is, bytes-is}
use Rattle.push.specs.Laws.Arriving.{waiting, arriving, brought_all}
use Rattle.push.specs.Laws.ArrivingLaws.{taken_all, interior-taken, taken_each, brought-is}
use Rattle.push.specs.Laws.Written.{body_of, child_takes, interior_takes, each_takes, has_room, all_have_room, branch_numbers}
use Rattle.push.specs.Laws.Leaves.{leaf_takes}
use Rattle.push.specs.Laws.Only.{Only, interior-same, body-fits, room-inside, room_fits, room-first, room-later, once-first}
use Rattle.push.specs.Laws.LeafRoom.{child-only, rooms-on}
use Rattle.push.specs.Laws.LeafLaws.{sorted, leaf-takes, leaf-same}
use Rattle.push.specs.Laws.ReadBack.{entries-append, page-reads, Laid, laid, inside-more}

-- AN INTERIOR CHILD
pub level-at : (s : List ℕ) (i : ℕ) → i * 1024 + 1024 ≤ length s → u16 (node_bytes s i) 4 ≡ u16 s (i * 1024 + 4)
level-at s i h = ap (λ l. u16 l 4) (node-is s i h) ∙ cut-u16 s (i * 1024) (i * 1024 + 1024) 4 (omega arith)

kind_at : (s : List ℕ) (i : ℕ) → i * 1024 + 1024 ≤ length s → u16 (node_bytes s i) 2 ≡ u16 s (i * 1024 + 2)
kind_at s i h = ap (λ l. u16 l 2) (node-is s i h) ∙ cut-u16 s (i * 1024) (i * 1024 + 1024) 2 (omega arith)

no-unread : (i level : ℕ) → tall (unread i) level ≡ true → ⊥
unfolding tall
no-unread i level e = false≢true e

leaf-kind : (s : List ℕ) (i : ℕ) → tall (tree_at 1 s i) 1 ≡ true → u16 (node_bytes s i) 2 ≡ 1
unfolding tree_at
leaf-kind s i h = go (node_entries 0x0001 1 (node_bytes s i)) refl h
  where
    go : (o : Option (List Entry)) → node_entries 0x0001 1 (node_bytes s i) ≡ o → tall (leaf_of i (or_none pairs_of o)) 1 ≡ true → u16 (node_bytes s i) 2 ≡ 1
    go none e t = absurd (no-unread i 1 (unfold leaf_of or_none in t))
    go (some es) e t = (laid 0x0001 1 (node_bytes s i) es e).kind_is

interior-kind : (l : ℕ) (s : List ℕ) (i : ℕ) → tall (tree_at (suc (suc l)) s i) (suc (suc l)) ≡ true → u16 (node_bytes s i) 2 ≡ 2
unfolding tree_at
interior-kind l s i h = go (node_entries 0x0002 (suc (suc l)) (node_bytes s i)) refl h
  where
    go : (o : Option (List Entry)) → node_entries 0x0002 (suc (suc l)) (node_bytes s i) ≡ o → tall (interior_of (λ j. tree_at (suc l) s j) i (or_none inside_of o)) (suc (suc l)) ≡ true
        → u16 (node_bytes s i) 2 ≡ 2
    go none e t = absurd (no-unread i (suc (suc l)) (unfold interior_of or_none in t))
    go (some es) e t = (laid 0x0002 (suc (suc l)) (node_bytes s i) es e).kind_is

module _ (l : ℕ) (es : List Entry) (i : ℕ) (lo hi s s' : List ℕ) (room : has_room es i lo hi s ≡ true)
    (same : node_bytes s' i ≡ page 2 (u16 s (i * 1024 + 4)) (body_of s i ++ brought_all es lo hi)) where
  inside : i * 1024 + 1024 ≤ length s
  inside = room-inside es i lo hi s room

  -- the entries that the child has then
  more-entries : (fs : List Entry) → node_entries 0x0002 (suc (suc l)) (node_bytes s i) ≡ some fs
      → node_entries 0x0002 (suc (suc l)) (node_bytes s' i) ≡ some (fs ++ message_entries (arriving (waiting es) lo hi))
  more-entries fs e =
      let w : Laid 0x0002 (suc (suc l)) (node_bytes s i) fs = laid 0x0002 (suc (suc l)) (node_bytes s i) fs e in
      let level : u16 s (i * 1024 + 4) ≡ suc (suc l) = sym (level-at s i inside) ∙ w.level_is in
      let short : u16 s (i * 1024) ≤ 1016 = omega (arith, count-is s i inside, w.size) in
      let body : body_of s i ++ brought_all es lo hi ≡ entry_bytes (node_bytes s i) ++ bytes_of_all (message_entries (arriving (waiting es) lo hi)) =
      ap₂ (λ a b. a ++ b) (sym (bytes-is s i inside short)) (brought-is es lo hi) in
      let reads : node_entries 0x0002 (suc (suc l)) (page 2 (suc (suc l)) (body_of s i ++ brought_all es lo hi)) ≡ some (fs ++ message_entries (arriving (waiting es) lo hi)) =
      page-reads 2 (suc (suc l)) (body_of s i ++ brought_all es lo hi) (fs ++ message_entries (arriving (waiting es) lo hi)) (body-fits es i lo hi s room)
      (ap (λ b. entries_of b) body
      ∙ entries-append (entry_bytes (node_bytes s i)) fs (message_entries (arriving (waiting es) lo hi)) (messages-allowed (arriving (waiting es) lo hi)) w.reads) in
      ap (node_entries 0x0002 (suc (suc l))) (same ∙ ap (λ v. page 2 v (body_of s i ++ brought_all es lo hi)) level) ∙ reads

  not-tall : (level : ℕ) → tall (unread i) level ≡ true → ⊥
  unfolding tall
  not-tall level e = false≢true e

  by-inside : (fs : List Entry) → node_entries 0x0002 (suc (suc l)) (node_bytes s i) ≡ some fs → (o : Option Inside) → inside_of fs ≡ o
      → tall (interior_of (λ j. tree_at (suc l) s j) i o) (suc (suc l)) ≡ true → Keeps s s' (numbers_under (interior_of (λ j. tree_at (suc l) s j) i o))
      → tree_at (suc (suc l)) s' i ≡ taken_all (arriving (waiting es) lo hi) (interior_of (λ j. tree_at (suc l) s j) i o)
  unfolding tree_at interior_of or_none numbers_under
  by-inside fs e none q h k = absurd (not-tall (suc (suc l)) h)
  by-inside fs e (some y) q h k =
      rw (more-entries fs e, inside-more fs y (arriving (waiting es) lo hi) q)
      (ap (λ f. interior i f (y.messages ++ arriving (waiting es) lo hi))
      (forest-stays s s' (λ j. tree_at (suc l) s j) (λ j. tree_at (suc l) s' j) (λ j b. tree-stays (suc l) s s' j b) y.branches k)
      ∙ sym (interior-taken (arriving (waiting es) lo hi) i (forest_of (λ j. tree_at (suc l) s j) y.branches) y.messages))

  by_entries : (o : Option (List Entry)) → node_entries 0x0002 (suc (suc l)) (node_bytes s i) ≡ o
      → tall (interior_of (λ j. tree_at (suc l) s j) i (or_none inside_of o)) (suc (suc l)) ≡ true → Keeps s s' (numbers_under (interior_of (λ j. tree_at (suc l) s j) i (or_none inside_of o)))
      → tree_at (suc (suc l)) s' i ≡ taken_all (arriving (waiting es) lo hi) (interior_of (λ j. tree_at (suc l) s j) i (or_none inside_of o))
  unfolding or_none
  by_entries none e h k = absurd (not-tall (suc (suc l)) (unfold interior_of in h))
  by_entries (some fs) e h k = by-inside fs e (inside_of fs) refl h k

  pub interior-takes : tall (tree_at (suc (suc l)) s i) (suc (suc l)) ≡ true → Keeps s s' (numbers_under (tree_at (suc (suc l)) s i))
      → tree_at (suc (suc l)) s' i ≡ taken_all (arriving (waiting es) lo hi) (tree_at (suc (suc l)) s i)
  interior-takes h k =
      let is : tree_at (suc (suc l)) s i ≡ interior_of (λ j. tree_at (suc l) s j) i (or_none inside_of (node_entries 0x0002 (suc (suc l)) (node_bytes s i))) = unfold tree_at in refl in
      by_entries (node_entries 0x0002 (suc (suc l)) (node_bytes s i)) refl (subst (λ t. tall t (suc (suc l)) ≡ true) is h) (subst (λ t. Keeps s s' (numbers_under t)) is k)
      ∙ ap (taken_all (arriving (waiting es) lo hi)) (sym is)

-- ALL CHILDREN, ONE AFTER ANOTHER
pub data Arrived (es : List Entry) (s s' h : List ℕ) : List Branch → Type 0 where
  no_more : Arrived es s s' h []
  one_more : {k : Branch} {ks : List Branch} → node_bytes s' k.number ≡ node_bytes (child_takes es k.number k.pivot (branch_high h ks) s) k.number
      → has_room es k.number k.pivot (branch_high h ks) s ≡ true → Arrived es s s' h ks → Arrived es s s' h (k ∷ ks)

pub each-size : (es : List Entry) (ks : List Branch) (h s : List ℕ) → once (branch_numbers ks) ≡ true → all_have_room es ks h s ≡ true → length (each_takes (child_takes es) ks h s) ≡ length s
unfolding each_takes
each-size es [] h s o e = refl
each-size es (k ∷ ks) h s o e =
    each-size es ks h (child_takes es k.number k.pivot (branch_high h ks) s) (once-first k ks o).1 (rooms-on es k ks h s o e)
    ∙ (child-only es k.number k.pivot (branch_high h ks) s (room-first es k ks h s e)).size

is-branch : (j : ℕ) (k : Branch) (ks : List Branch) → j ≡ k.number → is_in j (branch_numbers (k ∷ ks)) ≡ false → ⊥
unfolding branch_numbers is_in
is-branch j k ks q e = false≢true (sym e ∙ ap (λ b. b || is_in j (branch_numbers ks)) (eq-eqb j k.number q))

no-later : (j : ℕ) (k : Branch) (ks : List Branch) → is_in j (branch_numbers (k ∷ ks)) ≡ false → is_in j (branch_numbers ks) ≡ false
unfolding branch_numbers is_in
no-later j k ks e = or-none-right (eqb j k.number) (is_in j (branch_numbers ks)) e

pub each-other : (es : List Entry) (ks : List Branch) (h s : List ℕ) → once (branch_numbers ks) ≡ true → all_have_room es ks h s ≡ true → (j : ℕ) → is_in j (branch_numbers ks) ≡ false
    → node_bytes (each_takes (child_takes es) ks h s) j ≡ node_bytes s j
unfolding each_takes
each-other es [] h s o e j n = refl
each-other es (k ∷ ks) h s o e j n =
    each-other es ks h (child_takes es k.number k.pivot (branch_high h ks) s) (once-first k ks o).1 (rooms-on es k ks h s o e) j (no-later j k ks n)
    ∙ (child-only es k.number k.pivot (branch_high h ks) s (room-first es k ks h s e)).other j (λ q. is-branch j k ks q n)

-- s₀ is the store at the start, with the same bytes as s at the children that are left
interior-both : (es : List Entry) (i : ℕ) (lo hi s s₀ : List ℕ) → has_room es i lo hi s ≡ true → has_room es i lo hi s₀ ≡ true → node_bytes s i ≡ node_bytes s₀ i
    → node_bytes (interior_takes es i lo hi s) i ≡ node_bytes (interior_takes es i lo hi s₀) i
interior-both es i lo hi s s₀ r r₀ e =
    let a = room-inside es i lo hi s r in
    let b = room-inside es i lo hi s₀ r₀ in
    let f = room_fits es i lo hi s r in
    let g = room_fits es i lo hi s₀ r₀ in
    let lev : u16 s (i * 1024 + 4) ≡ u16 s₀ (i * 1024 + 4) = sym (level-at s i a) ∙ ap (λ l. u16 l 4) e ∙ level-at s₀ i b in
    let bod : body_of s i ≡ body_of s₀ i = sym (bytes-is s i a (omega arith)) ∙ ap entry_bytes e ∙ bytes-is s₀ i b (omega arith) in
    interior-same es i lo hi s r ∙ ap₂ (λ v c. page 2 v (c ++ brought_all es lo hi)) lev bod ∙ sym (interior-same es i lo hi s₀ r₀)

same_branch : (es : List Entry) (i : ℕ) (lo hi s s₀ : List ℕ) → has_room es i lo hi s ≡ true → has_room es i lo hi s₀ ≡ true → node_bytes s i ≡ node_bytes s₀ i
    → node_bytes (child_takes es i lo hi s) i ≡ node_bytes (child_takes es i lo hi s₀) i
unfolding child_takes
same_branch es i lo hi s s₀ r r₀ e =
    let k : u16 s (i * 1024 + 2) ≡ u16 s₀ (i * 1024 + 2) =
    sym (kind_at s i (room-inside es i lo hi s r)) ∙ ap (λ l. u16 l 2) e ∙ kind_at s₀ i (room-inside es i lo hi s₀ r₀) in
    ap (λ q. node_bytes (cond (eqb q 1) (leaf_takes es i lo hi s) (interior_takes es i lo hi s)) i) k ∙ go (eqb (u16 s₀ (i * 1024 + 2)) 1)
  where
    go : (x : Bool) → node_bytes (cond x (leaf_takes es i lo hi s) (interior_takes es i lo hi s)) i ≡ node_bytes (cond x (leaf_takes es i lo hi s₀) (interior_takes es i lo hi s₀)) i
    go true = leaf-same es i lo hi s s₀ r r₀ e
    go false = interior-both es i lo hi s s₀ r r₀ e

in-later : (j : ℕ) (k : Branch) (ks : List Branch) → is_in j (branch_numbers ks) ≡ true → is_in j (branch_numbers (k ∷ ks)) ≡ true
unfolding branch_numbers is_in
in-later j k ks c = or_right (eqb j k.number) (is_in j (branch_numbers ks)) c

in-first : (k : Branch) (ks : List Branch) → is_in k.number (branch_numbers (k ∷ ks)) ≡ true
unfolding branch_numbers is_in
in-first k ks = or_left (eqb k.number k.number) (is_in k.number (branch_numbers ks)) (eq-eqb k.number k.number refl)

pub each-arrives : (es : List Entry) (ks : List Branch) (h s s₀ : List ℕ) → once (branch_numbers ks) ≡ true → all_have_room es ks h s ≡ true → all_have_room es ks h s₀ ≡ true
    → ((j : ℕ) → is_in j (branch_numbers ks) ≡ true → node_bytes s j ≡ node_bytes s₀ j) → Arrived es s₀ (each_takes (child_takes es) ks h s) h ks
unfolding each_takes
each-arrives es [] h s s₀ o e e₀ same = no_more
each-arrives es (k ∷ ks) h s s₀ o e e₀ same =
    one_more own (room-first es k ks h s₀ e₀)
    (each-arrives es ks h mid s₀ (once-first k ks o).1 (rooms-on es k ks h s o e) (room-later es k ks h s₀ e₀)
    (λ j c. only.other j (λ q. apart j q c) ∙ same j (in-later j k ks c)))
  where
    mid : List ℕ
    mid = child_takes es k.number k.pivot (branch_high h ks) s

    only : Only s mid k.number
    only = child-only es k.number k.pivot (branch_high h ks) s (room-first es k ks h s e)

    apart : (j : ℕ) → j ≡ k.number → is_in j (branch_numbers ks) ≡ true → ⊥
    apart j q c = false≢true (sym (once-first k ks o).0 ∙ ap (λ i. is_in i (branch_numbers ks)) (sym q) ∙ c)

    own : node_bytes (each_takes (child_takes es) ks h mid) k.number ≡ node_bytes (child_takes es k.number k.pivot (branch_high h ks) s₀) k.number
    own =
        each-other es ks h mid (once-first k ks o).1 (rooms-on es k ks h s o e) k.number (once-first k ks o).0
        ∙ same_branch es k.number k.pivot (branch_high h ks) s s₀ (room-first es k ks h s e) (room-first es k ks h s₀ e₀) (same k.number (in-first k ks))

pub arrived-on : (es : List Entry) (s s' s'' h : List ℕ) (ks : List Branch) → Arrived es s s' h ks → ((j : ℕ) → is_in j (branch_numbers ks) ≡ true → node_bytes s'' j ≡ node_bytes s' j)
    → Arrived es s s'' h ks
arrived-on es s s' s'' h [] no_more same = no_more
arrived-on es s s' s'' h (k ∷ ks) (one_more e r w) same = one_more (same k.number (in-first k ks) ∙ e) r (arrived-on es s s' s'' h ks w (λ j c. same j (in-later j k ks c)))

-- THE CHILD, OF EITHER KIND: l is the level of the node less two
pub child-takes : (l : ℕ) (es : List Entry) (i : ℕ) (lo hi s s' : List ℕ) → has_room es i lo hi s ≡ true
    → node_bytes s' i ≡ node_bytes (child_takes es i lo hi s) i → tall (tree_at (suc l) s i) (suc l) ≡ true → sorted (tree_at (suc l) s i) ≡ true
    → Keeps s s' (numbers_under (tree_at (suc l) s i)) → tree_at (suc l) s' i ≡ taken_all (arriving (waiting es) lo hi) (tree_at (suc l) s i)
unfolding child_takes
child-takes zero es i lo hi s s' r e h up k =
    let kind : u16 s (i * 1024 + 2) ≡ 1 = sym (kind_at s i (room-inside es i lo hi s r)) ∙ leaf-kind s i h in
    let is : child_takes es i lo hi s ≡ leaf_takes es i lo hi s = ap (λ x. cond x (leaf_takes es i lo hi s) (interior_takes es i lo hi s)) (eq-eqb (u16 s (i * 1024 + 2)) 1 kind) in
    leaf-takes es i lo hi s s' r (e ∙ ap (λ q. node_bytes q i) is) h up
child-takes (suc l) es i lo hi s s' r e h up k =
    let kind : u16 s (i * 1024 + 2) ≡ 2 = sym (kind_at s i (room-inside es i lo hi s r)) ∙ interior-kind l s i h in
    let is : child_takes es i lo hi s ≡ interior_takes es i lo hi s =
    ap (λ x. cond x (leaf_takes es i lo hi s) (interior_takes es i lo hi s)) (ne_eqb (u16 s (i * 1024 + 2)) 1 (λ q. omega arith)) in
    interior-takes l es i lo hi s s' r (e ∙ ap (λ q. node_bytes q i) is ∙ interior-same es i lo hi s r) h k

-- the leaves among the children have rising pairs
unfoldable pub sorted_in : Forest → Bool
sorted_in end = true
sorted_in (tree p t f) = sorted t && sorted_in f

sorted-first : (p : List ℕ) (t : Tree) (f : Forest) → sorted_in (tree p t f) ≡ true → sorted t ≡ true
unfolding sorted_in
sorted-first p t f e = and_left _ _ e

sorted-later : (p : List ℕ) (t : Tree) (f : Forest) → sorted_in (tree p t f) ≡ true → sorted_in f ≡ true
unfolding sorted_in
sorted-later p t f e = and_right (sorted t) _ e

sound-leaf : (t : Tree) (lo hi : List ℕ) → sound_tree t lo hi ≡ true → sorted t ≡ true
unfolding sorted
sound-leaf (unread i) lo hi e = refl
sound-leaf (leaf i rs) lo hi e = leaf-rises i rs lo hi e
sound-leaf (interior i f ms) lo hi e = refl

pub sound-sorted : (f : Forest) (lifted lo hi : List ℕ) → sound_forest f lifted lo hi ≡ true → sorted_in f ≡ true
unfolding sorted_in
sound-sorted end lifted lo hi e = refl
sound-sorted (tree p t f) lifted lo hi e =
    both (sound-leaf t (lifted ++ p) (high_of lifted hi f) (parts p t f lifted lo hi e).first) (sound-sorted f lifted lo hi (parts p t f lifted lo hi e).later)

deep-first : (p : List ℕ) (t : Tree) (f : Forest) (s s' : List ℕ) → Keeps s s' (deep_in (tree p t f)) → Keeps s s' (numbers_under t)
unfolding deep_in
deep-first p t f s s' k = keeps-left s s' (numbers_under t) (deep_in f) k

deep-later : (p : List ℕ) (t : Tree) (f : Forest) (s s' : List ℕ) → Keeps s s' (deep_in (tree p t f)) → Keeps s s' (deep_in f)
unfolding deep_in
deep-later p t f s s' k = keeps-right s s' (numbers_under t) (deep_in f) k

pub branches-take : (l : ℕ) (es : List Entry) (s s' h : List ℕ) {ks : List Branch} → Arrived es s s' h ks → tall_in (forest_of (λ j. tree_at (suc l) s j) ks) (suc l) ≡ true
    → sorted_in (forest_of (λ j. tree_at (suc l) s j) ks) ≡ true → Keeps s s' (deep_in (forest_of (λ j. tree_at (suc l) s j) ks))
    → forest_of (λ j. tree_at (suc l) s' j) ks ≡ taken_each (waiting es) (λ j. tree_at (suc l) s j) ks h
unfolding forest_of taken_each
branches-take l es s s' h no_more t up k = refl
branches-take l es s s' h (one_more {k = x} {ks} e r w) t up k =
    ap₂ (λ a b. tree x.pivot a b)
    (child-takes l es x.number x.pivot (branch_high h ks) s s' r e
    (tall-first x.pivot (tree_at (suc l) s x.number) (forest_of (λ j. tree_at (suc l) s j) ks) (suc l) t)
    (sorted-first x.pivot (tree_at (suc l) s x.number) (forest_of (λ j. tree_at (suc l) s j) ks) up)
    (deep-first x.pivot (tree_at (suc l) s x.number) (forest_of (λ j. tree_at (suc l) s j) ks) s s' k))
    (branches-take l es s s' h w (tall-later x.pivot (tree_at (suc l) s x.number) (forest_of (λ j. tree_at (suc l) s j) ks) (suc l) t)
    (sorted-later x.pivot (tree_at (suc l) s x.number) (forest_of (λ j. tree_at (suc l) s j) ks) up)
    (deep-later x.pivot (tree_at (suc l) s x.number) (forest_of (λ j. tree_at (suc l) s j) ks) s s' k))
