-- The high pivot of a node without what it lifts is short: it is the root's, or a pivot that an entry holds.
use Rattle.std.specs.Prelude.{ℕ, zero, suc, ◌≤◌, ◌≡◌, refl, List, [], ◌∷◌, ◌++◌, Bool, true, false, ◌&&◌, cond, length, drop, leb, eqb}
use Rattle.image.specs.Prelude.{sym, ap, subst, ◌∙◌, Option, none, some, Option·some-injective, Option·none-ne-some, arith, length-drop, leb-true}
use Rattle.image.specs.Entry.{Entry}
use Rattle.image.specs.Table.{Row}
use Rattle.image.specs.Image.{Tree, unread, leaf, interior, Forest, end, tree, Branch, Inside, node_bytes, node_entries, pairs_of, inside_of, or_none, forest_of, leaf_of, interior_of, tree_at}
use Rattle.image.specs.Meaning.{high_of}
use Rattle.octets.specs.Order.{and_left, and_right}
use Rattle.laws.specs.Rising.{both}
use Rattle.laws.specs.Encode.{allowed, all_allowed}
use Rattle.laws.specs.Reading.Relative.{lifts}
use Rattle.laws.specs.Upkeep.Size.{message_entries}
use Rattle.laws.specs.Upkeep.Reading.{branch_entries, inside-entries, node-good}
use Rattle.push.specs.Laws.High.{or_else, high_here, high_in}

-- every pivot of the tree is at most 65 bytes
unfoldable mutual
  pub short_in : Tree → Bool
  short_in (unread i) = true
  short_in (leaf i rs) = true
  short_in (interior i f ms) = short_all f

  pub short_all : Forest → Bool
  short_all end = true
  short_all (tree s t f) = leb (length s) 65 && short_in t && short_all f

leaf-short : (i : ℕ) (o : Option (List Row)) → short_in (leaf_of i o) ≡ true
unfolding leaf_of short_in
leaf-short i none = refl
leaf-short i (some rs) = refl

branches-short : (under : ℕ → Tree) → ((j : ℕ) → short_in (under j) ≡ true) → (ks : List Branch) (es : List Entry) → all_allowed (branch_entries ks ++ es) ≡ true → short_all (forest_of under ks) ≡ true
unfolding short_all forest_of branch_entries all_allowed allowed
branches-short under law [] es a = refl
branches-short under law (k ∷ ks) es a =
    both (both (and_left (leb (length k.pivot) 65) _ a) (law k.number)) (branches-short under law ks es (and_right (leb (length k.pivot) 65) _ a))

inside-short : (under : ℕ → Tree) → ((j : ℕ) → short_in (under j) ≡ true) → (i : ℕ) (es : List Entry) → all_allowed es ≡ true → (o : Option Inside) → inside_of es ≡ o
    → short_in (interior_of under i o) ≡ true
unfolding interior_of short_in
inside-short under law i es a none q = refl
inside-short under law i es a (some y) q = branches-short under law y.branches (message_entries y.messages) (ap all_allowed (sym (inside-entries es y q)) ∙ a)

none-short : (under : ℕ → Tree) (i : ℕ) → short_in (interior_of under i none) ≡ true
unfolding interior_of short_in
none-short under i = refl

node-short : (under : ℕ → Tree) → ((j : ℕ) → short_in (under j) ≡ true) → (i level : ℕ) (b : List ℕ) (o : Option (List Entry)) → node_entries 0x0002 level b ≡ o
    → short_in (interior_of under i (or_none inside_of o)) ≡ true
unfolding or_none
node-short under law i level b none q = none-short under i
node-short under law i level b (some es) q = inside-short under law i es (node-good 0x0002 level b es q).1 (inside_of es) refl

pub tree-short : (l : ℕ) (s : List ℕ) (i : ℕ) → short_in (tree_at l s i) ≡ true
unfolding tree_at
tree-short zero s i = unfold short_in in refl
tree-short (suc zero) s i = leaf-short i (or_none pairs_of (node_entries 0x0001 1 (node_bytes s i)))
tree-short (suc (suc l)) s i =
    node-short (λ j. tree_at (suc l) s j) (λ j. tree-short (suc l) s j) i (suc (suc l)) (node_bytes s i) (node_entries 0x0002 (suc (suc l)) (node_bytes s i)) refl

high-short : (f : Forest) (hi : List ℕ) → short_all f ≡ true → length hi ≤ 65 → length (high_of [] hi f) ≤ 65
unfolding short_all high_of
high-short end hi e h = h
high-short (tree s t f) hi e h = leb-true (length s) 65 (and_left (leb (length s) 65) _ (and_left _ _ e))

choose-short : (b : Bool) (a h : List ℕ) (o : Option (List ℕ)) → length a ≤ 65 → (o ≡ some h → length h ≤ 65) → cond b (some a) o ≡ some h → length h ≤ 65
choose-short true a h o e f q = subst (λ z. length z ≤ 65) (Option·some-injective a h q) e
choose-short false a h o e f q = f q

else-short : (o p : Option (List ℕ)) (h : List ℕ) → (o ≡ some h → length h ≤ 65) → (p ≡ some h → length h ≤ 65) → or_else o p ≡ some h → length h ≤ 65
unfolding or_else
else-short none p h e f q = f q
else-short (some a) p h e f q = e q

mutual
  unfolding high_here high_in short_in short_all

  pub here-short : (t : Tree) (n : ℕ) (lo hi h : List ℕ) → short_in t ≡ true → length hi ≤ 65 → high_here n t lo hi ≡ some h → length h ≤ 65
  here-short (unread i) n lo hi h e g q = absurd (Option·none-ne-some h q)
  here-short (leaf i rs) n lo hi h e g q = absurd (Option·none-ne-some h q)
  here-short (interior i f ms) n lo hi h e g q =
      let w = length-drop (lifts lo hi) hi in
      let v : length (drop (lifts lo hi) hi) ≤ 65 = omega arith in
      choose-short (eqb n i) (drop (lifts lo hi) hi) h (high_in n f (drop (lifts lo hi) hi)) v (λ r. in-short f n (drop (lifts lo hi) hi) h e v r) q

  in-short : (f : Forest) (n : ℕ) (hi h : List ℕ) → short_all f ≡ true → length hi ≤ 65 → high_in n f hi ≡ some h → length h ≤ 65
  in-short end n hi h e g q = absurd (Option·none-ne-some h q)
  in-short (tree s t f) n hi h e g q =
      else-short (high_here n t s (high_of [] hi f)) (high_in n f hi) h
      (λ r. here-short t n s (high_of [] hi f) h (and_right (leb (length s) 65) _ (and_left (leb (length s) 65 && short_in t) _ e)) (high-short f hi (and_right (leb (length s) 65 && short_in t) _ e) g) r)
      (λ r. in-short f n hi h (and_right (leb (length s) 65 && short_in t) _ e) g r) q
