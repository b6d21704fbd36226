-- One step of heal on an image: the left one of a pair is written with the entries of both, the node above it without the right one's entry.
-- The laws of specs/Upkeep/HealImage that rest on a definition which a must-fail edit changes.
use Rattle.std.specs.Prelude.{ℕ, zero, suc, ◌-◌, ◌≤◌, ◌≡◌, List, ◌++◌, true, false, ◌||◌, length, eqb}
use Rattle.image.specs.Prelude.{sym, ap, ◌∙◌, append_assoc, false≢true, some, arith, ne_eqb}
use Rattle.image.specs.Bytes.{shared}
use Rattle.image.specs.Image.{interior, Forest, end, tree, node_bytes, tree_at, header_of, tree_of}
use Rattle.image.specs.Meaning.{high_of}
use Rattle.image.specs.Sound.{sound, table_of, numbers, numbers_in, is_in, once, lowest, highest}
use Rattle.image.specs.Upkeep.{Reachable, reachable, reachable_at}
use Rattle.octets.specs.Order.{not_so, or-none-right, or-none-left}
use Rattle.laws.specs.Frame.{in_left, in_right}
use Rattle.laws.specs.LookupTable.{inner}
use Rattle.laws.specs.Page.{number_of, child_entries}
use Rattle.laws.specs.Upkeep.Merge.{tall_in, merged-number}
use Rattle.laws.specs.Upkeep.Size.{message_entries, entries_for, size_of, own_bytes}
use Rattle.laws.specs.Upkeep.Mends.{tall-first, tall-later, mends-node, tall-branches}
use Rattle.laws.specs.Upkeep.Join.{join_at, first_pair}
use Rattle.laws.proofs.Upkeep.Join.{join-pair, join-mends}
use Rattle.laws.specs.Upkeep.Steps.{stepped}
use Rattle.laws.specs.Upkeep.Alter.{altered, on_branches, Sane}
use Rattle.laws.proofs.Upkeep.Room.{merged-fits, merged-short, join-own}
use Rattle.laws.specs.Upkeep.Page.{Reads, one_more, inner-reads}
use Rattle.laws.specs.Upkeep.Bridge.{once-left, once-right, image-tree, image-mends}
use Rattle.laws.specs.Upkeep.Reading.{Node, node_of}
use Rattle.laws.specs.Upkeep.Site.{Site, site}
use Rattle.laws.specs.Upkeep.HealImage.{But, first-keeps, join-short, later-keeps, left-in, left_at, merged-reads, merged_at, page_for, pair_at, reads-stay, root_in, stays-one}

merged-at-reads : (l : ℕ) (s s' : List ℕ) (k : ℕ) (f : Forest) (lifted hi : List ℕ) → Reads (λ j. tree_at (suc l) s j) f → tall_in f (suc l) ≡ true
    → pair_at k f lifted hi ≡ true → once (numbers_in f) ≡ true → But s s' (left_at k f) (numbers_in f)
    → node_bytes s' (left_at k f) ≡ page_for (suc l) (merged_at k f lifted hi) → tree_at (suc l) s' (left_at k f) ≡ merged_at k f lifted hi
unfolding pair_at left_at merged_at numbers_in
merged-at-reads l s s' k end lifted hi r h e o but page = absurd (false≢true e)
merged-at-reads l s s' k (tree p t end) lifted hi r h e o but page = absurd (false≢true e)
merged-at-reads l s s' zero (tree p t (tree q u f)) lifted hi (one_more a (one_more b r)) h e o but page =
    let three : (numbers t ++ numbers u) ++ numbers_in f ≡ numbers t ++ (numbers u ++ numbers_in f) = append_assoc (numbers t) (numbers u) (numbers_in f) in
    merged-reads l s s' (join-pair t u (lifted ++ p) (lifted ++ q) (high_of lifted hi f) e) (lifted ++ p) (lifted ++ q) (high_of lifted hi f) a b
    (tall-first p t (tree q u f) (suc l) h)
    (merged-fits t u (lifted ++ p) (lifted ++ q) (high_of lifted hi f) e) (merged-short t u (lifted ++ p) (lifted ++ q) (high_of lifted hi f) e)
    (once-left (numbers t ++ numbers u) (numbers_in f) (ap once three ∙ o))
    (λ j c d. but j (ap (λ m. is_in j m) (sym three) ∙ in_left j (numbers t ++ numbers u) (numbers_in f) c) d) page
merged-at-reads l s s' (suc k) (tree p t (tree q u f)) lifted hi (one_more a r) h e o but page =
    merged-at-reads l s s' k (tree q u f) lifted hi r (tall-later p t (tree q u f) (suc l) h) e (once-right (numbers t) (numbers_in (tree q u f)) o)
    (λ j c d. but j (in_right j (numbers t) (numbers_in (tree q u f)) c) d) page

-- THE LIST OF CHILDREN reads back
join-reads : (l : ℕ) (s s' : List ℕ) (k : ℕ) (f : Forest) (lifted hi : List ℕ) → Reads (λ j. tree_at (suc l) s j) f
    → pair_at k f lifted hi ≡ true → once (numbers_in f) ≡ true → But s s' (left_at k f) (numbers_in f)
    → tree_at (suc l) s' (left_at k f) ≡ merged_at k f lifted hi → Reads (λ j. tree_at (suc l) s' j) (join_at k f lifted hi)
unfolding pair_at left_at merged_at numbers_in join_at
join-reads l s s' k end lifted hi r e o but new = absurd (false≢true e)
join-reads l s s' k (tree p t end) lifted hi r e o but new = absurd (false≢true e)
join-reads l s s' zero (tree p t (tree q u f)) lifted hi (one_more a (one_more b r)) e o but new =
    rw e (one_more
    (ap (λ j. tree_at (suc l) s' j) (merged-number (join-pair t u (lifted ++ p) (lifted ++ q) (high_of lifted hi f) e) (lifted ++ p) (lifted ++ q) (high_of lifted hi f)) ∙ new)
    (reads-stay (suc l) s s' r (later-keeps s s' (number_of t) (numbers t) (numbers u) (numbers_in f) (root_in t) o but)))
join-reads l s s' (suc k) (tree p t (tree q u f)) lifted hi (one_more a r) e o but new =
    one_more
    (stays-one (suc l) s s' t a (first-keeps s s' (left_at k (tree q u f)) (numbers t) (numbers_in (tree q u f)) (left-in k (tree q u f) lifted hi e) o but))
    (join-reads l s s' k (tree q u f) lifted hi r e (once-right (numbers t) (numbers_in (tree q u f)) o)
    (λ j c d. but j (in_right j (numbers t) (numbers_in (tree q u f)) c) d) new)

pub join-sane : (k : ℕ) → Sane (on_branches (join_at k))
unfolding Sane on_branches
join-sane k i f ms lo hi level e h =
    mends-node i f (join_at k f (shared lo hi) hi) ms lo hi level e h
    (join-mends k f (shared lo hi) lo hi (level - 1) (inner i f ms lo hi e).branches (tall-branches i f ms level h))

-- ONE STEP: node n, of level l + 2, at the place x; its children k and k + 1 join
module _ (s s' : List ℕ) (n : ℕ) (x : Reachable) (l k : ℕ) (e : sound s ≡ true) (len : length s' ≡ length s) (z : node_bytes s' 0 ≡ node_bytes s 0)
    (p : reachable_at n (reachable (tree_of s) (header_of s).levels lowest highest) ≡ some x) (level : x.level ≡ suc (suc l))
    (joined : pair_at k x.children (shared x.low x.high) x.high ≡ true)
    (top : node_bytes s' n ≡ page_for (suc (suc l)) (interior n (join_at k x.children (shared x.low x.high) x.high) x.messages))
    (left : node_bytes s' (left_at k x.children) ≡ page_for (suc l) (merged_at k x.children (shared x.low x.high) x.high))
    (rest : (j : ℕ) → eqb j n ≡ false → eqb j (left_at k x.children) ≡ false → node_bytes s' j ≡ node_bytes s j) where
  abbrev at : Site s n x l
  at = site s n x l e p level

  abbrev parts_of : Node l s x.children x.messages
  parts_of = node_of l s n x.children x.messages at.node

  branches-but : But s s' (left_at k x.children) (numbers_in x.children)
  branches-but j c d = rest j (ne_eqb j n (at.other j c)) d

  new-left : tree_at (suc l) s' (left_at k x.children) ≡ merged_at k x.children (shared x.low x.high) x.high
  new-left =
      merged-at-reads l s s' k x.children (shared x.low x.high) x.high parts_of.branches at.branches_tall joined at.branches_once branches-but left

  new-fits : size_of (child_entries (join_at k x.children (shared x.low x.high) x.high) ++ message_entries x.messages) ≤ 1016
  unfolding own_bytes entries_for
  new-fits = omega (arith, join-own n k x.children x.messages (shared x.low x.high) x.high, parts_of.fits)

  new-node : tree_at (suc (suc l)) s' n ≡ interior n (join_at k x.children (shared x.low x.high) x.high) x.messages
  unfolding page_for
  new-node =
      inner-reads l s' n (join_at k x.children (shared x.low x.high) x.high) x.messages top new-fits
      (join-short k x.children (shared x.low x.high) x.high (message_entries x.messages) parts_of.short)
      (join-reads l s s' k x.children (shared x.low x.high) x.high parts_of.branches joined at.branches_once branches-but new-left)

  changed : tree_at x.level s' n ≡ on_branches (join_at k) (tree_at x.level s n) x.low x.high
  unfolding on_branches
  changed =
      ap (λ m. tree_at m s' n) level ∙ new-node
      ∙ sym (ap (λ t. on_branches (join_at k) t x.low x.high) at.there)

  others : (j : ℕ) → is_in j (numbers (tree_of s)) ≡ true → is_in j (numbers (tree_at x.level s n)) ≡ false → node_bytes s' j ≡ node_bytes s j
  unfolding numbers is_in
  others j c d =
      let out : eqb j n || is_in j (numbers_in x.children) ≡ false = ap (λ t. is_in j (numbers t)) (sym at.there) ∙ d in
      rest j (or-none-left (eqb j n) (is_in j (numbers_in x.children)) out)
      (ne_eqb j (left_at k x.children) (λ q. not_so
      (ap (λ i. is_in i (numbers_in x.children)) q ∙ left-in k x.children (shared x.low x.high) x.high joined)
      (or-none-right (eqb j n) (is_in j (numbers_in x.children)) out)))

  big : 2 ≤ x.level
  big = omega (arith, level)

  -- the image is sound and means the same table
  pub step_keeps : (sound s' ≡ true) × (table_of s' ≡ table_of s)
  step_keeps = image-mends s s' n x (on_branches (join_at k)) big changed e len z p others (join-sane k)

  -- the first pair: the step of the loop
  pub step-first : k ≡ first_pair x.children (shared x.low x.high) x.high → tree_of s' ≡ altered (tree_of s) n (on_branches stepped) lowest highest
  unfolding on_branches stepped
  step-first first =
      let same : on_branches (join_at k) (tree_at x.level s n) x.low x.high ≡ on_branches stepped (tree_at x.level s n) x.low x.high =
      ap (λ t. on_branches (join_at k) t x.low x.high) at.there
      ∙ ap (λ m. interior n (join_at m x.children (shared x.low x.high) x.high) x.messages) first
      ∙ sym (ap (λ t. on_branches stepped t x.low x.high) at.there) in
      image-tree s s' n x (on_branches stepped) big (changed ∙ same) e z p others
