-- A step of heal as two nodes written: what the code does is the tree with the pair merged, sound, and the same table.
-- The laws of specs/Upkeep/HealWrite that rest on a definition which a must-fail edit changes.
use Rattle.std.specs.Prelude.{ℕ, zero, suc, ◌+◌, ◌*◌, ◌≤◌, ◌<◌, ◌≡◌, List, ◌++◌, true, false, length, eqb}
use Rattle.image.specs.Prelude.{◌∙◌, false≢true, some, arith, eqb-false, ne_eqb}
use Rattle.image.specs.Bytes.{shared}
use Rattle.image.specs.Image.{interior, Forest, end, tree, node_bytes, nodes_of, header_of, tree_of}
use Rattle.image.specs.Meaning.{high_of}
use Rattle.image.specs.Sound.{sound, table_of, numbers_in, is_in, lowest, highest}
use Rattle.image.specs.Upkeep.{Reachable, reachable, reachable_at}
use Rattle.laws.specs.WriteNode.{write_node, write-length, write_same, write-other}
use Rattle.laws.specs.Upkeep.Merge.{tall, tall_in, merged-tall}
use Rattle.laws.specs.Page.{child_entries}
use Rattle.laws.specs.Upkeep.Size.{message_entries, entries_for, own_bytes}
use Rattle.laws.specs.Upkeep.Mends.{tall-first, tall-later}
use Rattle.laws.specs.Upkeep.Join.{join_at, first_pair}
use Rattle.laws.proofs.Upkeep.Join.{join-pair}
use Rattle.laws.specs.Upkeep.Steps.{stepped}
use Rattle.laws.specs.Upkeep.Alter.{altered, on_branches}
use Rattle.laws.proofs.Upkeep.Room.{merged-fits, join-own}
use Rattle.laws.specs.Upkeep.Page.{page-length}
use Rattle.laws.specs.Upkeep.Reading.{node_of}
use Rattle.laws.specs.Upkeep.HealImage.{page_for, pair_at, left_at, merged_at, left-in}
use Rattle.laws.proofs.Upkeep.HealImage.{step_keeps, step-first}
use Rattle.laws.specs.Upkeep.Site.{Site, site}
use Rattle.laws.specs.Upkeep.HealWrite.{page-for-length, whole-fits}

pub merged-at-fits : (k : ℕ) (f : Forest) (lifted hi : List ℕ) → pair_at k f lifted hi ≡ true → own_bytes (merged_at k f lifted hi) ≤ 1016
unfolding pair_at merged_at
merged-at-fits k end lifted hi e = absurd (false≢true e)
merged-at-fits k (tree s t end) lifted hi e = absurd (false≢true e)
merged-at-fits zero (tree s t (tree q u f)) lifted hi e = merged-fits t u (lifted ++ s) (lifted ++ q) (high_of lifted hi f) e
merged-at-fits (suc k) (tree s t (tree q u f)) lifted hi e = merged-at-fits k (tree q u f) lifted hi e

pub merged-at-tall : (k : ℕ) (f : Forest) (lifted hi : List ℕ) (level : ℕ) → tall_in f level ≡ true → pair_at k f lifted hi ≡ true → tall (merged_at k f lifted hi) level ≡ true
unfolding pair_at merged_at
merged-at-tall k end lifted hi level h e = absurd (false≢true e)
merged-at-tall k (tree s t end) lifted hi level h e = absurd (false≢true e)
merged-at-tall zero (tree s t (tree q u f)) lifted hi level h e =
    merged-tall (join-pair t u (lifted ++ s) (lifted ++ q) (high_of lifted hi f) e) (lifted ++ s) (lifted ++ q) (high_of lifted hi f) level
    (tall-first s t (tree q u f) level h) (tall-first q u f level (tall-later s t (tree q u f) level h))
merged-at-tall (suc k) (tree s t (tree q u f)) lifted hi level h e = merged-at-tall k (tree q u f) lifted hi level (tall-later s t (tree q u f) level h) e

module _ (s : List ℕ) (n : ℕ) (x : Reachable) (l k : ℕ) (e : sound s ≡ true)
    (p : reachable_at n (reachable (tree_of s) (header_of s).levels lowest highest) ≡ some x) (level : x.level ≡ suc (suc l))
    (joined : pair_at k x.children (shared x.low x.high) x.high ≡ true) where
  abbrev a : ℕ
  a = left_at k x.children

  abbrev page_a : List ℕ
  page_a = page_for (suc l) (merged_at k x.children (shared x.low x.high) x.high)

  abbrev page_n : List ℕ
  page_n = page_for (suc (suc l)) (interior n (join_at k x.children (shared x.low x.high) x.high) x.messages)

  -- the left one first, then the node
  abbrev pub step_bytes : List ℕ
  step_bytes = write_node (write_node s a page_a) n page_n

  abbrev at : Site s n x l
  at = site s n x l e p level

  a-branch : is_in a (numbers_in x.children) ≡ true
  a-branch = left-in k x.children (shared x.low x.high) x.high joined

  a-range : (1 ≤ a) × (a < nodes_of (length s))
  a-range = at.branch_range a a-branch

  full-a : length page_a ≡ 1024
  full-a =
      page-for-length (merged_at k x.children (shared x.low x.high) x.high) (suc l)
      (merged-at-tall k x.children (shared x.low x.high) x.high (suc l) at.branches_tall joined)
      (merged-at-fits k x.children (shared x.low x.high) x.high joined)

  full-n : length page_n ≡ 1024
  unfolding page_for own_bytes entries_for
  full-n =
      page-length 0x0002 (suc (suc l)) (child_entries (join_at k x.children (shared x.low x.high) x.high) ++ message_entries x.messages)
      (omega (arith, join-own n k x.children x.messages (shared x.low x.high) x.high, (node_of l s n x.children x.messages at.node).fits))

  fits-a : 1024 * a + 1024 ≤ length s
  fits-a = whole-fits (length s) a a-range.1

  first-length : length (write_node s a page_a) ≡ length s
  first-length = write-length s a page_a fits-a full-a

  fits-n : 1024 * n + 1024 ≤ length (write_node s a page_a)
  fits-n = omega (arith, whole-fits (length s) n at.range.1, first-length)

  pub wrote-length : length step_bytes ≡ length s
  wrote-length = write-length (write_node s a page_a) n page_n fits-n full-n ∙ first-length

  step-top : node_bytes step_bytes n ≡ page_n
  step-top = write_same (write_node s a page_a) n page_n fits-n full-n

  step_left : node_bytes step_bytes a ≡ page_a
  step_left = write-other (write_node s a page_a) n page_n fits-n full-n a (at.other a a-branch) ∙ write_same s a page_a fits-a full-a

  step-rest : (j : ℕ) → eqb j n ≡ false → eqb j a ≡ false → node_bytes step_bytes j ≡ node_bytes s j
  step-rest j b c =
      write-other (write_node s a page_a) n page_n fits-n full-n j (eqb-false j n b) ∙ write-other s a page_a fits-a full-a j (eqb-false j a c)

  pub wrote-zero : node_bytes step_bytes 0 ≡ node_bytes s 0
  wrote-zero = step-rest 0 (ne_eqb 0 n (λ q. omega (arith, at.range.0))) (ne_eqb 0 a (λ q. omega (arith, a-range.0)))

  pub wrote-first : k ≡ first_pair x.children (shared x.low x.high) x.high → tree_of step_bytes ≡ altered (tree_of s) n (on_branches stepped) lowest highest
  wrote-first q = step-first s step_bytes n x l k e wrote-length wrote-zero p level joined step-top step_left step-rest q

  pub wrote-keeps : (sound step_bytes ≡ true) × (table_of step_bytes ≡ table_of s)
  wrote-keeps = step_keeps s step_bytes n x l k e wrote-length wrote-zero p level joined step-top step_left step-rest
