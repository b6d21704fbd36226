-- Laws for those who call the check: what its answer says of `sound`, of the live count, of `settled` and of the nodes in use.
-- Relies on Whole and on the laws of a tree with no message (laws: LiveCount).
use Rattle.std.specs.Prelude.{ℕ, suc, ◌+◌, ◌<◌, ◌≤◌, ◌≡◌, refl, List, [], ◌∷◌, Bool, true, false, ◌&&◌, length, leb, eqb, None, Some}
use Rattle.image.specs.Prelude.{sym, ap, ap₂, subst, ◌∙◌, false≢true, arith, eq-eqb, ne_eqb, eqb-true, eqb-false, leb-true, leb-false, le-leb}
use Rattle.image.specs.Image.{Tree, unread, leaf, interior, Forest, end, tree, nodes_of, header_of, tree_of}
use Rattle.image.specs.Sound.{sound, numbers, lowest, highest, table_of}
use Rattle.image.specs.Upkeep.{reachable, reachable_nodes, every, holds_no_message, settled}
use Rattle.laws.specs.Pieces.{still, still_in}
use Rattle.laws.specs.LiveCount.{pair_count, pairs-live, still-quiet, quiet-still}
use Rattle.tree_check.specs.declared.Tally.{Tally}
use Rattle.tree_check.specs.Answer.{Checked}
use Rattle.tree_check.specs.Count.{message_count, message_count_in, count_of, capped}
use Rattle.octets.specs.Cap.{cap, cap-small, cap-large}
use Rattle.tree_check.specs.Answer.{Counts}
use Rattle.laws.specs.ButLive.{sound_but_live, sound-live, parts_of}
use Rattle.tree_check.specs.Whole.{Marks, Marked, Verified}

-- an answer, used
pub record Established (image : List ℕ) (t : Tally) (seen : List ℕ) : Type 0 where
  pub rules : sound_but_live image ≡ true
  pub tally : t ≡ capped (count_of (tree_of image))
  pub reached : Marks image seen

pub verified-yes : (image : List ℕ) (r : Checked) (t : Tally) (seen : List ℕ) → Verified image r seen → r ≡ Some t → Established image t seen
unfolding Counts Marked
verified-yes image r t seen v e =
    record { rules = sym v.answer ∙ rw e; tally = subst (Counts (count_of (tree_of image))) e v.counts; reached = subst (Marked image seen) e v.marks }

pub verified-no : (image : List ℕ) (r : Checked) (seen : List ℕ) → Verified image r seen → r ≡ None → sound_but_live image ≡ false
verified-no image r seen v e = sym v.answer ∙ rw e

-- no message in any node
both_zero : (a b : ℕ) → eqb (a + b) 0 ≡ eqb a 0 && eqb b 0
both_zero a b = go (eqb a 0) refl
  where
    go : (x : Bool) → eqb a 0 ≡ x → eqb (a + b) 0 ≡ eqb a 0 && eqb b 0
    go true e = let z : a ≡ 0 = eqb-true a 0 e in let q : a + b ≡ b = omega arith in rw (e, q)
    go false e =
        let d : a ≡ 0 → ⊥ = eqb-false a 0 e in
        rw e (ne_eqb (a + b) 0 (λ h. d (omega arith)))

mutual
  unfolding still still_in message_count message_count_in

  pub still-none : (t : Tree) → still t ≡ eqb (message_count t) 0
  still-none (unread i) = refl
  still-none (leaf i rs) = refl
  still-none (interior i f []) = still-none-in f ∙ ap (λ n. eqb n 0) (zero-plus (message_count_in f))
    where
      zero-plus : (n : ℕ) → n ≡ 0 + n
      zero-plus n = omega arith
  still-none (interior i f (m ∷ ms)) = sym (ne_eqb (length (m ∷ ms) + message_count_in f) 0 (λ h. more (length ms) (message_count_in f) h))
    where
      more : (a b : ℕ) → suc a + b ≡ 0 → ⊥
      more a b h = omega arith

  pub still-none-in : (f : Forest) → still_in f ≡ eqb (message_count_in f) 0
  still-none-in end = refl
  still-none-in (tree s t f) = ap₂ (λ a b. a && b) (still-none t) (still-none-in f) ∙ sym (both_zero (message_count t) (message_count_in f))

-- the store is settled exactly when no message waits
pub settled-still : (image : List ℕ) → settled image ≡ still (tree_of image)
unfolding settled reachable_nodes
settled-still image = go (still (tree_of image)) refl (every holds_no_message (reachable (tree_of image) (header_of image).levels lowest highest)) refl
  where
    go : (a : Bool) → still (tree_of image) ≡ a → (b : Bool) → every holds_no_message (reachable (tree_of image) (header_of image).levels lowest highest) ≡ b
        → every holds_no_message (reachable (tree_of image) (header_of image).levels lowest highest) ≡ still (tree_of image)
    go true e b f = still-quiet (tree_of image) (header_of image).levels lowest highest e ∙ sym e
    go false e true f = absurd (false≢true (sym e ∙ quiet-still (tree_of image) (header_of image).levels lowest highest f))
    go false e false f = f ∙ sym e

pub settled-none : (image : List ℕ) → settled image ≡ eqb (message_count (tree_of image)) 0
settled-none image = settled-still image ∙ still-none (tree_of image)

pub none-still : (image : List ℕ) → message_count (tree_of image) ≡ 0 → still (tree_of image) ≡ true
none-still image h = still-none (tree_of image) ∙ eq-eqb (message_count (tree_of image)) 0 h

-- then the live count is the number of pairs
pub live-pairs : (image : List ℕ) → message_count (tree_of image) ≡ 0 → length (table_of image) ≡ pair_count (tree_of image)
unfolding table_of
live-pairs image h = pairs-live (tree_of image) lowest highest (none-still image h)

-- the tally of messages shows whether there is one
pub none-capped : (n : ℕ) → eqb (cap n) 0 ≡ eqb n 0
none-capped n = go (leb n 65535) refl
  where
    go : (b : Bool) → leb n 65535 ≡ b → eqb (cap n) 0 ≡ eqb n 0
    go true e = ap (λ k. eqb k 0) (cap-small n (leb-true n 65535 e))
    go false e =
        let k : 65535 < n = leb-false n 65535 e in
        ap (λ j. eqb j 0) (cap-large n (omega arith)) ∙ sym (ne_eqb n 0 (λ h. omega arith))

-- a live count of a store is compared with the capped number of pairs
pub live-capped : (live pairs : ℕ) → live ≤ 1024 → eqb live (cap pairs) ≡ eqb live pairs
live-capped live pairs h = go (leb pairs 65535) refl
  where
    go : (b : Bool) → leb pairs 65535 ≡ b → eqb live (cap pairs) ≡ eqb live pairs
    go true e = ap (λ k. eqb live k) (cap-small pairs (leb-true pairs 65535 e))
    go false e =
        let k : 65535 < pairs = leb-false pairs 65535 e in
        ap (λ j. eqb live j) (cap-large pairs (omega arith)) ∙ ne_eqb live 65535 (λ q. omega arith) ∙ sym (ne_eqb live pairs (λ q. omega arith))

-- the numbers that a tally shows
module _ (image : List ℕ) (t : Tally) (seen : List ℕ) (k : Established image t seen) where
  shown : t ≡ record { pairs = cap (pair_count (tree_of image)); messages = cap (message_count (tree_of image)); nodes = cap (length (numbers (tree_of image))) }
  unfolding capped count_of
  shown = k.tally

  -- a tally of no message says that the store is settled, and another that it is not
  pub messages-settled : eqb t.messages 0 ≡ settled image
  messages-settled =
      let n : t.messages ≡ cap (message_count (tree_of image)) = ap (λ (x : Tally). x.messages) shown in
      ap (λ x. eqb x 0) n ∙ none-capped (message_count (tree_of image)) ∙ sym (settled-none image)

  live_small : leb (header_of image).live (nodes_of (length image)) ≡ true
  live_small = le-leb (header_of image).live (nodes_of (length image)) (parts_of image k.rules).live_high

  -- and then the live count decides whether the image is sound
  pub sound-settled : nodes_of (length image) ≤ 1024 → t.messages ≡ 0 → sound image ≡ eqb (header_of image).live t.pairs
  sound-settled h e =
      let n : t.pairs ≡ cap (pair_count (tree_of image)) = ap (λ (x : Tally). x.pairs) shown in
      let m : cap (message_count (tree_of image)) ≡ 0 = sym (ap (λ (x : Tally). x.messages) shown) ∙ e in
      let z : message_count (tree_of image) ≡ 0
      = eqb-true (message_count (tree_of image)) 0 (sym (none-capped (message_count (tree_of image))) ∙ eq-eqb (cap (message_count (tree_of image))) 0 m) in
      let l : (header_of image).live ≤ nodes_of (length image) = leb-true (header_of image).live (nodes_of (length image)) live_small in
      sound-live image ∙ ap (λ b. b && eqb (header_of image).live (length (table_of image))) k.rules
      ∙ ap (λ x. eqb (header_of image).live x) (live-pairs image z)
      ∙ sym (ap (λ x. eqb (header_of image).live x) n ∙ live-capped (header_of image).live (pair_count (tree_of image)) (omega arith))
