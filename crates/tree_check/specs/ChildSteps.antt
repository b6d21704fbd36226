-- The exits of the check of a child, of the children that follow it, and of the messages after them.
-- Relies on the walk over an interior node's entries (Node/Inside) and on Sequence.
use Rattle.std.specs.Prelude.{ℕ, ◌-◌, ◌≡◌, refl, List, [], ◌∷◌, Bool, true, false, cond, length, take, drop, None, Some}
use Rattle.image.specs.Prelude.{sym, ap, ap₂, ◌∙◌, Option, none, some, arith}
use Rattle.image.specs.Bytes.{before, shared}
use Rattle.image.specs.Path.{owns}
use Rattle.image.specs.Entry as defined
use Rattle.image.specs.Image.{nodes_of, tree_at}
use Rattle.octets.specs.Order.{and-false}
use Rattle.laws.specs.Reading.Relative.{lifts}
use Rattle.path.specs.Shape.{Shape, feed}
use Rattle.octets.specs.Beginnings.{take_part}
use Rattle.laws.specs.Reading.Visit.{onward, visit}
use Rattle.node.specs.Entries.{list_of}
use Rattle.node.specs.Lent.{Unread}
use Rattle.lookup.specs.Look.{part-rest}
use Rattle.tree_check.specs.Node.Inside.{messages_run, child_run, branches_list, branches_run, branches-step, onward-some, onward-none}
use Rattle.tree_check.specs.declared.Tally.{Tally}
use Rattle.octets.specs.Cap.{cap}
use Rattle.tree_check.specs.Count.{Count, plus, count_of, only_messages, last_count, branches_count, tally_sum}
use Rattle.tree_check.specs.CountLaws.{messages-capped, count-end, count-more}
use Rattle.tree_check.specs.Answer.{Checked, Checks, unsound, all_sound, checks-as}
use Rattle.tree_check.specs.Walk.{node_run, last_run}
use Rattle.tree_check.specs.First.{child_first, child_leads, Childless, Begins}
use Rattle.tree_check.specs.Sequence.{Passed, passed-as, one-stops, one-passed}

-- messages
module _ (b : Bool) (n : ℕ) where
  pub messages-unsound : b ≡ false → (seen : List ℕ) → Checks (cond b (some seen) none) (only_messages n) None seen
  messages-unsound e seen = unsound (cond b (some seen) none) (only_messages n) seen (rw e)

  pub messages-sound : b ≡ true → (k : ℕ) → k ≡ cap n → (seen : List ℕ)
      → Checks (cond b (some seen) none) (only_messages n) (Some (record { pairs = 0; messages = k; nodes = 0 })) seen
  messages-sound e k ek seen =
      all_sound (cond b (some seen) none) (only_messages n) (record { pairs = 0; messages = k; nodes = 0 }) seen (rw e) (messages-capped k n ek)

-- one child
module _ (level : ℕ) (s : List ℕ) (sh : Shape) (lo hi : List ℕ) (i : ℕ) (low high seen : List ℕ) where
  abbrev pub Child : Checked → List ℕ → Type 0
  Child r after = Checks (child_run (node_run level s) sh lo hi i low high seen) (count_of (tree_at level s i)) r after

  out_none : owns lo hi low ≡ false → child_run (node_run level s) sh lo hi i low high seen ≡ none
  unfolding child_run
  out_none e = rw e

  flat-none : before low high ≡ false → child_run (node_run level s) sh lo hi i low high seen ≡ none
  unfolding child_run
  flat-none e = rw (e, and-false (owns lo hi low))

  by-node : owns lo hi low ≡ true → before low high ≡ true
      → node_run level s i (feed sh (shared low high)) (drop (lifts low high) low) (drop (lifts low high) high) seen ≡ child_run (node_run level s) sh lo hi i low high seen
  unfolding child_run
  by-node e f = rw (e, f)

  of_node : (y : Shape) (p q : List ℕ) → visit (tree_at level s i) (nodes_of (length s)) y p q seen ≡ node_run level s i y p q seen
  unfolding node_run
  of_node y p q = refl

  lifted : (k : ℕ) → k ≡ length (shared low high) → k ≡ lifts low high
  unfolding lifts
  lifted k e = e

  pub child-out : (b : Bool) → b ≡ owns lo hi low → b ≡ false → (after : List ℕ) → Child None after
  child-out b e f after = unsound (child_run (node_run level s) sh lo hi i low high seen) (count_of (tree_at level s i)) after (out_none (sym e ∙ f))

  pub child-flat : (b : Bool) → b ≡ before low high → b ≡ false → (after : List ℕ) → Child None after
  child-flat b e f after = unsound (child_run (node_run level s) sh lo hi i low high seen) (count_of (tree_at level s i)) after (flat-none (sym e ∙ f))

  pub child-walk : (a b : Bool) → a ≡ owns lo hi low → a ≡ true → b ≡ before low high → b ≡ true → (k m : ℕ) → k ≡ length (shared low high) → m ≡ k
      → (z : Shape) → z ≡ feed sh (take m low) → (r : Checked) (after : List ℕ)
      → Checks (visit (tree_at level s i) (nodes_of (length s)) z (take (length low - k) (drop k low)) (take (length high - k) (drop k high)) seen) (count_of (tree_at level s i)) r after
      → Child r after
  child-walk a b ea fa eb fb k m ek em z ez r after h =
      checks-as (visit (tree_at level s i) (nodes_of (length s)) z (take (length low - k) (drop k low)) (take (length high - k) (drop k high)) seen)
      (child_run (node_run level s) sh lo hi i low high seen) (count_of (tree_at level s i)) (count_of (tree_at level s i)) r after
      (ap₂ (λ p q. visit (tree_at level s i) (nodes_of (length s)) z p q seen) (part-rest k low) (part-rest k high)
      ∙ ap₂ (λ y n. visit (tree_at level s i) (nodes_of (length s)) y (drop n low) (drop n high) seen) (ez ∙ ap (λ p. feed sh p) (take_part low high m (em ∙ ek))) (lifted k ek)
      ∙ of_node (feed sh (shared low high)) (drop (lifts low high) low) (drop (lifts low high) high)
      ∙ by-node (sym ea ∙ fa) (sym eb ∙ fb))
      refl h

-- the child in hand, and the bytes behind it
module _ (level : ℕ) (s : List ℕ) (sh : Shape) (lo hi : List ℕ) (i : ℕ) (low b seen : List ℕ) where
  -- what the walk over them leaves, and what they hold
  abbrev marked : Option (List ℕ)
  marked = branches_run (node_run level s) sh lo hi i low (defined.entries_of b) seen

  abbrev Y : Count
  Y = branches_count (tree_at level s) i (list_of b)

  -- of a whole walk and a whole count, these are left
  abbrev pub ListLeft : Option (List ℕ) → Count → Tally → Type 0
  ListLeft run count total = Passed run count marked Y total

  -- another child follows
  module _ (j : ℕ) (q r : List ℕ) (g : Begins b j q r) where
    more : marked ≡ onward (child_run (node_run level s) sh lo hi i low q seen) (λ after. branches_run (node_run level s) sh lo hi j q (defined.entries_of r) after)
    more = ap (λ o. branches_run (node_run level s) sh lo hi i low o seen) g.whole ∙ branches-step (node_run level s) sh lo hi i low j q (defined.entries_of r) seen

    more-count : Y ≡ plus (count_of (tree_at level s i)) (branches_count (tree_at level s) j (list_of r))
    more-count = sym (count-more (tree_at level s) i j q (list_of b) (list_of r) g.lists)

    module _ (run : Option (List ℕ)) (count : Count) (total : Tally) (p : ListLeft run count total) (v : Checked) (after : List ℕ) (h : Child level s sh lo hi i low q seen v after) where
      pub child-stops : v ≡ None → (z : List ℕ) → Checks run count None z
      child-stops e z =
          one-stops run count marked Y total p v after (child_run (node_run level s) sh lo hi i low q seen)
          (λ a. branches_run (node_run level s) sh lo hi j q (defined.entries_of r) a)
          (count_of (tree_at level s i)) (branches_count (tree_at level s) j (list_of r)) more more-count h e z

      pub child-passed : (t w : Tally) → v ≡ Some t → w ≡ tally_sum total t
          → Passed run count (branches_run (node_run level s) sh lo hi j q (defined.entries_of r) after) (branches_count (tree_at level s) j (list_of r)) w
      child-passed t w e j' =
          one-passed run count marked Y total p v after (child_run (node_run level s) sh lo hi i low q seen)
          (λ a. branches_run (node_run level s) sh lo hi j q (defined.entries_of r) a)
          (count_of (tree_at level s i)) (branches_count (tree_at level s) j (list_of r)) more more-count h t w e j'

  -- there are bytes that no entry begins
  unread-none : (o : Option (List defined.Entry)) → o ≡ none → branches_run (node_run level s) sh lo hi i low o seen ≡ none
  unfolding branches_run
  unread-none o e = rw e

  pub unread-stops : (run : Option (List ℕ)) (count : Count) (total : Tally) → ListLeft run count total → (length b ≡ 0 → ⊥) → Unread b → (z : List ℕ) → Checks run count None z
  unread-stops run count total p h u z = unsound run count z (p.walk ∙ unread-none (defined.entries_of b) (u.first (omega (arith, h))))

  -- no other child follows
  module _ (g : Childless b) where
    ends-run : (o : Option (List defined.Entry)) → child_leads o ≡ false
        → branches_run (node_run level s) sh lo hi i low o seen ≡ last_run (node_run level s) sh lo hi i low o seen
    unfolding child_leads child_first branches_run branches_list messages_run
    ends-run none h = onward-none (child_run (node_run level s) sh lo hi i low hi seen)
    ends-run (some []) h = onward-some (child_run (node_run level s) sh lo hi i low hi seen)
    ends-run (some (defined.pair k v ∷ es)) h = onward-none (child_run (node_run level s) sh lo hi i low hi seen)
    ends-run (some (defined.child j q ∷ es)) h = let z : ◌≡◌ {A = ℕ} 0 1 = cc in absurd (omega arith)
    ends-run (some (defined.message m ∷ es)) h = refl

    count-rest : (l : List defined.Entry) → child_first l ≡ false → branches_count (tree_at level s) i l ≡ last_count (tree_at level s) i l
    unfolding child_first
    count-rest [] h = sym (count-end (tree_at level s) i [] refl)
    count-rest (defined.pair k v ∷ es) h = unfold branches_count in refl
    count-rest (defined.child j q ∷ es) h = let z : ◌≡◌ {A = ℕ} 0 1 = cc in absurd (omega arith)
    count-rest (defined.message m ∷ es) h = unfold branches_count in refl

    -- the messages that wait behind the children
    abbrev pub Waiting : List ℕ → Option (List ℕ)
    Waiting after = cond (messages_run sh lo hi (defined.entries_of b)) (some after) none

    module _ (run : Option (List ℕ)) (count : Count) (total : Tally) (p : ListLeft run count total) (v : Checked) (after : List ℕ) (h : Child level s sh lo hi i low hi seen v after) where
      last : Passed run count (last_run (node_run level s) sh lo hi i low (defined.entries_of b) seen) (last_count (tree_at level s) i (list_of b)) total
      last =
          passed-as run count marked (last_run (node_run level s) sh lo hi i low (defined.entries_of b) seen) Y (last_count (tree_at level s) i (list_of b)) total
          (ends-run (defined.entries_of b) g.whole) (count-rest (list_of b) g.lists) p

      pub last-stops : v ≡ None → (z : List ℕ) → Checks run count None z
      last-stops e z =
          one-stops run count (last_run (node_run level s) sh lo hi i low (defined.entries_of b) seen) (last_count (tree_at level s) i (list_of b)) total last v after
          (child_run (node_run level s) sh lo hi i low hi seen) Waiting (count_of (tree_at level s i)) (only_messages (length (list_of b))) refl refl h e z

      pub last-passed : (t w : Tally) → v ≡ Some t → w ≡ tally_sum total t → Passed run count (Waiting after) (only_messages (length (list_of b))) w
      last-passed t w e j =
          one-passed run count (last_run (node_run level s) sh lo hi i low (defined.entries_of b) seen) (last_count (tree_at level s) i (list_of b)) total last v after
          (child_run (node_run level s) sh lo hi i low hi seen) Waiting (count_of (tree_at level s i)) (only_messages (length (list_of b))) refl refl h t w e j
