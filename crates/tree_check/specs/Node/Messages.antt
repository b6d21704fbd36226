-- The walk over the messages that a node holds, entry by entry.
-- Relies on Inside, which defines it, and on node's reading of an entry (Lent).
use Rattle.std.specs.Prelude.{ℕ, ◌≡◌, refl, List, [], ◌∷◌, Bool, true, false, ◌&&◌, length}
use Rattle.image.specs.Prelude.{sym, ap, ◌∙◌, and-false, Option, none, some, arith}
use Rattle.image.specs.Bytes.{same}
use Rattle.image.specs.Entry as defined
use Rattle.path.specs.Shape.{Shape, goes_on}
use Rattle.laws.specs.Reading.SoundHere.{message_here}
use Rattle.node.specs.Lent.{message_is, entry_is, Unread, Leads}
use Rattle.node.specs.declared.entries.Message.{Message}
use Rattle.node.specs.declared.entries.Entry.{Entry}
use Rattle.tree_check.specs.Node.Inside.{messages_run}

module _ (sh : Shape) (lo hi : List ℕ) where
  run-message : (m : defined.Message) (y : Option (List defined.Entry)) → messages_run sh lo hi (defined.entry_then (some (defined.message m)) y) ≡ message_here sh lo hi m && messages_run sh lo hi y
  unfolding messages_run defined.entry_then
  run-message m none = sym (and-false (message_here sh lo hi m))
  run-message m (some es) = refl

  run-other : (e : Entry) (y : Option (List defined.Entry)) → ((m : Message) → e ≡ Entry.Message m → ⊥) → messages_run sh lo hi (defined.entry_then (some (entry_is e)) y) ≡ false
  unfolding messages_run defined.entry_then
  run-other (Entry.Pair k v) none h = refl
  run-other (Entry.Pair k v) (some es) h = refl
  run-other (Entry.Child i k) none h = refl
  run-other (Entry.Child i k) (some es) h = refl
  run-other (Entry.Message m) y h = absurd (h m refl)

  pub notes-unread : (b : List ℕ) (answer : Bool) → (length b ≡ 0 → ⊥) → Unread b → messages_run sh lo hi (defined.entries_of b) ≡ answer → false ≡ answer
  unfolding messages_run
  notes-unread [] answer h u inv = absurd (h refl)
  notes-unread (c ∷ b) answer h u inv = rw (u.first (omega arith)) at inv

  pub notes-end : (b : List ℕ) (answer : Bool) → length b ≡ 0 → messages_run sh lo hi (defined.entries_of b) ≡ answer → true ≡ answer
  notes-end [] answer h inv = unfold messages_run defined.entries_of defined.read_all in inv
  notes-end (c ∷ b) answer h inv = absurd (omega arith)

  module _ (b r : List ℕ) (e : Entry) (l : Leads b e r) (answer : Bool) (inv : messages_run sh lo hi (defined.entries_of b) ≡ answer) where
    pub notes-other : ((m : Message) → e ≡ Entry.Message m → ⊥) → false ≡ answer
    notes-other h = sym (run-other e (defined.entries_of r) h) ∙ ap (λ o. messages_run sh lo hi o) (sym l.first) ∙ inv

    module _ (m : Message) (q : e ≡ Entry.Message m) (x : Bool) (g : x ≡ message_here sh lo hi (message_is m)) where
      step_is : x && messages_run sh lo hi (defined.entries_of r) ≡ answer
      step_is =
          ap (λ z. z && messages_run sh lo hi (defined.entries_of r)) g
          ∙ sym (run-message (message_is m) (defined.entries_of r))
          ∙ ap (λ z. messages_run sh lo hi (defined.entry_then (some (entry_is z)) (defined.entries_of r))) (sym q)
          ∙ ap (λ o. messages_run sh lo hi o) (sym l.first) ∙ inv

      pub notes-stop : x ≡ false → false ≡ answer
      notes-stop f = rw f at step_is

      pub notes-on : x ≡ true → messages_run sh lo hi (defined.entries_of r) ≡ answer
      notes-on f = rw f at step_is

  -- a clear of more than nothing
  pub clear-shape : (k : List ℕ) (x : Bool) → (length k ≡ 0 → ⊥) → x ≡ goes_on sh k → x ≡ message_here sh lo hi (defined.clears k)
  unfolding message_here same
  clear-shape [] x h e = absurd (h refl)
  clear-shape (c ∷ k) x h e = e
