-- The child that bytes begin with, and the first one of an interior node, whose pivot is to be the node's own low one.
-- Relies on Walk and Layout, and on node's reading of an entry (Lent).
use Rattle.std.specs.Prelude.{ℕ, ◌+◌, ◌*◌, ◌<◌, ◌≤◌, ◌≡◌, refl, List, [], ◌∷◌, Bool, true, false, length}
use Rattle.std.specs.Borrow.{Bor}
use Rattle.image.specs.Prelude.{sym, ap, ◌∙◌, Option, none, some, arith}
use Rattle.image.specs.Bytes.{u16, same}
use Rattle.image.specs.Entry as defined
use Rattle.image.specs.Image.{node_bytes, laid_out, node_entries}
use Rattle.octets.specs.Order.{same-eq}
use Rattle.node.specs.Cut.{cut}
use Rattle.node.specs.Entries.{list_of}
use Rattle.node.specs.Lent.{entry_is, Unread, Leads}
use Rattle.node.specs.declared.entries.Entry.{Entry}
use Rattle.tree_check.specs.Walk.{headed}
use Rattle.tree_check.specs.Layout.{entries_at, entries_none}

-- THE CHILD IN FRONT
unfoldable pub child_first : List defined.Entry → Bool
child_first [] = false
child_first (defined.pair k v ∷ es) = false
child_first (defined.child j q ∷ es) = true
child_first (defined.message m ∷ es) = false

unfoldable pub child_leads : Option (List defined.Entry) → Bool
child_leads none = false
child_leads (some es) = child_first es

-- bytes that a child does not begin; a child with its pivot, and the bytes behind it
pub record Childless (b : List ℕ) : Type 0 where
  pub whole : child_leads (defined.entries_of b) ≡ false
  pub lists : child_first (list_of b) ≡ false

pub record Begins (b : List ℕ) (j : ℕ) (q r : List ℕ) : Type 0 where
  pub whole : defined.entries_of b ≡ defined.entry_then (some (defined.child j q)) (defined.entries_of r)
  pub lists : list_of b ≡ defined.child j q ∷ list_of r
  pub shorter : length r < length b

no_list : (l : List defined.Entry) → l ≡ [] → child_first l ≡ false
unfolding child_first
no_list l e = rw e

unread_leads : (b : List ℕ) → Unread b → child_leads (defined.entries_of b) ≡ false
unfolding child_leads
unread_leads [] u = unfold child_first defined.entries_of defined.read_all in refl
unread_leads (c ∷ b) u = rw (u.first (omega arith))

pub unread-childless : (b : List ℕ) → Unread b → Childless b
unread-childless b u = record { whole = unread_leads b u; lists = no_list (list_of b) u.lists }

module _ (e : Entry) (h : (i : ℕ) (k : Bor (List ℕ)) → e ≡ Entry.Child i k → ⊥) where
  other-first : (es : List defined.Entry) → child_first (entry_is e ∷ es) ≡ false
  other-first es = go e h
    where
      go : (e : Entry) → ((i : ℕ) (k : Bor (List ℕ)) → e ≡ Entry.Child i k → ⊥) → child_first (entry_is e ∷ es) ≡ false
      go (Entry.Pair k v) h = unfold child_first in refl
      go (Entry.Child i k) h = absurd (h i k refl)
      go (Entry.Message m) h = unfold child_first in refl

  other-leads : (y : Option (List defined.Entry)) → child_leads (defined.entry_then (some (entry_is e)) y) ≡ false
  unfolding child_leads defined.entry_then
  other-leads none = refl
  other-leads (some es) = other-first es

  pub other-childless : (b r : List ℕ) → Leads b e r → Childless b
  other-childless b r l = record { whole = ap child_leads l.first ∙ other-leads (defined.entries_of r); lists = ap child_first l.lists ∙ other-first (list_of r) }

pub child-begins : (b : List ℕ) (e : Entry) (r : List ℕ) → Leads b e r → (i : ℕ) (k : Bor (List ℕ)) → e ≡ Entry.Child i k → Begins b i k.now r
child-begins b e r l i k q =
    record {
      whole = l.first ∙ ap (λ x. defined.entry_then (some (entry_is x)) (defined.entries_of r)) q;
      lists = l.lists ∙ ap (λ x. entry_is x ∷ list_of r) q;
      shorter = let w = l.shorter in omega arith;
    }

-- THE FIRST CHILD
-- no first child with this pivot; the first child, with its pivot and the bytes behind it
abbrev pub NoFirst : List ℕ → ℕ → ℕ → List ℕ → Type 0
NoFirst s i level lo = headed lo (node_entries 0x0002 level (node_bytes s i)) ≡ false

abbrev pub FirstOf : List ℕ → ℕ → ℕ → List ℕ → ℕ → List ℕ → Type 0
FirstOf s i level lo j r = node_entries 0x0002 level (node_bytes s i) ≡ defined.entry_then (some (defined.child j lo)) (defined.entries_of r)

headed-none : (lo : List ℕ) (o : Option (List defined.Entry)) → o ≡ none → headed lo o ≡ false
unfolding headed
headed-none lo o e = rw e

headed-other : (lo : List ℕ) (o : Option (List defined.Entry)) → child_leads o ≡ false → headed lo o ≡ false
unfolding headed child_leads child_first
headed-other lo none h = refl
headed-other lo (some []) h = refl
headed-other lo (some (defined.pair k v ∷ es)) h = refl
headed-other lo (some (defined.child j q ∷ es)) h = let z : ◌≡◌ {A = ℕ} 0 1 = cc in absurd (omega arith)
headed-other lo (some (defined.message m ∷ es)) h = refl

headed-child : (lo : List ℕ) (j : ℕ) (q : List ℕ) (y : Option (List defined.Entry)) → same q lo ≡ false → headed lo (defined.entry_then (some (defined.child j q)) y) ≡ false
unfolding headed defined.entry_then
headed-child lo j q none h = refl
headed-child lo j q (some es) h = h

-- the exits of the reader
module _ (s : List ℕ) (i level : ℕ) (lo : List ℕ) (inside : i * 1024 + 1024 ≤ length s) (x : Bool) (ex : x ≡ laid_out 2 level (node_bytes s i)) where
  pub not-laid : x ≡ false → NoFirst s i level lo
  not-laid f = headed-none lo (node_entries 0x0002 level (node_bytes s i)) (entries_none s i 2 level inside (sym ex ∙ f))

  module _ (f : x ≡ true) (b : List ℕ) (eb : b ≡ cut s (i * 1024 + 8) (i * 1024 + 8 + u16 s (i * 1024))) where
    at-node : node_entries 0x0002 level (node_bytes s i) ≡ defined.entries_of b
    at-node = entries_at s i 2 level inside b eb (sym ex ∙ f)

    pub no-child : Childless b → NoFirst s i level lo
    no-child c = ap (λ o. headed lo o) at-node ∙ headed-other lo (defined.entries_of b) c.whole

    module _ (j : ℕ) (q r : List ℕ) (g : Begins b j q r) (t : Bool) (et : t ≡ same q lo) where
      pub other-pivot : t ≡ false → NoFirst s i level lo
      other-pivot h = ap (λ o. headed lo o) (at-node ∙ g.whole) ∙ headed-child lo j q (defined.entries_of r) (sym et ∙ h)

      pub first-child : t ≡ true → FirstOf s i level lo j r
      first-child h = at-node ∙ g.whole ∙ ap (λ p. defined.entry_then (some (defined.child j p)) (defined.entries_of r)) (same-eq q lo (sym et ∙ h))
