-- Step lemmas of the functions that note the messages of a node, and of those that hold entries against a rest.
use Rattle.std.specs.Prelude.{ℕ, ◌≡◌, refl, List, [], ◌∷◌, ◌++◌, Bool, true, false, ◌&&◌, not, IsSome}
use Rattle.image.specs.Prelude.{sym, ap, ◌∙◌, and-true}
use Rattle.image.specs.Path.{owns}
use Rattle.image.specs.Entry as defined
use Rattle.image.specs.Meaning.{Said, nothing, says, newer}
use Rattle.octets.specs.Order.{and_assoc}
use Rattle.node.specs.Lent.{entry_is}
use Rattle.node.specs.Search.Latest.{newest_among, entry_says, covers}
use Rattle.node.specs.Search.Messages.{is_message, has_message}
use Rattle.node.specs.declared.entries.Entry.{Entry}
use Rattle.node.specs.declared.entries.Message.{Message}
use Rattle.live_count.specs.declared.notes.Note.{Note}
use Rattle.live_count.specs.declared.notes.Notes.{Notes}
use Rattle.live_count.specs.Live.{holds_no_message}
use Rattle.live_count.specs.Notes.Notes.{note_covers, silent, Gathered, entry_not_covers, none_covers, Uncovered, Same}

-- messages that say nothing cover nothing, one by one
no-newer : (a b : Said) → holds_no_message (newer a b) ≡ not (covers a) && holds_no_message b
unfolding holds_no_message newer covers
no-newer nothing nothing = refl
no-newer nothing (says v) = refl
no-newer (says u) nothing = refl
no-newer (says u) (says v) = refl

pub uncovered-all : (es : List defined.Entry) (r : List ℕ) → holds_no_message (newest_among es r) ≡ none_covers es r
unfolding newest_among none_covers
uncovered-all [] r = unfold holds_no_message in refl
uncovered-all (e ∷ es) r = no-newer (entry_says e r) (newest_among es r) ∙ ap (λ x. not (covers (entry_says e r)) && x) (uncovered-all es r)

-- entries held against a rest one by one
module _ (es : List defined.Entry) (r : List ℕ) (answer : Bool) (inv : none_covers es r ≡ answer) where
  pub uncovered-end : es ≡ [] → true ≡ answer
  unfolding none_covers
  uncovered-end q = rw q at inv

  module _ (e : defined.Entry) (ts : List defined.Entry) (q : es ≡ e ∷ ts) where
    here-uncovered : entry_not_covers e r && none_covers ts r ≡ answer
    unfolding none_covers
    here-uncovered = rw q at inv

    pub uncovered-stop : (v : Note) → Same e v → note_covers v r ≡ true → false ≡ answer
    uncovered-stop v h t = ap (λ x. x && none_covers ts r) (sym (h r ∙ ap not t)) ∙ here-uncovered

    pub uncovered-on : (v : Note) → Same e v → note_covers v r ≡ false → none_covers ts r ≡ answer
    uncovered-on v h t = ap (λ x. x && none_covers ts r) (sym (h r ∙ ap not t)) ∙ here-uncovered

    pub uncovered-past : Uncovered e → none_covers ts r ≡ answer
    uncovered-past h = ap (λ x. x && none_covers ts r) (sym (h r)) ∙ here-uncovered

-- whether a message is among entries
module _ (es : List defined.Entry) (answer : Bool) (inv : has_message es ≡ answer) where
  pub message-none : es ≡ [] → false ≡ answer
  unfolding has_message
  message-none q = rw q at inv

  module _ (e : Entry) (ts : List defined.Entry) (q : es ≡ entry_is e ∷ ts) where
    pub message-here : (m : Message) → e ≡ Entry.Message m → true ≡ answer
    unfolding has_message is_message
    message-here m f = rw (q, f) at inv

    pub message-later : ((m : Message) → e ≡ Entry.Message m → ⊥) → has_message ts ≡ answer
    unfolding has_message is_message
    message-later h = go e q h
      where
        go : (e : Entry) → es ≡ entry_is e ∷ ts → ((m : Message) → e ≡ Entry.Message m → ⊥) → has_message ts ≡ answer
        go (Entry.Pair k v) q h = rw q at inv
        go (Entry.Child i k) q h = rw q at inv
        go (Entry.Message m) q h = absurd (h m refl)

-- what is noted after nothing, after one message, and after more
pub gathered-none : (lo hi : List ℕ) (test : List ℕ → Bool) (n : Notes) → ((k : List ℕ) → owns lo hi k ≡ true → test k ≡ true) → Gathered lo hi test n n
gathered-none lo hi test n h = record { room = λ s. s; tells = λ s k o. sym (ap (λ x. silent n k && x) (h k o) ∙ and-true (silent n k)) }

pub gathered-as : (lo hi : List ℕ) (test told : List ℕ → Bool) (a b : Notes) → ((k : List ℕ) → owns lo hi k ≡ true → test k ≡ told k) → Gathered lo hi told a b → Gathered lo hi test a b
gathered-as lo hi test told a b h g = record { room = g.room; tells = λ s k o. g.tells s k o ∙ ap (λ x. silent a k && x) (sym (h k o)) }

pub gathered-more : (lo hi : List ℕ) (first next both : List ℕ → Bool) (a b c : Notes) → Gathered lo hi first a b → Gathered lo hi next b c
    → ((k : List ℕ) → owns lo hi k ≡ true → both k ≡ first k && next k) → Gathered lo hi both a c
gathered-more lo hi first next both a b c f g h =
    record {
      room = λ s. f.room (g.room s);
      tells = λ s k o.
          g.tells s k o ∙ ap (λ x. x && next k) (f.tells (g.room s) k o)
          ∙ and_assoc (silent a k) (first k) (next k) ∙ ap (λ x. silent a k && x) (sym (h k o));
    }

-- a note that says of the keys what another does
pub add-one-note : (lo hi after : List ℕ) (v : Note) (test : List ℕ → Bool) (a b : Notes) → ((k : List ℕ) → owns lo hi k ≡ true → note_covers v (after ++ k) ≡ test k)
    → ((lo hi : List ℕ) → Gathered lo hi (λ k. not (test k)) a b) → Gathered lo hi (λ k. not (note_covers v (after ++ k))) a b
add-one-note lo hi after v test a b h g = gathered-as lo hi (λ k. not (note_covers v (after ++ k))) (λ k. not (test k)) a b (λ k o. ap not (h k o)) (g lo hi)

-- the loop over the entries: the notes so far, and the entries left, tell what the notes before and all the entries do
pub record Noting (lo hi after : List ℕ) (first now : Notes) (all left : List defined.Entry) : Type 0 where
  pub room : IsSome now.count → IsSome first.count
  pub tells : IsSome now.count → (k : List ℕ) → owns lo hi k ≡ true → silent now k && none_covers left (after ++ k) ≡ silent first k && none_covers all (after ++ k)

module _ (lo hi after : List ℕ) (first : Notes) (all : List defined.Entry) where
  module _ (now : Notes) (left : List defined.Entry) (inv : Noting lo hi after first now all left) where
    pub noting-end : left ≡ [] → Gathered lo hi (λ k. none_covers all (after ++ k)) first now
    unfolding none_covers
    noting-end q = record { room = inv.room; tells = λ s k o. sym (and-true (silent now k)) ∙ sym (ap (λ es. silent now k && none_covers es (after ++ k)) q) ∙ inv.tells s k o }

    module _ (e : defined.Entry) (ts : List defined.Entry) (q : left ≡ e ∷ ts) where
      pub noting-past : Uncovered e → Noting lo hi after first now all ts
      unfolding none_covers
      noting-past h =
          record {
            room = inv.room;
            tells = λ s k o. sym (ap (λ es. silent now k && none_covers es (after ++ k)) q ∙ ap (λ x. silent now k && (x && none_covers ts (after ++ k))) (h (after ++ k))) ∙ inv.tells s k o;
          }

      pub noting-on : (v : Note) (next : Notes) → Same e v → Gathered lo hi (λ k. not (note_covers v (after ++ k))) now next → Noting lo hi after first next all ts
      unfolding none_covers
      noting-on v next h g =
          record {
            room = λ s. inv.room (g.room s);
            tells = λ s k o.
                ap (λ x. x && none_covers ts (after ++ k)) (g.tells s k o ∙ ap (λ x. silent now k && x) (sym (h (after ++ k))))
                ∙ and_assoc (silent now k) (entry_not_covers e (after ++ k)) (none_covers ts (after ++ k))
                ∙ sym (ap (λ es. silent now k && none_covers es (after ++ k)) q) ∙ inv.tells (g.room s) k o;
          }
