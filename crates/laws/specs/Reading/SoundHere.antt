-- Soundness told from inside a node: pivots and suffixes are without the lifted bytes, which are there only as a path shape.
-- `sound-here`: it is the definition of soundness, as an equation without hypotheses.
use Rattle.std.specs.Prelude.{ℕ, ◌≡◌, refl, List, [], ◌∷◌, ◌++◌, Bool, true, false, ◌&&◌, ◌||◌, drop}
use Rattle.image.specs.Prelude.{sym, ap, ap₂, ◌∙◌}
use Rattle.image.specs.Bytes.{same, before, shared}
use Rattle.image.specs.Path.{well_formed, owns, value_fits}
use Rattle.image.specs.Entry.{Message, puts, drops, clears}
use Rattle.image.specs.Table.{Row, every_key, rising, under_prefix}
use Rattle.image.specs.Image.{Tree, unread, leaf, interior, Forest, end, tree}
use Rattle.image.specs.Meaning.{high_of}
use Rattle.image.specs.Sound.{values_fit, sound_message, sound_messages, first_pivot, sound_tree, sound_forest}
use Rattle.octets.specs.Beginnings.{shared-left}
use Rattle.octets.specs.Order.{same-append, before-append, shared-append, begins-split}
use Rattle.path.specs.Shape.{Shape, feed, goes_on, feed-append, fresh, shape-is}
use Rattle.laws.specs.Reading.Relative.{lifts}
use Rattle.laws.specs.Reading.SeekHere.{high-split as right-split}
use Rattle.laws.specs.Shift.{drop-shift, owns-shift}

-- Soundness from inside a node: its pivots and suffixes are without what it lifts, and that is there only by its shape.
unfoldable pub message_here : Shape → List ℕ → List ℕ → Message → Bool
message_here sh lo hi (puts s v) = goes_on sh s && owns lo hi s && value_fits v
message_here sh lo hi (drops s) = goes_on sh s && owns lo hi s
message_here sh lo hi (clears s) = same s [] || goes_on sh s

unfoldable pub messages_here : Shape → List ℕ → List ℕ → List Message → Bool
messages_here sh lo hi [] = true
messages_here sh lo hi (m ∷ ms) = message_here sh lo hi m && messages_here sh lo hi ms

unfoldable mutual
  pub sound_here : Tree → Shape → List ℕ → List ℕ → Bool
  sound_here (unread i) sh lo hi = false
  sound_here (leaf i rs) sh lo hi = every_key (goes_on sh) rs && every_key (owns lo hi) rs && rising rs && values_fit rs
  sound_here (interior i f ms) sh lo hi = first_pivot [] lo f && sound_branches f sh lo hi && messages_here sh lo hi ms

  pub sound_branches : Forest → Shape → List ℕ → List ℕ → Bool
  sound_branches end sh lo hi = true
  sound_branches (tree s t f) sh lo hi =
      owns lo hi s && before s (high_of [] hi f)
      && sound_here t (feed sh (shared s (high_of [] hi f))) (drop (lifts s (high_of [] hi f)) s) (drop (lifts s (high_of [] hi f)) (high_of [] hi f))
      && sound_branches f sh lo hi

-- with the same bytes `prefix` in front of everything
module _ (prefix : List ℕ) where
  keys-shape : (rs : List Row) → every_key well_formed (under_prefix prefix rs) ≡ every_key (goes_on (feed fresh prefix)) rs
  unfolding every_key under_prefix
  keys-shape [] = refl
  keys-shape (r ∷ rs) = ap₂ (λ a b. a && b) (sym (shape-is prefix r.key)) (keys-shape rs)

  keys-owned : (lo hi : List ℕ) (rs : List Row) → every_key (owns (prefix ++ lo) (prefix ++ hi)) (under_prefix prefix rs) ≡ every_key (owns lo hi) rs
  unfolding every_key under_prefix
  keys-owned lo hi [] = refl
  keys-owned lo hi (r ∷ rs) = ap₂ (λ a b. a && b) (owns-shift prefix lo hi r.key) (keys-owned lo hi rs)

  high-under : (hi : List ℕ) (f : Forest) → high_of prefix (prefix ++ hi) f ≡ prefix ++ high_of [] hi f
  unfolding high_of
  high-under hi end = refl
  high-under hi (tree s t f) = refl

and3 : {a b c x y z : Bool} → a ≡ x → b ≡ y → c ≡ z → a && b && c ≡ x && y && z
and3 p q r = ap₂ (λ u v. u && v) (ap₂ (λ u v. u && v) p q) r

and4 : {a b c d x y z w : Bool} → a ≡ x → b ≡ y → c ≡ z → d ≡ w → a && b && c && d ≡ x && y && z && w
and4 p q r t = ap₂ (λ u v. u && v) (and3 p q r) t

message-here : (lo hi prefix lo' hi' : List ℕ) → shared lo hi ≡ prefix → prefix ++ lo' ≡ lo → prefix ++ hi' ≡ hi → (m : Message) → sound_message lo hi m ≡ message_here (feed fresh prefix) lo' hi' m
unfolding sound_message message_here
message-here lo hi prefix lo' hi' e a b (puts s v) =
    rw e (and3 (sym (shape-is prefix s)) (ap₂ (λ p q. owns p q (prefix ++ s)) (sym a) (sym b) ∙ owns-shift prefix lo' hi' s) refl)
message-here lo hi prefix lo' hi' e a b (drops s) =
    rw e (ap₂ (λ u v. u && v) (sym (shape-is prefix s)) (ap₂ (λ p q. owns p q (prefix ++ s)) (sym a) (sym b) ∙ owns-shift prefix lo' hi' s))
message-here lo hi prefix lo' hi' e a b (clears s) = rw e (ap (λ u. same s [] || u) (sym (shape-is prefix s)))

messages-here : (lo hi prefix lo' hi' : List ℕ) → shared lo hi ≡ prefix → prefix ++ lo' ≡ lo → prefix ++ hi' ≡ hi → (ms : List Message) → sound_messages lo hi ms ≡ messages_here (feed fresh prefix) lo' hi' ms
unfolding sound_messages messages_here
messages-here lo hi prefix lo' hi' e a b [] = refl
messages-here lo hi prefix lo' hi' e a b (m ∷ ms) = ap₂ (λ u v. u && v) (message-here lo hi prefix lo' hi' e a b m) (messages-here lo hi prefix lo' hi' e a b ms)

pivot-here : (prefix lo lo' : List ℕ) → prefix ++ lo' ≡ lo → (f : Forest) → first_pivot prefix lo f ≡ first_pivot [] lo' f
unfolding first_pivot
pivot-here prefix lo lo' a end = refl
pivot-here prefix lo lo' a (tree s t f) = ap (λ l. same (prefix ++ s) l) (sym a) ∙ same-append prefix s lo'

child-here : (prefix s h : List ℕ) (t : Tree)
    → sound_here t (feed fresh (shared (prefix ++ s) (prefix ++ h))) (drop (lifts (prefix ++ s) (prefix ++ h)) (prefix ++ s)) (drop (lifts (prefix ++ s) (prefix ++ h)) (prefix ++ h))
    ≡ sound_here t (feed (feed fresh prefix) (shared s h)) (drop (lifts s h) s) (drop (lifts s h) h)
unfolding lifts
child-here prefix s h t =
    rw (shared-append prefix s h, feed-append fresh prefix (shared s h), drop-shift prefix (shared s h) s, drop-shift prefix (shared s h) h)

left_split : (lo hi : List ℕ) → shared lo hi ++ drop (lifts lo hi) lo ≡ lo
unfolding lifts
left_split lo hi = begins-split (shared lo hi) lo (shared-left lo hi)

leaf-here : (i : ℕ) (rs : List Row) (lo hi prefix lo' hi' : List ℕ) → shared lo hi ≡ prefix → prefix ++ lo' ≡ lo → prefix ++ hi' ≡ hi → sound_tree (leaf i rs) lo hi ≡ sound_here (leaf i rs) (feed fresh prefix) lo' hi'
unfolding sound_tree sound_here
leaf-here i rs lo hi prefix lo' hi' e a b =
    rw e (and4 (keys-shape prefix rs) (ap₂ (λ p q. every_key (owns p q) (under_prefix prefix rs)) (sym a) (sym b) ∙ keys-owned prefix lo' hi' rs) refl refl)

mutual
  unfolding sound_tree sound_forest sound_here sound_branches

  -- A tree is sound between its pivots just when it is sound from inside its root.
  pub sound-here : (t : Tree) (lo hi : List ℕ) → sound_tree t lo hi ≡ sound_here t (feed fresh (shared lo hi)) (drop (lifts lo hi) lo) (drop (lifts lo hi) hi)
  sound-here (unread i) lo hi = refl
  sound-here (leaf i rs) lo hi = leaf-here i rs lo hi (shared lo hi) (drop (lifts lo hi) lo) (drop (lifts lo hi) hi) refl (left_split lo hi) (right-split lo hi)
  sound-here (interior i f ms) lo hi =
      and3 (pivot-here (shared lo hi) lo (drop (lifts lo hi) lo) (left_split lo hi) f)
      (ap₂ (λ a b. sound_forest f (shared lo hi) a b) (sym (left_split lo hi)) (sym (right-split lo hi)) ∙ sound-branches f (shared lo hi) (drop (lifts lo hi) lo) (drop (lifts lo hi) hi))
      (messages-here lo hi (shared lo hi) (drop (lifts lo hi) lo) (drop (lifts lo hi) hi) refl (left_split lo hi) (right-split lo hi) ms)

  pub sound-branches : (f : Forest) (prefix lo hi : List ℕ) → sound_forest f prefix (prefix ++ lo) (prefix ++ hi) ≡ sound_branches f (feed fresh prefix) lo hi
  sound-branches end prefix lo hi = refl
  sound-branches (tree s t f) prefix lo hi =
      rw (high-under prefix hi f)
      (and4 (owns-shift prefix lo hi s) (before-append prefix s (high_of [] hi f))
      (sound-here t (prefix ++ s) (prefix ++ high_of [] hi f) ∙ child-here prefix s (high_of [] hi f) t)
      (sound-branches f prefix lo hi))

-- at the root
pub sound-root : (t : Tree) (hi : List ℕ) → sound_tree t [] hi ≡ sound_here t fresh [] hi
unfolding lifts shared feed
sound-root t hi = sound-here t [] hi
